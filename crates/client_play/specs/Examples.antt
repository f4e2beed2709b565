-- Plays of small scripts, worked out by hand. RAM is shorter here: none of the scripts looks behind its first bytes.
use Rattle.std.specs.Prelude.{◌≡◌, ℕ, ◌-◌, Bool, true, List, [], ◌∷◌, ◌++◌, codes, length, map, replicate, take, Option, Some, None, is_some}
use Rattle.std.specs.List.{flat_map}
use Rattle.std.specs.Option.{option_map}
use Rattle.client_text.specs.declared.script.Script.{Script}
use Rattle.client_text.specs.declared.script.ScriptCall.{ScriptCall}
use Rattle.client_text.specs.declared.script.ScriptCall.TheVariants.{Open, Invoke, Close}
use Rattle.client_text.specs.declared.script.ScriptParam.TheVariants.{ValueInout}
use Rattle.job_model.specs.Point.{no_params}
use Rattle.kernel_model.specs.Worked.{add, app_with, boot, boot_with, uuid, wait_unmasked}
use Rattle.own_model.specs.Own.{own_app, own_replies}
use Rattle.own_model.specs.Parameters.{output_of}
use Rattle.own_model.specs.declared.own_reply.OwnReply.{OwnReply}
use Rattle.own_model.specs.declared.own_reply.OwnReply.TheVariants.{Ended}
use Rattle.rpc_msgs.specs.declared.rpc.Rpc.{Rpc}
use Rattle.rpc_msgs.specs.declared.rpc.Rpc.TheVariants.{Time, FsCreate, FsWrite}
use Rattle.rpc_msgs.specs.Request.{request_arg}
use Rattle.msg_args.specs.Spelling.{spelling}
use Rattle.ta_isa.specs.declared.image.Image.{Image}
use Rattle.ta_params.specs.declared.copied_params.GpParam.{GpParam}
use Rattle.ta_params.specs.declared.copied_params.GpParam.TheVariants.{Empty, Value, Memref}
use Rattle.ta_params.specs.declared.copied_params.Way.TheVariants.{In, Out, Inout}
use Rattle.client_play.specs.Message.{request_in}
use Rattle.client_play.specs.Outputs.{output_in_words}
use Rattle.client_play.specs.Played.{ClientPlay, played_over, text_of_play, text_of}
use Rattle.client_play.specs.Printed.{CallLine, param_text}

abbrev pub s : List ℕ
s = codes "s"

-- a session with the application is opened, and then these calls are made
abbrev pub script_of : List ScriptCall → Script
script_of calls = record { boot = None; fills = []; calls = Open s uuid [] ∷ calls }

-- on a core of one processor with two threads and a frame, over so many bytes of RAM
abbrev pub plays : ℕ → Image → List ScriptCall → Option ClientPlay
plays bytes image calls = played_over (replicate bytes 0) [] (boot_with 1 2 1 (app_with image ∷ [])) (script_of calls)

abbrev pub prints : ℕ → Image → List ScriptCall → Option (List ℕ)
prints bytes image calls = option_map text_of_play (plays bytes image calls)

-- these lines, each ended by a line feed
abbrev pub lines : List (List ℕ) → Option (List ℕ)
lines texts = Some (flat_map (λ text. text ++ 10 ∷ []) texts)

-- two numbers are added, and the session is closed
abbrev pub sum : List ScriptCall
sum = Invoke s 0 None (ValueInout 5 7 ∷ []) ∷ Close s ∷ []

-- where its lines begin and end in the history
abbrev pub places_in : ClientPlay → List (ℕ × ℕ)
places_in play = map (λ (line : CallLine). (line.from, line.to)) play.lines

-- what they have of the first parameter
abbrev pub first_outputs_in : ClientPlay → List GpParam
first_outputs_in play = map (λ (line : CallLine). output_of line.params.p0) play.lines

-- the first session is one of the application by its first event
abbrev pub is_opened_in : ClientPlay → Bool
is_opened_in play = is_some (own_app (boot 1 2 1 add) (take 1 play.history) 1)

-- what was replied there
abbrev pub replies_in : ClientPlay → List OwnReply
replies_in play = own_replies (boot 1 2 1 add) play.history 1

-- a message with a request that was written, and no other byte but zeros
abbrev pub message_with : Rpc → List ℕ → List ℕ
message_with rpc payload =
    let written = spelling (request_arg 0x40010000 1 rpc) in
    written ++ replicate (512 - length written) 0 ++ payload ++ replicate (3584 - length payload) 0

pub record Examples : Type 0 where
  -- two numbers are added
  pub adds : prints 256 add sum
      ≡ lines (codes "open s 00000000 00000004" ∷ codes "invoke s 00000000 00000004 v:0000000c:00000000"
      ∷ codes "close s 00000000 00000003" ∷ [])
  -- each call has an entry and an exit; the first entry opens the session, whose replies are the results that were printed
  pub places : option_map places_in (plays 256 add sum) ≡ Some ((0, 2) ∷ (2, 4) ∷ (4, 6) ∷ [])
  pub opens : option_map is_opened_in (plays 256 add sum) ≡ Some true
  pub replies : option_map replies_in (plays 256 add sum)
      ≡ Some (Ended 0 4 no_params ∷ Ended 0 4 (record no_params { p0 = Value Inout 12 0 }) ∷ Ended 0 3 no_params ∷ [])
  -- and what the lines have of the first parameter, which is what the replies tell
  pub outputs : option_map first_outputs_in (plays 256 add sum) ≡ Some (Empty ∷ Value Inout 12 0 ∷ Empty ∷ [])
  -- a session that was closed, and a name that was not opened
  pub closed : prints 256 add (Close s ∷ Invoke s 0 None (ValueInout 5 7 ∷ []) ∷ [])
      ≡ lines (codes "open s 00000000 00000004" ∷ codes "close s 00000000 00000003" ∷ codes "invoke s ffff0006 00000003" ∷ [])
  -- one that is cancelled
  pub cancelled : prints 4128 wait_unmasked (Invoke s 0xfa (Some 1) [] ∷ [])
      ≡ lines (codes "open s 00000000 00000004" ∷ codes "invoke s ffff0002 00000004" ∷ [])
  -- a script without a boot
  pub nothing : text_of [] (script_of []) ≡ Some []
  -- messages
  pub holds_time : request_in (message_with Time []) ≡ Some (Time, [])
  pub holds_create : request_in (message_with (FsCreate s) s) ≡ Some (FsCreate s, s)
  pub holds_write : request_in (message_with (FsWrite 3 8 2) (7 ∷ 9 ∷ [])) ≡ Some (FsWrite 3 8 2, 7 ∷ 9 ∷ [])
  pub holds_none : request_in (replicate 4096 0) ≡ None
  -- parameters
  pub value : param_text (Value Out 10 0xff) ≡ codes " v:0000000a:000000ff"
  pub input : param_text (Value In 10 0xff) ≡ []
  pub memory : param_text (Memref Inout (1 ∷ 2 ∷ 3 ∷ []) 2) ≡ codes " m:2:0102"
  pub too_large : param_text (Memref Out (1 ∷ 2 ∷ 3 ∷ []) 4) ≡ codes " m:4:"
  -- what is told of them
  pub told_input : output_of (Value In 10 0xff) ≡ Empty
  pub told_memory : output_of (Memref Inout (1 ∷ 2 ∷ 3 ∷ []) 2) ≡ Memref Inout (1 ∷ 2 ∷ []) 2
  pub told_larger : output_of (Memref Out (1 ∷ 2 ∷ 3 ∷ []) 4) ≡ Memref Out [] 4
  pub value_in_words : output_in_words (Value Out 0x10000000c 0xff) ≡ Value Out 12 0xff
  -- a size of 2^32 + 4 would be told as 4
  pub memory_in_words : output_in_words (Memref Out [] 0x100000004) ≡ Memref Out [] 4

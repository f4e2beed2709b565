-- The play of a client's script, and its text: one call after the other, on the core of its boot, by one client with its
-- supplicant. This project's own.
use Rattle.std.specs.Prelude.{ℕ, ◌<◌, List, [], ◌∷◌, ◌++◌, length, Option, Some, None}
use Rattle.std.specs.List.{flat_map}
use Rattle.std.specs.Option.{option_and_then, option_map}
use Rattle.base.specs.Zeros.{zeros}
use Rattle.event_journal.specs.declared.event.Event.{Event}
use Rattle.client_text.specs.declared.script.Script.{Script}
use Rattle.client_text.specs.declared.script.ScriptCall.{ScriptCall}
use Rattle.kernel_model.specs.Application.{Booted, Native, booted}
use Rattle.kernel_model.specs.Kernel.{first_kernel}
use Rattle.play_model.specs.Play.{filled}
use Rattle.supplicant.specs.Supplicant.{Storage}
use Rattle.ta_isa.specs.declared.boot.Boot.{Boot}
use Rattle.teec.specs.Results.{result_in}
use Rattle.client_play.specs.Calls.{Sessions, call_of, cancelled_after, params_after, session_for, sessions_after}
use Rattle.client_play.specs.Printed.{CallLine, text_of_line}
use Rattle.client_play.specs.Standing.{Came, Fails, Returned, Standing, Stopped, called}

-- ---- between two calls

pub record Client : Type 0 where
  pub standing : Standing
  -- how many more SMCs it makes
  pub room : ℕ
  pub sessions : Sessions
  -- what was printed
  pub lines : List CallLine

-- a client makes so many SMCs at most
abbrev pub most_smcs : ℕ
most_smcs = 32768

-- a supplicant without files
abbrev pub no_storage : Storage
no_storage = record { files = []; descriptors = []; times = 0 }

-- a core as it boots, over RAM that a script has filled
abbrev pub first_standing : List ℕ → Booted → Script → Standing
first_standing ram boot script =
    record { kernel = first_kernel boot; history = []; ram = filled ram script.fills; storage = no_storage }

-- before the first call
abbrev pub first_client : Standing → Client
first_client standing = record { standing = standing; room = most_smcs; sessions = []; lines = [] }

-- the line of a call that has ended so
abbrev pub line_of : Client → ScriptCall → Standing → CallLine
line_of client call after =
    record {
      call = call;
      session = session_for client.sessions call after.ram;
      result = result_in after.ram;
      params = params_after call after.ram;
      from = length client.standing.history;
      to = length after.history;
    }

-- the client after a call that has ended so
abbrev pub after_call : Client → ScriptCall → ℕ → Standing → Client
after_call client call room after =
    record {
      standing = after;
      room = room;
      sessions = sessions_after client.sessions call after.ram;
      lines = client.lines ++ line_of client call after ∷ [];
    }

-- ---- scripts

-- what a script comes to
pub record ClientPlay : Type 0 where
  -- the core's history: all entries and exits
  pub history : List Event
  -- a line of each call that has ended
  pub lines : List CallLine
  -- where there was no room for an SMC, which ends it: how many bytes its entry would have read, or 0 where as many SMCs were
  -- made as a client makes
  pub stopped : Option ℕ

abbrev pub ended : Client → ClientPlay
ended client = record { history = client.standing.history; lines = client.lines; stopped = None }

-- by what a call comes to. None where it fails, as none does on a core
abbrev pub goes_on : (Client → Option ClientPlay) → Client → ScriptCall → Came → Option ClientPlay
goes_on onward client call (Returned room after) = onward (after_call client call room after)
goes_on onward client call (Stopped more history) = Some (record { history = history; lines = client.lines; stopped = Some more })
goes_on onward client call (Fails fault) = None

abbrev pub call_made : Booted → Client → ScriptCall → Option Came
call_made boot client call =
    called boot (cancelled_after call) (call_of client.sessions call) client.room client.standing

-- calls in their order
abbrev pub calls_made : Booted → List ScriptCall → Client → Option ClientPlay
calls_made boot [] client = Some (ended client)
calls_made boot (call ∷ calls) client =
    option_and_then (goes_on (λ next. calls_made boot calls next) client call) (call_made boot client call)

-- the play of a script that has this boot, beside built-in applications, over RAM that is this at first
abbrev pub played_over : List ℕ → List Native → Boot → Script → Option ClientPlay
played_over ram natives boot script =
    let on = booted boot natives in
    calls_made on script.calls (first_client (first_standing ram on script))

-- over RAM of zeros
abbrev pub played : List Native → Boot → Script → Option ClientPlay
played natives boot script = played_over (zeros 0x400000) natives boot script

-- ---- texts

abbrev pub text_of_play : ClientPlay → List ℕ
text_of_play play = flat_map text_of_line play.lines

-- with no boot there is nothing to play
abbrev pub text_by : List Native → Script → Option Boot → Option (List ℕ)
text_by natives script None = Some []
text_by natives script (Some boot) = option_map text_of_play (played natives boot script)

abbrev pub text_of : List Native → Script → Option (List ℕ)
text_of natives script = text_by natives script script.boot

-- where the play of the script stops for want of room
abbrev pub stopped_by : List Native → Script → Option Boot → Option ℕ
stopped_by natives script None = None
stopped_by natives script (Some boot) = option_and_then (λ play. play.stopped) (played natives boot script)

abbrev pub stopped_in : List Native → Script → Option ℕ
stopped_in natives script = stopped_by natives script script.boot

-- more calls than a script is served with
abbrev pub HasTooManyCalls : Script → Type 0
HasTooManyCalls script = 512 < length script.calls

-- Conversations of a few lines, and how they go.
use Rattle.std.specs.Prelude.{◌≡◌, ℕ, ◌+◌, ◌^◌, List, [], ◌∷◌, ◌++◌, codes, map, replicate, Some}
use Rattle.std.specs.List.{flat_map}
use Rattle.event_journal.specs.declared.event.Event.TheVariants as event
use Rattle.line_port.specs.History.{Event, Hears, Input, Says}
use Rattle.line_port.specs.History as heard
use Rattle.notify_play.specs.Examples.{echo, natives}
use Rattle.notify_text.specs.Rules.{no_lines}
use Rattle.trace_text.specs.declared.fault.BadKind.TheVariants as bad
use Rattle.line_port.specs.declared.finish.Finish.{Finish}
use Rattle.line_port.specs.declared.finish.Finish.TheVariants as finish
use Rattle.live_play.specs.Answer.{Bad, Done, Full, Platform, text_of_ending}
use Rattle.live_play.specs.Conversation.{IsConversation, conversation, status}
use Rattle.live_play.specs.Returns.{AsksNothing}

-- RAM is shorter here: none of the lines looks behind its first bytes
abbrev pub on : Platform
on = record { natives = natives; drivers = echo; ram = replicate 64 0; most_bytes = 2 ^ 28 }

-- a line that is heard, and the lines that are said to it
pub record Turn : Type 0 where
  pub hears : Input
  pub says : List (List ℕ)

abbrev pub turn : List ℕ → List (List ℕ) → Turn
turn line says = record { hears = heard.Line line; says = says }

abbrev pub ok : List (List ℕ)
ok = codes "ok" ∷ []

abbrev pub events_of : List Turn → List Event
events_of [] = []
events_of (t ∷ turns) =
    Hears t.hears ∷ Says (flat_map (λ (line : List ℕ). line ++ 10 ∷ []) t.says) ∷ events_of turns

abbrev pub inputs_of : List Turn → List Input
inputs_of turns = map (λ (t : Turn). t.hears) turns

-- the conversation goes so
abbrev pub Goes : List Turn → Type 0
Goes turns = conversation on no_lines (inputs_of turns) ≡ events_of turns

abbrev pub zeros_told : List ℕ
zeros_told = codes "ret 0 00000000 00000000 00000000 00000000 00000000 00000000 00000000 00000000"

abbrev pub uid_told : ℕ → List ℕ
uid_told cpu =
    codes "ret " ++ (48 + cpu) ∷ codes " 384fb3e0 e7f811e3 af630002 a5d5c51b 00000000 00000000 00000000 00000000"

abbrev pub hears : List ℕ → Event
hears line = Hears (heard.Line line)

abbrev pub said_ok : Event
said_ok = Says (codes "ok" ++ 10 ∷ [])

-- a conversation of these events ends so
abbrev pub Ends : List Event → Finish → Type 0
Ends events finish = IsConversation on (Some []) (Some events) finish

-- no exit asks anything of the desk, where a processor goes in with this function id and out with zeros
abbrev pub AsksNothingAs : ℕ → Type 0
AsksNothingAs id = AsksNothing (
    event.Entry 0 (record { a = id ∷ replicate 7 0 }) 1 [] ∷ event.Exit 0 (record { a = replicate 8 0 }) ∷ [])

pub record Examples : Type 0 where
  pub nothing : Goes []
  -- bad lines change nothing, and the conversation goes on
  pub of_a_page : Goes (
      turn (codes "boot 1 1 1") ok
      ∷ turn (codes "smc 0 1 bf00ff01 0 0 0 0 0 0 0")
      (codes "ret 0 384fb3e0 e7f811e3 af630002 a5d5c51b 00000000 00000000 00000000 00000000" ∷ ok)
      ∷ turn (codes "smc 0 1 bf00ff01") (codes "bad count" ∷ [])
      ∷ turn (codes "enter 0 1 b2000009 0 0 0 0 0 0 0") ok
      ∷ turn (codes "enter 0 1 b2000009 0 0 0 0 0 0 0") (codes "bad inside" ∷ [])
      ∷ turn (codes "boot 1 1 1") (codes "bad place" ∷ [])
      ∷ turn (codes "leave 0")
      (codes "ret 0 00000000 00000074 0000003f 00000004 00000000 00000000 00000000 00000000" ∷ ok)
      ∷ [])
  -- before the boot there are comments, empty lines and bad lines
  pub before_the_boot : Goes (
      turn (codes "# nothing yet") ok
      ∷ turn [] ok
      ∷ turn (codes "leave 0") (codes "bad place" ∷ [])
      ∷ turn (codes "signal 5") (codes "bad place" ∷ [])
      ∷ turn (codes "boot 1 1") (codes "bad count" ∷ [])
      ∷ turn (codes "boot 1 1 1") ok
      ∷ [])
  -- a signal is told to who asks for it, and is no line of the header
  pub of_a_signal : Goes (
      turn (codes "boot 1 1 1") ok
      ∷ turn (codes "mem 40000000 00ff") ok
      ∷ turn (codes "signal 5") ok
      ∷ turn (codes "mem 40000000 ff00") (codes "bad place" ∷ [])
      ∷ turn (codes "show 0 40000000 2") (codes "mem 0 40000000 00ff" ∷ ok)
      ∷ turn (codes "smc 0 1 b2000010 0 0 0 0 0 0 0") (zeros_told ∷ ok)
      ∷ turn (codes "signal 64") (codes "bad range" ∷ [])
      ∷ turn (codes "signal 9") ok
      ∷ turn (codes "smc 0 1 b2000011 0 0 0 0 0 0 0")
      (codes "ret 0 00000000 00000009 00000001 00000000 00000000 00000000 00000000 00000000" ∷ ok)
      ∷ [])
  -- a line may name a register of what was told before it
  pub of_a_last_answer : Goes (
      turn (codes "boot 1 2 1") ok
      ∷ turn (codes "smc 0 1 b2000010 0 0 0 0 0 0 0") (zeros_told ∷ ok)
      ∷ turn (codes "signal 9") ok
      ∷ turn (codes "smc 0 1 b2000011 0 0 0 0 0 0 0")
      (codes "ret 0 00000000 00000009 00000001 00000000 00000000 00000000 00000000 00000000" ∷ ok)
      ∷ turn (codes "smc 0 1 99 0 0 0 =1 0 0 0")
      (codes "ret 0 ffffffff 00000000 00000000 00000000 00000009 00000000 00000000 00000000" ∷ ok)
      ∷ [])
  -- a line that is too long, and an input that ends within a line
  pub of_no_line : Goes (
      turn (codes "boot 1 1 1") ok
      ∷ record { hears = heard.Long; says = codes "bad long" ∷ [] }
      ∷ turn (codes "show 0 40000000 1") (codes "mem 0 40000000 00" ∷ ok)
      ∷ record { hears = heard.Cut; says = codes "bad cut" ∷ [] }
      ∷ [])
  -- each rule of a line broken in the midst, and a header line behind them
  pub of_rules : Goes (
      turn (codes "boot 9 1 1") (codes "bad range" ∷ [])
      ∷ turn (codes "boot 1 1 1") ok
      ∷ turn (codes "smc 0 1 bf00ff01") (codes "bad count" ∷ [])
      ∷ turn (codes "smc 1 1 99 0 0 0 0 0 0 0") (codes "bad cpu" ∷ [])
      ∷ turn (codes "smc 0 x 99 0 0 0 0 0 0 0") (codes "bad number" ∷ [])
      ∷ turn (codes "leave 0") (codes "bad inside" ∷ [])
      ∷ turn (codes "reboot") (codes "bad item" ∷ [])
      ∷ turn (200 ∷ []) (codes "bad byte" ∷ [])
      ∷ turn (codes "ta 1 00") (codes "bad uuid" ∷ [])
      ∷ turn (codes "signal 0") (codes "bad range" ∷ [])
      ∷ turn (codes "mem 40000000 00ff") ok
      ∷ turn (codes "key 000102030405060708090a0b0c0d0e0f101112131415161718191a1b1c1d1e1f") ok
      ∷ turn (codes "key 000102030405060708090a0b0c0d0e0f101112131415161718191a1b1c1d1e1f") (codes "bad place" ∷ [])
      ∷ turn (codes "signal 63") ok
      ∷ [])
  -- two processors inside
  pub of_two : Goes (
      turn (codes "boot 2 2 2") ok
      ∷ turn (codes "enter 0 1 bf00ff01 0 0 0 0 0 0 0") ok
      ∷ turn (codes "enter 1 1 bf00ff01 0 0 0 0 0 0 0") ok
      ∷ turn (codes "leave 1") (uid_told 1 ∷ ok)
      ∷ turn (codes "leave 0") (uid_told 0 ∷ ok)
      ∷ [])
  -- a signal that comes while a processor is inside that asks for it
  pub of_a_late_signal : Goes (
      turn (codes "boot 1 1 1") ok
      ∷ turn (codes "smc 0 1 b2000010 0 0 0 0 0 0 0") (zeros_told ∷ ok)
      ∷ turn (codes "enter 0 1 b2000011 0 0 0 0 0 0 0") ok
      ∷ turn (codes "signal 9") ok
      ∷ turn (codes "leave 0")
      (codes "ret 0 00000000 00000009 00000001 00000000 00000000 00000000 00000000 00000000" ∷ ok)
      ∷ [])
  -- how conversations end
  pub nothing_heard : Ends [] finish.Over
  pub over : Ends (hears (codes "# a") ∷ said_ok ∷ []) finish.Over
  pub over_inside : Ends (
      hears (codes "boot 1 1 1") ∷ said_ok ∷ hears (codes "enter 0 1 bf00ff01 0 0 0 0 0 0 0") ∷ said_ok ∷ []) finish.Over
  pub unread : Ends (hears (codes "# a") ∷ said_ok ∷ []) finish.ReadFault
  pub half_said : Ends (hears (codes "# a") ∷ Says (codes "o") ∷ []) finish.WriteFault
  pub without_answer : Ends (hears (codes "# a") ∷ []) finish.Memory
  -- and how they don't
  pub left_out : Ends (hears (codes "# a") ∷ []) finish.Over → ⊥
  pub late : Ends (hears (codes "# a") ∷ hears (codes "# b") ∷ said_ok ∷ said_ok ∷ []) finish.Over → ⊥
  pub twice : Ends (hears (codes "# a") ∷ said_ok ∷ said_ok ∷ []) finish.Over → ⊥
  pub wrong : Ends (hears (codes "leave 0") ∷ said_ok ∷ []) finish.Over → ⊥
  pub statuses : status finish.Over ≡ 0
  pub status_unread : status finish.ReadFault ≡ 4
  pub status_unsaid : status finish.WriteFault ≡ 5
  pub status_memory : status finish.Memory ≡ 6
  pub done : text_of_ending Done ≡ codes "ok" ++ 10 ∷ []
  pub broken : text_of_ending (Bad bad.Inside) ≡ codes "bad inside" ++ 10 ∷ []
  pub full : text_of_ending (Full 268435456) ≡ codes "full 268435456" ++ 10 ∷ []
  -- which calls the desk has a part in
  pub uid : AsksNothingAs 0xbf00ff01
  pub enable : AsksNothingAs 0xb2000010 → ⊥
  pub capabilities : AsksNothingAs 0xb2000009 → ⊥

-- Conversations in which lines ask, and the lines of what is kept.
use Rattle.std.specs.Prelude.{◌≡◌, ℕ, ◌+◌, List, [], ◌∷◌, ◌++◌, Bool, true, false, codes, replicate, Option, None, Some}
use Rattle.std.specs.List.{flat_map}
use Rattle.job_model.specs.Job.{Job, Machine, Native}
use Rattle.job_model.specs.Point.{no_params}
use Rattle.job_model.specs.declared.call_kind.CallKind.TheVariants.{Invoke}
use Rattle.job_model.specs.declared.entry_point.EntryPoint.{EntryPoint}
use Rattle.kernel_model.specs.Kernel.{Active, Asks, CallPhase, Free, Instance, PendingCall, Runs, Suspended, Tables, Untold, Waits, first_tables}
use Rattle.native_tas.specs.declared.relation.Relation.{Relation}
use Rattle.rpc_msgs.specs.declared.rpc.Rpc.TheVariants.{Suspend}
use Rattle.rpc_msgs.specs.declared.rpc_buffer.RpcBuffer.{RpcBuffer}
use Rattle.session_table.specs.Examples.{public}
use Rattle.session_table.specs.Session.{opened_with, reserved_for}
use Rattle.shm_registry.specs.Registered.{Registered}
use Rattle.ta_isa.specs.declared.image.Image.{Image}
use Rattle.ta_step.specs.State.{State}
use Rattle.live_play.specs.Changes.{changes, text_of_changes}
use Rattle.live_play.specs.Copies.{copy_behind, watches}
use Rattle.live_play.specs.Examples.{Turn, events_of, inputs_of, ok, on, turn, uid_told, zeros_told}
use Rattle.live_play.specs.Panicking.{panic_line}
use Rattle.live_play.specs.Showing.{first_position, showing, within}
use Rattle.live_play.specs.State.{buffer_lines, instance_line, instance_lines, masked_line, session_line, slot_line, state_text}

-- a conversation in which lines may ask goes so
abbrev pub GoesSo : List Turn → Type 0
GoesSo turns = showing on first_position (inputs_of turns) ≡ events_of turns

-- and so it goes where all entries may read no byte
abbrev pub GoesSoWithoutBytes : List Turn → Type 0
GoesSoWithoutBytes turns = showing (within on 0) first_position (inputs_of turns) ≡ events_of turns

-- nothing is kept, and so many events have come
abbrev pub nothing_kept : ℕ → List (List ℕ)
nothing_kept events = codes "sessions 0" ∷ codes "buffers 0" ∷ codes "pages 3" ∷ (codes "events " ++ (48 + events) ∷ []) ∷ codes "copied 0" ∷ ok

-- a call that waits for its instance, with a buffer or none, cancelled or not
abbrev pub waiting : Option RpcBuffer → Bool → PendingCall
waiting buffer marked = record {
  client = 7;
  kind = Invoke 2;
  settled = Untold;
  uuid = Some (replicate 16 17);
  arg = 0x40000000;
  area = None;
  places = [];
  session = 3;
  instance = 2;
  cancel_id = 0;
  marked = marked;
  seen = false;
  steps = 0;
  buffer = buffer;
  phase = Waits no_params;
}

-- such a call that has come so far
abbrev pub come_to : CallPhase → PendingCall
come_to phase = record (waiting None false) { phase = phase }

-- a job of an image, with its machine masked or not
abbrev pub with_mask : Bool → Job → Image → EntryPoint → State → Job
with_mask masked job image point machine = record job { body = Machine image point (record machine { masked = masked }) }

-- lines, each with its line feed
abbrev pub lines_of : List (List ℕ) → List ℕ
lines_of lines = flat_map (λ (line : List ℕ). line ++ 10 ∷ []) lines

-- an instance, dead or alive, which a call of this slot holds, or none
abbrev pub instance : Bool → Option ℕ → Instance
instance dead holder = record { uuid = replicate 16 17; dead = dead; holder = holder; memory = []; objects = [] }

-- session 2 is being opened, and its open waits; the instance that it is to be of, the first one, has gone
abbrev pub left_behind : Tables
left_behind = record first_tables {
  sessions = (2, reserved_for 7 public 1) ∷ [];
  waiters = record { instance = 1; uuid = replicate 16 17; slot = 1 } ∷ [];
  next_session = 3;
  next_instance = 2;
}

-- a buffer that begins six bytes before its first page ends, which slots 1 and 3 pin
abbrev pub pinned : Registered
pinned = record {
  buffers = (26, record { pages = 0x40003000 ∷ 0x40001000 ∷ 0x40005000 ∷ []; offset = 4090; size = 4106 }) ∷ [];
  pins = record { cookie = 26; slot = 3 } ∷ record { cookie = 26; slot = 1 } ∷ [];
}

-- a call whose argument is zeros
abbrev pub zeros_call : List ℕ
zeros_call = codes "smc 0 1 32000004 0 40000000 0 0 0 0 0"

-- each exit is watched, RAM has bytes from the header on, and a line writes
abbrev pub copied_turns : List Turn
copied_turns =
    turn (codes "watch on") ok
    ∷ turn (codes "boot 1 1 1") ok
    ∷ turn (codes "mem 4000003e 00ff") ok
    ∷ turn zeros_call (zeros_told ∷ codes "wrote 0 40000000 00000000000000000000000000000000000000000600ffff030000000000000000000000000000000000000000000000000000000000000000000000000000ff" ∷ ok)
    ∷ turn (codes "write 0 40000030 07") ok
    ∷ turn (codes "write 0 3fffffff 07") (codes "bad range" ∷ [])
    ∷ turn (codes "show 0 40000000 1") (codes "mem 0 40000000 00" ∷ ok)
    ∷ []

pub record ShowingExamples : Type 0 where
  -- a question needs a boot before it, changes nothing, and leaves the header open
  pub of_a_state : GoesSo (
      turn (codes "state") (codes "bad place" ∷ [])
      ∷ turn (codes "watch on") ok
      ∷ turn (codes "boot 1 2 3") ok
      ∷ turn (codes "state") (codes "slot 0 free" ∷ codes "slot 1 free" ∷ nothing_kept 0)
      ∷ turn (codes "mem 40000000 00ff") ok
      ∷ turn (codes "enter 0 1 bf00ff01 0 0 0 0 0 0 0") ok
      ∷ turn (codes "state") (codes "slot 0 free" ∷ codes "slot 1 free" ∷ codes "inside 0" ∷ nothing_kept 1)
      ∷ turn (codes "state it") (codes "bad count" ∷ [])
      ∷ turn (codes "watch it") (codes "bad item" ∷ [])
      ∷ turn (codes "leave 0") (uid_told 0 ∷ ok)
      ∷ turn (codes "show 0 40000000 2") (codes "mem 0 40000000 00ff" ∷ ok)
      ∷ [])
  -- what isn't kept is answered by no line
  pub of_events : GoesSo (
      turn (codes "boot 1 1 1") ok
      ∷ turn (codes "events 0 1024") ok
      ∷ turn (codes "smc 0 1 bf00ff01 0 0 0 0 0 0 7")
      (codes "ret 0 384fb3e0 e7f811e3 af630002 a5d5c51b 00000000 00000000 00000000 00000007" ∷ ok)
      ∷ turn (codes "events 0 1")
      (codes "entry 0 1 bf00ff01 00000000 00000000 00000000 00000000 00000000 00000000 00000007 0" ∷ ok)
      ∷ turn (codes "events 1 1024")
      (codes "exit 0 384fb3e0 e7f811e3 af630002 a5d5c51b 00000000 00000000 00000000 00000007" ∷ ok)
      ∷ turn (codes "events 2 1") ok
      ∷ turn (codes "events 0 0") (codes "bad range" ∷ [])
      ∷ turn (codes "session 1") ok
      ∷ turn (codes "buffer 1a") ok
      ∷ [])
  -- an exit that is watched writes the result of its call; the next one writes the same bytes; and one more isn't watched
  pub of_watched_exits : GoesSo (
      turn (codes "watch on") ok
      ∷ turn (codes "boot 1 1 1") ok
      ∷ turn zeros_call (zeros_told ∷ codes "wrote 0 40000000 00000000000000000000000000000000000000000600ffff03000000000000000000000000000000000000000000000000000000000000000000000000000000" ∷ ok)
      ∷ turn zeros_call (zeros_told ∷ ok)
      ∷ turn (codes "watch off") ok
      ∷ turn (codes "write 0 40000014 00") ok
      ∷ turn zeros_call (zeros_told ∷ ok)
      ∷ [])
  -- who keeps a copy has RAM behind such an exit, and behind a line that writes
  pub of_copied_turns : GoesSo copied_turns
  pub of_copied_exits : watches on first_position (inputs_of copied_turns) ≡ true
  pub of_a_copy : copy_behind on first_position (inputs_of copied_turns) []
      ≡ (replicate 20 0 ++ (6 ∷ 0 ∷ 255 ∷ 255 ∷ 3 ∷ (replicate 23 0 ++ (7 ∷ (replicate 14 0 ++ 255 ∷ []))))) ∷ []
  -- but not behind one that isn't watched
  pub of_no_copy : watches on first_position (inputs_of (turn (codes "boot 1 1 1") ok ∷ turn zeros_call (zeros_told ∷ ok) ∷ [])) ≡ false
  -- history is turned off once, before the boot; then no events are told, and their count is as it was
  pub of_history_off : GoesSo (
      turn (codes "history on") (codes "bad item" ∷ [])
      ∷ turn (codes "history off") ok
      ∷ turn (codes "history off") (codes "bad repeat" ∷ [])
      ∷ turn (codes "events 0 1") (codes "bad place" ∷ [])
      ∷ turn (codes "boot 1 1 3") ok
      ∷ turn (codes "history off") (codes "bad place" ∷ [])
      ∷ turn (codes "smc 0 1 bf00ff01 0 0 0 0 0 0 0") (uid_told 0 ∷ ok)
      ∷ turn (codes "events 0 1") (codes "bad place" ∷ [])
      ∷ turn (codes "state") (codes "slot 0 free" ∷ nothing_kept 2)
      ∷ [])
  -- an entry that reads more than entries may is refused, and where history is off none is
  pub of_a_limit : GoesSoWithoutBytes (
      turn (codes "boot 1 1 1") ok ∷ turn zeros_call (codes "full 0" ∷ []) ∷ turn zeros_call (codes "full 0" ∷ []) ∷ [])
  pub of_no_limit : GoesSoWithoutBytes (
      turn (codes "history off") ok ∷ turn (codes "boot 1 1 1") ok ∷ turn zeros_call (zeros_told ∷ ok) ∷ [])
  -- slots
  pub free : slot_line 0 Free ≡ codes "slot 0 free" ++ 10 ∷ []
  pub active : slot_line 15 (Active 3 (waiting None true)) ≡ codes "slot 15 active 3" ++ 10 ∷ []
  pub suspended : slot_line 1 (Suspended 7 (waiting None false)) ≡ codes "slot 1 waits client 7 session 3 instance 2" ++ 10 ∷ []
  pub cancelled : slot_line 1 (Suspended 7 (waiting (Some (record { addr = 0x40010000; cookie = 26 })) true))
      ≡ codes "slot 1 waits client 7 session 3 instance 2 buffer 40010000 000000000000001a cancelled" ++ 10 ∷ []
  pub asks : (job : Job) → slot_line 1 (Suspended 7 (record (waiting None false) { phase = Asks job (Suspend 250) [] }))
      ≡ codes "slot 1 asks client 7 session 3 instance 2 wants suspend" ++ 10 ∷ []
  -- masks: of a call that runs or asks, as its machine is, and of no other
  pub runs_masked : (job : Job) (image : Image) (point : EntryPoint) (machine : State) →
      masked_line 1 (Suspended 7 (come_to (Runs (with_mask true job image point machine)))) ≡ codes "masked 1" ++ 10 ∷ []
  pub asks_masked : (job : Job) (image : Image) (point : EntryPoint) (machine : State) →
      masked_line 15 (Suspended 7 (come_to (Asks (with_mask true job image point machine) (Suspend 250) [])))
      ≡ codes "masked 15" ++ 10 ∷ []
  pub asks_unmasked : (job : Job) (image : Image) (point : EntryPoint) (machine : State) →
      masked_line 15 (Suspended 7 (come_to (Asks (with_mask false job image point machine) (Suspend 250) []))) ≡ []
  pub native : (job : Job) (relation : Relation) →
      masked_line 1 (Suspended 7 (come_to (Runs (record job { body = Native relation 3 })))) ≡ []
  pub waits : masked_line 1 (Suspended 7 (waiting None true)) ≡ []
  pub out : (call : PendingCall) → masked_line 1 (Active 0 call) ≡ []
  -- they stand behind all slots
  pub behind_slots : (job : Job) (image : Image) (point : EntryPoint) (machine : State) →
      state_text (record { cpus = 2; threads = 2; frames = 1; apps = []; key = [] })
      (record {
        slots = Suspended 7 (come_to (Runs (with_mask true job image point machine))) ∷ Free ∷ [];
        processors = [];
        tables = first_tables;
      }) []
      ≡ lines_of (codes "slot 0 runs client 7 session 3 instance 2" ∷ codes "slot 1 free" ∷ codes "masked 0"
      ∷ codes "sessions 0" ∷ codes "buffers 0" ∷ codes "pages 1" ∷ codes "events 0" ∷ codes "copied 0" ∷ [])
  -- instances, and sessions
  pub held : instance_line left_behind 1 (instance false (Some 15))
      ≡ codes "instance 1 11111111-1111-1111-1111-111111111111 users 1 held 15 alive" ++ 10 ∷ []
  pub idle : instance_line left_behind 2 (instance true None)
      ≡ codes "instance 2 11111111-1111-1111-1111-111111111111 users 0 idle dead" ++ 10 ∷ []
  pub all_kept : instance_lines (record first_tables { instances = (2, instance true None) ∷ (9, instance false (Some 0)) ∷ [] })
      ≡ lines_of (codes "instance 2 11111111-1111-1111-1111-111111111111 users 0 idle dead"
      ∷ codes "instance 9 11111111-1111-1111-1111-111111111111 users 0 held 0 alive" ∷ [])
  pub opening : session_line 2 (reserved_for 7 public 1) ≡ codes "session 2 client 7 instance 1 opening" ++ 10 ∷ []
  pub opened : session_line 3 (opened_with (reserved_for 0 public 1) 20) ≡ codes "session 3 client 0 instance 1 opened" ++ 10 ∷ []
  -- the session of an open that waits is kept, though its instance isn't
  pub left : state_text (record { cpus = 2; threads = 3; frames = 1; apps = []; key = [] })
      (record { slots = []; processors = []; tables = left_behind }) []
      ≡ lines_of (codes "sessions 1" ∷ codes "buffers 0" ∷ codes "pages 1" ∷ codes "events 0" ∷ codes "copied 0" ∷ [])
  -- a registered buffer, which has a part in each of three pages
  pub buffer : buffer_lines pinned 26 ≡ lines_of (
      codes "buffer 000000000000001a pinned 1"
      ∷ codes "piece 40003ffa 6"
      ∷ codes "piece 40001000 4096"
      ∷ codes "piece 40005000 4"
      ∷ [])
  -- a panic
  pub panicked : panic_line 5 ≡ codes "panic 00000005" ++ 10 ∷ []
  -- changes in RAM: nothing; a byte of the second block of two, where its first one is as it was
  pub unchanged : changes (replicate 128 0) (replicate 128 0) ≡ []
  pub changed : text_of_changes 1 (changes (replicate 128 0) (replicate 65 0 ++ 255 ∷ replicate 62 0))
      ≡ codes "wrote 1 40000040 00ff0000000000000000000000000000000000000000000000000000000000000000000000000000000000000000000000000000000000000000000000000000" ++ 10 ∷ []

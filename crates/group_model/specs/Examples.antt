-- What happens to groups of small boots and what they are answered, worked out by hand, and what their machines answer.
use Rattle.std.specs.Prelude.{◌≡◌, ℕ, Bool, false, true, List, [], ◌∷◌, ◌++◌, Option, Some, None, drop, is_some, map, replicate}
use Rattle.std.specs.Option.{option_map, option_and_then}
use Rattle.base.specs.NumberMap.{get}
use Rattle.event_journal.specs.declared.event.Event.{Event}
use Rattle.job_model.specs.Point.{no_params}
use Rattle.kernel_model.specs.Application.{Application, Booted, booted}
use Rattle.kernel_model.specs.AreaExamples.{area_call}
use Rattle.kernel_model.specs.Instances.{app_of}
use Rattle.kernel_model.specs.Kernel.{Kernel}
use Rattle.kernel_model.specs.Worked.{Move, Comes, Leaves, add, adds, app_with, argument, boot, boot_with, call, call_of, cancels}
use Rattle.kernel_model.specs.Worked.{closes, create_fails, flagged, head, history_of, invokes, invokes_by, mark, open_argument}
use Rattle.kernel_model.specs.Worked.{open_panics, opens, panic, param, resume, resume_of, uuid, wait, wait_unmasked}
use Rattle.ns_ram.specs.declared.read.Read.{Read}
use Rattle.rpc_msgs.specs.Answer.{nothing_read}
use Rattle.own_model.specs.Examples.{area_replies, asks_in_area, kernel_of, nobody, numbers, opening_in, woken, woken_replies}
use Rattle.own_model.specs.declared.own_event.BackInput.TheVariants.{NoBuffer, Reply}
use Rattle.own_model.specs.declared.own_event.OwnInput.TheVariants.{Copied, Unread}
use Rattle.own_model.specs.declared.own_reply.OwnReply.TheVariants as reply
use Rattle.session_table.specs.declared.session.Session.{Session}
use Rattle.ta_isa.specs.declared.boot.App.{App}
use Rattle.ta_isa.specs.declared.image.Image.{Image}
use Rattle.group_model.specs.Group.{group_machine_replies}
use Rattle.group_model.specs.Read.{group_events, group_replies, noted}
use Rattle.group_model.specs.declared.group_event.GroupEvent.{GroupEvent}
use Rattle.group_model.specs.declared.group_event.GroupEvent.TheVariants.{Open, Invoke, Close, Cancel, Seen, Room, Back}
use Rattle.group_model.specs.declared.group_event.GroupEvent.TheVariants.{Out}
use Rattle.group_model.specs.declared.group_reply.GroupReply.{GroupReply}

-- ---- what is read off moves

-- the group of the application by moves from the boot on: what happens to it, what it is answered, and what its machine
-- answers
abbrev pub events_of : Booted → List Move → Option (List GroupEvent)
events_of on moves =
    let events = λ (history : List Event). option_map (group_events on history) (app_of on uuid) in
    option_and_then events (history_of on moves)

abbrev pub replies_of : Booted → List Move → Option (List GroupReply)
replies_of on moves =
    let replies = λ (history : List Event). option_map (group_replies on history) (app_of on uuid) in
    option_and_then replies (history_of on moves)

abbrev pub machine_of : Booted → List Move → Option (List GroupReply)
machine_of on moves =
    let answers = λ (history : List Event) (app : Application).
    group_machine_replies 1000 app on.key (group_events on history app) in
    option_and_then (λ history. option_and_then (answers history) (app_of on uuid)) (history_of on moves)

-- the group is answered so, and its machine answers so too
abbrev pub Agrees : Booted → List Move → List GroupReply → Type 0
Agrees on moves replies = (replies_of on moves ≡ Some replies) × (machine_of on moves ≡ Some replies)

-- the group's number of the kernel's session
abbrev pub number_of : Booted → List Move → ℕ → Option ℕ
number_of on moves session =
    let number = λ (history : List Event). option_and_then (λ app. get (noted on history app).sessions session) (app_of on uuid) in
    option_and_then number (history_of on moves)

-- whether the instance of the session is kept behind the moves, where the session is
abbrev pub has_instance : Booted → List Move → ℕ → Option Bool
has_instance on moves session =
    let kept = λ (kernel : Kernel). option_map (λ (found : Session). is_some (get kernel.tables.instances found.instance))
    (get kernel.tables.sessions session) in
    option_and_then kept (kernel_of on moves)

-- ---- what is told

-- an open has opened the session of this number
abbrev pub opened : ℕ → GroupReply
opened session = record { reply = reply.Ended 0 4 no_params; opened = Some session }

abbrev pub ended : ℕ → ℕ → GroupReply
ended result origin = record { reply = reply.Ended result origin no_params; opened = None }

abbrev pub sum : ℕ → GroupReply
sum total = record { reply = reply.Ended 0 4 (numbers total 0); opened = None }

abbrev pub alloc : GroupReply
alloc = record { reply = reply.Alloc; opened = None }

-- an open whose parameters were copied, and one that was stopped before
abbrev pub copied : GroupEvent
copied = Open (Copied no_params) nobody false false

abbrev pub stopped : GroupEvent
stopped = Open Unread nobody false false

-- ---- boots

-- an application whose sessions share an instance, one at a time, several, and several on one that is kept alive
abbrev pub alone : Image → Image
alone image = flagged 4 image

abbrev pub shared : Image → Image
shared image = flagged 12 image

abbrev pub kept_alive : Image → Image
kept_alive image = flagged 28 image

-- of two pages
abbrev pub two_pages : Image → Image
two_pages image = record image { pages = 2 }

-- another application beside it, and its open
abbrev pub other_app : App
other_app = record { uuid = replicate 16 0x22; image = add }

abbrev pub beside : ℕ → Image → Booted
beside frames image = booted (boot_with 3 3 frames (app_with image ∷ other_app ∷ [])) []

abbrev pub opens_other : List Read
opens_other =
    argument (head 0 0 0 2) (param 0x101 0x2222222222222222 0x2222222222222222 0 ++ param 0x101 0 0 0)

-- ---- moves

abbrev pub back_to : ℕ → List Move
back_to thread = resume thread 9 thread

-- two sessions, an invoke in the first, and both are closed
abbrev pub two_sessions : List Move
two_sessions = opens ++ opens ++ call 0 1000 (adds 5 7) ++ call 0 1000 (closes 1) ++ call 0 1000 (closes 2)

abbrev pub two_events : List GroupEvent
two_events =
    copied ∷ Out 0 ∷ copied ∷ Out 1 ∷ Invoke 0 0 (Copied (numbers 5 7)) false ∷ Out 2 ∷ Close 0 false ∷ Out 3 ∷ Close 1 false ∷ Out 4 ∷ []

-- the last session's close is inside, an open comes to wait, and then the close ends and takes the instance away
abbrev pub gone_awaited : List Move
gone_awaited = opens ++ Comes 0 (call_of 0) 9 (closes 1) ∷ call 1 9 open_argument ++ Leaves 0 ∷ []

abbrev pub gone_events : List GroupEvent
gone_events =
    copied ∷ Out 0 ∷ Close 0 false ∷ copied ∷ Out 2 ∷ Out 1 ∷ Room 2 true ∷ Back 2 NoBuffer ∷ Out 2 ∷ Back 1 NoBuffer ∷ Out 1
    ∷ []

-- and then another open comes in, before the one that waits comes back
abbrev pub made_again : List Move
made_again = gone_awaited ++ call 2 9 open_argument ++ back_to 1 ++ back_to 0 ++ back_to 2

-- behind an open, calls with an area: an open that finds it busy, a cancel and a close
abbrev pub told_areas : List Move
told_areas = opens ++ area_call 0 9 open_argument ++ area_call 0 9 (cancels 1 9) ++ area_call 0 9 (closes 1)

-- a panic in the first of two sessions, and what comes behind it
abbrev pub dies : List Move
dies =
    opens ++ opens ++ call 0 1000 (invokes 1 1) ++ opens ++ call 0 1000 (invokes 2 0) ++ call 0 1000 (closes 2)
    ++ call 0 1000 (closes 1) ++ opens

abbrev pub dead_events : List GroupEvent
dead_events =
    copied ∷ Out 0 ∷ copied ∷ Out 1 ∷ Invoke 0 1 (Copied no_params) false ∷ Out 2 ∷ stopped ∷ Out 3 ∷ Invoke 1 0 Unread false ∷ Out 4
    ∷ Close 1 false ∷ Out 5 ∷ Close 0 false ∷ Out 6 ∷ copied ∷ Out 7 ∷ []

-- a close that has waited finds its session gone, and while it is inside another instance is made, for which an open waits
abbrev pub older_waiter : List Move
older_waiter =
    opens ++ Comes 0 (call_of 0) 9 (closes 1) ∷ call 1 9 (closes 1) ++ Leaves 0 ∷ Comes 1 (resume_of 1 0) 9 []
    ∷ Comes 2 (call_of 0) 9 open_argument ∷ call 3 9 open_argument
    ++ Leaves 2 ∷ Leaves 1 ∷ []

pub record Examples : Type 0 where
  -- sessions that share an instance
  pub two_events_are : events_of (boot 1 1 1 (shared add)) two_sessions ≡ Some two_events
  pub two_replies_are : Agrees (boot 1 1 1 (shared add)) two_sessions
      (opened 0 ∷ opened 1 ∷ sum 12 ∷ ended 0 3 ∷ ended 0 3 ∷ [])
  -- one session at a time: the next is told that it is busy, and gets no number
  pub busy_events : events_of (boot 1 1 1 (alone add)) (opens ++ opens ++ call 0 9 (closes 1) ++ opens)
      ≡ Some (copied ∷ Out 0 ∷ stopped ∷ Out 1 ∷ Close 0 false ∷ Out 2 ∷ copied ∷ Out 3 ∷ [])
  pub busy_replies : Agrees (boot 1 1 1 (alone add)) (opens ++ opens ++ call 0 9 (closes 1) ++ opens)
      (opened 0 ∷ ended 0xffff000d 3 ∷ ended 0 3 ∷ opened 1 ∷ [])
  -- an open that finds too few pages
  pub limited_events : events_of (boot 1 1 1 (two_pages (shared add))) opens ≡ Some (Open Unread nobody true false ∷ Out 0 ∷ [])
  pub limited_replies : Agrees (boot 1 1 1 (two_pages (shared add))) opens (ended 0xffff000c 3 ∷ [])
  -- a panic in one session kills the instance of both; once both are closed, an open makes another
  pub dead_events_are : events_of (boot 1 1 2 (shared panic)) dies ≡ Some dead_events
  pub dead : Agrees (boot 1 1 2 (shared panic)) dies
      (opened 0 ∷ opened 1 ∷ ended 0xffff3024 3 ∷ ended 0xffff3024 3 ∷ ended 0xffff3024 3 ∷ ended 0 3 ∷ ended 0 3
      ∷ opened 2 ∷ [])
  -- opens that panic, and a create that fails
  pub open_panicked : Agrees (boot 1 1 1 (shared open_panics)) (opens ++ opens)
      (ended 0xffff3024 3 ∷ ended 0xffff3024 3 ∷ [])
  pub create_failed : Agrees (boot 1 1 1 (shared create_fails)) opens (ended 7 4 ∷ [])
  -- memory that outlives its last session, and memory that doesn't
  pub kept : Agrees (boot 1 1 1 (kept_alive mark)) (opens ++ call 0 1000 (invokes 1 0) ++ call 0 1000 (closes 1) ++ opens
      ++ call 0 1000 (invokes 2 0))
      (opened 0 ∷ ended 0 4 ∷ ended 0 3 ∷ opened 1 ∷ ended 5 4 ∷ [])
  pub not_kept : Agrees (boot 1 1 1 (shared mark)) (opens ++ call 0 1000 (invokes 1 0) ++ call 0 1000 (closes 1) ++ opens
      ++ call 0 1000 (invokes 2 0))
      (opened 0 ∷ ended 0 4 ∷ ended 0 3 ∷ opened 1 ∷ ended 0 4 ∷ [])
  -- an open that has waited finds its instance gone, and pages for a new one
  pub gone_events_are : events_of (boot 2 2 1 (shared add)) (gone_awaited ++ back_to 1 ++ back_to 0) ≡ Some gone_events
  pub gone_replies : Agrees (boot 2 2 1 (shared add)) (gone_awaited ++ back_to 1 ++ back_to 0)
      (opened 0 ∷ alloc ∷ alloc ∷ opened 1 ∷ ended 0 3 ∷ [])
  -- while it waits, without an instance, its session is one of the group's already
  pub gone_opening : opening_in (boot 2 2 1 (shared add)) gone_awaited 1 ≡ Some 2
  pub gone_instance : has_instance (boot 2 2 1 (shared add)) gone_awaited 2 ≡ Some false
  pub gone_number : number_of (boot 2 2 1 (shared add)) gone_awaited 2 ≡ Some 1
  -- and a call is in the log as soon as it has come in
  pub closing_events : events_of (boot 1 1 1 (shared add)) (opens ++ Comes 0 (call_of 0) 9 (closes 1) ∷ [])
      ≡ Some (copied ∷ Out 0 ∷ Close 0 false ∷ [])
  -- or finds that another application took them
  pub no_room : Agrees (beside 1 (shared add)) (gone_awaited ++ call 2 9 opens_other ++ back_to 1 ++ back_to 0)
      (opened 0 ∷ alloc ∷ alloc ∷ ended 0xffff000c 3 ∷ ended 0 3 ∷ [])
  pub no_room_events : events_of (beside 1 (shared add))
      (gone_awaited ++ call 2 9 opens_other ++ back_to 1 ++ back_to 0)
      ≡ Some (copied ∷ Out 0 ∷ Close 0 false ∷ copied ∷ Out 2 ∷ Out 1 ∷ Room 2 false ∷ Back 2 NoBuffer ∷ Out 2 ∷ Back 1 NoBuffer
      ∷ Out 1 ∷ [])
  -- or that another open has made it again, under its number, which wakes it
  pub made_again_events : events_of (boot 3 3 1 (shared add)) made_again
      ≡ Some (copied ∷ Out 0 ∷ Close 0 false ∷ copied ∷ Out 2 ∷ Out 1 ∷ copied ∷ Out 3 ∷ Back 2 NoBuffer ∷ Out 2 ∷ Back 1 NoBuffer
      ∷ Out 1 ∷ Back 3 NoBuffer ∷ Out 3 ∷ [])
  pub made_again_replies : Agrees (boot 3 3 1 (shared add)) made_again
      (opened 0 ∷ alloc ∷ alloc ∷ alloc ∷ opened 1 ∷ ended 0 3 ∷ opened 2 ∷ [])
  -- a call that sleeps until another wakes it, each with a buffer
  pub woken_replies_are : Agrees (boot 2 2 1 (shared wait)) woken
      (opened 0 ∷ map (λ told. record { reply = told; opened = None }) (drop 1 woken_replies))
  -- a call with an area asks without a buffer
  pub area_events_are : events_of (boot 1 1 1 (shared wait)) asks_in_area
      ≡ Some (copied ∷ Out 0 ∷ Invoke 0 250 (Copied no_params) true ∷ Out 1 ∷ Back 1 (Reply nothing_read) ∷ Out 1 ∷ [])
  pub area_replies_are : Agrees (boot 1 1 1 (shared wait)) asks_in_area
      (opened 0 ∷ map (λ told. record { reply = told; opened = None }) (drop 1 area_replies))
  -- each call says whether it has an area, also where a test stops it, but for a cancel, which asks for nothing
  pub area_sum_events : events_of (boot 1 1 1 (shared add)) (opens ++ area_call 0 1000 (adds 5 7))
      ≡ Some (copied ∷ Out 0 ∷ Invoke 0 0 (Copied (numbers 5 7)) true ∷ Out 1 ∷ [])
  pub area_sum : Agrees (boot 1 1 1 (shared add)) (opens ++ area_call 0 1000 (adds 5 7)) (opened 0 ∷ sum 12 ∷ [])
  pub areas_told : events_of (boot 1 1 1 (alone add)) told_areas
      ≡ Some (copied ∷ Out 0 ∷ Open Unread nobody false true ∷ Out 1 ∷ Cancel 0 ∷ Out 2 ∷ Close 0 true ∷ Out 3 ∷ [])
  pub areas_replies : Agrees (boot 1 1 1 (alone add)) told_areas
      (opened 0 ∷ ended 0xffff000d 3 ∷ ended 0 3 ∷ ended 0 3 ∷ [])
  -- calls of another application are none of the group's
  pub of_others : events_of (beside 2 (shared add)) (call 0 9 opens_other ++ opens) ≡ Some (copied ∷ Out 0 ∷ [])
  -- who waits for an instance is not woken by a call that had waited for an older one
  pub older : Agrees (boot 4 4 1 (shared add)) older_waiter
      (opened 0 ∷ alloc ∷ alloc ∷ alloc ∷ alloc ∷ ended 0xffff0006 3 ∷ [])
  -- a cancel is seen at the next resume
  pub cancelled_events : events_of (boot 2 2 1 (shared wait_unmasked))
      (opens ++ opens ++ call 0 1 (invokes_by 1 250 9) ++ call 1 9 (cancels 1 9) ++ resume 0 9 0)
      ≡ Some (copied ∷ Out 0 ∷ copied ∷ Out 1 ∷ Invoke 0 250 (Copied no_params) false ∷ Cancel 0 ∷ Out 3 ∷ Seen 2 1 ∷ Out 2 ∷ [])
  pub cancelled : Agrees (boot 2 2 1 (shared wait_unmasked))
      (opens ++ opens ++ call 0 1 (invokes_by 1 250 9) ++ call 1 9 (cancels 1 9) ++ resume 0 9 0)
      (opened 0 ∷ opened 1 ∷ ended 0 3 ∷ ended 0xffff0002 4 ∷ [])

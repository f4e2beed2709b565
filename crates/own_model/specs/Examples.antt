-- What happens to sessions of small boots and what they are answered, worked out by hand.
use Rattle.std.specs.Prelude.{◌≡◌, ℕ, Bool, false, List, [], ◌∷◌, ◌++◌, if◌then◌else◌, Option, Some, None, replicate, true}
use Rattle.std.specs.Option.{option_map, option_and_then}
use Rattle.event_journal.specs.declared.event.Event.{Event}
use Rattle.job_model.specs.Point.{no_params}
use Rattle.job_model.specs.declared.call_kind.CallKind.{CallKind}
use Rattle.job_model.specs.declared.call_kind.CallKind.TheVariants as kind
use Rattle.kernel_model.specs.Application.{Application, Booted}
use Rattle.kernel_model.specs.History.{kernel_after}
use Rattle.kernel_model.specs.Instances.{is_single}
use Rattle.kernel_model.specs.Kernel.{Kernel, PendingCall}
use Rattle.kernel_model.specs.RpcExamples.{two_waits}
use Rattle.kernel_model.specs.AreaExamples.{area_call, area_call_of, invokes_in, named_call, named_call_of, with_page}
use Rattle.kernel_model.specs.Worked.{Move, Comes, Leaves, boot, boot_native, add, panic, store, wait, wait_unmasked}
use Rattle.kernel_model.specs.Worked.{create_fails, open_fails, open_panics, adds, argument, head, names, param, invokes}
use Rattle.kernel_model.specs.SoundCalls.{is_over}
use Rattle.kernel_model.specs.Worked.{invokes_by, cancels, closes, call, call_of, offer, opens, open_argument, resume, history_of}
use Rattle.ns_ram.specs.declared.read.Read.{Read}
use Rattle.rpc_msgs.specs.Answer.{nothing_read}
use Rattle.rpc_msgs.specs.declared.rpc.Rpc.TheVariants.{Suspend}
use Rattle.ta_params.specs.declared.copied_params.CopiedParams.{CopiedParams}
use Rattle.ta_params.specs.declared.copied_params.GpParam.TheVariants.{Value}
use Rattle.ta_params.specs.declared.copied_params.Way.TheVariants.{Inout}
use Rattle.ta_params.specs.declared.login.Login.{Login}
use Rattle.own_model.specs.declared.own_event.BackInput.TheVariants as back
use Rattle.own_model.specs.declared.own_event.OwnEvent.{OwnEvent}
use Rattle.own_model.specs.declared.own_event.OwnEvent.TheVariants.{Open, Invoke, Close, Cancel, Seen, Back, Out}
use Rattle.own_model.specs.declared.own_event.OwnInput.TheVariants.{Copied, Faulty, Unread}
use Rattle.own_model.specs.declared.own_reply.OwnReply.{OwnReply}
use Rattle.own_model.specs.declared.own_reply.OwnReply.TheVariants as reply
use Rattle.own_model.specs.Own.{own_app, own_events, own_replies}
use Rattle.own_model.specs.Solo.{solo_replies}
use Rattle.own_model.specs.Tied.{call_at}

-- what happens to a session by moves from the boot on, what it is answered, and what its own machine answers
abbrev pub events_of : Booted → List Move → ℕ → Option (List OwnEvent)
events_of on moves session = option_map (λ history. own_events on history session) (history_of on moves)

abbrev pub replies_of : Booted → List Move → ℕ → Option (List OwnReply)
replies_of on moves session = option_map (λ history. own_replies on history session) (history_of on moves)

abbrev pub solo_of : Booted → List Move → ℕ → Option (List OwnReply)
solo_of on moves session =
    let answers = λ (history : List Event) (app : Application). solo_replies 1000 app on.key (own_events on history session) in
    option_and_then (λ history. option_and_then (answers history) (own_app on history session)) (history_of on moves)

-- the kernel behind them
abbrev pub kernel_of : Booted → List Move → Option Kernel
kernel_of on moves = option_and_then (kernel_after on) (history_of on moves)

-- the session whose open the slot holds then, where that hasn't ended
abbrev pub opened_by : CallKind → PendingCall → Option ℕ
opened_by kind.Open call = if is_over call.phase then None else Some call.session
opened_by _ call = None

abbrev pub opening_in : Booted → List Move → ℕ → Option ℕ
opening_in on moves slot =
    let session = λ (call : PendingCall). opened_by call.kind call in
    option_and_then (λ (kernel : Kernel). option_and_then session (call_at kernel.slots slot)) (kernel_of on moves)

-- whether the sessions of the session's application share an instance, where that application is known
abbrev pub shares_of : Booted → List Move → ℕ → Option Bool
shares_of on moves session =
    option_and_then (λ history. option_map is_single (own_app on history session)) (history_of on moves)

-- the open of a client that is nobody
abbrev pub nobody : Login
nobody = record { client = replicate 16 0; kind = 0 }

abbrev pub opened : OwnEvent
opened = Open no_params nobody false

-- two numbers, which come back as two others
abbrev pub numbers : ℕ → ℕ → CopiedParams
numbers a b = record no_params { p0 = Value Inout a b }

-- a call has ended with a result and an origin, and nothing is written back
abbrev pub ended : ℕ → ℕ → OwnReply
ended result origin = reply.Ended result origin no_params

-- an open and an invoke of the adder, granted at once and step by step
abbrev pub at_once : List Move
at_once = opens ++ call 0 1000 (adds 5 7)

abbrev pub step_by_step : List Move
step_by_step =
    opens ++ call 0 1 (adds 5 7) ++ resume 0 1 0 ++ resume 0 1 0 ++ resume 0 1 0 ++ resume 0 1 0 ++ resume 0 1 0

abbrev pub sum_events : List OwnEvent
sum_events = opened ∷ Out 0 ∷ Invoke 0 (Copied (numbers 5 7)) false ∷ Out 1 ∷ []

abbrev pub sum_replies : List OwnReply
sum_replies = ended 0 4 ∷ reply.Ended 0 4 (numbers 12 0) ∷ []

-- two calls of a session: the first waits for its time, and the second for the first, which wakes it
abbrev pub woken : List Move
woken =
    opens ++ two_waits ++ offer 1 9 1 0x40020000 0x88 ++ resume 1 9 1 ++ resume 0 9 0 ++ offer 0 9 0 0x40010000 0x77
    ++ resume 1 9 1 ++ resume 0 9 0 ++ resume 0 9 0 ++ resume 1 9 1 ++ resume 1 9 1

abbrev pub woken_events : List OwnEvent
woken_events =
    opened ∷ Out 0 ∷ Invoke 250 (Copied no_params) false ∷ Out 1 ∷ Invoke 250 (Copied no_params) false ∷ Out 2
    ∷ Back 2 back.Buffer ∷ Out 2
    ∷ Back 2 (back.Reply nothing_read) ∷ Out 2
    ∷ Back 1 back.NoBuffer ∷ Out 1
    ∷ Back 1 back.Buffer ∷ Out 1
    ∷ Back 2 (back.Reply nothing_read) ∷ Out 2
    ∷ Back 1 (back.Reply nothing_read) ∷ Out 1
    ∷ Back 1 back.Nothing ∷ Out 1
    ∷ Back 2 (back.Reply nothing_read) ∷ Out 2
    ∷ Back 2 back.Nothing ∷ Out 2
    ∷ []

abbrev pub woken_replies : List OwnReply
woken_replies =
    ended 0 4 ∷ reply.Alloc ∷ reply.Alloc ∷ reply.Sleep ∷ reply.Sleep ∷ reply.Alloc ∷ reply.Wake 2
    ∷ reply.Ask (Suspend 250) [] ∷ reply.Free ∷ ended 0xffff000c 4 ∷ reply.Free ∷ ended 0 4 ∷ []

-- an open that brings two numbers, to be changed
abbrev pub opens_with_numbers : List Read
opens_with_numbers = argument (head 0 0 0 3) (names ++ param 3 5 7 0)

-- two sessions, of which the first panics
abbrev pub one_panics : List Move
one_panics =
    opens ++ opens ++ call 0 1000 (invokes 1 1) ++ call 0 1000 (invokes 1 1) ++ call 0 1000 (invokes 2 0)
    ++ call 0 1000 (closes 2) ++ call 0 1000 (closes 1)

-- the session is answered so, and its own machine answers so too
abbrev pub Agrees : Booted → List Move → ℕ → List OwnReply → Type 0
Agrees on moves session replies =
    (replies_of on moves session ≡ Some replies) × (solo_of on moves session ≡ Some replies)

-- the sum of two numbers
abbrev pub sum : ℕ → OwnReply
sum total = reply.Ended 0 4 (numbers total 0)

-- resumes that grant nine steps to a thread by the processor of its number
abbrev pub back_to : ℕ → List Move
back_to thread = resume thread 9 thread

-- an invoke of the adder is inside, and then goes out where others have come to wait
abbrev pub adds_inside : List Move
adds_inside = opens ++ Comes 0 (call_of 0) 1000 (adds 5 7) ∷ []

-- an invoke that brings an area along asks there, and is resumed
abbrev pub asks_in_area : List Move
asks_in_area = opens ++ area_call 0 9 (invokes 1 250) ++ resume 0 9 0

-- so does one whose argument is in a registered buffer
abbrev pub asks_in_buffer : List Move
asks_in_buffer = with_page ++ named_call 0 9 0x31 0x100 (invokes_in 0x40200100) ++ resume 0 9 0

abbrev pub area_events : List OwnEvent
area_events =
    opened ∷ Out 0 ∷ Invoke 250 (Copied no_params) true ∷ Out 1 ∷ Back 1 (back.Reply nothing_read) ∷ Out 1 ∷ []

abbrev pub area_replies : List OwnReply
area_replies = ended 0 4 ∷ reply.Ask (Suspend 250) [] ∷ ended 0 4 ∷ []

-- an invoke that brings an area along asks there, and is cancelled by a call that brings one along too, before it is resumed
abbrev pub masked_in_area : List Move
masked_in_area = opens ++ area_call 0 9 (invokes_by 1 250 9) ++ area_call 1 9 (cancels 1 9) ++ resume 0 9 0

-- an open and a close that bring an area along
abbrev pub opened_in_area : List Move
opened_in_area = area_call 0 1000 open_argument ++ area_call 0 1000 (closes 1)

-- a new call with these registers finds no thread, and goes out when its session is gone
abbrev pub turned_away : List ℕ → List Move
turned_away regs =
    opens ++ Comes 0 (call_of 0) 9 (closes 1) ∷ Comes 1 regs 9 [] ∷ Leaves 0 ∷ Leaves 1 ∷ []

-- an invoke that panics is, and a close and an invoke wait
abbrev pub dies_awaited : List Move
dies_awaited =
    opens ++ Comes 0 (call_of 0) 1000 (invokes 1 1) ∷ call 1 9 (closes 1) ++ call 2 9 (invokes 1 0) ++ Leaves 0 ∷ []

pub record Examples : Type 0 where
  -- an open and an invoke: the events and the replies are the same however the steps are granted
  pub at_once_events : events_of (boot 1 1 1 add) at_once 1 ≡ Some sum_events
  pub at_once_replies : Agrees (boot 1 1 1 add) at_once 1 sum_replies
  pub stepwise_events : events_of (boot 1 1 1 add) step_by_step 1 ≡ Some sum_events
  pub stepwise_replies : Agrees (boot 1 1 1 add) step_by_step 1 sum_replies
  -- its application's sessions share no instance, so that isolation is about it
  pub at_once_alone : shares_of (boot 1 1 1 add) at_once 1 ≡ Some false
  -- it is from the entry of the open on, which hasn't ended then; and that has behind its exit
  pub opening : opening_in (boot 1 1 1 add) (Comes 0 (call_of 0) 9 open_argument ∷ []) 0 ≡ Some 1
  pub opening_alone : shares_of (boot 1 1 1 add) (Comes 0 (call_of 0) 9 open_argument ∷ []) 1 ≡ Some false
  pub opening_ended : opening_in (boot 1 1 1 add) opens 0 ≡ None
  -- a call is in the log of its session as soon as it has come in
  pub closing_events : events_of (boot 1 1 1 add) (opens ++ Comes 0 (call_of 0) 9 (closes 1) ∷ []) 1
      ≡ Some (opened ∷ Out 0 ∷ Close false ∷ [])
  -- a session that waits for itself
  pub woken_events_are : events_of (boot 2 2 1 wait) woken 1 ≡ Some woken_events
  pub woken_replies_are : Agrees (boot 2 2 1 wait) woken 1 woken_replies
  -- a session that panics, and another beside it
  pub first_events : events_of (boot 1 1 2 panic) one_panics 1
      ≡ Some (opened ∷ Out 0 ∷ Invoke 1 (Copied no_params) false ∷ Out 1 ∷ Invoke 1 Unread false ∷ Out 2 ∷ Close false ∷ Out 3 ∷ [])
  pub first_replies : Agrees (boot 1 1 2 panic) one_panics 1
      (ended 0 4 ∷ ended 0xffff3024 3 ∷ ended 0xffff3024 3 ∷ ended 0 3 ∷ [])
  pub second_events : events_of (boot 1 1 2 panic) one_panics 2
      ≡ Some (opened ∷ Out 0 ∷ Invoke 0 (Copied no_params) false ∷ Out 1 ∷ Close false ∷ Out 2 ∷ [])
  pub second_replies : Agrees (boot 1 1 2 panic) one_panics 2 (ended 0 4 ∷ ended 0 4 ∷ ended 0 3 ∷ [])
  -- a cancel is seen at the next resume, also by a call that waits, and by one that has one step at a time
  pub seen_events : events_of (boot 2 2 1 wait_unmasked)
      (opens ++ call 0 1 (invokes_by 1 250 9) ++ call 1 9 (cancels 1 9) ++ resume 0 9 0) 1
      ≡ Some (opened ∷ Out 0 ∷ Invoke 250 (Copied no_params) false ∷ Cancel ∷ Out 2 ∷ Seen 1 1 ∷ Out 1 ∷ [])
  pub seen : Agrees (boot 2 2 1 wait_unmasked)
      (opens ++ call 0 1 (invokes_by 1 250 9) ++ call 1 9 (cancels 1 9) ++ resume 0 1 0 ++ resume 0 1 0 ++ resume 0 1 0
      ++ resume 0 1 0) 1
      (ended 0 4 ∷ ended 0 3 ∷ ended 0xffff0002 4 ∷ [])
  pub seen_waiting : Agrees (boot 3 3 1 wait_unmasked)
      (opens ++ call 0 9 (invokes 1 250) ++ call 1 9 (invokes_by 1 250 9) ++ call 2 9 (cancels 1 9) ++ back_to 0
      ++ resume 1 1 1 ++ resume 1 1 1 ++ resume 1 9 1) 1
      (ended 0 4 ∷ reply.Alloc ∷ reply.Alloc ∷ ended 0 3 ∷ reply.Alloc ∷ ended 0xffff0002 4 ∷ [])
  -- a close that is woken goes on, and a call that waited longer has no session then
  pub session_gone : Agrees (boot 3 3 1 add)
      (adds_inside ++ call 1 9 (closes 1) ++ call 2 9 (adds 1 2) ++ Leaves 0 ∷ offer 0 9 0 0x40010000 0x77
      ++ back_to 1 ++ back_to 2
      ++ back_to 0 ++ back_to 0 ++ back_to 1) 1
      (ended 0 4 ∷ reply.Alloc ∷ reply.Alloc ∷ reply.Alloc ∷ reply.Wake 2 ∷ reply.Alloc ∷ ended 0xffff0006 3
      ∷ reply.Free ∷ sum 12 ∷ ended 0 3 ∷ [])
  -- calls that waited for a dead instance
  pub dead : Agrees (boot 3 3 1 panic) (dies_awaited ++ back_to 2 ++ back_to 0 ++ back_to 2 ++ back_to 1) 1
      (ended 0 4 ∷ reply.Alloc ∷ reply.Alloc ∷ reply.Alloc ∷ reply.Alloc ∷ ended 0xffff3024 3 ∷ ended 0xffff3024 3
      ∷ ended 0 3 ∷ [])
  -- a close that got no buffer to sleep keeps its session
  pub sleepless : Agrees (boot 2 2 1 add) (adds_inside ++ call 1 9 (closes 1) ++ back_to 1 ++ Leaves 0
      ∷ call 1 9 (adds 1 2)) 1
      (ended 0 4 ∷ reply.Alloc ∷ ended 0xffff000c 3 ∷ sum 12 ∷ sum 3 ∷ [])
  -- a call that finds no thread, and goes out when its session is gone
  pub limited : Agrees (boot 2 1 1 add) (turned_away (call_of 0)) 1 (ended 0 4 ∷ ended 0 3 ∷ reply.Limited ∷ [])
  -- each of the two that bring an area along does so too, even where nothing has its cookie
  pub area_limited : Agrees (boot 2 1 1 add) (turned_away (area_call_of 0x40000000)) 1
      (ended 0 4 ∷ ended 0 3 ∷ reply.Limited ∷ [])
  pub named_limited : Agrees (boot 2 1 1 add) (turned_away (named_call_of 0x31 0x100)) 1
      (ended 0 4 ∷ ended 0 3 ∷ reply.Limited ∷ [])
  -- calls with an area ask without a buffer
  pub area_events_are : events_of (boot 1 1 1 wait) asks_in_area 1 ≡ Some area_events
  pub area_replies_are : Agrees (boot 1 1 1 wait) asks_in_area 1 area_replies
  pub named_events_are : events_of (boot 1 1 1 wait) asks_in_buffer 1 ≡ Some area_events
  pub named_replies_are : Agrees (boot 1 1 1 wait) asks_in_buffer 1 area_replies
  -- but for one that names a file, whose name has no place there: it ends OUT_OF_MEMORY where no buffer comes
  pub file_in_area : Agrees (boot 1 1 1 store) (opens ++ area_call 0 20 (invokes 1 0) ++ resume 0 20 0) 1
      (ended 0 4 ∷ reply.Alloc ∷ ended 0xffff000c 4 ∷ [])
  -- one that waits sleeps so
  pub sleeps_in_area : Agrees (boot 2 2 1 wait) (opens ++ call 0 9 (invokes 1 250) ++ area_call 1 9 (invokes 1 250)) 1
      (ended 0 4 ∷ reply.Alloc ∷ reply.Sleep ∷ [])
  -- a cancel's event doesn't tell its area
  pub area_cancelled : events_of (boot 2 2 1 wait_unmasked)
      (opens ++ area_call 0 1 (invokes_by 1 250 9) ++ area_call 1 9 (cancels 1 9) ++ resume 0 9 0) 1
      ≡ Some (opened ∷ Out 0 ∷ Invoke 250 (Copied no_params) true ∷ Cancel ∷ Out 2 ∷ Seen 1 1 ∷ Out 1 ∷ [])
  -- and it is seen by a call that asks in its area, which has masked it
  pub masked_in_area_events : events_of (boot 2 2 1 wait) masked_in_area 1
      ≡ Some (opened ∷ Out 0 ∷ Invoke 250 (Copied no_params) true ∷ Out 1 ∷ Cancel ∷ Out 2 ∷ Seen 1 1
      ∷ Back 1 (back.Reply nothing_read) ∷ Out 1 ∷ [])
  pub masked_in_area_replies : Agrees (boot 2 2 1 wait) masked_in_area 1
      (ended 0 4 ∷ reply.Ask (Suspend 250) [] ∷ ended 0 3 ∷ ended 0 4 ∷ [])
  -- an open and a close tell their areas
  pub opened_in_area_events : events_of (boot 1 1 1 add) opened_in_area 1
      ≡ Some (Open no_params nobody true ∷ Out 0 ∷ Close true ∷ Out 1 ∷ [])
  pub opened_in_area_replies : Agrees (boot 1 1 1 add) opened_in_area 1 (ended 0 4 ∷ ended 0 3 ∷ [])
  -- one of another client that finds none
  pub limit_of_another : events_of (boot 2 1 1 add)
      (opens ++ Comes 0 (call_of 0) 9 (closes 1) ∷ Comes 1 (call_of 6) 9 [] ∷ Leaves 1 ∷ Leaves 0 ∷ []) 1
      ≡ Some (opened ∷ Out 0 ∷ Close false ∷ Out 1 ∷ [])
  -- who is to be woken has gone on by itself, and another call is in its slot when the wake is asked for
  pub woken_before : Agrees (boot 3 3 1 add)
      (adds_inside ++ call 1 9 (adds 1 2) ++ Leaves 0 ∷ back_to 1 ++ call 1 1 (adds 3 4) ++ offer 0 9 0 0x40010000 0x77
      ++ back_to 0 ++ back_to 0 ++ back_to 1) 1
      (ended 0 4 ∷ reply.Alloc ∷ reply.Alloc ∷ sum 3 ∷ reply.Wake 2 ∷ reply.Free ∷ sum 12 ∷ sum 7 ∷ [])
  -- opens that fail, and an application that is built in
  pub open_failed : Agrees (boot 1 1 1 open_fails) (opens ++ opens) 2 (ended 7 4 ∷ [])
  pub create_failed : Agrees (boot 1 1 1 create_fails) opens 1 (ended 7 4 ∷ [])
  pub open_panicked : Agrees (boot 1 1 1 open_panics) opens 1 (ended 0xffff3024 3 ∷ [])
  pub built_in : Agrees (boot_native 1 1 1 7) (opens ++ opens ++ call 0 1 (invokes 1 5) ++ call 0 1 (closes 1)
      ++ call 0 1 (invokes 2 5)) 1
      (ended 0 3 ∷ ended 7 4 ∷ ended 0 3 ∷ [])
  -- the open of one that is built in is answered by the TEE, so that the numbers which it brings aren't written back
  pub built_in_open_events : events_of (boot_native 1 1 1 7) (call 0 1 opens_with_numbers) 1
      ≡ Some (Open (numbers 5 7) nobody false ∷ Out 0 ∷ [])
  pub built_in_open : Agrees (boot_native 1 1 1 7) (call 0 1 opens_with_numbers) 1 (ended 0 3 ∷ [])
  -- a fault of copying
  pub faulty : events_of (boot 1 1 1 add) (opens ++ call 0 9 (argument (head 1 0 1 1) (param 9 0x40002000 65537 0))) 1
      ≡ Some (opened ∷ Out 0 ∷ Invoke 0 Faulty false ∷ Out 1 ∷ [])

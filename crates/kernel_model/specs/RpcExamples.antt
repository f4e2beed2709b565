-- Calls that ask the normal world for something, that wait, and that are cancelled.
use Rattle.std.specs.Prelude.{◌≡◌, ℕ, Bool, true, List, [], ◌∷◌, ◌++◌, Option, Some, None, slice_get}
use Rattle.std.specs.Option.{option_map, option_and_then}
use Rattle.ns_ram.specs.Examples.{read_of}
use Rattle.ns_ram.specs.declared.read.Read.{Read}
use Rattle.kernel_model.specs.Kernel.{ThreadSlot, Free, Active, Suspended}
use Rattle.kernel_model.specs.Worked.{kernel_of, add, panic, time, wait, wait_unmasked, flagged, boot, half, word}
use Rattle.kernel_model.specs.Worked.{open_argument, adds, invokes, closes, invokes_by, cancels, Comes, Leaves, Move}
use Rattle.kernel_model.specs.Worked.{call_of, resume_of, both, call, resume, offer, opens, returns_after, ok, opened}
use Rattle.kernel_model.specs.Worked.{summed, interrupt, wants_buffer, gives_back, requests, tells, asks_time, with_a5}
use Rattle.kernel_model.specs.Worked.{Return}

-- a resume of thread 0 after a request whose reply has these reads
abbrev pub replies : List Read → List Move
replies reads = both 0 9 (resume_of 0 0) reads

-- the reads of a time in the buffer at 40010000
abbrev pub time_reads : ℕ → ℕ → ℕ → List Read
time_reads ret seconds nanoseconds =
    read_of 0x40010014 (half ret) ∷ read_of 0x40010028 (word seconds) ∷ read_of 0x40010030 (word nanoseconds) ∷ []

-- two calls of one session: the first asks, and the second waits for it
abbrev pub two_waits : List Move
two_waits = call 0 9 (invokes 1 250) ++ call 1 9 (invokes 1 250)

abbrev pub with_cookie : ℕ → Return
with_cookie cookie = with_a5 cookie (ok 0xffff000c 4)

-- the call that has asked for its buffer gets it, its wait is over, it ends and gives the buffer back, and is
-- cancelled, and then it is resumed
abbrev pub ended_and_cancelled : List Move → List Move
ended_and_cancelled begun =
    opens ++ begun ++ offer 0 1 0 0x40010000 0x77 ++ resume 0 1 0 ++ call 1 9 (cancels 1 9)
    ++ Comes 0 (resume_of 0 0) 1 [] ∷ []

-- whether the call on which a processor works has seen that it was cancelled, and the steps that it has done
abbrev pub seen_in : ThreadSlot → Option (Bool × ℕ)
seen_in Free = None
seen_in (Active cpu call) = Some (call.seen, call.steps)
seen_in (Suspended client call) = None

abbrev pub seen_after : List Move → Option (Option (Bool × ℕ))
seen_after moves =
    option_map (λ kernel. option_and_then seen_in (slice_get kernel.slots 0))
    (kernel_of (boot 2 2 1 wait_unmasked) moves)

pub record RpcExamples : Type 0 where
  -- a wait without a buffer, with one that doesn't lie in RAM whole, and with one
  pub no_buffer : returns_after (boot 1 1 1 wait) opens (call 0 9 (invokes 1 250) ++ resume 0 9 0)
      ≡ Some (wants_buffer 0 ∷ ok 0xffff000c 4 ∷ [])
  pub buffer_past_ram : returns_after (boot 1 1 1 wait) opens (call 0 9 (invokes 1 250) ++ offer 0 9 0 0x403ff008 0x77)
      ≡ Some (wants_buffer 0 ∷ with_cookie 0x77 ∷ [])
  pub buffer_unaligned : returns_after (boot 1 1 1 wait) opens (call 0 9 (invokes 1 250) ++ offer 0 9 0 0x40010004 0x77)
      ≡ Some (wants_buffer 0 ∷ with_cookie 0x77 ∷ [])
  pub suspended : returns_after (boot 1 1 1 wait) opens
      (call 0 9 (invokes 1 250) ++ offer 0 9 0 0x40010000 0x77 ++ resume 0 9 0 ++ resume 0 9 0)
      ≡ Some (wants_buffer 0 ∷ requests 0 0x40010000 0x77 0x77 (tells 5 250 0) ∷ gives_back 0 0x77 ∷ ok 0 4 ∷ [])
  -- the last buffer of RAM
  pub last_buffer : returns_after (boot 1 1 1 wait) opens (call 0 9 (invokes 1 250) ++ offer 0 9 0 0x403ff000 0x77)
      ≡ Some (wants_buffer 0 ∷ requests 0 0x403ff000 0x77 0x77 (tells 5 250 0) ∷ [])
  -- a step at a time, a call that asks uses none
  pub steps_of_a_wait : returns_after (boot 1 1 1 wait) opens
      (call 0 1 (invokes 1 250) ++ offer 0 1 0 0x40010000 0x77 ++ resume 0 1 0 ++ resume 0 1 0)
      ≡ Some (wants_buffer 0 ∷ requests 0 0x40010000 0x77 0x77 (tells 5 250 0) ∷ gives_back 0 0x77 ∷ ok 0 4 ∷ [])
  -- the time, whose reply says that it failed, and that it didn't
  pub time_failed : returns_after (boot 1 1 1 time) opens
      (call 0 9 (invokes 1 0) ++ offer 0 9 0 0x40010000 0x77 ++ replies (time_reads 0xffff0000 0 0) ++ resume 0 9 0)
      ≡ Some (wants_buffer 0 ∷ requests 0 0x40010000 0x77 0x77 asks_time ∷ gives_back 0 0x77 ∷ ok 0xffff0000 4 ∷ [])
  pub time_told : returns_after (boot 1 1 1 time) opens
      (call 0 9 (invokes 1 0) ++ offer 0 9 0 0x40010000 0x77 ++ replies (time_reads 0 5 6) ++ resume 0 9 0)
      ≡ Some (wants_buffer 0 ∷ requests 0 0x40010000 0x77 0x77 asks_time ∷ gives_back 0 0x77 ∷ ok 0 4 ∷ [])
  -- a reply that isn't read, and one of which more is read
  pub reply_unread : returns_after (boot 1 1 1 time) opens
      (call 0 9 (invokes 1 0) ++ offer 0 9 0 0x40010000 0x77 ++ replies []) ≡ None
  pub reply_too_long : returns_after (boot 1 1 1 wait) opens
      (call 0 9 (invokes 1 0) ++ offer 0 9 0 0x40010000 0x77 ++ replies (time_reads 0 5 6)) ≡ None
  -- a second call waits for the first, sleeps on where it comes too early, and is woken; then it asks by itself
  pub woken : returns_after (boot 2 2 1 wait) opens
      (two_waits ++ offer 1 9 1 0x40020000 0x88 ++ resume 1 9 1 ++ resume 0 9 0
      ++ offer 0 9 0 0x40010000 0x77 ++ resume 1 9 1
      ++ resume 0 9 0 ++ resume 0 9 0 ++ resume 1 9 1 ++ resume 1 9 1)
      ≡ Some (
      wants_buffer 0
      ∷ wants_buffer 1
      ∷ requests 1 0x40020000 0x88 0x88 (tells 4 0 1)
      ∷ requests 1 0x40020000 0x88 0 (tells 4 0 1)
      ∷ wants_buffer 0
      ∷ requests 0 0x40010000 0x77 0x77 (tells 4 1 1)
      ∷ requests 1 0x40020000 0x88 0 (tells 5 250 0)
      ∷ gives_back 0 0x77
      ∷ ok 0xffff000c 4
      ∷ gives_back 1 0x88
      ∷ ok 0 4
      ∷ [])
  -- a wake is dropped without a buffer, and none is asked for where nobody waits any more
  pub wake_dropped : returns_after (boot 2 2 1 wait) opens (two_waits ++ resume 0 9 0 ++ resume 0 9 0)
      ≡ Some (wants_buffer 0 ∷ wants_buffer 1 ∷ wants_buffer 0 ∷ ok 0xffff000c 4 ∷ [])
  -- a call that can't go on and has got no buffer ends. A close keeps its session then
  pub sleepless : returns_after (boot 2 2 1 add) (opens ++ Comes 0 (call_of 0) 1000 (adds 5 7) ∷ [])
      (call 1 1000 (closes 1) ++ resume 1 1000 1 ++ Leaves 0 ∷ call 1 1000 (adds 1 2))
      ≡ Some (wants_buffer 1 ∷ ok 0xffff000c 3 ∷ summed 12 ∷ summed 3 ∷ [])
  -- and without a buffer it goes on where its instance is free by then
  pub free_by_then : returns_after (boot 2 2 1 add) (opens ++ Comes 0 (call_of 0) 1000 (adds 5 7) ∷ [])
      (call 1 1000 (adds 1 2) ++ Leaves 0 ∷ resume 1 1000 1 ++ resume 0 1000 0)
      ≡ Some (wants_buffer 1 ∷ wants_buffer 0 ∷ summed 3 ∷ summed 12 ∷ [])
  -- a call that ends while another holds the instance wakes nobody, and the first that waits is woken first
  pub held_still : returns_after (boot 3 3 1 add) (opens ++ Comes 0 (call_of 0) 1000 (adds 5 7) ∷ [])
      (call 1 1000 (adds 1 2) ++ call 2 1000 (adds 3 4) ++ resume 1 1000 1)
      ≡ Some (wants_buffer 1 ∷ wants_buffer 2 ∷ ok 0xffff000c 3 ∷ [])
  pub first_woken : returns_after (boot 3 3 1 add) (opens ++ Comes 0 (call_of 0) 1000 (adds 5 7) ∷ [])
      (call 1 1000 (adds 1 2) ++ call 2 1000 (adds 3 4) ++ Leaves 0 ∷ offer 0 1000 0 0x40010000 0x77)
      ≡ Some (wants_buffer 1 ∷ wants_buffer 2 ∷ wants_buffer 0 ∷ requests 0 0x40010000 0x77 0x77 (tells 4 1 1) ∷ [])
  -- its session is gone by then, its instance is dead, or is gone: an open then makes one with the same number
  pub session_gone : returns_after (boot 2 2 1 add) (opens ++ Comes 0 (call_of 0) 1000 (closes 1) ∷ [])
      (call 1 1000 (adds 1 2) ++ Leaves 0 ∷ resume 1 1000 1 ++ resume 0 1000 0)
      ≡ Some (wants_buffer 1 ∷ wants_buffer 0 ∷ ok 0xffff0006 3 ∷ ok 0 3 ∷ [])
  pub instance_dead : returns_after (boot 2 2 1 (flagged 0x0c panic))
      (opens ++ opens ++ Comes 0 (call_of 0) 1000 (invokes 1 1) ∷ [])
      (call 1 1000 (invokes 2 0) ++ Leaves 0 ∷ resume 1 1000 1 ++ resume 0 1000 0)
      ≡ Some (wants_buffer 1 ∷ wants_buffer 0 ∷ ok 0xffff3024 3 ∷ ok 0xffff3024 3 ∷ [])
  pub close_of_the_dead : returns_after (boot 2 2 1 (flagged 0x0c panic))
      (opens ++ opens ++ Comes 0 (call_of 0) 1000 (invokes 1 1) ∷ [])
      (call 1 1000 (closes 2) ++ Leaves 0 ∷ resume 1 1000 1 ++ resume 0 1000 0)
      ≡ Some (wants_buffer 1 ∷ wants_buffer 0 ∷ ok 0 3 ∷ ok 0xffff3024 3 ∷ [])
  pub instance_gone : returns_after (boot 2 2 1 (flagged 0x0c add)) (opens ++ Comes 0 (call_of 0) 1000 (closes 1) ∷ [])
      (call 1 1000 open_argument ++ Leaves 0 ∷ resume 1 1000 1 ++ resume 0 1000 0 ++ opens)
      ≡ Some (wants_buffer 1 ∷ wants_buffer 0 ∷ opened 2 ∷ ok 0 3 ∷ opened 3 ∷ [])
  -- a call is cancelled while it waits for its reply, where it has unmasked that, with its number, in its session
  pub cancelled : returns_after (boot 2 2 1 wait_unmasked) opens
      (call 0 9 (invokes_by 1 250 9) ++ call 1 9 (cancels 1 9) ++ offer 0 9 0 0x40010000 0x77 ++ resume 0 9 0
      ++ resume 0 9 0)
      ≡ Some (wants_buffer 0 ∷ ok 0 3 ∷ requests 0 0x40010000 0x77 0x77 (tells 5 250 0) ∷ gives_back 0 0x77
      ∷ ok 0xffff0002 4 ∷ [])
  pub cancelled_masked : returns_after (boot 2 2 1 wait) opens
      (call 0 9 (invokes_by 1 250 9) ++ call 1 9 (cancels 1 9) ++ offer 0 9 0 0x40010000 0x77 ++ resume 0 9 0
      ++ resume 0 9 0)
      ≡ Some (wants_buffer 0 ∷ ok 0 3 ∷ requests 0 0x40010000 0x77 0x77 (tells 5 250 0)
      ∷ gives_back 0 0x77 ∷ ok 0 4 ∷ [])
  pub another_cancelled : returns_after (boot 2 2 1 wait_unmasked) opens
      (call 0 9 (invokes_by 1 250 9) ++ call 1 9 (cancels 1 8) ++ offer 0 9 0 0x40010000 0x77 ++ resume 0 9 0
      ++ resume 0 9 0)
      ≡ Some (wants_buffer 0 ∷ ok 0 3 ∷ requests 0 0x40010000 0x77 0x77 (tells 5 250 0)
      ∷ gives_back 0 0x77 ∷ ok 0 4 ∷ [])
  -- a cancel that comes before the application has asked is seen at the next resume, and then it doesn't ask
  pub cancelled_before : returns_after (boot 2 2 1 wait_unmasked) opens
      (call 0 1 (invokes_by 1 250 9) ++ call 1 9 (cancels 1 9) ++ resume 0 9 0)
      ≡ Some (interrupt 0 ∷ ok 0 3 ∷ ok 0xffff0002 4 ∷ [])
  -- a buffer in the registers of a resume from an interrupt, and from FREE, is none
  pub buffer_at_an_interrupt : returns_after (boot 1 1 1 wait_unmasked) opens
      (call 0 1 (invokes 1 250) ++ offer 0 9 0 0x40010000 0x77)
      ≡ Some (interrupt 0 ∷ with_a5 0x77 (wants_buffer 0) ∷ [])
  pub buffer_after_free : returns_after (boot 1 1 1 wait) opens
      (call 0 9 (invokes 1 250) ++ offer 0 9 0 0x40010000 0x77 ++ resume 0 9 0 ++ offer 0 9 0 0x40020000 0x88)
      ≡ Some (wants_buffer 0 ∷ requests 0 0x40010000 0x77 0x77 (tells 5 250 0) ∷ gives_back 0 0x77
      ∷ with_a5 0x88 (ok 0 4) ∷ [])
  -- a call that is cancelled while it waits for its instance begins with the flag seen
  pub cancelled_waiting : returns_after (boot 3 3 1 wait_unmasked) opens
      (call 0 9 (invokes 1 250) ++ call 1 9 (invokes_by 1 250 9) ++ call 2 9 (cancels 1 9) ++ resume 0 9 0
      ++ resume 1 9 1)
      ≡ Some (wants_buffer 0 ∷ wants_buffer 1 ∷ ok 0 3 ∷ wants_buffer 0 ∷ ok 0xffff0002 4 ∷ [])
  -- a fresh open takes the number of an instance for which an open waits, which then shares the one that it made
  pub awaited_instance : returns_after (boot 3 3 1 (flagged 0x0c add))
      (opens ++ Comes 0 (call_of 0) 1000 (closes 1) ∷ [])
      (call 1 1000 open_argument ++ Leaves 0 ∷ call 2 1000 open_argument ++ resume 1 1000 1 ++ resume 2 1000 2
      ++ resume 0 1000 0)
      ≡ Some (wants_buffer 1 ∷ wants_buffer 0 ∷ wants_buffer 2 ∷ opened 2 ∷ opened 3 ∷ ok 0 3 ∷ [])
  -- an application unmasks, waits and returns, five steps, and its call is cancelled between FREE and OK: it has seen
  -- that after five steps, however they are granted
  pub steps_at_once : seen_after (ended_and_cancelled (call 0 9 (invokes_by 1 250 9))) ≡ Some (Some (true, 5))
  pub steps_by_four : seen_after (ended_and_cancelled (call 0 4 (invokes_by 1 250 9))) ≡ Some (Some (true, 5))
  pub steps_by_one : seen_after (ended_and_cancelled
      (call 0 1 (invokes_by 1 250 9) ++ resume 0 1 0 ++ resume 0 1 0 ++ resume 0 1 0)) ≡ Some (Some (true, 5))

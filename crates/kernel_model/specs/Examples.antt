-- Histories of small boots, worked out by hand.
use Rattle.std.specs.Prelude.{◌≡◌, ℕ, Bool, true, false, List, [], ◌∷◌, ◌++◌, length, take, drop, Option, Some, None}
use Rattle.std.specs.Prelude.{is_some, replicate}
use Rattle.std.specs.Option.{option_map}
use Rattle.event_journal.specs.declared.event.Event.{Event}
use Rattle.event_journal.specs.declared.event.Event.TheVariants.{Entry, Exit}
use Rattle.ns_ram.specs.Examples.{read_of}
use Rattle.kernel_model.specs.AnswerExamples.{AnswerExamples}
use Rattle.kernel_model.specs.AreaExamples.{AreaExamples}
use Rattle.kernel_model.specs.Instances.{fresh_memory}
use Rattle.kernel_model.specs.History.{IsLegal, held_after, kernel_after, left_before}
use Rattle.kernel_model.specs.Kernel.{Active, Suspended, ThreadSlot, Kernel, first_kernel}
use Rattle.kernel_model.specs.ResultExamples.{ResultExamples}
use Rattle.kernel_model.specs.RpcExamples.{RpcExamples}
use Rattle.kernel_model.specs.StorageExamples.{StorageExamples}
use Rattle.kernel_model.specs.Worked.{add, panic, mark, size, create_fails, open_fails, open_panics, open_succeeds}
use Rattle.kernel_model.specs.Worked.{boot, boot_native, half, word, names, kernel_of, open_argument, adds, invokes}
use Rattle.kernel_model.specs.Worked.{closes, argument, head, used_head, param, Comes, Leaves, Move, call_of, resume_of}
use Rattle.kernel_model.specs.Worked.{both, call, resume, opens, returns_of, returns_after, history_of, answer}
use Rattle.kernel_model.specs.Worked.{writes_at, ok, ok_with, opened, summed, interrupt, refused, by_client}
use Rattle.kernel_model.specs.Worked.{register_argument, unregister_argument, list_of}

-- a kernel whose next session and instance have this number
abbrev pub numbered : Kernel → ℕ → Kernel
numbered kernel number =
    record kernel { tables = record kernel.tables { next_session = number; next_instance = number } }

-- a history of the adder: who are you, an open, and a call while it is inside
abbrev pub legal_history : List Event
legal_history =
    Entry 0 (record { a = 0xbf00ff01 ∷ replicate 7 0 }) 1 []
    ∷ Exit 0 (record { a = 0x384fb3e0 ∷ 0xe7f811e3 ∷ 0xaf630002 ∷ 0xa5d5c51b ∷ replicate 4 0 })
    ∷ Entry 1 (record { a = call_of 0 }) 1000 open_argument
    ∷ Entry 0 (record { a = call_of 0 }) 1 []
    ∷ Exit 1 (record { a = answer 0 })
    ∷ []

abbrev pub is_legal : List Event → Bool
is_legal history = is_some (kernel_after (boot 2 1 1 add) history)

-- and it is a history from a boot
abbrev pub LegalHistory : Type 0
LegalHistory = IsLegal (boot 2 1 1 add) legal_history

-- a processor resumes what another began, begins a call of its own, and the stale resume of the first goes on with
-- that
abbrev pub stale : List Move
stale = call 0 1 (adds 5 7) ++ resume 1 9 0 ++ call 1 1 (adds 1 2) ++ resume 0 9 0

-- the steps that a call had done which was left suspended, and one on which a processor works
abbrev pub steps_left : Option ThreadSlot → Option (ℕ × ℕ)
steps_left (Some (Suspended client call)) = Some (client, call.steps)
steps_left _ = None

abbrev pub steps_active : Option ThreadSlot → Option (ℕ × ℕ)
steps_active (Some (Active cpu call)) = Some (cpu, call.steps)
steps_active _ = None

pub record Examples : Type 0 where
  -- an open, an invoke, a close, and an invoke of the session that isn't there any more
  pub open_invoke_close : returns_of (boot 1 1 1 add)
      (opens ++ call 0 1000 (adds 5 7)
      ++ call 0 1000 (argument (used_head 2 0 1 0 0 4 1) [])
      ++ call 0 1000 (argument (used_head 1 0 1 0 0 3 1) (param 3 12 0 0)))
      ≡ Some (opened 1 ∷ summed 12 ∷ ok 0 3 ∷ ok 0xffff0006 3 ∷ [])
  -- the only slot: a second invoke meets the limit while the first is inside, and not after it went out
  pub thread_limit : returns_after (boot 2 1 1 add) opens
      (Comes 0 (call_of 0) 1000 (adds 5 7) ∷ call 1 1000 [] ++ Leaves 0 ∷ call 1 1000 (adds 1 2))
      ≡ Some (refused 1 ∷ summed 12 ∷ summed 3 ∷ [])
  -- a slot whose call is suspended isn't free
  pub suspended_slot : returns_after (boot 1 1 1 add) opens (call 0 1 (adds 5 7) ++ call 0 1000 [] ++ resume 0 9 0)
      ≡ Some (interrupt 0 ∷ refused 1 ∷ summed 12 ∷ [])
  -- three opens on two slots, which get their sessions' numbers as they come in
  pub session_numbers : returns_of (boot 3 2 8 add)
      (Comes 0 (call_of 0) 1000 open_argument ∷ Comes 1 (call_of 0) 1000 open_argument ∷ call 2 1000 []
      ++ Leaves 0 ∷ call 2 1000 open_argument ++ Leaves 1 ∷ [])
      ≡ Some (refused 1 ∷ opened 1 ∷ opened 3 ∷ opened 2 ∷ [])
  -- a resume by client 6 of a call of client 5, and then by client 5
  pub other_client : returns_after (boot 1 1 1 add) (both 0 1000 (call_of 5) open_argument)
      (both 0 1 (call_of 5) (adds 5 7) ++ both 0 9 (resume_of 0 6) [] ++ both 0 9 (resume_of 0 5) [])
      ≡ Some (by_client 5 (interrupt 0) ∷ by_client 6 (refused 3) ∷ by_client 5 (summed 12) ∷ [])
  -- a stale resume goes on with the new call
  pub stale_resume : returns_after (boot 2 1 1 add) opens stale
      ≡ Some (interrupt 0 ∷ summed 12 ∷ interrupt 0 ∷ summed 3 ∷ [])
  -- one step at a time
  pub steps : returns_after (boot 1 1 1 add) opens
      (call 0 1 (adds 5 7) ++ resume 0 1 0 ++ resume 0 1 0 ++ resume 0 1 0 ++ resume 0 1 0 ++ resume 0 1 0)
      ≡ Some (interrupt 0 ∷ interrupt 0 ∷ interrupt 0 ∷ interrupt 0 ∷ interrupt 0 ∷ summed 12 ∷ [])
  -- a panic; the dead session, a living one beside it, and the close of the dead one
  pub panics : returns_of (boot 1 1 2 panic)
      (opens ++ opens ++ call 0 1000 (invokes 1 1) ++ call 0 1000 (invokes 1 1) ++ call 0 1000 (invokes 2 0)
      ++ call 0 1000 (closes 1))
      ≡ Some (opened 1 ∷ opened 2 ∷ ok 0xffff3024 3 ∷ ok 0xffff3024 3 ∷ ok 0 4 ∷ ok 0 3 ∷ [])
  -- one frame: a second open finds none, the memory stays with the session, and after its close it is zeros again
  pub cleared_page : returns_of (boot 1 1 1 mark)
      (opens ++ opens ++ call 0 1000 (invokes 1 0) ++ call 0 1000 (invokes 1 0) ++ call 0 1000 (closes 1) ++ opens
      ++ call 0 1000 (invokes 2 0))
      ≡ Some (opened 1 ∷ ok 0xffff000c 3 ∷ ok 0 4 ∷ ok 5 4 ∷ ok 0 3 ∷ opened 2 ∷ ok 0 4 ∷ [])
  -- an output of four bytes with a size of 4, and then of 5
  pub output_size : returns_after (boot 1 1 1 size) opens
      (call 0 1000 (argument (head 1 4 1 1) (param 0x1000a 0x40002000 4 0))
      ++ call 0 1000 (argument (head 1 5 1 1) (param 0x1000a 0x40002000 4 0)))
      ≡ Some (
      ok_with (writes_at 0x40000030 (word 4) ∷ writes_at 0x40002000 (0x41 ∷ 0 ∷ 0 ∷ 0 ∷ []) ∷ []) 0 4
      ∷ ok_with (writes_at 0x40000030 (word 5) ∷ []) 0 4
      ∷ [])
  -- a buffer of a page is registered, its cookie again, and unregistered while a call pins it, and after that
  pub pinned_buffer : returns_after (boot 2 2 1 mark) opens
      (call 0 1000 (register_argument 0x40100000 0x1000 0x31 ++ list_of 0x40200000)
      ++ call 0 1000 (register_argument 0x40100000 0x1000 0x31)
      ++ Comes 0 (call_of 0) 9 (argument (head 1 0 1 1) (param 5 0 0x10 0x31)
      ++ read_of 0x40200000 (replicate 16 0) ∷ [])
      ∷ call 1 9 (unregister_argument 0x31) ++ Leaves 0 ∷ call 1 9 (unregister_argument 0x31))
      ≡ Some (ok 0 3 ∷ ok 0xffff0006 3 ∷ ok 0xffff000d 3 ∷ ok 0 4 ∷ ok 0 3 ∷ [])
  -- an open that hands a value back tells its session behind it
  pub opens_with_a_value : returns_of (boot 1 1 1 open_succeeds)
      (call 0 1000 (argument (head 0 0 0 3) (names ++ param 3 5 7 0)))
      ≡ Some (ok_with (writes_at 0x40000068 (word 5) ∷ writes_at 0x40000070 (word 7)
      ∷ writes_at 0x40000008 (half 1) ∷ []) 0 4 ∷ [])
  -- the page of a dead instance is free for another
  pub page_of_the_dead : returns_of (boot 1 1 1 panic) (opens ++ call 0 1000 (invokes 1 1) ++ opens)
      ≡ Some (opened 1 ∷ ok 0xffff3024 3 ∷ opened 2 ∷ [])
  pub a_page : length (fresh_memory 1) ≡ 4096
  -- what these leave is the kernel of the boot, but for the next numbers
  pub nothing_left : kernel_of (boot 1 1 1 add) (opens ++ call 0 1000 (adds 5 7) ++ call 0 1000 (closes 1))
      ≡ Some (numbered (first_kernel (boot 1 1 1 add)) 2)
  pub nothing_left_of_the_dead : kernel_of (boot 1 1 1 panic)
      (opens ++ call 0 1000 (invokes 1 1) ++ call 0 1000 (closes 1))
      ≡ Some (numbered (first_kernel (boot 1 1 1 panic)) 2)
  pub nothing_left_of_create : kernel_of (boot 1 1 1 create_fails) opens
      ≡ Some (numbered (first_kernel (boot 1 1 1 create_fails)) 2)
  pub nothing_left_of_open : kernel_of (boot 1 1 1 open_fails) opens
      ≡ Some (numbered (first_kernel (boot 1 1 1 open_fails)) 2)
  pub nothing_left_unopened : kernel_of (boot 1 1 1 open_panics) opens
      ≡ Some (numbered (first_kernel (boot 1 1 1 open_panics)) 2)
  pub nothing_left_built_in : kernel_of (boot_native 1 1 1 7) (opens ++ call 0 1 (closes 1))
      ≡ Some (numbered (first_kernel (boot_native 1 1 1 7)) 2)
  -- legal histories, and those that aren't: with another register at an exit, with an event left out
  pub legal : is_legal legal_history ≡ true
  pub nothing_is_legal : is_legal [] ≡ true
  pub another_register : is_legal (take 4 legal_history ++ Exit 1 (record { a = answer 1 }) ∷ []) ≡ false
  pub exit_alone : is_legal (drop 1 legal_history) ≡ false
  pub moves_are_legal : option_map is_legal (history_of (boot 2 1 1 add) (opens ++ stale)) ≡ Some true
  -- the resume at place 8 continues what the exit at 7 left: a call that had done one step
  pub left : option_map (λ history. steps_left (left_before (boot 2 1 1 add) history 8 0))
      (history_of (boot 2 1 1 add) (opens ++ stale)) ≡ Some (Some (0, 1))
  pub goes_on : option_map (λ history. steps_active (held_after (boot 2 1 1 add) history 9 0))
      (history_of (boot 2 1 1 add) (opens ++ stale)) ≡ Some (Some (0, 1))
  pub answers : AnswerExamples
  pub results : ResultExamples
  pub requests : RpcExamples
  pub areas : AreaExamples
  pub storage : StorageExamples

-- Each result that no application returned, with its origin, 3.
use Rattle.std.specs.Prelude.{◌≡◌, ℕ, ◌^◌, List, [], ◌∷◌, ◌++◌, Some, map}
use Rattle.std.specs.List.{range_with_len}
use Rattle.ns_ram.specs.declared.read.Read.{Read}
use Rattle.session_table.specs.Examples.{public}
use Rattle.session_table.specs.Session.{reserved_for}
use Rattle.shm_registry.specs.Registered.{Registered}
use Rattle.kernel_model.specs.Kernel.{Kernel, first_kernel, first_tables}
use Rattle.kernel_model.specs.Worked.{boot_native, half, add, panic, mark, create_fails, open_fails, flagged, boot}
use Rattle.kernel_model.specs.Worked.{word, names, open_argument, adds, invokes, closes, argument, head, param, Comes}
use Rattle.kernel_model.specs.Worked.{Leaves, Move, call_of, both, call, resume, opens, cancels, wants_buffer}
use Rattle.kernel_model.specs.Worked.{returns_of, returns_after, returns_from, writes_at, ok, ok_with, opened}
use Rattle.kernel_model.specs.Worked.{register_argument, unregister_argument, list_of, by_client}

-- a call with these reads in a session of the adder has this result, which no application returned
abbrev pub Results : List Read → ℕ → Type 0
Results reads code = returns_after (boot 1 1 2 add) opens (call 0 1000 reads) ≡ Some (ok code 3 ∷ [])

-- the parameters of an open, and of an invoke
abbrev pub open_with : ℕ → List ℕ → List Read
open_with count params = argument (head 0 0 0 count) params

abbrev pub invoke_with : ℕ → List ℕ → List Read
invoke_with count params = argument (head 1 0 1 count) params

-- one parameter of an invoke
abbrev pub invoke_of : ℕ → ℕ → ℕ → ℕ → List Read
invoke_of attr p q s = invoke_with 1 (param attr p q s)

abbrev pub nothing : List ℕ
nothing = param 0 0 0 0

-- a session, and a buffer of a page under the cookie 31
abbrev pub with_buffer : List Move
with_buffer = opens ++ call 0 1000 (register_argument 0x40100000 0x1000 0x31 ++ list_of 0x40200000)

-- the kernel of the adder's boot with 64 sessions, or with the last number given, or with 64 buffers
abbrev pub with_sessions : Kernel
with_sessions =
    let sessions = map (λ number. (number, reserved_for 0 public 70)) (range_with_len 1 64) in
    record (first_kernel (boot 1 1 2 add)) { tables = record first_tables { sessions = sessions; next_session = 65 } }

abbrev pub without_numbers : Kernel
without_numbers = record (first_kernel (boot 1 1 2 add)) { tables = record first_tables { next_session = 2 ^ 32 } }

abbrev pub with_buffers : Kernel
with_buffers =
    let buffers = map (λ cookie. (cookie, record { pages = []; offset = 0; size = 0 })) (range_with_len 1 64) in
    let registered : Registered = record { buffers = buffers; pins = [] } in
    record (first_kernel (boot 1 1 2 add)) { tables = record first_tables { registered = registered } }

pub record ResultExamples : Type 0 where
  -- shapes: of an open
  pub one_name : Results (open_with 1 (param 0x101 0 0 0)) 0xffff0006
  pub no_meta : Results (open_with 2 (param 1 0 0 0 ++ param 0x101 0 0 0)) 0xffff0006
  pub no_value : Results (open_with 2 (param 0x101 0 0 0 ++ param 0x102 0 0 0)) 0xffff0006
  pub meta_behind : Results (open_with 3 (names ++ param 0x101 0 0 0)) 0xffff0006
  pub bad_attribute : Results (open_with 3 (names ++ param 4 0 0 0)) 0xffff0006
  -- of an invoke
  pub five : Results (invoke_with 5 (nothing ++ nothing ++ nothing ++ nothing ++ nothing)) 0xffff0006
  pub meta : Results (invoke_of 0x103 0 0 0) 0xffff0006
  -- of a register and an unregister
  pub register_nothing : Results (argument (head 4 0 0 0) []) 0xffff0006
  pub register_address : Results (argument (head 4 0 0 1) (param 0xa 0x40100000 1 0x31)) 0xffff0006
  pub register_two : Results (argument (head 4 0 0 2) (param 0x20a 0x40100000 1 0x31 ++ param 0x20a 0x40100000 1 0x32))
      0xffff0006
  pub unregister_address : Results (argument (head 5 0 0 1) (param 9 0x40100000 1 0x31)) 0xffff0006
  -- META of a register is accepted
  pub register_meta : Results (argument (head 4 0 0 1) (param 0x30a 0x40100000 1 0x31) ++ list_of 0x40200000) 0
  -- names: no application, no session, a session of another client, one that is being opened
  pub no_application : Results (open_with 2 (param 0x101 1 2 0 ++ param 0x101 0 0 0)) 0xffff0008
  pub no_session : Results (invokes 7 0) 0xffff0006
  pub no_session_to_close : Results (closes 7) 0xffff0006
  pub client_of_another : returns_after (boot 1 1 1 add) opens (both 0 1000 (call_of 6) (closes 1))
      ≡ Some (by_client 6 (ok 0xffff0006 3) ∷ [])
  pub being_opened : returns_of (boot 2 2 1 add) (Comes 0 (call_of 0) 1000 open_argument ∷ call 1 1000 (invokes 1 0))
      ≡ Some (ok 0xffff0006 3 ∷ [])
  -- a dead instance
  pub dead : returns_after (boot 1 1 1 panic) (opens ++ call 0 1000 (invokes 1 1)) (call 0 1000 (invokes 1 0))
      ≡ Some (ok 0xffff3024 3 ∷ [])
  -- the application's one session is there
  pub taken : returns_after (boot 1 1 2 (flagged 0x04 add)) opens opens ≡ Some (ok 0xffff000d 3 ∷ [])
  -- or is being opened
  pub being_opened_alone : returns_of (boot 2 2 1 (flagged 0x04 add))
      (Comes 0 (call_of 0) 1000 open_argument ∷ call 1 1000 open_argument)
      ≡ Some (ok 0xffff000d 3 ∷ [])
  -- shared limits
  pub no_pages : returns_after (boot 1 1 1 add) opens opens ≡ Some (ok 0xffff000c 3 ∷ [])
  pub sixty_four_sessions : returns_from (boot 1 1 2 add) with_sessions opens ≡ Some (ok 0xffff000c 3 ∷ [])
  pub last_number_given : returns_from (boot 1 1 2 add) without_numbers opens ≡ Some (ok 0xffff000c 3 ∷ [])
  -- faults of copying, of an invoke and of an open
  pub too_long : Results (invoke_of 9 0x40002000 65537 0) 0xffff0006
  pub no_cookie : Results (invoke_of 5 0 1 0x31) 0xffff0006
  pub past_ram : Results (invoke_of 0xa 0x403fffff 2 0) 0xffff0006
  pub bad_page : Results (invoke_of 0x209 0x40100000 1 0 ++ list_of 5) 0xffff0006
  pub past_the_buffer : returns_after (boot 1 1 1 add)
      (opens ++ call 0 1000 (register_argument 0x40100000 0x1000 0x31 ++ list_of 0x40200000))
      (call 0 1000 (invoke_of 5 0xfff 2 0x31)) ≡ Some (ok 0xffff0006 3 ∷ [])
  pub fault_of_an_open : Results (open_with 3 (names ++ param 9 0x40002000 65537 0)) 0xffff0006
  -- no session to cancel a call of
  pub no_session_to_cancel : Results (cancels 7 0) 0xffff0006
  -- of two causes the earlier test decides, and what is behind it isn't read
  pub shape_before_session : Results (argument (head 1 0 7 1) (param 0x103 0 0 0)) 0xffff0006
  pub application_before_copying : Results (open_with 3
      (param 0x101 1 2 0 ++ param 0x101 0 0 0 ++ param 9 0x40002000 65537 0)) 0xffff0008
  pub dead_before_copying : returns_after (boot 1 1 1 panic) (opens ++ call 0 1000 (invokes 1 1))
      (call 0 1000 (invoke_of 9 0x40002000 65537 0)) ≡ Some (ok 0xffff3024 3 ∷ [])
  pub limit_before_copying : returns_after (boot 1 1 1 add) opens
      (call 0 1000 (open_with 3 (names ++ param 9 0x40002000 65537 0))) ≡ Some (ok 0xffff000c 3 ∷ [])
  pub copying_before_held : returns_after (boot 2 2 1 add) (opens ++ Comes 0 (call_of 0) 1000 (adds 5 7) ∷ [])
      (call 1 1000 (invoke_of 9 0x40002000 65537 0)) ≡ Some (ok 0xffff0006 3 ∷ [])
  -- pins: a call that waits has its pins, one that fails copying has none, and a part of no bytes pins its buffer
  pub waiting_call_pins : returns_after (boot 3 3 1 add) with_buffer
      (Comes 0 (call_of 0) 1 (adds 5 7) ∷ call 1 1 (invoke_of 6 0 1 0x31) ++ call 2 1 (unregister_argument 0x31)
      ++ resume 1 1 1 ++ call 2 1 (unregister_argument 0x31))
      ≡ Some (wants_buffer 1 ∷ ok 0xffff000d 3 ∷ ok 0xffff000c 3 ∷ ok 0 3 ∷ [])
  pub fault_pins_nothing : returns_after (boot 2 2 1 add) with_buffer
      (Comes 0 (call_of 0) 1 (invoke_with 2 (param 6 0 1 0x31 ++ param 9 0x40002000 65537 0))
      ∷ call 1 1 (unregister_argument 0x31) ++ Leaves 0 ∷ [])
      ≡ Some (ok 0 3 ∷ ok 0xffff0006 3 ∷ [])
  pub empty_part_pins : returns_after (boot 2 2 1 add) with_buffer
      (Comes 0 (call_of 0) 1 (invoke_of 5 0 0 0x31) ∷ call 1 1 (unregister_argument 0x31))
      ≡ Some (ok 0xffff000d 3 ∷ [])
  -- registers and unregisters
  pub kept_cookie : returns_after (boot 1 1 1 add)
      (call 0 1 (register_argument 0x40100000 1 0x31 ++ list_of 0x40200000))
      (call 0 1 (register_argument 0 0 0x31)) ≡ Some (ok 0xffff0006 3 ∷ [])
  pub no_bytes : Results (register_argument 0x40100000 0 0x31) 0xffff0006
  pub many_pages : Results (register_argument 0x40100fff 4190210 0x31) 0xffff0006
  pub sixty_four_buffers : returns_from (boot 1 1 2 add) with_buffers (call 0 1 (register_argument 0x40100000 1 0x71))
      ≡ Some (ok 0xffff000c 3 ∷ [])
  pub bad_list : Results (register_argument 0 1 0x31) 0xffff0006
  pub bad_page_of_a_list : Results (register_argument 0x40100000 1 0x31 ++ list_of 0x40200800) 0xffff0006
  pub not_kept : Results (unregister_argument 0x31) 0xffff0006
  -- what an application returned has origin 4, with outputs: a create that fails, and an open that does. Neither
  -- leaves a session, and the frame is free again; the session's number isn't given again
  pub failing_create : returns_of (boot 1 1 1 create_fails)
      (call 0 1000 (open_with 3 (names ++ param 3 5 7 0)) ++ opens)
      ≡ Some (ok_with (writes_at 0x40000068 (word 5) ∷ writes_at 0x40000070 (word 7) ∷ []) 7 4 ∷ ok 7 4 ∷ [])
  pub failing_open : returns_of (boot 1 1 1 open_fails) (opens ++ opens ++ call 0 1000 (invokes 1 0))
      ≡ Some (ok 7 4 ∷ ok 7 4 ∷ ok 0xffff0006 3 ∷ [])
  -- an application that is built in: each session has an instance of its own, which has no pages; an invoke is one
  -- step, and open and close have none
  pub built_in : returns_of (boot_native 1 1 1 7)
      (opens ++ opens ++ call 0 1 (invokes 1 5) ++ call 0 1 (closes 1) ++ call 0 1 (invokes 1 5)
      ++ call 0 1 (invokes 2 5))
      ≡ Some (ok_with (writes_at 0x40000008 (half 1) ∷ []) 0 3 ∷ ok_with (writes_at 0x40000008 (half 2) ∷ []) 0 3
      ∷ ok 7 4 ∷ ok 0 3 ∷ ok 0xffff0006 3 ∷ ok 7 4 ∷ [])
  -- an instance that sessions share: two sessions on one page; one that is kept alive; one that panics, with an open
  -- while it is dead, and both closes
  pub shared : returns_of (boot 1 1 1 (flagged 0x0c add)) (opens ++ opens) ≡ Some (opened 1 ∷ opened 2 ∷ [])
  pub kept_alive : returns_of (boot 1 1 1 (flagged 0x14 mark))
      (opens ++ call 0 1000 (invokes 1 0) ++ call 0 1000 (closes 1) ++ opens ++ call 0 1000 (invokes 2 0))
      ≡ Some (opened 1 ∷ ok 0 4 ∷ ok 0 3 ∷ opened 2 ∷ ok 5 4 ∷ [])
  -- what isn't shared isn't kept alive
  pub not_kept_alive : returns_of (boot 1 1 1 (flagged 0x10 mark))
      (opens ++ call 0 1000 (invokes 1 0) ++ call 0 1000 (closes 1) ++ opens ++ call 0 1000 (invokes 2 0))
      ≡ Some (opened 1 ∷ ok 0 4 ∷ ok 0 3 ∷ opened 2 ∷ ok 0 4 ∷ [])
  pub dead_for_both : returns_after (boot 1 1 2 (flagged 0x0c panic)) (opens ++ opens)
      (call 0 1000 (invokes 1 1) ++ call 0 1000 (invokes 2 0) ++ opens ++ call 0 1000 (closes 1)
      ++ call 0 1000 (closes 2) ++ opens)
      ≡ Some (ok 0xffff3024 3 ∷ ok 0xffff3024 3 ∷ ok 0xffff3024 3 ∷ ok 0 3 ∷ ok 0 3 ∷ opened 3 ∷ [])

-- What a new call takes its slot for: each of its forms, with what its tests have shown. Of one that was settled it says
-- which test failed.
use Rattle.std.proofs.Common.{◌≡◌, ℕ, Bool, true, false, List, [], ◌∷◌, Option, Some, None, refl, subst}
use Rattle.std.specs.Prelude.{All, ◌+◌, ◌*◌, ◌==◌, find, if◌then◌else◌, is_none, is_some, length, nat_le, nat_lt, not}
use Rattle.std.specs.Option.{option_map_or}
use Rattle.std.proofs.lemmas.List.Elements.{All-from_recursion}
use Rattle.base.specs.NumberMap.{NumberMap, get}
use Rattle.job_model.specs.declared.call_kind.CallKind.TheVariants as kind
use Rattle.job_model.specs.declared.entry_point.EntryPoint.TheVariants.{Invoke}
use Rattle.msg_args.specs.Reading.{head_at}
use Rattle.ns_ram.specs.Attempt.{faultless}
use Rattle.ns_ram.specs.Reader.{take_bytes}
use Rattle.param_copy.specs.Copying.{Copies, copying}
use Rattle.session_table.specs.declared.session.Session.{Session}
use Rattle.shm_registry.specs.declared.page_buffer.PageBuffer.{PageBuffer}
use Rattle.shm_registry.specs.Registered.{lowest_slot}
use Rattle.kernel_model.specs.Application.{Application, Booted}
use Rattle.kernel_model.specs.Argument.{Opening, invocation, opening, params_in, registering, unregistering}
use Rattle.kernel_model.specs.Begin.{awaited_number, closing_points, opens_kept, opens_made, opens_new}
use Rattle.kernel_model.specs.Codes.{bad_parameters, busy, ebadaddr, ebadcmd, item_not_found, out_of_memory, target_dead}
use Rattle.kernel_model.specs.Decision.{Taken, Tested}
use Rattle.kernel_model.specs.Instances.{app_of, is_held}
use Rattle.kernel_model.specs.Kernel.{Instance, Tables}
use Rattle.kernel_model.specs.Located.{Located, has_argument, has_head, located}
use Rattle.kernel_model.specs.NewCall.{NewCall, beginner, cancel_calls, cancels, close_session, command_of, commands}
use Rattle.kernel_model.specs.NewCall.{copied_params, has_pages, has_session_room, invoke_command, is_taken, keeps_buffers}
use Rattle.kernel_model.specs.NewCall.{listed_pages, named_session, new_call_in, new_call_of, no_copies, open_session}
use Rattle.kernel_model.specs.NewCall.{open_waits, opener, pages_touched, parameters, register_memory}
use Rattle.kernel_model.specs.NewCall.{settles, settles_invoke, settles_open, shared_by, shares_one, unregister_memory}
use Rattle.kernel_model.proofs.Parts.{AllOf, option_map_some}
use Rattle.kernel_model.proofs.SoundNewCalls.{opening_taken, waiting_taken, working_taken}
use Rattle.kernel_model.proofs.Tests.{Ends, Fails, TakenIn, answer_known, answer_need, answer_read, faultless-fails}
use Rattle.kernel_model.proofs.Tests.{known-fails, known-then, need-by, need-then, reads-fails, taken_ends, test-then}
use Rattle.own_model.proofs.Lookups.{find-all}

-- what the tests of an open have shown before its parameters: its application, and that no test of the instance stops it
pub record Passes (c : NewCall) (wanted : Opening) (app : Application) : Type 0 where
  pub of_boot : app_of c.boot wanted.uuid ≡ Some app
  pub alive : shares_one c app (λ kept. kept.1.dead) ≡ false
  pub free : is_taken c app ≡ false

-- it holds of each form
pub record NewForms (c : NewCall) (P : Taken → Type 0) : Type 0 where
  pub settled : (code : ℕ) → P (settles c code)
  pub registered : (buffers : NumberMap PageBuffer) → P (keeps_buffers c buffers)
  -- an open that a test has stopped: by a dead instance, a session that has it alone, a shared limit, or faulty parameters
  pub open_dead : (wanted : Opening) (app : Application) → app_of c.boot wanted.uuid ≡ Some app →
      shares_one c app (λ kept. kept.1.dead) ≡ true → P (settles_open c app wanted.login target_dead)
  pub open_busy : (wanted : Opening) (app : Application) → app_of c.boot wanted.uuid ≡ Some app →
      shares_one c app (λ kept. kept.1.dead) ≡ false → is_taken c app ≡ true → P (settles_open c app wanted.login busy)
  pub open_limited : (wanted : Opening) (app : Application) → Passes c wanted app →
      P (settles_open c app wanted.login out_of_memory)
  pub open_faulty : (wanted : Opening) (app : Application) → Passes c wanted app →
      P (settles_open c app wanted.login bad_parameters)
  -- an invoke that one has
  pub invoke_dead : (named : Session × Instance) → named_session c ≡ Some named → named.1.dead ≡ true →
      P (settles_invoke c target_dead)
  pub invoke_faulty : (named : Session × Instance) → named_session c ≡ Some named → named.1.dead ≡ false →
      P (settles_invoke c bad_parameters)
  pub cancels : (named : Session × Instance) → named_session c ≡ Some named → P (cancels c)
  -- an open that begins or waits
  pub opens_kept : (wanted : Opening) (app : Application) (copies : Copies) (kept : ℕ × Instance) → Passes c wanted app →
      shared_by c app ≡ Some kept → is_held kept.1 ≡ false →
      P (opening_taken c wanted app copies (opens_kept (beginner c) (opener wanted app copies) kept))
  pub opens_awaited : (wanted : Opening) (app : Application) (copies : Copies) (number : ℕ) → Passes c wanted app →
      shared_by c app ≡ None → awaited_number c.tables app ≡ Some number →
      P (opening_taken c wanted app copies
      (opens_new (beginner c) (opener wanted app copies) number c.tables.next_instance))
  pub opens_next : (wanted : Opening) (app : Application) (copies : Copies) → Passes c wanted app →
      shared_by c app ≡ None → awaited_number c.tables app ≡ None →
      P (opening_taken c wanted app copies
      (opens_new (beginner c) (opener wanted app copies) c.tables.next_instance (c.tables.next_instance + 1)))
  pub open_waits : (wanted : Opening) (app : Application) (copies : Copies) (kept : ℕ × Instance) → Passes c wanted app →
      shared_by c app ≡ Some kept → is_held kept.1 ≡ true → P (open_waits c wanted app copies kept)
  -- an invoke or a close that does
  pub invokes : (named : Session × Instance) (copies : Copies) → named_session c ≡ Some named → named.1.dead ≡ false →
      is_held named.1 ≡ false →
      P (working_taken c (kind.Invoke c.head.func) named copies (Invoke c.head.func ∷ []))
  pub invoke_waits : (named : Session × Instance) (copies : Copies) → named_session c ≡ Some named →
      named.1.dead ≡ false → is_held named.1 ≡ true → P (waiting_taken c (kind.Invoke c.head.func) named copies)
  pub closes : (named : Session × Instance) → named_session c ≡ Some named → is_held named.1 ≡ false →
      P (working_taken c kind.Close named no_copies (closing_points (beginner c) c.head.session named.0 named.1))
  pub close_waits : (named : Session × Instance) → named_session c ≡ Some named → is_held named.1 ≡ true →
      P (waiting_taken c kind.Close named no_copies)

-- ---- each command

not_false : (test : Bool) → not test ≡ false → test ≡ true
not_false true e = refl
not_false false e = absurd cc

not_true : (test : Bool) → not test ≡ true → test ≡ false
not_true true e = absurd cc
not_true false e = refl

module _ (c : NewCall) (P : Taken → Type 0) (forms : NewForms c P) where
  parameters_fails : Fails P (parameters c)
  parameters_fails =
      reads-fails P (take_bytes (c.arg + 32) (32 * c.head.count)) _
      (λ bytes. known-fails P (params_in c.head.count bytes) (settles c bad_parameters) (forms.settled bad_parameters))

  if_test : (test : Bool) (first second : Taken) → (test ≡ true → P first) → (test ≡ false → P second)
      → P (if test then first else second)
  if_test true first second on_true on_false = on_true refl
  if_test false first second on_true on_false = on_false refl

  made : (wanted : Opening) (app : Application) (copies : Copies) (awaited : Option ℕ) → Passes c wanted app
      → shared_by c app ≡ None → awaited_number c.tables app ≡ awaited
      → P (opening_taken c wanted app copies (option_map_or
      (λ number. opens_new (beginner c) (opener wanted app copies) number c.tables.next_instance) awaited
      (opens_new (beginner c) (opener wanted app copies) c.tables.next_instance (c.tables.next_instance + 1))))
  made wanted app copies None shown none is = forms.opens_next wanted app copies shown none is
  made wanted app copies (Some number) shown none is = forms.opens_awaited wanted app copies number shown none is

  begun_in : (wanted : Opening) (app : Application) (copies : Copies) (found : Option (ℕ × Instance))
      → Passes c wanted app → shared_by c app ≡ found
      → P (option_map_or (λ (kept : ℕ × Instance). if is_held kept.1 then open_waits c wanted app copies kept
      else opening_taken c wanted app copies (option_map_or (opens_kept (beginner c) (opener wanted app copies)) found
      (opens_made (beginner c) (opener wanted app copies)))) found
      (opening_taken c wanted app copies (option_map_or (opens_kept (beginner c) (opener wanted app copies)) found
      (opens_made (beginner c) (opener wanted app copies)))))
  begun_in wanted app copies None shown is = made wanted app copies (awaited_number c.tables app) shown is refl
  begun_in wanted app copies (Some kept) shown is =
      if_test (is_held kept.1) (open_waits c wanted app copies kept) _
      (λ held. forms.open_waits wanted app copies kept shown is held)
      (λ free. forms.opens_kept wanted app copies kept shown is free)

  open_ends : Ends P (open_session c)
  open_ends =
      test-then P (parameters c) _ parameters_fails (λ params.
      known-then P (opening params) (settles c bad_parameters) _ (forms.settled bad_parameters) (λ wanted shape.
      known-then P (app_of c.boot wanted.uuid) (settles c item_not_found) _ (forms.settled item_not_found) (λ app is.
      need-by P (not (shares_one c app (λ kept. kept.1.dead))) (settles_open c app wanted.login target_dead) _
      (λ dead. forms.open_dead wanted app is (not_false _ dead)) (λ alive.
      need-by P (not (is_taken c app)) (settles_open c app wanted.login busy) _
      (λ taken. forms.open_busy wanted app is (not_true _ alive) (not_false _ taken)) (λ free.
      let passes : Passes c wanted app = record { of_boot = is; alive = not_true _ alive; free = not_true _ free } in
      need-then P (has_session_room c) (settles_open c app wanted.login out_of_memory) _
      (forms.open_limited wanted app passes) (
      need-then P (has_pages c app) (settles_open c app wanted.login out_of_memory) _
      (forms.open_limited wanted app passes) (
      test-then P (copied_params c wanted.params 2 (settles_open c app wanted.login bad_parameters)) _
      (faultless-fails P (copying c.tables.registered.buffers wanted.params 2)
      (settles_open c app wanted.login bad_parameters) (forms.open_faulty wanted app passes))
      (λ copies. begun_in wanted app copies (shared_by c app) passes refl))))))))

  invoke_ends : Ends P (invoke_command c)
  invoke_ends =
      test-then P (parameters c) _ parameters_fails (λ params.
      known-then P (invocation params) (settles c bad_parameters) _ (forms.settled bad_parameters) (λ invoked shape.
      known-then P (named_session c) (settles c bad_parameters) _ (forms.settled bad_parameters) (λ named is.
      need-by P (not named.1.dead) (settles_invoke c target_dead) _
      (λ dead. forms.invoke_dead named is (not_false _ dead)) (λ alive.
      test-then P (copied_params c invoked 0 (settles_invoke c bad_parameters)) _
      (faultless-fails P (copying c.tables.registered.buffers invoked 0) (settles_invoke c bad_parameters)
      (forms.invoke_faulty named is (not_true _ alive)))
      (λ copies.
      if_test (is_held named.1) (waiting_taken c (kind.Invoke c.head.func) named copies) _
      (λ held. forms.invoke_waits named copies is (not_true _ alive) held)
      (λ free. forms.invokes named copies is (not_true _ alive) free))))))

  close_ends : Ends P (close_session c)
  close_ends =
      known-then P (named_session c) (settles c bad_parameters) _ (forms.settled bad_parameters) (λ named is.
      if_test (is_held named.1) (waiting_taken c kind.Close named no_copies) _
      (λ held. forms.close_waits named is held) (λ free. forms.closes named is free))

  cancel_ends : Ends P (cancel_calls c)
  cancel_ends =
      known-then P (named_session c) (settles c bad_parameters) _ (forms.settled bad_parameters)
      (λ named is. forms.cancels named is)

  register_ends : Ends P (register_memory c)
  register_ends =
      test-then P (parameters c) _ parameters_fails (λ params.
      known-then P (registering params) (settles c bad_parameters) _ (forms.settled bad_parameters) (λ param shape.
      need-then P (is_none (get c.tables.registered.buffers param.s)) (settles c bad_parameters) _
      (forms.settled bad_parameters) (
      need-then P (nat_lt 0 param.q) (settles c bad_parameters) _ (forms.settled bad_parameters) (
      need-then P (nat_le (pages_touched param) 1024) (settles c bad_parameters) _ (forms.settled bad_parameters) (
      need-then P (nat_lt (length c.tables.registered.buffers) 64) (settles c out_of_memory) _
      (forms.settled out_of_memory) (
      test-then P (faultless (listed_pages param) (settles c bad_parameters)) _
      (faultless-fails P (listed_pages param) (settles c bad_parameters) (forms.settled bad_parameters))
      (λ pages. forms.registered _)))))))

  unregister_ends : Ends P (unregister_memory c)
  unregister_ends =
      test-then P (parameters c) _ parameters_fails (λ params.
      known-then P (unregistering params) (settles c bad_parameters) _ (forms.settled bad_parameters) (λ param shape.
      need-then P (is_some (get c.tables.registered.buffers param.s)) (settles c bad_parameters) _
      (forms.settled bad_parameters) (
      need-then P (is_none (lowest_slot c.tables.registered.pins param.s)) (settles c busy) _ (forms.settled busy)
      (forms.registered _))))

  -- each of them
  abbrev EndsSo : ℕ × (NewCall → Tested Taken) → Type 0
  EndsSo row = Ends P (row.1 c)

  pub command_ends : (cmd : ℕ) (command : NewCall → Tested Taken) → command_of cmd ≡ Some command → Ends P (command c)
  command_ends cmd command is =
      let row = option_map_some (λ (r : ℕ × (NewCall → Tested Taken)). r.1)
      (find (λ (r : ℕ × (NewCall → Tested Taken)). r.0 == cmd) commands) command is in
      let all : All EndsSo commands =
      All-from_recursion EndsSo commands
      (open_ends, (invoke_ends, (close_ends, (cancel_ends, (register_ends, (unregister_ends, tt)))))) in
      let found = find-all EndsSo (λ (r : ℕ × (NewCall → Tested Taken)). r.0 == cmd) commands row.0 all row.1 in
      subst (λ (f : NewCall → Tested Taken). Ends P (f c)) row.2 found.holds

-- ---- a whole call

-- what an entry's call takes its slot for, where the tables are these
pub call_ends : (boot : Booted) (tables : Tables) (regs : List ℕ) (slot : ℕ) (P : Taken → Type 0)
    → ((at : Located) (bytes : List ℕ) → NewForms (new_call_of boot tables regs slot at bytes) P)
    → AllOf (TakenIn P) (new_call_in boot tables regs slot)
call_ends boot tables regs slot P forms =
    answer_known P (located tables regs) ebadaddr _ (λ at there.
    answer_need P (has_head at) ebadaddr _ (
    answer_read P (take_bytes at.addr 32) _ (λ bytes.
    answer_need P (has_argument at (head_at bytes)) ebadaddr _ (
    answer_known P (command_of (head_at bytes).cmd) ebadcmd _ (λ command is.
    let c = new_call_of boot tables regs slot at bytes in
    taken_ends P (command c) (command_ends c P (forms at bytes) (head_at bytes).cmd command is))))))

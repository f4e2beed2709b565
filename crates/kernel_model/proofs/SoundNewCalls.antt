-- What a new call takes its slot for: each of its forms, with what its tests have shown.
use Rattle.std.proofs.Common.{◌≡◌, ℕ, Bool, true, false, List, [], ◌∷◌, Option, Some, None, Ok, Err, refl, subst}
use Rattle.std.specs.Prelude.{All, ◌+◌, ◌-◌, ◌*◌, ◌==◌, find, if◌then◌else◌, is_none, is_some, length, nat_le, nat_lt, not}
use Rattle.std.specs.Option.{option_map_or}
use Rattle.std.proofs.lemmas.List.Elements.{All-from_recursion, All-head, All-tail}
use Rattle.base.specs.NumberMap.{get}
use Rattle.job_model.specs.declared.call_kind.CallKind.{CallKind}
use Rattle.job_model.specs.declared.call_kind.CallKind.TheVariants as kind
use Rattle.job_model.specs.declared.entry_point.EntryPoint.{EntryPoint}
use Rattle.job_model.specs.declared.entry_point.EntryPoint.TheVariants.{Invoke}
use Rattle.msg_args.specs.Reading.{head_at}
use Rattle.msg_args.specs.declared.param.MsgParam.{MsgParam}
use Rattle.ns_ram.specs.Attempt.{Attempt, faultless, need, passes, ◌>>=◌}
use Rattle.ns_ram.specs.Reader.{done, take_bytes, want_bytes, want_words}
use Rattle.param_copy.specs.Copying.{Copies, copying}
use Rattle.session_table.specs.declared.session.Session.{Session}
use Rattle.shm_registry.specs.Registered.{lowest_slot}
use Rattle.smc_abi.specs.declared.answer.Answer.{Answer}
use Rattle.kernel_model.specs.Application.{Application, Booted}
use Rattle.kernel_model.specs.Argument.{Opening, invocation, opening, params_in, registering, unregistering}
use Rattle.kernel_model.specs.Begin.{Begun, awaited_number, begins_on, closing_points, opens_kept, opens_made, opens_new}
use Rattle.kernel_model.specs.Codes.{bad_parameters, busy, ebadaddr, ebadcmd, item_not_found, out_of_memory, target_dead}
use Rattle.kernel_model.specs.Decision.{Decision, Answers, Takes, Taken, Tested, decided_by}
use Rattle.kernel_model.specs.Instances.{app_of, is_held}
use Rattle.kernel_model.specs.Kernel.{Instance, Tables}
use Rattle.kernel_model.specs.Located.{Located, has_argument, has_head, located}
use Rattle.kernel_model.specs.NewCall.{NewCall, about_open, about_session, beginner, cancel_calls, cancels, close_session, command_of, commands, copied_params, drops_buffer, has_pages, has_session_room, invoke_command, is_taken, keeps_buffer, listed_pages, named_session, new_call_in, new_call_of, new_call_with, no_copies, offset_in, open_session, open_waits, opener, opens_or_waits, pages_touched, parameters, register_memory, runs_in, settles, settles_invoke, settles_open, shared_by, shares_one, unregister_memory, waits_in, with_session}
use Rattle.kernel_model.proofs.Copied.{AreCopied, AreGoodPages, Shows, copying_all, faultless-shows, invoked_room, known-shows, opening_room, params_counted, read-shows, shows-then, walk_pages}
use Rattle.kernel_model.proofs.Parts.{AllOf, option_map_some}
use Rattle.kernel_model.proofs.Tests.{Ends, Fails, TakenIn, answer_known, answer_need, answer_read, known-fails, known-then, need-by, reads-fails, taken_ends, test-then}
use Rattle.ta_params.specs.declared.login.Login.{Login}

-- a test, where its refusal needs nothing of it
need-then : (P : Taken → Type 0) (test : Bool) (refusal : Taken) (onward : Unit {0} → Tested Taken)
    → P refusal → (test ≡ true → Ends P (onward tt)) → Ends P (need test refusal >>= onward)
need-then P test refusal onward fails rest = need-by P test refusal onward (λ failed. fails) rest

-- ---- the forms

-- an open that has begun so
abbrev pub opening_taken : NewCall → Opening → Application → Copies → Begun → Taken
opening_taken c wanted app copies begun =
    runs_in c (with_session c wanted begun.tables begun.instance) (about_open c app copies begun.instance) copies.cookies begun.job

-- a call in the named session that begins
abbrev pub working_taken : NewCall → CallKind → Session × Instance → Copies → List EntryPoint → Taken
working_taken c call_kind named copies points =
    let begun = begins_on (beginner c) named.0 named.1 copies.params points in
    runs_in c begun.tables (about_session c call_kind named.0 named.1 copies) copies.cookies begun.job

abbrev pub waiting_taken : NewCall → CallKind → Session × Instance → Copies → Taken
waiting_taken c call_kind named copies = waits_in c c.tables (about_session c call_kind named.0 named.1 copies) copies

-- what the tests of an open have shown
pub record IsOpen (c : NewCall) (wanted : Opening) (app : Application) : Type 0 where
  pub of_boot : app_of c.boot wanted.uuid ≡ Some app
  pub alive : shares_one c app (λ kept. kept.1.dead) ≡ false
  pub free : is_taken c app ≡ false
  pub room : has_session_room c ≡ true
  pub pages : has_pages c app ≡ true

-- what the copying of its parameters has shown
abbrev pub IsCopied : NewCall → Copies → Type 0
IsCopied c copies = AreCopied c.tables.registered.buffers c.arg c.head.count copies

-- it holds of each form
pub record NewCases (c : NewCall) (P : Taken → Type 0) : Type 0 where
  pub settles : (code : ℕ) → P (settles c code)
  pub settles_open : (app : Application) (login : Login) (code : ℕ) → P (settles_open c app login code)
  pub settles_invoke : (named : Session × Instance) (code : ℕ) → named_session c ≡ Some named → P (settles_invoke c code)
  pub cancels : (named : Session × Instance) → named_session c ≡ Some named → P (cancels c)
  pub registers : (param : MsgParam) (pages : List ℕ) → is_none (get c.tables.registered.buffers param.s) ≡ true →
      nat_lt (length c.tables.registered.buffers) 64 ≡ true → AreGoodPages pages → P (keeps_buffer c param pages)
  pub unregisters : (param : MsgParam) → is_none (lowest_slot c.tables.registered.pins param.s) ≡ true → P (drops_buffer c param)
  pub opens_kept : (wanted : Opening) (app : Application) (copies : Copies) → IsCopied c copies → (kept : ℕ × Instance) → IsOpen c wanted app →
      shared_by c app ≡ Some kept → is_held kept.1 ≡ false → P (opening_taken c wanted app copies (opens_kept (beginner c) (opener wanted app copies) kept))
  pub opens_awaited : (wanted : Opening) (app : Application) (copies : Copies) → IsCopied c copies → (number : ℕ) → IsOpen c wanted app →
      shared_by c app ≡ None → awaited_number c.tables app ≡ Some number →
      P (opening_taken c wanted app copies (opens_new (beginner c) (opener wanted app copies) number c.tables.next_instance))
  pub opens_next : (wanted : Opening) (app : Application) (copies : Copies) → IsCopied c copies → IsOpen c wanted app → shared_by c app ≡ None →
      awaited_number c.tables app ≡ None →
      P (opening_taken c wanted app copies (opens_new (beginner c) (opener wanted app copies) c.tables.next_instance (c.tables.next_instance + 1)))
  pub open_waits : (wanted : Opening) (app : Application) (copies : Copies) → IsCopied c copies → (kept : ℕ × Instance) → IsOpen c wanted app →
      shared_by c app ≡ Some kept → is_held kept.1 ≡ true → P (open_waits c wanted app copies kept)
  pub invokes : (named : Session × Instance) (copies : Copies) → IsCopied c copies → named_session c ≡ Some named → named.1.dead ≡ false →
      is_held named.1 ≡ false → P (working_taken c (kind.Invoke c.head.func) named copies (Invoke c.head.func ∷ []))
  pub invoke_waits : (named : Session × Instance) (copies : Copies) → IsCopied c copies → named_session c ≡ Some named → named.1.dead ≡ false →
      is_held named.1 ≡ true → P (waiting_taken c (kind.Invoke c.head.func) named copies)
  pub closes : (named : Session × Instance) → named_session c ≡ Some named → is_held named.1 ≡ false →
      P (working_taken c kind.Close named no_copies (closing_points (beginner c) c.head.session named.0 named.1))
  pub close_waits : (named : Session × Instance) → named_session c ≡ Some named → is_held named.1 ≡ true →
      P (waiting_taken c kind.Close named no_copies)

-- it holds of each where it holds of all
pub all_cases : (c : NewCall) (P : Taken → Type 0) → ((taken : Taken) → P taken) → NewCases c P
all_cases c P all = record {
  settles = λ code. all _;
  settles_open = λ app login code. all _;
  settles_invoke = λ named code is. all _;
  cancels = λ named is. all _;
  registers = λ param pages new room good. all _;
  unregisters = λ param unpinned. all _;
  opens_kept = λ wanted app copies copied kept shown shared free. all _;
  opens_awaited = λ wanted app copies copied number shown shared awaited. all _;
  opens_next = λ wanted app copies copied shown shared awaited. all _;
  open_waits = λ wanted app copies copied kept shown shared held. all _;
  invokes = λ named copies copied is alive free. all _;
  invoke_waits = λ named copies copied is alive held. all _;
  closes = λ named is free. all _;
  close_waits = λ named is held. all _;
}

-- and where something from which it follows holds of each
pub cases_onward : (c : NewCall) (P Q : Taken → Type 0) → ((taken : Taken) → P taken → Q taken) → NewCases c P → NewCases c Q
cases_onward c P Q onward cases = record {
  settles = λ code. onward _ (cases.settles code);
  settles_open = λ app login code. onward _ (cases.settles_open app login code);
  settles_invoke = λ named code is. onward _ (cases.settles_invoke named code is);
  cancels = λ named is. onward _ (cases.cancels named is);
  registers = λ param pages new room good. onward _ (cases.registers param pages new room good);
  unregisters = λ param unpinned. onward _ (cases.unregisters param unpinned);
  opens_kept = λ wanted app copies copied kept shown shared free. onward _ (cases.opens_kept wanted app copies copied kept shown shared free);
  opens_awaited = λ wanted app copies copied number shown shared awaited. onward _ (cases.opens_awaited wanted app copies copied number shown shared awaited);
  opens_next = λ wanted app copies copied shown shared awaited. onward _ (cases.opens_next wanted app copies copied shown shared awaited);
  open_waits = λ wanted app copies copied kept shown shared held. onward _ (cases.open_waits wanted app copies copied kept shown shared held);
  invokes = λ named copies copied is alive free. onward _ (cases.invokes named copies copied is alive free);
  invoke_waits = λ named copies copied is alive held. onward _ (cases.invoke_waits named copies copied is alive held);
  closes = λ named is free. onward _ (cases.closes named is free);
  close_waits = λ named is held. onward _ (cases.close_waits named is held);
}

-- ---- each command

module _ (c : NewCall) (P : Taken → Type 0) (cases : NewCases c P) where
  parameters_fails : Fails P (parameters c)
  parameters_fails =
      reads-fails P (take_bytes (c.arg + 32) (32 * c.head.count)) _
      (λ bytes. known-fails P (params_in c.head.count bytes) (settles c bad_parameters) (cases.settles bad_parameters))

  if_test : (test : Bool) (first second : Taken) → (test ≡ true → P first) → (test ≡ false → P second) → P (if test then first else second)
  if_test true first second on_true on_false = on_true refl
  if_test false first second on_true on_false = on_false refl

  made : (wanted : Opening) (app : Application) (copies : Copies) → IsCopied c copies → (awaited : Option ℕ) → IsOpen c wanted app → shared_by c app ≡ None
      → awaited_number c.tables app ≡ awaited
      → P (opening_taken c wanted app copies (option_map_or
      (λ number. opens_new (beginner c) (opener wanted app copies) number c.tables.next_instance) awaited
      (opens_new (beginner c) (opener wanted app copies) c.tables.next_instance (c.tables.next_instance + 1))))
  made wanted app copies copied None shown none is = cases.opens_next wanted app copies copied shown none is
  made wanted app copies copied (Some number) shown none is = cases.opens_awaited wanted app copies copied number shown none is

  begun_in : (wanted : Opening) (app : Application) (copies : Copies) → IsCopied c copies → (found : Option (ℕ × Instance)) → IsOpen c wanted app
      → shared_by c app ≡ found
      → P (option_map_or (λ (kept : ℕ × Instance). if is_held kept.1 then open_waits c wanted app copies kept
      else opening_taken c wanted app copies (option_map_or (opens_kept (beginner c) (opener wanted app copies)) found (opens_made (beginner c) (opener wanted app copies))))
      found
      (opening_taken c wanted app copies (option_map_or (opens_kept (beginner c) (opener wanted app copies)) found (opens_made (beginner c) (opener wanted app copies)))))
  begun_in wanted app copies copied None shown is = made wanted app copies copied (awaited_number c.tables app) shown is refl
  begun_in wanted app copies copied (Some kept) shown is =
      if_test (is_held kept.1) (open_waits c wanted app copies kept) _
      (λ held. cases.open_waits wanted app copies copied kept shown is held)
      (λ free. cases.opens_kept wanted app copies copied kept shown is free)

  opens_or_waits_all : (wanted : Opening) (app : Application) (copies : Copies) → IsCopied c copies → IsOpen c wanted app → P (opens_or_waits c wanted app copies)
  opens_or_waits_all wanted app copies copied shown = begun_in wanted app copies copied (shared_by c app) shown refl

  not_true : (test : Bool) → not test ≡ true → test ≡ false
  not_true true e = absurd cc
  not_true false e = refl

  -- so many parameters as the head counts
  abbrev AreCounted : List MsgParam → Type 0
  AreCounted params = length params ≡ c.head.count

  parameters_show : Shows P AreCounted (parameters c)
  parameters_show =
      read-shows P AreCounted (take_bytes (c.arg + 32) (32 * c.head.count)) _
      (λ bytes. known-shows P AreCounted (params_in c.head.count bytes) (settles c bad_parameters) (cases.settles bad_parameters)
      (λ params is. params_counted c.head.count bytes params is))

  open_ends : Ends P (open_session c)
  open_ends =
      shows-then P AreCounted (parameters c) _ parameters_show (λ params counted.
      known-then P (opening params) (settles c bad_parameters) _ (cases.settles bad_parameters) (λ wanted shape.
      known-then P (app_of c.boot wanted.uuid) (settles c item_not_found) _ (cases.settles item_not_found) (λ app is.
      need-then P (not (shares_one c app (λ kept. kept.1.dead))) (settles_open c app wanted.login target_dead) _ (cases.settles_open app wanted.login target_dead) (λ alive.
      need-then P (not (is_taken c app)) (settles_open c app wanted.login busy) _ (cases.settles_open app wanted.login busy) (λ free.
      need-then P (has_session_room c) (settles_open c app wanted.login out_of_memory) _ (cases.settles_open app wanted.login out_of_memory) (λ room.
      need-then P (has_pages c app) (settles_open c app wanted.login out_of_memory) _ (cases.settles_open app wanted.login out_of_memory) (λ pages.
      shows-then P (IsCopied c) (copied_params c wanted.params 2 (settles_open c app wanted.login bad_parameters)) _
      (faultless-shows P (IsCopied c) (copying c.tables.registered.buffers wanted.params 2) (settles_open c app wanted.login bad_parameters)
      (cases.settles_open app wanted.login bad_parameters)
      (copying_all c.tables.registered.buffers wanted.params 2 c.arg c.head.count
      (opening_room params wanted c.head.count shape counted)))
      (λ copies copied. opens_or_waits_all wanted app copies copied (record {
        of_boot = is;
        alive = not_true _ alive;
        free = not_true _ free;
        room = room;
        pages = pages;
      })))))))))

  invoke_ends : Ends P (invoke_command c)
  invoke_ends =
      shows-then P AreCounted (parameters c) _ parameters_show (λ params counted.
      known-then P (invocation params) (settles c bad_parameters) _ (cases.settles bad_parameters) (λ invoked shape.
      known-then P (named_session c) (settles c bad_parameters) _ (cases.settles bad_parameters) (λ named is.
      need-then P (not named.1.dead) (settles_invoke c target_dead) _ (cases.settles_invoke named target_dead is) (λ alive.
      shows-then P (IsCopied c) (copied_params c invoked 0 (settles_invoke c bad_parameters)) _
      (faultless-shows P (IsCopied c) (copying c.tables.registered.buffers invoked 0) (settles_invoke c bad_parameters)
      (cases.settles_invoke named bad_parameters is)
      (copying_all c.tables.registered.buffers invoked 0 c.arg c.head.count
      (invoked_room params invoked c.head.count shape counted)))
      (λ copies copied.
      if_test (is_held named.1) (waiting_taken c (kind.Invoke c.head.func) named copies) _
      (λ held. cases.invoke_waits named copies copied is (not_true _ alive) held)
      (λ free. cases.invokes named copies copied is (not_true _ alive) free))))))

  close_ends : Ends P (close_session c)
  close_ends =
      known-then P (named_session c) (settles c bad_parameters) _ (cases.settles bad_parameters) (λ named is.
      if_test (is_held named.1) (waiting_taken c kind.Close named no_copies) _
      (λ held. cases.close_waits named is held) (λ free. cases.closes named is free))

  cancel_ends : Ends P (cancel_calls c)
  cancel_ends =
      known-then P (named_session c) (settles c bad_parameters) _ (cases.settles bad_parameters) (λ named is. cases.cancels named is)

  register_ends : Ends P (register_memory c)
  register_ends =
      test-then P (parameters c) _ parameters_fails (λ params.
      known-then P (registering params) (settles c bad_parameters) _ (cases.settles bad_parameters) (λ param shape.
      need-then P (is_none (get c.tables.registered.buffers param.s)) (settles c bad_parameters) _ (cases.settles bad_parameters) (λ new.
      need-then P (nat_lt 0 param.q) (settles c bad_parameters) _ (cases.settles bad_parameters) (λ some.
      need-then P (nat_le (pages_touched param) 1024) (settles c bad_parameters) _ (cases.settles bad_parameters) (λ few.
      need-then P (nat_lt (length c.tables.registered.buffers) 64) (settles c out_of_memory) _ (cases.settles out_of_memory) (λ room.
      shows-then P AreGoodPages (faultless (listed_pages param) (settles c bad_parameters)) _
      (faultless-shows P AreGoodPages (listed_pages param) (settles c bad_parameters) (cases.settles bad_parameters) (walk_pages (param.p - offset_in param) (pages_touched param)))
      (λ pages good. cases.registers param pages new room good)))))))

  unregister_ends : Ends P (unregister_memory c)
  unregister_ends =
      test-then P (parameters c) _ parameters_fails (λ params.
      known-then P (unregistering params) (settles c bad_parameters) _ (cases.settles bad_parameters) (λ param shape.
      need-then P (is_some (get c.tables.registered.buffers param.s)) (settles c bad_parameters) _ (cases.settles bad_parameters) (λ there.
      need-then P (is_none (lowest_slot c.tables.registered.pins param.s)) (settles c busy) _ (cases.settles busy) (λ unpinned.
      cases.unregisters param unpinned))))

  -- each of them
  abbrev EndsSo : ℕ × (NewCall → Tested Taken) → Type 0
  EndsSo row = Ends P (row.1 c)

  row_ends : (rows : List (ℕ × (NewCall → Tested Taken))) (row : ℕ × (NewCall → Tested Taken)) (cmd : ℕ) → All EndsSo rows
      → find (λ (r : ℕ × (NewCall → Tested Taken)). r.0 == cmd) rows ≡ Some row → Ends P (row.1 c)
  row_ends [] row cmd all e = absurd cc
  row_ends (first ∷ rows) row cmd all e =
      by_test (first.0 == cmd) (row_ends rows row cmd (All-tail EndsSo first rows all)) e
    where
      by_test : (test : Bool) → (find (λ (r : ℕ × (NewCall → Tested Taken)). r.0 == cmd) rows ≡ Some row → Ends P (row.1 c))
          → (if test then Some first else find (λ (r : ℕ × (NewCall → Tested Taken)). r.0 == cmd) rows) ≡ Some row → Ends P (row.1 c)
      by_test true rest here =
          let same : first ≡ row = cc in
          subst EndsSo same (All-head EndsSo first rows all)
      by_test false rest later = rest later

  pub command_ends : (cmd : ℕ) (command : NewCall → Tested Taken) → command_of cmd ≡ Some command → Ends P (command c)
  command_ends cmd command is =
      let row = option_map_some (λ (r : ℕ × (NewCall → Tested Taken)). r.1) (find (λ (r : ℕ × (NewCall → Tested Taken)). r.0 == cmd) commands) command is in
      let all : All EndsSo commands =
      All-from_recursion EndsSo commands (open_ends, (invoke_ends, (close_ends, (cancel_ends, (register_ends, (unregister_ends, tt)))))) in
      subst (λ (f : NewCall → Tested Taken). Ends P (f c)) row.2 (row_ends commands row.0 cmd all row.1)

-- ---- a whole call

call_ends : (boot : Booted) (tables : Tables) (regs : List ℕ) (slot : ℕ) (P : Taken → Type 0)
    → ((found : Located) (bytes : List ℕ) → located tables regs ≡ Some found → has_argument found (head_at bytes) ≡ true
    → NewCases (new_call_of boot tables regs slot found bytes) P)
    → AllOf (TakenIn P) (new_call_in boot tables regs slot)
call_ends boot tables regs slot P cases =
    answer_known P (located tables regs) ebadaddr _ (λ found lies.
    answer_need P (has_head found) ebadaddr _ (
    answer_read P (take_bytes found.addr 32) _ (λ bytes.
    where_it_holds (has_argument found (head_at bytes)) _ (λ fits.
    answer_known P (command_of (head_at bytes).cmd) ebadcmd _ (λ command is.
    let c = new_call_of boot tables regs slot found bytes in
    taken_ends P (command c) (command_ends c P (cases found bytes lies fits) (head_at bytes).cmd command is))))))
  where
    where_it_holds : (test : Bool) (onward : Unit {0} → Attempt Answer Taken) → (test ≡ true → AllOf (TakenIn P) (onward tt))
        → AllOf (TakenIn P) (need test ebadaddr >>= onward)
    where_it_holds true onward rest = rest refl
    where_it_holds false onward rest = tt

slot_decides : (Q : Decision → Type 0) (slot : ℕ) (attempt : Attempt Answer Taken) → ((answer : Answer) → Q (Answers answer))
    → AllOf (TakenIn (λ taken. Q (Takes slot taken))) attempt → AllOf Q (decided_by (attempt >>= (λ taken. passes (slot, taken))))
slot_decides Q slot (done (Ok taken)) answers all = all
slot_decides Q slot (done (Err answer)) answers all = answers answer
slot_decides Q slot (want_bytes addr len next) answers all = λ got. slot_decides Q slot (next got) answers (all got)
slot_decides Q slot (want_words addr most test next) answers all = λ got. slot_decides Q slot (next got) answers (all got)

-- it holds of what a new call decides where it holds of each answer and of each form
pub new_decides : (Q : Decision → Type 0) (boot : Booted) (tables : Tables) (regs : List ℕ) (free : Option ℕ) → ((answer : Answer) → Q (Answers answer))
    → ((slot : ℕ) (found : Located) (bytes : List ℕ) → free ≡ Some slot → located tables regs ≡ Some found
    → has_argument found (head_at bytes) ≡ true → NewCases (new_call_of boot tables regs slot found bytes) (λ taken. Q (Takes slot taken)))
    → AllOf Q (decided_by (new_call_with boot tables regs free))
new_decides Q boot tables regs None answers cases = answers _
new_decides Q boot tables regs (Some slot) answers cases =
    slot_decides Q slot (new_call_in boot tables regs slot) answers
    (call_ends boot tables regs slot (λ taken. Q (Takes slot taken)) (λ found bytes lies fits. cases slot found bytes refl lies fits))

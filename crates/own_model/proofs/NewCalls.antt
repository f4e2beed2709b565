-- What holds of each way in which a new call can end, where it holds of each of what its commands decide.
use Rattle.std.proofs.Common.{◌≡◌, ℕ, Bool, true, false, List, Some, refl, subst}
use Rattle.std.specs.Prelude.{All, find, is_none, is_some, length, nat_le, nat_lt, not, ◌*◌, ◌+◌, ◌==◌}
use Rattle.std.proofs.lemmas.List.Elements.{All-from_recursion}
use Rattle.base.specs.NumberMap.{NumberMap, get}
use Rattle.msg_args.specs.Reading.{head_at}
use Rattle.ns_ram.specs.Attempt.{faultless}
use Rattle.ns_ram.specs.Reader.{take_bytes}
use Rattle.param_copy.specs.Copying.{Copies, copying}
use Rattle.session_table.specs.declared.session.Session.{Session}
use Rattle.shm_registry.specs.declared.page_buffer.PageBuffer.{PageBuffer}
use Rattle.shm_registry.specs.Registered.{lowest_slot}
use Rattle.kernel_model.specs.Application.{Application, Booted}
use Rattle.kernel_model.specs.Argument.{Opening, invocation, opening, params_in, registering}
use Rattle.kernel_model.specs.Argument.{unregistering}
use Rattle.kernel_model.specs.Codes.{bad_parameters, busy, ebadaddr, ebadcmd, item_not_found, out_of_memory}
use Rattle.kernel_model.specs.Codes.{target_dead}
use Rattle.kernel_model.specs.Decision.{Taken, Tested}
use Rattle.kernel_model.specs.Instances.{app_of}
use Rattle.kernel_model.specs.Kernel.{Instance, Tables}
use Rattle.kernel_model.specs.NewCall.{NewCall, cancel_calls, cancels, close_session, closes, command_of, commands}
use Rattle.kernel_model.specs.NewCall.{copied_params, has_pages, has_session_room, invoke_command}
use Rattle.kernel_model.specs.Located.{Located, has_argument, has_head, located}
use Rattle.kernel_model.specs.NewCall.{invokes, is_taken, keeps_buffers, listed_pages, named_session}
use Rattle.kernel_model.specs.NewCall.{new_call_in, new_call_of, open_session, opens_or_waits, pages_touched}
use Rattle.kernel_model.specs.NewCall.{parameters, register_memory, settles, settles_invoke, settles_open, shares_one}
use Rattle.kernel_model.specs.NewCall.{unregister_memory}
use Rattle.kernel_model.proofs.Parts.{AllOf, option_map_some}
use Rattle.kernel_model.proofs.Tests.{Ends, Fails, TakenIn, answer_known, answer_need, answer_read, faultless-fails}
use Rattle.kernel_model.proofs.Tests.{known-fails, known-then, need-by, need-then, reads-fails, taken_ends, test-then}
use Rattle.own_model.proofs.Lookups.{find-all}
use Rattle.ta_params.specs.declared.login.Login.{Login}

-- ---- commands

-- it holds of what a slot is taken for, whichever test of a command fails, and where none does
pub record OfAllEndings (P : Taken → Type 0) (c : NewCall) : Type 0 where
  pub settled : (code : ℕ) → P (settles c code)
  pub settled_open : (of : Application) (login : Login) (code : ℕ) → P (settles_open c of login code)
  pub opened : (wanted : Opening) (of : Application) (copies : Copies) → app_of c.boot wanted.uuid ≡ Some of
      → P (opens_or_waits c wanted of copies)
  pub dead : (named : Session × Instance) → named_session c ≡ Some named → named.1.dead ≡ true
      → P (settles_invoke c target_dead)
  pub faulty : (named : Session × Instance) → named_session c ≡ Some named → named.1.dead ≡ false
      → P (settles_invoke c bad_parameters)
  pub invoked : (named : Session × Instance) (copies : Copies) → named_session c ≡ Some named → named.1.dead ≡ false
      → P (invokes c named copies)
  pub closed : (named : Session × Instance) → named_session c ≡ Some named → P (closes c named)
  pub cancelled : (named : Session × Instance) → named_session c ≡ Some named → P (cancels c)
  pub registered : (buffers : NumberMap PageBuffer) → P (keeps_buffers c buffers)

parameters_fails : (P : Taken → Type 0) (c : NewCall) → OfAllEndings P c → Fails P (parameters c)
parameters_fails P c all =
    reads-fails P (take_bytes (c.arg + 32) (32 * c.head.count)) _
    (λ bytes. known-fails P (params_in c.head.count bytes) (settles c bad_parameters) (all.settled bad_parameters))

open_ends : (P : Taken → Type 0) (c : NewCall) → OfAllEndings P c → Ends P (open_session c)
open_ends P c all =
    test-then P (parameters c) _ (parameters_fails P c all) (λ params.
    known-then P (opening params) (settles c bad_parameters) _ (all.settled bad_parameters) (λ wanted shape.
    known-then P (app_of c.boot wanted.uuid) (settles c item_not_found) _ (all.settled item_not_found) (λ of is.
    need-then P (not (shares_one c of (λ kept. kept.1.dead))) (settles_open c of wanted.login target_dead) _
    (all.settled_open of wanted.login target_dead) (
    need-then P (not (is_taken c of)) (settles_open c of wanted.login busy) _ (all.settled_open of wanted.login busy) (
    need-then P (has_session_room c) (settles_open c of wanted.login out_of_memory) _ (all.settled_open of wanted.login out_of_memory) (
    need-then P (has_pages c of) (settles_open c of wanted.login out_of_memory) _ (all.settled_open of wanted.login out_of_memory) (
    test-then P (copied_params c wanted.params 2 (settles_open c of wanted.login bad_parameters)) _
    (faultless-fails P (copying c.tables.registered.buffers wanted.params 2) (settles_open c of wanted.login bad_parameters)
    (all.settled_open of wanted.login bad_parameters))
    (λ copies. all.opened wanted of copies is))))))))

is_dead : (dead : Bool) → not dead ≡ false → dead ≡ true
is_dead true e = refl
is_dead false e = absurd cc

is_alive : (dead : Bool) → not dead ≡ true → dead ≡ false
is_alive true e = absurd cc
is_alive false e = refl

invoke_ends : (P : Taken → Type 0) (c : NewCall) → OfAllEndings P c → Ends P (invoke_command c)
invoke_ends P c all =
    test-then P (parameters c) _ (parameters_fails P c all) (λ params.
    known-then P (invocation params) (settles c bad_parameters) _ (all.settled bad_parameters) (λ invoked shape.
    known-then P (named_session c) (settles c bad_parameters) _ (all.settled bad_parameters) (λ named is.
    need-by P (not named.1.dead) (settles_invoke c target_dead) _
    (λ dead. all.dead named is (is_dead named.1.dead dead)) (λ alive.
    test-then P (copied_params c invoked 0 (settles_invoke c bad_parameters)) _
    (faultless-fails P (copying c.tables.registered.buffers invoked 0) (settles_invoke c bad_parameters)
    (all.faulty named is (is_alive named.1.dead alive)))
    (λ copies. all.invoked named copies is (is_alive named.1.dead alive))))))

close_ends : (P : Taken → Type 0) (c : NewCall) → OfAllEndings P c → Ends P (close_session c)
close_ends P c all =
    known-then P (named_session c) (settles c bad_parameters) _ (all.settled bad_parameters)
    (λ named is. all.closed named is)

cancel_ends : (P : Taken → Type 0) (c : NewCall) → OfAllEndings P c → Ends P (cancel_calls c)
cancel_ends P c all =
    known-then P (named_session c) (settles c bad_parameters) _ (all.settled bad_parameters)
    (λ named is. all.cancelled named is)

register_ends : (P : Taken → Type 0) (c : NewCall) → OfAllEndings P c → Ends P (register_memory c)
register_ends P c all =
    test-then P (parameters c) _ (parameters_fails P c all) (λ params.
    known-then P (registering params) (settles c bad_parameters) _ (all.settled bad_parameters) (λ param shape.
    need-then P (is_none (get c.tables.registered.buffers param.s)) (settles c bad_parameters) _
    (all.settled bad_parameters) (
    need-then P (nat_lt 0 param.q) (settles c bad_parameters) _ (all.settled bad_parameters) (
    need-then P (nat_le (pages_touched param) 1024) (settles c bad_parameters) _ (all.settled bad_parameters) (
    need-then P (nat_lt (length c.tables.registered.buffers) 64) (settles c out_of_memory) _
    (all.settled out_of_memory) (
    test-then P (faultless (listed_pages param) (settles c bad_parameters)) _
    (faultless-fails P (listed_pages param) (settles c bad_parameters) (all.settled bad_parameters))
    (λ pages. all.registered _)))))))

unregister_ends : (P : Taken → Type 0) (c : NewCall) → OfAllEndings P c → Ends P (unregister_memory c)
unregister_ends P c all =
    test-then P (parameters c) _ (parameters_fails P c all) (λ params.
    known-then P (unregistering params) (settles c bad_parameters) _ (all.settled bad_parameters) (λ param shape.
    need-then P (is_some (get c.tables.registered.buffers param.s)) (settles c bad_parameters) _
    (all.settled bad_parameters) (
    need-then P (is_none (lowest_slot c.tables.registered.pins param.s)) (settles c busy) _ (all.settled busy)
    (all.registered _))))

-- each of them
abbrev EndsSo : (Taken → Type 0) → ℕ × (NewCall → Tested Taken) → Type 0
EndsSo P row = (c : NewCall) → OfAllEndings P c → Ends P (row.1 c)

all_end : (P : Taken → Type 0) → All (EndsSo P) commands
all_end P =
    All-from_recursion (EndsSo P) commands
    (open_ends P, (invoke_ends P, (close_ends P, (cancel_ends P, (register_ends P, (unregister_ends P, tt))))))

command_ends : (P : Taken → Type 0) (cmd : ℕ) (command : NewCall → Tested Taken) → command_of cmd ≡ Some command
    → (c : NewCall) → OfAllEndings P c → Ends P (command c)
command_ends P cmd command is c all =
    let row = option_map_some (λ (r : ℕ × (NewCall → Tested Taken)). r.1)
    (find (λ (r : ℕ × (NewCall → Tested Taken)). r.0 == cmd) commands) command is in
    let found = find-all (EndsSo P) (λ (r : ℕ × (NewCall → Tested Taken)). r.0 == cmd) commands row.0
    (all_end P) row.1 in
    subst (λ (f : NewCall → Tested Taken). Ends P (f c)) row.2 (found.holds c all)

-- ---- the tests of each call

-- what an entry's call takes its slot for, where the tables are these
pub call_ends : (boot : Booted) (tables : Tables) (regs : List ℕ) (slot : ℕ) (P : Taken → Type 0)
    → ((at : Located) (bytes : List ℕ) → OfAllEndings P (new_call_of boot tables regs slot at bytes))
    → AllOf (TakenIn P) (new_call_in boot tables regs slot)
call_ends boot tables regs slot P all =
    answer_known P (located tables regs) ebadaddr _ (λ at there.
    answer_need P (has_head at) ebadaddr _ (
    answer_read P (take_bytes at.addr 32) _ (λ bytes.
    answer_need P (has_argument at (head_at bytes)) ebadaddr _ (
    answer_known P (command_of (head_at bytes).cmd) ebadcmd _ (λ command is.
    let c = new_call_of boot tables regs slot at bytes in
    taken_ends P (command c) (command_ends P (head_at bytes).cmd command is c (all at bytes)))))))

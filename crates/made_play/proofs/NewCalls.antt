-- A new call whose parameters name no memory reads its argument alone.
use Rattle.std.proofs.Common.{◌≡◌, ℕ, ◌+◌, ◌-◌, ◌*◌, List, [], Some, Result, Ok, Err, subst, sym, arith}
use Rattle.std.specs.Prelude.{not}
use Rattle.msg_args.specs.Reading.{head_at}
use Rattle.msg_args.specs.declared.param.MsgParam.{MsgParam}
use Rattle.ns_ram.specs.Attempt.{after_pass, passes, read}
use Rattle.ns_ram.specs.Lane.{bytes_at}
use Rattle.ns_ram.specs.Reader.{done}
use Rattle.param_copy.specs.Copying.{copying}
use Rattle.smc_abi.specs.declared.answer.Answer.{Answer}
use Rattle.kernel_model.specs.Application.{Booted}
use Rattle.kernel_model.specs.Argument.{Opening, invocation, opening, params_in}
use Rattle.kernel_model.specs.Codes.{bad_parameters, busy, ebadaddr, ebadcmd, ethread_limit, item_not_found, out_of_memory, target_dead}
use Rattle.kernel_model.specs.Decision.{Taken, Tested, taken_by, taken_in}
use Rattle.kernel_model.specs.Instances.{app_of}
use Rattle.kernel_model.specs.Kernel.{Kernel, lowest_free}
use Rattle.kernel_model.specs.Located.{Located, has_argument, has_head, located}
use Rattle.kernel_model.specs.NewCall.{NewCall, command_of, has_pages, has_session_room, invoke_command, is_taken, named_session, new_call, new_call_in, new_call_of, new_call_with, open_session, settles, settles_invoke, settles_open, shares_one}
use Rattle.made_play.proofs.AtMost.{AtMost, faultless_then, known_then, need_then, read_alone, then_nothing}

-- the bytes of the parameters
abbrev pub param_bytes : List ℕ → NewCall → List ℕ
param_bytes lane c = bytes_at lane (c.arg + 32) (32 * c.head.count)

-- an open has two parameters
abbrev pub HasNamesAlone : List ℕ → NewCall → Type 0
HasNamesAlone lane c =
    (params : List MsgParam) (wanted : Opening) → params_in c.head.count (param_bytes lane c) ≡ Some params
    → opening params ≡ Some wanted → wanted.params ≡ []

-- those of an invoke are copied without reading
abbrev pub HasValuesAlone : List ℕ → NewCall → Type 0
HasValuesAlone lane c = (params invoked : List MsgParam) → params_in c.head.count (param_bytes lane c) ≡ Some params
    → invocation params ≡ Some invoked → AtMost lane (copying c.tables.registered.buffers invoked 0) 0

pub open_few : (lane : List ℕ) (c : NewCall) → HasNamesAlone lane c → AtMost lane (open_session c) (32 * c.head.count)
open_few lane c names = (
  omega arith,
  known_then lane (params_in c.head.count (param_bytes lane c)) (settles c bad_parameters) _ _ (λ params spelled.
      known_then lane (opening params) (settles c bad_parameters) _ _ (λ wanted shape.
      known_then lane (app_of c.boot wanted.uuid) (settles c item_not_found) _ _ (λ app is.
      need_then lane (not (shares_one c app (λ kept. kept.1.dead))) (settles_open c app wanted.login target_dead) _ _ (
      need_then lane (not (is_taken c app)) (settles_open c app wanted.login busy) _ _ (
      need_then lane (has_session_room c) (settles_open c app wanted.login out_of_memory) _ _ (
      need_then lane (has_pages c app) (settles_open c app wanted.login out_of_memory) _ _ (
      faultless_then lane (copying c.tables.registered.buffers wanted.params 2) (settles_open c app wanted.login bad_parameters) _ _
      (subst (λ (params : List MsgParam). AtMost lane (copying c.tables.registered.buffers params 2) 0)
      (sym (names params wanted spelled shape)) tt)
      (λ copies. tt)))))))),
)

pub invoke_few : (lane : List ℕ) (c : NewCall) → HasValuesAlone lane c
    → AtMost lane (invoke_command c) (32 * c.head.count)
invoke_few lane c values = (
  omega arith,
  known_then lane (params_in c.head.count (param_bytes lane c)) (settles c bad_parameters) _ _ (λ params spelled.
      known_then lane (invocation params) (settles c bad_parameters) _ _ (λ invoked shape.
      known_then lane (named_session c) (settles c bad_parameters) _ _ (λ named is.
      need_then lane (not named.1.dead) (settles_invoke c target_dead) _ _ (
      faultless_then lane (copying c.tables.registered.buffers invoked 0) (settles_invoke c bad_parameters) _ _
      (values params invoked spelled shape)
      (λ copies. tt))))),
)

-- a call with this command wants so many bytes behind its head
abbrev pub CommandFew : List ℕ → NewCall → ℕ → Type 0
CommandFew lane c most = (command : NewCall → Tested Taken) → command_of c.head.cmd ≡ Some command
    → AtMost lane (command c) most

-- a call that has its slot, and the answer that it is part of
in_answer : (lane : List ℕ) (tested : Tested Taken) (most : ℕ) → AtMost lane tested most
    → AtMost {A = Result Taken Answer} lane (read (taken_by tested)) most
in_answer lane tested most at =
    read_alone Answer lane (taken_by tested) most
    (then_nothing lane tested (λ result. done (taken_in result)) most at (λ result. tt))

with_slot : (lane : List ℕ) (slot : ℕ) (result : Result Taken Answer)
    → AtMost {A = Result (ℕ × Taken) Answer} lane (after_pass (λ taken. passes (slot, taken)) result) 0
with_slot lane slot (Ok taken) = tt
with_slot lane slot (Err answer) = tt

-- a new call wants its head, and what its command wants
module _ (lane : List ℕ) (boot : Booted) (kernel : Kernel) (regs : List ℕ) (most : ℕ) where
  abbrev pub head_bytes : Located → List ℕ
  head_bytes at = bytes_at lane at.addr 32

  abbrev pub call : ℕ → Located → NewCall
  call slot at = new_call_of boot kernel.tables regs slot at (head_bytes at)

  -- wherever its argument is
  abbrev pub EachFew : ℕ → Type 0
  EachFew slot = (at : Located) → located kernel.tables regs ≡ Some at → CommandFew lane (call slot at) most

  in_slot : (slot : ℕ) → EachFew slot → AtMost lane (new_call_in boot kernel.tables regs slot) (32 + most)
  in_slot slot few =
      known_then lane (located kernel.tables regs) ebadaddr _ (32 + most) (λ at there.
      need_then lane (has_head at) ebadaddr _ (32 + most) (
        omega arith,
        need_then lane (has_argument at (head_at (head_bytes at))) ebadaddr _ (32 + most - 32)
            (known_then lane (command_of (head_at (head_bytes at)).cmd) ebadcmd _ (32 + most - 32) (λ command is.
            let same : most ≡ 32 + most - 32 = omega arith in
            in_answer lane (command (call slot at)) (32 + most - 32)
            (subst (λ (n : ℕ). AtMost lane (command (call slot at)) n) same (few at there command is)))),
      ))

  pub new_call_few : ((slot : ℕ) → EachFew slot) → AtMost lane (new_call boot kernel regs) (32 + most)
  new_call_few each =
      then_nothing lane (new_call_with boot kernel.tables regs (lowest_free kernel.slots)) _ (32 + most)
      (known_then lane (lowest_free kernel.slots) ethread_limit _ (32 + most) (λ slot free.
      then_nothing lane (new_call_in boot kernel.tables regs slot) _ (32 + most) (in_slot slot (each slot))
      (with_slot lane slot)))
      (λ result. tt)

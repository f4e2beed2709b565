-- What stands at 40000000 once an argument of a made trace was written there, and what a call with it wants.
use Rattle.std.proofs.Common.{◌≡◌, ℕ, ◌+◌, ◌*◌, true, false, List, [], ◌∷◌, Some, refl, ap, subst, sym, ◌∙◌, arith}
use Rattle.msg_args.specs.Reading.{head_at}
use Rattle.msg_args.specs.declared.head.MsgHead.{MsgHead}
use Rattle.msg_args.specs.declared.kind.ParamKind.TheVariants.{ValueIn, ValueInout}
use Rattle.msg_args.specs.declared.param.MsgParam.{MsgParam}
use Rattle.ns_ram.specs.Lane.{bytes_at, bytes_put}
use Rattle.param_copy.specs.Copying.{copying}
use Rattle.kernel_model.specs.Application.{Booted}
use Rattle.kernel_model.specs.Argument.{Opening, argument_at, invocation, opening, opening_with, params_in}
use Rattle.kernel_model.specs.Decision.{Taken, Tested}
use Rattle.kernel_model.specs.Kernel.{Kernel}
use Rattle.kernel_model.specs.Located.{Located, at_address}
use Rattle.kernel_model.specs.NewCall.{NewCall, command_of, invoke_command, new_call, new_call_of, open_session}
use Rattle.workload.specs.Message.{head, param}
use Rattle.workload.specs.Work.{invoke_argument, open_argument}
use Rattle.made_play.proofs.AtMost.{AtMost, few_more}
use Rattle.made_play.proofs.NewCalls.{CommandFew, EachFew, HasNamesAlone, HasValuesAlone, invoke_few, new_call_few, open_few}

-- RAM where an argument was written
abbrev pub with_argument : List ℕ → List ℕ → List ℕ
with_argument old argument = bytes_put old 0x40000000 argument

-- the registers of a call that has it
abbrev pub call_regs : List ℕ
call_regs = 0x32000004 ∷ 0 ∷ 0x40000000 ∷ 0 ∷ 0 ∷ 0 ∷ 0 ∷ 0 ∷ []

abbrev head_of : List ℕ → List ℕ → MsgHead
head_of old argument = head_at (bytes_at (with_argument old argument) 0x40000000 32)

-- ---- the open

-- the parameters of an open name the application and its client
abbrev app_name : MsgParam
app_name = record {
  kind = ValueIn;
  meta = true;
  noncontig = false;
  cache = 0;
  p = 0x3333222211111111;
  q = 0x5555555555554444;
  s = 0;
}

abbrev client_name : MsgParam
client_name =
    record { kind = ValueIn; meta = true; noncontig = false; cache = 0; p = 0; q = 0; s = 0 }

open_cmd : (old : List ℕ) → (head_of old open_argument).cmd ≡ 0
unfolding open_argument head param
open_cmd old = refl

open_count : (old : List ℕ) → (head_of old open_argument).count ≡ 2
unfolding open_argument head param
open_count old = refl

open_params : (old : List ℕ)
    → params_in 2 (bytes_at (with_argument old open_argument) 0x40000020 64) ≡ Some (app_name ∷ client_name ∷ [])
unfolding open_argument head param
open_params old = refl

opens_alone : (old : List ℕ) (c : NewCall) → c.head.count ≡ 2 → c.arg ≡ 0x40000000
    → HasNamesAlone (with_argument old open_argument) c
opens_alone old c two there params wanted spelled shape =
    let lane = with_argument old open_argument in
    let at : params_in 2 (bytes_at lane 0x40000020 64) ≡ Some params =
    subst (λ (arg : ℕ). params_in 2 (bytes_at lane (arg + 32) 64) ≡ Some params) there
    (subst (λ (n : ℕ). params_in n (bytes_at lane (c.arg + 32) (32 * n)) ≡ Some params) two spelled) in
    let both = sym at ∙ open_params old in
    let same : params ≡ app_name ∷ client_name ∷ [] = cc in
    let named : Some (opening_with app_name client_name []) ≡ Some wanted =
    subst (λ (ps : List MsgParam). opening ps ≡ Some wanted) same shape in
    let is : opening_with app_name client_name [] ≡ wanted = cc in
    ap (λ (o : Opening). o.params) (sym is)

-- ---- the invoke

-- the parameter of an invoke is a value
abbrev summands : MsgParam
summands =
    record { kind = ValueInout; meta = false; noncontig = false; cache = 0; p = 5; q = 7; s = 0 }

invoke_cmd : (old : List ℕ) (session : ℕ) → (head_of old (invoke_argument session)).cmd ≡ 1
unfolding invoke_argument head param
invoke_cmd old session = refl

invoke_count : (old : List ℕ) (session : ℕ) → (head_of old (invoke_argument session)).count ≡ 1
unfolding invoke_argument head param
invoke_count old session = refl

invoke_params : (old : List ℕ) (session : ℕ)
    → params_in 1 (bytes_at (with_argument old (invoke_argument session)) 0x40000020 32) ≡ Some (summands ∷ [])
unfolding invoke_argument head param
invoke_params old session = refl

values_alone : (old : List ℕ) (session : ℕ) (c : NewCall) → c.head.count ≡ 1 → c.arg ≡ 0x40000000
    → HasValuesAlone (with_argument old (invoke_argument session)) c
values_alone old session c one there params invoked spelled shape =
    let lane = with_argument old (invoke_argument session) in
    let at : params_in 1 (bytes_at lane 0x40000020 32) ≡ Some params =
    subst (λ (arg : ℕ). params_in 1 (bytes_at lane (arg + 32) 32) ≡ Some params) there
    (subst (λ (n : ℕ). params_in n (bytes_at lane (c.arg + 32) (32 * n)) ≡ Some params) one spelled) in
    let both = sym at ∙ invoke_params old session in
    let same : params ≡ summands ∷ [] = cc in
    let named : Some (summands ∷ []) ≡ Some invoked =
    subst (λ (ps : List MsgParam). invocation ps ≡ Some invoked) same shape in
    let is : summands ∷ [] ≡ invoked = cc in
    subst (λ (ps : List MsgParam). AtMost lane (copying c.tables.registered.buffers ps 0) 0) is tt

-- ---- the calls

same_command : (one other : NewCall → Tested Taken) → Some one ≡ Some other → one ≡ other
same_command one other e = cc

-- where its argument is
abbrev called_at : Located
called_at = at_address false (argument_at call_regs)

same_place : (one other : Located) → Some one ≡ Some other → one ≡ other
same_place one other e = cc

-- the call in a slot
abbrev called_in : List ℕ → Booted → Kernel → ℕ → Located → NewCall
called_in lane boot kernel slot at = new_call_of boot kernel.tables call_regs slot at (bytes_at lane at.addr 32)

-- it is there, wherever else a call might be
at_its_place : (lane : List ℕ) (boot : Booted) (kernel : Kernel) (slot most : ℕ)
    → CommandFew lane (called_in lane boot kernel slot called_at) most → EachFew lane boot kernel call_regs most slot
at_its_place lane boot kernel slot most few at there =
    subst (λ (a : Located). CommandFew lane (called_in lane boot kernel slot a) most) (same_place called_at at there) few

-- a call with either wants at most 96 bytes
pub open_call_few : (old : List ℕ) (boot : Booted) (kernel : Kernel)
    → AtMost (with_argument old open_argument) (new_call boot kernel call_regs) 96
open_call_few old boot kernel =
    let lane = with_argument old open_argument in
    new_call_few lane boot kernel call_regs 64 (λ slot. at_its_place lane boot kernel slot 64 (λ command is.
    let c = called_in lane boot kernel slot called_at in
    let two : c.head.count ≡ 2 = open_count old in
    let opens : Some open_session ≡ Some command =
    subst (λ (cmd : ℕ). command_of cmd ≡ Some command) (open_cmd old) is in
    let few : AtMost lane (open_session c) 64 =
    subst (λ (n : ℕ). AtMost lane (open_session c) (32 * n)) two (open_few lane c (opens_alone old c two refl)) in
    subst (λ (f : NewCall → Tested Taken). AtMost lane (f c) 64) (same_command open_session command opens) few))

pub invoke_call_few : (old : List ℕ) (session : ℕ) (boot : Booted) (kernel : Kernel)
    → AtMost (with_argument old (invoke_argument session)) (new_call boot kernel call_regs) 96
invoke_call_few old session boot kernel =
    let lane = with_argument old (invoke_argument session) in
    new_call_few lane boot kernel call_regs 64 (λ slot. at_its_place lane boot kernel slot 64 (λ command is.
    let c = called_in lane boot kernel slot called_at in
    let one : c.head.count ≡ 1 = invoke_count old session in
    let invokes : Some invoke_command ≡ Some command =
    subst (λ (cmd : ℕ). command_of cmd ≡ Some command) (invoke_cmd old session) is in
    let few : AtMost lane (invoke_command c) 32 =
    subst (λ (n : ℕ). AtMost lane (invoke_command c) (32 * n)) one
    (invoke_few lane c (values_alone old session c one refl)) in
    subst (λ (f : NewCall → Tested Taken). AtMost lane (f c) 64) (same_command invoke_command command invokes)
    (few_more lane (invoke_command c) 32 64 (omega arith) few)))

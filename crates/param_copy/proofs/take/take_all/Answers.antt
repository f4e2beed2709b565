use Rattle.std.proofs.Common.{◌≡◌, ◌+◌, ◌<◌, ℕ, List, Some, Err, false, length, get_or, refl, arith}
use Rattle.msg_args.specs.declared.kind.ParamKind.TheVariants.{Empty}
use Rattle.msg_args.specs.declared.param.MsgParam.{MsgParam}
use Rattle.ns_ram.specs.declared.read.Read.{Read}
use Rattle.ns_ram.specs.Reader.{over_lane}
use Rattle.param_copy.specs.Copying.{copying}
use Rattle.param_copy.specs.Outcome.{UnlessMemory}
use Rattle.param_copy.proofs.Appended.{AppendsReads-trans}
use Rattle.param_copy.proofs.Attempts.{UnlessMemory-map, refused-is}
use Rattle.param_copy.proofs.Taking.{Taking-all, Taking-cookies, Taking-next, Taking-none, Taking-places, Taking-refused, Taking-placed}
use Rattle.param_copy.proofs.take.take_all.Goals as goal

none : MsgParam
none = record { kind = Empty; meta = false; noncontig = false; cache = 0; p = 0; q = 0; s = 0 }

pub returns-in_err-take_param-clause-faulty : goal.returns-in_err-take_param-clause-faulty
unfolding none
returns-in_err-take_param-clause-faulty c =
    let params : List MsgParam = c.args.params.now in
    let lane : List ℕ = c.args.lane.now in
    let before : List Read = c.args.reads.now in
    let after : List Read = c.take_param.new.reads in
    let fault = c.in_err-take_param.field-0.0 in
    refused-is c.from_residual.result fault
    (λ fault. UnlessMemory fault (over_lane (copying c.args.registry.now.buffers params c.args.first) lane before ≡ Some (Err fault, after)))
    c.from_residual.ensures.1
    (UnlessMemory-map fault
    (Taking-refused c.args.registry.now.buffers params c.args.first lane before c.loop-i.i c.loop-i.taken c.loop-i.reads (get_or params c.loop-i.i none) none (c.args.first + c.loop-i.i) after fault c.loop-i.invariant c.loop-i-test.true refl refl)
    c.in_err-take_param.ensures.faulty)

pub loop-i-init : goal.loop-i-init
loop-i-init c =
    Taking-none c.args.registry.now.buffers c.args.params.now c.args.first c.args.lane.now c.args.reads.now c.none-taken.result c.none-taken.ensures.params c.none-taken.ensures.places c.none-taken.ensures.cookies

pub returns-in_err-take_param-clause-appended : goal.returns-in_err-take_param-clause-appended
returns-in_err-take_param-clause-appended c =
    AppendsReads-trans c.args.lane.now c.args.reads.now c.loop-i.reads c.take_param.new.reads c.loop-i.invariant.added c.in_err-take_param.ensures.appended

pub add-requires-clause-places : goal.add-requires-clause-places
add-requires-clause-places c =
    omega (arith, Taking-places c.args.registry.now.buffers c.args.params.now c.args.first c.args.lane.now c.args.reads.now c.loop-i.i c.loop-i.taken c.loop-i.reads c.loop-i.invariant)

pub add-requires-clause-cookies : goal.add-requires-clause-cookies
add-requires-clause-cookies c =
    omega (arith, Taking-cookies c.args.registry.now.buffers c.args.params.now c.args.first c.args.lane.now c.args.reads.now c.loop-i.i c.loop-i.taken c.loop-i.reads c.loop-i.invariant)

pub loop-i-preserved : goal.loop-i-preserved
unfolding none
loop-i-preserved c =
    let params : List MsgParam = c.args.params.now in
    let few : c.loop-i.i < 4 = omega arith in
    Taking-next c.args.registry.now.buffers params c.args.first c.args.lane.now c.args.reads.now c.loop-i.i c.loop-i.taken c.loop-i.reads (get_or params c.loop-i.i none) none (c.args.first + c.loop-i.i) c.in_ok-take_param.field-0 c.take_param.new.reads c.add.new.self c.loop-i.invariant c.loop-i-test.true few refl refl c.in_ok-take_param.ensures.ok c.in_ok-take_param.ensures.placed c.add.ensures.params c.add.ensures.places c.add.ensures.cookies

pub returns-clause-ok : goal.returns-clause-ok
returns-clause-ok c =
    let all : c.loop-i.i ≡ length c.args.params.now = omega arith in
    Taking-all c.args.registry.now.buffers c.args.params.now c.args.first c.args.lane.now c.args.reads.now c.loop-i.taken c.loop-i.reads (rw all at c.loop-i.invariant)

pub returns-clause-appended : goal.returns-clause-appended
returns-clause-appended c = c.loop-i.invariant.added

pub returns-clause-placed : goal.returns-clause-placed
returns-clause-placed c =
    let all : c.loop-i.i ≡ length c.args.params.now = omega arith in
    Taking-placed c.args.registry.now.buffers c.args.params.now c.args.first c.args.lane.now c.args.reads.now c.loop-i.taken c.loop-i.reads (rw all at c.loop-i.invariant) c.requires.few

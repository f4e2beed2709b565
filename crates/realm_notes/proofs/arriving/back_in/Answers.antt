use Rattle.std.proofs.Common.{◌≡◌, ℕ, ◌<◌, List, ap, arith, get_or, length, ◌∙◌}
use Rattle.std.specs.Global.{Box}
use Rattle.std.proofs.lemmas.Option.{get_or_from_slice_get}
use Rattle.std.proofs.lemmas.Result.{IfOk-weaker}
use Rattle.realm_notes.specs.Arriving.{IsBackIn, back_as}
use Rattle.realm_notes.proofs.Arrivals.{beside_there}
use Rattle.kernel_model.specs.Argument.{thread_in}
use Rattle.kernel_state.specs.declared.cancellation.Cancellation.{Cancellation}
use Rattle.resumed_calls.specs.Giving.{given_as}
use Rattle.rpc_cont.specs.declared.cont.Cont.{Cont}
use Rattle.realm_notes.proofs.arriving.back_in.Goals as goal

pub index-requires : goal.index-requires
index-requires c =
    let beside = c.args.core.now.parts.cancellations in
    let ok = beside.ok.0 in
    let below : get_or c.args.regs.now.a 3 0 < length beside.items =
    beside_there c.args.core.now.parts c.args.regs.now.a c.args.core.now.replay c.requires in
    omega arith

pub returns : goal.returns
returns c =
    let marked = c.index.result.now.marked in
    let given = given_as c.args.given.now in
    IfOk-weaker c.back_of.result (λ back. back ≡ back_as c.deref.result.now marked given)
    (IsBackIn c.args.core.now.parts c.args.regs.now.a given)
    (λ back made cont beside handed there.
    let same : c.in-Ok.cont.now ≡ cont = cc (c.in-Ok.ensures.waiting, handed) in
    let marks = c.index.ensures
    ∙ get_or_from_slice_get c.args.core.now.parts.cancellations.items (thread_in c.args.regs.now.a) beside c.index.result.now there in
    made
    ∙ ap (λ (k : Cont (List ℕ)). back_as k marked given) (c.deref.ensures ∙ ap (λ (b : Box (Cont (List ℕ))). b.value) same)
    ∙ ap (λ (b : Cancellation). back_as cont.value b.marked given) marks)
    c.back_of.ensures

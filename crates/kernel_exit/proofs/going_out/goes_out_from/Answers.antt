-- What is told is that of the call as it then is.
use Rattle.std.proofs.Common.{◌≡◌, ℕ, List, sym, subst, Option}
use Rattle.std.proofs.Math.Logic.{∥∥₁_elim}
use Rattle.std.specs.Prelude.{IsSome, IsSomeAnd}
use Rattle.kernel_state.specs.CallLeaving.{leaving_as}
use Rattle.kernel_model.specs.Exit.{progress_in, writes_of}
use Rattle.kernel_model.specs.Kernel.{PendingCall, Tables as AnyTables}
use Rattle.kernel_model.specs.Leaving.{leaving_of}
use Rattle.kernel_state.specs.Calls.{IsCall}
use Rattle.kernel_state.specs.Tables.{tables_of}
use Rattle.kernel_state.specs.declared.tables.Tables.{Tables as CoreTables}
use Rattle.ns_ram.specs.Writes.{lane_after}
use Rattle.rpc_cont.specs.declared.cont.Cont.{Cont as AnyCont}
use Rattle.rpc_cont.specs.declared.stop.ContStop.{ContStop as AnyStop}
use Rattle.kernel_exit.specs.Ending.{HasComeTo}
use Rattle.kernel_exit.specs.GoingOut.{CarriesCall, IsCarriedOut}
use Rattle.kernel_exit.specs.Telling.{CanBeTold}
use Rattle.kernel_exit.proofs.OneWay.{told_prop}
use Rattle.kernel_exit.proofs.ToBeTold.{carried_told, gone_from, pages_still}
use Rattle.kernel_exit.proofs.going_out.goes_out_from.Goals as goal

comes_as : (tables : AnyTables) (began cont one : AnyCont (List ℕ)) (why : Option AnyStop) (after : CoreTables) → began ≡ cont →
    ((call : PendingCall) (steps : ℕ) → IsCarriedOut began why call steps → IsSomeAnd (progress_in tables call steps call.phase) (λ progress. HasComeTo progress one after)) →
    (call : PendingCall) (steps : ℕ) → IsCarriedOut cont why call steps → IsSomeAnd (progress_in tables call steps call.phase) (λ progress. HasComeTo progress one after)
comes_as tables began cont one why after same comes call steps out =
    comes call steps (subst (λ (c : AnyCont (List ℕ)). IsCarriedOut c why call steps) (sym same) out)

pub tell-requires : goal.tell-requires
tell-requires c =
    let number : c.from.result ≡ c.args.slot = let e = c.from.ensures in cc in
    let before : c.deref_mut.result.now ≡ c.args.cont.value = let e = c.deref_mut.ensures.value in cc in
    let shown : c.deref.result.now ≡ c.comes_to.new.cont = let e = c.deref.ensures in let b = c.deref_mut.ensures.writes_back in cc in
    let told : c.deref-2.result.now ≡ c.comes_to.new.cont = let e = c.deref-2.ensures in let b = c.deref_mut.ensures.writes_back in cc in
    ∥∥₁_elim c.requires.call (told_prop c.deref-2.result.now c.of-leaving.result)
    (λ (carried : CarriesCall (tables_of c.args.parts.now.tables) c.args.slot c.args.cont.value c.args.why).
    subst (λ (cont : AnyCont (List ℕ)). CanBeTold cont c.of-leaving.result) (sym told)
    (carried_told (tables_of c.args.parts.now.tables) c.args.slot c.args.cont.value c.comes_to.new.cont c.args.why c.comes_to.new.tables c.of-leaving.result
    carried
    (comes_as (tables_of c.args.parts.now.tables) c.deref_mut.result.now c.args.cont.value c.comes_to.new.cont c.args.why c.comes_to.new.tables before c.comes_to.ensures.comes)
    (subst (λ (cont : AnyCont (List ℕ)). (call : PendingCall) → IsCall cont call → leaving_of c.args.slot call ≡ leaving_as cont c.of-leaving.result) shown
    (subst (λ (slot : ℕ). (call : PendingCall) → IsCall c.deref.result.now call → leaving_of slot call ≡ leaving_as c.deref.result.now c.of-leaving.result) number c.of-leaving.ensures.call))
    (λ place asks. subst (λ (cont : AnyCont (List ℕ)). IsSome cont.request) shown (c.of-leaving.ensures.asked place asks))))

pub returns-clause-gone : goal.returns-clause-gone
returns-clause-gone c =
    let number : c.from.result ≡ c.args.slot = let e = c.from.ensures in cc in
    let before : c.deref_mut.result.now ≡ c.args.cont.value = let e = c.deref_mut.ensures.value in cc in
    let shown : c.deref.result.now ≡ c.comes_to.new.cont = let e = c.deref.ensures in let b = c.deref_mut.ensures.writes_back in cc in
    let told : c.deref-2.result.now ≡ c.comes_to.new.cont = let e = c.deref-2.ensures in let b = c.deref_mut.ensures.writes_back in cc in
    record {
      gone = gone_from c.args.parts.now _ c.args.slot c.args.cont.value c.comes_to.new.cont c.args.why c.comes_to.new.tables c.of-leaving.result
          c.args.lane.now c.tell.new.lane c.answer_of.result
          (comes_as (tables_of c.args.parts.now.tables) c.deref_mut.result.now c.args.cont.value c.comes_to.new.cont c.args.why c.comes_to.new.tables before c.comes_to.ensures.comes)
          (subst (λ (cont : AnyCont (List ℕ)). (call : PendingCall) → IsCall cont call → leaving_of c.args.slot call ≡ leaving_as cont c.of-leaving.result) shown
          (subst (λ (slot : ℕ). (call : PendingCall) → IsCall c.deref.result.now call → leaving_of slot call ≡ leaving_as c.deref.result.now c.of-leaving.result) number c.of-leaving.ensures.call))
          c.answer_of.ensures
          (subst (λ (cont : AnyCont (List ℕ)). (call : PendingCall) → IsCall cont call → c.tell.new.lane ≡ lane_after c.args.lane.now (writes_of call (leaving_as cont c.of-leaving.result))) told c.tell.ensures)
          c.tables_left.ensures.tables c.slot_left.ensures.slot;
      pages = pages_still c.args.parts.now.setup c.comes_to.new.tables c.tables_left.new.tables c.tables_left.ensures.stays c.comes_to.ensures.pages;
    }

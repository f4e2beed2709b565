use Rattle.std.proofs.Common.{◌≡◌, ◌+◌, drop, true, false, sym, ap, ◌∙◌, arith}
use Rattle.std.specs.Prelude.{map}
use Rattle.kernel_state.specs.Booting.{first_repeated, has_uuid}
use Rattle.kernel_state.proofs.Apart.{found_at, passed_at}
use Rattle.kernel_state.proofs.repeats.first_repeated.Goals as goal

pub returns-then-contains : goal.returns-then-contains
returns-then-contains c =
    let seen = c.loop-app.seen.items in
    let app = c.app-item.result in
    let found : has_uuid seen app.uuid ≡ true = ap (λ uuids. has_uuid uuids app.uuid) (sym c.as_slice.ensures.value) ∙ sym c.contains.ensures.value ∙ c.if-contains.true in
    sym (found_at seen c.args.apps.now c.loop-app.app-index app c.loop-app-test.true c.app-item.is found) ∙ c.loop-app.invariant.finds

pub loop-app-preserved : goal.loop-app-preserved
loop-app-preserved c =
    let seen = c.loop-app.seen.items in
    let app = c.app-item.result in
    let new : has_uuid seen app.uuid ≡ false = ap (λ uuids. has_uuid uuids app.uuid) (sym c.as_slice.ensures.value) ∙ sym c.contains.ensures.value ∙ c.if-contains.false in
    record {
      room = omega arith;
      finds = ap (λ uuids. first_repeated uuids (map (λ app. app.uuid) (drop (c.loop-app.app-index + 1) c.args.apps.now))) c.push.ensures.items
          ∙ sym (passed_at seen c.args.apps.now c.loop-app.app-index app c.loop-app-test.true c.app-item.is new) ∙ c.loop-app.invariant.finds;
    }

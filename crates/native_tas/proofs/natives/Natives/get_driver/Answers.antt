use Rattle.std.proofs.Common.{◌≡◌, ◌==◌, ◌∙◌, Bool, Some, None, sym, ap, eq-eqb}
use Rattle.std.proofs.lemmas.Bool.{ne_eqb}
use Rattle.std.specs.List.{find}
use Rattle.std.specs.Option.{option_map}
use Rattle.native_tas.specs.Driver.{driver_of}
use Rattle.native_tas.proofs.Mapped.{find_mapped}
use Rattle.native_tas.proofs.Searched.{found_here, found_later, found_nowhere}
use Rattle.native_tas.proofs.natives.Natives.get_driver.Goals as goal

pub returns-then-driver-value : goal.returns-then-driver-value
returns-then-driver-value g c =
    let items = c.deref-driver-items.result.now in
    let test : _ → Bool = λ driver. driver.value == c.args.value in
    let here : find test items ≡ Some c.driver-item.result =
    found_here test items c.loop-driver.driver-index c.driver-item.result c.loop-driver-test.true c.driver-item.is
    (eq-eqb c.driver-item.result.value c.args.value c.if-driver-value.true) c.loop-driver.invariant in
    ap (option_map driver_of) (sym here ∙ ap (find test) c.deref-driver-items.ensures.value)
    ∙ sym (find_mapped driver_of (λ driver. driver.0 == c.args.value) c.args.self.now.notified.items)

pub returns : goal.returns
returns g c =
    let items = c.deref-driver-items.result.now in
    let test : _ → Bool = λ driver. driver.value == c.args.value in
    let nowhere : find test items ≡ None =
    found_nowhere test items c.loop-driver.driver-index c.loop-driver-test.false c.loop-driver.invariant in
    ap (option_map driver_of) (sym nowhere ∙ ap (find test) c.deref-driver-items.ensures.value)
    ∙ sym (find_mapped driver_of (λ driver. driver.0 == c.args.value) c.args.self.now.notified.items)

pub loop-driver-preserved : goal.loop-driver-preserved
loop-driver-preserved g c =
    found_later (λ driver. driver.value == c.args.value) c.deref-driver-items.result.now c.loop-driver.driver-index c.driver-item.result
    c.loop-driver-test.true c.driver-item.is (ne_eqb _ _ c.if-driver-value.false) c.loop-driver.invariant

use Rattle.std.proofs.Common.{rules, ◌≡◌, ◌≢◌, ◌==◌, ◌∙◌, sym, ap, false, is_some, subst, eq-eqb}
use Rattle.std.specs.Bool.{IsTrue}
use Rattle.std.specs.List.{All, AllPairs, find}
use Rattle.std.specs.Result.{is_ok}
use Rattle.native_tas.specs.Driver.{driver_of}
use Rattle.native_tas.specs.DriverRelation.{is_driver_value}
use Rattle.native_tas.proofs.Apart.{all_after_try, apart_after_try, is_some_mapped}
use Rattle.native_tas.proofs.Mapped.{find_mapped}
use Rattle.native_tas.proofs.natives.Natives.add_driver.Goals as goal

pub invariant_of-self-clause-in_range : goal.invariant_of-self-clause-in_range
invariant_of-self-clause-in_range g c =
    let here : IsTrue (is_driver_value c.args.driver.value) = search rules in
    subst (λ items. All (λ driver. IsTrue (is_driver_value driver.value)) items) (sym c.push.ensures.items)
    (all_after_try (λ driver. IsTrue (is_driver_value driver.value)) c.args.self.now.notified.items c.args.driver (is_ok c.push.result) c.args.self.now.in_range here)

pub invariant_of-self-clause-distinct : goal.invariant_of-self-clause-distinct
invariant_of-self-clause-distinct g c =
    let drivers = c.args.self.now.notified.items in
    let found = find (λ driver. driver.value == c.args.driver.value) drivers in
    let absent : is_some found ≡ false =
    sym (is_some_mapped driver_of found)
    ∙ ap is_some (sym (find_mapped driver_of (λ driver. driver.0 == c.args.driver.value) drivers))
    ∙ sym c.has_driver.ensures ∙ c.if-has_driver.false in
    subst (λ items. AllPairs (λ earlier later. earlier.value ≢ later.value) items) (sym c.push.ensures.items)
    (apart_after_try (λ a b. a == b) eq-eqb (λ driver. driver.value) drivers c.args.driver (is_ok c.push.result) c.args.self.now.distinct absent)

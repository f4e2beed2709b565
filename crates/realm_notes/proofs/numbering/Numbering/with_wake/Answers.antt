use Rattle.std.proofs.Common.{ℕ, refl, ap, sym, rules}
use Rattle.std.specs.Prelude.{slice_set}
use Rattle.realm_notes.proofs.NumbersKept.{some_woken}
use Rattle.realm_notes.proofs.numbering.Numbering.with_wake.Goals as goal

pub returns-then-is_some : goal.returns-then-is_some
returns-then-is_some c numbers are =
    let old = c.args.self.now in
    some_woken old _ numbers are c.args.slot c.args.woken (sym c.if-is_some.ensures) (search rules) refl refl
    (ap (λ (n : ℕ). slice_set old.wakes n c.args.woken) c.from.ensures)

use Rattle.std.proofs.Common.{ℕ, None, refl, ap, rules}
use Rattle.std.specs.Prelude.{slice_set}
use Rattle.realm_notes.proofs.NumbersKept.{numbers_without}
use Rattle.realm_notes.proofs.numbering.Numbering.forget.Goals as goal

pub returns : goal.returns
returns c numbers are =
    let old = c.args.self.now in
    numbers_without old _ numbers are c.args.slot (search rules) (search rules) refl
    (ap (λ (n : ℕ). slice_set old.in_slots n None) c.from.ensures)
    (ap (λ (n : ℕ). slice_set old.wakes n None) c.from-2.ensures)

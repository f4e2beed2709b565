use Rattle.std.proofs.Common.{ℕ, Some, refl, ap, rules}
use Rattle.std.specs.Prelude.{slice_set}
use Rattle.realm_notes.proofs.NumbersKept.{next_numbers}
use Rattle.realm_notes.proofs.numbering.Numbering.next_in.Goals as goal

pub returns : goal.returns
returns c numbers are =
    let old = c.args.self.now in
    next_numbers old _ numbers are c.args.slot (search rules) (search rules)
    (ap (λ (n : ℕ). slice_set old.in_slots n (Some old.entered)) c.from.ensures) refl

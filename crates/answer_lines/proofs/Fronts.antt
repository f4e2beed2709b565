-- The front of a text to which something is appended.
use Rattle.std.proofs.Common.{◌≡◌, ℕ, ◌≤◌, Bool, true, false, cond, List, ◌++◌, length, take, sym, ap, ◌∙◌, arith}
use Rattle.std.proofs.Math.Seq.{take-append_seam}
use Rattle.std.proofs.lemmas.List.{length-take, take-take, take_all}

-- a text of which nothing changed
pub all_kept : (old new : List ℕ) → new ≡ old → take (length old) new ≡ old
all_kept old new e = ap (take (length old)) e ∙ take_all (length old) old (omega arith)

-- one that got more, or none where memory ran out
pub more_kept : (old more new : List ℕ) (ok : Bool) → new ≡ cond ok (old ++ more) old → take (length old) new ≡ old
more_kept old more new true e = ap (take (length old)) e ∙ take-append_seam old more
more_kept old more new false e = all_kept old new e

-- one step after another
pub kept_on : (old between new : List ℕ) → take (length old) between ≡ old → take (length between) new ≡ between → take (length old) new ≡ old
kept_on old between new first second =
    let few : length old ≤ length between = omega (arith, ap length first, length-take (length old) between) in
    sym (take-take (length old) (length between) new few) ∙ ap (take (length old)) second ∙ first

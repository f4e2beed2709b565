-- Pages that are marked one after the other.
use Rattle.std.proofs.Common.{◌≡◌, ℕ, ◌+◌, ◌<◌, ◌≤◌, Bool, true, false, List, length, get_or, inl, inr, ap, ◌∙◌, subst, sym, arith}
use Rattle.std.specs.Prelude.{slice_set}
use Rattle.std.proofs.lemmas.Bool.Decides.{eqb_tells}
use Rattle.std.proofs.lemmas.List.{get_or-set_same, get_or-set_other, length-set}
use Rattle.page_set.specs.Pages.{IsWithin, is_in}

-- those from a number up to another are marked, and none is any more that was not
pub record AreMarked (old new : List Bool) (first end : ℕ) : Type 0 where
  pub marked : (number : ℕ) → first ≤ number → number < end → is_in new number ≡ true
  pub keeps : IsWithin old new
  pub length : length new ≡ length old

marked_here : (pages : List Bool) (at number : ℕ) → at < length pages → number ≡ at → is_in (slice_set pages at true) number ≡ true
marked_here pages at number within same =
    ap (λ (n : ℕ). is_in (slice_set pages at true) n) same ∙ get_or-set_same pages at true false within

marked_still : (pages : List Bool) (at number : ℕ) → at < length pages → is_in pages number ≡ true → is_in (slice_set pages at true) number ≡ true
marked_still pages at number within is = elim (eqb_tells number at) [
  | inl same ↦ marked_here pages at number within same.1
  | inr other ↦ get_or-set_other pages at number true false other.1 ∙ is
]

pub marks_more : (old pages : List Bool) (first at : ℕ) → at < length pages → AreMarked old pages first at
    → AreMarked old (slice_set pages at true) first (at + 1)
marks_more old pages first at within were = record {
  marked = λ number low high. elim (eqb_tells number at) [
    | inl same ↦ marked_here pages at number within same.1
    | inr other ↦ marked_still pages at number within (were.marked number low (let no = other.1 in omega (arith, no, high)))
  ];
  keeps = λ number is. marked_still pages at number within (were.keeps number is);
  length = length-set pages at true ∙ were.length;
}

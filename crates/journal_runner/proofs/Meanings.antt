-- Bytes spell one journal with nothing behind it, or one pair of journals, or they have a fault, and not both.
use Rattle.std.proofs.Common.{◌≡◌, ℕ, inl, inr, List, drop, ap, subst, sym, arith}
use Rattle.journal_bytes.proofs.GrammarLaws.{meaning}
use Rattle.journal_bytes.specs.Grammar.{Spells, Whole}
use Rattle.trace_text.specs.declared.fault.BadKind.{BadKind}
use Rattle.journal_runner.specs.Reading.{IsFaultAlone, IsFaultOfPair, SpellsAlone, SpellsPair}

module _ (natives : List (List ℕ)) (bytes : List ℕ) where
  same_whole : (one other : Whole) → Spells natives bytes one → Spells natives bytes other → one ≡ other
  same_whole = (meaning natives bytes).one_value

  -- ---- a journal alone

  pub same_alone : (one other : Whole) → SpellsAlone natives bytes one → SpellsAlone natives bytes other → one ≡ other
  same_alone one other p q = same_whole one other p.spelled q.spelled

  pub not_both_alone : (whole : Whole) (place : ℕ) (kind : BadKind) → SpellsAlone natives bytes whole
      → IsFaultAlone natives bytes place kind → ⊥
  not_both_alone whole place kind p (inl fault) = (meaning natives bytes).not_both whole place kind p.spelled fault
  not_both_alone whole place kind p (inr more) =
      let same = ap (λ (w : Whole). w.used) (same_whole more.whole whole more.spelled p.spelled) in
      let all = p.nothing_behind in
      let some = more.behind in
      absurd (omega (arith, same, all, some))

-- ---- two journals

module _ (natives : List (List ℕ)) (bytes : List ℕ) where
  pub same_first : (one other two others : Whole) → SpellsPair natives bytes one two → SpellsPair natives bytes other others
      → one ≡ other
  same_first one other two others p q = same_whole natives bytes one other p.first q.first

  pub same_second : (one other two others : Whole) → SpellsPair natives bytes one two → SpellsPair natives bytes other others
      → two ≡ others
  same_second one other two others p q =
      same_alone natives (drop one.used bytes) two others p.second
      (subst (λ (w : Whole). SpellsAlone natives (drop w.used bytes) others) (sym (same_first one other two others p q)) q.second)

  pub not_both_pair : (one two : Whole) (place : ℕ) (kind : BadKind) → SpellsPair natives bytes one two
      → IsFaultOfPair natives bytes place kind → ⊥
  not_both_pair one two place kind p (inl fault) = (meaning natives bytes).not_both one place kind p.first fault
  not_both_pair one two place kind p (inr behind) =
      let same = same_whole natives bytes behind.one one behind.first p.first in
      not_both_alone natives (drop one.used bytes) two behind.behind kind p.second
      (subst (λ (w : Whole). IsFaultAlone natives (drop w.used bytes) behind.behind kind) same behind.fault)

-- Lines that are taken one after the other, and what their end answers.
use Rattle.std.proofs.Common.{◌≡◌, ℕ, ◌+◌, ◌<◌, ◌≤◌, Bool, true, false, eqb, ltb, List, [], ◌∷◌, ◌++◌, length, take, slice_get, Option, Some, None, Result, Ok, Err, refl, sym, ap, subst, ◌∙◌, ◌⊎◌, inl, inr, arith}
use Rattle.std.proofs.lemmas.List.{take_all}
use Rattle.std.proofs.lemmas.List.Sums.{fold-append}
use Rattle.std.proofs.lemmas.Option.{slice_get_cases}
use Rattle.ta_isa.specs.declared.image.Image.{Image}
use Rattle.ta_asm.specs.declared.fault.AsmFault.{AsmFault}
use Rattle.ta_asm.specs.declared.fault.AsmFault.TheVariants.{BadLine, Memory}
use Rattle.ta_asm.specs.declared.statement.Statement.{Statement}
use Rattle.ta_asm.specs.Lines.{statements_of}
use Rattle.ta_asm.specs.Grammar.{Program, IsFirstFault, StandsFor, added, end_rules, fault_behind, first_broken, image_from, line_rules, no_program, program_of, rules_of}
use Rattle.ta_asm.specs.Reading.{Answer, Ends, IsTaken}
use Rattle.ta_asm.proofs.Steps.{Step}

-- ---- one line more

pub program-start : (all : List Statement) → program_of all [] ≡ no_program
unfolding program_of
program-start all = refl

program-append : (all front : List Statement) (s : Statement) → program_of all (front ++ s ∷ []) ≡ added all (program_of all front) s
unfolding program_of
program-append all front s = fold-append (added all) no_program front (s ∷ [])

pub program-more : (all : List Statement) (i : ℕ) (s : Statement) (after : List Statement) (before next : Program) → Step all i s after → before ≡ program_of all (take i all) → next ≡ added all before s → next ≡ program_of all (take (i + 1) all)
program-more all i s after before next st is e =
    e ∙ ap (λ (p : Program). added all p s) is ∙ sym (program-append all (take i all) s) ∙ sym (ap (program_of all) st.front)

pub fault-at : (all : List Statement) (i : ℕ) (s : Statement) (after : List Statement) (before : Program) → Step all i s after → before ≡ program_of all (take i all) → fault_behind all i ≡ first_broken (line_rules all before (i + 1) s)
unfolding fault_behind
fault-at all i s after before st is =
    ap (λ (o : Option Statement). first_broken (rules_of all (program_of all (take i all)) (i + 1) o)) st.here ∙ sym (ap (λ (p : Program). first_broken (line_rules all p (i + 1) s)) is)

-- no line before this one has a fault
abbrev pub AreFaultless : List Statement → ℕ → Type 0
AreFaultless all n = (lines : ℕ) → lines < n → fault_behind all lines ≡ None

below_or_here : (k n : ℕ) → k < n + 1 → (k < n) ⊎ (k ≡ n)
below_or_here k n lt = grind arith

pub faultless-more : (all : List Statement) (i : ℕ) (s : Statement) (after : List Statement) (before : Program) → Step all i s after → before ≡ program_of all (take i all)
    → first_broken (line_rules all before (i + 1) s) ≡ None → AreFaultless all i → AreFaultless all (i + 1)
faultless-more all i s after before st is kept so_far k lt =
    elim (below_or_here k i lt) [
      | inl h ↦ so_far k h
      | inr h ↦ ap (fault_behind all) h ∙ fault-at all i s after before st is ∙ kept
    ]

-- ---- answers

pub first-fault : (text : List ℕ) (i : ℕ) (s : Statement) (after : List Statement) (before : Program) (fault : AsmFault) → Step (statements_of text) i s after → before ≡ program_of (statements_of text) (take i (statements_of text))
    → AreFaultless (statements_of text) i → first_broken (line_rules (statements_of text) before (i + 1) s) ≡ Some fault → IsFirstFault text fault
first-fault text i s after before fault st is so_far broken =
    record { front = i; faultless = so_far; fault_is = fault-at (statements_of text) i s after before st is ∙ broken }

none_there : {X : Type 0} (xs : List X) (i : ℕ) → length xs ≤ i → slice_get xs i ≡ None
none_there xs i past = elim ((slice_get_cases xs i).1) [ inl h ↦ absurd (omega (arith, h.1)) | inr h ↦ h.1 ]

-- behind the last line
pub fault-end : (all : List Statement) (i : ℕ) → length all ≤ i → fault_behind all i ≡ first_broken (end_rules (program_of all all) (i + 1))
unfolding fault_behind
fault-end all i past =
    ap (λ (o : Option Statement). first_broken (rules_of all (program_of all (take i all)) (i + 1) o)) (none_there all i past)
    ∙ ap (λ (front : List Statement). first_broken (end_rules (program_of all front) (i + 1))) (take_all i all past)

end_anywhere : (a b : Bool) (m n : ℕ) → first_broken ((BadLine m, a) ∷ (BadLine m, b) ∷ []) ≡ None → first_broken ((BadLine n, a) ∷ (BadLine n, b) ∷ []) ≡ None
end_anywhere true true m n e = refl
end_anywhere true false m n e = absurd cc
end_anywhere false b m n e = absurd cc

pub end-line : (before : Program) (m n : ℕ) → first_broken (end_rules before m) ≡ None → first_broken (end_rules before n) ≡ None
unfolding end_rules
end-line before m n e = end_anywhere (eqb before.parts 7) (ltb 0 (length before.code)) m n e

pub before_or_past : (k n : ℕ) → (k < n) ⊎ (n ≤ k)
before_or_past k n = grind arith

built_whole : (all : List Statement) (i : ℕ) (before : Program) → length all ≤ i → before ≡ program_of all (take i all) → before ≡ program_of all all
built_whole all i before past is = is ∙ ap (program_of all) (take_all i all past)

pub stands : (text : List ℕ) (i : ℕ) (before : Program) (image : Image) → length (statements_of text) ≤ i → before ≡ program_of (statements_of text) (take i (statements_of text))
    → AreFaultless (statements_of text) i → Ends (Ok image) (end_rules before (i + 1)) before → StandsFor text image
stands text i before image past is so_far end =
    let all = statements_of text in
    let whole : before ≡ program_of all all = built_whole all i before past is in
    let clean : first_broken (end_rules (program_of all all) (i + 1)) ≡ None = subst (λ (p : Program). first_broken (end_rules p (i + 1)) ≡ None) whole end.0 in
    record {
      faultless =
          λ k. elim (before_or_past k i) [
            | inl h ↦ so_far k h
            | inr h ↦ fault-end all k (omega (arith, past, h)) ∙ end-line (program_of all all) (i + 1) (k + 1) clean
          ];
      image_is = end.1 ∙ ap image_from whole;
    }

pub end-fault : (text : List ℕ) (i : ℕ) (before : Program) (fault : AsmFault) → length (statements_of text) ≤ i → before ≡ program_of (statements_of text) (take i (statements_of text))
    → AreFaultless (statements_of text) i → first_broken (end_rules before (i + 1)) ≡ Some fault → IsFirstFault text fault
end-fault text i before fault past is so_far broken =
    let all = statements_of text in
    let whole : before ≡ program_of all all = built_whole all i before past is in
    record { front = i; faultless = so_far; fault_is = fault-end all i past ∙ subst (λ (p : Program). first_broken (end_rules p (i + 1)) ≡ Some fault) whole broken }

-- ---- a text stands for one image, or has one first fault

pub one-image : (text : List ℕ) (one other : Image) → StandsFor text one → StandsFor text other → one ≡ other
one-image text one other s t = s.image_is ∙ sym t.image_is

pub not-both : (text : List ℕ) (image : Image) (fault : AsmFault) → StandsFor text image → IsFirstFault text fault → ⊥
not-both text image fault s f = let e : None ≡ Some fault = sym (s.faultless f.front) ∙ f.fault_is in absurd cc

three_ways : (m n : ℕ) → (m < n) ⊎ (m ≡ n) ⊎ (n < m)
three_ways m n = grind arith

same_some : (x y : AsmFault) → Some x ≡ Some y → x ≡ y
same_some x y e = cc

pub one-fault : (text : List ℕ) (one other : AsmFault) → IsFirstFault text one → IsFirstFault text other → one ≡ other
one-fault text one other f g =
    elim (three_ways f.front g.front) [
      | inl h ↦ let e : None ≡ Some one = sym (g.faultless f.front h) ∙ f.fault_is in absurd cc
      | inr (inl h) ↦ same_some one other (sym f.fault_is ∙ ap (fault_behind (statements_of text)) h ∙ g.fault_is)
      | inr (inr h) ↦ let e : None ≡ Some other = sym (f.faultless g.front h) ∙ g.fault_is in absurd cc
    ]

pub answer-stands : (text : List ℕ) (image : Image) → StandsFor text image → Answer text (Ok image)
answer-stands text image s = record {
  found = s;
  only = λ other t. inl (ap (λ (i : Image). Ok i) (one-image text image other s t));
  bad = tt;
  refused = λ fault f. absurd (not-both text image fault s f);
}

pub answer-fault : (text : List ℕ) (fault : AsmFault) → IsFirstFault text fault → Answer text (Err fault)
answer-fault text fault f = record {
  found = tt;
  only = λ image s. absurd (not-both text image fault s f);
  bad = inr f;
  refused = λ other g. inl (ap (λ (e : AsmFault). Err e) (one-fault text fault other f g));
}

pub answer-memory : (text : List ℕ) (fault : AsmFault) → fault ≡ Memory → Answer text (Err fault)
answer-memory text fault e = record {
  found = tt;
  only = λ image s. inr (ap (λ (f : AsmFault). Err f) e);
  bad = inl e;
  refused = λ other g. inr (ap (λ (f : AsmFault). Err f) e);
}

pub answer-line : (text : List ℕ) (i : ℕ) (s : Statement) (after : List Statement) (before next wanted : Program) (fault : AsmFault) → Step (statements_of text) i s after → before ≡ program_of (statements_of text) (take i (statements_of text))
    → AreFaultless (statements_of text) i → IsTaken (Err fault) (line_rules (statements_of text) before (i + 1) s) wanted next → Answer text (Err fault)
answer-line text i s after before next wanted fault st is so_far (inl broken) = answer-fault text fault (first-fault text i s after before fault st is so_far broken)
answer-line text i s after before next wanted fault st is so_far (inr e) = answer-memory text fault e

pub answer-end : (text : List ℕ) (i : ℕ) (before : Program) (result : Result Image AsmFault) → length (statements_of text) ≤ i → before ≡ program_of (statements_of text) (take i (statements_of text)) → AreFaultless (statements_of text) i
    → Ends result (end_rules before (i + 1)) before → Answer text result
answer-end text i before (Ok image) past is so_far end = answer-stands text image (stands text i before image past is so_far end)
answer-end text i before (Err fault) past is so_far end = answer-fault text fault (end-fault text i before fault past is so_far end)

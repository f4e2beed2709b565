-- The lines of a text in their order, up to the first fault.
use Rattle.std.proofs.Common.{◌≡◌, ℕ, ◌+◌, ◌≤◌, List, [], ◌∷◌, length, take, drop, Option, Some, None, refl, sym, ap, subst, ◌∙◌, ◌⊎◌, inl, inr, arith}
use Rattle.std.specs.Option.{option_or}
use Rattle.std.proofs.lemmas.List.{take_all}
use Rattle.ta_isa.specs.declared.image.Image.{Image}
use Rattle.ta_asm.specs.declared.fault.AsmFault.{AsmFault}
use Rattle.ta_asm.specs.declared.statement.Statement.{Statement}
use Rattle.ta_asm.specs.Lines.{statements_of}
use Rattle.ta_asm.specs.Grammar.{EveryText, IsFirstFault, Program, StandsFor, added, end_rules, fault_behind, first_broken, image_of, line_rules, no_program, program_of}
use Rattle.ta_asm.proofs.Programs.{AreFaultless, before_or_past, end-line, fault-at, fault-end, faultless-more, not-both, one-fault, one-image, program-more, program-start}
use Rattle.ta_asm.proofs.Steps.{at_end, step}

-- the first fault from this line on, given what the lines before it add up to
abbrev pub fault_from : List Statement → Program → ℕ → List Statement → Option AsmFault
fault_from all before line [] = first_broken (end_rules before line)
fault_from all before line (s ∷ rest) = option_or (first_broken (line_rules all before line s)) (fault_from all (added all before s) (line + 1) rest)

-- a fault behind so many lines, and none before
record First (all : List Statement) (fault : AsmFault) : Type 0 where
  pub front : ℕ
  pub faultless : AreFaultless all front
  pub fault_is : fault_behind all front ≡ Some fault

abbrev Decided : List Statement → Option AsmFault → Type 0
Decided all None = (lines : ℕ) → fault_behind all lines ≡ None
Decided all (Some fault) = First all fault

ended : (all : List Statement) (i : ℕ) (o : Option AsmFault) → length all ≤ i → AreFaultless all i → first_broken (end_rules (program_of all all) (i + 1)) ≡ o → Decided all o
ended all i None past so_far e = λ k.
    elim (before_or_past k i) [
      | inl h ↦ so_far k h
      | inr h ↦ fault-end all k (omega (arith, past, h)) ∙ end-line (program_of all all) (i + 1) (k + 1) e
    ]
ended all i (Some fault) past so_far e = record { front = i; faultless = so_far; fault_is = fault-end all i past ∙ e }

at_the_end : (all : List Statement) (i : ℕ) (before : Program) (o : Option AsmFault) → length all ≤ i → before ≡ program_of all (take i all) → AreFaultless all i → first_broken (end_rules before (i + 1)) ≡ o → Decided all o
at_the_end all i before o past is so_far e =
    let whole : before ≡ program_of all all = is ∙ ap (program_of all) (take_all i all past) in
    let here : first_broken (end_rules (program_of all all) (i + 1)) ≡ o = subst (λ (p : Program). first_broken (end_rules p (i + 1)) ≡ o) whole e in
    ended all i o past so_far here

line_decided : (all : List Statement) (i : ℕ) (s : Statement) (rest : List Statement) (before : Program) (o : Option AsmFault) → drop i all ≡ s ∷ rest → before ≡ program_of all (take i all) → AreFaultless all i
    → (here : Option AsmFault) → first_broken (line_rules all before (i + 1) s) ≡ here → option_or here (fault_from all (added all before s) (i + 1 + 1) rest) ≡ o
    → (first_broken (line_rules all before (i + 1) s) ≡ None → fault_from all (added all before s) (i + 1 + 1) rest ≡ o → Decided all o) → Decided all o
line_decided all i s rest before o left is so_far None here e later = later here e
line_decided all i s rest before o left is so_far (Some fault) here e later =
    let st = step all (s ∷ rest) i s rest left refl in
    let first : First all fault = record { front = i; faultless = so_far; fault_is = fault-at all i s rest before st is ∙ here } in
    subst (Decided all) e first

decided : (all : List Statement) (i : ℕ) (rest : List Statement) (before : Program) (o : Option AsmFault) → drop i all ≡ rest → before ≡ program_of all (take i all) → AreFaultless all i → fault_from all before (i + 1) rest ≡ o → Decided all o
decided all i [] before o left is so_far e = at_the_end all i before o (at_end all [] i left refl) is so_far e
decided all i (s ∷ rest) before o left is so_far e = line_decided all i s rest before o left is so_far (first_broken (line_rules all before (i + 1) s)) refl e
    (λ kept later.
    let st = step all (s ∷ rest) i s rest left refl in
    decided all (i + 1) rest (added all before s) o st.behind (program-more all i s rest before (added all before s) st is refl) (faultless-more all i s rest before st is kept so_far) later)

none_before : (all : List Statement) → AreFaultless all 0
none_before all k lt = absurd (omega (arith, lt))

whole : (all : List Statement) (o : Option AsmFault) → fault_from all no_program 1 all ≡ o → Decided all o
whole all o e = decided all 0 all no_program o refl (sym (program-start all)) (none_before all) e

pub stands-read : (text : List ℕ) (all : List Statement) (image : Image) → statements_of text ≡ all → fault_from all no_program 1 all ≡ None → image ≡ image_of all → StandsFor text image
stands-read text all image is clean e = record {
  faultless = λ k. ap (λ (ss : List Statement). fault_behind ss k) is ∙ whole all None clean k;
  image_is = e ∙ sym (ap image_of is);
}

to_text : (text : List ℕ) (fault : AsmFault) → First (statements_of text) fault → IsFirstFault text fault
to_text text fault f = record { front = f.front; faultless = f.faultless; fault_is = f.fault_is }

pub first-fault-read : (text : List ℕ) (all : List Statement) (fault : AsmFault) → statements_of text ≡ all → fault_from all no_program 1 all ≡ Some fault → IsFirstFault text fault
first-fault-read text all fault is e = to_text text fault (subst (λ (ss : List Statement). First ss fault) (sym is) (whole all (Some fault) e))

-- ---- each text

some_meaning : (text : List ℕ) (o : Option AsmFault) → fault_from (statements_of text) no_program 1 (statements_of text) ≡ o → ((image : Image) × StandsFor text image) ⊎ ((fault : AsmFault) × IsFirstFault text fault)
some_meaning text None e = inl (image_of (statements_of text), stands-read text (statements_of text) (image_of (statements_of text)) refl e refl)
some_meaning text (Some fault) e = inr (fault, first-fault-read text (statements_of text) fault refl e)

pub every_text : EveryText
every_text text = record {
  stands_or_is_faulty = some_meaning text (fault_from (statements_of text) no_program 1 (statements_of text)) refl;
  one_image = one-image text;
  one_fault = one-fault text;
  not_both = not-both text;
}

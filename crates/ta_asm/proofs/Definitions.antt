-- The labels of lines, and their last instruction, as one line more is read.
use Rattle.std.proofs.Common.{◌≡◌, ℕ, ◌+◌, ◌<◌, ◌≤◌, Bool, true, false, cond, ◌||◌, ltb, List, [], ◌∷◌, ◌++◌, length, take, drop, Option, Some, None, refl, sym, ap, subst, ◌∙◌, ◌⊎◌, inl, inr, arith, length-append}
use Rattle.std.specs.List.{list_any}
use Rattle.std.specs.Bool.{Decides}
use Rattle.std.specs.Option.{option_or}
use Rattle.std.specs.Str.{bytes_eq}
use Rattle.std.proofs.lemmas.Slice.Eq.{bytes_eq-Decides}
use Rattle.std.proofs.lemmas.Bool.{le-ltb, lt-ltb}
use Rattle.std.proofs.lemmas.List.{drop-append-le, drop_all, length-take-le}
use Rattle.std.proofs.lemmas.List.Folds.{list_any-append}
use Rattle.ta_asm.specs.declared.labels.Definition.{Definition}
use Rattle.ta_asm.specs.declared.statement.Statement.{Statement}
use Rattle.ta_asm.specs.declared.statement.Statement.TheVariants.{Nothing, Flags, Pages, Entry, Label, Code, Unread}
use Rattle.ta_asm.specs.Grammar.{defines, definition, definition_from, instructions, is_instruction_line}
use Rattle.ta_asm.specs.Reading.{IsLastIn, label_in}
use Rattle.ta_asm.proofs.Steps.{Step}

-- how many instructions the lines have
abbrev pub count_of : List Statement → ℕ
count_of [] = 0
count_of (s ∷ rest) = instructions s + count_of rest

pub count_of-append : (xs ys : List Statement) → count_of (xs ++ ys) ≡ count_of xs + count_of ys
count_of-append [] ys = omega arith
count_of-append (x ∷ xs) ys = omega (arith, count_of-append xs ys)

abbrev pub at : ℕ → ℕ → Definition
at line place = record { line = line; place = place }

abbrev last_of : List ℕ → ℕ → ℕ → Statement → Option Definition
last_of name line place s = label_in name (at line place) s

pub definition_from-more : (name : List ℕ) (line place : ℕ) (front : List Statement) (s : Statement) (line' place' : ℕ) → line' ≡ line + length front → place' ≡ place + count_of front
    → definition_from name line place (front ++ s ∷ []) ≡ option_or (definition_from name line place front) (last_of name line' place' s)
definition_from-more name line place [] s line' place' l p =
    let same_line : line' ≡ line = omega arith in
    let same_place : place' ≡ place = omega arith in
    rw (same_line, same_place) refl
definition_from-more name line place (x ∷ xs) s line' place' l p =
    elim (defines name x) as (λ t. cond t (Some (at line place)) (definition_from name (line + 1) (place + instructions x) (xs ++ s ∷ []))
    ≡ option_or (cond t (Some (at line place)) (definition_from name (line + 1) (place + instructions x) xs)) (last_of name line' place' s)) [
      | true ↦ refl
      | false ↦ definition_from-more name (line + 1) (place + instructions x) xs s line' place' (omega (arith, l)) (omega (arith, p))
    ]

pub definition-more : (name : List ℕ) (front more : List Statement) (s : Statement) (line place : ℕ) → more ≡ front ++ s ∷ [] → line ≡ length front + 1 → place ≡ count_of front
    → definition more name ≡ option_or (definition front name) (last_of name line place s)
unfolding definition
definition-more name front more s line place e l p =
    ap (definition_from name 1 0) e ∙ definition_from-more name 1 0 front s line place (omega arith) (omega arith)

pub no_more : (o : Option Definition) → option_or o None ≡ o
no_more (Some d) = refl
no_more None = refl

-- ---- the last instruction

front_or_end : (line n : ℕ) → (line ≤ n) ⊎ (n < line)
front_or_end line n = grind arith

kept : (b : Bool) → (b || (false || false)) ≡ b
kept true = refl
kept false = refl

found : (b : Bool) → (b || (true || false)) ≡ true
found true = refl
found false = refl

-- no line is one of an instruction where there is none
pub last-none : IsLastIn [] 0
last-none line = ap (list_any is_instruction_line) (drop_all line [] (omega arith)) ∙ sym (le-ltb line 0 (omega arith))

pub last_same : (front : List Statement) (s : Statement) (last : ℕ) → IsLastIn front last → last ≤ length front → false ≡ is_instruction_line s → IsLastIn (front ++ s ∷ []) last
last_same front s last so_far below bad line =
    elim (front_or_end line (length front)) [
      | inl h ↦
          rw (drop-append-le line front (s ∷ []) h, list_any-append is_instruction_line (drop line front) (s ∷ []), so_far line, sym bad) (kept (ltb line last))
      | inr h ↦
          let past : drop line (front ++ s ∷ []) ≡ [] = drop_all line (front ++ s ∷ []) (omega (arith, h, length-append front (s ∷ []))) in
          rw past (sym (le-ltb line last (omega arith)))
    ]

pub last_here : (front : List Statement) (s : Statement) (last line' : ℕ) → IsLastIn front last → line' ≡ length front + 1 → true ≡ is_instruction_line s → IsLastIn (front ++ s ∷ []) line'
last_here front s last line' so_far is good line =
    elim (front_or_end line (length front)) [
      | inl h ↦
          rw (drop-append-le line front (s ∷ []) h, list_any-append is_instruction_line (drop line front) (s ∷ []), sym good) (found (list_any is_instruction_line (drop line front)) ∙ sym (lt-ltb line line' (omega arith)))
      | inr h ↦
          let past : drop line (front ++ s ∷ []) ≡ [] = drop_all line (front ++ s ∷ []) (omega (arith, h, length-append front (s ∷ []))) in
          rw past (sym (le-ltb line line' (omega arith)))
    ]

-- ---- a label that is noted

noted_by : (find : List ℕ → Option Definition) (name q : List ℕ) (d : Definition) → find name ≡ None → (same : Bool) → Decides same (name ≡ q) → cond same (Some d) (find q) ≡ option_or (find q) (cond same (Some d) None)
noted_by find name q d none true e =
    let absent : find q ≡ None = sym (ap find (e.0 refl)) ∙ none in
    rw absent refl
noted_by find name q d none false e = sym (no_more (find q))

pub noted : (find : List ℕ → Option Definition) (name q : List ℕ) (d : Definition) → find name ≡ None → cond (bytes_eq name q) (Some d) (find q) ≡ option_or (find q) (cond (bytes_eq name q) (Some d) None)
noted find name q d none = noted_by find name q d none (bytes_eq name q) (bytes_eq-Decides name q)

stays_by : (find : List ℕ → Option Definition) (name q : List ℕ) (first d : Definition) → find name ≡ Some first → (same : Bool) → Decides same (name ≡ q)
    → cond same (Some first) (cond same (Some d) (find q)) ≡ option_or (find q) (cond same (Some d) None)
stays_by find name q first d stands true e =
    let here : find q ≡ Some first = sym (ap find (e.0 refl)) ∙ stands in
    rw here refl
stays_by find name q first d stands false e = sym (no_more (find q))

-- a name that stood already, written over and then put back
pub stays : (find : List ℕ → Option Definition) (name q : List ℕ) (first d : Definition) → find name ≡ Some first
    → cond (bytes_eq name q) (Some first) (cond (bytes_eq name q) (Some d) (find q)) ≡ option_or (find q) (cond (bytes_eq name q) (Some d) None)
stays find name q first d stands = stays_by find name q first d stands (bytes_eq name q) (bytes_eq-Decides name q)

-- ---- one line more

pub one_at_most : (s : Statement) → instructions s ≤ 1
one_at_most Nothing = omega arith
one_at_most (Flags n) = omega arith
one_at_most (Pages n) = omega arith
one_at_most (Entry point label) = omega arith
one_at_most (Label label) = omega arith
one_at_most (Code instr target) = omega arith
one_at_most Unread = omega arith

pub placed-more : (all : List Statement) (i : ℕ) (s : Statement) (after : List Statement) (place next : ℕ) → Step all i s after → place ≡ count_of (take i all) → next ≡ place + instructions s → next ≡ count_of (take (i + 1) all)
placed-more all i s after place next st is e = omega (arith, is, e, ap count_of st.front, count_of-append (take i all) (s ∷ []))

pub defines-more : (all : List Statement) (i : ℕ) (s : Statement) (after : List Statement) (place : ℕ) (old new : List ℕ → Option Definition) → Step all i s after → place ≡ count_of (take i all)
    → ((q : List ℕ) → old q ≡ definition (take i all) q) → ((q : List ℕ) → new q ≡ option_or (old q) (label_in q (at (i + 1) place) s)) → (q : List ℕ) → new q ≡ definition (take (i + 1) all) q
defines-more all i s after place old new st is so_far more q =
    let len : length (take i all) ≡ i = length-take-le i all (omega (arith, st.within)) in
    let line : i + 1 ≡ length (take i all) + 1 = omega (arith, len) in
    more q ∙ ap (λ (o : Option Definition). option_or o (label_in q (at (i + 1) place) s)) (so_far q)
    ∙ sym (definition-more q (take i all) (take (i + 1) all) s (i + 1) place st.front line is)

either_last : (front : List Statement) (s : Statement) (last here next : ℕ) (b : Bool) → b ≡ is_instruction_line s → next ≡ cond b here last → IsLastIn front last → last ≤ length front → here ≡ length front + 1 → IsLastIn (front ++ s ∷ []) next
either_last front s last here next true is e so_far below place = rw e (last_here front s last here so_far place is)
either_last front s last here next false is e so_far below place = rw e (last_same front s last so_far below is)

pub last-more : (all : List Statement) (i : ℕ) (s : Statement) (after : List Statement) (last next : ℕ) → Step all i s after → IsLastIn (take i all) last → last ≤ i → next ≡ cond (is_instruction_line s) (i + 1) last → IsLastIn (take (i + 1) all) next
last-more all i s after last next st so_far below e =
    let len : length (take i all) ≡ i = length-take-le i all (omega (arith, st.within)) in
    let more = either_last (take i all) s last (i + 1) next (is_instruction_line s) refl e so_far (omega (arith, below, len)) (omega (arith, len)) in
    subst (λ (front : List Statement). IsLastIn front next) (sym st.front) more

either_below : (b : Bool) (i last next : ℕ) → last ≤ i → next ≡ cond b (i + 1) last → next ≤ i + 1
either_below true i last next below e = omega (arith, e)
either_below false i last next below e = omega (arith, e, below)

pub below-more : (i : ℕ) (s : Statement) (last next : ℕ) → last ≤ i → next ≡ cond (is_instruction_line s) (i + 1) last → next ≤ i + 1
below-more i s last next below e = either_below (is_instruction_line s) i last next below e

-- A line that is gathered part by part.
use Rattle.std.proofs.Common.{◌≡◌, ℕ, ◌≤◌, Bool, true, false, List, [], ◌∷◌, ◌++◌, length, Option, Some, None, take, drop, ◌+◌, ◌-◌, take-append-drop, refl, sym, ap, subst, ◌∙◌, append_assoc, append-nil, inl, inr, arith, eqb}
use Rattle.std.specs.Io.KnownBytes.{prepend_known}
use Rattle.std.proofs.lemmas.Bool.{eqb-true}
use Rattle.std.proofs.lemmas.List.{drop-drop, drop-take, length-take, take_all}
use Rattle.std.proofs.Math.Seq.{take-append-add}
use Rattle.std.proofs.lemmas.List.Elements.{All-append}
use Rattle.std.specs.Io.KnownBytes.{Consumes, IsAtEnd}
use Rattle.std.proofs.KnownBytes.{Consumes-trans}
use Rattle.line_port.specs.declared.line_reader.Part.{Part}
use Rattle.line_port.specs.declared.line_reader.Part.TheVariants as part
use Rattle.line_port.specs.declared.port.Heard.{Heard}
use Rattle.line_port.specs.declared.port.Heard.TheVariants as heard
use Rattle.line_port.specs.Gathering.{Gathers, IsGathered, IsSoFar, IsTaken, TakesLine, TakesPart}
use Rattle.text_lines.specs.Lines.{IsCutAt, Lacks}

abbrev is_other : ℕ → Type 0
is_other b = eqb b 10 ≡ false

-- a part more, with no line feed
pub so_far-more : (a b c : Option (List ℕ)) (was_long is_long : Bool) (old new : List ℕ)
    → IsSoFar a b was_long old → TakesPart part.Some b c was_long old is_long new → IsSoFar a c is_long new
so_far-more a b c was_long is_long old new so_far takes =
    let text : List ℕ = takes.took.text in
    let bytes_are : takes.bytes ≡ text = takes.took.bytes_are ∙ append-nil text in
    record {
      text = so_far.text ++ text;
      lacks = All-append is_other so_far.text text so_far.lacks takes.took.lacks;
      consumed = subst (λ l. Consumes a c (so_far.text ++ l)) bytes_are (Consumes-trans a b c _ _ so_far.consumed takes.consumed);
      gathered = takes.took.gathers so_far.text so_far.gathered;
    }

-- a line that a line feed ends
ends_at : (a c : Option (List ℕ)) (is_long : Bool) (line text : List ℕ) (result : Heard)
    → (is_long ≡ true → result ≡ heard.Long) → (is_long ≡ false → result ≡ heard.Line) → Lacks 10 text
    → Consumes a c (text ++ 10 ∷ []) → IsGathered is_long line text → TakesLine result line a c
ends_at a c true line text result long whole lacks consumed gathered =
    let P : Heard → Type 0 = λ h. TakesLine h line a c in
    subst P (sym (long refl)) (record { text = text; lacks = lacks; long = gathered; consumed = inl consumed })
ends_at a c false line text result long whole lacks consumed gathered =
    let P : Heard → Type 0 = λ h. TakesLine h line a c in
    let Q : List ℕ → Type 0 = λ l. TakesLine heard.Line l a c in
    subst P (sym (whole refl)) (subst Q (sym gathered.0) (record { lacks = lacks; short = gathered.1; consumed = consumed }))

pub line-ends : (a b c : Option (List ℕ)) (was_long is_long : Bool) (old new : List ℕ) (result : Heard)
    → (is_long ≡ true → result ≡ heard.Long) → (is_long ≡ false → result ≡ heard.Line)
    → IsSoFar a b was_long old → TakesPart part.Last b c was_long old is_long new → TakesLine result new a c
line-ends a b c was_long is_long old new result long whole so_far takes =
    let text : List ℕ = takes.took.text in
    let consumed : Consumes a c ((so_far.text ++ text) ++ 10 ∷ []) =
    subst (Consumes a c) (ap (λ l. so_far.text ++ l) takes.took.bytes_are ∙ sym (append_assoc so_far.text text (10 ∷ [])))
    (Consumes-trans a b c _ _ so_far.consumed takes.consumed) in
    ends_at a c is_long new (so_far.text ++ text) result long whole
    (All-append is_other so_far.text text so_far.lacks takes.took.lacks) consumed (takes.took.gathers so_far.text so_far.gathered)

-- a line that the end of the input ends
stops_short : (a c : Option (List ℕ)) (is_empty : Bool) (line text : List ℕ) (result : Heard)
    → (is_empty ≡ true → result ≡ heard.End) → (is_empty ≡ false → result ≡ heard.Cut) → Lacks 10 text → Consumes a c text
    → IsAtEnd c → IsGathered false line text → eqb (length line) 0 ≡ is_empty → TakesLine result line a c
stops_short a c true line [] result over cut lacks consumed ended gathered e =
    let P : Heard → Type 0 = λ h. TakesLine h line a c in subst P (sym (over refl)) (consumed, ended)
stops_short a c true line (t ∷ text) result over cut lacks consumed ended gathered e =
    absurd (let none : length (t ∷ text) ≡ 0 = eqb-true (length (t ∷ text)) 0 (subst (λ (l : List ℕ). eqb (length l) 0 ≡ true) gathered.0 e) in omega (arith, none))
stops_short a c false line [] result over cut lacks consumed ended gathered e =
    absurd (let none : eqb 0 0 ≡ false = subst (λ (l : List ℕ). eqb (length l) 0 ≡ false) gathered.0 e in cc)
stops_short a c false line (t ∷ text) result over cut lacks consumed ended gathered e =
    let P : Heard → Type 0 = λ h. TakesLine h line a c in
    subst P (sym (cut refl)) (record {
      text = t ∷ text;
      lacks = lacks;
      some = omega arith;
      short = gathered.1;
      consumed = consumed;
      ended = ended;
    })

stops_at : (a c : Option (List ℕ)) (is_long is_empty : Bool) (line text : List ℕ) (result : Heard)
    → (is_long ≡ true → result ≡ heard.Long) → (is_long ≡ false → is_empty ≡ true → result ≡ heard.End)
    → (is_long ≡ false → is_empty ≡ false → result ≡ heard.Cut) → Lacks 10 text → Consumes a c text → IsAtEnd c
    → IsGathered is_long line text → eqb (length line) 0 ≡ is_empty → TakesLine result line a c
stops_at a c true is_empty line text result long over cut lacks consumed ended gathered e =
    let P : Heard → Type 0 = λ h. TakesLine h line a c in
    subst P (sym (long refl)) (record { text = text; lacks = lacks; long = gathered; consumed = inr (consumed, ended) })
stops_at a c false is_empty line text result long over cut lacks consumed ended gathered e =
    stops_short a c is_empty line text result (over refl) (cut refl) lacks consumed ended gathered e

pub line-stops : (a b c : Option (List ℕ)) (was_long is_long is_empty : Bool) (old new : List ℕ) (result : Heard)
    → (is_long ≡ true → result ≡ heard.Long) → (is_long ≡ false → is_empty ≡ true → result ≡ heard.End)
    → (is_long ≡ false → is_empty ≡ false → result ≡ heard.Cut) → IsSoFar a b was_long old
    → TakesPart part.None b c was_long old is_long new → eqb (length new) 0 ≡ is_empty → TakesLine result new a c
line-stops a b c was_long is_long is_empty old new result long over cut so_far takes e =
    let text : List ℕ = takes.took.text in
    let consumed : Consumes a c (so_far.text ++ text) =
    subst (λ l. Consumes a c (so_far.text ++ l)) (takes.took.bytes_are ∙ append-nil text)
    (Consumes-trans a b c _ _ so_far.consumed takes.consumed) in
    stops_at a c is_long is_empty new (so_far.text ++ text) result long over cut
    (All-append is_other so_far.text text so_far.lacks takes.took.lacks) consumed (takes.ended refl)
    (takes.took.gathers so_far.text so_far.gathered) e

-- ---- what is taken of what is pending

-- bytes that a line feed ends
pub cut-taken : (pending front rest : List ℕ) (was_long is_long : Bool) (old new : List ℕ) → IsCutAt 10 pending front rest
    → Gathers was_long old is_long new front → IsTaken part.Last (take (length front + 1) pending) was_long old is_long new
cut-taken pending front rest was_long is_long old new cut gathers = record {
  text = front;
  lacks = cut.0;
  bytes_are = ap (take (length front + 1)) cut.1 ∙ take-append-add front (10 ∷ rest) 1;
  gathers = gathers;
}

-- all of them, where there is none
pub uncut-taken : (pending : List ℕ) (was_long is_long : Bool) (old new : List ℕ) → Lacks 10 pending
    → Gathers was_long old is_long new pending → IsTaken part.Some (take (length pending) pending) was_long old is_long new
uncut-taken pending was_long is_long old new lacks gathers = record {
  text = pending;
  lacks = lacks;
  bytes_are = take_all (length pending) pending (omega arith) ∙ sym (append-nil pending);
  gathers = gathers;
}

-- the rest stays pending
pub pending-split : (chunk : List ℕ) (at end taken : ℕ) → at ≤ end → taken ≤ length (take (end - at) (drop at chunk))
    → take (end - at) (drop at chunk)
    ≡ take taken (take (end - at) (drop at chunk)) ++ take (end - (at + taken)) (drop (at + taken) chunk)
pending-split chunk at end taken in_order few =
    let pending : List ℕ = take (end - at) (drop at chunk) in
    let within : taken ≤ end - at = omega (arith, few, length-take (end - at) (drop at chunk)) in
    let count : end - at ≡ taken + (end - (at + taken)) = omega arith in
    let rest : drop taken (take (end - at) (drop at chunk)) ≡ take (end - (at + taken)) (drop (at + taken) chunk) =
    ap (λ (n : ℕ). drop taken (take n (drop at chunk))) count
    ∙ drop-take taken (end - (at + taken)) (drop at chunk)
    ∙ ap (take (end - (at + taken))) (drop-drop taken at chunk) in
    sym (take-append-drop taken pending) ∙ ap (λ (l : List ℕ). take taken pending ++ l) rest

pub consumes-pending : (remaining : Option (List ℕ)) (old bytes new : List ℕ) → old ≡ bytes ++ new
    → Consumes (prepend_known old remaining) (prepend_known new remaining) bytes
consumes-pending None old bytes new e = tt
consumes-pending (Some xs) old bytes new e = ap (λ (l : List ℕ). l ++ xs) e ∙ append_assoc bytes new xs

-- what is taken of what is pending is taken of what is left
pub taken-pending : (remaining : Option (List ℕ)) (chunk : List ℕ) (at end count : ℕ) (taken : Part) (was_long is_long : Bool)
    (old new : List ℕ) → at ≤ end → count ≤ length (take (end - at) (drop at chunk)) → (taken ≡ part.None → ⊥)
    → IsTaken taken (take count (take (end - at) (drop at chunk))) was_long old is_long new
    → TakesPart taken (prepend_known (take (end - at) (drop at chunk)) remaining)
    (prepend_known (take (end - (at + count)) (drop (at + count) chunk)) remaining) was_long old is_long new
taken-pending remaining chunk at end count taken was_long is_long old new in_order few some took = record {
  bytes = take count (take (end - at) (drop at chunk));
  consumed = consumes-pending remaining (take (end - at) (drop at chunk)) (take count (take (end - at) (drop at chunk)))
      (take (end - (at + count)) (drop (at + count) chunk)) (pending-split chunk at end count in_order few);
  took = took;
  ended = λ e. absurd (some e);
}

-- where a whole line was pending, no part comes before the last one
pub no_part-before : (now before : List ℕ) (taken : Part) → now ≡ before → (Lacks 10 before → ⊥)
    → ((Lacks 10 now → ⊥) → taken ≡ part.Last) → taken ≡ part.Some → ⊥
no_part-before now before taken same holds whole is =
    let last : taken ≡ part.Last = whole (λ lacks. holds (subst (Lacks 10) same lacks)) in
    let no : part.Some ≡ part.Last = sym is ∙ last in
    cc

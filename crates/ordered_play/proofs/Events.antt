-- A processor's events in a history: where its next one stands, and that it stays where the history gets longer.
use Rattle.std.proofs.Common.{◌≡◌, ℕ, ◌+◌, ◌-◌, ◌==◌, ◌<◌, ◌≤◌, Bool, true, false, List, [], ◌∷◌, ◌++◌, Some, None}
use Rattle.std.proofs.Common.{refl, sym, ◌∙◌, ap, subst, arith, length, drop, length-drop, zero, suc, inl, inr}
use Rattle.std.proofs.Common.{append_assoc, append-nil, length-append}
use Rattle.std.specs.Prelude.{if◌then◌else◌, ◌⊎◌}
use Rattle.std.specs.List.{AllByRecursion}
use Rattle.std.proofs.Math.Seq.{drop-append-add, drop-append_seam}
use Rattle.std.proofs.lemmas.Bool.Decides.{nat_tests}
use Rattle.std.proofs.lemmas.List.{drop-append-le}
use Rattle.event_journal.specs.declared.event.Event.{Event}
use Rattle.event_journal.specs.declared.event.Event.TheVariants.{Entry, Exit}
use Rattle.kernel_model.specs.Laws.{IsOfOther}
use Rattle.kernel_model.specs.Turns.{cpu_of}
use Rattle.ordered_play.specs.Part.{first_of, next_event}

pub same_some : {A : Type 0} (one other : A) → Some one ≡ Some other → one ≡ other
same_some one other e = cc

-- ---- the first event of a processor

-- it stands among these, and is its processor's
pub record StandsAmong (cpu from : ℕ) (events : List Event) (at : ℕ) (event : Event) : Type 0 where
  pub behind : from ≤ at
  pub within : at < from + length events
  pub own : cpu_of event ≡ cpu

pub first_stands : (cpu from : ℕ) (events : List Event) (at : ℕ) (event : Event)
    → first_of cpu from events ≡ Some (at, event) → StandsAmong cpu from events at event
first_stands cpu from [] at event e = absurd cc
first_stands cpu from (first ∷ events) at event e =
    by (cpu_of first == cpu) refl e (first_stands cpu (from + 1) events at event)
  where
    by : (test : Bool) → (cpu_of first == cpu) ≡ test
        → (if test then Some (from, first) else first_of cpu (from + 1) events) ≡ Some (at, event)
        → (first_of cpu (from + 1) events ≡ Some (at, event) → StandsAmong cpu (from + 1) events at event)
        → StandsAmong cpu from (first ∷ events) at event
    by true is e later =
        let both = same_some (from, first) (at, event) e in
        let place = ap (λ (found : ℕ × Event). found.0) both in
        let same = ap (λ (found : ℕ × Event). found.1) both in
        record {
          behind = omega (arith, place);
          within = omega (arith, place);
          own = subst (λ (x : Event). cpu_of x ≡ cpu) same (grind (arith, nat_tests));
        }
    by false is e later =
        let there = later e in
        record { behind = omega (arith, there.behind); within = omega (arith, there.within); own = there.own }

-- it stays where events follow
pub first_stays : (cpu from : ℕ) (events more : List Event) (found : ℕ × Event)
    → first_of cpu from events ≡ Some found → first_of cpu from (events ++ more) ≡ Some found
first_stays cpu from [] more found e = absurd cc
first_stays cpu from (first ∷ events) more found e =
    by (cpu_of first == cpu) e (first_stays cpu (from + 1) events more found)
  where
    by : (test : Bool) → (if test then Some (from, first) else first_of cpu (from + 1) events) ≡ Some found
        → (first_of cpu (from + 1) events ≡ Some found → first_of cpu (from + 1) (events ++ more) ≡ Some found)
        → (if test then Some (from, first) else first_of cpu (from + 1) (events ++ more)) ≡ Some found
    by true e later = e
    by false e later = later e

-- an event of another is no event of the processor
pub not_own : (cpu : ℕ) (event : Event) → IsOfOther cpu event → (cpu_of event == cpu) ≡ false
not_own cpu (Entry came regs steps reads) other = grind (arith, nat_tests)
not_own cpu (Exit went regs) other = grind (arith, nat_tests)

-- there is none among events of others
pub none_of_others : (cpu from : ℕ) (events : List Event) → AllByRecursion (IsOfOther cpu) events
    → first_of cpu from events ≡ None
none_of_others cpu from [] others = refl
none_of_others cpu from (first ∷ events) others =
    ap (λ (test : Bool). if test then Some (from, first) else first_of cpu (from + 1) events)
    (not_own cpu first others.0)
    ∙ none_of_others cpu (from + 1) events others.1

-- nor behind events that have none
pub none_more : (cpu from : ℕ) (events more : List Event) → AllByRecursion (IsOfOther cpu) more
    → first_of cpu from events ≡ None → first_of cpu from (events ++ more) ≡ None
none_more cpu from [] more others e = none_of_others cpu from more others
none_more cpu from (first ∷ events) more others e =
    by (cpu_of first == cpu) e (none_more cpu (from + 1) events more others)
  where
    by : (test : Bool) → (if test then Some (from, first) else first_of cpu (from + 1) events) ≡ None
        → (first_of cpu (from + 1) events ≡ None → first_of cpu (from + 1) (events ++ more) ≡ None)
        → (if test then Some (from, first) else first_of cpu (from + 1) (events ++ more)) ≡ None
    by true e later = absurd cc
    by false e later = later e

-- ---- the next event from a place of a history on

-- it stands in the history, at that place or behind
pub record StandsIn (cpu from : ℕ) (history : List Event) (at : ℕ) (event : Event) : Type 0 where
  pub behind : from ≤ at
  pub within : at < length history
  pub own : cpu_of event ≡ cpu

pub next_stands : (cpu from : ℕ) (history : List Event) (at : ℕ) (event : Event)
    → next_event history cpu from ≡ Some (at, event) → StandsIn cpu from history at event
next_stands cpu from history at event e =
    let there = first_stands cpu from (drop from history) at event e in
    let rest = length-drop from history in
    let behind = there.behind in
    let within = there.within in
    record { behind = behind; within = omega (arith, rest, behind, within); own = there.own }

pub next_stays : (cpu from : ℕ) (history more : List Event) (at : ℕ) (event : Event)
    → next_event history cpu from ≡ Some (at, event) → next_event (history ++ more) cpu from ≡ Some (at, event)
next_stays cpu from history more at event e =
    let there = next_stands cpu from history at event e in
    let behind = there.behind in
    let within = there.within in
    let inside : from ≤ length history = omega (arith, behind, within) in
    ap (first_of cpu from) (drop-append-le from history more inside)
    ∙ first_stays cpu from (drop from history) more (at, event) e

-- there is none in events of others, wherever one looks
others_behind : (cpu from : ℕ) (n : ℕ) (events : List Event) → AllByRecursion (IsOfOther cpu) events
    → AllByRecursion (IsOfOther cpu) (drop n events)
others_behind cpu from zero events others = others
others_behind cpu from (suc n) [] others = tt
others_behind cpu from (suc n) (first ∷ events) others = others_behind cpu from n events others.1

pub none_stays : (cpu from : ℕ) (history more : List Event) → AllByRecursion (IsOfOther cpu) more
    → next_event history cpu from ≡ None → next_event (history ++ more) cpu from ≡ None
none_stays cpu from history more others e = by (grind arith)
  where
    by : (from ≤ length history) ⊎ (length history ≤ from) → next_event (history ++ more) cpu from ≡ None
    by (inl inside) =
        ap (first_of cpu from) (drop-append-le from history more inside)
        ∙ none_more cpu from (drop from history) more others e
    by (inr past) =
        let place : length history + (from - length history) ≡ from = omega arith in
        ap (λ (n : ℕ). first_of cpu from (drop n (history ++ more))) (sym place)
        ∙ ap (first_of cpu from) (drop-append-add history more (from - length history))
        ∙ none_of_others cpu from _ (others_behind cpu from (from - length history) more others)

-- one that comes behind all others is the next, where there was none
first_last : (cpu from : ℕ) (events : List Event) (event : Event) → cpu_of event ≡ cpu
    → first_of cpu from events ≡ None → first_of cpu from (events ++ event ∷ []) ≡ Some (from + length events, event)
first_last cpu from [] event own e =
    let is : (cpu_of event == cpu) ≡ true = grind (arith, nat_tests) in
    let place : from ≡ from + 0 = omega arith in
    ap (λ (test : Bool). if test then Some (from, event) else None) is ∙ ap (λ (n : ℕ). Some (n, event)) place
first_last cpu from (first ∷ events) event own e =
    by (cpu_of first == cpu) e (first_last cpu (from + 1) events event own)
  where
    by : (test : Bool) → (if test then Some (from, first) else first_of cpu (from + 1) events) ≡ None
        → (first_of cpu (from + 1) events ≡ None
        → first_of cpu (from + 1) (events ++ event ∷ []) ≡ Some (from + 1 + length events, event))
        → (if test then Some (from, first) else first_of cpu (from + 1) (events ++ event ∷ []))
        ≡ Some (from + length (first ∷ events), event)
    by true e later = absurd cc
    by false e later =
        let place : from + 1 + length events ≡ from + length (first ∷ events) = omega arith in
        later e ∙ ap (λ (n : ℕ). Some (n, event)) place

pub next_last : (cpu from : ℕ) (history : List Event) (event : Event) → from ≤ length history
    → cpu_of event ≡ cpu → next_event history cpu from ≡ None
    → next_event (history ++ event ∷ []) cpu from ≡ Some (length history, event)
next_last cpu from history event inside own e =
    let rest = length-drop from history in
    let place : from + length (drop from history) ≡ length history = omega (arith, rest, inside) in
    ap (first_of cpu from) (drop-append-le from history (event ∷ []) inside)
    ∙ first_last cpu from (drop from history) event own e
    ∙ ap (λ (n : ℕ). Some (n, event)) place

-- ---- at a seam of the history

pub next_from : (cpu : ℕ) (history before behind : List Event) → history ≡ before ++ behind
    → next_event history cpu (length before) ≡ first_of cpu (length before) behind
next_from cpu history before behind cut =
    ap (λ (h : List Event). first_of cpu (length before) (drop (length before) h)) cut
    ∙ ap (first_of cpu (length before)) (drop-append_seam before behind)

-- behind the whole history there is none
pub none_at_end : (cpu : ℕ) (history : List Event) → next_event history cpu (length history) ≡ None
none_at_end cpu history = next_from cpu history history [] (sym (append-nil history))

-- an event is its processor's next
pub next_own : (history before behind : List Event) (event : Event) → history ≡ before ++ event ∷ behind
    → next_event history (cpu_of event) (length before) ≡ Some (length before, event)
next_own history before behind event cut =
    let cpu = cpu_of event in
    let own : (cpu == cpu) ≡ true = grind (arith, nat_tests) in
    next_from cpu history before (event ∷ behind) cut
    ∙ ap (λ (test : Bool). if test then Some (length before, event) else first_of cpu (length before + 1) behind) own

pub one_longer : (before : List Event) (event : Event) → length (before ++ event ∷ []) ≡ length before + 1
one_longer before event = length-append before (event ∷ [])

pub cut_behind : (history before behind : List Event) (event : Event) → history ≡ before ++ event ∷ behind
    → history ≡ (before ++ event ∷ []) ++ behind
cut_behind history before behind event cut = cut ∙ sym (append_assoc before (event ∷ []) behind)

-- and another processor's next one stands behind it
pub next_other : (cpu : ℕ) (history before behind : List Event) (event : Event) → history ≡ before ++ event ∷ behind
    → (cpu_of event ≡ cpu → ⊥)
    → next_event history cpu (length before) ≡ next_event history cpu (length (before ++ event ∷ []))
next_other cpu history before behind event cut apart =
    let other : (cpu_of event == cpu) ≡ false = grind (arith, nat_tests) in
    next_from cpu history before (event ∷ behind) cut
    ∙ ap (λ (test : Bool). if test then Some (length before, event) else first_of cpu (length before + 1) behind) other
    ∙ ap (λ (n : ℕ). first_of cpu n behind) (sym (one_longer before event))
    ∙ sym (next_from cpu history (before ++ event ∷ []) behind (cut_behind history before behind event cut))

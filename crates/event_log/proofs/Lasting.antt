-- The last entries of processors behind an event more.
use Rattle.std.proofs.Common.{⊎_elim, ◌≡◌, ◌≢◌, ℕ, zero, suc, ◌+◌, ◌<◌, ◌≤◌, Bool, true, false, List, [], ◌∷◌, ◌++◌, length, Option, Some, None, refl, ap, sym, subst, ◌∙◌, arith}
use Rattle.std.proofs.Math.ListN.{length-append, length-set}
use Rattle.std.proofs.lemmas.Bool.Decides.{eqb_tells}
use Rattle.std.proofs.lemmas.Option.{slice_get_within}
use Rattle.std.specs.Prelude.{◌==◌, if◌then◌else◌, IsSomeAnd, slice_get, slice_set}
use Rattle.event_journal.specs.declared.event.Event.{Event}
use Rattle.event_journal.specs.declared.event.Event.TheVariants.{Entry, Exit}
use Rattle.event_log.specs.LastEntry.{AreLastEntries, AreLastPlaces, IsLastPlace, entered_by, entered_last, last_entry, who_entered}

-- ---- among events

entered-append : (cpu : ℕ) (before : Option Event) (events : List Event) (event : Event) →
    entered_last cpu before (events ++ event ∷ []) ≡ entered_by cpu (entered_last cpu before events) event
entered-append cpu before [] event = refl
entered-append cpu before (first ∷ events) event = entered-append cpu (entered_by cpu before first) events event

-- by whether the event is an entry of the processor
chosen : (cpu came : ℕ) (before : Option Event) (event : Event) → who_entered event ≡ Some came → (test : Bool) → (came == cpu) ≡ test →
    entered_by cpu before event ≡ (if test then Some event else before)
chosen cpu came before (Entry who regs steps reads) is test tests =
    let same : who ≡ came = cc in
    ap (λ (b : Bool). let o : Option Event = if b then Some (Entry who regs steps reads) else before in o)
    (ap (λ (n : ℕ). n == cpu) same ∙ tests)
chosen cpu came before (Exit went regs) is test tests = absurd cc

its_own : (cpu : ℕ) (events items : List Event) (event : Event) → items ≡ events ++ event ∷ [] → who_entered event ≡ Some cpu →
    (cpu == cpu) ≡ true → last_entry cpu items ≡ Some event
its_own cpu events items event is entered same =
    ap (last_entry cpu) is ∙ entered-append cpu None events event ∙ chosen cpu cpu (last_entry cpu events) event entered true same

of_another : (cpu came : ℕ) (events items : List Event) (event : Event) → items ≡ events ++ event ∷ [] → who_entered event ≡ Some came →
    (came == cpu) ≡ false → last_entry cpu items ≡ last_entry cpu events
of_another cpu came events items event is entered apart =
    ap (last_entry cpu) is ∙ entered-append cpu None events event ∙ chosen cpu came (last_entry cpu events) event entered false apart

of_an_exit : (cpu : ℕ) (events items : List Event) (event : Event) → items ≡ events ++ event ∷ [] → who_entered event ≡ None →
    last_entry cpu items ≡ last_entry cpu events
of_an_exit cpu events items event is none = ap (last_entry cpu) is ∙ entered-append cpu None events event ∙ by event none
  where
    by : (one : Event) → who_entered one ≡ None → entered_by cpu (last_entry cpu events) one ≡ last_entry cpu events
    by (Entry who regs steps reads) e = absurd cc
    by (Exit went regs) e = refl

-- ---- by the processor's number

set_same : {X : Type 0} (xs : List X) (i : ℕ) (x : X) → i < length xs → slice_get (slice_set xs i x) i ≡ Some x
set_same [] i x below = absurd (omega arith)
set_same (first ∷ xs) zero x below = refl
set_same (first ∷ xs) (suc i) x below = set_same xs i x (omega arith)

set_other : {X : Type 0} (xs : List X) (i j : ℕ) (x : X) → i ≢ j → slice_get (slice_set xs i x) j ≡ slice_get xs j
set_other [] i j x apart = refl
set_other (first ∷ xs) zero zero x apart = absurd (apart refl)
set_other (first ∷ xs) zero (suc j) x apart = refl
set_other (first ∷ xs) (suc i) zero x apart = refl
set_other (first ∷ xs) (suc i) (suc j) x apart = set_other xs i j x (λ e. apart (ap suc e))

-- ---- the entries themselves

module _ (by_cpu : List (Option Event)) (events items : List Event) (event : Event) (last : AreLastEntries by_cpu events)
    (is : items ≡ events ++ event ∷ []) where
  module _ (came : ℕ) (entered : who_entered event ≡ Some came) (cpu : ℕ) (few : cpu < 8) where
    own_kept : (cpu == cpu) ≡ true → came ≡ cpu → slice_get (slice_set by_cpu came (Some event)) cpu ≡ Some (last_entry cpu items)
    own_kept tests same =
        let below : cpu < length by_cpu = subst (λ (n : ℕ). cpu < n) (sym last.all) few in
        ap (λ (n : ℕ). slice_get (slice_set by_cpu n (Some event)) cpu) same ∙ set_same by_cpu cpu (Some event) below
        ∙ ap (λ (o : Option Event). Some o) (sym (its_own cpu events items event is (entered ∙ ap (λ (n : ℕ). Some n) same) tests))

    other_kept : (came == cpu) ≡ false → came ≢ cpu → slice_get (slice_set by_cpu came (Some event)) cpu ≡ Some (last_entry cpu items)
    other_kept tests apart =
        set_other by_cpu came cpu (Some event) apart ∙ last.each cpu few
        ∙ ap (λ (o : Option Event). Some o) (sym (of_another cpu came events items event is entered tests))

  pub entry_kept : (came at : ℕ) → who_entered event ≡ Some came → at ≡ came → AreLastEntries (slice_set by_cpu at (Some event)) items
  entry_kept came at entered here = subst (λ (n : ℕ). AreLastEntries (slice_set by_cpu n (Some event)) items) (sym here) (record {
    all = length-set by_cpu came (Some event) ∙ last.all;
    each = λ cpu few. ⊎_elim
        (λ (same : ((came == cpu) ≡ true) × (came ≡ cpu)). own_kept came entered cpu few (ap (λ (n : ℕ). n == cpu) (sym same.1) ∙ same.0) same.1)
        (λ (apart : ((came == cpu) ≡ false) × (came ≢ cpu)). other_kept came entered cpu few apart.0 apart.1)
        (eqb_tells came cpu);
  })

  -- an entry of a processor above 7 is not kept
  pub above_passes : (came : ℕ) → who_entered event ≡ Some came → 8 ≤ came → AreLastEntries by_cpu items
  above_passes came entered above = record {
    all = last.all;
    each = λ cpu few. ⊎_elim
        (λ (same : ((came == cpu) ≡ true) × (came ≡ cpu)). absurd (omega (arith, same.1)))
        (λ (apart : ((came == cpu) ≡ false) × (came ≢ cpu)). last.each cpu few
        ∙ ap (λ (o : Option Event). Some o) (sym (of_another cpu came events items event is entered apart.0)))
        (eqb_tells came cpu);
  }

  pub exit_passes : who_entered event ≡ None → AreLastEntries by_cpu items
  exit_passes none = record {
    all = last.all;
    each = λ cpu few. last.each cpu few ∙ ap (λ (o : Option Event). Some o) (sym (of_an_exit cpu events items event is none));
  }

-- ---- their places

behind_all : (events : List Event) (event : Event) → slice_get (events ++ event ∷ []) (length events) ≡ Some event
behind_all [] event = refl
behind_all (first ∷ events) event = behind_all events event

before_last : (events : List Event) (event : Event) (place : ℕ) → place < length events → slice_get (events ++ event ∷ []) place ≡ slice_get events place
before_last [] event place below = absurd (omega arith)
before_last (first ∷ events) event zero below = refl
before_last (first ∷ events) event (suc place) below = before_last events event place (omega arith)

module _ (places : List (Option ℕ)) (events items : List Event) (event : Event) (last : AreLastPlaces places events)
    (is : items ≡ events ++ event ∷ []) where
  longer : length items ≡ length events + 1
  longer = ap length is ∙ length-append events (event ∷ [])

  stays_place : (cpu : ℕ) → last_entry cpu items ≡ last_entry cpu events → (place : Option ℕ) → IsLastPlace events cpu place → IsLastPlace items cpu place
  stays_place cpu same None none = same ∙ none
  stays_place cpu same (Some place) at =
      let below : place < length items = omega (arith, longer, at.0) in
      (below, same ∙ at.1 ∙ sym (ap (λ (l : List Event). slice_get l place) is ∙ before_last events event place at.0))

  stays_at : (cpu : ℕ) → last_entry cpu items ≡ last_entry cpu events → (found : Option (Option ℕ)) →
      IsSomeAnd found (IsLastPlace events cpu) → IsSomeAnd found (IsLastPlace items cpu)
  stays_at cpu same None at = at
  stays_at cpu same (Some place) at = stays_place cpu same place at

  module _ (came : ℕ) (entered : who_entered event ≡ Some came) (cpu : ℕ) (few : cpu < 8) where
    new_place : (place : ℕ) → place ≡ length events → last_entry cpu items ≡ Some event → IsLastPlace items cpu (Some place)
    new_place place here own =
        let below : place < length items = omega (arith, longer, here) in
        (below, own ∙ sym (ap (λ (l : List Event). slice_get l place) is ∙ ap (slice_get (events ++ event ∷ [])) here ∙ behind_all events event))

    within : (found : Option (Option ℕ)) → slice_get places cpu ≡ found → IsSomeAnd found (IsLastPlace events cpu) → cpu < length places
    within None e at = absurd at
    within (Some place) e at = slice_get_within places cpu place e

    own_place : (place : ℕ) → place ≡ length events → (cpu == cpu) ≡ true → came ≡ cpu →
        IsSomeAnd (slice_get (slice_set places came (Some place)) cpu) (IsLastPlace items cpu)
    own_place place here tests same =
        subst (λ (o : Option (Option ℕ)). IsSomeAnd o (IsLastPlace items cpu))
        (sym (ap (λ (n : ℕ). slice_get (slice_set places n (Some place)) cpu) same
        ∙ set_same places cpu (Some place) (within (slice_get places cpu) refl (last cpu few))))
        (new_place place here (its_own cpu events items event is (entered ∙ ap (λ (n : ℕ). Some n) same) tests))

    other_place : (place : ℕ) → (came == cpu) ≡ false → came ≢ cpu →
        IsSomeAnd (slice_get (slice_set places came (Some place)) cpu) (IsLastPlace items cpu)
    other_place place tests apart =
        subst (λ (o : Option (Option ℕ)). IsSomeAnd o (IsLastPlace items cpu)) (sym (set_other places came cpu (Some place) apart))
        (stays_at cpu (of_another cpu came events items event is entered tests) (slice_get places cpu) (last cpu few))

  pub place_kept : (came at place : ℕ) → who_entered event ≡ Some came → at ≡ came → place ≡ length events →
      AreLastPlaces (slice_set places at (Some place)) items
  place_kept came at place entered its here = subst (λ (n : ℕ). AreLastPlaces (slice_set places n (Some place)) items) (sym its) (λ cpu few. ⊎_elim
      (λ (same : ((came == cpu) ≡ true) × (came ≡ cpu)). own_place came entered cpu few place here (ap (λ (n : ℕ). n == cpu) (sym same.1) ∙ same.0) same.1)
      (λ (apart : ((came == cpu) ≡ false) × (came ≢ cpu)). other_place came entered cpu few place apart.0 apart.1)
      (eqb_tells came cpu))

  pub above_stays : (came : ℕ) → who_entered event ≡ Some came → 8 ≤ came → AreLastPlaces places items
  above_stays came entered above = λ cpu few. ⊎_elim
      (λ (same : ((came == cpu) ≡ true) × (came ≡ cpu)). absurd (omega (arith, same.1)))
      (λ (apart : ((came == cpu) ≡ false) × (came ≢ cpu)).
      stays_at cpu (of_another cpu came events items event is entered apart.0) (slice_get places cpu) (last cpu few))
      (eqb_tells came cpu)

  pub exit_stays : who_entered event ≡ None → AreLastPlaces places items
  exit_stays none = λ cpu few. stays_at cpu (of_an_exit cpu events items event is none) (slice_get places cpu) (last cpu few)

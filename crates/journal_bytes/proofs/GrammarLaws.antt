-- Bytes have one meaning: the records that keep their rules are the same, however they were found.
use Rattle.std.proofs.Common.{◌≡◌, ℕ, ◌+◌, ◌-◌, ◌<◌, ◌≤◌, Bool, true, false, cond, List, [], ◌∷◌, length, Option, Some, None, ◌⊎◌, inl, inr, ⊎_elim, refl, sym, subst, ap, ◌∙◌, arith}
use Rattle.std.specs.Prelude.{◌==◌}
use Rattle.std.proofs.lemmas.Bool.{eqb-true}
use Rattle.ta_isa.specs.declared.boot.Boot.{Boot}
use Rattle.event_journal.specs.declared.event.Event.{Event}
use Rattle.trace_text.specs.declared.fault.BadKind.{BadKind}
use Rattle.trace_text.specs.declared.fault.BadKind.TheVariants as bad
use Rattle.trace_text.specs.Limits.{first_broken}
use Rattle.trace_bin.specs.Records.{HasRecords, IsWhole}
use Rattle.trace_bin.proofs.RecordLaws.{has_meaning, one_end}
use Rattle.trace_bin.proofs.RecordLaws as records
use Rattle.journal_bytes.specs.Record.{end_tag, kind_tagged}
use Rattle.journal_bytes.specs.Recording.{Told}
use Rattle.journal_bytes.specs.Rules.{behind_record, record_rules}
use Rattle.journal_bytes.specs.Grammar.{AllBytes, end_fault, fault_at, IsFirstFault, journal_records, Spells, Whole}
use Rattle.journal_bytes.proofs.Shrinks.{shorter}

-- no record that keeps its rules stands here
abbrev Stops : List (List ℕ) → Told → List ℕ → Type 0
Stops natives before rest = first_broken (record_rules natives before rest) ≡ None → ⊥

at_nothing : (natives : List (List ℕ)) (before : Told) → Stops natives before []
unfolding record_rules kind_tagged
at_nothing natives before kept = absurd cc

at_end : (natives : List (List ℕ)) (before : Told) (behind : List ℕ) → Stops natives before (end_tag ∷ behind)
unfolding record_rules kind_tagged
at_end natives before behind kept = absurd cc

by_tag : (is_end : Bool) (ended broken : Option BadKind) (kind : BadKind) → cond is_end ended broken ≡ Some kind → (is_end ≡ true) ⊎ (broken ≡ Some kind)
by_tag true ended broken kind e = inl refl
by_tag false ended broken kind e = inr e

tag_is : (tag : ℕ) → (tag == end_tag) ≡ true → tag ≡ end_tag
tag_is tag e = eqb-true tag end_tag e

at_fault : (natives : List (List ℕ)) (before : Told) (rest : List ℕ) (kind : BadKind) → fault_at natives before rest ≡ Some kind → Stops natives before rest
at_fault natives before [] kind e = at_nothing natives before
at_fault natives before (tag ∷ body) kind e =
    elim (by_tag (tag == end_tag) (end_fault before) (first_broken (record_rules natives before (tag ∷ body))) kind e) [
      | inl ended ↦ subst (λ (t : ℕ). Stops natives before (t ∷ body)) (sym (tag_is tag ended)) (at_end natives before body)
      | inr broken ↦ λ kept. let both : Some kind ≡ None = sym broken ∙ kept in absurd cc
    ]

some_bytes : (natives : List (List ℕ)) (before : Told) (rest : List ℕ) → first_broken (record_rules natives before rest) ≡ None → length (behind_record rest) < length rest
some_bytes natives before [] kept = absurd (at_nothing natives before kept)
some_bytes natives before (tag ∷ body) kept = let less = shorter tag body in omega (arith, less)

has_records : (natives : List (List ℕ)) → HasRecords (journal_records natives)
has_records natives = record { faulty = at_fault natives; shorter = some_bytes natives }

-- what a journal tells before its end
abbrev told_in : Whole → Bool → Told
told_in whole keyed = record { boot = Some whole.boot; keyed = keyed; events = whole.events }

same_whole : (one other : Whole) (keyed also : Bool) → told_in one keyed ≡ told_in other also → one.used ≡ other.used → one.records ≡ other.records → one ≡ other
same_whole one other keyed also told used records =
    let boots : Some one.boot ≡ Some other.boot = ap (λ (t : Told). t.boot) told in
    let boot : one.boot ≡ other.boot = cc in
    let events : one.events ≡ other.events = ap (λ (t : Told). t.events) told in
    ap (λ (b : Boot). record { boot = b; events = one.events; used = one.used; records = one.records }) boot
    ∙ ap (λ (es : List Event). record { boot = other.boot; events = es; used = one.used; records = one.records }) events
    ∙ ap (λ (n : ℕ). record { boot = other.boot; events = other.events; used = n; records = one.records }) used
    ∙ ap (λ (n : ℕ). record { boot = other.boot; events = other.events; used = other.used; records = n }) records

whole_spelled : (natives : List (List ℕ)) (bytes : List ℕ) (whole : Whole) (s : Spells natives bytes whole) → IsWhole (journal_records natives) bytes s.count (told_in whole s.keyed) (end_tag ∷ s.behind)
whole_spelled natives bytes whole s = record { begins = s.begins; leads = s.spelled; no_fault = refl; no_record = at_end natives (told_in whole s.keyed) s.behind }

pub one_journal : (natives : List (List ℕ)) (bytes : List ℕ) (one other : Whole) → Spells natives bytes one → Spells natives bytes other → one ≡ other
one_journal natives bytes one other s t =
    let end = one_end (journal_records natives) bytes s.count t.count (told_in one s.keyed) (told_in other t.keyed) (end_tag ∷ s.behind) (end_tag ∷ t.behind) (whole_spelled natives bytes one s) (whole_spelled natives bytes other t) in
    let long : length (end_tag ∷ s.behind) ≡ length (end_tag ∷ t.behind) = ap (λ (b : List ℕ). length b) end.bytes in
    same_whole one other s.keyed t.keyed end.state (omega (arith, long, s.used_is, t.used_is)) (s.records_is ∙ ap (λ (n : ℕ). n + 1) end.count ∙ sym t.records_is)

pub one_fault : (natives : List (List ℕ)) (bytes : List ℕ) (place : ℕ) (kind : BadKind) (other_place : ℕ) (other_kind : BadKind) → IsFirstFault natives bytes place kind → IsFirstFault natives bytes other_place other_kind → (place ≡ other_place) × (kind ≡ other_kind)
one_fault natives bytes place kind other_place other_kind s t = records.one_fault (journal_records natives) bytes (has_records natives) place kind other_place other_kind s t

pub not_both : (natives : List (List ℕ)) (bytes : List ℕ) (whole : Whole) (place : ℕ) (kind : BadKind) → Spells natives bytes whole → IsFirstFault natives bytes place kind → ⊥
not_both natives bytes whole place kind s f =
    records.not_both (journal_records natives) bytes s.count (told_in whole s.keyed) (end_tag ∷ s.behind) place kind (has_records natives) (whole_spelled natives bytes whole s) f

-- ---- every list of bytes

-- an end without a fault stands behind a boot
booted_end : (natives : List (List ℕ)) (bytes : List ℕ) (count : ℕ) (boot : Option Boot) (keyed : Bool) (events : List Event) (behind : List ℕ) → length behind ≤ length bytes
    → IsWhole (journal_records natives) bytes count (record { boot = boot; keyed = keyed; events = events }) (end_tag ∷ behind) → (whole : Whole) × Spells natives bytes whole
booted_end natives bytes count None keyed events behind fits w = let none : Some bad.Place ≡ None = w.no_fault in absurd cc
booted_end natives bytes count (Some boot) keyed events behind fits w =
    (record { boot = boot; events = events; used = length bytes - length behind; records = count + 1 }, record { begins = w.begins; count = count; keyed = keyed; behind = behind; spelled = w.leads; used_is = omega arith; records_is = refl })

spelled_by : (natives : List (List ℕ)) (bytes : List ℕ) (count : ℕ) (end : Told) (rest : List ℕ) → length rest ≤ length bytes → IsWhole (journal_records natives) bytes count end rest → (whole : Whole) × Spells natives bytes whole
spelled_by natives bytes count end [] fits w = let none : Some bad.Cut ≡ None = w.no_fault in absurd cc
spelled_by natives bytes count end (tag ∷ body) fits w = by_end (tag == end_tag) refl
  where
    by_end : (is_end : Bool) → (tag == end_tag) ≡ is_end → (whole : Whole) × Spells natives bytes whole
    by_end true is =
        booted_end natives bytes count end.boot end.keyed end.events body (omega (arith, fits)) (subst (λ (t : ℕ). IsWhole (journal_records natives) bytes count end (t ∷ body)) (tag_is tag is) w)
    by_end false is =
        absurd (w.no_record (sym (ap (λ (b : Bool). cond b (end_fault end) (first_broken (record_rules natives end (tag ∷ body)))) is) ∙ w.no_fault))

pub meaning : AllBytes
meaning natives bytes = record {
  spells_or_is_faulty = ⊎_elim (λ f. inl (spelled_by natives bytes f.count f.end f.rest f.fits f.whole)) (λ f. inr f) (has_meaning (journal_records natives) bytes (has_records natives));
  one_value = one_journal natives bytes;
  one_fault = one_fault natives bytes;
  not_both = not_both natives bytes;
}

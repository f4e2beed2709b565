-- What a turn makes of a pass, by what the lock says of the core before and after it.
use Rattle.std.proofs.Common.{◌≡◌, ℕ, ◌^◌, ◌≤◌, List, [], ◌∷◌, ◌++◌, ap, sym, subst, ◌∙◌}
use Rattle.std.specs.Prelude.{All}
use Rattle.std.specs.List.{AllByRecursion}
use Rattle.std.proofs.lemmas.List.{append-nil}
use Rattle.std.proofs.lemmas.List.Elements.{All-cons, All-nil}
use mathlib.Core.List.{IsPrefix}
use Rattle.core_lock.specs.Counts.{made_by}
use Rattle.core_lock.specs.Passes.{made, number, seen}
use Rattle.event_journal.specs.Journal.{copied_bytes}
use Rattle.event_journal.specs.declared.event.Event.{Event}
use Rattle.kernel_model.specs.Application.{Booted}
use Rattle.kernel_model.specs.History.{IsLegal}
use Rattle.kernel_model.specs.Laws.{IsOfOther}
use Rattle.kernel_model.specs.Turns.{cpu_of}
use Rattle.kernel_state.specs.Meaning.{booted_of, events_of, terms_of}
use Rattle.kernel_state.specs.Terms.{kept_terms}
use Rattle.kernel_state.specs.declared.kernel_core.Core.{Core}
use Rattle.kernel_state.proofs.CoreEvents.{core_is_legal, kept_few}
use Rattle.normal_cpus.specs.Seeing.{HasMade, HasOnlySeen}
use Rattle.normal_cpus.specs.Sharing.{CpuPass}
use Rattle.normal_cpus.proofs.OwnEvents.{others_behind}

-- ---- what a pass adds

-- these are events of the processor, behind those that were there
abbrev pub Adds : ℕ → List Event → List Event → Type 0
Adds cpu before after = (more : List Event) × (after ≡ before ++ more) × All (λ event. cpu_of event ≡ cpu) more

pub adds_one : (cpu : ℕ) (before after : List Event) (event : Event) → cpu_of event ≡ cpu → after ≡ before ++ event ∷ [] →
    Adds cpu before after
adds_one cpu before after event mine is =
    (event ∷ [], is, All-cons (λ (e : Event). cpu_of e ≡ cpu) event [] mine (All-nil (λ (e : Event). cpu_of e ≡ cpu)))

pub adds_none : (cpu : ℕ) (before after : List Event) → after ≡ before → Adds cpu before after
adds_none cpu before after is = ([], is ∙ sym (append-nil before), All-nil (λ (e : Event). cpu_of e ≡ cpu))

pub adds_since : (cpu n : ℕ) (before since after : List Event) → Adds cpu before after → since ≡ before → n ≡ cpu → Adds n since after
adds_since cpu n before since after adds same mine = (
  adds.0,
  adds.1 ∙ ap (λ (events : List Event). events ++ adds.0) (sym same),
  subst (λ (m : ℕ). All (λ (e : Event). cpu_of e ≡ m) adds.0) (sym mine) adds.2,
)

-- ---- what a pass finds

-- the core at the turn is the one that was shared, with more events since. Of the pass's processor it has those that the pass made
pub record IsFound (boot : Booted) (pass : CpuPass) (core : Core) : Type 0 where
  pub booted : booted_of core ≡ boot
  pub terms : terms_of core ≡ kept_terms
  pub begins : IsPrefix (seen pass) (events_of core)
  pub own : made_by cpu_of (number pass) (events_of core) ≡ made pass
  pub own_seen : made pass ≡ made_by cpu_of (number pass) (seen pass)

-- since the pass had seen its history only other processors have come and gone
pub others_since : (boot : Booted) (pass : CpuPass) (core : Core) (found : IsFound boot pass core) →
    AllByRecursion (IsOfOther (number pass)) found.begins.0
others_since boot pass core found =
    others_behind (number pass) (seen pass) found.begins.0
    (ap (made_by cpu_of (number pass)) found.begins.1 ∙ found.own ∙ found.own_seen)

-- ---- what it leaves

-- the pass has seen the core's events, and has made those that the core has more than it had at the turn
pub record IsGivenBack (old new : CpuPass) (before after : Core) : Type 0 where
  pub now_seen : seen new ≡ events_of after
  pub now_made : (more : List Event) → events_of after ≡ events_of before ++ more → made new ≡ made old ++ more
  pub now_own : made_by cpu_of (number old) (seen new) ≡ made new

legal_of : (boot : Booted) (history : List Event) (core : Core) → booted_of core ≡ boot → history ≡ events_of core →
    IsLegal boot history
legal_of boot history core booted is =
    subst (λ (events : List Event). IsLegal boot events) (sym is)
    (subst (λ (b : Booted). IsLegal b (events_of core)) booted (core_is_legal core))

-- the entries of a core have read few bytes
few_of : (history : List Event) (core : Core) → terms_of core ≡ kept_terms → history ≡ events_of core → copied_bytes history ≤ 2 ^ 28
few_of history core kept is =
    subst (λ (events : List Event). copied_bytes events ≤ 2 ^ 28) (sym is) (kept_few core kept)

pub only_seen : (boot : Booted) (old new : CpuPass) (before after : Core) → IsFound boot old before → IsGivenBack old new before after →
    booted_of after ≡ booted_of before → terms_of after ≡ terms_of before → events_of after ≡ events_of before → HasOnlySeen boot old new
only_seen boot old new before after found given same terms none = record {
  legal = legal_of boot (seen new) after (same ∙ found.booted) given.now_seen;
  few = few_of (seen new) after (terms ∙ found.terms) given.now_seen;
  begins = subst (λ (events : List Event). IsPrefix (seen old) events) (sym (given.now_seen ∙ none)) found.begins;
  own = given.now_own;
  made_none = given.now_made [] (none ∙ sym (append-nil (events_of before))) ∙ append-nil (made old);
}

pub has_made : (boot : Booted) (old new : CpuPass) (before after : Core) (event : Event) → IsFound boot old before →
    IsGivenBack old new before after → booted_of after ≡ booted_of before → terms_of after ≡ terms_of before →
    events_of after ≡ events_of before ++ event ∷ [] → HasMade boot old new (events_of before) event
has_made boot old new before after event found given same terms one = record {
  legal = legal_of boot (seen new) after (same ∙ found.booted) given.now_seen;
  few = few_of (seen new) after (terms ∙ found.terms) given.now_seen;
  ends = given.now_seen ∙ one;
  begins = found.begins;
  own = given.now_own;
  made_one = given.now_made (event ∷ []) one;
}

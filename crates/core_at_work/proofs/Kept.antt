-- What the processors of a core go out with, behind an entry and an exit.
use Rattle.std.proofs.Common.{◌≡◌, ℕ, zero, suc, Bool, true, false, List, [], ◌∷◌, length, Option, Some, None, refl, ap, sym, subst, ◌∙◌, ⊎_elim}
use Rattle.std.proofs.Math.Logic.{∥∥₁_elim, ∥∥₁_map, ∥∥₁_prop}
use Rattle.std.proofs.Props.{props}
use Rattle.std.proofs.lemmas.Bool.Decides.{eqb_tells}
use Rattle.std.proofs.lemmas.List.{append-nil, length-replicate, length-set, map-set}
use Rattle.std.specs.Prelude.{Err, map, not, replicate, slice_get, slice_set}
use Rattle.std.specs.Option.{is_some, option_map}
use Rattle.core_at_work.specs.Insides.{insides}
use Rattle.core_at_work.specs.Outgoing.{HaveTheirOwn}
use Rattle.core_at_work.proofs.InsidesMoved.{insides_entered, insides_left}
use Rattle.core_at_work.proofs.Stand.{Outgoing, insides_of}
use Rattle.event_journal.specs.declared.event.Event.{Event}
use Rattle.kernel_entry.specs.Entering.{HasMoreRoom}
use Rattle.kernel_model.specs.Application.{Booted}
use Rattle.kernel_model.specs.History.{is_outside, kernel_after}
use Rattle.kernel_model.specs.Kernel.{Outside}
use Rattle.kernel_model.proofs.Parts.{set_other, set_then_read}
use Rattle.kernel_state.specs.Entering.{Coming, Enters, HasEntered, IsAsBefore, visit_of}
use Rattle.kernel_state.specs.Laws.{ChangedByOthers, CoreEntry, CoreExit}
use Rattle.kernel_state.specs.Leaving.{CanLeave, HasLeft}
use Rattle.kernel_state.specs.Meaning.{booted_of, events_of, kernel_of}
use Rattle.kernel_state.specs.Setup.{booted_of_setup}
use Rattle.kernel_state.specs.Work.{IsRanOf}
use Rattle.kernel_state.specs.declared.enter_refusal.EnterRefusal.{EnterRefusal}
use Rattle.kernel_state.specs.declared.enter_refusal.EnterRefusal.TheVariants.{Full, Memory}
use Rattle.kernel_state.specs.declared.kernel_core.Core.{Core}
use Rattle.kernel_state.specs.declared.parts.Parts.{Parts}
use Rattle.kernel_state.specs.declared.work.Ran.{Ran}
use Rattle.kernel_state.specs.declared.work.Work.{Work}
use Rattle.kernel_state.proofs.CoreEvents.{journals_legal, some_kernel}
use Rattle.kernel_state.proofs.Others.{work_stays_onward, works_stay}
use Rattle.smc_abi.specs.declared.regs.Regs.{Regs}

-- ---- one of them

-- what other processors do leaves it its processor's own
own_stays : (old new : Core) (cpu : ℕ) (ran : Ran) → ChangedByOthers old new cpu → (ran.cpu ≡ cpu) × CanLeave old ran →
    (ran.cpu ≡ cpu) × CanLeave new ran
own_stays old new cpu ran changed is =
    (is.0, works_stay.ran old new ran (subst (ChangedByOthers old new) (sym is.0) changed) is.1)

-- ---- with another in its place

-- what is found behind a change of one place: what was set there, or else what was there before
found_behind : (core : Core) (outgoing : Outgoing) (at : ℕ) (put : Option Ran) →
    ((ran : Ran) → put ≡ Some ran → (ran.cpu ≡ at) × CanLeave core ran) →
    ((cpu : ℕ) (ran : Ran) → (at ≡ cpu → ⊥) → slice_get outgoing cpu ≡ Some (Some ran) →
    (ran.cpu ≡ cpu) × CanLeave core ran) →
    (cpu : ℕ) (ran : Ran) → slice_get (slice_set outgoing at put) cpu ≡ Some (Some ran) → (ran.cpu ≡ cpu) × CanLeave core ran
found_behind core outgoing at put here others cpu ran there =
    ⊎_elim (λ same. at_it same.1) (λ apart. others cpu ran apart.1 (sym (set_other outgoing at cpu put apart.1) ∙ there))
    (eqb_tells at cpu)
  where
    at_it : at ≡ cpu → (ran.cpu ≡ cpu) × CanLeave core ran
    at_it same =
        let is : put ≡ Some ran =
        set_then_read outgoing at put (Some ran) (ap (slice_get (slice_set outgoing at put)) same ∙ there) in
        subst (λ (n : ℕ). (ran.cpu ≡ n) × CanLeave core ran) same (here ran is)

-- ---- behind an entry

module _ (old new : Core) (coming : Coming) (lane : List ℕ) (work : Work) (ran : Ran) (outgoing : Outgoing)
    (have : HaveTheirOwn old outgoing) (has : HasEntered old new coming lane work) (run : IsRanOf work ran) where
  abbrev core_entry : CoreEntry
  core_entry = record {
    old = old;
    new = new;
    coming = coming;
    lane = lane;
    work = work;
    has_entered = has;
    kernel = (some_kernel old).0;
    next = (some_kernel new).0;
    before = (some_kernel old).1;
    after = (some_kernel new).1;
  }

  inside_entered : option_map insides (kernel_of new) ≡ Some (map is_some (slice_set outgoing coming.cpu (Some ran)))
  inside_entered =
      ap (option_map insides) (some_kernel new).1
      ∙ ap Some (insides_entered (booted_of old) (some_kernel old).0 (some_kernel new).0 (visit_of coming) has.reads
      (journals_legal.entered core_entry)
      ∙ ap (λ (inside : List Bool). slice_set inside coming.cpu true)
      (insides_of old outgoing (some_kernel old).0 have (some_kernel old).1)
      ∙ sym (map-set is_some outgoing coming.cpu (Some ran)))

  -- with its granted steps done it can leave
  its_own : (one : Ran) → Some ran ≡ Some one → (one.cpu ≡ coming.cpu) × CanLeave new one
  its_own one is =
      let same : ran ≡ one = cc in
      subst (λ (r : Ran). (r.cpu ≡ coming.cpu) × CanLeave new r) same
      (run.cpu ∙ has.cpu, work_stays_onward.has_run (booted_of new) (events_of new) work ran has.fits run)

  have_entered : HaveTheirOwn new (slice_set outgoing coming.cpu (Some ran))
  have_entered = record {
    each = length-set outgoing coming.cpu (Some ran) ∙ have.each ∙ sym (ap (λ (b : Booted). b.cpus) has.boot);
    inside = inside_entered;
    own = found_behind new outgoing coming.cpu (Some ran) its_own
        (λ cpu one apart there. own_stays old new cpu one (works_stay.entered core_entry cpu apart) (have.own cpu one there));
  }

pub entered : (old new : Core) (coming : Coming) (lane : List ℕ) (work : Work) (ran : Ran) (outgoing : Outgoing) (place : ℕ)
    (put : Option Ran) → ∥ HaveTheirOwn old outgoing ∥₁ → HasEntered old new coming lane work → IsRanOf work ran →
    place ≡ coming.cpu → put ≡ Some ran → ∥ HaveTheirOwn new (slice_set outgoing place put) ∥₁
entered old new coming lane work ran outgoing place put have has run same is =
    ∥∥₁_map have (λ (so : HaveTheirOwn old outgoing).
    subst (λ (one : Option Ran). HaveTheirOwn new (slice_set outgoing place one)) (sym is)
    (subst (λ (n : ℕ). HaveTheirOwn new (slice_set outgoing n (Some ran))) (sym same)
    (have_entered old new coming lane work ran outgoing so has run)))

-- ---- behind an exit

module _ (old new : Core) (ran : Ran) (lane now : List ℕ) (told : Regs) (outgoing : Outgoing)
    (have : HaveTheirOwn old outgoing) (has : HasLeft old new ran lane now told) where
  abbrev core_exit : CoreExit
  core_exit = record {
    old = old;
    new = new;
    ran = ran;
    lane = lane;
    now = now;
    told = told;
    has_left = has;
    kernel = (some_kernel old).0;
    next = (some_kernel new).0;
    before = (some_kernel old).1;
    after = (some_kernel new).1;
  }

  inside_left : option_map insides (kernel_of new) ≡ Some (map is_some (slice_set outgoing ran.cpu None))
  inside_left =
      ap (option_map insides) (some_kernel new).1
      ∙ ap Some (ap insides (journals_legal.left core_exit)
      ∙ insides_left (some_kernel old).0 ran.cpu has.exited (journals_legal.exits core_exit)
      ∙ ap (λ (inside : List Bool). slice_set inside ran.cpu false)
      (insides_of old outgoing (some_kernel old).0 have (some_kernel old).1)
      ∙ sym (map-set is_some outgoing ran.cpu None))

  have_left : HaveTheirOwn new (slice_set outgoing ran.cpu None)
  have_left = record {
    each = length-set outgoing ran.cpu None ∙ have.each ∙ sym (ap (λ (b : Booted). b.cpus) has.boot);
    inside = inside_left;
    own = found_behind new outgoing ran.cpu None (λ one is. absurd cc)
        (λ cpu one apart there. own_stays old new cpu one (works_stay.left core_exit cpu apart) (have.own cpu one there));
  }

pub left : (old new : Core) (ran : Ran) (lane now : List ℕ) (told : Regs) (outgoing : Outgoing) (place : ℕ)
    (put : Option Ran) → ∥ HaveTheirOwn old outgoing ∥₁ → HasLeft old new ran lane now told → place ≡ ran.cpu →
    put ≡ None → ∥ HaveTheirOwn new (slice_set outgoing place put) ∥₁
left old new ran lane now told outgoing place put have has same is = ∥∥₁_map have (λ (so : HaveTheirOwn old outgoing).
    subst (λ (one : Option Ran). HaveTheirOwn new (slice_set outgoing place one)) (sym is)
    (subst (λ (n : ℕ). HaveTheirOwn new (slice_set outgoing n None)) (sym same)
    (have_left old new ran lane now told outgoing so has)))

-- ---- behind a refusal

pub kernel_as_before : (old new : Core) → IsAsBefore old new → kernel_of new ≡ kernel_of old
kernel_as_before old new same =
    ap (λ (b : Booted). kernel_after b (events_of new)) same.boot ∙ ap (kernel_after (booted_of old)) same.events

own_as_before : (old new : Core) (cpu : ℕ) (ran : Ran) → IsAsBefore old new → (ran.cpu ≡ cpu) × CanLeave old ran →
    (ran.cpu ≡ cpu) × CanLeave new ran
own_as_before old new cpu ran same is = own_stays old new cpu ran (unchanged old new cpu same) is
  where
    unchanged : (old new : Core) (cpu : ℕ) → IsAsBefore old new → ChangedByOthers old new cpu
    unchanged old new cpu same = record {
      boot = same.boot;
      terms = same.terms;
      between = [];
      others = tt;
      events = same.events ∙ sym (append-nil (events_of old));
    }

pub as_before : (old new : Core) (outgoing : Outgoing) → IsAsBefore old new → ∥ HaveTheirOwn old outgoing ∥₁ →
    ∥ HaveTheirOwn new outgoing ∥₁
as_before old new outgoing same have = ∥∥₁_map have (λ (so : HaveTheirOwn old outgoing).
    let now : HaveTheirOwn new outgoing = record {
      each = so.each ∙ sym (ap (λ (b : Booted). b.cpus) same.boot);
      inside = ap (option_map insides) (kernel_as_before old new same) ∙ so.inside;
      own = λ cpu ran there. own_as_before old new cpu ran same (so.own cpu ran there);
    } in now)

pub refused_as_before : (old new : Core) (coming : Coming) (lane : List ℕ) (why : EnterRefusal) →
    Enters old new coming lane (Err why) → IsAsBefore old new
refused_as_before old new coming lane (Full copied more) is = is.0
refused_as_before old new coming lane Memory is = is

-- ---- with more room

pub with_room : (old new : Core) → HasMoreRoom old.parts new.parts → IsAsBefore old new
with_room old new more = record {
  boot = ap (λ (parts : Parts). booted_of_setup parts.setup) more.stays;
  terms = ap (λ (parts : Parts). parts.setup.terms) more.stays;
  events = more.events;
}

-- ---- at first

none_yet : (count cpu : ℕ) (ran : Ran) → slice_get (replicate count None) cpu ≡ Some (Some ran) → ⊥
none_yet zero cpu ran there = absurd cc
none_yet (suc count) zero ran there = absurd cc
none_yet (suc count) (suc cpu) ran there = none_yet count cpu ran there

nobody_in : (count : ℕ) → map (is_some {T = Ran}) (replicate count None) ≡ replicate count false
nobody_in zero = refl
nobody_in (suc count) = ap (λ rest. false ∷ rest) (nobody_in count)

pub all_outside : (count : ℕ) →
    map (λ processor. not (is_outside processor)) (replicate count Outside) ≡ replicate count false
all_outside zero = refl
all_outside (suc count) = ap (λ rest. false ∷ rest) (all_outside count)

pub first : (core : Core) (outgoing : Outgoing) → events_of core ≡ [] → outgoing ≡ replicate (booted_of core).cpus None →
    HaveTheirOwn core outgoing
first core outgoing fresh none =
    let cpus = (booted_of core).cpus in
    record {
      each = ap (λ (all : Outgoing). length all) none ∙ length-replicate cpus None;
      inside = ap (λ (events : List Event). option_map insides (kernel_after (booted_of core) events)) fresh
          ∙ ap Some (all_outside cpus ∙ sym (nobody_in cpus) ∙ ap (map is_some) (sym none));
      own = λ cpu ran there. absurd (none_yet cpus cpu ran (ap (λ (all : Outgoing). slice_get all cpu) (sym none)
          ∙ there));
    }

-- ---- what is found

-- what is found is the processor's own
pub own_found : (core : Core) (outgoing : Outgoing) (cpu : ℕ) (ran : Ran) → ∥ HaveTheirOwn core outgoing ∥₁ →
    slice_get outgoing cpu ≡ Some (Some ran) → (ran.cpu ≡ cpu) × CanLeave core ran
own_found core outgoing cpu ran have there =
    ∥∥₁_elim have (Prim.hlevel (props, ∥∥₁_prop)) (λ (so : HaveTheirOwn core outgoing). so.own cpu ran there)

-- Who claims which instance, after each event of a legal history: no claim is new but that of an instance that is made.
use Rattle.std.proofs.Common.{◌≡◌, ℕ, Bool, true, false, cond, List, [], ◌∷◌, Option, Some, None, ◌⊎◌, inl, inr, refl, ap, subst, sym, ◌∙◌}
use Rattle.std.specs.Prelude.{All, IsSome, if◌then◌else◌, bytes_eq, find, ◌==◌, ◌||◌, slice_get, slice_set}
use Rattle.std.specs.List.{list_any}
use Rattle.std.specs.Option.{option_and_then, option_map, option_map_or}
use Rattle.std.proofs.lemmas.Bool.Decides.{Decides-eqb}
use Rattle.std.proofs.lemmas.List.Elements.{All-head, All-tail}
use Rattle.std.proofs.lemmas.Slice.Eq.{bytes_eq-Decides}
use Rattle.base.specs.NumberMap.{NumberMap, get, insert}
use Rattle.job_model.specs.Job.{Job}
use Rattle.session_table.specs.declared.waiters.Waiter.{Waiter}
use Rattle.kernel_model.specs.Application.{Application, Booted, uuid_of}
use Rattle.kernel_model.specs.Argument.{client_in, thread_in}
use Rattle.kernel_model.specs.Begin.{awaited_number}
use Rattle.kernel_model.specs.Decision.{Taken, Takes}
use Rattle.kernel_model.specs.Entry.{after_decision}
use Rattle.kernel_model.specs.Exit.{progress_of, slot_left, tables_left}
use Rattle.kernel_model.specs.Instances.{app_of, given_back, held_by, is_single, killed, made_for}
use Rattle.kernel_model.specs.Kernel.{Active, CallPhase, Free, Instance, Kernel, PendingCall, Progress, Runs, Suspended, Tables, ThreadSlot, Waits}
use Rattle.kernel_model.specs.Leaving.{leaving_of}
use Rattle.kernel_model.specs.Located.{cookie_of}
use Rattle.kernel_model.specs.NewCall.{NewCall, new_call_of, shared_by}
use Rattle.kernel_model.specs.Resume.{Resumed, onward_of, resumed_call, sees}
use Rattle.kernel_model.specs.Sessions.{sessions_after, sessions_after_panic}
use Rattle.kernel_model.specs.Sound.{Calls, unmarked_at, unmarked_in, unmarked}
use Rattle.kernel_model.specs.SoundCalls.{AreJoined, Holds, is_in_session, job_in}
use Rattle.kernel_model.specs.SoundWaiters.{Awaited, IsWaiter, awaited, awaited_in}
use Rattle.kernel_model.proofs.Parts.{option_map_some}
use Rattle.kernel_model.proofs.SoundEndedJoined.{InstancesEnd, instances_end}
use Rattle.kernel_model.proofs.SoundEvents.{EventCases, resumed_taken}
use Rattle.kernel_model.proofs.SoundExits.{exits_all, left_all, unbuffered}
use Rattle.kernel_model.proofs.SoundJoined.{GoesOn, never_both, some_same}
use Rattle.kernel_model.proofs.SoundMaps.{find-all, get-inserted, if_some, named_is}
use Rattle.kernel_model.proofs.SoundMemory.{own_uuid}
use Rattle.kernel_model.proofs.SoundPinned.{before_pinned}
use Rattle.kernel_model.proofs.SoundNewCalls.{NewCases, cases_onward}
use Rattle.kernel_model.proofs.SoundNewJoined.{Before, shared_there}
use Rattle.kernel_model.proofs.SoundResumedJoined.{named_app, resumed_on, session_instance}
use Rattle.kernel_model.proofs.SoundResumes.{resumes_all}
use Rattle.kernel_model.proofs.SoundRising.{none_passes}
use Rattle.kernel_model.proofs.SoundSlots.{Changes, by_number, free_there, leaves_slot, takes_slot}
use Rattle.kernel_model.proofs.SoundWaiters.{given_awaits, idle_after, sees_awaits}

abbrev pub IsSingle : Booted → List ℕ → Type 0
IsSingle boot uuid = option_map_or is_single (app_of boot uuid) false ≡ true

-- an instance of the UUID is kept under the number, or a call waits for it
abbrev pub Claims : Calls → NumberMap Instance → ℕ → List ℕ → Type 0
Claims calls tables number uuid =
    ((instance : Instance) × (get tables number ≡ Some instance) × (instance.uuid ≡ uuid))
    ⊎ ((slot : ℕ) × (awaited (calls slot) ≡ Some (number, Some uuid)))

-- it holds of the calls and the instances as long as no claim is new, and where the next instance is made for an
-- application: of one that shares its instance nobody claims one then
pub record IsKeptUp (boot : Booted) (next : ℕ) (P : Calls → NumberMap Instance → Type 0) : Type 0 where
  pub still : (before after : Calls) (tables now : NumberMap Instance) → P before tables →
      ((number : ℕ) (uuid : List ℕ) → Claims after now number uuid → Claims before tables number uuid) → P after now
  pub made : (before after : Calls) (tables now : NumberMap Instance) (uuid : List ℕ) → P before tables →
      (IsSingle boot uuid → (at : ℕ) → Claims before tables at uuid → ⊥) →
      ((number : ℕ) (other : List ℕ) → Claims after now number other →
      Claims before tables number other ⊎ ((next ≡ number) × (uuid ≡ other))) → P after now

abbrev with_uuid : ℕ → Option (List ℕ) → Option Awaited
with_uuid number uuid = Some (number, uuid)

pub no_claim : {P : Type 0} (wanted : Awaited) → None ≡ Some wanted → P
no_claim wanted e = absurd cc

-- an instance of this number and UUID is wanted
abbrev wants : ℕ → List ℕ → Option Awaited
wants number uuid = Some (number, Some uuid)

same_claim : (number other : ℕ) (uuid others : List ℕ) → wants number uuid ≡ wants other others → (number ≡ other) × (uuid ≡ others)
same_claim number other uuid others e =
    let one : Awaited = (number, Some uuid) in
    let two : Awaited = (other, Some others) in
    let pair = some_same one two e in
    (ap (λ (p : Awaited). p.0) pair, some_same uuid others (ap (λ (p : Awaited). p.1) pair))

module _ (before after : Calls) (now : NumberMap Instance) (slot : ℕ) (held : Option PendingCall) (changes : Changes before after slot held) (Old : ℕ → List ℕ → Type 0)
    (instances : (number : ℕ) (instance : Instance) → get now number ≡ Some instance → Old number instance.uuid)
    (own : (number : ℕ) (uuid : List ℕ) → awaited held ≡ Some (number, Some uuid) → Old number uuid)
    (others : (number : ℕ) (uuid : List ℕ) (at : ℕ) → awaited (before at) ≡ Some (number, Some uuid) → Old number uuid) where
  claimed : (number : ℕ) (uuid : List ℕ) → Claims after now number uuid → Old number uuid
  claimed number uuid (inl (instance, kept, same)) = subst (Old number) same (instances number instance kept)
  claimed number uuid (inr (at, waited)) = by_number slot at
      (λ same. own number uuid (sym (ap awaited changes.here) ∙ ap (λ (n : ℕ). awaited (after n)) same ∙ waited))
      (λ apart. others number uuid at (sym (ap awaited (changes.others at apart)) ∙ waited))

module _ (boot : Booted) (next : ℕ) (P : Calls → NumberMap Instance → Type 0) (keeps : IsKeptUp boot next P) (before after : Calls)
    (tables now : NumberMap Instance) (slot : ℕ) (held : Option PendingCall) (changes : Changes before after slot held) (holds : P before tables) where
  -- no claim is new
  none_new : ((number : ℕ) (instance : Instance) → get now number ≡ Some instance → Claims before tables number instance.uuid)
      → ((number : ℕ) (uuid : List ℕ) → awaited held ≡ Some (number, Some uuid) → Claims before tables number uuid) → P after now
  none_new instances own =
      keeps.still before after tables now holds
      (claimed before after now slot held changes (Claims before tables) instances own (λ number u at waited. inr (at, waited)))

  -- the instances stay, and no call waits anew
  claims_rest : now ≡ tables
      → ((number : ℕ) (uuid : List ℕ) → awaited held ≡ Some (number, Some uuid) → Claims before tables number uuid) → P after now
  claims_rest same own =
      none_new (λ number instance kept. inl (instance, ap (λ (m : NumberMap Instance). get m number) (sym same) ∙ kept, refl)) own

  -- an instance that is claimed changes
  claim_changes : (number : ℕ) (its : Instance) → now ≡ insert tables number its → Claims before tables number its.uuid → awaited held ≡ None
      → P after now
  claim_changes number its same claim idle =
      none_new (λ at instance kept.
      get-inserted tables number its at instance (ap (λ (m : NumberMap Instance). get m at) (sym same) ∙ kept)
      (λ here is. subst (λ (i : Instance). Claims before tables at i.uuid) is (subst (λ (n : ℕ). Claims before tables n its.uuid) here claim))
      (λ apart there. inl (instance, there, refl)))
      (λ at uuid waited. no_claim (at, Some uuid) (sym idle ∙ waited))

  -- the next one is made
  next_made : (its : Instance) → now ≡ insert tables next its
      → (IsSingle boot its.uuid → (at : ℕ) → Claims before tables at its.uuid → ⊥) → awaited held ≡ None → P after now
  next_made its same none idle = keeps.made before after tables now its.uuid holds none old
    where
      instances_old : (at : ℕ) (instance : Instance) → get now at ≡ Some instance
          → Claims before tables at instance.uuid ⊎ ((next ≡ at) × (its.uuid ≡ instance.uuid))
      instances_old at instance kept =
          get-inserted tables next its at instance (ap (λ (m : NumberMap Instance). get m at) (sym same) ∙ kept)
          (λ here is. inr (here, ap (λ (i : Instance). i.uuid) is)) (λ apart there. inl (inl (instance, there, refl)))

      old : (at : ℕ) (u : List ℕ) → Claims after now at u → Claims before tables at u ⊎ ((next ≡ at) × (its.uuid ≡ u))
      old at u claim = claimed before after now slot held changes (λ n v. Claims before tables n v ⊎ ((next ≡ n) × (its.uuid ≡ v))) instances_old
          (λ n v waited. no_claim (n, Some v) (sym idle ∙ waited)) (λ n v s waited. inl (inr (s, waited))) at u claim

-- ---- new calls

abbrev NewClaims : (Calls → NumberMap Instance → Type 0) → Calls → NewCall → Taken → Type 0
NewClaims P before c taken = (after : Calls) → Changes before after c.slot (Some (unmarked taken.call)) → P after taken.tables.instances

-- no waiter of the application, no claim of a call
none_waits : (before : Calls) (waiters : List Waiter) (uuid : List ℕ) (number at : ℕ) → All (IsWaiter before) waiters
    → find (λ (w : Waiter). bytes_eq w.uuid uuid) waiters ≡ None → list_any (λ (w : Waiter). w.slot == at) waiters ≡ true
    → awaited (before at) ≡ Some (number, Some uuid) → ⊥
none_waits before [] uuid number at all none there waited = absurd cc
none_waits before (first ∷ others) uuid number at all none there waited =
    by_uuid (bytes_eq first.uuid uuid) refl none there (none_waits before others uuid number at (All-tail (IsWaiter before) first others all))
  where
    by_slot : (b : Bool) → (first.slot == at) ≡ b → bytes_eq first.uuid uuid ≡ false → find (λ (w : Waiter). bytes_eq w.uuid uuid) others ≡ None
        → (b || list_any (λ (w : Waiter). w.slot == at) others) ≡ true
        → (find (λ (w : Waiter). bytes_eq w.uuid uuid) others ≡ None → list_any (λ (w : Waiter). w.slot == at) others ≡ true
        → awaited (before at) ≡ Some (number, Some uuid) → ⊥) → ⊥
    by_slot true is fails left any rest =
        let its = All-head (IsWaiter before) first others all in
        let same = same_claim first.instance number first.uuid uuid
        (sym its ∙ ap (λ (n : ℕ). awaited (before n)) ((Decides-eqb first.slot at).0 is) ∙ waited) in
        never_both (sym ((bytes_eq-Decides first.uuid uuid).1 same.1) ∙ fails)
    by_slot false is fails left any rest = rest left any waited

    by_uuid : (b : Bool) → bytes_eq first.uuid uuid ≡ b → cond b (Some first) (find (λ (w : Waiter). bytes_eq w.uuid uuid) others) ≡ None
        → ((first.slot == at) || list_any (λ (w : Waiter). w.slot == at) others) ≡ true
        → (find (λ (w : Waiter). bytes_eq w.uuid uuid) others ≡ None → list_any (λ (w : Waiter). w.slot == at) others ≡ true
        → awaited (before at) ≡ Some (number, Some uuid) → ⊥) → ⊥
    by_uuid true is found any rest = absurd cc
    by_uuid false is left any rest = by_slot (first.slot == at) refl is left any rest

not_found : {A B : Type 0} (f : A → B) (o : Option A) → option_map f o ≡ None → o ≡ None
not_found f None e = refl
not_found f (Some a) e = absurd cc

module _ (P : Calls → NumberMap Instance → Type 0) (before : Calls) (c : NewCall) (keeps : IsKeptUp c.boot c.tables.next_instance P)
    (sound : Before before c.tables) (free : before c.slot ≡ None) (holds : P before c.tables.instances) where
  rests : (after : Calls) (now : NumberMap Instance) (call : PendingCall) → Changes before after c.slot (Some call) → awaited (Some call) ≡ None
      → now ≡ c.tables.instances → P after now
  rests after now call changes idle same = claims_rest c.boot c.tables.next_instance P keeps before after c.tables.instances now c.slot (Some call) changes holds same
      (λ number uuid waited. no_claim (number, Some uuid) (sym idle ∙ waited))

  -- a call waits for an instance that is kept
  waits_so : (after : Calls) (now : NumberMap Instance) (call : PendingCall) (number : ℕ) (uuid : List ℕ) (instance : Instance) → Changes before after c.slot (Some call)
      → awaited (Some call) ≡ Some (number, Some uuid) → get c.tables.instances number ≡ Some instance → instance.uuid ≡ uuid
      → now ≡ c.tables.instances → P after now
  waits_so after now call number uuid instance changes wants kept its same =
      claims_rest c.boot c.tables.next_instance P keeps before after c.tables.instances now c.slot (Some call) changes holds same
      (λ at other waited.
      let claim = same_claim number at uuid other (sym wants ∙ waited) in
      inl (instance, ap (λ (n : ℕ). get c.tables.instances n) (sym claim.0) ∙ kept, its ∙ claim.1))

  begins_so : (after : Calls) (now : NumberMap Instance) (call : PendingCall) (number : ℕ) (its instance : Instance) → Changes before after c.slot (Some call)
      → awaited (Some call) ≡ None → now ≡ insert c.tables.instances number its → get c.tables.instances number ≡ Some instance
      → instance.uuid ≡ its.uuid → P after now
  begins_so after now call number its instance changes idle same kept uuid =
      claim_changes c.boot c.tables.next_instance P keeps before after c.tables.instances now c.slot (Some call) changes holds number its same (inl (instance, kept, uuid)) idle

  -- a waiter's claim
  waiter_claims : (app : Application) (number : ℕ) → awaited_number c.tables app ≡ Some number → Claims before c.tables.instances number (uuid_of app)
  waiter_claims app number e =
      let single = if_some (is_single app) _ number e in
      let waiter = option_map_some (λ (w : Waiter). w.instance) _ number single.1 in
      let found = find-all (IsWaiter before) (λ (w : Waiter). bytes_eq w.uuid (uuid_of app)) c.tables.waiters waiter.0 sound.waiters.each waiter.1 in
      let its : waiter.0.uuid ≡ uuid_of app = (bytes_eq-Decides waiter.0.uuid (uuid_of app)).0 found.passes in
      let claims : wants waiter.0.instance waiter.0.uuid ≡ wants number (uuid_of app) =
      ap (λ (n : ℕ). wants n waiter.0.uuid) waiter.2 ∙ ap (λ (u : List ℕ). wants number u) its in
      inr (waiter.0.slot, found.holds ∙ claims)

  is_single_app : (app : Application) → app_of c.boot (uuid_of app) ≡ Some app → IsSingle c.boot (uuid_of app) → is_single app ≡ true
  is_single_app app is single = sym (ap (λ (o : Option Application). option_map_or is_single o false) is) ∙ single

  -- nobody claims an instance of the application, where it is the next one
  none_claims : (app : Application) → app_of c.boot (uuid_of app) ≡ Some app → shared_by c app ≡ None → awaited_number c.tables app ≡ None
      → IsSingle c.boot (uuid_of app) → (number : ℕ) → Claims before c.tables.instances number (uuid_of app) → ⊥
  none_claims app is shared awaits single number (inl (instance, kept, its)) =
      let none : find (λ (k : ℕ × Instance). bytes_eq k.1.uuid (uuid_of app)) c.tables.instances ≡ None =
      sym (ap (λ (b : Bool). if b then find (λ (k : ℕ × Instance). bytes_eq k.1.uuid (uuid_of app)) c.tables.instances else None) (is_single_app app is single)) ∙ shared in
      never_both (sym ((bytes_eq-Decides instance.uuid (uuid_of app)).1 its)
      ∙ none_passes c.tables.instances (λ (k : ℕ × Instance). bytes_eq k.1.uuid (uuid_of app)) number instance none kept)
  none_claims app is shared awaits single number (inr (at, waited)) =
      let none = not_found (λ (w : Waiter). w.instance) (find (λ (w : Waiter). bytes_eq w.uuid (uuid_of app)) c.tables.waiters)
      (sym (ap (λ (b : Bool). if b then option_map (λ (w : Waiter). w.instance) (find (λ (w : Waiter). bytes_eq w.uuid (uuid_of app)) c.tables.waiters) else None)
      (is_single_app app is single)) ∙ awaits) in
      none_waits before c.tables.waiters (uuid_of app) number at sound.waiters.each none
      (sound.waiters.all at (subst (λ (o : Option Awaited). IsSome o) (sym waited) refl)) waited

  new_claims : NewCases c (NewClaims P before c)
  new_claims = record {
    settles = λ code after changes. rests after _ _ changes refl refl;
    settles_open = λ app login code after changes. rests after _ _ changes refl refl;
    settles_invoke = λ named code is after changes. rests after _ _ changes refl refl;
    cancels = λ named is after changes. rests after _ _ changes refl refl;
    registers = λ param pages new room good after changes. rests after _ _ changes refl refl;
    unregisters = λ param unpinned after changes. rests after _ _ changes refl refl;
    opens_kept = λ wanted app copies copied kept shown shared unheld after changes.
        begins_so after _ _ kept.0 (held_by c.slot kept.1) kept.1 changes refl refl (shared_there before c sound free app kept shared).0 refl;
    opens_awaited = λ wanted app copies copied number shown shared waits after changes.
        claim_changes c.boot c.tables.next_instance P keeps before after c.tables.instances _ c.slot (Some _) changes holds number (made_for (uuid_of app) c.slot) refl (waiter_claims app number waits) refl;
    opens_next = λ wanted app copies copied shown shared waits after changes.
        next_made c.boot c.tables.next_instance P keeps before after c.tables.instances _ c.slot (Some _) changes holds (made_for (uuid_of app) c.slot) refl
        (none_claims app (own_uuid c.boot wanted.uuid app shown.of_boot) shared waits) refl;
    open_waits = λ wanted app copies copied kept shown shared held after changes.
        let there = shared_there before c sound free app kept shared in
        waits_so after _ _ kept.0 (uuid_of app) kept.1 changes refl there.0 there.1 refl;
    invokes = λ named copies copied is alive unheld after changes.
        begins_so after _ _ named.0.instance (held_by c.slot named.1) named.1 changes refl refl (named_is c named is).instance refl;
    invoke_waits = λ named copies copied is alive held after changes.
        waits_so after _ _ named.0.instance named.1.uuid named.1 changes refl (named_is c named is).instance refl refl;
    closes = λ named is unheld after changes.
        begins_so after _ _ named.0.instance (held_by c.slot named.1) named.1 changes refl refl (named_is c named is).instance refl;
    close_waits = λ named is held after changes.
        waits_so after _ _ named.0.instance named.1.uuid named.1 changes refl (named_is c named is).instance refl refl;
  }

-- ---- resumes

abbrev OnwardClaims : (Calls → NumberMap Instance → Type 0) → Calls → ℕ → Progress → Type 0
OnwardClaims P before slot progress = (after : Calls) → Changes before after slot (Some (unmarked progress.call)) → P after progress.tables.instances

module _ (next : ℕ) (P : Calls → NumberMap Instance → Type 0) (before : Calls) (r : Resumed) (keeps : IsKeptUp r.boot next P)
    (joined : AreJoined before r.tables) (holds : P before r.tables.instances)
    (its : awaited (before r.slot) ≡ awaited (Some r.call)) (was : PendingCall) (there : before r.slot ≡ Some was) (on : GoesOn was r.call) where
  idles_so : (after : Calls) (now : NumberMap Instance) (call : PendingCall) → Changes before after r.slot (Some call) → awaited (Some call) ≡ None
      → now ≡ r.tables.instances → P after now
  idles_so after now call changes idle same = claims_rest r.boot next P keeps before after r.tables.instances now r.slot (Some call) changes holds same
      (λ number uuid waited. no_claim (number, Some uuid) (sym idle ∙ waited))

  in_phase : (phase : CallPhase) → r.call.phase ≡ phase → awaited (before r.slot) ≡ awaited_in phase (r.call.instance, r.call.uuid)
  in_phase phase is = its ∙ ap (λ (p : CallPhase). awaited_in p (r.call.instance, r.call.uuid)) is

  resumed_claims : OnwardClaims P before r.slot (onward_of r)
  resumed_claims = resumes_all r (OnwardClaims P before r.slot) (record {
    runs = λ job is after changes. idles_so after _ _ changes refl refl;
    asks_still = λ job wanted payload is after changes. idles_so after _ _ changes refl refl;
    answered = λ job wanted payload answer advance is e after changes.
        idles_so after _ _ changes (idle_after job wanted payload advance (r.call.instance, r.call.uuid)) refl;
    ends = λ result params told wakes left is after changes. idles_so after _ _ changes refl refl;
    fails = λ params code is after changes. idles_so after _ _ changes refl refl;
    sleeps = λ params is after changes.
        claims_rest r.boot next P keeps before after r.tables.instances _ r.slot (Some _) changes holds refl (λ number uuid waited. inr (r.slot, in_phase (Waits params) is ∙ waited));
    opens = λ params session app instance ready alive opening is after changes.
        claim_changes r.boot next P keeps before after r.tables.instances _ r.slot (Some _) changes holds r.call.instance (held_by r.slot instance) refl (inl (instance, ready.there, refl)) refl;
    opens_new = λ params session app awake none opening is pages after changes.
        claim_changes r.boot next P keeps before after r.tables.instances _ r.slot (Some _) changes holds r.call.instance (made_for (uuid_of app) r.slot) refl
        (inr (r.slot, in_phase (Waits params) awake.waited ∙ ap (with_uuid r.call.instance) (named_app before r joined was there on app is))) refl;
    invokes = λ params session instance func ready alive is after changes.
        let same = session_instance before r joined was there on session ready.awake.kept (ap is_in_session is) in
        claim_changes r.boot next P keeps before after r.tables.instances _ r.slot (Some _) changes holds session.instance (held_by r.slot instance) refl
        (inl (instance, ap (λ (n : ℕ). get r.tables.instances n) same ∙ ready.there, refl)) refl;
    closes = λ params session instance ready is after changes.
        let same = session_instance before r joined was there on session ready.awake.kept (ap is_in_session is) in
        claim_changes r.boot next P keeps before after r.tables.instances _ r.slot (Some _) changes holds session.instance (held_by r.slot instance) refl
        (inl (instance, ap (λ (n : ℕ). get r.tables.instances n) same ∙ ready.there, refl)) refl;
  })

-- ---- exits

module _ (boot : Booted) (next : ℕ) (P : Calls → NumberMap Instance → Type 0) (keeps : IsKeptUp boot next P) (before : Calls) (tables : Tables)
    (slot : ℕ) (call : PendingCall) (joined : AreJoined before tables) (holds : P before tables.instances) (there : before slot ≡ Some (unmarked call)) where
  exit_idles : (after : Calls) (now : NumberMap Instance) (left : PendingCall) → Changes before after slot (Some left) → awaited (Some left) ≡ None
      → now ≡ tables.instances → P after now
  exit_idles after now left changes idle same = claims_rest boot next P keeps before after tables.instances now slot (Some left) changes holds same
      (λ number uuid waited. no_claim (number, Some uuid) (sym idle ∙ waited))

  exit_stays : (after : Calls) → Changes before after slot (Some (unmarked call)) → P after tables.instances
  exit_stays after changes = claims_rest boot next P keeps before after tables.instances tables.instances slot (Some (unmarked call)) changes holds refl
      (λ number uuid waited. inr (slot, ap awaited there ∙ waited))

  exit_ends : (after : Calls) (now : NumberMap Instance) (left : PendingCall) (held : Instance) → Changes before after slot (Some left) → awaited (Some left) ≡ None
      → get tables.instances call.instance ≡ Some held → InstancesEnd call.instance held tables.instances now → P after now
  exit_ends after now left held changes idle kept end = none_new boot next P keeps before after tables.instances now slot (Some left) changes holds
      (λ number instance found. by_number call.instance number
      (λ same.
      let its = end.here instance (ap (λ (n : ℕ). get now n) same ∙ found) in
      inl (held, ap (λ (n : ℕ). get tables.instances n) (sym same) ∙ kept, sym its.1))
      (λ apart. inl (instance, sym (end.others number apart) ∙ found, refl)))
      (λ number uuid waited. no_claim (number, Some uuid) (sym idle ∙ waited))

  its_hold : (job : Job) → call.phase ≡ Runs job → Holds (get tables.instances call.instance) slot (unmarked call)
  its_hold job is = (joined.each slot (unmarked call) there).instance.working job (ap job_in is)

  exit_claims : (granted : ℕ) (progress : Progress) → progress_of tables call granted ≡ Some progress → OnwardClaims P before slot progress
  exit_claims granted progress e = exits_all tables call granted (OnwardClaims P before slot) progress (record {
    left = λ job later is grant after changes. exit_idles after _ _ changes refl refl;
    ends = λ job count end is grant after changes.
        let holds = its_hold job is in
        exit_ends after _ _ holds.instance changes refl holds.kept
        (instances_end (sessions_after call.kind tables.sessions call.session end.result.result end.context) tables.instances call.instance end.is_last
        (given_back end.memory end.objects) holds.instance (get tables.instances call.instance) holds.kept (λ instance. refl) (λ instance. refl));
    panics = λ job count code is grant after changes.
        let holds = its_hold job is in
        exit_ends after _ _ holds.instance changes refl holds.kept
        (instances_end (sessions_after_panic call.kind tables.sessions call.session) tables.instances call.instance false killed holds.instance
        (get tables.instances call.instance) holds.kept (λ instance. refl) (λ instance. refl));
    asks = λ job later count wanted payload is grant after changes. exit_idles after _ _ changes refl refl;
    asked = λ job wanted payload is after changes. exit_stays after changes;
    waits = λ params is after changes. exit_stays after changes;
    told = λ result params wakes is after changes. exit_stays after changes;
    tells = λ result params wakes is after changes. exit_idles after _ _ changes refl refl;
  }) e

-- ---- events

abbrev pub AfterClaims : (Calls → NumberMap Instance → Type 0) → Kernel → Type 0
AfterClaims P next = P (unmarked_at next.slots) next.tables.instances

pub claim_cases : (boot : Booted) (P : Calls → NumberMap Instance → Type 0) (kernel : Kernel) (cpu : ℕ) → IsKeptUp boot kernel.tables.next_instance P
    → Before (unmarked_at kernel.slots) kernel.tables → AfterClaims P kernel → EventCases boot kernel cpu (AfterClaims P)
claim_cases boot P kernel cpu keeps sound holds = record {
  answered = λ visit answer inside. holds;
  comes = λ visit slot found bytes inside free lies fits.
      let c = new_call_of boot kernel.tables visit.regs slot found bytes in
      let there = free_there kernel.slots slot free in
      cases_onward c (NewClaims P (unmarked_at kernel.slots) c) (λ taken. AfterClaims P (after_decision kernel visit (Takes slot taken)))
      (λ taken new. new _ (takes_slot kernel.slots taken.cancels slot visit.cpu Free taken.call there))
      (new_claims P (unmarked_at kernel.slots) c keeps (before_pinned (cookie_of found) kernel.tables slot (unmarked_at kernel.slots) sound)
      (ap (λ (o : Option ThreadSlot). option_and_then unmarked_in o) there) holds);
  resumes = λ visit call given inside there offered.
      let slot = thread_in visit.regs in
      let taken = resumed_taken boot kernel visit call given in
      let its = ap (λ (o : Option ThreadSlot). awaited (option_and_then unmarked_in o)) there ∙ sym (given_awaits given (sees call) ∙ sees_awaits call) in
      resumed_claims kernel.tables.next_instance P (unmarked_at kernel.slots) (resumed_call boot kernel.tables slot call given) keeps sound.joined holds its (unmarked call)
      (ap (λ (o : Option ThreadSlot). option_and_then unmarked_in o) there) (resumed_on given call) _
      (takes_slot kernel.slots taken.cancels slot visit.cpu (Suspended (client_in visit.regs) call) taken.call there);
  told = λ visit answer its fixed. holds;
  goes = λ visit slot worker call progress its inside there e.
      left slot worker call progress there
      (exit_claims boot kernel.tables.next_instance P keeps (unmarked_at kernel.slots) kernel.tables slot call sound.joined holds (ap (λ (o : Option ThreadSlot). option_and_then unmarked_in o) there)
      visit.steps progress e);
}
  where
    left : (slot worker : ℕ) (call : PendingCall) (progress : Progress) → slice_get kernel.slots slot ≡ Some (Active worker call)
        → OnwardClaims P (unmarked_at kernel.slots) slot progress
        → P (unmarked_at (slice_set kernel.slots slot (slot_left progress.call (leaving_of slot progress.call))))
        (tables_left progress.tables slot (slot_left progress.call (leaving_of slot progress.call))).instances
    left slot worker call progress there onward =
        left_all slot progress.call (λ held. P (unmarked_at (slice_set kernel.slots slot held)) (tables_left progress.tables slot held).instances)
        within
        (claims_rest boot kernel.tables.next_instance P keeps mid _ progress.tables.instances progress.tables.instances slot _ (from_mid (Suspended progress.call.client (unbuffered progress.call))) within refl
        (λ number uuid waited. inr (slot, ap awaited changes.here ∙ waited)))
        (λ result params told is. claims_rest boot kernel.tables.next_instance P keeps mid _ progress.tables.instances (tables_left progress.tables slot Free).instances slot None (from_mid Free) within refl
        (λ number uuid waited. no_claim (number, Some uuid) waited))
      where
        mid : Calls
        mid = unmarked_at (slice_set kernel.slots slot (Suspended progress.call.client progress.call))

        changes : Changes (unmarked_at kernel.slots) mid slot (Some (unmarked progress.call))
        changes = leaves_slot kernel.slots slot (Active worker call) (Suspended progress.call.client progress.call) there

        within : P mid progress.tables.instances
        within = onward mid changes

        from_mid : (held : ThreadSlot) → Changes mid (unmarked_at (slice_set kernel.slots slot held)) slot (unmarked_in held)
        from_mid held =
            let now = leaves_slot kernel.slots slot (Active worker call) held there in
            record { here = now.here; others = λ other apart. now.others other apart ∙ sym (changes.others other apart) }

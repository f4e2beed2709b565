-- What a change of one call and of its session and instance leaves of the fit of calls, sessions and instances.
use Rattle.std.proofs.Common.{◌≡◌, ℕ, Bool, true, false, Option, Some, None, ap, subst, sym, ◌∙◌}
use Rattle.base.specs.NumberMap.{NumberMap, get, insert}
use Rattle.job_model.specs.Job.{Job}
use Rattle.job_model.specs.declared.call_kind.CallKind.TheVariants as kind
use Rattle.session_table.specs.declared.session.Session.{Session}
use Rattle.kernel_model.specs.Kernel.{Instance, PendingCall, Tables}
use Rattle.kernel_model.specs.Sound.{Calls}
use Rattle.kernel_model.specs.SoundCalls.{AreJoined, Fits, FitsInstance, FitsSession, HasSession, IsHolder, is_in_session, is_over, is_told, job_in}
use Rattle.kernel_model.specs.SoundNumbers.{is_on_instance}
use Rattle.kernel_model.proofs.SoundMaps.{get-insert-other, get-insert-same, get-inserted}
use Rattle.kernel_model.proofs.SoundSlots.{Changes, by_number}

pub some_same : {A : Type 0} (one other : A) → Some one ≡ Some other → one ≡ other
some_same one other e = cc

pub never_none : {A : Type 0} {P : Type 0} (o : Option A) (a : A) → o ≡ None → o ≡ Some a → P
never_none {A} {P} o a none some = different (sym none ∙ some)
  where
    different : None ≡ Some a → P
    different e = absurd cc

pub never_both : {P : Type 0} → true ≡ false → P
never_both e = absurd cc

-- what the other calls need
pub record OthersFit (before : Calls) (now : Tables) (slot : ℕ) : Type 0 where
  pub session : (other : ℕ) (call : PendingCall) → (slot ≡ other → ⊥) → before other ≡ Some call → FitsSession (get now.sessions call.session) call
  pub instance : (other : ℕ) (call : PendingCall) → (slot ≡ other → ⊥) → before other ≡ Some call →
      FitsInstance (get now.instances call.instance) other call

-- and the call that changes, beside them
pub record StandsApart (before : Calls) (slot : ℕ) (now : PendingCall) : Type 0 where
  pub opens : (other : ℕ) (call : PendingCall) → (slot ≡ other → ⊥) → before other ≡ Some call → now.kind ≡ kind.Open → call.kind ≡ kind.Open →
      now.session ≡ call.session → ⊥
  pub applications : (other : ℕ) (call : PendingCall) → (slot ≡ other → ⊥) → before other ≡ Some call → is_on_instance now.kind ≡ true →
      is_on_instance call.kind ≡ true → now.instance ≡ call.instance → now.uuid ≡ call.uuid

module _ (before after : Calls) (tables now : Tables) (slot : ℕ) (held : Option PendingCall) (changes : Changes before after slot held)
    (joined : AreJoined before tables) where
  -- one call changes, with the tables
  pub joined_change : ((call : PendingCall) → held ≡ Some call → Fits now slot call) → OthersFit before now slot
      → ((call : PendingCall) → held ≡ Some call → StandsApart before slot call)
      → ((number at : ℕ) (instance : Instance) → get now.instances number ≡ Some instance → instance.holder ≡ Some at → IsHolder after number at)
      → AreJoined after now
  joined_change own others apart holders = record {
    each = λ at call is. by_number slot at
        (λ same. subst (λ (n : ℕ). Fits now n call) same (own call (mine at call same is)))
        (λ differ. record {
          session = others.session at call differ (theirs at call differ is);
          instance = others.instance at call differ (theirs at call differ is);
        });
    holders = holders;
    opens = λ one other call another is is_other opening opening_other same. by_number slot one
        (λ first. by_number slot other
        (λ second. sym first ∙ second)
        (λ differ. absurd ((apart call (mine one call first is)).opens other another differ (theirs other another differ is_other) opening opening_other same)))
        (λ differ. by_number slot other
        (λ second. absurd ((apart another (mine other another second is_other)).opens one call differ (theirs one call differ is) opening_other opening (sym same)))
        (λ differ_too. joined.opens one other call another (theirs one call differ is) (theirs other another differ_too is_other) opening opening_other same));
    applications = λ one other call another is is_other on on_other same. by_number slot one
        (λ first. by_number slot other
        (λ second. ap (λ (c : PendingCall). c.uuid) (some_same call another (sym is ∙ ap after (sym first ∙ second) ∙ is_other)))
        (λ differ. (apart call (mine one call first is)).applications other another differ (theirs other another differ is_other) on on_other same))
        (λ differ. by_number slot other
        (λ second. sym ((apart another (mine other another second is_other)).applications one call differ (theirs one call differ is) on_other on (sym same)))
        (λ differ_too. joined.applications one other call another (theirs one call differ is) (theirs other another differ_too is_other) on on_other same));
  }
    where
      mine : (at : ℕ) (call : PendingCall) → slot ≡ at → after at ≡ Some call → held ≡ Some call
      mine at call same is = sym changes.here ∙ ap after same ∙ is

      theirs : (at : ℕ) (call : PendingCall) → (slot ≡ at → ⊥) → after at ≡ Some call → before at ≡ Some call
      theirs at call differ is = sym (changes.others at differ) ∙ is

  -- a holder in another slot is still one
  pub still_holds : (number at : ℕ) → (slot ≡ at → ⊥) → IsHolder before number at → IsHolder after number at
  still_holds number at differ holder = record {
    call = holder.call;
    job = holder.job;
    in_slot = changes.others at differ ∙ holder.in_slot;
    works = holder.works;
    on_instance = holder.on_instance;
  }

-- ---- a call that goes on as it is, but for its phase

pub record GoesOn (call now : PendingCall) : Type 0 where
  pub session : now.session ≡ call.session
  pub instance : now.instance ≡ call.instance
  pub uuid : now.uuid ≡ call.uuid
  pub of_kind : now.kind ≡ call.kind
  pub client : now.client ≡ call.client
  -- it works exactly where it worked, and it is told where it was
  pub works : (job : Job) → job_in call.phase ≡ Some job → (next : Job) × (job_in now.phase ≡ Some next)
  pub worked : (job : Job) → job_in now.phase ≡ Some job → (was : Job) × (job_in call.phase ≡ Some was)
  pub told : is_told now.phase ≡ false → is_told call.phase ≡ false
  pub over : is_over now.phase ≡ false → is_over call.phase ≡ false

has_as : (found : Option Session) (call now : PendingCall) (opened : Bool) → GoesOn call now → HasSession found call opened → HasSession found now opened
has_as found call now opened on has = record {
  session = has.session;
  kept = has.kept;
  instance = has.instance ∙ sym on.instance;
  client = has.client ∙ sym on.client;
  is_opened = has.is_opened;
}

pub session_goes_on : (found : Option Session) (call now : PendingCall) → GoesOn call now → FitsSession found call → FitsSession found now
session_goes_on found call now on fits = record {
  opening = λ opening untold. has_as found call now false on (fits.opening (sym on.of_kind ∙ opening) (on.told untold));
  working = λ job works in_session.
      let was = on.worked job works in
      has_as found call now true on (fits.working was.0 was.1 (ap is_in_session (sym on.of_kind) ∙ in_session));
  still = λ session in_session kept. has_as found call now true on (fits.still session (ap is_in_session (sym on.of_kind) ∙ in_session) kept);
}

pub instance_goes_on : (found : Option Instance) (slot : ℕ) (call now : PendingCall) → GoesOn call now → FitsInstance found slot call → FitsInstance found slot now
instance_goes_on found slot call now on fits = record {
  settled = λ lasts. ap is_on_instance on.of_kind ∙ fits.settled (on.over lasts);
  working = λ job works.
      let was = on.worked job works in
      let holds = fits.working was.0 was.1 in
      record { instance = holds.instance; kept = holds.kept; holder = holds.holder; uuid = on.uuid ∙ holds.uuid };
  application = λ instance on_instance kept. on.uuid ∙ fits.application instance (ap is_on_instance (sym on.of_kind) ∙ on_instance) kept;
}

-- what is apart of others stays apart
pub apart_goes_on : (before : Calls) (tables : Tables) (slot : ℕ) (call now : PendingCall) → AreJoined before tables → before slot ≡ Some call
    → now.session ≡ call.session → now.instance ≡ call.instance → now.uuid ≡ call.uuid → now.kind ≡ call.kind → StandsApart before slot now
apart_goes_on before tables slot call now joined there session instance uuid of_kind = record {
  opens = λ other another differ is opening opening_other same.
      differ (joined.opens slot other call another there is (sym of_kind ∙ opening) opening_other (sym session ∙ same));
  applications = λ other another differ is on on_other same.
      uuid ∙ joined.applications slot other call another there is (ap is_on_instance (sym of_kind) ∙ on) on_other (sym instance ∙ same);
}

pub goes_on_joined : (before after : Calls) (tables : Tables) (slot : ℕ) (call now : PendingCall) → Changes before after slot (Some now)
    → AreJoined before tables → before slot ≡ Some call → GoesOn call now → AreJoined after tables
goes_on_joined before after tables slot call now changes joined there on =
    joined_change before after tables tables slot (Some now) changes joined
    (λ other is. subst (Fits tables slot) (some_same now other is) (record {
      session = subst (λ (n : ℕ). FitsSession (get tables.sessions n) now) (sym on.session)
          (session_goes_on (get tables.sessions call.session) call now on (joined.each slot call there).session);
      instance = subst (λ (n : ℕ). FitsInstance (get tables.instances n) slot now) (sym on.instance)
          (instance_goes_on (get tables.instances call.instance) slot call now on (joined.each slot call there).instance);
    }))
    (record {
      session = λ other another differ is. (joined.each other another is).session;
      instance = λ other another differ is. (joined.each other another is).instance;
    })
    (λ other is. subst (StandsApart before slot) (some_same now other is)
    (apart_goes_on before tables slot call now joined there on.session on.instance on.uuid on.of_kind))
    (λ number at instance kept holder.
    let was = joined.holders number at instance kept holder in
    by_number slot at
    (λ same.
    let is : was.call ≡ call = some_same was.call call (sym was.in_slot ∙ ap before (sym same) ∙ there) in
    let next = on.works was.job (ap (λ (c : PendingCall). job_in c.phase) (sym is) ∙ was.works) in
    record {
      call = now;
      job = next.0;
      in_slot = ap after (sym same) ∙ changes.here;
      works = next.1;
      on_instance = on.instance ∙ ap (λ (c : PendingCall). c.instance) (sym is) ∙ was.on_instance;
    })
    (λ differ. still_holds before after tables tables slot (Some now) changes joined number at differ was))

-- ---- a slot whose call doesn't work

-- the slot's call doesn't work
abbrev pub IsIdleSlot : Calls → ℕ → Type 0
IsIdleSlot before slot = (call : PendingCall) (job : Job) → before slot ≡ Some call → job_in call.phase ≡ Some job → ⊥

-- a call that doesn't work either, where the instances stay as they are
pub rests_joined : (before after : Calls) (tables now : Tables) (slot : ℕ) (held : Option PendingCall) → Changes before after slot held
    → AreJoined before tables → IsIdleSlot before slot → now.instances ≡ tables.instances
    → ((call : PendingCall) → held ≡ Some call → FitsSession (get now.sessions call.session) call)
    → ((call : PendingCall) (job : Job) → held ≡ Some call → job_in call.phase ≡ Some job → ⊥)
    → ((call : PendingCall) → held ≡ Some call → is_over call.phase ≡ false → is_on_instance call.kind ≡ true)
    → ((call : PendingCall) (instance : Instance) → held ≡ Some call → is_on_instance call.kind ≡ true → get tables.instances call.instance ≡ Some instance →
    call.uuid ≡ Some instance.uuid)
    → ((other : ℕ) (call : PendingCall) → (slot ≡ other → ⊥) → before other ≡ Some call → FitsSession (get now.sessions call.session) call)
    → ((call : PendingCall) → held ≡ Some call → StandsApart before slot call) → AreJoined after now
rests_joined before after tables now slot held changes joined idle same own rests settled application others apart =
    joined_change before after tables now slot held changes joined
    (λ call is. record {
      session = own call is;
      instance = record {
        settled = settled call is;
        working = λ job works. absurd (rests call job is works);
        application = λ instance on kept. application call instance is on (ap (λ (m : NumberMap Instance). get m call.instance) (sym same) ∙ kept);
      };
    })
    (record {
      session = others;
      instance = λ other call differ is.
          subst (λ (m : NumberMap Instance). FitsInstance (get m call.instance) other call) (sym same) (joined.each other call is).instance;
    })
    apart
    (λ number at instance kept holder.
    let was = joined.holders number at instance (ap (λ (m : NumberMap Instance). get m number) (sym same) ∙ kept) holder in
    by_number slot at
    (λ is. absurd (idle was.call was.job (ap before is ∙ was.in_slot) was.works))
    (λ differ. still_holds before after tables now slot held changes joined number at differ was))

-- a call that begins to work on its instance, which nobody holds, or which is new
pub begins_joined : (before after : Calls) (tables now : Tables) (slot : ℕ) (call : PendingCall) (held : Instance) (job : Job)
    → Changes before after slot (Some call) → AreJoined before tables → IsIdleSlot before slot
    → now.instances ≡ insert tables.instances call.instance held → held.holder ≡ Some slot → call.uuid ≡ Some held.uuid
    → is_on_instance call.kind ≡ true → job_in call.phase ≡ Some job
    → ((instance : Instance) → get tables.instances call.instance ≡ Some instance → instance.holder ≡ None)
    → FitsSession (get now.sessions call.session) call
    → ((other : ℕ) (another : PendingCall) → (slot ≡ other → ⊥) → before other ≡ Some another → FitsSession (get now.sessions another.session) another)
    → StandsApart before slot call → AreJoined after now
begins_joined before after tables now slot call held job changes joined idle instances holder uuid on works free own others apart =
    joined_change before after tables now slot (Some call) changes joined
    (λ other is. subst (Fits now slot) (some_same call other is) (record {
      session = own;
      instance = record {
        settled = λ lasts. on;
        working = λ next its. record { instance = held; kept = here; holder = holder; uuid = uuid };
        application = λ instance its kept. uuid ∙ ap (λ (i : Instance). Some i.uuid) (some_same held instance (sym here ∙ kept));
      };
    }))
    (record { session = others; instance = theirs })
    (λ other is. subst (StandsApart before slot) (some_same call other is) apart)
    (λ number at instance kept its_holder.
    get-inserted tables.instances call.instance held number instance (ap (λ (m : NumberMap Instance). get m number) (sym instances) ∙ kept)
    (λ same is.
    let mine : slot ≡ at = some_same slot at (sym holder ∙ ap (λ (i : Instance). i.holder) is ∙ its_holder) in
    record { call = call; job = job; in_slot = ap after (sym mine) ∙ changes.here; works = works; on_instance = same })
    (λ differ was.
    let before_it = joined.holders number at instance was its_holder in
    by_number slot at
    (λ is. absurd (idle before_it.call before_it.job (ap before is ∙ before_it.in_slot) before_it.works))
    (λ elsewhere. still_holds before after tables now slot (Some call) changes joined number at elsewhere before_it)))
  where
    here : get now.instances call.instance ≡ Some held
    here = ap (λ (m : NumberMap Instance). get m call.instance) instances ∙ get-insert-same tables.instances call.instance held

    theirs : (other : ℕ) (another : PendingCall) → (slot ≡ other → ⊥) → before other ≡ Some another
        → FitsInstance (get now.instances another.instance) other another
    theirs other another differ is = by_number call.instance another.instance
        (λ same. record {
          settled = (joined.each other another is).instance.settled;
          working = λ next its.
              let holds = (joined.each other another is).instance.working next its in
              never_none holds.instance.holder other (free holds.instance (ap (λ (n : ℕ). get tables.instances n) same ∙ holds.kept)) holds.holder;
          application = λ instance its kept.
              sym (apart.applications other another differ is on its same) ∙ uuid
              ∙ ap (λ (i : Instance). Some i.uuid) (some_same held instance (sym here ∙ ap (λ (n : ℕ). get now.instances n) same ∙ kept));
        })
        (λ elsewhere. subst (λ (o : Option Instance). FitsInstance o other another)
        (sym (ap (λ (m : NumberMap Instance). get m another.instance) instances ∙ get-insert-other tables.instances call.instance held another.instance elsewhere))
        (joined.each other another is).instance)

-- What a call has come to at an exit fits the tables, and leaves the others as they fit.
use Rattle.std.proofs.Common.{◌≡◌, ℕ, Bool, true, false, List, Option, Some, None, refl, ap, subst, sym, ◌∙◌}
use Rattle.std.specs.Prelude.{◌==◌}
use Rattle.std.specs.Option.{option_map_or}
use Rattle.base.specs.NumberMap.{NumberMap, get, insert, remove}
use Rattle.job_model.specs.Job.{Job}
use Rattle.job_model.specs.declared.call_kind.CallKind.{CallKind}
use Rattle.job_model.specs.declared.call_kind.CallKind.TheVariants as kind
use Rattle.session_table.specs.declared.session.Session.{Session}
use Rattle.session_table.specs.Session.{opened_with}
use Rattle.session_table.specs.Sessions.{settled}
use Rattle.kernel_model.specs.Codes.{success}
use Rattle.kernel_model.specs.Exit.{progress_of, tables_unrun}
use Rattle.kernel_model.specs.Instances.{given_back, instances_after, killed}
use Rattle.kernel_model.specs.Kernel.{CallPhase, Instance, PendingCall, Progress, Runs, Tables}
use Rattle.kernel_model.specs.Sessions.{sessions_after, sessions_after_panic, sessions_unrun}
use Rattle.kernel_model.specs.Sound.{Calls, unmarked}
use Rattle.kernel_model.specs.SoundCalls.{AreJoined, Fits, FitsInstance, FitsSession, HasSession, Holds, is_in_session, is_over, is_told, job_in}
use Rattle.kernel_model.specs.SoundNumbers.{is_on_instance}
use Rattle.kernel_model.proofs.Parts.{if-both}
use Rattle.kernel_model.proofs.SoundExits.{exits_all}
use Rattle.kernel_model.proofs.SoundJoined.{GoesOn, StandsApart, apart_goes_on, goes_on_joined, joined_change, never_both, never_none, rests_joined, some_same, still_holds}
use Rattle.kernel_model.proofs.SoundMaps.{get-insert-other, get-insert-same, get-remove-other, get-remove-same}
use Rattle.kernel_model.proofs.SoundNewJoined.{no_job}
use Rattle.kernel_model.proofs.SoundResumedJoined.{OnwardFits, PhaseOn, asks_on, in_phase, on_both, plain_on, runs_on, unmarked_on}
use Rattle.kernel_model.proofs.SoundSlots.{Changes, by_number}

-- ---- sessions and instances after an end

-- what the session's number has after the end of a call of this kind
abbrev pub SessionsSo : CallKind → Option Session → Option Session → Type 0
SessionsSo kind.Open was now = Unit {0}
SessionsSo (kind.Invoke func) was now = now ≡ was
SessionsSo kind.Close was now = now ≡ None
SessionsSo kind.Settled was now = now ≡ was

-- all other sessions stay, and this one by its kind
pub record SessionsEnd (call_kind : CallKind) (number : ℕ) (before after : NumberMap Session) : Type 0 where
  pub here : SessionsSo call_kind (get before number) (get after number)
  pub others : (other : ℕ) → (number ≡ other → ⊥) → get after other ≡ get before other

-- all other instances stay, and this one, where it is kept, is nobody's
pub record InstancesEnd (number : ℕ) (held : Instance) (before after : NumberMap Instance) : Type 0 where
  pub here : (instance : Instance) → get after number ≡ Some instance → (instance.holder ≡ None) × (instance.uuid ≡ held.uuid)
  pub others : (other : ℕ) → (number ≡ other → ⊥) → get after other ≡ get before other

removes : (call_kind : CallKind) (number : ℕ) (sessions : NumberMap Session) → SessionsSo call_kind (get sessions number) None
    → SessionsEnd call_kind number sessions (remove sessions number)
removes call_kind number sessions so = record {
  here = subst (SessionsSo call_kind (get sessions number)) (sym (get-remove-same sessions number)) so;
  others = λ other apart. get-remove-other sessions number other apart;
}

settles : (number context : ℕ) (sessions : NumberMap Session) (found : Option Session)
    → SessionsEnd kind.Open number sessions (option_map_or (λ session. insert sessions number (opened_with session context)) found sessions)
settles number context sessions None = record { here = tt; others = λ other apart. refl }
settles number context sessions (Some session) = record { here = tt; others = λ other apart. get-insert-other sessions number _ other apart }

pub sessions_end : (call_kind : CallKind) (sessions : NumberMap Session) (number result context : ℕ)
    → SessionsEnd call_kind number sessions (sessions_after call_kind sessions number result context)
sessions_end kind.Open sessions number result context =
    if-both (SessionsEnd kind.Open number sessions) (result == success) (settled sessions number context) (remove sessions number)
    (settles number context sessions (get sessions number)) (removes kind.Open number sessions tt)
sessions_end (kind.Invoke func) sessions number result context = record { here = refl; others = λ other apart. refl }
sessions_end kind.Close sessions number result context = removes kind.Close number sessions refl
sessions_end kind.Settled sessions number result context = record { here = refl; others = λ other apart. refl }

pub sessions_panic : (call_kind : CallKind) (sessions : NumberMap Session) (number : ℕ)
    → SessionsEnd call_kind number sessions (sessions_after_panic call_kind sessions number)
sessions_panic kind.Open sessions number = removes kind.Open number sessions tt
sessions_panic (kind.Invoke func) sessions number = record { here = refl; others = λ other apart. refl }
sessions_panic kind.Close sessions number = removes kind.Close number sessions refl
sessions_panic kind.Settled sessions number = record { here = refl; others = λ other apart. refl }

pub instances_end : (sessions : NumberMap Session) (instances : NumberMap Instance) (number : ℕ) (is_last : Bool) (change : Instance → Instance) (held : Instance)
    (found : Option Instance) → found ≡ Some held → ((instance : Instance) → (change instance).holder ≡ None) → ((instance : Instance) → (change instance).uuid ≡ instance.uuid)
    → InstancesEnd number held instances (option_map_or (λ (instance : Instance). instances_after sessions instances number is_last (change instance)) found instances)
instances_end sessions instances number is_last change held None is free same = never_none None held refl is
instances_end sessions instances number is_last change held (Some instance) is free same =
    if-both (InstancesEnd number held instances) _ (remove instances number) (insert instances number (change instance))
    (record {
      here = λ left there. never_none _ left (get-remove-same instances number) there;
      others = λ other apart. get-remove-other instances number other apart;
    })
    (record {
      here = λ left there.
          let its : change instance ≡ left = some_same _ _ (sym (get-insert-same instances number (change instance)) ∙ there) in (
            ap (λ (i : Instance). i.holder) (sym its) ∙ free instance,
            ap (λ (i : Instance). i.uuid) (sym its) ∙ same instance ∙ ap (λ (i : Instance). i.uuid) (some_same instance held is),
          );
      others = λ other apart. get-insert-other instances number (change instance) other apart;
    })

clash : {P : Type 0} (found other : Option Session) (call another : PendingCall) → found ≡ other → HasSession found call true → HasSession other another false → P
clash found other call another same one two =
    let its = some_same one.session two.session (sym one.kept ∙ same ∙ two.kept) in
    never_both (sym one.is_opened ∙ ap (λ (s : Session). s.opened) its ∙ two.is_opened)

-- ---- the end of a call that works

module _ (before : Calls) (tables : Tables) (slot : ℕ) (call : PendingCall) (joined : AreJoined before tables) (there : before slot ≡ Some (unmarked call)) where
  fits : Fits tables slot (unmarked call)
  fits = joined.each slot (unmarked call) there

  ended_joined : (after : Calls) (now : Tables) (left : PendingCall) (job : Job) (held : Instance) → Changes before after slot (Some left)
      → job_in call.phase ≡ Some job → is_told call.phase ≡ false → get tables.instances call.instance ≡ Some held
      → SessionsEnd call.kind call.session tables.sessions now.sessions → InstancesEnd call.instance held tables.instances now.instances
      → left.session ≡ call.session → left.instance ≡ call.instance → left.uuid ≡ call.uuid → left.kind ≡ call.kind → left.client ≡ call.client
      → job_in left.phase ≡ None → is_told left.phase ≡ true → is_over left.phase ≡ true → AreJoined after now
  ended_joined after now left job held changes works untold its sessions instances session instance uuid of_kind client idle told over =
      joined_change before after tables now slot (Some left) changes joined
      (λ other is. subst (Fits now slot) (some_same left other is) (record {
        session = record {
          opening = λ opening not_told. never_both (sym told ∙ not_told);
          working = λ next does. no_job next (sym idle ∙ does);
          still = λ found in_session kept. own_still call.kind refl found (ap is_in_session (sym of_kind) ∙ in_session) kept;
        };
        instance = record {
          settled = λ lasts. never_both (sym over ∙ lasts);
          working = λ next does. no_job next (sym idle ∙ does);
          application = λ found on kept.
              let end = instances.here found (ap (λ (n : ℕ). get now.instances n) (sym instance) ∙ kept) in
              uuid ∙ holding.uuid ∙ ap (λ (i : Instance). Some i.uuid) (some_same holding.instance held (sym holding.kept ∙ its))
              ∙ ap (λ (u : List ℕ). Some u) (sym end.1);
        };
      }))
      (record { session = others_session; instance = others_instance })
      (λ other is. subst (StandsApart before slot) (some_same left other is)
      (apart_goes_on before tables slot (unmarked call) left joined there session instance uuid of_kind))
      (λ number at found kept holder. by_number call.instance number
      (λ same. never_none found.holder at (instances.here found (ap (λ (n : ℕ). get now.instances n) same ∙ kept)).0 holder)
      (λ elsewhere.
      let was = joined.holders number at found (sym (instances.others number elsewhere) ∙ kept) holder in
      by_number slot at
      (λ same.
      let mine = some_same was.call (unmarked call) (sym was.in_slot ∙ ap before (sym same) ∙ there) in
      absurd (elsewhere (ap (λ (c : PendingCall). c.instance) (sym mine) ∙ was.on_instance)))
      (λ differ. still_holds before after tables now slot (Some left) changes joined number at differ was)))
    where
      holding : Holds (get tables.instances call.instance) slot (unmarked call)
      holding = (joined.each slot (unmarked call) there).instance.working job works

      own_still : (call_kind : CallKind) → call.kind ≡ call_kind → (found : Session) → is_in_session call.kind ≡ true → get now.sessions left.session ≡ Some found
          → HasSession (get now.sessions left.session) left true
      own_still kind.Open is found in_session kept = never_both (sym in_session ∙ ap is_in_session is)
      own_still (kind.Invoke func) is found in_session kept =
          let same : get now.sessions call.session ≡ get tables.sessions call.session =
          subst (λ (k : CallKind). SessionsSo k (get tables.sessions call.session) (get now.sessions call.session)) is sessions.here in
          let has = (joined.each slot (unmarked call) there).session.still found in_session
          (sym same ∙ ap (λ (n : ℕ). get now.sessions n) (sym session) ∙ kept) in
          record {
            session = has.session;
            kept = ap (λ (n : ℕ). get now.sessions n) session ∙ same ∙ has.kept;
            instance = has.instance ∙ sym instance;
            client = has.client ∙ sym client;
            is_opened = has.is_opened;
          }
      own_still kind.Close is found in_session kept =
          let none : get now.sessions call.session ≡ None =
          subst (λ (k : CallKind). SessionsSo k (get tables.sessions call.session) (get now.sessions call.session)) is sessions.here in
          never_none (get now.sessions call.session) found none (ap (λ (n : ℕ). get now.sessions n) (sym session) ∙ kept)
      own_still kind.Settled is found in_session kept = never_both (sym in_session ∙ ap is_in_session is)

      both_hold : (other : ℕ) (another : PendingCall) (next : Job) → (slot ≡ other → ⊥) → before other ≡ Some another → job_in another.phase ≡ Some next
          → call.instance ≡ another.instance → ⊥
      both_hold other another next differ is does same =
          let theirs = (joined.each other another is).instance.working next does in
          let instance_same = some_same holding.instance theirs.instance (sym holding.kept ∙ ap (λ (n : ℕ). get tables.instances n) same ∙ theirs.kept) in
          differ (some_same slot other (sym holding.holder ∙ ap (λ (i : Instance). i.holder) instance_same ∙ theirs.holder))

      same_session : (call_kind : CallKind) → call.kind ≡ call_kind → (other : ℕ) (another : PendingCall) → (slot ≡ other → ⊥) → before other ≡ Some another
          → call.session ≡ another.session → SessionsSo call_kind (get tables.sessions call.session) (get now.sessions call.session)
          → FitsSession (get now.sessions another.session) another
      same_session kind.Open kind_is other another differ is same so =
          let mine = (joined.each slot (unmarked call) there).session.opening kind_is untold in
          let theirs = (joined.each other another is).session in
          let found_same = ap (λ (n : ℕ). get tables.sessions n) (sym same) in
          record {
            opening = λ opening not_told. absurd (differ (joined.opens slot other (unmarked call) another there is kind_is opening same));
            working = λ next does in_session. clash (get tables.sessions another.session) (get tables.sessions call.session) another (unmarked call) found_same
                (theirs.working next does in_session) mine;
            still = λ found in_session kept. clash (get tables.sessions another.session) (get tables.sessions call.session) another (unmarked call) found_same
                (theirs.still mine.session in_session (found_same ∙ mine.kept)) mine;
          }
      same_session (kind.Invoke func) kind_is other another differ is same so =
          subst (λ (o : Option Session). FitsSession o another)
          (ap (λ (n : ℕ). get tables.sessions n) (sym same) ∙ sym so ∙ ap (λ (n : ℕ). get now.sessions n) same)
          (joined.each other another is).session
      same_session kind.Close kind_is other another differ is same so =
          let mine = (joined.each slot (unmarked call) there).session.working job works (ap is_in_session kind_is) in
          let theirs = (joined.each other another is).session in
          let found_same = ap (λ (n : ℕ). get tables.sessions n) same in
          record {
            opening = λ opening not_told. clash (get tables.sessions call.session) (get tables.sessions another.session) (unmarked call) another found_same mine
                (theirs.opening opening not_told);
            working = λ next does in_session.
                let has = theirs.working next does in_session in
                let its_session = some_same mine.session has.session (sym mine.kept ∙ found_same ∙ has.kept) in
                absurd (both_hold other another next differ is does (sym mine.instance ∙ ap (λ (s : Session). s.instance) its_session ∙ has.instance));
            still = λ found in_session kept.
                never_none (get now.sessions another.session) found (ap (λ (n : ℕ). get now.sessions n) (sym same) ∙ so) kept;
          }
      same_session kind.Settled kind_is other another differ is same so =
          subst (λ (o : Option Session). FitsSession o another)
          (ap (λ (n : ℕ). get tables.sessions n) (sym same) ∙ sym so ∙ ap (λ (n : ℕ). get now.sessions n) same)
          (joined.each other another is).session

      others_session : (other : ℕ) (another : PendingCall) → (slot ≡ other → ⊥) → before other ≡ Some another → FitsSession (get now.sessions another.session) another
      others_session other another differ is = by_number call.session another.session
          (λ same. same_session call.kind refl other another differ is same sessions.here)
          (λ elsewhere. subst (λ (o : Option Session). FitsSession o another) (sym (sessions.others another.session elsewhere)) (joined.each other another is).session)

      others_instance : (other : ℕ) (another : PendingCall) → (slot ≡ other → ⊥) → before other ≡ Some another
          → FitsInstance (get now.instances another.instance) other another
      others_instance other another differ is = by_number call.instance another.instance
          (λ same. record {
            settled = (joined.each other another is).instance.settled;
            working = λ next does. absurd (both_hold other another next differ is does same);
            application = λ found on kept.
                let end = instances.here found (ap (λ (n : ℕ). get now.instances n) same ∙ kept) in
                (joined.each other another is).instance.application held on (ap (λ (n : ℕ). get tables.instances n) (sym same) ∙ its)
                ∙ ap (λ (u : List ℕ). Some u) (sym end.1);
          })
          (λ elsewhere. subst (λ (o : Option Instance). FitsInstance o other another) (sym (instances.others another.instance elsewhere))
          (joined.each other another is).instance)

  -- ---- a result that is told

  not_open : (call_kind : CallKind) → (call_kind ≡ kind.Open → ⊥) → sessions_unrun call_kind tables.sessions call.session ≡ tables.sessions
  not_open kind.Open apart = absurd (apart refl)
  not_open (kind.Invoke func) apart = refl
  not_open kind.Close apart = refl
  not_open kind.Settled apart = refl

  told_others : (call_kind : CallKind) → call.kind ≡ call_kind → is_told call.phase ≡ false → (other : ℕ) (another : PendingCall) → (slot ≡ other → ⊥)
      → before other ≡ Some another → FitsSession (get (sessions_unrun call_kind tables.sessions call.session) another.session) another
  told_others kind.Open kind_is untold other another differ is = by_number call.session another.session
      (λ same.
      let mine = (joined.each slot (unmarked call) there).session.opening kind_is untold in
      let theirs = (joined.each other another is).session in
      let found_same = ap (λ (n : ℕ). get tables.sessions n) (sym same) in
      record {
        opening = λ opening not_told. absurd (differ (joined.opens slot other (unmarked call) another there is kind_is opening same));
        working = λ next does in_session. clash (get tables.sessions another.session) (get tables.sessions call.session) another (unmarked call) found_same
            (theirs.working next does in_session) mine;
        still = λ found in_session kept. never_none (get (remove tables.sessions call.session) another.session) found
            (ap (λ (n : ℕ). get (remove tables.sessions call.session) n) (sym same) ∙ get-remove-same tables.sessions call.session) kept;
      })
      (λ elsewhere. subst (λ (o : Option Session). FitsSession o another) (sym (get-remove-other tables.sessions call.session another.session elsewhere))
      (joined.each other another is).session)
  told_others (kind.Invoke func) kind_is untold other another differ is = (joined.each other another is).session
  told_others kind.Close kind_is untold other another differ is = (joined.each other another is).session
  told_others kind.Settled kind_is untold other another differ is = (joined.each other another is).session

  told_joined : (after : Calls) (left : PendingCall) → Changes before after slot (Some left) → job_in call.phase ≡ None → is_told call.phase ≡ false
      → left.session ≡ call.session → left.instance ≡ call.instance → left.uuid ≡ call.uuid → left.kind ≡ call.kind → left.client ≡ call.client
      → job_in left.phase ≡ None → is_told left.phase ≡ true → is_over left.phase ≡ true → AreJoined after (tables_unrun tables call)
  told_joined after left changes idle untold session instance uuid of_kind client rests told over =
      rests_joined before after tables (tables_unrun tables call) slot (Some left) changes joined
      (λ other job is works. no_job job (sym idle ∙ ap (λ (c : PendingCall). job_in c.phase) (some_same (unmarked call) other (sym there ∙ is)) ∙ works))
      refl
      (λ other is. subst (λ (c : PendingCall). FitsSession (get (sessions_unrun call.kind tables.sessions call.session) c.session) c) (some_same left other is) (record {
        opening = λ opening not_told. never_both (sym told ∙ not_told);
        working = λ next does in_session. no_job next (sym rests ∙ does);
        still = λ found in_session kept.
            let in_it = ap is_in_session (sym of_kind) ∙ in_session in
            let same = not_open call.kind (λ opening. never_both (sym in_it ∙ ap is_in_session opening)) in
            let same_there : get (sessions_unrun call.kind tables.sessions call.session) left.session ≡ get tables.sessions call.session =
            ap (λ (m : NumberMap Session). get m left.session) same ∙ ap (λ (n : ℕ). get tables.sessions n) session in
            let has = (joined.each slot (unmarked call) there).session.still found in_it (sym same_there ∙ kept) in
            record {
              session = has.session;
              kept = same_there ∙ has.kept;
              instance = has.instance ∙ sym instance;
              client = has.client ∙ sym client;
              is_opened = has.is_opened;
            };
      }))
      (λ other job is works. no_job job (sym rests ∙ ap (λ (c : PendingCall). job_in c.phase) (some_same left other is) ∙ works))
      (λ other is lasts. never_both (sym over ∙ ap (λ (c : PendingCall). is_over c.phase) (some_same left other is) ∙ lasts))
      (λ other found is on kept.
      let mine = some_same left other is in
      let on_it = ap is_on_instance (sym of_kind) ∙ ap (λ (c : PendingCall). is_on_instance c.kind) mine ∙ on in
      ap (λ (c : PendingCall). c.uuid) (sym mine) ∙ uuid ∙ (joined.each slot (unmarked call) there).instance.application found on_it
      (ap (λ (n : ℕ). get tables.instances n) (sym instance ∙ ap (λ (c : PendingCall). c.instance) mine) ∙ kept))
      (told_others call.kind refl untold)
      (λ other is. subst (StandsApart before slot) (some_same left other is)
      (apart_goes_on before tables slot (unmarked call) left joined there session instance uuid of_kind))

  -- ---- each form

  goes_so : (after : Calls) (now : PendingCall) → Changes before after slot (Some now) → GoesOn call now → AreJoined after tables
  goes_so after now changes on = goes_on_joined before after tables slot (unmarked call) now changes joined there (on_both (unmarked call) call now (plain_on call) on)

  on_phase : (now : PendingCall) (phase : CallPhase) → now.session ≡ call.session → now.instance ≡ call.instance → now.uuid ≡ call.uuid
      → now.kind ≡ call.kind → now.client ≡ call.client → call.phase ≡ phase → PhaseOn phase now.phase → GoesOn call now
  on_phase now phase session instance uuid of_kind client is onward =
      in_phase call now session instance uuid of_kind client (subst (λ (p : CallPhase). PhaseOn p now.phase) (sym is) onward)

  held_there : (job : Job) → job_in call.phase ≡ Some job → Holds (get tables.instances call.instance) slot (unmarked call)
  held_there job works = (joined.each slot (unmarked call) there).instance.working job works

  pub exit_fits : (granted : ℕ) (progress : Progress) → progress_of tables call granted ≡ Some progress → OnwardFits before slot progress
  exit_fits granted progress e = exits_all tables call granted (OnwardFits before slot) progress (record {
    left = λ job later is grant after changes. goes_so after _ changes (on_phase _ (Runs job) refl refl refl refl refl is (runs_on job later));
    ends = λ job used end is grant after changes.
        let holds = held_there job (ap job_in is) in
        ended_joined after _ _ job holds.instance changes (ap job_in is) (ap is_told is) holds.kept
        (sessions_end call.kind tables.sessions call.session end.result.result end.context)
        (instances_end (sessions_after call.kind tables.sessions call.session end.result.result end.context) tables.instances call.instance end.is_last
        (given_back end.memory end.objects) holds.instance (get tables.instances call.instance) holds.kept (λ instance. refl) (λ instance. refl))
        refl refl refl refl refl refl refl refl;
    panics = λ job used code is grant after changes.
        let holds = held_there job (ap job_in is) in
        ended_joined after _ _ job holds.instance changes (ap job_in is) (ap is_told is) holds.kept
        (sessions_panic call.kind tables.sessions call.session)
        (instances_end (sessions_after_panic call.kind tables.sessions call.session) tables.instances call.instance false killed holds.instance
        (get tables.instances call.instance) holds.kept (λ instance. refl) (λ instance. refl))
        refl refl refl refl refl refl refl refl;
    asks = λ job later used wanted payload is grant after changes.
        goes_so after _ changes (on_phase _ (Runs job) refl refl refl refl refl is (asks_on job later wanted payload));
    asked = λ job wanted payload is after changes. goes_so after _ changes (unmarked_on call);
    waits = λ params is after changes. goes_so after _ changes (unmarked_on call);
    told = λ result params wakes is after changes. goes_so after _ changes (unmarked_on call);
    tells = λ result params wakes is after changes.
        told_joined after _ changes (ap job_in is) (ap is_told is) refl refl refl refl refl refl refl refl;
  }) e

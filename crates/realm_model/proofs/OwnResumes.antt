-- A resume of a call of the realm leaves kernel and machine tied: the machine's call comes back with the same.
use Rattle.std.proofs.Common.{◌≡◌, ℕ, Bool, true, false, List, [], ◌∷◌, ◌++◌, Option, Some, None, refl, ap, subst, sym}
use Rattle.std.proofs.Common.{◌∙◌}
use Rattle.std.specs.Prelude.{All, ◌==◌, ◌||◌, IsSome, if◌then◌else◌, slice_get, slice_set}
use Rattle.std.specs.Option.{option_map, option_map_or, option_and_then}
use Rattle.std.proofs.lemmas.Bool.Decides.{Decides-eqb}
use Rattle.std.proofs.lemmas.List.Elements.{All-head, All-tail}
use Rattle.base.specs.NumberMap.{NumberMap, get, insert}
use Rattle.base.proofs.MapLemmas.{All-get}
use Rattle.event_journal.specs.declared.event.Event.TheVariants.{Entry}
use Rattle.job_model.specs.Job.{Job}
use Rattle.ns_ram.specs.declared.read.Read.{Read}
use Rattle.ns_ram.specs.Reader.{reading}
use Rattle.session_table.specs.declared.session.Session.{Session}
use Rattle.session_table.specs.declared.waiters.Waiter.{Waiter}
use Rattle.session_table.specs.Waiters.{waits}
use Rattle.ta_params.specs.declared.copied_params.CopiedParams.{CopiedParams}
use Rattle.kernel_model.specs.Application.{Booted, uuid_of}
use Rattle.kernel_model.specs.Argument.{client_in, thread_in}
use Rattle.kernel_model.specs.Begin.{has_pages_for}
use Rattle.kernel_model.specs.Given.{Given, Nothing, given_to}
use Rattle.kernel_model.specs.Kernel.{Active, Asks, CallPhase, Ends, InSlot, Inside, Instance, Kernel, PendingCall}
use Rattle.kernel_model.specs.Kernel.{Processor, Progress, Runs, Suspended, ThreadSlot, Visit, Waits}
use Rattle.kernel_model.specs.Leaving.{FreesBuffer, Finishes, Interrupted, Leaving, Requests, WantsBuffer, leaving_in}
use Rattle.kernel_model.specs.Leaving.{leaving_of}
use Rattle.kernel_model.specs.Resume.{onward_in, onward_of, phase_seen, resumed_call, sees}
use Rattle.kernel_model.specs.Sound.{Calls}
use Rattle.kernel_model.specs.Sound as sound
use Rattle.kernel_model.specs.SoundCalls.{is_told}
use Rattle.kernel_model.specs.SoundWaiters.{Awaited, AreWaiters, IsWaiter, awaited}
use Rattle.kernel_model.proofs.EntryLaws.{resumes_call}
use Rattle.kernel_model.proofs.Parts.{option_map_some, reading-mapped, set_found}
use Rattle.own_model.proofs.BelowNumbers.{unmarked_there}
use Rattle.own_model.proofs.FixedAnswers.{entered}
use Rattle.own_model.proofs.OtherResumes.{visitor_there}
use Rattle.own_model.specs.Own.{input_of}
use Rattle.own_model.specs.Tied.{FoundAlike, PhasesAlike, call_at, call_in}
use Rattle.group_model.specs.Group.{Group, GroupCall, comes_back, run, silent}
use Rattle.group_model.specs.Read.{finds_it_gone}
use Rattle.group_model.proofs.Ends.{NoOther}
use Rattle.realm_model.proofs.Room.{running_finds}
use Rattle.realm_model.specs.Realm.{AllSessions, OneSession, Realm, room_of}
use Rattle.realm_model.specs.Reading.{Logged, Notes, Watched, back_noted, entry_noted, event_noted}
use Rattle.realm_model.specs.Reading.{resume_noted, room_noted, seen_noted, slot_noted, with_event}
use Rattle.group_model.specs.declared.group_event.GroupEvent.{GroupEvent}
use Rattle.group_model.specs.declared.group_event.GroupEvent.TheVariants.{Back, Room}
use Rattle.group_model.specs.declared.group_reply.GroupReply.{GroupReply}
use Rattle.group_model.specs.InOrder.{Fits}
use Rattle.realm_model.specs.Laws.{AreFitting, AreTied, AsRealm, GoesAlong, IsRealm, OwnResumesKeepTied}
use Rattle.realm_model.specs.Tied.{HasAll, IsOfRealm, Members, Tied}
use Rattle.realm_model.proofs.CallChanges.{call_changes, tables_change}
use Rattle.group_model.proofs.InOrder.{stays_in_order}
use Rattle.realm_model.proofs.Onward.{Returns, homes_of, onward_so}
use Rattle.realm_model.proofs.OwnExits.{found_there}
use Rattle.realm_model.proofs.Progress.{OwnThere, Place, kept_at, kept_told, names_at, still_as}
use Rattle.realm_model.proofs.Members.{opens_of}
use Rattle.realm_model.proofs.OpenRuns.{NoOpens, no_opens, opens_behind}
use Rattle.realm_model.proofs.Room.{IsReady, is_ready, log_grows, room_is}
use Rattle.realm_model.proofs.Seen.{SeesAlike, sees_alike}
use Rattle.realm_model.proofs.Silent.{Silently, events_silent, replies_silent, silently, silently_on, silently_runs}
use Rattle.own_model.proofs.OwnResumes.{given_nothing, asked_not, runs_seen, given_phase, given_seen, onward_seen, suspended_at}

-- ---- what is known of a call that waits

-- what the one waits for, the other does
pub same_awaited : (a b : Awaited) → Some a ≡ Some b → a ≡ b
same_awaited a b e = cc

same_session : (a b : Session) → Some a ≡ Some b → a ≡ b
same_session a b e = cc

-- the waiter of a slot
pub record HasWaiter (members : Members) (instances : NumberMap ℕ) (calls : Calls) (slot : ℕ) : Type 0 where
  pub waiter : Waiter
  pub here : waiter.slot ≡ slot
  pub waits_so : IsWaiter calls waiter
  pub of_group : IsOfRealm members instances waiter.instance waiter.uuid

pub waiter_there : (members : Members) (instances : NumberMap ℕ) (calls : Calls) (slot : ℕ) (waiters : List Waiter)
    → waits waiters slot ≡ true → All (IsWaiter calls) waiters
    → All (λ (waiter : Waiter). IsOfRealm members instances waiter.instance waiter.uuid) waiters
    → HasWaiter members instances calls slot
waiter_there members instances calls slot [] is each groups = absurd cc
waiter_there members instances calls slot (waiter ∷ waiters) is each groups =
    by_test (waiter.slot == slot) refl is
    (λ some. waiter_there members instances calls slot waiters some (All-tail (IsWaiter calls) waiter waiters each)
    (All-tail (λ (w : Waiter). IsOfRealm members instances w.instance w.uuid) waiter waiters groups))
  where
    by_test : (test : Bool) → (waiter.slot == slot) ≡ test → (test || waits waiters slot) ≡ true
        → (waits waiters slot ≡ true → HasWaiter members instances calls slot) → HasWaiter members instances calls slot
    by_test true here some onward = record {
      waiter = waiter;
      here = (Decides-eqb waiter.slot slot).0 here;
      waits_so = All-head (IsWaiter calls) waiter waiters each;
      of_group = All-head (λ (w : Waiter). IsOfRealm members instances w.instance w.uuid) waiter waiters groups;
    }
    by_test false here some onward = onward some

-- a call that waits is of the application, where its instance is one of the realm's
waiting_of_app : (members : Members) (instances : NumberMap ℕ) (calls : Calls) (slot own : ℕ) (waiters : List Waiter)
    (call : PendingCall) (params : CopiedParams) → calls slot ≡ Some call → call.phase ≡ Waits params
    → get instances call.instance ≡ Some own → AreWaiters calls waiters
    → All (λ (waiter : Waiter). IsOfRealm members instances waiter.instance waiter.uuid) waiters
    → call.uuid ≡ Some (uuid_of members.app)
waiting_of_app members instances calls slot own waiters call params there waiting named are groups =
    let awaits : awaited (calls slot) ≡ Some (call.instance, call.uuid) =
    ap awaited there ∙ ap (λ (q : CallPhase). awaited (Some (record call { phase = q }))) waiting in
    let has = waiter_there members instances calls slot waiters
    (are.all slot (subst (λ (o : Option Awaited). IsSome o) (sym awaits) refl)) are.each groups in
    let same = same_awaited (call.instance, call.uuid) (has.waiter.instance, Some has.waiter.uuid)
    (sym awaits ∙ ap (λ n. awaited (calls n)) (sym has.here) ∙ has.waits_so) in
    let on : get instances has.waiter.instance ≡ Some own =
    ap (λ (a : Awaited). get instances a.0) (sym same) ∙ named in
    ap (λ (a : Awaited). a.1) same
    ∙ ap (λ (u : List ℕ). Some u) (has.of_group.of_app (subst (λ (o : Option ℕ). IsSome o) (sym on) refl))

own_waits : (kept : Option ℕ) (done own_done : ℕ) (params : CopiedParams) (own_phase : CallPhase)
    → PhasesAlike kept done own_done (Waits params) own_phase → (copied : CopiedParams) × (own_phase ≡ Waits copied)
own_waits kept done own_done params (Runs job) alike = absurd alike
own_waits kept done own_done params (Asks job wanted payload) alike = absurd alike
own_waits kept done own_done params (Waits copied) alike = (copied, refl)
own_waits kept done own_done params (Ends result left told wakes) alike = absurd alike

-- its instance is one of the realm's
waiting_named : (p : Place) (call : PendingCall) (own : GroupCall) (params : CopiedParams) → OwnThere p call own
    → call.phase ≡ Waits params → get p.instances call.instance ≡ Some own.instance
waiting_named p call own params h waiting =
    let copied = own_waits (kept_at p) call.steps own.steps params own.phase
    (subst (λ (q : CallPhase). PhasesAlike (kept_at p) call.steps own.steps q own.phase) waiting h.alike.phases) in
    let fits : Fits call.kind (Waits copied.0) =
    subst (λ k. Fits k (Waits copied.0)) (sym h.alike.kinds)
    (subst (λ (q : CallPhase). Fits own.kind q) copied.1 (h.order.fits p.number own h.of_number)) in
    (homes_of p.notes.sessions p.instances call own call.kind copied.0 fits h.alike.homes).1

nothing_kept : (p : Place) (at : ℕ) (found : Option Instance)
    → ((instance : Instance) → found ≡ Some instance → ⊥) → FoundAlike p.notes.numbering.in_slots found None
nothing_kept p at None none = tt
nothing_kept p at (Some instance) none = absurd (none instance refl)

-- no other instance with a name is kept: one session has one alone, and all sessions of an application share one
alone_in : (realm : Realm) (instances in_slots : NumberMap ℕ) (kept : NumberMap Instance) (number own next_session : ℕ)
    (g : Group) → AsRealm realm next_session instances g → get instances number ≡ Some own
    → (HasAll realm → NoOther instances in_slots kept number) → NoOther instances in_slots kept number
alone_in (OneSession member) instances in_slots kept number own next_session g one has all =
    λ at own_at named apart. absurd (apart (one.lone number at own own_at has named))
alone_in (AllSessions app) instances in_slots kept number own next_session g one has all = all tt

pub returns_so : (boot : Booted) (p : Place) (call : PendingCall) (own : GroupCall) → IsRealm boot p.about.members
    → p.about.key ≡ boot.key → AreFitting p.about.members p.kernel → call_at p.kernel.slots p.slot ≡ Some call
    → OwnThere p call own → Returns boot p call own
returns_so boot p call own shares key fitting found h = record {
  there = h;
  shares = shares;
  key = key;
  of_app = of_app;
  alone = λ params waiting.
      alone_in p.about.members.realm p.instances p.notes.numbering.in_slots p.kernel.tables.instances call.instance
      own.instance p.notes.next_session p.group p.as_realm (waiting_named p call own params h waiting)
      (λ all at own_at named apart.
      nothing_kept p at (get p.kernel.tables.instances at)
      (λ instance there.
      apart (fitting.alone all p.slot (sound.unmarked call) params plain waiting (of_app params waiting) at instance there
      ((All-get (λ (one : ℕ × Instance). IsOfRealm p.about.members p.instances one.0 one.1.uuid)
      p.kernel.tables.instances at instance h.tied.instances.of_app there).of_app
      (subst (λ (o : Option ℕ). IsSome o) (sym named) refl)))));
  on_instance = λ session in_session there.
      let its = (fitting.joined.each p.slot (sound.unmarked call) plain).session.still session in_session there in
      ap (λ (s : Session). s.instance) (same_session session its.session (sym there ∙ its.kept)) ∙ its.instance;
  unopened = λ params session opens waiting there.
      let its = (fitting.joined.each p.slot (sound.unmarked call) plain).session.opening opens (ap is_told waiting) in
      ap (λ (s : Session). s.opened) (same_session session its.session (sym there ∙ its.kept)) ∙ its.is_opened;
}
  where
    plain : sound.unmarked_at p.kernel.slots p.slot ≡ Some (sound.unmarked call)
    plain = unmarked_there p.kernel.slots p.slot call found

    of_app : (params : CopiedParams) → call.phase ≡ Waits params → call.uuid ≡ Some (uuid_of p.about.members.app)
    of_app params waiting =
        waiting_of_app p.about.members p.instances (sound.unmarked_at p.kernel.slots) p.slot own.instance p.kernel.tables.waiters
        (sound.unmarked call) params plain waiting (waiting_named p call own params h waiting) fitting.waiters h.tied.waiters.of_app

-- ---- what is noted

back_is_noted : (notes : Notes) (number : ℕ) (leaving : Leaving) (given : Given) → (leaving ≡ Interrupted → ⊥)
    → back_noted notes number leaving given ≡ with_event notes (Back number (input_of given))
back_is_noted notes number Interrupted given out = absurd (out refl)
back_is_noted notes number WantsBuffer given out = refl
back_is_noted notes number (Requests place request) given out = refl
back_is_noted notes number (FreesBuffer buffer) given out = refl
back_is_noted notes number (Finishes result params) given out = refl

-- ---- the call comes back

abbrev is_resumed : Booted → Kernel → ℕ → PendingCall → Given → Progress
is_resumed boot kernel slot call given = onward_of (resumed_call boot kernel.tables slot call given)

-- the entry, at its place
abbrev watched_at : Booted → Place → Kernel → Visit → List Read → Watched
watched_at boot p next visit reads = record {
  boot = boot;
  realm = p.about.members.realm;
  entering = record { kernel = p.kernel; next = next; visit = visit; reads = reads };
}

-- it is in its slot again, and the machine has gone along
abbrev GoesBack : Booted → Place → Kernel → Visit → List Read → PendingCall → Progress → Type 0
GoesBack boot p next visit reads call progress =
    GoesAlong p.about p.notes p.group (record p.kernel {
      slots = slice_set p.kernel.slots p.slot (Active visit.cpu progress.call);
      tables = progress.tables;
    })
    (resume_noted (watched_at boot p next visit reads) p.slot call progress.call p.notes p.number)

module _ (boot : Booted) (p : Place) (next : Kernel) (visit : Visit) (reads : List Read) (call : PendingCall)
    (own : GroupCall) (given : Given) (before : ThreadSlot) (f : Returns boot p call own)
    (in_slot : slice_get p.kernel.slots p.slot ≡ Some before)
    (gives : reading (given_to visit.regs p.slot call) reads ≡ Some given) where
  abbrev progress : Progress
  progress = is_resumed boot p.kernel p.slot call given

  abbrev watched : Watched
  watched = watched_at boot p next visit reads

  s : SeesAlike p call own
  s = sees_alike p call own before f.there in_slot

  ready : IsReady watched p call own
  ready = is_ready watched p call own (record {
    kernel = refl;
    realm = refl;
    shares = f.shares.shares;
    run = opens_of p.about.members.realm p.notes.next_session p.instances p.group p.as_realm;
  }) f.there s

  seen_so : progress.call.seen ≡ (sees call).seen
  seen_so =
      onward_seen (resumed_call boot p.kernel.tables p.slot call given)
      (resumed_call boot p.kernel.tables p.slot call given).call.phase ∙ given_seen given (sees call)

  -- as the log has grown by these events
  abbrev logged : List GroupEvent → Notes
  logged events = record p.notes { log = p.notes.log ++ silently events }

  along : (events : List GroupEvent) (final : Group) → NoOpens events → Silently p.about p.group events final
      → Tied p.about.members (names_at p) (slice_set p.kernel.slots p.slot (Active visit.cpu progress.call)) progress.tables
      final
      → resume_noted watched p.slot call progress.call p.notes p.number ≡ logged events
      → GoesBack boot p next visit reads call progress
  along events final none goes tied noted =
      subst (GoesAlong p.about p.notes p.group (record p.kernel {
        slots = slice_set p.kernel.slots p.slot (Active visit.cpu progress.call);
        tables = progress.tables;
      })) (sym noted)
      (record {
        items = silently events;
        noted = refl;
        then = final;
        replies = ap (λ (es : List GroupEvent). run p.about.most p.about.members.app p.group es) (events_silent events)
            ∙ silently_runs p.about p.group final events goes
            ∙ ap (λ (rs : List GroupReply). Some (final, rs)) (sym (replies_silent events));
        tied = record {
          instances = p.instances;
          tied = tied;
          as_realm = still_as p.about.members.realm p.notes.next_session p.instances p.group final p.number own
              f.there.of_number p.as_realm
              (λ one.
              opens_behind p.about p.group final events none
              (opens_of p.about.members.realm p.notes.next_session p.instances p.group p.as_realm one) goes);
        };
      })

  -- it runs on
  runs_on : (job : Job) → call.phase ≡ Runs job → GoesBack boot p next visit reads call progress
  runs_on job is =
      let interrupted : leaving_of p.slot call ≡ Interrupted = ap (λ (q : CallPhase). leaving_in p.slot call q) is in
      let nothing : given ≡ Nothing =
      given_nothing visit.regs (leaving_of p.slot call) reads given interrupted gives in
      let seen = runs_seen call job is in
      let same : progress ≡ record { call = sees call; tables = p.kernel.tables } =
      ap (λ (g : Given). is_resumed boot p.kernel p.slot call g) nothing
      ∙ ap (λ (q : CallPhase). onward_in (resumed_call boot p.kernel.tables p.slot call Nothing) q) seen.1
      ∙ ap (λ (q : CallPhase). record { call = record (sees call) { phase = q }; tables = p.kernel.tables })
      (sym seen.1) in
      let seen_notes : Notes = seen_noted p.notes p.number call progress.call in
      let no_room : finds_it_gone p.kernel.tables call call.kind call.phase ≡ false =
      ap (λ (q : CallPhase). finds_it_gone p.kernel.tables call call.kind q) is
      ∙ running_finds p.kernel.tables call call.kind job in
      let none_of : room_of p.about.members.realm boot p.kernel.tables call ≡ None =
      room_is p.about.members.realm boot p.kernel.tables call p.about.members.app f.shares.shares (λ one. no_room)
      ∙ ap (λ b. if b then Some (has_pages_for boot p.kernel.tables p.about.members.app) else None) no_room in
      along s.came (record p.group { calls = s.calls }) s.quiet s.runs
      (subst (λ (q : Progress). Tied p.about.members (names_at p)
      (slice_set p.kernel.slots p.slot (Active visit.cpu q.call)) q.tables (record p.group { calls = s.calls })) (sym same)
      (s.stays (Active visit.cpu (sees call)) refl))
      (ap (λ (o : Option Bool). option_map_or (back_noted (room_or seen_notes o) p.number (leaving_of p.slot call))
      (reading (given_to visit.regs p.slot call) reads) (room_or seen_notes o)) none_of
      ∙ ap (λ (o : Option Given). option_map_or (back_noted seen_notes p.number (leaving_of p.slot call)) o seen_notes) gives
      ∙ ap (λ (l : Leaving). back_noted seen_notes p.number l given) interrupted
      ∙ s.noted progress.call seen_so)
    where
      room_or : Notes → Option Bool → Notes
      room_or notes found = option_map_or (λ enough. with_event notes (Room p.number enough)) found notes

  fits : Fits ready.now.kind ready.now.phase
  fits =
      (stays_in_order.runs p.about.most p.about.members.app p.group (record p.group { calls = ready.calls }) ready.came []
      f.there.order (silently_runs p.about p.group (record p.group { calls = ready.calls }) ready.came ready.runs)).fits
      p.number ready.now ready.there

  seen_not : ((job : Job) → call.phase ≡ Runs job → ⊥) → (job : Job) → (sees call).phase ≡ Runs job → ⊥
  seen_not asked job is = unseen call.marked is
    where
      by_phase : (phase : CallPhase) → call.phase ≡ phase → phase_seen phase ≡ Runs job → ⊥
      by_phase (Runs other) here e = asked other here
      by_phase (Asks other wanted payload) here e = cc
      by_phase (Waits params) here e = cc
      by_phase (Ends result params told wakes) here e = cc

      unseen : (marked : Bool)
          → (if marked then record call { seen = true; phase = phase_seen call.phase } else call).phase ≡ Runs job
          → ⊥
      unseen true same = absurd (by_phase call.phase refl same)
      unseen false same = asked job same

  -- it is given what it had asked for
  given_so : ((job : Job) → call.phase ≡ Runs job → ⊥) → GoesBack boot p next visit reads call progress
  given_so asked =
      let g = onward_so boot watched p call own given refl f ready
      (λ job is. seen_not asked job (sym (given_phase given (sees call)) ∙ is)) (given_phase given (sees call)) fits in
      let last : GroupCall = g.last in
      let between : Group = record p.group { calls = ready.calls } in
      let final : Group = record p.group {
        instance = g.instance;
        waiting = g.waiting;
        calls = insert p.group.calls p.number last;
      } in
      let back : GroupEvent = Back p.number (input_of given) in
      let changed : Tied p.about.members (names_at p)
      (slice_set p.kernel.slots p.slot (Active visit.cpu progress.call)) progress.tables final =
      call_changes p.about.members (names_at p) p.kernel.slots progress.tables
      (record p.group { instance = g.instance; waiting = g.waiting }) p.slot p.number p.notes.numbering.wakes
      (Active visit.cpu progress.call) progress.call last refl
      (record {
        has = f.there.has;
        before = before;
        there = in_slot;
        others = λ at apart. refl;
        alike = g.alike;
      })
      (λ woken kept. g.told (kept_told p call own f.there woken kept))
      (tables_change p.about.members (names_at p) p.kernel.slots p.kernel.tables progress.tables p.group p.group.sessions
      g.instance g.waiting f.there.tied g.tables.sessions g.tables.instances g.tables.waiters g.tables.next_session
      g.tables.next_instance) in
      let comes : comes_back p.about.members.app between p.number (input_of given) ready.now ≡ Some final =
      g.is ∙ ap (λ (calls : NumberMap GroupCall). Some (record p.group {
        instance = g.instance;
        waiting = g.waiting;
        calls = calls;
      })) (ready.again last) in
      along (ready.came ++ back ∷ []) final (no_opens ready.came (back ∷ []) ready.quiet tt)
      (silently_on p.about p.group between final ready.came (back ∷ []) ready.runs (
        final,
        ap (λ (o : Option GroupCall). option_map silent
            (option_and_then (comes_back p.about.members.app between p.number (input_of given)) o)) ready.there
            ∙ ap (λ (o : Option Group). option_map silent o) comes,
        refl,
      )) changed
      (ap (λ (o : Option Given). option_map_or (back_noted room_notes p.number (leaving_of p.slot call)) o room_notes)
      gives
      ∙ ap (λ (n : Notes). back_noted n p.number (leaving_of p.slot call) given) (ready.noted progress.call seen_so)
      ∙ back_is_noted (logged ready.came) p.number (leaving_of p.slot call) given
      (asked_not p.slot call call.phase asked)
      ∙ ap (λ (l : List Logged). record p.notes { log = l }) (log_grows p.notes.log ready.came back))
    where
      room_notes : Notes
      room_notes = room_noted watched (seen_noted p.notes p.number call progress.call) p.number call

  by_phase : (phase : CallPhase) → call.phase ≡ phase → GoesBack boot p next visit reads call progress
  by_phase (Runs job) is = runs_on job is
  by_phase (Asks job wanted payload) is = given_so (λ other e. runs_apart (sym is ∙ e))
    where
      runs_apart : {other : Job} → CallPhase.Asks job wanted payload ≡ Runs other → ⊥
      runs_apart e = cc
  by_phase (Waits params) is = given_so (λ other e. runs_apart (sym is ∙ e))
    where
      runs_apart : {other : Job} → CallPhase.Waits params ≡ Runs other → ⊥
      runs_apart e = cc
  by_phase (Ends result params told wakes) is = given_so (λ other e. runs_apart (sym is ∙ e))
    where
      runs_apart : {other : Job} → CallPhase.Ends result params told wakes ≡ Runs other → ⊥
      runs_apart e = cc

  goes_back : GoesBack boot p next visit reads call progress
  goes_back = by_phase call.phase refl

-- ---- the entry

pub own_resume : OwnResumesKeepTied
own_resume boot about kernel next cpu steps number regs reads call notes g shares key fitting is some has order e
    tied =
    let visit : Visit = record { cpu = cpu; regs = regs.a; steps = steps } in
    let slot : ℕ = thread_in regs.a in
    let p : Place = record {
      about = about;
      kernel = kernel;
      notes = notes;
      instances = tied.instances;
      group = g;
      slot = slot;
      number = number;
      as_realm = tied.as_realm;
    } in
    let resumes = resumes_call boot kernel next visit reads call is some
    (entered boot kernel next cpu steps regs reads e) in
    let given = option_map_some (λ (o : Given). is_resumed boot kernel slot call o)
    (reading (given_to regs.a slot call) reads) resumes.progress
    (sym (reading-mapped (given_to regs.a slot call) (λ (o : Given). is_resumed boot kernel slot call o) reads)
    ∙ resumes.comes_to) in
    let at = suspended_at (client_in regs.a) (slice_get kernel.slots slot) call some in
    let in_slot : call_at kernel.slots slot ≡ Some call =
    ap (λ (o : Option ThreadSlot). option_and_then call_in o) at.1 in
    let found = found_there p call has in_slot order fitting.rising tied.tied in
    let back = goes_back boot p next visit reads call found.0 given.0 (Suspended at.0 call)
    (returns_so boot p call found.0 shares key fitting in_slot found.1) at.1 given.1 in
    let returned : GoesBack boot p next visit reads call resumes.progress =
    subst (λ (q : Progress). GoesBack boot p next visit reads call q) given.2 back in
    let there = visitor_there boot kernel next cpu steps regs reads e in
    let inside : slice_get next.processors cpu ≡ Some (Inside regs.a steps (InSlot slot)) =
    ap (λ (k : Kernel). slice_get k.processors cpu) resumes.next_is
    ∙ set_found kernel.processors cpu (Inside regs.a steps (InSlot slot)) there.0 there.1 in
    let holds : slice_get next.slots slot ≡ Some (Active cpu resumes.progress.call) =
    ap (λ (k : Kernel). slice_get k.slots slot) resumes.next_is
    ∙ set_found kernel.slots slot (Active cpu resumes.progress.call) (Suspended at.0 call) at.1 in
    let w : Watched = watched_at boot p next visit reads in
    let after_it : Notes = resume_noted w slot call resumes.progress.call notes number in
    let same : event_noted boot about.members.realm kernel next notes (Entry cpu regs steps reads) ≡ after_it =
    ap (λ (o : Option Processor). entry_noted w notes o) inside
    ∙ ap (λ (o : Option ThreadSlot). slot_noted w slot notes o (slice_get next.slots slot)) at.1
    ∙ ap (λ (o : Option ThreadSlot). slot_noted w slot notes (Some (Suspended at.0 call)) o) holds
    ∙ ap (λ (o : Option ℕ). option_map_or (resume_noted w slot call resumes.progress.call notes) o notes) has in
    subst (GoesAlong about notes g next) (sym same)
    (record {
      items = returned.items;
      noted = returned.noted;
      then = returned.then;
      replies = returned.replies;
      tied = subst (λ (k : Kernel). AreTied about k.slots k.tables after_it returned.then) (sym resumes.next_is)
          returned.tied;
    })

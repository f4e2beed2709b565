-- An open of the realm that has waited and finds its instance gone is told whether there is room, and so is the machine.
use Rattle.std.proofs.Common.{◌≡◌, ℕ, Bool, true, false, List, [], ◌∷◌, ◌++◌, Option, Some, None, refl, ap, sym, ◌∙◌}
use Rattle.std.specs.Prelude.{if◌then◌else◌}
use Rattle.std.specs.Option.{is_none, option_map, option_and_then}
use Rattle.std.proofs.lemmas.List.{append_assoc, map-append}
use Rattle.base.specs.NumberMap.{NumberMap, get, insert}
use Rattle.job_model.specs.declared.call_kind.CallKind.{CallKind}
use Rattle.job_model.specs.declared.call_kind.CallKind.TheVariants as kind
use Rattle.kernel_model.specs.Begin.{has_pages_for}
use Rattle.kernel_model.specs.Kernel.{Asks, CallPhase, Ends, Instance, Kernel, PendingCall, Runs, Tables, Waits}
use Rattle.kernel_model.specs.Resume.{phase_seen, sees}
use Rattle.kernel_model.proofs.Parts.{if-both}
use Rattle.own_model.proofs.Maps.{get-insert-same, insert-again}
use Rattle.own_model.specs.Tied.{FoundAlike, PhasesAlike}
use Rattle.group_model.specs.Group.{Group, GroupCall, instance_at, silent, with_call}
use Rattle.group_model.specs.Group as machine
use Rattle.group_model.specs.Read.{finds_it_gone}
use Rattle.kernel_model.specs.Application.{Application, Booted}
use Rattle.std.specs.Option.{option_map_or}
use Rattle.realm_model.specs.Realm.{AllSessions, OneSession, Realm, room_of}
use Rattle.realm_model.specs.Laws.{IsOne, OpensRun, SharesAs}
use Rattle.realm_model.specs.Reading.{Logged, Notes, Watched, room_noted, seen_noted, with_event}
use Rattle.group_model.specs.declared.group_event.GroupEvent.{GroupEvent}
use Rattle.group_model.specs.declared.group_event.GroupEvent.TheVariants.{Room}
use Rattle.group_model.specs.Tied.{CallsAlike, HomesAlike, IsTold, found_at}
use Rattle.realm_model.proofs.Progress.{OwnThere, Place, kept_at}
use Rattle.realm_model.proofs.Seen.{SeesAlike}
use Rattle.realm_model.proofs.Silent.{Silently, silently, silently_on, unanswered}
use Rattle.realm_model.proofs.OpenRuns.{NoOpens, no_opens}
use Rattle.job_model.specs.Job.{Job}

-- ---- an instance that is gone

-- one that runs finds nothing gone
pub running_finds : (tables : Tables) (call : PendingCall) (call_kind : CallKind) (job : Job)
    → finds_it_gone tables call call_kind (Runs job) ≡ false
running_finds tables call kind.Open job = refl
running_finds tables call (kind.Invoke func) job = refl
running_finds tables call kind.Close job = refl
running_finds tables call kind.Settled job = refl

-- ---- an instance that is gone

gone_seen : (tables : Tables) (call : PendingCall) (call_kind : CallKind) (phase : CallPhase)
    → finds_it_gone tables call call_kind (phase_seen phase) ≡ finds_it_gone tables call call_kind phase
gone_seen tables call kind.Open (Runs job) = refl
gone_seen tables call kind.Open (Asks job wanted payload) = refl
gone_seen tables call kind.Open (Waits params) = refl
gone_seen tables call kind.Open (Ends result params told wakes) = refl
gone_seen tables call (kind.Invoke func) phase = refl
gone_seen tables call kind.Close phase = refl
gone_seen tables call kind.Settled phase = refl

-- a call that sees its cancellation finds the same
sees_gone : (tables : Tables) (call : PendingCall)
    → finds_it_gone tables call call.kind (sees call).phase ≡ finds_it_gone tables call call.kind call.phase
sees_gone tables call =
    if-both (λ (now : PendingCall). finds_it_gone tables call call.kind now.phase
    ≡ finds_it_gone tables call call.kind call.phase) call.marked
    (record call { seen = true; phase = phase_seen call.phase }) call
    (gone_seen tables call call.kind call.phase) refl

none_alike : (numbers : NumberMap ℕ) (kept own : Option Instance) → FoundAlike numbers kept own
    → is_none kept ≡ is_none own
none_alike numbers None None alike = refl
none_alike numbers (Some kept) (Some own) alike = refl
none_alike numbers None (Some own) alike = absurd alike
none_alike numbers (Some kept) None alike = absurd alike

-- the machine's call finds the same
gone_alike : (p : Place) (call : PendingCall) (own : GroupCall) (call_kind : CallKind) (phase own_phase : CallPhase)
    (done own_done : ℕ) (kept : Option ℕ) → HomesAlike p.notes.sessions p.instances call own call_kind
    → ((at own_at : ℕ) → get p.instances at ≡ Some own_at
    → FoundAlike p.notes.numbering.in_slots (get p.kernel.tables.instances at) (found_at p.group.instance own_at))
    → PhasesAlike kept done own_done phase own_phase
    → finds_it_gone p.kernel.tables call call_kind phase ≡ machine.finds_it_gone p.group own call_kind own_phase
gone_alike p call own kind.Open (Waits params) (Waits copied) done own_done kept homes found alike =
    none_alike p.notes.numbering.in_slots (get p.kernel.tables.instances call.instance) (instance_at p.group own.instance)
    (found call.instance own.instance homes.1)
gone_alike p call own kind.Open (Runs job) (Runs from) done own_done kept homes found alike = refl
gone_alike p call own kind.Open (Asks job wanted payload) (Asks from asked bytes) done own_done kept homes found alike =
    refl
gone_alike p call own kind.Open (Ends result params told wakes) (Ends answer left shown woken) done own_done kept homes
    found alike = refl
gone_alike p call own kind.Open (Runs job) (Asks from asked bytes) done own_done kept homes found alike = absurd alike
gone_alike p call own kind.Open (Runs job) (Waits copied) done own_done kept homes found alike = absurd alike
gone_alike p call own kind.Open (Runs job) (Ends answer left shown woken) done own_done kept homes found alike =
    absurd alike
gone_alike p call own kind.Open (Asks job wanted payload) (Runs from) done own_done kept homes found alike = absurd alike
gone_alike p call own kind.Open (Asks job wanted payload) (Waits copied) done own_done kept homes found alike =
    absurd alike
gone_alike p call own kind.Open (Asks job wanted payload) (Ends answer left shown woken) done own_done kept homes found
    alike = absurd alike
gone_alike p call own kind.Open (Waits params) (Runs from) done own_done kept homes found alike = absurd alike
gone_alike p call own kind.Open (Waits params) (Asks from asked bytes) done own_done kept homes found alike =
    absurd alike
gone_alike p call own kind.Open (Waits params) (Ends answer left shown woken) done own_done kept homes found alike =
    absurd alike
gone_alike p call own kind.Open (Ends result params told wakes) (Runs from) done own_done kept homes found alike =
    absurd alike
gone_alike p call own kind.Open (Ends result params told wakes) (Asks from asked bytes) done own_done kept homes found
    alike = absurd alike
gone_alike p call own kind.Open (Ends result params told wakes) (Waits copied) done own_done kept homes found alike =
    absurd alike
gone_alike p call own (kind.Invoke func) phase own_phase done own_done kept homes found alike = refl
gone_alike p call own kind.Close phase own_phase done own_done kept homes found alike = refl
gone_alike p call own kind.Settled phase own_phase done own_done kept homes found alike = refl

-- ---- whether there is room

-- an open of one session never waits, so that it finds nothing gone
never_gone : (g : Group) (number : ℕ) (own : GroupCall) (call_kind : CallKind) (phase : CallPhase) → OpensRun g.calls
    → get g.calls number ≡ Some own → own.kind ≡ call_kind → own.phase ≡ phase
    → machine.finds_it_gone g own call_kind phase ≡ false
never_gone g number own kind.Open (Runs job) run there kinds is = refl
never_gone g number own kind.Open (Asks job wanted payload) run there kinds is = refl
never_gone g number own kind.Open (Waits params) run there kinds is = absurd (run number own params there kinds is)
never_gone g number own kind.Open (Ends result params told wakes) run there kinds is = refl
never_gone g number own (kind.Invoke func) phase run there kinds is = refl
never_gone g number own kind.Close phase run there kinds is = refl
never_gone g number own kind.Settled phase run there kinds is = refl

-- what is noted of it is what an open that finds its instance gone is told
pub room_is : (realm : Realm) (boot : Booted) (tables : Tables) (call : PendingCall) (app : Application) → SharesAs realm app
    → (IsOne realm → finds_it_gone tables call call.kind call.phase ≡ false)
    → room_of realm boot tables call
    ≡ (if finds_it_gone tables call call.kind call.phase then Some (has_pages_for boot tables app) else None)
room_is (OneSession member) boot tables call app shares none =
    ap (λ b. if b then Some (has_pages_for boot tables app) else None) (sym (none tt))
room_is (AllSessions of) boot tables call app shares none =
    ap (λ (a : Application). if finds_it_gone tables call call.kind call.phase then Some (has_pages_for boot tables a)
    else None) shares.1

-- ---- the machine's call, ready for what it is given

-- it has seen what the call has, and was told whether there is room
pub record IsReady (w : Watched) (p : Place) (call : PendingCall) (own : GroupCall) : Type 0 where
  pub came : List GroupEvent
  pub quiet : NoOpens came
  pub now : GroupCall
  pub calls : NumberMap GroupCall
  pub again : (v : GroupCall) → insert calls p.number v ≡ insert p.group.calls p.number v
  pub there : get calls p.number ≡ Some now
  pub runs : Silently p.about p.group came (record p.group { calls = calls })
  pub noted : (later : PendingCall) → later.seen ≡ (sees call).seen →
      room_noted w (seen_noted p.notes p.number call later) p.number call
      ≡ record p.notes { log = p.notes.log ++ silently came }
  pub alike : CallsAlike p.notes.sessions p.instances (kept_at p) (sees call) now
  pub told : IsTold own → IsTold now
  pub room : machine.finds_it_gone p.group now now.kind now.phase ≡ true →
      now.room ≡ Some (has_pages_for w.boot w.entering.kernel.tables p.about.members.app)

-- an entry of this place
pub record IsWatched (w : Watched) (p : Place) : Type 0 where
  pub kernel : w.entering.kernel ≡ p.kernel
  pub realm : w.realm ≡ p.about.members.realm
  pub shares : SharesAs p.about.members.realm p.about.members.app
  pub run : IsOne p.about.members.realm → OpensRun p.group.calls

-- what the machine's call finds
finds_same : (w : Watched) (p : Place) (call : PendingCall) (own : GroupCall) → IsWatched w p → OwnThere p call own
    → (s : SeesAlike p call own)
    → finds_it_gone w.entering.kernel.tables call call.kind call.phase
    ≡ machine.finds_it_gone p.group s.now s.now.kind s.now.phase
finds_same w p call own watched h s =
    let seen_gone = sees_gone p.kernel.tables call in
    let homes : HomesAlike p.notes.sessions p.instances call s.now call.kind =
    if-both (λ (now : PendingCall). HomesAlike p.notes.sessions p.instances now s.now now.kind
    → HomesAlike p.notes.sessions p.instances call s.now call.kind) call.marked
    (record call { seen = true; phase = phase_seen call.phase }) call (λ same. same) (λ same. same) s.alike.homes in
    let kinds : call.kind ≡ s.now.kind =
    if-both (λ (now : PendingCall). now.kind ≡ s.now.kind → call.kind ≡ s.now.kind) call.marked
    (record call { seen = true; phase = phase_seen call.phase }) call (λ same. same) (λ same. same) s.alike.kinds in
    ap (λ (k : Kernel). finds_it_gone k.tables call call.kind call.phase) watched.kernel
    ∙ sym seen_gone
    ∙ gone_alike p call s.now call.kind (sees call).phase s.now.phase (sees call).steps s.now.steps (kept_at p) homes
    h.tied.instances.alike s.alike.phases
    ∙ ap (λ k. machine.finds_it_gone p.group s.now k s.now.phase) kinds

-- what is noted of room behind what it sees
noted_room : (w : Watched) (p : Place) (call later : PendingCall) (found : Option Bool)
    → room_of w.realm w.boot w.entering.kernel.tables call ≡ found
    → room_noted w (seen_noted p.notes p.number call later) p.number call
    ≡ option_map_or (λ enough. with_event (seen_noted p.notes p.number call later) (Room p.number enough)) found
    (seen_noted p.notes p.number call later)
noted_room w p call later found is =
    ap (λ (o : Option Bool). option_map_or
    (λ enough. with_event (seen_noted p.notes p.number call later) (Room p.number enough)) o
    (seen_noted p.notes p.number call later)) is

-- no instance is gone
as_seen : (w : Watched) (p : Place) (call : PendingCall) (own : GroupCall) → (s : SeesAlike p call own)
    → room_of w.realm w.boot w.entering.kernel.tables call ≡ None
    → machine.finds_it_gone p.group s.now s.now.kind s.now.phase ≡ false → IsReady w p call own
as_seen w p call own s none own_kept = record {
  came = s.came;
  quiet = s.quiet;
  now = s.now;
  calls = s.calls;
  again = s.again;
  there = s.there;
  runs = s.runs;
  noted = λ later is. noted_room w p call later None none ∙ s.noted later is;
  alike = s.alike;
  told = s.told;
  room = λ gone. let no : false ≡ true = sym own_kept ∙ gone in absurd cc;
}

-- the log with one event more
pub log_grows : (log : List Logged) (events : List GroupEvent) (came : GroupEvent)
    → (log ++ silently events) ++ unanswered came ∷ [] ≡ log ++ silently (events ++ came ∷ [])
log_grows log events came =
    append_assoc log (silently events) (unanswered came ∷ [])
    ∙ ap (λ (l : List Logged). log ++ l) (sym (map-append unanswered events (came ∷ [])))

-- it is gone
is_gone : (w : Watched) (p : Place) (call : PendingCall) (own : GroupCall) → (s : SeesAlike p call own)
    → (enough : Bool) → has_pages_for w.boot w.entering.kernel.tables p.about.members.app ≡ enough
    → room_of w.realm w.boot w.entering.kernel.tables call ≡ Some enough
    → machine.finds_it_gone p.group s.now s.now.kind s.now.phase ≡ true → IsReady w p call own
is_gone w p call own s enough has gone own_gone =
    let now : GroupCall = record s.now { room = Some enough } in
    let came : GroupEvent = Room p.number enough in
    let seen : Group = record p.group { calls = s.calls } in
    record {
      came = s.came ++ came ∷ [];
      quiet = no_opens s.came (came ∷ []) s.quiet tt;
      now = now;
      calls = insert s.calls p.number now;
      again = λ v. insert-again s.calls p.number now v ∙ s.again v;
      there = get-insert-same s.calls p.number now;
      runs = silently_on p.about p.group seen (record p.group { calls = insert s.calls p.number now }) s.came (came ∷ [])
          s.runs (
            record p.group { calls = insert s.calls p.number now },
            ap (λ (o : Option GroupCall). option_map silent (option_and_then (machine.finds_room seen p.number enough) o))
                s.there
                ∙ ap (λ b. option_map silent (if b then Some (with_call seen p.number now) else None)) own_gone,
            refl,
          );
      noted = λ later is.
          noted_room w p call later (Some enough) gone
          ∙ ap (λ (n : Notes). with_event n came) (s.noted later is)
          ∙ ap (λ (l : List Logged). record p.notes { log = l }) (log_grows p.notes.log s.came came);
      alike = record {
        homes = s.alike.homes;
        kinds = s.alike.kinds;
        seen = s.alike.seen;
        areas = s.alike.areas;
        buffers = s.alike.buffers;
        phases = s.alike.phases;
        flagged = s.alike.flagged;
      };
      told = s.told;
      room = λ _. ap (λ b. Some b) (sym has);
    }

pub is_ready : (w : Watched) (p : Place) (call : PendingCall) (own : GroupCall) → IsWatched w p → OwnThere p call own
    → SeesAlike p call own → IsReady w p call own
is_ready w p call own watched h s =
    by_test (machine.finds_it_gone p.group s.now s.now.kind s.now.phase) (finds_same w p call own watched h s) refl
  where
    one_finds : finds_it_gone w.entering.kernel.tables call call.kind call.phase
        ≡ machine.finds_it_gone p.group own own.kind own.phase
    one_finds =
        ap (λ (k : Kernel). finds_it_gone k.tables call call.kind call.phase) watched.kernel
        ∙ gone_alike p call own call.kind call.phase own.phase call.steps own.steps (kept_at p) h.alike.homes
        h.tied.instances.alike h.alike.phases
        ∙ ap (λ k. machine.finds_it_gone p.group own k own.phase) h.alike.kinds

    told : room_of w.realm w.boot w.entering.kernel.tables call
        ≡ (if finds_it_gone w.entering.kernel.tables call call.kind call.phase
        then Some (has_pages_for w.boot w.entering.kernel.tables p.about.members.app) else None)
    told =
        ap (λ (r : Realm). room_of r w.boot w.entering.kernel.tables call) watched.realm
        ∙ room_is p.about.members.realm w.boot w.entering.kernel.tables call p.about.members.app watched.shares
        (λ one. one_finds ∙ never_gone p.group p.number own own.kind own.phase (watched.run one) h.of_number refl refl)

    by_test : (test : Bool)
        → finds_it_gone w.entering.kernel.tables call call.kind call.phase
        ≡ machine.finds_it_gone p.group s.now s.now.kind s.now.phase
        → machine.finds_it_gone p.group s.now s.now.kind s.now.phase ≡ test → IsReady w p call own
    by_test true same is =
        is_gone w p call own s (has_pages_for w.boot w.entering.kernel.tables p.about.members.app) refl
        (told ∙ ap (λ b. if b then Some (has_pages_for w.boot w.entering.kernel.tables p.about.members.app) else None)
        (same ∙ is)) is
    by_test false same is =
        as_seen w p call own s
        (told ∙ ap (λ b. if b then Some (has_pages_for w.boot w.entering.kernel.tables p.about.members.app) else None)
        (same ∙ is)) is

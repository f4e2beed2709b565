-- A call of the realm that comes back sees that it was cancelled, and so does the machine's call.
use Rattle.std.proofs.Common.{◌≡◌, Bool, true, false, not, List, [], ◌∷◌, ◌++◌, Option, Some, refl, ap}
use Rattle.std.proofs.Common.{subst, sym, ◌∙◌}
use Rattle.std.specs.Prelude.{◌&&◌, if◌then◌else◌, slice_get, slice_set}
use Rattle.std.specs.Option.{option_map, option_and_then}
use Rattle.std.proofs.lemmas.List.{append-nil}
use Rattle.base.specs.NumberMap.{NumberMap, get, insert}
use Rattle.kernel_model.specs.Kernel.{CallPhase, PendingCall, ThreadSlot}
use Rattle.kernel_model.specs.Resume.{phase_seen, sees}
use Rattle.own_model.proofs.Maps.{get-insert-same, insert-again}
use Rattle.own_model.proofs.OwnSeen.{flagged_too, seen_twice, caught_up}
use Rattle.own_model.specs.Tied.{PhasesAlike, call_in}
use Rattle.group_model.specs.Group.{Group, GroupCall, silent, with_call}
use Rattle.group_model.specs.Group as machine
use Rattle.realm_model.specs.Reading.{Logged, seen_noted, with_event}
use Rattle.group_model.specs.declared.group_event.GroupEvent.{GroupEvent}
use Rattle.group_model.specs.declared.group_event.GroupEvent.TheVariants.{Seen}
use Rattle.group_model.specs.Line.{IsTiedCall}
use Rattle.group_model.specs.Tied.{CallsAlike, IsTold}
use Rattle.realm_model.specs.Tied.{Tied}
use Rattle.group_model.proofs.CallChanges.{calls_stay, others_changed}
use Rattle.realm_model.proofs.CallChanges.{call_changes}
use Rattle.realm_model.proofs.Progress.{OwnThere, Place, kept_at, kept_told, names_at, same_own}
use Rattle.realm_model.proofs.Silent.{Silently, silently}
use Rattle.realm_model.proofs.OpenRuns.{NoOpens}

-- ---- the call

-- the call as it has seen its cancellation, and the machine's
pub record SeesAlike (p : Place) (call : PendingCall) (own : GroupCall) : Type 0 where
  pub came : List GroupEvent
  pub quiet : NoOpens came
  pub now : GroupCall
  pub calls : NumberMap GroupCall
  pub again : (v : GroupCall) → insert calls p.number v ≡ insert p.group.calls p.number v
  pub there : get calls p.number ≡ Some now
  pub runs : Silently p.about p.group came (record p.group { calls = calls })
  pub noted : (later : PendingCall) → later.seen ≡ (sees call).seen →
      seen_noted p.notes p.number call later ≡ record p.notes { log = p.notes.log ++ silently came }
  pub alike : CallsAlike p.notes.sessions p.instances (kept_at p) (sees call) now
  pub told : IsTold own → IsTold now
  -- with the call in its slot
  pub stays : (held : ThreadSlot) → call_in held ≡ Some (sees call) →
      Tied p.about.members (names_at p) (slice_set p.kernel.slots p.slot held) p.kernel.tables
      (record p.group { calls = calls })

both_not : (b : Bool) → (b && not b) ≡ false
both_not true = refl
both_not false = refl

and_not : (b : Bool) → (b && false) ≡ false
and_not true = refl
and_not false = refl

nothing_new : (p : Place) (call later : PendingCall) → (later.seen && not call.seen) ≡ false
    → seen_noted p.notes p.number call later ≡ record p.notes { log = p.notes.log ++ [] }
nothing_new p call later none =
    ap (λ b. if b then with_event p.notes (Seen p.number call.steps) else p.notes) none
    ∙ ap (λ (l : List Logged). record p.notes { log = l }) (sym (append-nil p.notes.log))

-- the call in its slot, alike in another way
slot_alike : (p : Place) (call now : PendingCall) (own : GroupCall) (before held : ThreadSlot) → OwnThere p call own
    → slice_get p.kernel.slots p.slot ≡ Some before → call_in held ≡ Some now
    → CallsAlike p.notes.sessions p.instances (kept_at p) now own
    → Tied p.about.members (names_at p) (slice_set p.kernel.slots p.slot held) p.kernel.tables p.group
slot_alike p call now own before held h in_slot in_it alike = record {
  sessions = h.tied.sessions;
  named = h.tied.named;
  instances = h.tied.instances;
  calls = calls_stay GroupCall (CallsAlike p.notes.sessions p.instances) p.notes.numbering p.kernel.slots p.group.calls
      p.slot p.number held before now h.has in_slot in_it its
      (subst (λ (o : GroupCall). CallsAlike p.notes.sessions p.instances (kept_at p) now o)
      (sym (same_own its.own own (sym its.of_number ∙ h.of_number))) alike) h.tied.calls;
  waiters = h.tied.waiters;
  kept = h.tied.kept;
  others = others_changed p.notes.sessions p.instances p.notes.numbering.in_slots p.kernel.slots p.slot p.number held
      h.has h.tied.others;
  entered = h.tied.entered;
  next_session = h.tied.next_session;
  session_names = h.tied.session_names;
  instance_names = h.tied.instance_names;
  key = h.tied.key;
}
  where
    its : IsTiedCall (CallsAlike p.notes.sessions p.instances) p.notes.numbering p.kernel.slots p.group.calls p.slot
        p.number
    its = h.tied.calls.own p.slot p.number h.has

-- nothing happens to the machine
as_before : (p : Place) (call : PendingCall) (own : GroupCall) (before : ThreadSlot) → OwnThere p call own
    → slice_get p.kernel.slots p.slot ≡ Some before
    → CallsAlike p.notes.sessions p.instances (kept_at p) (sees call) own
    → ((later : PendingCall) → later.seen ≡ (sees call).seen → (later.seen && not call.seen) ≡ false)
    → SeesAlike p call own
as_before p call own before h in_slot alike none = record {
  came = [];
  quiet = tt;
  now = own;
  calls = p.group.calls;
  again = λ v. refl;
  there = h.of_number;
  runs = refl;
  noted = λ later is. nothing_new p call later (none later is);
  alike = alike;
  told = λ told. told;
  stays = λ held in_it. slot_alike p call (sees call) own before held h in_slot in_it alike;
}

unmarked_so : (p : Place) (call : PendingCall) (own : GroupCall) (before : ThreadSlot) → OwnThere p call own
    → slice_get p.kernel.slots p.slot ≡ Some before → call.marked ≡ false → SeesAlike p call own
unmarked_so p call own before h in_slot unmarked =
    let is : sees call ≡ call =
    ap (λ b. if b then record call { seen = true; phase = phase_seen call.phase } else call) unmarked in
    as_before p call own before h in_slot
    (subst (λ (c : PendingCall). CallsAlike p.notes.sessions p.instances (kept_at p) c own) (sym is) h.alike)
    (λ later same. ap (λ b. b && not call.seen) (same ∙ ap (λ (c : PendingCall). c.seen) is) ∙ both_not call.seen)

marked_is : (call : PendingCall) → call.marked ≡ true
    → sees call ≡ record call { seen = true; phase = phase_seen call.phase }
marked_is call marked = ap (λ b. if b then record call { seen = true; phase = phase_seen call.phase } else call) marked

-- it has seen it before
seen_before : (p : Place) (call : PendingCall) (own : GroupCall) (before : ThreadSlot) → OwnThere p call own
    → slice_get p.kernel.slots p.slot ≡ Some before → call.marked ≡ true → call.seen ≡ true → SeesAlike p call own
seen_before p call own before h in_slot marked seen =
    let own_seen : own.seen ≡ true = sym h.alike.seen ∙ seen in
    let same : phase_seen call.phase ≡ call.phase =
    flagged_too (kept_at p) call.steps own.steps call.phase own.phase h.alike.phases (h.alike.flagged own_seen) in
    let now : PendingCall = record call { seen = true; phase = phase_seen call.phase } in
    let alike : CallsAlike p.notes.sessions p.instances (kept_at p) now own = record {
      homes = h.alike.homes;
      kinds = h.alike.kinds;
      seen = sym own_seen;
      areas = h.alike.areas;
      buffers = h.alike.buffers;
      phases = subst (λ (f : CallPhase). PhasesAlike (kept_at p) call.steps own.steps f own.phase) (sym same)
          h.alike.phases;
      flagged = h.alike.flagged;
    } in
    as_before p call own before h in_slot
    (subst (λ (c : PendingCall). CallsAlike p.notes.sessions p.instances (kept_at p) c own)
    (sym (marked_is call marked)) alike)
    (λ later is. ap (λ b. later.seen && not b) seen ∙ and_not later.seen)

seen_noted_so : (p : Place) (call later : PendingCall) → call.seen ≡ false → later.seen ≡ true
    → seen_noted p.notes p.number call later
    ≡ record p.notes { log = p.notes.log ++ silently (Seen p.number call.steps ∷ []) }
seen_noted_so p call later unseen is =
    ap (λ b. if b && not call.seen then with_event p.notes (Seen p.number call.steps) else p.notes) is
    ∙ ap (λ b. if true && not b then with_event p.notes (Seen p.number call.steps) else p.notes) unseen

-- it sees it now
seen_now : (p : Place) (call : PendingCall) (own : GroupCall) (before : ThreadSlot) → OwnThere p call own
    → slice_get p.kernel.slots p.slot ≡ Some before → call.marked ≡ true → call.seen ≡ false → SeesAlike p call own
seen_now p call own before h in_slot marked unseen =
    let up = caught_up (kept_at p) call.steps own.steps call.phase own.phase h.alike.phases in
    let now : GroupCall = record own { seen = true; steps = call.steps; phase = phase_seen up.up } in
    let seen : PendingCall = record call { seen = true; phase = phase_seen call.phase } in
    let alike : CallsAlike p.notes.sessions p.instances (kept_at p) seen now = record {
      homes = h.alike.homes;
      kinds = h.alike.kinds;
      seen = refl;
      areas = h.alike.areas;
      buffers = h.alike.buffers;
      phases = up.alike;
      flagged = λ _. seen_twice up.up;
    } in
    let alike_now : CallsAlike p.notes.sessions p.instances (kept_at p) (sees call) now =
    subst (λ (c : PendingCall). CallsAlike p.notes.sessions p.instances (kept_at p) c now)
    (sym (marked_is call marked)) alike in
    let sees_in : CallPhase → Group =
    λ (f : CallPhase).
    with_call p.group p.number (record own { seen = true; steps = call.steps; phase = phase_seen f }) in
    record {
      came = Seen p.number call.steps ∷ [];
      quiet = tt;
      now = now;
      calls = insert p.group.calls p.number now;
      again = λ v. insert-again p.group.calls p.number now v;
      there = get-insert-same p.group.calls p.number now;
      runs = (
        record p.group { calls = insert p.group.calls p.number now },
        ap (λ (o : Option GroupCall). option_map silent
            (option_and_then (machine.sees p.group p.number call.steps) o)) h.of_number
            ∙ ap (λ (o : Option CallPhase). option_map silent (option_map sees_in o)) up.is_at,
        refl,
      );
      noted = λ later is.
          seen_noted_so p call later unseen (is ∙ ap (λ (c : PendingCall). c.seen) (marked_is call marked));
      alike = alike_now;
      told = up.told;
      stays = λ held in_it.
          call_changes p.about.members (names_at p) p.kernel.slots p.kernel.tables p.group p.slot p.number
          p.notes.numbering.wakes held (sees call) now in_it
          (record {
            has = h.has;
            before = before;
            there = in_slot;
            others = λ at apart. refl;
            alike = alike_now;
          })
          (λ woken is. up.told (kept_told p call own h woken is)) h.tied;
    }

by_seen : (p : Place) (call : PendingCall) (own : GroupCall) (before : ThreadSlot) (seen : Bool) → OwnThere p call own
    → slice_get p.kernel.slots p.slot ≡ Some before → call.marked ≡ true → call.seen ≡ seen → SeesAlike p call own
by_seen p call own before true h in_slot marked is = seen_before p call own before h in_slot marked is
by_seen p call own before false h in_slot marked is = seen_now p call own before h in_slot marked is

by_mark : (p : Place) (call : PendingCall) (own : GroupCall) (before : ThreadSlot) (marked : Bool) → OwnThere p call own
    → slice_get p.kernel.slots p.slot ≡ Some before → call.marked ≡ marked → SeesAlike p call own
by_mark p call own before true h in_slot is = by_seen p call own before call.seen h in_slot is refl
by_mark p call own before false h in_slot is = unmarked_so p call own before h in_slot is

pub sees_alike : (p : Place) (call : PendingCall) (own : GroupCall) (before : ThreadSlot) → OwnThere p call own
    → slice_get p.kernel.slots p.slot ≡ Some before → SeesAlike p call own
sees_alike p call own before h in_slot = by_mark p call own before call.marked h in_slot refl

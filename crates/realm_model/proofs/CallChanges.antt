-- What leaves a kernel and the machine of a realm tied where a call of the realm changes, or goes.
use Rattle.std.proofs.Common.{◌≡◌, ℕ, List, [], ◌∷◌, Option, Some, None, refl, ap, subst, sym, ◌∙◌}
use Rattle.std.specs.Prelude.{All, map, slice_get, slice_set}
use Rattle.std.specs.Option.{option_and_then}
use Rattle.std.proofs.lemmas.List.Elements.{All-head, All-tail}
use Rattle.base.specs.NumberMap.{NumberMap, get, remove}
use Rattle.session_table.specs.declared.waiters.Waiter.{Waiter}
use Rattle.realm_model.specs.Tied.{Members}
use Rattle.kernel_model.specs.Exit.{tables_left}
use Rattle.kernel_model.specs.Kernel.{Free, Instance, PendingCall, Tables, ThreadSlot}
use Rattle.kernel_model.proofs.Parts.{set_found, set_other}
use Rattle.own_model.proofs.InOrder.{by_numbers}
use Rattle.own_model.proofs.Maps.{get-remove-other}
use Rattle.own_model.proofs.OwnChanges.{some_number, found_stays}
use Rattle.own_model.specs.Tied.{call_at, call_in}
use Rattle.group_model.specs.Group.{Group, GroupCall, GroupSession, GroupWaiter, with_call}
use Rattle.group_model.specs.Line.{AreNames, HasNumber}
use Rattle.group_model.specs.Tied.{AreOthers, AreTiedSessions, CallsAlike, IsTold}
use Rattle.realm_model.specs.Tied.{AreTiedInstances, AreTiedWaiters}
use Rattle.group_model.specs.Tied.{Names, found_at}
use Rattle.realm_model.specs.Tied.{Tied, waiting_of}
use Rattle.group_model.proofs.CallChanges.{ChangesTo, IsIdle, calls_change, calls_without, kept_changes, kept_without}
use Rattle.group_model.proofs.CallChanges.{others_changed, with_numbering, with_wakes, without_slot}

-- ---- others

-- a slot is free then
free_then : {P : Type 0} (slots : List ThreadSlot) (slot : ℕ) (call : PendingCall) (before : ThreadSlot)
    → slice_get slots slot ≡ Some before → call_at (slice_set slots slot Free) slot ≡ Some call → P
free_then slots slot call before there found =
    let no : None ≡ Some call =
    sym (ap (λ (o : Option ThreadSlot). option_and_then call_in o) (set_found slots slot Free before there))
    ∙ found in absurd cc

others_without : (sessions instances numbers : NumberMap ℕ) (slots : List ThreadSlot) (slot : ℕ) (before : ThreadSlot)
    → slice_get slots slot ≡ Some before → AreOthers sessions instances numbers slots
    → AreOthers sessions instances (remove numbers slot) (slice_set slots slot Free)
others_without sessions instances numbers slots slot before there others = λ at call found none.
    by_numbers slot at
    (λ same. free_then slots slot call before there
    (ap (λ n. call_at (slice_set slots slot Free) n) same ∙ found))
    (λ apart. others at call
    (sym (ap (λ (o : Option ThreadSlot). option_and_then call_in o) (set_other slots slot at Free apart)) ∙ found)
    (sym (get-remove-other numbers slot at apart) ∙ none))

-- ---- a call changes

pub call_changes : (members : Members) (names : Names) (slots : List ThreadSlot) (tables : Tables) (g : Group)
    (slot number : ℕ) (wakes : NumberMap ℕ) (held : ThreadSlot) (now : PendingCall) (own : GroupCall)
    → call_in held ≡ Some now
    → ChangesTo (CallsAlike names.sessions names.instances) names.numbering slots slot number wakes now own
    → ((woken : ℕ) → get wakes slot ≡ Some woken → IsTold own) → Tied members names slots tables g
    → Tied members (with_numbering names (with_wakes names.numbering wakes)) (slice_set slots slot held) tables
    (with_call g number own)
call_changes members names slots tables g slot number wakes held now own in_it c told tied = record {
  sessions = tied.sessions;
  named = tied.named;
  instances = tied.instances;
  calls = calls_change GroupCall (CallsAlike names.sessions names.instances) names.numbering slots g.calls slot number
      wakes held now own in_it c tied.calls;
  waiters = tied.waiters;
  kept = kept_changes GroupCall (CallsAlike names.sessions names.instances) IsTold names.numbering slots g.calls slot
      number wakes now own c told tied.calls tied.kept;
  others = others_changed names.sessions names.instances names.numbering.in_slots slots slot number held c.has tied.others;
  entered = tied.entered;
  next_session = tied.next_session;
  session_names = tied.session_names;
  instance_names = tied.instance_names;
  key = tied.key;
}

-- ---- a call goes

order_stays : (numbers : NumberMap ℕ) (slot number : ℕ) (waiters : List Waiter) (waiting : List GroupWaiter)
    → get numbers slot ≡ Some number → All (λ (waiter : GroupWaiter). waiter.call ≡ number → ⊥) waiting
    → map (λ (waiter : Waiter). get numbers waiter.slot) waiters ≡ map (λ (own : GroupWaiter). Some own.call) waiting
    → map (λ (waiter : Waiter). get (remove numbers slot) waiter.slot) waiters
    ≡ map (λ (own : GroupWaiter). Some own.call) waiting
order_stays numbers slot number [] [] has unlined order = refl
order_stays numbers slot number [] (own ∷ waiting) has unlined order = absurd cc
order_stays numbers slot number (waiter ∷ waiters) [] has unlined order = absurd cc
order_stays numbers slot number (waiter ∷ waiters) (own ∷ waiting) has unlined order =
    let here : get numbers waiter.slot ≡ Some own.call = cc in
    let behind : map (λ (w : Waiter). get numbers w.slot) waiters ≡ map (λ (o : GroupWaiter). Some o.call) waiting = cc in
    let apart : slot ≡ waiter.slot → ⊥ = λ same.
    All-head (λ (w : GroupWaiter). w.call ≡ number → ⊥) own waiting unlined
    (some_number own.call number (sym here ∙ ap (λ n. get numbers n) (sym same) ∙ has)) in
    ap (λ o. o ∷ map (λ (w : Waiter). get (remove numbers slot) w.slot) waiters)
    (get-remove-other numbers slot waiter.slot apart ∙ here)
    ∙ ap (λ os. Some own.call ∷ os) (order_stays numbers slot number waiters waiting has
    (All-tail (λ (w : GroupWaiter). w.call ≡ number → ⊥) own waiting unlined) behind)

pub call_goes : (members : Members) (names : Names) (slots : List ThreadSlot) (tables : Tables) (g : Group)
    (slot number : ℕ) (before : ThreadSlot) → HasNumber names.numbering slot number → slice_get slots slot ≡ Some before
    → IsIdle names slot number tables g.waiting → Tied members names slots tables g
    → Tied members (with_numbering names (without_slot names.numbering slot)) (slice_set slots slot Free)
    (tables_left tables slot Free) (record g { calls = remove g.calls number })
call_goes members names slots tables g slot number before has there idle tied = record {
  sessions = tied.sessions;
  named = tied.named;
  instances = record {
    alike = λ at own named.
        found_stays names.numbering.in_slots slot (get tables.instances at) (found_at g.instance own)
        (λ kept found held. idle.holder at own kept named found held) (tied.instances.alike at own named);
    all = tied.instances.all;
    of_app = tied.instances.of_app;
  };
  calls = calls_without GroupCall (CallsAlike names.sessions names.instances) names.numbering slots g.calls slot number
      has tied.calls;
  waiters = record {
    calls = order_stays names.numbering.in_slots slot number (waiting_of names.instances tables.waiters) g.waiting has idle.unlined
        tied.waiters.calls;
    instances_of = tied.waiters.instances_of;
    of_app = tied.waiters.of_app;
  };
  kept = kept_without GroupCall (CallsAlike names.sessions names.instances) IsTold names.numbering slots g.calls slot
      number has tied.calls tied.kept;
  others = others_without names.sessions names.instances names.numbering.in_slots slots slot before there tied.others;
  entered = tied.entered;
  next_session = tied.next_session;
  session_names = tied.session_names;
  instance_names = tied.instance_names;
  key = tied.key;
}

-- ---- the tables change

-- other tables with as many numbers given, and the machine with what they have
pub tables_change : (members : Members) (names : Names) (slots : List ThreadSlot) (before tables : Tables) (g : Group)
    (sessions : NumberMap GroupSession) (instance : Option (ℕ × Instance)) (waiting : List GroupWaiter)
    → Tied members names slots before g
    → AreTiedSessions names.sessions names.instances tables.sessions sessions
    → AreTiedInstances members names.instances names.numbering.in_slots tables.instances instance
    → AreTiedWaiters members names.instances names.numbering.in_slots tables.waiters waiting
    → tables.next_session ≡ before.next_session → tables.next_instance ≡ before.next_instance
    → Tied members names slots tables (record g { sessions = sessions; instance = instance; waiting = waiting })
tables_change members names slots before tables g sessions instance waiting tied on_sessions on_instances on_waiters
    as_many as_many_instances = record {
      sessions = on_sessions;
      named = tied.named;
      instances = on_instances;
      calls = tied.calls;
      waiters = on_waiters;
      kept = tied.kept;
      others = tied.others;
      entered = tied.entered;
      next_session = tied.next_session;
      session_names = subst (λ n. AreNames names.sessions n names.next_session) (sym as_many) tied.session_names;
      instance_names = subst (λ n. AreNames names.instances n g.next_instance) (sym as_many_instances) tied.instance_names;
      key = tied.key;
    }

-- A call of the realm comes in and waits for its instance, in the kernel and in the machine: they are tied then too.
use Rattle.std.proofs.Common.{◌≡◌, ℕ, ◌+◌, List, [], ◌∷◌, ◌++◌, Option, Some, None, refl, ap, subst, sym, ◌∙◌}
use Rattle.std.specs.Prelude.{IsSome, cond, is_some, map, slice_get}
use Rattle.std.specs.Option.{option_and_then}
use Rattle.std.proofs.lemmas.List.{map-append}
use Rattle.std.proofs.lemmas.List.Elements.{All-append, All-cons, All-nil, filter-append}
use Rattle.base.specs.NumberMap.{NumberMap, get, insert}
use Rattle.session_table.specs.declared.waiters.Waiter.{Waiter}
use Rattle.shm_registry.specs.Registered.{Registered}
use Rattle.ta_params.specs.declared.copied_params.CopiedParams.{CopiedParams}
use Rattle.kernel_model.specs.Application.{uuid_of}
use Rattle.kernel_model.specs.Kernel.{Active, Free, Instance, PendingCall, Tables, ThreadSlot, Waits}
use Rattle.kernel_model.proofs.Parts.{set_other}
use Rattle.own_model.proofs.Maps.{get-insert-other, get-insert-same}
use Rattle.own_model.proofs.OwnTaken.{instance_stays, numbered_apart}
use Rattle.own_model.specs.Own.{Numbering, next_in}
use Rattle.own_model.specs.Tied.{Whose, call_in}
use Rattle.group_model.specs.Group.{About, Group, GroupCall, GroupWaiter, fresh_call, waits}
use Rattle.group_model.specs.Line.{AreKept, AreTiedCalls}
use Rattle.group_model.specs.Tied.{AreOthers, CallsAlike, IsTold, Names}
use Rattle.realm_model.specs.Tied.{AreTiedInstances, AreTiedWaiters, IsOfRealm, Tied}
use Rattle.group_model.specs.Tied.{found_at}
use Rattle.realm_model.specs.Tied.{Members, waiting_of}
use Rattle.group_model.proofs.Lines.{calls_taken, kept_taken, slots_with}
use Rattle.group_model.proofs.Waits.{same_marked, tables_waiting, with_next}

-- ---- those that wait

order_stays : (numbers : NumberMap ℕ) (slot entered : ℕ) (waiters : List Waiter) (waiting : List GroupWaiter)
    → get numbers slot ≡ None
    → map (λ (waiter : Waiter). get numbers waiter.slot) waiters ≡ map (λ (own : GroupWaiter). Some own.call) waiting
    → map (λ (waiter : Waiter). get (insert numbers slot entered) waiter.slot) waiters
    ≡ map (λ (own : GroupWaiter). Some own.call) waiting
order_stays numbers slot entered [] [] none order = refl
order_stays numbers slot entered [] (own ∷ waiting) none order = absurd cc
order_stays numbers slot entered (waiter ∷ waiters) [] none order = absurd cc
order_stays numbers slot entered (waiter ∷ waiters) (own ∷ waiting) none order =
    let here : get numbers waiter.slot ≡ Some own.call = cc in
    let behind : map (λ (w : Waiter). get numbers w.slot) waiters ≡ map (λ (o : GroupWaiter). Some o.call) waiting = cc in
    let first = get-insert-other numbers slot entered waiter.slot
    (numbered_apart numbers slot waiter.slot own.call none here) ∙ here in
    ap (λ o. o ∷ map (λ (w : Waiter). get (insert numbers slot entered) w.slot) waiters) first
    ∙ ap (λ os. Some own.call ∷ os) (order_stays numbers slot entered waiters waiting none behind)

-- a call that doesn't wait
pub waiters_stay : (members : Members) (instances : NumberMap ℕ) (numbering : Numbering) (slot : ℕ)
    (waiters : List Waiter) (waiting : List GroupWaiter) → get numbering.in_slots slot ≡ None
    → AreTiedWaiters members instances numbering.in_slots waiters waiting
    → AreTiedWaiters members instances (next_in numbering slot).in_slots waiters waiting
waiters_stay members instances numbering slot waiters waiting none tied = record {
  calls = order_stays numbering.in_slots slot numbering.entered (waiting_of instances waiters) waiting none tied.calls;
  instances_of = tied.instances_of;
  of_app = tied.of_app;
}

abbrev waiter_of : ℕ → ℕ → GroupWaiter
waiter_of call instance = record { call = call; instance = instance }

-- one that does, behind those that wait already
pub waiters_grow : (members : Members) (instances : NumberMap ℕ) (numbering : Numbering) (waiters : List Waiter)
    (waiting : List GroupWaiter) (last : Waiter) (own : ℕ) → get numbering.in_slots last.slot ≡ None
    → last.uuid ≡ uuid_of members.app → get instances last.instance ≡ Some own
    → AreTiedWaiters members instances numbering.in_slots waiters waiting
    → AreTiedWaiters members instances (next_in numbering last.slot).in_slots (waiters ++ last ∷ [])
    (waiting ++ waiter_of numbering.entered own ∷ [])
waiters_grow members instances numbering waiters waiting last own none uuid on tied =
    let numbers : NumberMap ℕ = (next_in numbering last.slot).in_slots in
    let last_too : waiting_of instances (waiters ++ last ∷ []) ≡ waiting_of instances waiters ++ last ∷ [] =
    filter-append (λ (w : Waiter). is_some (get instances w.instance)) waiters (last ∷ [])
    ∙ ap (λ (o : Option ℕ). waiting_of instances waiters ++ cond (is_some o) (last ∷ []) []) on in
    record {
      calls = ap (λ (ws : List Waiter). map (λ (w : Waiter). get numbers w.slot) ws) last_too
          ∙ map-append (λ (w : Waiter). get numbers w.slot) (waiting_of instances waiters) (last ∷ [])
          ∙ ap (λ os. os ++ get numbers last.slot ∷ [])
          (order_stays numbering.in_slots last.slot numbering.entered (waiting_of instances waiters) waiting none tied.calls)
          ∙ ap (λ o. map (λ (m : GroupWaiter). Some m.call) waiting ++ o ∷ [])
          (get-insert-same numbering.in_slots last.slot numbering.entered)
          ∙ sym (map-append (λ (m : GroupWaiter). Some m.call) waiting (waiter_of numbering.entered own ∷ []));
      instances_of = ap (λ (ws : List Waiter). map (λ (w : Waiter). get instances w.instance) ws) last_too
          ∙ map-append (λ (w : Waiter). get instances w.instance) (waiting_of instances waiters) (last ∷ [])
          ∙ ap (λ os. os ++ get instances last.instance ∷ []) tied.instances_of
          ∙ ap (λ o. map (λ (m : GroupWaiter). Some m.instance) waiting ++ o ∷ []) on
          ∙ sym (map-append (λ (m : GroupWaiter). Some m.instance) waiting (waiter_of numbering.entered own ∷ []));
      of_app = All-append (λ (w : Waiter). IsOfRealm members instances w.instance w.uuid) waiters (last ∷ []) tied.of_app
          (All-cons (λ (w : Waiter). IsOfRealm members instances w.instance w.uuid) last []
          (record { of_app = λ some. uuid; named = λ all is. subst (λ (o : Option ℕ). IsSome o) (sym on) refl })
          (All-nil (λ (w : Waiter). IsOfRealm members instances w.instance w.uuid)));
    }

-- ---- the rest

pub instances_stay : (members : Members) (instances : NumberMap ℕ) (numbering : Numbering) (slot : ℕ)
    (kept : NumberMap Instance) (own : Option (ℕ × Instance)) → get numbering.in_slots slot ≡ None
    → AreTiedInstances members instances numbering.in_slots kept own
    → AreTiedInstances members instances (next_in numbering slot).in_slots kept own
instances_stay members instances numbering slot kept own none tied = record {
  alike = λ number own_number has.
      instance_stays whose slot (get kept number) (found_at own own_number) none (tied.alike number own_number has);
  all = tied.all;
  of_app = tied.of_app;
}
  where
    whose : Whose
    whose = record { session = 0; instance = 0; numbering = numbering; key = [] }

-- the others stay others, where a call that gets a number takes a free slot and cancels none
others_stay : (sessions instances : NumberMap ℕ) (numbering : Numbering) (slots : List ThreadSlot) (slot cpu : ℕ)
    (call : PendingCall) → AreOthers sessions instances numbering.in_slots slots
    → AreOthers sessions instances (next_in numbering slot).in_slots (slots_with slots None slot cpu call)
others_stay sessions instances numbering slots slot cpu call others at now found none =
    others at now
    (sym (ap (λ (o : Option ThreadSlot). option_and_then call_in o) (set_other slots slot at (Active cpu call) apart))
    ∙ found)
    (sym (get-insert-other numbering.in_slots slot numbering.entered at apart) ∙ none)
  where
    apart : slot ≡ at → ⊥
    apart same =
        let no : Some numbering.entered ≡ None =
        sym (get-insert-same numbering.in_slots slot numbering.entered)
        ∙ ap (λ n. get (insert numbering.in_slots slot numbering.entered) n) same ∙ none in absurd cc

-- ---- all of it

pub call_waits : (members : Members) (names : Names) (slots : List ThreadSlot) (tables : Tables) (g : Group) (cpu : ℕ)
    (call : PendingCall) (about : About) (params : CopiedParams) (last : Waiter) (registered : Registered)
    → slice_get slots last.slot ≡ Some Free → get names.numbering.in_slots last.slot ≡ None
    → ((kept : Option ℕ) → CallsAlike names.sessions names.instances kept call (fresh_call about (Waits params)))
    → get names.instances last.instance ≡ Some about.instance → last.uuid ≡ uuid_of members.app
    → Tied members names slots tables g
    → Tied members (with_next names last.slot) (slots_with slots None last.slot cpu call)
    (tables_waiting tables registered last) (waits g about params)
call_waits members names slots tables g cpu call about params last registered free none alike on uuid tied =
    let own : GroupCall = fresh_call about (Waits params) in
    record {
      sessions = tied.sessions;
      named = tied.named;
      instances = instances_stay members names.instances names.numbering last.slot tables.instances g.instance none
          tied.instances;
      calls = subst (λ (n : ℕ). AreTiedCalls (CallsAlike names.sessions names.instances)
          (next_in names.numbering last.slot) (slots_with slots None last.slot cpu call) (insert g.calls n own))
          tied.entered
          (calls_taken GroupCall (CallsAlike names.sessions names.instances) names.numbering slots None last.slot cpu
          g.calls call own (same_marked names.sessions names.instances)
          (record { free = free; none = none; alike = alike }) tied.calls);
      waiters = subst (λ (n : ℕ). AreTiedWaiters members names.instances (next_in names.numbering last.slot).in_slots
          (tables.waiters ++ last ∷ []) (g.waiting ++ waiter_of n about.instance ∷ [])) tied.entered
          (waiters_grow members names.instances names.numbering tables.waiters g.waiting last about.instance none uuid on
          tied.waiters);
      kept = subst (λ (n : ℕ). AreKept IsTold (next_in names.numbering last.slot) (insert g.calls n own)) tied.entered
          (kept_taken GroupCall (CallsAlike names.sessions names.instances) IsTold names.numbering slots last.slot
          g.calls own none tied.calls tied.kept);
      others = others_stay names.sessions names.instances names.numbering slots last.slot cpu call tied.others;
      entered = ap (λ (n : ℕ). n + 1) tied.entered;
      next_session = tied.next_session;
      session_names = tied.session_names;
      instance_names = tied.instance_names;
      key = tied.key;
    }

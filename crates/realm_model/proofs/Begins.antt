-- What a call that comes in changes on both sides, step by step: it takes a free slot, it gets an instance, and an instance
-- gets the next number. Each step leaves them tied.
use Rattle.std.proofs.Common.{◌≡◌, ℕ, ◌+◌, ◌<◌, List, [], ◌∷◌, Option, Some, None, refl, ap, subst, sym, ◌∙◌}
use Rattle.std.specs.Prelude.{All, IsSome, ◌==◌, cond, is_some, map, slice_get, slice_set}
use Rattle.std.specs.Option.{option_and_then, option_map_or}
use Rattle.std.proofs.lemmas.List.Elements.{All-head, All-tail}
use Rattle.base.specs.NumberMap.{NumberMap, IsRising, get, insert}
use Rattle.base.proofs.MapLemmas.{All-get, All-insert, none_above}
use Rattle.job_model.specs.declared.call_kind.CallKind.{CallKind}
use Rattle.job_model.specs.declared.call_kind.CallKind.TheVariants as kind
use Rattle.session_table.specs.declared.session.Session.{Session}
use Rattle.session_table.specs.declared.waiters.Waiter.{Waiter}
use Rattle.kernel_model.specs.Application.{uuid_of}
use Rattle.kernel_model.specs.Begin.{with_instance}
use Rattle.kernel_model.specs.Kernel.{Active, Cancel, Free, Instance, PendingCall, Tables, ThreadSlot, cancelled_slots}
use Rattle.kernel_model.proofs.Parts.{set_other}
use Rattle.kernel_model.proofs.SoundRising.{all_got}
use Rattle.own_model.proofs.BelowNumbers.{AreBelow, IsBelow}
use Rattle.own_model.proofs.Maps.{get-insert-other, get-insert-same, get-inserted}
use Rattle.own_model.proofs.OtherCalls.{less}
use Rattle.own_model.specs.Own.{Numbering, next_in}
use Rattle.own_model.specs.Tied.{FoundAlike, InstancesAlike, call_in}
use Rattle.group_model.specs.Group.{Group, GroupCall, GroupSession, GroupWaiter, comes_in}
use Rattle.group_model.specs.Group as machine
use Rattle.group_model.specs.Line.{AreKept, AreNames, AreTiedCalls}
use Rattle.group_model.specs.Tied.{AreOthers, AreTiedSessions, CallsAlike, HomesAlike}
use Rattle.group_model.specs.Tied.{IsTold, Names, SessionsFoundAlike, found_at}
use Rattle.realm_model.specs.Tied.{IsOfRealm, Members, Tied}
use Rattle.realm_model.specs.Tied.{waiting_of}
use Rattle.group_model.proofs.Alike.{either}
use Rattle.group_model.proofs.GrownNames.{name_stays, names_grow}
use Rattle.group_model.proofs.Lines.{calls_taken, calls_weaker, kept_taken, slots_with}
use Rattle.group_model.proofs.Waits.{same_marked, with_next}
use Rattle.realm_model.proofs.Waits.{instances_stay, waiters_stay}
use Rattle.group_model.proofs.Begins.{HasNoOther, all_both, found_other, found_same, next_given, one_there, others_marked}
use Rattle.group_model.proofs.Begins.{own_next_given, with_next_instance}

-- ---- a call takes a free slot

-- so does a call that takes a slot and a number
others_taken : (sessions instances : NumberMap ℕ) (numbering : Numbering) (slots : List ThreadSlot) (slot : ℕ)
    (held : ThreadSlot) → AreOthers sessions instances numbering.in_slots slots
    → AreOthers sessions instances (next_in numbering slot).in_slots (slice_set slots slot held)
others_taken sessions instances numbering slots slot held others at now found none =
    others at now
    (sym (ap (λ (o : Option ThreadSlot). option_and_then call_in o) (set_other slots slot at held apart)) ∙ found)
    (sym (get-insert-other numbering.in_slots slot numbering.entered at apart) ∙ none)
  where
    apart : slot ≡ at → ⊥
    apart same =
        let no : Some numbering.entered ≡ None =
        sym (get-insert-same numbering.in_slots slot numbering.entered)
        ∙ ap (λ n. get (insert numbering.in_slots slot numbering.entered) n) same ∙ none in absurd cc

pub call_comes : (members : Members) (names : Names) (slots : List ThreadSlot) (tables : Tables) (g : Group)
    (cancels : Option Cancel) (slot cpu : ℕ) (call : PendingCall) (own : GroupCall) → slice_get slots slot ≡ Some Free
    → get names.numbering.in_slots slot ≡ None
    → ((kept : Option ℕ) → CallsAlike names.sessions names.instances kept call own) → Tied members names slots tables g
    → Tied members (with_next names slot) (slots_with slots cancels slot cpu call) tables (comes_in g own)
call_comes members names slots tables g cancels slot cpu call own free none alike tied = record {
  sessions = tied.sessions;
  named = tied.named;
  instances = instances_stay members names.instances names.numbering slot tables.instances g.instance none tied.instances;
  calls = subst (λ (n : ℕ). AreTiedCalls (CallsAlike names.sessions names.instances) (next_in names.numbering slot)
      (slots_with slots cancels slot cpu call) (insert g.calls n own)) tied.entered
      (calls_taken GroupCall (CallsAlike names.sessions names.instances) names.numbering slots cancels slot cpu g.calls
      call own (same_marked names.sessions names.instances)
      (record { free = free; none = none; alike = alike }) tied.calls);
  waiters = waiters_stay members names.instances names.numbering slot tables.waiters g.waiting none tied.waiters;
  kept = subst (λ (n : ℕ). AreKept IsTold (next_in names.numbering slot) (insert g.calls n own)) tied.entered
      (kept_taken GroupCall (CallsAlike names.sessions names.instances) IsTold names.numbering slots slot g.calls own none
      tied.calls tied.kept);
  others = others_taken names.sessions names.instances names.numbering (cancelled_slots slots cancels) slot
      (Active cpu call)
      (others_marked names.sessions names.instances names.numbering.in_slots slots cancels tied.others);
  entered = ap (λ (n : ℕ). n + 1) tied.entered;
  next_session = tied.next_session;
  session_names = tied.session_names;
  instance_names = tied.instance_names;
  key = tied.key;
}

-- ---- an instance changes, or comes

found_alike : (in_slots : NumberMap ℕ) (a b : Option Instance) (c d : Option Instance) → a ≡ b → c ≡ d
    → FoundAlike in_slots b d → FoundAlike in_slots a c
found_alike in_slots a b c d first second alike =
    subst (λ (o : Option Instance). FoundAlike in_slots o c) (sym first)
    (subst (λ (o : Option Instance). FoundAlike in_slots b o) (sym second) alike)

same_some : (a b : ℕ) → Some a ≡ Some b → a ≡ b
same_some a b e = cc

of_one : (members : Members) (names : NumberMap ℕ) (number own : ℕ) (uuid : List ℕ) → get names number ≡ Some own
    → uuid ≡ uuid_of members.app → IsOfRealm members names number uuid
of_one members names number own uuid has is =
    record { of_app = λ some. is; named = λ all of. subst (λ (o : Option ℕ). IsSome o) (sym has) refl }

-- a named instance is this from now on, on both sides
pub instance_changes : (members : Members) (names : Names) (slots : List ThreadSlot) (tables : Tables) (g : Group)
    (number own_number : ℕ) (kept own : Instance) → get names.instances number ≡ Some own_number
    → kept.uuid ≡ uuid_of members.app → InstancesAlike names.numbering.in_slots kept own → HasNoOther g own_number
    → Tied members names slots tables g
    → Tied members names slots (with_instance tables number kept) (machine.with_instance g own_number own)
instance_changes members names slots tables g number own_number kept own has uuid alike none tied = record {
  sessions = tied.sessions;
  named = tied.named;
  instances = record {
    alike = λ at own_at named.
        either at number
        (λ same.
        let is : own_at ≡ own_number =
        same_some own_at own_number (sym named ∙ ap (λ (n : ℕ). get names.instances n) same ∙ has) in
        found_alike names.numbering.in_slots (get (insert tables.instances number kept) at) (Some kept)
        (found_at (one_there own_number own) own_at) (Some own)
        (ap (λ (n : ℕ). get (insert tables.instances number kept) n) same
        ∙ get-insert-same tables.instances number kept)
        (ap (λ (n : ℕ). found_at (one_there own_number own) n) is ∙ found_same own_number own) alike)
        (λ other.
        let apart : own_at ≡ own_number → ⊥ =
        (λ same. other (tied.instance_names.apart at number own_number
        (named ∙ ap (λ (n : ℕ). Some n) same) has)) in
        found_alike names.numbering.in_slots (get (insert tables.instances number kept) at) (get tables.instances at)
        (found_at (one_there own_number own) own_at) (found_at g.instance own_at)
        (get-insert-other tables.instances number kept at (λ same. other (sym same)))
        (found_other own_number own_at own apart ∙ sym (none own_at apart)) (tied.instances.alike at own_at named))
        (at == number) refl;
    all = λ own_at instance is.
        let same : own_number ≡ own_at = first_same own_number own_at own instance is in
        (number, has ∙ ap (λ (n : ℕ). Some n) same);
    of_app = All-insert (λ (one : ℕ × Instance). IsOfRealm members names.instances one.0 one.1.uuid) tables.instances number
        kept tied.instances.of_app (of_one members names.instances number own_number kept.uuid has uuid);
  };
  calls = tied.calls;
  waiters = tied.waiters;
  kept = tied.kept;
  others = tied.others;
  entered = tied.entered;
  next_session = tied.next_session;
  session_names = tied.session_names;
  instance_names = tied.instance_names;
  key = tied.key;
}
  where
    first_same : (a b : ℕ) (x y : Instance) → one_there a x ≡ one_there b y → a ≡ b
    first_same a b x y e = ap (λ (o : Option (ℕ × Instance)). option_map_or (λ (t : ℕ × Instance). t.0) o a) e

-- ---- an instance gets the next number

-- what isn't the next is as it was
of_group_still : (members : Members) (names : NumberMap ℕ) (next own_next number : ℕ) (uuid : List ℕ)
    → (next ≡ number → ⊥) → IsOfRealm members names number uuid → IsOfRealm members (insert names next own_next) number uuid
of_group_still members names next own_next number uuid apart of =
    let same : get (insert names next own_next) number ≡ get names number = get-insert-other names next own_next number apart in
    record {
      of_app = λ some. of.of_app (subst (λ (o : Option ℕ). IsSome o) same some);
      named = λ all is. subst (λ (o : Option ℕ). IsSome o) (sym same) (of.named all is);
    }

-- those that wait for an instance with a name are the same, since none waits for the next one yet
waiting_still : (names : NumberMap ℕ) (next own_next : ℕ) (waiters : List Waiter)
    → All (λ (w : Waiter). w.instance < next) waiters
    → waiting_of (insert names next own_next) waiters ≡ waiting_of names waiters
waiting_still names next own_next [] below = refl
waiting_still names next own_next (waiter ∷ waiters) below =
    ap (λ (o : Option ℕ). cond (is_some o) (waiter ∷ waiting_of (insert names next own_next) waiters)
    (waiting_of (insert names next own_next) waiters))
    (get-insert-other names next own_next waiter.instance
    (less waiter.instance next (All-head (λ (w : Waiter). w.instance < next) waiter waiters below)))
    ∙ ap (λ (ws : List Waiter). cond (is_some (get names waiter.instance)) (waiter ∷ ws) ws)
    (waiting_still names next own_next waiters
    (All-tail (λ (w : Waiter). w.instance < next) waiter waiters below))

instances_named : (names : NumberMap ℕ) (next own_next : ℕ) (waiters : List Waiter) (waiting : List GroupWaiter)
    → AreNames names next own_next
    → map (λ (waiter : Waiter). get names waiter.instance) waiters ≡ map (λ (own : GroupWaiter). Some own.instance) waiting
    → map (λ (waiter : Waiter). get (insert names next own_next) waiter.instance) waiters
    ≡ map (λ (own : GroupWaiter). Some own.instance) waiting
instances_named names next own_next [] [] n same = refl
instances_named names next own_next [] (own ∷ waiting) n same = absurd cc
instances_named names next own_next (waiter ∷ waiters) [] n same = absurd cc
instances_named names next own_next (waiter ∷ waiters) (own ∷ waiting) n same =
    let here : get names waiter.instance ≡ Some own.instance = cc in
    let behind : map (λ (w : Waiter). get names w.instance) waiters
    ≡ map (λ (o : GroupWaiter). Some o.instance) waiting = cc in
    ap (λ o. o ∷ map (λ (w : Waiter). get (insert names next own_next) w.instance) waiters)
    (name_stays names next own_next waiter.instance own.instance n here)
    ∙ ap (λ os. Some own.instance ∷ os) (instances_named names next own_next waiters waiting n behind)

homes_still : (sessions names : NumberMap ℕ) (next own_next : ℕ) (call : PendingCall) (own : GroupCall)
    (call_kind : CallKind) → AreNames names next own_next → HomesAlike sessions names call own call_kind
    → HomesAlike sessions (insert names next own_next) call own call_kind
homes_still sessions names next own_next call own kind.Open n homes =
    (homes.0, name_stays names next own_next call.instance own.instance n homes.1)
homes_still sessions names next own_next call own (kind.Invoke func) n homes =
    (homes.0, name_stays names next own_next call.instance own.instance n homes.1)
homes_still sessions names next own_next call own kind.Close n homes =
    (homes.0, name_stays names next own_next call.instance own.instance n homes.1)
homes_still sessions names next own_next call own kind.Settled n homes = tt

calls_still : (sessions names : NumberMap ℕ) (next own_next : ℕ) (kept : Option ℕ) (call : PendingCall) (own : GroupCall)
    → AreNames names next own_next → CallsAlike sessions names kept call own
    → CallsAlike sessions (insert names next own_next) kept call own
calls_still sessions names next own_next kept call own n alike = record {
  homes = homes_still sessions names next own_next call own call.kind n alike.homes;
  kinds = alike.kinds;
  seen = alike.seen;
  areas = alike.areas;
  buffers = alike.buffers;
  phases = alike.phases;
  flagged = alike.flagged;
}

sessions_still : (names instances : NumberMap ℕ) (next own_next : ℕ) (kept : NumberMap Session)
    (own : NumberMap GroupSession) → AreNames instances next own_next
    → ((number : ℕ) (session : Session) → get kept number ≡ Some session → session.instance < next)
    → AreTiedSessions names instances kept own → AreTiedSessions names (insert instances next own_next) kept own
sessions_still names instances next own_next kept own n below tied = record {
  alike = λ number own_number has.
      found (get kept number) (get own own_number) (tied.alike number own_number has);
  all = tied.all;
  others = λ number session there none.
      get-insert-other instances next own_next session.instance (less session.instance next (below number session there))
      ∙ tied.others number session there none;
  rising = tied.rising;
}
  where
    found : (a : Option Session) (b : Option GroupSession) → SessionsFoundAlike instances a b
        → SessionsFoundAlike (insert instances next own_next) a b
    found None None alike = tt
    found (Some session) (Some own_session) alike = record {
      login = alike.login;
      context = alike.context;
      opened = alike.opened;
      instance = name_stays instances next own_next session.instance own_session.instance n alike.instance;
    }
    found None (Some own_session) alike = absurd alike
    found (Some session) None alike = absurd alike

pub instance_named : (members : Members) (names : Names) (slots : List ThreadSlot) (tables : Tables) (g : Group)
    → 0 < tables.next_instance → AreBelow slots tables → IsRising tables.instances → g.instance ≡ None
    → Tied members names slots tables g
    → Tied members (with_next_instance names tables.next_instance g.next_instance) slots (next_given tables) (own_next_given g)
instance_named members names slots tables g some below rising nobody_there tied = record {
  named = tied.named;
  sessions = sessions_still names.sessions names.instances tables.next_instance g.next_instance tables.sessions g.sessions
      tied.instance_names
      (λ number session there.
      (All-get (λ (one : ℕ × Session). IsBelow tables one.0 one.1.instance) tables.sessions number session below.sessions
      there).1) tied.sessions;
  instances = record {
    alike = λ at own_at has.
        get-inserted names.instances tables.next_instance g.next_instance at own_at has
        (λ same is.
        found_alike names.numbering.in_slots (get tables.instances at) None (found_at g.instance own_at) None
        (ap (λ (n : ℕ). get tables.instances n) same
        ∙ none_above tables.instances tables.next_instance below.instances)
        (ap (λ (o : Option (ℕ × Instance)). found_at o own_at) nobody_there) tt)
        (λ was. tied.instances.alike at own_at was);
    all = λ own_at instance is. absurd (no_instance own_at instance (sym nobody_there ∙ is));
    of_app = all_got (λ (one : ℕ × Instance). IsOfRealm members (insert names.instances tables.next_instance g.next_instance)
        one.0 one.1.uuid) tables.instances rising
        (λ at instance there.
        of_group_still members names.instances tables.next_instance g.next_instance at instance.uuid
        (less at tables.next_instance (All-get (λ (one : ℕ × Instance). one.0 < tables.next_instance) tables.instances at
        instance below.instances there))
        (All-get (λ (one : ℕ × Instance). IsOfRealm members names.instances one.0 one.1.uuid) tables.instances at instance
        tied.instances.of_app there));
  };
  calls = calls_weaker GroupCall (CallsAlike names.sessions names.instances)
      (CallsAlike names.sessions (insert names.instances tables.next_instance g.next_instance)) names.numbering slots
      g.calls
      (λ kept call own alike. calls_still names.sessions names.instances tables.next_instance g.next_instance kept call
      own tied.instance_names alike) tied.calls;
  waiters = record {
    calls = ap (λ (ws : List Waiter). map (λ (w : Waiter). get names.numbering.in_slots w.slot) ws) still
        ∙ tied.waiters.calls;
    instances_of = ap (λ (ws : List Waiter). map (λ (w : Waiter).
        get (insert names.instances tables.next_instance g.next_instance) w.instance) ws) still
        ∙ instances_named names.instances tables.next_instance g.next_instance
        (waiting_of names.instances tables.waiters) g.waiting tied.instance_names tied.waiters.instances_of;
    of_app = all_both (λ (w : Waiter). IsOfRealm members names.instances w.instance w.uuid)
        (λ (w : Waiter). w.instance < tables.next_instance)
        (λ (w : Waiter). IsOfRealm members (insert names.instances tables.next_instance g.next_instance) w.instance w.uuid)
        (λ w of lt.
        of_group_still members names.instances tables.next_instance g.next_instance w.instance w.uuid
        (less w.instance tables.next_instance lt) of)
        tables.waiters tied.waiters.of_app below.waiters;
  };
  kept = tied.kept;
  others = λ slot call found none.
      let was = tied.others slot call found none in
      record {
        session = was.session;
        instance = get-insert-other names.instances tables.next_instance g.next_instance call.instance
            (less call.instance tables.next_instance (below.calls slot call found).1) ∙ was.instance;
      };
  entered = tied.entered;
  next_session = tied.next_session;
  session_names = tied.session_names;
  instance_names = names_grow names.instances tables.next_instance g.next_instance some tied.instance_names;
  key = tied.key;
}
  where
    still : waiting_of (insert names.instances tables.next_instance g.next_instance) tables.waiters
        ≡ waiting_of names.instances tables.waiters
    still = waiting_still names.instances tables.next_instance g.next_instance tables.waiters below.waiters

    no_instance : (at : ℕ) (instance : Instance) → None ≡ one_there at instance → ⊥
    no_instance at instance e = absurd cc

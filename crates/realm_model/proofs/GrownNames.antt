-- A session of the realm comes in and gets the next numbers, of the kernel and of the machine: they are tied then too.
use Rattle.std.proofs.Common.{◌≡◌, ℕ, ◌+◌, ◌<◌, false, List, Option, Some, None, refl, ap, subst, sym, ◌∙◌}
use Rattle.base.specs.NumberMap.{NumberMap, IsRising-insert, get, insert}
use Rattle.job_model.specs.declared.call_kind.CallKind.{CallKind}
use Rattle.job_model.specs.declared.call_kind.CallKind.TheVariants as kind
use Rattle.session_table.specs.declared.session.Session.{Session}
use Rattle.session_table.specs.Session.{reserved_for}
use Rattle.ta_params.specs.declared.login.Login.{Login}
use Rattle.realm_model.specs.Tied.{Members}
use Rattle.kernel_model.specs.Kernel.{PendingCall, Tables, ThreadSlot}
use Rattle.kernel_model.proofs.SoundMaps.{get-inserted as get-put}
use Rattle.own_model.proofs.Maps.{get-insert-other, get-insert-same, get-inserted}
use Rattle.own_model.proofs.OtherCalls.{less}
use Rattle.own_model.specs.Tied.{call_at}
use Rattle.group_model.specs.Group.{Group, GroupCall, GroupSession, with_session}
use Rattle.group_model.specs.Line.{AreNames}
use Rattle.group_model.specs.Tied.{AreTiedSessions, CallsAlike, HomesAlike, Names, SessionsAlike, SessionsFoundAlike}
use Rattle.realm_model.specs.Tied.{AreMembers, Tied}
use Rattle.group_model.proofs.Lines.{calls_weaker}
use Rattle.group_model.proofs.GrownNames.{name_stays, names_grow, tables_with, with_next_session}

-- ---- sessions

found_alike : (instances : NumberMap ℕ) (a b : Option Session) (c d : Option GroupSession) → a ≡ b → c ≡ d
    → SessionsFoundAlike instances b d → SessionsFoundAlike instances a c
found_alike instances a b c d first second alike =
    subst (λ (o : Option Session). SessionsFoundAlike instances o c) (sym first)
    (subst (λ (o : Option GroupSession). SessionsFoundAlike instances b o) (sym second) alike)

sessions_grow : (names : NumberMap ℕ) (next own_next : ℕ) (instances : NumberMap ℕ) (kept : NumberMap Session)
    (own : NumberMap GroupSession) (session : Session) (own_session : GroupSession) → AreNames names next own_next
    → SessionsAlike instances session own_session → AreTiedSessions names instances kept own
    → AreTiedSessions (insert names next own_next) instances (insert kept next session) (insert own own_next own_session)
sessions_grow names next own_next instances kept own session own_session n new tied = record {
  alike = λ number own_number has.
      get-inserted names next own_next number own_number has
      (λ same is.
      found_alike instances (get (insert kept next session) number) (Some session)
      (get (insert own own_next own_session) own_number) (Some own_session)
      (ap (λ m. get (insert kept next session) m) same ∙ get-insert-same kept next session)
      (ap (λ m. get (insert own own_next own_session) m) (sym is) ∙ get-insert-same own own_next own_session) new)
      (λ was.
      let given = n.given number own_number was in
      found_alike instances (get (insert kept next session) number) (get kept number)
      (get (insert own own_next own_session) own_number) (get own own_number)
      (get-insert-other kept next session number (less number next given.0.1))
      (get-insert-other own own_next own_session own_number (less own_number own_next given.1))
      (tied.alike number own_number was));
  all = λ own_number there found.
      get-inserted own own_next own_session own_number there found
      (λ same is. (next, get-insert-same names next own_next ∙ ap (λ m. Some m) (sym same)))
      (λ was. let at = tied.all own_number there was in (at.0, name_stays names next own_next at.0 own_number n at.1));
  others = λ number there found none.
      get-put kept next session number there found
      (λ same is. absurd (named_next (ap (λ m. get (insert names next own_next) m) same ∙ none)))
      (λ apart was. tied.others number there was (sym (get-insert-other names next own_next number apart) ∙ none));
  rising = IsRising-insert own own_next own_session tied.rising;
}
  where
    named_next : get (insert names next own_next) next ≡ None → ⊥
    named_next none = let no : Some own_next ≡ None = sym (get-insert-same names next own_next) ∙ none in absurd cc

-- ---- all of it

homes_grow : (names : NumberMap ℕ) (next own_next : ℕ) (instances : NumberMap ℕ) (call : PendingCall) (own : GroupCall)
    (call_kind : CallKind) → AreNames names next own_next → HomesAlike names instances call own call_kind
    → HomesAlike (insert names next own_next) instances call own call_kind
homes_grow names next own_next instances call own kind.Open n homes =
    (name_stays names next own_next call.session own.session n homes.0, homes.1)
homes_grow names next own_next instances call own (kind.Invoke func) n homes =
    (name_stays names next own_next call.session own.session n homes.0, homes.1)
homes_grow names next own_next instances call own kind.Close n homes =
    (name_stays names next own_next call.session own.session n homes.0, homes.1)
homes_grow names next own_next instances call own kind.Settled n homes = tt

calls_grow : (names : NumberMap ℕ) (next own_next : ℕ) (instances : NumberMap ℕ) (kept : Option ℕ) (call : PendingCall)
    (own : GroupCall) → AreNames names next own_next → CallsAlike names instances kept call own
    → CallsAlike (insert names next own_next) instances kept call own
calls_grow names next own_next instances kept call own n alike = record {
  homes = homes_grow names next own_next instances call own call.kind n alike.homes;
  kinds = alike.kinds;
  seen = alike.seen;
  areas = alike.areas;
  buffers = alike.buffers;
  phases = alike.phases;
  flagged = alike.flagged;
}

pub session_comes : (members : Members) (names : Names) (slots : List ThreadSlot) (tables : Tables) (g : Group)
    (client : ℕ) (login : Login) (instance own_instance : ℕ) → 0 < tables.next_session
    → ((slot : ℕ) (call : PendingCall) → call_at slots slot ≡ Some call → call.session < tables.next_session)
    → get names.instances instance ≡ Some own_instance
    → AreMembers members.realm (insert names.sessions tables.next_session names.next_session)
    → Tied members names slots tables g
    → Tied members (with_next_session names tables.next_session) slots (tables_with tables client login instance)
    (with_session g login own_instance)
session_comes members names slots tables g client login instance own_instance some below on members_too tied = record {
  named = members_too;
  sessions = subst (λ (m : ℕ). AreTiedSessions (insert names.sessions tables.next_session names.next_session)
      names.instances (tables_with tables client login instance).sessions (insert g.sessions m own_session))
      tied.next_session
      (sessions_grow names.sessions tables.next_session names.next_session names.instances tables.sessions g.sessions
      (reserved_for client login instance) own_session tied.session_names
      (record { login = refl; context = refl; opened = refl; instance = on }) tied.sessions);
  instances = tied.instances;
  calls = calls_weaker GroupCall (CallsAlike names.sessions names.instances)
      (CallsAlike (insert names.sessions tables.next_session names.next_session) names.instances) names.numbering
      slots g.calls
      (λ kept call own alike. calls_grow names.sessions tables.next_session names.next_session names.instances kept
      call own tied.session_names alike) tied.calls;
  waiters = tied.waiters;
  kept = tied.kept;
  others = λ slot call found none.
      let was = tied.others slot call found none in
      record {
        session = get-insert-other names.sessions tables.next_session names.next_session call.session
            (less call.session tables.next_session (below slot call found)) ∙ was.session;
        instance = was.instance;
      };
  entered = tied.entered;
  next_session = ap (λ (m : ℕ). m + 1) tied.next_session;
  session_names = names_grow names.sessions tables.next_session names.next_session some tied.session_names;
  instance_names = tied.instance_names;
  key = tied.key;
}
  where
    own_session : GroupSession
    own_session = record { login = login; context = 0; opened = false; instance = own_instance }

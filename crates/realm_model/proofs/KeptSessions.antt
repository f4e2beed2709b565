-- Each session that the kernel keeps on its instance is a member of a realm, and keeps its number there.
use Rattle.std.proofs.Common.{◌≡◌, ℕ, suc, ◌+◌, ◌*◌, ◌≤◌, Bool, true, false, List, [], ◌∷◌, ◌++◌, length, Option, Some, None, refl}
use Rattle.std.proofs.Common.{ap, subst, sym, ◌∙◌, arith}
use Rattle.std.specs.Prelude.{IsSome, if◌then◌else◌, is_some, slice_get}
use Rattle.std.specs.Option.{option_and_then}
use Rattle.std.proofs.lemmas.Bool.Decides.{Decides-eqb}
use Rattle.std.proofs.lemmas.Option.{option_and_then_some}
use Rattle.base.specs.NumberMap.{get, insert}
use Rattle.base.proofs.MapLemmas.{All-get}
use Rattle.event_journal.specs.declared.event.Event.{Event}
use Rattle.event_journal.specs.declared.event.Event.TheVariants.{Entry}
use Rattle.job_model.specs.declared.call_kind.CallKind.{CallKind}
use Rattle.job_model.specs.declared.call_kind.CallKind.TheVariants as kind
use Rattle.ns_ram.specs.declared.read.Read.{Read}
use Rattle.smc_abi.specs.declared.regs.Regs.{Regs}
use Rattle.kernel_model.specs.Application.{Application, Booted, uuid_of}
use Rattle.kernel_model.specs.Argument.{IsNew}
use Rattle.kernel_model.specs.Decision.{Taken}
use Rattle.kernel_model.specs.History.{IsLegal, after_event, after_events, kernel_after}
use Rattle.kernel_model.specs.Instances.{app_of, is_held, is_single}
use Rattle.kernel_model.specs.Kernel.{Active, InSlot, Inside, Instance, Kernel, PendingCall, first_kernel}
use Rattle.kernel_model.specs.NewCall.{NewCall, new_call_of, open_waits, opens, shared_by}
use Rattle.kernel_model.proofs.Parts.{if-both, map_or-both, some_of}
use Rattle.kernel_model.proofs.Past.{after_events-append}
use Rattle.kernel_model.proofs.SoundMemory.{own_uuid}
use Rattle.session_table.specs.declared.session.Session.{Session}
use Rattle.own_model.proofs.Lookups.{app_named}
use Rattle.own_model.proofs.NewCalls.{OfAllEndings}
use Rattle.own_model.proofs.NewEntries.{new_call_taken}
use Rattle.own_model.proofs.WholeHistories.{IsAt, IsOn, bound_now, from_first, on_from}
use Rattle.own_model.specs.Isolation.{steps_in}
use Rattle.group_model.proofs.GrownNames.{name_stays}
use Rattle.group_model.proofs.InOrder.{stays_in_order}
use Rattle.group_model.specs.Group.{Group, nobody_there}
use Rattle.group_model.specs.InOrder.{IsInOrder}
use Rattle.group_model.specs.Line.{AreNames}
use Rattle.group_model.specs.OneLaw.{IsKept}
use Rattle.group_model.specs.declared.group_event.GroupEvent.{GroupEvent}
use Rattle.realm_model.specs.Histories.{HasRealm, IsRealmOf, KeptSessionsHaveRealms}
use Rattle.realm_model.specs.Laws.{About, AreTied, IsRealm, events_in, replies_in}
use Rattle.realm_model.specs.Reading.{Notes, event_noted, no_notes, noted, noted_from, number_of, sessions_with}
use Rattle.realm_model.specs.Reading.{with_event}
use Rattle.realm_model.specs.Realm.{AllSessions, OneSession, Realm}
use Rattle.realm_model.specs.Tied.{IsOfRealm}
use Rattle.realm_model.proofs.Along.{goes_from}
use Rattle.realm_model.proofs.Boots.{boots_tied}
use Rattle.realm_model.proofs.NotesStay.{behind_event}
use Rattle.realm_model.proofs.Ready.{ready_at}
use Rattle.realm_model.proofs.SessionsKnown.{kept_sessions_known}
use Rattle.realm_model.proofs.TiedEvents.{events_along}

-- ---- a number stays behind an event

-- where the call is an open, its session has the next number
abbrev GetsNext : ℕ → PendingCall → CallKind → Type 0
GetsNext next call kind.Open = call.session ≡ next
GetsNext next call _ = Unit {0}

abbrev IsNumbered : ℕ → Taken → Type 0
IsNumbered next taken = GetsNext next taken.call taken.call.kind

opens_next : (c : NewCall) → OfAllEndings (IsNumbered c.tables.next_session) c
opens_next c = record {
  settled = λ code. tt;
  settled_open = λ of login code. tt;
  opened = λ wanted of copies is.
      map_or-both (IsNumbered c.tables.next_session) _ (shared_by c of) (opens c wanted of copies)
      (λ kept. if-both (IsNumbered c.tables.next_session) (is_held kept.1)
      (open_waits c wanted of copies kept) (opens c wanted of copies) refl refl)
      refl;
  dead = λ named is dead. tt;
  faulty = λ named is alive. tt;
  invoked = λ named copies is alive. if-both (IsNumbered c.tables.next_session) (is_held named.1) _ _ tt tt;
  closed = λ named is. if-both (IsNumbered c.tables.next_session) (is_held named.1) _ _ tt tt;
  cancelled = λ named is. tt;
  registered = λ buffers. tt;
}

-- the session has the number
abbrev Has : ℕ → ℕ → Notes → Type 0
Has session number notes = get notes.sessions session ≡ Some number

sessions_keep : (session number next : ℕ) (notes : Notes) (call : PendingCall) (its_kind : CallKind)
    → AreNames notes.sessions next notes.next_session → GetsNext next call its_kind
    → Has session number notes → Has session number (sessions_with its_kind notes call)
sessions_keep session number next notes call kind.Open names is has =
    ap (λ (n : ℕ). get (insert notes.sessions n notes.next_session) session) is
    ∙ name_stays notes.sessions next notes.next_session session number names has
sessions_keep session number next notes call (kind.Invoke func) names is has = has
sessions_keep session number next notes call kind.Close names is has = has
sessions_keep session number next notes call kind.Settled names is has = has

number_stays : (boot : Booted) (realm : Realm) (kernel next : Kernel) (notes : Notes) (session number : ℕ)
    (happened : Event) → AreNames notes.sessions kernel.tables.next_session notes.next_session → Has session number notes
    → after_event boot kernel happened ≡ Some next
    → Has session number (event_noted boot realm kernel next notes happened)
number_stays boot realm kernel next notes session number happened names has comes =
    behind_event (λ sessions next_session entered log. get sessions session ≡ Some number)
    (λ sessions next_session entered log last other told holds. holds) boot realm kernel next happened notes has
    (λ cpu steps slot regs reads now came is_entry is inside there its.
    behind_call cpu steps slot regs reads now came is inside there
    (ap (λ (h : Event). after_event boot kernel h) (sym is_entry) ∙ comes)) comes
  where
    behind_call : (cpu steps slot : ℕ) (regs : Regs) (reads : List Read) (now : PendingCall) (came : GroupEvent)
        → IsNew regs.a → slice_get next.processors cpu ≡ Some (Inside regs.a steps (InSlot slot))
        → slice_get next.slots slot ≡ Some (Active cpu now)
        → after_event boot kernel (Entry cpu regs steps reads) ≡ Some next
        → Has session number (sessions_with now.kind (with_event notes came) now)
    behind_call cpu steps slot regs reads now came is inside there e =
        let found = new_call_taken (λ at taken. IsNumbered kernel.tables.next_session taken) boot kernel next cpu steps slot
        regs reads now is
        (λ at free place bytes. opens_next (new_call_of boot kernel.tables regs.a at place bytes)) inside there e in
        sessions_keep session number kernel.tables.next_session (with_event notes came) now now.kind names
        (subst (λ (call : PendingCall). GetsNext kernel.tables.next_session call call.kind) found.call_is found.holds) has

-- what is noted of more events goes on from what was noted before them
pub noted-append : (boot : Booted) (realm : Realm) (kernel last : Kernel) (notes : Notes) (events more : List Event)
    → after_events boot kernel events ≡ Some last
    → noted_from boot realm kernel notes (events ++ more)
    ≡ noted_from boot realm last (noted_from boot realm kernel notes events) more
noted-append boot realm kernel last notes [] more e =
    let same : kernel ≡ last = cc in
    ap (λ (k : Kernel). noted_from boot realm k notes more) same
noted-append boot realm kernel last notes (happened ∷ events) more e =
    option_and_then_some (λ (next : Kernel). after_events boot next events) (after_event boot kernel happened) last e
    (λ (next : Kernel) comes onward.
    goes_from boot realm kernel next notes happened (events ++ more) comes
    ∙ noted-append boot realm next last (event_noted boot realm kernel next notes happened) events more onward
    ∙ sym (ap (λ (n : Notes). noted_from boot realm last n more)
    (goes_from boot realm kernel next notes happened events comes)))

-- ---- all sessions of an application

module _ (boot : Booted) (app : Application) (most : ℕ) (of_boot : app_of boot (uuid_of app) ≡ Some app)
    (single : is_single app ≡ true) where
  abbrev pub about : About
  about = record { members = record { realm = AllSessions app; app = app }; most = most; key = boot.key }

  is_realm : IsRealm boot about.members
  is_realm = record { of_boot = of_boot; shares = (single, refl) }

  -- after an event, which stands in front of others
  record IsTiedOn (past : List Event) (kernel : Kernel) (notes : Notes) (happened : Event) (events : List Event) : Type 0 where
    on : IsOn boot most past kernel happened events
    group : Group
    ordered : IsInOrder group
    tied : AreTied about on.next.slots on.next.tables (event_noted boot (AllSessions app) kernel on.next notes happened) group

  tied_on : (past : List Event) (kernel : Kernel) (notes : Notes) (g : Group) (happened : Event) (events : List Event)
      → IsInOrder g → AreTied about kernel.slots kernel.tables notes g → IsAt boot most past kernel (happened ∷ events)
      → IsTiedOn past kernel notes happened events
  tied_on past kernel notes g happened events ordered tied at =
      let on = on_from boot most past kernel happened events at in
      let goes = events_along boot about (length past) kernel on.next happened notes g is_realm refl
      (ready_at boot about past kernel g is_realm at.there (bound_now (length past) (suc (length events)) most at.bound)
      ordered)
      (λ cpu steps slot regs reads now came is_entry is inside there its. tt) on.comes tied in
      record {
        on = on;
        group = goes.then;
        ordered = stays_in_order.runs most app g goes.then (events_in goes.items) (replies_in goes.items) ordered goes.replies;
        tied = goes.tied;
      }

  -- kernel and machine at the end of a history
  pub record IsTiedAtEnd (last : Kernel) (notes : Notes) : Type 0 where
    pub group : Group
    pub ordered : IsInOrder group
    pub tied : AreTied about last.slots last.tables notes group

  tied_to_end : (past : List Event) (kernel last : Kernel) (notes : Notes) (g : Group) (events : List Event) → IsInOrder g
      → AreTied about kernel.slots kernel.tables notes g → IsAt boot most past kernel events
      → after_events boot kernel events ≡ Some last
      → IsTiedAtEnd last (noted_from boot (AllSessions app) kernel notes events)
  tied_to_end past kernel last notes g [] ordered tied at ends =
      let same : kernel ≡ last = cc in
      record {
        group = g;
        ordered = ordered;
        tied = subst (λ (k : Kernel). AreTied about k.slots k.tables notes g) same tied;
      }
  tied_to_end past kernel last notes g (happened ∷ events) ordered tied at ends =
      let after = tied_on past kernel notes g happened events ordered tied at in
      let onward : after_events boot after.on.next events ≡ Some last =
      sym (ap (λ (o : Option Kernel). option_and_then (λ (next : Kernel). after_events boot next events) o) after.on.comes)
      ∙ ends in
      subst (IsTiedAtEnd last) (sym (goes_from boot (AllSessions app) kernel after.on.next notes happened events after.on.comes))
      (tied_to_end (past ++ happened ∷ []) after.on.next last
      (event_noted boot (AllSessions app) kernel after.on.next notes happened) after.group events after.ordered after.tied
      after.on.at onward)

  -- a number stays to the end of a history
  number_on : (past : List Event) (kernel : Kernel) (notes : Notes) (g : Group) (events : List Event) (session number : ℕ)
      → IsInOrder g → AreTied about kernel.slots kernel.tables notes g → IsAt boot most past kernel events
      → Has session number notes → Has session number (noted_from boot (AllSessions app) kernel notes events)
  number_on past kernel notes g [] session number ordered tied at has = has
  number_on past kernel notes g (happened ∷ events) session number ordered tied at has =
      let after = tied_on past kernel notes g happened events ordered tied at in
      ap (λ (n : Notes). get n.sessions session)
      (goes_from boot (AllSessions app) kernel after.on.next notes happened events after.on.comes)
      ∙ number_on (past ++ happened ∷ []) after.on.next
      (event_noted boot (AllSessions app) kernel after.on.next notes happened) after.group events session number after.ordered
      after.tied after.on.at
      (number_stays boot (AllSessions app) kernel after.on.next notes session number happened tied.tied.session_names has
      after.on.comes)

  pub from_boot : (history : List Event) (last : Kernel) → IsAt boot most [] (first_kernel boot) history
      → kernel_after boot history ≡ Some last → IsTiedAtEnd last (noted boot history (AllSessions app))
  from_boot history last at there =
      tied_to_end [] (first_kernel boot) last no_notes (nobody_there boot.key) history (stays_in_order.first boot.key)
      (boots_tied boot about) at there

  -- a session on an instance of theirs has a number
  pub number_there : (kernel : Kernel) (notes : Notes) (end : IsTiedAtEnd kernel notes) (session : ℕ) (kept : Session)
      → get kernel.tables.sessions session ≡ Some kept → IsSome (get end.tied.instances kept.instance)
      → IsSome (get notes.sessions session)
  number_there kernel notes end session kept there on = by (get notes.sessions session) refl
    where
      by : (found : Option ℕ) → get notes.sessions session ≡ found → IsSome (get notes.sessions session)
      by (Some number) is = subst (IsSome {T = ℕ}) (sym is) refl
      by None none =
          let no : IsSome {T = ℕ} None = subst (IsSome {T = ℕ}) (end.tied.tied.sessions.others session kept there none) on in
          absurd cc

  -- and so has one that is kept on an instance of the application
  pub has_number : (history : List Event) (kernel : Kernel) (session : ℕ) → IsAt boot most [] (first_kernel boot) history
      → kernel_after boot history ≡ Some kernel → IsKept boot kernel session app
      → IsSome (get (noted boot history (AllSessions app)).sessions session)
  has_number history kernel session at there kept =
      let end = from_boot history kernel at there in
      let of = All-get
      (λ (one : ℕ × Instance). IsOfRealm about.members end.tied.instances one.0 one.1.uuid) kernel.tables.instances
      kept.kept.instance kept.instance end.tied.tied.instances.of_app kept.has in
      number_there kernel (noted boot history (AllSessions app)) end session kept.kept kept.there
      (of.named tt (sym (app_named boot kept.instance.uuid app kept.of_app)))

  pub keeps_number : (history more : List Event) (session number : ℕ) (last : Kernel)
      → kernel_after boot (history ++ more) ≡ Some last → 1000000 * (length history + length more) ≤ most
      → Has session number (noted boot history (AllSessions app))
      → Has session number (noted boot (history ++ more) (AllSessions app))
  keeps_number history more session number last there_last bound has =
      option_and_then_some (λ (k : Kernel). after_events boot k more) (kernel_after boot history) last
      (sym (after_events-append boot (first_kernel boot) history more) ∙ there_last)
      (λ (kernel : Kernel) there onward.
      let before = from_boot history kernel
      (record { last = kernel; there = refl; onward = there; bound = first (length history) (length more) most bound }) there in
      ap (λ (n : Notes). get n.sessions session)
      (noted-append boot (AllSessions app) (first_kernel boot) kernel no_notes history more there)
      ∙ number_on history kernel (noted boot history (AllSessions app)) before.group more session number before.ordered before.tied
      (record { last = last; there = there; onward = onward; bound = bound }) has)
    where
      first : (a b most : ℕ) → 1000000 * (a + b) ≤ most → 1000000 * (0 + a) ≤ most
      first a b most le = omega arith

-- ---- the law

kept_so : (boot : Booted) (history : List Event) (kernel : Kernel) (session : ℕ) (app : Application) → IsLegal boot history
    → kernel_after boot history ≡ Some kernel → IsKept boot kernel session app
    → (single : Bool) → is_single app ≡ single → HasRealm boot history session app
kept_so boot history kernel session app legal there k false alone = record {
  realm = OneSession session;
  is = record {
    legal = legal;
    of_app = kept_sessions_known.known boot history kernel session app there
        (record { kept = k.kept; there = k.there; instance = k.instance; has = k.has; of_app = k.of_app; shares_none = alone });
    shares_none = alone;
  };
  member = ap (λ (b : Bool). is_some {T = ℕ} (if b then Some 0 else None)) ((Decides-eqb session session).1 refl);
}
kept_so boot history kernel session app legal there k true shares =
    let of_boot : app_of boot (uuid_of app) ≡ Some app = own_uuid boot k.instance.uuid app k.of_app in
    record {
      realm = AllSessions app;
      is = (refl, record { legal = legal; has = of_boot; shares = shares });
      member = has_number boot app (steps_in history) of_boot shares history kernel session (from_first boot history kernel there)
          there k;
    }

stays_so : (boot : Booted) (history more : List Event) (session number : ℕ) (realm : Realm) (app : Application)
    → IsLegal boot (history ++ more) → IsRealmOf boot history realm app
    → number_of realm (noted boot history realm) session ≡ Some number
    → IsRealmOf boot (history ++ more) realm app
    × (number_of realm (noted boot (history ++ more) realm) session ≡ Some number)
stays_so boot history more session number (OneSession member) app legal s is = (
  record {
    legal = legal;
    of_app = kept_sessions_known.stays boot history more member app legal s.of_app;
    shares_none = s.shares_none;
  },
  is,
)
stays_so boot history more session number (AllSessions of) app legal its is =
    let end = some_of (kernel_after boot (history ++ more)) legal.follows in (
      (its.0, record { legal = legal; has = its.1.has; shares = its.1.shares }),
      subst (λ (a : Application). get (noted boot (history ++ more) (AllSessions a)).sessions session ≡ Some number)
          (sym its.0)
          (keeps_number boot app (1000000 * (length history + length more)) its.1.has its.1.shares history more session number
          end.0 end.1 (all (1000000 * (length history + length more)))
          (subst (λ (a : Application). get (noted boot history (AllSessions a)).sessions session ≡ Some number) its.0 is)),
    )
  where
    all : (n : ℕ) → n ≤ n
    all n = omega arith

pub kept_sessions_have_realms : KeptSessionsHaveRealms
kept_sessions_have_realms = record {
  known = λ boot history kernel session app legal there k.
      kept_so boot history kernel session app legal there k (is_single app) refl;
  stays = stays_so;
}

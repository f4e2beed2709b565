-- Each call of one of the group's sessions is in the group's log.
use Rattle.std.proofs.Common.{◌≡◌, ℕ, ◌<◌, List, [], ◌∷◌, ◌++◌, Option, Some, None, refl, ap, subst, sym, ◌∙◌, arith}
use Rattle.std.specs.Prelude.{IsSome}
use Rattle.std.specs.Option.{option_and_then, option_map, option_map_or}
use Rattle.base.specs.NumberMap.{get}
use Rattle.event_journal.specs.declared.event.Event.{Event}
use Rattle.job_model.specs.declared.call_kind.CallKind.{CallKind}
use Rattle.job_model.specs.declared.call_kind.CallKind.TheVariants as kind
use Rattle.kernel_model.specs.Application.{Application, Booted}
use Rattle.kernel_model.specs.Decision.{Taken}
use Rattle.kernel_model.specs.History.{after_event, kernel_after}
use Rattle.kernel_model.specs.Instances.{is_held}
use Rattle.kernel_model.specs.Kernel.{Kernel, PendingCall, Tables, first_kernel}
use Rattle.kernel_model.specs.NewCall.{NewCall, open_waits, opens, shared_by}
use Rattle.kernel_model.proofs.Parts.{if-both, map_or-both, some_of}
use Rattle.own_model.proofs.NewCalls.{OfAllEndings}
use Rattle.own_model.proofs.NewEntries.{IsTaken}
use Rattle.own_model.proofs.WholeHistories.{from_first}
use Rattle.own_model.specs.Isolation.{BringsCall, GrowsBy, steps_in}
use Rattle.group_model.specs.Isolation.{CallsAreInTheLog, IsGroupOf}
use Rattle.group_model.specs.Line.{AreNames}
use Rattle.group_model.specs.Read.{Notes, event_noted, event_of, noted, numbered, sessions_with, with_event}
use Rattle.group_model.specs.declared.group_event.GroupEvent.{GroupEvent}
use Rattle.group_model.proofs.NewEntries.{new_call_noted}
use Rattle.realm_model.specs.Realm.{AllSessions}
use Rattle.realm_model.specs.Forgetting.{group_part}
use Rattle.realm_model.specs.Reading as reading
use Rattle.realm_model.proofs.Along.{goes_from}
use Rattle.realm_model.proofs.Groups.{groups_are_realms, happened_same}
use Rattle.realm_model.proofs.KeptSessions.{from_boot, noted-append}
use Rattle.realm_model.proofs.SessionCalls.{taken_in}

-- ---- what a new call can be

-- a call of a session that has a number already is one of the group's events
abbrev NeverUnnoted : Application → Tables → Notes → Taken → Type 0
NeverUnnoted app tables notes taken = (number : ℕ) → get notes.sessions taken.call.session ≡ Some number →
    event_of app tables notes taken.call taken.call.kind ≡ None → ⊥

mapped : {A B : Type 0} (f : A → B) (found : Option A) (a : A) → found ≡ Some a → option_map f found ≡ None → ⊥
mapped f None a is none = absurd cc
mapped f (Some other) a is none = absurd cc

bound : {A B : Type 0} (f : A → B) (found : Option A) (a : A) → found ≡ Some a
    → option_and_then (λ (x : A). Some (f x)) found ≡ None → ⊥
bound f None a is none = absurd cc
bound f (Some other) a is none = absurd cc

never : {n : ℕ} → n < n → ⊥
never {n} less = omega arith

endings_in : (app : Application) (tables : Tables) (notes : Notes) (c : NewCall)
    → AreNames notes.sessions c.tables.next_session notes.next_session → OfAllEndings (NeverUnnoted app tables notes) c
endings_in app tables notes c names = record {
  settled = λ code number has none. never ((names.given 0 number has).0.0);
  settled_open = λ of login code number has none. never ((names.given 0 number has).0.0);
  opened = λ wanted of copies is.
      map_or-both (NeverUnnoted app tables notes) _ (shared_by c of) (opens c wanted of copies)
      (λ kept. if-both (NeverUnnoted app tables notes) (is_held kept.1) (open_waits c wanted of copies kept) (opens c wanted of copies)
      (λ number has none. never ((names.given c.tables.next_session number has).0.1))
      (λ number has none. never ((names.given c.tables.next_session number has).0.1)))
      (λ number has none. never ((names.given c.tables.next_session number has).0.1));
  dead = λ named is dead number has none. mapped _ (get notes.sessions c.head.session) number has none;
  faulty = λ named is alive number has none. mapped _ (get notes.sessions c.head.session) number has none;
  invoked = λ named copies is alive.
      if-both (NeverUnnoted app tables notes) (is_held named.1) _ _
      (λ number has none. bound _ (get notes.sessions c.head.session) number has none)
      (λ number has none. bound _ (get notes.sessions c.head.session) number has none);
  closed = λ named is.
      if-both (NeverUnnoted app tables notes) (is_held named.1) _ _
      (λ number has none. mapped _ (get notes.sessions c.head.session) number has none)
      (λ number has none. mapped _ (get notes.sessions c.head.session) number has none);
  cancelled = λ named is number has none. mapped _ (get notes.sessions c.head.session) number has none;
  registered = λ buffers number has none. never ((names.given 0 number has).0.0);
}

-- ---- what is noted

-- one more event is noted behind the others
noted_more : (boot : Booted) (history : List Event) (kernel next : Kernel) (happened : Event) (app : Application)
    → kernel_after boot history ≡ Some kernel → after_event boot kernel happened ≡ Some next
    → noted boot (history ++ happened ∷ []) app ≡ event_noted boot app kernel next (noted boot history app) happened
noted_more boot history kernel next happened app there comes =
    groups_are_realms.noted_so boot (history ++ happened ∷ []) app
    ∙ ap group_part (noted-append boot (AllSessions app) (first_kernel boot) kernel reading.no_notes history (happened ∷ []) there
    ∙ goes_from boot (AllSessions app) kernel next (reading.noted boot history (AllSessions app)) happened [] comes)
    ∙ happened_same boot app kernel next (reading.noted boot history (AllSessions app)) happened
    ∙ ap (λ (n : Notes). event_noted boot app kernel next n happened) (sym (groups_are_realms.noted_so boot history app))

sessions_log : (its_kind : CallKind) (notes : Notes) (call : PendingCall) → (sessions_with its_kind notes call).log ≡ notes.log
sessions_log kind.Open notes call = refl
sessions_log (kind.Invoke func) notes call = refl
sessions_log kind.Close notes call = refl
sessions_log kind.Settled notes call = refl

module _ (boot : Booted) (history : List Event) (happened : Event) (call : PendingCall) (app : Application)
    (b : BringsCall boot history happened call) where
  abbrev before : Notes
  before = noted boot history app

  abbrev after : Notes
  after = noted boot (history ++ happened ∷ []) app

  abbrev with_noted : Option GroupEvent → Notes
  with_noted came = option_map_or (numbered before b.slot call) came before

  in_log : IsGroupOf boot (history ++ happened ∷ []) app → IsSome (get after.sessions call.session)
      → GrowsBy before.log after.log (event_of app b.next.tables before call call.kind)
  in_log of has = by (event_of app b.next.tables before call call.kind) refl
    where
      names : AreNames before.sessions b.kernel.tables.next_session before.next_session
      names =
          subst (λ (n : Notes). AreNames n.sessions b.kernel.tables.next_session n.next_session)
          (sym (groups_are_realms.noted_so boot history app))
          (from_boot boot app (steps_in history) of.has of.shares history b.kernel (from_first boot history b.kernel b.before)
          b.before).tied.tied.session_names

      found : IsTaken (λ at taken. NeverUnnoted app b.next.tables before taken) b.kernel b.next
          (record { cpu = b.cpu; regs = b.regs.a; steps = b.steps }) b.slot call
      found =
          taken_in boot history happened call b (NeverUnnoted app b.next.tables before)
          (λ c same. endings_in app b.next.tables before c
          (subst (λ n. AreNames before.sessions n before.next_session) (sym same) names))

      is_now : after ≡ with_noted (event_of app b.next.tables before call call.kind)
      is_now =
          noted_more boot history b.kernel b.next happened app b.before b.after
          ∙ ap (event_noted boot app b.kernel b.next before) b.enters
          ∙ new_call_noted boot app b.kernel b.next b.cpu b.steps b.slot b.regs b.reads call before b.inside found.free b.active

      by : (event : Option GroupEvent) → event_of app b.next.tables before call call.kind ≡ event
          → GrowsBy before.log after.log (event_of app b.next.tables before call call.kind)
      by (Some came) is = record {
        came = came;
        is = is;
        last = ap (λ (n : Notes). n.log) (is_now ∙ ap with_noted is) ∙ sessions_log call.kind (with_event before came) call;
      }
      by None none =
          let number = some_of (get before.sessions call.session)
          (subst (λ (n : Notes). IsSome (get n.sessions call.session)) (is_now ∙ ap with_noted none) has) in
          absurd (subst (λ (c : PendingCall). (n : ℕ) → get before.sessions c.session ≡ Some n
          → event_of app b.next.tables before c c.kind ≡ None → ⊥) found.call_is found.holds number.0 number.1 none)

pub calls_in_the_log : CallsAreInTheLog
calls_in_the_log boot history happened call app b of has = in_log boot history happened call app b of has

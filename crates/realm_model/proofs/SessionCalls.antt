-- Each call of a session that is kept is in the session's log.
use Rattle.std.proofs.Common.{◌≡◌, ℕ, ◌<◌, List, [], ◌∷◌, ◌++◌, Option, Some, None, refl, ap, subst, sym, ◌∙◌, arith}
use Rattle.std.specs.Prelude.{if◌then◌else◌, is_some}
use Rattle.std.specs.Option.{option_map_or}
use Rattle.base.proofs.MapLemmas.{All-get}
use Rattle.event_journal.specs.declared.event.Event.{Event}
use Rattle.event_journal.specs.declared.event.Event.TheVariants.{Entry}
use Rattle.job_model.specs.declared.call_kind.CallKind.TheVariants as kind
use Rattle.job_model.specs.declared.entry_point.EntryPoint.TheVariants.{Invoke}
use Rattle.kernel_model.specs.Application.{Application, Booted}
use Rattle.kernel_model.specs.Begin.{closing_points}
use Rattle.kernel_model.specs.Codes.{bad_parameters, target_dead}
use Rattle.kernel_model.specs.History.{after_event, kernel_after}
use Rattle.kernel_model.specs.Instances.{is_held}
use Rattle.kernel_model.specs.Kernel.{Kernel, PendingCall, first_kernel}
use Rattle.kernel_model.specs.NewCall.{NewCall, beginner, cancels, new_call_of, no_copies, open_waits, opens, settles_invoke, shared_by}
use Rattle.kernel_model.specs.SoundNumbers.{IsNumberedSession}
use Rattle.kernel_model.specs.Decision.{Taken}
use Rattle.kernel_model.proofs.Parts.{if-both, map_or-both}
use Rattle.kernel_model.proofs.SoundNewCalls.{waiting_taken, working_taken}
use Rattle.kernel_model.proofs.SoundNumbers.{numbered as given_after}
use Rattle.own_model.proofs.Lookups.{same_number}
use Rattle.own_model.proofs.NewCalls.{OfAllEndings}
use Rattle.own_model.proofs.NewEntries.{IsTaken, new_call_noted, new_call_taken}
use Rattle.own_model.proofs.WholeHistories.{goes_from, one_more}
use Rattle.own_model.specs.Isolation.{BringsCall, CallsAreInLogs, GrowsBy, IsSessionOf}
use Rattle.own_model.specs.Own.{Notes, event_in, event_noted, event_of, no_notes, noted, numbered}
use Rattle.own_model.specs.declared.own_event.OwnEvent.{OwnEvent}
use Rattle.realm_model.proofs.SessionsKnown.{Before, Since, Stands, none_noted, noted-append, stands_after}

-- a call of the session is one of its events, or an open that gets this number and waits
data ComesIn (session next : ℕ) (call : PendingCall) : Type 0 where
  AsEvent : (came : OwnEvent) → event_of session call ≡ Some came → ComesIn session next call
  Waiting : session ≡ next → event_of session call ≡ None → ComesIn session next call

abbrev IfOfSession : ℕ → ℕ → Taken → Type 0
IfOfSession session next taken = taken.call.session ≡ session → ComesIn session next taken.call

-- its event goes by its kind
its_event : (session : ℕ) (call : PendingCall) → call.session ≡ session
    → event_of session call ≡ event_in (is_some call.area) call.settled call.kind call.phase
its_event session call same =
    ap (λ b. if b then event_in (is_some call.area) call.settled call.kind call.phase else None)
    (same_number call.session session same)

as_event : (session next : ℕ) (taken : Taken) (came : OwnEvent)
    → event_in (is_some taken.call.area) taken.call.settled taken.call.kind taken.call.phase ≡ Some came
    → IfOfSession session next taken
as_event session next taken came is = λ same. AsEvent came (its_event session taken.call same ∙ is)

-- each way in which a new call can end
endings_in : (session : ℕ) → 0 < session → (c : NewCall) → OfAllEndings (IfOfSession session c.tables.next_session) c
endings_in session some c = record {
  settled = λ code same. absurd (none session some same);
  settled_open = λ of login code same. absurd (none session some same);
  opened = λ wanted of copies is.
      map_or-both (IfOfSession session c.tables.next_session) _ (shared_by c of) (opens c wanted of copies)
      (λ kept. if-both (IfOfSession session c.tables.next_session) (is_held kept.1) (open_waits c wanted of copies kept) (opens c wanted of copies)
      (λ same. Waiting (sym same) (its_event session (open_waits c wanted of copies kept).call same))
      (as_event session c.tables.next_session (opens c wanted of copies) _ refl))
      (as_event session c.tables.next_session (opens c wanted of copies) _ refl);
  dead = λ named is dead. as_event session c.tables.next_session (settles_invoke c target_dead) _ refl;
  faulty = λ named is alive. as_event session c.tables.next_session (settles_invoke c bad_parameters) _ refl;
  invoked = λ named copies is alive.
      if-both (IfOfSession session c.tables.next_session) (is_held named.1) (waiting_taken c (kind.Invoke c.head.func) named copies)
      (working_taken c (kind.Invoke c.head.func) named copies (Invoke c.head.func ∷ []))
      (as_event session c.tables.next_session (waiting_taken c (kind.Invoke c.head.func) named copies) _ refl)
      (as_event session c.tables.next_session (working_taken c (kind.Invoke c.head.func) named copies (Invoke c.head.func ∷ [])) _ refl);
  closed = λ named is.
      let points = closing_points (beginner c) c.head.session named.0 named.1 in
      if-both (IfOfSession session c.tables.next_session) (is_held named.1) (waiting_taken c kind.Close named no_copies)
      (working_taken c kind.Close named no_copies points)
      (as_event session c.tables.next_session (waiting_taken c kind.Close named no_copies) _ refl)
      (as_event session c.tables.next_session (working_taken c kind.Close named no_copies points) _ refl);
  cancelled = λ named is. as_event session c.tables.next_session (cancels c) _ refl;
  registered = λ buffers same. absurd (none session some same);
}
  where
    none : (n : ℕ) → 0 < n → 0 ≡ n → ⊥
    none n more same = omega arith

-- ---- what is noted

-- one more event is noted behind the others
pub noted_more : (boot : Booted) (history : List Event) (kernel next : Kernel) (happened : Event) (session : ℕ)
    → kernel_after boot history ≡ Some kernel → after_event boot kernel happened ≡ Some next
    → noted boot (history ++ happened ∷ []) session ≡ event_noted session kernel next (noted boot history session) happened
noted_more boot history kernel next happened session there comes =
    noted-append boot session (first_kernel boot) kernel no_notes history (happened ∷ []) there
    ∙ goes_from boot session kernel next (noted boot history session) happened [] comes

module _ (boot : Booted) (history : List Event) (happened : Event) (call : PendingCall)
    (b : BringsCall boot history happened call) where
  comes : after_event boot b.kernel (Entry b.cpu b.regs b.steps b.reads) ≡ Some b.next
  comes = subst (λ (h : Event). after_event boot b.kernel h ≡ Some b.next) b.enters b.after

  some_session : 0 < call.session
  some_session =
      (All-get (IsNumberedSession b.next.tables) b.next.tables.sessions call.session b.session
      (given_after boot (history ++ happened ∷ []) b.next
      (one_more boot history b.kernel b.next happened b.before b.after)).sessions b.kept).0.0

  pub taken_in : (P : Taken → Type 0) → ((c : NewCall) → c.tables.next_session ≡ b.kernel.tables.next_session → OfAllEndings P c)
      → IsTaken (λ at taken. P taken) b.kernel b.next (record { cpu = b.cpu; regs = b.regs.a; steps = b.steps }) b.slot call
  taken_in P all =
      new_call_taken (λ at taken. P taken) boot b.kernel b.next b.cpu b.steps b.slot b.regs b.reads call b.is_new
      (λ at free place bytes. all (new_call_of boot b.kernel.tables b.regs.a at place bytes) refl) b.inside b.active comes

  -- whatever is noted of it
  now_noted : (found : IsTaken (λ at taken. IfOfSession call.session b.kernel.tables.next_session taken) b.kernel b.next
      (record { cpu = b.cpu; regs = b.regs.a; steps = b.steps }) b.slot call)
      → noted boot (history ++ happened ∷ []) call.session
      ≡ option_map_or (numbered (noted boot history call.session) b.slot call) (event_of call.session call)
      (noted boot history call.session)
  now_noted found =
      noted_more boot history b.kernel b.next happened call.session b.before b.after
      ∙ ap (event_noted call.session b.kernel b.next (noted boot history call.session)) b.enters
      ∙ new_call_noted call.session b.kernel b.next b.cpu b.steps b.slot b.regs b.reads call (noted boot history call.session)
      b.inside found.free b.active

  abbrev InLog : Type 0
  InLog = GrowsBy (noted boot history call.session).log (noted boot (history ++ happened ∷ []) call.session).log
      (event_of call.session call)

  abbrev with_noted : Option OwnEvent → Notes
  with_noted came =
      option_map_or (numbered (noted boot history call.session) b.slot call) came (noted boot history call.session)

  in_log : (app : Application) → IsSessionOf boot (history ++ happened ∷ []) call.session app → InLog
  in_log app of = by (subst (λ (c : PendingCall). c.session ≡ call.session → ComesIn call.session b.kernel.tables.next_session c)
      found.call_is found.holds refl)
    where
      found : IsTaken (λ at taken. IfOfSession call.session b.kernel.tables.next_session taken) b.kernel b.next
          (record { cpu = b.cpu; regs = b.regs.a; steps = b.steps }) b.slot call
      found =
          taken_in (IfOfSession call.session b.kernel.tables.next_session)
          (λ c same. subst (λ n. OfAllEndings (IfOfSession call.session n) c) same (endings_in call.session some_session c))

      never : (a n : ℕ) → a < n → a ≡ n → ⊥
      never a n less same = omega arith

      -- of an open that waits nothing would be noted
      early : call.session ≡ b.kernel.tables.next_session → event_of call.session call ≡ None
          → Stands boot call.session b.kernel (noted boot history call.session) → InLog
      early is none (Before lower before) =
          absurd (none_noted boot app (noted boot (history ++ happened ∷ []) call.session)
          (now_noted found ∙ ap with_noted none ∙ before) of.of_app)
      early is none (Since one instance on of_boot its) =
          absurd (never call.session b.kernel.tables.next_session on.session_given is)

      by : ComesIn call.session b.kernel.tables.next_session call → InLog
      by (AsEvent came is) = record {
        came = came;
        is = is;
        last = ap (λ (n : Notes). n.log) (now_noted found ∙ ap with_noted is);
      }
      by (Waiting is none) = early is none (stands_after boot call.session history b.kernel some_session b.before)

pub calls_in_logs : CallsAreInLogs
calls_in_logs boot history happened call app b of = in_log boot history happened call b app of

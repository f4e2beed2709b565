-- The machine of a session can be fed with what has happened to the session: what comes next has a number and room for its
-- steps, since the machine of its realm, which does the same, stays within bounds.
use Rattle.std.proofs.Common.{◌≡◌, ℕ, ◌+◌, ◌*◌, ◌^◌, ◌<◌, ◌≤◌, Bool, true, false, List, [], ◌∷◌, length, Option, Some, None, refl, ap, subst, sym, ◌∙◌, arith}
use Rattle.std.specs.Prelude.{Err, IfOk, IsSomeAnd, Ok, Result, ◌==◌, filter_map, if◌then◌else◌}
use Rattle.std.specs.List.{cons_option}
use Rattle.std.specs.Option.{option_map}
use Rattle.std.proofs.lemmas.Bool.Decides.{Decides-eqb}
use Rattle.base.specs.NumberMap.{get}
use Rattle.base.specs.declared.no_memory.NoMemory.{NoMemory}
use Rattle.event_journal.specs.Journal.{copied_bytes}
use Rattle.event_journal.specs.declared.event.Event.{Event}
use Rattle.isolation.proofs.SessionLogs.{own_calls_read}
use Rattle.kernel_model.specs.Application.{Application, Booted}
use Rattle.kernel_model.specs.Instances.{is_single}
use Rattle.kernel_model.specs.Kernel.{Asks, CallPhase, Ends, Runs, Waits}
use Rattle.own_model.specs.Isolation.{IsSessionOf, steps_in}
use Rattle.own_model.specs.Own.{Logged, Notes, events_in, noted, own_events}
use Rattle.own_model.specs.Solo.{Answered, OwnCall, Solo, step, unopened}
use Rattle.own_model.specs.declared.own_event.OwnEvent.{OwnEvent}
use Rattle.own_model.specs.declared.own_event.OwnEvent.TheVariants.{Open, Invoke, Close, Cancel, Seen, Back, Out, Limited}
use Rattle.own_model.specs.declared.own_reply.OwnReply.{OwnReply}
use Rattle.group_model.proofs.EmbeddedMachines.{stays_followed, steps_as, steps_as_a_group}
use Rattle.group_model.proofs.EmbeddedParts.{get_as}
use Rattle.group_model.specs.Embedding.{CanAllCome, CanCome, IsFollowed, answer_as, call_as, event_as, group_as, opened_as}
use Rattle.group_model.specs.Group.{Group, nobody_there}
use Rattle.group_model.specs.Group as group
use Rattle.group_model.specs.declared.group_event.GroupEvent.{GroupEvent}
use Rattle.group_model.specs.declared.group_reply.GroupReply.{GroupReply}
use Rattle.realm_model.proofs.Answered.{realms_within}
use Rattle.realm_model.proofs.OwnEvents.{own_events_can_come}
use Rattle.realm_model.proofs.SessionEvents.{session_events_are_realms}
use Rattle.realm_model.proofs.Sessions.{sessions_are_realms}
use Rattle.realm_model.specs.Histories.{AllWithin, DidAtMost, IsWithin}
use Rattle.realm_model.specs.Realm.{OneSession}
use Rattle.solo.specs.Feeding.{CanBeFed, IsFine}
use Rattle.solo.specs.Stepping.{HasRoomIn}

-- ---- the machine as that of a group

entered_as : (z : Solo) → (group_as z).entered ≡ z.entered
entered_as z = by_test (z.entered == 0) refl
  where
    by_test : (test : Bool) → (z.entered == 0) ≡ test → (if test then nobody_there z.key else opened_as z).entered ≡ z.entered
    by_test true is = sym ((Decides-eqb z.entered 0).0 is)
    by_test false is = refl

call_there : (z : Solo) (number : ℕ) (call : OwnCall) → IsFollowed z → get z.calls number ≡ Some call
    → get (group_as z).calls number ≡ Some (call_as call)
call_there z number call followed there = by_test (z.entered == 0) refl
  where
    by_test : (test : Bool) → (z.entered == 0) ≡ test
        → get (if test then nobody_there z.key else opened_as z).calls number ≡ Some (call_as call)
    by_test true is =
        let no : None ≡ Some call =
        sym (ap (λ (y : Solo). get y.calls number) (followed.first ((Decides-eqb z.entered 0).0 is))) ∙ there in
        absurd cc
    by_test false is = get_as z.calls number ∙ ap (λ (o : Option OwnCall). option_map call_as o) there

-- ---- an event

-- where it is one of the group, it is within
abbrev IfWithin : (calls most : ℕ) → Group → Option GroupEvent → Type 0
IfWithin calls most g None = Unit {0}
IfWithin calls most g (Some came) = IsWithin calls most g came

pub has_room : (most done_by_now : ℕ) (phase : CallPhase) → DidAtMost most done_by_now phase → most < 2 ^ 127
    → HasRoomIn most done_by_now phase
has_room most done_by_now (Runs job) did short = enough done_by_now most did short
  where
    enough : (a m : ℕ) → a ≤ m → m < 2 ^ 127 → a + m < 2 ^ 128
    enough a m le less = omega (arith, le, less)
has_room most done_by_now (Asks job wanted payload) did short = tt
has_room most done_by_now (Waits params) did short = tt
has_room most done_by_now (Ends result params told wakes) did short = tt

module _ (calls most : ℕ) (few : calls < 2 ^ 32) (short : most < 2 ^ 127) (z : Solo) (followed : IsFollowed z) where
  has_number : (group_as z).entered ≤ calls → z.entered < 2 ^ 32
  has_number le = less z.entered (group_as z).entered calls (entered_as z) le few
    where
      less : (own same n : ℕ) → same ≡ own → same ≤ n → n < 2 ^ 32 → own < 2 ^ 32
      less own same n is le lt = omega (arith, is, le, lt)

  fine_so : (event : OwnEvent) → IfWithin calls most (group_as z) (event_as event) → IsFine most z event
  fine_so (Open params login area) within = record { number = has_number within; room = tt }
  fine_so (Invoke func input area) within = record { number = has_number within; room = tt }
  fine_so (Close area) within = record { number = has_number within; room = tt }
  fine_so Cancel within = record { number = has_number within; room = tt }
  fine_so (Seen number done_by_now) within = record { number = tt; room = tt }
  fine_so (Back number input) within = record { number = tt; room = tt }
  fine_so (Out number) within = record {
    number = tt;
    room = λ call there.
        has_room most call.steps call.phase (within (call_as call) (call_there z number call followed there)) short;
  }
  fine_so Limited within = record { number = tt; room = tt }

-- ---- events in a row

-- the group's machine goes so
abbrev GoesTo : ℕ → Application → Group → Option GroupEvent → Group → Type 0
GoesTo most app g None next = g ≡ next
GoesTo most app g (Some came) next = (told : Option GroupReply) × (group.step most app g came ≡ Some (next, told))

goes_as : (most : ℕ) (app : Application) (z next : Solo) (told : Option OwnReply) (event : OwnEvent) → is_single app ≡ false
    → IsFollowed z → CanCome z event → step most app z event ≡ Some (next, told)
    → GoesTo most app (group_as z) (event_as event) (group_as next)
goes_as most app z next told event alone followed can steps = by_event (event_as event) refl
  where
    by_event : (found : Option GroupEvent) → event_as event ≡ found → GoesTo most app (group_as z) found (group_as next)
    by_event None is =
        ap group_as (sym (steps_as_a_group.silent (record {
          most = most;
          app = app;
          alone = alone;
          solo = z;
          followed = followed;
          event = event;
        }) next told steps is))
    by_event (Some came) is =
        (answer_as event told, steps_as most app z next told event came alone followed can steps is)

-- the first is within, and so are the others where the group's machine goes on
first_within : (calls most : ℕ) (app : Application) (g : Group) (found : Option GroupEvent) (events : List GroupEvent)
    → AllWithin calls most app g (cons_option found events)
    → IfWithin calls most g found × ((next : Group) → GoesTo most app g found next → AllWithin calls most app next events)
first_within calls most app g None events within =
    (tt, λ next same. subst (λ (h : Group). AllWithin calls most app h events) same within)
first_within calls most app g (Some came) events within = (within.0, λ next goes. within.1 (next, goes.0) goes.1)

-- what can come can be fed, where this is so from then on
fed_behind : (most : ℕ) (app : Application) (events : List OwnEvent) (found : Option Answered)
    → IsSomeAnd found (λ (answered : Answered). CanAllCome most app answered.0 events)
    → ((answered : Answered) → found ≡ Some answered → CanAllCome most app answered.0 events → CanBeFed most app answered.0 events)
    → IsSomeAnd found (λ (answered : Answered). CanBeFed most app answered.0 events)
fed_behind most app events None can rest = absurd can
fed_behind most app events (Some answered) can rest = rest answered refl can

module _ (calls most : ℕ) (app : Application) (alone : is_single app ≡ false) (few : calls < 2 ^ 32) (short : most < 2 ^ 127) where
  can_be_fed : (z : Solo) (events : List OwnEvent) → IsFollowed z → CanAllCome most app z events
      → AllWithin calls most app (group_as z) (filter_map event_as events) → CanBeFed most app z events
  can_be_fed z [] followed can within = tt
  can_be_fed z (event ∷ events) followed can within =
      let first = first_within calls most app (group_as z) (event_as event) (filter_map event_as events) within in (
        fine_so calls most few short z followed event first.0,
        fed_behind most app events (step most app z event) can.1
            (λ answered is later.
            can_be_fed answered.0 events (stays_followed most app z answered.0 answered.1 event followed can.0 is) later
            (first.1 (group_as answered.0) (goes_as most app z answered.0 answered.1 event alone followed can.0 is))),
      )

-- ---- a session

-- the machine of a session of a legal history can be fed with what has happened to it
own_can_be_fed : (boot : Booted) (history : List Event) (session : ℕ) (app : Application) → IsSessionOf boot history session app
    → copied_bytes history ≤ 2 ^ 28 → length history < 2 ^ 64 → CanBeFed (steps_in history) app (unopened boot.key) (own_events boot history session)
own_can_be_fed boot history session app s reads short =
    can_be_fed (noted boot history session).numbering.entered (steps_in history) app s.shares_none
    (few_calls (noted boot history session).numbering.entered (copied_bytes history)
    (own_calls_read boot history session s.legal.follows) reads)
    (few_steps (length history) short) (unopened boot.key) (own_events boot history session) (steps_as_a_group.first boot.key)
    (own_events_can_come boot history session app s)
    (subst (λ (n : Notes). AllWithin n.numbering.entered (steps_in history) app (nobody_there boot.key)
    (filter_map event_as (own_events boot history session))) (sym (sessions_are_realms.noted_so boot history session))
    (subst (AllWithin _ (steps_in history) app (nobody_there boot.key))
    (sym (session_events_are_realms boot history session)) (realms_within boot history (OneSession session) app s)))
  where
    few_calls : (calls bytes : ℕ) → 32 * calls ≤ bytes → bytes ≤ 2 ^ 28 → calls < 2 ^ 32
    few_calls calls bytes counts few = omega (arith, counts, few)

    few_steps : (n : ℕ) → n < 2 ^ 64 → 1000000 * n < 2 ^ 127
    few_steps n lt = omega (arith, lt)

-- so can it with the events of a log
pub fed_so : {T : Type 0} (result : Result T NoMemory) (items : T → List OwnEvent) (log : List Logged) (boot : Booted) (history : List Event)
    (session : ℕ) (app : Application) → log ≡ (noted boot history session).log → IsSessionOf boot history session app
    → copied_bytes history ≤ 2 ^ 28 → length history < 2 ^ 64 → IfOk result (λ x. items x ≡ events_in log)
    → IfOk result (λ x. CanBeFed (steps_in history) app (unopened boot.key) (items x))
fed_so (Ok x) items log boot history session app same s reads short e =
    subst (CanBeFed (steps_in history) app (unopened boot.key)) (sym (e ∙ ap events_in same)) (own_can_be_fed boot history session app s reads short)
fed_so (Err error) items log boot history session app same s reads short e = tt

-- Two realms of one application were answered the same wherever the same has happened to them: an entry of the log has a reply
-- just where the machine has one, so that what the machine replies can be told off the log from its beginning on.
use Rattle.std.proofs.Common.{◌≡◌, ℕ, zero, suc, ◌+◌, ◌≤◌, List, [], ◌∷◌, ◌++◌, Option, Some, None, refl, ap, subst, sym, ◌∙◌}
use Rattle.std.proofs.Common.{Bool, arith, false}
use Rattle.std.specs.Prelude.{◌==◌, filter_map, is_some, map, take}
use Rattle.std.specs.List.{AllByRecursion, cons_option}
use Rattle.std.specs.Option.{option_and_then, option_map, option_map_or}
use Rattle.std.proofs.lemmas.Option.{option_and_then_some}
use Rattle.base.specs.NumberMap.{get}
use Rattle.event_journal.specs.declared.event.Event.{Event}
use Rattle.job_model.specs.declared.call_kind.CallKind.{CallKind}
use Rattle.job_model.specs.declared.call_kind.CallKind.TheVariants as kind
use Rattle.ta_params.specs.declared.call_result.CallResult.{CallResult}
use Rattle.kernel_model.specs.Application.{Application, Booted}
use Rattle.kernel_model.specs.History.{after_event}
use Rattle.kernel_model.specs.Kernel.{ACancel, AnInvoke, AnOpen, Asks, CallPhase, Ends, Kernel, PendingCall, Runs, SettledCall}
use Rattle.kernel_model.specs.Kernel.{Tables, Untold, Waits, first_kernel}
use Rattle.kernel_model.proofs.Parts.{if-both, option_map_some}
use Rattle.own_model.specs.Isolation.{steps_in}
use Rattle.group_model.proofs.MoreSteps.{Ended, more_steps_agree}
use Rattle.group_model.proofs.RepliesTold.{has_reply, steps_told}
use Rattle.group_model.specs.Group.{Answered, Group, and_reply, group_machine_replies, nobody_there, run, step}
use Rattle.group_model.specs.Read.{invoke_event, is_open_of, open_event_in}
use Rattle.group_model.specs.declared.group_event.GroupEvent.{GroupEvent}
use Rattle.group_model.specs.declared.group_reply.GroupReply.{GroupReply}
use Rattle.realm_model.specs.Histories.{IsRealmOf, SameRealmBeginningsSameReplies}
use Rattle.realm_model.specs.Laws.{events_in, replies_in}
use Rattle.realm_model.specs.Reading.{Logged, Notes, event_noted, event_of, no_notes, noted}
use Rattle.realm_model.specs.declared.realm_event.RealmEvent.{RealmEvent}
use Rattle.realm_model.specs.declared.realm_event.RealmEvent.TheVariants.{Comes, TurnedAway}
use Rattle.realm_model.specs.Reading.{noted_from, number_of, realm_events, realm_replies, settled_event, settled_event_in}
use Rattle.realm_model.specs.Reading.{with_event}
use Rattle.realm_model.specs.Realm.{AllSessions, OneSession, Realm, open_of}
use Rattle.realm_model.proofs.Answered.{realms_answered}
use Rattle.realm_model.proofs.NotesStay.{IsTold, behind_event}
use Rattle.realm_model.proofs.SessionEvents.{log_stays}

-- ---- a call that comes in has no reply then

abbrev IfUntold : Option GroupEvent → Type 0
IfUntold None = Unit {0}
IfUntold (Some came) = has_reply came ≡ false

map_untold : {A : Type 0} (f : A → GroupEvent) (found : Option A) → ((value : A) → has_reply (f value) ≡ false)
    → IfUntold (option_map f found)
map_untold f None untold = tt
map_untold f (Some value) untold = untold value

then_untold : {A : Type 0} (f : A → Option GroupEvent) (found : Option A) → ((value : A) → IfUntold (f value))
    → IfUntold (option_and_then f found)
then_untold f None untold = tt
then_untold f (Some value) untold = untold value

phase_untold : (tables : Tables) (call : PendingCall) (phase : CallPhase) → IfUntold (open_event_in tables call phase)
phase_untold tables call (Runs job) = map_untold _ (get tables.sessions call.session) (λ session. refl)
phase_untold tables call (Asks job wanted payload) = tt
phase_untold tables call (Waits params) = map_untold _ (get tables.sessions call.session) (λ session. refl)
phase_untold tables call (Ends result params told wakes) = tt

open_untold : (realm : Realm) (tables : Tables) (call : PendingCall) (phase : CallPhase)
    → IfUntold (open_of realm tables call phase)
open_untold (OneSession member) tables call (Runs job) = if-both IfUntold (call.session == member) _ None refl tt
open_untold (OneSession member) tables call (Asks job wanted payload) = tt
open_untold (OneSession member) tables call (Waits params) = tt
open_untold (OneSession member) tables call (Ends result params told wakes) = tt
open_untold (AllSessions app) tables call phase =
    if-both IfUntold (is_open_of app call) (open_event_in tables call phase) None (phase_untold tables call phase) tt

settled_untold : (realm : Realm) (notes : Notes) (call : PendingCall) (settled : SettledCall) (result : CallResult)
    → IfUntold (settled_event realm notes call settled result)
settled_untold realm notes call Untold result = tt
settled_untold (OneSession member) notes call (AnOpen login) result = tt
settled_untold (AllSessions app) notes call (AnOpen login) result =
    if-both IfUntold (is_open_of app call) _ None refl tt
settled_untold realm notes call (AnInvoke func) result =
    map_untold _ (number_of realm notes call.session) (λ session. refl)
settled_untold realm notes call ACancel result = map_untold _ (number_of realm notes call.session) (λ session. refl)

settled_in_untold : (realm : Realm) (notes : Notes) (call : PendingCall) (phase : CallPhase)
    → IfUntold (settled_event_in realm notes call phase)
settled_in_untold realm notes call (Runs job) = tt
settled_in_untold realm notes call (Asks job wanted payload) = tt
settled_in_untold realm notes call (Waits params) = tt
settled_in_untold realm notes call (Ends result params told wakes) = settled_untold realm notes call call.settled result

invoke_untold : (session func : ℕ) (area : Bool) (phase : CallPhase) → IfUntold (invoke_event session func area phase)
invoke_untold session func area (Runs job) = refl
invoke_untold session func area (Asks job wanted payload) = tt
invoke_untold session func area (Waits params) = refl
invoke_untold session func area (Ends result params told wakes) = tt

coming_untold : (realm : Realm) (tables : Tables) (notes : Notes) (call : PendingCall) (call_kind : CallKind)
    → IfUntold (event_of realm tables notes call call_kind)
coming_untold realm tables notes call kind.Open = open_untold realm tables call call.phase
coming_untold realm tables notes call (kind.Invoke func) =
    then_untold (λ session. invoke_event session func (is_some call.area) call.phase) (number_of realm notes call.session)
    (λ session. invoke_untold session func (is_some call.area) call.phase)
coming_untold realm tables notes call kind.Close =
    map_untold _ (number_of realm notes call.session) (λ session. refl)
coming_untold realm tables notes call kind.Settled = settled_in_untold realm notes call call.phase

-- ---- a log

abbrev pub AreTold : List Logged → Type 0
AreTold log = AllByRecursion IsTold log

told_too : (log : List Logged) (last : Logged) → AreTold log → IsTold last → AreTold (log ++ last ∷ [])
told_too [] last all told = (told, tt)
told_too (first ∷ log) last all told = (all.0, told_too log last all.1 told)

event_told : (boot : Booted) (realm : Realm) (kernel next : Kernel) (notes : Notes) (happened : Event)
    → after_event boot kernel happened ≡ Some next → AreTold notes.log
    → AreTold (event_noted boot realm kernel next notes happened).log
event_told boot realm kernel next notes happened comes told =
    behind_event (λ sessions next_session entered log. AreTold log)
    (λ sessions next_session entered log last other is_told all. told_too log last all is_told) boot realm kernel next happened
    notes told
    (λ cpu steps slot regs reads now came is_entry is inside there its.
    subst AreTold (sym (log_stays now.kind (with_event notes came) now))
    (told_too notes.log (Comes came, None) told
    (sym (subst IfUntold its (coming_untold realm next.tables notes now now.kind))))) comes

told_from : (boot : Booted) (realm : Realm) (kernel : Kernel) (notes : Notes) (events : List Event) → AreTold notes.log
    → AreTold (noted_from boot realm kernel notes events).log
told_from boot realm kernel notes [] told = told
told_from boot realm kernel notes (happened ∷ events) told =
    by (after_event boot kernel happened)
    (λ (next : Kernel) comes. told_from boot realm next (event_noted boot realm kernel next notes happened) events
    (event_told boot realm kernel next notes happened comes told))
  where
    by : (found : Option Kernel)
        → ((next : Kernel) → found ≡ Some next
        → AreTold (noted_from boot realm next (event_noted boot realm kernel next notes happened) events).log)
        → AreTold (option_map_or (λ (next : Kernel).
        noted_from boot realm next (event_noted boot realm kernel next notes happened) events) found notes).log
    by None onward = told
    by (Some next) onward = onward next refl

pub logs_told : (boot : Booted) (history : List Event) (realm : Realm) → AreTold (noted boot history realm).log
logs_told boot history realm = told_from boot realm (first_kernel boot) no_notes history tt

-- ---- the machine does what the log tells

abbrev and_told : Option GroupReply → Ended → Ended
and_told told end = (end.0, and_reply told end.1)

abbrev goes_on : ℕ → Application → List GroupEvent → Answered → Option Ended
goes_on most app events answered = option_map (and_told answered.1) (run most app answered.0 events)

-- where both have a reply or neither has one, the replies behind are the same, and so is this
same_front : (a b : Option GroupReply) (replies others : List GroupReply) → is_some a ≡ is_some b
    → and_reply a replies ≡ cons_option b others → (a ≡ b) × (replies ≡ others)
same_front None None replies others same e = (refl, e)
same_front None (Some b) replies others same e = absurd cc
same_front (Some a) None replies others same e = absurd cc
same_front (Some a) (Some b) replies others same e =
    let head : a ≡ b = cc in
    let tail : replies ≡ others = cc in
    (ap Some head, tail)

abbrev pub Tells : ℕ → Application → Group → List Logged → Type 0
Tells most app g log = (then : Group) × (run most app g (events_in log) ≡ Some (then, replies_in log))

-- at its first event too
record TellsFirst (most : ℕ) (app : Application) (g : Group) (came : GroupEvent) (told : Option GroupReply)
    (log : List Logged) : Type 0 where
  answered : Answered
  steps : step most app g came ≡ Some answered
  as_told : answered.1 ≡ told
  rest : Tells most app answered.0 log

tells_first : (most : ℕ) (app : Application) (g : Group) (came : GroupEvent) (told : Option GroupReply) (log : List Logged)
    → is_some told ≡ has_reply came → Tells most app g ((Comes came, told) ∷ log) → TellsFirst most app g came told log
tells_first most app g came told log is_told tells =
    option_and_then_some (goes_on most app (events_in log)) (step most app g came)
    (tells.0, cons_option told (replies_in log)) tells.1
    (λ (answered : Answered) there onward.
    let end = option_map_some (and_told answered.1) (run most app answered.0 (events_in log))
    (tells.0, cons_option told (replies_in log)) onward in
    let same = same_front answered.1 told end.0.1 (replies_in log)
    (steps_told most app g came answered there ∙ sym is_told) (ap (λ (x : Ended). x.1) end.2) in
    record {
      answered = answered;
      steps = there;
      as_told = same.0;
      rest = (end.0.0, end.1 ∙ ap (λ (rs : List GroupReply). Some (end.0.0, rs)) same.1);
    })

first_same : (a b : RealmEvent) (events others : List RealmEvent) → a ∷ events ≡ b ∷ others → (a ≡ b) × (events ≡ others)
first_same a b events others e = (cc, cc)

came_same : (a b : GroupEvent) → Comes a ≡ Comes b → a ≡ b
came_same a b e = cc

some_answered : (x y : Answered) → Some x ≡ Some y → x ≡ y
some_answered x y is = cc

abbrev pub events_of : List Logged → List RealmEvent
events_of log = map (λ (logged : Logged). logged.0) log

abbrev pub replies_of : List Logged → List GroupReply
replies_of log = filter_map (λ (logged : Logged). logged.1) log

pub both_tell : (most : ℕ) (app : Application) (g : Group) (count : ℕ) (log other : List Logged) → AreTold log → AreTold other
    → Tells most app g log → Tells most app g other → events_of (take count log) ≡ events_of (take count other)
    → replies_of (take count log) ≡ replies_of (take count other)
both_tell most app g zero log other told others one two same = refl
both_tell most app g (suc count) [] [] told others one two same = refl
both_tell most app g (suc count) [] (second ∷ other) told others one two same = absurd cc
both_tell most app g (suc count) (first ∷ log) [] told others one two same = absurd cc
both_tell most app g (suc count) ((Comes came, first) ∷ log) ((TurnedAway, second) ∷ other) told others one two same = absurd cc
both_tell most app g (suc count) ((TurnedAway, first) ∷ log) ((Comes came, second) ∷ other) told others one two same = absurd cc
both_tell most app g (suc count) ((TurnedAway, first) ∷ log) ((TurnedAway, second) ∷ other) told others one two same =
    let events = first_same TurnedAway TurnedAway (events_of (take count log)) (events_of (take count other)) same in
    ap (λ (reply : Option GroupReply). cons_option reply (replies_of (take count log))) (told.0 ∙ sym others.0)
    ∙ ap (λ (rs : List GroupReply). cons_option second rs) (both_tell most app g count log other told.1 others.1 one two events.1)
both_tell most app g (suc count) ((Comes came, first) ∷ log) ((Comes coming, second) ∷ other) told others one two same =
    let events = first_same (Comes came) (Comes coming) (events_of (take count log)) (events_of (take count other)) same in
    let a = tells_first most app g came first log told.0 one in
    let b = tells_first most app g coming second other others.0 two in
    let answers : a.answered ≡ b.answered =
    some_answered a.answered b.answered
    (sym a.steps ∙ ap (λ (event : GroupEvent). step most app g event) (came_same came coming events.0) ∙ b.steps) in
    let replies : first ≡ second = sym a.as_told ∙ ap (λ (x : Answered). x.1) answers ∙ b.as_told in
    let rest = both_tell most app a.answered.0 count log other told.1 others.1 a.rest
    (subst (λ (x : Answered). Tells most app x.0 other) (sym answers) b.rest) events.1 in
    ap (λ (reply : Option GroupReply). cons_option reply (replies_of (take count log))) replies
    ∙ ap (λ (rs : List GroupReply). cons_option second rs) rest

-- ---- two worlds

pub first_more : (a b : ℕ) → a ≤ a + b
first_more a b = omega arith

pub second_more : (a b : ℕ) → b ≤ a + b
second_more a b = omega arith

-- given more steps to a job's stop, the machine runs on with the same replies
runs_so : (app : Application) (most more : ℕ) (key : List ℕ) (events : List GroupEvent) (replies : List GroupReply)
    → most ≤ more → group_machine_replies most app key events ≡ Some replies
    → (then : Group) × (run more app (nobody_there key) events ≡ Some (then, replies))
runs_so app most more key events replies le e =
    let end = option_map_some (λ (last : Ended). last.1) (run most app (nobody_there key) events) replies e in (
      end.0.0,
      more_steps_agree app most more (nobody_there key) end.0.0 events end.0.1 le end.1
          ∙ ap (λ (all : List GroupReply). Some (end.0.0, all)) end.2,
    )

-- in both the machine does what the log tells
pub two_tell : (boot another : Booted) (history other : List Event) (realm second : Realm) (app : Application)
    → boot.key ≡ another.key → IsRealmOf boot history realm app → IsRealmOf another other second app
    → Tells (steps_in history + steps_in other) app (nobody_there boot.key) (noted boot history realm).log
    × Tells (steps_in history + steps_in other) app (nobody_there boot.key) (noted another other second).log
two_tell boot another history other realm second app keys is more =
    let most : ℕ = steps_in history + steps_in other in
    let two = runs_so app (steps_in other) most another.key (realm_events another other second)
    (realm_replies another other second) (second_more (steps_in history) (steps_in other))
    (realms_answered another other second app more) in (
      runs_so app (steps_in history) most boot.key (realm_events boot history realm) (realm_replies boot history realm)
          (first_more (steps_in history) (steps_in other)) (realms_answered boot history realm app is),
      (two.0, ap (λ (key : List ℕ). run most app (nobody_there key) (realm_events another other second)) keys ∙ two.1),
    )

pub same_beginnings : SameRealmBeginningsSameReplies
same_beginnings boot another history other realm second count app keys is more same =
    let tell = two_tell boot another history other realm second app keys is more in
    both_tell (steps_in history + steps_in other) app (nobody_there boot.key) count (noted boot history realm).log
    (noted another other second).log (logs_told boot history realm) (logs_told another other second) tell.0 tell.1 same

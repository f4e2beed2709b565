-- The machine of a session as the machine of a group: the group has this one session, with number 0, and its instance has
-- number 1. This project's own.
use Rattle.std.specs.Prelude.{◌≡◌, ℕ, ◌==◌, ◌&&◌, Bool, true, false, List, [], ◌∷◌, Option, Some, None, IsSomeAnd, All, map}
use Rattle.std.specs.Prelude.{filter_map, if◌then◌else◌}
use Rattle.std.specs.Option.{option_map}
use Rattle.base.specs.NumberMap.{NumberMap, get}
use Rattle.job_model.specs.declared.call_kind.CallKind.{CallKind}
use Rattle.job_model.specs.declared.call_kind.CallKind.TheVariants as kind
use Rattle.kernel_model.specs.Application.{Application}
use Rattle.kernel_model.specs.Codes.{success}
use Rattle.kernel_model.specs.Instances.{is_single}
use Rattle.kernel_model.specs.Kernel.{Instance}
use Rattle.own_model.specs.InOrder as own_order
use Rattle.own_model.specs.Solo.{OwnCall, OwnSession, Solo, solo_replies, unopened}
use Rattle.own_model.specs.Solo as own
use Rattle.own_model.specs.declared.own_event.OwnEvent.{OwnEvent}
use Rattle.own_model.specs.declared.own_event.OwnEvent.TheVariants as own_event
use Rattle.own_model.specs.declared.own_event.OwnInput.TheVariants.{Copied}
use Rattle.own_model.specs.declared.own_reply.OwnReply.{OwnReply}
use Rattle.own_model.specs.declared.own_reply.OwnReply.TheVariants as reply
use Rattle.group_model.specs.Group.{Answered, Group, GroupCall, GroupSession, GroupWaiter, group_machine_replies, nobody_there}
use Rattle.group_model.specs.Group.{step}
use Rattle.group_model.specs.declared.group_event.GroupEvent.{GroupEvent}
use Rattle.group_model.specs.declared.group_event.GroupEvent.TheVariants.{Open, Invoke, Close, Cancel, Seen, Back, Out}
use Rattle.group_model.specs.declared.group_reply.GroupReply.{GroupReply}

-- ---- the machine

abbrev pub session_as : OwnSession → GroupSession
session_as session =
    record { login = session.login; context = session.context; opened = session.opened; instance = 1 }

abbrev pub sessions_as : Option OwnSession → NumberMap GroupSession
sessions_as None = []
sessions_as (Some session) = (0, session_as session) ∷ []

-- the instance of a call of this kind: one that was settled as it came in has none, of which 0 is said
abbrev pub instance_of : CallKind → ℕ
instance_of kind.Open = 1
instance_of (kind.Invoke func) = 1
instance_of kind.Close = 1
instance_of kind.Settled = 0

abbrev pub call_as : OwnCall → GroupCall
call_as call = record {
  kind = call.kind;
  session = 0;
  instance = instance_of call.kind;
  seen = call.seen;
  steps = call.steps;
  area = call.area;
  buffer = call.buffer;
  room = None;
  phase = call.phase;
}

abbrev pub calls_as : NumberMap OwnCall → NumberMap GroupCall
calls_as calls = map (λ (kept : ℕ × OwnCall). (kept.0, call_as kept.1)) calls

abbrev pub waiter_as : ℕ → GroupWaiter
waiter_as number = record { call = number; instance = 1 }

abbrev pub instance_as : Option Instance → Option (ℕ × Instance)
instance_as found = option_map (λ instance. (1, instance)) found

-- once the open has come in
abbrev pub opened_as : Solo → Group
opened_as z = record {
  sessions = sessions_as z.session;
  instance = instance_as z.instance;
  waiting = map waiter_as z.waiting;
  calls = calls_as z.calls;
  entered = z.entered;
  next_session = 1;
  next_instance = 2;
  key = z.key;
}

-- at all times: before the open nobody is there
abbrev pub group_as : Solo → Group
group_as z = if z.entered == 0 then nobody_there z.key else opened_as z

-- ---- events and replies

-- what happens to the session, as an event of the group: that a new call found no thread is none, since its argument
-- wasn't read. No limit stops the open, whose parameters were copied
abbrev pub event_as : OwnEvent → Option GroupEvent
event_as (own_event.Open params login area) = Some (Open (Copied params) login false area)
event_as (own_event.Invoke func input area) = Some (Invoke 0 func input area)
event_as (own_event.Close area) = Some (Close 0 area)
event_as own_event.Cancel = Some (Cancel 0)
event_as (own_event.Seen number steps) = Some (Seen number steps)
event_as (own_event.Back number input) = Some (Back number input)
event_as (own_event.Out number) = Some (Out number)
event_as own_event.Limited = None

-- the session that is opened where the call of this number is told this: a session's first call is its open, and no other is
abbrev pub opened_told : ℕ → OwnReply → Option ℕ
opened_told number (reply.Ended result origin outputs) = if (number == 0) && (result == success) then Some 0 else None
opened_told number _ = None

abbrev pub reply_as : ℕ → OwnReply → GroupReply
reply_as number told = record { reply = told; opened = opened_told number told }

-- what the group is told at an event of the session: nothing where none of its calls goes out
abbrev pub answer_as : OwnEvent → Option OwnReply → Option GroupReply
answer_as (own_event.Out number) told = option_map (reply_as number) told
answer_as _ told = None

-- at events in a row, to which the session had these replies: one wherever a call went out, and one at each Limited
abbrev pub replies_as : List OwnEvent → List OwnReply → List GroupReply
replies_as [] replies = []
replies_as (own_event.Out number ∷ events) (told ∷ replies) = reply_as number told ∷ replies_as events replies
replies_as (own_event.Limited ∷ events) (told ∷ replies) = replies_as events replies
replies_as (_ ∷ events) replies = replies_as events replies

-- ---- events that can come

-- the session is opened, and its instance is there
pub record IsAtHome (z : Solo) : Type 0 where
  pub session : OwnSession
  pub kept : z.session ≡ Some session
  pub opened : session.opened ≡ true
  pub instance : Instance
  pub has : z.instance ≡ Some instance

-- the open comes before all other calls, and calls in the session come once it is opened
abbrev pub CanCome : Solo → OwnEvent → Type 0
CanCome z (own_event.Open params login area) = z.entered ≡ 0
CanCome z (own_event.Invoke func input area) = IsAtHome z
CanCome z (own_event.Close area) = IsAtHome z
CanCome z own_event.Cancel = IsAtHome z
CanCome z (own_event.Seen number steps) = Unit {0}
CanCome z (own_event.Back number input) = Unit {0}
CanCome z (own_event.Out number) = Unit {0}
CanCome z own_event.Limited = Unit {0}

-- so each of these, when those before it have come
abbrev pub CanAllCome : ℕ → Application → Solo → List OwnEvent → Type 0
CanAllCome most app z [] = Unit {0}
CanAllCome most app z (event ∷ events) =
    CanCome z event
    × IsSomeAnd (own.step most app z event) (λ (answered : own.Answered). CanAllCome most app answered.0 events)

abbrev pub is_open : CallKind → Bool
is_open kind.Open = true
is_open (kind.Invoke func) = false
is_open kind.Close = false
is_open kind.Settled = false

-- of these calls the first is an open, and no other
abbrev pub OnlyFirstOpens : NumberMap OwnCall → Type 0
OnlyFirstOpens calls = (number : ℕ) (call : OwnCall) → get calls number ≡ Some call → is_open call.kind ≡ (number == 0)

-- what holds of the machine of a session at all times, where what comes can come
pub record IsFollowed (z : Solo) : Type 0 where
  pub in_order : own_order.IsInOrder z
  -- before its first call nothing is there
  pub first : z.entered ≡ 0 → z ≡ unopened z.key
  pub opens : OnlyFirstOpens z.calls

-- ---- the laws

-- a session's machine at an event, of an application whose sessions share no instance
pub record Moment : Type 0 where
  pub most : ℕ
  pub app : Application
  pub alone : is_single app ≡ false
  pub solo : Solo
  pub followed : IsFollowed solo
  pub event : OwnEvent

-- what it does there
abbrev pub stepped : Moment → Option own.Answered
stepped at = own.step at.most at.app at.solo at.event

-- an event that is no open
abbrev pub IsNoOpen : OwnEvent → Type 0
IsNoOpen (own_event.Open params login area) = ⊥
IsNoOpen _ = Unit {0}

pub record StepsAsAGroup : Type 0 where
  -- it is followed from the start on, and stays so
  pub first : (key : List ℕ) → IsFollowed (unopened key)
  pub stays : (at : Moment) (next : Solo) (told : Option OwnReply) → CanCome at.solo at.event →
      stepped at ≡ Some (next, told) → IsFollowed next
  -- where it steps, the group's machine steps with the same event to the same, and is told the same
  pub steps : (at : Moment) (next : Solo) (told : Option OwnReply) (came : GroupEvent) → CanCome at.solo at.event →
      stepped at ≡ Some (next, told) → event_as at.event ≡ Some came →
      step at.most at.app (group_as at.solo) came
      ≡ Some (group_as next, answer_as at.event told)
  -- where the group has no such event, it stays what it is
  pub silent : (at : Moment) (next : Solo) (told : Option OwnReply) → stepped at ≡ Some (next, told) →
      event_as at.event ≡ None → next ≡ at.solo
  -- behind the open, what the group's machine takes can come to it
  pub can_come : (at : Moment) (came : GroupEvent) (answered : Answered) → IsNoOpen at.event →
      event_as at.event ≡ Some came → step at.most at.app (group_as at.solo) came ≡ Some answered →
      CanCome at.solo at.event
  -- where it refuses an event, so does the group's machine, unless that is a second open
  pub refuses : (at : Moment) (came : GroupEvent) → IsNoOpen at.event → stepped at ≡ None →
      event_as at.event ≡ Some came → step at.most at.app (group_as at.solo) came ≡ None

-- and so over events in a row, from the start on
abbrev pub RepliesAsAGroup : Type 0
RepliesAsAGroup = (most : ℕ) (app : Application) (key : List ℕ) (events : List OwnEvent) (replies : List OwnReply) →
    is_single app ≡ false → CanAllCome most app (unopened key) events →
    solo_replies most app key events ≡ Some replies →
    group_machine_replies most app key (filter_map event_as events) ≡ Some (replies_as events replies)

-- the first of these that is an event of a group may be an open, and no other
abbrev pub OpensFirst : List OwnEvent → Type 0
OpensFirst [] = Unit {0}
OpensFirst (own_event.Limited ∷ events) = OpensFirst events
OpensFirst (event ∷ events) = All IsNoOpen events

-- the other way round: where the group's machine takes events in a row from the start on, of which only the first is an
-- open, so does the session's, and replies the same
abbrev pub RepliesAsASession : Type 0
RepliesAsASession = (most : ℕ) (app : Application) (key : List ℕ) (events : List OwnEvent) (told : List GroupReply) →
    is_single app ≡ false → OpensFirst events →
    group_machine_replies most app key (filter_map event_as events) ≡ Some told →
    IsSomeAnd (solo_replies most app key events) (λ (replies : List OwnReply). told ≡ replies_as events replies)

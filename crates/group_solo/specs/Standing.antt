-- When the plain code of a group stands for the machine of the group.
use Rattle.std.specs.Prelude.{◌≡◌, ℕ, ◌+◌, ◌<◌, ◌≤◌, ◌^◌, List, [], Option, Some, None, length, map, slice_get}
use Rattle.std.specs.Global.{Box}
use Rattle.std.specs.List.{AllByRecursion}
use Rattle.std.specs.Option.{option_map}
use Rattle.base.specs.NumberMap.{IsRising, NumberMap, get, insert}
use Rattle.begin_call.specs.Begins.{IsValidApp}
use Rattle.group_model.specs.Group.{Group, GroupCall, GroupSession, GroupWaiter, with_call}
use Rattle.kernel_model.specs.Application.{Application, uuid_of}
use Rattle.kernel_model.specs.Kernel.{Instance}
use Rattle.kernel_state.specs.Setup.{application_of}
use Rattle.solo.specs.Short.{IsShortPhase}
use Rattle.solo.specs.Standing.{instance_of}
use Rattle.group_solo.specs.Calls.{IsGroupCall}
use Rattle.group_solo.specs.declared.group.GroupSolo.{GroupSolo}
use Rattle.group_solo.specs.declared.kept_call.KeptCall.{KeptCall}
use Rattle.group_solo.specs.declared.kept_session.KeptSession.{KeptSession}
use Rattle.group_solo.specs.declared.shared.Shared.{Shared}
use Rattle.group_solo.specs.declared.waiter.Waiter.{Waiter}

-- ---- the parts

abbrev pub session_of : KeptSession → GroupSession
session_of kept =
    record { login = kept.login; context = kept.context; opened = kept.opened; instance = kept.instance }

-- the sessions by their numbers
abbrev pub sessions_of : List (ℕ × KeptSession) → NumberMap GroupSession
sessions_of kept = map (λ (entry : ℕ × KeptSession). (entry.0, session_of entry.1)) kept

abbrev pub waiter_of : Waiter → GroupWaiter
waiter_of waiter = record { call = waiter.call; instance = waiter.instance }

-- the calls that wait, in their order
abbrev pub waiters_of : List Waiter → List GroupWaiter
waiters_of waiting = map waiter_of waiting

-- the instance of the application of this UUID, with its number
abbrev pub shared_of : List ℕ → Shared → ℕ × Instance
shared_of uuid shared = (shared.number, instance_of uuid shared.kept)

abbrev pub app_in : GroupSolo → Application
app_in s = application_of s.app

-- how many calls have come in
abbrev pub entered_in : GroupSolo → ℕ
entered_in s = length s.calls.items

-- all of it but the calls
abbrev pub without_calls : GroupSolo → Group
without_calls s = record {
  sessions = sessions_of s.sessions.items;
  instance = option_map (shared_of (uuid_of (app_in s))) s.instance;
  waiting = waiters_of s.waiting.items;
  calls = [];
  entered = entered_in s;
  next_session = s.next_session;
  next_instance = s.next_instance;
  key = s.key;
}

-- ---- all of it

-- all of it but the calls is the machine's
abbrev pub IsBeside : GroupSolo → Group → Type 0
IsBeside s g = record g { calls = [] } ≡ without_calls s

-- the call that has a number, if one has it: none has come in with it, or that one has gone out ended
abbrev pub IsCallAt : Option (Option (Box KeptCall)) → Option GroupCall → Type 0
IsCallAt None None = Unit {0}
IsCallAt (Some None) None = Unit {0}
IsCallAt (Some (Some kept)) (Some call) = IsGroupCall kept.value call
IsCallAt _ _ = ⊥

-- it stands for the machine
pub record StandsFor (s : GroupSolo) (g : Group) : Type 0 where
  pub beside : IsBeside s g
  pub calls : (number : ℕ) → IsCallAt (slice_get s.calls.items number) (get g.calls number)

-- no buffer of a call has more bytes
abbrev pub IsShortGroup : ℕ → Group → Type 0
IsShortGroup longest g =
    (number : ℕ) (call : GroupCall) → get g.calls number ≡ Some call → IsShortPhase longest call.phase

-- what holds of its numbers: a call has 32 bits. Those of sessions rise, and were given, at most one to a call, as were
-- those of instances
pub record IsNumbered (g : Group) : Type 0 where
  pub few : g.entered ≤ 2 ^ 32
  pub rising : IsRising g.sessions
  pub given : AllByRecursion (λ (entry : ℕ × GroupSession). entry.0 < g.next_session) g.sessions
  pub called : (number : ℕ) (call : GroupCall) → get g.calls number ≡ Some call → call.session < g.entered
  pub sessions : g.next_session ≤ g.entered
  pub instances : g.next_instance ≤ g.entered + 1

-- it stands for a machine that something can happen to
pub record IsGroup (s : GroupSolo) (g : Group) : Type 0 where
  pub stands : StandsFor s g
  pub numbered : IsNumbered g
  pub short : IsShortGroup s.longest g
  pub valid : IsValidApp (app_in s)

-- some machine
pub record IsSomeGroup (s : GroupSolo) : Type 0 where
  pub group : Group
  pub is : IsGroup s group

-- ---- with a call taken out

-- it stands for the machine, but for the call of this number, which is taken out
pub record IsAside (s : GroupSolo) (number : ℕ) (g : Group) : Type 0 where
  pub beside : IsBeside s g
  pub out : slice_get s.calls.items number ≡ Some None
  pub others : (other : ℕ) → (other ≡ number → ⊥) → IsCallAt (slice_get s.calls.items other) (get g.calls other)

-- with the call of this number, which is taken out, it stands for what one machine comes to, and no other call is
-- another
pub record ComesTo (s : GroupSolo) (kept : KeptCall) (number : ℕ) (before after : Group) : Type 0 where
  pub beside : IsBeside s after
  pub call : GroupCall
  pub is : IsGroupCall kept call
  pub calls : after.calls ≡ insert before.calls number call

-- the call as data is the machine's of this number by now, and nothing else of that is another
pub record HasCall (kept : KeptCall) (number : ℕ) (before after : Group) : Type 0 where
  pub call : GroupCall
  pub is : IsGroupCall kept call
  pub has : after ≡ with_call before number call

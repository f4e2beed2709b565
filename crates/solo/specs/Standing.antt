-- When the plain code of a session stands for the machine of the session.
use Rattle.std.specs.Prelude.{◌≡◌, ℕ, List, [], Option, Some, None, length, slice_get}
use Rattle.std.specs.Global.{Box}
use Rattle.std.specs.Option.{option_map}
use Rattle.base.specs.NumberMap.{get, insert}
use Rattle.begin_call.specs.Begins.{IsValidApp}
use Rattle.kernel_model.specs.Application.{Application, uuid_of}
use Rattle.kernel_model.specs.Kernel.{Instance}
use Rattle.kernel_state.specs.Calls.{bytes_of}
use Rattle.kernel_state.specs.Setup.{application_of}
use Rattle.own_model.specs.InOrder.{IsInOrder}
use Rattle.own_model.specs.Solo.{OwnCall, OwnSession, Solo, with_call}
use Rattle.rpc_cont.specs.Conts.{kept_memory}
use Rattle.rpc_cont.specs.declared.cont.Cont.{Cont}
use Rattle.solo.specs.Calls.{IsCall}
use Rattle.solo.specs.Short.{IsShortSolo}
use Rattle.solo.specs.declared.kept_session.KeptSession.{KeptSession}
use Rattle.solo.specs.declared.kept_instance.KeptInstance.{KeptInstance}
use Rattle.solo.specs.declared.solo_session.SoloSession.{SoloSession}

-- ---- the parts

-- the session
abbrev pub session_of : KeptSession → OwnSession
session_of kept = record { login = kept.login; context = kept.context; opened = kept.opened }

-- the instance, of the application of this UUID
abbrev pub instance_of : List ℕ → KeptInstance → Instance
instance_of uuid kept = record {
  uuid = uuid;
  dead = kept.dead;
  holder = kept.holder;
  memory = kept_memory bytes_of kept.memory;
  objects = kept.objects;
}

-- the application
abbrev pub app_in : SoloSession → Application
app_in s = application_of s.app

-- how many calls have come in
abbrev pub entered_in : SoloSession → ℕ
entered_in s = length s.calls.items

-- all of it but the calls
abbrev pub without_calls : SoloSession → Solo
without_calls s = record {
  session = option_map session_of s.session;
  instance = option_map (instance_of (uuid_of (app_in s))) s.instance;
  waiting = s.waiting.items;
  calls = [];
  entered = entered_in s;
  key = s.key;
}

-- ---- all of it

-- all of it but the calls is the machine's
abbrev pub IsBeside : SoloSession → Solo → Type 0
IsBeside s solo = record solo { calls = [] } ≡ without_calls s

-- the call that has a number, if one has it: none has come in with it, or that one has gone out ended
abbrev pub IsCallAt : Option (Option (Box (Cont (List ℕ)))) → Option OwnCall → Type 0
IsCallAt None None = Unit {0}
IsCallAt (Some None) None = Unit {0}
IsCallAt (Some (Some cont)) (Some call) = IsCall cont.value call
IsCallAt _ _ = ⊥

-- it stands for the machine
pub record StandsFor (s : SoloSession) (solo : Solo) : Type 0 where
  pub beside : IsBeside s solo
  pub calls : (number : ℕ) → IsCallAt (slice_get s.calls.items number) (get solo.calls number)

-- it stands for a machine that something can happen to
pub record IsSolo (s : SoloSession) (solo : Solo) : Type 0 where
  pub stands : StandsFor s solo
  pub order : IsInOrder solo
  pub short : IsShortSolo s.longest solo
  pub valid : IsValidApp (app_in s)

-- some machine
pub record IsSomeSolo (s : SoloSession) : Type 0 where
  pub solo : Solo
  pub is : IsSolo s solo

-- ---- with a call taken out

-- it stands for the machine, but for the call of this number, which is taken out
pub record IsAside (s : SoloSession) (number : ℕ) (solo : Solo) : Type 0 where
  pub beside : IsBeside s solo
  pub out : slice_get s.calls.items number ≡ Some None
  pub others : (other : ℕ) → (other ≡ number → ⊥) → IsCallAt (slice_get s.calls.items other) (get solo.calls other)

-- with the call of this number, which is taken out, it stands for what one machine comes to, and no other call is
-- another
pub record ComesTo (s : SoloSession) (cont : Cont (List ℕ)) (number : ℕ) (before after : Solo) : Type 0 where
  pub beside : IsBeside s after
  pub call : OwnCall
  pub is : IsCall cont call
  pub calls : after.calls ≡ insert before.calls number call

-- the call as data is the machine's of this number by now, and nothing else of that is another
pub record HasCall (cont : Cont (List ℕ)) (number : ℕ) (before after : Solo) : Type 0 where
  pub call : OwnCall
  pub is : IsCall cont call
  pub has : after ≡ with_call before number call

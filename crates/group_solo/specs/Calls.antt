-- When a call as data stands for a call of the machine of a group.
use Rattle.std.specs.Prelude.{◌≡◌}
use Rattle.group_model.specs.Group.{GroupCall}
use Rattle.own_model.specs.Solo.{OwnCall}
use Rattle.solo.specs.Calls.{IsCall}
use Rattle.group_solo.specs.declared.kept_call.KeptCall.{KeptCall}

-- what a call has by itself, wherever its session and its instance are
abbrev pub alone : GroupCall → OwnCall
alone call = record {
  kind = call.kind;
  seen = call.seen;
  steps = call.steps;
  area = call.area;
  buffer = call.buffer;
  phase = call.phase;
}

-- the call as data is this one
pub record IsGroupCall (kept : KeptCall) (call : GroupCall) : Type 0 where
  pub alone : IsCall kept.cont (alone call)
  pub session : kept.session ≡ call.session
  pub instance : kept.instance ≡ call.instance
  pub room : kept.room ≡ call.room

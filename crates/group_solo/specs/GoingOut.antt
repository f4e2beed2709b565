-- A call that goes out.
use Rattle.std.specs.Prelude.{◌≡◌}
use Rattle.group_model.specs.Group.{Going, Group}
use Rattle.group_solo.specs.Calls.{IsGroupCall}
use Rattle.group_solo.specs.Standing.{IsBeside}
use Rattle.group_solo.specs.declared.group.GroupSolo.{GroupSolo}
use Rattle.group_solo.specs.declared.kept_call.KeptCall.{KeptCall}

-- the machine and its call, before that goes out; the calls are those that were
pub record IsGoing (s : GroupSolo) (kept : KeptCall) (before : Group) (going : Going) : Type 0 where
  pub beside : IsBeside s going.group
  pub is : IsGroupCall kept going.call
  pub calls : going.group.calls ≡ before.calls

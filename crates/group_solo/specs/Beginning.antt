-- What a call begins with on the instance that the sessions share.
use Rattle.std.specs.Prelude.{◌≡◌, ℕ, ◌+◌, List, [], ◌∷◌, ◌++◌, Some, None, if◌then◌else◌}
use Rattle.base.specs.NumberMap.{NumberMap, insert}
use Rattle.group_model.specs.Group.{Group, GroupCall, GroupSession, Start, begins_on, start_at, with_call}
use Rattle.job_model.specs.Beginning.{Beginning}
use Rattle.job_model.specs.declared.entry_point.EntryPoint.{EntryPoint}
use Rattle.kernel_model.specs.Application.{Application, program_of}
use Rattle.kernel_model.specs.Kernel.{Instance, Runs}
use Rattle.rpc_cont.specs.Conts.{kept_params}
use Rattle.rpc_cont.specs.declared.cont.Cont.{Cont}
use Rattle.group_solo.specs.Standing.{waiter_of}
use Rattle.group_solo.specs.declared.waiter.Waiter.{Waiter}
use Rattle.ta_params.specs.declared.copied_params.CopiedParams.{CopiedParams}
use Rattle.tee_storage.specs.declared.handle.Handle.{Handle}

-- what a call begins on
abbrev pub from_start : Application → Start → Instance → Beginning
from_start app start instance = record {
  program = if instance.dead then None else Some (program_of app);
  memory = instance.memory;
  seen = start.seen;
}

-- what a call has that begins, of its session, the instance and the machine
pub record HasStart (cont : Cont (List ℕ)) (kept : NumberMap Handle) (start : Start) (instance : Instance) : Type 0 where
  pub login : start.login ≡ cont.login
  pub context : start.context ≡ cont.context
  pub objects : instance.objects ≡ kept
  pub params : start.params ≡ kept_params cont.params
  pub key : start.key ≡ cont.key

-- a call that waits with these parameters, in a session that is there, and the instance with its number
pub record Beginner : Type 0 where
  pub number : ℕ
  pub call : GroupCall
  pub session : GroupSession
  pub params : CopiedParams
  pub there : ℕ × Instance

-- it holds the instance and runs these entry points
abbrev pub begun : Application → Group → Beginner → List EntryPoint → Group
begun app g b points =
    let start = start_at g b.number b.session b.params b.call.seen in
    let begun = begins_on app g start b.there.0 b.there.1 points in
    with_call begun.group b.number (record b.call { phase = Runs begun.job })

-- the machine after a call has got the next number
abbrev pub counted : Group → Group
counted g = record g { entered = g.entered + 1 }

-- the machine after this call has come in and waits so
abbrev pub with_waiter : Group → Waiter → GroupCall → Group
with_waiter g waiter call = record g {
  waiting = g.waiting ++ waiter_of waiter ∷ [];
  entered = g.entered + 1;
  calls = insert g.calls g.entered call;
}

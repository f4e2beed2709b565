-- What a call of the group that comes back is given, and what it has seen, whatever it comes to.
use Rattle.std.proofs.Common.{◌≡◌, ℕ, true, Option, refl}
use Rattle.std.specs.Prelude.{◌||◌}
use Rattle.base.specs.NumberMap.{NumberMap}
use Rattle.kernel_model.specs.Given.{Buffer, Given, NoBuffer, Nothing, Reply, call_given}
use Rattle.kernel_model.specs.Kernel.{PendingCall}
use Rattle.kernel_model.specs.Resume.{phase_seen, sees}
use Rattle.kernel_model.proofs.Parts.{if-both}
use Rattle.own_model.specs.Own.{input_of}
use Rattle.own_model.specs.Solo.{is_buffer}
use Rattle.group_model.specs.Group.{GroupCall}
use Rattle.group_model.specs.Tied.{CallsAlike}

-- ---- what is given

-- the machine's call with the buffer that it was given
abbrev pub own_given : Given → GroupCall → GroupCall
own_given given own = record own { buffer = is_buffer (input_of given) || own.buffer }

pub given_alike : (sessions instances : NumberMap ℕ) (kept : Option ℕ) (given : Given) (call : PendingCall)
    (own : GroupCall) → CallsAlike sessions instances kept call own
    → CallsAlike sessions instances kept (call_given given call) (own_given given own)
given_alike sessions instances kept Nothing call own alike = alike
given_alike sessions instances kept (Buffer buffer) call own alike = record {
  homes = alike.homes;
  kinds = alike.kinds;
  seen = alike.seen;
  areas = alike.areas;
  buffers = refl;
  phases = alike.phases;
  flagged = alike.flagged;
}
given_alike sessions instances kept NoBuffer call own alike = alike
given_alike sessions instances kept (Reply reply) call own alike = alike

-- the call is in the same session and on the same instance, and of the same kind
pub record IsSameCall (now call : PendingCall) : Type 0 where
  pub session : now.session ≡ call.session
  pub instance : now.instance ≡ call.instance
  pub kinds : now.kind ≡ call.kind
  pub uuid : now.uuid ≡ call.uuid

sees_same : (call : PendingCall) → IsSameCall (sees call) call
sees_same call =
    if-both (λ (now : PendingCall). IsSameCall now call) call.marked
    (record call { seen = true; phase = phase_seen call.phase }) call
    (record { session = refl; instance = refl; kinds = refl; uuid = refl })
    (record { session = refl; instance = refl; kinds = refl; uuid = refl })

pub given_same : (given : Given) (call : PendingCall) → IsSameCall (call_given given (sees call)) call
given_same Nothing call = sees_same call
given_same (Buffer buffer) call =
    let seen = sees_same call in
    record { session = seen.session; instance = seen.instance; kinds = seen.kinds; uuid = seen.uuid }
given_same NoBuffer call = sees_same call
given_same (Reply reply) call = sees_same call

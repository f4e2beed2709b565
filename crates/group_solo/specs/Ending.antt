-- What a call leaves as it ends.
use Rattle.std.specs.Prelude.{◌==◌, ℕ, Bool, false, Option, None, find, if◌then◌else◌}
use Rattle.std.specs.Option.{option_map, option_map_or}
use Rattle.group_model.specs.Group.{Group, GroupWaiter, instance_at, instance_back, sessions_ended, sessions_panicked, sessions_unrun}
use Rattle.job_model.specs.declared.call_kind.CallKind.{CallKind}
use Rattle.job_model.specs.declared.call_kind.CallKind.TheVariants as kind
use Rattle.kernel_model.specs.Instances.{given_back, is_held, killed}
use Rattle.job_model.specs.Steps.{End}
use Rattle.kernel_model.specs.Kernel.{Instance}
use Rattle.group_solo.specs.declared.kept_call.KeptCall.{KeptCall}

-- whom a call of this kind wakes that leaves the instance of this number
abbrev pub is_woken : Group → ℕ → CallKind → Option ℕ
is_woken g instance kind.Settled = None
is_woken g instance _ =
    if option_map_or is_held (instance_at g instance) false
    then None
    else option_map (λ (waiter : GroupWaiter). waiter.call)
    (find (λ (waiter : GroupWaiter). waiter.instance == instance) g.waiting)

-- the machine once the instance of this number, changed so, was given back
abbrev pub with_instance_back : Group → ℕ → Bool → (Instance → Instance) → Group
with_instance_back g number is_last change = record g {
  instance = option_map_or (λ instance. instance_back g.sessions is_last number (change instance)) (instance_at g number) g.instance;
}

-- where a call is: its kind, and the numbers of its session and its instance
pub record Whose : Type 0 where
  pub kind : CallKind
  pub session : ℕ
  pub instance : ℕ

abbrev pub home_of : KeptCall → Whose
home_of kept = record { kind = kept.cont.kind; session = kept.session; instance = kept.instance }

-- all of it but the calls, after the job of a call has ended so
abbrev pub after_end : Group → Whose → End → Group
after_end g call end =
    with_instance_back (record g { sessions = sessions_ended call.kind g.sessions call.session end }) call.instance end.is_last
    (given_back end.memory end.objects)

-- after it has panicked
abbrev pub after_panic : Group → Whose → Group
after_panic g call =
    with_instance_back (record g { sessions = sessions_panicked call.kind g.sessions call.session }) call.instance false killed

-- and after it has ended without having run
abbrev pub after_unrun : Group → Whose → Group
after_unrun g call = record g { sessions = sessions_unrun call.kind g.sessions call.session }

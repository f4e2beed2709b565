-- What is known of a kernel that a legal history has come to, and of the machine then, before the next event.
use Rattle.std.proofs.Common.{◌≡◌, ℕ, ◌*◌, ◌≤◌, false, true, List, length, Option, Some, ap, inl, inr, ◌∙◌}
use Rattle.std.specs.Option.{option_map_or}
use Rattle.event_journal.specs.declared.event.Event.{Event}
use Rattle.kernel_model.specs.Application.{Application, Booted, uuid_of}
use Rattle.kernel_model.specs.History.{kernel_after}
use Rattle.kernel_model.specs.Instances.{is_single}
use Rattle.kernel_model.specs.Kernel.{CallPhase, Kernel, PendingCall, Waits}
use Rattle.kernel_model.specs.Sound.{unmarked_at}
use Rattle.kernel_model.specs.SoundWaiters.{awaited, awaited_in}
use Rattle.kernel_model.proofs.SoundCallsJoined.{all_joined}
use Rattle.kernel_model.proofs.SoundNumbers.{numbered}
use Rattle.kernel_model.proofs.SoundOrder.{in_order}
use Rattle.kernel_model.proofs.SoundSingles.{OneEach, all_single}
use Rattle.kernel_model.proofs.SoundSteps.{steps_granted}
use Rattle.kernel_model.proofs.SoundWaiters.{waiting}
use Rattle.group_model.specs.Group.{Group}
use Rattle.group_model.specs.InOrder.{IsInOrder}
use Rattle.realm_model.specs.Realm.{AllSessions, OneSession, Realm}
use Rattle.realm_model.specs.Laws.{About, IsRealm, SharesAs}
use Rattle.realm_model.specs.Histories.{IsReady}
use Rattle.realm_model.specs.Tied.{HasAll}
use Rattle.group_model.specs.Resumes.{IsAwaitedAlone}
use Rattle.kernel_model.specs.Instances.{app_of}

-- where it has all sessions of its application, they share an instance
single_of : (realm : Realm) (app : Application) → SharesAs realm app → HasAll realm → is_single app ≡ true
single_of (OneSession member) app shares all = absurd all
single_of (AllSessions of) app shares all = shares.0

-- of an application whose sessions share an instance no two are kept or waited for
awaited_alone : (boot : Booted) (app : Application) (kernel : Kernel) → app_of boot (uuid_of app) ≡ Some app
    → is_single app ≡ true
    → OneEach boot (unmarked_at kernel.slots) kernel.tables.instances → IsAwaitedAlone app kernel
awaited_alone boot app kernel of_boot single one_each slot call params there waits_there uuid number instance kept same =
    one_each (uuid_of app) call.instance number
    (ap (λ (o : Option Application). option_map_or is_single o false) of_boot ∙ single)
    (inr (slot, awaited_is)) (inl (instance, kept, same))
  where
    awaited_is : awaited (unmarked_at kernel.slots slot) ≡ Some (call.instance, Some (uuid_of app))
    awaited_is =
        ap (λ (o : Option PendingCall). awaited o) there
        ∙ ap (λ (p : CallPhase). awaited_in p (call.instance, call.uuid)) waits_there
        ∙ ap (λ (u : Option (List ℕ)). awaited_in (Waits params) (call.instance, u)) uuid

pub ready_at : (boot : Booted) (about : About) (past : List Event) (kernel : Kernel) (g : Group)
    → IsRealm boot about.members → kernel_after boot past ≡ Some kernel → 1000000 * length past ≤ about.most → IsInOrder g
    → IsReady about (length past) kernel g
ready_at boot about past kernel g shares there most order = record {
  sound = record { numbers = numbered boot past kernel there; order = in_order boot past kernel there };
  fitting = record {
    joined = all_joined boot past kernel there;
    waiters = waiting boot past kernel there;
    alone = λ all.
        awaited_alone boot about.members.app kernel shares.of_boot
        (single_of about.members.realm about.members.app shares.shares all) (all_single boot past kernel there);
    rising = (in_order boot past kernel there).sessions.rising;
  };
  steps = steps_granted boot past kernel there;
  most = most;
  order = order;
}

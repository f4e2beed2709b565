-- A kernel that has booted is tied to the machine of each realm: no number was given on either side.
use Rattle.std.proofs.Common.{◌≡◌, ℕ, zero, suc, List, [], Some, None, refl}
use Rattle.std.specs.Prelude.{replicate}
use Rattle.std.proofs.lemmas.List.Elements.{All-nil}
use Rattle.session_table.specs.declared.waiters.Waiter.{Waiter}
use Rattle.kernel_model.specs.Kernel.{Free, Instance, PendingCall}
use Rattle.own_model.specs.Tied.{call_at}
use Rattle.group_model.specs.Group.{nobody_there}
use Rattle.realm_model.specs.Realm.{AllSessions, OneSession, Realm}
use Rattle.realm_model.specs.Laws.{AsRealm, BootsAreTied}
use Rattle.realm_model.specs.Tied.{IsOfRealm}

none_there : {P : Type 0} {X : Type 0} (x : X) → None ≡ Some x → P
none_there x e = absurd cc

none_in : (count slot : ℕ) (call : PendingCall) → call_at (replicate count Free) slot ≡ Some call → ⊥
none_in zero slot call e = absurd cc
none_in (suc count) zero call e = absurd cc
none_in (suc count) (suc slot) call e = none_in count slot call e

-- nor has one session an instance, or a machine in which anybody is
nobody_yet : (realm : Realm) (key : List ℕ) → AsRealm realm 0 [] (nobody_there key)
nobody_yet (OneSession member) key = record {
  lone = λ first second own other has too. none_there own has;
  runs = λ number own params there kinds waits. none_there own there;
  fresh = λ none. (refl, refl);
}
nobody_yet (AllSessions app) key = tt

pub boots_tied : BootsAreTied
boots_tied boot about = record {
  instances = [];
  tied = record {
    sessions = record {
      alike = λ number own has. none_there own has;
      all = λ own session has. none_there session has;
      others = λ number session found none. none_there session found;
      rising = refl;
    };
    named = λ session number has. none_there number has;
    instances = record {
      alike = λ number own has. none_there own has;
      all = λ own instance is. none_there _ is;
      of_app = All-nil (λ (one : ℕ × Instance). IsOfRealm about.members [] one.0 one.1.uuid);
    };
    calls = record {
      own = λ slot number has. none_there number has;
      apart = λ first second number has again. none_there number has;
      all = λ number own has. none_there own has;
    };
    waiters = record {
      calls = refl;
      instances_of = refl;
      of_app = All-nil (λ (waiter : Waiter). IsOfRealm about.members [] waiter.instance waiter.uuid);
    };
    kept = λ slot woken kept. none_there woken kept;
    others = λ slot call found none. absurd (none_in boot.threads slot call found);
    entered = refl;
    next_session = refl;
    session_names = record {
      given = λ number own has. none_there own has;
      apart = λ first second own has again. none_there own has;
    };
    instance_names = record {
      given = λ number own has. none_there own has;
      apart = λ first second own has again. none_there own has;
    };
    key = refl;
  };
  as_realm = nobody_yet about.members.realm about.key;
}

-- What leaves a kernel and the machine of a realm tied: slots and tables may change where they aren't the realm's.
use Rattle.std.proofs.Common.{◌≡◌, ℕ, List, Option, Some, None, ap, subst, sym, ◌∙◌}
use Rattle.std.specs.Prelude.{All, map}
use Rattle.base.specs.NumberMap.{get}
use Rattle.session_table.specs.declared.session.Session.{Session}
use Rattle.session_table.specs.declared.waiters.Waiter.{Waiter}
use Rattle.realm_model.specs.Tied.{Members}
use Rattle.kernel_model.specs.Kernel.{Instance, Tables, ThreadSlot}
use Rattle.own_model.specs.Tied.{FoundAlike}
use Rattle.group_model.specs.Group.{Group, GroupCall}
use Rattle.group_model.specs.Line.{AreNames}
use Rattle.group_model.specs.Tied.{CallsAlike, Names, SessionsFoundAlike, found_at}
use Rattle.realm_model.specs.Tied.{IsOfRealm, Tied, waiting_of}
use Rattle.group_model.proofs.Waits.{same_marked}
use Rattle.group_model.proofs.Kept.{KeepsSlots, calls_kept}

-- the realm's sessions, instances and waiters are as they were, and no others are on an instance of it
pub record KeepsTables (members : Members) (names : Names) (before after : Tables) : Type 0 where
  pub sessions : (number own : ℕ) → get names.sessions number ≡ Some own →
      get after.sessions number ≡ get before.sessions number
  pub other_sessions : (number : ℕ) (session : Session) → get after.sessions number ≡ Some session →
      get names.sessions number ≡ None → get names.instances session.instance ≡ None
  pub instances : (number own : ℕ) → get names.instances number ≡ Some own →
      get after.instances number ≡ get before.instances number
  pub of_app : All (λ (one : ℕ × Instance). IsOfRealm members names.instances one.0 one.1.uuid) after.instances
  pub waiting : waiting_of names.instances after.waiters
      ≡ waiting_of names.instances before.waiters
  pub waiters : All (λ (waiter : Waiter). IsOfRealm members names.instances waiter.instance waiter.uuid) after.waiters
  pub session_names : AreNames names.sessions before.next_session names.next_session →
      AreNames names.sessions after.next_session names.next_session
  pub instance_names : (own_next : ℕ) → AreNames names.instances before.next_instance own_next →
      AreNames names.instances after.next_instance own_next

pub stays_tied : (members : Members) (names : Names) (slots slots_after : List ThreadSlot) (tables tables_after : Tables)
    (g : Group) → KeepsSlots names slots slots_after → KeepsTables members names tables tables_after
    → Tied members names slots tables g → Tied members names slots_after tables_after g
stays_tied members names slots slots_after tables tables_after g kept_slots kept tied = record {
  sessions = record {
    alike = λ number own has.
        subst (λ (o : Option Session). SessionsFoundAlike names.instances o (get g.sessions own))
        (sym (kept.sessions number own has)) (tied.sessions.alike number own has);
    all = tied.sessions.all;
    others = kept.other_sessions;
    rising = tied.sessions.rising;
  };
  named = tied.named;
  instances = record {
    alike = λ number own has.
        subst (λ (o : Option Instance). FoundAlike names.numbering.in_slots o (found_at g.instance own))
        (sym (kept.instances number own has)) (tied.instances.alike number own has);
    all = tied.instances.all;
    of_app = kept.of_app;
  };
  calls = calls_kept GroupCall (CallsAlike names.sessions names.instances) names.numbering slots slots_after g.calls
      (same_marked names.sessions names.instances) kept_slots.calls tied.calls;
  waiters = record {
    calls = ap (λ (ws : List Waiter). map (λ (w : Waiter). get names.numbering.in_slots w.slot) ws) kept.waiting
        ∙ tied.waiters.calls;
    instances_of = ap (λ (ws : List Waiter). map (λ (w : Waiter). get names.instances w.instance) ws) kept.waiting
        ∙ tied.waiters.instances_of;
    of_app = kept.waiters;
  };
  kept = tied.kept;
  others = kept_slots.others;
  entered = tied.entered;
  next_session = tied.next_session;
  session_names = kept.session_names tied.session_names;
  instance_names = kept.instance_names g.next_instance tied.instance_names;
  key = tied.key;
}

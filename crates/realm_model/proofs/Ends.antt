-- What the end of a call makes of the realm's instance is what the machine makes of its own.
use Rattle.std.proofs.Common.{◌≡◌, ℕ, Bool, true, false, not, List, Option, Some, None, refl, ap, subst, sym, ◌∙◌}
use Rattle.std.specs.Prelude.{◌==◌, ◌&&◌, ◌||◌, if◌then◌else◌}
use Rattle.std.specs.Option.{option_map_or}
use Rattle.std.proofs.lemmas.Bool.Decides.{Decides-eqb}
use Rattle.base.specs.NumberMap.{NumberMap, get, insert, remove}
use Rattle.base.proofs.MapLemmas.{All-get, All-insert, All-remove}
use Rattle.session_table.specs.declared.session.Session.{Session}
use Rattle.realm_model.specs.Tied.{Members}
use Rattle.kernel_model.specs.Exit.{gives_back}
use Rattle.kernel_model.specs.Instances.{instances_after, given_back, killed}
use Rattle.kernel_model.specs.Kernel.{Instance, PendingCall, Tables, ThreadSlot}
use Rattle.kernel_model.specs.Sessions.{has_opened}
use Rattle.own_model.proofs.InOrder.{by_numbers}
use Rattle.own_model.proofs.Maps.{get-insert-other, get-insert-same, get-remove-other, get-remove-same}
use Rattle.own_model.specs.Tied.{FoundAlike, InstancesAlike}
use Rattle.group_model.specs.Group.{Group, GroupCall, GroupSession, instance_back}
use Rattle.group_model.specs.Group as machine
use Rattle.group_model.specs.Tied.{Names}
use Rattle.realm_model.specs.Tied.{AreTiedInstances, IsOfRealm}
use Rattle.group_model.specs.Tied.{found_at}
use Rattle.realm_model.specs.Tied.{Tied}
use Rattle.group_model.proofs.Alike.{AreApart, opened_same}
use Rattle.realm_model.proofs.CallChanges.{tables_change}
use Rattle.group_model.proofs.Ends.{NoOther, SessionsGo, one_there}
use Rattle.job_model.specs.Steps.{End}

-- ---- the instance

-- a change that makes alike instances alike, of the same application
pub record ChangesAlike (numbers : NumberMap ℕ) (change : Instance → Instance) : Type 0 where
  pub alike : (kept own : Instance) → InstancesAlike numbers kept own
      → InstancesAlike numbers (change kept) (change own)
  pub uuid : (kept : Instance) → (change kept).uuid ≡ kept.uuid

pub given_alike : (numbers : NumberMap ℕ) (end : End) → ChangesAlike numbers (given_back end.memory end.objects)
given_alike numbers end = record {
  alike = λ kept own alike.
      record { uuid = alike.uuid; dead = alike.dead; holders = tt; memory = refl; objects = refl };
  uuid = λ kept. refl;
}

pub killed_alike : (numbers : NumberMap ℕ) → ChangesAlike numbers killed
killed_alike numbers = record {
  alike = λ kept own alike. record { uuid = alike.uuid; dead = refl; holders = tt; memory = refl; objects = refl };
  uuid = λ kept. refl;
}

same_some : (a b : ℕ) → Some a ≡ Some b → a ≡ b
same_some a b e = cc

same_pair : (a b : ℕ × Instance) → Some a ≡ Some b → a ≡ b
same_pair a b e = cc

is_itself : (a : ℕ) → (a == a) ≡ true
is_itself a = (Decides-eqb a a).1 refl

differs : (a b : ℕ) → (a ≡ b → ⊥) → (test : Bool) → (a == b) ≡ test → test ≡ false
differs a b apart false is = refl
differs a b apart true is = absurd (apart ((Decides-eqb a b).0 is))

-- ---- the instance

-- what the machine has under another number than the instance's is nothing
found_elsewhere : (one number : ℕ) (instance : Instance) → (one ≡ number → ⊥)
    → found_at (Some (one, instance)) number ≡ None
found_elsewhere one number instance apart =
    ap (λ b. if b then Some instance else None) (differs one number apart (one == number) refl)

found_here : (number : ℕ) (instance : Instance) → found_at (Some (number, instance)) number ≡ Some instance
found_here number instance = ap (λ b. if b then Some instance else None) (is_itself number)

-- where one is there, there is no other
pub no_other : (members : Members) (names in_slots : NumberMap ℕ) (kept : NumberMap Instance)
    (own : Option (ℕ × Instance)) (number own_number : ℕ) (instance : Instance) → AreApart names
    → get names number ≡ Some own_number → found_at own own_number ≡ Some instance
    → AreTiedInstances members names in_slots kept own → NoOther names in_slots kept number
no_other members names in_slots kept own number own_number instance apart named found tied = λ at own_at has other.
    subst (λ (o : Option Instance). FoundAlike in_slots (get kept at) o)
    (ap (λ (o : Option (ℕ × Instance)). found_at o own_at) (one_there own own_number instance found)
    ∙ found_elsewhere own_number own_at instance
    (λ same. other (apart number at own_at (named ∙ ap (λ n. Some n) same) has)))
    (tied.alike at own_at has)

-- one that is alike comes under this number
pub instance_put : (members : Members) (names in_slots : NumberMap ℕ) (kept : NumberMap Instance)
    (own : Option (ℕ × Instance)) (number own_number : ℕ) (instance own_instance : Instance) → AreApart names
    → get names number ≡ Some own_number → NoOther names in_slots kept number
    → InstancesAlike in_slots instance own_instance → IsOfRealm members names number instance.uuid
    → AreTiedInstances members names in_slots kept own
    → AreTiedInstances members names in_slots (insert kept number instance) (Some (own_number, own_instance))
instance_put members names in_slots kept own number own_number instance own_instance apart named alone alike of_app tied =
    record {
      alike = λ at own_at has.
          by_numbers number at
          (λ same. found_both in_slots (get (insert kept number instance) at) (Some instance)
          (found_at (Some (own_number, own_instance)) own_at) (Some own_instance)
          (ap (λ n. get (insert kept number instance) n) (sym same) ∙ get-insert-same kept number instance)
          (ap (λ n. found_at (Some (own_number, own_instance)) n)
          (same_some own_at own_number (sym has ∙ ap (λ n. get names n) (sym same) ∙ named))
          ∙ found_here own_number own_instance) alike)
          (λ other. found_both in_slots (get (insert kept number instance) at) (get kept at)
          (found_at (Some (own_number, own_instance)) own_at) None
          (get-insert-other kept number instance at other)
          (found_elsewhere own_number own_at own_instance
          (λ same. other (apart number at own_at (named ∙ ap (λ n. Some n) same) has)))
          (alone at own_at has other));
      all = λ own_at there is. (
        number,
        named ∙ ap (λ (p : ℕ × Instance). Some p.0)
            (same_pair (own_number, own_instance) (own_at, there) is),
      );
      of_app = All-insert (λ (one : ℕ × Instance). IsOfRealm members names one.0 one.1.uuid) kept number instance
          tied.of_app of_app;
    }
  where
    found_both : (numbers : NumberMap ℕ) (a b c d : Option Instance) → a ≡ b → c ≡ d → FoundAlike numbers b d
        → FoundAlike numbers a c
    found_both numbers a b c d first second both =
        subst (λ (o : Option Instance). FoundAlike numbers o c) (sym first)
        (subst (λ (o : Option Instance). FoundAlike numbers b o) (sym second) both)

-- it goes
instance_gone : (members : Members) (names in_slots : NumberMap ℕ) (kept : NumberMap Instance)
    (own : Option (ℕ × Instance)) (number : ℕ) → NoOther names in_slots kept number
    → AreTiedInstances members names in_slots kept own → AreTiedInstances members names in_slots (remove kept number) None
instance_gone members names in_slots kept own number alone tied = record {
  alike = λ at own_at has.
      by_numbers number at
      (λ same. subst (λ (o : Option Instance). FoundAlike in_slots o None)
      (sym (get-remove-same kept number) ∙ ap (λ n. get (remove kept number) n) same) tt)
      (λ other. subst (λ (o : Option Instance). FoundAlike in_slots o None) (sym (get-remove-other kept number at other))
      (alone at own_at has other));
  all = λ own_at there is. absurd cc;
  of_app = All-remove (λ (one : ℕ × Instance). IsOfRealm members names one.0 one.1.uuid) kept number tied.of_app;
}

put_back : (members : Members) (names in_slots : NumberMap ℕ) (instances : NumberMap Instance)
    (own : Option (ℕ × Instance)) (number own_number : ℕ) (kept own_instance : Instance) (gone : Bool) → AreApart names
    → get names number ≡ Some own_number → NoOther names in_slots instances number
    → InstancesAlike in_slots kept own_instance → IsOfRealm members names number kept.uuid
    → AreTiedInstances members names in_slots instances own
    → AreTiedInstances members names in_slots (if gone then remove instances number else insert instances number kept)
    (if gone then None else Some (own_number, own_instance))
put_back members names in_slots instances own number own_number kept own_instance true apart named alone alike of_app tied =
    instance_gone members names in_slots instances own number alone tied
put_back members names in_slots instances own number own_number kept own_instance false apart named alone alike of_app tied =
    instance_put members names in_slots instances own number own_number kept own_instance apart named alone alike of_app tied

-- what an instance that is given back comes to
back_so : (members : Members) (session_names names in_slots : NumberMap ℕ) (sessions : NumberMap Session)
    (own_sessions : NumberMap GroupSession) (instances : NumberMap Instance) (own : Option (ℕ × Instance))
    (number own_number : ℕ) (is_last : Bool) (change : Instance → Instance) (found own_found : Option Instance)
    → AreApart names → get names number ≡ Some own_number → SessionsGo session_names names sessions own_sessions
    → ChangesAlike in_slots change → get instances number ≡ found → found_at own own_number ≡ own_found
    → FoundAlike in_slots found own_found → AreTiedInstances members names in_slots instances own
    → AreTiedInstances members names in_slots
    (option_map_or (λ (kept : Instance). instances_after sessions instances number is_last (change kept)) found instances)
    (option_map_or (λ (kept : Instance). instance_back own_sessions is_last own_number (change kept)) own_found own)
back_so members session_names names in_slots sessions own_sessions instances own number own_number is_last change None None
    apart named go changes there own_there alike tied = tied
back_so members session_names names in_slots sessions own_sessions instances own number own_number is_last change None
    (Some own_kept) apart named go changes there own_there alike tied = absurd alike
back_so members session_names names in_slots sessions own_sessions instances own number own_number is_last change (Some kept)
    None apart named go changes there own_there alike tied = absurd alike
back_so members session_names names in_slots sessions own_sessions instances own number own_number is_last change (Some kept)
    (Some own_kept) apart named go changes there own_there alike tied =
    let now = changes.alike kept own_kept alike in
    let same : (is_last || ((change kept).dead && not (has_opened sessions number)))
    ≡ (is_last || ((change own_kept).dead && not (machine.has_opened own_sessions own_number))) =
    ap (λ b. is_last || (b && not (has_opened sessions number))) now.dead
    ∙ ap (λ b. is_last || ((change own_kept).dead && not b))
    (opened_same session_names names sessions own_sessions number own_number go.rising apart named go.tied) in
    let of_app : IsOfRealm members names number (change kept).uuid =
    subst (λ (u : List ℕ). IsOfRealm members names number u) (sym (changes.uuid kept))
    (All-get (λ (one : ℕ × Instance). IsOfRealm members names one.0 one.1.uuid) instances number kept tied.of_app there) in
    subst (λ b. AreTiedInstances members names in_slots (instances_after sessions instances number is_last (change kept))
    (if b then None else Some (own_number, change own_kept))) same
    (put_back members names in_slots instances own number own_number (change kept) (change own_kept)
    (is_last || ((change kept).dead && not (has_opened sessions number))) apart named
    (no_other members names in_slots instances own number own_number own_kept apart named own_there tied) now of_app tied)

-- ---- the tables

-- these are the sessions, and a call gives its instance back
pub gives_back_tied : (members : Members) (names : Names) (slots : List ThreadSlot) (tables : Tables) (g : Group)
    (call : PendingCall) (own : GroupCall) (sessions : NumberMap Session) (own_sessions : NumberMap GroupSession)
    (is_last : Bool) (change : Instance → Instance) → get names.instances call.instance ≡ Some own.instance
    → SessionsGo names.sessions names.instances sessions own_sessions → ChangesAlike names.numbering.in_slots change
    → Tied members names slots tables g
    → Tied members names slots (gives_back tables call sessions is_last change)
    (machine.gives_back g own own_sessions is_last change)
gives_back_tied members names slots tables g call own sessions own_sessions is_last change on go changes tied =
    let back = back_so members names.sessions names.instances names.numbering.in_slots sessions own_sessions tables.instances
    g.instance call.instance own.instance is_last change (get tables.instances call.instance)
    (found_at g.instance own.instance) tied.instance_names.apart on go changes refl refl
    (tied.instances.alike call.instance own.instance on) tied.instances in
    tables_change members names slots tables (gives_back tables call sessions is_last change) g own_sessions
    (machine.gives_back g own own_sessions is_last change).instance g.waiting tied go.tied back tied.waiters refl refl

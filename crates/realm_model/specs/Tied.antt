-- When a kernel and the machine of a realm are tied: what either does next at an event of the realm is the same, and no other
-- event unties them. They are from the boot on, when neither has anything. The tie goes by the names of sessions and
-- instances alone: what has no name is none of the realm's. This project's own.
use Rattle.std.specs.Prelude.{◌≡◌, ℕ, List, Option, Some, IsSome, is_some, map, filter, All}
use Rattle.base.specs.NumberMap.{NumberMap, get}
use Rattle.session_table.specs.declared.waiters.Waiter.{Waiter}
use Rattle.kernel_model.specs.Application.{Application, uuid_of}
use Rattle.kernel_model.specs.Kernel.{Instance, Tables, ThreadSlot}
use Rattle.own_model.specs.Tied.{FoundAlike}
use Rattle.group_model.specs.Group.{Group, GroupWaiter}
use Rattle.group_model.specs.Line.{AreKept, AreNames, AreTiedCalls}
use Rattle.group_model.specs.Tied.{AreOthers, AreTiedSessions, CallsAlike, IsTold, Names, found_at}
use Rattle.realm_model.specs.Realm.{AllSessions, OneSession, Realm, number_in}

-- a realm, and the application of its members
pub record Members : Type 0 where
  pub realm : Realm
  pub app : Application

-- ---- names

-- whoever has a number has the one that the realm gives
abbrev pub AreMembers : Realm → NumberMap ℕ → Type 0
AreMembers realm numbers = (session number : ℕ) → get numbers session ≡ Some number →
    number_in realm numbers session ≡ Some number

-- the realm has all sessions of the application, and so all its instances
abbrev pub HasAll : Realm → Type 0
HasAll (OneSession member) = ⊥
HasAll (AllSessions app) = Unit {0}

-- an instance with a name is of the application; and where the realm has all, one of the application has a name
pub record IsOfRealm (members : Members) (names : NumberMap ℕ) (number : ℕ) (uuid : List ℕ) : Type 0 where
  pub of_app : IsSome (get names number) → uuid ≡ uuid_of members.app
  pub named : HasAll members.realm → uuid ≡ uuid_of members.app → IsSome (get names number)

-- ---- the instance

-- the realm's instance is the machine's. There is one at most, since the machine has no more; of a held one neither has
-- memory and objects, which are in the job of the holder
pub record AreTiedInstances (members : Members) (names : NumberMap ℕ) (in_slots : NumberMap ℕ)
    (kept : NumberMap Instance) (own : Option (ℕ × Instance)) : Type 0 where
  pub alike : (number own_number : ℕ) → get names number ≡ Some own_number →
      FoundAlike in_slots (get kept number) (found_at own own_number)
  pub all : (own_number : ℕ) (instance : Instance) → own ≡ Some (own_number, instance) →
      (number : ℕ) × (get names number ≡ Some own_number)
  pub of_app : All (λ (one : ℕ × Instance). IsOfRealm members names one.0 one.1.uuid) kept

-- ---- those that wait

-- the calls that wait for an instance with a name
abbrev pub waiting_of : NumberMap ℕ → List Waiter → List Waiter
waiting_of instances waiters = filter (λ waiter. is_some (get instances waiter.instance)) waiters

-- they are the machine's, in their order, each for its instance, which may be gone
pub record AreTiedWaiters (members : Members) (instances : NumberMap ℕ) (in_slots : NumberMap ℕ) (waiters : List Waiter)
    (waiting : List GroupWaiter) : Type 0 where
  pub calls : map (λ (waiter : Waiter). get in_slots waiter.slot) (waiting_of instances waiters)
      ≡ map (λ (own : GroupWaiter). Some own.call) waiting
  pub instances_of : map (λ (waiter : Waiter). get instances waiter.instance) (waiting_of instances waiters)
      ≡ map (λ (own : GroupWaiter). Some own.instance) waiting
  pub of_app : All (λ (waiter : Waiter). IsOfRealm members instances waiter.instance waiter.uuid) waiters

-- ---- all of it

-- the slots and the tables of a kernel and the machine of the realm are tied
pub record Tied (members : Members) (names : Names) (slots : List ThreadSlot) (tables : Tables) (g : Group) : Type 0 where
  -- its sessions are the machine's, opened or not, with the same login and context, and each is a member
  pub sessions : AreTiedSessions names.sessions names.instances tables.sessions g.sessions
  pub named : AreMembers members.realm names.sessions
  -- its instance is, dead exactly where the machine's is, with the same memory and objects
  pub instances : AreTiedInstances members names.instances names.numbering.in_slots tables.instances g.instance
  -- its calls in the slots are the machine's, which may be behind in steps
  pub calls : AreTiedCalls (CallsAlike names.sessions names.instances) names.numbering slots g.calls
  -- so are those that wait; whom a call wakes is kept from the first telling of its result on
  pub waiters : AreTiedWaiters members names.instances names.numbering.in_slots tables.waiters g.waiting
  pub kept : AreKept IsTold names.numbering g.calls
  -- nobody else has a session or an instance of it
  pub others : AreOthers names.sessions names.instances names.numbering.in_slots slots
  -- as many calls and sessions have come in, and all numbers were given
  pub entered : names.numbering.entered ≡ g.entered
  pub next_session : names.next_session ≡ g.next_session
  pub session_names : AreNames names.sessions tables.next_session names.next_session
  pub instance_names : AreNames names.instances tables.next_instance g.next_instance
  -- the machine was made with the boot's key
  pub key : g.key ≡ names.key

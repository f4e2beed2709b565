-- The session that an argument names, found in the tables of the code.
use Rattle.std.proofs.Common.{◌≡◌, ℕ, true, false, [], ◌∷◌, map, cond, Option, Some, None, refl, ap}
use Rattle.std.proofs.lemmas.Bool.{eq-eqb}
use Rattle.std.specs.Option.{option_and_then, option_map}
use Rattle.std.specs.Ordering.{nat_cmp, eq_by_cmp}
use Rattle.base.specs.NumberMap.{NumberMap, get}
use Rattle.kernel_model.specs.Decision.{Taken}
use Rattle.kernel_model.specs.Kernel.{Instance}
use Rattle.kernel_model.specs.Sessions.{opened_by}
use Rattle.kernel_model.specs.NewCall.{NewCall, named_session}
use Rattle.new_calls.specs.Deciding.{taken_in_session}
use Rattle.kernel_state.specs.Tables.{instance_of}
use Rattle.session_table.specs.declared.session.Session.{Session}
use Rattle.ta_instances.specs.declared.instance.Instance.{Instance as AnyInstance}

abbrev seen : NumberMap AnyInstance → NumberMap Instance
seen m = map (λ (kept : ℕ × AnyInstance). (kept.0, instance_of kept.1)) m

-- an instance as the kernel has it
pub instance_at : (m : NumberMap AnyInstance) (number : ℕ) → get (seen m) number ≡ option_map instance_of (get m number)
instance_at [] number = refl
instance_at (e ∷ es) number =
    elim (eq_by_cmp nat_cmp number e.0) as (λ b. cond b (Some (instance_of e.1)) (get (seen es) number) ≡ option_map instance_of (cond b (Some e.1) (get es number))) [
      | true ↦ refl
      | false ↦ instance_at es number
    ]

pub named_found : (c : NewCall) (session : Session) (instance : Instance) → get c.tables.sessions c.head.session ≡ Some session →
    session.opened ≡ true → session.client ≡ c.client → get c.tables.instances session.instance ≡ Some instance →
    named_session c ≡ Some (session, instance)
named_found c session instance found opened own held =
    let same = eq-eqb session.client c.client own in rw (found, opened, same, held) refl

pub named_lost : (c : NewCall) (session : Session) → get c.tables.sessions c.head.session ≡ Some session →
    session.opened ≡ true → session.client ≡ c.client → get c.tables.instances session.instance ≡ None →
    named_session c ≡ None
named_lost c session found opened own lost =
    let same = eq-eqb session.client c.client own in rw (found, opened, same, lost) refl

abbrev with_it : Session → Option Instance → Option (Session × Instance)
with_it found o = option_map (λ i. (found, i)) o

abbrev beside_it : NewCall → Session → Option (Session × Instance)
beside_it c found = with_it found (get c.tables.instances found.instance)

abbrev session_or : Session → Option (Session × Instance) → Session
session_or other None = other
session_or other (Some named) = named.0

abbrev instance_in : Option (Session × Instance) → Option Instance
instance_in None = None
instance_in (Some named) = Some named.1

paired : (o : Option Instance) (found session : Session) (instance : Instance) → with_it found o ≡ Some (session, instance) →
    (found ≡ session) × (o ≡ Some instance)
paired None found session instance e = absurd (cc)
paired (Some i) found session instance e = (ap (session_or found) e, ap instance_in e)

beside : (c : NewCall) (o : Option Session) (session : Session) (instance : Instance) →
    option_and_then (beside_it c) o ≡ Some (session, instance) →
    get c.tables.instances session.instance ≡ Some instance
beside c None session instance e = absurd (cc)
beside c (Some found) session instance e =
    let w = paired (get c.tables.instances found.instance) found session instance e in rw (← w.0) w.1

-- the instance of a named session is kept
pub named_kept : (c : NewCall) (session : Session) (instance : Instance) → named_session c ≡ Some (session, instance) →
    get c.tables.instances session.instance ≡ Some instance
named_kept c session instance e = beside c (opened_by c.tables.sessions c.head.session c.client) session instance e

-- what begins there
pub begins_there : (c : NewCall) (session : Session) (instance : Instance) (begins : Session × Instance → Taken) →
    named_session c ≡ Some (session, instance) → begins (session, instance) ≡ taken_in_session c session begins
begins_there c session instance begins e = let kept = named_kept c session instance e in rw kept refl

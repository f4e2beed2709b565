-- Events to which the machine of a realm doesn't reply, in a row.
use Rattle.std.proofs.Common.{◌≡◌, List, [], ◌∷◌, ◌++◌, Option, Some, None, refl, ap, subst, sym, ◌∙◌}
use Rattle.std.specs.Prelude.{map}
use Rattle.std.specs.Option.{option_map, option_and_then}
use Rattle.group_model.specs.Group.{Answered, Group, and_reply, run, silent, step}
use Rattle.realm_model.specs.Reading.{Logged}
use Rattle.realm_model.specs.declared.realm_event.RealmEvent.TheVariants.{Comes}
use Rattle.group_model.specs.declared.group_event.GroupEvent.{GroupEvent}
use Rattle.realm_model.specs.Laws.{About, events_in, replies_in}
use Rattle.group_model.proofs.MoreSteps.{Ended, behind}

abbrev pub unanswered : GroupEvent → Logged
unanswered came = (Comes came, None)

-- as they are logged
abbrev pub silently : List GroupEvent → List Logged
silently events = map unanswered events

pub events_silent : (events : List GroupEvent) → events_in (silently events) ≡ events
events_silent [] = refl
events_silent (came ∷ events) = ap (λ (rest : List GroupEvent). came ∷ rest) (events_silent events)

pub replies_silent : (events : List GroupEvent) → replies_in (silently events) ≡ []
replies_silent [] = refl
replies_silent (came ∷ events) = replies_silent events

-- by them the machine comes to this
abbrev pub Silently : About → Group → List GroupEvent → Group → Type 0
Silently about g [] next = g ≡ next
Silently about g (came ∷ events) next =
    (between : Group) × (step about.most about.members.app g came ≡ Some (silent between)) × Silently about between events next

pub silently_on : (about : About) (g between next : Group) (first second : List GroupEvent)
    → Silently about g first between → Silently about between second next → Silently about g (first ++ second) next
silently_on about g between next [] second on onward =
    subst (λ (z : Group). Silently about z second next) (sym on) onward
silently_on about g between next (came ∷ events) second on onward =
    (on.0, on.1, silently_on about on.0 between next events second on.2 onward)

pub silently_runs : (about : About) (g next : Group) (events : List GroupEvent) → Silently about g events next
    → run about.most about.members.app g events ≡ Some (next, [])
silently_runs about g next [] on = ap (λ (z : Group). Some (z, [])) on
silently_runs about g next (came ∷ events) on =
    ap (λ (o : Option Answered). option_and_then (behind about.most about.members.app events) o) on.1
    ∙ ap (λ (o : Option Ended). option_map (λ (rest : Ended). (rest.0, and_reply None rest.1)) o)
    (silently_runs about on.0 next events on.2)

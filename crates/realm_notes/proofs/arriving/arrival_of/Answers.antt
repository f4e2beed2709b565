use Rattle.std.proofs.Common.{◌≡◌, Bool, List, ℕ, Option, ap, sym, ◌∙◌}
use Rattle.group_model.specs.declared.group_event.GroupEvent.{GroupEvent}
use Rattle.realm_model.specs.declared.realm_event.RealmEvent.{RealmEvent}
use Rattle.realm_model.specs.declared.realm_event.RealmEvent.TheVariants.{Comes}
use Rattle.realm_notes.specs.Arriving.{arrival_of}
use Rattle.realm_notes.specs.declared.arriving.Arrival.{Arrival}
use Rattle.realm_notes.specs.declared.arriving.Arrival.TheVariants.{New}
use Rattle.realm_notes.proofs.arriving.arrival_of.Goals as goal

-- a new event, by its parts
abbrev new_by : RealmEvent → Option (List ℕ) → Bool → Arrival
new_by event opens gets = New (record { event = event; opens = opens; gets = gets })

pub returns-in_ok-event-in-Some : goal.returns-in_ok-event-in-Some
returns-in_ok-event-in-Some c noted are =
    let opens = c.opens_in-opens in
    let gets = c.gets_session-gets in
    let is : c.in_ok-event-in-Some.event ≡ Comes c.in-Some.came = c.in_ok-event-in-Some.ensures in
    ap (λ (e : RealmEvent). new_by e opens.result gets.result) is
    ∙ ap (λ (o : Option (List ℕ)). new_by (Comes c.in-Some.came) o gets.result) opens.ensures
    ∙ ap (new_by (Comes c.in-Some.came) _) gets.ensures
    ∙ ap (arrival_of c.args.call) (sym c.in-Some.is ∙ c.event_of.ensures noted are)

pub returns-in-None : goal.returns-in-None
returns-in-None c noted are =
    ap (λ (came : Option GroupEvent). arrival_of c.args.call came) (sym c.in-None.is ∙ c.event_of.ensures noted are)

-- Two realms of one application to which the same has happened were answered the same.
use Rattle.std.proofs.Common.{◌≡◌, ℕ, ◌+◌, ◌≤◌, List, Option, Some, ap, sym, ◌∙◌, arith}
use Rattle.std.specs.Option.{option_map}
use Rattle.kernel_model.specs.Application.{Application}
use Rattle.kernel_model.proofs.Parts.{option_map_some}
use Rattle.own_model.specs.Isolation.{steps_in}
use Rattle.group_model.proofs.MoreSteps.{Ended, more_steps_agree}
use Rattle.group_model.specs.Group.{group_machine_replies, nobody_there, run}
use Rattle.group_model.specs.declared.group_event.GroupEvent.{GroupEvent}
use Rattle.group_model.specs.declared.group_reply.GroupReply.{GroupReply}
use Rattle.realm_model.specs.Histories.{SameRealmEventsSameReplies}
use Rattle.realm_model.specs.Reading.{realm_events, realm_replies}
use Rattle.realm_model.proofs.Answered.{realms_answered}

first_more : (a b : ℕ) → a ≤ a + b
first_more a b = omega arith

second_more : (a b : ℕ) → b ≤ a + b
second_more a b = omega arith

-- given more steps to a job's stop, it replies the same
more_replies : (app : Application) (most more : ℕ) (key : List ℕ) (events : List GroupEvent) (replies : List GroupReply)
    → most ≤ more → group_machine_replies most app key events ≡ Some replies
    → group_machine_replies more app key events ≡ Some replies
more_replies app most more key events replies le e =
    let end = option_map_some (λ (last : Ended). last.1) (run most app (nobody_there key) events) replies e in
    ap (λ (o : Option Ended). option_map (λ (last : Ended). last.1) o)
    (more_steps_agree app most more (nobody_there key) end.0.0 events end.0.1 le end.1)
    ∙ ap (λ (all : List GroupReply). Some all) end.2

same_replies : (a b : List GroupReply) → Some a ≡ Some b → a ≡ b
same_replies a b e = cc

pub same_realm_replies : SameRealmEventsSameReplies
same_realm_replies boot another history other realm second app keys is more same =
    let most : ℕ = steps_in history + steps_in other in
    let one = more_replies app (steps_in history) most boot.key (realm_events boot history realm)
    (realm_replies boot history realm) (first_more (steps_in history) (steps_in other))
    (realms_answered boot history realm app is) in
    let two = more_replies app (steps_in other) most another.key (realm_events another other second)
    (realm_replies another other second) (second_more (steps_in history) (steps_in other))
    (realms_answered another other second app more) in
    same_replies (realm_replies boot history realm) (realm_replies another other second)
    (sym one ∙ ap (λ (events : List GroupEvent). group_machine_replies most app boot.key events) same
    ∙ ap (λ (key : List ℕ). group_machine_replies most app key (realm_events another other second)) keys ∙ two)

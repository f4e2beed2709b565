-- The machine of a session is that of a group which has this one session: over events in a row, either way.
use Rattle.std.proofs.Common.{◌≡◌, ℕ, false, List, [], ◌∷◌, Option, Some, None, refl, ap, subst, sym, ◌∙◌}
use Rattle.std.specs.Prelude.{All, IsSomeAnd, filter_map, is_some}
use Rattle.std.specs.Option.{option_map, option_and_then}
use Rattle.std.proofs.lemmas.List.Elements.{All-head, All-tail}
use Rattle.std.proofs.lemmas.Option.{option_and_then_some}
use Rattle.kernel_model.specs.Application.{Application}
use Rattle.kernel_model.specs.Instances.{is_single}
use Rattle.kernel_model.proofs.Parts.{option_map_some}
use Rattle.own_model.specs.Solo.{OwnCall, Solo, unopened}
use Rattle.own_model.specs.Solo as own
use Rattle.own_model.specs.declared.own_event.OwnEvent.{OwnEvent}
use Rattle.own_model.specs.declared.own_event.OwnEvent.TheVariants as own_event
use Rattle.own_model.specs.declared.own_reply.OwnReply.{OwnReply}
use Rattle.own_model.specs.declared.own_reply.OwnReply.TheVariants as reply
use Rattle.own_model.proofs.MoreSteps as own_runs
use Rattle.own_model.proofs.RepliesTold.{has_reply, steps_told}
use Rattle.group_model.specs.Group.{Answered, Group, and_reply, nobody_there, run, step}
use Rattle.group_model.specs.declared.group_event.GroupEvent.{GroupEvent}
use Rattle.group_model.specs.declared.group_reply.GroupReply.{GroupReply}
use Rattle.group_model.specs.Embedding.{CanAllCome, CanCome, IsFollowed, IsNoOpen, OpensFirst, RepliesAsAGroup, RepliesAsASession}
use Rattle.group_model.specs.Embedding.{answer_as, event_as, group_as, replies_as}
use Rattle.group_model.proofs.MoreSteps.{Ended, behind}
use Rattle.group_model.proofs.EmbeddedMachines.{can_come_at, refuses_at, same_answer, stays_followed, steps_as, steps_as_a_group}

-- ---- the one machine's run as the other's

-- a group's event with what comes behind it
goes_on : (most : ℕ) (app : Application) (g next : Group) (came : GroupEvent) (events : List GroupEvent)
    (told : Option GroupReply) (end : Ended) → step most app g came ≡ Some (next, told) → run most app next events ≡ Some end
    → run most app g (came ∷ events) ≡ Some (end.0, and_reply told end.1)
goes_on most app g next came events told end steps runs =
    ap (λ (o : Option Answered). option_and_then (behind most app events) o) steps
    ∙ ap (λ (o : Option Ended). option_map (λ (rest : Ended). (rest.0, and_reply told rest.1)) o) runs

-- the first of these replies goes with the first of these events
first_told : (event : OwnEvent) (told : Option OwnReply) (events : List OwnEvent) (rest : List OwnReply)
    → is_some told ≡ has_reply event
    → and_reply (answer_as event told) (replies_as events rest) ≡ replies_as (event ∷ events) (own.and_reply told rest)
first_told (own_event.Open params login area) None events rest is = refl
first_told (own_event.Open params login area) (Some told) events rest is = absurd cc
first_told (own_event.Invoke func input area) None events rest is = refl
first_told (own_event.Invoke func input area) (Some told) events rest is = absurd cc
first_told (own_event.Close area) None events rest is = refl
first_told (own_event.Close area) (Some told) events rest is = absurd cc
first_told own_event.Cancel None events rest is = refl
first_told own_event.Cancel (Some told) events rest is = absurd cc
first_told (own_event.Seen number done_by_now) None events rest is = refl
first_told (own_event.Seen number done_by_now) (Some told) events rest is = absurd cc
first_told (own_event.Back number input) None events rest is = refl
first_told (own_event.Back number input) (Some told) events rest is = absurd cc
first_told (own_event.Out number) None events rest is = absurd cc
first_told (own_event.Out number) (Some told) events rest is = refl
first_told own_event.Limited None events rest is = absurd cc
first_told own_event.Limited (Some told) events rest is = refl

-- a session's machine at an event that can come, with what it steps to
pub record Going (event : OwnEvent) : Type 0 where
  pub most : ℕ
  pub app : Application
  pub alone : is_single app ≡ false
  pub solo : Solo
  pub followed : IsFollowed solo
  pub can : CanCome solo event
  pub answered : own.Answered
  pub steps : own.step most app solo event ≡ Some answered

-- the group's machine with the events behind it, from where that is then, and from where it is now
abbrev GoesBehind : (event : OwnEvent) → Going event → List OwnEvent → Ended → Type 0
GoesBehind event h events end = run h.most h.app (group_as h.answered.0) (filter_map event_as events) ≡ Some end →
    run h.most h.app (group_as h.solo) (filter_map event_as (event ∷ events))
    ≡ Some (end.0, and_reply (answer_as event h.answered.1) end.1)

group_goes : (event : OwnEvent) (h : Going event) (came : GroupEvent) (events : List OwnEvent) (end : Ended)
    → event_as event ≡ Some came
    → run h.most h.app (group_as h.answered.0) (filter_map event_as events) ≡ Some end
    → run h.most h.app (group_as h.solo) (came ∷ filter_map event_as events)
    ≡ Some (end.0, and_reply (answer_as event h.answered.1) end.1)
group_goes event h came events end is runs =
    goes_on h.most h.app (group_as h.solo) (group_as h.answered.0) came (filter_map event_as events)
    (answer_as event h.answered.1) end
    (steps_as h.most h.app h.solo h.answered.0 h.answered.1 event came h.alone h.followed h.can h.steps is) runs

goes_behind : (event : OwnEvent) (h : Going event) (events : List OwnEvent) (end : Ended) → GoesBehind event h events end
goes_behind (own_event.Open params login area) h events end = λ runs. group_goes _ h _ events end refl runs
goes_behind (own_event.Invoke func input area) h events end = λ runs. group_goes _ h _ events end refl runs
goes_behind (own_event.Close area) h events end = λ runs. group_goes _ h _ events end refl runs
goes_behind own_event.Cancel h events end = λ runs. group_goes _ h _ events end refl runs
goes_behind (own_event.Seen number done_by_now) h events end = λ runs. group_goes _ h _ events end refl runs
goes_behind (own_event.Back number input) h events end = λ runs. group_goes _ h _ events end refl runs
goes_behind (own_event.Out number) h events end = λ runs. group_goes _ h _ events end refl runs
goes_behind own_event.Limited h events end = λ runs.
    ap (λ (z : Solo). run h.most h.app (group_as z) (filter_map event_as events))
    (ap (λ (answered : own.Answered). answered.0) (same_answer (h.solo, Some reply.Limited) h.answered h.steps)) ∙ runs

same_end : (a b : own_runs.Ended) → Some a ≡ Some b → a ≡ b
same_end a b e = cc

runs_as : (most : ℕ) (app : Application) (z : Solo) (events : List OwnEvent) (end : own_runs.Ended) → is_single app ≡ false
    → IsFollowed z → CanAllCome most app z events → own.run most app z events ≡ Some end
    → run most app (group_as z) (filter_map event_as events) ≡ Some (group_as end.0, replies_as events end.1)
runs_as most app z [] end alone followed can runs =
    ap (λ (last : own_runs.Ended). Some (group_as last.0, replies_as [] last.1)) (same_end (z, []) end runs)
runs_as most app z (event ∷ events) end alone followed can runs =
    option_and_then_some (own_runs.behind most app events) (own.step most app z event) end runs
    (λ answered steps onward.
    let rest = option_map_some (λ (rest : own_runs.Ended). (rest.0, own.and_reply answered.1 rest.1))
    (own.run most app answered.0 events) end onward in
    let later : CanAllCome most app answered.0 events =
    subst (λ (o : Option own.Answered). IsSomeAnd o (λ (a : own.Answered). CanAllCome most app a.0 events)) steps can.1 in
    let h : Going event = record {
      most = most;
      app = app;
      alone = alone;
      solo = z;
      followed = followed;
      can = can.0;
      answered = answered;
      steps = steps;
    } in
    goes_behind event h events (group_as rest.0.0, replies_as events rest.0.1)
    (runs_as most app answered.0 events rest.0 alone
    (stays_followed most app z answered.0 answered.1 event followed can.0 steps) later rest.1)
    ∙ ap (λ (said : List GroupReply). Some (group_as rest.0.0, said))
    (first_told event answered.1 events rest.0.1 (steps_told most app z event answered steps))
    ∙ ap (λ (last : own_runs.Ended). Some (group_as last.0, replies_as (event ∷ events) last.1)) rest.2)

pub replies_as_a_group : RepliesAsAGroup
replies_as_a_group most app key events replies alone can told =
    let end = option_map_some (λ (last : own_runs.Ended). last.1) (own.run most app (unopened key) events) replies told in
    ap (λ (o : Option Ended). option_map (λ (last : Ended). last.1) o)
    (runs_as most app (unopened key) events end.0 alone (steps_as_a_group.first key) can end.1)
    ∙ ap (λ (all : List OwnReply). Some (replies_as events all)) end.2

-- ---- the other way round

same_group_answer : (a b : Answered) → Some a ≡ Some b → a ≡ b
same_group_answer a b e = cc

-- these can come to each machine from which on the group's takes them
abbrev AllCanCome : ℕ → Application → List OwnEvent → Type 0
AllCanCome most app events = (next : Solo) (end : Ended) → IsFollowed next →
    run most app (group_as next) (filter_map event_as events) ≡ Some end → CanAllCome most app next events

-- behind an event that comes
others_can : (most : ℕ) (app : Application) (z : Solo) (event : OwnEvent) (came : GroupEvent) (events : List OwnEvent)
    (end : Ended) (answered : own.Answered)
    → is_single app ≡ false → IsFollowed z → event_as event ≡ Some came → CanCome z event
    → own.step most app z event ≡ Some answered → AllCanCome most app events
    → run most app (group_as z) (came ∷ filter_map event_as events) ≡ Some end → CanAllCome most app answered.0 events
others_can most app z event came events end answered alone followed is can steps all runs =
    option_and_then_some (behind most app (filter_map event_as events)) (step most app (group_as z) came) end runs
    (λ taken takes onward.
    let rest = option_map_some (λ (rest : Ended). (rest.0, and_reply taken.1 rest.1))
    (run most app taken.0 (filter_map event_as events)) end onward in
    let same : taken ≡ (group_as answered.0, answer_as event answered.1) =
    same_group_answer taken (group_as answered.0, answer_as event answered.1) (sym takes
    ∙ steps_as most app z answered.0 answered.1 event came alone followed can steps is) in
    all answered.0 rest.0 (stays_followed most app z answered.0 answered.1 event followed can steps)
    (ap (λ (a : Answered). run most app a.0 (filter_map event_as events)) (sym same) ∙ rest.1))

-- an event that is no open, with those behind it
one_can : (most : ℕ) (app : Application) (z : Solo) (event : OwnEvent) (came : GroupEvent) (events : List OwnEvent)
    (end : Ended)
    → is_single app ≡ false → IsFollowed z → IsNoOpen event → event_as event ≡ Some came → AllCanCome most app events
    → run most app (group_as z) (came ∷ filter_map event_as events) ≡ Some end
    → CanAllCome most app z (event ∷ events)
one_can most app z event came events end alone followed no_open is all runs = (can, by_step (own.step most app z event) refl)
  where
    can : CanCome z event
    can =
        option_and_then_some (behind most app (filter_map event_as events)) (step most app (group_as z) came) end runs
        (λ taken takes _. can_come_at most app z event came taken followed no_open is takes)

    by_step : (o : Option own.Answered) → own.step most app z event ≡ o
        → IsSomeAnd o (λ (answered : own.Answered). CanAllCome most app answered.0 events)
    by_step None refused =
        option_and_then_some (behind most app (filter_map event_as events)) (step most app (group_as z) came) end runs
        (λ taken takes _.
        let no : None ≡ Some taken = sym (refuses_at most app z event came alone followed no_open refused is) ∙ takes in
        absurd cc)
    by_step (Some answered) steps =
        others_can most app z event came events end answered alone followed is can steps all runs

-- an event with those behind it
event_can : (most : ℕ) (app : Application) (event : OwnEvent) (events : List OwnEvent) → is_single app ≡ false
    → IsNoOpen event → AllCanCome most app events → AllCanCome most app (event ∷ events)
event_can most app (own_event.Open params login area) events alone no_open rest =
    λ next end followed runs. absurd no_open
event_can most app (own_event.Invoke func input area) events alone no_open rest =
    λ next end followed runs.
    one_can most app next (own_event.Invoke func input area) _ events end alone followed tt refl rest runs
event_can most app (own_event.Close area) events alone no_open rest =
    λ next end followed runs. one_can most app next (own_event.Close area) _ events end alone followed tt refl rest runs
event_can most app own_event.Cancel events alone no_open rest =
    λ next end followed runs. one_can most app next own_event.Cancel _ events end alone followed tt refl rest runs
event_can most app (own_event.Seen number done_by_now) events alone no_open rest =
    λ next end followed runs.
    one_can most app next (own_event.Seen number done_by_now) _ events end alone followed tt refl rest runs
event_can most app (own_event.Back number input) events alone no_open rest =
    λ next end followed runs.
    one_can most app next (own_event.Back number input) _ events end alone followed tt refl rest runs
event_can most app (own_event.Out number) events alone no_open rest =
    λ next end followed runs. one_can most app next (own_event.Out number) _ events end alone followed tt refl rest runs
event_can most app own_event.Limited events alone no_open rest =
    λ next end followed runs. (tt, rest next end followed runs)

all_can : (most : ℕ) (app : Application) (events : List OwnEvent) → is_single app ≡ false → All IsNoOpen events
    → AllCanCome most app events
all_can most app [] alone no_opens = λ next end followed runs. tt
all_can most app (event ∷ events) alone no_opens =
    event_can most app event events alone (All-head IsNoOpen event events no_opens)
    (all_can most app events alone (All-tail IsNoOpen event events no_opens))

-- from the start on
pub first_can : (most : ℕ) (app : Application) (key : List ℕ) (events : List OwnEvent) (end : Ended) → is_single app ≡ false
    → OpensFirst events → run most app (nobody_there key) (filter_map event_as events) ≡ Some end
    → CanAllCome most app (unopened key) events
first_can most app key [] end alone opens runs = tt
first_can most app key (own_event.Open params login area ∷ events) end alone opens runs = (
  refl,
  others_can most app (unopened key) (own_event.Open params login area) _ events end
      (own.opens app (unopened key) params login area, None) alone (steps_as_a_group.first key) refl refl refl
      (all_can most app events alone opens) runs,
)
first_can most app key (own_event.Invoke func input area ∷ events) end alone opens runs =
    one_can most app (unopened key) (own_event.Invoke func input area) _ events end alone (steps_as_a_group.first key) tt refl
    (all_can most app events alone opens) runs
first_can most app key (own_event.Close area ∷ events) end alone opens runs =
    one_can most app (unopened key) (own_event.Close area) _ events end alone (steps_as_a_group.first key) tt refl
    (all_can most app events alone opens) runs
first_can most app key (own_event.Cancel ∷ events) end alone opens runs =
    one_can most app (unopened key) own_event.Cancel _ events end alone (steps_as_a_group.first key) tt refl
    (all_can most app events alone opens) runs
first_can most app key (own_event.Seen number done_by_now ∷ events) end alone opens runs =
    one_can most app (unopened key) (own_event.Seen number done_by_now) _ events end alone (steps_as_a_group.first key) tt
    refl (all_can most app events alone opens) runs
first_can most app key (own_event.Back number input ∷ events) end alone opens runs =
    one_can most app (unopened key) (own_event.Back number input) _ events end alone (steps_as_a_group.first key) tt refl
    (all_can most app events alone opens) runs
first_can most app key (own_event.Out number ∷ events) end alone opens runs =
    one_can most app (unopened key) (own_event.Out number) _ events end alone (steps_as_a_group.first key) tt refl
    (all_can most app events alone opens) runs
first_can most app key (own_event.Limited ∷ events) end alone opens runs =
    (tt, first_can most app key events end alone opens runs)

-- what can come is run through
some_more : (told : Option OwnReply) (o : Option own_runs.Ended) → IsSomeAnd o (λ (end : own_runs.Ended). Unit {0})
    → IsSomeAnd (option_map (λ (rest : own_runs.Ended). (rest.0, own.and_reply told rest.1)) o)
    (λ (end : own_runs.Ended). Unit {0})
some_more told None some = absurd some
some_more told (Some end) some = tt

steps_through : (most : ℕ) (app : Application) (events : List OwnEvent) (o : Option own.Answered)
    → ((next : Solo) → CanAllCome most app next events
    → IsSomeAnd (own.run most app next events) (λ (end : own_runs.Ended). Unit {0}))
    → IsSomeAnd o (λ (answered : own.Answered). CanAllCome most app answered.0 events)
    → IsSomeAnd (option_and_then (own_runs.behind most app events) o) (λ (end : own_runs.Ended). Unit {0})
steps_through most app events None rest later = absurd later
steps_through most app events (Some answered) rest later =
    some_more answered.1 (own.run most app answered.0 events) (rest answered.0 later)

runs_through : (most : ℕ) (app : Application) (z : Solo) (events : List OwnEvent) → CanAllCome most app z events
    → IsSomeAnd (own.run most app z events) (λ (end : own_runs.Ended). Unit {0})
runs_through most app z [] can = tt
runs_through most app z (event ∷ events) can =
    steps_through most app events (own.step most app z event)
    (λ next later. runs_through most app next events later) can.1

same_replies : (a b : List GroupReply) → Some a ≡ Some b → a ≡ b
same_replies a b e = cc

pub replies_as_a_session : RepliesAsASession
replies_as_a_session most app key events told alone opens says =
    let end = option_map_some (λ (last : Ended). last.1) (run most app (nobody_there key) (filter_map event_as events)) told says in
    let can = first_can most app key events end.0 alone opens end.1 in
    by_run (own.run most app (unopened key) events) refl (runs_through most app (unopened key) events can) can
  where
    by_run : (o : Option own_runs.Ended) → own.run most app (unopened key) events ≡ o
        → IsSomeAnd o (λ (end : own_runs.Ended). Unit {0}) → CanAllCome most app (unopened key) events
        → IsSomeAnd (option_map (λ (end : own_runs.Ended). end.1) o)
        (λ (replies : List OwnReply). told ≡ replies_as events replies)
    by_run None is some can = absurd some
    by_run (Some end) is some can =
        same_replies told (replies_as events end.1) (sym says ∙ replies_as_a_group most app key events end.1 alone can
        (ap (λ (o : Option own_runs.Ended). option_map (λ (last : own_runs.Ended). last.1) o) is))

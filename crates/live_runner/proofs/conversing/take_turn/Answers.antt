-- What was heard ends the conversation, or has its answer; and that is said, or ends it.
use Rattle.std.proofs.Common.{sym, ap, ◌∙◌}
use Rattle.line_port.specs.Faults.{faults_behind}
use Rattle.line_port.specs.Finish.{finish_of_said}
use Rattle.live_play.specs.Answer.{platform}
use Rattle.native_tas.specs.Table.{drivers, entries}
use Rattle.live_runner.proofs.Turned.{ended-hearing, ended-saying, ended-unanswered, faults-ended, faults-kept, heard-happens, heard-there, said-all}
use Rattle.live_runner.proofs.conversing.take_turn.Goals as goal

pub returns-in-Some-clause-turn : goal.returns-in-Some-clause-turn
returns-in-Some-clause-turn g c = λ here stands.
    ended-hearing (platform (entries c.args.natives.now) (drivers c.args.natives.now)) here c.hear-heard.result
    c.hear-heard.new.line.items c.in-Some.finish _ _ (sym c.in-Some.ensures) c.hear-heard.ensures.heard

pub answer-requires : goal.answer-requires
answer-requires g c =
    (c.requires.stands.0, record { player = c.requires.stands.1.player; watching = c.requires.stands.1.watching })

pub returns-in_default-answer-clause-turn : goal.returns-in_default-answer-clause-turn
returns-in_default-answer-clause-turn g c = λ here stands.
    let there = heard-there c.hear-heard.result c.hear-heard.new.line.items (sym c.in_default.ensures) in
    ended-unanswered (platform (entries c.args.natives.now) (drivers c.args.natives.now)) here there.0 _ _
    (heard-happens c.hear-heard.result c.hear-heard.new.line.items there.0 _ _ there.1 c.hear-heard.ensures.heard)

pub returns-in-None-clause-turn : goal.returns-in-None-clause-turn
returns-in-None-clause-turn g c = λ here stands.
    let there = heard-there c.hear-heard.result c.hear-heard.new.line.items (sym c.in_default.ensures) in
    said-all (platform (entries c.args.natives.now) (drivers c.args.natives.now)) here c.as_slice.result.now there.0
    c.answer.new.self c.say-said.result _ _ _
    (c.in-Ok.ensures here there.0 (record { player = stands.player; watching = stands.watching }) there.1)
    c.as_slice.ensures.value
    (heard-happens c.hear-heard.result c.hear-heard.new.line.items there.0 _ _ there.1 c.hear-heard.ensures.heard)
    (sym c.in-None.ensures) c.say-said.ensures.done

pub returns-in-Some-finish-clause-turn : goal.returns-in-Some-finish-clause-turn
returns-in-Some-finish-clause-turn g c = λ here stands.
    let there = heard-there c.hear-heard.result c.hear-heard.new.line.items (sym c.in_default.ensures) in
    ended-saying (platform (entries c.args.natives.now) (drivers c.args.natives.now)) here c.as_slice.result.now there.0
    c.answer.new.self c.say-said.result c.in-Some-finish.end _ _ _
    (c.in-Ok.ensures here there.0 (record { player = stands.player; watching = stands.watching }) there.1)
    c.as_slice.ensures.value
    (heard-happens c.hear-heard.result c.hear-heard.new.line.items there.0 _ _ there.1 c.hear-heard.ensures.heard)
    (sym c.in-Some-finish.ensures) c.say-said.ensures.failed c.say-said.ensures.memory

pub returns-in-Some-clause-faults : goal.returns-in-Some-clause-faults
returns-in-Some-clause-faults g c =
    faults-ended _ c.in-Some.finish _ _ (sym c.in-Some.ensures) c.hear-heard.ensures.faults

pub returns-in_default-answer-clause-faults : goal.returns-in_default-answer-clause-faults
returns-in_default-answer-clause-faults g c = faults-kept _ _ _ (sym c.in_default.ensures) c.hear-heard.ensures.faults

pub returns-in-None-clause-faults : goal.returns-in-None-clause-faults
returns-in-None-clause-faults g c =
    faults-kept _ _ _ (sym c.in-None.ensures) c.say-said.ensures.faults
    ∙ faults-kept _ _ _ (sym c.in_default.ensures) c.hear-heard.ensures.faults

pub returns-in-Some-finish-clause-faults : goal.returns-in-Some-finish-clause-faults
returns-in-Some-finish-clause-faults g c =
    faults-ended _ c.in-Some-finish.end _ _ (sym c.in-Some-finish.ensures) (c.say-said.ensures.faults
    ∙ ap (faults_behind (finish_of_said c.say-said.result)) (faults-kept _ _ _ (sym c.in_default.ensures) c.hear-heard.ensures.faults))

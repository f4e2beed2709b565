-- Each turn adds to the conversation, and the last one ends it.
use Rattle.std.proofs.Common.{Some, inr, refl, ap, ◌∙◌}
use Rattle.line_port.specs.Faults.{faults_behind}
use Rattle.line_port.specs.declared.finish.Finish.TheVariants as finish
use Rattle.live_play.specs.Answer.{platform}
use Rattle.live_play.specs.Showing.{first_position, position_behind}
use Rattle.native_tas.specs.Table.{drivers, entries}
use Rattle.live_runner.proofs.Plain.{plain-talks}
use Rattle.live_runner.proofs.Talked.{ends-unheard, going-first, going-more, shows-ended}
use Rattle.live_runner.proofs.conversing.live.Goals as goal

pub loop-init : goal.loop-init
loop-init g c = record {
  going_on = c.requires;
  faultless = refl;
  going = going-first (platform (entries c.args.natives.now) (drivers c.args.natives.now))
      (g.P.Port.told c.args.port.now) c.new-talk.result
      (c.new-talk.ensures (entries c.args.natives.now) (drivers c.args.natives.now));
}

pub take_turn-requires-clause-stands : goal.take_turn-requires-clause-stands
take_turn-requires-clause-stands g c =
    let on = platform (entries c.args.natives.now) (drivers c.args.natives.now) in
    (position_behind on first_position c.loop.invariant.going.inputs, c.loop.invariant.going.stands)

pub loop-preserved : goal.loop-preserved
loop-preserved g c = record {
  going_on = c.in_default.ensures.ends;
  faultless = c.in_default.ensures.faults ∙ c.loop.invariant.faultless;
  going = going-more _ _ _ _ _ _ c.loop.invariant.going c.in_default.ensures.turn;
}

pub returns-in-Err-clause-shows : goal.returns-in-Err-clause-shows
returns-in-Err-clause-shows g c =
    shows-ended _ _ _ _ _ c.in-Err.finish c.turns_are_told.ensures c.history_off_forgets_alone.ensures c.loop.invariant.going
    c.in-Err.ensures.turn

pub returns-in-Err-clause-talks : goal.returns-in-Err-clause-talks
returns-in-Err-clause-talks g c =
    plain-talks _ _ _ _ c.plain_conversations_are_as_before.ensures
    (shows-ended _ _ _ _ _ c.in-Err.finish c.turns_are_told.ensures c.history_off_forgets_alone.ensures c.loop.invariant.going
    c.in-Err.ensures.turn)

pub returns-in-Err-clause-faults : goal.returns-in-Err-clause-faults
returns-in-Err-clause-faults g c =
    c.in-Err.ensures.faults ∙ ap (faults_behind (Some c.in-Err.finish)) c.loop.invariant.faultless

pub returns-clause-shows : goal.returns-clause-shows
returns-clause-shows g c =
    shows-ended _ _ _ _ _ finish.Memory c.turns_are_told.ensures c.history_off_forgets_alone.ensures c.loop.invariant.going
    (λ here stands. ends-unheard _ here _)

pub returns-clause-talks : goal.returns-clause-talks
returns-clause-talks g c =
    plain-talks _ _ _ _ c.plain_conversations_are_as_before.ensures
    (shows-ended _ _ _ _ _ finish.Memory c.turns_are_told.ensures c.history_off_forgets_alone.ensures c.loop.invariant.going
    (λ here stands. ends-unheard _ here _))

pub returns-clause-ends : goal.returns-clause-ends
returns-clause-ends g c = inr (refl, c.loop.invariant.going_on)

pub returns-clause-faults : goal.returns-clause-faults
returns-clause-faults g c = c.loop.invariant.faultless

-- Nobody was told anything.
use Rattle.std.proofs.Common.{List, [], ap, sym, ◌∙◌}
use Rattle.std.specs.Prelude.{replicate, slice_index_or}
use Rattle.std.proofs.lemmas.List.{get_or-replicate, length-replicate}
use Rattle.event_journal.specs.declared.event.Event.{Event}
use Rattle.play_model.specs.Play.{last_answer}
use Rattle.trace_player.proofs.Answers.{same-told}
use Rattle.notify_player.proofs.player.NotifyPlayer.new.Goals as goal

pub returns-clause-stands : goal.returns-clause-stands
returns-clause-stands c = λ boot ds play at none new. record {
  at =
      same-told boot play (last_answer play.history)
      (λ cpu. slice_index_or (replicate boot.cpus (replicate 8 0)) cpu []) c.args.player
      (λ cpu below.
      ap (λ (h : List Event). last_answer h cpu) none ∙ sym (get_or-replicate boot.cpus cpu (replicate 8 0) [] below))
      at;
  count = length-replicate boot.cpus _;
  desk = new;
}

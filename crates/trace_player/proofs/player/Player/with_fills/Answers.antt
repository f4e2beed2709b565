-- A core has at most eight processors, none of which was told anything.
use Rattle.std.proofs.Common.{[], subst, sym}
use Rattle.core_machine.specs.Standing.{IsAt}
use Rattle.kernel_state.proofs.Told.{is_legal}
use Rattle.kernel_state.specs.Meaning.{booted_of}
use Rattle.play_model.proofs.Coming.{few_cpus}
use Rattle.play_model.specs.Play.{last_answer}
use Rattle.trace_player.proofs.Answers.{fewer-told}
use Rattle.trace_player.proofs.player.Player.with_fills.Goals as goal

pub returns-clause-stands : goal.returns-clause-stands
returns-clause-stands c =
    let core = c.args.core in
    record {
      machine = subst (IsAt (booted_of core) _) (sym c.new.ensures.machine) c.in_ok-with_fills.ensures.stands;
      answers = fewer-told (booted_of core).cpus 8 (last_answer []) c.new.result.answers
          (few_cpus (booted_of core) (is_legal core.parts core.replay).boots) c.new.ensures.answers;
    }

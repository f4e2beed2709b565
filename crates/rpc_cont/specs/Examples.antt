-- Examples of the definitions, worked out by hand.
use Rattle.std.specs.Prelude.{◌≡◌, true, false, [], ◌∷◌, Some, None}
use Rattle.job_model.specs.Point.{no_params}
use Rattle.job_model.specs.Job.{Native, Nothing}
use Rattle.native_tas.specs.declared.relation.Relation.TheVariants.{Fixed}
use Rattle.rpc_cont.specs.declared.phase.Phase.TheVariants as phase
use Rattle.rpc_cont.specs.Advancing.{phase_after}
use Rattle.rpc_cont.specs.Answering.{phase_behind}
use Rattle.rpc_cont.specs.Conts.{is_at_its_end, kept_params, native_body}
use Rattle.rpc_cont.specs.Resuming.{answer_in}
use Rattle.job_model.specs.declared.entry_point.EntryPoint.TheVariants as entry
use Rattle.rpc_cont.specs.declared.input.ResumeInput.TheVariants as input
use Rattle.rpc_cont.specs.declared.stop.ContStop.TheVariants as stop
use Rattle.rpc_msgs.specs.Answer.{NoBuffer}

pub record Examples : Type 0 where
  pub invokes_seven : native_body (Fixed 3) (Some (entry.Invoke 7)) ≡ Native (Fixed 3) 7
  pub nothing_to_close : native_body (Fixed 3) (Some entry.Close) ≡ Nothing
  pub no_parameters : kept_params None ≡ no_params
  -- a create was the last to run, so it has failed
  pub create_failed : is_at_its_end (Some entry.Create) [] ≡ true
  pub open_failed : is_at_its_end (Some entry.Destroy) [] ≡ true
  pub open_is_done : is_at_its_end (Some entry.Open) [] ≡ false
  -- a close of a built-in application, with a destroy behind it and without
  pub destroy_to_come : is_at_its_end None (entry.Destroy ∷ []) ≡ true
  pub nothing_to_come : is_at_its_end None [] ≡ false
  pub runs_on : phase_after stop.Interrupted ≡ phase.Runs
  pub panics : phase_after (stop.Panicked 3) ≡ phase.Ends
  pub asks_again : phase_behind (Some stop.Asks) ≡ phase.Asks
  pub without_a_buffer : answer_in input.NoBuffer ≡ Some NoBuffer
  pub with_a_buffer : answer_in (input.Buffer 0x40010000 77) ≡ None

-- The program that is left of a call at a step.
use Rattle.std.proofs.Common.{◌≡◌, Option, Some, None, refl}
use Rattle.std.specs.Option.{option_map}
use Rattle.tee_storage.specs.declared.step.StorageStep.{StorageStep}
use Rattle.tee_storage.specs.ObjectCalls.{shown}
use Rattle.tee_storage.specs.Program.{Program}
use Rattle.storage_law.specs.Laws.{step_of}
use Rattle.storage_law.proofs.GoingOn.{same_some}

pub record IsLeftAt (left : Option Program) (step : StorageStep) : Type 0 where
  pub end : Program
  pub is : left ≡ Some end
  pub at : (shown end).step ≡ step

pub left_at : (left : Option Program) (step : StorageStep) → step_of (option_map shown left) ≡ Some step → IsLeftAt left step
left_at None step e = absurd cc
left_at (Some end) step e = record { end = end; is = refl; at = same_some (shown end).step step e }

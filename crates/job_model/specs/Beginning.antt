-- How a call begins on its instance. This project's own.
use Rattle.std.specs.Prelude.{ℕ, Bool, List, [], ◌∷◌, Option, Some, None}
use Rattle.ta_isa.specs.declared.image.Image.{Image}
use Rattle.native_tas.specs.declared.relation.Relation.{Relation}
use Rattle.job_model.specs.declared.entry_point.EntryPoint.{EntryPoint}
use Rattle.job_model.specs.Job.{Job, image_job_at, native_job_at}

-- what an application is: an image, whose machine runs, or the relation of a native one
pub data Program : Type 0 where
  OfImage : (image : Image) → Program
  OfRelation : (relation : Relation) → Program

-- what a call begins on: the program of its instance, none where that is dead; its memory; and whether the call has
-- seen that it was cancelled
pub record Beginning : Type 0 where
  pub program : Option Program
  pub memory : List ℕ
  pub seen : Bool

-- its job at this entry point, with these behind it; of a dead instance nothing runs
abbrev pub job_starting_at : Beginning → Option Program → Job → EntryPoint → List EntryPoint → Job
job_starting_at from None job first behind = job
job_starting_at from (Some (OfImage image)) job first behind = image_job_at image from.memory from.seen job first behind
job_starting_at from (Some (OfRelation relation)) job first behind = native_job_at relation job first behind

-- its job from the first of these entry points on
abbrev pub begun_job : Beginning → Job → List EntryPoint → Job
begun_job from job [] = job
begun_job from job (first ∷ behind) = job_starting_at from from.program job first behind

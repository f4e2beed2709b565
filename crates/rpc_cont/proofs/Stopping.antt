-- What the stop of a machine leaves, by why it stopped.
use Rattle.std.proofs.Common.{◌≡◌, Option, sym, subst}
use Rattle.std.specs.Prelude.{IsSomeAnd}
use Rattle.job_model.specs.declared.entry_point.EntryPoint.{EntryPoint}
use Rattle.job_model.proofs.MachineRuns.{served-with_body}
use Rattle.job_model.specs.Job.{Body, Job}
use Rattle.job_model.specs.Steps.{Advance, after_run, new_request, advance_on_answers}
use Rattle.ta_isa.specs.declared.image.Image.{Image}
use Rattle.ta_step.specs.State.{State}
use Rattle.ta_step.specs.declared.stop.Request.{Request}
use Rattle.ta_step.specs.declared.stop.Stop.{Stop}
use Rattle.ta_step.specs.declared.stop.Stop.TheVariants as stop

pub stops_so : (job : Job) (image : Image) (here : EntryPoint) (machine : State) (why other : Stop) (P : Advance → Type 0)
    → why ≡ other → IsSomeAnd (after_run job image here machine other) P → IsSomeAnd (after_run job image here machine why) P
stops_so job image here machine why other P e holds = subst (λ (s : Stop). IsSomeAnd (after_run job image here machine s) P) (sym e) holds

-- a machine that asks, served with what runs or without
pub asks_so : (job : Job) (body : Body) (image : Image) (here : EntryPoint) (machine : State) (why : Stop) (request : Request) (P : Advance → Type 0)
    → why ≡ stop.Asks request
    → (let running = record job { body = body } in IsSomeAnd (advance_on_answers running image here machine (new_request running machine request)) P)
    → IsSomeAnd (after_run job image here machine why) P
asks_so job body image here machine why request P e holds =
    stops_so job image here machine why (stop.Asks request) P e
    (subst (λ (turn : Option Advance). IsSomeAnd turn P) (served-with_body job body image here machine (new_request job machine request)) holds)

-- What is asked of a call as data is a fact: there is one way at most in which it holds.
use Rattle.std.proofs.Common.{ℕ, Bool, List, Option, Some, None}
use Rattle.std.proofs.Props.{props}
use Rattle.job_model.specs.declared.entry_point.EntryPoint.{EntryPoint}
use Rattle.job_model.specs.declared.entry_point.EntryPoint.TheVariants as entry
use Rattle.rpc_cont.specs.Advancing.{CanAdvance, CanRun, IsInvoke, IsRunnable}
use Rattle.rpc_cont.specs.Answering.{CanBeAnswered, HasImage, HasObject, IsUnanswered}
use Rattle.rpc_cont.specs.declared.app.ContApp.{ContApp}
use Rattle.rpc_cont.specs.declared.app.ContApp.TheVariants as app
use Rattle.rpc_cont.specs.declared.cont.Cont.{Cont}
use Rattle.ta_isa.specs.Spelling.{IsValid}
use Rattle.ta_isa.specs.declared.image.Image.{Image}
use Rattle.ta_step.specs.State.{State}
use Rattle.ta_step.specs.declared.machine.Machine.{Machine}
use Rattle.ta_step.specs.declared.stop.Request.{Request}
use Rattle.ta_step.specs.declared.stop.Request.TheVariants as request
use Rattle.tee_storage.specs.States.{IsReady}
use Rattle.tee_storage.specs.Transfers.{IsWithinLimit}
use Rattle.tee_storage.specs.declared.state.ObjectState.{ObjectState}
use Rattle.tee_storage.specs.declared.waits.Tagging.{Tagging}
use Rattle.tee_storage.specs.declared.waits.Tagging.TheVariants.{Check, Make, Replace}
use Rattle.tee_storage.specs.declared.waits.Transfer.{Transfer}
use Rattle.tee_storage.specs.declared.waits.Waits.{Waits}
use Rattle.tee_storage.specs.declared.waits.Waits.TheVariants.{Nothing, Created, HeaderWritten, Opened, HeaderRead, PieceRead, DataRead, ReadChecked, WriteChecked, PieceWritten, TagWritten, NewHeaderWritten, Closed, ClosedToDelete, Removed}
use Rattle.kernel_state.specs.Calls.{bytes_of}

pub valid_prop : (image : Image) → IsProp (IsValid image)
valid_prop image = Prim.hlevel props

-- ---- a call that runs

invoke_prop : (point : EntryPoint) → IsProp (IsInvoke point)
invoke_prop entry.Create = Prim.hlevel props
invoke_prop entry.Open = Prim.hlevel props
invoke_prop (entry.Invoke func) = Prim.hlevel props
invoke_prop entry.Close = Prim.hlevel props
invoke_prop entry.Destroy = Prim.hlevel props

runnable_prop : (seen : Bool) (own : Option ContApp) (point : Option EntryPoint) (machine : Option (Machine (List ℕ))) →
    IsProp (IsRunnable bytes_of seen own point machine)
runnable_prop seen (Some (app.Image uuid image)) (Some point) machine = Prim.hlevel (props, valid_prop)
runnable_prop seen (Some (app.Native native)) (Some point) machine = Prim.hlevel (props, invoke_prop)
runnable_prop seen (Some (app.Dead uuid)) (Some point) machine = Prim.hlevel props
runnable_prop seen None (Some point) machine = Prim.hlevel props
runnable_prop seen None None machine = Prim.hlevel props
runnable_prop seen (Some (app.Image uuid image)) None machine = Prim.hlevel props
runnable_prop seen (Some (app.Native native)) None machine = Prim.hlevel props
runnable_prop seen (Some (app.Dead uuid)) None machine = Prim.hlevel props

can_run_prop : (own : Option ContApp) (cont : Cont (List ℕ)) → IsProp (CanRun bytes_of own cont)
can_run_prop own cont = Prim.hlevel (props, runnable_prop)

pub can_advance_prop : (cont : Cont (List ℕ)) → IsProp (CanAdvance bytes_of cont)
can_advance_prop cont = Prim.hlevel (props, can_run_prop)

-- ---- a call that has asked for something

image_prop : (own : Option ContApp) → IsProp (HasImage own)
image_prop None = Prim.hlevel props
image_prop (Some (app.Image uuid image)) = Prim.hlevel (props, valid_prop)
image_prop (Some (app.Native native)) = Prim.hlevel props
image_prop (Some (app.Dead uuid)) = Prim.hlevel props

limit_prop : (tagging : Tagging) (t : Transfer) → IsProp (IsWithinLimit tagging t)
limit_prop (Check kept) t = Prim.hlevel props
limit_prop (Make new) t = Prim.hlevel props
limit_prop (Replace kept new) t = Prim.hlevel props

ready_prop : (waits : Waits) (range : List ℕ) → IsProp (IsReady waits range)
ready_prop Nothing range = Prim.hlevel props
ready_prop (Created new key) range = Prim.hlevel props
ready_prop (HeaderWritten new fd) range = Prim.hlevel props
ready_prop (Opened new) range = Prim.hlevel props
ready_prop (HeaderRead new fd) range = Prim.hlevel props
ready_prop (PieceRead t) range = Prim.hlevel props
ready_prop (DataRead read) range = Prim.hlevel (props, limit_prop)
ready_prop (ReadChecked t tag) range = Prim.hlevel props
ready_prop (WriteChecked t tag new) range = Prim.hlevel props
ready_prop (PieceWritten t tag) range = Prim.hlevel props
ready_prop (TagWritten t) range = Prim.hlevel props
ready_prop (NewHeaderWritten t) range = Prim.hlevel props
ready_prop (Closed handle) range = Prim.hlevel props
ready_prop (ClosedToDelete handle name) range = Prim.hlevel props
ready_prop Removed range = Prim.hlevel props

object_prop : (machine : State) (wanted : Request) (object : Option ObjectState) → IsProp (HasObject machine wanted object)
object_prop machine request.Time object = Prim.hlevel props
object_prop machine (request.Suspend ms) object = Prim.hlevel props
object_prop machine (request.Object call) None = Prim.hlevel props
object_prop machine (request.Object call) (Some state) = Prim.hlevel (props, ready_prop)

unanswered_prop : (seen : Bool) (object : Option ObjectState) (machine : State) → IsProp (IsUnanswered seen object machine)
unanswered_prop seen object machine = Prim.hlevel (props, object_prop)

pub can_be_answered_prop : (cont : Cont (List ℕ)) → IsProp (CanBeAnswered bytes_of cont)
can_be_answered_prop cont = Prim.hlevel (props, image_prop, unanswered_prop)

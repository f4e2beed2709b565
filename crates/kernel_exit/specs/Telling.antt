-- What it takes to tell of a call, and what a slot is left with.
use Rattle.std.specs.Prelude.{◌≡◌, ℕ, List, Option, slice_set, IsSomeAnd}
use Rattle.std.specs.Global.{Box}
use Rattle.std.specs.List.{AllByRecursion}
use Rattle.kernel_state.specs.CallLeaving.{request_of}
use Rattle.kernel_state.specs.declared.leaving.Leaving.{Leaving}
use Rattle.kernel_state.specs.declared.leaving.Leaving.TheVariants.{Interrupted, WantsBuffer, Requests, FreesBuffer, Finishes}
use Rattle.kernel_state.specs.declared.leaving.Wanted.{Wanted}
use Rattle.kernel_state.specs.declared.leaving.Wanted.TheVariants.{Asked}
use Rattle.kernel_model.specs.Kernel as model
use Rattle.kernel_state.specs.Blanks.{Boxes, with_box}
use Rattle.kernel_state.specs.StandsFor.{IsSlot}
use Rattle.kernel_state.specs.declared.cancellation.Cancellation.{Cancellation}
use Rattle.ns_ram.specs.Lane.{IsInRam}
use Rattle.param_copy.specs.Places.{IsWritable}
use Rattle.rpc_cont.specs.declared.cont.Asked.{Asked as AskedFor}
use Rattle.rpc_cont.specs.declared.cont.Cont.{Cont}
use Rattle.rpc_msgs.specs.Place.{HasPlaces, arg_at, buffer_at}
use Rattle.rpc_msgs.specs.Request.{IsPayloadOf, IsRequest}
use Rattle.rpc_msgs.specs.declared.request_place.RequestPlace.{RequestPlace}
use Rattle.thread_slots.specs.declared.slot.Slot.{Slot}

-- ---- what it takes

-- a message has room for what its application asked for
abbrev pub FitsMessage : AskedFor → Type 0
FitsMessage asked = IsRequest asked.rpc × IsPayloadOf asked.rpc asked.payload

-- what is asked for is there, and all of its place lies in RAM
pub record CanBeAsked (request : Option AskedFor) (place : RequestPlace) (wanted : Wanted) : Type 0 where
  pub places : HasPlaces (arg_at place) (buffer_at place) (request_of request wanted).wanted
  pub asked : wanted ≡ Asked → IsSomeAnd request FitsMessage

-- where the results of a call go lies in RAM: the head of its argument, and the places of its parameters
pub record HasRoomForResult (cont : Cont (List ℕ)) : Type 0 where
  pub argument : IsInRam cont.arg 32
  pub places : AllByRecursion (IsWritable cont.arg) cont.places.items

-- what the call goes out with can be told
abbrev pub CanBeTold : Cont (List ℕ) → Leaving → Type 0
CanBeTold cont Interrupted = Unit {0}
CanBeTold cont WantsBuffer = Unit {0}
CanBeTold cont (Requests place wanted) = CanBeAsked cont.request place wanted
CanBeTold cont (FreesBuffer buffer) = Unit {0}
CanBeTold cont Finishes = HasRoomForResult cont

-- ---- the slot behind it

-- the slot of this number, beside which this stands, is the kernel's now, and the others are as they were
pub record HoldsNow (old new : List (Slot (Box (Cont (List ℕ))))) (slot : ℕ) (beside : Cancellation)
    (held : model.ThreadSlot) : Type 0 where
  pub now : Slot (Box (Cont (List ℕ)))
  pub set : new ≡ slice_set old slot now
  pub is : IsSlot now beside held

-- the boxes kept for new calls: that of a call that has finished is one more, where there is room for it
abbrev pub boxes_left : Leaving → Boxes → Boxes
boxes_left Interrupted boxes = boxes
boxes_left WantsBuffer boxes = boxes
boxes_left (Requests place wanted) boxes = boxes
boxes_left (FreesBuffer buffer) boxes = boxes
boxes_left Finishes boxes = with_box boxes

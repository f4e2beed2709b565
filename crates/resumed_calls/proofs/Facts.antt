-- What is asked of a call before it goes on is a fact: there is one way at most in which it holds.
use Rattle.std.proofs.Common.{ℕ, List, Option}
use Rattle.std.proofs.Props.{props}
use Rattle.kernel_model.specs.Application.{Booted}
use Rattle.kernel_model.specs.Kernel.{Instance, Tables}
use Rattle.rpc_cont.specs.declared.cont.Cont.{Cont}
use Rattle.rpc_msgs.specs.Place.{HasPlaces}
use Rattle.rpc_msgs.specs.Request.{IsRequest}
use Rattle.rpc_msgs.specs.declared.rpc.Rpc.{Rpc}
use Rattle.rpc_msgs.specs.declared.rpc.Rpc.TheVariants as rpc
use Rattle.resumed_calls.specs.Waiting.{IsInLine, IsOwnInstance}
use Rattle.begin_call.proofs.Facts.{can_begin_prop}

-- ---- messages

pub places_prop : (at : ℕ) (buffer : Option ℕ) (wanted : Rpc) → IsProp (HasPlaces at buffer wanted)
places_prop at buffer wanted = Prim.hlevel props

pub request_prop : (wanted : Rpc) → IsProp (IsRequest wanted)
request_prop rpc.Time = Prim.hlevel props
request_prop (rpc.Sleep slot) = Prim.hlevel props
request_prop (rpc.Wake slot) = Prim.hlevel props
request_prop (rpc.Suspend ms) = Prim.hlevel props
request_prop (rpc.FsOpen name) = Prim.hlevel props
request_prop (rpc.FsCreate name) = Prim.hlevel props
request_prop (rpc.FsClose fd) = Prim.hlevel props
request_prop (rpc.FsRead fd offset len) = Prim.hlevel props
request_prop (rpc.FsWrite fd offset len) = Prim.hlevel props
request_prop (rpc.FsRemove name) = Prim.hlevel props

-- ---- a call that waits

own_prop : (boot : Booted) (uuid : Option (List ℕ)) (instance : Instance) → IsProp (IsOwnInstance boot uuid instance)
own_prop boot uuid instance = Prim.hlevel props

pub in_line_prop : (boot : Booted) (tables : Tables) (slot : ℕ) (cont : Cont (List ℕ)) → IsProp (IsInLine boot tables slot cont)
in_line_prop boot tables slot cont = Prim.hlevel (props, can_begin_prop, own_prop)

-- Pages that have all that a call can write to as it goes out. This project's own.
use Rattle.std.specs.Prelude.{◌≡◌, ℕ, ◌≤◌, Bool, IfSome, List, Some, length}
use Rattle.std.specs.List.{AllByRecursion}
use Rattle.kernel_state.specs.declared.carried.Carried.{Carried}
use Rattle.kernel_state.specs.declared.carried.Carried.TheVariants.{Nothing, Resting, Running}
use Rattle.msg_args.specs.Layout.{param_place}
use Rattle.ns_ram.specs.Lane.{IsInRam}
use Rattle.page_set.specs.Pages.{HasBytes}
use Rattle.param_copy.specs.declared.copied.Place.{Place}
use Rattle.rpc_cont.specs.declared.cont.Cont.{Cont}
use Rattle.rpc_msgs.specs.declared.rpc_buffer.RpcBuffer.{RpcBuffer}
use Rattle.shm_registry.specs.declared.piece.Piece.{Piece}

-- bytes that lie in RAM lie in these pages
abbrev pub CoversBytes : List Bool → ℕ → ℕ → Type 0
CoversBytes pages addr len = IsInRam addr len → HasBytes pages addr len

abbrev pub CoversPiece : List Bool → Piece → Type 0
CoversPiece pages piece = CoversBytes pages piece.addr piece.len

-- what is written to a parameter's place does: the parameter's own 32 bytes of the argument at an address, and its pieces
pub record CoversPlace (arg : ℕ) (pages : List Bool) (place : Place) : Type 0 where
  pub argument : CoversBytes pages (param_place arg place.number) 32
  pub pieces : AllByRecursion (CoversPiece pages) place.pieces

-- and what a call has in RAM: the head of its argument, the places of its parameters, its area, and its buffer, in which there
-- is room for the payload of what it asks for
pub record CoversCall (pages : List Bool) (cont : Cont (List ℕ)) : Type 0 where
  pub argument : CoversBytes pages cont.arg 32
  pub places : AllByRecursion (CoversPlace cont.arg pages) cont.places.items
  pub area : (area : ℕ) → cont.area ≡ Some area → CoversBytes pages area 160
  pub buffer : (buffer : RpcBuffer) → cont.buffer ≡ Some buffer → CoversBytes pages buffer.addr 4096
  pub payload : IfSome cont.request (λ asked. length asked.payload ≤ 3584)

-- of what a processor carries
abbrev pub CoversCarried : List Bool → Carried → Type 0
CoversCarried pages Nothing = Unit {0}
CoversCarried pages (Resting cont) = CoversCall pages cont.value
CoversCarried pages (Running cont) = CoversCall pages cont.value

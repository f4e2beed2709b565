-- Where a new call has its argument, and the area that it brings along for the arguments of its requests: by
-- optee_smc.h; the calls that bring one are this project's own in their registers and their tests.
use Rattle.std.specs.Prelude.{ℕ, ◌+◌, ◌%◌, ◌==◌, nat_le, Bool, true, false, ◌&&◌, if◌then◌else◌, List}
use Rattle.std.specs.Prelude.{Option, Some, None}
use Rattle.std.specs.Option.{option_map, option_map_or}
use Rattle.base.specs.NumberMap.{NumberMap}
use Rattle.msg_args.specs.declared.head.MsgHead.{MsgHead}
use Rattle.msg_args.specs.Layout.{argument_len}
use Rattle.ns_ram.specs.Lane.{is_in_ram}
use Rattle.shm_registry.specs.declared.page_buffer.PageBuffer.{PageBuffer}
use Rattle.shm_registry.specs.declared.piece.Piece.{Piece}
use Rattle.shm_registry.specs.declared.pin.Pin.{Pin}
use Rattle.shm_registry.specs.Registered.{piece_at, with_pin}
use Rattle.smc_abi.specs.Call.{call_of}
use Rattle.smc_abi.specs.declared.call.Call.{Call}
use Rattle.smc_abi.specs.declared.call.Call.TheVariants.{Fast, WithArg, WithRpcArg, WithRegdArg, Resume, Unknown}
use Rattle.kernel_model.specs.Argument.{argument_at, offset_at, reg}
use Rattle.kernel_model.specs.Kernel.{Tables}

-- a cookie that names an argument, and how many bytes from there on stand in the same page and in the buffer
pub record Named : Type 0 where
  pub cookie : ℕ
  pub room : ℕ

-- where a call has its argument, whether it has an area behind that, and by what it is named, if a cookie does
pub record Located : Type 0 where
  pub addr : ℕ
  pub has_area : Bool
  pub named : Option Named

-- at an address
abbrev pub at_address : Bool → ℕ → Located
at_address has_area addr = record { addr = addr; has_area = has_area; named = None }

-- where the part of a buffer begins that a cookie and an offset name
abbrev pub at_piece : ℕ → Piece → Located
at_piece cookie piece =
    record { addr = piece.addr; has_area = true; named = Some (record { cookie = cookie; room = piece.len }) }

-- a call with these registers, by its kind: the cookie has to be kept, and the offset below the buffer's size
abbrev pub located_by : NumberMap PageBuffer → List ℕ → Call → Option Located
located_by buffers regs (Fast call) = None
located_by buffers regs WithArg = Some (at_address false (argument_at regs))
located_by buffers regs WithRpcArg = Some (at_address true (argument_at regs))
located_by buffers regs WithRegdArg =
    option_map (at_piece (argument_at regs)) (piece_at buffers (argument_at regs) (offset_at regs))
located_by buffers regs Resume = None
located_by buffers regs Unknown = None

abbrev pub located : Tables → List ℕ → Option Located
located tables regs = located_by tables.registered.buffers regs (call_of (reg regs 0))

-- ---- its bytes

-- so many bytes from there on lie in the page and the buffer in which a cookie names them, if one does
abbrev pub has_room : Located → ℕ → Bool
has_room at len = option_map_or (λ named. nat_le len named.room) at.named true

-- and they lie in RAM
abbrev pub has_bytes : Located → ℕ → Bool
has_bytes at len = is_in_ram at.addr len && has_room at len

-- a head is there: at a multiple of 8
abbrev pub has_head : Located → Bool
has_head at = (at.addr % 8 == 0) && has_bytes at 32

-- the bytes of an area: a head and four parameters
abbrev pub area_len : ℕ
area_len = 160

-- the bytes of an argument of this head, with its area
abbrev pub whole_len : Located → MsgHead → ℕ
whole_len at head = argument_len head.count + (if at.has_area then area_len else 0)

-- the head counts at most six parameters, and they are there behind it, and behind them the area
abbrev pub has_argument : Located → MsgHead → Bool
has_argument at head = nat_le head.count 6 && has_bytes at (whole_len at head)

-- the address of the area
abbrev pub area_of : Located → MsgHead → Option ℕ
area_of at head = if at.has_area then Some (at.addr + argument_len head.count) else None

-- ---- its cookie

-- the cookie that names it
abbrev pub cookie_of : Located → Option ℕ
cookie_of at = option_map (λ named. named.cookie) at.named

-- the slot pins that
abbrev pub pins_with : Option ℕ → List Pin → ℕ → List Pin
pins_with None pins slot = pins
pins_with (Some cookie) pins slot = with_pin pins cookie slot

abbrev pub with_argument_pinned : Option ℕ → Tables → ℕ → Tables
with_argument_pinned named tables slot =
    record tables { registered = record tables.registered { pins = pins_with named tables.registered.pins slot } }

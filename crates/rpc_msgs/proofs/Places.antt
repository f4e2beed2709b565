-- Where a request has a place, all of it lies in RAM.
use Rattle.std.proofs.Common.{◌≡◌, ℕ, Bool, true, false, not, cond, Option, Some, None, IsTrue, unwrap_or, refl, subst, arith}
use Rattle.std.specs.Prelude.{is_some}
use Rattle.ns_ram.specs.Lane.{IsInRam}
use Rattle.rpc_msgs.specs.Place.{HasPlaces, arg_at, buffer_at, is_placed, place_for}
use Rattle.rpc_msgs.specs.Request.{has_payload}
use Rattle.rpc_msgs.specs.declared.request_place.RequestPlace.{RequestPlace}
use Rattle.rpc_msgs.specs.declared.request_place.RequestPlace.TheVariants.{InBuffer, InArea}
use Rattle.rpc_msgs.specs.declared.rpc.Rpc.{Rpc}
use Rattle.rpc_msgs.specs.declared.rpc_buffer.RpcBuffer.{RpcBuffer}

-- the buffer of a request that has a payload
pub buffer_whole : (at : ℕ) (buffer : Option ℕ) (rpc : Rpc) → HasPlaces at buffer rpc → IsTrue (has_payload rpc) → IsInRam (unwrap_or buffer 0) 4096
buffer_whole at (Some addr) rpc places paid = places.whole addr refl
buffer_whole at None rpc places paid = let none = places.payload paid in absurd cc

-- the start of a buffer has room for an argument
narrow : (addr : ℕ) → IsInRam addr 4096 → IsInRam addr 160
narrow addr inside =
    let low = inside.0 in
    let high = inside.1 in
    (low, omega (arith, high))

abbrev IsWhole : Rpc → RequestPlace → Type 0
IsWhole wanted place = HasPlaces (arg_at place) (buffer_at place) wanted

in_buffer : (buffer : RpcBuffer) (wanted : Rpc) → IsInRam buffer.addr 4096 → IsWhole wanted (InBuffer buffer)
in_buffer buffer wanted inside = record {
  argument = narrow buffer.addr inside;
  whole = λ addr is. let same : buffer.addr ≡ addr = cc in subst (λ (a : ℕ). IsInRam a 4096) same inside;
  payload = λ paid. refl;
}

in_both : (area : ℕ) (buffer : RpcBuffer) (wanted : Rpc) → IsInRam area 160 → IsInRam buffer.addr 4096 → IsWhole wanted (InArea area (Some buffer))
in_both area buffer wanted inside whole = record {
  argument = inside;
  whole = λ addr is. let same : buffer.addr ≡ addr = cc in subst (λ (a : ℕ). IsInRam a 4096) same whole;
  payload = λ paid. refl;
}

in_area : (area : ℕ) (wanted : Rpc) → IsInRam area 160 → has_payload wanted ≡ false → IsWhole wanted (InArea area None)
in_area area wanted inside unpaid = record {
  argument = inside;
  whole = λ addr is. absurd cc;
  payload = λ paid. absurd cc;
}

-- a place that is made of an area and a buffer that lie in RAM
pub placed_whole : (area : Option ℕ) (buffer : Option RpcBuffer) (wanted : Rpc) (place : RequestPlace) → place_for area buffer wanted ≡ Some place
    → ((at : ℕ) → area ≡ Some at → IsInRam at 160) → ((there : RpcBuffer) → buffer ≡ Some there → IsInRam there.addr 4096)
    → HasPlaces (arg_at place) (buffer_at place) wanted
placed_whole None None wanted place e areas buffers = absurd cc
placed_whole None (Some buffer) wanted place e areas buffers =
    let same : InBuffer buffer ≡ place = cc in
    subst (IsWhole wanted) same (in_buffer buffer wanted (buffers buffer refl))
placed_whole (Some area) (Some buffer) wanted place e areas buffers =
    let same : InArea area (Some buffer) ≡ place = cc in
    subst (IsWhole wanted) same (in_both area buffer wanted (areas area refl) (buffers buffer refl))
placed_whole (Some area) None wanted place e areas buffers = by_payload (has_payload wanted) refl e
  where
    by_payload : (paid : Bool) → has_payload wanted ≡ paid → cond (not paid) (Some (InArea area None)) None ≡ Some place → IsWhole wanted place
    by_payload true is made = absurd cc
    by_payload false is made =
        let same : InArea area None ≡ place = cc in
        subst (IsWhole wanted) same (in_area area wanted (areas area refl) is)

-- a request has a place exactly where it is placed
pub placed_somewhere : (area : Option ℕ) (buffer : Option RpcBuffer) (wanted : Rpc)
    → is_some (place_for area buffer wanted) ≡ is_placed (is_some area) (is_some buffer) wanted
placed_somewhere None None wanted = refl
placed_somewhere None (Some buffer) wanted = refl
placed_somewhere (Some area) (Some buffer) wanted = refl
placed_somewhere (Some area) None wanted = by_payload (has_payload wanted)
  where
    by_payload : (paid : Bool) → is_some (cond (not paid) (Some (InArea area None)) None) ≡ not paid
    by_payload true = refl
    by_payload false = refl

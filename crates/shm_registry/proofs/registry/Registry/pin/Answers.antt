use Rattle.std.proofs.Common.{◌≡◌, ◌<◌, ◌++◌, ◌∷◌, [], List, length, IsSome, false, refl, arith}
use Rattle.std.specs.List.{list_any}
use Rattle.base.specs.NumberMap.{NumberMap, get}
use Rattle.shm_registry.specs.declared.page_buffer.PageBuffer.{PageBuffer}
use Rattle.shm_registry.specs.declared.pin.Pin.{Pin}
use Rattle.shm_registry.specs.Registered.{is_pin}
use Rattle.shm_registry.proofs.Sound.{IsSound-pin, room_for_pin}
use Rattle.shm_registry.proofs.registry.Registry.pin.Goals as goal

pub unwrap-requires : goal.unwrap-requires
unwrap-requires c =
    let buffers : NumberMap PageBuffer = c.self.inside.buffers in
    let pins : List Pin = c.self.inside.pins.items in
    let kept : IsSome (get buffers c.args.cookie) = rw (← c.self.view_is) at c.requires.kept in
    let tested : c.is_pinned.result ≡ list_any (is_pin c.args.cookie c.args.slot) pins = rw c.as_slice.ensures.value at c.is_pinned.ensures in
    let fresh : list_any (is_pin c.args.cookie c.args.slot) pins ≡ false = cc in
    let room : length pins < 1024 = room_for_pin buffers pins c.args.cookie c.args.slot c.self.invariant.0 kept c.requires.slot fresh in
    c.push.ensures.succeeds (omega (arith, c.self.invariant.1))

pub invariant_of-self : goal.invariant_of-self
invariant_of-self c =
    let buffers : NumberMap PageBuffer = c.self.inside.buffers in
    let pins : List Pin = c.self.inside.pins.items in
    let kept : IsSome (get buffers c.args.cookie) = rw (← c.self.view_is) at c.requires.kept in
    let tested : c.is_pinned.result ≡ list_any (is_pin c.args.cookie c.args.slot) pins = rw c.as_slice.ensures.value at c.is_pinned.ensures in
    let fresh : list_any (is_pin c.args.cookie c.args.slot) pins ≡ false = cc in
    let items : c.push.new.self.items ≡ pins ++ record { cookie = c.args.cookie; slot = c.args.slot } ∷ [] = rw c.unwrap.ensures at c.push.ensures.items in (
      rw items (IsSound-pin buffers pins c.args.cookie c.args.slot c.self.invariant.0 kept c.requires.slot fresh),
      omega (arith, c.push.ensures.capacity, c.self.invariant.1),
    )

pub returns-then-not-is_pinned : goal.returns-then-not-is_pinned
returns-then-not-is_pinned c =
    let pins : List Pin = c.self.inside.pins.items in
    let tested : c.is_pinned.result ≡ list_any (is_pin c.args.cookie c.args.slot) pins = rw c.as_slice.ensures.value at c.is_pinned.ensures in
    let fresh : list_any (is_pin c.args.cookie c.args.slot) pins ≡ false = cc in
    let items : c.push.new.self.items ≡ pins ++ record { cookie = c.args.cookie; slot = c.args.slot } ∷ [] = rw c.unwrap.ensures at c.push.ensures.items in
    rw (← c.self.view_is, items, fresh) refl

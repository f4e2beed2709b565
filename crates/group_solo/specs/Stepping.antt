-- What the plain code of a group does at an event.
use Rattle.std.specs.Prelude.{◌≡◌, ℕ, ◌<◌, ◌^◌, Option, Some}
use Rattle.base.specs.NumberMap.{get}
use Rattle.group_model.specs.Group.{Group, GroupCall}
use Rattle.group_model.specs.declared.group_event.GroupEvent.{GroupEvent}
use Rattle.group_model.specs.declared.group_event.GroupEvent.TheVariants.{Open, Invoke, Close, Cancel, Seen, Room, Back}
use Rattle.group_model.specs.declared.group_event.GroupEvent.TheVariants.{Out}
use Rattle.group_model.specs.declared.group_reply.GroupReply.{GroupReply}
use Rattle.solo.specs.Short.{IsShortInput}
use Rattle.solo.specs.Stepping.{HasRoomIn}
use Rattle.group_solo.specs.Standing.{IsGroup}
use Rattle.group_solo.specs.declared.group.GroupSolo.{GroupSolo}

-- a call that comes in gets a number of 32 bits, as events name calls
abbrev pub HasNumber : ℕ → GroupEvent → Type 0
HasNumber entered (Open input login limited area) = entered < 2 ^ 32
HasNumber entered (Invoke session func input area) = entered < 2 ^ 32
HasNumber entered (Close session area) = entered < 2 ^ 32
HasNumber entered (Cancel session) = entered < 2 ^ 32
HasNumber entered (Seen number steps) = Unit {0}
HasNumber entered (Room number enough) = Unit {0}
HasNumber entered (Back number input) = Unit {0}
HasNumber entered (Out number) = Unit {0}

-- a call that goes out doesn't come to 2^128 steps
abbrev pub HasRoom : ℕ → Group → GroupEvent → Type 0
HasRoom most g (Open input login limited area) = Unit {0}
HasRoom most g (Invoke session func input area) = Unit {0}
HasRoom most g (Close session area) = Unit {0}
HasRoom most g (Cancel session) = Unit {0}
HasRoom most g (Seen number steps) = Unit {0}
HasRoom most g (Room number enough) = Unit {0}
HasRoom most g (Back number input) = Unit {0}
HasRoom most g (Out number) =
    (call : GroupCall) → get g.calls number ≡ Some call → HasRoomIn most call.steps call.phase

-- it answers so, and stands for the machine then
abbrev pub HasStepped : GroupSolo → Option GroupReply → Group → Option GroupReply → Type 0
HasStepped s answer next told = (answer ≡ told) × IsGroup s next

-- it has no reply
abbrev pub IsSilent : GroupEvent → Type 0
IsSilent (Out call) = ⊥
IsSilent _ = Unit {0}

-- the event brings no buffer of more bytes
abbrev pub IsShortEvent : ℕ → GroupEvent → Type 0
IsShortEvent longest (Open input login limited area) = IsShortInput longest input
IsShortEvent longest (Invoke session func input area) = IsShortInput longest input
IsShortEvent longest _ = Unit {0}

-- A history taken apart by its processors, and what the play has come to that is merged of their parts. This project's
-- own.
use Rattle.std.specs.Prelude.{◌≡◌, ℕ, ◌+◌, ◌==◌, ◌^◌, ◌<◌, ◌≤◌, Bool, false, List, [], ◌∷◌, ◌++◌, Option, Some, None}
use Rattle.std.specs.Prelude.{filter, length, slice_get, take}
use Rattle.std.specs.List.{range_with_len}
use Rattle.std.specs.Option.{option_map_or}
use Rattle.base.specs.Zeros.{zeros}
use Rattle.event_journal.specs.Journal.{copied_bytes}
use Rattle.event_journal.specs.declared.event.Event.{Event}
use Rattle.kernel_model.specs.Application.{Booted, Native, booted}
use Rattle.kernel_model.specs.History.{IsLegal, kernel_after}
use Rattle.kernel_model.specs.Kernel.{Kernel}
use Rattle.ns_ram.specs.Reads.{total_bytes}
use Rattle.ns_ram.specs.declared.read.Read.{Read}
use Rattle.play_model.specs.Play.{filled}
use Rattle.ta_isa.specs.declared.boot.Boot.{Boot}
use Rattle.trace_text.specs.declared.item.Item.{Item}
use Rattle.trace_text.specs.declared.item.Reg.{Reg}
use Rattle.trace_text.specs.declared.trace.Trace.{Trace}
use Rattle.kernel_model.specs.Turns.{cpu_of}
use Rattle.ordered_play.specs.Act.{Act, Comes}
use Rattle.ordered_play.specs.Ordered.{OrderedPlay, first_ordered, reads_of, refused_seat, visit_with}
use Rattle.ordered_play.specs.Part.{IsPart, Role, Share, Standing, next_event}
use Rattle.ordered_play.specs.Seat.{Seat}

-- ---- the parts of a history

-- what is played: a trace, on a core of this boot, over this RAM with the trace's fills
pub record Setting : Type 0 where
  pub boot : Booted
  pub ram : List ℕ
  pub trace : Trace

-- a trace beside built-in applications, over RAM of zeros
abbrev pub setting_of : List Native → Boot → Trace → Setting
setting_of natives boot trace = record { boot = booted boot natives; ram = zeros 0x400000; trace = trace }

-- its play before the first entry
abbrev pub first_in : Setting → OrderedPlay
first_in on = first_ordered on.ram on.boot on.trace

-- a processor of this boot, and this history
abbrev pub share_of : Booted → List Event → ℕ → Share
share_of boot history cpu = record { boot = boot; cpu = cpu; history = history }

-- its part of that history is by these items and over this RAM
abbrev pub role_of : Share → List Item → List ℕ → Role
role_of share items lane = record { share = share; items = items; lane = lane }

-- a processor's part of this history is by the items of the trace, over RAM with the trace's fills
abbrev pub role_in : Setting → List Event → ℕ → Role
role_in on history cpu = role_of (share_of on.boot history cpu) on.trace.items (filled on.ram on.trace.fills)

-- a processor's part, and where it stands at its end
pub record Part (of : Role) : Type 0 where
  pub end : Standing
  pub is_part : IsPart of end

-- each processor's part of a history
abbrev pub Parts : Setting → List Event → Type 0
Parts on history = (cpu : ℕ) → cpu < on.boot.cpus → Part (role_in on history cpu)

-- a seat with these acts to come
abbrev pub seat_left : Seat → List Act → Seat
seat_left seat acts = record seat { acts = acts }

-- what a part comes to, with the acts that it leaves to come
abbrev pub seat_of : {of : Role} → Part of → Seat
seat_of part = seat_left part.end.seat part.is_part.left

-- the play has this history, the kernel after it, and these seats
pub record ComesTo (boot : Booted) (events : List Event) (seat_for : (cpu : ℕ) → cpu < boot.cpus → Seat)
    (play : OrderedPlay) : Type 0 where
  pub history : play.history ≡ events
  pub kernel : kernel_after boot events ≡ Some play.kernel
  pub count : length play.seats ≡ boot.cpus
  pub seats : (cpu : ℕ) (below : cpu < boot.cpus) → slice_get play.seats cpu ≡ Some (seat_for cpu below)

-- ---- refused entries

-- the entry that a part leaves is refused behind so many events of the history
pub record IsRefusedAt (of : Role) (part : Part of) (place : ℕ) : Type 0 where
  pub within : place ≤ length of.share.history
  -- no event of the processor stands behind
  pub last : next_event of.share.history of.share.cpu place ≡ None
  -- the entry, which the part leaves first
  pub steps : ℕ
  pub regs : List Reg
  pub rest : List Act
  pub left : part.is_part.left ≡ Comes steps regs ∷ rest
  -- there it would have these reads, and all entries would have read more than 2^28 bytes with them
  pub kernel : Kernel
  pub before : kernel_after of.share.boot (take place of.share.history) ≡ Some kernel
  pub reads : List Read
  pub would_read : reads_of of.share.boot kernel part.end.seat (visit_with of.share.cpu part.end.seat steps regs)
      ≡ Some reads
  pub many : 2 ^ 28 < copied_bytes (take place of.share.history) + total_bytes reads

-- where the processor has such a place, its entry is refused there
abbrev pub IsRefusedIf : (of : Role) → Part of → Option ℕ → Type 0
IsRefusedIf of part None = Unit {0}
IsRefusedIf of part (Some place) = IsRefusedAt of part place

-- what the part comes to with its refusal
abbrev pub seat_with : (of : Role) (part : Part of) (place : Option ℕ) → IsRefusedIf of part place → Seat
seat_with of part None refused = seat_of part
seat_with of part (Some place) refused =
    refused_seat (seat_of part)
    (record { copied = copied_bytes (take place of.share.history); more = total_bytes refused.reads })

-- a history taken apart: each processor's part, and the places of those whose entries are refused
pub record Apart (on : Setting) (history : List Event) : Type 0 where
  pub parts : Parts on history
  pub places : ℕ → Option ℕ
  pub refusals : (cpu : ℕ) (below : cpu < on.boot.cpus) →
      IsRefusedIf (role_in on history cpu) (parts cpu below) (places cpu)

-- what each processor comes to
abbrev pub seat_in : {on : Setting} {history : List Event} → Apart on history → (cpu : ℕ) → cpu < on.boot.cpus → Seat
seat_in {on} {history} apart cpu below =
    seat_with (role_in on history cpu) (apart.parts cpu below) (apart.places cpu) (apart.refusals cpu below)

-- all of its acts are done, or those before its refused entry
abbrev pub IsDone : List Act → Option ℕ → Type 0
IsDone left None = left ≡ []
IsDone left (Some place) = Unit {0}

abbrev pub AreDone : {on : Setting} {history : List Event} → Apart on history → Type 0
AreDone {on} apart =
    (cpu : ℕ) (below : cpu < on.boot.cpus) → IsDone (apart.parts cpu below).is_part.left (apart.places cpu)

-- the processor's entry is refused at this place
abbrev pub is_refused_at : (ℕ → Option ℕ) → ℕ → ℕ → Bool
is_refused_at places at cpu = option_map_or (λ place. place == at) (places cpu) false

-- those of so many processors whose entries are refused there, by their number
abbrev pub refused_at : (ℕ → Option ℕ) → ℕ → ℕ → List ℕ
refused_at places cpus at = filter (is_refused_at places at) (range_with_len 0 cpus)

-- the order of these events, which stand from this place on, with refused entries before the event at their place
abbrev pub order_with : (ℕ → Option ℕ) → ℕ → ℕ → List Event → List ℕ
order_with places cpus at [] = refused_at places cpus at
order_with places cpus at (event ∷ events) =
    refused_at places cpus at ++ cpu_of event ∷ order_with places cpus (at + 1) events

-- ---- the parts of a play

-- a processor's part of the play's history, and the place of its refused entry, where it has one: its seat has come to
-- this
pub record HasPart (on : Setting) (play : OrderedPlay) (cpu : ℕ) : Type 0 where
  pub part : Part (role_in on play.history cpu)
  pub place : Option ℕ
  pub refused : IsRefusedIf (role_in on play.history cpu) part place
  pub seat : slice_get play.seats cpu ≡ Some (seat_with (role_in on play.history cpu) part place refused)

-- the play's history is legal, its entries have read at most 2^28 bytes, and each processor has its part of it
pub record IsOfParts (on : Setting) (play : OrderedPlay) : Type 0 where
  pub legal : IsLegal on.boot play.history
  pub kernel : kernel_after on.boot play.history ≡ Some play.kernel
  pub few : copied_bytes play.history ≤ 2 ^ 28
  pub count : length play.seats ≡ on.boot.cpus
  pub parts : (cpu : ℕ) → cpu < on.boot.cpus → HasPart on play cpu

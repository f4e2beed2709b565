-- The places that the processors of a play print: those of their events in its history, which name its order. This
-- project's own.
use Rattle.std.specs.Prelude.{◌≡◌, ℕ, ◌+◌, ◌*◌, ◌^◌, ◌==◌, ◌<◌, Bool, true, false, List, [], ◌∷◌, ◌++◌, Option, Some, None}
use Rattle.std.specs.Prelude.{IsPermutation, filter, if◌then◌else◌, length, slice_get}
use Rattle.std.specs.List.{flat_map, range_with_len}
use Rattle.event_journal.specs.declared.event.Event.{Event}
use Rattle.event_journal.specs.declared.event.Event.TheVariants.{Entry, Exit}
use Rattle.kernel_model.specs.Application.{Booted, IsBooted, Native, booted}
use Rattle.kernel_model.specs.History.{IsLegal}
use Rattle.kernel_model.specs.Turns.{cpu_of, last_by}
use Rattle.ta_isa.specs.declared.boot.Boot.{Boot}
use Rattle.trace_text.specs.declared.item.Item.{Item}
use Rattle.trace_text.specs.declared.trace.Trace.{Trace}
use Rattle.ordered_play.specs.Act.{Act, Comes, Leaves, Writes, Shows, acts_for}
use Rattle.ordered_play.specs.Blocks.{blocks_in, has_ended, has_refused}
use Rattle.ordered_play.specs.Merge.{IsOfParts, Setting}
use Rattle.ordered_play.specs.Ordered.{OrderedPlay, played_in}
use Rattle.ordered_play.specs.Part.{IsPart, Role, Standing}
use Rattle.ordered_play.specs.Seat.{PlacedLine, Seat, Shown, Told}

-- ---- places

-- the places of a processor's events among these, which stand from this place on
abbrev pub places_from : ℕ → ℕ → List Event → List ℕ
places_from cpu at [] = []
places_from cpu at (event ∷ events) =
    if cpu_of event == cpu then at ∷ places_from cpu (at + 1) events else places_from cpu (at + 1) events

abbrev pub places_of : ℕ → List Event → List ℕ
places_of cpu history = places_from cpu 0 history

-- those in a line: of an entry, and of its exit
abbrev pub places_in : PlacedLine → List ℕ
places_in (Told regs entry_at exit_at) = entry_at ∷ exit_at ∷ []
places_in (Shown addr bytes) = []

abbrev pub printed_places : List PlacedLine → List ℕ
printed_places lines = flat_map places_in lines

-- and the one that no line has yet, where a processor has come in last and hasn't gone out
abbrev pub place_inside : Option Event → ℕ → List ℕ
place_inside None entry_at = []
place_inside (Some (Entry cpu regs steps reads)) entry_at = entry_at ∷ []
place_inside (Some (Exit cpu regs)) entry_at = []

-- a processor that has come to this has printed the places of its events in the history, in their order
abbrev pub PrintsItsPlaces : ℕ → List Event → Seat → Type 0
PrintsItsPlaces cpu history seat =
    printed_places seat.lines ++ place_inside (last_by cpu history) seat.entry_at ≡ places_of cpu history

-- ---- of a play that has ended

-- a processor that is inside, or is not, comes in and goes out by turns, and in the end it is outside
abbrev pub ComesAndGoes : Bool → List Act → Type 0
ComesAndGoes inside [] = inside ≡ false
ComesAndGoes inside (Comes steps regs ∷ acts) = (inside ≡ false) × ComesAndGoes true acts
ComesAndGoes inside (Leaves ∷ acts) = (inside ≡ true) × ComesAndGoes false acts
ComesAndGoes inside (Writes addr bytes ∷ acts) = ComesAndGoes inside acts
ComesAndGoes inside (Shows addr len ∷ acts) = ComesAndGoes inside acts

-- each of so many processors does by these items
abbrev pub ComeAndGo : ℕ → List Item → Type 0
ComeAndGo cpus items = (cpu : ℕ) → cpu < cpus → ComesAndGoes false (acts_for cpu items)

abbrev pub is_entry : Event → Bool
is_entry (Entry cpu regs steps reads) = true
is_entry (Exit cpu regs) = false

-- how many SMCs have come in
abbrev pub smcs_of : List Event → ℕ
smcs_of history = length (filter is_entry history)

-- the places that are printed, a processor's behind those of the processors before it
abbrev pub places_printed : OrderedPlay → List ℕ
places_printed play = flat_map (λ (seat : Seat). printed_places seat.lines) play.seats

-- a processor has printed the places of its own events, in their order
pub record HasPrinted (play : OrderedPlay) (cpu : ℕ) : Type 0 where
  pub seat : Seat
  pub there : slice_get play.seats cpu ≡ Some seat
  pub prints : printed_places seat.lines ≡ places_of cpu play.history

-- of m SMCs the places 0 to 2m - 1 are printed, each once, by the processor whose event stands there
pub record PlacesCountUp (boot : Booted) (play : OrderedPlay) : Type 0 where
  -- each SMC is an entry and an exit
  pub events : length play.history ≡ 2 * smcs_of play.history
  pub once : IsPermutation (places_printed play) (range_with_len 0 (2 * smcs_of play.history))
  pub own : (cpu : ℕ) → cpu < boot.cpus → HasPrinted play cpu

-- ---- the laws

-- a processor's part of a legal history prints the places of its events there
abbrev pub PartsPrintTheirPlaces : Type 0
PartsPrintTheirPlaces = (of : Role) (end : Standing) → of.share.cpu < of.share.boot.cpus →
    IsLegal of.share.boot of.share.history → IsPart of end → PrintsItsPlaces of.share.cpu of.share.history end.seat

-- where processors come in and go out by turns, the places of a play that has ended count up
abbrev pub PlacesAreEachOnce : Type 0
PlacesAreEachOnce = (on : Setting) (play : OrderedPlay) → IsOfParts on play → ComeAndGo on.boot.cpus on.trace.items →
    has_ended play ≡ true → PlacesCountUp on.boot play

-- and where no entry is refused, an order shares its blocks, of fewer than 2^64 bytes, with no other
abbrev pub BlocksNameTheOrder : Type 0
BlocksNameTheOrder = (natives : List Native) (boot : Boot) (trace : Trace) (one other text : List ℕ) (play : OrderedPlay) →
    IsBooted (booted boot natives) → trace.boot ≡ Some boot → ComeAndGo boot.cpus trace.items →
    played_in natives boot trace one ≡ Some play → has_refused play ≡ false → length text < 2 ^ 64 →
    blocks_in natives trace one ≡ Some text → blocks_in natives trace other ≡ Some text → one ≡ other

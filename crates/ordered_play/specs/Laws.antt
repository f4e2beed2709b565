-- What holds of processors' parts of a history, and of plays in an order.
use Rattle.std.specs.Prelude.{◌≡◌, ℕ, ◌^◌, Option, ◌<◌, ◌≤◌, true, false, List, [], ◌∷◌, ◌++◌, Some, None, length, map, slice_get}
use Rattle.std.specs.List.{AllByRecursion, flat_map}
use Rattle.std.specs.Option.{is_some}
use Rattle.event_journal.specs.Journal.{copied_bytes}
use Rattle.event_journal.specs.declared.event.Event.{Event}
use Rattle.kernel_model.specs.Application.{Booted, IsBooted, Native, booted}
use Rattle.event_journal.specs.declared.event.Event.TheVariants.{Exit}
use Rattle.kernel_model.specs.Exit.{Exited}
use Rattle.kernel_model.specs.History.{IsLegal, exit_after}
use Rattle.kernel_model.specs.Laws.{IsOfOther}
use Rattle.ns_ram.specs.Reads.{HoldsReads}
use Rattle.ns_ram.specs.declared.read.Read.{Read}
use Rattle.play_model.specs.Play.{entry_event}
use Rattle.ta_isa.specs.declared.boot.Boot.{Boot}
use Rattle.trace_text.specs.declared.item.Reg.{Reg}
use Rattle.trace_text.specs.declared.trace.Trace.{Trace}
use Rattle.kernel_model.specs.Turns.{cpu_of}
use Rattle.ordered_play.specs.Act.{Act, Comes, Leaves}
use Rattle.ordered_play.specs.Blocks.{block_of, blocks_in, blocks_of, has_ended, has_refused}
use Rattle.ordered_play.specs.Merge.{Apart, AreDone, ComesTo, IsOfParts, IsRefusedIf, Part, Parts, Setting, first_in, order_with, seat_in, seat_of, seat_with, setting_of}
use Rattle.ordered_play.specs.Ordered.{OrderedPlay, after_turns, gone_seat, visit_with}
use Rattle.ordered_play.specs.Part.{AreActsOf, IsPart, Role, Share, Standing}
use Rattle.ordered_play.specs.Seat.{Seat, first_seat, ready_for}

-- ---- one processor

-- a processor has at most one part of a history: two end in the same standing, with the same acts left
abbrev pub PartsAreUnique : Type 0
PartsAreUnique = (of : Role) (one other : Standing) (first : IsPart of one) (second : IsPart of other) →
    (one ≡ other) × (first.left ≡ second.left)

-- the same processor, in a history that has these events behind
abbrev pub longer : Share → List Event → Share
longer of more = record of { history = of.history ++ more }

-- its part of that history
abbrev pub later : Role → List Event → Role
later of more = record of { share = longer of.share more }

-- a part depends on the history only up to its processor's last event
pub record PartsStay : Type 0 where
  -- acts that were done stay so where events follow
  pub acts : (of : Share) (more : List Event) (done : List Act) (old new : Standing) → AreActsOf of done old new →
      AreActsOf (longer of more) done old new
  -- and so does a part, with the acts that it leaves, where none of them is its processor's
  pub parts : (of : Role) (more : List Event) (end : Standing) →
      AllByRecursion (IsOfOther of.share.cpu) more → (part : IsPart of end) →
      (now : IsPart (later of more) end) × (now.left ≡ part.left)
  -- and its refused entry
  pub refusals : (of : Role) (more : List Event) (part : Part of) (place : Option ℕ) (refused : IsRefusedIf of part place) →
      AllByRecursion (IsOfOther of.share.cpu) more →
      (now : Part (later of more)) × (still : IsRefusedIf (later of more) now place)
      × (seat_with of part place refused ≡ seat_with (later of more) now place still)

-- a part grows with its processor's events
pub record PartsGrow : Type 0 where
  -- against no events it is what is written and shown before the first
  pub begins : (of : Role) → of.share.history ≡ [] →
      (part : Part of) × (first_seat of.lane of.items of.share.cpu ≡ seat_of part)
  -- the entry that it leaves comes, behind all events, with reads that its RAM holds
  pub comes : (of : Role) (part : Part of) (steps : ℕ) (regs : List Reg) (rest : List Act) (reads : List Read) →
      part.is_part.left ≡ Comes steps regs ∷ rest → HoldsReads (seat_of part).lane reads →
      (now : Part (later of (entry_event (visit_with of.share.cpu (seat_of part) steps regs) reads ∷ [])))
      × (ready_for rest (record (seat_of part) { entry_at = length of.share.history }) ≡ seat_of now)
  -- the exit that it leaves comes, behind all events, as the kernel's exit there
  pub goes : (of : Role) (part : Part of) (rest : List Act) (exited : Exited) →
      part.is_part.left ≡ Leaves ∷ rest → exit_after of.share.boot of.share.history of.share.cpu ≡ Some exited →
      (now : Part (later of (Exit of.share.cpu (record { a = exited.regs }) ∷ [])))
      × (gone_seat (seat_of part) rest (length of.share.history) exited ≡ seat_of now)

-- ---- all processors

-- where each processor has its part of a legal history, whose entries have read at most 2^28 bytes, the play in the
-- order of the history's events is merged of these parts
abbrev pub PartsMerge : Type 0
PartsMerge = (on : Setting) (history : List Event) (parts : Parts on history) → IsLegal on.boot history →
    copied_bytes history ≤ 2 ^ 28 →
    (play : OrderedPlay) × (after_turns on.boot (map cpu_of history) (first_in on) ≡ Some play)
    × ComesTo on.boot history (λ cpu below. seat_of (parts cpu below)) play

-- and so it is with refused entries, each of which comes at a place behind its processor's last event
abbrev pub RefusalsMerge : Type 0
RefusalsMerge = (on : Setting) (history : List Event) (apart : Apart on history) → IsLegal on.boot history →
    copied_bytes history ≤ 2 ^ 28 →
    (play : OrderedPlay)
    × (after_turns on.boot (order_with apart.places on.boot.cpus 0 history) (first_in on) ≡ Some play)
    × ComesTo on.boot history (seat_in apart) play

-- each play in an order is one of parts
abbrev pub PlaysHaveParts : Type 0
PlaysHaveParts = (on : Setting) (order : List ℕ) (play : OrderedPlay) → IsBooted on.boot →
    after_turns on.boot order (first_in on) ≡ Some play → IsOfParts on play

-- the texts are the blocks of these seats
abbrev pub AreBlocksOf : (cpus : ℕ) → ((cpu : ℕ) → cpu < cpus → Seat) → List (List ℕ) → Type 0
AreBlocksOf cpus seat_for texts =
    (length texts ≡ cpus)
    × ((cpu : ℕ) (below : cpu < cpus) → slice_get texts cpu ≡ Some (block_of cpu (seat_for cpu below)))

-- what is printed of a play that has come to these seats
pub record BlocksAreOfSeats : Type 0 where
  -- one text behind the other, the block of each seat
  pub blocks : (boot : Booted) (events : List Event) (seat_for : (cpu : ℕ) → cpu < boot.cpus → Seat)
      (play : OrderedPlay) (texts : List (List ℕ)) → ComesTo boot events seat_for play →
      AreBlocksOf boot.cpus seat_for texts → blocks_of play ≡ flat_map (λ text. text) texts
  -- all is done where no seat has an act to come
  pub ended : (boot : Booted) (events : List Event) (seat_for : (cpu : ℕ) → cpu < boot.cpus → Seat)
      (play : OrderedPlay) → ComesTo boot events seat_for play →
      ((cpu : ℕ) (below : cpu < boot.cpus) → (seat_for cpu below).acts ≡ []) → has_ended play ≡ true
  -- an entry was refused just where one of a seat was
  pub one_refused : (boot : Booted) (events : List Event) (seat_for : (cpu : ℕ) → cpu < boot.cpus → Seat)
      (play : OrderedPlay) (cpu : ℕ) (below : cpu < boot.cpus) → ComesTo boot events seat_for play →
      is_some (seat_for cpu below).refused ≡ true → has_refused play ≡ true
  pub none_refused : (boot : Booted) (events : List Event) (seat_for : (cpu : ℕ) → cpu < boot.cpus → Seat)
      (play : OrderedPlay) → ComesTo boot events seat_for play →
      ((cpu : ℕ) (below : cpu < boot.cpus) → (seat_for cpu below).refused ≡ None) → has_refused play ≡ false

-- the blocks of a trace, in the order of a legal history, are those of its processors' parts, all of which are done
abbrev pub BlocksMerge : Type 0
BlocksMerge = (natives : List Native) (boot : Boot) (trace : Trace) (history : List Event)
    (apart : Apart (setting_of natives boot trace) history) (texts : List (List ℕ)) →
    trace.boot ≡ Some boot → IsLegal (booted boot natives) history → copied_bytes history ≤ 2 ^ 28 → AreDone apart →
    AreBlocksOf boot.cpus (seat_in apart) texts →
    blocks_in natives trace (order_with apart.places boot.cpus 0 history) ≡ Some (flat_map (λ text. text) texts)

-- Plays of two processors in several orders, and what is printed of them.
use Rattle.std.specs.Prelude.{◌≡◌, ℕ, List, [], ◌∷◌, ◌++◌, Option, Some, None, codes, map, replicate, true, false}
use Rattle.std.specs.Prelude.{slice_get, ◌==◌, if◌then◌else◌}
use Rattle.std.specs.Option.{option_and_then, option_map}
use Rattle.event_journal.specs.declared.event.Event.{Event}
use Rattle.event_journal.specs.declared.event.Event.TheVariants.{Entry, Exit}
use Rattle.kernel_model.specs.Application.{booted}
use Rattle.kernel_model.specs.Worked.{boot_with}
use Rattle.play_model.specs.Examples.{adding, calls, enter, lines, open_fill, smc, tells_back, uid}
use Rattle.ta_isa.specs.declared.boot.Boot.{Boot}
use Rattle.trace_text.specs.declared.item.Item.{Item}
use Rattle.trace_text.specs.declared.item.Item.TheVariants.{Leave, Write, Show}
use Rattle.trace_text.specs.declared.trace.Fill.{Fill}
use Rattle.trace_text.specs.declared.trace.Trace.{Trace}
use Rattle.ordered_play.specs.Act.{Comes, Leaves, Writes, Shows, acts_for}
use Rattle.ordered_play.specs.Blocks.{blocks_in, blocks_of_ended, full_line, has_refused, placed_ret_line}
use Rattle.ordered_play.specs.Merge.{order_with}
use Rattle.ordered_play.specs.Ordered.{OrderedPlay, after_turn, after_turns, first_ordered, played_in_over, refused_seat}
use Rattle.ordered_play.specs.Ordered.{with_seat}
use Rattle.ordered_play.specs.Part.{IsPart, Share, Standing}
use Rattle.ordered_play.specs.Places.{places_of, printed_places, smcs_of}
use Rattle.ordered_play.specs.Seat.{Seat, Shown, Told}

-- ---- scripts

abbrev pub trace_with : Boot → List Fill → List Item → Trace
trace_with boot fills items = record { boot = Some boot; fills = fills; items = items }

-- each of two processors asks three times who the core is
abbrev pub two_boot : Boot
two_boot = boot_with 2 1 1 []

abbrev pub asks_thrice : ℕ → List Item
asks_thrice cpu = smc cpu 1 uid ∷ smc cpu 1 uid ∷ smc cpu 1 uid ∷ []

abbrev pub both_ask : Trace
both_ask = trace_with two_boot [] (asks_thrice 0 ++ asks_thrice 1)

-- ---- what they print

-- the play over 256 bytes of RAM in this order
abbrev pub play_in : Boot → List Fill → List Item → List ℕ → Option OrderedPlay
play_in boot fills items order = played_in_over (replicate 256 0) [] boot (trace_with boot fills items) order

-- its blocks, where all items were taken
abbrev pub prints_in : Boot → List Fill → List Item → List ℕ → Option (List ℕ)
prints_in boot fills items order = option_and_then blocks_of_ended (play_in boot fills items order)

abbrev pub uid_of : ℕ → List ℕ
uid_of cpu = codes " 384fb3e0 e7f811e3 af630002 a5d5c51b 00000000 00000000 00000000 00000000 at "

abbrev pub asked : List ℕ → List ℕ → List ℕ
asked cpu places = codes "ret " ++ cpu ++ uid_of 0 ++ places

-- both processors' blocks, with the places of each answer
abbrev pub asked_blocks : List (List ℕ) → List (List ℕ) → Option (List ℕ)
asked_blocks first second =
    lines (codes "cpu 0" ∷ map (asked (codes "0")) first ++ codes "cpu 1" ∷ map (asked (codes "1")) second)

-- a play in which an entry of the first processor was refused
abbrev pub first_refused : Option OrderedPlay
first_refused =
    let play = first_ordered (replicate 256 0) (booted two_boot []) both_ask in
    option_map (λ (seat : Seat). with_seat 0 (refused_seat seat (record { copied = 268337088; more = 262304 })) play)
    (slice_get play.seats 0)

-- ---- parts

-- an entry that asks who the core is, and its exit
abbrev pub asks_in : ℕ → Event
asks_in cpu = Entry cpu (record { a = uid }) 1 []

abbrev pub told_uid : List ℕ
told_uid = 0x384fb3e0 ∷ 0xe7f811e3 ∷ 0xaf630002 ∷ 0xa5d5c51b ∷ replicate 4 0

abbrev pub uid_exit : ℕ → Event
uid_exit cpu = Exit cpu (record { a = told_uid })

-- the second processor has asked once and is inside again, the first has asked once
abbrev pub half_way : Share
half_way = record {
  boot = booted two_boot [];
  cpu = 1;
  history = asks_in 0 ∷ asks_in 1 ∷ uid_exit 1 ∷ uid_exit 0 ∷ asks_in 1 ∷ [];
}

-- the second processor asks three times, and shows a byte behind the first answer
abbrev pub asks_and_shows : List Item
asks_and_shows = asks_thrice 0 ++ smc 1 1 uid ∷ Show 1 0x40000000 1 ∷ smc 1 1 uid ∷ smc 1 1 uid ∷ []

-- where it stands then: it has gone out once, and come in again
abbrev pub half_standing : Standing
half_standing = record {
  used = 5;
  seat = record {
    acts = [];
    lane = 7 ∷ 8 ∷ [];
    answer = told_uid;
    entry_at = 4;
    lines = Told told_uid 1 2 ∷ Shown 0x40000000 (7 ∷ []) ∷ [];
    refused = None;
  };
}

-- a processor whose part this is, over two bytes of RAM
abbrev pub IsHalfPart : List Item → Standing → Type 0
IsHalfPart items standing = IsPart (record { share = half_way; items = items; lane = 7 ∷ 8 ∷ [] }) standing

-- the places of two processors' refused entries
abbrev pub at_places : Option ℕ → Option ℕ → ℕ → Option ℕ
at_places first second cpu = if cpu == 0 then first else second

pub record Examples : Type 0 where
  -- an SMC is an entry and an exit, and another processor's items are no acts of this one
  pub acts : acts_for 1 (smc 0 1 uid ∷ enter 1 7 [] ∷ Write 1 0x40000000 (9 ∷ []) ∷ Leave 1 ∷ Show 1 0x40000000 2 ∷ [])
      ≡ Comes 7 [] ∷ Writes 0x40000000 (9 ∷ []) ∷ Leaves ∷ Shows 0x40000000 2 ∷ []
  -- the line of an answer, and that of a refused entry
  pub placed : placed_ret_line 3 (1 ∷ 2 ∷ []) 10 17 ≡ codes "ret 3 00000001 00000002 at 10 17" ++ 10 ∷ []
  pub full : full_line (record { copied = 268337088; more = 262304 }) ≡ codes "full 268337088 262304" ++ 10 ∷ []
  -- three fast calls each: one processor behind the other, in either order
  pub one_by_one : prints_in two_boot [] both_ask.items (0 ∷ 0 ∷ 0 ∷ 0 ∷ 0 ∷ 0 ∷ 1 ∷ 1 ∷ 1 ∷ 1 ∷ 1 ∷ 1 ∷ [])
      ≡ asked_blocks (codes "0 1" ∷ codes "2 3" ∷ codes "4 5" ∷ []) (codes "6 7" ∷ codes "8 9" ∷ codes "10 11" ∷ [])
  pub second_first : prints_in two_boot [] both_ask.items (1 ∷ 1 ∷ 1 ∷ 1 ∷ 1 ∷ 1 ∷ 0 ∷ 0 ∷ 0 ∷ 0 ∷ 0 ∷ 0 ∷ [])
      ≡ asked_blocks (codes "6 7" ∷ codes "8 9" ∷ codes "10 11" ∷ []) (codes "0 1" ∷ codes "2 3" ∷ codes "4 5" ∷ [])
  -- both inside at a time
  pub in_turns : prints_in two_boot [] both_ask.items (0 ∷ 1 ∷ 0 ∷ 1 ∷ 1 ∷ 1 ∷ 1 ∷ 0 ∷ 0 ∷ 0 ∷ 1 ∷ 0 ∷ [])
      ≡ asked_blocks (codes "0 2" ∷ codes "7 8" ∷ codes "9 11" ∷ []) (codes "1 3" ∷ codes "4 5" ∷ codes "6 10" ∷ [])
  -- an order that names a processor which has nothing more to do, or none, is no order of the play
  pub too_many_turns : play_in two_boot [] (smc 0 1 uid ∷ []) (0 ∷ 0 ∷ 0 ∷ []) ≡ None
  pub no_processor : play_in two_boot [] (smc 0 1 uid ∷ []) (2 ∷ []) ≡ None
  -- one that ends too early leaves items
  pub too_few_turns : prints_in two_boot [] (smc 0 1 uid ∷ []) (0 ∷ []) ≡ None
  -- registers of the last answer are those of the processor's own
  pub last_answers : prints_in two_boot [] (smc 0 1 uid ∷ tells_back 1 ∷ tells_back 0 ∷ []) (0 ∷ 1 ∷ 0 ∷ 0 ∷ 1 ∷ 0 ∷ [])
      ≡ lines (
      codes "cpu 0"
      ∷ codes "ret 0 384fb3e0 e7f811e3 af630002 a5d5c51b 00000000 00000000 00000000 00000000 at 0 2"
      ∷ codes "ret 0 ffffffff 00000000 00000000 00000000 384fb3e0 e7f811e3 af630002 a5d5c51b at 3 5"
      ∷ codes "cpu 1"
      ∷ codes "ret 1 ffffffff 00000000 00000000 00000000 00000000 00000000 00000000 00000000 at 1 4"
      ∷ [])
  -- two opens on one thread: the second processor's comes in while the first's slot is taken, or behind it; RAM is shown
  -- behind the exit before it, and written before the first entry
  pub one_thread : prints_in (adding 2 1 8) open_fill (
      calls 0 ∷ Show 0 0x40000008 4 ∷ calls 1 ∷ Show 1 0x40000008 4 ∷ []) (0 ∷ 1 ∷ 0 ∷ 1 ∷ [])
      ≡ lines (
      codes "cpu 0"
      ∷ codes "ret 0 00000000 00000000 00000000 00000000 00000000 00000000 00000000 00000000 at 0 2"
      ∷ codes "mem 0 40000008 01000000"
      ∷ codes "cpu 1"
      ∷ codes "ret 1 00000001 00000000 00000000 00000000 00000000 00000000 00000000 00000000 at 1 3"
      ∷ codes "mem 1 40000008 00000000"
      ∷ [])
  pub one_thread_in_turn : prints_in (adding 2 1 8) open_fill (
      calls 0 ∷ Show 0 0x40000008 4 ∷ calls 1 ∷ Show 1 0x40000008 4 ∷ []) (1 ∷ 1 ∷ 0 ∷ 0 ∷ [])
      ≡ lines (
      codes "cpu 0"
      ∷ codes "ret 0 00000000 00000000 00000000 00000000 00000000 00000000 00000000 00000000 at 2 3"
      ∷ codes "mem 0 40000008 02000000"
      ∷ codes "cpu 1"
      ∷ codes "ret 1 00000000 00000000 00000000 00000000 00000000 00000000 00000000 00000000 at 0 1"
      ∷ codes "mem 1 40000008 01000000"
      ∷ [])
  -- a processor whose entry was refused does nothing more; the other goes on
  pub no_more : option_and_then (after_turn (booted two_boot []) 0) first_refused ≡ None
  pub others_go_on : option_and_then blocks_of_ended
      (option_and_then (after_turns (booted two_boot []) (1 ∷ 1 ∷ 1 ∷ 1 ∷ 1 ∷ 1 ∷ [])) first_refused)
      ≡ lines (
      codes "cpu 0"
      ∷ codes "full 268337088 262304"
      ∷ codes "cpu 1"
      ∷ map (asked (codes "1")) (codes "0 1" ∷ codes "2 3" ∷ codes "4 5" ∷ []))
  -- which shows in the play, and not where nothing was refused
  pub refusal_shows : option_map has_refused first_refused ≡ Some true
  pub none_shows : option_map has_refused (play_in two_boot [] both_ask.items (0 ∷ 1 ∷ [])) ≡ Some false
  -- with no boot there is nothing to print
  pub no_boot : blocks_in [] (record { boot = None; fills = []; items = [] }) [] ≡ Some []
  -- a processor's part of a history: its exit and its two entries, and what it shows up to its next exit
  pub part : IsHalfPart asks_and_shows half_standing
  -- one that has another entry next has none
  pub no_part : (standing : Standing) → IsHalfPart (smc 1 2 uid ∷ []) standing → ⊥
  -- the places of its events, of which the last isn't printed yet, and the SMCs of both processors
  pub places : places_of 1 half_way.history ≡ 1 ∷ 2 ∷ 4 ∷ []
  pub printed : printed_places half_standing.seat.lines ≡ 1 ∷ 2 ∷ []
  pub smcs : smcs_of half_way.history ≡ 3
  -- refused entries in the order of a history: before the event at their place, behind all events, and two at one place
  pub refused_before : order_with (at_places (Some 1) None) 2 0 (asks_in 1 ∷ uid_exit 1 ∷ []) ≡ 1 ∷ 0 ∷ 1 ∷ []
  pub refused_behind : order_with (at_places (Some 2) None) 2 0 (asks_in 1 ∷ uid_exit 1 ∷ []) ≡ 1 ∷ 1 ∷ 0 ∷ []
  pub both_refused : order_with (at_places (Some 2) (Some 2)) 2 0 (asks_in 1 ∷ uid_exit 1 ∷ []) ≡ 1 ∷ 1 ∷ 0 ∷ 1 ∷ []
  pub none_refused : order_with (at_places None None) 2 0 (asks_in 1 ∷ uid_exit 1 ∷ []) ≡ 1 ∷ 1 ∷ []
  -- a processor without items has its first line alone
  pub without_items : prints_in two_boot [] (smc 1 1 uid ∷ []) (1 ∷ 1 ∷ [])
      ≡ lines (codes "cpu 0" ∷ codes "cpu 1" ∷ asked (codes "1") (codes "0 1") ∷ [])

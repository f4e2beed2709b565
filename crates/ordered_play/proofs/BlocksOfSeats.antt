-- What is printed of a play, by its seats.
use Rattle.std.proofs.Common.{◌≡◌, ℕ, zero, suc, ◌+◌, ◌<◌, ◌≤◌, Bool, true, false, List, [], ◌∷◌, ◌++◌, Option, Some, None}
use Rattle.std.proofs.Common.{length, inl, inr, refl, sym, ◌∙◌, ap, arith}
use Rattle.std.specs.Prelude.{◌&&◌, ◌||◌, ◌⊎◌, slice_get}
use Rattle.std.specs.List.{flat_map, list_all, list_any}
use Rattle.std.specs.Option.{is_some, option_map}
use Rattle.std.proofs.lemmas.Option.{slice_get_past, slice_get_within}
use Rattle.event_journal.specs.declared.event.Event.{Event}
use Rattle.kernel_model.specs.Application.{Booted}
use Rattle.ordered_play.proofs.Events.{same_some}
use Rattle.ordered_play.specs.Blocks.{block_of, blocks_from, blocks_of, has_ended, has_refused, is_none}
use Rattle.ordered_play.specs.Laws.{BlocksAreOfSeats}
use Rattle.ordered_play.specs.Merge.{ComesTo}
use Rattle.ordered_play.specs.Ordered.{OrderedPlay}
use Rattle.ordered_play.specs.Seat.{Seat}

-- each text is the block of its seat
blocks_are : (number : ℕ) (seats : List Seat) (texts : List (List ℕ))
    → ((k : ℕ) → slice_get texts k ≡ option_map (block_of (number + k)) (slice_get seats k))
    → blocks_from number seats ≡ flat_map (λ text. text) texts
blocks_are number [] [] each = refl
blocks_are number [] (text ∷ texts) each = let none = each 0 in absurd cc
blocks_are number (seat ∷ seats) [] each = let none = each 0 in absurd cc
blocks_are number (seat ∷ seats) (text ∷ texts) each =
    let here : number + 0 ≡ number = omega arith in
    let first = same_some text (block_of (number + 0) seat) (each 0) ∙ ap (λ (n : ℕ). block_of n seat) here in
    let rest = blocks_are (number + 1) seats texts (λ k.
    let next : number + suc k ≡ number + 1 + k = omega arith in
    each (suc k) ∙ ap (λ (n : ℕ). option_map (block_of n) (slice_get seats k)) next) in
    ap (λ (more : List ℕ). block_of number seat ++ more) rest
    ∙ ap (λ (t : List ℕ). t ++ flat_map (λ text. text) texts) (sym first)

-- ---- tests of all seats

all_pass : (test : Seat → Bool) (seats : List Seat)
    → ((k : ℕ) (seat : Seat) → slice_get seats k ≡ Some seat → test seat ≡ true) → list_all test seats ≡ true
all_pass test [] each = refl
all_pass test (seat ∷ seats) each =
    ap (λ (b : Bool). b && list_all test seats) (each 0 seat refl)
    ∙ all_pass test seats (λ k other there. each (suc k) other there)

pub one_passes : (test : Seat → Bool) (seats : List Seat) (k : ℕ) (seat : Seat) → slice_get seats k ≡ Some seat
    → test seat ≡ true → list_any test seats ≡ true
one_passes test [] k seat there passes = absurd cc
one_passes test (first ∷ seats) zero seat there passes =
    let same = same_some first seat there in
    ap (λ (b : Bool). b || list_any test seats) (ap test same ∙ passes)
one_passes test (first ∷ seats) (suc k) seat there passes =
    by (test first) (one_passes test seats k seat there passes)
  where
    by : (first : Bool) → list_any test seats ≡ true → (first || list_any test seats) ≡ true
    by true rest = refl
    by false rest = rest

none_passes : (test : Seat → Bool) (seats : List Seat)
    → ((k : ℕ) (seat : Seat) → slice_get seats k ≡ Some seat → test seat ≡ false) → list_any test seats ≡ false
none_passes test [] each = refl
none_passes test (seat ∷ seats) each =
    ap (λ (b : Bool). b || list_any test seats) (each 0 seat refl)
    ∙ none_passes test seats (λ k other there. each (suc k) other there)

-- ---- the seats that a play has come to

module _ (boot : Booted) (events : List Event) (seat_for : (cpu : ℕ) → cpu < boot.cpus → Seat) (play : OrderedPlay)
    (to : ComesTo boot events seat_for play) where
  -- each seat of the play is one of them
  record IsOne (cpu : ℕ) (seat : Seat) : Type 0 where
    below : cpu < boot.cpus
    is : seat_for cpu below ≡ seat

  is_one : (cpu : ℕ) (seat : Seat) → slice_get play.seats cpu ≡ Some seat → IsOne cpu seat
  is_one cpu seat there =
      let within = slice_get_within play.seats cpu seat there in
      let count = to.count in
      let below : cpu < boot.cpus = omega (arith, within, count) in
      record { below = below; is = same_some (seat_for cpu below) seat (sym (to.seats cpu below) ∙ there) }

  pub in_blocks : (texts : List (List ℕ)) → length texts ≡ boot.cpus
      → ((cpu : ℕ) (below : cpu < boot.cpus) → slice_get texts cpu ≡ Some (block_of cpu (seat_for cpu below)))
      → blocks_of play ≡ flat_map (λ text. text) texts
  in_blocks texts many each = blocks_are 0 play.seats texts (λ k. by k (grind arith))
    where
      by : (k : ℕ) → (k < boot.cpus) ⊎ (boot.cpus ≤ k)
          → slice_get texts k ≡ option_map (block_of (0 + k)) (slice_get play.seats k)
      by k (inl below) =
          let here : k ≡ 0 + k = omega arith in
          each k below ∙ ap (λ (n : ℕ). Some (block_of n (seat_for k below))) here
          ∙ ap (λ (o : Option Seat). option_map (block_of (0 + k)) o) (sym (to.seats k below))
      by k (inr past) =
          let count = to.count in
          let no_text : length texts ≤ k = omega (arith, many, past) in
          let no_seat : length play.seats ≤ k = omega (arith, count, past) in
          slice_get_past texts k no_text
          ∙ ap (λ (o : Option Seat). option_map (block_of (0 + k)) o) (sym (slice_get_past play.seats k no_seat))

  pub all_done : ((cpu : ℕ) (below : cpu < boot.cpus) → (seat_for cpu below).acts ≡ []) → has_ended play ≡ true
  all_done each = all_pass _ play.seats (λ k seat there.
      let one = is_one k seat there in
      ap (λ (s : Seat). is_none s.acts) (sym one.is) ∙ ap is_none (each k one.below))

  pub one_is_refused : (cpu : ℕ) (below : cpu < boot.cpus) → is_some (seat_for cpu below).refused ≡ true
      → has_refused play ≡ true
  one_is_refused cpu below refused =
      one_passes (λ (s : Seat). is_some s.refused) play.seats cpu (seat_for cpu below) (to.seats cpu below) refused

  pub none_is_refused : ((cpu : ℕ) (below : cpu < boot.cpus) → (seat_for cpu below).refused ≡ None)
      → has_refused play ≡ false
  none_is_refused each = none_passes (λ (s : Seat). is_some s.refused) play.seats (λ k seat there.
      let one = is_one k seat there in
      ap (λ (s : Seat). is_some s.refused) (sym one.is) ∙ ap is_some (each k one.below))

pub blocks_are_of_seats : BlocksAreOfSeats
blocks_are_of_seats = record {
  blocks = λ boot events seat_for play texts to are. in_blocks boot events seat_for play to texts are.0 are.1;
  ended = λ boot events seat_for play to each. all_done boot events seat_for play to each;
  one_refused = λ boot events seat_for play cpu below to refused. one_is_refused boot events seat_for play to cpu below refused;
  none_refused = λ boot events seat_for play to each. none_is_refused boot events seat_for play to each;
}

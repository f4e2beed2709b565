-- Small tables, computed. An entry is the pair of its maker and a letter's number, and the basis is a number.
use Rattle.std.specs.Prelude.{◌≡◌, ℕ, List, [], ◌∷◌, Some}
use Rattle.core_lock.specs.declared.view.Record.{Record}
use Rattle.core_lock.specs.declared.view.Stand.TheVariants.{Outside}
use Rattle.core_lock.specs.declared.view.View.{View}
use Rattle.core_lock.specs.Counts.{times, numbers_from, tickets_from, made_by}
use Rattle.core_lock.specs.Rule.{waiting, waiting_at, turns, numbers_of, numbered, spent, opening_view}
use Rattle.core_lock.specs.Steps.{split_left, split_right, joined, with_ticket, with_turn, with_entries, with_none}

abbrev Entry : Type 0
Entry = ℕ × ℕ

abbrev maker : Entry → ℕ
maker e = e.0

abbrev history : List Entry
history = (0, 7) ∷ (1, 8) ∷ (0, 9) ∷ []

abbrev record_of : ℕ → List Entry → List Entry → Record Entry
record_of n made seen = record { number = n; made = made; seen = seen }

-- the first view of a table with three numbers
abbrev first_view : View Entry ℕ
first_view = opening_view 3 5

-- the view of a pass of a lock with two numbers
abbrev pass : ℕ → List Entry → List Entry → View Entry ℕ
pass n seen made = record { count = 2; basis = Some 5; seen = seen; records = record_of n made [] ∷ []; stand = Outside }

abbrev first_pass : View Entry ℕ
first_pass = pass 0 ((0, 7) ∷ []) ((0, 7) ∷ [])

abbrev second_pass : View Entry ℕ
second_pass = pass 1 ((0, 7) ∷ (1, 8) ∷ []) ((1, 8) ∷ [])

-- one has the turn, and one waits behind it
abbrev queue : List (View Entry ℕ)
queue = with_turn 18446744073709551615 history first_pass ∷ with_ticket 0 second_pass ∷ spent ∷ []

pub record Examples : Type 0 where
  pub twice_in_a_list : times 7 (7 ∷ 3 ∷ 7 ∷ []) ≡ 2
  pub numbers_in_order : numbers_from 2 3 ≡ 2 ∷ 3 ∷ 4 ∷ []
  pub tickets_go_round : tickets_from 18446744073709551615 3 ≡ 1 ∷ 0 ∷ 18446744073709551615 ∷ []
  pub entries_of_one_maker : made_by maker 0 history ≡ (0, 7) ∷ (0, 9) ∷ []
  pub first_view_has_each_number : numbers_of first_view ≡ 0 ∷ 1 ∷ 2 ∷ []
  pub split_keeps_the_first : numbers_of (split_left first_view) ≡ 0 ∷ []
  pub split_gives_the_others : numbers_of (split_right first_view) ≡ 1 ∷ 2 ∷ []
  pub two_wait : waiting queue ≡ 2
  pub ticket_stands_once : waiting_at 0 queue ≡ 1
  pub one_has_the_turn : turns queue ≡ 1
  pub turn_that_ended : turns (with_none (with_turn 4 history first_pass) ∷ []) ≡ 0
  pub number_stands_once : numbered 1 queue ≡ 1
  pub count_sees_all : with_entries maker history first_pass ≡ pass 0 history ((0, 7) ∷ (0, 9) ∷ [])
  pub join_keeps_the_longer : (joined first_pass second_pass).seen ≡ (0, 7) ∷ (1, 8) ∷ []
  pub join_keeps_what_each_saw :
      (joined first_pass second_pass).records
      ≡ record_of 0 ((0, 7) ∷ []) ((0, 7) ∷ []) ∷ record_of 1 ((1, 8) ∷ []) ((0, 7) ∷ (1, 8) ∷ []) ∷ []

-- Writes of the desk behind those of the kernel.
use Rattle.std.proofs.Common.{◌≡◌, ℕ, zero, suc, ◌<◌, List, [], ◌∷◌, ◌++◌, length, refl, sym, ap, subst, ◌∙◌}
use Rattle.std.specs.Prelude.{slice_index_or, slice_set}
use Rattle.std.specs.Int.{to_le_bytes, w32}
use Rattle.std.proofs.lemmas.List.{get_or-set_same, set-get_or}
use Rattle.core_machine.specs.Standing.{IsAt}
use Rattle.core_machine.specs.declared.machine.Machine.{Machine}
use Rattle.kernel_model.specs.Application.{Booted}
use Rattle.kernel_model.specs.Exit.{word32}
use Rattle.msg_args.specs.Layout.{origin_at, ret_at}
use Rattle.notify_play.specs.Told.{result_in}
use Rattle.ns_ram.proofs.WriteList.{lane_after-append}
use Rattle.ns_ram.specs.Writes.{Write, lane_after}
use Rattle.play_model.specs.Play.{Play, with_writes}
use Rattle.trace_player.specs.Position.{Position, StandsAt}
use Rattle.trace_player.specs.declared.player.Player.{Player}

set-again : {X : Type 0} (xs : List X) (i : ℕ) (x y : X) → slice_set (slice_set xs i x) i y ≡ slice_set xs i y
set-again [] i x y = refl
set-again (first ∷ xs) zero x y = refl
set-again (first ∷ xs) (suc i) x y = ap (λ zs. first ∷ zs) (set-again xs i x y)

-- the RAM of a processor, written in two parts
pub lanes-twice : (lanes : List (List ℕ)) (cpu : ℕ) (first second : List Write) → cpu < length lanes
    → (let once = slice_set lanes cpu (lane_after (slice_index_or lanes cpu []) first) in
    slice_set once cpu (lane_after (slice_index_or once cpu []) second)
    ≡ slice_set lanes cpu (lane_after (slice_index_or lanes cpu []) (first ++ second)))
lanes-twice lanes cpu first second within =
    let lane = lane_after (slice_index_or lanes cpu []) first in
    ap (λ (l : List ℕ). slice_set (slice_set lanes cpu lane) cpu (lane_after l second))
    (get_or-set_same lanes cpu lane [] within)
    ∙ set-again lanes cpu lane (lane_after lane second)
    ∙ ap (slice_set lanes cpu) (sym (lane_after-append (slice_index_or lanes cpu []) first second))

-- no writes at all
pub wrote-none : (boot : Booted) (at : Position) (cpu : ℕ) (player : Player)
    → StandsAt boot at player → StandsAt boot (record at { play = with_writes cpu [] at.play }) player
wrote-none boot at cpu player stands =
    let machine = stands.machine in
    record {
      machine = record {
        booted = machine.booted;
        history = machine.history;
        kernel = machine.kernel;
        limit = machine.limit;
        lanes = machine.lanes ∙ sym (set-get_or at.play.lanes cpu []);
        goes_on = machine.goes_on;
      };
      answers = stands.answers;
    }

-- one write behind others
wrote-more : (boot : Booted) (play : Play) (cpu : ℕ) (first second : List Write) (machine : Machine)
    → cpu < length play.lanes → IsAt boot (with_writes cpu second (with_writes cpu first play)) machine
    → IsAt boot (with_writes cpu (first ++ second) play) machine
wrote-more boot play cpu first second machine within at = record {
  booted = at.booted;
  history = at.history;
  kernel = at.kernel;
  limit = at.limit;
  lanes = at.lanes ∙ lanes-twice play.lanes cpu first second within;
  goes_on = at.goes_on;
}

-- a write by its address and its bytes
abbrev write_to : ℕ → List ℕ → Write
write_to addr bytes = record { addr = addr; bytes = bytes }

same-write : (addr number to : ℕ) (bytes : List ℕ) → to ≡ addr → bytes ≡ to_le_bytes w32 number
    → write_to to bytes ≡ word32 addr number
same-write addr number to bytes there is =
    ap (λ (a : ℕ). write_to a bytes) there ∙ ap (λ (b : List ℕ). write_to addr b) is

-- a result and its origin
pub wrote-both : (boot : Booted) (at : Position) (cpu arg ret to_ret to_origin : ℕ) (ret_bytes origin_bytes : List ℕ)
    (player : Player) → to_ret ≡ ret_at arg → ret_bytes ≡ to_le_bytes w32 ret → to_origin ≡ origin_at arg
    → origin_bytes ≡ to_le_bytes w32 3 → cpu < length at.play.lanes
    → StandsAt boot (record at {
      play = with_writes cpu (write_to to_origin origin_bytes ∷ [])
          (with_writes cpu (write_to to_ret ret_bytes ∷ []) at.play);
    }) player
    → StandsAt boot (record at { play = with_writes cpu (result_in arg ret) at.play }) player
wrote-both boot at cpu arg ret to_ret to_origin ret_bytes origin_bytes player ret_there ret_is origin_there origin_is within
    stands =
    let one = write_to to_ret ret_bytes in
    let two = write_to to_origin origin_bytes in
    record {
      machine =
          subst (λ (w : Write). IsAt boot (with_writes cpu (word32 (ret_at arg) ret ∷ w ∷ []) at.play) player.machine)
          (same-write (origin_at arg) 3 to_origin origin_bytes origin_there origin_is)
          (subst (λ (w : Write). IsAt boot (with_writes cpu (w ∷ two ∷ []) at.play) player.machine)
          (same-write (ret_at arg) ret to_ret ret_bytes ret_there ret_is)
          (wrote-more boot at.play cpu (one ∷ []) (two ∷ []) player.machine within stands.machine));
      answers = stands.answers;
    }

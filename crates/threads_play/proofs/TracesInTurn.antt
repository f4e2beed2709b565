-- The acts of each processor of a sound trace come in turn.
use Rattle.std.proofs.Common.{◌≡◌, ◌≢◌, ℕ, ◌<◌, zero, suc, Bool, true, false, not, List, [], ◌∷◌, ◌++◌, length, set, refl, sym, subst, ◌∙◌, arith}
use Rattle.std.specs.Prelude.{◌==◌, All, IsTrue, slice_index_or}
use Rattle.std.specs.List.{fold}
use Rattle.std.proofs.lemmas.Bool.Decides.{nat_tests}
use Rattle.std.proofs.lemmas.List.{get_or-set_other, get_or-set_same}
use Rattle.std.proofs.Math.ListN.{length-set}
use Rattle.ordered_play.specs.Act.{Act, acts_for, acts_of, cpu_of_item}
use Rattle.trace_text.specs.Limits.{cpus_of, inside_after, moved, outside}
use Rattle.trace_text.specs.Sound.{ComeInTurn, IsSoundItem, can_come}
use Rattle.trace_text.specs.declared.item.Item.{Item}
use Rattle.trace_text.specs.declared.item.Item.TheVariants.{Enter, Leave, Show, Smc, Write}
use Rattle.threads_play.specs.InTurn.{AreInTurn}
use Rattle.threads_play.specs.Laws.{SoundTracesAreInTurn}
use Rattle.threads_play.proofs.Taking.{no_acts, own_acts}

all_rest : {X : Type 0} (P : X → Type 0) (x : X) (xs : List X) → All P (x ∷ xs) → All P xs
all_rest P x xs all k d within = all (suc k) d (omega arith)

is_false : (b : Bool) → IsTrue (not b) → b ≡ false
is_false true is = absurd cc
is_false false is = refl

moved_length : (inside : List Bool) (item : Item) → length (moved inside item) ≡ length inside
moved_length inside (Smc c steps regs) = refl
moved_length inside (Enter c steps regs) = length-set inside c true
moved_length inside (Leave c) = length-set inside c false
moved_length inside (Write c addr bytes) = refl
moved_length inside (Show c addr len) = refl

-- at the start none is inside
none_inside : (n : ℕ) → slice_index_or outside n false ≡ false
none_inside zero = refl
none_inside (suc zero) = refl
none_inside (suc (suc zero)) = refl
none_inside (suc (suc (suc zero))) = refl
none_inside (suc (suc (suc (suc zero)))) = refl
none_inside (suc (suc (suc (suc (suc zero))))) = refl
none_inside (suc (suc (suc (suc (suc (suc zero)))))) = refl
none_inside (suc (suc (suc (suc (suc (suc (suc zero))))))) = refl
none_inside (suc (suc (suc (suc (suc (suc (suc (suc n)))))))) = refl

module _ (cpu cpus : ℕ) (below : cpu < 8) where
  -- another processor's item leaves it where it is
  moved_other : (inside : List Bool) (item : Item) → cpu_of_item item ≢ cpu
      → slice_index_or (moved inside item) cpu false ≡ slice_index_or inside cpu false
  moved_other inside (Smc c steps regs) other = refl
  moved_other inside (Enter c steps regs) other =
      get_or-set_other inside c cpu true false (λ same. other (sym same))
  moved_other inside (Leave c) other = get_or-set_other inside c cpu false false (λ same. other (sym same))
  moved_other inside (Write c addr bytes) other = refl
  moved_other inside (Show c addr len) other = refl

  own_item : (inside : List Bool) (item : Item) (more : List Act) → length inside ≡ 8 → IsSoundItem cpus item
      → cpu_of_item item ≡ cpu → IsTrue (can_come inside item)
      → AreInTurn (slice_index_or (moved inside item) cpu false) more
      → AreInTurn (slice_index_or inside cpu false) (acts_of item ++ more)
  own_item inside (Smc c steps regs) more eight sound mine can rest =
      let out : slice_index_or inside cpu false ≡ false =
      subst (λ (n : ℕ). slice_index_or inside n false ≡ false) mine (is_false (slice_index_or inside c false) can) in (
        out,
        record { some_steps = sound.some_step; few_steps = sound.few_steps; registers = sound.registers },
        (refl, subst (λ (b : Bool). AreInTurn b more) out rest),
      )
  own_item inside (Enter c steps regs) more eight sound mine can rest =
      let out : slice_index_or inside cpu false ≡ false =
      subst (λ (n : ℕ). slice_index_or inside n false ≡ false) mine (is_false (slice_index_or inside c false) can) in
      let within : c < length inside = omega (arith, mine, eight, below) in
      let now : slice_index_or (set inside c true) cpu false ≡ true =
      subst (λ (n : ℕ). slice_index_or (set inside c true) n false ≡ true) mine (get_or-set_same inside c true false within) in (
        out,
        record { some_steps = sound.some_step; few_steps = sound.few_steps; registers = sound.registers },
        subst (λ (b : Bool). AreInTurn b more) now rest,
      )
  own_item inside (Leave c) more eight sound mine can rest =
      let within : c < length inside = omega (arith, mine, eight, below) in
      let now : slice_index_or (set inside c false) cpu false ≡ false =
      subst (λ (n : ℕ). slice_index_or (set inside c false) n false ≡ false) mine (get_or-set_same inside c false false within) in (
        subst (λ (n : ℕ). slice_index_or inside n false ≡ true) mine can,
        subst (λ (b : Bool). AreInTurn b more) now rest,
      )
  own_item inside (Write c addr bytes) more eight sound mine can rest = (sound.1, rest)
  own_item inside (Show c addr len) more eight sound mine can rest = (sound.1, rest)

  acts_on : (mine : Bool) (inside : List Bool) (item : Item) (items : List Item) → (cpu_of_item item == cpu) ≡ mine
      → length inside ≡ 8 → IsSoundItem cpus item → IsTrue (can_come inside item)
      → AreInTurn (slice_index_or (moved inside item) cpu false) (acts_for cpu items)
      → AreInTurn (slice_index_or inside cpu false) (acts_for cpu (item ∷ items))
  acts_on true inside item items is eight sound can rest =
      let mine : cpu_of_item item ≡ cpu = grind (arith, nat_tests) in
      subst (AreInTurn (slice_index_or inside cpu false)) (sym (own_acts cpu item items mine))
      (own_item inside item (acts_for cpu items) eight sound mine can rest)
  acts_on false inside item items is eight sound can rest =
      let other : cpu_of_item item ≢ cpu = λ same. absurd (grind (arith, nat_tests)) in
      subst (AreInTurn (slice_index_or inside cpu false)) (sym (no_acts cpu item items other))
      (subst (λ (b : Bool). AreInTurn b (acts_for cpu items)) (moved_other inside item other) rest)

  acts_in_turn : (inside : List Bool) (items : List Item) → length inside ≡ 8 → All (IsSoundItem cpus) items
      → ComeInTurn inside items → fold moved inside items ≡ outside
      → AreInTurn (slice_index_or inside cpu false) (acts_for cpu items)
  acts_in_turn inside [] eight sound turn ended =
      subst (λ (l : List Bool). slice_index_or l cpu false ≡ false) (sym ended) (none_inside cpu)
  acts_in_turn inside (item ∷ items) eight sound turn ended =
      acts_on (cpu_of_item item == cpu) inside item items refl eight (sound 0 item (omega arith)) turn.0
      (acts_in_turn (moved inside item) items (moved_length inside item ∙ eight) (all_rest (IsSoundItem cpus) item items sound)
      turn.1 ended)

pub sound_traces_are_in_turn : SoundTracesAreInTurn
unfolding inside_after
sound_traces_are_in_turn natives trace cpu below sound =
    subst (λ (inside : Bool). AreInTurn inside (acts_for cpu trace.items)) (none_inside cpu)
    (acts_in_turn cpu (cpus_of trace.boot) below outside trace.items refl sound.items sound.in_turn sound.ended)

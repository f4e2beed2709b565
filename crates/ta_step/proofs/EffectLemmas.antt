-- An instruction that an image may have does something: each has a row, and each system call too.
use Rattle.std.proofs.Common.{◌≡◌, ℕ, suc, ◌≤◌, ◌<◌, ◌^◌, Bool, true, false, ◌+◌, List, [], ◌∷◌, length, Option, Some, None, refl, ap, sym, subst, arith}
use Rattle.std.specs.Prelude.{◌==◌, ◌&&◌, if◌then◌else◌, find, slice_get, IsSome, option_and_then, All, nat_le}
use Rattle.std.specs.Option.{option_map, option_map_or}
use Rattle.std.proofs.lemmas.Bool.{and_parts, leb-true}
use Rattle.std.proofs.lemmas.Bool.Decides.{nat_tests}
use Rattle.std.proofs.lemmas.Option.{get_or_from_slice_get, slice_get_within}
use Rattle.ta_isa.specs.declared.image.Instr.{Instr}
use Rattle.ta_isa.specs.declared.image.Image.{Image}
use Rattle.ta_isa.specs.declared.row.Row.{Row}
use Rattle.ta_isa.specs.declared.row.Operand.TheVariants.{Unused}
use Rattle.ta_isa.specs.declared.row.Immediate.TheVariants as immediate
use Rattle.ta_isa.specs.InstructionTable.{HasFields, row, is_operand, follows_row, is_instruction, instruction_table}
use Rattle.ta_isa.specs.Spelling.{IsValid}
use Rattle.ta_isa.proofs.Instructions.{is_instruction-fields}
use Rattle.ta_step.specs.State.{State}
use Rattle.ta_step.specs.SystemCalls.{system_calls, system_call_of}
use Rattle.ta_step.specs.Operations.{Effect, operations, effect_of}
use Rattle.ta_step.specs.Step.{step, outcome_of}

-- the calls are numbered in a row from here on
abbrev is_numbered : ℕ → List (ℕ × Effect) → Bool
is_numbered first [] = true
is_numbered first (e ∷ es) = (e.0 == first) && is_numbered (suc first) es

abbrev call_in : List (ℕ × Effect) → ℕ → Option Effect
call_in es n = option_map (λ e. e.1) (find (λ e. e.0 == n) es)

call_at : (e : ℕ × Effect) (es : Option (ℕ × Effect)) (b : Bool) → (b ≡ false → IsSome (option_map (λ x. x.1) es))
    → IsSome (option_map (λ x. x.1) (if b then Some e else es))
call_at e es true rest = refl
call_at e es false rest = rest refl

call_in-IsSome : (es : List (ℕ × Effect)) (first n : ℕ) → is_numbered first es ≡ true → first ≤ n → n < first + length es → IsSome (call_in es n)
call_in-IsSome [] first n numbered from to = absurd (omega arith)
call_in-IsSome (e ∷ es) first n numbered from to =
    let here = and_parts (e.0 == first) (is_numbered (suc first) es) numbered in
    call_at e (find (λ x. x.0 == n) es) (e.0 == n)
    (λ (other : (e.0 == n) ≡ false). call_in-IsSome es (suc first) n here.1 (grind (arith, nat_tests, here.0, other)) (omega arith))

system_call-IsSome : (n : ℕ) → n ≤ 19 → IsSome (system_call_of n)
system_call-IsSome n le = call_in-IsSome system_calls 0 n refl (omega arith) (omega arith)

-- the system call of an instruction that follows its row
last_call : (count : ℕ) (i : Instr) → follows_row count i (row Unused Unused Unused immediate.SystemCall) ≡ true → i.imm ≤ 19
last_call count i e =
    leb-true i.imm 19 (and_parts (is_operand Unused i.d && is_operand Unused i.a && is_operand Unused i.b) (nat_le i.imm 19) e).1

-- two tables have the same operations in the same order, and where an instruction follows the row of the
-- one, the other says what it does
abbrev Matches : List (ℕ × Row) → List (ℕ × (Instr → Option Effect)) → Type 0
Matches [] [] = Unit {0}
Matches [] (y ∷ ys) = ⊥
Matches (x ∷ xs) [] = ⊥
Matches (x ∷ xs) (y ∷ ys) =
    (x.0 ≡ y.0) × ((count : ℕ) (i : Instr) → follows_row count i x.1 ≡ true → IsSome (y.1 i)) × Matches xs ys

abbrev row_in : List (ℕ × Row) → ℕ → Option (ℕ × Row)
row_in xs op = find (λ e. e.0 == op) xs

abbrev effect_in : List (ℕ × (Instr → Option Effect)) → ℕ → Option (ℕ × (Instr → Option Effect))
effect_in ys op = find (λ e. e.0 == op) ys

abbrev Follows : ℕ → Instr → Option (ℕ × Row) → Type 0
Follows count i found = option_map_or (follows_row count i) (option_map (λ e. e.1) found) false ≡ true

abbrev Does : Instr → Option (ℕ × (Instr → Option Effect)) → Type 0
Does i found = IsSome (option_and_then (λ e. e.1 i) found)

at_test : (count : ℕ) (i : Instr) (x : ℕ × Row) (y : ℕ × (Instr → Option Effect)) (xs : Option (ℕ × Row)) (ys : Option (ℕ × (Instr → Option Effect))) (b : Bool)
    → (follows_row count i x.1 ≡ true → IsSome (y.1 i)) → (Follows count i xs → Does i ys)
    → Follows count i (if b then Some x else xs) → Does i (if b then Some y else ys)
at_test count i x y xs ys true here rest h = here h
at_test count i x y xs ys false here rest h = rest h

found : (count : ℕ) (i : Instr) (xs : List (ℕ × Row)) (ys : List (ℕ × (Instr → Option Effect))) → Matches xs ys → Follows count i (row_in xs i.op) → Does i (effect_in ys i.op)
found count i [] [] m h = absurd cc
found count i [] (y ∷ ys) m h = absurd m
found count i (x ∷ xs) [] m h = absurd m
found count i (x ∷ xs) (y ∷ ys) m h =
    let same : (y.0 == i.op) ≡ (x.0 == i.op) = ap (λ (k : ℕ). k == i.op) (sym m.0) in
    rw same (at_test count i x y (row_in xs i.op) (effect_in ys i.op) (x.0 == i.op) (m.1 count i) (found count i xs ys m.2) h)

tables_match : Matches instruction_table operations
tables_match = (
  refl,
  λ count i e. refl,
  (
    refl,
    λ count i e. refl,
    (
      refl,
      λ count i e. refl,
      (
        refl,
        λ count i e. refl,
        (
          refl,
          λ count i e. refl,
          (
            refl,
            λ count i e. refl,
            (
              refl,
              λ count i e. refl,
              (
                refl,
                λ count i e. refl,
                (
                  refl,
                  λ count i e. refl,
                  (
                    refl,
                    λ count i e. refl,
                    (
                      refl,
                      λ count i e. refl,
                      (
                        refl,
                        λ count i e. refl,
                        (
                          refl,
                          λ count i e. refl,
                          (
                            refl,
                            λ count i e. refl,
                            (
                              refl,
                              λ count i e. refl,
                              (
                                refl,
                                λ count i e. refl,
                                (
                                  refl,
                                  λ count i e. refl,
                                  (
                                    refl,
                                    λ count i e. refl,
                                    (
                                      refl,
                                      λ count i e. refl,
                                      (
                                        refl,
                                        λ count i e. refl,
                                        (
                                          refl,
                                          λ count i e. refl,
                                          (
                                            refl,
                                            λ count i e. refl,
                                            (
                                              refl,
                                              λ count i e. refl,
                                              (refl, λ count i e. system_call-IsSome i.imm (last_call count i e), tt),
                                            ),
                                          ),
                                        ),
                                      ),
                                    ),
                                  ),
                                ),
                              ),
                            ),
                          ),
                        ),
                      ),
                    ),
                  ),
                ),
              ),
            ),
          ),
        ),
      ),
    ),
  ),
)

pub is_instruction-effect : (count : ℕ) (i : Instr) → is_instruction count i ≡ true → IsSome (effect_of i)
unfolding is_instruction
is_instruction-effect count i h = found count i instruction_table operations tables_match h

-- what holds of all holds of each
at_place : {X : Type 0} (P : X → Type 0) (xs : List X) (place : ℕ) (x : X) → All P xs → slice_get xs place ≡ Some x → P x
at_place P xs place x all e =
    subst P (get_or_from_slice_get xs place x x e) (all place x (slice_get_within xs place x e))

pub valid_instruction : (image : Image) (place : ℕ) (i : Instr) → IsValid image → slice_get image.code place ≡ Some i → is_instruction (length image.code) i ≡ true
valid_instruction image place i valid e = at_place (λ (j : Instr). is_instruction (length image.code) j ≡ true) image.code place i valid.code e

pub valid_effect : (image : Image) (place : ℕ) (i : Instr) → IsValid image → slice_get image.code place ≡ Some i → IsSome (effect_of i)
valid_effect image place i valid e = is_instruction-effect (length image.code) i (valid_instruction image place i valid e)

pub valid_fields : (image : Image) (place : ℕ) (i : Instr) → IsValid image → slice_get image.code place ≡ Some i → HasFields i
valid_fields image place i valid e =
    let few : length image.code < 2 ^ 32 = omega (arith, valid.most_instructions) in
    is_instruction-fields (length image.code) i few (valid_instruction image place i valid e)

map-IsSome : {X Y : Type 0} (f : X → Y) (o : Option X) → IsSome o → IsSome (option_map f o)
map-IsSome f None h = h
map-IsSome f (Some x) h = refl

outcome : (image : Image) (s : State) (place : ℕ) (found : Option Instr) → IsValid image → slice_get image.code place ≡ found → IsSome (outcome_of found s)
outcome image s place None valid e = refl
outcome image s place (Some i) valid e = map-IsSome (λ (effect : Effect). effect s) (effect_of i) (valid_effect image place i valid e)

-- a machine whose image is valid has an outcome at each step
pub one_outcome : (image : Image) (s : State) → IsValid image → IsSome (step image.code s)
one_outcome image s valid = outcome image s s.place (slice_get image.code s.place) valid refl

-- The parameters that are read of pieces are those of the definition.
use Rattle.std.proofs.Common.{◌≡◌, ℕ, suc, ◌+◌, Bool, true, false, cond, not, ◌&&◌, ltb, List, [], ◌∷◌, length, map, Some, None, refl, ◌∙◌, arith}
use Rattle.std.proofs.lemmas.Bool.Decides.{nat_tests}
use Rattle.std.specs.List.{list_all, position_or_len}
use Rattle.std.specs.Option.{option_map}
use Rattle.std.specs.Result.{result_ok}
use Rattle.arrayvec.specs.ArrayVec.{ArrayVec}
use Rattle.msg_args.specs.declared.arg.Misshapen.TheVariants.{Attr}
use Rattle.msg_args.specs.declared.param.MsgParam.{MsgParam}
use Rattle.msg_args.specs.Reading.{has_attribute, param_at, params_of, unless}

same_test : (place count : ℕ) → ltb (1 + place) (suc count) ≡ ltb place count
same_test place count = grind (arith, nat_tests)

one_more : (b all : Bool) (place count : ℕ) → ltb place count ≡ not all →
    ltb (cond (not (not b)) (1 + place) 0) (suc count) ≡ not (b && all)
one_more true all place count e = same_test place count ∙ e
one_more false all place count e = grind (arith, nat_tests)

-- the first element that fails a test stands inside where not all pass it
inside : {X : Type 0} (p : X → Bool) (xs : List X) → ltb (position_or_len (λ x. not (p x)) xs) (length xs) ≡ not (list_all p xs)
inside p [] = refl
inside p (x ∷ xs) = one_more (p x) (list_all p xs) (position_or_len (λ x. not (p x)) xs) (length xs) (inside p xs)

read_where : (spelled : List (List ℕ)) (good : Bool) (place : ℕ) →
    option_map (λ (params : ArrayVec MsgParam). params.items) (result_ok (unless (option_map (λ i. Attr i) (cond (not good) (Some place) None)) (record { items = map param_at spelled })))
    ≡ cond good (Some (map param_at spelled)) None
read_where spelled true place = refl
read_where spelled false place = refl

-- the parameters that are read of pieces, where each has a valid attribute
pub params_read : (spelled : List (List ℕ)) → option_map (λ (params : ArrayVec MsgParam). params.items) (result_ok (params_of spelled))
    ≡ cond (list_all has_attribute spelled) (Some (map param_at spelled)) None
params_read spelled = rw (inside has_attribute spelled) (read_where spelled (list_all has_attribute spelled) _)

-- The two laws of the format: what is read is spelled so, and what is spelled so is read.
use Rattle.std.proofs.Common.{◌≡◌, ℕ, ◌+◌, ◌*◌, ◌≤◌, Bool, true, false, cond, eqb, ltb, List, ◌++◌, length, take, drop, map, Option, Some, None, Result, Ok, Err, refl, sym, ap, subst, ◌∙◌, arith}
use Rattle.std.specs.Prelude.{IfOk}
use Rattle.std.specs.List.{flat_map}
use Rattle.std.specs.Simd.{first_chunks}
use Rattle.std.proofs.lemmas.Bool.{ltb-false, le-ltb, eqb-true}
use Rattle.std.proofs.lemmas.List.{take-append-drop, length-take, length-drop, length-map, length-append}
use Rattle.msg_args.specs.declared.head.MsgHead.{MsgHead}
use Rattle.msg_args.specs.declared.arg.MsgArg.{MsgArg}
use Rattle.msg_args.specs.declared.arg.Misshapen.{Misshapen}
use Rattle.msg_args.specs.declared.arg.Misshapen.TheVariants.{Length, Count}
use Rattle.msg_args.specs.Spelling.{head_bytes, param_bytes, spelling, IsArgument, Spells}
use Rattle.msg_args.specs.Reading.{head_at, param_at, bad_param, unless, pieces, fault, argument}
use Rattle.base.proofs.Numbers.{IsBytes, IsBytes-drop, IsBytes-take}
use Rattle.msg_args.proofs.Heads.{head_again, head_back, FitsHead-head_at}
use Rattle.msg_args.proofs.Pieces.{good_len, all_good, bad_at, length-first_chunks, pieces_back, pieces_again, length-flat_map_params}
use Rattle.msg_args.proofs.Faults.{none_from_ok, fault_of_params}

none_after : {A : Type 0} (b : Bool) (x : A) (o : Option A) → cond b (Some x) o ≡ None → (b ≡ false) × (o ≡ None)
none_after true x o e = absurd cc
none_after false x o e = (refl, e)

none_before : {A : Type 0} (b : Bool) (o : Option A) (x : A) → cond b o (Some x) ≡ None → (b ≡ true) × (o ≡ None)
none_before true o x e = (refl, e)
none_before false o x e = absurd cc

-- what the tests say where all pass
record Passes (bytes : List ℕ) : Type 0 where
  long : 32 ≤ length bytes
  few : (head_at (take 32 bytes)).count ≤ 6
  whole : length bytes ≡ 32 + 32 * (head_at (take 32 bytes)).count
  good : bad_param (pieces bytes) ≡ None

all_pass : (bytes : List ℕ) → fault bytes ≡ None → Passes bytes
all_pass bytes e =
    let count = (head_at (take 32 bytes)).count in
    let first = none_after (ltb (length bytes) 32) Length (cond (ltb 6 count) (Some (Count count)) (cond (eqb (length bytes) (32 + 32 * count)) (bad_param (pieces bytes)) (Some Length))) e in
    let second = none_after (ltb 6 count) (Count count) (cond (eqb (length bytes) (32 + 32 * count)) (bad_param (pieces bytes)) (Some Length)) first.1 in
    let third = none_before (eqb (length bytes) (32 + 32 * count)) (bad_param (pieces bytes)) Length second.1 in
    record { long = ltb-false _ _ first.0; few = ltb-false _ _ second.0; whole = eqb-true _ _ third.0; good = third.1 }

-- what stands in the bytes
abbrev arg_at : List ℕ → MsgArg
arg_at bytes = record { head = head_at (take 32 bytes); params = record { items = map param_at (pieces bytes) } }

spells_what_stands : (bytes : List ℕ) → IsBytes bytes → Passes bytes → Spells bytes (arg_at bytes)
spells_what_stands bytes fits passes =
    let front = take 32 bytes in
    let rest = drop 32 bytes in
    let count = (head_at front).count in
    let good = all_good (pieces bytes) passes.good in
    let long = passes.long in
    let few = passes.few in
    let whole = passes.whole in
    let head = head_back front (omega (arith, length-take 32 bytes)) (IsBytes-take 32 bytes fits) in
    let params = pieces_back count rest (omega (arith, length-drop 32 bytes)) (IsBytes-drop 32 bytes fits) (omega (arith, good, length-first_chunks count rest)) in
    record {
      valid = record {
        head = FitsHead-head_at front (IsBytes-take 32 bytes fits);
        count = sym (length-map (pieces bytes) param_at ∙ length-first_chunks count rest);
        at_most_six = passes.few;
        allowed = params.1;
        params = params.2;
      };
      spelled = sym (ap (λ (x : List ℕ). x ++ flat_map param_bytes (map param_at (pieces bytes))) head ∙ ap (λ (x : List ℕ). front ++ x) params.0 ∙ take-append-drop 32 bytes);
    }

pub argument_spells : (bytes : List ℕ) (a : MsgArg) → IsBytes bytes → argument bytes ≡ Ok a → Spells bytes a
argument_spells bytes a fits e =
    let o = none_from_ok (fault bytes) (arg_at bytes) a e in
    subst (Spells bytes) (sym o.1) (spells_what_stands bytes fits (all_pass bytes o.0))

-- the spelling of an argument is read as that argument
pub argument-spelling : (a : MsgArg) → IsArgument a → argument (spelling a) ≡ Ok a
argument-spelling a valid =
    let bytes = spelling a in
    let ms = a.params.items in
    let spelled = flat_map param_bytes ms in
    let head : head_at (take 32 bytes) ≡ a.head = head_again a.head valid.head in
    let count : (head_at (take 32 bytes)).count ≡ length ms = ap (λ (h : MsgHead). h.count) head ∙ valid.count in
    let pieces-is : pieces bytes ≡ first_chunks 32 (length ms) spelled = ap (λ (n : ℕ). first_chunks 32 n spelled) count in
    let again = pieces_again ms valid.allowed valid.params in
    let params : map param_at (pieces bytes) ≡ ms = ap (map param_at) pieces-is ∙ again.0 in
    let few : (head_at (take 32 bytes)).count ≤ 6 = omega (arith, valid.count, valid.at_most_six) in
    let whole : length bytes ≡ 32 + 32 * (head_at (take 32 bytes)).count = omega (arith, length-append (head_bytes a.head) spelled, length-flat_map_params ms) in
    let all : ltb (good_len (first_chunks 32 (length ms) spelled)) (length (first_chunks 32 (length ms) spelled)) ≡ false = le-ltb _ _ (omega (arith, again.1, length-first_chunks (length ms) spelled)) in
    let good : bad_param (pieces bytes) ≡ None = ap bad_param pieces-is ∙ ap (bad_at (good_len (first_chunks 32 (length ms) spelled))) all in
    let no_fault : fault bytes ≡ None = fault_of_params bytes few whole ∙ good in
    ap (λ (o : Option Misshapen). unless o (arg_at bytes)) no_fault ∙ (λ i. Ok (record { head = head i; params = record { items = params i } }))

abbrev done : MsgArg → Result MsgArg Misshapen
done a = Ok a

pub spelled_is_read : (bytes : List ℕ) (a : MsgArg) → Spells bytes a → argument bytes ≡ Ok a
spelled_is_read bytes a spells = ap argument spells.spelled ∙ argument-spelling a spells.valid

ok_is : (a b : MsgArg) → done a ≡ done b → a ≡ b
ok_is a b e = cc

pub one_argument : (bytes : List ℕ) (a b : MsgArg) → Spells bytes a → Spells bytes b → a ≡ b
one_argument bytes a b first second = ok_is a b (sym (spelled_is_read bytes a first) ∙ spelled_is_read bytes b second)

pub found : (bytes : List ℕ) (r : Result MsgArg Misshapen) → IsBytes bytes → r ≡ argument bytes → IfOk r (λ a. Spells bytes a)
found bytes (Ok a) fits e = argument_spells bytes a fits (sym e)
found bytes (Err f) fits e = tt

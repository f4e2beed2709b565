-- What reading gives, test by test.
use Rattle.std.proofs.Common.{◌≡◌, ℕ, ◌+◌, ◌*◌, ◌≤◌, Bool, false, cond, eqb, ltb, List, length, take, drop, map, Option, Some, None, Result, Ok, refl, sym, ap, ◌∙◌, arith}
use Rattle.std.specs.Simd.{first_chunks}
use Rattle.std.proofs.lemmas.Bool.{le-ltb, eq-eqb}
use Rattle.arrayvec.specs.ArrayVec.{ArrayVec}
use Rattle.msg_args.specs.declared.head.MsgHead.{MsgHead}
use Rattle.msg_args.specs.declared.param.MsgParam.{MsgParam}
use Rattle.msg_args.specs.declared.arg.MsgArg.{MsgArg}
use Rattle.msg_args.specs.declared.arg.Misshapen.{Misshapen}
use Rattle.msg_args.specs.declared.arg.Misshapen.TheVariants.{Length, Count}
use Rattle.msg_args.specs.Reading.{head_at, param_at, bad_param, params_of, unless, pieces, fault, argument}

-- the fault, where the three first tests are known
abbrev pub by_tests : List ℕ → Bool → Bool → Bool → Option Misshapen
by_tests bytes is_short is_many is_whole =
    cond is_short (Some Length) (cond is_many (Some (Count (head_at (take 32 bytes)).count)) (cond is_whole (bad_param (pieces bytes)) (Some Length)))

-- bytes of the right length and a count of at most six
pub fault_of_params : (bytes : List ℕ) → (head_at (take 32 bytes)).count ≤ 6 → length bytes ≡ 32 + 32 * (head_at (take 32 bytes)).count → fault bytes ≡ bad_param (pieces bytes)
fault_of_params bytes few whole =
    ap (λ (b : Bool). by_tests bytes b (ltb 6 (head_at (take 32 bytes)).count) (eqb (length bytes) (32 + 32 * (head_at (take 32 bytes)).count))) (le-ltb (length bytes) 32 (omega arith))
    ∙ ap (λ (b : Bool). by_tests bytes false b (eqb (length bytes) (32 + 32 * (head_at (take 32 bytes)).count))) (le-ltb 6 (head_at (take 32 bytes)).count few)
    ∙ ap (by_tests bytes false false) (eq-eqb _ _ whole)

-- a fault that is not there
pub none_from_ok : {A : Type 0} (o : Option Misshapen) (x y : A) → unless o x ≡ Ok y → (o ≡ None) × (y ≡ x)
none_from_ok None x y e = (refl, cc)
none_from_ok (Some f) x y e = absurd cc

abbrev done : MsgHead → ArrayVec MsgParam → Result MsgArg Misshapen
done head params = Ok (record { head = head; params = params })

pub all_is_read : (bytes head rest : List ℕ) (h : MsgHead) (r : Result (ArrayVec MsgParam) Misshapen) (params : ArrayVec MsgParam) → head ≡ take 32 bytes → rest ≡ drop 32 bytes → length rest + 32 ≡ length bytes → h ≡ head_at head → h.count ≤ 6 → length rest ≡ 32 * h.count → r ≡ params_of (first_chunks 32 h.count rest) → r ≡ Ok params → done h params ≡ argument bytes
all_is_read bytes head rest h r params e_head e_rest len e_h few whole read ok =
    let head-is : h ≡ head_at (take 32 bytes) = e_h ∙ ap head_at e_head in
    let count-is : h.count ≡ (head_at (take 32 bytes)).count = ap (λ (x : MsgHead). x.count) head-is in
    let spelled-is : first_chunks 32 h.count rest ≡ pieces bytes = ap (λ (n : ℕ). first_chunks 32 n rest) count-is ∙ ap (first_chunks 32 (head_at (take 32 bytes)).count) e_rest in
    let none = none_from_ok (bad_param (pieces bytes)) (record { items = map param_at (pieces bytes) }) params (sym (read ∙ ap params_of spelled-is) ∙ ok) in
    let no_fault : fault bytes ≡ None = fault_of_params bytes (omega arith) (omega arith) ∙ none.0 in
    ap (λ (x : MsgHead). done x params) head-is ∙ ap (done (head_at (take 32 bytes))) none.1 ∙ sym (ap (λ (o : Option Misshapen). unless o (record { head = head_at (take 32 bytes); params = record { items = map param_at (pieces bytes) } })) no_fault)

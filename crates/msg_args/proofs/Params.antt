-- The parameters one by one: those written so far, those read so far, and the first that is bad.
use Rattle.std.proofs.Common.{◌≡◌, ℕ, zero, suc, ◌+◌, ◌*◌, ◌<◌, ◌≤◌, Bool, true, false, cond, not, ltb, List, [], ◌∷◌, ◌++◌, length, get_or, take, map, Option, Some, None, Result, Ok, Err, refl, sym, ap, ◌∙◌, arith}
use Rattle.std.specs.Option.{option_map}
use Rattle.std.specs.List.{flat_map, position_or_len}
use Rattle.std.proofs.lemmas.Bool.{lt-ltb, le-ltb}
use Rattle.std.proofs.lemmas.List.{take_more, map_more, flat_map_more, take_all}
use Rattle.arrayvec.specs.ArrayVec.{ArrayVec}
use Rattle.msg_args.specs.declared.param.MsgParam.{MsgParam}
use Rattle.msg_args.specs.declared.arg.Misshapen.{Misshapen}
use Rattle.msg_args.specs.declared.arg.Misshapen.TheVariants.{Attr}
use Rattle.msg_args.specs.Spelling.{param_bytes}
use Rattle.msg_args.specs.Reading.{param_at, has_attribute, params_of, unless}

-- one more parameter is written
pub written_more : (front : List ℕ) (ms : List MsgParam) (i : ℕ) (d : MsgParam) (old bytes new : List ℕ) → i < length ms → old ≡ front ++ flat_map param_bytes (take i ms) → bytes ≡ param_bytes (get_or ms i d) → new ≡ old ++ bytes → new ≡ front ++ flat_map param_bytes (take (i + 1) ms)
written_more front ms i d old bytes new lt so_far piece more =
    more
    ∙ ap (λ (x : List ℕ). x ++ bytes) so_far
    ∙ ap (λ (x : List ℕ). (front ++ flat_map param_bytes (take i ms)) ++ x) piece
    ∙ flat_map_more param_bytes front (take i ms) (get_or ms i d)
    ∙ ap (λ (x : List MsgParam). front ++ flat_map param_bytes x) (sym (take_more ms i d lt))

-- and it has 32 bytes
pub length-written_more : (ms : List MsgParam) (i : ℕ) (d : MsgParam) (old bytes new : List ℕ) → length old ≡ 32 + 32 * i → bytes ≡ param_bytes (get_or ms i d) → length new ≡ length old + length bytes → length new ≡ 32 + 32 * (i + 1)
length-written_more ms i d old bytes new so_far piece more =
    let len : length bytes ≡ 32 = ap length piece in
    omega arith

-- a value that is there only where a test passes
some_where : {A : Type 0} (b : Bool) (x y : A) → cond b (Some x) None ≡ Some y → (b ≡ true) × (y ≡ x)
some_where true x y e = (refl, cc)
some_where false x y e = absurd cc

none_where : {A : Type 0} (b : Bool) (x : A) (o : Option A) → o ≡ cond b (Some x) None → o ≡ None → b ≡ false
none_where true x o e none = absurd cc
none_where false x o e none = refl

-- one more parameter is read
pub read_more : (spelled : List (List ℕ)) (i : ℕ) (old new : List MsgParam) (o : Option MsgParam) (m : MsgParam) → i < length spelled → o ≡ cond (has_attribute (get_or spelled i [])) (Some (param_at (get_or spelled i []))) None → o ≡ Some m → old ≡ map param_at (take i spelled) → new ≡ old ++ m ∷ [] → (new ≡ map param_at (take (i + 1) spelled)) × (has_attribute (get_or spelled i []) ≡ true)
read_more spelled i old new o m lt read found so_far more =
    let w = some_where (has_attribute (get_or spelled i [])) (param_at (get_or spelled i [])) m (sym read ∙ found) in
    (more ∙ ap (λ (x : List MsgParam). x ++ m ∷ []) so_far ∙ ap (λ (x : MsgParam). map param_at (take i spelled) ++ x ∷ []) w.1 ∙ sym (map_more param_at spelled i [] lt), w.0)

-- the place of the first that is bad
first_bad : (spelled : List (List ℕ)) (i : ℕ) → i < length spelled → ((k : ℕ) → k < i → has_attribute (get_or spelled k []) ≡ true) → has_attribute (get_or spelled i []) ≡ false → position_or_len (λ bytes. not (has_attribute bytes)) spelled ≡ i
first_bad [] i lt good bad = absurd (omega arith)
first_bad (x ∷ xs) zero lt good bad = rw bad refl
first_bad (x ∷ xs) (suc i) lt good bad =
    let rest = first_bad xs i (omega arith) (λ k h. good (suc k) (omega arith)) bad in
    let here : has_attribute x ≡ true = good 0 (omega arith) in
    rw (here, rest) (omega arith)

none_bad : (spelled : List (List ℕ)) → ((k : ℕ) → k < length spelled → has_attribute (get_or spelled k []) ≡ true) → position_or_len (λ bytes. not (has_attribute bytes)) spelled ≡ length spelled
none_bad [] good = refl
none_bad (x ∷ xs) good =
    let rest = none_bad xs (λ k h. good (suc k) (omega arith)) in
    let here : has_attribute x ≡ true = good 0 (omega arith) in
    rw (here, rest) (omega arith)

-- what is read where the first bad parameter stands at a place, or at the end
abbrev by_place : List (List ℕ) → ℕ → Bool → Result (ArrayVec MsgParam) Misshapen
by_place spelled place is_inside = unless (option_map (λ i. Attr i) (cond is_inside (Some place) None)) (record { items = map param_at spelled })

place_decides : (spelled : List (List ℕ)) (place : ℕ) (is_inside : Bool) → position_or_len (λ bytes. not (has_attribute bytes)) spelled ≡ place → ltb place (length spelled) ≡ is_inside → by_place spelled place is_inside ≡ params_of spelled
place_decides spelled place is_inside e inside =
    sym (ap (λ (n : ℕ). by_place spelled n (ltb n (length spelled))) e ∙ ap (by_place spelled place) inside)

abbrev refused : Misshapen → Result (ArrayVec MsgParam) Misshapen
refused fault = Err fault

-- a bad parameter is refused by its number
pub bad_is_refused : (spelled : List (List ℕ)) (i : ℕ) (o : Option MsgParam) → i < length spelled → ((k : ℕ) → k < i → has_attribute (get_or spelled k []) ≡ true) → o ≡ cond (has_attribute (get_or spelled i [])) (Some (param_at (get_or spelled i []))) None → o ≡ None → refused (Attr i) ≡ params_of spelled
bad_is_refused spelled i o lt good read none =
    let bad = none_where (has_attribute (get_or spelled i [])) (param_at (get_or spelled i [])) o read none in
    place_decides spelled i true (first_bad spelled i lt good bad) (lt-ltb _ _ lt)

abbrev taken : List MsgParam → Result (ArrayVec MsgParam) Misshapen
taken ms = Ok (record { items = ms })

-- good parameters are all read
pub good_are_read : (spelled : List (List ℕ)) (i : ℕ) (ms : List MsgParam) → length spelled ≤ i → ((k : ℕ) → k < i → has_attribute (get_or spelled k []) ≡ true) → ms ≡ map param_at (take i spelled) → taken ms ≡ params_of spelled
good_are_read spelled i ms le good so_far =
    let place = none_bad spelled (λ k h. good k (omega arith)) in
    ap taken (so_far ∙ ap (map param_at) (take_all i spelled le))
    ∙ place_decides spelled (length spelled) false place (le-ltb _ _ (omega arith))

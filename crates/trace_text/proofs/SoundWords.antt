-- What words of a form write is within its limits.
use Rattle.std.proofs.Common.{◌≡◌, ℕ, ◌-◌, ◌*◌, ◌^◌, ◌<◌, ◌≤◌, Bool, true, false, eqb, leb, List, [], ◌∷◌, length, map, get_or, Option, Some, None, is_none, Result, Ok, Err, inl, refl, sym, ap, arith}
use Rattle.std.specs.Prelude.{not, All, ◌&&◌, is_ok}
use Rattle.std.specs.List.{AllByRecursion, list_all, list_any}
use Rattle.std.specs.Option.{unwrap_or}
use Rattle.std.specs.Result.{result_ok}
use Rattle.std.specs.Str.Parse.{digits_value}
use Rattle.std.proofs.lemmas.Bool.{and_parts, leb-true, cond-true, false_from_ne_true, not_from_false}
use Rattle.std.proofs.lemmas.List.Folds.{list_any_at}
use Rattle.std.proofs.lemmas.List.Elements.{All-from_recursion}
use Rattle.hex.specs.Hex.{IsBytes, decode_of}
use Rattle.hex.specs.declared.error.FromHexError.{FromHexError}
use Rattle.hex.proofs.HexLemmas.{decode_of-ok}
use Rattle.ns_ram.specs.Lane.{IsInRam}
use Rattle.ta_isa.specs.Reading.{answer, fault_of, image_of}
use Rattle.ta_isa.specs.Spelling.{IsValid}
use Rattle.ta_isa.proofs.Back.{found}
use Rattle.trace_text.specs.declared.item.Reg.TheVariants.{Last}
use Rattle.trace_text.specs.Forms.{bytes, hexadecimal, is_hex, is_hexadecimal, is_last, is_register, register}
use Rattle.trace_text.specs.Reading.{hexadecimal_at}
use Rattle.trace_text.specs.Limits.{is_image, is_within, lies_in_ram}
use Rattle.trace_text.specs.Sound.{IsPartOfRam, IsSoundReg}
use Rattle.trace_text.proofs.Digits.{hexadecimal_fits}

-- ---- numbers

pub within : (least most n : ℕ) → is_within least most n ≡ true → (least ≤ n) × (n ≤ most)
within least most n e = let p = and_parts _ _ e in (leb-true _ _ p.0, leb-true _ _ p.1)

pub in_ram : (addr len : ℕ) → lies_in_ram addr len ≡ true → IsInRam addr len
unfolding lies_in_ram
in_ram addr len e = let p = and_parts _ _ e in (leb-true _ _ p.0, leb-true _ _ p.1)

-- ---- registers

eight_digits : (word : List ℕ) → is_hexadecimal 8 word ≡ true → hexadecimal word < 2 ^ 32
unfolding is_hexadecimal hexadecimal hexadecimal_at
eight_digits word e = hexadecimal_fits word (digits_value 16 word) (sym (cond-true _ (Some (digits_value 16 word)) None e))

below_eight : (word : List ℕ) → is_last word ≡ true → IsSoundReg (Last (get_or word 1 0 - 48))
unfolding is_last
below_eight word e =
    let digit = get_or word 1 0 in
    let p = and_parts ((eqb (length word) 2 && eqb (get_or word 0 0) 61) && leb 48 digit) (leb digit 55) e in
    let most = leb-true digit 55 p.1 in
    omega (arith, most)

sound_register : (word : List ℕ) (last : Bool) → is_last word ≡ last → is_register word ≡ true → IsSoundReg (register word)
unfolding is_register register
sound_register word true is e = rw is (below_eight word is)
sound_register word false is e =
    let digits : is_hexadecimal 8 word ≡ true = rw is at e in
    rw is (eight_digits word digits)

sound_by_recursion : (words : List (List ℕ)) → list_all is_register words ≡ true → AllByRecursion IsSoundReg (map register words)
sound_by_recursion [] e = tt
sound_by_recursion (word ∷ words) e =
    let p = and_parts (is_register word) (list_all is_register words) e in
    (sound_register word (is_last word) refl p.0, sound_by_recursion words p.1)

pub sound_registers : (words : List (List ℕ)) → list_all is_register words ≡ true → All IsSoundReg (map register words)
sound_registers words e = All-from_recursion IsSoundReg (map register words) (sound_by_recursion words e)

-- ---- bytes

pub ok_is : (r : Result (List ℕ) FromHexError) → is_ok r ≡ true → r ≡ Ok (unwrap_or (result_ok r) [])
ok_is (Ok bs) e = refl
ok_is (Err fault) e = absurd cc

pub record AreSaid (word : List ℕ) : Type 0 where
  pub two_digits : length word ≡ 2 * length (bytes word)
  pub fit : IsBytes (bytes word)

pub bytes_said : (word : List ℕ) → is_hex word ≡ true → AreSaid word
unfolding is_hex bytes
bytes_said word e =
    let ok = decode_of-ok word (bytes word) (ok_is (decode_of word) e) in
    record { two_digits = ok.2; fit = ok.3 }

pub part_of_ram : (addr : ℕ) (word : List ℕ) → 0 < length word → is_hex word ≡ true → lies_in_ram addr (length (bytes word)) ≡ true → IsPartOfRam addr (length (bytes word))
part_of_ram addr word some hex ram =
    let said = bytes_said word hex in
    record { some = omega arith; in_ram = in_ram addr (length (bytes word)) ram }

-- ---- images

none_is : {A : Type 0} (o : Option A) → is_none o ≡ true → o ≡ None
none_is None e = refl
none_is (Some x) e = absurd cc

pub valid_bytes : (image : List ℕ) → IsBytes image → is_image image ≡ true → IsValid (image_of image)
unfolding is_image
valid_bytes image fit loads =
    let faultless : fault_of image ≡ None = none_is (fault_of image) loads in
    (found image (Ok (image_of image)) fit (inl (sym (ap (λ o. answer o (image_of image)) faultless)))).valid

pub valid_image : (word : List ℕ) → is_hex word ≡ true → is_image (bytes word) ≡ true → IsValid (image_of (bytes word))
valid_image word hex image = valid_bytes (bytes word) (bytes_said word hex).fit image

-- ---- tests of lists

pub fails_at : {X : Type 0} (p : X → Bool) (xs : List X) → list_any p xs ≡ false → (k : ℕ) (d : X) → k < length xs → not (p (get_or xs k d)) ≡ true
fails_at p xs none k d lt =
    let fails : p (get_or xs k d) ≡ false = false_from_ne_true _ (λ passes. let some : list_any p xs ≡ true = list_any_at p xs k d lt passes in absurd cc) in
    not_from_false _ fails

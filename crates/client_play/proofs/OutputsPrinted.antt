-- What tells an output is printed as the output is.
use Rattle.std.proofs.Common.{◌≡◌, ℕ, ◌%◌, ◌^◌, ◌≤◌, ◌<◌, Bool, true, false, List, [], ◌∷◌, ◌++◌, length, take, refl, ap, sym, ◌∙◌, arith}
use Rattle.std.specs.Prelude.{◌==◌, codes, if◌then◌else◌, nat_le}
use Rattle.std.specs.Fmt.{decimal}
use Rattle.std.specs.Int.{byte_at, to_be_bytes, w32}
use Rattle.std.proofs.lemmas.Bool.Decides.{nat_tests}
use Rattle.std.proofs.lemmas.List.{length-take-le, take-take}
use Rattle.hex.specs.Hex.{encode_lower}
use Rattle.own_model.specs.Parameters.{bytes_told, output_of}
use Rattle.ta_params.specs.declared.copied_params.GpParam.{GpParam}
use Rattle.ta_params.specs.declared.copied_params.GpParam.TheVariants.{Empty, Memref, Value}
use Rattle.ta_params.specs.declared.copied_params.Way.TheVariants.{In, Inout, Out}
use Rattle.client_play.specs.Outputs.{EachOutputIsPrinted, HasWordSize, OutputsArePrinted, in_word, output_in_words}
use Rattle.client_play.specs.Printed.{memory_text, param_text, value_text}

-- ---- a value

word_bytes : (number : ℕ) → to_be_bytes w32 (in_word number) ≡ to_be_bytes w32 number
word_bytes number =
    let a : in_word number % 256 ≡ number % 256 = omega arith in
    let b : byte_at 1 (in_word number) ≡ byte_at 1 number = omega arith in
    let c : byte_at 2 (in_word number) ≡ byte_at 2 number = omega arith in
    let d : byte_at 3 (in_word number) ≡ byte_at 3 number = omega arith in
    λ i. d i ∷ c i ∷ b i ∷ a i ∷ []

value_printed : (a b : ℕ) → value_text (in_word a) (in_word b) ≡ value_text a b
value_printed a b =
    let first = ap encode_lower (word_bytes a) in
    let second = ap encode_lower (word_bytes b) in
    λ i. codes " v:" ++ first i ++ codes ":" ++ second i

-- ---- memory

abbrev text_with : ℕ → Bool → List ℕ → List ℕ
text_with size fits bytes = codes " m:" ++ decimal size ++ codes ":" ++ (if fits then encode_lower (take size bytes) else [])

-- the bytes that are told are those that are printed
memory_printed : (buf : List ℕ) (size : ℕ) → memory_text buf size ≡ memory_text (bytes_told buf size) size
memory_printed buf size = by (nat_le size (length buf)) refl
  where
    by : (fits : Bool) → nat_le size (length buf) ≡ fits → memory_text buf size ≡ memory_text (bytes_told buf size) size
    by true e =
        let enough : size ≤ length buf = grind (arith, nat_tests) in
        let many : length (take size buf) ≡ size = length-take-le size buf enough in
        let both : nat_le size (length (take size buf)) ≡ true = grind (arith, nat_tests) in
        let same : size ≤ size = omega arith in
        ap (λ (b : Bool). text_with size b buf) e
        ∙ ap (λ (shown : List ℕ). codes " m:" ++ decimal size ++ codes ":" ++ encode_lower shown) (sym (take-take size size buf same))
        ∙ ap (λ (b : Bool). text_with size b (take size buf)) (sym both)
        ∙ ap (λ (b : Bool). memory_text (if b then take size buf else []) size) (sym e)
    by false e =
        let more : length buf < size = grind (arith, nat_tests) in
        let none : nat_le size 0 ≡ false = grind (arith, nat_tests) in
        ap (λ (b : Bool). text_with size b buf) e
        ∙ ap (λ (b : Bool). text_with size b []) (sym none)
        ∙ ap (λ (b : Bool). memory_text (if b then take size buf else []) size) (sym e)

-- ---- each parameter

its_output : (printed : GpParam) → param_text printed ≡ param_text (output_of printed)
its_output Empty = refl
its_output (Value In a b) = refl
its_output (Value Out a b) = refl
its_output (Value Inout a b) = refl
its_output (Memref In buf size) = refl
its_output (Memref Out buf size) = memory_printed buf size
its_output (Memref Inout buf size) = memory_printed buf size

small : (size : ℕ) → size < 2 ^ 32 → in_word size ≡ size
small size fits = omega (arith, fits)

in_words_printed : (output : GpParam) → HasWordSize output → param_text (output_in_words output) ≡ param_text output
in_words_printed Empty has = refl
in_words_printed (Value In a b) has = refl
in_words_printed (Value Out a b) has = value_printed a b
in_words_printed (Value Inout a b) has = value_printed a b
in_words_printed (Memref In bytes size) has = refl
in_words_printed (Memref Out bytes size) has = ap (memory_text bytes) (small size has)
in_words_printed (Memref Inout bytes size) has = ap (memory_text bytes) (small size has)

pub one_printed : EachOutputIsPrinted
one_printed printed output tells has = its_output printed ∙ ap param_text (tells has) ∙ in_words_printed output has

pub outputs_are_printed : OutputsArePrinted
outputs_are_printed result printed outputs tells sizes =
    let first = one_printed printed.p0 outputs.p0 tells.first sizes.0 in
    let second = one_printed printed.p1 outputs.p1 tells.second sizes.1.0 in
    let third = one_printed printed.p2 outputs.p2 tells.third sizes.1.1.0 in
    let fourth = one_printed printed.p3 outputs.p3 tells.fourth sizes.1.1.1.0 in
    ap (λ (texts : List ℕ). if result.origin == 4 then texts else [])
    (λ i. first i ++ (second i ++ (third i ++ (fourth i ++ []))))

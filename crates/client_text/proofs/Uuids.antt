-- The UUIDs that words write have sixteen bytes.
use Rattle.std.proofs.Common.{◌≡◌, ℕ, ◌+◌, ◌*◌, ◌<◌, Bool, true, false, cond, List, [], length, get_or, ◌&&◌, eqb, Option, Some, None, refl, ap, subst, sym, ◌∙◌, arith}
use Rattle.std.specs.Prelude.{is_some}
use Rattle.std.specs.Option.{unwrap_or}
use Rattle.std.specs.List.{list_all}
use Rattle.std.proofs.lemmas.Bool.{and_parts}
use Rattle.std.proofs.lemmas.Bool.Decides.{nat_tests}
use Rattle.std.proofs.lemmas.List.Elements.{All-from_get_or}
use Rattle.std.proofs.lemmas.List.Sums.{AllPass-from_list_all}
use Rattle.uuid.specs.Text.{by_index, byte_of_digits, digits_of, has_hyphens, is_hex_digit, parsed_simple, value_of}
use Rattle.uuid.proofs.TextLemmas.{by_index_at, by_index_length}
use Rattle.trace_text.specs.Forms.{is_uuid, uuid}
use Rattle.client_text.specs.Sound.{IsSixteenBytes}

-- what is answered only where a test passes
where_passed : (b : Bool) (o : Option (List ℕ)) → is_some (cond b o None) ≡ true → (b ≡ true) × (cond b o None ≡ o)
where_passed true o e = (refl, refl)
where_passed false o e = absurd cc

digit_small : (c : ℕ) → is_hex_digit c ≡ true → value_of c < 16
digit_small c e = grind (arith, nat_tests)

of_digits : (hex : List ℕ) → (eqb (length hex) 32 && list_all is_hex_digit hex) ≡ true → IsSixteenBytes (by_index 16 (byte_of_digits hex))
of_digits hex e =
    let p = and_parts (eqb (length hex) 32) (list_all is_hex_digit hex) e in
    let long : length hex ≡ 32 = grind (arith, nat_tests) in
    let bytes = by_index 16 (byte_of_digits hex) in
    let digit = λ (k : ℕ) (lt : k < 32). digit_small (get_or hex k 0) (AllPass-from_list_all is_hex_digit hex p.1 k 0 (omega arith)) in
    record {
      sixteen = by_index_length 16 (byte_of_digits hex);
      bytes = All-from_get_or (λ byte. byte < 256) bytes 0 (λ i lt.
          let here : i < 16 = omega (arith, by_index_length 16 (byte_of_digits hex)) in
          let high = digit (2 * i) (omega arith) in
          let low = digit (2 * i + 1) (omega arith) in
          omega (arith, by_index_at 16 (byte_of_digits hex) i 0 here, high, low));
    }

pub sixteen_bytes : (word : List ℕ) → is_uuid word ≡ true → IsSixteenBytes (uuid word)
unfolding is_uuid uuid
sixteen_bytes word e =
    let hex = digits_of word in
    let whole = eqb (length word) 36 && has_hyphens word in
    let digits = eqb (length hex) 32 && list_all is_hex_digit hex in
    let outer = where_passed whole (parsed_simple hex) e in
    let inner = where_passed digits (Some (by_index 16 (byte_of_digits hex))) (ap is_some (sym outer.1) ∙ e) in
    subst (λ (o : Option (List ℕ)). IsSixteenBytes (unwrap_or o [])) (sym (outer.1 ∙ inner.1)) (of_digits hex inner.0)

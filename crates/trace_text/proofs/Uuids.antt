-- UUIDs in the hyphenated form.
use Rattle.std.proofs.Common.{◌≡◌, ◌↔◌, ℕ, true, false, List, length, Option, Some, None, Result, Ok, Err, IfOk, IsOk, refl, sym, ◌∙◌}
use Rattle.std.specs.Result.{result_ok}
use Rattle.uuid.specs.Text.{parsed, parsed_hyphenated}
use Rattle.trace_text.specs.Forms.{is_uuid, uuid}
use Rattle.trace_text.specs.Judging.{Reads}

-- of 36 characters, only the hyphenated form is read
parsed-36 : (word : List ℕ) → length word ≡ 36 → parsed word ≡ parsed_hyphenated word
parsed-36 word e = rw e refl

none_from : {A : Type 0} (o : Option A) → ((u : A) → o ≡ Some u → ⊥) → o ≡ None
none_from (Some u) h = absurd (h u refl)
none_from None h = refl

pub uuid_read : {E : Type 0} (word : List ℕ) (r : Result (List ℕ) E) → length word ≡ 36 → (IsOk r ↔ ((u : List ℕ) × (parsed word ≡ Some u))) → IfOk r (λ u. Some u ≡ parsed word)
    → Reads (result_ok r) (is_uuid word) (uuid word)
unfolding is_uuid uuid
uuid_read word (Ok u) e ok bytes =
    let read : parsed_hyphenated word ≡ Some u = sym (bytes ∙ parsed-36 word e) in
    (rw read refl, rw read refl)
uuid_read word (Err f) e ok bytes =
    let none : parsed_hyphenated word ≡ None = none_from (parsed_hyphenated word) (λ u h. let bad : false ≡ true = ok.1 (u, parsed-36 word e ∙ h) in absurd cc) in
    rw none refl

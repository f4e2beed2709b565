-- The words of a line that is UTF-8, and of one that isn't.
use Rattle.std.proofs.Common.{◌≡◌, ◌==◌, ℕ, Bool, true, false, List, [], if◌then◌else◌, refl, ap, ◌∙◌}
use Rattle.std.specs.List.{slice_split}
use Rattle.std.specs.Str.{IsUtf8, is_utf8}
use Rattle.std.proofs.lemmas.Str.{IsUtf8-from_is_utf8, is_utf8-from_IsUtf8}
use Rattle.core_c.specs.Words.{texts_in}

parted_at : (line : List ℕ) (test : Bool) → test ≡ true
    → slice_split (λ byte. byte == 32) line ≡ (if test then slice_split (λ byte. byte == 32) line else [])
parted_at line true e = refl
parted_at line false e = absurd cc

pub parted : (line text : List ℕ) → text ≡ line → IsUtf8 line → slice_split (λ byte. byte == 32) text ≡ texts_in line
parted line text same is =
    ap (slice_split (λ byte. byte == 32)) same ∙ parted_at line (is_utf8 line) (is_utf8-from_IsUtf8 line is)

wordless_at : (line : List ℕ) (test : Bool) → is_utf8 line ≡ test → (IsUtf8 line → ⊥)
    → [] ≡ (if test then slice_split (λ byte. byte == 32) line else [])
wordless_at line true e not = absurd (not (IsUtf8-from_is_utf8 line e))
wordless_at line false e not = refl

pub wordless : (line : List ℕ) → (IsUtf8 line → ⊥) → [] ≡ texts_in line
wordless line not = wordless_at line (is_utf8 line) refl not

-- The parts of a word.
use Rattle.std.proofs.Common.{◌≡◌, ℕ, ◌<◌, false, eqb, List, [], ◌∷◌, length, Option, Some, None, refl, sym, ap, ◌∙◌, arith}
use Rattle.std.specs.Prelude.{◌&&◌}
use Rattle.std.proofs.lemmas.List.Splits.{length-slice_split, slice_split_at, slice_split_none}
use Rattle.client_text.specs.Forms.{are_numbers, is_nothing, is_short, parts_of}
use Rattle.client_text.specs.Judging.{numbers_of, only_part}
use Rattle.text_lines.specs.Lines.{IsCutAt, Lacks}
use Rattle.trace_text.specs.Forms.{hexadecimal}
use Rattle.trace_text.specs.Judging.{Reads}

pub cut_part : (word part behind : List ℕ) → IsCutAt 58 word part behind → parts_of word ≡ part ∷ parts_of behind
cut_part word part behind cut = ap parts_of cut.1 ∙ slice_split_at (λ b. eqb b 58) part 58 behind cut.0 refl

pub last_part : (word : List ℕ) → Lacks 58 word → parts_of word ≡ word ∷ []
last_part word lacks = slice_split_none (λ b. eqb b 58) word lacks

-- a word has a part
nothing_less : (parts : List (List ℕ)) → 0 < length parts → is_nothing parts ≡ false
nothing_less [] some = absurd (omega arith)
nothing_less (part ∷ parts) some = refl

pub something : (word : List ℕ) → is_nothing (parts_of word) ≡ false
something word = nothing_less (parts_of word) (omega (arith, length-slice_split (λ b. eqb b 58) word))

not_only_by : (part : List ℕ) (parts : List (List ℕ)) → is_nothing parts ≡ false → only_part (part ∷ parts) ≡ None
not_only_by part [] e = absurd cc
not_only_by part (other ∷ parts) e = refl

-- so one with a part behind it isn't the only one
pub not_only : (part word : List ℕ) → only_part (part ∷ parts_of word) ≡ None
not_only part word = not_only_by part (parts_of word) (something word)

-- ---- two numbers

pub read_numbers : (r : Option (ℕ × ℕ)) (all others : List (List ℕ)) (a b : List ℕ) → all ≡ a ∷ others
    → Some b ≡ only_part others → Reads r (is_short a && is_short b) (hexadecimal a, hexadecimal b)
    → Reads r (are_numbers all) (numbers_of all)
read_numbers r all [] a b is only reads = absurd cc
read_numbers r all (c ∷ []) a b is only reads = rw is (two cc)
  where
    two : b ≡ c → Reads r (are_numbers (a ∷ (c ∷ []))) (numbers_of (a ∷ (c ∷ [])))
    two e = rw (sym e) reads
read_numbers r all (c ∷ (d ∷ others)) a b is only reads = absurd cc

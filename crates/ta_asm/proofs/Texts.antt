-- The pieces of a text and the words of a line, one after the other.
use Rattle.std.proofs.Common.{◌≡◌, ℕ, suc, ◌<◌, ◌≤◌, true, false, cond, eqb, List, [], ◌∷◌, length, refl, sym, ap, ◌∙◌, arith}
use Rattle.std.specs.List.{onto_first}
use Rattle.std.proofs.lemmas.List.Splits.{slice_split_none, slice_split_at, length-slice_split}
use Rattle.ta_asm.specs.declared.statement.Statement.TheVariants.{Unread}
use Rattle.ta_asm.specs.Lines.{pieces_of, statement_of, statements_in, statements_of, unended}
use Rattle.text_lines.specs.Lines.{Lacks, IsCutAt}

-- ---- pieces

first_piece : (rest line after : List ℕ) → IsCutAt 10 rest line after → pieces_of rest ≡ line ∷ pieces_of after
first_piece rest line after cut = ap pieces_of cut.1 ∙ slice_split_at (λ b. eqb b 10) line 10 after cut.0 refl

last_piece : (rest : List ℕ) → Lacks 10 rest → pieces_of rest ≡ rest ∷ []
last_piece rest lacks = slice_split_none (λ b. eqb b 10) rest lacks

-- some piece stands in front
pub record Front (pieces : List (List ℕ)) : Type 0 where
  pub piece : List ℕ
  pub behind : List (List ℕ)
  pub is : pieces ≡ piece ∷ behind

front_of : (pieces : List (List ℕ)) → 0 < length pieces → Front pieces
front_of [] some = absurd (omega arith)
front_of (p ∷ ps) some = record { piece = p; behind = ps; is = refl }

pub some_piece : (text : List ℕ) → Front (pieces_of text)
some_piece text = front_of (pieces_of text) (omega (arith, length-slice_split (λ b. eqb b 10) text))

-- ---- statements

ended_piece : (line : List ℕ) (pieces : List (List ℕ)) → Front pieces → statements_in (line ∷ pieces) ≡ statement_of line ∷ statements_in pieces
ended_piece line pieces f =
    ap (λ (ps : List (List ℕ)). statements_in (line ∷ ps)) f.is ∙ sym (ap (λ (ps : List (List ℕ)). statement_of line ∷ statements_in ps) f.is)

pub first_statement : (rest line after : List ℕ) → IsCutAt 10 rest line after → statements_of rest ≡ statement_of line ∷ statements_of after
unfolding statements_of
first_statement rest line after cut = ap statements_in (first_piece rest line after cut) ∙ ended_piece line (pieces_of after) (some_piece after)

pub no_statement : (rest : List ℕ) → rest ≡ [] → statements_of rest ≡ []
unfolding statements_of
no_statement rest e = ap statements_of e

unended_some : (rest : List ℕ) → 0 < length rest → unended rest ≡ Unread ∷ []
unended_some [] some = absurd (omega arith)
unended_some (b ∷ bytes) some = refl

pub last_statement : (rest none : List ℕ) → Lacks 10 rest → 0 < length rest → none ≡ [] → statements_of rest ≡ Unread ∷ statements_of none
unfolding statements_of
last_statement rest none lacks some e =
    ap statements_in (last_piece rest lacks) ∙ unended_some rest some ∙ sym (ap (λ (bs : List ℕ). Unread ∷ statements_of bs) e)

-- ---- a statement has a byte at least

count_onto : (b : ℕ) (pieces : List (List ℕ)) → Front pieces → length (statements_in (onto_first b pieces)) ≤ suc (length (statements_in pieces))
count_onto b [] f = absurd cc
count_onto b ([] ∷ []) f = omega arith
count_onto b ((c ∷ cs) ∷ []) f = omega arith
count_onto b (p ∷ next ∷ pieces) f = omega arith

pub few_statements : (text : List ℕ) → length (statements_of text) ≤ length text
unfolding statements_of
few_statements [] = omega arith
few_statements (b ∷ bytes) =
    elim (eqb b 10) as (λ t. length (statements_in (cond t ([] ∷ pieces_of bytes) (onto_first b (pieces_of bytes)))) ≤ suc (length bytes)) [
      | true ↦ omega (arith, few_statements bytes, ap length (ended_piece [] (pieces_of bytes) (some_piece bytes)))
      | false ↦ omega (arith, few_statements bytes, count_onto b (pieces_of bytes) (some_piece bytes))
    ]

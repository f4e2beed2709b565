-- The pieces of a text, read one after the other.
use Rattle.std.proofs.Common.{◌≡◌, ℕ, ◌+◌, ◌<◌, true, eqb, List, [], ◌∷◌, length, Option, Some, None, Result, Ok, Err, refl, sym, ap, ◌∙◌, arith}
use Rattle.std.proofs.lemmas.List.Splits.{slice_split_none, slice_split_at, length-slice_split}
use Rattle.text_lines.specs.Lines.{Lacks, IsCutAt}
use Rattle.line_grammar.specs.Grammar.{LineGrammar, piece_fault, pieces_of}
use Rattle.line_grammar.specs.Reading.{read_pieces, unless}

pub first_piece : (rest line after : List ℕ) → IsCutAt 10 rest line after → pieces_of rest ≡ line ∷ pieces_of after
first_piece rest line after cut = ap pieces_of cut.1 ∙ slice_split_at (λ b. eqb b 10) line 10 after cut.0 refl

pub last_piece : (rest : List ℕ) → Lacks 10 rest → pieces_of rest ≡ rest ∷ []
last_piece rest lacks = slice_split_none (λ b. eqb b 10) rest lacks

-- some piece stands in front
pub record FirstPiece (pieces : List (List ℕ)) : Type 0 where
  pub piece : List ℕ
  pub behind : List (List ℕ)
  pub is : pieces ≡ piece ∷ behind

front_of : (pieces : List (List ℕ)) → 0 < length pieces → FirstPiece pieces
front_of [] some = absurd (omega arith)
front_of (p ∷ ps) some = record { piece = p; behind = ps; is = refl }

pub some_piece : (text : List ℕ) → FirstPiece (pieces_of text)
some_piece text = front_of (pieces_of text) (omega (arith, length-slice_split (λ b. eqb b 10) text))

pub kept_line : {F V K : Type 0} (g : LineGrammar F V K) (place : ℕ) (before after : F) (line next : List ℕ) (pieces : List (List ℕ)) → g.line_fault before true line ≡ None → after ≡ g.after_line before line
    → read_pieces g place before (line ∷ (next ∷ pieces)) ≡ read_pieces g (place + 1) after (next ∷ pieces)
unfolding read_pieces piece_fault
kept_line g place before after line next pieces kept is = rw (kept, is) refl

broken_line : {F V K : Type 0} (g : LineGrammar F V K) (place : ℕ) (before : F) (line next : List ℕ) (pieces : List (List ℕ)) (kind : K) → g.line_fault before true line ≡ Some kind
    → read_pieces g place before (line ∷ (next ∷ pieces)) ≡ Err (place, kind)
unfolding read_pieces piece_fault
broken_line g place before line next pieces kind broken = rw broken refl

-- ---- reading line by line, where so much was read before, and this comes of all

-- a line without a fault
pub goes_on : {F V K : Type 0} (g : LineGrammar F V K) (place : ℕ) (before after : F) (rest line behind : List ℕ) (total : Result V (ℕ × K)) → IsCutAt 10 rest line behind
    → (g.line_fault before true line ≡ None) × (after ≡ g.after_line before line) → read_pieces g place before (pieces_of rest) ≡ total → read_pieces g (place + 1) after (pieces_of behind) ≡ total
goes_on g place before after rest line behind total cut taken so_far =
    let f = some_piece behind in
    let pieces : pieces_of rest ≡ line ∷ (f.piece ∷ f.behind) = first_piece rest line behind cut ∙ ap (λ (ps : List (List ℕ)). line ∷ ps) f.is in
    ap (read_pieces g (place + 1) after) f.is ∙ sym (kept_line g place before after line f.piece f.behind taken.0 taken.1) ∙ sym (ap (read_pieces g place before) pieces) ∙ so_far

-- a line with one
pub stops : {F V K : Type 0} (g : LineGrammar F V K) (place : ℕ) (before : F) (rest line behind : List ℕ) (total : Result V (ℕ × K)) (kind : K) → IsCutAt 10 rest line behind
    → g.line_fault before true line ≡ Some kind → read_pieces g place before (pieces_of rest) ≡ total → total ≡ Err (place, kind)
stops g place before rest line behind total kind cut broken so_far =
    let f = some_piece behind in
    let pieces : pieces_of rest ≡ line ∷ (f.piece ∷ f.behind) = first_piece rest line behind cut ∙ ap (λ (ps : List (List ℕ)). line ∷ ps) f.is in
    sym so_far ∙ ap (read_pieces g place before) pieces ∙ broken_line g place before line f.piece f.behind kind broken

-- the end of the text
at_last : {F V K : Type 0} (g : LineGrammar F V K) (place : ℕ) (before : F) (rest : List ℕ) (total : Result V (ℕ × K)) (fault : Option K) → Lacks 10 rest → piece_fault g before rest [] ≡ fault
    → read_pieces g place before (pieces_of rest) ≡ total → total ≡ unless fault place (Ok (g.value before))
unfolding read_pieces
at_last {V = V} g place before rest total fault lacks is so_far =
    let verdict : Result V _ = Ok (g.value before) in
    sym so_far ∙ ap (read_pieces g place before) (last_piece rest lacks) ∙ ap (λ o. unless o place verdict) is

pub ends : {F V K : Type 0} (g : LineGrammar F V K) (place : ℕ) (before : F) (rest : List ℕ) (total : Result V (ℕ × K)) → Lacks 10 rest → piece_fault g before rest [] ≡ None
    → read_pieces g place before (pieces_of rest) ≡ total → total ≡ Ok (g.value before)
ends g place before rest total lacks none so_far = at_last g place before rest total None lacks none so_far

pub ends_badly : {F V K : Type 0} (g : LineGrammar F V K) (place : ℕ) (before : F) (rest : List ℕ) (total : Result V (ℕ × K)) (kind : K) → Lacks 10 rest → piece_fault g before rest [] ≡ Some kind
    → read_pieces g place before (pieces_of rest) ≡ total → total ≡ Err (place, kind)
ends_badly g place before rest total kind lacks fault so_far = at_last g place before rest total (Some kind) lacks fault so_far

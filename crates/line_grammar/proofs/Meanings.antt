-- What a text means in a grammar of lines: its pieces read one after the other come to one value, or to one first fault.
use Rattle.std.proofs.Common.{◌≡◌, ◌⊎◌, ℕ, ◌+◌, ◌<◌, true, eqb, List, [], ◌∷◌, ◌++◌, length, Option, Some, None, Result, Ok, Err, refl, sym, ap, ◌∙◌, inl, inr, ⊎_elim, arith}
use Rattle.std.proofs.lemmas.List.Splits.{length-slice_split}
use Rattle.line_grammar.specs.Grammar.{EndsEachLine, IsFirstFault, Leads, LineGrammar, Spells, piece_fault, pieces_of}
use Rattle.line_grammar.specs.Meaning.{Meaning}
use Rattle.line_grammar.specs.Reading.{read_pieces, unless}
use Rattle.line_grammar.proofs.Pieces.{FirstPiece, kept_line}

-- ---- from the definitions to reading

in_front : (lines : List (List ℕ)) (piece : List ℕ) (back : List (List ℕ)) → FirstPiece (lines ++ piece ∷ back)
in_front [] piece back = record { piece = piece; behind = back; is = refl }
in_front (line ∷ lines) piece back = record { piece = line; behind = lines ++ piece ∷ back; is = refl }

kept_before : {F V K : Type 0} (g : LineGrammar F V K) (place : ℕ) (before : F) (line : List ℕ) (pieces : List (List ℕ)) → FirstPiece pieces → g.line_fault before true line ≡ None
    → read_pieces g place before (line ∷ pieces) ≡ read_pieces g (place + 1) (g.after_line before line) pieces
kept_before g place before line pieces f kept =
    ap (λ (ps : List (List ℕ)). read_pieces g place before (line ∷ ps)) f.is ∙ kept_line g place before (g.after_line before line) line f.piece f.behind kept refl
    ∙ sym (ap (read_pieces g (place + 1) (g.after_line before line)) f.is)

read_leads : {F V K : Type 0} (g : LineGrammar F V K) (place : ℕ) (before : F) (front : List (List ℕ)) (after : F) (piece : List ℕ) (back : List (List ℕ)) → Leads g before front after
    → read_pieces g place before (front ++ piece ∷ back) ≡ read_pieces g (length front + place) after (piece ∷ back)
read_leads {F = F} g place before [] after piece back leads =
    let here : place ≡ 0 + place = omega arith in
    ap (λ (t : F). read_pieces g place t (piece ∷ back)) leads ∙ ap (λ (p : ℕ). read_pieces g p after (piece ∷ back)) here
read_leads g place before (line ∷ lines) after piece back leads =
    let there : length lines + (place + 1) ≡ length (line ∷ lines) + place = omega arith in
    kept_before g place before line (lines ++ piece ∷ back) (in_front lines piece back) leads.0
    ∙ read_leads g (place + 1) (g.after_line before line) lines after piece back leads.1
    ∙ ap (λ (p : ℕ). read_pieces g p after (piece ∷ back)) there

faulty : {F V K : Type 0} (g : LineGrammar F V K) (place : ℕ) (before : F) (piece : List ℕ) (back : List (List ℕ)) (kind : K) → piece_fault g before piece back ≡ Some kind
    → read_pieces g place before (piece ∷ back) ≡ Err (place, kind)
unfolding read_pieces
faulty {K = K} g place before piece [] kind fault = ap (λ (o : Option K). unless o place (Ok (g.value before))) fault
faulty {K = K} g place before piece (next ∷ back) kind fault = ap (λ (o : Option K). unless o place (read_pieces g (place + 1) (g.after_line before piece) (next ∷ back))) fault

whole : {F V K : Type 0} (g : LineGrammar F V K) (place : ℕ) (before : F) → g.end_fault before ≡ None → read_pieces g place before ([] ∷ []) ≡ Ok (g.value before)
unfolding read_pieces piece_fault
whole {K = K} g place before none = ap (λ (o : Option K). unless o place (Ok (g.value before))) none

pub read_spelled : {F V K : Type 0} (g : LineGrammar F V K) (text : List ℕ) (value : V) → Spells g text value → read_pieces g 1 g.first (pieces_of text) ≡ Ok value
read_spelled {V = V} g text value s =
    ap (read_pieces g 1 g.first) s.text_is ∙ read_leads g 1 g.first s.lines s.end [] [] s.spelled ∙ whole g (length s.lines + 1) s.end s.no_end_fault
    ∙ ap (λ (t : V). Ok t) s.value_is

pub read_fault : {F V K : Type 0} (g : LineGrammar F V K) (text : List ℕ) (place : ℕ) (kind : K) → IsFirstFault g text place kind → read_pieces g 1 g.first (pieces_of text) ≡ Err (place, kind)
read_fault g text place kind f =
    ap (read_pieces g 1 g.first) f.text_is ∙ read_leads g 1 g.first f.front f.before f.piece f.back f.kept ∙ faulty g (length f.front + 1) f.before f.piece f.back kind f.fault
    ∙ ap (λ (p : ℕ). Err (p, kind)) (sym f.place_is)

-- ---- from reading to the definitions

unless_ok : {V K : Type 0} (o : Option K) (place : ℕ) (r : Result V (ℕ × K)) (value : V) → unless o place r ≡ Ok value → (o ≡ None) × (r ≡ Ok value)
unless_ok None place r value e = (refl, e)
unless_ok (Some kind) place r value e = absurd cc

-- what was read is this fault, of the first piece or of one behind it
unless_err : {V K : Type 0} (o : Option K) (place : ℕ) (r : Result V (ℕ × K)) (fault : ℕ × K) → unless o place r ≡ Err fault
    → ((o ≡ Some fault.1) × (fault.0 ≡ place)) ⊎ ((o ≡ None) × (r ≡ Err fault))
unless_err None place r fault e = inr (refl, e)
unless_err {K = K} (Some kind) place r fault e =
    let is : (place, kind) ≡ fault = cc in
    inl (ap (λ (f : ℕ × K). Some f.1) is, sym (ap (λ (f : ℕ × K). f.0) is))

unended : {F V K : Type 0} (g : LineGrammar F V K) (before : F) (piece : List ℕ) → EndsEachLine g → piece_fault g before piece [] ≡ None → (piece ≡ []) × (g.end_fault before ≡ None)
unfolding piece_fault
unended g before [] ends e = (refl, e)
unended g before (b ∷ bytes) ends e = absurd (ends before b bytes e)

-- lines that lead to a value, and nothing behind them
record Lines {F V K : Type 0} (g : LineGrammar F V K) (before : F) (pieces : List (List ℕ)) (value : V) : Type 0 where
  lines : List (List ℕ)
  pieces_are : pieces ≡ lines ++ [] ∷ []
  end : F
  leads : Leads g before lines end
  value_is : g.value end ≡ value
  no_end_fault : g.end_fault end ≡ None

one_more : {F V K : Type 0} (g : LineGrammar F V K) (before : F) (line : List ℕ) (pieces : List (List ℕ)) (value : V) → g.line_fault before true line ≡ None
    → Lines g (g.after_line before line) pieces value → Lines g before (line ∷ pieces) value
one_more g before line pieces value kept l = record {
  lines = line ∷ l.lines;
  pieces_are = ap (λ (ps : List (List ℕ)). line ∷ ps) l.pieces_are;
  end = l.end;
  leads = (kept, l.leads);
  value_is = l.value_is;
  no_end_fault = l.no_end_fault;
}

lines_read : {F V K : Type 0} (g : LineGrammar F V K) (place : ℕ) (before : F) (pieces : List (List ℕ)) (value : V) → EndsEachLine g → 0 < length pieces
    → read_pieces g place before pieces ≡ Ok value → Lines g before pieces value
unfolding read_pieces piece_fault
lines_read g place before [] value ends some e = absurd (omega arith)
lines_read g place before (piece ∷ []) value ends some e =
    let u = unless_ok (piece_fault g before piece []) place (Ok (g.value before)) value e in
    let end = unended g before piece ends u.0 in
    let same : g.value before ≡ value = cc in
    record { lines = []; pieces_are = ap (λ (p : List ℕ). p ∷ []) end.0; end = before; leads = refl; value_is = same; no_end_fault = end.1 }
lines_read g place before (piece ∷ (next ∷ pieces)) value ends some e =
    let u = unless_ok (piece_fault g before piece (next ∷ pieces)) place (read_pieces g (place + 1) (g.after_line before piece) (next ∷ pieces)) value e in
    one_more g before piece (next ∷ pieces) value u.0 (lines_read g (place + 1) (g.after_line before piece) (next ∷ pieces) value ends (omega arith) u.1)

pub spelled_read : {F V K : Type 0} (g : LineGrammar F V K) (text : List ℕ) (value : V) → EndsEachLine g → read_pieces g 1 g.first (pieces_of text) ≡ Ok value → Spells g text value
spelled_read g text value ends e =
    let l = lines_read g 1 g.first (pieces_of text) value ends (omega (arith, length-slice_split (λ b. eqb b 10) text)) e in
    record { lines = l.lines; text_is = l.pieces_are; end = l.end; spelled = l.leads; value_is = l.value_is; no_end_fault = l.no_end_fault }

-- the first fault of pieces
record Fault {F V K : Type 0} (g : LineGrammar F V K) (before : F) (pieces : List (List ℕ)) (place : ℕ) (fault : ℕ × K) : Type 0 where
  front : List (List ℕ)
  piece : List ℕ
  back : List (List ℕ)
  pieces_are : pieces ≡ front ++ piece ∷ back
  reached : F
  leads : Leads g before front reached
  place_is : fault.0 ≡ length front + place
  found : piece_fault g reached piece back ≡ Some fault.1

first_one : {F V K : Type 0} (g : LineGrammar F V K) (before : F) (piece : List ℕ) (back : List (List ℕ)) (place : ℕ) (fault : ℕ × K)
    → (piece_fault g before piece back ≡ Some fault.1) × (fault.0 ≡ place) → Fault g before (piece ∷ back) place fault
first_one g before piece back place fault (found, is) = record {
  front = [];
  piece = piece;
  back = back;
  pieces_are = refl;
  reached = before;
  leads = refl;
  place_is = omega (arith, is);
  found = found;
}

later_one : {F V K : Type 0} (g : LineGrammar F V K) (before : F) (line : List ℕ) (pieces : List (List ℕ)) (place : ℕ) (fault : ℕ × K) → g.line_fault before true line ≡ None
    → Fault g (g.after_line before line) pieces (place + 1) fault → Fault g before (line ∷ pieces) place fault
later_one g before line pieces place fault kept f = record {
  front = line ∷ f.front;
  piece = f.piece;
  back = f.back;
  pieces_are = ap (λ (ps : List (List ℕ)). line ∷ ps) f.pieces_are;
  reached = f.reached;
  leads = (kept, f.leads);
  place_is = omega (arith, f.place_is);
  found = f.found;
}

fault_found : {F V K : Type 0} (g : LineGrammar F V K) (place : ℕ) (before : F) (pieces : List (List ℕ)) (fault : ℕ × K) → 0 < length pieces
    → read_pieces g place before pieces ≡ Err fault → Fault g before pieces place fault
unfolding read_pieces piece_fault
fault_found g place before [] fault some e = absurd (omega arith)
fault_found g place before (piece ∷ []) fault some e =
    ⊎_elim (λ f. first_one g before piece [] place fault f) (λ r. let no : Ok (g.value before) ≡ Err fault = r.1 in absurd cc)
    (unless_err (piece_fault g before piece []) place (Ok (g.value before)) fault e)
fault_found g place before (piece ∷ (next ∷ pieces)) fault some e =
    ⊎_elim (λ f. first_one g before piece (next ∷ pieces) place fault f)
    (λ r. later_one g before piece (next ∷ pieces) place fault r.0 (fault_found g (place + 1) (g.after_line before piece) (next ∷ pieces) fault (omega arith) r.1))
    (unless_err (piece_fault g before piece (next ∷ pieces)) place (read_pieces g (place + 1) (g.after_line before piece) (next ∷ pieces)) fault e)

pub fault_read : {F V K : Type 0} (g : LineGrammar F V K) (text : List ℕ) (fault : ℕ × K) → read_pieces g 1 g.first (pieces_of text) ≡ Err fault → IsFirstFault g text fault.0 fault.1
fault_read g text fault e =
    let f = fault_found g 1 g.first (pieces_of text) fault (omega (arith, length-slice_split (λ b. eqb b 10) text)) e in
    record { front = f.front; piece = f.piece; back = f.back; text_is = f.pieces_are; before = f.reached; kept = f.leads; place_is = f.place_is; fault = f.found }

-- ---- every text

ok_is : {V K : Type 0} (r : Result V (ℕ × K)) (one other : V) → r ≡ Ok one → r ≡ Ok other → one ≡ other
ok_is r one other e f = cc

bad_is : {V K : Type 0} (r : Result V (ℕ × K)) (place other_place : ℕ) (kind other_kind : K) → r ≡ Err (place, kind) → r ≡ Err (other_place, other_kind) → (place ≡ other_place) × (kind ≡ other_kind)
bad_is {K = K} r place other_place kind other_kind e f =
    let same : (place, kind) ≡ (other_place, other_kind) = cc in
    (ap (λ (x : ℕ × K). x.0) same, ap (λ (x : ℕ × K). x.1) same)

clash : {V K : Type 0} (r : Result V (ℕ × K)) (value : V) (fault : ℕ × K) → r ≡ Ok value → r ≡ Err fault → ⊥
clash r value fault e f = cc

spells_or_is_faulty : {F V K : Type 0} (g : LineGrammar F V K) (text : List ℕ) (r : Result V (ℕ × K)) → EndsEachLine g → read_pieces g 1 g.first (pieces_of text) ≡ r
    → ((value : V) × Spells g text value) ⊎ ((place : ℕ) × (kind : K) × IsFirstFault g text place kind)
spells_or_is_faulty g text (Ok value) ends e = inl (value, spelled_read g text value ends e)
spells_or_is_faulty g text (Err fault) ends e = inr (fault.0, fault.1, fault_read g text fault e)

pub meaning : {F V K : Type 0} (g : LineGrammar F V K) (text : List ℕ) → EndsEachLine g → Meaning (Spells g text) (IsFirstFault g text)
meaning g text ends =
    let read = read_pieces g 1 g.first (pieces_of text) in
    record {
      spells_or_is_faulty = spells_or_is_faulty g text read ends refl;
      one_value = λ one other p q. ok_is read one other (read_spelled g text one p) (read_spelled g text other q);
      one_fault = λ place kind other_place other_kind p q. bad_is read place other_place kind other_kind (read_fault g text place kind p) (read_fault g text other_place other_kind q);
      not_both = λ value place kind p q. clash read value (place, kind) (read_spelled g text value p) (read_fault g text place kind q);
    }

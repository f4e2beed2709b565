-- What a reader answers: by the meaning of what it reads, and where that is a text, by its lines, taken one after the other.
use Rattle.std.proofs.Common.{◌≡◌, ◌⊎◌, ℕ, Bool, true, false, eqb, List, [], ◌∷◌, length, None, Result, Ok, Err, IfOk, IfErr, sym, ap, ◌∙◌, inl, inr, subst, arith, refl}
use Rattle.std.proofs.lemmas.List.{length-append}
use Rattle.std.proofs.lemmas.List.Splits.{length-slice_split}
use Rattle.line_grammar.specs.Grammar.{EndsEachLine, IsFirstFault, LineGrammar, Spells, piece_fault}
use Rattle.line_grammar.specs.Meaning.{Meaning}
use Rattle.line_grammar.specs.Reading.{read_pieces}
use Rattle.line_grammar.proofs.Meanings.{fault_read, meaning, spelled_read}
use Rattle.line_grammar.proofs.Pieces as grammar
use Rattle.text_lines.specs.Lines.{IsCutAt, Lacks}
use Rattle.trace_text.specs.declared.fault.BadKind.{BadKind}
use Rattle.trace_text.specs.declared.fault.BadKind.TheVariants as bad
use Rattle.trace_text.specs.declared.fault.LineFault.{LineFault}
use Rattle.trace_text.specs.declared.fault.LineFault.TheVariants.{Broken, NoRoom}
use Rattle.trace_text.specs.declared.fault.TraceFault.{TraceFault}
use Rattle.trace_text.specs.declared.fault.TraceFault.TheVariants.{Bad, Memory}
use Rattle.trace_text.specs.Limits.{first_broken}
use Rattle.trace_text.specs.Grammar.{IsFaultBy, IsPlacedIn, pieces_of}
use Rattle.trace_text.specs.Judging.{IsTaken, IsUnlessMemory, placed}

-- ---- by the meaning

-- what is read is spelled so, and a fault is the first one
abbrev pub IsTrue : {V : Type 0} → (V → Type 0) → (ℕ → BadKind → Type 0) → Result V TraceFault → Type 0
IsTrue Spelled First (Ok value) = Spelled value
IsTrue Spelled First (Err fault) = IsFaultBy First fault

only_this : {V : Type 0} (Spelled : V → Type 0) (First : ℕ → BadKind → Type 0) (r : Result V TraceFault) → Meaning Spelled First → IsTrue Spelled First r
    → (value : V) → Spelled value → (r ≡ Ok value) ⊎ (r ≡ Err Memory)
only_this {V = V} Spelled First (Ok read) m answer value spells = inl (ap (λ (t : V). Ok t) (m.one_value read value answer spells))
only_this Spelled First (Err (Bad place kind)) m answer value spells = absurd (m.not_both value place kind spells answer)
only_this Spelled First (Err Memory) m answer value spells = inr refl

refused_so : {V : Type 0} (Spelled : V → Type 0) (First : ℕ → BadKind → Type 0) (r : Result V TraceFault) → Meaning Spelled First → IsTrue Spelled First r
    → (place : ℕ) (kind : BadKind) → First place kind → (r ≡ Err (Bad place kind)) ⊎ (r ≡ Err Memory)
refused_so Spelled First (Ok read) m answer place kind fault = absurd (m.not_both read place kind answer fault)
refused_so Spelled First (Err (Bad at what)) m answer place kind fault =
    let same = m.one_fault at what place kind answer fault in
    inl (ap (λ (n : ℕ). Err (Bad n what)) same.0 ∙ ap (λ (k : BadKind). Err (Bad place k)) same.1)
refused_so Spelled First (Err Memory) m answer place kind fault = inr refl

found_so : {V : Type 0} (Spelled Sound : V → Type 0) (First : ℕ → BadKind → Type 0) (r : Result V TraceFault) → ((value : V) → Spelled value → Sound value) → IsTrue Spelled First r → IfOk r Sound
found_so Spelled Sound First (Ok value) sound answer = sound value answer
found_so Spelled Sound First (Err fault) sound answer = tt

bad_so : {V : Type 0} (Spelled : V → Type 0) (First : ℕ → BadKind → Type 0) (r : Result V TraceFault) → IsTrue Spelled First r → IfErr r (IsFaultBy First)
bad_so Spelled First (Ok value) answer = tt
bad_so Spelled First (Err fault) answer = answer

-- the clauses of a reader
pub record Clauses {V : Type 0} (Spelled Sound : V → Type 0) (First : ℕ → BadKind → Type 0) (r : Result V TraceFault) : Type 0 where
  pub found : IfOk r Spelled
  pub only : (value : V) → Spelled value → (r ≡ Ok value) ⊎ (r ≡ Err Memory)
  pub bad : IfErr r (IsFaultBy First)
  pub refused : (place : ℕ) (kind : BadKind) → First place kind → (r ≡ Err (Bad place kind)) ⊎ (r ≡ Err Memory)
  pub sound : IfOk r Sound

pub clauses : {V : Type 0} (Spelled Sound : V → Type 0) (First : ℕ → BadKind → Type 0) (r : Result V TraceFault) → Meaning Spelled First → ((value : V) → Spelled value → Sound value) → IsTrue Spelled First r
    → Clauses Spelled Sound First r
clauses Spelled Sound First r m sound answer = record {
  found = found_so Spelled Spelled First r (λ value spells. spells) answer;
  only = only_this Spelled First r m answer;
  bad = bad_so Spelled First r answer;
  refused = refused_so Spelled First r m answer;
  sound = found_so Spelled Sound First r sound answer;
}

-- ---- of a text

-- a line that isn't ended breaks a rule
pub cut_breaks : (text : Bool) (rules : List (BadKind × Bool)) → first_broken ((bad.Byte, text) ∷ (bad.Cut, false) ∷ rules) ≡ None → ⊥
cut_breaks true rules e = cc
cut_breaks false rules e = cc

-- a line that isn't taken
pub stops : {F V : Type 0} (g : LineGrammar F V BadKind) (place : ℕ) (before wanted after : F) (rest line behind : List ℕ) (rules : List (BadKind × Bool)) (total : Result V (ℕ × BadKind)) (fault : LineFault) (answer : TraceFault) → IsCutAt 10 rest line behind
    → g.line_fault before true line ≡ first_broken rules → IsTaken (Err fault) rules wanted after → answer ≡ placed place fault → read_pieces g place before (pieces_of rest) ≡ total → IsUnlessMemory (Err answer) total
stops g place before wanted after rest line behind rules total (Broken kind) answer cut are broken is so_far =
    subst (λ (a : TraceFault). IsUnlessMemory (Err a) total) (sym is) (grammar.stops g place before rest line behind total kind cut (are ∙ broken) so_far)
stops g place before wanted after rest line behind rules total NoRoom answer cut are broken is so_far =
    subst (λ (a : TraceFault). IsUnlessMemory (Err a) total) (sym is) tt

-- the end of the text
pub ends : {F V : Type 0} (g : LineGrammar F V BadKind) (place : ℕ) (before : F) (value : V) (rest : List ℕ) (total : Result V (ℕ × BadKind)) → Lacks 10 rest → (piece_fault g before rest [] ≡ None) × (value ≡ g.value before)
    → read_pieces g place before (pieces_of rest) ≡ total → IsUnlessMemory (Ok value) total
ends {V = V} g place before value rest total lacks end so_far = grammar.ends g place before rest total lacks end.0 so_far ∙ ap (λ (v : V). Ok v) (sym end.1)

true_from_read : {F V : Type 0} (g : LineGrammar F V BadKind) (text : List ℕ) (r : Result V TraceFault) → EndsEachLine g → IsUnlessMemory r (read_pieces g 1 g.first (pieces_of text)) → IsTrue (Spells g text) (IsFirstFault g text) r
true_from_read g text (Ok value) each read = spelled_read g text value each read
true_from_read g text (Err (Bad place kind)) each read = fault_read g text (place, kind) read
true_from_read g text (Err Memory) each read = tt

pub answer_from_read : {F V : Type 0} (g : LineGrammar F V BadKind) (Sound : V → Type 0) (text : List ℕ) (r : Result V TraceFault) → EndsEachLine g → ((value : V) → Spells g text value → Sound value)
    → IsUnlessMemory r (read_pieces g 1 g.first (pieces_of text)) → Clauses (Spells g text) Sound (IsFirstFault g text) r
answer_from_read g Sound text r each sound read = clauses (Spells g text) Sound (IsFirstFault g text) r (meaning g text each) sound (true_from_read g text r each read)

pub placed_in : {F V : Type 0} (g : LineGrammar F V BadKind) (text : List ℕ) (r : Result V TraceFault) → IfErr r (IsFaultBy (IsFirstFault g text)) → IfErr r (IsPlacedIn text)
placed_in g text (Ok value) fault = tt
placed_in g text (Err Memory) fault = tt
placed_in g text (Err (Bad place kind)) f =
    let count = length-slice_split (λ b. eqb b 10) text in
    let parts = ap length f.text_is ∙ length-append f.front (f.piece ∷ f.back) in
    (omega (arith, f.place_is), omega (arith, f.place_is, count, parts))

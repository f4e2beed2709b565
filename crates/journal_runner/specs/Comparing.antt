-- The word `compare`: two journals are read one behind the other, and what they show of a session or of a group is written.
use Rattle.std.specs.Prelude.{ℕ, List, [], ◌∷◌, ◌++◌, codes, None, Some}
use Rattle.std.specs.Fmt.{decimal}
use Rattle.compare_model.specs.Comparing.{IsComparedAs, Pair}
use Rattle.compare_model.specs.declared.compared.Compared.{Compared}
use Rattle.compare_model.specs.declared.compared.Compared.TheVariants.{Illegal, Absent, Other, Events, Same}
use Rattle.compare_model.specs.declared.subject.Subject.{Subject}
use Rattle.journal_bytes.specs.Grammar.{Whole}
use Rattle.kernel_model.specs.Application.{Native}
use Rattle.trace_player.specs.Starting.{uuids_of}
use Rattle.word_parts.specs.Word.{Word}
use Rattle.journal_runner.specs.Reading.{IsFaultOfPair, SpellsPair}

-- two journals, and what they show of a session or of a group
pub record Comparison : Type 0 where
  pub one : Whole
  pub two : Whole
  pub compared : Compared

-- both journals beside these built-in applications
abbrev pub pair_of : List Native → Whole → Whole → Pair
pair_of natives one two = record {
  one = record { boot = one.boot; events = one.events };
  two = record { boot = two.boot; events = two.events };
  natives = natives;
}

-- the bytes spell the two journals one behind the other, and that is what these show
pub record SpellsCompared (natives : List Native) (subject : Subject) (bytes : List ℕ) (comparison : Comparison) : Type 0 where
  pub pair : SpellsPair (uuids_of natives) bytes comparison.one comparison.two
  pub is_compared : IsComparedAs (pair_of natives comparison.one comparison.two) subject comparison.compared

-- `illegal J AT`, `absent J`, `other`, `events N` or `same N`
abbrev pub compared_words : Compared → List ℕ
compared_words (Illegal journal at) = codes "illegal " ++ decimal journal ++ 32 ∷ decimal at
compared_words (Absent journal) = codes "absent " ++ decimal journal
compared_words Other = codes "other"
compared_words (Events at) = codes "events " ++ decimal at
compared_words (Same count) = codes "same " ++ decimal count

abbrev pub compared_line : Compared → List ℕ
compared_line compared = compared_words compared ++ 10 ∷ []

-- the word: two journals, beside these built-in applications, are answered with what they show of the session or of the group
abbrev pub comparing : List Native → Subject → Word
comparing natives subject = record {
  Content = Comparison;
  Spells = SpellsCompared natives subject;
  IsFirstFault = IsFaultOfPair (uuids_of natives);
  IsKnown = λ (comparison : Comparison). Unit {0};
  IsTooLarge = λ (comparison : Comparison). ⊥;
  text_for = λ (comparison : Comparison). Some (compared_line comparison.compared);
  refused_for = λ (comparison : Comparison). None;
}

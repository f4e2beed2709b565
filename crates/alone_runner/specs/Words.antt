-- What words ask for.
use Rattle.std.specs.Prelude.{◌≡◌, ℕ, ◌^◌, ◌<◌, ◌≤◌, true, List, [], ◌∷◌, codes, map, String, string_bytes}
use Rattle.std.specs.Fmt.{decimal}
use Rattle.std.specs.Global.{Global}
use Rattle.compare_model.specs.declared.subject.Subject.{Subject}
use Rattle.compare_model.specs.declared.subject.Subject.TheVariants.{Session, Group}
use Rattle.trace_text.specs.Forms.{is_uuid, uuid}
use Rattle.alone_runner.specs.declared.command.Command.{Command}
use Rattle.alone_runner.specs.declared.command.Command.TheVariants.{Serve, Record, Audit, Compare, Notify, Client, Work}
use Rattle.alone_runner.specs.declared.command.Grammar.{Grammar}
use Rattle.alone_runner.specs.declared.command.Grammar.TheVariants.{Text, Records, Assembler}

-- the word by which an input is read in each grammar
abbrev pub word_of : Grammar → List ℕ
word_of Text = codes "run"
word_of Records = codes "run-binary"
word_of Assembler = codes "asm"

-- a number is its digits in decimal, so it has no leading zero but in `0`; a UUID is in the hyphenated form, with letters of either
-- case
abbrev pub Names : Subject → List ℕ → Type 0
Names (Session number) word = word ≡ decimal number
Names (Group id) word = (is_uuid word ≡ true) × (id ≡ uuid word)

-- the number of a session is below 2^32
abbrev pub IsNumbered : Subject → Type 0
IsNumbered (Session number) = number < 2 ^ 32
IsNumbered (Group id) = Unit {0}

-- texts are the words of a command
abbrev pub AreWordsOf : Command → List (List ℕ) → Type 0
AreWordsOf (Serve grammar) texts = texts ≡ word_of grammar ∷ []
AreWordsOf Record texts = texts ≡ codes "record" ∷ []
AreWordsOf Audit texts = texts ≡ codes "audit" ∷ []
AreWordsOf (Compare subject) texts = (word : List ℕ) × Names subject word × (texts ≡ codes "compare" ∷ word ∷ [])
AreWordsOf Notify texts = texts ≡ codes "notify" ∷ []
AreWordsOf Client texts = texts ≡ codes "client" ∷ []
AreWordsOf (Work seed count) texts = texts ≡ codes "work" ∷ decimal seed ∷ decimal count ∷ []

-- a seed is below 2^64, and there are at most 65,536 calls
abbrev pub IsWithin : Command → Type 0
IsWithin (Serve grammar) = Unit {0}
IsWithin Record = Unit {0}
IsWithin Audit = Unit {0}
IsWithin (Compare subject) = IsNumbered subject
IsWithin Notify = Unit {0}
IsWithin Client = Unit {0}
IsWithin (Work seed count) = (seed < 2 ^ 64) × (count ≤ 2 ^ 16)

-- these texts say the command, or none
pub record Say (texts : List (List ℕ)) (command : Command) : Type 0 where
  pub within : IsWithin command
  pub words : AreWordsOf command texts

abbrev pub SayNothing : List (List ℕ) → Type 0
SayNothing texts = (command : Command) → Say texts command → ⊥

-- words ask for what their texts say
abbrev pub Asks : List (String Global) → Command → Type 0
Asks words command = Say (map string_bytes words) command

abbrev pub AskNothing : List (String Global) → Type 0
AskNothing words = SayNothing (map string_bytes words)

-- all commands read an input but that of a made trace
abbrev pub Reads : Command → Type 0
Reads (Serve grammar) = Unit {0}
Reads Record = Unit {0}
Reads Audit = Unit {0}
Reads (Compare subject) = Unit {0}
Reads Notify = Unit {0}
Reads Client = Unit {0}
Reads (Work seed count) = ⊥

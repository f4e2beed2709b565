-- What is taken of a reader for a line.
use Rattle.std.specs.Prelude.{◌≡◌, ℕ, ◌<◌, ◌≤◌, ◌⊎◌, List, [], ◌∷◌, ◌++◌, length, Bool, true, false, Option}
use Rattle.std.specs.Io.KnownBytes.{Consumes, IsAtEnd}
use Rattle.line_port.specs.declared.line_reader.Part.{Part}
use Rattle.line_port.specs.declared.line_reader.Part.TheVariants as part
use Rattle.line_port.specs.declared.port.Heard.{Heard}
use Rattle.line_port.specs.declared.port.Heard.TheVariants as heard
use Rattle.text_lines.specs.Lines.{Lacks}

-- the most bytes of a line, its line feed not counted
abbrev pub MOST : ℕ
MOST = 8388736

-- these bytes are what was gathered of a line; or there were more bytes than a line may have
abbrev pub IsGathered : Bool → List ℕ → List ℕ → Type 0
IsGathered false line text = (line ≡ text) × (length text ≤ MOST)
IsGathered true line text = MOST < length text

-- a part was added to what was gathered
abbrev pub Gathers : Bool → List ℕ → Bool → List ℕ → List ℕ → Type 0
Gathers was_long old is_long new part = (text : List ℕ) → IsGathered was_long old text → IsGathered is_long new (text ++ part)

-- what ends a part
abbrev pub feed_of : Part → List ℕ
feed_of part.Last = 10 ∷ []
feed_of part.Some = []
feed_of part.None = []

-- these bytes were taken of a line
pub record IsTaken (taken : Part) (bytes : List ℕ) (was_long : Bool) (old : List ℕ) (is_long : Bool) (new : List ℕ) : Type 0 where
  pub text : List ℕ
  pub lacks : Lacks 10 text
  pub bytes_are : bytes ≡ text ++ feed_of taken
  pub gathers : Gathers was_long old is_long new text

-- a part was taken of a line; none where nothing is left
pub record TakesPart (taken : Part) (before after : Option (List ℕ)) (was_long : Bool) (old : List ℕ) (is_long : Bool) (new : List ℕ) : Type 0 where
  pub bytes : List ℕ
  pub consumed : Consumes before after bytes
  pub took : IsTaken taken bytes was_long old is_long new
  pub ended : taken ≡ part.None → IsAtEnd after

-- the parts so far
pub record IsSoFar (before after : Option (List ℕ)) (is_long : Bool) (line : List ℕ) : Type 0 where
  pub text : List ℕ
  pub lacks : Lacks 10 text
  pub consumed : Consumes before after text
  pub gathered : IsGathered is_long line text

-- too many bytes, none of them a line feed, up to the first line feed or the end
pub record TakesLong (before after : Option (List ℕ)) : Type 0 where
  pub text : List ℕ
  pub lacks : Lacks 10 text
  pub long : MOST < length text
  pub consumed : Consumes before after (text ++ 10 ∷ []) ⊎ (Consumes before after text × IsAtEnd after)

-- some bytes, none of them a line feed, up to the end
pub record TakesCut (before after : Option (List ℕ)) : Type 0 where
  pub text : List ℕ
  pub lacks : Lacks 10 text
  pub some : 0 < length text
  pub short : length text ≤ MOST
  pub consumed : Consumes before after text
  pub ended : IsAtEnd after

-- the line with the line feed that ended it
pub record TakesWhole (line : List ℕ) (before after : Option (List ℕ)) : Type 0 where
  pub lacks : Lacks 10 line
  pub short : length line ≤ MOST
  pub consumed : Consumes before after (line ++ 10 ∷ [])

-- at most a part of a line: bytes of which none is a line feed
pub record LosesPart (before after : Option (List ℕ)) : Type 0 where
  pub text : List ℕ
  pub lacks : Lacks 10 text
  pub consumed : Consumes before after text

-- of a reader that tells what it has left: what is gone from the front of that
abbrev pub TakesLine : Heard → List ℕ → Option (List ℕ) → Option (List ℕ) → Type 0
TakesLine heard.Line line before after = TakesWhole line before after
TakesLine heard.Long line before after = TakesLong before after
TakesLine heard.Cut line before after = TakesCut before after
TakesLine heard.End line before after = Consumes before after [] × IsAtEnd after
TakesLine heard.Failed line before after = LosesPart before after
TakesLine heard.Memory line before after = LosesPart before after

-- What a call has written of a text.
use Rattle.std.specs.Prelude.{◌≡◌, ℕ, List, ◌++◌, Option}
use Rattle.ports.specs.Port.{Appends}
use Rattle.ports.specs.declared.sink.Put.{Put}
use Rattle.ports.specs.declared.sink.Put.TheVariants.{Done, Failed, Memory}

-- a part from the front of the text was put
pub record AppendsPart (old new : Option (List ℕ)) (text : List ℕ) : Type 0 where
  pub part : List ℕ
  pub rest : List ℕ
  pub cut : text ≡ part ++ rest
  pub put : Appends old new part

-- the text was put whole, or a part of it where the sink failed or memory ran out
abbrev pub Puts : List ℕ → Put → Option (List ℕ) → Option (List ℕ) → Type 0
Puts text Done old new = Appends old new text
Puts text Failed old new = AppendsPart old new text
Puts text Memory old new = AppendsPart old new text

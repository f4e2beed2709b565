-- A conversation: each line is answered before the next one is heard. This project's own.
use Rattle.std.specs.Prelude.{◌≡◌, ◌⊎◌, ℕ, List, [], ◌∷◌, ◌++◌, Option, take}
use Rattle.line_port.specs.History.{Adds, Event, Hears, Input, Says}
use Rattle.notify_text.specs.Rules.{NotifyFront, no_lines}
use Rattle.line_port.specs.declared.finish.Finish.{Finish}
use Rattle.line_port.specs.declared.finish.Finish.TheVariants.{Memory, Over, ReadFault, WriteFault}
use Rattle.live_play.specs.Answer.{Answer, IsPlayed, Platform, after_heard, answer, text_of_answer}

-- what is said to this, behind these lines
abbrev pub said_to : Platform → NotifyFront → Input → List ℕ
said_to on before input = text_of_answer (answer on before input)

-- behind these lines, where this is heard: each is heard, and its answer is said before the next one is heard
abbrev pub conversation : Platform → NotifyFront → List Input → List Event
conversation on before [] = []
conversation on before (input ∷ inputs) =
    Hears input ∷ Says (said_to on before input) ∷ conversation on (after_heard on before input) inputs

-- the lines that count behind all that was heard
abbrev pub after_all : Platform → NotifyFront → List Input → NotifyFront
after_all on before [] = before
after_all on before (input ∷ inputs) = after_all on (after_heard on before input) inputs

-- the answers
abbrev pub answers : Platform → NotifyFront → List Input → List Answer
answers on before [] = []
answers on before (input ∷ inputs) = answer on before input ∷ answers on (after_heard on before input) inputs

-- ---- how it ends

-- what a conversation that ends so leaves behind its last whole turn, behind these lines
abbrev pub IsRest : Platform → NotifyFront → Finish → List Event → Type 0
IsRest on before Over rest = rest ≡ []
IsRest on before ReadFault rest = rest ≡ []
-- a part of an answer was said
IsRest on before WriteFault rest =
    (input : Input) × (n : ℕ) × (rest ≡ Hears input ∷ Says (take n (said_to on before input)) ∷ [])
    × IsPlayed on (after_heard on before input)
-- something may have been heard, to which nothing was said
IsRest on before Memory rest = (rest ≡ []) ⊎ ((input : Input) × (rest ≡ Hears input ∷ []))

-- whatever was heard, the history grew by a conversation from the first line on
pub record IsConversation (on : Platform) (old new : Option (List Event)) (finish : Finish) : Type 0 where
  pub inputs : List Input
  pub rest : List Event
  pub history : Adds old new (conversation on no_lines inputs ++ rest)
  pub ended : IsRest on (after_all on no_lines inputs) finish rest
  -- so that no answer is `ok` for want of a play
  pub played : IsPlayed on (after_all on no_lines inputs)

-- ---- the status of a program that holds one

abbrev pub status : Finish → ℕ
status Over = 0
status ReadFault = 4
status WriteFault = 5
status Memory = 6

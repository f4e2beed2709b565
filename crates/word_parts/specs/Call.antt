-- A call of a word over an input.
use Rattle.std.specs.Prelude.{ℕ, List, Option, IfSome}
use Rattle.ports.specs.Port.{Rose}
use Rattle.word_parts.specs.Keeping.{Keeps}
use Rattle.word_parts.specs.Word.{Word}
use Rattle.word_parts.specs.declared.status.Status.{Status}

-- its status, what its source has told and has left, what its sink held and holds, where they tell it, and how many faults each of them
-- had counted before and counts now
pub record Call : Type 0 where
  pub result : Status
  pub told : Option (List ℕ)
  pub left : Option (List ℕ)
  pub old : Option (List ℕ)
  pub new : Option (List ℕ)
  pub source_old : ℕ
  pub source_new : ℕ
  pub sink_old : ℕ
  pub sink_new : ℕ

-- no port has failed by it
abbrev pub HasNoFault : Call → Type 0
HasNoFault call = (Rose call.source_old call.source_new → ⊥) × (Rose call.sink_old call.sink_new → ⊥)

-- over this input it keeps to the word
abbrev pub KeepsOver : Word → List ℕ → Call → Type 0
KeepsOver word input call = Keeps word input call.left call.result call.old call.new (HasNoFault call)

-- over an input that the source tells it keeps to the word, and shows this besides
abbrev pub KeepsTo : Word → (List ℕ → Call → Type 0) → Call → Type 0
KeepsTo word Shows call = IfSome call.told (λ input. KeepsOver word input call × Shows input call)

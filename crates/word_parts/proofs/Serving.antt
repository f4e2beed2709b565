-- From what a word does with what was read to what it answers.
use Rattle.std.proofs.Common.{◌≡◌, ◌↔◌, ℕ, Bool, true, false, inl, inr, List, Option, refl, sym, subst}
use Rattle.std.specs.Prelude.{IsTrue, Result, Ok, Err}
use Rattle.ports.specs.PortLaws.{Appends-nil}
use Rattle.trace_text.specs.declared.item.Item.{Item}
use Rattle.word_parts.specs.Answer.{IsTold, status_of}
use Rattle.word_parts.specs.Faults.{StopTellsFaults, TellsFaults}
use Rattle.word_parts.specs.Limits.{HasTooMany}
use Rattle.word_parts.specs.Word.{Answered, Word}
use Rattle.word_parts.proofs.Answering.{failed-only, not-usage}
use Rattle.word_parts.proofs.Worded.{told-writes}
use Rattle.word_parts.specs.declared.status.Status.{Status}
use Rattle.word_parts.specs.declared.status.Status.TheVariants.{TooLong, WriteFault}
use Rattle.word_parts.specs.declared.stop.Stop.{Stop}
use Rattle.word_parts.specs.declared.stop.Stop.TheVariants.{Full, Failed}
use Rattle.word_parts.specs.declared.stop.Stop.TheVariants as stop

-- ---- limits

-- the items that were counted are too many, or few
pub many-items : (items counted : List Item) (many : Bool) → counted ≡ items → (IsTrue many ↔ HasTooMany counted)
    → many ≡ true → HasTooMany items
many-items items counted many same told has = subst (λ (all : List Item). HasTooMany all) same (told.0 has)

pub few-items : (items counted : List Item) (many : Bool) → counted ≡ items → (IsTrue many ↔ HasTooMany counted)
    → many ≡ false → HasTooMany items → ⊥
few-items items counted many same told few has =
    let yes = told.1 (subst (λ (all : List Item). HasTooMany all) (sym same) has) in absurd cc

-- ---- answers

-- what is too large is answered by nothing
pub answered-large : (word : Word) (input : List ℕ) (content : word.Content) (held : Option (List ℕ))
    → word.Spells input content → word.IsKnown content → word.IsTooLarge content → Answered word input TooLong held held
answered-large word input content held spelled known large = inr (inr (record {
  content = content;
  spelled = spelled;
  known = known;
  served = inl (large, refl, Appends-nil held);
}))

-- what was played is answered by its text
pub answered-told : (word : Word) (input : List ℕ) (content : word.Content) (stopped : Result (Unit {0}) Stop) (result : Status)
    (old new : Option (List ℕ)) → result ≡ status_of stopped → word.Spells input content → word.IsKnown content
    → (word.IsTooLarge content → ⊥) → IsTold (word.refused_for content) (word.text_for content) stopped old new
    → Answered word input result old new
answered-told word input content stopped result old new is spelled known few told =
    subst (λ (s : Status). Answered word input s old new) (sym is) (inr (inr (record {
      content = content;
      spelled = spelled;
      known = known;
      served = inr (few, told-writes word content stopped old new told);
    })))

-- ---- faults

-- a play tells of the faults of its sink by the status that it stands for
pub faults-told : (stopped : Result (Unit {0}) Stop) (result : Status) (old new : ℕ) → result ≡ status_of stopped
    → StopTellsFaults stopped old new → TellsFaults result old new
faults-told stopped result old new is tells =
    subst (λ (s : Status). TellsFaults s old new) (sym is) (record {
      words = not-usage stopped;
      write_fault = λ e. tells.failed (failed-only stopped e);
      count = tells.count;
      stays = λ other. tells.stays (λ e. other (at-failed stopped e));
    })
  where
    at-failed : (stopped : Result (Unit {0}) Stop) → stopped ≡ Err Failed → status_of stopped ≡ WriteFault
    at-failed (Ok done) e = absurd cc
    at-failed (Err Full) e = absurd cc
    at-failed (Err Failed) e = refl
    at-failed (Err stop.Memory) e = absurd cc

-- a play tells of all faults since its beginning, where the sink had counted none before the last lines
pub faults-since : (stopped : Result (Unit {0}) Stop) (old before new : ℕ) → before ≡ old → StopTellsFaults stopped before new
    → StopTellsFaults stopped old new
faults-since stopped old before new same tells = subst (λ (count : ℕ). StopTellsFaults stopped count new) same tells

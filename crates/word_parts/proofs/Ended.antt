-- What was served where a status comes at which no text is cut short.
use Rattle.std.proofs.Common.{◌≡◌, ℕ, ◌⊎◌, inl, inr, List, Option, Some}
use Rattle.ports.specs.Port.{Appends}
use Rattle.word_parts.specs.Answer.{status_of_play}
use Rattle.word_parts.specs.Input.{IsTooLong}
use Rattle.word_parts.specs.Line.{bad_trace_line}
use Rattle.word_parts.specs.Word.{IsServedBy, Ran, Word}
use Rattle.word_parts.proofs.Answering.{writes-named}
use Rattle.word_parts.proofs.Worded.{some-and}
use Rattle.word_parts.specs.declared.status.Status.{Status}
use Rattle.word_parts.specs.declared.status.Status.TheVariants.{BadTrace, ReadFault, WriteFault, Memory, TooLong}
use Rattle.word_parts.specs.declared.status.Status.TheVariants as status

-- the input spells this, whose text was written whole
pub record WasServed (word : Word) (input : List ℕ) (result : Status) (old new : Option (List ℕ)) : Type 0 where
  pub content : word.Content
  pub spelled : word.Spells input content
  pub known : word.IsKnown content
  pub few : word.IsTooLarge content → ⊥
  pub text : List ℕ
  pub is_text : word.text_for content ≡ Some text
  pub stands_for : result ≡ status_of_play (word.refused_for content)
  pub put : Appends old new text

-- the input is too long, or what it spells is too large
abbrev pub IsUnserved : Word → List ℕ → Type 0
IsUnserved word input = IsTooLong input ⊎ ((content : word.Content) × word.Spells input content × word.IsTooLarge content)

abbrev WasDone : Word → List ℕ → Status → Option (List ℕ) → Option (List ℕ) → Type 0
WasDone word input result old new = ((result ≡ TooLong) × IsUnserved word input) ⊎ WasServed word input result old new

-- the status is none at which a text may be cut short
record IsWhole (result : Status) : Type 0 where
  no_read : result ≡ ReadFault → ⊥
  no_write : result ≡ WriteFault → ⊥
  no_want : result ≡ Memory → ⊥
  no_fault : result ≡ BadTrace → ⊥

served-done : (word : Word) (input : List ℕ) (content : word.Content) (result : Status) (old new : Option (List ℕ))
    → IsWhole result → word.Spells input content → word.IsKnown content → IsServedBy word content result old new
    → WasDone word input result old new
served-done word input content result old new whole spelled known (inl many) =
    inl (many.1, inr (content, spelled, many.0))
served-done word input content result old new whole spelled known (inr (few, inl want)) = absurd (whole.no_want want.0)
served-done word input content result old new whole spelled known (inr (few, inr writes)) =
    let text = some-and _ (word.text_for content) writes in
    let put = writes-named (status_of_play (word.refused_for content)) text.0 result old new text.2 whole.no_write whole.no_want in
    inr (record {
      content = content;
      spelled = spelled;
      known = known;
      few = few;
      text = text.0;
      is_text = text.1;
      stands_for = put.0;
      put = put.1;
    })

ran-done : (word : Word) (input : List ℕ) (left : Option (List ℕ)) (result : Status) (old new : Option (List ℕ))
    → IsWhole result → Ran word input left result old new → WasDone word input result old new
ran-done word input left result old new whole (inl ((inl fault), nothing)) = absurd (whole.no_read fault)
ran-done word input left result old new whole (inl ((inr want), nothing)) = absurd (whole.no_want want)
ran-done word input left result old new whole (inr (inl long)) = inl (long.0, inl long.1)
ran-done word input left result old new whole (inr (inr (short, ended, inl want))) = absurd (whole.no_want want.0)
ran-done word input left result old new whole (inr (inr (short, ended, inr (inl refused)))) =
    let put = writes-named BadTrace (bad_trace_line refused.place refused.kind) result old new refused.line
    whole.no_write whole.no_want in
    absurd (whole.no_fault put.0)
ran-done word input left result old new whole (inr (inr (short, ended, inr (inr served)))) =
    served-done word input served.content result old new whole served.spelled served.known served.served

-- at 0
pub ran-served : (word : Word) (input : List ℕ) (left : Option (List ℕ)) (result : Status) (old new : Option (List ℕ))
    → Ran word input left result old new → result ≡ status.Ok → WasServed word input result old new
ran-served word input left result old new ran ok =
    by_done (ran-done word input left result old new (record {
      no_read = λ f. absurd cc;
      no_write = λ f. absurd cc;
      no_want = λ f. absurd cc;
      no_fault = λ f. absurd cc;
    }) ran)
  where
    by_done : WasDone word input result old new → WasServed word input result old new
    by_done (inl undone) = let long = undone.0 in absurd cc
    by_done (inr done) = done

-- at TooLong
pub ran-served-or-not : (word : Word) (input : List ℕ) (left : Option (List ℕ)) (result : Status) (old new : Option (List ℕ))
    → Ran word input left result old new → result ≡ TooLong → IsUnserved word input ⊎ WasServed word input result old new
ran-served-or-not word input left result old new ran long =
    by_done (ran-done word input left result old new (record {
      no_read = λ f. absurd cc;
      no_write = λ f. absurd cc;
      no_want = λ f. absurd cc;
      no_fault = λ f. absurd cc;
    }) ran)
  where
    by_done : WasDone word input result old new → IsUnserved word input ⊎ WasServed word input result old new
    by_done (inl undone) = inl undone.1
    by_done (inr done) = inr done

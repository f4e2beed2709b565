-- A line is judged by its words, and taken where what it says is put behind the others.
use Rattle.std.proofs.Common.{◌≡◌, Bool, true, false, ℕ, cond, List, ◌∷◌, Option, Some, None, Result, Ok, Err, refl, ap, ◌∙◌}
use Rattle.std.specs.List.{list_all}
use Rattle.text_lines.specs.Lines.{is_skipped}
use Rattle.text_lines.specs.Words.{words_of}
use Rattle.trace_text.specs.declared.fault.BadKind.{BadKind}
use Rattle.trace_text.specs.declared.fault.LineFault.{LineFault}
use Rattle.trace_text.specs.declared.fault.LineFault.TheVariants.{Broken, NoRoom}
use Rattle.trace_text.specs.declared.line_kind.LineKind.{LineKind}
use Rattle.trace_text.specs.declared.statement.Statement.{Statement}
use Rattle.trace_text.specs.declared.statement.Statement.TheVariants as says
use Rattle.trace_text.specs.Judging.{IsPut, IsTaken, Judged}
use Rattle.trace_text.specs.Limits.{Front, SceneState}
use Rattle.trace_text.specs.Rules.{added, added_by_kind, after_line, counts, is_text_byte, kind_named, rules_at, rules_in, said_by, said_by_words, said_in, word, words_behind}
use Rattle.trace_text.specs.Statement.{IsJudgedBy, closed_if, with_statement}

-- ---- judged

pub skipped_judged : (natives : List (List ℕ)) (scene : SceneState) (is_closed : Bool) (line : List ℕ) → list_all is_text_byte line ≡ true → is_skipped line ≡ true
    → Judged (λ (s : Statement). s) (Ok says.Blank) (rules_at natives (closed_if is_closed scene) true line) (said_in line)
unfolding said_in
skipped_judged natives scene is_closed line text skipped = (rw (text, skipped) refl, rw skipped refl)

pub words_judged : (natives : List (List ℕ)) (scene : SceneState) (line : List ℕ) (kind : LineKind) (first : List ℕ) (rest : List (List ℕ)) (result : Result Statement LineFault) → list_all is_text_byte line ≡ true → is_skipped line ≡ false
    → words_of line ≡ first ∷ rest → kind_named first ≡ Some kind → counts (words_behind kind) (words_of line) ≡ true → Judged (λ (s : Statement). s) result (rules_in kind natives scene rest) (said_by kind rest)
    → Judged (λ (s : Statement). s) result (rules_at natives scene true line) (said_in line)
unfolding said_in
words_judged natives scene line kind first rest (Ok said) text some words named counted judged =
    let counted_by : counts (words_behind kind) (first ∷ rest) ≡ true = rw words at counted in
    (rw (text, some, words, named, counted_by) judged.0, rw (some, words, named) judged.1)
words_judged natives scene line kind first rest (Err (Broken broken)) text some words named counted judged =
    let counted_by : counts (words_behind kind) (first ∷ rest) ≡ true = rw words at counted in
    rw (text, some, words, named, counted_by) judged
words_judged natives scene line kind first rest (Err NoRoom) text some words named counted judged = tt

-- ---- taken

with_words : (skipped : Bool) (named : Option LineKind) (before : Front) (words : List (List ℕ)) → with_statement before (cond skipped says.Blank (said_by_words named words)) ≡ cond skipped before (added_by_kind named before words)
unfolding added
with_words true named before words = refl
with_words false None before words = refl
with_words false (Some kind) before words = refl

-- what a line adds is what it says
pub with_said : (before : Front) (line : List ℕ) → with_statement before (said_in line) ≡ after_line before line
unfolding said_in after_line
with_said before line = with_words (is_skipped line) (kind_named (word (words_of line) 0)) before (words_of line)

-- what is judged by what a line says is judged by what that adds
pub adds_judged : (result : Result Statement LineFault) (rules : List (BadKind × Bool)) (before : Front) (line : List ℕ) → Judged (λ (s : Statement). s) result rules (said_in line) → IsJudgedBy with_statement result rules before (after_line before line)
adds_judged (Ok said) rules before line judged = (judged.0, ap (with_statement before) judged.1 ∙ with_said before line)
adds_judged (Err (Broken kind)) rules before line judged = judged
adds_judged (Err NoRoom) rules before line judged = tt

-- a line that is judged and put behind the others is taken, and one with a fault isn't
pub put_is_taken : {S : Type 0} (follow : S → Statement → S) (result : Result Unit LineFault) (rules : List (BadKind × Bool)) (before wanted after : S) (said : Statement) → IsJudgedBy follow (Ok said) rules before wanted
    → IsPut result (follow before said) after → IsTaken result rules wanted after
put_is_taken follow (Ok u) rules before wanted after said judged put = (judged.0, put ∙ judged.1)
put_is_taken follow (Err (Broken kind)) rules before wanted after said judged put = absurd cc
put_is_taken follow (Err NoRoom) rules before wanted after said judged put = tt

pub fault_is_taken : {S : Type 0} (follow : S → Statement → S) (fault : LineFault) (rules : List (BadKind × Bool)) (before wanted after : S) → IsJudgedBy follow (Err fault) rules before wanted → IsTaken (Err fault) rules wanted after
fault_is_taken follow (Broken kind) rules before wanted after judged = judged
fault_is_taken follow NoRoom rules before wanted after judged = tt

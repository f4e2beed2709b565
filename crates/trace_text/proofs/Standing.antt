-- What a line says that keeps its rules may stand where the line stands, and names one of eight processors.
use Rattle.std.proofs.Common.{◌≡◌, ℕ, ◌≤◌, Bool, true, false, cond, List, [], drop, Option, Some, None, Result, Ok, Err, sym, subst, arith}
use Rattle.std.specs.Prelude.{IfOk, IfSome}
use Rattle.std.specs.Option.{unwrap_or}
use Rattle.std.specs.List.{list_all}
use Rattle.std.proofs.lemmas.Bool.{ltb-true, not-true}
use Rattle.text_lines.specs.Lines.{is_skipped}
use Rattle.text_lines.specs.Words.{words_of}
use Rattle.trace_text.specs.declared.fault.BadKind.{BadKind}
use Rattle.trace_text.specs.declared.fault.BadKind.TheVariants as bad
use Rattle.trace_text.specs.declared.fault.LineFault.{LineFault}
use Rattle.trace_text.specs.declared.item.Item.{Item}
use Rattle.trace_text.specs.declared.line_kind.LineKind.{LineKind}
use Rattle.trace_text.specs.declared.line_kind.LineKind.TheVariants as kind
use Rattle.trace_text.specs.declared.statement.Statement.{Statement}
use Rattle.trace_text.specs.declared.statement.Statement.TheVariants as says
use Rattle.trace_text.specs.Judging.{Judged}
use Rattle.trace_text.specs.Limits.{SceneState, first_broken}
use Rattle.trace_text.specs.Plain.{SaysItem}
use Rattle.trace_text.specs.Rules.{is_text_byte, kind_named, rules_at, rules_in, rules_of_words, said_by, said_by_words, said_in, word}
use Rattle.trace_text.specs.Statement.{HasFewCpus, IsInPlace, closed_if}
use Rattle.trace_text.proofs.SoundLaws.{AreKept, are_kept, one_kept}
use Rattle.trace_text.proofs.SoundWords.{within}

-- it may stand here, and has few processors
pub record Stands (scene : SceneState) (said : Statement) : Type 0 where
  pub place : IsInPlace scene said
  pub few : HasFewCpus said

by_kind : (kind : LineKind) (natives : List (List ℕ)) (scene : SceneState) (ws : List (List ℕ)) → scene.cpus ≤ 8 → AreKept (rules_in kind natives scene ws) → Stands scene (said_by kind ws)
by_kind kind.Boot natives scene ws few (first, (_, (_, (_, (cpus, _))))) = record { place = not-true _ first; few = (within 1 8 _ cpus).1 }
by_kind kind.Ta natives scene ws few (booted, (opened, _)) = record { place = record { booted = booted; is_open = opened }; few = tt }
by_kind kind.Mem natives scene ws few (booted, (opened, _)) = record { place = record { booted = booted; is_open = opened }; few = tt }
by_kind kind.Key natives scene ws few (booted, (opened, _)) = record { place = record { booted = booted; is_open = opened }; few = tt }
by_kind kind.Smc natives scene ws few (booted, (_, (_, (_, (_, (there, _)))))) = record { place = booted; few = omega (arith, few, ltb-true _ _ there) }
by_kind kind.Enter natives scene ws few (booted, (_, (_, (_, (_, (there, _)))))) = record { place = booted; few = omega (arith, few, ltb-true _ _ there) }
by_kind kind.Leave natives scene ws few (booted, (_, (there, _))) = record { place = booted; few = omega (arith, few, ltb-true _ _ there) }
by_kind kind.Write natives scene ws few (booted, (_, (_, (_, (_, (there, _)))))) = record { place = booted; few = omega (arith, few, ltb-true _ _ there) }
by_kind kind.Show natives scene ws few (booted, (_, (_, (_, (_, (_, (there, _))))))) = record { place = booted; few = omega (arith, few, ltb-true _ _ there) }

by_words : (skipped : Bool) (named : Option LineKind) (natives : List (List ℕ)) (scene : SceneState) (words : List (List ℕ)) → scene.cpus ≤ 8 → first_broken (cond skipped [] (rules_of_words named natives scene words)) ≡ None
    → Stands scene (cond skipped says.Blank (said_by_words named words))
by_words true named natives scene words few e = record { place = tt; few = tt }
by_words false None natives scene words few e = absurd cc
by_words false (Some kind) natives scene words few e = by_kind kind natives scene (drop 1 words) few (are_kept (rules_of_words (Some kind) natives scene words) e).1

by_line : (natives : List (List ℕ)) (scene : SceneState) (line : List ℕ) → scene.cpus ≤ 8 → first_broken (rules_at natives scene true line) ≡ None → Stands scene (said_in line)
unfolding said_in
by_line natives scene line few e =
    let words = words_of line in
    let named = kind_named (word words 0) in
    let p = one_kept bad.Byte (list_all is_text_byte line) (first_broken (cond (is_skipped line) [] (rules_of_words named natives scene words))) e in
    by_words (is_skipped line) named natives scene words few p.1

-- ---- what is judged

-- the clauses of the judge
pub record IsJudgedSo (scene : SceneState) (rules : List (BadKind × Bool)) (line : List ℕ) (result : Result Statement LineFault) : Type 0 where
  pub judged : Judged (λ (s : Statement). s) result rules (said_in line)
  pub in_place : IfOk result (IsInPlace scene)
  pub few : IfOk result HasFewCpus

pub judged_so : (natives : List (List ℕ)) (scene : SceneState) (line : List ℕ) (result : Result Statement LineFault) → scene.cpus ≤ 8 → Judged (λ (s : Statement). s) result (rules_at natives scene true line) (said_in line)
    → IsJudgedSo scene (rules_at natives scene true line) line result
judged_so natives scene line (Ok said) few judged =
    let stands = by_line natives scene line few judged.0 in
    record {
      judged = judged;
      in_place = subst (λ (s : Statement). IsInPlace scene s) (sym judged.1) stands.place;
      few = subst (λ (s : Statement). HasFewCpus s) (sym judged.1) stands.few;
    }
judged_so natives scene line (Err fault) few judged = record { judged = judged; in_place = tt; few = tt }

pub item_judged_so : (natives : List (List ℕ)) (scene : SceneState) (is_closed : Bool) (line : List ℕ) (i : Item) → scene.cpus ≤ 8 → SaysItem scene line i
    → IsJudgedSo (closed_if is_closed scene) (rules_at natives (closed_if is_closed scene) true line) line (Ok (says.Item i))
item_judged_so natives scene is_closed line i few item =
    judged_so natives (closed_if is_closed scene) line (Ok (says.Item i)) few (item.kept natives (closed_if is_closed scene).is_open, sym item.said)

pub few_cpus : (cpus : Option ℕ) → IfSome cpus (λ n. n ≤ 8) → unwrap_or cpus 0 ≤ 8
few_cpus None few = omega arith
few_cpus (Some n) few = few

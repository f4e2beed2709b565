-- A journal has no more records than bytes, and a fault no place behind them.
use Rattle.std.proofs.Common.{◌≡◌, ℕ, zero, suc, ◌+◌, ◌≤◌, inl, inr, List, [], ◌∷◌, length, drop, length-drop, None, ap, arith}
use Rattle.journal_bytes.proofs.Shrinks.{shorter}
use Rattle.journal_bytes.specs.Grammar.{IsFirstFault, Leads, Spells, Whole}
use Rattle.journal_bytes.specs.Record.{kind_tagged}
use Rattle.journal_bytes.specs.Recording.{Told, nothing}
use Rattle.journal_bytes.specs.Rules.{after_record, behind_record, record_rules}
use Rattle.trace_text.specs.Limits.{first_broken}
use Rattle.trace_text.specs.declared.fault.BadKind.{BadKind}
use Rattle.journal_runner.specs.Reading.{IsFaultAlone}

-- a record that keeps its rules has a byte at least
some_byte : (natives : List (List ℕ)) (before : Told) (bytes : List ℕ) → first_broken (record_rules natives before bytes) ≡ None
    → length (behind_record bytes) + 1 ≤ length bytes
unfolding record_rules kind_tagged
some_byte natives before [] kept = absurd cc
some_byte natives before (tag ∷ body) kept = let less = shorter tag body in omega (arith, less)

leads_few : (natives : List (List ℕ)) (before : Told) (bytes : List ℕ) (count : ℕ) (after : Told) (rest : List ℕ)
    → Leads natives before bytes count after rest → count + length rest ≤ length bytes
leads_few natives before bytes zero after rest leads =
    let same = ap (λ (b : List ℕ). length b) leads.1 in omega (arith, same)
leads_few natives before bytes (suc count) after rest leads =
    let first = some_byte natives before bytes leads.0 in
    let others = leads_few natives (after_record before bytes) (behind_record bytes) count after rest leads.1 in
    omega (arith, first, others)

pub few_records : (natives : List (List ℕ)) (bytes : List ℕ) (whole : Whole) → Spells natives bytes whole
    → whole.records ≤ length bytes
few_records natives bytes whole spells =
    let few = leads_few natives nothing (drop 4 bytes) spells.count _ _ spells.spelled in
    let records = spells.records_is in
    omega (arith, few, records, length-drop 4 bytes)

early_fault : (natives : List (List ℕ)) (bytes : List ℕ) (place : ℕ) (kind : BadKind) → IsFirstFault natives bytes place kind
    → place ≤ length bytes + 1
early_fault natives bytes place kind (inl magic) = let first = magic.0 in omega (arith, first)
early_fault natives bytes place kind (inr fault) =
    let few = leads_few natives nothing (drop 4 bytes) fault.count fault.before fault.rest fault.kept in
    let place_is = fault.place_is in
    omega (arith, few, place_is, length-drop 4 bytes)

pub early_place : (natives : List (List ℕ)) (bytes : List ℕ) (place : ℕ) (kind : BadKind) → IsFaultAlone natives bytes place kind
    → place ≤ length bytes + 1
early_place natives bytes place kind (inl fault) = early_fault natives bytes place kind fault
early_place natives bytes place kind (inr more) =
    let few = few_records natives bytes more.whole more.spelled in
    let place_is = more.place_is in
    omega (arith, few, place_is)

-- The bytes of traces have one meaning, and what reading them answers.
use Rattle.std.proofs.Common.{◌≡◌, ℕ, ◌-◌, ◌<◌, ◌≤◌, List, [], ◌∷◌, length, drop, length-drop, Option, Some, None, Result, inl, inr, ⊎_elim, refl, sym, subst, ap, ◌∙◌, arith}
use Rattle.trace_text.specs.declared.fault.BadKind.{BadKind}
use Rattle.trace_text.specs.declared.fault.TraceFault.{TraceFault}
use Rattle.trace_text.specs.declared.trace.Trace.{Trace}
use Rattle.trace_text.specs.Limits.{Front, end_fault, first_broken, no_front, trace_in}
use Rattle.trace_bin.specs.declared.record_kind.RecordKind.{RecordKind}
use Rattle.trace_bin.specs.Record.{body_len, kind_tagged}
use Rattle.trace_bin.specs.Records.{HasRecords, IsWhole}
use Rattle.trace_bin.specs.Rules.{behind_kind, behind_record, kind_of, record_rules}
use Rattle.trace_text.specs.Sound.{IsSound}
use Rattle.trace_text.proofs.Answered.{Clauses, IsTrue}
use Rattle.trace_text.proofs.Answered as answered
use Rattle.base.proofs.Numbers.{IsBytes}
use Rattle.trace_bin.proofs.RecordLaws.{has_meaning, not_both, one_end, one_fault}
use Rattle.trace_bin.proofs.SoundRecords.{IsSound-spelled}
use Rattle.trace_bin.specs.Grammar.{AllBytes, fault_at, IsFirstFault, Leads, magic_fault, Spells, trace_records}

-- ---- records

no_record : (natives : List (List ℕ)) (before : Front) → first_broken (record_rules natives before []) ≡ None → ⊥
unfolding record_rules kind_tagged
no_record natives before kept = absurd cc

none_kept : (natives : List (List ℕ)) (before : Front) (rest : List ℕ) (kind : BadKind) → fault_at natives before rest ≡ Some kind → first_broken (record_rules natives before rest) ≡ None → ⊥
none_kept natives before [] kind fault kept = no_record natives before kept
none_kept natives before (b ∷ bytes) kind fault kept = let both : Some kind ≡ None = sym fault ∙ kept in absurd cc

-- what stands behind a record is shorter than what stands from it on
shorter : (b : ℕ) (bytes : List ℕ) → length (behind_record (b ∷ bytes)) ≤ length bytes
unfolding behind_record
shorter b bytes = by_kind (kind_of (b ∷ bytes)) bytes
  where
    by_kind : (kind : Option RecordKind) (body : List ℕ) → length (behind_kind kind body) ≤ length body
    by_kind None body = omega arith
    by_kind (Some kind) body = omega (arith, length-drop (body_len kind body) body)

some_bytes : (natives : List (List ℕ)) (before : Front) (rest : List ℕ) → first_broken (record_rules natives before rest) ≡ None → length (behind_record rest) < length rest
some_bytes natives before [] kept = absurd (no_record natives before kept)
some_bytes natives before (b ∷ bytes) kept = let less = shorter b bytes in omega (arith, less)

has_records : (natives : List (List ℕ)) → HasRecords (trace_records natives)
has_records natives = record { faulty = none_kept natives; shorter = some_bytes natives }

-- ---- one meaning

whole_of : (natives : List (List ℕ)) (bytes : List ℕ) (trace : Trace) (s : Spells natives bytes trace) → IsWhole (trace_records natives) bytes s.count s.end []
whole_of natives bytes trace s = record { begins = s.begins; leads = s.spelled; no_fault = s.no_end_fault; no_record = no_record natives s.end }

one_trace : (natives : List (List ℕ)) (bytes : List ℕ) (one other : Trace) → Spells natives bytes one → Spells natives bytes other → one ≡ other
one_trace natives bytes one other s t =
    let end = one_end (trace_records natives) bytes s.count t.count s.end t.end [] [] (whole_of natives bytes one s) (whole_of natives bytes other t) in
    sym s.trace_is ∙ ap (λ (f : Front). trace_in f) end.state ∙ t.trace_is

spelled_by : (natives : List (List ℕ)) (bytes : List ℕ) (count : ℕ) (end : Front) (rest : List ℕ) → IsWhole (trace_records natives) bytes count end rest → (trace : Trace) × Spells natives bytes trace
spelled_by natives bytes count end [] w =
    (trace_in end, record { begins = w.begins; count = count; end = end; spelled = w.leads; trace_is = refl; no_end_fault = w.no_fault })
spelled_by natives bytes count end (b ∷ rest) w = absurd (w.no_record w.no_fault)

pub meaning : AllBytes
meaning natives bytes = record {
  spells_or_is_faulty = ⊎_elim (λ f. inl (spelled_by natives bytes f.count f.end f.rest f.whole)) (λ f. inr f) (has_meaning (trace_records natives) bytes (has_records natives));
  one_value = one_trace natives bytes;
  one_fault = one_fault (trace_records natives) bytes (has_records natives);
  not_both = λ trace place kind s f. not_both (trace_records natives) bytes s.count s.end [] place kind (has_records natives) (whole_of natives bytes trace s) f;
}

-- ---- answers

pub clauses : (natives : List (List ℕ)) (bytes : List ℕ) (result : Result Trace TraceFault) → IsBytes bytes → IsTrue (Spells natives bytes) (IsFirstFault natives bytes) result
    → Clauses (Spells natives bytes) (IsSound natives) (IsFirstFault natives bytes) result
clauses natives bytes result fit answer =
    answered.clauses (Spells natives bytes) (IsSound natives) (IsFirstFault natives bytes) result (meaning natives bytes) (λ trace s. IsSound-spelled natives bytes trace fit s) answer

-- where a record stands, its fault is that of what stands there
pub record_here : (natives : List (List ℕ)) (before : Front) (rest : List ℕ) → 0 < length rest → fault_at natives before rest ≡ first_broken (record_rules natives before rest)
record_here natives before [] some = absurd (omega arith)
record_here natives before (b ∷ bytes) some = refl

-- no record is left
pub ends : (natives : List (List ℕ)) (bytes : List ℕ) (place : ℕ) (before : Front) (rest : List ℕ) → magic_fault bytes ≡ None → rest ≡ [] → Leads natives no_front (drop 4 bytes) (place - 1) before rest → end_fault before ≡ None → Spells natives bytes (trace_in before)
ends natives bytes place before rest begins none so_far fine =
    let B : List ℕ → Type 0 = λ b. Leads natives no_front (drop 4 bytes) (place - 1) before b in
    record { begins = begins; count = place - 1; end = before; spelled = subst B none so_far; trace_is = refl; no_end_fault = fine }

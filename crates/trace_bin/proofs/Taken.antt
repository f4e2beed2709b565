-- The record in front, by its kind, its body and its length.
use Rattle.std.proofs.Common.{◌≡◌, ℕ, ◌-◌, List, drop, take, true, Some, None}
use Rattle.trace_text.specs.Limits.{Front, first_broken}
use Rattle.trace_bin.specs.declared.record_kind.RecordKind.{RecordKind}
use Rattle.trace_bin.specs.Record.{body_len, bytes_in, fixed_len, is_whole}
use Rattle.trace_bin.specs.Rules.{added, after_record, behind_record, kind_of, record_rules, rules_of}

-- the bytes behind the body's own
abbrev pub piece : List ℕ → ℕ → ℕ → List ℕ
piece body fixed len = take (len - fixed) (drop fixed body)

-- the bytes begin with a record of this kind: its body, and where its bytes begin and end in it
pub record FirstRecord (bytes body : List ℕ) (kind : RecordKind) (fixed len : ℕ) : Type 0 where
  pub body_is : body ≡ drop 1 bytes
  pub kind_is : Some kind ≡ kind_of bytes
  pub whole : is_whole kind body ≡ true
  pub fixed_is : fixed ≡ fixed_len kind
  pub len_is : len ≡ body_len kind body

piece_is : (bytes body : List ℕ) (kind : RecordKind) (fixed len : ℕ) → FirstRecord bytes body kind fixed len → piece body fixed len ≡ bytes_in kind body
piece_is bytes body kind fixed len front = rw (front.fixed_is, front.len_is)

pub kept : (natives : List (List ℕ)) (before : Front) (bytes body : List ℕ) (kind : RecordKind) (fixed len : ℕ) → FirstRecord bytes body kind fixed len
    → first_broken (rules_of kind natives before body (piece body fixed len)) ≡ None → first_broken (record_rules natives before bytes) ≡ None
unfolding record_rules
kept natives before bytes body kind fixed len front keeps =
    rw (← front.kind_is, ← front.body_is, front.whole, ← piece_is bytes body kind fixed len front) keeps

pub grown : (before after : Front) (bytes body : List ℕ) (kind : RecordKind) (fixed len : ℕ) → FirstRecord bytes body kind fixed len
    → after ≡ added kind before body (piece body fixed len) → after ≡ after_record before bytes
unfolding after_record
grown before after bytes body kind fixed len front is =
    rw (← front.kind_is, ← front.body_is, ← piece_is bytes body kind fixed len front) is

pub left : (bytes body rest : List ℕ) (kind : RecordKind) (fixed len : ℕ) → FirstRecord bytes body kind fixed len → rest ≡ drop len body → rest ≡ behind_record bytes
unfolding behind_record
left bytes body rest kind fixed len front is = rw (← front.kind_is, ← front.body_is, ← front.len_is) is

-- What reading answers, by its loop.
use Rattle.std.proofs.Common.{◌≡◌, ℕ, ◌+◌, ◌-◌, ◌^◌, ◌<◌, ◌≤◌, Bool, true, false, cond, eqb, List, [], ◌∷◌, length, drop, Option, Some, None, Result, Ok, Err, ◌⊎◌, inl, inr, refl, sym, subst, ap, ◌∙◌, arith}
use Rattle.std.specs.Prelude.{IfErr, IfOk, is_some, not, ◌==◌}
use Rattle.std.proofs.lemmas.Bool.{eqb-true}
use Rattle.base.proofs.Numbers.{IsBytes}
use Rattle.ta_isa.specs.declared.boot.Boot.{Boot}
use Rattle.event_journal.specs.Journal.{copied_bytes}
use Rattle.trace_text.specs.declared.fault.BadKind.{BadKind}
use Rattle.trace_text.specs.declared.fault.BadKind.TheVariants as bad
use Rattle.trace_text.specs.declared.fault.TraceFault.{TraceFault}
use Rattle.trace_text.specs.declared.fault.TraceFault.TheVariants.{Bad, Memory}
use Rattle.trace_text.specs.Limits.{first_broken}
use Rattle.trace_text.specs.Sound.{IsSoundBoot}
use Rattle.journal_bytes.specs.declared.reading.ReadJournal.{ReadJournal}
use Rattle.journal_bytes.specs.Record.{end_tag}
use Rattle.journal_bytes.specs.Recording.{nothing, Told}
use Rattle.journal_bytes.specs.Rules.{after_record, behind_record, record_rules}
use Rattle.journal_bytes.specs.Taking.{is_record}
use Rattle.journal_bytes.specs.Grammar.{end_fault, fault_at, IsFaultOf, IsFirstFault, IsReadUnlessMemory, IsRefusedUnlessMemory, Leads, magic_fault, Spells, Whole, whole_of}
use Rattle.journal_bytes.specs.Sound.{IsSoundJournal}
use Rattle.journal_bytes.proofs.GrammarLaws.{not_both, one_fault, one_journal}
use Rattle.journal_bytes.proofs.SoundRecords.{record_covered, spelled_within}
use Rattle.journal_bytes.proofs.Shrinks.{shorter}

-- what is read is spelled so, and a fault is the first one
abbrev pub IsAnswer : List (List ℕ) → List ℕ → Result ReadJournal TraceFault → Type 0
IsAnswer natives bytes (Ok read) = Spells natives bytes (whole_of read)
IsAnswer natives bytes (Err fault) = IsFaultOf natives bytes fault

-- the clauses of reading
pub record Clauses (natives : List (List ℕ)) (bytes : List ℕ) (result : Result ReadJournal TraceFault) : Type 0 where
  pub found : IfOk result (λ read. Spells natives bytes (whole_of read))
  pub only : (whole : Whole) → Spells natives bytes whole → IsReadUnlessMemory result whole
  pub bad : IfErr result (IsFaultOf natives bytes)
  pub refused : (place : ℕ) (kind : BadKind) → IsFirstFault natives bytes place kind → IsRefusedUnlessMemory result place kind
  pub boot : IfOk result (λ read. IsSoundBoot natives read.boot)
  pub journal : IfOk result (λ read. IsSoundJournal read.boot.cpus read.journal.events)

-- a fault that bytes have at a place is their first one
refused_by : (natives : List (List ℕ)) (bytes : List ℕ) (fault : TraceFault) → IsFaultOf natives bytes fault → (place : ℕ) (kind : BadKind) → IsFirstFault natives bytes place kind → (fault ≡ Bad place kind) ⊎ (fault ≡ Memory)
refused_by natives bytes (Bad at what) answer place kind fault =
    let same = one_fault natives bytes at what place kind answer fault in
    inl (ap (λ (n : ℕ). Bad n what) same.0 ∙ ap (λ (k : BadKind). Bad place k) same.1)
refused_by natives bytes Memory answer place kind fault = inr refl

spelled_by_none : (natives : List (List ℕ)) (bytes : List ℕ) (fault : TraceFault) → IsFaultOf natives bytes fault → (whole : Whole) → Spells natives bytes whole → fault ≡ Memory
spelled_by_none natives bytes (Bad place kind) answer whole spells = absurd (not_both natives bytes whole place kind spells answer)
spelled_by_none natives bytes Memory answer whole spells = refl

pub clauses : (natives : List (List ℕ)) (bytes : List ℕ) (result : Result ReadJournal TraceFault) → IsBytes bytes → length bytes ≤ 2 ^ 28 → IsAnswer natives bytes result → Clauses natives bytes result
clauses natives bytes (Ok read) fit few answer =
    let within = spelled_within natives bytes (whole_of read) fit few answer in
    record {
      found = answer;
      only = λ whole spells. one_journal natives bytes (whole_of read) whole answer spells;
      bad = tt;
      refused = λ place kind fault. not_both natives bytes (whole_of read) place kind answer fault;
      boot = within.boot;
      journal = within.journal;
    }
clauses natives bytes (Err fault) fit few answer = record {
  found = tt;
  only = spelled_by_none natives bytes fault answer;
  bad = answer;
  refused = refused_by natives bytes fault answer;
  boot = tt;
  journal = tt;
}

-- where a record stands, its fault is that of what stands there
no_end : (is_end : Bool) → not is_end ≡ true → is_end ≡ false
no_end true e = absurd cc
no_end false e = refl

pub record_here : (natives : List (List ℕ)) (before : Told) (rest : List ℕ) → is_record rest ≡ true → fault_at natives before rest ≡ first_broken (record_rules natives before rest)
record_here natives before [] here = absurd cc
record_here natives before (tag ∷ body) here =
    ap (λ (b : Bool). cond b (end_fault before) (first_broken (record_rules natives before (tag ∷ body)))) (no_end (tag == end_tag) here)

-- ---- the end

-- what stands behind a record is shorter, and covers the bytes that it tells were read
pub fewer : (rest : List ℕ) → is_record rest ≡ true → length (behind_record rest) < length rest
fewer [] here = absurd cc
fewer (tag ∷ body) here = omega (arith, shorter tag body)

pub covered_by : (before after : Told) (rest behind : List ℕ) → after ≡ after_record before rest → behind ≡ behind_record rest → copied_bytes after.events + length behind ≤ copied_bytes before.events + length rest
covered_by before after rest behind added cut =
    subst (λ (t : Told). copied_bytes t.events + length behind ≤ copied_bytes before.events + length rest) (sym added)
    (subst (λ (b : List ℕ). copied_bytes (after_record before rest).events + length b ≤ copied_bytes before.events + length rest) (sym cut) (record_covered before rest))

is_end : (ended : Bool) → not ended ≡ false → ended ≡ true
is_end true e = refl
is_end false e = absurd cc

-- the end stands here
end_here : (rest : List ℕ) → is_record rest ≡ false → eqb (length rest) 0 ≡ false → rest ≡ end_tag ∷ drop 1 rest
end_here [] none some = absurd cc
end_here (tag ∷ body) none some = ap (λ (t : ℕ). t ∷ body) (eqb-true tag end_tag (is_end (tag == end_tag) none))

-- and no boot before it
pub end_unbooted : (natives : List (List ℕ)) (before : Told) (rest : List ℕ) (kind : BadKind) → is_record rest ≡ false → eqb (length rest) 0 ≡ false → before.boot ≡ None → kind ≡ bad.Place → fault_at natives before rest ≡ Some kind
end_unbooted natives before rest kind none some unbooted is_place =
    ap (λ (r : List ℕ). fault_at natives before r) (end_here rest none some)
    ∙ ap (λ (o : Option Boot). cond (is_some o) None (Some bad.Place)) unbooted
    ∙ ap (λ (k : BadKind). Some k) (sym is_place)

-- or one
pub ends_well : (natives : List (List ℕ)) (bytes : List ℕ) (place : ℕ) (before : Told) (rest : List ℕ) (read : ReadJournal) → magic_fault bytes ≡ None → 1 ≤ place → Leads natives nothing (drop 4 bytes) (place - 1) before rest → is_record rest ≡ false → eqb (length rest) 0 ≡ false
    → before ≡ record { boot = Some read.boot; keyed = before.keyed; events = read.journal.events } → length rest ≤ length bytes → read.used ≡ length bytes + 1 - length rest → read.records ≡ place → Spells natives bytes (whole_of read)
ends_well natives bytes place before rest read begins first so_far none some told fits used records =
    let here = end_here rest none some in
    let L : Told → Type 0 = λ t. Leads natives nothing (drop 4 bytes) (place - 1) t (end_tag ∷ drop 1 rest) in
    let R : List ℕ → Type 0 = λ r. Leads natives nothing (drop 4 bytes) (place - 1) before r in
    let long : length rest ≡ length (end_tag ∷ drop 1 rest) = ap (λ (r : List ℕ). length r) here in
    record {
      begins = begins;
      count = place - 1;
      keyed = before.keyed;
      behind = drop 1 rest;
      spelled = subst L told (subst R here so_far);
      used_is = omega (arith, long, used, fits);
      records_is = omega (arith, first, records);
    }

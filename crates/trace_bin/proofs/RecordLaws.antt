-- Bytes have one meaning in a grammar of records: the records without a fault are the same, however they were found.
use Rattle.std.proofs.Common.{◌≡◌, ℕ, zero, suc, ◌+◌, ◌-◌, ◌≤◌, List, length, drop, length-drop, Option, Some, None, ◌⊎◌, inl, inr, refl, sym, subst, ap, ◌∙◌, arith}
use Rattle.trace_text.specs.declared.fault.BadKind.{BadKind}
use Rattle.trace_text.specs.declared.fault.LineFault.{LineFault}
use Rattle.trace_text.specs.declared.fault.LineFault.TheVariants.{Broken, NoRoom}
use Rattle.trace_text.specs.Grammar.{IsFaultBy}
use Rattle.trace_text.specs.Judging.{placed}
use Rattle.trace_bin.specs.Taking.{IsRefused}
use Rattle.trace_bin.specs.Records.{HasRecords, IsFaultBehind, IsFirstFault, IsWhole, Leads, RecordGrammar}

-- the fault of a record is that of equal bytes behind an equal state
same_fault : {S : Type 0} (g : RecordGrammar S) (one other : S) (bytes others : List ℕ) → one ≡ other → bytes ≡ others → g.record_fault one bytes ≡ g.record_fault other others
same_fault {S = S} g one other bytes others same is =
    ap (λ (t : S). g.record_fault t bytes) same ∙ ap (λ (b : List ℕ). g.record_fault other b) is

-- one more record
pub leads_one : {S : Type 0} (g : RecordGrammar S) (before : S) (bytes : List ℕ) (count : ℕ) (after : S) (rest : List ℕ) → Leads g before bytes count after rest → g.record_fault after rest ≡ None
    → Leads g before bytes (suc count) (g.after_record after rest) (g.behind_record rest)
leads_one {S = S} g before bytes zero after rest (same, is) kept = (
  same_fault g before after bytes rest same is ∙ kept,
  (ap (λ (t : S). g.after_record t bytes) same ∙ ap (λ (b : List ℕ). g.after_record after b) is, ap g.behind_record is),
)
leads_one g before bytes (suc count) after rest (first, more) kept =
    (first, leads_one g (g.after_record before bytes) (g.behind_record bytes) count after rest more kept)

-- ---- one meaning

pub record SameEnd {S : Type 0} (n m : ℕ) (one other : S) (rest others : List ℕ) : Type 0 where
  pub count : n ≡ m
  pub state : one ≡ other
  pub bytes : rest ≡ others

same_end : {S : Type 0} (g : RecordGrammar S) (before : S) (bytes : List ℕ) (n m : ℕ) (one other : S) (rest others : List ℕ) → Leads g before bytes n one rest → Leads g before bytes m other others
    → (g.record_fault one rest ≡ None → ⊥) → (g.record_fault other others ≡ None → ⊥) → SameEnd n m one other rest others
same_end g before bytes zero zero one other rest others (a, b) (c, d) stop stops = record { count = refl; state = sym a ∙ c; bytes = sym b ∙ d }
same_end g before bytes zero (suc m) one other rest others (a, b) (kept, more) stop stops =
    absurd (stop (sym (same_fault g before one bytes rest a b) ∙ kept))
same_end g before bytes (suc n) zero one other rest others (kept, more) (c, d) stop stops =
    absurd (stops (sym (same_fault g before other bytes others c d) ∙ kept))
same_end g before bytes (suc n) (suc m) one other rest others (kept, more) (_, others_more) stop stops =
    let end = same_end g (g.after_record before bytes) (g.behind_record bytes) n m one other rest others more others_more stop stops in
    record { count = ap (λ (k : ℕ). suc k) end.count; state = end.state; bytes = end.bytes }

pub one_end : {S : Type 0} (g : RecordGrammar S) (bytes : List ℕ) (n m : ℕ) (one other : S) (rest others : List ℕ) → IsWhole g bytes n one rest → IsWhole g bytes m other others → SameEnd n m one other rest others
one_end g bytes n m one other rest others s t = same_end g g.first (drop 4 bytes) n m one other rest others s.leads t.leads s.no_record t.no_record

fault_is : {S : Type 0} (g : RecordGrammar S) (n m : ℕ) (one other : S) (rest others : List ℕ) → SameEnd n m one other rest others → g.fault_at one rest ≡ g.fault_at other others
fault_is {S = S} g n m one other rest others end = ap (λ (b : S). g.fault_at b rest) end.state ∙ ap (λ (r : List ℕ). g.fault_at other r) end.bytes

behind_one : {S : Type 0} (g : RecordGrammar S) (bytes : List ℕ) (place : ℕ) (kind : BadKind) (other_place : ℕ) (other_kind : BadKind) → HasRecords g → IsFaultBehind g bytes place kind → IsFaultBehind g bytes other_place other_kind
    → (place ≡ other_place) × (kind ≡ other_kind)
behind_one g bytes place kind other_place other_kind has s t =
    let end = same_end g g.first (drop 4 bytes) s.count t.count s.before t.before s.rest t.rest s.kept t.kept (has.faulty s.before s.rest kind s.fault) (has.faulty t.before t.rest other_kind t.fault) in
    let both : Some kind ≡ Some other_kind = sym s.fault ∙ fault_is g s.count t.count s.before t.before s.rest t.rest end ∙ t.fault in
    (s.place_is ∙ ap (λ (k : ℕ). k + 1) end.count ∙ sym t.place_is, cc)

pub one_fault : {S : Type 0} (g : RecordGrammar S) (bytes : List ℕ) → HasRecords g → (place : ℕ) (kind : BadKind) (other_place : ℕ) (other_kind : BadKind)
    → IsFirstFault g bytes place kind → IsFirstFault g bytes other_place other_kind → (place ≡ other_place) × (kind ≡ other_kind)
one_fault g bytes has place kind other_place other_kind (inl (a, m)) (inl (b, n)) = let both : Some kind ≡ Some other_kind = sym m ∙ n in (a ∙ sym b, cc)
one_fault g bytes has place kind other_place other_kind (inl (a, m)) (inr t) = let both : Some kind ≡ None = sym m ∙ t.begins in absurd cc
one_fault g bytes has place kind other_place other_kind (inr s) (inl (b, n)) = let both : Some other_kind ≡ None = sym n ∙ s.begins in absurd cc
one_fault g bytes has place kind other_place other_kind (inr s) (inr t) = behind_one g bytes place kind other_place other_kind has s t

pub not_both : {S : Type 0} (g : RecordGrammar S) (bytes : List ℕ) (count : ℕ) (end : S) (rest : List ℕ) (place : ℕ) (kind : BadKind) → HasRecords g → IsWhole g bytes count end rest → IsFirstFault g bytes place kind → ⊥
not_both g bytes count end rest place kind has s (inl (a, m)) = let both : Some kind ≡ None = sym m ∙ s.begins in absurd cc
not_both g bytes count end rest place kind has s (inr t) =
    let same = same_end g g.first (drop 4 bytes) count t.count end t.before rest t.rest s.leads t.kept s.no_record (has.faulty t.before t.rest kind t.fault) in
    let both : None ≡ Some kind = sym s.no_fault ∙ fault_is g count t.count end t.before rest t.rest same ∙ t.fault in
    absurd cc

-- ---- every list of bytes

-- the records end without a fault, and so many bytes at most are left; or there is a first fault
pub record Found {S : Type 0} (g : RecordGrammar S) (bytes : List ℕ) : Type 0 where
  pub count : ℕ
  pub end : S
  pub rest : List ℕ
  pub whole : IsWhole g bytes count end rest
  pub fits : length rest ≤ length bytes

abbrev pub HasMeaning : {S : Type 0} → RecordGrammar S → List ℕ → Type 0
HasMeaning g bytes = Found g bytes ⊎ ((place : ℕ) × (kind : BadKind) × IsFirstFault g bytes place kind)

-- the records from here on, of which there are fewer than this
from_here : {S : Type 0} (g : RecordGrammar S) (bytes : List ℕ) (most count : ℕ) (before : S) (rest : List ℕ) → HasRecords g → length rest + 1 ≤ most → length rest ≤ length bytes → g.begin_fault bytes ≡ None
    → Leads g g.first (drop 4 bytes) count before rest → HasMeaning g bytes
from_here g bytes zero count before rest has few fits begins kept = absurd (omega arith)
from_here g bytes (suc most) count before rest has few fits begins kept =
    by_fault (λ is.
    let less = has.shorter before rest is in
    from_here g bytes most (suc count) (g.after_record before rest) (g.behind_record rest) has (omega (arith, less, few)) (omega (arith, less, fits)) begins
    (leads_one g g.first (drop 4 bytes) count before rest kept is))
    (g.fault_at before rest) (g.record_fault before rest) refl refl
  where
    by_fault : (g.record_fault before rest ≡ None → HasMeaning g bytes) → (fault broken : Option BadKind) → g.fault_at before rest ≡ fault → g.record_fault before rest ≡ broken → HasMeaning g bytes
    by_fault onward (Some kind) broken fault is =
        inr (count + 1, kind, inr (record { begins = begins; count = count; before = before; rest = rest; kept = kept; place_is = refl; fault = fault }))
    by_fault onward None (Some kind) fine broken =
        let stop : g.record_fault before rest ≡ None → ⊥ = λ kept. let both : Some kind ≡ None = sym broken ∙ kept in absurd cc in
        inl (record { count = count; end = before; rest = rest; whole = record { begins = begins; leads = kept; no_fault = fine; no_record = stop }; fits = fits })
    by_fault onward None None fine is = onward is

pub has_meaning : {S : Type 0} (g : RecordGrammar S) (bytes : List ℕ) → HasRecords g → HasMeaning g bytes
has_meaning g bytes has = by_begin (g.begin_fault bytes) refl
  where
    by_begin : (fault : Option BadKind) → g.begin_fault bytes ≡ fault → HasMeaning g bytes
    by_begin None begins = from_here g bytes (length (drop 4 bytes) + 1) 0 g.first (drop 4 bytes) has (omega arith) (omega (arith, length-drop 4 bytes)) begins (refl, refl)
    by_begin (Some kind) fault = inr (0, kind, inl (refl, fault))

-- ---- reading record by record, where so many less one have no fault

-- the next place is that of what stands behind one more
pub goes_on : {S : Type 0} (g : RecordGrammar S) (bytes : List ℕ) (place : ℕ) (before after : S) (rest behind : List ℕ) → 1 ≤ place → Leads g g.first (drop 4 bytes) (place - 1) before rest
    → g.record_fault before rest ≡ None → after ≡ g.after_record before rest → behind ≡ g.behind_record rest → Leads g g.first (drop 4 bytes) (place + 1 - 1) after behind
goes_on {S = S} g bytes place before after rest behind some so_far kept added cut =
    let C : ℕ → Type 0 = λ n. Leads g g.first (drop 4 bytes) n after behind in
    let T : S → Type 0 = λ t. Leads g g.first (drop 4 bytes) (suc (place - 1)) t behind in
    let B : List ℕ → Type 0 = λ b. Leads g g.first (drop 4 bytes) (suc (place - 1)) (g.after_record before rest) b in
    let next : suc (place - 1) ≡ place + 1 - 1 = omega arith in
    subst C next (subst T (sym added) (subst B (sym cut) (leads_one g g.first (drop 4 bytes) (place - 1) before rest so_far kept)))

-- what stands behind them has a fault
pub ends_badly : {S : Type 0} (g : RecordGrammar S) (bytes : List ℕ) (place : ℕ) (before : S) (rest : List ℕ) (kind : BadKind) → g.begin_fault bytes ≡ None → 1 ≤ place → Leads g g.first (drop 4 bytes) (place - 1) before rest
    → g.fault_at before rest ≡ Some kind → IsFirstFault g bytes place kind
ends_badly g bytes place before rest kind begins some so_far fault =
    let at : place ≡ place - 1 + 1 = omega arith in
    inr (record { begins = begins; count = place - 1; before = before; rest = rest; kept = so_far; place_is = at; fault = fault })

-- a record has one, or memory ran out
pub stops : {S : Type 0} (g : RecordGrammar S) (bytes : List ℕ) (place : ℕ) (before : S) (rest : List ℕ) (fault : LineFault) → g.begin_fault bytes ≡ None → 1 ≤ place → Leads g g.first (drop 4 bytes) (place - 1) before rest
    → g.fault_at before rest ≡ g.record_fault before rest → IsRefused fault (g.record_fault before rest) → IsFaultBy (IsFirstFault g bytes) (placed place fault)
stops g bytes place before rest (Broken kind) begins some so_far is broken = ends_badly g bytes place before rest kind begins some so_far (is ∙ broken)
stops g bytes place before rest NoRoom begins some so_far is broken = tt

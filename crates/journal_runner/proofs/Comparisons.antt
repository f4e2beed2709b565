-- From two journals that were read to what is answered; and that bytes have one meaning.
use Rattle.std.proofs.Common.{◌≡◌, ℕ, inl, inr, List, Option, refl, sym, ap, subst, ◌∙◌}
use Rattle.std.specs.Prelude.{◌⊎◌, Err, IfErr, IfOk, Ok, Result}
use Rattle.compare_model.proofs.Comparisons.{one_comparison}
use Rattle.compare_model.proofs.Replies.{journals_are_answered_alone, same_gives_same_replies}
use Rattle.compare_model.specs.Comparing.{IsComparedAs}
use Rattle.compare_model.specs.declared.compared.Compared.{Compared}
use Rattle.compare_model.specs.declared.subject.Subject.{Subject}
use Rattle.journal_bytes.specs.Grammar.{Whole, whole_of}
use Rattle.kernel_model.specs.Application.{Native}
use Rattle.trace_player.specs.Starting.{uuids_of}
use Rattle.trace_text.specs.declared.fault.TraceFault.{TraceFault}
use Rattle.trace_text.specs.declared.fault.TraceFault.TheVariants.{Bad}
use Rattle.trace_text.specs.declared.fault.TraceFault.TheVariants as fault
use Rattle.word_parts.specs.Answer.{Writes}
use Rattle.word_parts.specs.Keeping.{Keeps}
use Rattle.word_parts.specs.Input.{IsTooLong}
use Rattle.word_parts.specs.Word.{Answered, HasOneMeaning, IsFaultOf, IsRefusedWhole, IsServedWhole}
use Rattle.word_parts.specs.declared.status.Status.{Status}
use Rattle.word_parts.specs.declared.status.Status.TheVariants.{Memory}
use Rattle.word_parts.specs.declared.status.Status.TheVariants as status
use Rattle.journal_runner.specs.Compares.{Compares}
use Rattle.journal_runner.specs.Comparing.{Comparison, SpellsCompared, compared_line, comparing, pair_of}
use Rattle.journal_runner.specs.Reading.{IsFaultOfPair, IsFaultOfPairOf, KeepsLimits, SpellsPair, WasReadPair}
use Rattle.journal_runner.specs.declared.reading.ReadPair.{ReadPair}
use Rattle.journal_runner.proofs.Ending.{ok_or_memory}
use Rattle.journal_runner.proofs.Meanings.{not_both_pair, same_first, same_second}

-- ---- reading and answering

-- what was read beside built-in applications of these UUIDs
pub was_read : (natives uuids : List (List ℕ)) (input : List ℕ) (read : Result ReadPair TraceFault) → uuids ≡ natives
    → IfOk read (λ pair. SpellsPair uuids input (whole_of pair.one) (whole_of pair.two))
    → IfOk read (λ pair. KeepsLimits uuids pair.one × KeepsLimits uuids pair.two) → IfOk read (WasReadPair natives input)
was_read natives uuids input (Ok read) same pair limits = record {
  pair = subst (λ (us : List (List ℕ)). SpellsPair us input (whole_of read.one) (whole_of read.two)) same pair;
  one = subst (λ (us : List (List ℕ)). KeepsLimits us read.one) same limits.0;
  two = subst (λ (us : List (List ℕ)). KeepsLimits us read.two) same limits.1;
}
was_read natives uuids input (Err fault) same pair limits = tt

pub was_refused : (natives : List Native) (subject : Subject) (uuids : List (List ℕ)) (input : List ℕ)
    (read : Result ReadPair TraceFault) → uuids ≡ uuids_of natives → IfErr read (IsFaultOfPairOf uuids input)
    → IfErr read (IsFaultOf (comparing natives subject) input)
was_refused natives subject uuids input (Ok read) same bad = tt
was_refused natives subject uuids input (Err (Bad place kind)) same bad =
    subst (λ (us : List (List ℕ)). IsFaultOfPair us input place kind) same bad
was_refused natives subject uuids input (Err fault.Memory) same bad = tt

-- what is written for two journals is what the word answers
pub answered_pair : (natives : List Native) (subject : Subject) (input : List ℕ) (comparison : Comparison) (result : Status)
    (old new : Option (List ℕ)) → SpellsCompared natives subject input comparison
    → Writes status.Ok (compared_line comparison.compared) result old new → Answered (comparing natives subject) input result old new
answered_pair natives subject input comparison result old new spelled written = inr (inr (record {
  content = comparison;
  spelled = spelled;
  known = tt;
  served = inr (λ never. never, inr written);
}))

-- ---- what was kept

-- two journals that the input spells are answered with what they show, or there is want of memory: else the input would spell nothing,
-- and so have a fault, which it hasn't
module _ (natives : List Native) (subject : Subject) (input : List ℕ) (left : Option (List ℕ)) (result : Status)
    (old new : Option (List ℕ)) (no_fault : Type 0)
    (kept : Keeps (comparing natives subject) input left result old new no_fault)
  where
    of_refused : (one two : Whole) → SpellsPair (uuids_of natives) input one two → (result ≡ Memory → ⊥)
        → IsRefusedWhole (comparing natives subject) input result old new ⊎ (result ≡ Memory) → ⊥
    of_refused one two pair fits (inl refused) =
        let bad = refused.1.1 in not_both_pair (uuids_of natives) input one two bad.0 bad.1 pair bad.2
    of_refused one two pair fits (inr memory) = fits memory

    of_served : (comparison : Comparison) → (result ≡ status.Ok → ⊥) → (result ≡ Memory → ⊥)
        → IsServedWhole (comparing natives subject) comparison result old new ⊎ (result ≡ Memory) → ⊥
    of_served comparison not_ok fits (inl served) = not_ok served.0
    of_served comparison not_ok fits (inr memory) = fits memory

    nothing_else : (one two : Whole) → SpellsPair (uuids_of natives) input one two → (IsTooLong input → ⊥) → no_fault
        → (result ≡ status.Ok → ⊥) → (result ≡ Memory → ⊥) → ⊥
    nothing_else one two pair short none not_ok fits =
        let nothing = λ (comparison : Comparison) (spelled : SpellsCompared natives subject input comparison).
        of_served comparison not_ok fits
        (kept.complete comparison (record { short = short; spelled = spelled; few = λ never. never; goes_on = refl }) none) in
        of_refused one two pair fits (kept.refuses (record { short = short; spells_nothing = nothing }) none)

    kept_complete : (one two : Whole) → SpellsPair (uuids_of natives) input one two → (IsTooLong input → ⊥) → no_fault
        → (result ≡ status.Ok) ⊎ (result ≡ Memory)
    kept_complete one two pair short none = ok_or_memory result (nothing_else one two pair short none)

pub kept_compares : (natives : List Native) (subject : Subject) (input : List ℕ) (left : Option (List ℕ)) (result : Status)
    (old new : Option (List ℕ)) (no_fault : Type 0) → Keeps (comparing natives subject) input left result old new no_fault
    → Compares natives subject input result old new no_fault
kept_compares natives subject input left result old new no_fault kept = record {
  ok = λ ok.
      let served = (kept.statuses.ok ok).1 in
      let comparison = served.0 in
      let pair = pair_of natives comparison.one comparison.two in
      record {
        comparison = comparison;
        spelled = served.1.spelled;
        line = served.2;
        same_replies = same_gives_same_replies pair subject comparison.compared served.1.spelled.is_compared;
        alone_in_one = journals_are_answered_alone.legal pair subject pair.one;
        alone_in_two = journals_are_answered_alone.legal pair subject pair.two;
      };
  complete = kept_complete natives subject input left result old new no_fault kept;
}

-- ---- one meaning

same_comparison : (a b : Comparison) → a.one ≡ b.one → a.two ≡ b.two → a.compared ≡ b.compared → a ≡ b
same_comparison a b one two compared =
    ap (λ (w : Whole). record { one = w; two = a.two; compared = a.compared }) one
    ∙ ap (λ (w : Whole). record { one = b.one; two = w; compared = a.compared }) two
    ∙ ap (λ (c : Compared). record { one = b.one; two = b.two; compared = c }) compared

-- bytes spell two journals, which show one thing of a session, or they have a fault, and not both
pub one_meaning : (natives : List Native) (subject : Subject) (input : List ℕ) → HasOneMeaning (comparing natives subject) input
one_meaning natives subject input = record {
  one_content = one_comparison_of;
  not_both = λ comparison place kind p fault.
      not_both_pair (uuids_of natives) input comparison.one comparison.two place kind p.pair fault;
}
  where
    one_comparison_of : (a b : Comparison) → SpellsCompared natives subject input a → SpellsCompared natives subject input b
        → a ≡ b
    one_comparison_of a b p q =
        let one = same_first (uuids_of natives) input a.one b.one a.two b.two p.pair q.pair in
        let two = same_second (uuids_of natives) input a.one b.one a.two b.two p.pair q.pair in
        same_comparison a b one two
        (one_comparison (pair_of natives a.one a.two) subject a.compared b.compared p.is_compared
        (subst (λ (w : Whole). IsComparedAs (pair_of natives w a.two) subject b.compared) (sym one)
        (subst (λ (w : Whole). IsComparedAs (pair_of natives b.one w) subject b.compared) (sym two) q.is_compared)))

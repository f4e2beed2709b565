-- From a journal that was read to what is answered; what was kept; and that bytes have one meaning.
use Rattle.std.proofs.Common.{◌≡◌, ℕ, inl, inr, List, Option, refl, sym, ap, subst, ◌∙◌}
use Rattle.std.specs.Prelude.{◌⊎◌, Err, IfErr, IfOk, Ok, Result}
use Rattle.audit_model.proofs.Prefixes.{one_verdict}
use Rattle.audit_model.specs.declared.verdict.Verdict.{Verdict}
use Rattle.journal_bytes.specs.Grammar.{Whole, whole_of}
use Rattle.journal_bytes.specs.declared.reading.ReadJournal.{ReadJournal}
use Rattle.kernel_model.specs.Application.{Native, booted}
use Rattle.trace_player.specs.Starting.{uuids_of}
use Rattle.trace_text.specs.declared.fault.TraceFault.{TraceFault}
use Rattle.trace_text.specs.declared.fault.TraceFault.TheVariants.{Bad}
use Rattle.trace_text.specs.declared.fault.TraceFault.TheVariants as fault
use Rattle.word_parts.specs.Answer.{Writes}
use Rattle.word_parts.specs.Input.{IsTooLong}
use Rattle.word_parts.specs.Keeping.{Keeps}
use Rattle.word_parts.specs.Word.{Answered, HasOneMeaning, IsFaultOf, IsRefusedWhole, IsServedWhole}
use Rattle.word_parts.specs.declared.status.Status.{Status}
use Rattle.word_parts.specs.declared.status.Status.TheVariants.{Memory}
use Rattle.word_parts.specs.declared.status.Status.TheVariants as status
use Rattle.journal_runner.specs.Auditing.{Audited, IsVerdictOn, SpellsAudited, auditing, line_for}
use Rattle.journal_runner.specs.Audits.{Audits}
use Rattle.journal_runner.specs.Reading.{IsFaultAlone, IsFaultAloneOf, KeepsLimits, SpellsAlone, WasReadAlone}
use Rattle.journal_runner.proofs.Ending.{ok_or_memory}
use Rattle.journal_runner.proofs.Meanings.{not_both_alone, same_alone}

-- ---- reading and answering

-- what was read beside built-in applications of these UUIDs
pub was_read : (natives uuids : List (List ℕ)) (input : List ℕ) (read : Result ReadJournal TraceFault) → uuids ≡ natives
    → IfOk read (λ journal. SpellsAlone uuids input (whole_of journal)) → IfOk read (KeepsLimits uuids)
    → IfOk read (WasReadAlone natives input)
was_read natives uuids input (Ok read) same alone limits = record {
  alone = subst (λ (us : List (List ℕ)). SpellsAlone us input (whole_of read)) same alone;
  limits = subst (λ (us : List (List ℕ)). KeepsLimits us read) same limits;
}
was_read natives uuids input (Err fault) same alone limits = tt

pub was_refused : (natives : List Native) (uuids : List (List ℕ)) (input : List ℕ) (read : Result ReadJournal TraceFault)
    → uuids ≡ uuids_of natives → IfErr read (IsFaultAloneOf uuids input) → IfErr read (IsFaultOf (auditing natives) input)
was_refused natives uuids input (Ok read) same bad = tt
was_refused natives uuids input (Err (Bad place kind)) same bad =
    subst (λ (us : List (List ℕ)). IsFaultAlone us input place kind) same bad
was_refused natives uuids input (Err fault.Memory) same bad = tt

-- the line of the verdict on a journal that stands alone is what the word answers
pub answered_alone : (natives : List Native) (input : List ℕ) (audited : Audited) (result : Status) (old new : Option (List ℕ))
    → SpellsAudited natives input audited → Writes status.Ok (line_for audited) result old new
    → Answered (auditing natives) input result old new
answered_alone natives input audited result old new spelled written = inr (inr (record {
  content = audited;
  spelled = spelled;
  known = tt;
  served = inr (λ never. never, inr written);
}))

-- ---- what was kept

-- a journal that the input spells alone is answered with the verdict on it, or there is want of memory: else the input would spell
-- nothing, and so have a fault, which it hasn't
module _ (natives : List Native) (input : List ℕ) (left : Option (List ℕ)) (result : Status) (old new : Option (List ℕ))
    (no_fault : Type 0) (kept : Keeps (auditing natives) input left result old new no_fault)
  where
    of_refused : (whole : Whole) → SpellsAlone (uuids_of natives) input whole → (result ≡ Memory → ⊥)
        → IsRefusedWhole (auditing natives) input result old new ⊎ (result ≡ Memory) → ⊥
    of_refused whole alone fits (inl refused) =
        let bad = refused.1.1 in not_both_alone (uuids_of natives) input whole bad.0 bad.1 alone bad.2
    of_refused whole alone fits (inr memory) = fits memory

    of_served : (audited : Audited) → (result ≡ status.Ok → ⊥) → (result ≡ Memory → ⊥)
        → IsServedWhole (auditing natives) audited result old new ⊎ (result ≡ Memory) → ⊥
    of_served audited not_ok fits (inl served) = not_ok served.0
    of_served audited not_ok fits (inr memory) = fits memory

    nothing_else : (whole : Whole) → SpellsAlone (uuids_of natives) input whole → (IsTooLong input → ⊥) → no_fault
        → (result ≡ status.Ok → ⊥) → (result ≡ Memory → ⊥) → ⊥
    nothing_else whole alone short none not_ok fits =
        let nothing = λ (audited : Audited) (spelled : SpellsAudited natives input audited).
        of_served audited not_ok fits
        (kept.complete audited (record { short = short; spelled = spelled; few = λ never. never; goes_on = refl }) none) in
        of_refused whole alone fits (kept.refuses (record { short = short; spells_nothing = nothing }) none)

    kept_complete : (whole : Whole) → SpellsAlone (uuids_of natives) input whole → (IsTooLong input → ⊥) → no_fault
        → (result ≡ status.Ok) ⊎ (result ≡ Memory)
    kept_complete whole alone short none = ok_or_memory result (nothing_else whole alone short none)

pub kept_audits : (natives : List Native) (input : List ℕ) (left : Option (List ℕ)) (result : Status) (old new : Option (List ℕ))
    (no_fault : Type 0) → Keeps (auditing natives) input left result old new no_fault
    → Audits natives input result old new no_fault
kept_audits natives input left result old new no_fault kept = record {
  ok = λ ok.
      let served = (kept.statuses.ok ok).1 in
      record { audited = served.0; spelled = served.1.spelled; line = served.2 };
  complete = kept_complete natives input left result old new no_fault kept;
}

-- ---- one meaning

same_audited : (one other : Audited) → one.whole ≡ other.whole → one.verdict ≡ other.verdict → one ≡ other
same_audited one other whole verdict =
    ap (λ (w : Whole). record { whole = w; verdict = one.verdict }) whole
    ∙ ap (λ (v : Verdict). record { whole = other.whole; verdict = v }) verdict

-- bytes spell one journal with nothing behind it, on which there is one verdict, or they have a fault, and not both
pub one_meaning : (natives : List Native) (input : List ℕ) → HasOneMeaning (auditing natives) input
one_meaning natives input = record {
  one_content = one_audited;
  not_both = λ audited place kind p fault. not_both_alone (uuids_of natives) input audited.whole place kind p.alone fault;
}
  where
    one_audited : (one other : Audited) → SpellsAudited natives input one → SpellsAudited natives input other → one ≡ other
    one_audited one other p q =
        let whole = same_alone (uuids_of natives) input one.whole other.whole p.alone q.alone in
        same_audited one other whole
        (one_verdict (booted one.whole.boot natives) one.whole.events one.verdict other.verdict p.is_verdict
        (subst (λ (w : Whole). IsVerdictOn natives w other.verdict) (sym whole) q.is_verdict))

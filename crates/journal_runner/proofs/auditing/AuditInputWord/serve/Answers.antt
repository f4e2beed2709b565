-- The journal can be checked, and what is written is the verdict on it.
use Rattle.std.proofs.Common.{List, ℕ, inl, refl, ap, subst, ◌∙◌}
use Rattle.native_tas.specs.Table.{entries}
use Rattle.ports.specs.PortLaws.{Appends-nil}
use Rattle.journal_bytes.specs.Grammar.{whole_of}
use Rattle.word_parts.specs.Answer.{Writes}
use Rattle.word_parts.specs.declared.status.Status.TheVariants as status
use Rattle.journal_runner.specs.Auditing.{verdict_line}
use Rattle.journal_runner.proofs.Audited.{answered_alone}
use Rattle.journal_runner.proofs.auditing.AuditInputWord.serve.Goals as goal

pub check-requires-clause-limits : goal.check-requires-clause-limits
check-requires-clause-limits g c =
    (c.read_boots_can_be_checked.ensures (entries c.args.natives.now) c.args.read.boot c.requires.1.limits.boot).limits

pub check-requires-clause-apart : goal.check-requires-clause-apart
check-requires-clause-apart g c =
    (c.read_boots_can_be_checked.ensures (entries c.args.natives.now) c.args.read.boot c.requires.1.limits.boot).apart

pub check-requires-clause-few : goal.check-requires-clause-few
check-requires-clause-few g c = c.requires.1.limits.journal.few_bytes

pub returns-in_default-clause-answered : goal.returns-in_default-clause-answered
returns-in_default-clause-answered g c = λ input read. inl (refl, Appends-nil (g.K.Sink.held c.args.out.now))

pub returns-in-Ok-verdict_line-clause-answered : goal.returns-in-Ok-verdict_line-clause-answered
returns-in-Ok-verdict_line-clause-answered g c = λ input read.
    answered_alone (entries c.args.natives.now) input (record { whole = whole_of c.args.read; verdict = c.in-Ok.verdict }) _ _ _
    (record { alone = read.alone; is_verdict = c.in-Ok.ensures })
    (subst (λ (line : List ℕ). Writes status.Ok line c.answer_line.result (g.K.Sink.held c.args.out.now)
    (g.K.Sink.held c.answer_line.new.out)) (c.as_slice.ensures.value ∙ c.in-Ok-verdict_line.ensures
    ∙ ap (λ (count : ℕ). verdict_line count c.in-Ok.verdict) c.len.ensures) c.answer_line.ensures.line)

pub returns-clause-answered : goal.returns-clause-answered
returns-clause-answered g c = λ input read. inl (refl, Appends-nil (g.K.Sink.held c.args.out.now))

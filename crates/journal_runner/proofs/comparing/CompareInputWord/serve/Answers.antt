-- The journals can be compared, and what is written is what they show.
use Rattle.std.proofs.Common.{List, ℕ, inl, refl, subst, ◌∙◌}
use Rattle.native_tas.specs.Table.{entries}
use Rattle.ports.specs.PortLaws.{Appends-nil}
use Rattle.journal_bytes.specs.Grammar.{whole_of}
use Rattle.word_parts.specs.Answer.{Writes}
use Rattle.word_parts.specs.declared.status.Status.TheVariants as status
use Rattle.journal_runner.proofs.Comparisons.{answered_pair}
use Rattle.journal_runner.proofs.comparing.CompareInputWord.serve.Goals as goal

pub compare_on-requires-clause-one : goal.compare_on-requires-clause-one
compare_on-requires-clause-one g c = record {
  boot = c.read_boots_can_be_checked.ensures (entries c.args.natives.now) c.args.read.one.boot c.requires.1.one.boot;
  few = c.requires.1.one.journal.few_bytes;
}

pub compare_on-requires-clause-two : goal.compare_on-requires-clause-two
compare_on-requires-clause-two g c = record {
  boot = c.read_boots_can_be_checked.ensures (entries c.args.natives.now) c.args.read.two.boot c.requires.1.two.boot;
  few = c.requires.1.two.journal.few_bytes;
}

pub returns-in_default-clause-answered : goal.returns-in_default-clause-answered
returns-in_default-clause-answered g c = λ input read. inl (refl, Appends-nil (g.K.Sink.held c.args.out.now))

pub returns-in-Ok-compared_line-clause-answered : goal.returns-in-Ok-compared_line-clause-answered
returns-in-Ok-compared_line-clause-answered g c = λ input read.
    answered_pair (entries c.args.natives.now) c.args.self.subject input
    (record { one = whole_of c.args.read.one; two = whole_of c.args.read.two; compared = c.in-Ok.compared }) _ _ _
    (record { pair = read.pair; is_compared = c.in-Ok.ensures.compared })
    (subst (λ (line : List ℕ). Writes status.Ok line c.answer_line.result (g.K.Sink.held c.args.out.now)
    (g.K.Sink.held c.answer_line.new.out)) (c.as_slice.ensures.value ∙ c.in-Ok-compared_line.ensures) c.answer_line.ensures.line)

pub returns-clause-answered : goal.returns-clause-answered
returns-clause-answered g c = λ input read. inl (refl, Appends-nil (g.K.Sink.held c.args.out.now))

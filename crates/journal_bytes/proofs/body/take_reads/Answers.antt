use Rattle.std.proofs.Common.{ℕ, ◌-◌, ◌++◌, ◌∷◌, [], drop, length-drop, ap, arith, ◌∙◌}
use Rattle.std.proofs.lemmas.List.{take_all}
use Rattle.ns_ram.specs.declared.read.Read.{Read}
use Rattle.journal_bytes.proofs.Listing.{goes_on}
use Rattle.journal_bytes.proofs.body.take_reads.Goals as goal

pub reads-preserved : goal.reads-preserved
reads-preserved c =
    let rest = c.reads.rest.now in
    let done = c.reads.reads.items in
    goes_on c.args.count c.reads.left (c.reads.left - 1) c.args.bytes.now rest _ done _ c.reads.invariant (omega (arith, c.reads-test.true)) c.in-Some.ensures.read.0
    (c.in_ok-push.ensures.items ∙ ap (λ (read : Read). done ++ read ∷ []) c.in_ok-read.ensures.read)
    (take_all _ _ (omega (arith, length-drop c.in-Some.len rest)) ∙ ap (λ (n : ℕ). drop n rest) c.in-Some.ensures.read.1)

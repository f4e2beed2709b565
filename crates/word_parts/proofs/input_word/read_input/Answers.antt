-- What is read is what the bytes spell; and where an input isn't served.
use Rattle.std.proofs.Common.{List, ℕ, subst}
use Rattle.std.proofs.lemmas.Result.{err_from_is_err_and}
use Rattle.word_parts.specs.BuiltIn.{built_in}
use Rattle.word_parts.specs.Word.{IsFaultOf, IsUnservedAs}
use Rattle.word_parts.proofs.Worded.{fault-refused, ran-read, ran-unread}
use Rattle.word_parts.proofs.input_word.read_input.Goals as goal

pub returns-in-Ok-clause-read : goal.returns-in-Ok-clause-read
returns-in-Ok-clause-read g c = (
  c.in_ok-bytes.bytes.items,
  c.in_ok-bytes.ensures.whole,
  subst (λ (bytes : List ℕ). g.W.InputWord.IsRead c.args.word (built_in c.args.natives.now) bytes c.in-Ok.content)
      c.as_slice.ensures.value c.in-Ok.ensures.read,
)

pub returns-clause-unserved : goal.returns-clause-unserved
returns-clause-unserved g c =
    let word = g.W.InputWord.word c.args.word (built_in c.args.natives.now) in
    let bytes = c.in_ok-bytes.bytes.items in
    let result = c.answer_fault.result in
    let old = g.K.Sink.held c.args.out.now in
    let new = g.K.Sink.held c.answer_fault.new.out in
    let bad =
    subst (λ (read : List ℕ). IsFaultOf word read c.in-Err.fault) c.as_slice.ensures.value c.in-Err.ensures.bad in
    ran-read (λ input. IsUnservedAs word input result old new) _ _ bytes result old new c.in_ok-bytes.ensures.whole
    (fault-refused word bytes c.in-Err.fault result old new (λ place kind is. subst (IsFaultOf word bytes) is bad)
    c.answer_fault.ensures.answered)

pub returns-in_err-bytes-clause-unserved : goal.returns-in_err-bytes-clause-unserved
returns-in_err-bytes-clause-unserved g c =
    let word = g.W.InputWord.word c.args.word (built_in c.args.natives.now) in
    let failed = err_from_is_err_and c.from_residual.result c.from_residual.ensures.1 in
    let status = c.in_err-bytes.field-0.0 in
    let held = g.K.Sink.held c.args.out.now in
    rw (failed.1, failed.2) (ran-unread (λ input. IsUnservedAs word input status held held) _ _ status held
    c.in_err-bytes.ensures.unread)

use Rattle.tee_storage.specs.Program.{now_at}
use Rattle.tee_storage.proofs.Leaving.{IsLeft-alone, takes_nothing}
use Rattle.tee_storage.proofs.state.answered.Goals as goal

pub returns-in-Created-clause-left : goal.returns-in-Created-clause-left
returns-in-Created-clause-left g c = λ taken.
    rw c.in-Created.is (λ _. IsLeft-alone taken (takes_nothing c.created.result.waits c.created.ensures.ready) (c.created.ensures.left taken (now_at (g.M.Span.bytes c.args.span.now) c.args.handles.now)))

pub returns-in-HeaderWritten-clause-left : goal.returns-in-HeaderWritten-clause-left
returns-in-HeaderWritten-clause-left g c = λ taken.
    rw c.in-HeaderWritten.is (λ _. IsLeft-alone taken (takes_nothing c.header_written.result.waits c.header_written.ensures.ready) (c.header_written.ensures.left taken (g.M.Span.bytes c.args.span.now)))

pub returns-in-Opened-clause-left : goal.returns-in-Opened-clause-left
returns-in-Opened-clause-left g c = λ taken.
    rw c.in-Opened.is (λ _. IsLeft-alone taken (takes_nothing c.file_opened.result.waits c.file_opened.ensures.ready) (c.file_opened.ensures.left taken (now_at (g.M.Span.bytes c.args.span.now) c.args.handles.now)))

pub returns-in-HeaderRead-clause-left : goal.returns-in-HeaderRead-clause-left
returns-in-HeaderRead-clause-left g c = λ taken.
    rw c.in-HeaderRead.is (λ _. IsLeft-alone taken (takes_nothing c.header_read.result.waits c.header_read.ensures.ready) (c.header_read.ensures.left taken (g.M.Span.bytes c.args.span.now)))

pub returns-in-ReadChecked-clause-left : goal.returns-in-ReadChecked-clause-left
returns-in-ReadChecked-clause-left g c = λ taken.
    rw c.in-ReadChecked.is (λ _. IsLeft-alone taken (takes_nothing c.read_checked.result.waits c.read_checked.ensures.ready) (c.read_checked.ensures.left taken (g.M.Span.bytes c.args.span.now)))

pub returns-in-TagWritten-clause-left : goal.returns-in-TagWritten-clause-left
returns-in-TagWritten-clause-left g c = λ taken.
    rw c.in-TagWritten.is (λ _. IsLeft-alone taken (takes_nothing c.tag_written.result.waits c.tag_written.ensures.ready) (c.tag_written.ensures.left taken (g.M.Span.bytes c.args.span.now)))

pub returns-in-NewHeaderWritten-clause-left : goal.returns-in-NewHeaderWritten-clause-left
returns-in-NewHeaderWritten-clause-left g c = λ taken.
    rw c.in-NewHeaderWritten.is (λ _. IsLeft-alone taken (takes_nothing c.header_written-in-NewHeaderWritten.result.waits c.header_written-in-NewHeaderWritten.ensures.ready) (c.header_written-in-NewHeaderWritten.ensures.left taken (g.M.Span.bytes c.args.span.now)))

pub returns-in-Closed-clause-left : goal.returns-in-Closed-clause-left
returns-in-Closed-clause-left g c = λ taken.
    rw c.in-Closed.is (λ _. IsLeft-alone taken (takes_nothing c.closed.result.waits c.closed.ensures.ready) (c.closed.ensures.left taken (g.M.Span.bytes c.args.span.now)))

pub returns-in-ClosedToDelete-clause-left : goal.returns-in-ClosedToDelete-clause-left
returns-in-ClosedToDelete-clause-left g c = λ taken.
    rw c.in-ClosedToDelete.is (λ _. IsLeft-alone taken (takes_nothing c.closed_to_delete.result.waits c.closed_to_delete.ensures.ready) (c.closed_to_delete.ensures.left taken (g.M.Span.bytes c.args.span.now) c.args.reply.now))

pub returns-in-Removed-clause-left : goal.returns-in-Removed-clause-left
returns-in-Removed-clause-left g c = λ taken.
    rw c.in-Removed.is (λ _. IsLeft-alone taken (takes_nothing c.removed.result.waits c.removed.ensures.ready) (c.removed.ensures.left taken (now_at (g.M.Span.bytes c.args.span.now) c.args.handles.now)))

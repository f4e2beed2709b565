use Rattle.std.proofs.Common.{[]}
use Rattle.tee_storage.specs.States.{Taken}
use Rattle.tee_storage.proofs.Leaving.{IsLeft-alone, takes_nothing}
use Rattle.tee_storage.proofs.state.begun.Goals as goal

pub returns-in-Create-clause-left : goal.returns-in-Create-clause-left
returns-in-Create-clause-left g c =
    let taken : Taken = record { key = c.args.key.now; content = [] } in
    rw c.in-Create.is (IsLeft-alone taken (takes_nothing c.begin.result.waits c.begin.ensures.ready) (c.begin.ensures.left taken))

pub returns-in-Opened-clause-left : goal.returns-in-Opened-clause-left
returns-in-Opened-clause-left g c =
    let taken : Taken = record { key = c.args.key.now; content = [] } in
    rw c.in-Opened.is (IsLeft-alone taken (takes_nothing c.begin-in-Opened.result.waits c.begin-in-Opened.ensures.ready) (c.begin-in-Opened.ensures.left taken))

pub returns-in-Seek-clause-left : goal.returns-in-Seek-clause-left
returns-in-Seek-clause-left g c =
    let taken : Taken = record { key = c.args.key.now; content = [] } in
    rw c.in-Seek.is (IsLeft-alone taken (takes_nothing c.seek.result.waits c.seek.ensures.ready) (c.seek.ensures.left taken (g.M.Span.bytes c.args.span.now)))

pub returns-in-Close-clause-left : goal.returns-in-Close-clause-left
returns-in-Close-clause-left g c =
    let taken : Taken = record { key = c.args.key.now; content = [] } in
    rw c.in-Close.is (IsLeft-alone taken (takes_nothing c.close.result.waits c.close.ensures.ready) (c.close.ensures.left taken (g.M.Span.bytes c.args.span.now)))

pub returns-in-Delete-clause-left : goal.returns-in-Delete-clause-left
returns-in-Delete-clause-left g c =
    let taken : Taken = record { key = c.args.key.now; content = [] } in
    rw c.in-Delete.is (IsLeft-alone taken (takes_nothing c.delete.result.waits c.delete.ensures.ready) (c.delete.ensures.left taken (g.M.Span.bytes c.args.span.now)))

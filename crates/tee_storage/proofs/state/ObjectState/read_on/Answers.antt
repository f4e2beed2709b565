use Rattle.std.proofs.Common.{List, ◌++◌, ◌∷◌, [], subst, sym}
use Rattle.base.specs.NumberMap.{NumberMap}
use Rattle.rpc_msgs.specs.Answer.{Replied}
use Rattle.tee_storage.specs.declared.handle.Handle.{Handle}
use Rattle.tee_storage.specs.declared.step.StorageStep.TheVariants.{Ask}
use Rattle.tee_storage.specs.declared.turn.Turn.{Turn}
use Rattle.tee_storage.specs.declared.waits.Waits.{Waits}
use Rattle.tee_storage.specs.declared.waits.Waits.TheVariants as waiting
use Rattle.tee_storage.specs.Program.{now_at}
use Rattle.tee_storage.specs.States.{Hashes, IsLeft, Taken, onward}
use Rattle.tee_storage.proofs.Standing.{one_answer_more, stands}
use Rattle.tee_storage.proofs.state.ObjectState.read_on.Goals as goal

pub returns-in-PieceRead-clause-stands : goal.returns-in-PieceRead-clause-stands
returns-in-PieceRead-clause-stands g c = λ call uuid key range objects then answers rpc payload before.
    let turn : Turn = record { waits = waiting.PieceRead c.read_on.new.transfer; step = Ask c.read_on.result [] } in
    let left =
    subst (λ (waits : Waits). (taken : Taken) (now : NumberMap Handle) → Hashes waits taken (g.M.Span.bytes c.args.span.now)
    → IsLeft (onward waits taken (now_at (g.M.Span.bytes c.args.span.now) now) c.args.reply.now) turn taken.key (now_at (g.M.Span.bytes c.read_on.new.span) now))
    (sym c.in-PieceRead.is) c.read_on.ensures.left
    in
    stands turn call uuid key range objects (answers ++ Replied c.args.reply.now ∷ []) _
    (now_at (g.M.Span.bytes c.read_on.new.span) then)
    (one_answer_more call uuid key range objects answers (Replied c.args.reply.now) _ before.left)
    (left (record { key = key; content = before.content }) then before.hashes)
    c.read_on.ensures.ready

pub returns-in-DataRead-clause-stands : goal.returns-in-DataRead-clause-stands
returns-in-DataRead-clause-stands g c = λ call uuid key range objects then answers rpc payload before.
    let turn : Turn = record { waits = waiting.DataRead c.read_on-in-DataRead.new.read; step = Ask c.read_on-in-DataRead.result [] } in
    let left =
    subst (λ (waits : Waits). (taken : Taken) (now : NumberMap Handle) → Hashes waits taken (g.M.Span.bytes c.args.span.now)
    → IsLeft (onward waits taken (now_at (g.M.Span.bytes c.args.span.now) now) c.args.reply.now) turn taken.key (now_at (g.M.Span.bytes c.read_on-in-DataRead.new.span) now))
    (sym c.in-DataRead.is) c.read_on-in-DataRead.ensures.left
    in
    stands turn call uuid key range objects (answers ++ Replied c.args.reply.now ∷ []) _
    (now_at (g.M.Span.bytes c.read_on-in-DataRead.new.span) then)
    (one_answer_more call uuid key range objects answers (Replied c.args.reply.now) _ before.left)
    (left (record { key = key; content = before.content }) then before.hashes)
    c.read_on-in-DataRead.ensures.ready

use Rattle.std.proofs.Common.{◌++◌, ◌∷◌, []}
use Rattle.rpc_msgs.specs.Answer.{Replied}
use Rattle.tee_storage.specs.Program.{now_at}
use Rattle.tee_storage.proofs.Standing.{one_answer_more, stands}
use Rattle.tee_storage.proofs.state.ObjectState.answer.Goals as goal

pub returns-clause-stands : goal.returns-clause-stands
returns-clause-stands g c = λ call uuid key range objects answers rpc payload before.
    let left = rw c.replace-waits.ensures.value at c.answered-turn.ensures.left in
    stands c.answered-turn.result call uuid key range objects (answers ++ Replied c.args.reply.now ∷ []) _
    (now_at (g.M.Span.bytes c.answered-turn.new.span) c.answered-turn.new.handles)
    (one_answer_more call uuid key range objects answers (Replied c.args.reply.now) _ before.left)
    (left (record { key = key; content = before.content }) before.hashes)
    c.answered-turn.ensures.ready

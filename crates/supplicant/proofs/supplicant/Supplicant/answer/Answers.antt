use Rattle.std.proofs.Common.{◌≡◌, List, ℕ, sym, subst}
use Rattle.std.specs.Prelude.{Result, Ok, Err, IfOk}
use Rattle.rpc_msgs.specs.declared.rpc.Rpc.{Rpc}
use Rattle.rpc_msgs.specs.declared.rpc.RpcReply.{RpcReply}
use Rattle.rpc_msgs.specs.Answer.{IsReplyTo}
use Rattle.supplicant.specs.Supplicant.{Storage, answered}
use Rattle.supplicant.proofs.Replying.{answer_kind}
use Rattle.supplicant.proofs.supplicant.Supplicant.answer.Goals as goal

of_kind : {E : Type 0} (s : Storage) (rpc : Rpc) (payload : List ℕ) (result : Result RpcReply E) →
    IfOk result (λ reply. reply ≡ (answered s rpc payload).reply) → IfOk result (λ reply. IsReplyTo rpc reply)
of_kind s rpc payload (Ok reply) is = subst (IsReplyTo rpc) (sym is) (answer_kind s rpc payload)
of_kind s rpc payload (Err e) is = tt

pub returns-clause-kind : goal.returns-clause-kind
returns-clause-kind c = of_kind c.args.self.now c.args.rpc.now c.args.payload.now c.reply_to.result c.reply_to.ensures.reply

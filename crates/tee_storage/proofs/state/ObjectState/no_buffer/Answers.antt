use Rattle.std.proofs.Common.{ap}
use Rattle.std.specs.Option.{option_map}
use Rattle.rpc_msgs.specs.Answer.{NoBuffer}
use Rattle.tee_storage.specs.ObjectCalls.{shown}
use Rattle.tee_storage.proofs.Standing.{one_answer_more}
use Rattle.tee_storage.proofs.state.ObjectState.no_buffer.Goals as goal

pub returns-clause-serves : goal.returns-clause-serves
returns-clause-serves c = λ call uuid key range now objects then answers rpc payload before.
    ap (option_map shown) (one_answer_more call uuid key range objects answers NoBuffer _ before.left)

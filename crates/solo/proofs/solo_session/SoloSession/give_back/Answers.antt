use Rattle.kernel_model.specs.Instances.{given_back}
use Rattle.kernel_state.specs.Calls.{bytes_of}
use Rattle.rpc_cont.specs.Conts.{kept_memory}
use Rattle.solo.proofs.GivenBack.{given_so}
use Rattle.solo.proofs.solo_session.SoloSession.give_back.Goals as goal

pub returns-clause-back : goal.returns-clause-back
returns-clause-back c =
    given_so c.args.self.now c.put_back.new.self c.remove_instance.new.self c.args.is_last
    (given_back (kept_memory bytes_of c.args.memory) c.args.objects) c.put_back.ensures.stays c.remove_instance.ensures.stays
    c.put_back.ensures.back c.remove_instance.ensures.goes

use Rattle.std.proofs.Common.{rules, ◌≡◌, true, false}
use Rattle.std.specs.Prelude.{is_some}
use Rattle.kernel_model.specs.Instances.{given_back}
use Rattle.kernel_state.specs.Calls.{bytes_of}
use Rattle.rpc_cont.specs.Conts.{kept_memory}
use Rattle.group_solo.proofs.GivenBack.{given_nowhere, given_there}
use Rattle.group_solo.proofs.group.GroupSolo.give_back.Goals as goal

pub returns-then-there-clause-back : goal.returns-then-there-clause-back
returns-then-there-clause-back c =
    let is : is_some c.at.result ≡ true = search rules in
    given_there c.args.self.now c.put_back.new.self c.remove_instance.new.self c.args.number c.args.is_last
    (given_back (kept_memory bytes_of c.args.memory) c.args.objects) c.at.result c.at.ensures is c.put_back.ensures.stays c.remove_instance.ensures.stays
    c.put_back.ensures.back c.remove_instance.ensures.goes

pub returns-else-there-clause-back : goal.returns-else-there-clause-back
returns-else-there-clause-back c =
    let is : is_some c.at.result ≡ false = search rules in
    given_nowhere c.args.self.now c.args.number c.args.is_last (given_back (kept_memory bytes_of c.args.memory) c.args.objects) c.at.result c.at.ensures is

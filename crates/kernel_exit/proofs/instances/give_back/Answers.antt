-- Where it goes, it is removed behind having been put back.
use Rattle.std.proofs.Common.{ap, sym, ◌∙◌, length, not, ◌&&◌, ◌||◌, Bool}
use Rattle.kernel_model.specs.Instances.{given_back}
use Rattle.kernel_model.specs.Kernel.{Tables}
use Rattle.kernel_model.specs.Sessions.{has_opened}
use Rattle.kernel_state.specs.Calls.{bytes_of}
use Rattle.kernel_state.specs.Setup.{booted_of_setup}
use Rattle.kernel_state.specs.Tables.{tables_of}
use Rattle.rpc_cont.specs.Conts.{kept_memory}
use Rattle.kernel_exit.specs.Ending.{without_instance}
use Rattle.kernel_exit.proofs.GivenBack.{given_away, is_there}
use Rattle.kernel_exit.proofs.Seen.{seen}
use Rattle.kernel_exit.proofs.instances.give_back.Goals as goal

pub returns-then-goes-clause-tables : goal.returns-then-goes-clause-tables
returns-then-goes-clause-tables c = λ call same.
    let memory = kept_memory bytes_of c.args.memory in
    let there = is_there (booted_of_setup c.args.setup.now) (seen c.args.tables.now.instances) c.args.number (length memory) c.requires.held in
    let opened = has_opened c.args.tables.now.sessions.kept c.args.number in
    let dead = ap (λ (b : Bool). c.args.is_last || (b && not opened)) c.is_dead-is_dead.ensures in
    let goes = sym dead ∙ sym c.is_removed-goes.ensures ∙ c.if-goes.true in
    c.remove_instance.ensures.tables ∙ ap (λ (t : Tables). without_instance t c.args.number) c.put_back.ensures.tables
    ∙ given_away (tables_of c.args.tables.now) call c.args.number c.args.is_last (given_back memory c.args.objects.now) same goes there

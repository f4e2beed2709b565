use Rattle.exit_pages.proofs.Covered.{exit_long, exit_stays}
use Rattle.exit_pages.proofs.exit.pages_of_exit.Goals as goal

pub returns-clause-stays : goal.returns-clause-stays
returns-clause-stays c = λ core exited lane can whole e.
    exit_stays c.pages_of_carried.result core c.args.ran.now exited lane c.pages_of_carried.ensures can whole e

pub returns-clause-long : goal.returns-clause-long
returns-clause-long c = λ core exited lane can whole e.
    exit_long c.pages_of_carried.result core c.args.ran.now exited lane c.pages_of_carried.ensures can whole e

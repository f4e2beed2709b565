use Rattle.kernel_entry.proofs.SettledCalls.{any_login}
use Rattle.kernel_entry.proofs.settling.settled_call.Goals as goal

pub returns : goal.returns
returns c boot tables settled uuid none =
    c.settled_with.ensures boot tables settled uuid (any_login c.public-login.result settled none)

-- The login of a call that is settled at its entry.
use Rattle.std.proofs.Common.{◌≡◌, ◌∙◌}
use Rattle.kernel_model.specs.Kernel.{ACancel, AnInvoke, AnOpen, SettledCall, Untold}
use Rattle.kernel_entry.specs.Applying.{HasItsLogin, IsNoOpen}
use Rattle.ta_params.specs.declared.login.Login.{Login}

-- an open has the one that it named
pub login_named : (login : Login) (settled : SettledCall) → HasItsLogin login settled → (named : Login)
    → settled ≡ AnOpen named → login ≡ named
login_named login Untold has named is = absurd cc
login_named login (AnOpen own) has named is = let same : own ≡ named = cc in has ∙ same
login_named login (AnInvoke func) has named is = absurd cc
login_named login ACancel has named is = absurd cc

-- what is no open has any
pub any_login : (login : Login) (settled : SettledCall) → IsNoOpen settled → HasItsLogin login settled
any_login login Untold none = tt
any_login login (AnOpen named) none = absurd none
any_login login (AnInvoke func) none = tt
any_login login ACancel none = tt

-- Granted steps leave a call its session's, and counting as before.
use Rattle.std.proofs.Common.{◌≡◌, ℕ, ◌==◌, List, Option, Some, None, refl, ap}
use Rattle.kernel_state.specs.Work.{IsCarriedOn}
use Rattle.kernel_state.specs.declared.carried.Carried.{Carried}
use Rattle.kernel_state.specs.declared.carried.Carried.TheVariants.{Nothing, Resting, Running}
use Rattle.rpc_cont.specs.declared.cont.Cont.{Cont}
use Rattle.rpc_cont.specs.declared.stop.ContStop.{ContStop}
use Rattle.realm_model.specs.Realm.{AllSessions, OneSession, Realm}
use Rattle.realm_notes.specs.Noted.{session_of}
use Rattle.realm_notes.specs.Realms.{counts, is_in_session}

pub session_on : (steps : ℕ) (before after : Carried) (why : Option ContStop) → IsCarriedOn steps before after why →
    session_of after ≡ session_of before
session_on steps Nothing after why on = ap session_of on.0
session_on steps (Resting cont) after why on = ap session_of on.0
session_on steps (Running before) (Running after) (Some why) on = ap (λ (cont : Cont (List ℕ)). cont.session) on.stays
session_on steps (Running before) (Running after) None on = absurd on
session_on steps (Running before) Nothing why on = absurd on
session_on steps (Running before) (Resting after) why on = absurd on

member_on : (session steps : ℕ) (before after : Carried) (why : Option ContStop) → IsCarriedOn steps before after why →
    is_in_session session after ≡ is_in_session session before
member_on session steps Nothing after why on = ap (is_in_session session) on.0
member_on session steps (Resting cont) after why on = ap (is_in_session session) on.0
member_on session steps (Running before) (Running after) (Some why) on =
    ap (λ (cont : Cont (List ℕ)). cont.session == session) on.stays
member_on session steps (Running before) (Running after) None on = absurd on
member_on session steps (Running before) Nothing why on = absurd on
member_on session steps (Running before) (Resting after) why on = absurd on

pub counts_on : (realm : Realm) (steps : ℕ) (before after : Carried) (why : Option ContStop) → IsCarriedOn steps before after why →
    counts realm after ≡ counts realm before
counts_on (OneSession member) steps before after why on = member_on member steps before after why on
counts_on (AllSessions app) steps before after why on = refl

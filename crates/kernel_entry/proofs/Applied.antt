-- A plan that was applied: what its slot is taken for.
use Rattle.std.proofs.Common.{◌≡◌, ℕ, List, Option, Some, refl, sym, subst, None}
use Rattle.std.specs.Option.{option_map_or}
use Rattle.base.specs.NumberMap.{get}
use Rattle.kernel_model.proofs.SoundMaps.{named_is}
use Rattle.kernel_model.specs.Application.{Booted}
use Rattle.kernel_model.specs.Decision.{Taken}
use Rattle.kernel_model.specs.Kernel.{Instance}
use Rattle.kernel_model.specs.NewCall as model
use Rattle.new_calls.specs.Applying.{IsInSession}
use Rattle.new_calls.specs.Deciding.{call_found, settled_of, taken_in_session}
use Rattle.new_calls.specs.declared.entered.Entered.{Entered}
use Rattle.new_calls.specs.declared.halt.Settled.{Settled}
use Rattle.new_calls.specs.declared.halt.Settled.TheVariants as settled
use Rattle.rpc_cont.specs.declared.cont.Cont.{Cont}
use Rattle.session_table.specs.declared.session.Session.{Session}
use Rattle.kernel_model.specs.Application.{Application}
use Rattle.kernel_state.specs.Calls.{IsCall}
use Rattle.kernel_state.specs.Tables.{tables_of}
use Rattle.kernel_state.specs.declared.tables.Tables.{Tables}
use Rattle.kernel_entry.specs.Applying.{IsTaken}

-- a test that failed leaves the tables as they were
pub settled_taken : (boot : Booted) (tables : Tables) (entered : Entered) (how : Settled) (cont : Cont (List ℕ)) →
    IsCall cont (settled_of (call_found boot (tables_of tables) entered) how).call →
    IsTaken None entered tables cont (settled_of (call_found boot (tables_of tables) entered) how)
settled_taken boot tables entered (settled.Call code) cont is = record { tables = refl; call = is; cancel_id = refl; marked = refl; cancels = refl }
settled_taken boot tables entered (settled.Open app login code) cont is = record { tables = refl; call = is; cancel_id = refl; marked = refl; cancels = refl }
settled_taken boot tables entered (settled.Invoke code) cont is = record { tables = refl; call = is; cancel_id = refl; marked = refl; cancels = refl }

-- what begins in a session, on the instance that is found there
pub in_session_taken : (c : model.NewCall) (session : Session) (app : Application) (entered : Entered) (after : Tables) (cont : Cont (List ℕ))
    (begins : Session × Instance → Taken) (there : IsInSession c session app) →
    IsTaken None entered after cont (begins (session, there.instance)) → IsTaken None entered after cont (taken_in_session c session begins)
in_session_taken c session app entered after cont begins there is =
    let found : get c.tables.instances session.instance ≡ Some there.instance = (named_is c (session, there.instance) there.named).instance in
    subst (λ (o : Option Instance). IsTaken None entered after cont (option_map_or (λ instance. begins (session, instance)) o (model.settles c 0xffff0006))) (sym found) is

pub found_there : (c : model.NewCall) (session : Session) (app : Application) (there : IsInSession c session app) →
    get c.tables.instances session.instance ≡ Some there.instance
found_there c session app there = (named_is c (session, there.instance) there.named).instance

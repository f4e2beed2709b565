-- What a call asks for as it goes out, as plain code tells it.
use Rattle.std.proofs.Common.{◌≡◌, ℕ, List, Option, Some, None, refl, sym, ap, ◌∙◌}
use Rattle.std.specs.Option.{option_and_then, option_map}
use Rattle.kernel_model.specs.Kernel.{CallPhase, Runs, Asks, Waits, Ends}
use Rattle.kernel_state.specs.Calls.{IsInPhase, woken_slot}
use Rattle.own_model.specs.declared.own_reply.OwnReply.TheVariants as reply
use Rattle.rpc_cont.specs.declared.cont.Asked.{Asked}
use Rattle.rpc_cont.specs.declared.cont.Cont.{Cont}
use Rattle.rpc_cont.specs.declared.phase.Phase.TheVariants as phase
use Rattle.solo.specs.GoingOut.{asked_in}

-- a call that runs asks for nothing
pub runs_told : (cont : Cont (List ℕ)) (at : CallPhase) → cont.phase ≡ phase.Runs → IsInPhase cont at → asked_in at ≡ None
runs_told cont (Runs job) here is = refl
runs_told cont (Asks job wanted payload) here is = let there = is.0 in absurd cc
runs_told cont (Waits params) here is = let there = is.phase in absurd cc
runs_told cont (Ends result params told wakes) here is = let there = is.phase in absurd cc

-- one that asks
pub asks_told : (cont : Cont (List ℕ)) (at : CallPhase) (asked : Asked) → cont.phase ≡ phase.Asks → cont.request ≡ Some asked → IsInPhase cont at →
    asked_in at ≡ Some (reply.Ask asked.rpc asked.payload)
asks_told cont (Runs job) asked here request is = let there = is.1.phase in absurd cc
asks_told cont (Asks job wanted payload) asked here request is =
    let same : Some (record { rpc = wanted; payload = payload }) ≡ Some asked = sym is.1.1 ∙ request in
    let it : Asked = record { rpc = wanted; payload = payload } in
    let one : it ≡ asked = cc in
    ap (λ (a : Asked). Some (reply.Ask a.rpc a.payload)) one
asks_told cont (Waits params) asked here request is = let there = is.phase in absurd cc
asks_told cont (Ends result params told wakes) asked here request is = let there = is.phase in absurd cc

pub asks_something : (cont : Cont (List ℕ)) (at : CallPhase) → cont.phase ≡ phase.Asks → cont.request ≡ None → IsInPhase cont at → ⊥
asks_something cont (Runs job) here none is = let there = is.1.phase in absurd cc
asks_something cont (Asks job wanted payload) here none is = let some = is.1.1 in absurd cc
asks_something cont (Waits params) here none is = let there = is.phase in absurd cc
asks_something cont (Ends result params told wakes) here none is = let there = is.phase in absurd cc

-- one that waits
pub waits_told : (cont : Cont (List ℕ)) (at : CallPhase) → cont.phase ≡ phase.Waits → IsInPhase cont at → asked_in at ≡ Some reply.Sleep
waits_told cont (Runs job) here is = let there = is.1.phase in absurd cc
waits_told cont (Asks job wanted payload) here is = let there = is.0 in absurd cc
waits_told cont (Waits params) here is = refl
waits_told cont (Ends result params told wakes) here is = let there = is.phase in absurd cc

-- one that has ended
pub ends_told : (cont : Cont (List ℕ)) (at : CallPhase) → cont.phase ≡ phase.Ends → IsInPhase cont at →
    asked_in at ≡ option_map (λ (number : ℕ). reply.Wake number) (option_and_then (λ (asked : Asked). woken_slot asked.rpc) cont.request)
ends_told cont (Runs job) here is = let there = is.1.phase in absurd cc
ends_told cont (Asks job wanted payload) here is = let there = is.0 in absurd cc
ends_told cont (Waits params) here is = let there = is.phase in absurd cc
ends_told cont (Ends result params told wakes) here is = ap (λ (w : Option ℕ). option_map (λ (number : ℕ). reply.Wake number) w) (sym is.wakes)

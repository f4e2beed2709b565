-- A call that has waited, as plain code that is tested again.
use Rattle.std.proofs.Common.{◌≡◌, ℕ, Bool, true, false, not, List, Option, Some, None, refl, sym, ap, subst, ◌∙◌}
use Rattle.std.specs.Prelude.{◌&&◌, if◌then◌else◌}
use Rattle.std.specs.Option.{option_map, option_map_or}
use Rattle.job_model.specs.declared.call_kind.CallKind.{CallKind}
use Rattle.job_model.specs.declared.call_kind.CallKind.TheVariants as kind
use Rattle.kernel_model.specs.Application.{Application}
use Rattle.kernel_model.specs.Codes.{bad_parameters, target_dead}
use Rattle.kernel_model.specs.Instances.{is_held}
use Rattle.kernel_model.specs.Kernel.{Asks, CallPhase, Ends, Instance, Runs, Waits}
use Rattle.kernel_model.specs.Resume.{is_close}
use Rattle.kernel_state.specs.Calls.{IsInPhase}
use Rattle.own_model.specs.InOrder.{Fits}
use Rattle.own_model.specs.Solo.{OwnCall, OwnSession, Solo, Waiting, begins, comes_back_in, gives_up, goes_on, home, retests, tests_again, waits_on, without_waiter}
use Rattle.own_model.specs.declared.own_event.BackInput.{BackInput}
use Rattle.rpc_cont.specs.declared.cont.Cont.{Cont}
use Rattle.rpc_cont.specs.declared.phase.Phase.TheVariants as phase
use Rattle.solo.specs.Beginning.{found_at, start_of}
use Rattle.solo.specs.Calls.{IsCall}
use Rattle.solo.specs.Standing.{ComesTo, IsBeside, without_calls}
use Rattle.solo.specs.declared.found.Found.{Found}
use Rattle.solo.specs.declared.solo_session.SoloSession.{SoloSession}
use Rattle.ta_params.specs.declared.copied_params.CopiedParams.{CopiedParams}

-- ---- it goes on

-- what it begins with has seen what the machine's has
pub goes_so : (app now : Application) (new : SoloSession) (old cont : Cont (List ℕ)) (solo : Solo) (w : Waiting) (at : OwnSession × Instance) (number : ℕ) →
    now ≡ app → w.number ≡ number → IsCall old w.call → ComesTo new cont number (without_waiter solo number)
    (begins now (without_waiter solo number) number w.call (start_of solo at w.params old)) → ComesTo new cont number solo (goes_on app solo w at)
goes_so app now new old cont solo w at number apps same is comes =
    let begun : ComesTo new cont number solo (goes_on now solo w at) =
    subst (λ (n : ℕ). ComesTo new cont number solo (begins now (without_waiter solo n) n w.call
    (record { session = at.0; instance = at.1; params = w.params; seen = w.call.seen; key = solo.key }))) (sym same)
    (subst (λ (seen : Bool). ComesTo new cont number solo (begins now (without_waiter solo number) number w.call
    (record { session = at.0; instance = at.1; params = w.params; seen = seen; key = solo.key }))) is.seen
    (record { beside = comes.beside; call = comes.call; is = comes.is; calls = comes.calls })) in
    subst (λ (a : Application). ComesTo new cont number solo (goes_on a solo w at)) apps begun

-- ---- what it finds

-- the session and the instance that the code finds at home
pub home_is : (s : SoloSession) (solo : Solo) → IsBeside s solo → home (without_calls s) ≡ home solo
home_is s solo beside = ap home (sym beside)

pub none_home : (s : SoloSession) (solo : Solo) → None ≡ option_map found_at (home (without_calls s)) → IsBeside s solo → home solo ≡ None
none_home s solo none beside = by (home (without_calls s)) refl none
  where
    by : (o : Option (OwnSession × Instance)) → home (without_calls s) ≡ o → None ≡ option_map found_at o → home solo ≡ None
    by None e is = sym (home_is s solo beside) ∙ e
    by (Some at) e is = absurd cc

-- what the code finds, with the flags that it tests
pub record FindsHome (solo : Solo) (found : Found) : Type 0 where
  pub at : OwnSession × Instance
  pub home : home solo ≡ Some at
  pub dead : found.dead ≡ at.1.dead
  pub held : found.held ≡ is_held at.1

pub some_home : (s : SoloSession) (solo : Solo) (found : Found) → Some found ≡ option_map found_at (home (without_calls s)) → IsBeside s solo →
    FindsHome solo found
some_home s solo found some beside = by (home (without_calls s)) refl some
  where
    by : (o : Option (OwnSession × Instance)) → home (without_calls s) ≡ o → Some found ≡ option_map found_at o → FindsHome solo found
    by None e is = absurd cc
    by (Some at) e is =
        let same : found ≡ found_at at = cc in record {
          at = at;
          home = sym (home_is s solo beside) ∙ e;
          dead = ap (λ (f : Found). f.dead) same;
          held = ap (λ (f : Found). f.held) same;
        }

-- ---- it is tested again

pub tested_none : (app : Application) (solo : Solo) (w : Waiting) → home solo ≡ None → retests app solo w ≡ gives_up solo w.number w.call bad_parameters
tested_none app solo w none =
    ap (λ (o : Option (OwnSession × Instance)). option_map_or (tests_again app solo w) o (gives_up solo w.number w.call bad_parameters)) none

tested_some : (app : Application) (solo : Solo) (w : Waiting) (at : OwnSession × Instance) → home solo ≡ Some at →
    retests app solo w ≡ tests_again app solo w at
tested_some app solo w at is =
    ap (λ (o : Option (OwnSession × Instance)). option_map_or (tests_again app solo w) o (gives_up solo w.number w.call bad_parameters)) is

-- of these three
abbrev tested : (dead held : Bool) (one two three : Solo) → Solo
tested dead held one two three = if dead then one else if held then two else three

-- the test is that of what was found
alike : (found_dead dead lost close : Bool) → found_dead ≡ dead → (found_dead && not close) ≡ lost → (dead && not close) ≡ lost
alike found_dead dead lost close same is = ap (λ (b : Bool). b && not close) (sym same) ∙ is

pub tested_dead : (app : Application) (solo : Solo) (w : Waiting) (found : Found) → FindsHome solo found → (found.dead && not (is_close w.call.kind)) ≡ true →
    retests app solo w ≡ gives_up solo w.number w.call target_dead
tested_dead app solo w found its lost =
    tested_some app solo w its.at its.home
    ∙ ap (λ (b : Bool). tested b (is_held its.at.1) (gives_up solo w.number w.call target_dead) (waits_on solo w) (goes_on app solo w its.at))
    (alike found.dead its.at.1.dead true (is_close w.call.kind) its.dead lost)

pub tested_held : (app : Application) (solo : Solo) (w : Waiting) (found : Found) → FindsHome solo found → (found.dead && not (is_close w.call.kind)) ≡ false →
    found.held ≡ true → retests app solo w ≡ waits_on solo w
tested_held app solo w found its fails held =
    tested_some app solo w its.at its.home
    ∙ ap (λ (b : Bool). tested b (is_held its.at.1) (gives_up solo w.number w.call target_dead) (waits_on solo w) (goes_on app solo w its.at))
    (alike found.dead its.at.1.dead false (is_close w.call.kind) its.dead fails)
    ∙ ap (λ (b : Bool). tested false b (gives_up solo w.number w.call target_dead) (waits_on solo w) (goes_on app solo w its.at)) (sym its.held ∙ held)

pub tested_free : (app : Application) (solo : Solo) (w : Waiting) (found : Found) → (its : FindsHome solo found) → (found.dead && not (is_close w.call.kind)) ≡ false →
    found.held ≡ false → retests app solo w ≡ goes_on app solo w its.at
tested_free app solo w found its fails free =
    tested_some app solo w its.at its.home
    ∙ ap (λ (b : Bool). tested b (is_held its.at.1) (gives_up solo w.number w.call target_dead) (waits_on solo w) (goes_on app solo w its.at))
    (alike found.dead its.at.1.dead false (is_close w.call.kind) its.dead fails)
    ∙ ap (λ (b : Bool). tested false b (gives_up solo w.number w.call target_dead) (waits_on solo w) (goes_on app solo w its.at)) (sym its.held ∙ free)

-- the same comes of it
pub comes_same : (s : SoloSession) (cont : Cont (List ℕ)) (number : ℕ) (solo first second : Solo) → second ≡ first → ComesTo s cont number solo first →
    ComesTo s cont number solo second
comes_same s cont number solo first second same comes = subst (ComesTo s cont number solo) (sym same) comes

-- ---- by its phase

fits_waits : (call_kind : CallKind) (params : CopiedParams) → Fits call_kind (Waits params) → call_kind ≡ kind.Settled → ⊥
fits_waits call_kind params fits same = subst (λ (k : CallKind). Fits k (Waits params)) same fits

retested_in : (app : Application) (now : SoloSession) (old new : Cont (List ℕ)) (solo next : Solo) (number : ℕ) (call : OwnCall) (input : BackInput) (at : CallPhase) →
    call.phase ≡ at → old.phase ≡ phase.Waits → IsInPhase old at → Fits call.kind at → comes_back_in app solo number call input at ≡ Some next →
    ((w : Waiting) → IsCall old w.call → w.call.phase ≡ Waits w.params → w.number ≡ number → w.input ≡ input → (w.call.kind ≡ kind.Settled → ⊥) →
    ComesTo now new number solo (retests app solo w)) → IsCall old call → ComesTo now new number solo next
retested_in app now old new solo next number call input (Runs job) same waits at fits e tested is = let runs = at.1.phase in absurd cc
retested_in app now old new solo next number call input (Asks job wanted payload) same waits at fits e tested is = let asks = at.0 in absurd cc
retested_in app now old new solo next number call input (Ends result params told wakes) same waits at fits e tested is = let ends = at.phase in absurd cc
retested_in app now old new solo next number call input (Waits params) same waits at fits e tested is =
    let w : Waiting = record { number = number; call = call; params = params; input = input } in
    let so : retests app solo w ≡ next = cc in
    subst (ComesTo now new number solo) so (tested w is same refl refl (fits_waits call.kind params fits))

-- a call that waits comes back so
pub retested : (app : Application) (now : SoloSession) (old new : Cont (List ℕ)) (solo next : Solo) (number : ℕ) (call : OwnCall) (input : BackInput) →
    old.phase ≡ phase.Waits → Fits call.kind call.phase → comes_back_in app solo number call input call.phase ≡ Some next →
    ((w : Waiting) → IsCall old w.call → w.call.phase ≡ Waits w.params → w.number ≡ number → w.input ≡ input → (w.call.kind ≡ kind.Settled → ⊥) →
    ComesTo now new number solo (retests app solo w)) → IsCall old call → ComesTo now new number solo next
retested app now old new solo next number call input waits fits e tested is =
    retested_in app now old new solo next number call input call.phase refl waits is.phase fits e tested is

-- with the number and what it was given as the code has them
pub waits_as : (solo : Solo) (w : Waiting) (number : ℕ) (input : BackInput) → w.number ≡ number → w.input ≡ input →
    waits_on solo w ≡ waits_on solo (record { number = number; call = w.call; params = w.params; input = input })
waits_as solo w number input numbers inputs =
    ap (λ (n : ℕ). waits_on solo (record { number = n; call = w.call; params = w.params; input = w.input })) numbers
    ∙ ap (λ (i : BackInput). waits_on solo (record { number = number; call = w.call; params = w.params; input = i })) inputs

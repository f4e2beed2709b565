-- Calls that come in to a session's code, and wait or begin.
use Rattle.std.proofs.Common.{◌⊎◌, inl, inr, ◌≡◌, ℕ, ◌+◌, Bool, true, false, List, [], ◌∷◌, ◌++◌, Option, Some, None, refl, sym, ap, subst, ◌∙◌}
use Rattle.std.proofs.lemmas.List.{length-append}
use Rattle.std.specs.Prelude.{length, slice_get, slice_set, if◌then◌else◌}
use Rattle.std.specs.Global.{Box}
use Rattle.std.specs.Option.{option_and_then, option_map_or}
use Rattle.base.specs.NumberMap.{get}
use Rattle.job_model.specs.declared.call_kind.CallKind.{CallKind}
use Rattle.job_model.specs.declared.call_kind.CallKind.TheVariants as kind
use Rattle.kernel_model.specs.Application.{Application, uuid_of}
use Rattle.kernel_model.specs.Codes.{bad_parameters, target_dead}
use Rattle.kernel_model.specs.Instances.{is_held}
use Rattle.kernel_model.specs.Kernel.{Instance, Waits}
use Rattle.own_model.proofs.InOrder.{by_numbers}
use Rattle.own_model.proofs.Maps.{get-insert-other, get-insert-same}
use Rattle.own_model.specs.Solo.{OwnCall, OwnSession, Solo, Start, begins, counted, fresh_call, home, invokes, invokes_with, made, opens, settles, start_with, waits, works_or_waits}
use Rattle.own_model.specs.declared.own_event.OwnInput.{OwnInput}
use Rattle.own_model.specs.declared.own_event.OwnInput.TheVariants as came
use Rattle.rpc_cont.specs.declared.cont.Cont.{Cont}
use Rattle.solo.proofs.Adding.{last_there, others_there}
use Rattle.solo.proofs.Begins.{kept_home}
use Rattle.solo.proofs.Onward.{FindsHome}
use Rattle.solo.proofs.Putting.{aside, found_call, put_back, was_there}
use Rattle.solo.specs.Calls.{IsCall}
use Rattle.solo.specs.Standing.{ComesTo, IsBeside, IsCallAt, StandsFor, app_in, instance_of, session_of, without_calls}
use Rattle.solo.specs.declared.found.Found.{Found}
use Rattle.solo.specs.declared.kept_instance.KeptInstance.{KeptInstance}
use Rattle.solo.specs.declared.kept_session.KeptSession.{KeptSession}
use Rattle.solo.specs.declared.solo_session.SoloSession.{SoloSession}
use Rattle.ta_params.specs.declared.copied_params.CopiedParams.{CopiedParams}
use Rattle.ta_params.specs.declared.login.Login.{Login}

-- a call that may be there
abbrev Kept : Type 0
Kept = Option (Box (Cont (List ℕ)))

-- ---- the line

-- where as many wait, it stands for what it did
pub line_same : (s new : SoloSession) (solo : Solo) → new ≡ record s { waiting = new.waiting } → new.waiting.items ≡ s.waiting.items →
    StandsFor s solo → StandsFor new solo
line_same s new solo stays same stands = record {
  beside = stands.beside ∙ sym (ap without_calls stays ∙ ap (λ (waiting : List ℕ). record (without_calls s) { waiting = waiting }) same);
  calls = λ number. subst (λ (n : SoloSession). IsCallAt (slice_get n.calls.items number) (get solo.calls number)) (sym stays) (stands.calls number);
}

-- one more waits
pub line_grows : (s new : SoloSession) (solo : Solo) (number : ℕ) → new ≡ record s { waiting = new.waiting } → new.waiting.items ≡ s.waiting.items ++ number ∷ [] →
    StandsFor s solo → StandsFor new (record solo { waiting = solo.waiting ++ number ∷ [] })
line_grows s new solo number stays after stands = record {
  beside = ap (λ (base : Solo). record base { waiting = base.waiting ++ number ∷ [] }) stands.beside
      ∙ sym (ap without_calls stays ∙ ap (λ (waiting : List ℕ). record (without_calls s) { waiting = waiting }) after);
  calls = λ at. subst (λ (n : SoloSession). IsCallAt (slice_get n.calls.items at) (get solo.calls at)) (sym stays) (stands.calls at);
}

-- the next number is the machine's
pub next_is : (s : SoloSession) (solo : Solo) (number : ℕ) → number ≡ length s.calls.items → StandsFor s solo → number ≡ solo.entered
next_is s solo number is stands = is ∙ sym (ap (λ (base : Solo). base.entered) stands.beside)

-- ---- a call that is taken out and put back

pub changes_so : (s taken now new : SoloSession) (solo next : Solo) (number : ℕ) (cont changed : Box (Cont (List ℕ))) (call : OwnCall) → StandsFor s solo →
    get solo.calls number ≡ Some call → Some cont ≡ option_and_then (λ (call : Kept). call) (slice_get s.calls.items number) →
    taken ≡ record s { calls = taken.calls } → taken.calls.items ≡ slice_set s.calls.items number None → now.calls ≡ taken.calls →
    (IsBeside taken solo → IsCall cont.value call → ComesTo now changed.value number solo next) →
    new ≡ record now { calls = new.calls } → new.calls.items ≡ slice_set now.calls.items number (Some changed) → StandsFor new next
changes_so s taken now new solo next number cont changed call stands there found stays out same comes kept put =
    let was : slice_get s.calls.items number ≡ Some (Some cont) = was_there (slice_get s.calls.items number) cont (sym found) in
    let is : IsCall cont.value call = found_call s solo number cont call stands was there in
    let left = aside s taken solo number cont stands was stays out in
    put_back taken now new solo next number changed left same (comes left.beside is) kept put

-- ---- a call that begins

-- with the flag as the machine's call has seen it
pub seen_so : (app : Application) (now : SoloSession) (cont changed : Cont (List ℕ)) (solo : Solo) (call : OwnCall) (at : OwnSession × Instance) (params : CopiedParams)
    (number : ℕ) → IsCall cont call →
    ComesTo now changed number solo
    (begins app solo number call (record { session = at.0; instance = at.1; params = params; seen = cont.cancelled; key = solo.key })) →
    ComesTo now changed number solo (begins app solo number call (record { session = at.0; instance = at.1; params = params; seen = call.seen; key = solo.key }))
seen_so app now cont changed solo call at params number is comes =
    subst (λ (seen : Bool). ComesTo now changed number solo
    (begins app solo number call (record { session = at.0; instance = at.1; params = params; seen = seen; key = solo.key }))) is.seen comes

-- behind the others
pub added_last : (s now new : SoloSession) (solo later : Solo) (number : ℕ) (cont : Box (Cont (List ℕ))) → StandsFor s solo → number ≡ solo.entered →
    now.calls ≡ s.calls → ComesTo now cont.value number solo later → new ≡ record now { calls = new.calls } →
    new.calls.items ≡ now.calls.items ++ Some cont ∷ [] → StandsFor new (counted later)
added_last s now new solo later number cont stands next same comes stays after = record {
  beside = ap (λ (base : Solo). record base { entered = base.entered + 1 }) comes.beside
      ∙ sym (ap without_calls stays
      ∙ ap (λ (entered : ℕ). record (without_calls now) { entered = entered })
      (ap (λ (calls : List Kept). length calls) after ∙ length-append now.calls.items (Some cont ∷ [])));
  calls = λ other. by_numbers other number (λ e. here other e) (λ apart. there other apart);
}
  where
    items : new.calls.items ≡ s.calls.items ++ Some cont ∷ []
    items = after ∙ ap (λ (calls : List Kept). calls ++ Some cont ∷ []) (ap (λ c. c.items) same)

    last : number ≡ length s.calls.items
    last = next ∙ ap (λ (base : Solo). base.entered) stands.beside

    stands_at : IsCallAt (slice_get new.calls.items number) (get later.calls number)
    stands_at =
        let found : slice_get new.calls.items number ≡ Some (Some cont) =
        ap (slice_get new.calls.items) last ∙ ap (λ (calls : List Kept). slice_get calls (length s.calls.items)) items ∙ last_there s.calls.items (Some cont) in
        let own : get later.calls number ≡ Some comes.call = ap (λ m. get m number) comes.calls ∙ get-insert-same solo.calls number comes.call in
        subst (λ (f : Option Kept). IsCallAt f (get later.calls number)) (sym found)
        (subst (λ (o : Option OwnCall). IsCallAt (Some (Some cont)) o) (sym own) comes.is)

    here : (other : ℕ) → other ≡ number → IsCallAt (slice_get new.calls.items other) (get later.calls other)
    here other e = subst (λ (n : ℕ). IsCallAt (slice_get new.calls.items n) (get later.calls n)) (sym e) stands_at

    there : (other : ℕ) → (other ≡ number → ⊥) → IsCallAt (slice_get new.calls.items other) (get later.calls other)
    there other apart =
        let found : slice_get new.calls.items other ≡ slice_get s.calls.items other =
        ap (λ (calls : List Kept). slice_get calls other) items ∙ others_there s.calls.items (Some cont) other (λ e. apart (e ∙ sym last)) in
        let own : get later.calls other ≡ get solo.calls other =
        ap (λ m. get m other) comes.calls ∙ get-insert-other solo.calls number comes.call other (λ e. apart (sym e)) in
        subst (λ (f : Option Kept). IsCallAt f (get later.calls other)) (sym found)
        (subst (λ (o : Option OwnCall). IsCallAt (slice_get s.calls.items other) o) (sym own) (stands.calls other))

-- it makes no difference which comes first, the number or the start
pub begun_at_once : (app : Application) (solo : Solo) (call : OwnCall) (start : Start) (number : ℕ) → number ≡ solo.entered →
    counted (begins app solo number call start) ≡ begins app (counted solo) solo.entered call start
begun_at_once app solo call start number same = ap (λ (n : ℕ). counted (begins app solo n call start)) same

-- ---- home

-- the code says whether a call holds the instance
pub held_so : (s : SoloSession) (solo : Solo) (at : OwnSession × Instance) (held : Bool) → IsBeside s solo → home solo ≡ Some at →
    held ≡ option_map_or is_held (without_calls s).instance false → held ≡ is_held at.1
held_so s solo at held beside e says =
    says ∙ ap (λ (o : Option Instance). option_map_or is_held o false) (kept_home s solo at beside e).1

-- ---- an invoke

-- where session and instance are there, it is this
found_then : {A B : Type 0} (f : A → Option B) (o : Option A) (a : A) (b : B) → o ≡ Some a → option_and_then f o ≡ Some b → f a ≡ Some b
found_then f o a b is e = sym (ap (option_and_then f) is) ∙ e

invoked_as : (app : Application) (solo next : Solo) (func : ℕ) (input : OwnInput) (area : Bool) (at : OwnSession × Instance) (dead : Bool) → at.1.dead ≡ dead →
    invokes app solo func input area at ≡ Some next → (if dead then Some (settles solo area target_dead) else invokes_with app solo func input area at) ≡ Some next
invoked_as app solo next func input area at dead is e =
    ap (λ (b : Bool). if b then Some (settles solo area target_dead) else invokes_with app solo func input area at) (sym is) ∙ e

pub invoked_dead : (app : Application) (solo next : Solo) (func : ℕ) (input : OwnInput) (area : Bool) (found : Found) → FindsHome solo found → found.dead ≡ true →
    option_and_then (invokes app solo func input area) (home solo) ≡ Some next → settles solo area target_dead ≡ next
invoked_dead app solo next func input area found its dead e =
    let so : Some (settles solo area target_dead) ≡ Some next =
    invoked_as app solo next func input area its.at true (sym its.dead ∙ dead) (found_then (invokes app solo func input area) _ its.at next its.home e) in cc

pub invoked_alive : (app : Application) (solo next : Solo) (func : ℕ) (input : OwnInput) (area : Bool) (found : Found) → (its : FindsHome solo found) → found.dead ≡ false →
    option_and_then (invokes app solo func input area) (home solo) ≡ Some next → invokes_with app solo func input area its.at ≡ Some next
invoked_alive app solo next func input area found its alive e =
    invoked_as app solo next func input area its.at false (sym its.dead ∙ alive) (found_then (invokes app solo func input area) _ its.at next its.home e)

pub invoked_copied : (app : Application) (solo next : Solo) (func : ℕ) (input : OwnInput) (area : Bool) (params : CopiedParams) (at : OwnSession × Instance) →
    input ≡ came.Copied params → invokes_with app solo func input area at ≡ Some next → works_or_waits app solo (kind.Invoke func) area (start_with solo at params) ≡ next
invoked_copied app solo next func input area params at is e =
    let so : Some (works_or_waits app solo (kind.Invoke func) area (start_with solo at params)) ≡ Some next =
    ap (λ (i : OwnInput). invokes_with app solo func i area at) (sym is) ∙ e in cc

pub invoked_faulty : (app : Application) (solo next : Solo) (func : ℕ) (input : OwnInput) (area : Bool) (at : OwnSession × Instance) →
    ((params : CopiedParams) → input ≡ came.Copied params → ⊥) → invokes_with app solo func input area at ≡ Some next → settles solo area bad_parameters ≡ next
invoked_faulty app solo next func (came.Copied params) area at apart e = absurd (apart params refl)
invoked_faulty app solo next func came.Faulty area at apart e = cc
invoked_faulty app solo next func came.Unread area at apart e = absurd cc

-- ---- an open

-- with the session that it makes, and its instance
pub made_stands : (s new : SoloSession) (solo : Solo) (session : KeptSession) (instance : KeptInstance) →
    new ≡ record s { session = Some session; instance = Some instance } → StandsFor s solo →
    StandsFor new (record solo { session = Some (session_of session); instance = Some (instance_of (uuid_of (app_in s)) instance) })
made_stands s new solo session instance becomes stands =
    subst (λ (n : SoloSession). StandsFor n (record solo { session = Some (session_of session); instance = Some (instance_of (uuid_of (app_in s)) instance) }))
    (sym becomes) (record {
      beside = ap (λ (base : Solo). record base { session = Some (session_of session); instance = Some (instance_of (uuid_of (app_in s)) instance) }) stands.beside;
      calls = λ number. stands.calls number;
    })

-- ---- a call that works on the instance, or waits for it

by_holder : (app : Application) (solo : Solo) (call_kind : CallKind) (area : Bool) (start : Start) (held : Bool) → held ≡ is_held start.instance →
    works_or_waits app solo call_kind area start
    ≡ (if held then waits solo call_kind area start.params else begins app (counted solo) solo.entered (fresh_call call_kind area (Waits start.params)) start)
by_holder app solo call_kind area start held same =
    ap (λ (b : Bool). if b then waits solo call_kind area start.params else begins app (counted solo) solo.entered (fresh_call call_kind area (Waits start.params)) start)
    (sym same)

pub works_held : (app : Application) (solo : Solo) (call_kind : CallKind) (area : Bool) (start : Start) (held : Bool) → held ≡ is_held start.instance → held ≡ true →
    waits solo call_kind area start.params ≡ works_or_waits app solo call_kind area start
works_held app solo call_kind area start held same is = sym (by_holder app solo call_kind area start true (sym is ∙ same))

pub works_free : (app : Application) (solo : Solo) (call_kind : CallKind) (area : Bool) (start : Start) (held : Bool) → held ≡ is_held start.instance → held ≡ false →
    begins app (counted solo) solo.entered (fresh_call call_kind area (Waits start.params)) start ≡ works_or_waits app solo call_kind area start
works_free app solo call_kind area start held same is = sym (by_holder app solo call_kind area start false (sym is ∙ same))

-- the session and the instance that an open makes
pub opened_at_once : (app : Application) (solo : Solo) (params copy : CopiedParams) (login : Login) (area : Bool) (number : ℕ) → number ≡ solo.entered → copy ≡ params →
    (let session : OwnSession = record { login = login; context = 0; opened = false } in
    counted (begins app (record solo { session = Some session; instance = Some (made app) }) number (fresh_call kind.Open area (Waits copy))
    (start_with solo (session, made app) copy))) ≡ opens app solo params login area
opened_at_once app solo params copy login area number next same =
    let session : OwnSession = record { login = login; context = 0; opened = false } in
    ap (λ (n : ℕ). counted (begins app (record solo { session = Some session; instance = Some (made app) }) n (fresh_call kind.Open area (Waits copy))
    (start_with solo (session, made app) copy))) next
    ∙ ap (λ (ps : CopiedParams). opens app solo ps login area) same

pub not_copied : (input : OwnInput) → (input ≡ came.Faulty) ⊎ (input ≡ came.Unread) → (params : CopiedParams) → input ≡ came.Copied params → ⊥
not_copied input (inl is) params e = let no : came.Faulty ≡ came.Copied params = sym is ∙ e in absurd cc
not_copied input (inr is) params e = let no : came.Unread ≡ came.Copied params = sym is ∙ e in absurd cc

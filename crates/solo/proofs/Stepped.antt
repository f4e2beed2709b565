-- What a step of the machine tells of its event.
use Rattle.std.proofs.Common.{◌⊎◌, inl, inr, ◌≡◌, ◌≤◌, ℕ, Bool, true, false, arith, Option, Some, None, refl, sym, ap, subst, ◌∙◌}
use Rattle.std.specs.Prelude.{◌==◌, if◌then◌else◌, Result, Ok, Err, OnErr}
use Rattle.std.specs.Option.{option_and_then, option_map}
use Rattle.std.proofs.lemmas.Bool.Decides.{nat_tests}
use Rattle.base.specs.NumberMap.{get}
use Rattle.begin_call.specs.Begins.{IsValidApp}
use Rattle.kernel_model.specs.Application.{Application}
use Rattle.kernel_state.specs.Setup.{application_of}
use Rattle.own_model.proofs.InOrder.{if_any_of, step_so}
use Rattle.own_model.specs.InOrder.{IsInOrder}
use Rattle.kernel_model.specs.Codes.{success}
use Rattle.kernel_model.specs.Kernel.{Instance}
use Rattle.own_model.specs.Solo.{Answered, OwnCall, OwnSession, Solo, closes, comes_back, goes_out, home, invokes, opens, opens_first, sees, settles, silent, step}
use Rattle.own_model.specs.declared.own_event.BackInput.{BackInput}
use Rattle.own_model.specs.declared.own_event.OwnEvent.{OwnEvent}
use Rattle.own_model.specs.declared.own_event.OwnEvent.TheVariants as event
use Rattle.own_model.specs.declared.own_event.OwnInput.{OwnInput}
use Rattle.own_model.specs.declared.own_reply.OwnReply.{OwnReply}
use Rattle.own_model.specs.declared.own_reply.OwnReply.TheVariants as reply
use Rattle.solo.proofs.ShortSolo.{more_solo, short_then}
use Rattle.solo.specs.Short.{IsShortEvent, IsShortSolo}
use Rattle.solo.specs.Standing.{IsSolo, StandsFor, app_in}
use Rattle.solo.specs.Stepping.{HasStepped, IsSilent}
use Rattle.solo.specs.declared.solo_session.SoloSession.{SoloSession}
use Rattle.ta_params.specs.declared.copied_params.CopiedParams.{CopiedParams}
use Rattle.ta_params.specs.declared.login.Login.{Login}

-- ---- its reply

-- a silent step has none
pub silent_step : (o : Option Solo) (next : Solo) (told : Option OwnReply) → option_map silent o ≡ Some (next, told) → (o ≡ Some next) × (None ≡ told)
silent_step None next told e = absurd cc
silent_step (Some z) next told e =
    let same : silent z ≡ (next, told) = cc in
    (ap (λ (a : Answered). Some a.0) same, ap (λ (a : Answered). a.1) same)

-- ---- want of memory

pub on_err_always : {T E : Type 0} (result : Result T E) (P : Type 0) → P → OnErr result P
on_err_always (Ok value) P holds = tt
on_err_always (Err fault) P holds = holds

-- ---- an event that isn't answered

-- one of those
abbrev IsUnanswered : OwnEvent → Type 0
IsUnanswered came = ((params : CopiedParams) × (login : Login) × (area : Bool) × (came ≡ event.Open params login area))
    ⊎ (((func : ℕ) × (input : OwnInput) × (area : Bool) × (came ≡ event.Invoke func input area))
    ⊎ (((area : Bool) × (came ≡ event.Close area))
    ⊎ ((came ≡ event.Cancel)
    ⊎ (((call : ℕ) × (done_by_now : ℕ) × (came ≡ event.Seen call done_by_now))
    ⊎ ((call : ℕ) × (input : BackInput) × (came ≡ event.Back call input))))))

pub silent_then : (came : OwnEvent) → IsUnanswered came → IsSilent came
silent_then came (inl comes) = subst IsSilent (sym comes.3) tt
silent_then came (inr (inl invoke)) = subst IsSilent (sym invoke.3) tt
silent_then came (inr (inr (inl close))) = subst IsSilent (sym close.1) tt
silent_then came (inr (inr (inr (inl cancel)))) = subst IsSilent (sym cancel) tt
silent_then came (inr (inr (inr (inr (inl seen))))) = subst IsSilent (sym seen.2) tt
silent_then came (inr (inr (inr (inr (inr back))))) = subst IsSilent (sym back.2) tt

-- ---- what it found

-- of what may be there
pub some_found : {A B : Type 0} (f : A → Option B) (o : Option A) (b : B) → option_and_then f o ≡ Some b → (a : A) × ((o ≡ Some a) × (f a ≡ Some b))
some_found f None b e = absurd cc
some_found f (Some a) b e = (a, (refl, e))

pub some_map : {A B : Type 0} (f : A → B) (o : Option A) (b : B) → option_map f o ≡ Some b → (a : A) × ((o ≡ Some a) × (f a ≡ b))
some_map f None b e = absurd cc
some_map f (Some a) b e = (a, (refl, cc))

by_count : (n : ℕ) (one next : Solo) → (if n == 0 then Some one else None) ≡ Some next → (n ≡ 0) × (one ≡ next)
by_count n one next e = by (n == 0) refl e
  where
    by : (b : Bool) → (n == 0) ≡ b → (if b then Some one else None) ≡ Some next → (n ≡ 0) × (one ≡ next)
    by true is there = (grind (arith, nat_tests), cc)
    by false is there = absurd cc

-- an open comes first
pub opened_first : (app : Application) (solo next : Solo) (params : CopiedParams) (login : Login) (area : Bool) → opens_first app solo params login area ≡ Some next →
    (solo.entered ≡ 0) × (opens app solo params login area ≡ next)
opened_first app solo next params login area e = by_count solo.entered (opens app solo params login area) next e

-- ---- the machine then

pub order_then : (most : ℕ) (app : Application) (solo next : Solo) (came : OwnEvent) (told : Option OwnReply) → IsInOrder solo →
    step most app solo came ≡ Some (next, told) → IsInOrder next
order_then most app solo next came told order e =
    if_any_of (λ (a : Answered). IsInOrder a.0) (step most app solo came) (next, told) (step_so most app solo came order) e

-- no buffer of its calls is longer
abbrev with_longest : SoloSession → ℕ → SoloSession
with_longest s longest = record s { longest = longest }

still_stands : (longest : ℕ) (s : SoloSession) (solo : Solo) → StandsFor s solo → StandsFor (with_longest s longest) solo
still_stands longest s solo stands = record { beside = stands.beside; calls = stands.calls }

-- it stands for the machine then, and something can happen to that
pub stepped : (most longest : ℕ) (s new : SoloSession) (solo next : Solo) (came : OwnEvent) (answer told : Option OwnReply)
    → IsSolo s solo → IsShortSolo longest solo → IsShortEvent longest came → step most (app_in s) solo came ≡ Some (next, told)
    → new.app ≡ s.app → answer ≡ told → StandsFor new next → HasStepped (with_longest new longest) answer next told
stepped most longest s new solo next came answer told is shorts short e same says stands = (
  says,
  record {
    stands = still_stands longest new next stands;
    order = order_then most (app_in s) solo next came told is.order e;
    short = short_then longest most (app_in s) solo next came told shorts short e;
    valid = subst IsValidApp (sym (ap application_of same)) is.valid;
  },
)

-- at want of memory it stands for the machine that it stood for
pub still_solo : (longest : ℕ) (s new : SoloSession) (solo : Solo) → IsSolo s solo → s.longest ≤ longest → new.app ≡ s.app
    → StandsFor new solo → IsSolo (with_longest new longest) solo
still_solo longest s new solo is more same stands = record {
  stands = still_stands longest new solo stands;
  order = is.order;
  short = more_solo s.longest longest more solo is.short;
  valid = subst IsValidApp (sym (ap application_of same)) is.valid;
}

-- ---- what each event finds

pub opened : (most : ℕ) (app : Application) (solo next : Solo) (came : OwnEvent) (params : CopiedParams) (login : Login) (area : Bool)
    (told : Option OwnReply) → came ≡ event.Open params login area → step most app solo came ≡ Some (next, told) → (solo.entered ≡ 0) × ((opens app solo params login area ≡ next) × (None ≡ told))
opened most app solo next came params login area told is e =
    let so = silent_step (opens_first app solo params login area) next told (ap (step most app solo) (sym is) ∙ e) in
    let first = opened_first app solo next params login area so.0 in
    (first.0, (first.1, so.1))

pub invoked : (most : ℕ) (app : Application) (solo next : Solo) (came : OwnEvent) (func : ℕ) (input : OwnInput) (area : Bool) (told : Option OwnReply) →
    came ≡ event.Invoke func input area → step most app solo came ≡ Some (next, told) →
    (option_and_then (invokes app solo func input area) (home solo) ≡ Some next) × (None ≡ told)
invoked most app solo next came func input area told is e =
    silent_step (option_and_then (invokes app solo func input area) (home solo)) next told (ap (step most app solo) (sym is) ∙ e)

pub closed : (most : ℕ) (app : Application) (solo next : Solo) (came : OwnEvent) (area : Bool) (told : Option OwnReply) → came ≡ event.Close area →
    step most app solo came ≡ Some (next, told) → (at : OwnSession × Instance) × ((home solo ≡ Some at) × ((closes app solo area at ≡ next) × (None ≡ told)))
closed most app solo next came area told is e =
    let found = some_map (λ (at : OwnSession × Instance). silent (closes app solo area at)) (home solo) (next, told) (ap (step most app solo) (sym is) ∙ e) in
    (found.0, (found.1.0, (ap (λ (a : Answered). a.0) found.1.1, ap (λ (a : Answered). a.1) found.1.1)))

pub cancelled : (most : ℕ) (app : Application) (solo next : Solo) (came : OwnEvent) (told : Option OwnReply) → came ≡ event.Cancel →
    step most app solo came ≡ Some (next, told) → (settles solo false success ≡ next) × (None ≡ told)
cancelled most app solo next came told is e =
    let so : Some (silent (settles solo false success)) ≡ Some (next, told) = ap (step most app solo) (sym is) ∙ e in
    let same : silent (settles solo false success) ≡ (next, told) = cc in
    (ap (λ (a : Answered). a.0) same, ap (λ (a : Answered). a.1) same)

-- a call of that number is there, and does this
pub record CallDoes (solo next : Solo) (number : ℕ) (told : Option OwnReply) (does : OwnCall → Option Solo) : Type 0 where
  pub call : OwnCall
  pub there : get solo.calls number ≡ Some call
  pub does_so : does call ≡ Some next
  pub silent_so : None ≡ told

call_does : (solo next : Solo) (number : ℕ) (told : Option OwnReply) (does : OwnCall → Option Solo) →
    option_map silent (option_and_then does (get solo.calls number)) ≡ Some (next, told) → CallDoes solo next number told does
call_does solo next number told does e =
    let so = silent_step (option_and_then does (get solo.calls number)) next told e in
    let found = some_found does (get solo.calls number) next so.0 in
    record { call = found.0; there = found.1.0; does_so = found.1.1; silent_so = so.1 }

pub saw : (most : ℕ) (app : Application) (solo next : Solo) (came : OwnEvent) (number done_by_now : ℕ) (told : Option OwnReply) →
    came ≡ event.Seen number done_by_now → step most app solo came ≡ Some (next, told) → CallDoes solo next number told (sees solo number done_by_now)
saw most app solo next came number done_by_now told is e =
    call_does solo next number told (sees solo number done_by_now) (ap (step most app solo) (sym is) ∙ e)

pub came_back : (most : ℕ) (app : Application) (solo next : Solo) (came : OwnEvent) (number : ℕ) (input : BackInput) (told : Option OwnReply) →
    came ≡ event.Back number input → step most app solo came ≡ Some (next, told) → CallDoes solo next number told (comes_back app solo number input)
came_back most app solo next came number input told is e =
    call_does solo next number told (comes_back app solo number input) (ap (step most app solo) (sym is) ∙ e)

pub went_out : (most : ℕ) (app : Application) (solo next : Solo) (came : OwnEvent) (number : ℕ) (told : Option OwnReply) → came ≡ event.Out number →
    step most app solo came ≡ Some (next, told) → (call : OwnCall) × ((get solo.calls number ≡ Some call) × (goes_out most solo number call ≡ Some (next, told)))
went_out most app solo next came number told is e =
    some_found (goes_out most solo number) (get solo.calls number) (next, told) (ap (step most app solo) (sym is) ∙ e)

pub limited : (most : ℕ) (app : Application) (solo next : Solo) (came : OwnEvent) (told : Option OwnReply) → came ≡ event.Limited →
    step most app solo came ≡ Some (next, told) → (solo ≡ next) × (Some reply.Limited ≡ told)
limited most app solo next came told is e =
    let so : Some (solo, Some reply.Limited) ≡ Some (next, told) = ap (step most app solo) (sym is) ∙ e in
    let same : (solo, Some reply.Limited) ≡ (next, told) = cc in
    (ap (λ (a : Answered). a.0) same, ap (λ (a : Answered). a.1) same)

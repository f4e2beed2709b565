-- What the machine of a session does at an event, and that of the group which has this one session.
use Rattle.std.proofs.Common.{◌≡◌, ℕ, Bool, false, List, Option, Some, None, refl, ap, subst, sym, ◌∙◌}
use Rattle.std.specs.Option.{option_map, option_and_then}
use Rattle.base.specs.NumberMap.{get}
use Rattle.job_model.specs.declared.call_kind.CallKind.{CallKind}
use Rattle.ta_params.specs.declared.copied_params.CopiedParams.{CopiedParams}
use Rattle.ta_params.specs.declared.login.Login.{Login}
use Rattle.kernel_model.specs.Application.{Application}
use Rattle.kernel_model.specs.Codes.{success}
use Rattle.kernel_model.specs.Instances.{is_single}
use Rattle.own_model.specs.Solo.{OwnCall, Solo, unopened}
use Rattle.own_model.specs.Solo as own
use Rattle.own_model.specs.declared.own_event.OwnEvent.{OwnEvent}
use Rattle.own_model.specs.declared.own_event.OwnEvent.TheVariants as own_event
use Rattle.group_model.specs.Group.{Answered, Group, GroupCall, Home, closes, comes_back, goes_out, home, invokes, nobody_there}
use Rattle.group_model.specs.Group.{sees, settles, silent, step}
use Rattle.group_model.specs.declared.group_event.GroupEvent.{GroupEvent}
use Rattle.group_model.specs.Embedding.{CanCome, IsAtHome, IsFollowed, IsNoOpen, call_as, event_as}
use Rattle.group_model.specs.Embedding.{opened_as}
use Rattle.group_model.proofs.EmbeddedParts.{found-mapped, get_as}
use Rattle.group_model.proofs.EmbeddedCalls.{by_home, closes_as, group_home, invokes_as, opens_as, own_home, settles_as}
use Rattle.group_model.proofs.EmbeddedReturns.{back_as, sees_as}
use Rattle.group_model.proofs.EmbeddedEnds.{answered_as, out_as}

-- ---- once the open has come in

-- the kind of the call that goes out
abbrev pub kind_out : Solo → OwnEvent → Option CallKind
kind_out z (own_event.Out number) = option_map (λ (call : OwnCall). call.kind) (get z.calls number)
kind_out z _ = None

silent_as : (call_kind : Option CallKind) (o : Option Solo)
    → option_map silent (option_map opened_as o) ≡ option_map (answered_as call_kind) (option_map own.silent o)
silent_as call_kind None = refl
silent_as call_kind (Some z) = refl

-- of a call that is there, or that nothing is there of
call_found : (z : Solo) (number : ℕ) (on : GroupCall → Option Group) (own_on : OwnCall → Option Solo)
    → ((call : OwnCall) → get z.calls number ≡ Some call → on (call_as call) ≡ option_map opened_as (own_on call))
    → option_map silent (option_and_then on (get (opened_as z).calls number))
    ≡ option_map (answered_as None) (option_map own.silent (option_and_then own_on (get z.calls number)))
call_found z number on own_on same =
    ap (λ (found : Option GroupCall). option_map silent (option_and_then on found)) (get_as z.calls number)
    ∙ ap (λ (o : Option Group). option_map silent o)
    (found-mapped opened_as call_as (get z.calls number) own_on on same)
    ∙ silent_as None (option_and_then own_on (get z.calls number))

-- at an event that comes behind the open
onward : (most : ℕ) (app : Application) (z : Solo) (event : OwnEvent) (came : GroupEvent) → is_single app ≡ false
    → IsFollowed z → IsNoOpen event → CanCome z event → event_as event ≡ Some came
    → option_and_then (step most app (opened_as z)) (event_as event)
    ≡ option_map (answered_as (kind_out z event)) (own.step most app z event)
onward most app z (own_event.Open params login area) came alone followed behind can is = absurd behind
onward most app z (own_event.Invoke func input area) came alone followed behind can is =
    ap (λ (there : Option Home). option_map silent (option_and_then (invokes app (opened_as z) func input area) there))
    (group_home z can)
    ∙ ap (λ (o : Option Group). option_map silent o) (invokes_as app z func input area (can.session, can.instance))
    ∙ silent_as None (own.invokes app z func input area (can.session, can.instance))
    ∙ ap (λ there. option_map (answered_as None)
    (option_map own.silent (option_and_then (own.invokes app z func input area) there))) (sym (own_home z can))
onward most app z (own_event.Close area) came alone followed behind can is =
    ap (λ (there : Option Home). option_map (λ (at : Home). silent (closes app (opened_as z) area at)) there)
    (group_home z can)
    ∙ ap (λ (g : Group). Some (silent g)) (closes_as app z area (can.session, can.instance) alone)
    ∙ ap (λ there. option_map (answered_as None) (option_map (λ at. own.silent (own.closes app z area at)) there))
    (sym (own_home z can))
onward most app z own_event.Cancel came alone followed behind can is =
    ap (λ (there : Option Home). option_map (λ (at : Home). silent (settles (opened_as z) false success)) there)
    (group_home z can)
    ∙ ap (λ (g : Group). Some (silent g)) (settles_as z false success)
onward most app z (own_event.Seen number done_by_now) came alone followed behind can is =
    call_found z number (sees (opened_as z) number done_by_now) (own.sees z number done_by_now)
    (λ call _. sees_as z number done_by_now call)
onward most app z (own_event.Back number input) came alone followed behind can is =
    call_found z number (comes_back app (opened_as z) number input) (own.comes_back app z number input)
    (λ call there. back_as app z number input call alone (followed.in_order.fits number call there))
onward most app z (own_event.Out number) came alone followed behind can is =
    let kinds : Option CallKind = kind_out z (own_event.Out number) in
    ap (λ (found : Option GroupCall). option_and_then (goes_out most (opened_as z) number) found) (get_as z.calls number)
    ∙ found-mapped (answered_as kinds) call_as (get z.calls number) (own.goes_out most z number)
    (goes_out most (opened_as z) number)
    (λ call there. subst (λ (k : Option CallKind). goes_out most (opened_as z) number (call_as call)
    ≡ option_map (answered_as k) (own.goes_out most z number call))
    (sym (ap (λ (found : Option OwnCall). option_map (λ (one : OwnCall). one.kind) found) there))
    (out_as most z number call (followed.in_order.fits number call there)))
onward most app z own_event.Limited came alone followed behind can is = absurd cc

pub opened_steps : (most : ℕ) (app : Application) (z : Solo) (event : OwnEvent) (came : GroupEvent) → is_single app ≡ false
    → IsFollowed z → IsNoOpen event → CanCome z event → event_as event ≡ Some came
    → step most app (opened_as z) came ≡ option_map (answered_as (kind_out z event)) (own.step most app z event)
opened_steps most app z event came alone followed behind can is =
    ap (λ (o : Option GroupEvent). option_and_then (step most app (opened_as z)) o) (sym is)
    ∙ onward most app z event came alone followed behind can is

-- an event of a call in the opened session
abbrev IsInSession : OwnEvent → Type 0
IsInSession (own_event.Invoke func input area) = Unit {0}
IsInSession (own_event.Close area) = Unit {0}
IsInSession own_event.Cancel = Unit {0}
IsInSession _ = ⊥

-- the group has none of these where it finds nothing at home
none_at_home : (most : ℕ) (app : Application) (z : Solo) (event : OwnEvent) (came : GroupEvent) → IsInSession event
    → event_as event ≡ Some came → home (opened_as z) 0 ≡ None → step most app (opened_as z) came ≡ None
none_at_home most app z event came in_session is away =
    ap (λ (o : Option GroupEvent). option_and_then (step most app (opened_as z)) o) (sym is) ∙ by_event event in_session
  where
    by_event : (one : OwnEvent) → IsInSession one → option_and_then (step most app (opened_as z)) (event_as one) ≡ None
    by_event (own_event.Open params login area) of_session = absurd of_session
    by_event (own_event.Invoke func input area) of_session =
        ap (λ (there : Option Home). option_map silent (option_and_then (invokes app (opened_as z) func input area) there))
        away
    by_event (own_event.Close area) of_session =
        ap (λ (there : Option Home). option_map (λ (at : Home). silent (closes app (opened_as z) area at)) there) away
    by_event own_event.Cancel of_session =
        ap (λ (there : Option Home). option_map (λ (at : Home). silent (settles (opened_as z) false success)) there) away
    by_event (own_event.Seen number done_by_now) of_session = absurd of_session
    by_event (own_event.Back number input) of_session = absurd of_session
    by_event (own_event.Out number) of_session = absurd of_session
    by_event own_event.Limited of_session = absurd of_session

-- what the group takes can come to the session
pub opened_can : (most : ℕ) (app : Application) (z : Solo) (event : OwnEvent) (came : GroupEvent) (answered : Answered)
    → IsNoOpen event → event_as event ≡ Some came → step most app (opened_as z) came ≡ Some answered → CanCome z event
opened_can most app z event came answered behind is takes = by_event event behind is
  where
    at_home : (one : OwnEvent) → IsInSession one → event_as one ≡ Some came → IsAtHome z
    at_home one in_session same =
        by_home z (λ at. at)
        (λ away.
        let no : None ≡ Some answered = sym (none_at_home most app z one came in_session same away) ∙ takes in absurd cc)

    by_event : (one : OwnEvent) → IsNoOpen one → event_as one ≡ Some came → CanCome z one
    by_event (own_event.Open params login area) no_open same = absurd no_open
    by_event (own_event.Invoke func input area) no_open same = at_home (own_event.Invoke func input area) tt same
    by_event (own_event.Close area) no_open same = at_home (own_event.Close area) tt same
    by_event own_event.Cancel no_open same = at_home own_event.Cancel tt same
    by_event (own_event.Seen number done_by_now) no_open same = tt
    by_event (own_event.Back number input) no_open same = tt
    by_event (own_event.Out number) no_open same = tt
    by_event own_event.Limited no_open same = tt

-- an event that the session's machine refuses
pub opened_refuses : (most : ℕ) (app : Application) (z : Solo) (event : OwnEvent) (came : GroupEvent)
    → is_single app ≡ false → IsFollowed z → IsNoOpen event → own.step most app z event ≡ None
    → event_as event ≡ Some came → step most app (opened_as z) came ≡ None
opened_refuses most app z event came alone followed behind refused is = by_event event behind refused is
  where
    if_it_can : (one : OwnEvent) → IsNoOpen one → CanCome z one → own.step most app z one ≡ None
        → event_as one ≡ Some came → step most app (opened_as z) came ≡ None
    if_it_can one no_open can none same =
        opened_steps most app z one came alone followed no_open can same
        ∙ ap (λ (o : Option own.Answered). option_map (answered_as (kind_out z one)) o) none

    by_event : (one : OwnEvent) → IsNoOpen one → own.step most app z one ≡ None → event_as one ≡ Some came
        → step most app (opened_as z) came ≡ None
    by_event (own_event.Open params login area) no_open none same = absurd no_open
    by_event (own_event.Invoke func input area) no_open none same =
        by_home z (λ at. if_it_can (own_event.Invoke func input area) tt at none same)
        (none_at_home most app z (own_event.Invoke func input area) came tt same)
    by_event (own_event.Close area) no_open none same =
        by_home z (λ at. if_it_can (own_event.Close area) tt at none same)
        (none_at_home most app z (own_event.Close area) came tt same)
    by_event own_event.Cancel no_open none same = absurd cc
    by_event (own_event.Seen number done_by_now) no_open none same =
        if_it_can (own_event.Seen number done_by_now) tt tt none same
    by_event (own_event.Back number input) no_open none same = if_it_can (own_event.Back number input) tt tt none same
    by_event (own_event.Out number) no_open none same = if_it_can (own_event.Out number) tt tt none same
    by_event own_event.Limited no_open none same = absurd cc

-- ---- before it has

-- no other event can come
pub nothing_comes : (most : ℕ) (app : Application) (key : List ℕ) (event : OwnEvent) (came : GroupEvent) → IsNoOpen event
    → CanCome (unopened key) event → event_as event ≡ Some came → own.step most app (unopened key) event ≡ None
nothing_comes most app key (own_event.Open params login area) came behind can is = absurd behind
nothing_comes most app key (own_event.Invoke func input area) came behind can is = refl
nothing_comes most app key (own_event.Close area) came behind can is = refl
nothing_comes most app key own_event.Cancel came behind can is = let kept = can.kept in absurd cc
nothing_comes most app key (own_event.Seen number done_by_now) came behind can is = refl
nothing_comes most app key (own_event.Back number input) came behind can is = refl
nothing_comes most app key (own_event.Out number) came behind can is = refl
nothing_comes most app key own_event.Limited came behind can is = absurd cc

-- and to the group nothing else can
nobody_steps : (most : ℕ) (app : Application) (key : List ℕ) (event : OwnEvent) → IsNoOpen event
    → option_and_then (step most app (nobody_there key)) (event_as event) ≡ None
nobody_steps most app key (own_event.Open params login area) behind = absurd behind
nobody_steps most app key (own_event.Invoke func input area) behind = refl
nobody_steps most app key (own_event.Close area) behind = refl
nobody_steps most app key own_event.Cancel behind = refl
nobody_steps most app key (own_event.Seen number done_by_now) behind = refl
nobody_steps most app key (own_event.Back number input) behind = refl
nobody_steps most app key (own_event.Out number) behind = refl
nobody_steps most app key own_event.Limited behind = refl

pub nobody_refuses : (most : ℕ) (app : Application) (key : List ℕ) (event : OwnEvent) (came : GroupEvent) → IsNoOpen event
    → event_as event ≡ Some came → step most app (nobody_there key) came ≡ None
nobody_refuses most app key event came behind is =
    ap (λ (o : Option GroupEvent). option_and_then (step most app (nobody_there key)) o) (sym is)
    ∙ nobody_steps most app key event behind

-- the open
pub open_steps : (most : ℕ) (app : Application) (key : List ℕ) (params : CopiedParams) (login : Login) (area : Bool)
    (came : GroupEvent) → is_single app ≡ false → event_as (own_event.Open params login area) ≡ Some came
    → step most app (nobody_there key) came ≡ Some (opened_as (own.opens app (unopened key) params login area), None)
open_steps most app key params login area came alone is =
    ap (λ (o : Option GroupEvent). option_and_then (step most app (nobody_there key)) o) (sym is)
    ∙ ap (λ (o : Option Group). option_map silent o) (opens_as app key params login area alone)

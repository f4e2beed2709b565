-- The machine of a session is that of a group which has this one session: at an event.
use Rattle.std.proofs.Common.{◌≡◌, ℕ, Bool, true, false, Option, Some, None, refl, ap, subst, sym, ◌∙◌, arith}
use Rattle.std.specs.Prelude.{◌==◌, ◌&&◌, is_some, if◌then◌else◌}
use Rattle.std.specs.Option.{option_map}
use Rattle.std.proofs.lemmas.Bool.Decides.{nat_tests}
use Rattle.std.proofs.lemmas.Option.{option_and_then_some}
use Rattle.base.specs.NumberMap.{get}
use Rattle.job_model.specs.declared.call_kind.CallKind.{CallKind}
use Rattle.job_model.specs.declared.call_kind.CallKind.TheVariants as kind
use Rattle.ta_params.specs.declared.copied_params.CopiedParams.{CopiedParams}
use Rattle.ta_params.specs.declared.login.Login.{Login}
use Rattle.kernel_model.specs.Application.{Application}
use Rattle.kernel_model.specs.Codes.{success}
use Rattle.kernel_model.specs.Instances.{is_single}
use Rattle.own_model.proofs.InOrder.{InOrderThen, if_any_of, step_so, stays_in_order}
use Rattle.own_model.specs.Solo.{OwnCall, Solo, unopened}
use Rattle.own_model.specs.Solo as own
use Rattle.own_model.specs.declared.own_event.OwnEvent.{OwnEvent}
use Rattle.own_model.specs.declared.own_event.OwnEvent.TheVariants as own_event
use Rattle.own_model.specs.declared.own_reply.OwnReply.{OwnReply}
use Rattle.own_model.specs.declared.own_reply.OwnReply.TheVariants as reply
use Rattle.own_model.proofs.RepliesTold.{steps_told}
use Rattle.group_model.specs.Group.{Answered, Group, nobody_there, step}
use Rattle.group_model.specs.declared.group_event.GroupEvent.{GroupEvent}
use Rattle.group_model.specs.declared.group_reply.GroupReply.{GroupReply}
use Rattle.group_model.specs.Embedding.{CanCome, IsFollowed, IsNoOpen}
use Rattle.group_model.specs.Embedding.{StepsAsAGroup, answer_as, event_as, group_as, is_open, opened_as, opened_told}
use Rattle.group_model.proofs.EmbeddedEnds.{answered_as, opened_by_kind, reply_by_kind}
use Rattle.group_model.proofs.EmbeddedAnswers.{IsAnswerFrom, KeepsOn, answers_from}
use Rattle.group_model.proofs.EmbeddedSteps.{kind_out, nobody_refuses, nothing_comes, open_steps, opened_can, opened_refuses, opened_steps}
use Rattle.group_model.proofs.MoreSteps.{behind}

-- ---- whether a call has come in

not_first : (n : ℕ) → (n ≡ 0 → ⊥) → (test : Bool) → (n == 0) ≡ test → test ≡ false
not_first n has true is = absurd (has (first n is))
  where
    first : (m : ℕ) → (m == 0) ≡ true → m ≡ 0
    first m e = grind (arith, nat_tests)
not_first n has false is = refl

by_first : {P : Type 0} (n : ℕ) → (n ≡ 0 → P) → ((n ≡ 0 → ⊥) → P) → P
by_first {P} n none some = by_test (n == 0) refl
  where
    first : (m : ℕ) → (m == 0) ≡ true → m ≡ 0
    first m e = grind (arith, nat_tests)

    other : (m : ℕ) → (m == 0) ≡ false → m ≡ 0 → ⊥
    other m e is = grind (arith, nat_tests)

    by_test : (test : Bool) → (n == 0) ≡ test → P
    by_test true is = none (first n is)
    by_test false is = some (other n is)

-- then the group is what the session's machine is
grown : (z : Solo) → (z.entered ≡ 0 → ⊥) → group_as z ≡ opened_as z
grown z has =
    ap (λ (test : Bool). if test then nobody_there z.key else opened_as z) (not_first z.entered has (z.entered == 0) refl)

-- ---- what is stepped to

pub same_answer : (a b : own.Answered) → Some a ≡ Some b → a ≡ b
same_answer a b e = cc

not_refused : {P : Type 0} (o : Option own.Answered) (answered : own.Answered) → o ≡ None → o ≡ Some answered → P
not_refused o answered refused stepped_to = absurd cc

-- another event than an open can't come first
none_first : (most : ℕ) (app : Application) (z : Solo) (event : OwnEvent) (came : GroupEvent) → IsFollowed z
    → IsNoOpen event → CanCome z event → event_as event ≡ Some came → z.entered ≡ 0 → own.step most app z event ≡ None
none_first most app z event came followed behind can is none =
    let nothing : z ≡ unopened z.key = followed.first none in
    ap (λ (y : Solo). own.step most app y event) nothing
    ∙ nothing_comes most app z.key event came behind (subst (λ (y : Solo). CanCome y event) nothing can) is

-- an open steps to this
open_next : (most : ℕ) (app : Application) (z next : Solo) (told : Option OwnReply) (params : CopiedParams) (login : Login)
    (area : Bool) → IsFollowed z → z.entered ≡ 0
    → own.step most app z (own_event.Open params login area) ≡ Some (next, told)
    → ◌≡◌ {A = own.Answered} (own.opens app (unopened z.key) params login area, None) (next, told)
open_next most app z next told params login area followed none steps =
    same_answer (own.opens app (unopened z.key) params login area, None) (next, told)
    (sym (ap (λ (y : Solo). own.step most app y (own_event.Open params login area)) (followed.first none)) ∙ steps)

-- what it keeps there
keeps_on : (most : ℕ) (app : Application) (z next : Solo) (told : Option OwnReply) (event : OwnEvent) → IsFollowed z
    → CanCome z event → own.step most app z event ≡ Some (next, told) → KeepsOn z.entered next
keeps_on most app z next told event followed can steps =
    if_any_of (IsAnswerFrom z) (own.step most app z event) (next, told)
    (answers_from most app z event followed.opens followed.first can) steps

-- ---- it stays followed

one_or_none : (n : ℕ) → n ≡ 1 → n ≡ 0 → ⊥
one_or_none n one none = omega arith

stays_first : (most : ℕ) (app : Application) (z next : Solo) (told : Option OwnReply) (event : OwnEvent) (came : GroupEvent)
    → IsFollowed z → IsNoOpen event → CanCome z event → own.step most app z event ≡ Some (next, told)
    → event_as event ≡ Some came → next.entered ≡ 0 → next ≡ unopened next.key
stays_first most app z next told event came followed behind can steps is none =
    by_first z.entered
    (λ first. not_refused (own.step most app z event) (next, told)
    (none_first most app z event came followed behind can is first) steps)
    (λ has. absurd (has ((keeps_on most app z next told event followed can steps).none_from none)))

first_after : (most : ℕ) (app : Application) (z next : Solo) (told : Option OwnReply) (event : OwnEvent) → IsFollowed z
    → CanCome z event → own.step most app z event ≡ Some (next, told) → next.entered ≡ 0 → next ≡ unopened next.key
first_after most app z next told (own_event.Open params login area) followed can steps none =
    absurd (one_or_none next.entered (sym (ap (λ (answered : own.Answered). answered.0.entered)
    (open_next most app z next told params login area followed can steps))) none)
first_after most app z next told (own_event.Invoke func input area) followed can steps none =
    stays_first most app z next told (own_event.Invoke func input area) _ followed tt can steps refl none
first_after most app z next told (own_event.Close area) followed can steps none =
    stays_first most app z next told (own_event.Close area) _ followed tt can steps refl none
first_after most app z next told own_event.Cancel followed can steps none =
    stays_first most app z next told own_event.Cancel _ followed tt can steps refl none
first_after most app z next told (own_event.Seen number done_by_now) followed can steps none =
    stays_first most app z next told (own_event.Seen number done_by_now) _ followed tt can steps refl none
first_after most app z next told (own_event.Back number input) followed can steps none =
    stays_first most app z next told (own_event.Back number input) _ followed tt can steps refl none
first_after most app z next told (own_event.Out number) followed can steps none =
    stays_first most app z next told (own_event.Out number) _ followed tt can steps refl none
first_after most app z next told own_event.Limited followed can steps none =
    let same : z ≡ next = ap (λ (answered : own.Answered). answered.0)
    (same_answer (z, Some reply.Limited) (next, told) steps) in
    subst (λ (y : Solo). y ≡ unopened y.key) same
    (followed.first (ap (λ (y : Solo). y.entered) same ∙ none))

pub stays_followed : (most : ℕ) (app : Application) (z next : Solo) (told : Option OwnReply) (event : OwnEvent) → IsFollowed z
    → CanCome z event → own.step most app z event ≡ Some (next, told) → IsFollowed next
stays_followed most app z next told event followed can steps = record {
  in_order = if_any_of InOrderThen (own.step most app z event) (next, told) (step_so most app z event followed.in_order) steps;
  first = first_after most app z next told event followed can steps;
  opens = (keeps_on most app z next told event followed can steps).opens;
}

-- ---- at an event

-- what the group's machine steps to
abbrev group_answer : Option CallKind → Solo → Option OwnReply → Option Answered
group_answer call_kind next told = Some (group_as next, option_map (reply_by_kind call_kind) told)

behind_steps : (most : ℕ) (app : Application) (z next : Solo) (told : Option OwnReply) (event : OwnEvent) (came : GroupEvent)
    → is_single app ≡ false → IsFollowed z → IsNoOpen event → CanCome z event
    → own.step most app z event ≡ Some (next, told) → event_as event ≡ Some came
    → step most app (group_as z) came ≡ group_answer (kind_out z event) next told
behind_steps most app z next told event came alone followed behind can steps is =
    by_first z.entered
    (λ first. not_refused (own.step most app z event) (next, told)
    (none_first most app z event came followed behind can is first) steps)
    (λ has. ap (λ (g : Group). step most app g came) (grown z has)
    ∙ opened_steps most app z event came alone followed behind can is
    ∙ ap (λ (o : Option own.Answered). option_map (answered_as (kind_out z event)) o) steps
    ∙ ap (λ (g : Group). answer_of g)
    (sym (grown next (λ none. has ((keeps_on most app z next told event followed can steps).none_from none)))))
  where
    answer_of : Group → Option Answered
    answer_of g = Some (g, option_map (reply_by_kind (kind_out z event)) told)

open_first : (most : ℕ) (app : Application) (z next : Solo) (told : Option OwnReply) (params : CopiedParams) (login : Login)
    (area : Bool) (came : GroupEvent) → is_single app ≡ false → IsFollowed z → z.entered ≡ 0
    → own.step most app z (own_event.Open params login area) ≡ Some (next, told)
    → event_as (own_event.Open params login area) ≡ Some came
    → step most app (group_as z) came ≡ group_answer None next told
open_first most app z next told params login area came alone followed none steps is =
    ap (λ (y : Solo). step most app (group_as y) came) (followed.first none)
    ∙ open_steps most app z.key params login area came alone is
    ∙ ap (λ (answered : own.Answered). group_answer None answered.0 answered.1)
    (open_next most app z next told params login area followed none steps)

by_kind_as : (most : ℕ) (app : Application) (z next : Solo) (told : Option OwnReply) (event : OwnEvent) (came : GroupEvent)
    → is_single app ≡ false → IsFollowed z → CanCome z event
    → own.step most app z event ≡ Some (next, told) → event_as event ≡ Some came
    → step most app (group_as z) came ≡ group_answer (kind_out z event) next told
by_kind_as most app z next told (own_event.Open params login area) came alone followed can steps is =
    open_first most app z next told params login area came alone followed can steps is
by_kind_as most app z next told (own_event.Invoke func input area) came alone followed can steps is =
    behind_steps most app z next told (own_event.Invoke func input area) came alone followed tt can steps is
by_kind_as most app z next told (own_event.Close area) came alone followed can steps is =
    behind_steps most app z next told (own_event.Close area) came alone followed tt can steps is
by_kind_as most app z next told own_event.Cancel came alone followed can steps is =
    behind_steps most app z next told own_event.Cancel came alone followed tt can steps is
by_kind_as most app z next told (own_event.Seen number done_by_now) came alone followed can steps is =
    behind_steps most app z next told (own_event.Seen number done_by_now) came alone followed tt can steps is
by_kind_as most app z next told (own_event.Back number input) came alone followed can steps is =
    behind_steps most app z next told (own_event.Back number input) came alone followed tt can steps is
by_kind_as most app z next told (own_event.Out number) came alone followed can steps is =
    behind_steps most app z next told (own_event.Out number) came alone followed tt can steps is
by_kind_as most app z next told own_event.Limited came alone followed can steps is = absurd cc

-- whether a session is opened shows by the number of the call, as by its kind
opened_same : (call_kind : CallKind) (number : ℕ) (told : OwnReply) → is_open call_kind ≡ (number == 0)
    → opened_by_kind (Some call_kind) told ≡ opened_told number told
opened_same kind.Open number (reply.Ended result origin outputs) is =
    ap (λ test. if test && (result == success) then Some 0 else None) is
opened_same (kind.Invoke func) number (reply.Ended result origin outputs) is =
    ap (λ test. if test && (result == success) then Some 0 else None) is
opened_same kind.Close number (reply.Ended result origin outputs) is =
    ap (λ test. if test && (result == success) then Some 0 else None) is
opened_same kind.Settled number (reply.Ended result origin outputs) is =
    ap (λ test. if test && (result == success) then Some 0 else None) is
opened_same kind.Open number reply.Alloc is = refl
opened_same (kind.Invoke func) number reply.Alloc is = refl
opened_same kind.Close number reply.Alloc is = refl
opened_same kind.Settled number reply.Alloc is = refl
opened_same kind.Open number reply.Sleep is = refl
opened_same (kind.Invoke func) number reply.Sleep is = refl
opened_same kind.Close number reply.Sleep is = refl
opened_same kind.Settled number reply.Sleep is = refl
opened_same kind.Open number (reply.Wake woken) is = refl
opened_same (kind.Invoke func) number (reply.Wake woken) is = refl
opened_same kind.Close number (reply.Wake woken) is = refl
opened_same kind.Settled number (reply.Wake woken) is = refl
opened_same kind.Open number (reply.Ask wanted payload) is = refl
opened_same (kind.Invoke func) number (reply.Ask wanted payload) is = refl
opened_same kind.Close number (reply.Ask wanted payload) is = refl
opened_same kind.Settled number (reply.Ask wanted payload) is = refl
opened_same kind.Open number reply.Free is = refl
opened_same (kind.Invoke func) number reply.Free is = refl
opened_same kind.Close number reply.Free is = refl
opened_same kind.Settled number reply.Free is = refl
opened_same kind.Open number reply.Limited is = refl
opened_same (kind.Invoke func) number reply.Limited is = refl
opened_same kind.Close number reply.Limited is = refl
opened_same kind.Settled number reply.Limited is = refl

-- nothing is told where no call goes out
untold : (told : Option OwnReply) → is_some told ≡ false → option_map (reply_by_kind None) told ≡ None
untold None none = refl
untold (Some said) none = absurd cc

out_told : (z : Solo) (number : ℕ) (call : OwnCall) (told : Option OwnReply) → get z.calls number ≡ Some call
    → is_open call.kind ≡ (number == 0)
    → option_map (reply_by_kind (kind_out z (own_event.Out number))) told ≡ answer_as (own_event.Out number) told
out_told z number call told there is =
    ap (λ (found : Option OwnCall). option_map (reply_by_kind (option_map (λ (one : OwnCall). one.kind) found)) told) there
    ∙ by_reply told
  where
    by_reply : (one : Option OwnReply)
        → option_map (reply_by_kind (Some call.kind)) one ≡ answer_as (own_event.Out number) one
    by_reply None = refl
    by_reply (Some said) =
        ap (λ (opened : Option ℕ). Some (record { reply = said; opened = opened })) (opened_same call.kind number said is)

same_told : (most : ℕ) (app : Application) (z next : Solo) (told : Option OwnReply) (event : OwnEvent) (came : GroupEvent)
    → IsFollowed z → own.step most app z event ≡ Some (next, told) → event_as event ≡ Some came
    → option_map (reply_by_kind (kind_out z event)) told ≡ answer_as event told
same_told most app z next told (own_event.Open params login area) came followed steps is =
    untold told (steps_told most app z (own_event.Open params login area) (next, told) steps)
same_told most app z next told (own_event.Invoke func input area) came followed steps is =
    untold told (steps_told most app z (own_event.Invoke func input area) (next, told) steps)
same_told most app z next told (own_event.Close area) came followed steps is =
    untold told (steps_told most app z (own_event.Close area) (next, told) steps)
same_told most app z next told own_event.Cancel came followed steps is =
    untold told (steps_told most app z own_event.Cancel (next, told) steps)
same_told most app z next told (own_event.Seen number done_by_now) came followed steps is =
    untold told (steps_told most app z (own_event.Seen number done_by_now) (next, told) steps)
same_told most app z next told (own_event.Back number input) came followed steps is =
    untold told (steps_told most app z (own_event.Back number input) (next, told) steps)
same_told most app z next told (own_event.Out number) came followed steps is =
    option_and_then_some (own.goes_out most z number) (get z.calls number) (next, told) steps
    (λ call there _. out_told z number call told there (followed.opens number call there))
same_told most app z next told own_event.Limited came followed steps is = absurd cc

pub steps_as : (most : ℕ) (app : Application) (z next : Solo) (told : Option OwnReply) (event : OwnEvent) (came : GroupEvent)
    → is_single app ≡ false → IsFollowed z → CanCome z event
    → own.step most app z event ≡ Some (next, told) → event_as event ≡ Some came
    → step most app (group_as z) came ≡ Some (group_as next, answer_as event told)
steps_as most app z next told event came alone followed can steps is =
    by_kind_as most app z next told event came alone followed can steps is
    ∙ ap (λ (said : Option GroupReply). Some (group_as next, said))
    (same_told most app z next told event came followed steps is)

silent_so : (most : ℕ) (app : Application) (z next : Solo) (told : Option OwnReply) (event : OwnEvent)
    → own.step most app z event ≡ Some (next, told) → event_as event ≡ None → next ≡ z
silent_so most app z next told (own_event.Open params login area) steps is = absurd cc
silent_so most app z next told (own_event.Invoke func input area) steps is = absurd cc
silent_so most app z next told (own_event.Close area) steps is = absurd cc
silent_so most app z next told own_event.Cancel steps is = absurd cc
silent_so most app z next told (own_event.Seen number done_by_now) steps is = absurd cc
silent_so most app z next told (own_event.Back number input) steps is = absurd cc
silent_so most app z next told (own_event.Out number) steps is = absurd cc
silent_so most app z next told own_event.Limited steps is =
    sym (ap (λ (answered : own.Answered). answered.0) (same_answer (z, Some reply.Limited) (next, told) steps))

pub refuses_at : (most : ℕ) (app : Application) (z : Solo) (event : OwnEvent) (came : GroupEvent) → is_single app ≡ false
    → IsFollowed z → IsNoOpen event → own.step most app z event ≡ None → event_as event ≡ Some came
    → step most app (group_as z) came ≡ None
refuses_at most app z event came alone followed behind refused is =
    by_first z.entered
    (λ first. ap (λ (y : Solo). step most app (group_as y) came) (followed.first first)
    ∙ nobody_refuses most app z.key event came behind is)
    (λ has. ap (λ (g : Group). step most app g came) (grown z has)
    ∙ opened_refuses most app z event came alone followed behind refused is)

pub can_come_at : (most : ℕ) (app : Application) (z : Solo) (event : OwnEvent) (came : GroupEvent) (answered : Answered)
    → IsFollowed z → IsNoOpen event → event_as event ≡ Some came → step most app (group_as z) came ≡ Some answered
    → CanCome z event
can_come_at most app z event came answered followed behind is takes =
    by_first z.entered
    (λ first.
    let no : None ≡ Some answered = sym (ap (λ (y : Solo). step most app (group_as y) came) (followed.first first)
    ∙ nobody_refuses most app z.key event came behind is) ∙ takes in
    absurd cc)
    (λ has. opened_can most app z event came answered behind is
    (sym (ap (λ (g : Group). step most app g came) (grown z has)) ∙ takes))

pub steps_as_a_group : StepsAsAGroup
steps_as_a_group = record {
  first = λ key. record {
    in_order = stays_in_order.first key;
    first = λ none. refl;
    opens = λ number call there. absurd cc;
  };
  stays = λ at next told can steps. stays_followed at.most at.app at.solo next told at.event at.followed can steps;
  steps = λ at next told came can steps is.
      steps_as at.most at.app at.solo next told at.event came at.alone at.followed can steps is;
  silent = λ at next told steps is. silent_so at.most at.app at.solo next told at.event steps is;
  can_come = λ at came answered behind is takes.
      can_come_at at.most at.app at.solo at.event came answered at.followed behind is takes;
  refuses = λ at came behind refused is.
      refuses_at at.most at.app at.solo at.event came at.alone at.followed behind refused is;
}

-- Which events of a group have a reply: those at which a call goes out. So are those of the machine.
use Rattle.std.proofs.Common.{◌≡◌, ℕ, Bool, true, false, Option, Some, None, refl, ap, subst, sym, ◌∙◌}
use Rattle.std.specs.Prelude.{if◌then◌else◌, is_some}
use Rattle.std.specs.Option.{option_map}
use Rattle.std.proofs.lemmas.Option.{option_and_then_some}
use Rattle.base.specs.NumberMap.{get}
use Rattle.ta_params.specs.declared.call_result.CallResult.{CallResult}
use Rattle.ta_params.specs.declared.copied_params.CopiedParams.{CopiedParams}
use Rattle.kernel_model.specs.Application.{Application}
use Rattle.kernel_model.specs.Kernel.{Asks, CallPhase, Ends}
use Rattle.kernel_model.specs.Kernel.{Runs}
use Rattle.kernel_model.specs.Kernel.{Waits}
use Rattle.kernel_model.proofs.Parts.{option_map_some}
use Rattle.group_model.specs.declared.group_event.GroupEvent.{GroupEvent}
use Rattle.group_model.specs.declared.group_event.GroupEvent.TheVariants.{Back, Cancel, Close, Invoke, Open, Out, Room, Seen}
use Rattle.group_model.specs.Group.{Answered, Going, Group, GroupCall, going_in, goes_out, goes_out_in, leaves}
use Rattle.group_model.specs.Group.{silent, step}

-- a call goes out, and is told something
abbrev pub has_reply : GroupEvent → Bool
has_reply (Open input login limited area) = false
has_reply (Invoke session func input area) = false
has_reply (Close session area) = false
has_reply (Cancel session) = false
has_reply (Seen number done_by_now) = false
has_reply (Room number enough) = false
has_reply (Back number input) = false
has_reply (Out number) = true

-- ---- the machine

silent_told : (came : GroupEvent) (found : Option Group) (answered : Answered) → option_map silent found ≡ Some answered
    → has_reply came ≡ false → is_some answered.1 ≡ has_reply came
silent_told came found answered e none =
    let made = option_map_some silent found answered e in
    ap (λ (a : Answered). is_some a.1) (sym made.2) ∙ sym none

told_so : (one answered : Answered) → Some one ≡ Some answered → is_some one.1 ≡ true → is_some answered.1 ≡ true
told_so one answered e told = let is : one ≡ answered = cc in subst (λ (a : Answered). is_some a.1 ≡ true) is told

leaves_told : (g : Group) (number : ℕ) (call : GroupCall) (result : CallResult) (params : CopiedParams)
    → is_some (leaves g number call result params).1 ≡ true
leaves_told g number call result params = by call.buffer _ _ refl refl
  where
    by : (buffer : Bool) (first second : Answered) → is_some first.1 ≡ true → is_some second.1 ≡ true
        → is_some (if buffer then first else second).1 ≡ true
    by true first second one other = one
    by false first second one other = other

out_in_told : (g : Group) (number : ℕ) (call : GroupCall) (phase : CallPhase) (answered : Answered)
    → goes_out_in g number call phase ≡ Some answered → is_some answered.1 ≡ true
out_in_told g number call (Runs job) answered e = absurd cc
out_in_told g number call (Asks job wanted payload) answered e = told_so _ answered e refl
out_in_told g number call (Waits params) answered e = told_so _ answered e refl
out_in_told g number call (Ends result params told (Some woken)) answered e = told_so _ answered e refl
out_in_told g number call (Ends result params told None) answered e =
    told_so _ answered e (leaves_told g number call result params)

goes_told : (most : ℕ) (g : Group) (number : ℕ) (call : GroupCall) (answered : Answered)
    → goes_out most g number call ≡ Some answered → is_some answered.1 ≡ true
goes_told most g number call answered e =
    option_and_then_some _ (going_in most g call call.phase) answered e
    (λ (going : Going) there onward. out_in_told going.group number going.call going.call.phase answered onward)

pub steps_told : (most : ℕ) (app : Application) (g : Group) (came : GroupEvent) (answered : Answered)
    → step most app g came ≡ Some answered → is_some answered.1 ≡ has_reply came
steps_told most app g (Open input login limited area) answered e =
    silent_told (Open input login limited area) _ answered e refl
steps_told most app g (Invoke session func input area) answered e =
    silent_told (Invoke session func input area) _ answered e refl
steps_told most app g (Close session area) answered e =
    let made = option_map_some _ _ answered e in ap (λ (a : Answered). is_some a.1) (sym made.2)
steps_told most app g (Cancel session) answered e =
    let made = option_map_some _ _ answered e in ap (λ (a : Answered). is_some a.1) (sym made.2)
steps_told most app g (Seen number done_by_now) answered e = silent_told (Seen number done_by_now) _ answered e refl
steps_told most app g (Room number enough) answered e = silent_told (Room number enough) _ answered e refl
steps_told most app g (Back number input) answered e = silent_told (Back number input) _ answered e refl
steps_told most app g (Out number) answered e =
    option_and_then_some (goes_out most g number) (get g.calls number) answered e
    (λ (call : GroupCall) there onward. goes_told most g number call answered onward)

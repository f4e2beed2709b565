-- Which events have a reply: those at which a call goes out. So are those of the machine.
use Rattle.std.proofs.Common.{◌≡◌, ℕ, Bool, true, false, Option, Some, None, refl, ap, subst, sym, ◌∙◌}
use Rattle.std.specs.Prelude.{if◌then◌else◌, is_some}
use Rattle.std.specs.Option.{option_and_then, option_map}
use Rattle.std.proofs.lemmas.Option.{option_and_then_some}
use Rattle.base.specs.NumberMap.{get}
use Rattle.kernel_model.specs.Application.{Application}
use Rattle.kernel_model.specs.Kernel.{Asks, CallPhase, Ends}
use Rattle.kernel_model.specs.Kernel.{Runs}
use Rattle.kernel_model.specs.Kernel.{Waits}
use Rattle.kernel_model.proofs.Parts.{option_map_some}
use Rattle.own_model.specs.declared.own_event.OwnEvent.{OwnEvent}
use Rattle.own_model.specs.declared.own_event.OwnEvent.TheVariants.{Back, Cancel, Close, Invoke, Limited, Open, Out, Seen}
use Rattle.own_model.specs.declared.own_reply.OwnReply.{OwnReply}
use Rattle.own_model.specs.Solo.{Answered, Going, Solo, OwnCall, going_in, goes_out, goes_out_in, leaves, silent, step}

-- a call goes out, and is told something
abbrev pub has_reply : OwnEvent → Bool
has_reply (Open params login area) = false
has_reply (Invoke func input area) = false
has_reply (Close area) = false
has_reply Cancel = false
has_reply (Seen number done_by_now) = false
has_reply (Back number input) = false
has_reply (Out number) = true
has_reply Limited = true

-- ---- the machine

silent_told : (came : OwnEvent) (found : Option Solo) (answered : Answered) → option_map silent found ≡ Some answered
    → has_reply came ≡ false → is_some answered.1 ≡ has_reply came
silent_told came found answered e none =
    let made = option_map_some silent found answered e in
    ap (λ (a : Answered). is_some a.1) (sym made.2) ∙ sym none

told_so : (one answered : Answered) → Some one ≡ Some answered → is_some one.1 ≡ true → is_some answered.1 ≡ true
told_so one answered e told = let is : one ≡ answered = cc in subst (λ (a : Answered). is_some a.1 ≡ true) is told

leaves_told : (z : Solo) (number : ℕ) (call : OwnCall) (result : OwnReply) → is_some (leaves z number call result).1 ≡ true
leaves_told z number call result = by call.buffer _ _ refl refl
  where
    by : (buffer : Bool) (first second : Answered) → is_some first.1 ≡ true → is_some second.1 ≡ true
        → is_some (if buffer then first else second).1 ≡ true
    by true first second one other = one
    by false first second one other = other

out_in_told : (z : Solo) (number : ℕ) (call : OwnCall) (phase : CallPhase) (answered : Answered)
    → goes_out_in z number call phase ≡ Some answered → is_some answered.1 ≡ true
out_in_told z number call (Runs job) answered e = absurd cc
out_in_told z number call (Asks job wanted payload) answered e = told_so _ answered e refl
out_in_told z number call (Waits params) answered e = told_so _ answered e refl
out_in_told z number call (Ends result params told (Some woken)) answered e = told_so _ answered e refl
out_in_told z number call (Ends result params told None) answered e =
    told_so _ answered e (leaves_told z number call _)

goes_told : (most : ℕ) (z : Solo) (number : ℕ) (call : OwnCall) (answered : Answered)
    → goes_out most z number call ≡ Some answered → is_some answered.1 ≡ true
goes_told most z number call answered e =
    option_and_then_some _ (going_in most z call call.phase) answered e
    (λ (going : Going) there onward. out_in_told going.solo number going.call going.call.phase answered onward)

pub steps_told : (most : ℕ) (app : Application) (z : Solo) (came : OwnEvent) (answered : Answered)
    → step most app z came ≡ Some answered → is_some answered.1 ≡ has_reply came
steps_told most app z (Open params login area) answered e = silent_told (Open params login area) _ answered e refl
steps_told most app z (Invoke func input area) answered e = silent_told (Invoke func input area) _ answered e refl
steps_told most app z (Close area) answered e =
    let made = option_map_some _ _ answered e in
    ap (λ (a : Answered). is_some a.1) (sym made.2)
steps_told most app z Cancel answered e =
    ap (λ (o : Option Answered). is_some (option_and_then (λ (a : Answered). a.1) o)) (sym e)
steps_told most app z (Seen number done_by_now) answered e = silent_told (Seen number done_by_now) _ answered e refl
steps_told most app z (Back number input) answered e = silent_told (Back number input) _ answered e refl
steps_told most app z (Out number) answered e =
    option_and_then_some (goes_out most z number) (get z.calls number) answered e
    (λ (call : OwnCall) there onward. goes_told most z number call answered onward)
steps_told most app z Limited answered e = told_so _ answered e refl

-- Of which new calls an event of a session is noted.
use Rattle.std.proofs.Common.{◌≡◌, ℕ, Bool, true, false, Option, Some, None, refl, ap, ◌∙◌, arith}
use Rattle.std.specs.Prelude.{◌==◌, if◌then◌else◌, is_some}
use Rattle.std.proofs.lemmas.Bool.Decides.{nat_tests}
use Rattle.kernel_model.specs.Kernel.{PendingCall}
use Rattle.kernel_model.proofs.Parts.{if-both}
use Rattle.own_model.proofs.Lookups.{apart_numbers}
use Rattle.own_model.specs.declared.own_event.OwnEvent.{OwnEvent}
use Rattle.own_model.specs.Own.{event_in, event_of}

pub same_event : (a b : OwnEvent) → Some a ≡ Some b → a ≡ b
same_event a b e = cc

pub not_both : {P : Type 0} (came : OwnEvent) → None ≡ Some came → P
not_both came e = absurd cc

-- what is noted is of the session
pub noted_is : (number session : ℕ) (found : Option OwnEvent) (came : OwnEvent)
    → (if number == session then found else None) ≡ Some came
    → (number ≡ session) × (found ≡ Some came)
noted_is number session found came e = by_test (number == session) refl e
  where
    same : (a b : ℕ) → (a == b) ≡ true → a ≡ b
    same a b is = grind (arith, nat_tests)

    by_test : (test : Bool) → (number == session) ≡ test → (if test then found else None) ≡ Some came
        → (number ≡ session) × (found ≡ Some came)
    by_test true is noted = (same number session is, noted)
    by_test false is noted = absurd cc

-- none of a call whose entry settled it before it had a session
pub untold_unnoted : (session : ℕ) (call : PendingCall)
    → event_of session call ≡ (if call.session == session then None else None) → event_of session call ≡ None
untold_unnoted session call of = of
    ∙ if-both (λ (o : Option OwnEvent). o ≡ None) (call.session == session) None None refl refl

-- nor of a call of another session
pub other_unnoted : (session : ℕ) (call : PendingCall) → (call.session ≡ session → ⊥) → event_of session call ≡ None
other_unnoted session call apart =
    ap (λ b. if b then event_in (is_some call.area) call.settled call.kind call.phase else None)
    (apart_numbers call.session session apart (call.session == session) refl)

-- A call that comes in to a session's code.
use Rattle.std.proofs.Common.{◌≡◌, ℕ, zero, suc, ◌+◌, List, [], ◌∷◌, ◌++◌, Option, Some, refl, sym, ap, subst, ◌∙◌}
use Rattle.std.proofs.lemmas.List.{length-append}
use Rattle.std.specs.Prelude.{length, slice_get, Result, Ok, Err, OnOk}
use Rattle.std.specs.Global.{Box}
use Rattle.base.specs.NumberMap.{get, insert}
use Rattle.own_model.proofs.InOrder.{by_numbers}
use Rattle.own_model.proofs.Maps.{get-insert-other, get-insert-same}
use Rattle.own_model.specs.Solo.{OwnCall, Solo, counted}
use Rattle.rpc_cont.specs.declared.cont.Cont.{Cont}
use Rattle.solo.specs.Calls.{IsCall}
use Rattle.solo.specs.Standing.{IsCallAt, StandsFor, without_calls}
use Rattle.solo.specs.declared.solo_session.SoloSession.{SoloSession}

-- a call that may be there
abbrev Kept : Type 0
Kept = Option (Box (Cont (List ℕ)))

-- ---- a list with one more

pub last_there : {X : Type 0} (xs : List X) (x : X) → slice_get (xs ++ x ∷ []) (length xs) ≡ Some x
last_there [] x = refl
last_there (first ∷ xs) x = last_there xs x

pub others_there : {X : Type 0} (xs : List X) (x : X) (i : ℕ) → (i ≡ length xs → ⊥) → slice_get (xs ++ x ∷ []) i ≡ slice_get xs i
others_there [] x zero apart = absurd (apart refl)
others_there [] x (suc i) apart = refl
others_there (first ∷ xs) x zero apart = refl
others_there (first ∷ xs) x (suc i) apart = others_there xs x i (λ e. apart (ap suc e))

-- what holds of a success follows from what else does
pub on_ok : {T E : Type 0} (result : Result T E) (P Q : Type 0) → (P → Q) → OnOk result P → OnOk result Q
on_ok (Ok value) P Q so holds = so holds
on_ok (Err fault) P Q so holds = holds

-- ---- the same calls

-- where the calls are those that were, it stands for what it did
pub stands_still : (s new : SoloSession) (solo : Solo) → new ≡ record s { calls = new.calls } → new.calls.items ≡ s.calls.items →
    StandsFor s solo → StandsFor new solo
stands_still s new solo stays same stands = record {
  beside = stands.beside ∙ sym (ap without_calls stays
      ∙ ap (λ (calls : List Kept). record (without_calls s) { entered = length calls }) same);
  calls = λ number. subst (λ (calls : List Kept). IsCallAt (slice_get calls number) (get solo.calls number)) (sym same) (stands.calls number);
}

-- ---- one more call

-- it has the next number
pub added : (s new : SoloSession) (solo : Solo) (cont : Box (Cont (List ℕ))) (own : OwnCall) → new ≡ record s { calls = new.calls } →
    new.calls.items ≡ s.calls.items ++ Some cont ∷ [] → StandsFor s solo → IsCall cont.value own →
    StandsFor new (record (counted solo) { calls = insert solo.calls solo.entered own })
added s new solo cont own stays after stands is = record {
  beside = ap (λ (base : Solo). record base { entered = base.entered + 1 }) stands.beside
      ∙ sym (ap without_calls stays
      ∙ ap (λ (entered : ℕ). record (without_calls s) { entered = entered })
      (ap (λ (calls : List Kept). length calls) after ∙ length-append s.calls.items (Some cont ∷ [])));
  calls = λ number. by_numbers number solo.entered (λ e. here number e) (λ apart. there number apart);
}
  where
    next : solo.entered ≡ length s.calls.items
    next = ap (λ (base : Solo). base.entered) stands.beside

    stands_at : IsCallAt (slice_get new.calls.items solo.entered) (get (insert solo.calls solo.entered own) solo.entered)
    stands_at =
        let found : slice_get new.calls.items solo.entered ≡ Some (Some cont) =
        ap (slice_get new.calls.items) next ∙ ap (λ (calls : List Kept). slice_get calls (length s.calls.items)) after
        ∙ last_there s.calls.items (Some cont) in
        subst (λ (f : Option Kept). IsCallAt f (get (insert solo.calls solo.entered own) solo.entered)) (sym found)
        (subst (λ (o : Option OwnCall). IsCallAt (Some (Some cont)) o) (sym (get-insert-same solo.calls solo.entered own)) is)

    here : (number : ℕ) → number ≡ solo.entered → IsCallAt (slice_get new.calls.items number) (get (insert solo.calls solo.entered own) number)
    here number e =
        subst (λ (n : ℕ). IsCallAt (slice_get new.calls.items n) (get (insert solo.calls solo.entered own) n)) (sym e) stands_at

    there : (number : ℕ) → (number ≡ solo.entered → ⊥) →
        IsCallAt (slice_get new.calls.items number) (get (insert solo.calls solo.entered own) number)
    there number apart =
        let found : slice_get new.calls.items number ≡ slice_get s.calls.items number =
        ap (λ (calls : List Kept). slice_get calls number) after
        ∙ others_there s.calls.items (Some cont) number (λ e. apart (e ∙ sym next)) in
        subst (λ (f : Option Kept). IsCallAt f (get (insert solo.calls solo.entered own) number)) (sym found)
        (subst (λ (o : Option OwnCall). IsCallAt (slice_get s.calls.items number) o)
        (sym (get-insert-other solo.calls solo.entered own number (λ e. apart (sym e)))) (stands.calls number))

-- No value is pending twice, whatever calls of a desk came before.
use Rattle.std.proofs.Common.{◌≡◌, ◌≢◌, ℕ, suc, Bool, true, false, cond, ◌==◌, List, [], ◌∷◌, ◌++◌, drop, refl, arith}
use Rattle.std.specs.List.{AllPairs, list_any}
use Rattle.notif.specs.Desk.{DeskState, noted, value_to_note}
use Rattle.notif.specs.History.{Enable, Signal, Next, BottomHalf, Stop, desk_after}
use Rattle.notif.specs.Laws.{ValuesPendOnce}
use Rattle.notif.proofs.Pending.{apart_after_note}

abbrev Apart : List ℕ → Type 0
Apart pending = AllPairs (λ earlier later. earlier ≢ later) pending

none_apart : Apart []
none_apart i j d before inside = absurd (omega arith)

rest_apart : (pending : List ℕ) → Apart pending → Apart (drop 1 pending)
rest_apart [] apart i j d before inside = apart i j d before inside
rest_apart (first ∷ rest) apart i j d before inside = apart (suc i) (suc j) d (omega arith) (omega arith)

noted_apart : (pending : List ℕ) (value : ℕ) → Apart pending → Apart (noted pending value)
noted_apart pending value apart = by_test (list_any (λ kept. kept == value) pending) refl
  where
    by_test : (b : Bool) → list_any (λ kept. kept == value) pending ≡ b → Apart (cond b pending (pending ++ value ∷ []))
    by_test true is = apart
    by_test false absent = apart_after_note pending value apart absent

pub values_pend_once : ValuesPendOnce
values_pend_once drivers [] = none_apart
values_pend_once drivers (Enable ∷ before) = values_pend_once drivers before
values_pend_once drivers (Signal value ∷ before) =
    either (desk_after drivers before).enabled _ (desk_after drivers before)
    (noted_apart (desk_after drivers before).pending (value_to_note (desk_after drivers before).counts value) (values_pend_once drivers before))
    (values_pend_once drivers before)
  where
    either : (b : Bool) (one other : DeskState) → Apart one.pending → Apart other.pending → Apart (cond b one other).pending
    either true one other first second = first
    either false one other first second = second
values_pend_once drivers (Next ∷ before) = rest_apart (desk_after drivers before).pending (values_pend_once drivers before)
values_pend_once drivers (BottomHalf ∷ before) = values_pend_once drivers before
values_pend_once drivers (Stop ∷ before) = none_apart

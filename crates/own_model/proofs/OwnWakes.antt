-- Whom a call wakes, kept by its number.
use Rattle.std.proofs.Common.{◌≡◌, ℕ, true, false, Option, Some, None, refl, ap}
use Rattle.std.proofs.Common.{◌∙◌}
use Rattle.std.specs.Prelude.{is_some}
use Rattle.std.specs.Option.{option_map_or, option_or}
use Rattle.base.specs.NumberMap.{NumberMap, get, insert}
use Rattle.ta_params.specs.declared.call_result.CallResult.{CallResult}
use Rattle.ta_params.specs.declared.copied_params.CopiedParams.{CopiedParams}
use Rattle.kernel_model.specs.Instances.{is_held}
use Rattle.kernel_model.specs.Kernel.{CallPhase, Ends, Instance}
use Rattle.own_model.proofs.Maps.{get-insert-other, get-insert-same}
use Rattle.own_model.specs.Own.{Numbering, wake_kept, wake_of, with_wake}
use Rattle.own_model.specs.Tied.{FoundAlike, HoldersAlike, WakesAlike}

-- ---- who is woken

pub held_alike : (numbers : NumberMap ℕ) (kept own : Option Instance) → FoundAlike numbers kept own
    → option_map_or is_held kept false ≡ option_map_or is_held own false
held_alike numbers None None alike = refl
held_alike numbers (Some kept) (Some own) alike = by_holder kept.holder own.holder alike.holders
  where
    by_holder : (first second : Option ℕ) → HoldersAlike numbers first second → is_some first ≡ is_some second
    by_holder None None holders = refl
    by_holder (Some slot) (Some number) holders = refl
    by_holder None (Some number) holders = absurd holders
    by_holder (Some slot) None holders = absurd holders
held_alike numbers None (Some own) alike = absurd alike
held_alike numbers (Some kept) None alike = absurd alike

-- ---- how it is kept

-- by an exit in this phase its number is kept
pub record KeepsWake (numbering : Numbering) (slot : ℕ) (phase : CallPhase) (woken : Option ℕ) : Type 0 where
  pub wakes : NumberMap ℕ
  pub is : with_wake numbering slot (wake_kept numbering slot (wake_of phase)) ≡ record numbering { wakes = wakes }
  pub others : (at : ℕ) → (slot ≡ at → ⊥) → get wakes at ≡ get numbering.wakes at
  pub number : wake_kept numbering slot (wake_of phase) ≡ woken

-- nobody is kept anew
pub keeps_none : (numbering : Numbering) (slot : ℕ) (phase : CallPhase) → wake_kept numbering slot (wake_of phase) ≡ None
    → KeepsWake numbering slot phase None
keeps_none numbering slot phase none = record {
  wakes = numbering.wakes;
  is = ap (λ (o : Option ℕ). with_wake numbering slot o) none;
  others = λ at apart. refl;
  number = none;
}

-- what is kept of a call that has ended
pub record KeepsEnd (numbering : Numbering) (slot : ℕ) (result : CallResult) (params : CopiedParams)
    (wakes woken : Option ℕ) : Type 0 where
  pub keeps : KeepsWake numbering slot (Ends result params true wakes) woken
  pub alike : WakesAlike (get keeps.wakes slot) wakes woken

keeps_some : (numbering : Numbering) (slot woken number : ℕ) (result : CallResult) (params : CopiedParams)
    → option_or (get numbering.wakes slot) (get numbering.in_slots woken) ≡ Some number
    → KeepsEnd numbering slot result params (Some woken) (Some number)
keeps_some numbering slot woken number result params is = record {
  keeps = record {
    wakes = insert numbering.wakes slot number;
    is = ap (λ (o : Option ℕ). with_wake numbering slot o) is;
    others = λ at apart. get-insert-other numbering.wakes slot number at apart;
    number = is;
  };
  alike = get-insert-same numbering.wakes slot number;
}

keeps_nobody : (numbering : Numbering) (slot : ℕ) (result : CallResult) (params : CopiedParams)
    → KeepsEnd numbering slot result params None None
keeps_nobody numbering slot result params =
    record { keeps = keeps_none numbering slot (Ends result params true None) refl; alike = tt }

-- of one whose result is told now
pub keeps_shown : (numbering : Numbering) (slot : ℕ) (result : CallResult) (params : CopiedParams)
    (wakes woken : Option ℕ) → get numbering.wakes slot ≡ None
    → HoldersAlike numbering.in_slots wakes woken → KeepsEnd numbering slot result params wakes woken
keeps_shown numbering slot result params None None none alike = keeps_nobody numbering slot result params
keeps_shown numbering slot result params (Some other) (Some number) none alike =
    keeps_some numbering slot other number result params
    (ap (λ (o : Option ℕ). option_or o (get numbering.in_slots other)) none ∙ alike)
keeps_shown numbering slot result params None (Some number) none alike = absurd alike
keeps_shown numbering slot result params (Some other) None none alike = absurd alike

-- and of one whose result was told already
pub keeps_told : (numbering : Numbering) (slot : ℕ) (result : CallResult) (params : CopiedParams)
    (wakes woken : Option ℕ)
    → WakesAlike (get numbering.wakes slot) wakes woken → KeepsEnd numbering slot result params wakes woken
keeps_told numbering slot result params None None alike = keeps_nobody numbering slot result params
keeps_told numbering slot result params (Some other) (Some number) alike =
    keeps_some numbering slot other number result params
    (ap (λ (o : Option ℕ). option_or o (get numbering.in_slots other)) alike)
keeps_told numbering slot result params None (Some number) alike = absurd alike
keeps_told numbering slot result params (Some other) None alike = absurd alike

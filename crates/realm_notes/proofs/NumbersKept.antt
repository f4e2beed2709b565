-- The code's numbers of calls stay those of the definitions.
use Rattle.std.proofs.Common.{◌≡◌, ℕ, ◌+◌, ◌<◌, true, List, length, Option, Some, None, ap, ◌∙◌}
use Rattle.std.specs.Prelude.{is_some, slice_set}
use Rattle.base.specs.NumberMap.{get, insert}
use Rattle.own_model.specs.Own as own
use Rattle.realm_notes.proofs.Away.{drop_number, put_number}
use Rattle.realm_notes.specs.Numbers.{AreNumbers, number_at, without_slot}
use Rattle.realm_notes.specs.declared.numbering.Numbering.{Numbering}

module _ (old new : Numbering) (numbers : own.Numbering) (are : AreNumbers old numbers) (slot : ℕ) where
  pub next_numbers : slot < length old.in_slots → new.entered ≡ old.entered + 1
      → new.in_slots ≡ slice_set old.in_slots slot (Some old.entered) → new.wakes ≡ old.wakes
      → AreNumbers new (own.next_in numbers slot)
  next_numbers below more slots wakes = record {
    entered = more ∙ ap (λ n. n + 1) are.entered;
    in_slots = λ at. ap (λ (ns : List (Option ℕ)). number_at ns at) slots
        ∙ put_number old.in_slots numbers.in_slots slot old.entered below are.in_slots at
        ∙ ap (λ n. get (insert numbers.in_slots slot n) at) are.entered;
    wakes = λ at. ap (λ (ns : List (Option ℕ)). number_at ns at) wakes ∙ are.wakes at;
  }

  pub woken_numbers : (woken : ℕ) → slot < length old.wakes → new.entered ≡ old.entered → new.in_slots ≡ old.in_slots
      → new.wakes ≡ slice_set old.wakes slot (Some woken) → AreNumbers new (own.with_wake numbers slot (Some woken))
  woken_numbers woken below same slots wakes = record {
    entered = same ∙ are.entered;
    in_slots = λ at. ap (λ (ns : List (Option ℕ)). number_at ns at) slots ∙ are.in_slots at;
    wakes = λ at. ap (λ (ns : List (Option ℕ)). number_at ns at) wakes
        ∙ put_number old.wakes numbers.wakes slot woken below are.wakes at;
  }

  pub some_woken : (woken : Option ℕ) → is_some woken ≡ true → slot < length old.wakes → new.entered ≡ old.entered
      → new.in_slots ≡ old.in_slots → new.wakes ≡ slice_set old.wakes slot woken
      → AreNumbers new (own.with_wake numbers slot woken)
  some_woken None some below same slots wakes = absurd cc
  some_woken (Some woken) some below same slots wakes = woken_numbers woken below same slots wakes

  pub numbers_without : slot < length old.in_slots → slot < length old.wakes → new.entered ≡ old.entered
      → new.in_slots ≡ slice_set old.in_slots slot None → new.wakes ≡ slice_set old.wakes slot None
      → AreNumbers new (without_slot numbers slot)
  numbers_without below below_too same slots wakes = record {
    entered = same ∙ are.entered;
    in_slots = λ at. ap (λ (ns : List (Option ℕ)). number_at ns at) slots
        ∙ drop_number old.in_slots numbers.in_slots slot below are.in_slots at;
    wakes = λ at. ap (λ (ns : List (Option ℕ)). number_at ns at) wakes
        ∙ drop_number old.wakes numbers.wakes slot below_too are.wakes at;
  }

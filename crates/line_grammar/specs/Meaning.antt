-- What an input means in a grammar.
use Rattle.std.specs.Prelude.{◌≡◌, ℕ, ◌⊎◌}

-- an input spells one value, or has one first fault, of a kind at a place, and not both
pub record Meaning {V K : Type 0} (Spells : V → Type 0) (IsFirstFault : ℕ → K → Type 0) : Type 0 where
  pub spells_or_is_faulty : ((value : V) × Spells value) ⊎ ((place : ℕ) × (kind : K) × IsFirstFault place kind)
  pub one_value : (one other : V) → Spells one → Spells other → one ≡ other
  pub one_fault : (place : ℕ) (kind : K) (other_place : ℕ) (other_kind : K) →
      IsFirstFault place kind → IsFirstFault other_place other_kind → (place ≡ other_place) × (kind ≡ other_kind)
  pub not_both : (value : V) (place : ℕ) (kind : K) → Spells value → IsFirstFault place kind → ⊥

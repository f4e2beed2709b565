-- A lookup in rows answers `Unknown` exactly where no row has the id, if no row has that call.
use Rattle.std.proofs.Common.{◌≡◌, ◌≢◌, ◌↔◌, ℕ, Bool, true, false, if◌then◌else◌, ◌==◌, List, [], ◌∷◌, All, refl, ◌∙◌, sym, arith, rules}
use Rattle.std.proofs.lemmas.List.Elements.{All-cons, All-nil, All-head, All-tail}
use Rattle.smc_abi.specs.declared.call.Call.{Call}
use Rattle.smc_abi.specs.declared.call.Call.TheVariants.{Unknown}
use Rattle.smc_abi.specs.Call.{call_in, call_of, call_table}

-- the row has another id
abbrev Differs : ℕ → ℕ × Call → Type 0
Differs id row = row.0 ≢ id

-- the row has a known call
abbrev Known : ℕ × Call → Type 0
Known row = row.1 ≢ Unknown

-- a choice that gave `Unknown` passed over a known call
passed_over : (b : Bool) (x y : Call) → x ≢ Unknown → (if b then x else y) ≡ Unknown → (b ≡ false) × (y ≡ Unknown)
passed_over true x y known e = absurd (known e)
passed_over false x y known e = (refl, e)

-- where no row has the id, the call is `Unknown`
call_in-absent : (rows : List (ℕ × Call)) (id : ℕ) → All (Differs id) rows → call_in rows id ≡ Unknown
call_in-absent [] id absent = refl
call_in-absent (row ∷ rows) id absent =
    let here = All-head (Differs id) row rows absent in
    let below = call_in-absent rows id (All-tail (Differs id) row rows absent) in
    grind (arith, here, below)

-- where the call is `Unknown`, no row has the id
call_in-present : (rows : List (ℕ × Call)) (id : ℕ) → All Known rows → call_in rows id ≡ Unknown → All (Differs id) rows
call_in-present [] id known unknown = All-nil (Differs id)
call_in-present (row ∷ rows) id known unknown =
    let passed = passed_over (row.0 == id) row.1 (call_in rows id) (All-head Known row rows known) unknown in
    let other : row.0 ≢ id = grind (arith, passed.0) in
    All-cons (Differs id) row rows other (call_in-present rows id (All-tail Known row rows known) passed.1)

-- no row of the table has `Unknown`
each_known : All Known call_table
each_known = search rules

-- of a call that is the id's: it is `Unknown` exactly where the id stands in no row
pub unknown_exactly : (call : Call) (id : ℕ) → call ≡ call_of id →
    (call ≡ Unknown) ↔ All (λ row. row.0 ≢ id) call_table
unknown_exactly call id is = (
  λ unknown. call_in-present call_table id each_known (sym is ∙ unknown),
  λ absent. is ∙ call_in-absent call_table id absent,
)

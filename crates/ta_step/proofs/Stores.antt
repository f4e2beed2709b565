-- How a machine goes on from what it stores and changes, and that it stays as it is where it can't.
use Rattle.std.proofs.Common.{◌≡◌, ℕ, zero, suc, ◌+◌, ◌/◌, ◌%◌, Bool, true, false, List, [], length, Option, Some, None, Result, refl, ap, sym, subst, ◌∙◌}
use Rattle.std.specs.Prelude.{if◌then◌else◌, slice_index_or, is_some}
use Rattle.std.specs.Option.{option_map_or}
use Rattle.base.specs.Bytes.{has_bytes, written}
use Rattle.ta_params.specs.declared.copied_params.GpParam.{GpParam}
use Rattle.ta_params.specs.declared.copied_params.GpParam.TheVariants.{Empty, Value, Memref}
use Rattle.ta_params.specs.declared.copied_params.CopiedParams.{CopiedParams}
use Rattle.ta_step.specs.declared.stop.Stop.{Stop}
use Rattle.ta_step.specs.State.{State, reg}
use Rattle.ta_step.specs.Outcome.{Panics, Leads, goes_on}
use Rattle.ta_step.specs.Operations.{stored}
use Rattle.ta_step.specs.SystemCalls.{changes_param}
use Rattle.ta_step.specs.Parameters.{buffer, with_buffer, with_param}
use Rattle.ta_step.specs.Addresses.{ranges, range_at, with_range, is_inside, store}

own_buffer : (p : GpParam) → with_buffer p (buffer p) ≡ p
own_buffer Empty = refl
own_buffer (Value way a b) = refl
own_buffer (Memref way buf size) = refl

own_range : (s : State) (number : ℕ) → with_range s number (slice_index_or (ranges s) number []) ≡ s
own_range s zero = refl
own_range s (suc zero) = ap (λ (p : GpParam). record s { params = record s.params { p0 = p } }) (own_buffer s.params.p0)
own_range s (suc (suc zero)) = ap (λ (p : GpParam). record s { params = record s.params { p1 = p } }) (own_buffer s.params.p1)
own_range s (suc (suc (suc zero))) = ap (λ (p : GpParam). record s { params = record s.params { p2 = p } }) (own_buffer s.params.p2)
own_range s (suc (suc (suc (suc zero)))) = ap (λ (p : GpParam). record s { params = record s.params { p3 = p } }) (own_buffer s.params.p3)
own_range s (suc (suc (suc (suc (suc number))))) = refl

not_written : (xs new : List ℕ) (place : ℕ) → has_bytes xs place (length new) ≡ false → written xs place new ≡ xs
not_written xs new place e = rw e refl

-- bytes that are not all in one range are not written
pub not_stored : (s : State) (addr : ℕ) (new : List ℕ) → is_inside s addr (length new) ≡ false → store s addr new ≡ s
not_stored s addr new e =
    ap (with_range s (addr / 0x10000000)) (not_written (range_at s addr) new (addr % 0x10000000) e)
    ∙ own_range s (addr / 0x10000000)

-- bytes were stored, or not, and it went on where they were
pub led_by_store : {Done : Type 0} (old mid new : State) (answer : Result Done Stop) (addr count : ℕ) (bytes : List ℕ) (found : Bool)
    → length bytes ≡ count → found ≡ is_inside old addr count → mid ≡ store old addr bytes
    → Leads mid (if found then goes_on mid else Panics 1) answer new → Leads old (stored old addr bytes) answer new
led_by_store old mid new answer addr count bytes true same e m h =
    let P : Bool → Type 0 = λ b. Leads old (if b then goes_on (store old addr bytes) else Panics 1) answer new in
    let inside = e ∙ ap (is_inside old addr) (sym same) in
    subst P inside (h.0, h.1 ∙ ap (λ (s : State). record s { place = s.place + 1 }) m)
led_by_store old mid new answer addr count bytes false same e m h =
    let P : Bool → Type 0 = λ b. Leads old (if b then goes_on (store old addr bytes) else Panics 1) answer new in
    let outside = e ∙ ap (is_inside old addr) (sym same) in
    subst P outside (h.0, h.1 ∙ m ∙ not_stored old addr bytes (sym outside))

-- a parameter was changed, or not, and it went on where it was
pub led_by_change : {Done : Type 0} (old new : State) (answer : Result Done Stop) (changed : Option GpParam) (params : CopiedParams) (done : Bool)
    → done ≡ is_some changed → params ≡ option_map_or (with_param old.params (reg old 0)) changed old.params
    → (let mid = record old { params = params } in Leads mid (if done then goes_on mid else Panics 5) answer new)
    → Leads old (changes_param old changed) answer new
led_by_change old new answer None params done d e h =
    let mid = record old { params = params } in
    let P : Bool → Type 0 = λ b. Leads mid (if b then goes_on mid else Panics 5) answer new in
    let panics = subst P d h in
    (panics.0, panics.1 ∙ ap (λ (ps : CopiedParams). record old { params = ps }) e)
led_by_change old new answer (Some p) params done d e h =
    let mid = record old { params = params } in
    let P : Bool → Type 0 = λ b. Leads mid (if b then goes_on mid else Panics 5) answer new in
    let on = subst P d h in
    (on.0, on.1 ∙ ap (λ (ps : CopiedParams). record old { params = ps; place = old.place + 1 }) e)

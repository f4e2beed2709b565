-- What the drivers' counts are after any calls of a desk, and that a bottom half calls the drivers that it owes.
use Rattle.std.proofs.Common.{◌≡◌, ◌∙◌, ℕ, ◌+◌, ◌<◌, Bool, true, false, not, ◌&&◌, cond, if◌then◌else◌, ◌==◌, min, nat_lt, List, [], ◌∷◌, map, refl, sym, ap, arith, lit<, zero-add}
use Rattle.std.specs.List.{filter}
use Rattle.std.proofs.lemmas.Bool.Decides.{nat_tests}
use Rattle.std.proofs.lemmas.List.{map-id}
use Rattle.std.proofs.lemmas.Simd.{map-map}
use Rattle.native_tas.specs.declared.driver_relation.DriverRelation.{DriverRelation}
use Rattle.native_tas.specs.Driver.{has_driver}
use Rattle.notif.specs.declared.driver_count.DriverCount.{DriverCount}
use Rattle.notif.specs.Desk.{DeskState, called, driver_values, signal_values, signalled, was_signalled}
use Rattle.notif.specs.History.{DeskCall, Enable, Signal, Next, BottomHalf, Stop, desk_after, is_enabled, owed_calls, signals_of}
use Rattle.notif.specs.Laws.{DesksKeepTheirDrivers, SignalsReachDrivers}

map_alike : {A B : Type 0} (f g : A → B) → ((x : A) → f x ≡ g x) → (xs : List A) → map f xs ≡ map g xs
map_alike f g alike [] = refl
map_alike f g alike (x ∷ xs) = ap (λ y. y ∷ map f xs) (alike x) ∙ ap (λ ys. g x ∷ ys) (map_alike f g alike xs)

-- ---- the counts

-- so many signals of a value
abbrev times : ℕ → ℕ → DriverCount
times value signals = record { value = value; count = min signals 4294967295 }

abbrev tally : List DeskCall → ℕ → DriverCount
tally before value = times value (signals_of value before)

-- signals count after the same calls
enabled_after : (drivers : List (ℕ × DriverRelation)) (before : List DeskCall) → (desk_after drivers before).enabled ≡ is_enabled before
enabled_after drivers [] = refl
enabled_after drivers (Enable ∷ before) = refl
enabled_after drivers (Signal value ∷ before) = either (desk_after drivers before).enabled _ (desk_after drivers before) refl ∙ enabled_after drivers before
  where
    either : (b : Bool) (one other : DeskState) → one.enabled ≡ other.enabled → (cond b one other).enabled ≡ other.enabled
    either true one other same = same
    either false one other same = refl
enabled_after drivers (Next ∷ before) = enabled_after drivers before
enabled_after drivers (BottomHalf ∷ before) = enabled_after drivers before
enabled_after drivers (Stop ∷ before) = refl

-- one signal more of a value, where signals count
one_signal : (b : Bool) (value : ℕ) (signals : ℕ → ℕ) (values : List ℕ) →
    cond b (map (signalled value) (map (λ v. times v (signals v)) values)) (map (λ v. times v (signals v)) values)
    ≡ map (λ v. times v ((if b && v == value then 1 else 0) + signals v)) values
one_signal true value signals values =
    map-map (signalled value) (λ v. times v (signals v)) values
    ∙ map_alike (λ v. signalled value (times v (signals v))) (λ v. times v ((if v == value then 1 else 0) + signals v)) (λ v. by_test v (signals v) (v == value)) values
  where
    most : (count cap : ℕ) → min (min count cap + 1) cap ≡ min (1 + count) cap
    most count cap = omega arith

    by_test : (v count : ℕ) (b : Bool) → (if b then record (times v count) { count = min (min count 4294967295 + 1) 4294967295 } else times v count) ≡ times v ((if b then 1 else 0) + count)
    by_test v count true = ap (λ (n : ℕ). let d : DriverCount = record { value = v; count = n } in d) (most count 4294967295)
    by_test v count false = ap (times v) (sym (zero-add count))
one_signal false value signals values =
    map_alike (λ v. times v (signals v)) (λ v. times v (0 + signals v)) (λ v. ap (times v) (sym (zero-add (signals v)))) values

-- the desk has for each driver its signals
counts_after : (drivers : List (ℕ × DriverRelation)) (before : List DeskCall) → (desk_after drivers before).counts ≡ map (tally before) (driver_values drivers)
counts_after drivers [] = refl
counts_after drivers (Enable ∷ before) = counts_after drivers before
counts_after drivers (Signal value ∷ before) =
    either (desk_after drivers before).enabled _ (desk_after drivers before)
    ∙ ap (λ b. cond b (map (signalled value) (desk_after drivers before).counts) (desk_after drivers before).counts) (enabled_after drivers before)
    ∙ ap (λ counts. cond (is_enabled before) (map (signalled value) counts) counts) (counts_after drivers before)
    ∙ one_signal (is_enabled before) value (λ v. signals_of v before) (driver_values drivers)
  where
    either : (b : Bool) (one other : DeskState) → (cond b one other).counts ≡ cond b one.counts other.counts
    either true one other = refl
    either false one other = refl
counts_after drivers (Next ∷ before) = counts_after drivers before
counts_after drivers (BottomHalf ∷ before) = ap (map called) (counts_after drivers before) ∙ map-map called (tally before) (driver_values drivers)
counts_after drivers (Stop ∷ before) = ap (map called) (counts_after drivers before) ∙ map-map called (tally before) (driver_values drivers)

-- ---- the calls

-- a driver's count isn't 0 where it was signalled
shows : (signals cap : ℕ) → 0 < cap → not (min signals cap == 0) ≡ nat_lt 0 signals
shows signals cap some = grind (arith, nat_tests)

-- of the drivers among these values those are called that were signalled
kept : (has : ℕ → Bool) (signals : ℕ → ℕ) (values : List ℕ) →
    filter was_signalled (map (λ v. times v (signals v)) (filter has values))
    ≡ map (λ v. times v (signals v)) (filter (λ v. has v && nat_lt 0 (signals v)) values)
kept has signals [] = refl
kept has signals (first ∷ rest) = by_driver (has first) (kept has signals rest)
  where
    count : ℕ → DriverCount
    count v = times v (signals v)

    owed : List ℕ
    owed = filter (λ v. has v && nat_lt 0 (signals v)) rest

    by_signal : (b : Bool) → cond b (times first (signals first) ∷ map (λ v. times v (signals v)) (filter (λ v. has v && nat_lt 0 (signals v)) rest)) (map (λ v. times v (signals v)) (filter (λ v. has v && nat_lt 0 (signals v)) rest))
        ≡ map (λ v. times v (signals v)) (cond b (first ∷ filter (λ v. has v && nat_lt 0 (signals v)) rest) (filter (λ v. has v && nat_lt 0 (signals v)) rest))
    by_signal true = refl
    by_signal false = refl

    by_driver : (b : Bool) → filter was_signalled (map (λ v. times v (signals v)) (filter has rest)) ≡ map (λ v. times v (signals v)) (filter (λ v. has v && nat_lt 0 (signals v)) rest)
        → filter was_signalled (map (λ v. times v (signals v)) (cond b (first ∷ filter has rest) (filter has rest)))
        ≡ map (λ v. times v (signals v)) (cond (b && nat_lt 0 (signals first)) (first ∷ filter (λ v. has v && nat_lt 0 (signals v)) rest) (filter (λ v. has v && nat_lt 0 (signals v)) rest))
    by_driver true later =
        ap (λ b. cond b (times first (signals first) ∷ filter was_signalled (map (λ v. times v (signals v)) (filter has rest))) (filter was_signalled (map (λ v. times v (signals v)) (filter has rest)))) (shows (signals first) 4294967295 (lit< tt))
        ∙ ap (λ calls. cond (nat_lt 0 (signals first)) (times first (signals first) ∷ calls) calls) later
        ∙ by_signal (nat_lt 0 (signals first))
    by_driver false later = later

pub signals_reach_drivers : SignalsReachDrivers
unfolding driver_values owed_calls
signals_reach_drivers drivers before =
    ap (filter was_signalled) (counts_after drivers before) ∙ kept (has_driver drivers) (λ v. signals_of v before) signal_values

pub desks_keep_their_drivers : DesksKeepTheirDrivers
desks_keep_their_drivers drivers before =
    ap (map (λ driver. driver.value)) (counts_after drivers before)
    ∙ map-map (λ (driver : DriverCount). driver.value) (tally before) (driver_values drivers)
    ∙ map-id (driver_values drivers)

-- Maps whose values are seen as others.
use Rattle.std.proofs.Common.{◌≡◌, ℕ, Bool, true, false, not, cond, [], ◌∷◌, map, Some, refl, ap}
use Rattle.std.specs.Option.{option_map}
use Rattle.std.specs.Ordering.{nat_cmp, eq_by_cmp}
use Rattle.std.specs.declared.cmp.Ordering.{Ordering}
use Rattle.std.specs.declared.cmp.Ordering.TheVariants.{Less, Equal, Greater}
use Rattle.std.specs.FinMap.Entries as Entries
use Rattle.base.specs.NumberMap.{NumberMap, get, insert, remove}

-- the map with its values seen so
abbrev pub seen_as : {X Y : Type 0} → (X → Y) → NumberMap X → NumberMap Y
seen_as f m = map (λ entry. (entry.0, f entry.1)) m

module _ {X Y : Type 0} (f : X → Y) where
  pub get_seen : (m : NumberMap X) (k : ℕ) → get (seen_as f m) k ≡ option_map f (get m k)
  get_seen [] k = refl
  get_seen (e ∷ es) k = by (eq_by_cmp nat_cmp k e.0) (get_seen es k)
    where
      by : (b : Bool) → get (seen_as f es) k ≡ option_map f (get es k) →
          cond b (Some (f e.1)) (get (seen_as f es) k) ≡ option_map f (cond b (Some e.1) (get es k))
      by true rest = refl
      by false rest = rest

  pub insert_seen : (m : NumberMap X) (k : ℕ) (v : X) → seen_as f (insert m k v) ≡ insert (seen_as f m) k (f v)
  insert_seen [] k v = refl
  insert_seen (e ∷ es) k v = by (nat_cmp k e.0) (insert_seen es k v)
    where
      by : (r : Ordering) → seen_as f (insert es k v) ≡ insert (seen_as f es) k (f v) →
          seen_as f (Entries.by_order r ((k, v) ∷ e ∷ es) ((e.0, v) ∷ es) (e ∷ insert es k v))
          ≡ Entries.by_order r ((k, f v) ∷ seen_as f (e ∷ es)) ((e.0, f v) ∷ seen_as f es) ((e.0, f e.1) ∷ insert (seen_as f es) k (f v))
      by Less rest = refl
      by Equal rest = refl
      by Greater rest = ap (λ l. (e.0, f e.1) ∷ l) rest

  pub remove_seen : (m : NumberMap X) (k : ℕ) → seen_as f (remove m k) ≡ remove (seen_as f m) k
  remove_seen [] k = refl
  remove_seen (e ∷ es) k = by (not (eq_by_cmp nat_cmp k e.0)) (remove_seen es k)
    where
      by : (b : Bool) → seen_as f (remove es k) ≡ remove (seen_as f es) k →
          seen_as f (cond b (e ∷ remove es k) (remove es k)) ≡ cond b ((e.0, f e.1) ∷ remove (seen_as f es) k) (remove (seen_as f es) k)
      by true rest = ap (λ l. (e.0, f e.1) ∷ l) rest
      by false rest = rest

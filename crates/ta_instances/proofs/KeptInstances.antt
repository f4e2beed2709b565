-- Each change keeps what holds of the instances.
use Rattle.std.proofs.Common.{◌≡◌, ℕ, ◌<◌, ◌^◌, true, false, List, Option, Some, None, IsSome, refl}
use Rattle.base.specs.NumberMap.{NumberMap, insert, remove}
use Rattle.base.proofs.MapLemmas.{All-insert, All-remove}
use Rattle.tee_storage.specs.declared.handle.Handle.{Handle}
use Rattle.ta_instances.specs.declared.instance.Instance.{Instance}
use Rattle.ta_instances.specs.Instance.{IsInstance, given_back, held_by, killed, made}
use Rattle.ta_instances.specs.Instances.{AreNumbered}

-- ---- each instance

false_true : false ≡ true → ⊥
false_true e = cc

none_some : {X : Type 0} (o : Option X) → o ≡ None → IsSome o → ⊥
none_some None none some = absurd (cc)
none_some (Some x) none some = absurd (cc)

pub made_is_instance : (uuid : List ℕ) (memory : Option (List ℕ)) → IsInstance (made uuid memory)
made_is_instance uuid memory = record {
  held = λ some. absurd (none_some {X = ℕ} None refl some);
  dead = λ e. absurd (false_true e);
}

pub held_is_instance : (slot : ℕ) (instance : Instance) → IsInstance (held_by slot instance)
held_is_instance slot instance = record { held = λ some. (refl, refl); dead = λ e. refl }

pub given_back_is_instance : (memory : Option (List ℕ)) (objects : NumberMap Handle) (instance : Instance) →
    (instance.dead ≡ true → memory ≡ None) → IsInstance (given_back memory objects instance)
given_back_is_instance memory objects instance dead = record {
  held = λ some. absurd (none_some {X = ℕ} None refl some);
  dead = dead;
}

pub killed_is_instance : (instance : Instance) → IsInstance (killed instance)
killed_is_instance instance = record { held = λ some. (refl, refl); dead = λ e. refl }

-- ---- all of them

pub numbered_with : (m : NumberMap Instance) (k : ℕ) (v : Instance) → AreNumbered m → k < 2 ^ 32 → IsInstance v → AreNumbered (insert m k v)
numbered_with m k v are low valid = record {
  in_range = All-insert (λ (entry : ℕ × Instance). entry.0 < 2 ^ 32) m k v are.in_range low;
  each = All-insert (λ (entry : ℕ × Instance). IsInstance entry.1) m k v are.each valid;
}

pub numbered_without : (m : NumberMap Instance) (k : ℕ) → AreNumbered m → AreNumbered (remove m k)
numbered_without m k are = record {
  in_range = All-remove (λ (entry : ℕ × Instance). entry.0 < 2 ^ 32) m k are.in_range;
  each = All-remove (λ (entry : ℕ × Instance). IsInstance entry.1) m k are.each;
}

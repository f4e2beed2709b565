-- The instances as a map from their numbers.
use Rattle.std.specs.Prelude.{ℕ, ◌<◌, ◌≤◌, ◌^◌, Bool, false, min, List, All, filter, length, map, Option, is_none, is_some}
use Rattle.std.specs.List.{reduce}
use Rattle.std.specs.Option.{option_map_or}
use Rattle.std.specs.Str.{bytes_eq}
use Rattle.base.specs.NumberMap.{NumberMap, IsRising, get, insert}
use Rattle.ta_instances.specs.declared.instance.Instance.{Instance}
use Rattle.ta_instances.specs.Instance.{IsInstance}

-- the numbers of the instances whose application has the UUID
abbrev pub numbers_with : NumberMap Instance → List ℕ → List ℕ
numbers_with instances uuid = map (λ entry. entry.0) (filter (λ entry. bytes_eq entry.1.uuid uuid) instances)

-- the least of them
abbrev pub least_with : NumberMap Instance → List ℕ → Option ℕ
least_with instances uuid = reduce min (numbers_with instances uuid)

-- an instance of this number is kept, and no call holds it
abbrev pub is_free : NumberMap Instance → ℕ → Bool
is_free instances number = option_map_or (λ instance. is_none instance.holder) (get instances number) false

-- an instance of this number is kept, and a call holds it
abbrev pub is_held : NumberMap Instance → ℕ → Bool
is_held instances number = option_map_or (λ instance. is_some instance.holder) (get instances number) false

-- the instances after the one of this number has changed
abbrev pub changed : NumberMap Instance → ℕ → (Instance → Instance) → NumberMap Instance
changed instances number change =
    option_map_or (λ instance. insert instances number (change instance)) (get instances number) instances

-- each number is a u32, and each instance is one
pub record AreNumbered (instances : NumberMap Instance) : Type 0 where
  pub in_range : All (λ entry. entry.0 < 2 ^ 32) instances
  pub each : All (λ entry. IsInstance entry.1) instances

-- what is kept: at most 80 instances
pub record AreInstances (instances : NumberMap Instance) : Type 0 where
  pub rising : IsRising instances
  pub few : length instances ≤ 80
  pub each : All (λ entry. IsInstance entry.1) instances

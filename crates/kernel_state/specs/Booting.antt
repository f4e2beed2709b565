-- What a core can be booted with, and where a UUID stands twice. This project's own.
use Rattle.std.specs.Prelude.{ℕ, ◌≤◌, Bool, List, [], ◌∷◌, ◌++◌, length, All, Option, Some, None, if◌then◌else◌}
use Rattle.std.specs.List.{list_any}
use Rattle.std.specs.Str.{bytes_eq}
use Rattle.ta_isa.specs.Spelling.{IsValid}
use Rattle.ta_isa.specs.declared.boot.Boot.{Boot}

-- 1 to 8 processors, 1 to 16 thread slots, 1 to 1024 frames, and at most 16 applications, each of a valid image. Their
-- UUIDs are free
pub record IsWithinLimits (boot : Boot) : Type 0 where
  pub some_processor : 1 ≤ boot.cpus
  pub few_processors : boot.cpus ≤ 8
  pub some_thread : 1 ≤ boot.threads
  pub few_threads : boot.threads ≤ 16
  pub some_frame : 1 ≤ boot.frames
  pub few_frames : boot.frames ≤ 1024
  pub few_apps : length boot.apps ≤ 16
  pub valid : All (λ app. IsValid app.image) boot.apps

-- the UUID is among these
abbrev pub has_uuid : List (List ℕ) → List ℕ → Bool
has_uuid uuids uuid = list_any (λ earlier. bytes_eq earlier uuid) uuids

-- the first of some UUIDs that one before it is, or one of the earlier ones
abbrev pub first_repeated : List (List ℕ) → List (List ℕ) → Option (List ℕ)
first_repeated earlier [] = None
first_repeated earlier (uuid ∷ uuids) =
    if has_uuid earlier uuid then Some uuid else first_repeated (earlier ++ uuid ∷ []) uuids

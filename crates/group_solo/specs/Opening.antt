-- A new instance.
use Rattle.std.specs.Prelude.{◌≡◌, ◌+◌, ℕ, Bool, true, false, Option, Some, None}
use Rattle.std.specs.Option.{option_map_or}
use Rattle.group_model.specs.Group.{Group, awaited_number, made}
use Rattle.kernel_model.specs.Application.{Application, uuid_of}
use Rattle.solo.specs.Standing.{instance_of}
use Rattle.solo.specs.declared.kept_instance.KeptInstance.{KeptInstance}

-- what a call has spare for that, by what it was told of room: an instance as the application's is made where there is
-- room, and else none
abbrev pub IsSpare : Application → Option Bool → Option KeptInstance → Type 0
IsSpare app (Some true) (Some kept) = instance_of (uuid_of app) kept ≡ made app
IsSpare app (Some true) None = ⊥
IsSpare app (Some false) (Some kept) = ⊥
IsSpare app (Some false) None = Unit {0}
IsSpare app None (Some kept) = ⊥
IsSpare app None None = Unit {0}

-- the number of a new instance: the one for which calls still wait, and else the next one
abbrev pub number_of_new : Group → ℕ
number_of_new g = option_map_or (λ number. number) (awaited_number g) g.next_instance

-- and the number of the next one then
abbrev pub next_behind_new : Group → ℕ
next_behind_new g = option_map_or (λ number. g.next_instance) (awaited_number g) (g.next_instance + 1)

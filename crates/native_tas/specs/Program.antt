-- What the program has built in. This project's own.
use Rattle.std.specs.Prelude.{ℕ, List, [], ◌∷◌}
use Rattle.native_tas.specs.declared.driver_relation.DriverRelation.{DriverRelation}
use Rattle.native_tas.specs.declared.driver_relation.DriverRelation.TheVariants.{Echo}
use Rattle.native_tas.specs.declared.relation.Relation.{Relation}
use Rattle.native_tas.specs.declared.relation.Relation.TheVariants.{Digest}

-- the UUID of the digest application
abbrev pub digest_uuid : List ℕ
digest_uuid =
    0x3f ∷ 0x0c ∷ 0x7a ∷ 0x11 ∷ 0x52 ∷ 0xb8 ∷ 0x4d ∷ 0x6e ∷ 0x9a ∷ 0x40 ∷ 0x0e ∷ 0x6b ∷ 0x5d ∷ 0x2c ∷ 0x8f ∷ 0x01 ∷ []

-- the applications, by UUID and relation
abbrev pub program_entries : List (List ℕ × Relation)
program_entries = (digest_uuid, Digest) ∷ []

-- the drivers, by value and relation
abbrev pub program_drivers : List (ℕ × DriverRelation)
program_drivers = (1, Echo) ∷ []

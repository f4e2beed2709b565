-- A native application in contracts: its UUID and relation, and the list of them.
use Rattle.std.specs.Prelude.{ℕ, Bool, List, Option, is_some, find}
use Rattle.std.specs.Str.{bytes_eq}
use Rattle.native_tas.specs.declared.relation.Relation.{Relation}
use Rattle.native_tas.specs.declared.native.Native.{Native}

-- what contracts see of an application
abbrev pub entry_of : {X : Type 0} {g : _} → Native X g → List ℕ × Relation
entry_of native = (native.uuid, native.relation)

-- the application with the UUID
abbrev pub find_entry : List (List ℕ × Relation) → List ℕ → Option (List ℕ × Relation)
find_entry table uuid = find (λ entry. bytes_eq entry.0 uuid) table

-- an application with the UUID is kept
abbrev pub has : List (List ℕ × Relation) → List ℕ → Bool
has table uuid = is_some (find_entry table uuid)

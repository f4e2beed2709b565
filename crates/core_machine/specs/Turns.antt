-- Who can come next: each processor comes in and goes out by turns.
use Rattle.std.specs.Prelude.{◌≡◌, ◌≤◌, Bool, true, false, List, [], ◌∷◌, Some, slice_get, slice_set}
use Rattle.core_machine.specs.declared.smc.Smc.{Smc}
use Rattle.core_machine.specs.declared.smc.Smc.TheVariants.{Comes, Leaves}

-- where these are inside, this can come: an entry of one that is there and outside, which is granted 1 to 1,000,000
-- steps, or an exit of one that is inside
abbrev pub MayCome : List Bool → Smc → Type 0
MayCome inside (Comes visitor) =
    (slice_get inside visitor.cpu ≡ Some false) × (1 ≤ visitor.steps) × (visitor.steps ≤ 1000000)
MayCome inside (Leaves cpu) = slice_get inside cpu ≡ Some true

-- which are inside after it
abbrev pub inside_after : List Bool → Smc → List Bool
inside_after inside (Comes visitor) = slice_set inside visitor.cpu true
inside_after inside (Leaves cpu) = slice_set inside cpu false

-- each of the list can come behind those before it
abbrev pub ComeInTurn : List Bool → List Smc → Type 0
ComeInTurn inside [] = Unit {0}
ComeInTurn inside (first ∷ rest) = MayCome inside first × ComeInTurn (inside_after inside first) rest

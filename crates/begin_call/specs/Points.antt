-- Entry points, as lists.
use Rattle.std.specs.Prelude.{Bool, if◌then◌else◌, List, [], ◌∷◌}
use Rattle.job_model.specs.declared.entry_point.EntryPoint.{EntryPoint}
use Rattle.job_model.specs.declared.entry_point.EntryPoint.TheVariants as entry
use Rattle.begin_call.specs.declared.points.Points.{Points}

-- all of them, in their order
abbrev pub points_of : Points → List EntryPoint
points_of points = points.first ∷ points.behind.items

-- a destroy, where the instance goes with the call
abbrev pub destroy_where : Bool → List EntryPoint
destroy_where unmakes = if unmakes then entry.Destroy ∷ [] else []

-- those of an open: its instance is made first where it is new
abbrev pub opening_points : Bool → Bool → List EntryPoint
opening_points makes unmakes = if makes then entry.Create ∷ entry.Open ∷ destroy_where unmakes else entry.Open ∷ destroy_where unmakes

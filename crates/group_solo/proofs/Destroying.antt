-- Whether destroy follows.
use Rattle.std.proofs.Common.{◌≡◌, ℕ, Bool, true, false, not, [], ◌∷◌, refl}
use Rattle.std.specs.Prelude.{◌&&◌, ◌||◌, if◌then◌else◌}
use Rattle.base.specs.NumberMap.{NumberMap}
use Rattle.begin_call.specs.Points.{destroy_where}
use Rattle.group_model.specs.Group.{GroupSession, destroy_after, has_opened}
use Rattle.job_model.specs.declared.entry_point.EntryPoint.TheVariants as point
use Rattle.kernel_model.specs.Application.{Application}
use Rattle.kernel_model.specs.Instances.{keeps_alive}

by_both : (opened kept : Bool) → destroy_where (not opened && not kept) ≡ (if opened || kept then [] else point.Destroy ∷ [])
by_both true true = refl
by_both true false = refl
by_both false true = refl
by_both false false = refl

pub destroy_so : (app : Application) (sessions : NumberMap GroupSession) (instance : ℕ) →
    destroy_where (not (has_opened sessions instance) && not (keeps_alive app)) ≡ destroy_after app sessions instance
destroy_so app sessions instance = by_both (has_opened sessions instance) (keeps_alive app)

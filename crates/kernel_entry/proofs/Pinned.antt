-- The slot pins the cookie that names its call's argument: a plan that can be applied to the tables with the pin.
use Rattle.std.proofs.Common.{◌≡◌, ℕ, Option, Some, None, ap, sym, subst}
use Rattle.kernel_model.specs.Application.{Application}
use Rattle.kernel_model.specs.Instances.{shared_instance}
use Rattle.kernel_model.specs.Kernel as model
use Rattle.kernel_model.specs.Kernel.{Instance}
use Rattle.kernel_model.specs.Located.{pins_with, with_argument_pinned}
use Rattle.kernel_state.specs.Setup.{application_of}
use Rattle.kernel_state.specs.Tables.{HasFreePages, tables_of}
use Rattle.kernel_state.specs.declared.setup.Setup.{Setup}
use Rattle.kernel_state.specs.declared.tables.Tables.{Tables}
use Rattle.new_calls.specs.Applying.{CanApply}
use Rattle.new_calls.specs.Deciding.{call_found}
use Rattle.new_calls.specs.declared.entered.Entered.{Entered}
use Rattle.new_calls.specs.declared.plan.Plan.{Plan}
use Rattle.new_calls.specs.declared.plan.Plan.TheVariants as plan
use Rattle.shm_registry.specs.Registered.{Registered}
use Rattle.kernel_entry.specs.Applying.{CanShare, CanTake, CanTakeFor, FitsPlan, MayCome}

abbrev with_registry : Tables → Registered → Tables
with_registry tables registry = record tables { registry = registry }

-- with the pin the tables are those of the definition
pub pinned_is : (tables : Tables) (registry : Registered) (entered : Entered) →
    registry ≡ record tables.registry { pins = pins_with entered.cookie tables.registry.pins entered.slot } →
    tables_of (with_registry tables registry) ≡ with_argument_pinned entered.cookie (tables_of tables) entered.slot
pinned_is tables registry entered same = ap (λ (r : Registered). tables_of (with_registry tables r)) same

-- the pool doesn't depend on it
pub pages_pinned : (setup : Setup) (tables : Tables) (registry : Registered) → HasFreePages setup tables →
    HasFreePages setup (with_registry tables registry)
pages_pinned setup tables registry has = record { frames = has.frames; free = has.free }

-- ---- nor does what a plan asks of the tables

may_come : (tables : Tables) (registry : Registered) (slot : ℕ) (app : Application) → MayCome tables slot app →
    MayCome (with_registry tables registry) slot app
may_come tables registry slot app may =
    record { valid = may.valid; rising = may.rising; in_range = may.in_range; absent = may.absent }

can_share : (tables : Tables) (registry : Registered) (app : Application) (shared : Option (ℕ × Instance)) →
    CanShare tables app shared → CanShare (with_registry tables registry) app shared
can_share tables registry app None can = record { pages = can.pages; absent = can.absent; room = can.room; number = can.number }
can_share tables registry app (Some kept) can = can

pub fits_pinned : (tables : Tables) (registry : Registered) (slot : ℕ) (plan : Plan) → FitsPlan tables slot plan →
    FitsPlan (with_registry tables registry) slot plan
fits_pinned tables registry slot (plan.Settles settled) fits = tt
fits_pinned tables registry slot (plan.Opens app login copies) fits = record {
  comes = may_come tables registry slot (application_of app) fits.comes;
  opens = record {
    share = can_share tables registry (application_of app) (shared_instance (tables_of tables).instances (application_of app)) fits.opens.share;
    room = fits.opens.room;
  };
}
fits_pinned tables registry slot (plan.Invokes session app copies) fits =
    record { comes = may_come tables registry slot (application_of app) fits.comes; works = fits.works; rising = fits.rising }
fits_pinned tables registry slot (plan.Closes session app) fits =
    record { comes = may_come tables registry slot (application_of app) fits.comes; works = fits.works; rising = fits.rising }
fits_pinned tables registry slot plan.Cancels fits = tt
fits_pinned tables registry slot (plan.KeepsBuffer cookie buffer) fits = tt
fits_pinned tables registry slot (plan.DropsBuffer cookie) fits = tt

-- the plan can be applied then
pub can_take : (tables : Tables) (registry : Registered) (entered : Entered) (plan : Plan) →
    registry ≡ record tables.registry { pins = pins_with entered.cookie tables.registry.pins entered.slot } →
    CanTake tables entered plan → CanTakeFor (with_registry tables registry) entered plan
can_take tables registry entered plan same can = record {
  boot = can.boot;
  applies = subst (λ (t : model.Tables). CanApply (call_found can.boot t entered) plan) (sym (pinned_is tables registry entered same)) can.applies;
  fits = fits_pinned tables registry entered.slot plan can.fits;
}

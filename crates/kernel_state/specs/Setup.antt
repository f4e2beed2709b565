-- What a core was booted with, as the kernel's definitions see it.
use Rattle.std.specs.Prelude.{List, map}
use Rattle.kernel_model.specs.Application.{Application, Booted, Native, OfImage, BuiltIn, booted}
use Rattle.ta_isa.specs.declared.boot.App.{App}
use Rattle.ta_isa.specs.declared.boot.Boot.{Boot}
use Rattle.kernel_state.specs.declared.setup.Application.{Application as AnyApplication}
use Rattle.kernel_state.specs.declared.setup.Application.TheVariants as any
use Rattle.kernel_state.specs.declared.setup.Setup.{Setup}
use Rattle.kernel_state.specs.declared.shared_app.SharedApp.{SharedApp}
use Rattle.kernel_state.specs.declared.terms.Terms.{Terms}

abbrev pub app_of : SharedApp → App
app_of shared = record { uuid = shared.uuid; image = shared.image.value }

-- the boot
abbrev pub boot_of : Setup → Boot
boot_of setup = record {
  cpus = setup.cpus;
  threads = setup.threads;
  frames = setup.frames;
  apps = map app_of setup.apps;
  key = setup.key;
}

-- an application
abbrev pub application_of : AnyApplication → Application
application_of (any.OfImage shared) = OfImage (app_of shared)
application_of (any.BuiltIn native) = BuiltIn native.uuid native.relation

-- the applications that are built in
abbrev pub natives_of : Setup → List Native
natives_of setup = map (λ app. (app.uuid, app.relation)) setup.natives

-- the boot, and the applications that are built in
abbrev pub booted_of_setup : Setup → Booted
booted_of_setup setup = booted (boot_of setup) (natives_of setup)

-- the boot, the applications that are built in, and the terms
pub record Basis : Type 0 where
  pub boot : Booted
  pub terms : Terms

abbrev pub basis_with : Setup → Basis
basis_with setup = record { boot = booted_of_setup setup; terms = setup.terms }

-- How the application of a UUID is found: among those of the boot, and then among those that are built in.
use Rattle.std.proofs.Common.{◌≡◌, ◌∙◌, List, map, Option, Some, None, refl, sym, ap, ap₂}
use Rattle.std.specs.List.{find}
use Rattle.std.specs.Option.{option_map, option_or}
use Rattle.std.specs.Str.{bytes_eq}
use Rattle.std.proofs.lemmas.List.Folds.{find-append}
use Rattle.kernel_model.specs.Application.{Application, BuiltIn, Native, OfImage, uuid_of}
use Rattle.kernel_model.specs.Instances as instances
use Rattle.native_tas.proofs.Mapped.{find_mapped}
use Rattle.native_tas.specs.declared.native_app.NativeApp.{NativeApp}
use Rattle.ta_isa.specs.declared.boot.App.{App}
use Rattle.kernel_state.specs.Setup.{app_of, boot_of, booted_of_setup, natives_of}
use Rattle.kernel_state.specs.declared.setup.Setup.{Setup}
use Rattle.kernel_state.specs.declared.shared_app.SharedApp.{SharedApp}

-- that of the boot, or else the one that is built in
app_in : (setup : Setup) (uuid : List _) →
    instances.app_of (booted_of_setup setup) uuid
    ≡ option_or (option_map (λ app. OfImage (app_of app)) (find (λ app. bytes_eq app.uuid uuid) setup.apps))
    (option_map (λ app. BuiltIn app.uuid app.relation) (find (λ app. bytes_eq app.uuid uuid) setup.natives))
app_in setup uuid =
    let is : Application → _ = λ app. bytes_eq (uuid_of app) uuid in
    find-append is (map (λ (app : App). OfImage app) (boot_of setup).apps) (map (λ (native : Native). BuiltIn native.0 native.1) (natives_of setup))
    ∙ ap₂ option_or
    (find_mapped (λ (app : App). OfImage app) is (boot_of setup).apps
    ∙ ap (option_map (λ (app : App). OfImage app)) (find_mapped app_of (λ app. bytes_eq app.uuid uuid) setup.apps)
    ∙ twice app_of (λ (app : App). OfImage app) (find (λ (app : SharedApp). bytes_eq app.uuid uuid) setup.apps))
    (find_mapped (λ (native : Native). BuiltIn native.0 native.1) is (natives_of setup)
    ∙ ap (option_map (λ (native : Native). BuiltIn native.0 native.1)) (find_mapped (λ (app : NativeApp). (app.uuid, app.relation)) (λ native. bytes_eq native.0 uuid) setup.natives)
    ∙ twice (λ (app : NativeApp). (app.uuid, app.relation)) (λ (native : Native). BuiltIn native.0 native.1) (find (λ (app : NativeApp). bytes_eq app.uuid uuid) setup.natives))
  where
    twice : {A B C : Type 0} (f : A → B) (h : B → C) (found : Option A) → option_map h (option_map f found) ≡ option_map (λ x. h (f x)) found
    twice f h None = refl
    twice f h (Some x) = refl

pub app_of_boot : (setup : Setup) (uuid : List _) (app shared : SharedApp) →
    Some app ≡ find (λ app. bytes_eq app.uuid uuid) setup.apps → app_of shared ≡ app_of app →
    instances.app_of (booted_of_setup setup) uuid ≡ Some (OfImage (app_of shared))
app_of_boot setup uuid app shared found same =
    app_in setup uuid
    ∙ ap (λ found. option_or (option_map (λ app. OfImage (app_of app)) found) (option_map (λ (app : NativeApp). BuiltIn app.uuid app.relation) (find (λ app. bytes_eq app.uuid uuid) setup.natives))) (sym found)
    ∙ ap (λ app. Some (OfImage app)) (sym same)

pub app_built_in : (setup : Setup) (uuid : List _) (app : Option NativeApp) →
    None ≡ find (λ app. bytes_eq app.uuid uuid) setup.apps → app ≡ find (λ app. bytes_eq app.uuid uuid) setup.natives →
    instances.app_of (booted_of_setup setup) uuid ≡ option_map (λ app. BuiltIn app.uuid app.relation) app
app_built_in setup uuid app none found =
    app_in setup uuid
    ∙ ap (λ (none : Option SharedApp). option_or (option_map (λ app. OfImage (app_of app)) none) (option_map (λ (app : NativeApp). BuiltIn app.uuid app.relation) (find (λ app. bytes_eq app.uuid uuid) setup.natives))) (sym none)
    ∙ ap (option_map (λ (app : NativeApp). BuiltIn app.uuid app.relation)) (sym found)

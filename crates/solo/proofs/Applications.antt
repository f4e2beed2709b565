-- How the application of a session is found: in the boot, or beside it.
use Rattle.std.proofs.Common.{◌≡◌, ◌∙◌, ℕ, List, map, Option, Some, None, Bor, refl, sym, ap, ap₂}
use Rattle.std.specs.List.{find}
use Rattle.std.specs.Option.{option_copied, option_map, option_or}
use Rattle.std.specs.Str.{bytes_eq}
use Rattle.std.proofs.lemmas.List.Folds.{find-append}
use Rattle.kernel_model.specs.Application.{Application, BuiltIn, Native, OfImage, booted, uuid_of}
use Rattle.kernel_model.specs.Instances.{app_of}
use Rattle.kernel_state.specs.Setup.{application_of}
use Rattle.kernel_state.specs.declared.setup.Application.{Application as AnyApplication}
use Rattle.native_tas.proofs.Mapped.{find_mapped}
use Rattle.native_tas.specs.declared.native_app.NativeApp.{NativeApp}
use Rattle.ta_isa.specs.declared.boot.App.{App}
use Rattle.ta_isa.specs.declared.boot.Boot.{Boot}

-- an application that is built in
abbrev pub native_of : NativeApp → Native
native_of app = (app.uuid, app.relation)

-- that of the boot, or else the one beside it
app_in : (boot : Boot) (natives : List Native) (uuid : List ℕ) →
    app_of (booted boot natives) uuid
    ≡ option_or (option_map (λ (app : App). OfImage app) (find (λ app. bytes_eq app.uuid uuid) boot.apps))
    (option_map (λ (native : Native). BuiltIn native.0 native.1) (find (λ native. bytes_eq native.0 uuid) natives))
app_in boot natives uuid =
    let is : Application → _ = λ app. bytes_eq (uuid_of app) uuid in
    find-append is (map (λ (app : App). OfImage app) boot.apps) (map (λ (native : Native). BuiltIn native.0 native.1) natives)
    ∙ ap₂ option_or (find_mapped (λ (app : App). OfImage app) is boot.apps) (find_mapped (λ (native : Native). BuiltIn native.0 native.1) is natives)

-- it is the boot's
pub found_in_boot : (boot : Boot) (natives : List Native) (uuid : List ℕ) (app : App) (shared : AnyApplication) →
    Some app ≡ find (λ app. bytes_eq app.uuid uuid) boot.apps → application_of shared ≡ OfImage app →
    option_map application_of (Some shared) ≡ app_of (booted boot natives) uuid
found_in_boot boot natives uuid app shared found same =
    ap (λ (own : Application). Some own) same
    ∙ ap (λ (found : Option App). option_or (option_map (λ (app : App). OfImage app) found)
    (option_map (λ (native : Native). BuiltIn native.0 native.1) (find (λ native. bytes_eq native.0 uuid) natives))) found
    ∙ sym (app_in boot natives uuid)

-- it is beside the boot, or nowhere
pub found_beside : (boot : Boot) (natives : List Native) (uuid : List ℕ) (kept : List NativeApp) (found : Option NativeApp) →
    None ≡ find (λ app. bytes_eq app.uuid uuid) boot.apps → map native_of kept ≡ natives → found ≡ find (λ app. bytes_eq app.uuid uuid) kept →
    option_map (λ (app : NativeApp). BuiltIn app.uuid app.relation) found ≡ app_of (booted boot natives) uuid
found_beside boot natives uuid kept found none same is =
    ap (option_map (λ (app : NativeApp). BuiltIn app.uuid app.relation)) is
    ∙ twice (find (λ app. bytes_eq app.uuid uuid) kept)
    ∙ ap (option_map (λ (native : Native). BuiltIn native.0 native.1)) (sym (find_mapped native_of (λ native. bytes_eq native.0 uuid) kept))
    ∙ ap (λ (all : List Native). option_map (λ (native : Native). BuiltIn native.0 native.1) (find (λ native. bytes_eq native.0 uuid) all)) same
    ∙ ap (λ (there : Option App). option_or (option_map (λ (app : App). OfImage app) there)
    (option_map (λ (native : Native). BuiltIn native.0 native.1) (find (λ native. bytes_eq native.0 uuid) natives))) none
    ∙ sym (app_in boot natives uuid)
  where
    twice : (o : Option NativeApp) →
        option_map (λ (app : NativeApp). BuiltIn app.uuid app.relation) o ≡ option_map (λ (native : Native). BuiltIn native.0 native.1) (option_map native_of o)
    twice None = refl
    twice (Some app) = refl

-- it isn't the boot's
pub none_there : (found : Option (Bor App)) (there : Option App) → option_copied found ≡ there → found ≡ None → None ≡ there
none_there found there same none = sym (ap option_copied none) ∙ same

-- With what a core can be booted. This project's own.
use Rattle.std.specs.Prelude.{◌≡◌, List, map, None}
use Rattle.kernel_model.specs.Application.{Native}
use Rattle.kernel_state.specs.Booting.{first_repeated}
use Rattle.ta_isa.specs.declared.boot.App.{App}
use Rattle.ta_isa.specs.declared.boot.Boot.{Boot}

-- no UUID stands twice among the applications of the boot and those that are built in
abbrev pub IsApart : Boot → List Native → Type 0
IsApart boot natives =
    first_repeated (map (λ (native : Native). native.0) natives) (map (λ (app : App). app.uuid) boot.apps) ≡ None

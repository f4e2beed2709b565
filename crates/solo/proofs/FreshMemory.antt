-- The memory of a new instance.
use Rattle.std.proofs.Common.{◌≡◌, ℕ, ◌*◌, List, Some, None, refl, sym, ap, ◌∙◌, arith}
use Rattle.std.specs.Prelude.{replicate}
use Rattle.base.specs.Zeros.{zeros}
use Rattle.base.proofs.ZeroLemmas.{no_zeros}
use Rattle.kernel_model.specs.Application.{pages_in}
use Rattle.kernel_model.specs.Instances.{fresh_memory}
use Rattle.kernel_state.specs.Calls.{bytes_of}
use Rattle.kernel_state.specs.Setup.{application_of}
use Rattle.kernel_state.specs.declared.setup.Application.{Application as AnyApplication}
use Rattle.kernel_state.specs.declared.setup.Application.TheVariants as any
use Rattle.kernel_state.specs.declared.shared_app.SharedApp.{SharedApp}
use Rattle.native_tas.specs.declared.native_app.NativeApp.{NativeApp}
use Rattle.rpc_cont.specs.Conts.{kept_memory}

zeros_are : (count : ℕ) → replicate count 0 ≡ zeros count
unfolding zeros
zeros_are count = refl

turned : (pages : ℕ) → pages * 4096 ≡ 4096 * pages
turned pages = omega arith

-- of an image
pub fresh_image : (app : AnyApplication) (shared : SharedApp) (memory : List ℕ) → app ≡ any.OfImage shared →
    memory ≡ replicate (shared.image.value.pages * 4096) 0 → kept_memory bytes_of (Some memory) ≡ fresh_memory (pages_in (application_of app))
fresh_image app shared memory is same =
    same ∙ zeros_are (shared.image.value.pages * 4096) ∙ ap zeros (turned shared.image.value.pages)
    ∙ ap (λ (a : AnyApplication). fresh_memory (pages_in (application_of a))) (sym is)

-- of one that is built in
pub fresh_native : (app : AnyApplication) (native : NativeApp) → app ≡ any.BuiltIn native →
    kept_memory bytes_of None ≡ fresh_memory (pages_in (application_of app))
fresh_native app native is = sym no_zeros ∙ ap (λ (a : AnyApplication). fresh_memory (pages_in (application_of a))) (sym is)

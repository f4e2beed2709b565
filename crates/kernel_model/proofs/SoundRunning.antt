-- Each job of a call can run, after each event of a legal history: so a processor that is inside has an exit.
use Rattle.std.proofs.Common.{◌≡◌, ℕ, true, false, List, [], ◌∷◌, ◌++◌, Option, Some, None, refl, ap, subst, sym}
use Rattle.std.specs.Prelude.{All, IsSome, bytes_eq, map, slice_get}
use Rattle.std.specs.Option.{option_and_then, option_map}
use Rattle.std.proofs.lemmas.List.Elements.{All-cons, All-head, All-nil, All-tail}
use Rattle.event_journal.specs.declared.event.Event.{Event}
use Rattle.job_model.specs.Beginning.{Program}
use Rattle.job_model.specs.Steps.{grant_of}
use Rattle.ta_isa.specs.Spelling.{IsValid}
use Rattle.ta_isa.specs.declared.boot.App.{App}
use Rattle.kernel_model.specs.Application.{Application, Booted, BuiltIn, IsBooted, Native, OfImage, pages_in, program_of, uuid_of}
use Rattle.kernel_model.specs.Exit.{exit_of, goes_out_from, progress_held, progress_in}
use Rattle.kernel_model.specs.History.{kernel_after}
use Rattle.kernel_model.specs.Instances.{app_of, fresh_memory, program_on}
use Rattle.kernel_model.specs.Kernel.{Asks, CallPhase, Ends, Fixed, InSlot, Instance, Kernel, PendingCall, Processor, Runs, Tables, ThreadSlot, Visit, Waits}
use Rattle.kernel_model.specs.Sound.{Always, unmarked_at, unmarked_in}
use Rattle.kernel_model.specs.SoundJobs.{ExitsCome, IsRunnable}
use Rattle.kernel_model.proofs.Parts.{if-both}
use Rattle.kernel_model.proofs.SoundBodies.{AllHold, HoldsAt, HoldsIn, all_bodies}
use Rattle.kernel_model.proofs.SoundJobs.{granted_some, still_runnable}
use Rattle.kernel_model.proofs.SoundMaps.{find-all}
use Rattle.kernel_model.proofs.SoundStarts.{Starts}
use Rattle.kernel_model.proofs.SoundWork.{works}

-- ---- applications of a boot

abbrev IsValidApp : Application → Type 0
IsValidApp (OfImage app) = IsValid app.image
IsValidApp (BuiltIn uuid relation) = Unit {0}

images_valid : (apps : List App) (natives : List Native) → All (λ (app : App). IsValid app.image) apps
    → All IsValidApp (map (λ (app : App). OfImage app) apps ++ map (λ (native : Native). BuiltIn native.0 native.1) natives)
images_valid [] natives valid = natives_valid natives
  where
    natives_valid : (some : List Native) → All IsValidApp (map (λ (native : Native). BuiltIn native.0 native.1) some)
    natives_valid [] = All-nil IsValidApp
    natives_valid (native ∷ some) = All-cons IsValidApp (BuiltIn native.0 native.1) _ tt (natives_valid some)
images_valid (app ∷ apps) natives valid =
    All-cons IsValidApp (OfImage app) _ (All-head (λ (any : App). IsValid any.image) app apps valid)
    (images_valid apps natives (All-tail (λ (any : App). IsValid any.image) app apps valid))

apps_valid : (boot : Booted) → IsBooted boot → All IsValidApp boot.apps
apps_valid boot booted =
    subst (λ (b : Booted). All IsValidApp b.apps) (sym booted.same) (images_valid booted.boot.apps booted.natives booted.is_boot.valid)

app_valid : (boot : Booted) (uuid : List ℕ) (app : Application) → IsBooted boot → app_of boot uuid ≡ Some app → IsValidApp app
app_valid boot uuid app booted e = (find-all IsValidApp (λ (a : Application). bytes_eq (uuid_of a) uuid) boot.apps app (apps_valid boot booted) e).holds

-- ---- what a call begins on

valid_starts : (app : Application) (memory : List ℕ) → IsValidApp app → Starts IsRunnable (Some (program_of app)) memory
valid_starts (OfImage app) memory valid = λ point machine is. valid
valid_starts (BuiltIn uuid relation) memory valid = (tt, λ func. tt)

kept_valid : (boot : Booted) (instance : Instance) → IsBooted boot → Starts IsRunnable (program_on boot instance) instance.memory
kept_valid boot instance booted =
    if-both (λ (found : Option Program). Starts IsRunnable found instance.memory) instance.dead None (option_map program_of (app_of boot instance.uuid)) tt
    (found (app_of boot instance.uuid) refl)
  where
    found : (o : Option Application) → app_of boot instance.uuid ≡ o → Starts IsRunnable (option_map program_of o) instance.memory
    found None e = tt
    found (Some app) e = valid_starts app instance.memory (app_valid boot instance.uuid app booted e)

pub all_run : (boot : Booted) (history : List Event) (kernel : Kernel) → IsBooted boot → kernel_after boot history ≡ Some kernel
    → AllHold IsRunnable (unmarked_at kernel.slots)
all_run boot history kernel booted e =
    all_bodies IsRunnable still_runnable boot (λ before k there. record {
      made = λ uuid app is. valid_starts app (fresh_memory (pages_in app)) (app_valid boot uuid app booted is);
      kept = λ number instance kept unheld. kept_valid boot instance booted;
    }) history kernel e

-- ---- exits

mapped_some : {A B : Type 0} (f : A → B) (o : Option A) → IsSome o → IsSome (option_map f o)
mapped_some f None some = absurd cc
mapped_some f (Some a) some = refl

progress_some : (tables : Tables) (call : PendingCall) (granted : ℕ) (phase : CallPhase) → HoldsIn IsRunnable phase → IsSome (progress_in tables call granted phase)
progress_some tables call granted (Runs job) runs = mapped_some _ (grant_of granted job) (granted_some granted job runs)
progress_some tables call granted (Asks job wanted payload) runs = refl
progress_some tables call granted (Waits params) runs = refl
progress_some tables call granted (Ends result params false wakes) runs = refl
progress_some tables call granted (Ends result params true wakes) runs = refl

pub exits_come : Always ExitsCome
exits_come boot history kernel booted e cpu count regs (Fixed answer) inside =
    subst (λ (p : Option Processor). IsSome (option_and_then (exit_of kernel cpu) p)) (sym inside) refl
exits_come boot history kernel booted e cpu count regs (InSlot slot) inside =
    let visit : Visit = record { cpu = cpu; regs = regs; steps = count } in
    let mine = (works boot history kernel e).work cpu slot count regs inside in
    let runs : HoldsIn IsRunnable mine.0.phase = subst (HoldsAt IsRunnable) (ap (λ (o : Option ThreadSlot). option_and_then unmarked_in o) mine.1) (all_run boot history kernel booted e slot) in
    let progress : IsSome (option_and_then (progress_held kernel.tables count) (slice_get kernel.slots slot)) =
    subst (λ (o : Option ThreadSlot). IsSome (option_and_then (progress_held kernel.tables count) o)) (sym mine.1)
    (progress_some kernel.tables mine.0 count mine.0.phase runs) in
    subst (λ (p : Option Processor). IsSome (option_and_then (exit_of kernel cpu) p)) (sym inside)
    (mapped_some (goes_out_from kernel visit slot) _ progress)

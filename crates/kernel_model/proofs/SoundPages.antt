-- A machine's memory is the pages of its image, after each event of a legal history.
use Rattle.std.proofs.Common.{◌≡◌, ℕ, ◌*◌, Bool, true, false, List, length, Option, Some, None, ap, subst, sym, ◌∙◌}
use Rattle.std.specs.Prelude.{if◌then◌else◌}
use Rattle.std.specs.Option.{option_map, option_map_or}
use Rattle.base.proofs.MapLemmas.{All-get}
use Rattle.base.proofs.ZeroLemmas.{length-zeros}
use Rattle.job_model.specs.Job.{Machine, Native, Nothing}
use Rattle.kernel_model.specs.Application.{Application, Booted, BuiltIn, OfImage, pages_in, program_of}
use Rattle.kernel_model.specs.Instances.{app_of, fresh_memory, program_on}
use Rattle.kernel_model.specs.Kernel.{Instance, PendingCall}
use Rattle.kernel_model.specs.Sound.{Always, unmarked_at}
use Rattle.kernel_model.specs.SoundMemory.{IsInMemory, memory_of}
use Rattle.kernel_model.specs.SoundPages.{HasItsPages, HaveTheirPages}
use Rattle.kernel_model.proofs.SoundBodies.{HoldsAt, StaysSo, all_bodies, works_so}
use Rattle.kernel_model.proofs.SoundMemory.{all_in_memory, has_own}
use Rattle.kernel_model.proofs.SoundStarts.{Starts}

pages_stay : StaysSo HasItsPages
pages_stay (Machine image point machine) (Machine other at later) same has = same.1 ∙ has ∙ ap (λ i. 4096 * i.pages) (sym same.0)
pages_stay (Machine image point machine) (Native relation func) same has = absurd same
pages_stay (Machine image point machine) Nothing same has = absurd same
pages_stay (Native relation func) (Machine image point machine) same has = absurd same
pages_stay (Native relation func) (Native other f) same has = tt
pages_stay (Native relation func) Nothing same has = absurd same
pages_stay Nothing (Machine image point machine) same has = absurd same
pages_stay Nothing (Native relation func) same has = absurd same
pages_stay Nothing Nothing same has = tt

app_pages : (app : Application) (memory : List ℕ) → length memory ≡ 4096 * pages_in app → Starts HasItsPages (Some (program_of app)) memory
app_pages (OfImage app) memory e = λ point machine is. ap length is ∙ e
app_pages (BuiltIn uuid relation) memory e = (tt, λ func. tt)

kept_pages : (boot : Booted) (instance : Instance) → length instance.memory ≡ memory_of boot instance
    → Starts HasItsPages (program_on boot instance) instance.memory
kept_pages boot instance e = by (app_of boot instance.uuid) instance.dead e
  where
    by : (o : Option Application) (dead : Bool) → length instance.memory ≡ (if dead then 0 else 4096 * option_map_or pages_in o 0)
        → Starts HasItsPages (if dead then None else option_map program_of o) instance.memory
    by o true is = tt
    by None false is = tt
    by (Some app) false is = app_pages app instance.memory is

pub machines_paged : Always (λ boot kernel. HaveTheirPages (unmarked_at kernel.slots))
machines_paged boot history kernel booted e slot call job there works =
    works_so HasItsPages call.phase job (subst (λ (o : Option PendingCall). HoldsAt HasItsPages o) there
    (all_bodies HasItsPages pages_stay boot (λ before k came. record {
      made = λ uuid app is. app_pages app (fresh_memory (pages_in app)) (length-zeros (4096 * pages_in app));
      kept = λ number instance kept unheld.
          let within = All-get (λ (one : ℕ × Instance). IsInMemory boot one.1) k.tables.instances number instance (all_in_memory boot before k came).instances kept in
          kept_pages boot instance (has_own boot instance within unheld);
    }) history kernel e slot)) works

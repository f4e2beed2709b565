-- A player's pass and work behind an entry, an exit, and one after the other.
use Rattle.std.proofs.Common.{◌≡◌, ℕ, List, [], ◌++◌, Option, Some, Result, Ok, Err, refl, ap, sym, subst, ◌∙◌, append_assoc}
use Rattle.std.proofs.lemmas.List.{append-nil}
use mathlib.Core.List.{IsPrefix}
use Rattle.core_lock.specs.Passes.{number, seen}
use Rattle.event_journal.specs.declared.event.Event.{Event}
use Rattle.kernel_model.specs.Application.{Booted}
use Rattle.kernel_state.specs.Entering.{Coming}
use Rattle.kernel_state.specs.declared.enter_refusal.EnterRefusal.{EnterRefusal}
use Rattle.kernel_state.specs.declared.enter_refusal.EnterRefusal.TheVariants.{Full, Memory}
use Rattle.kernel_state.specs.declared.work.Ran.{Ran}
use Rattle.kernel_state.specs.declared.work.Work.{Work}
use Rattle.normal_cpus.specs.Entering.{ComesIn, HasCome}
use Rattle.normal_cpus.specs.Laws.{WorksGoOut}
use Rattle.normal_cpus.specs.Leaving.{GoesOut}
use Rattle.normal_cpus.specs.Sharing.{CpuPass, boot_of}
use Rattle.normal_cpus.specs.declared.cpu_answer.CpuAnswer.{CpuAnswer}
use Rattle.normal_cpus.specs.declared.shared_core.SharedCore.{SharedCore}
use Rattle.threads_play.specs.Standing.{GoesOn, IsOn, IsReady}
use Rattle.threads_play.specs.declared.player.CpuPlayer.{CpuPlayer}

-- ---- prefixes

prefix_onward : (xs ys zs : List Event) → IsPrefix xs ys → IsPrefix ys zs → IsPrefix xs zs
prefix_onward xs ys zs first second = (
  first.0 ++ second.0,
  sym (append_assoc xs first.0 second.0)
      ∙ ap (λ (events : List Event). events ++ second.0) first.1 ∙ second.1,
)

-- ---- players

pub on_same : (shared : SharedCore) (old new : CpuPlayer) → new.pass ≡ old.pass → new.work ≡ old.work → IsOn shared old
    → GoesOn shared old new
on_same shared old new pass work on =
    let moved = subst (λ (p : CpuPass). (IsOn shared (record old { pass = p })) × (number p ≡ number old.pass)
    × IsPrefix (seen old.pass) (seen p)) (sym pass) (on, refl, ([], append-nil (seen old.pass))) in
    record {
      on = record {
        own = moved.0.own;
        few = moved.0.few;
        ready = subst (λ (w : Option Work). IsReady (boot_of shared) new.pass w) (sym work) moved.0.ready;
      };
      same = moved.1;
      begins = moved.2;
    }

pub on_further : (shared : SharedCore) (old mid new : CpuPlayer) → GoesOn shared old mid → GoesOn shared mid new
    → GoesOn shared old new
on_further shared old mid new first second = record {
  on = second.on;
  same = second.same ∙ first.same;
  begins = prefix_onward (seen old.pass) (seen mid.pass) (seen new.pass) first.begins second.begins;
}

-- what a pass had seen is a beginning of what it has seen behind an entry, or none
pub seen_at_entry : (boot : Booted) (old new : CpuPass) (coming : Coming) (lane : List ℕ) (result : Result Work EnterRefusal)
    → ComesIn boot old new coming lane result → IsPrefix (seen old) (seen new)
seen_at_entry boot old new coming lane (Ok work) has =
    prefix_onward (seen old) has.before (seen new) has.makes.begins (_, sym has.makes.ends)
seen_at_entry boot old new coming lane (Err (Full copied more)) has = has.0.begins
seen_at_entry boot old new coming lane (Err Memory) has = has.begins

pub seen_at_exit : (boot : Booted) (old new : CpuPass) (ran : Ran) (lane now : List ℕ) (answer : CpuAnswer)
    → GoesOut boot old new ran lane now answer → IsPrefix (seen old) (seen new)
seen_at_exit boot old new ran lane now answer has =
    prefix_onward (seen old) has.before (seen new) has.makes.begins (_, sym has.makes.ends)

-- the work of its entry can go out
pub ready_inside : (boot : Booted) (old new : CpuPass) (coming : Coming) (lane : List ℕ) (work : Work) (kept : Option Work)
    → WorksGoOut → kept ≡ Some work → number new ≡ coming.cpu → HasCome boot old new coming lane work → IsReady boot new kept
ready_inside boot old new coming lane work kept go_out is mine has =
    subst (λ (w : Option Work). IsReady boot new w) (sym is)
    (λ ran run. go_out boot old new coming lane work ran has run mine)

-- One SMC that a core has served is that of a client's call on the core.
use Rattle.std.proofs.Common.{◌≡◌, ℕ, ◌+◌, ◌≤◌, ◌^◌, Bool, List, [], ◌∷◌, ◌++◌, Option, Some, None, refl, sym, ap, subst, ◌∙◌}
use Rattle.std.specs.Prelude.{IsSome, if◌then◌else◌}
use Rattle.std.specs.Option.{option_and_then, option_map}
use Rattle.std.proofs.lemmas.Bool.{le-ltb}
use Rattle.event_journal.specs.Journal.{copied_bytes}
use Rattle.event_journal.specs.declared.event.Event.{Event}
use Rattle.event_journal.specs.declared.event.Event.TheVariants.{Entry, Exit}
use Rattle.kernel_model.specs.Application.{Booted}
use Rattle.kernel_model.specs.Kernel.{Kernel}
use Rattle.ns_ram.specs.Reads.{total_bytes}
use Rattle.ns_ram.specs.Writes.{Write, lane_after}
use Rattle.play_model.specs.Line.{Ret}
use Rattle.play_model.specs.Play.{Play, enters, lane_of, last_answer, leaves, unless_refused, with_event, with_line, with_writes}
use Rattle.play_model.proofs.EventsCome.{entries_are_read, exits_come}
use Rattle.play_model.proofs.LastAnswers.{last_answer-exit}
use Rattle.smc_abi.specs.declared.regs.Regs.{Regs}
use Rattle.smc_port.specs.Smc.{Changes, Smc}
use Rattle.client_play.specs.Served.{IsServed, events_of}
use Rattle.client_play.specs.Standing.{Standing, after_smc, answer_of, play_of, steps_granted, visit_with}

-- ---- the last answer

pub told_exit : (history : List Event) (told : Regs) → last_answer (history ++ Exit 0 told ∷ []) 0 ≡ told.a
told_exit history told = last_answer-exit history 0 told 0

-- ---- one SMC

-- the play after it
pub record StepsTo (boot : Booted) (asked : Standing) (smc : Smc) (next : Kernel) (ram : List ℕ) : Type 0 where
  pub play : Play
  pub comes : after_smc boot smc.regs asked ≡ Some play
  pub going : play.refused ≡ None
  pub kernel : play.kernel ≡ next
  pub history : play.history ≡ asked.history ++ events_of smc
  pub lane : lane_of play 0 ≡ ram
  pub answer : answer_of play ≡ smc.answer

pub append_two : (history : List Event) (first second : Event) → (history ++ first ∷ []) ++ second ∷ [] ≡ history ++ first ∷ second ∷ []
append_two [] first second = refl
append_two (event ∷ history) first second = ap (λ (events : List Event). event ∷ events) (append_two history first second)

pub one_smc : (boot : Booted) (asked : Standing) (smc : Smc) (next : Kernel) (ram : List ℕ) → IsServed boot asked.kernel smc next
    → Changes asked.ram smc ram → copied_bytes asked.history + total_bytes smc.reads ≤ 2 ^ 28 → StepsTo boot asked smc next ram
one_smc boot asked smc next ram served changes few =
    let came : Event = Entry 0 smc.regs steps_granted smc.reads in
    let between : Play = record (play_of asked) { kernel = served.inside; history = asked.history ++ came ∷ [] } in
    let follows = subst (λ (o : Option Kernel). IsSome o) (sym served.enters) refl in
    let entered : enters boot (play_of asked) (visit_with smc.regs) ≡ Some between =
    entries_are_read boot (play_of asked) (visit_with smc.regs) smc.reads (record { follows = follows; holds = changes.read })
    ∙ ap (λ (full : Bool). if full then Some (record (play_of asked) { refused = Some (total_bytes smc.reads) })
    else with_event boot came (play_of asked)) (le-ltb (2 ^ 28) (copied_bytes asked.history + total_bytes smc.reads) few)
    ∙ ap (λ (o : Option Kernel). option_map (λ (kernel : Kernel). record (play_of asked)
    { kernel = kernel; history = asked.history ++ came ∷ [] }) o) served.enters in
    let gone : Play = record between {
      kernel = served.exited.kernel;
      history = (asked.history ++ came ∷ []) ++ Exit 0 (record { a = served.exited.regs }) ∷ [];
    } in
    let after : Play = with_line (Ret 0 served.exited.regs) (with_writes 0 served.exited.writes gone) in
    let told : record { a = served.exited.regs } ≡ smc.answer = ap (λ (a : List ℕ). record { a = a }) (sym served.answered) in
    record {
      play = after;
      comes = ap (λ (o : Option Play). option_and_then (unless_refused (leaves boot 0)) o) entered
          ∙ exits_come boot between 0 served.exited served.exits;
      going = refl;
      kernel = sym served.next_is;
      history = append_two asked.history came (Exit 0 (record { a = served.exited.regs }))
          ∙ ap (λ (regs : Regs). asked.history ++ came ∷ Exit 0 regs ∷ []) told;
      lane = ap (λ (writes : List Write). lane_after asked.ram writes) (sym served.written) ∙ sym changes.written;
      answer = ap (λ (a : List ℕ). record { a = a }) (told_exit (asked.history ++ came ∷ []) (record { a = served.exited.regs })) ∙ told;
    }

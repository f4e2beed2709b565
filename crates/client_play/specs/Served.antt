-- SMCs as a core serves them, one after the other, and that a client's run of such SMCs over a port is its call on the core. A
-- port over a core has this of all SMCs that it has made.
use Rattle.std.specs.Prelude.{◌≡◌, ℕ, ◌-◌, ◌≤◌, ◌^◌, ◌⊎◌, ◌++◌, ◌∷◌, List, [], length, Option, Some}
use Rattle.std.specs.List.{flat_map}
use Rattle.std.specs.Option.{option_map_or}
use Rattle.event_journal.specs.Journal.{copied_bytes}
use Rattle.event_journal.specs.declared.event.Event.{Event}
use Rattle.event_journal.specs.declared.event.Event.TheVariants.{Entry, Exit}
use Rattle.kernel_model.specs.Application.{Booted}
use Rattle.kernel_model.specs.Exit.{Exited, exit}
use Rattle.kernel_model.specs.History.{after_event, exit_after, kernel_after}
use Rattle.kernel_model.specs.Kernel.{Kernel}
use Rattle.ns_ram.specs.Writes.{Write}
use Rattle.smc_abi.specs.declared.regs.Regs.{Regs}
use Rattle.smc_port.specs.Smc.{Smc}
use Rattle.teec.specs.Calls.{Call}
use Rattle.teec.specs.Rounds.{Ended, Failed, Stage, regs_at}
use Rattle.teec.specs.Runs.{Runs, Scene}
use Rattle.teec.specs.declared.fault.TeecFault.{TeecFault}
use Rattle.client_play.specs.Standing.{Came, Fails, Returned, Standing, Stopped, after_smc, call_from, most_returns, play_of, prepared, steps_granted, tries}

-- ---- one SMC after the other

-- the events of an SMC of processor 0
abbrev pub events_of : Smc → List Event
events_of smc = Entry 0 smc.regs steps_granted smc.reads ∷ Exit 0 smc.answer ∷ []

-- processor 0 of this kernel enters with the SMC's registers and reads just what it has read; it exits with its answer and its
-- writes
pub record IsServed (boot : Booted) (kernel : Kernel) (smc : Smc) (next : Kernel) : Type 0 where
  pub inside : Kernel
  pub enters : after_event boot kernel (Entry 0 smc.regs steps_granted smc.reads) ≡ Some inside
  pub exited : Exited
  pub exits : exit inside 0 ≡ Some exited
  pub answered : smc.answer.a ≡ exited.regs
  pub written : smc.writes ≡ exited.writes
  pub next_is : next ≡ exited.kernel

-- each of them is served by the kernel that the one before has left
abbrev pub AreServed : Booted → Kernel → List Smc → Kernel → Type 0
AreServed boot kernel [] last = last ≡ kernel
AreServed boot kernel (smc ∷ smcs) last =
    (next : Kernel) × IsServed boot kernel smc next × AreServed boot next smcs last

-- what the exit of processor 0 writes behind these events
abbrev pub exit_writes : Booted → List Event → List Write
exit_writes boot events = option_map_or (λ (exited : Exited). exited.writes) (exit_after boot events 0) []

-- each of the SMCs behind a history has the writes of its exit
abbrev pub HaveTheirWrites : Booted → List Event → List Smc → Type 0
HaveTheirWrites boot history [] = Unit {0}
HaveTheirWrites boot history (smc ∷ smcs) =
    (smc.writes ≡ exit_writes boot (history ++ Entry 0 smc.regs steps_granted smc.reads ∷ []))
    × HaveTheirWrites boot (history ++ events_of smc) smcs

-- so those whose events follow on the history were served
abbrev pub SmcsAreServed : Type 0
SmcsAreServed = (boot : Booted) (history : List Event) (kernel last : Kernel) (smcs : List Smc) →
    kernel_after boot history ≡ Some kernel → kernel_after boot (history ++ flat_map events_of smcs) ≡ Some last →
    HaveTheirWrites boot history smcs → AreServed boot kernel smcs last

-- ---- runs of a client over them

abbrev pub scene_of : Standing → Scene
scene_of standing = record { ram = standing.ram; storage = standing.storage }

-- a client's call on a core, and before the answer to which of its RPC returns it is cancelled
pub record CallOn : Type 0 where
  pub boot : Booted
  pub call : Call
  pub cancel_after : Option ℕ

-- how far a call has come: its stage, and how core, RAM and storage stand there
pub record Point : Type 0 where
  pub stage : Stage
  pub standing : Standing

abbrev pub point_of : Stage → Standing → Point
point_of stage standing = record { stage = stage; standing = standing }

-- these SMCs are those that a client makes from one point of its call to the other
abbrev pub IsMadeOf : CallOn → Point → List Smc → Point → Type 0
IsMadeOf on from smcs to =
    Runs (record { retries = tries; rounds = most_returns; cancel_after = on.cancel_after }) on.call from.stage
    (scene_of from.standing) smcs to.stage (scene_of to.standing)

-- and the core has served them: its history at the end is that of the beginning with their events. All that it has read it may have
-- read
pub record IsRun (on : CallOn) (from : Point) (smcs : List Smc) (to : Point) : Type 0 where
  pub served : AreServed on.boot from.standing.kernel smcs to.standing.kernel
  pub history : to.standing.history ≡ from.standing.history ++ flat_map events_of smcs
  pub few_bytes : copied_bytes to.standing.history ≤ 2 ^ 28
  pub runs : IsMadeOf on from smcs to

-- what the call comes to from a point on, where so many more SMCs can be made
abbrev pub comes_from : CallOn → Point → ℕ → Option Came
comes_from on from room = call_from on.boot on.cancel_after on.call room from.stage from.standing

-- a run that ends is the call on the core
abbrev pub RunsAreCalls : Type 0
RunsAreCalls = (on : CallOn) (from : Point) (smcs : List Smc) (new : Standing) (room : ℕ) →
    IsRun on from smcs (point_of Ended new) → length smcs ≤ room →
    comes_from on from room ≡ Some (Returned (room - length smcs) new)

-- there is no room for an SMC: as many were made as a client makes; or the core refuses its entry, which would have read so many
-- bytes
abbrev pub HasNoRoom : Booted → ℕ → Regs → Standing → ℕ → Type 0
HasNoRoom boot room regs asked more =
    ((room ≡ 0) × (more ≡ 0))
    ⊎ ((1 ≤ room) × (after_smc boot regs asked ≡ Some (record (play_of asked) { refused = Some more })))

-- and one that comes to a stage whose SMC has no room stops there
abbrev pub RunsStop : Type 0
RunsStop = (on : CallOn) (from to : Point) (smcs : List Smc) (room more : ℕ) (regs : Regs) →
    IsRun on from smcs to → length smcs ≤ room → regs_at to.stage ≡ Some regs →
    HasNoRoom on.boot (room - length smcs) regs (prepared on.call to.stage to.standing) more →
    comes_from on from room ≡ Some (Stopped more to.standing.history)

-- one that fails by its answers is a call that does
abbrev pub RunsFail : Type 0
RunsFail = (on : CallOn) (from to : Point) (smcs : List Smc) (room : ℕ) (fault : TeecFault) →
    IsRun on from smcs to → to.stage ≡ Failed fault → length smcs ≤ room → comes_from on from room ≡ Some (Fails fault)

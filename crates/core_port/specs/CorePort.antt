-- A port over a core: what contracts see of it, when it has room, and what an SMC makes of it. This project's own.
use Rattle.std.specs.Prelude.{◌≡◌, ◌⊎◌, ℕ, ◌+◌, ◌≤◌, ◌^◌, Bool, not, ◌&&◌, false, nat_lt, List, [], ◌∷◌, ◌++◌, length, Option, Some, None, slice_get}
use Rattle.std.specs.Option.{option_and_then, option_map_or}
use Rattle.event_journal.specs.Journal.{copied_bytes}
use Rattle.event_journal.specs.declared.event.Event.{Event}
use Rattle.kernel_model.specs.Application.{Booted}
use Rattle.kernel_model.specs.History.{IsLegal, kernel_after}
use Rattle.kernel_model.specs.Kernel.{Visit}
use Rattle.kernel_state.specs.Entering.{bytes_read}
use Rattle.play_model.specs.Line.{Ret}
use Rattle.play_model.specs.Play.{Play, enters, last_answer, leaves, unless_refused}
use Rattle.smc_abi.specs.declared.regs.Regs.{Regs}
use Rattle.smc_port.specs.Smc.{Smc}
use Rattle.core_port.specs.Smcs.{history_of, smcs_in}

-- what its core was booted with, all entries and exits of the core, and the RAM of its processor
pub record CoreView : Type 0 where
  pub boot : Booted
  pub history : List Event
  pub ram : List ℕ

-- the SMCs made are those of the history
abbrev pub smcs_made : CoreView → List Smc
smcs_made port = smcs_in port.boot port.history

-- the history is legal from the boot, and it is that of the SMCs made, one behind the other
pub record IsKernels (port : CoreView) : Type 0 where
  pub legal : IsLegal port.boot port.history
  pub just_these : port.history ≡ history_of (smcs_made port)
  pub few : length (smcs_made port) ≤ 32768

-- ---- room

-- processor 0 comes in with these registers, and is granted 10,000 steps
abbrev pub visit_with : Regs → Visit
visit_with regs = record { cpu = 0; regs = regs.a; steps = 10000 }

-- how many bytes its entry would read
abbrev pub bytes_wanted : CoreView → Regs → Option ℕ
bytes_wanted port regs = option_and_then (bytes_read port.boot port.ram (visit_with regs)) (kernel_after port.boot port.history)

-- with these, all entries would have read more than 2^28 bytes, which the core refuses
abbrev pub is_full : CoreView → Regs → Bool
is_full port regs = option_map_or (λ more. nat_lt (2 ^ 28) (copied_bytes port.history + more)) (bytes_wanted port regs) false

-- fewer than 32,768 SMCs were made, and the core doesn't refuse the entry
abbrev pub has_room : CoreView → Regs → Bool
has_room port regs = nat_lt (length (smcs_made port)) 32768 && not (is_full port regs)

-- ---- one SMC, in a play

-- the port stands at the play, whose first processor is the port's, and whose entries may read 2^28 bytes. Nothing was refused
-- there, and it may have printed lines
pub record StandsAt (port : CoreView) (play : Play) : Type 0 where
  pub kernel : kernel_after port.boot port.history ≡ Some play.kernel
  pub history : play.history ≡ port.history
  pub ram : slice_get play.lanes 0 ≡ Some port.ram
  pub limit : play.most_bytes ≡ 2 ^ 28
  pub goes_on : play.refused ≡ None

-- the play after an SMC with these registers: the processor comes in and goes out, unless its entry is refused
abbrev pub after_smc : Booted → Regs → Play → Option Play
after_smc boot regs play = option_and_then (unless_refused (leaves boot 0)) (enters boot play (visit_with regs))

-- the play comes to one at which the port stands, and prints this answer, the processor's last one
pub record ComesTo (boot : Booted) (play : Play) (regs answer : Regs) (new : CoreView) : Type 0 where
  pub next : Play
  pub after : after_smc boot regs play ≡ Some next
  pub stands : StandsAt new next
  pub printed : next.lines ≡ play.lines ++ Ret 0 answer.a ∷ []
  pub last : last_answer next.history 0 ≡ answer.a

-- an SMC with these registers was answered so, in each play at which the port stood
pub record Answers (old : CoreView) (regs answer : Regs) (new : CoreView) : Type 0 where
  pub boot : new.boot ≡ old.boot
  pub in_play : (play : Play) → StandsAt old play → ComesTo old.boot play regs answer new

-- an SMC with these registers is refused in the play, for so many bytes that it would read
abbrev pub IsRefusedIn : Booted → Play → Regs → Type 0
IsRefusedIn boot play regs = (more : ℕ) × (after_smc boot regs play ≡ Some (record play { refused = Some more }))

-- ---- laws

-- where a port has no room, all SMCs were made, or the play at which it stands refuses this one
abbrev pub NoRoomIsThePlays : Type 0
NoRoomIsThePlays = (port : CoreView) (play : Play) (regs : Regs) → StandsAt port play → has_room port regs ≡ false →
    (32768 ≤ length (smcs_made port)) ⊎ IsRefusedIn port.boot play regs

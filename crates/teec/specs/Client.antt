-- What contracts see of a client, and what stands after a call.
use Rattle.std.specs.Prelude.{◌≡◌, ℕ, Bool, List, drop, length, Option, Some, None, Result, Ok, Err}
use Rattle.smc_abi.specs.declared.regs.Regs.{Regs}
use Rattle.smc_port.specs.declared.port.PortRefusal.{PortRefusal}
use Rattle.smc_port.specs.declared.port.PortRefusal.TheVariants as port
use Rattle.smc_port.specs.Smc.{Smc}
use Rattle.supplicant.specs.Supplicant.{Storage}
use Rattle.teec.specs.declared.fault.TeecFault.{TeecFault}
use Rattle.teec.specs.declared.fault.TeecFault.TheVariants.{Memory, Retried, Rounds, Spent, Strange}
use Rattle.teec.specs.declared.limits.Limits.{Limits}
use Rattle.teec.specs.Calls.{Call}
use Rattle.teec.specs.Rounds.{Calls, Ended}
use Rattle.teec.specs.Runs.{Scene, Stopped, Went, moment}

-- the port, the storage of the supplicant, the bounds on a call, and the fault that has ended the client
pub record Calling (W : Type 0) : Type 0 where
  pub world : W
  pub storage : Storage
  pub retries : ℕ
  pub rounds : ℕ
  pub failed : Option TeecFault

-- the SMCs that were made since
abbrev pub made_since : List Smc → List Smc → List Smc
made_since old new = drop (length old) new

-- ---- what stands after a fault

-- the fault that a port's refusal is
abbrev pub fault_of : PortRefusal → TeecFault
fault_of port.Spent = Spent
fault_of port.Memory = Memory

-- a call that found no thread leaves a client as it was; each other fault ends it
abbrev pub ends_client : TeecFault → Option TeecFault
ends_client (Retried number) = None
ends_client (Rounds number) = Some (Rounds number)
ends_client (Strange answer) = Some (Strange answer)
ends_client Spent = Some Spent
ends_client Memory = Some Memory

abbrev pub failed_after : {A : Type 0} → Result A TeecFault → Option TeecFault
failed_after (Ok value) = None
failed_after (Err fault) = ends_client fault

-- ---- a call of a client that hasn't failed, as contracts see it

-- the limits of a call that is cancelled so
abbrev pub limits_of : {W : Type 0} → Calling W → Option ℕ → Limits
limits_of client cancel_after = record { retries = client.retries; rounds = client.rounds; cancel_after = cancel_after }

-- the call came to its end, or to a fault; what was made meanwhile are its SMCs
abbrev pub HasRun : {A : Type 0} → Limits → Call → Scene → List Smc → Result A TeecFault → Scene → List Smc → (Regs → Bool) → Type 0
HasRun limits call old old_made (Ok value) new new_made has_room =
    Went limits call (moment old.ram old_made old.storage (Calls 0)) (moment new.ram new_made new.storage Ended)
HasRun limits call old old_made (Err fault) new new_made has_room =
    Stopped limits call (moment old.ram old_made old.storage (Calls 0)) new new_made has_room fault

-- the client has failed with this fault now, if it was one that ends it
abbrev pub KeepsFault : {A : Type 0} → {W : Type 0} → Result A TeecFault → Calling W → Type 0
KeepsFault result new = new.failed ≡ failed_after result

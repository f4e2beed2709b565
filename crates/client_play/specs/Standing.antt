-- A client over a core: what stands between two SMCs, and one call from its first SMC to its end. The SMCs are those of
-- processor 0, whose RAM the client shares.
use Rattle.std.specs.Prelude.{ℕ, zero, suc, ◌^◌, List, [], ◌∷◌, Option, Some, None}
use Rattle.std.specs.Option.{option_and_then, option_map_or}
use Rattle.event_journal.specs.declared.event.Event.{Event}
use Rattle.kernel_model.specs.Application.{Booted}
use Rattle.kernel_model.specs.Kernel.{Kernel, Visit}
use Rattle.ns_ram.specs.Writes.{lane_after}
use Rattle.play_model.specs.Play.{Play, enters, lane_of, last_answer, leaves, unless_refused}
use Rattle.smc_abi.specs.declared.regs.Regs.{Regs}
use Rattle.supplicant.specs.Supplicant.{Storage}
use Rattle.teec.specs.Calls.{Call}
use Rattle.teec.specs.Rounds.{Calls, Cancels, Ended, Failed, Resumes, Stage, after_answer, regs_at}
use Rattle.teec.specs.declared.fault.TeecFault.{TeecFault}
use Rattle.client_play.specs.Making.{prepared_at}
use Rattle.client_play.specs.Message.{Prepared}

-- the core's kernel, with the history that has led to it; RAM as both sides see it; and the supplicant's storage
pub record Standing : Type 0 where
  pub kernel : Kernel
  pub history : List Event
  pub ram : List ℕ
  pub storage : Storage

-- ---- one SMC

-- the steps that each entry is granted
abbrev pub steps_granted : ℕ
steps_granted = 10000

-- processor 0 comes in with these registers
abbrev pub visit_with : Regs → Visit
visit_with regs = record { cpu = 0; regs = regs.a; steps = steps_granted }

-- what stands, as a play of a trace in which nothing was printed
abbrev pub play_of : Standing → Play
play_of standing = record {
  kernel = standing.kernel;
  history = standing.history;
  lanes = standing.ram ∷ [];
  lines = [];
  refused = None;
  most_bytes = 2 ^ 28;
}

-- the play after the SMC with these registers: processor 0 enters and exits, unless its entry is refused
abbrev pub after_smc : Booted → Regs → Standing → Option Play
after_smc boot regs standing =
    option_and_then (unless_refused (leaves boot 0)) (enters boot (play_of standing) (visit_with regs))

-- what it was answered
abbrev pub answer_of : Play → Regs
answer_of play = record { a = last_answer play.history 0 }

-- what stands after it
abbrev pub standing_after : Play → Storage → Standing
standing_after play storage =
    record { kernel = play.kernel; history = play.history; ram = lane_of play 0; storage = storage }

-- what is written before it
abbrev pub after_writes : Standing → Prepared → Standing
after_writes standing prepared =
    record standing { ram = lane_after standing.ram prepared.writes; storage = prepared.storage }

abbrev pub prepared : Call → Stage → Standing → Standing
prepared call stage standing = after_writes standing (prepared_at call stage standing.ram standing.storage)

-- ---- one call

-- it is made once, and so many of its RPC returns are answered
abbrev pub tries : ℕ
tries = 1

abbrev pub most_returns : ℕ
most_returns = 65536

-- how far it has come after an answer, where it is cancelled before the answer to the return of a number, or not
abbrev pub next_stage : Option ℕ → Stage → Regs → Stage
next_stage cancel_after stage answer =
    after_answer (record { retries = tries; rounds = most_returns; cancel_after = cancel_after }) stage answer

-- what a call comes to
pub data Came : Type 0 where
  -- it was answered OK; so many more SMCs can be made
  Returned : (room : ℕ) (standing : Standing) → Came
  -- its next SMC has no room: the core refuses its entry, which would have read so many bytes; or, with 0, as many SMCs were
  -- made as the client makes. Until then the core had this history
  Stopped : (more : ℕ) (history : List Event) → Came
  -- it has failed by its answers
  Fails : (fault : TeecFault) → Came

-- where it has ended at this stage, or else what its next SMC makes of it
abbrev pub unless_ended : ℕ → Stage → Standing → (Regs → Option Came) → Option Came
unless_ended room Ended standing makes = Some (Returned room standing)
unless_ended room (Failed fault) standing makes = Some (Fails fault)
unless_ended room (Calls refused) standing makes = option_and_then makes (regs_at (Calls refused))
unless_ended room (Cancels returns rpc) standing makes = option_and_then makes (regs_at (Cancels returns rpc))
unless_ended room (Resumes returns rpc) standing makes = option_and_then makes (regs_at (Resumes returns rpc))

-- it goes on after an SMC, unless its entry was refused
abbrev pub unless_full : (Play → Option Came) → Play → Option Came
unless_full onward play = option_map_or (λ more. Some (Stopped more play.history)) play.refused (onward play)

-- a call from a stage on, where so many more SMCs can be made
abbrev pub call_from : Booted → Option ℕ → Call → ℕ → Stage → Standing → Option Came
call_from boot cancel_after call zero stage standing =
    unless_ended 0 stage standing (λ regs. Some (Stopped 0 standing.history))
call_from boot cancel_after call (suc room) stage standing =
    let asked = prepared call stage standing in
    let onward = λ (play : Play).
    call_from boot cancel_after call room (next_stage cancel_after stage (answer_of play)) (standing_after play asked.storage) in
    unless_ended (suc room) stage standing (λ regs. option_and_then (unless_full onward) (after_smc boot regs asked))

-- all of it
abbrev pub called : Booted → Option ℕ → Call → ℕ → Standing → Option Came
called boot cancel_after call room standing = call_from boot cancel_after call room (Calls 0) standing

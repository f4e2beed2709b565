-- A call over a port: what the client writes to RAM before each SMC, and what its supplicant answers.
use Rattle.std.specs.Prelude.{◌≡◌, ◌≢◌, ◌⊎◌, ℕ, suc, zero, Bool, false, List, [], ◌∷◌, ◌++◌, Some}
use Rattle.ns_ram.specs.Lane.{bytes_at}
use Rattle.ns_ram.specs.Writes.{Write, lane_after}
use Rattle.rpc_msgs.specs.declared.rpc.Rpc.{Rpc}
use Rattle.supplicant.specs.Answering.{refusal_writes, reply_writes}
use Rattle.supplicant.specs.Holding.{Holds}
use Rattle.smc_abi.specs.declared.regs.Regs.{Regs}
use Rattle.smc_port.specs.Smc.{Changes, Smc}
use Rattle.supplicant.specs.Supplicant.{Storage, answered}
use Rattle.teec.specs.declared.answer.RpcKind.{RpcKind}
use Rattle.teec.specs.declared.answer.RpcKind.TheVariants.{Alloc, Free, Interrupt, Cmd}
use Rattle.teec.specs.declared.fault.TeecFault.{TeecFault}
use Rattle.teec.specs.declared.fault.TeecFault.TheVariants.{Memory, Retried, Rounds, Spent, Strange}
use Rattle.teec.specs.declared.limits.Limits.{Limits}
use Rattle.teec.specs.Calls.{Call, cancel_writes}
use Rattle.teec.specs.Places.{message_at, message_cookie}
use Rattle.teec.specs.Rounds.{Calls, Cancels, Ended, Failed, Resumes, Stage, after_answer, regs_at}

-- RAM, and the storage of the supplicant, between two SMCs
pub record Scene : Type 0 where
  pub ram : List ℕ
  pub storage : Storage

abbrev pub scene_of : List ℕ → Storage → Scene
scene_of ram storage = record { ram = ram; storage = storage }

abbrev pub with_writes : Scene → List Write → Scene
with_writes scene writes = record scene { ram = lane_after scene.ram writes }

-- ---- a message

-- a message with this request was answered by the supplicant
abbrev pub after_request : Scene → Rpc → List ℕ → Scene
after_request old rpc payload =
    record {
      ram = lane_after old.ram (reply_writes message_at rpc (answered old.storage rpc payload).reply);
      storage = (answered old.storage rpc payload).after;
    }

-- what stands in the message buffer of RAM
abbrev pub message_of : Scene → List ℕ
message_of scene = bytes_at scene.ram message_at 4096

-- the request that the buffer holds was answered; where it holds none, that was said
pub record AnswersMessage (old new : Scene) : Type 0 where
  pub request : (rpc : Rpc) (payload : List ℕ) → Holds (message_of old) message_at message_cookie rpc payload
      → new ≡ after_request old rpc payload
  pub none : ((rpc : Rpc) (payload : List ℕ) → ¬ Holds (message_of old) message_at message_cookie rpc payload)
      → new ≡ with_writes old (refusal_writes message_at)

-- a CMD is answered in the client's one buffer. Of another cookie the client has none, so it writes nothing
pub record AnswersCmd (cookie : ℕ) (old new : Scene) : Type 0 where
  pub own : cookie ≡ message_cookie → AnswersMessage old new
  pub other : cookie ≢ message_cookie → new ≡ old

abbrev pub AnswersRpc : RpcKind → Scene → Scene → Type 0
AnswersRpc Alloc old new = new ≡ old
AnswersRpc Free old new = new ≡ old
AnswersRpc Interrupt old new = new ≡ old
AnswersRpc (Cmd cookie) old new = AnswersCmd cookie old new

-- ---- all SMCs of a call

-- what the client does before the SMC of a stage. The call is written once, however often it is made
abbrev pub Prepares : Call → Stage → Scene → Scene → Type 0
Prepares call (Calls zero) old new = new ≡ with_writes old call.writes
Prepares call (Calls (suc refused)) old new = new ≡ old
Prepares call (Cancels returns rpc) old new = new ≡ with_writes old (cancel_writes call.session)
Prepares call (Resumes returns rpc) old new = AnswersRpc rpc.kind old new
Prepares call Ended old new = new ≡ old
Prepares call (Failed fault) old new = new ≡ old

-- what a call writes before its first SMC stands in RAM; its cancellation names this session
pub record IsPrepared (call : Call) (session : ℕ) (old new : Scene) : Type 0 where
  pub session_is : call.session ≡ session
  pub written : Prepares call (Calls 0) old new

-- an SMC of a stage, from what was there before the client prepared it to what the port left there
pub record Turns (call : Call) (stage : Stage) (old : Scene) (smc : Smc) (new : Scene) : Type 0 where
  pub asked : Scene
  pub prepared : Prepares call stage old asked
  pub regs : regs_at stage ≡ Some smc.regs
  pub changed : Changes asked.ram smc new.ram
  pub storage : new.storage ≡ asked.storage

-- these SMCs, from one stage to another. Nothing of the call stands beside them
abbrev pub Runs : Limits → Call → Stage → Scene → List Smc → Stage → Scene → Type 0
Runs limits call stage old [] last new = (last ≡ stage) × (new ≡ old)
Runs limits call stage old (smc ∷ smcs) last new =
    (between : Scene) × Turns call stage old smc between × Runs limits call (after_answer limits stage smc.answer) between smcs last new

-- ---- where a call stops

-- a stage has a next SMC, for which the port has room, or has none
pub record NextSmc (stage : Stage) (has_room : Regs → Bool) (room : Bool) : Type 0 where
  pub regs : Regs
  pub next : regs_at stage ≡ Some regs
  pub is_room : has_room regs ≡ room

-- a stage has a next SMC, for which the port can want memory, whatever room it has
abbrev pub HasNext : Stage → Type 0
HasNext stage = (regs : Regs) × (regs_at stage ≡ Some regs)

-- a request stands to be answered in the client's buffer, for which the supplicant can want memory
abbrev pub AwaitsReply : Stage → Type 0
AwaitsReply stage = (returns thread : ℕ) × (stage ≡ Resumes returns (record { kind = Cmd message_cookie; thread = thread }))

-- the stage at which a call stops with a fault. Want of memory is the port's or the supplicant's
abbrev pub IsStop : Stage → (Regs → Bool) → TeecFault → Type 0
IsStop stage has_room (Retried number) = stage ≡ Failed (Retried number)
IsStop stage has_room (Rounds number) = stage ≡ Failed (Rounds number)
IsStop stage has_room (Strange answer) = stage ≡ Failed (Strange answer)
IsStop stage has_room Spent = NextSmc stage has_room false
IsStop stage has_room Memory = HasNext stage ⊎ AwaitsReply stage

-- ---- how far a call has come over a port

-- RAM and storage between two SMCs, all SMCs made, and the stage of the call
pub record Moment : Type 0 where
  pub scene : Scene
  pub made : List Smc
  pub stage : Stage

-- the call went from one moment to another
pub record Went (limits : Limits) (call : Call) (old new : Moment) : Type 0 where
  pub smcs : List Smc
  pub made : new.made ≡ old.made ++ smcs
  pub runs : Runs limits call old.stage old.scene smcs new.stage new.scene

-- the call went to a moment at which it stopped with a fault, when these SMCs had been made, and this stands now. A fault of its
-- own is its stage; where there is no room, or no memory, its next SMC wasn't made, and where there is no room it was prepared
pub record Stopped (limits : Limits) (call : Call) (old : Moment) (now : Scene) (made : List Smc) (has_room : Regs → Bool) (fault : TeecFault) : Type 0
  where
    pub last : Moment
    pub went : Went limits call old last
    pub all_made : last.made ≡ made
    pub stop : IsStop last.stage has_room fault
    pub prepared : fault ≡ Spent → Prepares call last.stage last.scene now

-- the moment of this RAM, of these SMCs, of this storage
abbrev pub moment : List ℕ → List Smc → Storage → Stage → Moment
moment ram made storage stage = record { scene = scene_of ram storage; made = made; stage = stage }

-- What an exit asks, by an entry of its processor in a legal history.
use Rattle.std.proofs.Common.{ℕ, Bool, true, false, List, [], ◌∷◌, Option, Some, None, refl, subst, sym}
use Rattle.std.specs.Prelude.{◌==◌, if◌then◌else◌, IsTrue}
use Rattle.std.specs.List.{AllByRecursion}
use Rattle.desk_answers.specs.Duties.{HasHeadFirst}
use Rattle.event_journal.specs.declared.event.Event.{Event}
use Rattle.event_journal.specs.declared.event.Event.TheVariants.{Entry, Exit}
use Rattle.event_log.specs.LastEntry.{entered_by, entered_last}
use Rattle.kernel_model.proofs.ReadsOfRam.{histories_read_ram}
use Rattle.kernel_model.specs.Argument.{IsNew, is_new, reg}
use Rattle.kernel_model.specs.Turns.{IsReadOfRam, ReadsRam}
use Rattle.msg_args.specs.Reading.{head_at}
use Rattle.notify_play.specs.Duty.{CameIn, Duty, Enables, Nothing, RunsBottomHalf, Stops, TellsValue, came_with, duty_of, duty_of_call, duty_of_fast, duty_of_head}
use Rattle.ns_ram.specs.Lane.{IsInRam}
use Rattle.ns_ram.specs.declared.read.Read.{Read}
use Rattle.smc_abi.specs.Call.{call_of}
use Rattle.smc_abi.specs.declared.call.Call.{Call}
use Rattle.smc_abi.specs.declared.call.Call.TheVariants.{Fast, WithArg, WithRpcArg, WithRegdArg, Resume, Unknown}
use Rattle.smc_abi.specs.declared.call.FastCall.{FastCall}
use Rattle.smc_abi.specs.declared.call.FastCall.TheVariants.{CallsUid, CallsRevision, OsUuid, OsRevision, ShmConfig, Capabilities, DisableShmCache, EnableShmCache, ThreadCount}
use Rattle.notify_player.specs.Asking.{HasArgument, IsLastOfLegal, came_by}
use Rattle.notify_player.proofs.HeadsFirst.{ReadsHeadFirst, heads_come_first}

-- ---- an entry

-- a new call read its head first, and all reads are of RAM
pub record IsGoodEntry (came : CameIn) : Type 0 where
  pub head : IsNew came.regs → HasHeadFirst came.reads
  pub of_ram : AllByRecursion IsReadOfRam came.reads

no_entry : IsGoodEntry (came_with [] [])
no_entry = record { head = λ is. tt; of_ram = tt }

good_by : (cpu : ℕ) (before : Option Event) (event : Event) → ReadsHeadFirst event → ReadsRam event
    → IsGoodEntry (came_by before) → IsGoodEntry (came_by (entered_by cpu before event))
good_by cpu before (Entry came given steps reads) heads ram good = by (came == cpu)
  where
    by : (own : Bool) → IsGoodEntry (came_by (if own then Some (Entry came given steps reads) else before))
    by true = record { head = heads; of_ram = ram }
    by false = good
good_by cpu before (Exit went told) heads ram good = good

good_last : (cpu : ℕ) (before : Option Event) (events : List Event) → AllByRecursion ReadsHeadFirst events
    → AllByRecursion ReadsRam events → IsGoodEntry (came_by before) → IsGoodEntry (came_by (entered_last cpu before events))
good_last cpu before [] heads ram good = good
good_last cpu before (event ∷ events) heads ram good =
    good_last cpu (entered_by cpu before event) events heads.1 ram.1 (good_by cpu before event heads.0 ram.0 good)

-- the last one of a legal history
pub good-entry : (entry : Option Event) → IsLastOfLegal entry → IsGoodEntry (came_by entry)
good-entry entry is =
    subst (λ (e : Option Event). IsGoodEntry (came_by e)) (sym is.last)
    (good_last is.cpu None is.history (heads_come_first is.boot is.history is.legal)
    (histories_read_ram is.boot is.history is.legal) no_entry)

-- ---- its duty

by_command : (arg : ℕ) (six seven : Bool) → IsInRam arg 32
    → HasArgument (if six then RunsBottomHalf arg else (if seven then Stops arg else Nothing))
by_command arg true seven inside = inside
by_command arg false true inside = inside
by_command arg false false inside = tt

by_head : (reads : List Read) → HasHeadFirst reads → AllByRecursion IsReadOfRam reads → HasArgument (duty_of_head reads)
by_head [] long ram = tt
by_head (head ∷ reads) long ram =
    let cmd = (head_at head.bytes).cmd in
    by_command head.addr (cmd == 6) (cmd == 7) (subst (IsInRam head.addr) long ram.0.in_ram)

by_new : (reads : List Read) (refused : Bool) → HasHeadFirst reads → AllByRecursion IsReadOfRam reads
    → HasArgument (if refused then duty_of_head reads else Nothing)
by_new reads true long ram = by_head reads long ram
by_new reads false long ram = tt

by_fast : (call : FastCall) → HasArgument (duty_of_fast call)
by_fast CallsUid = tt
by_fast CallsRevision = tt
by_fast OsUuid = tt
by_fast OsRevision = tt
by_fast ShmConfig = tt
by_fast Capabilities = tt
by_fast DisableShmCache = tt
by_fast EnableShmCache = tt
by_fast ThreadCount = tt

by_call : (call : Call) (reads : List Read) (a0 : ℕ) → (IsTrue (is_new call) → HasHeadFirst reads)
    → AllByRecursion IsReadOfRam reads → HasArgument (duty_of_call call reads a0)
by_call (Fast call) reads a0 long ram = by_fast call
by_call WithArg reads a0 long ram = by_new reads (a0 == 5) (long refl) ram
by_call WithRpcArg reads a0 long ram = by_new reads (a0 == 5) (long refl) ram
by_call WithRegdArg reads a0 long ram = by_new reads (a0 == 5) (long refl) ram
by_call Resume reads a0 long ram = tt
by_call Unknown reads a0 long ram = tt

by_id : (enables tells : Bool) (duty : Duty) → HasArgument duty
    → HasArgument (if enables then Enables else (if tells then TellsValue else duty))
by_id true tells duty has = tt
by_id false true duty has = tt
by_id false false duty has = has

pub has-argument : (came : CameIn) (a0 : ℕ) → IsGoodEntry came → HasArgument (duty_of came a0)
has-argument came a0 good =
    let id = reg came.regs 0 in
    by_id (id == 0xb2000010) (id == 0xb2000011) (duty_of_call (call_of id) came.reads a0)
    (by_call (call_of id) came.reads a0 good.head good.of_ram)

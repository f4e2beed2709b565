-- What may be relied on of the play of a trace, in one record: each printed return is the written kernel's at its place
-- in one history.
use Rattle.std.specs.Prelude.{◌≡◌, ℕ, ◌+◌, ◌^◌, ◌<◌, List, [], ◌∷◌, ◌++◌, Some}
use Rattle.std.specs.List.{AllByRecursion}
use Rattle.std.specs.Option.{option_map}
use Rattle.event_journal.specs.Journal.{copied_bytes}
use Rattle.event_journal.specs.declared.event.Event.{Event}
use Rattle.event_journal.specs.declared.event.Event.TheVariants.{Exit}
use Rattle.kernel_model.specs.Application.{Booted, IsBooted, Native, booted}
use Rattle.kernel_model.specs.Codes.{eresume}
use Rattle.kernel_model.specs.Exit.{exit, goes_out}
use Rattle.kernel_model.specs.History.{IsLegal, exit_after, kernel_after}
use Rattle.kernel_model.specs.Kernel.{Fixed, Kernel, Visit, with_visitor, without_visitor}
use Rattle.kernel_model.specs.Laws.{FindsNoCall, FindsNoSlot, IsOfOther, visited}
use Rattle.ns_ram.specs.declared.read.Read.{Read}
use Rattle.smc_abi.specs.Answer.{registers_of}
use Rattle.smc_abi.specs.declared.regs.Regs.{Regs}
use Rattle.ta_isa.specs.declared.boot.Boot.{Boot}
use Rattle.trace_text.specs.declared.trace.Trace.{Trace}
use Rattle.play_model.specs.Laws.{AloneIn, ReturnsIn, TogetherIn, ToldIn, entered}
use Rattle.play_model.specs.Order.{HoldsInOrder, TellsExits}
use Rattle.play_model.specs.Play.{Play, played}
use Rattle.play_model.specs.Realms.{RealmsIn}

-- ---- exits

-- each exit in the history has the registers that the kernel gives it after the events before
abbrev pub ExitsIn : Booted → List Event → Type 0
ExitsIn boot history = (before behind : List Event) (cpu : ℕ) (regs : Regs) →
    history ≡ before ++ Exit cpu regs ∷ behind →
    option_map (λ exited. exited.regs) (exit_after boot before cpu) ≡ Some regs.a

-- ---- returns from RPC that find no call

-- a visitor's entry behind these events, and its processor's next event, its exit, with those of others between
abbrev pub came_and_went : List Event → Visit → List Read → List Event → Regs → List Event
came_and_went before visit reads between told =
    visited before visit.cpu (record { a = visit.regs }) visit.steps reads between told

-- such an entry and its exit change nothing but the history
pub record ChangesNothing (boot : Booted) (before : List Event) (visit : Visit) (reads : List Read)
    (between : List Event) (told : Regs) (kernel : Kernel) : Type 0 where
  -- at the entry the processor's part alone changes, which is inside for ERESUME
  pub comes_in : kernel_after boot (entered before visit reads) ≡ Some (with_visitor kernel visit (Fixed eresume))
  -- what others do between the two stays: by then they have come to this kernel
  pub by_then : Kernel
  pub between_them : kernel_after boot (entered before visit reads ++ between) ≡ Some by_then
  -- at the exit that part alone changes, which is outside again
  pub goes_out_so : kernel_after boot (came_and_went before visit reads between told)
      ≡ Some (without_visitor by_then visit)
  -- it is answered ERESUME, and no RAM is written
  pub told_so : told.a ≡ registers_of eresume visit.regs
  pub writes_nothing : exit by_then visit.cpu ≡ Some (goes_out by_then visit eresume [])

-- each return from RPC in the history that finds no call suspended in its slot for its client
abbrev pub RefusedIn : Booted → List Event → Type 0
RefusedIn boot history =
    (before between behind : List Event) (visit : Visit) (reads : List Read) (told : Regs) (kernel : Kernel) →
    history ≡ came_and_went before visit reads between told ++ behind → AllByRecursion (IsOfOther visit.cpu) between →
    kernel_after boot before ≡ Some kernel → FindsNoCall kernel visit.regs →
    ChangesNothing boot before visit reads between told kernel

-- ---- plays

-- the play of the trace on this boot, beside these built-in applications, is true to the written kernel
pub record IsTrueToKernel (natives : List Native) (boot : Boot) (trace : Trace) (play : Play) : Type 0 where
  -- it is what the trace's items, in their order, make of the kernel of that boot and of RAM of zeros with the fills
  pub is_play : played natives boot trace ≡ Some play
  -- its history is one of the written kernel, legal from a boot that a core can have, and comes to the play's kernel
  pub legal : IsLegal (booted boot natives) play.history
  pub kernel : kernel_after (booted boot natives) play.history ≡ Some play.kernel
  -- the history holds each processor's items in their order: all of them, or those before a refused entry
  pub in_order : HoldsInOrder trace.items play
  -- each printed return is an exit of that history, and each exit is printed once, in their order
  pub returns : TellsExits play
  -- each exit is the written kernel's at its place
  pub exits : ExitsIn (booted boot natives) play.history
  -- RETURN_FROM_RPC resumes exactly the call that is suspended in its slot for its client
  pub resumes : ReturnsIn (booted boot natives) play.history
  -- it is answered ERESUME, which is 3, exactly where there is none, and changes nothing but the history then
  pub refused_resumes : ToldIn (booted boot natives) play.history 3 FindsNoCall
  pub change_nothing : RefusedIn (booted boot natives) play.history
  -- ETHREAD_LIMIT, which is 1, comes exactly where a new call finds no slot free
  pub thread_limit : ToldIn (booted boot natives) play.history 1 FindsNoSlot
  -- a session of an application whose sessions share no instance was answered as its own machine answers to its own
  -- events alone; that is said of each such session that was kept on its instance at any place of the history
  pub alone : AloneIn (booted boot natives) play.history
  -- the sessions of an application that share an instance, a group, were answered as the group's machine answers to what
  -- happens to the group alone; each such session that was kept on its instance at any place of the history has its number
  -- in the group from there on
  pub together : TogetherIn (booted boot natives) play.history
  -- each session that was kept at any place of the history, whatever became of its instance, is in a realm from there on,
  -- which is one session or all sessions of an application; and each realm was answered as the machine of a group which has
  -- what happened to the realm alone
  pub realms : RealmsIn (booted boot natives) play.history
  -- an entry is refused only where all entries would then have read more than 2^28 bytes
  pub refused_entry : (more : ℕ) → play.refused ≡ Some more → 2 ^ 28 < copied_bytes play.history + more

-- each play of a trace is, on a boot that a core can have
abbrev pub PlaysAreTrue : Type 0
PlaysAreTrue = (natives : List Native) (boot : Boot) (trace : Trace) (play : Play) →
    IsBooted (booted boot natives) → played natives boot trace ≡ Some play → IsTrueToKernel natives boot trace play

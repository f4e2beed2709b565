-- What holds of each play of a trace.
use Rattle.std.specs.Prelude.{◌≡◌, ◌↔◌, ℕ, ◌+◌, ◌^◌, ◌<◌, ◌≤◌, true, false, List, [], ◌∷◌, ◌++◌, length, Option, Some, None}
use Rattle.std.specs.Prelude.{IsSome}
use Rattle.std.specs.List.{AllByRecursion}
use Rattle.std.specs.Option.{option_and_then}
use Rattle.base.specs.NumberMap.{get}
use Rattle.event_journal.specs.Journal.{copied_bytes}
use Rattle.event_journal.specs.declared.event.Event.{Event}
use Rattle.event_journal.specs.declared.event.Event.TheVariants.{Exit}
use Rattle.group_model.specs.Isolation.{IsKeptTogether}
use Rattle.group_model.specs.Group.{group_machine_replies}
use Rattle.group_model.specs.Read.{group_events, group_replies, noted}
use Rattle.kernel_model.specs.Application.{Application, Booted, IsBooted, Native, booted, uuid_of}
use Rattle.kernel_model.specs.Argument.{reg, thread_in}
use Rattle.kernel_model.specs.Codes.{eresume}
use Rattle.kernel_model.specs.Exit.{Exited, exit}
use Rattle.kernel_model.specs.History.{IsLegal, Resumes, ResumesCall, after_event, kernel_after}
use Rattle.kernel_model.specs.Instances.{app_of, is_single}
use Rattle.kernel_model.specs.Kernel.{Fixed, Kernel, PendingCall, Visit, with_visitor, without_visitor}
use Rattle.kernel_model.specs.Laws.{FindsNoCall, FindsNoSlot, IsFixed, IsOfOther, visited}
use Rattle.kernel_model.specs.Resume.{call_resumed_by}
use Rattle.ns_ram.specs.Reads.{HoldsReads}
use Rattle.ns_ram.specs.declared.read.Read.{Read}
use Rattle.own_model.specs.Isolation.{IsKeptFor, steps_in}
use Rattle.own_model.specs.Own.{own_app, own_events, own_replies}
use Rattle.own_model.specs.Solo.{solo_replies}
use Rattle.smc_abi.specs.Answer.{registers_of}
use Rattle.smc_abi.specs.Call.{call_of}
use Rattle.smc_abi.specs.declared.answer.Answer.{Answer}
use Rattle.smc_abi.specs.declared.call.Call.TheVariants.{Resume}
use Rattle.smc_abi.specs.declared.regs.Regs.{Regs}
use Rattle.ta_isa.specs.declared.boot.Boot.{Boot}
use Rattle.trace_text.specs.declared.item.Item.{Item}
use Rattle.trace_text.specs.declared.trace.Trace.{Trace}
use Rattle.play_model.specs.Line.{Line, Ret}
use Rattle.play_model.specs.Order.{HoldsInOrder, TellsExits}
use Rattle.play_model.specs.Play.{Play, after_items, enters, enters_with, entry_event, lane_of, leaves, played_over}
use Rattle.play_model.specs.Play.{with_line, with_writes}

-- ---- returns from RPC

-- a visitor's entry behind these events
abbrev pub entered : List Event → Visit → List Read → List Event
entered before visit reads = before ++ entry_event visit reads ∷ []

-- such an entry resumes this call, which the last exit from its slot left there, but that it may be cancelled since
pub record Continues (boot : Booted) (before : List Event) (visit : Visit) (reads : List Read) (kernel : Kernel)
    (call : PendingCall) : Type 0 where
  pub next : Kernel
  pub comes_to : kernel_after boot (entered before visit reads) ≡ Some next
  pub resumes : ResumesCall boot kernel visit reads call next
  pub left : PendingCall
  pub was_left : Resumes boot (entered before visit reads) (length before) (thread_in visit.regs) left

-- what such an entry comes to, by the call that is suspended in the slot that it names for its client: that call is
-- resumed; or where there is none, ERESUME is fixed, and nothing changes but the processor's part
abbrev pub Returned : Booted → List Event → Visit → List Read → Kernel → Option PendingCall → Type 0
Returned boot before visit reads kernel (Some call) = Continues boot before visit reads kernel call
Returned boot before visit reads kernel None =
    kernel_after boot (entered before visit reads) ≡ Some (with_visitor kernel visit (Fixed eresume))

-- each return from RPC in the history
abbrev pub ReturnsIn : Booted → List Event → Type 0
ReturnsIn boot history =
    (before behind : List Event) (visit : Visit) (reads : List Read) (kernel : Kernel) →
    history ≡ entered before visit reads ++ behind → call_of (reg visit.regs 0) ≡ Resume →
    kernel_after boot before ≡ Some kernel →
    Returned boot before visit reads kernel (call_resumed_by kernel.slots visit.regs)

-- ---- answers

-- in the history a processor goes out with this a0 exactly where its call found so as it came in
abbrev pub ToldIn : Booted → List Event → ℕ → (Kernel → List ℕ → Type 0) → Type 0
ToldIn boot history a0 Finds =
    (before between behind : List Event) (cpu steps : ℕ) (regs told : Regs) (reads : List Read) (kernel : Kernel) →
    history ≡ visited before cpu regs steps reads between told ++ behind → AllByRecursion (IsOfOther cpu) between →
    kernel_after boot before ≡ Some kernel → ((reg told.a 0 ≡ a0) ↔ Finds kernel regs.a)

-- ---- sessions

-- sessions of applications whose sessions share no instance
pub record AloneIn (boot : Booted) (history : List Event) : Type 0 where
  -- each was answered as its own machine answers to its events
  pub answered : (session : ℕ) (app : Application) → own_app boot history session ≡ Some app → is_single app ≡ false →
      solo_replies (steps_in history) app boot.key (own_events boot history session) ≡ Some (own_replies boot history session)
  -- that is said of each which the kernel keeps on its instance at any place of the history: from there on its application
  -- is known
  pub known : (before behind : List Event) (kernel : Kernel) (session : ℕ) (app : Application) →
      history ≡ before ++ behind → kernel_after boot before ≡ Some kernel → IsKeptFor boot kernel session app →
      own_app boot history session ≡ Some app

-- sessions of applications whose sessions share an instance
pub record TogetherIn (boot : Booted) (history : List Event) : Type 0 where
  -- those of one application, a group, were answered as the group's own machine answers to its events
  pub answered : (app : Application) → app_of boot (uuid_of app) ≡ Some app → is_single app ≡ true →
      group_machine_replies (steps_in history) app boot.key (group_events boot history app) ≡ Some (group_replies boot history app)
  -- that is said of each which the kernel keeps on its instance at any place of the history: it has its number in the
  -- group there
  pub known : (before behind : List Event) (kernel : Kernel) (session : ℕ) (app : Application) →
      history ≡ before ++ behind → kernel_after boot before ≡ Some kernel → IsKeptTogether boot kernel session app →
      IsSome (get (noted boot before app).sessions session)
  -- and keeps that number to the end of the history
  pub stays : (before behind : List Event) (session number : ℕ) (app : Application) →
      history ≡ before ++ behind → app_of boot (uuid_of app) ≡ Some app → is_single app ≡ true →
      get (noted boot before app).sessions session ≡ Some number →
      get (noted boot history app).sessions session ≡ Some number

-- ---- how many bytes are read

-- all entries of the play may read so many bytes of RAM
pub record ReadsAtMost (most_bytes : ℕ) (play : Play) : Type 0 where
  pub limit : play.most_bytes ≡ most_bytes
  -- they have read no more, and one that was refused would have brought them above that
  pub few_bytes : copied_bytes play.history ≤ most_bytes
  pub too_many : (more : ℕ) → play.refused ≡ Some more → most_bytes < copied_bytes play.history + more

-- ---- plays

-- what holds of the play of these items
pub record IsPlay (boot : Booted) (items : List Item) (play : Play) : Type 0 where
  -- its history is one of the written kernel, whose kernel it has, and holds each processor's items in their order
  pub legal : IsLegal boot play.history
  pub kernel : kernel_after boot play.history ≡ Some play.kernel
  pub in_order : HoldsInOrder items play
  -- each return that was printed is an exit of it
  pub told : TellsExits play
  -- its entries may read 2^28 bytes; they have read no more, and one that was refused would have brought them above that
  pub limit : play.most_bytes ≡ 2 ^ 28
  pub few_bytes : copied_bytes play.history ≤ 2 ^ 28
  pub too_many : (more : ℕ) → play.refused ≡ Some more → 2 ^ 28 < copied_bytes play.history + more
  -- a return from RPC resumes the call that is suspended in its slot for its client, or answers ERESUME, which is 3,
  -- exactly where there is none, and changes nothing then
  pub returns : ReturnsIn boot play.history
  pub no_call : ToldIn boot play.history 3 FindsNoCall
  -- ETHREAD_LIMIT, which is 1, comes exactly where a new call finds no slot free
  pub no_slot : ToldIn boot play.history 1 FindsNoSlot
  -- sessions that share no instance were answered as alone, each that was ever kept on its instance among them; those that
  -- share one, as their group alone, in which each that was ever kept on it has its number to the end
  pub alone : AloneIn boot play.history
  pub together : TogetherIn boot play.history

-- each play of a trace is one, whatever RAM holds at first
abbrev pub TracesArePlayed : Type 0
TracesArePlayed = (ram : List ℕ) (natives : List Native) (boot : Boot) (trace : Trace) (play : Play) →
    IsBooted (booted boot natives) → played_over ram natives boot trace ≡ Some play →
    IsPlay (booted boot natives) trace.items play

-- ---- one item, and more items

-- the entry of a visitor that reads just this: it can follow, and the RAM of its processor has these bytes
pub record IsReadBy (boot : Booted) (play : Play) (visit : Visit) (reads : List Read) : Type 0 where
  pub follows : IsSome (after_event boot play.kernel (entry_event visit reads))
  pub holds : HoldsReads (lane_of play visit.cpu) reads

-- there is one list of reads, and an entry comes with it
abbrev pub EntriesAreRead : Type 0
EntriesAreRead = (boot : Booted) (play : Play) (visit : Visit) (reads : List Read) → IsReadBy boot play visit reads →
    enters boot play visit ≡ enters_with boot play visit reads

-- a processor that has an exit goes out with it: the kernel after it, its event, its writes, and its line
abbrev pub ExitsCome : Type 0
ExitsCome = (boot : Booted) (play : Play) (cpu : ℕ) (exited : Exited) → exit play.kernel cpu ≡ Some exited →
    (let gone : Play = record play {
      kernel = exited.kernel;
      history = play.history ++ Exit cpu (record { a = exited.regs }) ∷ [];
    } in
    leaves boot cpu play ≡ Some (with_line (Ret cpu exited.regs) (with_writes cpu exited.writes gone)))

-- a processor that goes out with an answer that was fixed as it came in, as ERESUME is: of the kernel its part alone
-- changes, which is outside again, RAM stays as it is, and its line is printed
abbrev pub FixedAnswersPass : Type 0
FixedAnswersPass = (boot : Booted) (before after : Play) (visit : Visit) (answer : Answer) →
    IsFixed before.kernel visit answer → leaves boot visit.cpu before ≡ Some after →
    (let told = registers_of answer visit.regs in
    after ≡ record before {
      kernel = without_visitor before.kernel visit;
      history = before.history ++ Exit visit.cpu (record { a = told }) ∷ [];
      lines = before.lines ++ Ret visit.cpu told ∷ [];
    })

-- a play goes on from where its first items end; what they have printed stays at the front, and entries go on to read no
-- more than they may
pub record PlaysGoOn : Type 0 where
  pub onward : (boot : Booted) (items more : List Item) (play : Play) →
      after_items boot (items ++ more) play
      ≡ option_and_then (λ next. after_items boot more next) (after_items boot items play)
  pub printed : (boot : Booted) (items : List Item) (before after : Play) → after_items boot items before ≡ Some after →
      (lines : List Line) × (after.lines ≡ before.lines ++ lines)
  pub within : (most_bytes : ℕ) (boot : Booted) (items : List Item) (before after : Play) →
      after_items boot items before ≡ Some after → ReadsAtMost most_bytes before → ReadsAtMost most_bytes after

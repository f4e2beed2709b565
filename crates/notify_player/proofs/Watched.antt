-- What an exit and the desk write lies in the pages that are kept before.
use Rattle.std.proofs.Common.{◌≡◌, ℕ, ◌+◌, ◌<◌, Bool, true, false, List, [], ◌∷◌, ◌++◌, length, Option, None, Some, inl, inr, refl, sym, ap, subst, ◌∙◌, arith}
use Rattle.std.specs.Prelude.{◌==◌, ◌⊎◌, if◌then◌else◌, slice_index_or, slice_set}
use Rattle.std.specs.List.{AllByRecursion}
use Rattle.std.specs.Option.{option_and_then, option_map}
use Rattle.std.proofs.lemmas.List.{get_or-set_same}
use Rattle.event_journal.specs.declared.event.Event.TheVariants.{Exit}
use Rattle.kernel_model.specs.Application.{Booted}
use Rattle.kernel_model.specs.Argument.{reg}
use Rattle.kernel_model.specs.Exit.{word32}
use Rattle.notif.specs.Desk.{DeskState}
use Rattle.notify_play.specs.Duty.{CameIn, Duty, Enables, Nothing, Offers, RunsBottomHalf, Stops, TellsValue, duty_of, duty_of_call, duty_of_head, duty_of_new, last_entry}
use Rattle.notify_play.specs.NotifyPlay.{Drivers, NotifyPlay, after_item, desk_of, duty_at, goes_out, unless_refused, visit_with, with_play}
use Rattle.notify_play.specs.Told.{result_in, told_writes}
use Rattle.ns_ram.specs.Writes.{Write, lane_after}
use Rattle.ns_ram.specs.declared.read.Read.{Read}
use Rattle.ns_ram.proofs.WriteList.{lane_after-append}
use Rattle.page_set.specs.Keeping.{AreKept}
use Rattle.page_set.specs.Pages.{IsWithin, IsWriteTo, StaysElsewhere}
use Rattle.page_set.specs.declared.kept.KeptPages.{KeptPages}
use Rattle.page_set.proofs.Stays.{stays, stays_outside, write_within}
use Rattle.play_model.specs.Play.{Play, enters, lane_of}
use Rattle.play_model.proofs.Entries.{entered}
use Rattle.play_model.proofs.RamKept.{entry_lanes}
use Rattle.smc_abi.specs.Call.{call_of}
use Rattle.smc_abi.specs.declared.call.Call.{Call}
use Rattle.smc_abi.specs.declared.call.Call.TheVariants as call
use Rattle.trace_player.specs.Items.{goes_out_by}
use Rattle.trace_text.specs.declared.item.Item.TheVariants as item
use Rattle.trace_text.specs.declared.item.Reg.{Reg}
use Rattle.notify_player.specs.Asking.{HasArgument}
use Rattle.notify_player.specs.Watching.{CoversDuty}
use Rattle.notify_player.specs.declared.player.NotifyPlayer.{NotifyPlayer}
use Rattle.notify_player.proofs.Coming.{WentOut, gone_same, unless_none}

-- ---- the duty, whatever the kernel says

-- it is none, or the one where the kernel doesn't know the command
abbrev IsNoneOr : Duty → Duty → Type 0
IsNoneOr duty other = (duty ≡ Nothing) ⊎ (duty ≡ other)

of_new : (reads : List Read) (a0 : ℕ) → IsNoneOr (duty_of_new reads a0) (duty_of_new reads 5)
of_new reads a0 = by (a0 == 5)
  where
    by : (bad : Bool) → IsNoneOr (if bad then duty_of_head reads else Nothing) (duty_of_head reads)
    by true = inr refl
    by false = inl refl

of_call : (of : Call) (reads : List Read) (a0 : ℕ) → IsNoneOr (duty_of_call of reads a0) (duty_of_call of reads 5)
of_call (call.Fast fast) reads a0 = inr refl
of_call call.WithArg reads a0 = of_new reads a0
of_call call.WithRpcArg reads a0 = of_new reads a0
of_call call.WithRegdArg reads a0 = of_new reads a0
of_call call.Resume reads a0 = inl refl
of_call call.Unknown reads a0 = inl refl

duty_or_none : (came : CameIn) (a0 : ℕ) → IsNoneOr (duty_of came a0) (duty_of came 5)
duty_or_none came a0 = by (reg came.regs 0 == 0xb2000010) (reg came.regs 0 == 0xb2000011)
  where
    by : (enables tells : Bool)
        → IsNoneOr (if enables then Enables else (if tells then TellsValue else duty_of_call (call_of (reg came.regs 0)) came.reads a0))
        (if enables then Enables else (if tells then TellsValue else duty_of_call (call_of (reg came.regs 0)) came.reads 5))
    by true tells = inr refl
    by false true = inr refl
    by false false = of_call (call_of (reg came.regs 0)) came.reads a0

-- ---- what the desk writes

result_within : (pages : List Bool) (arg result : ℕ) → HasArgument (RunsBottomHalf arg) → CoversDuty pages (RunsBottomHalf arg)
    → AllByRecursion (IsWriteTo pages) (result_in arg result)
result_within pages arg result has covers = (
  write_within pages arg 32 (word32 (arg + 20) result) has covers (omega arith) (omega arith),
  (write_within pages arg 32 (word32 (arg + 24) 3) has covers (omega arith) (omega arith), tt),
)

duty_within : (pages : List Bool) (drivers : Drivers) (desk : DeskState) (asked : Duty) → HasArgument asked → CoversDuty pages asked
    → AllByRecursion (IsWriteTo pages) (told_writes drivers desk asked)
duty_within pages drivers desk Nothing has covers = tt
duty_within pages drivers desk TellsValue has covers = tt
duty_within pages drivers desk Enables has covers = tt
duty_within pages drivers desk Offers has covers = tt
duty_within pages drivers desk (RunsBottomHalf arg) has covers = result_within pages arg _ has covers
duty_within pages drivers desk (Stops arg) has covers = result_within pages arg 0 has covers

told_within : (pages : List Bool) (drivers : Drivers) (desk : DeskState) (came : CameIn) (a0 : ℕ) → HasArgument (duty_of came 5)
    → CoversDuty pages (duty_of came 5) → AllByRecursion (IsWriteTo pages) (told_writes drivers desk (duty_of came a0))
told_within pages drivers desk came a0 has covers = elim (duty_or_none came a0) [
  | inl none ↦ subst (λ (d : Duty). AllByRecursion (IsWriteTo pages) (told_writes drivers desk d)) (sym none) tt
  | inr same ↦ subst (λ (d : Duty). AllByRecursion (IsWriteTo pages) (told_writes drivers desk d)) (sym same)
      (duty_within pages drivers desk (duty_of came 5) has covers)
]

-- ---- the lane behind an exit

module _ (boot : Booted) (drivers : Drivers) (cpu : ℕ) (told next : NotifyPlay) where
  lane_behind : (w : WentOut boot drivers cpu told next) → cpu < length told.play.lanes
      → lane_of next.play cpu
      ≡ lane_after (lane_of told.play cpu) (w.exited.writes ++ told_writes drivers (desk_of drivers told) (duty_at told cpu w.exited))
  lane_behind w within =
      let writes : List Write = w.exited.writes ++ told_writes drivers (desk_of drivers told) (duty_at told cpu w.exited) in
      let same = (gone_same boot (Exit cpu (record { a = w.exited.regs })) told.play w.gone w.came).0 in
      ap (λ (n : NotifyPlay). lane_of n.play cpu) (sym w.is)
      ∙ get_or-set_same w.gone.lanes cpu (lane_after (lane_of w.gone cpu) writes) []
      (subst (λ (lanes : List (List ℕ)). cpu < length lanes) (sym same) within)
      ∙ ap (λ (lanes : List (List ℕ)). lane_after (slice_index_or lanes cpu []) writes) same

  -- other pages than those of the core's exit and those of the duty stay
  pub exit_stays : (first pages : List Bool) → (w : WentOut boot drivers cpu told next) → cpu < length told.play.lanes
      → StaysElsewhere first (lane_of told.play cpu) (lane_after (lane_of told.play cpu) w.exited.writes)
      → length (lane_after (lane_of told.play cpu) w.exited.writes) ≡ 0x400000 → IsWithin first pages
      → HasArgument (duty_of (last_entry told.play.history cpu) 5) → CoversDuty pages (duty_of (last_entry told.play.history cpu) 5)
      → StaysElsewhere pages (lane_of told.play cpu) (lane_of next.play cpu)
  exit_stays first pages w within out long wider has covers =
      let lane : List ℕ = lane_of told.play cpu in
      let middle : List ℕ = lane_after lane w.exited.writes in
      let more : List Write = told_writes drivers (desk_of drivers told) (duty_at told cpu w.exited) in
      let late = stays pages middle more long
      (told_within pages drivers (desk_of drivers told) (last_entry told.play.history cpu) (reg w.exited.regs 0) has covers) in
      let early = stays_outside first pages lane middle wider out in
      let is : lane_of next.play cpu ≡ lane_after middle more =
      lane_behind w within ∙ lane_after-append lane w.exited.writes more in
      subst (λ (l : List ℕ). StaysElsewhere pages lane l) (sym is)
      (λ number few none. late number few none ∙ early number few none)

-- ---- an item

-- an entry leaves RAM as it was
entered_lane : (boot : Booted) (cpu steps : ℕ) (regs : List Reg) (told : NotifyPlay) (inside : Play)
    → enters boot told.play (visit_with told cpu steps regs) ≡ Some inside → lane_of inside cpu ≡ lane_of told.play cpu
entered_lane boot cpu steps regs told inside e =
    let visit = visit_with told cpu steps regs in
    ap (λ (lanes : List (List ℕ)). slice_index_or lanes cpu [])
    (entry_lanes boot visit told.play inside (entered boot visit told.play inside e))

-- and its exit follows on it
smc_next : (boot : Booted) (drivers : Drivers) (cpu steps : ℕ) (regs : List Reg) (told next : NotifyPlay) (inside : Play)
    → enters boot told.play (visit_with told cpu steps regs) ≡ Some inside → inside.refused ≡ None
    → after_item boot drivers (item.Smc cpu steps regs) told ≡ Some next → goes_out boot drivers cpu (with_play told inside) ≡ Some next
smc_next boot drivers cpu steps regs told next inside e going after =
    sym (ap (λ (o : Option Play). option_and_then (unless_refused (goes_out boot drivers cpu)) (option_map (with_play told) o)) e
    ∙ unless_none (goes_out boot drivers cpu) (with_play told inside) going) ∙ after

pub smc_kept : (boot : Booted) (drivers : Drivers) (cpu steps : ℕ) (regs : List Reg) (told next : NotifyPlay) (inside : Play) (kept : KeptPages)
    → enters boot told.play (visit_with told cpu steps regs) ≡ Some inside → inside.refused ≡ None
    → ((n : NotifyPlay) → goes_out boot drivers cpu (with_play told inside) ≡ Some n
    → AreKept kept (lane_of inside cpu) (lane_of n.play cpu))
    → after_item boot drivers (item.Smc cpu steps regs) told ≡ Some next → AreKept kept (lane_of told.play cpu) (lane_of next.play cpu)
smc_kept boot drivers cpu steps regs told next inside kept e going keeps after =
    subst (λ (lane : List ℕ). AreKept kept lane (lane_of next.play cpu)) (entered_lane boot cpu steps regs told inside e)
    (keeps next (smc_next boot drivers cpu steps regs told next inside e going after))

-- one alone
pub leave_kept : (boot : Booted) (drivers : Drivers) (c cpu : ℕ) (told next : NotifyPlay) (kept : KeptPages)
    → goes_out_by (item.Leave c) ≡ Some cpu
    → ((n : NotifyPlay) → goes_out boot drivers c told ≡ Some n → AreKept kept (lane_of told.play c) (lane_of n.play c))
    → after_item boot drivers (item.Leave c) told ≡ Some next → AreKept kept (lane_of told.play cpu) (lane_of next.play cpu)
leave_kept boot drivers c cpu told next kept out keeps after =
    let same : c ≡ cpu = cc in
    subst (λ (n : ℕ). AreKept kept (lane_of told.play n) (lane_of next.play n)) same (keeps next after)

-- one behind its entry
pub smc_kept_by : (boot : Booted) (drivers : Drivers) (c cpu steps : ℕ) (regs : List Reg) (told next : NotifyPlay) (inside : Play)
    (kept : KeptPages) → goes_out_by (item.Smc c steps regs) ≡ Some cpu
    → enters boot told.play (visit_with told c steps regs) ≡ Some inside → inside.refused ≡ None
    → ((n : NotifyPlay) → goes_out boot drivers c (with_play told inside) ≡ Some n → AreKept kept (lane_of inside c) (lane_of n.play c))
    → after_item boot drivers (item.Smc c steps regs) told ≡ Some next → AreKept kept (lane_of told.play cpu) (lane_of next.play cpu)
smc_kept_by boot drivers c cpu steps regs told next inside kept out e going keeps after =
    let same : c ≡ cpu = cc in
    subst (λ (n : ℕ). AreKept kept (lane_of told.play n) (lane_of next.play n)) same
    (smc_kept boot drivers c steps regs told next inside kept e going keeps after)

-- a player that has begun an item, and its desk nothing
pub begun_is : (before after : NotifyPlayer) → after.desk ≡ before.desk → record before { player = after.player } ≡ after
begun_is before after same = ap (λ (d : DeskState). record before { player = after.player; desk = d }) (sym same)

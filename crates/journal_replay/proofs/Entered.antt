-- An entry that is done again.
use Rattle.std.proofs.Common.{◌≡◌, ℕ, ◌+◌, ◌<◌, ◌≤◌, ◌^◌, List, [], ◌∷◌, ◌++◌, Option, Some, ap, refl, sym, subst, ◌∙◌, arith}
use Rattle.std.proofs.Math.Logic.{∥∥₁_elim}
use Rattle.std.proofs.Props.{props}
use Rattle.std.proofs.lemmas.List.Sums.{sum_by-append}
use Rattle.std.specs.Prelude.{IsSomeAnd, slice_get}
use Rattle.std.specs.Option.{option_and_then, option_map}
use Rattle.core_at_work.proofs.Kept.{kernel_as_before, with_room}
use Rattle.core_at_work.specs.declared.core_at_work.CoreAtWork.{CoreAtWork}
use Rattle.event_journal.specs.Event.{copied_by}
use Rattle.event_journal.specs.Journal.{copied_bytes}
use Rattle.event_journal.specs.declared.event.Event.{Event}
use Rattle.event_journal.specs.declared.event.Event.TheVariants.{Entry}
use Rattle.journal_replay.specs.Laying.{AreOfOneRam}
use Rattle.journal_replay.specs.Replaying.{CanBeNext, HasDone, HasPrepared, boot_of, done_by}
use Rattle.journal_replay.specs.declared.replay.Replay.{Replay}
use Rattle.journal_replay.proofs.Next.{kernel_now, next_agrees, next_kernel, next_reads_ram}
use Rattle.core_at_work.proofs.Arrived.{can_enter_with_room}
use Rattle.core_at_work.proofs.Replaying as decided
use Rattle.core_at_work.specs.Deciding.{decision_as}
use Rattle.core_at_work.specs.Entering.{HasMoreRoom, IsPrepared}
use Rattle.core_at_work.specs.Visiting.{coming_of}
use Rattle.core_at_work.specs.Prepared.{Prepared}
use Rattle.core_at_work.specs.Visitor.{Visitor}
use Rattle.kernel_model.specs.Application.{Booted}
use Rattle.kernel_model.specs.Entry.{entry}
use Rattle.kernel_model.specs.Kernel.{Kernel, Outside, Visit}
use Rattle.kernel_state.proofs.CoreEvents.{CameIn, came_in, few_steps, journals_legal, some_kernel, some_steps}
use Rattle.kernel_state.specs.Entering.{CanEnter, HasEntered, IsTooMuch, bytes_read, visit_of}
use Rattle.kernel_state.specs.Laws.{CoreEntry}
use Rattle.kernel_state.specs.Meaning.{booted_of, events_of}
use Rattle.kernel_state.specs.Replay.{Replays}
use Rattle.kernel_state.specs.declared.kernel_core.Core.{Core}
use Rattle.kernel_state.specs.declared.terms.Terms.{Terms}
use Rattle.kernel_state.specs.declared.work.Work.{Work}
use Rattle.ns_ram.proofs.ReaderLaws.{over_lane-reading}
use Rattle.ns_ram.specs.Reader.{Reader, over_lane}
use Rattle.ns_ram.specs.Reads.{HoldsReads, total_bytes}
use Rattle.ns_ram.specs.declared.read.Read.{Read}

-- ---- an entry

abbrev pub entry_of : Visitor → List Read → Event
entry_of visitor reads = Entry visitor.cpu visitor.regs visitor.steps reads

-- what was prepared, once there was more room, has read what the kernel's entry reads of the lane
prepared_reads : (old mid : Core) (visitor : Visitor) (lane : List ℕ) (prepared : Prepared) → HasMoreRoom old.parts mid.parts
    → IsPrepared mid.parts visitor.regs.a lane prepared
    → option_map (λ (end : Kernel × List Read). end.1)
    (over_lane (entry (booted_of old) (some_kernel old).0 (visit_of (coming_of visitor))) lane []) ≡ Some prepared.reads
prepared_reads old mid visitor lane prepared more is = ∥∥₁_elim mid.replay (Prim.hlevel props) (λ (so : Replays mid.parts).
    let visit = visit_of (coming_of visitor) in
    let same = with_room old mid more in
    let both : Some so.kernel ≡ Some (some_kernel old).0 = sym so.comes_to ∙ kernel_as_before old mid same ∙ (some_kernel old).1 in
    let kernels : so.kernel ≡ (some_kernel old).0 = cc in
    let reads_of : Booted → Kernel → Option (List Read) =
    λ boot kernel. option_map (λ (end : Kernel × List Read). end.1) (over_lane (entry boot kernel visit) lane []) in
    ap (λ (boot : Booted). reads_of boot (some_kernel old).0) (sym same.boot) ∙ ap (reads_of (booted_of mid)) (sym kernels)
    ∙ ap (λ (o : Option (Kernel × List Read)). option_map (λ (end : Kernel × List Read). end.1) o)
    (decided.entered (booted_of mid) so.kernel visitor lane (decision_as mid.parts so.kernel visitor.regs.a prepared.decision) prepared.reads
    (is.decides so.kernel so.stands)))

module _ (old : Replay) (visitor : Visitor) (reads : List Read) where
  abbrev visit : Visit
  visit = visit_of (coming_of visitor)

  -- ---- where it can be next

  module _ (can : CanBeNext old (entry_of visitor reads)) where
    came : CameIn (boot_of old) (kernel_now old) (next_kernel old (entry_of visitor reads) can).0 visit reads
    came =
        came_in (boot_of old) (kernel_now old) (next_kernel old (entry_of visitor reads) can).0 visitor.cpu visitor.steps visitor.regs reads
        (next_kernel old (entry_of visitor reads) can).1

    pub can_enter : CanEnter old.at_work.core (coming_of visitor)
    can_enter = record {
      outside = subst (λ (o : Option Kernel). IsSomeAnd o (λ k. slice_get k.processors visitor.cpu ≡ Some Outside))
          (sym (some_kernel old.at_work.core).1) came.outside;
      some_steps = some_steps visitor.steps came.granted;
      few_steps = few_steps visitor.steps came.granted;
    }

    pub of_one_ram : AreOfOneRam reads
    of_one_ram = record {
      of_ram = next_reads_ram old (entry_of visitor reads) can;
      agree = next_agrees old (entry_of visitor reads) can;
    }

    module _ (lane : List ℕ) (held : HoldsReads lane reads) where
      abbrev reader : Reader Kernel
      reader = entry (boot_of old) (kernel_now old) visit

      by_journal : over_lane reader lane [] ≡ Some ((next_kernel old (entry_of visitor reads) can).0, reads)
      by_journal = (over_lane-reading reader lane reads (next_kernel old (entry_of visitor reads) can).0).1 (came.entered, held)

      -- it would read as many bytes as the journal says
      bytes_known : (copied more : ℕ) → IsTooMuch old.at_work.core (coming_of visitor) lane copied more → more ≡ total_bytes reads
      bytes_known copied more full =
          let told : Some (total_bytes reads) ≡ Some more =
          sym (ap (λ (o : Option Kernel). option_and_then (bytes_read (boot_of old) lane visit) o) (some_kernel old.at_work.core).1
          ∙ ap (λ (o : Option (Kernel × List Read)). option_map (λ (end : Kernel × List Read). total_bytes end.1) o) by_journal)
          ∙ full.of_entry in
          cc

      pub never_full : (copied more : ℕ) → copied_bytes (done_by old ++ entry_of visitor reads ∷ []) ≤ 2 ^ 28
          → IsTooMuch old.at_work.core (coming_of visitor) lane copied more → ⊥
      never_full copied more few full =
          let sum = sum_by-append copied_by (done_by old) (entry_of visitor reads ∷ []) in
          let known = bytes_known copied more full in
          let so_far = full.so_far in
          let above : 2 ^ 28 < copied + more = subst (λ (terms : Terms). terms.most < copied + more) old.kept full.above in
          omega (arith, sum, known, so_far, above, few)

      -- one lane gives one list of reads
      pub same_reads : (mid : Core) (prepared : Prepared) → HasMoreRoom old.at_work.core.parts mid.parts
          → IsPrepared mid.parts visitor.regs.a lane prepared → prepared.reads ≡ reads
      same_reads mid prepared more is =
          let both : Some prepared.reads ≡ Some reads = sym (prepared_reads old.at_work.core mid visitor lane prepared more is)
          ∙ ap (λ (o : Option (Kernel × List Read)). option_map (λ (end : Kernel × List Read). end.1) o) by_journal in
          cc

-- ---- once it has come in

-- it has read what was prepared
pub admitted : (old new : Core) (visitor : Visitor) (lane : List ℕ) (prepared : Prepared) (work : Work) → IsPrepared old.parts visitor.regs.a lane prepared
    → HasEntered old new (coming_of visitor) lane work → events_of new ≡ events_of old ++ entry_of visitor prepared.reads ∷ []
admitted old new visitor lane prepared work is has =
    let core_entry : CoreEntry = record {
      old = old;
      new = new;
      coming = coming_of visitor;
      lane = lane;
      work = work;
      has_entered = has;
      kernel = (some_kernel old).0;
      next = (some_kernel new).0;
      before = (some_kernel old).1;
      after = (some_kernel new).1;
    } in
    let reader : Reader Kernel = entry (booted_of old) (some_kernel old).0 (visit_of (coming_of visitor)) in
    let by_core : over_lane reader lane [] ≡ Some ((some_kernel new).0, has.reads) =
    (over_lane-reading reader lane has.reads ((some_kernel new).0)).1 (journals_legal.entered core_entry, has.from_lane) in
    let none_more : HasMoreRoom old.parts old.parts = record { events = refl; keeps = refl; spare = omega arith; stays = refl } in
    let both : Some has.reads ≡ Some prepared.reads =
    sym (ap (λ (o : Option (Kernel × List Read)). option_map (λ (end : Kernel × List Read). end.1) o) by_core)
    ∙ prepared_reads old old visitor lane prepared none_more is in
    let same : has.reads ≡ prepared.reads = cc in
    has.events ∙ ap (λ (rs : List Read). events_of old ++ entry_of visitor rs ∷ []) same

-- where RAM was laid, and it was prepared to read this, it is the event that was done
pub done_so : (old laid mid new : Replay) (visitor : Visitor) (reads : List Read) (prepared : Prepared) → laid.at_work ≡ old.at_work
    → HasMoreRoom laid.at_work.core.parts mid.at_work.core.parts → HasPrepared mid visitor reads prepared → HasDone mid new (entry_of visitor prepared.reads) → HasDone old new (entry_of visitor reads)
done_so old laid mid new visitor reads prepared same room has done = record {
  boot = done.boot ∙ (with_room laid.at_work.core mid.at_work.core room).boot ∙ ap (λ (at_work : CoreAtWork). booted_of at_work.core) same;
  events = done.events ∙ ap (λ (rs : List Read). done_by mid ++ entry_of visitor rs ∷ []) has.reads_so
      ∙ ap (λ (es : List Event). es ++ entry_of visitor reads ∷ []) (room.events ∙ ap (λ (at_work : CoreAtWork). events_of at_work.core) same);
}

-- and its visitor can still come in
pub can_still_enter : (old laid mid : Replay) (visitor : Visitor) → laid.at_work ≡ old.at_work
    → HasMoreRoom laid.at_work.core.parts mid.at_work.core.parts → CanEnter old.at_work.core (coming_of visitor) → CanEnter mid.at_work.core (coming_of visitor)
can_still_enter old laid mid visitor same room can =
    can_enter_with_room laid.at_work.core mid.at_work.core (coming_of visitor) room
    (subst (λ (at_work : CoreAtWork). CanEnter at_work.core (coming_of visitor)) (sym same) can)

-- The history of each play is steady: what an entry reads are bytes of its processor's RAM.
use Rattle.std.proofs.Common.{◌≡◌, ℕ, Bool, true, false, List, [], ◌∷◌, Option, Some, None, sym, ap, subst}
use Rattle.std.proofs.lemmas.Option.{option_and_then_some}
use Rattle.std.specs.Prelude.{◌+◌, AllPairs, nat_lt, if◌then◌else◌}
use Rattle.audit_model.proofs.Deciding.{steady_behind}
use Rattle.audit_model.proofs.EachVerdict.{faultless_can_begin}
use Rattle.audit_model.specs.Verdicts.{IsFaultless, IsSteady}
use Rattle.event_journal.specs.Journal.{copied_bytes}
use Rattle.event_journal.specs.declared.event.Event.{Event}
use Rattle.event_journal.specs.declared.event.Event.TheVariants.{Exit}
use Rattle.kernel_model.proofs.Parts.{option_map_some}
use Rattle.kernel_model.specs.Application.{Booted, booted}
use Rattle.kernel_model.specs.Entry.{entry}
use Rattle.kernel_model.specs.Kernel.{Kernel, Visit}
use Rattle.kernel_state.specs.Reads.{Agree}
use Rattle.ns_ram.proofs.ReaderLaws.{over_lane-reading}
use Rattle.ns_ram.specs.Reader.{over_lane}
use Rattle.ns_ram.specs.Reads.{HoldsReads, total_bytes}
use Rattle.ns_ram.specs.declared.read.Read.{Read}
use Rattle.play_model.proofs.Adds.{Ended, GoesOn, Onward, goes_on}
use Rattle.play_model.proofs.Entries.{event_made, left}
use Rattle.play_model.proofs.Items.{traces_are_played}
use Rattle.play_model.specs.Play.{Play, after_item, after_items, enters, enters_with, entry_event, first_play, lane_of, leaves, reads_of, unless_refused, visit_of, with_event}
use Rattle.trace_text.specs.declared.item.Item.{Item}
use Rattle.trace_text.specs.declared.item.Item.TheVariants as item
use Rattle.audit.proofs.LaneReads.{lane_reads_agree}
use Rattle.audit.specs.Laws.{PlaysAreFaultless}

-- ---- an entry

-- what an entry reads of its processor's RAM agrees
reads_agree : (boot : Booted) (play : Play) (visit : Visit) (reads : List Read) → reads_of boot play visit ≡ Some reads → AllPairs Agree reads
reads_agree boot play visit reads is =
    let lane = lane_of play visit.cpu in
    let reader = entry boot play.kernel visit in
    let end = option_map_some (λ (end : Kernel × List Read). end.1) (over_lane reader lane []) reads is in
    let held : HoldsReads lane end.0.1 = ((over_lane-reading reader lane end.0.1 end.0.0).0 end.1).1 in
    subst (λ (those : List Read). AllPairs Agree those) end.2 (lane_reads_agree lane end.0.1 held)

-- whether it is refused or not
entered_steady : (boot : Booted) (visit : Visit) (before after : Play) (reads : List Read) (much : Bool) → IsSteady before.history → AllPairs Agree reads
    → (if much then Some (record before { refused = Some (total_bytes reads) }) else with_event boot (entry_event visit reads) before) ≡ Some after
    → IsSteady after.history
entered_steady boot visit before after reads true steady agree e =
    let same : record before { refused = Some (total_bytes reads) } ≡ after = cc in
    subst (λ (p : Play). IsSteady p.history) same steady
entered_steady boot visit before after reads false steady agree e =
    subst IsSteady (sym (event_made boot (entry_event visit reads) before after e).0)
    (steady_behind before.history (entry_event visit reads) steady agree)

enter_steady : (boot : Booted) (visit : Visit) (before after : Play) → IsSteady before.history → enters boot before visit ≡ Some after
    → IsSteady after.history
enter_steady boot visit before after steady e =
    option_and_then_some (enters_with boot before visit) (reads_of boot before visit) after e
    (λ (reads : List Read) there onward.
    entered_steady boot visit before after reads (nat_lt before.most_bytes (copied_bytes before.history + total_bytes reads)) steady
    (reads_agree boot before visit reads there) onward)

-- ---- an exit

leave_steady : (boot : Booted) (cpu : ℕ) (before after : Play) → IsSteady before.history → leaves boot cpu before ≡ Some after
    → IsSteady after.history
leave_steady boot cpu before after steady e =
    let out = left boot cpu before after e in
    let went = Exit cpu (record { a = out.exited.regs }) in
    subst (λ (p : Play). IsSteady p.history) out.is
    (subst IsSteady (sym (event_made boot went before out.gone out.came).0) (steady_behind before.history went steady tt))

-- ---- items

-- what follows keeps it, unless nothing does
goes_steady : (onward : Play → Option Play) (before after : Play) → IsSteady before.history
    → (onward before ≡ Some after → IsSteady after.history) → GoesOn onward before after → IsSteady after.history
goes_steady onward before after steady keeps (Onward going e) = keeps e
goes_steady onward before after steady keeps (Ended more is same) = subst (λ (p : Play). IsSteady p.history) same steady

-- the history of a play, where there is one
abbrev history_in : Option Play → List Event
history_in None = []
history_in (Some play) = play.history

item_steady : (boot : Booted) (i : Item) (before after : Play) → IsSteady before.history → after_item boot i before ≡ Some after
    → IsSteady after.history
item_steady boot (item.Smc cpu steps regs) before after steady e =
    let visit = visit_of before.history cpu steps regs in
    option_and_then_some (unless_refused (leaves boot cpu)) (enters boot before visit) after e
    (λ (between : Play) there onward.
    let steady_between = enter_steady boot visit before between steady there in
    goes_steady (leaves boot cpu) between after steady_between (leave_steady boot cpu between after steady_between)
    (goes_on (leaves boot cpu) between after onward))
item_steady boot (item.Enter cpu steps regs) before after steady e =
    enter_steady boot (visit_of before.history cpu steps regs) before after steady e
item_steady boot (item.Leave cpu) before after steady e = leave_steady boot cpu before after steady e
item_steady boot (item.Write cpu addr bytes) before after steady e =
    let history : before.history ≡ after.history = ap history_in e in subst IsSteady history steady
item_steady boot (item.Show cpu addr len) before after steady e =
    let history : before.history ≡ after.history = ap history_in e in subst IsSteady history steady

items_steady : (boot : Booted) (items : List Item) (before after : Play) → IsSteady before.history → after_items boot items before ≡ Some after
    → IsSteady after.history
items_steady boot [] before after steady e = let same : before ≡ after = cc in subst (λ (p : Play). IsSteady p.history) same steady
items_steady boot (first ∷ items) before after steady e =
    option_and_then_some (λ next. after_items boot items next) (unless_refused (after_item boot first) before) after e
    (λ (next : Play) there onward.
    items_steady boot items next after
    (goes_steady (after_item boot first) before next steady (item_steady boot first before next steady)
    (goes_on (after_item boot first) before next there))
    onward)

-- ---- traces

pub plays_are_faultless : PlaysAreFaultless
plays_are_faultless ram natives boot trace play boots e =
    let on = booted boot natives in
    let faultless : IsFaultless on play.history = record {
      legal = (traces_are_played ram natives boot trace play boots e).legal;
      steady = items_steady on trace.items (first_play ram on trace.fills) play tt e;
    } in
    record { faultless = faultless; verdict = faultless_can_begin on play.history faultless }

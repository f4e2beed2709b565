-- No item makes the RAM of a processor shorter.
use Rattle.std.proofs.Common.{◌≡◌, ℕ, zero, suc, ◌+◌, ◌-◌, ◌<◌, ◌≤◌, List, [], ◌∷◌, ◌++◌, length, take, drop, map}
use Rattle.std.proofs.Common.{Option, Some, ap, subst, sym, ◌∙◌, arith, length-drop}
use Rattle.std.specs.Prelude.{slice_index_or, slice_set}
use Rattle.std.proofs.lemmas.List.{length-append, length-replicate, length-set, length-take}
use Rattle.std.proofs.lemmas.List.Elements.{All-from_get_or, All-get_or, All-replicate}
use Rattle.std.proofs.lemmas.Option.{option_and_then_some}
use Rattle.event_journal.specs.declared.event.Event.{Event}
use Rattle.event_journal.specs.declared.event.Event.TheVariants.{Exit}
use Rattle.kernel_model.specs.Application.{Booted, booted}
use Rattle.kernel_model.specs.History.{after_event}
use Rattle.kernel_model.specs.Kernel.{Kernel, Visit}
use Rattle.kernel_model.proofs.Parts.{option_map_some}
use Rattle.ns_ram.specs.Lane.{bytes_put}
use Rattle.ns_ram.specs.Writes.{Write, lane_after}
use Rattle.trace_text.specs.declared.item.Item.{Item}
use Rattle.trace_text.specs.declared.item.Item.TheVariants as item
use Rattle.trace_text.specs.declared.trace.Fill.{Fill}
use Rattle.play_model.specs.Coming.{AreLanes, IsWhole}
use Rattle.play_model.specs.Play.{Play, after_item, after_items, enters, entry_event, filled, first_play, lane_of, leaves}
use Rattle.play_model.specs.Play.{unless_refused, visit_of, with_event, with_writes}
use Rattle.play_model.specs.Ram.{KeepsRam, RamIsKept}
use Rattle.play_model.proofs.Adds.{Ended, GoesOn, Onward, goes_on, some_is}
use Rattle.play_model.proofs.Entries.{CameIn, Entered, Left, WasRefused, entered, left}

-- ---- one processor's RAM

-- no write makes it shorter
put_longer : (lane : List ℕ) (addr : ℕ) (bytes : List ℕ) → length lane ≤ length (bytes_put lane addr bytes)
put_longer lane addr bytes =
    let offset = addr - 0x40000000 in
    let front = length-take offset lane in
    let back = length-drop (offset + length bytes) lane in
    let written = length-append (take offset lane) bytes in
    let whole = length-append (take offset lane ++ bytes) (drop (offset + length bytes) lane) in
    omega (arith, front, back, written, whole)

written_longer : (lane : List ℕ) (writes : List Write) → length lane ≤ length (lane_after lane writes)
written_longer lane [] = omega arith
written_longer lane (write ∷ writes) =
    let first = put_longer lane write.addr write.bytes in
    let others = written_longer (bytes_put lane write.addr write.bytes) writes in
    omega (arith, first, others)

pub still_whole : (lane : List ℕ) (writes : List Write) → IsWhole lane → IsWhole (lane_after lane writes)
still_whole lane writes whole = let longer = written_longer lane writes in omega (arith, longer, whole)

-- ---- that of all processors

set_longer : (lanes : List (List ℕ)) (cpu other : ℕ) (lane : List ℕ) → length (slice_index_or lanes cpu []) ≤ length lane
    → length (slice_index_or lanes other []) ≤ length (slice_index_or (slice_set lanes cpu lane) other [])
set_longer [] cpu other lane longer = omega arith
set_longer (first ∷ lanes) zero zero lane longer = longer
set_longer (first ∷ lanes) zero (suc other) lane longer = omega arith
set_longer (first ∷ lanes) (suc cpu) zero lane longer = omega arith
set_longer (first ∷ lanes) (suc cpu) (suc other) lane longer = set_longer lanes cpu other lane longer

pub writes_kept : (cpu : ℕ) (writes : List Write) (play : Play) → KeepsRam play (with_writes cpu writes play)
writes_kept cpu writes play =
    let now = lane_after (lane_of play cpu) writes in
    record {
      processors = length-set play.lanes cpu now;
      bytes = λ other. set_longer play.lanes cpu other now (written_longer (lane_of play cpu) writes);
    }

-- it stays
pub stays_kept : (before after : Play) → after.lanes ≡ before.lanes → KeepsRam before after
stays_kept before after same = record {
  processors = ap (λ (lanes : List (List ℕ)). length lanes) same;
  bytes = λ cpu.
      let long = ap (λ (lanes : List (List ℕ)). length (slice_index_or lanes cpu [])) same in omega (arith, long);
}

pub kept_more : (before between after : Play) → KeepsRam before between → KeepsRam between after → KeepsRam before after
kept_more before between after first second = record {
  processors = second.processors ∙ first.processors;
  bytes = λ cpu. let one = first.bytes cpu in let two = second.bytes cpu in omega (arith, one, two);
}

-- ---- one item

-- an event changes none
pub event_lanes : (boot : Booted) (event : Event) (before after : Play) → with_event boot event before ≡ Some after
    → after.lanes ≡ before.lanes
event_lanes boot event before after e =
    let came = option_map_some
    (λ (next : Kernel). record before { kernel = next; history = before.history ++ event ∷ [] })
    (after_event boot before.kernel event) after e in
    ap (λ (p : Play). p.lanes) (sym came.2)

pub entry_lanes : (boot : Booted) (visit : Visit) (before after : Play) → Entered boot visit before after
    → after.lanes ≡ before.lanes
entry_lanes boot visit before after (CameIn reads few came) =
    event_lanes boot (entry_event visit reads) before after came
entry_lanes boot visit before after (WasRefused reads much is) = ap (λ (p : Play). p.lanes) (sym is)

entry_kept : (boot : Booted) (visit : Visit) (before after : Play) → enters boot before visit ≡ Some after
    → KeepsRam before after
entry_kept boot visit before after e =
    stays_kept before after (entry_lanes boot visit before after (entered boot visit before after e))

exit_kept : (boot : Booted) (cpu : ℕ) (before after : Play) → Left boot cpu before after → KeepsRam before after
exit_kept boot cpu before after out =
    let event = Exit cpu (record { a = out.exited.regs }) in
    let wrote = writes_kept cpu out.exited.writes out.gone in
    subst (λ (p : Play). KeepsRam before p) out.is
    (kept_more before out.gone _ (stays_kept before out.gone (event_lanes boot event before out.gone out.came))
    (record { processors = wrote.processors; bytes = wrote.bytes }))

going_kept : (onward : Play → Option Play) (before after : Play) → GoesOn onward before after
    → (onward before ≡ Some after → KeepsRam before after) → KeepsRam before after
going_kept onward before after (Onward is e) keeps = keeps e
going_kept onward before after (Ended more is same) keeps =
    stays_kept before after (ap (λ (p : Play). p.lanes) (sym same))

item_kept : (boot : Booted) (i : Item) (before after : Play) → after_item boot i before ≡ Some after
    → KeepsRam before after
item_kept boot (item.Smc cpu steps regs) before after e =
    let visit = visit_of before.history cpu steps regs in
    option_and_then_some (unless_refused (leaves boot cpu)) (enters boot before visit) after e
    (λ (between : Play) there onward.
    kept_more before between after (entry_kept boot visit before between there)
    (going_kept (leaves boot cpu) between after (goes_on (leaves boot cpu) between after onward)
    (λ went. exit_kept boot cpu between after (left boot cpu between after went))))
item_kept boot (item.Enter cpu steps regs) before after e =
    entry_kept boot (visit_of before.history cpu steps regs) before after e
item_kept boot (item.Leave cpu) before after e = exit_kept boot cpu before after (left boot cpu before after e)
item_kept boot (item.Write cpu addr bytes) before after e =
    subst (λ (p : Play). KeepsRam before p) (some_is _ after e)
    (writes_kept cpu (record { addr = addr; bytes = bytes } ∷ []) before)
item_kept boot (item.Show cpu addr len) before after e =
    stays_kept before after (ap (λ (p : Play). p.lanes) (sym (some_is _ after e)))

-- ---- items in a row

items_kept : (boot : Booted) (items : List Item) (before after : Play) → after_items boot items before ≡ Some after
    → KeepsRam before after
items_kept boot [] before after e = stays_kept before after (ap (λ (p : Play). p.lanes) (sym (some_is _ after e)))
items_kept boot (first ∷ items) before after e =
    option_and_then_some (λ next. after_items boot items next) (unless_refused (after_item boot first) before) after e
    (λ (next : Play) there onward.
    kept_more before next after
    (going_kept (after_item boot first) before next (goes_on (after_item boot first) before next there)
    (λ came. item_kept boot first before next came))
    (items_kept boot items next after onward))

-- ---- whole RAM

pub first_lanes : (ram : List ℕ) (boot : Booted) (fills : List Fill) → IsWhole ram
    → AreLanes boot.cpus (first_play ram boot fills).lanes
first_lanes ram boot fills whole = record {
  count = length-replicate boot.cpus (filled ram fills);
  whole = All-replicate IsWhole boot.cpus (filled ram fills)
      (still_whole ram (map (λ (fill : Fill). record { addr = fill.addr; bytes = fill.bytes }) fills) whole);
}

lanes_kept : (cpus : ℕ) (before after : Play) → KeepsRam before after → AreLanes cpus before.lanes
    → AreLanes cpus after.lanes
lanes_kept cpus before after keeps are = record {
  count = keeps.processors ∙ are.count;
  whole = All-from_get_or IsWhole after.lanes [] (λ cpu within.
      let there : cpu < length before.lanes = subst (λ (n : ℕ). cpu < n) keeps.processors within in
      let was = All-get_or IsWhole before.lanes cpu [] there are.whole in
      let longer = keeps.bytes cpu in
      omega (arith, was, longer));
}

pub ram_is_kept : RamIsKept
ram_is_kept = record {
  by_item = item_kept;
  by_items = items_kept;
  whole = λ ram natives boot trace play whole e.
      let on = booted boot natives in
      let first = first_play ram on trace.fills in
      lanes_kept boot.cpus first play (items_kept on trace.items first play e) (first_lanes ram on trace.fills whole);
}

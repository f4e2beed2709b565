-- The entries of a play read no more bytes than they may, and one that is refused would have.
use Rattle.std.proofs.Common.{◌≡◌, ℕ, ◌+◌, ◌<◌, ◌≤◌, List, [], ◌∷◌, ◌++◌, Option, Some, None, refl, ap, subst, sym, ◌∙◌, arith}
use Rattle.std.proofs.lemmas.List.Sums.{sum_by-append}
use Rattle.std.proofs.lemmas.Option.{option_and_then_some}
use Rattle.event_journal.specs.Event.{copied_by}
use Rattle.event_journal.specs.Journal.{copied_bytes}
use Rattle.event_journal.specs.declared.event.Event.{Event}
use Rattle.event_journal.specs.declared.event.Event.TheVariants.{Exit}
use Rattle.kernel_model.specs.Application.{Booted}
use Rattle.kernel_model.specs.Kernel.{Visit}
use Rattle.ns_ram.specs.Reads.{total_bytes}
use Rattle.trace_text.specs.declared.item.Item.{Item}
use Rattle.trace_text.specs.declared.item.Item.TheVariants as item
use Rattle.trace_text.specs.declared.trace.Fill.{Fill}
use Rattle.play_model.specs.Laws.{ReadsAtMost}
use Rattle.play_model.specs.Play.{Play, after_item, after_items, enters, entry_event, first_play_within, leaves}
use Rattle.play_model.specs.Play.{unless_refused, visit_of, with_event}
use Rattle.play_model.proofs.Adds.{Ended, GoesOn, Onward, goes_on, some_is}
use Rattle.play_model.proofs.Entries.{CameIn, Entered, Left, WasRefused, entered, event_limit, event_made, left}

-- before the first entry
pub first_within : (most_bytes : ℕ) (ram : List ℕ) (boot : Booted) (fills : List Fill)
    → ReadsAtMost most_bytes (first_play_within most_bytes ram boot fills)
first_within most_bytes ram boot fills = record {
  limit = refl;
  few_bytes = omega arith;
  too_many = λ more is. absurd cc;
}

-- it says nothing of RAM and lines
pub within_same : {most_bytes : ℕ} (before after : Play) → after.history ≡ before.history
    → after.refused ≡ before.refused → after.most_bytes ≡ before.most_bytes
    → ReadsAtMost most_bytes before → ReadsAtMost most_bytes after
within_same {most_bytes} before after history refused limit within = record {
  limit = limit ∙ within.limit;
  few_bytes = subst (λ (h : List Event). copied_bytes h ≤ most_bytes) (sym history) within.few_bytes;
  too_many = λ more is.
      subst (λ (h : List Event). most_bytes < copied_bytes h + more) (sym history)
      (within.too_many more (sym refused ∙ is));
}

-- ---- an event

copied-event : (history : List Event) (event : Event)
    → copied_bytes (history ++ event ∷ []) ≡ copied_bytes history + copied_by event
copied-event history event = let sum = sum_by-append copied_by history (event ∷ []) in omega (arith, sum)

-- one that reads few enough bytes
event_within : {most_bytes : ℕ} (boot : Booted) (event : Event) (before after : Play)
    → with_event boot event before ≡ Some after → before.refused ≡ None → before.most_bytes ≡ most_bytes
    → copied_bytes before.history + copied_by event ≤ most_bytes → ReadsAtMost most_bytes after
event_within {most_bytes} boot event before after e going limit few =
    let made = event_made boot event before after e in
    let read = ap copied_bytes made.0 ∙ copied-event before.history event in
    record {
      limit = event_limit boot event before after e ∙ limit;
      few_bytes = subst (λ (n : ℕ). n ≤ most_bytes) (sym read) few;
      too_many = λ more is. let none : None ≡ Some more = sym (made.1 ∙ going) ∙ is in absurd cc;
    }

-- an exit reads none
pub out_within : {most_bytes : ℕ} (boot : Booted) (cpu : ℕ) (regs : List ℕ) (before after : Play)
    → with_event boot (Exit cpu (record { a = regs })) before ≡ Some after → before.refused ≡ None
    → ReadsAtMost most_bytes before → ReadsAtMost most_bytes after
out_within {most_bytes} boot cpu regs before after e going within =
    let had = within.few_bytes in
    let few : copied_bytes before.history + 0 ≤ most_bytes = omega (arith, had) in
    event_within boot (Exit cpu (record { a = regs })) before after e going within.limit few

-- ---- entries and exits

pub entry_within : {most_bytes : ℕ} (boot : Booted) (visit : Visit) (before after : Play)
    → Entered boot visit before after → before.refused ≡ None → ReadsAtMost most_bytes before
    → ReadsAtMost most_bytes after
entry_within {most_bytes} boot visit before after (CameIn reads few came) going within =
    event_within boot (entry_event visit reads) before after came going within.limit
    (subst (λ (n : ℕ). copied_bytes before.history + total_bytes reads ≤ n) within.limit few)
entry_within {most_bytes} boot visit before after (WasRefused reads much is) going within =
    let more = total_bytes reads in
    let here : Play = record before { refused = Some more } in
    let above : most_bytes < copied_bytes before.history + more =
    subst (λ (n : ℕ). n < copied_bytes before.history + more) within.limit much in
    let holds : ReadsAtMost most_bytes here = record {
      limit = within.limit;
      few_bytes = within.few_bytes;
      too_many = λ other same. let equal : more ≡ other = cc in
          subst (λ (n : ℕ). most_bytes < copied_bytes before.history + n) equal above;
    } in
    subst (ReadsAtMost most_bytes) is holds

exit_within : {most_bytes : ℕ} (boot : Booted) (cpu : ℕ) (before after : Play) → Left boot cpu before after
    → before.refused ≡ None → ReadsAtMost most_bytes before → ReadsAtMost most_bytes after
exit_within boot cpu before after out going within =
    within_same out.gone after (ap (λ (p : Play). p.history) (sym out.is)) (ap (λ (p : Play). p.refused) (sym out.is))
    (ap (λ (p : Play). p.most_bytes) (sym out.is))
    (out_within boot cpu out.exited.regs before out.gone out.came going within)

-- ---- items

-- it goes on within them, or stays
going_within : {most_bytes : ℕ} (onward : Play → Option Play) (before after : Play) → GoesOn onward before after
    → (before.refused ≡ None → onward before ≡ Some after → ReadsAtMost most_bytes after)
    → ReadsAtMost most_bytes before → ReadsAtMost most_bytes after
going_within onward before after (Onward is e) goes within = goes is e
going_within {most_bytes} onward before after (Ended more is same) goes within =
    subst (ReadsAtMost most_bytes) same within

item_within : {most_bytes : ℕ} (boot : Booted) (i : Item) (before after : Play)
    → after_item boot i before ≡ Some after → before.refused ≡ None → ReadsAtMost most_bytes before
    → ReadsAtMost most_bytes after
item_within boot (item.Smc cpu steps regs) before after e going within =
    let visit = visit_of before.history cpu steps regs in
    option_and_then_some (unless_refused (leaves boot cpu)) (enters boot before visit) after e
    (λ (between : Play) there onward.
    let here = entry_within boot visit before between (entered boot visit before between there) going within in
    going_within (leaves boot cpu) between after (goes_on (leaves boot cpu) between after onward)
    (λ still went. exit_within boot cpu between after (left boot cpu between after went) still here) here)
item_within boot (item.Enter cpu steps regs) before after e going within =
    let visit = visit_of before.history cpu steps regs in
    entry_within boot visit before after (entered boot visit before after e) going within
item_within boot (item.Leave cpu) before after e going within =
    exit_within boot cpu before after (left boot cpu before after e) going within
item_within boot (item.Write cpu addr bytes) before after e going within =
    within_same before after (ap (λ (p : Play). p.history) (sym (some_is _ after e)))
    (ap (λ (p : Play). p.refused) (sym (some_is _ after e)))
    (ap (λ (p : Play). p.most_bytes) (sym (some_is _ after e))) within
item_within boot (item.Show cpu addr len) before after e going within =
    within_same before after (ap (λ (p : Play). p.history) (sym (some_is _ after e)))
    (ap (λ (p : Play). p.refused) (sym (some_is _ after e)))
    (ap (λ (p : Play). p.most_bytes) (sym (some_is _ after e))) within

pub items_within : {most_bytes : ℕ} (boot : Booted) (items : List Item) (before after : Play)
    → after_items boot items before ≡ Some after → ReadsAtMost most_bytes before → ReadsAtMost most_bytes after
items_within {most_bytes} boot [] before after e within = subst (ReadsAtMost most_bytes) (some_is before after e) within
items_within boot (first ∷ items) before after e within =
    option_and_then_some (λ next. after_items boot items next) (unless_refused (after_item boot first) before) after e
    (λ (next : Play) there onward.
    items_within boot items next after onward
    (going_within (after_item boot first) before next (goes_on (after_item boot first) before next there)
    (λ going came. item_within boot first before next came going within) within))

-- The lines of a play tell of the exits of its history.
use Rattle.std.proofs.Common.{◌≡◌, ℕ, List, [], ◌∷◌, ◌++◌, Option, Some, ap, subst, sym, ◌∙◌}
use Rattle.std.specs.Prelude.{filter_map}
use Rattle.std.proofs.lemmas.List.{append-nil}
use Rattle.std.proofs.lemmas.List.Elements.{filter_map-append}
use Rattle.std.proofs.lemmas.Option.{option_and_then_some}
use Rattle.event_journal.specs.declared.event.Event.{Event}
use Rattle.event_journal.specs.declared.event.Event.TheVariants.{Exit}
use Rattle.kernel_model.specs.Application.{Booted}
use Rattle.kernel_model.specs.Kernel.{Visit}
use Rattle.ns_ram.specs.Lane.{bytes_at}
use Rattle.trace_text.specs.declared.item.Item.{Item}
use Rattle.trace_text.specs.declared.item.Item.TheVariants as item
use Rattle.play_model.specs.Line.{Line, Ret, Mem}
use Rattle.play_model.specs.Order.{TellsExits, line_of_event, told_by_line}
use Rattle.play_model.specs.Play.{Play, after_item, after_items, enters, entry_event, lane_of, leaves, unless_refused}
use Rattle.play_model.specs.Play.{visit_of}
use Rattle.play_model.proofs.Adds.{Ended, GoesOn, Onward, goes_on, some_is}
use Rattle.play_model.proofs.Entries.{CameIn, Entered, Left, WasRefused, entered, event_made, left}
use Rattle.play_model.proofs.LinesStay.{event_prints}

-- an event behind others
told-event : (history : List Event) (event : Event)
    → filter_map line_of_event (history ++ event ∷ []) ≡ filter_map line_of_event history ++ filter_map line_of_event
    (event ∷ [])
told-event history event = filter_map-append line_of_event history (event ∷ [])

entry_told : (boot : Booted) (visit : Visit) (before after : Play) → TellsExits before
    → Entered boot visit before after → TellsExits after
entry_told boot visit before after told (CameIn reads few came) =
    let event = entry_event visit reads in
    let made = event_made boot event before after came in
    let exits = ap (λ (h : List Event). filter_map line_of_event h) made.0 ∙ told-event before.history event
    ∙ append-nil (filter_map line_of_event before.history) in
    ap (λ (ls : List Line). filter_map told_by_line ls) (event_prints boot event before after came) ∙ told ∙ sym exits
entry_told boot visit before after told (WasRefused reads much is) = subst TellsExits is told

exit_told : (boot : Booted) (cpu : ℕ) (before after : Play) → TellsExits before → Left boot cpu before after
    → TellsExits after
exit_told boot cpu before after told out =
    let event : Event = Exit cpu (record { a = out.exited.regs }) in
    let line : Line = Ret cpu out.exited.regs in
    let made = event_made boot event before out.gone out.came in
    let exits = ap (λ (h : List Event). filter_map line_of_event h) made.0 ∙ told-event before.history event in
    let lines = filter_map-append told_by_line out.gone.lines (line ∷ [])
    ∙ ap (λ (ls : List Line). filter_map told_by_line ls ++ line ∷ [])
    (event_prints boot event before out.gone out.came) in
    subst TellsExits out.is (lines ∙ ap (λ (ls : List Line). ls ++ line ∷ []) told ∙ sym exits)

going_told : (onward : Play → Option Play) (before after : Play) → TellsExits before → GoesOn onward before after
    → (onward before ≡ Some after → TellsExits after) → TellsExits after
going_told onward before after told (Onward is e) tells = tells e
going_told onward before after told (Ended more is same) tells = subst TellsExits same told

item_told : (boot : Booted) (i : Item) (before after : Play) → TellsExits before
    → after_item boot i before ≡ Some after → TellsExits after
item_told boot (item.Smc cpu steps regs) before after told e =
    let visit = visit_of before.history cpu steps regs in
    option_and_then_some (unless_refused (leaves boot cpu)) (enters boot before visit) after e
    (λ (between : Play) there onward.
    let came = entry_told boot visit before between told (entered boot visit before between there) in
    going_told (leaves boot cpu) between after came (goes_on (leaves boot cpu) between after onward)
    (λ went. exit_told boot cpu between after came (left boot cpu between after went)))
item_told boot (item.Enter cpu steps regs) before after told e =
    let visit = visit_of before.history cpu steps regs in
    entry_told boot visit before after told (entered boot visit before after e)
item_told boot (item.Leave cpu) before after told e =
    exit_told boot cpu before after told (left boot cpu before after e)
item_told boot (item.Write cpu addr bytes) before after told e = subst TellsExits (some_is _ after e) told
item_told boot (item.Show cpu addr len) before after told e =
    let line : Line = Mem cpu addr (bytes_at (lane_of before cpu) addr len) in
    let same = filter_map-append told_by_line before.lines (line ∷ [])
    ∙ append-nil (filter_map told_by_line before.lines) in
    subst TellsExits (some_is _ after e) (same ∙ told)

pub items_told : (boot : Booted) (items : List Item) (before after : Play) → TellsExits before
    → after_items boot items before ≡ Some after → TellsExits after
items_told boot [] before after told e = subst TellsExits (some_is before after e) told
items_told boot (first ∷ items) before after told e =
    option_and_then_some (λ next. after_items boot items next) (unless_refused (after_item boot first) before) after e
    (λ (next : Play) there onward.
    items_told boot items next after
    (going_told (after_item boot first) before next told (goes_on (after_item boot first) before next there)
    (item_told boot first before next told))
    onward)

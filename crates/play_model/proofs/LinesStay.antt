-- Plays go on: what items print stays, and a fixed answer changes hardly anything.
use Rattle.std.proofs.Common.{◌≡◌, ℕ, Bool, true, false, List, [], ◌∷◌, ◌++◌, Option, Some, None, refl, ap, sym, ◌∙◌}
use Rattle.std.specs.Prelude.{slice_index_or, slice_set, bytes_eq, if◌then◌else◌}
use Rattle.std.specs.Option.{option_and_then}
use Rattle.std.proofs.lemmas.List.{append_assoc, append-nil, set-get_or}
use Rattle.std.proofs.lemmas.Option.{option_and_then_some}
use Rattle.event_journal.specs.declared.event.Event.{Event}
use Rattle.event_journal.specs.declared.event.Event.TheVariants.{Entry, Exit}
use Rattle.kernel_model.specs.Application.{Booted}
use Rattle.kernel_model.specs.Exit.{Exited, exit, goes_out}
use Rattle.kernel_model.specs.History.{after_event, exit_to}
use Rattle.kernel_model.specs.Kernel.{Kernel, Visit}
use Rattle.kernel_model.proofs.FixedAnswer.{fixed_answers}
use Rattle.kernel_model.proofs.Parts.{option_map_some}
use Rattle.trace_text.specs.declared.item.Item.{Item}
use Rattle.trace_text.specs.declared.item.Item.TheVariants as item
use Rattle.play_model.specs.Laws.{FixedAnswersPass, PlaysGoOn}
use Rattle.play_model.specs.Line.{Line, Ret}
use Rattle.play_model.specs.Play.{Play, after_item, after_items, enters, leaves, unless_refused, visit_of, with_event}
use Rattle.play_model.specs.Play.{with_line, with_writes}
use Rattle.play_model.proofs.Adds.{Ended, GoesOn, Onward, goes_on, some_is}
use Rattle.play_model.proofs.Entries.{CameIn, Entered, Left, WasRefused, entered, left}
use Rattle.play_model.proofs.Within.{items_within}

-- ---- what is printed

-- the lines that were there stay at the front
abbrev Prints : Play → Play → Type 0
Prints before after = (lines : List Line) × (after.lines ≡ before.lines ++ lines)

none_printed : (before after : Play) → after.lines ≡ before.lines → Prints before after
none_printed before after same = ([], same ∙ sym (append-nil before.lines))

printed_more : (before between after : Play) → Prints before between → Prints between after → Prints before after
printed_more before between after first second = (
  first.0 ++ second.0,
  second.1 ∙ ap (λ (ls : List Line). ls ++ second.0) first.1
      ∙ append_assoc before.lines first.0 second.0,
)

pub event_prints : (boot : Booted) (event : Event) (before after : Play) → with_event boot event before ≡ Some after
    → after.lines ≡ before.lines
event_prints boot event before after e =
    let came = option_map_some
    (λ (next : Kernel). record before { kernel = next; history = before.history ++ event ∷ [] })
    (after_event boot before.kernel event) after e in
    ap (λ (p : Play). p.lines) (sym came.2)

entry_prints : (boot : Booted) (visit : Visit) (before after : Play) → Entered boot visit before after
    → Prints before after
entry_prints boot visit before after (CameIn reads few came) =
    none_printed before after
    (event_prints boot (Entry visit.cpu (record { a = visit.regs }) visit.steps reads) before after came)
entry_prints boot visit before after (WasRefused reads much is) =
    none_printed before after (ap (λ (p : Play). p.lines) (sym is))

exit_prints : (boot : Booted) (cpu : ℕ) (before after : Play) → Left boot cpu before after → Prints before after
exit_prints boot cpu before after out =
    let line : Line = Ret cpu out.exited.regs in
    let same = event_prints boot (Exit cpu (record { a = out.exited.regs })) before out.gone out.came in
    (line ∷ [], ap (λ (p : Play). p.lines) (sym out.is) ∙ ap (λ (ls : List Line). ls ++ line ∷ []) same)

going_prints : (onward : Play → Option Play) (before after : Play) → GoesOn onward before after
    → (onward before ≡ Some after → Prints before after) → Prints before after
going_prints onward before after (Onward is e) prints = prints e
going_prints onward before after (Ended more is same) prints =
    none_printed before after (ap (λ (p : Play). p.lines) (sym same))

item_prints : (boot : Booted) (i : Item) (before after : Play) → after_item boot i before ≡ Some after
    → Prints before after
item_prints boot (item.Smc cpu steps regs) before after e =
    let visit = visit_of before.history cpu steps regs in
    option_and_then_some (unless_refused (leaves boot cpu)) (enters boot before visit) after e
    (λ (between : Play) there onward.
    printed_more before between after (entry_prints boot visit before between (entered boot visit before between there))
    (going_prints (leaves boot cpu) between after (goes_on (leaves boot cpu) between after onward)
    (λ went. exit_prints boot cpu between after (left boot cpu between after went))))
item_prints boot (item.Enter cpu steps regs) before after e =
    let visit = visit_of before.history cpu steps regs in
    entry_prints boot visit before after (entered boot visit before after e)
item_prints boot (item.Leave cpu) before after e = exit_prints boot cpu before after (left boot cpu before after e)
item_prints boot (item.Write cpu addr bytes) before after e =
    none_printed before after (ap (λ (p : Play). p.lines) (sym (some_is _ after e)))
item_prints boot (item.Show cpu addr len) before after e =
    (_, ap (λ (p : Play). p.lines) (sym (some_is _ after e)))

items_print : (boot : Booted) (items : List Item) (before after : Play) → after_items boot items before ≡ Some after
    → Prints before after
items_print boot [] before after e = none_printed before after (ap (λ (p : Play). p.lines) (sym (some_is _ after e)))
items_print boot (first ∷ items) before after e =
    option_and_then_some (λ next. after_items boot items next) (unless_refused (after_item boot first) before) after e
    (λ (next : Play) there onward.
    printed_more before next after
    (going_prints (after_item boot first) before next (goes_on (after_item boot first) before next there)
    (item_prints boot first before next))
    (items_print boot items next after onward))

-- ---- items behind items

onward_from : (boot : Booted) (items more : List Item) (o : Option Play)
    → ((play : Play) → after_items boot (items ++ more) play ≡ option_and_then (λ next. after_items boot more next)
    (after_items boot items play))
    → option_and_then (λ next. after_items boot (items ++ more) next) o
    ≡ option_and_then (λ next. after_items boot more next) (option_and_then (λ next. after_items boot items next) o)
onward_from boot items more None each = refl
onward_from boot items more (Some play) each = each play

items_onward : (boot : Booted) (items more : List Item) (play : Play)
    → after_items boot (items ++ more) play ≡ option_and_then (λ next. after_items boot more next)
    (after_items boot items play)
items_onward boot [] more play = refl
items_onward boot (first ∷ items) more play =
    onward_from boot items more (unless_refused (after_item boot first) play)
    (λ next. items_onward boot items more next)

pub plays_go_on : PlaysGoOn
plays_go_on = record {
  onward = items_onward;
  printed = items_print;
  within = λ most_bytes boot items before after e within. items_within boot items before after e within;
}

-- ---- fixed answers

-- an exit's kernel is that of its event
kernel_out : (exited : Exited) (next : Kernel) (same : Bool) → (if same then Some exited.kernel else None) ≡ Some next
    → exited.kernel ≡ next
kernel_out exited next true e = cc
kernel_out exited next false e = absurd cc

-- the play after an exit
play_out : (boot : Booted) (cpu : ℕ) (before after : Play) (exited : Exited) → exit before.kernel cpu ≡ Some exited
    → with_event boot (Exit cpu (record { a = exited.regs })) before ≡ Some after
    → record before {
      kernel = exited.kernel;
      history = before.history ++ Exit cpu
          (record { a = exited.regs }) ∷ [];
    } ≡ after
play_out boot cpu before after exited there e =
    let event : Event = Exit cpu (record { a = exited.regs }) in
    let made = λ (next : Kernel). record before { kernel = next; history = before.history ++ event ∷ [] } in
    let came = option_map_some made (after_event boot before.kernel event) after e in
    let out = sym (ap (λ (o : Option Exited). option_and_then (exit_to exited.regs) o) there) ∙ came.1 in
    ap made (kernel_out exited came.0 (bytes_eq exited.regs exited.regs) out) ∙ came.2

same_exited : (one other : Exited) → Some one ≡ Some other → one ≡ other
same_exited one other e = cc

pub fixed_answers_pass : FixedAnswersPass
fixed_answers_pass boot before after visit answer fixed e =
    let cpu = visit.cpu in
    let out = left boot visit.cpu before after e in
    let made = goes_out before.kernel visit answer [] in
    let is : made ≡ out.exited = same_exited made out.exited
    (sym (fixed_answers.exit before.kernel visit answer fixed) ∙ out.there) in
    let made_by = λ (exited : Exited). record before {
      kernel = exited.kernel;
      history = before.history ++ Exit visit.cpu (record { a = exited.regs }) ∷ [];
    } in
    let tells = λ (exited : Exited) (next : Play). with_line (Ret visit.cpu exited.regs)
    (with_writes visit.cpu exited.writes next) in
    let gone = play_out boot visit.cpu before out.gone out.exited out.there out.came in
    let whole : tells made (made_by made) ≡ after =
    ap (λ (exited : Exited). tells exited (made_by exited)) is ∙ ap (tells out.exited) gone ∙ out.is in
    let kept : slice_set before.lanes visit.cpu
    (slice_index_or before.lanes visit.cpu []) ≡ before.lanes = set-get_or before.lanes visit.cpu [] in
    sym whole ∙ ap (λ (lanes : List (List ℕ)). record (tells made (made_by made)) { lanes = lanes }) kept

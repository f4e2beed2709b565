-- A play prints lines, and takes none back.
use Rattle.std.proofs.Common.{◌≡◌, ℕ, List, [], ◌∷◌, ◌++◌, Option, Some, None, sym, ap, ◌∙◌, append_assoc, append-nil}
use Rattle.std.specs.Option.{option_map, option_map_or}
use Rattle.std.proofs.lemmas.Option.{option_and_then_some}
use Rattle.event_journal.specs.declared.event.Event.{Event}
use Rattle.event_journal.specs.declared.event.Event.TheVariants.{Entry, Exit}
use Rattle.kernel_model.specs.Application.{Booted}
use Rattle.kernel_model.specs.Exit.{Exited, exit}
use Rattle.kernel_model.specs.History.{after_event}
use Rattle.kernel_model.specs.Kernel.{Kernel, Visit}
use Rattle.kernel_model.proofs.Parts.{option_map_some}
use Rattle.notify_play.specs.NotifyPlay.{Drivers, NotifyPlay, after_item, after_step, comes_in, desk_of, duty_at, goes_out, goes_out_with, tells, unless_refused, visit_with, with_play}
use Rattle.notify_play.specs.Told.{told_regs}
use Rattle.notify_play.specs.Duty.{last_entry}
use Rattle.notify_text.specs.Steps.{Signals, Step, Takes}
use Rattle.play_model.specs.Line.{Line, Ret}
use Rattle.play_model.specs.Play.{Play, enters, with_event}
use Rattle.play_model.specs.Play as trace_play
use Rattle.play_model.proofs.Entries.{CameIn, Entered, WasRefused, entered}
use Rattle.trace_text.specs.declared.item.Item.{Item}
use Rattle.trace_text.specs.declared.item.Item.TheVariants as item
use Rattle.trace_text.specs.declared.item.Reg.{Reg}

-- these lines stand in front of those
pub record Grows (before after : NotifyPlay) : Type 0 where
  pub lines : List Line
  pub are : after.play.lines ≡ before.play.lines ++ lines

grows-not : (before after : NotifyPlay) → after.play.lines ≡ before.play.lines → Grows before after
grows-not before after same = record { lines = []; are = same ∙ sym (append-nil before.play.lines) }

grows-both : (before between after : NotifyPlay) → Grows before between → Grows between after → Grows before after
grows-both before between after first second = record {
  lines = first.lines ++ second.lines;
  are = second.are ∙ ap (λ (l : List Line). l ++ second.lines) first.are
      ∙ append_assoc before.play.lines first.lines second.lines;
}

-- an event prints nothing
pub event-lines : (boot : Booted) (event : Event) (before gone : Play) → with_event boot event before ≡ Some gone
    → gone.lines ≡ before.lines
event-lines boot event before gone e =
    let came = option_map_some
    (λ (next : Kernel). record before { kernel = next; history = before.history ++ event ∷ [] })
    (after_event boot before.kernel event) gone e in
    ap (λ (p : Play). p.lines) (sym came.2)

pub entry-lines : (boot : Booted) (visit : Visit) (before after : Play) → Entered boot visit before after
    → after.lines ≡ before.lines
entry-lines boot visit before after (CameIn reads few e) =
    event-lines boot (Entry visit.cpu (record { a = visit.regs }) visit.steps reads) before after e
entry-lines boot visit before after (WasRefused reads much is) = ap (λ (p : Play). p.lines) (sym is)

comes-grows : (boot : Booted) (cpu steps : ℕ) (regs : List Reg) (before after : NotifyPlay)
    → comes_in boot cpu steps regs before ≡ Some after → Grows before after
comes-grows boot cpu steps regs before after e =
    let visit = visit_with before cpu steps regs in
    let came = option_map_some (with_play before) (enters boot before.play visit) after e in
    grows-not before after (ap (λ (n : NotifyPlay). n.play.lines) (sym came.2)
    ∙ entry-lines boot visit before.play came.0 (entered boot visit before.play came.0 came.1))

-- an exit prints its line
goes-grows : (boot : Booted) (drivers : Drivers) (cpu : ℕ) (before after : NotifyPlay)
    → goes_out boot drivers cpu before ≡ Some after → Grows before after
goes-grows boot drivers cpu before after e =
    option_and_then_some (goes_out_with boot drivers before cpu) (exit before.play.kernel cpu) after e
    (λ (exited : Exited) found onward.
    let came = option_map_some (tells drivers before cpu exited (duty_at before cpu exited))
    (with_event boot (Exit cpu (record { a = exited.regs })) before.play) after onward in
    let regs = told_regs (desk_of drivers before) (last_entry before.play.history cpu).regs exited.regs (duty_at before cpu exited) in
    record {
      lines = Ret cpu regs ∷ [];
      are = ap (λ (n : NotifyPlay). n.play.lines) (sym came.2)
          ∙ ap (λ (l : List Line). l ++ Ret cpu regs ∷ [])
          (event-lines boot (Exit cpu (record { a = exited.regs })) before.play came.0 came.1);
    })

-- what follows, unless an entry was refused
unless-grows : (onward : NotifyPlay → Option NotifyPlay) (before after : NotifyPlay)
    → ((next : NotifyPlay) → onward before ≡ Some next → Grows before next)
    → (refused : Option ℕ) → option_map_or (λ more. Some before) refused (onward before) ≡ Some after
    → Grows before after
unless-grows onward before after goes None e = goes after e
unless-grows onward before after goes (Some more) e =
    let same : before ≡ after = cc in
    grows-not before after (ap (λ (n : NotifyPlay). n.play.lines) (sym same))

ram-grows : (boot : Booted) (i : Item) (before after : NotifyPlay) (more : List Line)
    → ((next : Play) → trace_play.after_item boot i before.play ≡ Some next → next.lines ≡ before.play.lines ++ more)
    → option_map (with_play before) (trace_play.after_item boot i before.play) ≡ Some after → Grows before after
ram-grows boot i before after more prints e =
    let came = option_map_some (with_play before) (trace_play.after_item boot i before.play) after e in
    record { lines = more; are = ap (λ (n : NotifyPlay). n.play.lines) (sym came.2) ∙ prints came.0 came.1 }

pub item-grows : (boot : Booted) (drivers : Drivers) (i : Item) (before after : NotifyPlay)
    → after_item boot drivers i before ≡ Some after → Grows before after
item-grows boot drivers (item.Smc cpu steps regs) before after e =
    option_and_then_some (unless_refused (goes_out boot drivers cpu)) (comes_in boot cpu steps regs before) after e
    (λ (between : NotifyPlay) came onward.
    grows-both before between after (comes-grows boot cpu steps regs before between came)
    (unless-grows (goes_out boot drivers cpu) between after (goes-grows boot drivers cpu between) between.play.refused onward))
item-grows boot drivers (item.Enter cpu steps regs) before after e = comes-grows boot cpu steps regs before after e
item-grows boot drivers (item.Leave cpu) before after e = goes-grows boot drivers cpu before after e
item-grows boot drivers (item.Write cpu addr bytes) before after e =
    ram-grows boot (item.Write cpu addr bytes) before after []
    (λ (next : Play) is. ap (λ (o : Option Play). option_map_or (λ (p : Play). p.lines) o []) (sym is)
    ∙ sym (append-nil before.play.lines)) e
item-grows boot drivers (item.Show cpu addr len) before after e =
    ram-grows boot (item.Show cpu addr len) before after _
    (λ (next : Play) is. ap (λ (o : Option Play). option_map_or (λ (p : Play). p.lines) o []) (sym is)) e

pub step-grows : (boot : Booted) (drivers : Drivers) (step : Step) (before after : NotifyPlay)
    → unless_refused (after_step boot drivers step) before ≡ Some after → Grows before after
step-grows boot drivers step before after e =
    unless-grows (after_step boot drivers step) before after (by step) before.play.refused e
  where
    by : (s : Step) (next : NotifyPlay) → after_step boot drivers s before ≡ Some next → Grows before next
    by (Takes i) next is = item-grows boot drivers i before next is
    by (Signals value) next is =
        grows-not before next (ap (λ (o : Option NotifyPlay). option_map_or (λ (n : NotifyPlay). n.play.lines) o []) (sym is))

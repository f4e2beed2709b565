-- What steps print stays.
use Rattle.std.proofs.Common.{◌≡◌, ℕ, List, [], ◌∷◌, ◌++◌, Option, Some, None, refl, ap, sym, ◌∙◌}
use Rattle.std.specs.Option.{option_map_or}
use Rattle.std.proofs.lemmas.List.{append_assoc, append-nil}
use Rattle.std.proofs.lemmas.Option.{option_and_then_some}
use Rattle.event_journal.specs.declared.event.Event.TheVariants.{Entry, Exit}
use Rattle.kernel_model.specs.Application.{Booted}
use Rattle.kernel_model.specs.Kernel.{Visit}
use Rattle.kernel_model.proofs.Parts.{option_map_some}
use Rattle.notify_play.specs.Duty.{last_entry}
use Rattle.notify_play.specs.Told.{told_regs}
use Rattle.notify_play.specs.NotifyPlay.{Drivers, NotifyPlay, after_item, after_step, after_steps, comes_in, desk_of, duty_at, goes_out, unless_refused, visit_with, with_play}
use Rattle.notify_text.specs.Steps.{Signals, Step, Takes}
use Rattle.play_model.specs.Line.{Line, Ret}
use Rattle.play_model.specs.Play.{Play, enters}
use Rattle.play_model.specs.Play as trace_play
use Rattle.play_model.proofs.Entries.{CameIn, Entered, WasRefused, entered}
use Rattle.play_model.proofs.LinesStay.{event_prints}
use Rattle.trace_text.specs.declared.item.Item.{Item}
use Rattle.trace_text.specs.declared.item.Item.TheVariants as item
use Rattle.trace_text.specs.declared.item.Reg.{Reg}
use Rattle.notify_player.proofs.Coming.{gone_same, unless_none, unless_some, went_out}

-- the lines that were there stay at the front
abbrev pub Adds : NotifyPlay → NotifyPlay → Type 0
Adds before after = (lines : List Line) × (after.play.lines ≡ before.play.lines ++ lines)

adds_none : (before after : NotifyPlay) → after.play.lines ≡ before.play.lines → Adds before after
adds_none before after same = ([], same ∙ sym (append-nil before.play.lines))

adds_more : (before between after : NotifyPlay) → Adds before between → Adds between after → Adds before after
adds_more before between after first second = (
  first.0 ++ second.0,
  second.1 ∙ ap (λ (ls : List Line). ls ++ second.0) first.1 ∙ append_assoc before.play.lines first.0 second.0,
)

entry_lines : (boot : Booted) (visit : Visit) (before after : Play) → Entered boot visit before after
    → after.lines ≡ before.lines
entry_lines boot visit before after (CameIn reads few came) =
    event_prints boot (Entry visit.cpu (record { a = visit.regs }) visit.steps reads) before after came
entry_lines boot visit before after (WasRefused reads much is) = ap (λ (p : Play). p.lines) (sym is)

in_adds : (boot : Booted) (cpu steps : ℕ) (regs : List Reg) (before after : NotifyPlay)
    → comes_in boot cpu steps regs before ≡ Some after → Adds before after
in_adds boot cpu steps regs before after e =
    let visit = visit_with before cpu steps regs in
    let came = option_map_some (with_play before) (enters boot before.play visit) after e in
    adds_none before after (ap (λ (n : NotifyPlay). n.play.lines) (sym came.2)
    ∙ entry_lines boot visit before.play came.0 (entered boot visit before.play came.0 came.1))

out_adds : (boot : Booted) (drivers : Drivers) (cpu : ℕ) (before after : NotifyPlay)
    → goes_out boot drivers cpu before ≡ Some after → Adds before after
out_adds boot drivers cpu before after e =
    let w = went_out boot drivers cpu before after e in
    let same = gone_same boot (Exit cpu (record { a = w.exited.regs })) before.play w.gone w.came in
    let line = Ret cpu
    (told_regs (desk_of drivers before) (last_entry before.play.history cpu).regs w.exited.regs (duty_at before cpu w.exited)) in (
      line ∷ [],
      ap (λ (n : NotifyPlay). n.play.lines) (sym w.is) ∙ ap (λ (ls : List Line). ls ++ line ∷ []) same.1,
    )

-- one that goes on, or was refused
going_adds : (onward : NotifyPlay → Option NotifyPlay) (before after : NotifyPlay) (refused : Option ℕ)
    → before.play.refused ≡ refused → unless_refused onward before ≡ Some after
    → (onward before ≡ Some after → Adds before after) → Adds before after
going_adds onward before after None is e adds = adds (sym (unless_none onward before is) ∙ e)
going_adds onward before after (Some more) is e adds =
    let here : Some before ≡ Some after = sym (unless_some onward before more is) ∙ e in
    let same : before ≡ after = cc in
    adds_none before after (ap (λ (n : NotifyPlay). n.play.lines) (sym same))

item_adds : (boot : Booted) (drivers : Drivers) (i : Item) (before after : NotifyPlay)
    → after_item boot drivers i before ≡ Some after → Adds before after
item_adds boot drivers (item.Smc cpu steps regs) before after e =
    option_and_then_some (unless_refused (goes_out boot drivers cpu)) (comes_in boot cpu steps regs before) after e
    (λ (between : NotifyPlay) came onward.
    adds_more before between after (in_adds boot cpu steps regs before between came)
    (going_adds (goes_out boot drivers cpu) between after between.play.refused refl onward
    (λ out. out_adds boot drivers cpu between after out)))
item_adds boot drivers (item.Enter cpu steps regs) before after e = in_adds boot cpu steps regs before after e
item_adds boot drivers (item.Leave cpu) before after e = out_adds boot drivers cpu before after e
item_adds boot drivers (item.Write cpu addr bytes) before after e =
    let came = option_map_some (with_play before) (trace_play.after_item boot (item.Write cpu addr bytes) before.play)
    after e in
    let wrote = came.1 in
    let same : came.0.lines ≡ before.play.lines =
    ap (λ (o : Option Play). option_map_or (λ (p : Play). p.lines) o before.play.lines) (sym wrote) in
    adds_none before after (ap (λ (n : NotifyPlay). n.play.lines) (sym came.2) ∙ same)
item_adds boot drivers (item.Show cpu addr len) before after e =
    let came = option_map_some (with_play before) (trace_play.after_item boot (item.Show cpu addr len) before.play)
    after e in (
      _,
      ap (λ (n : NotifyPlay). n.play.lines) (sym came.2)
          ∙ ap (λ (o : Option Play). option_map_or (λ (p : Play). p.lines) o before.play.lines) (sym came.1),
    )

step_adds : (boot : Booted) (drivers : Drivers) (step : Step) (before after : NotifyPlay)
    → after_step boot drivers step before ≡ Some after → Adds before after
step_adds boot drivers (Takes i) before after e = item_adds boot drivers i before after e
step_adds boot drivers (Signals value) before after e =
    adds_none before after
    (ap (λ (o : Option NotifyPlay). option_map_or (λ (n : NotifyPlay). n.play.lines) o before.play.lines) (sym e))

pub steps_add : (boot : Booted) (drivers : Drivers) (steps : List Step) (before after : NotifyPlay)
    → after_steps boot drivers steps before ≡ Some after → Adds before after
steps_add boot drivers [] before after e =
    let same : before ≡ after = cc in
    adds_none before after (ap (λ (n : NotifyPlay). n.play.lines) (sym same))
steps_add boot drivers (first ∷ steps) before after e =
    option_and_then_some (λ next. after_steps boot drivers steps next)
    (unless_refused (after_step boot drivers first) before) after e
    (λ (next : NotifyPlay) came onward.
    adds_more before next after
    (going_adds (after_step boot drivers first) before next before.play.refused refl came
    (λ went. step_adds boot drivers first before next went))
    (steps_add boot drivers steps next after onward))

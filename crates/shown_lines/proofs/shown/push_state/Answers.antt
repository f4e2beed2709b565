use Rattle.std.proofs.Common.{◌++◌, map, ap, ◌∙◌}
use Rattle.kernel_state.specs.Processors.{processor_of}
use Rattle.kernel_state.specs.Setup.{booted_of_setup}
use Rattle.live_play.specs.State.{inside_lines, instance_lines}
use Rattle.shown_lines.proofs.Tables.{state_told}
use Rattle.shown_lines.proofs.shown.push_state.Goals as goal

pub returns : goal.returns
returns c = λ so.
    state_told c.push_counts.result (booted_of_setup c.args.parts.now.setup) so.kernel c.args.parts.now.journal.events
    c.args.text.now.items c.push_slots.new.text.items c.push_masks.new.text.items c.push_insides.new.text.items
    c.push_instances.new.text.items c.push_counts.new.text.items
    (c.in_ok-push_slots.ensures so.kernel.slots (rw (c.as_slice.ensures, c.as_slice-2.ensures.value) so.stands.slots))
    (c.in_ok-push_masks.ensures c.args.parts.now.cancellations.items so.kernel.slots (rw c.as_slice-3.ensures so.stands.slots))
    (c.in_ok-push_insides.ensures
    ∙ ap (λ l. c.push_masks.new.text.items ++ inside_lines l) (ap (map processor_of) c.as_slice-4.ensures.value ∙ so.stands.processors))
    (c.in_ok-push_instances.ensures ∙ ap (λ tables. c.push_insides.new.text.items ++ instance_lines tables) so.stands.tables)
    (c.push_counts.ensures so)

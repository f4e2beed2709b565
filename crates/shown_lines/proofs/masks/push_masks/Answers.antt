use Rattle.std.proofs.Common.{sym, append-nil, arith}
use Rattle.std.specs.Prelude.{slice_get}
use Rattle.live_play.specs.State.{masked_line, text_if, texts_below}
use Rattle.shown_lines.proofs.Texts.{texts_more}
use Rattle.shown_lines.proofs.Tables.{all_slots, slot_there}
use Rattle.shown_lines.proofs.masks.push_masks.Goals as goal

pub loop-number-init : goal.loop-number-init
unfolding texts_below
loop-number-init c = λ besides held are. sym (append-nil c.args.text.now.items)

pub loop-number-preserved : goal.loop-number-preserved
loop-number-preserved c = λ besides held are.
    texts_more c.loop-number.number (λ number. text_if (masked_line number) (slice_get held number)) c.args.text.now.items
    c.loop-number.text.items c.push_masked.new.text.items (c.loop-number.invariant besides held are)
    (c.in_ok-push_masked.ensures (slice_get besides c.loop-number.number) (slice_get held c.loop-number.number)
    (slot_there c.args.slots.now besides held c.loop-number.number c.index-slots-number.result (omega arith)
    c.index-slots-number.is are))

pub returns : goal.returns
returns c = λ besides held are. all_slots masked_line c.args.slots.now besides held c.loop-number.number _ _ (omega (arith, c.loop-number-test.false, c.loop-number.auto.number-end)) are (c.loop-number.invariant besides held are)

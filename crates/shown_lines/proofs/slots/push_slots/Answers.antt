use Rattle.std.proofs.Common.{sym, append-nil, arith}
use Rattle.std.specs.Prelude.{slice_get}
use Rattle.live_play.specs.State.{slot_line, text_if, texts_below}
use Rattle.shown_lines.proofs.Texts.{texts_more}
use Rattle.shown_lines.proofs.Tables.{all_slots, slot_there}
use Rattle.shown_lines.proofs.slots.push_slots.Goals as goal

pub loop-number-init : goal.loop-number-init
unfolding texts_below
loop-number-init c = λ held are. sym (append-nil c.args.text.now.items)

pub loop-number-preserved : goal.loop-number-preserved
loop-number-preserved c = λ held are.
    texts_more c.loop-number.number (λ number. text_if (slot_line number) (slice_get held number)) c.args.text.now.items
    c.loop-number.text.items c.push_slot_at.new.text.items (c.loop-number.invariant held are)
    (c.in_ok-push_slot_at.ensures (slice_get held c.loop-number.number)
    (slot_there c.args.slots.now c.args.besides.now held c.loop-number.number c.index-slots-number.result (omega arith)
    c.index-slots-number.is are))

pub returns : goal.returns
returns c = λ held are. all_slots slot_line c.args.slots.now c.args.besides.now held c.loop-number.number _ _ (omega (arith, c.loop-number-test.false, c.loop-number.auto.number-end)) are (c.loop-number.invariant held are)

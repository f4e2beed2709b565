use Rattle.kernel_model.specs.NewCall.{listed_pages}
use Rattle.new_calls.proofs.Buffers.{walked_buffer}
use Rattle.new_calls.proofs.Steps.{with_fault, without_fault}
use Rattle.new_calls.proofs.call.CallAtEntry.listed_pages.Goals as goal

pub returns-in-Ok-clause-walked : goal.returns-in-Ok-clause-walked
returns-in-Ok-clause-walked c = λ faulty.
    without_fault (listed_pages c.args.param.now) faulty c.args.lane.now c.args.reads.now c.take_pages.new.reads c.in-Ok.pages.items
    (rw (c.offset_in.ensures.value, c.pages_touched-count.ensures) at c.in-Ok.ensures.pages)

pub returns-in-Err-BadPage-clause-walked : goal.returns-in-Err-BadPage-clause-walked
returns-in-Err-BadPage-clause-walked c = λ faulty.
    with_fault (listed_pages c.args.param.now) faulty c.args.lane.now c.args.reads.now c.take_pages.new.reads c.in-Err-BadPage.field-0-0
    (rw (c.offset_in.ensures.value, c.pages_touched-count.ensures, c.in-Err-BadPage.field-0-is) at c.in-Err-BadPage.ensures.bad)

pub returns-in-Ok-clause-good : goal.returns-in-Ok-clause-good
returns-in-Ok-clause-good c =
    walked_buffer c.args.param.now c.args.lane.now c.args.reads.now c.take_pages.new.reads c.in-Ok.pages.items (rw (← c.offset_in.ensures.value) c.offset_in.ensures.page) c.requires
    (rw (c.offset_in.ensures.value, c.pages_touched-count.ensures) at c.in-Ok.ensures.pages)

use Rattle.param_copy.specs.Copying.{copying}
use Rattle.param_copy.specs.Outcome.{copies_in}
use Rattle.param_copy.specs.declared.fault.CopyFault.TheVariants.{TooLong, Cookie, Range, Page}
use Rattle.new_calls.proofs.Cookies.{cookies_kept}
use Rattle.new_calls.proofs.Steps.{with_fault, without_fault}
use Rattle.new_calls.proofs.call.CallAtEntry.copied_params.Goals as goal

pub returns-in_ok-boxed-in-Ok-clause-copied : goal.returns-in_ok-boxed-in-Ok-clause-copied
returns-in_ok-boxed-in-Ok-clause-copied c = λ faulty.
    rw c.in_ok-boxed-in-Ok.ensures.ok (without_fault (copying c.args.self.now.tables.now.registry.buffers c.args.params.now c.args.first) faulty c.args.lane.now c.args.reads.now c.take_params.new.reads (copies_in c.in-Ok.copies) c.in-Ok.ensures.ok)

pub returns-in-Err-TooLong-clause-copied : goal.returns-in-Err-TooLong-clause-copied
returns-in-Err-TooLong-clause-copied c = λ faulty.
    with_fault (copying c.args.self.now.tables.now.registry.buffers c.args.params.now c.args.first) faulty c.args.lane.now c.args.reads.now c.take_params.new.reads (TooLong c.in-Err-TooLong.field-0-0)
    (rw c.in-Err-TooLong.field-0-is at c.in-Err-TooLong.ensures.faulty)

pub returns-in-Err-Cookie-clause-copied : goal.returns-in-Err-Cookie-clause-copied
returns-in-Err-Cookie-clause-copied c = λ faulty.
    with_fault (copying c.args.self.now.tables.now.registry.buffers c.args.params.now c.args.first) faulty c.args.lane.now c.args.reads.now c.take_params.new.reads (Cookie c.in-Err-Cookie.field-0-0)
    (rw c.in-Err-Cookie.field-0-is at c.in-Err-Cookie.ensures.faulty)

pub returns-in-Err-Range-clause-copied : goal.returns-in-Err-Range-clause-copied
returns-in-Err-Range-clause-copied c = λ faulty.
    with_fault (copying c.args.self.now.tables.now.registry.buffers c.args.params.now c.args.first) faulty c.args.lane.now c.args.reads.now c.take_params.new.reads (Range c.in-Err-Range.field-0-0)
    (rw c.in-Err-Range.field-0-is at c.in-Err-Range.ensures.faulty)

pub returns-in-Err-Page-clause-copied : goal.returns-in-Err-Page-clause-copied
returns-in-Err-Page-clause-copied c = λ faulty.
    with_fault (copying c.args.self.now.tables.now.registry.buffers c.args.params.now c.args.first) faulty c.args.lane.now c.args.reads.now c.take_params.new.reads (Page c.in-Err-Page.field-0-0 c.in-Err-Page.field-0-1)
    (rw c.in-Err-Page.field-0-is at c.in-Err-Page.ensures.faulty)

pub returns-in_ok-boxed-in-Ok-clause-cookies : goal.returns-in_ok-boxed-in-Ok-clause-cookies
returns-in_ok-boxed-in-Ok-clause-cookies c =
    rw c.in_ok-boxed-in-Ok.ensures.ok (cookies_kept c.args.self.now.tables.now.registry.buffers c.args.params.now c.args.first c.args.lane.now c.args.reads.now c.take_params.new.reads (copies_in c.in-Ok.copies) c.in-Ok.ensures.ok)

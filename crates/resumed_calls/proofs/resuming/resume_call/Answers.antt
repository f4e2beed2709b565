use Rattle.std.proofs.Common.{rules}
use Rattle.kernel_state.specs.Setup.{booted_of_setup}
use Rattle.kernel_state.specs.Tables.{tables_of}
use Rattle.resumed_calls.proofs.Resumes.{can_be_answered, in_line, may_be_app, waiting_onward, working_onward}
use Rattle.resumed_calls.specs.Giving.{given_as}
use Rattle.resumed_calls.proofs.resuming.resume_call.Goals as goal

pub resume_waiting-requires-clause-line : goal.resume_waiting-requires-clause-line
resume_waiting-requires-clause-line c =
    in_line (booted_of_setup c.args.setup.now) (tables_of c.args.tables.now) c.args.resumed c.args.cont.now c.see_mark.new.cont c.call_given.new.cont
    (given_as c.args.resumed.given) c.requires.call c.see_mark.ensures.call c.call_given.ensures.call c.see_mark.ensures.stays c.call_given.ensures.stays c.in-Waits.is

pub resume_waiting-requires-clause-app : goal.resume_waiting-requires-clause-app
resume_waiting-requires-clause-app c =
    may_be_app c.args.setup.now (tables_of c.args.tables.now) c.args.resumed c.args.cont.now c.see_mark.new.cont c.call_given.new.cont c.requires.boot c.requires.app
    (in_line (booted_of_setup c.args.setup.now) (tables_of c.args.tables.now) c.args.resumed c.args.cont.now c.see_mark.new.cont c.call_given.new.cont
    (given_as c.args.resumed.given) c.requires.call c.see_mark.ensures.call c.call_given.ensures.call c.see_mark.ensures.stays c.call_given.ensures.stays c.in-Waits.is)
    c.see_mark.ensures.stays c.call_given.ensures.stays c.in-Waits.is

pub returns-in-Waits-clause-call : goal.returns-in-Waits-clause-call
returns-in-Waits-clause-call c =
    waiting_onward (tables_of c.resume_waiting.new.tables) (tables_of c.args.tables.now) (booted_of_setup c.args.setup.now) c.args.resumed c.args.cont.now
    c.see_mark.new.cont c.call_given.new.cont c.resume_waiting.new.cont (given_as c.args.resumed.given) c.is_without_buffer-without_buffer.result
    c.see_mark.ensures.call c.call_given.ensures.call c.in-Waits.is c.is_without_buffer-without_buffer.ensures c.resume_waiting.ensures.call

pub returns-in-Runs : goal.returns-in-Runs
returns-in-Runs c = record {
  call =
      working_onward (tables_of c.args.tables.now) (booted_of_setup c.args.setup.now) c.args.resumed c.args.cont.now c.see_mark.new.cont c.call_given.new.cont
      c.go_on.new.cont (given_as c.args.resumed.given) c.see_mark.ensures.call c.call_given.ensures.call c.go_on.ensures;
  pages = c.requires.pages;
}

pub go_on-requires : goal.go_on-requires
go_on-requires c = record {
  phase = search rules;
  asked =
      can_be_answered (booted_of_setup c.args.setup.now) (tables_of c.args.tables.now) c.args.resumed c.args.cont.now c.see_mark.new.cont c.call_given.new.cont
      (given_as c.args.resumed.given) c.requires.call c.see_mark.ensures.call c.call_given.ensures.call;
}

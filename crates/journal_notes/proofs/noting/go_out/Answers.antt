-- It goes out, and its registers are compared.
use Rattle.std.proofs.Common.{◌≡◌, true, ◌∙◌}
use Rattle.journal_notes.proofs.Exits.{exit_does, exit_done, exit_noted}
use Rattle.journal_replay.proofs.Left.{is_in}
use Rattle.journal_replay.specs.Replaying.{done_by}
use Rattle.journal_notes.proofs.noting.go_out.Goals as goal

pub returns-then-not-is_inside-clause-does : goal.returns-then-not-is_inside-clause-does
returns-then-not-is_inside-clause-does g c can =
    let inside = c.is_inside.ensures.1 (is_in c.args.replay.now c.args.cpu c.args.regs.now can) in
    absurd cc

pub returns-clause-does : goal.returns-clause-does
returns-clause-does g c =
    let old = c.args.replay.now in
    let it = c.in_ok-go_out.ensures.noted in
    let new = record old { at_work = c.go_out.new.at_work; lane = c.go_out.new.lane; kept = c.replay-1.given.0 } in
    exit_does g.N.EventNotes.meaning old new c.args.cpu c.args.regs.now old.lane c.go_out.new.lane c.args.notes.now c.go_out.new.self it
    c.last_has_left.result
    (c.last_has_left.ensures (done_by old) c.args.cpu it.told
    (c.as_slice-events.ensures ∙ c.journal.ensures.events ∙ exit_done g.N.EventNotes.meaning old new c.args.cpu old.lane c.go_out.new.lane c.args.notes.now c.go_out.new.self it))

pub returns-clause-noted : goal.returns-clause-noted
returns-clause-noted g c ok =
    let old = c.args.replay.now in
    let it = c.in_ok-go_out.ensures.noted in
    let new = record old { at_work = c.go_out.new.at_work; lane = c.go_out.new.lane; kept = c.replay-1.given.0 } in
    let is : c.last_has_left.result ≡ true = cc in
    exit_noted g.N.EventNotes.meaning old new c.args.cpu c.args.regs.now old.lane c.go_out.new.lane c.args.notes.now c.go_out.new.self it
    ((c.last_has_left.ensures (done_by old) c.args.cpu it.told
    (c.as_slice-events.ensures ∙ c.journal.ensures.events ∙ exit_done g.N.EventNotes.meaning old new c.args.cpu old.lane c.go_out.new.lane c.args.notes.now c.go_out.new.self it)).0 is)

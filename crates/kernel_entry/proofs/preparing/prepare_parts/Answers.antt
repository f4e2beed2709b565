use Rattle.std.proofs.Common.{◌≡◌, Err, List, [], ap, arith, subst, sym}
use Rattle.std.proofs.lemmas.Result.{err_from_is_err_and}
use Rattle.event_journal.specs.Journal.{copied_bytes}
use Rattle.kernel_state.specs.declared.parts.Parts.{Parts}
use Rattle.ns_ram.specs.declared.read.Read.{Read}
use Rattle.kernel_entry.proofs.Readying.{decided_boxed, found_boxed, given_boxed, too_much}
use Rattle.kernel_entry.specs.Deciding.{IsDecided, IsGiven}
use Rattle.kernel_entry.specs.Entering.{IsDecidedBy, IsPrepared, Prepares}
use Rattle.kernel_entry.proofs.preparing.prepare_parts.Goals as goal

pub returns-in_err-make_ready-clause-prepares : goal.returns-in_err-make_ready-clause-prepares
returns-in_err-make_ready-clause-prepares c =
    let parts : Parts = record c.args.parts.now { journal = c.make_room.new.journal } in
    let boxes = c.make_ready.new.parts.blanks in
    let decides : IsDecidedBy parts c.args.regs.now.a c.args.lane.now c.decide.new.reads c.in-Ok-decide.decision =
    λ kernel stands. subst (λ (before : List Read). IsDecided parts kernel c.args.regs.now.a c.args.lane.now before c.decide.new.reads c.in-Ok-decide.decision)
    c.new-reads.ensures (c.in-Ok-decide.ensures.decides kernel stands) in
    let told = err_from_is_err_and c.from_residual.result c.from_residual.ensures.1 in
    rw (told.1, told.2) (subst (λ (parts : Parts). Prepares parts c.args.regs.now.a c.args.lane.now (Err c.in_err-make_ready.field-0.0)) (sym c.make_ready.ensures.stays)
    (too_much (record parts { blanks = boxes }) c.args.regs.now.a c.args.lane.now c.decide.new.reads c.in-Ok-decide.decision c.in_err-make_ready.field-0.0
    (decided_boxed parts boxes c.args.regs.now.a c.args.lane.now c.decide.new.reads c.in-Ok-decide.decision decides) c.in_err-make_ready.ensures.fit))

pub returns-clause-prepares : goal.returns-clause-prepares
returns-clause-prepares c =
    let parts : Parts = record c.args.parts.now { journal = c.make_room.new.journal } in
    let boxes = c.make_ready.new.parts.blanks in
    let decides : IsDecidedBy parts c.args.regs.now.a c.args.lane.now c.decide.new.reads c.in-Ok-decide.decision =
    λ kernel stands. subst (λ (before : List Read). IsDecided parts kernel c.args.regs.now.a c.args.lane.now before c.decide.new.reads c.in-Ok-decide.decision)
    c.new-reads.ensures (c.in-Ok-decide.ensures.decides kernel stands) in
    subst (λ (parts : Parts). IsPrepared parts c.args.regs.now.a c.args.lane.now (record { decision = c.in-Ok-decide.decision; reads = c.decide.new.reads })) (sym c.make_ready.ensures.stays)
    (record {
      decides = decided_boxed parts boxes c.args.regs.now.a c.args.lane.now c.decide.new.reads c.in-Ok-decide.decision decides;
      given = given_boxed parts boxes c.args.regs.now.a c.args.lane.now [] c.decide.new.reads c.in-Ok-decide.decision
          (subst (λ (before : List Read). IsGiven parts c.args.regs.now.a c.args.lane.now before c.decide.new.reads c.in-Ok-decide.decision)
          c.new-reads.ensures c.in-Ok-decide.ensures.given);
      found = found_boxed parts boxes c.args.regs.now.a c.in-Ok-decide.decision c.in-Ok-decide.ensures.found;
      room = omega (arith, c.in-Ok.ensures.room);
      blank = c.in_ok-make_ready.ensures.boxed;
      few = c.in_ok-make_ready.ensures.fit;
    })

pub make_ready-requires : goal.make_ready-requires
make_ready-requires c =
    let before : copied_bytes c.make_room.new.journal.events ≡ copied_bytes c.args.parts.now.journal.events = ap copied_bytes c.make_room.ensures.events in
    omega (arith, before, c.requires.few)

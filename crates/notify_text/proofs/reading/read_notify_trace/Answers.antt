use Rattle.std.proofs.Common.{arith, length, ◌∷◌, ap, true, refl, sym, subst, Ok, Err}
use Rattle.std.proofs.lemmas.List.{length-append}
use Rattle.line_grammar.specs.Reading.{read_pieces}
use Rattle.line_grammar.proofs.Pieces.{ends_badly, goes_on}
use Rattle.trace_text.specs.declared.fault.TraceFault.TheVariants.{Bad}
use Rattle.trace_text.specs.Grammar.{pieces_of}
use Rattle.notify_text.specs.Grammar.{signal_lines}
use Rattle.notify_text.specs.Rules.{after_line, line_rules, no_lines}
use Rattle.trace_text.proofs.Answered.{ends, placed_in, stops}
use Rattle.notify_text.specs.Statement.{HasBootOfSignals}
use Rattle.notify_text.proofs.Meanings.{answer_read}
use Rattle.notify_text.proofs.SoundSignals.{boot-stays}
use Rattle.notify_text.proofs.reading.read_notify_trace.Goals as goal

pub returns-in-Err : goal.returns-in-Err
returns-in-Err c =
    let answer = answer_read c.args.natives.now c.args.text.now (Err c.at.result)
    (stops (signal_lines c.args.natives.now) c.loop-line.place c.loop-line.reader (after_line c.loop-line.reader c.in-Some.line.now) c.take.new.self c.loop-line.rest.now c.in-Some.line.now c.in-Some.after.now (line_rules c.args.natives.now c.loop-line.reader true c.in-Some.line.now) (read_pieces (signal_lines c.args.natives.now) 1 no_lines (pieces_of c.args.text.now)) c.in-Err.fault c.at.result c.in-Some.ensures refl c.in-Err.ensures c.at.ensures c.loop-line.invariant.so_far) in
    record { found = answer.found; only = answer.only; bad = answer.bad; refused = answer.refused; placed = placed_in (signal_lines c.args.natives.now) c.args.text.now (Err c.at.result) answer.bad; sound = answer.sound }

pub loop-line-preserved : goal.loop-line-preserved
loop-line-preserved c = record {
  so_far =
      goes_on (signal_lines c.args.natives.now) c.loop-line.place c.loop-line.reader c.take.new.self c.loop-line.rest.now c.in-Some.line.now c.in-Some.after.now (read_pieces (signal_lines c.args.natives.now) 1 no_lines (pieces_of c.args.text.now))
      c.in-Some.ensures c.in_default-take.ensures c.loop-line.invariant.so_far;
  booted = subst HasBootOfSignals (sym c.in_default-take.ensures.1) (boot-stays c.args.natives.now c.loop-line.reader c.in-Some.line.now c.in_default-take.ensures.0 c.loop-line.invariant.booted);
  few = omega (arith, c.loop-line.invariant.few, ap length c.in-Some.ensures.1, length-append c.in-Some.line.now (10 ∷ c.in-Some.after.now));
}

pub returns-in-Ok : goal.returns-in-Ok
returns-in-Ok c =
    let answer = answer_read c.args.natives.now c.args.text.now (Ok c.in-Ok.told)
    (ends (signal_lines c.args.natives.now) c.loop-line.place c.loop-line.reader c.in-Ok.told c.loop-line.rest.now (read_pieces (signal_lines c.args.natives.now) 1 no_lines (pieces_of c.args.text.now)) c.in_default.ensures (c.in-Ok.ensures c.args.natives.now) c.loop-line.invariant.so_far) in
    record { found = answer.found; only = answer.only; bad = answer.bad; refused = answer.refused; placed = placed_in (signal_lines c.args.natives.now) c.args.text.now (Ok c.in-Ok.told) answer.bad; sound = answer.sound }

pub returns-in-Err-finish : goal.returns-in-Err-finish
returns-in-Err-finish c =
    let answer = answer_read c.args.natives.now c.args.text.now (Err (Bad c.loop-line.place c.in-Err-finish.kind))
    (ends_badly (signal_lines c.args.natives.now) c.loop-line.place c.loop-line.reader c.loop-line.rest.now (read_pieces (signal_lines c.args.natives.now) 1 no_lines (pieces_of c.args.text.now)) c.in-Err-finish.kind c.in_default.ensures (c.in-Err-finish.ensures c.args.natives.now) c.loop-line.invariant.so_far) in
    record { found = answer.found; only = answer.only; bad = answer.bad; refused = answer.refused; placed = placed_in (signal_lines c.args.natives.now) c.args.text.now (Err (Bad c.loop-line.place c.in-Err-finish.kind)) answer.bad; sound = answer.sound }

use Rattle.std.proofs.Common.{arith, length, ◌∷◌, ap, ◌∙◌, true, refl, Ok, Err}
use Rattle.std.proofs.lemmas.List.{length-append}
use Rattle.line_grammar.specs.Reading.{read_pieces}
use Rattle.line_grammar.proofs.Pieces.{ends_badly, goes_on}
use Rattle.trace_text.specs.declared.fault.TraceFault.TheVariants.{Bad}
use Rattle.trace_text.specs.Grammar.{pieces_of}
use Rattle.client_text.specs.Grammar.{script_lines}
use Rattle.client_text.specs.Rules.{ScriptFront, after_line, line_rules, no_lines}
use Rattle.client_text.proofs.Lines.{no_items}
use Rattle.trace_text.proofs.Answered.{ends, placed_in, stops}
use Rattle.client_text.proofs.Meanings.{answer_read}
use Rattle.client_text.proofs.reading.read_script.Goals as goal

pub returns-in-Err : goal.returns-in-Err
returns-in-Err c =
    let answer = answer_read c.args.natives.now c.args.text.now (Err c.at.result)
    (stops (script_lines c.args.natives.now) c.loop-line.place c.loop-line.reader (after_line c.loop-line.reader c.in-Some.line.now) c.take.new.self c.loop-line.rest.now c.in-Some.line.now c.in-Some.after.now (line_rules c.args.natives.now c.loop-line.reader true c.in-Some.line.now) (read_pieces (script_lines c.args.natives.now) 1 no_lines (pieces_of c.args.text.now)) c.in-Err.fault c.at.result c.in-Some.ensures refl c.in-Err.ensures c.at.ensures c.loop-line.invariant.so_far) in
    record { found = answer.found; only = answer.only; bad = answer.bad; refused = answer.refused; placed = placed_in (script_lines c.args.natives.now) c.args.text.now (Err c.at.result) answer.bad; sound = answer.sound }

pub loop-line-preserved : goal.loop-line-preserved
loop-line-preserved c = record {
  so_far =
      goes_on (script_lines c.args.natives.now) c.loop-line.place c.loop-line.reader c.take.new.self c.loop-line.rest.now c.in-Some.line.now c.in-Some.after.now (read_pieces (script_lines c.args.natives.now) 1 no_lines (pieces_of c.args.text.now))
      c.in-Some.ensures c.in_default-take.ensures c.loop-line.invariant.so_far;
  no_item =
      ap (λ (f : ScriptFront). f.header.items) c.in_default-take.ensures.1
      ∙ no_items c.args.natives.now c.loop-line.reader c.in-Some.line.now c.in_default-take.ensures.0 c.loop-line.invariant.no_item;
  few = omega (arith, c.loop-line.invariant.few, ap length c.in-Some.ensures.1, length-append c.in-Some.line.now (10 ∷ c.in-Some.after.now));
}

pub returns-in-Ok : goal.returns-in-Ok
returns-in-Ok c =
    let answer = answer_read c.args.natives.now c.args.text.now (Ok c.in-Ok.script)
    (ends (script_lines c.args.natives.now) c.loop-line.place c.loop-line.reader c.in-Ok.script c.loop-line.rest.now (read_pieces (script_lines c.args.natives.now) 1 no_lines (pieces_of c.args.text.now)) c.in_default.ensures (c.in-Ok.ensures c.args.natives.now) c.loop-line.invariant.so_far) in
    record { found = answer.found; only = answer.only; bad = answer.bad; refused = answer.refused; placed = placed_in (script_lines c.args.natives.now) c.args.text.now (Ok c.in-Ok.script) answer.bad; sound = answer.sound }

pub returns-in-Err-finish : goal.returns-in-Err-finish
returns-in-Err-finish c =
    let answer = answer_read c.args.natives.now c.args.text.now (Err (Bad c.loop-line.place c.in-Err-finish.kind))
    (ends_badly (script_lines c.args.natives.now) c.loop-line.place c.loop-line.reader c.loop-line.rest.now (read_pieces (script_lines c.args.natives.now) 1 no_lines (pieces_of c.args.text.now)) c.in-Err-finish.kind c.in_default.ensures (c.in-Err-finish.ensures c.args.natives.now) c.loop-line.invariant.so_far) in
    record { found = answer.found; only = answer.only; bad = answer.bad; refused = answer.refused; placed = placed_in (script_lines c.args.natives.now) c.args.text.now (Err (Bad c.loop-line.place c.in-Err-finish.kind)) answer.bad; sound = answer.sound }

pub finish-requires : goal.finish-requires
finish-requires c = c.loop-line.invariant.no_item

use Rattle.std.proofs.Common.{◌≡◌, None, Err, sym, subst}
use Rattle.text_lines.specs.Words.{words_of}
use Rattle.trace_text.specs.Judging.{IsTaken}
use Rattle.trace_text.specs.Rules.{kind_named, word}
use Rattle.trace_text.specs.Rules.{after_line as after_trace_line}
use Rattle.client_text.specs.Judging.{header_fault}
use Rattle.client_text.specs.Rules.{ScriptFront, header_rules}
use Rattle.client_text.proofs.Lines.{IsHeaderLine, front_of, header_ends, header_stops, with_header}
use Rattle.client_text.proofs.reader.Reader.take_header.Goals as goal

pub returns : goal.returns
returns c =
    let front : ScriptFront = front_of c.self.inside.header c.self.inside.calls.items in
    let view : front ≡ c.args.self.now = cc c.self.view_is in
    let line : IsHeaderLine front c.args.line.now c.in-Some.kind = record {
      text = c.requires.text;
      some = c.requires.said;
      named = cc (c.in-Some.ensures, c.first_word.ensures);
      none = subst (λ (f : ScriptFront). header_fault c.in-Some.kind f (words_of c.args.line.now) ≡ None) (sym view)
          (sym c.in_default-header_fault.ensures);
    } in
    subst (λ (f : ScriptFront). IsTaken c.check_threads.result
    (header_rules (kind_named (word (words_of c.args.line.now) 0)) c.args.natives.now f (words_of c.args.line.now))
    (with_header f (after_trace_line f.header c.args.line.now)) (front_of c.take.new.self c.self.inside.calls.items)) view
    (header_ends c.args.natives.now front c.args.line.now c.in-Some.kind c.take.new.self c.check_threads.result line
    c.in_default-take.ensures c.check_threads.ensures)

pub returns-in-Err : goal.returns-in-Err
returns-in-Err c =
    let front : ScriptFront = front_of c.self.inside.header c.self.inside.calls.items in
    let view : front ≡ c.args.self.now = cc c.self.view_is in
    let line : IsHeaderLine front c.args.line.now c.in-Some.kind = record {
      text = c.requires.text;
      some = c.requires.said;
      named = cc (c.in-Some.ensures, c.first_word.ensures);
      none = subst (λ (f : ScriptFront). header_fault c.in-Some.kind f (words_of c.args.line.now) ≡ None) (sym view)
          (sym c.in_default-header_fault.ensures);
    } in
    subst (λ (f : ScriptFront). IsTaken (Err c.in-Err.fault)
    (header_rules (kind_named (word (words_of c.args.line.now) 0)) c.args.natives.now f (words_of c.args.line.now))
    (with_header f (after_trace_line f.header c.args.line.now)) (front_of c.take.new.self c.self.inside.calls.items)) view
    (header_stops c.args.natives.now front (front_of c.take.new.self c.self.inside.calls.items) c.args.line.now c.in-Some.kind
    c.in-Err.fault c.take.new.self line c.in-Err.ensures)

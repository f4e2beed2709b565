use Rattle.std.proofs.Common.{sym}
use Rattle.client_text.proofs.Lines.{after_skipped, bad_byte, call_taken, header_taken, skipped_kept}
use Rattle.client_text.proofs.reader.Reader.take.Goals as goal

pub returns-then-not-is_text : goal.returns-then-not-is_text
returns-then-not-is_text c =
    bad_byte c.args.natives.now c.args.self.now c.args.line.now (sym c.if-not-is_text.ensures)

pub returns-then-is_skipped : goal.returns-then-is_skipped
returns-then-is_skipped c = (
  skipped_kept c.args.natives.now c.args.self.now c.args.line.now (sym c.if-not-is_text.ensures) (sym c.if-is_skipped.ensures),
  sym (after_skipped c.args.self.now c.args.line.now (sym c.if-is_skipped.ensures)),
)

pub returns-in-Some : goal.returns-in-Some
returns-in-Some c =
    call_taken c.args.natives.now c.args.self.now c.take_call.new.self c.args.line.now c.in-Some.kind c.take_call.result
    (sym c.if-not-is_text.ensures) (sym c.if-is_skipped.ensures) (cc (c.in-Some.ensures, c.first_word.ensures)) c.take_call.ensures

pub returns-in-None : goal.returns-in-None
returns-in-None c =
    header_taken c.args.natives.now c.args.self.now c.take_header.new.self c.args.line.now c.take_header.result
    (sym c.if-not-is_text.ensures) (sym c.if-is_skipped.ensures) (cc (c.in-None.ensures, c.first_word.ensures)) c.take_header.ensures

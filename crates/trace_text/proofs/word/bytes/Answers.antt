use Rattle.std.proofs.Common.{◌≡◌, length, ap, ◌∙◌, arith}
use Rattle.trace_text.proofs.HexDigits.{digits_bad, digits_read, odd_bad, written}
use Rattle.trace_text.proofs.word.bytes.Goals as goal

pub returns-then-word-ne0 : goal.returns-then-word-ne0
returns-then-word-ne0 c = odd_bad c.args.word.now c.if-word-ne0.true

pub returns-then-not-decode : goal.returns-then-not-decode
returns-then-not-decode c = digits_bad c.args.word.now c.if-word-ne0.false c.if-not-decode.ensures

pub returns : goal.returns
returns c =
    let out = c.decode.new.bytes in
    let items = c.in_ok-bytes.bytes.items in
    let old : length items ≡ c.in_ok-bytes.bytes.len = omega (arith, c.in_ok-bytes.bytes.ok.0) in
    let new : length out ≡ c.in_ok-bytes.bytes.len = omega (arith, ap length c.as_mut_slice.ensures.value, old) in
    let read = digits_read c.args.word.now out c.if-word-ne0.false c.if-not-decode.ensures in
    (read.0, written out items c.in_ok-bytes.bytes.len new old ∙ read.1)

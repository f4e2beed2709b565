use Rattle.trace_text.proofs.Uuids.{uuid_read}
use Rattle.trace_text.proofs.word.uuid.Goals as goal

pub returns : goal.returns
returns c = rw c.ok.ensures.value (uuid_read c.args.word.now c.try_parse_ascii.result c.if-word-ne-HYPHENATED_LEN.false c.try_parse_ascii.ensures.ok c.try_parse_ascii.ensures.bytes)

use Rattle.std.proofs.Common.{ap, ◌∙◌}
use Rattle.text_lines.specs.Words.{is_ended}
use Rattle.text_lines.proofs.Taken.{is_ended-words_left}
use Rattle.text_lines.proofs.words.Words.is_ended.Goals as goal

pub returns : goal.returns
returns c = is_ended-words_left c.self.inside.rest c.is_none.result c.is_none.ensures ∙ ap is_ended c.self.view_is

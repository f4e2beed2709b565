use Rattle.std.proofs.Common.{List, ◌++◌, Option, ap, sym, ◌∙◌}
use Rattle.std.specs.Option.{option_to_list}
use Rattle.journal_notes.proofs.Logs.{replies_more}
use Rattle.journal_notes.specs.Logs.{replies_in}
use Rattle.journal_notes.proofs.logged.replies_in.Goals as goal

pub loop-logged-preserved : goal.loop-logged-preserved
loop-logged-preserved g c =
    let more = replies_more c.loop-logged.yielded c.in-Some.logged in
    c.in_ok-add.ensures
    ∙ ap (λ (rs : List g.row.R.Denot). rs ++ option_to_list c.reply_of.result) c.loop-logged.invariant
    ∙ ap (λ (told : Option g.row.R.Denot). replies_in c.loop-logged.yielded ++ option_to_list told) c.reply_of.ensures ∙ sym more

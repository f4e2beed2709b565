-- What is lent is the RAM behind the lines.
use Rattle.std.proofs.Common.{List, ℕ, ◌++◌, ◌≡◌, subst, sym}
use Rattle.std.specs.Prelude.{OnOk}
use Rattle.live_play.specs.Changes.{changes, text_of_changes}
use Rattle.page_set.specs.Keeping.{AreKept}
use Rattle.live_player.proofs.stage.Stage.push_changes.Goals as goal

pub push_changes-requires-clause-kept : goal.push_changes-requires-clause-kept
push_changes-requires-clause-kept c =
    let behind = (rw c.in-Core.is at c.requires.3.stage_at).0 in
    let is = c.ram_of.ensures.lane c.requires.0 c.requires.1 behind in
    (c.requires.2, subst (λ (l : List ℕ). AreKept c.args.kept.now c.requires.2 l) (sym is) c.requires.4)

pub returns-in-Core : goal.returns-in-Core
returns-in-Core c = λ on lines before can closed are.
    let behind = (rw c.in-Core.is at can.stage_at).0 in
    let is = c.ram_of.ensures.lane on lines behind in
    subst (λ (l : List ℕ). OnOk c.push_changes.result (c.push_changes.new.text.items ≡ c.args.text.now.items ++ text_of_changes c.args.cpu (changes before l)))
    is (c.push_changes.ensures before (subst (λ (l : List ℕ). AreKept c.args.kept.now before l) (sym is) are))

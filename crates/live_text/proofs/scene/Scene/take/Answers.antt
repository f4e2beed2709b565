use Rattle.std.proofs.Common.{◌≡◌, ◌∙◌}
use Rattle.std.proofs.lemmas.Result.{on_ok_weaker}
use Rattle.live_text.specs.Scene.{LiveScene}
use Rattle.live_text.proofs.Scenes.{scene_behind}
use Rattle.live_text.proofs.scene.Scene.take.Goals as goal

pub returns-clause-taken : goal.returns-clause-taken
returns-clause-taken c = λ front is.
    let before : LiveScene = record { lines = c.self.inside.lines; forgets = c.self.inside.forgets } in
    let view : before ≡ c.args.self.now = cc c.self.view_is in
    on_ok_weaker c.take.result (λ now. scene_behind before c.take.new.self front c.args.said.now (view ∙ is) now) c.take.ensures.taken

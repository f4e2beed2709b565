use Rattle.std.proofs.Common.{List, ◌++◌, Option, ap, sym, ◌∙◌}
use Rattle.std.specs.Option.{option_to_list}
use Rattle.std.specs.Prelude.{filter_map}
use Rattle.isolation.proofs.SessionLogs.{own_more}
use Rattle.own_model.specs.Own.{Logged}
use Rattle.realm_model.specs.Forgetting.{own_logged}
use Rattle.isolation.proofs.forgetting.own_log_of.Goals as goal

pub loop-logged-preserved : goal.loop-logged-preserved
loop-logged-preserved c =
    c.in_ok-add.ensures
    ∙ ap (λ (log : List Logged). log ++ option_to_list c.own_logged.result) c.loop-logged.invariant
    ∙ ap (λ (o : Option Logged). filter_map own_logged c.loop-logged.yielded ++ option_to_list o) c.own_logged.ensures
    ∙ sym (own_more c.loop-logged.yielded c.in-Some.logged)

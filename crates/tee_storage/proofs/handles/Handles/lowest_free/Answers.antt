use Rattle.std.proofs.Common.{sym, ap, ◌∙◌}
use Rattle.tee_storage.specs.Handles.{lowest_free}
use Rattle.tee_storage.proofs.NumberedObjects.{lowest_free_is}
use Rattle.tee_storage.proofs.handles.Handles.lowest_free.Goals as goal

pub returns-in_err-number-clause-lowest : goal.returns-in_err-number-clause-lowest
returns-in_err-number-clause-lowest c =
    c.from_residual.ensures ∙ c.in_err-number.ensures.place ∙ sym (lowest_free_is c.self.inside.objects c.self.invariant) ∙ ap lowest_free c.self.view_is

pub returns-clause-lowest : goal.returns-clause-lowest
returns-clause-lowest c =
    c.in_ok-number.ensures.place ∙ sym (lowest_free_is c.self.inside.objects c.self.invariant) ∙ ap lowest_free c.self.view_is

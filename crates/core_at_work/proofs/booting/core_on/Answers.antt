use Rattle.std.proofs.Common.{◌≡◌, Err, None, Some, ap, sym, ◌∙◌}
use Rattle.core_at_work.proofs.booting.core_on.Goals as goal

pub unreachable-requires : goal.unreachable-requires
unreachable-requires g c =
    let refused = c.in-Err-Repeated in
    let both : None ≡ Some refused.field-0-0 = sym c.requires.apart ∙ (refused.ensures.repeated refused.field-0-0).0 (ap Err refused.field-0-is) in
    absurd cc

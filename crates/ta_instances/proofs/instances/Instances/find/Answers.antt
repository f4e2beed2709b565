use Rattle.std.proofs.Common.{◌≡◌, ℕ, ◌<◌, ◌^◌, Bool, List, Option, find, sym, ap, ◌∙◌, arith}
use Rattle.std.specs.Option.{option_map}
use Rattle.std.specs.Str.{bytes_eq}
use Rattle.base.specs.NumberMap.{NumberMap, IsRising}
use Rattle.ta_instances.specs.declared.instance.Instance.{Instance}
use Rattle.ta_instances.specs.Instances.{least_with}
use Rattle.ta_instances.proofs.LeastNumber.{found_in_range, least_is_first}
use Rattle.ta_instances.proofs.instances.Instances.find.Goals as goal

abbrev has_uuid : List ℕ → ℕ × Instance → Bool
has_uuid uuid entry = bytes_eq entry.1.uuid uuid

-- the number of the first instance of the application is the least
first_is_least : (m now : NumberMap Instance) (uuid : List ℕ) (number : Option ℕ) → IsRising m → m ≡ now →
    number ≡ option_map (λ (entry : ℕ × Instance). entry.0) (find (has_uuid uuid) m) → number ≡ least_with now uuid
first_is_least m now uuid number rising is first =
    first ∙ sym (least_is_first (has_uuid uuid) m rising) ∙ ap (λ (instances : NumberMap Instance). least_with instances uuid) is

pub returns-in_err-first : goal.returns-in_err-first
returns-in_err-first c =
    let least =
    first_is_least c.self.inside.kept c.args.self.now c.args.uuid.now c.first_with.result c.entries.ensures.table.rising c.self.view_is (rw c.entries.ensures.entries at c.first_with.ensures) in
    c.from_residual.ensures ∙ sym c.in_err-first.was ∙ least

pub overflow_cast-result : goal.overflow_cast-result
overflow_cast-result c =
    let found = rw c.entries.ensures.entries at c.first_with.ensures in
    let low : c.in_ok-first.first < 2 ^ 32 = found_in_range (has_uuid c.args.uuid.now) c.self.inside.kept c.in_ok-first.first c.self.invariant.in_range (sym found ∙ c.in_ok-first.was) in
    omega arith

pub returns : goal.returns
returns c =
    let least =
    first_is_least c.self.inside.kept c.args.self.now c.args.uuid.now c.first_with.result c.entries.ensures.table.rising c.self.view_is (rw c.entries.ensures.entries at c.first_with.ensures) in
    sym c.in_ok-first.was ∙ least

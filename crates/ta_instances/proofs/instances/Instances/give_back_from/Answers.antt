use Rattle.std.proofs.Common.{◌≡◌, true, None, Some, Option, ap, sym, subst, ◌∙◌, arith}
use Rattle.std.specs.Option.{IsSomeAnd}
use Rattle.base.specs.NumberMap.{NumberMap, get}
use Rattle.ta_instances.specs.declared.instance.Instance.{Instance}
use Rattle.ta_instances.proofs.KeptInstances.{given_back_is_instance, numbered_with}
use Rattle.ta_instances.proofs.instances.Instances.give_back_from.Goals as goal

pub invariant_of-self : goal.invariant_of-self
invariant_of-self c =
    let was = c.get_mut-instance.result.now in
    let found : get c.args.self.now c.args.number ≡ Some was = ap (λ (instances : NumberMap Instance). get instances c.args.number) (sym c.self.view_is) ∙ rw c.from.ensures at c.get_mut-instance.ensures.value in
    let dead : was.dead ≡ true → c.args.memory ≡ None = subst (λ (o : Option Instance). IsSomeAnd o (λ instance. instance.dead ≡ true → c.args.memory ≡ None)) found c.requires.dead in
    numbered_with c.self.inside.kept c.from.result c.give_back.new.self c.self.invariant (omega arith)
    (rw c.give_back.ensures.after (given_back_is_instance c.args.memory c.args.objects.now was dead))

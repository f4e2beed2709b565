-- The core at the turn is one that the processor can come into, and what its entry adds is the pass's.
use Rattle.std.proofs.Common.{ℕ, ◌++◌, ap, arith, rules, subst, ◌∙◌}
use Rattle.core_lock.specs.Passes.{made, number, seen}
use Rattle.kernel_model.specs.Application.{Booted}
use Rattle.kernel_state.specs.Meaning.{core_basis, events_of}
use Rattle.kernel_state.specs.Setup.{Basis}
use Rattle.normal_cpus.specs.Entering.{ComesIn, coming}
use Rattle.normal_cpus.specs.Sharing.{boot_of}
use Rattle.normal_cpus.proofs.Comings.{can_enter, comes_in, entered_adds, inside_after}
use Rattle.normal_cpus.proofs.Turns.{IsFound, IsGivenBack, adds_since}
use Rattle.normal_cpus.proofs.shared_core.SharedCore.enter.Goals as goal

pub enter-entered-requires : goal.enter-entered-requires
enter-entered-requires g c =
    let taken = c.take_turn-turn.ensures in
    let core = c.value_mut.result.now in
    let booted = ap (λ (basis : Basis). basis.boot) (ap core_basis c.value_mut.ensures.value ∙ taken.basis) in
    can_enter core (coming c.number-cpu.result c.args.regs.now c.args.steps) (made c.args.pass.now)
    (let below = c.requires.own.0.below in
    let counted = c.args.self.now.counted in
    let cpus = ap (λ (b : Booted). b.cpus) booted in
    let is = c.number-cpu.ensures in omega arith)
    (search rules)
    c.requires.outside c.requires.steps.0 c.requires.steps.1

pub give_back-requires-clause-entries : goal.give_back-requires-clause-entries
give_back-requires-clause-entries g c =
    let taken = c.take_turn-turn.ensures in
    let core = c.value_mut.result.now in
    let came = coming c.number-cpu.result c.args.regs.now c.args.steps in
    adds_since c.number-cpu.result (number c.take_turn-turn.new.pass) (events_of core) (seen c.take_turn-turn.new.pass) (events_of c.enter-entered.new.core)
    (entered_adds core c.enter-entered.new.core came c.args.lane.now c.enter-entered.result c.enter-entered.ensures)
    (search rules)
    (search rules)

pub returns-clause-comes : goal.returns-clause-comes
returns-clause-comes g c =
    let taken = c.take_turn-turn.ensures in
    let core = c.value_mut.result.now in
    let came = coming c.number-cpu.result c.args.regs.now c.args.steps in
    let found : IsFound (boot_of c.args.self.now) c.args.pass.now core = record {
      booted = ap (λ (basis : Basis). basis.boot) (ap core_basis c.value_mut.ensures.value ∙ taken.basis);
      terms = ap (λ (basis : Basis). basis.terms) (ap core_basis c.value_mut.ensures.value ∙ taken.basis) ∙ c.args.self.now.kept;
      begins = search rules;
      own = search rules;
      own_seen = c.requires.own.0.own_entries;
    } in
    let given : IsGivenBack c.args.pass.now c.give_back.new.pass core c.enter-entered.new.core = record {
      now_seen = search rules;
      now_made = λ more is. c.give_back.ensures.more more (search rules) ∙ ap (λ made. made ++ more) taken.same.1;
      now_own = search rules;
    } in
    subst (λ (cpu : ℕ). ComesIn (boot_of c.args.self.now) c.args.pass.now c.give_back.new.pass (coming cpu c.args.regs.now c.args.steps) c.args.lane.now c.enter-entered.result)
    c.number-cpu.ensures
    (comes_in (boot_of c.args.self.now) c.args.pass.now c.give_back.new.pass core c.enter-entered.new.core came c.args.lane.now
    c.enter-entered.result found given c.enter-entered.ensures)

pub returns-clause-inside : goal.returns-clause-inside
returns-clause-inside g c =
    inside_after (boot_of c.args.self.now) c.args.pass.now c.give_back.new.pass (coming (number c.args.pass.now) c.args.regs.now c.args.steps)
    c.args.lane.now c.enter-entered.result c.requires.outside (returns-clause-comes g c)

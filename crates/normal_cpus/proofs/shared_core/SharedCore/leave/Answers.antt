-- The run is that of the pass's open entry still, since only others have come and gone since.
use Rattle.std.proofs.Common.{◌++◌, ap, refl, rules, ◌∙◌}
use Rattle.kernel_state.specs.Meaning.{core_basis}
use Rattle.kernel_state.specs.Setup.{Basis}
use Rattle.normal_cpus.specs.Sharing.{boot_of}
use Rattle.normal_cpus.proofs.Goings.{can_leave, goes_out, outside_after}
use Rattle.normal_cpus.proofs.Turns.{IsFound, IsGivenBack}
use Rattle.normal_cpus.proofs.shared_core.SharedCore.leave.Goals as goal

pub leave-regs-requires : goal.leave-regs-requires
leave-regs-requires g c =
    let taken = c.take_turn-turn.ensures in
    let core = c.value_mut.result.now in
    let found : IsFound (boot_of c.args.self.now) c.args.pass.now core = record {
      booted = ap (λ (basis : Basis). basis.boot) (ap core_basis c.value_mut.ensures.value ∙ taken.basis);
      terms = ap (λ (basis : Basis). basis.terms) (ap core_basis c.value_mut.ensures.value ∙ taken.basis) ∙ c.args.self.now.kept;
      begins = search rules;
      own = search rules;
      own_seen = c.requires.own.0.own_entries;
    } in
    can_leave (boot_of c.args.self.now) c.args.pass.now core c.args.ran found c.requires.can

pub returns-clause-goes : goal.returns-clause-goes
returns-clause-goes g c =
    let taken = c.take_turn-turn.ensures in
    let core = c.value_mut.result.now in
    let found : IsFound (boot_of c.args.self.now) c.args.pass.now core = record {
      booted = ap (λ (basis : Basis). basis.boot) (ap core_basis c.value_mut.ensures.value ∙ taken.basis);
      terms = ap (λ (basis : Basis). basis.terms) (ap core_basis c.value_mut.ensures.value ∙ taken.basis) ∙ c.args.self.now.kept;
      begins = search rules;
      own = search rules;
      own_seen = c.requires.own.0.own_entries;
    } in
    let given : IsGivenBack c.args.pass.now c.give_back.new.pass core c.leave-regs.new.core = record {
      now_seen = search rules;
      now_made = λ more is. c.give_back.ensures.more more (search rules) ∙ ap (λ made. made ++ more) taken.same.1;
      now_own = search rules;
    } in
    goes_out (boot_of c.args.self.now) c.args.pass.now c.give_back.new.pass core c.leave-regs.new.core c.args.ran c.args.lane.now
    c.leave-regs.new.lane (record { regs = c.leave-regs.result; entry_at = c.args.ran.entry_at; exit_at = c.event_count-exit_at.result })
    found given c.requires.can c.leave-regs.ensures refl (search rules)

pub returns-clause-outside : goal.returns-clause-outside
returns-clause-outside g c =
    outside_after (boot_of c.args.self.now) c.args.pass.now c.give_back.new.pass c.args.ran c.args.lane.now c.leave-regs.new.lane
    (record { regs = c.leave-regs.result; entry_at = c.args.ran.entry_at; exit_at = c.event_count-exit_at.result }) (returns-clause-goes g c)

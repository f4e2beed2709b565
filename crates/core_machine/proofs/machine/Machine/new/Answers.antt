-- Nothing has happened to its core.
use Rattle.std.proofs.Common.{refl, ap, sym, ◌∙◌}
use Rattle.kernel_model.specs.History.{kernel_after}
use Rattle.kernel_state.specs.Meaning.{booted_of, events_of, kernel_of, terms_of}
use Rattle.kernel_state.specs.declared.kernel_core.Core.{Core as AnyCore}
use Rattle.core_machine.proofs.machine.Machine.new.Goals as goal

pub invariant_of-result : goal.invariant_of-result
invariant_of-result c = record {
  each_sees = c.requires.lanes ∙ sym (ap (λ (core : AnyCore). (booted_of core).cpus) c.in_ok-at_work.ensures);
}

pub returns-clause-stands : goal.returns-clause-stands
returns-clause-stands c = record {
  booted = ap booted_of c.in_ok-at_work.ensures;
  history = ap events_of c.in_ok-at_work.ensures ∙ c.requires.fresh;
  kernel = ap kernel_of c.in_ok-at_work.ensures ∙ ap (kernel_after (booted_of c.args.core)) c.requires.fresh;
  limit = ap (λ (core : AnyCore). (terms_of core).most) c.in_ok-at_work.ensures;
  lanes = refl;
  goes_on = refl;
}

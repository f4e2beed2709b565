use Rattle.std.proofs.Common.{List, ◌∙◌, subst, sym}
use Rattle.kernel_entry.specs.Visiting.{coming_of}
use Rattle.kernel_model.specs.Kernel.{Kernel}
use Rattle.kernel_state.specs.Entering.{visit_of}
use Rattle.kernel_entry.specs.declared.visitor.Visitor.{Visitor}
use Rattle.ns_ram.specs.declared.read.Read.{Read}
use Rattle.own_model.specs.Own.{Entering}
use Rattle.realm_model.specs.Realm.{client_of}
use Rattle.realm_notes.proofs.HasCome.{not_turned_away, turned_away}
use Rattle.realm_notes.specs.Noted.{AreNoted}
use Rattle.realm_notes.specs.Realms.{realm_of}
use Rattle.realm_notes.proofs.coming.note_answered.Goals as goal

abbrev entering : Kernel → Kernel → Visitor → List Read → Entering
entering kernel next visitor reads = record { kernel = kernel; next = next; visit = visit_of (coming_of visitor); reads = reads }

pub returns-then-is_away-clause-noted : goal.returns-then-is_away-clause-noted
returns-then-is_away-clause-noted c kernel next reads before same are =
    subst (AreNoted c.turn_away.new.self)
    (turned_away (entering kernel next c.args.visitor reads) before c.args.answer (client_of (realm_of c.args.notes.now.realm))
    (sym (c.is_away.ensures kernel same) ∙ c.if-is_away.true))
    (c.turn_away.ensures.noted before are)

pub returns-else-is_away-clause-noted : goal.returns-else-is_away-clause-noted
returns-else-is_away-clause-noted c kernel next reads before same are =
    subst (AreNoted c.args.notes.now)
    (not_turned_away (entering kernel next c.args.visitor reads) before c.args.answer (client_of (realm_of c.args.notes.now.realm))
    (sym (c.is_away.ensures kernel same) ∙ c.if-is_away.false)) are

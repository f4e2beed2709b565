-- Fixed answers leave a kernel and the machine of a realm tied: at most it is noted that one session's client found no thread,
-- and nothing happens to the machine.
use Rattle.std.proofs.Common.{◌≡◌, ℕ, ◌++◌, ◌∷◌, List, [], Option, Some, None, refl, ap, subst, sym, ◌∙◌}
use Rattle.std.specs.Prelude.{slice_get, filter, not, ◌==◌, ◌&&◌}
use Rattle.std.specs.List.{list_any}
use Rattle.std.proofs.lemmas.List.{append-nil}
use Rattle.event_journal.specs.declared.event.Event.TheVariants.{Entry, Exit}
use Rattle.ns_ram.specs.declared.read.Read.{Read}
use Rattle.smc_abi.specs.declared.answer.Answer.{Answer}
use Rattle.smc_abi.specs.declared.regs.Regs.{Regs}
use Rattle.kernel_model.specs.Application.{Booted}
use Rattle.kernel_model.specs.Exit.{Exited, exit, goes_out}
use Rattle.kernel_model.specs.Kernel.{Fixed, Inside, Kernel, Processor, Visit, with_visitor, without_visitor}
use Rattle.kernel_model.proofs.FixedAnswer.{fixed_answers}
use Rattle.kernel_model.proofs.Parts.{if-both}
use Rattle.own_model.proofs.FixedAnswers.{entered, left}
use Rattle.own_model.specs.Own.{Entering, is_limit, is_of_client}
use Rattle.own_model.specs.declared.own_reply.OwnReply.TheVariants as reply
use Rattle.group_model.specs.Group.{Group, plain}
use Rattle.realm_model.specs.Realm.{client_of}
use Rattle.realm_model.specs.Reading.{Notes, Watched, entry_noted, event_noted, fixed_noted, out_noted}
use Rattle.realm_model.specs.declared.realm_event.RealmEvent.TheVariants.{TurnedAway}
use Rattle.realm_model.specs.Laws.{About, AreTied, FixedKeepTied, GoesAlong, GoesAlongWith}
use Rattle.realm_model.proofs.OtherExits.{goes_silently}

some_same : {A : Type 0} (a b : A) → Some a ≡ Some b → a ≡ b
some_same a b e = cc

-- the processors of those that were turned away are nothing to the machine
away_tied : (about : About) (kernel : Kernel) (notes : Notes) (g : Group) (away : List ℕ)
    → AreTied about kernel.slots kernel.tables notes g
    → AreTied about kernel.slots kernel.tables (record notes { turned_away = away }) g
away_tied about kernel notes g away at = record { instances = at.instances; tied = at.tied; as_realm = at.as_realm }

silent_so : (about : About) (next : Kernel) (notes : Notes) (g : Group) (away : List ℕ)
    → AreTied about next.slots next.tables notes g
    → GoesAlong about notes g next (record notes { turned_away = away })
silent_so about next notes g away at = record {
  items = [];
  noted = sym (append-nil notes.log);
  then = g;
  replies = refl;
  tied = away_tied about next notes g away at;
}

noted_so : (about : About) (next : Kernel) (notes : Notes) (g : Group) (e : Entering) (answer : Answer)
    (session : Option ℕ) → AreTied about next.slots next.tables notes g
    → GoesAlong about notes g next (fixed_noted e notes answer session)
noted_so about next notes g e answer None at = goes_silently about notes g next at
noted_so about next notes g e answer (Some session) at =
    if-both (GoesAlong about notes g next) (is_limit answer && is_of_client e.kernel session e.visit.regs)
    (record notes { turned_away = e.visit.cpu ∷ notes.turned_away }) notes
    (silent_so about next notes g (e.visit.cpu ∷ notes.turned_away) at) (goes_silently about notes g next at)

fixed_entry : (boot : Booted) (about : About) (kernel next : Kernel) (cpu steps : ℕ) (regs : Regs) (reads : List Read)
    (answer : Answer) (notes : Notes) (g : Group)
    → slice_get next.processors cpu ≡ Some (Inside regs.a steps (Fixed answer))
    → GoesAlongWith boot about kernel next (Entry cpu regs steps reads) notes g
fixed_entry boot about kernel next cpu steps regs reads answer notes g inside e tied =
    let visit : Visit = record { cpu = cpu; regs = regs.a; steps = steps } in
    let entering : Entering = record { kernel = kernel; next = next; visit = visit; reads = reads } in
    let w : Watched = record { boot = boot; realm = about.members.realm; entering = entering } in
    let comes : next ≡ with_visitor kernel visit (Fixed answer) =
    fixed_answers.entry boot kernel next visit reads answer (entered boot kernel next cpu steps regs reads e) inside in
    let still : AreTied about next.slots next.tables notes g =
    subst (λ (k : Kernel). AreTied about k.slots k.tables notes g) (sym comes) tied in
    let same : event_noted boot about.members.realm kernel next notes (Entry cpu regs steps reads)
    ≡ fixed_noted entering notes answer (client_of about.members.realm) =
    ap (λ (p : Option Processor). entry_noted w notes p) inside in
    subst (GoesAlong about notes g next) (sym same)
    (noted_so about next notes g entering answer (client_of about.members.realm) still)

fixed_exit : (boot : Booted) (about : About) (kernel next : Kernel) (cpu steps : ℕ) (came : List ℕ) (regs : Regs)
    (answer : Answer) (notes : Notes) (g : Group)
    → slice_get kernel.processors cpu ≡ Some (Inside came steps (Fixed answer))
    → GoesAlongWith boot about kernel next (Exit cpu regs) notes g
fixed_exit boot about kernel next cpu steps came regs answer notes g inside e tied =
    let visit : Visit = record { cpu = cpu; regs = came; steps = steps } in
    let out = left boot kernel next cpu regs e in
    let goes : exit kernel cpu ≡ Some (goes_out kernel visit answer []) =
    fixed_answers.exit kernel visit answer inside in
    let is : out.0 ≡ goes_out kernel visit answer [] = some_same _ _ (sym out.1 ∙ goes) in
    let comes : next ≡ without_visitor kernel visit = sym out.2 ∙ ap (λ (x : Exited). x.kernel) is in
    let still : AreTied about next.slots next.tables notes g =
    subst (λ (k : Kernel). AreTied about k.slots k.tables notes g) (sym comes) tied in
    let noted = if-both (GoesAlong about notes g next) (list_any (λ away. away == cpu) notes.turned_away)
    (record notes {
      turned_away = filter (λ away. not (away == cpu)) notes.turned_away;
      log = notes.log ++ (TurnedAway, Some (plain reply.Limited)) ∷ [];
    }) notes
    (record {
      items = (TurnedAway, Some (plain reply.Limited)) ∷ [];
      noted = refl;
      then = g;
      replies = refl;
      tied = record { instances = still.instances; tied = still.tied; as_realm = still.as_realm };
    })
    (goes_silently about notes g next still) in
    subst (λ (p : Option Processor). GoesAlong about notes g next (out_noted about.members.realm kernel notes cpu p))
    (sym inside) noted

pub fixed_keep_tied : FixedKeepTied
fixed_keep_tied = record { entry = fixed_entry; exit = fixed_exit }

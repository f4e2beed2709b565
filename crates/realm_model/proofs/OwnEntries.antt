-- An entry with a new call of the realm leaves kernel and machine tied: the machine does the same with its event.
use Rattle.std.proofs.Common.{◌≡◌, ℕ, List, [], ◌∷◌, Option, None, refl, ap, subst, sym, ◌∙◌}
use Rattle.std.specs.Option.{option_map_or}
use Rattle.event_journal.specs.declared.event.Event.TheVariants.{Entry}
use Rattle.job_model.specs.declared.call_kind.CallKind.{CallKind}
use Rattle.job_model.specs.declared.call_kind.CallKind.TheVariants as kind
use Rattle.ta_params.specs.declared.copied_params.CopiedParams.{CopiedParams}
use Rattle.kernel_model.specs.Decision.{Taken, Takes}
use Rattle.kernel_model.specs.Entry.{after_decision}
use Rattle.kernel_model.specs.Kernel.{Kernel, PendingCall, Tables}
use Rattle.kernel_model.specs.Kernel.{ThreadSlot, Visit, Waits}
use Rattle.kernel_model.specs.NewCall.{NewCall, new_call_of, no_copies}
use Rattle.kernel_model.specs.NewCall as new
use Rattle.kernel_model.proofs.SoundNewCalls.{waiting_taken}
use Rattle.job_model.specs.Point.{no_params}
use Rattle.group_model.specs.Group.{Group}
use Rattle.realm_model.specs.Reading.{Notes, event_noted, event_of, numbered, sessions_with, with_event}
use Rattle.realm_model.specs.declared.realm_event.RealmEvent.TheVariants.{Comes}
use Rattle.group_model.specs.declared.group_event.GroupEvent.{GroupEvent}
use Rattle.group_model.proofs.MoreSteps.{one_step}
use Rattle.realm_model.specs.Laws.{About, ComesAs, GoesAlong, OwnCallsKeepTied}
use Rattle.group_model.proofs.NewEntries.{new_call_taken}
use Rattle.realm_model.proofs.OtherEntries.{new_call_noted, within}
use Rattle.realm_model.proofs.OtherCalls.{Within}
use Rattle.group_model.proofs.NewForms.{NewForms}
use Rattle.realm_model.proofs.BegunCalls.{closes, invokes, opens_kept}
use Rattle.realm_model.proofs.MadeCalls.{opens_awaited, opens_next}
use Rattle.realm_model.proofs.SettledCalls.{IfNoted, cancels, invoke_dead, invoke_faulty, open_busy, open_dead, open_faulty}
use Rattle.realm_model.proofs.SettledCalls.{open_limited, registered_untold, settled_untold}
use Rattle.realm_model.proofs.WaitingCalls.{ComesIn, IfWaits, close_waits, invoke_waits, open_waits}

-- ---- each form

-- of one that waits nothing more is asked
waits_noted : (about : About) (notes : Notes) (slots : List ThreadSlot) (g : Group) (slot : ℕ) (taken : Taken)
    (params : CopiedParams) → taken.call.phase ≡ Waits params → IfWaits about notes slots g slot taken
    → IfNoted about notes slots g slot taken
waits_noted about notes slots g slot taken params waiting holds came comes_as noted =
    holds params came waiting comes_as noted

pub own_forms : (about : About) (notes : Notes) (slots : List ThreadSlot) (g : Group) (c : NewCall)
    → Within about notes slots g c → about.key ≡ c.boot.key → NewForms c (IfNoted about notes slots g c.slot)
own_forms about notes slots g c w key = record {
  settled = λ code. settled_untold about notes slots g c code;
  registered = λ buffers. registered_untold about notes slots g c buffers;
  open_dead = λ wanted of is dead. open_dead about notes slots g c wanted of w is dead;
  open_busy = λ wanted of is alive taken. open_busy about notes slots g c wanted of w is alive taken;
  open_limited = λ wanted of passes. open_limited about notes slots g c wanted of w passes;
  open_faulty = λ wanted of passes. open_faulty about notes slots g c wanted of w passes;
  invoke_dead = λ named is dead. invoke_dead about notes slots g c named w is dead;
  invoke_faulty = λ named is alive. invoke_faulty about notes slots g c named w is alive;
  cancels = λ named is. cancels about notes slots g c named w is;
  opens_kept = λ wanted of copies kept passes shared free.
      opens_kept about notes slots g c wanted of copies kept w key passes shared free;
  opens_awaited = λ wanted of copies number passes shared awaited.
      opens_awaited about notes slots g c wanted of copies number w key passes shared awaited;
  opens_next = λ wanted of copies passes shared awaited.
      opens_next about notes slots g c wanted of copies w key passes shared awaited;
  open_waits = λ wanted of copies kept passes shared held.
      waits_noted about notes slots g c.slot (new.open_waits c wanted of copies kept) copies.params refl
      (open_waits about notes slots g c wanted of copies kept w passes shared held);
  invokes = λ named copies is alive free. invokes about notes slots g c named copies w key is alive free;
  invoke_waits = λ named copies is alive held.
      waits_noted about notes slots g c.slot (waiting_taken c (kind.Invoke c.head.func) named copies) copies.params refl
      (invoke_waits about notes slots g c named copies w is alive held);
  closes = λ named is free. closes about notes slots g c named w key is free;
  close_waits = λ named is held.
      waits_noted about notes slots g c.slot (waiting_taken c kind.Close named no_copies) no_params refl
      (close_waits about notes slots g c named w is held);
}

-- ---- the entry

-- an open's session leaves the log as it is
logged : (call_kind : CallKind) (notes : Notes) (call : PendingCall) → (sessions_with call_kind notes call).log ≡ notes.log
logged kind.Open notes call = refl
logged (kind.Invoke func) notes call = refl
logged kind.Close notes call = refl
logged kind.Settled notes call = refl

pub own_call : OwnCallsKeepTied
own_call boot about kernel next cpu steps slot regs reads now came notes g shares key sound is inside there comes_as noted
    e tied =
    let visit : Visit = record { cpu = cpu; regs = regs.a; steps = steps } in
    let found = new_call_taken (IfNoted about notes kernel.slots g) boot kernel next cpu steps slot regs reads now is
    (λ at free place bytes.
    own_forms about notes kernel.slots g (new_call_of boot kernel.tables regs.a at place bytes)
    (within boot about kernel notes g regs.a at shares sound tied free place bytes) key)
    inside there e in
    let tables : found.taken.tables ≡ next.tables = ap (λ (k : Kernel). k.tables) found.gives in
    let comes = found.holds came
    (subst (λ (c : PendingCall). ComesAs about.members.realm about.members.app notes c c.kind) (sym found.call_is) comes_as)
    (ap (λ (t : Tables). event_of about.members.realm t notes found.taken.call found.taken.call.kind) tables
    ∙ ap (λ (c : PendingCall). event_of about.members.realm next.tables notes c c.kind) found.call_is ∙ noted) in
    let along : GoesAlong about notes g next (numbered notes slot now came) =
    subst (λ (c : PendingCall). GoesAlong about notes g next (numbered notes slot c came)) found.call_is
    (subst (λ (k : Kernel). GoesAlong about notes g k (numbered notes slot found.taken.call came)) found.gives
    (goes visit found.taken comes)) in
    let same : event_noted boot about.members.realm kernel next notes (Entry cpu regs steps reads) ≡ numbered notes slot now came =
    new_call_noted boot about.members.realm kernel next cpu steps slot regs reads now notes inside found.free there
    ∙ ap (λ (o : Option GroupEvent). option_map_or (numbered notes slot now) o notes) noted in
    subst (GoesAlong about notes g next) (sym same) along
  where
    goes : (visit : Visit) (taken : Taken) → ComesIn about notes kernel.slots g slot taken came
        → GoesAlong about notes g (after_decision kernel visit (Takes slot taken)) (numbered notes slot taken.call came)
    goes visit taken comes = record {
      items = (Comes came, None) ∷ [];
      noted = logged taken.call.kind (with_event notes came) taken.call;
      then = comes.next;
      replies = one_step about.most about.members.app g comes.next came None comes.steps;
      tied = comes.tied visit.cpu;
    }

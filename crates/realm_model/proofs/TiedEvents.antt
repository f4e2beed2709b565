-- Each event leaves a kernel and the machine of a realm tied: by its kind.
use Rattle.std.proofs.Common.{◌≡◌, ℕ, ◌+◌, ◌*◌, ◌≤◌, List, Option, Some, None, refl, sym, ◌∙◌, arith}
use Rattle.std.specs.Prelude.{slice_get}
use Rattle.std.proofs.lemmas.Option.{option_and_then_some}
use Rattle.base.specs.NumberMap.{get}
use Rattle.event_journal.specs.declared.event.Event.{Event}
use Rattle.event_journal.specs.declared.event.Event.TheVariants.{Entry, Exit}
use Rattle.job_model.specs.Job.{Job}
use Rattle.job_model.specs.Steps.{JobStop, Stopped, grant_of}
use Rattle.job_model.proofs.JobSteps.{granted-IsGrant}
use Rattle.ns_ram.specs.declared.read.Read.{Read}
use Rattle.smc_abi.specs.declared.regs.Regs.{Regs}
use Rattle.kernel_model.specs.Application.{Booted}
use Rattle.kernel_model.specs.Argument.{thread_in}
use Rattle.kernel_model.specs.Exit.{progress_held}
use Rattle.kernel_model.specs.History.{after_event}
use Rattle.kernel_model.specs.Kernel.{Active, Free, InSlot, Inside, Kernel, PendingCall, Progress, Suspended, Tables}
use Rattle.kernel_model.specs.Kernel.{ThreadSlot}
use Rattle.kernel_model.specs.Leaving.{Finishes, FreesBuffer, Interrupted, Leaving, Requests, WantsBuffer, leaving_of}
use Rattle.kernel_model.specs.Sound.{AreGranted}
use Rattle.kernel_model.proofs.SoundExits.{exits_all}
use Rattle.own_model.proofs.EventKinds.{EntryKind, ExitKind, FromCall, HasAnswer, IsNewCall, IsResume, WithAnswer, entry_kind}
use Rattle.own_model.proofs.EventKinds.{exit_kind}
use Rattle.group_model.specs.Group.{Group}
use Rattle.realm_model.specs.Reading.{Notes, event_noted, event_of}
use Rattle.group_model.specs.declared.group_event.GroupEvent.{GroupEvent}
use Rattle.realm_model.specs.Laws.{About, AreTied, GoesAlong, IsRealm}
use Rattle.realm_model.proofs.FixedAnswers.{fixed_keep_tied}
use Rattle.realm_model.proofs.Interrupts.{own_interrupt}
use Rattle.realm_model.proofs.OtherEntries.{other_call}
use Rattle.realm_model.proofs.OtherExits.{other_exit}
use Rattle.realm_model.proofs.OtherResumes.{other_resume}
use Rattle.realm_model.proofs.OwnEntries.{own_call}
use Rattle.realm_model.proofs.OwnExits.{own_exit}
use Rattle.realm_model.proofs.OwnResumes.{own_resume}
use Rattle.realm_model.specs.Histories.{ComesSo, EventsKeepTied, IsReady}

-- ---- steps

one_more : (a n m : ℕ) → n ≤ m → a + n ≤ a + m
one_more a n m le = omega arith

none_more : (a n : ℕ) → a ≤ a + n
none_more a n = omega arith

no_less : (n : ℕ) → n ≤ n
no_less n = omega arith

-- a call comes to no more steps at an exit than it had and was granted
used_steps : (tables : Tables) (call : PendingCall) (granted : ℕ) (progress : Progress)
    → progress_held tables granted (Active 0 call) ≡ Some progress → progress.call.steps ≤ call.steps + granted
used_steps tables call granted progress e =
    exits_all tables call granted (λ (p : Progress). p.call.steps ≤ call.steps + granted) progress (record {
      left = λ job later is grant. no_less (call.steps + granted);
      ends = λ job used end is grant. within job used _ grant;
      panics = λ job used code is grant. within job used _ grant;
      asks = λ job later used wanted payload is grant. within job used _ grant;
      asked = λ job wanted payload is. none_more call.steps granted;
      waits = λ params is. none_more call.steps granted;
      told = λ result params wakes is. none_more call.steps granted;
      tells = λ result params wakes is. none_more call.steps granted;
    }) e
  where
    within : (job : Job) (used : ℕ) (why : JobStop) → grant_of granted job ≡ Some (Stopped used why)
        → call.steps + used ≤ call.steps + granted
    within job used why grant =
        one_more call.steps used granted (granted-IsGrant job granted (Stopped used why) grant).0

at_most : (a b granted events most : ℕ) → a ≤ b + granted → granted ≤ 1000000 → b + 1000000 ≤ 1000000 * events
    → 1000000 * events ≤ most → a ≤ most
at_most a b granted events most used few counted bound = omega arith

steps_bound : (kernel : Kernel) (events most cpu granted slot : ℕ) (came : List ℕ) (held : ThreadSlot)
    (progress : Progress) → AreGranted events kernel
    → 1000000 * events ≤ most → slice_get kernel.processors cpu ≡ Some (Inside came granted (InSlot slot))
    → slice_get kernel.slots slot ≡ Some held
    → progress_held kernel.tables granted held ≡ Some progress → progress.call.steps ≤ most
steps_bound kernel events most cpu granted slot came Free progress steps bound inside there e = absurd cc
steps_bound kernel events most cpu granted slot came (Suspended client call) progress steps bound inside there e =
    absurd cc
steps_bound kernel events most cpu granted slot came (Active worker call) progress steps bound inside there e =
    at_most progress.call.steps call.steps granted events most (used_steps kernel.tables call granted progress e)
    (steps.grants cpu slot granted came inside) (steps.calls slot (Active worker call) there) bound

-- ---- events

abbrev Along : Booted → About → Kernel → Kernel → Event → Notes → Group → Type 0
Along boot about kernel next happened notes g =
    GoesAlong about notes g next (event_noted boot about.members.realm kernel next notes happened)

entry_along : (boot : Booted) (about : About) (events : ℕ) (kernel next : Kernel) (cpu steps : ℕ) (regs : Regs)
    (reads : List Read) (notes : Notes) (g : Group) → IsRealm boot about.members → about.key ≡ boot.key
    → IsReady about events kernel g → ComesSo about next (Entry cpu regs steps reads) notes
    → after_event boot kernel (Entry cpu regs steps reads) ≡ Some next
    → AreTied about kernel.slots kernel.tables notes g → EntryKind kernel next cpu steps regs
    → Along boot about kernel next (Entry cpu regs steps reads) notes g
entry_along boot about events kernel next cpu steps regs reads notes g shares key ready so e tied (HasAnswer answer inside) =
    fixed_keep_tied.entry boot about kernel next cpu steps regs reads answer notes g inside e tied
entry_along boot about events kernel next cpu steps regs reads notes g shares key ready so e tied
    (IsNewCall slot now is inside there) =
    by_event (event_of about.members.realm next.tables notes now now.kind) refl
  where
    by_event : (found : Option GroupEvent) → event_of about.members.realm next.tables notes now now.kind ≡ found
        → Along boot about kernel next (Entry cpu regs steps reads) notes g
    by_event None none =
        other_call boot about kernel next cpu steps slot regs reads now notes g shares ready.sound is inside there none e
        tied
    by_event (Some came) noted =
        own_call boot about kernel next cpu steps slot regs reads now came notes g shares key ready.sound is inside there
        (so cpu steps slot regs reads now came refl is inside there noted) noted e tied
entry_along boot about events kernel next cpu steps regs reads notes g shares key ready so e tied
    (IsResume call is some inside) =
    by_number (get notes.numbering.in_slots (thread_in regs.a)) refl
  where
    by_number : (found : Option ℕ) → get notes.numbering.in_slots (thread_in regs.a) ≡ found
        → Along boot about kernel next (Entry cpu regs steps reads) notes g
    by_number None none =
        other_resume boot about kernel next cpu steps regs reads call notes g ready.fitting.waiters is some none e tied
    by_number (Some number) has =
        own_resume boot about kernel next cpu steps number regs reads call notes g shares key ready.fitting is some has
        ready.order e tied

exit_along : (boot : Booted) (about : About) (events : ℕ) (kernel next : Kernel) (cpu : ℕ) (regs : Regs) (notes : Notes)
    (g : Group) → IsReady about events kernel g → after_event boot kernel (Exit cpu regs) ≡ Some next
    → AreTied about kernel.slots kernel.tables notes g → ExitKind kernel cpu
    → Along boot about kernel next (Exit cpu regs) notes g
exit_along boot about events kernel next cpu regs notes g ready e tied (WithAnswer came steps answer inside) =
    fixed_keep_tied.exit boot about kernel next cpu steps came regs answer notes g inside e tied
exit_along boot about events kernel next cpu regs notes g ready e tied (FromCall came steps slot progress inside comes) =
    by_number (get notes.numbering.in_slots slot) refl
  where
    few : progress.call.steps ≤ about.most
    few =
        option_and_then_some (progress_held kernel.tables steps) (slice_get kernel.slots slot) progress comes
        (λ held there onward. steps_bound kernel events about.most cpu steps slot came held progress ready.steps
        ready.most inside there onward)

    goes : (number : ℕ) → get notes.numbering.in_slots slot ≡ Some number
        → (leaving_of slot progress.call ≡ Interrupted → ⊥) → Along boot about kernel next (Exit cpu regs) notes g
    goes number has stays =
        own_exit boot about kernel next cpu steps slot number came regs progress notes g inside has comes stays
        ready.sound.order.sessions.rising ready.order few e tied

    by_leaving : (number : ℕ) (leaving : Leaving) → get notes.numbering.in_slots slot ≡ Some number
        → leaving_of slot progress.call ≡ leaving → Along boot about kernel next (Exit cpu regs) notes g
    by_leaving number Interrupted has is =
        own_interrupt boot about kernel next cpu steps slot number came regs progress notes g inside has comes is e tied
    by_leaving number WantsBuffer has is =
        goes number has (λ no. let other : WantsBuffer ≡ Interrupted = sym is ∙ no in absurd cc)
    by_leaving number (Requests place request) has is =
        goes number has (λ no. let other : Requests place request ≡ Interrupted = sym is ∙ no in absurd cc)
    by_leaving number (FreesBuffer buffer) has is =
        goes number has (λ no. let other : FreesBuffer buffer ≡ Interrupted = sym is ∙ no in absurd cc)
    by_leaving number (Finishes result params) has is =
        goes number has (λ no. let other : Finishes result params ≡ Interrupted = sym is ∙ no in absurd cc)

    by_number : (found : Option ℕ) → get notes.numbering.in_slots slot ≡ found
        → Along boot about kernel next (Exit cpu regs) notes g
    by_number None none = other_exit boot about kernel next cpu steps slot came regs notes g inside none e tied
    by_number (Some number) has = by_leaving number (leaving_of slot progress.call) has refl

pub events_along : EventsKeepTied
events_along boot about events kernel next (Entry cpu regs steps reads) notes g shares key ready so e tied =
    entry_along boot about events kernel next cpu steps regs reads notes g shares key ready so e tied
    (entry_kind boot kernel next cpu steps regs reads e)
events_along boot about events kernel next (Exit cpu regs) notes g shares key ready so e tied =
    exit_along boot about events kernel next cpu regs notes g ready e tied (exit_kind boot kernel next cpu regs e)

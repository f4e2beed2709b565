-- A resume of a call that isn't the realm's leaves kernel and machine tied.
use Rattle.std.proofs.Common.{◌≡◌, ℕ, Bool, true, false, List, [], ◌∷◌, Option, Some, None, refl, ap, subst, sym, ◌∙◌}
use Rattle.std.specs.Prelude.{All, IsSome, is_some, not, slice_get, slice_set, ◌==◌, ◌||◌}
use Rattle.std.specs.List.{list_any}
use Rattle.std.specs.Option.{option_map_or, option_and_then}
use Rattle.std.proofs.lemmas.Bool.Decides.{Decides-eqb}
use Rattle.std.proofs.lemmas.List.Elements.{All-filter, All-head, All-tail}
use Rattle.std.proofs.lemmas.Option.{option_and_then_some}
use Rattle.base.specs.NumberMap.{NumberMap, get}
use Rattle.base.proofs.MapLemmas.{All-get}
use Rattle.event_journal.specs.declared.event.Event.TheVariants.{Entry}
use Rattle.job_model.specs.declared.call_kind.CallKind.{CallKind}
use Rattle.job_model.specs.declared.call_kind.CallKind.TheVariants as kind
use Rattle.job_model.specs.declared.entry_point.EntryPoint.TheVariants.{Invoke}
use Rattle.session_table.specs.declared.session.Session.{Session}
use Rattle.session_table.specs.declared.waiters.Waiter.{Waiter}
use Rattle.session_table.specs.Waiters.{without}
use Rattle.ta_params.specs.declared.copied_params.CopiedParams.{CopiedParams}
use Rattle.kernel_model.specs.Application.{Application, uuid_of}
use Rattle.kernel_model.specs.Argument.{client_in, thread_in}
use Rattle.kernel_model.specs.Begin.{Begun, Opener, begins_on, closing_points, has_pages_for, opens_kept, opens_new, with_instance}
use Rattle.kernel_model.specs.Codes.{bad_parameters, out_of_memory, target_dead}
use Rattle.kernel_model.specs.Given.{Buffer, Given, NoBuffer, Nothing, Reply, call_given, given_to}
use Rattle.kernel_model.specs.Instances.{app_of, held_by, is_held, made_for}
use Rattle.kernel_model.specs.Kernel.{Active, Asks, CallPhase, Ends, Free, InSlot, Inside, Instance, Kernel, PendingCall}
use Rattle.kernel_model.specs.Kernel.{Processor, Progress, Runs, Suspended, Tables, ThreadSlot, Visit, Waits}
use Rattle.kernel_model.specs.Resume.{Resumed, app_of_call, begins, begins_in, begins_open, ends_with}
use Rattle.kernel_model.specs.Resume.{goes_on, is_without_buffer, onward_in, onward_of, phase_seen, resumed_call, sees}
use Rattle.kernel_model.specs.Resume.{sleeps_on, suspended_for, tested_again, who_resumes, without_waiter}
use Rattle.kernel_model.specs.Sound as sound
use Rattle.kernel_model.specs.SoundWaiters.{AreWaiters, Awaited, IsWaiter, awaited}
use Rattle.kernel_model.proofs.EntryLaws.{resumes_call}
use Rattle.kernel_model.proofs.Parts.{anything, if-both, reading-all, set_found}
use Rattle.own_model.proofs.FixedAnswers.{entered}
use Rattle.own_model.proofs.Lookups.{app_named}
use Rattle.own_model.proofs.OtherResumes.{suspended_holds, visitor_there}
use Rattle.own_model.specs.Own.{Entering}
use Rattle.own_model.specs.Tied.{call_at, call_in}
use Rattle.group_model.specs.Group.{Group}
use Rattle.realm_model.specs.Reading.{Notes, Watched, entry_noted, event_noted, resume_noted, slot_noted}
use Rattle.realm_model.specs.Laws.{AreTied, GoesAlong, OtherResumesKeepTied, names_of}
use Rattle.group_model.specs.Tied.{IsOther, Names}
use Rattle.realm_model.specs.Tied.{HasAll, IsOfRealm, Members, Tied, waiting_of}
use Rattle.realm_model.proofs.Kept.{KeepsTables, stays_tied}
use Rattle.realm_model.proofs.OtherCalls.{instance_keeps, none_is_some, of_another}
use Rattle.group_model.proofs.OtherExits.{held_other, slot_keeps}
use Rattle.group_model.proofs.OtherResumes.{others_leave}
use Rattle.realm_model.proofs.OtherExits.{StaysOther, goes_silently, tied_keeps}

-- ---- those that wait

waits_no_more : (members : Members) (names : Names) (before tables : Tables) (slot : ℕ)
    → KeepsTables members names before tables
    → waiting_of names.instances (without tables.waiters slot) ≡ waiting_of names.instances tables.waiters
    → KeepsTables members names before (without_waiter tables slot)
waits_no_more members names before tables slot kept leaves = record {
  sessions = kept.sessions;
  other_sessions = kept.other_sessions;
  instances = kept.instances;
  of_app = kept.of_app;
  waiting = leaves ∙ kept.waiting;
  waiters = All-filter (λ (w : Waiter). not (w.slot == slot))
      (λ (w : Waiter). IsOfRealm members names.instances w.instance w.uuid) tables.waiters kept.waiters;
  session_names = kept.session_names;
  instance_names = kept.instance_names;
}

-- ---- what the call comes to

-- a resumed call of another: the tables keep what is the realm's, and where it waits it is of another application
record ResumesOther (members : Members) (names : Names) (r : Resumed) : Type 0 where
  other : IsOther names.sessions names.instances r.call
  kept : KeepsTables members names r.tables r.tables
  leaves : waiting_of names.instances (without r.tables.waiters r.slot) ≡ waiting_of names.instances r.tables.waiters
  uuid : (params : CopiedParams) (uuid : List ℕ) → r.call.phase ≡ Waits params → r.call.uuid ≡ Some uuid
      → HasAll members.realm → uuid ≡ uuid_of members.app → ⊥

module _ (members : Members) (names : Names) (r : Resumed) (o : ResumesOther members names r) where
  abbrev Stays : Progress → Type 0
  Stays progress = StaysOther members names r.tables progress

  goes_on_other : (phase : CallPhase) → Stays (goes_on r phase)
  goes_on_other phase =
      record { other = record { session = o.other.session; instance = o.other.instance }; kept = o.kept }

  ends_other : (code : ℕ) → Stays (ends_with r code)
  ends_other code = record {
    other = record { session = o.other.session; instance = o.other.instance };
    kept = waits_no_more members names r.tables r.tables r.slot o.kept o.leaves;
  }

  -- it begins on an instance that isn't the realm's
  begins_other : (number : ℕ) (instance : Instance) (begun : Begun) → get names.instances number ≡ None
      → IsOfRealm members names.instances number instance.uuid → begun.tables ≡ with_instance r.tables number instance
      → Stays (begins r begun)
  begins_other number instance begun none of is = record {
    other = record { session = o.other.session; instance = o.other.instance };
    kept = subst (λ (t : Tables). KeepsTables members names r.tables (without_waiter t r.slot)) (sym is)
        (waits_no_more members names r.tables (with_instance r.tables number instance) r.slot
        (instance_keeps members names r.tables r.tables o.kept number instance none of) o.leaves);
  }

  -- what is kept under the call's number is of another application
  kept_of : (instance : Instance) → get r.tables.instances r.call.instance ≡ Some instance
      → IsOfRealm members names.instances r.call.instance instance.uuid
  kept_of instance there =
      All-get (λ (one : ℕ × Instance). IsOfRealm members names.instances one.0 one.1.uuid) r.tables.instances r.call.instance
      instance o.kept.of_app there

  -- and so not where the realm has all of it
  kept_apart : (instance : Instance) → get r.tables.instances r.call.instance ≡ Some instance
      → HasAll members.realm → instance.uuid ≡ uuid_of members.app → ⊥
  kept_apart instance there all is =
      none_is_some (get names.instances r.call.instance) o.other.instance ((kept_of instance there).named all is)

  open_other : (opener : Opener) (found : Option Instance) → get r.tables.instances r.call.instance ≡ found
      → (HasAll members.realm → uuid_of opener.app ≡ uuid_of members.app → ⊥) → Stays (begins_open r opener found)
  open_other opener (Some instance) there apart =
      begins_other r.call.instance (held_by r.slot instance)
      (opens_kept (who_resumes r) opener (r.call.instance, instance)) o.other.instance (kept_of instance there) refl
  open_other opener None there apart =
      if-both Stays (has_pages_for r.boot r.tables opener.app) _ (ends_with r out_of_memory)
      (begins_other r.call.instance (made_for (uuid_of opener.app) r.slot)
      (opens_new (who_resumes r) opener r.call.instance r.tables.next_instance) o.other.instance
      (of_another members names.instances r.call.instance (uuid_of opener.app) o.other.instance apart) refl)
      (ends_other out_of_memory)

  -- the application of an open that waits is another
  found_other : (params : CopiedParams) (session : Session) (instance : Option Instance) (uuid : Option (List ℕ))
      (found : Option Application) → get r.tables.instances r.call.instance ≡ instance
      → ((u : List ℕ) → uuid ≡ Some u → HasAll members.realm → u ≡ uuid_of members.app → ⊥) → option_and_then (app_of r.boot) uuid ≡ found
      → Stays (option_map_or (λ (a : Application).
      begins_open r (record { app = a; login = session.login; params = params }) instance) found
      (ends_with r bad_parameters))
  found_other params session instance uuid None there apart is = ends_other bad_parameters
  found_other params session instance uuid (Some a) there apart is =
      open_other (record { app = a; login = session.login; params = params }) instance there
      (option_and_then_some (app_of r.boot) uuid a is
      (λ u has of all same. apart u has all (sym (app_named r.boot u a of) ∙ same)))

  in_other : (params : CopiedParams) (session : Session) (call_kind : CallKind) (found : Option Instance)
      → r.call.phase ≡ Waits params → get names.instances session.instance ≡ None
      → get r.tables.instances r.call.instance ≡ found → Stays (begins_in r params session call_kind found)
  in_other params session kind.Open found waiting none there =
      found_other params session found r.call.uuid (app_of_call r) there
      (λ uuid has. o.uuid params uuid waiting has) refl
  in_other params session (kind.Invoke func) (Some instance) waiting none there =
      begins_other session.instance (held_by r.slot instance)
      (begins_on (who_resumes r) session instance params (Invoke func ∷ [])) none
      (of_another members names.instances session.instance instance.uuid none (kept_apart instance there)) refl
  in_other params session (kind.Invoke func) None waiting none there = ends_other bad_parameters
  in_other params session kind.Close (Some instance) waiting none there =
      begins_other session.instance (held_by r.slot instance)
      (begins_on (who_resumes r) session instance params
      (closing_points (who_resumes r) r.call.session session instance)) none
      (of_another members names.instances session.instance instance.uuid none (kept_apart instance there)) refl
  in_other params session kind.Close None waiting none there = ends_other bad_parameters
  in_other params session kind.Settled found waiting none there = ends_other bad_parameters

  sleeps_other : (params : CopiedParams) → Stays (sleeps_on r params)
  sleeps_other params =
      if-both Stays (is_without_buffer r.given) (ends_with r out_of_memory) (goes_on r (Waits params))
      (ends_other out_of_memory) (goes_on_other (Waits params))

  tested_other : (params : CopiedParams) (session : Session) (found : Option Instance) → r.call.phase ≡ Waits params
      → get names.instances session.instance ≡ None → get r.tables.instances r.call.instance ≡ found
      → Stays (tested_again r params session found)
  tested_other params session found waiting none there =
      if-both Stays _ (ends_with r target_dead) _ (ends_other target_dead)
      (if-both Stays (option_map_or is_held found false) (sleeps_on r params)
      (begins_in r params session r.call.kind found) (sleeps_other params)
      (in_other params session r.call.kind found waiting none there))

  waiting_other : (params : CopiedParams) (found : Option Session) → r.call.phase ≡ Waits params
      → get r.tables.sessions r.call.session ≡ found
      → Stays (option_map_or (λ (session : Session). tested_again r params session
      (get r.tables.instances r.call.instance)) found (ends_with r bad_parameters))
  waiting_other params None waiting there = ends_other bad_parameters
  waiting_other params (Some session) waiting there =
      tested_other params session (get r.tables.instances r.call.instance) waiting
      (o.kept.other_sessions r.call.session session there o.other.session) refl

  onward_other : (phase : CallPhase) → r.call.phase ≡ phase → Stays (onward_in r phase)
  onward_other (Runs job) is = goes_on_other _
  onward_other (Asks job wanted payload) is = goes_on_other _
  onward_other (Waits params) is = waiting_other params (get r.tables.sessions r.call.session) is refl
  onward_other (Ends result params told wakes) is = goes_on_other _

-- ---- the call as it is resumed

sees_other : (sessions instances : NumberMap ℕ) (call : PendingCall) → IsOther sessions instances call
    → IsOther sessions instances (sees call)
sees_other sessions instances call other =
    if-both (IsOther sessions instances) call.marked (record call { seen = true; phase = phase_seen call.phase }) call
    (record { session = other.session; instance = other.instance }) other

given_other : (sessions instances : NumberMap ℕ) (given : Given) (call : PendingCall) → IsOther sessions instances call
    → IsOther sessions instances (call_given given call)
given_other sessions instances Nothing call other = other
given_other sessions instances (Buffer buffer) call other =
    record { session = other.session; instance = other.instance }
given_other sessions instances NoBuffer call other = other
given_other sessions instances (Reply reply) call other = other

-- it waits where it did before, and is of the same application
record WasSo (call now : PendingCall) : Type 0 where
  uuid : now.uuid ≡ call.uuid
  waiting : (params : CopiedParams) → now.phase ≡ Waits params → call.phase ≡ Waits params

seen_waits : (phase : CallPhase) (params : CopiedParams) → phase_seen phase ≡ Waits params → phase ≡ Waits params
seen_waits (Runs job) params e = absurd cc
seen_waits (Asks job wanted payload) params e = absurd cc
seen_waits (Waits copied) params e = e
seen_waits (Ends result left told wakes) params e = absurd cc

sees_so : (call : PendingCall) → WasSo call (sees call)
sees_so call =
    if-both (WasSo call) call.marked (record call { seen = true; phase = phase_seen call.phase }) call
    (record { uuid = refl; waiting = λ params e. seen_waits call.phase params e })
    (record { uuid = refl; waiting = λ params e. e })

given_so : (given : Given) (call now : PendingCall) → WasSo call now → WasSo call (call_given given now)
given_so Nothing call now was = was
given_so (Buffer buffer) call now was = record { uuid = was.uuid; waiting = was.waiting }
given_so NoBuffer call now was = was
given_so (Reply reply) call now was = was

-- ---- its application

-- one of these passes a test, and what holds of all holds of it
record OnePasses {X : Type 0} (P Q : X → Type 0) (test : X → Bool) : Type 0 where
  one : X
  holds : P one
  too : Q one
  passes : test one ≡ true

one_of : {X : Type 0} (P Q : X → Type 0) (test : X → Bool) (xs : List X) → All P xs → All Q xs
    → list_any test xs ≡ true → OnePasses P Q test
one_of P Q test [] all both is = absurd cc
one_of P Q test (first ∷ xs) all both is =
    by_test (test first) refl is (λ later. one_of P Q test xs (All-tail P first xs all) (All-tail Q first xs both) later)
  where
    by_test : (b : Bool) → test first ≡ b → (b || list_any test xs) ≡ true
        → (list_any test xs ≡ true → OnePasses P Q test) → OnePasses P Q test
    by_test true here some onward = record {
      one = first;
      holds = All-head P first xs all;
      too = All-head Q first xs both;
      passes = here;
    }
    by_test false here some onward = onward some

-- what the call of a slot waits for
awaited_of : (slots : List ThreadSlot) (slot : ℕ) (call : PendingCall) (params : CopiedParams)
    → call_at slots slot ≡ Some call → call.phase ≡ Waits params
    → awaited (sound.unmarked_at slots slot) ≡ Some (call.instance, call.uuid)
awaited_of slots slot call params there waiting =
    option_and_then_some call_in (slice_get slots slot) call there
    (λ held is in_it. ap (λ (o : Option ThreadSlot). awaited (option_and_then sound.unmarked_in o)) is ∙ by_held held in_it)
  where
    waits_so : (other : PendingCall) → other ≡ call → awaited (Some (sound.unmarked other)) ≡ Some (call.instance, call.uuid)
    waits_so other same =
        ap (λ (c : PendingCall). awaited (Some (sound.unmarked c))) same
        ∙ ap (λ (p : CallPhase). awaited (Some (sound.unmarked (record call { phase = p })))) waiting

    by_held : (held : ThreadSlot) → call_in held ≡ Some call
        → awaited (sound.unmarked_in held) ≡ Some (call.instance, call.uuid)
    by_held Free in_it = absurd cc
    by_held (Active cpu other) in_it = let same : other ≡ call = cc in waits_so other same
    by_held (Suspended client other) in_it = let same : other ≡ call = cc in waits_so other same

-- a call that waits and isn't the realm's is of another application
application_apart : (members : Members) (names : Names) (kernel : Kernel) (g : Group) (slot : ℕ) (call : PendingCall)
    (params : CopiedParams) (uuid : List ℕ) → Tied members names kernel.slots kernel.tables g
    → AreWaiters (sound.unmarked_at kernel.slots) kernel.tables.waiters → call_at kernel.slots slot ≡ Some call
    → get names.instances call.instance ≡ None → call.phase ≡ Waits params → call.uuid ≡ Some uuid
    → HasAll members.realm → uuid ≡ uuid_of members.app → ⊥
application_apart members names kernel g slot call params uuid tied waiters there none waiting has all same =
    let waits_for = awaited_of kernel.slots slot call params there waiting in
    let its = one_of (λ (w : Waiter). IsOfRealm members names.instances w.instance w.uuid)
    (IsWaiter (sound.unmarked_at kernel.slots)) (λ (w : Waiter). w.slot == slot) kernel.tables.waiters tied.waiters.of_app
    waiters.each
    (waiters.all slot (subst (λ (o : Option Awaited). IsSome o) (sym waits_for) refl)) in
    let slot_is : its.one.slot ≡ slot = (Decides-eqb its.one.slot slot).0 its.passes in
    let both : Some (its.one.instance, Some its.one.uuid) ≡ Some (call.instance, call.uuid) =
    sym its.too ∙ ap (λ (n : ℕ). awaited (sound.unmarked_at kernel.slots n)) slot_is ∙ waits_for in
    let instance_is : its.one.instance ≡ call.instance =
    ap (λ (o : Option Awaited). option_map_or (λ (a : Awaited). a.0) o call.instance) both in
    let uuid_is : Some its.one.uuid ≡ call.uuid =
    ap (λ (o : Option Awaited). option_map_or (λ (a : Awaited). a.1) o call.uuid) both in
    none_is_some (get names.instances its.one.instance) (ap (λ (n : ℕ). get names.instances n) instance_is ∙ none)
    (its.holds.named all (some_same its.one.uuid uuid (uuid_is ∙ has) ∙ same))
  where
    some_same : (a b : List ℕ) → Some a ≡ Some b → a ≡ b
    some_same a b e = cc

-- ---- the entry

pub resumed_noted : (w : Watched) (slot : ℕ) (notes : Notes) (client : ℕ) (call : PendingCall)
    (held now : Option ThreadSlot) → suspended_for client held ≡ Some call → get notes.numbering.in_slots slot ≡ None
    → slot_noted w slot notes held now ≡ notes
resumed_noted w slot notes client call None now e none = absurd cc
resumed_noted w slot notes client call (Some Free) now e none = absurd cc
resumed_noted w slot notes client call (Some (Active cpu worked)) now e none = absurd cc
resumed_noted w slot notes client call (Some (Suspended owner left)) None e none = refl
resumed_noted w slot notes client call (Some (Suspended owner left)) (Some Free) e none = refl
resumed_noted w slot notes client call (Some (Suspended owner left)) (Some (Active cpu now)) e none =
    ap (λ (o : Option ℕ). option_map_or (resume_noted w slot left now notes) o notes) none
resumed_noted w slot notes client call (Some (Suspended owner left)) (Some (Suspended another now)) e none = refl

pub other_resume : OtherResumesKeepTied
other_resume boot about kernel next cpu steps regs reads call notes g waiters is some none e at =
    let names : Names = names_of about notes at.instances in
    let visit : Visit = record { cpu = cpu; regs = regs.a; steps = steps } in
    let slot : ℕ = thread_in regs.a in
    let resumes = resumes_call boot kernel next visit reads call is some
    (entered boot kernel next cpu steps regs reads e) in
    let found = reading-all (given_to regs.a slot call)
    (λ given. onward_of (resumed_call boot kernel.tables slot call given)) (λ given. Unit {0})
    (anything (given_to regs.a slot call)) reads resumes.progress resumes.comes_to in
    let there : call_at kernel.slots slot ≡ Some call =
    suspended_holds (client_in regs.a) (slice_get kernel.slots slot) call some in
    let call_other : IsOther names.sessions names.instances call = at.tied.others slot call there none in
    let was : WasSo call (call_given found.value (sees call)) = given_so found.value call (sees call) (sees_so call) in
    let r : Resumed = resumed_call boot kernel.tables slot call found.value in
    let resumed : ResumesOther about.members names r = record {
      other = given_other names.sessions names.instances found.value (sees call)
          (sees_other names.sessions names.instances call call_other);
      kept = tied_keeps about.members names kernel.slots kernel.tables g at.tied;
      leaves = others_leave notes.numbering.in_slots (λ (w : Waiter). is_some (get at.instances w.instance)) slot
          kernel.tables.waiters g.waiting at.tied.waiters.calls none;
      uuid = λ params uuid waiting has.
          application_apart about.members names kernel g slot call params uuid at.tied waiters there call_other.instance
          (was.waiting params waiting) (sym was.uuid ∙ has);
    } in
    let stays : StaysOther about.members names kernel.tables resumes.progress =
    subst (StaysOther about.members names kernel.tables) found.gives (onward_other about.members names r resumed r.call.phase refl) in
    let held : ThreadSlot = Active cpu resumes.progress.call in
    let still : Tied about.members names (slice_set kernel.slots slot held) resumes.progress.tables g =
    stays_tied about.members names kernel.slots (slice_set kernel.slots slot held) kernel.tables resumes.progress.tables g
    (slot_keeps names kernel.slots slot held none
    (λ now in_it. held_other names resumes.progress.call now in_it stays.other) at.tied.others) stays.kept at.tied in
    let visitor = visitor_there boot kernel next cpu steps regs reads e in
    let inside : slice_get next.processors cpu ≡ Some (Inside regs.a steps (InSlot slot)) =
    ap (λ (k : Kernel). slice_get k.processors cpu) resumes.next_is
    ∙ set_found kernel.processors cpu (Inside regs.a steps (InSlot slot)) visitor.0 visitor.1 in
    let then_tied : AreTied about next.slots next.tables notes g = record {
      instances = at.instances;
      tied = subst (λ (k : Kernel). Tied about.members names k.slots k.tables g) (sym resumes.next_is) still;
      as_realm = at.as_realm;
    } in
    let entering : Entering = record { kernel = kernel; next = next; visit = visit; reads = reads } in
    let watched : Watched = record { boot = boot; realm = about.members.realm; entering = entering } in
    let same : event_noted boot about.members.realm kernel next notes (Entry cpu regs steps reads) ≡ notes =
    ap (λ (p : Option Processor). entry_noted watched notes p) inside
    ∙ resumed_noted watched slot notes (client_in regs.a) call (slice_get kernel.slots slot)
    (slice_get next.slots slot) some none in
    subst (GoesAlong about notes g next) (sym same) (goes_silently about notes g next then_tied)

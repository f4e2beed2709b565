-- An exit from a call that isn't the realm's leaves kernel and machine tied.
use Rattle.std.proofs.Common.{◌≡◌, ℕ, Bool, true, false, List, [], Option, Some, None, refl, ap, subst, sym}
use Rattle.std.proofs.Common.{◌∙◌}
use Rattle.std.specs.Prelude.{All, ◌==◌, ◌&&◌, ◌||◌, not, slice_get, slice_set}
use Rattle.std.specs.Option.{option_and_then, option_map, option_map_or}
use Rattle.std.proofs.lemmas.List.{append-nil}
use Rattle.std.proofs.lemmas.Option.{option_and_then_some}
use Rattle.base.specs.NumberMap.{NumberMap, get, insert, remove}
use Rattle.base.proofs.MapLemmas.{All-get, All-insert, All-remove}
use Rattle.event_journal.specs.declared.event.Event.TheVariants.{Exit}
use Rattle.job_model.specs.declared.call_kind.CallKind.{CallKind}
use Rattle.job_model.specs.declared.call_kind.CallKind.TheVariants.{Open, Invoke, Close, Settled}
use Rattle.job_model.specs.Steps.{Grant, JobStop, Left, Stopped, grant_of}
use Rattle.job_model.specs.Steps as steps
use Rattle.session_table.specs.declared.session.Session.{Session}
use Rattle.session_table.specs.Session.{opened_with}
use Rattle.session_table.specs.Sessions.{settled}
use Rattle.realm_model.specs.Tied.{Members}
use Rattle.kernel_model.specs.Codes.{success}
use Rattle.kernel_model.specs.Exit.{Exited, after_grant, after_stop, exit_of, gives_back, goes_out_from, progress_held}
use Rattle.kernel_model.specs.Exit.{progress_in, progress_in_slot, slot_left, tables_left}
use Rattle.kernel_model.specs.Instances.{given_back, instances_after, killed}
use Rattle.kernel_model.specs.Kernel.{Active, Asks, CallPhase, Ends, Free, Instance, Kernel, PendingCall}
use Rattle.kernel_model.specs.Kernel.{Processor, Progress, Runs, Suspended, Tables, ThreadSlot, Visit, Waits}
use Rattle.kernel_model.specs.Leaving.{FreesBuffer, Finishes, Interrupted, Leaving, Requests, WantsBuffer, leaving_of}
use Rattle.kernel_model.specs.Sessions.{has_opened, sessions_after, sessions_after_panic, sessions_unrun}
use Rattle.kernel_model.proofs.Parts.{if-both, option_map_some}
use Rattle.own_model.proofs.FixedAnswers.{left}
use Rattle.own_model.proofs.Maps.{get-insert-other, get-inserted, get-remove-other, get-removed}
use Rattle.own_model.proofs.OwnTaken.{numbered_apart}
use Rattle.own_model.specs.Tied.{call_in}
use Rattle.group_model.specs.Group.{Group}
use Rattle.realm_model.specs.Reading.{Notes, event_noted, exit_noted, out_noted}
use Rattle.realm_model.specs.Laws.{About, AreTied, GoesAlong, OtherExitsKeepTied, names_of}
use Rattle.group_model.specs.Tied.{IsOther, Names}
use Rattle.realm_model.specs.Tied.{IsOfRealm, Tied}
use Rattle.group_model.proofs.OtherExits.{HoldsOther, held_other, slot_keeps}
use Rattle.realm_model.proofs.Kept.{KeepsTables, stays_tied}
use Rattle.realm_model.specs.Realm.{Realm}

-- ---- sessions

-- other sessions are on no instance of the realm
abbrev AreApart : Names → NumberMap Session → Type 0
AreApart names sessions = (number : ℕ) (session : Session) → get sessions number ≡ Some session →
    get names.sessions number ≡ None → get names.instances session.instance ≡ None

-- the realm's sessions are as they were
record KeepsSessions (names : Names) (before after : NumberMap Session) : Type 0 where
  own : (number own_number : ℕ) → get names.sessions number ≡ Some own_number → get after number ≡ get before number
  others : AreApart names after

unchanged : (names : Names) (sessions : NumberMap Session) → AreApart names sessions
    → KeepsSessions names sessions sessions
unchanged names sessions others = record { own = λ number own has. refl; others = others }

removed : (names : Names) (sessions : NumberMap Session) (number : ℕ) → get names.sessions number ≡ None
    → AreApart names sessions → KeepsSessions names sessions (remove sessions number)
removed names sessions number none others = record {
  own = λ at own has. get-remove-other sessions number at (numbered_apart names.sessions number at own none has);
  others = λ at session found without. others at session (get-removed sessions number at session found) without;
}

opened : (names : Names) (sessions : NumberMap Session) (number context : ℕ) (found : Option Session)
    → get names.sessions number ≡ None → get sessions number ≡ found → AreApart names sessions
    → KeepsSessions names sessions (option_map_or
    (λ (session : Session). insert sessions number (opened_with session context)) found sessions)
opened names sessions number context None none there others = unchanged names sessions others
opened names sessions number context (Some before) none there others = record {
  own = λ at own has.
      get-insert-other sessions number (opened_with before context) at
      (numbered_apart names.sessions number at own none has);
  others = λ at session found without.
      get-inserted sessions number (opened_with before context) at session found
      (λ same is. subst (λ (s : Session). get names.instances s.instance ≡ None) is (others number before there none))
      (λ was. others at session was without);
}

after_keeps : (names : Names) (call_kind : CallKind) (sessions : NumberMap Session) (number result context : ℕ)
    → get names.sessions number ≡ None → AreApart names sessions
    → KeepsSessions names sessions (sessions_after call_kind sessions number result context)
after_keeps names Open sessions number result context none others =
    if-both (KeepsSessions names sessions) (result == success) (settled sessions number context)
    (remove sessions number)
    (opened names sessions number context (get sessions number) none refl others)
    (removed names sessions number none others)
after_keeps names (Invoke func) sessions number result context none others = unchanged names sessions others
after_keeps names Close sessions number result context none others = removed names sessions number none others
after_keeps names Settled sessions number result context none others = unchanged names sessions others

panic_keeps : (names : Names) (call_kind : CallKind) (sessions : NumberMap Session) (number : ℕ)
    → get names.sessions number ≡ None → AreApart names sessions
    → KeepsSessions names sessions (sessions_after_panic call_kind sessions number)
panic_keeps names Open sessions number none others = removed names sessions number none others
panic_keeps names (Invoke func) sessions number none others = unchanged names sessions others
panic_keeps names Close sessions number none others = removed names sessions number none others
panic_keeps names Settled sessions number none others = unchanged names sessions others

unrun_keeps : (names : Names) (call_kind : CallKind) (sessions : NumberMap Session) (number : ℕ)
    → get names.sessions number ≡ None → AreApart names sessions
    → KeepsSessions names sessions (sessions_unrun call_kind sessions number)
unrun_keeps names Open sessions number none others = removed names sessions number none others
unrun_keeps names (Invoke func) sessions number none others = unchanged names sessions others
unrun_keeps names Close sessions number none others = unchanged names sessions others
unrun_keeps names Settled sessions number none others = unchanged names sessions others

-- ---- instances

abbrev AllOfRealm : Members → Names → NumberMap Instance → Type 0
AllOfRealm members names instances = All (λ (one : ℕ × Instance). IsOfRealm members names.instances one.0 one.1.uuid) instances

-- the realm's instance is as it was
record KeepsInstances (members : Members) (names : Names) (before after : NumberMap Instance) : Type 0 where
  own : (number own_number : ℕ) → get names.instances number ≡ Some own_number → get after number ≡ get before number
  of_app : AllOfRealm members names after

-- a call gives back another instance, which stays of its application
back_keeps : (members : Members) (names : Names) (sessions : NumberMap Session) (instances : NumberMap Instance)
    (number : ℕ) (is_last : Bool) (change : Instance → Instance) (found : Option Instance)
    → ((instance : Instance) → (change instance).uuid ≡ instance.uuid) → get names.instances number ≡ None
    → get instances number ≡ found → AllOfRealm members names instances
    → KeepsInstances members names instances (option_map_or
    (λ (instance : Instance). instances_after sessions instances number is_last (change instance)) found instances)
back_keeps members names sessions instances number is_last change None same none there all =
    record { own = λ at own has. refl; of_app = all }
back_keeps members names sessions instances number is_last change (Some instance) same none there all =
    if-both (KeepsInstances members names instances)
    (is_last || ((change instance).dead && not (has_opened sessions number)))
    (remove instances number) (insert instances number (change instance))
    (record {
      own = λ at own has. get-remove-other instances number at (numbered_apart names.instances number at own none has);
      of_app = All-remove (λ (one : ℕ × Instance). IsOfRealm members names.instances one.0 one.1.uuid) instances number all;
    })
    (record {
      own = λ at own has.
          get-insert-other instances number (change instance) at
          (numbered_apart names.instances number at own none has);
      of_app = All-insert (λ (one : ℕ × Instance). IsOfRealm members names.instances one.0 one.1.uuid) instances number
          (change instance) all
          (subst (λ (u : List ℕ). IsOfRealm members names.instances number u) (sym (same instance))
          (All-get (λ (one : ℕ × Instance). IsOfRealm members names.instances one.0 one.1.uuid) instances number instance
          all there));
    })

-- ---- what the call comes to

-- it is still another's, and the tables keep what is the realm's
pub record StaysOther (members : Members) (names : Names) (before : Tables) (progress : Progress) : Type 0 where
  pub other : IsOther names.sessions names.instances progress.call
  pub kept : KeepsTables members names before progress.tables

other_in : (names : Names) (call : PendingCall) (done_by : ℕ) (phase : CallPhase)
    → IsOther names.sessions names.instances call
    → IsOther names.sessions names.instances (record call { steps = done_by; phase = phase })
other_in names call done_by phase other = record { session = other.session; instance = other.instance }

-- with these sessions and instances
tables_keep : (members : Members) (names : Names) (tables : Tables) (sessions : NumberMap Session)
    (instances : NumberMap Instance) → KeepsTables members names tables tables
    → KeepsSessions names tables.sessions sessions → KeepsInstances members names tables.instances instances
    → KeepsTables members names tables (record tables { sessions = sessions; instances = instances })
tables_keep members names tables sessions instances same kept_sessions kept_instances = record {
  sessions = kept_sessions.own;
  other_sessions = kept_sessions.others;
  instances = kept_instances.own;
  of_app = kept_instances.of_app;
  waiting = refl;
  waiters = same.waiters;
  session_names = same.session_names;
  instance_names = same.instance_names;
}

gives_back_keeps : (members : Members) (names : Names) (tables : Tables) (call : PendingCall)
    (sessions : NumberMap Session) (is_last : Bool) (change : Instance → Instance)
    → ((instance : Instance) → (change instance).uuid ≡ instance.uuid) → IsOther names.sessions names.instances call
    → KeepsTables members names tables tables → KeepsSessions names tables.sessions sessions
    → KeepsTables members names tables (gives_back tables call sessions is_last change)
gives_back_keeps members names tables call sessions is_last change uuid other same kept =
    tables_keep members names tables sessions _ same kept
    (back_keeps members names sessions tables.instances call.instance is_last change (get tables.instances call.instance) uuid
    other.instance refl same.of_app)

stop_other : (members : Members) (names : Names) (tables : Tables) (call : PendingCall) (done_by : ℕ) (why : JobStop)
    → IsOther names.sessions names.instances call → KeepsTables members names tables tables
    → StaysOther members names tables (after_stop tables (record call { steps = done_by }) why)
stop_other members names tables call done_by (steps.Ends end) other same = record {
  other = other_in names call done_by _ other;
  kept = gives_back_keeps members names tables (record call { steps = done_by }) _ end.is_last
      (given_back end.memory end.objects) (λ instance. refl) (other_in names call done_by call.phase other) same
      (after_keeps names call.kind tables.sessions call.session end.result.result end.context other.session
      same.other_sessions);
}
stop_other members names tables call done_by (steps.Panics code) other same = record {
  other = other_in names call done_by _ other;
  kept = gives_back_keeps members names tables (record call { steps = done_by }) _ false killed (λ instance. refl)
      (other_in names call done_by call.phase other) same
      (panic_keeps names call.kind tables.sessions call.session other.session same.other_sessions);
}
stop_other members names tables call done_by (steps.Asks wanted payload job) other same =
    record { other = other_in names call done_by _ other; kept = same }

grant_other : (members : Members) (names : Names) (tables : Tables) (call : PendingCall) (granted : ℕ) (grant : Grant)
    → IsOther names.sessions names.instances call → KeepsTables members names tables tables
    → StaysOther members names tables (after_grant tables call granted grant)
grant_other members names tables call granted (Left job) other same =
    record { other = other_in names call _ _ other; kept = same }
grant_other members names tables call granted (Stopped used why) other same =
    stop_other members names tables call _ why other same

progress_is : (P : Progress → Type 0) (found progress : Progress) → Some found ≡ Some progress → P found → P progress
progress_is P found progress e holds = let same : found ≡ progress = cc in subst P same holds

progress_other : (members : Members) (names : Names) (tables : Tables) (call : PendingCall) (granted : ℕ)
    (phase : CallPhase) (progress : Progress) → progress_in tables call granted phase ≡ Some progress
    → IsOther names.sessions names.instances call → KeepsTables members names tables tables
    → StaysOther members names tables progress
progress_other members names tables call granted (Runs job) progress e other same =
    let found = option_map_some (after_grant tables call granted) (grant_of granted job) progress e in
    subst (StaysOther members names tables) found.2 (grant_other members names tables call granted found.0 other same)
progress_other members names tables call granted (Asks job wanted payload) progress e other same =
    progress_is (StaysOther members names tables) _ progress e (record { other = other; kept = same })
progress_other members names tables call granted (Waits params) progress e other same =
    progress_is (StaysOther members names tables) _ progress e (record { other = other; kept = same })
progress_other members names tables call granted (Ends result params true wakes) progress e other same =
    progress_is (StaysOther members names tables) _ progress e (record { other = other; kept = same })
progress_other members names tables call granted (Ends result params false wakes) progress e other same =
    progress_is (StaysOther members names tables) _ progress e (record {
      other = other_in names call call.steps _ other;
      kept = tables_keep members names tables _ tables.instances same
          (unrun_keeps names call.kind tables.sessions call.session other.session same.other_sessions)
          (record { own = λ at own has. refl; of_app = same.of_app });
    })

-- ---- the slot that it leaves

left_other : (names : Names) (call : PendingCall) (leaving : Leaving) → IsOther names.sessions names.instances call
    → HoldsOther names (slot_left call leaving)
left_other names call Interrupted other = λ now e. held_other names call now e other
left_other names call WantsBuffer other = λ now e. held_other names call now e other
left_other names call (Requests place request) other = λ now e. held_other names call now e other
left_other names call (FreesBuffer buffer) other = λ now e. held_other names (record call { buffer = None }) now e
    (record { session = other.session; instance = other.instance })
left_other names call (Finishes result params) other = λ now e. absurd cc

pins_keep : (members : Members) (names : Names) (before tables : Tables) (slot : ℕ) (held : ThreadSlot)
    → KeepsTables members names before tables → KeepsTables members names before (tables_left tables slot held)
pins_keep members names before tables slot Free kept = record {
  sessions = kept.sessions;
  other_sessions = kept.other_sessions;
  instances = kept.instances;
  of_app = kept.of_app;
  waiting = kept.waiting;
  waiters = kept.waiters;
  session_names = kept.session_names;
  instance_names = kept.instance_names;
}
pins_keep members names before tables slot (Active cpu call) kept = kept
pins_keep members names before tables slot (Suspended client call) kept = kept

-- ---- the exit

-- tables that are tied keep what is the realm's
pub tied_keeps : (members : Members) (names : Names) (slots : List ThreadSlot) (tables : Tables) (g : Group)
    → Tied members names slots tables g → KeepsTables members names tables tables
tied_keeps members names slots tables g tied = record {
  sessions = λ number own has. refl;
  other_sessions = tied.sessions.others;
  instances = λ number own has. refl;
  of_app = tied.instances.of_app;
  waiting = refl;
  waiters = tied.waiters.of_app;
  session_names = λ were. were;
  instance_names = λ next were. were;
}

held_progress : (members : Members) (names : Names) (tables : Tables) (granted : ℕ) (held : ThreadSlot)
    (progress : Progress) → progress_held tables granted held ≡ Some progress → HoldsOther names held
    → KeepsTables members names tables tables → StaysOther members names tables progress
held_progress members names tables granted Free progress e holds same = absurd cc
held_progress members names tables granted (Active worker call) progress e holds same =
    progress_other members names tables call granted call.phase progress e (holds call refl) same
held_progress members names tables granted (Suspended client call) progress e holds same = absurd cc

left_tied : (members : Members) (names : Names) (kernel : Kernel) (visit : Visit) (slot : ℕ) (g : Group)
    (progress : Progress) → get names.numbering.in_slots slot ≡ None → Tied members names kernel.slots kernel.tables g
    → StaysOther members names kernel.tables progress
    → Tied members names (goes_out_from kernel visit slot progress).kernel.slots
    (goes_out_from kernel visit slot progress).kernel.tables g
left_tied members names kernel visit slot g progress none tied stays =
    let leaving : Leaving = leaving_of slot progress.call in
    let held : ThreadSlot = slot_left progress.call leaving in
    stays_tied members names kernel.slots (slice_set kernel.slots slot held) kernel.tables
    (tables_left progress.tables slot held) g
    (slot_keeps names kernel.slots slot held none (left_other names progress.call leaving stays.other) tied.others)
    (pins_keep members names kernel.tables progress.tables slot held stays.kept) tied

none_noted : (realm : Realm) (notes : Notes) (slot : ℕ) (found : Option ℕ) (progress : Option Progress) → found ≡ None
    → option_map_or (λ (p : Progress). option_map_or (exit_noted realm notes slot p.call) found notes) progress notes ≡ notes
none_noted realm notes slot None None e = refl
none_noted realm notes slot None (Some progress) e = refl
none_noted realm notes slot (Some number) progress e = absurd cc

-- nothing happens to the machine
pub goes_silently : (about : About) (notes : Notes) (g : Group) (next : Kernel)
    → AreTied about next.slots next.tables notes g → GoesAlong about notes g next notes
goes_silently about notes g next tied = record {
  items = [];
  noted = sym (append-nil notes.log);
  then = g;
  replies = refl;
  tied = tied;
}

pub other_exit : OtherExitsKeepTied
other_exit boot about kernel next cpu granted slot came regs notes g inside none e at =
    let names : Names = names_of about notes at.instances in
    let visit : Visit = record { cpu = cpu; regs = came; steps = granted } in
    let out = left boot kernel next cpu regs e in
    let goes : option_map (goes_out_from kernel visit slot) (progress_in_slot kernel granted slot) ≡ Some out.0 =
    sym (ap (λ (p : Option Processor). option_and_then (exit_of kernel cpu) p) inside) ∙ out.1 in
    let found = option_map_some (goes_out_from kernel visit slot) (progress_in_slot kernel granted slot) out.0 goes in
    let stays : StaysOther about.members names kernel.tables found.0 =
    option_and_then_some (progress_held kernel.tables granted) (slice_get kernel.slots slot) found.0 found.1
    (λ held there onward.
    held_progress about.members names kernel.tables granted held found.0 onward
    (λ call in_it. at.tied.others slot call
    (ap (λ (o : Option ThreadSlot). option_and_then call_in o) there ∙ in_it) none)
    (tied_keeps about.members names kernel.slots kernel.tables g at.tied)) in
    let comes : (goes_out_from kernel visit slot found.0).kernel ≡ next =
    ap (λ (x : Exited). x.kernel) found.2 ∙ out.2 in
    let then : AreTied about next.slots next.tables notes g = record {
      instances = at.instances;
      tied = subst (λ (k : Kernel). Tied about.members names k.slots k.tables g) comes
          (left_tied about.members names kernel visit slot g found.0 none at.tied stays);
      as_realm = at.as_realm;
    } in
    let same : event_noted boot about.members.realm kernel next notes (Exit cpu regs) ≡ notes =
    ap (λ (p : Option Processor). out_noted about.members.realm kernel notes cpu p) inside
    ∙ none_noted about.members.realm notes slot (get notes.numbering.in_slots slot) (progress_in_slot kernel granted slot) none in
    subst (GoesAlong about notes g next) (sym same) (goes_silently about notes g next then)

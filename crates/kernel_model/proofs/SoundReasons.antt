-- Why an instance is kept, after each event of a legal history: one that nobody holds has an opened session, or its application keeps it alive.
use Rattle.std.proofs.Common.{◌≡◌, ℕ, Bool, true, false, List, [], ◌∷◌, Option, Some, None, ◌⊎◌, inl, inr, refl, ap, subst, sym, ◌∙◌}
use Rattle.std.specs.Prelude.{All, if◌then◌else◌, ◌==◌, ◌&&◌, ◌||◌}
use Rattle.std.specs.List.{list_any}
use Rattle.std.specs.Option.{option_map, option_map_or}
use Rattle.std.proofs.lemmas.Bool.Decides.{Decides-eqb}
use Rattle.std.proofs.lemmas.List.Elements.{All-head, All-tail}
use Rattle.base.specs.NumberMap.{NumberMap, IsRising, get, insert, remove}
use Rattle.job_model.specs.Beginning.{Program, begun_job}
use Rattle.job_model.specs.Job.{Job, idle_job}
use Rattle.job_model.specs.declared.call_kind.CallKind.{CallKind}
use Rattle.job_model.specs.declared.call_kind.CallKind.TheVariants as kind
use Rattle.job_model.specs.declared.entry_point.EntryPoint.{EntryPoint}
use Rattle.job_model.specs.declared.entry_point.EntryPoint.TheVariants.{Create, Open, Close, Destroy}
use Rattle.job_model.specs.Owner.{Owner, owner_of}
use Rattle.session_table.specs.declared.session.Session.{Session}
use Rattle.ta_params.specs.declared.copied_params.CopiedParams.{CopiedParams}
use Rattle.ta_params.specs.declared.login.Login.{Login}
use Rattle.tee_storage.specs.declared.handle.Handle.{Handle}
use Rattle.kernel_model.specs.Application.{Application, Booted, BuiltIn, OfImage, pages_in, program_of, uuid_of}
use Rattle.kernel_model.specs.Begin.{Beginner, Opener, opens_kept, opens_new}
use Rattle.kernel_model.specs.Instances.{app_of, destroy_after, destroy_of, fresh_memory, keeps_alive, program_on}
use Rattle.kernel_model.specs.Kernel.{CallPhase, Instance, PendingCall, Tables}
use Rattle.kernel_model.specs.Sessions.{has_opened}
use Rattle.kernel_model.specs.Sound.{Calls}
use Rattle.kernel_model.specs.SoundCalls.{AreJoined, job_in}
use Rattle.kernel_model.proofs.SoundCourses.{KeepsCourse}
use Rattle.kernel_model.proofs.SoundDestined.{Destined, IsDestined}
use Rattle.kernel_model.proofs.SoundJoined.{never_none, some_same}
use Rattle.kernel_model.proofs.SoundMaps.{get-insert-other, get-insert-same, get-removed}
use Rattle.kernel_model.proofs.SoundNewJoined.{no_job}
use Rattle.kernel_model.proofs.SoundRising.{all_got}
use Rattle.kernel_model.proofs.SoundSlots.{Changes, by_number}

-- ---- opened sessions

-- an opened session of the instance
pub record HasOpened (sessions : NumberMap Session) (number : ℕ) : Type 0 where
  pub at : ℕ
  pub session : Session
  pub kept : get sessions at ≡ Some session
  pub opened : session.opened ≡ true
  pub instance : session.instance ≡ number

-- and another than this one
pub record HasOther (sessions : NumberMap Session) (number own : ℕ) : Type 0 where
  pub one : HasOpened sessions number
  pub apart : own ≡ one.at → ⊥

-- the opened sessions stay, but for those of an instance
abbrev pub OpenedStay : NumberMap Session → NumberMap Session → ℕ → Type 0
OpenedStay before after number =
    (at : ℕ) (session : Session) → get before at ≡ Some session → session.opened ≡ true → (session.instance ≡ number → ⊥) → get after at ≡ Some session

abbrev pub AllOpenedStay : NumberMap Session → NumberMap Session → Type 0
AllOpenedStay before after = (at : ℕ) (session : Session) → get before at ≡ Some session → session.opened ≡ true → get after at ≡ Some session

found_any : {X : Type 0} (P : X → Type 0) (test : X → Bool) (xs : List X) → All P xs → list_any test xs ≡ true → (x : X) × P x × (test x ≡ true)
found_any P test [] all e = absurd cc
found_any {X} P test (first ∷ xs) all e = by_test (test first) refl (found_any P test xs (All-tail P first xs all)) e
  where
    by_test : (b : Bool) → test first ≡ b → (list_any test xs ≡ true → (x : X) × P x × (test x ≡ true)) → (b || list_any test xs) ≡ true
        → (x : X) × P x × (test x ≡ true)
    by_test true is rest any = (first, All-head P first xs all, is)
    by_test false is rest any = rest any

both_true : (one other : Bool) → (one && other) ≡ true → (one ≡ true) × (other ≡ true)
both_true true other e = (refl, e)
both_true false other e = absurd cc

pub opened_there : (sessions : NumberMap Session) (number : ℕ) → IsRising sessions → has_opened sessions number ≡ true → HasOpened sessions number
opened_there sessions number rising e =
    let found = found_any (λ (kept : ℕ × Session). get sessions kept.0 ≡ Some kept.1)
    (λ (kept : ℕ × Session). (kept.1.instance == number) && kept.1.opened) sessions
    (all_got (λ (kept : ℕ × Session). get sessions kept.0 ≡ Some kept.1) sessions rising (λ k v there. there)) e in
    let tests = both_true (found.0.1.instance == number) found.0.1.opened found.2 in
    record { at = found.0.0; session = found.0.1; kept = found.1; opened = tests.1; instance = (Decides-eqb found.0.1.instance number).0 tests.0 }

-- without one session another is opened
pub other_opened : (sessions : NumberMap Session) (number own : ℕ) → IsRising (remove sessions own) → has_opened (remove sessions own) number ≡ true
    → HasOther sessions number own
other_opened sessions number own rising e =
    let one = opened_there (remove sessions own) number rising e in
    let was = get-removed sessions own one.at one.session one.kept in
    record {
      one = record { at = one.at; session = one.session; kept = was.1; opened = one.opened; instance = one.instance };
      apart = was.0;
    }

-- ---- reasons

-- the application of a UUID keeps its instance alive
abbrev pub IsKeptAlive : Booted → List ℕ → Type 0
IsKeptAlive boot uuid = option_map_or keeps_alive (app_of boot uuid) false ≡ true

abbrev pub is_open : CallKind → Bool
is_open kind.Open = true
is_open (kind.Invoke func) = false
is_open kind.Close = false
is_open kind.Settled = false

-- a call of this kind can leave its instance without its session
abbrev pub leaves : CallKind → Bool
leaves kind.Open = true
leaves (kind.Invoke func) = false
leaves kind.Close = true
leaves kind.Settled = false

-- why an instance can outlast a call on it, of a session of this number
abbrev pub CanStay : Booted → NumberMap Session → Instance → ℕ → ℕ → Type 0
CanStay boot sessions instance number own = HasOther sessions number own ⊎ (IsKeptAlive boot instance.uuid ⊎ (instance.dead ≡ true))

-- the job of a call on it is to end it, or it can
abbrev pub EndsOrStays : Booted → NumberMap Session → Instance → PendingCall → Job → Type 0
EndsOrStays boot sessions instance call job =
    IsDestined (is_open call.kind) job.body job.points job.result ⊎ CanStay boot sessions instance call.instance call.session

abbrev pub HasReason : Booted → NumberMap Session → ℕ → Instance → Type 0
HasReason boot sessions number instance = HasOpened sessions number ⊎ IsKeptAlive boot instance.uuid

pub record AreReasoned (boot : Booted) (calls : Calls) (tables : Tables) : Type 0 where
  pub free : (number : ℕ) (instance : Instance) → get tables.instances number ≡ Some instance → instance.holder ≡ None →
      HasReason boot tables.sessions number instance
  pub jobs : (slot : ℕ) (call : PendingCall) (job : Job) (instance : Instance) → calls slot ≡ Some call → job_in call.phase ≡ Some job →
      get tables.instances call.instance ≡ Some instance → leaves call.kind ≡ true → EndsOrStays boot tables.sessions instance call job

abbrev opened_moves : (before after : NumberMap Session) (number at : ℕ) → OpenedStay before after number → (number ≡ at → ⊥) → HasOpened before at → HasOpened after at
opened_moves before after number at stay apart one = record {
  at = one.at;
  session = one.session;
  kept = stay one.at one.session one.kept one.opened (λ e. apart (sym e ∙ one.instance));
  opened = one.opened;
  instance = one.instance;
}

other_moves : (before after : NumberMap Session) (number at own : ℕ) → OpenedStay before after number → (number ≡ at → ⊥) → HasOther before at own → HasOther after at own
other_moves before after number at own stay apart other =
    record { one = opened_moves before after number at stay apart other.one; apart = other.apart }

reason_moves : (boot : Booted) (before after : NumberMap Session) (number at : ℕ) (instance : Instance) → OpenedStay before after number → (number ≡ at → ⊥)
    → HasReason boot before at instance → HasReason boot after at instance
reason_moves boot before after number at instance stay apart (inl one) = inl (opened_moves before after number at stay apart one)
reason_moves boot before after number at instance stay apart (inr alive) = inr alive

ends_moves : (boot : Booted) (before after : NumberMap Session) (number : ℕ) (instance : Instance) (call : PendingCall) (job : Job) → OpenedStay before after number
    → (number ≡ call.instance → ⊥) → EndsOrStays boot before instance call job → EndsOrStays boot after instance call job
ends_moves boot before after number instance call job stay apart (inl so) = inl so
ends_moves boot before after number instance call job stay apart (inr (inl other)) =
    inr (inl (other_moves before after number call.instance call.session stay apart other))
ends_moves boot before after number instance call job stay apart (inr (inr either)) = inr (inr either)

abbrev pub opened_still : (before after : NumberMap Session) (at : ℕ) → AllOpenedStay before after → HasOpened before at → HasOpened after at
opened_still before after at stay one =
    record { at = one.at; session = one.session; kept = stay one.at one.session one.kept one.opened; opened = one.opened; instance = one.instance }

pub other_still : (before after : NumberMap Session) (at own : ℕ) → AllOpenedStay before after → HasOther before at own → HasOther after at own
other_still before after at own stay other = record { one = opened_still before after at stay other.one; apart = other.apart }

reason_still : (boot : Booted) (before after : NumberMap Session) (at : ℕ) (instance : Instance) → AllOpenedStay before after
    → HasReason boot before at instance → HasReason boot after at instance
reason_still boot before after at instance stay (inl one) = inl (opened_still before after at stay one)
reason_still boot before after at instance stay (inr alive) = inr alive

pub ends_still : (boot : Booted) (before after : NumberMap Session) (instance : Instance) (call : PendingCall) (job : Job) → AllOpenedStay before after
    → EndsOrStays boot before instance call job → EndsOrStays boot after instance call job
ends_still boot before after instance call job stay (inl so) = inl so
ends_still boot before after instance call job stay (inr (inl other)) = inr (inl (other_still before after call.instance call.session stay other))
ends_still boot before after instance call job stay (inr (inr either)) = inr (inr either)

-- what was destined still is
abbrev pub KeepsDestiny : CallPhase → CallPhase → Type 0
KeepsDestiny phase next = (opening : Bool) → KeepsCourse (Destined opening) phase next

-- ---- one call changes

module _ (boot : Booted) (before after : Calls) (tables now : Tables) (slot : ℕ) (held : Option PendingCall) (changes : Changes before after slot held)
    (reasons : AreReasoned boot before tables) where
  mine : (at : ℕ) (call : PendingCall) → slot ≡ at → after at ≡ Some call → held ≡ Some call
  mine at call same is = sym changes.here ∙ ap after same ∙ is

  theirs : (at : ℕ) (call : PendingCall) → (slot ≡ at → ⊥) → after at ≡ Some call → before at ≡ Some call
  theirs at call differ is = sym (changes.others at differ) ∙ is

  -- the instances stay, and all opened sessions
  pub reasons_still : now.instances ≡ tables.instances → AllOpenedStay tables.sessions now.sessions
      → ((call : PendingCall) (job : Job) (instance : Instance) → held ≡ Some call → job_in call.phase ≡ Some job → get tables.instances call.instance ≡ Some instance
      → leaves call.kind ≡ true → EndsOrStays boot tables.sessions instance call job)
      → AreReasoned boot after now
  reasons_still same stay its = record {
    free = λ number instance kept none.
        reason_still boot tables.sessions now.sessions number instance stay
        (reasons.free number instance (ap (λ (m : NumberMap Instance). get m number) (sym same) ∙ kept) none);
    jobs = λ at call job instance is works kept leaving.
        let was = ap (λ (m : NumberMap Instance). get m call.instance) (sym same) ∙ kept in
        ends_still boot tables.sessions now.sessions instance call job stay
        (by_number slot at
        (λ here. its call job instance (mine at call here is) works was leaving)
        (λ differ. reasons.jobs at call job instance (theirs at call differ is) works was leaving));
  }

  -- at most the instance of a number changes, which no other call holds, and its opened sessions
  pub reasons_change : (number : ℕ) → AreJoined before tables
      → ((instance : Instance) (other : ℕ) → get tables.instances number ≡ Some instance → instance.holder ≡ Some other → slot ≡ other)
      → ((other : ℕ) → (number ≡ other → ⊥) → get now.instances other ≡ get tables.instances other)
      → OpenedStay tables.sessions now.sessions number
      → ((instance : Instance) → get now.instances number ≡ Some instance → instance.holder ≡ None → HasReason boot now.sessions number instance)
      → ((call : PendingCall) (job : Job) (instance : Instance) → held ≡ Some call → job_in call.phase ≡ Some job → get now.instances call.instance ≡ Some instance
      → leaves call.kind ≡ true → EndsOrStays boot now.sessions instance call job)
      → AreReasoned boot after now
  reasons_change number joined own others stay reason its = record {
    free = λ at instance kept none. by_number number at
        (λ same. subst (λ (n : ℕ). HasReason boot now.sessions n instance) same (reason instance (ap (λ (n : ℕ). get now.instances n) same ∙ kept) none))
        (λ apart. reason_moves boot tables.sessions now.sessions number at instance stay apart (reasons.free at instance (sym (others at apart) ∙ kept) none));
    jobs = λ at call job instance is works kept leaving. by_number slot at
        (λ here. its call job instance (mine at call here is) works kept leaving)
        (λ differ.
        let was = theirs at call differ is in
        let holds = (joined.each at call was).instance.working job works in
        by_number number call.instance
        (λ same. absurd (differ (own holds.instance at (ap (λ (n : ℕ). get tables.instances n) same ∙ holds.kept) holds.holder)))
        (λ apart. ends_moves boot tables.sessions now.sessions number instance call job stay apart
        (reasons.jobs at call job instance was works (sym (others call.instance apart) ∙ kept) leaving)));
  }

  -- a call begins on an instance that nobody holds, or on a new one
  pub reasons_begin : (call : PendingCall) (its : Instance) (job : Job) → held ≡ Some call → AreJoined before tables
      → now.instances ≡ insert tables.instances call.instance its → its.holder ≡ Some slot → job_in call.phase ≡ Some job
      → ((instance : Instance) → get tables.instances call.instance ≡ Some instance → instance.holder ≡ None) → AllOpenedStay tables.sessions now.sessions
      → (leaves call.kind ≡ true → EndsOrStays boot now.sessions its call job) → AreReasoned boot after now
  reasons_begin call its job is joined instances holder works free stay ends =
      reasons_change call.instance joined
      (λ instance other kept holds. never_none instance.holder other (free instance kept) holds)
      (λ other apart. ap (λ (m : NumberMap Instance). get m other) instances ∙ get-insert-other tables.instances call.instance its other apart)
      (λ at session kept opened apart. stay at session kept opened)
      (λ instance kept none. never_none instance.holder slot none (ap (λ (i : Instance). i.holder) (some_same instance its (sym kept ∙ here)) ∙ holder))
      (λ other next instance same does kept leaving.
      let one = some_same call other (sym is ∙ same) in
      let jobs = some_same job next (sym works ∙ ap (λ (c : PendingCall). job_in c.phase) one ∙ does) in
      let found = some_same its instance (sym here ∙ ap (λ (c : PendingCall). get now.instances c.instance) one ∙ kept) in
      subst (λ (i : Instance). EndsOrStays boot now.sessions i other next) found
      (subst (λ (j : Job). EndsOrStays boot now.sessions its other j) jobs
      (subst (λ (c : PendingCall). EndsOrStays boot now.sessions its c job) one (ends (ap (λ (c : PendingCall). leaves c.kind) one ∙ leaving)))))
    where
      here : get now.instances call.instance ≡ Some its
      here = ap (λ (m : NumberMap Instance). get m call.instance) instances ∙ get-insert-same tables.instances call.instance its

  -- a call without a job
  pub reasons_rest : (call : PendingCall) → held ≡ Some call → job_in call.phase ≡ None → now.instances ≡ tables.instances
      → AllOpenedStay tables.sessions now.sessions → AreReasoned boot after now
  reasons_rest call is rests same stay = reasons_still same stay
      (λ other job instance its works kept leaving.
      no_job job (sym rests ∙ ap (λ (c : PendingCall). job_in c.phase) (some_same call other (sym is ∙ its)) ∙ works))

  -- a call that goes on
  pub reasons_go : (was call : PendingCall) → before slot ≡ Some was → held ≡ Some call → call.instance ≡ was.instance → call.session ≡ was.session
      → call.kind ≡ was.kind → KeepsDestiny was.phase call.phase → now.instances ≡ tables.instances → AllOpenedStay tables.sessions now.sessions
      → AreReasoned boot after now
  reasons_go was call there is instance session of_kind keeps same stay = reasons_still same stay
      (λ other job found its works kept leaving.
      let one = some_same call other (sym is ∙ its) in
      let old = keeps (is_open was.kind) job (ap (λ (c : PendingCall). job_in c.phase) one ∙ works) in
      let its_kept = ap (λ (n : ℕ). get tables.instances n) (sym instance ∙ ap (λ (c : PendingCall). c.instance) one) ∙ kept in
      let its_leaving = ap leaves (sym of_kind) ∙ ap (λ (c : PendingCall). leaves c.kind) one ∙ leaving in
      subst (λ (c : PendingCall). EndsOrStays boot tables.sessions found c job) one
      (as_call found job old.0 old.2 (reasons.jobs slot was old.0 found there old.1 its_kept its_leaving)))
    where
      as_call : (found : Instance) (job before_it : Job)
          → (IsDestined (is_open was.kind) before_it.body before_it.points before_it.result → IsDestined (is_open was.kind) job.body job.points job.result)
          → EndsOrStays boot tables.sessions found was before_it → EndsOrStays boot tables.sessions found call job
      as_call found job before_it onward (inl so) =
          inl (subst (λ (k : CallKind). IsDestined (is_open k) job.body job.points job.result) (sym of_kind) (onward so))
      as_call found job before_it onward (inr (inl other)) =
          inr (inl (subst (λ (n : ℕ). HasOther tables.sessions n call.session) (sym instance)
          (subst (λ (n : ℕ). HasOther tables.sessions was.instance n) (sym session) other)))
      as_call found job before_it onward (inr (inr either)) = inr (inr either)

-- ---- what a call begins with

destroys : (app : Application) (sessions : NumberMap Session) (number : ℕ)
    → (destroy_after app sessions number ≡ Destroy ∷ []) ⊎ ((has_opened sessions number ≡ true) ⊎ (keeps_alive app ≡ true))
destroys app sessions number = by (has_opened sessions number) (keeps_alive app)
  where
    by : (one other : Bool) → ((if one || other then [] else Destroy ∷ []) ≡ Destroy ∷ []) ⊎ ((one ≡ true) ⊎ (other ≡ true))
    by true other = inr (inl refl)
    by false true = inr (inr refl)
    by false false = inl refl

-- the job of a call that begins at these entry points is to end its instance
abbrev BeginsDestined : Bool → Option Program → List ℕ → Bool → Job → List EntryPoint → Type 0
BeginsDestined opening found memory seen idle points =
    let job = begun_job (record { program = found; memory = memory; seen = seen }) idle points in
    IsDestined opening job.body job.points job.result

kept_destined : (app : Application) (memory : List ℕ) (owner : Owner) (seen : Bool) (login : Login) (objects : NumberMap Handle) (params : CopiedParams)
    → BeginsDestined true (Some (program_of app)) memory seen (idle_job owner login 0 objects params) (Open ∷ Destroy ∷ [])
kept_destined (OfImage app) memory owner seen login objects params = (refl, refl)
kept_destined (BuiltIn its relation) memory owner seen login objects params = inr (refl, refl)

made_destined : (app : Application) (memory : List ℕ) (owner : Owner) (seen : Bool) (login : Login) (objects : NumberMap Handle) (params : CopiedParams)
    → BeginsDestined true (Some (program_of app)) memory seen (idle_job owner login 0 objects params) (Create ∷ Open ∷ Destroy ∷ [])
made_destined (OfImage app) memory owner seen login objects params = (refl, refl)
made_destined (BuiltIn its relation) memory owner seen login objects params = inr (refl, refl)

close_destined : (app : Application) (memory : List ℕ) (owner : Owner) (seen : Bool) (login : Login) (context : ℕ) (objects : NumberMap Handle) (params : CopiedParams)
    → BeginsDestined false (Some (program_of app)) memory seen (idle_job owner login context objects params) (Close ∷ Destroy ∷ [])
close_destined (OfImage app) memory owner seen login context objects params = refl
close_destined (BuiltIn its relation) memory owner seen login context objects params = inl refl

-- what holds of a job that an open begins with
abbrev OpensSo : Beginner → Opener → ℕ → Job → Type 0
OpensSo who brought number job =
    IsDestined true job.body job.points job.result ⊎ ((has_opened who.tables.sessions number ≡ true) ⊎ (keeps_alive brought.app ≡ true))

pub kept_so : (who : Beginner) (brought : Opener) (kept : ℕ × Instance) → OpensSo who brought kept.0 (opens_kept who brought kept).job
kept_so who brought kept = by (destroys brought.app who.tables.sessions kept.0)
  where
    by : (destroy_after brought.app who.tables.sessions kept.0 ≡ Destroy ∷ [])
        ⊎ ((has_opened who.tables.sessions kept.0 ≡ true) ⊎ (keeps_alive brought.app ≡ true)) → OpensSo who brought kept.0 (opens_kept who brought kept).job
    by (inl e) =
        inl (subst (λ (behind : List EntryPoint). BeginsDestined true (Some (program_of brought.app)) kept.1.memory who.seen
        (idle_job (owner_of (uuid_of brought.app) who.boot.key) brought.login 0 kept.1.objects brought.params) (Open ∷ behind)) (sym e)
        (kept_destined brought.app kept.1.memory (owner_of (uuid_of brought.app) who.boot.key) who.seen brought.login kept.1.objects brought.params))
    by (inr either) = inr either

pub made_so : (who : Beginner) (brought : Opener) (number next : ℕ) → OpensSo who brought number (opens_new who brought number next).job
made_so who brought number next = by (destroys brought.app who.tables.sessions number)
  where
    by : (destroy_after brought.app who.tables.sessions number ≡ Destroy ∷ [])
        ⊎ ((has_opened who.tables.sessions number ≡ true) ⊎ (keeps_alive brought.app ≡ true)) → OpensSo who brought number (opens_new who brought number next).job
    by (inl e) =
        inl (subst (λ (behind : List EntryPoint). BeginsDestined true (Some (program_of brought.app)) (fresh_memory (pages_in brought.app)) who.seen
        (idle_job (owner_of (uuid_of brought.app) who.boot.key) brought.login 0 [] brought.params) (Create ∷ Open ∷ behind)) (sym e)
        (made_destined brought.app (fresh_memory (pages_in brought.app)) (owner_of (uuid_of brought.app) who.boot.key) who.seen brought.login [] brought.params))
    by (inr either) = inr either

-- of one that a close begins with
abbrev ClosesSo : Beginner → ℕ → Session → Instance → CopiedParams → Application → Type 0
ClosesSo who number session instance params app =
    BeginsDestined false (program_on who.boot instance) instance.memory who.seen (idle_job (owner_of instance.uuid who.boot.key) session.login session.context instance.objects params)
    (Close ∷ destroy_of who.boot instance.uuid (remove who.tables.sessions number) session.instance)
    ⊎ ((has_opened (remove who.tables.sessions number) session.instance ≡ true) ⊎ ((keeps_alive app ≡ true) ⊎ (instance.dead ≡ true)))

pub close_so : (who : Beginner) (number : ℕ) (session : Session) (instance : Instance) (params : CopiedParams) (app : Application) → app_of who.boot instance.uuid ≡ Some app
    → ClosesSo who number session instance params app
close_so who number session instance params app is = by_dead instance.dead refl
  where
    program_is : instance.dead ≡ false → program_on who.boot instance ≡ Some (program_of app)
    program_is alive =
        ap (λ (b : Bool). if b then None else option_map program_of (app_of who.boot instance.uuid)) alive
        ∙ ap (λ (o : Option Application). option_map program_of o) is

    points_are : destroy_of who.boot instance.uuid (remove who.tables.sessions number) session.instance
        ≡ destroy_after app (remove who.tables.sessions number) session.instance
    points_are = ap (λ (o : Option Application). option_map_or (λ (a : Application). destroy_after a (remove who.tables.sessions number) session.instance) o []) is

    by : instance.dead ≡ false → (destroy_after app (remove who.tables.sessions number) session.instance ≡ Destroy ∷ [])
        ⊎ ((has_opened (remove who.tables.sessions number) session.instance ≡ true) ⊎ (keeps_alive app ≡ true)) → ClosesSo who number session instance params app
    by alive (inl e) =
        inl (subst (λ (found : Option Program). BeginsDestined false found instance.memory who.seen
        (idle_job (owner_of instance.uuid who.boot.key) session.login session.context instance.objects params)
        (Close ∷ destroy_of who.boot instance.uuid (remove who.tables.sessions number) session.instance)) (sym (program_is alive))
        (subst (λ (behind : List EntryPoint). BeginsDestined false (Some (program_of app)) instance.memory who.seen
        (idle_job (owner_of instance.uuid who.boot.key) session.login session.context instance.objects params) (Close ∷ behind)) (sym (points_are ∙ e))
        (close_destined app instance.memory (owner_of instance.uuid who.boot.key) who.seen session.login session.context instance.objects params)))
    by alive (inr (inl opened)) = inr (inl opened)
    by alive (inr (inr kept)) = inr (inr (inl kept))

    by_dead : (dead : Bool) → instance.dead ≡ dead → ClosesSo who number session instance params app
    by_dead true dies = inr (inr (inr dies))
    by_dead false alive = by alive (destroys app (remove who.tables.sessions number) session.instance)

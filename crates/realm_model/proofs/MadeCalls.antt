-- What an open of the realm that begins on a new instance takes its slot for, and the machine's step with it: the new
-- instance has the number for which calls wait, on both sides, or the next one, of either.
use Rattle.std.proofs.Common.{◌≡◌, ℕ, ◌+◌, ◌<◌, ◌≤◌, Bool, true, false, List, [], ◌∷◌, Option, Some, None, refl, ap, subst, sym}
use Rattle.std.proofs.Common.{◌∙◌, arith}
use Rattle.std.specs.Prelude.{◌||◌, bytes_eq, cond, filter, find, if◌then◌else◌, is_some, map}
use Rattle.std.specs.Option.{option_map, option_map_or}
use Rattle.base.specs.NumberMap.{NumberMap, get, insert}
use Rattle.job_model.specs.Beginning.{OfImage, OfRelation, Program}
use Rattle.job_model.specs.declared.entry_point.EntryPoint.{EntryPoint}
use Rattle.job_model.specs.declared.entry_point.EntryPoint.TheVariants as point
use Rattle.job_model.specs.Job.{Job}
use Rattle.param_copy.specs.Copying.{Copies}
use Rattle.session_table.specs.declared.waiters.Waiter.{Waiter}
use Rattle.session_table.specs.Waiters.{instance_with}
use Rattle.ta_params.specs.declared.copied_params.CopiedParams.{CopiedParams}
use Rattle.ta_params.specs.declared.login.Login.{Login}
use Rattle.kernel_model.specs.Application.{Application, program_of, uuid_of}
use Rattle.kernel_model.specs.Argument.{Opening}
use Rattle.kernel_model.specs.Begin as kept_begin
use Rattle.kernel_model.specs.Instances.{destroy_after, held_by, keeps_alive, made_for}
use Rattle.kernel_model.specs.Kernel.{Instance, ThreadSlot}
use Rattle.kernel_model.specs.Decision.{Taken}
use Rattle.kernel_model.specs.NewCall.{NewCall, beginner, opener, shared_by}
use Rattle.kernel_model.specs.Sessions as kept_sessions
use Rattle.kernel_model.proofs.Parts.{option_map_some}
use Rattle.kernel_model.proofs.SoundMaps.{if_some}
use Rattle.kernel_model.proofs.SoundNewCalls.{opening_taken}
use Rattle.own_model.proofs.Maps.{get-insert-same}
use Rattle.own_model.specs.Parameters.{params_of}
use Rattle.group_model.specs.Group.{Group, GroupWaiter, job_on, made, open_begins, opens_made, opens_new, silent}
use Rattle.group_model.specs.Group.{start_of_open, step}
use Rattle.group_model.specs.Group as machine
use Rattle.group_model.specs.Read.{open_event}
use Rattle.realm_model.specs.Reading.{Notes}
use Rattle.group_model.specs.declared.group_event.GroupEvent.{GroupEvent}
use Rattle.group_model.specs.declared.group_event.GroupEvent.TheVariants as event
use Rattle.own_model.specs.declared.own_event.OwnInput.TheVariants.{Copied}
use Rattle.realm_model.specs.Laws.{About, AsRealm, IsOne, OpensRun, names_of}
use Rattle.realm_model.specs.Tied.{HasAll, IsOfRealm, Members, Tied}
use Rattle.group_model.proofs.Alike.{map_none, opened_same}
use Rattle.group_model.proofs.Begins.{nobody}
use Rattle.realm_model.proofs.Begins.{instance_named}
use Rattle.group_model.proofs.BegunCalls.{Numbers, On, opener_of}
use Rattle.realm_model.proofs.BegunCalls.{AreBegun, key_is, open_comes}
use Rattle.group_model.proofs.NewForms.{Passes}
use Rattle.realm_model.proofs.SettledCalls.{IfNoted}
use Rattle.realm_model.proofs.OtherCalls.{Within}
use Rattle.realm_model.proofs.WaitingCalls.{ComesIn, dead_same, none_shared, same_app, taken_same}
use Rattle.realm_model.proofs.WaitingCalls.{tested_step}
use Rattle.own_model.proofs.OwnCalls.{job_with}
use Rattle.std.specs.Prelude.{All, IsSome}
use Rattle.std.proofs.lemmas.List.Elements.{All-head, All-tail, All-weaker}
use Rattle.std.proofs.lemmas.Slice.Eq.{bytes_eq-Decides}
use Rattle.session_table.specs.Session.{reserved_for}
use Rattle.kernel_model.specs.Instances.{is_single}
use Rattle.group_model.specs.Group.{nobody_there}
use Rattle.realm_model.proofs.Members.{GrowsAs, all_of, as_all, as_next, either_realm, noted_runs, yet_nobody}
use Rattle.realm_model.proofs.OtherCalls.{none_is_some}

-- ---- the first that waits

-- what the machine finds first among those that wait
abbrev first_of : List GroupWaiter → Option GroupWaiter
first_of waiting = find (λ (waiter : GroupWaiter). true) waiting

none_waits : (names : NumberMap ℕ) (test : Waiter → Bool) (waiters : List Waiter) (waiting : List GroupWaiter)
    → map (λ (w : Waiter). get names w.instance) (filter test waiters) ≡ map (λ (o : GroupWaiter). Some o.instance) waiting
    → find test waiters ≡ None → first_of waiting ≡ None
none_waits names test [] [] same none = refl
none_waits names test [] (own ∷ waiting) same none = absurd cc
none_waits names test (waiter ∷ waiters) waiting same none =
    by_test (test waiter) same none (λ here last. none_waits names test waiters waiting here last)
  where
    by_test : (b : Bool) → map (λ (w : Waiter). get names w.instance)
        (cond b (waiter ∷ filter test waiters) (filter test waiters)) ≡ map (λ (o : GroupWaiter). Some o.instance) waiting
        → cond b (Some waiter) (find test waiters) ≡ None
        → (map (λ (w : Waiter). get names w.instance) (filter test waiters)
        ≡ map (λ (o : GroupWaiter). Some o.instance) waiting → find test waiters ≡ None → first_of waiting ≡ None)
        → first_of waiting ≡ None
    by_test true here found onward = absurd cc
    by_test false here found onward = onward here found

-- the machine's first, on the same instance
record FirstOwn (names : NumberMap ℕ) (waiting : List GroupWaiter) (number : ℕ) : Type 0 where
  own : GroupWaiter
  first : first_of waiting ≡ Some own
  named : get names number ≡ Some own.instance

one_waits : (names : NumberMap ℕ) (test : Waiter → Bool) (waiters : List Waiter) (waiting : List GroupWaiter)
    (waiter : Waiter)
    → map (λ (w : Waiter). get names w.instance) (filter test waiters) ≡ map (λ (o : GroupWaiter). Some o.instance) waiting
    → find test waiters ≡ Some waiter → FirstOwn names waiting waiter.instance
one_waits names test [] waiting waiter same is = absurd cc
one_waits names test (first ∷ waiters) waiting waiter same is =
    by_test (test first) same is (λ here found. one_waits names test waiters waiting waiter here found)
  where
    first_is : (own_waiting : List GroupWaiter) → map (λ (w : Waiter). get names w.instance) (first ∷ filter test waiters)
        ≡ map (λ (o : GroupWaiter). Some o.instance) own_waiting → first ≡ waiter
        → FirstOwn names own_waiting waiter.instance
    first_is [] here it = absurd cc
    first_is (own ∷ behind) here it =
        let named : get names first.instance ≡ Some own.instance = cc in
        record {
          own = own;
          first = refl;
          named = ap (λ (w : Waiter). get names w.instance) (sym it) ∙ named;
        }

    by_test : (b : Bool) → map (λ (w : Waiter). get names w.instance)
        (cond b (first ∷ filter test waiters) (filter test waiters)) ≡ map (λ (o : GroupWaiter). Some o.instance) waiting
        → cond b (Some first) (find test waiters) ≡ Some waiter
        → (map (λ (w : Waiter). get names w.instance) (filter test waiters)
        ≡ map (λ (o : GroupWaiter). Some o.instance) waiting → find test waiters ≡ Some waiter
        → FirstOwn names waiting waiter.instance)
        → FirstOwn names waiting waiter.instance
    by_test true here found onward = let it : first ≡ waiter = cc in first_is waiting here it
    by_test false here found onward = onward here found

-- ---- the number of the new instance

-- an instance has a name exactly where it is of the application, where the realm has all of that
same_test : (members : Members) (names : NumberMap ℕ) (waiter : Waiter) → HasAll members.realm
    → IsOfRealm members names waiter.instance waiter.uuid
    → bytes_eq waiter.uuid (uuid_of members.app) ≡ is_some (get names waiter.instance)
same_test members names waiter all of =
    by_cases (bytes_eq waiter.uuid (uuid_of members.app)) refl (get names waiter.instance) refl
  where
    by_cases : (test : Bool) → bytes_eq waiter.uuid (uuid_of members.app) ≡ test → (found : Option ℕ)
        → get names waiter.instance ≡ found → test ≡ is_some found
    by_cases true is (Some own) has = refl
    by_cases false is None has = refl
    by_cases true is None has =
        none_is_some (get names waiter.instance) has
        (of.named all ((bytes_eq-Decides waiter.uuid (uuid_of members.app)).0 is))
    by_cases false is (Some own) has =
        let no : true ≡ false =
        sym ((bytes_eq-Decides waiter.uuid (uuid_of members.app)).1
        (of.of_app (subst (λ (o : Option ℕ). IsSome o) (sym has) refl))) ∙ is in absurd cc

find_same : (test other : Waiter → Bool) (waiters : List Waiter) → All (λ (w : Waiter). test w ≡ other w) waiters
    → find test waiters ≡ find other waiters
find_same test other [] same = refl
find_same test other (waiter ∷ waiters) same =
    ap (λ b. cond b (Some waiter) (find test waiters)) (All-head (λ (w : Waiter). test w ≡ other w) waiter waiters same)
    ∙ ap (λ (o : Option Waiter). cond (other waiter) (Some waiter) o)
    (find_same test other waiters (All-tail (λ (w : Waiter). test w ≡ other w) waiter waiters same))

-- who waits first for an instance of the application waits first for one with a name
first_named : (about : About) (notes : Notes) (slots : List ThreadSlot) (g : Group) (c : NewCall)
    → (w : Within about notes slots g c) → HasAll about.members.realm
    → find (λ (waiter : Waiter). bytes_eq waiter.uuid (uuid_of about.members.app)) c.tables.waiters
    ≡ find (λ (waiter : Waiter). is_some (get w.instances waiter.instance)) c.tables.waiters
first_named about notes slots g c w all =
    find_same (λ (waiter : Waiter). bytes_eq waiter.uuid (uuid_of about.members.app))
    (λ (waiter : Waiter). is_some (get w.instances waiter.instance)) c.tables.waiters
    (All-weaker (λ (waiter : Waiter). IsOfRealm about.members w.instances waiter.instance waiter.uuid)
    (λ (waiter : Waiter). bytes_eq waiter.uuid (uuid_of about.members.app)
    ≡ is_some (get w.instances waiter.instance))
    (λ waiter of. same_test about.members w.instances waiter all of) c.tables.waiters w.tied.waiters.of_app)

-- the kernel's first
awaited_by : (about : About) (notes : Notes) (slots : List ThreadSlot) (g : Group) (c : NewCall) (found : Option ℕ)
    → Within about notes slots g c → is_single about.members.app ≡ true
    → kept_begin.awaited_number c.tables about.members.app ≡ found
    → instance_with c.tables.waiters (uuid_of about.members.app) ≡ found
awaited_by about notes slots g c found w single is =
    sym (ap (λ (b : Bool). if b then instance_with c.tables.waiters (uuid_of about.members.app) else None) single) ∙ is

none_awaited : (about : About) (notes : Notes) (slots : List ThreadSlot) (g : Group) (c : NewCall)
    → Within about notes slots g c → kept_begin.awaited_number c.tables about.members.app ≡ None
    → (IsOne about.members.realm → g ≡ nobody_there g.key) → machine.awaited_number g ≡ None
none_awaited about notes slots g c w is yet =
    either_realm about.members.realm about.members.app w.shares
    (λ one. ap (λ (x : Group). machine.awaited_number x) (yet one))
    (λ single.
    ap (λ (o : Option GroupWaiter). option_map (λ (waiter : GroupWaiter). waiter.instance) o)
    (none_waits w.instances (λ (waiter : Waiter). is_some (get w.instances waiter.instance)) c.tables.waiters g.waiting
    w.tied.waiters.instances_of
    (sym (first_named about notes slots g c w (all_of about.members.realm about.members.app w.shares single))
    ∙ map_none (λ (waiter : Waiter). waiter.instance)
    (find (λ (waiter : Waiter). bytes_eq waiter.uuid (uuid_of about.members.app)) c.tables.waiters)
    (awaited_by about notes slots g c None w single is))))

own_awaited : (about : About) (notes : Notes) (slots : List ThreadSlot) (g : Group) (c : NewCall) (number : ℕ)
    → (w : Within about notes slots g c) → is_single about.members.app ≡ true
    → kept_begin.awaited_number c.tables about.members.app ≡ Some number
    → (own : ℕ) × (machine.awaited_number g ≡ Some own) × (get w.instances number ≡ Some own)
own_awaited about notes slots g c number w single is =
    let first = option_map_some (λ (waiter : Waiter). waiter.instance)
    (find (λ (waiter : Waiter). bytes_eq waiter.uuid (uuid_of about.members.app)) c.tables.waiters) number
    (awaited_by about notes slots g c (Some number) w single is) in
    let its = one_waits w.instances (λ (waiter : Waiter). is_some (get w.instances waiter.instance)) c.tables.waiters
    g.waiting first.0 w.tied.waiters.instances_of
    (sym (first_named about notes slots g c w (all_of about.members.realm about.members.app w.shares single)) ∙ first.1) in (
      its.own.instance,
      ap (λ (o : Option GroupWaiter). option_map (λ (waiter : GroupWaiter). waiter.instance) o) its.first,
      ap (λ (n : ℕ). get w.instances n) (sym first.2) ∙ its.named,
    )

-- ---- the job

made_params : (key : List ℕ) (program : Program) (instance : Instance) (login : Login) (context : ℕ)
    (params : CopiedParams) (behind : List EntryPoint)
    → params_of (job_with key (Some program) instance login context params (point.Create ∷ behind)) ≡ params
made_params key (OfImage image) instance login context params behind = refl
made_params key (OfRelation relation) instance login context params behind = refl

made_login : (key : List ℕ) (program : Program) (instance : Instance) (login : Login) (context : ℕ)
    (params : CopiedParams) (behind : List EntryPoint)
    → (job_with key (Some program) instance login context params (point.Create ∷ behind)).login ≡ login
made_login key (OfImage image) instance login context params behind = refl
made_login key (OfRelation relation) instance login context params behind = refl

-- the entry points of an open that creates its instance, where destroy is for where it fails
abbrev points_by : Application → Bool → List EntryPoint
points_by members opened =
    point.Create ∷ point.Open ∷ (if opened || keeps_alive members then [] else point.Destroy ∷ [])

-- the new instance on both sides
abbrev on_new : (about : About) (g : Group) (c : NewCall) (wanted : Opening) (copies : Copies) (numbers : Numbers)
    (number own_number : ℕ) → On
on_new about g c wanted copies numbers number own_number = record {
  number = number;
  own_number = own_number;
  kept = made_for (uuid_of about.members.app) c.slot;
  own = held_by g.entered (made about.members.app);
  job = (kept_begin.opens_new (beginner c) (opener wanted about.members.app copies) number numbers.next).job;
  own_job = job_on about.members.app (start_of_open g copies.params wanted.login) (made about.members.app)
      (point.Create ∷ point.Open ∷ machine.destroy_after about.members.app g.sessions own_number);
}

-- what is known of it, where they are tied by these numbers of instances
made_begins : (about : About) (notes : Notes) (slots : List ThreadSlot) (g : Group) (c : NewCall) (wanted : Opening)
    (copies : Copies) (numbers : Numbers) (number own_number : ℕ) (instances : NumberMap ℕ)
    → Within about notes slots g c → about.key ≡ c.boot.key → g.instance ≡ None → get instances number ≡ Some own_number
    → Tied about.members (names_of about notes instances) slots (record c.tables { next_instance = numbers.next })
    (record g { next_instance = numbers.own_next })
    → ((after_it : Group) → (IsOne about.members.realm → OpensRun after_it.calls) → AsRealm about.members.realm (notes.next_session + 1) instances after_it)
    → AreBegun about notes slots g c numbers (on_new about g c wanted copies numbers number own_number)
made_begins about notes slots g c wanted copies numbers number own_number instances w key none named tied as_realm = record {
  as_realm = as_realm;
  instances = instances;
  tied = tied;
  named = named;
  uuid = refl;
  alike = record {
    uuid = refl;
    dead = refl;
    holders = get-insert-same notes.numbering.in_slots c.slot notes.numbering.entered ∙ ap (λ (n : ℕ). Some n) w.tied.entered;
    memory = refl;
    objects = refl;
  };
  alone = nobody g own_number none;
  jobs =
      ap (λ (k : List ℕ). job_with k (Some (program_of about.members.app)) (made about.members.app) wanted.login 0 copies.params
      (points_by about.members.app (kept_opened number))) (key_is about notes slots g c w key)
      ∙ ap (λ (b : Bool). job_with g.key (Some (program_of about.members.app)) (made about.members.app) wanted.login 0 copies.params
      (points_by about.members.app b))
      (opened_same notes.sessions instances c.tables.sessions g.sessions number own_number w.sessions_rising
      tied.instance_names.apart named tied.sessions);
}
  where
    kept_opened : ℕ → Bool
    kept_opened at = kept_sessions.has_opened c.tables.sessions at

-- ---- the machine's step

made_step : (about : About) (notes : Notes) (slots : List ThreadSlot) (g : Group) (c : NewCall) (wanted : Opening)
    (params : CopiedParams) (awaited : Option ℕ) → Within about notes slots g c → Passes c wanted about.members.app
    → (IsOne about.members.realm → g ≡ nobody_there g.key) → g.instance ≡ None → machine.awaited_number g ≡ awaited
    → step about.most about.members.app g (event.Open (Copied params) wanted.login false (is_some c.area))
    ≡ Some (silent (open_begins g (opener_of c wanted)
    (option_map_or (opens_new about.members.app g (start_of_open g params wanted.login)) awaited
    (opens_new about.members.app (record g { next_instance = g.next_instance + 1 }) (start_of_open g params wanted.login)
    g.next_instance))))
made_step about notes slots g c wanted params awaited w passes yet none is =
    tested_step about.most about.members.app g (Copied params) (opener_of c wanted) false false false
    (dead_same about notes slots g c w yet ∙ passes.alive) (taken_same about notes slots g c w yet ∙ passes.free)
    ∙ ap (λ (o : Option (ℕ × Instance)). Some (silent (option_map_or
    (machine.opens_there about.members.app g params (opener_of c wanted)) o
    (open_begins g (opener_of c wanted) (opens_made about.members.app g (start_of_open g params wanted.login)))))) none
    ∙ ap (λ (o : Option ℕ). Some (silent (open_begins g (opener_of c wanted)
    (option_map_or (opens_new about.members.app g (start_of_open g params wanted.login)) o
    (opens_new about.members.app (record g { next_instance = g.next_instance + 1 }) (start_of_open g params wanted.login)
    g.next_instance))))) is

-- ---- with the number for which calls wait

abbrev awaited_taken : NewCall → Opening → Copies → ℕ → Application → Taken
awaited_taken c wanted copies number members =
    opening_taken c wanted members copies
    (kept_begin.opens_new (beginner c) (opener wanted members copies) number c.tables.next_instance)

abbrev awaited_job : NewCall → Opening → Copies → ℕ → Application → Job
awaited_job c wanted copies number members =
    (kept_begin.opens_new (beginner c) (opener wanted members copies) number c.tables.next_instance).job

awaited_comes : (about : About) (notes : Notes) (slots : List ThreadSlot) (g : Group) (c : NewCall) (wanted : Opening)
    (copies : Copies) (number : ℕ) (came : GroupEvent) → Within about notes slots g c → about.key ≡ c.boot.key
    → Passes c wanted about.members.app → shared_by c about.members.app ≡ None
    → kept_begin.awaited_number c.tables about.members.app ≡ Some number
    → open_event (awaited_taken c wanted copies number about.members.app).tables
    (awaited_taken c wanted copies number about.members.app).call (params_of (awaited_job c wanted copies number about.members.app))
    ≡ Some came → (IsOne about.members.realm → g ≡ nobody_there g.key)
    → GrowsAs about.members.realm c.tables.next_session notes.next_session
    → ComesIn about notes slots g c.slot (awaited_taken c wanted copies number about.members.app) came
awaited_comes about notes slots g c wanted copies number came w key passes shared awaited noted yet grows =
    let none = none_shared about notes slots g c w shared yet in
    let single : is_single about.members.app ≡ true =
    (if_some (is_single about.members.app) (instance_with c.tables.waiters (uuid_of about.members.app)) number awaited).0 in
    let its = own_awaited about notes slots g c number w single awaited in
    let numbers : Numbers = record { next = c.tables.next_instance; own_next = g.next_instance } in
    open_comes about notes slots g c wanted copies numbers (on_new about g c wanted copies numbers number its.0) came w
    (made_begins about notes slots g c wanted copies numbers number its.0 w.instances w key none its.2 w.tied
    (λ after_it runs. as_all about.members.realm (notes.next_session + 1) w.instances after_it
    (all_of about.members.realm about.members.app w.shares single)))
    grows
    (made_params c.boot.key (program_of about.members.app) (made about.members.app) wanted.login 0 copies.params
    (point.Open ∷ destroy_after about.members.app c.tables.sessions number))
    (made_step about notes slots g c wanted copies.params (Some its.0) w passes yet none its.1) noted

pub opens_awaited : (about : About) (notes : Notes) (slots : List ThreadSlot) (g : Group) (c : NewCall)
    (wanted : Opening) (of : Application) (copies : Copies) (number : ℕ) → Within about notes slots g c
    → about.key ≡ c.boot.key → Passes c wanted of → shared_by c of ≡ None
    → kept_begin.awaited_number c.tables of ≡ Some number
    → IfNoted about notes slots g c.slot (awaited_taken c wanted copies number of)
opens_awaited about notes slots g c wanted of copies number w key passes shared awaited came comes_as noted =
    let taken : Taken = awaited_taken c wanted copies number of in
    let parts = noted_runs about.members.realm about.members.app of notes taken.tables taken.call (awaited_job c wanted copies number of) came
    (reserved_for c.client wanted.login number) w.shares comes_as refl
    (get-insert-same c.tables.sessions c.tables.next_session (reserved_for c.client wanted.login number))
    (sym (made_login c.boot.key (program_of of) (made of) wanted.login 0 copies.params
    (point.Open ∷ destroy_after of c.tables.sessions number))) noted in
    let fresh = yet_nobody about.members.realm about.members.app notes taken.call w.instances g comes_as w.as_realm in
    subst (λ (a : Application). Passes c wanted a → shared_by c a ≡ None
    → kept_begin.awaited_number c.tables a ≡ Some number
    → open_event (awaited_taken c wanted copies number a).tables (awaited_taken c wanted copies number a).call
    (params_of (awaited_job c wanted copies number a)) ≡ Some came
    → ComesIn about notes slots g c.slot (awaited_taken c wanted copies number a) came)
    (same_app about notes slots g c wanted.uuid of w passes.of_boot parts.uuid)
    (λ its none is event. awaited_comes about notes slots g c wanted copies number came w key its none is event (λ one. (fresh one).0) parts.grows)
    passes shared awaited parts.event

-- ---- with the next number

abbrev next_begun : NewCall → Opening → Copies → Application → kept_begin.Begun
next_begun c wanted copies members =
    kept_begin.opens_new (beginner c) (opener wanted members copies) c.tables.next_instance (c.tables.next_instance + 1)

abbrev next_taken : NewCall → Opening → Copies → Application → Taken
next_taken c wanted copies members = opening_taken c wanted members copies (next_begun c wanted copies members)

next_comes : (about : About) (notes : Notes) (slots : List ThreadSlot) (g : Group) (c : NewCall) (wanted : Opening)
    (copies : Copies) (came : GroupEvent) → (w : Within about notes slots g c) → about.key ≡ c.boot.key
    → Passes c wanted about.members.app → shared_by c about.members.app ≡ None → kept_begin.awaited_number c.tables about.members.app ≡ None
    → open_event (next_taken c wanted copies about.members.app).tables (next_taken c wanted copies about.members.app).call
    (params_of (next_begun c wanted copies about.members.app).job) ≡ Some came
    → (IsOne about.members.realm → (g ≡ nobody_there g.key) × (w.instances ≡ []))
    → GrowsAs about.members.realm c.tables.next_session notes.next_session
    → ComesIn about notes slots g c.slot (next_taken c wanted copies about.members.app) came
next_comes about notes slots g c wanted copies came w key passes shared awaited noted fresh grows =
    let yet : IsOne about.members.realm → g ≡ nobody_there g.key = λ one. (fresh one).0 in
    let none = none_shared about notes slots g c w shared yet in
    let next : ℕ = c.tables.next_instance in
    let numbers : Numbers = record { next = c.tables.next_instance + 1; own_next = g.next_instance + 1 } in
    open_comes about notes slots g c wanted copies numbers (on_new about g c wanted copies numbers next g.next_instance)
    came w
    (made_begins about notes slots g c wanted copies numbers next g.next_instance
    (insert w.instances next g.next_instance) w key none (get-insert-same w.instances next g.next_instance)
    (instance_named about.members (names_of about notes w.instances) slots c.tables g
    (positive next w.numbers.instance_from_one) w.numbers w.rising none w.tied)
    (λ after_it runs. as_next about.members.realm notes.next_session w.instances after_it next g.next_instance
    (λ one. (fresh one).1) runs))
    grows
    (made_params c.boot.key (program_of about.members.app) (made about.members.app) wanted.login 0 copies.params
    (point.Open ∷ destroy_after about.members.app c.tables.sessions next))
    (made_step about notes slots g c wanted copies.params None w passes yet none
    (none_awaited about notes slots g c w awaited yet)) noted
  where
    positive : (n : ℕ) → 1 ≤ n → 0 < n
    positive n le = omega arith

pub opens_next : (about : About) (notes : Notes) (slots : List ThreadSlot) (g : Group) (c : NewCall) (wanted : Opening)
    (of : Application) (copies : Copies) → Within about notes slots g c → about.key ≡ c.boot.key → Passes c wanted of
    → shared_by c of ≡ None → kept_begin.awaited_number c.tables of ≡ None
    → IfNoted about notes slots g c.slot (next_taken c wanted copies of)
opens_next about notes slots g c wanted of copies w key passes shared awaited came comes_as noted =
    let taken : Taken = next_taken c wanted copies of in
    let parts = noted_runs about.members.realm about.members.app of notes taken.tables taken.call (next_begun c wanted copies of).job came
    (reserved_for c.client wanted.login c.tables.next_instance) w.shares comes_as refl
    (get-insert-same c.tables.sessions c.tables.next_session (reserved_for c.client wanted.login c.tables.next_instance))
    (sym (made_login c.boot.key (program_of of) (made of) wanted.login 0 copies.params
    (point.Open ∷ destroy_after of c.tables.sessions c.tables.next_instance))) noted in
    let fresh = yet_nobody about.members.realm about.members.app notes taken.call w.instances g comes_as w.as_realm in
    subst (λ (a : Application). Passes c wanted a → shared_by c a ≡ None → kept_begin.awaited_number c.tables a ≡ None
    → open_event (next_taken c wanted copies a).tables (next_taken c wanted copies a).call
    (params_of (next_begun c wanted copies a).job) ≡ Some came
    → ComesIn about notes slots g c.slot (next_taken c wanted copies a) came)
    (same_app about notes slots g c wanted.uuid of w passes.of_boot parts.uuid)
    (λ its none is event. next_comes about notes slots g c wanted copies came w key its none is event fresh parts.grows)
    passes shared awaited parts.event

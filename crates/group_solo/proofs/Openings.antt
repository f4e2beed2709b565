-- An open makes a session.
use Rattle.std.proofs.Common.{◌≡◌, ℕ, ◌+◌, ◌<◌, ◌^◌, Bool, true, false, List, ◌∷◌, Option, Some, None, refl, sym, ap, subst, ◌∙◌, arith}
use Rattle.std.specs.Prelude.{if◌then◌else◌, slice_get}
use Rattle.std.specs.List.{AllByRecursion}
use Rattle.std.specs.Option.{option_map, option_map_or}
use Rattle.base.specs.NumberMap.{get, insert}
use Rattle.group_model.specs.Group.{About, Group, GroupSession, Opener, Start, about_open, awaited_number, begins_on, destroy_after, fresh_call, made, open_begins, open_waits, opens, opens_kept, opens_made, opens_new, opens_there, start_of_open}
use Rattle.begin_call.specs.Points.{destroy_where, opening_points}
use Rattle.job_model.specs.declared.entry_point.EntryPoint.{EntryPoint}
use Rattle.job_model.specs.declared.entry_point.EntryPoint.TheVariants as point
use Rattle.kernel_model.specs.Application.{Application, uuid_of}
use Rattle.kernel_model.specs.Instances.{is_held}
use Rattle.kernel_model.specs.Kernel.{Instance, Waits}
use Rattle.own_model.proofs.Maps.{get-insert-same}
use Rattle.ta_params.specs.declared.copied_params.CopiedParams.{CopiedParams}
use Rattle.solo.specs.Standing.{instance_of}
use Rattle.solo.specs.declared.kept_instance.KeptInstance.{KeptInstance}
use Rattle.group_solo.proofs.Begins.{with_instance}
use Rattle.group_solo.specs.Beginning.{Beginner, begun, counted, with_waiter}
use Rattle.group_solo.specs.Calls.{IsGroupCall}
use Rattle.group_solo.specs.Found.{found_there}
use Rattle.group_solo.specs.Opening.{next_behind_new, number_of_new}
use Rattle.group_solo.specs.Standing.{IsBeside, IsCallAt, IsNumbered, StandsFor, app_in, session_of, sessions_of, without_calls}
use Rattle.group_solo.specs.declared.found.There.{There}
use Rattle.group_solo.specs.declared.group.GroupSolo.{GroupSolo}
use Rattle.group_solo.specs.declared.kept_call.KeptCall.{KeptCall}
use Rattle.group_solo.specs.declared.kept_session.KeptSession.{KeptSession}

-- the machine with one session more
abbrev pub with_one_more : Group → GroupSession → Group
with_one_more g session = record g { sessions = insert g.sessions g.next_session session; next_session = g.next_session + 1 }

pub session_added : (s new : GroupSolo) (g : Group) (session : KeptSession) → StandsFor s g →
    AllByRecursion (λ (entry : ℕ × GroupSession). entry.0 < g.next_session) g.sessions → g.next_session + 1 < 2 ^ 64 →
    new ≡ record s { sessions = new.sessions; next_session = new.next_session } →
    (AllByRecursion (λ (entry : ℕ × GroupSession). entry.0 < s.next_session) (sessions_of s.sessions.items) →
    sessions_of new.sessions.items ≡ insert (sessions_of s.sessions.items) s.next_session (session_of session)) →
    (s.next_session + 1 < 2 ^ 64 → new.next_session ≡ s.next_session + 1) → StandsFor new (with_one_more g (session_of session))
session_added s new g session stands given few stays added next = record {
  beside = ap (λ (base : Group). with_one_more base (session_of session)) stands.beside
      ∙ sym (ap without_calls stays
      ∙ ap (λ m. record (without_calls s) { sessions = m; next_session = new.next_session }) (added here)
      ∙ ap (λ (n : ℕ). record (without_calls s) { sessions = insert (sessions_of s.sessions.items) s.next_session (session_of session); next_session = n }) (next small));
  calls = λ number. subst (λ (n : GroupSolo). IsCallAt (slice_get n.calls.items number) (get g.calls number)) (sym stays) (stands.calls number);
}
  where
    here : AllByRecursion (λ (entry : ℕ × GroupSession). entry.0 < s.next_session) (sessions_of s.sessions.items)
    here = subst (λ (base : Group). AllByRecursion (λ (entry : ℕ × GroupSession). entry.0 < base.next_session) base.sessions) stands.beside given

    small : s.next_session + 1 < 2 ^ 64
    small = subst (λ (base : Group). base.next_session + 1 < 2 ^ 64) stands.beside few

-- the numbers don't run out
pub few_sessions : (g : Group) → IsNumbered g → g.next_session + 1 < 2 ^ 64
few_sessions g numbered =
    let small = numbered.few in
    let sessions = numbered.sessions in
    omega (arith, small, sessions)

pub few_instances : (g : Group) → IsNumbered g → g.next_instance + 1 < 2 ^ 64
few_instances g numbered =
    let small = numbered.few in
    let instances = numbered.instances in
    omega (arith, small, instances)

-- ---- one that waits

pub waits_so : (g : Group) (params : CopiedParams) (opener : Opener) (instance number : ℕ) (session : GroupSession) (about : About) → number ≡ g.entered →
    session ≡ record { login = opener.login; context = 0; opened = false; instance = instance } → about ≡ about_open g opener.area instance →
    with_waiter (with_one_more g session) (record { call = number; instance = instance }) (fresh_call about (Waits params)) ≡ open_waits g params opener instance
waits_so g params opener instance number session about next is at =
    ap (λ (n : ℕ). with_waiter (with_one_more g session) (record { call = n; instance = instance }) (fresh_call about (Waits params))) next
    ∙ ap (λ (one : GroupSession). with_waiter (with_one_more g one) (record { call = g.entered; instance = instance }) (fresh_call about (Waits params))) is
    ∙ ap (λ (a : About). with_waiter (with_one_more g (record { login = opener.login; context = 0; opened = false; instance = instance }))
    (record { call = g.entered; instance = instance }) (fresh_call a (Waits params))) at

-- what is known of the call, where the code stands for the machine
pub about_beside : (s : GroupSolo) (g : Group) (area : Bool) (instance : ℕ) (about : About) → IsBeside s g → about ≡ about_open (without_calls s) area instance →
    about ≡ about_open g area instance
about_beside s g area instance about beside is = is ∙ ap (λ (base : Group). about_open base area instance) (sym beside)

-- ---- one that begins

-- who begins
abbrev pub opening_beginner : ℕ → About → GroupSession → CopiedParams → ℕ × Instance → Beginner
opening_beginner number about session params there =
    record { number = number; call = fresh_call about (Waits params); session = session; params = params; there = there }

pub begins_so : (app : Application) (g : Group) (params : CopiedParams) (opener : Opener) (there : ℕ × Instance) (number : ℕ) (session : GroupSession) (about : About)
    (points kept : List EntryPoint) → number ≡ g.entered →
    session ≡ record { login = opener.login; context = 0; opened = false; instance = there.0 } → about ≡ about_open g opener.area there.0 → points ≡ kept →
    counted (begun app (with_one_more g session) (opening_beginner number about session params there) points)
    ≡ open_begins g opener (begins_on app g (start_of_open g params opener.login) there.0 there.1 kept)
begins_so app g params opener there number session about points kept next is at same =
    ap (λ (n : ℕ). counted (begun app (with_one_more g session) (opening_beginner n about session params there) points)) next
    ∙ ap (λ (one : GroupSession). counted (begun app (with_one_more g one) (opening_beginner g.entered about one params there) points)) is
    ∙ ap (λ (a : About). counted (begun app (with_one_more g (record { login = opener.login; context = 0; opened = false; instance = there.0 }))
    (opening_beginner g.entered a (record { login = opener.login; context = 0; opened = false; instance = there.0 }) params there) points)) at
    ∙ ap (λ (p : List EntryPoint). open_begins g opener (begins_on app g (start_of_open g params opener.login) there.0 there.1 p)) same

-- its entry points, on an instance that is there
pub kept_points : (s : GroupSolo) (g : Group) (instance : ℕ) (points : List EntryPoint) (unmakes : Bool) → IsBeside s g → points ≡ opening_points false unmakes →
    destroy_where unmakes ≡ destroy_after (app_in s) (sessions_of s.sessions.items) instance → points ≡ point.Open ∷ destroy_after (app_in s) g.sessions instance
kept_points s g instance points unmakes beside is destroys =
    is ∙ ap (λ (behind : List EntryPoint). point.Open ∷ behind)
    (destroys ∙ ap (λ (base : Group). destroy_after (app_in s) base.sessions instance) (sym beside))

-- its session is there then
pub added_there : (g : Group) (session : GroupSession) (number : ℕ) → number ≡ g.next_session → get (with_one_more g session).sessions number ≡ Some session
added_there g session number same =
    ap (λ (n : ℕ). get (with_one_more g session).sessions n) same ∙ get-insert-same g.sessions g.next_session session

-- ---- one that begins on a new instance

-- the machine with that
abbrev pub with_new : Application → Group → Group
with_new app g = record g { instance = Some (number_of_new g, made app); next_instance = next_behind_new g }

-- the code, once the new instance has its number and is there
pub new_placed : (s numbered placed : GroupSolo) (g : Group) (number : ℕ) (kept : KeptInstance) → StandsFor s g → g.next_instance + 1 < 2 ^ 64 →
    numbered ≡ record s { next_instance = numbered.next_instance } →
    (s.next_instance + 1 < 2 ^ 64 → numbered.next_instance ≡ next_behind_new (without_calls s)) → number ≡ number_of_new (without_calls s) →
    placed ≡ record numbered { instance = placed.instance } →
    (without_calls placed).instance ≡ Some (number, instance_of (uuid_of (app_in numbered)) kept) →
    instance_of (uuid_of (app_in s)) kept ≡ made (app_in s) → StandsFor placed (with_new (app_in s) g)
new_placed s numbered placed g number kept stands few counts next is stays there fresh = record {
  beside = with_instance numbered placed (record g { next_instance = next_behind_new g }) (number_of_new g, made (app_in s)) stays at counted;
  calls = λ n. subst (λ (p : GroupSolo). IsCallAt (slice_get p.calls.items n) (get g.calls n)) (sym stays)
      (subst (λ (p : GroupSolo). IsCallAt (slice_get p.calls.items n) (get g.calls n)) (sym counts) (stands.calls n));
}
  where
    small : s.next_instance + 1 < 2 ^ 64
    small = subst (λ (base : Group). base.next_instance + 1 < 2 ^ 64) stands.beside few

    counted : IsBeside numbered (record g { next_instance = next_behind_new g })
    counted =
        ap (λ (base : Group). record base { next_instance = next_behind_new base }) stands.beside
        ∙ sym (ap without_calls counts ∙ ap (λ (n : ℕ). record (without_calls s) { next_instance = n }) (next small))

    at : (without_calls placed).instance ≡ Some (number_of_new g, made (app_in s))
    at =
        there
        ∙ ap (λ (n : GroupSolo). Some (number, instance_of (uuid_of (app_in n)) kept)) counts
        ∙ ap (λ (i : Instance). Some (number, i)) fresh
        ∙ ap (λ (n : ℕ). Some (n, made (app_in s))) (is ∙ ap number_of_new (sym stands.beside))

-- a call that comes in, once its instance has its number
pub on_instance : (kept : KeptCall) (about : About) (params : CopiedParams) (instance : ℕ) → IsGroupCall kept (fresh_call about (Waits params)) →
    IsGroupCall (record kept { instance = instance }) (fresh_call (record about { instance = instance }) (Waits params))
on_instance kept about params instance is = record { alone = is.alone; session = is.session; instance = refl; room = is.room }

-- what it begins with
pub made_so : (app : Application) (g : Group) (start : Start) →
    opens_made app g start ≡ opens_new app (record g { next_instance = next_behind_new g }) start (number_of_new g)
made_so app g start = by (awaited_number g)
  where
    by : (o : Option ℕ) →
        option_map_or (opens_new app g start) o (opens_new app (record g { next_instance = g.next_instance + 1 }) start g.next_instance)
        ≡ opens_new app (record g { next_instance = option_map_or (λ (number : ℕ). g.next_instance) o (g.next_instance + 1) }) start
        (option_map_or (λ (number : ℕ). number) o g.next_instance)
    by None = refl
    by (Some number) = refl

-- its entry points
pub made_points : (s numbered : GroupSolo) (g : Group) (instance number : ℕ) (points : List EntryPoint) (unmakes : Bool) → IsBeside s g →
    numbered ≡ record s { next_instance = numbered.next_instance } → points ≡ opening_points true unmakes →
    destroy_where unmakes ≡ destroy_after (app_in numbered) (sessions_of numbered.sessions.items) instance → instance ≡ number →
    points ≡ point.Create ∷ point.Open ∷ destroy_after (app_in s) g.sessions number
made_points s numbered g instance number points unmakes beside counts is destroys same =
    is ∙ ap (λ (behind : List EntryPoint). point.Create ∷ point.Open ∷ behind)
    (destroys ∙ ap (λ (n : GroupSolo). destroy_after (app_in n) (sessions_of n.sessions.items) instance) counts
    ∙ ap (λ (base : Group). destroy_after (app_in s) base.sessions instance) (sym beside)
    ∙ ap (λ (n : ℕ). destroy_after (app_in s) g.sessions n) same)

-- ---- which of them it is

-- the code finds the instance that is there
pub record FindsThere (g : Group) (found : There) : Type 0 where
  pub there : ℕ × Instance
  pub instance : g.instance ≡ Some there
  pub same : found ≡ found_there there

pub some_instance : (s : GroupSolo) (g : Group) (found : There) → IsBeside s g → Some found ≡ option_map found_there (without_calls s).instance → FindsThere g found
some_instance s g found beside some = by g.instance refl
  where
    shared : Some found ≡ option_map found_there g.instance
    shared = some ∙ ap (λ (base : Group). option_map found_there base.instance) (sym beside)

    by : (o : Option (ℕ × Instance)) → g.instance ≡ o → FindsThere g found
    by None is = let no : Some found ≡ None = shared ∙ ap (option_map found_there) is in absurd cc
    by (Some there) is =
        let so : Some found ≡ Some (found_there there) = shared ∙ ap (option_map found_there) is in
        record { there = there; instance = is; same = cc }

pub none_instance : (s : GroupSolo) (g : Group) → IsBeside s g → None ≡ option_map found_there (without_calls s).instance → g.instance ≡ None
none_instance s g beside none = by g.instance refl
  where
    shared : None ≡ option_map found_there g.instance
    shared = none ∙ ap (λ (base : Group). option_map found_there base.instance) (sym beside)

    by : (o : Option (ℕ × Instance)) → g.instance ≡ o → g.instance ≡ None
    by None is = is
    by (Some there) is = let no : None ≡ Some (found_there there) = shared ∙ ap (option_map found_there) is in absurd cc

opens_by : (app : Application) (g : Group) (params : CopiedParams) (opener : Opener) (there : ℕ × Instance) (held : Bool) → g.instance ≡ Some there → held ≡ is_held there.1 →
    (if held then open_waits g params opener there.0 else open_begins g opener (opens_kept app g (start_of_open g params opener.login) there))
    ≡ opens app g params opener
opens_by app g params opener there held is same =
    ap (λ (b : Bool). if b then open_waits g params opener there.0 else open_begins g opener (opens_kept app g (start_of_open g params opener.login) there)) same
    ∙ ap (λ (o : Option (ℕ × Instance)). option_map_or (opens_there app g params opener) o (open_begins g opener (opens_made app g (start_of_open g params opener.login)))) (sym is)

pub opens_held : (app : Application) (g : Group) (params : CopiedParams) (opener : Opener) (found : There) → (its : FindsThere g found) → found.found.held ≡ true →
    open_waits g params opener found.number ≡ opens app g params opener
opens_held app g params opener found its held =
    ap (λ (f : There). open_waits g params opener f.number) its.same
    ∙ opens_by app g params opener its.there true its.instance (sym held ∙ ap (λ (f : There). f.found.held) its.same)

pub opens_free : (app : Application) (g : Group) (params : CopiedParams) (opener : Opener) (found : There) → (its : FindsThere g found) → found.found.held ≡ false →
    open_begins g opener (opens_kept app g (start_of_open g params opener.login) its.there) ≡ opens app g params opener
opens_free app g params opener found its free =
    opens_by app g params opener its.there false its.instance (sym free ∙ ap (λ (f : There). f.found.held) its.same)

pub opens_anew : (app : Application) (g : Group) (params : CopiedParams) (opener : Opener) → g.instance ≡ None →
    open_begins g opener (opens_made app g (start_of_open g params opener.login)) ≡ opens app g params opener
opens_anew app g params opener is =
    ap (λ (o : Option (ℕ × Instance)). option_map_or (opens_there app g params opener) o (open_begins g opener (opens_made app g (start_of_open g params opener.login)))) (sym is)

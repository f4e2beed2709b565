-- Calls that come in, in the machine of a session and in that of the group which has this one session.
use Rattle.std.proofs.Common.{◌≡◌, ℕ, Bool, true, false, List, [], ◌∷◌, ◌++◌, Option, Some, None, refl, ap, sym, ◌∙◌}
use Rattle.std.specs.Prelude.{◌&&◌, ◌==◌, map, not, if◌then◌else◌}
use Rattle.std.specs.Option.{option_map, option_and_then}
use Rattle.std.proofs.lemmas.List.{map-append}
use Rattle.base.specs.NumberMap.{NumberMap, get, insert, remove}
use Rattle.job_model.specs.declared.call_kind.CallKind.{CallKind}
use Rattle.job_model.specs.declared.call_kind.CallKind.TheVariants as kind
use Rattle.job_model.specs.declared.entry_point.EntryPoint.{EntryPoint}
use Rattle.job_model.specs.declared.entry_point.EntryPoint.TheVariants as point
use Rattle.job_model.specs.Job.{of_tee}
use Rattle.job_model.specs.Point.{no_params}
use Rattle.ta_params.specs.declared.copied_params.CopiedParams.{CopiedParams}
use Rattle.ta_params.specs.declared.login.Login.{Login}
use Rattle.kernel_model.specs.Application.{Application}
use Rattle.kernel_model.specs.Codes.{bad_parameters, busy, target_dead}
use Rattle.kernel_model.specs.Instances.{has_flag, held_by, is_held, is_multi_session, is_single, keeps_alive}
use Rattle.kernel_model.specs.Kernel.{Ends, Instance, Runs, Waits}
use Rattle.own_model.specs.Solo.{OwnCall, OwnSession, Solo, counted, points_of, start_with, unopened}
use Rattle.own_model.specs.Solo as own
use Rattle.own_model.specs.declared.own_event.OwnInput.{OwnInput}
use Rattle.own_model.specs.declared.own_event.OwnInput.TheVariants.{Copied, Faulty, Unread}
use Rattle.group_model.specs.Group.{Group, GroupCall, GroupSession, GroupWaiter, Home, Opener, Start, begins_on, closes}
use Rattle.group_model.specs.Group.{closing_points, comes_in, destroy_after, home, invokes, invokes_with, job_on, made}
use Rattle.group_model.specs.Group.{nobody_there, open_begins, opens, opens_tested, settles, start_at, start_of_open, waits}
use Rattle.group_model.specs.Group.{with_instance, works_or_waits}
use Rattle.group_model.specs.Embedding.{IsAtHome, call_as, instance_as, instance_of, opened_as, session_as, sessions_as, waiter_as}
use Rattle.group_model.proofs.EmbeddedParts.{if-mapped, insert_as}

-- ---- the application

-- one whose sessions share no instance isn't kept alive
pub not_kept : (app : Application) → is_single app ≡ false → keeps_alive app ≡ false
not_kept app alone = ap (λ test. test && has_flag app 4) alone

neither : (test : Bool) → (test && false) ≡ false
neither true = refl
neither false = refl

-- ---- the instance and the session

pub instance_there : (found : Option Instance)
    → option_and_then (λ (there : ℕ × Instance). if there.0 == 1 then Some there.1 else None) (instance_as found) ≡ found
instance_there None = refl
instance_there (Some instance) = refl

pub none_left : (session : Option OwnSession) → remove (sessions_as session) 0 ≡ []
none_left None = refl
none_left (Some session) = refl

-- its entry points to close are those of a session's: no other session is opened
pub closing_same : (app : Application) (z : Solo) → is_single app ≡ false
    → closing_points app (opened_as z) 0 1 ≡ points_of kind.Close
closing_same app z alone =
    ap (λ sessions. point.Close ∷ destroy_after app sessions 1) (none_left z.session)
    ∙ ap (λ kept. point.Close ∷ (if kept then [] else point.Destroy ∷ [])) (not_kept app alone)

-- the session with its instance, as the group has it
abbrev pub home_as : OwnSession × Instance → Home
home_as at = record { number = 0; session = session_as at.0; instance = at.1 }

pub own_home : (z : Solo) (at : IsAtHome z) → own.home z ≡ Some (at.session, at.instance)
own_home z at =
    ap (λ (session : Option OwnSession). option_and_then (λ (one : OwnSession).
    option_map (λ (instance : Instance). (one, instance)) z.instance) session) at.kept
    ∙ ap (λ (found : Option Instance). option_map (λ (instance : Instance). (at.session, instance)) found) at.has

-- what the group has at home: nothing unless the session is opened
abbrev pub home_if : Option OwnSession → Option Instance → Option Home
home_if None found = None
home_if (Some session) found = if session.opened then option_map (λ (instance : Instance). home_as (session, instance)) found else None

home_found : (session : Option OwnSession) (found : Option Instance)
    → option_and_then (λ (one : GroupSession).
    if one.opened
    then option_map (λ (instance : Instance). record { number = 0; session = one; instance = instance })
    (option_and_then (λ (there : ℕ × Instance). if there.0 == one.instance then Some there.1 else None) (instance_as found))
    else None) (get (sessions_as session) 0) ≡ home_if session found
home_found None found = refl
home_found (Some session) None = refl
home_found (Some session) (Some instance) = refl

pub home_same : (z : Solo) → home (opened_as z) 0 ≡ home_if z.session z.instance
home_same z = home_found z.session z.instance

pub group_home : (z : Solo) (at : IsAtHome z) → home (opened_as z) 0 ≡ Some (home_as (at.session, at.instance))
group_home z at =
    home_same z
    ∙ ap (λ (session : Option OwnSession). home_if session z.instance) at.kept
    ∙ ap (λ (test : Bool). if test
    then option_map (λ (instance : Instance). home_as (at.session, instance)) z.instance
    else None) at.opened
    ∙ ap (λ (found : Option Instance). option_map (λ (instance : Instance). home_as (at.session, instance)) found) at.has

-- the session is at home, or the group finds nothing there
pub by_home : {P : Type 0} (z : Solo) → (IsAtHome z → P) → (home (opened_as z) 0 ≡ None → P) → P
by_home {P} z here away = by_session z.session refl
  where
    by_instance : (session : OwnSession) → z.session ≡ Some session → session.opened ≡ true → (found : Option Instance)
        → z.instance ≡ found → P
    by_instance session kept opened None has =
        away (home_same z
        ∙ ap (λ (one : Option OwnSession). home_if one z.instance) kept
        ∙ ap (λ (test : Bool). if test
        then option_map (λ (instance : Instance). home_as (session, instance)) z.instance
        else None) opened
        ∙ ap (λ (o : Option Instance). option_map (λ (instance : Instance). home_as (session, instance)) o) has)
    by_instance session kept opened (Some instance) has =
        here (record { session = session; kept = kept; opened = opened; instance = instance; has = has })

    by_opened : (session : OwnSession) → z.session ≡ Some session → (test : Bool) → session.opened ≡ test → P
    by_opened session kept true opened = by_instance session kept opened z.instance refl
    by_opened session kept false opening =
        away (home_same z
        ∙ ap (λ (one : Option OwnSession). home_if one z.instance) kept
        ∙ ap (λ (test : Bool). if test
        then option_map (λ (instance : Instance). home_as (session, instance)) z.instance
        else None) opening)

    by_session : (session : Option OwnSession) → z.session ≡ session → P
    by_session None kept = away (home_same z ∙ ap (λ (one : Option OwnSession). home_if one z.instance) kept)
    by_session (Some session) kept = by_opened session kept session.opened refl

-- ---- a call that comes in

pub comes_as : (z : Solo) (call : OwnCall)
    → comes_in (opened_as z) (call_as call) ≡ opened_as (record (counted z) { calls = insert z.calls z.entered call })
comes_as z call =
    ap (λ (calls : NumberMap GroupCall). record (opened_as (counted z)) { calls = calls }) (insert_as z.calls z.entered call)

pub settles_as : (z : Solo) (area : Bool) (code : ℕ) → settles (opened_as z) area code ≡ opened_as (own.settles z area code)
settles_as z area code =
    comes_as z (own.fresh_call kind.Settled area (Ends (of_tee code) no_params false None))

-- behind those that wait already
line_as : (line : List ℕ) (number : ℕ) → map waiter_as line ++ waiter_as number ∷ [] ≡ map waiter_as (line ++ number ∷ [])
line_as line number = sym (map-append waiter_as line (number ∷ []))

-- of a kind that has the instance
abbrev on_instance : OwnCall → GroupCall
on_instance call = record (call_as call) { instance = 1 }

comes_there : (z : Solo) (call : OwnCall) → instance_of call.kind ≡ 1
    → comes_in (opened_as z) (on_instance call)
    ≡ opened_as (record (counted z) { calls = insert z.calls z.entered call })
comes_there z call there =
    ap (λ (number : ℕ). comes_in (opened_as z) (record (call_as call) { instance = number })) (sym there)
    ∙ comes_as z call

waits_as : (z : Solo) (call_kind : CallKind) (area : Bool) (params : CopiedParams) → instance_of call_kind ≡ 1
    → waits (opened_as z) (record { kind = call_kind; area = area; session = 0; instance = 1 }) params
    ≡ opened_as (own.waits z call_kind area params)
waits_as z call_kind area params there =
    let call : OwnCall = own.fresh_call call_kind area (Waits params) in
    ap (λ (line : List GroupWaiter). comes_in (record (opened_as z) { waiting = line }) (on_instance call))
    (line_as z.waiting z.entered)
    ∙ comes_there (record z { waiting = z.waiting ++ z.entered ∷ [] }) call there

-- the call begins with these entry points
begins_as : (app : Application) (z : Solo) (call_kind : CallKind) (area : Bool) (at : OwnSession × Instance)
    (params : CopiedParams) (points : List EntryPoint) → instance_of call_kind ≡ 1 → points ≡ points_of call_kind
    → comes_in (with_instance (opened_as z) 1 (held_by z.entered at.1))
    (on_instance (own.fresh_call call_kind area
    (Runs (job_on app (start_at (opened_as z) z.entered (session_as at.0) params false) at.1 points))))
    ≡ opened_as (own.begins app (counted z) z.entered (own.fresh_call call_kind area (Waits params)) (start_with z at params))
begins_as app z call_kind area at params points there same =
    let start : Start = start_at (opened_as z) z.entered (session_as at.0) params false in
    let held : Solo = record z { instance = Some (held_by z.entered at.1) } in
    ap (λ (all : List EntryPoint). comes_in (opened_as held)
    (on_instance (own.fresh_call call_kind area (Runs (job_on app start at.1 all))))) same
    ∙ comes_there held (own.fresh_call call_kind area (Runs (job_on app start at.1 (points_of call_kind)))) there

-- a call of the opened session waits where another holds the instance, and else begins with these entry points
works_as : (app : Application) (z : Solo) (call_kind : CallKind) (area : Bool) (at : OwnSession × Instance)
    (params : CopiedParams) (points : List EntryPoint) → instance_of call_kind ≡ 1 → points ≡ points_of call_kind
    → works_or_waits app (opened_as z) (record { kind = call_kind; area = area }) (home_as at) params points
    ≡ opened_as (own.works_or_waits app z call_kind area (start_with z at params))
works_as app z call_kind area at params points there same =
    if-mapped opened_as (is_held at.1) (own.waits z call_kind area params)
    (own.begins app (counted z) z.entered (own.fresh_call call_kind area (Waits params)) (start_with z at params)) _ _
    (waits_as z call_kind area params there)
    (begins_as app z call_kind area at params points there same)

invokes_with_as : (app : Application) (z : Solo) (func : ℕ) (input : OwnInput) (area : Bool) (at : OwnSession × Instance)
    → invokes_with app (opened_as z) func input area (home_as at)
    ≡ option_map opened_as (own.invokes_with app z func input area at)
invokes_with_as app z func (Copied params) area at =
    ap (λ (g : Group). Some g)
    (works_as app z (kind.Invoke func) area at params (point.Invoke func ∷ []) refl refl)
invokes_with_as app z func Faulty area at = ap (λ (g : Group). Some g) (settles_as z area bad_parameters)
invokes_with_as app z func Unread area at = refl

pub invokes_as : (app : Application) (z : Solo) (func : ℕ) (input : OwnInput) (area : Bool) (at : OwnSession × Instance)
    → invokes app (opened_as z) func input area (home_as at)
    ≡ option_map opened_as (own.invokes app z func input area at)
invokes_as app z func input area at =
    if-mapped (λ (o : Option Solo). option_map opened_as o) at.1.dead (Some (own.settles z area target_dead))
    (own.invokes_with app z func input area at) _ _
    (ap (λ (g : Group). Some g) (settles_as z area target_dead)) (invokes_with_as app z func input area at)

pub closes_as : (app : Application) (z : Solo) (area : Bool) (at : OwnSession × Instance) → is_single app ≡ false
    → closes app (opened_as z) area (home_as at) ≡ opened_as (own.closes app z area at)
closes_as app z area at alone =
    works_as app z kind.Close area at no_params (closing_points app (opened_as z) 0 1) refl (closing_same app z alone)

-- ---- the open

-- it finds nobody there, and makes session and instance
pub opens_as : (app : Application) (key : List ℕ) (params : CopiedParams) (login : Login) (area : Bool) → is_single app ≡ false
    → opens_tested app (nobody_there key) (Copied params) (record { login = login; area = area }) false
    ≡ Some (opened_as (own.opens app (unopened key) params login area))
opens_as app key params login area alone =
    let before : Group = nobody_there key in
    let opener : Opener = record { login = login; area = area } in
    ap (λ taken. if taken then Some (settles before area busy) else Some (opens app before params opener))
    (neither (not (is_multi_session app)))
    ∙ ap (λ kept. Some (open_begins before opener
    (begins_on app (record before { next_instance = 2 }) (start_of_open before params login) 1 (made app)
    (point.Create ∷ point.Open ∷ (if kept then [] else point.Destroy ∷ []))))) (not_kept app alone)

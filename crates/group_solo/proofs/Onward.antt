-- A call that has waited, as plain code that is tested again.
use Rattle.std.proofs.Common.{◌⊎◌, inl, inr, ◌≡◌, ℕ, Bool, true, false, not, List, ◌∷◌, Option, Some, None, refl, sym, ap, subst, ◌∙◌}
use Rattle.std.specs.Prelude.{◌&&◌, if◌then◌else◌}
use Rattle.std.specs.Option.{option_map, option_map_or}
use Rattle.base.specs.NumberMap.{get, remove}
use Rattle.begin_call.specs.Points.{destroy_where, opening_points}
use Rattle.group_model.specs.Group.{Group, GroupCall, GroupSession, Waiting, begins_again, begins_on, closing_points, comes_back_in, destroy_after, gives_up, goes_on, instance_at, made, opens_again, retests, start_again, tested_again, waits_on, with_call, without_waiter}
use Rattle.job_model.specs.declared.call_kind.CallKind.{CallKind}
use Rattle.job_model.specs.declared.call_kind.CallKind.TheVariants as kind
use Rattle.job_model.specs.declared.entry_point.EntryPoint.{EntryPoint}
use Rattle.job_model.specs.declared.entry_point.EntryPoint.TheVariants as point
use Rattle.kernel_model.specs.Application.{Application, uuid_of}
use Rattle.kernel_model.specs.Codes.{bad_parameters, out_of_memory, target_dead}
use Rattle.kernel_model.specs.Instances.{is_held}
use Rattle.kernel_model.specs.Kernel.{Asks, CallPhase, Ends, Instance, Runs, Waits}
use Rattle.kernel_model.specs.Resume.{is_close}
use Rattle.kernel_state.specs.Calls.{IsInPhase}
use Rattle.own_model.specs.Solo.{is_no_buffer}
use Rattle.own_model.specs.declared.own_event.BackInput.{BackInput}
use Rattle.rpc_cont.specs.declared.phase.Phase.TheVariants as phase
use Rattle.solo.proofs.Stepped.{some_map}
use Rattle.solo.specs.Standing.{instance_of}
use Rattle.solo.specs.declared.kept_instance.KeptInstance.{KeptInstance}
use Rattle.group_solo.proofs.Homes.{is_there}
use Rattle.group_solo.proofs.Openings.{kept_points}
use Rattle.group_solo.specs.Beginning.{Beginner, begun}
use Rattle.group_solo.specs.Calls.{IsGroupCall}
use Rattle.group_solo.specs.Found.{found_at}
use Rattle.group_solo.specs.Opening.{IsSpare}
use Rattle.group_solo.specs.Standing.{ComesTo, IsBeside, app_in, session_of, sessions_of, without_calls}
use Rattle.group_solo.specs.declared.found.Found.{Found}
use Rattle.group_solo.specs.declared.group.GroupSolo.{GroupSolo}
use Rattle.group_solo.specs.declared.kept_call.KeptCall.{KeptCall}
use Rattle.group_solo.specs.declared.kept_session.KeptSession.{KeptSession}

-- the same comes of it
pub comes_same : (s : GroupSolo) (call : KeptCall) (number : ℕ) (g first second : Group) → second ≡ first → ComesTo s call number g first →
    ComesTo s call number g second
comes_same s call number g first second same comes = subst (ComesTo s call number g) (sym same) comes

-- ---- it waits on

pub waits_without : (g : Group) (w : Waiting) (input : BackInput) → w.input ≡ input → is_no_buffer input ≡ true → waits_on g w ≡ gives_up g w out_of_memory
waits_without g w input same is =
    ap (λ (b : Bool). if b then gives_up g w out_of_memory else with_call g w.number w.call) (ap is_no_buffer same ∙ is)

pub waits_still : (g : Group) (w : Waiting) (number : ℕ) (input : BackInput) → w.number ≡ number → w.input ≡ input → is_no_buffer input ≡ false →
    waits_on g w ≡ with_call g number w.call
waits_still g w number input numbers same is =
    ap (λ (b : Bool). if b then gives_up g w out_of_memory else with_call g w.number w.call) (ap is_no_buffer same ∙ is)
    ∙ ap (λ (n : ℕ). with_call g n w.call) numbers

-- ---- it begins

-- it makes no difference whether it leaves the line before it begins
pub gone_on : (now app : Application) (new : GroupSolo) (call : KeptCall) (g : Group) (b : Beginner) (number : ℕ) (points : List EntryPoint) → now ≡ app →
    ComesTo new call number (without_waiter g number) (begun now (without_waiter g number) b points) →
    ComesTo new call number g (without_waiter (begun app g b points) number)
gone_on now app new call g b number points same comes =
    subst (λ (a : Application). ComesTo new call number g (without_waiter (begun a g b points) number)) same
    (record { beside = comes.beside; call = comes.call; is = comes.is; calls = comes.calls })

-- on this instance, in its session
abbrev pub beginner : Waiting → GroupSession → Instance → Beginner
beginner w session instance =
    record { number = w.number; call = w.call; session = session; params = w.params; there = (w.call.instance, instance) }

abbrev pub goes_on_at : Application → Group → Waiting → GroupSession → Instance → List EntryPoint → Group
goes_on_at app g w session instance points = goes_on w (begins_on app g (start_again g w session) w.call.instance instance points)

-- whatever instance the machine had before
pub gone_at : (now app : Application) (new : GroupSolo) (call : KeptCall) (g : Group) (found : Option (ℕ × Instance)) (w : Waiting) (session : GroupSession) (instance : Instance)
    (number : ℕ) (points own : List EntryPoint) → now ≡ app → w.number ≡ number → points ≡ own →
    ComesTo new call number (record g { instance = found })
    (without_waiter (begun now (record g { instance = found }) (beginner w session instance) points) number) →
    ComesTo new call number g (goes_on_at app g w session instance own)
gone_at now app new call g found w session instance number points own apps numbers same comes =
    subst (λ (a : Application). ComesTo new call number g (goes_on_at a g w session instance own)) apps
    (subst (λ (p : List EntryPoint). ComesTo new call number g (goes_on_at now g w session instance p)) same
    (subst (λ (n : ℕ). ComesTo new call number g (without_waiter (begun now g (beginner w session instance) points) n)) (sym numbers)
    (record { beside = comes.beside; call = comes.call; is = comes.is; calls = comes.calls })))

-- ---- an open whose instance is gone

-- what it has spare is as it was told
spare_as : (app : Application) (room own : Option Bool) (enough : Bool) (spare found : Option KeptInstance) → IsSpare app room spare → room ≡ own → own ≡ Some enough →
    spare ≡ found → IsSpare app (Some enough) found
spare_as app room own enough spare found is same told here =
    subst (IsSpare app (Some enough)) here (subst (λ (o : Option Bool). IsSpare app o spare) (same ∙ told) is)

pub without_room : (app : Application) (g : Group) (w : Waiting) (session : GroupSession) (enough : Bool) (room : Option Bool) (spare : Option KeptInstance) →
    IsSpare app room spare → room ≡ w.call.room → w.call.room ≡ Some enough → spare ≡ None → opens_again app g w session enough ≡ gives_up g w out_of_memory
without_room app g w session enough room spare is same told none = by enough (spare_as app room w.call.room enough spare None is same told none)
  where
    by : (b : Bool) → IsSpare app (Some b) None → opens_again app g w session b ≡ gives_up g w out_of_memory
    by false fits = refl
    by true fits = absurd fits

pub with_room : (app : Application) (g : Group) (w : Waiting) (session : GroupSession) (enough : Bool) (room : Option Bool) (spare : Option KeptInstance) (kept : KeptInstance) →
    IsSpare app room spare → room ≡ w.call.room → w.call.room ≡ Some enough → spare ≡ Some kept →
    opens_again app g w session enough ≡ goes_on_at app g w session (made app) (point.Create ∷ point.Open ∷ destroy_after app g.sessions w.call.instance)
with_room app g w session enough room spare kept is same told some = by enough (spare_as app room w.call.room enough spare (Some kept) is same told some)
  where
    by : (b : Bool) → IsSpare app (Some b) (Some kept) →
        opens_again app g w session b ≡ goes_on_at app g w session (made app) (point.Create ∷ point.Open ∷ destroy_after app g.sessions w.call.instance)
    by true fits = refl
    by false fits = absurd fits

pub spare_made : (app : Application) (room : Option Bool) (spare : Option KeptInstance) (kept : KeptInstance) → IsSpare app room spare → spare ≡ Some kept →
    instance_of (uuid_of app) kept ≡ made app
spare_made app room spare kept is some = by room (subst (IsSpare app room) some is)
  where
    by : (o : Option Bool) → IsSpare app o (Some kept) → instance_of (uuid_of app) kept ≡ made app
    by (Some true) fits = fits
    by (Some false) fits = absurd fits
    by None fits = absurd fits

-- the machine with the instance that is placed
pub placed : (s new : GroupSolo) (g : Group) (number own : ℕ) (kept : KeptInstance) → IsBeside s g → number ≡ own →
    new ≡ record s { instance = new.instance } →
    (without_calls new).instance ≡ Some (number, instance_of (uuid_of (app_in s)) kept) → instance_of (uuid_of (app_in s)) kept ≡ made (app_in s) →
    IsBeside new (record g { instance = Some (own, made (app_in s)) })
placed s new g number own kept beside numbers stays is makes =
    ap (λ (base : Group). record base { instance = Some (own, made (app_in s)) }) beside
    ∙ ap (λ (found : Option (ℕ × Instance)). record (without_calls s) { instance = found })
    (sym (is ∙ ap (λ (n : ℕ). Some (n, instance_of (uuid_of (app_in s)) kept)) numbers ∙ ap (λ (i : Instance). Some (own, i)) makes))
    ∙ sym (subst (λ (n : GroupSolo). without_calls n ≡ record (without_calls s) { instance = (without_calls n).instance }) (sym stays) refl)

-- its entry points there
pub new_points : (s : GroupSolo) (g : Group) (number own : ℕ) (points : List EntryPoint) (unmakes : Bool) → IsBeside s g → number ≡ own → points ≡ opening_points true unmakes →
    destroy_where unmakes ≡ destroy_after (app_in s) (sessions_of s.sessions.items) number →
    points ≡ point.Create ∷ point.Open ∷ destroy_after (app_in s) g.sessions own
new_points s g number own points unmakes beside same is destroys =
    is ∙ ap (λ (behind : List EntryPoint). point.Create ∷ point.Open ∷ behind)
    (destroys ∙ ap (λ (n : ℕ). destroy_after (app_in s) (sessions_of s.sessions.items) n) same
    ∙ ap (λ (base : Group). destroy_after (app_in s) base.sessions own) (sym beside))

-- ---- it begins by its kind

-- what the code finds at its instance
pub found_here : (s : GroupSolo) (g : Group) (call : KeptCall) (own : GroupCall) (found : Option Found) → IsBeside s g → IsGroupCall call own →
    found ≡ option_map found_at (instance_at (without_calls s) call.instance) → found ≡ option_map found_at (instance_at g own.instance)
found_here s g call own found beside is says =
    says ∙ ap (λ (n : ℕ). option_map found_at (instance_at (without_calls s) n)) is.instance
    ∙ ap (λ (base : Group). option_map found_at (instance_at base own.instance)) (sym beside)

pub none_here : (g : Group) (own : GroupCall) (found : Option Found) → found ≡ option_map found_at (instance_at g own.instance) → found ≡ None →
    instance_at g own.instance ≡ None
none_here g own found says none = by (instance_at g own.instance) (sym says ∙ none)
  where
    by : (o : Option Instance) → option_map found_at o ≡ None → o ≡ None
    by None e = refl
    by (Some instance) e = absurd cc

pub some_here : (g : Group) (own : GroupCall) (found : Option Found) (at : Found) → found ≡ option_map found_at (instance_at g own.instance) → found ≡ Some at →
    (instance : Instance) × ((instance_at g own.instance ≡ Some instance) × (found_at instance ≡ at))
some_here g own found at says some = some_map found_at (instance_at g own.instance) at (sym says ∙ some)

-- what it does, where the code finds its instance so
pub by_found : (app : Application) (g next : Group) (w : Waiting) (session : GroupSession) (found : Option Instance) → instance_at g w.call.instance ≡ found →
    begins_again app g w session w.call.kind (instance_at g w.call.instance) ≡ Some next → begins_again app g w session w.call.kind found ≡ Some next
by_found app g next w session found is e = ap (λ (o : Option Instance). begins_again app g w session w.call.kind o) (sym is) ∙ e

-- and of its kind
pub by_kind : (app : Application) (g next : Group) (w : Waiting) (session : GroupSession) (code_kind call_kind : CallKind) (found : Option Instance) →
    code_kind ≡ w.call.kind → code_kind ≡ call_kind → begins_again app g w session w.call.kind found ≡ Some next →
    begins_again app g w session call_kind found ≡ Some next
by_kind app g next w session code_kind call_kind found same is e = ap (λ (k : CallKind). begins_again app g w session k found) (sym is ∙ same) ∙ e

pub some_same : (first second : Group) → Some first ≡ Some second → second ≡ first
some_same first second e = cc

-- no open
abbrev IsNoOpen : CallKind → Type 0
IsNoOpen call_kind = ((func : ℕ) × (call_kind ≡ kind.Invoke func)) ⊎ ((call_kind ≡ kind.Close) ⊎ (call_kind ≡ kind.Settled))

pub lost_anew : (app : Application) (g next : Group) (w : Waiting) (session : GroupSession) (code_kind : CallKind) → code_kind ≡ w.call.kind → IsNoOpen code_kind →
    begins_again app g w session w.call.kind None ≡ Some next → next ≡ gives_up g w bad_parameters
lost_anew app g next w session code_kind same (inl invoke) e =
    some_same (gives_up g w bad_parameters) next (by_kind app g next w session code_kind (kind.Invoke invoke.0) None same invoke.1 e)
lost_anew app g next w session code_kind same (inr (inl close)) e =
    some_same (gives_up g w bad_parameters) next (by_kind app g next w session code_kind kind.Close None same close e)
lost_anew app g next w session code_kind same (inr (inr settled)) e =
    some_same (gives_up g w bad_parameters) next (by_kind app g next w session code_kind kind.Settled None same settled e)

-- on the instance that is there
pub gone_there : (now app : Application) (new : GroupSolo) (call : KeptCall) (g : Group) (w : Waiting) (session : GroupSession) (instance : Instance) (number : ℕ)
    (points own : List EntryPoint) → instance_at g w.call.instance ≡ Some instance → now ≡ app → w.number ≡ number → points ≡ own →
    (g.instance ≡ Some (w.call.instance, instance) →
    ComesTo new call number g (without_waiter (begun now g (beginner w session instance) points) number)) →
    ComesTo new call number g (goes_on_at app g w session instance own)
gone_there now app new call g w session instance number points own there apps numbers same comes =
    gone_at now app new call g g.instance w session instance number points own apps numbers same (comes (is_there g w.call.instance instance there))

-- the entry points of an open there
pub kept_at : (s : GroupSolo) (g : Group) (call : KeptCall) (own : GroupCall) (points : List EntryPoint) (unmakes : Bool) → IsBeside s g → IsGroupCall call own →
    points ≡ opening_points false unmakes → destroy_where unmakes ≡ destroy_after (app_in s) (sessions_of s.sessions.items) call.instance →
    points ≡ point.Open ∷ destroy_after (app_in s) g.sessions own.instance
kept_at s g call own points unmakes beside is same destroys =
    kept_points s g call.instance points unmakes beside same destroys
    ∙ ap (λ (n : ℕ). point.Open ∷ destroy_after (app_in s) g.sessions n) is.instance

-- those of a close
pub closing_at : (s : GroupSolo) (g : Group) (call : KeptCall) (own : GroupCall) (points : List EntryPoint) (unmakes : Bool) → IsBeside s g → IsGroupCall call own →
    points ≡ point.Close ∷ destroy_where unmakes → destroy_where unmakes ≡ destroy_after (app_in s) (remove (sessions_of s.sessions.items) call.session) call.instance →
    points ≡ closing_points (app_in s) g own.session own.instance
closing_at s g call own points unmakes beside is same destroys =
    same ∙ ap (λ (behind : List EntryPoint). point.Close ∷ behind)
    (destroys
    ∙ ap (λ (base : Group). destroy_after (app_in s) (remove base.sessions call.session) call.instance) (sym beside)
    ∙ ap (λ (n : ℕ). destroy_after (app_in s) (remove g.sessions n) call.instance) is.session
    ∙ ap (λ (n : ℕ). destroy_after (app_in s) (remove g.sessions own.session) n) is.instance)

-- ---- it is tested again

pub tested_none : (app : Application) (g : Group) (w : Waiting) → get g.sessions w.call.session ≡ None → retests app g w ≡ Some (gives_up g w bad_parameters)
tested_none app g w none =
    ap (λ (o : Option GroupSession). option_map_or (λ (session : GroupSession). tested_again app g w session (instance_at g w.call.instance)) o
    (Some (gives_up g w bad_parameters))) none

tested_some : (app : Application) (g : Group) (w : Waiting) (session : GroupSession) → get g.sessions w.call.session ≡ Some session →
    retests app g w ≡ tested_again app g w session (instance_at g w.call.instance)
tested_some app g w session some =
    ap (λ (o : Option GroupSession). option_map_or (λ (session : GroupSession). tested_again app g w session (instance_at g w.call.instance)) o
    (Some (gives_up g w bad_parameters))) some

-- it is dead where the code finds so
pub dead_here : (g : Group) (own : GroupCall) (found : Option Found) (call_kind : CallKind) (lost : Bool) → found ≡ option_map found_at (instance_at g own.instance) →
    call_kind ≡ own.kind → lost ≡ (option_map_or (λ (f : Found). f.dead) found false && not (is_close call_kind)) →
    (option_map_or (λ (i : Instance). i.dead) (instance_at g own.instance) false && not (is_close own.kind)) ≡ lost
dead_here g own found call_kind lost says kinds is =
    sym (is
    ∙ ap (λ (o : Option Found). option_map_or (λ (f : Found). f.dead) o false && not (is_close call_kind)) says
    ∙ ap (λ (b : Bool). b && not (is_close call_kind)) (by (instance_at g own.instance))
    ∙ ap (λ (k : CallKind). option_map_or (λ (i : Instance). i.dead) (instance_at g own.instance) false && not (is_close k)) kinds)
  where
    by : (o : Option Instance) → option_map_or (λ (f : Found). f.dead) (option_map found_at o) false ≡ option_map_or (λ (i : Instance). i.dead) o false
    by None = refl
    by (Some instance) = refl

-- and held
pub held_here : (g : Group) (own : GroupCall) (found : Option Found) (held : Bool) → found ≡ option_map found_at (instance_at g own.instance) →
    held ≡ option_map_or (λ (f : Found). f.held) found false → option_map_or is_held (instance_at g own.instance) false ≡ held
held_here g own found held says is =
    sym (is ∙ ap (λ (o : Option Found). option_map_or (λ (f : Found). f.held) o false) says ∙ by (instance_at g own.instance))
  where
    by : (o : Option Instance) → option_map_or (λ (f : Found). f.held) (option_map found_at o) false ≡ option_map_or is_held o false
    by None = refl
    by (Some instance) = refl

-- its session is there where the code finds it
own_here : (s : GroupSolo) (g : Group) (call : KeptCall) (own : GroupCall) (found : Option GroupSession) → IsBeside s g → IsGroupCall call own →
    found ≡ get (sessions_of s.sessions.items) call.session → get g.sessions own.session ≡ found
own_here s g call own found beside is says =
    sym (says ∙ ap (λ (n : ℕ). get (sessions_of s.sessions.items) n) is.session ∙ ap (λ (base : Group). get base.sessions own.session) (sym beside))

pub own_none : (s : GroupSolo) (g : Group) (call : KeptCall) (own : GroupCall) → IsBeside s g → IsGroupCall call own →
    None ≡ get (sessions_of s.sessions.items) call.session → get g.sessions own.session ≡ None
own_none s g call own beside is says = own_here s g call own None beside is says

pub own_session : (s : GroupSolo) (g : Group) (call : KeptCall) (own : GroupCall) (session : KeptSession) → IsBeside s g → IsGroupCall call own →
    Some (session_of session) ≡ get (sessions_of s.sessions.items) call.session → get g.sessions own.session ≡ Some (session_of session)
own_session s g call own session beside is says = own_here s g call own (Some (session_of session)) beside is says

-- by these two tests
abbrev pub tested : (dead held : Bool) → Application → Group → Waiting → GroupSession → Option Instance → Option Group
tested dead held app g w session found =
    if dead then Some (gives_up g w target_dead) else if held then Some (waits_on g w) else begins_again app g w session w.call.kind found

pub tested_so : (app : Application) (g : Group) (w : Waiting) (session : GroupSession) (dead held : Bool) → get g.sessions w.call.session ≡ Some session →
    (option_map_or (λ (i : Instance). i.dead) (instance_at g w.call.instance) false && not (is_close w.call.kind)) ≡ dead →
    option_map_or is_held (instance_at g w.call.instance) false ≡ held →
    retests app g w ≡ tested dead held app g w session (instance_at g w.call.instance)
tested_so app g w session dead held some lost holds =
    tested_some app g w session some
    ∙ ap (λ (b : Bool). tested b (option_map_or is_held (instance_at g w.call.instance) false) app g w session (instance_at g w.call.instance)) lost
    ∙ ap (λ (b : Bool). tested dead b app g w session (instance_at g w.call.instance)) holds

-- ---- by its phase

retested_in : (app : Application) (now : GroupSolo) (old new : KeptCall) (g next : Group) (number : ℕ) (call : GroupCall) (input : BackInput) (at : CallPhase) →
    call.phase ≡ at → old.cont.phase ≡ phase.Waits → IsInPhase old.cont at → comes_back_in app g number call input at ≡ Some next →
    ((w : Waiting) → IsGroupCall old w.call → w.call.phase ≡ Waits w.params → w.number ≡ number → w.input ≡ input →
    retests app g w ≡ Some next → ComesTo now new number g next) → IsGroupCall old call → ComesTo now new number g next
retested_in app now old new g next number call input (Runs job) same waits at e tested is = let runs = at.1.phase in absurd cc
retested_in app now old new g next number call input (Asks job wanted payload) same waits at e tested is = let asks = at.0 in absurd cc
retested_in app now old new g next number call input (Ends result params told wakes) same waits at e tested is = let ends = at.phase in absurd cc
retested_in app now old new g next number call input (Waits params) same waits at e tested is =
    tested (record { number = number; call = call; params = params; input = input }) is same refl refl e

-- a call that waits comes back so
pub retested : (app : Application) (now : GroupSolo) (old new : KeptCall) (g next : Group) (number : ℕ) (call : GroupCall) (input : BackInput) →
    old.cont.phase ≡ phase.Waits → comes_back_in app g number call input call.phase ≡ Some next →
    ((w : Waiting) → IsGroupCall old w.call → w.call.phase ≡ Waits w.params → w.number ≡ number → w.input ≡ input →
    retests app g w ≡ Some next → ComesTo now new number g next) → IsGroupCall old call → ComesTo now new number g next
retested app now old new g next number call input waits e tested is =
    retested_in app now old new g next number call input call.phase refl waits is.alone.phase e tested is

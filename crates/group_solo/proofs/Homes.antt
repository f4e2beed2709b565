-- An opened session with its instance, as a call that comes in finds it.
use Rattle.std.proofs.Common.{◌≡◌, ℕ, ◌==◌, Bool, true, false, List, [], ◌∷◌, Option, Some, None, refl, sym, ap, subst, ◌∙◌, arith}
use Rattle.std.specs.Prelude.{if◌then◌else◌}
use Rattle.std.specs.Option.{option_and_then, option_map, option_map_or}
use Rattle.std.proofs.lemmas.Bool.Decides.{nat_tests}
use Rattle.base.specs.NumberMap.{get, remove}
use Rattle.begin_call.specs.Points.{destroy_where}
use Rattle.group_model.specs.Group.{About, Coming, Group, GroupSession, Home, about_home, closing_points, destroy_after, fresh_call, home, home_of, instance_at, invokes, invokes_with, settles, waits, works_or_waits}
use Rattle.job_model.specs.declared.call_kind.CallKind.TheVariants as kind
use Rattle.job_model.specs.declared.entry_point.EntryPoint.{EntryPoint}
use Rattle.job_model.specs.declared.entry_point.EntryPoint.TheVariants as point
use Rattle.kernel_model.specs.Application.{Application}
use Rattle.kernel_model.specs.Codes.{bad_parameters, target_dead}
use Rattle.kernel_model.specs.Instances.{is_held}
use Rattle.kernel_model.specs.Kernel.{Instance, Waits}
use Rattle.own_model.specs.declared.own_event.OwnInput.{OwnInput}
use Rattle.own_model.specs.declared.own_event.OwnInput.TheVariants as came
use Rattle.solo.proofs.Stepped.{some_found, some_map}
use Rattle.group_solo.specs.Beginning.{Beginner, begun, counted}
use Rattle.group_solo.specs.Found.{found_home}
use Rattle.group_solo.specs.Standing.{IsBeside, app_in, sessions_of, without_calls}
use Rattle.group_solo.specs.declared.found.Home as code
use Rattle.group_solo.specs.declared.group.GroupSolo.{GroupSolo}
use Rattle.ta_params.specs.declared.copied_params.CopiedParams.{CopiedParams}

-- ---- what is at home

-- the instance of a number is the one that is there
pub is_there : (g : Group) (number : ℕ) (instance : Instance) → instance_at g number ≡ Some instance → g.instance ≡ Some (number, instance)
is_there g number instance e = by g.instance refl e
  where
    same_number : (a b : ℕ) → (a == b) ≡ true → a ≡ b
    same_number a b e = grind (arith, nat_tests)

    by_test : (there : ℕ × Instance) (b : Bool) → (there.0 == number) ≡ b → (if b then Some there.1 else None) ≡ Some instance →
        Some there ≡ Some (number, instance)
    by_test there false e is = absurd cc
    by_test there true e is =
        let same : there.1 ≡ instance = cc in
        ap (λ (n : ℕ). Some (n, there.1)) (same_number there.0 number e) ∙ ap (λ (i : Instance). Some (number, i)) same

    by : (o : Option (ℕ × Instance)) → g.instance ≡ o →
        option_and_then (λ (there : ℕ × Instance). if there.0 == number then Some there.1 else None) o ≡ Some instance →
        g.instance ≡ Some (number, instance)
    by None is e = absurd cc
    by (Some there) is e = is ∙ by_test there (there.0 == number) refl e

-- what a call of the session of this number finds there
pub record IsHome (g : Group) (number : ℕ) (at : Home) : Type 0 where
  pub number_is : at.number ≡ number
  pub session : get g.sessions number ≡ Some at.session
  pub there : g.instance ≡ Some (at.session.instance, at.instance)

by_opened : (g : Group) (number : ℕ) (session : GroupSession) (at : Home) (b : Bool) → get g.sessions number ≡ Some session →
    (if b then home_of g number session else None) ≡ Some at → IsHome g number at
by_opened g number session at false is e = absurd cc
by_opened g number session at true is e =
    let found = some_map (λ (instance : Instance). record { number = number; session = session; instance = instance }) (instance_at g session.instance) at e in
    subst (IsHome g number) found.1.1 (record { number_is = refl; session = is; there = is_there g session.instance found.0 found.1.0 })

pub at_home : (g : Group) (number : ℕ) (at : Home) → home g number ≡ Some at → IsHome g number at
at_home g number at e =
    let found = some_found (λ (session : GroupSession). if session.opened then home_of g number session else None) (get g.sessions number) at e in
    by_opened g number found.0 at found.0.opened found.1.0 found.1.1

-- what the code finds, with the flags that it tests
pub record FindsHome (g : Group) (number : ℕ) (found : code.Home) : Type 0 where
  pub at : Home
  pub home : home g number ≡ Some at
  pub instance : found.instance ≡ at.session.instance
  pub dead : found.found.dead ≡ at.instance.dead
  pub held : found.found.held ≡ is_held at.instance

home_is : (s : GroupSolo) (g : Group) (number : ℕ) → IsBeside s g → home (without_calls s) number ≡ home g number
home_is s g number beside = ap (λ (base : Group). home base number) (sym beside)

pub some_home : (s : GroupSolo) (g : Group) (number : ℕ) (found : code.Home) → Some found ≡ option_map found_home (home (without_calls s) number) → IsBeside s g →
    FindsHome g number found
some_home s g number found some beside = by (home (without_calls s) number) refl some
  where
    by : (o : Option Home) → home (without_calls s) number ≡ o → Some found ≡ option_map found_home o → FindsHome g number found
    by None e is = absurd cc
    by (Some at) e is =
        let same : found ≡ found_home at = cc in record {
          at = at;
          home = sym (home_is s g number beside) ∙ e;
          instance = ap (λ (f : code.Home). f.instance) same;
          dead = ap (λ (f : code.Home). f.found.dead) same;
          held = ap (λ (f : code.Home). f.found.held) same;
        }

-- ---- it works there, or waits

-- who begins there
abbrev pub home_beginner : Group → Coming → Home → CopiedParams → Beginner
home_beginner g coming at params = record {
  number = g.entered;
  call = fresh_call (about_home coming at) (Waits params);
  session = at.session;
  params = params;
  there = (at.session.instance, at.instance);
}

by_holder : (app : Application) (g : Group) (coming : Coming) (at : Home) (params : CopiedParams) (points : List EntryPoint) (held : Bool) → held ≡ is_held at.instance →
    works_or_waits app g coming at params points
    ≡ (if held then waits g (about_home coming at) params else counted (begun app g (home_beginner g coming at params) points))
by_holder app g coming at params points held same =
    ap (λ (b : Bool). if b then waits g (about_home coming at) params else counted (begun app g (home_beginner g coming at params) points)) (sym same)

pub works_held : (app : Application) (g : Group) (coming : Coming) (at : Home) (params : CopiedParams) (points : List EntryPoint) (held : Bool) →
    held ≡ is_held at.instance → held ≡ true → waits g (about_home coming at) params ≡ works_or_waits app g coming at params points
works_held app g coming at params points held same is = sym (by_holder app g coming at params points true (sym is ∙ same))

pub works_free : (app : Application) (g : Group) (coming : Coming) (at : Home) (params : CopiedParams) (points : List EntryPoint) (held : Bool) →
    held ≡ is_held at.instance → held ≡ false → counted (begun app g (home_beginner g coming at params) points) ≡ works_or_waits app g coming at params points
works_free app g coming at params points held same is = sym (by_holder app g coming at params points false (sym is ∙ same))

-- ---- an invoke

found_then : {A B : Type 0} (f : A → Option B) (o : Option A) (a : A) (b : B) → o ≡ Some a → option_and_then f o ≡ Some b → f a ≡ Some b
found_then f o a b is e = sym (ap (option_and_then f) is) ∙ e

invoked_as : (app : Application) (g next : Group) (func : ℕ) (input : OwnInput) (area : Bool) (at : Home) (dead : Bool) → at.instance.dead ≡ dead →
    invokes app g func input area at ≡ Some next → (if dead then Some (settles g area target_dead) else invokes_with app g func input area at) ≡ Some next
invoked_as app g next func input area at dead is e =
    ap (λ (b : Bool). if b then Some (settles g area target_dead) else invokes_with app g func input area at) (sym is) ∙ e

pub invoked_dead : (app : Application) (g next : Group) (number func : ℕ) (input : OwnInput) (area : Bool) (found : code.Home) → FindsHome g number found → found.found.dead ≡ true →
    option_and_then (invokes app g func input area) (home g number) ≡ Some next → settles g area target_dead ≡ next
invoked_dead app g next number func input area found its dead e =
    let so : Some (settles g area target_dead) ≡ Some next =
    invoked_as app g next func input area its.at true (sym its.dead ∙ dead) (found_then (invokes app g func input area) _ its.at next its.home e) in cc

pub invoked_alive : (app : Application) (g next : Group) (number func : ℕ) (input : OwnInput) (area : Bool) (found : code.Home) → (its : FindsHome g number found) → found.found.dead ≡ false →
    option_and_then (invokes app g func input area) (home g number) ≡ Some next → invokes_with app g func input area its.at ≡ Some next
invoked_alive app g next number func input area found its alive e =
    invoked_as app g next func input area its.at false (sym its.dead ∙ alive) (found_then (invokes app g func input area) _ its.at next its.home e)

pub invoked_copied : (app : Application) (g next : Group) (func : ℕ) (input : OwnInput) (area : Bool) (params : CopiedParams) (at : Home) →
    input ≡ came.Copied params → invokes_with app g func input area at ≡ Some next →
    works_or_waits app g (record { kind = kind.Invoke func; area = area }) at params (point.Invoke func ∷ []) ≡ next
invoked_copied app g next func input area params at is e =
    let so : Some (works_or_waits app g (record { kind = kind.Invoke func; area = area }) at params (point.Invoke func ∷ [])) ≡ Some next =
    ap (λ (i : OwnInput). invokes_with app g func i area at) (sym is) ∙ e in cc

pub invoked_faulty : (app : Application) (g next : Group) (func : ℕ) (input : OwnInput) (area : Bool) (at : Home) →
    ((params : CopiedParams) → input ≡ came.Copied params → ⊥) → invokes_with app g func input area at ≡ Some next → settles g area bad_parameters ≡ next
invoked_faulty app g next func (came.Copied params) area at apart e = absurd (apart params refl)
invoked_faulty app g next func came.Faulty area at apart e = cc
invoked_faulty app g next func came.Unread area at apart e = absurd cc

-- the code says whether a call holds the instance
there_at : (g : Group) (number : ℕ) (instance : Instance) → g.instance ≡ Some (number, instance) → instance_at g number ≡ Some instance
there_at g number instance is =
    ap (option_and_then (λ (there : ℕ × Instance). if there.0 == number then Some there.1 else None)) is
    ∙ ap (λ (b : Bool). if b then Some instance else None) (self_same number)
  where
    self_same : (a : ℕ) → (a == a) ≡ true
    self_same a = grind (arith, nat_tests)

pub held_so : (s : GroupSolo) (g : Group) (number instance : ℕ) (at : Home) (held : Bool) → IsBeside s g → home g number ≡ Some at → instance ≡ at.session.instance →
    held ≡ option_map_or is_held (instance_at (without_calls s) instance) false → held ≡ is_held at.instance
held_so s g number instance at held beside e same says =
    says ∙ ap (λ (n : ℕ). option_map_or is_held (instance_at (without_calls s) n) false) same
    ∙ ap (λ (base : Group). option_map_or is_held (instance_at base at.session.instance) false) (sym beside)
    ∙ ap (λ (o : Option Instance). option_map_or is_held o false) (there_at g at.session.instance at.instance (at_home g number at e).there)

-- what is known of a call there, by the numbers as the code has them
abbrev pub about_of_numbers : Coming → ℕ → ℕ → About
about_of_numbers coming number instance = record { kind = coming.kind; area = coming.area; session = number; instance = instance }

pub about_same : (coming : Coming) (at : Home) (number instance : ℕ) → at.number ≡ number → instance ≡ at.session.instance →
    about_of_numbers coming number instance ≡ about_home coming at
about_same coming at number instance numbers instances =
    ap (λ (n : ℕ). about_of_numbers coming n instance) (sym numbers)
    ∙ ap (λ (n : ℕ). about_of_numbers coming at.number n) instances

-- ---- a close

pub found_is : (s : GroupSolo) (g : Group) (number : ℕ) (found : code.Home) (at : Home) → Some found ≡ option_map found_home (home (without_calls s) number) →
    IsBeside s g → home g number ≡ Some at → found ≡ found_home at
found_is s g number found at says beside e =
    let so : Some found ≡ Some (found_home at) = says ∙ ap (option_map found_home) (home_is s g number beside ∙ e) in cc

-- its entry points
pub closing_same : (s : GroupSolo) (g : Group) (number : ℕ) (found : code.Home) (at : Home) (points : List EntryPoint) (unmakes : Bool) → IsBeside s g →
    found ≡ found_home at → at.number ≡ number → points ≡ point.Close ∷ destroy_where unmakes →
    destroy_where unmakes ≡ destroy_after (app_in s) (remove (sessions_of s.sessions.items) number) found.instance →
    points ≡ closing_points (app_in s) g at.number at.session.instance
closing_same s g number found at points unmakes beside same numbers is destroys =
    is ∙ ap (λ (behind : List EntryPoint). point.Close ∷ behind)
    (destroys
    ∙ ap (λ (base : Group). destroy_after (app_in s) (remove base.sessions number) found.instance) (sym beside)
    ∙ ap (λ (n : ℕ). destroy_after (app_in s) (remove g.sessions n) found.instance) (sym numbers)
    ∙ ap (λ (f : code.Home). destroy_after (app_in s) (remove g.sessions at.number) f.instance) same)

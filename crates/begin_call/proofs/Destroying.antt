-- Whether destroy follows, by how many sessions are opened.
use Rattle.std.proofs.Common.{◌≡◌, ℕ, ◌+◌, ◌<◌, Bool, true, false, not, ◌&&◌, ◌||◌, List, [], ◌∷◌, Some, refl, sym, ap, ◌∙◌, arith}
use Rattle.std.specs.Prelude.{if◌then◌else◌, ◌==◌, nat_eq}
use Rattle.std.proofs.lemmas.Bool.Decides.{nat_tests}
use mir.Val.{bool_byte}
use Rattle.std.specs.List.{count_by}
use Rattle.base.specs.NumberMap.{NumberMap, IsRising, get, remove}
use Rattle.job_model.specs.declared.entry_point.EntryPoint.{EntryPoint}
use Rattle.job_model.specs.declared.entry_point.EntryPoint.TheVariants.{Destroy}
use Rattle.kernel_model.specs.Application.{Application, Booted}
use Rattle.kernel_model.specs.Instances.{app_of, destroy_after, destroy_of, keeps_alive}
use Rattle.kernel_model.specs.Sessions.{has_opened}
use Rattle.session_table.specs.Session.{is_opened_of}
use Rattle.session_table.specs.declared.session.Session.{Session}
use Rattle.begin_call.specs.Points.{destroy_where}
use Rattle.begin_call.proofs.Maps.{count_without, none_counted, one_if, some_counted}

-- how many sessions of the instance are opened
abbrev opened_of : NumberMap Session → ℕ → ℕ
opened_of sessions instance = count_by (λ (entry : ℕ × Session). is_opened_of instance entry.1) sessions

abbrev destroy_unless : Bool → Bool → List EntryPoint
destroy_unless opened keeps = if opened || keeps then [] else Destroy ∷ []

unopened : (opened keeps : Bool) → opened ≡ false → destroy_where (not keeps) ≡ destroy_unless opened keeps
unopened true keeps is = absurd (cc)
unopened false true is = refl
unopened false false is = refl

opened_anyway : (opened keeps : Bool) → opened ≡ true → destroy_where false ≡ destroy_unless opened keeps
opened_anyway true keeps is = refl
opened_anyway false keeps is = absurd (cc)

-- ---- beside all sessions

pub destroys_unopened : (app : Application) (sessions : NumberMap Session) (instance : ℕ) → opened_of sessions instance ≡ 0 →
    destroy_where (not (keeps_alive app)) ≡ destroy_after app sessions instance
destroys_unopened app sessions instance none =
    unopened (has_opened sessions instance) (keeps_alive app) (none_counted (λ (entry : ℕ × Session). is_opened_of instance entry.1) sessions none)

pub destroys_opened : (app : Application) (sessions : NumberMap Session) (instance : ℕ) → 0 < opened_of sessions instance →
    destroy_where false ≡ destroy_after app sessions instance
destroys_opened app sessions instance some =
    opened_anyway (has_opened sessions instance) (keeps_alive app) (some_counted (λ (entry : ℕ × Session). is_opened_of instance entry.1) sessions some)

-- ---- beside all but one

own_counts : (session : Session) → one_if (is_opened_of session.instance session) ≡ one_if session.opened
own_counts session = ap (λ (same : Bool). one_if (same && session.opened)) (same_number session.instance)
  where
    same_number : (n : ℕ) → (n == n) ≡ true
    same_number n = grind arith

one_more : (sessions : NumberMap Session) (number : ℕ) (session : Session) → IsRising sessions → get sessions number ≡ Some session →
    opened_of sessions session.instance ≡ one_if session.opened + opened_of (remove sessions number) session.instance
one_more sessions number session rising is =
    count_without (λ (entry : ℕ × Session). is_opened_of session.instance entry.1) sessions number session rising is
    ∙ ap (λ n. n + opened_of (remove sessions number) session.instance) (own_counts session)

of_app : (boot : Booted) (uuid : List ℕ) (app : Application) (sessions : NumberMap Session) (instance : ℕ) → app_of boot uuid ≡ Some app →
    destroy_after app sessions instance ≡ destroy_of boot uuid sessions instance
of_app boot uuid app sessions instance found = rw found refl

pub destroys_alone : (boot : Booted) (uuid : List ℕ) (app : Application) (sessions : NumberMap Session) (number : ℕ) (session : Session) → IsRising sessions →
    get sessions number ≡ Some session → app_of boot uuid ≡ Some app → opened_of sessions session.instance ≡ one_if session.opened →
    destroy_where (not (keeps_alive app)) ≡ destroy_of boot uuid (remove sessions number) session.instance
destroys_alone boot uuid app sessions number session rising is found own =
    let more = one_more sessions number session rising is in
    destroys_unopened app (remove sessions number) session.instance (omega (arith, more, own))
    ∙ of_app boot uuid app (remove sessions number) session.instance found

pub destroys_not_alone : (boot : Booted) (uuid : List ℕ) (app : Application) (sessions : NumberMap Session) (number : ℕ) (session : Session) → IsRising sessions →
    get sessions number ≡ Some session → app_of boot uuid ≡ Some app → (opened_of sessions session.instance ≡ one_if session.opened → ⊥) →
    destroy_where false ≡ destroy_of boot uuid (remove sessions number) session.instance
destroys_not_alone boot uuid app sessions number session rising is found others =
    let more = one_more sessions number session rising is in
    destroys_opened app (remove sessions number) session.instance (some (opened_of sessions session.instance) (one_if session.opened) (opened_of (remove sessions number) session.instance) more others)
    ∙ of_app boot uuid app (remove sessions number) session.instance found
  where
    some : (all own rest : ℕ) → all ≡ own + rest → (all ≡ own → ⊥) → 0 < rest
    some all own rest is others = omega arith

-- ---- as it is asked

differ : (a b : ℕ) → (a ≡ b → ⊥) → nat_eq a b ≡ false
differ a b other = grind (arith, nat_tests)

positive : (opened all : ℕ) → opened ≡ all → (opened ≡ 0 → ⊥) → 0 < all
positive opened all is some = omega arith

byte_is : (b : Bool) → bool_byte b ≡ one_if b
byte_is true = refl
byte_is false = refl

pub asked_then : (app : Application) (sessions : NumberMap Session) (instance opened : ℕ) (keeps : Bool) → opened ≡ opened_of sessions instance →
    opened ≡ 0 → keeps ≡ keeps_alive app → destroy_where (not keeps) ≡ destroy_after app sessions instance
asked_then app sessions instance opened keeps is none same =
    ap (λ (keeps : Bool). destroy_where (not keeps)) same ∙ destroys_unopened app sessions instance (sym is ∙ none)

pub asked_else : (app : Application) (sessions : NumberMap Session) (instance opened : ℕ) → opened ≡ opened_of sessions instance →
    (opened ≡ 0 → ⊥) → destroy_where (nat_eq opened 0) ≡ destroy_after app sessions instance
asked_else app sessions instance opened is some =
    ap destroy_where (differ opened 0 some) ∙ destroys_opened app sessions instance (positive opened (opened_of sessions instance) is some)

pub alone_then : (boot : Booted) (uuid : List ℕ) (app : Application) (sessions : NumberMap Session) (number : ℕ) (session : Session) (opened own : ℕ) (keeps : Bool) →
    IsRising sessions → get sessions number ≡ Some session → opened ≡ opened_of sessions session.instance → own ≡ bool_byte session.opened →
    opened ≡ own → keeps ≡ keeps_alive app → app_of boot uuid ≡ Some app →
    destroy_where (not keeps) ≡ destroy_of boot uuid (remove sessions number) session.instance
alone_then boot uuid app sessions number session opened own keeps rising is counted own_is alone same found =
    ap (λ (keeps : Bool). destroy_where (not keeps)) same
    ∙ destroys_alone boot uuid app sessions number session rising is found (sym counted ∙ alone ∙ own_is ∙ byte_is session.opened)

pub alone_else : (boot : Booted) (uuid : List ℕ) (app : Application) (sessions : NumberMap Session) (number : ℕ) (session : Session) (opened own : ℕ) →
    IsRising sessions → get sessions number ≡ Some session → opened ≡ opened_of sessions session.instance → own ≡ bool_byte session.opened →
    (opened ≡ own → ⊥) → app_of boot uuid ≡ Some app →
    destroy_where (nat_eq opened own) ≡ destroy_of boot uuid (remove sessions number) session.instance
alone_else boot uuid app sessions number session opened own rising is counted own_is others found =
    ap destroy_where (differ opened own others)
    ∙ destroys_not_alone boot uuid app sessions number session rising is found
    (λ (same : opened_of sessions session.instance ≡ one_if session.opened). others (counted ∙ same ∙ sym (own_is ∙ byte_is session.opened)))

-- The sessions of a group's code are the machine's.
use Rattle.std.proofs.Common.{◌≡◌, ℕ, ◌<◌, ◌≤◌, ◌==◌, true, not, cond, List, [], ◌∷◌, ◌++◌, length, nat_lt, get_or, Option, Some, None, sym, ap, subst, ◌∙◌, arith}
use Rattle.std.proofs.lemmas.Bool.Decides.{nat_tests}
use Rattle.std.proofs.lemmas.List.{get_or-map, length-map, map-append, map-set}
use Rattle.std.proofs.lemmas.List.Folds.{find_at}
use Rattle.std.proofs.lemmas.List.Quantifiers.{position-Some}
use Rattle.std.proofs.lemmas.Option.{slice_get-get_or, slice_get-map, slice_get_past}
use Rattle.std.specs.Prelude.{◌&&◌, Ok, filter, find, slice_get, slice_set}
use Rattle.std.specs.List.{AllByRecursion, list_any, position}
use Rattle.std.specs.Option.{option_map, option_map_or}
use Rattle.std.specs.Ordering.{nat_cmp}
use Rattle.std.specs.declared.cmp.Ordering.TheVariants.{Equal}
use Rattle.base.proofs.PlaceLemmas.{searched}
use Rattle.base.specs.NumberMap.{IsRising, NumberMap, get, insert, remove}
use Rattle.base.specs.Places.{IsAt}
use Rattle.group_model.specs.Group.{GroupSession, has_opened, has_session, opened_with}
use Rattle.group_solo.proofs.Mapped.{any-filtered, any-mapped, get-mapped, put-last, remove-mapped}
use Rattle.group_solo.specs.Standing.{session_of, sessions_of}
use Rattle.group_solo.specs.declared.kept_session.KeptSession.{KeptSession}

-- a session with its number
abbrev Numbered : Type 0
Numbered = ℕ × KeptSession

-- one of the machine's map
abbrev view : Numbered → ℕ × GroupSession
view e = (e.0, session_of e.1)

pub found : (sessions : List Numbered) (number : ℕ) →
    option_map (λ (e : Numbered). session_of e.1) (find (λ (e : Numbered). e.0 == number) sessions) ≡ get (sessions_of sessions) number
found sessions number = get-mapped session_of sessions number

pub opened : (sessions : List Numbered) (instance : ℕ) →
    list_any (λ (e : Numbered). (e.1.instance == instance) && e.1.opened) sessions ≡ has_opened (sessions_of sessions) instance
opened sessions instance =
    any-mapped (λ (e : Numbered). (e.0, session_of e.1)) (λ (kept : ℕ × GroupSession). (kept.1.instance == instance) && kept.1.opened) sessions

pub there : (sessions : List Numbered) (instance : ℕ) → list_any (λ (e : Numbered). e.1.instance == instance) sessions ≡ has_session (sessions_of sessions) instance
there sessions instance =
    any-mapped (λ (e : Numbered). (e.0, session_of e.1)) (λ (kept : ℕ × GroupSession). kept.1.instance == instance) sessions

pub left : (sessions : List Numbered) (number : ℕ) → sessions_of (filter (λ (e : Numbered). not (e.0 == number)) sessions) ≡ remove (sessions_of sessions) number
left sessions number = remove-mapped session_of sessions number

pub beside : (sessions : List Numbered) (number instance : ℕ) →
    list_any (λ (e : Numbered). not (e.0 == number) && ((e.1.instance == instance) && e.1.opened)) sessions
    ≡ has_opened (remove (sessions_of sessions) number) instance
beside sessions number instance =
    any-filtered (λ (e : Numbered). not (e.0 == number)) (λ (e : Numbered). (e.1.instance == instance) && e.1.opened) sessions
    ∙ opened (filter (λ (e : Numbered). not (e.0 == number)) sessions) instance
    ∙ ap (λ kept. has_opened kept instance) (left sessions number)

pub added : (sessions : List Numbered) (number : ℕ) (session : KeptSession) → AllByRecursion (λ (e : ℕ × GroupSession). e.0 < number) (sessions_of sessions) →
    sessions_of (sessions ++ (number, session) ∷ []) ≡ insert (sessions_of sessions) number (session_of session)
added sessions number session below =
    map-append (λ (e : Numbered). (e.0, session_of e.1)) sessions ((number, session) ∷ []) ∙ put-last (sessions_of sessions) number (session_of session) below

-- ---- a session that is opened

-- what the session becomes
abbrev pub now_opened : ℕ → KeptSession → KeptSession
now_opened context session = record session { context = context; opened = true }

abbrev opens_with : NumberMap GroupSession → ℕ → ℕ → Option GroupSession → NumberMap GroupSession
opens_with sessions number context found =
    option_map_or (λ (session : GroupSession). insert sessions number (record session { context = context; opened = true })) found sessions

-- where its number stands nowhere, nothing changes
pub opened_nowhere : (sessions : List Numbered) (number context : ℕ) → None ≡ position (λ (e : Numbered). e.0 == number) sessions →
    sessions_of sessions ≡ opened_with (sessions_of sessions) number context
opened_nowhere sessions number context none =
    ap (opens_with (sessions_of sessions) number context)
    (ap (option_map (λ (e : Numbered). session_of e.1)) (sym nowhere) ∙ found sessions number)
  where
    past : (p len : ℕ) → cond (nat_lt p len) (Some p) None ≡ None → len ≤ p
    past p len none = grind (arith, nat_tests)

    nowhere : find (λ (e : Numbered). e.0 == number) sessions ≡ None
    nowhere = find_at (λ (e : Numbered). e.0 == number) sessions ∙ slice_get_past sessions _ (past _ (length sessions) (sym none))

-- the machine's map has the number at the place that the code finds
placed : (sessions : List Numbered) (number at : ℕ) (entry : Numbered) → Some at ≡ position (λ (e : Numbered). e.0 == number) sessions →
    IsRising (sessions_of sessions) → IsAt GroupSession (sessions_of sessions) number at
placed sessions number at entry some rising = searched (sessions_of sessions) number (Ok at) rising inside equal
  where
    first : (at < length sessions) × (((get_or sessions at entry).0 == number) ≡ true)
    first = let its = position-Some (λ (e : Numbered). e.0 == number) sessions at entry (sym some) in (its.0, its.1)

    inside : at < length (sessions_of sessions)
    inside = subst (λ (n : ℕ). at < n) (sym (length-map sessions view)) first.0

    compared : (a b : ℕ) → (a == b) ≡ true → nat_cmp a b ≡ Equal
    compared a b e = grind (arith, nat_tests)

    equal : (d : ℕ × GroupSession) → nat_cmp (get_or (sessions_of sessions) at d).0 number ≡ Equal
    equal d =
        ap (λ (e : ℕ × GroupSession). nat_cmp e.0 number) (get_or-map view sessions at entry d first.0)
        ∙ compared (get_or sessions at entry).0 number first.1

pub opened_somewhere : (sessions : List Numbered) (number context at : ℕ) (entry : Numbered) →
    Some at ≡ position (λ (e : Numbered). e.0 == number) sessions → slice_get sessions at ≡ Some entry → IsRising (sessions_of sessions) →
    sessions_of (slice_set sessions at (number, now_opened context entry.1)) ≡ opened_with (sessions_of sessions) number context
opened_somewhere sessions number context at entry some there rising =
    map-set view sessions at (number, now_opened context entry.1)
    ∙ sym (its.with (session_of (now_opened context entry.1)))
    ∙ sym (ap (opens_with (sessions_of sessions) number context) here)
  where
    its : IsAt GroupSession (sessions_of sessions) number at
    its = placed sessions number at entry some rising

    same : get_or (sessions_of sessions) at (view entry) ≡ view entry
    same =
        let so : Some (get_or (sessions_of sessions) at (view entry)) ≡ Some (view entry) =
        sym (slice_get-get_or (sessions_of sessions) at (view entry) its.inside) ∙ slice_get-map view sessions at ∙ ap (option_map view) there in cc

    here : get (sessions_of sessions) number ≡ Some (session_of entry.1)
    here = its.value (view entry) ∙ ap (λ (e : ℕ × GroupSession). Some e.1) same

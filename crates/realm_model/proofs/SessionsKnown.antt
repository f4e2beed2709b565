-- Of each session that is kept, and of each whose open hasn't ended, the application is known, and stays known.
use Rattle.std.proofs.Common.{◌≡◌, ℕ, ◌+◌, ◌*◌, ◌<◌, ◌≤◌, Bool, true, false, List, [], ◌∷◌, ◌++◌, length, Option, Some}
use Rattle.std.proofs.Common.{None, ◌⊎◌, inl, inr, refl, ap, subst, sym, ◌∙◌, arith}
use Rattle.std.specs.Prelude.{nat_lt}
use Rattle.std.specs.Option.{option_and_then}
use Rattle.std.proofs.lemmas.Bool.Decides.{nat_tests}
use Rattle.std.proofs.lemmas.Option.{option_and_then_some}
use Rattle.base.specs.NumberMap.{get}
use Rattle.base.proofs.MapLemmas.{All-get}
use Rattle.event_journal.specs.declared.event.Event.{Event}
use Rattle.kernel_model.specs.Application.{Application, Booted, uuid_of}
use Rattle.kernel_model.specs.History.{IsLegal, after_event, after_events, kernel_after}
use Rattle.kernel_model.specs.Instances.{app_of, is_single}
use Rattle.kernel_model.specs.Kernel.{Kernel, first_kernel}
use Rattle.kernel_model.specs.Sound as sound
use Rattle.kernel_model.specs.SoundCalls.{HasSession}
use Rattle.kernel_model.specs.SoundNumbers.{IsNumberedSession}
use Rattle.kernel_model.proofs.OfOneApp.{IsOfApp, IsOn, opened_of_app, stays_of_app}
use Rattle.kernel_model.proofs.Parts.{some_of}
use Rattle.kernel_model.proofs.Past.{after_events-append}
use Rattle.kernel_model.proofs.SoundClaims.{Claims}
use Rattle.kernel_model.proofs.SoundNumbers.{numbered}
use Rattle.own_model.proofs.BelowNumbers.{below_numbers}
use Rattle.own_model.proofs.UuidKept.{uuid_stays}
use Rattle.own_model.proofs.WholeHistories.{goes_from, one_more, uuid_on}
use Rattle.own_model.specs.Isolation.{IsKeptFor, KeptSessionsAreKnown, PendingOpensAreKnown}
use Rattle.own_model.specs.Own.{Notes, event_noted, no_notes, noted, noted_from, own_app}
use Rattle.realm_model.proofs.EarlyEvents.{EarlyNext, NowNameless, NowOpen, StillEarly, early_next}
use Rattle.realm_model.proofs.Openings.{Opens, opening_claims, opening_given, opening_kept, opens_so}

-- ---- where a session stands

-- its application was noted; or it shares an instance, for which its open waited
abbrev pub IsNamed : Application → Option (List ℕ) → Type 0
IsNamed of uuid = (uuid ≡ Some (uuid_of of)) ⊎ ((uuid ≡ None) × (is_single of ≡ true))

-- its open hasn't come in, or has
pub data Stands (boot : Booted) (session : ℕ) (kernel : Kernel) (notes : Notes) : Type 0 where
  Before : kernel.tables.next_session ≤ session → notes ≡ no_notes → Stands boot session kernel notes
  Since : (of : Application) (instance : ℕ) → IsOfApp session instance (uuid_of of) kernel
      → app_of boot (uuid_of of) ≡ Some of → IsNamed of notes.uuid → Stands boot session kernel notes

module _ (boot : Booted) (session : ℕ) where
  -- after an event
  by_next : (past : List Event) (next : Kernel) (now : Notes) → kernel_after boot past ≡ Some next
      → EarlyNext boot session next now → Stands boot session next now
  by_next past next now there (StillEarly same lower) = Before lower same
  by_next past next now there (NowOpen of given of_boot uuid opening first) =
      Since of opening.has.call.instance (opened_of_app boot past next there session (uuid_of of) opening.has) of_boot (inl uuid)
  by_next past next now there (NowNameless of given of_boot shares same opening) =
      Since of opening.has.call.instance (opened_of_app boot past next there session (uuid_of of) opening.has) of_boot
      (inr (ap (λ (n : Notes). n.uuid) same, shares))

  stands_next : (past : List Event) (kernel next : Kernel) (notes : Notes) (happened : Event)
      → kernel_after boot past ≡ Some kernel → after_event boot kernel happened ≡ Some next
      → Stands boot session kernel notes → Stands boot session next (event_noted session kernel next notes happened)
  stands_next past kernel next notes happened there comes (Before before none) =
      let early = early_next boot session kernel next happened (below_numbers kernel (numbered boot past kernel there))
      before comes in
      by_next (past ++ happened ∷ []) next _ (one_more boot past kernel next happened there comes)
      (subst (λ (n : Notes). EarlyNext boot session next (event_noted session kernel next n happened)) (sym none) early)
  stands_next past kernel next notes happened there comes (Since of instance on of_boot named) =
      Since of instance (stays_of_app boot past kernel next happened there comes session instance (uuid_of of) on) of_boot
      (subst (IsNamed of) (sym (uuid_stays boot session kernel next happened notes on.session_given comes)) named)

  stands_on : (past : List Event) (kernel last : Kernel) (notes : Notes) (events : List Event)
      → kernel_after boot past ≡ Some kernel → after_events boot kernel events ≡ Some last
      → Stands boot session kernel notes → Stands boot session last (noted_from boot session kernel notes events)
  stands_on past kernel last notes [] there e stands =
      let same : kernel ≡ last = cc in
      subst (λ (k : Kernel). Stands boot session k notes) same stands
  stands_on past kernel last notes (happened ∷ events) there e stands =
      option_and_then_some (λ (next : Kernel). after_events boot next events) (after_event boot kernel happened) last e
      (λ (next : Kernel) comes onward.
      subst (Stands boot session last) (sym (goes_from boot session kernel next notes happened events comes))
      (stands_on (past ++ happened ∷ []) next last (event_noted session kernel next notes happened) events
      (one_more boot past kernel next happened there comes) onward
      (stands_next past kernel next notes happened there comes stands)))

  pub stands_after : (history : List Event) (kernel : Kernel) → 1 ≤ session → kernel_after boot history ≡ Some kernel
      → Stands boot session kernel (noted boot history session)
  stands_after history kernel from_one e =
      stands_on [] (first_kernel boot) kernel no_notes history refl e (Before from_one refl)

-- ---- the law

pub some_app : (one other : Application) → Some one ≡ Some other → one ≡ other
some_app one other e = cc

-- where the application's sessions share no instance it was noted
pub named_alone : (boot : Booted) (of app : Application) (uuid : Option (List ℕ)) → app_of boot (uuid_of of) ≡ Some of
    → of ≡ app → is_single app ≡ false → IsNamed of uuid → option_and_then (app_of boot) uuid ≡ Some app
named_alone boot of app uuid of_boot same alone (inl is) =
    ap (λ (o : Option (List ℕ)). option_and_then (app_of boot) o) is ∙ of_boot ∙ ap (λ (a : Application). Some a) same
named_alone boot of app uuid of_boot same alone (inr shared) =
    let no : true ≡ false = sym shared.1 ∙ ap is_single same ∙ alone in absurd cc

pub not_yet : (a n : ℕ) → a < n → n ≤ a → ⊥
not_yet a n less le = omega arith

app_known : (boot : Booted) (history : List Event) (kernel : Kernel) (session : ℕ) (app : Application)
    → kernel_after boot history ≡ Some kernel → IsKeptFor boot kernel session app → own_app boot history session ≡ Some app
app_known boot history kernel session app e kept =
    by (noted boot history session) refl (stands_after boot session history kernel given.0.0 e)
  where
    given : IsNumberedSession kernel.tables (session, kept.kept)
    given = All-get (IsNumberedSession kernel.tables) kernel.tables.sessions session kept.kept
        (numbered boot history kernel e).sessions kept.there

    by : (notes : Notes) → noted boot history session ≡ notes → Stands boot session kernel notes
        → option_and_then (app_of boot) notes.uuid ≡ Some app
    by notes is (Before lower none) = absurd (not_yet session kernel.tables.next_session given.0.1 lower)
    by notes is (Since of instance on of_boot its) =
        let at : kept.kept.instance ≡ instance =
        All-get (IsOn session instance) kernel.tables.sessions session kept.kept on.on kept.there refl in
        let uuid : kept.instance.uuid ≡ uuid_of of =
        on.claimed kept.instance.uuid
        (inl (kept.instance, ap (λ (n : ℕ). get kernel.tables.instances n) (sym at) ∙ kept.has, refl)) in
        named_alone boot of app notes.uuid of_boot
        (some_app of app (sym of_boot ∙ ap (app_of boot) (sym uuid) ∙ kept.of_app)) kept.shares_none its

-- what is noted of more events goes on from what was noted before them
pub noted-append : (boot : Booted) (session : ℕ) (kernel last : Kernel) (notes : Notes) (events more : List Event)
    → after_events boot kernel events ≡ Some last
    → noted_from boot session kernel notes (events ++ more)
    ≡ noted_from boot session last (noted_from boot session kernel notes events) more
noted-append boot session kernel last notes [] more e =
    let same : kernel ≡ last = cc in
    ap (λ (k : Kernel). noted_from boot session k notes more) same
noted-append boot session kernel last notes (happened ∷ events) more e =
    option_and_then_some (λ (next : Kernel). after_events boot next events) (after_event boot kernel happened) last e
    (λ (next : Kernel) comes onward.
    goes_from boot session kernel next notes happened (events ++ more) comes
    ∙ noted-append boot session next last (event_noted session kernel next notes happened) events more onward
    ∙ sym (ap (λ (n : Notes). noted_from boot session last n more)
    (goes_from boot session kernel next notes happened events comes)))

pub none_noted : (boot : Booted) (app : Application) (notes : Notes) → notes ≡ no_notes
    → option_and_then (app_of boot) notes.uuid ≡ Some app → ⊥
none_noted boot app notes none is =
    let no : None ≡ Some app = sym (ap (λ (n : Notes). option_and_then (app_of boot) n.uuid) none) ∙ is in cc

app_stays : (boot : Booted) (history more : List Event) (session : ℕ) (app : Application)
    → IsLegal boot (history ++ more) → own_app boot history session ≡ Some app
    → own_app boot (history ++ more) session ≡ Some app
app_stays boot history more session app legal is =
    let end = some_of (kernel_after boot (history ++ more)) legal.follows in
    option_and_then_some (λ (k : Kernel). after_events boot k more) (kernel_after boot history) end.0
    (sym (after_events-append boot (first_kernel boot) history more) ∙ end.1)
    (λ (kernel : Kernel) there onward.
    ap (λ (n : Notes). option_and_then (app_of boot) n.uuid)
    (noted-append boot session (first_kernel boot) kernel no_notes history more there)
    ∙ ap (λ (o : Option (List ℕ)). option_and_then (app_of boot) o)
    (uuid_on boot session (1000000 * (length history + length more)) history kernel (noted boot history session) more
    (was_given kernel there (nat_lt session kernel.tables.next_session) refl)
    (record { last = end.0; there = there; onward = onward; bound = all (1000000 * (length history + length more)) }))
    ∙ is)
  where
    all : (n : ℕ) → n ≤ n
    all n = omega arith

    lower : (a n : ℕ) → nat_lt a n ≡ false → n ≤ a
    lower a n e = grind (arith, nat_tests)

    above : (a n : ℕ) → nat_lt a n ≡ true → a < n
    above a n e = grind (arith, nat_tests)

    one_at_least : (kernel : Kernel) → kernel_after boot history ≡ Some kernel → 1 ≤ kernel.tables.next_session
    one_at_least kernel there = (below_numbers kernel (numbered boot history kernel there)).session_from_one

    from_one : (a n : ℕ) → 1 ≤ n → n ≤ a → 1 ≤ a
    from_one a n one le = omega arith

    early : (kernel : Kernel) → kernel.tables.next_session ≤ session
        → Stands boot session kernel (noted boot history session) → session < kernel.tables.next_session
    early kernel le (Before still none) = absurd (none_noted boot app (noted boot history session) none is)
    early kernel le (Since of instance on of_boot its) = on.session_given

    was_given : (kernel : Kernel) → kernel_after boot history ≡ Some kernel → (test : Bool)
        → nat_lt session kernel.tables.next_session ≡ test → session < kernel.tables.next_session
    was_given kernel there true less = above session kernel.tables.next_session less
    was_given kernel there false more_or_same =
        let le = lower session kernel.tables.next_session more_or_same in
        early kernel le
        (stands_after boot session history kernel
        (from_one session kernel.tables.next_session (one_at_least kernel there) le) there)

pub kept_sessions_known : KeptSessionsAreKnown
kept_sessions_known = record { known = app_known; stays = app_stays }

-- ---- an open that hasn't ended

pub pending_known : PendingOpensAreKnown
pending_known boot history kernel session app there p alone =
    by (stands_after boot session history kernel given.0 there)
  where
    so : Opens boot kernel session app
    so = opens_so boot kernel session app p

    given : (0 < session) × (session < kernel.tables.next_session)
    given = opening_given boot history kernel there session so.uuid so.opening

    kept : HasSession (get kernel.tables.sessions session) so.opening.has.call false
    kept = opening_kept boot history kernel there session so.uuid so.opening

    by : Stands boot session kernel (noted boot history session) → own_app boot history session ≡ Some app
    by (Before lower none) = absurd (not_yet session kernel.tables.next_session given.1 lower)
    by (Since of instance on of_boot its) =
        let at : so.opening.has.call.instance ≡ instance =
        sym kept.instance
        ∙ All-get (IsOn session instance) kernel.tables.sessions session kept.session on.on kept.kept refl in
        let uuid : so.uuid ≡ uuid_of of =
        on.claimed so.uuid
        (subst (λ n. Claims (sound.unmarked_at kernel.slots) kernel.tables.instances n so.uuid) at
        (opening_claims boot history kernel there session so.uuid so.opening)) in
        named_alone boot of app (noted boot history session).uuid of_boot
        (some_app of app (sym of_boot ∙ ap (app_of boot) (sym uuid) ∙ so.of_boot)) alone its

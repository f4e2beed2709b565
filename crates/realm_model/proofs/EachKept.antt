-- Each session that the kernel keeps is in a realm.
use Rattle.std.proofs.Common.{◌≡◌, ℕ, ◌≤◌, Bool, true, false, List, [], ◌∷◌, ◌++◌, Option, Some, refl, ap, subst, sym, ◌∙◌}
use Rattle.std.specs.Prelude.{IsSome}
use Rattle.std.specs.Option.{option_and_then}
use Rattle.std.proofs.lemmas.List.{append-nil, append_assoc}
use Rattle.std.proofs.lemmas.Option.{option_and_then_some}
use Rattle.base.specs.NumberMap.{get}
use Rattle.base.proofs.MapLemmas.{All-get}
use Rattle.event_journal.specs.declared.event.Event.{Event}
use Rattle.kernel_model.specs.Application.{Application, Booted, IsBooted, uuid_of}
use Rattle.kernel_model.specs.History.{IsLegal, after_event, after_events, kernel_after}
use Rattle.kernel_model.specs.Instances.{app_of, is_single}
use Rattle.kernel_model.specs.Kernel.{Kernel, first_kernel}
use Rattle.kernel_model.specs.SoundNumbers.{IsNumberedSession}
use Rattle.kernel_model.proofs.SoundMemory.{own_uuid}
use Rattle.kernel_model.proofs.SoundNumbers.{numbered}
use Rattle.session_table.specs.declared.session.Session.{Session}
use Rattle.own_model.proofs.BelowNumbers.{below_numbers}
use Rattle.own_model.proofs.WholeHistories.{one_more}
use Rattle.own_model.specs.Isolation.{HasPendingOpen}
use Rattle.own_model.specs.Own.{Notes, event_noted, no_notes, noted}
use Rattle.group_model.specs.OneLaw.{AllSessions, EachKeptSessionHasARealm, HasRealm, OneSession}
use Rattle.realm_model.proofs.EarlyEvents.{EarlyNext, NowNameless, NowOpen, StillEarly, early_next}
use Rattle.realm_model.proofs.GroupMembers.{opening_number, pending_of_group}
use Rattle.realm_model.proofs.OneLaw.{kept_sessions_have_realms}
use Rattle.realm_model.proofs.Openings.{IsOpening, opens_so}
use Rattle.realm_model.proofs.SessionCalls.{noted_more}
use Rattle.realm_model.proofs.SessionsKnown.{not_yet, pending_known}

-- its open hasn't come in, or it is in a realm
data Placed (boot : Booted) (session : ℕ) (past : List Event) (kernel : Kernel) : Type 0 where
  Before : kernel.tables.next_session ≤ session → noted boot past session ≡ no_notes → Placed boot session past kernel
  Within : (app : Application) → HasRealm boot past session app → Placed boot session past kernel

module _ (boot : Booted) (boots : IsBooted boot) (session : ℕ) where
  legal_at : (past : List Event) (kernel : Kernel) → kernel_after boot past ≡ Some kernel → IsLegal boot past
  legal_at past kernel there =
      record { boots = boots; follows = subst (λ (k : Option Kernel). IsSome k) (sym there) refl }

  -- with its open, the session is all of a realm, or one of the group's
  alone_now : (past : List Event) (kernel : Kernel) (now : Notes) (of : Application) → kernel_after boot past ≡ Some kernel
      → noted boot past session ≡ now → app_of boot (uuid_of of) ≡ Some of → now.uuid ≡ Some (uuid_of of)
      → is_single of ≡ false → Placed boot session past kernel
  alone_now past kernel now of there is of_boot uuid alone = Within of (record {
    realm = OneSession session;
    is = record {
      legal = legal_at past kernel there;
      of_app =
          ap (λ (n : Notes). option_and_then (app_of boot) n.uuid) is
          ∙ ap (λ (u : Option (List ℕ)). option_and_then (app_of boot) u) uuid ∙ of_boot;
      shares_none = alone;
    };
    has = refl;
  })

  together_now : (past : List Event) (kernel : Kernel) (of : Application) → kernel_after boot past ≡ Some kernel
      → app_of boot (uuid_of of) ≡ Some of → is_single of ≡ true → IsOpening session (uuid_of of) kernel
      → Placed boot session past kernel
  together_now past kernel of there of_boot shares has = Within of (record {
    realm = AllSessions;
    is = record { legal = legal_at past kernel there; has = of_boot; shares = shares };
    has = opening_number boot past kernel there session (uuid_of of) of of_boot shares has;
  })

  opened_now : (past : List Event) (kernel : Kernel) (now : Notes) (of : Application) → kernel_after boot past ≡ Some kernel
      → noted boot past session ≡ now → app_of boot (uuid_of of) ≡ Some of → now.uuid ≡ Some (uuid_of of)
      → IsOpening session (uuid_of of) kernel → (single : Bool) → is_single of ≡ single → Placed boot session past kernel
  opened_now past kernel now of there is of_boot uuid opening false alone = alone_now past kernel now of there is of_boot uuid alone
  opened_now past kernel now of there is of_boot uuid opening true shares =
      together_now past kernel of there of_boot shares opening

  by_next : (past : List Event) (next : Kernel) (now : Notes) → kernel_after boot past ≡ Some next
      → noted boot past session ≡ now → EarlyNext boot session next now → Placed boot session past next
  by_next past next now there is (StillEarly same lower) = Before lower (is ∙ same)
  by_next past next now there is (NowOpen of given of_boot uuid opening first) =
      opened_now past next now of there is of_boot uuid opening (is_single of) refl
  by_next past next now there is (NowNameless of given of_boot shares same opening) =
      together_now past next of there of_boot shares opening

  placed_next : (past : List Event) (kernel next : Kernel) (happened : Event) → kernel_after boot past ≡ Some kernel
      → after_event boot kernel happened ≡ Some next → Placed boot session past kernel
      → Placed boot session (past ++ happened ∷ []) next
  placed_next past kernel next happened there comes (Before before none) =
      by_next (past ++ happened ∷ []) next (event_noted session kernel next no_notes happened)
      (one_more boot past kernel next happened there comes)
      (noted_more boot past kernel next happened session there comes
      ∙ ap (λ (n : Notes). event_noted session kernel next n happened) none)
      (early_next boot session kernel next happened (below_numbers kernel (numbered boot past kernel there)) before comes)
  placed_next past kernel next happened there comes (Within app in_one) =
      let stays = kept_sessions_have_realms.stays boot past (happened ∷ []) session in_one.realm app
      (legal_at (past ++ happened ∷ []) next (one_more boot past kernel next happened there comes)) in_one.is in_one.has in
      Within app (record { realm = in_one.realm; is = stays.0; has = stays.1 })

  placed_on : (past : List Event) (kernel last : Kernel) (events : List Event) → kernel_after boot past ≡ Some kernel
      → after_events boot kernel events ≡ Some last → Placed boot session past kernel
      → Placed boot session (past ++ events) last
  placed_on past kernel last [] there e placed =
      let same : kernel ≡ last = cc in
      subst (λ (events : List Event). Placed boot session events last) (sym (append-nil past))
      (subst (Placed boot session past) same placed)
  placed_on past kernel last (happened ∷ events) there e placed =
      option_and_then_some (λ (next : Kernel). after_events boot next events) (after_event boot kernel happened) last e
      (λ (next : Kernel) comes onward.
      subst (λ (all : List Event). Placed boot session all last) (append_assoc past (happened ∷ []) events)
      (placed_on (past ++ happened ∷ []) next last events (one_more boot past kernel next happened there comes) onward
      (placed_next past kernel next happened there comes placed)))

  realm_of : (history : List Event) (kernel : Kernel) (kept : Session) → kernel_after boot history ≡ Some kernel
      → get kernel.tables.sessions session ≡ Some kept → (app : Application) × HasRealm boot history session app
  realm_of history kernel kept there is_kept =
      by (placed_on [] (first_kernel boot) kernel history refl there (Before given.0.0 refl))
    where
      given : IsNumberedSession kernel.tables (session, kept)
      given =
          All-get (IsNumberedSession kernel.tables) kernel.tables.sessions session kept
          (numbered boot history kernel there).sessions is_kept

      by : Placed boot session history kernel → (app : Application) × HasRealm boot history session app
      by (Before lower none) = absurd (not_yet session kernel.tables.next_session given.0.1 lower)
      by (Within app in_one) = (app, in_one)

-- ---- the law

each_kept : (boot : Booted) (history : List Event) (kernel : Kernel) (session : ℕ) (kept : Session) → IsLegal boot history
    → kernel_after boot history ≡ Some kernel → get kernel.tables.sessions session ≡ Some kept
    → (app : Application) × HasRealm boot history session app
each_kept boot history kernel session kept legal there is_kept =
    realm_of boot legal.boots session history kernel kept there is_kept

pending_realm : (boot : Booted) (history : List Event) (kernel : Kernel) (session : ℕ) (app : Application)
    → IsLegal boot history → kernel_after boot history ≡ Some kernel → HasPendingOpen boot kernel session app
    → HasRealm boot history session app
pending_realm boot history kernel session app legal there p = by (is_single app) refl
  where
    by : (single : Bool) → is_single app ≡ single → HasRealm boot history session app
    by false alone = record {
      realm = OneSession session;
      is = record {
        legal = legal;
        of_app = pending_known boot history kernel session app there p alone;
        shares_none = alone;
      };
      has = refl;
    }
    by true shares =
        let so = opens_so boot kernel session app p in
        record {
          realm = AllSessions;
          is = record { legal = legal; has = own_uuid boot so.uuid app so.of_boot; shares = shares };
          has = pending_of_group boot history kernel session app there p shares;
        }

pub each_kept_has_a_realm : EachKeptSessionHasARealm
each_kept_has_a_realm = record { each = each_kept; opening = pending_realm }

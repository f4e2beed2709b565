-- The machine of a group is fed with what has happened to the group.
use Rattle.std.proofs.Common.{◌≡◌, ◌∙◌, ℕ, ◌<◌, Bool, true, List, [], ◌∷◌, Option, Some, length, get_or, sym, ap, subst, refl, arith}
use Rattle.std.specs.Prelude.{IsSomeAnd, bytes_eq, if◌then◌else◌}
use Rattle.std.proofs.lemmas.Slice.Eq.{bytes_eq-Decides}
use Rattle.core_cases.specs.Feeding.{HasSharedApp, IsJournalOf}
use Rattle.event_journal.specs.declared.event.Event.{Event}
use Rattle.group_model.specs.Group.{nobody_there}
use Rattle.group_model.specs.declared.group_event.GroupEvent.{GroupEvent}
use Rattle.group_solo.specs.Feeding.{CanBeFed, IsFed}
use Rattle.group_solo.specs.Standing.{IsGroup, app_in}
use Rattle.group_solo.specs.declared.group.GroupSolo.{GroupSolo}
use Rattle.instance_groups.specs.Journals.{IsSharedApp}
use Rattle.kernel_model.specs.Application.{Application, Native, OfImage, booted}
use Rattle.kernel_model.specs.Instances.{app_of, is_single}
use Rattle.own_model.specs.Isolation.{steps_in}
use Rattle.ta_isa.specs.declared.boot.App.{App}
use Rattle.ta_isa.specs.declared.boot.Boot.{Boot}

-- ---- the first application of a boot

-- there is one
pub first_is : (boot : Boot) → HasSharedApp boot → 0 < length boot.apps
first_is boot has = subst (λ (apps : List App). 0 < length apps) (sym has.first) (omega arith)

-- it has its UUID
first_found : (boot : Boot) (app : App) (others : List App) → boot.apps ≡ app ∷ others
    → app_of (booted boot []) app.uuid ≡ Some (OfImage app)
first_found boot app others first =
    ap (λ (apps : List App). app_of (booted (record boot { apps = apps }) []) app.uuid) first
    ∙ by_test _ (bytes_eq app.uuid app.uuid) ((bytes_eq-Decides app.uuid app.uuid).1 refl)
  where
    by_test : (other : Option Application) (b : Bool) → b ≡ true → (if b then Some (OfImage app) else other) ≡ Some (OfImage app)
    by_test other b is = ap (λ (t : Bool). if t then Some (OfImage app) else other) is

-- and its sessions share an instance
pub first_shares : (boot : Boot) (none : App) → HasSharedApp boot
    → IsSomeAnd (app_of (booted boot []) (get_or boot.apps 0 none).uuid) (λ app. is_single app ≡ true)
first_shares boot none has =
    subst (λ (uuid : List ℕ). IsSomeAnd (app_of (booted boot []) uuid) (λ app. is_single app ≡ true))
    (sym (ap (λ (apps : List App). (get_or apps 0 none).uuid) has.first))
    (subst (λ (o : Option Application). IsSomeAnd o (λ app. is_single app ≡ true))
    (sym (first_found boot has.app has.others has.first)) has.shares)

-- ---- its machine

is_shared : (found : Option Application) (app : Application) → IsSomeAnd found (λ one. is_single one ≡ true) → found ≡ Some app
    → is_single app ≡ true
is_shared found app shares is = subst (λ (o : Option Application). IsSomeAnd o (λ one. is_single one ≡ true)) is shares

-- it can be fed with what has happened to the group, where the events of each application that the boot has under the UUID can be
pub group_fed : (boot : Boot) (natives : List Native) (history : List Event) (events : List GroupEvent) (uuid : List ℕ) (s : GroupSolo)
    → IsJournalOf boot natives history → IsSomeAnd (app_of (booted boot []) uuid) (λ app. is_single app ≡ true)
    → ((app : Application) → IsSharedApp (booted boot natives) uuid app → CanBeFed (steps_in history) app (nobody_there boot.key) events)
    → app_of (booted boot []) uuid ≡ Some (app_in s) → IsGroup s (nobody_there boot.key) → IsFed s events
group_fed boot natives history events uuid s journal shares feeds of is = record {
  group = nobody_there boot.key;
  is = is;
  most = steps_in history;
  can = feeds (app_in s) (subst (λ (none : List Native). IsSharedApp (booted boot none) uuid (app_in s)) (sym journal.none)
      (record { of_uuid = of; shares = is_shared (app_of (booted boot []) uuid) (app_in s) shares of }));
}

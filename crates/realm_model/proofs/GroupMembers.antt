-- Each session that is kept on an instance of the application, and each whose open hasn't ended, is one of the group's, and keeps its
-- number there, as it does in the realm.
use Rattle.std.proofs.Common.{◌≡◌, ℕ, ◌*◌, ◌+◌, ◌≤◌, true, List, ◌++◌, length, Option, Some, inl, inr, refl, ap, subst, sym, ◌∙◌, arith}
use Rattle.std.specs.Prelude.{IsSome}
use Rattle.base.specs.NumberMap.{get}
use Rattle.base.proofs.MapLemmas.{All-get}
use Rattle.event_journal.specs.declared.event.Event.{Event}
use Rattle.kernel_model.specs.Application.{Application, Booted, uuid_of}
use Rattle.kernel_model.specs.History.{kernel_after}
use Rattle.kernel_model.specs.Instances.{app_of, is_single}
use Rattle.kernel_model.specs.Kernel.{Instance, Kernel}
use Rattle.kernel_model.specs.Sound.{unmarked_at}
use Rattle.kernel_model.specs.SoundWaiters.{AreWaiters, Awaited, awaited}
use Rattle.kernel_model.proofs.Parts.{some_of}
use Rattle.kernel_model.proofs.SoundClaims.{Claims}
use Rattle.kernel_model.proofs.SoundMemory.{own_uuid}
use Rattle.kernel_model.proofs.SoundWaiters.{waiting}
use Rattle.own_model.proofs.Lookups.{app_named}
use Rattle.own_model.proofs.WholeHistories.{from_first}
use Rattle.own_model.specs.Isolation.{steps_in}
use Rattle.group_model.specs.Isolation.{IsGroupOf, IsKeptTogether, KeptSessionsAreOfTheGroup, PendingOpensAreOfTheGroup}
use Rattle.group_model.specs.Read as group
use Rattle.realm_model.specs.Reading.{noted}
use Rattle.realm_model.specs.Realm.{AllSessions}
use Rattle.realm_model.specs.Tied.{IsOfRealm, Members}
use Rattle.realm_model.proofs.Groups.{groups_are_realms}
use Rattle.realm_model.proofs.KeptSessions.{IsTiedAtEnd, from_boot, has_number, keeps_number, number_there}
use Rattle.realm_model.proofs.Openings.{IsOpening, opening_claims, opening_kept, opens_so}
use Rattle.realm_model.proofs.OwnResumes.{same_awaited, waiter_there}

-- what the realm calls a session, the group does
in_group : (boot : Booted) (history : List Event) (app : Application) (session : ℕ)
    → get (group.noted boot history app).sessions session ≡ get (noted boot history (AllSessions app)).sessions session
in_group boot history app session = ap (λ (n : group.Notes). get n.sessions session) (groups_are_realms.noted_so boot history app)

-- ---- kept sessions

kept_number : (boot : Booted) (history : List Event) (kernel : Kernel) (session : ℕ) (app : Application)
    → kernel_after boot history ≡ Some kernel → IsKeptTogether boot kernel session app
    → IsSome (get (group.noted boot history app).sessions session)
kept_number boot history kernel session app there k =
    subst (IsSome {T = ℕ}) (sym (in_group boot history app session))
    (has_number boot app (steps_in history) (own_uuid boot k.instance.uuid app k.of_app) k.shares history kernel session
    (from_first boot history kernel there) there
    (record { kept = k.kept; there = k.there; instance = k.instance; has = k.has; of_app = k.of_app }))

number_kept : (boot : Booted) (history more : List Event) (session number : ℕ) (app : Application)
    → IsGroupOf boot (history ++ more) app → get (group.noted boot history app).sessions session ≡ Some number
    → get (group.noted boot (history ++ more) app).sessions session ≡ Some number
number_kept boot history more session number app of has =
    let end = some_of (kernel_after boot (history ++ more)) of.legal.follows in
    in_group boot (history ++ more) app session
    ∙ keeps_number boot app (1000000 * (length history + length more)) of.has of.shares history more session number end.0 end.1
    (all (1000000 * (length history + length more))) (sym (in_group boot history app session) ∙ has)
  where
    all : (n : ℕ) → n ≤ n
    all n = omega arith

pub kept_of_group : KeptSessionsAreOfTheGroup
kept_of_group = record { known = kept_number; stays = number_kept }

-- ---- opens that haven't ended

module _ (boot : Booted) (history : List Event) (kernel : Kernel) (there : kernel_after boot history ≡ Some kernel)
    (session : ℕ) (uuid : List ℕ) (app : Application) (of_boot : app_of boot uuid ≡ Some app) (shares : is_single app ≡ true)
    (o : IsOpening session uuid kernel) where
  abbrev EndsSo : Type 0
  EndsSo = IsTiedAtEnd boot app (steps_in history) (own_uuid boot uuid app of_boot) shares kernel (noted boot history (AllSessions app))

  end : EndsSo
  end = from_boot boot app (steps_in history) (own_uuid boot uuid app of_boot) shares history kernel
      (from_first boot history kernel there) there

  abbrev members : Members
  members = record { realm = AllSessions app; app = app }

  of_app : uuid ≡ uuid_of app
  of_app = sym (app_named boot uuid app of_boot)

  are : AreWaiters (unmarked_at kernel.slots) kernel.tables.waiters
  are = waiting boot history kernel there

  -- an instance that is kept for the application, or that it waits for, is one of the realm's
  claimed : (number : ℕ) → Claims (unmarked_at kernel.slots) kernel.tables.instances number uuid
      → IsSome (get end.tied.instances number)
  claimed number (inl (instance, kept, same)) =
      (All-get (λ (one : ℕ × Instance). IsOfRealm members end.tied.instances one.0 one.1.uuid) kernel.tables.instances number
      instance end.tied.tied.instances.of_app kept).named tt (same ∙ of_app)
  claimed number (inr (slot, wanted)) =
      let has = waiter_there members end.tied.instances (unmarked_at kernel.slots) slot kernel.tables.waiters
      (are.all slot (subst (λ (a : Option Awaited). IsSome a) (sym wanted) refl)) are.each end.tied.tied.waiters.of_app in
      let same = same_awaited (number, Some uuid) (has.waiter.instance, Some has.waiter.uuid)
      (sym wanted ∙ ap (λ n. awaited (unmarked_at kernel.slots n)) (sym has.here) ∙ has.waits_so) in
      subst (λ n. IsSome (get end.tied.instances n)) (sym (ap (λ (a : Awaited). a.0) same))
      (has.of_group.named tt (sym (some_same uuid has.waiter.uuid (ap (λ (a : Awaited). a.1) same)) ∙ of_app))
    where
      some_same : (a b : List ℕ) → Some a ≡ Some b → a ≡ b
      some_same a b e = cc

  pub opening_number : IsSome (get (group.noted boot history app).sessions session)
  opening_number =
      let reserved = opening_kept boot history kernel there session uuid o in
      subst (IsSome {T = ℕ}) (sym (in_group boot history app session))
      (number_there boot app (steps_in history) (own_uuid boot uuid app of_boot) shares kernel (noted boot history (AllSessions app))
      end session reserved.session reserved.kept
      (subst (λ n. IsSome (get end.tied.instances n)) (sym reserved.instance)
      (claimed o.has.call.instance (opening_claims boot history kernel there session uuid o))))

pub pending_of_group : PendingOpensAreOfTheGroup
pending_of_group boot history kernel session app there p shares =
    let so = opens_so boot kernel session app p in
    opening_number boot history kernel there session so.uuid app so.of_boot shares so.opening

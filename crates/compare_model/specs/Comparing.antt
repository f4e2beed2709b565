-- What two journals show of a session, or of a group: the sessions of an application that share one instance. This project's own.
use Rattle.std.specs.Prelude.{◌≡◌, ◌≢◌, ◌⊎◌, ℕ, List, [], length, take, slice_get, Option, Some, None, IsSome, if◌then◌else◌}
use Rattle.std.specs.Option.{option_and_then, option_map_or}
use Rattle.audit_model.specs.Verdicts.{CanBegin, IsIllegalAt}
use Rattle.compare_model.specs.declared.compared.Compared.{Compared}
use Rattle.compare_model.specs.declared.compared.Compared.TheVariants.{Illegal, Absent, Other, Events, Same}
use Rattle.compare_model.specs.declared.subject.Subject.{Subject}
use Rattle.compare_model.specs.declared.subject.Subject.TheVariants.{Session, Group}
use Rattle.event_journal.specs.declared.event.Event.{Event}
use Rattle.group_model.specs.Group.{group_machine_replies}
use Rattle.group_model.specs.Read.{group_events, group_replies}
use Rattle.group_model.specs.declared.group_event.GroupEvent.{GroupEvent}
use Rattle.group_model.specs.declared.group_reply.GroupReply.{GroupReply}
use Rattle.kernel_model.specs.Application.{Application, Booted, Native, booted}
use Rattle.kernel_model.specs.History.{IsLegal}
use Rattle.kernel_model.specs.Instances.{app_of, is_single}
use Rattle.own_model.specs.Isolation.{steps_in}
use Rattle.own_model.specs.Own.{own_app, own_events, own_replies}
use Rattle.own_model.specs.Solo.{solo_replies}
use Rattle.own_model.specs.declared.own_event.OwnEvent.{OwnEvent}
use Rattle.own_model.specs.declared.own_reply.OwnReply.{OwnReply}
use Rattle.ta_isa.specs.declared.boot.Boot.{Boot}

-- a journal: its boot and its events
pub record Journaled : Type 0 where
  pub boot : Boot
  pub events : List Event

-- two journals beside one list of built-in applications
pub record Pair : Type 0 where
  pub one : Journaled
  pub two : Journaled
  pub natives : List Native

-- ---- one of the two

-- what its core was booted with
abbrev pub core_of : Pair → Journaled → Booted
core_of pair journal = booted journal.boot pair.natives

abbrev pub CanBe : Pair → Journaled → Type 0
CanBe pair journal = CanBegin (core_of pair journal) journal.events

-- its events are a legal history, whatever the reads of its entries are
abbrev pub IsHistory : Pair → Journaled → Type 0
IsHistory pair journal = IsLegal (core_of pair journal) journal.events

abbrev pub FailsAt : Pair → Journaled → ℕ → Type 0
FailsAt pair journal at = IsIllegalAt (core_of pair journal) journal.events at

-- what it shows of a session or of a group: the application, where it is there; what happened, and what was answered
pub record Shown (E R : Type 0) : Type 0 where
  pub app : Option Application
  pub events : List E
  pub replies : List R

-- the application, where each of its sessions has an instance of its own
abbrev pub unless_shared : Application → Option Application
unless_shared app = if is_single app then None else Some app

-- the application, where its sessions share an instance
abbrev pub if_shared : Application → Option Application
if_shared app = if is_single app then Some app else None

-- of the session of this number, which is there where the number was given in this journal, and not to an application whose
-- sessions share an instance
abbrev pub session_in : Pair → ℕ → Journaled → Shown OwnEvent OwnReply
session_in pair session journal = record {
  app = option_and_then unless_shared (own_app (core_of pair journal) journal.events session);
  events = own_events (core_of pair journal) journal.events session;
  replies = own_replies (core_of pair journal) journal.events session;
}

-- of the group of the application of this UUID, which is there where its boot has that application, and its sessions share an
-- instance
abbrev pub group_in : Pair → List ℕ → Journaled → Shown GroupEvent GroupReply
group_in pair uuid journal = record {
  app = option_and_then if_shared (app_of (core_of pair journal) uuid);
  events = option_map_or (group_events (core_of pair journal) journal.events) (app_of (core_of pair journal) uuid) [];
  replies = option_map_or (group_replies (core_of pair journal) journal.events) (app_of (core_of pair journal) uuid) [];
}

-- both lists are the same up to this number, and there they differ, where the end of a list differs from an element
pub record DifferFirstAt {E : Type 0} (one other : List E) (at : ℕ) : Type 0 where
  pub same_before : take at one ≡ take at other
  pub differ : slice_get one at ≢ slice_get other at

-- ---- the causes, each where none before it comes

-- the journal of this number, 1 or 2, is illegal at this event; the second, where the first is legal
abbrev pub IsIllegalIn : Pair → ℕ → ℕ → Type 0
IsIllegalIn pair of at = ((of ≡ 1) × FailsAt pair pair.one at) ⊎ ((of ≡ 2) × CanBe pair pair.one × FailsAt pair pair.two at)

abbrev pub CanBeBoth : Pair → Type 0
CanBeBoth pair = CanBe pair pair.one × CanBe pair pair.two

-- of these applications that of the journal of this number isn't there; of the second, where it is in the first
abbrev pub IsAbsentIn : Option Application → Option Application → ℕ → Type 0
IsAbsentIn one two of = ((of ≡ 1) × (one ≡ None)) ⊎ ((of ≡ 2) × IsSome one × (two ≡ None))

-- they are different: their UUIDs differ, or their images do; or the two boots have different keys. What is built in is the same
-- in both
pub record AreOfTwo (pair : Pair) (one two : Option Application) : Type 0 where
  pub app : Application
  pub other : Application
  pub in_one : one ≡ Some app
  pub in_two : two ≡ Some other
  pub differ : (app ≢ other) ⊎ (pair.one.boot.key ≢ pair.two.boot.key)

-- they are one, under one key
pub record AreOfOne (pair : Pair) (one two : Option Application) : Type 0 where
  pub app : Application
  pub in_one : one ≡ Some app
  pub in_two : two ≡ Some app
  pub keys : pair.one.boot.key ≡ pair.two.boot.key

-- the answer, by what each of the two shows
abbrev pub AreShownAs : {E R : Type 0} → Pair → Shown E R → Shown E R → Compared → Type 0
AreShownAs pair one two (Illegal of at) = IsIllegalIn pair of at
AreShownAs pair one two (Absent of) = CanBeBoth pair × IsAbsentIn one.app two.app of
AreShownAs pair one two Other = CanBeBoth pair × AreOfTwo pair one.app two.app
AreShownAs pair one two (Events at) = CanBeBoth pair × AreOfOne pair one.app two.app × DifferFirstAt one.events two.events at
AreShownAs pair one two (Same count) =
    CanBeBoth pair × AreOfOne pair one.app two.app × (one.events ≡ two.events) × (count ≡ length one.replies)

abbrev pub IsComparedAs : Pair → Subject → Compared → Type 0
IsComparedAs pair (Session session) compared =
    AreShownAs pair (session_in pair session pair.one) (session_in pair session pair.two) compared
IsComparedAs pair (Group uuid) compared = AreShownAs pair (group_in pair uuid pair.one) (group_in pair uuid pair.two) compared

-- ---- replies

-- the session or the group was answered the same in both
abbrev pub AreAnsweredTheSame : Pair → Subject → Type 0
AreAnsweredTheSame pair (Session session) = (session_in pair session pair.one).replies ≡ (session_in pair session pair.two).replies
AreAnsweredTheSame pair (Group uuid) = (group_in pair uuid pair.one).replies ≡ (group_in pair uuid pair.two).replies

-- it was, where both show the same of it
abbrev pub HaveSameReplies : Pair → Subject → Compared → Type 0
HaveSameReplies pair subject (Same count) = AreAnsweredTheSame pair subject
HaveSameReplies pair subject _ = Unit {0}

-- a machine's replies to events, by the steps that it is given to each stop, its application and the boot's key
abbrev pub Machine : Type 0 → Type 0 → Type 0
Machine E R = ℕ → Application → List ℕ → List E → Option (List R)

-- where the application is there, what was answered is what its machine replies to what happened
abbrev pub IsAnsweredBy : {E R : Type 0} → Machine E R → Journaled → Shown E R → Type 0
IsAnsweredBy machine journal shown =
    (app : Application) → shown.app ≡ Some app →
    machine (steps_in journal.events) app journal.boot.key shown.events ≡ Some shown.replies

-- the session or the group was answered in this journal as the machine that has its events alone answers
abbrev pub IsAnsweredAlone : Pair → Subject → Journaled → Type 0
IsAnsweredAlone pair (Session session) journal = IsAnsweredBy solo_replies journal (session_in pair session journal)
IsAnsweredAlone pair (Group uuid) journal = IsAnsweredBy group_machine_replies journal (group_in pair uuid journal)

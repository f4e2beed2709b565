-- A session or a group is answered as its machine alone answers; so where two journals show the same of it, it was answered the same.
use Rattle.std.proofs.Common.{◌≡◌, ◌∙◌, ℕ, Bool, true, false, List, [], Option, Some, None, refl, ap, sym, subst}
use Rattle.std.specs.Option.{option_and_then, option_map_or}
use Rattle.std.specs.Prelude.{if◌then◌else◌}
use Rattle.audit_model.proofs.Prefixes.{prefixes_can_be}
use Rattle.compare_model.specs.Comparing.{AreAnsweredTheSame, CanBe, IsAnsweredAlone, IsComparedAs, IsHistory, Journaled, Pair}
use Rattle.compare_model.specs.Comparing.{core_of, group_in, if_shared, session_in, unless_shared}
use Rattle.compare_model.specs.Laws.{JournalsAreAnsweredAlone, SameGivesSameReplies}
use Rattle.compare_model.specs.declared.compared.Compared.TheVariants.{Illegal, Absent, Other, Events, Same}
use Rattle.compare_model.specs.declared.subject.Subject.{Subject}
use Rattle.compare_model.specs.declared.subject.Subject.TheVariants.{Session, Group}
use Rattle.group_model.specs.Isolation.{IsGroupOf}
use Rattle.group_model.specs.Group.{group_machine_replies}
use Rattle.group_model.specs.Read.{group_events, group_replies}
use Rattle.group_model.specs.declared.group_event.GroupEvent.{GroupEvent}
use Rattle.group_model.specs.declared.group_reply.GroupReply.{GroupReply}
use Rattle.kernel_model.proofs.SoundMemory.{own_uuid}
use Rattle.kernel_model.specs.Application.{Application}
use Rattle.kernel_model.specs.Instances.{app_of, is_single}
use Rattle.own_model.specs.Isolation.{IsSessionOf, steps_in}
use Rattle.own_model.specs.Own.{own_app}
use Rattle.realm_model.proofs.AloneAnswered.{alone_answered}
use Rattle.realm_model.proofs.Answered.{groups_answered}
use Rattle.realm_model.proofs.GroupBeginnings.{same_events as same_group_replies}
use Rattle.realm_model.proofs.SessionBeginnings.{same_events as same_replies}

-- ---- applications that are there

-- an application whose flag is this
record IsKept (found : Option Application) (single : Bool) (app : Application) : Type 0 where
  found_is : found ≡ Some app
  shares : is_single app ≡ single

module _ (one app : Application) where
  same_so : Some one ≡ Some app → one ≡ app
  same_so is = cc

  kept_so : (single : Bool) → is_single one ≡ single → Some one ≡ Some app → IsKept (Some one) single app
  kept_so single flag is = record { found_is = is; shares = subst (λ (a : Application). is_single a ≡ single) (same_so is) flag }

  unless_by : (single : Bool) → is_single one ≡ single → (if single then None else Some one) ≡ Some app → IsKept (Some one) false app
  unless_by true flag is = absurd cc
  unless_by false flag is = kept_so false flag is

  if_by : (single : Bool) → is_single one ≡ single → (if single then Some one else None) ≡ Some app → IsKept (Some one) true app
  if_by true flag is = kept_so true flag is
  if_by false flag is = absurd cc

kept_unless : (found : Option Application) (app : Application) → option_and_then unless_shared found ≡ Some app → IsKept found false app
kept_unless None app is = absurd cc
kept_unless (Some one) app is = unless_by one app (is_single one) refl is

kept_if : (found : Option Application) (app : Application) → option_and_then if_shared found ≡ Some app → IsKept found true app
kept_if None app is = absurd cc
kept_if (Some one) app is = if_by one app (is_single one) refl is

-- ---- journals

is_history : (pair : Pair) (journal : Journaled) → CanBe pair journal → IsHistory pair journal
is_history pair journal can = (prefixes_can_be (core_of pair journal) journal.events can).legal

-- ---- sessions

session_of : (pair : Pair) (session : ℕ) (journal : Journaled) (app : Application) → IsHistory pair journal
    → (session_in pair session journal).app ≡ Some app → IsSessionOf (core_of pair journal) journal.events session app
session_of pair session journal app legal is =
    let kept = kept_unless (own_app (core_of pair journal) journal.events session) app is in
    record { legal = legal; of_app = kept.found_is; shares_none = kept.shares }

-- ---- groups

-- what a journal shows of the group of an application that is there
record Grouped (pair : Pair) (uuid : List ℕ) (journal : Journaled) (app : Application) : Type 0 where
  is_group : IsGroupOf (core_of pair journal) journal.events app
  events : (group_in pair uuid journal).events ≡ group_events (core_of pair journal) journal.events app
  replies : (group_in pair uuid journal).replies ≡ group_replies (core_of pair journal) journal.events app

group_of : (pair : Pair) (uuid : List ℕ) (journal : Journaled) (app : Application) → IsHistory pair journal
    → (group_in pair uuid journal).app ≡ Some app → Grouped pair uuid journal app
group_of pair uuid journal app legal is =
    let core = core_of pair journal in
    let kept = kept_if (app_of core uuid) app is in
    record {
      is_group = record {
        legal = legal;
        has = own_uuid core uuid app kept.found_is;
        shares = kept.shares;
      };
      events = ap (λ (o : Option Application). option_map_or (group_events core journal.events) o []) kept.found_is;
      replies = ap (λ (o : Option Application). option_map_or (group_replies core journal.events) o []) kept.found_is;
    }

-- ---- alone

answered_alone : (pair : Pair) (subject : Subject) (journal : Journaled) → IsHistory pair journal → IsAnsweredAlone pair subject journal
answered_alone pair (Session session) journal legal = λ app is.
    alone_answered (core_of pair journal) journal.events session app (session_of pair session journal app legal is)
answered_alone pair (Group uuid) journal legal = λ app is.
    let of = group_of pair uuid journal app legal is in
    ap (λ (events : List GroupEvent). group_machine_replies (steps_in journal.events) app journal.boot.key events) of.events
    ∙ groups_answered (core_of pair journal) journal.events app of.is_group
    ∙ ap (λ (replies : List GroupReply). Some replies) (sym of.replies)

pub journals_are_answered_alone : JournalsAreAnsweredAlone
journals_are_answered_alone = record {
  legal = answered_alone;
  begun = λ pair subject journal can. answered_alone pair subject journal (is_history pair journal can);
}

-- ---- both

same_answers : (pair : Pair) (subject : Subject) (count : ℕ) → IsComparedAs pair subject (Same count) → AreAnsweredTheSame pair subject
same_answers pair (Session session) count (can, of_one, events, replies) =
    let one = session_of pair session pair.one of_one.app (is_history pair pair.one can.0) of_one.in_one in
    let two = session_of pair session pair.two of_one.app (is_history pair pair.two can.1) of_one.in_two in
    same_replies (core_of pair pair.one) (core_of pair pair.two) pair.one.events pair.two.events session session of_one.app of_one.keys
    one two events
same_answers pair (Group uuid) count (can, of_one, events, replies) =
    let one = group_of pair uuid pair.one of_one.app (is_history pair pair.one can.0) of_one.in_one in
    let two = group_of pair uuid pair.two of_one.app (is_history pair pair.two can.1) of_one.in_two in
    one.replies
    ∙ same_group_replies (core_of pair pair.one) (core_of pair pair.two) pair.one.events
    pair.two.events of_one.app of_one.keys one.is_group two.is_group (sym one.events ∙ events ∙ two.events)
    ∙ sym two.replies

pub same_gives_same_replies : SameGivesSameReplies
same_gives_same_replies pair subject (Illegal of at) is = tt
same_gives_same_replies pair subject (Absent of) is = tt
same_gives_same_replies pair subject Other is = tt
same_gives_same_replies pair subject (Events at) is = tt
same_gives_same_replies pair subject (Same count) is = same_answers pair subject count is

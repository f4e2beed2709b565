-- What a session was answered is told by what its realm was.
use Rattle.std.proofs.Common.{◌≡◌, ℕ, List, [], ◌∷◌, Option, Some, None, refl, ap, subst, sym, ◌∙◌}
use Rattle.std.specs.Prelude.{filter_map, is_some, map}
use Rattle.std.specs.List.{AllByRecursion, cons_option}
use Rattle.std.specs.Option.{option_map}
use Rattle.std.proofs.lemmas.Option.{option_and_then_some}
use Rattle.kernel_model.specs.Application.{Application}
use Rattle.kernel_model.proofs.Parts.{option_map_some}
use Rattle.own_model.proofs.RepliesTold.{steps_told}
use Rattle.own_model.proofs.RepliesTold as own_told
use Rattle.own_model.specs.Own as own
use Rattle.own_model.specs.Solo.{Answered, Solo, and_reply, run, step}
use Rattle.own_model.specs.declared.own_event.OwnEvent.{OwnEvent}
use Rattle.own_model.specs.declared.own_event.OwnEvent.TheVariants as own_event
use Rattle.own_model.specs.declared.own_event.OwnInput.TheVariants.{Copied, Faulty, Unread}
use Rattle.own_model.specs.declared.own_reply.OwnReply.{OwnReply}
use Rattle.own_model.specs.declared.own_reply.OwnReply.TheVariants as reply
use Rattle.group_model.specs.Embedding.{replies_as, reply_as}
use Rattle.group_model.specs.declared.group_event.GroupEvent.{GroupEvent}
use Rattle.group_model.specs.declared.group_event.GroupEvent.TheVariants.{Back, Cancel, Close, Invoke, Open, Out, Room, Seen}
use Rattle.group_model.specs.declared.group_reply.GroupReply.{GroupReply}
use Rattle.realm_model.specs.Reading.{Logged, machine_event, of_machine}
use Rattle.realm_model.specs.declared.realm_event.RealmEvent.{RealmEvent}
use Rattle.realm_model.specs.declared.realm_event.RealmEvent.TheVariants.{Comes, TurnedAway}
use Rattle.realm_model.specs.Forgetting.{own_event_of, own_logged}
use Rattle.realm_model.proofs.SessionEvents.{Fits, IsTheSame, IsToldSo}

-- ---- what a session's machine replies

-- a reply for each event that has one, and to a call that was turned away this one
abbrev pub AreReplies : List OwnEvent → List OwnReply → Type 0
AreReplies [] [] = Unit {0}
AreReplies [] (told ∷ replies) = ⊥
AreReplies (own_event.Out number ∷ events) [] = ⊥
AreReplies (own_event.Out number ∷ events) (told ∷ replies) = AreReplies events replies
AreReplies (own_event.Limited ∷ events) [] = ⊥
AreReplies (own_event.Limited ∷ events) (told ∷ replies) = (told ≡ reply.Limited) × AreReplies events replies
AreReplies (_ ∷ events) replies = AreReplies events replies

abbrev pub Ended : Type 0
Ended = Solo × List OwnReply

ended_is : (a b : Ended) → Some a ≡ Some b → a ≡ b
ended_is a b e = cc

one_reply : (came : OwnEvent) (told : Option OwnReply) (events : List OwnEvent) (replies : List OwnReply)
    → is_some told ≡ own_told.has_reply came → (came ≡ own_event.Limited → told ≡ Some reply.Limited)
    → AreReplies events replies → AreReplies (came ∷ events) (and_reply told replies)
one_reply (own_event.Open params login area) None events replies is limited so = so
one_reply (own_event.Open params login area) (Some told) events replies is limited so = absurd cc
one_reply (own_event.Invoke func input area) None events replies is limited so = so
one_reply (own_event.Invoke func input area) (Some told) events replies is limited so = absurd cc
one_reply (own_event.Close area) None events replies is limited so = so
one_reply (own_event.Close area) (Some told) events replies is limited so = absurd cc
one_reply own_event.Cancel None events replies is limited so = so
one_reply own_event.Cancel (Some told) events replies is limited so = absurd cc
one_reply (own_event.Seen number done_by_now) None events replies is limited so = so
one_reply (own_event.Seen number done_by_now) (Some told) events replies is limited so = absurd cc
one_reply (own_event.Back number input) None events replies is limited so = so
one_reply (own_event.Back number input) (Some told) events replies is limited so = absurd cc
one_reply (own_event.Out number) None events replies is limited so = absurd cc
one_reply (own_event.Out number) (Some told) events replies is limited so = so
one_reply own_event.Limited None events replies is limited so = absurd cc
one_reply own_event.Limited (Some told) events replies is limited so =
    let same : Some told ≡ Some reply.Limited = limited refl in
    (some_reply told reply.Limited same, so)
  where
    some_reply : (a b : OwnReply) → Some a ≡ Some b → a ≡ b
    some_reply a b e = cc

limited_so : (most : ℕ) (app : Application) (z : Solo) (came : OwnEvent) (answered : Answered)
    → step most app z came ≡ Some answered → came ≡ own_event.Limited → answered.1 ≡ Some reply.Limited
limited_so most app z came answered e is =
    ap (λ (a : Answered). a.1) (answered_is answered (z, Some reply.Limited)
    (sym e ∙ ap (λ (c : OwnEvent). step most app z c) is))
  where
    answered_is : (a b : Answered) → Some a ≡ Some b → a ≡ b
    answered_is a b same = cc

pub replies_so : (most : ℕ) (app : Application) (z last : Solo) (events : List OwnEvent) (replies : List OwnReply)
    → run most app z events ≡ Some (last, replies) → AreReplies events replies
replies_so most app z last [] replies e =
    subst (λ (rs : List OwnReply). AreReplies [] rs) (ap (λ (end : Ended). end.1) (ended_is (z, []) (last, replies) e)) tt
replies_so most app z last (came ∷ events) replies e =
    option_and_then_some (λ (answered : Answered). option_map (λ (rest : Ended). (rest.0, and_reply answered.1 rest.1))
    (run most app answered.0 events)) (step most app z came) (last, replies) e
    (λ answered there onward.
    let rest = option_map_some (λ (r : Ended). (r.0, and_reply answered.1 r.1)) (run most app answered.0 events)
    (last, replies) onward in
    subst (λ (rs : List OwnReply). AreReplies (came ∷ events) rs) (ap (λ (end : Ended). end.1) rest.2)
    (one_reply came answered.1 events rest.0.1 (steps_told most app z came answered there)
    (limited_so most app z came answered there) (replies_so most app answered.0 rest.0.0 events rest.0.1 rest.1)))

-- ---- and what its realm was answered

-- one more entry: where the others tell the session's replies from the realm's, so do they all
one_entry : (came : RealmEvent) (told : Option GroupReply) (events : List OwnEvent)
    (items : List (GroupEvent × Option GroupReply)) (owned : List own.Logged)
    → ((replies : List OwnReply) → AreReplies events replies
    → filter_map (λ (item : GroupEvent × Option GroupReply). item.1) items ≡ replies_as events replies
    → filter_map (λ (one : own.Logged). one.1) owned ≡ replies)
    → IsTheSame came told → IsToldSo came told → (replies : List OwnReply)
    → AreReplies (cons_option (own_event_of came) events) replies
    → filter_map (λ (item : GroupEvent × Option GroupReply). item.1) (cons_option (machine_event came told) items)
    ≡ replies_as (cons_option (own_event_of came) events) replies
    → filter_map (λ (one : own.Logged). one.1) (cons_option (own_logged (came, told)) owned) ≡ replies
one_entry TurnedAway told events items owned rest same so [] are is = absurd are
one_entry TurnedAway told events items owned rest same so (first ∷ replies) are is =
    ap (λ (o : Option GroupReply). cons_option (option_map (λ (r : GroupReply). r.reply) o)
    (filter_map (λ (one : own.Logged). one.1) owned)) so
    ∙ ap (λ (r : OwnReply). r ∷ filter_map (λ (one : own.Logged). one.1) owned) (sym are.0)
    ∙ ap (λ (rs : List OwnReply). first ∷ rs) (rest replies are.1 is)
one_entry (Comes (Out number)) None events items owned rest same so replies are is = absurd cc
one_entry (Comes (Out number)) (Some told) events items owned rest same so [] are is = absurd are
one_entry (Comes (Out number)) (Some told) events items owned rest same so (first ∷ replies) are is =
    ap (λ (r : GroupReply). r.reply ∷ filter_map (λ (one : own.Logged). one.1) owned)
    (heads told (reply_as number first) (filter_map (λ (item : GroupEvent × Option GroupReply). item.1) items)
    (replies_as events replies) is)
    ∙ ap (λ (rs : List OwnReply). first ∷ rs)
    (rest replies are (tails told (reply_as number first)
    (filter_map (λ (item : GroupEvent × Option GroupReply). item.1) items) (replies_as events replies) is))
  where
    heads : (a b : GroupReply) (as_are bs : List GroupReply) → a ∷ as_are ≡ b ∷ bs → a ≡ b
    heads a b as_are bs e = cc

    tails : (a b : GroupReply) (as_are bs : List GroupReply) → a ∷ as_are ≡ b ∷ bs → as_are ≡ bs
    tails a b as_are bs e = cc
one_entry (Comes (Open (Copied params) login limited area)) None events items owned rest same so replies are is =
    rest replies are is
one_entry (Comes (Open (Copied params) login limited area)) (Some told) events items owned rest same so replies are is =
    absurd cc
one_entry (Comes (Open Faulty login limited area)) told events items owned rest same so replies are is = absurd cc
one_entry (Comes (Open Unread login limited area)) told events items owned rest same so replies are is = absurd cc
one_entry (Comes (Invoke session func input area)) None events items owned rest same so replies are is = rest replies are is
one_entry (Comes (Invoke session func input area)) (Some told) events items owned rest same so replies are is = absurd cc
one_entry (Comes (Close session area)) None events items owned rest same so replies are is = rest replies are is
one_entry (Comes (Close session area)) (Some told) events items owned rest same so replies are is = absurd cc
one_entry (Comes (Cancel session)) None events items owned rest same so replies are is = rest replies are is
one_entry (Comes (Cancel session)) (Some told) events items owned rest same so replies are is = absurd cc
one_entry (Comes (Seen number done_by_now)) None events items owned rest same so replies are is = rest replies are is
one_entry (Comes (Seen number done_by_now)) (Some told) events items owned rest same so replies are is = absurd cc
one_entry (Comes (Room number enough)) told events items owned rest same so replies are is = absurd cc
one_entry (Comes (Back number input)) None events items owned rest same so replies are is = rest replies are is
one_entry (Comes (Back number input)) (Some told) events items owned rest same so replies are is = absurd cc

pub own_replies_told : (log : List Logged) → AllByRecursion Fits log → (replies : List OwnReply)
    → AreReplies (filter_map own_event_of (map (λ (logged : Logged). logged.0) log)) replies
    → filter_map (λ (item : GroupEvent × Option GroupReply). item.1) (filter_map of_machine log)
    ≡ replies_as (filter_map own_event_of (map (λ (logged : Logged). logged.0) log)) replies
    → filter_map (λ (one : own.Logged). one.1) (filter_map own_logged log) ≡ replies
own_replies_told [] fits [] are is = refl
own_replies_told [] fits (told ∷ replies) are is = absurd are
own_replies_told (logged ∷ log) fits replies are is =
    one_entry logged.0 logged.1 (filter_map own_event_of (map (λ (it : Logged). it.0) log)) (filter_map of_machine log)
    (filter_map own_logged log) (own_replies_told log fits.1) fits.0.0 fits.0.1 replies are is

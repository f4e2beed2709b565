-- The machine of a realm goes along with a whole history, where what is known of the realm goes along too.
use Rattle.std.proofs.Common.{◌≡◌, ℕ, suc, List, [], ◌∷◌, ◌++◌, length, Option, Some, None, refl, ap, subst}
use Rattle.std.proofs.Common.{sym, ◌∙◌, ◌+◌, ◌≤◌, arith}
use Rattle.std.specs.Prelude.{filter_map, map}
use Rattle.std.specs.Option.{option_and_then, option_map, option_map_or}
use Rattle.std.proofs.lemmas.List.{append_assoc, append-nil, map-append}
use Rattle.std.proofs.lemmas.List.Elements.{filter_map-append}
use Rattle.std.proofs.lemmas.Option.{option_and_then_some}
use Rattle.event_journal.specs.declared.event.Event.{Event}
use Rattle.kernel_model.specs.Application.{Application, Booted}
use Rattle.kernel_model.specs.History.{after_event, after_events}
use Rattle.kernel_model.specs.Kernel.{Kernel}
use Rattle.own_model.proofs.WholeHistories.{IsAt, IsOn, bound_now, on_from}
use Rattle.group_model.proofs.InOrder.{stays_in_order}
use Rattle.group_model.specs.Group.{Answered, Group, and_reply, run, step}
use Rattle.group_model.specs.InOrder.{IsInOrder}
use Rattle.group_model.specs.declared.group_event.GroupEvent.{GroupEvent}
use Rattle.group_model.specs.declared.group_reply.GroupReply.{GroupReply}
use Rattle.realm_model.specs.Histories.{AllWithin, ComesSo}
use Rattle.realm_model.specs.Laws.{About, AreTied, GoesAlong, IsRealm, events_in, replies_in}
use Rattle.realm_model.specs.Reading.{Logged, Notes, event_noted, noted_from, of_machine}
use Rattle.realm_model.specs.Realm.{Realm}
use Rattle.realm_model.proofs.NotesStay.{behind_event}
use Rattle.realm_model.proofs.Ready.{ready_at}
use Rattle.realm_model.proofs.TiedEvents.{events_along}
use Rattle.realm_model.proofs.Within.{items_within, within-append}

-- ---- the machine at events in a row

-- the machine after events and what it replied, and then after more
abbrev pub Ended : Type 0
Ended = Group × List GroupReply

abbrev with_replies : List GroupReply → Ended → Ended
with_replies replies end = (end.0, replies ++ end.1)

abbrev and_told : Option GroupReply → Ended → Ended
and_told told end = (end.0, and_reply told end.1)

and_more : (told : Option GroupReply) (replies : List GroupReply) (end : Ended)
    → and_told told (with_replies replies end) ≡ with_replies (and_reply told replies) end
and_more None replies end = refl
and_more (Some reply) replies end = refl

ended_is : (a b : Ended) → Some a ≡ Some b → a ≡ b
ended_is a b is = cc

abbrev goes_on : ℕ → Application → List GroupEvent → Answered → Option Ended
goes_on most app events answered = option_map (and_told answered.1) (run most app answered.0 events)

-- a first event, where the others behind it go on so
stepped : (most : ℕ) (app : Application) (answered : Answered) (after_it last : Group) (events more : List GroupEvent)
    (replies others : List GroupReply) (end : Option Ended)
    → (end_now : (rest : Ended) → end ≡ Some rest → rest.0 ≡ after_it → run most app answered.0 (events ++ more)
    ≡ Some (last, rest.1 ++ others))
    → option_map (and_told answered.1) end ≡ Some (after_it, replies)
    → goes_on most app (events ++ more) answered ≡ Some (last, replies ++ others)
stepped most app answered after_it last events more replies others None onward e = absurd cc
stepped most app answered after_it last events more replies others (Some rest) onward e =
    let same : and_told answered.1 rest ≡ (after_it, replies) = ended_is (and_told answered.1 rest) (after_it, replies) e in
    ap (λ (o : Option Ended). option_map (and_told answered.1) o) (onward rest refl (ap (λ (x : Ended). x.0) same))
    ∙ ap (λ (x : Ended). Some x) (and_more answered.1 rest.1 (last, others))
    ∙ ap (λ (rs : List GroupReply). Some (last, rs ++ others)) (ap (λ (x : Ended). x.1) same)

run-append : (most : ℕ) (app : Application) (g after_it last : Group) (events more : List GroupEvent)
    (replies others : List GroupReply)
    → run most app g events ≡ Some (after_it, replies) → run most app after_it more ≡ Some (last, others)
    → run most app g (events ++ more) ≡ Some (last, replies ++ others)
run-append most app g after_it last [] more replies others e behind =
    let same : (g, []) ≡ (after_it, replies) = ended_is (g, []) (after_it, replies) e in
    ap (λ (m : Group). run most app m more) (ap (λ (end : Ended). end.0) same) ∙ behind
    ∙ ap (λ (rs : List GroupReply). Some (last, rs ++ others)) (ap (λ (end : Ended). end.1) same)
run-append most app g after_it last (came ∷ events) more replies others e behind =
    option_and_then_some (goes_on most app events) (step most app g came) (after_it, replies) e
    (λ answered there onward.
    ap (λ (o : Option Answered). option_and_then (goes_on most app (events ++ more)) o) there
    ∙ stepped most app answered after_it last events more replies others (run most app answered.0 events)
    (λ rest is same. run-append most app answered.0 rest.0 last events more rest.1 others is
    (ap (λ (m : Group). run most app m more) same ∙ behind)) onward)

-- ---- along a history

events_append : (items more : List Logged) → events_in (items ++ more) ≡ events_in items ++ events_in more
events_append items more =
    ap (λ (log : List (GroupEvent × Option GroupReply)). map (λ (item : GroupEvent × Option GroupReply). item.0) log)
    (filter_map-append of_machine items more)
    ∙ map-append (λ (item : GroupEvent × Option GroupReply). item.0) (filter_map of_machine items)
    (filter_map of_machine more)

replies_append : (items more : List Logged) → replies_in (items ++ more) ≡ replies_in items ++ replies_in more
replies_append items more =
    ap (λ (log : List (GroupEvent × Option GroupReply)). filter_map (λ (item : GroupEvent × Option GroupReply). item.1) log)
    (filter_map-append of_machine items more)
    ∙ filter_map-append (λ (item : GroupEvent × Option GroupReply). item.1) (filter_map of_machine items)
    (filter_map of_machine more)

-- what is noted from here on is what the machine does, within bounds; and this is so at the end
pub record RunsAlong (most : ℕ) (app : Application) (AtEnd : Notes → Group → Type 0) (before : Notes) (g : Group)
    (after : Notes) : Type 0 where
  pub items : List Logged
  pub logged : after.log ≡ before.log ++ items
  pub then : Group
  pub replies : run most app g (events_in items) ≡ Some (then, replies_in items)
  pub more : before.numbering.entered ≤ after.numbering.entered
  pub within : AllWithin after.numbering.entered most app g (events_in items)
  pub end : AtEnd after then

no_less : (a b c : ℕ) → a ≤ b → b ≤ c → a ≤ c
no_less a b c le more = omega (arith, le, more)

runs_on : (most : ℕ) (app : Application) (AtEnd : Notes → Group → Type 0) (before between after : Notes) (g after_it : Group)
    (items : List Logged) → between.log ≡ before.log ++ items
    → run most app g (events_in items) ≡ Some (after_it, replies_in items)
    → before.numbering.entered ≤ between.numbering.entered
    → (before.numbering.entered ≤ after.numbering.entered → AllWithin after.numbering.entered most app g (events_in items))
    → RunsAlong most app AtEnd between after_it after → RunsAlong most app AtEnd before g after
runs_on most app AtEnd before between after g after_it items logged replies grows within rest =
    let more = no_less before.numbering.entered between.numbering.entered after.numbering.entered grows rest.more in record {
      items = items ++ rest.items;
      logged = rest.logged ∙ ap (λ (log : List Logged). log ++ rest.items) logged
          ∙ append_assoc before.log items rest.items;
      then = rest.then;
      replies = ap (λ (es : List GroupEvent). run most app g es) (events_append items rest.items)
          ∙ run-append most app g after_it rest.then (events_in items) (events_in rest.items) (replies_in items)
          (replies_in rest.items) replies rest.replies
          ∙ ap (λ (rs : List GroupReply). Some (rest.then, rs)) (sym (replies_append items rest.items));
      more = more;
      within = subst (AllWithin after.numbering.entered most app g) (sym (events_append items rest.items))
          (within-append after.numbering.entered most app g after_it (events_in items) (events_in rest.items) (replies_in items)
          (within more) replies rest.within);
      end = rest.end;
    }

-- no fewer calls have come in
pub entered_grows : (boot : Booted) (realm : Realm) (kernel next : Kernel) (notes : Notes) (happened : Event)
    → after_event boot kernel happened ≡ Some next
    → notes.numbering.entered ≤ (event_noted boot realm kernel next notes happened).numbering.entered
entered_grows boot realm kernel next notes happened comes =
    behind_event (λ sessions next_session entered log. notes.numbering.entered ≤ entered)
    (λ sessions next_session entered log last other told holds. holds) boot realm kernel next happened notes
    (all notes.numbering.entered)
    (λ cpu steps slot regs reads now came is_entry is inside there its. one_more notes.numbering.entered) comes
  where
    all : (n : ℕ) → n ≤ n
    all n = omega arith

    one_more : (n : ℕ) → n ≤ n + 1
    one_more n = omega arith

-- what is noted of it goes on behind its first event
pub goes_from : (boot : Booted) (realm : Realm) (kernel next : Kernel) (notes : Notes) (happened : Event)
    (events : List Event) → after_event boot kernel happened ≡ Some next
    → noted_from boot realm kernel notes (happened ∷ events)
    ≡ noted_from boot realm next (event_noted boot realm kernel next notes happened) events
goes_from boot realm kernel next notes happened events e =
    ap (λ (o : Option Kernel). option_map_or (λ (k : Kernel). noted_from boot realm k
    (event_noted boot realm kernel k notes happened) events) o notes) e

-- what is known where these events are still to come: each new call comes as one of the realm does, and behind the next
-- event the same is known
pub record Course (boot : Booted) (about : About)
    (Known : List Event → List Event → Kernel → Notes → Group → Type 0) : Type 0 where
  pub comes : (past events : List Event) (kernel : Kernel) (happened : Event) (notes : Notes) (g : Group) →
      Known past (happened ∷ events) kernel notes g → IsAt boot about.most past kernel (happened ∷ events) →
      (on : IsOn boot about.most past kernel happened events) → ComesSo about on.next happened notes
  pub stays : (past events : List Event) (kernel : Kernel) (happened : Event) (notes : Notes) (g : Group) →
      Known past (happened ∷ events) kernel notes g → IsAt boot about.most past kernel (happened ∷ events) →
      (on : IsOn boot about.most past kernel happened events) →
      (goes : GoesAlong about notes g on.next (event_noted boot about.members.realm kernel on.next notes happened)) →
      Known (past ++ happened ∷ []) events on.next (event_noted boot about.members.realm kernel on.next notes happened)
      goes.then

-- kernel and machine at the end of a history, with what is known then
pub record EndsTied (about : About) (Known : List Event → List Event → Kernel → Notes → Group → Type 0) (last : Kernel)
    (notes : Notes) (g : Group) : Type 0 where
  pub history : List Event
  pub known : Known history [] last notes g
  pub tied : AreTied about last.slots last.tables notes g

module _ (boot : Booted) (about : About) (Known : List Event → List Event → Kernel → Notes → Group → Type 0)
    (course : Course boot about Known) (shares : IsRealm boot about.members) (key : about.key ≡ boot.key) (last : Kernel) where
  abbrev pub Runs : Notes → Group → Notes → Type 0
  Runs notes g after = RunsAlong about.most about.members.app (EndsTied about Known last) notes g after

  pub tied_on : (past : List Event) (kernel : Kernel) (notes : Notes) (g : Group) (events : List Event) → IsInOrder g
      → Known past events kernel notes g → AreTied about kernel.slots kernel.tables notes g
      → IsAt boot about.most past kernel events → after_events boot kernel events ≡ Some last
      → Runs notes g (noted_from boot about.members.realm kernel notes events)
  tied_on past kernel notes g [] ordered known tied at ends =
      let same : kernel ≡ last = cc in
      record {
        items = [];
        logged = sym (append-nil notes.log);
        then = g;
        replies = refl;
        more = all notes.numbering.entered;
        within = tt;
        end = subst (λ (k : Kernel). EndsTied about Known k notes g) same
            (record { history = past; known = known; tied = tied });
      }
    where
      all : (n : ℕ) → n ≤ n
      all n = omega arith
  tied_on past kernel notes g (happened ∷ events) ordered known tied at ends =
      let on = on_from boot about.most past kernel happened events at in
      let ready = ready_at boot about past kernel g shares at.there
      (bound_now (length past) (suc (length events)) about.most at.bound) ordered in
      let goes = events_along boot about (length past) kernel on.next happened notes g shares key ready
      (course.comes past events kernel happened notes g known at on) on.comes tied in
      let later = stays_in_order.runs about.most about.members.app g goes.then (events_in goes.items)
      (replies_in goes.items) ordered goes.replies in
      let noted : Notes = event_noted boot about.members.realm kernel on.next notes happened in
      let onward : after_events boot on.next events ≡ Some last =
      sym (ap (λ (o : Option Kernel). option_and_then (λ (next : Kernel). after_events boot next events) o) on.comes) ∙ ends in
      let rest = tied_on (past ++ happened ∷ []) on.next noted goes.then events later
      (course.stays past events kernel happened notes g known at on goes) goes.tied on.at onward in
      let after : Notes = noted_from boot about.members.realm on.next noted events in
      subst (Runs notes g) (sym (goes_from boot about.members.realm kernel on.next notes happened events on.comes))
      (runs_on about.most about.members.app (EndsTied about Known last) notes noted after g goes.then goes.items goes.noted
      goes.replies (entered_grows boot about.members.realm kernel on.next notes happened on.comes)
      (λ more. items_within about (length past) kernel notes g ready tied after.numbering.entered
      (subst (λ n. n ≤ after.numbering.entered) tied.tied.entered more) boot about.members.realm on.next happened goes.items
      goes.noted) rest)

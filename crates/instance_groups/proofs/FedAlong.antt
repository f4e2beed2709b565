-- The machine of a group can be fed with what has happened to the group: what comes next has a number and room for its steps,
-- since the machine stays within bounds.
use Rattle.std.proofs.Common.{◌≡◌, ℕ, ◌+◌, ◌*◌, ◌^◌, ◌<◌, ◌≤◌, List, [], ◌∷◌, length, Option, Some, None, refl, ap, sym, subst, ◌∙◌, arith}
use Rattle.std.specs.Prelude.{Err, IfOk, IsSomeAnd, Ok, Result}
use Rattle.std.specs.Option.{option_and_then, option_map, option_map_or}
use Rattle.base.specs.declared.no_memory.NoMemory.{NoMemory}
use Rattle.event_journal.specs.Journal.{copied_bytes}
use Rattle.event_journal.specs.declared.event.Event.{Event}
use Rattle.group_model.specs.Group.{Answered, Group, and_reply, group_machine_replies, nobody_there, run, step}
use Rattle.group_model.specs.Isolation.{IsGroupOf}
use Rattle.group_model.specs.Read.{Notes, group_events, group_replies, noted}
use Rattle.group_model.specs.declared.group_event.GroupEvent.{GroupEvent}
use Rattle.group_model.specs.declared.group_event.GroupEvent.TheVariants.{Open, Invoke, Close, Cancel, Seen, Room, Back, Out}
use Rattle.group_model.specs.declared.group_reply.GroupReply.{GroupReply}
use Rattle.group_solo.specs.Feeding.{CanBeFed, IsFine}
use Rattle.instance_groups.proofs.GroupLogs.{group_calls_read}
use Rattle.instance_groups.specs.Journals.{IsSharedApp, group_events_of, group_replies_of}
use Rattle.isolation.proofs.FedAlong.{has_room}
use Rattle.realm_notes.specs.Journals.{IsJournal}
use Rattle.kernel_model.proofs.Parts.{option_map_some}
use Rattle.kernel_model.proofs.SoundMemory.{own_uuid}
use Rattle.kernel_model.specs.Application.{Application, Booted}
use Rattle.kernel_model.specs.History.{IsLegal}
use Rattle.kernel_model.specs.Instances.{app_of}
use Rattle.own_model.specs.Isolation.{steps_in}
use Rattle.realm_model.proofs.Answered.{groups_answered, realms_within}
use Rattle.realm_model.proofs.Groups.{groups_are_realms}
use Rattle.realm_model.specs.Histories.{AllWithin, IsWithin}
use Rattle.realm_model.specs.Realm.{AllSessions}

-- ---- events in a row

abbrev Ended : Type 0
Ended = Group × List GroupReply

-- what the others behind an event come to
abbrev behind : ℕ → Application → List GroupEvent → Answered → Option Ended
behind most app events answered = option_map (λ (end : Ended). (end.0, and_reply answered.1 end.1)) (run most app answered.0 events)

module _ (calls most : ℕ) (few : calls < 2 ^ 32) (short : most < 2 ^ 127) where
  has_number : (g : Group) → g.entered ≤ calls → g.entered < 2 ^ 32
  has_number g le = less g.entered calls le few
    where
      less : (own n : ℕ) → own ≤ n → n < 2 ^ 32 → own < 2 ^ 32
      less own n le lt = omega (arith, le, lt)

  -- what is within has a number and room
  fine_so : (g : Group) (came : GroupEvent) → IsWithin calls most g came → IsFine most g came
  fine_so g (Open input login limited area) within = record { number = has_number g within; room = tt }
  fine_so g (Invoke session func input area) within = record { number = has_number g within; room = tt }
  fine_so g (Close session area) within = record { number = has_number g within; room = tt }
  fine_so g (Cancel session) within = record { number = has_number g within; room = tt }
  fine_so g (Seen number done_by_now) within = record { number = tt; room = tt }
  fine_so g (Room number enough) within = record { number = tt; room = tt }
  fine_so g (Back number input) within = record { number = tt; room = tt }
  fine_so g (Out number) within =
      record { number = tt; room = λ call there. has_room most call.steps call.phase (within call there) short }

-- what can come and is fine can be fed
comes_so : (most : ℕ) (app : Application) (events : List GroupEvent) (end : Ended) (o : Option Answered)
    → option_and_then (behind most app events) o ≡ Some end
    → ((answered : Answered) (last : Ended) → run most app answered.0 events ≡ Some last → o ≡ Some answered → CanBeFed most app answered.0 events)
    → IsSomeAnd o (λ (answered : Answered). CanBeFed most app answered.0 events)
comes_so most app events end None e rest = absurd cc
comes_so most app events end (Some answered) e rest =
    let last = option_map_some _ (run most app answered.0 events) end e in rest answered last.0 last.1 refl

can_be_fed : (calls most : ℕ) (app : Application) (g : Group) (events : List GroupEvent) (end : Ended) → calls < 2 ^ 32 → most < 2 ^ 127
    → run most app g events ≡ Some end → AllWithin calls most app g events → CanBeFed most app g events
can_be_fed calls most app g [] end few short e all = tt
can_be_fed calls most app g (event ∷ events) end few short e all = (
  fine_so calls most few short g event all.0,
  comes_so most app events end (step most app g event) e
      (λ answered last onward is. can_be_fed calls most app answered.0 events last few short onward (all.1 answered is)),
)

-- ---- a group

-- its machine stays within bounds
group_within : (boot : Booted) (history : List Event) (app : Application) → IsGroupOf boot history app
    → AllWithin (noted boot history app).numbering.entered (steps_in history) app (nobody_there boot.key) (group_events boot history app)
group_within boot history app of =
    subst (λ (n : Notes). AllWithin n.numbering.entered (steps_in history) app (nobody_there boot.key) (group_events boot history app))
    (sym (groups_are_realms.noted_so boot history app))
    (subst (AllWithin _ (steps_in history) app (nobody_there boot.key)) (sym (groups_are_realms.events boot history app))
    (realms_within boot history (AllSessions app) app (refl, of)))

-- the machine of a group in a legal history can be fed with what has happened to it
group_can_be_fed : (boot : Booted) (history : List Event) (app : Application) → IsGroupOf boot history app → copied_bytes history ≤ 2 ^ 28
    → length history < 2 ^ 64 → CanBeFed (steps_in history) app (nobody_there boot.key) (group_events boot history app)
group_can_be_fed boot history app of reads short =
    let end = option_map_some _ (run (steps_in history) app (nobody_there boot.key) (group_events boot history app)) (group_replies boot history app)
    (groups_answered boot history app of) in
    can_be_fed (noted boot history app).numbering.entered (steps_in history) app (nobody_there boot.key) (group_events boot history app)
    end.0
    (few_calls (noted boot history app).numbering.entered (noted boot history app).next_session (copied_bytes history)
    (group_calls_read boot app history of.legal.follows) reads)
    (few_steps (length history) short) end.1 (group_within boot history app of)
  where
    few_calls : (calls sessions bytes : ℕ) → 16 * (calls + sessions) ≤ bytes → bytes ≤ 2 ^ 28 → calls < 2 ^ 32
    few_calls calls sessions bytes counts few = omega (arith, counts, few)

    few_steps : (n : ℕ) → n < 2 ^ 64 → 1000000 * n < 2 ^ 127
    few_steps n lt = omega (arith, lt)

-- ---- what is read off a journal

-- its events and replies are those of the application that the boot has under the UUID
shared_events : (boot : Booted) (history : List Event) (uuid : List ℕ) (app : Application) → app_of boot uuid ≡ Some app
    → group_events_of boot history uuid ≡ group_events boot history app
shared_events boot history uuid app of = ap (λ (o : Option Application). option_map_or (group_events boot history) o []) of

shared_replies : (boot : Booted) (history : List Event) (uuid : List ℕ) (app : Application) → app_of boot uuid ≡ Some app
    → group_replies_of boot history uuid ≡ group_replies boot history app
shared_replies boot history uuid app of = ap (λ (o : Option Application). option_map_or (group_replies boot history) o []) of

group_of : (boot : Booted) (history : List Event) (uuid : List ℕ) (app : Application) → IsLegal boot history
    → IsSharedApp boot uuid app → IsGroupOf boot history app
group_of boot history uuid app legal shared =
    record { legal = legal; has = own_uuid boot uuid app shared.of_uuid; shares = shared.shares }

-- the machine of the group can be fed with the events
pub fed_so : {T : Type 0} (result : Result T NoMemory) (items : T → List GroupEvent) (boot : Booted) (history : List Event)
    (uuid : List ℕ) (app : Application) → IsJournal boot history → IsSharedApp boot uuid app → length history < 2 ^ 64
    → IfOk result (λ x. items x ≡ group_events_of boot history uuid)
    → IfOk result (λ x. CanBeFed (steps_in history) app (nobody_there boot.key) (items x))
fed_so (Ok x) items boot history uuid app journal shared short e =
    subst (CanBeFed (steps_in history) app (nobody_there boot.key)) (sym (e ∙ shared_events boot history uuid app shared.of_uuid))
    (group_can_be_fed boot history app (group_of boot history uuid app journal.legal shared) journal.few short)
fed_so (Err error) items boot history uuid app journal shared short e = tt

-- and its replies are those that it gives alone
pub alone_so : {T : Type 0} (result : Result T NoMemory) (items : T → List GroupReply) (boot : Booted) (history : List Event)
    (uuid : List ℕ) (app : Application) → IsJournal boot history → IsSharedApp boot uuid app
    → IfOk result (λ x. items x ≡ group_replies_of boot history uuid)
    → IfOk result (λ x. group_machine_replies (steps_in history) app boot.key (group_events_of boot history uuid) ≡ Some (items x))
alone_so (Ok x) items boot history uuid app journal shared e =
    ap (group_machine_replies (steps_in history) app boot.key) (shared_events boot history uuid app shared.of_uuid)
    ∙ groups_answered boot history app (group_of boot history uuid app journal.legal shared)
    ∙ ap (λ (replies : List GroupReply). Some replies) (sym (e ∙ shared_replies boot history uuid app shared.of_uuid))
alone_so (Err error) items boot history uuid app journal shared e = tt

-- The code's notes of a realm stay those of the definitions.
use Rattle.std.proofs.Common.{◌≡◌, ℕ, ◌+◌, ◌<◌, ◌==◌, Bool, true, false, List, [], ◌∷◌, ◌++◌, length, Option, Some, None, ap, sym, subst, ◌∙◌}
use Rattle.std.specs.Prelude.{slice_get, slice_set, not, filter, if◌then◌else◌}
use Rattle.std.specs.Option.{option_or}
use Rattle.base.specs.NumberMap.{NumberMap, insert}
use Rattle.group_model.specs.Group.{plain}
use Rattle.group_model.specs.declared.group_event.GroupEvent.{GroupEvent}
use Rattle.group_model.specs.declared.group_event.GroupEvent.TheVariants.{Out}
use Rattle.group_model.specs.declared.group_reply.GroupReply.{GroupReply}
use Rattle.kernel_model.proofs.Parts.{set_other}
use Rattle.kernel_model.specs.Kernel.{PendingCall}
use Rattle.own_model.proofs.InOrder.{by_numbers}
use Rattle.own_model.specs.Own as own
use Rattle.own_model.specs.declared.own_reply.OwnReply.{OwnReply}
use Rattle.own_model.specs.declared.own_reply.OwnReply.TheVariants as reply
use Rattle.realm_model.specs.Reading as realm
use Rattle.realm_model.specs.Realm.{Realm}
use Rattle.realm_model.specs.declared.realm_event.RealmEvent.TheVariants.{Comes, TurnedAway}
use Rattle.realm_notes.proofs.Away.{gone, others_away, set_at}
use Rattle.realm_notes.proofs.WentOut.{gone_noted, realm_finished, realm_left}
use Rattle.realm_notes.specs.Noted.{AreNoted, HasFinishedAs, IsLeft, has_entered, is_away, with_told}
use Rattle.realm_notes.specs.Numbers.{AreNumbers, without_slot}
use Rattle.realm_notes.specs.Telling.{reply_of_call, wake_as}
use Rattle.realm_notes.specs.declared.arriving.NewEvent.{NewEvent}
use Rattle.realm_notes.specs.declared.notes.Notes.{Notes}
use Rattle.realm_notes.specs.declared.numbering.Numbering.{Numbering}
use Rattle.rpc_cont.specs.declared.cont.Cont.{Cont}

-- ---- those that were turned away

abbrev pub AreAway : List Bool → List ℕ → Type 0
AreAway code away = (cpu : ℕ) → cpu < 8 → slice_get code cpu ≡ Some (is_away away cpu)

pub away_unset : (code : List Bool) (away : List ℕ) (cpu : ℕ) → cpu < length code → AreAway code away
    → AreAway (slice_set code cpu false) (filter (λ one. not (one == cpu)) away)
away_unset code away cpu below are other under =
    by_numbers cpu other
    (λ same. subst (λ n. slice_get (slice_set code cpu false) n ≡ Some (is_away (filter (λ one. not (one == cpu)) away) n)) same
    (set_at code cpu false below ∙ ap (λ (b : Bool). Some b) (sym (gone away cpu))))
    (λ apart. set_other code cpu other false apart ∙ are other under
    ∙ ap (λ (b : Bool). Some b) (sym (others_away away cpu other apart)))

-- ---- notes

-- what an event leaves as it was: the UUID, the numbers of sessions, and those that were turned away
pub record StayAside (old new : Notes) : Type 0 where
  pub uuid : new.uuid ≡ old.uuid
  pub sessions : new.sessions.entries ≡ old.sessions.entries
  pub next_session : new.next_session ≡ old.next_session
  pub turned_away : new.turned_away ≡ old.turned_away

-- notes with another log
pub logged_aside : (old new : Notes) → new ≡ record old { log = new.log } → StayAside old new
logged_aside old new same = record {
  uuid = ap (λ (n : Notes). n.uuid) same;
  sessions = ap (λ (n : Notes). n.sessions.entries) same;
  next_session = ap (λ (n : Notes). n.next_session) same;
  turned_away = ap (λ (n : Notes). n.turned_away) same;
}

module _ (old new : Notes) (notes : realm.Notes) (are : AreNoted old notes) where
  abbrev AwayAs : Type 0
  AwayAs = (cpu : ℕ) → cpu < 8 → slice_get new.turned_away cpu ≡ Some (is_away notes.turned_away cpu)

  away_as : new.turned_away ≡ old.turned_away → AwayAs
  away_as same cpu below = ap (λ (bs : List Bool). slice_get bs cpu) same ∙ are.turned_away cpu below

  -- a call came in that got no session
  pub call_listed : (slot session : ℕ) (came : NewEvent) → came.gets ≡ false
      → AreNumbers new.numbering (own.next_in notes.numbering slot) → new.uuid ≡ option_or came.opens old.uuid
      → new.turned_away ≡ old.turned_away → new.sessions.entries ≡ old.sessions.entries → new.next_session ≡ old.next_session
      → new.log.items ≡ old.log.items ++ (came.event, None) ∷ [] → AreNoted new (has_entered notes slot session came)
  call_listed slot session came none numbers uuid away sessions next log =
      let now : AreNoted new (has_entered notes slot session (record came { gets = false })) = record {
        uuid = uuid ∙ ap (option_or came.opens) are.uuid;
        sessions = sessions ∙ are.sessions;
        next_session = next ∙ are.next_session;
        numbering = numbers;
        turned_away = away_as away;
        log = log ∙ ap (λ (l : List realm.Logged). l ++ (came.event, None) ∷ []) are.log;
      } in
      subst (λ (b : Bool). AreNoted new (has_entered notes slot session (record came { gets = b }))) (sym none) now

  -- one that got this session
  pub open_listed : (slot session : ℕ) (came : NewEvent) → came.gets ≡ true
      → AreNumbers new.numbering (own.next_in notes.numbering slot) → new.uuid ≡ option_or came.opens old.uuid
      → new.turned_away ≡ old.turned_away
      → new.sessions.entries ≡ insert old.sessions.entries session old.next_session → new.next_session ≡ old.next_session + 1
      → new.log.items ≡ old.log.items ++ (came.event, None) ∷ [] → AreNoted new (has_entered notes slot session came)
  open_listed slot session came one numbers uuid away sessions next log =
      let now : AreNoted new (has_entered notes slot session (record came { gets = true })) = record {
        uuid = uuid ∙ ap (option_or came.opens) are.uuid;
        sessions = sessions ∙ ap (λ (m : NumberMap ℕ). insert m session old.next_session) are.sessions
            ∙ ap (λ (n : ℕ). insert notes.sessions session n) are.next_session;
        next_session = next ∙ ap (λ (n : ℕ). n + 1) are.next_session;
        numbering = numbers;
        turned_away = away_as away;
        log = log ∙ ap (λ (l : List realm.Logged). l ++ (came.event, None) ∷ []) are.log;
      } in
      subst (λ (b : Bool). AreNoted new (has_entered notes slot session (record came { gets = b }))) (sym one) now

  pub event_noted : (came : GroupEvent) → new ≡ record old { log = new.log }
      → new.log.items ≡ old.log.items ++ (Comes came, None) ∷ [] → AreNoted new (realm.with_event notes came)
  event_noted came same log =
      let aside = logged_aside old new same in
      record {
        uuid = aside.uuid ∙ are.uuid;
        sessions = aside.sessions ∙ are.sessions;
        next_session = aside.next_session ∙ are.next_session;
        numbering = subst (λ (n : Numbering). AreNumbers n notes.numbering) (sym (ap (λ (n : Notes). n.numbering) same)) are.numbering;
        turned_away = away_as aside.turned_away;
        log = log ∙ ap (λ (l : List realm.Logged). l ++ (Comes came, None) ∷ []) are.log;
      }

  -- a processor goes out, which was turned away or not
  pub limit_noted : (cpu : ℕ) → cpu < 8 → cpu < length old.turned_away → slice_get old.turned_away cpu ≡ Some true
      → (bits : List Bool) → new ≡ record old { turned_away = bits; log = new.log } → bits ≡ slice_set old.turned_away cpu false
      → new.log.items ≡ old.log.items ++ (TurnedAway, Some (plain reply.Limited)) ∷ [] → AreNoted new (realm.limit_noted notes cpu)
  limit_noted cpu under below was bits same away log =
      let is : is_away notes.turned_away cpu ≡ true = let both : Some (is_away notes.turned_away cpu) ≡ Some true =
      sym (are.turned_away cpu under) ∙ was in cc in
      let after : realm.Notes = record notes {
        turned_away = filter (λ away. not (away == cpu)) notes.turned_away;
        log = notes.log ++ (TurnedAway, Some (plain reply.Limited)) ∷ [];
      } in
      let now : AreNoted new after = record {
        uuid = ap (λ (n : Notes). n.uuid) same ∙ are.uuid;
        sessions = ap (λ (n : Notes). n.sessions.entries) same ∙ are.sessions;
        next_session = ap (λ (n : Notes). n.next_session) same ∙ are.next_session;
        numbering = subst (λ (n : Numbering). AreNumbers n notes.numbering) (sym (ap (λ (n : Notes). n.numbering) same)) are.numbering;
        turned_away = λ other beneath. ap (λ (n : Notes). slice_get n.turned_away other) same
            ∙ ap (λ (bs : List Bool). slice_get bs other) away
            ∙ away_unset old.turned_away notes.turned_away cpu below are.turned_away other beneath;
        log = log ∙ ap (λ (l : List realm.Logged). l ++ (TurnedAway, Some (plain reply.Limited)) ∷ []) are.log;
      } in
      subst (λ (n : realm.Notes). AreNoted new n)
      (sym (ap (λ (b : Bool). if b then after else notes) is)) now

  pub no_limit_noted : (cpu : ℕ) → cpu < 8 → slice_get old.turned_away cpu ≡ Some false → new ≡ old
      → AreNoted new (realm.limit_noted notes cpu)
  no_limit_noted cpu under was same =
      let is : is_away notes.turned_away cpu ≡ false = let both : Some (is_away notes.turned_away cpu) ≡ Some false =
      sym (are.turned_away cpu under) ∙ was in cc in
      let after : realm.Notes = record notes {
        turned_away = filter (λ away. not (away == cpu)) notes.turned_away;
        log = notes.log ++ (TurnedAway, Some (plain reply.Limited)) ∷ [];
      } in
      subst (λ (n : realm.Notes). AreNoted new n) (sym (ap (λ (b : Bool). if b then after else notes) is))
      (subst (λ (code : Notes). AreNoted code notes) (sym same) are)

  -- the log with a reply, or as it was
  told_listed : (number : ℕ) (told : Option OwnReply) (numbers : own.Numbering)
      → new.log.items ≡ with_told old.log.items number told → AreNumbers new.numbering numbers → StayAside old new
      → AreNoted new (gone_noted notes number None told numbers)
  told_listed number None numbers log are_numbers aside = record {
    uuid = aside.uuid ∙ are.uuid;
    sessions = aside.sessions ∙ are.sessions;
    next_session = aside.next_session ∙ are.next_session;
    numbering = are_numbers;
    turned_away = away_as aside.turned_away;
    log = log ∙ are.log;
  }
  told_listed number (Some told) numbers log are_numbers aside =
      let replied : GroupReply = record { reply = told; opened = None } in
      record {
        uuid = aside.uuid ∙ are.uuid;
        sessions = aside.sessions ∙ are.sessions;
        next_session = aside.next_session ∙ are.next_session;
        numbering = are_numbers;
        turned_away = away_as aside.turned_away;
        log = log ∙ ap (λ (l : List realm.Logged). l ++ (Comes (Out number), Some replied) ∷ []) are.log;
      }

  pub out_noted : (of : Realm) (slot number : ℕ) (call : PendingCall) (cont : Cont (List ℕ)) → IsLeft slot call cont
      → (let woken = own.wake_kept notes.numbering slot (wake_as cont) in
      AreNumbers new.numbering (own.with_wake notes.numbering slot woken)
      → new.log.items ≡ with_told old.log.items number (reply_of_call cont woken) → StayAside old new
      → AreNoted new (realm.exit_noted of notes slot call number))
  out_noted of slot number call cont is numbers log aside =
      let woken = own.wake_kept notes.numbering slot (wake_as cont) in
      subst (λ (n : realm.Notes). AreNoted new n) (sym (realm_left of notes slot number call cont is))
      (told_listed number (reply_of_call cont woken) (own.with_wake notes.numbering slot woken) log numbers aside)

  pub finished_noted : (of : Realm) (slot number : ℕ) (call : PendingCall) (told : GroupReply)
      → HasFinishedAs of notes slot call told → AreNumbers new.numbering (without_slot notes.numbering slot)
      → new.log.items ≡ old.log.items ++ (Comes (Out number), Some told) ∷ [] → StayAside old new
      → AreNoted new (realm.exit_noted of notes slot call number)
  finished_noted of slot number call told is numbers log aside =
      let now : AreNoted new (gone_noted notes number told.opened (Some told.reply) (without_slot notes.numbering slot)) = record {
        uuid = aside.uuid ∙ are.uuid;
        sessions = aside.sessions ∙ are.sessions;
        next_session = aside.next_session ∙ are.next_session;
        numbering = numbers;
        turned_away = away_as aside.turned_away;
        log = log ∙ ap (λ (l : List realm.Logged). l ++ (Comes (Out number), Some told) ∷ []) are.log;
      } in
      subst (λ (n : realm.Notes). AreNoted new n) (sym (realm_finished of notes slot number call told is)) now

-- What is noted of a realm's call that goes out of its slot.
use Rattle.std.proofs.Common.{◌≡◌, ℕ, Bool, true, false, List, [], ◌∷◌, Option, Some, None, refl, ap, sym, ◌∙◌}
use Rattle.std.specs.Prelude.{if◌then◌else◌, ◌==◌}
use Rattle.std.specs.Option.{option_and_then, option_map_or}
use Rattle.realm_model.specs.Reading.{Notes, exit_noted, number_of, opened_in, with_reply}
use Rattle.realm_model.specs.Realm.{Realm}
use Rattle.realm_notes.specs.Noted.{HasFinished, HasFinishedAs, IsLeft, opened_so}
use Rattle.realm_notes.specs.Numbers.{without_slot}
use Rattle.realm_notes.specs.Telling.{reply_of_call, wake_as}
use Rattle.realm_notes.proofs.LeftCalls.{noted_finished, noted_left}
use Rattle.job_model.specs.declared.call_kind.CallKind.{CallKind}
use Rattle.job_model.specs.declared.call_kind.CallKind.TheVariants as kind
use Rattle.kernel_model.specs.Codes.{success}
use Rattle.kernel_model.specs.Exit.{slot_left}
use Rattle.kernel_model.specs.Kernel.{CallPhase, Free, PendingCall, Suspended}
use Rattle.kernel_model.specs.Leaving.{Leaving, Interrupted, WantsBuffer, Requests, FreesBuffer, Finishes, leaving_of}
use Rattle.own_model.specs.Own as own
use Rattle.group_model.specs.declared.group_reply.GroupReply.{GroupReply}
use Rattle.own_model.specs.declared.own_reply.OwnReply.{OwnReply}
use Rattle.rpc_cont.specs.declared.cont.Cont.{Cont}

-- ---- the notes behind it

-- with the reply, if there is one, and these numbers
abbrev pub gone_noted : Notes → ℕ → Option ℕ → Option OwnReply → own.Numbering → Notes
gone_noted notes number opened told numbers =
    record (option_map_or (with_reply number notes opened) told notes) { numbering = numbers }

-- ---- as those of a session with the same numbers

module _ (numbers : own.Numbering) where
  abbrev beside : own.Notes
  beside = record own.no_notes { numbering = numbers }

  abbrev first_told : List own.Logged → Option OwnReply
  first_told [] = None
  first_told (logged ∷ rest) = logged.1

  shown : (number : ℕ) (told : Option OwnReply) → first_told (option_map_or (own.with_reply number beside) told beside).log ≡ told
  shown number None = refl
  shown number (Some reply) = refl

  abbrev ReplyOf : ℕ → PendingCall → Option OwnReply
  ReplyOf slot call = own.reply_of (own.wake_kept numbers slot (own.wake_of call.phase)) call.phase (leaving_of slot call)

  abbrev NumbersOf : ℕ → PendingCall → own.Numbering
  NumbersOf slot call = own.slot_kept (own.with_wake numbers slot (own.wake_kept numbers slot (own.wake_of call.phase))) slot (leaving_of slot call)

  left_reply : (slot : ℕ) (call : PendingCall) (cont : Cont (List ℕ)) → IsLeft slot call cont
      → ReplyOf slot call ≡ reply_of_call cont (own.wake_kept numbers slot (wake_as cont))
  left_reply slot call cont is =
      sym (shown 0 (ReplyOf slot call))
      ∙ ap (λ (n : own.Notes). first_told n.log) (noted_left beside slot 0 call cont is)
      ∙ shown 0 (reply_of_call cont (own.wake_kept numbers slot (wake_as cont)))

  left_numbers : (slot : ℕ) (call : PendingCall) (cont : Cont (List ℕ)) → IsLeft slot call cont
      → NumbersOf slot call ≡ own.with_wake numbers slot (own.wake_kept numbers slot (wake_as cont))
  left_numbers slot call cont is = ap (λ (n : own.Notes). n.numbering) (noted_left beside slot 0 call cont is)

  end_reply : (slot : ℕ) (call : PendingCall) (told : OwnReply) → HasFinished slot call told → ReplyOf slot call ≡ Some told
  end_reply slot call told is =
      sym (shown 0 (ReplyOf slot call))
      ∙ ap (λ (n : own.Notes). first_told n.log) (noted_finished beside slot 0 call told is)

  end_numbers : (slot : ℕ) (call : PendingCall) (told : OwnReply) → HasFinished slot call told
      → NumbersOf slot call ≡ without_slot numbers slot
  end_numbers slot call told is = ap (λ (n : own.Notes). n.numbering) (noted_finished beside slot 0 call told is)

-- ---- what it has opened

module _ (of : Realm) (notes : Notes) (call : PendingCall) where
  -- one that stays in its slot, nothing
  nothing_opened : (call_kind : CallKind) (leaving : Leaving) (left : PendingCall) → slot_left call leaving ≡ Suspended call.client left
      → opened_in of notes call call_kind leaving ≡ None
  nothing_opened kind.Open Interrupted left e = refl
  nothing_opened kind.Open WantsBuffer left e = refl
  nothing_opened kind.Open (Requests place request) left e = refl
  nothing_opened kind.Open (FreesBuffer buffer) left e = refl
  nothing_opened kind.Open (Finishes result params) left e = absurd cc
  nothing_opened (kind.Invoke func) leaving left e = refl
  nothing_opened kind.Close leaving left e = refl
  nothing_opened kind.Settled leaving left e = refl

  looked_up : (session : ℕ) (test : Bool)
      → (if test then number_of of notes session else None)
      ≡ option_and_then (number_of of notes) (if test then Some session else None)
  looked_up session true = refl
  looked_up session false = refl

  -- one that has finished, what its reply says
  end_opened : (call_kind : CallKind) (leaving : Leaving) (woken : Option ℕ) (phase : CallPhase) (told : OwnReply)
      → slot_left call leaving ≡ Free → own.reply_of woken phase leaving ≡ Some told
      → opened_in of notes call call_kind leaving ≡ option_and_then (number_of of notes) (opened_so call_kind call.session told)
  end_opened kind.Open Interrupted woken phase told free is = absurd cc
  end_opened kind.Open WantsBuffer woken phase told free is = absurd cc
  end_opened kind.Open (Requests place request) woken phase told free is = absurd cc
  end_opened kind.Open (FreesBuffer buffer) woken phase told free is = absurd cc
  end_opened kind.Open (Finishes result params) woken phase told free is =
      let same : own.ended result params ≡ told = cc in
      looked_up call.session (result.result == success)
      ∙ ap (λ (r : OwnReply). option_and_then (number_of of notes) (opened_so kind.Open call.session r)) same
  end_opened (kind.Invoke func) leaving woken phase told free is = refl
  end_opened kind.Close leaving woken phase told free is = refl
  end_opened kind.Settled leaving woken phase told free is = refl

-- ---- both

pub realm_left : (of : Realm) (notes : Notes) (slot number : ℕ) (call : PendingCall) (cont : Cont (List ℕ)) → IsLeft slot call cont
    → exit_noted of notes slot call number
    ≡ gone_noted notes number None (reply_of_call cont (own.wake_kept notes.numbering slot (wake_as cont)))
    (own.with_wake notes.numbering slot (own.wake_kept notes.numbering slot (wake_as cont)))
realm_left of notes slot number call cont is =
    ap (λ (o : Option ℕ). gone_noted notes number o (ReplyOf notes.numbering slot call) (NumbersOf notes.numbering slot call))
    (nothing_opened of notes call call.kind (leaving_of slot call) is.left is.in_slot)
    ∙ ap (λ (r : Option OwnReply). gone_noted notes number None r (NumbersOf notes.numbering slot call))
    (left_reply notes.numbering slot call cont is)
    ∙ ap (λ (n : own.Numbering). gone_noted notes number None (reply_of_call cont (own.wake_kept notes.numbering slot (wake_as cont))) n)
    (left_numbers notes.numbering slot call cont is)

pub realm_finished : (of : Realm) (notes : Notes) (slot number : ℕ) (call : PendingCall) (told : GroupReply)
    → HasFinishedAs of notes slot call told
    → exit_noted of notes slot call number
    ≡ gone_noted notes number told.opened (Some told.reply) (without_slot notes.numbering slot)
realm_finished of notes slot number call told is =
    let reply = end_reply notes.numbering slot call told.reply is.finished in
    ap (λ (o : Option ℕ). gone_noted notes number o (ReplyOf notes.numbering slot call) (NumbersOf notes.numbering slot call))
    (end_opened of notes call call.kind (leaving_of slot call) (own.wake_kept notes.numbering slot (own.wake_of call.phase)) call.phase
    told.reply is.finished.free reply
    ∙ sym is.opened)
    ∙ ap (λ (r : Option OwnReply). gone_noted notes number told.opened r (NumbersOf notes.numbering slot call)) reply
    ∙ ap (λ (n : own.Numbering). gone_noted notes number told.opened (Some told.reply) n)
    (end_numbers notes.numbering slot call told.reply is.finished)

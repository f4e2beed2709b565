-- In two histories in which the same has happened to a session, the normal world is shown the same at its exits.
use Rattle.std.proofs.Common.{◌≡◌, ℕ, List, [], ◌∷◌, ◌++◌, Option, Some, None, ap, subst, sym, ◌∙◌}
use Rattle.std.specs.Prelude.{IsSome, slice_get}
use Rattle.std.specs.Option.{option_and_then, option_map, option_map_or}
use Rattle.std.proofs.lemmas.List.Elements.{filter_map-append}
use Rattle.std.proofs.lemmas.Option.{option_and_then_some}
use Rattle.base.specs.NumberMap.{get}
use Rattle.event_journal.specs.declared.event.Event.{Event}
use Rattle.event_journal.specs.declared.event.Event.TheVariants.{Exit}
use Rattle.kernel_model.specs.Application.{Booted}
use Rattle.kernel_model.specs.History.{IsLegal, after_event, after_events, kernel_after}
use Rattle.kernel_model.specs.Kernel.{Kernel, Processor, Progress, first_kernel}
use Rattle.kernel_model.proofs.Parts.{some_of}
use Rattle.kernel_model.proofs.Past.{after_events-append}
use Rattle.ns_ram.specs.Writes.{Write}
use Rattle.smc_abi.specs.Answer.{words_of}
use Rattle.own_model.specs.declared.own_event.OwnEvent.TheVariants.{Out}
use Rattle.own_model.specs.declared.own_reply.OwnReply.{OwnReply}
use Rattle.own_model.specs.Own.{Logged, Notes, exit_noted, no_notes, noted, out_noted, own_replies, replies_in, wake_kept, wake_of, with_reply}
use Rattle.own_model.specs.Shown.{CallPlaces, EndsWithReply, SameEventsShowTheSame, Shown, places_of, seen_with, shown}
use Rattle.own_model.proofs.Shown.{exits_show}
use Rattle.own_model.proofs.WholeHistories.{goes_from}
use Rattle.realm_model.proofs.SessionsKnown.{noted-append}
use Rattle.realm_model.proofs.SessionBeginnings.{same_events}

-- ---- the last reply

module _ (boot : Booted) (history : List Event) (session : ℕ) (last : EndsWithReply boot history session) where
  abbrev notes : Notes
  notes = noted boot last.before session

  abbrev gone : Event
  gone = Exit last.cpu last.went

  -- what is noted of the exit
  log_grows : (out_noted last.kernel notes last.cpu (slice_get last.kernel.processors last.cpu)).log
      ≡ notes.log ++ (Out last.number, Some last.told) ∷ []
  log_grows =
      let out_of = λ (progress : Progress).
      option_map_or (exit_noted notes last.slot progress.call) (get notes.numbering.in_slots last.slot) notes in
      ap (λ (p : Option Processor). (out_noted last.kernel notes last.cpu p).log) last.goes_out.is_inside
      ∙ ap (λ (p : Option Progress). (option_map_or out_of p notes).log) last.goes_out.comes_to
      ∙ ap (λ (n : Option ℕ). (option_map_or (exit_noted notes last.slot last.progress.call) n notes).log) last.is_own
      ∙ ap (λ (r : Option OwnReply). (option_map_or (with_reply last.number notes) r notes).log) last.replies

  -- it is the session's last reply
  replied_last : IsLegal boot history → own_replies boot history session ≡ replies_in notes.log ++ last.told ∷ []
  replied_last legal =
      let end = some_of (kernel_after boot (last.before ++ gone ∷ []))
      (subst (λ (h : List Event). IsSome (kernel_after boot h)) last.last_exit legal.follows) in
      option_and_then_some (λ (next : Kernel). after_events boot next []) (after_event boot last.kernel gone) end.0
      (sym (ap (λ (o : Option Kernel). option_and_then (λ (k : Kernel). after_events boot k (gone ∷ [])) o) last.there)
      ∙ sym (after_events-append boot (first_kernel boot) last.before (gone ∷ [])) ∙ end.1)
      (λ (next : Kernel) comes onward.
      ap (λ (h : List Event). own_replies boot h session) last.last_exit
      ∙ ap (λ (n : Notes). replies_in n.log)
      (noted-append boot session (first_kernel boot) last.kernel no_notes last.before (gone ∷ []) last.there
      ∙ goes_from boot session last.kernel next notes gone [] comes)
      ∙ ap replies_in log_grows
      ∙ filter_map-append (λ (logged : Logged). logged.1) notes.log ((Out last.number, Some last.told) ∷ []))

last_same : (xs ys : List OwnReply) (x y : OwnReply) → xs ++ x ∷ [] ≡ ys ++ y ∷ [] → x ≡ y
last_same [] [] x y e = cc
last_same [] (z ∷ []) x y e = absurd cc
last_same [] (z ∷ w ∷ ys) x y e = absurd cc
last_same (z ∷ []) [] x y e = absurd cc
last_same (z ∷ w ∷ xs) [] x y e = absurd cc
last_same (z ∷ xs) (w ∷ ys) x y e = let rest : xs ++ x ∷ [] ≡ ys ++ y ∷ [] = cc in last_same xs ys x y rest

-- registers and writes
abbrev Seen : Type 0
Seen = List ℕ × List Write

some_seen : (one two : Seen) → Some one ≡ Some two → one ≡ two
some_seen one two e = cc

-- what is written, by what is seen
written : (came regs : List ℕ) (writes : List Write) (told : Option Shown) → option_map (seen_with came) told ≡ Some (regs, writes)
    → option_map (λ (it : Shown). it.writes) told ≡ Some writes
written came regs writes None e = absurd cc
written came regs writes (Some it) e = ap (λ (x : Seen). Some x.1) (some_seen (seen_with came it) (regs, writes) e)

some_writes : (one two : List Write) → Some one ≡ Some two → one ≡ two
some_writes one two e = cc

-- ---- what is shown

pub show_the_same : SameEventsShowTheSame
show_the_same boot another history other session number app keys s t same one two places =
    let told : one.told ≡ two.told =
    last_same (replies_in (noted boot one.before session).log) (replies_in (noted another two.before number).log) one.told two.told
    (sym (replied_last boot history session one s.legal) ∙ same_events boot another history other session number app keys s t same
    ∙ replied_last another other number two t.legal) in
    let first = exits_show one.kernel one.cpu one.slot one.came one.progress one.exited
    (wake_kept (noted boot one.before session).numbering one.slot (wake_of one.progress.call.phase)) one.told one.goes_out one.replies in
    let second = exits_show two.kernel two.cpu two.slot two.came two.progress two.exited
    (wake_kept (noted another two.before number).numbering two.slot (wake_of two.progress.call.phase)) two.told two.goes_out two.replies in
    let same_shown : shown (places_of one.slot one.progress.call) one.told ≡ shown (places_of two.slot two.progress.call) two.told =
    ap (λ (r : OwnReply). shown (places_of one.slot one.progress.call) r) told
    ∙ ap (λ (p : CallPlaces). shown p two.told) places in (
      (λ tails.
          let here : Seen = (one.exited.regs, one.exited.writes) in
          let there : Seen = (two.exited.regs, two.exited.writes) in
          let seen : here ≡ there = some_seen here there
          (sym first ∙ ap (option_map (seen_with one.came)) same_shown
          ∙ ap (λ (tail : List ℕ). option_map (λ (it : Shown). (words_of it.answer ++ tail, it.writes))
          (shown (places_of two.slot two.progress.call) two.told)) tails
          ∙ second) in
          ap (λ (x : Seen). x.0) seen),
      some_writes one.exited.writes two.exited.writes
          (sym (written one.came one.exited.regs one.exited.writes (shown (places_of one.slot one.progress.call) one.told) first)
          ∙ ap (option_map (λ (it : Shown). it.writes)) same_shown
          ∙ written two.came two.exited.regs two.exited.writes (shown (places_of two.slot two.progress.call) two.told) second),
    )

-- A session to which an open has come has an application.
use Rattle.std.proofs.Common.{◌⊎◌, inl, inr, ◌≡◌, ℕ, zero, suc, ◌<◌, ◌≤◌, Bool, List, [], ◌∷◌, ◌++◌, Option}
use Rattle.std.proofs.Common.{Some, None, refl, ap, subst, sym, ◌∙◌, arith}
use Rattle.std.specs.Prelude.{◌==◌, ◌&&◌, not, slice_get}
use Rattle.std.specs.List.{list_any}
use Rattle.std.specs.Option.{option_and_then, option_map_or}
use Rattle.base.specs.NumberMap.{get}
use Rattle.event_journal.specs.declared.event.Event.{Event}
use Rattle.event_journal.specs.declared.event.Event.TheVariants.{Entry, Exit}
use Rattle.kernel_model.proofs.Parts.{if-both, map_or-both, some_of}
use Rattle.kernel_model.proofs.SoundNumbers.{numbered, numbers_rise}
use Rattle.kernel_model.specs.Application.{Application, Booted}
use Rattle.kernel_model.specs.Exit.{progress_in_slot}
use Rattle.kernel_model.specs.Given.{Given, given_to}
use Rattle.kernel_model.specs.History.{IsLegal, after_event, kernel_after}
use Rattle.kernel_model.specs.Instances.{app_of}
use Rattle.kernel_model.specs.Kernel.{Active, Fixed, Free, InSlot, Inside, Kernel, Outside, PendingCall, Processor}
use Rattle.kernel_model.specs.Kernel.{Progress, Suspended, ThreadSlot, Visit, first_kernel}
use Rattle.kernel_model.specs.Leaving.{FreesBuffer, Finishes, Interrupted, Leaving, Requests, WantsBuffer, leaving_of}
use Rattle.ns_ram.specs.Reader.{reading}
use Rattle.own_model.proofs.BelowNumbers.{below_numbers}
use Rattle.own_model.proofs.UuidKept.{uuid_stays}
use Rattle.own_model.proofs.WholeHistories.{IsAt, IsOn, from_first, goes_from, on_from}
use Rattle.own_model.specs.Isolation.{steps_in}
use Rattle.own_model.specs.Own.{Entering, Logged, Notes, Resuming, back_noted, entry_noted, event_noted, event_of}
use Rattle.own_model.specs.Own.{events_in, exit_noted, is_limit, is_of_client, no_notes, noted, noted_from, numbered as with_number}
use Rattle.own_model.specs.Own.{out_noted, own_app, own_events, reply_of, resume_noted, seen_noted, slot_noted}
use Rattle.own_model.specs.Own.{wake_kept, wake_of, with_reply}
use Rattle.own_model.specs.declared.own_event.OwnEvent.{OwnEvent}
use Rattle.own_model.specs.declared.own_event.OwnEvent.TheVariants.{Open, Invoke, Close, Cancel, Seen, Back, Out, Limited}
use Rattle.realm_model.proofs.EarlyEvents.{EarlyNext, NowNameless, NowOpen, StillEarly, early_next}
use Rattle.ta_params.specs.declared.copied_params.CopiedParams.{CopiedParams}
use Rattle.ta_params.specs.declared.login.Login.{Login}

-- ---- events that are no opens

abbrev IsNoOpen : OwnEvent → Type 0
IsNoOpen (Open params login area) = ⊥
IsNoOpen (Invoke func input area) = Unit {0}
IsNoOpen (Close area) = Unit {0}
IsNoOpen Cancel = Unit {0}
IsNoOpen (Seen call steps) = Unit {0}
IsNoOpen (Back call input) = Unit {0}
IsNoOpen (Out call) = Unit {0}
IsNoOpen Limited = Unit {0}

abbrev NoOpens : List Logged → Type 0
NoOpens [] = Unit {0}
NoOpens (logged ∷ log) = IsNoOpen logged.0 × NoOpens log

one_more : (log : List Logged) (logged : Logged) → NoOpens log → IsNoOpen logged.0 → NoOpens (log ++ logged ∷ [])
one_more [] logged none is = (is, tt)
one_more (first ∷ log) logged none is = (none.0, one_more log logged none.1 is)

-- no open is noted of a session that has its number, since its UUID stays whatever it is
abbrev KeepsAny : (Notes → Notes) → Type 0
KeepsAny noting = (notes : Notes) → (noting notes).uuid ≡ notes.uuid

call_opens_none : (session : ℕ) (notes : Notes) (slot : ℕ) (call : PendingCall) (found : Option OwnEvent)
    → KeepsAny (λ n. option_map_or (with_number n slot call) found n) → NoOpens notes.log
    → NoOpens (option_map_or (with_number notes slot call) found notes).log
call_opens_none session notes slot call None keeps none = none
call_opens_none session notes slot call (Some (Open params login area)) keeps none =
    let unnamed : call.uuid ≡ None = keeps no_notes in
    let named : call.uuid ≡ Some [] = keeps (record no_notes { uuid = Some [] }) in
    let no : None ≡ Some [] = sym unnamed ∙ named in absurd cc
call_opens_none session notes slot call (Some (Invoke func input area)) keeps none = one_more notes.log _ none tt
call_opens_none session notes slot call (Some (Close area)) keeps none = one_more notes.log _ none tt
call_opens_none session notes slot call (Some Cancel) keeps none = one_more notes.log _ none tt
call_opens_none session notes slot call (Some (Seen number steps)) keeps none = one_more notes.log _ none tt
call_opens_none session notes slot call (Some (Back number input)) keeps none = one_more notes.log _ none tt
call_opens_none session notes slot call (Some (Out number)) keeps none = one_more notes.log _ none tt
call_opens_none session notes slot call (Some Limited) keeps none = one_more notes.log _ none tt

back_opens_none : (notes : Notes) (number : ℕ) (leaving : Leaving) (came : Given) → NoOpens notes.log
    → NoOpens (back_noted notes number leaving came).log
back_opens_none notes number Interrupted came none = none
back_opens_none notes number WantsBuffer came none = one_more notes.log _ none tt
back_opens_none notes number (Requests place request) came none = one_more notes.log _ none tt
back_opens_none notes number (FreesBuffer buffer) came none = one_more notes.log _ none tt
back_opens_none notes number (Finishes result params) came none = one_more notes.log _ none tt

resume_opens_none : (r : Resuming) (before now : PendingCall) (notes : Notes) (number : ℕ) → NoOpens notes.log
    → NoOpens (resume_noted r before now notes number).log
resume_opens_none r before now notes number none =
    let seen : Notes = seen_noted notes number before now in
    let still : NoOpens seen.log =
    if-both (λ (n : Notes). NoOpens n.log) (now.seen && not before.seen) _ notes (one_more notes.log _ none tt) none in
    map_or-both (λ (n : Notes). NoOpens n.log) (back_noted seen number (leaving_of r.slot before))
    (reading (given_to r.regs r.slot before) r.reads) seen
    (λ came. back_opens_none seen number (leaving_of r.slot before) came still) still

slot_opens_none : (session : ℕ) (r : Resuming) (notes : Notes) (held now : Option ThreadSlot)
    → KeepsAny (λ n. slot_noted session r n held now) → NoOpens notes.log
    → NoOpens (slot_noted session r notes held now).log
slot_opens_none session r notes None now keeps none = none
slot_opens_none session r notes (Some (Active cpu worked)) now keeps none = none
slot_opens_none session r notes (Some Free) None keeps none = none
slot_opens_none session r notes (Some Free) (Some Free) keeps none = none
slot_opens_none session r notes (Some Free) (Some (Suspended client call)) keeps none = none
slot_opens_none session r notes (Some Free) (Some (Active cpu call)) keeps none =
    call_opens_none session notes r.slot call (event_of session call) keeps none
slot_opens_none session r notes (Some (Suspended client left)) None keeps none = none
slot_opens_none session r notes (Some (Suspended client left)) (Some Free) keeps none = none
slot_opens_none session r notes (Some (Suspended client left)) (Some (Suspended another call)) keeps none = none
slot_opens_none session r notes (Some (Suspended client left)) (Some (Active cpu now)) keeps none =
    map_or-both (λ (n : Notes). NoOpens n.log) (resume_noted r left now notes) (get notes.numbering.in_slots r.slot)
    notes (λ number. resume_opens_none r left now notes number none) none

entry_opens_none : (session : ℕ) (e : Entering) (notes : Notes) (processor : Option Processor)
    → KeepsAny (λ n. entry_noted session e n processor) → NoOpens notes.log
    → NoOpens (entry_noted session e notes processor).log
entry_opens_none session e notes None keeps none = none
entry_opens_none session e notes (Some Outside) keeps none = none
entry_opens_none session e notes (Some (Inside regs steps (Fixed answer))) keeps none =
    if-both (λ (n : Notes). NoOpens n.log) (is_limit answer && is_of_client e.kernel session e.visit.regs) _ notes
    none none
entry_opens_none session e notes (Some (Inside regs steps (InSlot slot))) keeps none =
    slot_opens_none session (record { regs = e.visit.regs; reads = e.reads; slot = slot }) notes
    (slice_get e.kernel.slots slot) (slice_get e.next.slots slot) keeps none

exit_opens_none : (notes : Notes) (slot : ℕ) (call : PendingCall) (number : ℕ) → NoOpens notes.log
    → NoOpens (exit_noted notes slot call number).log
exit_opens_none notes slot call number none =
    map_or-both (λ (n : Notes). NoOpens n.log) (with_reply number notes)
    (reply_of (wake_kept notes.numbering slot (wake_of call.phase)) call.phase (leaving_of slot call)) notes
    (λ told. one_more notes.log _ none tt) none

out_opens_none : (kernel : Kernel) (notes : Notes) (cpu : ℕ) (processor : Option Processor) → NoOpens notes.log
    → NoOpens (out_noted kernel notes cpu processor).log
out_opens_none kernel notes cpu None none = none
out_opens_none kernel notes cpu (Some Outside) none = none
out_opens_none kernel notes cpu (Some (Inside regs steps (Fixed answer))) none =
    if-both (λ (n : Notes). NoOpens n.log) (list_any (λ away. away == cpu) notes.turned_away) _ notes
    (one_more notes.log _ none tt) none
out_opens_none kernel notes cpu (Some (Inside regs steps (InSlot slot))) none =
    map_or-both (λ (n : Notes). NoOpens n.log) _ (progress_in_slot kernel steps slot) notes
    (λ (progress : Progress). map_or-both (λ (n : Notes). NoOpens n.log) (exit_noted notes slot progress.call)
    (get notes.numbering.in_slots slot) notes
    (λ number. exit_opens_none notes slot progress.call number none) none) none

event_opens_none : (boot : Booted) (session : ℕ) (kernel next : Kernel) (happened : Event) (notes : Notes)
    → session < kernel.tables.next_session → after_event boot kernel happened ≡ Some next → NoOpens notes.log
    → NoOpens (event_noted session kernel next notes happened).log
event_opens_none boot session kernel next (Entry cpu regs steps reads) notes given e none =
    let visit : Visit = record { cpu = cpu; regs = regs.a; steps = steps } in
    entry_opens_none session (record { kernel = kernel; next = next; visit = visit; reads = reads }) notes
    (slice_get next.processors cpu)
    (λ n. uuid_stays boot session kernel next (Entry cpu regs steps reads) n given e) none
event_opens_none boot session kernel next (Exit cpu regs) notes given e none =
    out_opens_none kernel notes cpu (slice_get kernel.processors cpu) none

-- ---- histories

-- no open has come to it, or it has an application
abbrev IsSettled : Booted → Notes → Type 0
IsSettled boot notes = NoOpens notes.log ⊎ ((app : Application) × (option_and_then (app_of boot) notes.uuid ≡ Some app))

one_settled : (boot : Booted) (session : ℕ) (kernel next : Kernel) (happened : Event) (notes : Notes)
    → session < kernel.tables.next_session → after_event boot kernel happened ≡ Some next → IsSettled boot notes
    → IsSettled boot (event_noted session kernel next notes happened)
one_settled boot session kernel next happened notes given e (inl none) =
    inl (event_opens_none boot session kernel next happened notes given e none)
one_settled boot session kernel next happened notes given e (inr named) =
    inr (
      named.0,
      ap (λ (o : Option (List ℕ)). option_and_then (app_of boot) o)
          (uuid_stays boot session kernel next happened notes given e) ∙ named.1,
    )

-- once it has its number
late_on : (boot : Booted) (session most : ℕ) (past : List Event) (kernel : Kernel) (notes : Notes) (events : List Event)
    → session < kernel.tables.next_session → IsAt boot most past kernel events → IsSettled boot notes
    → IsSettled boot (noted_from boot session kernel notes events)
late_on boot session most past kernel notes [] given at settled = settled
late_on boot session most past kernel notes (happened ∷ events) given at settled =
    let on = on_from boot most past kernel happened events at in
    let later : session < on.next.tables.next_session =
    no_lower session kernel.tables.next_session on.next.tables.next_session given
    (numbers_rise boot past kernel on.next happened at.there on.comes).session in
    subst (IsSettled boot) (sym (goes_from boot session kernel on.next notes happened events on.comes))
    (late_on boot session most (past ++ happened ∷ []) on.next _ events later on.at
    (one_settled boot session kernel on.next happened notes given on.comes settled))
  where
    no_lower : (a n m : ℕ) → a < n → n ≤ m → a < m
    no_lower a n m lt le = omega arith

of_named : (boot : Booted) (notes : Notes) (app : Application) (uuid : List ℕ) → notes.uuid ≡ Some uuid
    → app_of boot uuid ≡ Some app → IsSettled boot notes
of_named boot notes app uuid named is =
    inr (app, ap (λ (o : Option (List ℕ)). option_and_then (app_of boot) o) named ∙ is)

-- and before
early_on : (boot : Booted) (session most : ℕ) (past : List Event) (kernel : Kernel) (events : List Event)
    → kernel.tables.next_session ≤ session → IsAt boot most past kernel events
    → IsSettled boot (noted_from boot session kernel no_notes events)
early_on boot session most past kernel [] before at = inl tt
early_on boot session most past kernel (happened ∷ events) before at =
    let on = on_from boot most past kernel happened events at in
    let below = below_numbers kernel (numbered boot past kernel at.there) in
    subst (IsSettled boot) (sym (goes_from boot session kernel on.next no_notes happened events on.comes))
    (by_next on (event_noted session kernel on.next no_notes happened)
    (early_next boot session kernel on.next happened below before on.comes)
    (λ lower. early_on boot session most (past ++ happened ∷ []) on.next events lower on.at))
  where
    by_next : (on : IsOn boot most past kernel happened events) (now : Notes)
        → EarlyNext boot session on.next now
        → (on.next.tables.next_session ≤ session → IsSettled boot (noted_from boot session on.next no_notes events))
        → IsSettled boot (noted_from boot session on.next now events)
    by_next on now (StillEarly same lower) later =
        subst (λ (n : Notes). IsSettled boot (noted_from boot session on.next n events)) (sym same) (later lower)
    by_next on now (NowNameless of given of_boot shares same opening) later =
        late_on boot session most (past ++ happened ∷ []) on.next now events given on.at
        (inl (subst (λ (n : Notes). NoOpens n.log) (sym same) tt))
    by_next on now (NowOpen of given of_boot uuid opening first) later =
        late_on boot session most (past ++ happened ∷ []) on.next now events given on.at
        (of_named boot now of _ uuid of_boot)

-- where the first session has the number 1
from_boot : (boot : Booted) (session most : ℕ) (history : List Event) → IsAt boot most [] (first_kernel boot) history
    → IsSettled boot (noted boot history session)
from_boot boot zero most history at = late_on boot zero most [] (first_kernel boot) no_notes history (omega arith) at (inl tt)
from_boot boot (suc n) most history at = early_on boot (suc n) most [] (first_kernel boot) history (from_one n) at
  where
    from_one : (m : ℕ) → 1 ≤ suc m
    from_one m = omega arith

by_log : (boot : Booted) (notes : Notes) (log : List Logged) (params : CopiedParams) (login : Login) (area : Bool)
    (rest : List OwnEvent) → notes.log ≡ log → events_in log ≡ Open params login area ∷ rest → IsSettled boot notes
    → (app : Application) × (option_and_then (app_of boot) notes.uuid ≡ Some app)
by_log boot notes [] params login area rest is opens settled = absurd cc
by_log boot notes (first ∷ log) params login area rest is opens (inr named) = named
by_log boot notes (first ∷ log) params login area rest is opens (inl none) =
    let came : first.0 ≡ Open params login area = cc in
    let no : ⊥ = subst IsNoOpen came (subst NoOpens is none).0 in absurd no

-- in a legal history, where an open is the first event of a session, it has an application
pub opened_app : (boot : Booted) (history : List Event) (session : ℕ) (params : CopiedParams) (login : Login)
    (area : Bool) (rest : List OwnEvent) → IsLegal boot history → own_events boot history session ≡ Open params login area ∷ rest
    → (app : Application) × (own_app boot history session ≡ Some app)
opened_app boot history session params login area rest legal opens =
    let last = some_of (kernel_after boot history) legal.follows in
    by_log boot (noted boot history session) (noted boot history session).log params login area rest refl opens
    (from_boot boot session (steps_in history) history (from_first boot history last.0 last.1))

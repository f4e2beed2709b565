-- The entry of each call of a realm has read at least the 32 bytes of its argument's head, so that a realm has few calls, and few
-- sessions.
use Rattle.std.proofs.Common.{◌⊎◌, inl, inr, ◌≡◌, ℕ, zero, suc, ◌+◌, ◌*◌, ◌≤◌, Bool, true, false, ◌&&◌, List, [], ◌∷◌, length, Option, Some, None, refl, ap, sym, subst, ◌∙◌, arith}
use Rattle.std.specs.Prelude.{IsSome, IsTrue, ◌==◌, if◌then◌else◌, not, slice_get}
use Rattle.std.specs.List.{list_any}
use Rattle.std.specs.Option.{option_map_or}
use Rattle.std.proofs.lemmas.Bool.Decides.{nat_tests}
use Rattle.std.proofs.lemmas.List.Sums.{sum_by-cons}
use Rattle.std.proofs.lemmas.Option.{option_and_then_some}
use Rattle.base.specs.NumberMap.{get}
use Rattle.event_journal.specs.Event.{copied_by}
use Rattle.event_journal.specs.Journal.{copied_bytes}
use Rattle.event_journal.specs.declared.event.Event.{Event}
use Rattle.event_journal.specs.declared.event.Event.TheVariants.{Entry, Exit}
use Rattle.group_model.specs.declared.group_event.GroupEvent.{GroupEvent}
use Rattle.job_model.specs.declared.call_kind.CallKind.{CallKind}
use Rattle.job_model.specs.declared.call_kind.CallKind.TheVariants as kind
use Rattle.kernel_model.proofs.FixedAnswer.{decided_errand}
use Rattle.kernel_model.proofs.Parts.{if-both, map_or-both, some_of}
use Rattle.kernel_model.specs.Application.{Booted}
use Rattle.kernel_model.specs.Argument.{IsNew, client_in, is_new, reg, thread_in}
use Rattle.kernel_model.specs.Codes.{ebadaddr}
use Rattle.kernel_model.specs.Decision.{Answers, Decision, Taken, decided_by}
use Rattle.kernel_model.specs.Entry.{after_decision, decision_of, entry}
use Rattle.kernel_model.specs.Exit.{progress_in_slot}
use Rattle.kernel_model.specs.Given.{Given, given_to}
use Rattle.kernel_model.specs.History.{after_event, after_events, kernel_after}
use Rattle.kernel_model.specs.Kernel.{Active, Fixed, Free, InSlot, Inside, Kernel, Outside, PendingCall, Processor}
use Rattle.kernel_model.specs.Kernel.{Progress, Suspended, Tables, ThreadSlot, Visit, first_kernel, lowest_free}
use Rattle.kernel_model.specs.Leaving.{FreesBuffer, Finishes, Interrupted, Leaving, Requests, WantsBuffer, leaving_of}
use Rattle.kernel_model.specs.Located.{Located, has_head, located}
use Rattle.kernel_model.specs.NewCall.{new_call_with}
use Rattle.kernel_model.specs.Resume.{suspended_for}
use Rattle.ns_ram.specs.Attempt.{Attempt, known, need, passes, ◌>>=◌ as attempt_then}
use Rattle.ns_ram.specs.Reader.{Reader, done, if_used_up, next_bytes, over_reads, reading, want_bytes, want_words, ◌>>=◌}
use Rattle.ns_ram.specs.Reads.{total_bytes}
use Rattle.ns_ram.specs.declared.read.Read.{Read}
use Rattle.own_model.proofs.EventKinds.{EntryKind, HasAnswer, IsNewCall, IsResume, entry_kind}
use Rattle.own_model.proofs.FixedAnswers.{entered}
use Rattle.own_model.specs.Own.{Entering, Numbering, is_limit, is_of_client, reply_of, slot_kept, wake_kept, wake_of, with_wake}
use Rattle.own_model.specs.declared.own_reply.OwnReply.{OwnReply}
use Rattle.realm_model.specs.Reading.{Notes, Watched, back_noted, call_noted, entry_noted, event_noted, event_of, exit_noted, fixed_noted}
use Rattle.realm_model.specs.Reading.{limit_noted, no_notes, noted, noted_from, numbered, opened_in, out_noted, resume_noted, room_noted, seen_noted}
use Rattle.realm_model.specs.Reading.{sessions_with, slot_noted, with_event, with_reply}
use Rattle.realm_model.specs.Realm.{Realm, client_of, room_of}
use Rattle.smc_abi.specs.Call.{call_of}
use Rattle.smc_abi.specs.declared.answer.Answer.{Answer}
use Rattle.smc_abi.specs.declared.call.Call.{Call}
use Rattle.smc_abi.specs.declared.call.Call.TheVariants.{Fast, WithArg, WithRpcArg, WithRegdArg, Resume, Unknown}
use Rattle.smc_abi.specs.declared.regs.Regs.{Regs}

-- ---- a reader whose first wish is for at least 32 bytes

-- unless it wishes for so many at once, its value is such
abbrev IsHeadFirst : {A : Type 0} → (A → Type 0) → Reader A → Type 0
IsHeadFirst P (done value) = P value
IsHeadFirst P (want_bytes addr len next) = 32 ≤ len
IsHeadFirst P (want_words addr most test next) = ⊥

-- what is left behind a read, where it fits
abbrev left_behind : Read → List Read → Bool → Option (List ℕ × List Read)
left_behind read reads test = if test then Some (read.bytes, reads) else None

taken_first : (addr len : ℕ) (reads : List Read) (step : List ℕ × List Read) → 32 ≤ len → next_bytes addr len reads ≡ Some step → 32 ≤ total_bytes reads
taken_first addr zero reads step wide e = absurd (omega (arith, wide))
taken_first addr (suc len) [] step wide e = absurd cc
taken_first addr (suc len) (read ∷ reads) step wide e = fits ((read.addr == addr) && (length read.bytes == suc len)) refl e
  where
    second : (a b : Bool) → (a && b) ≡ true → b ≡ true
    second true b e = e
    second false b e = absurd cc

    same : (a b : ℕ) → (a == b) ≡ true → a ≡ b
    same a b is = grind (arith, nat_tests)

    fits : (test : Bool) → ((read.addr == addr) && (length read.bytes == suc len)) ≡ test
        → left_behind read reads test ≡ Some step → 32 ≤ total_bytes (read ∷ reads)
    fits true is e =
        let long : length read.bytes ≡ suc len = same _ _ (second (read.addr == addr) _ is) in
        let whole = sum_by-cons (λ (r : Read). length r.bytes) read reads in
        omega (arith, long, whole, wide)
    fits false is e = absurd cc

first_read : {A : Type 0} (P : A → Type 0) (reader : Reader A) (reads : List Read) (end : A × List Read) → IsHeadFirst P reader
    → over_reads reader reads ≡ Some end → P end.0 ⊎ (32 ≤ total_bytes reads)
first_read P (done value) reads end first e = let same : (value, reads) ≡ end = cc in inl (subst (λ x. P x.0) same first)
first_read P (want_bytes addr len next) reads end first e =
    option_and_then_some (λ (step : List ℕ × List Read). over_reads (next step.0) step.1) (next_bytes addr len reads) end e
    (λ step is onward. inr (taken_first addr len reads step first is))
first_read P (want_words addr most test next) reads end first e = absurd first

reads_first : {A : Type 0} (P : A → Type 0) (reader : Reader A) (reads : List Read) (value : A) → IsHeadFirst P reader
    → reading reader reads ≡ Some value → P value ⊎ (32 ≤ total_bytes reads)
reads_first P reader reads value first e =
    option_and_then_some if_used_up (over_reads reader reads) value e
    (λ end is used. at_end end used (first_read P reader reads end first is))
  where
    at_end : (end : _ × List Read) → if_used_up end ≡ Some value → P end.0 ⊎ (32 ≤ total_bytes reads) → P value ⊎ (32 ≤ total_bytes reads)
    at_end (found, []) used (inl is) = let same : found ≡ value = cc in inl (subst P same is)
    at_end (found, []) used (inr wide) = inr wide
    at_end (found, read ∷ left) used either = absurd cc

-- ---- a new call

module _ (boot : Booted) (kernel : Kernel) (visit : Visit) where
  -- the answer was fixed
  abbrev IsAnswered : Kernel → Type 0
  IsAnswered next = (answer : Answer) × (after_decision kernel visit (Answers answer) ≡ next)

  abbrev decided_on : Reader Decision → Reader Kernel
  decided_on reader = reader >>= (λ decision. done (after_decision kernel visit decision))

  -- a test that fails fixes the answer
  need_first : (test : Bool) (rest : Unit {0} → Attempt Answer Taken) (slot : ℕ)
      → IsHeadFirst IsAnswered (decided_on (decided_by (attempt_then (rest tt) (λ taken. passes (slot, taken)))))
      → IsHeadFirst IsAnswered (decided_on (decided_by (attempt_then (attempt_then (need test ebadaddr) rest) (λ taken. passes (slot, taken)))))
  need_first true rest slot first = first
  need_first false rest slot first = (_, refl)

  all_there : (n : ℕ) → n ≤ n
  all_there n = omega arith

  -- and so does a value that isn't there
  known_first : (found : Option Located) (rest : Located → Attempt Answer Taken) (slot : ℕ)
      → ((at : Located) → IsHeadFirst IsAnswered (decided_on (decided_by (attempt_then (rest at) (λ taken. passes (slot, taken))))))
      → IsHeadFirst IsAnswered (decided_on (decided_by (attempt_then (attempt_then (known found ebadaddr) rest) (λ taken. passes (slot, taken)))))
  known_first None rest slot first = (_, refl)
  known_first (Some at) rest slot first = first at

  by_slot : (free : Option ℕ) → IsHeadFirst IsAnswered (decided_on (decided_by (new_call_with boot kernel.tables visit.regs free)))
  by_slot None = (_, refl)
  by_slot (Some slot) =
      known_first (located kernel.tables visit.regs) _ slot (λ at. need_first (has_head at) _ slot (all_there 32))

  -- of each of the three calls
  by_call : (call : Call) → IsTrue (is_new call) → IsHeadFirst IsAnswered (decided_on (decision_of boot kernel visit.regs call))
  by_call (Fast call) is = absurd cc
  by_call WithArg is = by_slot (lowest_free kernel.slots)
  by_call WithRpcArg is = by_slot (lowest_free kernel.slots)
  by_call WithRegdArg is = by_slot (lowest_free kernel.slots)
  by_call Resume is = absurd cc
  by_call Unknown is = absurd cc

-- it takes a slot only where it has read the head
head_read : (boot : Booted) (kernel next : Kernel) (cpu steps slot : ℕ) (regs : Regs) (reads : List Read) → IsNew regs.a
    → slice_get next.processors cpu ≡ Some (Inside regs.a steps (InSlot slot))
    → after_event boot kernel (Entry cpu regs steps reads) ≡ Some next → 32 ≤ total_bytes reads
head_read boot kernel next cpu steps slot regs reads is inside e =
    by_end (reads_first (IsAnswered boot kernel visit) (entry boot kernel visit) reads next
    (by_call boot kernel visit (call_of (reg regs.a 0)) is)
    (entered boot kernel next cpu steps regs reads e))
  where
    visit : Visit
    visit = record { cpu = cpu; regs = regs.a; steps = steps }

    by_end : IsAnswered boot kernel visit next ⊎ (32 ≤ total_bytes reads) → 32 ≤ total_bytes reads
    by_end (inl answered) =
        let no : Fixed answered.0 ≡ InSlot slot = decided_errand kernel next visit (InSlot slot) (Answers answered.0) answered.1 inside in absurd cc
    by_end (inr wide) = wide

-- ---- what is noted

-- the calls that have come in, and the sessions
abbrev counted : Notes → ℕ × ℕ
counted notes = (notes.numbering.entered, notes.next_session)

-- as many as before
abbrev KeepsCount : Notes → Notes → Type 0
KeepsCount before after = counted after ≡ counted before

back_counts : (notes : Notes) (number : ℕ) (leaving : Leaving) (came : Given) → KeepsCount notes (back_noted notes number leaving came)
back_counts notes number Interrupted came = refl
back_counts notes number WantsBuffer came = refl
back_counts notes number (Requests place request) came = refl
back_counts notes number (FreesBuffer buffer) came = refl
back_counts notes number (Finishes result params) came = refl

resume_counts : (w : Watched) (slot : ℕ) (before now : PendingCall) (notes : Notes) (number : ℕ)
    → KeepsCount notes (resume_noted w slot before now notes number)
resume_counts w slot before now notes number =
    let seen : Notes = seen_noted notes number before now in
    let found : Notes = room_noted w seen number before in
    map_or-both (λ (n : Notes). counted n ≡ counted found) (back_noted found number (leaving_of slot before))
    (reading (given_to w.entering.visit.regs slot before) w.entering.reads) found
    (λ came. back_counts found number (leaving_of slot before) came) refl
    ∙ map_or-both (KeepsCount seen) _ (room_of w.realm w.boot w.entering.kernel.tables before) seen (λ enough. refl) refl
    ∙ if-both (KeepsCount notes) (now.seen && not before.seen) _ notes refl refl

slot_counts : (w : Watched) (slot : ℕ) (notes : Notes) (client : ℕ) (call : PendingCall) (held now : Option ThreadSlot)
    → suspended_for client held ≡ Some call → KeepsCount notes (slot_noted w slot notes held now)
slot_counts w slot notes client call None now e = absurd cc
slot_counts w slot notes client call (Some Free) now e = absurd cc
slot_counts w slot notes client call (Some (Active cpu worked)) now e = absurd cc
slot_counts w slot notes client call (Some (Suspended owner left)) None e = refl
slot_counts w slot notes client call (Some (Suspended owner left)) (Some Free) e = refl
slot_counts w slot notes client call (Some (Suspended owner left)) (Some (Suspended another now)) e = refl
slot_counts w slot notes client call (Some (Suspended owner left)) (Some (Active cpu now)) e =
    map_or-both (KeepsCount notes) (resume_noted w slot left now notes) (get notes.numbering.in_slots slot) notes
    (λ number. resume_counts w slot left now notes number) refl

kept_counts : (numbering : Numbering) (slot : ℕ) (woken : Option ℕ) (leaving : Leaving)
    → (slot_kept (with_wake numbering slot woken) slot leaving).entered ≡ numbering.entered
kept_counts numbering slot woken leaving = by_leaving leaving ∙ by_wake woken
  where
    by_wake : (w : Option ℕ) → (with_wake numbering slot w).entered ≡ numbering.entered
    by_wake None = refl
    by_wake (Some number) = refl

    by_leaving : (l : Leaving) → (slot_kept (with_wake numbering slot woken) slot l).entered ≡ (with_wake numbering slot woken).entered
    by_leaving Interrupted = refl
    by_leaving WantsBuffer = refl
    by_leaving (Requests place request) = refl
    by_leaving (FreesBuffer buffer) = refl
    by_leaving (Finishes result params) = refl

-- a reply gives no session a number
told_counts : (notes : Notes) (number : ℕ) (opened : Option ℕ) (told : Option OwnReply)
    → (option_map_or (with_reply number notes opened) told notes).next_session ≡ notes.next_session
told_counts notes number opened None = refl
told_counts notes number opened (Some reply) = refl

exit_counts : (of : Realm) (notes : Notes) (slot : ℕ) (call : PendingCall) (number : ℕ) → KeepsCount notes (exit_noted of notes slot call number)
exit_counts of notes slot call number =
    let leaving : Leaving = leaving_of slot call in
    let woken : Option ℕ = wake_kept notes.numbering slot (wake_of call.phase) in
    let opened : Option ℕ = opened_in of notes call call.kind leaving in
    let told : Option OwnReply = reply_of woken call.phase leaving in
    ap (λ (n : ℕ). (n, (option_map_or (with_reply number notes opened) told notes).next_session))
    (kept_counts notes.numbering slot woken leaving)
    ∙ ap (λ (n : ℕ). (notes.numbering.entered, n)) (told_counts notes number opened told)

-- nor does a call that was turned away
limit_counts : (notes : Notes) (cpu : ℕ) → KeepsCount notes (limit_noted notes cpu)
limit_counts notes cpu = if-both (KeepsCount notes) (list_any (λ away. away == cpu) notes.turned_away) _ notes refl refl

out_counts : (of : Realm) (kernel : Kernel) (notes : Notes) (cpu : ℕ) (processor : Option Processor)
    → KeepsCount notes (out_noted of kernel notes cpu processor)
out_counts of kernel notes cpu None = refl
out_counts of kernel notes cpu (Some Outside) = refl
out_counts of kernel notes cpu (Some (Inside regs steps (Fixed answer))) = limit_counts notes cpu
out_counts of kernel notes cpu (Some (Inside regs steps (InSlot slot))) =
    map_or-both (KeepsCount notes) _ (progress_in_slot kernel steps slot) notes
    (λ (progress : Progress). map_or-both (KeepsCount notes) (exit_noted of notes slot progress.call)
    (get notes.numbering.in_slots slot) notes (λ number. exit_counts of notes slot progress.call number) refl) refl

fixed_counts : (e : Entering) (notes : Notes) (answer : Answer) (client : Option ℕ) → KeepsCount notes (fixed_noted e notes answer client)
fixed_counts e notes answer None = refl
fixed_counts e notes answer (Some session) =
    if-both (KeepsCount notes) (is_limit answer && is_of_client e.kernel session e.visit.regs) _ notes refl refl

-- one call more at most, where so many bytes were read, and one session more at most with it
pub record CountsOne (bytes : ℕ) (before after : Notes) : Type 0 where
  pub calls : 32 * after.numbering.entered ≤ 32 * before.numbering.entered + bytes
  pub sessions : after.next_session + before.numbering.entered ≤ before.next_session + after.numbering.entered

still_few : (bytes : ℕ) (before after : Notes) → KeepsCount before after → CountsOne bytes before after
still_few bytes before after same = record {
  calls = within after.numbering.entered before.numbering.entered (ap (λ (n : ℕ × ℕ). n.0) same);
  sessions = level after.numbering.entered before.numbering.entered after.next_session before.next_session
      (ap (λ (n : ℕ × ℕ). n.0) same) (ap (λ (n : ℕ × ℕ). n.1) same);
}
  where
    within : (now was : ℕ) → now ≡ was → 32 * now ≤ 32 * was + bytes
    within now was is = omega (arith, is)

    level : (now was many were : ℕ) → now ≡ was → many ≡ were → many + was ≤ were + now
    level now was many were is so = omega (arith, is, so)

call_counts : (of : Realm) (tables : Tables) (bytes : ℕ) (notes : Notes) (slot : ℕ) (call : PendingCall) → 32 ≤ bytes
    → CountsOne bytes notes (call_noted of tables notes slot call)
call_counts of tables bytes notes slot call wide =
    map_or-both (CountsOne bytes notes) (numbered notes slot call) (event_of of tables notes call call.kind) notes
    (λ came. record { calls = more notes.numbering.entered wide; sessions = by_kind came call.kind }) (still_few bytes notes notes refl)
  where
    more : (n : ℕ) → 32 ≤ bytes → 32 * (n + 1) ≤ 32 * n + bytes
    more n le = omega (arith, le)

    none : (n m : ℕ) → m + n ≤ m + (n + 1)
    none n m = omega arith

    one : (n m : ℕ) → (m + 1) + n ≤ m + (n + 1)
    one n m = omega arith

    -- the calls and the sessions behind it
    sessions_then : GroupEvent → CallKind → ℕ
    sessions_then came call_kind = (sessions_with call_kind (with_event notes came) call).next_session

    by_kind : (came : GroupEvent) (call_kind : CallKind)
        → sessions_then came call_kind + notes.numbering.entered ≤ notes.next_session + (notes.numbering.entered + 1)
    by_kind came kind.Open = one notes.numbering.entered notes.next_session
    by_kind came (kind.Invoke func) = none notes.numbering.entered notes.next_session
    by_kind came kind.Close = none notes.numbering.entered notes.next_session
    by_kind came kind.Settled = none notes.numbering.entered notes.next_session

new_counts : (w : Watched) (slot : ℕ) (notes : Notes) (bytes : ℕ) (held now : Option ThreadSlot) → 32 ≤ bytes
    → CountsOne bytes notes (slot_noted w slot notes held now)
new_counts w slot notes bytes None now wide = still_few bytes notes notes refl
new_counts w slot notes bytes (Some (Active cpu worked)) now wide = still_few bytes notes notes refl
new_counts w slot notes bytes (Some Free) None wide = still_few bytes notes notes refl
new_counts w slot notes bytes (Some Free) (Some Free) wide = still_few bytes notes notes refl
new_counts w slot notes bytes (Some Free) (Some (Suspended client call)) wide = still_few bytes notes notes refl
new_counts w slot notes bytes (Some Free) (Some (Active cpu call)) wide =
    call_counts w.realm w.entering.next.tables bytes notes slot call wide
new_counts w slot notes bytes (Some (Suspended client left)) None wide = still_few bytes notes notes refl
new_counts w slot notes bytes (Some (Suspended client left)) (Some Free) wide = still_few bytes notes notes refl
new_counts w slot notes bytes (Some (Suspended client left)) (Some (Suspended another call)) wide = still_few bytes notes notes refl
new_counts w slot notes bytes (Some (Suspended client left)) (Some (Active cpu now)) wide =
    still_few bytes notes (slot_noted w slot notes (Some (Suspended client left)) (Some (Active cpu now)))
    (map_or-both (KeepsCount notes) (resume_noted w slot left now notes) (get notes.numbering.in_slots slot) notes
    (λ number. resume_counts w slot left now notes number) refl)

module _ (boot : Booted) (of : Realm) where
  abbrev watched : Kernel → Kernel → ℕ → ℕ → Regs → List Read → Watched
  watched kernel next cpu steps regs reads =
      let visit : Visit = record { cpu = cpu; regs = regs.a; steps = steps } in
      let entering : Entering = record { kernel = kernel; next = next; visit = visit; reads = reads } in
      record { boot = boot; realm = of; entering = entering }

  entry_counts : (kernel next : Kernel) (cpu steps : ℕ) (regs : Regs) (reads : List Read) (notes : Notes)
      → after_event boot kernel (Entry cpu regs steps reads) ≡ Some next → EntryKind kernel next cpu steps regs
      → CountsOne (total_bytes reads) notes (event_noted boot of kernel next notes (Entry cpu regs steps reads))
  entry_counts kernel next cpu steps regs reads notes e (HasAnswer answer inside) =
      still_few (total_bytes reads) notes (event_noted boot of kernel next notes (Entry cpu regs steps reads))
      (ap (λ (p : Option Processor). counted (entry_noted (watched kernel next cpu steps regs reads) notes p)) inside
      ∙ fixed_counts (watched kernel next cpu steps regs reads).entering notes answer (client_of of))
  entry_counts kernel next cpu steps regs reads notes e (IsNewCall slot now is inside there) =
      subst (λ (p : Option Processor). CountsOne (total_bytes reads) notes (entry_noted (watched kernel next cpu steps regs reads) notes p))
      (sym inside)
      (new_counts (watched kernel next cpu steps regs reads) slot notes (total_bytes reads)
      (slice_get kernel.slots slot) (slice_get next.slots slot)
      (head_read boot kernel next cpu steps slot regs reads is inside e))
  entry_counts kernel next cpu steps regs reads notes e (IsResume call is some inside) =
      let slot : ℕ = thread_in regs.a in
      still_few (total_bytes reads) notes (event_noted boot of kernel next notes (Entry cpu regs steps reads))
      (ap (λ (p : Option Processor). counted (entry_noted (watched kernel next cpu steps regs reads) notes p)) inside
      ∙ slot_counts (watched kernel next cpu steps regs reads) slot notes (client_in regs.a) call
      (slice_get kernel.slots slot) (slice_get next.slots slot) some)

  event_counts : (kernel next : Kernel) (notes : Notes) (happened : Event) → after_event boot kernel happened ≡ Some next
      → CountsOne (copied_by happened) notes (event_noted boot of kernel next notes happened)
  event_counts kernel next notes (Entry cpu regs steps reads) e =
      entry_counts kernel next cpu steps regs reads notes e (entry_kind boot kernel next cpu steps regs reads e)
  event_counts kernel next notes (Exit cpu regs) e =
      still_few 0 notes (event_noted boot of kernel next notes (Exit cpu regs)) (out_counts of kernel notes cpu (slice_get kernel.processors cpu))

  -- ---- a history

  from_kernel : (kernel last : Kernel) (notes : Notes) (events : List Event) → after_events boot kernel events ≡ Some last
      → CountsOne (copied_bytes events) notes (noted_from boot of kernel notes events)
  from_kernel kernel last notes [] e = still_few 0 notes notes refl
  from_kernel kernel last notes (happened ∷ events) e =
      option_and_then_some (λ (next : Kernel). after_events boot next events) (after_event boot kernel happened) last e
      (λ next is onward.
      let first = event_counts kernel next notes happened is in
      let rest = from_kernel next last (event_noted boot of kernel next notes happened) events onward in
      let whole = sum_by-cons copied_by happened events in
      subst (λ (o : Option Kernel). CountsOne (copied_bytes (happened ∷ events)) notes
      (option_map_or (λ (k : Kernel). noted_from boot of k (event_noted boot of kernel k notes happened) events) o notes)) (sym is)
      (both notes _ _ (copied_by happened) (copied_bytes events) _ first rest whole))
    where
      sums : (a b c one more all : ℕ) → 32 * b ≤ 32 * a + one → 32 * c ≤ 32 * b + more → all ≡ one + more → 32 * c ≤ 32 * a + all
      sums a b c one more all first rest whole = omega (arith, first, rest, whole)

      levels : (a b c k l m : ℕ) → l + a ≤ k + b → m + b ≤ l + c → m + a ≤ k + c
      levels a b c k l m first rest = omega (arith, first, rest)

      both : (a b c : Notes) (one more all : ℕ) → CountsOne one a b → CountsOne more b c → all ≡ one + more → CountsOne all a c
      both a b c one more all first rest whole = record {
        calls = sums a.numbering.entered b.numbering.entered c.numbering.entered one more all first.calls rest.calls whole;
        sessions = levels a.numbering.entered b.numbering.entered c.numbering.entered a.next_session b.next_session c.next_session
            first.sessions rest.sessions;
      }

  -- the calls of a realm that have come in by the end of a history, and its sessions
  pub realm_calls_read : (history : List Event) → IsSome (kernel_after boot history)
      → 32 * (noted boot history of).numbering.entered ≤ copied_bytes history
  realm_calls_read history follows =
      let last = some_of (kernel_after boot history) follows in
      none_before (noted boot history of).numbering.entered (copied_bytes history)
      (from_kernel (first_kernel boot) last.0 no_notes history last.1).calls
    where
      none_before : (n bytes : ℕ) → 32 * n ≤ 32 * 0 + bytes → 32 * n ≤ bytes
      none_before n bytes le = omega (arith, le)

  pub few_sessions : (history : List Event) → IsSome (kernel_after boot history)
      → (noted boot history of).next_session ≤ (noted boot history of).numbering.entered
  few_sessions history follows =
      let last = some_of (kernel_after boot history) follows in
      none_yet (noted boot history of).next_session (noted boot history of).numbering.entered
      (from_kernel (first_kernel boot) last.0 no_notes history last.1).sessions
    where
      none_yet : (n m : ℕ) → n + 0 ≤ 0 + m → n ≤ m
      none_yet n m le = omega (arith, le)

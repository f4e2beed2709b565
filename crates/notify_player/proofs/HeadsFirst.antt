-- The entry of a new call reads nothing, or the 32 bytes of its argument's head first.
use Rattle.std.proofs.Common.{◌≡◌, ℕ, zero, suc, Bool, true, false, List, [], ◌∷◌, length, Option, Some, None, refl, sym, subst, ◌∙◌, arith}
use Rattle.std.specs.Prelude.{◌==◌, ◌&&◌, if◌then◌else◌, IsTrue}
use Rattle.std.specs.List.{AllByRecursion}
use Rattle.std.proofs.lemmas.Bool.Decides.{nat_tests}
use Rattle.std.proofs.lemmas.Option.{option_and_then_some}
use Rattle.desk_answers.specs.Duties.{HasHeadFirst}
use Rattle.event_journal.specs.declared.event.Event.{Event}
use Rattle.event_journal.specs.declared.event.Event.TheVariants.{Entry, Exit}
use Rattle.kernel_model.specs.Application.{Booted}
use Rattle.kernel_model.specs.Argument.{IsNew, is_new, reg}
use Rattle.kernel_model.specs.Codes.{ebadaddr}
use Rattle.kernel_model.specs.Decision.{Decision, Taken, decided_by}
use Rattle.kernel_model.specs.Entry.{after_decision, decision_of, entry}
use Rattle.kernel_model.specs.History.{IsLegal, after_event, after_events, kernel_after}
use Rattle.kernel_model.specs.Kernel.{Kernel, Visit, first_kernel, lowest_free}
use Rattle.kernel_model.specs.Located.{Located, has_head, located}
use Rattle.kernel_model.specs.NewCall.{new_call_with}
use Rattle.kernel_model.proofs.Parts.{some_of}
use Rattle.ns_ram.specs.Attempt.{Attempt, known, need, passes, ◌>>=◌ as attempt_then}
use Rattle.ns_ram.specs.Reader.{Reader, done, if_used_up, next_bytes, over_reads, reading, want_bytes, want_words, ◌>>=◌}
use Rattle.ns_ram.specs.declared.read.Read.{Read}
use Rattle.own_model.proofs.FixedAnswers.{entered}
use Rattle.smc_abi.specs.Call.{call_of}
use Rattle.smc_abi.specs.declared.answer.Answer.{Answer}
use Rattle.smc_abi.specs.declared.call.Call.{Call}
use Rattle.smc_abi.specs.declared.call.Call.TheVariants.{Fast, WithArg, WithRpcArg, WithRegdArg, Resume, Unknown}

-- ---- a reader whose first wish is for 32 bytes, if it has one

abbrev WantsHead : {A : Type 0} → Reader A → Type 0
WantsHead (done value) = Unit {0}
WantsHead (want_bytes addr len next) = len ≡ 32
WantsHead (want_words addr most test next) = ⊥

fits : (read : Read) (reads : List Read) (step : List ℕ × List Read) (len : ℕ) (test : Bool)
    → (length read.bytes == len) ≡ test
    → (if test then Some (read.bytes, reads) else None) ≡ Some step → length read.bytes ≡ len
fits read reads step len true is e = grind (arith, nat_tests)
fits read reads step len false is e = absurd cc

both : (here there : Bool) (found step : List ℕ × List Read)
    → (if here && there then Some found else None) ≡ Some step → (if there then Some found else None) ≡ Some step
both true there found step e = e
both false there found step e = absurd cc

taken : (addr len : ℕ) (reads : List Read) (step : List ℕ × List Read) → len ≡ 32
    → next_bytes addr len reads ≡ Some step → HasHeadFirst reads
taken addr zero reads step is e = absurd (omega (arith, is))
taken addr (suc len) [] step is e = tt
taken addr (suc len) (read ∷ reads) step is e =
    fits read reads step (suc len) (length read.bytes == suc len) refl
    (both (read.addr == addr) (length read.bytes == suc len) (read.bytes, reads) step e) ∙ is

over : {A : Type 0} (reader : Reader A) (reads : List Read) (end : A × List Read) → WantsHead reader
    → over_reads reader reads ≡ Some end → HasHeadFirst end.1 → HasHeadFirst reads
over {A} (done value) reads end wants e none =
    let here : A × List Read = (value, reads) in
    let same : here ≡ end = cc in
    subst (λ (x : A × List Read). HasHeadFirst x.1) (sym same) none
over (want_bytes addr len next) reads end wants e none =
    option_and_then_some (λ (step : List ℕ × List Read). over_reads (next step.0) step.1) (next_bytes addr len reads) end e
    (λ step there onward. taken addr len reads step wants there)
over (want_words addr most test next) reads end wants e none = absurd wants

none_left : {A : Type 0} (end : A × List Read) (value : A) → if_used_up end ≡ Some value → HasHeadFirst end.1
none_left (found, []) value e = tt
none_left (found, read ∷ reads) value e = absurd cc

read_first : {A : Type 0} (reader : Reader A) (reads : List Read) (value : A) → WantsHead reader
    → reading reader reads ≡ Some value → HasHeadFirst reads
read_first {A} reader reads value wants e =
    option_and_then_some if_used_up (over_reads reader reads) value e
    (λ (end : A × List Read) there used. over reader reads end wants there (none_left end value used))

-- ---- a new call

module _ (boot : Booted) (kernel : Kernel) (visit : Visit) where
  abbrev decided_on : Reader Decision → Reader Kernel
  decided_on reader = reader >>= (λ decision. done (after_decision kernel visit decision))

  -- a test that fails asks nothing
  need_head : (test : Bool) (rest : Unit {0} → Attempt Answer Taken) (slot : ℕ)
      → WantsHead (decided_on (decided_by (attempt_then (rest tt) (λ taken. passes (slot, taken)))))
      → WantsHead (decided_on (decided_by (attempt_then (attempt_then (need test ebadaddr) rest) (λ taken. passes (slot, taken)))))
  need_head true rest slot wants = wants
  need_head false rest slot wants = tt

  known_head : (found : Option Located) (rest : Located → Attempt Answer Taken) (slot : ℕ)
      → ((at : Located) → WantsHead (decided_on (decided_by (attempt_then (rest at) (λ taken. passes (slot, taken))))))
      → WantsHead (decided_on (decided_by (attempt_then (attempt_then (known found ebadaddr) rest) (λ taken. passes (slot, taken)))))
  known_head None rest slot wants = tt
  known_head (Some at) rest slot wants = wants at

  by_slot : (free : Option ℕ) → WantsHead (decided_on (decided_by (new_call_with boot kernel.tables visit.regs free)))
  by_slot None = tt
  by_slot (Some slot) = known_head (located kernel.tables visit.regs) _ slot (λ at. need_head (has_head at) _ slot refl)

  -- of each of the three calls
  by_call : (call : Call) → IsTrue (is_new call) → WantsHead (decided_on (decision_of boot kernel visit.regs call))
  by_call (Fast call) is = absurd cc
  by_call WithArg is = by_slot (lowest_free kernel.slots)
  by_call WithRpcArg is = by_slot (lowest_free kernel.slots)
  by_call WithRegdArg is = by_slot (lowest_free kernel.slots)
  by_call Resume is = absurd cc
  by_call Unknown is = absurd cc

-- ---- histories

abbrev pub ReadsHeadFirst : Event → Type 0
ReadsHeadFirst (Entry cpu regs steps reads) = IsNew regs.a → HasHeadFirst reads
ReadsHeadFirst (Exit cpu regs) = Unit {0}

event_reads : (boot : Booted) (kernel next : Kernel) (event : Event) → after_event boot kernel event ≡ Some next
    → ReadsHeadFirst event
event_reads boot kernel next (Entry cpu regs steps reads) e = λ is.
    let visit : Visit = record { cpu = cpu; regs = regs.a; steps = steps } in
    read_first (entry boot kernel visit) reads next (by_call boot kernel visit (call_of (reg regs.a 0)) is)
    (entered boot kernel next cpu steps regs reads e)
event_reads boot kernel next (Exit cpu regs) e = tt

events_read : (boot : Booted) (kernel last : Kernel) (events : List Event) → after_events boot kernel events ≡ Some last
    → AllByRecursion ReadsHeadFirst events
events_read boot kernel last [] e = tt
events_read boot kernel last (event ∷ events) e =
    option_and_then_some (λ k. after_events boot k events) (after_event boot kernel event) last e
    (λ (next : Kernel) there onward. (event_reads boot kernel next event there, events_read boot next last events onward))

-- each event of a legal history does
pub heads_come_first : (boot : Booted) (history : List Event) → IsLegal boot history
    → AllByRecursion ReadsHeadFirst history
heads_come_first boot history legal =
    let end = some_of (kernel_after boot history) legal.follows in
    events_read boot (first_kernel boot) end.0 history end.1

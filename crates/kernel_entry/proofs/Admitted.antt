-- An entry whose answer its registers fix, and a resume: what is prepared for them, and that they arrive.
use Rattle.std.proofs.Common.{◌≡◌, ℕ, ◌+◌, ◌≤◌, List, [], Option, Some, None, Err, refl, sym, ap, subst, arith}
use Rattle.event_journal.specs.Journal.{copied_bytes}
use Rattle.event_log.specs.Log.{Contents}
use Rattle.kernel_model.specs.Argument.{reg, thread_in}
use Rattle.kernel_model.specs.Decision as model
use Rattle.kernel_model.specs.Decision.{Decision, works_on}
use Rattle.kernel_model.specs.Kernel.{Kernel, PendingCall}
use Rattle.kernel_model.specs.Resume.{call_resumed_by, resume}
use Rattle.kernel_state.specs.Blanks.{Boxes}
use Rattle.kernel_state.specs.Entering.{CanEnter, Enters}
use Rattle.kernel_state.specs.Setup.{booted_of_setup}
use Rattle.kernel_state.specs.StandsFor.{StandsFor}
use Rattle.kernel_state.specs.Work.{IsCarriedAs}
use Rattle.kernel_state.specs.declared.carried.Carried.{Carried}
use Rattle.kernel_state.specs.declared.carried.Carried.TheVariants.{Nothing}
use Rattle.kernel_state.specs.declared.enter_refusal.EnterRefusal.{EnterRefusal}
use Rattle.kernel_state.specs.declared.kernel_core.Core.{Core}
use Rattle.kernel_state.specs.declared.parts.Parts.{Parts}
use Rattle.kernel_state.specs.declared.processor.Errand.TheVariants.{Fixed}
use Rattle.ns_ram.specs.Reader.{Reader, over_lane}
use Rattle.ns_ram.specs.Reads.{total_bytes}
use Rattle.ns_ram.specs.declared.read.Read.{Read}
use Rattle.resumed_calls.specs.declared.deciding.Decided.{Decided}
use Rattle.smc_abi.specs.Call.{call_of}
use Rattle.smc_abi.specs.declared.answer.Answer.{Answer}
use Rattle.smc_abi.specs.declared.call.Call.TheVariants as call
use Rattle.kernel_entry.specs.Deciding.{ComesTo, HasFixedAnswer, HasFound, IsDecided, IsGiven, resumes_as}
use Rattle.kernel_entry.specs.Entering.{Fit, HasBox, HasMoreRoom, IsPrepared, answered, going_on}
use Rattle.kernel_entry.specs.Resuming.{goes_on_as}
use Rattle.kernel_entry.specs.Visiting.{HasComeIn, IsInside, StandsAfter, coming_of}
use Rattle.kernel_entry.specs.declared.deciding.EntryDecision.TheVariants as decision
use Rattle.kernel_entry.specs.declared.visitor.Visitor.{Visitor}
use Rattle.kernel_entry.proofs.Arrived.{Arrives, arrives, is_refused}
use Rattle.kernel_entry.proofs.Decisions.{answered_as}
use Rattle.kernel_entry.proofs.Following.{call_found}
use Rattle.kernel_entry.proofs.Readying.{too_much}

-- ---- an answer that is fixed

fixed_decides : (parts : Parts) (regs lane : List ℕ) (answer : Answer) (reads : List Read) → HasFixedAnswer (booted_of_setup parts.setup) regs answer → reads ≡ [] →
    (k : Kernel) → IsDecided parts k regs lane [] reads (decision.Answers answer)
fixed_decides parts regs lane answer reads fixed none k =
    let decided : IsDecided parts k regs lane [] [] (decision.Answers answer) = ap (λ (reader : Reader Decision). over_lane reader lane []) (fixed k) in
    subst (λ (after : List Read). IsDecided parts k regs lane [] after (decision.Answers answer)) (sym none) decided

pub answer_prepared : (old parts : Parts) (regs lane : List ℕ) (answer : Answer) (reads : List Read) → HasMoreRoom old parts →
    HasFixedAnswer (booted_of_setup old.setup) regs answer → reads ≡ [] → parts.setup.cpus + 1 ≤ parts.journal.spare →
    copied_bytes parts.journal.events ≤ parts.setup.terms.most → IsPrepared parts regs lane (answered answer reads)
answer_prepared old parts regs lane answer reads more fixed none room few =
    let same : parts.setup ≡ old.setup = ap (λ (parts : Parts). parts.setup) more.stays in
    let still = subst (λ setup. HasFixedAnswer (booted_of_setup setup) regs answer) (sym same) fixed in
    let nothing : total_bytes reads ≡ 0 = ap total_bytes none in
    record {
      decides = λ k stands. fixed_decides parts regs lane answer reads still none k;
      given = tt;
      found = tt;
      room = omega (arith, room);
      blank = tt;
      few = omega (arith, nothing, few);
    }

inside_comes : (old new : Parts) (visitor : Visitor) (answer : Answer) (reads : List Read) → IsInside old new visitor (Fixed answer) reads →
    HasComeIn old new visitor reads
inside_comes old new visitor answer reads inside = record {
  setup = ap (λ (parts : Parts). parts.setup) inside.stays;
  events = ap (λ (journal : Contents). journal.events) inside.journal;
  keeps = ap (λ (journal : Contents). journal.keeps) inside.journal;
}

pub answer_arrives : (old : Core) (new : Parts) (visitor : Visitor) (lane : List ℕ) (answer : Answer) (reads : List Read) → CanEnter old (coming_of visitor) →
    IsPrepared old.parts visitor.regs.a lane (answered answer reads) → IsInside old.parts new visitor (Fixed answer) reads →
    ((k : Kernel) → StandsAfter old.parts new visitor k (model.Answers answer)) → Arrives old.parts new visitor lane (decision.Answers answer) reads Nothing
answer_arrives old new visitor lane answer reads can is inside stands =
    arrives old new visitor lane (answered answer reads) Nothing can is (inside_comes old.parts new visitor answer reads inside) stands (λ k stand. refl)

-- ---- a resume

no_box : (boxes : Boxes) (call : Option Decided) → HasBox boxes (resumes_as call)
no_box boxes None = tt
no_box boxes (Some decided) = tt

-- what was decided of it by these reads
module _ (parts : Parts) (regs lane : List ℕ) (before reads : List Read) (called : Option Decided) (none : before ≡ []) (named : call_of (reg regs 0) ≡ call.Resume)
    (comes : (k : Kernel) → StandsFor parts k → ComesTo parts k regs (resume (booted_of_setup parts.setup) k regs) lane before reads (resumes_as called)) where
  pub resume_decided : (k : Kernel) → StandsFor parts k → IsDecided parts k regs lane [] reads (resumes_as called)
  resume_decided k stands =
      answered_as parts k regs lane [] reads (resumes_as called) call.Resume named
      (subst (λ (before : List Read). ComesTo parts k regs (resume (booted_of_setup parts.setup) k regs) lane before reads (resumes_as called)) none (comes k stands))

  pub resume_prepared : IsGiven parts regs lane before reads (resumes_as called) → HasFound parts regs (resumes_as called) →
      parts.setup.cpus + 1 ≤ parts.journal.spare → copied_bytes parts.journal.events + total_bytes reads ≤ parts.setup.terms.most →
      IsPrepared parts regs lane (record { decision = resumes_as called; reads = reads })
  resume_prepared given found room few = record {
    decides = resume_decided;
    given = subst (λ (before : List Read). IsGiven parts regs lane before reads (resumes_as called)) none given;
    found = found;
    room = omega (arith, room);
    blank = no_box parts.blanks called;
    few = few;
  }

-- one that would read too much is refused
pub resume_refused : (old new : Core) (visitor : Visitor) (lane : List ℕ) (before reads : List Read) (called : Option Decided) (refusal : EnterRefusal) →
    HasMoreRoom old.parts new.parts → before ≡ [] → call_of (reg visitor.regs.a 0) ≡ call.Resume →
    ((k : Kernel) → StandsFor new.parts k →
    ComesTo new.parts k visitor.regs.a (resume (booted_of_setup new.parts.setup) k visitor.regs.a) lane before reads (resumes_as called)) →
    Fit {A = Unit {0}} new.parts.setup.terms.most (copied_bytes new.parts.journal.events) (total_bytes reads) (Err refusal) →
    Enters old new (coming_of visitor) lane (Err refusal)
resume_refused old new visitor lane before reads called refusal more none named comes full =
    is_refused old new new.parts visitor lane refusal more new.replay refl
    (too_much new.parts visitor.regs.a lane reads (resumes_as called) refusal (resume_decided new.parts visitor.regs.a lane before reads called none named comes) full)

pub resumed_arrives : (old : Core) (new : Parts) (visitor : Visitor) (lane : List ℕ) (decided : Decided) (reads : List Read) (carried : Carried) →
    CanEnter old (coming_of visitor) → IsPrepared old.parts visitor.regs.a lane (going_on decided reads) → HasComeIn old.parts new visitor reads →
    ((k : Kernel) (found : PendingCall) → call_resumed_by k.slots visitor.regs.a ≡ Some found → StandsAfter old.parts new visitor k
    (model.Takes (thread_in visitor.regs.a) (works_on (goes_on_as old.parts visitor.regs.a decided found)))) →
    ((k : Kernel) (found : PendingCall) → StandsFor old.parts k → call_resumed_by k.slots visitor.regs.a ≡ Some found →
    IsCarriedAs carried (goes_on_as old.parts visitor.regs.a decided found).call (goes_on_as old.parts visitor.regs.a decided found).call.phase) →
    Arrives old.parts new visitor lane (decision.GoesOn decided) reads carried
resumed_arrives old new visitor lane decided reads carried can is come stands carries =
    arrives old new visitor lane (going_on decided reads) carried can is come
    (λ k stand. let found = call_found old.parts.slots old.parts.cancellations.items k.slots visitor.regs.a stand.slots is.found.suspended in
    rw found.1 (stands k found.0 found.1 stand))
    (λ k stand. let found = call_found old.parts.slots old.parts.cancellations.items k.slots visitor.regs.a stand.slots is.found.suspended in
    rw found.1 (carries k found.0 stand found.1))

-- What a job or a phase is given is what the machine gives its own, and the flag of a cancellation stays.
use Rattle.std.proofs.Common.{◌≡◌, ℕ, true, List, [], ◌∷◌, Option, Some, None, refl, ap}
use Rattle.std.specs.Option.{option_map_or}
use Rattle.job_model.specs.Beginning.{Program, OfImage, OfRelation, begun_job}
use Rattle.job_model.specs.declared.entry_point.EntryPoint.{EntryPoint}
use Rattle.job_model.specs.declared.entry_point.EntryPoint.TheVariants as point
use Rattle.job_model.specs.Flag.{HasSeenCancel}
use Rattle.job_model.specs.Job.{Job, with_cancel_seen}
use Rattle.job_model.specs.Steps.{Advance, Goes, Stops, advance_on_answer}
use Rattle.job_model.specs.Steps as steps
use Rattle.job_model.proofs.SeenCancel.{cancel_stays_seen}
use Rattle.rpc_msgs.specs.Answer.{RpcAnswer}
use Rattle.rpc_msgs.specs.Answer as answer
use Rattle.rpc_msgs.specs.declared.rpc.Rpc.{Rpc}
use Rattle.kernel_model.specs.Given.{Buffer, Given, NoBuffer, Nothing, Reply}
use Rattle.kernel_model.specs.Kernel.{Asks, CallPhase, Ends, Runs}
use Rattle.kernel_model.specs.Kernel.{Waits}
use Rattle.kernel_model.specs.Resume.{is_without_buffer}
use Rattle.kernel_model.specs.Resume.{phase_after, phase_seen, phase_when_given}
use Rattle.kernel_model.specs.Resume.{still_wakes}
use Rattle.own_model.proofs.OwnSeen.{as_far}
use Rattle.own_model.specs.InOrder.{IsAtWork}
use Rattle.own_model.specs.Own.{input_of}
use Rattle.own_model.specs.Solo.{is_no_buffer, phase_back}
use Rattle.own_model.specs.Solo.{wake_left}
use Rattle.own_model.specs.Tied.{PhasesAlike, WakesAlike}

-- ---- what is given

pub asking_flagged : (job : Job) (wanted : Rpc) (payload : List ℕ)
    → phase_seen (Asks job wanted payload) ≡ Asks job wanted payload → HasSeenCancel job
asking_flagged job wanted payload e = same_asking (with_cancel_seen job) job e
  where
    same_asking : (first second : Job) → CallPhase.Asks first wanted payload ≡ Asks second wanted payload
        → first ≡ second
    same_asking first second same = cc

-- a phase at work is as far as itself
pub alike_itself : (kept : Option ℕ) (n : ℕ) (phase : CallPhase) → IsAtWork phase → PhasesAlike kept n n phase phase
alike_itself kept n (Runs job) works = as_far n job
alike_itself kept n (Asks job wanted payload) works = (refl, refl)
alike_itself kept n (Waits params) works = absurd works
alike_itself kept n (Ends result params told wakes) works = absurd works

-- the kernel gives a job what the machine does
pub same_given : (before : CallPhase) (job : Job) (given : Given)
    → phase_when_given before job given ≡ phase_back before job (input_of given)
same_given before job Nothing = refl
same_given before job (Buffer buffer) = refl
same_given before job NoBuffer = refl
same_given before job (Reply reply) = refl

advance_flagged : (before : CallPhase) (job : Job) (came : RpcAnswer) (next : Option Advance)
    → phase_seen before ≡ before → HasSeenCancel job
    → advance_on_answer came job ≡ next
    → phase_seen (option_map_or (phase_after before) next before) ≡ option_map_or (phase_after before) next before
advance_flagged before job came None flagged seen is = flagged
advance_flagged before job came (Some (Goes on)) flagged seen is =
    ap (λ (j : Job). Runs j) (cancel_stays_seen.goes job on came seen is)
advance_flagged before job came (Some (Stops (steps.Asks wanted payload left))) flagged seen is =
    ap (λ (j : Job). Asks j wanted payload) (cancel_stays_seen.asks_on job left came wanted payload seen is)
advance_flagged before job came (Some (Stops (steps.Ends end))) flagged seen is = flagged
advance_flagged before job came (Some (Stops (steps.Panics code))) flagged seen is = flagged

pub given_flagged : (before : CallPhase) (job : Job) (given : Given) → phase_seen before ≡ before → HasSeenCancel job
    → phase_seen (phase_back before job (input_of given)) ≡ phase_back before job (input_of given)
given_flagged before job Nothing flagged seen = flagged
given_flagged before job (Buffer buffer) flagged seen = flagged
given_flagged before job NoBuffer flagged seen =
    advance_flagged before job answer.NoBuffer (advance_on_answer answer.NoBuffer job) flagged seen refl
given_flagged before job (Reply reply) flagged seen =
    advance_flagged before job (answer.Replied reply) (advance_on_answer (answer.Replied reply) job) flagged seen refl

pub wakes_alike : (kept : Option ℕ) (given : Given) (wakes woken : Option ℕ) → WakesAlike kept wakes woken
    → WakesAlike kept (still_wakes given wakes) (wake_left woken (input_of given))
wakes_alike kept Nothing wakes woken alike = alike
wakes_alike kept (Buffer buffer) wakes woken alike = alike
wakes_alike kept NoBuffer wakes woken alike = tt
wakes_alike kept (Reply reply) wakes woken alike = tt

pub without_alike : (given : Given) → is_without_buffer given ≡ is_no_buffer (input_of given)
without_alike Nothing = refl
without_alike (Buffer buffer) = refl
without_alike NoBuffer = refl
without_alike (Reply reply) = refl

-- ---- a job that begins

-- one that begins with the flag has it
pub begins_flagged : (program : Option Program) (memory : List ℕ) (job : Job) (points : List EntryPoint) → HasSeenCancel job
    → HasSeenCancel (begun_job (record { program = program; memory = memory; seen = true }) job points)
begins_flagged program memory job [] seen = seen
begins_flagged None memory job (first ∷ behind) seen = seen
begins_flagged (Some (OfImage image)) memory job (first ∷ behind) seen = refl
begins_flagged (Some (OfRelation relation)) memory job (point.Create ∷ behind) seen = seen
begins_flagged (Some (OfRelation relation)) memory job (point.Open ∷ behind) seen = seen
begins_flagged (Some (OfRelation relation)) memory job (point.Invoke func ∷ behind) seen = refl
begins_flagged (Some (OfRelation relation)) memory job (point.Close ∷ behind) seen =
    ap (λ (j : Job). record j { points = behind }) seen
begins_flagged (Some (OfRelation relation)) memory job (point.Destroy ∷ behind) seen = seen

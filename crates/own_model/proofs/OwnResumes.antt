-- What a call that is resumed had come to, is given and has seen.
use Rattle.std.proofs.Common.{◌≡◌, ℕ, Bool, true, false, List, [], ◌∷◌, Option, Some, None, refl, ap, sym}
use Rattle.std.proofs.Common.{◌∙◌}
use Rattle.std.specs.Prelude.{◌==◌, if◌then◌else◌}
use Rattle.std.specs.Option.{option_map_or, option_and_then}
use Rattle.base.specs.NumberMap.{get}
use Rattle.job_model.specs.declared.call_kind.CallKind.{CallKind}
use Rattle.job_model.specs.declared.call_kind.CallKind.TheVariants as kind
use Rattle.job_model.specs.Job.{Job, with_cancel_seen}
use Rattle.ns_ram.specs.declared.read.Read.{Read}
use Rattle.ns_ram.specs.Reader.{if_used_up, reading}
use Rattle.rpc_msgs.specs.declared.rpc.Rpc.TheVariants as rpc
use Rattle.session_table.specs.declared.session.Session.{Session}
use Rattle.ta_params.specs.declared.copied_params.CopiedParams.{CopiedParams}
use Rattle.kernel_model.specs.Application.{Application}
use Rattle.kernel_model.specs.Begin.{Opener, has_pages_for, opens_new}
use Rattle.kernel_model.specs.Codes.{bad_parameters, out_of_memory, target_dead}
use Rattle.kernel_model.specs.Given.{Buffer, Given, NoBuffer, Nothing, Reply, call_given, given_after}
use Rattle.kernel_model.specs.Instances.{is_held}
use Rattle.kernel_model.specs.Kernel.{Active, Asks, CallPhase, Ends, Free, Instance}
use Rattle.kernel_model.specs.Kernel.{PendingCall, Progress, Runs, Suspended, ThreadSlot, Waits}
use Rattle.kernel_model.specs.Leaving.{Interrupted, Leaving, leaving_in}
use Rattle.kernel_model.specs.Leaving.{place_of, plain_request}
use Rattle.kernel_model.specs.Resume.{Resumed, app_of_call, begins, begins_in, begins_open, ends_with}
use Rattle.kernel_model.specs.Resume.{goes_on, is_without_buffer, onward_in, phase_seen, sees}
use Rattle.kernel_model.specs.Resume.{sleeps_on, suspended_for, tested_again, who_resumes}
use Rattle.kernel_model.proofs.Parts.{if-both, map_or-both}
use Rattle.own_model.proofs.OwnInterrupts.{asks_not, ends_not}

-- ---- what is noted

-- an interrupted call is given nothing
pub given_nothing : (regs : List ℕ) (leaving : Leaving) (reads : List Read) (given : Given) → leaving ≡ Interrupted
    → reading (given_after regs leaving) reads ≡ Some given → given ≡ Nothing
given_nothing regs leaving reads given is e =
    by_reads reads (sym (ap (λ (l : Leaving). reading (given_after regs l) reads) is) ∙ e)
  where
    by_reads : (rest : List Read) → option_and_then if_used_up (Some (Nothing, rest)) ≡ Some given → given ≡ Nothing
    by_reads [] same = cc
    by_reads (read ∷ rest) same = absurd cc

-- ---- what the call had come to

-- it was interrupted exactly where its application runs
pub asked_not : (slot : ℕ) (call : PendingCall) (phase : CallPhase) → ((job : Job) → phase ≡ Runs job → ⊥)
    → leaving_in slot call phase ≡ Interrupted → ⊥
asked_not slot call (Runs job) asked e = asked job refl
asked_not slot call (Asks job wanted payload) asked e =
    asks_not (place_of call (record { wanted = wanted; payload = payload })) (record { wanted = wanted; payload = payload }) e
asked_not slot call (Waits params) asked e =
    asks_not (place_of call (plain_request (rpc.Sleep slot))) (plain_request (rpc.Sleep slot)) e
asked_not slot call (Ends result params told wakes) asked e = ends_not slot call result params told wakes e

-- seeing a cancellation leaves it running, or not
pub runs_seen : (call : PendingCall) (job : Job) → call.phase ≡ Runs job → (seen : Job) × ((sees call).phase ≡ Runs seen)
runs_seen call job is = by_mark call.marked
  where
    by_mark : (marked : Bool)
        → (seen : Job) × ((if marked then record call { seen = true; phase = phase_seen call.phase } else call).phase
        ≡ Runs seen)
    by_mark true = (with_cancel_seen job, ap phase_seen is)
    by_mark false = (job, is)

pub given_phase : (given : Given) (call : PendingCall) → (call_given given call).phase ≡ call.phase
given_phase Nothing call = refl
given_phase (Buffer buffer) call = refl
given_phase NoBuffer call = refl
given_phase (Reply told) call = refl

pub given_seen : (given : Given) (call : PendingCall) → (call_given given call).seen ≡ call.seen
given_seen Nothing call = refl
given_seen (Buffer buffer) call = refl
given_seen NoBuffer call = refl
given_seen (Reply told) call = refl

-- ---- a resume changes nothing of what the call has seen

abbrev SeenAs : Resumed → Progress → Type 0
SeenAs r progress = progress.call.seen ≡ r.call.seen

open_seen : (r : Resumed) (opener : Opener) (found : Option Instance) → SeenAs r (begins_open r opener found)
open_seen r opener (Some instance) = refl
open_seen r opener None =
    if-both (SeenAs r) (has_pages_for r.boot r.tables opener.app)
    (begins r (opens_new (who_resumes r) opener r.call.instance r.tables.next_instance))
    (ends_with r out_of_memory) refl refl

begins_seen : (r : Resumed) (params : CopiedParams) (session : Session) (call_kind : CallKind) (found : Option Instance)
    → SeenAs r (begins_in r params session call_kind found)
begins_seen r params session kind.Open found =
    map_or-both (SeenAs r) (λ (app : Application).
    begins_open r (record { app = app; login = session.login; params = params }) found) (app_of_call r)
    (ends_with r bad_parameters) (λ app. open_seen r
    (record { app = app; login = session.login; params = params }) found) refl
begins_seen r params session (kind.Invoke func) (Some instance) = refl
begins_seen r params session (kind.Invoke func) None = refl
begins_seen r params session kind.Close (Some instance) = refl
begins_seen r params session kind.Close None = refl
begins_seen r params session kind.Settled found = refl

tested_seen : (r : Resumed) (params : CopiedParams) (session : Session) (found : Option Instance)
    → SeenAs r (tested_again r params session found)
tested_seen r params session found =
    if-both (SeenAs r) _ (ends_with r target_dead) _ refl
    (if-both (SeenAs r) (option_map_or is_held found false) (sleeps_on r params)
    (begins_in r params session r.call.kind found)
    (if-both (SeenAs r) (is_without_buffer r.given) (ends_with r out_of_memory) (goes_on r (Waits params)) refl refl)
    (begins_seen r params session r.call.kind found))

pub onward_seen : (r : Resumed) (phase : CallPhase) → SeenAs r (onward_in r phase)
onward_seen r (Runs job) = refl
onward_seen r (Asks job wanted payload) = refl
onward_seen r (Waits params) =
    map_or-both (SeenAs r) (λ (session : Session). tested_again r params session
    (get r.tables.instances r.call.instance)) (get r.tables.sessions r.call.session)
    (ends_with r bad_parameters) (λ session. tested_seen r params session (get r.tables.instances r.call.instance)) refl
onward_seen r (Ends result params told wakes) = refl

-- ---- the entry

-- the slot holds the call, suspended
pub suspended_at : (client : ℕ) (held : Option ThreadSlot) (call : PendingCall) → suspended_for client held ≡ Some call
    → (owner : ℕ) × (held ≡ Some (Suspended owner call))
suspended_at client None call e = absurd cc
suspended_at client (Some Free) call e = absurd cc
suspended_at client (Some (Active cpu worked)) call e = absurd cc
suspended_at client (Some (Suspended owner left)) call e = (owner, by_owner (owner == client) e)
  where
    by_owner : (test : Bool) → (if test then Some left else None) ≡ Some call
        → Some (Suspended owner left) ≡ Some (Suspended owner call)
    by_owner true is = let same : left ≡ call = cc in ap (λ (c : PendingCall). Some (Suspended owner c)) same
    by_owner false is = absurd cc

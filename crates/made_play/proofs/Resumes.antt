-- A resume reads at most the reply to a request that fits a message.
use Rattle.std.proofs.Common.{◌≡◌, ℕ, ◌≤◌, Bool, true, false, List, [], Option, Some, None, refl, ap, ◌∙◌, arith}
use Rattle.std.specs.Prelude.{◌==◌, if◌then◌else◌, nat_le, slice_get, unwrap_or}
use Rattle.std.specs.Option.{option_and_then, option_map_or}
use Rattle.std.proofs.lemmas.Bool.{leb-true}
use Rattle.ns_ram.specs.Reader.{done, take_bytes}
use Rattle.rpc_msgs.specs.Place.{arg_at, buffer_at, reader_at}
use Rattle.rpc_msgs.specs.Reply.{payload_of, reply_reader}
use Rattle.rpc_msgs.specs.Request.{IsRequest, payload_at}
use Rattle.rpc_msgs.specs.declared.rpc.Rpc.{Rpc}
use Rattle.rpc_msgs.specs.declared.rpc.Rpc.TheVariants.{Time, Sleep, Wake, Suspend, FsOpen, FsCreate, FsClose, FsRead, FsWrite, FsRemove}
use Rattle.rpc_msgs.specs.declared.request_place.RequestPlace.{RequestPlace}
use Rattle.rpc_msgs.specs.declared.rpc_buffer.RpcBuffer.{RpcBuffer}
use Rattle.kernel_model.specs.Application.{Booted}
use Rattle.kernel_model.specs.Argument.{client_in, thread_in}
use Rattle.kernel_model.specs.Codes.{eresume}
use Rattle.kernel_model.specs.Decision.{Answers}
use Rattle.kernel_model.specs.Given.{given_after, given_to}
use Rattle.kernel_model.specs.Kernel.{Active, Asks, CallPhase, Ends, Free, Kernel, PendingCall, Runs, Suspended, ThreadSlot, Waits}
use Rattle.kernel_model.specs.Leaving.{FreesBuffer, Finishes, Interrupted, Leaving, Request, Requests, WantsBuffer, leaving_in, leaving_of, place_of, plain_request}
use Rattle.kernel_model.specs.Resume.{call_resumed_by, resume, resume_call, suspended_for, takes_call}
use Rattle.kernel_model.specs.Sound.{unmarked_at, unmarked_in, unmarked}
use Rattle.kernel_model.specs.SoundRequests.{HasFittingRequest, HaveFittingRequests}
use Rattle.made_play.proofs.AtMost.{AtMost, then_nothing}

-- ---- replies

by_size : (lane : List ℕ) (buffer size most : ℕ) (fits : Bool) → nat_le size most ≡ fits → most ≤ 4084
    → AtMost lane (if fits then take_bytes (payload_at buffer) size else done []) 4084
by_size lane buffer size most true is few = let le = leb-true size most is in (omega (arith, le, few), tt)
by_size lane buffer size most false is few = tt

reply_few : (lane : List ℕ) (at : ℕ) (buffer : Option ℕ) (wanted : Rpc) → IsRequest wanted → AtMost lane (reply_reader at buffer wanted) 4096
reply_few lane at buffer Time fits = (omega arith, (omega arith, (omega arith, tt)))
reply_few lane at buffer (Sleep key) fits = tt
reply_few lane at buffer (Wake key) fits = tt
reply_few lane at buffer (Suspend ms) fits = tt
reply_few lane at buffer (FsOpen name) fits = (omega arith, (omega arith, tt))
reply_few lane at buffer (FsCreate name) fits = (omega arith, (omega arith, tt))
reply_few lane at buffer (FsClose fd) fits = (omega arith, tt)
reply_few lane at buffer (FsRead fd offset len) fits = (
  omega arith,
  (
    omega arith,
    then_nothing lane (payload_of (unwrap_or buffer 0) len _) _ 4084
        (by_size lane (unwrap_or buffer 0) _ len (nat_le _ len) refl (omega (arith, fits))) (λ bytes. tt),
  ),
)
reply_few lane at buffer (FsWrite fd offset len) fits = (omega arith, tt)
reply_few lane at buffer (FsRemove name) fits = (omega arith, tt)

-- ---- what a call was left with

-- what it asks for fits
abbrev Fits : Leaving → Type 0
Fits Interrupted = Unit {0}
Fits WantsBuffer = Unit {0}
Fits (Requests place request) = IsRequest request.wanted
Fits (FreesBuffer buffer) = Unit {0}
Fits (Finishes result params) = Unit {0}

asks_fit : (call : PendingCall) (request : Request) (place : Option RequestPlace) → IsRequest request.wanted
    → Fits (option_map_or (λ at. Requests at request) place WantsBuffer)
asks_fit call request (Some place) fits = fits
asks_fit call request None fits = tt

frees_fit : (call : PendingCall) (last : Leaving) (buffer : Option RpcBuffer) → Fits last
    → Fits (option_map_or FreesBuffer buffer last)
frees_fit call last (Some place) fits = tt
frees_fit call last None fits = fits

leaving_fits : (slot : ℕ) (call : PendingCall) (phase : CallPhase) → HasFittingRequest call → call.phase ≡ phase
    → Fits (leaving_in slot call phase)
leaving_fits slot call (Runs job) fitting is = tt
leaving_fits slot call (Asks job wanted payload) fitting is =
    let request : Request = record { wanted = wanted; payload = payload } in
    asks_fit call request (place_of call request) (fitting.request job wanted payload is)
leaving_fits slot call (Waits params) fitting is =
    asks_fit call (plain_request (Sleep slot)) (place_of call (plain_request (Sleep slot))) tt
leaving_fits slot call (Ends result params told (Some woken)) fitting is =
    asks_fit call (plain_request (Wake woken)) (place_of call (plain_request (Wake woken))) tt
leaving_fits slot call (Ends result params told None) fitting is =
    frees_fit call (Finishes result params) call.buffer tt

given_few : (lane regs : List ℕ) (leaving : Leaving) → Fits leaving → AtMost lane (given_after regs leaving) 4096
given_few lane regs Interrupted fits = tt
given_few lane regs WantsBuffer fits = tt
given_few lane regs (Requests place request) fits =
    then_nothing lane (reader_at place request.wanted) _ 4096
    (reply_few lane (arg_at place) (buffer_at place) request.wanted fits)
    (λ reply. tt)
given_few lane regs (FreesBuffer buffer) fits = tt
given_few lane regs (Finishes result params) fits = tt

-- ---- the call

-- the call of a suspended slot
suspended_call : (slots : List ThreadSlot) (client slot : ℕ) (held : Option ThreadSlot) (call : PendingCall)
    → slice_get slots slot ≡ held → suspended_for client held ≡ Some call → unmarked_at slots slot ≡ Some (unmarked call)
suspended_call slots client slot None call is e = absurd cc
suspended_call slots client slot (Some Free) call is e = absurd cc
suspended_call slots client slot (Some (Active cpu working)) call is e = absurd cc
suspended_call slots client slot (Some (Suspended owner left)) call is e =
    let same : left ≡ call = of_client (owner == client) e in
    ap (λ (o : Option ThreadSlot). option_and_then unmarked_in o) is ∙ ap (λ (c : PendingCall). Some (unmarked c)) same
  where
    of_client : (own : Bool) → (if own then Some left else None) ≡ Some call → left ≡ call
    of_client true e = cc
    of_client false e = absurd cc

resumed_few : (lane : List ℕ) (boot : Booted) (kernel : Kernel) (regs : List ℕ) (found : Option PendingCall)
    → ((call : PendingCall) → found ≡ Some call → HasFittingRequest call)
    → AtMost lane (option_map_or (takes_call boot kernel.tables regs) found (done (Answers eresume))) 4096
resumed_few lane boot kernel regs None fitting = tt
resumed_few lane boot kernel regs (Some call) fitting =
    then_nothing lane (resume_call boot kernel.tables regs call) _ 4096
    (then_nothing lane (given_to regs (thread_in regs) call) _ 4096
    (given_few lane regs (leaving_of (thread_in regs) call)
    (leaving_fits (thread_in regs) call call.phase (fitting call refl) refl))
    (λ given. tt))
    (λ progress. tt)

pub resume_few : (lane : List ℕ) (boot : Booted) (kernel : Kernel) (regs : List ℕ)
    → HaveFittingRequests (unmarked_at kernel.slots) → AtMost lane (resume boot kernel regs) 4096
resume_few lane boot kernel regs fitting =
    resumed_few lane boot kernel regs (call_resumed_by kernel.slots regs) (λ call is.
    let there = suspended_call kernel.slots (client_in regs) (thread_in regs) (slice_get kernel.slots (thread_in regs))
    call refl is in
    let fits = fitting (thread_in regs) (unmarked call) there in
    record { request = fits.request; payload = fits.payload })

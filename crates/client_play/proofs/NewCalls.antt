-- What a client's new calls come to on a core whose RAM has their argument: each takes the lowest free slot, for its client, and
-- a cancellation is settled there.
use Rattle.std.proofs.Common.{◌≡◌, ℕ, ◌*◌, Bool, true, false, List, ◌++◌, length, Option, Some, None, Result, Ok, Err, refl, subst, sym}
use Rattle.std.specs.Prelude.{if◌then◌else◌}
use Rattle.std.proofs.lemmas.Option.{option_and_then_some}
use Rattle.job_model.specs.Job.{of_tee}
use Rattle.job_model.specs.Point.{no_params}
use Rattle.job_model.specs.declared.call_kind.CallKind.TheVariants as kind
use Rattle.kernel_model.specs.Application.{Booted}
use Rattle.kernel_model.specs.Argument.{client_in}
use Rattle.kernel_model.specs.Codes.{bad_parameters, ebadaddr, ebadcmd, success}
use Rattle.kernel_model.specs.Decision.{Answers, Decision, Taken, Takes, Tested, decided_by, taken_by, taken_in}
use Rattle.kernel_model.specs.Instances.{is_held}
use Rattle.kernel_model.specs.Kernel.{Ends, Instance, Kernel, PendingCall, lowest_free}
use Rattle.kernel_model.specs.Located.{Located, has_argument, has_head, located}
use Rattle.kernel_model.specs.NewCall.{NewCall, cancel_calls, cancels, command_of, named_session, new_call, new_call_in, new_call_of}
use Rattle.kernel_model.specs.NewCall.{new_call_with, open_waits, opens, settles, shared_by}
use Rattle.kernel_model.proofs.Parts.{AllOf, if-both, map_or-both}
use Rattle.kernel_model.proofs.Tests.{Ends as EachEnds, TakenIn, taken_ends}
use Rattle.msg_args.specs.Reading.{head_at}
use Rattle.ns_ram.specs.Attempt.{Attempt, known, need, passes, read, ◌>>=◌}
use Rattle.ns_ram.specs.Lane.{bytes_at}
use Rattle.ns_ram.specs.Reader.{Reader, done, over_lane, want_bytes, want_words}
use Rattle.ns_ram.specs.Reader.{lane_bytes, lane_words}
use Rattle.ns_ram.specs.Reads.{listed}
use Rattle.ns_ram.specs.declared.read.Read.{Read}
use Rattle.ns_ram.proofs.ReaderSteps.{lane_bytes-some}
use Rattle.own_model.proofs.NewCalls.{OfAllEndings, call_ends}
use Rattle.session_table.specs.declared.session.Session.{Session}
use Rattle.smc_abi.specs.declared.answer.Answer.{Answer}

-- ---- what stays of a call

-- whose it is, and where its argument stands
pub record Lasting : Type 0 where
  pub client : ℕ
  pub session : ℕ
  pub arg : ℕ

abbrev pub lasting : PendingCall → Lasting
lasting call = record { client = call.client; session = call.session; arg = call.arg }

-- ---- what holds of a reader over a lane

-- it holds of what the reader makes of the bytes that the lane has
abbrev pub OnLane : {A : Type 0} → List ℕ → (A → Type 0) → Reader A → Type 0
OnLane lane P (done value) = P value
OnLane lane P (want_bytes addr len next) = OnLane lane P (next (bytes_at lane addr len))
OnLane lane P (want_words addr most test next) = (got : List ℕ) → OnLane lane P (next got)

pub made_on : {A : Type 0} (lane : List ℕ) (P : A → Type 0) (reader : Reader A) (before : List Read) (step : A × List Read)
    → OnLane lane P reader → over_lane reader lane before ≡ Some step → P step.0
made_on {A} lane P (done value) before step all e =
    let same : (value, before) ≡ step = cc in
    subst (λ (s : A × List Read). P s.0) same all
made_on lane P (want_bytes addr len next) before step all e =
    option_and_then_some (λ got. over_lane (next got) lane (before ++ listed addr got)) (lane_bytes lane addr len) step e
    (λ (got : List ℕ) there onward.
    made_on lane P (next got) (before ++ listed addr got) step
    (subst (λ (g : List ℕ). OnLane lane P (next g)) (sym (lane_bytes-some lane addr len got there).0) all) onward)
made_on lane P (want_words addr most test next) before step all e =
    option_and_then_some (λ got. over_lane (next got) lane (before ++ listed addr (bytes_at lane addr (8 * length got))))
    (lane_words lane addr most test) step e
    (λ (got : List ℕ) there onward.
    made_on lane P (next got) (before ++ listed addr (bytes_at lane addr (8 * length got))) step (all got) onward)

-- ---- attempts that pass

abbrev pub IsPassed : {A : Type 0} → Result A Answer → Type 0
IsPassed (Ok value) = Unit {0}
IsPassed (Err answer) = ⊥

-- it holds of what the slot is taken for, and one is
abbrev pub TakenSo : (Taken → Type 0) → Result Taken Answer → Type 0
TakenSo P (Ok taken) = P taken
TakenSo P (Err answer) = ⊥

pub known_passes : {F A B : Type 0} (lane : List ℕ) (Q : Result B F → Type 0) (found : Option A) (value : A) (refusal : F)
    (onward : A → Attempt F B) → found ≡ Some value → OnLane lane Q (onward value) → OnLane lane Q (known found refusal >>= onward)
known_passes lane Q None value refusal onward e all = absurd cc
known_passes {F} {A} lane Q (Some other) value refusal onward e all =
    let same : other ≡ value = cc in
    subst (λ (v : A). OnLane lane Q (onward v)) (sym same) all

need_passes : {B : Type 0} (lane : List ℕ) (Q : Result B Answer → Type 0) (test : Bool) (refusal : Answer)
    (onward : Unit {0} → Attempt Answer B) → test ≡ true → OnLane lane Q (onward tt) → OnLane lane Q (need test refusal >>= onward)
need_passes lane Q true refusal onward e all = all
need_passes lane Q false refusal onward e all = absurd cc

reads_pass : {A : Type 0} (lane : List ℕ) (reader : Reader A) → OnLane lane IsPassed (read reader)
reads_pass lane (done value) = tt
reads_pass lane (want_bytes addr len next) = reads_pass lane (next (bytes_at lane addr len))
reads_pass lane (want_words addr most test next) = λ got. reads_pass lane (next got)

-- and of a call's tests
tests_take : (lane : List ℕ) (P : Taken → Type 0) (tested : Tested Taken) → AllOf (λ (result : Result Taken Taken). P (taken_in result)) tested
    → OnLane lane (TakenSo P) (read (taken_by tested))
tests_take lane P (done result) all = all
tests_take lane P (want_bytes addr len next) all = tests_take lane P (next (bytes_at lane addr len)) (all (bytes_at lane addr len))
tests_take lane P (want_words addr most test next) all = λ got. tests_take lane P (next got) (all got)

taken_there : (lane : List ℕ) (P : Taken → Type 0) (tested : Tested Taken)
    → OnLane lane (λ (result : Result Taken Taken). P (taken_in result)) tested → OnLane lane (TakenSo P) (read (taken_by tested))
taken_there lane P (done result) all = all
taken_there lane P (want_bytes addr len next) all = taken_there lane P (next (bytes_at lane addr len)) all
taken_there lane P (want_words addr most test next) all = λ got. taken_there lane P (next got) (all got)

both : (lane : List ℕ) (P : Taken → Type 0) (attempt : Attempt Answer Taken) → OnLane lane IsPassed attempt → AllOf (TakenIn P) attempt
    → OnLane lane (TakenSo P) attempt
both lane P (done (Ok taken)) passed all = all
both lane P (done (Err answer)) passed all = passed
both lane P (want_bytes addr len next) passed all = both lane P (next (bytes_at lane addr len)) passed (all (bytes_at lane addr len))
both lane P (want_words addr most test next) passed all = λ got. both lane P (next got) (passed got) (all got)

-- ---- a new call

-- the lowest free slot is this, the argument stands at this place, whole, and has this command
pub record IsWellMade (kernel : Kernel) (regs : List ℕ) (lane : List ℕ) (slot : ℕ) (at : Located) (command : NewCall → Tested Taken)
    : Type 0 where
  pub lowest : lowest_free kernel.slots ≡ Some slot
  pub place : located kernel.tables regs ≡ Some at
  pub head : has_head at ≡ true
  pub argument : has_argument at (head_at (bytes_at lane at.addr 32)) ≡ true
  pub command_is : command_of (head_at (bytes_at lane at.addr 32)).cmd ≡ Some command

-- the slot is taken for something of which this holds
abbrev pub TakesSlot : ℕ → (Taken → Type 0) → Decision → Type 0
TakesSlot slot P (Answers answer) = ⊥
TakesSlot slot P (Takes at taken) = (at ≡ slot) × P taken

slot_taken : (lane : List ℕ) (P : Taken → Type 0) (slot : ℕ) (attempt : Attempt Answer Taken) → OnLane lane (TakenSo P) attempt
    → OnLane lane (TakesSlot slot P) (decided_by (attempt >>= (λ taken. passes (slot, taken))))
slot_taken lane P slot (done (Ok taken)) all = (refl, all)
slot_taken lane P slot (done (Err answer)) all = absurd all
slot_taken lane P slot (want_bytes addr len next) all = slot_taken lane P slot (next (bytes_at lane addr len)) all
slot_taken lane P slot (want_words addr most test next) all = λ got. slot_taken lane P slot (next got) (all got)

module _ (boot : Booted) (kernel : Kernel) (regs : List ℕ) (lane : List ℕ) (slot : ℕ) (at : Located) (command : NewCall → Tested Taken)
    (made : IsWellMade kernel regs lane slot at command) where
  abbrev pub c : NewCall
  c = new_call_of boot kernel.tables regs slot at (bytes_at lane at.addr 32)

  -- its tests up to those of its command
  in_call : (Q : Result Taken Answer → Type 0) → OnLane lane Q (read (taken_by (command c)))
      → OnLane lane Q (new_call_in boot kernel.tables regs slot)
  in_call Q rest =
      known_passes lane Q (located kernel.tables regs) at ebadaddr _ made.place (
      need_passes lane Q (has_head at) ebadaddr _ made.head (
      need_passes lane Q (has_argument at (head_at (bytes_at lane at.addr 32))) ebadaddr _ made.argument (
      known_passes lane Q (command_of (head_at (bytes_at lane at.addr 32)).cmd) command ebadcmd _ made.command_is rest)))

  decided : (P : Taken → Type 0) → OnLane lane (TakenSo P) (new_call_in boot kernel.tables regs slot)
      → OnLane lane (TakesSlot slot P) (new_call boot kernel regs)
  decided P all =
      subst (λ (free : Option ℕ). OnLane lane (TakesSlot slot P) (decided_by (new_call_with boot kernel.tables regs free)))
      (sym made.lowest) (slot_taken lane P slot (new_call_in boot kernel.tables regs slot) all)

  -- what holds of all that its command's tests take it for
  pub takes_as : (P : Taken → Type 0) → EachEnds P (command c) → OnLane lane (TakesSlot slot P) (new_call boot kernel regs)
  takes_as P ends =
      decided P (in_call (TakenSo P) (both lane P (read (taken_by (command c))) (reads_pass lane (taken_by (command c)))
      (taken_ends P (command c) ends)))

  -- and of what they take it for where RAM is this
  pub takes_there : (P : Taken → Type 0) → OnLane lane (λ (result : Result Taken Taken). P (taken_in result)) (command c)
      → OnLane lane (TakesSlot slot P) (new_call boot kernel regs)
  takes_there P all = decided P (in_call (TakenSo P) (taken_there lane P (command c) all))

  -- the client's
  pub takes_for_client : OnLane lane (TakesSlot slot (λ taken. taken.call.client ≡ client_in regs)) (new_call boot kernel regs)
  takes_for_client =
      let P = λ (taken : Taken). taken.call.client ≡ client_in regs in
      decided P (both lane P (new_call_in boot kernel.tables regs slot)
      (in_call IsPassed (reads_pass lane (taken_by (command c))))
      (call_ends boot kernel.tables regs slot P (λ place bytes. endings (new_call_of boot kernel.tables regs slot place bytes) refl)))
    where
      endings : (n : NewCall) → n.client ≡ client_in regs → OfAllEndings (λ taken. taken.call.client ≡ client_in regs) n
      endings n is = record {
        settled = λ code. is;
        settled_open = λ of login code. is;
        opened = λ wanted of copies here.
            map_or-both (λ (taken : Taken). taken.call.client ≡ client_in regs)
            (λ (kept : ℕ × Instance). if is_held kept.1 then open_waits n wanted of copies kept else opens n wanted of copies)
            (shared_by n of) (opens n wanted of copies)
            (λ kept. if-both (λ (taken : Taken). taken.call.client ≡ client_in regs) (is_held kept.1)
            (open_waits n wanted of copies kept) (opens n wanted of copies) is is) is;
        dead = λ named here that. is;
        faulty = λ named here that. is;
        invoked = λ named copies here that.
            if-both (λ (taken : Taken). taken.call.client ≡ client_in regs) (is_held named.1) _ _ is is;
        closed = λ named here. if-both (λ (taken : Taken). taken.call.client ≡ client_in regs) (is_held named.1) _ _ is is;
        cancelled = λ named here. is;
        registered = λ buffers. is;
      }

-- ---- a cancellation

-- a call that was settled with a result, and goes out with it at once
pub record IsSettled (call : PendingCall) : Type 0 where
  pub settled : call.kind ≡ kind.Settled
  pub code : ℕ
  pub ends : call.phase ≡ Ends (of_tee code) no_params false None
  pub no_buffer : call.buffer ≡ None

abbrev Settled : Taken → Type 0
Settled taken = IsSettled taken.call

by_session : (n : NewCall) (found : Option (Session × Instance)) → AllOf (λ (result : Result Taken Taken). Settled (taken_in result))
    (known found (settles n bad_parameters) >>= (λ named. passes (cancels n)))
by_session n None = record { settled = refl; code = bad_parameters; ends = refl; no_buffer = refl }
by_session n (Some named) = record { settled = refl; code = success; ends = refl; no_buffer = refl }

pub takes_settled : (boot : Booted) (kernel : Kernel) (regs : List ℕ) (lane : List ℕ) (slot : ℕ) (at : Located)
    → IsWellMade kernel regs lane slot at cancel_calls
    → OnLane lane (TakesSlot slot (λ taken. IsSettled taken.call)) (new_call boot kernel regs)
takes_settled boot kernel regs lane slot at made =
    let n = new_call_of boot kernel.tables regs slot at (bytes_at lane at.addr 32) in
    decided boot kernel regs lane slot at cancel_calls made Settled
    (in_call boot kernel regs lane slot at cancel_calls made (TakenSo Settled)
    (tests_take lane Settled (cancel_calls n) (by_session n (named_session n))))

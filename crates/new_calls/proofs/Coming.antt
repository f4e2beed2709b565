-- What is decided behind the tests of every call.
use Rattle.std.proofs.Common.{◌≡◌, ℕ, true, false, List, Option, Some, None, Result, Ok, Err, refl, ap, subst, sym, ◌∙◌}
use Rattle.std.specs.Prelude.{IsSome}
use Rattle.std.specs.Option.{ForSome, option_map}
use Rattle.base.specs.NumberMap.{NumberMap, get}
use Rattle.kernel_model.specs.Application.{Booted}
use Rattle.kernel_model.specs.Codes.{ebadaddr, ebadcmd}
use Rattle.kernel_model.specs.Decision.{Answers, Takes, Taken, Tested, decided_by, decision_in, taken_by, taken_in}
use Rattle.kernel_model.specs.Kernel.{Tables}
use Rattle.kernel_model.specs.Argument.{reg}
use Rattle.kernel_model.specs.Located.{Located, cookie_of, has_argument, has_head, located, located_by}
use Rattle.kernel_model.specs.Located as model
use Rattle.kernel_model.specs.NewCall.{NewCall, command_of, new_call_in, new_call_of, new_call_with}
use Rattle.msg_args.specs.Reading.{head_at}
use Rattle.ns_ram.specs.Attempt.{Attempt, known, need, passes, read, ◌>>=◌, ◌>>◌}
use Rattle.ns_ram.specs.Reader.{done, over_lane, take_bytes}
use Rattle.ns_ram.specs.declared.read.Read.{Read}
use Rattle.param_copy.proofs.PieceReads.{onward}
use Rattle.shm_registry.specs.Registered.{Registered}
use Rattle.shm_registry.specs.declared.page_buffer.PageBuffer.{PageBuffer}
use Rattle.smc_abi.specs.Call.{call_of}
use Rattle.smc_abi.specs.declared.answer.Answer.{Answer}
use Rattle.new_calls.specs.Locating.{located_as, named_as}
use Rattle.new_calls.specs.declared.located.Located.{Located as FoundPlace}
use Rattle.new_calls.specs.declared.located.Named.{Named as FoundName}
use Rattle.new_calls.proofs.Steps.{passed_on, read_on, refused_at}

-- ---- what the slot is taken for

pub taken_at_end : (tests : Tested Taken) (lane : List ℕ) (before after : List Read) (taken : Taken) →
    over_lane tests lane before ≡ Some (Ok taken, after) → over_lane (taken_by tests) lane before ≡ Some (taken, after)
taken_at_end tests lane before after taken e = onward tests (λ result. done (taken_in result)) lane before after (Ok taken) e

pub taken_by_test : (tests : Tested Taken) (lane : List ℕ) (before after : List Read) (taken : Taken) →
    over_lane tests lane before ≡ Some (Err taken, after) → over_lane (taken_by tests) lane before ≡ Some (taken, after)
taken_by_test tests lane before after taken e = onward tests (λ result. done (taken_in result)) lane before after (Err taken) e

-- ---- what is decided

decides : (attempt : Attempt Answer (ℕ × Taken)) (lane : List ℕ) (before after : List Read) (result : Result (ℕ × Taken) Answer) →
    over_lane attempt lane before ≡ Some (result, after) → over_lane (decided_by attempt) lane before ≡ Some (decision_in result, after)
decides attempt lane before after result e = onward attempt (λ result. done (decision_in result)) lane before after result e

pub is_answered : (boot : Booted) (tables : Tables) (regs : List ℕ) (free : Option ℕ) (slot : ℕ) (lane : List ℕ) (before after : List Read) (answer : Answer) →
    free ≡ Some slot → over_lane (new_call_in boot tables regs slot) lane before ≡ Some (Err answer, after) →
    over_lane (decided_by (new_call_with boot tables regs free)) lane before ≡ Some (Answers answer, after)
is_answered boot tables regs free slot lane before after answer is e =
    rw is (decides (new_call_with boot tables regs (Some slot)) lane before after (Err answer)
    (refused_at (new_call_in boot tables regs slot) (λ taken. passes (slot, taken)) lane before after answer e))

pub is_taken : (boot : Booted) (tables : Tables) (regs : List ℕ) (free : Option ℕ) (slot : ℕ) (lane : List ℕ) (before between after : List Read)
    (tests : Tested Taken) (taken : Taken) (at : ℕ) → free ≡ Some slot → at ≡ slot →
    over_lane (new_call_in boot tables regs slot) lane before ≡ over_lane (read (taken_by tests)) lane between →
    over_lane (taken_by tests) lane between ≡ Some (taken, after) →
    over_lane (decided_by (new_call_with boot tables regs free)) lane before ≡ Some (Takes at taken, after)
is_taken boot tables regs free slot lane before between after tests taken at is same comes e =
    let passed : over_lane (new_call_in boot tables regs slot) lane before ≡ Some (Ok taken, after) =
    comes ∙ onward (taken_by tests) passes lane between after taken e in
    rw (is, same) (decides (new_call_with boot tables regs (Some slot)) lane before after (Ok (slot, taken))
    (passed_on (new_call_in boot tables regs slot) (λ taken. passes (slot, taken)) lane before after taken passed))

-- ---- the tests of every call

-- those behind the head
abbrev behind_head : Booted → Tables → List ℕ → ℕ → Located → List ℕ → Attempt Answer Taken
behind_head boot tables regs slot at bytes = do
  need (has_argument at (head_at bytes)) ebadaddr
  command ← known (command_of (head_at bytes).cmd) ebadcmd
  read (taken_by (command (new_call_of boot tables regs slot at bytes)))

pub no_argument : (boot : Booted) (tables : Tables) (regs lane : List ℕ) (slot : ℕ) (before : List Read) →
    located tables regs ≡ None →
    over_lane (new_call_in boot tables regs slot) lane before ≡ Some (Err ebadaddr, before)
no_argument boot tables regs lane slot before none = rw none refl

pub bad_address : (boot : Booted) (tables : Tables) (regs lane : List ℕ) (slot : ℕ) (before : List Read) (at : Located) →
    located tables regs ≡ Some at → has_head at ≡ false →
    over_lane (new_call_in boot tables regs slot) lane before ≡ Some (Err ebadaddr, before)
bad_address boot tables regs lane slot before at lies bad = rw (lies, bad) refl

pub bad_count : (boot : Booted) (tables : Tables) (regs lane : List ℕ) (slot : ℕ) (before between : List Read) (at : Located) (bytes : List ℕ) →
    located tables regs ≡ Some at → has_head at ≡ true →
    over_lane (take_bytes at.addr 32) lane before ≡ Some (bytes, between) →
    has_argument at (head_at bytes) ≡ false →
    over_lane (new_call_in boot tables regs slot) lane before ≡ Some (Err ebadaddr, between)
bad_count boot tables regs lane slot before between at bytes lies good e bad =
    rw (lies, good) (read_on (take_bytes at.addr 32) (behind_head boot tables regs slot at) lane before between bytes e ∙ rw bad refl)

pub bad_command : (boot : Booted) (tables : Tables) (regs lane : List ℕ) (slot : ℕ) (before between : List Read) (at : Located) (bytes : List ℕ) →
    located tables regs ≡ Some at → has_head at ≡ true →
    over_lane (take_bytes at.addr 32) lane before ≡ Some (bytes, between) →
    has_argument at (head_at bytes) ≡ true →
    command_of (head_at bytes).cmd ≡ None →
    over_lane (new_call_in boot tables regs slot) lane before ≡ Some (Err ebadcmd, between)
bad_command boot tables regs lane slot before between at bytes lies good e few bad =
    rw (lies, good) (read_on (take_bytes at.addr 32) (behind_head boot tables regs slot at) lane before between bytes e ∙ rw (few, bad) refl)

pub comes_in : (boot : Booted) (tables : Tables) (regs lane : List ℕ) (slot : ℕ) (before between : List Read) (at : Located) (bytes : List ℕ)
    (tests : NewCall → Tested Taken) → located tables regs ≡ Some at → has_head at ≡ true →
    over_lane (take_bytes at.addr 32) lane before ≡ Some (bytes, between) →
    has_argument at (head_at bytes) ≡ true →
    command_of (head_at bytes).cmd ≡ Some tests →
    over_lane (new_call_in boot tables regs slot) lane before
    ≡ over_lane (read (taken_by (tests (new_call_of boot tables regs slot at bytes)))) lane between
comes_in boot tables regs lane slot before between at bytes tests lies good e few found =
    rw (lies, good) (read_on (take_bytes at.addr 32) (behind_head boot tables regs slot at) lane before between bytes e ∙ rw (few, found) refl)

-- ---- where the argument is

-- what the code has found is what the definitions find, over tables with that registry
pub located_there : (tables : Tables) (registry : Registered) (regs : List ℕ) (at : FoundPlace) → tables.registered ≡ registry →
    Some (located_as at) ≡ located_by registry.buffers regs (call_of (reg regs 0)) → located tables regs ≡ Some (located_as at)
located_there tables registry regs at same is =
    ap (λ (r : Registered). located_by r.buffers regs (call_of (reg regs 0))) same ∙ sym is

pub located_nowhere : (tables : Tables) (registry : Registered) (regs : List ℕ) → tables.registered ≡ registry →
    None ≡ located_by registry.buffers regs (call_of (reg regs 0)) → located tables regs ≡ None
located_nowhere tables registry regs same none =
    ap (λ (r : Registered). located_by r.buffers regs (call_of (reg regs 0))) same ∙ sym none

-- the cookie that names it is kept
pub kept_cookie : (buffers : NumberMap PageBuffer) (at : FoundPlace) → ForSome at.named (λ named. IsSome (get buffers named.cookie)) →
    ForSome (cookie_of (located_as at)) (λ cookie. IsSome (get buffers cookie))
kept_cookie buffers at kept = by_name at.named kept
  where
    by_name : (named : Option FoundName) → ForSome named (λ n. IsSome (get buffers n.cookie)) →
        ForSome (option_map (λ (n : model.Named). n.cookie) (option_map named_as named)) (λ cookie. IsSome (get buffers cookie))
    by_name None known = λ cookie is. absurd cc
    by_name (Some named) known = λ cookie is.
        let same : named.cookie ≡ cookie = cc in
        subst (λ (n : ℕ). IsSome (get buffers n)) same (known named refl)

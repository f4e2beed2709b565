-- What each entry decides: the words that its answer can have, and where ETHREAD_LIMIT and ERESUME come.
use Rattle.std.proofs.Common.{◌≡◌, ℕ, List, Option, Some, None, Bool, true, false, Result, Ok, Err, refl, sym, ap, ◌∙◌}
use Rattle.std.specs.Prelude.{if◌then◌else◌, nat_lt, slice_index}
use Rattle.std.specs.Option.{option_map_or}
use Rattle.msg_args.specs.Reading.{head_at}
use Rattle.ns_ram.specs.Attempt.{Attempt, need, known, read, passes, ◌>>=◌}
use Rattle.ns_ram.specs.Reader.{Reader, done, want_bytes, want_words, take_bytes}
use Rattle.smc_abi.specs.Call.{call_of}
use Rattle.smc_abi.specs.FastAnswer.{fast_answer_of}
use Rattle.smc_abi.specs.declared.answer.Answer.{Answer}
use Rattle.smc_abi.specs.declared.answer.Answer.TheVariants.{Words, Alloc, Free, Cmd, Interrupt}
use Rattle.smc_abi.specs.declared.call.Call.{Call}
use Rattle.smc_abi.specs.declared.call.Call.TheVariants.{Fast, WithArg, WithRpcArg, WithRegdArg, Resume, Unknown}
use Rattle.smc_abi.specs.declared.call.FastCall.{FastCall}
use Rattle.smc_abi.specs.declared.call.FastCall.TheVariants.{CallsUid, CallsRevision, OsUuid, OsRevision, ShmConfig, Capabilities, DisableShmCache, EnableShmCache, ThreadCount}
use Rattle.kernel_model.specs.Application.{Booted}
use Rattle.kernel_model.specs.Argument.{IsNew, is_new, reg}
use Rattle.kernel_model.specs.Codes.{ethread_limit, ebadaddr, ebadcmd, eresume}
use Rattle.kernel_model.specs.Decision.{Decision, Answers, Takes, Taken, decided_by, taken_by}
use Rattle.kernel_model.specs.Entry.{decision_of}
use Rattle.kernel_model.specs.Kernel.{Kernel, PendingCall, Tables, lowest_free}
use Rattle.kernel_model.specs.Laws.{FindsNoSlot, FindsNoCall}
use Rattle.kernel_model.specs.Located.{has_argument, has_head, located}
use Rattle.kernel_model.specs.NewCall.{command_of, new_call_of, new_call_in, new_call_with}
use Rattle.kernel_model.specs.Resume.{call_resumed_by, resume_call, takes_call}
use Rattle.kernel_model.proofs.Parts.{AllOf, AllOf-mapped}

-- what a0 says
abbrev pub word_of : Answer → ℕ
word_of (Words a0 a1 a2 a3) = a0
word_of (Alloc size thread) = 0xffff0000
word_of (Free cookie thread) = 0xffff0002
word_of (Cmd cookie thread) = 0xffff0005
word_of (Interrupt thread) = 0xffff0004

-- neither of the two
abbrev pub Neither : ℕ → Type 0
Neither word = (word ≡ 1 → ⊥) × (word ≡ 3 → ⊥)

-- it says neither
abbrev pub IsOther : Answer → Type 0
IsOther answer = Neither (word_of answer)

-- an answer that says 1, or 3, is one to a call that finds no slot, or no call; and such a call is answered so
abbrev pub Told : Kernel → List ℕ → Decision → Type 0
Told kernel regs (Answers answer) =
    ((word_of answer ≡ 1 → FindsNoSlot kernel regs) × (word_of answer ≡ 3 → FindsNoCall kernel regs))
    × ((FindsNoSlot kernel regs → answer ≡ ethread_limit) × (FindsNoCall kernel regs → answer ≡ eresume))
Told kernel regs (Takes slot taken) = (FindsNoSlot kernel regs → ⊥) × (FindsNoCall kernel regs → ⊥)

-- ---- fast calls

status_apart : (test : Bool) → Neither (if test then 0 else 7)
status_apart true = (λ e. cc, λ e. cc)
status_apart false = (λ e. cc, λ e. cc)

fast_other : (regs : List ℕ) (threads : ℕ) (call : FastCall) → IsOther (fast_answer_of call regs threads)
fast_other regs threads CallsUid = (λ e. cc, λ e. cc)
fast_other regs threads CallsRevision = (λ e. cc, λ e. cc)
fast_other regs threads OsUuid = (λ e. cc, λ e. cc)
fast_other regs threads OsRevision = (λ e. cc, λ e. cc)
fast_other regs threads ShmConfig = (λ e. cc, λ e. cc)
fast_other regs threads Capabilities = status_apart (nat_lt (slice_index regs 1) 2)
fast_other regs threads DisableShmCache = (λ e. cc, λ e. cc)
fast_other regs threads EnableShmCache = (λ e. cc, λ e. cc)
fast_other regs threads ThreadCount = (λ e. cc, λ e. cc)

-- another answer to a call that is neither a new call nor a resume
other_told : (kernel : Kernel) (regs : List ℕ) (answer : Answer) → IsOther answer
    → (IsNew regs → ⊥) → (call_of (reg regs 0) ≡ Resume → ⊥) → Told kernel regs (Answers answer)
other_told kernel regs answer other new resumed = (
  (λ e. absurd (other.0 e), λ e. absurd (other.1 e)),
  (λ none. absurd (new none.0), λ none. absurd (resumed none.0)),
)

-- ---- new calls

abbrev Outcome : {F A : Type 0} → (A → Type 0) → (F → Type 0) → Result A F → Type 0
Outcome Q P (Ok value) = Q value
Outcome Q P (Err refusal) = P refusal

abbrev Any : {A : Type 0} → A → Type 0
Any value = Unit {0}

attempt-then : {F A B : Type 0} (P : F → Type 0) (first : Attempt F A) (onward : A → Attempt F B)
    → AllOf (Outcome Any P) first → ((value : A) → AllOf (Outcome Any P) (onward value)) → AllOf (Outcome Any P) (first >>= onward)
attempt-then P (done (Ok value)) onward fails rest = rest value
attempt-then P (done (Err refusal)) onward fails rest = fails
attempt-then P (want_bytes addr len next) onward fails rest = λ got. attempt-then P (next got) onward (fails got) rest
attempt-then P (want_words addr most test next) onward fails rest = λ got. attempt-then P (next got) onward (fails got) rest

known-fails : {F A : Type 0} (P : F → Type 0) (found : Option A) (refusal : F) → P refusal → AllOf (Outcome Any P) (known found refusal)
known-fails P None refusal holds = holds
known-fails P (Some value) refusal holds = tt

need-fails : {F : Type 0} (P : F → Type 0) (test : Bool) (refusal : F) → P refusal → AllOf (Outcome Any P) (need test refusal)
need-fails P true refusal holds = tt
need-fails P false refusal holds = holds

read-fails : {F A : Type 0} (P : F → Type 0) (reader : Reader A) → AllOf (Outcome Any P) (read reader)
read-fails P reader = AllOf-mapped reader (λ value. Ok value) (Outcome Any P) (λ value. tt)

bad_address : IsOther ebadaddr
bad_address = (λ e. cc, λ e. cc)

bad_command : IsOther ebadcmd
bad_command = (λ e. cc, λ e. cc)

-- behind a free slot
behind_slot : (boot : Booted) (tables : Tables) (regs : List ℕ) (slot : ℕ) → AllOf (Outcome Any IsOther) (new_call_in boot tables regs slot)
behind_slot boot tables regs slot =
    attempt-then IsOther (known (located tables regs) ebadaddr) _ (known-fails IsOther (located tables regs) ebadaddr bad_address) (λ found.
    attempt-then IsOther (need (has_head found) ebadaddr) _ (need-fails IsOther (has_head found) ebadaddr bad_address) (λ _.
    attempt-then IsOther (read (take_bytes found.addr 32)) _ (read-fails IsOther (take_bytes found.addr 32)) (λ bytes.
    attempt-then IsOther (need (has_argument found (head_at bytes)) ebadaddr) _ (need-fails IsOther (has_argument found (head_at bytes)) ebadaddr bad_address) (λ _.
    attempt-then IsOther (known (command_of (head_at bytes).cmd) ebadcmd) _ (known-fails IsOther (command_of (head_at bytes).cmd) ebadcmd bad_command) (λ command.
    read-fails IsOther (taken_by (command (new_call_of boot tables regs slot found bytes))))))))

some_slot : (kernel : Kernel) (slot : ℕ) → lowest_free kernel.slots ≡ Some slot → lowest_free kernel.slots ≡ None → ⊥
some_slot kernel slot some none = cc

-- a call of another kind is no new one
not_new : (regs : List ℕ) (call : Call) → call_of (reg regs 0) ≡ call → is_new call ≡ false → IsNew regs → ⊥
not_new regs call is other new =
    let wrong : true ≡ false = sym new ∙ ap is_new is ∙ other in
    cc

not_resumed : (regs : List ℕ) → IsNew regs → call_of (reg regs 0) ≡ Resume → ⊥
not_resumed regs new resumed = not_new regs Resume resumed refl new

slot_told : (kernel : Kernel) (regs : List ℕ) (slot : ℕ) (attempt : Attempt Answer Taken)
    → (FindsNoSlot kernel regs → ⊥) → (FindsNoCall kernel regs → ⊥) → AllOf (Outcome Any IsOther) attempt
    → AllOf (Told kernel regs) (decided_by (attempt >>= (λ taken. passes (slot, taken))))
slot_told kernel regs slot (done (Ok taken)) some new all = (some, new)
slot_told kernel regs slot (done (Err answer)) some new all =
    ((λ e. absurd (all.0 e), λ e. absurd (all.1 e)), (λ none. absurd (some none), λ none. absurd (new none)))
slot_told kernel regs slot (want_bytes addr len next) some new all = λ got. slot_told kernel regs slot (next got) some new (all got)
slot_told kernel regs slot (want_words addr most test next) some new all = λ got. slot_told kernel regs slot (next got) some new (all got)

new_told : (boot : Booted) (kernel : Kernel) (regs : List ℕ) (free : Option ℕ) → lowest_free kernel.slots ≡ free → IsNew regs
    → AllOf (Told kernel regs) (decided_by (new_call_with boot kernel.tables regs free))
new_told boot kernel regs None none is =
    ((λ e. (is, none), λ e. absurd cc), (λ found. refl, λ found. absurd (not_resumed regs is found.0)))
new_told boot kernel regs (Some slot) some is =
    slot_told kernel regs slot (new_call_in boot kernel.tables regs slot)
    (λ found. some_slot kernel slot some found.1) (λ found. not_resumed regs is found.0) (behind_slot boot kernel.tables regs slot)

-- ---- resumes

none_and_some : (kernel : Kernel) (regs : List ℕ) (call : PendingCall) → call_resumed_by kernel.slots regs ≡ Some call → call_resumed_by kernel.slots regs ≡ None → ⊥
none_and_some kernel regs call some none = cc

resume_told : (boot : Booted) (kernel : Kernel) (regs : List ℕ) (found : Option PendingCall) → call_resumed_by kernel.slots regs ≡ found → call_of (reg regs 0) ≡ Resume
    → AllOf (Told kernel regs) (option_map_or (takes_call boot kernel.tables regs) found (done (Answers eresume)))
resume_told boot kernel regs None none is =
    ((λ e. absurd cc, λ e. (is, none)), (λ found. absurd (not_resumed regs found.0 is), λ found. refl))
resume_told boot kernel regs (Some call) some is =
    AllOf-mapped (resume_call boot kernel.tables regs call) _ (Told kernel regs)
    (λ progress. (λ found. not_resumed regs found.0 is, λ found. none_and_some kernel regs call some found.1))

-- ---- each call

call_told : (boot : Booted) (kernel : Kernel) (regs : List ℕ) (call : Call) → call_of (reg regs 0) ≡ call → AllOf (Told kernel regs) (decision_of boot kernel regs call)
call_told boot kernel regs (Fast call) is =
    other_told kernel regs (fast_answer_of call regs boot.threads) (fast_other regs boot.threads call) (not_new regs (Fast call) is refl) (λ resumed. cc)
call_told boot kernel regs WithArg is = new_told boot kernel regs (lowest_free kernel.slots) refl (ap is_new is)
call_told boot kernel regs WithRpcArg is = new_told boot kernel regs (lowest_free kernel.slots) refl (ap is_new is)
call_told boot kernel regs WithRegdArg is = new_told boot kernel regs (lowest_free kernel.slots) refl (ap is_new is)
call_told boot kernel regs Resume is = resume_told boot kernel regs (call_resumed_by kernel.slots regs) refl is
call_told boot kernel regs Unknown is = other_told kernel regs (Words 0xffffffff 0 0 0) (λ e. cc, λ e. cc) (not_new regs Unknown is refl) (λ resumed. cc)

pub decision_told : (boot : Booted) (kernel : Kernel) (regs : List ℕ) → AllOf (Told kernel regs) (decision_of boot kernel regs (call_of (reg regs 0)))
decision_told boot kernel regs = call_told boot kernel regs (call_of (reg regs 0)) refl

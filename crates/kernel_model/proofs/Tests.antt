-- What holds of each way in which the tests of a new call can end.
use Rattle.std.proofs.Common.{◌≡◌, Bool, true, false, Option, Some, None, Result, Ok, Err, refl}
use Rattle.ns_ram.specs.Attempt.{Attempt, faultless, known, need, read, ◌>>=◌}
use Rattle.ns_ram.specs.Reader.{Reader, done, want_bytes, want_words}
use Rattle.smc_abi.specs.declared.answer.Answer.{Answer}
use Rattle.kernel_model.specs.Decision.{Taken, Tested, taken_by, taken_in}
use Rattle.kernel_model.proofs.Parts.{AllOf}

-- it holds of what the slot is taken for, by each test that fails and at the end
abbrev pub Ends : (Taken → Type 0) → Tested Taken → Type 0
Ends P tested = AllOf (λ (result : Result Taken Taken). P (taken_in result)) tested

-- it holds of what the slot is taken for by a test that fails
abbrev pub FailsIn : {F A : Type 0} → (F → Type 0) → Result A F → Type 0
FailsIn P (Ok value) = Unit {0}
FailsIn P (Err refusal) = P refusal

abbrev pub Fails : {A : Type 0} → (Taken → Type 0) → Tested A → Type 0
Fails {A} P tested = AllOf (λ (result : Result A Taken). FailsIn P result) tested

pub test-then : {A : Type 0} (P : Taken → Type 0) (first : Tested A) (onward : A → Tested Taken)
    → Fails P first → ((value : A) → Ends P (onward value)) → Ends P (first >>= onward)
test-then P (done (Ok value)) onward fails rest = rest value
test-then P (done (Err refusal)) onward fails rest = fails
test-then P (want_bytes addr len next) onward fails rest = λ got. test-then P (next got) onward (fails got) rest
test-then P (want_words addr most test next) onward fails rest = λ got. test-then P (next got) onward (fails got) rest

pub known-then : {A : Type 0} (P : Taken → Type 0) (found : Option A) (refusal : Taken) (onward : A → Tested Taken)
    → P refusal → ((value : A) → found ≡ Some value → Ends P (onward value)) → Ends P (known found refusal >>= onward)
known-then P None refusal onward fails rest = fails
known-then P (Some value) refusal onward fails rest = rest value refl

pub need-then : (P : Taken → Type 0) (test : Bool) (refusal : Taken) (onward : Unit {0} → Tested Taken)
    → P refusal → Ends P (onward tt) → Ends P (need test refusal >>= onward)
need-then P true refusal onward fails rest = rest
need-then P false refusal onward fails rest = fails

-- the same, where the test's answer is used
pub need-by : (P : Taken → Type 0) (test : Bool) (refusal : Taken) (onward : Unit {0} → Tested Taken)
    → (test ≡ false → P refusal) → (test ≡ true → Ends P (onward tt)) → Ends P (need test refusal >>= onward)
need-by P true refusal onward fails rest = rest refl
need-by P false refusal onward fails rest = fails refl

pub known-fails : {A : Type 0} (P : Taken → Type 0) (found : Option A) (refusal : Taken) → P refusal → Fails P (known found refusal)
known-fails P None refusal fails = fails
known-fails P (Some value) refusal fails = tt

pub reads-fails : {A B : Type 0} (P : Taken → Type 0) (reader : Reader A) (onward : A → Tested B)
    → ((value : A) → Fails P (onward value)) → Fails P (read reader >>= onward)
reads-fails P (done value) onward rest = rest value
reads-fails P (want_bytes addr len next) onward rest = λ got. reads-fails P (next got) onward rest
reads-fails P (want_words addr most test next) onward rest = λ got. reads-fails P (next got) onward rest

pub faultless-fails : {E A : Type 0} (P : Taken → Type 0) (attempt : Attempt E A) (refusal : Taken) → P refusal → Fails P (faultless attempt refusal)
faultless-fails P (done (Ok value)) refusal fails = tt
faultless-fails P (done (Err fault)) refusal fails = fails
faultless-fails P (want_bytes addr len next) refusal fails = λ got. faultless-fails P (next got) refusal fails
faultless-fails P (want_words addr most test next) refusal fails = λ got. faultless-fails P (next got) refusal fails

-- ---- the tests of each call

-- it holds of what a slot is taken for, if one is
abbrev pub TakenIn : (Taken → Type 0) → Result Taken Answer → Type 0
TakenIn P (Ok taken) = P taken
TakenIn P (Err answer) = Unit {0}

pub answer_need : (P : Taken → Type 0) (test : Bool) (refusal : Answer) (onward : Unit {0} → Attempt Answer Taken)
    → AllOf (TakenIn P) (onward tt) → AllOf (TakenIn P) (need test refusal >>= onward)
answer_need P true refusal onward rest = rest
answer_need P false refusal onward rest = tt

pub answer_known : {A : Type 0} (P : Taken → Type 0) (found : Option A) (refusal : Answer) (onward : A → Attempt Answer Taken)
    → ((value : A) → found ≡ Some value → AllOf (TakenIn P) (onward value)) → AllOf (TakenIn P) (known found refusal >>= onward)
answer_known P None refusal onward rest = tt
answer_known P (Some value) refusal onward rest = rest value refl

pub answer_read : {A : Type 0} (P : Taken → Type 0) (reader : Reader A) (onward : A → Attempt Answer Taken)
    → ((value : A) → AllOf (TakenIn P) (onward value)) → AllOf (TakenIn P) (read reader >>= onward)
answer_read P (done value) onward rest = rest value
answer_read P (want_bytes addr len next) onward rest = λ got. answer_read P (next got) onward rest
answer_read P (want_words addr most test next) onward rest = λ got. answer_read P (next got) onward rest

pub taken_ends : (P : Taken → Type 0) (tested : Tested Taken) → Ends P tested → AllOf (TakenIn P) (read (taken_by tested))
taken_ends P (done result) ends = ends
taken_ends P (want_bytes addr len next) ends = λ got. taken_ends P (next got) (ends got)
taken_ends P (want_words addr most test next) ends = λ got. taken_ends P (next got) (ends got)

-- How many RPC returns came in a call, and how often no thread was free, by the stage that it has come to.
use Rattle.std.proofs.Common.{◌≡◌, ℕ, suc, ◌+◌, ◌<◌, ◌≤◌, cond, not, eqb, ◌&&◌, ◌||◌, Bool, true, false, List, [], ◌∷◌, ◌++◌, length, filter, Some, refl, sym, ap, ap₂, ◌==◌, ◌∙◌, subst, arith, append_assoc, append-nil, length-append}
use Rattle.std.specs.Option.{option_map_or}
use Rattle.std.proofs.lemmas.List.Elements.{filter-append}
use Rattle.std.proofs.lemmas.Bool.Decides.{nat_tests}
use Rattle.smc_abi.specs.declared.regs.Regs.{Regs}
use Rattle.smc_port.specs.Smc.{Smc}
use Rattle.teec.specs.declared.answer.RpcKind.{RpcKind}
use Rattle.teec.specs.declared.answer.RpcKind.TheVariants.{Alloc, Free, Interrupt, Cmd}
use Rattle.teec.specs.declared.answer.RpcReturn.{RpcReturn}
use Rattle.teec.specs.declared.answer.Said.{Said}
use Rattle.teec.specs.declared.answer.Said.TheVariants.{Finished, NoThread, Returned, Unknown}
use Rattle.teec.specs.declared.fault.TeecFault.{TeecFault}
use Rattle.teec.specs.declared.fault.TeecFault.TheVariants.{Memory, Retried, Rounds, Spent, Strange}
use Rattle.teec.specs.declared.limits.Limits.{Limits}
use Rattle.teec.specs.Answers.{call_with_arg, register, return_from_rpc, return_of, said}
use Rattle.teec.specs.Calls.{Call}
use Rattle.teec.specs.Causes.{EndsIn, answers_of, IsFinished, IsOutOfRounds, IsRetried, IsStrange, is_call, is_cancel, is_strange, refusals_in, returns_in, says_finished, says_no_thread, says_return}
use Rattle.teec.specs.Places.{argument_at, cancel_at}
use Rattle.teec.specs.Rounds.{Calls, Cancels, Ended, Failed, Resumes, Stage, after_answer, after_call, after_cancel, after_resume, before_answer, regs_at, stage_from}
use Rattle.teec.specs.Runs.{Runs, Scene}

-- ---- one SMC more

last_of : {A : Type 0} (xs ys : List A) (x y : A) → xs ++ x ∷ [] ≡ ys ++ y ∷ [] → x ≡ y
last_of [] [] x y same = cc
last_of [] (z ∷ []) x y same = absurd cc
last_of [] (z ∷ w ∷ ys) x y same = absurd cc
last_of (z ∷ []) [] x y same = absurd cc
last_of (z ∷ w ∷ xs) [] x y same = absurd cc
last_of (z ∷ xs) (w ∷ ys) x y same =
    let rest : xs ++ x ∷ [] ≡ ys ++ y ∷ [] = cc in
    last_of xs ys x y rest

pub ends_in : (smcs : List Smc) (smc last : Smc) → EndsIn (smcs ++ smc ∷ []) last → last ≡ smc
ends_in smcs smc last ends = sym (last_of smcs ends.before smc last ends.all)

pub ends_so : (smcs : List Smc) (smc : Smc) → EndsIn (smcs ++ smc ∷ []) smc
ends_so smcs smc = record { before = smcs; all = refl }

count_more : {A : Type 0} (p q : A → Bool) (xs : List A) (x : A)
    → length (filter p (filter q (xs ++ x ∷ []))) ≡ length (filter p (filter q xs)) + length (filter p (filter q (x ∷ [])))
count_more p q xs x =
    ap (λ ys. length (filter p ys)) (filter-append q xs (x ∷ [])) ∙ ap length (filter-append p (filter q xs) (filter q (x ∷ [])))
    ∙ length-append (filter p (filter q xs)) (filter p (filter q (x ∷ [])))

-- what one SMC adds to a count: 1 where it is made for the argument and passes the test
abbrev one_if : Bool → Bool → ℕ
one_if cancels passes = cond cancels 0 (cond passes 1 0)

one_passes : {A : Type 0} (p : A → Bool) (x : A) → length (cond (p x) (x ∷ []) []) ≡ cond (p x) 1 0
one_passes p x = elim (p x) as (λ b. length (cond b (x ∷ []) []) ≡ cond b 1 0) [ true ↦ refl | false ↦ refl ]

one_counts : {A : Type 0} (p q : A → Bool) (x : A) (cancels : Bool) → q x ≡ not cancels → length (filter p (filter q (x ∷ []))) ≡ one_if cancels (p x)
one_counts p q x true is =
    ap (λ b. length (filter p (cond b (x ∷ []) []))) is
one_counts p q x false is =
    ap (λ b. length (filter p (cond b (x ∷ []) []))) is ∙ one_passes p x

pub returns_more : (smcs : List Smc) (smc : Smc) → returns_in (smcs ++ smc ∷ []) ≡ returns_in smcs + one_if (is_cancel smc) (says_return (said smc.answer))
returns_more smcs smc =
    count_more (λ smc. says_return (said smc.answer)) (λ smc. not (is_cancel smc)) smcs smc
    ∙ ap (λ n. returns_in smcs + n) (one_counts (λ smc. says_return (said smc.answer)) (λ smc. not (is_cancel smc)) smc (is_cancel smc) refl)

pub refusals_more : (smcs : List Smc) (smc : Smc) → refusals_in (smcs ++ smc ∷ []) ≡ refusals_in smcs + one_if (is_cancel smc) (says_no_thread (said smc.answer) && is_call smc)
refusals_more smcs smc =
    count_more (λ smc. says_no_thread (said smc.answer) && is_call smc) (λ smc. not (is_cancel smc)) smcs smc
    ∙ ap (λ n. refusals_in smcs + n) (one_counts (λ smc. says_no_thread (said smc.answer) && is_call smc) (λ smc. not (is_cancel smc)) smc (is_cancel smc) refl)

abbrev seems_strange : Said → Bool → Bool
seems_strange says calls = not (says_finished says || says_return says || (says_no_thread says && calls))

-- what one SMC of this kind, answered so, adds
record Adds (smcs : List Smc) (smc : Smc) (cancels calls : Bool) (says : Said) : Type 0 where
  pub returns : returns_in (smcs ++ smc ∷ []) ≡ returns_in smcs + one_if cancels (says_return says)
  pub refusals : refusals_in (smcs ++ smc ∷ []) ≡ refusals_in smcs + one_if cancels (says_no_thread says && calls)
  pub strange : is_strange smc ≡ seems_strange says calls

abbrev with_refusal : List Smc → Bool → Said → Bool → ℕ
with_refusal smcs cancels says calls = refusals_in smcs + one_if cancels (says_no_thread says && calls)

adds : (smcs : List Smc) (smc : Smc) (cancels calls : Bool) (says : Said) → is_cancel smc ≡ cancels → is_call smc ≡ calls → said smc.answer ≡ says
    → Adds smcs smc cancels calls says
adds smcs smc cancels calls says is_cancels is_calls is_said =
    record {
      returns = returns_more smcs smc ∙ ap₂ (λ (b : Bool) (s : Said). returns_in smcs + one_if b (says_return s)) is_cancels is_said;
      refusals = refusals_more smcs smc ∙ ap₂ (λ (b : Bool) (s : Said). with_refusal smcs b s (is_call smc)) is_cancels is_said ∙ ap (λ (b : Bool). with_refusal smcs cancels says b) is_calls;
      strange = ap₂ (λ (s : Said) (b : Bool). seems_strange s b) is_said is_calls;
    }

-- ---- SMCs by the stage

abbrev starts_call : Regs → Bool
starts_call regs = eqb (register regs 0) 0x32000004

abbrev is_of_cancel : Regs → Bool
is_of_cancel regs = starts_call regs && eqb (register regs 2) cancel_at

record IsOfKind (smc : Smc) (cancels calls : Bool) : Type 0 where
  pub cancel : is_cancel smc ≡ cancels
  pub call : is_call smc ≡ calls

of_regs : (smc : Smc) (regs : Regs) (cancels calls : Bool) → Some regs ≡ Some smc.regs → is_of_cancel regs ≡ cancels → starts_call regs ≡ calls → IsOfKind smc cancels calls
of_regs smc regs cancels calls same cancel call =
    let is : smc.regs ≡ regs = cc in
    record { cancel = ap is_of_cancel is ∙ cancel; call = ap starts_call is ∙ call }

resumes_none : (kind : RpcKind) (thread : ℕ) → starts_call (return_of kind thread) ≡ false
resumes_none Alloc thread = refl
resumes_none Free thread = refl
resumes_none Interrupt thread = refl
resumes_none (Cmd cookie) thread = refl

cancels_none : (kind : RpcKind) (thread : ℕ) → is_of_cancel (return_of kind thread) ≡ false
cancels_none Alloc thread = refl
cancels_none Free thread = refl
cancels_none Interrupt thread = refl
cancels_none (Cmd cookie) thread = refl

-- ---- counts by the stage

-- the last SMC wasn't answered strangely
abbrev pub IsPlain : List Smc → Type 0
IsPlain smcs = (last : Smc) → EndsIn smcs last → is_strange last ≡ false

pub record IsTried (limits : Limits) (smcs : List Smc) (refused : ℕ) : Type 0 where
  pub refusals : refusals_in smcs ≡ refused
  pub returns : returns_in smcs ≡ 0
  pub few : refused < limits.retries
  pub plain : IsPlain smcs

pub record IsUnderWay (limits : Limits) (smcs : List Smc) (returns : ℕ) : Type 0 where
  pub counted : returns_in smcs ≡ returns
  pub bound : returns ≤ limits.rounds
  pub few : refusals_in smcs < limits.retries
  pub plain : IsPlain smcs

pub record HasEnded (limits : Limits) (smcs : List Smc) : Type 0 where
  pub finished : IsFinished smcs
  pub bound : returns_in smcs ≤ limits.rounds
  pub few : refusals_in smcs < limits.retries
  pub plain : IsPlain smcs

pub record HasTriedAll (limits : Limits) (smcs : List Smc) (number : ℕ) : Type 0 where
  pub cause : IsRetried limits smcs number
  pub bound : returns_in smcs ≤ limits.rounds
  pub plain : IsPlain smcs

pub record HasNoRounds (limits : Limits) (smcs : List Smc) (number : ℕ) : Type 0 where
  pub cause : IsOutOfRounds limits smcs number
  pub few : refusals_in smcs < limits.retries
  pub plain : IsPlain smcs

pub record HasEndedStrangely (limits : Limits) (smcs : List Smc) (answer : Regs) : Type 0 where
  pub cause : IsStrange smcs answer
  pub bound : returns_in smcs ≤ limits.rounds
  pub few : refusals_in smcs < limits.retries

abbrev pub HasFailed : Limits → List Smc → TeecFault → Type 0
HasFailed limits smcs (Retried number) = HasTriedAll limits smcs number
HasFailed limits smcs (Rounds number) = HasNoRounds limits smcs number
HasFailed limits smcs (Strange answer) = HasEndedStrangely limits smcs answer
HasFailed limits smcs Spent = ⊥
HasFailed limits smcs Memory = ⊥

abbrev pub IsAt : Limits → Stage → List Smc → Type 0
IsAt limits (Calls refused) smcs = IsTried limits smcs refused
IsAt limits (Cancels returns rpc) smcs = IsUnderWay limits smcs returns
IsAt limits (Resumes returns rpc) smcs = IsUnderWay limits smcs returns
IsAt limits Ended smcs = HasEnded limits smcs
IsAt limits (Failed fault) smcs = HasFailed limits smcs fault

plain_so : (smcs : List Smc) (smc : Smc) → is_strange smc ≡ false → IsPlain (smcs ++ smc ∷ [])
plain_so smcs smc plain = λ last ends. ap is_strange (ends_in smcs smc last ends) ∙ plain

-- ---- one SMC more, by what is answered

-- an RPC return, after so many
before_on : (limits : Limits) (returns : ℕ) (rpc : RpcReturn) (smcs : List Smc) → IsUnderWay limits smcs returns
    → IsAt limits (before_answer limits returns rpc) smcs
before_on limits returns rpc smcs under_way =
    elim (option_map_or (λ after. after == returns) limits.cancel_after false) as (λ b. IsAt limits (cond b (Cancels returns rpc) (Resumes returns rpc)) smcs)
    [ true ↦ under_way | false ↦ under_way ]

returned_on : (limits : Limits) (returns : ℕ) (rpc : RpcReturn) (smcs : List Smc) (all : Bool) → eqb returns limits.rounds ≡ all
    → returns ≤ limits.rounds → returns_in smcs ≡ suc returns → refusals_in smcs < limits.retries → IsPlain smcs
    → IsAt limits (cond all (Failed (Rounds limits.rounds)) (before_answer limits (suc returns) rpc)) smcs
returned_on limits returns rpc smcs true is bound counted few plain =
    let same : returns ≡ limits.rounds = grind (arith, nat_tests) in
    record { cause = record { bound = refl; returns = counted ∙ ap (λ n. suc n) same }; few = few; plain = plain }
returned_on limits returns rpc smcs false is bound counted few plain =
    let other : suc returns ≤ limits.rounds = grind (arith, nat_tests) in
    let under_way : IsUnderWay limits smcs (suc returns) = record { counted = counted; bound = other; few = few; plain = plain } in
    before_on limits (suc returns) rpc smcs under_way

refused_on : (limits : Limits) (refused : ℕ) (smcs : List Smc) (all : Bool) → eqb (suc refused) limits.retries ≡ all
    → refused < limits.retries → refusals_in smcs ≡ suc refused → returns_in smcs ≡ 0 → IsPlain smcs
    → IsAt limits (cond all (Failed (Retried limits.retries)) (Calls (suc refused))) smcs
refused_on limits refused smcs true is less counted none plain =
    let same : suc refused ≡ limits.retries = grind (arith, nat_tests) in
    record { cause = record { bound = refl; refused = counted ∙ same }; bound = omega (arith, none); plain = plain }
refused_on limits refused smcs false is less counted none plain =
    let other : suc refused < limits.retries = grind (arith, nat_tests) in
    record { refusals = counted; returns = none; few = other; plain = plain }

-- to a CALL_WITH_ARG of the argument
call_on : (limits : Limits) (refused : ℕ) (smcs : List Smc) (smc : Smc) (says : Said) → IsTried limits smcs refused
    → IsOfKind smc false true → said smc.answer ≡ says → IsAt limits (after_call limits refused smc.answer says) (smcs ++ smc ∷ [])
call_on limits refused smcs smc Finished tried kind is =
    let more = adds smcs smc false true Finished kind.cancel kind.call is in
    record {
      finished = record { smc = smc; last = ends_so smcs smc; argument = kind.cancel; finished = ap says_finished is };
      bound = omega (arith, more.returns, tried.returns);
      few = omega (arith, more.refusals, tried.refusals, tried.few);
      plain = plain_so smcs smc more.strange;
    }
call_on limits refused smcs smc NoThread tried kind is =
    let more = adds smcs smc false true NoThread kind.cancel kind.call is in
    refused_on limits refused (smcs ++ smc ∷ []) (eqb (suc refused) limits.retries) refl tried.few (omega (arith, more.refusals, tried.refusals))
    (omega (arith, more.returns, tried.returns)) (plain_so smcs smc more.strange)
call_on limits refused smcs smc (Returned rpc) tried kind is =
    let more = adds smcs smc false true (Returned rpc) kind.cancel kind.call is in
    returned_on limits 0 rpc (smcs ++ smc ∷ []) (eqb 0 limits.rounds) refl (omega arith) (omega (arith, more.returns, tried.returns))
    (omega (arith, more.refusals, tried.refusals, tried.few)) (plain_so smcs smc more.strange)
call_on limits refused smcs smc Unknown tried kind is =
    let more = adds smcs smc false true Unknown kind.cancel kind.call is in
    record {
      cause = record { smc = smc; last = ends_so smcs smc; answered = refl; strange = more.strange };
      bound = omega (arith, more.returns, tried.returns);
      few = omega (arith, more.refusals, tried.refusals, tried.few);
    }

-- to a CANCEL, which is counted by nothing
under_way_on : (limits : Limits) (returns : ℕ) (smcs : List Smc) (smc : Smc) (says : Said) → IsUnderWay limits smcs returns
    → Adds smcs smc true true says → seems_strange says true ≡ false → IsUnderWay limits (smcs ++ smc ∷ []) returns
under_way_on limits returns smcs smc says under_way more plain =
    record {
      counted = omega (arith, more.returns, under_way.counted);
      bound = under_way.bound;
      few = omega (arith, more.refusals, under_way.few);
      plain = plain_so smcs smc (more.strange ∙ plain);
    }

cancel_on : (limits : Limits) (returns : ℕ) (rpc : RpcReturn) (smcs : List Smc) (smc : Smc) (says : Said) → IsUnderWay limits smcs returns
    → IsOfKind smc true true → said smc.answer ≡ says → IsAt limits (after_cancel returns rpc smc.answer says) (smcs ++ smc ∷ [])
cancel_on limits returns rpc smcs smc Finished under_way kind is =
    under_way_on limits returns smcs smc Finished under_way (adds smcs smc true true Finished kind.cancel kind.call is) refl
cancel_on limits returns rpc smcs smc NoThread under_way kind is =
    under_way_on limits returns smcs smc NoThread under_way (adds smcs smc true true NoThread kind.cancel kind.call is) refl
cancel_on limits returns rpc smcs smc (Returned other) under_way kind is =
    under_way_on limits returns smcs smc (Returned other) under_way (adds smcs smc true true (Returned other) kind.cancel kind.call is) refl
cancel_on limits returns rpc smcs smc Unknown under_way kind is =
    let more = adds smcs smc true true Unknown kind.cancel kind.call is in
    record {
      cause = record { smc = smc; last = ends_so smcs smc; answered = refl; strange = more.strange };
      bound = omega (arith, more.returns, under_way.counted, under_way.bound);
      few = omega (arith, more.refusals, under_way.few);
    }

-- to a RETURN_FROM_RPC
strange_on : (limits : Limits) (returns : ℕ) (smcs : List Smc) (smc : Smc) (says : Said) → IsUnderWay limits smcs returns
    → Adds smcs smc false false says → says_return says ≡ false → seems_strange says false ≡ true → HasEndedStrangely limits (smcs ++ smc ∷ []) smc.answer
strange_on limits returns smcs smc NoThread under_way more none odd =
    record {
      cause = record { smc = smc; last = ends_so smcs smc; answered = refl; strange = more.strange };
      bound = omega (arith, more.returns, under_way.counted, under_way.bound);
      few = omega (arith, more.refusals, under_way.few);
    }
strange_on limits returns smcs smc Unknown under_way more none odd =
    record {
      cause = record { smc = smc; last = ends_so smcs smc; answered = refl; strange = more.strange };
      bound = omega (arith, more.returns, under_way.counted, under_way.bound);
      few = omega (arith, more.refusals, under_way.few);
    }
strange_on limits returns smcs smc Finished under_way more none odd = absurd cc
strange_on limits returns smcs smc (Returned rpc) under_way more none odd = absurd cc

resume_on : (limits : Limits) (returns : ℕ) (smcs : List Smc) (smc : Smc) (says : Said) → IsUnderWay limits smcs returns
    → IsOfKind smc false false → said smc.answer ≡ says → IsAt limits (after_resume limits returns smc.answer says) (smcs ++ smc ∷ [])
resume_on limits returns smcs smc Finished under_way kind is =
    let more = adds smcs smc false false Finished kind.cancel kind.call is in
    record {
      finished = record { smc = smc; last = ends_so smcs smc; argument = kind.cancel; finished = ap says_finished is };
      bound = omega (arith, more.returns, under_way.counted, under_way.bound);
      few = omega (arith, more.refusals, under_way.few);
      plain = plain_so smcs smc more.strange;
    }
resume_on limits returns smcs smc NoThread under_way kind is =
    strange_on limits returns smcs smc NoThread under_way (adds smcs smc false false NoThread kind.cancel kind.call is) refl refl
resume_on limits returns smcs smc (Returned rpc) under_way kind is =
    let more = adds smcs smc false false (Returned rpc) kind.cancel kind.call is in
    returned_on limits returns rpc (smcs ++ smc ∷ []) (eqb returns limits.rounds) refl under_way.bound (omega (arith, more.returns, under_way.counted))
    (omega (arith, more.refusals, under_way.few)) (plain_so smcs smc more.strange)
resume_on limits returns smcs smc Unknown under_way kind is =
    strange_on limits returns smcs smc Unknown under_way (adds smcs smc false false Unknown kind.cancel kind.call is) refl refl

-- ---- a run

one_more : (limits : Limits) (stage : Stage) (smcs : List Smc) (smc : Smc) → regs_at stage ≡ Some smc.regs → IsAt limits stage smcs
    → IsAt limits (after_answer limits stage smc.answer) (smcs ++ smc ∷ [])
one_more limits (Calls refused) smcs smc next here =
    call_on limits refused smcs smc (said smc.answer) here (of_regs smc (call_with_arg argument_at) false true next refl refl) refl
one_more limits (Cancels returns rpc) smcs smc next here =
    cancel_on limits returns rpc smcs smc (said smc.answer) here (of_regs smc (call_with_arg cancel_at) true true next refl refl) refl
one_more limits (Resumes returns rpc) smcs smc next here =
    resume_on limits returns smcs smc (said smc.answer) here
    (of_regs smc (return_from_rpc rpc) false false next (cancels_none rpc.kind rpc.thread) (resumes_none rpc.kind rpc.thread)) refl
one_more limits Ended smcs smc next here = absurd cc
one_more limits (Failed fault) smcs smc next here = absurd cc

all_more : (limits : Limits) (call : Call) (stage : Stage) (old : Scene) (before smcs : List Smc) (last : Stage) (new : Scene)
    → Runs limits call stage old smcs last new → IsAt limits stage before → IsAt limits last (before ++ smcs)
all_more limits call stage old before [] last new (same, stays) here =
    subst (λ (smcs : List Smc). IsAt limits last smcs) (sym (append-nil before)) (subst (λ (stage : Stage). IsAt limits stage before) (sym same) here)
all_more limits call stage old before (smc ∷ smcs) last new (between, turn, runs) here =
    subst (λ (smcs : List Smc). IsAt limits last smcs) (append_assoc before (smc ∷ []) smcs)
    (all_more limits call (after_answer limits stage smc.answer) between (before ++ smc ∷ []) smcs last new runs (one_more limits stage before smc turn.regs here))

no_end : {A : Type 0} (xs : List A) (x : A) → [] ≡ xs ++ x ∷ [] → ⊥
no_end [] x same = cc
no_end (y ∷ xs) x same = cc

none_ends : (smc : Smc) → EndsIn [] smc → ⊥
none_ends smc ends = no_end ends.before smc ends.all

-- the counts of a whole call, by the stage that it has come to
pub counted : (limits : Limits) (call : Call) (old : Scene) (smcs : List Smc) (last : Stage) (new : Scene)
    → 1 ≤ limits.retries → Runs limits call (Calls 0) old smcs last new → IsAt limits last smcs
counted limits call old smcs last new one runs =
    all_more limits call (Calls 0) old [] smcs last new runs
    (record { refusals = refl; returns = refl; few = one; plain = λ smc ends. absurd (none_ends smc ends) })

-- the stage of a run is that of its answers
pub stage_of_run : (limits : Limits) (call : Call) (stage : Stage) (old : Scene) (smcs : List Smc) (last : Stage) (new : Scene)
    → Runs limits call stage old smcs last new → last ≡ stage_from limits stage (answers_of smcs)
stage_of_run limits call stage old [] last new (same, stays) = same
stage_of_run limits call stage old (smc ∷ smcs) last new (between, turn, runs) =
    stage_of_run limits call (after_answer limits stage smc.answer) between smcs last new runs

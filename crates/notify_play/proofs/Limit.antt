-- ETHREAD_LIMIT that is told is the kernel's.
use Rattle.std.proofs.Common.{◌≡◌, ℕ, suc, Bool, true, false, List, [], ◌∷◌, Option, Some, None, refl, ap, subst, sym, ◌∙◌}
use Rattle.std.specs.Prelude.{◌==◌, if◌then◌else◌, slice_index, slice_set}
use Rattle.std.proofs.lemmas.Bool.Decides.{Decides-eqb}
use Rattle.kernel_model.specs.Argument.{is_new, reg}
use Rattle.notif.specs.Desk.{DeskState, first_noted}
use Rattle.notif.specs.declared.noted.Noted.{Noted}
use Rattle.smc_abi.specs.Answer.{registers_of}
use Rattle.smc_abi.specs.Call.{call_of}
use Rattle.smc_abi.specs.declared.call.Call.{Call}
use Rattle.smc_abi.specs.declared.call.Call.TheVariants.{Fast, Resume, Unknown, WithArg, WithRegdArg, WithRpcArg}
use Rattle.notify_play.specs.Duty.{CameIn, Duty, Enables, Nothing, Offers, RunsBottomHalf, Stops, TellsValue, duty_of, duty_of_call}
use Rattle.notify_play.specs.Laws.{LimitIsTheKernels}
use Rattle.notify_play.specs.Told.{told_regs, value_answer, with_capability, with_highest_value}

-- ---- none is made

-- a register behind the first one changes
first_stays : (regs : List ℕ) (i x : ℕ) → reg (slice_set regs (suc i) x) 0 ≡ reg regs 0
first_stays [] i x = refl
first_stays (r ∷ regs) i x = refl

highest_first : (regs : List ℕ) → reg (with_highest_value regs) 0 ≡ reg regs 0
highest_first regs = by (slice_index regs 0 == 0)
  where
    by : (b : Bool) → reg (if b then slice_set regs 2 63 else regs) 0 ≡ reg regs 0
    by true = first_stays regs 1 63
    by false = refl

value_first : (noted : Option Noted) (caller : List ℕ) → reg (registers_of (value_answer noted) caller) 0 ≡ 0
value_first None caller = refl
value_first (Some noted) caller = refl

not_one : (n : ℕ) → n ≡ 0 → n ≡ 1 → ⊥
not_one n zero one = let no : 0 ≡ 1 = sym zero ∙ one in cc

made_by : (desk : DeskState) (caller answered : List ℕ) (duty : Duty) → reg (told_regs desk caller answered duty) 0 ≡ 1
    → reg answered 0 ≡ 1
made_by desk caller answered Nothing e = e
made_by desk caller answered TellsValue e = absurd (not_one _ (value_first (first_noted desk.pending) caller) e)
made_by desk caller answered Enables e = absurd (not_one 0 refl e)
made_by desk caller answered Offers e =
    sym (highest_first (with_capability answered) ∙ first_stays answered 0 _) ∙ e
made_by desk caller answered (RunsBottomHalf arg) e = absurd (not_one 0 refl e)
made_by desk caller answered (Stops arg) e = absurd (not_one 0 refl e)

-- ---- none is hidden

-- a function id that stands for a new call isn't that of another
not_new : (id other : ℕ) → is_new (call_of id) ≡ true → call_of other ≡ Unknown → (id == other) ≡ true → ⊥
not_new id other new unknown same =
    let both : is_new Unknown ≡ true =
    ap is_new (sym unknown) ∙ subst (λ (n : ℕ). is_new (call_of n) ≡ true) ((Decides-eqb id other).0 same) new in
    cc

new_duty : (came : CameIn) (call : Call) → is_new call ≡ true → duty_of_call call came.reads 1 ≡ Nothing
new_duty came (Fast fast) new = absurd cc
new_duty came WithArg new = refl
new_duty came WithRpcArg new = refl
new_duty came WithRegdArg new = refl
new_duty came Resume new = absurd cc
new_duty came Unknown new = absurd cc

asks_nothing : (came : CameIn) → is_new (call_of (reg came.regs 0)) ≡ true → duty_of came 1 ≡ Nothing
asks_nothing came new = by_first (reg came.regs 0 == 0xb2000010) refl
  where
    by_second : (test : Bool) → (reg came.regs 0 == 0xb2000011) ≡ test
        → (if test then TellsValue else duty_of_call (call_of (reg came.regs 0)) came.reads 1) ≡ Nothing
    by_second true is = absurd (not_new (reg came.regs 0) 0xb2000011 new refl is)
    by_second false is = new_duty came (call_of (reg came.regs 0)) new

    by_first : (test : Bool) → (reg came.regs 0 == 0xb2000010) ≡ test
        → (if test then Enables
        else (if reg came.regs 0 == 0xb2000011 then TellsValue
        else duty_of_call (call_of (reg came.regs 0)) came.reads 1)) ≡ Nothing
    by_first true is = absurd (not_new (reg came.regs 0) 0xb2000010 new refl is)
    by_first false is = by_second (reg came.regs 0 == 0xb2000011) refl

pub limit_is_the_kernels : LimitIsTheKernels
limit_is_the_kernels = record {
  made = λ desk came answered e. made_by desk came.regs answered (duty_of came (reg answered 0)) e;
  kept = λ desk came answered new limit.
      ap (λ (n : ℕ). told_regs desk came.regs answered (duty_of came n)) limit
      ∙ ap (told_regs desk came.regs answered) (asks_nothing came new);
}

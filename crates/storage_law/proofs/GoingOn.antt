-- What answers a program has had that has gone on, and has not failed.
use Rattle.std.proofs.Common.{◌≡◌, ℕ, ◌==◌, Bool, true, false, List, [], ◌∷◌, ◌++◌, Option, Some, None, refl, ap, sym, ◌∙◌, subst}
use Rattle.std.specs.Prelude.{◌||◌, if◌then◌else◌}
use Rattle.rpc_msgs.specs.Answer.{RpcAnswer, Replied, NoBuffer}
use Rattle.rpc_msgs.specs.declared.rpc.Rpc.{Rpc}
use Rattle.rpc_msgs.specs.declared.rpc.Rpc.TheVariants.{FsWrite}
use Rattle.rpc_msgs.specs.declared.rpc.RpcReply.{RpcReply}
use Rattle.tee_storage.specs.declared.step.StorageStep.{StorageStep}
use Rattle.tee_storage.specs.declared.step.StorageStep.TheVariants.{Ask, Done, Panic}
use Rattle.tee_storage.specs.ObjectCalls.{shown}
use Rattle.tee_storage.specs.Program.{Now, Program, Ends, after, after_one, fails}
use Rattle.tee_storage.specs.Replies.{asks, failure_of}

pub same_some : {A : Type 0} (one other : A) → Some one ≡ Some other → one ≡ other
same_some one other e = cc

-- ---- a program that is past its reads

abbrev pub is_write : Rpc → Bool
is_write (FsWrite fd offset count) = true
is_write _ = false

abbrev pub is_past_at : StorageStep → Bool
is_past_at (Ask rpc payload) = is_write rpc
is_past_at (Done result value) = result == 0
is_past_at (Panic code) = false

-- it asks for something to be written, or it has ended with SUCCESS
abbrev pub is_past : Program → Bool
is_past program = is_past_at (shown program).step

-- ---- an end

-- a program that has ended has had no more answers
pub record IsEnd (step : StorageStep) (now : Now) (answers : List RpcAnswer) (end : Program) : Type 0 where
  pub none : answers ≡ []
  pub is : end ≡ Ends step now

pub ended : (step : StorageStep) (now : Now) (answers : List RpcAnswer) (end : Program)
    → after (Some (Ends step now)) answers ≡ Some end → IsEnd step now answers end
ended step now [] end e = record { none = refl; is = sym (same_some (Ends step now) end e) }
ended step now (answer ∷ []) end e = absurd cc
ended step now (answer ∷ more ∷ answers) end e = absurd cc

-- one that has failed is not past its reads
pub failed : (result : ℕ) (now : Now) (answers : List RpcAnswer) (end : Program) → (result == 0) ≡ false
    → after (Some (fails result now)) answers ≡ Some end → is_past end ≡ true → ⊥
failed result now answers end counts e past =
    let stopped = ended (Done result 0) now answers end e in
    let well : (result == 0) ≡ true = subst (λ (p : Program). is_past p ≡ true) stopped.is past in
    absurd cc

failure_counts : (ret : ℕ) → (ret == 0) ≡ false → (failure_of ret == 0) ≡ false
failure_counts ret counts = by ((ret == 0xffff0008) || (ret == 0xffff0003)) counts
  where
    by : (test : Bool) → (ret == 0) ≡ false → ((if test then ret else 0xf0100003) == 0) ≡ false
    by true counts = counts
    by false counts = refl

-- ---- a request

-- it was answered by a reply, with which the program went on
pub record WentOn (onward : RpcReply → Program) (answer : RpcAnswer) (answers : List RpcAnswer) (end : Program) : Type 0 where
  pub reply : RpcReply
  pub is : answer ≡ Replied reply
  pub good : (reply.ret == 0) ≡ true
  pub rest : after (Some (onward reply)) answers ≡ Some end

module _ (rpc : Rpc) (payload : List ℕ) (now : Now) (onward : RpcReply → Program) where
  pub went_on : (answer : RpcAnswer) (answers : List RpcAnswer) (end : Program)
      → after (Some (asks rpc payload now onward)) (answer ∷ answers) ≡ Some end → is_past end ≡ true
      → WentOn onward answer answers end
  went_on NoBuffer answers end e past = absurd (failed 0xffff000c now answers end refl e past)
  went_on (Replied reply) answers end e past = by (reply.ret == 0) refl e
    where
      by : (test : Bool) → (reply.ret == 0) ≡ test
          → after (Some (if test then onward reply else fails (failure_of reply.ret) now)) answers ≡ Some end
          → WentOn onward (Replied reply) answers end
      by true good e = record { reply = reply; is = refl; good = good; rest = e }
      by false bad e =
          absurd (failed (failure_of reply.ret) now answers end (failure_counts reply.ret bad) e past)

  -- where it was not answered, the program asks
  pub asked : (end : Program) → after (Some (asks rpc payload now onward)) [] ≡ Some end → is_past end ≡ true → is_write rpc ≡ true
  asked end e past =
      let is = sym (same_some (asks rpc payload now onward) end e) in
      subst (λ (p : Program). is_past p ≡ true) is past

-- ---- answers one behind the other

after-none : (answers : List RpcAnswer) → after None answers ≡ None
after-none [] = refl
after-none (answer ∷ answers) = refl

pub after-append : (left : Option Program) (first second : List RpcAnswer) → after left (first ++ second) ≡ after (after left first) second
after-append left [] second = refl
after-append None (answer ∷ first) second = rw (after-none second) refl
after-append (Some program) (answer ∷ first) second = after-append (after_one program answer) first second

-- one more at the front, where the request was answered by a reply of no failure
pub goes_on : (rpc : Rpc) (payload : List ℕ) (now : Now) (onward : RpcReply → Program) (answers : List RpcAnswer) (end : Program)
    (reply : RpcReply) → (reply.ret == 0) ≡ true → after (Some (onward reply)) answers ≡ Some end
    → after (Some (asks rpc payload now onward)) (Replied reply ∷ answers) ≡ Some end
goes_on rpc payload now onward answers end reply good e =
    ap (λ (test : Bool). after (Some (if test then onward reply else fails (failure_of reply.ret) now)) answers) good ∙ e

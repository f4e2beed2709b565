-- What is prepared before an SMC is what a client prepares there over any port.
use Rattle.std.proofs.Common.{◌≡◌, ℕ, zero, suc, Bool, true, false, cond, Option, Some, None, refl, sym, ap, subst, ◌∙◌, eqb-true, true≢false}
use Rattle.std.specs.Prelude.{◌↔◌, ◌==◌, IfSome}
use Rattle.std.proofs.lemmas.Bool.{eq-eqb}
use Rattle.teec.specs.Rounds.{Calls, Cancels, Ended, Failed, Resumes}
use Rattle.teec.specs.Runs.{AnswersCmd, AnswersMessage, AnswersRpc, Scene, message_of}
use Rattle.teec.specs.Places.{message_cookie}
use Rattle.teec.specs.declared.answer.RpcKind.{RpcKind}
use Rattle.teec.specs.declared.answer.RpcKind.TheVariants.{Alloc, Free, Interrupt, Cmd}
use Rattle.client_play.specs.Laws.{PreparesAlike, scene_after}
use Rattle.client_play.specs.Making.{answer_rpc}
use Rattle.client_play.specs.Message.{Request, answer_message, nothing_done, reply_to, request_in}
use Rattle.client_play.proofs.Messages.{IsHeld, found_is_held, held_is_found}

-- ---- a message

missing : {A : Type 0} (found : Option Request) (request : Request) → found ≡ None → found ≡ Some request → A
missing found request none some = let both : None ≡ Some request = sym none ∙ some in absurd cc

answered : (old new : Scene) (found : Option Request) → request_in (message_of old) ≡ found → AnswersMessage old new
    → new ≡ scene_after old (reply_to old.storage found)
answered old new None is said = said.none (λ rpc payload holds.
    missing (request_in (message_of old)) (rpc, payload) is (held_is_found (message_of old) rpc payload holds))
answered old new (Some (rpc, payload)) is said =
    said.request rpc payload
    (subst (λ (found : Option Request). IfSome found (IsHeld (message_of old))) is (found_is_held (message_of old)))

answers : (old new : Scene) (found : Option Request) → request_in (message_of old) ≡ found
    → new ≡ scene_after old (reply_to old.storage found) → AnswersMessage old new
answers old new None is e = record {
  request = λ rpc payload holds.
      missing (request_in (message_of old)) (rpc, payload) is (held_is_found (message_of old) rpc payload holds);
  none = λ no. e;
}
answers old new (Some (rpc, payload)) is e = record {
  request = λ other bytes holds.
      e ∙ ap (λ (found : Option Request). scene_after old (reply_to old.storage found))
      (sym is ∙ held_is_found (message_of old) other bytes holds);
  none = λ no. absurd (no rpc payload
      (subst (λ (found : Option Request). IfSome found (IsHeld (message_of old))) is (found_is_held (message_of old))));
}

-- ---- an RPC return

differs : (cookie : ℕ) → (cookie == message_cookie) ≡ false → cookie ≡ message_cookie → ⊥
differs cookie is same = true≢false (sym (eq-eqb cookie message_cookie same) ∙ is)

answers_cmd : (cookie : ℕ) (old new : Scene) (own : Bool) → (cookie == message_cookie) ≡ own
    → AnswersCmd cookie old new ↔ (new ≡ scene_after old (cond own (answer_message old.ram old.storage) (nothing_done old.storage)))
answers_cmd cookie old new true is = (
  (λ cmd. answered old new (request_in (message_of old)) refl (cmd.own (eqb-true cookie message_cookie is))),
  (λ e. record {
    own = λ same. answers old new (request_in (message_of old)) refl e;
    other = λ apart. absurd (apart (eqb-true cookie message_cookie is));
  }),
)
answers_cmd cookie old new false is = (
  (λ cmd. cmd.other (differs cookie is)),
  (λ e. record { own = λ same. absurd (differs cookie is same); other = λ apart. e }),
)

answers_rpc : (kind : RpcKind) (old new : Scene)
    → AnswersRpc kind old new ↔ (new ≡ scene_after old (answer_rpc kind old.ram old.storage))
answers_rpc Alloc old new = ((λ e. e), (λ e. e))
answers_rpc Free old new = ((λ e. e), (λ e. e))
answers_rpc Interrupt old new = ((λ e. e), (λ e. e))
answers_rpc (Cmd cookie) old new = answers_cmd cookie old new (cookie == message_cookie) refl

pub prepares_alike : PreparesAlike
prepares_alike call (Calls zero) old new = ((λ e. e), (λ e. e))
prepares_alike call (Calls (suc refused)) old new = ((λ e. e), (λ e. e))
prepares_alike call (Cancels returns rpc) old new = ((λ e. e), (λ e. e))
prepares_alike call (Resumes returns rpc) old new = answers_rpc rpc.kind old new
prepares_alike call Ended old new = ((λ e. e), (λ e. e))
prepares_alike call (Failed fault) old new = ((λ e. e), (λ e. e))

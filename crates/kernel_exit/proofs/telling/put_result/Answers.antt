-- One after the other, each over those before it.
use Rattle.std.proofs.Common.{◌≡◌, ℕ, List, [], ◌∷◌, ◌++◌, ap, sym, ◌∙◌}
use Rattle.job_model.specs.declared.call_kind.CallKind.{CallKind as AnyKind}
use Rattle.kernel_model.specs.Exit.{output_writes, session_writes, word32}
use Rattle.msg_args.specs.Layout.{origin_at, ret_at}
use Rattle.ns_ram.specs.Writes.{Write, lane_after}
use Rattle.ns_ram.proofs.WriteList.{lane_after-append}
use Rattle.rpc_cont.specs.Conts.{kept_params}
use Rattle.kernel_exit.proofs.telling.put_result.Goals as goal

written : (lane one two three four : List ℕ) (outputs session : List Write) (ret origin : Write) → one ≡ lane_after lane outputs →
    two ≡ lane_after one session → three ≡ lane_after two (ret ∷ []) → four ≡ lane_after three (origin ∷ []) →
    four ≡ lane_after lane (outputs ++ session ++ ret ∷ origin ∷ [])
written lane one two three four outputs session ret origin first second third fourth =
    fourth ∙ ap (λ (l : List ℕ). lane_after l (origin ∷ [])) third
    ∙ ap (λ (l : List ℕ). lane_after l (ret ∷ origin ∷ [])) (second ∙ ap (λ (l : List ℕ). lane_after l session) first)
    ∙ ap (λ (l : List ℕ). lane_after l (ret ∷ origin ∷ [])) (sym (lane_after-append lane outputs session))
    ∙ sym (lane_after-append lane (outputs ++ session) (ret ∷ origin ∷ []))

pub returns : goal.returns
returns c = λ call is.
    let result = c.args.cont.now.result in
    written c.args.lane.now c.put_outputs.new.lane c.put_session.new.lane c.put_word.new.lane c.put_word-2.new.lane
    (output_writes call result (kept_params c.args.cont.now.params)) (session_writes call call.kind result)
    (word32 (ret_at call.arg) result.result) (word32 (origin_at call.arg) result.origin)
    (c.put_outputs.ensures call is.arg is.places)
    (c.put_session.ensures call is.arg is.session ∙ ap (λ (k : AnyKind). lane_after c.put_outputs.new.lane (session_writes call k result)) is.kind)
    (c.put_word.ensures ∙ ap (λ (a : ℕ). lane_after c.put_session.new.lane (word32 a result.result ∷ [])) (c.ret_at.ensures ∙ ap ret_at is.arg))
    (c.put_word-2.ensures ∙ ap (λ (a : ℕ). lane_after c.put_word.new.lane (word32 a result.origin ∷ [])) (c.origin_at.ensures ∙ ap origin_at is.arg))

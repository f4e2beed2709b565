use Rattle.std.proofs.Common.{◌≡◌, ℕ, List, Option, Some, refl, sym, ap, subst, ◌∙◌}
use Rattle.own_model.specs.Solo.{comes_back_in}
use Rattle.own_model.specs.declared.own_event.BackInput.{BackInput}
use Rattle.own_model.specs.declared.own_event.BackInput.TheVariants as back
use Rattle.rpc_msgs.specs.Answer.{NoBuffer, Replied}
use Rattle.rpc_cont.specs.Running.{worked}
use Rattle.rpc_cont.specs.declared.cont.Cont.{Cont}
use Rattle.rpc_msgs.specs.declared.rpc_buffer.RpcBuffer.{RpcBuffer}
use Rattle.solo.proofs.Back.{answered}
use Rattle.solo.proofs.coming_back.take_answer.Goals as goal

pub returns-in-NoBuffer : goal.returns-in-NoBuffer
returns-in-NoBuffer c app solo next number call is e =
    answered app solo next number back.NoBuffer NoBuffer c.args.cont.now c.resume_with.new.self call c.requires.phase
    (record { asks = λ before job. refl; wakes = λ wakes. refl })
    (record {
      asks = λ job at waits. c.resume_with.ensures.asks NoBuffer job at refl waits;
      ends = λ at. c.resume_with.ensures.ends at refl;
      buffer = c.resume_with.ensures.keeps refl;
      stays = c.resume_with.ensures.stays;
    })
    is (subst (λ (input : BackInput). comes_back_in app solo number call input call.phase ≡ Some next) c.in-NoBuffer.is e)

pub returns-in-Reply : goal.returns-in-Reply
returns-in-Reply c app solo next number call is e =
    let told = c.in-Reply.reply in
    let old = c.args.cont.now in
    let new = c.resume_with_reply.new.self in
    let stays : new ≡ record (worked old new) { phase = new.phase } = c.resume_with_reply.ensures.stays in
    let buffer : new.buffer ≡ old.buffer = ap (λ (k : Cont (List ℕ)). k.buffer) stays in
    answered app solo next number (back.Reply told) (Replied told) old new call c.requires.phase
    (record { asks = λ before job. refl; wakes = λ wakes. refl })
    (record {
      asks = rw c.get.ensures at c.resume_with_reply.ensures.asks;
      ends = c.resume_with_reply.ensures.ends;
      buffer = buffer;
      stays = stays ∙ ap (λ (place : Option RpcBuffer). record (worked old new) { buffer = place; phase = new.phase }) (sym buffer);
    })
    is (subst (λ (input : BackInput). comes_back_in app solo number call input call.phase ≡ Some next) c.in-Reply.is e)

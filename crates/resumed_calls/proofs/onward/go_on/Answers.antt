use Rattle.std.proofs.Common.{inl, inr, refl, subst, sym}
use Rattle.std.specs.Prelude.{IsSome}
use Rattle.rpc_cont.specs.Resuming.{answer_in}
use Rattle.rpc_cont.specs.declared.input.ResumeInput.{ResumeInput}
use Rattle.resumed_calls.proofs.Goes.{answered_onward}
use Rattle.resumed_calls.proofs.onward.go_on.Goals as goal

pub returns-in-NoBuffer : goal.returns-in-NoBuffer
returns-in-NoBuffer c r given is =
    let P : ResumeInput → Type 0 = λ input. IsSome (answer_in input) in
    let some : P c.args.given = elim c.in-NoBuffer.is [ inl without ↦ subst P (sym without) refl | inr reply ↦ subst P (sym reply.1) refl ] in
    answered_onward c.args.cont.now c.resume_with.new.self c.args.given r c.requires.phase some c.resume_with.ensures.stays c.resume_with.ensures.keeps
    c.resume_with.ensures.runs c.resume_with.ensures.asks c.resume_with.ensures.ends given is

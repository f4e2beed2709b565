use Rattle.std.proofs.Common.{sym, ◌∙◌, arith}
use Rattle.supplicant.proofs.Finding.{its_bytes, missed}
use Rattle.supplicant.proofs.request.request_in.Goals as goal

pub returns-in_err-request-clause-only : goal.returns-in_err-request-clause-only
returns-in_err-request-clause-only c = λ rpc payload holds.
    let found = c.candidate.ensures.only c.args.buffer c.args.cookie rpc payload (omega arith) (omega arith) holds in
    missed c.candidate.result _ c.in_err-request.was found

pub returns-then-is_held-clause-found : goal.returns-then-is_held-clause-found
returns-then-is_held-clause-found c =
    let of = c.in_ok-request.ensures.value in
    record { value = of.0; request = of.1; payload_of = of.2; bytes = c.is_held.ensures.0 c.if-is_held.true }

pub returns-then-is_held-clause-only : goal.returns-then-is_held-clause-only
returns-then-is_held-clause-only c = λ rpc payload holds.
    let found = c.candidate.ensures.only c.args.buffer c.args.cookie rpc payload (omega arith) (omega arith) holds in
    sym c.in_ok-request.was ∙ found

pub returns-else-is_held-clause-only : goal.returns-else-is_held-clause-only
returns-else-is_held-clause-only c = λ rpc payload holds.
    let found = c.candidate.ensures.only c.args.buffer c.args.cookie rpc payload (omega arith) (omega arith) holds in
    let held = c.is_held.ensures.1
    (its_bytes c.args.message.now c.args.buffer c.args.cookie c.candidate.result c.in_ok-request.request rpc payload c.in_ok-request.was found holds) in
    absurd cc

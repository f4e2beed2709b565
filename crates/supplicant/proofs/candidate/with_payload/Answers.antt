use Rattle.std.proofs.Common.{refl, ap}
use Rattle.supplicant.proofs.Finding.{missed, request_of, the_same}
use Rattle.supplicant.proofs.candidate.with_payload.Goals as goal

pub returns-in_err-payload-clause-only : goal.returns-in_err-payload-clause-only
returns-in_err-payload-clause-only c = λ payload request is there.
    missed c.payload_of.result payload c.in_err-payload.was (c.payload_of.ensures.only payload request is there)

pub returns-clause-value : goal.returns-clause-value
returns-clause-value c = (refl, c.in_ok-payload.ensures.value.0, c.in_ok-payload.ensures.value.1)

pub returns-clause-only : goal.returns-clause-only
returns-clause-only c = λ payload request is there.
    ap (request_of c.args.rpc)
    (the_same c.payload_of.result c.in_ok-payload.payload payload c.in_ok-payload.was (c.payload_of.ensures.only payload request is there))

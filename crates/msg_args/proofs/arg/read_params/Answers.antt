use Rattle.std.proofs.Common.{◌≡◌, ℕ, ◌*◌, ◌/◌, length, take, ap, ◌∙◌, arith}
use Rattle.std.proofs.lemmas.List.{length-take}
use Rattle.std.specs.Simd.{first_chunks}
use Rattle.msg_args.specs.Reading.{params_of}
use Rattle.msg_args.proofs.Pieces.{first_chunks-take}
use Rattle.msg_args.proofs.arg.read_params.Goals as goal

pub returns : goal.returns
returns c =
    let front = take (32 * c.args.count) c.args.bytes.now in
    let many : length front / 32 ≡ c.args.count = omega (arith, length-take (32 * c.args.count) c.args.bytes.now) in
    let spelled = c.as_chunks.ensures.front ∙ ap (λ (n : ℕ). first_chunks 32 n front) many ∙ first_chunks-take c.args.count c.args.bytes.now in
    c.read_pieces.ensures ∙ ap params_of spelled

use Rattle.std.proofs.Common.{rules, arith, ◌≡◌, ◌∙◌, refl, sym, ap, length, false, nat_lt}
use Rattle.std.proofs.lemmas.List.{length-take-le}
use Rattle.sha2.proofs.Facts256.{length-sha256}
use Rattle.native_tas.proofs.digesting.write_digest.Goals as goal

pub copy_from_slice-requires : goal.copy_from_slice-requires
copy_from_slice-requires c =
    length-take-le 32 c.args.output.now (omega arith) ∙ sym (ap length c.digest-digest.ensures ∙ length-sha256 c.args.message.now)

pub returns : goal.returns
returns c =
    let fits : nat_lt (length c.args.output.now) 32 ≡ false = search rules in
    rw (c.copy_from_slice.ensures.after, c.digest-digest.ensures, fits) refl

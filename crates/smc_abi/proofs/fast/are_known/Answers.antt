-- The one named bit is bit 0, so the known bits are the number's remainder by 2.
use Rattle.std.proofs.Common.{◌≡◌, ◌↔◌, ℕ, ◌<◌, bit_and, ◌∙◌, sym, arith, subst}
use Rattle.std.proofs.lemmas.Nat.{and_mask}
use Rattle.std.proofs.Math.Nat.{mod-eq_of_lt, mod-lt}
use Rattle.bitflags.proofs.OnLiterals.{bitflags_on_literals}
use Rattle.smc_abi.proofs.fast.are_known.Goals as goal

-- a number is its own bit 0 exactly where it is below 2
bit_0_of : (n : ℕ) → (bit_and n 1 ≡ n) ↔ (n < 2)
bit_0_of n = (
  λ same. subst (λ m. m < 2) (sym (and_mask n 1) ∙ same) (mod-lt n (omega arith)),
  λ below. and_mask n 1 ∙ mod-eq_of_lt below,
)

pub returns : goal.returns
unfolding bitflags_on_literals
returns c =
    let known = c.from_bits.ensures.known tt in
    let bit_0 = bit_0_of c.args.normal in
    let some = c.is_some.ensures in
    (λ yes. bit_0.0 (known.0 (sym some ∙ yes)), λ below. some ∙ known.1 (bit_0.1 below))

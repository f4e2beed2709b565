-- Reads each of which begins where or behind where the one before it ends agree, since they share no address.
use Rattle.std.proofs.Common.{zero, suc, ◌+◌, ◌<◌, ◌≤◌, [], ◌∷◌, length, AllPairs, arith}
use Rattle.std.proofs.lemmas.Option.{slice_get_within}
use Rattle.ns_ram.specs.declared.read.Read.{Read}
use Rattle.kernel_state.specs.Reads.{Agree}

-- the first read ends where the other begins, or before
abbrev pub EndsBefore : Read → Read → Type 0
EndsBefore one other = one.addr + length one.bytes ≤ other.addr

pub apart_agree : (one other : Read) → EndsBefore one other → Agree one other
apart_agree one other ends i j byte that same is is_too =
    let inside : i < length one.bytes = slice_get_within one.bytes i byte is in
    absurd (omega (arith, inside, same, ends))

pub none_agrees : AllPairs Agree []
none_agrees i j d before inside = absurd (omega (arith, inside))

pub two_agree : (one other : Read) → EndsBefore one other → AllPairs Agree (one ∷ other ∷ [])
two_agree one other ends i zero d before inside = absurd (omega (arith, before))
two_agree one other ends zero (suc zero) d before inside = apart_agree one other ends
two_agree one other ends (suc i) (suc zero) d before inside = absurd (omega (arith, before))
two_agree one other ends i (suc (suc j)) d before inside = absurd (omega (arith, inside))

use Rattle.std.proofs.Common.{◌≡◌, List, ℕ, Bor, map, take, string_bytes}
use Rattle.core_c.proofs.words.owned.Given as goal

abbrev pub invariant-loop-part : goal.invariant-loop-part
invariant-loop-part l = map string_bytes l.words.items ≡ map (λ (part : Bor (List ℕ)). part.now) (take l.part-index l.parts)

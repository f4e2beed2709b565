use Rattle.std.proofs.Common.{◌≡◌, ℕ, ◌<◌, ◌||◌, eqb, false, length, get_or, take}
use Rattle.std.specs.List.{list_any}
use Rattle.ta_asm.proofs.disassembler.mark_entries.Given as goal

abbrev pub invariant-loop-entry : goal.invariant-loop-entry
invariant-loop-entry l = (k : ℕ) → k < length l.marks → get_or l.marks k false ≡ (get_or l.initial.marks k false || list_any (λ x. eqb x k) (take l.entry-index l.entries))

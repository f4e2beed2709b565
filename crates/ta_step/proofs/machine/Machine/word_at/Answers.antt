use Rattle.std.proofs.Common.{ℕ, ◌/◌, ◌%◌, ◌<◌, [], ap, sym, ◌∙◌, arith}
use Rattle.std.specs.Prelude.{slice_index_or}
use Rattle.ta_step.specs.Bytes.{word_at}
use Rattle.ta_step.specs.Addresses.{ranges}
use Rattle.ta_step.specs.Machine.{state_of}
use Rattle.ta_step.proofs.RangeLemmas.{from_one}
use Rattle.ta_step.proofs.machine.Machine.word_at.Goals as goal

pub returns-in_default : goal.returns-in_default
returns-in_default g c =
    let old = state_of g.M.TaMemory.bytes c.args.self.now in
    let behind : 0 < c.args.addr / 0x10000000 = omega arith in
    c.load_word-in_default.ensures
    ∙ ap (λ (k : ℕ). word_at (slice_index_or (ranges old) k []) (c.args.addr % 0x10000000)) (sym (from_one (c.args.addr / 0x10000000) behind))

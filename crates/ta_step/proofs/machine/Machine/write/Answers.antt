use Rattle.std.proofs.Common.{ℕ, ◌/◌, ◌%◌, ◌<◌, [], length, ap, sym, ◌∙◌, arith}
use Rattle.std.specs.Prelude.{slice_index_or}
use Rattle.ta_params.specs.declared.copied_params.CopiedParams.{CopiedParams}
use Rattle.base.specs.Bytes.{has_bytes, written}
use Rattle.ta_step.specs.Addresses.{ranges, with_range}
use Rattle.ta_step.specs.Machine.{state_of}
use Rattle.ta_step.proofs.RangeLemmas.{from_one}
use Rattle.ta_step.proofs.machine.Machine.write.Goals as goal

pub returns-in_default-clause-inside : goal.returns-in_default-clause-inside
returns-in_default-clause-inside g c =
    let old = state_of g.M.TaMemory.bytes c.args.self.now in
    let behind : 0 < c.args.addr / 0x10000000 = omega arith in
    c.write.ensures.inside
    ∙ ap (λ (k : ℕ). has_bytes (slice_index_or (ranges old) k []) (c.args.addr % 0x10000000) (length c.args.bytes.now)) (sym (from_one (c.args.addr / 0x10000000) behind))

pub returns-in_default-clause-state : goal.returns-in_default-clause-state
returns-in_default-clause-state g c =
    let old = state_of g.M.TaMemory.bytes c.args.self.now in
    let behind : 0 < c.args.addr / 0x10000000 = omega arith in
    ap (λ (ps : CopiedParams). record old { params = ps }) c.write.ensures.params
    ∙ ap (λ (k : ℕ). with_range old k (written (slice_index_or (ranges old) k []) (c.args.addr % 0x10000000) c.args.bytes.now)) (sym (from_one (c.args.addr / 0x10000000) behind))

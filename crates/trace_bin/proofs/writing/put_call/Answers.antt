use Rattle.std.proofs.Common.{[], ◌∷◌, refl}
use Rattle.byteorder.specs.Endian.{little_bytes}
use Rattle.trace_bin.specs.Spelling.{register_bytes}
use Rattle.trace_bin.proofs.Puts.{put_behind, put_more}
use Rattle.trace_bin.proofs.writing.put_call.Goals as goal

pub loop-reg-preserved : goal.loop-reg-preserved
loop-reg-preserved c =
    put_more register_bytes c.args.regs.now c.loop-reg.reg-index _ _ _ _ _ c.loop-reg-test.true refl c.loop-reg.invariant c.in_ok-put_register.ensures

pub returns : goal.returns
returns c =
    put_behind register_bytes c.args.regs.now c.loop-reg.reg-index c.args.out.now.items _ _ _ (c.args.tag ∷ c.args.cpu ∷ []) (little_bytes 4 c.args.steps) c.loop-reg-test.false
    c.in_ok-extend_from_slice.ensures.items c.in_ok-put_word.ensures c.loop-reg.invariant

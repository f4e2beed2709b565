-- Two writes one behind the other, both in the RAM of an argument's head.
use Rattle.std.proofs.Common.{ℕ, ◌<◌, length, ap, subst, sym, ◌∙◌, arith}
use Rattle.notify_player.proofs.Wrote.{wrote-both, wrote-none}
use Rattle.notify_player.proofs.writing.write_result.Goals as goal

pub returns-in_default-clause-writes : goal.returns-in_default-clause-writes
returns-in_default-clause-writes c = λ boot at stands. rw c.in_default.is (wrote-none boot at c.args.cpu c.args.player.now stands)

pub write-requires-clause-ram : goal.write-requires-clause-ram
write-requires-clause-ram c =
    let inside = c.requires.ram _ c.in-Some.is in
    let low = inside.0 in
    let high = inside.1 in
    (omega (arith, low, c.ret_at.ensures), omega (arith, high, c.ret_at.ensures))

-- the machine has the same boot
pub write-requires-2-clause-cpu : goal.write-requires-2-clause-cpu
write-requires-2-clause-cpu c = subst (λ on. c.args.cpu < on.cpus) (sym c.write.ensures.boot) c.requires.lane

pub write-requires-2-clause-ram : goal.write-requires-2-clause-ram
write-requires-2-clause-ram c =
    let inside = c.requires.ram _ c.in-Some.is in
    let low = inside.0 in
    let high = inside.1 in
    (omega (arith, low, c.origin_at.ensures), omega (arith, high, c.origin_at.ensures))

pub returns-clause-writes : goal.returns-clause-writes
returns-clause-writes c = λ boot at stands.
    let there : c.args.cpu < length at.play.lanes =
    subst (λ (n : ℕ). c.args.cpu < n) (ap (λ on. on.cpus) stands.machine.booted ∙ sym (c.machines_stand.ensures.lanes boot at.play
    c.args.player.now.machine stands.machine)) c.requires.lane in
    rw c.in-Some.is (wrote-both boot at c.args.cpu c.in-Some.field-0.arg c.in-Some.field-0.ret _ _ _ _ c.write-2.new.self c.ret_at.ensures
    c.to_le_bytes.ensures c.origin_at.ensures c.to_le_bytes-2.ensures there
    (c.write-2.ensures.writes boot _ (c.write.ensures.writes boot at stands)))

pub returns-clause-boot : goal.returns-clause-boot
returns-clause-boot c = c.write-2.ensures.boot ∙ c.write.ensures.boot

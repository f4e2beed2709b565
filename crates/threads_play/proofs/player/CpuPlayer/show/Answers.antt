-- The line of the bytes is printed.
use Rattle.std.proofs.Common.{◌≡◌, ℕ, ◌++◌, refl, ap, subst, ◌∙◌}
use Rattle.ns_ram.specs.Lane.{bytes_at}
use Rattle.play_model.specs.Line.{mem_line}
use Rattle.threads_play.proofs.Moves.{shown}
use Rattle.threads_play.proofs.CpuEnds.{if_ok}
use Rattle.threads_play.proofs.player.CpuPlayer.show.Goals as goal

pub returns-clause-shows : goal.returns-clause-shows
returns-clause-shows c boot items lane acts was =
    let old = c.args.self.now in
    if_ok c.push_mem.result _ _
    (λ printed. shown boot items lane acts old _ c.args.addr c.args.len c.at-bytes.result.now refl
    (subst (λ (n : ℕ). c.push_mem.new.text.items ≡ old.block.items ++ mem_line n c.args.addr c.at-bytes.result.now) c.cpu-cpu.ensures printed)
    (c.at-bytes.ensures.bytes ∙ ap (bytes_at old.lane c.args.addr) c.from.ensures) was)
    c.push_mem.ensures.told

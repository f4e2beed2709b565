-- A player that begins with this pass, and what it has come to in the end.
use Rattle.std.proofs.Common.{ℕ, false, ap, sym, subst, ◌∙◌}
use mathlib.Core.List.{IsPrefix}
use Rattle.core_lock.specs.Passes.{made, number, seen}
use Rattle.normal_cpus.specs.Sharing.{CpuPass, boot_of}
use Rattle.ordered_play.specs.Act.{acts_for}
use Rattle.ordered_play.specs.Merge.{role_of, share_of}
use Rattle.threads_play.specs.Ending.{EndsAs, end_of}
use Rattle.threads_play.specs.declared.ending.CpuEnd.{CpuEnd}
use Rattle.threads_play.specs.InTurn.{AreInTurn}
use Rattle.threads_play.proofs.CpuEnds.{on_first, outside_without_work}
use Rattle.threads_play.proofs.cpu_playing.play_cpu.Goals as goal

pub play-outcome-requires-clause-on : goal.play-outcome-requires-clause-on
play-outcome-requires-clause-on g c =
    on_first c.args.shared.now c.args.pass c.new-player.result c.new-player.ensures.pass c.new-player.ensures.starts.no_work
    c.requires.unused c.requires.own c.args.shared.now.few

pub play-outcome-requires-clause-starts : goal.play-outcome-requires-clause-starts
play-outcome-requires-clause-starts g c = (c.args.lane, c.new-player.ensures.starts)

pub play-outcome-requires-clause-unused : goal.play-outcome-requires-clause-unused
play-outcome-requires-clause-unused g c = ap made c.new-player.ensures.pass ∙ c.requires.unused

pub play-outcome-requires-clause-turn : goal.play-outcome-requires-clause-turn
play-outcome-requires-clause-turn g c =
    subst (λ (p : CpuPass). AreInTurn false (acts_for (number p) c.args.items.now)) (sym c.new-player.ensures.pass) c.requires.turn

pub returns-clause-own : goal.returns-clause-own
returns-clause-own g c = rw c.into_end.ensures c.play-outcome.ensures.on.on.own

pub returns-clause-same : goal.returns-clause-same
returns-clause-same g c = rw c.into_end.ensures (c.play-outcome.ensures.on.same ∙ ap number c.new-player.ensures.pass)

pub returns-clause-outside : goal.returns-clause-outside
returns-clause-outside g c =
    rw c.into_end.ensures (outside_without_work (boot_of c.args.shared.now) c.play-outcome.new.self.pass c.play-outcome.new.self.work
    c.play-outcome.ensures.outside c.play-outcome.ensures.on.on.ready)

pub returns-clause-begins : goal.returns-clause-begins
returns-clause-begins g c =
    rw c.into_end.ensures (subst (λ (p : CpuPass). IsPrefix (seen p) (seen c.play-outcome.new.self.pass)) c.new-player.ensures.pass
    c.play-outcome.ensures.on.begins)

pub returns-clause-ends : goal.returns-clause-ends
returns-clause-ends g c =
    let boot = boot_of c.args.shared.now in
    let new = c.play-outcome.new.self in
    subst (λ (end : CpuEnd). EndsAs (role_of (share_of boot (seen end.pass) (number c.args.pass)) c.args.items.now c.args.lane) end end.outcome)
    (sym c.into_end.ensures) (subst (λ (n : ℕ). EndsAs (role_of (share_of boot (seen new.pass) n) c.args.items.now c.args.lane)
    (end_of new c.play-outcome.result) c.play-outcome.result)
    (c.play-outcome.ensures.on.same ∙ ap number c.new-player.ensures.pass)
    (c.play-outcome.ensures.ends c.args.lane c.new-player.ensures.starts))

-- Each kind of item, by its acts.
use Rattle.std.proofs.Common.{ℕ, ◌∷◌, List, Option, ap, sym, subst}
use Rattle.kernel_state.specs.declared.work.Work.{Work}
use Rattle.std.specs.Option.{is_some}
use Rattle.normal_cpus.specs.Sharing.{boot_of}
use Rattle.ordered_play.specs.Act.{Writes}
use Rattle.threads_play.specs.InTurn.{AreInTurn}
use Rattle.threads_play.specs.Standing.{HasComeTo}
use Rattle.threads_play.specs.declared.player.CpuPlayer.{CpuPlayer}
use Rattle.threads_play.proofs.Moves.{wrote}
use Rattle.threads_play.proofs.Passes.{on_same}
use Rattle.threads_play.proofs.Taking.{turn_inside, turn_outside}
use Rattle.threads_play.proofs.player.CpuPlayer.play_item.Goals as goal

-- ---- a call

pub call-requires-clause-outside : goal.call-requires-clause-outside
call-requires-clause-outside g c = (rw c.in-Smc.is at c.requires.turn.1).0

pub call-requires-clause-steps : goal.call-requires-clause-steps
call-requires-clause-steps g c =
    let entry = (rw c.in-Smc.is at c.requires.turn.1).1 in (entry.some_steps, entry.few_steps)

pub call-requires-clause-sound : goal.call-requires-clause-sound
call-requires-clause-sound g c = let entry = (rw c.in-Smc.is at c.requires.turn.1).1 in entry.registers

pub returns-in-Smc-clause-turn : goal.returns-in-Smc-clause-turn
returns-in-Smc-clause-turn g c acts turn =
    turn_outside acts c.call.new.self c.call.result c.call.ensures.outside (rw c.in-Smc.is at turn).2.1

pub returns-in-Smc-clause-plays : goal.returns-in-Smc-clause-plays
returns-in-Smc-clause-plays g c items lane acts was =
    c.call.ensures.calls items lane acts (rw c.in-Smc.is at was)

-- ---- an entry

pub enter-requires-clause-outside : goal.enter-requires-clause-outside
enter-requires-clause-outside g c = (rw c.in-Enter.is at c.requires.turn.1).0

pub enter-requires-clause-steps : goal.enter-requires-clause-steps
enter-requires-clause-steps g c =
    let entry = (rw c.in-Enter.is at c.requires.turn.1).1 in (entry.some_steps, entry.few_steps)

pub enter-requires-clause-sound : goal.enter-requires-clause-sound
enter-requires-clause-sound g c = let entry = (rw c.in-Enter.is at c.requires.turn.1).1 in entry.registers

pub returns-in-Enter-clause-turn : goal.returns-in-Enter-clause-turn
returns-in-Enter-clause-turn g c acts turn =
    turn_inside acts c.enter.new.self c.enter.result c.enter.ensures.inside (rw c.in-Enter.is at turn).2

pub returns-in-Enter-clause-plays : goal.returns-in-Enter-clause-plays
returns-in-Enter-clause-plays g c items lane acts was =
    c.enter.ensures.comes items lane acts (rw c.in-Enter.is at was)

-- ---- an exit

pub leave-requires-clause-inside : goal.leave-requires-clause-inside
leave-requires-clause-inside g c = (rw c.in-Leave.is at c.requires.turn.1).0

pub returns-in-Leave-clause-turn : goal.returns-in-Leave-clause-turn
returns-in-Leave-clause-turn g c acts turn =
    turn_outside acts c.leave.new.self c.leave.result c.leave.ensures.outside (rw c.in-Leave.is at turn).1

pub returns-in-Leave-clause-plays : goal.returns-in-Leave-clause-plays
returns-in-Leave-clause-plays g c items lane acts was =
    c.leave.ensures.leaves items lane acts (rw c.in-Leave.is at was)

-- ---- bytes that are written

pub write-requires : goal.write-requires
write-requires g c = rw c.as_slice.ensures ((rw c.in-Write.is at c.requires.turn.1).0)

pub returns-in-Write-clause-on : goal.returns-in-Write-clause-on
returns-in-Write-clause-on g c =
    on_same c.args.shared.now c.args.self.now c.write.new.self (ap (λ (p : CpuPlayer). p.pass) c.write.ensures)
    (ap (λ (p : CpuPlayer). p.work) c.write.ensures) c.requires.on

pub returns-in-Write-clause-turn : goal.returns-in-Write-clause-turn
returns-in-Write-clause-turn g c acts turn = rw c.write.ensures ((rw c.in-Write.is at turn).1)

pub returns-in-Write-clause-plays : goal.returns-in-Write-clause-plays
returns-in-Write-clause-plays g c items lane acts was =
    wrote (boot_of c.args.shared.now) items lane acts c.args.self.now c.write.new.self c.in-Write.addr c.as_slice.result.now
    c.write.ensures
    (subst (λ (bytes : List ℕ). HasComeTo (boot_of c.args.shared.now) items lane (Writes c.in-Write.addr bytes ∷ acts) c.args.self.now)
    (sym c.as_slice.ensures) (rw c.in-Write.is at was))

-- ---- bytes that are shown

pub show-requires-clause-few : goal.show-requires-clause-few
show-requires-clause-few g c = c.requires.on.few

pub show-requires-clause-part : goal.show-requires-clause-part
show-requires-clause-part g c = (rw c.in-Show.is at c.requires.turn.1).0

pub returns-in-Ok-clause-on : goal.returns-in-Ok-clause-on
returns-in-Ok-clause-on g c =
    on_same c.args.shared.now c.args.self.now c.show.new.self c.show.ensures.pass c.show.ensures.work c.requires.on

pub returns-in-Ok-clause-turn : goal.returns-in-Ok-clause-turn
returns-in-Ok-clause-turn g c acts turn =
    subst (λ (work : Option Work). AreInTurn (is_some work) acts) (sym c.show.ensures.work) ((rw c.in-Show.is at turn).1)

pub returns-in-Ok-clause-plays : goal.returns-in-Ok-clause-plays
returns-in-Ok-clause-plays g c items lane acts was =
    c.in-Ok.ensures.shows (boot_of c.args.shared.now) items lane acts (rw c.in-Show.is at was)

pub returns-in-Err-clause-on : goal.returns-in-Err-clause-on
returns-in-Err-clause-on g c =
    on_same c.args.shared.now c.args.self.now c.show.new.self c.show.ensures.pass c.show.ensures.work c.requires.on

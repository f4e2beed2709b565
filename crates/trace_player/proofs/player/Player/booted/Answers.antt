-- A sound boot is one of which a core can be made.
use Rattle.core_machine.proofs.Apart.{none_repeated, within_limits}
use Rattle.native_tas.specs.Table.{entries}
use Rattle.trace_player.specs.Starting.{uuids_of}
use Rattle.trace_player.proofs.player.Player.booted.Goals as goal

pub core_of-requires-clause-limits : goal.core_of-requires-clause-limits
core_of-requires-clause-limits g c = within_limits c.args.boot c.requires.boot.boots

pub core_of-requires-clause-apart : goal.core_of-requires-clause-apart
core_of-requires-clause-apart g c =
    none_repeated (uuids_of (entries c.args.natives.now)) c.args.boot c.requires.boot.boots c.requires.boot.no_native

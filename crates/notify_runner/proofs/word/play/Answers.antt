-- A trace with signals that has a boot is that of its boot, its fills, its items and its signals.
use Rattle.std.proofs.Common.{Option, subst}
use Rattle.std.specs.Prelude.{IfSome}
use Rattle.native_tas.specs.Table.{drivers, entries}
use Rattle.ta_isa.specs.declared.boot.Boot.{Boot}
use Rattle.trace_text.specs.Sound.{IsSoundBoot}
use Rattle.trace_player.specs.Starting.{uuids_of}
use Rattle.notify_runner.proofs.Playable.{at-start}
use Rattle.notify_runner.proofs.word.play.Goals as goal

pub counting-requires-clause-boot : goal.counting-requires-clause-boot
counting-requires-clause-boot g c =
    subst (λ (o : Option Boot). IfSome o (IsSoundBoot (uuids_of (entries c.args.natives.now)))) c.in-Some.is
    c.requires.trace.boot

pub play_steps-requires : goal.play_steps-requires
play_steps-requires g c = (
  entries c.args.natives.now,
  c.args.told,
  at-start (entries c.args.natives.now) (drivers c.args.natives.now) c.args.told c.in-Some.boot _ _ _ c.in-Ok.player
      c.requires c.in-Some.is c.as_slice.ensures c.as_slice-2.ensures c.as_slice-3.ensures c.in-Ok.ensures.boots
      c.in-Ok.ensures.stands,
)

pub returns-clause-told : goal.returns-clause-told
returns-clause-told g c =
    c.play_steps.ensures.told (entries c.args.natives.now) c.args.told
    (at-start (entries c.args.natives.now) (drivers c.args.natives.now) c.args.told c.in-Some.boot _ _ _ c.in-Ok.player
    c.requires c.in-Some.is c.as_slice.ensures c.as_slice-2.ensures c.as_slice-3.ensures c.in-Ok.ensures.boots
    c.in-Ok.ensures.stands)

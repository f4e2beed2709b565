-- A trace that has a boot is that of its boot, its fills and its items.
use Rattle.std.proofs.Common.{Option, subst, sym}
use Rattle.std.specs.Prelude.{IfSome}
use Rattle.native_tas.specs.Table.{entries}
use Rattle.ports.specs.PortLaws.{Appends-nil}
use Rattle.ta_isa.specs.declared.boot.Boot.{Boot}
use Rattle.trace_text.specs.Sound.{IsSound, IsSoundBoot}
use Rattle.trace_text.specs.declared.trace.Trace.{Trace}
use Rattle.trace_player.specs.Starting.{IsAtStart, uuids_of}
use Rattle.trace_player.proofs.Playable.{at-start, same-trace}
use Rattle.alone_runner.proofs.Running.{told-none}
use Rattle.alone_runner.proofs.play.play.Goals as goal

pub returns-in_default-clause-told : goal.returns-in_default-clause-told
returns-in_default-clause-told g c = told-none (entries c.args.natives.now) c.args.trace _ _ c.in_default.is (Appends-nil _)

pub counting-requires-clause-boot : goal.counting-requires-clause-boot
counting-requires-clause-boot g c =
    subst (λ (o : Option Boot). IfSome o (IsSoundBoot (uuids_of (entries c.args.natives.now)))) c.in-Some.is c.requires.boot

pub play_items-played-requires : goal.play_items-played-requires
play_items-played-requires g c =
    let natives = entries c.args.natives.now in
    let same = same-trace c.args.trace c.in-Some.boot _ _ c.in-Some.is c.as_slice.ensures c.as_slice-2.ensures in (
      natives,
      c.args.trace,
      subst (λ (trace : Trace). IsAtStart natives trace c.as_slice-2.result.now c.in-Ok.player) same
          (at-start natives c.in-Some.boot _ _ c.in-Ok.player (subst (IsSound (uuids_of natives)) (sym same) c.requires)
          c.in-Ok.ensures.boots c.in-Ok.ensures.stands),
    )

pub returns-clause-told : goal.returns-clause-told
returns-clause-told g c =
    let natives = entries c.args.natives.now in
    let same = same-trace c.args.trace c.in-Some.boot _ _ c.in-Some.is c.as_slice.ensures c.as_slice-2.ensures in
    c.play_items-played.ensures.told natives c.args.trace
    (subst (λ (trace : Trace). IsAtStart natives trace c.as_slice-2.result.now c.in-Ok.player) same
    (at-start natives c.in-Some.boot _ _ c.in-Ok.player (subst (IsSound (uuids_of natives)) (sym same) c.requires)
    c.in-Ok.ensures.boots c.in-Ok.ensures.stands))

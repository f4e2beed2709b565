-- The player stands before the items of its trace, which is that of its boot, its fills and its items.
use Rattle.std.proofs.Common.{sym, subst, ◌∙◌}
use Rattle.core_cases.proofs.Boots.{boot_of_sound}
use Rattle.core_cases.proofs.playing.played.Goals as goal
use Rattle.native_tas.specs.Table.{entries}
use Rattle.trace_player.proofs.Playable.{at-start, same-trace}
use Rattle.trace_player.specs.Starting.{IsAtStart, uuids_of}
use Rattle.trace_text.specs.Sound.{IsSound}
use Rattle.trace_text.specs.declared.trace.Trace.{Trace}

pub booted-requires-clause-boot : goal.booted-requires-clause-boot
booted-requires-clause-boot g c = boot_of_sound _ c.args.trace c.in-Some.boot c.requires c.in-Some.is

pub play_items-requires : goal.play_items-requires
play_items-requires g c =
    let natives = entries c.args.natives.now in
    let same = same-trace c.args.trace c.in-Some.boot _ _ c.in-Some.is c.as_slice.ensures c.as_slice-2.ensures in (
      natives,
      c.args.trace,
      subst (λ (trace : Trace). IsAtStart natives trace c.as_slice-2.result.now c.in_ok-player.player) same
          (at-start natives c.in-Some.boot _ _ c.in_ok-player.player (subst (IsSound (uuids_of natives)) (sym same) c.requires)
          c.in_ok-player.ensures.boots c.in_ok-player.ensures.stands),
    )

pub returns-clause-boot : goal.returns-clause-boot
returns-clause-boot g c =
    let natives = entries c.args.natives.now in
    let same = same-trace c.args.trace c.in-Some.boot _ _ c.in-Some.is c.as_slice.ensures c.as_slice-2.ensures in
    c.in_ok-play_items.ensures.boot natives c.args.trace
    (subst (λ (trace : Trace). IsAtStart natives trace c.as_slice-2.result.now c.in_ok-player.player) same
    (at-start natives c.in-Some.boot _ _ c.in_ok-player.player (subst (IsSound (uuids_of natives)) (sym same) c.requires)
    c.in_ok-player.ensures.boots c.in_ok-player.ensures.stands))

pub returns-clause-terms : goal.returns-clause-terms
returns-clause-terms g c = c.play_items.ensures.terms ∙ c.in_ok-player.ensures.terms

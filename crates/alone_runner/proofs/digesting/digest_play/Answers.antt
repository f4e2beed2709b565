-- A trace that has a boot is that of its boot, its fills and its items.
use Rattle.std.proofs.Common.{Option, subst, sym}
use Rattle.std.proofs.lemmas.Result.{IfOk-weaker}
use Rattle.std.specs.Prelude.{IfSome}
use Rattle.native_tas.specs.Table.{entries}
use Rattle.ta_isa.specs.declared.boot.Boot.{Boot}
use Rattle.trace_text.specs.Sound.{IsSound, IsSoundBoot}
use Rattle.trace_text.specs.declared.trace.Trace.{Trace}
use Rattle.trace_player.specs.Starting.{IsAtStart, uuids_of}
use Rattle.trace_player.proofs.Playable.{at-start, same-trace}
use Rattle.alone_runner.proofs.digesting.digest_play.Goals as goal

pub counting-requires-clause-boot : goal.counting-requires-clause-boot
counting-requires-clause-boot g c =
    subst (λ (o : Option Boot). IfSome o (IsSoundBoot (uuids_of (entries c.args.natives.now)))) c.in-Some.is c.requires.sound.boot

pub digest_items-requires : goal.digest_items-requires
digest_items-requires g c =
    let natives = entries c.args.natives.now in
    let same = same-trace c.args.trace c.in-Some.boot _ _ c.in-Some.is c.as_slice.ensures c.as_slice-2.ensures in (
      natives,
      c.args.trace,
      subst (λ (trace : Trace). IsAtStart natives trace c.as_slice-2.result.now c.in-Ok.player) same
          (at-start natives c.in-Some.boot _ _ c.in-Ok.player (subst (IsSound (uuids_of natives)) (sym same) c.requires.sound)
          c.in-Ok.ensures.boots c.in-Ok.ensures.stands),
    )

pub returns-clause-told : goal.returns-clause-told
returns-clause-told g c =
    let natives = entries c.args.natives.now in
    let same = same-trace c.args.trace c.in-Some.boot _ _ c.in-Some.is c.as_slice.ensures c.as_slice-2.ensures in
    IfOk-weaker c.digest_items.result _ _ (λ digested told. told natives c.args.trace
    (subst (λ (trace : Trace). IsAtStart natives trace c.as_slice-2.result.now c.in-Ok.player) same
    (at-start natives c.in-Some.boot _ _ c.in-Ok.player (subst (IsSound (uuids_of natives)) (sym same) c.requires.sound)
    c.in-Ok.ensures.boots c.in-Ok.ensures.stands)))
    c.digest_items.ensures.told

pub returns-clause-full : goal.returns-clause-full
returns-clause-full g c = λ e.
    let natives = entries c.args.natives.now in
    let same = same-trace c.args.trace c.in-Some.boot _ _ c.in-Some.is c.as_slice.ensures c.as_slice-2.ensures in
    c.digest_items.ensures.full e natives c.args.trace
    (subst (λ (trace : Trace). IsAtStart natives trace c.as_slice-2.result.now c.in-Ok.player) same
    (at-start natives c.in-Some.boot _ _ c.in-Ok.player (subst (IsSound (uuids_of natives)) (sym same) c.requires.sound)
    c.in-Ok.ensures.boots c.in-Ok.ensures.stands))

use Rattle.std.proofs.Common.{sym, subst, ◌∙◌}
use Rattle.std.specs.Prelude.{All}
use Rattle.core_at_work.proofs.Apart.{none_repeated, within_limits}
use Rattle.live_play.specs.Answer.{Platform, platform_within, uuids_in}
use Rattle.live_player.proofs.Staging.{boot_sound, boot_there, first_ok}
use Rattle.native_tas.specs.Table.{drivers, entries}
use Rattle.trace_text.specs.Sound.{IsSoundFill}
use Rattle.live_player.proofs.header.Header.first_player.Goals as goal

pub unreachable-requires : goal.unreachable-requires
unreachable-requires g c =
    let there = boot_there c.requires.0 (entries c.args.natives.now) (drivers c.args.natives.now) c.requires.1 c.args.self.now c.requires.2 in
    c.in_default.not-Some there.0 (c.in_ok-boot.ensures ∙ there.1)

pub core_on-requires-clause-limits : goal.core_on-requires-clause-limits
core_on-requires-clause-limits g c =
    let on : Platform = platform_within c.requires.0 (entries c.args.natives.now) (drivers c.args.natives.now) in
    let sound = boot_sound on c.requires.1 c.args.self.now c.in-Some.boot c.requires.2 (sym c.in_ok-boot.ensures ∙ c.in-Some.is) in
    within_limits c.in-Some.boot sound.boots

pub core_on-requires-clause-apart : goal.core_on-requires-clause-apart
core_on-requires-clause-apart g c =
    let on : Platform = platform_within c.requires.0 (entries c.args.natives.now) (drivers c.args.natives.now) in
    let sound = boot_sound on c.requires.1 c.args.self.now c.in-Some.boot c.requires.2 (sym c.in_ok-boot.ensures ∙ c.in-Some.is) in
    none_repeated (uuids_in on) c.in-Some.boot sound.boots sound.no_native

pub with_fills-requires-clause-fills : goal.with_fills-requires-clause-fills
with_fills-requires-clause-fills g c =
    let can = c.requires.2 in
    subst (All IsSoundFill) (sym (c.as_slice.ensures.value ∙ can.header_is.fills)) can.within.sound.fills

pub returns-clause-played : goal.returns-clause-played
returns-clause-played g c = λ most lines can.
    first_ok most (entries c.args.natives.now) (drivers c.args.natives.now) lines c.args.self.now c.in-Some.boot
    c.in_ok-core.core c.as_slice.result.now c.with_fills.result can (sym c.in_ok-boot.ensures ∙ c.in-Some.is)
    c.as_slice.ensures.value c.in_ok-core.ensures.boots c.in_ok-core.ensures.booted
    (c.in_ok-core.ensures.terms ∙ c.terms.ensures.terms) c.with_fills.ensures.stands

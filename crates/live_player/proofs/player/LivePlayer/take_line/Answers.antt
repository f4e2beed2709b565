use Rattle.std.proofs.Common.{◌∙◌}
use Rattle.std.specs.Prelude.{Ok, Err}
use Rattle.std.proofs.lemmas.Result.{err_from_is_err_and}
use Rattle.live_play.specs.Answer.{Platform, platform}
use Rattle.live_text.specs.declared.line.LiveLine.TheVariants as line_says
use Rattle.native_tas.specs.Table.{drivers, entries}
use Rattle.live_player.specs.Panicking.{taken_as}
use Rattle.live_player.proofs.Taking.{forgets, not_read, read_as, stands_at, takes}
use Rattle.live_player.proofs.player.LivePlayer.take_line.Goals as goal

pub returns-in_err-said : goal.returns-in_err-said
returns-in_err-said g c = λ lines stands.
    let on : Platform = platform (entries c.args.natives.now) (drivers c.args.natives.now) in
    let failed = err_from_is_err_and c.from_residual.result c.from_residual.ensures.1 in
    rw (failed.1, failed.2) (not_read on lines c.args.line.now c.in_err-said.field-0.0 c.args.self.now _ stands
    (read_as c.as_slice.result.now c.args.line.now (Err c.in_err-said.field-0.0) (c.as_slice.ensures.value ∙ c.uuids.ensures.order)
    c.lines_stay_sound.ensures c.in_err-said.ensures.judged c.in_err-said.ensures.in_place stands.come))

pub take_unwatched-requires-clause-next : goal.take_unwatched-requires-clause-next
take_unwatched-requires-clause-next g c =
    let come = c.requires.1.come in
    let says = read_as c.as_slice.result.now c.args.line.now (Ok (line_says.Says c.in-Says.said)) (c.as_slice.ensures.value ∙ c.uuids.ensures.order)
    c.lines_stay_sound.ensures (rw c.in-Says.is at c.in_ok-said.ensures.judged) (rw c.in-Says.is at c.in_ok-said.ensures.in_place) come in
    (c.requires.0, says.next, come)

pub returns-in-Ok : goal.returns-in-Ok
returns-in-Ok g c = λ lines stands.
    let natives = entries c.args.natives.now in
    let ds = drivers c.args.natives.now in
    let same = c.as_slice.ensures.value ∙ c.uuids.ensures.order in
    let says = read_as c.as_slice.result.now c.args.line.now (Ok (line_says.Says c.in-Says.said)) same c.lines_stay_sound.ensures
    (rw c.in-Says.is at c.in_ok-said.ensures.judged) (rw c.in-Says.is at c.in_ok-said.ensures.in_place) stands.come in
    rw c.taken.ensures (takes (platform natives ds) lines c.args.line.now c.in-Says.said (taken_as c.in-Ok.how) c.take_unwatched.new.self _ _ says
    (stands_at natives ds c.as_slice.result.now same c.as_slice.ensures.fits (rw c.as_slice.ensures.value c.uuids.ensures.apart))
    (c.in-Ok.ensures lines says.next stands.come))

pub returns-in-HistoryOff : goal.returns-in-HistoryOff
returns-in-HistoryOff g c = λ lines stands.
    let natives = entries c.args.natives.now in
    let ds = drivers c.args.natives.now in
    let same = c.as_slice.ensures.value ∙ c.uuids.ensures.order in
    let off = read_as c.as_slice.result.now c.args.line.now (Ok line_says.HistoryOff) same c.lines_stay_sound.ensures
    (rw c.in-HistoryOff.is at c.in_ok-said.ensures.judged) (rw c.in-HistoryOff.is at c.in_ok-said.ensures.in_place) stands.come in
    let come = c.forget.ensures (platform natives ds) lines stands.come off.unbooted in
    let plays = stands_at natives ds c.as_slice.result.now same c.as_slice.ensures.fits
    (rw c.as_slice.ensures.value c.uuids.ensures.apart) in
    forgets (platform natives ds) lines c.args.line.now c.forget.new.self _ off plays come

use Rattle.std.proofs.Common.{subst, ◌∙◌}
use Rattle.std.specs.Prelude.{Err}
use Rattle.kernel_model.specs.Application.{booted}
use Rattle.native_tas.specs.Table.{drivers, entries}
use Rattle.notify_play.specs.NotifyPlay.{after_item}
use Rattle.notify_player.specs.Playing.{Follows}
use Rattle.word_parts.specs.declared.stop.Stop.{Stop}
use Rattle.live_play.specs.Answer.{platform_within}
use Rattle.live_player.proofs.Panics.{item_ends}
use Rattle.live_player.proofs.Playing.{desk_is, item_can, item_done, item_full, item_kept, out_same}
use Rattle.live_player.proofs.stage.play_on.Goals as goal

pub play_so-requires-clause-can : goal.play_so-requires-clause-can
play_so-requires-clause-can g c =
    item_can c.requires.0 (entries c.args.natives.now) (drivers c.args.natives.now) c.requires.1 c.args.item.now c.args.player.now
    c.machines_stand.ensures c.requires.2 c.requires.3

pub play_so-requires-clause-desk : goal.play_so-requires-clause-desk
play_so-requires-clause-desk g c =
    desk_is c.requires.0 (entries c.args.natives.now) (drivers c.args.natives.now) c.requires.1 c.args.player.now
    c.desks_keep_their_drivers.ensures c.requires.3

pub returns-in-Ok-clause-plays : goal.returns-in-Ok-clause-plays
returns-in-Ok-clause-plays g c = λ most lines next p.
    item_done most (entries c.args.natives.now) (drivers c.args.natives.now) lines c.args.item.now c.args.player.now
    c.play_so.new.player c.args.text.now.items c.play_so.new.text.items next p
    (c.in-Ok.ensures.follows (booted p.boot (entries c.args.natives.now)) p.told p.stands)

pub returns-in-Err-Full-clause-plays : goal.returns-in-Err-Full-clause-plays
returns-in-Err-Full-clause-plays g c = λ most lines next p.
    let natives = entries c.args.natives.now in
    let ds = drivers c.args.natives.now in
    item_full most natives ds lines c.args.item.now c.args.player.now c.play_so.new.player c.copied.result
    c.args.text.now.items c.play_so.new.text.items next p
    (subst (λ (stop : Stop). Follows (booted p.boot natives) ds p.told (after_item (booted p.boot natives) ds c.args.item.now p.told)
    (Err stop) c.play_so.new.player c.args.text.now.items c.play_so.new.text.items) c.in-Err-Full.field-0-is
    (c.in-Err-Full.ensures.follows (booted p.boot natives) p.told p.stands))
    (cc)

pub returns-in-Ok-clause-panic : goal.returns-in-Ok-clause-panic
returns-in-Ok-clause-panic g c = λ most lines p.
    let natives = entries c.args.natives.now in
    item_ends (platform_within most natives (drivers c.args.natives.now)) lines c.args.item.now c.args.player.now c.in-Ok.panic p
    (c.in-Ok.ensures.panic (booted p.boot natives) p.told p.stands)

pub returns-in-Ok-clause-kept : goal.returns-in-Ok-clause-kept
returns-in-Ok-clause-kept g c = λ most cpu lines next p on out.
    let natives = entries c.args.natives.now in
    let ds = drivers c.args.natives.now in
    let boot = booted p.boot natives in
    let follows = c.in-Ok.ensures.follows boot p.told p.stands in
    item_kept most natives ds lines c.args.item.now c.args.player.now follows.0 cpu c.play_so.new.watch.kept next p follows.1
    (c.in-Ok.ensures.kept boot p.told follows.0 cpu on p.stands (out_same c.args.item.now ∙ out) follows.1)

pub returns-in-Err-Full-clause-kept : goal.returns-in-Err-Full-clause-kept
returns-in-Err-Full-clause-kept g c = λ most cpu lines next p on out. tt

use Rattle.std.proofs.Common.{sym, subst}
use Rattle.client_text.specs.Sound.{IsSoundScript}
use Rattle.client_text.specs.declared.script.Script.{Script}
use Rattle.native_tas.specs.Table.{entries}
use Rattle.trace_player.specs.Starting.{uuids_of}
use Rattle.client_runner.proofs.Started.{none_told, script_is}
use Rattle.client_runner.specs.Told.{IsToldOf}
use Rattle.client_runner.proofs.playing.play.Goals as goal

pub returns-in_default-clause-told : goal.returns-in_default-clause-told
returns-in_default-clause-told g c = none_told (entries c.args.natives.now) c.args.script _ c.in_default.is

pub play_booted-requires-clause-sound : goal.play_booted-requires-clause-sound
play_booted-requires-clause-sound g c =
    subst (λ (script : Script). IsSoundScript (uuids_of (entries c.args.natives.now)) script)
    (sym (script_is c.args.script c.in-Some.boot _ _ c.in-Some.is c.as_slice.ensures c.as_slice-2.ensures)) c.requires

pub returns-clause-told : goal.returns-clause-told
returns-clause-told g c =
    subst (λ (script : Script). IsToldOf (entries c.args.natives.now) script c.play_booted.result (g.K.Sink.held c.args.out.now)
    (g.K.Sink.held c.play_booted.new.out))
    (script_is c.args.script c.in-Some.boot _ _ c.in-Some.is c.as_slice.ensures c.as_slice-2.ensures) c.play_booted.ensures.told

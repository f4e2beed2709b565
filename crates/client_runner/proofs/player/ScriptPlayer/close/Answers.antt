use Rattle.std.proofs.Common.{None, refl, ap, ◌∙◌}
use Rattle.client_play.specs.Calls.{Sessions, session_of}
use Rattle.client_text.specs.declared.script.ScriptCall.TheVariants as script
use Rattle.teec.specs.Calls.{close_call}
use Rattle.client_runner.proofs.Called.{can_stop_so, returns_so, stops_so}
use Rattle.client_runner.proofs.player.ScriptPlayer.close.Goals as goal

pub stop_of-requires : goal.stop_of-requires
stop_of-requires g c =
    let is = ap close_call (c.session_of-session.ensures ∙ ap (λ (s : Sessions). session_of s c.args.name.now) c.requires.stands.names) in
    can_stop_so g.B.OfBoot.booted c.requires.place c.args.self.now.names c.args.self.now.client c.close-told.new.self
    (script.Close c.args.name.now) None (close_call c.session_of-session.result) c.requires.stands c.is_over.ensures is refl
    c.in-Err.fault (c.in-Err.ensures.run c.requires.stands.alive.alive) c.requires.goes_on

pub returns-in-Ok : goal.returns-in-Ok
returns-in-Ok g c = λ place at.
    let is = ap close_call (c.session_of-session.ensures ∙ ap (λ (s : Sessions). session_of s c.args.name.now) at.names) in
    returns_so g.B.OfBoot.booted place c.args.self.now.names c.args.self.now.client c.close-told.new.self
    (script.Close c.args.name.now) None (close_call c.session_of-session.result) at c.is_over.ensures is refl
    (c.in-Ok.ensures.run at.alive.alive) c.in-Ok.ensures.tries c.in-Ok.ensures.answers (c.in-Ok.ensures.keeps at.alive.alive)
    c.args.self.now.names at.names (record { told = c.in-Ok.told; params = c.none.result }) c.in-Ok.ensures.told c.none.ensures

pub returns-in-Err : goal.returns-in-Err
returns-in-Err g c = λ place at.
    let is = ap close_call (c.session_of-session.ensures ∙ ap (λ (s : Sessions). session_of s c.args.name.now) at.names) in
    let was = ap close_call (c.session_of-session.ensures ∙ ap (λ (s : Sessions). session_of s c.args.name.now) c.requires.stands.names) in
    let can = can_stop_so g.B.OfBoot.booted c.requires.place c.args.self.now.names c.args.self.now.client c.close-told.new.self
    (script.Close c.args.name.now) None (close_call c.session_of-session.result) c.requires.stands c.is_over.ensures was refl
    c.in-Err.fault (c.in-Err.ensures.run c.requires.stands.alive.alive) c.requires.goes_on in
    stops_so g.B.OfBoot.booted place c.args.self.now.names c.args.self.now.client c.close-told.new.self
    (script.Close c.args.name.now) None (close_call c.session_of-session.result) at c.is_over.ensures is refl
    c.in-Err.fault (c.in-Err.ensures.run at.alive.alive) can c.args.self.now.names c.stop_of.result c.stop_of.ensures

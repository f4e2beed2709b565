use Rattle.std.proofs.Common.{List, refl, sym, subst, ap, ◌∙◌, arith}
use Rattle.notify_play.specs.NotifyPlay.{NotifyPlay}
use Rattle.notify_text.specs.Sound.{IsSoundSignal}
use Rattle.notify_text.specs.declared.notify_trace.Signal.{Signal}
use Rattle.trace_player.specs.Playing.{terms_in}
use Rattle.trace_player.specs.declared.player.Player.{Player}
use Rattle.notify_player.specs.Playing.{IsPlayedTo}
use Rattle.notify_player.specs.Signalling.{signalled_by}
use Rattle.notify_player.proofs.Signals.{all-tail, behind-more, front-ends, front-more, front-none, signalled}
use Rattle.notify_player.proofs.player.NotifyPlayer.take_signals.Goals as goal

pub loop-rest-init : goal.loop-rest-init
loop-rest-init c = record {
  sound = λ items sound. sound;
  behind = refl;
  player = refl;
  signalled = λ boot ds told stands. (told, stands, refl);
}

pub signal-requires-clause-least : goal.signal-requires-clause-least
signal-requires-clause-least c =
    let some = c.in-len1-up.len_at_least in
    (c.loop-rest.invariant.sound c.requires.0 c.requires.1 0 _ (omega (arith, some))).some

pub signal-requires-clause-most : goal.signal-requires-clause-most
signal-requires-clause-most c =
    let some = c.in-len1-up.len_at_least in
    (c.loop-rest.invariant.sound c.requires.0 c.requires.1 0 _ (omega (arith, some))).few

pub loop-rest-preserved : goal.loop-rest-preserved
loop-rest-preserved c =
    let rest = c.loop-rest.rest.now in
    let some = c.in-len1-up.len_at_least in
    record {
      sound = λ items sound. all-tail (IsSoundSignal items) rest some (c.loop-rest.invariant.sound items sound);
      behind = sym (behind-more c.args.at rest _ some c.if-first-at.false) ∙ c.loop-rest.invariant.behind;
      player = c.loop-rest.invariant.player;
      signalled = λ boot ds told stands.
          let was = c.loop-rest.invariant.signalled boot ds told stands in (
            _,
            signalled boot ds was.0 _ c.loop-rest.self (record c.loop-rest.self { desk = c.signal.new.self }) was.1 refl c.signal.ensures,
            sym (ap (λ (l : List Signal). signalled_by l was.0) (front-more c.args.at rest _ some c.if-first-at.false))
                ∙ was.2,
          );
    }

pub returns-in_default-clause-signals : goal.returns-in_default-clause-signals
returns-in_default-clause-signals c = λ boot ds told stands.
    let was = c.loop-rest.invariant.signalled boot ds told stands in
    subst (λ (n : NotifyPlay). IsPlayedTo boot ds n c.loop-rest.self)
    (sym (ap (λ (l : List Signal). signalled_by l was.0) (front-none c.args.at c.loop-rest.rest.now c.in_default.len_below))
    ∙ was.2)
    was.1

pub returns-then-first-at-clause-signals : goal.returns-then-first-at-clause-signals
returns-then-first-at-clause-signals c = λ boot ds told stands.
    let was = c.loop-rest.invariant.signalled boot ds told stands in
    let some = c.in-len1-up.len_at_least in
    subst (λ (n : NotifyPlay). IsPlayedTo boot ds n c.loop-rest.self)
    (sym (ap (λ (l : List Signal). signalled_by l was.0)
    (front-ends c.args.at c.loop-rest.rest.now _ some c.if-first-at.true))
    ∙ was.2)
    was.1

pub returns-in_default-clause-terms : goal.returns-in_default-clause-terms
returns-in_default-clause-terms c = ap (λ (player : Player). terms_in player) c.loop-rest.invariant.player

pub returns-then-first-at-clause-terms : goal.returns-then-first-at-clause-terms
returns-then-first-at-clause-terms c = ap (λ (player : Player). terms_in player) c.loop-rest.invariant.player

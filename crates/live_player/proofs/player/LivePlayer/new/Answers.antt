use Rattle.std.proofs.Common.{refl, arith, ap}
use Rattle.live_play.specs.Answer.{platform, uuids_in}
use Rattle.live_player.specs.Header.{terms_where}
use Rattle.live_player.proofs.Taking.{none_sound}
use Rattle.live_player.proofs.player.LivePlayer.new.Goals as goal

pub returns : goal.returns
returns c = λ natives ds. record {
  come = record {
    scene = c.new.ensures;
    within = record {
      sound = none_sound (uuids_in (platform natives ds)) (c.lines_stay_sound.ensures.first (uuids_in (platform natives ds)));
      signals = λ k d lt. absurd (omega (arith, lt));
    };
    stage_at = (
      c.new-2.ensures.said,
      record { items = refl; signals = refl },
      ap (λ off. (terms_where off).most) c.new-2.ensures.history,
    );
    terms = ap terms_where c.new-2.ensures.history;
  };
  has_play = tt;
}

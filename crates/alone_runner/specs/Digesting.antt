-- What is known of a play whose lines went to a digest.
use Rattle.std.specs.Prelude.{◌≡◌, List, Some}
use Rattle.kernel_model.specs.Application.{Native}
use Rattle.play_model.specs.Play.{Play, played}
use Rattle.play_model.specs.Text.{text_of_play}
use Rattle.sha2.specs.Sha256.{sha256}
use Rattle.ta_isa.specs.declared.boot.Boot.{Boot}
use Rattle.trace_text.specs.declared.trace.Trace.{Trace}
use Rattle.alone_runner.specs.Counts.{AreCounts}
use Rattle.alone_runner.specs.declared.digesting.Digested.{Digested}

-- those are the counts of the answers of the trace's play, and that is the digest of what the play has printed
pub record IsDigested (natives : List Native) (trace : Trace) (digested : Digested) : Type 0 where
  pub boot : Boot
  pub has_boot : trace.boot ≡ Some boot
  pub play : Play
  pub is_play : played natives boot trace ≡ Some play
  pub counts : AreCounts play.history digested.counts
  pub digest : digested.digest ≡ sha256 (text_of_play play)

use Rattle.std.proofs.Common.{◌≡◌, take}
use Rattle.std.specs.List.{flat_map}
use Rattle.threads_play.specs.Ended.{texts_of}
use Rattle.threads_play.proofs.ends.text_of.Given as goal

abbrev pub invariant-loop-end : goal.invariant-loop-end
invariant-loop-end l = l.text.items ≡ flat_map (λ block. block) (texts_of (take l.end-index l.ends))

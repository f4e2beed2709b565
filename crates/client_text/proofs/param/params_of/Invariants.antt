use Rattle.std.proofs.Common.{◌≡◌, ◌++◌, length, map}
use Rattle.std.specs.List.{list_all}
use Rattle.client_text.specs.Forms.{is_param, param_of}
use Rattle.client_text.proofs.param.params_of.Given as goal

abbrev pub invariant-loop-word : goal.invariant-loop-word
invariant-loop-word l = record {
  forms : list_all is_param l.words ≡ list_all is_param l.fn.words;
  read : l.params.items ++ map param_of l.words ≡ map param_of l.fn.words;
}

abbrev pub decreases-loop-word : goal.decreases-loop-word
decreases-loop-word l = length l.words

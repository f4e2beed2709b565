-- The key of a boot.
use Rattle.std.proofs.Common.{◌≡◌, ℕ, List, not, Option, Some, None, is_some, is_none, refl}
use Rattle.ta_isa.specs.declared.boot.App.{App}
use Rattle.trace_text.specs.declared.limits.Size.{Size}
use Rattle.trace_text.specs.Judging.{booted}
use Rattle.trace_text.specs.Limits.{with_key}

pub with_key_booted : (size : Option Size) (apps : List App) (old : Option (List ℕ)) (key : List ℕ) → with_key (booted size apps old) key ≡ booted size apps (Some key)
with_key_booted None apps old key = refl
with_key_booted (Some size) apps old key = refl

pub is_none_booted : (size : Option Size) (apps : List App) (key : Option (List ℕ)) → is_none size ≡ not (is_some (booted size apps key))
is_none_booted None apps key = refl
is_none_booted (Some size) apps key = refl

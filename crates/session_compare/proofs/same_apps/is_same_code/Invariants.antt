use Rattle.std.proofs.Common.{◌≡◌, take}
use Rattle.session_compare.proofs.same_apps.is_same_code.Given as goal

abbrev pub invariant-loop-place : goal.invariant-loop-place
invariant-loop-place l = take l.place l.one ≡ take l.place l.other

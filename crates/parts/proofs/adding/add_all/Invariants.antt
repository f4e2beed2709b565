use Rattle.std.proofs.Common.{◌≡◌, ◌++◌, take}
use Rattle.core_lock.specs.Passes.{number, made, IsPassOf, IsIdle}
use Rattle.parts.specs.Lines.{writer, title, lines_by}
use Rattle.parts.proofs.adding.add_all.Given as goal

abbrev pub invariant-loop-word : goal.invariant-loop-word
invariant-loop-word g l =
    IsPassOf writer title l.lock l.pass × IsIdle l.pass × (number l.pass ≡ number l.fn.pass)
    × (made l.pass ≡ made l.fn.pass ++ lines_by (number l.fn.pass) (take l.word-index l.words))

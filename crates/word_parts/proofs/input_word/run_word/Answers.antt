use Rattle.std.proofs.Common.{Err, ℕ, List, Option, ap, subst}
use Rattle.word_parts.specs.BuiltIn.{built_in}
use Rattle.word_parts.specs.Faults.{TellsFaults}
use Rattle.word_parts.specs.Word.{Answered}
use Rattle.word_parts.proofs.Called.{shown-read, shown-unserved}
use Rattle.word_parts.proofs.input_word.run_word.Goals as goal

pub serve-requires : goal.serve-requires
serve-requires g c = (c.in-Ok.ensures.read.0, c.in-Ok.ensures.read.2)

pub returns-in-Ok-clause-keeps : goal.returns-in-Ok-clause-keeps
returns-in-Ok-clause-keeps g c =
    let built = built_in c.args.natives.now in
    let word = g.W.InputWord.word c.args.word built in
    let read = c.in-Ok.ensures.read in
    let unwritten = c.in-Ok.ensures.unwritten in
    let answered =
    subst (λ (held : Option (List ℕ)). Answered word read.0 c.serve.result held (g.K.Sink.held c.serve.new.out)) unwritten.0
    (c.serve.ensures.answered read.0 read.2) in
    let faults =
    subst (λ (count : ℕ). TellsFaults c.serve.result count (g.K.Sink.faults c.serve.new.out)) unwritten.1 c.serve.ensures.faults in
    shown-read word (g.W.InputWord.Shows c.args.word built) _ read.0 (c.laws.ensures.one_meaning built) (c.laws.ensures.shown built)
    faults.write_fault read.1 answered

pub returns-in-Ok-clause-faults : goal.returns-in-Ok-clause-faults
returns-in-Ok-clause-faults g c =
    subst (λ (count : ℕ). TellsFaults c.serve.result count (g.K.Sink.faults c.serve.new.out)) c.in-Ok.ensures.unwritten.1
    c.serve.ensures.faults

pub returns-in-Err-clause-keeps : goal.returns-in-Err-clause-keeps
returns-in-Err-clause-keeps g c =
    let built = built_in c.args.natives.now in
    let e = c.in-Err.ensures in
    shown-unserved (g.W.InputWord.word c.args.word built) (g.W.InputWord.Shows c.args.word built) _ (c.laws.ensures.one_meaning built)
    (c.laws.ensures.shown built) (λ is. (e.read_fault (ap Err is)).0) e.faults.write_fault e.unserved

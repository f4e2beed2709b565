use Rattle.std.proofs.Common.{subst}
use Rattle.native_tas.specs.Table.{entries}
use Rattle.trace_player.specs.Starting.{uuids_of}
use Rattle.word_parts.specs.Word.{IsServedBy}
use Rattle.alone_runner.specs.Content.{IsSoundContent}
use Rattle.alone_runner.specs.Run.{reading}
use Rattle.alone_runner.proofs.Apart.{answered}
use Rattle.alone_runner.proofs.serving.ServeInputWord.serve.Goals as goal

pub answer_trace-requires : goal.answer_trace-requires
answer_trace-requires g c = subst (IsSoundContent (uuids_of (entries c.args.natives.now))) c.in-Trace.is c.requires.1.sound

pub answer_image-requires : goal.answer_image-requires
answer_image-requires g c = subst (IsSoundContent (uuids_of (entries c.args.natives.now))) c.in-Image.is c.requires.1.sound

pub returns-in-Trace-clause-answered : goal.returns-in-Trace-clause-answered
returns-in-Trace-clause-answered g c = λ input read.
    let served : IsServedBy (reading c.args.self.grammar (entries c.args.natives.now)) c.args.content c.answer_trace.result
    (g.K.Sink.held c.args.out.now) (g.K.Sink.held c.answer_trace.new.out) =
    rw c.in-Trace.is (c.answer_trace.ensures.served c.args.self.grammar) in
    answered c.args.self.grammar (entries c.args.natives.now) input c.args.content _ _ _ read served

pub returns-in-Image-clause-answered : goal.returns-in-Image-clause-answered
returns-in-Image-clause-answered g c = λ input read.
    let served : IsServedBy (reading c.args.self.grammar (entries c.args.natives.now)) c.args.content c.answer_image.result
    (g.K.Sink.held c.args.out.now) (g.K.Sink.held c.answer_image.new.out) =
    rw c.in-Image.is (c.answer_image.ensures.served c.args.self.grammar) in
    answered c.args.self.grammar (entries c.args.natives.now) input c.args.content _ _ _ read served

use Rattle.std.proofs.Common.{refl}
use Rattle.solo.proofs.Coming.{added_last, seen_so}
use Rattle.solo.specs.Calls.{IsCall}
use Rattle.solo.specs.Standing.{app_in}
use Rattle.solo.proofs.solo_session.SoloSession.begin_last.Goals as goal

pub returns-clause-begins : goal.returns-clause-begins
returns-clause-begins c solo own at params stands next is waits works home =
    let s = c.args.self.now in
    let cont = c.deref_mut.result.now in
    let its : IsCall cont own = rw c.deref_mut.ensures.value is in
    added_last s c.begin.new.self _ solo _ c.args.number _ stands next c.begin.ensures.calls
    (seen_so (app_in s) c.begin.new.self cont c.begin.new.cont solo own at params c.args.number its
    (c.begin.ensures.begins solo own at params stands.beside its waits works home))
    refl c.push_reserved.ensures.items

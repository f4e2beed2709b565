use Rattle.std.proofs.Common.{refl}
use Rattle.group_solo.proofs.Adding.{added_last}
use Rattle.group_solo.proofs.group.GroupSolo.begin_last.Goals as goal

pub returns-clause-begins : goal.returns-clause-begins
returns-clause-begins c g b stands number next is waits session there =
    added_last c.args.self.now c.begin.new.self _ g _ c.args.number _ stands next c.begin.ensures.calls
    (c.begin.ensures.begins g b stands.beside (rw c.deref_mut.ensures.value is) number waits session there)
    refl c.push_reserved.ensures.items

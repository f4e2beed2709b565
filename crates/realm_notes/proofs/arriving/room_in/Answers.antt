use Rattle.std.proofs.Common.{◌≡◌, List, ℕ, ap, ◌∙◌}
use Rattle.std.specs.Global.{Box}
use Rattle.kernel_state.specs.Meaning.{booted_of}
use Rattle.kernel_state.specs.Tables.{tables_of}
use Rattle.realm_notes.specs.Realms.{realm_of, room_as}
use Rattle.rpc_cont.specs.declared.cont.Cont.{Cont}
use Rattle.realm_notes.proofs.arriving.room_in.Goals as goal

pub returns : goal.returns
returns c cont handed =
    let same : c.in-Ok.cont.now ≡ cont = cc (c.in-Ok.ensures.waiting, handed) in
    c.room_of.ensures
    ∙ ap (λ (k : Cont (List ℕ)). room_as (realm_of c.args.realm.now) (booted_of c.args.core.now) (tables_of c.args.core.now.parts.tables) k)
    (c.deref.ensures ∙ ap (λ (b : Box (Cont (List ℕ))). b.value) same)

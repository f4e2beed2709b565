use Rattle.std.proofs.Common.{◌≡◌, ◌+◌, ◌<◌, ◌&&◌, Bool, true, None, length, nat_lt, lit<, ap, sym, ◌∙◌, arith}
use Rattle.std.proofs.lemmas.Bool.Decides.{nat_tests}
use Rattle.base.specs.NumberMap.{get}
use Rattle.base.proofs.MapLemmas.{none_above}
use Rattle.session_table.specs.Sessions.{SessionTable, has_room}
use Rattle.session_table.proofs.Given.{given_after_reserve}
use Rattle.session_table.proofs.sessions.Sessions.reserve.Goals as goal

pub insert-requires : goal.insert-requires
insert-requires c =
    let table : SessionTable = record { kept = c.self.inside.kept; next = c.self.inside.given + 1 } in
    let room : has_room table ≡ true = ap has_room c.self.view_is ∙ sym c.if-not-has_room.ensures.room in
    (lit< tt, (rw c.from.ensures (none_above c.self.inside.kept (c.self.inside.given + 1) c.self.invariant.given), few (nat_lt table.next 4294967296) room))
  where
    few : (other : Bool) → (nat_lt (length c.self.inside.kept) 64 && other) ≡ true → length c.self.inside.kept < 64
    few other test = grind (arith, nat_tests)

pub invariant_of-self : goal.invariant_of-self
invariant_of-self c = rw (c.insert.ensures, c.from.ensures) (given_after_reserve c.self.inside.kept (c.self.inside.given + 1) c.reserved-session.result c.self.invariant (omega arith))

pub returns-clause-fresh : goal.returns-clause-fresh
returns-clause-fresh c =
    ap (λ (table : SessionTable). get table.kept (c.self.inside.given + 1)) (sym c.self.view_is)
    ∙ none_above c.self.inside.kept (c.self.inside.given + 1) c.self.invariant.given

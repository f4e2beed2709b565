-- A session gets the next numbers, of the kernel and of the machine: each that has a name has it still.
use Rattle.std.proofs.Common.{◌≡◌, ℕ, ◌+◌, ◌<◌, Some, subst, sym, ◌∙◌}
use Rattle.base.specs.NumberMap.{NumberMap, get, insert}
use Rattle.session_table.specs.Session.{reserved_for}
use Rattle.ta_params.specs.declared.login.Login.{Login}
use Rattle.kernel_model.specs.Kernel.{Tables}
use Rattle.own_model.proofs.Maps.{get-insert-other, get-inserted}
use Rattle.own_model.proofs.OtherCalls.{less}
use Rattle.group_model.specs.Line.{AreNames}
use Rattle.group_model.specs.Tied.{Names}
use Rattle.group_model.proofs.Lines.{less_on, next_is_more}

-- ---- numbers

-- the next number is under the machine's next one then
pub names_grow : (names : NumberMap ℕ) (next own_next : ℕ) → 0 < next → AreNames names next own_next
    → AreNames (insert names next own_next) (next + 1) (own_next + 1)
names_grow names next own_next some n = record {
  given = λ number own has.
      get-inserted names next own_next number own has
      (λ same is. (
        (subst (λ (m : ℕ). 0 < m) (sym same) some, subst (λ (m : ℕ). m < next + 1) (sym same) (next_is_more next)),
        subst (λ (m : ℕ). m < own_next + 1) is (next_is_more own_next),
      ))
      (λ was.
      let given = n.given number own was in
      ((given.0.0, less_on number next given.0.1), less_on own own_next given.1));
  apart = λ first second own one two.
      get-inserted names next own_next first own one
      (λ same is.
      get-inserted names next own_next second own two
      (λ same_too is_too. same ∙ sym same_too)
      (λ was. absurd (less own own_next (n.given second own was).1 is)))
      (λ was.
      get-inserted names next own_next second own two
      (λ same is. absurd (less own own_next (n.given first own was).1 is))
      (λ was_too. n.apart first second own was was_too));
}

-- what has a number has it still
pub name_stays : (names : NumberMap ℕ) (next own_next number own : ℕ) → AreNames names next own_next
    → get names number ≡ Some own → get (insert names next own_next) number ≡ Some own
name_stays names next own_next number own n has =
    get-insert-other names next own_next number (less number next (n.given number own has).0.1) ∙ has

-- ---- all of it

-- the numbers with the next session's
abbrev pub with_next_session : Names → ℕ → Names
with_next_session names next = record names {
  sessions = insert names.sessions next names.next_session;
  next_session = names.next_session + 1;
}

-- the tables with it, on this instance
abbrev pub tables_with : Tables → ℕ → Login → ℕ → Tables
tables_with tables client login instance = record tables {
  sessions = insert tables.sessions tables.next_session (reserved_for client login instance);
  next_session = tables.next_session + 1;
}

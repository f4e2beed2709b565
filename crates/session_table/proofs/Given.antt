-- The numbers of the sessions that are kept were given, after each change.
use Rattle.std.proofs.Common.{◌≡◌, ℕ, ◌+◌, ◌<◌, Option, Some, None, IsSome, refl, arith}
use Rattle.std.specs.List.{All}
use Rattle.std.proofs.lemmas.List.Elements.{All-weaker}
use Rattle.base.specs.NumberMap.{NumberMap, get, insert, remove}
use Rattle.base.proofs.MapLemmas.{All-get, All-insert, All-remove}
use Rattle.session_table.specs.declared.session.Session.{Session}
use Rattle.session_table.specs.Sessions.{AreGiven}

abbrev Positive : ℕ × Session → Type 0
Positive entry = 0 < entry.0

abbrev Below : ℕ → ℕ × Session → Type 0
Below next entry = entry.0 < next

-- a session more, under the next number
pub given_after_reserve : (kept : NumberMap Session) (next : ℕ) (session : Session) → AreGiven kept next → 0 < next →
    AreGiven (insert kept next session) (next + 1)
given_after_reserve kept next session given positive = record {
  from_one = All-insert Positive kept next session given.from_one positive;
  given = All-insert (Below (next + 1)) kept next session (All-weaker (Below next) (Below (next + 1)) (λ entry below. omega arith) kept given.given) (omega arith);
}

-- another session under a number that is kept
pub given_after_settle : (kept : NumberMap Session) (next number : ℕ) (session : Session) → AreGiven kept next → IsSome (get kept number) →
    AreGiven (insert kept number session) next
given_after_settle kept next number session given some = by_cases (get kept number) refl some
  where
    by_cases : (o : Option Session) → get kept number ≡ o → IsSome o → AreGiven (insert kept number session) next
    by_cases None is h = absurd (cc)
    by_cases (Some was) is h = record {
      from_one = All-insert Positive kept number session given.from_one (All-get Positive kept number was given.from_one is);
      given = All-insert (Below next) kept number session given.given (All-get (Below next) kept number was given.given is);
    }

-- a session less
pub given_after_remove : (kept : NumberMap Session) (next number : ℕ) → AreGiven kept next → AreGiven (remove kept number) next
given_after_remove kept next number given = record {
  from_one = All-remove Positive kept number given.from_one;
  given = All-remove (Below next) kept number given.given;
}

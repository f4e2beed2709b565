-- Laws of the definitions.
use Rattle.std.specs.Prelude.{◌≡◌}
use Rattle.compare_model.specs.Comparing.{CanBe, HaveSameReplies, IsAnsweredAlone, IsComparedAs, IsHistory, Journaled, Pair}
use Rattle.compare_model.specs.declared.compared.Compared.{Compared}
use Rattle.compare_model.specs.declared.subject.Subject.{Subject}

-- two answers on two journals and one session or group are the same
abbrev pub OneComparison : Type 0
OneComparison = (pair : Pair) (subject : Subject) (one other : Compared) →
    IsComparedAs pair subject one → IsComparedAs pair subject other → one ≡ other

-- where two journals show the same of a session or of a group, it was answered the same
abbrev pub SameGivesSameReplies : Type 0
SameGivesSameReplies = (pair : Pair) (subject : Subject) (compared : Compared) →
    IsComparedAs pair subject compared → HaveSameReplies pair subject compared

-- in each journal whose events are a legal history, each session and each group is answered as its machine alone answers; and so
-- in each with which a legal and steady history begins
pub record JournalsAreAnsweredAlone : Type 0 where
  pub legal : (pair : Pair) (subject : Subject) (journal : Journaled) → IsHistory pair journal → IsAnsweredAlone pair subject journal
  pub begun : (pair : Pair) (subject : Subject) (journal : Journaled) → CanBe pair journal → IsAnsweredAlone pair subject journal

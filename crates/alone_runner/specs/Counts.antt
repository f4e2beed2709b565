-- How many answers of each kind were counted, and as text.
use Rattle.std.specs.Prelude.{◌≡◌, ◌+◌, ◌<◌, ℕ, Bool, List, [], ◌∷◌, ◌++◌, codes, if◌then◌else◌}
use Rattle.std.specs.Fmt.{decimal}
use Rattle.event_journal.specs.declared.event.Event.{Event}
use Rattle.hex.specs.Hex.{encode_lower}
use Rattle.made_play.specs.Summary.{answers_in, counted, is_limit, is_ok, is_resume, is_rpc}
use Rattle.alone_runner.specs.declared.summary.AnswerCounts.{AnswerCounts}
use Rattle.alone_runner.specs.declared.summary.AnswerKind.{AnswerKind}
use Rattle.alone_runner.specs.declared.summary.AnswerKind.TheVariants.{Ok, Limit, Resume, Rpc}

-- an answer with this a0 is of the kind
abbrev pub is_of_kind : AnswerKind → ℕ → Bool
is_of_kind Ok = is_ok
is_of_kind Limit = is_limit
is_of_kind Resume = is_resume
is_of_kind Rpc = is_rpc

-- the counts are those of a history
pub record AreCounts (history : List Event) (counts : AnswerCounts) : Type 0 where
  pub ok : counts.ok ≡ answers_in history is_ok
  pub limit : counts.limit ≡ answers_in history is_limit
  pub resume : counts.resume ≡ answers_in history is_resume
  pub rpc : counts.rpc ≡ answers_in history is_rpc

-- with an answer more that has this a0
abbrev pub with_answer : ℕ → AnswerCounts → AnswerCounts
with_answer a0 counts = record {
  ok = if is_ok a0 then counts.ok + 1 else counts.ok;
  limit = if is_limit a0 then counts.limit + 1 else counts.limit;
  resume = if is_resume a0 then counts.resume + 1 else counts.resume;
  rpc = if is_rpc a0 then counts.rpc + 1 else counts.rpc;
}

-- each of them is below this
pub record AreBelow (bound : ℕ) (counts : AnswerCounts) : Type 0 where
  pub ok : counts.ok < bound
  pub limit : counts.limit < bound
  pub resume : counts.resume < bound
  pub rpc : counts.rpc < bound

-- as in a summary
abbrev pub counts_text : AnswerCounts → List ℕ
counts_text counts =
    counted (codes "ok") counts.ok
    ++ counted (codes "limit") counts.limit
    ++ counted (codes "resume") counts.resume
    ++ counted (codes "rpc") counts.rpc

-- a summary with these counts and this digest
abbrev pub line_with : ℕ → ℕ → AnswerCounts → List ℕ → List ℕ
line_with seed count counts digest =
    codes "work " ++ decimal seed ++ 32 ∷ decimal count ++ counts_text counts ++ codes " sha256 " ++ encode_lower digest ++ 10 ∷ []

-- What a program of a conversation comes to.
use Rattle.std.specs.Prelude.{◌≡◌, ◌≢◌, ◌⊎◌, ℕ, List, [], ◌∷◌, ◌++◌, codes, take, Option}
use Rattle.line_port.specs.Told.{Told}
use Rattle.line_port.specs.declared.faults.Faults.{Faults}
use Rattle.line_port.specs.declared.finish.Finish.{Finish}
use Rattle.live_play.specs.Answer.{Platform}
use Rattle.live_play.specs.Conversation.{status}
use Rattle.live_runner.specs.Talks.{HearsNoQuestion, TalksWithQuestions, Talks}
use Rattle.live_runner.specs.Turns.{IsEndOf}
use Rattle.ports.specs.Port.{Appends, Rose, risen}

-- ---- with words

abbrev pub usage_line : List ℕ
usage_line = codes "usage: optee_live" ++ 10 ∷ []

-- the usage line was written; or the sink counted a fault, after a part of it; or there was no memory, and nothing was
pub record IsRefused (result : ℕ) (old new : Option (List ℕ)) (faults_old faults_new : ℕ) : Type 0 where
  pub statuses : (result ≡ 2) ⊎ ((result ≡ 5) ⊎ (result ≡ 6))
  pub usage : result ≡ 2 → Appends old new usage_line
  pub write_fault : result ≡ 5 → Rose faults_old faults_new × ((n : ℕ) × Appends old new (take n usage_line))
  pub memory : result ≡ 6 → new ≡ old
  pub stays : result ≢ 5 → faults_new ≡ faults_old

-- ---- without words

-- a conversation was held, and the status is that of its end
pub record HoldsTo (on : Platform) (old new : Told) (ended : Option Finish) (result : ℕ) : Type 0 where
  pub finish : Finish
  pub status_is : result ≡ status finish
  pub shows : TalksWithQuestions on old new finish
  pub talks : HearsNoQuestion old.history new.history → Talks on old.history new.history finish
  pub ends : IsEndOf finish ended

-- 4 is answered only where the port counted a fault of reading, and 5 only where it counted one of writing; else it counted none
pub record CountsFaults (result : ℕ) (old new : Faults) : Type 0 where
  pub read_fault : result ≡ 4 → new ≡ record old { reads = risen old.reads }
  pub write_fault : result ≡ 5 → new ≡ record old { writes = risen old.writes }
  pub stays : result ≢ 4 → result ≢ 5 → new ≡ old

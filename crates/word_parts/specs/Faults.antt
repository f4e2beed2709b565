-- What the status of a word, or the end of a play, tells of the faults that the sink has counted.
use Rattle.std.specs.Prelude.{◌≡◌, ◌≢◌, ◌≤◌, ℕ, Result, Err}
use Rattle.ports.specs.Port.{Rose}
use Rattle.word_parts.specs.declared.status.Status.{Status}
use Rattle.word_parts.specs.declared.status.Status.TheVariants.{Usage, WriteFault}
use Rattle.word_parts.specs.declared.stop.Stop.{Stop}
use Rattle.word_parts.specs.declared.stop.Stop.TheVariants.{Failed}

-- of a call that does what a word asks: its status, and how many faults its sink had counted before and has counted now
pub record TellsFaults (result : Status) (old new : ℕ) : Type 0 where
  -- other words alone are answered with the usage line
  pub words : result ≡ Usage → ⊥
  -- a failed write is one that the sink has counted
  pub write_fault : result ≡ WriteFault → Rose old new
  -- the count never falls, and stays at each other status
  pub count : old ≤ new
  pub stays : result ≢ WriteFault → new ≡ old

-- of a play that ended, or stopped: how it did, and how many faults its sink had counted before and has counted now
pub record StopTellsFaults (result : Result (Unit {0}) Stop) (old new : ℕ) : Type 0 where
  -- a failed write is one that the sink has counted
  pub failed : result ≡ Err Failed → Rose old new
  -- the count never falls, and stays where no write failed
  pub count : old ≤ new
  pub stays : result ≢ Err Failed → new ≡ old

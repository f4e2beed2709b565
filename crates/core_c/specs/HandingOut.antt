-- What C is handed.
use Rattle.std.specs.Prelude.{◌≡◌, ℕ, ◌<◌, ◌≤◌, List, ◌++◌, drop, length, take}
use Rattle.word_parts.specs.Status.{number_of}
use Rattle.word_parts.specs.declared.status.Status.{Status}
use Rattle.native_tas.specs.Program.{program_drivers, program_entries}
use Rattle.core_c.specs.Running.{IsRun}
use Rattle.core_c.specs.Words.{texts_in}

-- the status of an output that is longer than its buffer
abbrev pub CUT : ℕ
CUT = 8

-- the length of the whole output is written. An output that fits stands at the front of the buffer, with the rest as it
-- was, and the number of the status is answered; of one that doesn't the front fills the buffer, and CUT is
pub record HandsOut (status : Status) (output : List ℕ) (old new : List ℕ) (written result : ℕ) : Type 0 where
  pub told : written ≡ length output
  pub number : length output ≤ length old → result ≡ number_of status
  pub whole : length output ≤ length old → new ≡ output ++ drop (length output) old
  pub cut : length old < length output → result ≡ CUT
  pub front : length old < length output → new ≡ take (length old) output

-- the top call was made over the line's words and the input, and what it came to is handed out
pub record IsAnswered (line input old new : List ℕ) (written result : ℕ) : Type 0 where
  pub status : Status
  pub output : List ℕ
  pub run : IsRun program_entries program_drivers (texts_in line) input status output
  pub handed : HandsOut status output old new written result

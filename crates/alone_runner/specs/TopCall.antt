-- What a top call promises, whatever its commands are: `run_alone` has those without threads, and the program one more.
use Rattle.std.specs.Prelude.{◌≡◌, ◌≢◌, ℕ, ◌+◌, ◌^◌, ◌≤◌, List, []}
use Rattle.ports.specs.Port.{Appends, Rose}
use Rattle.word_parts.specs.Answer.{Writes}
use Rattle.word_parts.specs.Call.{Call}
use Rattle.word_parts.specs.Input.{TakesAtMost}
use Rattle.word_parts.specs.declared.status.Status.TheVariants.{ReadFault, Usage, WriteFault}
use Rattle.alone_runner.specs.Run.{usage_line}

-- commands: which of them read an input, and what a call comes to that does one
pub record Commands : Type 1 where
  pub Command : Type 0
  pub Reads : Command → Type 0
  pub Does : Command → Call → Type 0

-- none is asked for
abbrev pub IsNone : (commands : Commands) → (commands.Command → Type 0) → Type 0
IsNone commands Asked = (command : commands.Command) → Asked command → ⊥

-- one that reads is asked for
abbrev pub IsToRead : (commands : Commands) → (commands.Command → Type 0) → Type 0
IsToRead commands Asked = (command : commands.Command) × commands.Reads command × Asked command

-- a call by which this is asked of the commands: its words may ask for one, or for none
pub record IsAnswered (commands : Commands) (Asked : commands.Command → Type 0) (call : Call) : Type 0 where
  -- ---- the words: where they ask for nothing, the usage line is written, and nothing is read
  pub usage : call.result ≡ Usage → IsNone commands Asked × Appends call.old call.new usage_line
  pub other_words : IsNone commands Asked → Writes Usage usage_line call.result call.old call.new × (call.left ≡ call.told)
  -- ---- what each command comes to
  pub does : (command : commands.Command) → Asked command → commands.Does command call
  -- ---- faults of the ports
  pub read_fault : call.result ≡ ReadFault →
      IsToRead commands Asked × Rose call.source_old call.source_new × Appends call.old call.new []
  pub write_fault : call.result ≡ WriteFault → Rose call.sink_old call.sink_new
  -- ---- reading ends, and counts of faults never fall
  pub taken : TakesAtMost (2 ^ 24 + 1) call.told call.left
  pub input_count : call.source_old ≤ call.source_new
  pub out_count : call.sink_old ≤ call.sink_new
  pub input_stays : call.result ≢ ReadFault → call.source_new ≡ call.source_old
  pub out_stays : call.result ≢ WriteFault → call.sink_new ≡ call.sink_old

-- What words ask for, and what a call comes to by that.
use Rattle.std.specs.Prelude.{◌≡◌, ◌⊎◌, ℕ, List, [], ◌∷◌, codes, map, String, string_bytes, IfSome}
use Rattle.std.specs.Global.{Global}
use Rattle.kernel_model.specs.Application.{Native}
use Rattle.trace_text.specs.declared.trace.Trace.{Trace}
use Rattle.word_parts.specs.BuiltIn.{BuiltIn}
use Rattle.word_parts.specs.Call.{Call, HasNoFault}
use Rattle.word_parts.specs.Word.{CanBeRefused, IsRefusedWhole}
use Rattle.word_parts.specs.declared.status.Status.TheVariants.{Memory}
use Rattle.alone_runner.specs.Commands.{DoesAlone}
use Rattle.alone_runner.specs.Run.{reading}
use Rattle.alone_runner.specs.TopCall.{Commands}
use Rattle.alone_runner.specs.Words.{Reads as ReadsAlone, Say}
use Rattle.alone_runner.specs.declared.command.Command.{Command}
use Rattle.alone_runner.specs.declared.command.Grammar.TheVariants.{Text}
use Rattle.trace_runner.specs.Threads.{CanBePlayedOnThreads, PrintsBlocks, RanOnThreads, ThreadStatuses}

-- a command of the top call without threads, or the one with them
pub data TopCommand : Type 0 where
  Alone : Command → TopCommand
  Threads : TopCommand

-- these texts are the word `threads`
abbrev pub SayThreads : List (List ℕ) → Type 0
SayThreads texts = texts ≡ codes "threads" ∷ []

-- words ask for what their texts say
abbrev pub Asks : List (String Global) → TopCommand → Type 0
Asks words (Alone command) = Say (map string_bytes words) command
Asks words Threads = SayThreads (map string_bytes words)

-- a trace is read to be played on threads
abbrev pub Reads : TopCommand → Type 0
Reads (Alone command) = ReadsAlone command
Reads Threads = Unit {0}

-- a trace whose processors play on threads: the input wasn't read whole, or it is too long, or it is answered by its meaning. Its play
-- is in an order of its processors' entries and exits that its places name, refused ones among them; it is true to the written kernel
pub record DoesOnThreads (natives : List Native) (call : Call) : Type 0 where
  pub ran : IfSome call.told (λ input. RanOnThreads natives input call.left call.result call.old call.new)
  pub statuses : IfSome call.told (λ input. ThreadStatuses natives input call.left call.result call.old call.new)
  -- at want of memory, for one of the threads too, nothing is written
  pub memory : call.result ≡ Memory → call.new ≡ call.old
  -- each trace within the limits is printed whole, with the status of its play, or there is want of memory
  pub complete : IfSome call.told (λ input. (trace : Trace) → CanBePlayedOnThreads natives input trace → HasNoFault call
      → PrintsBlocks natives trace call.result call.old call.new ⊎ (call.result ≡ Memory))
  -- each other text of at most 2^24 bytes is answered by its first fault, or there is want of memory
  pub refuses : IfSome call.told (λ input. CanBeRefused (reading Text natives) input → HasNoFault call
      → IsRefusedWhole (reading Text natives) input call.result call.old call.new ⊎ (call.result ≡ Memory))

-- what a call comes to: by all other commands what it does without threads
abbrev pub Does : BuiltIn → TopCommand → Call → Type 0
Does built (Alone command) call = DoesAlone built command call
Does built Threads call = DoesOnThreads built.natives call

-- these commands, beside what is built in
abbrev pub top_commands : BuiltIn → Commands
top_commands built = record { Command = TopCommand; Reads = Reads; Does = Does built }

-- From what came of a command, or of words that ask for none, to what a top call promises.
use Rattle.std.proofs.Common.{◌≡◌, ℕ, ◌+◌, ◌^◌, ◌≤◌, ◌⊎◌, inl, inr, Option, List, [], refl, subst, sym, arith}
use Rattle.std.specs.Prelude.{◌≢◌}
use Rattle.ports.specs.Port.{Appends, Moves, Rose}
use Rattle.ports.specs.PortLaws.{Moves-nil}
use Rattle.word_parts.specs.Answer.{Writes}
use Rattle.word_parts.specs.Call.{Call}
use Rattle.word_parts.specs.Faults.{TellsFaults}
use Rattle.word_parts.specs.Input.{TakesAtMost}
use Rattle.word_parts.specs.declared.status.Status.{Status}
use Rattle.word_parts.specs.declared.status.Status.TheVariants.{ReadFault, Usage, WriteFault}
use Rattle.word_parts.proofs.Answering.{writes-named}
use Rattle.alone_runner.specs.Run.{usage_line}
use Rattle.alone_runner.specs.TopCall.{Commands, IsAnswered, IsNone}

-- a source of which nothing was taken
pub took-nothing : (told left : Option (List ℕ)) → left ≡ told → TakesAtMost (2 ^ 24 + 1) told left
took-nothing told left same = ([], omega arith, subst (λ (o : Option (List ℕ)). Moves told o []) (sym same) (Moves-nil told))

-- the usage line is written by no failed read
no-read : (text : List ℕ) (result : Status) (old new : Option (List ℕ)) → Writes Usage text result old new
    → result ≡ ReadFault → ⊥
no-read text result old new (inl whole) is = let e = whole.0 in absurd cc
no-read text result old new (inr ((inl fault), part)) is = absurd cc
no-read text result old new (inr ((inr want), part)) is = absurd cc

-- nor is it named for a failed put
failed-put : {P : Type 0} → (Usage ≡ WriteFault) ⊎ P → P
failed-put (inl same) = absurd cc
failed-put (inr p) = p

module _ (commands : Commands) (call : Call) where
  -- a command was done
  pub one-asked : (command : commands.Command) → commands.Does command call
      → (call.result ≡ ReadFault → commands.Reads command × Rose call.source_old call.source_new × Appends call.old call.new [])
      → TellsFaults call.result call.sink_old call.sink_new → TakesAtMost (2 ^ 24 + 1) call.told call.left
      → call.source_old ≤ call.source_new → (call.result ≢ ReadFault → call.source_new ≡ call.source_old)
      → IsAnswered commands (λ (asked : commands.Command). asked ≡ command) call
  one-asked command does read faults taken counts stays = record {
    usage = λ is. absurd (faults.words is);
    other_words = λ none. absurd (none command refl);
    does = λ asked same. subst (λ (c : commands.Command). commands.Does c call) (sym same) does;
    read_fault = λ is. let failed = read is in ((command, failed.0, refl), failed.1, failed.2);
    write_fault = faults.write_fault;
    taken = taken;
    input_count = counts;
    out_count = faults.count;
    input_stays = stays;
    out_stays = faults.stays;
  }

  -- the usage line was written
  pub none-asked : (Asked : commands.Command → Type 0) → IsNone commands Asked
      → Writes Usage usage_line call.result call.old call.new
      → (call.result ≡ WriteFault → (Usage ≡ WriteFault) ⊎ Rose call.sink_old call.sink_new)
      → call.sink_old ≤ call.sink_new → (call.result ≢ WriteFault → call.sink_new ≡ call.sink_old)
      → call.left ≡ call.told → call.source_new ≡ call.source_old → IsAnswered commands Asked call
  none-asked Asked none line failed counts stays left source = record {
    usage = λ is. (none, (writes-named Usage usage_line call.result call.old call.new line (λ e. absurd cc) (λ e. absurd cc)).1);
    other_words = λ other. (line, left);
    does = λ command asked. absurd (none command asked);
    read_fault = λ is. absurd (no-read usage_line call.result call.old call.new line is);
    write_fault = λ is. failed-put (failed is);
    taken = took-nothing call.told call.left left;
    input_count = omega (arith, source);
    out_count = counts;
    input_stays = λ other. source;
    out_stays = stays;
  }

  -- what was asked for is the same by other means
  pub asked-so : (One Other : commands.Command → Type 0) → ((command : commands.Command) → One command → Other command)
      → ((command : commands.Command) → Other command → One command) → IsAnswered commands One call
      → IsAnswered commands Other call
  asked-so One Other to from answered = record {
    usage = λ is. let told = answered.usage is in ((λ command asked. told.0 command (from command asked)), told.1);
    other_words = λ none. answered.other_words (λ command asked. none command (to command asked));
    does = λ command asked. answered.does command (from command asked);
    read_fault = λ is.
        let failed = answered.read_fault is in
        ((failed.0.0, failed.0.1, to failed.0.0 failed.0.2), failed.1, failed.2);
    write_fault = answered.write_fault;
    taken = answered.taken;
    input_count = answered.input_count;
    out_count = answered.out_count;
    input_stays = answered.input_stays;
    out_stays = answered.out_stays;
  }

-- What words ask for, and what is answered, with threads and without.
use Rattle.std.proofs.Common.{◌≡◌, ◌↔◌, ◌∙◌, ℕ, Bool, List, [], ◌∷◌, length, get_or, refl, ap, subst, sym}
use Rattle.std.specs.Prelude.{IsTrue, String, codes, map, string_bytes}
use Rattle.std.specs.Global.{Global}
use Rattle.std.specs.Str.{bytes_eq}
use Rattle.std.proofs.lemmas.Slice.Eq.{bytes_eq-Decides}
use Rattle.word_parts.specs.BuiltIn.{BuiltIn}
use Rattle.word_parts.specs.Call.{Call}
use Rattle.alone_runner.specs.Commands.{alone_commands}
use Rattle.alone_runner.specs.TopCall.{IsAnswered, IsNone}
use Rattle.alone_runner.proofs.TopCalls.{asked-so}
use Rattle.alone_runner.specs.Words.{Asks as AsksAlone, SayNothing}
use Rattle.alone_runner.specs.declared.command.Command.{Command}
use Rattle.alone_runner.specs.declared.command.Command.TheVariants.{Serve, Record, Audit, Compare, Notify, Client, Work}
use Rattle.alone_runner.specs.declared.command.Grammar.TheVariants.{Text, Records, Assembler}
use Rattle.trace_runner.specs.Commands.{Alone, Asks, Does, SayThreads, Threads, TopCommand, top_commands}

-- a word that equals `threads` says it, and no other does
pub is_threads : (word : List ℕ) (same : Bool) → same ≡ bytes_eq word (codes "threads") → IsTrue same ↔ SayThreads (word ∷ [])
is_threads word same is = (
  λ yes. ap (λ (w : List ℕ). w ∷ []) ((bytes_eq-Decides word (codes "threads")).0 (sym is ∙ yes)),
  λ said. is ∙ (bytes_eq-Decides word (codes "threads")).1 (ap (λ (ws : List (List ℕ)). get_or ws 0 []) said),
)

-- it has a length that no other command's one word has
abbrev first_length : List (List ℕ) → ℕ
first_length texts = length (get_or texts 0 [])

abbrev count : List (List ℕ) → ℕ
count texts = length texts

says_no_other : (texts : List (List ℕ)) → SayThreads texts → SayNothing texts
says_no_other texts is (Serve Text) said = let e : 7 ≡ 3 = ap first_length (sym is ∙ said.words) in absurd cc
says_no_other texts is (Serve Records) said = let e : 7 ≡ 10 = ap first_length (sym is ∙ said.words) in absurd cc
says_no_other texts is (Serve Assembler) said = let e : 7 ≡ 3 = ap first_length (sym is ∙ said.words) in absurd cc
says_no_other texts is Record said = let e : 7 ≡ 6 = ap first_length (sym is ∙ said.words) in absurd cc
says_no_other texts is Audit said = let e : 7 ≡ 5 = ap first_length (sym is ∙ said.words) in absurd cc
says_no_other texts is (Compare subject) said = let e : 1 ≡ 2 = ap count (sym is ∙ said.words.2) in absurd cc
says_no_other texts is Notify said = let e : 7 ≡ 6 = ap first_length (sym is ∙ said.words) in absurd cc
says_no_other texts is Client said = let e : 7 ≡ 6 = ap first_length (sym is ∙ said.words) in absurd cc
says_no_other texts is (Work seed calls) said = let e : 1 ≡ 3 = ap count (sym is ∙ said.words) in absurd cc

-- who asks for threads asks for nothing else
pub threads_alone : (words : List (String Global)) (command : Command) → Asks words Threads → Asks words (Alone command) → ⊥
threads_alone words command threads asks = says_no_other (map string_bytes words) threads command asks

module _ (built : BuiltIn) (words : List (String Global)) (call : Call) where
  -- ---- without threads

  none-asked : (Asks words Threads → ⊥) → IsNone (alone_commands built) (AsksAlone words) → IsNone (top_commands built) (Asks words)
  none-asked other none (Alone command) asks = none command asks
  none-asked other none Threads asks = other asks

  does-alone : (Asks words Threads → ⊥) → IsAnswered (alone_commands built) (AsksAlone words) call
      → (command : TopCommand) → Asks words command → Does built command call
  does-alone other answered (Alone command) asks = answered.does command asks
  does-alone other answered Threads asks = absurd (other asks)

  -- what the top call without threads promises is promised
  pub answered-alone : (Asks words Threads → ⊥) → IsAnswered (alone_commands built) (AsksAlone words) call
      → IsAnswered (top_commands built) (Asks words) call
  answered-alone other answered = record {
    usage = λ is. let told = answered.usage is in (none-asked other told.0, told.1);
    other_words = λ none. answered.other_words (λ command asks. none (Alone command) asks);
    does = does-alone other answered;
    read_fault = λ is.
        let failed = answered.read_fault is in
        ((Alone failed.0.0, failed.0.1, failed.0.2), failed.1, failed.2);
    write_fault = answered.write_fault;
    taken = answered.taken;
    input_count = answered.input_count;
    out_count = answered.out_count;
    input_stays = answered.input_stays;
    out_stays = answered.out_stays;
  }

  -- ---- with threads

  only-threads : Asks words Threads → (command : TopCommand) → Asks words command → command ≡ Threads
  only-threads threads (Alone command) asks = absurd (threads_alone words command threads asks)
  only-threads threads Threads asks = refl

  pub answered-threads : Asks words Threads → IsAnswered (top_commands built) (λ (asked : TopCommand). asked ≡ Threads) call
      → IsAnswered (top_commands built) (Asks words) call
  answered-threads threads answered =
      asked-so (top_commands built) call (λ (asked : TopCommand). asked ≡ Threads) (Asks words)
      (λ command same. subst (Asks words) (sym same) threads) (only-threads threads) answered

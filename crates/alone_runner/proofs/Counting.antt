-- Counts of answers, as a play goes on.
use Rattle.std.proofs.Common.{◌≡◌, ℕ, ◌+◌, ◌<◌, ◌≤◌, Bool, true, false, List, [], ◌∷◌, ◌++◌, Some, None, refl, sym, ap, subst, ◌∙◌, arith}
use Rattle.std.specs.Prelude.{if◌then◌else◌, OnOk, Result, Ok, Err}
use Rattle.std.proofs.lemmas.List.{append_cancel_left}
use Rattle.std.proofs.lemmas.List.Sums.{sum_by_push}
use Rattle.event_journal.specs.declared.event.Event.{Event}
use Rattle.event_journal.specs.declared.event.Event.TheVariants.{Entry, Exit}
use Rattle.kernel_model.specs.Application.{Booted}
use Rattle.kernel_model.specs.Argument.{reg}
use Rattle.kernel_model.specs.Kernel.{Visit}
use Rattle.made_play.specs.Summary.{answers, answers_in, is_limit, is_ok, is_resume, is_rpc}
use Rattle.ns_ram.specs.Lane.{bytes_at}
use Rattle.ns_ram.specs.declared.read.Read.{Read}
use Rattle.play_model.specs.Line.{Line, Mem, Ret}
use Rattle.play_model.specs.Play.{Play, enters, lane_of, leaves, visit_of, with_line, with_writes}
use Rattle.play_model.proofs.Entries.{CameIn, Entered, Left, WasRefused, entered, event_made, left}
use Rattle.play_model.proofs.LinesStay.{event_prints}
use Rattle.smc_abi.specs.declared.regs.Regs.{Regs}
use Rattle.trace_text.specs.declared.item.Item.{Item}
use Rattle.trace_text.specs.declared.item.Item.TheVariants as item
use Rattle.trace_player.specs.Items.{HasExit, HasNoExit, up_to_exit}
use Rattle.trace_player.specs.Position.{position_of}
use Rattle.trace_player.specs.declared.exit.Exit.{Exit as AnyExit}
use Rattle.trace_player.specs.declared.player.Player.{Player}
use Rattle.word_parts.specs.declared.stop.Stop.{Stop}
use Rattle.alone_runner.specs.Counts.{AreBelow, AreCounts, with_answer}
use Rattle.alone_runner.specs.declared.summary.AnswerCounts.{AnswerCounts}

-- ---- a history with an event more

-- the answers that pass a test are one more, if that event does
answers-more : (history : List Event) (event : Event) (test : ℕ → Bool)
    → answers_in (history ++ event ∷ []) test
    ≡ (if answers test event then answers_in history test + 1 else answers_in history test)
answers-more history event test =
    sum_by_push (λ (e : Event). if answers test e then 1 else 0) history event ∙ by (answers test event)
  where
    by : (is : Bool) → answers_in history test + (if is then 1 else 0)
        ≡ (if is then answers_in history test + 1 else answers_in history test)
    by true = refl
    by false = omega arith

-- an entry is no answer
AreCounts-entry : (history : List Event) (cpu : ℕ) (regs : Regs) (steps : ℕ) (reads : List Read) (counts : AnswerCounts)
    → AreCounts history counts → AreCounts (history ++ Entry cpu regs steps reads ∷ []) counts
AreCounts-entry history cpu regs steps reads counts are =
    let entry = Entry cpu regs steps reads in
    record {
      ok = are.ok ∙ sym (answers-more history entry is_ok);
      limit = are.limit ∙ sym (answers-more history entry is_limit);
      resume = are.resume ∙ sym (answers-more history entry is_resume);
      rpc = are.rpc ∙ sym (answers-more history entry is_rpc);
    }

-- an exit is one
AreCounts-exit : (history : List Event) (cpu : ℕ) (told : Regs) (counts : AnswerCounts)
    → AreCounts history counts → AreCounts (history ++ Exit cpu told ∷ []) (with_answer (reg told.a 0) counts)
AreCounts-exit history cpu told counts are =
    let exit = Exit cpu told in
    let a0 = reg told.a 0 in
    record {
      ok = ap (λ (n : ℕ). if is_ok a0 then n + 1 else n) are.ok ∙ sym (answers-more history exit is_ok);
      limit = ap (λ (n : ℕ). if is_limit a0 then n + 1 else n) are.limit ∙ sym (answers-more history exit is_limit);
      resume = ap (λ (n : ℕ). if is_resume a0 then n + 1 else n) are.resume ∙ sym (answers-more history exit is_resume);
      rpc = ap (λ (n : ℕ). if is_rpc a0 then n + 1 else n) are.rpc ∙ sym (answers-more history exit is_rpc);
    }

-- ---- an item

AreCounts-entered : (boot : Booted) (visit : Visit) (play next : Play) (counts : AnswerCounts)
    → Entered boot visit play next → next.refused ≡ None → AreCounts play.history counts → AreCounts next.history counts
AreCounts-entered boot visit play next counts (CameIn reads few came) going are =
    let given : Regs = record { a = visit.regs } in
    let made = event_made boot (Entry visit.cpu given visit.steps reads) play next came in
    subst (λ (h : List Event). AreCounts h counts) (sym made.0)
    (AreCounts-entry play.history visit.cpu given visit.steps reads counts are)
AreCounts-entered boot visit play next counts (WasRefused reads much is) going are =
    let none : None ≡ Some _ = sym going ∙ ap (λ (p : Play). p.refused) (sym is) in absurd cc

-- up to its exit it answers nothing
AreCounts-up_to_exit : (boot : Booted) (play next : Play) (i : Item) (counts : AnswerCounts)
    → up_to_exit boot (position_of play) i ≡ Some next → next.refused ≡ None
    → AreCounts play.history counts → AreCounts next.history counts
AreCounts-up_to_exit boot play next (item.Smc cpu steps regs) counts e going are =
    let visit = visit_of play.history cpu steps regs in
    AreCounts-entered boot visit play next counts (entered boot visit play next e) going are
AreCounts-up_to_exit boot play next (item.Enter cpu steps regs) counts e going are =
    let visit = visit_of play.history cpu steps regs in
    AreCounts-entered boot visit play next counts (entered boot visit play next e) going are
AreCounts-up_to_exit boot play next (item.Leave cpu) counts e going are =
    let here : play ≡ next = cc in subst (λ (p : Play). AreCounts p.history counts) here are
AreCounts-up_to_exit boot play next (item.Write cpu addr bytes) counts e going are =
    let here : with_writes cpu (record { addr = addr; bytes = bytes } ∷ []) play ≡ next = cc in
    subst (λ (p : Play). AreCounts p.history counts) here are
AreCounts-up_to_exit boot play next (item.Show cpu addr len) counts e going are =
    let here : with_line (Mem cpu addr (bytes_at (lane_of play cpu) addr len)) play ≡ next = cc in
    subst (λ (p : Play). AreCounts p.history counts) here are

-- by an exit that printed these registers the history has grown by an exit with them
left-history : (boot : Booted) (went : ℕ) (play next : Play) (told : Regs) → Left boot went play next
    → next.lines ≡ play.lines ++ Ret went told.a ∷ [] → next.history ≡ play.history ++ Exit went told ∷ []
left-history boot went play next told out lines =
    let event : Event = Exit went (record { a = out.exited.regs }) in
    let gone = event_prints boot event play out.gone out.came in
    let here : play.lines ++ Ret went out.exited.regs ∷ [] ≡ next.lines =
    ap (λ (ls : List Line). ls ++ Ret went out.exited.regs ∷ []) (sym gone) ∙ ap (λ (p : Play). p.lines) out.is in
    let cut = append_cancel_left play.lines (Ret went out.exited.regs ∷ []) (Ret went told.a ∷ []) (here ∙ lines) in
    let same : out.exited.regs ≡ told.a = cc in
    ap (λ (p : Play). p.history) (sym out.is) ∙ (event_made boot event play out.gone out.came).0
    ∙ ap (λ (a : List ℕ). play.history ++ Exit went (record { a = a }) ∷ []) same

-- nobody went out by it
pub AreCounts-alone : (boot : Booted) (play : Play) (i : Item) (player : Player) (old new : List ℕ) (counts : AnswerCounts)
    → (alone : HasNoExit boot (position_of play) i player old new) → AreCounts play.history counts
    → AreCounts alone.next.history counts
AreCounts-alone boot play i player old new counts alone are =
    AreCounts-up_to_exit boot play alone.next i counts alone.comes alone.stands.machine.goes_on are

-- a processor did
pub AreCounts-out : (boot : Booted) (play : Play) (i : Item) (exit : AnyExit) (player : Player) (old new : List ℕ)
    (counts : AnswerCounts) → (out : HasExit boot (position_of play) i exit player old new) → AreCounts play.history counts
    → AreCounts out.goes.next.history (with_answer (reg exit.answer.regs.a 0) counts)
AreCounts-out boot play i exit player old new counts out are =
    let told = exit.answer in
    let next = out.goes.next in
    subst (λ (h : List Event). AreCounts h (with_answer (reg told.regs.a 0) counts))
    (sym (left-history boot told.cpu out.between next told.regs (left boot told.cpu out.between next out.goes.leaves) out.goes.line))
    (AreCounts-exit out.between.history told.cpu told.regs counts
    (AreCounts-up_to_exit boot play out.between i counts out.comes out.goes_on are))

-- whatever was told of it
pub whatever-told : {P : Type 0} (result : Result (Unit {0}) Stop) → P → OnOk result P
whatever-told (Ok done) p = p
whatever-told (Err stop) p = tt

-- ---- how many they are

below-if : (is : Bool) (n bound : ℕ) → n < bound → (if is then n + 1 else n) < bound + 1
below-if true n bound below = omega (arith, below)
below-if false n bound below = omega (arith, below)

pub AreBelow-answer : (a0 bound : ℕ) (counts : AnswerCounts) → AreBelow bound counts
    → AreBelow (bound + 1) (with_answer a0 counts)
AreBelow-answer a0 bound counts are = record {
  ok = below-if (is_ok a0) counts.ok bound are.ok;
  limit = below-if (is_limit a0) counts.limit bound are.limit;
  resume = below-if (is_resume a0) counts.resume bound are.resume;
  rpc = below-if (is_rpc a0) counts.rpc bound are.rpc;
}

pub AreBelow-more : (bound most : ℕ) (counts : AnswerCounts) → bound ≤ most → AreBelow bound counts → AreBelow most counts
AreBelow-more bound most counts few are = record {
  ok = omega (arith, few, are.ok);
  limit = omega (arith, few, are.limit);
  resume = omega (arith, few, are.resume);
  rpc = omega (arith, few, are.rpc);
}

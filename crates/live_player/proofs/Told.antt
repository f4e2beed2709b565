-- What the core of a player answers to a question is what the play of the lines says.
use Rattle.std.proofs.Common.{◌≡◌, ℕ, List, ◌++◌, Option, Some, sym, subst, ap, ap₂, ◌∙◌}
use Rattle.std.specs.Prelude.{OnOk, Result, Ok, Err}
use Rattle.std.specs.Option.{option_map}
use Rattle.event_journal.specs.declared.event.Event.{Event}
use Rattle.kernel_model.specs.Application.{Booted, booted}
use Rattle.kernel_model.specs.Kernel.{Kernel}
use Rattle.kernel_state.specs.Meaning.{booted_of, events_of, kernel_of}
use Rattle.kernel_state.specs.declared.kernel_core.Core.{Core}
use Rattle.live_play.specs.Answer.{Platform, play_at}
use Rattle.live_play.specs.Showing.{answer_at, answer_of_kernel}
use Rattle.live_play.specs.State.{text_if}
use Rattle.live_text.specs.declared.question.Question.{Question}
use Rattle.live_player.specs.Standing.{IsPlayedBehind}
use Rattle.notify_play.specs.NotifyPlay.{NotifyPlay}
use Rattle.notify_player.specs.declared.player.NotifyPlayer.{NotifyPlayer}
use Rattle.notify_text.specs.Rules.{NotifyFront}
use Rattle.ta_isa.specs.declared.boot.Boot.{Boot}

some_text : (one other : List ℕ) → Some one ≡ Some other → one ≡ other
some_text one other e = cc

-- by a play of the lines
told_in_play : (on : Platform) (lines : NotifyFront) (boot : Boot) (told : NotifyPlay) (question : Question)
    → lines.trace.boot ≡ Some boot → play_at on lines ≡ Some told
    → answer_at on lines question ≡ answer_of_kernel (booted boot on.natives) told.play.kernel told.play.history question
told_in_play on lines boot told question there play =
    let by_play = λ (b : Boot) (o : Option NotifyPlay).
    text_if (λ (told : NotifyPlay). answer_of_kernel (booted b on.natives) told.play.kernel told.play.history question) o in
    ap (λ (o : Option Boot). text_if (λ (b : Boot). by_play b (play_at on lines)) o) there ∙ ap (by_play boot) play

pub told_behind : {E : Type 0} (result : Result (Unit {0}) E) (on : Platform) (lines : NotifyFront) (player : NotifyPlayer)
    (question : Question) (old new : List ℕ) → IsPlayedBehind on lines player
    → OnOk result (option_map (λ (kernel : Kernel).
    old ++ answer_of_kernel (booted_of player.player.machine.at_work.core) kernel (events_of player.player.machine.at_work.core) question)
    (kernel_of player.player.machine.at_work.core) ≡ Some new)
    → OnOk result (new ≡ old ++ answer_at on lines question)
told_behind (Ok done) on lines player question old new behind tells =
    let machine = behind.stands.at.machine in
    let core = player.player.machine.at_work.core in
    let ask = λ (kernel : Kernel). old ++ answer_of_kernel (booted_of core) kernel (events_of core) question in
    some_text new (ask behind.told.play.kernel) (sym tells ∙ ap (option_map ask) machine.kernel)
    ∙ ap₂ (λ (boot : Booted) (events : List Event). old ++ answer_of_kernel boot behind.told.play.kernel events question) machine.booted
    machine.history
    ∙ ap (λ (l : List ℕ). old ++ l)
    (sym (told_in_play on lines behind.boot behind.told question behind.there behind.play))
told_behind (Err fault) on lines player question old new behind tells = tt

-- the core that is read is the player's
pub told_of_core : {E : Type 0} (result : Result (Unit {0}) E) (on : Platform) (lines : NotifyFront) (player : NotifyPlayer)
    (core : Core) (question : Question) (old new : List ℕ) → core ≡ player.player.machine.at_work.core → IsPlayedBehind on lines player
    → OnOk result (option_map (λ (kernel : Kernel). old ++ answer_of_kernel (booted_of core) kernel (events_of core) question)
    (kernel_of core) ≡ Some new)
    → OnOk result (new ≡ old ++ answer_at on lines question)
told_of_core result on lines player core question old new is behind tells =
    let P : Core → Type 0 = λ core. OnOk result
    (option_map (λ (kernel : Kernel). old ++ answer_of_kernel (booted_of core) kernel (events_of core) question) (kernel_of core) ≡ Some new) in
    told_behind result on lines player question old new behind (subst P is tells)

-- From what a call has read and answered to what it keeps to and shows.
use Rattle.std.proofs.Common.{◌≡◌, ℕ, List, Option, Some, None}
use Rattle.std.specs.Prelude.{IfSome}
use Rattle.ports.specs.Port.{Rose}
use Rattle.word_parts.specs.Call.{Call, KeepsOver, KeepsTo}
use Rattle.word_parts.specs.Input.{IsReadWhole}
use Rattle.word_parts.specs.Word.{Answered, HasOneMeaning, IsUnservedAs, RanAs, Word}
use Rattle.word_parts.proofs.Worded.{answer-not-read, keeps, ran-read, told-answered, unserved-answered}
use Rattle.word_parts.specs.declared.status.Status.TheVariants.{ReadFault, WriteFault}

-- what keeps to the word shows it besides
and-shown : (word : Word) (Shows : List ℕ → Call → Type 0) (call : Call) (told : Option (List ℕ))
    → ((input : List ℕ) → KeepsOver word input call → Shows input call)
    → IfSome told (λ input. KeepsOver word input call) → IfSome told (λ input. KeepsOver word input call × Shows input call)
and-shown word Shows call (Some input) shown kept = (kept, shown input kept)
and-shown word Shows call None shown kept = tt

-- where the input was read whole and answered
pub shown-read : (word : Word) (Shows : List ℕ → Call → Type 0) (call : Call) (bytes : List ℕ)
    → ((input : List ℕ) → HasOneMeaning word input)
    → ((input : List ℕ) (other : Call) → KeepsOver word input other → Shows input other)
    → (call.result ≡ WriteFault → Rose call.sink_old call.sink_new) → IsReadWhole bytes call.told call.left
    → Answered word bytes call.result call.old call.new → KeepsTo word Shows call
shown-read word Shows call bytes every shown write whole answered =
    and-shown word Shows call call.told (λ input. shown input call)
    (keeps word call.told call.left call.result call.old call.new call.source_old call.source_new call.sink_old call.sink_new every
    (λ e. absurd (answer-not-read word bytes call.result call.old call.new answered e)) write
    (ran-read (λ input. Answered word input call.result call.old call.new) call.told call.left bytes call.result call.old call.new
    whole answered))

-- where it wasn't served
pub shown-unserved : (word : Word) (Shows : List ℕ → Call → Type 0) (call : Call)
    → ((input : List ℕ) → HasOneMeaning word input)
    → ((input : List ℕ) (other : Call) → KeepsOver word input other → Shows input other)
    → (call.result ≡ ReadFault → Rose call.source_old call.source_new) → (call.result ≡ WriteFault → Rose call.sink_old call.sink_new)
    → IfSome call.told (λ input. RanAs input (IsUnservedAs word input call.result call.old call.new) call.left call.result call.old
    call.new)
    → KeepsTo word Shows call
shown-unserved word Shows call every shown read write ran =
    and-shown word Shows call call.told (λ input. shown input call)
    (keeps word call.told call.left call.result call.old call.new call.source_old call.source_new call.sink_old call.sink_new every
    read write
    (told-answered (λ input. IsUnservedAs word input call.result call.old call.new)
    (λ input. Answered word input call.result call.old call.new) call.told call.left call.result call.old call.new
    (λ input unserved. unserved-answered word input call.result call.old call.new unserved) ran))

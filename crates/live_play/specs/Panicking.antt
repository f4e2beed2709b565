-- The panic in which the call of a processor has ended that goes out, and the line that says so. This project's own.
use Rattle.std.specs.Prelude.{ℕ, List, [], ◌∷◌, ◌++◌, codes, drop, length, Option, None, slice_get}
use Rattle.std.specs.Option.{option_and_then}
use Rattle.core_at_work.specs.Panics.{panic_of}
use Rattle.kernel_model.specs.Application.{Booted, booted}
use Rattle.notify_play.specs.NotifyPlay.{NotifyPlay, comes_in}
use Rattle.notify_text.specs.Rules.{NotifyFront}
use Rattle.play_model.specs.Line.{register_text}
use Rattle.ta_isa.specs.declared.boot.Boot.{Boot}
use Rattle.trace_text.specs.declared.item.Item.{Item}
use Rattle.trace_text.specs.declared.item.Item.TheVariants as item
use Rattle.live_play.specs.Answer.{Platform, play_at}

-- by an item, behind this play: of the kernel as the processor goes out, at an SMC behind its entry
abbrev pub panic_by : Booted → NotifyPlay → Item → Option ℕ
panic_by boot before (item.Smc cpu steps regs) =
    option_and_then (λ (inside : NotifyPlay). panic_of inside.play.kernel cpu) (comes_in boot cpu steps regs before)
panic_by boot before (item.Enter cpu steps regs) = None
panic_by boot before (item.Leave cpu) = panic_of before.play.kernel cpu
panic_by boot before (item.Write cpu addr bytes) = None
panic_by boot before (item.Show cpu addr len) = None

-- the first item that those lines have more than these
abbrev pub item_between : NotifyFront → NotifyFront → Option Item
item_between before after = slice_get (drop (length before.trace.items) after.trace.items) 0

-- by that item
abbrev pub panic_between : Platform → NotifyFront → NotifyFront → Option ℕ
panic_between on before after =
    option_and_then (λ (boot : Boot).
    option_and_then (λ (told : NotifyPlay).
    option_and_then (panic_by (booted boot on.natives) told) (item_between before after))
    (play_at on before)) before.trace.boot

-- `panic CODE`, with the code in eight digits
abbrev pub panic_line : ℕ → List ℕ
panic_line code = codes "panic" ++ register_text code ++ 10 ∷ []

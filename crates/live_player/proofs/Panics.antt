-- The panic in which the call of a line's exit has ended.
use Rattle.std.proofs.Common.{◌≡◌, ℕ, List, [], ◌∷◌, length, drop, Option, Some, None, refl, sym, ap, ◌∙◌}
use Rattle.std.specs.Prelude.{slice_get}
use Rattle.std.specs.Option.{option_and_then, option_map}
use Rattle.std.proofs.Math.Seq.{drop-append_seam, drop-length}
use Rattle.core_at_work.specs.Panics.{panic_of}
use Rattle.kernel_model.specs.Application.{Booted, booted}
use Rattle.live_play.specs.Answer.{Platform, play_at}
use Rattle.live_play.specs.Panicking.{item_between, panic_between, panic_by}
use Rattle.live_player.specs.Panicking.{EndsIn}
use Rattle.live_player.specs.Standing.{IsPlayedBehind}
use Rattle.live_player.specs.declared.taken.Played.TheVariants as outcome
use Rattle.notify_text.specs.Statement.{with_statement}
use Rattle.trace_text.specs.declared.statement.Statement.TheVariants as says
use Rattle.notify_play.specs.NotifyPlay.{NotifyPlay, visit_with, with_play}
use Rattle.notify_player.specs.Playing.{position_in}
use Rattle.notify_player.specs.declared.player.NotifyPlayer.{NotifyPlayer}
use Rattle.notify_text.specs.Rules.{NotifyFront}
use Rattle.play_model.specs.Play.{Play, enters}
use Rattle.ta_isa.specs.declared.boot.Boot.{Boot}
use Rattle.trace_player.specs.Items.{panic_at_exit}
use Rattle.trace_text.specs.declared.item.Item.{Item}
use Rattle.trace_text.specs.declared.item.Item.TheVariants as item

-- ---- of an item

entered_panic : (cpu : ℕ) (told : NotifyPlay) (entered : Option Play)
    → option_and_then (λ (inside : Play). panic_of inside.kernel cpu) entered
    ≡ option_and_then (λ (inside : NotifyPlay). panic_of inside.play.kernel cpu) (option_map (with_play told) entered)
entered_panic cpu told None = refl
entered_panic cpu told (Some inside) = refl

-- what the player tells is that of the play
panic_same : (boot : Booted) (told : NotifyPlay) (i : Item) → panic_at_exit boot (position_in told) i ≡ panic_by boot told i
panic_same boot told (item.Smc cpu steps regs) = entered_panic cpu told (enters boot told.play (visit_with told cpu steps regs))
panic_same boot told (item.Enter cpu steps regs) = refl
panic_same boot told (item.Leave cpu) = refl
panic_same boot told (item.Write cpu addr bytes) = refl
panic_same boot told (item.Show cpu addr len) = refl

-- ---- in a conversation

item_added : (lines : NotifyFront) (i : Item) → item_between lines (with_statement lines (says.Item i)) ≡ Some i
item_added lines i = ap (λ (l : List Item). slice_get l 0) (drop-append_seam lines.trace.items (i ∷ []))

panic_behind : (on : Platform) (lines : NotifyFront) (i : Item) (player : NotifyPlayer) → (p : IsPlayedBehind on lines player)
    → panic_between on lines (with_statement lines (says.Item i)) ≡ panic_by (booted p.boot on.natives) p.told i
panic_behind on lines i player p =
    let after : NotifyFront = with_statement lines (says.Item i) in
    ap (option_and_then (λ (boot : Boot). option_and_then (λ (told : NotifyPlay).
    option_and_then (panic_by (booted boot on.natives) told) (item_between lines after)) (play_at on lines))) p.there
    ∙ ap (option_and_then (λ (told : NotifyPlay).
    option_and_then (panic_by (booted p.boot on.natives) told) (item_between lines after))) p.play
    ∙ ap (option_and_then (panic_by (booted p.boot on.natives) p.told)) (item_added lines i)

-- an item ends in what the player tells
pub item_ends : (on : Platform) (lines : NotifyFront) (i : Item) (player : NotifyPlayer) (panic : Option ℕ)
    → (p : IsPlayedBehind on lines player) → panic ≡ panic_at_exit (booted p.boot on.natives) (position_in p.told) i
    → EndsIn on lines (says.Item i) (outcome.Done panic)
item_ends on lines i player panic p told =
    told ∙ panic_same (booted p.boot on.natives) p.told i ∙ sym (panic_behind on lines i player p)

-- and where no item is said, no call ends
pub no_panic : (on : Platform) (before after : NotifyFront) → after.trace.items ≡ before.trace.items
    → None ≡ panic_between on before after
no_panic on before after same = sym (
    ap (λ (i : Option Item). option_and_then (λ (boot : Boot). option_and_then (λ (told : NotifyPlay).
    option_and_then (panic_by (booted boot on.natives) told) i) (play_at on before)) before.trace.boot) none
    ∙ by before.trace.boot (play_at on before))
  where
    none : item_between before after ≡ None
    none = ap (λ (l : List Item). slice_get (drop (length before.trace.items) l) 0) same
        ∙ ap (λ (l : List Item). slice_get l 0) (drop-length before.trace.items)

    by : (boot : Option Boot) (play : Option NotifyPlay)
        → option_and_then (λ (b : Boot). option_and_then (λ (told : NotifyPlay).
        option_and_then (panic_by (booted b on.natives) told) None) play) boot ≡ None
    by None play = refl
    by (Some b) None = refl
    by (Some b) (Some told) = refl

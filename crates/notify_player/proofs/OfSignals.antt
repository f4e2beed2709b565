-- The play of a trace with signals: an item up to its exit, and then what is told at that.
use Rattle.std.proofs.Common.{◌≡◌, ℕ, List, Option, None, refl, subst}
use Rattle.std.specs.Prelude.{Result, Ok, Err, IfErr}
use Rattle.std.specs.Option.{option_map}
use Rattle.kernel_model.specs.Application.{Booted}
use Rattle.notify_play.specs.NotifyPlay.{Drivers, NotifyPlay, after_item, goes_out, visit_with, with_play}
use Rattle.play_model.specs.Play.{enters}
use Rattle.trace_player.proofs.Items.{plays-alone, plays-exit, plays-stop, then-exit, then-nothing}
use Rattle.trace_player.specs.Items.{Begins, HasExit, HasNoExit, after_item_of}
use Rattle.trace_player.specs.Kinds.{IsKind}
use Rattle.trace_player.specs.declared.exit.Exit.{Exit}
use Rattle.trace_player.specs.declared.player.Player.{Player}
use Rattle.trace_text.specs.declared.item.Item.{Item}
use Rattle.trace_text.specs.declared.item.Item.TheVariants as item
use Rattle.word_parts.specs.declared.stop.Stop.{Stop}
use Rattle.word_parts.specs.declared.stop.Stop.TheVariants.{Memory}
use Rattle.notify_player.specs.Playing.{Follows, HasGone, IsPlayedTo, of_signals, position_in}
use Rattle.notify_player.specs.declared.player.NotifyPlayer.{NotifyPlayer}

is-kind : (boot : Booted) (drivers : Drivers) → IsKind (of_signals boot drivers)
is-kind boot drivers = record { over = λ told next. refl }

module _ (boot : Booted) (drivers : Drivers) (told : NotifyPlay) where
  -- its items are those of the kind
  same-item : (i : Item) → told.play.refused ≡ None → after_item_of (of_signals boot drivers) i told ≡ after_item boot drivers i told
  same-item (item.Smc cpu steps regs) going = refl
  same-item (item.Enter cpu steps regs) going =
      then-nothing (of_signals boot drivers) (option_map (with_play told) (enters boot told.play (visit_with told cpu steps regs)))
  same-item (item.Leave cpu) going = then-exit (of_signals boot drivers) cpu told going
  same-item (item.Write cpu addr bytes) going = refl
  same-item (item.Show cpu addr len) going = refl

  follows-so : (i : Item) (result : Result (Unit {0}) Stop) (player : NotifyPlayer) (old new : List ℕ) → told.play.refused ≡ None
      → Follows boot drivers told (after_item_of (of_signals boot drivers) i told) result player old new
      → Follows boot drivers told (after_item boot drivers i told) result player old new
  follows-so i result player old new going follows =
      subst (λ (o : Option NotifyPlay). Follows boot drivers told o result player old new) (same-item i going) follows

  -- ---- what follows

  -- a player that has begun an item
  abbrev pub begun : NotifyPlayer → Player → NotifyPlayer
  begun before player = record before { player = player }

  pub alone-follows : (i : Item) (before : NotifyPlayer) (player : Player) (old new : List ℕ)
      → IsPlayedTo boot drivers told before → HasNoExit boot (position_in told) i player old new
      → Follows boot drivers told (after_item boot drivers i told) (Ok tt) (begun before player) old new
  alone-follows i before player old new stands alone =
      follows-so i (Ok tt) (begun before player) old new stands.at.machine.goes_on
      (plays-alone (of_signals boot drivers) (is-kind boot drivers) (λ p. IsPlayedTo boot drivers p (begun before player)) told i
      player old new alone
      (record {
        at = alone.stands;
        count = stands.count;
        desk = stands.desk;
      }))

  pub has-gone : (i : Item) (exit : Exit) (before : NotifyPlayer) (player : Player) (old new : List ℕ)
      → IsPlayedTo boot drivers told before → (out : HasExit boot (position_in told) i exit player old new)
      → HasGone boot drivers (with_play told out.between) exit.answer (begun before player)
  has-gone i exit before player old new stands out = record {
    goes = out.goes;
    count = stands.count;
    desk = stands.desk;
  }

  -- what is told follows on that
  pub exit-follows : (i : Item) (exit : Exit) (result : Result (Unit {0}) Stop) (player : Player) (after : NotifyPlayer)
      (old middle new : List ℕ) → told.play.refused ≡ None → (out : HasExit boot (position_in told) i exit player old middle)
      → Follows boot drivers (with_play told out.between) (goes_out boot drivers exit.answer.cpu (with_play told out.between))
      result after middle new
      → IfErr result (λ stop. stop ≡ Memory) → Follows boot drivers told (after_item boot drivers i told) result after old new
  exit-follows i exit result player after old middle new going out follows memory =
      follows-so i result after old new going
      (plays-exit (of_signals boot drivers) (is-kind boot drivers) (λ p. IsPlayedTo boot drivers p after) told i exit result player
      old middle new out follows memory)

  -- it is not begun
  pub stop-follows : (i : Item) (stop : Stop) (before : NotifyPlayer) (player : Player) (old new : List ℕ)
      → IsPlayedTo boot drivers told before → Begins boot (position_in told) i (Err stop) player old new
      → Follows boot drivers told (after_item boot drivers i told) (Err stop) (begun before player) old new
  stop-follows i stop before player old new stands stopped =
      let now = begun before player in
      follows-so i (Err stop) now old new stands.at.machine.goes_on
      (plays-stop (of_signals boot drivers) (is-kind boot drivers) (λ p. IsPlayedTo boot drivers p now) told i stop player old new
      stopped (λ at. record { at = at; count = stands.count; desk = stands.desk }))

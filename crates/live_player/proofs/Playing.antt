-- An item and a signal more, played by a core that has come to the play of the lines so far.
use Rattle.std.proofs.Common.{◌≡◌, ℕ, ◌≤◌, List, [], ◌∷◌, ◌++◌, length, Option, Some, None, refl, sym, ap, subst, ◌∙◌}
use Rattle.std.specs.Prelude.{IfNone, IsTrue, Ok, Err, slice_index_or}
use Rattle.std.specs.List.{AllByRecursion}
use Rattle.std.specs.Option.{option_and_then, option_map_or}
use Rattle.std.proofs.lemmas.List.Elements.{recursion_from_All}
use Rattle.core_machine.specs.Laws.{MachinesStand}
use Rattle.event_journal.specs.Journal.{copied_bytes}
use Rattle.event_journal.specs.declared.event.Event.{Event}
use Rattle.kernel_model.specs.Application.{Booted, Native, booted}
use Rattle.kernel_state.specs.Meaning.{events_of}
use Rattle.live_play.specs.Answer.{Platform, platform_within, play_at}
use Rattle.live_play.specs.Showing.{cpu_out_by, lane_at}
use Rattle.live_play.proofs.Effects.{AreOrderly}
use Rattle.live_play.proofs.Steps.{AreWithin}
use Rattle.live_play.proofs.Talking.{item_steps, more-played, printed_by, refused_by, signal_steps}
use Rattle.live_player.specs.Standing.{IsPlayedBehind, IsWithin}
use Rattle.live_player.specs.Taking.{IsNext, PlaysOn}
use Rattle.live_player.specs.declared.taken.Taken.TheVariants as taken
use Rattle.live_player.proofs.Answering.{answers-done, answers-full}
use Rattle.live_player.proofs.Walking.{last_sound, last_turn, lines_stand}
use Rattle.notify_text.specs.Statement.{IsEmpty}
use Rattle.notify_text.specs.Statement.{with_statement}
use Rattle.trace_text.specs.declared.statement.Statement.TheVariants as says
use Rattle.notif.specs.Desk.{DeskState, IsDeskOf}
use Rattle.notif.specs.History as desk
use Rattle.notif.specs.Laws.{DesksKeepTheirDrivers}
use Rattle.notify_play.specs.NotifyPlay.{Drivers, NotifyPlay, after_item, after_step, unless_refused}
use Rattle.notify_player.specs.Playing.{Follows, IsPlayedTo}
use Rattle.notify_player.specs.Playing as playing
use Rattle.notify_player.specs.declared.player.NotifyPlayer.{NotifyPlayer}
use Rattle.notify_player.proofs.Coming.{ready, unless_none}
use Rattle.notify_text.specs.Rules.{NotifyFront}
use Rattle.notify_text.specs.Sound.{IsSoundSignal}
use Rattle.notify_text.specs.Steps.{Signals, Takes}
use Rattle.notify_text.specs.declared.notify_trace.Signal.{Signal}
use Rattle.page_set.specs.Keeping.{AreKept}
use Rattle.page_set.specs.declared.kept.KeptPages.{KeptPages}
use Rattle.play_model.specs.Line.{Line}
use Rattle.play_model.specs.Play.{lane_of}
use Rattle.play_model.proofs.Coming.{few_cpus}
use Rattle.ta_isa.specs.declared.boot.Boot.{Boot}
use Rattle.trace_player.specs.Items.{goes_out_by}
use Rattle.trace_player.specs.Playing.{CanBeTaken}
use Rattle.trace_player.proofs.Playable.{can_take}
use Rattle.trace_text.specs.Limits.{cpus_of, inside_after, outside}
use Rattle.trace_text.specs.Sound.{IsSoundItem, can_come}
use Rattle.trace_text.specs.declared.item.Item.{Item}
use Rattle.trace_text.specs.declared.item.Item.TheVariants as item
use Rattle.word_parts.specs.declared.stop.Stop.TheVariants.{Full}

-- ---- the RAM of a processor

-- in a play of the lines
pub lane_played : (on : Platform) (lines : NotifyFront) (cpu : ℕ) (told : NotifyPlay) → play_at on lines ≡ Some told
    → lane_at on lines cpu ≡ lane_of told.play cpu
lane_played on lines cpu told play =
    ap (λ (o : Option NotifyPlay). slice_index_or (option_map_or (λ (n : NotifyPlay). n.play.lanes) o []) cpu []) play

-- the processor that goes out by an item
pub out_same : (i : Item) → goes_out_by i ≡ cpu_out_by i
out_same (item.Smc cpu steps regs) = refl
out_same (item.Enter cpu steps regs) = refl
out_same (item.Leave cpu) = refl
out_same (item.Write cpu addr bytes) = refl
out_same (item.Show cpu addr len) = refl

-- ---- the lines so far

are_within : (most : ℕ) (signals : List Signal) → AllByRecursion (IsSoundSignal most) signals → AreWithin most signals
are_within most [] all = tt
are_within most (signal ∷ signals) all = (all.0.there, are_within most signals all.1)

-- without a boot there is nothing
empty_too : (lines : NotifyFront) (boot : Option Boot) → IfNone boot (IsEmpty lines)
    → IfNone boot ((lines.trace.items ≡ []) × (lines.signals ≡ []))
empty_too lines None empty = (empty.items, empty.signals)
empty_too lines (Some boot) empty = tt

pub orderly : (on : Platform) (lines : NotifyFront) → IsWithin on lines → AreOrderly lines
orderly on lines inside =
    let count : ℕ = length lines.trace.items in
    record {
      within = are_within count lines.signals (recursion_from_All (IsSoundSignal count) lines.signals inside.signals);
      no_boot = empty_too lines lines.trace.boot inside.sound.no_boot;
    }

abbrev pub copied_by : Option NotifyPlay → ℕ
copied_by o = option_map_or (λ (told : NotifyPlay). copied_bytes told.play.history) o 0

module _ (most : ℕ) (natives : List Native) (drivers : Drivers) (lines : NotifyFront) where
  abbrev pub on : Platform
  on = platform_within most natives drivers

  -- ---- an item

  abbrev pub with_item : Item → NotifyFront
  with_item i = with_statement lines (says.Item i)

  item_played : (i : Item) (player : NotifyPlayer) → IsNext on lines (says.Item i) → (p : IsPlayedBehind on lines player)
      → play_at on (with_item i) ≡ after_item (booted p.boot natives) drivers i p.told
  item_played i player next p =
      let kernel : Booted = booted p.boot natives in
      more-played on p.boot lines (with_item i) (Takes i) p.there p.there refl
      (item_steps lines i (orderly on lines next.within))
      ∙ ap (option_and_then (unless_refused (after_step kernel drivers (Takes i)))) p.play
      ∙ unless_none (after_step kernel drivers (Takes i)) p.told p.stands.at.machine.goes_on

  pub item_can : (i : Item) (player : NotifyPlayer) → MachinesStand → IsNext on lines (says.Item i)
      → IsPlayedBehind on lines player → CanBeTaken player.player.machine i
  unfolding inside_after
  item_can i player stand next p =
      let kernel : Booted = booted p.boot natives in
      let few : kernel.cpus ≤ 8 = few_cpus kernel p.boots in
      let sound : IsSoundItem kernel.cpus i =
      last_sound kernel.cpus lines.trace.items i
      (subst (λ (b : Option Boot). AllByRecursion (IsSoundItem (cpus_of b)) (with_item i).trace.items) p.there
      (recursion_from_All (IsSoundItem (cpus_of lines.trace.boot)) (with_item i).trace.items next.next.sound.items)) in
      let can : IsTrue (can_come (inside_after lines.trace.items) i) =
      last_turn outside lines.trace.items i next.next.sound.in_turn in
      let there = lines_stand most natives drivers lines p.boot p.told p.there p.boots next.within.sound p.play
      p.stands.at.machine.goes_on in
      can_take kernel p.told.play player.player.machine i stand few p.stands.at.machine
      (ready kernel drivers p.boots few i (inside_after lines.trace.items) p.told there sound can) sound

  pub desk_is : (player : NotifyPlayer) → DesksKeepTheirDrivers → IsPlayedBehind on lines player
      → IsDeskOf drivers player.desk
  desk_is player keep p = subst (λ (d : DeskState). IsDeskOf drivers d) (sym p.stands.desk) (keep drivers p.told.calls)

  -- it was played
  pub item_done : (i : Item) (before after : NotifyPlayer) (old new : List ℕ) → IsNext on lines (says.Item i)
      → (p : IsPlayedBehind on lines before)
      → Follows (booted p.boot natives) drivers p.told (after_item (booted p.boot natives) drivers i p.told) (Ok tt) after old new
      → PlaysOn on lines (says.Item i) taken.Done after old new
  item_done i before after old new next p follows =
      let is : play_at on (with_item i) ≡ Some follows.0 = item_played i before next p ∙ follows.1 in
      let prints = follows.3 in
      record {
        answers =
            answers-done on lines (with_item i) prints.0 old new (ap refused_by is ∙ follows.2.at.machine.goes_on)
            (ap printed_by is ∙ prints.1 ∙ ap (λ (l : List Line). l ++ prints.0) (sym (ap printed_by p.play))) prints.2;
        stands = record {
          boot = p.boot;
          there = p.there;
          boots = p.boots;
          told = follows.0;
          play = is;
          stands = follows.2;
        };
      }

  -- what was kept of the play before it is kept of the lines
  pub item_kept : (i : Item) (before : NotifyPlayer) (after : NotifyPlay) (cpu : ℕ) (kept : KeptPages) → IsNext on lines (says.Item i)
      → (p : IsPlayedBehind on lines before) → after_item (booted p.boot natives) drivers i p.told ≡ Some after
      → AreKept kept (lane_of p.told.play cpu) (lane_of after.play cpu)
      → AreKept kept (lane_at on lines cpu) (lane_at on (with_item i) cpu)
  item_kept i before after cpu kept next p e are =
      let is : play_at on (with_item i) ≡ Some after = item_played i before next p ∙ e in
      subst (λ (l : List ℕ). AreKept kept l (lane_at on (with_item i) cpu)) (sym (lane_played on lines cpu p.told p.play))
      (subst (λ (l : List ℕ). AreKept kept (lane_of p.told.play cpu) l) (sym (lane_played on (with_item i) cpu after is)) are)

  -- its entry was refused
  pub item_full : (i : Item) (before after : NotifyPlayer) (copied : ℕ) (old new : List ℕ) → IsNext on lines (says.Item i)
      → (p : IsPlayedBehind on lines before)
      → Follows (booted p.boot natives) drivers p.told (after_item (booted p.boot natives) drivers i p.told) (Err Full) after old new
      → copied ≡ copied_bytes (events_of after.player.machine.at_work.core)
      → PlaysOn on lines (says.Item i) (taken.Full copied) after old new
  item_full i before after copied old new next p follows read =
      let is : play_at on (with_item i) ≡ Some (playing.refused_at follows.0 p.told) = item_played i before next p ∙ follows.1 in
      record {
        answers =
            answers-full on lines (with_item i) follows.0 copied old new (ap refused_by is)
            (read ∙ ap (λ (events : List Event). copied_bytes events) follows.3.at.machine.history
            ∙ sym (ap copied_by p.play)) follows.2;
        stands = record {
          boot = p.boot;
          there = p.there;
          boots = p.boots;
          told = p.told;
          play = p.play;
          stands = follows.3;
        };
      }

  -- ---- a signal

  abbrev pub with_value : ℕ → NotifyFront
  with_value value = with_statement lines (says.Signal value)

  abbrev pub signalled : ℕ → NotifyPlay → NotifyPlay
  signalled value told = record told { calls = desk.Signal value ∷ told.calls }

  pub signal_played : (value : ℕ) (player : NotifyPlayer) → (p : IsPlayedBehind on lines player)
      → play_at on (with_value value) ≡ Some (signalled value p.told)
  signal_played value player p =
      let kernel : Booted = booted p.boot natives in
      more-played on p.boot lines (with_value value) (Signals value) p.there p.there refl (signal_steps lines value)
      ∙ ap (option_and_then (unless_refused (after_step kernel drivers (Signals value)))) p.play
      ∙ unless_none (after_step kernel drivers (Signals value)) p.told p.stands.at.machine.goes_on

  pub signal_done : (value : ℕ) (before after : NotifyPlayer) → (p : IsPlayedBehind on lines before)
      → IsPlayedTo (booted p.boot natives) drivers (signalled value p.told) after
      → IsPlayedBehind on (with_value value) after
  signal_done value before after p stands = record {
    boot = p.boot;
    there = p.there;
    boots = p.boots;
    told = signalled value p.told;
    play = signal_played value before p;
    stands = stands;
  }

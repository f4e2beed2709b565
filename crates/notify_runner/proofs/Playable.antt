-- From a sound trace with signals to a player that can play its steps, and from its play to what was told.
use Rattle.std.proofs.Common.{◌≡◌, ℕ, suc, ◌+◌, ◌<◌, Bool, List, [], ◌∷◌, ◌++◌, length, drop, get_or, Option, Some, None, refl, sym, ap, subst, ◌∙◌, add-one, append_assoc, arith}
use Rattle.std.proofs.Common.{drop-cons}
use Rattle.std.specs.Prelude.{IsSome, IsTrue, Ok, Err}
use Rattle.std.specs.List.{AllByRecursion, flat_map}
use Rattle.std.specs.Option.{option_and_then, option_map}
use Rattle.std.proofs.lemmas.Grind.{flat_map-append}
use Rattle.std.proofs.lemmas.List.{append-nil}
use Rattle.std.proofs.lemmas.List.Elements.{recursion_from_All}
use Rattle.base.specs.Zeros.{zeros}
use Rattle.trace_player.specs.Laws.{MachinesStand}
use Rattle.kernel_model.specs.Application.{Booted, IsBooted, Native, booted}
use Rattle.kernel_model.proofs.Parts.{some_of}
use Rattle.notif.specs.Desk.{DeskState, IsDeskOf}
use Rattle.notif.specs.Laws.{DesksKeepTheirDrivers}
use Rattle.notify_play.specs.NotifyPlay.{Drivers, NotifyPlay, after_item, after_steps, first_notify_play, notify_played}
use Rattle.notify_play.specs.Text.{notify_text_by, notify_text_of, notify_text_of_play}
use Rattle.notify_player.specs.Playing.{Follows, IsPlayedTo, refused_at}
use Rattle.notify_player.specs.Signalling.{behind_at, front_at, signalled_by}
use Rattle.notify_player.specs.declared.player.NotifyPlayer.{NotifyPlayer}
use Rattle.notify_text.specs.Sound.{IsSoundSignal, IsSoundTold}
use Rattle.notify_text.specs.Steps.{Step, Takes, steps_from}
use Rattle.notify_text.specs.declared.notify_trace.NotifyTrace.{NotifyTrace}
use Rattle.notify_text.specs.declared.notify_trace.Signal.{Signal}
use Rattle.play_model.specs.Line.{Line, text_of_line}
use Rattle.play_model.specs.Play.{Play, first_play}
use Rattle.play_model.proofs.Coming.{Stands, few_cpus, first_stands}
use Rattle.play_model.proofs.WholeLanes.{zeros-whole}
use Rattle.ta_isa.specs.declared.boot.Boot.{Boot}
use Rattle.trace_text.specs.Limits.{cpus_of, moved, outside}
use Rattle.trace_text.specs.Sound.{ComeInTurn, IsSoundItem, can_come}
use Rattle.trace_text.specs.declared.item.Item.{Item}
use Rattle.trace_text.specs.declared.trace.Fill.{Fill}
use Rattle.word_parts.specs.declared.stop.Stop.TheVariants.{Full}
use Rattle.trace_player.proofs.Playable.{can_take}
use Rattle.trace_player.specs.Playing.{CanBeTaken}
use Rattle.trace_player.specs.Starting.{uuids_of}
use Rattle.notify_runner.specs.Run.{refused_by, refused_in}
use Rattle.notify_runner.specs.Starting.{IsAtStart}
use Rattle.notify_player.proofs.Coming.{item_comes, items_stand, ready}
use Rattle.notify_player.proofs.Stepping.{ended-steps, item-step, signalled-play, signalled-steps, taken_by}
use Rattle.notify_runner.proofs.Printed.{steps_add}
use Rattle.notify_runner.proofs.Stepped.{AreBehind, are-behind, behind-next, signals-front, sound-behind, steps-first}

-- ---- what a play told

-- the text of a trace whose play is this
text-played : (natives : List Native) (drivers : Drivers) (told : NotifyTrace) (boot : Boot) (play : NotifyPlay)
    → told.trace.boot ≡ Some boot → notify_played natives drivers boot told ≡ Some play
    → notify_text_of natives drivers told ≡ Some (notify_text_of_play play)
text-played natives drivers told boot play is e =
    ap (notify_text_by natives drivers told) is ∙ ap (option_map notify_text_of_play) e

refused-played : (natives : List Native) (drivers : Drivers) (told : NotifyTrace) (boot : Boot) (play : NotifyPlay)
    → told.trace.boot ≡ Some boot → notify_played natives drivers boot told ≡ Some play
    → refused_in natives drivers told ≡ play.play.refused
refused-played natives drivers told boot play is e =
    ap (refused_by natives drivers told) is ∙ ap (option_and_then (λ (p : NotifyPlay). p.play.refused)) e

-- ---- steps

-- the signals in front of an item, and the item
one-step : (boot : Booted) (drivers : Drivers) (at : ℕ) (i : Item) (items : List Item) (signals : List Signal)
    (told : NotifyPlay) → AreBehind at signals → told.play.refused ≡ None
    → after_steps boot drivers (steps_from at (i ∷ items) signals) told
    ≡ option_and_then (λ (n : NotifyPlay). after_steps boot drivers (steps_from (at + 1) items (behind_at at signals)) n)
    (after_item boot drivers i (signalled_by (front_at at signals) told))
one-step boot drivers at i items signals told behind going =
    let rest = Takes i ∷ steps_from (at + 1) items (behind_at at signals) in
    let next = signalled_by (front_at at signals) told in
    ap (λ (l : List Step). after_steps boot drivers l told) (steps-first at i items signals behind)
    ∙ signalled-steps boot drivers (front_at at signals) rest told going
    ∙ item-step boot drivers i (steps_from (at + 1) items (behind_at at signals)) next
    (ap (λ (p : Play). p.refused) (signalled-play (front_at at signals) told) ∙ going)

-- the signals behind the last item
last-step : (boot : Booted) (drivers : Drivers) (at : ℕ) (signals : List Signal) (told : NotifyPlay)
    → AreBehind at signals → told.play.refused ≡ None
    → after_steps boot drivers (steps_from at [] signals) told ≡ Some (signalled_by (front_at at signals) told)
last-step boot drivers at signals told behind going =
    ap (λ (l : List Step). after_steps boot drivers l told)
    (signals-front at signals behind ∙ sym (append-nil (taken_by (front_at at signals))))
    ∙ signalled-steps boot drivers (front_at at signals) [] told going

-- behind an item that came, where its entry may have been refused
others-come : (boot : Booted) (drivers : Drivers) (steps : List Step) (next : NotifyPlay) (refused : Option ℕ)
    → next.play.refused ≡ refused → (next.play.refused ≡ None → IsSome (after_steps boot drivers steps next))
    → IsSome (after_steps boot drivers steps next)
others-come boot drivers steps next None is rest = rest is
others-come boot drivers steps next (Some more) is rest =
    subst IsSome (sym (ended-steps boot drivers steps next more is)) refl

-- all come
steps-come : (boot : Booted) (drivers : Drivers) (at : ℕ) (items : List Item) (signals : List Signal)
    (inside : List Bool) (before : NotifyPlay) → IsBooted boot → AreBehind at signals
    → AllByRecursion (IsSoundItem boot.cpus) items → ComeInTurn inside items → before.play.refused ≡ None
    → Stands boot inside before.play → IsSome (after_steps boot drivers (steps_from at items signals) before)
steps-come boot drivers at [] signals inside before boots behind sound turn going stands =
    subst IsSome (sym (last-step boot drivers at signals before behind going)) refl
steps-come boot drivers at (first ∷ items) signals inside before boots behind sound turn going stands =
    let few = few_cpus boot boots in
    let next = signalled_by (front_at at signals) before in
    let same = signalled-play (front_at at signals) before in
    let there = subst (Stands boot inside) (sym same) stands in
    let onward = ap (λ (p : Play). p.refused) same ∙ going in
    let here = some_of (after_item boot drivers first next)
    (item_comes boot drivers boots few first inside next there sound.0 turn.0) in
    subst IsSome (sym (one-step boot drivers at first items signals before behind going
    ∙ ap (λ (o : Option NotifyPlay). option_and_then (λ (n : NotifyPlay).
    after_steps boot drivers (steps_from (at + 1) items (behind_at at signals)) n) o) here.1))
    (others-come boot drivers (steps_from (at + 1) items (behind_at at signals)) here.0 here.0.play.refused refl (λ still.
    steps-come boot drivers (at + 1) items (behind_at at signals) (moved inside first) here.0 boots
    (behind-next at signals behind) sound.1 turn.1 still
    (items_stand boot drivers boots few first inside next here.0 sound.0 turn.0 there onward here.1 still)))

-- ---- items so far

-- the steps before so many items were played, on a core of the trace's boot, and this is the text of their lines
pub record Playing (natives : List Native) (drivers : Drivers) (told : NotifyTrace) (items : List Item) (at : ℕ)
    (signals : List Signal) (player : NotifyPlayer) (text : List ℕ) : Type 0 where
  pub boot : Boot
  pub is : told.trace.boot ≡ Some boot
  pub boots : IsBooted (booted boot natives)
  pub now : NotifyPlay
  pub stands : IsPlayedTo (booted boot natives) drivers now player
  pub whole : notify_played natives drivers boot told
      ≡ after_steps (booted boot natives) drivers (steps_from at (drop at items) signals) now
  pub printed : text ≡ notify_text_of_play now
  pub behind : AreBehind at signals
  pub values : AllByRecursion (IsSoundSignal (length items)) signals
  pub inside : List Bool
  pub turn : ComeInTurn inside (drop at items)
  pub each : AllByRecursion (IsSoundItem boot.cpus) (drop at items)
  pub within : Stands (booted boot natives) inside now.play

-- the signals in front of an item were taken besides
pub record Taking (natives : List Native) (drivers : Drivers) (told : NotifyTrace) (items : List Item) (at : ℕ) (i : Item)
    (signals : List Signal) (player : NotifyPlayer) (text : List ℕ) : Type 0 where
  pub boot : Boot
  pub is : told.trace.boot ≡ Some boot
  pub boots : IsBooted (booted boot natives)
  pub now : NotifyPlay
  pub stands : IsPlayedTo (booted boot natives) drivers now player
  pub whole : notify_played natives drivers boot told
      ≡ option_and_then (λ (n : NotifyPlay).
      after_steps (booted boot natives) drivers (steps_from (at + 1) (drop (at + 1) items) signals) n)
      (after_item (booted boot natives) drivers i now)
  pub printed : text ≡ notify_text_of_play now
  pub behind : AreBehind (at + 1) signals
  pub values : AllByRecursion (IsSoundSignal (length items)) signals
  pub inside : List Bool
  pub can : IsTrue (can_come inside i)
  pub turn : ComeInTurn (moved inside i) (drop (at + 1) items)
  pub sound : IsSoundItem boot.cpus i
  pub each : AllByRecursion (IsSoundItem boot.cpus) (drop (at + 1) items)
  pub within : Stands (booted boot natives) inside now.play

-- a player at the start
pub playing-first : (natives : List Native) (drivers : Drivers) (told : NotifyTrace) (items : List Item)
    (signals : List Signal) (player : NotifyPlayer) → IsAtStart natives drivers told items signals player
    → Playing natives drivers told items 0 signals player []
playing-first natives drivers told items signals player start =
    subst (λ (l : List Item). Playing natives drivers told l 0 signals player []) (sym start.items_are)
    (subst (λ (l : List Signal). Playing natives drivers told told.trace.items 0 l player []) (sym start.signals_are)
    (record {
      boot = start.boot;
      is = start.has_boot;
      boots = start.boots;
      now = first_notify_play on (first_play (zeros 0x400000) on told.trace.fills);
      stands = start.stands;
      whole = refl;
      printed = refl;
      behind = are-behind 0 told.signals (λ k d lt. omega arith) start.sound.in_order;
      values = recursion_from_All (IsSoundSignal (length told.trace.items)) told.signals start.sound.signals;
      inside = outside;
      turn = start.sound.trace.in_turn;
      each =
          subst (λ (b : Option Boot). AllByRecursion (IsSoundItem (cpus_of b)) told.trace.items) start.has_boot
          (recursion_from_All (IsSoundItem (cpus_of told.trace.boot)) told.trace.items start.sound.trace.items);
      within = first_stands (zeros 0x400000) on told.trace.fills zeros-whole;
    }))
  where
    on : Booted
    on = booted start.boot natives

-- a first player stands before the steps of its trace
pub at-start : (natives : List Native) (drivers : Drivers) (told : NotifyTrace) (boot : Boot) (fills : List Fill)
    (items : List Item) (signals : List Signal) (player : NotifyPlayer) → IsSoundTold (uuids_of natives) told
    → told.trace.boot ≡ Some boot → fills ≡ told.trace.fills → items ≡ told.trace.items → signals ≡ told.signals
    → IsBooted (booted boot natives)
    → IsPlayedTo (booted boot natives) drivers
    (first_notify_play (booted boot natives) (first_play (zeros 0x400000) (booted boot natives) fills)) player
    → IsAtStart natives drivers told items signals player
at-start natives drivers told boot fills items signals player sound is filled_by items_are signals_are boots stands = record {
  sound = sound;
  items_are = items_are;
  signals_are = signals_are;
  boot = boot;
  has_boot = is;
  boots = boots;
  stands =
      subst (λ (fs : List Fill). IsPlayedTo (booted boot natives) drivers
      (first_notify_play (booted boot natives) (first_play (zeros 0x400000) (booted boot natives) fs)) player) filled_by
      stands;
}

-- the items that are left, of which this is the first
left-from : (items : List Item) (at : ℕ) (i : Item) → at < length items → i ≡ get_or items at i
    → drop at items ≡ i ∷ drop (at + 1) items
left-from items at i lt is =
    drop-cons items at i lt ∙ ap (λ (x : Item). x ∷ drop (suc at) items) (sym is)
    ∙ ap (λ (k : ℕ). i ∷ drop k items) (sym (add-one at))

-- the signals in front of the next item are taken
pub playing-signalled : (natives : List Native) (drivers : Drivers) (told : NotifyTrace) (items : List Item) (at : ℕ)
    (i : Item) (signals : List Signal) (before after : NotifyPlayer) (text : List ℕ) → at < length items
    → i ≡ get_or items at i → Playing natives drivers told items at signals before text
    → ((boot : Booted) (ds : Drivers) (now : NotifyPlay) → IsPlayedTo boot ds now before
    → IsPlayedTo boot ds (signalled_by (front_at at signals) now) after)
    → Taking natives drivers told items at i (behind_at at signals) after text
playing-signalled natives drivers told items at i signals before after text lt is p takes =
    let on = booted p.boot natives in
    let left = left-from items at i lt is in
    let same = signalled-play (front_at at signals) p.now in
    let turn = subst (ComeInTurn p.inside) left p.turn in
    let each = subst (AllByRecursion (IsSoundItem p.boot.cpus)) left p.each in
    record {
      boot = p.boot;
      is = p.is;
      boots = p.boots;
      now = signalled_by (front_at at signals) p.now;
      stands = takes on drivers p.now p.stands;
      whole =
          p.whole
          ∙ ap (λ (l : List Item). after_steps on drivers (steps_from at l signals) p.now) left
          ∙ one-step on drivers at i (drop (at + 1) items) signals p.now p.behind p.stands.at.machine.goes_on;
      printed = p.printed ∙ ap (λ (play : Play). flat_map text_of_line play.lines) (sym same);
      behind = behind-next at signals p.behind;
      values = sound-behind (length items) at signals p.values;
      inside = p.inside;
      can = turn.0;
      turn = turn.1;
      sound = each.0;
      each = each.1;
      within = subst (Stands on p.inside) (sym same) p.within;
    }

-- the player can take the item
pub taking-takes : (natives : List Native) (drivers : Drivers) (told : NotifyTrace) (items : List Item) (at : ℕ) (i : Item)
    (signals : List Signal) (player : NotifyPlayer) (text : List ℕ) → MachinesStand
    → Taking natives drivers told items at i signals player text → CanBeTaken player.player.machine i
taking-takes natives drivers told items at i signals player text stand t =
    let on = booted t.boot natives in
    let few = few_cpus on t.boots in
    can_take on t.now.play player.player.machine i stand few t.stands.at.machine
    (ready on drivers t.boots few i t.inside t.now t.within t.sound t.can) t.sound

pub taking-desk : (natives : List Native) (drivers : Drivers) (told : NotifyTrace) (items : List Item) (at : ℕ) (i : Item)
    (signals : List Signal) (player : NotifyPlayer) (text : List ℕ) → DesksKeepTheirDrivers
    → Taking natives drivers told items at i signals player text → IsDeskOf drivers player.desk
taking-desk natives drivers told items at i signals player text keep t =
    subst (λ (d : DeskState). IsDeskOf drivers d) (sym t.stands.desk) (keep drivers t.now.calls)

-- what an item prints behind a part of the text it prints behind all of it
text-more : (now next : NotifyPlay) (lines : List Line) (text old new : List ℕ) → text ++ old ≡ notify_text_of_play now
    → next.play.lines ≡ now.play.lines ++ lines → new ≡ old ++ flat_map text_of_line lines
    → text ++ new ≡ notify_text_of_play next
text-more now next lines text old new printed more put =
    ap (λ (t : List ℕ). text ++ t) put
    ∙ sym (append_assoc text old (flat_map text_of_line lines))
    ∙ ap (λ (t : List ℕ). t ++ flat_map text_of_line lines) printed
    ∙ sym (flat_map-append text_of_line now.play.lines lines)
    ∙ ap (flat_map text_of_line) (sym more)

-- an item was played
pub taking-more : (natives : List Native) (drivers : Drivers) (told : NotifyTrace) (items : List Item) (at : ℕ) (i : Item)
    (signals : List Signal) (before after : NotifyPlayer) (text old new : List ℕ)
    → Taking natives drivers told items at i signals before (text ++ old)
    → ((boot : Booted) (now : NotifyPlay) → IsPlayedTo boot drivers now before
    → Follows boot drivers now (after_item boot drivers i now) (Ok tt) after old new)
    → Playing natives drivers told items (at + 1) signals after (text ++ new)
taking-more natives drivers told items at i signals before after text old new t follows =
    let on = booted t.boot natives in
    let next = follows on t.now t.stands in
    let prints = next.3 in
    record {
      boot = t.boot;
      is = t.is;
      boots = t.boots;
      now = next.0;
      stands = next.2;
      whole =
          t.whole
          ∙ ap (λ (o : Option NotifyPlay). option_and_then (λ (n : NotifyPlay).
          after_steps on drivers (steps_from (at + 1) (drop (at + 1) items) signals) n) o) next.1;
      printed = text-more t.now next.0 prints.0 text old new t.printed prints.1 prints.2;
      behind = t.behind;
      values = t.values;
      inside = moved t.inside i;
      turn = t.turn;
      each = t.each;
      within =
          items_stand on drivers t.boots (few_cpus on t.boots) i t.inside t.now next.0 t.sound t.can t.within
          t.stands.at.machine.goes_on next.1 next.2.at.machine.goes_on;
    }

-- an item whose entry is refused ends the play
pub taking-refused : (natives : List Native) (drivers : Drivers) (told : NotifyTrace) (items : List Item) (at : ℕ) (i : Item)
    (signals : List Signal) (before after : NotifyPlayer) (text old new : List ℕ)
    → Taking natives drivers told items at i signals before text
    → ((boot : Booted) (now : NotifyPlay) → IsPlayedTo boot drivers now before
    → Follows boot drivers now (after_item boot drivers i now) (Err Full) after old new)
    → IsSome (refused_in natives drivers told) × (notify_text_of natives drivers told ≡ Some text) × (new ≡ old)
taking-refused natives drivers told items at i signals before after text old new t follows =
    let on = booted t.boot natives in
    let f = follows on t.now t.stands in
    let ended = refused_at f.0 t.now in
    let steps = steps_from (at + 1) (drop (at + 1) items) signals in
    let final : notify_played natives drivers t.boot told ≡ Some ended =
    t.whole
    ∙ ap (λ (o : Option NotifyPlay). option_and_then (λ (n : NotifyPlay). after_steps on drivers steps n) o) f.1
    ∙ ended-steps on drivers steps ended f.0 refl in (
      subst IsSome (sym (refused-played natives drivers told t.boot ended t.is final)) refl,
      text-played natives drivers told t.boot ended t.is final ∙ ap (λ (x : List ℕ). Some x) (sym t.printed),
      f.2,
    )

there : {A : Type 0} (o : Option A) → IsSome o → (x : A) × (o ≡ Some x)
there o some = some_of o some

-- the text so far is a part of the trace's
pub playing-part : (natives : List Native) (drivers : Drivers) (told : NotifyTrace) (items : List Item) (at : ℕ)
    (signals : List Signal) (player : NotifyPlayer) (text : List ℕ)
    → Playing natives drivers told items at signals player text
    → (rest : List ℕ) × (notify_text_of natives drivers told ≡ Some (text ++ rest))
playing-part natives drivers told items at signals player text p =
    let on = booted p.boot natives in
    let steps = steps_from at (drop at items) signals in
    let final = there (after_steps on drivers steps p.now)
    (steps-come on drivers at (drop at items) signals p.inside p.now p.boots p.behind p.each p.turn
    p.stands.at.machine.goes_on p.within) in
    let more = steps_add on drivers steps p.now final.0 final.1 in (
      flat_map text_of_line more.0,
      text-played natives drivers told p.boot final.0 p.is (p.whole ∙ final.1)
          ∙ ap (λ (x : List ℕ). Some x)
          (ap (flat_map text_of_line) more.1 ∙ flat_map-append text_of_line p.now.play.lines more.0
          ∙ ap (λ (x : List ℕ). x ++ flat_map text_of_line more.0) (sym p.printed)),
    )

-- so it is where the next signals were taken
pub taking-part : (natives : List Native) (drivers : Drivers) (told : NotifyTrace) (items : List Item) (at : ℕ) (i : Item)
    (signals : List Signal) (player : NotifyPlayer) (text : List ℕ)
    → Taking natives drivers told items at i signals player text
    → (rest : List ℕ) × (notify_text_of natives drivers told ≡ Some (text ++ rest))
taking-part natives drivers told items at i signals player text t =
    let on = booted t.boot natives in
    let few = few_cpus on t.boots in
    let steps = steps_from (at + 1) (drop (at + 1) items) signals in
    let here = there (after_item on drivers i t.now)
    (item_comes on drivers t.boots few i t.inside t.now t.within t.sound t.can) in
    let final = there (after_steps on drivers steps here.0)
    (others-come on drivers steps here.0 here.0.play.refused refl (λ still.
    steps-come on drivers (at + 1) (drop (at + 1) items) signals (moved t.inside i) here.0 t.boots t.behind t.each t.turn
    still (items_stand on drivers t.boots few i t.inside t.now here.0 t.sound t.can t.within t.stands.at.machine.goes_on
    here.1 still))) in
    let whole : after_steps on drivers (Takes i ∷ steps) t.now ≡ Some final.0 =
    item-step on drivers i steps t.now t.stands.at.machine.goes_on
    ∙ ap (λ (o : Option NotifyPlay). option_and_then (λ (n : NotifyPlay). after_steps on drivers steps n) o) here.1
    ∙ final.1 in
    let more = steps_add on drivers (Takes i ∷ steps) t.now final.0 whole in (
      flat_map text_of_line more.0,
      text-played natives drivers told t.boot final.0 t.is
          (t.whole
          ∙ ap (λ (o : Option NotifyPlay). option_and_then (λ (n : NotifyPlay). after_steps on drivers steps n) o) here.1
          ∙ final.1)
          ∙ ap (λ (x : List ℕ). Some x)
          (ap (flat_map text_of_line) more.1 ∙ flat_map-append text_of_line t.now.play.lines more.0
          ∙ ap (λ (x : List ℕ). x ++ flat_map text_of_line more.0) (sym t.printed)),
    )

-- the last item was played, and the signals behind it print nothing
pub playing-ended : (natives : List Native) (drivers : Drivers) (told : NotifyTrace) (items : List Item) (at : ℕ)
    (signals : List Signal) (player : NotifyPlayer) (text : List ℕ) → drop at items ≡ []
    → Playing natives drivers told items at signals player text
    → (refused_in natives drivers told ≡ None) × (notify_text_of natives drivers told ≡ Some text)
playing-ended natives drivers told items at signals player text all p =
    let on = booted p.boot natives in
    let end = signalled_by (front_at at signals) p.now in
    let same = signalled-play (front_at at signals) p.now in
    let going = p.stands.at.machine.goes_on in
    let final : notify_played natives drivers p.boot told ≡ Some end =
    p.whole ∙ ap (λ (l : List Item). after_steps on drivers (steps_from at l signals) p.now) all
    ∙ last-step on drivers at signals p.now p.behind going in (
      refused-played natives drivers told p.boot end p.is final ∙ ap (λ (q : Play). q.refused) same ∙ going,
      text-played natives drivers told p.boot end p.is final
          ∙ ap (λ (x : List ℕ). Some x)
          (ap (λ (q : Play). flat_map text_of_line q.lines) same ∙ sym p.printed),
    )

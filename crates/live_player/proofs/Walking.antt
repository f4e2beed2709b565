-- Who is inside behind the lines that count, and that what comes next can be taken.
use Rattle.std.proofs.Common.{◌≡◌, ℕ, ◌+◌, Bool, List, [], ◌∷◌, ◌++◌, Option, Some, None, refl, sym, ap, subst, ◌∙◌, append-nil}
use Rattle.std.specs.Prelude.{◌==◌, IsTrue, filter}
use Rattle.std.specs.List.{AllByRecursion, fold}
use Rattle.std.specs.Option.{option_and_then}
use Rattle.std.proofs.lemmas.List.Elements.{recursion_from_All}
use Rattle.std.proofs.lemmas.Option.{option_and_then_some}
use Rattle.base.specs.Zeros.{zeros}
use Rattle.kernel_model.specs.Application.{Booted, IsBooted, Native, booted}
use Rattle.live_play.specs.Answer.{platform_within, play_at, uuids_in}
use Rattle.live_play.proofs.Talking.{with_boot}
use Rattle.live_player.specs.Standing.{keeping}
use Rattle.live_text.specs.Sound.{AreSound}
use Rattle.notify_play.specs.NotifyPlay.{Drivers, NotifyPlay, after_item, after_steps, first_notify_play}
use Rattle.notify_player.specs.Signalling.{signalled_by}
use Rattle.notify_player.proofs.Coming.{items_stand}
use Rattle.notify_player.proofs.Stepping.{ended-steps, item-step, signalled-play, signalled-steps, taken_by}
use Rattle.notify_text.specs.Rules.{NotifyFront}
use Rattle.notify_text.specs.Steps.{Step, Takes, steps_from}
use Rattle.notify_text.specs.declared.notify_trace.Signal.{Signal}
use Rattle.play_model.specs.Play.{Play, first_play_within}
use Rattle.play_model.proofs.Coming.{Stands, few_cpus, first_stands}
use Rattle.play_model.proofs.WholeLanes.{zeros-whole}
use Rattle.ta_isa.specs.declared.boot.Boot.{Boot}
use Rattle.trace_text.specs.Limits.{cpus_of, inside_after, moved, outside}
use Rattle.trace_text.specs.Sound.{ComeInTurn, IsSoundItem, can_come}
use Rattle.trace_text.specs.declared.item.Item.{Item}
use Rattle.trace_text.specs.declared.trace.Fill.{Fill}

-- ---- steps

-- what no entry has ended behind these steps it had not ended before them
went_on_by : (boot : Booted) (drivers : Drivers) (steps : List Step) (next after : NotifyPlay) (refused : Option ℕ)
    → next.play.refused ≡ refused → after_steps boot drivers steps next ≡ Some after → after.play.refused ≡ None
    → next.play.refused ≡ None
went_on_by boot drivers steps next after None is e still = is
went_on_by boot drivers steps next after (Some more) is e still =
    let here : Some next ≡ Some after = sym (ended-steps boot drivers steps next more is) ∙ e in
    let same : next ≡ after = cc in
    let no : None ≡ Some more = sym still ∙ ap (λ (n : NotifyPlay). n.play.refused) (sym same) ∙ is in
    absurd cc

walk : (boot : Booted) (drivers : Drivers) (at : ℕ) (items : List Item) (signals : List Signal) (inside : List Bool)
    (before after : NotifyPlay) → IsBooted boot → AllByRecursion (IsSoundItem boot.cpus) items → ComeInTurn inside items
    → before.play.refused ≡ None → Stands boot inside before.play
    → after_steps boot drivers (steps_from at items signals) before ≡ Some after → after.play.refused ≡ None
    → Stands boot (fold moved inside items) after.play
walk boot drivers at [] signals inside before after boots sound turn going stands e still =
    let here : List Signal = filter (λ (s : Signal). s.at == at) signals in
    let last : Some (signalled_by here before) ≡ Some after =
    sym (signalled-steps boot drivers here [] before going)
    ∙ ap (λ (l : List Step). after_steps boot drivers l before) (append-nil (taken_by here)) ∙ e in
    let same : signalled_by here before ≡ after = cc in
    subst (Stands boot inside) (sym (signalled-play here before) ∙ ap (λ (n : NotifyPlay). n.play) same) stands
walk boot drivers at (i ∷ items) signals inside before after boots sound turn going stands e still =
    let here : List Signal = filter (λ (s : Signal). s.at == at) signals in
    let rest : List Step = steps_from (at + 1) items signals in
    let next : NotifyPlay = signalled_by here before in
    let same : next.play ≡ before.play = signalled-play here before in
    let onward : next.play.refused ≡ None = ap (λ (p : Play). p.refused) same ∙ going in
    let there : Stands boot inside next.play = subst (Stands boot inside) (sym same) stands in
    let steps : option_and_then (λ (n : NotifyPlay). after_steps boot drivers rest n) (after_item boot drivers i next)
    ≡ Some after =
    sym (item-step boot drivers i rest next onward)
    ∙ sym (signalled-steps boot drivers here (Takes i ∷ rest) before going) ∙ e in
    option_and_then_some (λ (n : NotifyPlay). after_steps boot drivers rest n) (after_item boot drivers i next) after steps
    (λ (third : NotifyPlay) came behind.
    let going_on : third.play.refused ≡ None =
    went_on_by boot drivers rest third after third.play.refused refl behind still in
    walk boot drivers (at + 1) items signals (moved inside i) third after boots sound.1 turn.1 going_on
    (items_stand boot drivers boots (few_cpus boot boots) i inside next third sound.0 turn.0 there onward came going_on)
    behind still)

-- ---- lines

-- before the first line, however much entries may read
first_stands_within : (most : ℕ) (boot : Booted) (fills : List Fill)
    → Stands boot outside (first_play_within most (zeros 0x400000) boot fills)
first_stands_within most boot fills =
    let stands = first_stands (zeros 0x400000) boot fills zeros-whole in
    record { comes = stands.comes; eight = stands.eight; tells = stands.tells; lanes = stands.lanes }

-- each processor is inside in the play where it is by the lines
pub lines_stand : (most : ℕ) (natives : List Native) (drivers : Drivers) (lines : NotifyFront) (boot : Boot) (told : NotifyPlay)
    → lines.trace.boot ≡ Some boot → IsBooted (booted boot natives)
    → AreSound (uuids_in (platform_within most natives drivers)) (keeping lines) → play_at (platform_within most natives drivers) lines ≡ Some told
    → told.play.refused ≡ None → Stands (booted boot natives) (inside_after lines.trace.items) told.play
unfolding inside_after
lines_stand most natives drivers lines boot told there boots sound play going =
    let on : Booted = booted boot natives in
    let items : AllByRecursion (IsSoundItem (cpus_of lines.trace.boot)) lines.trace.items =
    recursion_from_All (IsSoundItem (cpus_of lines.trace.boot)) lines.trace.items sound.items in
    walk on drivers 0 lines.trace.items lines.signals outside
    (first_notify_play on (first_play_within most (zeros 0x400000) on lines.trace.fills)) told boots
    (subst (λ (b : Option Boot). AllByRecursion (IsSoundItem (cpus_of b)) lines.trace.items) there items)
    sound.in_turn refl (first_stands_within most on lines.trace.fills)
    (sym (with_boot (platform_within most natives drivers) boot lines there) ∙ play) going

-- ---- the next item

pub last_sound : (cpus : ℕ) (items : List Item) (i : Item) → AllByRecursion (IsSoundItem cpus) (items ++ i ∷ [])
    → IsSoundItem cpus i
last_sound cpus [] i all = all.0
last_sound cpus (first ∷ items) i all = last_sound cpus items i all.1

pub last_turn : (inside : List Bool) (items : List Item) (i : Item) → ComeInTurn inside (items ++ i ∷ [])
    → IsTrue (can_come (fold moved inside items) i)
last_turn inside [] i turn = turn.0
last_turn inside (first ∷ items) i turn = last_turn (moved inside first) items i turn.1

-- While no entry is refused, the same is shown where entries may read more: so it is whether history is off or not.
use Rattle.std.proofs.Common.{◌≡◌, ℕ, ◌^◌, ◌≤◌, Bool, true, false, List, [], ◌∷◌, ◌++◌, length, drop, Option, Some, None, refl, sym, ap, ◌∙◌, arith}
use Rattle.std.specs.Prelude.{◌&&◌, filter, if◌then◌else◌, is_none, not, slice_get, slice_index_or}
use Rattle.std.specs.List.{flat_map}
use Rattle.std.specs.Option.{option_and_then, option_map, option_map_or}
use Rattle.core_at_work.specs.Panics.{panic_of}
use Rattle.kernel_model.specs.Application.{Booted, booted}
use Rattle.kernel_model.specs.Kernel.{Visit}
use Rattle.kernel_model.proofs.Parts.{some_of}
use Rattle.line_port.specs.History.{Input}
use Rattle.line_port.specs.History as heard
use Rattle.live_text.specs.Asking.{question_of, question_rules}
use Rattle.live_text.specs.Scene.{scene_of}
use Rattle.live_text.specs.declared.question.Question.{Question}
use Rattle.live_text.specs.declared.question.QuestionKind.{QuestionKind}
use Rattle.live_text.specs.declared.question.QuestionKind.TheVariants as word_of
use Rattle.notify_play.specs.NotifyPlay.{Drivers, NotifyPlay, after_item, after_step, unless_refused, visit_with}
use Rattle.notify_text.specs.Rules.{NotifyFront, after_line, no_lines, notify_trace_in}
use Rattle.notify_text.specs.Steps.{Takes, steps_of}
use Rattle.play_model.specs.Line.{Line, Mem, Ret, text_of_line}
use Rattle.play_model.specs.Play.{Play, enters}
use Rattle.ta_isa.specs.declared.boot.Boot.{Boot}
use Rattle.text_lines.specs.Words.{words_of}
use Rattle.trace_text.specs.Limits.{first_broken}
use Rattle.trace_text.specs.declared.fault.BadKind.{BadKind}
use Rattle.trace_text.specs.declared.item.Item.{Item}
use Rattle.trace_text.specs.declared.item.Item.TheVariants as item
use Rattle.live_play.specs.Answer.{Answer, Bad, Done, Platform, after_heard, answer, fault_at, is_done, play_at, refused_at, text_of_answer, text_of_ending, uuids_in, with_heard}
use Rattle.live_play.specs.Changes.{changes, text_of_changes}
use Rattle.live_play.specs.Conversation.{after_all, answers, said_to}
use Rattle.live_play.specs.Panicking.{item_between, panic_between, panic_by, panic_line}
use Rattle.live_play.specs.Showing.{Position, answer_at, answer_of_kernel, first_position, kind_asked_by, lane_at, line_of, position_after, position_asked, position_behind, shown_to, text_behind, turns_history, watched_answer, watched_line, watching_after, within}
use Rattle.live_play.specs.ShowingLaws.{MoreBytesChangeNothing, is_full, is_plain, keeps_history, refuses_none}
use Rattle.live_play.specs.State.{text_if}
use Rattle.live_play.proofs.Asked.{after_question, asked-same, is_other, other_shown, shown_by}
use Rattle.live_play.proofs.Copying.{added_item, added_none}
use Rattle.live_play.proofs.Effects.{AddsItem, AddsSignal, Effect, Heads, Stays, effect}
use Rattle.live_play.proofs.Forgetting.{history_off_forgets_alone, turning_asks}
use Rattle.live_play.proofs.Limits.{comes_by, comes_wide, enters_wide, steps_limit, visited, wide}
use Rattle.live_play.proofs.Talking.{IsStage, answer_by, answer_unless, counted, item_steps, more-played, refused_by, stage-first, start, talked, with_boot}
use Rattle.live_play.proofs.Widening.{answer_wide, played_wide, same}

-- ---- a panic

-- of the call of a processor that has come in
abbrev panic_inside : ℕ → Option NotifyPlay → Option ℕ
panic_inside cpu o = option_and_then (λ (inside : NotifyPlay). panic_of inside.play.kernel cpu) o

inside_wide : (more cpu : ℕ) (o : Option NotifyPlay) → panic_inside cpu (option_map (wide more) o) ≡ panic_inside cpu o
inside_wide more cpu None = refl
inside_wide more cpu (Some inside) = refl

-- by an item whose entry isn't refused
item_panics : (more : ℕ) (boot : Booted) (drivers : Drivers) (i : Item) (told : NotifyPlay) → told.play.most_bytes ≤ more
    → refused_by (after_item boot drivers i told) ≡ None → panic_by boot (wide more told) i ≡ panic_by boot told i
item_panics more boot drivers (item.Smc cpu steps regs) told le going =
    let visit : Visit = visit_with told cpu steps regs in
    let came = enters_wide more boot told.play visit le (visited boot drivers cpu told (enters boot told.play visit) going) in
    ap (λ (o : Option Play). panic_inside cpu (comes_by (wide more told) o)) came
    ∙ ap (panic_inside cpu) (comes_wide more told (enters boot told.play visit))
    ∙ inside_wide more cpu (comes_by told (enters boot told.play visit))
item_panics more boot drivers (item.Enter cpu steps regs) told le going = refl
item_panics more boot drivers (item.Leave cpu) told le going = refl
item_panics more boot drivers (item.Write cpu addr bytes) told le going = refl
item_panics more boot drivers (item.Show cpu addr len) told le going = refl

-- ---- plays of lines

lanes_wide : (more cpu : ℕ) (o : Option NotifyPlay)
    → slice_index_or (option_map_or (λ (told : NotifyPlay). told.play.lanes) (option_map (wide more) o) []) cpu []
    ≡ slice_index_or (option_map_or (λ (told : NotifyPlay). told.play.lanes) o []) cpu []
lanes_wide more cpu None = refl
lanes_wide more cpu (Some told) = refl

-- what a question is answered of a play
abbrev asked_of : (Boot → Booted) → Question → Option Boot → Option NotifyPlay → List ℕ
asked_of on question boot plays =
    text_if (λ (b : Boot). text_if (λ (told : NotifyPlay). answer_of_kernel (on b) told.play.kernel told.play.history question) plays) boot

asked_wide : (more : ℕ) (on : Boot → Booted) (question : Question) (boot : Option Boot) (plays : Option NotifyPlay)
    → asked_of on question boot (option_map (wide more) plays) ≡ asked_of on question boot plays
asked_wide more on question None plays = refl
asked_wide more on question (Some boot) None = refl
asked_wide more on question (Some boot) (Some told) = refl

-- what is shown to a line of a trace with signals, exits watched or not
abbrev shown_so : Bool → Platform → NotifyFront → Input → List ℕ
shown_so watching there before input =
    if watching then watched_answer there before (after_heard there before input) (answer there before input) else said_to there before input

module _ (on : Platform) (most more : ℕ) (le : most ≤ more) where
  abbrev small : Platform
  small = within on most

  abbrev large : Platform
  large = within on more

  -- ---- between lines that count

  abbrev panic_with : Option Boot → Option NotifyPlay → Option Item → Option ℕ
  panic_with boot plays i =
      option_and_then (λ (b : Boot).
      option_and_then (λ (told : NotifyPlay). option_and_then (panic_by (booted b on.natives) told) i) plays) boot

  no_item : (boot : Option Boot) (plays : Option NotifyPlay) → panic_with boot plays None ≡ None
  no_item None plays = refl
  no_item (Some boot) None = refl
  no_item (Some boot) (Some told) = refl

  no_panic : (before after : NotifyFront) → item_between before after ≡ None
      → panic_between large before after ≡ panic_between small before after
  no_panic before after none =
      ap (panic_with before.trace.boot (play_at large before)) none
      ∙ no_item before.trace.boot (play_at large before)
      ∙ sym (no_item before.trace.boot (play_at small before))
      ∙ sym (ap (panic_with before.trace.boot (play_at small before)) none)

  stays_calm : (before : NotifyFront) → panic_between large before before ≡ panic_between small before before
  stays_calm before = no_panic before before (added_none before.trace.items)

  -- an item more, whose entry isn't refused
  one_panics : (boot : Boot) (before after : NotifyFront) (i : Item) → before.trace.boot ≡ Some boot → refused_at small before ≡ None
      → play_at small after
      ≡ option_and_then (unless_refused (after_step (booted boot on.natives) on.drivers (Takes i))) (play_at small before)
      → refused_at small after ≡ None → (plays : Option NotifyPlay) → play_at small before ≡ plays
      → panic_with (Some boot) (option_map (wide more) plays) (Some i) ≡ panic_with (Some boot) plays (Some i)
  one_panics boot before after i there was came still None is = refl
  one_panics boot before after i there was came still (Some told) is =
      let on_boot : Booted = booted boot on.natives in
      let step : NotifyPlay → Option NotifyPlay = after_step on_boot on.drivers (Takes i) in
      let limit : told.play.most_bytes ≡ most =
      steps_limit on_boot on.drivers (steps_of (notify_trace_in before)) (start small boot before) told
      (sym (with_boot small boot before there) ∙ is) in
      let none : told.play.refused ≡ None = sym (ap refused_by is) ∙ was in
      let taken : unless_refused step told ≡ step told =
      ap (λ (r : Option ℕ). option_map_or (λ k. Some told) r (step told)) none in
      let going : refused_by (step told) ≡ None =
      sym (ap refused_by (came ∙ ap (option_and_then (unless_refused step)) is ∙ taken)) ∙ still in
      item_panics more on_boot on.drivers i told (omega (arith, limit, le)) going

  effect_panics : (before after : NotifyFront) → IsStage small before → refused_at small after ≡ None → Effect before after
      → panic_between large before after ≡ panic_between small before after
  effect_panics before after stage still (Stays is) =
      no_panic before after (ap (item_between before) is ∙ added_none before.trace.items)
  effect_panics before after stage still (Heads was now stays there) =
      no_panic before after
      (ap (λ (items : List Item). slice_get (drop (length items) after.trace.items) 0) was.items
      ∙ ap (λ (items : List Item). slice_get items 0) now.items)
  effect_panics before after stage still (AddsItem i there is) =
      let boot = some_of before.trace.boot there in
      let now : after.trace.boot ≡ Some boot.0 = ap (λ (f : NotifyFront). f.trace.boot) is ∙ boot.1 in
      let steps : steps_of (notify_trace_in after) ≡ steps_of (notify_trace_in before) ++ Takes i ∷ [] =
      ap (λ (f : NotifyFront). steps_of (notify_trace_in f)) is ∙ item_steps before i stage.orderly in
      let came =
      more-played small boot.0 before after (Takes i) boot.1 now (ap (λ (f : NotifyFront). f.trace.fills) is) steps in
      let added : item_between before after ≡ Some i = ap (item_between before) is ∙ added_item before.trace.items i in
      let plays : Option NotifyPlay = play_at small before in
      ap (λ (o : Option NotifyPlay). panic_with before.trace.boot o (item_between before after)) (played_wide on most more le before stage.going)
      ∙ ap (panic_with before.trace.boot (option_map (wide more) plays)) added
      ∙ ap (λ (b : Option Boot). panic_with b (option_map (wide more) plays) (Some i)) boot.1
      ∙ one_panics boot.0 before after i boot.1 stage.going came still plays refl
      ∙ sym (ap (λ (b : Option Boot). panic_with b plays (Some i)) boot.1)
      ∙ sym (ap (panic_with before.trace.boot plays) added)
  effect_panics before after stage still (AddsSignal value there is) =
      no_panic before after (ap (item_between before) is ∙ added_none before.trace.items)

  -- ---- a turn

  abbrev PanicsAlike : NotifyFront → NotifyFront → Type 0
  PanicsAlike before after = panic_between large before after ≡ panic_between small before after

  between_panics : (before after : NotifyFront) → IsStage small before → Effect before after → (refused : Option ℕ)
      → refused_at small after ≡ refused
      → PanicsAlike before (counted before after (answer_unless small before after refused).ending)
  between_panics before after stage effects (Some count) is = stays_calm before
  between_panics before after stage effects None is = effect_panics before after stage is effects

  line_panics : (before : NotifyFront) (line : List ℕ) → IsStage small before → (fault : Option BadKind)
      → fault_at small before line ≡ fault
      → PanicsAlike before (counted before (after_line before line) (answer_by small before line fault).ending)
  line_panics before line stage (Some kind) is = stays_calm before
  line_panics before line stage None is =
      between_panics before (after_line before line) stage (effect (uuids_in small) before line stage.orderly is)
      (refused_at small (after_line before line)) refl

  turn_panics : (before : NotifyFront) (input : Input) → IsStage small before → PanicsAlike before (after_heard small before input)
  turn_panics before (heard.Line line) stage = line_panics before line stage (fault_at small before line) refl
  turn_panics before heard.Long stage = stays_calm before
  turn_panics before heard.Cut stage = stays_calm before

  lane_wide : (lines : NotifyFront) (cpu : ℕ) → refused_at small lines ≡ None → lane_at large lines cpu ≡ lane_at small lines cpu
  lane_wide lines cpu going =
      ap (λ (o : Option NotifyPlay). slice_index_or (option_map_or (λ (told : NotifyPlay). told.play.lanes) o []) cpu [])
      (played_wide on most more le lines going)
      ∙ lanes_wide more cpu (play_at small lines)

  behind_wide : (before after : NotifyFront) (cpu : ℕ) → refused_at small before ≡ None → refused_at small after ≡ None
      → PanicsAlike before after → text_behind large before after cpu ≡ text_behind small before after cpu
  behind_wide before after cpu was is panics =
      ap (λ (panic : Option ℕ). text_if panic_line panic
      ++ text_of_changes cpu (changes (lane_at large before cpu) (lane_at large after cpu))) panics
      ∙ ap (λ (lane : List ℕ). text_if panic_line (panic_between small before after)
      ++ text_of_changes cpu (changes lane (lane_at large after cpu))) (lane_wide before cpu was)
      ∙ ap (λ (lane : List ℕ). text_if panic_line (panic_between small before after)
      ++ text_of_changes cpu (changes (lane_at small before cpu) lane)) (lane_wide after cpu is)

  lines_wide : (before after : NotifyFront) (lines : List Line)
      → ((cpu : ℕ) → text_behind large before after cpu ≡ text_behind small before after cpu)
      → flat_map (watched_line large before after) lines ≡ flat_map (watched_line small before after) lines
  lines_wide before after [] behind = refl
  lines_wide before after (Ret cpu regs ∷ lines) behind =
      ap (λ (text : List ℕ). (text_of_line (Ret cpu regs) ++ text) ++ flat_map (watched_line large before after) lines) (behind cpu)
      ∙ ap (λ (text : List ℕ). watched_line small before after (Ret cpu regs) ++ text) (lines_wide before after lines behind)
  lines_wide before after (Mem cpu addr bytes ∷ lines) behind =
      ap (λ (text : List ℕ). text_of_line (Mem cpu addr bytes) ++ text) (lines_wide before after lines behind)

  shown_wide : (watching : Bool) (before : NotifyFront) (input : Input) → IsStage small before
      → is_full (answer small before input).ending ≡ false → shown_so watching large before input ≡ shown_so watching small before input
  shown_wide false before input stage none = ap text_of_answer (answer_wide on most more le before input stage (ap not none))
  shown_wide true before input stage none =
      let is = answer_wide on most more le before input stage (ap not none) in
      let after : NotifyFront = after_heard small before input in
      let given : Answer = answer small before input in
      let counts : after_heard large before input ≡ after =
      ap (λ (given : Answer). if is_done given.ending then with_heard before input else before) is in
      let stage_after : IsStage small after = (talked small before (input ∷ []) stage).stage in
      let behind = λ (cpu : ℕ).
      behind_wide before after cpu stage.going stage_after.going (turn_panics before input stage) in
      ap (watched_answer large before (after_heard large before input)) is
      ∙ ap (λ (f : NotifyFront). watched_answer large before f given) counts
      ∙ ap (λ (text : List ℕ). text ++ text_of_ending given.ending) (lines_wide before after given.lines behind)

  answer_at_wide : (lines : NotifyFront) (question : Question) → refused_at small lines ≡ None
      → answer_at large lines question ≡ answer_at small lines question
  answer_at_wide lines question going =
      ap (asked_of (λ (b : Boot). booted b on.natives) question lines.trace.boot) (played_wide on most more le lines going)
      ∙ asked_wide more (λ (b : Boot). booted b on.natives) question lines.trace.boot (play_at small lines)

-- ---- whether history is off or not

-- the lines that count
either : (on : Platform) (inputs : List Input) (forgets : Bool) → on.most_bytes ≤ 2 ^ 63
    → refuses_none (answers on no_lines inputs) ≡ true
    → after_all (within on (if forgets then 2 ^ 63 else on.most_bytes)) no_lines inputs ≡ after_all on no_lines inputs
either on inputs true le none = (same on on.most_bytes (2 ^ 63) le no_lines inputs (stage-first on) none).lines
either on inputs false le none = refl

counted_alone : (on : Platform) (inputs : List Input) → on.most_bytes ≤ 2 ^ 63
    → refuses_none (answers on no_lines (filter is_plain inputs)) ≡ true
    → (position_behind on first_position inputs).lines.told ≡ after_all on no_lines (filter is_plain inputs)
counted_alone on inputs le none =
    (history_off_forgets_alone.in_order on inputs).lines
    ∙ either on (filter is_plain inputs) (position_behind on first_position inputs).lines.forgets le none

-- ---- two positions

-- behind these lines, with this limit
abbrev limited : Platform → Bool → Platform
limited on forgets = within on (if forgets then 2 ^ 63 else on.most_bytes)

shown_either : (on : Platform) (forgets watching : Bool) (before : NotifyFront) (input : Input) → on.most_bytes ≤ 2 ^ 63
    → IsStage on before → is_full (answer on before input).ending ≡ false
    → shown_so watching (limited on forgets) before input ≡ shown_so watching on before input
shown_either on true watching before input le stage none = shown_wide on on.most_bytes (2 ^ 63) le watching before input stage none
shown_either on false watching before input le stage none = refl

answer_either : (on : Platform) (forgets : Bool) (lines : NotifyFront) (question : Question) → on.most_bytes ≤ 2 ^ 63
    → refused_at on lines ≡ None → answer_at (limited on forgets) lines question ≡ answer_at on lines question
answer_either on true lines question le going = answer_at_wide on on.most_bytes (2 ^ 63) le lines question going
answer_either on false lines question le going = refl

-- a line of a trace with signals, where these lines count
shown_at : (on : Platform) (here : Position) (lines : NotifyFront) (input : Input) → on.most_bytes ≤ 2 ^ 63 → here.lines.told ≡ lines
    → IsStage on lines → is_plain input ≡ true → is_full (answer on lines input).ending ≡ false
    → shown_to on here input ≡ shown_so here.is_watching on lines input
shown_at on here lines input le told stage plain none =
    other_shown on here input (is_other input plain)
    ∙ ap (λ (f : NotifyFront). shown_so here.is_watching (limited on here.lines.forgets) f input) told
    ∙ shown_either on here.lines.forgets here.is_watching lines input le stage none

-- a question
abbrev answer_if : List ℕ → Option BadKind → List ℕ
answer_if given fault = option_map_or (λ (kind : BadKind). text_of_ending (Bad kind)) fault (given ++ text_of_ending Done)

abbrev asked_so : Platform → NotifyFront → QuestionKind → List ℕ → List ℕ
asked_so on lines kind line =
    answer_if (answer_at on lines (question_of kind (words_of line)))
    (first_broken (question_rules kind (scene_of (record { told = lines; forgets = false })) line))

rules_alike : (kind : QuestionKind) (lines : NotifyFront) (forgets : Bool) (line : List ℕ) → (kind ≡ word_of.Events → ⊥)
    → first_broken (question_rules kind (scene_of (record { told = lines; forgets = forgets })) line)
    ≡ first_broken (question_rules kind (scene_of (record { told = lines; forgets = false })) line)
rules_alike word_of.Watch lines forgets line other = refl
rules_alike word_of.State lines forgets line other = refl
rules_alike word_of.Session lines forgets line other = refl
rules_alike word_of.Buffer lines forgets line other = refl
rules_alike word_of.Events lines forgets line other = absurd (other refl)

asked_at : (on : Platform) (here : Position) (lines : NotifyFront) (input : Input) (kind : QuestionKind) → on.most_bytes ≤ 2 ^ 63
    → here.lines.told ≡ lines → IsStage on lines → kind_asked_by input ≡ Some kind → (kind ≡ word_of.Events → ⊥)
    → shown_to on here input ≡ asked_so on lines kind (line_of input)
asked_at on here lines input kind le told stage asks other =
    let line : List ℕ = line_of input in
    let forgets : Bool = here.lines.forgets in
    let question : Question = question_of kind (words_of line) in
    shown_by on here input (Some kind) asks
    ∙ ap (λ (f : NotifyFront). answer_if (answer_at (limited on forgets) f question)
    (first_broken (question_rules kind (scene_of (record { told = f; forgets = forgets })) line))) told
    ∙ ap (answer_if (answer_at (limited on forgets) lines question)) (rules_alike kind lines forgets line other)
    ∙ ap (λ (given : List ℕ). answer_if given
    (first_broken (question_rules kind (scene_of (record { told = lines; forgets = false })) line)))
    (answer_either on forgets lines question le stage.going)

-- ---- without the lines that turn history off

plain_kept : (asks turns : Bool) → not turns ≡ false → (asks && not turns) ≡ false
plain_kept true turns e = e
plain_kept false turns e = refl

plain_with : (input : Input) (inputs : List Input) (keeps : Bool) → keeps_history input ≡ keeps
    → filter is_plain (filter keeps_history inputs) ≡ filter is_plain inputs
    → filter is_plain (filter keeps_history (input ∷ inputs)) ≡ filter is_plain (input ∷ inputs)
plain_with input inputs true is rest =
    ap (λ (b : Bool). filter is_plain (if b then input ∷ filter keeps_history inputs else filter keeps_history inputs)) is
    ∙ ap (λ (l : List Input). if is_plain input then input ∷ l else l) rest
plain_with input inputs false is rest =
    ap (λ (b : Bool). filter is_plain (if b then input ∷ filter keeps_history inputs else filter keeps_history inputs)) is
    ∙ rest
    ∙ sym (ap (λ (b : Bool). if b then input ∷ filter is_plain inputs else filter is_plain inputs)
    (plain_kept (is_none (kind_asked_by input)) (turns_history input) is))

plain_alone : (inputs : List Input) → filter is_plain (filter keeps_history inputs) ≡ filter is_plain inputs
plain_alone [] = refl
plain_alone (input ∷ inputs) = plain_with input inputs (keeps_history input) refl (plain_alone inputs)

-- whether exits are watched then
unbroken_watching : (here : Position) (fault : Option BadKind) (watching : Bool)
    → (option_map_or (λ (kind : BadKind). here) fault (record here { is_watching = watching })).is_watching
    ≡ option_map_or (λ (kind : BadKind). here.is_watching) fault watching
unbroken_watching here None watching = refl
unbroken_watching here (Some kind) watching = refl

asked_watching : (one other : Position) (kind : QuestionKind) (line : List ℕ) → one.is_watching ≡ other.is_watching
    → (position_asked one kind line).is_watching ≡ (position_asked other kind line).is_watching
asked_watching one other word_of.Watch line same =
    let watching : Bool = watching_after (question_of word_of.Watch (words_of line)) one.is_watching in
    let fault : Option BadKind = first_broken (question_rules word_of.Watch (scene_of one.lines) line) in
    unbroken_watching one fault watching
    ∙ ap (λ (was : Bool). option_map_or (λ (kind : BadKind). was) fault watching) same
    ∙ sym (unbroken_watching other fault watching)
asked_watching one other word_of.State line same =
    ap (λ (p : Position). p.is_watching) (asked-same one word_of.State line (λ e. cc)) ∙ same
    ∙ sym (ap (λ (p : Position). p.is_watching) (asked-same other word_of.State line (λ e. cc)))
asked_watching one other word_of.Session line same =
    ap (λ (p : Position). p.is_watching) (asked-same one word_of.Session line (λ e. cc)) ∙ same
    ∙ sym (ap (λ (p : Position). p.is_watching) (asked-same other word_of.Session line (λ e. cc)))
asked_watching one other word_of.Buffer line same =
    ap (λ (p : Position). p.is_watching) (asked-same one word_of.Buffer line (λ e. cc)) ∙ same
    ∙ sym (ap (λ (p : Position). p.is_watching) (asked-same other word_of.Buffer line (λ e. cc)))
asked_watching one other word_of.Events line same =
    ap (λ (p : Position). p.is_watching) (asked-same one word_of.Events line (λ e. cc)) ∙ same
    ∙ sym (ap (λ (p : Position). p.is_watching) (asked-same other word_of.Events line (λ e. cc)))

watching_by : (on : Platform) (here : Position) (input : Input) (o : Option QuestionKind) → kind_asked_by input ≡ o
    → (position_after on here input).is_watching
    ≡ option_map_or (λ kind. (position_asked here kind (line_of input)).is_watching) o here.is_watching
watching_by on here input None e = ap (λ (p : Position). p.is_watching) (after_question on here input None e)
watching_by on here input (Some kind) e = ap (λ (p : Position). p.is_watching) (after_question on here input (Some kind) e)

after_watching : (on : Platform) (one other : Position) (input : Input) → one.is_watching ≡ other.is_watching
    → (position_after on one input).is_watching ≡ (position_after on other input).is_watching
after_watching on one other input same = by (kind_asked_by input) refl
  where
    by : (o : Option QuestionKind) → kind_asked_by input ≡ o
        → (position_after on one input).is_watching ≡ (position_after on other input).is_watching
    by None e = watching_by on one input None e ∙ same ∙ sym (watching_by on other input None e)
    by (Some kind) e =
        watching_by on one input (Some kind) e
        ∙ asked_watching one other kind (line_of input) same
        ∙ sym (watching_by on other input (Some kind) e)

turns_if : (b : Bool) → not b ≡ false → b ≡ true
turns_if true e = refl
turns_if false e = absurd cc

-- behind these, and one before them where it is kept
abbrev watching_with : Platform → Position → Input → List Input → Bool → Bool
watching_with on here input inputs keeps = (position_behind on here (if keeps then input ∷ inputs else inputs)).is_watching

-- of a line that is left out, and of one that isn't
left_watching : (on : Platform) (one other : Position) (input : Input) (inputs : List Input) → one.is_watching ≡ other.is_watching
    → ((first second : Position) → first.is_watching ≡ second.is_watching
    → (position_behind on first inputs).is_watching ≡ (position_behind on second (filter keeps_history inputs)).is_watching)
    → (keeps : Bool) → keeps_history input ≡ keeps
    → (position_behind on (position_after on one input) inputs).is_watching
    ≡ watching_with on other input (filter keeps_history inputs) keeps
left_watching on one other input inputs same rest true is =
    rest (position_after on one input) (position_after on other input) (after_watching on one other input same)
left_watching on one other input inputs same rest false is =
    let asks = turning_asks input (turns_if (turns_history input) is) in
    rest (position_after on one input) other (watching_by on one input None asks ∙ same)

behind_watching : (on : Platform) (one other : Position) (inputs : List Input) → one.is_watching ≡ other.is_watching
    → (position_behind on one inputs).is_watching ≡ (position_behind on other (filter keeps_history inputs)).is_watching
behind_watching on one other [] same = same
behind_watching on one other (input ∷ inputs) same =
    left_watching on one other input inputs same (λ first second alike. behind_watching on first second inputs alike) (keeps_history input) refl

-- ---- the law

-- behind these inputs, with and without the lines that turn history off
record AreAlike (on : Platform) (inputs : List Input) : Type 0 where
  stage : IsStage on (after_all on no_lines (filter is_plain inputs))
  with_them : (position_behind on first_position inputs).lines.told ≡ after_all on no_lines (filter is_plain inputs)
  without : (position_behind on first_position (filter keeps_history inputs)).lines.told
      ≡ after_all on no_lines (filter is_plain inputs)
  watching : (position_behind on first_position inputs).is_watching
      ≡ (position_behind on first_position (filter keeps_history inputs)).is_watching

alike : (on : Platform) (inputs : List Input) → on.most_bytes ≤ 2 ^ 63
    → refuses_none (answers on no_lines (filter is_plain inputs)) ≡ true → AreAlike on inputs
alike on inputs le none =
    let plain = plain_alone inputs in
    let none_alone : refuses_none (answers on no_lines (filter is_plain (filter keeps_history inputs))) ≡ true =
    ap (λ (l : List Input). refuses_none (answers on no_lines l)) plain ∙ none in
    record {
      stage = (talked on no_lines (filter is_plain inputs) (stage-first on)).stage;
      with_them = counted_alone on inputs le none;
      without = counted_alone on (filter keeps_history inputs) le none_alone ∙ ap (after_all on no_lines) plain;
      watching = behind_watching on first_position first_position inputs refl;
    }

pub more_bytes_change_nothing : MoreBytesChangeNothing
more_bytes_change_nothing = record {
  played = λ on most more lines told le is going.
      played_wide on most more le lines (ap refused_by is ∙ going) ∙ ap (option_map (wide more)) is;
  answered = λ on most more inputs le none.
      let all = same on most more le no_lines inputs (stage-first (within on most)) none in
      (all.given, all.lines);
  either = λ on inputs le none. counted_alone on inputs le none;
  shown = λ on inputs input le none plain fits.
      let lines : NotifyFront = after_all on no_lines (filter is_plain inputs) in
      let are = alike on inputs le none in
      shown_at on (position_behind on first_position inputs) lines input le are.with_them are.stage plain fits
      ∙ ap (λ (watching : Bool). shown_so watching on lines input) are.watching
      ∙ sym (shown_at on (position_behind on first_position (filter keeps_history inputs)) lines input le are.without are.stage plain fits);
  asked = λ on inputs input kind le none asks other.
      let lines : NotifyFront = after_all on no_lines (filter is_plain inputs) in
      let are = alike on inputs le none in
      asked_at on (position_behind on first_position inputs) lines input kind le are.with_them are.stage asks other
      ∙ sym (asked_at on (position_behind on first_position (filter keeps_history inputs)) lines input kind le are.without are.stage asks other);
}

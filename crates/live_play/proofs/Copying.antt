-- The copy of RAM that is kept beside a conversation is RAM.
use Rattle.std.proofs.Common.{◌≡◌, ℕ, zero, suc, ◌≤◌, inl, inr, Bool, true, false, List, [], ◌∷◌, ◌++◌, length, drop, Option, Some, None, refl, sym, ap, subst, ◌∙◌, append_assoc, append-nil, arith}
use Rattle.std.specs.Prelude.{◌&&◌, ◌||◌, IfSome, IsSome, if◌then◌else◌, is_some, slice_get, slice_index_or, slice_set}
use Rattle.std.specs.List.{flat_map}
use Rattle.std.specs.Option.{option_and_then, option_map_or}
use Rattle.std.proofs.Math.Seq.{drop-append_seam}
use Rattle.std.proofs.lemmas.Bool.{and_parts}
use Rattle.std.proofs.lemmas.List.{drop_all}
use Rattle.kernel_model.specs.Application.{Booted, IsBooted, booted}
use Rattle.kernel_model.proofs.Parts.{some_of}
use Rattle.line_port.specs.History.{Input}
use Rattle.line_port.specs.History as heard
use Rattle.live_text.specs.Rules.{LiveFront}
use Rattle.notify_play.specs.NotifyPlay.{Drivers, NotifyPlay, after_item, after_steps}
use Rattle.notify_text.specs.Rules.{NotifyFront, after_line, has_no_signal, notify_trace_in}
use Rattle.notify_text.specs.Steps.{Signals, Step, Takes, steps_of}
use Rattle.notify_text.specs.declared.notify_trace.Signal.{Signal}
use Rattle.play_model.specs.Line.{Line, Mem, Ret, text_of_line}
use Rattle.ta_isa.specs.declared.boot.Boot.{Boot}
use Rattle.trace_text.specs.Limits.{has_no_item}
use Rattle.trace_text.specs.declared.fault.BadKind.{BadKind}
use Rattle.trace_text.specs.declared.item.Item.{Item}
use Rattle.trace_text.specs.declared.item.Item.TheVariants as item
use Rattle.live_play.specs.Answer.{Answer, Done, Platform, after_heard, answer, fault_at, play_at, printed_at, refused_at, text_of_ending, uuids_in}
use Rattle.live_play.specs.Changes.{changes, text_of_changes}
use Rattle.live_play.specs.Conversation.{said_to}
use Rattle.live_play.specs.Copies.{CopiesAreRam, Wrote, copy_behind, copy_between, copy_of_header, has_no_return, is_header, laid, text_of_wrote, watches, wrote, wrote_behind, wrote_by, wrote_in, wrote_to}
use Rattle.live_play.specs.Panicking.{item_between, panic_between, panic_line}
use Rattle.live_play.specs.Returns.{returns_in}
use Rattle.live_play.specs.Showing.{Position, cpu_out_by, first_position, history_fault, history_turned, lane_at, lanes_at, line_of, lines_after_other, platform_at, position_after, position_behind, shown_to, turns_history, watched_answer}
use Rattle.live_play.specs.ShowingLaws.{is_plain, answer_of_exit}
use Rattle.live_play.specs.State.{text_if}
use Rattle.live_play.proofs.Asked.{is_other, other_shown}
use Rattle.live_play.proofs.Changing.{changes_tell_all}
use Rattle.live_play.proofs.Effects.{AddsItem, AddsSignal, AreOrderly, Effect, Heads, IsHeader, Stays, effect, no_items, no_signals}
use Rattle.live_play.proofs.Forgetting.{Asks, Comes, Others, Turns, booted_turned, come, turned-told}
use Rattle.live_play.proofs.Outgoing.{comes, cut_front, goes-out, none_returned, printed_more, stays-in, step_on, stepped}
use Rattle.live_play.proofs.Talking.{IsStage, IsWhole, answer_by, answer_unless, counted, item_steps, more-played, no_steps, refused_by, signal_steps, stage-first, start, talked, whole_there, with_boot, without_boot}
use Rattle.live_play.proofs.Watched.{exits_are_watched}

-- ---- lists

set_again : (lanes : List (List ℕ)) (cpu : ℕ) (lane : List ℕ)
    → slice_set lanes cpu (slice_index_or (slice_set lanes cpu lane) cpu []) ≡ slice_set lanes cpu lane
set_again [] cpu lane = refl
set_again (first ∷ lanes) zero lane = refl
set_again (first ∷ lanes) (suc cpu) lane = ap (λ (l : List (List ℕ)). first ∷ l) (set_again lanes cpu lane)

-- what has changed in a processor's RAM, laid over RAM, gives what RAM is
put_out : (lanes now : List (List ℕ)) (cpu : ℕ) (lane : List ℕ) → now ≡ slice_set lanes cpu lane
    → length (slice_index_or lanes cpu []) ≤ length (slice_index_or now cpu [])
    → laid lanes (wrote cpu (changes (slice_index_or lanes cpu []) (slice_index_or now cpu [])) ∷ []) ≡ now
put_out lanes now cpu lane is longer =
    ap (slice_set lanes cpu) (changes_tell_all (slice_index_or lanes cpu []) (slice_index_or now cpu []) longer)
    ∙ ap (λ (l : List (List ℕ)). slice_set lanes cpu (slice_index_or l cpu [])) is
    ∙ set_again lanes cpu lane
    ∙ sym is

-- ---- what is said

no_return : (lines : List Line) → has_no_return lines ≡ true → returns_in lines ≡ []
no_return [] none = refl
no_return (Ret cpu regs ∷ lines) none = absurd cc
no_return (Mem cpu addr bytes ∷ lines) none = no_return lines none

unsaid : (on : Platform) (before after : NotifyFront) (lines : List Line) → returns_in lines ≡ []
    → flat_map (wrote_behind on before after) lines ≡ []
unsaid on before after [] none = refl
unsaid on before after (Ret cpu regs ∷ lines) none = absurd cc
unsaid on before after (Mem cpu addr bytes ∷ lines) none = unsaid on before after lines none

-- between two plays
abbrev said_between : Platform → NotifyFront → NotifyFront → List Wrote
said_between on before after = flat_map (wrote_behind on before after) (drop (length (printed_at on before)) (printed_at on after))

-- ---- the header

is_first : (lines : NotifyFront) → is_header lines ≡ true → IsHeader lines
is_first lines header =
    let parts = and_parts (has_no_item lines.trace.items) (has_no_signal lines.signals) header in
    record { items = no_items lines.trace.items parts.0; signals = no_signals lines.signals parts.1 }

header_is : (lines : NotifyFront) → IsHeader lines → is_header lines ≡ true
header_is lines header =
    ap (λ (items : List Item). has_no_item items && has_no_signal lines.signals) header.items
    ∙ ap (λ (signals : List Signal). has_no_signal signals) header.signals

abbrev lanes_of : Option NotifyPlay → List (List ℕ)
lanes_of o = option_map_or (λ (told : NotifyPlay). told.play.lanes) o []

header_copied : (on : Platform) (lines : NotifyFront) → IsHeader lines → copy_of_header on lines ≡ lanes_at on lines
header_copied on lines header = by lines.trace.boot refl
  where
    by : (boot : Option Boot) → lines.trace.boot ≡ boot → copy_of_header on lines ≡ lanes_at on lines
    by None there =
        ap (λ (o : Option Boot). option_map_or (λ (boot : Boot). (start on boot lines).play.lanes) o []) there
        ∙ sym (ap lanes_of (without_boot on lines there))
    by (Some boot) there =
        let played : play_at on lines ≡ Some (start on boot lines) =
        with_boot on boot lines there
        ∙ ap (λ (s : List Step). after_steps (booted boot on.natives) on.drivers s (start on boot lines)) (no_steps lines header) in
        ap (λ (o : Option Boot). option_map_or (λ (boot : Boot). (start on boot lines).play.lanes) o []) there
        ∙ sym (ap lanes_of played)

-- ---- items

-- an item by which no processor goes out changes what it writes
laid_item : (boot : Booted) (drivers : Drivers) (i : Item) (before after : NotifyPlay) → cpu_out_by i ≡ None
    → after_item boot drivers i before ≡ Some after → laid before.play.lanes (wrote_by i) ≡ after.play.lanes
laid_item boot drivers (item.Smc cpu steps regs) before after none e = absurd cc
laid_item boot drivers (item.Enter cpu steps regs) before after none e = sym (comes boot cpu steps regs before after e).lanes
laid_item boot drivers (item.Leave cpu) before after none e = absurd cc
laid_item boot drivers (item.Write cpu addr bytes) before after none e =
    ap (λ (o : Option NotifyPlay). option_map_or (λ (n : NotifyPlay). n.play.lanes) o []) e
laid_item boot drivers (item.Show cpu addr len) before after none e =
    ap (λ (o : Option NotifyPlay). option_map_or (λ (n : NotifyPlay). n.play.lanes) o []) e

out_writes : (i : Item) (cpu : ℕ) → cpu_out_by i ≡ Some cpu → wrote_by i ≡ []
out_writes (item.Smc cpu steps regs) out e = refl
out_writes (item.Enter cpu steps regs) out e = refl
out_writes (item.Leave cpu) out e = refl
out_writes (item.Write cpu addr bytes) out e = absurd cc
out_writes (item.Show cpu addr len) out e = refl

module _ (on : Platform) (before after : NotifyFront) (told next : NotifyPlay)
    (was : play_at on before ≡ Some told) (is : play_at on after ≡ Some next) (going : next.play.refused ≡ None) where
  abbrev more : List Line
  more = drop (length told.play.lines) next.play.lines

  printed : said_between on before after ≡ flat_map (wrote_behind on before after) more
  printed = ap (flat_map (wrote_behind on before after)) (printed_more on before after told next was is)

  lane_was : (cpu : ℕ) → lane_at on before cpu ≡ slice_index_or told.play.lanes cpu []
  lane_was cpu = ap (λ (o : Option NotifyPlay). slice_index_or (option_map_or (λ (n : NotifyPlay). n.play.lanes) o []) cpu []) was

  lane_is : (cpu : ℕ) → lane_at on after cpu ≡ slice_index_or next.play.lanes cpu []
  lane_is cpu = ap (λ (o : Option NotifyPlay). slice_index_or (option_map_or (λ (n : NotifyPlay). n.play.lanes) o []) cpu []) is

  laid_by : (boot : Boot) (i : Item) (out : Option ℕ) → cpu_out_by i ≡ out
      → after_item (booted boot on.natives) on.drivers i told ≡ Some next
      → laid told.play.lanes (wrote_by i ++ said_between on before after) ≡ next.play.lanes
  laid_by boot i None none came =
      let stays = stays-in (booted boot on.natives) on.drivers i told next none came in
      let cut = cut_front told.play.lines next.play.lines stays.lines stays.are in
      let nothing = printed ∙ unsaid on before after more (ap returns_in cut ∙ stays.none) in
      ap (λ (l : List Wrote). laid told.play.lanes (wrote_by i ++ l)) nothing
      ∙ ap (laid told.play.lanes) (append-nil (wrote_by i))
      ∙ laid_item (booted boot on.natives) on.drivers i told next none came
  laid_by boot i (Some cpu) out came =
      let goes = goes-out (booted boot on.natives) on.drivers i cpu told next out came going in
      let cut = cut_front told.play.lines next.play.lines (Ret cpu goes.regs ∷ []) goes.lines in
      ap (λ (l : List Wrote). laid told.play.lanes (l ++ said_between on before after)) (out_writes i cpu out)
      ∙ ap (laid told.play.lanes) (printed ∙ ap (flat_map (wrote_behind on before after)) cut)
      ∙ ap (λ (lane : List ℕ). laid told.play.lanes (wrote cpu (changes lane (lane_at on after cpu)) ∷ [])) (lane_was cpu)
      ∙ ap (λ (lane : List ℕ). laid told.play.lanes (wrote cpu (changes (slice_index_or told.play.lanes cpu []) lane) ∷ [])) (lane_is cpu)
      ∙ put_out told.play.lanes next.play.lanes cpu goes.lane goes.put goes.longer

-- ---- lines

no_header : (items : List Item) (i : Item) (b : Bool) → (has_no_item (items ++ i ∷ []) && b) ≡ false
no_header [] i b = refl
no_header (first ∷ items) i b = refl

and_false : (b : Bool) → (b && false) ≡ false
and_false true = refl
and_false false = refl

signalled : (b : Bool) (signals : List Signal) (signal : Signal) → (b && has_no_signal (signals ++ signal ∷ [])) ≡ false
signalled b [] signal = and_false b
signalled b (first ∷ signals) signal = and_false b

-- the item that a line adds
pub added_item : (items : List Item) (i : Item) → slice_get (drop (length items) (items ++ i ∷ [])) 0 ≡ Some i
added_item items i = ap (λ (l : List Item). slice_get l 0) (drop-append_seam items (i ∷ []))

pub added_none : (items : List Item) → slice_get (drop (length items) items) 0 ≡ None
added_none items = ap (λ (l : List Item). slice_get l 0) (drop_all (length items) items (omega arith))

abbrev copy_by : Platform → NotifyFront → Option Item → List Wrote → List (List ℕ) → Bool → List (List ℕ)
copy_by on after i said copy header =
    if header then copy_of_header on after else laid copy (option_map_or wrote_by i [] ++ said)

-- where nothing counts and nothing is said
same_copied : (on : Platform) (lines : NotifyFront) → copy_between on lines lines [] (lanes_at on lines) ≡ lanes_at on lines
same_copied on lines = by (is_header lines) refl
  where
    by : (b : Bool) → is_header lines ≡ b → copy_between on lines lines [] (lanes_at on lines) ≡ lanes_at on lines
    by true is =
        ap (copy_by on lines (item_between lines lines) [] (lanes_at on lines)) is
        ∙ header_copied on lines (is_first lines is)
    by false is =
        ap (copy_by on lines (item_between lines lines) [] (lanes_at on lines)) is
        ∙ ap (λ (i : Option Item). laid (lanes_at on lines) (option_map_or wrote_by i [] ++ [])) (added_none lines.trace.items)

abbrev IsCopied : Platform → NotifyFront → NotifyFront → List Wrote → Type 0
IsCopied on before after said = copy_between on before after said (lanes_at on before) ≡ lanes_at on after

stepped_item : (on : Platform) (boot : Boot) (i : Item) (before after : NotifyFront) → is_header after ≡ false
    → item_between before after ≡ Some i
    → play_at on after ≡ option_and_then (step_on on boot (Takes i)) (play_at on before)
    → refused_at on before ≡ None → refused_at on after ≡ None → (next : NotifyPlay) × (play_at on after ≡ Some next)
    → IsCopied on before after (said_between on before after)
stepped_item on boot i before after header added e going still there =
    let next : NotifyPlay = there.0 in
    let is = there.1 in
    let s = stepped on boot (Takes i) before after next e going is in
    let went_on : next.play.refused ≡ None = sym (ap refused_by is) ∙ still in
    let lanes = λ (o : Option NotifyPlay). option_map_or (λ (n : NotifyPlay). n.play.lanes) o [] in
    ap (copy_by on after (item_between before after) (said_between on before after) (lanes_at on before)) header
    ∙ ap (λ (o : Option Item). laid (lanes_at on before) (option_map_or wrote_by o [] ++ said_between on before after)) added
    ∙ ap (λ (o : Option NotifyPlay). laid (lanes o) (wrote_by i ++ said_between on before after)) s.was
    ∙ laid_by on before after s.told next s.was is went_on boot i (cpu_out_by i) refl s.came
    ∙ sym (ap lanes is)

stepped_signal : (on : Platform) (boot : Boot) (value : ℕ) (before after : NotifyFront) → is_header after ≡ false
    → item_between before after ≡ None
    → play_at on after ≡ option_and_then (step_on on boot (Signals value)) (play_at on before)
    → refused_at on before ≡ None → (next : NotifyPlay) × (play_at on after ≡ Some next)
    → IsCopied on before after (said_between on before after)
stepped_signal on boot value before after header added e going there =
    let next : NotifyPlay = there.0 in
    let is = there.1 in
    let s = stepped on boot (Signals value) before after next e going is in
    let lanes = λ (o : Option NotifyPlay). option_map_or (λ (n : NotifyPlay). n.play.lanes) o [] in
    let none = none_returned on boot (Signals value) before after e going refl in
    ap (copy_by on after (item_between before after) (said_between on before after) (lanes_at on before)) header
    ∙ ap (λ (o : Option Item). laid (lanes_at on before) (option_map_or wrote_by o [] ++ said_between on before after)) added
    ∙ ap (laid (lanes_at on before)) (unsaid on before after (drop (length (printed_at on before)) (printed_at on after)) none)
    ∙ ap lanes s.was
    ∙ ap lanes s.came
    ∙ sym (ap lanes is)

effect_copied : (on : Platform) (before after : NotifyFront) → IsStage on before → refused_at on after ≡ None → IsWhole on after
    → Effect before after → IsCopied on before after (said_between on before after)
effect_copied on before after stage still whole (Stays is) =
    let printed = drop_all (length (printed_at on before)) (printed_at on before) (omega arith) in
    subst (λ (f : NotifyFront). IsCopied on before f (said_between on before f)) (sym is)
    (ap (λ (lines : List Line). copy_between on before before (flat_map (wrote_behind on before before) lines) (lanes_at on before)) printed
    ∙ same_copied on before)
effect_copied on before after stage still whole (Heads was now stays there) =
    ap (copy_by on after (item_between before after) (said_between on before after) (lanes_at on before)) (header_is after now)
    ∙ header_copied on after now
effect_copied on before after stage still whole (AddsItem i there is) =
    let boot = some_of before.trace.boot there in
    let now : after.trace.boot ≡ Some boot.0 = ap (λ (f : NotifyFront). f.trace.boot) is ∙ boot.1 in
    let steps : steps_of (notify_trace_in after) ≡ steps_of (notify_trace_in before) ++ Takes i ∷ [] =
    ap (λ (f : NotifyFront). steps_of (notify_trace_in f)) is ∙ item_steps before i stage.orderly in
    stepped_item on boot.0 i before after
    (ap is_header is ∙ no_header before.trace.items i (has_no_signal before.signals))
    (ap (item_between before) is ∙ added_item before.trace.items i)
    (more-played on boot.0 before after (Takes i) boot.1 now (ap (λ (f : NotifyFront). f.trace.fills) is) steps)
    stage.going still (some_of (play_at on after) (whole_there on after boot.0 now whole))
effect_copied on before after stage still whole (AddsSignal value there is) =
    let boot = some_of before.trace.boot there in
    let now : after.trace.boot ≡ Some boot.0 = ap (λ (f : NotifyFront). f.trace.boot) is ∙ boot.1 in
    let steps : steps_of (notify_trace_in after) ≡ steps_of (notify_trace_in before) ++ Signals value ∷ [] =
    ap (λ (f : NotifyFront). steps_of (notify_trace_in f)) is ∙ signal_steps before value in
    stepped_signal on boot.0 value before after
    (ap is_header is ∙ signalled (has_no_item before.trace.items) before.signals (record { at = length before.trace.items; value = value }))
    (ap (item_between before) is ∙ added_none before.trace.items)
    (more-played on boot.0 before after (Signals value) boot.1 now (ap (λ (f : NotifyFront). f.trace.fills) is) steps)
    stage.going (some_of (play_at on after) (whole_there on after boot.0 now whole))

-- ---- turns

abbrev AnswerCopied : Platform → NotifyFront → NotifyFront → Answer → Type 0
AnswerCopied on before after given = IsWhole on after → IsCopied on before after (wrote_in on before after given)

between_copied : (on : Platform) (before after : NotifyFront) → IsStage on before → Effect before after → (refused : Option ℕ)
    → refused_at on after ≡ refused
    → AnswerCopied on before (counted before after (answer_unless on before after refused).ending) (answer_unless on before after refused)
between_copied on before after stage effects (Some count) is whole = same_copied on before
between_copied on before after stage effects None is whole = effect_copied on before after stage is whole effects

line_copied : (on : Platform) (before : NotifyFront) (line : List ℕ) → IsStage on before → (fault : Option BadKind)
    → fault_at on before line ≡ fault
    → AnswerCopied on before (counted before (after_line before line) (answer_by on before line fault).ending) (answer_by on before line fault)
line_copied on before line stage (Some kind) is = λ whole. same_copied on before
line_copied on before line stage None is =
    between_copied on before (after_line before line) stage (effect (uuids_in on) before line stage.orderly is)
    (refused_at on (after_line before line)) refl

turn_copied : (on : Platform) (before : NotifyFront) (input : Input) → IsStage on before
    → AnswerCopied on before (after_heard on before input) (answer on before input)
turn_copied on before (heard.Line line) stage = line_copied on before line stage (fault_at on before line) refl
turn_copied on before heard.Long stage = λ whole. same_copied on before
turn_copied on before heard.Cut stage = λ whole. same_copied on before

-- ---- a conversation in which lines may ask

abbrev StandsAt : Platform → LiveFront → Type 0
StandsAt on lines = IsStage (platform_at on lines) lines.told

abbrev IsWholeAt : Platform → LiveFront → Type 0
IsWholeAt on lines = IsWhole (platform_at on lines) lines.told

abbrev lanes_by : Platform → LiveFront → List (List ℕ)
lanes_by on lines = lanes_at (platform_at on lines) lines.told

-- from these lines to those
record GoesTo (on : Platform) (before after : LiveFront) (said : List Wrote) : Type 0 where
  stands : StandsAt on after
  copied : IsWholeAt on after
      → IsWholeAt on before × (copy_between on before.told after.told said (lanes_by on before) ≡ lanes_by on after)

goes_same : (on : Platform) (lines : LiveFront) → StandsAt on lines → GoesTo on lines lines []
goes_same on lines stands = record {
  stands = stands;
  copied = λ whole. (whole, same_copied (platform_at on lines) lines.told);
}

none_at : (on : Platform) (lines : NotifyFront) → lines.trace.boot ≡ None → lanes_at on lines ≡ []
none_at on lines none =
    ap (λ (o : Option NotifyPlay). option_map_or (λ (n : NotifyPlay). n.play.lanes) o []) (without_boot on lines none)

-- without a boot, where the same lines count
goes_unbooted : (on : Platform) (before after : LiveFront) → StandsAt on before → before.told.trace.boot ≡ None
    → after.told ≡ before.told → GoesTo on before after []
goes_unbooted on before after stands none told =
    let none_now : after.told.trace.boot ≡ None = ap (λ (f : NotifyFront). f.trace.boot) told ∙ none in
    record {
      stands = record {
        orderly = subst AreOrderly (sym told) stands.orderly;
        going = ap refused_by (without_boot (platform_at on after) after.told none_now);
      };
      copied = λ whole. (
        inl none,
        ap (λ (f : NotifyFront). copy_between on before.told f [] (lanes_by on before)) told
            ∙ same_copied (platform_at on before) before.told
            ∙ none_at (platform_at on before) before.told none
            ∙ sym (none_at (platform_at on after) after.told none_now),
      );
    }

turned_copied : (on : Platform) (lines : LiveFront) (input : Input) (boot : Option Boot) → turns_history input ≡ true
    → StandsAt on lines → lines.told.trace.boot ≡ boot → GoesTo on lines (history_turned on lines (line_of input)) []
turned_copied on lines input None turns stands there =
    goes_unbooted on lines (history_turned on lines (line_of input)) stands there (turned-told lines (history_fault on lines (line_of input)))
turned_copied on lines input (Some boot) turns stands there =
    subst (λ (l : LiveFront). GoesTo on lines l []) (sym (booted_turned on lines input turns (ap is_some there)))
    (goes_same on lines stands)

-- what is said to a line that isn't one of a trace with signals
unsaid_to : (on : Platform) (here : Position) (input : Input) → is_plain input ≡ false → wrote_to on here input ≡ []
unsaid_to on here input plain =
    let there : Platform = platform_at on here.lines in
    let before : NotifyFront = here.lines.told in
    let given : List Wrote = wrote_in there before (after_heard there before input) (answer there before input) in
    ap (λ (b : Bool). if b && here.is_watching then given else []) plain

or_parts : (b : Bool) → (false || b) ≡ true → b ≡ true
or_parts b e = e

-- and to one that is
said_plainly : (on : Platform) (here : Position) (input : Input) (watching : Bool) → is_plain input ≡ true → here.is_watching ≡ watching
    → (watching || has_no_return (answer (platform_at on here.lines) here.lines.told input).lines) ≡ true
    → wrote_to on here input
    ≡ wrote_in (platform_at on here.lines) here.lines.told (after_heard (platform_at on here.lines) here.lines.told input)
    (answer (platform_at on here.lines) here.lines.told input)
said_plainly on here input true plain is watched =
    let there : Platform = platform_at on here.lines in
    let before : NotifyFront = here.lines.told in
    let given : List Wrote = wrote_in there before (after_heard there before input) (answer there before input) in
    ap (λ (b : Bool). if b && here.is_watching then given else []) plain
    ∙ ap (λ (b : Bool). if b then given else []) is
said_plainly on here input false plain is watched =
    let there : Platform = platform_at on here.lines in
    let before : NotifyFront = here.lines.told in
    let given : List Wrote = wrote_in there before (after_heard there before input) (answer there before input) in
    ap (λ (b : Bool). if b && here.is_watching then given else []) plain
    ∙ ap (λ (b : Bool). if b then given else []) is
    ∙ sym (unsaid there before (after_heard there before input) (answer there before input).lines
    (no_return (answer there before input).lines (or_parts (has_no_return (answer there before input).lines) watched)))

goes_to : (on : Platform) (here : Position) (input : Input) → StandsAt on here.lines
    → (here.is_watching || has_no_return (answer (platform_at on here.lines) here.lines.told input).lines) ≡ true
    → Comes on here input → GoesTo on here.lines (position_after on here input).lines (wrote_to on here input)
goes_to on here input stands watched (Asks plain is) =
    subst (λ (l : LiveFront). GoesTo on here.lines l (wrote_to on here input)) (sym is)
    (subst (GoesTo on here.lines here.lines) (sym (unsaid_to on here input plain)) (goes_same on here.lines stands))
goes_to on here input stands watched (Turns plain turns is) =
    let turned : LiveFront = history_turned on here.lines (line_of input) in
    subst (λ (l : LiveFront). GoesTo on here.lines l (wrote_to on here input)) (sym is)
    (subst (GoesTo on here.lines turned) (sym (unsaid_to on here input plain))
    (turned_copied on here.lines input here.lines.told.trace.boot turns stands refl))
goes_to on here input stands watched (Others plain is) =
    let there : Platform = platform_at on here.lines in
    let before : NotifyFront = here.lines.told in
    let all = talked there before (input ∷ []) stands in
    let goes : GoesTo on here.lines (lines_after_other on here.lines input)
    (wrote_in there before (after_heard there before input) (answer there before input)) = record {
      stands = all.stage;
      copied = λ whole. ((all.grown whole).0, turn_copied there before input stands whole);
    } in
    subst (λ (l : LiveFront). GoesTo on here.lines l (wrote_to on here input)) (sym is)
    (subst (GoesTo on here.lines (lines_after_other on here.lines input))
    (sym (said_plainly on here input here.is_watching plain refl watched)) goes)

all_copied : (on : Platform) (here : Position) (inputs : List Input) → StandsAt on here.lines → watches on here inputs ≡ true
    → IsWholeAt on (position_behind on here inputs).lines
    → IsWholeAt on here.lines
    × (copy_behind on here inputs (lanes_by on here.lines) ≡ lanes_by on (position_behind on here inputs).lines)
all_copied on here [] stands watched whole = (whole, refl)
all_copied on here (input ∷ inputs) stands watched whole =
    let next : Position = position_after on here input in
    let parts = and_parts (here.is_watching || has_no_return (answer (platform_at on here.lines) here.lines.told input).lines)
    (watches on next inputs) watched in
    let goes = goes_to on here input stands parts.0 (come on here input) in
    let rest = all_copied on next inputs goes.stands parts.1 whole in
    let first = goes.copied rest.0 in
    (first.0, ap (copy_behind on next inputs) first.1 ∙ rest.1)

-- ---- the law

whole_of : (on : Platform) (lines : NotifyFront) (boot : Option Boot) → lines.trace.boot ≡ boot
    → IfSome boot (λ (boot : Boot). IsBooted (booted boot on.natives) × IsSome (play_at on lines)) → IsWhole on lines
whole_of on lines None there played = inl there
whole_of on lines (Some boot) there played = inr played.1

watched_text : (on : Platform) (here : Position) (input : Input) (cpu : ℕ) (regs : List ℕ) → is_plain input ≡ true
    → here.is_watching ≡ true → answer (platform_at on here.lines) here.lines.told input ≡ answer_of_exit cpu regs
    → shown_to on here input
    ≡ text_of_line (Ret cpu regs)
    ++ text_if panic_line (panic_between (platform_at on here.lines) here.lines.told (after_heard (platform_at on here.lines) here.lines.told input))
    ++ text_of_wrote (wrote_to on here input)
    ++ text_of_ending Done
watched_text on here input cpu regs plain watching is =
    let there : Platform = platform_at on here.lines in
    let before : NotifyFront = here.lines.told in
    let after : NotifyFront = after_heard there before input in
    let front : List ℕ = text_of_line (Ret cpu regs) in
    let panic : List ℕ = text_if panic_line (panic_between there before after) in
    let changed : List ℕ = text_of_changes cpu (changes (lane_at there before cpu) (lane_at there after cpu)) in
    let told : wrote_to on here input ≡ wrote_behind there before after (Ret cpu regs) =
    said_plainly on here input true plain watching refl
    ∙ ap (λ (given : Answer). wrote_in there before after given) is in
    other_shown on here input (is_other input plain)
    ∙ ap (λ (b : Bool). if b then watched_answer there before after (answer there before input) else said_to there before input) watching
    ∙ exits_are_watched.told there before input cpu regs is
    ∙ ap (λ (text : List ℕ). text ++ text_of_ending Done) (sym (append_assoc front panic changed))
    ∙ ap (λ (text : List ℕ). ((front ++ panic) ++ text) ++ text_of_ending Done) (sym (append-nil changed))
    ∙ ap (λ (all : List Wrote). ((front ++ panic) ++ text_of_wrote all) ++ text_of_ending Done) (sym told)

pub copies_are_ram : CopiesAreRam
copies_are_ram = record {
  said = watched_text;
  same = λ on inputs watched played.
      let last : LiveFront = (position_behind on first_position inputs).lines in
      (all_copied on first_position inputs (stage-first (platform_at on first_position.lines)) watched
      (whole_of (platform_at on last) last.told last.told.trace.boot refl played)).1;
}

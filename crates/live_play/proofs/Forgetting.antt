-- What history off changes: how much entries may read from then on, and nothing of the lines that count.
use Rattle.std.proofs.Common.{◌≡◌, ℕ, ◌^◌, Bool, true, false, List, [], ◌∷◌, ◌++◌, length, drop, Option, Some, None, refl, sym, ap, subst, ◌∙◌, cond}
use Rattle.std.specs.Prelude.{◌&&◌, IfNone, codes, filter, if◌then◌else◌, is_none, is_some, not}
use Rattle.std.specs.List.{list_all}
use Rattle.std.specs.Str.{bytes_eq}
use Rattle.std.specs.Option.{option_map_or}
use Rattle.std.proofs.lemmas.Bool.{and_parts}
use Rattle.std.proofs.lemmas.Slice.Eq.{bytes_eq-Decides}
use Rattle.line_port.specs.History.{Input}
use Rattle.line_port.specs.History as heard
use Rattle.live_text.specs.Asking.{kind_asked}
use Rattle.live_text.specs.Rules.{LiveFront, history_rules, without_history}
use Rattle.live_text.specs.Rules as live
use Rattle.live_text.specs.declared.question.QuestionKind.{QuestionKind}
use Rattle.notify_text.specs.Rules.{NotifyFront, after_line}
use Rattle.notify_text.specs.Rules as told
use Rattle.notify_text.specs.declared.notify_trace.Signal.{Signal}
use Rattle.play_model.specs.Line.{Line}
use Rattle.ta_isa.specs.declared.boot.Boot.{Boot}
use Rattle.text_lines.specs.Words.{words_of}
use Rattle.trace_text.specs.Limits.{first_broken}
use Rattle.trace_text.specs.Rules.{counts, is_text_byte, word}
use Rattle.trace_text.specs.declared.fault.BadKind.{BadKind}
use Rattle.trace_text.specs.declared.fault.BadKind.TheVariants as bad
use Rattle.trace_text.specs.declared.item.Item.{Item}
use Rattle.live_play.specs.Answer.{Answer, Bad, Done, Platform, after_heard, answer, answer_between, fault_at, is_done, printed_at, uuids_in, with_heard, without_lines}
use Rattle.live_play.specs.Conversation.{after_all}
use Rattle.live_play.specs.Showing.{Position, first_position, history_fault, history_turned, kind_asked_by, line_of, lines_after_other, platform_at, position_after, position_behind, shown_to, shown_to_other, turns_history, within}
use Rattle.live_play.specs.ShowingLaws.{HistoryOffForgetsAlone, IsAsWithout, is_plain, keeps_history}
use Rattle.live_play.proofs.Asked.{after_lines, after_question, is_other, lines_by, other_shown, shown_by, unasked_by}
use Rattle.live_play.proofs.Effects.{AddsItem, AddsSignal, AreOrderly, Effect, Heads, IsHeader, Stays, effect, orderly-behind, orderly-first}
use Rattle.live_play.proofs.Talking.{answer_by, answer_unless, counted, quiet}

-- ---- a line that turns history off

-- it asks nothing
history_asks : (word : List ℕ) → bytes_eq word (codes "history") ≡ true → kind_asked word ≡ None
unfolding kind_asked
history_asks word e =
    let is : word ≡ codes "history" = (bytes_eq-Decides word (codes "history")).0 e in
    ap kind_asked is

pub turning_asks : (input : Input) → turns_history input ≡ true → kind_asked_by input ≡ None
turning_asks (heard.Line line) e = history_asks (word (words_of line) 0) e
turning_asks heard.Long e = absurd cc
turning_asks heard.Cut e = absurd cc

-- of the lines before it nothing changes
pub turned-told : (lines : LiveFront) (fault : Option BadKind)
    → (option_map_or (λ (kind : BadKind). lines) fault (without_history lines)).told ≡ lines.told
turned-told lines None = refl
turned-told lines (Some kind) = refl

-- behind a boot it breaks a rule
abbrev placed_rules : Bool → Bool → Bool → Bool → Bool → List (BadKind × Bool)
placed_rules byte item count place repeat =
    (bad.Byte, byte) ∷ (bad.Cut, true) ∷ (bad.Item, item) ∷ (bad.Count, count) ∷ (bad.Place, place) ∷ (bad.Repeat, repeat) ∷ []

not_turned : (lines : LiveFront) (byte item count place repeat : Bool) → place ≡ false
    → option_map_or (λ (kind : BadKind). lines) (first_broken (placed_rules byte item count place repeat)) (without_history lines) ≡ lines
not_turned lines false item count place repeat e = refl
not_turned lines true false count place repeat e = refl
not_turned lines true true false place repeat e = refl
not_turned lines true true true false repeat e = refl
not_turned lines true true true true repeat e = absurd cc

none_booted : (boot : Option Boot) → is_some boot ≡ true → is_none boot ≡ false
none_booted None e = absurd cc
none_booted (Some boot) e = refl

abbrev turning_rules : LiveFront → List ℕ → List (BadKind × Bool)
turning_rules lines line =
    (bad.Byte, list_all is_text_byte line) ∷ (bad.Cut, true) ∷ history_rules lines (words_of line)

abbrev told_rules : Platform → LiveFront → List ℕ → List (BadKind × Bool)
told_rules on lines line = told.line_rules (uuids_in on) lines.told true line

pub booted_turned : (on : Platform) (lines : LiveFront) (input : Input) → turns_history input ≡ true
    → is_some lines.told.trace.boot ≡ true → history_turned on lines (line_of input) ≡ lines
unfolding live.line_rules
booted_turned on lines (heard.Line line) turns there =
    ap (λ (b : Bool). option_map_or (λ (kind : BadKind). lines)
    (first_broken (if b then turning_rules lines line else told_rules on lines line)) (without_history lines)) turns
    ∙ not_turned lines (list_all is_text_byte line) (bytes_eq (word (words_of line) 1) (codes "off")) (counts 1 (words_of line))
    (is_none lines.told.trace.boot) (not lines.forgets) (none_booted lines.told.trace.boot there)
booted_turned on lines heard.Long turns there = absurd cc
booted_turned on lines heard.Cut turns there = absurd cc

-- ---- a line of a trace with signals

-- behind a header its answer is the same, however much entries may read
abbrev header_answer : NotifyFront → List ℕ → Option BadKind → Answer
header_answer before line fault = option_map_or (λ kind. without_lines (Bad kind)) fault (without_lines Done)

pub quiet_answer : (on : Platform) (before after : NotifyFront) → IsHeader before → IsHeader after
    → answer_between on before after ≡ without_lines Done
quiet_answer on before after was now =
    ap (answer_unless on before after) (quiet on after now).going
    ∙ ap (λ (lines : List Line). record { lines = drop (length (printed_at on before)) lines; ending = Done })
    (quiet on after now).printed
    ∙ ap (λ (lines : List Line). record { lines = drop (length lines) []; ending = Done }) (quiet on before was).printed

not_there : (boot : Option Boot) → boot ≡ None → is_some boot ≡ true → ⊥
not_there None none there = cc
not_there (Some boot) none there = cc

header-there : (boot : Option Boot) (items : List Item) (signals : List Signal) → boot ≡ None
    → IfNone boot ((items ≡ []) × (signals ≡ [])) → (items ≡ []) × (signals ≡ [])
header-there None items signals none empty = empty
header-there (Some boot) items signals none empty = absurd cc

header_before : (before : NotifyFront) → AreOrderly before → before.trace.boot ≡ None → IsHeader before
header_before before orderly none =
    let empty = header-there before.trace.boot before.trace.items before.signals none orderly.no_boot in
    record { items = empty.0; signals = empty.1 }

by_effect : (on : Platform) (before after : NotifyFront) → IsHeader before → before.trace.boot ≡ None → Effect before after
    → answer_between on before after ≡ without_lines Done
by_effect on before after header none (Stays is) =
    quiet_answer on before after header (subst IsHeader (sym is) header)
by_effect on before after header none (Heads was now stays there) = quiet_answer on before after was now
by_effect on before after header none (AddsItem i there is) = absurd (not_there before.trace.boot none there)
by_effect on before after header none (AddsSignal value there is) = absurd (not_there before.trace.boot none there)

by_fault : (on : Platform) (before : NotifyFront) (line : List ℕ) (fault : Option BadKind) → AreOrderly before
    → before.trace.boot ≡ None → fault_at on before line ≡ fault
    → answer_by on before line fault ≡ header_answer before line fault
by_fault on before line (Some kind) orderly none is = refl
by_fault on before line None orderly none is =
    by_effect on before (after_line before line) (header_before before orderly none) none
    (effect (uuids_in on) before line orderly is)

-- so that it is so for each two platforms of these applications
answer-alike : (on : Platform) (one other : ℕ) (before : NotifyFront) (input : Input) → AreOrderly before
    → before.trace.boot ≡ None → answer (within on one) before input ≡ answer (within on other) before input
answer-alike on one other before (heard.Line line) orderly none =
    by_fault (within on one) before line (fault_at (within on one) before line) orderly none refl
    ∙ sym (by_fault (within on other) before line (fault_at (within on other) before line) orderly none refl)
answer-alike on one other before heard.Long orderly none = refl
answer-alike on one other before heard.Cut orderly none = refl

heard-alike : (on : Platform) (one other : ℕ) (before : NotifyFront) (input : Input) → AreOrderly before
    → before.trace.boot ≡ None → after_heard (within on one) before input ≡ after_heard (within on other) before input
heard-alike on one other before input orderly none =
    ap (λ (given : Answer). if is_done given.ending then with_heard before input else before)
    (answer-alike on one other before input orderly none)

-- lines stay in order, and a boot stays among them
record Follows (before after : NotifyFront) : Type 0 where
  orderly : AreOrderly after
  booted : is_some before.trace.boot ≡ true → is_some after.trace.boot ≡ true

follows-same : (before : NotifyFront) → AreOrderly before → Follows before before
follows-same before orderly = record { orderly = orderly; booted = λ there. there }

effect_booted : (before after : NotifyFront) → Effect before after → is_some before.trace.boot ≡ true
    → is_some after.trace.boot ≡ true
effect_booted before after (Stays is) there = ap (λ (f : NotifyFront). is_some f.trace.boot) is ∙ there
effect_booted before after (Heads was now stays more) there = stays there
effect_booted before after (AddsItem i more is) there = ap (λ (f : NotifyFront). is_some f.trace.boot) is ∙ there
effect_booted before after (AddsSignal value more is) there = ap (λ (f : NotifyFront). is_some f.trace.boot) is ∙ there

follows-if : (before after : NotifyFront) (done : Bool) → AreOrderly before → Follows before after
    → Follows before (if done then after else before)
follows-if before after true orderly follows = follows
follows-if before after false orderly follows = follows-same before orderly

follows_line : (on : Platform) (before : NotifyFront) (line : List ℕ) (fault : Option BadKind) → AreOrderly before
    → fault_at on before line ≡ fault
    → Follows before (counted before (after_line before line) (answer_by on before line fault).ending)
follows_line on before line (Some kind) orderly is = follows-same before orderly
follows_line on before line None orderly is =
    let effects = effect (uuids_in on) before line orderly is in
    follows-if before (after_line before line) (is_done (answer_by on before line None).ending) orderly
    (record { orderly = orderly-behind before (after_line before line) orderly effects; booted = effect_booted before (after_line before line) effects })

follows : (on : Platform) (before : NotifyFront) (input : Input) → AreOrderly before → Follows before (after_heard on before input)
follows on before (heard.Line line) orderly = follows_line on before line (fault_at on before line) orderly refl
follows on before heard.Long orderly = follows-same before orderly
follows on before heard.Cut orderly = follows-same before orderly

-- ---- a line

-- what a line comes to: it asks; it turns history off, or is refused that; or it is one of a trace with signals
pub data Comes (on : Platform) (here : Position) (input : Input) : Type 0 where
  Asks : is_plain input ≡ false → (position_after on here input).lines ≡ here.lines → Comes on here input
  Turns : is_plain input ≡ false → turns_history input ≡ true
      → (position_after on here input).lines ≡ history_turned on here.lines (line_of input) → Comes on here input
  Others : is_plain input ≡ true → (position_after on here input).lines ≡ lines_after_other on here.lines input
      → Comes on here input

abbrev plain_by : Option QuestionKind → Bool → Bool
plain_by o turns = is_none o && not turns

comes : (on : Platform) (here : Position) (input : Input) (o : Option QuestionKind) (turns : Bool) → kind_asked_by input ≡ o
    → turns_history input ≡ turns → Comes on here input
comes on here input (Some kind) turns asks is =
    Asks (ap (λ (o : Option QuestionKind). plain_by o (turns_history input)) asks) (after_lines on here input (Some kind) asks)
comes on here input None true asks is =
    Turns (ap (λ (o : Option QuestionKind). plain_by o (turns_history input)) asks ∙ ap not is) is
    (after_lines on here input None asks ∙ lines_by on here.lines input true is)
comes on here input None false asks is =
    Others (ap (λ (o : Option QuestionKind). plain_by o (turns_history input)) asks ∙ ap not is)
    (after_lines on here input None asks ∙ lines_by on here.lines input false is)

pub come : (on : Platform) (here : Position) (input : Input) → Comes on here input
come on here input = comes on here input (kind_asked_by input) (turns_history input) refl refl

-- where it stands then
record Goes (before after : LiveFront) : Type 0 where
  orderly : AreOrderly after.told
  booted : is_some before.told.trace.boot ≡ true → is_some after.told.trace.boot ≡ true
  forgets : is_some before.told.trace.boot ≡ true → after.forgets ≡ before.forgets

goes-same : (lines : LiveFront) → AreOrderly lines.told → Goes lines lines
goes-same lines orderly = record { orderly = orderly; booted = λ there. there; forgets = λ there. refl }

goes : (on : Platform) (here : Position) (input : Input) → AreOrderly here.lines.told → Comes on here input
    → Goes here.lines (position_after on here input).lines
goes on here input orderly (Asks plain is) = subst (Goes here.lines) (sym is) (goes-same here.lines orderly)
goes on here input orderly (Turns plain turns is) =
    let turned : LiveFront = history_turned on here.lines (line_of input) in
    let told = turned-told here.lines (history_fault on here.lines (line_of input)) in
    subst (Goes here.lines) (sym is) (record {
      orderly = subst AreOrderly (sym told) orderly;
      booted = λ there. ap (λ (f : NotifyFront). is_some f.trace.boot) told ∙ there;
      forgets = λ there. ap (λ (l : LiveFront). l.forgets) (booted_turned on here.lines input turns there);
    })
goes on here input orderly (Others plain is) =
    let f = follows (platform_at on here.lines) here.lines.told input orderly in
    subst (Goes here.lines) (sym is) (record { orderly = f.orderly; booted = f.booted; forgets = λ there. refl })

goes-on : (one other third : LiveFront) → Goes one other → Goes other third → Goes one third
goes-on one other third a b = record {
  orderly = b.orderly;
  booted = λ there. b.booted (a.booted there);
  forgets = λ there. b.forgets (a.booted there) ∙ a.forgets there;
}

goes_behind : (on : Platform) (here : Position) (inputs : List Input) → AreOrderly here.lines.told
    → Goes here.lines (position_behind on here inputs).lines
goes_behind on here [] orderly = goes-same here.lines orderly
goes_behind on here (input ∷ inputs) orderly =
    let first = goes on here input orderly (come on here input) in
    goes-on here.lines (position_after on here input).lines (position_behind on here (input ∷ inputs)).lines first
    (goes_behind on (position_after on here input) inputs first.orderly)

-- ---- the lines of a trace with signals, among all

filter_by : (input : Input) (inputs : List Input) (plain : Bool) → is_plain input ≡ plain
    → filter is_plain (input ∷ inputs) ≡ cond plain (input ∷ filter is_plain inputs) (filter is_plain inputs)
filter_by input inputs plain e = ap (λ (b : Bool). cond b (input ∷ filter is_plain inputs) (filter is_plain inputs)) e

-- where entries read so much behind these lines
abbrev most_at : Platform → LiveFront → ℕ
most_at on lines = (platform_at on lines).most_bytes

-- a line of a header, or of a core whose history stays as it is, counts the same
counts_alike : (on : Platform) (lines last : LiveFront) (input : Input) (boot : Option Boot) → lines.told.trace.boot ≡ boot
    → AreOrderly lines.told → (is_some boot ≡ true → last.forgets ≡ lines.forgets)
    → after_heard (platform_at on lines) lines.told input ≡ after_heard (platform_at on last) lines.told input
counts_alike on lines last input None there orderly stays =
    heard-alike on (most_at on lines) (most_at on last) lines.told input orderly there
counts_alike on lines last input (Some boot) there orderly stays =
    ap (λ (forgets : Bool). after_heard (within on (if forgets then 2 ^ 63 else on.most_bytes)) lines.told input)
    (sym (stays refl))

-- behind lines in order, where what comes next does so
without_by : (on : Platform) (here : Position) (input : Input) (inputs : List Input) → AreOrderly here.lines.told
    → (position_behind on here (input ∷ inputs)).lines.told
    ≡ after_all (platform_at on (position_behind on here (input ∷ inputs)).lines) (position_after on here input).lines.told
    (filter is_plain inputs)
    → Comes on here input
    → (position_behind on here (input ∷ inputs)).lines.told
    ≡ after_all (platform_at on (position_behind on here (input ∷ inputs)).lines) here.lines.told (filter is_plain (input ∷ inputs))
without_by on here input inputs orderly rest (Asks plain is) =
    let there : Platform = platform_at on (position_behind on here (input ∷ inputs)).lines in
    rest
    ∙ ap (λ (l : LiveFront). after_all there l.told (filter is_plain inputs)) is
    ∙ ap (after_all there here.lines.told) (sym (filter_by input inputs false plain))
without_by on here input inputs orderly rest (Turns plain turns is) =
    let there : Platform = platform_at on (position_behind on here (input ∷ inputs)).lines in
    rest
    ∙ ap (λ (l : LiveFront). after_all there l.told (filter is_plain inputs)) is
    ∙ ap (λ (f : NotifyFront). after_all there f (filter is_plain inputs))
    (turned-told here.lines (history_fault on here.lines (line_of input)))
    ∙ ap (after_all there here.lines.told) (sym (filter_by input inputs false plain))
without_by on here input inputs orderly rest (Others plain is) =
    let last : LiveFront = (position_behind on here (input ∷ inputs)).lines in
    let there : Platform = platform_at on last in
    let alike = counts_alike on here.lines last input here.lines.told.trace.boot refl orderly
    (goes_behind on here (input ∷ inputs) orderly).forgets in
    rest
    ∙ ap (λ (l : LiveFront). after_all there l.told (filter is_plain inputs)) is
    ∙ ap (λ (f : NotifyFront). after_all there f (filter is_plain inputs)) alike
    ∙ ap (after_all there here.lines.told) (sym (filter_by input inputs true plain))

as_without : (on : Platform) (here : Position) (inputs : List Input) → AreOrderly here.lines.told
    → (position_behind on here inputs).lines.told
    ≡ after_all (platform_at on (position_behind on here inputs).lines) here.lines.told (filter is_plain inputs)
as_without on here [] orderly = refl
as_without on here (input ∷ inputs) orderly =
    let comes = come on here input in
    without_by on here input inputs orderly
    (as_without on (position_after on here input) inputs (goes on here input orderly comes).orderly) comes

-- where no line turns history off, behind any lines
stays_by : (on : Platform) (here : Position) (input : Input) → Comes on here input → not (turns_history input) ≡ true
    → (position_after on here input).lines.forgets ≡ here.lines.forgets
stays_by on here input (Asks plain is) keeps = ap (λ (l : LiveFront). l.forgets) is
stays_by on here input (Turns plain turns is) keeps =
    absurd (let no : not true ≡ true = ap not (sym turns) ∙ keeps in cc)
stays_by on here input (Others plain is) keeps = ap (λ (l : LiveFront). l.forgets) is

stays : (on : Platform) (here : Position) (inputs : List Input) → list_all keeps_history inputs ≡ true
    → (position_behind on here inputs).lines.forgets ≡ here.lines.forgets
stays on here [] keeps = refl
stays on here (input ∷ inputs) keeps =
    let parts = and_parts (keeps_history input) (list_all keeps_history inputs) keeps in
    stays on (position_after on here input) inputs parts.1 ∙ stays_by on here input (come on here input) parts.0

kept_by : (on : Platform) (here : Position) (input : Input) (inputs : List Input) → not (turns_history input) ≡ true
    → (position_behind on here (input ∷ inputs)).lines.told
    ≡ after_all (platform_at on (position_after on here input).lines) (position_after on here input).lines.told
    (filter is_plain inputs)
    → Comes on here input
    → (position_behind on here (input ∷ inputs)).lines.told
    ≡ after_all (platform_at on here.lines) here.lines.told (filter is_plain (input ∷ inputs))
kept_by on here input inputs keeps rest (Asks plain is) =
    rest
    ∙ ap (λ (l : LiveFront). after_all (platform_at on l) l.told (filter is_plain inputs)) is
    ∙ ap (after_all (platform_at on here.lines) here.lines.told) (sym (filter_by input inputs false plain))
kept_by on here input inputs keeps rest (Turns plain turns is) =
    absurd (let no : not true ≡ true = ap not (sym turns) ∙ keeps in cc)
kept_by on here input inputs keeps rest (Others plain is) =
    rest
    ∙ ap (λ (l : LiveFront). after_all (platform_at on l) l.told (filter is_plain inputs)) is
    ∙ ap (after_all (platform_at on here.lines) here.lines.told) (sym (filter_by input inputs true plain))

kept_without : (on : Platform) (here : Position) (inputs : List Input) → list_all keeps_history inputs ≡ true
    → (position_behind on here inputs).lines.told
    ≡ after_all (platform_at on here.lines) here.lines.told (filter is_plain inputs)
kept_without on here [] keeps = refl
kept_without on here (input ∷ inputs) keeps =
    let parts = and_parts (keeps_history input) (list_all keeps_history inputs) keeps in
    kept_by on here input inputs parts.0 (kept_without on (position_after on here input) inputs parts.1) (come on here input)

-- ---- the law

shown-next : (on : Platform) (here : Position) (input : Input) → is_plain input ≡ true
    → shown_to on here input ≡ shown_to_other on here input
shown-next on here input plain = other_shown on here input (is_other input plain)

kept_as : (on : Platform) (here : Position) (inputs : List Input) → list_all keeps_history inputs ≡ true
    → IsAsWithout on here inputs
kept_as on here inputs keeps = record {
  lines = kept_without on here inputs keeps
      ∙ ap (λ (forgets : Bool). after_all (within on (if forgets then 2 ^ 63 else on.most_bytes)) here.lines.told (filter is_plain inputs))
      (sym (stays on here inputs keeps));
  shown = shown-next on (position_behind on here inputs);
}

behind-parts : (on : Platform) (here : Position) (front behind : List Input)
    → position_behind on here (front ++ behind) ≡ position_behind on (position_behind on here front) behind
behind-parts on here [] behind = refl
behind-parts on here (input ∷ front) behind = behind-parts on (position_after on here input) front behind

pub history_off_forgets_alone : HistoryOffForgetsAlone
history_off_forgets_alone = record {
  turned = λ on here input turns.
      let asks = turning_asks input turns in (
        shown_by on here input None asks ∙ unasked_by on here input true turns,
        after_question on here input None asks ∙ ap (λ (lines : LiveFront). record here { lines = lines }) (lines_by on here.lines input true turns),
      );
  stays = kept_as;
  kept = stays;
  in_order = λ on inputs. record {
    lines = as_without on first_position inputs orderly-first;
    shown = shown-next on (position_behind on first_position inputs);
  };
  booted = λ on front behind there.
      let orderly = (goes_behind on first_position front orderly-first).orderly in
      ap (λ (p : Position). p.lines.forgets) (behind-parts on first_position front behind)
      ∙ (goes_behind on (position_behind on first_position front) behind orderly).forgets there;
}

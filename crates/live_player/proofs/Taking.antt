-- What a line says that keeps its rules, and where the player stands behind it.
use Rattle.std.proofs.Common.{◌≡◌, ℕ, ◌^◌, ◌≤◌, Bool, true, false, cond, List, [], ◌∷◌, ◌++◌, append-nil, length, Option, Some, None, refl, sym, ap, subst, ◌∙◌, arith}
use Rattle.std.specs.Prelude.{All, IfNone, IfOk, IfSome, IsSome, Result, Ok, Err, codes, if◌then◌else◌, is_none, is_some, not}
use Rattle.std.specs.List.{flat_map, list_all}
use Rattle.std.specs.Option.{option_map_or}
use Rattle.std.specs.Str.{bytes_eq}
use Rattle.std.proofs.lemmas.Bool.{and_parts}
use Rattle.std.proofs.lemmas.List.{append_cancel_left, length-append}
use Rattle.std.proofs.lemmas.List.Elements.{All-push}
use Rattle.kernel_model.specs.Application.{IsBooted, Native, booted}
use Rattle.kernel_state.specs.declared.terms.Terms.{Terms}
use Rattle.line_port.specs.History as heard
use Rattle.live_play.specs.Answer.{Answer, Bad, Ending, IsPlayed, Platform, after_heard, answer_between, answer_to_line, fault_at, is_done, platform, platform_within, play_at, uuids_in, without_lines}
use Rattle.live_play.specs.Answer as ends
use Rattle.live_play.specs.Showing.{history_ending, lines_after, platform_at, within}
use Rattle.live_play.proofs.Asked.{lines_by}
use Rattle.live_play.proofs.Effects.{IsHeader}
use Rattle.live_play.proofs.Forgetting.{quiet_answer}
use Rattle.live_play.proofs.Talking.{answer_by}
use Rattle.live_player.specs.Header.{terms_where}
use Rattle.live_player.specs.Standing.{HasCome, IsOpen, IsWithin, StageAt, StandsAt, keeping, terms_on}
use Rattle.live_player.specs.Taking.{Answers, IsNext, IsPlaced, Judges, Takes, TakesOn, answer_behind, counted, ending_of}
use Rattle.live_player.specs.declared.player.LivePlayer.{LivePlayer}
use Rattle.live_player.specs.declared.stage.Stage.{Stage}
use Rattle.live_player.specs.declared.stage.Stage.TheVariants as stage
use Rattle.live_player.specs.declared.taken.Taken.{Taken}
use Rattle.live_player.specs.declared.taken.Taken.TheVariants as taken
use Rattle.live_player.proofs.Staging.{begun, header_of}
use Rattle.live_text.specs.Rules.{LiveFront, history_rules, is_history, with_told, without_history}
use Rattle.live_text.specs.Rules as live
use Rattle.live_text.specs.Scene.{IsSceneOf, LiveScene}
use Rattle.live_text.specs.Scene as live_scene
use Rattle.live_text.specs.Sound.{AreSound, LinesStaySound}
use Rattle.live_text.specs.Statement as live_says
use Rattle.live_text.specs.declared.line.LiveLine.{LiveLine}
use Rattle.live_text.specs.declared.line.LiveLine.TheVariants as line_says
use Rattle.live_text.specs.declared.question.Question.{Question}
use Rattle.trace_text.specs.declared.statement.Statement.{Statement}
use Rattle.trace_text.specs.declared.statement.Statement.TheVariants as says
use Rattle.notify_play.specs.NotifyPlay.{Drivers, NotifyPlay}
use Rattle.notify_text.specs.Rules.{NotifyFront, after_line, has_no_signal, is_signal, line_rules, other_rules, signal_rules, with_signal}
use Rattle.notify_text.specs.Rules as told_rules
use Rattle.notify_text.specs.Sound.{IsSoundSignal}
use Rattle.notify_text.specs.Statement.{HasItsBoot, IsEmpty, scene_of, with_statement}
use Rattle.notify_text.specs.declared.notify_trace.Signal.{Signal}
use Rattle.notify_text.proofs.Lines.{after-same, after-signal, after-skipped, rules-by-words}
use Rattle.play_model.specs.Line.{Line, text_of_line}
use Rattle.shown_lines.specs.Asking.{CanTell}
use Rattle.ta_isa.specs.declared.boot.Boot.{Boot}
use Rattle.text_lines.specs.Lines.{is_skipped}
use Rattle.text_lines.specs.Words.{words_of}
use Rattle.trace_player.proofs.Booting.{AreApart, sound_boots}
use Rattle.trace_player.specs.Starting.{uuids_of}
use Rattle.trace_text.specs.Forms.{decimal}
use Rattle.trace_text.specs.Limits.{SceneState, first_broken, has_no_item}
use Rattle.trace_text.specs.Rules.{counts, is_text_byte, kind_named, word}
use Rattle.trace_text.specs.Sound.{IsSoundBoot}
use Rattle.trace_text.specs.Statement.{IsInPlace}
use Rattle.trace_text.specs.declared.fault.BadKind.{BadKind}
use Rattle.trace_text.specs.declared.fault.BadKind.TheVariants as bad
use Rattle.trace_text.specs.declared.fault.LineFault.{LineFault}
use Rattle.trace_text.specs.declared.fault.LineFault.TheVariants.{Broken, NoRoom}
use Rattle.trace_text.specs.declared.item.Item.{Item}
use Rattle.trace_text.proofs.SoundLaws.{are_kept}
use Rattle.trace_text.proofs.SoundWords.{within as between}

-- ---- the value of a signal

-- a signal more is no line that adds none
no_more : (lines : NotifyFront) (value : ℕ) (after : NotifyFront) → with_signal lines value ≡ after
    → after.signals ≡ lines.signals → ⊥
no_more lines value after is same =
    let signal : Signal = record { at = length lines.trace.items; value = value } in
    let longer : length (lines.signals ++ signal ∷ []) ≡ length lines.signals =
    ap (λ (f : NotifyFront). length f.signals) is ∙ ap (λ (l : List Signal). length l) same in
    omega (arith, longer, length-append lines.signals (signal ∷ []))

first_value : List Signal → ℕ
first_value [] = 0
first_value (signal ∷ signals) = signal.value

same_value : (lines : NotifyFront) (value other : ℕ) → with_signal lines value ≡ with_signal lines other → value ≡ other
unfolding first_value
same_value lines value other is =
    ap first_value (append_cancel_left lines.signals _ _ (ap (λ (f : NotifyFront). f.signals) is))

abbrev IsValue : ℕ → Type 0
IsValue value = (1 ≤ value) × (value ≤ 63)

value_by_words : (signal : Bool) (natives : List (List ℕ)) (lines : NotifyFront) (line : List ℕ) (value : ℕ)
    → is_skipped line ≡ false → is_signal (words_of line) ≡ signal
    → first_broken (cond signal (signal_rules lines (words_of line))
    (other_rules (kind_named (word (words_of line) 0)) natives lines (words_of line))) ≡ None
    → with_signal lines value ≡ after_line lines line → IsValue value
value_by_words true natives lines line value some is kept adds =
    let rules = are_kept (signal_rules lines (words_of line)) kept in
    let other : ℕ = decimal (word (words_of line) 1) in
    let same : value ≡ other = same_value lines value other (adds ∙ after-signal lines line some is) in
    subst IsValue (sym same) (between 1 63 other rules.1.1.1.0)
value_by_words false natives lines line value some is kept adds =
    absurd (no_more lines value (after_line lines line) adds
    (ap (λ (f : NotifyFront). f.signals) (after-same lines line is)))

line_is_text : (natives : List (List ℕ)) (lines : NotifyFront) (line : List ℕ)
    → first_broken (line_rules natives lines true line) ≡ None → list_all is_text_byte line ≡ true
unfolding line_rules
line_is_text natives lines line kept = (are_kept (line_rules natives lines true line) kept).0

value_by : (skipped : Bool) (natives : List (List ℕ)) (lines : NotifyFront) (line : List ℕ) (value : ℕ)
    → is_skipped line ≡ skipped → first_broken (line_rules natives lines true line) ≡ None
    → with_signal lines value ≡ after_line lines line → IsValue value
value_by true natives lines line value is kept adds =
    absurd (no_more lines value (after_line lines line) adds (ap (λ (f : NotifyFront). f.signals) (after-skipped lines line is)))
value_by false natives lines line value is kept adds =
    value_by_words (is_signal (words_of line)) natives lines line value is refl
    (sym (rules-by-words natives lines line (line_is_text natives lines line kept) is) ∙ kept) adds

-- ---- what comes next

wider : (few more : ℕ) (signals : List Signal) → few ≤ more → All (IsSoundSignal few) signals → All (IsSoundSignal more) signals
wider few more signals le all = λ k d lt.
    let sound = all k d lt in
    record { some = sound.some; few = sound.few; there = omega (arith, le, sound.there) }

signal_pushed : (items value : ℕ) (signals : List Signal) → IsValue value → All (IsSoundSignal items) signals
    → All (IsSoundSignal items) (signals ++ record { at = items; value = value } ∷ [])
signal_pushed items value signals is all =
    All-push (IsSoundSignal items) signals (record { at = items; value = value }) all
    (record { some = is.0; few = is.1; there = omega arith })

signals_next : (natives : List (List ℕ)) (lines : NotifyFront) (line : List ℕ) (said : Statement)
    → first_broken (line_rules natives lines true line) ≡ None → with_statement lines said ≡ after_line lines line
    → All (IsSoundSignal (length lines.trace.items)) lines.signals
    → All (IsSoundSignal (length (with_statement lines said).trace.items)) (with_statement lines said).signals
signals_next natives lines line says.Blank kept adds all = all
signals_next natives lines line (says.Boot size) kept adds all = all
signals_next natives lines line (says.App app) kept adds all = all
signals_next natives lines line (says.Fill fill) kept adds all = all
signals_next natives lines line (says.Key key) kept adds all = all
signals_next natives lines line (says.Item i) kept adds all =
    wider (length lines.trace.items) (length (lines.trace.items ++ i ∷ [])) lines.signals
    (omega (arith, length-append lines.trace.items (i ∷ []))) all
signals_next natives lines line (says.Signal value) kept adds all =
    signal_pushed (length lines.trace.items) value lines.signals
    (value_by (is_skipped line) natives lines line value refl kept adds) all

-- a header is what has no item and no signal
no_items : (items : List Item) → has_no_item items ≡ true → items ≡ []
no_items [] e = refl
no_items (i ∷ items) e = absurd cc

no_signals : (signals : List Signal) → has_no_signal signals ≡ true → signals ≡ []
no_signals [] e = refl
no_signals (signal ∷ signals) e = absurd cc

alone : (scene : SceneState) (lines : NotifyFront) → scene ≡ scene_of lines → scene.is_open ≡ true → IsOpen lines
alone scene lines is is_open =
    let both = and_parts (has_no_item lines.trace.items) (has_no_signal lines.signals)
    (sym (ap (λ (s : SceneState). s.is_open) is) ∙ is_open) in
    record { items = no_items lines.trace.items both.0; signals = no_signals lines.signals both.1 }

unbooted : (lines : NotifyFront) (boot : Option Boot) → lines.trace.boot ≡ boot → is_some boot ≡ false
    → HasItsBoot lines → IsOpen lines
unbooted lines None there none has =
    let P : Option Boot → Type 0 = λ o. IfNone o (IsEmpty lines) in
    let empty : IsEmpty lines = subst P there has in
    record { items = empty.items; signals = empty.signals }
unbooted lines (Some boot) there none has = absurd cc

placed_next : (scene : SceneState) (lines : NotifyFront) (said : Statement) → scene ≡ scene_of lines → HasItsBoot lines
    → IsInPlace scene said → IsPlaced lines said
placed_next scene lines says.Blank is has place = tt
placed_next scene lines (says.Boot size) is has place =
    unbooted lines lines.trace.boot refl (sym (ap (λ (s : SceneState). s.is_booted) is) ∙ place) has
placed_next scene lines (says.App app) is has place = alone scene lines is place.is_open
placed_next scene lines (says.Fill fill) is has place = alone scene lines is place.is_open
placed_next scene lines (says.Key key) is has place = alone scene lines is place.is_open
placed_next scene lines (says.Item i) is has place = tt
placed_next scene lines (says.Signal value) is has place = tt

next_of : (on : Platform) (lines : NotifyFront) (line : List ℕ) (said : Statement) (scene : SceneState)
    → IsWithin on lines → scene ≡ scene_of lines → AreSound (uuids_in on) (keeping (after_line lines line))
    → fault_at on lines line ≡ None → with_statement lines said ≡ after_line lines line → IsInPlace scene said
    → IsNext on lines said
next_of on lines line said scene inside is sound kept adds place = record {
  within = inside;
  next = record {
    sound = subst (λ (f : NotifyFront). AreSound (uuids_in on) (keeping f)) (sym adds) sound;
    signals = signals_next (uuids_in on) lines line said kept adds inside.signals;
  };
  placed = placed_next scene lines said is inside.sound.no_boot place;
}

-- limits look at the trace with signals alone
sound_kept : (natives : List (List ℕ)) (lines : LiveFront) → AreSound natives lines → AreSound natives (keeping lines.told)
sound_kept natives lines sound = record {
  no_boot = sound.no_boot;
  boot = sound.boot;
  fills = sound.fills;
  items = sound.items;
  in_turn = sound.in_turn;
}

pub none_sound : (natives : List (List ℕ)) → AreSound natives live.no_lines → AreSound natives (keeping told_rules.no_lines)
none_sound natives sound = sound_kept natives live.no_lines sound

sound_off : (natives : List (List ℕ)) (lines : LiveFront) → AreSound natives (keeping lines.told) → AreSound natives lines
sound_off natives lines sound = record {
  no_boot = sound.no_boot;
  boot = sound.boot;
  fills = sound.fills;
  items = sound.items;
  in_turn = sound.in_turn;
}

-- ---- what came of it

-- the answer to a line that keeps its rules
answer_kept : (on : Platform) (lines : NotifyFront) (line : List ℕ) → fault_at on lines line ≡ None
    → answer_to_line on lines line ≡ answer_between on lines (after_line lines line)
answer_kept on lines line kept =
    ap (answer_by on lines line) kept

-- to one that breaks a rule
answer_broken : (on : Platform) (lines : NotifyFront) (line : List ℕ) (kind : BadKind) → fault_at on lines line ≡ Some kind
    → answer_to_line on lines line ≡ without_lines (Bad kind)
answer_broken on lines line kind broken =
    ap (answer_by on lines line) broken

-- the lines that count behind an answer that ends so
behind_ending : (on : Platform) (lines : NotifyFront) (line : List ℕ) (ending : Ending)
    → (answer_to_line on lines line).ending ≡ ending
    → after_heard on lines (heard.Line line) ≡ cond (is_done ending) (after_line lines line) lines
behind_ending on lines line ending is =
    ap (λ (e : Ending). cond (is_done e) (after_line lines line) lines) is

counted_so : (how : Taken) (before after : NotifyFront) → cond (is_done (ending_of how)) after before ≡ counted how before after
counted_so taken.Done before after = refl
counted_so (taken.Full copied) before after = refl

-- ---- what a line says

-- the rules of a line, and what counts behind it, by whether it begins with `history`
abbrev turning_rules : LiveFront → List ℕ → List (BadKind × Bool)
turning_rules lines line =
    (bad.Byte, list_all is_text_byte line) ∷ (bad.Cut, true) ∷ history_rules lines (words_of line)

rules_by : (natives : List (List ℕ)) (lines : LiveFront) (line : List ℕ) (is : Bool) → is_history (words_of line) ≡ is
    → live.line_rules natives lines true line
    ≡ cond is (turning_rules lines line) (line_rules natives lines.told true line)
unfolding live.line_rules
rules_by natives lines line is e =
    ap (λ (b : Bool). cond b (turning_rules lines line) (line_rules natives lines.told true line)) e

after_by : (lines : LiveFront) (line : List ℕ) (is : Bool) → is_history (words_of line) ≡ is
    → live.after_line lines line ≡ cond is (without_history lines) (with_told lines (after_line lines.told line))
unfolding live.after_line
after_by lines line is e =
    ap (λ (b : Bool). cond b (without_history lines) (with_told lines (after_line lines.told line))) e

pub answer_by_word : (on : Platform) (lines : LiveFront) (line : List ℕ) (is : Bool) → is_history (words_of line) ≡ is
    → answer_behind on lines line
    ≡ cond is (without_lines (history_ending on lines line)) (answer_to_line (platform_at on lines) lines.told line)
answer_by_word on lines line is e =
    ap (λ (b : Bool). cond b (without_lines (history_ending on lines line)) (answer_to_line (platform_at on lines) lines.told line)) e

-- what a line says adds to the trace with signals alone
pub adds_told : (lines : LiveFront) (said : Statement)
    → live_says.with_statement lines said ≡ with_told lines (with_statement lines.told said)
adds_told lines says.Blank = refl
adds_told lines (says.Boot size) = refl
adds_told lines (says.App app) = refl
adds_told lines (says.Fill fill) = refl
adds_told lines (says.Key key) = refl
adds_told lines (says.Item i) = refl
adds_told lines (says.Signal value) = refl

-- it keeps its rules and says this, which can come behind these lines
pub record Says (on : Platform) (lines : LiveFront) (line : List ℕ) (said : Statement) : Type 0 where
  pub kept : fault_at (platform_at on lines) lines.told line ≡ None
  pub leads : with_statement lines.told said ≡ after_line lines.told line
  pub next : IsNext (platform_at on lines) lines.told said
  pub plain : is_history (words_of line) ≡ false

-- it turns history off
pub record Forgets (on : Platform) (lines : LiveFront) (line : List ℕ) : Type 0 where
  pub unbooted : lines.told.trace.boot ≡ None
  pub answer : answer_behind on lines line ≡ without_lines ends.Done
  pub after : lines_after on lines (heard.Line line) ≡ without_history lines

-- it breaks this rule
pub record Faults (on : Platform) (lines : LiveFront) (line : List ℕ) (kind : BadKind) : Type 0 where
  pub answer : answer_behind on lines line ≡ without_lines (Bad kind)
  pub after : lines_after on lines (heard.Line line) ≡ lines

-- what was read of it: what it says, or which rule it breaks; of want of memory nothing is said
abbrev pub Reads : Platform → LiveFront → List ℕ → Result LiveLine LineFault → Type 0
Reads on lines line (Ok (line_says.Says said)) = Says on lines line said
Reads on lines line (Ok line_says.HistoryOff) = Forgets on lines line
Reads on lines line (Err (Broken kind)) = Faults on lines line kind
Reads on lines line (Err NoRoom) = Unit {0}

-- the last rule of a line `history off`
last_kept : (byte item count place repeat : Bool)
    → first_broken ((bad.Byte, byte) ∷ (bad.Cut, true) ∷ (bad.Item, item) ∷ (bad.Count, count) ∷ (bad.Place, place) ∷ (bad.Repeat, repeat) ∷ [])
    ≡ None → repeat ≡ true
last_kept true true true true true e = refl
last_kept true true true true false e = absurd cc
last_kept true true true false repeat e = absurd cc
last_kept true true false place repeat e = absurd cc
last_kept true false count place repeat e = absurd cc
last_kept false item count place repeat e = absurd cc

turning_kept : (lines : LiveFront) (line : List ℕ) → first_broken (turning_rules lines line) ≡ None → not lines.forgets ≡ true
turning_kept lines line e =
    last_kept (list_all is_text_byte line) (bytes_eq (word (words_of line) 1) (codes "off")) (counts 1 (words_of line))
    (is_none lines.told.trace.boot) (not lines.forgets) e

-- what is said stands beside whether history is off, so a line that says it doesn't turn it off
says_by : (on : Platform) (lines : LiveFront) (line : List ℕ) (said : Statement) (scene : SceneState) (is : Bool)
    → is_history (words_of line) ≡ is → LinesStaySound → IsWithin (platform_at on lines) lines.told
    → scene ≡ scene_of lines.told → first_broken (live.line_rules (uuids_in on) lines true line) ≡ None
    → live_says.with_statement lines said ≡ live.after_line lines line → IsInPlace scene said → Says on lines line said
says_by on lines line said scene true is stay inside scened kept adds place =
    let repeat : not lines.forgets ≡ true =
    turning_kept lines line (sym (ap first_broken (rules_by (uuids_in on) lines line true is)) ∙ kept) in
    let forgets : lines.forgets ≡ true =
    ap (λ (l : LiveFront). l.forgets) (sym (adds_told lines said) ∙ adds ∙ after_by lines line true is) in
    absurd (let no : not true ≡ true = ap not (sym forgets) ∙ repeat in cc)
says_by on lines line said scene false is stay inside scened kept adds place =
    let keeps : fault_at (platform_at on lines) lines.told line ≡ None =
    sym (ap first_broken (rules_by (uuids_in on) lines line false is)) ∙ kept in
    let leads : with_statement lines.told said ≡ after_line lines.told line =
    ap (λ (l : LiveFront). l.told) (sym (adds_told lines said) ∙ adds ∙ after_by lines line false is) in
    let sound : AreSound (uuids_in on) (keeping (after_line lines.told line)) =
    subst (λ (l : LiveFront). AreSound (uuids_in on) (keeping l.told)) (after_by lines line false is)
    (sound_kept (uuids_in on) (live.after_line lines line)
    (stay.onward (uuids_in on) lines line (sound_off (uuids_in on) lines inside.sound) kept)) in
    record {
      kept = keeps;
      leads = leads;
      next = next_of (platform_at on lines) lines.told line said scene inside scened sound keeps leads place;
      plain = is;
    }

none_some : (boot : Option Boot) → is_some boot ≡ false → boot ≡ None
none_some None e = refl
none_some (Some boot) e = absurd cc

forgets_by : (on : Platform) (lines : LiveFront) (line : List ℕ) (is : Bool) → is_history (words_of line) ≡ is
    → IsOpen lines.told → lines.told.trace.boot ≡ None
    → first_broken (live.line_rules (uuids_in on) lines true line) ≡ None
    → without_history lines ≡ live.after_line lines line → Forgets on lines line
forgets_by on lines line true is is_open none kept adds = record {
  unbooted = none;
  answer = answer_by_word on lines line true is
      ∙ ap (λ (fault : Option BadKind). without_lines (option_map_or Bad fault ends.Done)) kept;
  after = lines_by on lines (heard.Line line) true is
      ∙ ap (λ (fault : Option BadKind). option_map_or (λ (kind : BadKind). lines) fault (without_history lines)) kept;
}
forgets_by on lines line false is is_open none kept adds =
    let there : Platform = platform_at on lines in
    let both = adds ∙ after_by lines line false is in
    let same : lines.told ≡ after_line lines.told line = ap (λ (l : LiveFront). l.told) both in
    let off : true ≡ lines.forgets = ap (λ (l : LiveFront). l.forgets) both in
    let header = header_of lines.told is_open in
    let keeps : fault_at there lines.told line ≡ None =
    sym (ap first_broken (rules_by (uuids_in on) lines line false is)) ∙ kept in
    let answered : answer_to_line there lines.told line ≡ without_lines ends.Done =
    answer_kept there lines.told line keeps
    ∙ quiet_answer there lines.told (after_line lines.told line) header (subst IsHeader same header) in
    record {
      unbooted = none;
      answer = answer_by_word on lines line false is ∙ answered;
      after = lines_by on lines (heard.Line line) false is
          ∙ ap (with_told lines) (behind_ending there lines.told line ends.Done (ap (λ (a : Answer). a.ending) answered) ∙ sym same)
          ∙ ap (λ (forgets : Bool). record lines { forgets = forgets }) (sym off);
    }

faults_by : (on : Platform) (lines : LiveFront) (line : List ℕ) (kind : BadKind) (is : Bool) → is_history (words_of line) ≡ is
    → first_broken (live.line_rules (uuids_in on) lines true line) ≡ Some kind → Faults on lines line kind
faults_by on lines line kind true is broken = record {
  answer = answer_by_word on lines line true is
      ∙ ap (λ (fault : Option BadKind). without_lines (option_map_or Bad fault ends.Done)) broken;
  after = lines_by on lines (heard.Line line) true is
      ∙ ap (λ (fault : Option BadKind). option_map_or (λ (kind : BadKind). lines) fault (without_history lines)) broken;
}
faults_by on lines line kind false is broken =
    let there : Platform = platform_at on lines in
    let breaks : fault_at there lines.told line ≡ Some kind =
    sym (ap first_broken (rules_by (uuids_in on) lines line false is)) ∙ broken in
    let answered = answer_broken there lines.told line kind breaks in
    record {
      answer = answer_by_word on lines line false is ∙ answered;
      after = lines_by on lines (heard.Line line) false is
          ∙ ap (with_told lines) (behind_ending there lines.told line (ends.Bad kind) (ap (λ (a : Answer). a.ending) answered));
    }

-- beside the UUIDs of the applications, by a player that has come to the lines
pub read_as : {on : Platform} {lines : LiveFront} {player : LivePlayer} (uuids : List (List ℕ)) (line : List ℕ)
    (result : Result LiveLine LineFault) → uuids ≡ uuids_in on → LinesStaySound
    → ((front : LiveFront) → IsSceneOf player.scene front → live_scene.HasItsBoot front
    → live_says.IsJudged result (live.line_rules uuids front true line) front (live.after_line front line))
    → IfOk result (live_says.IsInPlace player.scene)
    → HasCome on lines player → Reads on lines line result
read_as {on} {lines} {player} uuids line (Ok (line_says.Says said)) same stay judged place come =
    let is = judged lines come.scene come.within.sound.no_boot in
    says_by on lines line said player.scene.lines (is_history (words_of line)) refl stay come.within
    (ap (λ (s : LiveScene). s.lines) come.scene)
    (subst (λ (us : List (List ℕ)). first_broken (live.line_rules us lines true line) ≡ None) same is.0) is.1 place
read_as {on} {lines} {player} uuids line (Ok line_says.HistoryOff) same stay judged place come =
    let no_boot = come.within.sound.no_boot in
    let is = judged lines come.scene no_boot in
    let none : is_some lines.told.trace.boot ≡ false = sym (ap (λ (s : LiveScene). s.lines.is_booted) come.scene) ∙ place in
    forgets_by on lines line (is_history (words_of line)) refl
    (unbooted lines.told lines.told.trace.boot refl none no_boot) (none_some lines.told.trace.boot none)
    (subst (λ (us : List (List ℕ)). first_broken (live.line_rules us lines true line) ≡ None) same is.0) is.1
read_as {on} {lines} {player} uuids line (Err (Broken kind)) same stay judged place come =
    faults_by on lines line kind (is_history (words_of line)) refl
    (subst (λ (us : List (List ℕ)). first_broken (live.line_rules us lines true line) ≡ Some kind) same
    (judged lines come.scene come.within.sound.no_boot))
read_as {on} {lines} {player} uuids line (Err NoRoom) same stay judged place come = tt

-- ---- that there is a play

booted_by : (most : ℕ) (natives : List Native) (drivers : Drivers) (lines : NotifyFront) (boot : Option Boot) → lines.trace.boot ≡ boot
    → length (uuids_of natives) ≤ 16 → AreApart (uuids_of natives) → IsOpen lines → IfSome boot (IsSoundBoot (uuids_of natives))
    → IfSome boot (λ (b : Boot). IsBooted (booted b natives) × IsSome (play_at (platform_within most natives drivers) lines))
booted_by most natives drivers lines None there few apart is_open sound = tt
booted_by most natives drivers lines (Some boot) there few apart is_open sound = (
  sound_boots natives boot few apart sound,
  ap (λ (o : Option NotifyPlay). is_some o) (begun (platform_within most natives drivers) boot lines there is_open),
)

staged : (most : ℕ) (natives : List Native) (drivers : Drivers) (lines : NotifyFront) (now : Stage)
    → length (uuids_of natives) ≤ 16 → AreApart (uuids_of natives) → IsWithin (platform_within most natives drivers) lines
    → StageAt (platform_within most natives drivers) lines now → IsPlayed (platform_within most natives drivers) lines
staged most natives drivers lines (stage.Header header) few apart inside at =
    booted_by most natives drivers lines lines.trace.boot refl few apart at.1 inside.sound.boot
staged most natives drivers lines (stage.Core player) few apart inside at =
    let P : Option Boot → Type 0 = λ o. IfSome o
    (λ (b : Boot). IsBooted (booted b natives) × IsSome (play_at (platform_within most natives drivers) lines)) in
    subst P (sym at.0.there) (at.0.boots, ap (λ (o : Option NotifyPlay). is_some o) at.0.play)

-- a player that has come to lines stands behind them, beside built-in applications that are few and apart
pub stands_at : {lines : LiveFront} {player : LivePlayer} (natives : List Native) (drivers : Drivers) (uuids : List (List ℕ))
    → uuids ≡ uuids_of natives → length uuids ≤ 16 → AreApart uuids → HasCome (platform natives drivers) lines player
    → StandsAt (platform natives drivers) lines player
stands_at {lines} {player} natives drivers uuids same few apart come =
    let are_few : length (uuids_of natives) ≤ 16 = subst (λ (us : List (List ℕ)). length us ≤ 16) same few in
    record {
      come = come;
      has_play = staged (if lines.forgets then 2 ^ 63 else 2 ^ 28) natives drivers lines.told player.stage are_few
          (subst AreApart same apart) come.within come.stage_at;
    }

-- ---- what came of the line

-- to a line that keeps its rules and says this, and the lines that count behind it
pub answer_said : (on : Platform) (lines : LiveFront) (line : List ℕ) (said : Statement) → Says on lines line said
    → answer_behind on lines line ≡ answer_between (platform_at on lines) lines.told (with_statement lines.told said)
answer_said on lines line said says =
    let there : Platform = platform_at on lines in
    answer_by_word on lines line false says.plain ∙ answer_kept there lines.told line says.kept
    ∙ ap (answer_between there lines.told) (sym says.leads)

-- of the trace with signals, and of all
pub told_said : (on : Platform) (lines : LiveFront) (line : List ℕ) (said : Statement) (how : Taken) → Says on lines line said
    → (answer_behind on lines line).ending ≡ ending_of how
    → after_heard (platform_at on lines) lines.told (heard.Line line) ≡ counted how lines.told (with_statement lines.told said)
told_said on lines line said how says ending =
    behind_ending (platform_at on lines) lines.told line (ending_of how)
    (sym (ap (λ (a : Answer). a.ending) (answer_by_word on lines line false says.plain)) ∙ ending)
    ∙ counted_so how lines.told (after_line lines.told line)
    ∙ ap (counted how lines.told) (sym says.leads)

pub behind_said : (on : Platform) (lines : LiveFront) (line : List ℕ) (said : Statement) (how : Taken) → Says on lines line said
    → (answer_behind on lines line).ending ≡ ending_of how
    → lines_after on lines (heard.Line line) ≡ with_told lines (counted how lines.told (with_statement lines.told said))
behind_said on lines line said how says ending =
    lines_by on lines (heard.Line line) false says.plain ∙ ap (with_told lines) (told_said on lines line said how says ending)

-- a line that was taken
pub takes : (on : Platform) (lines : LiveFront) (line : List ℕ) (said : Statement) (how : Taken) (player : LivePlayer)
    (old new : List ℕ) → Says on lines line said
    → (HasCome on (lines_after on lines (heard.Line line)) player → StandsAt on (lines_after on lines (heard.Line line)) player)
    → TakesOn on lines said how player old new → Takes on lines line how player old new
takes on lines line said how player old new says plays t =
    let Q : Answer → Type 0 = λ a. Answers a how old new in
    let answers : Answers (answer_behind on lines line) how old new = subst Q (sym (answer_said on lines line said says)) t.answers in
    let behind = behind_said on lines line said how says answers.ending in
    record {
      answers = answers;
      stands = plays (subst (λ (f : LiveFront). HasCome on f player) (sym behind) t.come);
    }

-- one that turns history off
pub forgets : (on : Platform) (lines : LiveFront) (line : List ℕ) (player : LivePlayer) (text : List ℕ) → Forgets on lines line
    → (HasCome on (lines_after on lines (heard.Line line)) player → StandsAt on (lines_after on lines (heard.Line line)) player)
    → HasCome on (without_history lines) player → Takes on lines line taken.Done player text text
forgets on lines line player text off plays come = record {
  answers = record {
    ending = ap (λ (a : Answer). a.ending) off.answer;
    text = sym (append-nil text) ∙ ap (λ (ls : List Line). text ++ flat_map text_of_line ls) (sym (ap (λ (a : Answer). a.lines) off.answer));
  };
  stands = plays (subst (λ (f : LiveFront). HasCome on f player) (sym off.after) come);
}

-- where the player stands then
pub come_off : (on : Platform) (lines : LiveFront) (old new : LivePlayer) → HasCome on lines old → lines.told.trace.boot ≡ None
    → IsSceneOf new.scene (without_history lines)
    → ((there : Platform) (front : NotifyFront) → IsOpen front → StageAt there front old.stage → StageAt (within there (2 ^ 63)) front new.stage)
    → ((there : Platform) (front : NotifyFront) → IsOpen front → StageAt there front old.stage → terms_on new.stage ≡ terms_where true)
    → HasCome on (without_history lines) new
come_off on lines old new come none scene stage terms =
    let is_open = unbooted lines.told lines.told.trace.boot refl (ap (λ (o : Option Boot). is_some o) none) come.within.sound.no_boot in
    record {
      scene = scene;
      within = record { sound = come.within.sound; signals = come.within.signals };
      stage_at = stage (platform_at on lines) lines.told is_open come.stage_at;
      terms = terms (platform_at on lines) lines.told is_open come.stage_at;
    }

-- one of which nothing was read breaks a rule, or memory ran out
pub not_read : (on : Platform) (lines : LiveFront) (line : List ℕ) (fault : LineFault) (player : LivePlayer) (text : List ℕ)
    → StandsAt on lines player → Reads on lines line (Err fault) → Judges on lines line (Err fault) player text text
not_read on lines line (Broken kind) player text stands broken = record {
  answers = broken.answer;
  text = refl;
  stands = subst (λ (f : LiveFront). StandsAt on f player) (sym broken.after) stands;
}
not_read on lines line NoRoom player text stands broken = tt

-- ---- a question

terms_keep : (forgets : Bool) → (terms_where forgets).keeps ≡ not forgets
terms_keep true = refl
terms_keep false = refl

-- events are asked of a core that keeps them
pub can_tell_on : (forgets : Bool) (now : Stage) (question : Question) → terms_on now ≡ terms_where forgets
    → CanTell (not forgets) question → CanTell (terms_on now).keeps question
can_tell_on forgets now question same can =
    subst (λ (keeps : Bool). CanTell keeps question) (sym (ap (λ (t : Terms). t.keeps) same ∙ terms_keep forgets)) can

-- An answer: what is said to a line that asks nothing, to one that asks, and to what is no whole line.
use Rattle.std.proofs.Common.{◌≡◌, ℕ, Bool, true, false, List, [], ◌∷◌, ◌++◌, Option, Some, None, refl, sym, ap, subst, ◌∙◌}
use Rattle.std.specs.Prelude.{OnOk, IsErr, Result, Ok, Err, if◌then◌else◌, is_some, nat_lt, not}
use Rattle.std.specs.List.{flat_map, list_all}
use Rattle.std.specs.Option.{option_map_or}
use Rattle.line_port.specs.History.{Hears, Input}
use Rattle.line_port.specs.History as history
use Rattle.line_port.specs.declared.port.Heard.TheVariants as heard
use Rattle.live_play.specs.Answer.{Answer, Bad, Done, Ending, Platform, TooLong, after_heard, answer, play_at, text_of_answer, text_of_ending, without_lines}
use Rattle.live_play.specs.Showing.{Position, history_ending, lines_after, platform_at, position_after, shown_to, shown_to_other, shown_to_unasked, answer_at, watched_answer, watched_line, watching_after}
use Rattle.live_play.proofs.Asked.{after_question, shown_by, unasked_by}
use Rattle.live_player.specs.Watching.{Watches}
use Rattle.live_player.specs.Standing.{StandsAt}
use Rattle.live_player.specs.Taking.{Breaks, Judges, answer_behind, ending_of}
use Rattle.live_player.specs.declared.player.LivePlayer.{LivePlayer}
use Rattle.live_player.specs.declared.taken.Taken.{Taken}
use Rattle.live_runner.specs.Turns.{CanBeAsked, HasAnswered, HasShown, IsHeard, StandsIn, TakesAs, TakesIn, Tells}
use Rattle.live_runner.specs.declared.talk.Talk.{Talk}
use Rattle.live_player.proofs.Taking.{answer_by_word}
use Rattle.live_text.specs.Rules.{LiveFront, is_history}
use Rattle.live_text.specs.Scene.{LiveScene, scene_of}
use Rattle.live_text.specs.Asking.{IsAskedAs, kind_of_line, question_of, question_rules, rules_of}
use Rattle.live_text.specs.declared.question.Question.{Question}
use Rattle.live_text.specs.declared.question.Question.TheVariants as asks
use Rattle.live_text.specs.declared.question.QuestionKind.{QuestionKind}
use Rattle.live_text.specs.declared.question.QuestionKind.TheVariants as word_of
use Rattle.notify_text.specs.Rules.{NotifyFront}
use Rattle.notify_play.specs.NotifyPlay.{NotifyPlay}
use Rattle.play_model.specs.Line.{text_of_line}
use Rattle.ta_isa.specs.declared.boot.Boot.{Boot}
use Rattle.text_lines.specs.Words.{words_of}
use Rattle.trace_text.specs.Forms.{decimal, is_decimal, is_hexadecimal}
use Rattle.trace_text.specs.Limits.{first_broken, is_within}
use Rattle.trace_text.specs.Rules.{counts, is_text_byte, word}
use Rattle.trace_text.specs.declared.fault.BadKind.{BadKind}
use Rattle.trace_text.specs.declared.fault.BadKind.TheVariants as bad
use Rattle.trace_text.specs.declared.fault.LineFault.{LineFault}
use Rattle.trace_text.specs.declared.fault.LineFault.TheVariants.{Broken, NoRoom}

-- ---- what is shown to what asks nothing

-- an answer with exits that are watched, or without
abbrev pub shown_as : Platform → NotifyFront → NotifyFront → Answer → Bool → List ℕ
shown_as on before after given watching = if watching then watched_answer on before after given else text_of_answer given

-- an answer of its ending alone, whether exits are watched or not
ending_as : (on : Platform) (before after : NotifyFront) (given : Answer) (ending : Ending) (watching : Bool)
    → given ≡ without_lines ending → shown_as on before after given watching ≡ text_of_ending ending
ending_as on before after given ending true e = ap (λ (a : Answer). watched_answer on before after a) e
ending_as on before after given ending false e = ap text_of_answer e

-- what is shown, where these lines count behind a line of a trace with signals
abbrev shown_behind : Platform → LiveFront → List ℕ → Bool → List ℕ
shown_behind on lines line watching =
    let there = platform_at on lines in
    shown_as there lines.told (after_heard there lines.told (history.Line line)) (answer_behind on lines line) watching

shown_by_word : (on : Platform) (here : Position) (line : List ℕ) (is : Bool) → is_history (words_of line) ≡ is
    → shown_to_unasked on here (history.Line line) ≡ shown_behind on here.lines line here.is_watching
shown_by_word on here line true is =
    let there : Platform = platform_at on here.lines in
    unasked_by on here (history.Line line) true is
    ∙ sym (ending_as there here.lines.told (after_heard there here.lines.told (history.Line line)) (answer_behind on here.lines line)
    (history_ending on here.lines line) here.is_watching (answer_by_word on here.lines line true is))
shown_by_word on here line false is =
    let there : Platform = platform_at on here.lines in
    unasked_by on here (history.Line line) false is
    ∙ ap (λ (given : Answer). shown_as there here.lines.told (after_heard there here.lines.told (history.Line line)) given here.is_watching)
    (sym (answer_by_word on here.lines line false is))

shown-as : (on : Platform) (here : Position) (line : List ℕ) (watching : Bool) → here.is_watching ≡ watching
    → shown_to_unasked on here (history.Line line) ≡ shown_behind on here.lines line watching
shown-as on here line watching e =
    shown_by_word on here line (is_history (words_of line)) refl ∙ ap (shown_behind on here.lines line) e

ending_shown : (on : Platform) (here : Position) (line : List ℕ) (ending : Ending)
    → answer_behind on here.lines line ≡ without_lines ending
    → shown_to_unasked on here (history.Line line) ≡ text_of_ending ending
ending_shown on here line ending e =
    let there : Platform = platform_at on here.lines in
    shown_by_word on here line (is_history (words_of line)) refl
    ∙ ending_as there here.lines.told (after_heard there here.lines.told (history.Line line)) (answer_behind on here.lines line)
    ending here.is_watching e

-- to what is no whole line
no_line_shown : (on : Platform) (here : Position) (input : Input) (ending : Ending)
    → answer (platform_at on here.lines) here.lines.told input ≡ without_lines ending
    → shown_to_other on here input ≡ text_of_ending ending
no_line_shown on here input ending e =
    let there : Platform = platform_at on here.lines in
    ending_as there here.lines.told (after_heard there here.lines.told input) (answer there here.lines.told input) ending
    here.is_watching e

-- ---- a line that asks nothing

-- the line breaks a rule
broken_taken : (on : Platform) (here : Position) (line : List ℕ) (kind : BadKind) (talk : Talk) (old : List ℕ) → old ≡ []
    → talk.is_watching ≡ here.is_watching → Breaks on here.lines line kind talk.player old talk.answer.items
    → TakesAs on here line (Bad kind) talk
broken_taken on here line kind talk old none watching breaks = record {
  said = ap (λ (l : List ℕ). l ++ text_of_ending (Bad kind)) (breaks.text ∙ none)
      ∙ sym (ending_shown on here line (Bad kind) breaks.answers);
  stands = record { player = breaks.stands; watching = watching };
}

-- it was taken, while exits are watched
pub watched_taken : (on : Platform) (here : Position) (line : List ℕ) (result : Result Taken LineFault) (talk : Talk) (old : List ℕ)
    → old ≡ [] → talk.is_watching ≡ here.is_watching → here.is_watching ≡ true
    → Watches on here.lines line result talk.player old talk.answer.items → TakesIn on here line result talk
watched_taken on here line (Ok how) talk old none watching is_on takes =
    let there : Platform = platform_at on here.lines in
    let before : NotifyFront = here.lines.told in
    let after : NotifyFront = after_heard there before (history.Line line) in
    let given : Answer = answer_behind on here.lines line in
    record {
      said = ap (λ (l : List ℕ). l ++ text_of_ending (ending_of how))
          (takes.answers.text ∙ ap (λ (l : List ℕ). l ++ flat_map (watched_line there before after) given.lines) none)
          ∙ ap (λ (e : Ending). flat_map (watched_line there before after) given.lines ++ text_of_ending e) (sym takes.answers.ending)
          ∙ sym (shown-as on here line true is_on);
      stands = record { player = takes.stands; watching = watching };
    }
watched_taken on here line (Err (Broken kind)) talk old none watching is_on breaks =
    broken_taken on here line kind talk old none watching breaks
watched_taken on here line (Err NoRoom) talk old none watching is_on unsaid = tt

-- or while they aren't
pub unwatched_taken : (on : Platform) (here : Position) (line : List ℕ) (result : Result Taken LineFault) (talk : Talk) (old : List ℕ)
    → old ≡ [] → talk.is_watching ≡ here.is_watching → here.is_watching ≡ false
    → Judges on here.lines line result talk.player old talk.answer.items → TakesIn on here line result talk
unwatched_taken on here line (Ok how) talk old none watching is_off takes =
    let given : Answer = answer_behind on here.lines line in
    record {
      said = ap (λ (l : List ℕ). l ++ text_of_ending (ending_of how))
          (takes.answers.text ∙ ap (λ (l : List ℕ). l ++ flat_map text_of_line given.lines) none)
          ∙ ap (λ (e : Ending). flat_map text_of_line given.lines ++ text_of_ending e) (sym takes.answers.ending)
          ∙ sym (shown-as on here line false is_off);
      stands = record { player = takes.stands; watching = watching };
    }
unwatched_taken on here line (Err (Broken kind)) talk old none watching is_off breaks =
    broken_taken on here line kind talk old none watching breaks
unwatched_taken on here line (Err NoRoom) talk old none watching is_off unsaid = tt

-- the line that ends its answer stands behind the others, where memory was there for it
pub plain_answered : {E : Type 0} (on : Platform) (here : Position) (line : List ℕ) (ending : Ending) (taken talk : Talk)
    (result : Result (Unit {0}) E) → TakesAs on here line ending taken → taken.player ≡ talk.player
    → taken.is_watching ≡ talk.is_watching → OnOk result (talk.answer.items ≡ taken.answer.items ++ text_of_ending ending)
    → OnOk result (HasAnswered on here line talk)
plain_answered on here line ending taken talk (Ok done) takes player watching ends =
    let P : LivePlayer → Type 0 = λ p. StandsAt on (lines_after on here.lines (history.Line line)) p in
    record {
      said = ends ∙ takes.said;
      stands = record { player = subst P player takes.stands.player; watching = sym watching ∙ takes.stands.watching };
    }
plain_answered on here line ending taken talk (Err e) takes player watching ends = tt

not_so : false ≡ true → ⊥
not_so e = cc

-- by what came of the line
pub fault_answered : {E : Type 0} (on : Platform) (here : Position) (line : List ℕ) (fault : LineFault) (taken talk : Talk)
    (result : Result (Unit {0}) E) → TakesIn on here line (Err fault) taken → taken.player ≡ talk.player
    → taken.is_watching ≡ talk.is_watching
    → ((kind : BadKind) → fault ≡ Broken kind → OnOk result (talk.answer.items ≡ taken.answer.items ++ text_of_ending (Bad kind)))
    → (fault ≡ NoRoom → IsErr result) → OnOk result (HasAnswered on here line talk)
fault_answered on here line (Broken kind) taken talk result takes player watching ends no_room =
    plain_answered on here line (Bad kind) taken talk result takes player watching (ends kind refl)
fault_answered on here line NoRoom taken talk (Ok done) takes player watching ends no_room = absurd (not_so (no_room refl))
fault_answered on here line NoRoom taken talk (Err e) takes player watching ends no_room = tt

-- ---- a question

abbrev nothing : List ℕ
nothing = []

-- nothing is told to a question `watch`, whether there is a boot and a play or not
told_nothing : (boot : Option Boot) (played : Option NotifyPlay)
    → option_map_or (λ (b : Boot). option_map_or (λ (told : NotifyPlay). nothing) played nothing) boot nothing ≡ nothing
told_nothing None played = refl
told_nothing (Some boot) None = refl
told_nothing (Some boot) (Some told) = refl

-- exits are watched from now on, or no longer
pub watch_told : (on : Platform) (here : Position) (is_on : Bool) (talk : Talk) → talk.answer.items ≡ [] → StandsAt on here.lines talk.player
    → talk.is_watching ≡ is_on → Tells on here (asks.Watch is_on) talk
watch_told on here is_on talk none stands watching = record {
  said = none ∙ sym (told_nothing here.lines.told.trace.boot (play_at (platform_at on here.lines) here.lines.told));
  stands = record { player = stands; watching = watching };
}

-- ---- the rules of a question

rest_kept : (kind : BadKind) (kept : Bool) (rules : List (BadKind × Bool)) → first_broken ((kind, kept) ∷ rules) ≡ None
    → first_broken rules ≡ None
rest_kept kind true rules e = e
rest_kept kind false rules e = absurd cc

first_kept : (kind : BadKind) (kept : Bool) (rules : List (BadKind × Bool)) → first_broken ((kind, kept) ∷ rules) ≡ None → kept ≡ true
first_kept kind true rules e = refl
first_kept kind false rules e = absurd cc

-- behind the count of words stands the rule that there is a boot
place_kept : (counted booted : Bool) (rules : List (BadKind × Bool))
    → first_broken ((bad.Count, counted) ∷ (bad.Place, booted) ∷ rules) ≡ None → booted ≡ true
place_kept counted booted rules e =
    first_kept bad.Place booted rules (rest_kept bad.Count counted ((bad.Place, booted) ∷ rules) e)

-- what keeps its rules can be asked
kept_can : (kind : QuestionKind) (lines : LiveFront) (ws : List (List ℕ))
    → first_broken (rules_of kind (scene_of lines) ws) ≡ None → CanBeAsked lines (question_of kind ws)
kept_can word_of.Watch lines ws e = tt
kept_can word_of.State lines ws e = place_kept (counts 0 ws) (is_some lines.told.trace.boot) [] e
kept_can word_of.Session lines ws e =
    place_kept (counts 1 ws) (is_some lines.told.trace.boot)
    ((bad.Number, is_decimal (word ws 1)) ∷ (bad.Range, nat_lt (decimal (word ws 1)) 4294967295) ∷ []) e
kept_can word_of.Buffer lines ws e =
    place_kept (counts 1 ws) (is_some lines.told.trace.boot) ((bad.Number, is_hexadecimal 16 (word ws 1)) ∷ []) e
kept_can word_of.Events lines ws e =
    let numbers : List (BadKind × Bool) =
    (bad.Number, is_decimal (word ws 1))
    ∷ (bad.Number, is_decimal (word ws 2))
    ∷ (bad.Range, nat_lt (decimal (word ws 1)) 4294967295)
    ∷ (bad.Range, is_within 1 1024 (decimal (word ws 2)))
    ∷ [] in
    let booted : Bool = is_some lines.told.trace.boot in
    let placed : List (BadKind × Bool) = (bad.Place, not lines.forgets) ∷ numbers in (
      place_kept (counts 2 ws) booted placed e,
      first_kept bad.Place (not lines.forgets) numbers
          (rest_kept bad.Place booted placed (rest_kept bad.Count (counts 2 ws) ((bad.Place, booted) ∷ placed) e)),
    )

-- a question was judged in the scene of these lines
pub asked_can : (lines : LiveFront) (line : List ℕ) (question : Question) (scene : LiveScene) (asked : Option QuestionKind)
    → scene ≡ scene_of lines → IsAskedAs asked scene line (Ok question) → CanBeAsked lines question
asked_can lines line question scene None is judged = absurd judged
asked_can lines line question scene (Some kind) is judged =
    let P : Question → Type 0 = λ q. CanBeAsked lines q in
    let Q : LiveScene → Type 0 = λ s. first_broken (question_rules kind s line) ≡ None in
    subst P (sym judged.1)
    (kept_can kind lines (words_of line)
    (rest_kept bad.Byte (list_all is_text_byte line) (rules_of kind (scene_of lines) (words_of line)) (subst Q is judged.0)))

-- ---- what is shown to a line

-- with these lines counting, and with exits watched or not
pub rules_here : (here : Position) (kind : QuestionKind) (line : List ℕ) (scene : LiveScene) (fault : Option BadKind)
    → scene ≡ scene_of here.lines → first_broken (question_rules kind scene line) ≡ fault
    → first_broken (question_rules kind (scene_of here.lines) line) ≡ fault
rules_here here kind line scene fault is e =
    let P : LiveScene → Type 0 = λ s. first_broken (question_rules kind s line) ≡ fault in subst P is e

-- a question that keeps its rules
question_shown : (on : Platform) (here : Position) (line : List ℕ) (question : Question) (scene : LiveScene) (asked : Option QuestionKind)
    (told talk : Talk) → kind_of_line line ≡ asked → scene ≡ scene_of here.lines
    → IsAskedAs asked scene line (Ok question) → Tells on here question told → told.player ≡ talk.player
    → told.is_watching ≡ talk.is_watching → talk.answer.items ≡ told.answer.items ++ text_of_ending Done
    → HasShown on here (history.Line line) talk
question_shown on here line question scene None told talk kind_is is judged tells player watching ends = absurd judged
question_shown on here line question scene (Some kind) told talk kind_is is judged tells player watching ends =
    let input : Input = history.Line line in
    let kept = rules_here here kind line scene None is judged.0 in
    let asks_so : List ℕ = answer_at (platform_at on here.lines) here.lines.told (question_of kind (words_of line)) ++ text_of_ending Done in
    let now : Position = record here { is_watching = watching_after (question_of kind (words_of line)) here.is_watching } in
    let shown : shown_to on here input ≡ asks_so =
    shown_by on here input (Some kind) kind_is
    ∙ ap (λ (fault : Option BadKind). option_map_or (λ (f : BadKind). text_of_ending (Bad f)) fault asks_so) kept in
    let after : position_after on here input ≡ now =
    after_question on here input (Some kind) kind_is
    ∙ ap (λ (fault : Option BadKind). option_map_or (λ (f : BadKind). here) fault now) kept in
    let Q : LivePlayer → Type 0 = λ p. StandsAt on here.lines p in
    let P : Position → Type 0 = λ p. StandsIn on p talk in
    record {
      said = ends
          ∙ ap (λ (l : List ℕ). l ++ text_of_ending Done)
          (tells.said ∙ ap (λ (q : Question). answer_at (platform_at on here.lines) here.lines.told q) judged.1)
          ∙ sym shown;
      stands = subst P (sym after)
          (record {
            player = subst Q player tells.stands.player;
            watching = sym watching ∙ tells.stands.watching
                ∙ ap (λ (q : Question). watching_after q here.is_watching) judged.1;
          });
    }

-- one that breaks a rule
broken_shown : (on : Platform) (here : Position) (line : List ℕ) (broken : BadKind) (scene : LiveScene) (asked : Option QuestionKind)
    (before talk : Talk) → kind_of_line line ≡ asked → scene ≡ scene_of here.lines
    → IsAskedAs asked scene line (Err (Broken broken)) → before.answer.items ≡ [] → StandsIn on here before
    → before.player ≡ talk.player → before.is_watching ≡ talk.is_watching
    → talk.answer.items ≡ before.answer.items ++ text_of_ending (Bad broken) → HasShown on here (history.Line line) talk
broken_shown on here line broken scene None before talk kind_is is judged none stands player watching ends = absurd judged
broken_shown on here line broken scene (Some kind) before talk kind_is is judged none stands player watching ends =
    let input : Input = history.Line line in
    let at = rules_here here kind line scene (Some broken) is judged in
    let asks_so : List ℕ = answer_at (platform_at on here.lines) here.lines.told (question_of kind (words_of line)) ++ text_of_ending Done in
    let now : Position = record here { is_watching = watching_after (question_of kind (words_of line)) here.is_watching } in
    let shown : shown_to on here input ≡ text_of_ending (Bad broken) =
    shown_by on here input (Some kind) kind_is
    ∙ ap (λ (fault : Option BadKind). option_map_or (λ (f : BadKind). text_of_ending (Bad f)) fault asks_so) at in
    let after : position_after on here input ≡ here =
    after_question on here input (Some kind) kind_is
    ∙ ap (λ (fault : Option BadKind). option_map_or (λ (f : BadKind). here) fault now) at in
    let Q : LivePlayer → Type 0 = λ p. StandsAt on here.lines p in
    let P : Position → Type 0 = λ p. StandsIn on p talk in
    record {
      said = ends ∙ ap (λ (l : List ℕ). l ++ text_of_ending (Bad broken)) none ∙ sym shown;
      stands = subst P (sym after)
          (record { player = subst Q player stands.player; watching = sym watching ∙ stands.watching });
    }

-- ---- the answer to a line, where memory was there for it

pub question_answered : {E : Type 0} (on : Platform) (here : Position) (line : List ℕ) (question : Question) (scene : LiveScene)
    (told talk : Talk) (result : Result (Unit {0}) E) → scene ≡ scene_of here.lines
    → IsAskedAs (kind_of_line line) scene line (Ok question) → Tells on here question told → told.player ≡ talk.player
    → told.is_watching ≡ talk.is_watching → OnOk result (talk.answer.items ≡ told.answer.items ++ text_of_ending Done)
    → OnOk result (HasShown on here (history.Line line) talk)
question_answered on here line question scene told talk (Ok done) is judged tells player watching ends =
    question_shown on here line question scene (kind_of_line line) told talk refl is judged tells player watching ends
question_answered on here line question scene told talk (Err e) is judged tells player watching ends = tt

pub broken_answered : {E : Type 0} (on : Platform) (here : Position) (line : List ℕ) (fault : LineFault) (scene : LiveScene)
    (before talk : Talk) (result : Result (Unit {0}) E) → scene ≡ scene_of here.lines
    → IsAskedAs (kind_of_line line) scene line (Err fault) → before.answer.items ≡ [] → StandsIn on here before
    → before.player ≡ talk.player → before.is_watching ≡ talk.is_watching
    → ((kind : BadKind) → fault ≡ Broken kind
    → OnOk result (talk.answer.items ≡ before.answer.items ++ text_of_ending (Bad kind)))
    → (fault ≡ NoRoom → IsErr result) → OnOk result (HasShown on here (history.Line line) talk)
broken_answered on here line (Broken broken) scene before talk (Ok done) is judged none stands player watching ends no_room =
    broken_shown on here line broken scene (kind_of_line line) before talk refl is judged none stands player watching
    (ends broken refl)
broken_answered on here line (Broken broken) scene before talk (Err e) is judged none stands player watching ends no_room = tt
broken_answered on here line NoRoom scene before talk (Ok done) is judged none stands player watching ends no_room =
    absurd (not_so (no_room refl))
broken_answered on here line NoRoom scene before talk (Err e) is judged none stands player watching ends no_room = tt

-- ---- the answer to what was heard

-- one input alone was heard
same_input : (one other : Input) → Hears one ∷ [] ≡ Hears other ∷ [] → one ≡ other
same_input one other e = cc

-- it was a line, and has its answer
pub line_answered : {E : Type 0} (on : Platform) (here : Position) (line : List ℕ) (input : Input) (talk : Talk)
    (result : Result (Unit {0}) E) → IsHeard heard.Line line input → OnOk result (HasShown on here (history.Line line) talk)
    → OnOk result (HasShown on here input talk)
line_answered on here line input talk (Ok done) is shown =
    let P : Input → Type 0 = λ i. HasShown on here i talk in subst P (same_input (history.Line line) input is) shown
line_answered on here line input talk (Err e) is shown = tt

-- a line that is too long
pub long_answered : {E : Type 0} (on : Platform) (here : Position) (line : List ℕ) (input : Input) (talk : Talk) (old : List ℕ)
    (result : Result (Unit {0}) E) → IsHeard heard.Long line input → old ≡ [] → StandsIn on here talk
    → OnOk result (talk.answer.items ≡ old ++ text_of_ending TooLong) → OnOk result (HasShown on here input talk)
long_answered on here line input talk old (Ok done) is none stands ends =
    let P : Input → Type 0 = λ i. HasShown on here i talk in
    subst P (same_input history.Long input is)
    (record {
      said = ends ∙ ap (λ (l : List ℕ). l ++ text_of_ending TooLong) none ∙ sym (no_line_shown on here history.Long TooLong refl);
      stands = record { player = stands.player; watching = stands.watching };
    })
long_answered on here line input talk old (Err e) is none stands ends = tt

-- or one that was cut off
pub cut_answered : {E : Type 0} (on : Platform) (here : Position) (line : List ℕ) (input : Input) (talk : Talk) (old : List ℕ)
    (result : Result (Unit {0}) E) → IsHeard heard.Cut line input → old ≡ [] → StandsIn on here talk
    → OnOk result (talk.answer.items ≡ old ++ text_of_ending (Bad bad.Cut))
    → OnOk result (HasShown on here input talk)
cut_answered on here line input talk old (Ok done) is none stands ends =
    let P : Input → Type 0 = λ i. HasShown on here i talk in
    subst P (same_input history.Cut input is)
    (record {
      said = ends ∙ ap (λ (l : List ℕ). l ++ text_of_ending (Bad bad.Cut)) none
          ∙ sym (no_line_shown on here history.Cut (Bad bad.Cut) refl);
      stands = record { player = stands.player; watching = stands.watching };
    })
cut_answered on here line input talk old (Err e) is none stands ends = tt

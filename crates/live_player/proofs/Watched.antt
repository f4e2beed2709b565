-- A line that is taken where exits are watched.
use Rattle.std.proofs.Common.{◌≡◌, ℕ, ◌<◌, List, [], ◌∷◌, ◌++◌, length, drop, Option, Some, None, refl, sym, ap, subst, ◌∙◌, append_assoc, append-nil}
use Rattle.std.specs.Prelude.{Err}
use Rattle.std.specs.List.{flat_map}
use Rattle.std.specs.Option.{option_and_then}
use Rattle.std.proofs.Math.Seq.{drop-length}
use Rattle.std.proofs.lemmas.List.Elements.{recursion_from_All}
use Rattle.core_machine.specs.Standing.{IsAt}
use Rattle.core_machine.specs.declared.machine.Machine.{Machine}
use Rattle.kernel_model.specs.Application.{Booted, Native, booted}
use Rattle.kernel_model.proofs.Parts.{some_of}
use Rattle.line_port.specs.History as heard
use Rattle.live_play.specs.Answer.{Answer, Platform, after_heard, answer_between, platform_within, play_at, printed_at, refused_at, without_lines}
use Rattle.live_play.specs.Answer as ends
use Rattle.live_play.specs.Changes.{changes, text_of_changes}
use Rattle.live_play.specs.Returns.{returns_in}
use Rattle.live_play.specs.Panicking.{panic_between, panic_line}
use Rattle.live_play.specs.Showing.{cpu_out_by, lane_at, lines_after, platform_at, watched_line}
use Rattle.live_play.specs.State.{text_if}
use Rattle.live_play.proofs.Outgoing.{lines-done, none_returned, one_returned, step_on}
use Rattle.live_play.proofs.Talking.{answer_unless, item_steps, more-played, quiet, signal_steps}
use Rattle.live_play.proofs.Watched.{unwatched-lines, watched-lines}
use Rattle.live_player.specs.Watching.{AnswersWatched, CanWatch, TakesWatched, Watches, WatchesOn, cpu_going_out}
use Rattle.live_player.specs.Panicking.{EndsIn}
use Rattle.live_player.specs.Standing.{HasCome, IsOpen, IsPlayedBehind, IsWithin, StageAt, StandsAt}
use Rattle.live_player.specs.Taking.{Answers, IsNext, Judges, TakesOn, answer_behind, counted}
use Rattle.live_text.specs.Rules.{LiveFront}
use Rattle.live_player.specs.declared.player.LivePlayer.{LivePlayer}
use Rattle.live_player.specs.declared.stage.Stage.{Stage}
use Rattle.live_player.specs.declared.stage.Stage.TheVariants as stage
use Rattle.live_player.specs.declared.taken.Played.TheVariants as outcome
use Rattle.live_player.specs.declared.taken.Taken.{Taken}
use Rattle.live_player.specs.declared.taken.Taken.TheVariants as taken
use Rattle.live_player.proofs.Playing.{lane_played, orderly}
use Rattle.live_player.proofs.Staging.{boot_by, closed_item, closed_signal, header_of, stage_going}
use Rattle.live_player.proofs.Taking.{Says, answer_said, behind_said, told_said}
use Rattle.live_player.proofs.Walking.{last_sound}
use Rattle.notify_text.specs.Statement.{with_statement}
use Rattle.trace_text.specs.declared.statement.Statement.{Statement}
use Rattle.trace_text.specs.declared.statement.Statement.TheVariants as says
use Rattle.notify_play.specs.NotifyPlay.{Drivers, NotifyPlay}
use Rattle.notify_player.specs.declared.player.NotifyPlayer.{NotifyPlayer}
use Rattle.notify_text.specs.Rules.{NotifyFront}
use Rattle.notify_text.specs.Steps.{Signals, Takes}
use Rattle.play_model.specs.Line.{Line, Ret, text_of_line}
use Rattle.play_model.specs.Play.{Play, lane_of}
use Rattle.ta_isa.specs.declared.boot.Boot.{Boot}
use Rattle.trace_text.specs.Limits.{cpus_of}
use Rattle.trace_text.specs.Sound.{IsSoundItem}
use Rattle.trace_text.specs.declared.fault.LineFault.{LineFault}
use Rattle.trace_text.specs.declared.fault.LineFault.TheVariants.{Broken, NoRoom}
use Rattle.trace_text.specs.declared.item.Item.{Item}
use Rattle.trace_text.specs.declared.item.Item.TheVariants as item

-- ---- the RAM that is watched

-- a player lends that of the processor
pub ram_lent : (on : Platform) (lines : NotifyFront) (cpu : ℕ) (player : NotifyPlayer) (machine : Machine) (ram : List ℕ)
    → machine ≡ player.player.machine → ((boot : Booted) (play : Play) → IsAt boot play machine → ram ≡ lane_of play cpu)
    → IsPlayedBehind on lines player → ram ≡ lane_at on lines cpu
ram_lent on lines cpu player machine ram is lent behind =
    let boot : Booted = booted behind.boot on.natives in
    lent boot behind.told.play (subst (IsAt boot behind.told.play) (sym is) behind.stands.at.machine)
    ∙ sym (lane_played on lines cpu behind.told behind.play)

-- ---- the processor that goes out

item_cpu : (cpus : ℕ) (i : Item) (cpu : ℕ) → IsSoundItem cpus i → cpu_out_by i ≡ Some cpu → cpu < cpus
item_cpu cpus (item.Smc c steps regs) cpu sound out =
    let same : c ≡ cpu = cc in
    subst (λ (n : ℕ). n < cpus) same sound.processor
item_cpu cpus (item.Enter c steps regs) cpu sound out = absurd cc
item_cpu cpus (item.Leave c) cpu sound out = let same : c ≡ cpu = cc in subst (λ (n : ℕ). n < cpus) same sound
item_cpu cpus (item.Write c addr bytes) cpu sound out = absurd cc
item_cpu cpus (item.Show c addr len) cpu sound out = absurd cc

-- it goes out by an item
going_out : (said : Statement) (cpu : ℕ) → cpu_going_out said ≡ Some cpu
    → (i : Item) × (said ≡ says.Item i) × (cpu_out_by i ≡ Some cpu)
going_out says.Blank cpu out = absurd cc
going_out (says.Boot size) cpu out = absurd cc
going_out (says.App app) cpu out = absurd cc
going_out (says.Fill fill) cpu out = absurd cc
going_out (says.Key key) cpu out = absurd cc
going_out (says.Item i) cpu out = (i, refl, out)
going_out (says.Signal value) cpu out = absurd cc

-- and is one of the boot
cpu_there : (on : Platform) (lines : NotifyFront) (i : Item) (cpu : ℕ) → cpu_out_by i ≡ Some cpu
    → IsNext on lines (says.Item i) → cpu < cpus_of lines.trace.boot
cpu_there on lines i cpu out next =
    let cpus : ℕ = cpus_of lines.trace.boot in
    item_cpu cpus i cpu
    (last_sound cpus lines.trace.items i
    (recursion_from_All (IsSoundItem cpus) (lines.trace.items ++ i ∷ []) next.next.sound.items)) out

-- behind it
pub can_still_watch : (most : ℕ) (natives : List Native) (drivers : Drivers) (lines : NotifyFront) (said : Statement) (cpu : ℕ) (now : Stage)
    → cpu_going_out said ≡ Some cpu → IsNext (platform_within most natives drivers) lines said
    → StageAt (platform_within most natives drivers) (with_statement lines said) now
    → CanWatch (platform_within most natives drivers) (with_statement lines said) cpu now
can_still_watch most natives drivers lines said cpu now out next at =
    let on : Platform = platform_within most natives drivers in
    let goes = going_out said cpu out in
    let placed : IsNext on lines (says.Item goes.0) = subst (IsNext on lines) goes.1 next in
    let same : (with_statement lines said).trace.boot ≡ lines.trace.boot =
    ap (λ (s : Statement). (with_statement lines s).trace.boot) goes.1 in
    record {
      within = next.next;
      stage_at = at;
      there = subst (λ (o : Option Boot). cpu < cpus_of o) (sym same) (cpu_there on lines goes.0 cpu goes.2 placed);
    }

-- where the lines are no header any more
pub not_open : (lines : NotifyFront) (said : Statement) (cpu : ℕ) → cpu_going_out said ≡ Some cpu
    → IsOpen (with_statement lines said) → ⊥
not_open lines said cpu out is_open =
    let goes = going_out said cpu out in
    closed_item lines goes.0 (subst (λ (s : Statement). IsOpen (with_statement lines s)) goes.1 is_open)

-- ---- the lines of an answer

-- one that ends with `full` has none
full_lines : (on : Platform) (before after : NotifyFront) (copied : ℕ)
    → (answer_between on before after).ending ≡ ends.Full copied → (answer_between on before after).lines ≡ []
full_lines on before after copied e = by (refused_at on after) e
  where
    by : (refused : Option ℕ) → (answer_unless on before after refused).ending ≡ ends.Full copied
        → (answer_unless on before after refused).lines ≡ []
    by None e = absurd cc
    by (Some more) e = refl

-- where it ends with `ok`, no entry was refused
done_going : (on : Platform) (before after : NotifyFront) → (answer_between on before after).ending ≡ ends.Done
    → refused_at on after ≡ None
done_going on before after e = by (refused_at on after) refl e
  where
    by : (refused : Option ℕ) → refused_at on after ≡ refused → (answer_unless on before after refused).ending ≡ ends.Done
        → refused_at on after ≡ None
    by None is e = is
    by (Some more) is e = absurd cc

-- behind an item and behind a signal there is a boot
boot_behind : (on : Platform) (lines : NotifyFront) (said : Statement) → IsNext on lines said
    → (IsOpen (with_statement lines said) → ⊥) → (with_statement lines said).trace.boot ≡ lines.trace.boot
    → (boot : Boot) × (lines.trace.boot ≡ Some boot)
boot_behind on lines said next closed same =
    let there = some_of (with_statement lines said).trace.boot
    (boot_by (with_statement lines said) (with_statement lines said).trace.boot refl next.next.sound.no_boot closed) in
    (there.0, sym same ∙ there.1)

item_stepped : (on : Platform) (lines : NotifyFront) (i : Item) (boot : Boot) → lines.trace.boot ≡ Some boot → IsWithin on lines
    → play_at on (with_statement lines (says.Item i)) ≡ option_and_then (step_on on boot (Takes i)) (play_at on lines)
item_stepped on lines i boot there inside =
    more-played on boot lines (with_statement lines (says.Item i)) (Takes i) there there refl
    (item_steps lines i (orderly on lines inside))

signal_stepped : (on : Platform) (lines : NotifyFront) (value : ℕ) (boot : Boot) → lines.trace.boot ≡ Some boot
    → play_at on (with_statement lines (says.Signal value)) ≡ option_and_then (step_on on boot (Signals value)) (play_at on lines)
signal_stepped on lines value boot there =
    more-played on boot lines (with_statement lines (says.Signal value)) (Signals value) there there refl
    (signal_steps lines value)

-- what is printed more
abbrev more_printed : Platform → NotifyFront → NotifyFront → List Line
more_printed on before after = drop (length (printed_at on before)) (printed_at on after)

heads_print : (on : Platform) (before after : NotifyFront) → IsOpen before → IsOpen after → returns_in (more_printed on before after) ≡ []
heads_print on before after was is_open =
    ap (λ (l : List Line). returns_in (drop (length l) (printed_at on after))) (quiet on before (header_of before was)).printed
    ∙ ap (λ (l : List Line). returns_in (drop 0 l)) (quiet on after (header_of after is_open)).printed

-- no line `ret` where no processor goes out
none_printed : (on : Platform) (lines : NotifyFront) (said : Statement) (now : Stage) → cpu_going_out said ≡ None
    → IsNext on lines said → StageAt on lines now → returns_in (more_printed on lines (with_statement lines said)) ≡ []
none_printed on lines says.Blank now none next at = ap returns_in (drop-length (printed_at on lines))
none_printed on lines (says.Boot size) now none next at =
    heads_print on lines (with_statement lines (says.Boot size)) next.placed
    (record { items = next.placed.items; signals = next.placed.signals })
none_printed on lines (says.App app) now none next at =
    heads_print on lines (with_statement lines (says.App app)) next.placed
    (record { items = next.placed.items; signals = next.placed.signals })
none_printed on lines (says.Fill fill) now none next at =
    heads_print on lines (with_statement lines (says.Fill fill)) next.placed
    (record { items = next.placed.items; signals = next.placed.signals })
none_printed on lines (says.Key key) now none next at =
    heads_print on lines (with_statement lines (says.Key key)) next.placed
    (record { items = next.placed.items; signals = next.placed.signals })
none_printed on lines (says.Item i) now none next at =
    let boot = boot_behind on lines (says.Item i) next (closed_item lines i) refl in
    none_returned on boot.0 (Takes i) lines (with_statement lines (says.Item i))
    (item_stepped on lines i boot.0 boot.1 next.within) (stage_going on lines now at) none
none_printed on lines (says.Signal value) now none next at =
    let boot = boot_behind on lines (says.Signal value) next (closed_signal lines value) refl in
    none_returned on boot.0 (Signals value) lines (with_statement lines (says.Signal value))
    (signal_stepped on lines value boot.0 boot.1) (stage_going on lines now at) refl

-- ---- what came of it

-- where no line `ret` is printed, nothing is said of RAM
unwatched : (on : Platform) (before after counts : NotifyFront) (how : Taken) (old new : List ℕ)
    → Answers (answer_between on before after) how old new → returns_in (answer_between on before after).lines ≡ []
    → AnswersWatched on before counts (answer_between on before after) how old new
unwatched on before after counts how old new answers none = record {
  ending = answers.ending;
  text = answers.text
      ∙ ap (λ (l : List ℕ). old ++ l)
      (sym (unwatched-lines on before counts (answer_between on before after).lines none));
}

pub watches_full : (on : Platform) (lines : LiveFront) (said : Statement) (copied : ℕ) (player : LivePlayer) (old new : List ℕ)
    → TakesOn on lines said (taken.Full copied) player old new → WatchesOn on lines said (taken.Full copied) player old new
watches_full on lines said copied player old new takes =
    let there : Platform = platform_at on lines in
    let after : NotifyFront = with_statement lines.told said in
    let none = ap returns_in (full_lines there lines.told after copied takes.answers.ending) in
    record {
      answers = unwatched there lines.told after lines.told (taken.Full copied) old new takes.answers none;
      come = takes.come;
    }

-- no processor goes out
pub watches_none : (on : Platform) (lines : LiveFront) (said : Statement) (how : Taken) (now : Stage) (player : LivePlayer)
    (old new : List ℕ) → cpu_going_out said ≡ None → IsNext (platform_at on lines) lines.told said
    → StageAt (platform_at on lines) lines.told now
    → TakesOn on lines said how player old new → WatchesOn on lines said how player old new
watches_none on lines said taken.Done now player old new none next at takes =
    let there : Platform = platform_at on lines in
    let after : NotifyFront = with_statement lines.told said in
    let printed = lines-done there lines.told after (done_going there lines.told after takes.answers.ending) in
    record {
      answers =
          unwatched there lines.told after after taken.Done old new takes.answers
          (ap returns_in printed ∙ none_printed there lines.told said now none next at);
      come = takes.come;
    }
watches_none on lines said (taken.Full copied) now player old new none next at takes =
    watches_full on lines said copied player old new takes

pub watches_staying : (on : Platform) (lines : LiveFront) (said : Statement) (how : Taken) (now : Stage) (player : LivePlayer)
    (old new : List ℕ) → ((cpu : ℕ) → cpu_going_out said ≡ Some cpu → ⊥) → IsNext (platform_at on lines) lines.told said
    → StageAt (platform_at on lines) lines.told now
    → TakesOn on lines said how player old new → WatchesOn on lines said how player old new
watches_staying on lines said how now player old new stays next at takes = by (cpu_going_out said) refl
  where
    by : (out : Option ℕ) → cpu_going_out said ≡ out → WatchesOn on lines said how player old new
    by None is = watches_none on lines said how now player old new is next at takes
    by (Some cpu) is = absurd (stays cpu is)

-- a core has played an item
core_behind : (on : Platform) (lines : NotifyFront) (i : Item) (now : Stage)
    → StageAt on (with_statement lines (says.Item i)) now
    → (told : NotifyPlay) × (play_at on (with_statement lines (says.Item i)) ≡ Some told) × (told.play.refused ≡ None)
core_behind on lines i (stage.Header header) at = absurd (closed_item lines i at.1)
core_behind on lines i (stage.Core player) at = (at.0.told, at.0.play, at.0.stands.at.machine.goes_on)

-- a processor goes out by it: that is its one line
one_line : (on : Platform) (lines : NotifyFront) (i : Item) (cpu : ℕ) (was now : Stage) → cpu_out_by i ≡ Some cpu
    → IsNext on lines (says.Item i) → StageAt on lines was → StageAt on (with_statement lines (says.Item i)) now
    → (answer_between on lines (with_statement lines (says.Item i))).ending ≡ ends.Done
    → (regs : List ℕ) × ((answer_between on lines (with_statement lines (says.Item i))).lines ≡ Ret cpu regs ∷ [])
one_line on lines i cpu was now out next at behind done =
    let after : NotifyFront = with_statement lines (says.Item i) in
    let boot = boot_behind on lines (says.Item i) next (closed_item lines i) refl in
    let core = core_behind on lines i now behind in
    let one = one_returned on boot.0 (Takes i) cpu lines after core.0 (item_stepped on lines i boot.0 boot.1 next.within)
    (stage_going on lines was at) out core.1 core.2 in
    (one.0, lines-done on lines after (done_going on lines after done) ∙ one.1)

watched_text : (on : Platform) (before after : NotifyFront) (cpu : ℕ) (regs copy old between panicked new : List ℕ) (panic : Option ℕ)
    → (answer_between on before after).lines ≡ Ret cpu regs ∷ [] → copy ≡ lane_at on before cpu
    → Answers (answer_between on before after) taken.Done old between
    → panic ≡ panic_between on before after → panicked ≡ between ++ text_if panic_line panic
    → new ≡ panicked ++ text_of_changes cpu (changes copy (lane_at on after cpu))
    → AnswersWatched on before after (answer_between on before after) taken.Done old new
watched_text on before after cpu regs copy old between panicked new panic line copied answers told said pushed =
    let lines : List Line = (answer_between on before after).lines in
    let text : List ℕ = flat_map text_of_line lines in
    let ends : List ℕ = text_if panic_line panic in
    let more : List ℕ = text_of_changes cpu (changes copy (lane_at on after cpu)) in
    record {
      ending = answers.ending;
      text = pushed
          ∙ ap (λ (l : List ℕ). l ++ more) (said ∙ ap (λ (l : List ℕ). l ++ ends) answers.text)
          ∙ append_assoc (old ++ text) ends more
          ∙ append_assoc old text (ends ++ more)
          ∙ ap (λ (l : List ℕ). old ++ l)
          (ap (λ (ram : List ℕ). text ++ (ends ++ text_of_changes cpu (changes ram (lane_at on after cpu)))) copied
          ∙ ap (λ (p : Option ℕ). text ++ (text_if panic_line p
          ++ text_of_changes cpu (changes (lane_at on before cpu) (lane_at on after cpu)))) told
          ∙ sym (watched-lines on before after lines cpu regs line));
    }

pub watches_done : (on : Platform) (lines : LiveFront) (said : Statement) (cpu : ℕ) (was : Stage) (player : LivePlayer)
    (copy old between panicked new : List ℕ) (panic : Option ℕ) → cpu_going_out said ≡ Some cpu → IsNext (platform_at on lines) lines.told said
    → StageAt (platform_at on lines) lines.told was → copy ≡ lane_at (platform_at on lines) lines.told cpu
    → TakesOn on lines said taken.Done player old between → EndsIn (platform_at on lines) lines.told said (outcome.Done panic) → panicked ≡ between ++ text_if panic_line panic
    → new ≡ panicked ++ text_of_changes cpu (changes copy (lane_at (platform_at on lines) (with_statement lines.told said) cpu))
    → WatchesOn on lines said taken.Done player old new
watches_done on lines said cpu was player copy old between panicked new panic out next at copied takes ends told pushed =
    by said out next takes ends pushed
  where
    by : (said : Statement) → cpu_going_out said ≡ Some cpu → IsNext (platform_at on lines) lines.told said
        → TakesOn on lines said taken.Done player old between → EndsIn (platform_at on lines) lines.told said (outcome.Done panic)
        → new ≡ panicked ++ text_of_changes cpu (changes copy (lane_at (platform_at on lines) (with_statement lines.told said) cpu))
        → WatchesOn on lines said taken.Done player old new
    by says.Blank out next takes ends pushed = absurd cc
    by (says.Boot size) out next takes ends pushed = absurd cc
    by (says.App app) out next takes ends pushed = absurd cc
    by (says.Fill fill) out next takes ends pushed = absurd cc
    by (says.Key key) out next takes ends pushed = absurd cc
    by (says.Item i) out next takes ends pushed =
        let line = one_line (platform_at on lines) lines.told i cpu was player.stage out next at takes.come.stage_at takes.answers.ending in
        record {
          answers =
              watched_text (platform_at on lines) lines.told (with_statement lines.told (says.Item i)) cpu line.0 copy old between panicked new panic line.1
              copied takes.answers ends told pushed;
          come = takes.come;
        }
    by (says.Signal value) out next takes ends pushed = absurd cc

-- ---- a line

-- one of which nothing was read breaks a rule, or memory ran out
pub as_watched : (on : Platform) (lines : LiveFront) (line : List ℕ) (fault : LineFault) (player : LivePlayer) (old new : List ℕ)
    → Judges on lines line (Err fault) player old new → Watches on lines line (Err fault) player old new
as_watched on lines line (Broken kind) player old new judged = judged
as_watched on lines line NoRoom player old new judged = tt

-- one that turns history off has no lines
pub watches_off : (on : Platform) (lines : LiveFront) (line : List ℕ) (player : LivePlayer) (text : List ℕ)
    → answer_behind on lines line ≡ without_lines ends.Done
    → StandsAt on (lines_after on lines (heard.Line line)) player → TakesWatched on lines line taken.Done player text text
watches_off on lines line player text off stands =
    let there : Platform = platform_at on lines in
    let counts : NotifyFront = after_heard there lines.told (heard.Line line) in
    record {
      answers = record {
        ending = ap (λ (a : Answer). a.ending) off;
        text = sym (append-nil text)
            ∙ ap (λ (ls : List Line). text ++ flat_map (watched_line there lines.told counts) ls) (sym (ap (λ (a : Answer). a.lines) off));
      };
      stands = stands;
    }

-- and one that was read was taken
pub watches : (on : Platform) (lines : LiveFront) (line : List ℕ) (said : Statement) (how : Taken) (player : LivePlayer)
    (old new : List ℕ) → Says on lines line said
    → (HasCome on (lines_after on lines (heard.Line line)) player → StandsAt on (lines_after on lines (heard.Line line)) player)
    → WatchesOn on lines said how player old new → TakesWatched on lines line how player old new
watches on lines line said how player old new says plays w =
    let there : Platform = platform_at on lines in
    let counts : NotifyFront = counted how lines.told (with_statement lines.told said) in
    let given = answer_said on lines line said says in
    let ending = ap (λ (a : Answer). a.ending) given ∙ w.answers.ending in
    let P : NotifyFront → Type 0 = λ f. AnswersWatched there lines.told f (answer_behind on lines line) how old new in
    let Q : Answer → Type 0 = λ a. AnswersWatched there lines.told counts a how old new in
    record {
      answers = subst P (sym (told_said on lines line said how says ending)) (subst Q (sym given) w.answers);
      stands = plays (subst (λ (f : LiveFront). HasCome on f player) (sym (behind_said on lines line said how says ending)) w.come);
    }

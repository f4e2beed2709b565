-- Calls made one after the other, whose lines are gathered before they are put.
use Rattle.std.proofs.Common.{◌≡◌, ℕ, ◌+◌, ◌<◌, inr, List, [], ◌∷◌, ◌++◌, drop, get_or, length, add-one, drop-cons, Option, Some, None, refl, sym, ap, subst, ◌∙◌, append_assoc, append-nil}
use Rattle.std.specs.Prelude.{All, IsSome, IsSomeAnd, Ok, Err, Result}
use Rattle.std.specs.List.{flat_map}
use Rattle.std.specs.Option.{option_and_then, option_map}
use Rattle.std.proofs.lemmas.Grind.{flat_map-append}
use Rattle.std.proofs.lemmas.List.Elements.{All-get_or}
use Rattle.std.proofs.lemmas.Option.{option_and_then_some}
use Rattle.base.specs.Zeros.{zeros}
use Rattle.client_play.proofs.ScriptsPlayed.{scripts_have_plays}
use Rattle.client_play.specs.Played.{Client, ClientPlay, after_call, call_made, calls_made, ended, first_client, first_standing, goes_on, line_of, played, stopped_by, stopped_in, text_by, text_of, text_of_play}
use Rattle.client_play.specs.Printed.{CallLine, text_of_line}
use Rattle.client_play.specs.Standing.{Came, Fails, Returned, Stopped}
use Rattle.client_text.specs.Sound.{IsSoundCall}
use Rattle.client_text.specs.declared.script.Script.{Script}
use Rattle.client_text.specs.declared.script.ScriptCall.{ScriptCall}
use Rattle.kernel_model.specs.Application.{Booted, IsBooted, Native, booted}
use Rattle.ports.specs.Port.{Appends}
use Rattle.ports.specs.PortLaws.{Appends-nil, Appends-trans}
use Rattle.ta_isa.specs.declared.boot.Boot.{Boot}
use Rattle.trace_player.specs.Starting.{uuids_of}
use Rattle.word_parts.specs.Gathering.{EndsAs, PutsBut, PutsLines, PutsOrKeeps}
use Rattle.word_parts.specs.Output.{AppendsPart}
use Rattle.word_parts.specs.declared.stop.Stop.{Stop}
use Rattle.word_parts.specs.declared.stop.Stop.TheVariants.{Full, Failed, Memory}
use Rattle.word_parts.proofs.PuttingLemmas.{AppendsPart-nothing, AppendsPart-then, put-none}
use Rattle.client_runner.specs.Playing.{CanMake, IsAt, IsAtStart, PlayerView, Plays, PrintsLine}
use Rattle.client_runner.specs.Told.{IsToldOf}

-- ---- the lines of a play

-- their text
abbrev text_of_lines : List CallLine → List ℕ
text_of_lines lines = flat_map text_of_line lines

one_more : (lines : List CallLine) (line : CallLine) → text_of_lines (lines ++ line ∷ []) ≡ text_of_lines lines ++ text_of_line line
one_more lines line =
    flat_map-append text_of_line lines (line ∷ []) ∙ ap (λ (text : List ℕ). text_of_lines lines ++ text) (append-nil (text_of_line line))

-- a play goes on behind the lines so far
by_came : (boot : Booted) (calls : List ScriptCall) (place : Client) (call : ScriptCall) (came : Came) (play : ClientPlay)
    → ((next : Client) → calls_made boot calls next ≡ Some play → (more : List CallLine) × (play.lines ≡ next.lines ++ more))
    → goes_on (λ next. calls_made boot calls next) place call came ≡ Some play
    → (more : List CallLine) × (play.lines ≡ place.lines ++ more)
by_came boot calls place call (Returned room after) play rest e =
    let later = rest (after_call place call room after) e in
    (line_of place call after ∷ later.0, later.1 ∙ append_assoc place.lines (line_of place call after ∷ []) later.0)
by_came boot calls place call (Stopped more history) play rest e =
    let is : record { history = history; lines = place.lines; stopped = Some more } ≡ play = cc in
    ([], ap (λ (p : ClientPlay). p.lines) (sym is) ∙ sym (append-nil place.lines))
by_came boot calls place call (Fails reason) play rest e = let none : None ≡ Some play = e in absurd cc

lines_grow : (boot : Booted) (calls : List ScriptCall) (place : Client) (play : ClientPlay) → calls_made boot calls place ≡ Some play
    → (more : List CallLine) × (play.lines ≡ place.lines ++ more)
lines_grow boot [] place play e =
    let is : ended place ≡ play = cc in
    ([], ap (λ (p : ClientPlay). p.lines) (sym is) ∙ sym (append-nil place.lines))
lines_grow boot (call ∷ calls) place play e =
    option_and_then_some (goes_on (λ next. calls_made boot calls next) place call) (call_made boot place call) play e
    (λ (came : Came) there onward.
    by_came boot calls place call came play (λ next on. lines_grow boot calls next play on) onward)

play_there : (found : Option ClientPlay) → IsSome found → (play : ClientPlay) × (found ≡ Some play)
play_there (Some play) some = (play, refl)
play_there None some = absurd cc

-- ---- what was told

module _ (on : Booted) (natives : List Native) (script : Script) (calls : List ScriptCall) where
  abbrev start : Client
  start = first_client (first_standing (zeros 0x400000) on script)

  -- the calls so far were made, and of their text all was put but these lines
  pub record Gathering (at : ℕ) (player : PlayerView) (lines : List ℕ) (old new : Option (List ℕ)) : Type 0 where
    pub boot : Boot
    pub has_boot : script.boot ≡ Some boot
    pub is_play : played natives boot script ≡ calls_made on calls start
    pub comes : IsSome (calls_made on calls start)
    pub sound : All IsSoundCall calls
    pub place : Client
    pub stands : IsAt on place player
    pub onward : calls_made on calls start ≡ calls_made on (drop at calls) place
    pub text : List ℕ
    pub printed : text_of_lines place.lines ≡ text ++ lines
    pub put : Appends old new text

  pub gathering_first : (player : PlayerView) (lines : List ℕ) (a : Option (List ℕ)) → IsAtStart on natives script calls player → lines ≡ []
      → Gathering 0 player lines a a
  gathering_first player lines a begins none =
      let is : played natives begins.boot script ≡ calls_made on calls start =
      λ i. calls_made (begins.of_boot i) (sym begins.same i) (first_client (first_standing (zeros 0x400000) (begins.of_boot i) script)) in
      let boots : IsBooted (booted begins.boot natives) =
      subst IsBooted (begins.stands.over.boots ∙ sym begins.of_boot) begins.stands.over.kernels.legal.boots in
      record {
        boot = begins.boot;
        has_boot = begins.has_boot;
        is_play = is;
        comes = subst (λ (found : Option ClientPlay). IsSome found) is
            (scripts_have_plays natives (uuids_of natives) begins.boot script boots begins.sound begins.has_boot);
        sound = subst (λ (all : List ScriptCall). All IsSoundCall all) (sym begins.same) begins.sound.calls;
        place = start;
        stands = begins.stands;
        onward = refl;
        text = [];
        printed = sym none;
        put = Appends-nil a;
      }

  -- the call of a number is the first of those left
  next_call : (at : ℕ) (call filler : ScriptCall) → at < length calls → call ≡ get_or calls at filler
      → drop at calls ≡ call ∷ drop (at + 1) calls
  next_call at call filler lt is =
      drop-cons calls at filler lt ∙ (λ i. sym is i ∷ drop (sym (add-one at) i) calls)

  pub gathering_can_make : (at : ℕ) (player : PlayerView) (lines : List ℕ) (a b : Option (List ℕ)) (call filler : ScriptCall)
      → at < length calls → call ≡ get_or calls at filler → Gathering at player lines a b → CanMake on call player
  gathering_can_make at player lines a b call filler lt is g = record {
    place = g.place;
    stands = g.stands;
    sound = subst IsSoundCall (sym is) (All-get_or IsSoundCall calls at filler lt g.sound);
    goes_on = λ reason fails.
        let left = g.onward ∙ ap (λ (all : List ScriptCall). calls_made on all g.place) (next_call at call filler lt is)
        ∙ ap (λ (came : Option Came). option_and_then (goes_on (λ next. calls_made on (drop (at + 1) calls) next) g.place call) came) fails in
        let some = subst (λ (found : Option ClientPlay). IsSome found) left g.comes in
        absurd cc;
  }

  -- ---- the text of the play

  text_played : (boot : Boot) (play : ClientPlay) → script.boot ≡ Some boot → played natives boot script ≡ Some play
      → text_of natives script ≡ Some (text_of_play play)
  text_played boot play is e = ap (text_by natives script) is ∙ ap (λ (found : Option ClientPlay). option_map text_of_play found) e

  stopped_played : (boot : Boot) (play : ClientPlay) → script.boot ≡ Some boot → played natives boot script ≡ Some play
      → stopped_in natives script ≡ play.stopped
  stopped_played boot play is e =
      ap (stopped_by natives script) is ∙ ap (λ (found : Option ClientPlay). option_and_then (λ (p : ClientPlay). p.stopped) found) e

  has_text : (text : List ℕ) (P : List ℕ → Type 0) → text_of natives script ≡ Some text → P text → IsSomeAnd (text_of natives script) P
  has_text text P is p = subst (λ (o : Option (List ℕ)). IsSomeAnd o P) (sym is) p

  -- the text goes on behind what was printed so far
  text_goes_on : (at : ℕ) (player : PlayerView) (lines : List ℕ) (a b : Option (List ℕ)) → (g : Gathering at player lines a b)
      → (more : List ℕ) × (text_of natives script ≡ Some ((g.text ++ lines) ++ more))
  text_goes_on at player lines a b g =
      let there = play_there (calls_made on calls start) g.comes in
      let grown = lines_grow on (drop at calls) g.place there.0 (sym g.onward ∙ there.1) in
      let all : text_of_play there.0 ≡ (g.text ++ lines) ++ text_of_lines grown.0 =
      ap text_of_lines grown.1 ∙ flat_map-append text_of_line g.place.lines grown.0
      ∙ ap (λ (text : List ℕ). text ++ text_of_lines grown.0) g.printed in (
        text_of_lines grown.0,
        text_played g.boot there.0 g.has_boot (g.is_play ∙ there.1) ∙ ap (λ (text : List ℕ). Some text) all,
      )

  -- ---- as the calls go on

  -- a call was made, and lines were put or kept
  pub gathering_more : (at : ℕ) (before after : PlayerView) (lines more kept : List ℕ) (a b c : Option (List ℕ)) (call filler : ScriptCall)
      → at < length calls → call ≡ get_or calls at filler → Gathering at before lines a b
      → ((place : Client) → IsAt on place before → PrintsLine on place call after lines more)
      → PutsBut kept b c more → Gathering (at + 1) after kept a c
  gathering_more at before after lines more kept a b c call filler lt is g plays puts =
      let made = plays g.place g.stands in
      let next = after_call g.place call made.room made.after in
      let line = line_of g.place call made.after in
      record {
        boot = g.boot;
        has_boot = g.has_boot;
        is_play = g.is_play;
        comes = g.comes;
        sound = g.sound;
        place = next;
        stands = made.stands;
        onward = g.onward ∙ ap (λ (all : List ScriptCall). calls_made on all g.place) (next_call at call filler lt is)
            ∙ ap (λ (came : Option Came). option_and_then (goes_on (λ place. calls_made on (drop (at + 1) calls) place) g.place call) came) made.made;
        text = g.text ++ puts.part;
        printed = one_more g.place.lines line ∙ ap (λ (text : List ℕ). text ++ text_of_line line) g.printed
            ∙ append_assoc g.text lines (text_of_line line)
            ∙ ap (λ (text : List ℕ). g.text ++ text) (sym made.line ∙ puts.cut) ∙ sym (append_assoc g.text puts.part kept);
        put = Appends-trans a b c g.text puts.part g.put puts.put;
      }

  -- a part of the gathered lines was put
  gathering_part : (at : ℕ) (player : PlayerView) (lines : List ℕ) (a b c : Option (List ℕ)) → Gathering at player lines a b
      → AppendsPart b c lines → IsSomeAnd (text_of natives script) (AppendsPart a c)
  gathering_part at player lines a b c g part =
      let rest = text_goes_on at player lines a b g in
      has_text (g.text ++ (lines ++ rest.0)) (AppendsPart a c)
      (rest.1 ∙ ap (λ (text : List ℕ). Some text) (append_assoc g.text lines rest.0))
      (AppendsPart-then a b c g.text lines rest.0 (g.text ++ (lines ++ rest.0)) g.put refl part)

  -- a call was made, and then the sink failed or memory ran out
  pub gathering_unput : (at : ℕ) (before after : PlayerView) (lines more kept : List ℕ) (stop : Stop) (a b c : Option (List ℕ))
      (call filler : ScriptCall) → at < length calls → call ≡ get_or calls at filler → Gathering at before lines a b
      → ((place : Client) → IsAt on place before → PrintsLine on place call after lines more)
      → PutsOrKeeps more (Err stop) kept b c → IsToldOf natives script (Err stop) a c
  gathering_unput at before after lines more kept Full a b c call filler lt is g plays puts = absurd puts
  gathering_unput at before after lines more kept Failed a b c call filler lt is g plays puts =
      gathering_part (at + 1) after more a b c
      (gathering_more at before after lines more more a b b call filler lt is g plays (put-none more b)) puts
  gathering_unput at before after lines more kept Memory a b c call filler lt is g plays puts =
      inr (gathering_part (at + 1) after more a b c
      (gathering_more at before after lines more more a b b call filler lt is g plays (put-none more b)) puts)

  -- all text was put
  all_put : (text lines : List ℕ) (a b c : Option (List ℕ)) → text_of natives script ≡ Some (text ++ lines) → Appends a b text
      → Appends b c lines → IsSomeAnd (text_of natives script) (Appends a c)
  all_put text lines a b c is first then =
      has_text (text ++ lines) (Appends a c) is (Appends-trans a b c text lines first then)

  -- the play at an end has this text
  pub record EndsWith (text : List ℕ) (stopped : Option ℕ) : Type 0 where
    pub told : text_of natives script ≡ Some text
    pub ends : stopped_in natives script ≡ stopped

  ends_so : (at : ℕ) (player : PlayerView) (lines : List ℕ) (a b : Option (List ℕ)) (g : Gathering at player lines a b) (play : ClientPlay)
      → calls_made on (drop at calls) g.place ≡ Some play → play.lines ≡ g.place.lines → EndsWith (g.text ++ lines) play.stopped
  ends_so at player lines a b g play e same =
      let is = g.is_play ∙ g.onward ∙ e in
      record {
        told = text_played g.boot play g.has_boot is ∙ ap (λ (text : List ℕ). Some text) (ap text_of_lines same ∙ g.printed);
        ends = stopped_played g.boot play g.has_boot is;
      }

  -- a call stopped the play
  pub gathering_stopped : (at : ℕ) (before after : PlayerView) (lines left : List ℕ) (stop end : Stop) (a b c : Option (List ℕ))
      (call filler : ScriptCall) → at < length calls → call ≡ get_or calls at filler → Gathering at before lines a b
      → ((place : Client) → IsAt on place before → Plays on place call (Err stop) after lines left)
      → EndsAs stop left end b c → IsToldOf natives script (Err end) a c
  gathering_stopped at before after lines left Full end a b c call filler lt is g plays ends =
      let full = plays g.place g.stands in
      let play : ClientPlay = record { history = full.0.1; lines = g.place.lines; stopped = Some full.0.0 } in
      let e : calls_made on (drop at calls) g.place ≡ Some play =
      ap (λ (all : List ScriptCall). calls_made on all g.place) (next_call at call filler lt is)
      ∙ ap (λ (came : Option Came). option_and_then (goes_on (λ place. calls_made on (drop (at + 1) calls) place) g.place call) came) full.0.2 in
      let whole = ends_so at before lines a b g play e refl in
      by_end end (subst (λ (text : List ℕ). EndsAs Full text end b c) full.1 ends) whole
    where
      by_end : (end : Stop) → EndsAs Full lines end b c → EndsWith (g.text ++ lines) (Some (plays g.place g.stands).0.0)
          → IsToldOf natives script (Err end) a c
      by_end Full put whole =
          (subst (λ (o : Option ℕ). IsSome o) (sym whole.ends) refl, all_put g.text lines a b c whole.told g.put put)
      by_end Failed part whole = gathering_part at before lines a b c g part
      by_end Memory part whole = inr (gathering_part at before lines a b c g part)
  gathering_stopped at before after lines left Failed end a b c call filler lt is g plays ends = absurd ends
  gathering_stopped at before after lines left Memory Full a b c call filler lt is g plays ends = absurd ends
  gathering_stopped at before after lines left Memory Failed a b c call filler lt is g plays ends = absurd ends
  gathering_stopped at before after lines left Memory Memory a b c call filler lt is g plays ends =
      inr (gathering_part at before lines a b c g
      (subst (λ (x : Option (List ℕ)). AppendsPart b x lines) (sym ends) (AppendsPart-nothing b lines)))

  -- all calls were made
  pub gathering_ended : (at : ℕ) (player : PlayerView) (lines : List ℕ) (result : Result (Unit {0}) Stop) (a b c : Option (List ℕ))
      → drop at calls ≡ [] → Gathering at player lines a b → PutsLines lines result b c → IsToldOf natives script result a c
  gathering_ended at player lines (Ok done) a b c all g puts =
      let whole = ends_so at player lines a b g (ended g.place) (ap (λ (left : List ScriptCall). calls_made on left g.place) all) refl in
      (whole.ends, all_put g.text lines a b c whole.told g.put puts)
  gathering_ended at player lines (Err Full) a b c all g puts = absurd puts
  gathering_ended at player lines (Err Failed) a b c all g puts = gathering_part at player lines a b c g puts
  gathering_ended at player lines (Err Memory) a b c all g puts = inr (gathering_part at player lines a b c g puts)

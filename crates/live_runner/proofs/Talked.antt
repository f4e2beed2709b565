-- The turns so far.
use Rattle.std.proofs.Common.{◌≡◌, ℕ, ◌⊎◌, inl, inr, List, [], ◌∷◌, ◌++◌, Option, Some, None, refl, sym, ap, subst, ◌∙◌, append-nil}
use Rattle.std.specs.Prelude.{IfSome, IsSome, Ok, filter}
use Rattle.kernel_model.specs.Application.{IsBooted, booted}
use Rattle.kernel_model.proofs.Parts.{some_of}
use Rattle.line_port.specs.History.{Adds, Event, Hears, Input, Says}
use Rattle.line_port.specs.Laws.{Adds-trans, Closes-adds, HappenInTurn-adds, HappenInTurn-trans, StandsStill-refl}
use Rattle.line_port.specs.Told.{Closes, HappenInTurn, Told}
use Rattle.line_port.specs.declared.finish.Finish.{Finish}
use Rattle.line_port.specs.declared.finish.Finish.TheVariants as finish
use Rattle.live_play.specs.Answer.{IsPlayed, Platform, play_at}
use Rattle.live_play.specs.Conversation.{after_all}
use Rattle.live_play.specs.Laws.{IsHeld, TurnsAreTold}
use Rattle.live_play.specs.Showing.{ArePlayed, IsShownRest, Position, first_position, position_after, position_behind, showing, shown_to}
use Rattle.live_play.specs.ShowingLaws.{HistoryOffForgetsAlone, is_plain}
use Rattle.live_runner.specs.Talks.{AreHeld, TalksWithQuestions, platform_behind}
use Rattle.live_runner.specs.Turns.{EndsTurn, StandsIn, Turns}
use Rattle.live_runner.specs.declared.talk.Talk.{Talk}
use Rattle.notify_play.specs.NotifyPlay.{NotifyPlay}
use Rattle.notify_text.specs.Rules.{no_lines}
use Rattle.ta_isa.specs.declared.boot.Boot.{Boot}

-- ---- one turn more

showing-more : (on : Platform) (here : Position) (inputs : List Input) (input : Input)
    → showing on here (inputs ++ input ∷ [])
    ≡ showing on here inputs ++ Hears input ∷ Says (shown_to on (position_behind on here inputs) input) ∷ []
showing-more on here [] input = refl
showing-more on here (first ∷ inputs) input =
    ap (λ (l : List Event). Hears first ∷ Says (shown_to on here first) ∷ l)
    (showing-more on (position_after on here first) inputs input)

behind-more : (on : Platform) (here : Position) (inputs : List Input) (input : Input)
    → position_behind on here (inputs ++ input ∷ []) ≡ position_after on (position_behind on here inputs) input
behind-more on here [] input = refl
behind-more on here (first ∷ inputs) input = behind-more on (position_after on here first) inputs input

-- a part of what was heard is all of it, or a part of what was heard before
cons-first : (a b : Input) (xs ys : List Input) → a ∷ xs ≡ b ∷ ys → a ≡ b
cons-first a b xs ys e = cc

cons-rest : (a b : Input) (xs ys : List Input) → a ∷ xs ≡ b ∷ ys → xs ≡ ys
cons-rest a b xs ys e = cc

none-left : (xs ys : List Input) → [] ≡ xs ++ ys → xs ≡ []
none-left [] ys e = refl
none-left (x ∷ xs) ys e = absurd cc

parts : (inputs : List Input) (input : Input) (front behind : List Input) → inputs ++ input ∷ [] ≡ front ++ behind
    → (front ≡ inputs ++ input ∷ []) ⊎ ((more : List Input) × (inputs ≡ front ++ more))
parts inputs input [] behind e = inr (inputs, refl)
parts [] input (f ∷ front) behind e =
    let first : input ≡ f = cons-first input f [] (front ++ behind) e in
    let none : front ≡ [] = none-left front behind (cons-rest input f [] (front ++ behind) e) in
    inl (ap (λ (l : List Input). f ∷ l) none ∙ ap (λ (i : Input). i ∷ []) (sym first))
parts (i ∷ inputs) input (f ∷ front) behind e =
    let first : i ≡ f = cons-first i f (inputs ++ input ∷ []) (front ++ behind) e in
    elim (parts inputs input front behind (cons-rest i f (inputs ++ input ∷ []) (front ++ behind) e)) [
      | inl all ↦ inl (ap (λ (l : List Input). f ∷ l) all ∙ ap (λ (x : Input). x ∷ inputs ++ input ∷ []) (sym first))
      | inr rest ↦ inr (rest.0, ap (λ (l : List Input). i ∷ l) rest.1 ∙ ap (λ (x : Input). x ∷ front ++ rest.0) first)
    ]

-- ---- the turns so far

-- whole turns happened over the port, behind which it stands; and each part of them has its play
pub record Going (on : Platform) (start now : Told) (talk : Talk) : Type 0 where
  pub inputs : List Input
  pub happened : HappenInTurn (showing on first_position inputs) start now
  pub stands : StandsIn on (position_behind on first_position inputs) talk
  pub each : (front behind : List Input) → inputs ≡ front ++ behind → ArePlayed on (position_behind on first_position front).lines

pub going-first : (on : Platform) (start : Told) (talk : Talk) → StandsIn on first_position talk
    → Going on start start talk
going-first on start talk stands = record {
  inputs = [];
  happened = refl;
  stands = stands;
  each = λ front behind e.
      let P : List Input → Type 0 = λ l. ArePlayed on (position_behind on first_position l).lines in
      subst P (sym (none-left front behind e)) stands.player.has_play;
}

pub going-more : (on : Platform) (start old new : Told) (before after : Talk)
    → Going on start old before
    → ((here : Position) → StandsIn on here before → Turns on here old new (Ok tt) after)
    → Going on start new after
going-more on start old new before after going turns =
    let turn = turns (position_behind on first_position going.inputs) going.stands in
    let input : Input = turn.0 in
    let all : List Input = going.inputs ++ input ∷ [] in
    let P : Position → Type 0 = λ here. StandsIn on here after in
    let stands : StandsIn on (position_behind on first_position all) after =
    subst P (sym (behind-more on first_position going.inputs input)) turn.2 in
    record {
      inputs = all;
      happened =
          let R : List Event → Type 0 = λ events. HappenInTurn events start new in
          subst R (sym (showing-more on first_position going.inputs input))
          (HappenInTurn-trans (showing on first_position going.inputs)
          (Hears input ∷ Says (shown_to on (position_behind on first_position going.inputs) input) ∷ []) start old new
          going.happened turn.1);
      stands = stands;
      each = λ front behind e.
          let Q : List Input → Type 0 = λ l. ArePlayed on (position_behind on first_position l).lines in
          elim (parts going.inputs input front behind e) [
            | inl whole ↦ subst Q (sym whole) stands.player.has_play
            | inr rest ↦ going.each front rest.0 rest.1
          ];
    }

-- ---- the end

held-by : (on : Platform) (inputs : List Input) (boot : Option Boot) → TurnsAreTold
    → (after_all on no_lines inputs).trace.boot ≡ boot
    → IfSome boot (λ (b : Boot). IsBooted (booted b on.natives) × IsSome (play_at on (after_all on no_lines inputs)))
    → IfSome boot (λ (b : Boot).
    (told : NotifyPlay) × (play_at on (after_all on no_lines inputs) ≡ Some told) × IsHeld on inputs b told)
held-by on inputs None law there played = tt
held-by on inputs (Some boot) law there played =
    let told = some_of (play_at on (after_all on no_lines inputs)) played.1 in
    (told.0, told.1, law on inputs boot told.0 there played.0 told.1)

held-there : (on : Platform) (inputs : List Input) → TurnsAreTold → IsPlayed on (after_all on no_lines inputs)
    → AreHeld on inputs
held-there on inputs law played = held-by on inputs (after_all on no_lines inputs).trace.boot law refl played

-- of the lines of a trace with signals, where entries read as much as they may by then
held-behind : (on : Platform) (inputs : List Input) → TurnsAreTold → HistoryOffForgetsAlone
    → ArePlayed on (position_behind on first_position inputs).lines → AreHeld (platform_behind on inputs) (filter is_plain inputs)
held-behind on inputs told alone played =
    let there : Platform = platform_behind on inputs in
    held-there there (filter is_plain inputs) told (subst (IsPlayed there) (alone.in_order on inputs).lines played)

heard-first : (a b : Input) (xs ys : List Event) → Hears a ∷ xs ≡ Hears b ∷ ys → a ≡ b
heard-first a b xs ys e = cc

said-nothing : (heard : Input) (part : List ℕ) → [] ≡ Hears heard ∷ Says part ∷ [] → ⊥
said-nothing heard part e = cc

unanswered : (a b : Input) (part : List ℕ) → Hears a ∷ [] ≡ Hears b ∷ Says part ∷ [] → ⊥
unanswered a b part e = cc

-- a part of the last answer was said
half-held : (on : Platform) (inputs : List Input) (end : Finish) (rest : List Event) → TurnsAreTold → HistoryOffForgetsAlone
    → IsShownRest on (position_behind on first_position inputs) end rest → (input : Input) (part : List ℕ)
    → rest ≡ Hears input ∷ Says part ∷ [] → AreHeld (platform_behind on (inputs ++ input ∷ [])) (filter is_plain (inputs ++ input ∷ []))
half-held on inputs finish.Over rest told alone ended input part e = absurd (said-nothing input part (sym ended ∙ e))
half-held on inputs finish.ReadFault rest told alone ended input part e = absurd (said-nothing input part (sym ended ∙ e))
half-held on inputs finish.WriteFault rest told alone ended input part e =
    let P : Position → Type 0 = λ here. ArePlayed on here.lines in
    let Q : Input → Type 0 = λ i. ArePlayed on (position_behind on first_position (inputs ++ i ∷ [])).lines in
    held-behind on (inputs ++ input ∷ []) told alone
    (subst Q (heard-first ended.0 input _ _ (sym ended.2 ∙ e))
    (subst P (sym (behind-more on first_position inputs ended.0)) ended.3))
half-held on inputs finish.Memory rest told alone ended input part e =
    elim ended [
      | inl none ↦ absurd (said-nothing input part (sym none ∙ e))
      | inr heard ↦ absurd (unanswered heard.0 input part (sym heard.1 ∙ e))
    ]

-- it ended as it waited for a line
pub ends-unheard : (on : Platform) (here : Position) (now : Told) → EndsTurn on here now now finish.Memory
ends-unheard on here now = record {
  rest = [];
  behind = now;
  happened = refl;
  closed = StandsStill-refl now;
  ended = inl refl;
}

-- what happened stands in the history, whatever end it came to
grown-by : (events : List Event) (end : Finish) (start behind new : Told) → HappenInTurn events start behind → Closes end behind new
    → Adds start.history new.history events
grown-by events end start behind new happened closed =
    subst (Adds start.history new.history) (append-nil events)
    (Adds-trans start.history behind.history new.history events [] (HappenInTurn-adds events start behind happened)
    (Closes-adds end behind new closed))

pub shows-ended : (on : Platform) (start old new : Told) (talk : Talk) (end : Finish) → TurnsAreTold → HistoryOffForgetsAlone
    → Going on start old talk → ((here : Position) → StandsIn on here talk → EndsTurn on here old new end)
    → TalksWithQuestions on start new end
shows-ended on start old new talk end told alone going ends =
    let last = ends (position_behind on first_position going.inputs) going.stands in
    let events : List Event = showing on first_position going.inputs ++ last.rest in
    let happened : HappenInTurn events start last.behind =
    HappenInTurn-trans (showing on first_position going.inputs) last.rest start old last.behind going.happened last.happened in
    record {
      talk = record {
        inputs = going.inputs;
        rest = last.rest;
        history = grown-by events end start last.behind new happened last.closed;
        ended = last.ended;
        played = going.stands.player.has_play;
      };
      behind = last.behind;
      happened = happened;
      closed = last.closed;
      held = λ front behind e. held-behind on front told alone (going.each front behind e);
      half_said = half-held on going.inputs end last.rest told alone last.ended;
    }

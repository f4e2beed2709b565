-- A conversation in which nothing asks: it is one as it was before lines could ask.
use Rattle.std.proofs.Common.{◌≡◌, ℕ, List, [], ◌∷◌, ◌++◌, true, refl, sym, ap, subst, ◌∙◌}
use Rattle.std.specs.Prelude.{◌&&◌, filter, take}
use Rattle.std.specs.List.{list_all}
use Rattle.std.proofs.lemmas.Bool.{and_from, and_parts}
use Rattle.std.proofs.lemmas.List.Folds.{list_all-append}
use Rattle.line_port.specs.History.{Adds, Event, Hears, Input, Says}
use Rattle.line_port.specs.Told.{Told}
use Rattle.line_port.specs.declared.finish.Finish.{Finish}
use Rattle.line_port.specs.declared.finish.Finish.TheVariants as finish
use Rattle.live_play.specs.Answer.{Platform}
use Rattle.live_play.specs.Conversation.{IsRest, after_all}
use Rattle.live_play.specs.Showing.{ArePlayed, IsShownRest, Position, first_position, lines_after_other, platform_at, position_after, position_behind, showing}
use Rattle.live_play.specs.ShowingLaws.{PlainConversationsAreAsBefore, hears_plain, is_plain}
use Rattle.live_play.proofs.Asked.{unwatched}
use Rattle.live_runner.specs.Talks.{AreHeld, HearsNoQuestion, TalksWithQuestions, Talks, platform_behind}
use Rattle.live_text.specs.Rules.{LiveFront, no_lines, with_told}
use Rattle.notify_text.specs.Rules as told

-- ---- nothing that was heard asks

kept-first : (input : Input) (inputs others : List Input) → is_plain input ≡ true → filter is_plain inputs ≡ others
    → filter is_plain (input ∷ inputs) ≡ input ∷ others
kept-first input inputs others plain e = rw plain (ap (λ (l : List Input). input ∷ l) e)

all-kept : (inputs : List Input) → list_all is_plain inputs ≡ true → filter is_plain inputs ≡ inputs
all-kept [] plain = refl
all-kept (input ∷ inputs) plain =
    let parts = and_parts (is_plain input) (list_all is_plain inputs) plain in
    kept-first input inputs inputs parts.0 (all-kept inputs parts.1)

-- of what was heard and said
heard-plain : (on : Platform) (here : Position) (inputs : List Input) → list_all hears_plain (showing on here inputs) ≡ true
    → list_all is_plain inputs ≡ true
heard-plain on here [] plain = refl
heard-plain on here (input ∷ inputs) plain =
    let parts = and_parts (is_plain input) (list_all hears_plain (showing on (position_after on here input) inputs)) plain in
    and_from (is_plain input) (list_all is_plain inputs) parts.0 (heard-plain on (position_after on here input) inputs parts.1)

front-plain : (front behind : List Input) → list_all is_plain (front ++ behind) ≡ true → list_all is_plain front ≡ true
front-plain front behind plain =
    (and_parts (list_all is_plain front) (list_all is_plain behind) (sym (list_all-append is_plain front behind) ∙ plain)).0

-- ---- so it stands where it stood before

plain-behind : (on : Platform) (lines : LiveFront) (inputs : List Input) → PlainConversationsAreAsBefore
    → list_all is_plain inputs ≡ true
    → position_behind on (unwatched lines) inputs ≡ unwatched (with_told lines (after_all (platform_at on lines) lines.told inputs))
plain-behind on lines [] law plain = refl
plain-behind on lines (input ∷ inputs) law plain =
    let parts = and_parts (is_plain input) (list_all is_plain inputs) plain in
    let counted = law.counted on (unwatched lines) input parts.0 in
    ap (λ (here : Position). position_behind on here inputs) counted.0
    ∙ plain-behind on (lines_after_other on lines input) inputs law parts.1

-- and ends as it ended before
plain-rest : (on : Platform) (lines : LiveFront) (end : Finish) (rest : List Event) → PlainConversationsAreAsBefore
    → list_all hears_plain rest ≡ true → IsShownRest on (unwatched lines) end rest → IsRest (platform_at on lines) lines.told end rest
plain-rest on lines finish.Over rest law plain ended = ended
plain-rest on lines finish.ReadFault rest law plain ended = ended
plain-rest on lines finish.WriteFault rest law plain ended =
    let input : Input = ended.0 in
    let P : List Event → Type 0 = λ l. list_all hears_plain l ≡ true in
    let parts = and_parts (is_plain input) true (subst P ended.2 plain) in
    let counted = law.counted on (unwatched lines) input parts.0 in
    let Q : Position → Type 0 = λ here. ArePlayed on here.lines in (
      input,
      ended.1,
      ended.2 ∙ ap (λ (l : List ℕ). Hears input ∷ Says (take ended.1 l) ∷ []) counted.1,
      subst Q counted.0 ended.3,
    )
plain-rest on lines finish.Memory rest law plain ended = ended

-- entries read as much as before
held-alone : (on : Platform) (inputs : List Input) → list_all is_plain inputs ≡ true → PlainConversationsAreAsBefore
    → AreHeld (platform_behind on inputs) inputs → AreHeld on inputs
held-alone on inputs plain law held =
    let P : Position → Type 0 = λ here. AreHeld (platform_at on here.lines) inputs in
    subst P (plain-behind on no_lines inputs law plain) held

-- ---- all of it

pub plain-talks : (on : Platform) (old new : Told) (end : Finish) → PlainConversationsAreAsBefore
    → TalksWithQuestions on old new end → HearsNoQuestion old.history new.history → Talks on old.history new.history end
plain-talks on old new end law shows unasked =
    let inputs : List Input = shows.talk.inputs in
    let rest : List Event = shows.talk.rest in
    let shown : List Event = showing on first_position inputs in
    let parts =
    and_parts (list_all hears_plain shown) (list_all hears_plain rest)
    (sym (list_all-append hears_plain shown rest) ∙ unasked (shown ++ rest) shows.talk.history) in
    let plain : list_all is_plain inputs ≡ true = heard-plain on first_position inputs parts.0 in
    let stands = plain-behind on no_lines inputs law plain in
    let P : List Event → Type 0 = λ events. Adds old.history new.history (events ++ rest) in
    let Q : Position → Type 0 = λ here. IsShownRest on here end rest in
    let R : Position → Type 0 = λ here. ArePlayed on here.lines in
    record {
      talk = record {
        inputs = inputs;
        rest = rest;
        history = subst P (law.said on no_lines inputs plain) shows.talk.history;
        ended = plain-rest on (with_told no_lines (after_all on told.no_lines inputs)) end rest law parts.1 (subst Q stands shows.talk.ended);
        played = subst R stands shows.talk.played;
      };
      held = λ front behind e.
          let S : List Input → Type 0 = λ l. list_all is_plain l ≡ true in
          held-alone on front (front-plain front behind (subst S e plain)) law (subst (AreHeld (platform_behind on front)) (all-kept front (front-plain front behind (subst S e plain))) (shows.held front behind e));
      half_said = λ input part e.
          let S : List Event → Type 0 = λ l. list_all hears_plain l ≡ true in
          let last = and_parts (is_plain input) true (subst S e parts.1) in
          let whole : list_all is_plain (inputs ++ input ∷ []) ≡ true =
          list_all-append is_plain inputs (input ∷ [])
          ∙ and_from (list_all is_plain inputs) (is_plain input && true) plain (and_from (is_plain input) true last.0 refl) in
          held-alone on (inputs ++ input ∷ []) whole law
          (subst (AreHeld (platform_behind on (inputs ++ input ∷ []))) (all-kept (inputs ++ input ∷ []) whole) (shows.half_said input part e));
    }

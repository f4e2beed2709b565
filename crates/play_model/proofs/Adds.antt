-- What comes to a play: events that follow on its kernel, and which moves let them happen.
use Rattle.std.proofs.Common.{◌≡◌, ℕ, List, [], ◌∷◌, ◌++◌, Option, Some, None, refl, ap, subst, sym, ◌∙◌}
use Rattle.std.specs.Option.{option_and_then, option_map_or}
use Rattle.std.proofs.lemmas.List.{append_assoc, append-nil}
use Rattle.event_journal.specs.declared.event.Event.{Event}
use Rattle.kernel_model.specs.Application.{Booted}
use Rattle.kernel_model.specs.History.{after_event, after_events}
use Rattle.kernel_model.specs.Kernel.{Kernel}
use Rattle.kernel_model.proofs.Parts.{option_map_some}
use Rattle.kernel_model.proofs.Past.{after_events-append}
use Rattle.play_model.specs.Order.{Follow, IsMadeBy, Move}
use Rattle.play_model.specs.Play.{Play, unless_refused, with_event}

-- ---- moves in a row

pub follow-append : (before : List Event) (moves more : List Move) (events behind : List Event)
    → Follow before moves events → Follow (before ++ events) more behind
    → Follow before (moves ++ more) (events ++ behind)
follow-append before [] more [] behind first second =
    subst (λ (b : List Event). Follow b more behind) (append-nil before) second
follow-append before [] more (event ∷ events) behind first second = absurd first
follow-append before (move ∷ moves) more [] behind first second = absurd first
follow-append before (move ∷ moves) more (event ∷ events) behind first second =
    let joined = sym (append_assoc before (event ∷ []) events) in (
      first.0,
      follow-append (before ++ event ∷ []) moves more events behind first.1
          (subst (λ (b : List Event). Follow b more behind) joined second),
    )

-- ---- plays

-- these events came to a play, which moves let happen
pub record Adds (boot : Booted) (moves : List Move) (before after : Play) : Type 0 where
  pub events : List Event
  pub history : after.history ≡ before.history ++ events
  pub kernels : after_events boot before.kernel events ≡ Some after.kernel
  pub follows : Follow before.history moves events

-- none did
pub adds_nothing : (boot : Booted) (before after : Play) → after.history ≡ before.history
    → after.kernel ≡ before.kernel → Adds boot [] before after
adds_nothing boot before after history kernel = record {
  events = [];
  history = history ∙ sym (append-nil before.history);
  kernels = ap (λ (k : Kernel). Some k) (sym kernel);
  follows = tt;
}

-- one did
pub adds_event : (boot : Booted) (move : Move) (event : Event) (before after : Play)
    → IsMadeBy before.history move event
    → with_event boot event before ≡ Some after → Adds boot (move ∷ []) before after
adds_event boot move event before after made e =
    let came = option_map_some
    (λ (next : Kernel). record before { kernel = next; history = before.history ++ event ∷ [] })
    (after_event boot before.kernel event) after e in
    record {
      events = event ∷ [];
      history = ap (λ (p : Play). p.history) (sym came.2);
      kernels = ap (λ (o : Option Kernel). option_and_then (λ k. Some k) o) came.1
          ∙ ap (λ (p : Play). Some p.kernel) came.2;
      follows = (made, tt);
    }

-- some did, and then others
pub adds_more : (boot : Booted) (moves more : List Move) (before between after : Play)
    → Adds boot moves before between → Adds boot more between after → Adds boot (moves ++ more) before after
adds_more boot moves more before between after first second = record {
  events = first.events ++ second.events;
  history = second.history ∙ ap (λ (h : List Event). h ++ second.events) first.history
      ∙ append_assoc before.history first.events second.events;
  kernels = after_events-append boot before.kernel first.events second.events
      ∙ ap (λ (o : Option Kernel). option_and_then (λ k. after_events boot k second.events) o) first.kernels
      ∙ second.kernels;
  follows = follow-append before.history moves more first.events second.events first.follows
      (subst (λ (h : List Event). Follow h more second.events) first.history second.follows);
}

-- ---- what follows unless an entry was refused

pub some_is : (one other : Play) → Some one ≡ Some other → one ≡ other
some_is one other e = cc

-- it goes on, or it has ended
pub data GoesOn (onward : Play → Option Play) (before after : Play) : Type 0 where
  Onward : before.refused ≡ None → onward before ≡ Some after → GoesOn onward before after
  Ended : (more : ℕ) → before.refused ≡ Some more → before ≡ after → GoesOn onward before after

goes_on_by : (onward : Play → Option Play) (before after : Play) (refused : Option ℕ) → before.refused ≡ refused
    → unless_refused onward before ≡ Some after → GoesOn onward before after
goes_on_by onward before after None is e =
    Onward is (sym (ap (λ (o : Option ℕ). option_map_or (λ more. Some before) o (onward before)) is) ∙ e)
goes_on_by onward before after (Some more) is e =
    let here : Some before ≡ Some after = sym
    (ap (λ (o : Option ℕ). option_map_or (λ more. Some before) o (onward before)) is) ∙ e in
    let same : before ≡ after = cc in
    Ended more is same

pub goes_on : (onward : Play → Option Play) (before after : Play) → unless_refused onward before ≡ Some after
    → GoesOn onward before after
goes_on onward before after e = goes_on_by onward before after before.refused refl e

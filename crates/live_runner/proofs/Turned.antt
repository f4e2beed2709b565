-- A turn: what was heard, and how a port may end in it.
use Rattle.std.proofs.Common.{◌≡◌, ℕ, inl, inr, List, [], ◌∷◌, Option, Some, None, refl, ap, subst, ◌∙◌}
use Rattle.std.specs.Prelude.{Ok, take}
use Rattle.line_port.specs.Faults.{faults_behind}
use Rattle.line_port.specs.Finish.{finish_of_heard, finish_of_said}
use Rattle.line_port.specs.History.{Event, Hears, Input, Says}
use Rattle.line_port.specs.History as history
use Rattle.line_port.specs.Laws.{StandsStill-refl}
use Rattle.line_port.specs.Told.{Closes, Happens, HearsAs, Told}
use Rattle.line_port.specs.declared.faults.Faults.{Faults}
use Rattle.line_port.specs.declared.finish.Finish.{Finish}
use Rattle.line_port.specs.declared.finish.Finish.TheVariants as finish
use Rattle.line_port.specs.declared.port.Heard.{Heard}
use Rattle.line_port.specs.declared.port.Heard.TheVariants as heard
use Rattle.line_port.specs.declared.port.Said.{Said}
use Rattle.line_port.specs.declared.port.Said.TheVariants as said
use Rattle.live_play.specs.Answer.{Platform}
use Rattle.live_play.specs.Showing.{IsShownRest, Position}
use Rattle.live_runner.specs.Turns.{EndsTurn, HasShown, IsHeard, Turns}
use Rattle.live_runner.specs.declared.talk.Talk.{Talk}

-- what was heard where the port hasn't ended
pub heard-there : (what : Heard) (line : List ℕ) → finish_of_heard what ≡ None → (input : Input) × IsHeard what line input
heard-there heard.Line line e = (history.Line line, refl)
heard-there heard.Long line e = (history.Long, refl)
heard-there heard.Cut line e = (history.Cut, refl)
heard-there heard.End line e = absurd cc
heard-there heard.Failed line e = absurd cc
heard-there heard.Memory line e = absurd cc

some-finish : (one other : Finish) → Some one ≡ Some other → one ≡ other
some-finish one other e = cc

first-heard : (a b : Input) (xs ys : List Event) → Hears a ∷ xs ≡ Hears b ∷ ys → a ≡ b
first-heard a b xs ys e = cc

-- what was heard happened over the port
pub heard-happens : (what : Heard) (line : List ℕ) (input : Input) (old new : Told) → IsHeard what line input
    → HearsAs what line old new → Happens (Hears input) old new
heard-happens heard.Line line input old new is happened =
    let P : Input → Type 0 = λ i. Happens (Hears i) old new in subst P (first-heard (history.Line line) input [] [] is) happened
heard-happens heard.Long line input old new is happened =
    let P : Input → Type 0 = λ i. Happens (Hears i) old new in subst P (first-heard history.Long input [] [] is) happened
heard-happens heard.Cut line input old new is happened =
    let P : Input → Type 0 = λ i. Happens (Hears i) old new in subst P (first-heard history.Cut input [] [] is) happened
heard-happens heard.End line input old new is happened = absurd cc
heard-happens heard.Failed line input old new is happened = absurd cc
heard-happens heard.Memory line input old new is happened = absurd cc

-- it ended as it heard
unheard : (on : Platform) (here : Position) (end other : Finish) (old new : Told) → Some end ≡ Some other → Closes end old new
    → IsShownRest on here end [] → EndsTurn on here old new other
unheard on here end other old new e closed ended =
    let P : Finish → Type 0 = λ f. EndsTurn on here old new f in
    subst P (some-finish end other e) (record { rest = []; behind = old; happened = refl; closed = closed; ended = ended })

pub ended-hearing : (on : Platform) (here : Position) (what : Heard) (line : List ℕ) (end : Finish) (old new : Told)
    → finish_of_heard what ≡ Some end → HearsAs what line old new → EndsTurn on here old new end
ended-hearing on here heard.Line line end old new e closed = absurd cc
ended-hearing on here heard.Long line end old new e closed = absurd cc
ended-hearing on here heard.Cut line end old new e closed = absurd cc
ended-hearing on here heard.End line end old new e closed = unheard on here finish.Over end old new e closed refl
ended-hearing on here heard.Failed line end old new e closed = unheard on here finish.ReadFault end old new e closed refl
ended-hearing on here heard.Memory line end old new e closed = unheard on here finish.Memory end old new e closed (inl refl)

-- memory ran out behind what was heard
pub ended-unanswered : (on : Platform) (here : Position) (input : Input) (old now : Told) → Happens (Hears input) old now
    → EndsTurn on here old now finish.Memory
ended-unanswered on here input old now happened = record {
  rest = Hears input ∷ [];
  behind = now;
  happened = (now, happened, refl);
  closed = StandsStill-refl now;
  ended = inr (input, refl);
}

-- the answer was said
pub said-all : (on : Platform) (here : Position) (spoken : List ℕ) (input : Input) (talk : Talk) (told : Said) (a b c : Told)
    → HasShown on here input talk → spoken ≡ talk.answer.items → Happens (Hears input) a b → finish_of_said told ≡ None
    → (told ≡ said.Done → Happens (Says spoken) b c) → Turns on here a c (Ok tt) talk
said-all on here spoken input talk said.Done a b c answered same happened e done =
    let P : List ℕ → Type 0 = λ l. Happens (Says l) b c in
    (input, (b, happened, (c, subst P (same ∙ answered.said) (done refl), refl)), answered.stands)
said-all on here spoken input talk said.Failed a b c answered same happened e done = absurd cc
said-all on here spoken input talk said.Memory a b c answered same happened e done = absurd cc

-- or a part of it, or nothing
pub ended-saying : (on : Platform) (here : Position) (spoken : List ℕ) (input : Input) (talk : Talk) (told : Said) (end : Finish)
    (a b c : Told) → HasShown on here input talk → spoken ≡ talk.answer.items → Happens (Hears input) a b
    → finish_of_said told ≡ Some end → (told ≡ said.Failed → (n : ℕ) × Happens (Says (take n spoken)) b c)
    → (told ≡ said.Memory → c ≡ b) → EndsTurn on here a c end
ended-saying on here spoken input talk said.Done end a b c answered same happened e failed memory = absurd cc
ended-saying on here spoken input talk said.Failed end a b c answered same happened e failed memory =
    let part = failed refl in
    let P : Finish → Type 0 = λ f. EndsTurn on here a c f in
    subst P (some-finish finish.WriteFault end e) (record {
      rest = Hears input ∷ Says (take part.0 spoken) ∷ [];
      behind = c;
      happened = (b, happened, (c, part.1, refl));
      closed = refl;
      ended = (
        input,
        part.0,
        ap (λ (l : List ℕ). Hears input ∷ Says (take part.0 l) ∷ []) (same ∙ answered.said),
        answered.stands.player.has_play,
      );
    })
ended-saying on here spoken input talk said.Memory end a b c answered same happened e failed memory =
    let P : Finish → Type 0 = λ f. EndsTurn on here a c f in
    subst P (some-finish finish.Memory end e) (record {
      rest = Hears input ∷ [];
      behind = c;
      happened = (b, happened, memory refl);
      closed = StandsStill-refl c;
      ended = inr (input, refl);
    })

-- ---- the faults that a turn counts

pub faults-ended : (end : Option Finish) (finish : Finish) (old new : Faults) → end ≡ Some finish → new ≡ faults_behind end old
    → new ≡ faults_behind (Some finish) old
faults-ended end finish old new e counted = counted ∙ ap (λ (x : Option Finish). faults_behind x old) e

pub faults-kept : (end : Option Finish) (old new : Faults) → end ≡ None → new ≡ faults_behind end old → new ≡ old
faults-kept end old new e counted = counted ∙ ap (λ (x : Option Finish). faults_behind x old) e

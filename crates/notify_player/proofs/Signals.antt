-- Signals that a desk takes, one after the other.
use Rattle.std.proofs.Common.{◌≡◌, ℕ, suc, ◌-◌, ◌<◌, ◌≤◌, Bool, true, false, List, [], ◌∷◌, drop, get_or, length, take, refl, ap, subst, sym, ◌∙◌, arith}
use Rattle.std.specs.Prelude.{◌==◌, All, if◌then◌else◌}
use Rattle.std.proofs.lemmas.Bool.Decides.{Decides-eqb}
use Rattle.std.proofs.lemmas.List.{take_all}
use Rattle.kernel_model.specs.Application.{Booted}
use Rattle.notif.specs.Desk.{after_signal}
use Rattle.notif.specs.History as desk
use Rattle.notify_play.specs.NotifyPlay.{Drivers, NotifyPlay}
use Rattle.notify_text.specs.declared.notify_trace.Signal.{Signal}
use Rattle.trace_player.specs.Position.{StandsAt}
use Rattle.trace_player.specs.declared.player.Player.{Player}
use Rattle.notify_player.specs.Playing.{IsPlayedTo, position_in}
use Rattle.notify_player.specs.Signalling.{behind_at, front_at}
use Rattle.notify_player.specs.declared.player.NotifyPlayer.{NotifyPlayer}

-- a signal that stands there is the first of those there
pub front-there : (at : ℕ) (signal : Signal) (signals : List Signal) → signal.at ≡ at
    → front_at at (signal ∷ signals) ≡ signal ∷ front_at at signals
front-there at signal signals is =
    ap (λ (b : Bool). if b then signal ∷ front_at at signals else []) ((Decides-eqb signal.at at).1 is)

pub behind-there : (at : ℕ) (signal : Signal) (signals : List Signal) → signal.at ≡ at
    → behind_at at (signal ∷ signals) ≡ behind_at at signals
behind-there at signal signals is =
    ap (λ (b : Bool). if b then behind_at at signals else signal ∷ signals) ((Decides-eqb signal.at at).1 is)

not-there : (at : ℕ) (signal : Signal) → (signal.at ≡ at → ⊥) → (test : Bool) → (signal.at == at) ≡ test → test ≡ false
not-there at signal apart true e = absurd (apart ((Decides-eqb signal.at at).0 e))
not-there at signal apart false e = refl

-- one that stands elsewhere ends them
pub front-elsewhere : (at : ℕ) (signal : Signal) (signals : List Signal) → (signal.at ≡ at → ⊥)
    → front_at at (signal ∷ signals) ≡ []
front-elsewhere at signal signals apart =
    ap (λ (b : Bool). if b then signal ∷ front_at at signals else []) (not-there at signal apart (signal.at == at) refl)

pub behind-elsewhere : (at : ℕ) (signal : Signal) (signals : List Signal) → (signal.at ≡ at → ⊥)
    → behind_at at (signal ∷ signals) ≡ signal ∷ signals
behind-elsewhere at signal signals apart =
    ap (λ (b : Bool). if b then behind_at at signals else signal ∷ signals)
    (not-there at signal apart (signal.at == at) refl)

-- the player after one signal
pub signalled : (boot : Booted) (drivers : Drivers) (told : NotifyPlay) (value : ℕ) (before after : NotifyPlayer)
    → IsPlayedTo boot drivers told before → after.player ≡ before.player → after.desk ≡ after_signal before.desk value
    → IsPlayedTo boot drivers (record told { calls = desk.Signal value ∷ told.calls }) after
signalled boot drivers told value before after stands player is = record {
  at = subst (λ (p : Player). StandsAt boot (position_in told) p) (sym player) stands.at;
  count = stands.count;
  desk = is ∙ ap (λ d. after_signal d value) stands.desk;
}

-- ---- the first of some signals, and those behind it

abbrev pub tail_of : List Signal → List Signal
tail_of signals = take (length signals - 1) (drop 1 signals)

tail-is : (signal : Signal) (signals : List Signal) → tail_of (signal ∷ signals) ≡ signals
tail-is signal signals =
    let count : length (signal ∷ signals) - 1 ≡ length signals = omega arith in
    ap (λ (n : ℕ). take n signals) count ∙ take_all (length signals) signals (omega arith)

-- what holds of all holds of those behind the first
pub all-tail : (P : Signal → Type 0) (signals : List Signal) → 1 ≤ length signals → All P signals → All P (tail_of signals)
all-tail P [] some all = absurd (omega (arith, some))
all-tail P (signal ∷ signals) some all =
    subst (All P) (sym (tail-is signal signals)) (λ k d lt. all (suc k) d (omega (arith, lt)))

-- one that stands there
pub front-more : (at : ℕ) (signals : List Signal) (d : Signal) → 1 ≤ length signals → (get_or signals 0 d).at ≡ at
    → front_at at signals ≡ get_or signals 0 d ∷ front_at at (tail_of signals)
front-more at [] d some is = absurd (omega (arith, some))
front-more at (signal ∷ signals) d some is =
    front-there at signal signals is ∙ ap (λ (l : List Signal). signal ∷ front_at at l) (sym (tail-is signal signals))

pub behind-more : (at : ℕ) (signals : List Signal) (d : Signal) → 1 ≤ length signals → (get_or signals 0 d).at ≡ at
    → behind_at at signals ≡ behind_at at (tail_of signals)
behind-more at [] d some is = absurd (omega (arith, some))
behind-more at (signal ∷ signals) d some is =
    behind-there at signal signals is ∙ ap (behind_at at) (sym (tail-is signal signals))

-- one that stands elsewhere
pub front-ends : (at : ℕ) (signals : List Signal) (d : Signal) → 1 ≤ length signals
    → ((get_or signals 0 d).at ≡ at → ⊥) → front_at at signals ≡ []
front-ends at [] d some apart = refl
front-ends at (signal ∷ signals) d some apart = front-elsewhere at signal signals apart

-- none at all
pub front-none : (at : ℕ) (signals : List Signal) → length signals < 1 → front_at at signals ≡ []
front-none at [] few = refl
front-none at (signal ∷ signals) few = absurd (omega (arith, few))

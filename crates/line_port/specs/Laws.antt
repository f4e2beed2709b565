-- What several calls of a port come to together.
use Rattle.std.specs.Prelude.{◌≡◌, ℕ, List, [], ◌∷◌, ◌++◌, false, Option, Some, None}
use Rattle.std.proofs.Common.{refl, sym, ap, subst, ◌∙◌, append_assoc, append-nil, eqb}
use Rattle.std.proofs.KnownBytes.{Consumes-nil}
use Rattle.std.proofs.lemmas.List.Elements.{All-nil}
use Rattle.std.specs.Io.KnownBytes.{Consumes}
use Rattle.line_port.specs.Gathering.{LosesPart}
use Rattle.line_port.specs.History.{Adds, Event, Hears, Says}
use Rattle.line_port.specs.Told.{Closes, HappenInTurn, Happens, StandsStill, Told}
use Rattle.line_port.specs.declared.finish.Finish.{Finish}
use Rattle.line_port.specs.declared.finish.Finish.TheVariants as finish

-- a port that was left alone
pub Adds-nil : (history : Option (List Event)) → Adds history history []
Adds-nil None = tt
Adds-nil (Some events) = sym (append-nil events)

-- two calls add what the first added, and then what the second did
pub Adds-trans : (a b c : Option (List Event)) (xs ys : List Event) → Adds a b xs → Adds b c ys → Adds a c (xs ++ ys)
Adds-trans None None None xs ys p q = tt
Adds-trans None None (Some z) xs ys p q = absurd q
Adds-trans None (Some y) c xs ys p q = absurd p
Adds-trans (Some x) None c xs ys p q = absurd p
Adds-trans (Some x) (Some y) None xs ys p q = absurd q
Adds-trans (Some x) (Some y) (Some z) xs ys p q = q ∙ ap (λ l. l ++ ys) p ∙ append_assoc x xs ys

-- ---- what happens

-- these events, and then those
pub HappenInTurn-trans : (xs ys : List Event) (a b c : Told) → HappenInTurn xs a b → HappenInTurn ys b c → HappenInTurn (xs ++ ys) a c
HappenInTurn-trans [] ys a b c same behind = subst (λ (t : Told). HappenInTurn ys t c) same behind
HappenInTurn-trans (x ∷ xs) ys a b c before behind =
    (before.0, before.1, HappenInTurn-trans xs ys before.0 b c before.2 behind)

-- what happens stands in the history
Happens-adds : (event : Event) (a b : Told) → Happens event a b → Adds a.history b.history (event ∷ [])
Happens-adds (Hears input) a b happened = happened.0
Happens-adds (Says bytes) a b happened = happened.0

pub HappenInTurn-adds : (events : List Event) (a b : Told) → HappenInTurn events a b → Adds a.history b.history events
HappenInTurn-adds [] a b same = subst (λ (t : Told). Adds a.history t.history []) (sym same) (Adds-nil a.history)
HappenInTurn-adds (event ∷ events) a b happened =
    Adds-trans a.history happened.0.history b.history (event ∷ []) events (Happens-adds event a happened.0 happened.1)
    (HappenInTurn-adds events happened.0 b happened.2)

-- ---- how it ends

-- where nothing was taken, no part of a line was lost
pub LosesPart-none : (before after : Option (List ℕ)) → Consumes before after [] → LosesPart before after
LosesPart-none before after kept = record { text = []; lacks = All-nil (λ (b : ℕ). eqb b 10 ≡ false); consumed = kept }

-- a port that was left alone
pub StandsStill-refl : (told : Told) → StandsStill told told
StandsStill-refl told = record {
  history = Adds-nil told.history;
  left = LosesPart-none told.left told.left (Consumes-nil told.left);
  held = refl;
}

-- it adds nothing to the history
pub Closes-adds : (end : Finish) (a b : Told) → Closes end a b → Adds a.history b.history []
Closes-adds finish.Over a b closed = closed.0.history
Closes-adds finish.ReadFault a b closed = closed.history
Closes-adds finish.WriteFault a b closed =
    subst (λ (t : Told). Adds a.history t.history []) (sym closed) (Adds-nil a.history)
Closes-adds finish.Memory a b closed = closed.history

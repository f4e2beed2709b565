-- What ports tell of a call.
use Rattle.std.proofs.Common.{◌≡◌, ℕ, List, [], ◌∷◌, ◌++◌, Option, None, true, false, refl}
use Rattle.std.specs.Io.KnownBytes.{Appends}
use Rattle.line_port.specs.Gathering.{TakesLine}
use Rattle.line_port.specs.History.{Event, Says, heard_events}
use Rattle.line_port.specs.Kept.{told_of}
use Rattle.line_port.specs.Laws.{LosesPart-none}
use Rattle.line_port.specs.Told.{Happens, HearsAs}
use Rattle.line_port.specs.declared.port.Heard.{Heard}
use Rattle.line_port.specs.declared.port.Heard.TheVariants as heard

-- ---- over a reader and a writer

pub hears-taken : (what : Heard) (line : List ℕ) (left rest held now : Option (List ℕ)) → TakesLine what line left rest → now ≡ held
    → HearsAs what line (record { history = None; left = left; held = held }) (record { history = None; left = rest; held = now })
hears-taken heard.Line line left rest held now takes same = (tt, λ some. takes, same)
hears-taken heard.Long line left rest held now takes same = (tt, λ some. takes, same)
hears-taken heard.Cut line left rest held now takes same = (tt, λ some. takes, same)
hears-taken heard.End line left rest held now takes same =
    (record { history = tt; left = LosesPart-none left rest takes.0; held = same }, λ some. takes)
hears-taken heard.Failed line left rest held now takes same = record { history = tt; left = takes; held = same }
hears-taken heard.Memory line left rest held now takes same = record { history = tt; left = takes; held = same }

pub says-written : (bytes : List ℕ) (left rest held now : Option (List ℕ)) → Appends held now bytes → rest ≡ left
    → Happens (Says bytes) (record { history = None; left = left; held = held }) (record { history = None; left = rest; held = now })
says-written bytes left rest held now appends same = (tt, appends, same)

-- ---- in memory

untold : (P : Type 0) → false ≡ true → P
untold P told = absurd cc

pub hears-kept : (what : Heard) (line : List ℕ) (old new : List Event) → new ≡ old ++ heard_events what line
    → HearsAs what line (told_of old) (told_of new)
hears-kept heard.Line line old new e = (e, λ some. untold _ some, refl)
hears-kept heard.Long line old new e = (e, λ some. untold _ some, refl)
hears-kept heard.Cut line old new e = (e, λ some. untold _ some, refl)
hears-kept heard.End line old new e = (record { history = e; left = LosesPart-none None None tt; held = refl }, λ some. untold _ some)
hears-kept heard.Failed line old new e = record { history = e; left = LosesPart-none None None tt; held = refl }
hears-kept heard.Memory line old new e = record { history = e; left = LosesPart-none None None tt; held = refl }

pub says-kept : (bytes : List ℕ) (old new : List Event) → new ≡ old ++ Says bytes ∷ [] → Happens (Says bytes) (told_of old) (told_of new)
says-kept bytes old new e = (e, tt, refl)

-- What is in a log: events, each beside its reply, if it has one.
use Rattle.std.specs.Prelude.{List, Option, filter_map, map}

-- the events, and the replies
abbrev pub events_in : {E R : Type 0} → List (E × Option R) → List E
events_in log = map (λ logged. logged.0) log

abbrev pub replies_in : {E R : Type 0} → List (E × Option R) → List R
replies_in log = filter_map (λ logged. logged.1) log

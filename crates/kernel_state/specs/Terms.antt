-- What becomes of a core's events, and how much its entries may read.
use Rattle.std.specs.Prelude.{◌≡◌, ◌^◌, true}
use Rattle.kernel_state.specs.declared.terms.Terms.{Terms}

-- the events are kept, and entries may read 2^28 bytes
abbrev pub kept_terms : Terms
kept_terms = record { keeps = true; most = 2 ^ 28 }

-- RAM with the fills, one behind the other.
use Rattle.std.proofs.Common.{◌≡◌, ℕ, ◌+◌, ◌<◌, List, [], ◌∷◌, ◌++◌, length, map, take, get_or, sym, ap, ◌∙◌}
use Rattle.std.proofs.lemmas.List.{map-append, take_more}
use Rattle.base.specs.Zeros.{zeros}
use Rattle.ns_ram.specs.Lane.{bytes_put}
use Rattle.ns_ram.specs.Writes.{Write, lane_after}
use Rattle.ns_ram.proofs.WriteList.{lane_after-append}
use Rattle.play_model.specs.Play.{filled}
use Rattle.trace_text.specs.declared.trace.Fill.{Fill}

-- one fill more is one write more
pub filled-more : (fills : List Fill) (at : ℕ) (fill : Fill) → at < length fills
    → fill ≡ get_or fills at fill
    → filled (zeros 0x400000) (take (at + 1) fills) ≡ bytes_put (filled (zeros 0x400000) (take at fills)) fill.addr fill.bytes
filled-more fills at fill lt is =
    let write : Fill → Write = λ f. record { addr = f.addr; bytes = f.bytes } in
    ap (filled (zeros 0x400000)) (take_more fills at fill lt ∙ ap (λ (f : Fill). take at fills ++ f ∷ []) (sym is))
    ∙ ap (lane_after (zeros 0x400000)) (map-append write (take at fills) (fill ∷ []))
    ∙ lane_after-append (zeros 0x400000) (map write (take at fills)) (map write (fill ∷ []))

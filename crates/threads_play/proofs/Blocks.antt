-- A block with one line more.
use Rattle.std.proofs.Common.{◌≡◌, ℕ, List, [], ◌∷◌, ◌++◌, Option, None, ap, sym, refl, ◌∙◌, append_assoc}
use Rattle.std.specs.Prelude.{codes}
use Rattle.std.specs.Fmt.{decimal}
use Rattle.std.specs.List.{flat_map}
use Rattle.std.specs.Option.{option_map_or}
use Rattle.std.proofs.lemmas.Grind.{flat_map-append}
use Rattle.std.proofs.lemmas.List.{append-nil}
use Rattle.ordered_play.specs.Blocks.{block_of, full_line, text_of_placed}
use Rattle.ordered_play.specs.Ordered.{refused_seat}
use Rattle.ordered_play.specs.Seat.{PlacedLine, Refusal, Seat, fresh_seat, with_line}

-- ---- appends

append_behind : (h c d : List ℕ) → h ++ c ++ d ≡ (h ++ c ++ []) ++ d
append_behind h c d = ap (λ (t : List ℕ). t ++ d) (sym (append-nil (h ++ c)))

append_within : (h all c d : List ℕ) → all ≡ c ++ d → h ++ all ++ [] ≡ (h ++ c ++ []) ++ d
append_within h all c d is =
    append-nil (h ++ all) ∙ ap (λ (t : List ℕ). h ++ t) is ∙ sym (append_assoc h c d) ∙ append_behind h c d

append_none : (h c d : List ℕ) → c ≡ [] → d ≡ [] → h ≡ h ++ c ++ d
append_none h c d no_c no_d =
    sym (ap (λ (t : List ℕ). h ++ t ++ d) no_c ∙ ap (λ (t : List ℕ). h ++ [] ++ t) no_d ∙ append-nil (h ++ []) ∙ append-nil h)

-- ---- blocks

-- the head of a block and its lines, and what stands behind
abbrev framed : ℕ → List PlacedLine → List ℕ → List ℕ
framed cpu lines more = codes "cpu " ++ decimal cpu ++ 10 ∷ [] ++ flat_map (text_of_placed cpu) lines ++ more

-- before the first line it is its head
pub block_at_first : (cpu : ℕ) (lane : List ℕ) → codes "cpu " ++ decimal cpu ++ 10 ∷ [] ≡ block_of cpu (fresh_seat lane)
block_at_first cpu lane =
    append_none (codes "cpu " ++ decimal cpu ++ 10 ∷ []) (flat_map (text_of_placed cpu) (fresh_seat lane).lines)
    (option_map_or full_line (fresh_seat lane).refused []) refl refl

-- a block where nothing was refused has nothing behind its lines
unrefused : (cpu : ℕ) (seat : Seat) → seat.refused ≡ None → block_of cpu seat ≡ framed cpu seat.lines []
unrefused cpu seat none = ap (λ (o : Option Refusal). framed cpu seat.lines (option_map_or full_line o [])) none

-- a line more
pub block_with_line : (cpu : ℕ) (line : PlacedLine) (seat : Seat) → seat.refused ≡ None
    → block_of cpu (with_line line seat) ≡ block_of cpu seat ++ text_of_placed cpu line
block_with_line cpu line seat none =
    let texts = flat_map (text_of_placed cpu) seat.lines in
    let one : flat_map (text_of_placed cpu) (seat.lines ++ line ∷ []) ≡ texts ++ text_of_placed cpu line =
    flat_map-append (text_of_placed cpu) seat.lines (line ∷ [])
    ∙ ap (λ (t : List ℕ). texts ++ t) (append-nil (text_of_placed cpu line)) in
    unrefused cpu (with_line line seat) none
    ∙ append_within (codes "cpu " ++ decimal cpu ++ 10 ∷ []) (flat_map (text_of_placed cpu) (seat.lines ++ line ∷ [])) texts
    (text_of_placed cpu line) one
    ∙ ap (λ (t : List ℕ). t ++ text_of_placed cpu line) (sym (unrefused cpu seat none))

-- the line of a refused entry
pub block_with_full : (cpu : ℕ) (refusal : Refusal) (seat : Seat) → seat.refused ≡ None
    → block_of cpu (refused_seat seat refusal) ≡ block_of cpu seat ++ full_line refusal
block_with_full cpu refusal seat none =
    append_behind (codes "cpu " ++ decimal cpu ++ 10 ∷ []) (flat_map (text_of_placed cpu) seat.lines) (full_line refusal)
    ∙ ap (λ (t : List ℕ). t ++ full_line refusal) (sym (unrefused cpu seat none))

-- What an exit changes in its processor's RAM, block by block, and the lines that say so. This project's own.
use Rattle.std.specs.Prelude.{◌≡◌, ℕ, ◌+◌, ◌*◌, ◌/◌, ◌≤◌, List, [], ◌∷◌, ◌++◌, bytes_eq, codes, drop, length, take, if◌then◌else◌, zero, suc}
use Rattle.std.specs.Fmt.{decimal}
use Rattle.std.specs.List.{flat_map}
use Rattle.hex.specs.Hex.{encode_lower}
use Rattle.ns_ram.specs.Writes.{Write, lane_after}
use Rattle.play_model.specs.Line.{register_text}

-- ---- blocks of 64 bytes, by their numbers

abbrev pub block_at : List ℕ → ℕ → List ℕ
block_at lane number = take 64 (drop (64 * number) lane)

-- the block, where it isn't what it was before
abbrev pub change_at : List ℕ → List ℕ → ℕ → List Write
change_at before after number =
    if bytes_eq (block_at before number) (block_at after number)
    then []
    else record { addr = 0x40000000 + 64 * number; bytes = block_at after number } ∷ []

-- of the first so many blocks those that aren't what they were, in rising order
unfoldable pub changes_below : ℕ → List ℕ → List ℕ → List Write
changes_below zero before after = []
changes_below (suc number) before after = changes_below number before after ++ change_at before after number

-- of all blocks, of which the last one may be shorter
abbrev pub changes : List ℕ → List ℕ → List Write
changes before after = changes_below ((length after + 63) / 64) before after

-- ---- their lines

-- `wrote CPU ADDRESS HEX`, with the address in eight digits
abbrev pub wrote_line : ℕ → Write → List ℕ
wrote_line cpu write =
    codes "wrote " ++ decimal cpu ++ register_text write.addr ++ 32 ∷ encode_lower write.bytes ++ 10 ∷ []

abbrev pub text_of_changes : ℕ → List Write → List ℕ
text_of_changes cpu writes = flat_map (wrote_line cpu) writes

-- ---- that they tell all

-- over RAM that is no shorter than it was: who lays the lines over what it was has what it is
abbrev pub ChangesTellAll : Type 0
ChangesTellAll = (before after : List ℕ) → length before ≤ length after → lane_after before (changes before after) ≡ after

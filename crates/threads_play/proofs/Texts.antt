-- The blocks, one behind the other.
use Rattle.std.proofs.Common.{◌≡◌, ◌<◌, ◌+◌, ℕ, List, [], ◌∷◌, ◌++◌, length, take, get_or, sym, ap, ◌∙◌}
use Rattle.std.specs.List.{flat_map}
use Rattle.std.proofs.lemmas.List.{append-nil, map_more}
use Rattle.std.proofs.lemmas.List.Concat.{flat_map-append}
use Rattle.threads_play.specs.declared.ending.CpuEnd.{CpuEnd}
use Rattle.threads_play.specs.Ended.{texts_of}

-- one more block
pub next_block : (ends : List CpuEnd) (i : ℕ) (end d : CpuEnd) (before after : List ℕ) → i < length ends → end ≡ get_or ends i d
    → before ≡ flat_map (λ block. block) (texts_of (take i ends)) → after ≡ before ++ end.block.items
    → after ≡ flat_map (λ block. block) (texts_of (take (i + 1) ends))
next_block ends i end d before after within is so adds =
    let more : texts_of (take (i + 1) ends) ≡ texts_of (take i ends) ++ (get_or ends i d).block.items ∷ [] =
    map_more (λ (e : CpuEnd). e.block.items) ends i d within in
    adds
    ∙ ap (λ (t : List ℕ). t ++ end.block.items) so
    ∙ ap (λ (e : CpuEnd). flat_map (λ block. block) (texts_of (take i ends)) ++ e.block.items) is
    ∙ ap (λ (t : List ℕ). flat_map (λ block. block) (texts_of (take i ends)) ++ t) (sym (append-nil (get_or ends i d).block.items))
    ∙ sym (flat_map-append (λ (block : List ℕ). block) (texts_of (take i ends)) ((get_or ends i d).block.items ∷ []))
    ∙ ap (λ (ts : List (List ℕ)). flat_map (λ block. block) ts) (sym more)

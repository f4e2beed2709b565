use Rattle.std.proofs.Common.{◌≡◌, ℕ, List, ◌∷◌, length, ap, ◌∙◌}
use Rattle.hex.specs.Hex.{encode_lower}
use Rattle.answer_lines.proofs.PairTable.{four_pairs}
use Rattle.answer_lines.proofs.digits.register_text.Goals as goal

pub returns : goal.returns
returns c =
    let few : length c.to_be_bytes.result ≡ 4 = ap (λ (l : List ℕ). length l) c.to_be_bytes.ensures in
    let text = four_pairs c.to_be_bytes.result _ _ _ _ few c.pair_of.ensures c.pair_of-2.ensures
    c.pair_of-3.ensures c.pair_of-4.ensures in
    ap (λ (l : List ℕ). 32 ∷ l) (text ∙ ap encode_lower c.to_be_bytes.ensures)

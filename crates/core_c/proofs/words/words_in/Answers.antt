-- What stands between the spaces of a line, or nothing.
use Rattle.std.proofs.Common.{◌≡◌, List, ℕ, Bor, IfOk, map, string_bytes, subst, ap, ◌∙◌}
use Rattle.core_c.proofs.Texts.{parted, wordless}
use Rattle.core_c.proofs.words.words_in.Goals as goal

pub returns-in_ok-parts_of-in-Ok : goal.returns-in_ok-parts_of-in-Ok
returns-in_ok-parts_of-in-Ok c =
    let text = c.in-Ok.ensures.cases in
    let lent = ap (map (λ (part : Bor (List ℕ)). part.now)) c.as_slice.ensures.value in
    subst (λ (texts : List (List ℕ)). IfOk c.owned.result (λ words. map string_bytes words.items ≡ texts))
    (lent ∙ c.in_ok-parts_of-in-Ok.ensures ∙ parted _ _ text.0 text.1)
    c.owned.ensures

pub returns-in-Err : goal.returns-in-Err
returns-in-Err c = rw c.new.ensures.items (wordless c.args.line.now c.in-Err.ensures.cases.0)

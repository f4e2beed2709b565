use Rattle.std.proofs.Common.{◌≡◌, ℕ, ◌+◌, ◌-◌, ◌<◌, List, ◌++◌, length, take, drop, ap, sym, subst, ◌∙◌, arith}
use Rattle.std.proofs.lemmas.List.{length-take-le}
use Rattle.hmac.specs.Hashing.{Holds}
use Rattle.tee_storage.proofs.NewData.{one_behind, put_at, put_behind, put_in, three_behind}
use Rattle.tee_storage.proofs.data_reading.put_piece.Goals as goal

pub returns-then-position-start : goal.returns-then-position-start
returns-then-position-start g c = λ key front content long held.
    let t = c.args.transfer.now in
    let position = t.object.position in
    let piece : List ℕ = c.args.piece.now in
    let written : List ℕ = take t.len (g.M.Span.bytes c.args.span.now) in
    let so_far = put_at position written content in
    let whole : length written ≡ t.len = length-take-le t.len (g.M.Span.bytes c.args.span.now) c.requires.room in
    let behind : c.saturating_sub.result ≡ position + length written - length content = omega arith in
    let past : position < length content = omega arith in
    let next : put_at position written (content ++ piece) ≡ so_far ++ drop c.saturating_sub.result piece =
    put_behind position written content piece past ∙ ap (λ (k : ℕ). so_far ++ drop k piece) (sym behind) in
    subst (λ (m : List ℕ). Holds c.update_from.new.hasher key m)
    (one_behind front so_far (drop c.saturating_sub.result piece) (put_at position written (content ++ piece)) next)
    (c.update_from.ensures key (front ++ so_far) held)

pub returns : goal.returns
returns g c = λ key front content long held.
    let t = c.args.transfer.now in
    let position = t.object.position in
    let start = c.args.start in
    let piece : List ℕ = c.args.piece.now in
    let written : List ℕ = take t.len (g.M.Span.bytes c.args.span.now) in
    let so_far = put_at position written content in
    let whole : length written ≡ t.len = length-take-le t.len (g.M.Span.bytes c.args.span.now) c.requires.room in
    let behind : position + t.len - start ≡ (position - start) + length written = omega arith in
    let at : position ≡ length content + (position - start) = omega arith in
    let within : position - start < length piece = omega arith in
    let next : put_at position written (content ++ piece) ≡ so_far ++ take (position - start) piece ++ written ++ drop (position + t.len - start) piece =
    put_in position (position - start) written content piece at within
    ∙ ap (λ (k : ℕ). so_far ++ take (position - start) piece ++ written ++ drop k piece) (sym behind) in
    subst (λ (m : List ℕ). Holds c.update_from-2.new.hasher key m)
    (three_behind front so_far (take (position - start) piece) written (drop (position + t.len - start) piece) (put_at position written (content ++ piece)) next)
    (c.update_from-2.ensures key (front ++ so_far ++ take (position - start) piece ++ written)
    (c.hash_range.ensures key (front ++ so_far ++ take (position - start) piece)
    (c.update-2.ensures key (front ++ so_far) held)))

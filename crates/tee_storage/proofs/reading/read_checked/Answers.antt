use Rattle.std.proofs.Common.{ℕ, List, [], refl, sym, subst}
use Rattle.std.proofs.lemmas.List.{append-nil}
use Rattle.hmac.specs.Hashing.{Holds}
use Rattle.tee_storage.specs.Tags.{tag_front}
use Rattle.tee_storage.proofs.reading.read_checked.Goals as goal

pub returns-clause-left : goal.returns-clause-left
returns-clause-left g c = λ objects.
    let object = c.args.transfer.object in
    let front = tag_front object.name object.length in
    c.next.ensures.left (record { key = c.args.key.now; content = [] }) objects (record {
      count = refl;
      tags = subst (λ (m : List ℕ). Holds c.tag_hasher-kept.result c.args.key.now m) (sym (append-nil front)) c.tag_hasher-kept.ensures;
      format = c.requires.tagged;
    })

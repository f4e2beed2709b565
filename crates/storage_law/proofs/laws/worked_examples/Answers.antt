use Rattle.std.proofs.Common.{[], ◌∷◌, refl}
use Rattle.hex.specs.Hex.{encode_with}
use Rattle.hmac.specs.Hmac.{hmac}
use Rattle.sha2.specs.Sha256.{compress, digest_bytes, first_words, hash_after, rounds, schedule, sha256}
use Rattle.tee_storage.specs.KnownTags.{tag_of_six}
use Rattle.tee_storage.specs.TagExamples.{six}
use Rattle.storage_law.specs.Examples.{bringing}
use Rattle.storage_law.proofs.laws.worked_examples.Goals as goal

pub returns : goal.returns
unfolding encode_with hmac first_words schedule rounds compress hash_after digest_bytes sha256
returns c = record {
  of_tagged = record { found = refl; tagged = refl };
  joined = refl;
  read = refl;
  read_of_none = refl;
  brings = record { pieces = bringing six ∷ []; last = bringing tag_of_six; are = refl; content_is = refl; all = refl; tag = refl };
  write_waits = refl;
  write = refl;
  tag_asked = refl;
  place = refl;
  new_tag = refl;
  write_ends = refl;
}

-- The definitions on small inputs.
use Rattle.std.specs.Prelude.{◌≡◌, ℕ, [], ◌∷◌, Some, None, replicate}
use Rattle.base.specs.NumberMap.{NumberMap, get, insert, remove}
use Rattle.tee_storage.specs.declared.handle.FileFormat.TheVariants.{Untagged}
use Rattle.tee_storage.specs.declared.handle.Handle.{Handle}
use Rattle.tee_storage.specs.Handles.{lowest_free, numbered_from}
use Rattle.tee_storage.specs.KnownTags.{KnownTags}
use Rattle.tee_storage.specs.OpenObjectExamples.{OpenObjectExamples}
use Rattle.tee_storage.specs.OpeningExamples.{OpeningExamples}
use Rattle.tee_storage.specs.TagBorders.{TagBorders}
use Rattle.tee_storage.specs.TagExamples.{TagExamples}

-- an object of ten bytes, read up to the third; its file is named `1/A`
abbrev pub object : ℕ → Handle
object fd = record { name = 0x31 ∷ 0x2f ∷ 0x41 ∷ []; fd = fd; length = 10; position = 3; format = Untagged }

abbrev pub two : NumberMap Handle
two = (0, object 70) ∷ (2, object 72) ∷ []

pub record HandleExamples : Type 0 where
  pub none_open : lowest_free [] ≡ Some 0
  pub between : lowest_free two ≡ Some 1
  pub after : lowest_free (insert two 1 (object 71)) ≡ Some 3
  pub seven : lowest_free (numbered_from 0 (replicate 7 (Some (object 70)))) ≡ Some 7
  pub full : lowest_free (numbered_from 0 (replicate 8 (Some (object 70)))) ≡ None
  pub kept : get two 2 ≡ Some (object 72)
  pub absent : get two 1 ≡ None
  pub taken : remove two 0 ≡ (2, object 72) ∷ []
  pub listed : numbered_from 0 (Some (object 70) ∷ None ∷ Some (object 72) ∷ None ∷ []) ≡ two

pub record Examples : Type 0 where
  pub handles : HandleExamples
  pub opening : OpeningExamples
  pub open_objects : OpenObjectExamples
  pub tags : TagExamples
  pub borders : TagBorders
  pub known : KnownTags

-- What was brought to a read and to a write of an object of six bytes, whose calls are worked out in `tee_storage`.
use Rattle.std.specs.Prelude.{◌≡◌, ℕ, List, [], ◌∷◌, length, Some}
use Rattle.rpc_msgs.specs.Answer.{RpcAnswer}
use Rattle.rpc_msgs.specs.declared.rpc.Rpc.TheVariants.{FsRead, FsWrite}
use Rattle.rpc_msgs.specs.declared.rpc.RpcReply.{RpcReply}
use Rattle.tee_storage.specs.declared.step.StorageStep.TheVariants.{Ask, Done}
use Rattle.tee_storage.specs.KnownTags.{tag_of_replaced, tag_of_six}
use Rattle.tee_storage.specs.OpenObjectExamples.{range}
use Rattle.tee_storage.specs.OpeningExamples.{application, brought, key, tagged}
use Rattle.tee_storage.specs.TagExamples.{done, kept, six}
use Rattle.storage_law.specs.Laws.{Access, BringWithTag, IsOfTagged, data_in, read_step, tag_after, tag_place, write_step}

-- so many bytes of the six from the third on
abbrev pub of_six : ℕ → Access
of_six len =
    record { uuid = application; key = key; objects = kept; handle = 2; addr = 0; len = len; range = range }

-- replies that bring these bytes
abbrev pub bringing : List ℕ → RpcReply
bringing bytes = record { ret = 0; v = 0; w = 0; size = length bytes; bytes = bytes }

-- the six, and their tag
abbrev pub six_and_tag : List RpcAnswer
six_and_tag = brought six ∷ brought tag_of_six ∷ []

pub record Examples : Type 0 where
  pub of_tagged : IsOfTagged (of_six 3) (tagged 7 6 2)
  pub joined : data_in (bringing (1 ∷ 2 ∷ []) ∷ bringing (3 ∷ []) ∷ []) ≡ 1 ∷ 2 ∷ 3 ∷ []
  -- a read of three of them ends behind both replies, and behind none
  pub read : read_step (of_six 3) six_and_tag ≡ Some (Done 0 3)
  pub read_of_none : read_step (of_six 0) [] ≡ Some (Done 0 0)
  pub brings : BringWithTag key (tagged 7 6 2) six six_and_tag
  -- a write of four, whose tag stands behind the six new bytes
  pub write_waits : write_step (of_six 4) (brought six ∷ []) ≡ Some (Ask (FsRead 7 14 32) [])
  pub write : write_step (of_six 4) six_and_tag ≡ Some (Ask (FsWrite 7 10 4) range)
  pub tag_asked : write_step (of_six 4) (brought six ∷ brought tag_of_six ∷ done ∷ []) ≡ Some (Ask (FsWrite 7 14 32) tag_of_replaced)
  pub place : tag_place (of_six 4) (tagged 7 6 2) ≡ 14
  pub new_tag : tag_after (of_six 4) (tagged 7 6 2) six ≡ tag_of_replaced
  pub write_ends : write_step (of_six 4) (brought six ∷ brought tag_of_six ∷ done ∷ done ∷ []) ≡ Some (Done 0 0)

-- Tags that were worked out by another program, and calls on files that have them.
use Rattle.std.specs.Prelude.{◌≡◌, ℕ, List, [], ◌∷◌, ◌++◌, codes}
use Rattle.hmac.specs.Hmac.{hmac}
use Rattle.rpc_msgs.specs.declared.rpc.Rpc.TheVariants.{FsWrite}
use Rattle.ta_params.specs.declared.object_call.ObjectCall.TheVariants.{Read, Write}
use Rattle.tee_storage.specs.declared.step.StorageStep.TheVariants.{Ask, Done}
use Rattle.tee_storage.specs.OpeningExamples.{at, brought, creates, file, id, key, replied, tagged}
use Rattle.tee_storage.specs.OpenObjectExamples.{range}
use Rattle.tee_storage.specs.TagExamples.{after_it, calls, done, header_of, kept, six, untagged}
use Rattle.tee_storage.specs.Tags.{first_tag, kept_tag}

-- of an object without data
abbrev pub tag_of_none : List ℕ
tag_of_none =
    0x6a ∷ 0x3b ∷ 0x1a ∷ 0x43 ∷ 0x9b ∷ 0x51 ∷ 0xfc ∷ 0x03 ∷ 0xfa ∷ 0x3e ∷ 0x7c ∷ 0x88 ∷ 0xda ∷ 0x5b ∷ 0xe0 ∷ 0x85 ∷
    0x01 ∷ 0x57 ∷ 0x5a ∷ 0x39 ∷ 0x7b ∷ 0x40 ∷ 0x76 ∷ 0x50 ∷ 0x6b ∷ 0x37 ∷ 0xfc ∷ 0x80 ∷ 0xdc ∷ 0xa6 ∷ 0x86 ∷ 0xd6 ∷ []

-- of the six bytes
abbrev pub tag_of_six : List ℕ
tag_of_six =
    0x86 ∷ 0xd5 ∷ 0x5c ∷ 0x86 ∷ 0x71 ∷ 0x68 ∷ 0x41 ∷ 0x70 ∷ 0xa8 ∷ 0x19 ∷ 0xd8 ∷ 0x52 ∷ 0xea ∷ 0xc4 ∷ 0xc7 ∷ 0x3b ∷
    0xda ∷ 0x3b ∷ 0xf1 ∷ 0x52 ∷ 0x54 ∷ 0x25 ∷ 0xe9 ∷ 0x5e ∷ 0x12 ∷ 0x33 ∷ 0x33 ∷ 0xf4 ∷ 0x04 ∷ 0x70 ∷ 0x11 ∷ 0x16 ∷ []

-- of them with the range over their last four, and from their fifth on
abbrev pub tag_of_replaced : List ℕ
tag_of_replaced =
    0x4f ∷ 0x4e ∷ 0x31 ∷ 0xcb ∷ 0x52 ∷ 0x37 ∷ 0xf7 ∷ 0xa0 ∷ 0x1a ∷ 0xf6 ∷ 0xc8 ∷ 0x34 ∷ 0xe3 ∷ 0xc0 ∷ 0xec ∷ 0xc6 ∷
    0x73 ∷ 0x31 ∷ 0xc2 ∷ 0xd5 ∷ 0x96 ∷ 0xdb ∷ 0x9b ∷ 0x64 ∷ 0x26 ∷ 0x1e ∷ 0xdd ∷ 0x39 ∷ 0x87 ∷ 0x0e ∷ 0x77 ∷ 0xd7 ∷ []

abbrev pub tag_of_lengthened : List ℕ
tag_of_lengthened =
    0x80 ∷ 0x5c ∷ 0x37 ∷ 0x61 ∷ 0xf7 ∷ 0x11 ∷ 0xb4 ∷ 0x10 ∷ 0x00 ∷ 0xff ∷ 0xa4 ∷ 0xb1 ∷ 0x74 ∷ 0xb4 ∷ 0xb3 ∷ 0xd3 ∷
    0x5c ∷ 0xe5 ∷ 0x87 ∷ 0x28 ∷ 0x5f ∷ 0x35 ∷ 0xde ∷ 0xe3 ∷ 0xcf ∷ 0xf5 ∷ 0x6e ∷ 0x20 ∷ 0x03 ∷ 0x8f ∷ 0x1c ∷ 0xf9 ∷ []

-- of the message of RFC 4231's second case, under its key
abbrev pub tag_of_that : List ℕ
tag_of_that =
    0x5b ∷ 0xdc ∷ 0xc1 ∷ 0x46 ∷ 0xbf ∷ 0x60 ∷ 0x75 ∷ 0x4e ∷ 0x6a ∷ 0x04 ∷ 0x24 ∷ 0x26 ∷ 0x08 ∷ 0x95 ∷ 0x75 ∷ 0xc7 ∷
    0x5a ∷ 0x00 ∷ 0x3f ∷ 0x08 ∷ 0x9d ∷ 0x27 ∷ 0x39 ∷ 0x83 ∷ 0x9d ∷ 0xec ∷ 0x58 ∷ 0xb9 ∷ 0x64 ∷ 0xec ∷ 0x38 ∷ 0x43 ∷ []

pub record KnownTags : Type 0 where
  pub second_case : hmac (codes "Jefe") (codes "what do ya want for nothing?") ≡ tag_of_that
  pub none : first_tag key file ≡ tag_of_none
  pub of_six : kept_tag key (tagged 7 6 2) six ≡ tag_of_six
  -- what a create writes
  pub created : creates (replied 0 7 ∷ []) ≡ at (Ask (FsWrite 7 0 40) (header_of 0 ++ tag_of_none)) id []
  -- a read of the data that have the tag, and of others
  pub read : calls (Read 2 0 3) kept (brought six ∷ brought tag_of_six ∷ [])
      ≡ at (Done 0 3) (3 ∷ 4 ∷ 5 ∷ 63 ∷ []) (after_it 6 5)
  pub changed : calls (Read 2 0 3) kept (brought (1 ∷ 2 ∷ 3 ∷ 4 ∷ 5 ∷ 7 ∷ []) ∷ brought tag_of_six ∷ [])
      ≡ at (Done 0xf0100001 0) (3 ∷ 4 ∷ 5 ∷ 63 ∷ []) kept
  -- of a file that is shorter, and whose header was changed to agree
  pub shortened : calls (Read 2 0 3) (after_it 5 2) (brought (1 ∷ 2 ∷ 3 ∷ 4 ∷ 5 ∷ []) ∷ brought tag_of_six ∷ [])
      ≡ at (Done 0xf0100001 0) (3 ∷ 4 ∷ 5 ∷ 63 ∷ []) (after_it 5 2)
  -- an older file has a tag as well: with its header it is read
  pub given_back : calls (Read 2 0 3) (after_it 6 0) (brought six ∷ brought tag_of_six ∷ [])
      ≡ at (Done 0 3) (1 ∷ 2 ∷ 3 ∷ 63 ∷ []) (after_it 6 3)
  -- the tag that a write makes, of both formats and where the object becomes longer
  pub replaced : calls (Write 2 0 4) kept (brought six ∷ brought tag_of_six ∷ done ∷ [])
      ≡ at (Ask (FsWrite 7 14 32) tag_of_replaced) range kept
  pub replaced_untagged : calls (Write 2 0 4) untagged (brought six ∷ done ∷ [])
      ≡ at (Ask (FsWrite 7 14 32) tag_of_replaced) range untagged
  pub lengthened : calls (Write 2 0 4) (after_it 6 4) (brought six ∷ brought tag_of_six ∷ done ∷ [])
      ≡ at (Ask (FsWrite 7 16 32) tag_of_lengthened) range (after_it 6 4)

-- Examples of the definitions, worked out by hand.
use Rattle.std.specs.Prelude.{◌≡◌, [], ◌∷◌}
use Rattle.ta_params.specs.declared.copied_params.Way.TheVariants.{In, Out, Inout}
use Rattle.ta_params.specs.declared.copied_params.GpParam.{GpParam}
use Rattle.ta_params.specs.declared.copied_params.GpParam.TheVariants.{Empty, Value, Memref}
use Rattle.ta_params.specs.declared.copied_params.CopiedParams.{CopiedParams}
use Rattle.ta_params.specs.declared.codes.TheConstants.{TEE_SUCCESS, TEE_ERROR_CORRUPT_OBJECT, TEE_ERROR_STORAGE_NOT_AVAILABLE, TEE_ERROR_GENERIC, TEE_ERROR_ACCESS_DENIED, TEE_ERROR_CANCEL, TEE_ERROR_ACCESS_CONFLICT, TEE_ERROR_BAD_PARAMETERS, TEE_ERROR_BAD_STATE, TEE_ERROR_ITEM_NOT_FOUND, TEE_ERROR_NOT_SUPPORTED, TEE_ERROR_OUT_OF_MEMORY, TEE_ERROR_BUSY, TEE_ERROR_SHORT_BUFFER, TEE_ERROR_TARGET_DEAD, TEE_ORIGIN_API, TEE_ORIGIN_COMMS, TEE_ORIGIN_TEE, TEE_ORIGIN_TRUSTED_APP}
use Rattle.ta_params.specs.CopiedParams.{type_word}

abbrev pub four : GpParam → GpParam → GpParam → GpParam → CopiedParams
four p0 p1 p2 p3 = record { p0 = p0; p1 = p1; p2 = p2; p3 = p3 }

-- TEE_PARAM_TYPES of four types
pub record Examples : Type 0 where
  pub none : type_word (four Empty Empty Empty Empty) ≡ 0
  pub one_value : type_word (four (Value Inout 3 4) Empty Empty Empty) ≡ 0x0003
  pub values : type_word (four (Value In 1 2) (Value Out 0 0) (Value Inout 1 2) Empty) ≡ 0x0321
  pub memrefs : type_word (four (Memref In (1 ∷ []) 1) (Memref Out [] 0) (Memref Inout [] 9) Empty) ≡ 0x0765
  pub last : type_word (four Empty Empty Empty (Memref Inout [] 0)) ≡ 0x7000

-- the codes, by the TEE Internal Core API, and the origins, by the TEE Client API
pub record Codes : Type 0 where
  pub success : TEE_SUCCESS ≡ 0
  pub corrupt_object : TEE_ERROR_CORRUPT_OBJECT ≡ 0xf0100001
  pub storage_not_available : TEE_ERROR_STORAGE_NOT_AVAILABLE ≡ 0xf0100003
  pub generic : TEE_ERROR_GENERIC ≡ 0xffff0000
  pub access_denied : TEE_ERROR_ACCESS_DENIED ≡ 0xffff0001
  pub cancel : TEE_ERROR_CANCEL ≡ 0xffff0002
  pub access_conflict : TEE_ERROR_ACCESS_CONFLICT ≡ 0xffff0003
  pub bad_parameters : TEE_ERROR_BAD_PARAMETERS ≡ 0xffff0006
  pub bad_state : TEE_ERROR_BAD_STATE ≡ 0xffff0007
  pub item_not_found : TEE_ERROR_ITEM_NOT_FOUND ≡ 0xffff0008
  pub not_supported : TEE_ERROR_NOT_SUPPORTED ≡ 0xffff000a
  pub out_of_memory : TEE_ERROR_OUT_OF_MEMORY ≡ 0xffff000c
  pub busy : TEE_ERROR_BUSY ≡ 0xffff000d
  pub short_buffer : TEE_ERROR_SHORT_BUFFER ≡ 0xffff0010
  pub target_dead : TEE_ERROR_TARGET_DEAD ≡ 0xffff3024
  pub origin_api : TEE_ORIGIN_API ≡ 1
  pub origin_comms : TEE_ORIGIN_COMMS ≡ 2
  pub origin_tee : TEE_ORIGIN_TEE ≡ 3
  pub origin_trusted_app : TEE_ORIGIN_TRUSTED_APP ≡ 4

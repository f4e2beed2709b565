-- Examples of the definitions, worked out by hand.
use Rattle.std.specs.Prelude.{◌≡◌, ℕ, [], ◌∷◌, false, true, map, None, Some}
use Rattle.ta_params.specs.declared.copied_params.Way.TheVariants.{In, Out, Inout}
use Rattle.ta_params.specs.declared.copied_params.GpParam.{GpParam}
use Rattle.ta_params.specs.declared.copied_params.GpParam.TheVariants.{Empty, Value, Memref}
use Rattle.ta_params.specs.declared.copied_params.CopiedParams.{CopiedParams}
use Rattle.native_tas.specs.declared.relation.Relation.TheVariants.{Digest, Fixed}
use Rattle.native_tas.specs.declared.driver_relation.DriverRelation.TheVariants.{Echo, Fixed as FixedDriver}
use Rattle.native_tas.specs.Driver.{find_driver}
use Rattle.native_tas.specs.DriverRelation.{driver_answer, is_driver_value}
use Rattle.native_tas.specs.Relation.{answer_of}

abbrev pub two : GpParam → GpParam → CopiedParams
two p0 p1 = record { p0 = p0; p1 = p1; p2 = Empty; p3 = Empty }

-- a message of one byte, and a buffer for its digest that is too short
abbrev pub short : ℕ → CopiedParams
short size = two (Memref In (7 ∷ []) 1) (Memref Out (1 ∷ 2 ∷ []) size)

pub record Examples : Type 0 where
  pub fixed : answer_of (Fixed 5) 9 (short 2) ≡ (5, short 2)
  pub short_buffer : answer_of Digest 0 (short 2) ≡ (0xffff0010, short 32)
  pub another_command : answer_of Digest 1 (short 2) ≡ (0xffff0006, short 2)
  pub no_parameters : answer_of Digest 0 (two Empty Empty) ≡ (0xffff0006, two Empty Empty)
  pub output_as_inout :
      answer_of Digest 0 (two (Memref In [] 0) (Memref Inout [] 0)) ≡ (0xffff0006, two (Memref In [] 0) (Memref Inout [] 0))
  pub three_parameters :
      answer_of Digest 0 (record (short 2) { p2 = Value In 1 2 }) ≡ (0xffff0006, record (short 2) { p2 = Value In 1 2 })
  pub echo : driver_answer Echo 3 ≡ 3
  pub fixed_driver : driver_answer (FixedDriver 5) 3 ≡ 5
  pub driver_values : map is_driver_value (0 ∷ 1 ∷ 63 ∷ 64 ∷ []) ≡ false ∷ true ∷ true ∷ false ∷ []
  pub second_driver : find_driver ((1, Echo) ∷ (5, FixedDriver 2) ∷ []) 5 ≡ Some (5, FixedDriver 2)
  pub no_driver : find_driver ((1, Echo) ∷ []) 5 ≡ None

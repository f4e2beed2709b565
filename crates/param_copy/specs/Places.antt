-- Where the parameters of a call came from: what holds of their places.
use Rattle.std.specs.Prelude.{◌≡◌, ℕ, suc, ◌≤◌, List, [], ◌∷◌, length}
use Rattle.std.specs.List.{AllByRecursion}
use Rattle.msg_args.specs.Layout.{param_place}
use Rattle.ns_ram.specs.Lane.{IsInRam}
use Rattle.shm_registry.specs.Pieces.{IsPieceOfRam}
use Rattle.ta_params.specs.declared.copied_params.GpParam.{GpParam}
use Rattle.ta_params.specs.declared.copied_params.GpParam.TheVariants.{Empty, Value, Memref}
use Rattle.param_copy.specs.declared.copied.Place.{Place}
use Rattle.param_copy.specs.Memory.{bytes_in}

-- the pieces have as many bytes as the parameter's memory
abbrev pub HasRoom : Place → GpParam → Type 0
HasRoom place Empty = Unit {0}
HasRoom place (Value way a b) = Unit {0}
HasRoom place (Memref way bytes size) = bytes_in place.pieces ≡ length bytes

-- and they lie in RAM
pub record IsInPlace (place : Place) (param : GpParam) : Type 0 where
  pub pieces : AllByRecursion IsPieceOfRam place.pieces
  pub room : HasRoom place param

-- each parameter is in its place
abbrev pub AreInPlace : List Place → List GpParam → Type 0
AreInPlace [] params = Unit {0}
AreInPlace (place ∷ places) [] = Unit {0}
AreInPlace (place ∷ places) (param ∷ params) = IsInPlace place param × AreInPlace places params

-- what is written there lies in RAM: the parameter's own 32 bytes of the argument at an address, and its pieces
pub record IsWritable (arg : ℕ) (place : Place) : Type 0 where
  pub argument : IsInRam (param_place arg place.number) 32
  pub pieces : AllByRecursion IsPieceOfRam place.pieces

-- a parameter's memory is within the limit
abbrev pub IsWithinLimit : GpParam → Type 0
IsWithinLimit Empty = Unit {0}
IsWithinLimit (Value way a b) = Unit {0}
IsWithinLimit (Memref way bytes size) = length bytes ≤ 65536

-- the parameter of this number in the argument, in its place
pub record IsPlaced (number : ℕ) (place : Place) (param : GpParam) : Type 0 where
  pub number_is : place.number ≡ number
  pub in_place : IsInPlace place param
  pub within_limit : IsWithinLimit param

-- the places have these numbers, one after the other
abbrev pub AreNumbered : ℕ → List Place → Type 0
AreNumbered number [] = Unit {0}
AreNumbered number (place ∷ places) = (place.number ≡ number) × AreNumbered (suc number) places

-- the parameters of a call, of which the first has this number, and their places, so many
pub record ArePlaced (first count : ℕ) (places : List Place) (params : List GpParam) : Type 0 where
  pub count_is : length places ≡ count
  pub numbers : AreNumbered first places
  pub in_place : AreInPlace places params
  pub within_limit : AllByRecursion IsWithinLimit params

-- What a line has of the parameters of a call that has ended, beside the outputs that the reply to the call tells. A client of scripts
-- names its memory by address, and registers none.
use Rattle.std.specs.Prelude.{◌≡◌, ℕ, ◌<◌, ◌%◌, ◌^◌}
use Rattle.std.specs.List.{AllByRecursion}
use Rattle.own_model.specs.Parameters.{output_of}
use Rattle.ta_params.specs.declared.call_result.CallResult.{CallResult}
use Rattle.ta_params.specs.declared.copied_params.CopiedParams.{CopiedParams}
use Rattle.ta_params.specs.declared.copied_params.GpParam.{GpParam}
use Rattle.ta_params.specs.declared.copied_params.GpParam.TheVariants.{Empty, Memref, Value}
use Rattle.teec.specs.Operation.{params_of}
use Rattle.client_play.specs.Printed.{outputs_text, param_text}

-- a number in 32 bits, as RAM tells it
abbrev pub in_word : ℕ → ℕ
in_word number = number % 2 ^ 32

-- an output as RAM tells it: two numbers, or the bytes that were written and a size
abbrev pub output_in_words : GpParam → GpParam
output_in_words Empty = Empty
output_in_words (Value way a b) = Value way (in_word a) (in_word b)
output_in_words (Memref way bytes size) = Memref way bytes (in_word size)

-- the size that an application has set for a buffer is a number of 32 bits, as its registers are
abbrev pub HasWordSize : GpParam → Type 0
HasWordSize Empty = Unit {0}
HasWordSize (Value way a b) = Unit {0}
HasWordSize (Memref way bytes size) = size < 2 ^ 32

-- what the line has of a parameter tells this output: both numbers of a value; of memory the size, and as many of its bytes as the size
-- says, none where the buffer has fewer. It tells nothing of an input
abbrev pub TellsOutput : GpParam → GpParam → Type 0
TellsOutput printed output = HasWordSize output → output_of printed ≡ output_in_words output

-- of each of the four
pub record TellsOutputs (printed outputs : CopiedParams) : Type 0 where
  pub first : TellsOutput printed.p0 outputs.p0
  pub second : TellsOutput printed.p1 outputs.p1
  pub third : TellsOutput printed.p2 outputs.p2
  pub fourth : TellsOutput printed.p3 outputs.p3

-- ---- their text

abbrev pub HaveWordSizes : CopiedParams → Type 0
HaveWordSizes outputs = AllByRecursion HasWordSize (params_of outputs)

-- what tells the outputs of a reply is printed as these are, where their sizes are numbers of 32 bits
abbrev pub OutputsArePrinted : Type 0
OutputsArePrinted = (result : CallResult) (printed outputs : CopiedParams) → TellsOutputs printed outputs → HaveWordSizes outputs →
    outputs_text result printed ≡ outputs_text result outputs

-- and each of the four is by itself: beside memory whose size is 2^32 or more, of which nothing is said, the other three are still
abbrev pub EachOutputIsPrinted : Type 0
EachOutputIsPrinted = (printed output : GpParam) → TellsOutput printed output → HasWordSize output →
    param_text printed ≡ param_text output

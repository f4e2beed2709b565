-- The words of faults, as they are printed.
use Rattle.std.specs.Prelude.{ℕ, List, ◌++◌, codes}
use Rattle.std.specs.Fmt.{decimal}
use Rattle.trace_text.specs.declared.fault.BadKind.{BadKind}
use Rattle.trace_text.specs.declared.fault.TraceFault.{TraceFault}
use Rattle.trace_text.specs.declared.fault.TraceFault.TheVariants.{Bad, Memory}
use Rattle.trace_text.specs.declared.fault.BadKind.TheVariants.{Byte, Cut, Item, Count, Place, Number, Uuid, Hex, Range, Cpu, Repeat, Name, Image, Inside, Unended, Asm}

-- the word of a kind
abbrev pub kind_word : BadKind → List ℕ
kind_word Byte = codes "byte"
kind_word Cut = codes "cut"
kind_word Item = codes "item"
kind_word Count = codes "count"
kind_word Place = codes "place"
kind_word Number = codes "number"
kind_word Uuid = codes "uuid"
kind_word Hex = codes "hex"
kind_word Range = codes "range"
kind_word Cpu = codes "cpu"
kind_word Repeat = codes "repeat"
kind_word Name = codes "name"
kind_word Image = codes "image"
kind_word Inside = codes "inside"
kind_word Unended = codes "unended"
kind_word Asm = codes "asm"

-- a fault, with its place in decimal
abbrev pub fault_text : TraceFault → List ℕ
fault_text (Bad place kind) = codes "bad trace " ++ decimal place ++ codes " " ++ kind_word kind
fault_text Memory = codes "out of memory"

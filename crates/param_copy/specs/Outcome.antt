-- What a call of this crate answers, beside the definition's outcome.
use Rattle.param_copy.specs.declared.copied.Copied.{Copied}
use Rattle.param_copy.specs.declared.fault.CopyFault.{CopyFault}
use Rattle.param_copy.specs.declared.fault.CopyFault.TheVariants.{TooLong, Cookie, Range, Page, Memory}
use Rattle.param_copy.specs.declared.taken.TakenParams.{TakenParams}
use Rattle.param_copy.specs.Copying.{Copies}

-- a fact of each fault but want of memory
abbrev pub UnlessMemory : CopyFault → Type 0 → Type 0
UnlessMemory (TooLong number) P = P
UnlessMemory (Cookie number) P = P
UnlessMemory (Range number) P = P
UnlessMemory (Page number page) P = P
UnlessMemory Memory P = Unit {0}

-- a fact of want of memory
abbrev pub IfMemory : CopyFault → Type 0 → Type 0
IfMemory (TooLong number) P = Unit {0}
IfMemory (Cookie number) P = Unit {0}
IfMemory (Range number) P = Unit {0}
IfMemory (Page number page) P = Unit {0}
IfMemory Memory P = P

-- what the code keeps of a call's parameters
abbrev pub copies_of : Copied → Copies
copies_of copied = record { params = copied.params; places = copied.places.items; cookies = copied.cookies.items }

abbrev pub copies_in : TakenParams → Copies
copies_in taken = record { params = taken.params; places = taken.places.items; cookies = taken.cookies.items }

-- What an input spells in each grammar, what the first fault of any other input is, and what is written for it.
use Rattle.std.specs.Prelude.{◌≡◌, ℕ, List, Option, Some, None}
use Rattle.journal_runner.specs.Known.{CanBoot}
use Rattle.kernel_model.specs.Application.{Native}
use Rattle.play_model.specs.Text as play_text
use Rattle.trace_player.specs.Refused.{refused_in}
use Rattle.ta_asm.specs.Grammar as asm
use Rattle.ta_asm.specs.declared.fault.AsmFault.{AsmFault}
use Rattle.ta_asm.specs.declared.fault.AsmFault.TheVariants.{BadLine, RepeatedLabel, UnknownLabel}
use Rattle.ta_asm.specs.declared.fault.AsmFault.TheVariants as asm_fault
use Rattle.ta_isa.specs.Spelling.{IsValid}
use Rattle.trace_bin.specs.Grammar as records
use Rattle.trace_text.specs.Grammar as text
use Rattle.trace_text.specs.Sound.{IsSound}
use Rattle.trace_text.specs.declared.fault.BadKind.{BadKind}
use Rattle.trace_text.specs.declared.fault.BadKind.TheVariants.{Asm}
use Rattle.trace_text.specs.declared.fault.TraceFault.{TraceFault}
use Rattle.trace_text.specs.declared.fault.TraceFault.TheVariants.{Bad, Memory}
use Rattle.word_parts.specs.Limits.{HasTooMany}
use Rattle.alone_runner.specs.Line.{image_line}
use Rattle.alone_runner.specs.declared.content.Content.{Content}
use Rattle.alone_runner.specs.declared.content.Content.TheVariants as content
use Rattle.alone_runner.specs.declared.command.Grammar.{Grammar}
use Rattle.alone_runner.specs.declared.command.Grammar.TheVariants.{Text, Records, Assembler}

-- ---- reading

-- the input spells this in the grammar, beside built-in applications of these UUIDs
abbrev pub Spells : Grammar → List (List ℕ) → List ℕ → Content → Type 0
Spells Text natives input (content.Trace trace) = text.Spells natives input trace
Spells Text natives input (content.Image image) = ⊥
Spells Records natives input (content.Trace trace) = records.Spells natives input trace
Spells Records natives input (content.Image image) = ⊥
Spells Assembler natives input (content.Trace trace) = ⊥
Spells Assembler natives input (content.Image image) = asm.StandsFor input image

-- what a fault of the assembler is called in an answer: the kind is `asm`, and the place is its line
abbrev pub fault_of : AsmFault → TraceFault
fault_of (BadLine line) = Bad line Asm
fault_of (UnknownLabel line) = Bad line Asm
fault_of (RepeatedLabel line) = Bad line Asm
fault_of asm_fault.Memory = Memory

-- the input leaves the grammar first at this place, in this way
abbrev pub IsFirstFault : Grammar → List (List ℕ) → List ℕ → ℕ → BadKind → Type 0
IsFirstFault Text natives input place kind = text.IsFirstFault natives input place kind
IsFirstFault Records natives input place kind = records.IsFirstFault natives input place kind
IsFirstFault Assembler natives input place kind =
    (fault : AsmFault) × asm.IsFirstFault input fault × (fault_of fault ≡ Bad place kind)

-- what was answered is the input's first fault, or want of memory
abbrev pub IsFaultOf : Grammar → List (List ℕ) → List ℕ → TraceFault → Type 0
IsFaultOf grammar natives input (Bad place kind) = IsFirstFault grammar natives input place kind
IsFaultOf grammar natives input Memory = Unit {0}

-- what is read is within its limits
abbrev pub IsSoundContent : List (List ℕ) → Content → Type 0
IsSoundContent natives (content.Trace trace) = IsSound natives trace
IsSoundContent natives (content.Image image) = IsValid image

-- a trace can be played where a core can be booted with its boot, if it has one; an image has no play
abbrev pub CanBePlayed : List Native → Content → Type 0
CanBePlayed natives (content.Trace trace) = CanBoot natives trace
CanBePlayed natives (content.Image image) = Unit {0}

-- ---- limits

-- a trace has; an image has none of them
abbrev pub IsTooLarge : Content → Type 0
IsTooLarge (content.Trace trace) = HasTooMany trace.items
IsTooLarge (content.Image image) = ⊥

-- ---- what is written

-- the text of a trace, or the line of an image
abbrev pub text_for : List Native → Content → Option (List ℕ)
text_for natives (content.Trace trace) = play_text.text_of natives trace
text_for natives (content.Image image) = Some (image_line image)

-- how many bytes the entry would have read that the play of a trace refuses, where it refuses one; an image has no play
abbrev pub refused_for : List Native → Content → Option ℕ
refused_for natives (content.Trace trace) = refused_in natives trace
refused_for natives (content.Image image) = None

-- A word that reads an input: what it answers and what it has written, whatever the word.
use Rattle.std.specs.Prelude.{◌≡◌, ℕ, ◌^◌, ◌≤◌, ◌⊎◌, List, [], length, Option, Some, None, IsSome, IsSomeAnd}
use Rattle.ports.specs.Port.{Appends}
use Rattle.trace_text.specs.declared.fault.BadKind.{BadKind}
use Rattle.trace_text.specs.declared.fault.TraceFault.{TraceFault}
use Rattle.trace_text.specs.declared.fault.TraceFault.TheVariants as fault
use Rattle.word_parts.specs.Answer.{IsUnread, Writes, status_of_play}
use Rattle.word_parts.specs.Input.{IsTooLong}
use Rattle.word_parts.specs.Line.{bad_trace_line}
use Rattle.word_parts.specs.Output.{AppendsPart}
use Rattle.word_parts.specs.declared.status.Status.{Status}
use Rattle.word_parts.specs.declared.status.Status.TheVariants.{BadTrace, WriteFault, Memory, TooLong}
use Rattle.word_parts.specs.declared.status.Status.TheVariants as status

-- what makes such a word
pub record Word : Type 1 where
  -- what an input can spell in its grammar, and which input spells what
  pub Content : Type 0
  pub Spells : List ℕ → Content → Type 0
  -- the input leaves the grammar first at this place, in this way
  pub IsFirstFault : List ℕ → ℕ → BadKind → Type 0
  -- what is known of what was read
  pub IsKnown : Content → Type 0
  -- it is more than the word takes
  pub IsTooLarge : Content → Type 0
  -- what is written for it
  pub text_for : Content → Option (List ℕ)
  -- how many bytes the entry would have read that its play refuses, where it refuses one
  pub refused_for : Content → Option ℕ

-- the fault by which an input was refused is its first; at want of memory it may have one or none
abbrev pub IsFaultOf : Word → List ℕ → TraceFault → Type 0
IsFaultOf word input (fault.Bad place kind) = word.IsFirstFault input place kind
IsFaultOf word input fault.Memory = Unit {0}

-- ---- what an input spells

-- its text is written, or a part of it where the sink failed or memory ran out; it ends with a refused entry where it
-- is that of a play which has one
abbrev pub WritesFor : (word : Word) → word.Content → Status → Option (List ℕ) → Option (List ℕ) → Type 0
WritesFor word content result old new =
    IsSomeAnd (word.text_for content) (λ text. Writes (status_of_play (word.refused_for content)) text result old new)

-- the same, or nothing for want of memory
abbrev pub IsDone : (word : Word) → word.Content → Status → Option (List ℕ) → Option (List ℕ) → Type 0
IsDone word content result old new =
    ((result ≡ Memory) × Appends old new []) ⊎ WritesFor word content result old new

-- it is too large, and nothing is written; or it is served
abbrev pub IsServedBy : (word : Word) → word.Content → Status → Option (List ℕ) → Option (List ℕ) → Type 0
IsServedBy word content result old new =
    (word.IsTooLarge content × (result ≡ TooLong) × Appends old new [])
    ⊎ ((word.IsTooLarge content → ⊥) × IsDone word content result old new)

-- ---- an input

-- the input leaves its grammar, and the line of its first fault is written
pub record IsRefused (word : Word) (input : List ℕ) (result : Status) (old new : Option (List ℕ)) : Type 0 where
  pub place : ℕ
  pub kind : BadKind
  pub first : word.IsFirstFault input place kind
  pub line : Writes BadTrace (bad_trace_line place kind) result old new

-- the input spells something, which is served
pub record IsServed (word : Word) (input : List ℕ) (result : Status) (old new : Option (List ℕ)) : Type 0 where
  pub content : word.Content
  pub spelled : word.Spells input content
  pub known : word.IsKnown content
  pub served : IsServedBy word content result old new

-- what an input within the limit is answered that isn't served: memory ran out, or it leaves its grammar
abbrev pub IsUnservedAs : Word → List ℕ → Status → Option (List ℕ) → Option (List ℕ) → Type 0
IsUnservedAs word input result old new = ((result ≡ Memory) × Appends old new []) ⊎ IsRefused word input result old new

-- what an input within the limit is answered, and what is written for it
abbrev pub Answered : Word → List ℕ → Status → Option (List ℕ) → Option (List ℕ) → Type 0
Answered word input result old new =
    ((result ≡ Memory) × Appends old new [])
    ⊎ IsRefused word input result old new
    ⊎ IsServed word input result old new

-- what a call comes to, over an input that the source tells, and what the source has left, where one within the limit is
-- answered so
abbrev pub RanAs : List ℕ → Type 0 → Option (List ℕ) → Status → Option (List ℕ) → Option (List ℕ) → Type 0
RanAs input IsAnswered left result old new =
    IsUnread result old new
    ⊎ ((result ≡ TooLong) × IsTooLong input × Appends old new [])
    ⊎ ((length input ≤ 2 ^ 24) × (left ≡ Some []) × IsAnswered)

-- what a call of the word comes to
abbrev pub Ran : Word → List ℕ → Option (List ℕ) → Status → Option (List ℕ) → Option (List ℕ) → Type 0
Ran word input left result old new = RanAs input (Answered word input result old new) left result old new

-- ---- each status

-- the whole input was read, and what it spells is within the limits and has a play that refuses no entry
pub record CanBeServed (word : Word) (input : List ℕ) (content : word.Content) : Type 0 where
  pub short : IsTooLong input → ⊥
  pub spelled : word.Spells input content
  pub few : word.IsTooLarge content → ⊥
  pub goes_on : word.refused_for content ≡ None

-- the whole input was read, and it spells nothing in its grammar
pub record CanBeRefused (word : Word) (input : List ℕ) : Type 0 where
  pub short : IsTooLong input → ⊥
  pub spells_nothing : (content : word.Content) → word.Spells input content → ⊥

-- just its text is written
abbrev pub WritesText : (word : Word) → word.Content → Option (List ℕ) → Option (List ℕ) → Type 0
WritesText word content old new = IsSomeAnd (word.text_for content) (Appends old new)

abbrev pub IsServedWhole : (word : Word) → word.Content → Status → Option (List ℕ) → Option (List ℕ) → Type 0
IsServedWhole word content result old new = (result ≡ status.Ok) × WritesText word content old new

-- the input has too many bytes, or what it spells is too large, and nothing is written; or its play ends with a refused
-- entry, and all lines up to that are
abbrev pub IsTooMuch : Word → List ℕ → Option (List ℕ) → Option (List ℕ) → Type 0
IsTooMuch word input old new =
    (IsTooLong input × Appends old new [])
    ⊎ ((content : word.Content) × word.Spells input content × word.IsTooLarge content × Appends old new [])
    ⊎ ((content : word.Content) × word.Spells input content × (word.IsTooLarge content → ⊥)
    × IsSome (word.refused_for content) × WritesText word content old new)

-- the input leaves the grammar first there, and the line that says so is written
abbrev pub IsBad : Word → List ℕ → Option (List ℕ) → Option (List ℕ) → Type 0
IsBad word input old new = (IsTooLong input → ⊥) × ((place : ℕ) × (kind : BadKind)
    × word.IsFirstFault input place kind × Appends old new (bad_trace_line place kind))

abbrev pub IsRefusedWhole : Word → List ℕ → Status → Option (List ℕ) → Option (List ℕ) → Type 0
IsRefusedWhole word input result old new = (result ≡ BadTrace) × IsBad word input old new

-- a part of what the input is answered with, also none of it
abbrev pub WritesPart : Word → List ℕ → Option (List ℕ) → Option (List ℕ) → Type 0
WritesPart word input old new =
    Appends old new []
    ⊎ ((place : ℕ) × (kind : BadKind) × word.IsFirstFault input place kind
    × AppendsPart old new (bad_trace_line place kind))
    ⊎ ((content : word.Content) × word.Spells input content
    × IsSomeAnd (word.text_for content) (AppendsPart old new))

-- what each status says of an input that the source tells
pub record Statuses (word : Word) (input : List ℕ) (left : Option (List ℕ)) (result : Status)
    (old new : Option (List ℕ)) : Type 0 where
  pub ok : result ≡ status.Ok → (left ≡ Some [])
      × ((content : word.Content) × CanBeServed word input content × WritesText word content old new)
  pub too_long : result ≡ TooLong → IsTooMuch word input old new
  pub bad_trace : result ≡ BadTrace → IsBad word input old new
  pub part : ((result ≡ WriteFault) ⊎ (result ≡ Memory)) → WritesPart word input old new

-- ---- one meaning

-- an input spells one thing, or it has a fault, and not both
pub record HasOneMeaning (word : Word) (input : List ℕ) : Type 0 where
  pub one_content : (one other : word.Content) → word.Spells input one → word.Spells input other → one ≡ other
  pub not_both : (content : word.Content) (place : ℕ) (kind : BadKind) → word.Spells input content
      → word.IsFirstFault input place kind → ⊥

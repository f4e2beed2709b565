-- A reader whose value may be a refusal: steps one after the other, of which the first that refuses ends it.
use Rattle.std.specs.Prelude.{Bool, if◌then◌else◌, Option, Some, None, Result, Ok, Err}
use Rattle.ns_ram.specs.Reader.{Reader, done, ◌>>=◌ as read_then}

abbrev pub Attempt : Type 0 → Type 0 → Type 0
Attempt F A = Reader (Result A F)

-- a value
abbrev pub passes : {F A : Type 0} → A → Attempt F A
passes value = done (Ok value)

abbrev pub refuses : {F A : Type 0} → F → Attempt F A
refuses refusal = done (Err refusal)

-- what follows on a value; a refusal stays
abbrev pub after_pass : {F A B : Type 0} → (A → Attempt F B) → Result A F → Attempt F B
after_pass onward (Ok value) = onward value
after_pass onward (Err refusal) = refuses refusal

infixl 1 ◌>>=◌ ◌>>◌
-- the one, and then the other, which is told the value of the first
abbrev pub ◌>>=◌ : {F A B : Type 0} → Attempt F A → (A → Attempt F B) → Attempt F B
first >>= onward = read_then first (after_pass onward)

-- the one, and then the other
abbrev pub ◌>>◌ : {F A B : Type 0} → Attempt F A → Attempt F B → Attempt F B
first >> second = first >>= (λ _. second)

-- this holds, or else that is the refusal
abbrev pub need : {F : Type 0} → Bool → F → Attempt F (Unit {0})
need holds refusal = if holds then passes tt else refuses refusal

-- there is a value, or else that is the refusal
abbrev pub known : {F A : Type 0} → Option A → F → Attempt F A
known None refusal = refuses refusal
known (Some value) refusal = passes value

-- what is read
abbrev pub read : {F A : Type 0} → Reader A → Attempt F A
read reader = read_then reader passes

-- the value, or in place of any fault that refusal
abbrev pub unless_faulty : {E F A : Type 0} → F → Result A E → Attempt F A
unless_faulty refusal (Ok value) = passes value
unless_faulty refusal (Err fault) = refuses refusal

-- what is read without a fault, or else that is the refusal
abbrev pub faultless : {E F A : Type 0} → Attempt E A → F → Attempt F A
faultless attempt refusal = read_then attempt (unless_faulty refusal)

-- The calls in the slots of a kernel and the calls of a machine, one for each number. What a machine's call is, and when
-- it is like that of a slot, are parameters. This project's own.
use Rattle.std.specs.Prelude.{◌≡◌, ℕ, ◌<◌, List, Option, Some}
use Rattle.base.specs.NumberMap.{NumberMap, get}
use Rattle.kernel_model.specs.Kernel.{PendingCall, ThreadSlot}
use Rattle.kernel_model.specs.SoundNumbers.{IsGiven}
use Rattle.own_model.specs.Own.{Numbering}
use Rattle.own_model.specs.Tied.{call_at}

-- the slot has the number
abbrev pub HasNumber : Numbering → ℕ → ℕ → Type 0
HasNumber numbering slot number = get numbering.in_slots slot ≡ Some number

-- the call of a slot that has a number, and the machine's call of that number. Likeness is told whom the call was kept
-- to wake
pub record IsTiedCall {C : Type 0} (Alike : Option ℕ → PendingCall → C → Type 0) (numbering : Numbering)
    (slots : List ThreadSlot) (calls : NumberMap C) (slot number : ℕ) : Type 0 where
  pub call : PendingCall
  pub own : C
  pub in_slot : call_at slots slot ≡ Some call
  pub of_number : get calls number ≡ Some own
  pub given : number < numbering.entered
  pub alike : Alike (get numbering.wakes slot) call own

-- the numbered calls in the slots are the machine's, one for each number
pub record AreTiedCalls {C : Type 0} (Alike : Option ℕ → PendingCall → C → Type 0) (numbering : Numbering)
    (slots : List ThreadSlot) (calls : NumberMap C) : Type 0 where
  pub own : (slot number : ℕ) → HasNumber numbering slot number → IsTiedCall Alike numbering slots calls slot number
  pub apart : (first second number : ℕ) → HasNumber numbering first number → HasNumber numbering second number → first ≡ second
  pub all : (number : ℕ) (own : C) → get calls number ≡ Some own → (slot : ℕ) × HasNumber numbering slot number

-- the slot has the number of a call of which this holds
pub record HasCall {C : Type 0} (Told : C → Type 0) (numbering : Numbering) (calls : NumberMap C) (slot : ℕ) : Type 0 where
  pub number : ℕ
  pub has : HasNumber numbering slot number
  pub own : C
  pub of_number : get calls number ≡ Some own
  pub told : Told own

-- whom a call wakes was kept only of calls of which this holds: their result was told
abbrev pub AreKept : {C : Type 0} → (C → Type 0) → Numbering → NumberMap C → Type 0
AreKept Told numbering calls = (slot woken : ℕ) → get numbering.wakes slot ≡ Some woken → HasCall Told numbering calls slot

-- ---- numbers of sessions and instances

-- a machine's numbers, by the kernel's: both were given, and no two are the same
pub record AreNames (names : NumberMap ℕ) (next own_next : ℕ) : Type 0 where
  pub given : (number own : ℕ) → get names number ≡ Some own → IsGiven next number × (own < own_next)
  pub apart : (first second own : ℕ) → get names first ≡ Some own → get names second ≡ Some own → first ≡ second

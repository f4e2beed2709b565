-- Bytes that are all in one range: their addresses, and how many stand there.
use Rattle.std.proofs.Common.{◌≡◌, ℕ, zero, suc, ◌+◌, ◌%◌, ◌≤◌, Bool, true, false, length, drop, refl, arith, length-drop}
use Rattle.std.specs.Prelude.{◌==◌, ◌&&◌, ◌||◌, nat_le}
use Rattle.std.proofs.lemmas.Bool.{leb-true}
use Rattle.std.proofs.lemmas.Bool.Decides.{nat_tests}
use Rattle.std.proofs.lemmas.List.{length-take}
use Rattle.ta_step.specs.Addresses.{is_inside, range_at}
use Rattle.ta_step.specs.State.{State}
use Rattle.ta_step.specs.SystemCalls.{is_range}
use Rattle.job_model.specs.Asking.{bytes_at}

-- where the first test fails, the others decide
last_holds : (a b c : Bool) → a ≡ false → (a || (b && c)) ≡ true → c ≡ true
last_holds true b c fails e = absurd cc
last_holds false true c fails e = e
last_holds false false c fails e = absurd cc

middle_holds : (a b c : Bool) → a ≡ false → (a || (b && c)) ≡ true → b ≡ true
middle_holds true b c fails e = absurd cc
middle_holds false true c fails e = refl
middle_holds false false c fails e = absurd cc

some : (count : ℕ) → (suc count == 0) ≡ false
some count = grind (arith, nat_tests)

-- bytes in one range are in it, if there are any
pub inside : (s : State) (addr count : ℕ) → is_range s addr (suc count) ≡ true → is_inside s addr (suc count) ≡ true
inside s addr count e = last_holds (suc count == 0) (nat_le (addr % 0x10000000 + suc count) 0x10000000) (is_inside s addr (suc count)) (some count) e

-- their addresses are in it too
pub is_range-fits : (s : State) (addr count : ℕ) → is_range s addr count ≡ true → addr % 0x10000000 + count ≤ 0x10000000
is_range-fits s addr zero e = omega arith
is_range-fits s addr (suc count) e =
    leb-true (addr % 0x10000000 + suc count) 0x10000000
    (middle_holds (suc count == 0) (nat_le (addr % 0x10000000 + suc count) 0x10000000) (is_inside s addr (suc count)) (some count) e)

pub length-bytes_at : (s : State) (addr count : ℕ) → is_range s addr count ≡ true → length (bytes_at s addr count) ≡ count
length-bytes_at s addr zero e = refl
length-bytes_at s addr (suc count) e =
    let xs = range_at s addr in
    let there = leb-true (addr % 0x10000000 + suc count) (length xs) (inside s addr count e) in
    omega (arith, length-take (suc count) (drop (addr % 0x10000000) xs), length-drop (addr % 0x10000000) xs)

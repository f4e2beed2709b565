-- The search for the lowest free descriptor, one descriptor further.
use Rattle.std.proofs.Common.{◌≡◌, ℕ, zero, suc, ◌+◌, ◌-◌, ◌<◌, ◌≤◌, true, false, refl, sym, ◌∙◌, ap, arith}
use Rattle.std.specs.Prelude.{is_some, length}
use Rattle.supplicant.specs.Files.{Descriptors, free_from, lowest_free, name_of}

-- so far each descriptor is in use
pub record Searched (descriptors : Descriptors) (fd : ℕ) : Type 0 where
  pub within : fd ≤ length descriptors
  pub onward : free_from descriptors (length descriptors - fd) fd ≡ lowest_free descriptors

pub searched_none : (descriptors : Descriptors) → Searched descriptors 0
searched_none descriptors =
    let whole : length descriptors - 0 ≡ length descriptors = omega arith in
    record { within = omega arith; onward = ap (λ n. free_from descriptors n 0) whole }

used-step : (descriptors : Descriptors) (more fd : ℕ) → is_some (name_of descriptors fd) ≡ true →
    free_from descriptors (suc more) fd ≡ free_from descriptors more (suc fd)
used-step descriptors more fd used = rw used refl

pub searched_next : (descriptors : Descriptors) (fd : ℕ) → fd < length descriptors → is_some (name_of descriptors fd) ≡ true →
    Searched descriptors fd → Searched descriptors (fd + 1)
searched_next descriptors fd more used so_far =
    let left : length descriptors - fd ≡ suc (length descriptors - (fd + 1)) = omega arith in
    let next : suc fd ≡ fd + 1 = omega arith in
    record {
      within = omega arith;
      onward = ap (λ n. free_from descriptors (length descriptors - (fd + 1)) n) (sym next)
          ∙ sym (used-step descriptors (length descriptors - (fd + 1)) fd used)
          ∙ ap (λ n. free_from descriptors n fd) (sym left)
          ∙ so_far.onward;
    }

-- as many as there are were passed
pub searched_all : (descriptors : Descriptors) (fd : ℕ) → length descriptors ≤ fd → Searched descriptors fd → fd ≡ lowest_free descriptors
searched_all descriptors fd end so_far =
    let none : length descriptors - fd ≡ 0 = omega arith in
    sym (ap (λ n. free_from descriptors n fd) none) ∙ so_far.onward

free-step : (descriptors : Descriptors) (more fd : ℕ) → is_some (name_of descriptors fd) ≡ false → free_from descriptors more fd ≡ fd
free-step descriptors zero fd free = refl
free-step descriptors (suc more) fd free = rw free refl

-- or one that is free was met
pub searched_free : (descriptors : Descriptors) (fd : ℕ) → is_some (name_of descriptors fd) ≡ false → Searched descriptors fd → fd ≡ lowest_free descriptors
searched_free descriptors fd free so_far = sym (free-step descriptors (length descriptors - fd) fd free) ∙ so_far.onward

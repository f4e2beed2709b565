-- The examples of a processor's part: one that computes, and one that can't be.
use Rattle.std.proofs.Common.{◌≡◌, ℕ, List, [], ◌∷◌, ◌++◌, Option, Some, None, refl, sym, ap, subst, take, map, arith}
use Rattle.std.specs.Prelude.{unwrap_or}
use Rattle.event_journal.specs.declared.event.Event.{Event}
use Rattle.event_journal.specs.declared.event.Event.TheVariants.{Entry, Exit}
use Rattle.kernel_model.specs.Exit.{Exited}
use Rattle.kernel_model.specs.History.{exit_after}
use Rattle.kernel_model.specs.Kernel.{first_kernel}
use Rattle.play_model.specs.Examples.{smc, uid}
use Rattle.trace_text.specs.declared.item.Reg.TheVariants.{Num}
use Rattle.ordered_play.specs.Act.{Act, Comes, Leaves, Shows, acts_for}
use Rattle.ordered_play.specs.Examples.{IsHalfPart, asks_and_shows, half_standing, half_way}
use Rattle.ordered_play.specs.Part.{AreActsOf, ComesIn, IsActOf, IsSpent, Standing, first_standing}

-- ---- a part

nothing : Exited
nothing = record { kernel = first_kernel half_way.boot; regs = []; writes = [] }

abbrev exited : Exited
exited = unwrap_or (exit_after half_way.boot (take 2 half_way.history) 1) nothing

abbrev asks : Act
asks = Comes 1 (map (λ n. Num n) uid)

pub part : IsHalfPart asks_and_shows half_standing
part = record {
  done = asks ∷ Leaves ∷ Shows 0x40000000 1 ∷ asks ∷ [];
  left = Leaves ∷ asks ∷ Leaves ∷ [];
  cut = refl;
  acts = (
    _,
    record { at = 1; reads = []; next = refl; holds = tt; stands = refl },
    (
      _,
      record { at = 2; exited = exited; next = refl; exits = refl; stands = refl },
      (_, refl, (_, record { at = 4; reads = []; next = refl; holds = tt; stands = refl }, refl)),
    ),
  );
  spent = refl;
  stops = tt;
}

-- ---- no part

abbrev granted : Event → ℕ
granted (Entry cpu regs steps reads) = steps
granted (Exit cpu regs) = 0

abbrev steps_of : Option (ℕ × Event) → ℕ
steps_of None = 0
steps_of (Some found) = granted found.1

no_coming : (standing : Standing)
    → ComesIn half_way 2 (map (λ n. Num n) uid) (first_standing (7 ∷ 8 ∷ [])) standing → ⊥
no_coming standing comes = let steps : 1 ≡ 2 = ap steps_of comes.next in absurd (omega (arith, steps))

-- its first entry would have been granted two steps, and was granted one
none_by : (done left : List Act) (standing : Standing) → acts_for 1 (smc 1 2 uid ∷ []) ≡ done ++ left
    → AreActsOf half_way done (first_standing (7 ∷ 8 ∷ [])) standing → IsSpent half_way standing → ⊥
none_by [] left standing cut are spent =
    let none = subst (λ (s : Standing). IsSpent half_way s) are spent in absurd cc
none_by (act ∷ done) left standing cut are spent =
    let head : Comes 2 (map (λ n. Num n) uid) ≡ act = cc in
    no_coming are.0 (subst (λ (a : Act). IsActOf half_way a (first_standing (7 ∷ 8 ∷ [])) are.0) (sym head) are.1)

pub no_part : (standing : Standing) → IsHalfPart (smc 1 2 uid ∷ []) standing → ⊥
no_part standing part = none_by part.done part.left standing part.cut part.acts part.spent

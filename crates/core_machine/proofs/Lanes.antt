-- The lanes of a machine are those of the play.
use Rattle.std.proofs.Common.{◌≡◌, ℕ, ◌<◌, get_or, List, [], length, refl, ap, sym, subst, ◌∙◌, arith, lit≤}
use Rattle.std.proofs.lemmas.List.{take_all}
use Rattle.std.proofs.lemmas.Option.{get_or_from_slice_get, slice_get_read}
use Rattle.core_machine.specs.declared.machine.Machine.{Machine}
use Rattle.kernel_state.specs.Meaning.{booted_of}
use Rattle.ns_ram.specs.Lane.{bytes_at}
use Rattle.ns_ram.proofs.LaneBytes.{bytes_at-is}
use Rattle.play_model.specs.Play.{Play, lane_of}

-- there is one of each processor
pub lane_there : (machine : Machine) (place cpu : ℕ) → place ≡ cpu → cpu < (booted_of machine.at_work.core).cpus →
    place < length machine.lanes.items
lane_there machine place cpu same few =
    subst (λ (n : ℕ). n < length machine.lanes.items) (sym same) (subst (λ (n : ℕ). cpu < n) (sym machine.each_sees) few)

-- what is read of them is the play's
pub lane_read : (play : Play) (machine : Machine) (place cpu : ℕ) (lane : List ℕ) →
    cpu < (booted_of machine.at_work.core).cpus → place ≡ cpu → lane ≡ get_or machine.lanes.items place lane →
    machine.lanes.items ≡ play.lanes → lane ≡ lane_of play cpu
lane_read play machine place cpu lane few same is lanes_are =
    let lanes = machine.lanes.items in
    let there = slice_get_read lanes (length lanes) place lane refl (lane_there machine place cpu same few) is in
    sym (get_or_from_slice_get lanes place lane [] there)
    ∙ ap (λ (n : ℕ). get_or lanes n []) same ∙ ap (λ (all : List (List ℕ)). get_or all cpu []) lanes_are

-- all bytes of a lane
pub all_bytes : (lane : List ℕ) → length lane ≡ 0x400000 → bytes_at lane 0x40000000 0x400000 ≡ lane
all_bytes lane whole =
    bytes_at-is lane 0x40000000 0x400000 (lit≤ tt) ∙ take_all 0x400000 lane (omega (arith, whole))

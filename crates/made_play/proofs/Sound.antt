-- Made traces are within the limits of a trace.
use Rattle.std.proofs.Common.{◌≡◌, ℕ, zero, suc, ◌+◌, ◌%◌, ◌<◌, ◌≤◌, Bool, true, false, cond, eqb, List, [], ◌∷◌, length, refl, ap, subst, sym, ◌∙◌, arith, rules}
use Rattle.std.specs.Prelude.{All, IsTrue, not, slice_index_or}
use Rattle.std.specs.List.{fold}
use Rattle.std.proofs.lemmas.List.Elements.{All-append, All-from_recursion, All-head, All-nil, All-tail}
use Rattle.kernel_model.specs.Application.{IsBooted, booted}
use Rattle.ta_isa.specs.Boots.{IsBoot}
use Rattle.ta_isa.specs.InstructionTable.{is_instruction}
use Rattle.ta_isa.specs.Spelling.{are_allowed}
use Rattle.trace_text.specs.Limits.{inside_after, moved, outside}
use Rattle.trace_text.specs.Sound.{ComeInTurn, IsPartOfRam, IsSound, IsSoundBoot, IsSoundCall, IsSoundItem, IsSoundReg, can_come}
use Rattle.trace_text.specs.declared.item.Item.{Item}
use Rattle.trace_text.specs.declared.item.Item.TheVariants.{Smc, Enter, Leave, Write, Show}
use Rattle.trace_text.specs.declared.item.Reg.{Reg}
use Rattle.trace_text.specs.declared.item.Reg.TheVariants.{Num}
use Rattle.workload.specs.Message.{head, param}
use Rattle.workload.specs.Work.{add_image, add_uuid, argument_call, cpu_of, fast_registers, invoke_argument, items_of, kind_of, made_boot, made_items, made_trace, next, open_argument, resume_registers, small_of, steps_of}
use Rattle.made_play.specs.Laws.{MadeTracesAreSound}

-- ---- the boot

made_is_boot : IsBoot made_boot
unfolding made_boot add_image add_uuid is_instruction are_allowed
made_is_boot = search rules

pub made_boots : IsBooted (booted made_boot [])
unfolding made_boot add_image add_uuid
made_boots = record { boot = made_boot; natives = []; is_boot = made_is_boot; are_natives = search rules; same = refl }

-- ---- the items

-- a whole call of one of four processors, or bytes that one of them writes
abbrev pub IsPlain : Item → Type 0
IsPlain (Smc cpu steps regs) = IsSoundCall 4 cpu steps regs
IsPlain (Enter cpu steps regs) = ⊥
IsPlain (Leave cpu) = ⊥
IsPlain (Write cpu addr bytes) = (cpu < 4) × IsPartOfRam addr (length bytes)
IsPlain (Show cpu addr len) = ⊥

calls : (cpu steps : ℕ) (regs : List Reg) → cpu < 4 → 1 ≤ steps → steps ≤ 1000000 → length regs ≡ 8 → All IsSoundReg regs
    → IsPlain (Smc cpu steps regs)
calls cpu steps regs few some most eight sound = record {
  processor = few;
  some_step = some;
  few_steps = most;
  eight = eight;
  registers = sound;
}

eight_numbers : (a c d : ℕ) → a < 0x100000000 → c < 0x100000000 → d < 0x100000000
    → All IsSoundReg (Num a ∷ Num 0 ∷ Num c ∷ Num d ∷ Num 0 ∷ Num 0 ∷ Num 0 ∷ Num 0 ∷ [])
eight_numbers a c d p q r =
    All-from_recursion IsSoundReg (Num a ∷ Num 0 ∷ Num c ∷ Num d ∷ Num 0 ∷ Num 0 ∷ Num 0 ∷ Num 0 ∷ [])
    (p, (omega arith, (q, (r, (omega arith, (omega arith, (omega arith, (omega arith, tt))))))))

writes : (cpu len : ℕ) (bytes : List ℕ) → cpu < 4 → length bytes ≡ len → 1 ≤ len → len ≤ 96
    → IsPlain (Write cpu 0x40000000 bytes)
writes cpu len bytes few is some most =
    (few, record { some = omega (arith, is, some); in_ram = (omega arith, omega (arith, is, most)) })

open_length : length open_argument ≡ 96
unfolding open_argument head param
open_length = refl

invoke_length : (session : ℕ) → length (invoke_argument session) ≡ 64
unfolding invoke_argument head param
invoke_length session = refl

-- ---- of a number

-- a fact of each of four lists, one of which is chosen
pub chosen : (P : List Item → Type 0) (a b c : Bool) (w x y z : List Item) → P w → P x → P y → P z
    → P (cond a w (cond b x (cond c y z)))
chosen P true b c w x y z pw px py pz = pw
chosen P false true c w x y z pw px py pz = px
chosen P false false true w x y z pw px py pz = py
chosen P false false false w x y z pw px py pz = pz

-- it holds of what a number chooses where it holds of each of the four
pub of_number : (P : List Item → Type 0) (x : ℕ)
    → P (Smc (cpu_of x) (steps_of x) fast_registers ∷ [])
    → P (argument_call (cpu_of x) (steps_of x) open_argument)
    → P (argument_call (cpu_of x) (steps_of x) (invoke_argument (small_of x + 1)))
    → P (Smc (cpu_of x) (steps_of x) (resume_registers (small_of x % 4)) ∷ []) → P (items_of x)
unfolding items_of
of_number P x fast opens invokes resumes =
    chosen P (eqb (kind_of x) 0) (eqb (kind_of x) 1) (eqb (kind_of x) 2) _ _ _ _ fast opens invokes resumes

few_cpus : (x : ℕ) → cpu_of x < 4
few_cpus x = omega arith

some_steps : (x : ℕ) → 1 ≤ steps_of x
some_steps x = omega arith

few_steps : (x : ℕ) → steps_of x ≤ 1000000
few_steps x = omega arith

plain_call : (x a c d : ℕ) → a < 0x100000000 → c < 0x100000000 → d < 0x100000000
    → IsPlain (Smc (cpu_of x) (steps_of x) (Num a ∷ Num 0 ∷ Num c ∷ Num d ∷ Num 0 ∷ Num 0 ∷ Num 0 ∷ Num 0 ∷ []))
plain_call x a c d p q r =
    calls (cpu_of x) (steps_of x) _ (few_cpus x) (some_steps x) (few_steps x) refl (eight_numbers a c d p q r)

called : (x len : ℕ) (argument : List ℕ) → length argument ≡ len → 1 ≤ len → len ≤ 96
    → All IsPlain (argument_call (cpu_of x) (steps_of x) argument)
called x len argument is some most =
    All-from_recursion IsPlain (argument_call (cpu_of x) (steps_of x) argument) (
      writes (cpu_of x) len argument (few_cpus x) is some most,
      (plain_call x 0x32000004 0x40000000 0 (omega arith) (omega arith) (omega arith), tt),
    )

items_plain : (x : ℕ) → All IsPlain (items_of x)
items_plain x =
    let fast : List Item = Smc (cpu_of x) (steps_of x) fast_registers ∷ [] in
    let resume : List Item = Smc (cpu_of x) (steps_of x) (resume_registers (small_of x % 4)) ∷ [] in
    of_number (λ is. All IsPlain is) x
    (All-from_recursion IsPlain fast (plain_call x 0xbf00ff01 0 0 (omega arith) (omega arith) (omega arith), tt))
    (called x 96 open_argument open_length (omega arith) (omega arith))
    (called x 64 (invoke_argument (small_of x + 1)) (invoke_length (small_of x + 1)) (omega arith) (omega arith))
    (All-from_recursion IsPlain resume
    (plain_call x 0x32000003 0 (small_of x % 4) (omega arith) (omega arith) (omega arith), tt))

pub made_plain : (seed count : ℕ) → All IsPlain (made_items seed count)
made_plain seed zero = All-nil IsPlain
made_plain seed (suc count) =
    All-append IsPlain (items_of (next seed)) (made_items (next seed) count) (items_plain (next seed))
    (made_plain (next seed) count)

-- ---- plain items

-- no processor stays inside
all_outside : (cpu : ℕ) → slice_index_or outside cpu false ≡ false
all_outside zero = refl
all_outside (suc zero) = refl
all_outside (suc (suc zero)) = refl
all_outside (suc (suc (suc zero))) = refl
all_outside (suc (suc (suc (suc zero)))) = refl
all_outside (suc (suc (suc (suc (suc zero))))) = refl
all_outside (suc (suc (suc (suc (suc (suc zero)))))) = refl
all_outside (suc (suc (suc (suc (suc (suc (suc zero))))))) = refl
all_outside (suc (suc (suc (suc (suc (suc (suc (suc cpu)))))))) = refl

plain_sound : (i : Item) → IsPlain i → IsSoundItem 4 i
plain_sound (Smc cpu steps regs) plain = plain
plain_sound (Enter cpu steps regs) plain = absurd plain
plain_sound (Leave cpu) plain = absurd plain
plain_sound (Write cpu addr bytes) plain = plain
plain_sound (Show cpu addr len) plain = absurd plain

plain_comes : (i : Item) → IsPlain i → IsTrue (can_come outside i)
plain_comes (Smc cpu steps regs) plain = ap not (all_outside cpu)
plain_comes (Enter cpu steps regs) plain = absurd plain
plain_comes (Leave cpu) plain = absurd plain
plain_comes (Write cpu addr bytes) plain = refl
plain_comes (Show cpu addr len) plain = absurd plain

plain_stays : (i : Item) → IsPlain i → moved outside i ≡ outside
plain_stays (Smc cpu steps regs) plain = refl
plain_stays (Enter cpu steps regs) plain = absurd plain
plain_stays (Leave cpu) plain = absurd plain
plain_stays (Write cpu addr bytes) plain = refl
plain_stays (Show cpu addr len) plain = absurd plain

in_turn : (items : List Item) → All IsPlain items → ComeInTurn outside items
in_turn [] all = tt
in_turn (i ∷ items) all =
    let here = All-head IsPlain i items all in (
      plain_comes i here,
      subst (λ (inside : List Bool). ComeInTurn inside items) (sym (plain_stays i here))
          (in_turn items (All-tail IsPlain i items all)),
    )

stay_outside : (items : List Item) → All IsPlain items → fold moved outside items ≡ outside
stay_outside [] all = refl
stay_outside (i ∷ items) all =
    ap (λ (inside : List Bool). fold moved inside items) (plain_stays i (All-head IsPlain i items all))
    ∙ stay_outside items (All-tail IsPlain i items all)

in_the_end : (items : List Item) → All IsPlain items → inside_after items ≡ outside
unfolding inside_after
in_the_end items all = stay_outside items all

sound_items : (items : List Item) → All IsPlain items → All (IsSoundItem 4) items
sound_items [] all = All-nil (IsSoundItem 4)
sound_items (i ∷ items) all =
    All-append (IsSoundItem 4) (i ∷ []) items
    (All-from_recursion (IsSoundItem 4) (i ∷ []) (plain_sound i (All-head IsPlain i items all), tt))
    (sound_items items (All-tail IsPlain i items all))

four_cpus : made_boot.cpus ≡ 4
unfolding made_boot
four_cpus = refl

sound_boot : IsSoundBoot [] made_boot
unfolding made_boot
sound_boot = record { boots = made_is_boot; no_native = search rules }

pub made_sound : (seed count : ℕ) → IsSound [] (made_trace seed count)
made_sound seed count =
    let plain = made_plain seed count in
    record {
      no_boot = tt;
      boot = sound_boot;
      fills = All-nil _;
      items = subst (λ (cpus : ℕ). All (IsSoundItem cpus) (made_items seed count)) (sym four_cpus)
          (sound_items (made_items seed count) plain);
      in_turn = in_turn (made_items seed count) plain;
      ended = in_the_end (made_items seed count) plain;
    }

pub law : MadeTracesAreSound
law = record { sound = made_sound; boots = made_boots }

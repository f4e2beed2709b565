-- The calls of a made trace read little.
use Rattle.std.proofs.Common.{◌≡◌, ℕ, zero, suc, ◌+◌, ◌%◌, Bool, true, false, cond, eqb, List, [], ◌∷◌, Some, refl, arith}
use Rattle.std.specs.Prelude.{All}
use Rattle.std.proofs.lemmas.List.Elements.{All-append, All-from_recursion, All-nil}
use Rattle.trace_text.specs.declared.item.Item.{Item}
use Rattle.trace_text.specs.declared.item.Item.TheVariants.{Smc}
use Rattle.trace_text.specs.declared.item.Reg.TheVariants.{Num}
use Rattle.workload.specs.Message.{head, param}
use Rattle.workload.specs.Work.{argument_call, cpu_of, fast_registers, invoke_argument, items_of, kind_of, made_items, next, open_argument, resume_registers, small_of, steps_of}
use Rattle.workload.specs.Bounded.{EveryTraceReadsLittle, IsShortArgument, ReadsLittle}

-- a fact of each of four lists, one of which is chosen
chosen : (P : List Item → Type 0) (a b c : Bool) (w x y z : List Item) → P w → P x → P y → P z → P (cond a w (cond b x (cond c y z)))
chosen P true b c w x y z pw px py pz = pw
chosen P false true c w x y z pw px py pz = px
chosen P false false true w x y z pw px py pz = py
chosen P false false false w x y z pw px py pz = pz

other_call : (a b : ℕ) → Some (Num a) ≡ Some (Num b) → a ≡ b
other_call a b e = cc

opens : IsShortArgument open_argument
unfolding open_argument head param
opens = record { few = omega arith; whole = refl }

invokes : (session : ℕ) → IsShortArgument (invoke_argument session)
unfolding invoke_argument head param
invokes session = record { few = omega arith; whole = refl }

-- an argument that is written, and its call
called : (cpu steps : ℕ) (argument : List ℕ) → IsShortArgument argument → All ReadsLittle (argument_call cpu steps argument)
called cpu steps argument short =
    let few = short.few in
    let whole = short.whole in
    All-from_recursion ReadsLittle (argument_call cpu steps argument) ((refl, short, omega arith), ((λ e. refl), tt))

items_little : (x : ℕ) → All ReadsLittle (items_of x)
unfolding items_of
items_little x =
    let cpu = cpu_of x in
    let steps = steps_of x in
    let fast : List Item = Smc cpu steps fast_registers ∷ [] in
    let resume : List Item = Smc cpu steps (resume_registers (small_of x % 4)) ∷ [] in
    let invoke : List ℕ = invoke_argument (small_of x + 1) in
    chosen (λ is. All ReadsLittle is) (eqb (kind_of x) 0) (eqb (kind_of x) 1) (eqb (kind_of x) 2) fast (argument_call cpu steps open_argument) (argument_call cpu steps invoke) resume
    (All-from_recursion ReadsLittle fast ((λ e. let same = other_call 0xbf00_ff01 0x3200_0004 e in absurd (omega (arith, same))), tt))
    (called cpu steps open_argument opens)
    (called cpu steps invoke (invokes (small_of x + 1)))
    (All-from_recursion ReadsLittle resume ((λ e. let same = other_call 0x3200_0003 0x3200_0004 e in absurd (omega (arith, same))), tt))

pub reads_little : EveryTraceReadsLittle
reads_little seed zero = All-nil ReadsLittle
reads_little seed (suc count) = All-append ReadsLittle (items_of (next seed)) (made_items (next seed) count) (items_little (next seed)) (reads_little (next seed) count)

-- What entries, exits, writes and shows make of a player that stands somewhere.
use Rattle.std.proofs.Common.{◌≡◌, ℕ, ◌<◌, Bool, false, true, List, [], ◌∷◌, ◌++◌, map, Option, Some, None, refl, sym, ap, subst, ◌∙◌}
use Rattle.std.specs.Prelude.{IsSome, IsSomeAnd, Ok, Err, slice_get}
use Rattle.std.proofs.lemmas.List.{append-nil}
use Rattle.kernel_model.specs.Application.{Booted}
use Rattle.kernel_model.specs.Kernel.{Kernel, Visit}
use Rattle.kernel_model.proofs.Parts.{set_found}
use Rattle.kernel_state.specs.Meaning.{booted_of, kernel_of}
use Rattle.kernel_state.specs.declared.enter_refusal.EnterRefusal.{EnterRefusal}
use Rattle.kernel_state.specs.declared.enter_refusal.EnterRefusal.TheVariants as refusal
use Rattle.kernel_state.specs.Entering as state
use Rattle.play_model.specs.Line.{Line, Mem, mem_line}
use Rattle.play_model.specs.Play.{Play, enters, lane_of, leaves, number_in, with_line, with_writes}
use Rattle.ns_ram.specs.Lane.{bytes_at}
use Rattle.smc_abi.specs.declared.regs.Regs.{Regs}
use Rattle.trace_text.specs.declared.item.Item.{Item}
use Rattle.trace_text.specs.declared.item.Item.TheVariants as item
use Rattle.trace_text.specs.declared.item.Reg.{Reg}
use Rattle.core_machine.specs.Laws.{MachinesStand, TurnsAreTaken}
use Rattle.core_machine.specs.Moving.{EntersAt, LeavesAt}
use Rattle.core_machine.specs.declared.smc.Told.{Told}
use Rattle.trace_player.specs.Items.{Begins, ComesIn, GoesOut, HasExit, HasNoExit, up_to_exit}
use Rattle.trace_player.specs.Playing.{CanBeTold, CanGoOut, Prints}
use Rattle.trace_player.specs.Position.{Position, StandsAt, visit_at}
use Rattle.word_parts.specs.Stop.{stop_of}
use Rattle.core_machine.specs.Standing.{CanCome, IsAt, play_of}
use Rattle.core_machine.specs.Insides.{insides}
use Rattle.core_machine.specs.Panics.{panic_of}
use Rattle.core_machine.specs.Turns.{ComeInTurn, MayCome}
use Rattle.core_machine.specs.Visiting.{coming_of}
use Rattle.core_machine.specs.declared.machine.Machine.{Machine}
use Rattle.trace_player.specs.declared.exit.Exit.{Exit}
use Rattle.trace_player.specs.declared.player.Player.{Player}
use Rattle.word_parts.specs.declared.stop.Stop.{Stop}
use Rattle.word_parts.specs.declared.stop.Stop.TheVariants.{Full, Failed, Memory}
use Rattle.core_machine.specs.declared.smc.Smc.{Smc}
use Rattle.core_machine.specs.declared.smc.Smc.TheVariants.{Comes, Leaves}
use Rattle.core_machine.specs.Visitor.{Visitor}
use Rattle.trace_player.proofs.Played.{enters-lines, one-line}
use Rattle.word_parts.proofs.Worded.{some-and}

-- ---- an entry

-- a processor's registers are those of the play's visitor
pub same-visit : (boot : Booted) (at : Position) (player : Player) (visitor : Visitor) (answer : Regs) (regs : List Reg)
    → StandsAt boot at player → visitor.cpu < boot.cpus
    → slice_get player.answers visitor.cpu ≡ Some answer → visitor.regs.a ≡ map (number_in answer.a) regs
    → state.visit_of (coming_of visitor) ≡ visit_at at visitor.cpu visitor.steps regs
same-visit boot at player visitor answer regs stands within there is =
    let told : answer ≡ record { a = at.told visitor.cpu } = let e = sym there
    ∙ stands.answers visitor.cpu within in cc in
    ap (λ (a : List ℕ). record { cpu = visitor.cpu; regs = a; steps = visitor.steps })
    (is ∙ ap (λ (r : Regs). map (number_in r.a) regs) told)

-- it came in
pub came-in : (boot : Booted) (at : Position) (visit : Visit) (visitor : Visitor) (machine : Machine) (player : Player)
    → state.visit_of (coming_of visitor) ≡ visit → EntersAt boot at.play visitor machine (Ok tt) → StandsAt boot at player
    → ComesIn boot at visit (Ok tt) (record { machine = machine; answers = player.answers })
came-in boot at visit visitor machine player same entered stands =
    let some = some-and (λ (next : Play). IsAt boot next machine)
    (enters boot at.play (state.visit_of (coming_of visitor))) entered in (
      some.0,
      ap (enters boot at.play) (sym same) ∙ some.1,
      record { machine = some.2; answers = stands.answers },
    )

-- it was refused
pub stayed-out : (boot : Booted) (at : Position) (visit : Visit) (visitor : Visitor) (machine : Machine) (player : Player)
    (refused : EnterRefusal) → state.visit_of (coming_of visitor) ≡ visit
    → EntersAt boot at.play visitor machine (Err refused) → StandsAt boot at player
    → ComesIn boot at visit (Err (stop_of refused)) (record { machine = machine; answers = player.answers })
stayed-out boot at visit visitor machine player (refusal.Full copied more) same entered stands = (
  more,
  ap (enters boot at.play) (sym same) ∙ entered.0.ends,
  record { machine = entered.1; answers = stands.answers },
)
stayed-out boot at visit visitor machine player refusal.Memory same entered stands =
    record { machine = entered; answers = stands.answers }

kernel-there : (machine : Machine) (o : Option Kernel) → kernel_of machine.at_work.core ≡ o → IsSome o → (kernel : Kernel)
    × (kernel_of machine.at_work.core ≡ Some kernel)
kernel-there machine (Some kernel) is some = (kernel, is)
kernel-there machine None is some = absurd cc

first-of : (machine : Machine) (smc : Smc) (o : Option Kernel)
    → IsSomeAnd o (λ kernel. ComeInTurn (insides kernel) (smc ∷ []))
    → IsSomeAnd o (λ kernel. MayCome (insides kernel) smc)
first-of machine smc (Some kernel) can = can.0
first-of machine smc None can = absurd can

-- each machine stands somewhere
pub stands-there : (machine : Machine) → MachinesStand
    → (kernel : Kernel) × IsAt (booted_of machine.at_work.core) (play_of machine kernel) machine
stands-there machine stand =
    let there = kernel-there machine (kernel_of machine.at_work.core) refl (stand.has_kernel machine) in
    (there.0, stand.stands machine there.0 there.1)

-- a processor that came in can go out, of a machine of the same boot
pub goes-in : (old new : Machine) (visitor : Visitor) → MachinesStand → TurnsAreTaken → CanCome old (Comes visitor)
    → ((boot : Booted) (play : Play) → IsAt boot play old → EntersAt boot play visitor new (Ok tt))
    → CanCome new (Leaves visitor.cpu) × (booted_of new.at_work.core ≡ booted_of old.at_work.core)
goes-in old new visitor stand turns can each =
    let there = kernel-there old (kernel_of old.at_work.core) refl (stand.has_kernel old) in
    let boot = booted_of old.at_work.core in
    let play = play_of old there.0 in
    let some = some-and (λ (next : Play). IsAt boot next new) (enters boot play (state.visit_of (coming_of visitor)))
    (each boot play (stand.stands old there.0 there.1)) in
    let outside = subst (λ (o : Option Kernel). IsSomeAnd o (λ kernel. MayCome (insides kernel) (Comes visitor)))
    there.1 can in
    let after = turns.entry boot play some.0 (state.visit_of (coming_of visitor)) some.1 some.2.goes_on in
    let inside = ap (λ (l : List Bool). slice_get l visitor.cpu) after
    ∙ set_found (insides there.0) visitor.cpu true false outside.0 in (
      first-of new (Leaves visitor.cpu) (kernel_of new.at_work.core)
          (stand.all_can boot some.0 new (Leaves visitor.cpu ∷ []) some.2 (inside, tt)),
      some.2.booted,
    )

-- ---- an exit

-- it went out
pub went-out : (boot : Booted) (at : Position) (told : Told) (machine : Machine) (player : Player)
    → LeavesAt boot at.play told.cpu machine told.regs → StandsAt boot at player
    → GoesOut boot at told (record { machine = machine; answers = player.answers })
went-out boot at told machine player left stands =
    let some = some-and _ (leaves boot told.cpu at.play) left in
    record {
      next = some.0;
      leaves = some.1;
      line = some.2.1;
      stands = record { machine = some.2.0; answers = stands.answers };
    }

-- and can be told something, of a machine of the same boot
pub can-tell : (old new : Machine) (cpu : ℕ) (told : Regs) → MachinesStand → CanGoOut old cpu
    → ((boot : Booted) (play : Play) → IsAt boot play old → LeavesAt boot play cpu new told) → CanBeTold new cpu
can-tell old new cpu told stand can each =
    let there = stands-there old stand in
    let boot = booted_of old.at_work.core in
    let some = some-and _ (leaves boot cpu (play_of old there.0)) (each boot (play_of old there.0) there.1) in
    record { few = can.few; lane = subst (λ (on : Booted). cpu < on.cpus) (sym some.2.0.booted) can.lane }

-- ---- an item

-- an entry that is a part of it, or all of it, was refused
pub entry-refused : (boot : Booted) (at : Position) (i : Item) (visit : Visit) (stop : Stop) (player : Player) (text : List ℕ)
    → up_to_exit boot at i ≡ enters boot at.play visit → ComesIn boot at visit (Err stop) player
    → Begins boot at i (Err stop) player text text
entry-refused boot at i visit Full player text is came =
    record { more = came.0; comes = is ∙ came.1; stands = came.2; prints = refl }
entry-refused boot at i visit Failed player text is came = absurd came
entry-refused boot at i visit Memory player text is came = tt

pub nothing-printed : (before after : Play) (text : List ℕ) → after.lines ≡ before.lines → Prints before after text text
nothing-printed before after text same = ([], same ∙ sym (append-nil before.lines), sym (append-nil text))

-- an entry alone
pub enter-alone : (boot : Booted) (at : Position) (cpu steps : ℕ) (regs : List Reg) (player : Player) (text : List ℕ)
    → ComesIn boot at (visit_at at cpu steps regs) (Ok tt) player
    → HasNoExit boot at (item.Enter cpu steps regs) player text text
enter-alone boot at cpu steps regs player text came = record {
  no_exit = refl;
  next = came.0;
  comes = came.1;
  stands = came.2;
  prints = nothing-printed at.play came.0 text (enters-lines boot (visit_at at cpu steps regs) at.play came.0 came.1);
}

-- an exit behind an entry
pub smc-exit : (boot : Booted) (at : Position) (cpu steps : ℕ) (regs : List Reg) (exit : Exit) (between player : Player)
    (text : List ℕ) → exit.answer.cpu ≡ cpu → (came : ComesIn boot at (visit_at at cpu steps regs) (Ok tt) between)
    → GoesOut boot (record at { play = came.0 }) exit.answer player → exit.panic ≡ panic_of came.0.kernel cpu
    → HasExit boot at (item.Smc cpu steps regs) exit player text text
smc-exit boot at cpu steps regs exit between player text own came goes panics = record {
  cpu = ap (λ (n : ℕ). Some n) (sym own);
  between = came.0;
  comes = came.1;
  goes_on = came.2.machine.goes_on;
  lines = enters-lines boot (visit_at at cpu steps regs) at.play came.0 came.1;
  goes = goes;
  panic = panics ∙ ap (panic_of came.0.kernel) (sym own);
  prints = refl;
}

-- an exit alone
pub leave-exit : (boot : Booted) (at : Position) (cpu : ℕ) (exit : Exit) (before player : Player) (text : List ℕ)
    → exit.answer.cpu ≡ cpu → StandsAt boot at before → GoesOut boot at exit.answer player
    → exit.panic ≡ panic_of at.play.kernel cpu → HasExit boot at (item.Leave cpu) exit player text text
leave-exit boot at cpu exit before player text own stands goes panics = record {
  cpu = ap (λ (n : ℕ). Some n) (sym own);
  between = at.play;
  comes = refl;
  goes_on = stands.machine.goes_on;
  lines = refl;
  goes = goes;
  panic = panics ∙ ap (panic_of at.play.kernel) (sym own);
  prints = refl;
}

-- ---- writes and shows

pub write-alone : (boot : Booted) (at : Position) (cpu addr : ℕ) (bytes : List ℕ) (player : Player) (text : List ℕ)
    → StandsAt boot (record at { play = with_writes cpu (record { addr = addr; bytes = bytes } ∷ []) at.play }) player
    → HasNoExit boot at (item.Write cpu addr bytes) player text text
write-alone boot at cpu addr bytes player text stands =
    let next = with_writes cpu (record { addr = addr; bytes = bytes } ∷ []) at.play in
    record {
      no_exit = refl;
      next = next;
      comes = refl;
      stands = stands;
      prints = nothing-printed at.play next text refl;
    }

-- the same play, with a line more
at-lines : (boot : Booted) (at : Position) (line : Line) (player : Player) → StandsAt boot at player
    → StandsAt boot (record at { play = with_line line at.play }) player
at-lines boot at line player stands = record {
  machine = record {
    booted = stands.machine.booted;
    history = stands.machine.history;
    kernel = stands.machine.kernel;
    limit = stands.machine.limit;
    lanes = stands.machine.lanes;
    goes_on = stands.machine.goes_on;
  };
  answers = stands.answers;
}

pub show-alone : (boot : Booted) (at : Position) (cpu addr len : ℕ) (player : Player) (old new : List ℕ)
    → StandsAt boot at player → new ≡ old ++ mem_line cpu addr (bytes_at (lane_of at.play cpu) addr len)
    → HasNoExit boot at (item.Show cpu addr len) player old new
show-alone boot at cpu addr len player old new stands put =
    let line = Mem cpu addr (bytes_at (lane_of at.play cpu) addr len) in
    record {
      no_exit = refl;
      next = with_line line at.play;
      comes = refl;
      stands = at-lines boot at line player stands;
      prints = (line ∷ [], refl, put ∙ ap (λ (t : List ℕ). old ++ t) (sym (one-line line)));
    }

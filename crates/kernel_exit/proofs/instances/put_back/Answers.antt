-- It is seen as given back. A dead one comes back with no bytes.
use Rattle.std.proofs.Common.{ℕ, ◌+◌, ap, sym, refl, ◌∙◌, arith, List, length, None, subst}
use Rattle.base.specs.NumberMap.{NumberMap}
use Rattle.frame_pool.specs.Pool.{Frames}
use Rattle.kernel_model.specs.Instances.{free_pages, given_back}
use Rattle.kernel_model.specs.Kernel.{Instance}
use Rattle.kernel_state.specs.Calls.{bytes_of}
use Rattle.kernel_state.specs.Setup.{booted_of_setup}
use Rattle.kernel_state.specs.Tables.{instance_of, tables_of}
use Rattle.rpc_cont.specs.Conts.{kept_memory}
use Rattle.ta_instances.specs.Instance as low
use Rattle.kernel_exit.specs.Ending.{CanBeRemoved}
use Rattle.kernel_exit.proofs.GivenBack.{change_frees, change_leaves, dead_empty, given_back_so, pages_in}
use Rattle.kernel_exit.proofs.Seen.{changed_seen, dead_gets_none, is_held_low, no_bytes, seen}
use Rattle.kernel_exit.proofs.instances.put_back.Goals as goal

pub give_back_from-requires-clause-held : goal.give_back_from-requires-clause-held
give_back_from-requires-clause-held c = is_held_low (booted_of_setup c.args.setup.now) c.args.tables.now.instances c.args.number _ c.requires.held

pub give_back_from-requires-clause-dead : goal.give_back_from-requires-clause-dead
give_back_from-requires-clause-dead c =
    dead_gets_none (booted_of_setup c.args.setup.now) c.args.tables.now.instances c.args.number _ None c.requires.held (λ dead. refl)

pub give_back_from-requires-else-is_dead-clause-held : goal.give_back_from-requires-else-is_dead-clause-held
give_back_from-requires-else-is_dead-clause-held c = is_held_low (booted_of_setup c.args.setup.now) c.args.tables.now.instances c.args.number _ c.requires.held

pub give_back_from-requires-else-is_dead-clause-dead : goal.give_back_from-requires-else-is_dead-clause-dead
give_back_from-requires-else-is_dead-clause-dead c =
    dead_gets_none (booted_of_setup c.args.setup.now) c.args.tables.now.instances c.args.number _ c.args.memory c.requires.held
    (λ dead. absurd (cc (dead, c.is_dead.ensures, c.if-is_dead.false)))

pub returns-then-is_dead-clause-tables : goal.returns-then-is_dead-clause-tables
returns-then-is_dead-clause-tables c =
    let boot = booted_of_setup c.args.setup.now in
    let memory = kept_memory bytes_of c.args.memory in
    let none = no_bytes memory (dead_empty boot (seen c.args.tables.now.instances) c.args.number (length memory) c.requires.held (sym c.is_dead.ensures ∙ c.if-is_dead.true)) in
    ap (λ (m : NumberMap Instance). record (tables_of c.args.tables.now) { instances = m })
    (ap seen c.give_back_from.ensures.after ∙ changed_seen c.args.tables.now.instances c.args.number (low.given_back None c.args.objects.now) (given_back memory c.args.objects.now)
    (λ i. ap (λ (bytes : List ℕ). given_back bytes c.args.objects.now (instance_of i)) (sym none)))

pub returns-then-is_dead-clause-pages : goal.returns-then-is_dead-clause-pages
returns-then-is_dead-clause-pages c =
    let boot = booted_of_setup c.args.setup.now in
    let memory = kept_memory bytes_of c.args.memory in
    let empty = dead_empty boot (seen c.args.tables.now.instances) c.args.number (length memory) c.requires.held (sym c.is_dead.ensures ∙ c.if-is_dead.true) in
    let none = no_bytes memory empty in
    let gives = given_back_so boot (seen c.args.tables.now.instances) c.args.number memory c.args.objects.now c.requires.held in
    let seen_now = ap seen c.give_back_from.ensures.after ∙ changed_seen c.args.tables.now.instances c.args.number (low.given_back None c.args.objects.now) (given_back memory c.args.objects.now)
    (λ i. ap (λ (bytes : List ℕ). given_back bytes c.args.objects.now (instance_of i)) (sym none)) in
    record {
      frames = ap (λ (p : Frames). p.frames) c.release.ensures ∙ c.requires.pages.frames;
      free = change_frees boot (seen c.args.tables.now.instances) c.args.number (length memory) 0 c.args.tables.now.pool.free c.release.new.pool.free (given_back memory c.args.objects.now)
          c.requires.held gives c.requires.pages.free
          (ap (λ (p : Frames). p.free) c.release.ensures ∙ ap (λ n. c.args.tables.now.pool.free + n) (pages_in (length memory) 0 empty))
          ∙ ap (free_pages boot) (sym seen_now);
    }

pub returns-then-is_dead-clause-free : goal.returns-then-is_dead-clause-free
returns-then-is_dead-clause-free c =
    let boot = booted_of_setup c.args.setup.now in
    let memory = kept_memory bytes_of c.args.memory in
    let none = no_bytes memory (dead_empty boot (seen c.args.tables.now.instances) c.args.number (length memory) c.requires.held (sym c.is_dead.ensures ∙ c.if-is_dead.true)) in
    let gives = given_back_so boot (seen c.args.tables.now.instances) c.args.number memory c.args.objects.now c.requires.held in
    let seen_now = ap seen c.give_back_from.ensures.after ∙ changed_seen c.args.tables.now.instances c.args.number (low.given_back None c.args.objects.now) (given_back memory c.args.objects.now)
    (λ i. ap (λ (bytes : List ℕ). given_back bytes c.args.objects.now (instance_of i)) (sym none)) in
    subst (λ (m : NumberMap Instance). CanBeRemoved boot m c.args.number) (sym seen_now)
    (change_leaves boot (seen c.args.tables.now.instances) c.args.number (length memory) 0 (given_back memory c.args.objects.now) c.requires.held gives)

pub returns-else-is_dead-clause-tables : goal.returns-else-is_dead-clause-tables
returns-else-is_dead-clause-tables c =
    ap (λ (m : NumberMap Instance). record (tables_of c.args.tables.now) { instances = m })
    (ap seen c.give_back_from-else-is_dead.ensures.after ∙ changed_seen c.args.tables.now.instances c.args.number (low.given_back c.args.memory c.args.objects.now)
    (given_back (kept_memory bytes_of c.args.memory) c.args.objects.now) (λ i. refl))

pub returns-else-is_dead-clause-pages : goal.returns-else-is_dead-clause-pages
returns-else-is_dead-clause-pages c =
    let boot = booted_of_setup c.args.setup.now in
    let memory = kept_memory bytes_of c.args.memory in
    let gives = given_back_so boot (seen c.args.tables.now.instances) c.args.number memory c.args.objects.now c.requires.held in
    let seen_now = ap seen c.give_back_from-else-is_dead.ensures.after ∙ changed_seen c.args.tables.now.instances c.args.number (low.given_back c.args.memory c.args.objects.now) (given_back memory c.args.objects.now) (λ i. refl) in
    record {
      frames = c.requires.pages.frames;
      free = change_frees boot (seen c.args.tables.now.instances) c.args.number (length memory) 0 c.args.tables.now.pool.free c.args.tables.now.pool.free (given_back memory c.args.objects.now)
          c.requires.held gives c.requires.pages.free (omega arith) ∙ ap (free_pages boot) (sym seen_now);
    }

pub returns-else-is_dead-clause-free : goal.returns-else-is_dead-clause-free
returns-else-is_dead-clause-free c =
    let boot = booted_of_setup c.args.setup.now in
    let memory = kept_memory bytes_of c.args.memory in
    let gives = given_back_so boot (seen c.args.tables.now.instances) c.args.number memory c.args.objects.now c.requires.held in
    let seen_now = ap seen c.give_back_from-else-is_dead.ensures.after ∙ changed_seen c.args.tables.now.instances c.args.number (low.given_back c.args.memory c.args.objects.now) (given_back memory c.args.objects.now) (λ i. refl) in
    subst (λ (m : NumberMap Instance). CanBeRemoved boot m c.args.number) (sym seen_now)
    (change_leaves boot (seen c.args.tables.now.instances) c.args.number (length memory) 0 (given_back memory c.args.objects.now) c.requires.held gives)

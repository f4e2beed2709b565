-- It is seen as killed, and its pages are those that the pool lacks for it.
use Rattle.std.proofs.Common.{ap, sym, refl, ◌∙◌, arith, length, subst}
use Rattle.base.specs.NumberMap.{NumberMap}
use Rattle.frame_pool.specs.Pages.{page_count}
use Rattle.frame_pool.specs.Pool.{Frames}
use Rattle.kernel_model.specs.Instances.{free_pages, killed}
use Rattle.kernel_model.specs.Kernel.{Instance}
use Rattle.kernel_state.specs.Calls.{bytes_of}
use Rattle.kernel_state.specs.Setup.{booted_of_setup}
use Rattle.kernel_state.specs.Tables.{tables_of}
use Rattle.rpc_cont.specs.Conts.{kept_memory}
use Rattle.ta_instances.specs.Instance as low
use Rattle.kernel_exit.specs.Ending.{CanBeRemoved}
use Rattle.kernel_exit.proofs.GivenBack.{change_fits, change_frees, change_leaves, killed_so}
use Rattle.kernel_exit.proofs.Seen.{changed_seen, is_held_low, seen}
use Rattle.kernel_exit.proofs.instances.put_back_dead.Goals as goal

pub kill-requires : goal.kill-requires
kill-requires c = is_held_low (booted_of_setup c.args.setup.now) c.args.tables.now.instances c.args.number _ c.requires.held

pub release-requires : goal.release-requires
release-requires c =
    let boot = booted_of_setup c.args.setup.now in
    let memory = kept_memory bytes_of c.args.memory in
    let gives = killed_so boot (seen c.args.tables.now.instances) c.args.number memory c.requires.held in
    let fits = change_fits boot (seen c.args.tables.now.instances) c.args.number (length memory) (page_count memory) c.args.tables.now.pool.free killed c.requires.held gives c.requires.pages.free in
    omega (arith, fits, c.requires.pages.frames)

pub returns-clause-tables : goal.returns-clause-tables
returns-clause-tables c =
    ap (λ (m : NumberMap Instance). record (tables_of c.args.tables.now) { instances = m })
    (ap seen c.kill.ensures ∙ changed_seen c.args.tables.now.instances c.args.number low.killed killed (λ i. refl))

pub returns-clause-pages : goal.returns-clause-pages
returns-clause-pages c =
    let boot = booted_of_setup c.args.setup.now in
    let memory = kept_memory bytes_of c.args.memory in
    let gives = killed_so boot (seen c.args.tables.now.instances) c.args.number memory c.requires.held in
    let seen_now = ap seen c.kill.ensures ∙ changed_seen c.args.tables.now.instances c.args.number low.killed killed (λ i. refl) in
    record {
      frames = ap (λ (p : Frames). p.frames) c.release.ensures ∙ c.requires.pages.frames;
      free = change_frees boot (seen c.args.tables.now.instances) c.args.number (length memory) (page_count memory) c.args.tables.now.pool.free c.release.new.pool.free killed
          c.requires.held gives c.requires.pages.free (ap (λ (p : Frames). p.free) c.release.ensures) ∙ ap (free_pages boot) (sym seen_now);
    }

pub returns-clause-free : goal.returns-clause-free
returns-clause-free c =
    let boot = booted_of_setup c.args.setup.now in
    let memory = kept_memory bytes_of c.args.memory in
    let gives = killed_so boot (seen c.args.tables.now.instances) c.args.number memory c.requires.held in
    let seen_now = ap seen c.kill.ensures ∙ changed_seen c.args.tables.now.instances c.args.number low.killed killed (λ i. refl) in
    subst (λ (m : NumberMap Instance). CanBeRemoved boot m c.args.number) (sym seen_now)
    (change_leaves boot (seen c.args.tables.now.instances) c.args.number (length memory) (page_count memory) killed c.requires.held gives)

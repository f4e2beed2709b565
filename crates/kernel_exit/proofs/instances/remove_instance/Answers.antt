-- Its pages are those that the pool lacks for it.
use Rattle.std.proofs.Common.{◌+◌, ap, sym, ◌∙◌, arith}
use Rattle.base.specs.NumberMap.{NumberMap}
use Rattle.kernel_state.proofs.Maps.{remove_seen}
use Rattle.frame_pool.specs.Pages.{page_count}
use Rattle.frame_pool.specs.Pool.{Frames}
use Rattle.kernel_model.specs.Instances.{free_pages}
use Rattle.kernel_model.specs.Kernel.{Instance}
use Rattle.kernel_state.specs.Setup.{booted_of_setup}
use Rattle.kernel_state.specs.Tables.{instance_of, tables_of}
use Rattle.kernel_exit.specs.Ending.{IsFreeWith}
use Rattle.kernel_exit.proofs.GivenBack.{removal_fits, removal_frees}
use Rattle.kernel_exit.proofs.Seen.{found_there, is_free_low, memory_came, seen}
use Rattle.kernel_exit.proofs.instances.remove_instance.Goals as goal

pub remove-memory-requires : goal.remove-memory-requires
remove-memory-requires c = is_free_low (booted_of_setup c.args.setup.now) c.args.tables.now.instances c.args.number c.requires.free

pub release-requires : goal.release-requires
release-requires c =
    let boot = booted_of_setup c.args.setup.now in
    let found = found_there c.args.tables.now.instances c.args.number (IsFreeWith boot) c.requires.free.free in
    let came = memory_came c.args.tables.now.instances c.args.number found.instance c.remove-memory.result found.kept c.remove-memory.ensures.memory in
    let fits = removal_fits boot (seen c.args.tables.now.instances) c.args.number c.args.tables.now.pool.free (instance_of found.instance) c.requires.free found.seen_kept c.requires.pages.free in
    omega (arith, fits, ap page_count came, c.requires.pages.frames)

pub returns-clause-tables : goal.returns-clause-tables
returns-clause-tables c =
    ap (λ (m : NumberMap Instance). record (tables_of c.args.tables.now) { instances = m })
    (ap seen c.remove-memory.ensures.after ∙ remove_seen instance_of c.args.tables.now.instances c.args.number)

pub returns-clause-pages : goal.returns-clause-pages
returns-clause-pages c =
    let boot = booted_of_setup c.args.setup.now in
    let found = found_there c.args.tables.now.instances c.args.number (IsFreeWith boot) c.requires.free.free in
    let came = memory_came c.args.tables.now.instances c.args.number found.instance c.remove-memory.result found.kept c.remove-memory.ensures.memory in
    let seen_now = ap seen c.remove-memory.ensures.after ∙ remove_seen instance_of c.args.tables.now.instances c.args.number in
    record {
      frames = ap (λ (p : Frames). p.frames) c.release.ensures ∙ c.requires.pages.frames;
      free = removal_frees boot (seen c.args.tables.now.instances) c.args.number c.args.tables.now.pool.free c.release.new.pool.free (instance_of found.instance)
          c.requires.free found.seen_kept c.requires.pages.free
          (ap (λ (p : Frames). p.free) c.release.ensures ∙ ap (λ n. c.args.tables.now.pool.free + n) (sym (ap page_count came)))
          ∙ ap (free_pages boot) (sym seen_now);
    }

use Rattle.std.proofs.Common.{◌≢◌, sym, subst, ◌∙◌}
use Rattle.std.specs.Prelude.{AllPairs}
use Rattle.native_tas.specs.Table.{entries}
use Rattle.kernel_state.proofs.Apart.{boot_if_none, natives_if_none}
use Rattle.kernel_state.proofs.booting.repeated.Goals as goal

pub returns-clause-boot : goal.returns-clause-boot
returns-clause-boot g c =
    boot_if_none c.first_repeated.result c.args.boot.now c.as_slice.result.now c.as_slice-2.result.now c.first_repeated.ensures
    c.as_slice-2.ensures c.requires

pub returns-clause-natives : goal.returns-clause-natives
returns-clause-natives g c =
    natives_if_none c.first_repeated.result c.args.boot.now (entries c.args.natives.now) c.as_slice.result.now c.as_slice-2.result.now
    c.first_repeated.ensures (c.as_slice.ensures.value ∙ c.uuids.ensures.order) c.as_slice-2.ensures c.as_slice.ensures.fits
    (subst (AllPairs (λ earlier later. earlier ≢ later)) (sym c.as_slice.ensures.value) c.uuids.ensures.apart)

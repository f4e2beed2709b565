use Rattle.std.proofs.Common.{sym, subst}
use Rattle.ta_isa.specs.declared.boot.App.{App}
use Rattle.ta_isa.specs.Spelling.{IsValid}
use Rattle.trace_bin.specs.Spelling.{app_record}
use Rattle.trace_bin.proofs.Puts.{put_more}
use Rattle.trace_bin.proofs.writing.put_apps.Goals as goal

pub loop-app-preserved : goal.loop-app-preserved
loop-app-preserved c =
    put_more app_record c.args.apps.now c.loop-app.app-index c.app-item.result _ _ _ _ c.loop-app-test.true c.app-item.is c.loop-app.invariant c.in_ok-put_app.ensures

pub put_app-requires : goal.put_app-requires
put_app-requires c =
    let Valid : App → Type 0 = λ app. IsValid app.image in
    subst Valid (sym c.app-item.is) (c.requires c.loop-app.app-index c.app-item.result c.loop-app-test.true)

use Rattle.std.proofs.Common.{subst, arith}
use Rattle.exit_pages.specs.Covering.{CoversPlace}
use Rattle.exit_pages.proofs.Marked.{covers_all, covers_more, place_still}
use Rattle.param_copy.specs.declared.copied.Place.{Place}
use Rattle.exit_pages.proofs.places.mark_places.Goals as goal

pub loop-place-init : goal.loop-place-init
loop-place-init c = record { covers = λ all within others. others; keeps = λ number is. is }

pub loop-place-preserved : goal.loop-place-preserved
loop-place-preserved c = record {
  covers =
      covers_more (CoversPlace c.args.arg) c.loop-place.pages c.mark_place.new.pages c.args.places.now c.loop-place.place-index
      c.place-item.result (λ all x wider here. place_still c.args.arg c.mark_place.new.pages all x wider here)
      c.loop-place-test.true c.mark_place.ensures.keeps
      (subst (λ (place : Place). CoversPlace c.args.arg c.mark_place.new.pages place) c.place-item.is c.mark_place.ensures.covers)
      c.loop-place.invariant.covers;
  keeps = λ number is. c.mark_place.ensures.keeps number (c.loop-place.invariant.keeps number is);
}

pub returns-clause-covers : goal.returns-clause-covers
returns-clause-covers c =
    covers_all (CoversPlace c.args.arg) c.loop-place.pages c.args.places.now c.loop-place.place-index
    (omega (arith, c.loop-place.auto.place-index-end, c.loop-place-test.false)) c.loop-place.invariant.covers

pub returns-clause-keeps : goal.returns-clause-keeps
returns-clause-keeps c = c.loop-place.invariant.keeps

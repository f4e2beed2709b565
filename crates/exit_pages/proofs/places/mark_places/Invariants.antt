use Rattle.exit_pages.specs.Covering.{CoversPlace}
use Rattle.exit_pages.proofs.Marked.{CoversTo}
use Rattle.page_set.specs.Pages.{IsWithin}
use Rattle.exit_pages.proofs.places.mark_places.Given as goal

abbrev pub invariant-loop-place : goal.invariant-loop-place
invariant-loop-place l = record {
  covers : CoversTo (CoversPlace l.arg) l.pages l.places l.place-index;
  keeps : IsWithin l.initial.pages l.pages;
}

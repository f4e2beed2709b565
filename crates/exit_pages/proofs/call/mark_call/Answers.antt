use Rattle.std.proofs.Common.{List, subst}
use Rattle.std.specs.List.{AllByRecursion}
use Rattle.exit_pages.specs.Covering.{CoversPlace}
use Rattle.exit_pages.proofs.Marked.{bytes_still, places_still}
use Rattle.page_set.specs.Pages.{IsWithin}
use Rattle.param_copy.specs.declared.copied.Place.{Place}
use Rattle.exit_pages.proofs.call.mark_call.Goals as goal

pub returns : goal.returns
returns c =
    let later : IsWithin c.mark_places.new.pages c.mark_buffer.new.pages = λ number is. c.mark_buffer.ensures.keeps number (c.mark_area.ensures.keeps number is) in
    record {
      argument = bytes_still c.mark.new.self c.mark_buffer.new.pages _ 32
          (λ number is. later number (c.mark_places.ensures.keeps number is)) c.mark.ensures.bytes;
      places =
          places_still _ c.mark_places.new.pages c.mark_buffer.new.pages c.args.cont.now.places.items later
          (subst (λ (all : List Place). AllByRecursion (CoversPlace c.args.cont.now.arg c.mark_places.new.pages) all) c.as_slice.ensures.value
          c.mark_places.ensures.covers);
      area = λ area is. bytes_still c.mark_area.new.pages c.mark_buffer.new.pages area 160 c.mark_buffer.ensures.keeps
          (c.mark_area.ensures.covers area is);
      buffer = c.mark_buffer.ensures.covers;
      payload = c.payload_is_short.ensures;
    }

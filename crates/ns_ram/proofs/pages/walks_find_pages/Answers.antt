use Rattle.ns_ram.proofs.PagesFound.{walk-finds}
use Rattle.ns_ram.proofs.pages.walks_find_pages.Goals as goal

pub returns : goal.returns
returns c = walk-finds

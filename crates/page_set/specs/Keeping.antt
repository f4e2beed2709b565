-- What was kept of RAM before some pages of it could be written. This project's own.
use Rattle.std.specs.Prelude.{◌≡◌, ℕ, List, length}
use Rattle.page_set.specs.Pages.{StaysElsewhere, bytes_of_pages}
use Rattle.page_set.specs.declared.kept.KeptPages.{KeptPages}

-- what stood in these pages of one lane of RAM, outside of which the other has the same
pub record AreKept (kept : KeptPages) (before after : List ℕ) : Type 0 where
  pub whole : length before ≡ 0x400000
  pub bytes : kept.bytes.items ≡ bytes_of_pages kept.pages before
  pub stays : StaysElsewhere kept.pages before after

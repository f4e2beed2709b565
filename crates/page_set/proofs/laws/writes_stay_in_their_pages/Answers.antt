use Rattle.page_set.proofs.Stays.{stays}
use Rattle.page_set.proofs.laws.writes_stay_in_their_pages.Goals as goal

pub returns : goal.returns
returns c = λ pages lane writes few whole all. stays pages lane writes whole all

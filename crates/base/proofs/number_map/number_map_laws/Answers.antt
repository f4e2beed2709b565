use Rattle.base.specs.NumberMap.{get-insert, get-remove, IsRising-insert, IsRising-remove, same_maps}
use Rattle.base.proofs.number_map.number_map_laws.Goals as goal

pub returns : goal.returns
returns g c = record {
  at_insert = get-insert;
  at_remove = get-remove;
  rising_insert = IsRising-insert;
  rising_remove = IsRising-remove;
  alike = same_maps;
}

use Rattle.std.proofs.Common.{inl, inr, sym, ◌∙◌}
use Rattle.ns_ram.proofs.LaneBytes.{bytes_at-bytes_put, bytes_at-bytes_put_above, bytes_at-bytes_put_below, length-bytes_put}
use Rattle.ns_ram.proofs.WriteList.{lane_after-alone}
use Rattle.ns_ram.proofs.laws.writes_change_their_bytes_alone.Goals as goal

pub returns-clause-one : goal.returns-clause-one
returns-clause-one c = λ lane bytes addr whole h. record {
  written = bytes_at-bytes_put lane addr bytes whole h;
  others = λ other len g apart. elim apart [
    | inl below ↦ bytes_at-bytes_put_below lane addr bytes other len whole h g below
    | inr above ↦ bytes_at-bytes_put_above lane addr bytes other len whole h above
  ];
  whole = length-bytes_put lane addr bytes whole h ∙ sym whole;
}

pub returns-clause-all : goal.returns-clause-all
returns-clause-all c = lane_after-alone

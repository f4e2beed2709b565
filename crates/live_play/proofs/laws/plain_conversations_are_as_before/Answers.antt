use Rattle.live_play.proofs.Asked.{is_other, other_after, other_shown, unasked_said}
use Rattle.live_play.proofs.laws.plain_conversations_are_as_before.Goals as goal

pub returns : goal.returns
returns c = record {
  said = unasked_said;
  counted = λ on here input plain.
      let other = is_other input plain in
      (other_after on here input other, other_shown on here input other);
}

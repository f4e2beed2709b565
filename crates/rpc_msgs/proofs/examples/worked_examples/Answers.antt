use Rattle.std.proofs.Common.{◌≡◌, ◌<◌, [], ◌∷◌, ap, refl, arith}
use Rattle.std.proofs.lemmas.Str.Ascii.{IsAscii-cons, IsAscii-nil}
use Rattle.rpc_msgs.specs.declared.rpc.RpcReply.{RpcReply}
use Rattle.rpc_msgs.proofs.examples.worked_examples.Goals as goal

pub returns : goal.returns
returns c = record {
  no_bytes = record { few = omega arith; ascii = IsAscii-nil };
  slash_and_digits = record {
    few = omega arith;
    ascii = IsAscii-cons 0x66 (0x2f ∷ 0x34 ∷ []) (omega arith) (IsAscii-cons 0x2f (0x34 ∷ []) (omega arith) (IsAscii-cons 0x34 [] (omega arith) IsAscii-nil));
  };
  highest = record { few = omega arith; ascii = IsAscii-cons 127 [] (omega arith) IsAscii-nil };
  above = λ name. let below : 128 < 128 = name.ascii 1 in absurd (omega arith);
  too_long = λ bytes long name. let few = name.few in absurd (omega arith);
  time = refl;
  sleep = refl;
  wake = refl;
  suspend = refl;
  open_file = refl;
  write_file = refl;
  read_file = refl;
  suspend_in_area = refl;
  suspend_beside_a_buffer = refl;
  open_in_area = refl;
  read_in_area = refl;
  nowhere = refl;
  in_the_buffer = refl;
  payload_in_the_buffer = refl;
  in_the_area = refl;
  close_in_the_area = refl;
  payload_nowhere = refl;
  in_the_area_still = refl;
  payload_beside = refl;
  cookie_of_a_buffer = refl;
  cookie_of_an_area = refl;
  most = omega arith;
  too_much = λ few. omega arith;
  other_payload = λ e. cc;
  time_read = refl;
  descriptor_read = refl;
  nothing_read = refl;
  piece_read = refl;
  end_read = refl;
  too_many_unread = refl;
  time_read_in_area = refl;
  piece_read_in_area = refl;
  another_order = refl;
  time_reply = refl;
  piece_reply = (refl, refl);
  short_piece = λ h. let wrong : 1 ≡ 2 = h.1 in omega arith;
  time_with_size = λ h. let wrong : 1 ≡ 0 = ap (λ (r : RpcReply). r.size) h in omega arith;
  message_bytes = refl;
  max_payload = refl;
}

use Rattle.std.proofs.Common.{◌≡◌, ◌-◌, ◌<◌, drop, take, length, length-drop, ap, arith}
use Rattle.std.proofs.lemmas.List.{take_all}
use Rattle.trace_bin.proofs.Taken.{FirstRecord, grown, kept, left}
use Rattle.trace_bin.proofs.taking.take_record.Goals as goal

pub returns : goal.returns
returns c =
    let bytes = c.args.bytes.now in
    let body = take (length bytes - 1) (drop 1 bytes) in
    let len = c.in-Some-body_len.len in
    let rest = take (length body - len) (drop len body) in
    let body_is : body ≡ drop 1 bytes = take_all _ _ (omega (arith, length-drop 1 bytes)) in
    let rest_is : rest ≡ drop len body = take_all _ _ (omega (arith, length-drop len body)) in
    let shorter : length rest < length bytes = omega (arith, ap length rest_is, ap length body_is, length-drop len body, length-drop 1 bytes) in
    let front : FirstRecord bytes body c.in-Some.kind c.fixed_len.result len = record {
      body_is = body_is;
      kind_is = c.in-Some.ensures;
      whole = c.in-Some-body_len.ensures.read.0;
      fixed_is = c.fixed_len.ensures;
      len_is = c.in-Some-body_len.ensures.read.1;
    } in
    record {
      taken = (
        kept c.args.natives.now c.args.builder.now bytes body c.in-Some.kind c.fixed_len.result len front c.in_ok-take_body.ensures.0,
        grown c.args.builder.now c.take_body.new.builder bytes body c.in-Some.kind c.fixed_len.result len front c.in_ok-take_body.ensures.1,
      );
      rest = left bytes body rest c.in-Some.kind c.fixed_len.result len front rest_is;
      shorter = shorter;
    }

-- A head is read from its spelling, and 32 bytes are the spelling of the head that is read from them.
use Rattle.std.proofs.Common.{◌≡◌, ℕ, List, [], length, take, drop, sym, ◌∙◌, lit≤, arith}
use Rattle.std.proofs.lemmas.List.{drop_all}
use Rattle.std.proofs.lemmas.Nat.{from_le_bytes-to_le_bytes_4}
use Rattle.byteorder.specs.Endian.{little_number}
use Rattle.msg_args.specs.declared.head.MsgHead.{MsgHead}
use Rattle.msg_args.specs.Spelling.{head_bytes, FitsHead}
use Rattle.msg_args.specs.Reading.{u32_at, head_at}
use Rattle.base.proofs.Numbers.{IsBytes, u32_back, u32-lt}
use Rattle.msg_args.proofs.Numbers.{little_32}

pub head_again : (h : MsgHead) → FitsHead h → head_at (head_bytes h) ≡ h
head_again h fits =
    let cmd : u32_at 0 (head_bytes h) ≡ h.cmd = from_le_bytes-to_le_bytes_4 h.cmd fits.cmd in
    let func : u32_at 4 (head_bytes h) ≡ h.func = from_le_bytes-to_le_bytes_4 h.func fits.func in
    let session : u32_at 8 (head_bytes h) ≡ h.session = from_le_bytes-to_le_bytes_4 h.session fits.session in
    let cancel_id : u32_at 12 (head_bytes h) ≡ h.cancel_id = from_le_bytes-to_le_bytes_4 h.cancel_id fits.cancel_id in
    let pad : u32_at 16 (head_bytes h) ≡ h.pad = from_le_bytes-to_le_bytes_4 h.pad fits.pad in
    let ret : u32_at 20 (head_bytes h) ≡ h.ret = from_le_bytes-to_le_bytes_4 h.ret fits.ret in
    let origin : u32_at 24 (head_bytes h) ≡ h.origin = from_le_bytes-to_le_bytes_4 h.origin fits.origin in
    let count : u32_at 28 (head_bytes h) ≡ h.count = from_le_bytes-to_le_bytes_4 h.count fits.count in
    λ i. record { cmd = cmd i; func = func i; session = session i; cancel_id = cancel_id i; pad = pad i; ret = ret i; origin = origin i; count = count i }

pub head_back : (bytes : List ℕ) → length bytes ≡ 32 → IsBytes bytes → head_bytes (head_at bytes) ≡ bytes
head_back bytes len fits =
    let h = head_at bytes in
    let all : drop 32 bytes ≡ [] = drop_all 32 bytes (omega arith) in
    let t28 = u32_back 28 bytes [] (omega arith) fits (sym all) in
    let t24 = u32_back 24 bytes _ (omega arith) fits t28 in
    let t20 = u32_back 20 bytes _ (omega arith) fits t24 in
    let t16 = u32_back 16 bytes _ (omega arith) fits t20 in
    let t12 = u32_back 12 bytes _ (omega arith) fits t16 in
    let t8 = u32_back 8 bytes _ (omega arith) fits t12 in
    let t4 = u32_back 4 bytes _ (omega arith) fits t8 in
    u32_back 0 bytes _ (omega arith) fits t4

pub FitsHead-head_at : (bytes : List ℕ) → IsBytes bytes → FitsHead (head_at bytes)
FitsHead-head_at bytes fits = record {
  cmd = u32-lt 0 bytes fits;
  func = u32-lt 4 bytes fits;
  session = u32-lt 8 bytes fits;
  cancel_id = u32-lt 12 bytes fits;
  pad = u32-lt 16 bytes fits;
  ret = u32-lt 20 bytes fits;
  origin = u32-lt 24 bytes fits;
  count = u32-lt 28 bytes fits;
}

-- what the code reads, field by field
pub fields_are : (bytes : List ℕ) (h : MsgHead) → h.cmd ≡ little_number 4 (take 32 bytes) → h.func ≡ little_number 4 (take 28 (drop 4 bytes)) → h.session ≡ little_number 4 (take 24 (drop 8 bytes)) → h.cancel_id ≡ little_number 4 (take 20 (drop 12 bytes)) → h.pad ≡ little_number 4 (take 16 (drop 16 bytes)) → h.ret ≡ little_number 4 (take 12 (drop 20 bytes)) → h.origin ≡ little_number 4 (take 8 (drop 24 bytes)) → h.count ≡ little_number 4 (take 4 (drop 28 bytes)) → h ≡ head_at bytes
fields_are bytes h cmd func session cancel_id pad ret origin count =
    let cmd-is : h.cmd ≡ u32_at 0 bytes = cmd ∙ little_32 32 bytes (lit≤ tt) in
    let func-is : h.func ≡ u32_at 4 bytes = func ∙ little_32 28 (drop 4 bytes) (lit≤ tt) in
    let session-is : h.session ≡ u32_at 8 bytes = session ∙ little_32 24 (drop 8 bytes) (lit≤ tt) in
    let cancel_id-is : h.cancel_id ≡ u32_at 12 bytes = cancel_id ∙ little_32 20 (drop 12 bytes) (lit≤ tt) in
    let pad-is : h.pad ≡ u32_at 16 bytes = pad ∙ little_32 16 (drop 16 bytes) (lit≤ tt) in
    let ret-is : h.ret ≡ u32_at 20 bytes = ret ∙ little_32 12 (drop 20 bytes) (lit≤ tt) in
    let origin-is : h.origin ≡ u32_at 24 bytes = origin ∙ little_32 8 (drop 24 bytes) (lit≤ tt) in
    let count-is : h.count ≡ u32_at 28 bytes = count ∙ little_32 4 (drop 28 bytes) (lit≤ tt) in
    λ i. record { cmd = cmd-is i; func = func-is i; session = session-is i; cancel_id = cancel_id-is i; pad = pad-is i; ret = ret-is i; origin = origin-is i; count = count-is i }

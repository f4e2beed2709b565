-- What was brought to a call that has read all the data of an object, and then its tag.
use Rattle.std.proofs.Common.{◌≡◌, ℕ, zero, suc, ◌+◌, ◌-◌, ◌*◌, ◌/◌, ◌<◌, ◌≤◌, min, Bool, true, false, List, [], ◌∷◌, ◌++◌, length, map, Some, refl, ap, sym, ◌∙◌, arith, append_assoc, append-nil, length-append}
use Rattle.std.specs.Prelude.{◌==◌, if◌then◌else◌}
use Rattle.std.specs.Str.{bytes_eq}
use Rattle.std.proofs.lemmas.Bool.{and_parts, eqb-true}
use Rattle.std.proofs.lemmas.Slice.Eq.{bytes_eq-Decides}
use Rattle.rpc_msgs.specs.Answer.{RpcAnswer, Replied}
use Rattle.rpc_msgs.specs.declared.rpc.Rpc.TheVariants.{FsRead}
use Rattle.rpc_msgs.specs.declared.rpc.RpcReply.{RpcReply}
use Rattle.tee_storage.specs.declared.handle.Handle.{Handle}
use Rattle.tee_storage.specs.KeptData.{Storing, reading_data, storing_none}
use Rattle.tee_storage.specs.ObjectFiles.{Piece, cut, offset_of, pieces}
use Rattle.tee_storage.specs.Program.{Now, Program, after, fails}
use Rattle.tee_storage.specs.Replies.{is_whole}
use Rattle.tee_storage.specs.Tags.{brings, checking, if_brought, tag_offset}
use Rattle.storage_law.specs.Laws.{data_in}
use Rattle.storage_law.proofs.GoingOn.{asked, failed, goes_on, is_past, went_on}

-- ---- pieces

abbrev pub total_of : List Piece → ℕ
total_of [] = 0
total_of (piece ∷ others) = piece.len + total_of others

-- enough pieces are all of the bytes
all_cut : (count start total : ℕ) → total - start ≤ count * 3584 → total_of (cut count start total) ≡ total - start
all_cut zero start total enough = omega arith
all_cut (suc count) start total enough =
    let more = all_cut count (start + min 3584 (total - start)) total (omega arith) in
    let first : total_of (cut (suc count) start total)
    ≡ min 3584 (total - start) + total_of (cut count (start + min 3584 (total - start)) total) = refl in
    omega (arith, more, first)

pub all_pieces : (total : ℕ) → total_of (pieces total) ≡ total
all_pieces total =
    let enough : total - 0 ≤ ((total - 0 + 3583) / 3584) * 3584 = omega arith in
    let all = all_cut ((total - 0 + 3583) / 3584) 0 total enough in
    omega (arith, all)

-- each of them begins before the end
abbrev pub BeginBefore : ℕ → List Piece → Type 0
BeginBefore total [] = Unit {0}
BeginBefore total (piece ∷ others) = (piece.start < total) × BeginBefore total others

begin_before : (count start total : ℕ) → count * 3584 < total - start + 3584 → BeginBefore total (cut count start total)
begin_before zero start total few = tt
begin_before (suc count) start total few =
    let first : start < total = omega arith in
    let next : count * 3584 < total - (start + min 3584 (total - start)) + 3584 = omega arith in
    (first, begin_before count (start + min 3584 (total - start)) total next)

pub pieces_begin_before : (total : ℕ) → BeginBefore total (pieces total)
pieces_begin_before total =
    let few : ((total - 0 + 3583) / 3584) * 3584 < total - 0 + 3584 = omega arith in
    begin_before ((total - 0 + 3583) / 3584) 0 total few

-- ---- the data

-- what has become of the range and the objects
abbrev pub stored : Storing → List Piece → List RpcReply → Now → Now
stored storing [] replies now = now
stored storing (piece ∷ others) [] now = now
stored storing (piece ∷ others) (reply ∷ replies) now = stored storing others replies (storing now piece.start reply.bytes)

pub none_stored : (parts : List Piece) (replies : List RpcReply) (now : Now) → stored storing_none parts replies now ≡ now
none_stored [] replies now = refl
none_stored (piece ∷ others) [] now = refl
none_stored (piece ∷ others) (reply ∷ replies) now = none_stored others replies now

whole_piece : (reply : RpcReply) (len : ℕ) → is_whole reply len ≡ true → length reply.bytes ≡ len
whole_piece reply len whole = eqb-true (length reply.bytes) len (and_parts (reply.size == len) (length reply.bytes == len) whole).1

module _ (object : Handle) (storing : Storing) (onward : List ℕ → Now → Program) where
  -- replies have brought these pieces, and behind them the call goes on with their data
  pub record Brought (parts : List Piece) (content : List ℕ) (now : Now) (answers : List RpcAnswer) : Type 0 where
    pub replies : List RpcReply
    pub rest : List RpcAnswer
    pub are : answers ≡ map Replied replies ++ rest
    pub lengths : length (data_in replies) ≡ total_of parts
    pub comes : after (Some (reading_data object storing parts content now onward)) (map Replied replies)
        ≡ Some (onward (content ++ data_in replies) (stored storing parts replies now))

  -- what a reply with a piece leads to
  abbrev behind_piece : (piece : Piece) (others : List Piece) (content : List ℕ) (now : Now) → RpcReply → Program
  behind_piece piece others content now reply =
      if is_whole reply piece.len
      then reading_data object storing others (content ++ reply.bytes) (storing now piece.start reply.bytes) onward
      else fails 0xf0100001 now

  one_more : (piece : Piece) (others : List Piece) (content : List ℕ) (now : Now) (answer : RpcAnswer) (answers : List RpcAnswer)
      (reply : RpcReply) → answer ≡ Replied reply → (reply.ret == 0) ≡ true → is_whole reply piece.len ≡ true
      → Brought others (content ++ reply.bytes) (storing now piece.start reply.bytes) answers
      → Brought (piece ∷ others) content now (answer ∷ answers)
  one_more piece others content now answer answers reply is good whole more =
      let behind = more.lengths in
      let len = whole_piece reply piece.len whole in
      let left = stored storing others more.replies (storing now piece.start reply.bytes) in
      let next : after (Some (behind_piece piece others content now reply)) (map Replied more.replies)
      ≡ Some (onward (content ++ reply.bytes ++ data_in more.replies) left) =
      ap (λ (test : Bool). after (Some (if test
      then reading_data object storing others (content ++ reply.bytes) (storing now piece.start reply.bytes) onward
      else fails 0xf0100001 now)) (map Replied more.replies)) whole ∙ more.comes in
      let regrouped : Some (onward (content ++ reply.bytes ++ data_in more.replies) left)
      ≡ Some (onward (content ++ (reply.bytes ++ data_in more.replies)) left) =
      ap (λ (bytes : List ℕ). Some (onward bytes left)) (append_assoc content reply.bytes (data_in more.replies)) in
      record {
        replies = reply ∷ more.replies;
        rest = more.rest;
        are = cc (is, more.are);
        lengths = length-append reply.bytes (data_in more.replies) ∙ omega (arith, len, behind);
        comes = goes_on (FsRead object.fd (offset_of piece.start) piece.len) [] now (behind_piece piece others content now)
            (map Replied more.replies) _ reply good (next ∙ regrouped);
      }

  pub all_brought : (parts : List Piece) (content : List ℕ) (now : Now) (answers : List RpcAnswer) (end : Program)
      → after (Some (reading_data object storing parts content now onward)) answers ≡ Some end → is_past end ≡ true
      → Brought parts content now answers
  all_brought [] content now answers end e past = record {
    replies = [];
    rest = answers;
    are = refl;
    lengths = refl;
    comes = ap (λ (bytes : List ℕ). Some (onward bytes now)) (sym (append-nil content));
  }
  all_brought (piece ∷ others) content now [] end e past =
      let bad : false ≡ true =
      asked (FsRead object.fd (offset_of piece.start) piece.len) [] now (behind_piece piece others content now) end e past in
      absurd cc
  all_brought (piece ∷ others) content now (answer ∷ answers) end e past =
      let on = went_on (FsRead object.fd (offset_of piece.start) piece.len) [] now (behind_piece piece others content now)
      answer answers end e past in
      by on.reply on.is on.good (is_whole on.reply piece.len) refl on.rest
      (all_brought others (content ++ on.reply.bytes) (storing now piece.start on.reply.bytes) answers end)
    where
      by : (reply : RpcReply) → answer ≡ Replied reply → (reply.ret == 0) ≡ true → (test : Bool) → is_whole reply piece.len ≡ test
          → after (Some (if test
          then reading_data object storing others (content ++ reply.bytes) (storing now piece.start reply.bytes) onward
          else fails 0xf0100001 now)) answers ≡ Some end
          → (after (Some (reading_data object storing others (content ++ reply.bytes) (storing now piece.start reply.bytes) onward)) answers
          ≡ Some end → is_past end ≡ true → Brought others (content ++ reply.bytes) (storing now piece.start reply.bytes) answers)
          → Brought (piece ∷ others) content now (answer ∷ answers)
      by reply is good true whole e later = one_more piece others content now answer answers reply is good whole (later e past)
      by reply is good false short e later = absurd (failed 0xf0100001 now answers end refl e past)

-- ---- the tag

brought_tag : (reply : RpcReply) (tag : List ℕ) → brings reply tag ≡ true → reply.bytes ≡ tag
brought_tag reply tag brought =
    (bytes_eq-Decides reply.bytes tag).0 (and_parts (is_whole reply 32) (bytes_eq reply.bytes tag) brought).1

module _ (object : Handle) (tag : List ℕ) (now : Now) (onward : Program) where
  -- a reply has brought it, and behind that the call goes on
  pub record Checked (answers : List RpcAnswer) : Type 0 where
    pub last : RpcReply
    pub rest : List RpcAnswer
    pub are : answers ≡ Replied last ∷ rest
    pub brought : last.bytes ≡ tag
    pub comes : after (Some (checking object tag now onward)) (Replied last ∷ []) ≡ Some onward

  pub checked : (answers : List RpcAnswer) (end : Program)
      → after (Some (checking object tag now onward)) answers ≡ Some end → is_past end ≡ true → Checked answers
  checked [] end e past =
      let bad : false ≡ true =
      asked (FsRead object.fd (tag_offset object.length) 32) [] now (λ reply. if_brought reply tag now onward) end e past in
      absurd cc
  checked (answer ∷ answers) end e past =
      let on = went_on (FsRead object.fd (tag_offset object.length) 32) [] now (λ reply. if_brought reply tag now onward)
      answer answers end e past in
      by on.reply on.is on.good (brings on.reply tag) refl on.rest
    where
      by : (reply : RpcReply) → answer ≡ Replied reply → (reply.ret == 0) ≡ true → (test : Bool) → brings reply tag ≡ test
          → after (Some (if test then onward else fails 0xf0100001 now)) answers ≡ Some end → Checked (answer ∷ answers)
      by reply is good true brought e = record {
        last = reply;
        rest = answers;
        are = ap (λ (a : RpcAnswer). a ∷ answers) is;
        brought = brought_tag reply tag brought;
        comes = goes_on (FsRead object.fd (tag_offset object.length) 32) [] now (λ reply. if_brought reply tag now onward) [] onward reply good
            (ap (λ (test : Bool). Some (if test then onward else fails 0xf0100001 now)) brought);
      }
      by reply is good false other e = absurd (failed 0xf0100001 now answers end refl e past)

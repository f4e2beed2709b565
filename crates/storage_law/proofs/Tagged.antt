-- What was brought to a call that goes on behind all the data of an object and then their tag.
use Rattle.std.proofs.Common.{◌≡◌, ℕ, true, List, [], ◌∷◌, ◌++◌, length, map, Option, Some, refl, ap, sym, ◌∙◌, append_assoc}
use Rattle.std.proofs.lemmas.List.{map-append}
use Rattle.rpc_msgs.specs.Answer.{RpcAnswer, Replied}
use Rattle.rpc_msgs.specs.declared.rpc.RpcReply.{RpcReply}
use Rattle.tee_storage.specs.declared.handle.Handle.{Handle}
use Rattle.tee_storage.specs.KeptData.{Storing, reading_data}
use Rattle.tee_storage.specs.ObjectFiles.{pieces}
use Rattle.tee_storage.specs.Program.{Now, Program, after}
use Rattle.tee_storage.specs.Tags.{checking, kept_tag}
use Rattle.storage_law.specs.Laws.{BringWithTag, data_in}
use Rattle.storage_law.proofs.Data.{all_brought, all_pieces, checked, stored}
use Rattle.storage_law.proofs.GoingOn.{after-append, is_past}

-- replies with data and one with a tag, and others behind them
in_order : (answers : List RpcAnswer) (replies : List RpcReply) (last : RpcReply) (rest later : List RpcAnswer)
    → answers ≡ map Replied replies ++ rest → rest ≡ Replied last ∷ later → answers ≡ map Replied (replies ++ last ∷ []) ++ later
in_order answers replies last rest later are is =
    are ∙ ap (λ (l : List RpcAnswer). map Replied replies ++ l) is
    ∙ sym (append_assoc (map Replied replies) (Replied last ∷ []) later)
    ∙ ap (λ (l : List RpcAnswer). l ++ later) (sym (map-append Replied replies (last ∷ [])))

-- behind some answers a program has come to another: what that comes to behind the others
pub onward_from : (program next end : Program) (answers first later : List RpcAnswer) → answers ≡ first ++ later
    → after (Some program) first ≡ Some next → after (Some program) answers ≡ Some end → after (Some next) later ≡ Some end
onward_from program next end answers first later are comes e =
    ap (λ (left : Option Program). after left later) (sym comes)
    ∙ sym (after-append (Some program) first later)
    ∙ ap (λ (l : List RpcAnswer). after (Some program) l) (sym are)
    ∙ e

-- and the other way round
pub onward_with : (program next end : Program) (first later : List RpcAnswer)
    → after (Some program) first ≡ Some next → after (Some next) later ≡ Some end → after (Some program) (first ++ later) ≡ Some end
onward_with program next end first later comes e =
    after-append (Some program) first later ∙ ap (λ (left : Option Program). after left later) comes ∙ e

module _ (key : List ℕ) (object : Handle) (storing : Storing) (now : Now) (onward next : List ℕ → Now → Program) where
  -- data and their tag were brought first, and behind them the call goes on to this
  pub record GoneOn (answers : List RpcAnswer) : Type 0 where
    pub replies : List RpcReply
    pub last : RpcReply
    pub later : List RpcAnswer
    pub are : answers ≡ map Replied (replies ++ last ∷ []) ++ later
    pub all : length (data_in replies) ≡ object.length
    pub tag : last.bytes ≡ kept_tag key object (data_in replies)
    pub comes : after (Some (reading_data object storing (pieces object.length) [] now onward)) (map Replied (replies ++ last ∷ []))
        ≡ Some (next (data_in replies) (stored storing (pieces object.length) replies now))

  pub gone_on : (answers : List RpcAnswer) (end : Program)
      → ((content : List ℕ) (then : Now) → onward content then ≡ checking object (kept_tag key object content) then (next content then))
      → after (Some (reading_data object storing (pieces object.length) [] now onward)) answers ≡ Some end → is_past end ≡ true
      → GoneOn answers
  gone_on answers end checks e past =
      let program = reading_data object storing (pieces object.length) [] now onward in
      let brought = all_brought object storing onward (pieces object.length) [] now answers end e past in
      let content = data_in brought.replies in
      let then = stored storing (pieces object.length) brought.replies now in
      let check = checking object (kept_tag key object content) then (next content then) in
      let to_check : after (Some program) (map Replied brought.replies) ≡ Some check = brought.comes ∙ ap Some (checks content then) in
      let tag = checked object (kept_tag key object content) then (next content then) brought.rest end
      (onward_from program check end answers (map Replied brought.replies) brought.rest brought.are to_check e) past in
      record {
        replies = brought.replies;
        last = tag.last;
        later = tag.rest;
        are = in_order answers brought.replies tag.last brought.rest tag.rest brought.are tag.are;
        all = brought.lengths ∙ all_pieces object.length;
        tag = tag.brought;
        comes = ap (λ (l : List RpcAnswer). after (Some program) l) (map-append Replied brought.replies (tag.last ∷ []))
            ∙ onward_with program check (next content then) (map Replied brought.replies) (Replied tag.last ∷ []) to_check tag.comes;
      }

-- what was brought first
pub first_brought : (key : List ℕ) (object : Handle) (replies : List RpcReply) (last : RpcReply)
    → length (data_in replies) ≡ object.length → last.bytes ≡ kept_tag key object (data_in replies)
    → BringWithTag key object (data_in replies) (map Replied (replies ++ last ∷ []))
first_brought key object replies last all tag =
    record { pieces = replies; last = last; are = refl; content_is = refl; all = all; tag = tag }

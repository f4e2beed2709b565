-- What a write asks to be written, and what it has asked for where it has ended.
use Rattle.std.proofs.Common.{◌≡◌, ℕ, ◌+◌, ◌≤◌, Bool, true, false, List, [], ◌∷◌, ◌++◌, Some, refl, ap, sym, ◌∙◌, arith}
use Rattle.std.specs.Prelude.{◌||◌, nat_lt, not, if◌then◌else◌}
use Rattle.rpc_msgs.specs.Answer.{RpcAnswer, Replied}
use Rattle.rpc_msgs.specs.declared.rpc.Rpc.{Rpc}
use Rattle.rpc_msgs.specs.declared.rpc.Rpc.TheVariants.{FsWrite}
use Rattle.rpc_msgs.specs.declared.rpc.RpcReply.{RpcReply}
use Rattle.tee_storage.specs.declared.handle.Handle.{Handle}
use Rattle.tee_storage.specs.declared.step.StorageStep.{StorageStep}
use Rattle.tee_storage.specs.declared.step.StorageStep.TheVariants.{Ask, Done}
use Rattle.tee_storage.specs.ObjectCalls.{shown}
use Rattle.tee_storage.specs.ObjectFiles.{Piece, bytes_of, header, offset_of}
use Rattle.tee_storage.specs.OpenObjects.{new_length, with_object, writing, writing_header, writing_tag, written, written_to}
use Rattle.tee_storage.specs.Program.{Now, Program, after}
use Rattle.tee_storage.specs.Replies.{asks}
use Rattle.tee_storage.specs.Tags.{is_tagged, tag_offset}
use Rattle.storage_law.proofs.Data.{BeginBefore}
use Rattle.storage_law.proofs.GoingOn.{ended, goes_on, is_past, is_past_at, same_some, went_on}

-- it asks for these bytes to be written there
abbrev AsksToWrite : Program → ℕ → ℕ → ℕ → List ℕ → Type 0
AsksToWrite end fd offset count payload = (shown end).step ≡ Ask (FsWrite fd offset count) payload

-- where it has had no answer it asks for what it asked for
unanswered : (rpc : Rpc) (bytes : List ℕ) (now : Now) (onward : RpcReply → Program) (end : Program) (step : StorageStep)
    → after (Some (asks rpc bytes now onward)) [] ≡ Some end → (shown end).step ≡ step → Ask rpc bytes ≡ step
unanswered rpc bytes now onward end step e at =
    ap (λ (p : Program). (shown p).step) (same_some (asks rpc bytes now onward) end e) ∙ at

module _ (handle : ℕ) (object : Handle) (len : ℕ) (tag : List ℕ) where
  -- ---- what it asks for

  module _ (fd offset count : ℕ) (payload : List ℕ) where
    -- where all is written nothing more is asked for
    not_written : (now : Now) (answers : List RpcAnswer) (end : Program)
        → after (Some (written handle object len now)) answers ≡ Some end → AsksToWrite end fd offset count payload → ⊥
    not_written now answers end e at =
        let stopped = ended (Done 0 0) (with_object now handle (written_to object len)) answers end e in
        let step : Done 0 0 ≡ Ask (FsWrite fd offset count) payload = ap (λ (p : Program). (shown p).step) (sym stopped.is) ∙ at in
        absurd cc

    past : (end : Program) → AsksToWrite end fd offset count payload → is_past end ≡ true
    past end at = ap is_past_at at

    -- the header stands before the data
    not_header : (now : Now) (answers : List RpcAnswer) (end : Program)
        → after (Some (writing_header handle object len now)) answers ≡ Some end → AsksToWrite end fd offset count payload
        → tag_offset (new_length object len) ≤ offset → ⊥
    not_header now answers end e at behind = by (nat_lt object.length (object.position + len) || not (is_tagged object)) answers e
      where
        by : (test : Bool) (answers : List RpcAnswer)
            → after (Some (if test then asks (FsWrite object.fd 0 8) (header (new_length object len)) now (λ reply. written handle object len now)
            else written handle object len now)) answers ≡ Some end → ⊥
        by true [] e =
            let same = unanswered (FsWrite object.fd 0 8) (header (new_length object len)) now _ end _ e at in
            let place : 0 ≡ offset = cc in
            absurd (omega (arith, place, behind))
        by true (answer ∷ answers) e =
            let on = went_on (FsWrite object.fd 0 8) (header (new_length object len)) now _ answer answers end e (past end at) in
            not_written now answers end on.rest at
        by false answers e = not_written now answers end e at

    -- the tag
    pub tag_asked : (now : Now) (answers : List RpcAnswer) (end : Program)
        → after (Some (writing_tag handle object len tag now)) answers ≡ Some end → AsksToWrite end fd offset count payload
        → tag_offset (new_length object len) ≤ offset → payload ≡ tag
    tag_asked now [] end e at behind =
        let same = unanswered (FsWrite object.fd (tag_offset (new_length object len)) 32) tag now _ end _ e at in
        cc
    tag_asked now (answer ∷ answers) end e at behind =
        let on = went_on (FsWrite object.fd (tag_offset (new_length object len)) 32) tag now _ answer answers end e (past end at) in
        absurd (not_header now answers end on.rest at behind)

    -- the bytes stand before it
    pub behind_the_data : (parts : List Piece) (now : Now) (answers : List RpcAnswer) (end : Program)
        → BeginBefore len parts → after (Some (writing handle object len tag parts now)) answers ≡ Some end
        → AsksToWrite end fd offset count payload → tag_offset (new_length object len) ≤ offset → payload ≡ tag
    behind_the_data [] now answers end few e at behind = tag_asked now answers end e at behind
    behind_the_data (piece ∷ others) now [] end few e at behind =
        let same = unanswered (FsWrite object.fd (offset_of (object.position + piece.start)) piece.len) (bytes_of now.range piece) now _ end _ e at in
        let place : offset_of (object.position + piece.start) ≡ offset = cc in
        let before = few.0 in
        absurd (omega (arith, place, behind, before))
    behind_the_data (piece ∷ others) now (answer ∷ answers) end few e at behind =
        let on = went_on (FsWrite object.fd (offset_of (object.position + piece.start)) piece.len) (bytes_of now.range piece) now _
        answer answers end e (past end at) in
        behind_the_data others now answers end few.1 on.rest at behind

  -- ---- what it has asked for

  -- the tag, behind some of these answers
  pub record AskedForTheTag (program : Program) (answers : List RpcAnswer) : Type 0 where
    pub before : List RpcAnswer
    pub later : List RpcAnswer
    pub end : Program
    pub are : answers ≡ before ++ later
    pub goes : after (Some program) before ≡ Some end
    pub at : (shown end).step ≡ Ask (FsWrite object.fd (tag_offset (new_length object len)) 32) tag

  pub ends_behind_the_tag : (parts : List Piece) (now : Now) (answers : List RpcAnswer) (end : Program) (value : ℕ)
      → after (Some (writing handle object len tag parts now)) answers ≡ Some end → (shown end).step ≡ Done 0 value
      → AskedForTheTag (writing handle object len tag parts now) answers
  ends_behind_the_tag [] now answers end value e at = record {
    before = [];
    later = answers;
    end = writing_tag handle object len tag now;
    are = refl;
    goes = refl;
    at = refl;
  }
  ends_behind_the_tag (piece ∷ others) now [] end value e at =
      let same = unanswered (FsWrite object.fd (offset_of (object.position + piece.start)) piece.len) (bytes_of now.range piece) now _ end _ e at in
      absurd cc
  ends_behind_the_tag (piece ∷ others) now (answer ∷ answers) end value e at =
      let rpc = FsWrite object.fd (offset_of (object.position + piece.start)) piece.len in
      let on = went_on rpc (bytes_of now.range piece) now (λ reply. writing handle object len tag others now) answer answers end e (ap is_past_at at) in
      let more = ends_behind_the_tag others now answers end value on.rest at in
      record {
        before = Replied on.reply ∷ more.before;
        later = more.later;
        end = more.end;
        are = cc (on.is, more.are);
        goes = goes_on rpc (bytes_of now.range piece) now (λ reply. writing handle object len tag others now) more.before more.end on.reply on.good more.goes;
        at = more.at;
      }

-- A write to an object whose file has a tag.
use Rattle.std.proofs.Common.{◌≡◌, ℕ, ◌+◌, ◌<◌, Bool, true, false, List, [], ◌∷◌, ◌++◌, map, Option, Some, refl, ap, sym, ◌∙◌, arith, append_assoc}
use Rattle.std.specs.Prelude.{◌==◌, nat_lt, if◌then◌else◌}
use Rattle.std.specs.Option.{option_map}
use Rattle.std.proofs.lemmas.Bool.{eqb-true}
use Rattle.base.specs.NumberMap.{get}
use Rattle.rpc_msgs.specs.Answer.{RpcAnswer, Replied}
use Rattle.rpc_msgs.specs.declared.rpc.Rpc.{Rpc}
use Rattle.rpc_msgs.specs.declared.rpc.Rpc.TheVariants.{FsWrite}
use Rattle.ta_params.specs.declared.object_call.ObjectCall.TheVariants.{Write}
use Rattle.tee_storage.specs.declared.handle.Handle.{Handle}
use Rattle.tee_storage.specs.declared.step.StorageStep.{StorageStep}
use Rattle.tee_storage.specs.declared.step.StorageStep.TheVariants.{Ask, Done}
use Rattle.tee_storage.specs.KeptData.{reading_data, storing_none}
use Rattle.tee_storage.specs.ObjectCalls.{left_of, shown}
use Rattle.tee_storage.specs.ObjectFiles.{pieces}
use Rattle.tee_storage.specs.OpenObjects.{on_found, write_checked, write_some, writing_over}
use Rattle.tee_storage.specs.Program.{Now, Program, after, ends_with, fails, now_at}
use Rattle.tee_storage.specs.Tags.{checking, is_tagged, kept_tag}
use Rattle.storage_law.specs.Laws.{Access, BeginWithTag, IsOfTagged, WritesThatEndWellHaveTagged, WritesWaitForTheTag, WrittenTagsAreOfTheNewData, data_in, step_of, tag_after, write_step}
use Rattle.storage_law.proofs.Data.{none_stored, pieces_begin_before}
use Rattle.storage_law.proofs.GoingOn.{ended, failed, is_past, is_past_at}
use Rattle.storage_law.proofs.Steps.{left_at}
use Rattle.storage_law.proofs.Tagged.{first_brought, gone_on, onward_from, onward_with}
use Rattle.storage_law.proofs.Writing.{behind_the_data, ends_behind_the_tag}

abbrev now_of : Access → Now
now_of at = now_at at.range at.objects

-- the write at its beginning
abbrev write_of : Access → Handle → Program
write_of at object =
    if nat_lt 32768 (object.position + at.len) then fails 0xffff0006 (now_of at) else write_some at.key at.handle object at.len (now_of at)

-- what it writes, behind these old data
abbrev writing_of : Access → Handle → List ℕ → Program
writing_of at object content = writing_over at.key at.handle object at.len content (now_of at)

-- data and tag were brought, and behind them it goes on to write
pub record WroteOn (at : Access) (object : Handle) (answers : List RpcAnswer) : Type 0 where
  pub content : List ℕ
  pub begin : BeginWithTag at.key object content answers
  pub comes : after (Some (write_of at object)) begin.first ≡ Some (writing_of at object content)

module _ (at : Access) (object : Handle) (answers : List RpcAnswer) (end : Program) (tagged : is_tagged object ≡ true) (past : is_past end ≡ true) where
  abbrev data_first : Program
  data_first = reading_data object storing_none (pieces object.length) [] (now_of at)
      (write_checked at.key at.handle object at.len)

  checks : (content : List ℕ) (stage : Now) → write_checked at.key at.handle object at.len content stage
      ≡ checking object (kept_tag at.key object content) stage (writing_over at.key at.handle object at.len content stage)
  checks content stage =
      ap (λ (test : Bool). let onward = writing_over at.key at.handle object at.len content stage in
      if test then checking object (kept_tag at.key object content) stage onward else onward) tagged

  wrote_data : write_of at object ≡ data_first → after (Some data_first) answers ≡ Some end → WroteOn at object answers
  wrote_data is e =
      let now = now_of at in
      let next = writing_over at.key at.handle object at.len in
      let gone = gone_on at.key object storing_none now (write_checked at.key at.handle object at.len) next answers end checks e past in
      let content = data_in gone.replies in
      let first = map Replied (gone.replies ++ gone.last ∷ []) in
      record {
        content = content;
        begin = record {
          first = first;
          later = gone.later;
          are = gone.are;
          bring = first_brought at.key object gone.replies gone.last gone.all gone.tag;
        };
        comes = ap (λ (p : Program). after (Some p) first) is ∙ gone.comes
            ∙ ap (λ (stage : Now). Some (next content stage)) (none_stored (pieces object.length) gone.replies now);
      }

  wrote_on : (((at.len == 0) ≡ true) → (shown end).step ≡ Done 0 0 → ⊥) → after (Some (write_of at object)) answers ≡ Some end
      → WroteOn at object answers
  wrote_on some e = by (nat_lt 32768 (object.position + at.len)) refl e
    where
      within : (test : Bool) → (at.len == 0) ≡ test → write_of at object ≡ write_some at.key at.handle object at.len (now_of at)
          → after (Some (if test then ends_with 0 (now_of at) else data_first)) answers ≡ Some end → WroteOn at object answers
      within true none is e =
          let stopped = ended (Done 0 0) (now_of at) answers end e in
          absurd (some none (ap (λ (p : Program). (shown p).step) stopped.is))
      within false bytes is e =
          wrote_data (is ∙ ap (λ (test : Bool). if test then ends_with 0 (now_of at) else data_first) bytes) e

      by : (test : Bool) → nat_lt 32768 (object.position + at.len) ≡ test
          → after (Some (if test then fails 0xffff0006 (now_of at) else write_some at.key at.handle object at.len (now_of at))) answers ≡ Some end
          → WroteOn at object answers
      by true much e = absurd (failed 0xffff0006 (now_of at) answers end refl e past)
      by false few e = within (at.len == 0) refl
          (ap (λ (test : Bool). if test then fails 0xffff0006 (now_of at) else write_some at.key at.handle object at.len (now_of at)) few) e

-- what is left of a write of this object
abbrev left_of_write : Access → List RpcAnswer → Option Program
left_of_write at answers = left_of (Write at.handle at.addr at.len) at.uuid at.key at.range at.objects answers

is_on_object : (at : Access) (object : Handle) (answers : List RpcAnswer) → get at.objects at.handle ≡ Some object
    → left_of_write at answers ≡ after (Some (write_of at object)) answers
is_on_object at object answers there =
    let now = now_of at in
    ap (λ (o : Option Handle). after (Some (on_found o now (λ (object : Handle).
    if nat_lt 32768 (object.position + at.len) then fails 0xffff0006 now else write_some at.key at.handle object at.len now))) answers) there

-- ---- what it asks to be written

-- a write that asks for that is one of some bytes, and has come to it behind data and tag
pub record AskedOn (at : Access) (object : Handle) (answers : List RpcAnswer) (step : StorageStep) : Type 0 where
  pub end : Program
  pub wrote : WroteOn at object answers
  pub goes : after (Some (writing_of at object wrote.content)) wrote.begin.later ≡ Some end
  pub comes_to : (shown end).step ≡ step

asked_on : (at : Access) (object : Handle) (answers : List RpcAnswer) (step : StorageStep) → IsOfTagged at object
    → is_past_at step ≡ true → ((at.len == 0) ≡ true → step ≡ Done 0 0 → ⊥) → write_step at answers ≡ Some step
    → AskedOn at object answers step
asked_on at object answers step of past some e =
    let left = left_at (left_of_write at answers) step e in
    let goes : after (Some (write_of at object)) answers ≡ Some left.end = sym (is_on_object at object answers of.found) ∙ left.is in
    let wrote = wrote_on at object answers left.end of.tagged (ap is_past_at left.at ∙ past) (λ none is. some none (sym left.at ∙ is)) goes in
    record {
      end = left.end;
      wrote = wrote;
      goes = onward_from (write_of at object) (writing_of at object wrote.content) left.end answers wrote.begin.first wrote.begin.later
          wrote.begin.are wrote.comes goes;
      comes_to = left.at;
    }

never_ends : (rpc : Rpc) (payload : List ℕ) → Ask rpc payload ≡ Done 0 0 → ⊥
never_ends rpc payload e = absurd cc

pub waits : WritesWaitForTheTag
waits at object answers fd offset count payload of e =
    let on = asked_on at object answers (Ask (FsWrite fd offset count) payload) of refl (λ none. never_ends (FsWrite fd offset count) payload) e in
    (on.wrote.content, on.wrote.begin)

pub tags_new_data : WrittenTagsAreOfTheNewData
tags_new_data at object answers fd offset count payload of e behind =
    let on = asked_on at object answers (Ask (FsWrite fd offset count) payload) of refl (λ none. never_ends (FsWrite fd offset count) payload) e in
    let content = on.wrote.content in (
      content,
      on.wrote.begin,
      behind_the_data at.handle object at.len (tag_after at object content) fd offset count payload (pieces at.len)
          (now_of at) on.wrote.begin.later on.end (pieces_begin_before at.len) on.goes on.comes_to behind,
    )

-- ---- what it has asked for

pub has_tagged : WritesThatEndWellHaveTagged
has_tagged at object answers count of e some =
    let on = asked_on at object answers (Done 0 count) of refl (λ none is. zero_len at.len none some) e in
    let content = on.wrote.content in
    let now = now_of at in
    let tag = tag_after at object content in
    let asks = ends_behind_the_tag at.handle object at.len tag (pieces at.len) now on.wrote.begin.later on.end count on.goes on.comes_to in
    let first = on.wrote.begin.first in
    let comes : after (Some (write_of at object)) (first ++ asks.before) ≡ Some asks.end =
    onward_with (write_of at object) (writing_of at object content) asks.end first asks.before on.wrote.comes asks.goes in (
      content,
      on.wrote.begin,
      record {
        before = first ++ asks.before;
        later = asks.later;
        are = on.wrote.begin.are ∙ ap (λ (l : List RpcAnswer). first ++ l) asks.are ∙ sym (append_assoc first asks.before asks.later);
        asked = ap (λ (left : Option Program). step_of (option_map shown left)) (is_on_object at object (first ++ asks.before) of.found ∙ comes)
            ∙ ap Some asks.at;
      },
    )
  where
    zero_len : (len : ℕ) → (len == 0) ≡ true → 0 < len → ⊥
    zero_len len none some = let is = eqb-true len 0 none in absurd (omega (arith, is))

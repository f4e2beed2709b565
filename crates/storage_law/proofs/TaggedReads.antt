-- A read of some bytes of an object whose file has a tag.
use Rattle.std.proofs.Common.{◌≡◌, ℕ, ◌<◌, Bool, true, false, nat_lt, List, [], ◌∷◌, ◌++◌, map, Option, Some, refl, ap, sym, ◌∙◌, subst, arith, inl, inr, append-nil}
use Rattle.std.specs.Prelude.{◌&&◌, if◌then◌else◌}
use Rattle.std.proofs.lemmas.Bool.{and_cases, ltb-false}
use Rattle.rpc_msgs.specs.Answer.{RpcAnswer, Replied}
use Rattle.ta_params.specs.declared.object_call.ObjectCall.TheVariants.{Read}
use Rattle.tee_storage.specs.declared.handle.Handle.{Handle}
use Rattle.tee_storage.specs.declared.step.StorageStep.TheVariants.{Done}
use Rattle.tee_storage.specs.ObjectCalls.{left_of, shown}
use Rattle.tee_storage.specs.ObjectFiles.{pieces}
use Rattle.tee_storage.specs.OpenObjects.{all_read, on_found, read_checked, read_some, readable, reading, reading_checked, read_to, storing_read, with_object}
use Rattle.tee_storage.specs.Program.{Now, Program, after, now_at}
use Rattle.tee_storage.specs.Tags.{is_tagged}
use Rattle.storage_law.specs.Laws.{BringWithTag, ReadsEndBehindTheirTag, data_in}
use Rattle.storage_law.proofs.Data.{stored}
use Rattle.storage_law.proofs.GoingOn.{ended, is_past, is_past_at}
use Rattle.storage_law.proofs.Steps.{left_at}
use Rattle.storage_law.proofs.Tagged.{first_brought, gone_on, onward_from}

-- all was read, and no answer is left
pub record IsReadWhole (count : ℕ) (answers : List RpcAnswer) (value : ℕ) : Type 0 where
  pub none : answers ≡ []
  pub value_is : value ≡ count

read_whole : (handle : ℕ) (object : Handle) (count : ℕ) (now : Now) (answers : List RpcAnswer) (end : Program) (value : ℕ)
    → after (Some (all_read handle object count now)) answers ≡ Some end → (shown end).step ≡ Done 0 value
    → IsReadWhole count answers value
read_whole handle object count now answers end value e at =
    let stopped = ended (Done 0 count) (with_object now handle (read_to object count)) answers end e in
    let step : Done 0 count ≡ Done 0 value = ap (λ (p : Program). (shown p).step) (sym stopped.is) ∙ at in
    record { none = stopped.none; value_is = cc }

-- it has ended with SUCCESS
well : (end : Program) (value : ℕ) → (shown end).step ≡ Done 0 value → is_past end ≡ true
well end value at = ap is_past_at at

module _ (key : List ℕ) (handle : ℕ) (object : Handle) (now : Now) (answers : List RpcAnswer) (end : Program) (value : ℕ) where
  -- all the data are read, and then the tag
  checked_read : (count : ℕ) → after (Some (reading_checked key handle object count now)) answers ≡ Some end
      → (shown end).step ≡ Done 0 value → (content : List ℕ) × BringWithTag key object content answers
  checked_read count e at =
      let gone = gone_on key object (storing_read object count) now (read_checked key handle object count)
      (λ content stage. all_read handle object count stage) answers end (λ content stage. refl) e (well end value at) in
      let stage = stored (storing_read object count) (pieces object.length) gone.replies now in
      let goes = onward_from (reading_checked key handle object count now) (all_read handle object count stage) end answers
      (map Replied (gone.replies ++ gone.last ∷ [])) gone.later gone.are gone.comes e in
      let whole = read_whole handle object count stage gone.later end value goes at in
      let replies = map Replied (gone.replies ++ gone.last ∷ []) in
      let are : answers ≡ replies =
      gone.are ∙ ap (λ (l : List RpcAnswer). replies ++ l) whole.none ∙ append-nil replies in (
        data_in gone.replies,
        subst (λ (l : List RpcAnswer). BringWithTag key object (data_in gone.replies) l) (sym are)
            (first_brought key object gone.replies gone.last gone.all gone.tag),
      )

  -- where no bytes are left none are read
  none_read : (count : ℕ) → count ≡ 0 → after (Some (reading handle object count (pieces count) now)) answers ≡ Some end
      → (shown end).step ≡ Done 0 value → 0 < value → ⊥
  none_read count none e at some =
      let nothing : after (Some (all_read handle object 0 now)) answers ≡ Some end =
      subst (λ (n : ℕ). after (Some (reading handle object n (pieces n) now)) answers ≡ Some end) none e in
      let whole = read_whole handle object 0 now answers end value nothing at in
      let is = whole.value_is in
      absurd (omega (arith, is))

  some_read : (count : ℕ) → is_tagged object ≡ true → after (Some (read_some key handle object count now)) answers ≡ Some end
      → (shown end).step ≡ Done 0 value → 0 < value → (content : List ℕ) × BringWithTag key object content answers
  some_read count tagged e at some = by (is_tagged object && nat_lt 0 count) refl e
    where
      no_bytes : (is_tagged object && nat_lt 0 count) ≡ false → count ≡ 0
      no_bytes none = elim (and_cases (is_tagged object) (nat_lt 0 count) none) [
        | inl untagged ↦ absurd cc
        | inr few ↦ let le = ltb-false 0 count few in omega (arith, le)
      ]

      by : (test : Bool) → (is_tagged object && nat_lt 0 count) ≡ test
          → after (Some (if test then reading_checked key handle object count now else reading handle object count (pieces count) now)) answers
          ≡ Some end
          → (content : List ℕ) × BringWithTag key object content answers
      by true is e = checked_read count e at
      by false is e = absurd (none_read count (no_bytes is) e at some)

pub law : ReadsEndBehindTheirTag
law at object answers count of e some =
    let now = now_at at.range at.objects in
    let left = left_at (left_of (Read at.handle at.addr at.len) at.uuid at.key at.range at.objects answers) (Done 0 count) e in
    let found : after (Some (read_some at.key at.handle object (readable object at.len) now)) answers ≡ Some left.end =
    ap (λ (o : Option Handle). after (Some (on_found o now (λ (object : Handle). read_some at.key at.handle object (readable object at.len) now))) answers)
    (sym of.found) ∙ left.is in
    some_read at.key at.handle object now answers left.end count (readable object at.len) of.tagged found left.at some

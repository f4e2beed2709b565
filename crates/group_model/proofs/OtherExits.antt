-- A slot without a number changes to one that holds no call of the group.
use Rattle.std.proofs.Common.{◌≡◌, ℕ, List, Option, Some, None, ap, subst}
use Rattle.std.proofs.Common.{◌∙◌}
use Rattle.std.specs.Prelude.{slice_get, slice_set}
use Rattle.std.specs.Option.{option_and_then, option_map}
use Rattle.std.proofs.lemmas.Option.{option_and_then_some}
use Rattle.base.specs.NumberMap.{get}
use Rattle.kernel_model.specs.Kernel.{PendingCall}
use Rattle.kernel_model.specs.Kernel.{ThreadSlot}
use Rattle.kernel_model.specs.Sound.{unmarked}
use Rattle.kernel_model.proofs.Parts.{set_other}
use Rattle.own_model.proofs.Maps.{set_either}
use Rattle.own_model.proofs.OwnTaken.{numbered_apart}
use Rattle.own_model.specs.Tied.{call_in}
use Rattle.group_model.specs.Tied.{AreOthers, IsOther, Names}
use Rattle.group_model.proofs.Kept.{KeepsSlots}

-- ---- the slot that it leaves

-- what is in a slot, if anything, is another's
abbrev pub HoldsOther : Names → ThreadSlot → Type 0
HoldsOther names held = (call : PendingCall) → call_in held ≡ Some call → IsOther names.sessions names.instances call

pub held_other : (names : Names) (found call : PendingCall) → Some found ≡ Some call
    → IsOther names.sessions names.instances found → IsOther names.sessions names.instances call
held_other names found call e other =
    let same : found ≡ call = cc in subst (λ (c : PendingCall). IsOther names.sessions names.instances c) same other

-- a slot without a number changes to one that holds no call of the group
pub slot_keeps : (names : Names) (slots : List ThreadSlot) (slot : ℕ) (held : ThreadSlot)
    → get names.numbering.in_slots slot ≡ None → HoldsOther names held
    → AreOthers names.sessions names.instances names.numbering.in_slots slots
    → KeepsSlots names slots (slice_set slots slot held)
slot_keeps names slots slot held none holds others = record {
  calls = λ at number has.
      ap (λ (o : Option ThreadSlot). option_map unmarked (option_and_then call_in o))
      (set_other slots slot at held (numbered_apart names.numbering.in_slots slot at number none has));
  others = λ at call found without.
      option_and_then_some call_in (slice_get (slice_set slots slot held) at) call found
      (λ there is_there in_it.
      set_either slots slot at held (Some there) is_there
      (λ same. let it : held ≡ there = cc in holds call (ap call_in it ∙ in_it))
      (λ was. others at call (ap (λ (o : Option ThreadSlot). option_and_then call_in o) was ∙ in_it) without));
}

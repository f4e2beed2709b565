-- The numbered calls stay the machine's where slots change that hold no call of the group.
use Rattle.std.proofs.Common.{◌≡◌, ℕ, List, Option, ap, ◌∙◌}
use Rattle.std.specs.Option.{option_map}
use Rattle.base.specs.NumberMap.{NumberMap, get}
use Rattle.kernel_model.specs.Kernel.{PendingCall, ThreadSlot}
use Rattle.kernel_model.specs.Sound.{unmarked}
use Rattle.own_model.proofs.Marks.{there_but_marked}
use Rattle.own_model.specs.Own.{Numbering}
use Rattle.own_model.specs.Tied.{call_at}
use Rattle.group_model.specs.Line.{AreTiedCalls, HasNumber}
use Rattle.group_model.specs.Tied.{AreOthers, Names}
use Rattle.group_model.proofs.Lines.{SameMarked}

-- the numbered calls are as they were, but for their marks, and all others are neither in a session nor on an instance of
-- the group
pub record KeepsSlots (names : Names) (before after : List ThreadSlot) : Type 0 where
  pub calls : (slot number : ℕ) → HasNumber names.numbering slot number →
      option_map unmarked (call_at after slot) ≡ option_map unmarked (call_at before slot)
  pub others : AreOthers names.sessions names.instances names.numbering.in_slots after

-- whatever the machine's calls are
pub calls_kept : (C : Type 0) (Alike : Option ℕ → PendingCall → C → Type 0) (numbering : Numbering)
    (before after : List ThreadSlot) (calls : NumberMap C) → SameMarked C Alike
    → ((slot number : ℕ) → HasNumber numbering slot number
    → option_map unmarked (call_at after slot) ≡ option_map unmarked (call_at before slot))
    → AreTiedCalls Alike numbering before calls → AreTiedCalls Alike numbering after calls
calls_kept C Alike numbering before after calls marked same tied = record {
  own = λ slot number has.
      let was = tied.own slot number has in
      let found = there_but_marked (call_at after slot) was.call
      (same slot number has ∙ ap (λ (o : Option PendingCall). option_map unmarked o) was.in_slot) in
      record {
        call = found.0;
        own = was.own;
        in_slot = found.1;
        of_number = was.of_number;
        given = was.given;
        alike = marked (get numbering.wakes slot) was.call found.0 was.own found.2 was.alike;
      };
  apart = tied.apart;
  all = tied.all;
}

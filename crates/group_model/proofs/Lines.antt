-- A call takes a free slot and gets the next number: a machine with that call more is tied to the slots then.
use Rattle.std.proofs.Common.{◌≡◌, ℕ, ◌+◌, ◌<◌, List, Option, Some, None, ap, subst, sym, ◌∙◌, arith}
use Rattle.std.specs.Prelude.{slice_get, slice_set}
use Rattle.std.specs.Option.{option_map, option_and_then}
use Rattle.base.specs.NumberMap.{NumberMap, get, insert}
use Rattle.kernel_model.specs.Kernel.{Active, Cancel, Free, PendingCall, ThreadSlot, cancelled_slots}
use Rattle.kernel_model.specs.Sound.{unmarked}
use Rattle.kernel_model.proofs.Parts.{set_found, set_other}
use Rattle.own_model.proofs.Maps.{get-insert-other, get-insert-same, get-inserted}
use Rattle.own_model.proofs.OtherCalls.{less}
use Rattle.own_model.proofs.Marks.{cancels_mark}
use Rattle.own_model.proofs.Marks.{there_but_marked}
use Rattle.own_model.proofs.OwnTaken.{free_marked, numbered_apart}
use Rattle.own_model.specs.Own.{Numbering, next_in}
use Rattle.own_model.specs.Tied.{call_at, call_in}
use Rattle.group_model.specs.Line.{AreKept, AreTiedCalls, HasNumber, IsTiedCall}

-- the slots with a call that has taken this one
abbrev pub slots_with : List ThreadSlot → Option Cancel → ℕ → ℕ → PendingCall → List ThreadSlot
slots_with slots cancels slot cpu call = slice_set (cancelled_slots slots cancels) slot (Active cpu call)

-- the number of another slot stays
pub number_stays : (numbering : Numbering) (slot at number : ℕ) → get numbering.in_slots slot ≡ None
    → HasNumber numbering at number → HasNumber (next_in numbering slot) at number
number_stays numbering slot at number none has =
    get-insert-other numbering.in_slots slot numbering.entered at
    (numbered_apart numbering.in_slots slot at number none has) ∙ has

pub next_is_more : (n : ℕ) → n < n + 1
next_is_more n = omega arith

pub less_on : (m n : ℕ) → m < n → m < n + 1
less_on m n lt = omega arith

-- a mark, which other calls may set, makes no difference
abbrev pub SameMarked : (C : Type 0) → (Option ℕ → PendingCall → C → Type 0) → Type 0
SameMarked C Alike = (kept : Option ℕ) (call now : PendingCall) (own : C) → unmarked now ≡ unmarked call →
    Alike kept call own → Alike kept now own

-- the call that takes the slot, and the machine's
pub record Entrant {C : Type 0} (Alike : Option ℕ → PendingCall → C → Type 0) (numbering : Numbering)
    (slots : List ThreadSlot) (slot : ℕ) (call : PendingCall) (own : C) : Type 0 where
  pub free : slice_get slots slot ≡ Some Free
  pub none : get numbering.in_slots slot ≡ None
  pub alike : (kept : Option ℕ) → Alike kept call own

module _ (C : Type 0) (Alike : Option ℕ → PendingCall → C → Type 0) where
  entrant_there : (numbering : Numbering) (slots : List ThreadSlot) (cancels : Option Cancel) (slot cpu : ℕ)
      (calls : NumberMap C) (call : PendingCall) (own : C) → Entrant Alike numbering slots slot call own
      → IsTiedCall Alike (next_in numbering slot) (slots_with slots cancels slot cpu call)
      (insert calls numbering.entered own) slot numbering.entered
  entrant_there numbering slots cancels slot cpu calls call own e = record {
    call = call;
    own = own;
    in_slot = ap (λ (o : Option ThreadSlot). option_and_then call_in o)
        (set_found (cancelled_slots slots cancels) slot (Active cpu call) Free (free_marked slots cancels slot e.free));
    of_number = get-insert-same calls numbering.entered own;
    given = next_is_more numbering.entered;
    alike = e.alike (get numbering.wakes slot);
  }

  earlier_there : (numbering : Numbering) (slots : List ThreadSlot) (cancels : Option Cancel) (slot cpu at number : ℕ)
      (calls : NumberMap C) (call : PendingCall) (own : C) → SameMarked C Alike → Entrant Alike numbering slots slot call own
      → HasNumber numbering at number → IsTiedCall Alike numbering slots calls at number
      → IsTiedCall Alike (next_in numbering slot) (slots_with slots cancels slot cpu call)
      (insert calls numbering.entered own) at number
  earlier_there numbering slots cancels slot cpu at number calls call own marked e has was =
      let apart = numbered_apart numbering.in_slots slot at number e.none has in
      let same : option_map unmarked (call_at (slots_with slots cancels slot cpu call) at)
      ≡ option_map unmarked (call_at slots at) =
      ap (λ (o : Option ThreadSlot). option_map unmarked (option_and_then call_in o))
      (set_other (cancelled_slots slots cancels) slot at (Active cpu call) apart)
      ∙ cancels_mark slots cancels at in
      let found = there_but_marked (call_at (slots_with slots cancels slot cpu call) at) was.call
      (same ∙ ap (λ (o : Option PendingCall). option_map unmarked o) was.in_slot) in
      record {
        call = found.0;
        own = was.own;
        in_slot = found.1;
        of_number = get-insert-other calls numbering.entered own number (less number numbering.entered was.given)
            ∙ was.of_number;
        given = less_on number numbering.entered was.given;
        alike = marked (get numbering.wakes at) was.call found.0 was.own found.2 was.alike;
      }

  pub calls_taken : (numbering : Numbering) (slots : List ThreadSlot) (cancels : Option Cancel) (slot cpu : ℕ)
      (calls : NumberMap C) (call : PendingCall) (own : C) → SameMarked C Alike → Entrant Alike numbering slots slot call own
      → AreTiedCalls Alike numbering slots calls
      → AreTiedCalls Alike (next_in numbering slot) (slots_with slots cancels slot cpu call)
      (insert calls numbering.entered own)
  calls_taken numbering slots cancels slot cpu calls call own marked e tied = record {
    own = λ at number has.
        get-inserted numbering.in_slots slot numbering.entered at number has
        (λ same is. subst (λ n. IsTiedCall Alike (next_in numbering slot) (slots_with slots cancels slot cpu call)
        (insert calls numbering.entered own) n number) (sym same)
        (subst (λ n. IsTiedCall Alike (next_in numbering slot) (slots_with slots cancels slot cpu call)
        (insert calls numbering.entered own) slot n) is
        (entrant_there numbering slots cancels slot cpu calls call own e)))
        (λ was. earlier_there numbering slots cancels slot cpu at number calls call own marked e was (tied.own at number was));
    apart = λ first second number has_first has_second.
        get-inserted numbering.in_slots slot numbering.entered first number has_first
        (λ same is.
        get-inserted numbering.in_slots slot numbering.entered second number has_second
        (λ same_too is_too. same ∙ sym same_too)
        (λ was. absurd (less number numbering.entered (tied.own second number was).given is)))
        (λ was.
        get-inserted numbering.in_slots slot numbering.entered second number has_second
        (λ same is. absurd (less number numbering.entered (tied.own first number was).given is))
        (λ was_too. tied.apart first second number was was_too));
    all = λ number there found.
        get-inserted calls numbering.entered own number there found
        (λ same is. (
          slot,
          subst (λ n. HasNumber (next_in numbering slot) slot n) (sym same)
              (get-insert-same numbering.in_slots slot numbering.entered),
        ))
        (λ was. let at = tied.all number there was in (at.0, number_stays numbering slot at.0 number e.none at.1));
  }

  -- whom a call wakes was kept of calls that are there still
  pub kept_taken : (Told : C → Type 0) (numbering : Numbering) (slots : List ThreadSlot) (slot : ℕ) (calls : NumberMap C)
      (own : C) → get numbering.in_slots slot ≡ None
      → AreTiedCalls Alike numbering slots calls → AreKept Told numbering calls
      → AreKept Told (next_in numbering slot) (insert calls numbering.entered own)
  kept_taken Told numbering slots slot calls own none tied kept = λ at woken found.
      let was = kept at woken found in
      let given : was.number < numbering.entered = (tied.own at was.number was.has).given in
      record {
        number = was.number;
        has = number_stays numbering slot at was.number none was.has;
        own = was.own;
        of_number = get-insert-other calls numbering.entered own was.number
            (less was.number numbering.entered given) ∙ was.of_number;
        told = was.told;
      }

-- calls that are alike in one way are so in another that asks for no more
pub calls_weaker : (C : Type 0) (Alike Weaker : Option ℕ → PendingCall → C → Type 0) (numbering : Numbering)
    (slots : List ThreadSlot) (calls : NumberMap C)
    → ((kept : Option ℕ) (call : PendingCall) (own : C) → Alike kept call own → Weaker kept call own)
    → AreTiedCalls Alike numbering slots calls → AreTiedCalls Weaker numbering slots calls
calls_weaker C Alike Weaker numbering slots calls then tied = record {
  own = λ slot number has.
      let its = tied.own slot number has in
      record {
        call = its.call;
        own = its.own;
        in_slot = its.in_slot;
        of_number = its.of_number;
        given = its.given;
        alike = then (get numbering.wakes slot) its.call its.own its.alike;
      };
  apart = tied.apart;
  all = tied.all;
}

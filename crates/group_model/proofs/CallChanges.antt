-- What leaves the calls of the slots and of a machine tied where one of them changes, or goes.
use Rattle.std.proofs.Common.{◌≡◌, ℕ, List, Option, Some, None, ap, subst, sym, ◌∙◌}
use Rattle.std.specs.Prelude.{All, slice_get, slice_set}
use Rattle.std.specs.Option.{option_and_then}
use Rattle.base.specs.NumberMap.{NumberMap, get, insert, remove}
use Rattle.kernel_model.specs.Kernel.{Free, Instance, PendingCall, Tables, ThreadSlot}
use Rattle.kernel_model.proofs.Parts.{set_found, set_other}
use Rattle.own_model.proofs.InOrder.{by_numbers}
use Rattle.own_model.proofs.Maps.{get-insert-other, get-insert-same, get-inserted, get-remove-other, get-remove-same}
use Rattle.own_model.proofs.Maps.{get-removed}
use Rattle.own_model.proofs.OwnChanges.{some_number, is_another}
use Rattle.own_model.specs.Own.{Numbering}
use Rattle.own_model.specs.Tied.{call_in}
use Rattle.group_model.specs.Group.{GroupWaiter}
use Rattle.group_model.specs.Line.{AreKept, AreTiedCalls, HasNumber, IsTiedCall}
use Rattle.group_model.specs.Tied.{AreOthers}
use Rattle.group_model.specs.Tied.{Names}

-- ---- the numbers of a slot

-- with other numbers of those that are woken
abbrev pub with_wakes : Numbering → NumberMap ℕ → Numbering
with_wakes numbering wakes = record numbering { wakes = wakes }

-- without those of a slot
abbrev pub without_slot : Numbering → ℕ → Numbering
without_slot numbering slot =
    record numbering { in_slots = remove numbering.in_slots slot; wakes = remove numbering.wakes slot }

-- another slot than this has its number still
still_numbered : (numbers : NumberMap ℕ) (slot at other : ℕ) → (slot ≡ at → ⊥) → get numbers at ≡ Some other
    → get (remove numbers slot) at ≡ Some other
still_numbered numbers slot at other apart has = get-remove-other numbers slot at apart ∙ has

-- ---- the calls

-- the call of a slot, and the machine's, change to these; only who that call wakes may be kept now
pub record ChangesTo {C : Type 0} (Alike : Option ℕ → PendingCall → C → Type 0) (numbering : Numbering)
    (slots : List ThreadSlot) (slot number : ℕ) (wakes : NumberMap ℕ) (now : PendingCall) (own : C) : Type 0 where
  pub has : HasNumber numbering slot number
  pub before : ThreadSlot
  pub there : slice_get slots slot ≡ Some before
  pub others : (at : ℕ) → (slot ≡ at → ⊥) → get wakes at ≡ get numbering.wakes at
  pub alike : Alike (get wakes slot) now own

module _ (C : Type 0) (Alike : Option ℕ → PendingCall → C → Type 0) where
  changed_there : (numbering : Numbering) (slots : List ThreadSlot) (calls : NumberMap C) (slot number : ℕ)
      (wakes : NumberMap ℕ) (held : ThreadSlot) (now : PendingCall) (own : C) → call_in held ≡ Some now
      → ChangesTo Alike numbering slots slot number wakes now own → AreTiedCalls Alike numbering slots calls
      → IsTiedCall Alike (with_wakes numbering wakes) (slice_set slots slot held) (insert calls number own) slot number
  changed_there numbering slots calls slot number wakes held now own in_it c tied = record {
    call = now;
    own = own;
    in_slot = ap (λ (o : Option ThreadSlot). option_and_then call_in o)
        (set_found slots slot held c.before c.there) ∙ in_it;
    of_number = get-insert-same calls number own;
    given = (tied.own slot number c.has).given;
    alike = c.alike;
  }

  other_there : (numbering : Numbering) (slots : List ThreadSlot) (calls : NumberMap C) (slot number : ℕ)
      (wakes : NumberMap ℕ) (held : ThreadSlot) (now : PendingCall) (own : C) (at other : ℕ)
      → ChangesTo Alike numbering slots slot number wakes now own → AreTiedCalls Alike numbering slots calls
      → (slot ≡ at → ⊥) → HasNumber numbering at other → IsTiedCall Alike numbering slots calls at other
      → IsTiedCall Alike (with_wakes numbering wakes) (slice_set slots slot held) (insert calls number own) at other
  other_there numbering slots calls slot number wakes held now own at other c tied apart has was = record {
    call = was.call;
    own = was.own;
    in_slot = ap (λ (o : Option ThreadSlot). option_and_then call_in o)
        (set_other slots slot at held apart) ∙ was.in_slot;
    of_number = get-insert-other calls number own other
        (λ same. apart (tied.apart slot at other (c.has ∙ ap (λ n. Some n) same) has)) ∙ was.of_number;
    given = was.given;
    alike = subst (λ (o : Option ℕ). Alike o was.call was.own) (sym (c.others at apart)) was.alike;
  }

  pub calls_change : (numbering : Numbering) (slots : List ThreadSlot) (calls : NumberMap C) (slot number : ℕ)
      (wakes : NumberMap ℕ) (held : ThreadSlot) (now : PendingCall) (own : C) → call_in held ≡ Some now
      → ChangesTo Alike numbering slots slot number wakes now own → AreTiedCalls Alike numbering slots calls
      → AreTiedCalls Alike (with_wakes numbering wakes) (slice_set slots slot held) (insert calls number own)
  calls_change numbering slots calls slot number wakes held now own in_it c tied = record {
    own = λ at other has. by_numbers slot at
        (λ same. subst (λ n. IsTiedCall Alike (with_wakes numbering wakes) (slice_set slots slot held)
        (insert calls number own) n other) same
        (subst (λ n. IsTiedCall Alike (with_wakes numbering wakes) (slice_set slots slot held)
        (insert calls number own) slot n)
        (some_number number other (sym c.has ∙ ap (λ n. get numbering.in_slots n) same ∙ has))
        (changed_there numbering slots calls slot number wakes held now own in_it c tied)))
        (λ apart. other_there numbering slots calls slot number wakes held now own at other c tied apart has
        (tied.own at other has));
    apart = tied.apart;
    all = λ other found there. get-inserted calls number own other found there
        (λ same is. (slot, c.has ∙ ap (λ n. Some n) (sym same))) (λ was. tied.all other found was);
  }

  -- the call of a slot changes to one that is still like the machine's
  pub calls_stay : (numbering : Numbering) (slots : List ThreadSlot) (calls : NumberMap C) (slot number : ℕ)
      (held before : ThreadSlot) (now : PendingCall) → HasNumber numbering slot number
      → slice_get slots slot ≡ Some before → call_in held ≡ Some now
      → (its : IsTiedCall Alike numbering slots calls slot number) → Alike (get numbering.wakes slot) now its.own
      → AreTiedCalls Alike numbering slots calls → AreTiedCalls Alike numbering (slice_set slots slot held) calls
  calls_stay numbering slots calls slot number held before now has there in_it its alike tied = record {
    own = λ at other has_other. by_numbers slot at
        (λ same. subst (λ n. IsTiedCall Alike numbering (slice_set slots slot held) calls n other) same
        (subst (λ n. IsTiedCall Alike numbering (slice_set slots slot held) calls slot n)
        (some_number number other (sym has ∙ ap (λ n. get numbering.in_slots n) same ∙ has_other))
        (record {
          call = now;
          own = its.own;
          in_slot = ap (λ (o : Option ThreadSlot). option_and_then call_in o)
              (set_found slots slot held before there) ∙ in_it;
          of_number = its.of_number;
          given = its.given;
          alike = alike;
        })))
        (λ apart.
        let was = tied.own at other has_other in
        record {
          call = was.call;
          own = was.own;
          in_slot = ap (λ (o : Option ThreadSlot). option_and_then call_in o)
              (set_other slots slot at held apart) ∙ was.in_slot;
          of_number = was.of_number;
          given = was.given;
          alike = was.alike;
        });
    apart = tied.apart;
    all = tied.all;
  }

  pub kept_changes : (Told : C → Type 0) (numbering : Numbering) (slots : List ThreadSlot) (calls : NumberMap C)
      (slot number : ℕ) (wakes : NumberMap ℕ) (now : PendingCall) (own : C)
      → ChangesTo Alike numbering slots slot number wakes now own
      → ((woken : ℕ) → get wakes slot ≡ Some woken → Told own) → AreTiedCalls Alike numbering slots calls
      → AreKept Told numbering calls → AreKept Told (with_wakes numbering wakes) (insert calls number own)
  kept_changes Told numbering slots calls slot number wakes now own c told tied kept at woken found =
      by_numbers slot at
      (λ same. record {
        number = number;
        has = ap (λ n. get numbering.in_slots n) (sym same) ∙ c.has;
        own = own;
        of_number = get-insert-same calls number own;
        told = told woken (ap (λ n. get wakes n) same ∙ found);
      })
      (λ apart.
      let was = kept at woken (sym (c.others at apart) ∙ found) in
      record {
        number = was.number;
        has = was.has;
        own = was.own;
        of_number = get-insert-other calls number own was.number
            (λ same. apart (tied.apart slot at was.number (c.has ∙ ap (λ n. Some n) same) was.has)) ∙ was.of_number;
        told = was.told;
      })

  remains_there : (numbering : Numbering) (slots : List ThreadSlot) (calls : NumberMap C) (slot number at other : ℕ)
      → HasNumber numbering slot number → AreTiedCalls Alike numbering slots calls
      → HasNumber (without_slot numbering slot) at other → (slot ≡ at → ⊥) → HasNumber numbering at other
      → IsTiedCall Alike (without_slot numbering slot) (slice_set slots slot Free) (remove calls number) at other
  remains_there numbering slots calls slot number at other has tied found apart had =
      let its = tied.own at other had in
      record {
        call = its.call;
        own = its.own;
        in_slot = ap (λ (o : Option ThreadSlot). option_and_then call_in o)
            (set_other slots slot at Free apart) ∙ its.in_slot;
        of_number = get-remove-other calls number other
            (λ same. apart (tied.apart slot at other (has ∙ ap (λ n. Some n) same) had)) ∙ its.of_number;
        given = its.given;
        alike = subst (λ (o : Option ℕ). Alike o its.call its.own)
            (sym (get-remove-other numbering.wakes slot at apart)) its.alike;
      }

  never_there : {P : Type 0} (calls : NumberMap C) (number : ℕ) (own : C) → get (remove calls number) number ≡ Some own → P
  never_there calls number own there = let no : None ≡ Some own = sym (get-remove-same calls number) ∙ there in absurd cc

  pub calls_without : (numbering : Numbering) (slots : List ThreadSlot) (calls : NumberMap C) (slot number : ℕ)
      → HasNumber numbering slot number → AreTiedCalls Alike numbering slots calls
      → AreTiedCalls Alike (without_slot numbering slot) (slice_set slots slot Free) (remove calls number)
  calls_without numbering slots calls slot number has tied = record {
    own = λ at other found.
        remains_there numbering slots calls slot number at other has tied found
        (is_another numbering.in_slots slot at other found) (get-removed numbering.in_slots slot at other found);
    apart = λ first second other one two.
        tied.apart first second other (get-removed numbering.in_slots slot first other one)
        (get-removed numbering.in_slots slot second other two);
    all = λ other own there.
        let at = tied.all other own (get-removed calls number other own there) in
        let apart : slot ≡ at.0 → ⊥ = λ same. never_there calls number own (ap (λ n. get (remove calls number) n)
        (some_number number other (sym has ∙ ap (λ n. get numbering.in_slots n) same ∙ at.1)) ∙ there) in
        (at.0, still_numbered numbering.in_slots slot at.0 other apart at.1);
  }

  pub kept_without : (Told : C → Type 0) (numbering : Numbering) (slots : List ThreadSlot) (calls : NumberMap C)
      (slot number : ℕ) → HasNumber numbering slot number → AreTiedCalls Alike numbering slots calls
      → AreKept Told numbering calls → AreKept Told (without_slot numbering slot) (remove calls number)
  kept_without Told numbering slots calls slot number has tied kept = λ at woken found.
      let was = kept at woken (get-removed numbering.wakes slot at woken found) in
      let apart = is_another numbering.wakes slot at woken found in
      record {
        number = was.number;
        has = still_numbered numbering.in_slots slot at was.number apart was.has;
        own = was.own;
        of_number = get-remove-other calls number was.number
            (λ same. apart (tied.apart slot at was.number (has ∙ ap (λ n. Some n) same) was.has))
            ∙ was.of_number;
        told = was.told;
      }

-- ---- others

not_numbered : {P : Type 0} (numbers : NumberMap ℕ) (slot at number : ℕ) → get numbers slot ≡ Some number
    → get numbers at ≡ None → slot ≡ at → P
not_numbered numbers slot at number has none same =
    let no : Some number ≡ None = sym has ∙ ap (λ n. get numbers n) same ∙ none in absurd cc

pub others_changed : (sessions instances numbers : NumberMap ℕ) (slots : List ThreadSlot) (slot number : ℕ)
    (held : ThreadSlot) → get numbers slot ≡ Some number → AreOthers sessions instances numbers slots
    → AreOthers sessions instances numbers (slice_set slots slot held)
others_changed sessions instances numbers slots slot number held has others = λ at call found none.
    others at call (sym (ap (λ (o : Option ThreadSlot). option_and_then call_in o)
    (set_other slots slot at held (λ same. not_numbered numbers slot at number has none same))) ∙ found) none

-- ---- a call changes

abbrev pub with_numbering : Names → Numbering → Names
with_numbering names numbering = record names { numbering = numbering }

-- ---- a call goes

-- its slot is neither that of the holder nor of one that waits
pub record IsIdle (names : Names) (slot number : ℕ) (tables : Tables) (waiting : List GroupWaiter) : Type 0 where
  pub holder : (at own : ℕ) (kept : Instance) → get names.instances at ≡ Some own →
      get tables.instances at ≡ Some kept → kept.holder ≡ Some slot → ⊥
  pub unlined : All (λ (waiter : GroupWaiter). waiter.call ≡ number → ⊥) waiting

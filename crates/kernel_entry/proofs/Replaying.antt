-- The fact of a core, once a processor has come in.
use Rattle.std.proofs.Common.{◌≡◌, ℕ, zero, suc, ◌+◌, ◌-◌, ◌<◌, ◌≤◌, ◌^◌, Bool, true, false, List, [], ◌∷◌, ◌++◌, length, take, drop, Option, Some, None, refl, sym, ap, ap₂, ◌∙◌, subst, arith}
use Rattle.std.proofs.lemmas.Bool.{le-leb}
use Rattle.std.proofs.lemmas.List.Sums.{sum_by-append, sum_by-cons}
use Rattle.std.specs.Prelude.{AllPairs, nat_le, if◌then◌else◌, slice_get, slice_index_or}
use Rattle.std.specs.List.{AllByRecursion}
use Rattle.std.specs.Option.{option_and_then}
use Rattle.event_journal.specs.Event.{copied_by}
use Rattle.event_journal.specs.Journal.{copied_bytes}
use Rattle.event_journal.specs.declared.event.Event.{Event}
use Rattle.event_journal.specs.declared.event.Event.TheVariants.{Entry}
use Rattle.kernel_model.proofs.Past.{after_events-append}
use Rattle.kernel_model.specs.Application.{AreNatives, Booted}
use Rattle.kernel_model.specs.Argument.{reg}
use Rattle.kernel_model.specs.Decision.{Decision}
use Rattle.kernel_model.specs.Entry.{after_decision, after_entry, decision_of, entry}
use Rattle.kernel_model.specs.History.{after_event, after_events, can_be_granted, entry_from, kernel_after}
use Rattle.kernel_model.specs.Kernel.{Kernel, Outside, Processor, first_kernel}
use Rattle.ns_ram.proofs.ReaderLaws.{over_lane-bind, over_lane-reading}
use Rattle.ns_ram.specs.Lane.{bytes_from}
use Rattle.ns_ram.specs.Reader.{Reader, done, over_lane, reading}
use Rattle.ns_ram.specs.Reads.{HoldsRead, HoldsReads, total_bytes}
use Rattle.ns_ram.specs.declared.read.Read.{Read}
use Rattle.smc_abi.specs.Call.{call_of}
use Rattle.ta_isa.specs.Boots.{IsBoot}
use Rattle.kernel_state.specs.Entering.{visit_of}
use Rattle.kernel_state.specs.Reads.{Agree, ReadsAgree}
use Rattle.kernel_state.specs.Replay.{Replays}
use Rattle.kernel_state.specs.Setup.{boot_of, booted_of_setup, natives_of}
use Rattle.kernel_state.specs.StandsFor.{StandsFor}
use Rattle.kernel_state.specs.declared.parts.Parts.{Parts}
use Rattle.kernel_entry.specs.Visiting.{coming_of}
use Rattle.kernel_entry.specs.declared.visitor.Visitor.{Visitor}

-- ---- an entry

-- the visitor's call comes to this, with these reads
abbrev pub Decides : Booted → Kernel → Visitor → List ℕ → Decision → List Read → Type 0
Decides boot kernel visitor lane decision reads =
    over_lane (decision_of boot kernel visitor.regs.a (call_of (reg visitor.regs.a 0))) lane [] ≡ Some (decision, reads)

-- it can come into this kernel, and all bytes that were read with its own are few
pub record MayEnter (parts : Parts) (kernel : Kernel) (visitor : Visitor) (reads : List Read) : Type 0 where
  pub outside : slice_get kernel.processors visitor.cpu ≡ Some Outside
  pub some_steps : 1 ≤ visitor.steps
  pub few_steps : visitor.steps ≤ 1000000
  pub few_bytes : copied_bytes parts.journal.events + total_bytes reads ≤ parts.setup.terms.most

-- ---- reads of one lane agree

from_take : (n : ℕ) (xs : List ℕ) (i byte : ℕ) → slice_get (take n xs) i ≡ Some byte → slice_get xs i ≡ Some byte
from_take zero xs i byte is = absurd cc
from_take (suc n) [] i byte is = absurd cc
from_take (suc n) (x ∷ xs) zero byte is = is
from_take (suc n) (x ∷ xs) (suc i) byte is = from_take n xs i byte is

from_drop : (k : ℕ) (xs : List ℕ) (i at : ℕ) → at ≡ k + i → slice_get (drop k xs) i ≡ slice_get xs at
from_drop zero xs i at is = let same : i ≡ at = omega (arith, is) in ap (slice_get xs) same
from_drop (suc k) [] i at is = refl
from_drop (suc k) (x ∷ xs) i zero is = absurd (omega (arith, is))
from_drop (suc k) (x ∷ xs) i (suc at) is = from_drop k xs i at (omega (arith, is))

-- the byte at an address
abbrev byte_at : List ℕ → ℕ → Option ℕ
byte_at lane addr = slice_get lane (addr - 0x40000000)

in_ram_then : (lane : List ℕ) (addr i byte : ℕ) (is_in : Bool) → nat_le 0x40000000 addr ≡ is_in →
    slice_get (if is_in then drop (addr - 0x40000000) lane else []) i ≡ Some byte → slice_get lane (addr + i - 0x40000000) ≡ Some byte
in_ram_then lane addr i byte true above is =
    let over : 0x40000000 ≤ addr = grind (arith, above, le-leb) in
    sym (from_drop (addr - 0x40000000) lane i (addr + i - 0x40000000) (omega (arith, over))) ∙ is
in_ram_then lane addr i byte false above is = absurd cc

byte_read : (lane : List ℕ) (read : Read) (i byte : ℕ) → HoldsRead lane read → slice_get read.bytes i ≡ Some byte →
    byte_at lane (read.addr + i) ≡ Some byte
byte_read lane read i byte held is =
    in_ram_then lane read.addr i byte (nat_le 0x40000000 read.addr) refl
    (from_take (length read.bytes) (bytes_from lane read.addr) i byte (ap (λ (bytes : List ℕ). slice_get bytes i) held ∙ is))

two_agree : (lane : List ℕ) (one other : Read) → HoldsRead lane one → HoldsRead lane other → Agree one other
two_agree lane one other held held_too i j byte that same is is_too =
    let first : byte_at lane (one.addr + i) ≡ Some byte = byte_read lane one i byte held is in
    let second : byte_at lane (other.addr + j) ≡ Some that = byte_read lane other j that held_too is_too in
    let both : Some byte ≡ Some that = sym first ∙ ap (byte_at lane) same ∙ second in
    cc

held_there : (lane : List ℕ) (reads : List Read) (i : ℕ) (none : Read) → i < length reads → HoldsReads lane reads →
    HoldsRead lane (slice_index_or reads i none)
held_there lane [] i none below held = absurd (omega (arith, below))
held_there lane (read ∷ reads) zero none below held = held.0
held_there lane (read ∷ reads) (suc i) none below held = held_there lane reads i none (omega (arith, below)) held.1

all_agree : (lane : List ℕ) (reads : List Read) → HoldsReads lane reads → AllPairs Agree reads
all_agree lane reads held i j none before below =
    two_agree lane (slice_index_or reads i none) (slice_index_or reads j none)
    (held_there lane reads i none (omega (arith, before, below)) held) (held_there lane reads j none below held)

agree_behind : (events : List Event) (happened : Event) → AllByRecursion ReadsAgree events → ReadsAgree happened →
    AllByRecursion ReadsAgree (events ++ happened ∷ [])
agree_behind [] happened agree too = (too, tt)
agree_behind (first ∷ events) happened agree too = (agree.0, agree_behind events happened agree.1 too)

-- ---- the kernel after it

granted : (steps : ℕ) → 1 ≤ steps → steps ≤ 1000000 → can_be_granted steps ≡ true
granted steps some few = rw (le-leb 1 steps some, le-leb steps 1000000 few) refl

pub entered : (boot : Booted) (kernel : Kernel) (visitor : Visitor) (lane : List ℕ) (decision : Decision) (reads : List Read) →
    Decides boot kernel visitor lane decision reads →
    over_lane (entry boot kernel (visit_of (coming_of visitor))) lane [] ≡ Some (after_decision kernel (visit_of (coming_of visitor)) decision, reads)
entered boot kernel visitor lane decision reads decides =
    let onward : Decision → Reader Kernel = λ decision. done (after_decision kernel (visit_of (coming_of visitor)) decision) in
    over_lane-bind (decision_of boot kernel visitor.regs.a (call_of (reg visitor.regs.a 0))) onward lane []
    ∙ ap (λ (o : Option (Decision × List Read)). option_and_then (λ step. over_lane (onward step.0) lane step.1) o) decides

entry_follows : (boot : Booted) (kernel next : Kernel) (visitor : Visitor) (reads : List Read) →
    slice_get kernel.processors visitor.cpu ≡ Some Outside → 1 ≤ visitor.steps → visitor.steps ≤ 1000000 →
    reading (entry boot kernel (visit_of (coming_of visitor))) reads ≡ Some next →
    after_event boot kernel (Entry visitor.cpu visitor.regs visitor.steps reads) ≡ Some next
entry_follows boot kernel next visitor reads outside some few comes =
    ap (λ (o : Option Processor). option_and_then (entry_from boot kernel (visit_of (coming_of visitor)) reads) o) outside
    ∙ ap (λ (test : Bool). if test then after_entry boot kernel (visit_of (coming_of visitor)) reads else None) (granted visitor.steps some few)
    ∙ comes

kernel_follows : (boot : Booted) (kernel next : Kernel) (events : List Event) (happened : Event) → kernel_after boot events ≡ Some kernel →
    after_event boot kernel happened ≡ Some next → kernel_after boot (events ++ happened ∷ []) ≡ Some next
kernel_follows boot kernel next events happened comes follows =
    after_events-append boot (first_kernel boot) events (happened ∷ [])
    ∙ ap (λ (o : Option Kernel). option_and_then (λ k. after_events boot k (happened ∷ [])) o) comes
    ∙ ap (λ (o : Option Kernel). option_and_then (λ next. after_events boot next []) o) follows

-- ---- the fact

-- what was read has the lane's bytes
pub read_from_lane : (boot : Booted) (kernel : Kernel) (visitor : Visitor) (lane : List ℕ) (decision : Decision) (reads : List Read) →
    Decides boot kernel visitor lane decision reads → HoldsReads lane reads
read_from_lane boot kernel visitor lane decision reads decides =
    let next = after_decision kernel (visit_of (coming_of visitor)) decision in
    ((over_lane-reading (entry boot kernel (visit_of (coming_of visitor))) lane reads next).0 (entered boot kernel visitor lane decision reads decides)).1

-- the events come to the kernel after what was decided
pub comes_entered : (old new : Parts) (visitor : Visitor) (lane : List ℕ) (decision : Decision) (reads : List Read) (fact : Replays old) →
    MayEnter old fact.kernel visitor reads → Decides (booted_of_setup old.setup) fact.kernel visitor lane decision reads →
    new.setup ≡ old.setup → new.journal.events ≡ old.journal.events ++ Entry visitor.cpu visitor.regs visitor.steps reads ∷ [] →
    kernel_after (booted_of_setup new.setup) new.journal.events ≡ Some (after_decision fact.kernel (visit_of (coming_of visitor)) decision)
comes_entered old new visitor lane decision reads fact may decides setup events =
    let boot = booted_of_setup old.setup in
    let next = after_decision fact.kernel (visit_of (coming_of visitor)) decision in
    let read = (over_lane-reading (entry boot fact.kernel (visit_of (coming_of visitor))) lane reads next).0 (entered boot fact.kernel visitor lane decision reads decides) in
    ap₂ (λ setup (events : List Event). kernel_after (booted_of_setup setup) events) setup events
    ∙ kernel_follows boot fact.kernel next old.journal.events (Entry visitor.cpu visitor.regs visitor.steps reads) fact.comes_to
    (entry_follows boot fact.kernel next visitor reads may.outside may.some_steps may.few_steps read.0)

pub replays_entered : (old new : Parts) (visitor : Visitor) (lane : List ℕ) (decision : Decision) (reads : List Read) (fact : Replays old) →
    MayEnter old fact.kernel visitor reads → Decides (booted_of_setup old.setup) fact.kernel visitor lane decision reads →
    new.setup ≡ old.setup → new.journal.events ≡ old.journal.events ++ Entry visitor.cpu visitor.regs visitor.steps reads ∷ [] →
    new.journal.keeps ≡ old.journal.keeps → StandsFor new (after_decision fact.kernel (visit_of (coming_of visitor)) decision) → Replays new
replays_entered old new visitor lane decision reads fact may decides setup events keeps stands =
    let happened = Entry visitor.cpu visitor.regs visitor.steps reads in
    record {
      kernel = after_decision fact.kernel (visit_of (coming_of visitor)) decision;
      is_boot = subst (λ setup. IsBoot (boot_of setup)) (sym setup) fact.is_boot;
      are_natives = subst (λ setup. AreNatives (boot_of setup) (natives_of setup)) (sym setup) fact.are_natives;
      comes_to = comes_entered old new visitor lane decision reads fact may decides setup events;
      stands = stands;
      keeps = keeps ∙ fact.keeps ∙ sym (ap (λ setup. setup.terms.keeps) setup);
      few = subst (λ setup. copied_bytes new.journal.events ≤ setup.terms.most) (sym setup)
          (subst (λ (events : List Event). copied_bytes events ≤ old.setup.terms.most) (sym events)
          (subst (λ (bytes : ℕ). bytes ≤ old.setup.terms.most) (sym (copied_behind old.journal.events happened)) may.few_bytes));
      bounded = subst (λ setup. setup.terms.most ≤ 2 ^ 63) (sym setup) fact.bounded;
      agree = subst (λ (events : List Event). AllByRecursion ReadsAgree events) (sym events)
          (agree_behind old.journal.events happened fact.agree
          (all_agree lane reads (read_from_lane (booted_of_setup old.setup) fact.kernel visitor lane decision reads decides)));
    }
  where
    copied_behind : (events : List Event) (happened : Event) → copied_bytes (events ++ happened ∷ []) ≡ copied_bytes events + copied_by happened
    copied_behind events happened =
        sum_by-append copied_by events (happened ∷ []) ∙ ap (λ (n : ℕ). copied_bytes events + n) (sum_by-cons copied_by happened [] ∙ omega arith)

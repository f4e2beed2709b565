-- Entries and exits of a play: what comes of them, and how many bytes were read.
use Rattle.std.proofs.Common.{◌≡◌, ℕ, ◌+◌, ◌<◌, ◌≤◌, Bool, true, false, List, [], ◌∷◌, ◌++◌, Some, None, refl, ap}
use Rattle.std.proofs.Common.{subst, sym, ◌∙◌}
use Rattle.std.specs.Prelude.{nat_lt, if◌then◌else◌}
use Rattle.std.proofs.lemmas.Bool.{ltb-false}
use Rattle.std.proofs.lemmas.Bool.Decides.{Decides-ltb}
use Rattle.std.proofs.lemmas.Option.{option_and_then_some}
use Rattle.event_journal.specs.Journal.{copied_bytes}
use Rattle.event_journal.specs.declared.event.Event.{Event}
use Rattle.event_journal.specs.declared.event.Event.TheVariants.{Entry, Exit}
use Rattle.kernel_model.specs.Application.{Booted}
use Rattle.kernel_model.specs.Exit.{Exited, exit}
use Rattle.kernel_model.specs.History.{after_event}
use Rattle.kernel_model.specs.Kernel.{Kernel, Visit}
use Rattle.kernel_model.proofs.Parts.{option_map_some}
use Rattle.ns_ram.specs.Reads.{total_bytes}
use Rattle.ns_ram.specs.declared.read.Read.{Read}
use Rattle.trace_text.specs.declared.item.Reg.{Reg}
use Rattle.play_model.specs.Line.{Ret}
use Rattle.play_model.specs.Order.{Comes, Leaves}
use Rattle.play_model.specs.Play.{Play, enters, enters_with, leaves, leaves_with, reads_of, visit_of, with_event}
use Rattle.play_model.specs.Play.{with_line, with_writes}
use Rattle.play_model.proofs.Adds.{Adds, adds_event}

-- ---- events

-- what an event makes of a play
pub event_made : (boot : Booted) (event : Event) (before after : Play) → with_event boot event before ≡ Some after
    → (after.history ≡ before.history ++ event ∷ []) × (after.refused ≡ before.refused)
event_made boot event before after e =
    let came = option_map_some
    (λ (next : Kernel). record before { kernel = next; history = before.history ++ event ∷ [] })
    (after_event boot before.kernel event) after e in
    (ap (λ (p : Play). p.history) (sym came.2), ap (λ (p : Play). p.refused) (sym came.2))

-- and how many bytes may be read stays
pub event_limit : (boot : Booted) (event : Event) (before after : Play) → with_event boot event before ≡ Some after
    → after.most_bytes ≡ before.most_bytes
event_limit boot event before after e =
    let came = option_map_some
    (λ (next : Kernel). record before { kernel = next; history = before.history ++ event ∷ [] })
    (after_event boot before.kernel event) after e in
    ap (λ (p : Play). p.most_bytes) (sym came.2)

-- ---- entries

-- an entry comes, or is refused
pub data Entered (boot : Booted) (visit : Visit) (before after : Play) : Type 0 where
  CameIn : (reads : List Read) → copied_bytes before.history + total_bytes reads ≤ before.most_bytes →
      with_event boot (Entry visit.cpu (record { a = visit.regs }) visit.steps reads) before ≡ Some after
      → Entered boot visit before after
  WasRefused : (reads : List Read) → before.most_bytes < copied_bytes before.history + total_bytes reads →
      record before { refused = Some (total_bytes reads) } ≡ after → Entered boot visit before after

entered_by : (boot : Booted) (visit : Visit) (before after : Play) (reads : List Read) (much : Bool)
    → nat_lt before.most_bytes (copied_bytes before.history + total_bytes reads) ≡ much
    → (if much then Some (record before { refused = Some (total_bytes reads) })
    else with_event boot (Entry visit.cpu (record { a = visit.regs }) visit.steps reads) before) ≡ Some after
    → Entered boot visit before after
entered_by boot visit before after reads true is e =
    let same : record before { refused = Some (total_bytes reads) } ≡ after = cc in
    WasRefused reads ((Decides-ltb before.most_bytes (copied_bytes before.history + total_bytes reads)).0 is) same
entered_by boot visit before after reads false is e =
    CameIn reads (ltb-false before.most_bytes (copied_bytes before.history + total_bytes reads) is) e

pub entered : (boot : Booted) (visit : Visit) (before after : Play) → enters boot before visit ≡ Some after
    → Entered boot visit before after
entered boot visit before after e =
    option_and_then_some (enters_with boot before visit) (reads_of boot before visit) after e
    (λ (reads : List Read) there onward.
    entered_by boot visit before after reads
    (nat_lt before.most_bytes (copied_bytes before.history + total_bytes reads)) refl onward)

-- ---- exits

-- the event of an exit, and the play with it
pub record Left (boot : Booted) (cpu : ℕ) (before after : Play) : Type 0 where
  pub exited : Exited
  pub there : exit before.kernel cpu ≡ Some exited
  pub gone : Play
  pub came : with_event boot (Exit cpu (record { a = exited.regs })) before ≡ Some gone
  pub is : with_line (Ret cpu exited.regs) (with_writes cpu exited.writes gone) ≡ after

pub left : (boot : Booted) (cpu : ℕ) (before after : Play) → leaves boot cpu before ≡ Some after
    → Left boot cpu before after
left boot cpu before after e =
    option_and_then_some (leaves_with boot before cpu) (exit before.kernel cpu) after e
    (λ (exited : Exited) there onward.
    let tells = λ (next : Play). with_line (Ret cpu exited.regs) (with_writes cpu exited.writes next) in
    let came = option_map_some tells (with_event boot (Exit cpu (record { a = exited.regs })) before) after onward in
    record { exited = exited; there = there; gone = came.0; came = came.1; is = came.2 })

pub left_adds : (boot : Booted) (cpu : ℕ) (before after : Play) → Left boot cpu before after
    → Adds boot (Leaves cpu ∷ []) before after
left_adds boot cpu before after out =
    let added = adds_event boot (Leaves cpu)
    (Exit cpu (record { a = out.exited.regs })) before out.gone refl out.came in
    subst (λ (p : Play). Adds boot (Leaves cpu ∷ []) before p) out.is
    (record { events = added.events; history = added.history; kernels = added.kernels; follows = added.follows })

-- it refuses nothing
pub left_going : (boot : Booted) (cpu : ℕ) (before after : Play) → Left boot cpu before after → before.refused ≡ None
    → after.refused ≡ None
left_going boot cpu before after out going =
    let made = event_made boot (Exit cpu (record { a = out.exited.regs })) before out.gone out.came in
    ap (λ (p : Play). p.refused) (sym out.is) ∙ made.1 ∙ going

-- ---- an entry that came in

pub came_adds : (boot : Booted) (cpu steps : ℕ) (regs : List Reg) (reads : List Read) (before after : Play)
    → (let visit = visit_of before.history cpu steps regs in
    with_event boot (Entry cpu (record { a = visit.regs }) steps reads) before ≡ Some after)
    → Adds boot (Comes cpu steps regs ∷ []) before after
came_adds boot cpu steps regs reads before after came =
    let visit = visit_of before.history cpu steps regs in
    adds_event boot (Comes cpu steps regs) (Entry cpu (record { a = visit.regs }) steps reads) before after refl came

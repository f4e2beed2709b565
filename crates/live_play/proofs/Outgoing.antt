-- By which steps a processor goes out: its line `ret` is printed then, its RAM isn't shorter, and that of the others stays.
use Rattle.std.proofs.Common.{◌≡◌, ℕ, ◌≤◌, List, [], ◌∷◌, ◌++◌, length, drop, Option, Some, None, refl, sym, ap, subst, ◌∙◌, append-nil, arith}
use Rattle.std.specs.Prelude.{slice_index_or, slice_set}
use Rattle.std.specs.Option.{option_and_then, option_map_or}
use Rattle.std.proofs.Math.Seq.{drop-append_seam, drop-nil}
use Rattle.std.proofs.lemmas.List.{get_or-set_other}
use Rattle.std.proofs.lemmas.Option.{option_and_then_some}
use Rattle.event_journal.specs.declared.event.Event.{Event}
use Rattle.event_journal.specs.declared.event.Event.TheVariants.{Exit}
use Rattle.kernel_model.specs.Application.{Booted, booted}
use Rattle.kernel_model.specs.Exit.{Exited, exit}
use Rattle.kernel_model.proofs.Parts.{option_map_some}
use Rattle.notify_play.specs.Duty.{Duty, last_entry}
use Rattle.notify_play.specs.NotifyPlay.{Drivers, NotifyPlay, after_item, after_step, comes_in, desk_of, duty_at, goes_out, goes_out_with, tells, unless_refused, visit_with, with_play}
use Rattle.notify_play.specs.Told.{told_regs, told_writes}
use Rattle.notify_text.specs.Rules.{NotifyFront}
use Rattle.notify_text.specs.Steps.{Signals, Step, Takes}
use Rattle.ns_ram.specs.Lane.{bytes_at}
use Rattle.ns_ram.specs.Writes.{Write, lane_after}
use Rattle.play_model.specs.Line.{Line, Mem, Ret}
use Rattle.play_model.specs.Play.{Play, enters, lane_of, with_event}
use Rattle.play_model.proofs.Entries.{entered}
use Rattle.play_model.proofs.RamKept.{entry_lanes, event_lanes, writes_kept}
use Rattle.ta_isa.specs.declared.boot.Boot.{Boot}
use Rattle.trace_text.specs.declared.item.Item.{Item}
use Rattle.trace_text.specs.declared.item.Item.TheVariants as item
use Rattle.trace_text.specs.declared.item.Reg.{Reg}
use Rattle.live_play.specs.Answer.{Platform, answer_between, play_at, printed_at, refused_at}
use Rattle.live_play.specs.Returns.{returns_in}
use Rattle.live_play.specs.Showing.{cpu_out_by}
use Rattle.live_play.proofs.Grown.{entry-lines, event-lines}
use Rattle.live_play.proofs.Talking.{answer_unless, printed_by, refused_by}

-- a processor has gone out
pub record GoesOut (cpu : ℕ) (before after : NotifyPlay) : Type 0 where
  pub regs : List ℕ
  pub lines : after.play.lines ≡ before.play.lines ++ Ret cpu regs ∷ []
  pub lane : List ℕ
  pub put : after.play.lanes ≡ slice_set before.play.lanes cpu lane
  pub longer : length (lane_of before.play cpu) ≤ length (lane_of after.play cpu)
  pub others : (other : ℕ) → (other ≡ cpu → ⊥) → lane_of after.play other ≡ lane_of before.play other

-- none has: no line `ret` is printed
pub record StaysIn (before after : NotifyPlay) : Type 0 where
  pub lines : List Line
  pub are : after.play.lines ≡ before.play.lines ++ lines
  pub none : returns_in lines ≡ []

stays-not : (before after : NotifyPlay) → after.play.lines ≡ before.play.lines → StaysIn before after
stays-not before after same = record { lines = []; are = same ∙ sym (append-nil before.play.lines); none = refl }

-- ---- entries

pub record ComesIn (before after : NotifyPlay) : Type 0 where
  pub lines : after.play.lines ≡ before.play.lines
  pub lanes : after.play.lanes ≡ before.play.lanes

pub comes : (boot : Booted) (cpu steps : ℕ) (regs : List Reg) (before after : NotifyPlay)
    → comes_in boot cpu steps regs before ≡ Some after → ComesIn before after
comes boot cpu steps regs before after e =
    let visit = visit_with before cpu steps regs in
    let came = option_map_some (with_play before) (enters boot before.play visit) after e in
    let entry = entered boot visit before.play came.0 came.1 in
    record {
      lines = ap (λ (n : NotifyPlay). n.play.lines) (sym came.2) ∙ entry-lines boot visit before.play came.0 entry;
      lanes = ap (λ (n : NotifyPlay). n.play.lanes) (sym came.2) ∙ entry_lanes boot visit before.play came.0 entry;
    }

-- ---- exits

goes : (boot : Booted) (drivers : Drivers) (cpu : ℕ) (before after : NotifyPlay)
    → goes_out boot drivers cpu before ≡ Some after → GoesOut cpu before after
goes boot drivers cpu before after e =
    option_and_then_some (goes_out_with boot drivers before cpu) (exit before.play.kernel cpu) after e
    (λ (exited : Exited) found onward.
    let event : Event = Exit cpu (record { a = exited.regs }) in
    let duty : Duty = duty_at before cpu exited in
    let came = option_map_some (tells drivers before cpu exited duty) (with_event boot event before.play) after onward in
    let gone : Play = came.0 in
    let regs : List ℕ = told_regs (desk_of drivers before) (last_entry before.play.history cpu).regs exited.regs duty in
    let writes : List Write = exited.writes ++ told_writes drivers (desk_of drivers before) duty in
    let made : NotifyPlay = tells drivers before cpu exited duty gone in
    let wrote : length (lane_of gone cpu) ≤ length (lane_of made.play cpu) = (writes_kept cpu writes gone).bytes cpu in
    let was = ap (λ (lanes : List (List ℕ)). length (slice_index_or lanes cpu [])) (event_lanes boot event before.play gone came.1) in
    let is = ap (λ (n : NotifyPlay). length (lane_of n.play cpu)) came.2 in
    record {
      regs = regs;
      lines = ap (λ (n : NotifyPlay). n.play.lines) (sym came.2)
          ∙ ap (λ (l : List Line). l ++ Ret cpu regs ∷ []) (event-lines boot event before.play gone came.1);
      lane = lane_after (lane_of gone cpu) writes;
      put = ap (λ (n : NotifyPlay). n.play.lanes) (sym came.2)
          ∙ ap (λ (lanes : List (List ℕ)). slice_set lanes cpu (lane_after (lane_of gone cpu) writes))
          (event_lanes boot event before.play gone came.1);
      longer = omega (arith, wrote, was, is);
      others = λ other apart.
          ap (λ (n : NotifyPlay). lane_of n.play other) (sym came.2)
          ∙ get_or-set_other gone.lanes cpu other (lane_after (lane_of gone cpu) writes) [] apart
          ∙ ap (λ (lanes : List (List ℕ)). slice_index_or lanes other [])
          (event_lanes boot event before.play gone came.1);
    })

-- behind an entry, unless that was refused
goes-behind : (boot : Booted) (drivers : Drivers) (cpu : ℕ) (before between after : NotifyPlay) → ComesIn before between
    → (refused : Option ℕ) → between.play.refused ≡ refused
    → option_map_or (λ more. Some between) refused (goes_out boot drivers cpu between) ≡ Some after
    → after.play.refused ≡ None → GoesOut cpu before after
goes-behind boot drivers cpu before between after came None is e going =
    let out = goes boot drivers cpu between after e in
    let was = ap (λ (lanes : List (List ℕ)). length (slice_index_or lanes cpu [])) came.lanes in
    record {
      regs = out.regs;
      lines = out.lines ∙ ap (λ (l : List Line). l ++ Ret cpu out.regs ∷ []) came.lines;
      lane = out.lane;
      put = out.put ∙ ap (λ (lanes : List (List ℕ)). slice_set lanes cpu out.lane) came.lanes;
      longer = omega (arith, was, out.longer);
      others = λ other apart.
          out.others other apart ∙ ap (λ (lanes : List (List ℕ)). slice_index_or lanes other []) came.lanes;
    }
goes-behind boot drivers cpu before between after came (Some more) is e going =
    let same : between ≡ after = cc in
    let no : None ≡ Some more = sym going ∙ ap (λ (n : NotifyPlay). n.play.refused) (sym same) ∙ is in
    absurd cc

-- ---- items

-- an item by which a processor goes out
pub goes-out : (boot : Booted) (drivers : Drivers) (i : Item) (cpu : ℕ) (before after : NotifyPlay)
    → cpu_out_by i ≡ Some cpu → after_item boot drivers i before ≡ Some after → after.play.refused ≡ None
    → GoesOut cpu before after
goes-out boot drivers (item.Smc c steps regs) cpu before after out e going =
    let same : c ≡ cpu = cc in
    subst (λ (n : ℕ). GoesOut n before after) same
    (option_and_then_some (unless_refused (goes_out boot drivers c)) (comes_in boot c steps regs before) after e
    (λ (between : NotifyPlay) came onward.
    goes-behind boot drivers c before between after (comes boot c steps regs before between came) between.play.refused
    refl onward going))
goes-out boot drivers (item.Enter c steps regs) cpu before after out e going = absurd cc
goes-out boot drivers (item.Leave c) cpu before after out e going =
    let same : c ≡ cpu = cc in
    subst (λ (n : ℕ). GoesOut n before after) same (goes boot drivers c before after e)
goes-out boot drivers (item.Write c addr bytes) cpu before after out e going = absurd cc
goes-out boot drivers (item.Show c addr len) cpu before after out e going = absurd cc

-- and one by which none does
pub stays-in : (boot : Booted) (drivers : Drivers) (i : Item) (before after : NotifyPlay)
    → cpu_out_by i ≡ None → after_item boot drivers i before ≡ Some after → StaysIn before after
stays-in boot drivers (item.Smc cpu steps regs) before after none e = absurd cc
stays-in boot drivers (item.Enter cpu steps regs) before after none e =
    stays-not before after (comes boot cpu steps regs before after e).lines
stays-in boot drivers (item.Leave cpu) before after none e = absurd cc
stays-in boot drivers (item.Write cpu addr bytes) before after none e =
    stays-not before after (ap (λ (o : Option NotifyPlay). option_map_or (λ (n : NotifyPlay). n.play.lines) o []) (sym e))
stays-in boot drivers (item.Show cpu addr len) before after none e = record {
  lines = Mem cpu addr (bytes_at (lane_of before.play cpu) addr len) ∷ [];
  are = ap (λ (o : Option NotifyPlay). option_map_or (λ (n : NotifyPlay). n.play.lines) o []) (sym e);
  none = refl;
}

-- ---- steps

-- the processor that goes out by a step
abbrev pub step_out : Step → Option ℕ
step_out (Takes i) = cpu_out_by i
step_out (Signals value) = None

pub step-stays : (boot : Booted) (drivers : Drivers) (step : Step) (before after : NotifyPlay) → step_out step ≡ None
    → after_step boot drivers step before ≡ Some after → StaysIn before after
step-stays boot drivers (Takes i) before after none e = stays-in boot drivers i before after none e
step-stays boot drivers (Signals value) before after none e =
    stays-not before after (ap (λ (o : Option NotifyPlay). option_map_or (λ (n : NotifyPlay). n.play.lines) o []) (sym e))

pub step-goes : (boot : Booted) (drivers : Drivers) (step : Step) (cpu : ℕ) (before after : NotifyPlay)
    → step_out step ≡ Some cpu → after_step boot drivers step before ≡ Some after → after.play.refused ≡ None
    → GoesOut cpu before after
step-goes boot drivers (Takes i) cpu before after out e going = goes-out boot drivers i cpu before after out e going
step-goes boot drivers (Signals value) cpu before after out e going = absurd cc

-- ---- lines of a conversation

-- a step, unless an entry was refused before
abbrev pub step_on : Platform → Boot → Step → NotifyPlay → Option NotifyPlay
step_on on boot step told = unless_refused (after_step (booted boot on.natives) on.drivers step) told

-- these lines have a play that goes on, and by the step it comes to that one
pub record IsStepped (on : Platform) (boot : Boot) (step : Step) (before : NotifyFront) (next : NotifyPlay) : Type 0 where
  pub told : NotifyPlay
  pub was : play_at on before ≡ Some told
  pub came : after_step (booted boot on.natives) on.drivers step told ≡ Some next

-- where the lines behind it have a play
pub stepped : (on : Platform) (boot : Boot) (step : Step) (before after : NotifyFront) (next : NotifyPlay)
    → play_at on after ≡ option_and_then (step_on on boot step) (play_at on before)
    → refused_at on before ≡ None → play_at on after ≡ Some next → IsStepped on boot step before next
stepped on boot step before after next e going there = by (play_at on before) refl
  where
    by : (o : Option NotifyPlay) → play_at on before ≡ o → IsStepped on boot step before next
    by None is =
        let none : None ≡ Some next = sym (e ∙ ap (option_and_then (step_on on boot step)) is) ∙ there in
        absurd cc
    by (Some told) is =
        let moved : Option NotifyPlay = after_step (booted boot on.natives) on.drivers step told in
        let went_on : told.play.refused ≡ None = sym (ap refused_by is) ∙ going in
        let came : option_map_or (λ more. Some told) told.play.refused moved ≡ Some next =
        sym (e ∙ ap (option_and_then (step_on on boot step)) is) ∙ there in
        record {
          told = told;
          was = is;
          came = sym (ap (λ (o : Option ℕ). option_map_or (λ more. Some told) o moved) went_on) ∙ came;
        }

-- what the second of two plays has printed more
pub printed_more : (on : Platform) (before after : NotifyFront) (told next : NotifyPlay) → play_at on before ≡ Some told
    → play_at on after ≡ Some next
    → drop (length (printed_at on before)) (printed_at on after) ≡ drop (length told.play.lines) next.play.lines
printed_more on before after told next was is =
    ap (λ (l : List Line). drop (length l) (printed_at on after)) (ap printed_by was)
    ∙ ap (drop (length told.play.lines)) (ap printed_by is)

pub cut_front : (front all more : List Line) → all ≡ front ++ more → drop (length front) all ≡ more
cut_front front all more e = ap (drop (length front)) e ∙ drop-append_seam front more

-- by a step by which no processor goes out no line `ret` is printed
pub none_returned : (on : Platform) (boot : Boot) (step : Step) (before after : NotifyFront)
    → play_at on after ≡ option_and_then (step_on on boot step) (play_at on before) → refused_at on before ≡ None
    → step_out step ≡ None → returns_in (drop (length (printed_at on before)) (printed_at on after)) ≡ []
none_returned on boot step before after e going none = by (play_at on after) refl
  where
    by : (o : Option NotifyPlay) → play_at on after ≡ o
        → returns_in (drop (length (printed_at on before)) (printed_at on after)) ≡ []
    by None is =
        let count : ℕ = length (printed_at on before) in
        ap returns_in (ap (drop count) (ap printed_by is) ∙ drop-nil count)
    by (Some next) is =
        let s = stepped on boot step before after next e going is in
        let stays = step-stays (booted boot on.natives) on.drivers step s.told next none s.came in
        ap returns_in (printed_more on before after s.told next s.was is
        ∙ cut_front s.told.play.lines next.play.lines stays.lines stays.are) ∙ stays.none

-- and by one by which a processor does, that line alone
pub one_returned : (on : Platform) (boot : Boot) (step : Step) (cpu : ℕ) (before after : NotifyFront) (next : NotifyPlay)
    → play_at on after ≡ option_and_then (step_on on boot step) (play_at on before) → refused_at on before ≡ None
    → step_out step ≡ Some cpu → play_at on after ≡ Some next → next.play.refused ≡ None
    → (regs : List ℕ) × (drop (length (printed_at on before)) (printed_at on after) ≡ Ret cpu regs ∷ [])
one_returned on boot step cpu before after next e going out is went_on =
    let s = stepped on boot step before after next e going is in
    let goes = step-goes (booted boot on.natives) on.drivers step cpu s.told next out s.came went_on in (
      goes.regs,
      printed_more on before after s.told next s.was is
          ∙ cut_front s.told.play.lines next.play.lines (Ret cpu goes.regs ∷ []) goes.lines,
    )

-- where no entry is refused, that is answered
pub lines-done : (on : Platform) (before after : NotifyFront) → refused_at on after ≡ None
    → (answer_between on before after).lines ≡ drop (length (printed_at on before)) (printed_at on after)
lines-done on before after going = ap (λ (o : Option ℕ). (answer_unless on before after o).lines) going

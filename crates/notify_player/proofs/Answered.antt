-- What is told and written of an exit makes the play's exit of the kernel's.
use Rattle.std.proofs.Common.{◌≡◌, ℕ, ◌<◌, Bool, false, true, List, [], ◌∷◌, ◌++◌, length, Option, Some, refl, sym, ap, subst, ◌∙◌}
use Rattle.std.specs.Prelude.{◌==◌, if◌then◌else◌, OnOk, Result, Ok, Err, IfErr, slice_index_or, slice_set}
use Rattle.std.specs.Option.{option_and_then, option_map}
use Rattle.std.proofs.lemmas.List.{append-nil, append_cancel_left, get_or-set_other, get_or-set_same, length-set}
use Rattle.std.proofs.lemmas.Bool.Decides.{Decides-eqb}
use Rattle.core_machine.specs.Standing.{IsAt}
use Rattle.core_machine.specs.declared.machine.Machine.{Machine}
use Rattle.core_machine.specs.declared.smc.Told.{Told}
use Rattle.desk_answers.specs.Duties.{after_duty, duty_in, writes_of}
use Rattle.desk_answers.specs.declared.answering.ResultIn.{ResultIn}
use Rattle.desk_answers.specs.declared.duty.Duty.{Duty}
use Rattle.desk_answers.specs.declared.duty.Duty.TheVariants as duty
use Rattle.event_journal.specs.declared.event.Event.{Event}
use Rattle.event_journal.specs.declared.event.Event.TheVariants.{Exit}
use Rattle.event_log.specs.LastEntry as log
use Rattle.kernel_model.proofs.Parts.{option_map_some}
use Rattle.kernel_model.specs.Application.{Booted}
use Rattle.kernel_model.specs.Argument.{reg}
use Rattle.kernel_model.specs.Exit.{Exited}
use Rattle.kernel_model.specs.History.{after_event}
use Rattle.kernel_model.specs.Kernel.{Kernel}
use Rattle.kernel_state.specs.Meaning.{events_of}
use Rattle.notif.specs.Desk.{DeskState}
use Rattle.notif.specs.History.{DeskCall, desk_after}
use Rattle.notify_play.specs.Duty.{duty_of, last_entry}
use Rattle.notify_play.specs.Duty as play_duty
use Rattle.notify_play.specs.NotifyPlay.{Drivers, NotifyPlay, desk_of, duty_at, goes_out, goes_out_with, tells}
use Rattle.notify_play.specs.Told.{told_regs, told_writes, with_duty}
use Rattle.ns_ram.specs.Writes.{Write}
use Rattle.play_model.proofs.Entries.{Left, event_made, left}
use Rattle.play_model.proofs.LinesStay.{event_prints}
use Rattle.play_model.specs.Line.{Line, Ret, ret_line}
use Rattle.play_model.specs.Play.{Play, with_event, with_line, with_writes}
use Rattle.smc_abi.specs.declared.regs.Regs.{Regs}
use Rattle.trace_player.proofs.Answers.{same-told}
use Rattle.trace_player.specs.Items.{GoesOut}
use Rattle.trace_player.specs.Playing.{Prints}
use Rattle.trace_player.specs.Position.{Position, StandsAt, told_too}
use Rattle.trace_player.specs.declared.player.Player.{Player}
use Rattle.word_parts.specs.declared.stop.Stop.{Stop}
use Rattle.word_parts.specs.declared.stop.Stop.TheVariants.{Full, Failed, Memory}
use Rattle.notify_player.specs.Asking.{IsToldAlike, came_by}
use Rattle.notify_player.specs.Playing.{Follows, HasGone, position_in}
use Rattle.notify_player.specs.declared.player.NotifyPlayer.{NotifyPlayer}
use Rattle.notify_player.proofs.Entries.{before-exit}
use Rattle.notify_player.proofs.Wrote.{lanes-twice}

-- ---- the kernel's exit

with_event-lanes : (boot : Booted) (event : Event) (before after : Play) → with_event boot event before ≡ Some after
    → after.lanes ≡ before.lanes
with_event-lanes boot event before after e =
    let came = option_map_some
    (λ (next : Kernel). record before { kernel = next; history = before.history ++ event ∷ [] })
    (after_event boot before.kernel event) after e in
    ap (λ (p : Play). p.lanes) (sym came.2)

-- its parts, with the registers that were answered
pub record Went (boot : Booted) (at : Position) (answered : Told) (next : Play) : Type 0 where
  pub out : Left boot answered.cpu at.play next
  pub regs : out.exited.regs ≡ answered.regs.a

pub went : (boot : Booted) (at : Position) (answered : Told) (player : Player) → (goes : GoesOut boot at answered player)
    → Went boot at answered goes.next
went boot at answered player goes =
    let cpu = answered.cpu in
    let play = at.play in
    let out = left boot cpu play goes.next goes.leaves in
    let gone = event_prints boot (Exit cpu (record { a = out.exited.regs })) play out.gone out.came in
    let here : play.lines ++ Ret cpu out.exited.regs ∷ [] ≡ goes.next.lines =
    ap (λ (ls : List Line). ls ++ Ret cpu out.exited.regs ∷ []) (sym gone) ∙ ap (λ (p : Play). p.lines) out.is in
    let cut = append_cancel_left play.lines (Ret cpu out.exited.regs ∷ []) (Ret cpu answered.regs.a ∷ [])
    (here ∙ goes.line) in
    let same : out.exited.regs ≡ answered.regs.a = cc in
    record { out = out; regs = same }

-- the last entry that the core tells of it is the last before its exit
pub entry-before : (boot : Booted) (drivers : Drivers) (told : NotifyPlay) (answered : Told) (player : NotifyPlayer)
    (entry : Option Event) → HasGone boot drivers told answered player
    → entry ≡ log.last_entry answered.cpu (events_of player.player.machine.at_work.core)
    → came_by entry ≡ last_entry told.play.history answered.cpu
entry-before boot drivers told answered player entry gone is =
    let cpu = answered.cpu in
    let w = went boot (position_in told) answered player.player gone.goes in
    let out : Regs = record { a = w.out.exited.regs } in
    let made = event_made boot (Exit cpu out) told.play w.out.gone w.out.came in
    ap came_by is
    ∙ ap (λ (h : List Event). came_by (log.last_entry cpu h))
    (gone.goes.stands.machine.history ∙ ap (λ (p : Play). p.history) (sym w.out.is) ∙ made.0)
    ∙ before-exit told.play.history cpu out cpu

-- ---- what the desk makes of it

-- one of a list was told this
told-list : (told : List (List ℕ)) (cpu : ℕ) (regs : List ℕ) → cpu < length told → (other : ℕ)
    → (if cpu == other then regs else slice_index_or told other []) ≡ slice_index_or (slice_set told cpu regs) other []
told-list told cpu regs within other = by (cpu == other) refl
  where
    by : (own : Bool) → (cpu == other) ≡ own
        → (if own then regs else slice_index_or told other []) ≡ slice_index_or (slice_set told cpu regs) other []
    by true e =
        let one : cpu ≡ other = (Decides-eqb cpu other).0 e in
        subst (λ (n : ℕ). regs ≡ slice_index_or (slice_set told cpu regs) n []) one (sym (get_or-set_same told cpu regs [] within))
    by false e =
        let apart : other ≡ cpu → ⊥ = λ one. let also : (cpu == other) ≡ true = (Decides-eqb cpu other).1 (sym one) in absurd cc in
        sym (get_or-set_other told cpu other regs [] apart)

-- the machine stands at the kernel's play with what the desk writes: so it does at the play with all writes and any line
told-at : (boot : Booted) (cpu : ℕ) (gone : Play) (line other : Line) (first second : List Write) (machine : Machine)
    → cpu < length gone.lanes
    → IsAt boot (with_writes cpu second (with_line line (with_writes cpu first gone))) machine
    → IsAt boot (with_line other (with_writes cpu (first ++ second) gone)) machine
told-at boot cpu gone line other first second machine within at = record {
  booted = at.booted;
  history = at.history;
  kernel = at.kernel;
  limit = at.limit;
  lanes = at.lanes ∙ lanes-twice gone.lanes cpu first second within;
  goes_on = at.goes_on;
}

-- the desk after a duty is that after the calls which the duty makes
desk-more : (drivers : Drivers) (calls : List DeskCall) (asked : Duty)
    → after_duty (desk_after drivers calls) asked ≡ desk_after drivers (with_duty (duty_in asked) calls)
desk-more drivers calls duty.Nothing = refl
desk-more drivers calls duty.TellsValue = refl
desk-more drivers calls duty.Enables = refl
desk-more drivers calls duty.Offers = refl
desk-more drivers calls (duty.RunsBottomHalf arg) = refl
desk-more drivers calls (duty.Stops arg) = refl

-- what was asked, told and written at an exit
pub record HasTold (boot : Booted) (drivers : Drivers) (told : NotifyPlay) (answered : Told) (before after : NotifyPlayer)
    (next : Play) : Type 0 where
  pub caller : Regs
  pub asked : Duty
  pub duty : duty_in asked ≡ duty_of (last_entry told.play.history answered.cpu) (reg answered.regs.a 0)
  pub alike : IsToldAlike (last_entry told.play.history answered.cpu).regs caller.a (duty_in asked)
  pub regs : Regs
  pub told_so : regs.a ≡ told_regs before.desk caller.a answered.regs.a (duty_in asked)
  pub result : Option ResultIn
  pub writes : writes_of result ≡ told_writes drivers before.desk (duty_in asked)
  pub at : StandsAt boot
      (told_too answered.cpu regs.a (record (position_in told) { play = with_writes answered.cpu (writes_of result) next }))
      after.player
  pub desk : after.desk ≡ after_duty before.desk asked

module _ (boot : Booted) (drivers : Drivers) (told : NotifyPlay) (answered : Told) (before after : NotifyPlayer)
    (goes : HasGone boot drivers told answered before) (lanes : length goes.goes.next.lanes ≡ boot.cpus)
    (there : answered.cpu < boot.cpus) (t : HasTold boot drivers told answered before after goes.goes.next) where
  abbrev cpu : ℕ
  cpu = answered.cpu

  w : Went boot (position_in told) answered goes.goes.next
  w = went boot (position_in told) answered before.player goes.goes

  abbrev exited : Exited
  exited = w.out.exited

  abbrev at_exit : play_duty.Duty
  at_exit = duty_at told cpu exited

  same_duty : duty_in t.asked ≡ at_exit
  same_duty =
      t.duty
      ∙ ap (λ (a : List ℕ). duty_of (last_entry told.play.history cpu) (reg a 0)) (sym w.regs)

  abbrev wanted : List ℕ
  wanted = told_regs (desk_of drivers told) (last_entry told.play.history cpu).regs exited.regs at_exit

  same_regs : t.regs.a ≡ wanted
  same_regs =
      t.told_so
      ∙ sym (t.alike before.desk answered.regs.a)
      ∙ ap (λ (d : DeskState). told_regs d (last_entry told.play.history cpu).regs answered.regs.a (duty_in t.asked)) goes.desk
      ∙ ap (λ (a : List ℕ). told_regs (desk_of drivers told) (last_entry told.play.history cpu).regs a (duty_in t.asked))
      (sym w.regs)
      ∙ ap (told_regs (desk_of drivers told) (last_entry told.play.history cpu).regs exited.regs) same_duty

  same_writes : writes_of t.result ≡ told_writes drivers (desk_of drivers told) at_exit
  same_writes =
      t.writes
      ∙ ap (λ (d : DeskState). told_writes drivers d (duty_in t.asked)) goes.desk
      ∙ ap (told_writes drivers (desk_of drivers told)) same_duty

  abbrev next : NotifyPlay
  next = tells drivers told cpu exited at_exit w.out.gone

  goes_so : goes_out boot drivers cpu told ≡ Some next
  goes_so =
      ap (option_and_then (goes_out_with boot drivers told cpu)) w.out.there
      ∙ ap (option_map (tells drivers told cpu exited at_exit)) w.out.came

  gone_lanes : cpu < length w.out.gone.lanes
  gone_lanes =
      let made : length goes.goes.next.lanes ≡ length w.out.gone.lanes =
      ap (λ (p : Play). length p.lanes) (sym w.out.is) ∙ length-set w.out.gone.lanes cpu _ in
      subst (λ (n : ℕ). cpu < n) (sym lanes ∙ made) there

  at_next : StandsAt boot (position_in next) after.player
  at_next =
      let made = with_line (Ret cpu exited.regs) (with_writes cpu exited.writes w.out.gone) in
      let desk_writes = told_writes drivers (desk_of drivers told) at_exit in
      let there_at : IsAt boot (with_writes cpu (writes_of t.result) made) after.player.machine =
      subst (λ (p : Play). IsAt boot (with_writes cpu (writes_of t.result) p) after.player.machine) (sym w.out.is) t.at.machine in
      same-told boot next.play (λ other. if cpu == other then t.regs.a else slice_index_or told.answers other [])
      (λ other. slice_index_or next.answers other []) after.player
      (λ other below.
      ap (λ (a : List ℕ). if cpu == other then a else slice_index_or told.answers other []) same_regs
      ∙ told-list told.answers cpu wanted (subst (λ (n : ℕ). cpu < n) (sym goes.count) there) other)
      (record {
        machine =
            told-at boot cpu w.out.gone (Ret cpu exited.regs) (Ret cpu wanted) exited.writes desk_writes after.player.machine
            gone_lanes
            (subst (λ (ws : List Write). IsAt boot (with_writes cpu ws made) after.player.machine) same_writes there_at);
        answers = t.at.answers;
      })

  desk_next : after.desk ≡ desk_of drivers next
  desk_next =
      t.desk
      ∙ ap (λ (d : DeskState). after_duty d t.asked) goes.desk
      ∙ desk-more drivers told.calls t.asked
      ∙ ap (λ (d : play_duty.Duty). desk_after drivers (with_duty d told.calls)) same_duty

  prints : (old new : List ℕ) → new ≡ old ++ ret_line cpu t.regs.a → Prints told.play next.play old new
  prints old new put =
      let gone = event_prints boot (Exit cpu (record { a = exited.regs })) told.play w.out.gone w.out.came in (
        Ret cpu wanted ∷ [],
        ap (λ (ls : List Line). ls ++ Ret cpu wanted ∷ []) gone,
        put ∙ ap (λ (a : List ℕ). old ++ ret_line cpu a) same_regs
            ∙ ap (λ (text : List ℕ). old ++ text) (sym (append-nil (ret_line cpu wanted))),
      )

  pub told-follows : (result : Result (Unit {0}) Stop) (old new : List ℕ)
      → OnOk result (new ≡ old ++ ret_line cpu t.regs.a) → IfErr result (λ stop. stop ≡ Memory)
      → Follows boot drivers told (goes_out boot drivers cpu told) result after old new
  told-follows (Ok done) old new put memory = (
    next,
    goes_so,
    record {
      at = at_next;
      count = length-set told.answers cpu wanted ∙ goes.count;
      desk = desk_next;
    },
    prints old new put,
  )
  told-follows (Err Full) old new put memory = absurd cc
  told-follows (Err Failed) old new put memory = absurd cc
  told-follows (Err Memory) old new put memory = tt

-- Each line `ret` that a play with signals prints is of an exit in its history, in their order.
use Rattle.std.proofs.Common.{◌≡◌, ℕ, List, [], ◌∷◌, ◌++◌, Option, Some, None, refl, sym, ap, subst, ◌∙◌, append_assoc, append-nil}
use Rattle.std.specs.List.{AllZip}
use Rattle.std.specs.Option.{option_map, option_map_or}
use Rattle.std.proofs.lemmas.Option.{option_and_then_some}
use Rattle.event_journal.specs.declared.event.Event.{Event}
use Rattle.event_journal.specs.declared.event.Event.TheVariants.{Entry, Exit}
use Rattle.kernel_model.specs.Application.{Booted}
use Rattle.kernel_model.specs.Exit.{Exited, exit}
use Rattle.kernel_model.specs.Kernel.{Visit}
use Rattle.kernel_model.proofs.Parts.{option_map_some}
use Rattle.notify_play.specs.Duty.{last_entry}
use Rattle.notify_play.specs.NotifyPlay.{Drivers, NotifyPlay, after_item, after_step, after_steps, comes_in, desk_of, duty_at, goes_out, goes_out_with, tells, unless_refused, visit_with, with_play}
use Rattle.notify_play.specs.Told.{told_regs}
use Rattle.notify_text.specs.Steps.{Signals, Step, Takes}
use Rattle.play_model.specs.Line.{Line, Mem, Ret}
use Rattle.play_model.specs.Play.{Play, enters, with_event}
use Rattle.play_model.specs.Play as trace_play
use Rattle.play_model.proofs.Entries.{CameIn, Entered, WasRefused, entered, event_made}
use Rattle.trace_text.specs.declared.item.Item.{Item}
use Rattle.trace_text.specs.declared.item.Item.TheVariants as item
use Rattle.trace_text.specs.declared.item.Reg.{Reg}
use Rattle.live_play.specs.Returns.{ExitAt, IsReturnOf, Return, exit_at, exits_behind, exits_in, return, returns_in}
use Rattle.live_play.proofs.Grown.{entry-lines, event-lines}

-- ---- more events, or a line more

pub exits-append : (before events more : List Event)
    → exits_behind before (events ++ more) ≡ exits_behind before events ++ exits_behind (before ++ events) more
exits-append before [] more = ap (λ (l : List Event). exits_behind l more) (sym (append-nil before))
exits-append before (Entry c r s d ∷ events) more =
    exits-append (before ++ Entry c r s d ∷ []) events more
    ∙ ap (λ (l : List Event). exits_behind (before ++ Entry c r s d ∷ []) events ++ exits_behind l more)
    (append_assoc before (Entry c r s d ∷ []) events)
exits-append before (Exit c r ∷ events) more =
    ap (λ (l : List ExitAt). exit_at before c r.a ∷ l)
    (exits-append (before ++ Exit c r ∷ []) events more
    ∙ ap (λ (l : List Event). exits_behind (before ++ Exit c r ∷ []) events ++ exits_behind l more)
    (append_assoc before (Exit c r ∷ []) events))

returns-ret : (lines : List Line) (cpu : ℕ) (regs : List ℕ)
    → returns_in (lines ++ Ret cpu regs ∷ []) ≡ returns_in lines ++ return cpu regs ∷ []
returns-ret [] cpu regs = refl
returns-ret (Ret c r ∷ lines) cpu regs = ap (λ (l : List Return). return c r ∷ l) (returns-ret lines cpu regs)
returns-ret (Mem c a b ∷ lines) cpu regs = returns-ret lines cpu regs

returns-mem : (lines : List Line) (cpu addr : ℕ) (bytes : List ℕ)
    → returns_in (lines ++ Mem cpu addr bytes ∷ []) ≡ returns_in lines
returns-mem [] cpu addr bytes = refl
returns-mem (Ret c r ∷ lines) cpu addr bytes = ap (λ (l : List Return). return c r ∷ l) (returns-mem lines cpu addr bytes)
returns-mem (Mem c a b ∷ lines) cpu addr bytes = returns-mem lines cpu addr bytes

-- one exit and its line more
zip_push : (drivers : Drivers) (exits : List ExitAt) (returns : List Return) (gone : ExitAt) (told : Return)
    → AllZip (IsReturnOf drivers) exits returns → IsReturnOf drivers gone told
    → AllZip (IsReturnOf drivers) (exits ++ gone ∷ []) (returns ++ told ∷ [])
zip_push drivers [] [] gone told are is = (is, tt)
zip_push drivers [] (r ∷ returns) gone told are is = absurd are
zip_push drivers (e ∷ exits) [] gone told are is = absurd are
zip_push drivers (e ∷ exits) (r ∷ returns) gone told are is = (are.0, zip_push drivers exits returns gone told are.1 is)

-- ---- a play

abbrev pub AreReturned : Drivers → NotifyPlay → Type 0
AreReturned drivers told =
    AllZip (IsReturnOf drivers) (exits_in told.play.history) (returns_in told.play.lines)

same_returned : (drivers : Drivers) (before after : NotifyPlay)
    → exits_in after.play.history ≡ exits_in before.play.history
    → returns_in after.play.lines ≡ returns_in before.play.lines → AreReturned drivers before → AreReturned drivers after
same_returned drivers before after exits returns are =
    let P : List ExitAt → Type 0 = λ l. AllZip (IsReturnOf drivers) l (returns_in after.play.lines) in
    let Q : List Return → Type 0 = λ l. AllZip (IsReturnOf drivers) (exits_in before.play.history) l in
    subst P (sym exits) (subst Q (sym returns) are)

more_returned : (drivers : Drivers) (before after : NotifyPlay) (gone : ExitAt) (told : Return)
    → exits_in after.play.history ≡ exits_in before.play.history ++ gone ∷ []
    → returns_in after.play.lines ≡ returns_in before.play.lines ++ told ∷ [] → IsReturnOf drivers gone told
    → AreReturned drivers before → AreReturned drivers after
more_returned drivers before after gone told exits returns is are =
    let P : List ExitAt → Type 0 = λ l. AllZip (IsReturnOf drivers) l (returns_in after.play.lines) in
    let Q : List Return → Type 0 =
    λ l. AllZip (IsReturnOf drivers) (exits_in before.play.history ++ gone ∷ []) l in
    subst P (sym exits) (subst Q (sym returns)
    (zip_push drivers (exits_in before.play.history) (returns_in before.play.lines) gone told are is))

entry-exits : (boot : Booted) (visit : Visit) (before after : Play) → Entered boot visit before after
    → exits_in after.history ≡ exits_in before.history
entry-exits boot visit before after (CameIn reads few e) =
    let event : Event = Entry visit.cpu (record { a = visit.regs }) visit.steps reads in
    ap exits_in (event_made boot event before after e).0
    ∙ exits-append [] before.history (event ∷ [])
    ∙ append-nil (exits_in before.history)
entry-exits boot visit before after (WasRefused reads much is) = ap (λ (p : Play). exits_in p.history) (sym is)

module _ (boot : Booted) (drivers : Drivers) where
  comes-returned : (cpu steps : ℕ) (regs : List Reg) (before after : NotifyPlay)
      → comes_in boot cpu steps regs before ≡ Some after → AreReturned drivers before → AreReturned drivers after
  comes-returned cpu steps regs before after e are =
      let visit = visit_with before cpu steps regs in
      let came = option_map_some (with_play before) (enters boot before.play visit) after e in
      let entry = entered boot visit before.play came.0 came.1 in
      same_returned drivers before after
      (ap (λ (n : NotifyPlay). exits_in n.play.history) (sym came.2) ∙ entry-exits boot visit before.play came.0 entry)
      (ap (λ (n : NotifyPlay). returns_in n.play.lines) (sym came.2)
      ∙ ap returns_in (entry-lines boot visit before.play came.0 entry))
      are

  goes-returned : (cpu : ℕ) (before after : NotifyPlay) → goes_out boot drivers cpu before ≡ Some after
      → AreReturned drivers before → AreReturned drivers after
  goes-returned cpu before after e are =
      option_and_then_some (goes_out_with boot drivers before cpu) (exit before.play.kernel cpu) after e
      (λ (exited : Exited) found onward.
      let event : Event = Exit cpu (record { a = exited.regs }) in
      let came = option_map_some (tells drivers before cpu exited (duty_at before cpu exited))
      (with_event boot event before.play) after onward in
      let caller : List ℕ = (last_entry before.play.history cpu).regs in
      let regs : List ℕ = told_regs (desk_of drivers before) caller exited.regs (duty_at before cpu exited) in
      more_returned drivers before after (exit_at before.play.history cpu exited.regs) (return cpu regs)
      (ap (λ (n : NotifyPlay). exits_in n.play.history) (sym came.2)
      ∙ ap exits_in (event_made boot event before.play came.0 came.1).0
      ∙ exits-append [] before.play.history (event ∷ []))
      (ap (λ (n : NotifyPlay). returns_in n.play.lines) (sym came.2)
      ∙ ap (λ (l : List Line). returns_in (l ++ Ret cpu regs ∷ [])) (event-lines boot event before.play came.0 came.1)
      ∙ returns-ret before.play.lines cpu regs)
      (record {
        cpu = refl;
        calls = before.calls;
        regs = refl;
        kernel = λ none. ap (told_regs (desk_of drivers before) caller exited.regs) none;
      })
      are)

  ram-returned : (i : Item) (before after : NotifyPlay)
      → ((next : Play) → trace_play.after_item boot i before.play ≡ Some next → next.history ≡ before.play.history)
      → ((next : Play) → trace_play.after_item boot i before.play ≡ Some next
      → returns_in next.lines ≡ returns_in before.play.lines)
      → option_map (with_play before) (trace_play.after_item boot i before.play) ≡ Some after
      → AreReturned drivers before → AreReturned drivers after
  ram-returned i before after history returns e are =
      let came = option_map_some (with_play before) (trace_play.after_item boot i before.play) after e in
      same_returned drivers before after
      (ap (λ (n : NotifyPlay). exits_in n.play.history) (sym came.2) ∙ ap exits_in (history came.0 came.1))
      (ap (λ (n : NotifyPlay). returns_in n.play.lines) (sym came.2) ∙ returns came.0 came.1)
      are

  -- what follows, unless an entry was refused
  unless-returned : (onward : NotifyPlay → Option NotifyPlay) (before after : NotifyPlay)
      → ((next : NotifyPlay) → onward before ≡ Some next → AreReturned drivers before → AreReturned drivers next)
      → (refused : Option ℕ) → option_map_or (λ more. Some before) refused (onward before) ≡ Some after
      → AreReturned drivers before → AreReturned drivers after
  unless-returned onward before after goes None e are = goes after e are
  unless-returned onward before after goes (Some more) e are =
      let same : before ≡ after = cc in subst (AreReturned drivers) same are

  item-returned : (i : Item) (before after : NotifyPlay) → after_item boot drivers i before ≡ Some after
      → AreReturned drivers before → AreReturned drivers after
  item-returned (item.Smc cpu steps regs) before after e are =
      option_and_then_some (unless_refused (goes_out boot drivers cpu)) (comes_in boot cpu steps regs before) after e
      (λ (between : NotifyPlay) came onward.
      unless-returned (goes_out boot drivers cpu) between after (goes-returned cpu between) between.play.refused onward
      (comes-returned cpu steps regs before between came are))
  item-returned (item.Enter cpu steps regs) before after e are = comes-returned cpu steps regs before after e are
  item-returned (item.Leave cpu) before after e are = goes-returned cpu before after e are
  item-returned (item.Write cpu addr bytes) before after e are =
      ram-returned (item.Write cpu addr bytes) before after
      (λ (next : Play) is. ap (λ (o : Option Play). option_map_or (λ (p : Play). p.history) o []) (sym is))
      (λ (next : Play) is. ap (λ (o : Option Play). option_map_or (λ (p : Play). returns_in p.lines) o []) (sym is))
      e are
  item-returned (item.Show cpu addr len) before after e are =
      ram-returned (item.Show cpu addr len) before after
      (λ (next : Play) is. ap (λ (o : Option Play). option_map_or (λ (p : Play). p.history) o []) (sym is))
      (λ (next : Play) is. ap (λ (o : Option Play). option_map_or (λ (p : Play). returns_in p.lines) o []) (sym is)
      ∙ returns-mem before.play.lines _ _ _)
      e are

  step-returned : (step : Step) (before next : NotifyPlay) → after_step boot drivers step before ≡ Some next
      → AreReturned drivers before → AreReturned drivers next
  step-returned (Takes i) before next e are = item-returned i before next e are
  step-returned (Signals value) before next e are =
      same_returned drivers before next
      (ap (λ (o : Option NotifyPlay). option_map_or (λ (n : NotifyPlay). exits_in n.play.history) o []) (sym e))
      (ap (λ (o : Option NotifyPlay). option_map_or (λ (n : NotifyPlay). returns_in n.play.lines) o []) (sym e))
      are

  -- from each play on
  pub steps_returned : (steps : List Step) (before after : NotifyPlay) → after_steps boot drivers steps before ≡ Some after
      → AreReturned drivers before → AreReturned drivers after
  steps_returned [] before after e are =
      let same : before ≡ after = cc in subst (AreReturned drivers) same are
  steps_returned (first ∷ steps) before after e are =
      option_and_then_some (λ (next : NotifyPlay). after_steps boot drivers steps next)
      (unless_refused (after_step boot drivers first) before) after e
      (λ (next : NotifyPlay) came onward.
      steps_returned steps next after onward
      (unless-returned (after_step boot drivers first) before next (step-returned first before) before.play.refused came are))

-- How much entries may read: it stays as it is, an entry that is refused would have read more, and a step by which none is refused
-- is the same where they may read more.
use Rattle.std.proofs.Common.{◌≡◌, ℕ, ◌+◌, ◌<◌, ◌≤◌, Bool, true, false, List, [], ◌∷◌, ◌++◌, Option, Some, None, refl, sym, ap, subst, ◌∙◌, arith}
use Rattle.std.specs.Prelude.{nat_lt, if◌then◌else◌}
use Rattle.std.specs.Option.{option_and_then, option_map, option_map_or}
use Rattle.std.proofs.lemmas.Bool.{ltb-false}
use Rattle.std.proofs.lemmas.Bool.Decides.{Decides-ltb}
use Rattle.std.proofs.lemmas.Option.{option_and_then_some}
use Rattle.event_journal.specs.Journal.{copied_bytes}
use Rattle.event_journal.specs.declared.event.Event.{Event}
use Rattle.event_journal.specs.declared.event.Event.TheVariants.{Exit}
use Rattle.kernel_model.specs.Application.{Booted}
use Rattle.kernel_model.specs.Exit.{Exited, exit}
use Rattle.kernel_model.specs.History.{after_event}
use Rattle.kernel_model.specs.Kernel.{Kernel, Visit}
use Rattle.kernel_model.proofs.Parts.{option_map_some}
use Rattle.notify_play.specs.NotifyPlay.{Drivers, NotifyPlay, after_item, after_step, after_steps, comes_in, duty_at, goes_out, goes_out_with, tells, unless_refused, visit_with, with_play}
use Rattle.notify_text.specs.Steps.{Signals, Step, Takes}
use Rattle.ns_ram.specs.Reads.{total_bytes}
use Rattle.ns_ram.specs.declared.read.Read.{Read}
use Rattle.play_model.specs.Play.{Play, enters, enters_with, entry_event, reads_of, with_event}
use Rattle.play_model.proofs.Entries.{CameIn, Entered, WasRefused, entered, event_limit, event_made}
use Rattle.trace_text.specs.declared.item.Item.{Item}
use Rattle.trace_text.specs.declared.item.Item.TheVariants as item
use Rattle.trace_text.specs.declared.item.Reg.{Reg}
use Rattle.live_play.proofs.Talking.{refused_by}

-- ---- a step

-- as much may be read as before, and an entry that was refused would have brought what was read above that
pub record Reads (before after : Play) : Type 0 where
  pub limit : after.most_bytes ≡ before.most_bytes
  pub much : (more : ℕ) → before.refused ≡ None → after.refused ≡ Some more → before.most_bytes < copied_bytes before.history + more

reads-going : (before after : Play) → after.most_bytes ≡ before.most_bytes → after.refused ≡ before.refused → Reads before after
reads-going before after limit same = record {
  limit = limit;
  much = λ more going refused. let no : None ≡ Some more = sym (same ∙ going) ∙ refused in absurd cc;
}

entry_reads : (boot : Booted) (visit : Visit) (before after : Play) → Entered boot visit before after → Reads before after
entry_reads boot visit before after (CameIn reads few came) =
    let event : Event = entry_event visit reads in
    reads-going before after (event_limit boot event before after came) (event_made boot event before after came).1
entry_reads boot visit before after (WasRefused reads much is) = record {
  limit = ap (λ (p : Play). p.most_bytes) (sym is);
  much = λ more going refused.
      let e : Some (total_bytes reads) ≡ Some more = ap (λ (p : Play). p.refused) is ∙ refused in
      let same : total_bytes reads ≡ more = cc in
      subst (λ (n : ℕ). before.most_bytes < copied_bytes before.history + n) same much;
}

comes_reads : (boot : Booted) (cpu steps : ℕ) (regs : List Reg) (before after : NotifyPlay)
    → comes_in boot cpu steps regs before ≡ Some after → Reads before.play after.play
comes_reads boot cpu steps regs before after e =
    let visit = visit_with before cpu steps regs in
    let came = option_map_some (with_play before) (enters boot before.play visit) after e in
    subst (λ (n : NotifyPlay). Reads before.play n.play) came.2
    (entry_reads boot visit before.play came.0 (entered boot visit before.play came.0 came.1))

record Same (before after : Play) : Type 0 where
  limit : after.most_bytes ≡ before.most_bytes
  refused : after.refused ≡ before.refused

goes_same : (boot : Booted) (drivers : Drivers) (cpu : ℕ) (before after : NotifyPlay)
    → goes_out boot drivers cpu before ≡ Some after → Same before.play after.play
goes_same boot drivers cpu before after e =
    option_and_then_some (goes_out_with boot drivers before cpu) (exit before.play.kernel cpu) after e
    (λ (exited : Exited) found onward.
    let event : Event = Exit cpu (record { a = exited.regs }) in
    let came = option_map_some (tells drivers before cpu exited (duty_at before cpu exited)) (with_event boot event before.play) after onward in
    record {
      limit = ap (λ (n : NotifyPlay). n.play.most_bytes) (sym came.2) ∙ event_limit boot event before.play came.0 came.1;
      refused = ap (λ (n : NotifyPlay). n.play.refused) (sym came.2) ∙ (event_made boot event before.play came.0 came.1).1;
    })

-- behind an entry, unless that was refused
goes-behind : (boot : Booted) (drivers : Drivers) (cpu : ℕ) (before between after : NotifyPlay) → Reads before.play between.play
    → (refused : Option ℕ) → between.play.refused ≡ refused
    → option_map_or (λ more. Some between) refused (goes_out boot drivers cpu between) ≡ Some after
    → Reads before.play after.play
goes-behind boot drivers cpu before between after reads None is e =
    let out = goes_same boot drivers cpu between after e in
    record {
      limit = out.limit ∙ reads.limit;
      much = λ more going refused. let no : None ≡ Some more = sym (out.refused ∙ is) ∙ refused in absurd cc;
    }
goes-behind boot drivers cpu before between after reads (Some most) is e =
    let same : between ≡ after = cc in
    subst (λ (n : NotifyPlay). Reads before.play n.play) same reads

item_reads : (boot : Booted) (drivers : Drivers) (i : Item) (before after : NotifyPlay)
    → after_item boot drivers i before ≡ Some after → Reads before.play after.play
item_reads boot drivers (item.Smc cpu steps regs) before after e =
    option_and_then_some (unless_refused (goes_out boot drivers cpu)) (comes_in boot cpu steps regs before) after e
    (λ (between : NotifyPlay) came onward.
    goes-behind boot drivers cpu before between after (comes_reads boot cpu steps regs before between came) between.play.refused refl onward)
item_reads boot drivers (item.Enter cpu steps regs) before after e = comes_reads boot cpu steps regs before after e
item_reads boot drivers (item.Leave cpu) before after e =
    let out = goes_same boot drivers cpu before after e in
    reads-going before.play after.play out.limit out.refused
item_reads boot drivers (item.Write cpu addr bytes) before after e =
    let play = ap (λ (o : Option NotifyPlay). option_map_or (λ (n : NotifyPlay). n.play) o before.play) (sym e) in
    reads-going before.play after.play (ap (λ (p : Play). p.most_bytes) play) (ap (λ (p : Play). p.refused) play)
item_reads boot drivers (item.Show cpu addr len) before after e =
    let play = ap (λ (o : Option NotifyPlay). option_map_or (λ (n : NotifyPlay). n.play) o before.play) (sym e) in
    reads-going before.play after.play (ap (λ (p : Play). p.most_bytes) play) (ap (λ (p : Play). p.refused) play)

pub step_reads : (boot : Booted) (drivers : Drivers) (step : Step) (before after : NotifyPlay)
    → after_step boot drivers step before ≡ Some after → Reads before.play after.play
step_reads boot drivers (Takes i) before after e = item_reads boot drivers i before after e
step_reads boot drivers (Signals value) before after e =
    let play = ap (λ (o : Option NotifyPlay). option_map_or (λ (n : NotifyPlay). n.play) o before.play) (sym e) in
    reads-going before.play after.play (ap (λ (p : Play). p.most_bytes) play) (ap (λ (p : Play). p.refused) play)

-- ---- steps

unless_limit : (onward : NotifyPlay → Option NotifyPlay) (before after : NotifyPlay)
    → (onward before ≡ Some after → after.play.most_bytes ≡ before.play.most_bytes) → (refused : Option ℕ)
    → option_map_or (λ more. Some before) refused (onward before) ≡ Some after
    → after.play.most_bytes ≡ before.play.most_bytes
unless_limit onward before after goes None e = goes e
unless_limit onward before after goes (Some more) e =
    let same : before ≡ after = cc in
    ap (λ (n : NotifyPlay). n.play.most_bytes) (sym same)

-- as much may be read as at first
pub steps_limit : (boot : Booted) (drivers : Drivers) (steps : List Step) (before after : NotifyPlay)
    → after_steps boot drivers steps before ≡ Some after → after.play.most_bytes ≡ before.play.most_bytes
steps_limit boot drivers [] before after e =
    let same : before ≡ after = cc in
    ap (λ (n : NotifyPlay). n.play.most_bytes) (sym same)
steps_limit boot drivers (first ∷ steps) before after e =
    option_and_then_some (λ next. after_steps boot drivers steps next) (unless_refused (after_step boot drivers first) before) after e
    (λ (next : NotifyPlay) came onward.
    steps_limit boot drivers steps next after onward
    ∙ unless_limit (after_step boot drivers first) before next
    (λ taken. (step_reads boot drivers first before next taken).limit) before.play.refused came)

-- ---- where more may be read

abbrev pub wide_play : ℕ → Play → Play
wide_play more play = record play { most_bytes = more }

abbrev pub wide : ℕ → NotifyPlay → NotifyPlay
wide more told = record told { play = wide_play more told.play }

event_wide : (more : ℕ) (boot : Booted) (event : Event) (play : Play)
    → with_event boot event (wide_play more play) ≡ option_map (wide_play more) (with_event boot event play)
event_wide more boot event play = by (after_event boot play.kernel event)
  where
    by : (o : Option Kernel)
        → option_map (λ (next : Kernel). record (wide_play more play) { kernel = next; history = play.history ++ event ∷ [] }) o
        ≡ option_map (wide_play more) (option_map (λ (next : Kernel). record play { kernel = next; history = play.history ++ event ∷ [] }) o)
    by None = refl
    by (Some next) = refl

abbrev pub refused_of : Option Play → Option ℕ
refused_of o = option_and_then (λ (play : Play). play.refused) o

few_still : (most more count : ℕ) → most ≤ more → nat_lt most count ≡ false → nat_lt more count ≡ false
few_still most more count le few = by (nat_lt more count) refl
  where
    by : (b : Bool) → nat_lt more count ≡ b → nat_lt more count ≡ false
    by true is =
        let above = (Decides-ltb more count).0 is in
        let within = ltb-false most count few in
        absurd (omega (arith, above, within, le))
    by false is = is

-- an entry whose reads are these
abbrev enters_if : Booted → Play → Visit → List Read → Bool → Option Play
enters_if boot play visit reads much =
    if much then Some (record play { refused = Some (total_bytes reads) }) else with_event boot (entry_event visit reads) play

reads_wide : (more : ℕ) (boot : Booted) (play : Play) (visit : Visit) (reads : List Read) (much : Bool) → play.most_bytes ≤ more
    → nat_lt play.most_bytes (copied_bytes play.history + total_bytes reads) ≡ much
    → refused_of (enters_if boot play visit reads much) ≡ None
    → enters_with boot (wide_play more play) visit reads ≡ option_map (wide_play more) (enters_if boot play visit reads much)
reads_wide more boot play visit reads true le is going = absurd cc
reads_wide more boot play visit reads false le is going =
    ap (enters_if boot (wide_play more play) visit reads)
    (few_still play.most_bytes more (copied_bytes play.history + total_bytes reads) le is)
    ∙ event_wide more boot (entry_event visit reads) play

pub enters_wide : (more : ℕ) (boot : Booted) (play : Play) (visit : Visit) → play.most_bytes ≤ more
    → refused_of (enters boot play visit) ≡ None
    → enters boot (wide_play more play) visit ≡ option_map (wide_play more) (enters boot play visit)
enters_wide more boot play visit le going = by (reads_of boot play visit) going
  where
    by : (o : Option (List Read)) → refused_of (option_and_then (enters_with boot play visit) o) ≡ None
        → option_and_then (enters_with boot (wide_play more play) visit) o
        ≡ option_map (wide_play more) (option_and_then (enters_with boot play visit) o)
    by None none = refl
    by (Some reads) none =
        reads_wide more boot play visit reads (nat_lt play.most_bytes (copied_bytes play.history + total_bytes reads)) le refl none

goes_wide : (more : ℕ) (boot : Booted) (drivers : Drivers) (cpu : ℕ) (told : NotifyPlay)
    → goes_out boot drivers cpu (wide more told) ≡ option_map (wide more) (goes_out boot drivers cpu told)
goes_wide more boot drivers cpu told = by (exit told.play.kernel cpu)
  where
    told_wide : (exited : Exited) (o : Option Play)
        → option_map (tells drivers (wide more told) cpu exited (duty_at told cpu exited)) (option_map (wide_play more) o)
        ≡ option_map (wide more) (option_map (tells drivers told cpu exited (duty_at told cpu exited)) o)
    told_wide exited None = refl
    told_wide exited (Some gone) = refl

    by : (o : Option Exited)
        → option_and_then (goes_out_with boot drivers (wide more told) cpu) o
        ≡ option_map (wide more) (option_and_then (goes_out_with boot drivers told cpu) o)
    by None = refl
    by (Some exited) =
        let event : Event = Exit cpu (record { a = exited.regs }) in
        ap (option_map (tells drivers (wide more told) cpu exited (duty_at told cpu exited))) (event_wide more boot event told.play)
        ∙ told_wide exited (with_event boot event told.play)

unless_wide : (more : ℕ) (onward : NotifyPlay → Option NotifyPlay) (told : NotifyPlay) (refused : Option ℕ)
    → told.play.refused ≡ refused
    → (refused ≡ None → onward (wide more told) ≡ option_map (wide more) (onward told))
    → unless_refused onward (wide more told) ≡ option_map (wide more) (unless_refused onward told)
unless_wide more onward told None is goes =
    ap (λ (o : Option ℕ). option_map_or (λ k. Some (wide more told)) o (onward (wide more told))) is
    ∙ goes refl
    ∙ sym (ap (λ (o : Option ℕ). option_map (wide more) (option_map_or (λ k. Some told) o (onward told))) is)
unless_wide more onward told (Some count) is goes =
    ap (λ (o : Option ℕ). option_map_or (λ k. Some (wide more told)) o (onward (wide more told))) is
    ∙ sym (ap (λ (o : Option ℕ). option_map (wide more) (option_map_or (λ k. Some told) o (onward told))) is)

-- where an entry wasn't refused
abbrev pub comes_by : NotifyPlay → Option Play → Option NotifyPlay
comes_by told o = option_map (with_play told) o

pub comes_wide : (more : ℕ) (told : NotifyPlay) (o : Option Play)
    → comes_by (wide more told) (option_map (wide_play more) o) ≡ option_map (wide more) (comes_by told o)
comes_wide more told None = refl
comes_wide more told (Some play) = refl

not_refused : (told : NotifyPlay) (o : Option Play) → refused_by (comes_by told o) ≡ None → refused_of o ≡ None
not_refused told None going = refl
not_refused told (Some play) going = going

-- an entry and its exit
abbrev pub visits : Booted → Drivers → ℕ → Option NotifyPlay → Option NotifyPlay
visits boot drivers cpu o = option_and_then (unless_refused (goes_out boot drivers cpu)) o

pub visited : (boot : Booted) (drivers : Drivers) (cpu : ℕ) (told : NotifyPlay) (o : Option Play)
    → refused_by (visits boot drivers cpu (comes_by told o)) ≡ None → refused_of o ≡ None
visited boot drivers cpu told None going = refl
visited boot drivers cpu told (Some play) going = by play.refused going
  where
    by : (refused : Option ℕ)
        → refused_by (option_map_or (λ k. Some (record told { play = record play { refused = refused } })) refused (goes_out boot drivers cpu (with_play told play))) ≡ None
        → refused ≡ None
    by None none = refl
    by (Some count) none = absurd cc

visits_wide : (more : ℕ) (boot : Booted) (drivers : Drivers) (cpu : ℕ) (o : Option NotifyPlay)
    → visits boot drivers cpu (option_map (wide more) o) ≡ option_map (wide more) (visits boot drivers cpu o)
visits_wide more boot drivers cpu None = refl
visits_wide more boot drivers cpu (Some between) =
    unless_wide more (goes_out boot drivers cpu) between between.play.refused refl (λ none. goes_wide more boot drivers cpu between)

item_wide : (more : ℕ) (boot : Booted) (drivers : Drivers) (i : Item) (told : NotifyPlay) → told.play.most_bytes ≤ more
    → refused_by (after_item boot drivers i told) ≡ None
    → after_item boot drivers i (wide more told) ≡ option_map (wide more) (after_item boot drivers i told)
item_wide more boot drivers (item.Smc cpu steps regs) told le going =
    let visit : Visit = visit_with told cpu steps regs in
    let came = enters_wide more boot told.play visit le (visited boot drivers cpu told (enters boot told.play visit) going) in
    ap (λ (o : Option Play). visits boot drivers cpu (comes_by (wide more told) o)) came
    ∙ ap (visits boot drivers cpu) (comes_wide more told (enters boot told.play visit))
    ∙ visits_wide more boot drivers cpu (comes_by told (enters boot told.play visit))
item_wide more boot drivers (item.Enter cpu steps regs) told le going =
    let visit : Visit = visit_with told cpu steps regs in
    let came = enters_wide more boot told.play visit le (not_refused told (enters boot told.play visit) going) in
    ap (comes_by (wide more told)) came ∙ comes_wide more told (enters boot told.play visit)
item_wide more boot drivers (item.Leave cpu) told le going = goes_wide more boot drivers cpu told
item_wide more boot drivers (item.Write cpu addr bytes) told le going = refl
item_wide more boot drivers (item.Show cpu addr len) told le going = refl

step_wide : (more : ℕ) (boot : Booted) (drivers : Drivers) (step : Step) (told : NotifyPlay) → told.play.most_bytes ≤ more
    → refused_by (after_step boot drivers step told) ≡ None
    → after_step boot drivers step (wide more told) ≡ option_map (wide more) (after_step boot drivers step told)
step_wide more boot drivers (Takes i) told le going = item_wide more boot drivers i told le going
step_wide more boot drivers (Signals value) told le going = refl

-- behind a refused entry nothing comes
stays_refused : (boot : Booted) (drivers : Drivers) (steps : List Step) (told : NotifyPlay) (count : ℕ)
    → told.play.refused ≡ Some count → after_steps boot drivers steps told ≡ Some told
stays_refused boot drivers [] told count is = refl
stays_refused boot drivers (first ∷ steps) told count is =
    ap (λ (o : Option ℕ). option_and_then (λ next. after_steps boot drivers steps next)
    (option_map_or (λ k. Some told) o (after_step boot drivers first told))) is
    ∙ stays_refused boot drivers steps told count is

next_going : (boot : Booted) (drivers : Drivers) (steps : List Step) (told : NotifyPlay) (refused : Option ℕ)
    → told.play.refused ≡ refused → refused_by (after_steps boot drivers steps told) ≡ None → told.play.refused ≡ None
next_going boot drivers steps told None is going = is
next_going boot drivers steps told (Some count) is going =
    let no : Some count ≡ None = sym (ap refused_by (stays_refused boot drivers steps told count is) ∙ is) ∙ going in
    absurd cc

-- the steps behind the first one
abbrev behind : Booted → Drivers → List Step → Option NotifyPlay → Option NotifyPlay
behind boot drivers steps o = option_and_then (λ next. after_steps boot drivers steps next) o

pub steps_wide : (more : ℕ) (boot : Booted) (drivers : Drivers) (steps : List Step) (told : NotifyPlay) → told.play.most_bytes ≤ more
    → refused_by (after_steps boot drivers steps told) ≡ None
    → after_steps boot drivers steps (wide more told) ≡ option_map (wide more) (after_steps boot drivers steps told)
steps_wide more boot drivers [] told le going = refl
steps_wide more boot drivers (first ∷ steps) told le going =
    by (λ next. steps_wide more boot drivers steps next) (unless_refused (after_step boot drivers first) told) refl
  where
    -- the step, where it comes to this
    wider : (o : Option NotifyPlay) → unless_refused (after_step boot drivers first) told ≡ o → refused_by o ≡ None
        → unless_refused (after_step boot drivers first) (wide more told) ≡ option_map (wide more) o
    wider o is still =
        unless_wide more (after_step boot drivers first) told told.play.refused refl
        (λ (none : told.play.refused ≡ None).
        let taken : unless_refused (after_step boot drivers first) told ≡ after_step boot drivers first told =
        ap (λ (r : Option ℕ). option_map_or (λ k. Some told) r (after_step boot drivers first told)) none in
        step_wide more boot drivers first told le (ap refused_by (sym taken ∙ is) ∙ still))
        ∙ ap (option_map (wide more)) is

    by : ((next : NotifyPlay) → next.play.most_bytes ≤ more → refused_by (after_steps boot drivers steps next) ≡ None
        → after_steps boot drivers steps (wide more next) ≡ option_map (wide more) (after_steps boot drivers steps next))
        → (o : Option NotifyPlay) → unless_refused (after_step boot drivers first) told ≡ o
        → behind boot drivers steps (unless_refused (after_step boot drivers first) (wide more told))
        ≡ option_map (wide more) (behind boot drivers steps (unless_refused (after_step boot drivers first) told))
    by others None is =
        ap (behind boot drivers steps) (wider None is refl) ∙ sym (ap (λ (o : Option NotifyPlay). option_map (wide more) (behind boot drivers steps o)) is)
    by others (Some next) is =
        let still : next.play.refused ≡ None =
        next_going boot drivers steps next next.play.refused refl (sym (ap (λ (o : Option NotifyPlay). refused_by (behind boot drivers steps o)) is) ∙ going) in
        let limit : next.play.most_bytes ≡ told.play.most_bytes =
        unless_limit (after_step boot drivers first) told next
        (λ taken. (step_reads boot drivers first told next taken).limit) told.play.refused is in
        ap (behind boot drivers steps) (wider (Some next) is still)
        ∙ others next (omega (arith, limit, le))
        (sym (ap (λ (o : Option NotifyPlay). refused_by (behind boot drivers steps o)) is) ∙ going)
        ∙ sym (ap (λ (o : Option NotifyPlay). option_map (wide more) (behind boot drivers steps o)) is)

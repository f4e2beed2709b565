-- The play of a made trace comes to its end.
use Rattle.std.proofs.Common.{◌≡◌, ℕ, zero, suc, ◌+◌, ◌*◌, ◌%◌, ◌^◌, ◌≤◌, Bool, List, [], ◌∷◌, ◌++◌, append_assoc, append-nil, Option, Some, None, refl, ap, subst, sym, ◌∙◌, arith}
use Rattle.std.specs.Prelude.{IsSome, IsSomeAnd, if◌then◌else◌}
use Rattle.std.specs.Option.{option_and_then, option_map_or}
use Rattle.std.proofs.lemmas.Bool.{le-ltb}
use Rattle.std.proofs.lemmas.List.{get_or-set_same}
use Rattle.std.proofs.lemmas.List.Sums.{sum_by-append}
use Rattle.std.proofs.lemmas.Option.{option_and_then_some}
use Rattle.base.specs.Zeros.{zeros}
use Rattle.event_journal.specs.Event.{copied_by}
use Rattle.event_journal.specs.Journal.{copied_bytes}
use Rattle.event_journal.specs.declared.event.Event.{Event}
use Rattle.event_journal.specs.declared.event.Event.TheVariants.{Entry, Exit}
use Rattle.kernel_model.specs.Application.{Booted, booted}
use Rattle.kernel_model.specs.Decision.{Decision}
use Rattle.kernel_model.specs.Entry.{entry}
use Rattle.kernel_model.specs.Kernel.{Kernel, Visit}
use Rattle.kernel_model.specs.NewCall.{new_call}
use Rattle.kernel_model.specs.Resume.{resume}
use Rattle.kernel_model.specs.Sound.{unmarked_at}
use Rattle.kernel_model.specs.SoundRequests.{HaveFittingRequests}
use Rattle.kernel_model.proofs.Parts.{option_map_some}
use Rattle.kernel_model.proofs.SoundRequests.{calls_fit}
use Rattle.ns_ram.specs.Reader.{over_lane}
use Rattle.ns_ram.specs.Reads.{total_bytes}
use Rattle.ns_ram.specs.declared.read.Read.{Read}
use Rattle.play_model.specs.Coming as coming
use Rattle.play_model.specs.Play.{Play, after_item, after_items, enters, enters_with, first_play, lane_of, leaves, reads_of, unless_refused, visit_of, with_event, with_writes}
use Rattle.play_model.proofs.Coming.{items_can_come}
use Rattle.play_model.proofs.Entries.{Left, event_made, left, left_going}
use Rattle.play_model.proofs.LinesStay.{plays_go_on}
use Rattle.play_model.proofs.PlaysThere.{traces_have_plays}
use Rattle.play_model.proofs.WholeLanes.{zeros-whole}
use Rattle.play_model.proofs.Within.{first_within}
use Rattle.trace_text.specs.declared.item.Item.{Item}
use Rattle.trace_text.specs.declared.item.Item.TheVariants as item
use Rattle.trace_text.specs.declared.item.Reg.{Reg}
use Rattle.trace_text.specs.declared.trace.Trace.{Trace}
use Rattle.workload.specs.Work.{argument_call, call_registers, cpu_of, fast_registers, invoke_argument, items_of, made_boot, made_items, made_trace, next, open_argument, resume_registers, small_of, steps_of}
use Rattle.made_play.specs.Laws.{MadePlaysEnd}
use Rattle.made_play.specs.Summary.{made_play}
use Rattle.made_play.proofs.Arguments.{call_regs, invoke_call_few, open_call_few, with_argument}
use Rattle.made_play.proofs.AtMost.{AtMost, few_more, lists_few, then_nothing}
use Rattle.made_play.proofs.Resumes.{resume_few}
use Rattle.made_play.proofs.Sound.{made_boots, made_sound, of_number}

-- ---- how much was read

copied-event : (history : List Event) (event : Event)
    → copied_bytes (history ++ event ∷ []) ≡ copied_bytes history + copied_by event
copied-event history event = let sum = sum_by-append copied_by history (event ∷ []) in omega (arith, sum)

-- an entry that reads few bytes isn't refused
record Came (before after : Play) (most : ℕ) : Type 0 where
  going : after.refused ≡ None
  few : copied_bytes after.history ≤ copied_bytes before.history + most

came_with : (boot : Booted) (visit : Visit) (before after : Play) (reads : List Read) (most : ℕ)
    → before.refused ≡ None → total_bytes reads ≤ most → copied_bytes before.history + most ≤ before.most_bytes
    → enters_with boot before visit reads ≡ Some after → Came before after most
came_with boot visit before after reads most going few room e =
    let event : Event = Entry visit.cpu (record { a = visit.regs }) visit.steps reads in
    let fits = le-ltb before.most_bytes (copied_bytes before.history + total_bytes reads) (omega (arith, few, room)) in
    let came : with_event boot event before ≡ Some after =
    subst (λ (much : Bool). (if much then Some (record before { refused = Some (total_bytes reads) })
    else with_event boot event before) ≡ Some after) fits e in
    let made = event_made boot event before after came in
    let sum = copied-event before.history event in
    record {
      going = made.1 ∙ going;
      few = subst (λ (h : List Event). copied_bytes h ≤ copied_bytes before.history + most) (sym made.0)
          (omega (arith, sum, few));
    }

entry_came : (boot : Booted) (visit : Visit) (before after : Play) (most : ℕ) → before.refused ≡ None
    → AtMost (lane_of before visit.cpu) (entry boot before.kernel visit) most
    → copied_bytes before.history + most ≤ before.most_bytes → enters boot before visit ≡ Some after → Came before after most
entry_came boot visit before after most going little room e =
    option_and_then_some (enters_with boot before visit) (reads_of boot before visit) after e
    (λ (reads : List Read) there onward.
    let found = option_map_some (λ (end : Kernel × List Read). end.1)
    (over_lane (entry boot before.kernel visit) (lane_of before visit.cpu) []) reads there in
    let bound = lists_few (lane_of before visit.cpu) (entry boot before.kernel visit) most [] found.0.1 found.0.0 little
    found.1 in
    let few : total_bytes reads ≤ most =
    subst (λ (rs : List Read). total_bytes rs ≤ most) found.2 (omega (arith, bound)) in
    came_with boot visit before after reads most going few room onward)

exit_copies : (boot : Booted) (cpu : ℕ) (before after : Play) → Left boot cpu before after
    → copied_bytes after.history ≤ copied_bytes before.history
exit_copies boot cpu before after out =
    let event : Event = Exit cpu (record { a = out.exited.regs }) in
    let made = event_made boot event before out.gone out.came in
    let history : after.history ≡ before.history ++ event ∷ [] = ap (λ (p : Play). p.history) (sym out.is) ∙ made.0 in
    subst (λ (h : List Event). copied_bytes h ≤ copied_bytes before.history) (sym history)
    (let sum = copied-event before.history event in omega (arith, sum))

-- a whole call
call_came : (boot : Booted) (cpu steps : ℕ) (regs : List Reg) (before after : Play) (most : ℕ) → before.refused ≡ None
    → (let visit = visit_of before.history cpu steps regs in
    AtMost (lane_of before cpu) (entry boot before.kernel visit) most)
    → copied_bytes before.history + most ≤ before.most_bytes → after_item boot (item.Smc cpu steps regs) before ≡ Some after
    → Came before after most
call_came boot cpu steps regs before after most going little room e =
    let visit = visit_of before.history cpu steps regs in
    option_and_then_some (unless_refused (leaves boot cpu)) (enters boot before visit) after e
    (λ (inside : Play) there onward.
    let came = entry_came boot visit before inside most going little room there in
    let goes : leaves boot cpu inside ≡ Some after =
    subst (λ (o : Option ℕ). option_map_or (λ more. Some inside) o (leaves boot cpu inside) ≡ Some after)
    came.going onward in
    let out = left boot cpu inside after goes in
    record {
      going = left_going boot cpu inside after out came.going;
      few = let less = exit_copies boot cpu inside after out in let so_far = came.few in omega (arith, less, so_far);
    })

-- ---- the items

module _ (seed total : ℕ) where
  abbrev pub trace : Trace
  trace = made_trace seed total

  abbrev pub on : Booted
  on = booted made_boot []

  abbrev pub start : Play
  start = first_play (zeros 0x400000) on trace.fills

  -- the first items come to this play, and have read at most so much
  pub record Reached (front : List Item) (most : ℕ) (play : Play) : Type 0 where
    pub taken : after_items on front start ≡ Some play
    pub going : play.refused ≡ None
    pub few : copied_bytes play.history ≤ most

  -- they are a trace's
  may_read : (front : List Item) (play : Play) → after_items on front start ≡ Some play → play.most_bytes ≡ 2 ^ 28
  may_read front play taken =
      (plays_go_on.within (2 ^ 28) on front start play taken (first_within (2 ^ 28) (zeros 0x400000) on trace.fills)).limit

  can_come : (front rest : List Item) (i : Item) (most : ℕ) (play : Play) → trace.items ≡ front ++ i ∷ rest
      → Reached front most play → coming.CanCome on i play
  can_come front rest i most play is reached =
      items_can_come (zeros 0x400000) [] [] made_boot trace front rest i play zeros-whole made_boots
      (made_sound seed total) refl is reached.taken reached.going

  one_more : (front : List Item) (i : Item) (most : ℕ) (play after : Play) → Reached front most play
      → after_item on i play ≡ Some after → after_items on (front ++ i ∷ []) start ≡ Some after
  one_more front i most play after reached comes =
      plays_go_on.onward on front (i ∷ []) start
      ∙ ap (λ (o : Option Play). option_and_then (λ next. after_items on (i ∷ []) next) o) reached.taken
      ∙ ap (λ (o : Option ℕ). option_and_then (λ (next : Play). Some next)
      (option_map_or (λ more. Some play) o (after_item on i play))) reached.going
      ∙ ap (λ (o : Option Play). option_and_then (λ (next : Play). Some next) o) comes

  there : (o : Option Play) → IsSome o → (play : Play) × (o ≡ Some play)
  there (Some play) some = (play, refl)
  there None some = absurd cc

  -- a call that reads little
  calls : (front rest : List Item) (cpu steps : ℕ) (regs : List Reg) (most : ℕ) (play : Play)
      → trace.items ≡ front ++ item.Smc cpu steps regs ∷ rest → Reached front most play → most + 4096 ≤ 2 ^ 28
      → (let visit = visit_of play.history cpu steps regs in AtMost (lane_of play cpu) (entry on play.kernel visit) 4096)
      → (after : Play) × Reached (front ++ item.Smc cpu steps regs ∷ []) (most + 4096) after
  calls front rest cpu steps regs most play is reached room little =
      let i : Item = item.Smc cpu steps regs in
      let can = can_come front rest i most play is reached in
      let after = there (after_item on i play) (traces_have_plays.comes on i play can) in
      let few = reached.few in
      let limit = may_read front play reached.taken in
      let fits : copied_bytes play.history + 4096 ≤ play.most_bytes = omega (arith, few, room, limit) in
      let came = call_came on cpu steps regs play after.0 4096 reached.going little fits after.1 in (
        after.0,
        record {
          taken = one_more front i most play after.0 reached after.1;
          going = came.going;
          few = let more = came.few in omega (arith, few, more);
        },
      )

  -- ---- what each call reads

  fast_little : (play : Play) (cpu steps : ℕ)
      → AtMost (lane_of play cpu) (entry on play.kernel (visit_of play.history cpu steps fast_registers)) 4096
  fast_little play cpu steps = tt

  resume_little : (play : Play) (cpu steps thread : ℕ) → HaveFittingRequests (unmarked_at play.kernel.slots)
      → AtMost (lane_of play cpu)
      (entry on play.kernel (visit_of play.history cpu steps (resume_registers thread))) 4096
  resume_little play cpu steps thread fitting =
      let visit = visit_of play.history cpu steps (resume_registers thread) in
      then_nothing (lane_of play cpu) (resume on play.kernel visit.regs) _ 4096
      (resume_few (lane_of play cpu) on play.kernel visit.regs fitting) (λ (decision : Decision). tt)

  argument_little : (play : Play) (cpu steps : ℕ)
      → AtMost (lane_of play cpu) (new_call on play.kernel call_regs) 96
      → AtMost (lane_of play cpu) (entry on play.kernel (visit_of play.history cpu steps call_registers)) 4096
  argument_little play cpu steps little =
      then_nothing (lane_of play cpu) (new_call on play.kernel call_regs) _ 4096
      (few_more (lane_of play cpu) (new_call on play.kernel call_regs) 96 4096 (omega arith) little)
      (λ (decision : Decision). tt)

  -- ---- the items of a number

  -- behind the first items these are taken too
  abbrev GoesOn : List Item → Type 0
  GoesOn items =
      (front behind : List Item) (most : ℕ) (play : Play) → trace.items ≡ front ++ (items ++ behind)
      → Reached front most play → most + 4096 ≤ 2 ^ 28
      → (after : Play) × Reached (front ++ items) (most + 4096) after

  goes_fast : (cpu steps : ℕ) → GoesOn (item.Smc cpu steps fast_registers ∷ [])
  goes_fast cpu steps front behind most play is reached room =
      calls front behind cpu steps fast_registers most play is reached room (fast_little play cpu steps)

  goes_resume : (cpu steps thread : ℕ) → GoesOn (item.Smc cpu steps (resume_registers thread) ∷ [])
  goes_resume cpu steps thread front behind most play is reached room =
      let can = can_come front behind (item.Smc cpu steps (resume_registers thread)) most play is reached in
      calls front behind cpu steps (resume_registers thread) most play is reached room
      (resume_little play cpu steps thread (calls_fit on play.history play.kernel made_boots can.kernel))

  -- an argument that is written, and its call
  goes_argument : (cpu steps : ℕ) (argument : List ℕ)
      → ((old : List ℕ) (boot : Booted) (kernel : Kernel)
      → AtMost (with_argument old argument) (new_call boot kernel call_regs) 96)
      → GoesOn (argument_call cpu steps argument)
  goes_argument cpu steps argument little front behind most play is reached room =
      let write : Item = item.Write cpu 0x40000000 argument in
      let call : Item = item.Smc cpu steps call_registers in
      let can = can_come front (call ∷ behind) write most play is reached in
      let after = with_writes cpu (record { addr = 0x40000000; bytes = argument } ∷ []) play in
      let written : Reached (front ++ write ∷ []) most after = record {
        taken = one_more front write most play after reached refl;
        going = reached.going;
        few = reached.few;
      } in
      let there : lane_of after cpu ≡ with_argument (lane_of play cpu) argument =
      get_or-set_same play.lanes cpu (with_argument (lane_of play cpu) argument) []
      (let few = can.sound.0 in let count = can.lanes.count in omega (arith, few, count)) in
      let next : trace.items ≡ (front ++ write ∷ []) ++ call ∷ behind =
      is ∙ sym (append_assoc front (write ∷ []) (call ∷ behind)) in
      let called = calls (front ++ write ∷ []) behind cpu steps call_registers most after next written room
      (argument_little after cpu steps
      (subst (λ (lane : List ℕ). AtMost lane (new_call on after.kernel call_regs) 96) (sym there)
      (little (lane_of play cpu) on after.kernel))) in (
        called.0,
        subst (λ (items : List Item). Reached items (most + 4096) called.0)
            (append_assoc front (write ∷ []) (call ∷ [])) called.1,
      )

  number_goes_on : (x : ℕ) → GoesOn (items_of x)
  number_goes_on x =
      of_number GoesOn x
      (goes_fast (cpu_of x) (steps_of x))
      (goes_argument (cpu_of x) (steps_of x) open_argument open_call_few)
      (goes_argument (cpu_of x) (steps_of x) (invoke_argument (small_of x + 1))
      (λ old. invoke_call_few old (small_of x + 1)))
      (goes_resume (cpu_of x) (steps_of x) (small_of x % 4))

  -- ---- all of them

  to_the_end : (count x : ℕ) (front : List Item) (most : ℕ) (play : Play) → trace.items ≡ front ++ made_items x count
      → Reached front most play → most + 4096 * count ≤ 2 ^ 28
      → (last : Play) × Reached trace.items (most + 4096 * count) last
  to_the_end zero x front most play is reached room =
      let all : front ≡ trace.items = sym (is ∙ append-nil front) in
      let none : most ≡ most + 4096 * 0 = omega arith in (
        play,
        subst (λ (n : ℕ). Reached trace.items n play) none
            (subst (λ (items : List Item). Reached items most play) all reached),
      )
  to_the_end (suc count) x front most play is reached room =
      let more = number_goes_on (next x) front (made_items (next x) count) most play is reached (omega (arith, room)) in
      let split : trace.items ≡ (front ++ items_of (next x)) ++ made_items (next x) count =
      is ∙ sym (append_assoc front (items_of (next x)) (made_items (next x) count)) in
      let last = to_the_end count (next x) (front ++ items_of (next x)) (most + 4096) more.0 split more.1
      (omega (arith, room)) in
      let sum : most + 4096 + 4096 * count ≡ most + 4096 * suc count = omega arith in
      (last.0, subst (λ (n : ℕ). Reached trace.items n last.0) sum last.1)

  pub ends : total ≤ 2 ^ 16 → IsSomeAnd (made_play seed total) (λ play. play.refused ≡ None)
  ends few =
      let last = to_the_end total seed [] 0 start refl (record { taken = refl; going = refl; few = omega arith })
      (omega (arith, few)) in
      subst (λ (o : Option Play). IsSomeAnd o (λ play. play.refused ≡ None)) (sym last.1.taken) last.1.going

pub law : MadePlaysEnd
law = record { ends = ends; text = λ seed count. refl }

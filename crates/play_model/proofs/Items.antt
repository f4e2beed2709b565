-- Plays of items: their history holds what the items let happen, and what follows from that.
use Rattle.std.proofs.Common.{◌≡◌, ℕ, List, [], ◌∷◌, ◌++◌, Some, None, refl, ap, subst, sym, ◌∙◌}
use Rattle.std.specs.Prelude.{◌^◌, IsSome}
use Rattle.std.specs.List.{flat_map}
use Rattle.std.proofs.lemmas.Option.{option_and_then_some}
use Rattle.event_journal.specs.declared.event.Event.{Event}
use Rattle.event_journal.specs.declared.event.Event.TheVariants.{Entry}
use Rattle.kernel_model.specs.Application.{Booted, booted}
use Rattle.kernel_model.specs.History.{IsLegal, after_events, kernel_after}
use Rattle.kernel_model.specs.Kernel.{first_kernel}
use Rattle.ns_ram.specs.Lane.{bytes_at}
use Rattle.ns_ram.specs.Reads.{total_bytes}
use Rattle.trace_text.specs.declared.item.Item.{Item}
use Rattle.trace_text.specs.declared.item.Item.TheVariants as item
use Rattle.trace_text.specs.declared.item.Reg.{Reg}
use Rattle.play_model.specs.Laws.{TracesArePlayed}
use Rattle.play_model.specs.Line.{Mem}
use Rattle.play_model.specs.Order.{Comes, Follow, Leaves, Move, moves_of}
use Rattle.play_model.specs.Play.{Play, after_item, after_items, enters, first_play, lane_of, leaves, unless_refused}
use Rattle.play_model.specs.Play.{visit_of, with_line, with_writes}
use Rattle.play_model.proofs.Adds.{Adds, Ended, GoesOn, Onward, adds_more, adds_nothing, goes_on}
use Rattle.play_model.proofs.Entries.{CameIn, Entered, WasRefused, came_adds, entered, event_made, left, left_adds}
use Rattle.play_model.proofs.Entries.{left_going}
use Rattle.play_model.proofs.ExitsTold.{items_told}
use Rattle.play_model.proofs.Returns.{alone_in, no_call_in, no_slot_in, returns_in, together_in}
use Rattle.play_model.proofs.Within.{first_within, items_within}

-- ---- one item

-- the item was taken, or its entry was refused
data Came (boot : Booted) (moves : List Move) (before after : Play) : Type 0 where
  Taken : Adds boot moves before after → after.refused ≡ None → Came boot moves before after
  Refused : Adds boot [] before after → (more : ℕ) → after.refused ≡ Some more → Came boot moves before after

refused_came : (boot : Booted) (moves : List Move) (before after : Play) (more : ℕ)
    → record before { refused = Some more } ≡ after → Came boot moves before after
refused_came boot moves before after more is =
    let here : Play = record before { refused = Some more } in
    Refused (subst (λ (p : Play). Adds boot [] before p) is (adds_nothing boot before here refl refl)) more
    (ap (λ (p : Play). p.refused) (sym is))

enter_came : (boot : Booted) (cpu steps : ℕ) (regs : List Reg) (before after : Play) → before.refused ≡ None
    → Entered boot (visit_of before.history cpu steps regs) before after
    → Came boot (Comes cpu steps regs ∷ []) before after
enter_came boot cpu steps regs before after going (CameIn reads few came) =
    let visit = visit_of before.history cpu steps regs in
    let made = event_made boot (Entry cpu (record { a = visit.regs }) steps reads) before after came in
    Taken (came_adds boot cpu steps regs reads before after came) (made.1 ∙ going)
enter_came boot cpu steps regs before after going (WasRefused reads much is) =
    refused_came boot (Comes cpu steps regs ∷ []) before after (total_bytes reads) is

-- an exit behind an entry that came
leave_came : (boot : Booted) (cpu : ℕ) (move : Move) (before between after : Play)
    → Came boot (move ∷ []) before between → GoesOn (leaves boot cpu) between after
    → Came boot (move ∷ Leaves cpu ∷ []) before after
leave_came boot cpu move before between after (Taken adds going) (Onward is e) =
    let out = left boot cpu between after e in
    Taken (adds_more boot (move ∷ []) (Leaves cpu ∷ []) before between after adds
    (left_adds boot cpu between after out))
    (left_going boot cpu between after out going)
leave_came boot cpu move before between after (Taken adds going) (Ended more is same) =
    let none : None ≡ Some more = sym going ∙ is in absurd cc
leave_came boot cpu move before between after (Refused adds more is) (Onward going e) =
    let none : None ≡ Some more = sym going ∙ is in absurd cc
leave_came boot cpu move before between after (Refused adds more is) (Ended other ended same) =
    subst (λ (p : Play). Came boot (move ∷ Leaves cpu ∷ []) before p) same (Refused adds more is)

-- it changes RAM or prints
still_came : (boot : Booted) (before here after : Play) → here.history ≡ before.history → here.kernel ≡ before.kernel
    → here.refused ≡ before.refused → before.refused ≡ None → Some here ≡ Some after
    → Came boot [] before after
still_came boot before here after history kernel refused going e =
    let same : here ≡ after = cc in
    subst (λ (p : Play). Came boot [] before p) same
    (Taken (adds_nothing boot before here history kernel) (refused ∙ going))

item_came : (boot : Booted) (i : Item) (before after : Play) → before.refused ≡ None
    → after_item boot i before ≡ Some after → Came boot (moves_of i) before after
item_came boot (item.Smc cpu steps regs) before after going e =
    let visit = visit_of before.history cpu steps regs in
    option_and_then_some (unless_refused (leaves boot cpu)) (enters boot before visit) after e
    (λ (between : Play) there onward.
    leave_came boot cpu (Comes cpu steps regs) before between after
    (enter_came boot cpu steps regs before between going (entered boot visit before between there))
    (goes_on (leaves boot cpu) between after onward))
item_came boot (item.Enter cpu steps regs) before after going e =
    enter_came boot cpu steps regs before after going
    (entered boot (visit_of before.history cpu steps regs) before after e)
item_came boot (item.Leave cpu) before after going e =
    let out = left boot cpu before after e in
    Taken (left_adds boot cpu before after out) (left_going boot cpu before after out going)
item_came boot (item.Write cpu addr bytes) before after going e =
    still_came boot before
    (with_writes cpu (record { addr = addr; bytes = bytes } ∷ []) before) after refl refl refl going e
item_came boot (item.Show cpu addr len) before after going e =
    still_came boot before
    (with_line (Mem cpu addr (bytes_at (lane_of before cpu) addr len)) before) after refl refl refl going e

-- ---- items in a row

-- a beginning of the items was taken, and all of them where nothing was refused
record Ran (boot : Booted) (items : List Item) (before after : Play) : Type 0 where
  taken : List Item
  rest : List Item
  cut : items ≡ taken ++ rest
  adds : Adds boot (flat_map moves_of taken) before after
  all : after.refused ≡ None → rest ≡ []

onward_stays : (boot : Booted) (first : Item) (items : List Item) (before next after : Play) (more : ℕ)
    → before.refused ≡ Some more
    → GoesOn (after_item boot first) before next → (before ≡ next → before ≡ after) → before ≡ after
onward_stays boot first items before next after more is (Onward going e) stays =
    let none : None ≡ Some more = sym going ∙ is in absurd cc
onward_stays boot first items before next after more is (Ended other ended same) stays = stays same

-- nothing comes any more
pub ended_stays : (boot : Booted) (items : List Item) (before after : Play) (more : ℕ) → before.refused ≡ Some more
    → after_items boot items before ≡ Some after → before ≡ after
ended_stays boot [] before after more is e = cc
ended_stays boot (first ∷ items) before after more is e =
    option_and_then_some (λ next. after_items boot items next) (unless_refused (after_item boot first) before) after e
    (λ (next : Play) there onward. onward_stays boot first items before next after more is
    (goes_on (after_item boot first) before next there)
    (λ same. ended_stays boot items before after more is
    (subst (λ (p : Play). after_items boot items p ≡ Some after) (sym same) onward)))

refused_ran : (boot : Booted) (items : List Item) (before after : Play) (more : ℕ) → after.refused ≡ Some more
    → Adds boot [] before after
    → Ran boot items before after
refused_ran boot items before after more is adds = record {
  taken = [];
  rest = items;
  cut = refl;
  adds = adds;
  all = λ none. let not : None ≡ Some more = sym none ∙ is in absurd cc;
}

first_ran : (boot : Booted) (first : Item) (items : List Item) (before next after : Play)
    → Came boot (moves_of first) before next
    → (next.refused ≡ None → Ran boot items next after)
    → ((more : ℕ) → next.refused ≡ Some more → next ≡ after)
    → Ran boot (first ∷ items) before after
first_ran boot first items before next after (Taken adds going) ran stays =
    let others = ran going in
    record {
      taken = first ∷ others.taken;
      rest = others.rest;
      cut = ap (λ (is : List Item). first ∷ is) others.cut;
      adds = adds_more boot (moves_of first) (flat_map moves_of others.taken) before next after adds others.adds;
      all = others.all;
    }
first_ran boot first items before next after (Refused adds more is) ran stays =
    subst (λ (p : Play). Ran boot (first ∷ items) before p) (stays more is)
    (refused_ran boot (first ∷ items) before next more is adds)

goes_came : (boot : Booted) (first : Item) (before next : Play) → before.refused ≡ None
    → GoesOn (after_item boot first) before next → Came boot (moves_of first) before next
goes_came boot first before next going (Onward is e) = item_came boot first before next going e
goes_came boot first before next going (Ended more is same) =
    let none : None ≡ Some more = sym going ∙ is in absurd cc

items_ran : (boot : Booted) (items : List Item) (before after : Play) → before.refused ≡ None
    → after_items boot items before ≡ Some after → Ran boot items before after
items_ran boot [] before after going e =
    let same : before ≡ after = cc in
    subst (λ (p : Play). Ran boot [] before p) same (record {
      taken = [];
      rest = [];
      cut = refl;
      adds = adds_nothing boot before before refl refl;
      all = λ none. refl;
    })
items_ran boot (first ∷ items) before after going e =
    option_and_then_some (λ next. after_items boot items next) (unless_refused (after_item boot first) before) after e
    (λ (next : Play) there onward.
    first_ran boot first items before next after
    (goes_came boot first before next going (goes_on (after_item boot first) before next there))
    (λ still. items_ran boot items next after still onward)
    (λ more is. ended_stays boot items next after more is onward))

-- ---- traces

pub traces_are_played : TracesArePlayed
traces_are_played ram natives boot trace play boots e =
    let on = booted boot natives in
    let first = first_play ram on trace.fills in
    let within = items_within on trace.items first play e (first_within (2 ^ 28) ram on trace.fills) in
    let ran = items_ran on trace.items first play refl e in
    let history : play.history ≡ ran.adds.events = ran.adds.history in
    let kernel : kernel_after on play.history ≡ Some play.kernel =
    ap (λ (h : List Event). after_events on (first_kernel on) h) history ∙ ran.adds.kernels in
    let legal : IsLegal on play.history = record { boots = boots; follows = subst IsSome (sym kernel) refl } in
    record {
      legal = legal;
      kernel = kernel;
      in_order = record {
        taken = ran.taken;
        rest = ran.rest;
        cut = ran.cut;
        follows = subst (λ (h : List Event). Follow [] (flat_map moves_of ran.taken) h) (sym history) ran.adds.follows;
        all = ran.all;
      };
      told = items_told on trace.items first play refl e;
      limit = within.limit;
      few_bytes = within.few_bytes;
      too_many = within.too_many;
      returns = returns_in on play.history legal;
      no_call = no_call_in on play.history legal;
      no_slot = no_slot_in on play.history legal;
      alone = alone_in on play.history legal;
      together = together_in on play.history legal;
    }

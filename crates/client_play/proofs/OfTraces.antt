-- A client's play is the play of a trace, whose items are the client's writes to RAM and its SMCs.
use Rattle.std.proofs.Common.{◌≡◌, ℕ, zero, suc, ◌+◌, ◌≤◌, Bool, true, false, List, [], ◌∷◌, ◌++◌, map, replicate, Option, Some, None, refl, ap, subst, sym, ◌∙◌, arith}
use Rattle.std.specs.Prelude.{All, ◌^◌, nat_lt, if◌then◌else◌}
use Rattle.std.specs.Option.{option_and_then, option_map, option_map_or}
use Rattle.std.proofs.lemmas.List.Elements.{All-append, All-cons, All-map, All-nil}
use Rattle.std.proofs.lemmas.Option.{option_and_then_some}
use Rattle.base.specs.Zeros.{zeros}
use Rattle.event_journal.specs.Journal.{copied_bytes}
use Rattle.event_journal.specs.declared.event.Event.{Event}
use Rattle.event_journal.specs.declared.event.Event.TheVariants.{Exit}
use Rattle.client_text.specs.declared.script.ScriptCall.{ScriptCall}
use Rattle.kernel_model.specs.Application.{Booted, IsBooted, booted}
use Rattle.kernel_model.specs.History.{after_event}
use Rattle.kernel_model.specs.Kernel.{Kernel, Visit}
use Rattle.kernel_model.proofs.Parts.{option_map_some}
use Rattle.ns_ram.specs.Lane.{bytes_put}
use Rattle.ns_ram.specs.Reads.{total_bytes}
use Rattle.ns_ram.specs.Writes.{Write, lane_after}
use Rattle.ns_ram.specs.declared.read.Read.{Read}
use Rattle.play_model.specs.Line.{Line, Ret}
use Rattle.play_model.specs.Play.{Play, after_item, after_items, enters, enters_with, entry_event, first_play, lane_of, last_answer, leaves, number_in, reads_of, unless_refused, visit_of}
use Rattle.play_model.proofs.Adds.{Ended as PlayEnded, GoesOn, Onward, goes_on as play_goes_on, some_is}
use Rattle.play_model.proofs.Entries.{CameIn, Entered, Left, WasRefused, entered, event_limit, left}
use Rattle.play_model.proofs.EventsCome.{exits_come}
use Rattle.play_model.proofs.LinesStay.{plays_go_on}
use Rattle.play_model.proofs.TrueToKernel.{plays_are_true}
use Rattle.smc_abi.specs.declared.regs.Regs.{Regs}
use Rattle.teec.specs.Calls.{Call}
use Rattle.teec.specs.Rounds.{Calls, Cancels, Ended, Failed, Resumes, Stage}
use Rattle.teec.specs.Answers.{call_with_arg, return_from_rpc}
use Rattle.teec.specs.Places.{argument_at, cancel_at}
use Rattle.trace_text.specs.declared.item.Item.{Item}
use Rattle.trace_text.specs.declared.item.Item.TheVariants as item
use Rattle.trace_text.specs.declared.item.Reg.{Reg}
use Rattle.trace_text.specs.declared.item.Reg.TheVariants.{Num}
use Rattle.client_play.specs.Calls.{call_of, cancelled_after}
use Rattle.client_play.specs.PlayLaws.{IsOfClient, PlaysAreOfTraces, trace_with}
use Rattle.client_play.specs.Making.{prepared_at}
use Rattle.client_play.specs.Message.{Prepared}
use Rattle.client_play.specs.Played.{Client, ClientPlay, after_call, call_made, calls_made, ended, first_client, first_standing, goes_on}
use Rattle.client_play.specs.Standing.{Came, Fails, Returned, Standing, Stopped, after_smc, answer_of, call_from, next_stage, play_of, prepared, standing_after, steps_granted, unless_full, visit_with}

-- ---- the play of a trace where the client stands

-- what stands, with the RAM of other processors and the lines so far
abbrev pub beside : Standing → List (List ℕ) → List Line → Play
beside standing others lines = record {
  kernel = standing.kernel;
  history = standing.history;
  lanes = standing.ram ∷ others;
  lines = lines;
  refused = None;
  most_bytes = 2 ^ 28;
}

-- a play of the client with them
abbrev pub with_others : List (List ℕ) → List Line → Play → Play
with_others others lines play = record play { lanes = lane_of play 0 ∷ others; lines = lines }

-- ---- an entry

module _ (boot : Booted) (regs : Regs) (standing : Standing) (others : List (List ℕ)) (lines : List Line) where
  -- the history with it
  abbrev history_with : List Read → List Event
  history_with reads = standing.history ++ entry_event (visit_with regs) reads ∷ []

  abbrev refused_of : Play → List Read → Play
  refused_of play reads = record play { refused = Some (total_bytes reads) }

  abbrev entered_to : Play → List Read → Kernel → Play
  entered_to play reads next = record play { kernel = next; history = history_with reads }

  by_room : (reads : List Read) (full : Bool) (next : Option Kernel)
      → (if full then Some (refused_of (beside standing others lines) reads)
      else option_map (entered_to (beside standing others lines) reads) next)
      ≡ option_map (with_others others lines) (if full then Some (refused_of (play_of standing) reads)
      else option_map (entered_to (play_of standing) reads) next)
  by_room reads true next = refl
  by_room reads false None = refl
  by_room reads false (Some next) = refl

  by_reads : (found : Option (List Read))
      → option_and_then (enters_with boot (beside standing others lines) (visit_with regs)) found
      ≡ option_map (with_others others lines) (option_and_then (enters_with boot (play_of standing) (visit_with regs)) found)
  by_reads None = refl
  by_reads (Some reads) =
      by_room reads (nat_lt (2 ^ 28) (copied_bytes standing.history + total_bytes reads))
      (after_event boot standing.kernel (entry_event (visit_with regs) reads))

  -- it is the same
  enters_beside : enters boot (beside standing others lines) (visit_with regs)
      ≡ option_map (with_others others lines) (enters boot (play_of standing) (visit_with regs))
  enters_beside = by_reads (reads_of boot (play_of standing) (visit_with regs))

-- ---- an exit

-- it is the same, and prints a line more
leaves_beside : (boot : Booted) (standing : Standing) (others : List (List ℕ)) (lines : List Line) (after : Play)
    → leaves boot 0 (play_of standing) ≡ Some after
    → (more : List Line) × (leaves boot 0 (beside standing others lines) ≡ Some (with_others others more after))
leaves_beside boot standing others lines after e =
    let out = left boot 0 (play_of standing) after e in
    let more : List Line = lines ++ Ret 0 out.exited.regs ∷ [] in
    let same = some_is _ _ (sym (exits_come boot (play_of standing) 0 out.exited out.there) ∙ e) in (
      more,
      exits_come boot (beside standing others lines) 0 out.exited out.there
          ∙ ap (λ (play : Play). Some (with_others others more play)) same,
    )

-- ---- an SMC

-- what comes behind its entry is the same
abbrev GoesOnBeside : Booted → List (List ℕ) → List Line → Play → Play → Type 0
GoesOnBeside boot others lines after between =
    unless_refused (leaves boot 0) between ≡ Some after →
    (more : List Line) × (unless_refused (leaves boot 0) (with_others others lines between) ≡ Some (with_others others more after))

behind_entry : (boot : Booted) (regs : Regs) (standing : Standing) (others : List (List ℕ)) (lines : List Line) (between after : Play)
    → Entered boot (visit_with regs) (play_of standing) between → GoesOnBeside boot others lines after between
behind_entry boot regs standing others lines between after (WasRefused reads much same) =
    subst (GoesOnBeside boot others lines after) same
    (λ e. (lines, ap (λ (play : Play). Some (with_others others lines play)) (some_is _ _ e)))
behind_entry boot regs standing others lines between after (CameIn reads few came) =
    let event : Event = entry_event (visit_with regs) reads in
    let history = standing.history ++ event ∷ [] in
    let found = option_map_some (λ (next : Kernel). record (play_of standing) { kernel = next; history = history })
    (after_event boot standing.kernel event) between came in
    subst (GoesOnBeside boot others lines after) found.2
    (λ e. leaves_beside boot (record standing { kernel = found.0; history = history }) others lines after e)

-- registers as a trace has them
abbrev numbers : List ℕ → List Reg
numbers regs = map (λ (number : ℕ). Num number) regs

numbers_in : (answer : List ℕ) (regs : List ℕ) → map (number_in answer) (numbers regs) ≡ regs
numbers_in answer [] = refl
numbers_in answer (number ∷ regs) = ap (λ (rest : List ℕ). number ∷ rest) (numbers_in answer regs)

abbrev item_of : Regs → Item
item_of regs = item.Smc 0 steps_granted (numbers regs.a)

-- it is the item of these registers
smc_beside : (boot : Booted) (regs : Regs) (standing : Standing) (others : List (List ℕ)) (lines : List Line) (after : Play)
    → after_smc boot regs standing ≡ Some after
    → (more : List Line) × (after_item boot (item_of regs) (beside standing others lines) ≡ Some (with_others others more after))
smc_beside boot regs standing others lines after e =
    option_and_then_some (unless_refused (leaves boot 0)) (enters boot (play_of standing) (visit_with regs)) after e
    (λ (between : Play) there onward.
    let came = entered boot (visit_with regs) (play_of standing) between there in
    let went = behind_entry boot regs standing others lines between after came onward in
    let visit : visit_of standing.history 0 steps_granted (numbers regs.a) ≡ visit_with regs =
    ap (λ (a : List ℕ). record { cpu = 0; regs = a; steps = steps_granted })
    (numbers_in (last_answer standing.history 0) regs.a) in (
      went.0,
      ap (λ (v : Visit). option_and_then (unless_refused (leaves boot 0)) (enters boot (beside standing others lines) v)) visit
          ∙ ap (λ (o : Option Play). option_and_then (unless_refused (leaves boot 0)) o)
          (enters_beside boot regs standing others lines ∙ ap (λ (o : Option Play). option_map (with_others others lines) o) there)
          ∙ went.1,
    ))

-- ---- writes

abbrev items_of : List Write → List Item
items_of writes = map (λ (write : Write). item.Write 0 write.addr write.bytes) writes

-- they come first
writes_beside : (boot : Booted) (writes : List Write) (items : List Item) (standing : Standing) (others : List (List ℕ)) (lines : List Line)
    → after_items boot (items_of writes ++ items) (beside standing others lines)
    ≡ after_items boot items (beside (record standing { ram = lane_after standing.ram writes }) others lines)
writes_beside boot [] items standing others lines = refl
writes_beside boot (write ∷ writes) items standing others lines =
    writes_beside boot writes items (record standing { ram = bytes_put standing.ram write.addr write.bytes }) others lines

writes_of_client : (writes : List Write) → All IsOfClient (items_of writes)
writes_of_client writes =
    All-map IsOfClient (λ (write : Write). item.Write 0 write.addr write.bytes) writes (λ k d lt. refl)

-- ---- a call

-- the items make of the play what the call makes of what stands
abbrev Makes : Booted → List Item → Standing → List (List ℕ) → List Line → Came → Type 0
Makes boot items standing others lines (Returned room after) =
    (more : List Line) × (after_items boot items (beside standing others lines) ≡ Some (beside after others more))
Makes boot items standing others lines (Stopped bytes history) =
    (play : Play) × (after_items boot items (beside standing others lines) ≡ Some play) × (play.history ≡ history)
Makes boot items standing others lines (Fails fault) = Unit {0}

record Traced (boot : Booted) (standing : Standing) (others : List (List ℕ)) (lines : List Line) (came : Came) : Type 0 where
  items : List Item
  of_client : All IsOfClient items
  makes : Makes boot items standing others lines came

-- with items before them
makes_more : (boot : Booted) (first items : List Item) (standing between : Standing) (others : List (List ℕ)) (lines more : List Line)
    → after_items boot (first ++ items) (beside standing others lines) ≡ after_items boot items (beside between others more)
    → (came : Came) → Makes boot items between others more came → Makes boot (first ++ items) standing others lines came
makes_more boot first items standing between others lines more e (Returned room after) makes = (makes.0, e ∙ makes.1)
makes_more boot first items standing between others lines more e (Stopped bytes history) makes = (makes.0, e ∙ makes.1, makes.2)
makes_more boot first items standing between others lines more e (Fails fault) makes = tt

-- where nothing more comes
nothing_more : (boot : Booted) (standing : Standing) (others : List (List ℕ)) (lines : List Line) (comes came : Came)
    → Makes boot [] standing others lines comes → Some comes ≡ Some came → Traced boot standing others lines came
nothing_more boot standing others lines comes came makes e =
    let same : comes ≡ came = cc in
    record { items = []; of_client = All-nil IsOfClient; makes = subst (Makes boot [] standing others lines) same makes }

-- an SMC leaves how many bytes entries may read
entered_limit : (boot : Booted) (visit : Visit) (before after : Play) → Entered boot visit before after
    → after.most_bytes ≡ before.most_bytes
entered_limit boot visit before after (CameIn reads few came) = event_limit boot (entry_event visit reads) before after came
entered_limit boot visit before after (WasRefused reads much is) = ap (λ (p : Play). p.most_bytes) (sym is)

left_limit : (boot : Booted) (before after : Play) → Left boot 0 before after → after.most_bytes ≡ before.most_bytes
left_limit boot before after out =
    ap (λ (p : Play). p.most_bytes) (sym out.is)
    ∙ event_limit boot (Exit 0 (record { a = out.exited.regs })) before out.gone out.came

going_limit : (boot : Booted) (before after : Play) → GoesOn (leaves boot 0) before after → after.most_bytes ≡ before.most_bytes
going_limit boot before after (Onward is e) = left_limit boot before after (left boot 0 before after e)
going_limit boot before after (PlayEnded more is same) = ap (λ (p : Play). p.most_bytes) (sym same)

smc_limit : (boot : Booted) (regs : Regs) (standing : Standing) (after : Play) → after_smc boot regs standing ≡ Some after
    → after.most_bytes ≡ 2 ^ 28
smc_limit boot regs standing after e =
    option_and_then_some (unless_refused (leaves boot 0)) (enters boot (play_of standing) (visit_with regs)) after e
    (λ (between : Play) there onward.
    going_limit boot between after (play_goes_on (leaves boot 0) between after onward)
    ∙ entered_limit boot (visit_with regs) (play_of standing) between
    (entered boot (visit_with regs) (play_of standing) between there))

-- an SMC, behind which the call goes on
module _ (boot : Booted) (regs : Regs) (asked : Standing) (others : List (List ℕ)) (lines : List Line) (came : Came)
    (onward : Play → Option Came)
    (goes : (play : Play) (more : List Line) → onward play ≡ Some came
    → Traced boot (standing_after play asked.storage) others more came) where
  by_refusal : (play : Play) (more : List Line)
      → after_item boot (item_of regs) (beside asked others lines) ≡ Some (with_others others more play)
      → play.most_bytes ≡ 2 ^ 28 → (refused : Option ℕ) → play.refused ≡ refused
      → option_map_or (λ bytes. Some (Stopped bytes play.history)) refused (onward play) ≡ Some came
      → Traced boot asked others lines came
  by_refusal play more there limit (Some bytes) is e =
      let same : Stopped bytes play.history ≡ came = cc in
      let last : after_items boot (item_of regs ∷ []) (beside asked others lines) ≡ Some (with_others others more play) =
      ap (λ (o : Option Play). option_and_then (λ next. Some next) o) there in
      record {
        items = item_of regs ∷ [];
        of_client = All-cons IsOfClient (item_of regs) [] (refl, refl) (All-nil IsOfClient);
        makes = subst (Makes boot (item_of regs ∷ []) asked others lines) same (with_others others more play, last, refl);
      }
  by_refusal play more there limit None is e =
      let traced = goes play more e in
      let standing = standing_after play asked.storage in
      let stands : with_others others more play ≡ beside standing others more =
      ap (λ (refused : Option ℕ). record (with_others others more play) { refused = refused }) is
      ∙ ap (λ (most : ℕ). record (beside standing others more) { most_bytes = most }) limit in
      let first : after_items boot (item_of regs ∷ traced.items) (beside asked others lines)
      ≡ after_items boot traced.items (beside standing others more) =
      ap (λ (o : Option Play). option_and_then (λ next. after_items boot traced.items next) o)
      (there ∙ ap (λ (p : Play). Some p) stands) in
      record {
        items = item_of regs ∷ traced.items;
        of_client = All-cons IsOfClient (item_of regs) traced.items (refl, refl) traced.of_client;
        makes = makes_more boot (item_of regs ∷ []) traced.items asked standing others lines more first came traced.makes;
      }

  smc_traced : option_and_then (unless_full onward) (after_smc boot regs asked) ≡ Some came → Traced boot asked others lines came
  smc_traced e =
      option_and_then_some (unless_full onward) (after_smc boot regs asked) came e
      (λ (play : Play) there on.
      let smc = smc_beside boot regs asked others lines play there in
      by_refusal play smc.0 smc.1 (smc_limit boot regs asked play there) play.refused refl on)

-- and what is written before it
writes_traced : (boot : Booted) (standing : Standing) (made : Prepared) (others : List (List ℕ)) (lines : List Line) (came : Came)
    → Traced boot (record standing { ram = lane_after standing.ram made.writes; storage = made.storage }) others lines came
    → Traced boot standing others lines came
writes_traced boot standing made others lines came traced = record {
  items = items_of made.writes ++ traced.items;
  of_client = All-append IsOfClient (items_of made.writes) traced.items (writes_of_client made.writes) traced.of_client;
  makes = makes_more boot (items_of made.writes) traced.items standing
      (record standing { ram = lane_after standing.ram made.writes; storage = made.storage }) others lines lines
      (writes_beside boot made.writes traced.items standing others lines) came traced.makes;
}

-- at a stage with this SMC, while there is room for one
stage_traced : (boot : Booted) (cancel_after : Option ℕ) (call : Call) (room : ℕ) (stage : Stage) (regs : Regs) (standing : Standing)
    (others : List (List ℕ)) (lines : List Line) (came : Came)
    → ((next : Stage) (later : Standing) (more : List Line) → call_from boot cancel_after call room next later ≡ Some came
    → Traced boot later others more came)
    → (let asked = prepared call stage standing in
    option_and_then (unless_full (λ (play : Play).
    call_from boot cancel_after call room (next_stage cancel_after stage (answer_of play)) (standing_after play asked.storage)))
    (after_smc boot regs asked) ≡ Some came)
    → Traced boot standing others lines came
stage_traced boot cancel_after call room stage regs standing others lines came rest e =
    let asked = prepared call stage standing in
    let onward = λ (play : Play).
    call_from boot cancel_after call room (next_stage cancel_after stage (answer_of play)) (standing_after play asked.storage) in
    writes_traced boot standing (prepared_at call stage standing.ram standing.storage) others lines came
    (smc_traced boot regs asked others lines came onward
    (λ play more on. rest (next_stage cancel_after stage (answer_of play)) (standing_after play asked.storage) more on) e)

-- where it has no room
stops_here : (boot : Booted) (standing : Standing) (others : List (List ℕ)) (lines : List Line) (came : Came)
    → Some (Stopped 0 standing.history) ≡ Some came → Traced boot standing others lines came
stops_here boot standing others lines came e =
    nothing_more boot standing others lines (Stopped 0 standing.history) came (beside standing others lines, refl, refl) e

-- from a stage on
call_traced : (boot : Booted) (cancel_after : Option ℕ) (call : Call) (room : ℕ) (stage : Stage) (standing : Standing)
    (others : List (List ℕ)) (lines : List Line) (came : Came)
    → call_from boot cancel_after call room stage standing ≡ Some came → Traced boot standing others lines came
call_traced boot cancel_after call zero Ended standing others lines came e =
    nothing_more boot standing others lines (Returned 0 standing) came (lines, refl) e
call_traced boot cancel_after call zero (Failed fault) standing others lines came e =
    nothing_more boot standing others lines (Fails fault) came tt e
call_traced boot cancel_after call zero (Calls refused) standing others lines came e =
    stops_here boot standing others lines came e
call_traced boot cancel_after call zero (Cancels returns rpc) standing others lines came e =
    stops_here boot standing others lines came e
call_traced boot cancel_after call zero (Resumes returns rpc) standing others lines came e =
    stops_here boot standing others lines came e
call_traced boot cancel_after call (suc room) Ended standing others lines came e =
    nothing_more boot standing others lines (Returned (suc room) standing) came (lines, refl) e
call_traced boot cancel_after call (suc room) (Failed fault) standing others lines came e =
    nothing_more boot standing others lines (Fails fault) came tt e
call_traced boot cancel_after call (suc room) (Calls refused) standing others lines came e =
    stage_traced boot cancel_after call room (Calls refused) (call_with_arg argument_at) standing others lines came
    (λ next later more on. call_traced boot cancel_after call room next later others more came on) e
call_traced boot cancel_after call (suc room) (Cancels returns rpc) standing others lines came e =
    stage_traced boot cancel_after call room (Cancels returns rpc) (call_with_arg cancel_at) standing others lines came
    (λ next later more on. call_traced boot cancel_after call room next later others more came on) e
call_traced boot cancel_after call (suc room) (Resumes returns rpc) standing others lines came e =
    stage_traced boot cancel_after call room (Resumes returns rpc) (return_from_rpc rpc) standing others lines came
    (λ next later more on. call_traced boot cancel_after call room next later others more came on) e

-- ---- calls

-- the items make of the play what calls make of a client
record PlayTraced (boot : Booted) (standing : Standing) (others : List (List ℕ)) (lines : List Line) (history : List Event) : Type 0 where
  items : List Item
  of_client : All IsOfClient items
  play : Play
  comes : after_items boot items (beside standing others lines) ≡ Some play
  same : play.history ≡ history

-- by what the first call comes to
first_traced : (boot : Booted) (client : Client) (call : ScriptCall) (onward : Client → Option ClientPlay) (play : ClientPlay)
    (others : List (List ℕ)) (lines : List Line) (came : Came)
    → ((next : Client) (more : List Line) → onward next ≡ Some play → PlayTraced boot next.standing others more play.history)
    → goes_on onward client call came ≡ Some play → Traced boot client.standing others lines came
    → PlayTraced boot client.standing others lines play.history
first_traced boot client call onward play others lines (Returned room after) rest e traced =
    let next = rest (after_call client call room after) traced.makes.0 e in
    record {
      items = traced.items ++ next.items;
      of_client = All-append IsOfClient traced.items next.items traced.of_client next.of_client;
      play = next.play;
      comes = plays_go_on.onward boot traced.items next.items (beside client.standing others lines)
          ∙ ap (λ (o : Option Play). option_and_then (λ p. after_items boot next.items p) o) traced.makes.1 ∙ next.comes;
      same = next.same;
    }
first_traced boot client call onward play others lines (Stopped bytes history) rest e traced =
    let made : ClientPlay = record { history = history; lines = client.lines; stopped = Some bytes } in
    let same : made ≡ play = cc in
    record {
      items = traced.items;
      of_client = traced.of_client;
      play = traced.makes.0;
      comes = traced.makes.1;
      same = traced.makes.2 ∙ ap (λ (p : ClientPlay). p.history) same;
    }
first_traced boot client call onward play others lines (Fails fault) rest e traced = absurd cc

calls_traced : (boot : Booted) (calls : List ScriptCall) (client : Client) (play : ClientPlay)
    (others : List (List ℕ)) (lines : List Line)
    → calls_made boot calls client ≡ Some play → PlayTraced boot client.standing others lines play.history
calls_traced boot [] client play others lines e =
    let made : ClientPlay = ended client in
    let same : made ≡ play = cc in
    record {
      items = [];
      of_client = All-nil IsOfClient;
      play = beside client.standing others lines;
      comes = refl;
      same = ap (λ (p : ClientPlay). p.history) same;
    }
calls_traced boot (call ∷ calls) client play others lines e =
    option_and_then_some (goes_on (λ next. calls_made boot calls next) client call) (call_made boot client call) play e
    (λ (came : Came) there on.
    first_traced boot client call (λ next. calls_made boot calls next) play others lines came
    (λ next more e. calls_traced boot calls next play others more e) on
    (call_traced boot (cancelled_after call) (call_of client.sessions call) client.room (Calls 0) client.standing others lines came
    there))

-- ---- scripts

-- a core has a processor
pub some_cpu : (on : Booted) → IsBooted on → 1 ≤ on.cpus
some_cpu on boots = subst (λ (b : Booted). 1 ≤ b.cpus) (sym boots.same) boots.is_boot.some_processor

-- the play of a trace over so many processors begins where the client's begins
first_beside : (cpus : ℕ) (ram : List ℕ) → 1 ≤ cpus → (others : List (List ℕ)) × (replicate cpus ram ≡ ram ∷ others)
first_beside zero ram some = absurd (omega arith)
first_beside (suc cpus) ram some = (replicate cpus ram, refl)

pub plays_are_of_traces : PlaysAreOfTraces
plays_are_of_traces natives boot script play boots e =
    let on = booted boot natives in
    let first = first_standing (zeros 0x400000) on script in
    let lanes = first_beside on.cpus first.ram (some_cpu on boots) in
    let traced = calls_traced on script.calls (first_client first) play lanes.0 [] e in
    let trace = trace_with boot script traced.items in
    let begins : first_play (zeros 0x400000) on script.fills ≡ beside first lanes.0 [] =
    ap (λ (all : List (List ℕ)). record (beside first lanes.0 []) { lanes = all }) lanes.1 in
    let played = ap (λ (p : Play). after_items on traced.items p) begins ∙ traced.comes in
    record {
      items = traced.items;
      of_client = traced.of_client;
      play = traced.play;
      true_to_kernel = plays_are_true natives boot trace traced.play boots played;
      same = traced.same;
    }

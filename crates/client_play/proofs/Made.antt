-- A call on a core is a client's run of SMCs that the core has served.
use Rattle.std.proofs.Common.{◌≡◌, ℕ, zero, suc, ◌+◌, ◌^◌, Bool, true, false, List, [], ◌∷◌, ◌++◌, Option, Some, None, refl, sym, ap, subst, ◌∙◌, append_assoc, append-nil}
use Rattle.std.specs.Prelude.{nat_lt, if◌then◌else◌}
use Rattle.std.specs.List.{flat_map}
use Rattle.std.specs.Option.{option_and_then, option_map_or}
use Rattle.std.proofs.lemmas.Option.{option_and_then_some}
use Rattle.event_journal.specs.Journal.{copied_bytes}
use Rattle.event_journal.specs.declared.event.Event.{Event}
use Rattle.event_journal.specs.declared.event.Event.TheVariants.{Entry, Exit}
use Rattle.kernel_model.specs.Application.{Booted}
use Rattle.kernel_model.specs.Entry.{entry}
use Rattle.kernel_model.specs.Exit.{Exited, exit}
use Rattle.kernel_model.specs.History.{after_event}
use Rattle.kernel_model.specs.Kernel.{Kernel}
use Rattle.kernel_model.proofs.Parts.{option_map_some}
use Rattle.ns_ram.proofs.ReaderLaws.{over_lane-reading}
use Rattle.ns_ram.specs.Reader.{over_lane}
use Rattle.ns_ram.specs.Reads.{HoldsReads, total_bytes}
use Rattle.ns_ram.specs.Writes.{lane_after}
use Rattle.ns_ram.specs.declared.read.Read.{Read}
use Rattle.play_model.specs.Line.{Ret}
use Rattle.play_model.specs.Play.{Play, enters, enters_with, entry_event, lane_of, leaves, reads_of, unless_refused, with_event, with_line, with_writes}
use Rattle.play_model.proofs.Adds.{GoesOn, Onward, Ended as Stays, goes_on}
use Rattle.play_model.proofs.Entries.{left}
use Rattle.play_model.proofs.EventsCome.{exits_come}
use Rattle.smc_abi.specs.declared.regs.Regs.{Regs}
use Rattle.smc_port.specs.Smc.{Smc}
use Rattle.teec.specs.Rounds.{Calls, Cancels, Ended, Failed, Resumes, Stage, regs_at}
use Rattle.teec.specs.Runs.{Runs}
use Rattle.client_play.specs.Laws.{CallsAreMadeAlike, MakesAlike}
use Rattle.client_play.specs.Served.{CallOn, IsServed, events_of, point_of, scene_of}
use Rattle.client_play.specs.Standing.{Came, Fails, Returned, Standing, Stopped, after_smc, answer_of, call_from, most_returns, next_stage, play_of, prepared, standing_after, steps_granted, tries, unless_full, visit_with}
use Rattle.client_play.proofs.Going.{next_smc}
use Rattle.client_play.proofs.Preparing.{prepares_alike}
use Rattle.client_play.proofs.Smcs.{append_two, told_exit}

-- ---- the SMC that a play has made

record MakesSmc (boot : Booted) (regs : Regs) (asked : Standing) (play : Play) : Type 0 where
  smc : Smc
  with : smc.regs ≡ regs
  served : IsServed boot asked.kernel smc play.kernel
  read : HoldsReads asked.ram smc.reads
  lane : lane_of play 0 ≡ lane_after asked.ram smc.writes
  history : play.history ≡ asked.history ++ events_of smc
  answer : answer_of play ≡ smc.answer

-- an entry that wasn't refused, with what it has read
record ComesIn (boot : Booted) (regs : Regs) (asked : Standing) (between : Play) : Type 0 where
  reads : List Read
  inside : Kernel
  follows : after_event boot asked.kernel (Entry 0 regs steps_granted reads) ≡ Some inside
  holds : HoldsReads asked.ram reads
  is : record (play_of asked) { kernel = inside; history = asked.history ++ Entry 0 regs steps_granted reads ∷ [] } ≡ between

came_by : (boot : Booted) (regs : Regs) (asked : Standing) (between : Play) (reads : List Read) (full : Bool)
    → HoldsReads asked.ram reads → between.refused ≡ None
    → (if full then Some (record (play_of asked) { refused = Some (total_bytes reads) })
    else with_event boot (entry_event (visit_with regs) reads) (play_of asked)) ≡ Some between
    → ComesIn boot regs asked between
came_by boot regs asked between reads true holds going e =
    let same : record (play_of asked) { refused = Some (total_bytes reads) } ≡ between = cc in
    let none : Some (total_bytes reads) ≡ None = ap (λ (p : Play). p.refused) same ∙ going in
    absurd cc
came_by boot regs asked between reads false holds going e =
    let event : Event = Entry 0 regs steps_granted reads in
    let came = option_map_some
    (λ (next : Kernel). record (play_of asked) { kernel = next; history = asked.history ++ event ∷ [] })
    (after_event boot asked.kernel event) between e in
    record { reads = reads; inside = came.0; follows = came.1; holds = holds; is = came.2 }

comes_in : (boot : Booted) (regs : Regs) (asked : Standing) (between : Play) → enters boot (play_of asked) (visit_with regs) ≡ Some between
    → between.refused ≡ None → ComesIn boot regs asked between
comes_in boot regs asked between e going =
    let reader = entry boot asked.kernel (visit_with regs) in
    option_and_then_some (enters_with boot (play_of asked) (visit_with regs)) (reads_of boot (play_of asked) (visit_with regs)) between e
    (λ (reads : List Read) there onward.
    let end = option_map_some (λ (end : Kernel × List Read). end.1) (over_lane reader asked.ram []) reads there in
    let of = (over_lane-reading reader asked.ram end.0.1 end.0.0).0 end.1 in
    came_by boot regs asked between reads (nat_lt (2 ^ 28) (copied_bytes asked.history + total_bytes reads))
    (subst (λ (all : List Read). HoldsReads asked.ram all) end.2 of.1) going onward)

same_play : (one other : Play) → Some one ≡ Some other → one ≡ other
same_play one other e = cc

made : (boot : Booted) (regs : Regs) (asked : Standing) (between play : Play) → ComesIn boot regs asked between
    → leaves boot 0 between ≡ Some play → MakesSmc boot regs asked play
made boot regs asked between play came e =
    let out = left boot 0 between play e in
    let exited : Exited = out.exited in
    let entered : Play =
    record (play_of asked) { kernel = came.inside; history = asked.history ++ Entry 0 regs steps_granted came.reads ∷ [] } in
    let exits : exit came.inside 0 ≡ Some exited = ap (λ (p : Play). exit p.kernel 0) came.is ∙ out.there in
    let gone : Play = record entered { kernel = exited.kernel; history = entered.history ++ Exit 0 (record { a = exited.regs }) ∷ [] } in
    let after : Play = with_line (Ret 0 exited.regs) (with_writes 0 exited.writes gone) in
    let same : after ≡ play = same_play after play
    (sym (exits_come boot entered 0 exited exits) ∙ ap (λ (p : Play). leaves boot 0 p) came.is ∙ e) in
    subst (MakesSmc boot regs asked) same (record {
      smc = record { regs = regs; reads = came.reads; answer = record { a = exited.regs }; writes = exited.writes };
      with = refl;
      served = record {
        inside = came.inside;
        enters = came.follows;
        exited = exited;
        exits = exits;
        answered = refl;
        written = refl;
        next_is = refl;
      };
      read = came.holds;
      lane = refl;
      history = append_two asked.history (Entry 0 regs steps_granted came.reads) (Exit 0 (record { a = exited.regs }));
      answer = ap (λ (a : List ℕ). record { a = a }) (told_exit entered.history (record { a = exited.regs }));
    })

smc_made : (boot : Booted) (regs : Regs) (asked : Standing) (play : Play) → after_smc boot regs asked ≡ Some play → play.refused ≡ None
    → MakesSmc boot regs asked play
smc_made boot regs asked play e going =
    option_and_then_some (unless_refused (leaves boot 0)) (enters boot (play_of asked) (visit_with regs)) play e
    (λ (between : Play) comes onward. by between comes (goes_on (leaves boot 0) between play onward))
  where
    by : (between : Play) → enters boot (play_of asked) (visit_with regs) ≡ Some between → GoesOn (leaves boot 0) between play
        → MakesSmc boot regs asked play
    by between comes (Onward on went) = made boot regs asked between play (comes_in boot regs asked between comes on) went
    by between comes (Stays more is same) =
        let none : Some more ≡ None = sym is ∙ ap (λ (p : Play). p.refused) same ∙ going in absurd cc

-- ---- a call

module _ (on : CallOn) (new : Standing) where
  -- an SMC, and all that come behind it
  one_more : (stage : Stage) (old : Standing) (regs : Regs) (play : Play) → regs_at stage ≡ Some regs
      → MakesSmc on.boot regs (prepared on.call stage old) play
      → MakesAlike on (point_of (next_stage on.cancel_after stage (answer_of play)) (standing_after play (prepared on.call stage old).storage))
      new
      → MakesAlike on (point_of stage old) new
  one_more stage old regs play is first others =
      let asked = prepared on.call stage old in
      record {
        smcs = first.smc ∷ others.smcs;
        served = (play.kernel, first.served, others.served);
        history = others.history
            ∙ ap (λ (before : List Event). before ++ flat_map events_of others.smcs) first.history
            ∙ append_assoc old.history (events_of first.smc) (flat_map events_of others.smcs);
        runs = λ inside. (
          scene_of (standing_after play asked.storage),
          record {
            asked = scene_of asked;
            prepared = (prepares_alike on.call stage (scene_of old) (scene_of asked)).1 refl;
            regs = is ∙ ap Some (sym first.with);
            changed = record { read = first.read; inside = inside.0; written = first.lane };
            storage = refl;
          },
          subst (λ (answer : Regs). Runs (record { retries = tries; rounds = most_returns; cancel_after = on.cancel_after }) on.call
              (next_stage on.cancel_after stage answer) (scene_of (standing_after play asked.storage)) others.smcs Ended (scene_of new))
              first.answer (others.runs inside.1),
        );
      }

  -- it goes on behind an SMC with room
  goes_behind : (play : Play) (onward : Play → Option Came) (left : ℕ) (refused : Option ℕ) → play.refused ≡ refused
      → unless_full onward play ≡ Some (Returned left new) → (play.refused ≡ None) × (onward play ≡ Some (Returned left new))
  goes_behind play onward left None is e =
      (is, sym (ap (λ (o : Option ℕ). option_map_or (λ n. Some (Stopped n play.history)) o (onward play)) is) ∙ e)
  goes_behind play onward left (Some more) is e =
      let stops : Some (Stopped more play.history) ≡ Some (Returned left new) =
      sym (ap (λ (o : Option ℕ). option_map_or (λ n. Some (Stopped n play.history)) o (onward play)) is) ∙ e in
      absurd cc

  going : (room left : ℕ) (stage : Stage) (old : Standing) (regs : Regs) → regs_at stage ≡ Some regs
      → ((next : Stage) (between : Standing) → call_from on.boot on.cancel_after on.call room next between ≡ Some (Returned left new)
      → MakesAlike on (point_of next between) new)
      → call_from on.boot on.cancel_after on.call (suc room) stage old ≡ Some (Returned left new) → MakesAlike on (point_of stage old) new
  going room left stage old regs is later e =
      let asked = prepared on.call stage old in
      let onward = λ (play : Play).
      call_from on.boot on.cancel_after on.call room (next_stage on.cancel_after stage (answer_of play)) (standing_after play asked.storage) in
      let came = sym (next_smc (suc room) stage old (λ regs. option_and_then (unless_full onward) (after_smc on.boot regs asked)) regs is) ∙ e in
      option_and_then_some (unless_full onward) (after_smc on.boot regs asked) (Returned left new) came
      (λ (play : Play) there full.
      let went = goes_behind play onward left play.refused refl full in
      one_more stage old regs play is (smc_made on.boot regs asked play there went.0)
      (later (next_stage on.cancel_after stage (answer_of play)) (standing_after play asked.storage) went.1))

  -- where no more SMCs can be made, none is
  spent : (left : ℕ) (stage : Stage) (old : Standing) (regs : Regs) → regs_at stage ≡ Some regs
      → call_from on.boot on.cancel_after on.call 0 stage old ≡ Some (Returned left new) → MakesAlike on (point_of stage old) new
  spent left stage old regs is e =
      let stops : Some (Stopped 0 old.history) ≡ Some (Returned left new) =
      sym (next_smc 0 stage old (λ regs. Some (Stopped 0 old.history)) regs is) ∙ e in
      absurd cc

  ends : (room left : ℕ) (old : Standing) → Some (Returned room old) ≡ Some (Returned left new)
      → MakesAlike on (point_of Ended old) new
  ends room left old e =
      let same : old ≡ new = cc in
      subst (λ (last : Standing). MakesAlike on (point_of Ended old) last) same
      (record { smcs = []; served = refl; history = sym (append-nil old.history); runs = λ inside. (refl, refl) })

  made_from : (room left : ℕ) (stage : Stage) (old : Standing) → call_from on.boot on.cancel_after on.call room stage old ≡ Some (Returned left new)
      → MakesAlike on (point_of stage old) new
  made_from zero left Ended old e = ends 0 left old e
  made_from zero left (Failed fault) old e = let fails : Some (Fails fault) ≡ Some (Returned left new) = e in absurd cc
  made_from zero left (Calls refused) old e = spent left (Calls refused) old _ refl e
  made_from zero left (Cancels returns rpc) old e = spent left (Cancels returns rpc) old _ refl e
  made_from zero left (Resumes returns rpc) old e = spent left (Resumes returns rpc) old _ refl e
  made_from (suc room) left Ended old e = ends (suc room) left old e
  made_from (suc room) left (Failed fault) old e = let fails : Some (Fails fault) ≡ Some (Returned left new) = e in absurd cc
  made_from (suc room) left (Calls refused) old e =
      going room left (Calls refused) old _ refl (λ next between. made_from room left next between) e
  made_from (suc room) left (Cancels returns rpc) old e =
      going room left (Cancels returns rpc) old _ refl (λ next between. made_from room left next between) e
  made_from (suc room) left (Resumes returns rpc) old e =
      going room left (Resumes returns rpc) old _ refl (λ next between. made_from room left next between) e

pub calls_are_made_alike : CallsAreMadeAlike
calls_are_made_alike on room left old new e = made_from on new room left (Calls 0) old e

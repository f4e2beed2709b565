-- What an SMC makes of a port.
use Rattle.std.proofs.Common.{◌≡◌, ℕ, ◌+◌, ◌<◌, ◌≤◌, Bool, true, false, List, [], ◌∷◌, ◌++◌, length, Option, Some, refl, sym, ap, subst, ◌∙◌, arith}
use Rattle.std.specs.Prelude.{IsSomeAnd, ◌^◌, nat_lt, not, ◌&&◌, replicate, slice_get, slice_index_or}
use Rattle.std.specs.List.{AllByRecursion}
use Rattle.std.specs.Option.{option_and_then, option_map, option_map_or}
use Rattle.std.proofs.lemmas.Bool.{le-ltb, lt-ltb}
use Rattle.std.proofs.lemmas.List.{length-append}
use Rattle.std.proofs.lemmas.List.Sums.{sum_by-append}
use Rattle.std.proofs.lemmas.Option.{option_and_then_some}
use Rattle.core_machine.proofs.AtPlay.{CoreAt, came_in, entry_at, entry_comes, exit_comes, gone_out}
use Rattle.event_journal.specs.Event.{copied_by}
use Rattle.event_journal.specs.Journal.{copied_bytes}
use Rattle.event_journal.specs.declared.event.Event.{Event}
use Rattle.event_journal.specs.declared.event.Event.TheVariants.{Entry, Exit}
use Rattle.kernel_model.specs.Application.{Booted}
use Rattle.kernel_model.specs.Entry.{entry}
use Rattle.kernel_model.specs.Exit.{Exited, exit, exit_of}
use Rattle.kernel_model.specs.History.{exit_after}
use Rattle.kernel_model.specs.Kernel.{Kernel, Outside, Processor}
use Rattle.kernel_model.proofs.Parts.{set_found}
use Rattle.kernel_model.proofs.StandingBy.{exit_sets}
use Rattle.kernel_state.specs.Entering.{bytes_read}
use Rattle.kernel_state.specs.Laws.{CoreEntry, CoreExit}
use Rattle.kernel_state.specs.Meaning.{booted_of, events_of, kernel_of, terms_of}
use Rattle.kernel_state.specs.declared.kernel_core.Core.{Core}
use Rattle.kernel_state.specs.declared.terms.Terms.{Terms}
use Rattle.kernel_state.proofs.CoreEvents.{core_is_legal, journals_legal, some_kernel}
use Rattle.kernel_state.proofs.Told.{few_bytes}
use Rattle.ns_ram.specs.Reader.{over_lane}
use Rattle.ns_ram.specs.Reads.{total_bytes}
use Rattle.ns_ram.specs.Writes.{IsWriteOfRam, Write, lane_after}
use Rattle.ns_ram.specs.declared.read.Read.{Read}
use Rattle.ns_ram.proofs.ReaderLaws.{over_lane-reading}
use Rattle.play_model.specs.Line.{Ret}
use Rattle.play_model.specs.Play.{Play, enters, leaves, unless_refused}
use Rattle.play_model.proofs.LastAnswers.{told_last-append}
use Rattle.smc_abi.specs.declared.regs.Regs.{Regs}
use Rattle.smc_port.specs.Smc.{Makes, Smc}
use Rattle.core_port.specs.CorePort.{Answers, ComesTo, CoreView, StandsAt, after_smc, bytes_wanted, has_room, is_full, visit_with}
use Rattle.core_at_work.specs.Insides.{IsOutside}
use Rattle.core_port.specs.Serving.{GoesThrough, IsPort, coming_with, smcs_of}
use Rattle.core_port.specs.Smcs.{history_of, smcs_in, writes_behind}
use Rattle.core_port.proofs.InRam.{exit_in_ram}
use Rattle.core_port.proofs.OfPlay.{sees}
use Rattle.core_port.proofs.Told.{history_behind, smcs_behind}

abbrev pub view_of : Core → List ℕ → CoreView
view_of core lane = record { boot = booted_of core; history = events_of core; ram = lane }

-- ---- an SMC that was made

module _ (old new : Core) (lane now : List ℕ) (regs answer : Regs) (so : GoesThrough old new lane now regs answer) where
  first : (kernel : Kernel) × (kernel_of old ≡ Some kernel)
  first = some_kernel old

  mid : (kernel : Kernel) × (kernel_of so.between ≡ Some kernel)
  mid = some_kernel so.between

  last : (kernel : Kernel) × (kernel_of new ≡ Some kernel)
  last = some_kernel new

  core_entry : CoreEntry
  core_entry = record {
    old = old;
    new = so.between;
    coming = coming_with regs;
    lane = lane;
    work = so.work;
    has_entered = so.entered;
    kernel = (some_kernel old).0;
    next = (some_kernel so.between).0;
    before = (some_kernel old).1;
    after = (some_kernel so.between).1;
  }

  core_exit : CoreExit
  core_exit = record {
    old = so.between;
    new = new;
    ran = so.ran;
    lane = lane;
    now = now;
    told = answer;
    has_left = so.left;
    kernel = (some_kernel so.between).0;
    next = (some_kernel new).0;
    before = (some_kernel so.between).1;
    after = (some_kernel new).1;
  }

  is_exit : exit (some_kernel so.between).0 0 ≡ Some so.left.exited
  unfolding core_exit
  is_exit = ap (λ (cpu : ℕ). exit (some_kernel so.between).0 cpu) (sym so.cpu) ∙ journals_legal.exits core_exit

  last_is : (some_kernel new).0 ≡ so.left.exited.kernel
  unfolding core_exit
  last_is = journals_legal.left core_exit

  boot_is : booted_of new ≡ booted_of old
  boot_is = so.left.boot ∙ so.entered.boot

  history_is : events_of new ≡ (events_of old ++ Entry 0 regs 10000 so.entered.reads ∷ []) ++ Exit 0 answer ∷ []
  history_is =
      so.left.events
      ∙ ap (λ (events : List Event). events ++ Exit so.ran.cpu answer ∷ []) so.entered.events
      ∙ ap (λ (cpu : ℕ). (events_of old ++ Entry 0 regs 10000 so.entered.reads ∷ []) ++ Exit cpu answer ∷ []) so.cpu

  -- ---- in a play at which the port stands

  module _ (limit : (terms_of old).most ≡ 2 ^ 28) (play : Play) (there : StandsAt (record { boot = booted_of old; history = events_of old; ram = lane }) play) where
    at : CoreAt (booted_of old) play old
    at = record { booted = refl; history = sym there.history; kernel = there.kernel; limit = limit ∙ sym there.limit }

    came : enters (booted_of old) play (visit_with regs) ≡ Some (came_in play (some_kernel so.between).0 (coming_with regs) so.entered.reads)
    came = entry_comes (booted_of old) play old so.between (coming_with regs) lane so.work at (sees play lane there.ram) so.entered
        (some_kernel so.between).0 (some_kernel so.between).1

    at_between : CoreAt (booted_of old) (came_in play (some_kernel so.between).0 (coming_with regs) so.entered.reads) so.between
    at_between = entry_at (booted_of old) play old so.between (coming_with regs) lane so.work at (sees play lane there.ram) so.entered
        (some_kernel so.between).0 (some_kernel so.between).1

    gone : leaves (booted_of old) 0 (came_in play (some_kernel so.between).0 (coming_with regs) so.entered.reads)
        ≡ Some (gone_out (came_in play (some_kernel so.between).0 (coming_with regs) so.entered.reads) 0 so.left.exited)
    gone =
        let between = came_in play (some_kernel so.between).0 (coming_with regs) so.entered.reads in
        subst (λ (cpu : ℕ). leaves (booted_of old) cpu between ≡ Some (gone_out between cpu so.left.exited)) so.cpu
        (exit_comes (booted_of old) between so.between new so.ran lane now answer at_between so.left (some_kernel new).0 (some_kernel new).1)

    after : after_smc (booted_of old) regs play
        ≡ Some (gone_out (came_in play (some_kernel so.between).0 (coming_with regs) so.entered.reads) 0 so.left.exited)
    after =
        let between = came_in play (some_kernel so.between).0 (coming_with regs) so.entered.reads in
        ap (λ (o : Option Play). option_and_then (unless_refused (leaves (booted_of old) 0)) o) came
        ∙ ap (λ (refused : Option ℕ). option_map_or (λ more. Some between) refused (leaves (booted_of old) 0 between)) there.goes_on
        ∙ gone

    stands : StandsAt (record { boot = booted_of new; history = events_of new; ram = now })
        (gone_out (came_in play (some_kernel so.between).0 (coming_with regs) so.entered.reads) 0 so.left.exited)
    stands =
        let told : List ℕ → Regs = λ a. record { a = a } in
        let seen = sees play lane there.ram in
        record {
          kernel = (some_kernel new).1 ∙ ap Some last_is;
          history = ap (λ (events : List Event). (events ++ Entry 0 regs 10000 so.entered.reads ∷ []) ++ Exit 0 (told so.left.exited.regs) ∷ []) there.history
              ∙ ap (λ (a : List ℕ). (events_of old ++ Entry 0 regs 10000 so.entered.reads ∷ []) ++ Exit 0 (told a) ∷ []) (sym so.left.answer)
              ∙ sym history_is;
          ram = set_found play.lanes 0 (lane_after (slice_index_or play.lanes 0 []) so.left.exited.writes) lane there.ram
              ∙ ap (λ (ram : List ℕ). Some (lane_after ram so.left.exited.writes)) seen
              ∙ ap Some (sym so.left.writes);
          limit = there.limit;
          goes_on = there.goes_on;
        }

    pub comes_to : ComesTo (booted_of old) play regs answer (record { boot = booted_of new; history = events_of new; ram = now })
    comes_to = record {
      next = gone_out (came_in play (some_kernel so.between).0 (coming_with regs) so.entered.reads) 0 so.left.exited;
      after = after;
      stands = stands;
      printed = ap (λ (a : List ℕ). play.lines ++ Ret 0 a ∷ []) (sym so.left.answer);
      last = told_last-append 0 (replicate 8 0) (play.history ++ Entry 0 regs 10000 so.entered.reads ∷ []) (Exit 0 (record { a = so.left.exited.regs }) ∷ [])
          ∙ sym so.left.answer;
    }

  pub answers : (terms_of old).most ≡ 2 ^ 28 → Answers (view_of old lane) regs answer (view_of new now)
  answers limit = record { boot = boot_is; in_play = comes_to limit }

  -- ---- the SMC

  writes_are : writes_behind (booted_of old) (events_of old ++ Entry 0 regs 10000 so.entered.reads ∷ []) 0 ≡ so.left.exited.writes
  writes_are =
      let there : exit_after (booted_of old) (events_of old ++ Entry 0 regs 10000 so.entered.reads ∷ []) 0 ≡ Some so.left.exited =
      ap (λ (events : List Event). exit_after (booted_of old) events 0) (sym so.entered.events)
      ∙ ap (λ (b : Booted). exit_after b (events_of so.between) 0) (sym so.entered.boot)
      ∙ ap (λ (cpu : ℕ). exit_after (booted_of so.between) (events_of so.between) cpu) (sym so.cpu)
      ∙ so.left.is_exit in
      ap (λ (o : Option Exited). option_map_or (λ (x : Exited). x.writes) o []) there

  pub smcs_are : smcs_of new ≡ smcs_of old ++ record { regs = regs; reads = so.entered.reads; answer = answer; writes = so.left.exited.writes } ∷ []
  smcs_are =
      ap (λ (b : Booted). smcs_in b (events_of new)) boot_is
      ∙ ap (λ (events : List Event). smcs_in (booted_of old) events) history_is
      ∙ smcs_behind (booted_of old) (events_of old) 0 10000 regs answer so.entered.reads
      ∙ ap (λ (writes : List Write). smcs_of old ++ record { regs = regs; reads = so.entered.reads; answer = answer; writes = writes } ∷ []) writes_are

  in_ram : length lane ≡ 0x400000 → length now ≡ 0x400000 → AllByRecursion IsWriteOfRam so.left.exited.writes
  in_ram whole still =
      exit_in_ram (booted_of so.between) (events_of so.between) (some_kernel so.between).0 0 so.left.exited lane now
      (core_is_legal so.between).boots (some_kernel so.between).1 is_exit whole still so.left.writes

  pub makes : length lane ≡ 0x400000 → length now ≡ 0x400000 → Makes lane (smcs_of old) regs answer now (smcs_of new)
  makes whole still = record {
    smc = record { regs = regs; reads = so.entered.reads; answer = answer; writes = so.left.exited.writes };
    with = refl;
    answered = refl;
    last = smcs_are;
    changes = record { read = so.entered.from_lane; inside = in_ram whole still; written = so.left.writes };
  }

  outside : IsOutside new 0
  outside =
      option_and_then_some (exit_of (some_kernel so.between).0 0) (slice_get (some_kernel so.between).0.processors 0) so.left.exited is_exit
      (λ (was : Processor) there onward.
      subst (λ (o : Option Kernel). IsSomeAnd o (λ (kernel : Kernel). slice_get kernel.processors 0 ≡ Some Outside)) (sym (some_kernel new).1)
      (ap (λ (kernel : Kernel). slice_get kernel.processors 0) last_is
      ∙ ap (λ (processors : List Processor). slice_get processors 0) (exit_sets (some_kernel so.between).0 0 so.left.exited is_exit)
      ∙ set_found (some_kernel so.between).0.processors 0 Outside was there))

  pub stays_port : (boot : Booted) (made : ℕ) → IsPort boot old lane made → made < 32768 → length now ≡ 0x400000 → IsPort boot new now (made + 1)
  stays_port boot made port few still =
      let smc : Smc = record { regs = regs; reads = so.entered.reads; answer = answer; writes = so.left.exited.writes } in
      record {
        boots = boot_is ∙ port.boots;
        limit = ap (λ (terms : Terms). terms.most) (so.left.terms ∙ so.entered.terms) ∙ port.limit;
        outside = outside;
        whole = still;
        just_these = history_is ∙ history_behind (events_of old) (smcs_of old) smc port.just_these ∙ ap history_of (sym smcs_are);
        counted = ap (λ (smcs : List Smc). length smcs) smcs_are ∙ length-append (smcs_of old) (smc ∷ [])
            ∙ ap (λ (n : ℕ). n + 1) port.counted;
        few = omega (arith, few);
      }

  -- ---- its room

  few_read : (terms_of old).most ≡ 2 ^ 28 → copied_bytes (events_of old) + total_bytes so.entered.reads ≤ 2 ^ 28
  few_read limit =
      let event = Entry 0 regs 10000 so.entered.reads in
      let sum = sum_by-append copied_by (events_of old) (event ∷ []) in
      let all : copied_bytes (events_of so.between) ≤ 2 ^ 28 =
      subst (λ (most : ℕ). copied_bytes (events_of so.between) ≤ most)
      (ap (λ (terms : Terms). terms.most) so.entered.terms ∙ limit) (few_bytes so.between.parts so.between.replay) in
      let here : copied_bytes (events_of old ++ event ∷ []) ≤ 2 ^ 28 =
      subst (λ (events : List Event). copied_bytes events ≤ 2 ^ 28) so.entered.events all in
      omega (arith, sum, here)

  wanted : bytes_wanted (view_of old lane) regs ≡ Some (total_bytes so.entered.reads)
  unfolding core_entry
  wanted =
      let read : over_lane (entry (booted_of old) (some_kernel old).0 (visit_with regs)) lane [] ≡ Some ((some_kernel so.between).0, so.entered.reads) =
      (over_lane-reading (entry (booted_of old) (some_kernel old).0 (visit_with regs)) lane so.entered.reads (some_kernel so.between).0).1
      (journals_legal.entered core_entry, so.entered.from_lane) in
      ap (λ (o : Option Kernel). option_and_then (bytes_read (booted_of old) lane (visit_with regs)) o) (some_kernel old).1
      ∙ ap (option_map (λ (end : Kernel × List Read). total_bytes end.1)) read

  pub had_room : (boot : Booted) (made : ℕ) → IsPort boot old lane made → made < 32768 → has_room (view_of old lane) regs ≡ true
  had_room boot made port few =
      ap (λ (b : Bool). b && not (is_full (view_of old lane) regs))
      (lt-ltb (length (smcs_of old)) 32768 (subst (λ (n : ℕ). n < 32768) (sym port.counted) few))
      ∙ ap (λ (o : Option ℕ). not (option_map_or (λ more. nat_lt (2 ^ 28) (copied_bytes (events_of old) + more)) o false)) wanted
      ∙ ap not (le-ltb (2 ^ 28) (copied_bytes (events_of old) + total_bytes so.entered.reads) (few_read port.limit))

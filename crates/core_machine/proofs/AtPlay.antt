-- What an entry and an exit of a core are in the play at which it stands.
use Rattle.std.proofs.Common.{◌≡◌, ℕ, ◌+◌, ◌<◌, ◌≤◌, Bool, List, [], ◌∷◌, ◌++◌, Option, Some, refl, ap}
use Rattle.std.proofs.Common.{sym, subst, ◌∙◌, arith}
use Rattle.std.specs.Prelude.{IsSome, if◌then◌else◌}
use Rattle.std.specs.Option.{option_and_then, option_map}
use Rattle.std.proofs.lemmas.Bool.{le-ltb, lt-ltb}
use Rattle.std.proofs.lemmas.List.Sums.{sum_by-append}
use Rattle.core_machine.specs.Moving.{IsRefused}
use Rattle.event_journal.specs.Event.{copied_by}
use Rattle.event_journal.specs.Journal.{copied_bytes}
use Rattle.event_journal.specs.declared.event.Event.{Event}
use Rattle.event_journal.specs.declared.event.Event.TheVariants.{Entry, Exit}
use Rattle.core_at_work.specs.Visiting.{coming_of}
use Rattle.core_at_work.specs.Visitor.{Visitor}
use Rattle.kernel_model.specs.Application.{Booted}
use Rattle.kernel_model.specs.Entry.{entry}
use Rattle.kernel_model.specs.Exit.{Exited, exit}
use Rattle.kernel_model.specs.History.{after_event}
use Rattle.kernel_model.specs.Kernel.{Kernel}
use Rattle.kernel_model.proofs.Parts.{option_map_some}
use Rattle.kernel_model.proofs.Suspended.{only_one}
use Rattle.kernel_state.specs.Entering.{Coming, HasEntered, IsTooMuch, bytes_read, visit_of}
use Rattle.kernel_state.specs.Laws.{CoreExit}
use Rattle.kernel_state.specs.Leaving.{HasLeft}
use Rattle.kernel_state.specs.Meaning.{booted_of, events_of, kernel_of, terms_of}
use Rattle.kernel_state.specs.declared.kernel_core.Core.{Core}
use Rattle.kernel_state.specs.declared.terms.Terms.{Terms}
use Rattle.kernel_state.specs.declared.work.Ran.{Ran}
use Rattle.kernel_state.specs.declared.work.Work.{Work}
use Rattle.kernel_state.proofs.CoreEvents.{events_onward, journals_legal}
use Rattle.kernel_state.proofs.Told.{few_bytes}
use Rattle.ns_ram.specs.Reader.{over_lane}
use Rattle.ns_ram.specs.Reads.{HoldsReads, total_bytes}
use Rattle.ns_ram.specs.declared.read.Read.{Read}
use Rattle.play_model.specs.Line.{Ret}
use Rattle.play_model.specs.Play.{Play, enters, enters_with, lane_of, leaves, reads_of, with_line, with_writes}
use Rattle.play_model.proofs.EventsCome.{entries_are_read, exits_come}
use Rattle.smc_abi.specs.declared.regs.Regs.{Regs}

-- the core stands at the play
pub record CoreAt (boot : Booted) (play : Play) (core : Core) : Type 0 where
  pub booted : booted_of core ≡ boot
  pub history : events_of core ≡ play.history
  pub kernel : kernel_of core ≡ Some play.kernel
  pub limit : (terms_of core).most ≡ play.most_bytes

-- ---- an entry

-- the play after it
abbrev pub came_in : Play → Kernel → Coming → List Read → Play
came_in play next coming reads =
    record play { kernel = next; history = play.history ++ Entry coming.cpu coming.regs coming.steps reads ∷ [] }

copied_with : (history : List Event) (coming : Coming) (reads : List Read) →
    copied_bytes (history ++ Entry coming.cpu coming.regs coming.steps reads ∷ []) ≡ copied_bytes history +
    total_bytes reads
copied_with history coming reads =
    let sum = sum_by-append copied_by history (Entry coming.cpu coming.regs coming.steps reads ∷ []) in omega
    (arith, sum)

module _ (boot : Booted) (play : Play) (old new : Core) (coming : Coming) (lane : List ℕ) (work : Work)
    (at : CoreAt boot play old)
    (sees : lane_of play coming.cpu ≡ lane) (has : HasEntered old new coming lane work) (next : Kernel)
    (after : kernel_of new ≡ Some next) where
  abbrev event_of : Event
  event_of = Entry coming.cpu coming.regs coming.steps has.reads

  history_after : events_of new ≡ play.history ++ event_of ∷ []
  history_after = has.events ∙ ap (λ (events : List Event). events ++ event_of ∷ []) at.history

  follows : after_event boot play.kernel event_of ≡ Some next
  follows =
      subst (λ (b : Booted). after_event b play.kernel event_of ≡ Some next) at.booted
      (only_one (after_event (booted_of old) play.kernel event_of) next
      (events_onward (booted_of old) (booted_of new) (events_of old) (event_of ∷ []) (events_of new) play.kernel next
      has.boot has.events at.kernel after))

  limit_after : (terms_of new).most ≡ play.most_bytes
  limit_after = ap (λ (terms : Terms). terms.most) has.terms ∙ at.limit

  few : copied_bytes play.history + total_bytes has.reads ≤ play.most_bytes
  few =
      subst (λ (n : ℕ). n ≤ play.most_bytes)
      (ap copied_bytes history_after ∙ copied_with play.history coming has.reads)
      (subst (λ (n : ℕ). copied_bytes (events_of new) ≤ n) limit_after (few_bytes new.parts new.replay))

  with_them : enters_with boot play (visit_of coming) has.reads ≡ Some (came_in play next coming has.reads)
  with_them =
      ap (λ (much : Bool). if much then Some (record play { refused = Some (total_bytes has.reads) })
      else option_map (λ (k : Kernel). came_in play k coming has.reads) (after_event boot play.kernel event_of))
      (le-ltb play.most_bytes (copied_bytes play.history + total_bytes has.reads) few)
      ∙ ap (option_map (λ (k : Kernel). came_in play k coming has.reads)) follows

  pub entry_comes : enters boot play (visit_of coming) ≡ Some (came_in play next coming has.reads)
  entry_comes =
      entries_are_read boot play (visit_of coming) has.reads (record {
        follows = subst (λ (o : Option Kernel). IsSome o) (sym follows) refl;
        holds = subst (λ (l : List ℕ). HoldsReads l has.reads) (sym sees) has.from_lane;
      })
      ∙ with_them

  pub entry_at : CoreAt boot (came_in play next coming has.reads) new
  entry_at = record {
    booted = has.boot ∙ at.booted;
    history = history_after;
    kernel = after;
    limit = limit_after;
  }

-- one that is refused is refused in the play
pub entry_refused : (boot : Booted) (play : Play) (core : Core) (visitor : Visitor) (lane : List ℕ) (copied more : ℕ)
    → CoreAt boot play core →
    lane_of play visitor.cpu ≡ lane → IsTooMuch core (coming_of visitor) lane copied more → IsRefused boot play
    visitor copied more
entry_refused boot play core visitor lane copied more at sees much =
    let visit = visit_of (coming_of visitor) in
    let so_far : copied ≡ copied_bytes play.history = much.so_far ∙ ap copied_bytes at.history in
    let reads : bytes_read boot lane visit play.kernel ≡ Some more =
    sym (ap (λ (o : Option Kernel). option_and_then (bytes_read (booted_of core) lane visit) o) at.kernel
    ∙ ap (λ (b : Booted). bytes_read b lane visit play.kernel) at.booted) ∙ much.of_entry in
    let found = option_map_some (λ (end : Kernel × List Read). total_bytes end.1)
    (over_lane (entry boot play.kernel visit) lane []) more reads in
    let theirs : reads_of boot play visit ≡ Some found.0.1 =
    ap (λ (l : List ℕ). option_map (λ (end : Kernel × List Read). end.1)
    (over_lane (entry boot play.kernel visit) l [])) sees
    ∙ ap (option_map (λ (end : Kernel × List Read). end.1)) found.1 in
    let above : play.most_bytes < copied_bytes play.history + total_bytes found.0.1 =
    subst (λ (n : ℕ). play.most_bytes < copied_bytes play.history + n) (sym found.2)
    (subst (λ (n : ℕ). play.most_bytes < n + more) so_far
    (subst (λ (n : ℕ). n < copied + more) at.limit much.above)) in
    record {
      so_far = so_far;
      ends =
          ap (λ (o : Option (List Read)). option_and_then (enters_with boot play visit) o) theirs
          ∙ ap (λ (is : Bool). if is then Some (record play { refused = Some (total_bytes found.0.1) })
          else option_map (λ (k : Kernel). came_in play k (coming_of visitor) found.0.1)
          (after_event boot play.kernel (Entry visitor.cpu visitor.regs visitor.steps found.0.1)))
          (lt-ltb play.most_bytes (copied_bytes play.history + total_bytes found.0.1) above)
          ∙ ap (λ (n : ℕ). Some (record play { refused = Some n })) found.2;
    }

-- ---- an exit

-- the play after it
abbrev pub gone_out : Play → ℕ → Exited → Play
gone_out play cpu exited =
    with_line (Ret cpu exited.regs) (with_writes cpu exited.writes (record play {
      kernel = exited.kernel;
      history = play.history ++ Exit cpu (record { a = exited.regs }) ∷ [];
    }))

module _ (boot : Booted) (play : Play) (old new : Core) (ran : Ran) (lane now : List ℕ) (told : Regs)
    (at : CoreAt boot play old)
    (has : HasLeft old new ran lane now told) (next : Kernel) (after : kernel_of new ≡ Some next) where
  abbrev core_exit : CoreExit
  core_exit = record {
    old = old;
    new = new;
    ran = ran;
    lane = lane;
    now = now;
    told = told;
    has_left = has;
    kernel = play.kernel;
    next = next;
    before = at.kernel;
    after = after;
  }

  pub exit_is : exit play.kernel ran.cpu ≡ Some has.exited
  exit_is = journals_legal.exits core_exit

  pub next_is : next ≡ has.exited.kernel
  next_is = journals_legal.left core_exit

  pub exit_comes : leaves boot ran.cpu play ≡ Some (gone_out play ran.cpu has.exited)
  exit_comes = exits_come boot play ran.cpu has.exited exit_is

  told_is : told ≡ record { a = has.exited.regs }
  told_is = ap (λ (a : List ℕ). let regs : Regs = record { a = a } in regs) has.answer

  pub exit_at : CoreAt boot (gone_out play ran.cpu has.exited) new
  exit_at = record {
    booted = has.boot ∙ at.booted;
    history = has.events ∙ ap (λ (events : List Event). events ++ Exit ran.cpu told ∷ []) at.history
        ∙ ap (λ (regs : Regs). play.history ++ Exit ran.cpu regs ∷ []) told_is;
    kernel = after ∙ ap Some next_is;
    limit = ap (λ (terms : Terms). terms.most) has.terms ∙ at.limit;
  }

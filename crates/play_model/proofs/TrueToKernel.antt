-- The play of a trace is true to the written kernel.
use Rattle.std.proofs.Common.{◌≡◌, ℕ, List, [], ◌∷◌, ◌++◌, Some, None, Bool, true, false, refl, ap, sym, subst, ◌∙◌, append_assoc, Option}
use Rattle.std.specs.Prelude.{bytes_eq, if◌then◌else◌}
use Rattle.std.specs.List.{AllByRecursion}
use Rattle.std.specs.Option.{option_and_then}
use Rattle.std.proofs.lemmas.Slice.Eq.{bytes_eq-Decides}
use Rattle.base.specs.Zeros.{zeros}
use Rattle.event_journal.specs.declared.event.Event.{Event}
use Rattle.event_journal.specs.declared.event.Event.TheVariants.{Entry, Exit}
use Rattle.kernel_model.specs.Application.{Booted, booted}
use Rattle.kernel_model.specs.Codes.{eresume}
use Rattle.kernel_model.specs.Exit.{Exited, goes_out}
use Rattle.kernel_model.specs.History.{IsLegal, after_events, exit_to, kernel_after}
use Rattle.kernel_model.specs.Kernel.{Fixed, Inside, Kernel, Visit, first_kernel, with_visitor}
use Rattle.kernel_model.specs.Laws.{FindsNoCall, IsFixed, IsOfOther}
use Rattle.kernel_model.proofs.Answered.{events_stay}
use Rattle.kernel_model.proofs.FixedAnswer.{fixed_answers}
use Rattle.kernel_model.proofs.Parts.{set_found, some_of}
use Rattle.kernel_model.proofs.Past.{after_events-append, exits_follow}
use Rattle.ns_ram.specs.declared.read.Read.{Read}
use Rattle.own_model.proofs.OtherResumes.{visitor_there}
use Rattle.smc_abi.specs.declared.regs.Regs.{Regs}
use Rattle.play_model.specs.Laws.{Returned, entered}
use Rattle.play_model.specs.TrueToKernel.{ChangesNothing, ExitsIn, PlaysAreTrue, RefusedIn, came_and_went}
use Rattle.play_model.proofs.Items.{traces_are_played}
use Rattle.play_model.proofs.Realms.{histories_have_realms}
use Rattle.play_model.proofs.Returns.{kernel_before, legal_before, one_more, returns_in}

pub exits_in : (boot : Booted) (history : List Event) → IsLegal boot history → ExitsIn boot history
exits_in boot history legal before behind cpu regs cut = exits_follow boot before behind cpu regs (subst (IsLegal boot) cut legal)

-- ---- returns from RPC that find no call

-- an exit that comes to this goes out with its registers, and leaves its kernel
goes_with : (exited : Exited) (told : List ℕ) (last : Kernel) (same : Bool) → bytes_eq exited.regs told ≡ same
    → (if same then Some exited.kernel else None) ≡ Some last → (told ≡ exited.regs) × (last ≡ exited.kernel)
goes_with exited told last true is e = (sym ((bytes_eq-Decides exited.regs told).0 is), cc)
goes_with exited told last false is e = absurd cc

module _ (boot : Booted) (before between : List Event) (visit : Visit) (reads : List Read) (told : Regs)
    (kernel : Kernel) (others : AllByRecursion (IsOfOther visit.cpu) between)
    (there : kernel_after boot before ≡ Some kernel) (finds : FindsNoCall kernel visit.regs)
    (legal : IsLegal boot (came_and_went before visit reads between told)) where
  abbrev came : Event
  came = Entry visit.cpu (record { a = visit.regs }) visit.steps reads

  abbrev went : Event
  went = Exit visit.cpu told

  -- the entry, and what is behind it
  split_entry : came_and_went before visit reads between told ≡ entered before visit reads ++ (between ++ went ∷ [])
  split_entry = sym (append_assoc before (came ∷ []) (between ++ went ∷ []))

  -- the exit, and what is before it
  split_exit : came_and_went before visit reads between told ≡ (entered before visit reads ++ between) ++ went ∷ []
  split_exit = split_entry ∙ sym (append_assoc (entered before visit reads) between (went ∷ []))

  comes_in : kernel_after boot (entered before visit reads) ≡ Some (with_visitor kernel visit (Fixed eresume))
  comes_in =
      subst (Returned boot before visit reads kernel) finds.1
      (returns_in boot (came_and_went before visit reads between told) legal before (between ++ went ∷ []) visit reads
      kernel split_entry finds.0 there)

  -- the processor is inside for ERESUME
  inside : IsFixed (with_visitor kernel visit (Fixed eresume)) visit eresume
  inside =
      let found = visitor_there boot kernel (with_visitor kernel visit (Fixed eresume)) visit.cpu visit.steps
      (record { a = visit.regs }) reads
      (one_more boot before came kernel (with_visitor kernel visit (Fixed eresume)) there comes_in) in
      set_found kernel.processors visit.cpu (Inside visit.regs visit.steps (Fixed eresume)) found.0 found.1

  -- and still is when it goes out
  still_inside : (by_then : Kernel) → kernel_after boot (entered before visit reads ++ between) ≡ Some by_then
      → IsFixed by_then visit eresume
  still_inside by_then is =
      events_stay boot (with_visitor kernel visit (Fixed eresume)) by_then visit.cpu between others
      (sym (ap (λ (o : Option Kernel). option_and_then (λ k. after_events boot k between) o) comes_in)
      ∙ sym (after_events-append boot (first_kernel boot) (entered before visit reads) between) ∙ is)
      ∙ inside

  changes_nothing : ChangesNothing boot before visit reads between told kernel
  changes_nothing =
      let later = kernel_before boot (entered before visit reads ++ between) (went ∷ [])
      (subst (IsLegal boot) split_exit legal) in
      let end = some_of (kernel_after boot (came_and_went before visit reads between told)) legal.follows in
      let last = one_more boot (entered before visit reads ++ between) went later.0 end.0 later.1
      (sym (ap (kernel_after boot) split_exit) ∙ end.1) in
      let out = fixed_answers.exit later.0 visit eresume (still_inside later.0 later.1) in
      let made = goes_out later.0 visit eresume [] in
      let gone = goes_with made told.a end.0 (bytes_eq made.regs told.a) refl
      (sym (ap (λ (o : Option Exited). option_and_then (exit_to told.a) o) out) ∙ last) in
      record {
        comes_in = comes_in;
        by_then = later.0;
        between_them = later.1;
        goes_out_so = end.1 ∙ ap Some gone.1;
        told_so = gone.0;
        writes_nothing = out;
      }

pub refused_in : (boot : Booted) (history : List Event) → IsLegal boot history → RefusedIn boot history
refused_in boot history legal before between behind visit reads told kernel cut others there finds =
    changes_nothing boot before between visit reads told kernel others there finds
    (legal_before boot (came_and_went before visit reads between told) behind (subst (IsLegal boot) cut legal))

-- ---- plays

pub plays_are_true : PlaysAreTrue
plays_are_true natives boot trace play boots e =
    let on = booted boot natives in
    let p = traces_are_played (zeros 0x400000) natives boot trace play boots e in
    record {
      is_play = e;
      legal = p.legal;
      kernel = p.kernel;
      in_order = p.in_order;
      returns = p.told;
      exits = exits_in on play.history p.legal;
      resumes = p.returns;
      refused_resumes = p.no_call;
      change_nothing = refused_in on play.history p.legal;
      thread_limit = p.no_slot;
      alone = p.alone;
      together = p.together;
      realms = histories_have_realms on play.history p.legal;
      refused_entry = p.too_many;
    }

-- The SMCs of a port over a core have the writes of their exits, so that its core has served them (`smcs_are_served` of client_play).
use Rattle.std.proofs.Common.{◌≡◌, List, [], ◌∷◌, ◌++◌, refl, sym, ap, subst, ◌∙◌, append_assoc, append-nil}
use Rattle.std.specs.List.{fold}
use Rattle.std.proofs.lemmas.Grind.{flat_map-append}
use Rattle.std.proofs.lemmas.List.{append_cancel_left}
use Rattle.std.proofs.lemmas.List.Sums.{fold-append}
use Rattle.event_journal.specs.declared.event.Event.{Event}
use Rattle.event_journal.specs.declared.event.Event.TheVariants.{Entry, Exit}
use Rattle.kernel_model.specs.Application.{Booted}
use Rattle.smc_port.specs.Smc.{Smc}
use Rattle.core_port.specs.Smcs.{Told, events_of_smc, history_of, nothing_told, smc_ended, smcs_in, smcs_of_history, told_with, writes_behind}
use Rattle.core_port.proofs.Told.{history_behind, smcs_behind}
use Rattle.client_play.specs.Served.{HaveTheirWrites}

module _ (boot : Booted) where
  -- events more leave the SMCs that were told
  grown : (told : Told) (events : List Event) → (more : List Smc) × ((fold (told_with boot) told events).smcs ≡ told.smcs ++ more)
  grown told [] = ([], sym (append-nil told.smcs))
  grown told (Entry cpu regs steps reads ∷ events) = grown (told_with boot told (Entry cpu regs steps reads)) events
  grown told (Exit cpu answer ∷ events) =
      let later = grown (told_with boot told (Exit cpu answer)) events in
      (smc_ended boot told cpu answer ∷ later.0, later.1 ∙ append_assoc told.smcs (smc_ended boot told cpu answer ∷ []) later.0)

  -- the history up to the entry of an SMC
  up_to : List Smc → Smc → List Event
  up_to before smc = history_of before ++ Entry 0 smc.regs 10000 smc.reads ∷ []

  -- an SMC has the writes of its exit
  its_writes : (before rest : List Smc) (smc : Smc) → smcs_in boot (history_of before) ≡ before
      → smcs_in boot (history_of (before ++ smc ∷ rest)) ≡ before ++ smc ∷ rest → smc.writes ≡ writes_behind boot (up_to before smc) 0
  unfolding up_to
  its_writes before rest smc was is =
      let out : Event = Exit 0 smc.answer in
      let first = up_to before smc ++ out ∷ [] in
      let ended : Smc = record {
        regs = smc.regs;
        reads = smc.reads;
        answer = smc.answer;
        writes = writes_behind boot (up_to before smc) 0;
      } in
      let later = grown (smcs_of_history boot first) (history_of rest) in
      let whole : history_of (before ++ smc ∷ rest) ≡ first ++ history_of rest =
      flat_map-append events_of_smc before (smc ∷ rest)
      ∙ sym (append_assoc (history_of before) (Entry 0 smc.regs 10000 smc.reads ∷ []) (out ∷ history_of rest))
      ∙ sym (append_assoc (up_to before smc) (out ∷ []) (history_of rest)) in
      let told : smcs_in boot (first ++ history_of rest) ≡ before ++ ended ∷ later.0 =
      ap (λ (t : Told). t.smcs) (fold-append (told_with boot) nothing_told first (history_of rest)) ∙ later.1
      ∙ ap (λ (smcs : List Smc). smcs ++ later.0) (smcs_behind boot (history_of before) 0 10000 smc.regs smc.answer smc.reads
      ∙ ap (λ (smcs : List Smc). smcs ++ ended ∷ []) was)
      ∙ append_assoc before (ended ∷ []) later.0 in
      let both : smc ∷ rest ≡ ended ∷ later.0 =
      append_cancel_left before (smc ∷ rest) (ended ∷ later.0) (sym is ∙ ap (smcs_in boot) whole ∙ told) in
      let same : smc ≡ ended = cc in
      ap (λ (s : Smc). s.writes) same

  -- an SMC more is told of one SMC more
  one_more : (before : List Smc) (smc : Smc) → smcs_in boot (history_of before) ≡ before
      → smc.writes ≡ writes_behind boot (up_to before smc) 0 → smcs_in boot (history_of (before ++ smc ∷ [])) ≡ before ++ smc ∷ []
  unfolding up_to
  one_more before smc was writes =
      ap (smcs_in boot) (sym (history_behind (history_of before) before smc refl))
      ∙ smcs_behind boot (history_of before) 0 10000 smc.regs smc.answer smc.reads
      ∙ ap (λ (smcs : List Smc). smcs ++ record {
        regs = smc.regs;
        reads = smc.reads;
        answer = smc.answer;
        writes = writes_behind boot (up_to before smc) 0;
      } ∷ []) was
      ∙ (λ i. before ++ record { regs = smc.regs; reads = smc.reads; answer = smc.answer; writes = sym writes i } ∷ [])

  -- those that were made behind some others
  pub have_their_writes : (before smcs : List Smc) → smcs_in boot (history_of before) ≡ before
      → smcs_in boot (history_of (before ++ smcs)) ≡ before ++ smcs → HaveTheirWrites boot (history_of before) smcs
  unfolding up_to
  have_their_writes before [] was is = tt
  have_their_writes before (smc ∷ smcs) was is =
      let writes = its_writes before smcs smc was is in
      let joined = sym (append_assoc before (smc ∷ []) smcs) in (
        writes,
        subst (λ (history : List Event). HaveTheirWrites boot history smcs) (flat_map-append events_of_smc before (smc ∷ []))
            (have_their_writes (before ++ smc ∷ []) smcs (one_more before smc was writes)
            (subst (λ (made : List Smc). smcs_in boot (history_of made) ≡ made) joined is)),
      )

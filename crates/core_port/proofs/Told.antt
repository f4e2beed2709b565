-- The SMCs of a history, behind one SMC more.
use Rattle.std.proofs.Common.{◌≡◌, ℕ, List, [], ◌∷◌, ◌++◌, refl, sym, ap, ◌∙◌}
use Rattle.std.specs.List.{fold}
use Rattle.std.proofs.lemmas.Grind.{flat_map-append}
use Rattle.std.proofs.lemmas.List.{append-nil, append_assoc}
use Rattle.std.proofs.lemmas.List.Sums.{fold-append}
use Rattle.event_journal.specs.declared.event.Event.{Event}
use Rattle.event_journal.specs.declared.event.Event.TheVariants.{Entry, Exit}
use Rattle.kernel_model.specs.Application.{Booted}
use Rattle.ns_ram.specs.declared.read.Read.{Read}
use Rattle.smc_abi.specs.declared.regs.Regs.{Regs}
use Rattle.smc_port.specs.Smc.{Smc}
use Rattle.core_port.specs.Smcs.{Told, events_of_smc, history_of, nothing_told, smcs_in, smcs_of_history, told_with, writes_behind}

one_more : (boot : Booted) (history : List Event) (event : Event)
    → smcs_of_history boot (history ++ event ∷ []) ≡ told_with boot (smcs_of_history boot history) event
one_more boot history event = fold-append (told_with boot) nothing_told history (event ∷ [])

-- the events are those that were told
told_on : (boot : Booted) (told : Told) (event : Event) → (told_with boot told event).events ≡ told.events ++ event ∷ []
told_on boot told (Entry cpu regs steps reads) = refl
told_on boot told (Exit cpu answer) = refl

events_from : (boot : Booted) (told : Told) (history : List Event) → (fold (told_with boot) told history).events ≡ told.events ++ history
events_from boot told [] = sym (append-nil told.events)
events_from boot told (event ∷ history) =
    events_from boot (told_with boot told event) history
    ∙ ap (λ (events : List Event). events ++ history) (told_on boot told event)
    ∙ append_assoc told.events (event ∷ []) history

events_told : (boot : Booted) (history : List Event) → (smcs_of_history boot history).events ≡ history
events_told boot history = events_from boot nothing_told history

-- an entry and its exit more are one SMC more
pub smcs_behind : (boot : Booted) (history : List Event) (cpu steps : ℕ) (regs answer : Regs) (reads : List Read)
    → smcs_in boot ((history ++ Entry cpu regs steps reads ∷ []) ++ Exit cpu answer ∷ [])
    ≡ smcs_in boot history ++ record {
      regs = regs;
      reads = reads;
      answer = answer;
      writes = writes_behind boot (history ++ Entry cpu regs steps reads ∷ []) cpu;
    } ∷ []
smcs_behind boot history cpu steps regs answer reads =
    let event = Entry cpu regs steps reads in
    ap (λ (told : Told). told.smcs) (one_more boot (history ++ event ∷ []) (Exit cpu answer)
    ∙ ap (λ (told : Told). told_with boot told (Exit cpu answer)) (one_more boot history event))
    ∙ ap (λ (before : List Event). smcs_in boot history ++ record {
      regs = regs;
      reads = reads;
      answer = answer;
      writes = writes_behind boot (before ++ event ∷ []) cpu;
    } ∷ []) (events_told boot history)

-- the history of one SMC more
pub history_behind : (history : List Event) (smcs : List Smc) (smc : Smc) → history ≡ history_of smcs
    → (history ++ Entry 0 smc.regs 10000 smc.reads ∷ []) ++ Exit 0 smc.answer ∷ [] ≡ history_of (smcs ++ smc ∷ [])
history_behind history smcs smc is =
    append_assoc history (Entry 0 smc.regs 10000 smc.reads ∷ []) (Exit 0 smc.answer ∷ [])
    ∙ ap (λ (events : List Event). events ++ events_of_smc smc) is
    ∙ sym (flat_map-append events_of_smc smcs (smc ∷ []))

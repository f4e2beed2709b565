use Rattle.std.proofs.Common.{◌≡◌, ◌-◌, ℕ, List, [], ◌∷◌, ◌++◌, ap, ◌∙◌}
use Rattle.std.specs.Prelude.{slice_set}
use Rattle.event_log.specs.Log.{Contents}
use Rattle.event_journal.specs.declared.event.Event.TheVariants.{Entry}
use Rattle.kernel_model.specs.Argument.{thread_in}
use Rattle.kernel_model.specs.Decision.{works_on}
use Rattle.kernel_state.specs.declared.parts.Parts.{Parts}
use Rattle.kernel_state.specs.declared.processor.Errand.TheVariants.{InSlot}
use Rattle.kernel_state.specs.declared.processor.Processor.{Processor}
use Rattle.kernel_state.specs.declared.processor.Processor.TheVariants.{Inside}
use Rattle.kernel_entry.specs.Resuming.{goes_on_as}
use Rattle.kernel_entry.proofs.Continuing.{GoesOn, has_come, resume_takes}
use Rattle.kernel_entry.proofs.Standing.{room_behind, slot_stands}
use Rattle.kernel_entry.proofs.resuming.enter_resumed.Goals as goal

pub returns-clause-come : goal.returns-clause-come
returns-clause-come c =
    let journal : c.go_on-cont.new.parts.journal ≡ c.args.parts.now.journal = ap (λ (parts : Parts). parts.journal) c.go_on-cont.ensures.stays in
    record {
      setup = ap (λ (parts : Parts). parts.setup) c.let_in.ensures.stays ∙ ap (λ (parts : Parts). parts.setup) c.go_on-cont.ensures.stays;
      events = ap (λ (journal : Contents). journal.events) c.let_in.ensures.journal
          ∙ ap (λ (journal : Contents). journal.events ++ Entry c.args.visitor.cpu c.args.visitor.regs c.args.visitor.steps c.args.reads ∷ []) journal;
      keeps = ap (λ (journal : Contents). journal.keeps) c.let_in.ensures.journal ∙ ap (λ (journal : Contents). journal.keeps) journal;
    }

pub returns-clause-stands : goal.returns-clause-stands
returns-clause-stands c kernel call found stands =
    let old = c.args.parts.now in
    let mid = c.go_on-cont.new.parts in
    let new = c.let_in.new.parts in
    let regs = c.args.visitor.regs.a in
    let goes : GoesOn old mid regs c.args.visitor.cpu c.args.decided c.go_on-cont.result.value = record {
      slots = c.go_on-cont.ensures.slots;
      call = c.go_on-cont.ensures.call;
      pages = c.go_on-cont.ensures.pages;
      stays = c.go_on-cont.ensures.stays;
    } in
    let takes = resume_takes old mid new c.args.visitor c.args.decided.slot c.args.decided c.go_on-cont.result.value c.args.reads kernel.slots call
    goes stands.slots found c.let_in.ensures in
    let journal : mid.journal ≡ old.journal = ap (λ (parts : Parts). parts.journal) c.go_on-cont.ensures.stays in
    let processors : mid.processors.items ≡ old.processors.items = ap (λ (parts : Parts). parts.processors.items) c.go_on-cont.ensures.stays in
    let slot : c.args.decided.slot ≡ thread_in regs = c.requires.goes_on.slot in
    slot_stands old new kernel c.args.visitor (thread_in regs) takes.0 (works_on (goes_on_as old regs c.args.decided call)) stands takes.1
    (c.let_in.ensures.processors
    ∙ ap (λ (processors : List Processor). slice_set processors c.args.visitor.cpu (Inside c.args.visitor.regs c.args.visitor.steps (InSlot c.args.decided.slot))) processors
    ∙ ap (λ (slot : ℕ). slice_set old.processors.items c.args.visitor.cpu (Inside c.args.visitor.regs c.args.visitor.steps (InSlot slot))) slot)
    (room_behind old.setup.cpus old.journal.spare new.journal.spare c.requires.room
    (ap (λ (journal : Contents). journal.spare) c.let_in.ensures.journal ∙ ap (λ (journal : Contents). journal.spare - 1) journal))

pub returns-clause-carries : goal.returns-clause-carries
returns-clause-carries c kernel call stands found =
    let goes : GoesOn c.args.parts.now c.go_on-cont.new.parts c.args.visitor.regs.a c.args.visitor.cpu c.args.decided c.go_on-cont.result.value = record {
      slots = c.go_on-cont.ensures.slots;
      call = c.go_on-cont.ensures.call;
      pages = c.go_on-cont.ensures.pages;
      stays = c.go_on-cont.ensures.stays;
    } in
    let has = has_come c.args.parts.now c.go_on-cont.new.parts c.args.visitor.regs.a c.args.visitor.cpu c.args.decided c.go_on-cont.result.value kernel.slots call
    goes stands.slots found in
    c.carried_call.ensures (goes_on_as c.args.parts.now c.args.visitor.regs.a c.args.decided call).call has.call

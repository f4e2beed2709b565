use Rattle.std.proofs.Common.{◌≡◌, ◌-◌, ℕ, List, [], ◌∷◌, ◌++◌, false, ap, ◌∙◌, arith}
use Rattle.std.proofs.lemmas.Grind.{common_steps}
use Rattle.std.specs.Prelude.{slice_set}
use Rattle.kernel_state.specs.Setup.{booted_of_setup}
use Rattle.kernel_state.specs.Tables.{tables_of}
use Rattle.kernel_state.specs.declared.cancellation.Cancellation.{Cancellation}
use Rattle.kernel_state.specs.declared.parts.Parts.{Parts}
use Rattle.kernel_state.specs.declared.processor.Errand.TheVariants.{InSlot}
use Rattle.kernel_state.specs.declared.processor.Processor.{Processor}
use Rattle.kernel_state.specs.declared.processor.Processor.TheVariants.{Inside}
use Rattle.event_log.specs.Log.{Contents}
use Rattle.event_journal.specs.declared.event.Event.TheVariants.{Entry}
use Rattle.new_calls.specs.Deciding.{call_with, taken_of}
use Rattle.rpc_cont.specs.declared.cont.Cont.{Cont}
use Rattle.kernel_entry.proofs.Standing.{new_takes, room_behind, slot_stands}
use Rattle.kernel_entry.proofs.beginning.enter_with.Goals as goal

pub returns-clause-come : goal.returns-clause-come
returns-clause-come c =
    let journal : c.take_slot.new.parts.journal ≡ c.args.parts.now.journal = ap (λ (parts : Parts). parts.journal) c.take_slot.ensures.stays in
    record {
      setup = ap (λ (parts : Parts). parts.setup) c.let_in.ensures.stays ∙ ap (λ (parts : Parts). parts.setup) c.take_slot.ensures.stays;
      events = ap (λ (journal : Contents). journal.events) c.let_in.ensures.journal
          ∙ ap (λ (journal : Contents). journal.events ++ Entry c.args.visitor.cpu c.args.visitor.regs c.args.visitor.steps c.args.reads ∷ []) journal;
      keeps = ap (λ (journal : Contents). journal.keeps) c.let_in.ensures.journal ∙ ap (λ (journal : Contents). journal.keeps) journal;
    }

pub returns-clause-stands : goal.returns-clause-stands
returns-clause-stands c applies kernel stands =
    let old = c.args.parts.now in
    let mid = c.take_slot.new.parts in
    let new = c.let_in.new.parts in
    let model = call_with (booted_of_setup old.setup) (tables_of old.tables) c.args.entered in
    let taken = taken_of model c.args.plan in
    let beside_of : Cont (List ℕ) → Cancellation = λ cont. record { session = cont.session; cancel_id = c.args.entered.head.cancel_id; marked = false } in
    let beside : Cancellation = beside_of c.deref.result.now in
    let keyed : c.deref_mut.result.now.key ≡ old.setup.key = ap (λ (cont : Cont (List ℕ)). cont.key) c.deref_mut.ensures.value ∙ c.take-cont.ensures.key in
    let shown : c.deref.result.now ≡ c.apply.new.cont = let e = c.deref.ensures in let b = c.deref_mut.ensures.writes_back in cc in
    let takes = new_takes old mid new c.args.visitor c.args.entered c.args.plan c.is_cancel-cancels.result beside c.take-cont.new.self c.apply.new.tables c.apply.new.cont c.args.reads
    c.is_cancel-cancels.ensures (c.apply.ensures.taken (booted_of_setup old.setup) keyed applies) (c.apply.ensures.pages old.setup applies stands.pages) (ap beside_of shown)
    c.take_slot.ensures c.let_in.ensures in
    let journal : mid.journal ≡ old.journal = ap (λ (parts : Parts). parts.journal) c.take_slot.ensures.stays in
    let processors : mid.processors.items ≡ old.processors.items = ap (λ (parts : Parts). parts.processors.items) c.take_slot.ensures.stays in
    slot_stands old new kernel c.args.visitor c.args.entered.slot beside taken stands takes
    (c.let_in.ensures.processors
    ∙ ap (λ (processors : List Processor). slice_set processors c.args.visitor.cpu (Inside c.args.visitor.regs c.args.visitor.steps (InSlot c.args.entered.slot))) processors)
    (room_behind old.setup.cpus old.journal.spare new.journal.spare c.requires.room
    (ap (λ (journal : Contents). journal.spare) c.let_in.ensures.journal ∙ ap (λ (journal : Contents). journal.spare - 1) journal))

pub returns-clause-carries : goal.returns-clause-carries
returns-clause-carries c applies =
    let old = c.args.parts.now in
    let keyed : c.deref_mut.result.now.key ≡ old.setup.key = ap (λ (cont : Cont (List ℕ)). cont.key) c.deref_mut.ensures.value ∙ c.take-cont.ensures.key in
    let has = c.apply.ensures.taken (booted_of_setup old.setup) keyed applies in
    grind (arith, common_steps, has.call)

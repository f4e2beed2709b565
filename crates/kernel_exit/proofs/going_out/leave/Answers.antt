-- What is known of the core's kernel, before and behind.
use Rattle.std.proofs.Common.{◌<◌, ◌≤◌, ◌^◌, List, length, sym, subst}
use Rattle.std.specs.Prelude.{IsSomeAnd, slice_get}
use Rattle.event_journal.specs.Journal.{copied_bytes}
use Rattle.kernel_state.specs.declared.parts.Parts.{Parts as AnyParts}
use Rattle.kernel_state.specs.declared.processor.Processor.{Processor as AnyProcessor}
use Rattle.kernel_state.proofs.Told.{few_events}
use Rattle.kernel_exit.specs.GoingOut.{IsInside, IsInsideFor}
use Rattle.kernel_exit.proofs.FoundInside.{is_inside}
use Rattle.kernel_exit.proofs.Left.{Goes, can_truly, goes_truly, left_after, processor_there, replays_after, room_there}
use Rattle.kernel_exit.proofs.going_out.leave.Goals as goal

pub inside_with-errand-requires : goal.inside_with-errand-requires
inside_with-errand-requires c =
    subst (λ (items : List AnyProcessor). IsSomeAnd (slice_get items c.args.ran.cpu) IsInside) (sym c.as_slice.ensures.value)
    (is_inside c.args.core.now.parts c.args.ran c.args.core.now.replay c.requires)

pub exit_with-answer-requires : goal.exit_with-answer-requires
exit_with-answer-requires c =
    let came = c.inside_with-errand.result.0 in
    let errand = c.inside_with-errand.result.1 in
    let its : ∥ Goes c.args.core.now.parts c.args.ran came errand ∥₁ = goes_truly c.args.core.now.parts c.args.ran came errand c.args.core.now.replay c.requires
    (subst (λ (items : List AnyProcessor). IsSomeAnd (slice_get items c.args.ran.cpu) (IsInsideFor came errand)) c.as_slice.ensures.value c.inside_with-errand.ensures) in
    can_truly c.args.core.now.parts c.args.ran came errand its

pub goes_out-requires-clause-there : goal.goes_out-requires-clause-there
goes_out-requires-clause-there c =
    let came = c.inside_with-errand.result.0 in
    let errand = c.inside_with-errand.result.1 in
    let its : ∥ Goes c.args.core.now.parts c.args.ran came errand ∥₁ = goes_truly c.args.core.now.parts c.args.ran came errand c.args.core.now.replay c.requires
    (subst (λ (items : List AnyProcessor). IsSomeAnd (slice_get items c.args.ran.cpu) (IsInsideFor came errand)) c.as_slice.ensures.value c.inside_with-errand.ensures) in
    subst (λ (p : AnyParts). c.args.ran.cpu < length p.processors.items) (sym c.exit_with-answer.ensures.stays)
    (processor_there c.args.core.now.parts c.args.ran came errand its)

pub goes_out-requires-clause-room : goal.goes_out-requires-clause-room
goes_out-requires-clause-room c =
    let came = c.inside_with-errand.result.0 in
    let errand = c.inside_with-errand.result.1 in
    let its : ∥ Goes c.args.core.now.parts c.args.ran came errand ∥₁ = goes_truly c.args.core.now.parts c.args.ran came errand c.args.core.now.replay c.requires
    (subst (λ (items : List AnyProcessor). IsSomeAnd (slice_get items c.args.ran.cpu) (IsInsideFor came errand)) c.as_slice.ensures.value c.inside_with-errand.ensures) in
    subst (λ (p : AnyParts). 0 < p.journal.spare) (sym c.exit_with-answer.ensures.stays) (room_there c.args.core.now.parts c.args.ran came errand its)

pub goes_out-requires-clause-few : goal.goes_out-requires-clause-few
goes_out-requires-clause-few c =
    subst (λ (p : AnyParts). copied_bytes p.journal.events ≤ 2 ^ 63) (sym c.exit_with-answer.ensures.stays)
    (few_events c.args.core.now.parts c.args.core.now.replay)

pub invariant_of-core : goal.invariant_of-core
invariant_of-core c =
    let came = c.inside_with-errand.result.0 in
    let errand = c.inside_with-errand.result.1 in
    let its : ∥ Goes c.args.core.now.parts c.args.ran came errand ∥₁ = goes_truly c.args.core.now.parts c.args.ran came errand c.args.core.now.replay c.requires
    (subst (λ (items : List AnyProcessor). IsSomeAnd (slice_get items c.args.ran.cpu) (IsInsideFor came errand)) c.as_slice.ensures.value c.inside_with-errand.ensures) in
    record {
      replay = replays_after c.args.core.now.parts c.exit_with-answer.new.parts c.goes_out.new.parts c.args.ran came c.encode_answer-told.result errand
          c.args.lane.now c.exit_with-answer.new.lane c.exit_with-answer.result c.args.core.now.replay its c.exit_with-answer.ensures.exited
          c.exit_with-answer.ensures.stays c.encode_answer-told.ensures
          (record { processors = c.goes_out.ensures.processors; journal = c.goes_out.ensures.journal; stays = c.goes_out.ensures.stays });
    }

pub returns : goal.returns
returns c =
    let came = c.inside_with-errand.result.0 in
    let errand = c.inside_with-errand.result.1 in
    let its : ∥ Goes c.args.core.now.parts c.args.ran came errand ∥₁ = goes_truly c.args.core.now.parts c.args.ran came errand c.args.core.now.replay c.requires
    (subst (λ (items : List AnyProcessor). IsSomeAnd (slice_get items c.args.ran.cpu) (IsInsideFor came errand)) c.as_slice.ensures.value c.inside_with-errand.ensures) in
    left_after c.args.core.now _ c.exit_with-answer.new.parts c.args.ran came c.encode_answer-told.result errand c.args.lane.now c.exit_with-answer.new.lane
    c.exit_with-answer.result its c.exit_with-answer.ensures.exited c.exit_with-answer.ensures.stays c.encode_answer-told.ensures
    (record { processors = c.goes_out.ensures.processors; journal = c.goes_out.ensures.journal; stays = c.goes_out.ensures.stays })

-- A cancel, on what stands beside the slots.
use Rattle.std.specs.Prelude.{◌==◌, ◌&&◌, ◌||◌}
use Rattle.kernel_model.specs.Kernel.{Cancel}
use Rattle.kernel_state.specs.declared.cancellation.Cancellation.{Cancellation}

-- marked, where its call is one of those that are meant
abbrev pub marked_by : Cancel → Cancellation → Cancellation
marked_by cancel beside =
    let is_meant = (beside.session == cancel.session) && (beside.cancel_id == cancel.cancel_id) in
    record beside { marked = is_meant || beside.marked }

-- The tests of a command that read nothing more, by the code of the first that fails.
use Rattle.std.specs.Prelude.{ℕ, ◌&&◌, if◌then◌else◌, length, nat_le, nat_lt, is_none, Option, Some, None}
use Rattle.base.specs.NumberMap.{get}
use Rattle.kernel_model.specs.Application.{Application}
use Rattle.kernel_model.specs.Codes.{bad_parameters, busy, out_of_memory, target_dead}
use Rattle.kernel_model.specs.NewCall.{NewCall, has_pages, has_session_room, is_taken, pages_touched, shares_one}
use Rattle.msg_args.specs.declared.param.MsgParam.{MsgParam}

-- those of an open on its application
abbrev pub open_fault : NewCall → Application → Option ℕ
open_fault c app =
    if shares_one c app (λ kept. kept.1.dead) then Some target_dead
    else if is_taken c app then Some busy
    else if has_session_room c && has_pages c app then None
    else Some out_of_memory

-- those of a register on its buffer
abbrev pub register_fault : NewCall → MsgParam → Option ℕ
register_fault c param =
    let is_good = nat_lt 0 param.q && nat_le (pages_touched param) 1024 in
    if is_none (get c.tables.registered.buffers param.s) && is_good
    then (if nat_lt (length c.tables.registered.buffers) 64 then None else Some out_of_memory)
    else Some bad_parameters

-- What RAM tells of a call that has ended.
use Rattle.std.specs.Prelude.{◌==◌, ℕ, if◌then◌else◌, List}
use Rattle.msg_args.specs.Layout.{origin_at, ret_at, session_at}
use Rattle.ta_params.specs.declared.call_result.CallResult.{CallResult}
use Rattle.teec.specs.declared.outcome.Opened.{Opened}
use Rattle.teec.specs.Operation.{low_word}
use Rattle.teec.specs.Places.{argument_at}

abbrev pub result_in : List ℕ → CallResult
result_in ram = record { result = low_word ram (ret_at argument_at); origin = low_word ram (origin_at argument_at) }

-- the session of an open with SUCCESS, and else 0
abbrev pub session_in : List ℕ → ℕ
session_in ram = if (result_in ram).result == 0 then low_word ram (session_at argument_at) else 0

abbrev pub opened_in : List ℕ → Opened
opened_in ram = record { session = session_in ram; result = result_in ram }

-- Sessions: whose they are, and what the end of a call makes of them. By the TEE Client API.
use Rattle.std.specs.Prelude.{ℕ, ◌==◌, Bool, ◌&&◌, if◌then◌else◌, Option, Some, None}
use Rattle.std.specs.List.{list_any}
use Rattle.std.specs.Option.{option_and_then}
use Rattle.base.specs.NumberMap.{NumberMap, get, remove}
use Rattle.job_model.specs.declared.call_kind.CallKind.{CallKind}
use Rattle.job_model.specs.declared.call_kind.CallKind.TheVariants.{Open, Invoke, Close, Settled}
use Rattle.session_table.specs.declared.session.Session.{Session}
use Rattle.session_table.specs.Session.{is_of, is_opened_of}
use Rattle.session_table.specs.Sessions.{settled}
use Rattle.kernel_model.specs.Codes.{success}

-- the session of this number, where this client opened it
abbrev pub opened_by : NumberMap Session → ℕ → ℕ → Option Session
opened_by sessions number client =
    let if_own = λ (session : Session). if session.opened && (session.client == client) then Some session else None in
    option_and_then if_own (get sessions number)

-- one of the instance's sessions is opened
abbrev pub has_opened : NumberMap Session → ℕ → Bool
has_opened sessions instance = list_any (λ kept. is_opened_of instance kept.1) sessions

-- the instance has a session, opened or being opened
abbrev pub has_session : NumberMap Session → ℕ → Bool
has_session sessions instance = list_any (λ kept. is_of instance kept.1) sessions

-- after a call of this kind on this session has ended with a result and a context: an open that succeeds opens
-- it, one that fails and a close take it away
abbrev pub sessions_after : CallKind → NumberMap Session → ℕ → ℕ → ℕ → NumberMap Session
sessions_after Open sessions number result context =
    if result == success then settled sessions number context else remove sessions number
sessions_after (Invoke func) sessions number result context = sessions
sessions_after Close sessions number result context = remove sessions number
sessions_after Settled sessions number result context = sessions

-- after it has ended without having run: an open leaves no session, and a close keeps its own
abbrev pub sessions_unrun : CallKind → NumberMap Session → ℕ → NumberMap Session
sessions_unrun Open sessions number = remove sessions number
sessions_unrun (Invoke func) sessions number = sessions
sessions_unrun Close sessions number = sessions
sessions_unrun Settled sessions number = sessions

-- after it has panicked: an open leaves no session, and a close takes its session away
abbrev pub sessions_after_panic : CallKind → NumberMap Session → ℕ → NumberMap Session
sessions_after_panic Open sessions number = remove sessions number
sessions_after_panic (Invoke func) sessions number = sessions
sessions_after_panic Close sessions number = remove sessions number
sessions_after_panic Settled sessions number = sessions

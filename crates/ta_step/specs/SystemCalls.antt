-- The system calls. They take their arguments from the first registers and give their results there. They panic
-- with 1 at an address in no range, and with 5 where they are asked for what there is not.
use Rattle.std.specs.Prelude.{ℕ, ◌==◌, Bool, true, false, if◌then◌else◌, List, [], ◌∷◌, ◌++◌, length, take, drop, Option, Some, None, option_and_then, find}
use Rattle.std.specs.Option.{option_map}
use Rattle.ta_params.specs.declared.copied_params.GpParam.{GpParam}
use Rattle.ta_params.specs.declared.copied_params.GpParam.TheVariants.{Empty, Value, Memref}
use Rattle.ta_params.specs.declared.object_call.ObjectCall.{ObjectCall}
use Rattle.ta_params.specs.declared.object_call.ObjectCall.TheVariants.{Create, Opened, Read, Write, Seek, Close, Delete}
use Rattle.ta_params.specs.CopiedParams.{type_word}
use Rattle.ta_step.specs.State.{State, reg, put, is_cancelled}
use Rattle.ta_step.specs.Parameters.{param_at, with_param, with_value, with_size}
pub use Rattle.ta_step.specs.Addresses.{is_range}
use Rattle.ta_step.specs.Addresses.{is_inside, store}
use Rattle.ta_step.specs.Outcome.{Outcome, goes_on, Returns, Panics, Asks}
use Rattle.ta_step.specs.declared.stop.Request.{Request}
use Rattle.ta_step.specs.declared.stop.Request.TheVariants.{Time, Suspend, Object}
use Rattle.ta_step.specs.Requests.{object_span}

-- 1 for true
abbrev pub bit : Bool → ℕ
bit b = if b then 1 else 0

abbrev pub returns : State → Outcome
returns s = Returns (reg s 0) (reg s 1)

abbrev pub panics : State → Outcome
panics s = Panics (reg s 0)

-- the types of the parameters in one word
abbrev pub types : State → Outcome
types s = goes_on (put s 0 (type_word s.params))

abbrev pub gives_value : State → Option GpParam → Outcome
gives_value s None = Panics 5
gives_value s (Some Empty) = Panics 5
gives_value s (Some (Value way a b)) = goes_on (put (put s 0 a) 1 b)
gives_value s (Some (Memref way buf size)) = Panics 5

-- the two numbers of a value
abbrev pub value : State → Outcome
value s = gives_value s (param_at s.params (reg s 0))

abbrev pub gives_size : State → Option GpParam → Outcome
gives_size s None = Panics 5
gives_size s (Some Empty) = Panics 5
gives_size s (Some (Value way a b)) = Panics 5
gives_size s (Some (Memref way buf size)) = goes_on (put s 0 size)

-- the size of a memory parameter
abbrev pub size : State → Outcome
size s = gives_size s (param_at s.params (reg s 0))

-- on with another parameter in the place of the one that r0 names, if there may be another
abbrev pub changes_param : State → Option GpParam → Outcome
changes_param s None = Panics 5
changes_param s (Some p) = goes_on (record s { params = with_param s.params (reg s 0) p })

abbrev pub set_value : State → Outcome
set_value s = changes_param s (option_and_then (λ p. with_value p (reg s 1) (reg s 2)) (param_at s.params (reg s 0)))

abbrev pub set_size : State → Outcome
set_size s = changes_param s (option_and_then (λ p. with_size p (reg s 1)) (param_at s.params (reg s 0)))

-- the client's UUID to an address, and how it logged in
abbrev pub login : State → Outcome
login s =
    if is_inside s (reg s 0) (length s.login.client)
    then goes_on (put (store s (reg s 0) s.login.client) 0 s.login.kind)
    else Panics 1

-- whether the call was cancelled, where the application is to know
abbrev pub cancelled : State → Outcome
cancelled s = goes_on (put s 0 (bit (is_cancelled s)))

-- masks or unmasks, and gives the old mask
abbrev pub masks : Bool → State → Outcome
masks masked s = goes_on (record (put s 0 (bit s.masked)) { masked = masked })

-- ---- what asks the world outside

-- the time
abbrev pub time : State → Outcome
time s = Asks Time

-- to be suspended for r0 milliseconds, unless the call is cancelled already: that is TEE_ERROR_CANCEL
abbrev pub wait : State → Outcome
wait s = if is_cancelled s then goes_on (put s 0 0xffff0002) else Asks (Suspend (reg s 0))

-- a call on an object, where the bytes that it names are all in one range
abbrev pub object : ObjectCall → State → Outcome
object call s = let span = object_span call in if is_range s span.0 span.1 then Asks (Object call) else Panics 1

abbrev pub object_create : State → Outcome
object_create s = object (Create (reg s 0) (reg s 1)) s

abbrev pub object_open : State → Outcome
object_open s = object (Opened (reg s 0) (reg s 1)) s

abbrev pub object_read : State → Outcome
object_read s = object (Read (reg s 0) (reg s 1) (reg s 2)) s

abbrev pub object_write : State → Outcome
object_write s = object (Write (reg s 0) (reg s 1) (reg s 2)) s

abbrev pub object_seek : State → Outcome
object_seek s = object (Seek (reg s 0) (reg s 1)) s

abbrev pub object_close : State → Outcome
object_close s = object (Close (reg s 0)) s

abbrev pub object_delete : State → Outcome
object_delete s = object (Delete (reg s 0)) s

-- how many of the first registers a call on an object gives: the result, and a handle or a number of bytes
abbrev pub object_gives : ObjectCall → ℕ
object_gives (Create id len) = 2
object_gives (Opened id len) = 2
object_gives (Read handle addr len) = 2
object_gives (Write handle addr len) = 1
object_gives (Seek handle position) = 1
object_gives (Close handle) = 1
object_gives (Delete handle) = 1

-- how many of the first registers the answer to a request gives
abbrev pub gives : Request → ℕ
gives Time = 3
gives (Suspend ms) = 1
gives (Object call) = object_gives call

-- the machine when its request is answered with these: those that the request gives are in the first registers
abbrev pub answered : Request → ℕ → ℕ → ℕ → State → State
answered request r0 r1 r2 s =
    let first = take (gives request) (r0 ∷ r1 ∷ r2 ∷ []) in
    record s { registers = first ++ drop (gives request) s.registers; asked = None }

-- ---- the table

abbrev pub system_calls : List (ℕ × (State → Outcome))
system_calls =
    (0, returns)
    ∷ (1, panics)
    ∷ (2, types)
    ∷ (3, value)
    ∷ (4, set_value)
    ∷ (5, size)
    ∷ (6, set_size)
    ∷ (7, login)
    ∷ (8, cancelled)
    ∷ (9, masks true)
    ∷ (10, masks false)
    ∷ (11, time)
    ∷ (12, wait)
    ∷ (13, object_create)
    ∷ (14, object_open)
    ∷ (15, object_read)
    ∷ (16, object_write)
    ∷ (17, object_seek)
    ∷ (18, object_close)
    ∷ (19, object_delete)
    ∷ []

-- what a system call does, if there is one of this number
abbrev pub system_call_of : ℕ → Option (State → Outcome)
system_call_of number = option_map (λ e. e.1) (find (λ e. e.0 == number) system_calls)

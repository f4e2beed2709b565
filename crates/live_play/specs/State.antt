-- The text of what a kernel keeps. This project's own.
use Rattle.std.specs.Prelude.{ℕ, ◌+◌, List, [], ◌∷◌, ◌++◌, Bool, false, codes, count_by, length, slice_get, if◌then◌else◌, Option, None, Some, zero, suc}
use Rattle.std.specs.Fmt.{decimal}
use Rattle.std.specs.Int.{to_be_bytes, w64}
use Rattle.std.specs.List.{flat_map}
use Rattle.std.specs.Option.{option_map_or}
use Rattle.event_journal.specs.Journal.{copied_bytes}
use Rattle.event_journal.specs.declared.event.Event.{Event}
use Rattle.event_journal.specs.declared.event.Event.TheVariants.{Entry, Exit}
use Rattle.hex.specs.Hex.{encode_lower}
use Rattle.job_model.specs.Job.{Body, Machine, Native, Nothing}
use Rattle.kernel_model.specs.Application.{Booted}
use Rattle.kernel_model.specs.History.{is_outside}
use Rattle.kernel_model.specs.Instances.{free_pages}
use Rattle.kernel_model.specs.Kernel.{Active, Asks, CallPhase, Ends, Free, Instance, Kernel, PendingCall, Processor, Runs, Suspended, Tables, ThreadSlot, Waits}
use Rattle.ns_ram.specs.Reads.{total_bytes}
use Rattle.play_model.specs.Line.{register_text}
use Rattle.rpc_msgs.specs.declared.rpc.Rpc.{Rpc}
use Rattle.rpc_msgs.specs.declared.rpc.Rpc.TheVariants as rpc
use Rattle.rpc_msgs.specs.declared.rpc_buffer.RpcBuffer.{RpcBuffer}
use Rattle.session_table.specs.Session.{is_of}
use Rattle.session_table.specs.declared.session.Session.{Session}
use Rattle.shm_registry.specs.Registered.{Registered, lowest_slot, piece_at}
use Rattle.shm_registry.specs.declared.piece.Piece.{Piece}
use Rattle.uuid.specs.Text.{hyphenated_text}

-- ---- pieces of lines

-- the texts of the numbers below this one, in rising order
unfoldable pub texts_below : ℕ → (ℕ → List ℕ) → List ℕ
texts_below zero text = []
texts_below (suc number) text = texts_below number text ++ text number

-- a text where there is something to be told
abbrev pub text_if : {A : Type 0} → (A → List ℕ) → Option A → List ℕ
text_if text there = option_map_or text there []

-- a space, a word, a space, and a number in decimal
abbrev pub numbered : List ℕ → ℕ → List ℕ
numbered word number = 32 ∷ word ++ 32 ∷ decimal number

-- a space, and a cookie in sixteen digits
abbrev pub cookie_text : ℕ → List ℕ
cookie_text cookie = 32 ∷ encode_lower (to_be_bytes w64 cookie)

-- ---- slots

-- what a request is for
abbrev pub request_word : Rpc → List ℕ
request_word rpc.Time = codes "time"
request_word (rpc.Sleep key) = codes "sleep"
request_word (rpc.Wake key) = codes "wake"
request_word (rpc.Suspend ms) = codes "suspend"
request_word (rpc.FsOpen name) = codes "open"
request_word (rpc.FsCreate name) = codes "create"
request_word (rpc.FsClose fd) = codes "close"
request_word (rpc.FsRead fd offset len) = codes "read"
request_word (rpc.FsWrite fd offset len) = codes "write"
request_word (rpc.FsRemove name) = codes "remove"

abbrev pub phase_word : CallPhase → List ℕ
phase_word (Runs job) = codes "runs"
phase_word (Asks job wanted payload) = codes "asks"
phase_word (Waits params) = codes "waits"
phase_word (Ends result params told wakes) = codes "ends"

-- ` wants REQUEST`, of a call whose application asks for something
abbrev pub wants_text : CallPhase → List ℕ
wants_text (Runs job) = []
wants_text (Asks job wanted payload) = codes " wants " ++ request_word wanted
wants_text (Waits params) = []
wants_text (Ends result params told wakes) = []

-- ` buffer ADDRESS COOKIE`
abbrev pub buffer_text : RpcBuffer → List ℕ
buffer_text buffer = codes " buffer" ++ register_text buffer.addr ++ cookie_text buffer.cookie

-- ` client C session S instance I`
abbrev pub owner_text : ℕ → ℕ → ℕ → List ℕ
owner_text client session instance =
    numbered (codes "client") client ++ numbered (codes "session") session ++ numbered (codes "instance") instance

abbrev pub marked_text : Bool → List ℕ
marked_text marked = if marked then codes " cancelled" else []

-- a call that its client is to resume
abbrev pub call_text : ℕ → PendingCall → List ℕ
call_text client call =
    phase_word call.phase
    ++ owner_text client call.session call.instance
    ++ wants_text call.phase
    ++ text_if buffer_text call.buffer
    ++ marked_text call.marked

abbrev pub slot_text : ThreadSlot → List ℕ
slot_text Free = codes "free"
slot_text (Active cpu call) = codes "active " ++ decimal cpu
slot_text (Suspended client call) = call_text client call

-- `slot N free`, `slot N active CPU`, or `slot N PHASE client C session S instance I [wants REQUEST] [buffer ADDRESS COOKIE]
-- [cancelled]`
abbrev pub slot_line : ℕ → ThreadSlot → List ℕ
slot_line number held = codes "slot " ++ decimal number ++ 32 ∷ slot_text held ++ 10 ∷ []

abbrev pub slot_lines : List ThreadSlot → List ℕ
slot_lines slots = texts_below (length slots) (λ number. text_if (slot_line number) (slice_get slots number))

-- ---- masks

-- what runs is a machine whose application has its cancellation masked, as it is when an entry point begins. A native application
-- masks nothing
abbrev pub body_is_masked : Body → Bool
body_is_masked (Machine image point machine) = machine.masked
body_is_masked (Native relation func) = false
body_is_masked Nothing = false

-- of a call that runs or asks
abbrev pub phase_is_masked : CallPhase → Bool
phase_is_masked (Runs job) = body_is_masked job.body
phase_is_masked (Asks job wanted payload) = body_is_masked job.body
phase_is_masked (Waits params) = false
phase_is_masked (Ends result params told wakes) = false

-- of a call that its client is to resume. A call that a processor works on is out with it: what is kept of its phase is that of its
-- entry, so nothing is told of its mask
abbrev pub slot_is_masked : ThreadSlot → Bool
slot_is_masked Free = false
slot_is_masked (Active cpu call) = false
slot_is_masked (Suspended client call) = phase_is_masked call.phase

-- `masked SLOT`, where the slot's call runs or asks, and its application has masked its cancellation
abbrev pub masked_line : ℕ → ThreadSlot → List ℕ
masked_line number held = if slot_is_masked held then codes "masked " ++ decimal number ++ 10 ∷ [] else []

abbrev pub masked_lines : List ThreadSlot → List ℕ
masked_lines slots = texts_below (length slots) (λ number. text_if (masked_line number) (slice_get slots number))

-- ---- processors

-- `inside CPU`, where the processor is inside
abbrev pub inside_line : ℕ → Processor → List ℕ
inside_line cpu processor = if is_outside processor then [] else codes "inside " ++ decimal cpu ++ 10 ∷ []

abbrev pub inside_lines : List Processor → List ℕ
inside_lines processors = texts_below (length processors) (λ cpu. text_if (inside_line cpu) (slice_get processors cpu))

-- ---- instances

-- how many sessions an instance has, opened or being opened
abbrev pub users_of : Tables → ℕ → ℕ
users_of tables instance = count_by (λ kept. is_of instance kept.1) tables.sessions

abbrev pub holder_text : Option ℕ → List ℕ
holder_text None = codes " idle"
holder_text (Some slot) = codes " held " ++ decimal slot

abbrev pub life_text : Bool → List ℕ
life_text dead = if dead then codes " dead" else codes " alive"

-- `instance N UUID users U idle|held SLOT alive|dead`
abbrev pub instance_line : Tables → ℕ → Instance → List ℕ
instance_line tables number instance =
    codes "instance " ++ decimal number ++ 32 ∷ hyphenated_text 97 instance.uuid
    ++ numbered (codes "users") (users_of tables number)
    ++ holder_text instance.holder
    ++ life_text instance.dead
    ++ 10 ∷ []

-- of all that are kept, which stand in rising order of their numbers
abbrev pub instance_lines : Tables → List ℕ
instance_lines tables = flat_map (λ kept. instance_line tables kept.0 kept.1) tables.instances

-- ---- counts

-- `WORD N`
abbrev pub count_line : List ℕ → ℕ → List ℕ
count_line word number = word ++ 32 ∷ decimal number ++ 10 ∷ []

-- how many sessions, registered buffers, and pages that no instance has; events, and bytes that all entries have read. A session
-- that is being opened is kept until its open ends, also where its instance has gone before
abbrev pub count_lines : Booted → Kernel → List Event → List ℕ
count_lines boot kernel history =
    count_line (codes "sessions") (length kernel.tables.sessions)
    ++ count_line (codes "buffers") (length kernel.tables.registered.buffers)
    ++ count_line (codes "pages") (free_pages boot kernel.tables.instances)
    ++ count_line (codes "events") (length history)
    ++ count_line (codes "copied") (copied_bytes history)

-- ---- all of it

abbrev pub state_text : Booted → Kernel → List Event → List ℕ
state_text boot kernel history =
    slot_lines kernel.slots
    ++ masked_lines kernel.slots
    ++ inside_lines kernel.processors
    ++ instance_lines kernel.tables
    ++ count_lines boot kernel history

-- ---- one session, and one registered buffer

-- `session N client C instance I opened|opening`
abbrev pub session_line : ℕ → Session → List ℕ
session_line number session =
    codes "session " ++ decimal number
    ++ numbered (codes "client") session.client
    ++ numbered (codes "instance") session.instance
    ++ (if session.opened then codes " opened" else codes " opening")
    ++ 10 ∷ []

abbrev pub pin_text : Option ℕ → List ℕ
pin_text None = codes " free"
pin_text (Some slot) = codes " pinned " ++ decimal slot

-- `piece ADDRESS LENGTH`, of the part of a buffer that lies in one page
abbrev pub piece_line : Piece → List ℕ
piece_line piece = codes "piece" ++ register_text piece.addr ++ 32 ∷ decimal piece.len ++ 10 ∷ []

-- of at most so many parts, from this offset on
unfoldable pub piece_lines : ℕ → Registered → ℕ → ℕ → List ℕ
piece_lines zero registered cookie offset = []
piece_lines (suc more) registered cookie offset =
    text_if (λ piece. piece_line piece ++ piece_lines more registered cookie (offset + piece.len))
    (piece_at registered.buffers cookie offset)

-- `buffer COOKIE free|pinned SLOT`, SLOT the lowest one of those whose calls use it, and a line for each of its pages
abbrev pub buffer_lines : Registered → ℕ → List ℕ
buffer_lines registered cookie =
    codes "buffer" ++ cookie_text cookie ++ pin_text (lowest_slot registered.pins cookie) ++ 10 ∷ piece_lines 1024 registered cookie 0

-- ---- events

-- `entry CPU STEPS A0 .. A7 BYTES`, of one that has read so many bytes
abbrev pub entry_line : ℕ → ℕ → List ℕ → ℕ → List ℕ
entry_line cpu steps regs copied =
    codes "entry " ++ decimal cpu ++ 32 ∷ decimal steps ++ flat_map register_text regs ++ 32 ∷ decimal copied ++ 10 ∷ []

-- `exit CPU A0 .. A7`
abbrev pub exit_line : ℕ → List ℕ → List ℕ
exit_line cpu regs = codes "exit " ++ decimal cpu ++ flat_map register_text regs ++ 10 ∷ []

abbrev pub event_line : Event → List ℕ
event_line (Entry cpu regs steps reads) = entry_line cpu steps regs.a (total_bytes reads)
event_line (Exit cpu regs) = exit_line cpu regs.a

-- so many from this one on, as many of them as there are
abbrev pub event_lines : List Event → ℕ → ℕ → List ℕ
event_lines history from count = texts_below count (λ number. text_if event_line (slice_get history (from + number)))

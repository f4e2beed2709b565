-- What a job asks for fits a message, at its stop and behind each answer.
use Rattle.std.proofs.Common.{◌≡◌, ℕ, zero, suc, ◌+◌, ◌-◌, ◌/◌, ◌%◌, ◌^◌, ◌≤◌, Bool, true, false, List, [], ◌∷◌, ◌++◌, length, take, drop, min, Option, Some, None, refl, ap, subst, arith}
use Rattle.std.specs.Prelude.{◌==◌, ◌&&◌, ◌||◌, not, if◌then◌else◌, nat_lt}
use Rattle.std.specs.Option.{option_map, option_and_then}
use Rattle.std.proofs.lemmas.List.{length-append, length-take, length-drop}
use Rattle.std.proofs.lemmas.Option.{option_and_then_some}
use Rattle.base.specs.Bytes.{overwritten}
use Rattle.base.specs.NumberMap.{NumberMap, get}
use Rattle.hmac.proofs.Digests.{length-hmac}
use Rattle.rpc_msgs.specs.Answer.{RpcAnswer, Replied, NoBuffer}
use Rattle.rpc_msgs.specs.Request.{IsPayloadOf, IsRequest}
use Rattle.rpc_msgs.specs.declared.rpc.Rpc.{Rpc}
use Rattle.rpc_msgs.specs.declared.rpc.Rpc.TheVariants as rpc
use Rattle.rpc_msgs.specs.declared.rpc.RpcReply.{RpcReply}
use Rattle.ta_isa.specs.declared.image.Image.{Image}
use Rattle.ta_params.specs.declared.codes.TheConstants.{TEE_SUCCESS, TEE_ERROR_BAD_PARAMETERS, TEE_ERROR_GENERIC, TEE_ERROR_OUT_OF_MEMORY}
use Rattle.ta_params.specs.declared.object_call.ObjectCall.{ObjectCall}
use Rattle.ta_params.specs.declared.object_call.ObjectCall.TheVariants.{Create, Opened, Read, Write, Seek, Close, Delete}
use Rattle.ta_step.specs.Outcome.{Outcome, asking}
use Rattle.ta_step.specs.Outcome as outcome
use Rattle.ta_step.specs.Requests.{object_span, span_of}
use Rattle.ta_step.specs.Runs.{Ran, continued, runs}
use Rattle.ta_step.specs.State.{State, is_cancelled}
use Rattle.ta_step.specs.Step.{step}
use Rattle.ta_step.specs.SystemCalls.{is_range}
use Rattle.ta_step.specs.declared.stop.Request.{Request}
use Rattle.ta_step.specs.declared.stop.Request.TheVariants as request
use Rattle.ta_step.specs.declared.stop.Stop.TheVariants as stop
use Rattle.ta_step.proofs.Kept.{runs-names}
use Rattle.tee_storage.specs.declared.object_file.Header.{Header}
use Rattle.tee_storage.specs.Handles.{lowest_free}
use Rattle.tee_storage.specs.KeptData.{Storing, reading_data, storing_none}
use Rattle.tee_storage.specs.ObjectCalls.{program_of, shown}
use Rattle.tee_storage.specs.ObjectFiles.{Piece, bytes_of, cut, file_name, header, is_id_length, offset_of, pieces}
use Rattle.tee_storage.specs.OpenObjects.{all_read, new_length, new_tag, on_found, read_checked, read_some, readable, reading, removing, storing_read, without, write_checked, write_some, writing, writing_header}
use Rattle.tee_storage.specs.Opening.{creating, first_bytes, header_in, opened_as, opening, with_handle, with_number}
use Rattle.tee_storage.specs.Program.{Now, Program, Asks, Ends, after, after_one, fails, now_at}
use Rattle.tee_storage.specs.Replies.{asks, failure_of, is_whole, unless_failed}
use Rattle.tee_storage.specs.Tags.{brings, checking, first_tag, is_tagged, kept_tag, tag_front, tag_of, tag_offset}
use Rattle.tee_storage.specs.declared.handle.Handle.{Handle}
use Rattle.tee_storage.specs.declared.object_file.TheConstants.{MAX_LENGTH}
use Rattle.tee_storage.specs.declared.step.StorageStep.TheVariants as storage
use Rattle.job_model.specs.Owner.{Owner}
use Rattle.job_model.specs.Asking.{Ask, Asking, Bad, Gives, Needs, PendingRequest, ask, ask_unchanged, asks_time, asks_wait, comes_to, object_ask}
use Rattle.job_model.specs.Fitting.{AsksFittingly, HasRange, RequestsFit}
use Rattle.job_model.specs.Job.{Body, Job, Machine, Native, Nothing}
use Rattle.job_model.specs.Steps.{Advance, Goes, JobStop, Stops, advance, advance_by, advance_of, advance_on_answer_in, advance_on_answers, job_after_return, new_request, on_from, on_to_next, still_to_come, stop_at, stop_at_once, stop_behind, with_bytes}
use Rattle.job_model.specs.Steps as steps
use Rattle.job_model.specs.declared.entry_point.EntryPoint.{EntryPoint}
use Rattle.job_model.proofs.Programs.{IsEnd}
use Rattle.job_model.proofs.Ranges.{length-bytes_at}

-- ---- calls on objects

-- each request of the program fits a message
abbrev IsFitting : Program → Type 0
IsFitting (Asks wanted payload now onward) = IsRequest wanted × IsPayloadOf wanted payload × ((reply : RpcReply) → IsFitting (onward reply))
IsFitting (Ends last now) = IsEnd last

if_fits : (test : Bool) (first second : Program) → IsFitting first → IsFitting second → IsFitting (if test then first else second)
if_fits true first second one two = one
if_fits false first second one two = two

unless_fits : (ret : ℕ) (now : Now) (onward : Program) → IsFitting onward → IsFitting (unless_failed ret now onward)
unless_fits ret now onward fits = if_fits (ret == TEE_SUCCESS) onward (fails (failure_of ret) now) fits tt

asks_fit : (wanted : Rpc) (payload : List ℕ) (now : Now) (onward : RpcReply → Program) → IsRequest wanted → IsPayloadOf wanted payload
    → ((reply : RpcReply) → IsFitting (onward reply)) → IsFitting (asks wanted payload now onward)
asks_fit wanted payload now onward room carried rest = (room, carried, λ reply. unless_fits reply.ret now (onward reply) (rest reply))

number_fits : (found : Option ℕ) (now : Now) (onward : ℕ → Program) → ((number : ℕ) → IsFitting (onward number)) → IsFitting (with_number found now onward)
number_fits None now onward rest = tt
number_fits (Some number) now onward rest = rest number

handle_fits : (len : ℕ) (now : Now) (onward : ℕ → Program) → ((number : ℕ) → IsFitting (onward number)) → IsFitting (with_handle len now onward)
handle_fits len now onward rest =
    if_fits (is_id_length len) (with_number (lowest_free now.objects) now onward) (fails _ now) (number_fits (lowest_free now.objects) now onward rest) tt

-- a header has eight bytes
header_room : 8 ≤ 3584
header_room = omega arith

opened_fits : (found : Option Header) (name : List ℕ) (number fd : ℕ) (now : Now) → IsFitting (opened_as found name number fd now)
opened_fits None name number fd now = tt
opened_fits (Some header) name number fd now = tt

-- and a tag 32
tag_room : 32 ≤ 3584
tag_room = omega arith

long_tag : (key name : List ℕ) (len : ℕ) (content : List ℕ) → length (tag_of key name len content) ≡ 32
long_tag key name len content = length-hmac key (tag_front name len ++ content)

first_room : 40 ≤ 3584
first_room = omega arith

long_first : (key name : List ℕ) → length (first_bytes key name) ≡ 40
long_first key name = omega (arith, long_tag key name 0 [], length-append (header 0) (first_tag key name))

creating_fits : (key name : List ℕ) (now : Now) (number : ℕ) → IsFitting (creating key name now number)
creating_fits key name now number =
    asks_fit (rpc.FsCreate name) name now _ tt refl (λ created.
    asks_fit (rpc.FsWrite created.v 0 40) (first_bytes key name) now _ first_room (long_first key name) (λ written. tt))

opening_fits : (name : List ℕ) (now : Now) (number : ℕ) → IsFitting (opening name now number)
opening_fits name now number =
    asks_fit (rpc.FsOpen name) name now _ tt refl (λ file.
    asks_fit (rpc.FsRead file.v 0 8) [] now _ header_room refl (λ reply. opened_fits (header_in reply) name number file.v now))

-- the pieces of so many bytes fit a message, and are there where all these bytes are
abbrev AreShort : List Piece → Type 0
AreShort [] = Unit {0}
AreShort (piece ∷ others) = (piece.len ≤ 3584) × AreShort others

abbrev AreThere : List ℕ → List Piece → Type 0
AreThere range [] = Unit {0}
AreThere range (piece ∷ others) = (length (bytes_of range piece) ≡ piece.len) × AreThere range others

cut_short : (count start total : ℕ) → AreShort (cut count start total)
cut_short zero start total = tt
cut_short (suc count) start total = (omega arith, cut_short count (start + min 3584 (total - start)) total)

cut_there : (range : List ℕ) (count start total : ℕ) → total ≤ length range → AreThere range (cut count start total)
cut_there range zero start total within = tt
cut_there range (suc count) start total within = (
  omega (arith, length-take (min 3584 (total - start)) (drop start range), length-drop start range),
  cut_there range count (start + min 3584 (total - start)) total within,
)

reading_fits : (handle : ℕ) (object : Handle) (len : ℕ) (some : List Piece) (now : Now) → AreShort some → IsFitting (reading handle object len some now)
reading_fits handle object len [] now short = tt
reading_fits handle object len (piece ∷ others) now short =
    asks_fit (rpc.FsRead object.fd (offset_of (object.position + piece.start)) piece.len) [] now _ short.0 refl (λ reply. if_fits (is_whole reply piece.len) _ _ (reading_fits handle object len others _ short.1) tt)

-- what holds of each state of the range holds behind all of the data
data_fits : (object : Handle) (storing : Storing) (P : Now → Type 0) (some : List Piece) (content : List ℕ) (now : Now) (onward : List ℕ → Now → Program)
    → ((later : Now) (start : ℕ) (bytes : List ℕ) → P later → P (storing later start bytes)) → AreShort some → P now
    → ((all : List ℕ) (later : Now) → P later → IsFitting (onward all later)) → IsFitting (reading_data object storing some content now onward)
data_fits object storing P [] content now onward stays short here rest = rest content now here
data_fits object storing P (piece ∷ others) content now onward stays short here rest =
    asks_fit (rpc.FsRead object.fd (offset_of piece.start) piece.len) [] now _ short.0 refl (λ reply. if_fits (is_whole reply piece.len) _ _
    (data_fits object storing P others (content ++ reply.bytes) (storing now piece.start reply.bytes) onward stays short.1 (stays now piece.start reply.bytes here) rest) tt)

checking_fits : (object : Handle) (tag : List ℕ) (now : Now) (onward : Program) → IsFitting onward → IsFitting (checking object tag now onward)
checking_fits object tag now onward fits =
    asks_fit (rpc.FsRead object.fd (tag_offset object.length) 32) [] now _ tag_room refl (λ reply. if_fits (brings reply tag) _ _ fits tt)

read_fits : (key : List ℕ) (handle : ℕ) (object : Handle) (len : ℕ) (now : Now) → IsFitting (read_some key handle object len now)
read_fits key handle object len now =
    if_fits (is_tagged object && nat_lt 0 len) _ _
    (data_fits object (storing_read object len) (λ later. Unit {0}) (pieces object.length) [] now (read_checked key handle object len) (λ later start bytes here. tt) (cut_short _ 0 object.length) tt
    (λ all later here. checking_fits object (kept_tag key object all) later (all_read handle object len later) tt))
    (reading_fits handle object len (pieces len) now (cut_short _ 0 len))

length_fits : (handle : ℕ) (object : Handle) (len : ℕ) (now : Now) → IsFitting (writing_header handle object len now)
length_fits handle object len now =
    if_fits (nat_lt object.length (object.position + len) || not (is_tagged object)) _ _
    (asks_fit (rpc.FsWrite object.fd 0 8) (header (new_length object len)) now _ header_room refl (λ reply. tt)) tt

writing_fits : (handle : ℕ) (object : Handle) (len : ℕ) (tag : List ℕ) (some : List Piece) (now : Now) → length tag ≡ 32 → AreShort some → AreThere now.range some
    → IsFitting (writing handle object len tag some now)
writing_fits handle object len tag [] now whole short there =
    asks_fit (rpc.FsWrite object.fd (tag_offset (new_length object len)) 32) tag now _ tag_room whole (λ reply. length_fits handle object len now)
writing_fits handle object len tag (piece ∷ others) now whole short there =
    asks_fit (rpc.FsWrite object.fd (offset_of (object.position + piece.start)) piece.len) (bytes_of now.range piece) now _ short.0 there.0
    (λ reply. writing_fits handle object len tag others now whole short.1 there.1)

found_fits : (found : Option Handle) (now : Now) (onward : Handle → Program) → ((object : Handle) → IsFitting (onward object)) → IsFitting (on_found found now onward)
found_fits None now onward rest = tt
found_fits (Some object) now onward rest = rest object

checked_fits : (key : List ℕ) (handle : ℕ) (object : Handle) (len : ℕ) (content : List ℕ) (now : Now) → len ≤ length now.range
    → IsFitting (write_checked key handle object len content now)
checked_fits key handle object len content now within =
    let written = take len now.range in
    let tag = new_tag key object content written in
    let whole = long_tag key object.name (new_length object (length written)) (overwritten content object.position written) in
    let onward = writing_fits handle object len tag (pieces len) now whole (cut_short _ 0 len) (cut_there now.range _ 0 len within) in
    if_fits (is_tagged object) _ _ (checking_fits object (kept_tag key object content) now (writing handle object len tag (pieces len) now) onward) onward

written_fits : (key : List ℕ) (handle len : ℕ) (now : Now) (object : Handle) → len ≤ length now.range
    → IsFitting (if nat_lt MAX_LENGTH (object.position + len) then fails TEE_ERROR_BAD_PARAMETERS now else write_some key handle object len now)
written_fits key handle len now object within =
    if_fits (nat_lt MAX_LENGTH (object.position + len)) _ _ tt (if_fits (len == 0) _ _ tt
    (data_fits object storing_none (λ (later : Now). len ≤ length later.range) (pieces object.length) [] now (write_checked key handle object len) (λ later start bytes here. here) (cut_short _ 0 object.length) within
    (checked_fits key handle object len)))

removing_fits : (name : List ℕ) (now : Now) → IsFitting (removing name now)
removing_fits name now = asks_fit (rpc.FsRemove name) name now _ tt refl (λ removed. tt)

calls_fit : (call : ObjectCall) (uuid key : List ℕ) (now : Now) → length now.range ≡ (object_span call).1 → IsFitting (program_of call uuid key now)
calls_fit (Create id len) uuid key now e = handle_fits len now (creating key (file_name uuid now.range) now) (creating_fits key (file_name uuid now.range) now)
calls_fit (Opened id len) uuid key now e = handle_fits len now (opening (file_name uuid now.range) now) (opening_fits (file_name uuid now.range) now)
calls_fit (Read handle addr len) uuid key now e =
    found_fits (get now.objects handle) now _
    (λ object. read_fits key handle object (readable object len) now)
calls_fit (Write handle addr len) uuid key now e =
    found_fits (get now.objects handle) now _ (λ object. written_fits key handle len now object (omega (arith, e)))
calls_fit (Seek handle position) uuid key now e = found_fits (get now.objects handle) now _ (λ object. if_fits (nat_lt object.length position) _ _ tt tt)
calls_fit (Close handle) uuid key now e =
    found_fits (get now.objects handle) now _ (λ object. (tt, refl, λ reply. unless_fits reply.ret (without now handle) _ tt))
calls_fit (Delete handle) uuid key now e =
    found_fits (get now.objects handle) now _ (λ object. (tt, refl, λ reply. removing_fits object.name (without now handle)))

-- ---- after answers

one_fits : (program left : Program) (answer : RpcAnswer) → IsFitting program → after_one program answer ≡ Some left → IsFitting left
one_fits (Asks wanted payload now onward) left (Replied reply) fits e =
    let same : onward reply ≡ left = cc in
    subst IsFitting same (fits.2 reply)
one_fits (Asks wanted payload now onward) left NoBuffer fits e =
    let ended : Program = fails TEE_ERROR_OUT_OF_MEMORY now in
    let same : ended ≡ left = cc in
    subst IsFitting same tt
one_fits (Ends last now) left answer fits e = absurd cc

-- all that is left, if anything is
abbrev IsLeftFitting : Option Program → Type 0
IsLeftFitting o = (program : Program) → o ≡ Some program → IsFitting program

later_fits : (o : Option Program) (answers : List RpcAnswer) → IsLeftFitting o → IsLeftFitting (after o answers)
later_fits o [] fits = fits
later_fits None (answer ∷ answers) fits = λ program e. absurd (none_some program e)
  where
    none_some : (program : Program) → None ≡ Some program → ⊥
    none_some program e = cc
later_fits (Some program) (answer ∷ answers) fits =
    later_fits (after_one program answer) answers (λ next is. one_fits program next answer (fits program refl) is)

-- ---- what a request comes to

abbrev FitsNext : Asking → Type 0
FitsNext (Needs wanted payload) = IsRequest wanted × IsPayloadOf wanted payload
FitsNext (Gives r0 r1 r2) = Unit {0}
FitsNext (Bad code) = Unit {0}

abbrev FitsCome : Option Ask → Type 0
FitsCome None = Unit {0}
FitsCome (Some came) = FitsNext came.next

given_fits : (test : Bool) (a b c d e f : ℕ) → FitsNext (if test then Gives a b c else Gives d e f)
given_fits true a b c d e f = tt
given_fits false a b c d e f = tt

time_fits : (asked : PendingRequest) (answers : List RpcAnswer) → FitsCome (option_map (ask_unchanged asked) (asks_time answers))
time_fits asked [] = (tt, refl)
time_fits asked (Replied reply ∷ []) =
    given_fits (reply.ret == 0) TEE_SUCCESS (reply.v % 2 ^ 32) ((reply.w % 2 ^ 32) / 1000000) TEE_ERROR_GENERIC 0 0
time_fits asked (NoBuffer ∷ []) = tt
time_fits asked (Replied reply ∷ another ∷ more) = tt
time_fits asked (NoBuffer ∷ another ∷ more) = tt

wait_fits : (asked : PendingRequest) (ms : ℕ) (cancelled : Bool) (answers : List RpcAnswer)
    → FitsCome (option_map (ask_unchanged asked) (asks_wait ms cancelled answers))
wait_fits asked ms cancelled [] = (tt, refl)
wait_fits asked ms cancelled (answer ∷ []) = tt
wait_fits asked ms cancelled (answer ∷ another ∷ more) = tt

object_fits : (o : Option Program) → IsLeftFitting o → FitsCome (option_map object_ask (option_map shown o))
object_fits None fits = tt
object_fits (Some (Asks wanted payload now onward)) fits = let here = fits (Asks wanted payload now onward) refl in (here.0, here.1)
object_fits (Some (Ends (storage.Ask wanted payload) now)) fits = absurd (fits (Ends (storage.Ask wanted payload) now) refl)
object_fits (Some (Ends (storage.Done result value) now)) fits = tt
object_fits (Some (Ends (storage.Panic code) now)) fits = tt

comes_fit : (owner : Owner) (cancelled : Bool) (asked : PendingRequest) (wanted : Request) → length asked.range ≡ (span_of wanted).1
    → FitsCome (comes_to owner cancelled asked wanted)
comes_fit owner cancelled asked request.Time e = time_fits asked asked.answers
comes_fit owner cancelled asked (request.Suspend ms) e = wait_fits asked ms cancelled asked.answers
comes_fit owner cancelled asked (request.Object call) e =
    let now = now_at asked.range asked.objects in
    let program = program_of call owner.uuid owner.key now in
    object_fits (after (Some program) asked.answers) (later_fits (Some program) asked.answers (λ other is.
    let same : program ≡ other = cc in
    subst IsFitting same (calls_fit call owner.uuid owner.key now e)))

-- ---- one advance

abbrev FitsAfter : Advance → Type 0
FitsAfter (Goes job) = Unit {0}
FitsAfter (Stops (steps.Asks wanted payload left)) = AsksFittingly wanted payload left
FitsAfter (Stops (steps.Ends end)) = Unit {0}
FitsAfter (Stops (steps.Panics code)) = Unit {0}

same_advance : (first second : Advance) → Some first ≡ Some second → FitsAfter first → FitsAfter second
same_advance first second e fits = let same : first ≡ second = cc in subst FitsAfter same fits

from_fits : (job : Job) (image : Image) (point : EntryPoint) (machine : State) (asked : PendingRequest) (objects : NumberMap Handle) (came : Asking)
    → FitsNext came → HasRange (Some asked) → FitsAfter (on_from job image point machine asked objects came)
from_fits job image point machine asked objects (Needs wanted payload) fits range = record { request = fits.0; with_payload = fits.1; range = range }
from_fits job image point machine asked objects (Gives r0 r1 r2) fits range = tt
from_fits job image point machine asked objects (Bad code) fits range = tt

came_fits : (job : Job) (image : Image) (point : EntryPoint) (machine : State) (asked : PendingRequest) (o : Option Ask) (next : Advance)
    → option_map (λ (came : Ask). on_from job image point (with_bytes machine asked.request came.range) asked came.objects came.next) o ≡ Some next
    → FitsCome o → HasRange (Some asked) → FitsAfter next
came_fits job image point machine asked None next e fits range = absurd cc
came_fits job image point machine asked (Some came) next e fits range =
    same_advance _ next e
    (from_fits job image point (with_bytes machine asked.request came.range) asked came.objects came.next fits range)

answers_fit : (job : Job) (image : Image) (point : EntryPoint) (machine : State) (asked : PendingRequest) (next : Advance)
    → advance_on_answers job image point machine asked ≡ Some next → HasRange (Some asked) → FitsAfter next
answers_fit job image point machine asked next e range =
    came_fits job image point machine asked (ask job.owner (is_cancelled machine) asked) next e
    (comes_fit job.owner (is_cancelled machine) asked asked.request range) range

next_fits : (job : Job) (image : Image) (point : EntryPoint) (machine : State) (points : List EntryPoint) → FitsAfter (on_to_next job image point machine points)
next_fits job image point machine [] = tt
next_fits job image point machine (first ∷ behind) = tt

-- a machine asks for bytes that are all in one range
asked_range : (job : Job) (image : Image) (machine : State) (wanted : Request) → step image.code machine ≡ Some (outcome.Asks wanted)
    → HasRange (Some (new_request job machine wanted))
asked_range job image machine wanted stepped =
    let ran : Ran = record { stop = stop.Asks wanted; steps = 1; state = asking wanted machine } in
    let one : runs image.code 1 machine ≡ Some ran =
    ap (λ (o : Option Outcome). option_and_then (continued (runs image.code 0) machine) o) stepped in
    let named : is_range machine (span_of wanted).0 (span_of wanted).1 ≡ true = runs-names image.code 1 machine ran one in
    length-bytes_at machine (span_of wanted).0 (span_of wanted).1 named

outcome_fits : (job : Job) (image : Image) (point : EntryPoint) (machine : State) (came : Outcome) (next : Advance)
    → advance_by job image point machine came ≡ Some next → step image.code machine ≡ Some came → FitsAfter next
outcome_fits job image point machine (outcome.Goes on) next e stepped = same_advance _ next e tt
outcome_fits job image point machine (outcome.Returns r0 r1) next e stepped =
    same_advance _ next e (next_fits (job_after_return job point machine.params r0 r1) image point machine (still_to_come point r0 job.points))
outcome_fits job image point machine (outcome.Panics code) next e stepped = same_advance (Stops (steps.Panics code)) next e tt
outcome_fits job image point machine (outcome.Asks wanted) next e stepped =
    answers_fit job image point (asking wanted machine) (new_request job machine wanted) next e (asked_range job image machine wanted stepped)

advance_fits : (job : Job) (body : Body) (next : Advance) → advance_of job body ≡ Some next → FitsAfter next
advance_fits job (Machine image point machine) next e =
    option_and_then_some (advance_by job image point machine) (step image.code machine) next e
    (λ came stepped onward. outcome_fits job image point machine came next onward stepped)
advance_fits job (Native relation func) next e = same_advance _ next e tt
advance_fits job Nothing next e = absurd cc

answer_fits : (job : Job) (answer : RpcAnswer) (body : Body) (asked : Option PendingRequest) (next : Advance)
    → advance_on_answer_in job answer body asked ≡ Some next → HasRange asked → FitsAfter next
answer_fits job answer (Machine image point machine) (Some asked) next e range =
    answers_fit job image point machine (record asked { answers = asked.answers ++ answer ∷ [] }) next e range
answer_fits job answer (Machine image point machine) None next e range = absurd cc
answer_fits job answer (Native relation func) asked next e range = absurd cc
answer_fits job answer Nothing asked next e range = absurd cc

-- ---- many steps

abbrev FitsStop : JobStop → Type 0
FitsStop why = FitsAfter (Stops why)

same_stop : (first second : JobStop) → Some first ≡ Some second → FitsStop first → FitsStop second
same_stop first second e fits = let same : first ≡ second = cc in subst FitsStop same fits

at_once_fits : (job : Job) (body : Body) (why : JobStop) → stop_at_once job body ≡ Some why → FitsStop why
at_once_fits job (Machine image point machine) why e = absurd cc
at_once_fits job (Native relation func) why e = absurd cc
at_once_fits job Nothing why e = same_stop _ why e tt

behind_fits : (n : ℕ) (next : Advance) (why : JobStop) → ((job : Job) → stop_at n job ≡ Some why → FitsStop why)
    → stop_behind (stop_at n) n next ≡ Some why → FitsAfter next → FitsStop why
behind_fits n (Goes job) why rest e fits = rest job e
behind_fits zero (Stops first) why rest e fits = same_stop first why e fits
behind_fits (suc n) (Stops first) why rest e fits = absurd cc

stop_fits : (n : ℕ) (job : Job) (why : JobStop) → stop_at n job ≡ Some why → FitsStop why
stop_fits zero job why e = at_once_fits job job.body why e
stop_fits (suc n) job why e =
    option_and_then_some (stop_behind (stop_at n) n) (advance job) why e
    (λ next came onward. behind_fits n next why (λ on. stop_fits n on why) onward (advance_fits job job.body next came))

pub requests_fit : RequestsFit
requests_fit = record {
  stops = λ job left n wanted payload stops. stop_fits n job (steps.Asks wanted payload left) stops;
  answers = λ job left answer wanted payload range came.
      answer_fits job answer job.body job.asked (Stops (steps.Asks wanted payload left)) came range;
}

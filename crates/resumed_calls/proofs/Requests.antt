-- What a call asks for is one that a message has room for, and goes to its buffer.
use Rattle.std.proofs.Common.{◌≡◌, ℕ, zero, suc, ◌+◌, ◌-◌, ◌≤◌, Bool, true, false, List, [], ◌∷◌, ◌++◌, take, Option, Some, None, refl, sym, ◌∙◌, ap, subst, arith}
use Rattle.std.specs.Prelude.{IsSomeAnd, if◌then◌else◌, min, ◌==◌, ◌&&◌, ◌||◌, not, nat_lt}
use Rattle.std.specs.Option.{option_map, option_map_or}
use Rattle.std.proofs.Math.Nat.{min-le_left}
use Rattle.base.specs.NumberMap.{NumberMap, get}
use Rattle.job_model.specs.Asking.{PendingRequest, bytes_at}
use Rattle.job_model.specs.Owner.{Owner}
use Rattle.kernel_model.specs.Kernel.{CallPhase, Runs, Asks, Waits, Ends, PendingCall}
use Rattle.kernel_model.specs.Leaving.{Leaving, Request, Requests, WantsBuffer, FreesBuffer, Finishes, asks_for, leaving_in, place_of, plain_request}
use Rattle.kernel_state.specs.Calls.{IsInPhase, bytes_of}
use Rattle.rpc_cont.specs.Conts.{call_owner}
use Rattle.rpc_cont.specs.Running.{Awaits, HasCome}
use Rattle.rpc_cont.specs.declared.cont.Asked.{Asked}
use Rattle.rpc_cont.specs.declared.cont.Cont.{Cont}
use Rattle.rpc_msgs.specs.Answer.{RpcAnswer, Replied, NoBuffer}
use Rattle.rpc_msgs.specs.Request.{IsRequest}
use Rattle.rpc_msgs.specs.declared.rpc.Rpc.{Rpc}
use Rattle.rpc_msgs.specs.declared.request_place.RequestPlace.{RequestPlace}
use Rattle.rpc_msgs.specs.declared.rpc.Rpc.TheVariants as rpc
use Rattle.rpc_msgs.specs.declared.rpc.Rpc.TheVariants.{FsOpen, FsCreate, FsRead, FsWrite, FsRemove}
use Rattle.rpc_msgs.specs.declared.rpc.RpcReply.{RpcReply}
use Rattle.rpc_msgs.specs.declared.rpc_buffer.RpcBuffer.{RpcBuffer}
use Rattle.ta_params.specs.declared.object_call.ObjectCall.{ObjectCall}
use Rattle.ta_params.specs.declared.object_call.ObjectCall.TheVariants.{Create, Opened, Read, Write, Seek, Close, Delete}
use Rattle.ta_step.specs.Machine.{state_of}
use Rattle.ta_step.specs.Requests.{span_of}
use Rattle.ta_step.specs.declared.machine.Machine.{Machine as AnyMachine}
use Rattle.ta_step.specs.declared.stop.Request.{Request as Wish}
use Rattle.ta_step.specs.declared.stop.Request.TheVariants as request
use Rattle.tee_storage.specs.Handles.{lowest_free}
use Rattle.tee_storage.specs.KeptData.{Storing, reading_data, storing_none}
use Rattle.tee_storage.specs.ObjectCalls.{Serving, left_of, program_of, serving, shown}
use Rattle.tee_storage.specs.ObjectFiles.{Piece, bytes_of as piece_bytes, cut, file_name, header, is_id_length, offset_of, pieces}
use Rattle.tee_storage.specs.OpenObjects.{all_read, new_length, new_tag, on_found, read_checked, read_some, readable, reading, removing, storing_read, with_object, without, write_checked, write_some, writing, writing_header}
use Rattle.tee_storage.specs.Opening.{creating, empty_object, first_bytes, header_in, opened, opened_as, opening, reading_header, with_number, writing_first}
use Rattle.tee_storage.specs.Program as program
use Rattle.tee_storage.specs.Program.{Now, Program, after, after_one, ends_with, fails, now_at}
use Rattle.tee_storage.specs.Replies.{asks, failure_of, is_whole}
use Rattle.tee_storage.specs.Tags.{brings, checking, is_tagged, kept_tag, tag_offset}
use Rattle.tee_storage.specs.declared.handle.Handle.{Handle}
use Rattle.tee_storage.specs.declared.object_file.Header.{Header}
use Rattle.tee_storage.specs.declared.state.ObjectState.{ObjectState}
use Rattle.tee_storage.specs.declared.step.StorageStep.{StorageStep}
use Rattle.tee_storage.specs.declared.step.StorageStep.TheVariants as storage
use Rattle.base.specs.Bytes.{overwritten}

-- ---- calls on objects

-- the step asks for one, if it asks
abbrev StepFits : StorageStep → Type 0
StepFits (storage.Ask rpc payload) = IsRequest rpc
StepFits (storage.Done result value) = Unit {0}
StepFits (storage.Panic code) = Unit {0}

-- each that the program may ask for is one
abbrev Fits : Program → Type 0
Fits (program.Asks rpc payload now onward) = IsRequest rpc × ((reply : RpcReply) → Fits (onward reply))
Fits (program.Ends step now) = StepFits step

abbrev LeftFits : Option Program → Type 0
LeftFits None = Unit {0}
LeftFits (Some left) = Fits left

either_fits : (test : Bool) (one other : Program) → Fits one → Fits other → Fits (if test then one else other)
either_fits true one other fits others = fits
either_fits false one other fits others = others

asks_fits : (rpc : Rpc) (payload : List ℕ) (now : Now) (onward : RpcReply → Program) → IsRequest rpc → ((reply : RpcReply) → Fits (onward reply)) →
    Fits (asks rpc payload now onward)
asks_fits rpc payload now onward is fits =
    (is, λ reply. either_fits (reply.ret == 0) (onward reply) (fails (failure_of reply.ret) now) (fits reply) tt)

-- pieces of at most 3584 bytes
abbrev AreFew : List Piece → Type 0
AreFew [] = Unit {0}
AreFew (piece ∷ others) = (piece.len ≤ 3584) × AreFew others

cut_few : (count start total : ℕ) → AreFew (cut count start total)
cut_few zero start total = tt
cut_few (suc count) start total = (min-le_left 3584 (total - start), cut_few count (start + min 3584 (total - start)) total)

reading_fits : (handle : ℕ) (object : Handle) (len : ℕ) (some : List Piece) (now : Now) → AreFew some → Fits (reading handle object len some now)
reading_fits handle object len [] now few = tt
reading_fits handle object len (piece ∷ others) now few =
    asks_fits (FsRead object.fd (offset_of (object.position + piece.start)) piece.len) [] now _ few.0 (λ reply.
    let read = record now { range = overwritten now.range piece.start reply.bytes } in
    either_fits (is_whole reply piece.len) (reading handle object len others read) (fails 0xf0100001 now)
    (reading_fits handle object len others read few.1) tt)

-- behind all of the data, whatever they are
data_fits : (object : Handle) (storing : Storing) (some : List Piece) (content : List ℕ) (now : Now) (onward : List ℕ → Now → Program) →
    AreFew some → ((all : List ℕ) (later : Now) → Fits (onward all later)) → Fits (reading_data object storing some content now onward)
data_fits object storing [] content now onward few rest = rest content now
data_fits object storing (piece ∷ others) content now onward few rest =
    asks_fits (FsRead object.fd (offset_of piece.start) piece.len) [] now _ few.0 (λ reply.
    either_fits (is_whole reply piece.len) _ _
    (data_fits object storing others (content ++ reply.bytes) (storing now piece.start reply.bytes) onward few.1 rest) tt)

-- a header has eight bytes, a tag 32, and both are written together
header_fits : 8 ≤ 3584
header_fits = omega arith

tag_fits : 32 ≤ 3584
tag_fits = omega arith

first_fits : 40 ≤ 3584
first_fits = omega arith

checking_fits : (object : Handle) (tag : List ℕ) (now : Now) (onward : Program) → Fits onward → Fits (checking object tag now onward)
checking_fits object tag now onward fits =
    asks_fits (FsRead object.fd (tag_offset object.length) 32) [] now _ tag_fits (λ reply. either_fits (brings reply tag) _ _ fits tt)

read_fits : (key : List ℕ) (handle : ℕ) (object : Handle) (len : ℕ) (now : Now) → Fits (read_some key handle object len now)
read_fits key handle object len now =
    either_fits (is_tagged object && nat_lt 0 len) _ _
    (data_fits object (storing_read object len) (pieces object.length) [] now (read_checked key handle object len) (cut_few _ 0 object.length)
    (λ all later. checking_fits object (kept_tag key object all) later (all_read handle object len later) tt))
    (reading_fits handle object len (pieces len) now (cut_few _ 0 len))

length_fits : (handle : ℕ) (object : Handle) (len : ℕ) (now : Now) → Fits (writing_header handle object len now)
length_fits handle object len now =
    either_fits (nat_lt object.length (object.position + len) || not (is_tagged object)) _ _
    (asks_fits (FsWrite object.fd 0 8) (header (new_length object len)) now _ header_fits (λ reply. tt)) tt

writing_fits : (handle : ℕ) (object : Handle) (len : ℕ) (tag : List ℕ) (some : List Piece) (now : Now) → AreFew some →
    Fits (writing handle object len tag some now)
writing_fits handle object len tag [] now few =
    asks_fits (FsWrite object.fd (tag_offset (new_length object len)) 32) tag now _ tag_fits (λ reply. length_fits handle object len now)
writing_fits handle object len tag (piece ∷ others) now few =
    asks_fits (FsWrite object.fd (offset_of (object.position + piece.start)) piece.len) (piece_bytes now.range piece) now _ few.0 (λ reply.
    writing_fits handle object len tag others now few.1)

checked_fits : (key : List ℕ) (handle : ℕ) (object : Handle) (len : ℕ) (content : List ℕ) (now : Now) →
    Fits (write_checked key handle object len content now)
checked_fits key handle object len content now =
    let tag = new_tag key object content (take len now.range) in
    let onward = writing_fits handle object len tag (pieces len) now (cut_few _ 0 len) in
    either_fits (is_tagged object) _ _ (checking_fits object (kept_tag key object content) now (writing handle object len tag (pieces len) now) onward) onward

found_fits : (found : Option Handle) (now : Now) (onward : Handle → Program) → ((object : Handle) → Fits (onward object)) → Fits (on_found found now onward)
found_fits None now onward fits = tt
found_fits (Some object) now onward fits = fits object

opened_fits : (found : Option Header) (name : List ℕ) (number fd : ℕ) (now : Now) → Fits (opened_as found name number fd now)
opened_fits None name number fd now = tt
opened_fits (Some header) name number fd now = tt

number_fits : (number : Option ℕ) (now : Now) (onward : ℕ → Program) → ((number : ℕ) → Fits (onward number)) → Fits (with_number number now onward)
number_fits None now onward fits = tt
number_fits (Some number) now onward fits = fits number

creating_fits : (key name : List ℕ) (now : Now) (number : ℕ) → Fits (creating key name now number)
creating_fits key name now number =
    asks_fits (FsCreate name) name now (λ created. writing_first key name number created.v now) tt (λ created.
    asks_fits (FsWrite created.v 0 40) (first_bytes key name) now (λ written. opened name number created.v empty_object now) first_fits (λ written. tt))

opening_fits : (name : List ℕ) (now : Now) (number : ℕ) → Fits (opening name now number)
opening_fits name now number =
    asks_fits (FsOpen name) name now (λ reply. reading_header name number reply.v now) tt (λ found.
    asks_fits (FsRead found.v 0 8) [] now (λ reply. opened_as (header_in reply) name number found.v now) header_fits (λ reply.
    opened_fits (header_in reply) name number found.v now))

removing_fits : (name : List ℕ) (now : Now) → Fits (removing name now)
removing_fits name now = asks_fits (FsRemove name) name now (λ reply. ends_with 0 now) tt (λ reply. tt)

call_fits : (call : ObjectCall) (uuid key : List ℕ) (now : Now) → Fits (program_of call uuid key now)
call_fits (Create id len) uuid key now =
    let name = file_name uuid now.range in
    either_fits (is_id_length len) (with_number (lowest_free now.objects) now (creating key name now)) (fails 0xffff0006 now)
    (number_fits (lowest_free now.objects) now (creating key name now) (creating_fits key name now)) tt
call_fits (Opened id len) uuid key now =
    let name = file_name uuid now.range in
    either_fits (is_id_length len) (with_number (lowest_free now.objects) now (opening name now)) (fails 0xffff0006 now)
    (number_fits (lowest_free now.objects) now (opening name now) (opening_fits name now)) tt
call_fits (Read handle addr len) uuid key now =
    found_fits (get now.objects handle) now _ (λ object. read_fits key handle object (readable object len) now)
call_fits (Write handle addr len) uuid key now =
    found_fits (get now.objects handle) now _ (λ object.
    either_fits (nat_lt 32768 (object.position + len)) (fails 0xffff0006 now) (write_some key handle object len now) tt
    (either_fits (len == 0) _ _ tt
    (data_fits object storing_none (pieces object.length) [] now (write_checked key handle object len) (cut_few _ 0 object.length)
    (checked_fits key handle object len))))
call_fits (Seek handle position) uuid key now =
    found_fits (get now.objects handle) now _ (λ object.
    either_fits (nat_lt object.length position) (fails 0xffff0006 now)
    (ends_with 0 (with_object now handle (record object { position = position }))) tt tt)
call_fits (Close handle) uuid key now =
    found_fits (get now.objects handle) now _ (λ object.
    (tt, λ reply. let gone = without now handle in either_fits (reply.ret == 0) (ends_with 0 gone) (fails (failure_of reply.ret) gone) tt tt))
call_fits (Delete handle) uuid key now =
    found_fits (get now.objects handle) now _ (λ object. (tt, λ reply. removing_fits object.name (without now handle)))

one_fits : (left : Program) (answer : RpcAnswer) → Fits left → LeftFits (after_one left answer)
one_fits (program.Asks rpc payload now onward) (Replied reply) fits = fits.1 reply
one_fits (program.Asks rpc payload now onward) NoBuffer fits = tt
one_fits (program.Ends step now) answer fits = tt

after_fits : (left : Option Program) (answers : List RpcAnswer) → LeftFits left → LeftFits (after left answers)
after_fits left [] fits = fits
after_fits None (answer ∷ answers) fits = tt
after_fits (Some left) (answer ∷ answers) fits = after_fits (after_one left answer) answers (one_fits left answer fits)

shown_fits : (left : Option Program) (now : Serving) → LeftFits left → option_map shown left ≡ Some now → StepFits now.step
shown_fits None now fits is = absurd cc
shown_fits (Some (program.Asks rpc payload at onward)) now fits is =
    let same : record { step = storage.Ask rpc payload; range = at.range; objects = at.objects } ≡ now = cc in
    subst (λ (one : Serving). StepFits one.step) same fits.0
shown_fits (Some (program.Ends step at)) now fits is =
    let same : record { step = step; range = at.range; objects = at.objects } ≡ now = cc in
    subst (λ (one : Serving). StepFits one.step) same fits

serving_fits : (call : ObjectCall) (uuid key range : List ℕ) (objects : NumberMap Handle) (answers : List RpcAnswer) (now : Serving) →
    serving call uuid key range objects answers ≡ Some now → StepFits now.step
serving_fits call uuid key range objects answers now is =
    shown_fits (left_of call uuid key range objects answers) now
    (after_fits (Some (program_of call uuid key (now_at range objects))) answers (call_fits call uuid key (now_at range objects))) is

-- ---- calls

come_fits : (owner : Owner) (range : List ℕ) (asked : PendingRequest) (cont : Cont (List ℕ)) (wanted : Wish) (pending : Asked) (object : Option ObjectState) →
    HasCome owner range asked cont wanted (Some pending) object → IsRequest pending.rpc
come_fits owner range asked cont request.Time pending None come = subst (λ (one : Asked). IsRequest one.rpc) (sym come.1) tt
come_fits owner range asked cont request.Time pending (Some state) come = absurd come
come_fits owner range asked cont (request.Suspend ms) pending None come = subst (λ (one : Asked). IsRequest one.rpc) (sym come.1) tt
come_fits owner range asked cont (request.Suspend ms) pending (Some state) come = absurd come
come_fits owner range asked cont (request.Object call) pending None come = absurd come
come_fits owner range asked cont (request.Object call) pending (Some state) come =
    serving_fits call owner.uuid owner.key asked.range asked.objects asked.answers
    (record { step = storage.Ask pending.rpc pending.payload; range = range; objects = cont.objects }) come.serves

awaits_fits : (owner : Owner) (cont : Cont (List ℕ)) (pending : Asked) (asked : Option PendingRequest) (machine : Option (AnyMachine (List ℕ))) →
    cont.request ≡ Some pending → IsSomeAnd asked (λ asked. IsSomeAnd machine (λ m. Awaits owner cont asked (state_of bytes_of m))) → IsRequest pending.rpc
awaits_fits owner cont pending None machine is waits = absurd waits
awaits_fits owner cont pending (Some asked) None is waits = absurd waits
awaits_fits owner cont pending (Some asked) (Some m) is waits =
    let span = span_of asked.request in
    let range = bytes_at (state_of bytes_of m) span.0 span.1 in
    come_fits owner range asked cont asked.request pending cont.object
    (subst (λ (one : Option Asked). HasCome owner range asked cont asked.request one cont.object) is waits.come)

-- where a call goes out with a request, that goes to its buffer, and a message has room for it
pub record GoesThere (call : PendingCall) (place : RequestPlace) (request : Request) : Type 0 where
  pub place_is : place_of call request ≡ Some place
  pub fits : IsRequest request.wanted

goes_there : (call : PendingCall) (at : Option RequestPlace) (place : RequestPlace) (one request : Request) → place_of call one ≡ at → IsRequest one.wanted →
    option_map_or (λ place. Requests place one) at WantsBuffer ≡ Requests place request → GoesThere call place request
goes_there call None place one request is fits goes = absurd cc
goes_there call (Some there) place one request is fits goes =
    let same : there ≡ place = cc in
    let it : one ≡ request = cc in
    subst (GoesThere call place) it (record { place_is = is ∙ ap Some same; fits = fits })

asks_there : (call : PendingCall) (place : RequestPlace) (one request : Request) → IsRequest one.wanted → asks_for call one ≡ Requests place request →
    GoesThere call place request
asks_there call place one request fits goes = goes_there call (place_of call one) place one request refl fits goes

goes_nowhere : (buffer : Option RpcBuffer) (last : Leaving) (place : RequestPlace) (request : Request) → (last ≡ Requests place request → ⊥) →
    option_map_or FreesBuffer buffer last ≡ Requests place request → ⊥
goes_nowhere None last place request other goes = other goes
goes_nowhere (Some buffer) last place request other goes = absurd cc

pub goes_in : (slot : ℕ) (cont : Cont (List ℕ)) (call : PendingCall) (at : CallPhase) (place : RequestPlace) (request : Request) →
    IsInPhase cont at → leaving_in slot call at ≡ Requests place request → GoesThere call place request
goes_in slot cont call (Runs job) place request is goes = absurd cc
goes_in slot cont call (Asks job wanted payload) place request is goes =
    asks_there call place (record { wanted = wanted; payload = payload }) request
    (awaits_fits (call_owner cont) cont (record { rpc = wanted; payload = payload }) job.asked cont.machine is.1.1 is.1.0.asked) goes
goes_in slot cont call (Waits params) place request is goes = asks_there call place (plain_request (rpc.Sleep slot)) request tt goes
goes_in slot cont call (Ends result params told (Some woken)) place request is goes = asks_there call place (plain_request (rpc.Wake woken)) request tt goes
goes_in slot cont call (Ends result params told None) place request is goes =
    absurd (goes_nowhere call.buffer (Finishes result params) place request (λ same. absurd cc) goes)

-- A call on an object doesn't panic at an answer.
use Rattle.std.proofs.Common.{◌≡◌, ℕ, List, [], ◌∷◌, ◌++◌, Option, Some, None, Bool, true, false, refl, subst}
use Rattle.std.specs.Prelude.{if◌then◌else◌, ◌==◌, ◌+◌, ◌&&◌, ◌||◌, not, nat_lt, take}
use Rattle.std.specs.Option.{option_and_then}
use Rattle.base.specs.NumberMap.{get}
use Rattle.rpc_msgs.specs.Answer.{RpcAnswer, Replied, NoBuffer}
use Rattle.rpc_msgs.specs.declared.rpc.RpcReply.{RpcReply}
use Rattle.ta_params.specs.declared.codes.TheConstants.{TEE_SUCCESS, TEE_ERROR_BAD_PARAMETERS, TEE_ERROR_OUT_OF_MEMORY}
use Rattle.ta_params.specs.declared.object_call.ObjectCall.{ObjectCall}
use Rattle.ta_params.specs.declared.object_call.ObjectCall.TheVariants.{Create, Opened, Read, Write, Seek, Close, Delete}
use Rattle.tee_storage.specs.declared.handle.Handle.{Handle}
use Rattle.tee_storage.specs.declared.object_file.TheConstants.{MAX_LENGTH}
use Rattle.tee_storage.specs.declared.step.StorageStep.{StorageStep}
use Rattle.tee_storage.specs.declared.step.StorageStep.TheVariants.{Ask, Done, Panic}
use Rattle.tee_storage.specs.declared.object_file.Header.{Header}
use Rattle.tee_storage.specs.Handles.{lowest_free}
use Rattle.tee_storage.specs.KeptData.{Storing, reading_data, storing_none}
use Rattle.tee_storage.specs.ObjectCalls.{program_of}
use Rattle.tee_storage.specs.ObjectFiles.{Piece, is_id_length, file_name, pieces}
use Rattle.tee_storage.specs.OpenObjects.{all_read, new_tag, on_found, read_checked, reading, read_some, readable, storing_read, writing, writing_header, write_checked, write_some, without}
use Rattle.tee_storage.specs.Opening.{with_number, with_handle, creating, header_in, opened_as, opening}
use Rattle.tee_storage.specs.Program.{Now, Program, Asks, Ends, fails, after_one, after}
use Rattle.tee_storage.specs.Replies.{failure_of, is_whole, unless_failed}
use Rattle.tee_storage.specs.Tags.{brings, checking, is_tagged, kept_tag}

-- it has a result
abbrev pub IsDone : StorageStep → Type 0
IsDone (Ask rpc payload) = ⊥
IsDone (Done result value) = Unit {0}
IsDone (Panic code) = ⊥

-- it comes to a result, whatever the replies are
abbrev pub ComesToResult : Program → Type 0
ComesToResult (Asks rpc payload now onward) = (reply : RpcReply) → ComesToResult (onward reply)
ComesToResult (Ends step now) = IsDone step

-- it asks for nothing
abbrev pub IsEnd : StorageStep → Type 0
IsEnd (Ask rpc payload) = ⊥
IsEnd (Done result value) = Unit {0}
IsEnd (Panic code) = Unit {0}

-- behind its first request it does
abbrev pub IsCalm : Program → Type 0
IsCalm (Asks rpc payload now onward) = (reply : RpcReply) → ComesToResult (onward reply)
IsCalm (Ends step now) = IsEnd step

done-ends : (step : StorageStep) → IsDone step → IsEnd step
done-ends (Ask rpc payload) done = absurd done
done-ends (Done result value) done = tt
done-ends (Panic code) done = tt

-- ---- each call

if_comes : (test : Bool) (first second : Program) → ComesToResult first → ComesToResult second → ComesToResult (if test then first else second)
if_comes true first second one two = one
if_comes false first second one two = two

if_calm : (test : Bool) (first second : Program) → IsCalm first → IsCalm second → IsCalm (if test then first else second)
if_calm true first second one two = one
if_calm false first second one two = two

unless_comes : (ret : ℕ) (now : Now) (onward : Program) → ComesToResult onward → ComesToResult (unless_failed ret now onward)
unless_comes ret now onward comes = if_comes (ret == TEE_SUCCESS) onward (fails (failure_of ret) now) comes tt

-- what a request goes on with, where its reply's ret counts
asks_comes : (now : Now) (onward : RpcReply → Program) → ((reply : RpcReply) → ComesToResult (onward reply))
    → (reply : RpcReply) → ComesToResult (unless_failed reply.ret now (onward reply))
asks_comes now onward comes reply = unless_comes reply.ret now (onward reply) (comes reply)

calm-comes : (program : Program) → ComesToResult program → IsCalm program
calm-comes (Asks rpc payload now onward) comes = comes
calm-comes (Ends step now) comes = done-ends step comes

number_calm : (found : Option ℕ) (now : Now) (onward : ℕ → Program) → ((number : ℕ) → ComesToResult (onward number)) → IsCalm (with_number found now onward)
number_calm None now onward comes = tt
number_calm (Some number) now onward comes = calm-comes (onward number) (comes number)

handle_calm : (len : ℕ) (now : Now) (onward : ℕ → Program) → ((number : ℕ) → ComesToResult (onward number)) → IsCalm (with_handle len now onward)
handle_calm len now onward comes =
    if_calm (is_id_length len) (with_number (lowest_free now.objects) now onward) (fails _ now) (number_calm (lowest_free now.objects) now onward comes) tt

opened_comes : (found : Option Header) (name : List ℕ) (number fd : ℕ) (now : Now) → ComesToResult (opened_as found name number fd now)
opened_comes None name number fd now = tt
opened_comes (Some header) name number fd now = tt

creating_comes : (key name : List ℕ) (now : Now) (number : ℕ) → ComesToResult (creating key name now number)
creating_comes key name now number = asks_comes now _ (λ created. asks_comes now _ (λ written. tt))

opening_comes : (name : List ℕ) (now : Now) (number : ℕ) → ComesToResult (opening name now number)
opening_comes name now number =
    asks_comes now _ (λ file. asks_comes now _ (λ reply. opened_comes (header_in reply) name number file.v now))

-- all the data, and what follows behind them
data_comes : (object : Handle) (storing : Storing) (some : List Piece) (content : List ℕ) (now : Now) (onward : List ℕ → Now → Program)
    → ((all : List ℕ) (later : Now) → ComesToResult (onward all later)) → ComesToResult (reading_data object storing some content now onward)
data_comes object storing [] content now onward comes = comes content now
data_comes object storing (piece ∷ others) content now onward comes =
    asks_comes now _ (λ reply. if_comes (is_whole reply piece.len) _ _ (data_comes object storing others _ _ onward comes) tt)

checking_comes : (object : Handle) (tag : List ℕ) (now : Now) (onward : Program) → ComesToResult onward → ComesToResult (checking object tag now onward)
checking_comes object tag now onward comes = asks_comes now _ (λ reply. if_comes (brings reply tag) _ _ comes tt)

reading_comes : (handle : ℕ) (object : Handle) (len : ℕ) (some : List Piece) (now : Now) → ComesToResult (reading handle object len some now)
reading_comes handle object len [] now = tt
reading_comes handle object len (piece ∷ others) now =
    asks_comes now _ (λ reply. if_comes (is_whole reply piece.len) _ _ (reading_comes handle object len others _) tt)

read_comes : (key : List ℕ) (handle : ℕ) (object : Handle) (len : ℕ) (now : Now) → ComesToResult (read_some key handle object len now)
read_comes key handle object len now =
    if_comes (is_tagged object && nat_lt 0 len) _ _
    (data_comes object (storing_read object len) (pieces object.length) [] now (read_checked key handle object len)
    (λ all later. checking_comes object (kept_tag key object all) later (all_read handle object len later) tt))
    (reading_comes handle object len (pieces len) now)

header_comes : (handle : ℕ) (object : Handle) (len : ℕ) (now : Now) → ComesToResult (writing_header handle object len now)
header_comes handle object len now =
    if_comes (nat_lt object.length (object.position + len) || not (is_tagged object)) _ _ (asks_comes now _ (λ reply. tt)) tt

writing_comes : (handle : ℕ) (object : Handle) (len : ℕ) (tag : List ℕ) (some : List Piece) (now : Now) → ComesToResult (writing handle object len tag some now)
writing_comes handle object len tag [] now = asks_comes now _ (λ reply. header_comes handle object len now)
writing_comes handle object len tag (piece ∷ others) now = asks_comes now _ (λ reply. writing_comes handle object len tag others now)

found_calm : (found : Option Handle) (now : Now) (onward : Handle → Program) → ((object : Handle) → ComesToResult (onward object)) → IsCalm (on_found found now onward)
found_calm None now onward comes = tt
found_calm (Some object) now onward comes = calm-comes (onward object) (comes object)

checked_comes : (key : List ℕ) (handle : ℕ) (object : Handle) (len : ℕ) (content : List ℕ) (now : Now) → ComesToResult (write_checked key handle object len content now)
checked_comes key handle object len content now =
    let tag = new_tag key object content (take len now.range) in
    let onward = writing_comes handle object len tag (pieces len) now in
    if_comes (is_tagged object) _ _ (checking_comes object (kept_tag key object content) now (writing handle object len tag (pieces len) now) onward) onward

written_comes : (key : List ℕ) (handle len : ℕ) (now : Now) (object : Handle)
    → ComesToResult (if nat_lt MAX_LENGTH (object.position + len) then fails TEE_ERROR_BAD_PARAMETERS now else write_some key handle object len now)
written_comes key handle len now object =
    if_comes (nat_lt MAX_LENGTH (object.position + len)) _ _ tt
    (if_comes (len == 0) _ _ tt (data_comes object storing_none (pieces object.length) [] now (write_checked key handle object len) (checked_comes key handle object len)))

pub calls-calm : (call : ObjectCall) (uuid key : List ℕ) (now : Now) → IsCalm (program_of call uuid key now)
calls-calm (Create id len) uuid key now = handle_calm len now (creating key (file_name uuid now.range) now) (creating_comes key (file_name uuid now.range) now)
calls-calm (Opened id len) uuid key now = handle_calm len now (opening (file_name uuid now.range) now) (opening_comes (file_name uuid now.range) now)
calls-calm (Read handle addr len) uuid key now =
    found_calm (get now.objects handle) now _ (λ object. read_comes key handle object (readable object len) now)
calls-calm (Write handle addr len) uuid key now = found_calm (get now.objects handle) now _ (λ object. written_comes key handle len now object)
calls-calm (Seek handle position) uuid key now = found_calm (get now.objects handle) now _ (λ object. if_comes (nat_lt object.length position) _ _ tt tt)
calls-calm (Close handle) uuid key now = found_calm (get now.objects handle) now _ (λ object. λ reply. unless_comes reply.ret (without now handle) _ tt)
calls-calm (Delete handle) uuid key now =
    found_calm (get now.objects handle) now _ (λ object. λ reply. asks_comes (without now handle) _ (λ removed. tt))

-- ---- after answers

-- what is left after one answer
pub one_calm : (program left : Program) (answer : RpcAnswer) → IsCalm program → after_one program answer ≡ Some left → ComesToResult left
one_calm (Asks rpc payload now onward) left (Replied reply) calm e =
    let same : onward reply ≡ left = cc in
    subst ComesToResult same (calm reply)
one_calm (Asks rpc payload now onward) left NoBuffer calm e =
    let ended : Program = fails TEE_ERROR_OUT_OF_MEMORY now in
    let same : ended ≡ left = cc in
    subst ComesToResult same tt
one_calm (Ends step now) left answer calm e = absurd cc

same_program : (first second : Program) → Some first ≡ Some second → first ≡ second
same_program first second e = cc

later_calm : (o : Option Program) (answers : List RpcAnswer) (left : Program) → ((program : Program) → o ≡ Some program → IsCalm program)
    → after o answers ≡ Some left → IsCalm left
later_calm o [] left calm e = calm left e
later_calm None (answer ∷ answers) left calm e = absurd cc
later_calm (Some program) (answer ∷ answers) left calm e =
    later_calm (after_one program answer) answers left
    (λ next is. calm-comes next (one_calm program next answer (calm program refl) is)) e

pub left-calm : (call : ObjectCall) (uuid key : List ℕ) (now : Now) (answers : List RpcAnswer) (left : Program)
    → after (Some (program_of call uuid key now)) answers ≡ Some left → IsCalm left
left-calm call uuid key now answers left e =
    let program = program_of call uuid key now in
    later_calm (Some program) answers left (λ other is. subst IsCalm (same_program program other is) (calls-calm call uuid key now)) e

pub after-append : (o : Option Program) (answers : List RpcAnswer) (answer : RpcAnswer)
    → after o (answers ++ answer ∷ []) ≡ option_and_then (λ program. after_one program answer) (after o answers)
after-append None [] answer = refl
after-append (Some program) [] answer = refl
after-append None (first ∷ answers) answer = refl
after-append (Some program) (first ∷ answers) answer = after-append (after_one program first) answers answer

-- What is found in a message is a request that it holds, and one that it holds is found, of whatever numbers it consists.
use Rattle.std.proofs.Common.{◌≡◌, ℕ, zero, suc, ◌+◌, ◌*◌, ◌/◌, ◌<◌, ◌≤◌, ◌^◌, ◌&&◌, Bool, true, false, cond, List, [], ◌∷◌, ◌++◌, length, take, drop, Option, Some, None, refl, sym, ap, ◌∙◌, arith, length-append, length-take, length-take-le, take-take, mod-lt}
use Rattle.std.specs.Prelude.{IfSome, Result, Ok, Err, nat_le}
use Rattle.std.specs.Int.{bytes_low_first, byte_at, to_le_bytes, w32, w64}
use Rattle.std.specs.List.{flat_map}
use Rattle.std.specs.Option.{option_and_then}
use Rattle.std.specs.Result.{result_ok}
use Rattle.std.proofs.lemmas.Bool.{and_from, le-leb, leb-true}
use Rattle.std.proofs.lemmas.Slice.Eq.{bytes_eq-Decides}
use Rattle.base.proofs.Numbers.{IsBytes}
use Rattle.msg_args.specs.declared.arg.Misshapen.{Misshapen}
use Rattle.msg_args.specs.declared.arg.MsgArg.{MsgArg}
use Rattle.msg_args.specs.declared.head.MsgHead.{MsgHead}
use Rattle.msg_args.specs.declared.param.MsgParam.{MsgParam}
use Rattle.msg_args.specs.Attribute.{attribute}
use Rattle.msg_args.specs.Layout.{argument_len}
use Rattle.msg_args.specs.Reading.{argument, head_at}
use Rattle.msg_args.specs.Spelling.{FitsHead, IsArgument, head_bytes, param_bytes, spelling}
use Rattle.msg_args.proofs.Heads.{head_again}
use Rattle.msg_args.proofs.Pieces.{length-flat_map_params}
use Rattle.msg_args.proofs.Spellings.{argument_spells, spelled_is_read}
use Rattle.rpc_msgs.specs.declared.rpc.Rpc.{Rpc}
use Rattle.rpc_msgs.specs.declared.rpc.Rpc.TheVariants.{Time, Sleep, Wake, Suspend, FsOpen, FsCreate, FsClose, FsRead, FsWrite, FsRemove}
use Rattle.rpc_msgs.specs.Request.{IsPayloadOf, IsRequest, argument as with_params, payload_in as bytes_in, payload_out as bytes_out, request_arg, value_in, value_out}
use Rattle.supplicant.specs.Candidate.{front_of, rpc_in}
use Rattle.supplicant.specs.Holding.{BeginsWith, Holds, IsValue}
use Rattle.supplicant.proofs.Arguments.{counted}
use Rattle.supplicant.proofs.Candidates.{count_there, front_only, rpc_again, spelled_there}
use Rattle.supplicant.proofs.Finding.{FindsArguments, argument_found, its_value}
use Rattle.teec.specs.Places.{message_at, message_cookie}
use Rattle.client_play.specs.Message.{Request, argument_in, begins_with, if_held, payload_in, request_in, request_with}

-- ---- a spelling consists of bytes

bytes_none : IsBytes []
bytes_none i = omega arith

bytes_cons : (b : ℕ) (bytes : List ℕ) → b < 256 → IsBytes bytes → IsBytes (b ∷ bytes)
bytes_cons b bytes small fits zero = small
bytes_cons b bytes small fits (suc i) = fits i

bytes_append : (front rest : List ℕ) → IsBytes front → IsBytes rest → IsBytes (front ++ rest)
bytes_append [] rest fits others = others
bytes_append (b ∷ front) rest fits others =
    bytes_cons b (front ++ rest) (fits 0) (bytes_append front rest (λ i. fits (suc i)) others)

byte_small : (i n : ℕ) → byte_at i n < 256
byte_small zero n = mod-lt n (omega arith)
byte_small (suc i) n = mod-lt (n / 256 ^ suc i) (omega arith)

number_bytes : (i count n : ℕ) → IsBytes (bytes_low_first i count n)
number_bytes i zero n = bytes_none
number_bytes i (suc count) n =
    bytes_cons (byte_at i n) (bytes_low_first (suc i) count n) (byte_small i n) (number_bytes (suc i) count n)

all_bytes : {A : Type 0} (f : A → List ℕ) → ((x : A) → IsBytes (f x)) → (xs : List A) → IsBytes (flat_map f xs)
all_bytes f each [] = bytes_none
all_bytes f each (x ∷ xs) = bytes_append (f x) (flat_map f xs) (each x) (all_bytes f each xs)

head_is : (h : MsgHead) → IsBytes (head_bytes h)
head_is h =
    all_bytes (to_le_bytes w32) (number_bytes 0 4)
    (h.cmd ∷ h.func ∷ h.session ∷ h.cancel_id ∷ h.pad ∷ h.ret ∷ h.origin ∷ h.count ∷ [])

param_is : (m : MsgParam) → IsBytes (param_bytes m)
param_is m = all_bytes (to_le_bytes w64) (number_bytes 0 8) (attribute m ∷ m.p ∷ m.q ∷ m.s ∷ [])

spelling_bytes : (a : MsgArg) → IsBytes (spelling a)
spelling_bytes a =
    bytes_append (head_bytes a.head) (flat_map param_bytes a.params.items)
    (head_is a.head) (all_bytes param_bytes param_is a.params.items)

-- ---- the argument at the start of a message that begins with the bytes of a request

some_head : (cmd : ℕ) (params : List MsgParam) → cmd < 2 ^ 32 → length params ≤ 3 → FitsHead (with_params cmd params).head
some_head cmd params small few = record {
  cmd = small;
  func = omega arith;
  session = omega arith;
  cancel_id = omega arith;
  pad = omega arith;
  ret = omega arith;
  origin = omega arith;
  count = omega arith;
}

fits_head : (rpc : Rpc) → FitsHead (request_arg message_at message_cookie rpc).head
fits_head Time = some_head 3 (value_out ∷ []) (omega arith) (omega arith)
fits_head (Sleep key) = some_head 4 (value_in 0 key 0 ∷ []) (omega arith) (omega arith)
fits_head (Wake key) = some_head 4 (value_in 1 key 0 ∷ []) (omega arith) (omega arith)
fits_head (Suspend ms) = some_head 5 (value_in ms 0 0 ∷ []) (omega arith) (omega arith)
fits_head (FsOpen name) =
    some_head 2 (value_in 0 0 0 ∷ bytes_in message_at message_cookie (length name) ∷ value_out ∷ []) (omega arith) (omega arith)
fits_head (FsCreate name) =
    some_head 2 (value_in 1 0 0 ∷ bytes_in message_at message_cookie (length name) ∷ value_out ∷ []) (omega arith) (omega arith)
fits_head (FsClose fd) = some_head 2 (value_in 2 fd 0 ∷ []) (omega arith) (omega arith)
fits_head (FsRead fd offset len) =
    some_head 2 (value_in 3 fd offset ∷ bytes_out message_at message_cookie len ∷ []) (omega arith) (omega arith)
fits_head (FsWrite fd offset len) =
    some_head 2 (value_in 4 fd offset ∷ bytes_in message_at message_cookie len ∷ []) (omega arith) (omega arith)
fits_head (FsRemove name) =
    some_head 2 (value_in 6 0 0 ∷ bytes_in message_at message_cookie (length name) ∷ []) (omega arith) (omega arith)

-- as many bytes as its head says are the spelling
front_is : (message : List ℕ) (a : MsgArg) → FitsHead a.head → a.head.count ≡ length a.params.items
    → take (length (spelling a)) message ≡ spelling a
    → take (argument_len (head_at (take 32 message)).count) message ≡ spelling a
front_is message a fits count begins =
    let len : length (spelling a) ≡ 32 + 32 * a.head.count = omega
    (arith, count, length-append (head_bytes a.head) (flat_map param_bytes a.params.items), length-flat_map_params a.params.items) in
    let front : take 32 (take (length (spelling a)) message) ≡ take 32 message = take-take 32 (length (spelling a)) message (omega (arith, len)) in
    let head : head_at (take 32 message) ≡ a.head = ap head_at (sym front ∙ ap (take 32) begins) ∙ head_again a.head fits in
    ap (λ (n : ℕ). take n message) (ap (λ (h : MsgHead). argument_len h.count) head ∙ sym len) ∙ begins

ok_of : (read : Result MsgArg Misshapen) (a : MsgArg) → result_ok read ≡ Some a → read ≡ Ok a
ok_of (Ok b) a e = let same : b ≡ a = cc in ap Ok same
ok_of (Err fault) a e = absurd cc

-- so what is read there is an argument
is_argument : (message : List ℕ) (rpc : Rpc) (found : MsgArg)
    → take (length (spelling (request_arg message_at message_cookie rpc))) message ≡ spelling (request_arg message_at message_cookie rpc)
    → argument_in message ≡ Some found → IsArgument found
is_argument message rpc found begins is =
    let a = request_arg message_at message_cookie rpc in
    let front = front_is message a (fits_head rpc) (counted message_at message_cookie rpc) begins in
    let read : argument (spelling a) ≡ Ok found = ap argument (sym front) ∙ ok_of (argument (take (argument_len (head_at (take 32 message)).count) message)) found is in
    (argument_spells (spelling a) found (spelling_bytes a) read).valid

-- ---- what is found is held

abbrev pub IsHeld : List ℕ → Request → Type 0
IsHeld message request = Holds message message_at message_cookie request.0 request.1

begun : (bytes front : List ℕ) → begins_with bytes front ≡ true → take (length front) bytes ≡ front
begun bytes front test = (bytes_eq-Decides (take (length front) bytes) front).0 test

begins : (bytes front : List ℕ) → take (length front) bytes ≡ front → begins_with bytes front ≡ true
begins bytes front there = (bytes_eq-Decides (take (length front) bytes) front).1 there

-- the values of a request are right where the message has its bytes
abbrev HasValues : List ℕ → Rpc → Type 0
HasValues message rpc =
    take (length (spelling (request_arg message_at message_cookie rpc))) message ≡ spelling (request_arg message_at message_cookie rpc)
    → IsValue rpc

of_tests : (message : List ℕ) (rpc : Rpc) (payload : List ℕ) (first second : Bool)
    → begins_with message (spelling (request_arg message_at message_cookie rpc)) ≡ first
    → begins_with (drop 512 message) payload ≡ second
    → HasValues message rpc → IsRequest rpc → IsPayloadOf rpc payload
    → IfSome (cond (first && second) (Some (rpc, payload)) None) (IsHeld message)
unfolding BeginsWith
of_tests message rpc payload true true one two values request is =
    let there = begun message (spelling (request_arg message_at message_cookie rpc)) one in
    record {
      value = values there;
      request = request;
      payload_of = is;
      bytes = record { argument = there; bytes = begun (drop 512 message) payload two };
    }
of_tests message rpc payload true false one two values request is = tt
of_tests message rpc payload false second one two values request is = tt

of_payload : (message : List ℕ) (rpc : Rpc) → HasValues message rpc → (found : Option (List ℕ))
    → IfSome found (λ payload. IsRequest rpc × IsPayloadOf rpc payload)
    → IfSome (option_and_then (if_held message rpc) found) (IsHeld message)
of_payload message rpc values None is = tt
of_payload message rpc values (Some payload) is =
    of_tests message rpc payload
    (begins_with message (spelling (request_arg message_at message_cookie rpc)))
    (begins_with (drop 512 message) payload)
    refl refl values is.0 is.1

to_read : (len : ℕ) (room : Bool) → nat_le len 3584 ≡ room
    → IfSome (cond room (Some []) None) (λ (payload : List ℕ). (len ≤ 3584) × (payload ≡ []))
to_read len true is = (leb-true len 3584 is, refl)
to_read len false is = tt

to_write : (bytes : List ℕ) (len : ℕ) (whole room : Bool) → nat_le len (length bytes) ≡ whole → nat_le len 3584 ≡ room
    → IfSome (cond whole (cond room (Some (take len bytes)) None) None) (λ payload. (len ≤ 3584) × (length payload ≡ len))
to_write bytes len true true there is =
    (leb-true len 3584 is, length-take-le len bytes (leb-true len (length bytes) there))
to_write bytes len true false there is = tt
to_write bytes len false room there is = tt

payload_is : (rpc : Rpc) (bytes : List ℕ) → IfSome (payload_in rpc bytes) (λ payload. IsRequest rpc × IsPayloadOf rpc payload)
payload_is Time bytes = (tt, refl)
payload_is (Sleep key) bytes = (tt, refl)
payload_is (Wake key) bytes = (tt, refl)
payload_is (Suspend ms) bytes = (tt, refl)
payload_is (FsOpen name) bytes = (tt, refl)
payload_is (FsCreate name) bytes = (tt, refl)
payload_is (FsClose fd) bytes = (tt, refl)
payload_is (FsRead fd offset len) bytes = to_read len (nat_le len 3584) refl
payload_is (FsWrite fd offset len) bytes = to_write bytes len (nat_le len (length bytes)) (nat_le len 3584) refl refl
payload_is (FsRemove name) bytes = (tt, refl)

of_rpc : (message : List ℕ) (found : Option Rpc) → ((rpc : Rpc) → found ≡ Some rpc → HasValues message rpc)
    → IfSome (option_and_then (request_with message) found) (IsHeld message)
of_rpc message None values = tt
of_rpc message (Some rpc) values =
    of_payload message rpc (values rpc refl) (payload_in rpc (drop 512 message)) (payload_is rpc (drop 512 message))

of_argument : (message : List ℕ) (found : Option MsgArg) → argument_in message ≡ found
    → IfSome (option_and_then (λ arg. option_and_then (request_with message) (rpc_in arg (drop 512 message))) found) (IsHeld message)
of_argument message None is = tt
of_argument message (Some arg) is =
    of_rpc message (rpc_in arg (drop 512 message)) (λ rpc named begins.
    its_value (rpc_in arg (drop 512 message)) arg (drop 512 message) rpc refl (is_argument message rpc arg begins is) named)

pub found_is_held : (message : List ℕ) → IfSome (request_in message) (IsHeld message)
found_is_held message = of_argument message (argument_in message) refl

-- ---- what is held is found

finds_arguments : (message : List ℕ) → FindsArguments message (argument_in message)
finds_arguments message arg valid few begins =
    let head = head_at (take 32 message) in
    let count = count_there message arg valid begins (take 32 message) head refl refl in
    let spells = spelled_there message arg valid begins (take (argument_len head.count) message) head.count refl count in
    ap result_ok (spelled_is_read (take (argument_len head.count) message) arg spells)

written_found : (bytes payload : List ℕ) (len : ℕ) → len ≤ 3584 → length payload ≡ len → take (length payload) bytes ≡ payload
    → cond (nat_le len (length bytes)) (front_of bytes len) None ≡ Some payload
written_found bytes payload len room is there =
    let whole : len ≤ length bytes = let cut = ap (λ (part : List ℕ). length part) there in
    omega (arith, length-take (length payload) bytes, cut, is) in
    ap (λ (test : Bool). cond test (front_of bytes len) None) (le-leb len (length bytes) whole)
    ∙ front_only bytes payload len room is there

payload_found : (rpc : Rpc) (bytes payload : List ℕ) → IsRequest rpc → IsPayloadOf rpc payload → take (length payload) bytes ≡ payload
    → payload_in rpc bytes ≡ Some payload
payload_found Time bytes payload request is there = ap Some (sym is)
payload_found (Sleep key) bytes payload request is there = ap Some (sym is)
payload_found (Wake key) bytes payload request is there = ap Some (sym is)
payload_found (Suspend ms) bytes payload request is there = ap Some (sym is)
payload_found (FsOpen name) bytes payload request is there = ap Some (sym is)
payload_found (FsCreate name) bytes payload request is there = ap Some (sym is)
payload_found (FsClose fd) bytes payload request is there = ap Some (sym is)
payload_found (FsRead fd offset len) bytes payload request is there =
    ap (λ (test : Bool). cond test (Some []) None) (le-leb len 3584 request) ∙ ap Some (sym is)
payload_found (FsWrite fd offset len) bytes payload request is there = written_found bytes payload len request is there
payload_found (FsRemove name) bytes payload request is there = ap Some (sym is)

pub held_is_found : (message : List ℕ) (rpc : Rpc) (payload : List ℕ) → Holds message message_at message_cookie rpc payload
    → request_in message ≡ Some (rpc, payload)
unfolding BeginsWith
held_is_found message rpc payload holds =
    let bytes = drop 512 message in
    let argument_is =
    argument_found message (argument_in message) message_at message_cookie rpc payload (finds_arguments message) (omega arith) (omega arith) holds in
    let named = rpc_again message_at message_cookie rpc bytes payload holds.value holds.payload_of holds.bytes.bytes in
    let payload_there = payload_found rpc bytes payload holds.request holds.payload_of holds.bytes.bytes in
    let both = and_from _ _ (begins message (spelling (request_arg message_at message_cookie rpc)) holds.bytes.argument)
    (begins bytes payload holds.bytes.bytes) in
    ap (λ (o : Option MsgArg). option_and_then (λ arg. option_and_then (request_with message) (rpc_in arg bytes)) o) argument_is
    ∙ ap (λ (o : Option Rpc). option_and_then (request_with message) o) named
    ∙ ap (λ (o : Option (List ℕ)). option_and_then (if_held message rpc) o) payload_there
    ∙ ap (λ (test : Bool). cond test (Some (rpc, payload)) None) both

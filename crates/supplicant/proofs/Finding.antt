-- What is found of a message that holds a request, step by step.
use Rattle.std.proofs.Common.{◌≡◌, ℕ, ◌+◌, ◌-◌, ◌<◌, ◌≤◌, ◌^◌, List, length, take, drop, Option, Some, None, sym, subst, ap, ◌∙◌, arith}
use Rattle.std.specs.Prelude.{IfSome}
use Rattle.std.proofs.lemmas.List.{length-drop, take_all}
use Rattle.msg_args.specs.declared.arg.MsgArg.{MsgArg}
use Rattle.msg_args.specs.Spelling.{IsArgument}
use Rattle.rpc_msgs.specs.declared.rpc.Rpc.{Rpc}
use Rattle.rpc_msgs.specs.Request.{IsPayloadOf, IsRequest, request_arg}
use Rattle.supplicant.specs.declared.request.Request.{Request}
use Rattle.supplicant.specs.Candidate.{rpc_in}
use Rattle.supplicant.specs.Holding.{BeginsWith, Holds, HoldsBytes, IsValue}
use Rattle.supplicant.proofs.Arguments.{at_most_three, is_argument}
use Rattle.supplicant.proofs.Candidates.{rpc_again}
use Rattle.supplicant.proofs.Values.{rpc_values}

-- what `argument_in` promises of what it finds
abbrev pub FindsArguments : List ℕ → Option MsgArg → Type 0
FindsArguments message found =
    (arg : MsgArg) → IsArgument arg → arg.head.count ≤ 3 → BeginsWith message arg → found ≡ Some arg

pub argument_found : (message : List ℕ) (found : Option MsgArg) (buffer cookie : ℕ) (rpc : Rpc) (payload : List ℕ) → FindsArguments message found → buffer + 512 < 2 ^ 64 → cookie < 2 ^ 64 →
    Holds message buffer cookie rpc payload → found ≡ Some (request_arg buffer cookie rpc)
argument_found message found buffer cookie rpc payload finds room small holds =
    finds (request_arg buffer cookie rpc) (is_argument buffer cookie room small rpc holds.value) (at_most_three buffer cookie rpc) holds.bytes.argument

pub missed : {A C : Type 0} (found : Option A) (x : A) → found ≡ None → found ≡ Some x → C
missed found x none some = let both : None ≡ Some x = sym none ∙ some in absurd cc

pub the_same : {A : Type 0} (found : Option A) (x y : A) → found ≡ Some x → found ≡ Some y → x ≡ y
the_same found x y one other = cc

pub rpc_found : (message : List ℕ) (found : Option MsgArg) (arg : MsgArg) (buffer cookie : ℕ) (rpc : Rpc) (payload : List ℕ) → found ≡ Some arg → found ≡ Some (request_arg buffer cookie rpc) →
    Holds message buffer cookie rpc payload → rpc_in arg (drop 512 message) ≡ Some rpc
rpc_found message found arg buffer cookie rpc payload was is holds =
    let same = the_same found arg (request_arg buffer cookie rpc) was is in
    subst (λ a. rpc_in a (drop 512 message) ≡ Some rpc) (sym same)
    (rpc_again buffer cookie rpc (drop 512 message) payload holds.value holds.payload_of holds.bytes.bytes)

-- what `with_payload` promises
abbrev pub FindsPayloads : Rpc → List ℕ → Option Request → Type 0
FindsPayloads rpc bytes found =
    (payload : List ℕ) → IsRequest rpc → IsPayloadOf rpc payload → take (length payload) bytes ≡ payload → found ≡ Some (record { rpc = rpc; payload = payload })

pub request_found : (message : List ℕ) (named : Option Rpc) (candidate : Rpc) (found : Option Request) (buffer cookie : ℕ) (rpc : Rpc) (payload : List ℕ) → named ≡ Some candidate → named ≡ Some rpc → FindsPayloads candidate (drop 512 message) found →
    Holds message buffer cookie rpc payload → found ≡ Some (record { rpc = rpc; payload = payload })
request_found message named candidate found buffer cookie rpc payload was is finds holds =
    let same = the_same named candidate rpc was is in
    subst (λ r. FindsPayloads r (drop 512 message) found) same finds payload holds.request holds.payload_of holds.bytes.bytes

-- ---- the same, of the bytes behind the argument as a slice has them

pub behind : (message : List ℕ) → take (length message - 512) (drop 512 message) ≡ drop 512 message
behind message = take_all (length message - 512) (drop 512 message) (omega (arith, length-drop 512 message))

pub named_again : (message : List ℕ) (found : Option MsgArg) (arg : MsgArg) (named : Option Rpc) (buffer cookie : ℕ) (rpc : Rpc) (payload : List ℕ) → named ≡ rpc_in arg (take (length message - 512) (drop 512 message)) → FindsArguments message found → found ≡ Some arg → buffer + 512 < 2 ^ 64 → cookie < 2 ^ 64 →
    Holds message buffer cookie rpc payload → named ≡ Some rpc
named_again message found arg named buffer cookie rpc payload is finds was room small holds =
    is ∙ ap (rpc_in arg) (behind message)
    ∙ rpc_found message found arg buffer cookie rpc payload was (argument_found message found buffer cookie rpc payload finds room small holds) holds

pub found_again : (message : List ℕ) (named : Option Rpc) (candidate : Rpc) (found : Option Request) (buffer cookie : ℕ) (rpc : Rpc) (payload : List ℕ) → named ≡ Some candidate → named ≡ Some rpc → FindsPayloads candidate (take (length message - 512) (drop 512 message)) found →
    Holds message buffer cookie rpc payload → found ≡ Some (record { rpc = rpc; payload = payload })
found_again message named candidate found buffer cookie rpc payload was is finds holds =
    request_found message named candidate found buffer cookie rpc payload was is (subst (λ bytes. FindsPayloads candidate bytes found) (behind message) finds) holds

-- ---- what is found

of_some : (named : Option Rpc) (rpc : Rpc) → named ≡ Some rpc → IfSome named (λ r. IsValue r) → IsValue rpc
of_some (Some r) rpc is value = let same : r ≡ rpc = cc in subst IsValue same value
of_some None rpc is value = absurd cc

pub its_value : (named : Option Rpc) (arg : MsgArg) (bytes : List ℕ) (rpc : Rpc) → named ≡ rpc_in arg bytes → IsArgument arg → named ≡ Some rpc → IsValue rpc
its_value named arg bytes rpc is valid was = of_some (rpc_in arg bytes) rpc (sym is ∙ was) (rpc_values arg bytes valid)

pub is_valued : (found : Option Request) (rpc : Rpc) → IsValue rpc → IfSome found (λ request. (request.rpc ≡ rpc) × IsRequest rpc × IsPayloadOf rpc request.payload) →
    IfSome found (λ request. IsValue request.rpc × IsRequest request.rpc × IsPayloadOf request.rpc request.payload)
is_valued (Some request) rpc value is =
    subst (λ r. IsValue r × IsRequest r × IsPayloadOf r request.payload) (sym is.0) (value, is.1, is.2)
is_valued None rpc value is = tt

-- a request with its payload
abbrev pub request_of : Rpc → List ℕ → Option Request
request_of rpc payload = Some (record { rpc = rpc; payload = payload })

pub its_bytes : (message : List ℕ) (buffer cookie : ℕ) (found : Option Request) (request : Request) (rpc : Rpc) (payload : List ℕ) → found ≡ Some request → found ≡ request_of rpc payload →
    Holds message buffer cookie rpc payload → HoldsBytes message buffer cookie request.rpc request.payload
its_bytes message buffer cookie found request rpc payload was is holds =
    let same = the_same found request (record { rpc = rpc; payload = payload }) was is in
    subst (λ r. HoldsBytes message buffer cookie r.rpc r.payload) (sym same) holds.bytes

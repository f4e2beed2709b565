-- A message begins with the bytes of a request, and its payload with the request's: two tests say so.
use Rattle.std.proofs.Common.{◌≡◌, ℕ, ◌-◌, Bool, true, false, List, length, take, drop, sym, ap, ◌∙◌}
use Rattle.std.specs.Prelude.{IsTrue, nat_eq, ◌↔◌}
use Rattle.std.specs.List.{starts_with}
use Rattle.std.proofs.lemmas.Slice.Eq.{bytes_eq-Decides}
use Rattle.msg_args.specs.Spelling.{spelling}
use Rattle.rpc_msgs.specs.declared.rpc.Rpc.{Rpc}
use Rattle.rpc_msgs.specs.Request.{request_arg}
use Rattle.supplicant.specs.Holding.{BeginsWith, HoldsBytes}
use Rattle.supplicant.proofs.Finding.{behind}

begins : (bytes front : List ℕ) → starts_with nat_eq bytes front ≡ true → take (length front) bytes ≡ front
begins bytes front test = sym ((bytes_eq-Decides front (take (length front) bytes)).0 test)

pub begun : (bytes front : List ℕ) → take (length front) bytes ≡ front → starts_with nat_eq bytes front ≡ true
begun bytes front there = (bytes_eq-Decides front (take (length front) bytes)).1 (sym there)

-- both tests pass
pub both_begin : (message front payload : List ℕ) (buffer cookie : ℕ) (rpc : Rpc) → front ≡ spelling (request_arg buffer cookie rpc) →
    starts_with nat_eq message front ≡ true → starts_with nat_eq (drop 512 message) payload ≡ true → HoldsBytes message buffer cookie rpc payload
unfolding BeginsWith
both_begin message front payload buffer cookie rpc is first second = record {
  argument = rw is at (begins message front first);
  bytes = begins (drop 512 message) payload second;
}

pub argument_begins : (message front payload : List ℕ) (buffer cookie : ℕ) (rpc : Rpc) → front ≡ spelling (request_arg buffer cookie rpc) →
    HoldsBytes message buffer cookie rpc payload → starts_with nat_eq message front ≡ true
unfolding BeginsWith
argument_begins message front payload buffer cookie rpc is holds =
    begun message front (ap (λ bytes. take (length bytes) message) is ∙ holds.argument ∙ sym is)

pub payload_begins : (message payload : List ℕ) (buffer cookie : ℕ) (rpc : Rpc) → HoldsBytes message buffer cookie rpc payload →
    starts_with nat_eq (drop 512 message) payload ≡ true
payload_begins message payload buffer cookie rpc holds = begun (drop 512 message) payload holds.bytes

-- what the second test says where the first has passed
pub second_tells : (message front bytes payload : List ℕ) (buffer cookie : ℕ) (rpc : Rpc) (second : Bool) → front ≡ spelling (request_arg buffer cookie rpc) → starts_with nat_eq message front ≡ true → bytes ≡ payload → second ≡ starts_with nat_eq (take (length message - 512) (drop 512 message)) bytes →
    (IsTrue second ↔ HoldsBytes message buffer cookie rpc payload)
second_tells message front bytes payload buffer cookie rpc second is first same told =
    let test : second ≡ starts_with nat_eq (drop 512 message) payload =
    told ∙ ap (λ part. starts_with nat_eq part bytes) (behind message) ∙ ap (λ p. starts_with nat_eq (drop 512 message) p) same in
    (λ tested. both_begin message front payload buffer cookie rpc is first (sym test ∙ tested), λ holds. test ∙ payload_begins message payload buffer cookie rpc holds)

-- where the first fails
pub first_fails : (message front payload : List ℕ) (buffer cookie : ℕ) (rpc : Rpc) (first : Bool) → front ≡ spelling (request_arg buffer cookie rpc) → first ≡ starts_with nat_eq message front → first ≡ false →
    (IsTrue first ↔ HoldsBytes message buffer cookie rpc payload)
first_fails message front payload buffer cookie rpc first is told fails =
    (λ tested. let both : false ≡ true = sym fails ∙ tested in absurd cc, λ holds. told ∙ argument_begins message front payload buffer cookie rpc is holds)

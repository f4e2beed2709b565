-- The candidate of a message that holds a request is that request.
use Rattle.std.proofs.Common.{◌≡◌, ℕ, suc, ◌+◌, ◌*◌, ◌<◌, ◌≤◌, ◌^◌, ◌&&◌, Bool, true, false, cond, List, [], ◌∷◌, length, take, Some, None, refl, sym, subst, ap, ◌∙◌, arith, length-append}
use Rattle.std.specs.Prelude.{IfOk, IfSome, IsOk, Result, Ok, Err, nat_le, nat_lt, ◌↔◌}
use Rattle.std.specs.List.{flat_map, list_all}
use Rattle.std.specs.Option.{option_map}
use Rattle.std.specs.Result.{result_ok}
use Rattle.std.specs.Str.{IsAscii}
use Rattle.std.proofs.lemmas.Bool.{le-leb, leb-true, lt-leb, lt-ltb, ltb-true}
use Rattle.std.proofs.lemmas.List.{length-take, length-take-le, take-take}
use Rattle.std.proofs.lemmas.Str.Ascii.{IsAscii-cons, IsAscii-nil}
use Rattle.msg_args.specs.declared.arg.MsgArg.{MsgArg}
use Rattle.msg_args.specs.declared.head.MsgHead.{MsgHead}
use Rattle.msg_args.specs.declared.param.MsgParam.{MsgParam}
use Rattle.msg_args.specs.Reading.{head_at}
use Rattle.msg_args.specs.Spelling.{IsArgument, head_bytes, param_bytes, spelling, Spells}
use Rattle.msg_args.proofs.Heads.{head_again}
use Rattle.msg_args.proofs.Pieces.{length-flat_map_params}
use Rattle.rpc_msgs.specs.declared.rpc.Rpc.{Rpc}
use Rattle.rpc_msgs.specs.declared.rpc.Rpc.TheVariants.{Time, Sleep, Wake, Suspend, FsOpen, FsCreate, FsClose, FsRead, FsWrite, FsRemove}
use Rattle.rpc_msgs.specs.FileName.{IsFileName}
use Rattle.rpc_msgs.specs.Request.{IsPayloadOf, request_arg}
use Rattle.supplicant.specs.Candidate.{front_of, is_file_name, len_in, name_in, of_command, of_params, rpc_in, u32_in}
use Rattle.supplicant.specs.Holding.{BeginsWith, IsValue}

-- ---- numbers and names

u32_again : (n : ℕ) → n < 2 ^ 32 → u32_in n ≡ Some n
u32_again n small = rw (lt-ltb n 0x100000000 small) refl

ascii_test : (bytes : List ℕ) → IsAscii bytes → list_all (λ byte. nat_lt byte 128) bytes ≡ true
ascii_test [] ascii = refl
ascii_test (b ∷ bytes) ascii = rw (lt-ltb b 128 (ascii 0)) (ascii_test bytes (λ i. ascii (suc i)))

parts : (a b : Bool) → (a && b) ≡ true → (a ≡ true) × (b ≡ true)
parts true b both = (refl, both)
parts false b both = absurd cc

test_ascii : (bytes : List ℕ) → list_all (λ byte. nat_lt byte 128) bytes ≡ true → IsAscii bytes
test_ascii [] all = IsAscii-nil
test_ascii (b ∷ bytes) all =
    let both = parts (nat_lt b 128) (list_all (λ byte. nat_lt byte 128) bytes) all in
    IsAscii-cons b bytes (ltb-true b 128 both.0) (test_ascii bytes both.1)

pub name_test : (name : List ℕ) → IsFileName name → is_file_name name ≡ true
name_test name is = rw (le-leb (length name) 161 is.few) (ascii_test name is.ascii)

pub test_name : (name : List ℕ) → is_file_name name ≡ true → IsFileName name
test_name name test =
    let both = parts (nat_le (length name) 161) (list_all (λ byte. nat_lt byte 128) name) test in
    record { few = leb-true (length name) 161 both.0; ascii = test_ascii name both.1 }

name_again : (payload name : List ℕ) → IsFileName name → take (length name) payload ≡ name → name_in payload (length name) ≡ Some name
name_again payload name is there =
    ap (λ bytes. cond (is_file_name bytes) (Some bytes) None) there ∙ ap (λ test. cond test (Some name) None) (name_test name is)

-- the name that a try at these bytes gives
by_test : {E : Type 0} (r : Result (List ℕ) E) (bytes : List ℕ) (test : Bool) → is_file_name bytes ≡ test → IfOk r (λ name. name ≡ bytes) → (IsOk r ↔ IsFileName bytes) →
    result_ok r ≡ cond test (Some bytes) None
by_test (Ok name) bytes true is same ok = ap Some same
by_test (Ok name) bytes false is same ok = let yes = name_test bytes (ok.0 refl) in absurd cc
by_test (Err e) bytes true is same ok = let yes : false ≡ true = ok.1 (test_name bytes is) in absurd cc
by_test (Err e) bytes false is same ok = refl

pub name_tried : {E : Type 0} (r : Result (List ℕ) E) (payload : List ℕ) (len : ℕ) → IfOk r (λ name. name ≡ take len payload) → (IsOk r ↔ IsFileName (take len payload)) →
    result_ok r ≡ name_in payload len
name_tried r payload len same ok = by_test r (take len payload) (is_file_name (take len payload)) refl same ok

-- more bytes than a name has
pub name_too_long : (payload : List ℕ) (len : ℕ) → length payload ≡ 3584 → 161 < len → None ≡ name_in payload len
name_too_long payload len whole long =
    let no : nat_le (length (take len payload)) 161 ≡ false = lt-leb (length (take len payload)) 161 (omega (arith, length-take len payload)) in
    rw no refl

-- ---- parameters and payloads

pub none_given : (cmd : ℕ) (params : List MsgParam) (payload : List ℕ) → length params ≡ 0 → None ≡ of_params cmd params payload
none_given cmd [] payload none = refl
none_given cmd (of ∷ others) payload none = absurd cc

pub one_given : (cmd : ℕ) (params : List MsgParam) (of : MsgParam) (others : List MsgParam) (payload : List ℕ) → params ≡ of ∷ others →
    of_command cmd of (len_in others) payload ≡ of_params cmd params payload
one_given cmd params of others payload is = ap (λ ps. of_params cmd ps payload) (sym is)

pub none_counted : (others : List MsgParam) → length others ≡ 0 → 0 ≡ len_in others
none_counted [] none = refl
none_counted (second ∷ others) none = absurd cc

pub one_counted : (params : List MsgParam) (second : MsgParam) (others : List MsgParam) → params ≡ second ∷ others → second.q ≡ len_in params
one_counted params second others is = ap len_in (sym is)

by_room : (bytes : List ℕ) (len : ℕ) (test : Bool) → length bytes ≡ 3584 → nat_le len 3584 ≡ test →
    IfSome (cond test (Some (take len bytes)) None) (λ payload. (len ≤ 3584) × (length payload ≡ len))
by_room bytes len true whole is = let room = leb-true len 3584 is in (room, length-take-le len bytes (omega arith))
by_room bytes len false whole is = tt

pub front_is : (bytes : List ℕ) (len : ℕ) → length bytes ≡ 3584 → IfSome (front_of bytes len) (λ payload. (len ≤ 3584) × (length payload ≡ len))
front_is bytes len whole = by_room bytes len (nat_le len 3584) whole refl

pub front_only : (bytes payload : List ℕ) (len : ℕ) → len ≤ 3584 → length payload ≡ len → take (length payload) bytes ≡ payload → front_of bytes len ≡ Some payload
front_only bytes payload len room is there =
    ap (λ test. cond test (Some (take len bytes)) None) (le-leb len 3584 room) ∙ ap Some (ap (λ n. take n bytes) (sym is) ∙ there)

-- ---- the candidate

-- of the argument of a request, over a payload that begins with the request's
pub rpc_again : (buffer cookie : ℕ) (rpc : Rpc) (bytes payload : List ℕ) → IsValue rpc → IsPayloadOf rpc payload → take (length payload) bytes ≡ payload →
    rpc_in (request_arg buffer cookie rpc) bytes ≡ Some rpc
rpc_again buffer cookie Time bytes payload value is there = refl
rpc_again buffer cookie (Sleep key) bytes payload value is there = ap (option_map Sleep) (u32_again key value)
rpc_again buffer cookie (Wake key) bytes payload value is there = ap (option_map Wake) (u32_again key value)
rpc_again buffer cookie (Suspend ms) bytes payload value is there = ap (option_map Suspend) (u32_again ms value)
rpc_again buffer cookie (FsOpen name) bytes payload value is there =
    ap (option_map FsOpen) (name_again bytes name value (subst (λ p. take (length p) bytes ≡ p) is there))
rpc_again buffer cookie (FsCreate name) bytes payload value is there =
    ap (option_map FsCreate) (name_again bytes name value (subst (λ p. take (length p) bytes ≡ p) is there))
rpc_again buffer cookie (FsClose fd) bytes payload value is there = refl
rpc_again buffer cookie (FsRead fd offset len) bytes payload value is there = ap (option_map (FsRead fd offset)) (u32_again len value.2)
rpc_again buffer cookie (FsWrite fd offset len) bytes payload value is there = ap (option_map (FsWrite fd offset)) (u32_again len value.2)
rpc_again buffer cookie (FsRemove name) bytes payload value is there =
    ap (option_map FsRemove) (name_again bytes name value (subst (λ p. take (length p) bytes ≡ p) is there))

-- ---- the argument at the start of a message

sizes : (all front rest len count : ℕ) → all ≡ front + rest → front ≡ 32 → rest ≡ 32 * len → count ≡ len → all ≡ 32 + 32 * count
sizes all front rest len count sum head params counted = omega arith

as_a_head : (all count : ℕ) → all ≡ 32 + 32 * count → 32 ≤ all
as_a_head all count is = omega arith

-- an argument that is read has a spelling
pub ok_fits : {E : Type 0} (r : Result MsgArg E) (bytes : List ℕ) → IfOk r (λ a. Spells bytes a) → IfSome (result_ok r) (λ a. IsArgument a)
ok_fits (Ok a) bytes spells = spells.valid
ok_fits (Err e) bytes spells = tt

-- a message that begins with the spelling of an argument
module _ (message : List ℕ) (a : MsgArg) (valid : IsArgument a) (begins : BeginsWith message a) where
  length-spelling : length (spelling a) ≡ 32 + 32 * a.head.count
  length-spelling =
      sizes (length (spelling a)) (length (head_bytes a.head)) (length (flat_map param_bytes a.params.items)) (length a.params.items) a.head.count
      (length-append (head_bytes a.head) (flat_map param_bytes a.params.items))
      refl
      (length-flat_map_params a.params.items)
      valid.count

  head_there : head_at (take 32 message) ≡ a.head
  unfolding BeginsWith
  head_there =
      let front : take 32 (take (length (spelling a)) message) ≡ take 32 message = take-take 32 (length (spelling a)) message (as_a_head (length (spelling a)) a.head.count length-spelling) in
      ap head_at (sym front ∙ ap (take 32) begins) ∙ head_again a.head valid.head

  -- its head is read of the first bytes
  pub count_there : (front : List ℕ) (head : MsgHead) → front ≡ take 32 message → head ≡ head_at front → head.count ≡ a.head.count
  count_there front head cut is = ap (λ h. h.count) (is ∙ ap head_at cut ∙ head_there)

  -- as many bytes as its head says spell it
  pub spelled_there : (bytes : List ℕ) (count : ℕ) → bytes ≡ take (32 + 32 * count) message → count ≡ a.head.count → Spells bytes a
  unfolding BeginsWith
  spelled_there bytes count cut is =
      let len : 32 + 32 * count ≡ length (spelling a) = ap (λ n. 32 + 32 * n) is ∙ sym length-spelling in
      record { valid = valid; spelled = cut ∙ ap (λ n. take n message) len ∙ begins }

-- Each answer is a reply to its request: what isn't read of it is 0, or empty.
use Rattle.std.proofs.Common.{◌≡◌, ℕ, ◌+◌, Bool, true, false, cond, List, length, refl, drop, arith}
use Rattle.std.proofs.lemmas.Bool.{le-leb}
use Rattle.std.proofs.lemmas.List.{length-take}
use Rattle.std.specs.Prelude.{Result, Ok, Err, is_some, nat_le}
use Rattle.rpc_msgs.specs.declared.rpc.Rpc.{Rpc}
use Rattle.rpc_msgs.specs.declared.rpc.Rpc.TheVariants.{Time, Sleep, Wake, Suspend, FsOpen, FsCreate, FsClose, FsRead, FsWrite, FsRemove}
use Rattle.rpc_msgs.specs.Answer.{IsReplyTo, nothing_read}
use Rattle.supplicant.specs.Files.{bytes_of, file_after, with_bytes, with_empty, without_descriptor, without_file}
use Rattle.supplicant.specs.Supplicant.{ACCESS_CONFLICT, Answered, BAD_PARAMETERS, ITEM_NOT_FOUND, Storage, answered, done, done_with, file_at, opened, piece, refused}

IsKind : Rpc → Answered → Type 0
IsKind rpc answer = IsReplyTo rpc answer.reply

-- of one of two answers, and of what is done with a file
of_either : (rpc : Rpc) (test : Bool) (one other : Answered) → IsKind rpc one → IsKind rpc other → IsKind rpc (cond test one other)
of_either rpc true one other of_one of_other = of_one
of_either rpc false one other of_one of_other = of_other

of_file : (rpc : Rpc) (s : Storage) (act : List ℕ → List ℕ → Answered) (file : Result (List ℕ × List ℕ) ℕ) →
    ((name bytes : List ℕ) → IsKind rpc (act name bytes)) → ((ret : ℕ) → IsKind rpc (done_with s act (Err ret))) → IsKind rpc (done_with s act file)
of_file rpc s act (Ok (name, bytes)) acts refuses = acts name bytes
of_file rpc s act (Err ret) acts refuses = refuses ret

-- a piece has no more bytes than were asked for
within : (test : Bool) (size : ℕ) → test ≡ true → size ≡ cond test size 0
within true size is = refl
within false size is = absurd cc

short : (bytes : List ℕ) (offset len : ℕ) → nat_le (length (piece bytes offset len)) len ≡ true
short bytes offset len = le-leb (length (piece bytes offset len)) len (omega (arith, length-take len (drop offset bytes)))

none_of : (len : ℕ) → nat_le 0 len ≡ true
none_of len = le-leb 0 len (omega arith)

pub answer_kind : (s : Storage) (rpc : Rpc) (payload : List ℕ) → IsReplyTo rpc (answered s rpc payload).reply
unfolding IsKind
answer_kind s Time payload = refl
answer_kind s (Sleep key) payload = refl
answer_kind s (Wake key) payload = refl
answer_kind s (Suspend ms) payload = refl
answer_kind s (FsOpen name) payload =
    of_either (FsOpen name) (is_some (bytes_of s.files name)) (opened s name) (refused s ITEM_NOT_FOUND) refl refl
answer_kind s (FsCreate name) payload =
    of_either (FsCreate name) (is_some (bytes_of s.files name))
    (refused s ACCESS_CONFLICT)
    (opened (record s { files = with_empty s.files name }) name)
    refl
    refl
answer_kind s (FsClose fd) payload =
    let act = λ (name bytes : List ℕ). done (record s { descriptors = without_descriptor s.descriptors fd }) in
    of_file (FsClose fd) s act (file_at s fd) (λ name bytes. refl) (λ ret. refl)
answer_kind s (FsRead fd offset len) payload =
    let act : List ℕ → List ℕ → Answered = λ name bytes. record { reply = record nothing_read { size = length (piece bytes offset len); bytes = piece bytes offset len }; after = s } in
    of_file (FsRead fd offset len) s act (file_at s fd)
    (λ name bytes. (refl, within (nat_le (length (piece bytes offset len)) len) (length (piece bytes offset len)) (short bytes offset len)))
    (λ ret. (refl, within (nat_le 0 len) 0 (none_of len)))
answer_kind s (FsWrite fd offset len) payload =
    let room = nat_le (offset + length payload) 0x100000 in
    let after = λ (name bytes : List ℕ). done (record s { files = with_bytes s.files name (file_after bytes offset payload) }) in
    let act = λ (name bytes : List ℕ). cond room (after name bytes) (refused s BAD_PARAMETERS) in
    of_file (FsWrite fd offset len) s act (file_at s fd)
    (λ name bytes. of_either (FsWrite fd offset len) room (after name bytes) (refused s BAD_PARAMETERS) refl refl)
    (λ ret. refl)
answer_kind s (FsRemove name) payload =
    of_either (FsRemove name) (is_some (bytes_of s.files name)) (done (record s { files = without_file s.files name })) (refused s ITEM_NOT_FOUND) refl refl

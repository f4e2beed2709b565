-- Each reply to a request is what its reader makes of some reads.
use Rattle.std.proofs.Common.{◌≡◌, ℕ, ◌^◌, ◌<◌, Bool, true, false, cond, nat_le, List, [], ◌∷◌, ◌++◌, Option, Some, unwrap_or, length, refl, sym, subst, append_assoc, append-nil}
use Rattle.std.specs.Int.{from_le_bytes, to_le_bytes, w32, w64}
use Rattle.std.proofs.lemmas.Nat.{from_le_bytes-to_le_bytes_4, from_le_bytes-to_le_bytes_8}
use Rattle.ns_ram.specs.declared.read.Read.{Read}
use Rattle.ns_ram.specs.Reads.{listed}
use Rattle.ns_ram.specs.Reader.{Reader, done, want_bytes, ◌>>=◌, take_bytes, over_reads, reading}
use Rattle.ns_ram.proofs.ReaderSteps.{next_bytes-listed}
use Rattle.rpc_msgs.specs.declared.rpc.Rpc.{Rpc}
use Rattle.rpc_msgs.specs.declared.rpc.Rpc.TheVariants.{Time, Sleep, Wake, Suspend, FsOpen, FsCreate, FsClose, FsRead, FsWrite, FsRemove}
use Rattle.rpc_msgs.specs.declared.rpc.RpcReply.{RpcReply}
use Rattle.rpc_msgs.specs.Answer.{FitsReply, IsReplyTo, nothing_read}
use Rattle.rpc_msgs.specs.Reply.{descriptor_of, payload_of, piece_of, reply_reader, ret_alone, time_of}
use Rattle.rpc_msgs.specs.Request.{payload_at}

-- reads of which the reader makes the value, and that it takes just these
record Reaches {A : Type 0} (reader : Reader A) (value : A) : Type 0 where
  reads : List Read
  gives : (rest : List Read) → over_reads reader (reads ++ rest) ≡ Some (value, rest)

reaches-done : {A : Type 0} (value : A) → Reaches (done value) value
reaches-done value = record { reads = []; gives = λ rest. refl }

reaches-bytes : {A : Type 0} (addr len : ℕ) (next : List ℕ → Reader A) (value : A) (got : List ℕ) → length got ≡ len →
    Reaches (next got) value → Reaches (want_bytes addr len next) value
reaches-bytes addr len next value got n r = record {
  reads = listed addr got ++ r.reads;
  gives = λ rest. rw (append_assoc (listed addr got) r.reads rest, next_bytes-listed addr len got (r.reads ++ rest) n) (r.gives rest);
}

nothing : (bytes : List ℕ) → length bytes ≡ 0 → [] ≡ bytes
nothing [] e = refl
nothing (b ∷ bs) e = absurd (cc)

reaches-payload : {A : Type 0} (b : Bool) (addr size : ℕ) (next : List ℕ → Reader A) (value : A) (got : List ℕ) → length got ≡ cond b size 0 →
    Reaches (next got) value → Reaches (cond b (take_bytes addr size) (done []) >>= next) value
reaches-payload true addr size next value got n r = reaches-bytes addr size next value got n r
reaches-payload false addr size next value got n r = subst (λ bytes. Reaches (next bytes) value) (sym (nothing got n)) r

-- a number as it is read of its bytes
abbrev half : ℕ → ℕ
half n = from_le_bytes w32 (to_le_bytes w32 n)

abbrev word : ℕ → ℕ
word n = from_le_bytes w64 (to_le_bytes w64 n)

ret_alone-reached : (at ret : ℕ) → ret < 2 ^ 32 → Reaches (ret_alone at) (record nothing_read { ret = ret })
ret_alone-reached at ret f =
    let P : ℕ → Type 0 = λ a. Reaches (ret_alone at) (record nothing_read { ret = a }) in
    let read : P (half ret) = reaches-bytes _ 4 _ _ (to_le_bytes w32 ret) refl (reaches-done _) in
    subst P (from_le_bytes-to_le_bytes_4 ret f) read

descriptor-reached : (at ret v : ℕ) → ret < 2 ^ 32 → v < 2 ^ 64 → Reaches (descriptor_of at) (record nothing_read { ret = ret; v = v })
descriptor-reached at ret v f g =
    let P : ℕ → ℕ → Type 0 = λ a b. Reaches (descriptor_of at) (record nothing_read { ret = a; v = b }) in
    let read : P (half ret) (word v) =
    reaches-bytes _ 4 _ _ (to_le_bytes w32 ret) refl (reaches-bytes _ 8 _ _ (to_le_bytes w64 v) refl (reaches-done _)) in
    subst (λ a. P a v) (from_le_bytes-to_le_bytes_4 ret f) (subst (λ b. P (half ret) b) (from_le_bytes-to_le_bytes_8 v g) read)

time-reached : (at ret v w : ℕ) → ret < 2 ^ 32 → v < 2 ^ 64 → w < 2 ^ 64 → Reaches (time_of at) (record nothing_read { ret = ret; v = v; w = w })
time-reached at ret v w f g h =
    let P : ℕ → ℕ → ℕ → Type 0 = λ a b c. Reaches (time_of at) (record nothing_read { ret = a; v = b; w = c }) in
    let read : P (half ret) (word v) (word w) =
    reaches-bytes _ 4 _ _ (to_le_bytes w32 ret) refl
    (reaches-bytes _ 8 _ _ (to_le_bytes w64 v) refl (reaches-bytes _ 8 _ _ (to_le_bytes w64 w) refl (reaches-done _))) in
    subst (λ a. P a v w) (from_le_bytes-to_le_bytes_4 ret f)
    (subst (λ b. P (half ret) b w) (from_le_bytes-to_le_bytes_8 v g) (subst (λ c. P (half ret) (word v) c) (from_le_bytes-to_le_bytes_8 w h) read))

piece-reached : (at buffer most ret size : ℕ) (bytes : List ℕ) → ret < 2 ^ 32 → size < 2 ^ 64 → length bytes ≡ cond (nat_le size most) size 0 →
    Reaches (piece_of at buffer most) (record nothing_read { ret = ret; size = size; bytes = bytes })
piece-reached at buffer most ret size bytes f g n =
    let reply : ℕ → ℕ → List ℕ → RpcReply = λ a b got. record nothing_read { ret = a; size = b; bytes = got } in
    let P : ℕ → ℕ → Type 0 = λ a b. Reaches (piece_of at buffer most) (reply a b bytes) in
    let Q : ℕ → Type 0 = λ b. Reaches (payload_of buffer most b >>= (λ got. done (reply (half ret) b got))) (reply (half ret) b bytes) in
    let behind : Q size =
    reaches-payload (nat_le size most) (payload_at buffer) size (λ got. done (reply (half ret) size got)) (reply (half ret) size bytes) bytes n (reaches-done (reply (half ret) size bytes)) in
    let there : Q (word size) = subst Q (sym (from_le_bytes-to_le_bytes_8 size g)) behind in
    let read : P (half ret) (word size) =
    reaches-bytes _ 4 _ _ (to_le_bytes w32 ret) refl (reaches-bytes _ 8 _ _ (to_le_bytes w64 size) refl there) in
    subst (λ a. P a size) (from_le_bytes-to_le_bytes_4 ret f) (subst (λ b. P (half ret) b) (from_le_bytes-to_le_bytes_8 size g) read)

reply-reached : (at : ℕ) (buffer : Option ℕ) (rpc : Rpc) (reply : RpcReply) → IsReplyTo rpc reply → FitsReply reply → Reaches (reply_reader at buffer rpc) reply
reply-reached at buffer Time reply is fits =
    subst (λ r. Reaches (time_of at) r) (sym is) (time-reached at reply.ret reply.v reply.w fits.ret fits.v fits.w)
reply-reached at buffer (Sleep key) reply is fits = subst (λ r. Reaches (done nothing_read) r) (sym is) (reaches-done nothing_read)
reply-reached at buffer (Wake key) reply is fits = subst (λ r. Reaches (done nothing_read) r) (sym is) (reaches-done nothing_read)
reply-reached at buffer (Suspend ms) reply is fits = subst (λ r. Reaches (done nothing_read) r) (sym is) (reaches-done nothing_read)
reply-reached at buffer (FsOpen name) reply is fits =
    subst (λ r. Reaches (descriptor_of at) r) (sym is) (descriptor-reached at reply.ret reply.v fits.ret fits.v)
reply-reached at buffer (FsCreate name) reply is fits =
    subst (λ r. Reaches (descriptor_of at) r) (sym is) (descriptor-reached at reply.ret reply.v fits.ret fits.v)
reply-reached at buffer (FsClose fd) reply is fits = subst (λ r. Reaches (ret_alone at) r) (sym is) (ret_alone-reached at reply.ret fits.ret)
reply-reached at buffer (FsRead fd offset len) reply is fits =
    subst (λ r. Reaches (piece_of at (unwrap_or buffer 0) len) r) (sym is.0) (piece-reached at (unwrap_or buffer 0) len reply.ret reply.size reply.bytes fits.ret fits.size is.1)
reply-reached at buffer (FsWrite fd offset len) reply is fits = subst (λ r. Reaches (ret_alone at) r) (sym is) (ret_alone-reached at reply.ret fits.ret)
reply-reached at buffer (FsRemove name) reply is fits = subst (λ r. Reaches (ret_alone at) r) (sym is) (ret_alone-reached at reply.ret fits.ret)

pub replies-readings : (at : ℕ) (buffer : Option ℕ) (rpc : Rpc) (reply : RpcReply) → IsReplyTo rpc reply → FitsReply reply →
    (reads : List Read) × (reading (reply_reader at buffer rpc) reads ≡ Some reply)
replies-readings at buffer rpc reply is fits =
    let r = reply-reached at buffer rpc reply is fits in
    let all : over_reads (reply_reader at buffer rpc) r.reads ≡ Some (reply, []) = rw append-nil at (r.gives []) in
    (r.reads, rw all refl)

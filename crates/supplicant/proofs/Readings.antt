-- What is read of a reply that was written is that reply.
use Rattle.std.proofs.Common.{◌≡◌, ℕ, ◌+◌, ◌≤◌, ◌<◌, ◌^◌, Bool, true, false, cond, eqb, List, [], ◌∷◌, ◌++◌, length, Some, None, inl, refl, sym, ap, subst, ◌∙◌, arith}
use Rattle.std.specs.Prelude.{nat_le}
use Rattle.std.specs.Int.{from_le_bytes, to_le_bytes, w32, w64}
use Rattle.std.specs.List.{AllByRecursion}
use Rattle.std.specs.Option.{option_and_then, option_map}
use Rattle.std.proofs.lemmas.Bool.{eq-eqb, leb-true}
use Rattle.std.proofs.lemmas.Nat.{from_le_bytes-to_le_bytes_4, from_le_bytes-to_le_bytes_8}
use Rattle.msg_args.specs.Layout.{p_at, q_at, ret_at}
use Rattle.ns_ram.specs.declared.ram.TheConstants.{RAM_BYTES}
use Rattle.ns_ram.specs.declared.read.Read.{Read}
use Rattle.ns_ram.specs.Lane.{IsInRam, bytes_at, bytes_put}
use Rattle.ns_ram.specs.Reader.{Reader, done, want_bytes, ◌>>=◌, lane_bytes, outcome_over, over_lane, take_bytes}
use Rattle.ns_ram.specs.Reads.{listed}
use Rattle.ns_ram.specs.Writes.{IsApart, IsWriteOfRam, Write, lane_after}
use Rattle.ns_ram.proofs.LaneBytes.{length-bytes_put}
use Rattle.rpc_msgs.specs.declared.rpc.Rpc.{Rpc}
use Rattle.rpc_msgs.specs.declared.rpc.Rpc.TheVariants.{Time, Sleep, Wake, Suspend, FsOpen, FsCreate, FsClose, FsRead, FsWrite, FsRemove}
use Rattle.rpc_msgs.specs.declared.rpc.RpcReply.{RpcReply}
use Rattle.rpc_msgs.specs.Answer.{FitsReply, IsReplyTo, nothing_read}
use Rattle.rpc_msgs.specs.Reply.{descriptor_of, payload_of, piece_of, reply_reader, ret_alone, time_of}
use Rattle.rpc_msgs.specs.Request.{IsRequest, payload_at, payload_writes}
use Rattle.supplicant.specs.Answering.{number_write, reply_writes, ret_write}
use Rattle.supplicant.proofs.Written.{payload_apart, payload_in_ram, payload_there, written}

-- ---- readers over a lane

-- the reader gives the value, whatever was read before
record Gives {A : Type 0} (lane : List ℕ) (reader : Reader A) (value : A) : Type 0 where
  ends : (before : List Read) → (after : List Read) × (over_lane reader lane before ≡ Some (value, after))

gives-done : {A : Type 0} (lane : List ℕ) (value : A) → Gives lane (done value) value
gives-done lane value = record { ends = λ before. (before, refl) }

gives-bytes : {A : Type 0} (lane : List ℕ) (addr len : ℕ) (next : List ℕ → Reader A) (value : A) (got : List ℕ) → length got ≡ len → bytes_at lane addr len ≡ got →
    Gives lane (next got) value → Gives lane (want_bytes addr len next) value
gives-bytes lane addr len next value got n there onward =
    let found : lane_bytes lane addr len ≡ Some got =
    ap (λ bytes. cond (eqb (length bytes) len) (Some bytes) None) there ∙ ap (λ test. cond test (Some got) None) (eq-eqb (length got) len n) in
    record {
      ends = λ before.
          let rest = onward.ends (before ++ listed addr got) in
          (rest.0, ap (option_and_then (λ bytes. over_lane (next bytes) lane (before ++ listed addr bytes))) found ∙ rest.1);
    }

nothing : (bytes : List ℕ) → length bytes ≡ 0 → [] ≡ bytes
nothing [] e = refl
nothing (b ∷ bytes) e = absurd cc

gives-payload : {A : Type 0} (lane : List ℕ) (test : Bool) (addr size : ℕ) (next : List ℕ → Reader A) (value : A) (got : List ℕ) → length got ≡ cond test size 0 → bytes_at lane addr (length got) ≡ got →
    Gives lane (next got) value → Gives lane (cond test (take_bytes addr size) (done []) >>= next) value
gives-payload lane true addr size next value got n there onward =
    gives-bytes lane addr size next value got n (subst (λ len. bytes_at lane addr len ≡ got) n there) onward
gives-payload lane false addr size next value got n there onward =
    subst (λ bytes. Gives lane (next bytes) value) (sym (nothing got n)) onward

outcome : {A : Type 0} (lane : List ℕ) (reader : Reader A) (value : A) → Gives lane reader value → outcome_over reader lane ≡ Some value
outcome lane reader value gives = ap (option_map (λ end. end.0)) (gives.ends []).1

-- a number as it is read of its bytes
abbrev half : ℕ → ℕ
half n = from_le_bytes w32 (to_le_bytes w32 n)

abbrev word : ℕ → ℕ
word n = from_le_bytes w64 (to_le_bytes w64 n)

-- ---- replies

module _ (lane : List ℕ) (buffer : ℕ) (whole : length lane ≡ RAM_BYTES) (inside : IsInRam buffer 4096) where
  -- where the numbers stand, and in which order
  ret_in : IsInRam (ret_at buffer) 4
  ret_in = (omega arith, omega arith)

  p0_in : IsInRam (p_at buffer 0) 8
  p0_in = (omega arith, omega arith)

  q0_in : IsInRam (q_at buffer 0) 8
  q0_in = (omega arith, omega arith)

  q1_in : IsInRam (q_at buffer 1) 8
  q1_in = (omega arith, omega arith)

  p2_in : IsInRam (p_at buffer 2) 8
  p2_in = (omega arith, omega arith)

  ret_p0 : ret_at buffer + 4 ≤ p_at buffer 0
  ret_p0 = omega arith

  ret_q0 : ret_at buffer + 4 ≤ q_at buffer 0
  ret_q0 = omega arith

  p0_q0 : p_at buffer 0 + 8 ≤ q_at buffer 0
  p0_q0 = omega arith

  ret_p2 : ret_at buffer + 4 ≤ p_at buffer 2
  ret_p2 = omega arith

  ret_q1 : ret_at buffer + 4 ≤ q_at buffer 1
  ret_q1 = omega arith

  ret_payload : ret_at buffer + 4 ≤ payload_at buffer
  ret_payload = omega arith

  q1_payload : q_at buffer 1 + 8 ≤ payload_at buffer
  q1_payload = omega arith

  -- the lane behind the result
  behind : ℕ → List ℕ
  behind ret = bytes_put lane (ret_at buffer) (to_le_bytes w32 ret)

  behind_whole : (ret : ℕ) → length (behind ret) ≡ RAM_BYTES
  unfolding behind
  behind_whole ret = length-bytes_put lane (ret_at buffer) (to_le_bytes w32 ret) whole ret_in

  ret_there : (ret : ℕ) (later : List Write) → AllByRecursion IsWriteOfRam later → AllByRecursion (IsApart (ret_at buffer) 4) later →
      bytes_at (lane_after lane (ret_write buffer ret ∷ later)) (ret_at buffer) 4 ≡ to_le_bytes w32 ret
  ret_there ret later all apart = written lane (ret_write buffer ret) later whole ret_in all apart

  ret_alone_given : (ret : ℕ) → ret < 2 ^ 32 → Gives (lane_after lane (ret_write buffer ret ∷ [])) (ret_alone buffer) (record nothing_read { ret = ret })
  ret_alone_given ret small =
      let after = lane_after lane (ret_write buffer ret ∷ []) in
      let P : ℕ → Type 0 = λ a. Gives after (ret_alone buffer) (record nothing_read { ret = a }) in
      let read : P (half ret) = gives-bytes after (ret_at buffer) 4 _ _ (to_le_bytes w32 ret) refl (ret_there ret [] tt tt) (gives-done after _) in
      subst P (from_le_bytes-to_le_bytes_4 ret small) read

  descriptor_given : (ret v : ℕ) → ret < 2 ^ 32 → v < 2 ^ 64 →
      Gives (lane_after lane (ret_write buffer ret ∷ number_write (p_at buffer 2) v ∷ [])) (descriptor_of buffer) (record nothing_read { ret = ret; v = v })
  unfolding behind
  descriptor_given ret v small_ret small_v =
      let later = number_write (p_at buffer 2) v ∷ [] in
      let after = lane_after lane (ret_write buffer ret ∷ later) in
      let P : ℕ → ℕ → Type 0 = λ a b. Gives after (descriptor_of buffer) (record nothing_read { ret = a; v = b }) in
      let of_ret = ret_there ret later (p2_in, tt) (inl ret_p2, tt) in
      let of_v : bytes_at after (p_at buffer 2) 8 ≡ to_le_bytes w64 v =
      written (behind ret) (number_write (p_at buffer 2) v) [] (behind_whole ret) p2_in tt tt in
      let read : P (half ret) (word v) =
      gives-bytes after (ret_at buffer) 4 _ _ (to_le_bytes w32 ret) refl of_ret
      (gives-bytes after (p_at buffer 2) 8 _ _ (to_le_bytes w64 v) refl of_v (gives-done after _)) in
      subst (λ a. P a v) (from_le_bytes-to_le_bytes_4 ret small_ret) (subst (λ b. P (half ret) b) (from_le_bytes-to_le_bytes_8 v small_v) read)

  time_given : (ret v w : ℕ) → ret < 2 ^ 32 → v < 2 ^ 64 → w < 2 ^ 64 →
      Gives (lane_after lane (ret_write buffer ret ∷ number_write (p_at buffer 0) v ∷ number_write (q_at buffer 0) w ∷ [])) (time_of buffer) (record nothing_read { ret = ret; v = v; w = w })
  unfolding behind
  time_given ret v w small_ret small_v small_w =
      let later = number_write (p_at buffer 0) v ∷ number_write (q_at buffer 0) w ∷ [] in
      let after = lane_after lane (ret_write buffer ret ∷ later) in
      let P : ℕ → ℕ → ℕ → Type 0 = λ a b c. Gives after (time_of buffer) (record nothing_read { ret = a; v = b; w = c }) in
      let of_ret = ret_there ret later (p0_in, (q0_in, tt)) (inl ret_p0, (inl ret_q0, tt)) in
      let of_v : bytes_at after (p_at buffer 0) 8 ≡ to_le_bytes w64 v =
      written (behind ret) (number_write (p_at buffer 0) v) (number_write (q_at buffer 0) w ∷ []) (behind_whole ret) p0_in (q0_in, tt) (inl p0_q0, tt) in
      let still = length-bytes_put (behind ret) (p_at buffer 0) (to_le_bytes w64 v) (behind_whole ret) p0_in in
      let of_w : bytes_at after (q_at buffer 0) 8 ≡ to_le_bytes w64 w =
      written (bytes_put (behind ret) (p_at buffer 0) (to_le_bytes w64 v)) (number_write (q_at buffer 0) w) [] still q0_in tt tt in
      let read : P (half ret) (word v) (word w) =
      gives-bytes after (ret_at buffer) 4 _ _ (to_le_bytes w32 ret) refl of_ret
      (gives-bytes after (p_at buffer 0) 8 _ _ (to_le_bytes w64 v) refl of_v
      (gives-bytes after (q_at buffer 0) 8 _ _ (to_le_bytes w64 w) refl of_w (gives-done after _))) in
      subst (λ a. P a v w) (from_le_bytes-to_le_bytes_4 ret small_ret)
      (subst (λ b. P (half ret) b w) (from_le_bytes-to_le_bytes_8 v small_v)
      (subst (λ c. P (half ret) (word v) c) (from_le_bytes-to_le_bytes_8 w small_w) read))

  piece_given : (most ret size : ℕ) (bytes : List ℕ) → ret < 2 ^ 32 → size < 2 ^ 64 → length bytes ≤ 3584 → length bytes ≡ cond (nat_le size most) size 0 →
      Gives (lane_after lane (ret_write buffer ret ∷ number_write (q_at buffer 1) size ∷ payload_writes buffer bytes)) (piece_of buffer buffer most) (record nothing_read { ret = ret; size = size; bytes = bytes })
  unfolding behind
  piece_given most ret size bytes small_ret small_size few n =
      let later = number_write (q_at buffer 1) size ∷ payload_writes buffer bytes in
      let after = lane_after lane (ret_write buffer ret ∷ later) in
      let reply : ℕ → ℕ → List ℕ → RpcReply = λ a b got. record nothing_read { ret = a; size = b; bytes = got } in
      let P : ℕ → ℕ → Type 0 = λ a b. Gives after (piece_of buffer buffer most) (reply a b bytes) in
      let Q : ℕ → Type 0 = λ b. Gives after (payload_of buffer most b >>= (λ got. done (reply (half ret) b got))) (reply (half ret) b bytes) in
      let in_ram = payload_in_ram buffer bytes inside few in
      let of_ret = ret_there ret later (q1_in, in_ram) (inl ret_q1, payload_apart buffer (ret_at buffer) 4 bytes ret_payload) in
      let of_size : bytes_at after (q_at buffer 1) 8 ≡ to_le_bytes w64 size =
      written (behind ret) (number_write (q_at buffer 1) size) (payload_writes buffer bytes) (behind_whole ret) q1_in in_ram (payload_apart buffer (q_at buffer 1) 8 bytes q1_payload) in
      let still = length-bytes_put (behind ret) (q_at buffer 1) (to_le_bytes w64 size) (behind_whole ret) q1_in in
      let of_bytes : bytes_at after (payload_at buffer) (length bytes) ≡ bytes =
      payload_there (bytes_put (behind ret) (q_at buffer 1) (to_le_bytes w64 size)) buffer bytes still inside few in
      let onward : Q size =
      gives-payload after (nat_le size most) (payload_at buffer) size (λ got. done (reply (half ret) size got)) (reply (half ret) size bytes) bytes n of_bytes (gives-done after (reply (half ret) size bytes)) in
      let onward_read : Q (word size) = subst Q (sym (from_le_bytes-to_le_bytes_8 size small_size)) onward in
      let read : P (half ret) (word size) =
      gives-bytes after (ret_at buffer) 4 _ _ (to_le_bytes w32 ret) refl of_ret
      (gives-bytes after (q_at buffer 1) 8 _ _ (to_le_bytes w64 size) refl of_size onward_read) in
      subst (λ a. P a size) (from_le_bytes-to_le_bytes_4 ret small_ret) (subst (λ b. P (half ret) b) (from_le_bytes-to_le_bytes_8 size small_size) read)

  -- as many bytes as a reply has, of at most so many
  few_bytes : (test : Bool) (size most count : ℕ) → nat_le size most ≡ test → count ≡ cond test size 0 → most ≤ 3584 → count ≤ 3584
  few_bytes true size most count is n room = let within = leb-true size most is in omega arith
  few_bytes false size most count is n room = omega arith

  of_reply : (rpc : Rpc) (reply : RpcReply) → IsRequest rpc → IsReplyTo rpc reply → FitsReply reply →
      Gives (lane_after lane (reply_writes buffer rpc reply)) (reply_reader buffer (Some buffer) rpc) reply
  of_reply Time reply request is fits =
      let after = lane_after lane (reply_writes buffer Time reply) in
      subst (λ r. Gives after (time_of buffer) r) (sym is) (time_given reply.ret reply.v reply.w fits.ret fits.v fits.w)
  of_reply (Sleep key) reply request is fits =
      let after = lane_after lane (reply_writes buffer (Sleep key) reply) in
      subst (λ r. Gives after (done nothing_read) r) (sym is) (gives-done after nothing_read)
  of_reply (Wake key) reply request is fits =
      let after = lane_after lane (reply_writes buffer (Wake key) reply) in
      subst (λ r. Gives after (done nothing_read) r) (sym is) (gives-done after nothing_read)
  of_reply (Suspend ms) reply request is fits =
      let after = lane_after lane (reply_writes buffer (Suspend ms) reply) in
      subst (λ r. Gives after (done nothing_read) r) (sym is) (gives-done after nothing_read)
  of_reply (FsOpen name) reply request is fits =
      let after = lane_after lane (reply_writes buffer (FsOpen name) reply) in
      subst (λ r. Gives after (descriptor_of buffer) r) (sym is) (descriptor_given reply.ret reply.v fits.ret fits.v)
  of_reply (FsCreate name) reply request is fits =
      let after = lane_after lane (reply_writes buffer (FsCreate name) reply) in
      subst (λ r. Gives after (descriptor_of buffer) r) (sym is) (descriptor_given reply.ret reply.v fits.ret fits.v)
  of_reply (FsClose fd) reply request is fits =
      let after = lane_after lane (reply_writes buffer (FsClose fd) reply) in
      subst (λ r. Gives after (ret_alone buffer) r) (sym is) (ret_alone_given reply.ret fits.ret)
  of_reply (FsRead fd offset len) reply request is fits =
      let after = lane_after lane (reply_writes buffer (FsRead fd offset len) reply) in
      let few = few_bytes (nat_le reply.size len) reply.size len (length reply.bytes) refl is.1 request in
      subst (λ r. Gives after (piece_of buffer buffer len) r) (sym is.0)
      (piece_given len reply.ret reply.size reply.bytes fits.ret fits.size few is.1)
  of_reply (FsWrite fd offset len) reply request is fits =
      let after = lane_after lane (reply_writes buffer (FsWrite fd offset len) reply) in
      subst (λ r. Gives after (ret_alone buffer) r) (sym is) (ret_alone_given reply.ret fits.ret)
  of_reply (FsRemove name) reply request is fits =
      let after = lane_after lane (reply_writes buffer (FsRemove name) reply) in
      subst (λ r. Gives after (ret_alone buffer) r) (sym is) (ret_alone_given reply.ret fits.ret)

pub read_again : (lane : List ℕ) (buffer : ℕ) (rpc : Rpc) (reply : RpcReply) → length lane ≡ RAM_BYTES → IsInRam buffer 4096 → IsRequest rpc → IsReplyTo rpc reply → FitsReply reply →
    outcome_over (reply_reader buffer (Some buffer) rpc) (lane_after lane (reply_writes buffer rpc reply)) ≡ Some reply
read_again lane buffer rpc reply whole inside request is fits =
    outcome (lane_after lane (reply_writes buffer rpc reply)) (reply_reader buffer (Some buffer) rpc) reply (of_reply lane buffer whole inside rpc reply request is fits)

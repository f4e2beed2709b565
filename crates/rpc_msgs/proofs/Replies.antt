-- A reader of a reply gives replies to its request, whatever the reads are.
use Rattle.std.proofs.Common.{◌≡◌, ℕ, Bool, true, false, cond, nat_le, List, [], ◌∷◌, Option, Some, unwrap_or, length, refl, ap}
use Rattle.std.proofs.lemmas.Option.{option_and_then_some}
use Rattle.std.specs.Int.{from_le_bytes, w32, w64}
use Rattle.ns_ram.specs.declared.read.Read.{Read}
use Rattle.ns_ram.specs.Reader.{Reader, done, want_bytes, want_words, ◌>>=◌, take_bytes, over_reads, next_bytes, next_words, reading, if_used_up}
use Rattle.ns_ram.proofs.ReaderSteps.{next_bytes-some}
use Rattle.rpc_msgs.specs.declared.rpc.Rpc.{Rpc}
use Rattle.rpc_msgs.specs.declared.rpc.Rpc.TheVariants.{Time, Sleep, Wake, Suspend, FsOpen, FsCreate, FsClose, FsRead, FsWrite, FsRemove}
use Rattle.rpc_msgs.specs.declared.rpc.RpcReply.{RpcReply}
use Rattle.rpc_msgs.specs.Answer.{IsReplyTo, nothing_read}
use Rattle.rpc_msgs.specs.Reply.{reply_reader}
use Rattle.rpc_msgs.specs.Request.{payload_at}

Some-injective : {A : Type 0} {x y : A} → Some x ≡ Some y → x ≡ y
Some-injective e = cc

-- a fact of each value that a reader can give
abbrev Gives : {A : Type 0} → (A → Type 0) → Reader A → Type 0
Gives P (done value) = P value
Gives P (want_bytes addr len next) = (got : List ℕ) → length got ≡ len → Gives P (next got)
Gives P (want_words addr most test next) = (got : List ℕ) → Gives P (next got)

over_reads-gives : {A : Type 0} (P : A → Type 0) (reader : Reader A) (reads rest : List Read) (value : A) →
    Gives P reader → over_reads reader reads ≡ Some (value, rest) → P value
over_reads-gives {A} P (done v) reads rest value h e =
    let same : v ≡ value = ap (λ (p : A × List Read). p.0) (Some-injective e) in
    rw same at h
over_reads-gives {A} P (want_bytes addr len next) reads rest value h e =
    option_and_then_some _ (next_bytes addr len reads) (value, rest) e
    (λ (step : List ℕ × List Read) there onward.
    let got = next_bytes-some addr len reads step.0 step.1 there in
    over_reads-gives P (next step.0) step.1 rest value (h step.0 got.0) onward)
over_reads-gives {A} P (want_words addr most test next) reads rest value h e =
    option_and_then_some _ (next_words addr most test reads) (value, rest) e
    (λ (step : List ℕ × List Read) there onward. over_reads-gives P (next step.0) step.1 rest value (h step.0) onward)

used_up-value : {A : Type 0} (end : A × List Read) (value : A) → if_used_up end ≡ Some value → end.0 ≡ value
used_up-value (v, []) value e = Some-injective e
used_up-value (v, read ∷ reads) value e = absurd (cc)

-- bytes where there are so many as were asked for, and else none
bytes-gives : (P : RpcReply → Type 0) (b : Bool) (addr size : ℕ) (reply : List ℕ → RpcReply) →
    ((got : List ℕ) → length got ≡ cond b size 0 → P (reply got)) →
    Gives P (cond b (take_bytes addr size) (done []) >>= (λ bytes. done (reply bytes)))
bytes-gives P true addr size reply h = h
bytes-gives P false addr size reply h = h [] refl

reply_reader-gives : (at : ℕ) (buffer : Option ℕ) (rpc : Rpc) → Gives (IsReplyTo rpc) (reply_reader at buffer rpc)
reply_reader-gives at buffer Time = λ ret n v m w k. refl
reply_reader-gives at buffer (Sleep key) = refl
reply_reader-gives at buffer (Wake key) = refl
reply_reader-gives at buffer (Suspend ms) = refl
reply_reader-gives at buffer (FsOpen name) = λ ret n v m. refl
reply_reader-gives at buffer (FsCreate name) = λ ret n v m. refl
reply_reader-gives at buffer (FsClose fd) = λ ret n. refl
reply_reader-gives at buffer (FsRead fd offset len) = λ r n s m.
    let ret : ℕ = from_le_bytes w32 r in
    let size : ℕ = from_le_bytes w64 s in
    bytes-gives (IsReplyTo (FsRead fd offset len)) (nat_le size len) (payload_at (unwrap_or buffer 0)) size
    (λ bytes. record nothing_read { ret = ret; size = size; bytes = bytes })
    (λ got k. (refl, k))
reply_reader-gives at buffer (FsWrite fd offset len) = λ ret n. refl
reply_reader-gives at buffer (FsRemove name) = λ ret n. refl

pub readings-replies : (at : ℕ) (buffer : Option ℕ) (rpc : Rpc) (reads : List Read) (reply : RpcReply) →
    reading (reply_reader at buffer rpc) reads ≡ Some reply → IsReplyTo rpc reply
readings-replies at buffer rpc reads reply e =
    option_and_then_some if_used_up (over_reads (reply_reader at buffer rpc) reads) reply e
    (λ (end : RpcReply × List Read) there ended.
    let given = over_reads-gives (IsReplyTo rpc) (reply_reader at buffer rpc) reads end.1 end.0 (reply_reader-gives at buffer rpc) there in
    rw (used_up-value end reply ended) at given)

-- The cookies of copied parameters are those of registered buffers.
use Rattle.std.proofs.Common.{◌≡◌, ℕ, suc, ◌+◌, Bool, true, false, List, [], ◌∷◌, ◌++◌, Option, Some, None, Result, Ok, Err, refl, subst}
use Rattle.std.specs.Prelude.{IsSome, nat_lt, if◌then◌else◌}
use Rattle.std.proofs.lemmas.Option.{option_and_then_some, some_pair_parts}
use Rattle.std.specs.List.{AllByRecursion, flat_map}
use Rattle.std.specs.Option.{option_map_or}
use Rattle.base.specs.NumberMap.{NumberMap, get}
use Rattle.kernel_model.proofs.Parts.{AllOf}
use Rattle.msg_args.specs.declared.kind.ParamKind.{ParamKind}
use Rattle.msg_args.specs.declared.kind.ParamKind.TheVariants.{Empty as NoParam, ValueIn, ValueOut, ValueInout, RmemIn, RmemOut, RmemInout, TmemIn, TmemOut, TmemInout}
use Rattle.msg_args.specs.declared.param.MsgParam.{MsgParam}
use Rattle.ns_ram.specs.Attempt.{Attempt, passes, read, refuses, ◌>>=◌}
use Rattle.ns_ram.specs.Reader.{done, want_bytes, want_words, lane_bytes, lane_words, over_lane}
use Rattle.ns_ram.specs.declared.read.Read.{Read}
use Rattle.param_copy.specs.Copying.{Copies, bytes_of, cookie_list, copied_as, copied_param, copied_params, copying, memory}
use Rattle.param_copy.specs.Memory.{part_of_buffer, registered_pieces, rmem_pieces, tmem_pieces}
use Rattle.param_copy.specs.declared.fault.CopyFault.{CopyFault}
use Rattle.param_copy.specs.declared.fault.CopyFault.TheVariants.{Cookie, Range, TooLong}
use Rattle.shm_registry.specs.Pieces.{pieces_from}
use Rattle.shm_registry.specs.declared.page_buffer.PageBuffer.{PageBuffer}
use Rattle.shm_registry.specs.declared.piece.Piece.{Piece}
use Rattle.ta_params.specs.declared.copied_params.Way.{Way}
use Rattle.ta_params.specs.declared.copied_params.Way.TheVariants.{In, Out, Inout}

-- ---- what an attempt gives

abbrev GivesIn : {F A : Type 0} → (A → Type 0) → Result A F → Type 0
GivesIn P (Ok value) = P value
GivesIn P (Err fault) = Unit {0}

-- each value that it may give passes
abbrev Gives : {F A : Type 0} → Attempt F A → (A → Type 0) → Type 0
Gives {F} {A} attempt P = AllOf (λ (result : Result A F). GivesIn P result) attempt

gives_then : {F A B : Type 0} (first : Attempt F A) (next : A → Attempt F B) (P : A → Type 0) (Q : B → Type 0) →
    Gives first P → ((value : A) → P value → Gives (next value) Q) → Gives (first >>= next) Q
gives_then (done (Ok value)) next P Q all onward = onward value all
gives_then (done (Err fault)) next P Q all onward = tt
gives_then (want_bytes addr len more) next P Q all onward = λ got. gives_then (more got) next P Q (all got) onward
gives_then (want_words addr most test more) next P Q all onward = λ got. gives_then (more got) next P Q (all got) onward

gives_behind : {F A B : Type 0} (first : Attempt F A) (next : A → Attempt F B) (Q : B → Type 0) →
    ((value : A) → Gives (next value) Q) → Gives (first >>= next) Q
gives_behind (done (Ok value)) next Q onward = onward value
gives_behind (done (Err fault)) next Q onward = tt
gives_behind (want_bytes addr len more) next Q onward = λ got. gives_behind (more got) next Q onward
gives_behind (want_words addr most test more) next Q onward = λ got. gives_behind (more got) next Q onward

-- over a lane it gives such a value
given : {F A : Type 0} (attempt : Attempt F A) (P : A → Type 0) → Gives attempt P → (lane : List ℕ) (before after : List Read) (value : A) →
    over_lane attempt lane before ≡ Some (Ok value, after) → P value
given {F} {A} (done result) P all lane before after value e =
    let same : result ≡ Ok value = (some_pair_parts result (Ok value) before after e).0 in
    subst (λ (result : Result A F). GivesIn P result) same all
given (want_bytes addr len more) P all lane before after value e =
    option_and_then_some _ (lane_bytes lane addr len) (Ok value, after) e (λ got there onward. given (more got) P (all got) lane _ after value onward)
given (want_words addr most test more) P all lane before after value e =
    option_and_then_some _ (lane_words lane addr most test) (Ok value, after) e (λ got there onward. given (more got) P (all got) lane _ after value onward)

-- ---- cookies

abbrev AreKept : NumberMap PageBuffer → List ℕ → Type 0
AreKept buffers cookies = AllByRecursion (λ cookie. IsSome (get buffers cookie)) cookies

abbrev EachOf : {X : Type 0} → List X → (X → Type 0) → Type 0
EachOf xs P = AllByRecursion P xs

-- a part of a registered buffer
part_kept : (number : ℕ) (param : MsgParam) (found : Option PageBuffer) →
    Gives (option_map_or (part_of_buffer number param) found (refuses (Cookie number))) (λ (pieces : List Piece). IsSome found)
part_kept number param None = tt
part_kept number param (Some buffer) = by (nat_lt buffer.size (param.p + param.q))
  where
    by : (b : Bool) → Gives (if b then refuses (Range number) else passes (pieces_from buffer.pages (buffer.offset + param.p) param.q)) (λ (pieces : List Piece). IsSome (Some buffer))
    by true = tt
    by false = refl

limited : (b : Bool) (fault : CopyFault) (attempt : Attempt CopyFault (List Piece)) (P : List Piece → Type 0) → Gives attempt P →
    Gives (if b then refuses fault else attempt) P
limited true fault attempt P all = tt
limited false fault attempt P all = all

pieces_kept : (buffers : NumberMap PageBuffer) (number : ℕ) (param : MsgParam) →
    Gives (rmem_pieces buffers number param) (λ (pieces : List Piece). IsSome (get buffers param.s))
pieces_kept buffers number param =
    limited (nat_lt 65536 param.q) (TooLong number) (registered_pieces buffers number param) _ (part_kept number param (get buffers param.s))

-- memory
rmem_kept : (buffers : NumberMap PageBuffer) (number : ℕ) (way : Way) (param : MsgParam) →
    Gives (memory number way (Some param.s) (rmem_pieces buffers number param)) (λ copy. AreKept buffers (cookie_list copy.cookie))
rmem_kept buffers number way param =
    gives_then (rmem_pieces buffers number param) _ (λ (pieces : List Piece). IsSome (get buffers param.s)) _ (pieces_kept buffers number param)
    (λ pieces kept. gives_behind (read (bytes_of way pieces)) _ _ (λ bytes. (kept, tt)))

tmem_kept : (buffers : NumberMap PageBuffer) (number : ℕ) (way : Way) (param : MsgParam) →
    Gives (memory number way None (tmem_pieces number param)) (λ copy. AreKept buffers (cookie_list copy.cookie))
tmem_kept buffers number way param =
    gives_behind (tmem_pieces number param) _ _ (λ pieces. gives_behind (read (bytes_of way pieces)) _ _ (λ bytes. tt))

-- a parameter
param_kept : (kind : ParamKind) (buffers : NumberMap PageBuffer) (number : ℕ) (param : MsgParam) →
    Gives (copied_as kind buffers number param) (λ copy. AreKept buffers (cookie_list copy.cookie))
param_kept NoParam buffers number param = tt
param_kept ValueIn buffers number param = tt
param_kept ValueOut buffers number param = tt
param_kept ValueInout buffers number param = tt
param_kept RmemIn buffers number param = rmem_kept buffers number In param
param_kept RmemOut buffers number param = rmem_kept buffers number Out param
param_kept RmemInout buffers number param = rmem_kept buffers number Inout param
param_kept TmemIn buffers number param = tmem_kept buffers number In param
param_kept TmemOut buffers number param = tmem_kept buffers number Out param
param_kept TmemInout buffers number param = tmem_kept buffers number Inout param

params_kept : (buffers : NumberMap PageBuffer) (number : ℕ) (params : List MsgParam) →
    Gives (copied_params buffers number params) (λ all. EachOf all (λ copy. AreKept buffers (cookie_list copy.cookie)))
params_kept buffers number [] = tt
params_kept buffers number (param ∷ params) =
    gives_then (copied_param buffers number param) _ _ _ (param_kept param.kind buffers number param)
    (λ copy kept. gives_then (copied_params buffers (suc number) params) _ _ _ (params_kept buffers (suc number) params)
    (λ others all. (kept, all)))

both_kept : (buffers : NumberMap PageBuffer) (one other : List ℕ) → AreKept buffers one → AreKept buffers other → AreKept buffers (one ++ other)
both_kept buffers [] other kept all = all
both_kept buffers (cookie ∷ one) other kept all = (kept.0, both_kept buffers one other kept.1 all)

cookies_of : {X : Type 0} (cookie : X → Option ℕ) (buffers : NumberMap PageBuffer) (all : List X) →
    EachOf all (λ copy. AreKept buffers (cookie_list (cookie copy))) → AreKept buffers (flat_map (λ copy. cookie_list (cookie copy)) all)
cookies_of cookie buffers [] kept = tt
cookies_of cookie buffers (copy ∷ all) kept =
    both_kept buffers (cookie_list (cookie copy)) (flat_map (λ copy. cookie_list (cookie copy)) all) kept.0 (cookies_of cookie buffers all kept.1)

-- all that are copied
pub cookies_kept : (buffers : NumberMap PageBuffer) (params : List MsgParam) (first : ℕ) (lane : List ℕ) (before after : List Read) (copied : Copies) →
    over_lane (copying buffers params first) lane before ≡ Some (Ok copied, after) → AllByRecursion (λ cookie. IsSome (get buffers cookie)) copied.cookies
cookies_kept buffers params first lane before after copied e =
    given (copying buffers params first) (λ (copied : Copies). AreKept buffers copied.cookies)
    (gives_then (copied_params buffers first params) _ _ (λ (copied : Copies). AreKept buffers copied.cookies) (params_kept buffers first params)
    (λ all kept. cookies_of (λ copy. copy.cookie) buffers all kept))
    lane before after copied e

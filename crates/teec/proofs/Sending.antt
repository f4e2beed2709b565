-- Arguments have a spelling, and what stands written before a call.
use Rattle.std.proofs.Common.{◌≡◌, ℕ, suc, Bool, List, [], ◌∷◌, length, take, Option, None, Result, Ok, Err, IsErrOf, refl, sym, ap, ap₂, ◌∙◌, subst, arith}
use Rattle.std.specs.Prelude.{All, false}
use Rattle.std.specs.Result.{IsErrAnd}
use Rattle.std.proofs.lemmas.List.Elements.{All-cons, All-nil}
use Rattle.smc_abi.specs.declared.regs.Regs.{Regs}
use Rattle.smc_port.specs.Smc.{Smc}
use Rattle.msg_args.specs.declared.arg.MsgArg.{MsgArg}
use Rattle.msg_args.specs.declared.kind.ParamKind.{ParamKind}
use Rattle.msg_args.specs.declared.param.MsgParam.{MsgParam}
use Rattle.msg_args.specs.Attribute.{IsAllowed}
use Rattle.ns_ram.specs.Writes.{lane_after}
use Rattle.supplicant.specs.Supplicant.{Storage}
use Rattle.ta_params.specs.declared.copied_params.GpParam.{GpParam}
use Rattle.ta_params.specs.declared.copied_params.GpParam.TheVariants.{Empty, Value, Memref}
use Rattle.teec.proofs.SentParams.{one_then}
use Rattle.teec.specs.declared.fault.TeecFault.{TeecFault}
use Rattle.teec.specs.declared.fault.TeecFault.TheVariants.{Retried}
use Rattle.teec.specs.declared.limits.Limits.{Limits}
use Rattle.teec.specs.declared.operation.Operation.{Operation}
use Rattle.teec.specs.Arguments.{close_argument, invoke_argument, name_of, nobody, open_argument}
use Rattle.teec.specs.Calls.{Call, argument_write, call_of, close_call}
use Rattle.teec.specs.Client.{Calling, HasRun, ends_client, limits_of}
use Rattle.teec.specs.Operation.{buffer_writes, memory_kind, param_sent, params_of, params_sent, plain, sent_from, value_kind}
use Rattle.teec.specs.Places.{argument_at, memory_at}
use Rattle.teec.specs.Rounds.{Calls}
use Rattle.teec.specs.Runs.{IsPrepared, Scene, Stopped, moment, scene_of}

-- ---- parameters have an attribute

plain_allowed : (kind : ParamKind) (p q : ℕ) → IsAllowed (plain kind p q)
plain_allowed kind p q = record { cache = omega arith; noncontig = λ set. absurd cc }

sent_allowed : (number : ℕ) (param : GpParam) → IsAllowed (param_sent number param)
sent_allowed number Empty = plain_allowed _ 0 0
sent_allowed number (Value way a b) = plain_allowed (value_kind way) a b
sent_allowed number (Memref way buf size) = plain_allowed (memory_kind way) (memory_at number) (length buf)

all_sent : (number : ℕ) (params : List GpParam) → All IsAllowed (sent_from number params)
all_sent number [] = All-nil IsAllowed
all_sent number (param ∷ params) = All-cons IsAllowed (param_sent number param) (sent_from (suc number) params) (sent_allowed number param) (all_sent (suc number) params)

meta_allowed : (p q : ℕ) (param : MsgParam) → param.cache ≡ 0 → param.noncontig ≡ false → IsAllowed param
meta_allowed p q param none contig = record { cache = omega (arith, none); noncontig = λ set. absurd cc }

pub open_allowed : (uuid : List ℕ) (op : Operation) (sent : ℕ) → All IsAllowed (open_argument uuid op sent).params.items
open_allowed uuid op sent =
    All-cons IsAllowed (name_of uuid) (nobody ∷ params_sent op sent) (meta_allowed 0 0 (name_of uuid) refl refl)
    (All-cons IsAllowed nobody (params_sent op sent) (meta_allowed 0 0 nobody refl refl) (all_sent 0 (take sent (params_of op.params))))

pub invoke_allowed : (session func : ℕ) (op : Operation) (sent : ℕ) → All IsAllowed (invoke_argument session func op sent).params.items
invoke_allowed session func op sent = all_sent 0 (take sent (params_of op.params))

-- ---- writes before a call

pub call_prepared : (arg : MsgArg) (op : Operation) (session : ℕ) (old between last : List ℕ) (storage stays : Storage)
    → between ≡ lane_after old (buffer_writes op) → last ≡ lane_after between (argument_write argument_at arg ∷ []) → stays ≡ storage
    → IsPrepared (call_of arg op session) session (scene_of old storage) (scene_of last stays)
call_prepared arg op session old between last storage stays first second same =
    record {
      session_is = refl;
      written = ap₂ (λ (ram : List ℕ) (storage : Storage). scene_of ram storage) (one_then old between last (buffer_writes op) (argument_write argument_at arg ∷ []) first second) same;
    }

pub close_prepared : (session : ℕ) (arg : MsgArg) (old last : List ℕ) (storage stays : Storage) → arg ≡ close_argument session
    → last ≡ lane_after old (argument_write argument_at arg ∷ []) → stays ≡ storage
    → IsPrepared (close_call session) session (scene_of old storage) (scene_of last stays)
close_prepared session arg old last storage stays is first same =
    let ram = first ∙ ap (λ (arg : MsgArg). lane_after old (argument_write argument_at arg ∷ [])) is in
    record { session_is = refl; written = ap₂ (λ (ram : List ℕ) (storage : Storage). scene_of ram storage) ram same }

-- ---- a call of a client

-- what is said of a call that begins in this scene, behind these SMCs
abbrev pub OfCall : Type 1
OfCall = Limits → Call → Scene → List Smc → Type 0

pub close_of : {W : Type 0} {seen now : Calling W} (R : OfCall) (ram : W → List ℕ) (made : W → List Smc) → seen ≡ now
    → (session : ℕ) (arg : MsgArg) (written : W) (stays : Storage)
    → arg ≡ close_argument session → ram written ≡ lane_after (ram seen.world) (argument_write argument_at arg ∷ []) → made written ≡ made seen.world → stays ≡ seen.storage
    → ((call : Call) (old : Scene) → IsPrepared call session old (scene_of (ram written) stays) → R (limits_of seen None) call old (made written))
    → R (limits_of now None) (close_call session) (scene_of (ram now.world) now.storage) (made now.world)
close_of {W = W} {seen = seen} {now = now} R ram made is session arg written stays is_arg put unmade kept ran =
    let here = ran (close_call session) (scene_of (ram seen.world) seen.storage) (close_prepared session arg (ram seen.world) (ram written) seen.storage stays is_arg put kept) in
    let from = subst (λ (made : List Smc). R (limits_of seen None) (close_call session) (scene_of (ram seen.world) seen.storage) made) unmade here in
    subst (λ (client : Calling W). R (limits_of client None) (close_call session) (scene_of (ram client.world) client.storage) (made client.world)) is from

pub call_with : {W : Type 0} {seen now : Calling W} (R : OfCall) (ram : W → List ℕ) (made : W → List Smc) → seen ≡ now
    → (cancel_after : Option ℕ) (arg : MsgArg) (op : Operation) (session : ℕ) (filled written : W) (stays : Storage)
    → ram filled ≡ lane_after (ram seen.world) (buffer_writes op) → made filled ≡ made seen.world
    → ram written ≡ lane_after (ram filled) (argument_write argument_at arg ∷ []) → made written ≡ made filled → stays ≡ seen.storage
    → ((call : Call) (old : Scene) → IsPrepared call session old (scene_of (ram written) stays) → R (limits_of seen cancel_after) call old (made written))
    → R (limits_of now cancel_after) (call_of arg op session) (scene_of (ram now.world) now.storage) (made now.world)
call_with {W = W} {seen = seen} {now = now} R ram made is cancel_after arg op session filled written stays fills unmade_first puts unmade kept ran =
    let here = ran (call_of arg op session) (scene_of (ram seen.world) seen.storage) (call_prepared arg op session (ram seen.world) (ram filled) (ram written) seen.storage stays fills puts kept) in
    let from = subst (λ (made : List Smc). R (limits_of seen cancel_after) (call_of arg op session) (scene_of (ram seen.world) seen.storage) made) (unmade ∙ unmade_first) here in
    subst (λ (client : Calling W). R (limits_of client cancel_after) (call_of arg op session) (scene_of (ram client.world) client.storage) (made client.world)) is from

-- a fault is passed on
pub run_stopped : {A : Type 0} (limits : Limits) (call : Call) (old : Scene) (old_made : List Smc) (result : Result A TeecFault) (fault : TeecFault) (new : Scene) (new_made : List Smc) (has_room : Regs → Bool)
    → IsErrAnd result (λ other. other ≡ fault) → Stopped limits call (moment old.ram old_made old.storage (Calls 0)) new new_made has_room fault
    → HasRun limits call old old_made result new new_made has_room
run_stopped limits call old old_made (Ok value) fault new new_made has_room is stopped = absurd is
run_stopped limits call old old_made (Err other) fault new new_made has_room is stopped =
    subst (λ (fault : TeecFault). Stopped limits call (moment old.ram old_made old.storage (Calls 0)) new new_made has_room fault) (sym is) stopped

pub retried_kept : {A : Type 0} (result : Result A TeecFault) (fault : TeecFault) (old new : Storage) (number : ℕ)
    → IsErrAnd result (λ other. other ≡ fault) → (ends_client fault ≡ None → new ≡ old) → IsErrOf result (Retried number) → new ≡ old
retried_kept (Ok value) fault old new number is kept retried = absurd is
retried_kept (Err other) fault old new number is kept retried =
    let same : fault ≡ Retried number = cc in
    kept (ap (λ (fault : TeecFault). ends_client fault) same)

pub same_storage : {W : Type 0} {seen now : Calling W} → seen ≡ now → seen.storage ≡ now.storage
same_storage {W = W} same = ap (λ (client : Calling W). client.storage) same

-- What a message holds is answered.
use Rattle.std.proofs.Common.{◌≡◌, ℕ, List, Option, Some, None, refl, sym, ap, ap₂, ◌∙◌}
use Rattle.ns_ram.specs.Lane.{bytes_at}
use Rattle.ns_ram.specs.Writes.{lane_after}
use Rattle.rpc_msgs.specs.declared.rpc.Rpc.{Rpc}
use Rattle.rpc_msgs.specs.declared.rpc.RpcReply.{RpcReply}
use Rattle.supplicant.specs.declared.request.Request.{Request}
use Rattle.supplicant.specs.Answering.{refusal_writes, reply_writes}
use Rattle.supplicant.specs.Holding.{Holds}
use Rattle.supplicant.specs.Supplicant.{Storage, answered}
use Rattle.teec.specs.declared.answer.RpcKind.{RpcKind}
use Rattle.teec.specs.declared.answer.RpcKind.TheVariants.{Alloc, Free, Interrupt, Cmd}
use Rattle.teec.specs.Places.{message_at, message_cookie}
use Rattle.teec.specs.Runs.{AnswersMessage, AnswersRpc, Scene, after_request, scene_of}

-- whatever a message holds, it was read
abbrev pub FindsAll : List ℕ → Option Request → Type 0
FindsAll ram found =
    (rpc : Rpc) (payload : List ℕ) → Holds (bytes_at ram message_at 4096) message_at message_cookie rpc payload
    → found ≡ Some (record { rpc = rpc; payload = payload })

pub none_held : (old last : List ℕ) (storage : Storage) (found : Option Request) → found ≡ None → FindsAll old found
    → last ≡ lane_after old (refusal_writes message_at) → AnswersMessage (scene_of old storage) (scene_of last storage)
none_held old last storage found none all written =
    record {
      request = λ rpc payload holds. let some = sym none ∙ all rpc payload holds in absurd cc;
      none = λ no. ap (λ (ram : List ℕ). scene_of ram storage) written;
    }

pub one_held : (old last : List ℕ) (before after : Storage) (found : Option Request) (request : Request) (reply : RpcReply) → found ≡ Some request → FindsAll old found
    → Holds (bytes_at old message_at 4096) message_at message_cookie request.rpc request.payload
    → reply ≡ (answered before request.rpc request.payload).reply → after ≡ (answered before request.rpc request.payload).after
    → last ≡ lane_after old (reply_writes message_at request.rpc reply) → AnswersMessage (scene_of old before) (scene_of last after)
one_held old last before after found request reply is all held replied stored written =
    let ram = written ∙ ap (λ (reply : RpcReply). lane_after old (reply_writes message_at request.rpc reply)) replied in
    let whole : scene_of last after ≡ after_request (scene_of old before) request.rpc request.payload = ap₂ (λ (ram : List ℕ) (storage : Storage). scene_of ram storage) ram stored in
    record {
      request = λ rpc payload holds.
          let both : Some request ≡ Some (record { rpc = rpc; payload = payload }) = sym is ∙ all rpc payload holds in
          let same : request ≡ record { rpc = rpc; payload = payload } = cc in
          whole ∙ ap (λ (request : Request). after_request (scene_of old before) request.rpc request.payload) same;
      none = λ no. absurd (no request.rpc request.payload held);
    }

pub nothing_asked : (kind : RpcKind) (now : Scene) → ¬ (kind ≡ Cmd message_cookie) → AnswersRpc kind now now
nothing_asked Alloc now other = refl
nothing_asked Free now other = refl
nothing_asked Interrupt now other = refl
nothing_asked (Cmd cookie) now other =
    record { own = λ same. absurd (other (ap (λ (cookie : ℕ). Cmd cookie) same)); other = λ different. refl }

-- What a resume gives a call: a buffer that lies in RAM, or something else.
use Rattle.std.proofs.Common.{◌≡◌, ℕ, Bool, true, false, List, Some, None, refl}
use Rattle.std.specs.Prelude.{◌%◌, ◌+◌, ◌==◌, ◌&&◌, if◌then◌else◌, nat_le}
use Rattle.std.specs.Option.{option_map_or}
use Rattle.std.proofs.lemmas.Bool.{leb-true}
use Rattle.std.proofs.lemmas.Bool.Decides.{Decides-eqb}
use Rattle.ns_ram.specs.Lane.{IsInRam, is_in_ram}
use Rattle.ns_ram.specs.Reader.{Reader, done, want_bytes, want_words, ◌>>=◌}
use Rattle.rpc_msgs.specs.Place.{reader_at}
use Rattle.rpc_msgs.specs.declared.rpc.RpcReply.{RpcReply}
use Rattle.rpc_msgs.specs.declared.rpc_buffer.RpcBuffer.{RpcBuffer}
use Rattle.kernel_model.specs.Argument.{pair_at}
use Rattle.kernel_model.specs.Given.{Buffer, Given, NoBuffer, Nothing, Reply, given_after, given_to}
use Rattle.kernel_model.specs.Kernel.{PendingCall}
use Rattle.kernel_model.specs.Leaving.{FreesBuffer, Finishes, Interrupted, Leaving, Requests, WantsBuffer, leaving_of}
use Rattle.kernel_model.proofs.Parts.{AllOf}

abbrev pub IsPlaced : RpcBuffer → Type 0
IsPlaced buffer = IsInRam buffer.addr 4096 × (buffer.addr % 8 ≡ 0)

-- a buffer that is given is one
abbrev pub IsOffered : Given → Type 0
IsOffered Nothing = Unit {0}
IsOffered (Buffer buffer) = IsPlaced buffer
IsOffered NoBuffer = Unit {0}
IsOffered (Reply reply) = Unit {0}

both_true : (one other : Bool) → (one && other) ≡ true → (one ≡ true) × (other ≡ true)
both_true true other e = (refl, e)
both_true false other e = absurd cc

is_placed : (buffer : RpcBuffer) → ((buffer.addr % 8 == 0) && is_in_ram buffer.addr 4096) ≡ true → IsPlaced buffer
is_placed buffer e =
    let tests = both_true (buffer.addr % 8 == 0) (is_in_ram buffer.addr 4096) e in
    let bounds = both_true (nat_le 0x40000000 buffer.addr) (nat_le (buffer.addr + 4096) (0x40000000 + 0x400000)) tests.1 in (
      (leb-true 0x40000000 buffer.addr bounds.0, leb-true (buffer.addr + 4096) (0x40000000 + 0x400000) bounds.1),
      (Decides-eqb (buffer.addr % 8) 0).0 tests.0,
    )

offer : (buffer : RpcBuffer) (test : Bool) → ((buffer.addr % 8 == 0) && is_in_ram buffer.addr 4096) ≡ test
    → IsOffered (option_map_or Buffer (if test then Some buffer else None) NoBuffer)
offer buffer true is = is_placed buffer is
offer buffer false is = tt

replies : (reader : Reader RpcReply) → AllOf IsOffered (reader >>= (λ reply. done (Reply reply)))
replies (done reply) = tt
replies (want_bytes addr len next) = λ got. replies (next got)
replies (want_words addr most test next) = λ got. replies (next got)

after_offered : (regs : List ℕ) (leaving : Leaving) → AllOf IsOffered (given_after regs leaving)
after_offered regs Interrupted = tt
after_offered regs WantsBuffer =
    offer (record { addr = pair_at regs 1; cookie = pair_at regs 4 }) ((pair_at regs 1 % 8 == 0) && is_in_ram (pair_at regs 1) 4096) refl
after_offered regs (Requests place request) = replies (reader_at place request.wanted)
after_offered regs (FreesBuffer buffer) = tt
after_offered regs (Finishes result params) = tt

pub all_offered : (regs : List ℕ) (slot : ℕ) (call : PendingCall) → AllOf IsOffered (given_to regs slot call)
all_offered regs slot call = after_offered regs (leaving_of slot call)

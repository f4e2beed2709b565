-- As many parameters as are sent, and the writes of all buffers.
use Rattle.std.proofs.Common.{◌≡◌, ℕ, zero, suc, List, [], ◌∷◌, ◌++◌, take, refl, sym, ap, ◌∙◌, append-nil}
use Rattle.msg_args.specs.declared.param.MsgParam.{MsgParam}
use Rattle.ns_ram.specs.Writes.{Write, lane_after}
use Rattle.ns_ram.proofs.WriteList.{lane_after-append}
use Rattle.ta_params.specs.declared.copied_params.GpParam.{GpParam}
use Rattle.teec.specs.declared.operation.Operation.{Operation}
use Rattle.teec.specs.Operation.{buffer_writes, memory_writes, param_sent, params_of, params_sent, sent_from}

-- ---- as many parameters as are sent

taken : (number count : ℕ) (params : List GpParam) → take count (sent_from number params) ≡ sent_from number (take count params)
taken number zero params = refl
taken number (suc count) [] = refl
taken number (suc count) (param ∷ params) = ap (λ (rest : List MsgParam). param_sent number param ∷ rest) (taken (suc number) count params)

pub sent_so : (r0 r1 r2 r3 : MsgParam) (op : Operation) (sent : ℕ) → r0 ≡ param_sent 0 op.params.p0 → r1 ≡ param_sent 1 op.params.p1 → r2 ≡ param_sent 2 op.params.p2
    → r3 ≡ param_sent 3 op.params.p3 → take sent (r0 ∷ r1 ∷ r2 ∷ r3 ∷ []) ≡ params_sent op sent
sent_so r0 r1 r2 r3 op sent e0 e1 e2 e3 =
    let all : r0 ∷ r1 ∷ r2 ∷ r3 ∷ [] ≡ sent_from 0 (params_of op.params) = cc in
    ap (λ (params : List MsgParam). take sent params) all ∙ taken 0 sent (params_of op.params)

-- ---- writes

pub one_then : (old between last : List ℕ) (first later : List Write) → between ≡ lane_after old first → last ≡ lane_after between later
    → last ≡ lane_after old (first ++ later)
one_then old between last first later is onward =
    onward ∙ ap (λ (lane : List ℕ). lane_after lane later) is ∙ sym (lane_after-append old first later)

pub four_buffers : (r0 r1 r2 r3 r4 : List ℕ) (op : Operation) → r1 ≡ lane_after r0 (memory_writes 0 op.params.p0) → r2 ≡ lane_after r1 (memory_writes 1 op.params.p1)
    → r3 ≡ lane_after r2 (memory_writes 2 op.params.p2) → r4 ≡ lane_after r3 (memory_writes 3 op.params.p3)
    → r4 ≡ lane_after r0 (buffer_writes op)
four_buffers r0 r1 r2 r3 r4 op e1 e2 e3 e4 =
    let w1 = memory_writes 1 op.params.p1 in
    let w2 = memory_writes 2 op.params.p2 in
    let w3 = memory_writes 3 op.params.p3 in
    one_then r0 r1 r4 (memory_writes 0 op.params.p0) (w1 ++ (w2 ++ (w3 ++ []))) e1
    (one_then r1 r2 r4 w1 (w2 ++ (w3 ++ [])) e2
    (one_then r2 r3 r4 w2 (w3 ++ []) e3 (e4 ∙ ap (λ (writes : List Write). lane_after r3 writes) (sym (append-nil w3)))))

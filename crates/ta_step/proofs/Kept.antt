-- No step changes the shape of a machine, one that goes on doesn't change what it waits for, and one that asks
-- names bytes that are all in one range.
use Rattle.std.proofs.Common.{◌≡◌, ℕ, zero, suc, ◌+◌, Bool, true, false, List, [], ◌∷◌, ◌++◌, length, take, drop, Option, Some, None, refl, ap, sym, subst, ◌∙◌}
use Rattle.std.specs.Prelude.{◌==◌, ◌-◌, nat_lt, slice_index, ◌%◌, ◌/◌, if◌then◌else◌, find, slice_get, slice_index_or, option_and_then}
use Rattle.std.specs.Option.{option_map}
use Rattle.std.specs.Int.{w32, to_le_bytes}
use Rattle.std.proofs.lemmas.List.{length-set}
use Rattle.ta_isa.specs.declared.image.Instr.{Instr}
use Rattle.ta_params.specs.declared.object_call.ObjectCall.{ObjectCall}
use Rattle.ta_params.specs.declared.object_call.ObjectCall.TheVariants.{Create, Opened, Read, Write, Seek, Close, Delete}
use Rattle.ta_params.specs.declared.copied_params.Way.TheVariants.{In, Out, Inout}
use Rattle.ta_params.specs.declared.copied_params.GpParam.{GpParam}
use Rattle.ta_params.specs.declared.copied_params.GpParam.TheVariants.{Empty, Value, Memref}
use Rattle.ta_params.specs.declared.copied_params.CopiedParams.{CopiedParams}
use Rattle.ta_params.specs.CopiedParams.{way_bits}
use Rattle.ta_step.specs.declared.stop.Request.{Request}
use Rattle.ta_step.specs.declared.stop.Request.TheVariants.{Suspend, Object}
use Rattle.ta_step.specs.declared.stop.Stop.TheVariants as stop
use Rattle.ta_step.specs.State.{State, reg, put, is_cancelled}
use Rattle.base.specs.Bytes.{written}
use Rattle.base.proofs.Overwriting.{length-written}
use Rattle.ta_step.specs.Parameters.{param_at, with_param, buffer, with_buffer, with_value, with_size}
use Rattle.ta_step.specs.Addresses.{ranges, range_at, with_range, is_inside, is_range, store}
use Rattle.ta_step.specs.Outcome.{Outcome, goes_on, goes_to, asking, Goes, Returns, Panics, Asks}
use Rattle.ta_step.specs.SystemCalls as calls
use Rattle.ta_step.specs.Operations as ops
use Rattle.ta_step.specs.Operations.{Effect, operations, effect_of}
use Rattle.ta_step.specs.Step.{step, outcome_of}
use Rattle.ta_step.specs.Requests.{object_span, NamesRange}
use Rattle.ta_step.specs.Runs.{Ran, request_of, later, continued, runs}
use Rattle.ta_step.specs.Shape.{shape, shapes, SameShape}

-- the same shape, and the same request to wait for
record SameRest (old new : State) : Type 0 where
  shape : SameShape old new
  asked : new.asked ≡ old.asked

shape-same : (s : State) → SameShape s s
shape-same s = record { registers = refl; memory = refl; params = refl; login = refl; cancelled = refl }

shape-both : (s t u : State) → SameShape s t → SameShape t u → SameShape s u
shape-both s t u h k = record {
  registers = k.registers ∙ h.registers;
  memory = k.memory ∙ h.memory;
  params = k.params ∙ h.params;
  login = k.login ∙ h.login;
  cancelled = k.cancelled ∙ h.cancelled;
}

same : (s : State) → SameRest s s
same s = record { shape = shape-same s; asked = refl }

-- where the outcome is another machine, it has the same shape, and waits for the same; where it is a request,
-- the bytes that this names are all in one range
abbrev Keeps : State → Outcome → Type 0
Keeps s (Goes next) = SameRest s next
Keeps s (Returns result context) = Unit {0}
Keeps s (Panics code) = Unit {0}
Keeps s (Asks request) = NamesRange (stop.Asks request) s

either : (s : State) (b : Bool) (x y : Outcome) → Keeps s x → Keeps s y → Keeps s (if b then x else y)
either s true x y h k = h
either s false x y h k = k

-- what is kept does not depend on the place
onward : (s t : State) → SameRest s t → Keeps s (goes_on t)
onward s t h = record {
  shape = record {
    registers = h.shape.registers;
    memory = h.shape.memory;
    params = h.shape.params;
    login = h.shape.login;
    cancelled = h.shape.cancelled;
  };
  asked = h.asked;
}

put-same : (s t : State) (number value : ℕ) → SameRest s t → SameRest s (put t number value)
put-same s t number value h = record {
  shape = record {
    registers = length-set t.registers number value ∙ h.shape.registers;
    memory = h.shape.memory;
    params = h.shape.params;
    login = h.shape.login;
    cancelled = h.shape.cancelled;
  };
  asked = h.asked;
}

puts : (s : State) (number value : ℕ) → Keeps s (goes_on (put s number value))
puts s number value = onward s (put s number value) (put-same s s number value (same s))

with_buffer-shape : (p : GpParam) (bytes : List ℕ) → length bytes ≡ length (buffer p) → shape (with_buffer p bytes) ≡ shape p
with_buffer-shape Empty bytes e = refl
with_buffer-shape (Value way a b) bytes e = refl
with_buffer-shape (Memref way buf size) bytes e = ap (λ (n : ℕ). (4 + way_bits way, n)) e

-- the shapes where one of the four parameters has the shape that it had
params-same : (s : State) (ps : CopiedParams) → shapes ps ≡ shapes s.params → SameRest s (record s { params = ps })
params-same s ps e = record {
  shape = record { registers = refl; memory = refl; params = e; login = refl; cancelled = refl };
  asked = refl;
}

first : (ps : CopiedParams) (p : GpParam) → shape p ≡ shape ps.p0 → shapes (with_param ps 0 p) ≡ shapes ps
first ps p e = ap (λ (x : ℕ × ℕ). x ∷ shape ps.p1 ∷ shape ps.p2 ∷ shape ps.p3 ∷ []) e

second : (ps : CopiedParams) (p : GpParam) → shape p ≡ shape ps.p1 → shapes (with_param ps 1 p) ≡ shapes ps
second ps p e = ap (λ (x : ℕ × ℕ). shape ps.p0 ∷ x ∷ shape ps.p2 ∷ shape ps.p3 ∷ []) e

third : (ps : CopiedParams) (p : GpParam) → shape p ≡ shape ps.p2 → shapes (with_param ps 2 p) ≡ shapes ps
third ps p e = ap (λ (x : ℕ × ℕ). shape ps.p0 ∷ shape ps.p1 ∷ x ∷ shape ps.p3 ∷ []) e

fourth : (ps : CopiedParams) (p : GpParam) → shape p ≡ shape ps.p3 → shapes (with_param ps 3 p) ≡ shapes ps
fourth ps p e = ap (λ (x : ℕ × ℕ). shape ps.p0 ∷ shape ps.p1 ∷ shape ps.p2 ∷ x ∷ []) e

with_range-same : (s : State) (number : ℕ) (bytes : List ℕ) → length bytes ≡ length (slice_index_or (ranges s) number []) → SameRest s (with_range s number bytes)
with_range-same s zero bytes e = record {
  shape = record { registers = refl; memory = e; params = refl; login = refl; cancelled = refl };
  asked = refl;
}
with_range-same s (suc zero) bytes e =
    params-same s (with_param s.params 0 (with_buffer s.params.p0 bytes)) (first s.params (with_buffer s.params.p0 bytes) (with_buffer-shape s.params.p0 bytes e))
with_range-same s (suc (suc zero)) bytes e =
    params-same s (with_param s.params 1 (with_buffer s.params.p1 bytes)) (second s.params (with_buffer s.params.p1 bytes) (with_buffer-shape s.params.p1 bytes e))
with_range-same s (suc (suc (suc zero))) bytes e =
    params-same s (with_param s.params 2 (with_buffer s.params.p2 bytes)) (third s.params (with_buffer s.params.p2 bytes) (with_buffer-shape s.params.p2 bytes e))
with_range-same s (suc (suc (suc (suc zero)))) bytes e =
    params-same s (with_param s.params 3 (with_buffer s.params.p3 bytes)) (fourth s.params (with_buffer s.params.p3 bytes) (with_buffer-shape s.params.p3 bytes e))
with_range-same s (suc (suc (suc (suc (suc number))))) bytes e = same s

store-same : (s : State) (addr : ℕ) (new : List ℕ) → SameRest s (store s addr new)
store-same s addr new =
    let place = addr % 0x10000000 in
    with_range-same s (addr / 0x10000000) (written (range_at s addr) place new)
    (length-written (range_at s addr) place new)

-- a change of a parameter that keeps its shape
abbrev KeepsParam : (GpParam → Option GpParam) → Type 0
KeepsParam change = (p q : GpParam) → change p ≡ Some q → shape q ≡ shape p

abbrev KeepsParams : CopiedParams → ℕ → Option GpParam → Type 0
KeepsParams ps number None = Unit {0}
KeepsParams ps number (Some p) = shapes (with_param ps number p) ≡ shapes ps

params-kept : (ps : CopiedParams) (number : ℕ) (change : GpParam → Option GpParam) (o : Option GpParam) → KeepsParam change
    → option_and_then change (param_at ps number) ≡ o → KeepsParams ps number o
params-kept ps number change None keeps e = tt
params-kept ps zero change (Some p) keeps e = first ps p (keeps ps.p0 p e)
params-kept ps (suc zero) change (Some p) keeps e = second ps p (keeps ps.p1 p e)
params-kept ps (suc (suc zero)) change (Some p) keeps e = third ps p (keeps ps.p2 p e)
params-kept ps (suc (suc (suc zero))) change (Some p) keeps e = fourth ps p (keeps ps.p3 p e)
params-kept ps (suc (suc (suc (suc number)))) change (Some p) keeps e = refl

with_value-shape : (x y : ℕ) → KeepsParam (λ p. with_value p x y)
with_value-shape x y Empty q e = absurd cc
with_value-shape x y (Value In a b) q e = absurd cc
with_value-shape x y (Value Out a b) q e = let is : Value Out x y ≡ q = cc in ap shape (sym is)
with_value-shape x y (Value Inout a b) q e = let is : Value Inout x y ≡ q = cc in ap shape (sym is)
with_value-shape x y (Memref way buf size) q e = absurd cc

with_size-shape : (n : ℕ) → KeepsParam (λ p. with_size p n)
with_size-shape n Empty q e = absurd cc
with_size-shape n (Value way a b) q e = absurd cc
with_size-shape n (Memref In buf size) q e = absurd cc
with_size-shape n (Memref Out buf size) q e = let is : Memref Out buf n ≡ q = cc in ap shape (sym is)
with_size-shape n (Memref Inout buf size) q e = let is : Memref Inout buf n ≡ q = cc in ap shape (sym is)

param-changed : (s : State) (o : Option GpParam) → KeepsParams s.params (reg s 0) o → Keeps s (calls.changes_param s o)
param-changed s None h = tt
param-changed s (Some p) h = record {
  shape = record { registers = refl; memory = refl; params = h; login = refl; cancelled = refl };
  asked = refl;
}

set_value-kept : (s : State) → Keeps s (calls.set_value s)
set_value-kept s =
    param-changed s _ (params-kept s.params (reg s 0) (λ p. with_value p (reg s 1) (reg s 2)) _ (with_value-shape (reg s 1) (reg s 2)) refl)

set_size-kept : (s : State) → Keeps s (calls.set_size s)
set_size-kept s = param-changed s _ (params-kept s.params (reg s 0) (λ p. with_size p (reg s 1)) _ (with_size-shape (reg s 1)) refl)

value-given : (s : State) (o : Option GpParam) → Keeps s (calls.gives_value s o)
value-given s None = tt
value-given s (Some Empty) = tt
value-given s (Some (Value way a b)) = onward s (put (put s 0 a) 1 b) (put-same s (put s 0 a) 1 b (put-same s s 0 a (same s)))
value-given s (Some (Memref way buf size)) = tt

size-given : (s : State) (o : Option GpParam) → Keeps s (calls.gives_size s o)
size-given s None = tt
size-given s (Some Empty) = tt
size-given s (Some (Value way a b)) = tt
size-given s (Some (Memref way buf size)) = puts s 0 size

stored-kept : (s : State) (addr : ℕ) (bytes : List ℕ) → Keeps s (ops.stored s addr bytes)
stored-kept s addr bytes =
    either s (is_inside s addr (length bytes)) (goes_on (store s addr bytes)) (Panics 1) (onward s (store s addr bytes) (store-same s addr bytes)) tt

loaded-kept : (s : State) (number : ℕ) (o : Option ℕ) → Keeps s (ops.loaded s number o)
loaded-kept s number None = tt
loaded-kept s number (Some value) = puts s number value

login-kept : (s : State) → Keeps s (calls.login s)
login-kept s =
    let written = store s (reg s 0) s.login.client in
    either s (is_inside s (reg s 0) (length s.login.client)) (goes_on (put written 0 s.login.kind)) (Panics 1)
    (onward s (put written 0 s.login.kind) (put-same s written 0 s.login.kind (store-same s (reg s 0) s.login.client))) tt

masks-kept : (masked : Bool) (s : State) → Keeps s (calls.masks masked s)
masks-kept masked s = record {
  shape = record {
    registers = length-set s.registers 0 (calls.bit s.masked);
    memory = refl;
    params = refl;
    login = refl;
    cancelled = refl;
  };
  asked = refl;
}

wait-kept : (s : State) → Keeps s (calls.wait s)
wait-kept s = either s (is_cancelled s) (goes_on (put s 0 0xffff0002)) (Asks (Suspend (reg s 0))) (puts s 0 0xffff0002) refl

-- a call on an object, where the test of its range has come out so
asked-kept : (s : State) (call : ObjectCall) (b : Bool) → (let span = object_span call in is_range s span.0 span.1 ≡ b)
    → Keeps s (if b then Asks (Object call) else Panics 1)
asked-kept s call true e = e
asked-kept s call false e = tt

object-kept : (s : State) (call : ObjectCall) → Keeps s (calls.object call s)
object-kept s call = let span = object_span call in asked-kept s call (is_range s span.0 span.1) refl

moved : (s : State) (place : ℕ) (stack : List ℕ) → SameRest s (record s { place = place; stack = stack })
moved s place stack = record {
  shape = record { registers = refl; memory = refl; params = refl; login = refl; cancelled = refl };
  asked = refl;
}

divided-kept : (s : State) (divisor number value : ℕ) → Keeps s (ops.divided_by s divisor number value)
divided-kept s divisor number value = either s (divisor == 0) (Panics 3) (goes_on (put s number value)) tt (puts s number value)

branched-kept : (s : State) (taken : Bool) (target : ℕ) → Keeps s (ops.branched s taken target)
branched-kept s taken target = either s taken (goes_to s target) (goes_on s) (moved s target s.stack) (onward s s (same s))

called-kept : (s : State) (target : ℕ) → Keeps s (ops.called s target)
called-kept s target =
    let pushed = s.stack ++ (s.place + 1) ∷ [] in
    either s (nat_lt (length s.stack) 64) (Goes (record s { place = target; stack = pushed })) (Panics 4) (moved s target pushed) tt

returned-kept : (s : State) → Keeps s (ops.returned s)
returned-kept s =
    let last = length s.stack - 1 in
    let place = slice_index s.stack last in
    either s (length s.stack == 0) (Panics 4) (Goes (record s { place = place; stack = take last s.stack })) tt (moved s place (take last s.stack))

-- an effect keeps the shape, if there is one
abbrev EffectKeeps : Option Effect → Type 0
EffectKeeps None = Unit {0}
EffectKeeps (Some f) = (s : State) → Keeps s (f s)

abbrev CallsKeep : List (ℕ × Effect) → Type 0
CallsKeep [] = Unit {0}
CallsKeep (e ∷ es) = ((s : State) → Keeps s (e.1 s)) × CallsKeep es

abbrev RowsKeep : List (ℕ × (Instr → Option Effect)) → Type 0
RowsKeep [] = Unit {0}
RowsKeep (e ∷ es) = ((i : Instr) → EffectKeeps (e.1 i)) × RowsKeep es

call_at : (e : ℕ × Effect) (o : Option (ℕ × Effect)) (b : Bool) → ((s : State) → Keeps s (e.1 s)) → EffectKeeps (option_map (λ x. x.1) o)
    → EffectKeeps (option_map (λ x. x.1) (if b then Some e else o))
call_at e o true h k = h
call_at e o false h k = k

call_found : (es : List (ℕ × Effect)) (number : ℕ) → CallsKeep es → EffectKeeps (option_map (λ x. x.1) (find (λ x. x.0 == number) es))
call_found [] number h = tt
call_found (e ∷ es) number h = call_at e (find (λ x. x.0 == number) es) (e.0 == number) h.0 (call_found es number h.1)

row_at : (i : Instr) (e : ℕ × (Instr → Option Effect)) (o : Option (ℕ × (Instr → Option Effect))) (b : Bool) → EffectKeeps (e.1 i)
    → EffectKeeps (option_and_then (λ x. x.1 i) o) → EffectKeeps (option_and_then (λ x. x.1 i) (if b then Some e else o))
row_at i e o true h k = h
row_at i e o false h k = k

row_found : (es : List (ℕ × (Instr → Option Effect))) (i : Instr) → RowsKeep es → EffectKeeps (option_and_then (λ x. x.1 i) (find (λ x. x.0 == i.op) es))
row_found [] i h = tt
row_found (e ∷ es) i h = row_at i e (find (λ x. x.0 == i.op) es) (e.0 == i.op) (h.0 i) (row_found es i h.1)

-- the calls from number 11 on ask the world outside
asks_keep : CallsKeep (drop 11 calls.system_calls)
asks_keep = (
  λ s. refl,
  (
    wait-kept,
    (
      λ s. object-kept s (Create (reg s 0) (reg s 1)),
      (
        λ s. object-kept s (Opened (reg s 0) (reg s 1)),
        (
          λ s. object-kept s (Read (reg s 0) (reg s 1) (reg s 2)),
          (
            λ s. object-kept s (Write (reg s 0) (reg s 1) (reg s 2)),
            (
              λ s. object-kept s (Seek (reg s 0) (reg s 1)),
              (λ s. object-kept s (Close (reg s 0)), (λ s. object-kept s (Delete (reg s 0)), tt)),
            ),
          ),
        ),
      ),
    ),
  ),
)

calls_keep : CallsKeep calls.system_calls
calls_keep = (λ s. tt, (λ s. tt, (λ s. puts s 0 _, (λ s. value-given s _, (set_value-kept, (λ s. size-given s _, (set_size-kept, (login-kept, (λ s. puts s 0 _, (masks-kept true, (masks-kept false, asks_keep)))))))))))

rows_keep : RowsKeep operations
rows_keep = (
  λ i s. puts s _ _,
  (
    λ i s. puts s _ _,
    (
      λ i s. puts s _ _,
      (
        λ i s. puts s _ _,
        (
          λ i s. puts s _ _,
          (
            λ i s. divided-kept s _ _ _,
            (
              λ i s. divided-kept s _ _ _,
              (
                λ i s. puts s _ _,
                (
                  λ i s. puts s _ _,
                  (
                    λ i s. puts s _ _,
                    (
                      λ i s. puts s _ _,
                      (
                        λ i s. puts s _ _,
                        (
                          λ i s. loaded-kept s _ _,
                          (
                            λ i s. loaded-kept s _ _,
                            (
                              λ i s. stored-kept s (ops.address i s) (reg s i.b % 256 ∷ []),
                              (
                                λ i s. stored-kept s (ops.address i s) (to_le_bytes w32 (reg s i.b)),
                                (
                                  λ i s. branched-kept s _ _,
                                  (
                                    λ i s. branched-kept s _ _,
                                    (
                                      λ i s. branched-kept s _ _,
                                      (
                                        λ i s. branched-kept s _ _,
                                        (
                                          λ i s. moved s _ _,
                                          (
                                            λ i s. called-kept s _,
                                            (
                                              λ i s. returned-kept s,
                                              (λ i. call_found calls.system_calls i.imm calls_keep, tt),
                                            ),
                                          ),
                                        ),
                                      ),
                                    ),
                                  ),
                                ),
                              ),
                            ),
                          ),
                        ),
                      ),
                    ),
                  ),
                ),
              ),
            ),
          ),
        ),
      ),
    ),
  ),
)

abbrev OutcomeKeeps : State → Option Outcome → Type 0
OutcomeKeeps s None = Unit {0}
OutcomeKeeps s (Some o) = Keeps s o

applied : (s : State) (o : Option Effect) → EffectKeeps o → OutcomeKeeps s (option_map (λ effect. effect s) o)
applied s None h = tt
applied s (Some f) h = h s

step-kept : (s : State) (found : Option Instr) → OutcomeKeeps s (outcome_of found s)
step-kept s None = tt
step-kept s (Some i) = applied s (effect_of i) (row_found operations i rows_keep)

ended : (s : State) (ran last : Ran) → SameShape s last.state → Some last ≡ Some ran → SameShape s ran.state
ended s ran last h e =
    let is : last ≡ ran = cc in
    let P : Ran → Type 0 = λ r. SameShape s r.state in
    subst P is h

later-kept : (s next : State) (ran : Ran) (rest : Option Ran) → SameShape s next → ((r : Ran) → rest ≡ Some r → SameShape next r.state)
    → option_map (later 1) rest ≡ Some ran → SameShape s ran.state
later-kept s next ran None h k e = absurd cc
later-kept s next ran (Some r) h k e = ended s ran (later 1 r) (shape-both s next r.state h (k r refl)) e

asking-shape : (s : State) (request : Request) → SameShape s (asking request s)
asking-shape s request = record { registers = refl; memory = refl; params = refl; login = refl; cancelled = refl }

continued-kept : (s : State) (ran : Ran) (rest : State → Option Ran) (o : Option Outcome) → OutcomeKeeps s o
    → ((t : State) (r : Ran) → rest t ≡ Some r → SameShape t r.state) → option_and_then (continued rest s) o ≡ Some ran → SameShape s ran.state
continued-kept s ran rest None h k e = absurd cc
continued-kept s ran rest (Some (Goes next)) h k e = later-kept s next ran (rest next) h.shape (k next) e
continued-kept s ran rest (Some (Returns result context)) h k e = ended s ran _ (shape-same s) e
continued-kept s ran rest (Some (Panics code)) h k e = ended s ran _ (shape-same s) e
continued-kept s ran rest (Some (Asks request)) h k e = ended s ran _ (asking-shape s request) e

pub runs-kept : (code : List Instr) (n : ℕ) (s : State) (ran : Ran) → runs code n s ≡ Some ran → SameShape s ran.state
runs-kept code zero s ran e = ended s ran _ (shape-same s) e
runs-kept code (suc n) s ran e = continued-kept s ran (runs code n) (step code s) (step-kept s (slice_get code s.place)) (runs-kept code n) e

-- a run leaves the request of its stop
abbrev Waits : Ran → Type 0
Waits ran = ran.state.asked ≡ request_of ran.stop

waits : (ran last : Ran) → Waits last → Some last ≡ Some ran → Waits ran
waits ran last h e =
    let is : last ≡ ran = cc in
    subst Waits is h

later-waits : (ran : Ran) (rest : Option Ran) → ((r : Ran) → rest ≡ Some r → Waits r) → option_map (later 1) rest ≡ Some ran → Waits ran
later-waits ran None k e = absurd cc
later-waits ran (Some r) k e = waits ran (later 1 r) (k r refl) e

continued-waits : (s : State) (ran : Ran) (rest : State → Option Ran) (o : Option Outcome) → OutcomeKeeps s o → s.asked ≡ None
    → ((t : State) (r : Ran) → t.asked ≡ None → rest t ≡ Some r → Waits r) → option_and_then (continued rest s) o ≡ Some ran → Waits ran
continued-waits s ran rest None h none k e = absurd cc
continued-waits s ran rest (Some (Goes next)) h none k e = later-waits ran (rest next) (λ r. k next r (h.asked ∙ none)) e
continued-waits s ran rest (Some (Returns result context)) h none k e = waits ran _ none e
continued-waits s ran rest (Some (Panics code)) h none k e = waits ran _ none e
continued-waits s ran rest (Some (Asks request)) h none k e = waits ran _ refl e

pub runs-waits : (code : List Instr) (n : ℕ) (s : State) (ran : Ran) → s.asked ≡ None → runs code n s ≡ Some ran → ran.state.asked ≡ request_of ran.stop
runs-waits code zero s ran none e = waits ran _ none e
runs-waits code (suc n) s ran none e =
    continued-waits s ran (runs code n) (step code s) (step-kept s (slice_get code s.place)) none (runs-waits code n) e

-- the bytes that a run's stop names are in one range of what it leaves
abbrev Names : Ran → Type 0
Names ran = NamesRange ran.stop ran.state

names : (ran last : Ran) → Names last → Some last ≡ Some ran → Names ran
names ran last h e =
    let is : last ≡ ran = cc in
    subst Names is h

later-names : (ran : Ran) (rest : Option Ran) → ((r : Ran) → rest ≡ Some r → Names r) → option_map (later 1) rest ≡ Some ran → Names ran
later-names ran None k e = absurd cc
later-names ran (Some r) k e = names ran (later 1 r) (k r refl) e

continued-names : (s : State) (ran : Ran) (rest : State → Option Ran) (o : Option Outcome) → OutcomeKeeps s o
    → ((t : State) (r : Ran) → rest t ≡ Some r → Names r) → option_and_then (continued rest s) o ≡ Some ran → Names ran
continued-names s ran rest None h k e = absurd cc
continued-names s ran rest (Some (Goes next)) h k e = later-names ran (rest next) (k next) e
continued-names s ran rest (Some (Returns result context)) h k e = names ran _ tt e
continued-names s ran rest (Some (Panics code)) h k e = names ran _ tt e
continued-names s ran rest (Some (Asks request)) h k e = names ran _ h e

pub runs-names : (code : List Instr) (n : ℕ) (s : State) (ran : Ran) → runs code n s ≡ Some ran → NamesRange ran.stop ran.state
runs-names code zero s ran e = names ran _ tt e
runs-names code (suc n) s ran e = continued-names s ran (runs code n) (step code s) (step-kept s (slice_get code s.place)) (runs-names code n) e

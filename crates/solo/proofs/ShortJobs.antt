-- No step of a job makes the buffers of its parameters longer.
use Rattle.std.proofs.Common.{◌≡◌, ◌≤◌, ℕ, zero, suc, Bool, true, false, List, [], ◌∷◌, ◌++◌, length, drop, Option, Some, None, refl, ap, subst, sym, ◌∙◌, arith}
use Rattle.std.specs.Prelude.{◌/◌, ◌%◌, ◌==◌, ◌&&◌, if◌then◌else◌, nat_lt, slice_index_or}
use Rattle.std.specs.List.{AllByRecursion}
use Rattle.std.specs.Option.{option_and_then, option_map, option_or}
use Rattle.std.proofs.lemmas.Bool.Decides.{nat_tests}
use Rattle.std.proofs.lemmas.List.{length-append, length-drop}
use Rattle.std.proofs.lemmas.Option.{option_and_then_some}
use Rattle.base.specs.Bytes.{written}
use Rattle.base.specs.NumberMap.{NumberMap}
use Rattle.base.proofs.Overwriting.{length-written}
use Rattle.job_model.specs.Asking.{Ask, Asking, Bad, Gives, Needs, PendingRequest, ask}
use Rattle.job_model.specs.Beginning.{Beginning, OfImage, OfRelation, Program, begun_job, job_starting_at}
use Rattle.job_model.specs.Job.{Body, Job, Machine, Native, Nothing, body_with_cancel_seen, of_application, with_cancel_seen}
use Rattle.job_model.specs.Point.{no_params, params_at, params_beside}
use Rattle.job_model.specs.Steps.{Advance, Goes, Grant, JobStop, Left, Stopped, Stops, advance, advance_by, advance_of, advance_on_answer, advance_on_answer_in, after, end_of, grant_behind, grant_of, has_destroy, job_after_return, native_end, new_request, on_from, on_to_next, one_later, run_for, still_to_come, stop_at_once, where_it_goes, with_bytes}
use Rattle.job_model.specs.Steps as steps
use Rattle.job_model.specs.declared.entry_point.EntryPoint.{EntryPoint}
use Rattle.job_model.specs.declared.entry_point.EntryPoint.TheVariants.{Create, Open, Invoke, Close, Destroy}
use Rattle.kernel_model.proofs.Parts.{option_map_some}
use Rattle.native_tas.specs.Relation as native
use Rattle.native_tas.specs.Relation.{answer_of, answered, digested}
use Rattle.native_tas.specs.declared.relation.Relation.{Relation}
use Rattle.native_tas.specs.declared.relation.Relation.TheVariants.{Digest, Fixed}
use Rattle.rpc_msgs.specs.Answer.{RpcAnswer}
use Rattle.sha2.proofs.Facts256.{length-sha256}
use Rattle.sha2.specs.Sha256.{sha256}
use Rattle.solo.specs.Short.{AreShort, IsShort, IsShortBody, IsShortJob}
use Rattle.ta_isa.specs.declared.image.Image.{Image}
use Rattle.ta_params.specs.CopiedParams.{type_word}
use Rattle.ta_params.specs.declared.copied_params.CopiedParams.{CopiedParams}
use Rattle.ta_params.specs.declared.copied_params.GpParam.{GpParam}
use Rattle.ta_params.specs.declared.copied_params.GpParam.TheVariants.{Empty, Memref, Value}
use Rattle.ta_step.proofs.Kept.{runs-kept}
use Rattle.ta_step.specs.Addresses.{range_at, ranges, store, with_range}
use Rattle.ta_step.specs.Outcome.{Outcome, asking}
use Rattle.ta_step.specs.Outcome as outcome
use Rattle.ta_step.specs.Parameters.{buffer, with_buffer}
use Rattle.ta_step.specs.Requests.{span_of}
use Rattle.ta_step.specs.Runs.{Ran, continued, runs}
use Rattle.ta_step.specs.Shape.{shape, shapes}
use Rattle.ta_step.specs.State.{State, is_cancelled}
use Rattle.ta_step.specs.Step.{step}
use Rattle.ta_step.specs.declared.stop.Stop.TheVariants as stop
use Rattle.tee_storage.specs.declared.handle.Handle.{Handle}

module _ (longest : ℕ) where
  -- ---- parameters

  pub none_short : AreShort longest no_params
  none_short = (omega arith, (omega arith, (omega arith, (omega arith, tt))))

  shaped : (ps qs : CopiedParams) → shapes qs ≡ shapes ps → AreShort longest ps → AreShort longest qs
  shaped ps qs same short = subst (AllByRecursion (IsShort longest)) (sym same) short

  -- another buffer, no longer than before
  another : (p : GpParam) (bytes : List ℕ) → length bytes ≡ length (buffer p) → IsShort longest (shape p) → IsShort longest (shape (with_buffer p bytes))
  another Empty bytes same short = short
  another (Value way a b) bytes same short = short
  another (Memref way buf size) bytes same short = subst (λ (n : ℕ). n ≤ longest) (sym same) short

  at_short : (point : EntryPoint) (ps : CopiedParams) → AreShort longest ps → AreShort longest (params_at point ps)
  at_short Create ps short = none_short
  at_short Open ps short = short
  at_short (Invoke func) ps short = short
  at_short Close ps short = none_short
  at_short Destroy ps short = none_short

  beside_short : (point : EntryPoint) (ps : CopiedParams) → AreShort longest ps → AreShort longest (params_beside point ps)
  beside_short Create ps short = short
  beside_short Open ps short = none_short
  beside_short (Invoke func) ps short = none_short
  beside_short Close ps short = short
  beside_short Destroy ps short = short

  -- ---- what a job comes to

  abbrev pub IsShortStop : JobStop → Type 0
  IsShortStop (steps.Ends end) = AreShort longest end.params
  IsShortStop (steps.Panics code) = Unit {0}
  IsShortStop (steps.Asks wanted payload left) = IsShortJob longest left

  abbrev pub IsShortAdvance : Advance → Type 0
  IsShortAdvance (Goes job) = IsShortJob longest job
  IsShortAdvance (Stops why) = IsShortStop why

  abbrev pub IsShortGrant : Grant → Type 0
  IsShortGrant (Left job) = IsShortJob longest job
  IsShortGrant (Stopped used why) = IsShortStop why

  -- ---- a machine

  stepped : (image : Image) (machine next : State) → step image.code machine ≡ Some (outcome.Goes next) → AreShort longest machine.params → AreShort longest next.params
  stepped image machine next e short =
      let ran : Ran = record { stop = stop.Interrupted; steps = 1; state = next } in
      let one : runs image.code 1 machine ≡ Some ran =
      ap (λ (o : Option Outcome). option_and_then (continued (runs image.code 0) machine) o) e in
      shaped machine.params next.params (runs-kept image.code 1 machine ran one).params short

  range_short : (s : State) (number : ℕ) (bytes : List ℕ) → length bytes ≡ length (slice_index_or (ranges s) number []) → AreShort longest s.params →
      AreShort longest (with_range s number bytes).params
  range_short s zero bytes same short = short
  range_short s (suc zero) bytes same short = (another s.params.p0 bytes same short.0, short.1)
  range_short s (suc (suc zero)) bytes same short = (short.0, (another s.params.p1 bytes same short.1.0, short.1.1))
  range_short s (suc (suc (suc zero))) bytes same short = (short.0, (short.1.0, (another s.params.p2 bytes same short.1.1.0, short.1.1.1)))
  range_short s (suc (suc (suc (suc zero)))) bytes same short =
      (short.0, (short.1.0, (short.1.1.0, (another s.params.p3 bytes same short.1.1.1.0, short.1.1.1.1))))
  range_short s (suc (suc (suc (suc (suc number))))) bytes same short = short

  store_short : (s : State) (addr : ℕ) (bytes : List ℕ) → AreShort longest s.params → AreShort longest (store s addr bytes).params
  store_short s addr bytes short =
      range_short s (addr / 0x10000000) (written (range_at s addr) (addr % 0x10000000) bytes) (length-written (range_at s addr) (addr % 0x10000000) bytes) short

  -- ---- one step

  returned : (job : Job) (point : EntryPoint) (ps : CopiedParams) (r0 r1 : ℕ) → AreShort longest job.params → AreShort longest ps → AreShort longest (job_after_return job point ps r0 r1).params
  returned job Create ps r0 r1 had gives = by (r0 == 0)
    where
      by : (test : Bool) → AreShort longest (if test then job else record job { result = of_application r0 }).params
      by true = had
      by false = had
  returned job Open ps r0 r1 had gives = gives
  returned job (Invoke func) ps r0 r1 had gives = gives
  returned job Close ps r0 r1 had gives = had
  returned job Destroy ps r0 r1 had gives = had

  next_short : (job : Job) (image : Image) (point : EntryPoint) (machine : State) (still : List EntryPoint) → AreShort longest job.params →
      IsShortAdvance (on_to_next job image point machine still)
  next_short job image point machine [] had = had
  next_short job image point machine (next ∷ behind) had = record { params = beside_short next job.params had; body = at_short next job.params had }

  from_short : (job : Job) (image : Image) (point : EntryPoint) (from : State) (asked : PendingRequest) (objects : NumberMap Handle) (came : Asking) →
      AreShort longest job.params → AreShort longest from.params → IsShortAdvance (on_from job image point from asked objects came)
  from_short job image point from asked objects (Needs wanted payload) had short = record { params = had; body = short }
  from_short job image point from asked objects (Gives r0 r1 r2) had short = record { params = had; body = short }
  from_short job image point from asked objects (Bad code) had short = tt

  answers_short : (job : Job) (image : Image) (point : EntryPoint) (from : State) (asked : PendingRequest) (came : Option Ask) (next : Advance) →
      AreShort longest job.params → AreShort longest from.params →
      option_map (λ (c : Ask). on_from job image point (with_bytes from asked.request c.range) asked c.objects c.next) came ≡ Some next → IsShortAdvance next
  answers_short job image point from asked came next had short e =
      let found = option_map_some _ came next e in
      subst IsShortAdvance found.2
      (from_short job image point (with_bytes from asked.request found.0.range) asked found.0.objects found.0.next had
      (store_short from (span_of asked.request).0 found.0.range short))

  outcome_short : (job : Job) (image : Image) (point : EntryPoint) (machine : State) (came : Outcome) (next : Advance) → step image.code machine ≡ Some came →
      advance_by job image point machine came ≡ Some next → AreShort longest job.params → AreShort longest machine.params → IsShortAdvance next
  outcome_short job image point machine (outcome.Goes state) next is e had short =
      let made : Advance = Goes (record job { body = Machine image point state }) in
      let same : made ≡ next = cc in
      subst IsShortAdvance same (record { params = had; body = stepped image machine state is short })
  outcome_short job image point machine (outcome.Returns r0 r1) next is e had short =
      let made : Advance = on_to_next (job_after_return job point machine.params r0 r1) image point machine (still_to_come point r0 job.points) in
      let same : made ≡ next = cc in
      subst IsShortAdvance same
      (next_short (job_after_return job point machine.params r0 r1) image point machine (still_to_come point r0 job.points)
      (returned job point machine.params r0 r1 had short))
  outcome_short job image point machine (outcome.Panics code) next is e had short =
      let made : Advance = Stops (steps.Panics code) in
      let same : made ≡ next = cc in
      subst IsShortAdvance same tt
  outcome_short job image point machine (outcome.Asks wanted) next is e had short =
      answers_short job image point (asking wanted machine) (new_request job machine wanted)
      (ask job.owner (is_cancelled (asking wanted machine)) (new_request job machine wanted)) next had short e

  -- ---- an application that is built in

  digested_length : (message output : List ℕ) → length (digested message output).1 ≡ length output
  digested_length message output = by (nat_lt (length output) 32) refl
    where
      long : nat_lt (length output) 32 ≡ false → length (sha256 message ++ drop 32 output) ≡ length output
      long e =
          let enough : 32 ≤ length output = grind (arith, nat_tests) in
          omega (arith, length-append (sha256 message) (drop 32 output), length-sha256 message, length-drop 32 output)

      by : (test : Bool) → nat_lt (length output) 32 ≡ test →
          length (if◌then◌else◌ {A = ℕ × List ℕ} test (0xffff0010, output) (0, sha256 message ++ drop 32 output)).1 ≡ length output
      by true e = refl
      by false e = long e

  same_bytes : (p : GpParam) → native.bytes_of p ≡ buffer p
  same_bytes Empty = refl
  same_bytes (Value way a b) = refl
  same_bytes (Memref way buf size) = refl

  another_size : (p : GpParam) (bytes : List ℕ) (n : ℕ) → length bytes ≡ length (buffer p) → IsShort longest (shape p) → IsShort longest (shape (answered p bytes n))
  another_size Empty bytes n same short = short
  another_size (Value way a b) bytes n same short = short
  another_size (Memref way buf size) bytes n same short = subst (λ (k : ℕ). k ≤ longest) (sym same) short

  native_short : (relation : Relation) (func : ℕ) (ps : CopiedParams) → AreShort longest ps → AreShort longest (answer_of relation func ps).1
  native_short (Fixed n) func ps short = short
  native_short Digest func ps short = by (func == 0 && type_word ps == 0x0065)
    where
      bytes : List ℕ
      bytes = (digested (native.bytes_of ps.p0) (native.bytes_of ps.p1)).1

      code : ℕ
      code = (digested (native.bytes_of ps.p0) (native.bytes_of ps.p1)).0

      many : length bytes ≡ length (buffer ps.p1)
      many = digested_length (native.bytes_of ps.p0) (native.bytes_of ps.p1) ∙ ap (λ (b : List ℕ). length b) (same_bytes ps.p1)

      by : (test : Bool) → AreShort longest (if◌then◌else◌ {A = ℕ × CopiedParams} test (code, record ps { p1 = answered ps.p1 bytes 32 }) (0xffff0006, ps)).1
      by true = (short.0, (another_size ps.p1 bytes 32 many short.1.0, short.1.1))
      by false = short

  -- ---- a job

  body_short : (job : Job) (body : Body) (next : Advance) → advance_of job body ≡ Some next → AreShort longest job.params → IsShortBody longest body → IsShortAdvance next
  body_short job (Machine image point machine) next e had short =
      option_and_then_some (advance_by job image point machine) (step image.code machine) next e
      (λ (came : Outcome) is onward. outcome_short job image point machine came next is onward had short)
  body_short job (Native relation func) next e had short =
      let made : Advance = Stops (native_end job (answer_of relation func job.params)) in
      let same : made ≡ next = cc in
      subst IsShortAdvance same (native_short relation func job.params had)
  body_short job Nothing next e had short = absurd cc

  advance_short : (job : Job) (next : Advance) → advance job ≡ Some next → IsShortJob longest job → IsShortAdvance next
  advance_short job next e short = body_short job job.body next e short.params short.body

  behind_short : (n : ℕ) (job : Job) (came : Option Advance) (grant : Grant) → advance job ≡ came →
      ((next : Job) (g : Grant) → run_for n next ≡ Some g → IsShortJob longest next → IsShortGrant g) →
      option_and_then (grant_behind (run_for n)) came ≡ Some grant → IsShortJob longest job → IsShortGrant grant
  behind_short n job None grant is rest e short = absurd cc
  behind_short n job (Some (Stops why)) grant is rest e short =
      let made : Grant = Stopped 1 why in
      let same : made ≡ grant = cc in
      subst IsShortGrant same (advance_short job (Stops why) is short)
  behind_short n job (Some (Goes next)) grant is rest e short =
      let found = option_map_some one_later (run_for n next) grant e in
      subst IsShortGrant found.2 (later found.0 (rest next found.0 found.1 (advance_short job (Goes next) is short)))
    where
      later : (g : Grant) → IsShortGrant g → IsShortGrant (one_later g)
      later (Left last) is_short = is_short
      later (Stopped m why) is_short = is_short

  run_short : (n : ℕ) (job : Job) (grant : Grant) → run_for n job ≡ Some grant → IsShortJob longest job → IsShortGrant grant
  run_short zero job grant e short =
      let made : Grant = Left job in
      let same : made ≡ grant = cc in
      subst IsShortGrant same short
  run_short (suc n) job grant e short = behind_short n job (advance job) grant refl (λ next g. run_short n next g) e short

  at_once : (job : Job) (body : Body) (rest : Option Grant) (grant : Grant) → option_or (option_map (Stopped 0) (stop_at_once job body)) rest ≡ Some grant →
      ((g : Grant) → rest ≡ Some g → IsShortGrant g) → AreShort longest job.params → IsShortGrant grant
  at_once job (Machine image point machine) rest grant e onward had = onward grant e
  at_once job (Native relation func) rest grant e onward had = onward grant e
  at_once job Nothing rest grant e onward had =
      let made : Grant = Stopped 0 (steps.Ends (end_of job [] (has_destroy job.points))) in
      let same : made ≡ grant = cc in
      subst IsShortGrant same had

  -- what a grant of steps leaves
  pub granted_short : (n : ℕ) (job : Job) (grant : Grant) → grant_of n job ≡ Some grant → IsShortJob longest job → IsShortGrant grant
  granted_short n job grant e short = at_once job job.body (run_for n job) grant e (λ g is. run_short n job g is short) short.params

  goes_short : (n : ℕ) (job left : Job) (came : Option Advance) → advance job ≡ came → option_and_then (where_it_goes (after n)) came ≡ Some left → IsShortJob longest job →
      ((next : Job) → after n next ≡ Some left → IsShortJob longest next → IsShortJob longest left) → IsShortJob longest left
  goes_short n job left None is goes short rest = absurd cc
  goes_short n job left (Some (Goes next)) is goes short rest = rest next goes (advance_short job (Goes next) is short)
  goes_short n job left (Some (Stops why)) is goes short rest = absurd cc

  -- what some steps leave
  pub after_short : (n : ℕ) (job left : Job) → after n job ≡ Some left → IsShortJob longest job → IsShortJob longest left
  after_short zero job left e short = let same : job ≡ left = cc in subst (IsShortJob longest) same short
  after_short (suc n) job left e short =
      goes_short n job left (advance job) refl e short (λ next goes is_short. after_short n next left goes is_short)

  -- ---- an answer, a cancellation

  answer_in : (job : Job) (answer : RpcAnswer) (body : Body) (asked : Option PendingRequest) (next : Advance) → advance_on_answer_in job answer body asked ≡ Some next →
      AreShort longest job.params → IsShortBody longest body → IsShortAdvance next
  answer_in job answer (Machine image point machine) (Some asked) next e had short =
      let more : PendingRequest = record asked { answers = asked.answers ++ answer ∷ [] } in
      answers_short job image point machine more (ask job.owner (is_cancelled machine) more) next had short e
  answer_in job answer (Machine image point machine) None next e had short = absurd cc
  answer_in job answer (Native relation func) asked next e had short = absurd cc
  answer_in job answer Nothing asked next e had short = absurd cc

  pub answered_short : (job : Job) (answer : RpcAnswer) (next : Advance) → advance_on_answer answer job ≡ Some next → IsShortJob longest job → IsShortAdvance next
  answered_short job answer next e short = answer_in job answer job.body job.asked next e short.params short.body

  pub seen_short : (job : Job) → IsShortJob longest job → IsShortJob longest (with_cancel_seen job)
  seen_short job short = record { params = short.params; body = by job.body short.body }
    where
      by : (body : Body) → IsShortBody longest body → IsShortBody longest (body_with_cancel_seen body)
      by (Machine image point machine) is = is
      by (Native relation func) is = is
      by Nothing is = is

  -- ---- a job that begins

  native_start : (relation : Relation) (job : Job) (first : EntryPoint) (behind : List EntryPoint) (from : Beginning) → IsShortJob longest job →
      IsShortJob longest (job_starting_at from (Some (OfRelation relation)) job first behind)
  native_start relation job Create behind from short = short
  native_start relation job Open behind from short = short
  native_start relation job (Invoke func) behind from short = record { params = short.params; body = tt }
  native_start relation job Close behind from short = record { params = short.params; body = short.body }
  native_start relation job Destroy behind from short = short

  starting : (from : Beginning) (found : Option Program) (job : Job) (first : EntryPoint) (behind : List EntryPoint) → IsShortJob longest job →
      IsShortJob longest (job_starting_at from found job first behind)
  starting from None job first behind short = short
  starting from (Some (OfImage image)) job first behind short =
      record { params = beside_short first job.params short.params; body = at_short first job.params short.params }
  starting from (Some (OfRelation relation)) job first behind short = native_start relation job first behind from short

  pub begun_short : (from : Beginning) (job : Job) (points : List EntryPoint) → IsShortJob longest job → IsShortJob longest (begun_job from job points)
  begun_short from job [] short = short
  begun_short from job (first ∷ behind) short = starting from from.program job first behind short

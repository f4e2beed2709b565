-- No step of a job changes the types of its parameters, or how many bytes their buffers have.
use Rattle.std.proofs.Common.{◌≡◌, ℕ, zero, suc, ◌+◌, Bool, true, false, List, [], ◌∷◌, ◌++◌, length, drop, Option, Some, None, refl, ap, subst, ◌∙◌, arith}
use Rattle.std.specs.Prelude.{◌/◌, ◌%◌, ◌==◌, ◌&&◌, ◌≤◌, if◌then◌else◌, nat_lt, slice_index_or}
use Rattle.std.specs.Option.{option_and_then, option_map, option_or}
use Rattle.std.proofs.lemmas.Bool.Decides.{nat_tests}
use Rattle.std.proofs.lemmas.List.{length-append, length-drop}
use Rattle.std.proofs.lemmas.Option.{option_and_then_some}
use Rattle.base.specs.Bytes.{written}
use Rattle.base.specs.NumberMap.{NumberMap}
use Rattle.base.proofs.Overwriting.{length-written}
use Rattle.job_model.specs.Asking.{Ask, Asking, Bad, Gives, Needs, PendingRequest, ask}
use Rattle.job_model.specs.Beginning.{Beginning, OfImage, OfRelation, Program, begun_job, job_starting_at}
use Rattle.job_model.specs.Job.{Body, Job, Machine, Native, Nothing, body_with_cancel_seen, image_job_at, of_application, with_cancel_seen}
use Rattle.job_model.specs.Steps.{Advance, Goes, Grant, JobStop, Left, Stopped, Stops, advance, advance_by, advance_of, advance_on_answer, advance_on_answer_in, end_of, grant_behind, grant_of, has_destroy, job_after_return, native_end, new_request, on_from, on_to_next, one_later, run_for, still_to_come, stop_at_once, with_bytes, with_machine}
use Rattle.job_model.specs.Steps as steps
use Rattle.job_model.specs.declared.entry_point.EntryPoint.{EntryPoint}
use Rattle.job_model.specs.declared.entry_point.EntryPoint.TheVariants.{Create, Open, Invoke, Close, Destroy}
use Rattle.kernel_model.proofs.Parts.{option_map_some}
use Rattle.native_tas.specs.Relation as native
use Rattle.native_tas.specs.Relation.{answer_of, answered, digested}
use Rattle.native_tas.specs.declared.relation.Relation.{Relation}
use Rattle.native_tas.specs.declared.relation.Relation.TheVariants.{Digest, Fixed}
use Rattle.own_model.specs.Parameters.{params_in, params_of}
use Rattle.rpc_msgs.specs.Answer.{RpcAnswer}
use Rattle.sha2.proofs.Facts256.{length-sha256}
use Rattle.sha2.specs.Sha256.{sha256}
use Rattle.ta_isa.specs.declared.image.Image.{Image}
use Rattle.ta_params.specs.CopiedParams.{type_word, way_bits}
use Rattle.ta_params.specs.declared.copied_params.CopiedParams.{CopiedParams}
use Rattle.ta_params.specs.declared.copied_params.GpParam.{GpParam}
use Rattle.ta_params.specs.declared.copied_params.GpParam.TheVariants.{Empty, Memref, Value}
use Rattle.ta_step.proofs.Kept.{runs-kept}
use Rattle.ta_step.specs.Addresses.{range_at, ranges, store, with_range}
use Rattle.ta_step.specs.Outcome.{Outcome, asking}
use Rattle.ta_step.specs.Outcome as outcome
use Rattle.ta_step.specs.Parameters.{buffer, with_buffer}
use Rattle.ta_step.specs.Requests.{span_of}
use Rattle.ta_step.specs.Runs.{Ran, continued, runs}
use Rattle.ta_step.specs.Shape.{shape, shapes}
use Rattle.ta_step.specs.State.{State, is_cancelled}
use Rattle.ta_step.specs.Step.{step}
use Rattle.ta_step.specs.declared.stop.Stop.TheVariants as stop
use Rattle.tee_storage.specs.declared.handle.Handle.{Handle}

-- ---- one parameter

-- with another buffer of as many bytes
another : (p : GpParam) (bytes : List ℕ) → length bytes ≡ length (buffer p) → shape (with_buffer p bytes) ≡ shape p
another Empty bytes same = refl
another (Value way a b) bytes same = refl
another (Memref way buf size) bytes same = ap (λ (n : ℕ). (4 + way_bits way, n)) same

-- and with another size
another_size : (p : GpParam) (bytes : List ℕ) (n : ℕ) → length bytes ≡ length (buffer p) → shape (answered p bytes n) ≡ shape p
another_size Empty bytes n same = refl
another_size (Value way a b) bytes n same = refl
another_size (Memref way buf size) bytes n same = ap (λ (k : ℕ). (4 + way_bits way, k)) same

-- ---- a machine

range_kept : (s : State) (number : ℕ) (bytes : List ℕ) → length bytes ≡ length (slice_index_or (ranges s) number [])
    → shapes (with_range s number bytes).params ≡ shapes s.params
range_kept s zero bytes same = refl
range_kept s (suc zero) bytes same =
    ap (λ (x : ℕ × ℕ). x ∷ shape s.params.p1 ∷ shape s.params.p2 ∷ shape s.params.p3 ∷ []) (another s.params.p0 bytes same)
range_kept s (suc (suc zero)) bytes same =
    ap (λ (x : ℕ × ℕ). shape s.params.p0 ∷ x ∷ shape s.params.p2 ∷ shape s.params.p3 ∷ []) (another s.params.p1 bytes same)
range_kept s (suc (suc (suc zero))) bytes same =
    ap (λ (x : ℕ × ℕ). shape s.params.p0 ∷ shape s.params.p1 ∷ x ∷ shape s.params.p3 ∷ []) (another s.params.p2 bytes same)
range_kept s (suc (suc (suc (suc zero)))) bytes same =
    ap (λ (x : ℕ × ℕ). shape s.params.p0 ∷ shape s.params.p1 ∷ shape s.params.p2 ∷ x ∷ []) (another s.params.p3 bytes same)
range_kept s (suc (suc (suc (suc (suc number))))) bytes same = refl

store_kept : (s : State) (addr : ℕ) (bytes : List ℕ) → shapes (store s addr bytes).params ≡ shapes s.params
store_kept s addr bytes =
    range_kept s (addr / 0x10000000) (written (range_at s addr) (addr % 0x10000000) bytes) (length-written (range_at s addr) (addr % 0x10000000) bytes)

step_kept : (image : Image) (machine next : State) → step image.code machine ≡ Some (outcome.Goes next) → shapes next.params ≡ shapes machine.params
step_kept image machine next e =
    let ran : Ran = record { stop = stop.Interrupted; steps = 1; state = next } in
    let one : runs image.code 1 machine ≡ Some ran =
    ap (λ (o : Option Outcome). option_and_then (continued (runs image.code 0) machine) o) e in
    (runs-kept image.code 1 machine ran one).params

-- ---- an application that is built in

digested_length : (message output : List ℕ) → length (digested message output).1 ≡ length output
digested_length message output = by (nat_lt (length output) 32) refl
  where
    long : nat_lt (length output) 32 ≡ false → length (sha256 message ++ drop 32 output) ≡ length output
    long e =
        let enough : 32 ≤ length output = grind (arith, nat_tests) in
        omega (arith, length-append (sha256 message) (drop 32 output), length-sha256 message, length-drop 32 output)

    by : (test : Bool) → nat_lt (length output) 32 ≡ test →
        length (if◌then◌else◌ {A = ℕ × List ℕ} test (0xffff0010, output) (0, sha256 message ++ drop 32 output)).1 ≡ length output
    by true e = refl
    by false e = long e

same_bytes : (p : GpParam) → native.bytes_of p ≡ buffer p
same_bytes Empty = refl
same_bytes (Value way a b) = refl
same_bytes (Memref way buf size) = refl

native_kept : (relation : Relation) (func : ℕ) (ps : CopiedParams) → shapes (answer_of relation func ps).1 ≡ shapes ps
native_kept (Fixed n) func ps = refl
native_kept Digest func ps = by (func == 0 && type_word ps == 0x0065)
  where
    bytes : List ℕ
    bytes = (digested (native.bytes_of ps.p0) (native.bytes_of ps.p1)).1

    code : ℕ
    code = (digested (native.bytes_of ps.p0) (native.bytes_of ps.p1)).0

    many : length bytes ≡ length (buffer ps.p1)
    many = digested_length (native.bytes_of ps.p0) (native.bytes_of ps.p1) ∙ ap (λ (b : List ℕ). length b) (same_bytes ps.p1)

    by : (test : Bool) → shapes (if◌then◌else◌ {A = ℕ × CopiedParams} test (code, record ps { p1 = answered ps.p1 bytes 32 }) (0xffff0006, ps)).1 ≡ shapes ps
    by true = ap (λ (x : ℕ × ℕ). shape ps.p0 ∷ x ∷ shape ps.p2 ∷ shape ps.p3 ∷ []) (another_size ps.p1 bytes 32 many)
    by false = refl

-- ---- jobs whose parameters have these shapes

module _ (all : List (ℕ × ℕ)) where
  abbrev pub AreSo : CopiedParams → Type 0
  AreSo params = shapes params ≡ all

  abbrev pub IsSo : Job → Type 0
  IsSo job = AreSo (params_of job)

  abbrev pub IsSoStop : JobStop → Type 0
  IsSoStop (steps.Ends end) = AreSo end.params
  IsSoStop (steps.Panics code) = Unit {0}
  IsSoStop (steps.Asks wanted payload left) = IsSo left

  abbrev pub IsSoAdvance : Advance → Type 0
  IsSoAdvance (Goes job) = IsSo job
  IsSoAdvance (Stops why) = IsSoStop why

  abbrev pub IsSoGrant : Grant → Type 0
  IsSoGrant (Left job) = IsSo job
  IsSoGrant (Stopped used why) = IsSoStop why

  -- with another machine at the same entry point
  machine_so : (job later : Job) (image : Image) (point : EntryPoint) (machine next : State) → later.params ≡ job.params →
      shapes next.params ≡ shapes machine.params → AreSo (params_in job (Machine image point machine)) → AreSo (params_in later (Machine image point next))
  machine_so job later image Create machine next beside same so = ap shapes beside ∙ so
  machine_so job later image Open machine next beside same so = same ∙ so
  machine_so job later image (Invoke func) machine next beside same so = same ∙ so
  machine_so job later image Close machine next beside same so = ap shapes beside ∙ so
  machine_so job later image Destroy machine next beside same so = ap shapes beside ∙ so

  -- at another entry point
  at_so : (image : Image) (memory : List ℕ) (seen : Bool) (job : Job) (point : EntryPoint) (behind : List EntryPoint) → AreSo job.params →
      IsSo (image_job_at image memory seen job point behind)
  at_so image memory seen job Create behind so = so
  at_so image memory seen job Open behind so = so
  at_so image memory seen job (Invoke func) behind so = so
  at_so image memory seen job Close behind so = so
  at_so image memory seen job Destroy behind so = so

  returned : (job : Job) (image : Image) (point : EntryPoint) (machine : State) (r0 r1 : ℕ) → AreSo (params_in job (Machine image point machine)) →
      AreSo (job_after_return job point machine.params r0 r1).params
  returned job image Create machine r0 r1 so = by (r0 == 0)
    where
      by : (test : Bool) → AreSo (if test then job else record job { result = of_application r0 }).params
      by true = so
      by false = so
  returned job image Open machine r0 r1 so = so
  returned job image (Invoke func) machine r0 r1 so = so
  returned job image Close machine r0 r1 so = so
  returned job image Destroy machine r0 r1 so = so

  next_so : (job : Job) (image : Image) (point : EntryPoint) (machine : State) (still : List EntryPoint) → AreSo job.params →
      IsSoAdvance (on_to_next job image point machine still)
  next_so job image point machine [] so = so
  next_so job image point machine (next ∷ behind) so = at_so image machine.memory machine.cancelled job next behind so

  from_so : (job : Job) (image : Image) (point : EntryPoint) (from : State) (asked : PendingRequest) (objects : NumberMap Handle) (came : Asking) →
      AreSo (params_in job (Machine image point from)) → IsSoAdvance (on_from job image point from asked objects came)
  from_so job image point from asked objects (Needs wanted payload) so =
      machine_so job (with_machine job image point from objects (Some asked)) image point from from refl refl so
  from_so job image point from asked objects (Gives r0 r1 r2) so = machine_so job (record job { objects = objects; asked = None }) image point from _ refl refl so
  from_so job image point from asked objects (Bad code) so = tt

  answers_so : (job : Job) (image : Image) (point : EntryPoint) (from : State) (asked : PendingRequest) (came : Option Ask) (next : Advance) →
      AreSo (params_in job (Machine image point from)) →
      option_map (λ (c : Ask). on_from job image point (with_bytes from asked.request c.range) asked c.objects c.next) came ≡ Some next → IsSoAdvance next
  answers_so job image point from asked came next so e =
      let found = option_map_some _ came next e in
      subst IsSoAdvance found.2
      (from_so job image point (with_bytes from asked.request found.0.range) asked found.0.objects found.0.next
      (machine_so job job image point from (with_bytes from asked.request found.0.range) refl (store_kept from (span_of asked.request).0 found.0.range) so))

  outcome_so : (job : Job) (image : Image) (point : EntryPoint) (machine : State) (came : Outcome) (next : Advance) → step image.code machine ≡ Some came →
      advance_by job image point machine came ≡ Some next → AreSo (params_in job (Machine image point machine)) → IsSoAdvance next
  outcome_so job image point machine (outcome.Goes state) next is e so =
      let made : Advance = Goes (record job { body = Machine image point state }) in
      let same : made ≡ next = cc in
      subst IsSoAdvance same
      (machine_so job (record job { body = Machine image point state }) image point machine state refl (step_kept image machine state is) so)
  outcome_so job image point machine (outcome.Returns r0 r1) next is e so =
      let made : Advance = on_to_next (job_after_return job point machine.params r0 r1) image point machine (still_to_come point r0 job.points) in
      let same : made ≡ next = cc in
      subst IsSoAdvance same
      (next_so (job_after_return job point machine.params r0 r1) image point machine (still_to_come point r0 job.points)
      (returned job image point machine r0 r1 so))
  outcome_so job image point machine (outcome.Panics code) next is e so =
      let made : Advance = Stops (steps.Panics code) in
      let same : made ≡ next = cc in
      subst IsSoAdvance same tt
  outcome_so job image point machine (outcome.Asks wanted) next is e so =
      answers_so job image point (asking wanted machine) (new_request job machine wanted)
      (ask job.owner (is_cancelled (asking wanted machine)) (new_request job machine wanted)) next
      (machine_so job job image point machine (asking wanted machine) refl refl so) e

  body_so : (job : Job) (body : Body) (next : Advance) → advance_of job body ≡ Some next → AreSo (params_in job body) → IsSoAdvance next
  body_so job (Machine image point machine) next e so =
      option_and_then_some (advance_by job image point machine) (step image.code machine) next e
      (λ (came : Outcome) is onward. outcome_so job image point machine came next is onward so)
  body_so job (Native relation func) next e so =
      let made : Advance = Stops (native_end job (answer_of relation func job.params)) in
      let same : made ≡ next = cc in
      subst IsSoAdvance same (native_kept relation func job.params ∙ so)
  body_so job Nothing next e so = absurd cc

  advance_so : (job : Job) (next : Advance) → advance job ≡ Some next → IsSo job → IsSoAdvance next
  advance_so job next e so = body_so job job.body next e so

  behind_so : (n : ℕ) (job : Job) (came : Option Advance) (grant : Grant) → advance job ≡ came →
      ((next : Job) (g : Grant) → run_for n next ≡ Some g → IsSo next → IsSoGrant g) →
      option_and_then (grant_behind (run_for n)) came ≡ Some grant → IsSo job → IsSoGrant grant
  behind_so n job None grant is rest e so = absurd cc
  behind_so n job (Some (Stops why)) grant is rest e so =
      let made : Grant = Stopped 1 why in
      let same : made ≡ grant = cc in
      subst IsSoGrant same (advance_so job (Stops why) is so)
  behind_so n job (Some (Goes next)) grant is rest e so =
      let found = option_map_some one_later (run_for n next) grant e in
      subst IsSoGrant found.2 (later found.0 (rest next found.0 found.1 (advance_so job (Goes next) is so)))
    where
      later : (g : Grant) → IsSoGrant g → IsSoGrant (one_later g)
      later (Left last) is_so = is_so
      later (Stopped m why) is_so = is_so

  run_so : (n : ℕ) (job : Job) (grant : Grant) → run_for n job ≡ Some grant → IsSo job → IsSoGrant grant
  run_so zero job grant e so =
      let made : Grant = Left job in
      let same : made ≡ grant = cc in
      subst IsSoGrant same so
  run_so (suc n) job grant e so = behind_so n job (advance job) grant refl (λ next g. run_so n next g) e so

  at_once : (job : Job) (body : Body) (rest : Option Grant) (grant : Grant) → option_or (option_map (Stopped 0) (stop_at_once job body)) rest ≡ Some grant →
      ((g : Grant) → rest ≡ Some g → IsSoGrant g) → AreSo (params_in job body) → IsSoGrant grant
  at_once job (Machine image point machine) rest grant e onward so = onward grant e
  at_once job (Native relation func) rest grant e onward so = onward grant e
  at_once job Nothing rest grant e onward so =
      let made : Grant = Stopped 0 (steps.Ends (end_of job [] (has_destroy job.points))) in
      let same : made ≡ grant = cc in
      subst IsSoGrant same so

  -- what a grant of steps leaves
  pub granted_so : (n : ℕ) (job : Job) (grant : Grant) → grant_of n job ≡ Some grant → IsSo job → IsSoGrant grant
  granted_so n job grant e so = at_once job job.body (run_for n job) grant e (λ g is. run_so n job g is so) so

  -- ---- an answer, a cancellation

  answer_in : (job : Job) (answer : RpcAnswer) (body : Body) (asked : Option PendingRequest) (next : Advance) → advance_on_answer_in job answer body asked ≡ Some next →
      AreSo (params_in job body) → IsSoAdvance next
  answer_in job answer (Machine image point machine) (Some asked) next e so =
      let more : PendingRequest = record asked { answers = asked.answers ++ answer ∷ [] } in
      answers_so job image point machine more (ask job.owner (is_cancelled machine) more) next so e
  answer_in job answer (Machine image point machine) None next e so = absurd cc
  answer_in job answer (Native relation func) asked next e so = absurd cc
  answer_in job answer Nothing asked next e so = absurd cc

  pub answered_so : (job : Job) (answer : RpcAnswer) (next : Advance) → advance_on_answer answer job ≡ Some next → IsSo job → IsSoAdvance next
  answered_so job answer next e so = answer_in job answer job.body job.asked next e so

  pub seen_so : (job : Job) → IsSo job → IsSo (with_cancel_seen job)
  seen_so job so = by job.body so
    where
      by : (body : Body) → AreSo (params_in job body) → AreSo (params_in (with_cancel_seen job) (body_with_cancel_seen body))
      by (Machine image point machine) is =
          machine_so job (with_cancel_seen job) image point machine (record machine { cancelled = true }) refl refl is
      by (Native relation func) is = is
      by Nothing is = is

  -- ---- a job that begins

  -- with other entry points to come
  points_so : (job : Job) (body : Body) (behind : List EntryPoint) → AreSo (params_in job body) → AreSo (params_in (record job { points = behind }) body)
  points_so job (Machine image point machine) behind so = machine_so job (record job { points = behind }) image point machine machine refl refl so
  points_so job (Native relation func) behind so = so
  points_so job Nothing behind so = so

  native_start : (relation : Relation) (job : Job) (first : EntryPoint) (behind : List EntryPoint) (from : Beginning) → AreSo job.params → IsSo job →
      IsSo (job_starting_at from (Some (OfRelation relation)) job first behind)
  native_start relation job Create behind from params so = so
  native_start relation job Open behind from params so = so
  native_start relation job (Invoke func) behind from params so = params
  native_start relation job Close behind from params so = points_so job job.body behind so
  native_start relation job Destroy behind from params so = points_so job job.body behind so

  starting : (from : Beginning) (found : Option Program) (job : Job) (first : EntryPoint) (behind : List EntryPoint) → AreSo job.params → IsSo job →
      IsSo (job_starting_at from found job first behind)
  starting from None job first behind params so = so
  starting from (Some (OfImage image)) job first behind params so = at_so image from.memory from.seen job first behind params
  starting from (Some (OfRelation relation)) job first behind params so = native_start relation job first behind from params so

  pub begun_so : (from : Beginning) (job : Job) (points : List EntryPoint) → AreSo job.params → IsSo job → IsSo (begun_job from job points)
  begun_so from job [] params so = so
  begun_so from job (first ∷ behind) params so = starting from from.program job first behind params so

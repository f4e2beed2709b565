-- Jobs of small applications, worked out by hand.
use Rattle.std.specs.Prelude.{◌≡◌, ℕ, ◌-◌, true, false, List, [], ◌∷◌, length, Option, Some, None, Bool, ◌++◌}
use Rattle.std.specs.Prelude.{replicate}
use Rattle.std.specs.Option.{option_and_then, option_map}
use Rattle.base.specs.NumberMap.{NumberMap}
use Rattle.ta_isa.specs.declared.image.Image.{Image}
use Rattle.ta_params.specs.declared.copied_params.Way.TheVariants.{Inout}
use Rattle.ta_params.specs.declared.copied_params.GpParam.TheVariants.{Value}
use Rattle.ta_params.specs.declared.copied_params.CopiedParams.{CopiedParams}
use Rattle.ta_step.specs.Runs.{Ran, runs}
use Rattle.ta_step.specs.State.{State}
use Rattle.ta_step.specs.Examples.{instr, sum_code, params_of, somebody}
use Rattle.tee_storage.specs.declared.handle.FileFormat.TheVariants.{Untagged}
use Rattle.tee_storage.specs.declared.handle.Handle.{Handle}
use Rattle.job_model.specs.Owner.{Owner, owner_of}
use Rattle.job_model.specs.declared.entry_point.EntryPoint.{EntryPoint}
use Rattle.job_model.specs.declared.entry_point.EntryPoint.TheVariants.{Create, Open, Invoke, Close, Destroy}
use Rattle.job_model.specs.Point.{no_params}
use Rattle.job_model.specs.Job.{Job, of_tee, of_application, idle_job, image_job_at, native_job_at, with_cancel_seen}
use Rattle.job_model.specs.Job.{Body, Machine, Native, Nothing}
use Rattle.native_tas.specs.declared.relation.Relation.TheVariants.{Fixed}
use Rattle.rpc_msgs.specs.Answer.{RpcAnswer, Replied, NoBuffer}
use Rattle.rpc_msgs.specs.declared.rpc.Rpc.{Rpc}
use Rattle.rpc_msgs.specs.declared.rpc.Rpc.TheVariants as rpc
use Rattle.rpc_msgs.specs.declared.rpc.RpcReply.{RpcReply}
use Rattle.ta_params.specs.declared.call_result.CallResult.{CallResult}
use Rattle.job_model.specs.Beginning.{Beginning, Program, OfImage, OfRelation, begun_job}
use Rattle.job_model.specs.Asking.{Gives, asks_time}
use Rattle.job_model.specs.Steps.{JobStop, Ends, Panics, Asks, Advance, Goes, Stops, Grant, Left, Stopped, after}
use Rattle.job_model.specs.Steps.{stop_at, grant_of, advance_on_answer, after_run, grant_after}

abbrev pub owner : Owner
owner = owner_of (1 ∷ 2 ∷ 3 ∷ []) (replicate 32 0)

-- 5 and 7 in a value that goes both ways, and their sum, beside which the adder leaves its r2: the context
abbrev pub terms : CopiedParams
terms = params_of (Value Inout 5 7)

abbrev pub sum : CopiedParams
sum = params_of (Value Inout 12 20)

-- the application that adds: all but its invoke return at once
abbrev pub adder : Image
adder = record { flags = 0; pages = 1; entries = 0 ∷ 0 ∷ 1 ∷ 0 ∷ 0 ∷ []; code = sum_code }

-- one whose entry points return so, with 9 in r1: each of create, open, close and destroy has three instructions
abbrev pub returns : ℕ → ℕ → ℕ → ℕ → Image
returns on_create on_open on_close on_destroy = record {
  flags = 0;
  pages = 1;
  entries = 0 ∷ 3 ∷ 0 ∷ 6 ∷ 9 ∷ [];
  code =
      instr 0x01 0 0 0 on_create ∷ instr 0x01 1 0 0 9 ∷ instr 0x18 0 0 0 0
      ∷ instr 0x01 0 0 0 on_open ∷ instr 0x01 1 0 0 9 ∷ instr 0x18 0 0 0 0
      ∷ instr 0x01 0 0 0 on_close ∷ instr 0x01 1 0 0 9 ∷ instr 0x18 0 0 0 0
      ∷ instr 0x01 0 0 0 on_destroy ∷ instr 0x01 1 0 0 9 ∷ instr 0x18 0 0 0 0
      ∷ [];
}

-- one whose open fails with 6 and whose destroy panics with 0
abbrev pub destroy_panics : Image
destroy_panics = record {
  flags = 0;
  pages = 1;
  entries = 0 ∷ 1 ∷ 0 ∷ 0 ∷ 3 ∷ [];
  code = instr 0x18 0 0 0 0 ∷ instr 0x01 0 0 0 6 ∷ instr 0x18 0 0 0 0 ∷ instr 0x18 0 0 0 1 ∷ [];
}

-- eight bytes of memory
abbrev pub memory : List ℕ
memory = 1 ∷ 2 ∷ 0 ∷ 0 ∷ 9 ∷ 0 ∷ 0 ∷ 0 ∷ []

-- an open object
abbrev pub one_object : NumberMap Handle
one_object = (3, record { name = 0x31 ∷ []; fd = 70; length = 10; position = 3; format = Untagged }) ∷ []

abbrev pub nothing_to_run : Job
nothing_to_run = idle_job owner somebody 20 one_object no_params

-- an invoke of the function 0
abbrev pub invokes : Job
invokes = image_job_at adder memory false (idle_job owner somebody 20 one_object terms) (Invoke 0) []

-- an open that makes its instance, and a close that takes it apart, or doesn't
abbrev pub opens : Image → Job
opens image = image_job_at image memory true (idle_job owner somebody 0 one_object terms) Create (Open ∷ Destroy ∷ [])

abbrev pub closes : Image → Job
closes image = image_job_at image memory false (idle_job owner somebody 20 one_object no_params) Close (Destroy ∷ [])

abbrev pub closes_alone : Image → Job
closes_alone image = image_job_at image memory false (idle_job owner somebody 20 one_object no_params) Close []

-- what begins on an instance of this program, or on a dead one
abbrev pub on : Option Program → Beginning
on program = record { program = program; memory = memory; seen = false }

-- one that asks, and returns the result: for the time, for a wait of `func` milliseconds, and for the object of the id
-- of one byte at address 0 to be made
abbrev pub asks_for : ℕ → Image
asks_for number = record {
  flags = 0;
  pages = 1;
  entries = 0 ∷ 0 ∷ 1 ∷ 0 ∷ 0 ∷ [];
  code = instr 0x18 0 0 0 0 ∷ instr 0x18 0 0 0 number ∷ instr 0x18 0 0 0 0 ∷ [];
}

-- a wait that may be cancelled
abbrev pub waits : Image
waits = record {
  flags = 0;
  pages = 1;
  entries = 0 ∷ 0 ∷ 1 ∷ 0 ∷ 0 ∷ [];
  code =
      instr 0x18 0 0 0 0 ∷ instr 0x02 3 0 0 0 ∷ instr 0x18 0 0 0 10 ∷ instr 0x02 0 3 0 0 ∷ instr 0x18 0 0 0 12
      ∷ instr 0x18 0 0 0 0 ∷ [];
}

-- an invoke of the function 250 of such an application, whose cancellation was seen or not
abbrev pub invokes_of : Bool → Image → Job
invokes_of was_seen image = image_job_at image memory was_seen (idle_job owner somebody 20 [] no_params) (Invoke 250) []

-- an invoke of a function with this context, of an instance that has an object open
abbrev pub invokes_with : ℕ → ℕ → Image → Job
invokes_with func context image =
    image_job_at image memory false (idle_job owner somebody context one_object no_params) (Invoke func) []

-- the same object, at another position
abbrev pub object_at : ℕ → NumberMap Handle
object_at position = (3, record { name = 0x31 ∷ []; fd = 70; length = 10; position = position; format = Untagged }) ∷ []

-- what an invoke ends with that leaves this memory and these objects
abbrev pub ends_as : ℕ → ℕ → List ℕ → NumberMap Handle → JobStop
ends_as code context bytes objects =
    Ends (record {
      result = of_application code;
      context = context;
      memory = bytes;
      objects = objects;
      params = no_params;
      is_last = false;
    })

-- an entry point of a native application that answers each invoke so
abbrev pub native : ℕ → EntryPoint → List EntryPoint → Job
native result point behind = native_job_at (Fixed result) (idle_job owner somebody 20 [] terms) point behind

-- what a grant asks for, after how many steps
abbrev pub wanted_in : JobStop → Option (Rpc × List ℕ)
wanted_in (Ends end) = None
wanted_in (Panics code) = None
wanted_in (Asks wanted payload left) = Some (wanted, payload)

abbrev pub wanted_after : Option Grant → Option (ℕ × Option (Rpc × List ℕ))
wanted_after None = None
wanted_after (Some (Left job)) = None
wanted_after (Some (Stopped n why)) = Some (n, wanted_in why)

-- the job that it leaves there
abbrev pub left_in : JobStop → Option Job
left_in (Ends end) = None
left_in (Panics code) = None
left_in (Asks wanted payload left) = Some left

abbrev pub left_after : Option Grant → Option Job
left_after None = None
left_after (Some (Left job)) = None
left_after (Some (Stopped n why)) = left_in why

-- a request answered so, and many steps more
abbrev pub where_it_runs : Advance → Option Grant
where_it_runs (Goes job) = grant_of 1000 job
where_it_runs (Stops why) = Some (Stopped 0 why)

abbrev pub answered_with : RpcAnswer → Option Job → Option Grant
answered_with answer job = option_and_then where_it_runs (option_and_then (advance_on_answer answer) job)

-- what has been answered is answered once more
abbrev pub answered_again : Advance → Option Advance
answered_again (Goes job) = advance_on_answer NoBuffer job
answered_again (Stops why) = Some (Stops why)

-- the result that it ends with, and the r1 of its return, which its invoke gives nobody
abbrev pub result_in : JobStop → Option CallResult
result_in (Ends end) = Some end.result
result_in (Panics code) = None
result_in (Asks wanted payload left) = None

abbrev pub result_after : Option Grant → Option CallResult
result_after None = None
result_after (Some (Left job)) = None
result_after (Some (Stopped n why)) = result_in why

-- a grant to a job, by a run of its machine and the rest of the grant
abbrev pub run_by : ℕ → Job → Body → Option Grant
run_by n job (Machine image point machine) =
    let rest = λ (ran : Ran).
    option_and_then (grant_after ran.steps (n - ran.steps)) (after_run job image point ran.state ran.stop) in
    option_and_then rest (runs image.code n machine)
run_by n job (Native relation func) = None
run_by n job Nothing = None

abbrev pub machine_granted : ℕ → Job → Option Grant
machine_granted n job = run_by n job job.body

-- a reply that brings a piece of a file
abbrev pub piece : List ℕ → RpcReply
piece bytes = record { ret = 0; v = 0; w = 0; size = length bytes; bytes = bytes }

-- a reply to a request for the time
abbrev pub time_reply : ℕ → ℕ → ℕ → RpcReply
time_reply ret v w = record { ret = ret; v = v; w = w; size = 0; bytes = [] }

-- whose application a job is, and the parameters that are with it
abbrev pub still : Option Job → Option (Owner × CopiedParams)
still job = option_map (λ j. (j.owner, j.params)) job

-- the machine that runs
abbrev pub machine_in : Body → Option State
machine_in (Machine image point machine) = Some machine
machine_in (Native relation func) = None
machine_in Nothing = None

-- a machine at its start, masked, with these in r0, r1 and r2, at this place and with the flag so
abbrev pub starts_with : List ℕ → ℕ → Bool → State
starts_with first place seen = record {
  registers = first ++ replicate 13 0;
  place = place;
  stack = [];
  memory = memory;
  params = terms;
  login = somebody;
  masked = true;
  cancelled = seen;
  asked = None;
}

pub record Examples : Type 0 where
  -- an invoke begins with function, type word and context, masked, and with the flag as the call has seen it
  pub begins : machine_in invokes.body ≡ Some (starts_with (0 ∷ 3 ∷ 20 ∷ []) 1 false)
  -- a call begins at the first of its entry points, on a dead instance with nothing to run
  pub begins_an_invoke : begun_job (on (Some (OfImage adder))) (idle_job owner somebody 20 one_object terms)
      (Invoke 0 ∷ []) ≡ invokes
  pub begins_a_close : begun_job (on (Some (OfImage adder))) (idle_job owner somebody 20 one_object no_params)
      (Close ∷ Destroy ∷ []) ≡ closes adder
  pub begins_natively : begun_job (on (Some (OfRelation (Fixed 9)))) (idle_job owner somebody 20 [] terms)
      (Invoke 5 ∷ []) ≡ native 9 (Invoke 5) []
  pub begins_on_the_dead : begun_job (on None) nothing_to_run (Close ∷ Destroy ∷ []) ≡ nothing_to_run
  -- the invoke of the adder is stopped by its sixth step, and by no other
  pub sum_at_six : stop_at 6 invokes
      ≡ Some (Ends (record {
        result = of_application 0;
        context = 20;
        memory = memory;
        objects = one_object;
        params = sum;
        is_last = false;
      }))
  pub not_at_five : stop_at 5 invokes ≡ None
  pub not_at_seven : stop_at 7 invokes ≡ None
  -- its parameters are with its machine meanwhile, and the job has none
  pub left_at_five : still (after 5 invokes) ≡ Some (owner, no_params)
  pub none_left_at_six : after 6 invokes ≡ None
  pub granted_many : grant_of 1000 invokes
      ≡ Some (Stopped 6
      (Ends (record {
        result = of_application 0;
        context = 20;
        memory = memory;
        objects = one_object;
        params = sum;
        is_last = false;
      })))
  pub granted_none : grant_of 0 invokes ≡ Some (Left invokes)
  -- a create that returns at the last granted step leaves the open to come, masked, with the flag as seen
  pub open_to_come : grant_of 3 (opens (returns 0 0 0 0))
      ≡ Some (Left (image_job_at (returns 0 0 0 0) memory true (idle_job owner somebody 0 one_object terms) Open
      (Destroy ∷ [])))
  pub open_begins : option_and_then (λ job. machine_in job.body) (after 3 (opens (returns 0 0 0 0)))
      ≡ Some (starts_with (3 ∷ 0 ∷ 0 ∷ []) 3 true)
  -- the parameters are with the job while create runs, with the machine while open does, and with the job again as
  -- destroy begins
  pub beside_create : still (after 2 (opens (returns 0 7 0 8))) ≡ Some (owner, terms)
  pub beside_open : still (after 3 (opens (returns 0 7 0 8))) ≡ Some (owner, no_params)
  pub beside_destroy : still (after 6 (opens (returns 0 7 0 8))) ≡ Some (owner, terms)
  -- an open that succeeds gives its context, and destroy doesn't come
  pub opened : stop_at 6 (opens (returns 0 0 0 0))
      ≡ Some (Ends (record {
        result = of_application 0;
        context = 9;
        memory = memory;
        objects = one_object;
        params = terms;
        is_last = false;
      }))
  -- the run of the create's machine has three steps, and the rest of the grant is its open's
  pub create_and_open : machine_granted 1000 (opens (returns 0 0 0 0))
      ≡ Some (Stopped 6
      (Ends (record {
        result = of_application 0;
        context = 9;
        memory = memory;
        objects = one_object;
        params = terms;
        is_last = false;
      })))
  pub create_alone : machine_granted 3 (opens (returns 0 0 0 0))
      ≡ Some (Left (image_job_at (returns 0 0 0 0) memory true (idle_job owner somebody 0 one_object terms) Open
      (Destroy ∷ [])))
  -- a create that fails, with the parameters as they were copied
  pub create_fails : stop_at 3 (opens (returns 7 0 0 0))
      ≡ Some (Ends (record {
        result = of_application 7;
        context = 0;
        memory = memory;
        objects = one_object;
        params = terms;
        is_last = true;
      }))
  -- an open that fails has its result, whatever destroy returns
  pub open_fails : stop_at 9 (opens (returns 0 7 0 8))
      ≡ Some (Ends (record {
        result = of_application 7;
        context = 9;
        memory = memory;
        objects = one_object;
        params = terms;
        is_last = true;
      }))
  pub destroy_after_open : stop_at 4 (opens destroy_panics) ≡ Some (Panics 0)
  -- a close succeeds, whatever close and destroy return
  pub closed : stop_at 6 (closes (returns 0 0 7 8))
      ≡ Some (Ends (record {
        result = of_tee 0;
        context = 20;
        memory = memory;
        objects = one_object;
        params = no_params;
        is_last = true;
      }))
  pub closed_alone : stop_at 3 (closes_alone (returns 0 0 7 8))
      ≡ Some (Ends (record {
        result = of_tee 0;
        context = 20;
        memory = memory;
        objects = one_object;
        params = no_params;
        is_last = false;
      }))
  -- nothing has ended after no steps
  pub ended_already : stop_at 0 nothing_to_run
      ≡ Some (Ends (record {
        result = of_tee 0;
        context = 20;
        memory = [];
        objects = one_object;
        params = no_params;
        is_last = false;
      }))
  -- the time: seconds below 2^32, and milliseconds
  pub time_asks : wanted_after (grant_of 9 (invokes_of false (asks_for 11))) ≡ Some (1, Some (rpc.Time, []))
  pub time_told : asks_time (Replied (time_reply 0 0x100000005 2500000) ∷ []) ≡ Some (Gives 0 5 2)
  pub time_refused : asks_time (Replied (time_reply 7 5 2500000) ∷ []) ≡ Some (Gives 0xffff0000 0 0)
  pub time_without_buffer : asks_time (NoBuffer ∷ []) ≡ Some (Gives 0xffff000c 0 0)
  pub time_asks_once : asks_time (NoBuffer ∷ NoBuffer ∷ []) ≡ None
  pub time_answered : result_after (answered_with (Replied (time_reply 0 5 2500000))
      (left_after (grant_of 9 (invokes_of false (asks_for 11))))) ≡ Some (of_application 0)
  -- a wait, by a function that goes to r0
  pub wait_asks : wanted_after (grant_of 9 (invokes_of false waits)) ≡ Some (4, Some (rpc.Suspend 250, []))
  pub wait_answered : result_after (answered_with (Replied (time_reply 9 0 0))
      (left_after (grant_of 9 (invokes_of false waits)))) ≡ Some (of_application 0)
  pub wait_without_buffer : result_after (answered_with NoBuffer (left_after (grant_of 9 (invokes_of false waits))))
      ≡ Some (of_application 0xffff000c)
  -- that is cancelled before it asks, or by the time of the answer, where the application is to be told
  pub wait_cancelled : result_after (grant_of 9 (invokes_of true waits)) ≡ Some (of_application 0xffff0002)
  pub wait_cancelled_later : result_after (answered_with (Replied (time_reply 0 0 0))
      (option_map with_cancel_seen (left_after (grant_of 9 (invokes_of false waits)))))
      ≡ Some (of_application 0xffff0002)
  pub wait_masked : result_after (answered_with (Replied (time_reply 0 0 0))
      (option_map with_cancel_seen (left_after (grant_of 9 (invokes_of false (asks_for 12))))))
      ≡ Some (of_application 0)
  -- objects: a seek needs nothing of the normal world, an application that names an object which isn't open panics,
  -- and so does one whose bytes aren't all there; a read stores what comes
  pub seek : stop_at 2 (invokes_with 3 20 (asks_for 17)) ≡ Some (ends_as 0 20 memory (object_at 0))
  pub seek_of_none : stop_at 1 (invokes_with 4 20 (asks_for 17)) ≡ Some (Panics 5)
  pub read_past_memory : stop_at 1 (invokes_with 3 9 (asks_for 15)) ≡ Some (Panics 1)
  pub read_asks : wanted_after (grant_of 9 (invokes_with 3 4 (asks_for 15))) ≡ Some (1, Some (rpc.FsRead 70 11 4, []))
  pub read_stores : answered_with (Replied (piece (5 ∷ 6 ∷ 7 ∷ 8 ∷ [])))
      (left_after (grant_of 9 (invokes_with 3 4 (asks_for 15))))
      ≡ Some (Stopped 1 (ends_as 0 4 (5 ∷ 6 ∷ 7 ∷ 8 ∷ 9 ∷ 0 ∷ 0 ∷ 0 ∷ []) (object_at 7)))
  pub read_fails : answered_with NoBuffer (left_after (grant_of 9 (invokes_with 3 4 (asks_for 15))))
      ≡ Some (Stopped 1 (ends_as 0xffff000c 4 memory (object_at 3)))
  -- an answer that nothing was asked for, and a second one
  pub answered_twice : option_map (λ a. answered_again a)
      (option_and_then (advance_on_answer NoBuffer) (left_after (grant_of 9 (invokes_of false waits)))) ≡ Some None
  pub nothing_asked : advance_on_answer NoBuffer (invokes_of false waits) ≡ None
  -- a native application: an invoke is one step that gives its answer, and all else has ended after none
  pub native_invoked : stop_at 1 (native 9 (Invoke 5) [])
      ≡ Some (Ends (record {
        result = of_application 9;
        context = 20;
        memory = [];
        objects = [];
        params = terms;
        is_last = false;
      }))
  pub native_not_at_once : stop_at 0 (native 9 (Invoke 5) []) ≡ None
  pub native_opened : stop_at 0 (native 9 Create (Open ∷ Destroy ∷ []))
      ≡ Some (Ends (record {
        result = of_tee 0;
        context = 20;
        memory = [];
        objects = [];
        params = terms;
        is_last = false;
      }))
  pub native_closed : stop_at 0 (native 9 Close (Destroy ∷ []))
      ≡ Some (Ends (record {
        result = of_tee 0;
        context = 20;
        memory = [];
        objects = [];
        params = terms;
        is_last = true;
      }))
  pub native_closed_alone : stop_at 0 (native 9 Close [])
      ≡ Some (Ends (record {
        result = of_tee 0;
        context = 20;
        memory = [];
        objects = [];
        params = terms;
        is_last = false;
      }))
  pub ended_whatever_is_granted : grant_of 5 nothing_to_run
      ≡ Some (Stopped 0
      (Ends (record {
        result = of_tee 0;
        context = 20;
        memory = [];
        objects = one_object;
        params = no_params;
        is_last = false;
      })))

-- What a call as data stands for while it runs: its job.
use Rattle.std.specs.Prelude.{ℕ, Bool, true, false, List, [], ◌∷◌, length, Option, Some, None}
use Rattle.std.specs.Option.{option_map_or}
use Rattle.job_model.specs.Owner.{Owner, owner_of}
use Rattle.job_model.specs.Job.{Body, Machine, Native, Nothing, Job}
use Rattle.job_model.specs.Point.{no_params}
use Rattle.job_model.specs.Steps.{End}
use Rattle.rpc_cont.specs.declared.app.ContApp.{ContApp}
use Rattle.rpc_cont.specs.declared.app.ContApp.TheVariants as app
use Rattle.rpc_cont.specs.declared.cont.Cont.{Cont}
use Rattle.job_model.specs.declared.entry_point.EntryPoint.{EntryPoint}
use Rattle.job_model.specs.declared.entry_point.EntryPoint.TheVariants as entry
use Rattle.native_tas.specs.declared.relation.Relation.{Relation}
use Rattle.ta_isa.specs.declared.image.Image.{Image}
use Rattle.ta_step.specs.declared.machine.Machine.{Machine as AnyMachine}
use Rattle.ta_step.specs.Machine.{state_of}
use Rattle.ta_params.specs.declared.copied_params.CopiedParams.{CopiedParams}

-- the application's UUID
abbrev pub uuid_of : Option ContApp → List ℕ
uuid_of None = []
uuid_of (Some (app.Image uuid image)) = uuid
uuid_of (Some (app.Native native)) = native.uuid
uuid_of (Some (app.Dead uuid)) = uuid

-- whose application this is, under a key
abbrev pub owner_for : Option ContApp → List ℕ → Owner
owner_for app key = owner_of (uuid_of app) key

-- whose application a call is of
abbrev pub call_owner : {M : Type 0} → Cont M → Owner
call_owner cont = owner_for cont.app cont.key

-- the parameters that no machine has
abbrev pub kept_params : Option CopiedParams → CopiedParams
kept_params params = option_map_or (λ (kept : CopiedParams). kept) params no_params

-- what runs of an image: its machine at the entry point that the call has come to
abbrev pub body_at : {M : Type 0} → (M → List ℕ) → Image → Option EntryPoint → Option (AnyMachine M) → Body
body_at bytes image (Some point) (Some machine) = Machine image point (state_of bytes machine)
body_at bytes image _ _ = Nothing

-- what runs of a built-in application: its function, for an invoke
abbrev pub native_body : Relation → Option EntryPoint → Body
native_body relation None = Nothing
native_body relation (Some entry.Create) = Nothing
native_body relation (Some entry.Open) = Nothing
native_body relation (Some (entry.Invoke func)) = Native relation func
native_body relation (Some entry.Close) = Nothing
native_body relation (Some entry.Destroy) = Nothing

-- what runs
abbrev pub body_of : {M : Type 0} → (M → List ℕ) → Option ContApp → Option EntryPoint → Option (AnyMachine M) → Body
body_of bytes None point machine = Nothing
body_of bytes (Some (app.Image uuid image)) point machine = body_at bytes image.value point machine
body_of bytes (Some (app.Native native)) point machine = native_body native.relation point
body_of bytes (Some (app.Dead uuid)) point machine = Nothing

-- the job of a call, with what runs and whose application it is
abbrev pub job_with : {M : Type 0} → Body → Owner → Cont M → Job
job_with body owner cont = record {
  body = body;
  owner = owner;
  login = cont.login;
  context = cont.context;
  objects = cont.objects;
  asked = None;
  params = kept_params cont.params;
  result = cont.result;
  points = cont.points.items;
}

-- the same of an image
abbrev pub job_at : {M : Type 0} → (M → List ℕ) → Owner → Image → Cont M → Job
job_at bytes owner image cont = job_with (body_at bytes image cont.point cont.machine) owner cont

-- the same of this application
abbrev pub job_for : {M : Type 0} → (M → List ℕ) → Option ContApp → Cont M → Job
job_for bytes app cont = job_with (body_of bytes app cont.point cont.machine) (owner_for app cont.key) cont

-- the job that a call stands for
abbrev pub job_of : {M : Type 0} → (M → List ℕ) → Cont M → Job
job_of bytes cont = job_for bytes cont.app cont

-- ---- what is left of a call that has ended

-- its instance's memory
abbrev pub kept_memory : {M : Type 0} → (M → List ℕ) → Option M → List ℕ
kept_memory bytes memory = option_map_or bytes memory []

-- the instance is at its end with it: its create failed, or its destroy has run, or it had nothing to run but a destroy
-- to come
abbrev pub is_at_its_end : Option EntryPoint → List EntryPoint → Bool
is_at_its_end None [] = false
is_at_its_end None (point ∷ points) = true
is_at_its_end (Some entry.Create) points = true
is_at_its_end (Some entry.Open) points = false
is_at_its_end (Some (entry.Invoke func)) points = false
is_at_its_end (Some entry.Close) points = false
is_at_its_end (Some entry.Destroy) points = true

abbrev pub end_left : {M : Type 0} → (M → List ℕ) → Cont M → End
end_left bytes cont = record {
  result = cont.result;
  context = cont.context;
  memory = kept_memory bytes cont.memory;
  objects = cont.objects;
  params = kept_params cont.params;
  is_last = is_at_its_end cont.point cont.points.items;
}

-- ---- memory

-- the bytes of its instance's memory, which its machine has or it itself
abbrev pub memory_of : {M : Type 0} → (M → List ℕ) → Option (AnyMachine M) → Option M → List ℕ
memory_of bytes (Some machine) memory = bytes machine.memory
memory_of bytes None memory = kept_memory bytes memory

-- how many they are
abbrev pub memory_size : {M : Type 0} → (M → List ℕ) → Cont M → ℕ
memory_size bytes cont = length (memory_of bytes cont.machine cont.memory)

-- How a call begins on its instance.
use Rattle.std.specs.Prelude.{◌≡◌, ℕ, Bool, false, List, [], Some, None}
use Rattle.job_model.specs.Beginning.{OfImage, OfRelation, Beginning}
use Rattle.rpc_cont.specs.Running.{IsIdle}
use Rattle.rpc_cont.specs.declared.call_entry.CallEntry.{CallEntry}
use Rattle.rpc_cont.specs.declared.cont.Cont.{Cont}
use Rattle.rpc_cont.specs.declared.held.Held.{Held}
use Rattle.rpc_cont.specs.declared.held.Held.TheVariants as held
use Rattle.ta_isa.specs.Spelling.{IsValid}

-- ---- the instance

-- what it begins on, with the flag as the call has seen it
abbrev pub beginning_on : {M : Type 0} → (M → List ℕ) → Held M → Bool → Beginning
beginning_on bytes (held.Image uuid image memory) seen = record { program = Some (OfImage image.value); memory = bytes memory; seen = seen }
beginning_on bytes (held.Native native) seen = record { program = Some (OfRelation native.relation); memory = []; seen = seen }
beginning_on bytes (held.Dead uuid) seen = record { program = None; memory = []; seen = seen }

-- the UUID of its application
abbrev pub held_uuid : {M : Type 0} → Held M → List ℕ
held_uuid (held.Image uuid image memory) = uuid
held_uuid (held.Native native) = native.uuid
held_uuid (held.Dead uuid) = uuid

-- its image, if it has one, is valid
abbrev pub HasValidImage : {M : Type 0} → Held M → Type 0
HasValidImage (held.Image uuid image memory) = IsValid image.value
HasValidImage (held.Native native) = Unit {0}
HasValidImage (held.Dead uuid) = Unit {0}

-- ---- the call

-- it has come to no entry point yet, and has nothing to run
pub record IsFresh {M : Type 0} (cont : Cont M) : Type 0 where
  pub idle : IsIdle cont
  pub point : cont.point ≡ None
  pub points : cont.points.items ≡ []

-- it is as it was at its entry
pub record IsEntered {M : Type 0} (entered : CallEntry) (cont : Cont M) : Type 0 where
  pub client : cont.client ≡ entered.client
  pub kind : cont.kind ≡ entered.kind
  pub login : cont.login ≡ entered.login
  pub context : cont.context ≡ entered.context
  pub arg : cont.arg ≡ entered.arg
  pub area : cont.area ≡ entered.area
  pub places : cont.places ≡ entered.places
  pub session : cont.session ≡ entered.session
  pub instance : cont.instance ≡ entered.instance
  pub buffer : cont.buffer ≡ None
  pub cancelled : cont.cancelled ≡ false
  pub steps : cont.steps ≡ 0
  pub done : cont.done ≡ false

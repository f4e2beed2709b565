-- What one instance is, when it is made, held, given back and killed.
use Rattle.std.specs.Prelude.{◌≡◌, ℕ, true, false, List, [], Option, Some, None, IsSome}
use Rattle.base.specs.NumberMap.{NumberMap}
use Rattle.tee_storage.specs.declared.handle.Handle.{Handle}
use Rattle.ta_instances.specs.declared.instance.Instance.{Instance}

-- an instance that is alive and that no call holds, with no open objects
abbrev pub made : List ℕ → Option (List ℕ) → Instance
made uuid memory =
    record { uuid = uuid; dead = false; holder = None; memory = memory; objects = [] }

-- the instance, held by the call of a slot, to which its memory and open objects were moved
abbrev pub held_by : ℕ → Instance → Instance
held_by slot instance = record instance { holder = Some slot; memory = None; objects = [] }

-- its memory and open objects, which move to the call that comes to hold it
abbrev pub moved_from : Instance → Option (List ℕ) × NumberMap Handle
moved_from instance = (instance.memory, instance.objects)

-- the instance with memory and open objects, and nobody holds it
abbrev pub given_back : Option (List ℕ) → NumberMap Handle → Instance → Instance
given_back memory objects instance = record instance { holder = None; memory = memory; objects = objects }

-- the instance after a panic
abbrev pub killed : Instance → Instance
killed instance = record instance { dead = true; holder = None; memory = None; objects = [] }

-- what a call holds is not kept here, and a dead instance has no memory
pub record IsInstance (instance : Instance) : Type 0 where
  pub held : IsSome instance.holder → (instance.memory ≡ None) × (instance.objects ≡ [])
  pub dead : instance.dead ≡ true → instance.memory ≡ None

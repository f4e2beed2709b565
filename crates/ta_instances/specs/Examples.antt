-- The definitions on small inputs.
use Rattle.std.specs.Prelude.{◌≡◌, ℕ, true, false, List, [], ◌∷◌, Some, None, replicate}
use Rattle.base.specs.NumberMap.{NumberMap, get, remove}
use Rattle.tee_storage.specs.declared.handle.FileFormat.TheVariants.{Untagged}
use Rattle.tee_storage.specs.declared.handle.Handle.{Handle}
use Rattle.ta_instances.specs.declared.instance.Instance.{Instance}
use Rattle.ta_instances.specs.Instance.{given_back, held_by, killed, made}
use Rattle.ta_instances.specs.Instances.{changed, is_free, is_held, least_with}

abbrev pub uuid : ℕ → List ℕ
uuid octet = replicate 16 octet

abbrev pub object : Handle
object = record { name = 0x31 ∷ 0x2f ∷ 0x41 ∷ []; fd = 70; length = 10; position = 3; format = Untagged }

-- an instance with two bytes of memory and one open object
abbrev pub busy : Instance
busy = given_back (Some (1 ∷ 2 ∷ [])) ((0, object) ∷ []) (made (uuid 5) None)

-- two instances of application 5, and a native one between them
abbrev pub three : NumberMap Instance
three = (2, busy) ∷ (3, made (uuid 6) None) ∷ (7, made (uuid 5) (Some [])) ∷ []

-- the same after instance 2 is held by the call in slot 1
abbrev pub one_held : NumberMap Instance
one_held = changed three 2 (held_by 1)

pub record Examples : Type 0 where
  pub least : least_with three (uuid 5) ≡ Some 2
  pub only : least_with three (uuid 6) ≡ Some 3
  pub without : least_with three (uuid 7) ≡ None
  pub next_least : least_with (remove three 2) (uuid 5) ≡ Some 7
  pub free : is_free three 2 ≡ true
  pub held : is_held one_held 2 ≡ true
  pub not_free : is_free one_held 2 ≡ false
  pub others_free : is_free one_held 7 ≡ true
  pub neither_free : is_free three 4 ≡ false
  pub nor_held : is_held three 4 ≡ false
  pub moved_out : get one_held 2 ≡ Some (record { uuid = uuid 5; dead = false; holder = Some 1; memory = None; objects = [] })
  pub came_back : changed one_held 2 (given_back (Some (1 ∷ 2 ∷ [])) ((0, object) ∷ [])) ≡ three
  pub dead : get (changed one_held 2 killed) 2 ≡ Some (record { uuid = uuid 5; dead = true; holder = None; memory = None; objects = [] })

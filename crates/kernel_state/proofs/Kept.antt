-- What is asked of an instance that is found in the tables is asked of the kernel's.
use Rattle.std.proofs.Common.{◌≡◌, ℕ, Bool, false, Option, sym, ◌∙◌, ap}
use Rattle.std.specs.Prelude.{is_some}
use Rattle.std.specs.Option.{option_map, option_map_or}
use Rattle.base.specs.NumberMap.{get}
use Rattle.kernel_model.specs.Instances.{is_held}
use Rattle.kernel_model.specs.Kernel as model
use Rattle.kernel_state.specs.Tables.{instance_of, tables_of}
use Rattle.kernel_state.specs.declared.tables.Tables.{Tables}
use Rattle.kernel_state.proofs.Maps.{get_seen}
use Rattle.ta_instances.specs.declared.instance.Instance.{Instance}

found_in : (tables : Tables) (number : ℕ) (found : Option Instance) → found ≡ get tables.instances number →
    get (tables_of tables).instances number ≡ option_map instance_of found
found_in tables number found is = get_seen instance_of tables.instances number ∙ ap (option_map instance_of) (sym is)

pub dead_told : (tables : Tables) (number : ℕ) (found : Option Instance) (answer : Bool) → found ≡ get tables.instances number →
    answer ≡ option_map_or (λ (instance : model.Instance). instance.dead) (option_map instance_of found) false →
    answer ≡ option_map_or (λ (instance : model.Instance). instance.dead) (get (tables_of tables).instances number) false
dead_told tables number found answer is so =
    so ∙ ap (λ (one : Option model.Instance). option_map_or (λ (instance : model.Instance). instance.dead) one false) (sym (found_in tables number found is))

pub held_told : (tables : Tables) (number : ℕ) (found : Option Instance) (answer : Bool) → found ≡ get tables.instances number →
    answer ≡ option_map_or is_held (option_map instance_of found) false →
    answer ≡ option_map_or is_held (get (tables_of tables).instances number) false
held_told tables number found answer is so =
    so ∙ ap (λ (one : Option model.Instance). option_map_or is_held one false) (sym (found_in tables number found is))

pub kept_told : (tables : Tables) (number : ℕ) (found : Option Instance) (answer : Bool) → found ≡ get tables.instances number →
    answer ≡ is_some (option_map instance_of found) →
    answer ≡ is_some (get (tables_of tables).instances number)
kept_told tables number found answer is so =
    so ∙ ap (λ (one : Option model.Instance). is_some one) (sym (found_in tables number found is))

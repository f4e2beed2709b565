-- The tables of a core, seen as the kernel's: instances.
use Rattle.std.proofs.Common.{◌≡◌, ℕ, true, false, List, [], ◌∷◌, length, Option, Some, None, refl, sym, ap, subst, ◌∙◌, arith}
use Rattle.std.specs.Prelude.{IsSomeAnd, is_some, is_none}
use Rattle.std.specs.Option.{option_map, option_map_or}
use Rattle.base.specs.NumberMap.{NumberMap, get, insert}
use Rattle.kernel_state.proofs.Maps.{get_seen, insert_seen, seen_as}
use Rattle.kernel_model.specs.Application.{Booted}
use Rattle.kernel_model.specs.Kernel.{Instance}
use Rattle.kernel_state.specs.Calls.{bytes_of}
use Rattle.kernel_state.specs.Tables.{instance_of}
use Rattle.rpc_cont.specs.Conts.{kept_memory}
use Rattle.ta_instances.specs.declared.instance.Instance.{Instance as Kept}
use Rattle.ta_instances.specs.Instances as low
use Rattle.kernel_exit.specs.Ending.{CanBeGivenBack, CanBeRemoved, IsFreeWith, IsHeldWith, is_dead}
use Rattle.kernel_exit.proofs.GivenBack.{changed}

-- the instances as the kernel sees them
abbrev pub seen : NumberMap Kept → NumberMap Instance
seen instances = seen_as instance_of instances

-- ---- one instance

pub seen_at : (instances : NumberMap Kept) (number : ℕ) (kept : Option Kept) → kept ≡ get instances number →
    get (seen instances) number ≡ option_map instance_of kept
seen_at instances number kept is = get_seen instance_of instances number ∙ ap (option_map instance_of) (sym is)

pub dead_there : (instances : NumberMap Kept) (number : ℕ) (kept : Option Kept) → kept ≡ get instances number →
    option_map_or (λ (i : Kept). i.dead) kept false ≡ is_dead (seen instances) number
dead_there instances number kept is = by kept ∙ sym (ap (λ found. option_map_or (λ (i : Instance). i.dead) found false) (seen_at instances number kept is))
  where
    by : (kept : Option Kept) → option_map_or (λ (i : Kept). i.dead) kept false ≡ option_map_or (λ (i : Instance). i.dead) (option_map instance_of kept) false
    by None = refl
    by (Some i) = refl

-- an instance of which something is seen
pub record Found (instances : NumberMap Kept) (number : ℕ) (P : Instance → Type 0) : Type 0 where
  pub instance : Kept
  pub kept : get instances number ≡ Some instance
  pub seen_kept : get (seen instances) number ≡ Some (instance_of instance)
  pub so : P (instance_of instance)

pub found_there : (instances : NumberMap Kept) (number : ℕ) (P : Instance → Type 0) → IsSomeAnd (get (seen instances) number) P → Found instances number P
found_there instances number P so = by (get instances number) refl (subst (λ found. IsSomeAnd found P) (get_seen instance_of instances number) so)
  where
    by : (kept : Option Kept) → get instances number ≡ kept → IsSomeAnd (option_map instance_of kept) P → Found instances number P
    by None is so = absurd so
    by (Some i) is so = record { instance = i; kept = is; seen_kept = seen_at instances number (Some i) (sym is); so = so }

-- ---- what a change asks for

pub is_held_low : (boot : Booted) (instances : NumberMap Kept) (number bytes : ℕ) → CanBeGivenBack boot (seen instances) number bytes →
    low.is_held instances number ≡ true
is_held_low boot instances number bytes can =
    let found = found_there instances number (IsHeldWith boot bytes) can.held in
    ap (λ kept. option_map_or (λ (i : Kept). is_some i.holder) kept false) found.kept ∙ found.so.0

pub is_free_low : (boot : Booted) (instances : NumberMap Kept) (number : ℕ) → CanBeRemoved boot (seen instances) number →
    low.is_free instances number ≡ true
is_free_low boot instances number can =
    let found = found_there instances number (IsFreeWith boot) can.free in
    ap (λ kept. option_map_or (λ (i : Kept). is_none i.holder) kept false) found.kept ∙ ap is_none found.so.0

-- a dead instance gets no memory
pub dead_gets_none : (boot : Booted) (instances : NumberMap Kept) (number bytes : ℕ) (memory : Option (List ℕ)) →
    CanBeGivenBack boot (seen instances) number bytes → (is_dead (seen instances) number ≡ true → memory ≡ None) →
    IsSomeAnd (get instances number) (λ (i : Kept). i.dead ≡ true → memory ≡ None)
dead_gets_none boot instances number bytes memory can none =
    let found = found_there instances number (IsHeldWith boot bytes) can.held in
    let is : found.instance.dead ≡ is_dead (seen instances) number = dead_there instances number (Some found.instance) (sym found.kept) in
    subst (λ (kept : Option Kept). IsSomeAnd kept (λ (i : Kept). i.dead ≡ true → memory ≡ None)) (sym found.kept) (λ dead. none (sym is ∙ dead))

-- ---- what it makes

-- the instances after a change
pub changed_seen : (instances : NumberMap Kept) (number : ℕ) (kept_change : Kept → Kept) (change : Instance → Instance) →
    ((i : Kept) → instance_of (kept_change i) ≡ change (instance_of i)) →
    seen (low.changed instances number kept_change) ≡ changed (seen instances) number change
changed_seen instances number kept_change change each =
    by (get instances number) ∙ ap (λ (f : Option Instance). option_map_or (λ (i : Instance). insert (seen instances) number (change i)) f (seen instances))
    (sym (get_seen instance_of instances number))
  where
    by : (kept : Option Kept) → seen (option_map_or (λ (i : Kept). insert instances number (kept_change i)) kept instances)
        ≡ option_map_or (λ (i : Instance). insert (seen instances) number (change i)) (option_map instance_of kept) (seen instances)
    by None = refl
    by (Some i) = insert_seen instance_of instances number (kept_change i) ∙ ap (λ (x : Instance). insert (seen instances) number x) (each i)

-- no bytes
pub no_bytes : (bytes : List ℕ) → length bytes ≡ 0 → bytes ≡ []
no_bytes [] none = refl
no_bytes (byte ∷ bytes) none = absurd (omega arith)

-- the memory that comes of a removed instance
pub memory_came : (instances : NumberMap Kept) (number : ℕ) (i : Kept) (came : Option (List ℕ)) → get instances number ≡ Some i →
    option_map (λ (k : Kept). k.memory) (get instances number) ≡ Some came → (instance_of i).memory ≡ kept_memory bytes_of came
memory_came instances number i came found is =
    let both : Some i.memory ≡ Some came = sym (ap (option_map (λ (k : Kept). k.memory)) found) ∙ is in
    let same : i.memory ≡ came = cc in
    by i.memory came same
  where
    by : (one other : Option (List ℕ)) → one ≡ other → option_map_or (λ pages. pages) one [] ≡ kept_memory bytes_of other
    by None None same = refl
    by None (Some pages) same = absurd (cc)
    by (Some pages) None same = absurd (cc)
    by (Some pages) (Some bytes) same = let e : pages ≡ bytes = cc in e

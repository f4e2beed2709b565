-- What the tables are once a call holds an instance.
use Rattle.std.proofs.Common.{◌≡◌, ℕ, ◌+◌, ◌-◌, true, false, List, [], Option, Some, None, refl, sym, ap, ◌∙◌, subst, arith}
use Rattle.std.specs.Prelude.{if◌then◌else◌, sum_by, is_none}
use Rattle.std.specs.Option.{IsSomeAnd, option_map, option_map_or}
use Rattle.base.specs.NumberMap.{NumberMap, IsRising, get, insert}
use Rattle.kernel_model.specs.Application.{Booted}
use Rattle.kernel_model.specs.Instances.{free_pages, held_by, made_for, pages_of}
use Rattle.kernel_model.specs.Kernel.{Instance}
use Rattle.ta_instances.specs.Instance as code
use Rattle.ta_instances.specs.Instances.{changed, is_free}
use Rattle.ta_instances.specs.declared.instance.Instance.{Instance as CodeInstance}
use Rattle.tee_storage.specs.declared.handle.Handle.{Handle}
use Rattle.kernel_model.specs.Begin.{with_instance}
use Rattle.kernel_state.specs.Tables.{instance_of, tables_of}
use Rattle.kernel_state.specs.declared.tables.Tables.{Tables}
use Rattle.begin_call.proofs.Maps.{seen, get_seen, get_inserted, insert_seen, insert_twice, weights_stay, weights_with}

-- the instances as the kernel sees them
abbrev pub kept_as : NumberMap CodeInstance → NumberMap Instance
kept_as instances = seen instance_of instances

-- ---- a kept one

by_found : (m : NumberMap CodeInstance) (number slot : ℕ) (instance : Instance) (o : Option CodeInstance) → get m number ≡ o → option_map instance_of o ≡ Some instance →
    kept_as (option_map_or (λ found. insert m number (code.held_by slot found)) o m) ≡ insert (kept_as m) number (held_by slot instance)
by_found m number slot instance None is same = absurd (cc)
by_found m number slot instance (Some found) is same =
    let here : instance_of found ≡ instance = cc in
    insert_seen instance_of m number (code.held_by slot found) ∙ ap (λ (one : Instance). insert (kept_as m) number (held_by slot one)) here

-- it is held
pub instances_held : (m : NumberMap CodeInstance) (number slot : ℕ) (instance : Instance) → get (kept_as m) number ≡ Some instance →
    kept_as (changed m number (code.held_by slot)) ≡ insert (kept_as m) number (held_by slot instance)
instances_held m number slot instance is =
    by_found m number slot instance (get m number) refl (sym (get_seen instance_of m number) ∙ is)

free_found : (o : Option CodeInstance) → IsSomeAnd (option_map instance_of o) (λ instance. instance.holder ≡ None) → option_map_or (λ instance. is_none instance.holder) o false ≡ true
free_found None some = absurd some
free_found (Some found) none = rw none refl

-- no call held it
pub is_free_there : (m : NumberMap CodeInstance) (number : ℕ) → IsSomeAnd (get (kept_as m) number) (λ instance. instance.holder ≡ None) → is_free m number ≡ true
is_free_there m number free =
    free_found (get m number) (subst (λ (o : Option Instance). IsSomeAnd o (λ instance. instance.holder ≡ None)) (get_seen instance_of m number) free)

-- memory and open objects of an instance
abbrev pub moved_from : CodeInstance → Option (List ℕ) × NumberMap Handle
moved_from found = (found.memory, found.objects)

moved_found : (o : Option CodeInstance) (memory : Option (List ℕ)) (objects : NumberMap Handle) (instance : Instance) →
    option_map moved_from o ≡ Some (memory, objects) → option_map instance_of o ≡ Some instance →
    (option_map_or (λ pages. pages) memory [] ≡ instance.memory) × (objects ≡ instance.objects)
moved_found None memory objects instance moved same = absurd (cc)
moved_found (Some found) memory objects instance moved same =
    let here : instance_of found ≡ instance = cc in
    let pair : moved_from found ≡ (memory, objects) = cc in
    let pages : found.memory ≡ memory = ap (λ (one : Option (List ℕ) × NumberMap Handle). one.0) pair in
    let moved_objects : found.objects ≡ objects = ap (λ (one : Option (List ℕ) × NumberMap Handle). one.1) pair in (
      ap (λ (m : Option (List ℕ)). option_map_or (λ pages. pages) m []) (sym pages) ∙ ap (λ (one : Instance). one.memory) here,
      sym moved_objects ∙ ap (λ (one : Instance). one.objects) here,
    )

-- what was moved out of it
pub moved_out : (m : NumberMap CodeInstance) (number : ℕ) (memory : Option (List ℕ)) (objects : NumberMap Handle) (instance : Instance) →
    option_map moved_from (get m number) ≡ Some (memory, objects) → get (kept_as m) number ≡ Some instance →
    (option_map_or (λ pages. pages) memory [] ≡ instance.memory) × (objects ≡ instance.objects)
moved_out m number memory objects instance moved is =
    moved_found (get m number) memory objects instance moved (sym (get_seen instance_of m number) ∙ is)

-- ---- a new one

none_found : (o : Option CodeInstance) → option_map instance_of o ≡ None → o ≡ None
none_found None none = refl
none_found (Some found) none = absurd (cc)

pub absent_there : (m : NumberMap CodeInstance) (number : ℕ) → get (kept_as m) number ≡ None → get m number ≡ None
absent_there m number none = none_found (get m number) (sym (get_seen instance_of m number) ∙ none)

-- it is free
pub made_is_free : (m : NumberMap CodeInstance) (number : ℕ) (uuid : List ℕ) (memory : Option (List ℕ)) →
    is_free (insert m number (code.made uuid memory)) number ≡ true
made_is_free m number uuid memory =
    ap (λ (o : Option CodeInstance). option_map_or (λ instance. is_none instance.holder) o false) (get_inserted m number (code.made uuid memory))

-- it is held then
pub instances_made : (m : NumberMap CodeInstance) (number slot : ℕ) (uuid : List ℕ) (memory : Option (List ℕ)) →
    kept_as (changed (insert m number (code.made uuid memory)) number (code.held_by slot)) ≡ insert (kept_as m) number (made_for uuid slot)
instances_made m number slot uuid memory =
    let made = code.made uuid memory in
    ap (λ (o : Option CodeInstance). kept_as (option_map_or (λ found. insert (insert m number made) number (code.held_by slot found)) o (insert m number made))) (get_inserted m number made)
    ∙ ap kept_as (insert_twice m number made (code.held_by slot made))
    ∙ insert_seen instance_of m number (code.held_by slot made)

-- what was moved out of it
pub moved_out_made : (m : NumberMap CodeInstance) (number : ℕ) (uuid : List ℕ) (given memory : Option (List ℕ)) (objects : NumberMap Handle) →
    option_map moved_from (get (insert m number (code.made uuid given)) number) ≡ Some (memory, objects) →
    (memory ≡ given) × (objects ≡ [])
moved_out_made m number uuid given memory objects moved =
    let made = code.made uuid given in
    let here : Some (moved_from made) ≡ Some (memory, objects) = sym (ap (option_map moved_from) (get_inserted m number made)) ∙ moved in
    let pair : moved_from made ≡ (memory, objects) = cc in
    let left : given ≡ memory = ap (λ (one : Option (List ℕ) × NumberMap Handle). one.0) pair in
    let none : [] ≡ objects = ap (λ (one : Option (List ℕ) × NumberMap Handle). one.1) pair in
    (sym left, sym none)

-- ---- the tables

-- with a kept one that is held
pub tables_held : (tables : Tables) (instances : NumberMap CodeInstance) (number slot : ℕ) (instance : Instance) →
    instances ≡ changed tables.instances number (code.held_by slot) → get (kept_as tables.instances) number ≡ Some instance →
    record (tables_of tables) { instances = kept_as instances } ≡ with_instance (tables_of tables) number (held_by slot instance)
tables_held tables instances number slot instance after is =
    ap (λ (kept : NumberMap Instance). record (tables_of tables) { instances = kept }) (ap kept_as after ∙ instances_held tables.instances number slot instance is)

-- a new one, which is made and then held
pub holds_made : (m made instances : NumberMap CodeInstance) (number slot : ℕ) (uuid name : List ℕ) (memory : Option (List ℕ)) →
    made ≡ insert m number (code.made uuid memory) → instances ≡ changed made number (code.held_by slot) → uuid ≡ name →
    kept_as instances ≡ insert (kept_as m) number (made_for name slot)
holds_made m made instances number slot uuid name memory is after same =
    ap kept_as after
    ∙ ap (λ (between : NumberMap CodeInstance). kept_as (changed between number (code.held_by slot))) is
    ∙ instances_made m number slot uuid memory
    ∙ ap (λ (name : List ℕ). insert (kept_as m) number (made_for name slot)) same

pub tables_made : (tables : Tables) (made instances : NumberMap CodeInstance) (number slot : ℕ) (uuid name : List ℕ) (memory : Option (List ℕ)) →
    made ≡ insert tables.instances number (code.made uuid memory) → instances ≡ changed made number (code.held_by slot) → uuid ≡ name →
    record (tables_of tables) { instances = kept_as instances } ≡ with_instance (tables_of tables) number (made_for name slot)
tables_made tables made instances number slot uuid name memory is after same =
    ap (λ (kept : NumberMap Instance). record (tables_of tables) { instances = kept }) (holds_made tables.instances made instances number slot uuid name memory is after same)

pub free_as_made : (m made : NumberMap CodeInstance) (number : ℕ) (uuid : List ℕ) (memory : Option (List ℕ)) →
    made ≡ insert m number (code.made uuid memory) → is_free made number ≡ true
free_as_made m made number uuid memory is =
    ap (λ (instances : NumberMap CodeInstance). is_free instances number) is ∙ made_is_free m number uuid memory

pub moved_as_made : (m made : NumberMap CodeInstance) (number : ℕ) (uuid : List ℕ) (given memory : Option (List ℕ)) (objects : NumberMap Handle) →
    made ≡ insert m number (code.made uuid given) → option_map moved_from (get made number) ≡ Some (memory, objects) →
    (memory ≡ given) × (objects ≡ [])
moved_as_made m made number uuid given memory objects is moved =
    moved_out_made m number uuid given memory objects (ap (λ (instances : NumberMap CodeInstance). option_map moved_from (get instances number)) (sym is) ∙ moved)

-- ---- pages

-- those of an instance that isn't dead
abbrev used : Booted → Instance → ℕ
used boot instance = if instance.dead then 0 else pages_of boot instance.uuid

pub pages_stay : (boot : Booted) (instances : NumberMap Instance) (number slot : ℕ) (instance : Instance) → IsRising instances → get instances number ≡ Some instance →
    free_pages boot (insert instances number (held_by slot instance)) ≡ free_pages boot instances
pages_stay boot instances number slot instance rising is =
    ap (λ n. boot.frames - n) (weights_stay (used boot) instances number instance (held_by slot instance) rising is refl)

pub pages_taken : (boot : Booted) (instances : NumberMap Instance) (number slot : ℕ) (uuid : List ℕ) → get instances number ≡ None →
    free_pages boot (insert instances number (made_for uuid slot)) ≡ free_pages boot instances - pages_of boot uuid
pages_taken boot instances number slot uuid none =
    let more = weights_with (used boot) instances number (made_for uuid slot) none in
    ap (λ n. boot.frames - n) more ∙ fewer boot.frames (pages_of boot uuid) (sum_by (λ (kept : ℕ × Instance). used boot kept.1) instances)
  where
    fewer : (all more some : ℕ) → all - (more + some) ≡ all - some - more
    fewer all more some = omega arith

some_there : (o : Option Instance) → IsSomeAnd o (λ instance. instance.holder ≡ None) → (instance : Instance) × (o ≡ Some instance)
some_there None some = absurd some
some_there (Some instance) some = (instance, refl)

-- a held one keeps its pages
pub pages_held : (boot : Booted) (m instances : NumberMap CodeInstance) (number slot : ℕ) → IsRising (kept_as m) →
    IsSomeAnd (get (kept_as m) number) (λ instance. instance.holder ≡ None) → instances ≡ changed m number (code.held_by slot) →
    free_pages boot (kept_as instances) ≡ free_pages boot (kept_as m)
pages_held boot m instances number slot rising free after =
    let there = some_there (get (kept_as m) number) free in
    ap (free_pages boot) (ap kept_as after ∙ instances_held m number slot there.0 there.1)
    ∙ pages_stay boot (kept_as m) number slot there.0 rising there.1

-- a new one takes its own
pub pages_made : (boot : Booted) (m made instances : NumberMap CodeInstance) (number slot : ℕ) (uuid name : List ℕ) (memory : Option (List ℕ)) →
    get (kept_as m) number ≡ None → made ≡ insert m number (code.made uuid memory) → instances ≡ changed made number (code.held_by slot) → uuid ≡ name →
    free_pages boot (kept_as instances) ≡ free_pages boot (kept_as m) - pages_of boot name
pages_made boot m made instances number slot uuid name memory none is after same =
    ap (free_pages boot) (holds_made m made instances number slot uuid name memory is after same)
    ∙ pages_taken boot (kept_as m) number slot name none

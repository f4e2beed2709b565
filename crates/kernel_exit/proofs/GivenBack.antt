-- What giving an instance back makes of the tables and of the pool, over the tables as the kernel's.
use Rattle.std.proofs.Common.{◌≡◌, ℕ, ◌+◌, ◌-◌, ◌*◌, ◌/◌, ◌≤◌, Bool, true, false, not, cond, ◌&&◌, ◌||◌, List, length, Option, Some, None, IsSome, refl, sym, ap, subst, ◌∙◌, arith}
use Rattle.std.proofs.Math.Nat.{mul-div_cancel_left}
use Rattle.std.specs.Prelude.{IsSomeAnd, is_some}
use Rattle.std.specs.Option.{option_map_or}
use Rattle.base.specs.NumberMap.{NumberMap, get, insert, remove, IsRising, IsRising-insert}
use Rattle.frame_pool.specs.Pages.{page_count}
use Rattle.kernel_model.specs.Application.{Booted}
use Rattle.kernel_model.specs.Exit.{gives_back}
use Rattle.kernel_model.specs.Instances.{free_pages, given_back, instances_after, killed, pages_of}
use Rattle.kernel_model.specs.Kernel.{Instance, PendingCall, Tables}
use Rattle.kernel_model.specs.Sessions.{has_opened}
use Rattle.kernel_model.specs.SoundMemory.{pages_used}
use Rattle.kernel_model.proofs.SoundSums.{sum_insert, sum_remove}
use Rattle.tee_storage.specs.declared.handle.Handle.{Handle}
use Rattle.kernel_exit.specs.Ending.{CanBeGivenBack, CanBeRemoved, IsFreeWith, IsHeldWith, is_dead, pages_held, with_changed, without_instance}
use Rattle.kernel_exit.proofs.Maps.{get_inserted, remove_insert}

-- ---- pages

-- so many whole pages
pub pages_in : (bytes pages : ℕ) → bytes ≡ 4096 * pages → bytes / 4096 ≡ pages
pages_in bytes pages is = ap (λ n. n / 4096) is ∙ mul-div_cancel_left pages (omega arith)

-- the pages used, where an instance is put back
pub used_changed : (boot : Booted) (instances : NumberMap Instance) (number : ℕ) (was now : Instance) → IsRising instances →
    get instances number ≡ Some was →
    pages_used boot (insert instances number now) + pages_held boot was ≡ pages_used boot instances + pages_held boot now
used_changed boot instances number was now rising found =
    sum_insert (λ (kept : ℕ × Instance). pages_held boot kept.1) instances number was now rising found

-- and where it is removed
pub used_removed : (boot : Booted) (instances : NumberMap Instance) (number : ℕ) (was : Instance) → IsRising instances →
    get instances number ≡ Some was →
    pages_used boot (remove instances number) + pages_held boot was ≡ pages_used boot instances
used_removed boot instances number was rising found =
    sum_remove (λ (kept : ℕ × Instance). pages_held boot kept.1) instances number was rising found

-- the pool, after so many pages have come back
pub freed : (frames used left more free now : ℕ) → free ≡ frames - used → used ≤ frames → left + more ≡ used →
    now ≡ free + more → now ≡ frames - left
freed frames used left more free now is enough less came = omega arith

-- there is room for them
pub fits : (frames used left more free : ℕ) → free ≡ frames - used → used ≤ frames → left + more ≡ used → more ≤ frames - free
fits frames used left more free is enough less = omega arith

-- ---- one instance is changed

-- the instances after a change of one
abbrev pub changed : NumberMap Instance → ℕ → (Instance → Instance) → NumberMap Instance
changed instances number change = option_map_or (λ (i : Instance). insert instances number (change i)) (get instances number) instances

-- the change gives so many pages back, and leaves the instance free with the others
pub record GivesBack (boot : Booted) (instances : NumberMap Instance) (number : ℕ) (change : Instance → Instance) (came : ℕ) : Type 0 where
  pub each : (i : Instance) → get instances number ≡ Some i → (pages_held boot (change i) + came ≡ pages_held boot i) × IsFreeWith boot (change i)

-- an instance that is held so is there
pub record IsThere (instances : NumberMap Instance) (number : ℕ) (P : Instance → Type 0) : Type 0 where
  pub instance : Instance
  pub kept : get instances number ≡ Some instance
  pub so : P instance

pub there : (instances : NumberMap Instance) (number : ℕ) (P : Instance → Type 0) → IsSomeAnd (get instances number) P → IsThere instances number P
there instances number P so = by (get instances number) refl so
  where
    by : (found : Option Instance) → get instances number ≡ found → IsSomeAnd found P → IsThere instances number P
    by None is so = absurd so
    by (Some i) is so = record { instance = i; kept = is; so = so }

-- what is so of the instance there
pub so_of : (instances : NumberMap Instance) (number : ℕ) (P : Instance → Type 0) (i : Instance) → IsSomeAnd (get instances number) P →
    get instances number ≡ Some i → P i
so_of instances number P i so is = subst (λ (found : Option Instance). IsSomeAnd found P) is so

-- an instance that is given back with its memory
pub given_back_so : (boot : Booted) (instances : NumberMap Instance) (number : ℕ) (memory : List ℕ) (objects : NumberMap Handle) →
    CanBeGivenBack boot instances number (length memory) → GivesBack boot instances number (given_back memory objects) 0
given_back_so boot instances number memory objects can = record {
  each = λ i found. (omega arith, (refl, (so_of instances number (IsHeldWith boot (length memory)) i can.held found).1));
}

-- one that is killed
pub killed_so : (boot : Booted) (instances : NumberMap Instance) (number : ℕ) (memory : List ℕ) →
    CanBeGivenBack boot instances number (length memory) → GivesBack boot instances number killed (page_count memory)
killed_so boot instances number memory can = record {
  each = λ i found.
      let whole = pages_in (length memory) (pages_held boot i) (so_of instances number (IsHeldWith boot (length memory)) i can.held found).1 in
      (omega (arith, whole), (refl, refl));
}

-- a dead one comes back with nothing
pub dead_empty : (boot : Booted) (instances : NumberMap Instance) (number bytes : ℕ) → CanBeGivenBack boot instances number bytes →
    is_dead instances number ≡ true → bytes ≡ 0
dead_empty boot instances number bytes can dead =
    let found = there instances number (IsHeldWith boot bytes) can.held in
    let is : found.instance.dead ≡ true = sym (ap (λ (f : Option Instance). option_map_or (λ (i : Instance). i.dead) f false) found.kept) ∙ dead in
    let none : pages_held boot found.instance ≡ 0 = ap (λ b. cond b 0 (pages_of boot found.instance.uuid)) is in
    omega (arith, found.so.1, none)

pub is_there : (boot : Booted) (instances : NumberMap Instance) (number bytes : ℕ) → CanBeGivenBack boot instances number bytes →
    IsSome (get instances number)
is_there boot instances number bytes can = ap is_some (there instances number (IsHeldWith boot bytes) can.held).kept

-- what is killed is dead
pub killed_dead : (boot : Booted) (instances : NumberMap Instance) (number bytes : ℕ) → CanBeGivenBack boot instances number bytes →
    option_map_or (λ (i : Instance). (killed i).dead) (get instances number) false ≡ true
killed_dead boot instances number bytes can =
    ap (λ (f : Option Instance). option_map_or (λ (i : Instance). (killed i).dead) f false) (there instances number (IsHeldWith boot bytes) can.held).kept

-- the pages used before and after
used_so : (boot : Booted) (instances : NumberMap Instance) (number bytes came : ℕ) (change : Instance → Instance) →
    CanBeGivenBack boot instances number bytes → GivesBack boot instances number change came →
    pages_used boot (changed instances number change) + came ≡ pages_used boot instances
used_so boot instances number bytes came change can gives =
    let found = there instances number (IsHeldWith boot bytes) can.held in
    let same : changed instances number change ≡ insert instances number (change found.instance) =
    ap (λ (f : Option Instance). option_map_or (λ (i : Instance). insert instances number (change i)) f instances) found.kept in
    let used = used_changed boot instances number found.instance (change found.instance) can.rising found.kept in
    let pages = (gives.each found.instance found.kept).0 in
    let now : pages_used boot (changed instances number change) ≡ pages_used boot (insert instances number (change found.instance)) = ap (pages_used boot) same in
    omega (arith, used, pages, now)

-- the pages fit the pool
pub change_fits : (boot : Booted) (instances : NumberMap Instance) (number bytes came free : ℕ) (change : Instance → Instance) →
    CanBeGivenBack boot instances number bytes → GivesBack boot instances number change came →
    free ≡ free_pages boot instances → came ≤ boot.frames - free
change_fits boot instances number bytes came free change can gives is =
    fits boot.frames (pages_used boot instances) (pages_used boot (changed instances number change)) came free is can.frames
    (used_so boot instances number bytes came change can gives)

-- the pool has just the free ones afterwards
pub change_frees : (boot : Booted) (instances : NumberMap Instance) (number bytes came free now : ℕ) (change : Instance → Instance) →
    CanBeGivenBack boot instances number bytes → GivesBack boot instances number change came →
    free ≡ free_pages boot instances → now ≡ free + came → now ≡ free_pages boot (changed instances number change)
change_frees boot instances number bytes came free now change can gives is came_is =
    freed boot.frames (pages_used boot instances) (pages_used boot (changed instances number change)) came free now is can.frames
    (used_so boot instances number bytes came change can gives) came_is

-- and the instance can be removed
pub change_leaves : (boot : Booted) (instances : NumberMap Instance) (number bytes came : ℕ) (change : Instance → Instance) →
    CanBeGivenBack boot instances number bytes → GivesBack boot instances number change came →
    CanBeRemoved boot (changed instances number change) number
change_leaves boot instances number bytes came change can gives =
    let found = there instances number (IsHeldWith boot bytes) can.held in
    let same : changed instances number change ≡ insert instances number (change found.instance) =
    ap (λ (f : Option Instance). option_map_or (λ (i : Instance). insert instances number (change i)) f instances) found.kept in
    record {
      rising = subst (λ (m : NumberMap Instance). IsRising m) (sym same) (IsRising-insert instances number (change found.instance) can.rising);
      frames = omega (arith, used_so boot instances number bytes came change can gives, can.frames);
      free = subst (λ (f : Option Instance). IsSomeAnd f (IsFreeWith boot))
          (sym (ap (λ (m : NumberMap Instance). get m number) same ∙ get_inserted instances number (change found.instance)))
          (gives.each found.instance found.kept).1;
    }

-- ---- one is removed

-- its pages fit the pool
pub removal_fits : (boot : Booted) (instances : NumberMap Instance) (number free : ℕ) (i : Instance) → CanBeRemoved boot instances number →
    get instances number ≡ Some i → free ≡ free_pages boot instances → page_count i.memory ≤ boot.frames - free
removal_fits boot instances number free i can found is =
    let whole = pages_in (length i.memory) (pages_held boot i) (so_of instances number (IsFreeWith boot) i can.free found).1 in
    let fit = fits boot.frames (pages_used boot instances) (pages_used boot (remove instances number)) (pages_held boot i) free is can.frames
    (used_removed boot instances number i can.rising found) in
    omega (arith, whole, fit)

pub removal_frees : (boot : Booted) (instances : NumberMap Instance) (number free now : ℕ) (i : Instance) → CanBeRemoved boot instances number →
    get instances number ≡ Some i → free ≡ free_pages boot instances → now ≡ free + page_count i.memory →
    now ≡ free_pages boot (remove instances number)
removal_frees boot instances number free now i can found is came =
    let whole = pages_in (length i.memory) (pages_held boot i) (so_of instances number (IsFreeWith boot) i can.free found).1 in
    freed boot.frames (pages_used boot instances) (pages_used boot (remove instances number)) (pages_held boot i) free now is can.frames
    (used_removed boot instances number i can.rising found) (came ∙ ap (λ n. free + n) whole)

-- ---- tables

-- an instance that goes with its call
pub given_away : (tables : Tables) (call : PendingCall) (number : ℕ) (is_last : Bool) (change : Instance → Instance) →
    call.instance ≡ number →
    (is_last || (option_map_or (λ (i : Instance). (change i).dead) (get tables.instances number) false && not (has_opened tables.sessions number))) ≡ true →
    IsSome (get tables.instances number) →
    without_instance (with_changed tables number change) number ≡ gives_back tables call tables.sessions is_last change
given_away tables call number is_last change same goes kept =
    ap (λ m. record tables { instances = m }) (by (get tables.instances number) goes kept ∙ ap after (sym same))
  where
    after : ℕ → NumberMap Instance
    after n = option_map_or (λ (i : Instance). instances_after tables.sessions tables.instances n is_last (change i)) (get tables.instances n) tables.instances

    by : (found : Option Instance) →
        (is_last || (option_map_or (λ (i : Instance). (change i).dead) found false && not (has_opened tables.sessions number))) ≡ true → IsSome found →
        remove (option_map_or (λ (i : Instance). insert tables.instances number (change i)) found tables.instances) number
        ≡ option_map_or (λ (i : Instance). instances_after tables.sessions tables.instances number is_last (change i)) found tables.instances
    by None goes kept = absurd (cc)
    by (Some i) goes kept =
        remove_insert tables.instances number (change i)
        ∙ sym (ap (λ b. cond {A = NumberMap Instance} b (remove tables.instances number) (insert tables.instances number (change i))) goes)

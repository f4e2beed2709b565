-- An open comes to the instance that it shares.
use Rattle.std.proofs.Common.{◌≡◌, ℕ, List, Option, Some, None, refl, sym, ap, ◌∙◌, subst}
use Rattle.std.specs.Prelude.{if◌then◌else◌, is_some}
use Rattle.std.specs.Option.{IsSomeAnd, option_map}
use Rattle.base.specs.NumberMap.{NumberMap, get}
use Rattle.begin_call.specs.Asking.{shown}
use Rattle.begin_call.specs.Begins.{HasBegun, IsReadyFor}
use Rattle.begin_call.specs.declared.asking.SharedInstance.{SharedInstance}
use Rattle.kernel_model.specs.Application.{Application, uuid_of}
use Rattle.kernel_model.specs.Begin.{Beginner, Opener, opens_kept, opens_made}
use Rattle.kernel_model.specs.Kernel.{Instance}
use Rattle.rpc_cont.specs.declared.cont.Cont.{Cont}
use Rattle.kernel_state.specs.declared.tables.Tables.{Tables}
use Rattle.kernel_entry.proofs.Coming.{has_begun}
use Rattle.kernel_entry.specs.Applying.{CanShare, Came, HasCome, began, open_comes, queued}

-- what is shared is kept under its number
abbrev pub IsKept : NumberMap Instance → Option (ℕ × Instance) → Type 0
IsKept instances shared = (number : ℕ) (instance : Instance) → shared ≡ Some (number, instance) → get instances number ≡ Some instance

pub ready_shared : (shared : Option (ℕ × Instance)) (tables : Tables) (app : Application) (found : SharedInstance) (instances : NumberMap Instance) →
    Some found ≡ option_map shown shared → IsKept instances shared → CanShare tables app shared → found.holder ≡ None →
    IsSomeAnd (get instances found.number) (IsReadyFor app)
ready_shared None tables app found instances is kept can free = absurd cc
ready_shared (Some shared) tables app found instances is kept can free =
    let same : found ≡ shown shared = cc in
    let there : get instances found.number ≡ Some shared.1 =
    ap (λ (found : SharedInstance). get instances found.number) same ∙ kept shared.0 shared.1 refl in
    subst (λ (o : Option Instance). IsSomeAnd o (IsReadyFor app)) (sym there)
    (can (sym (ap (λ (found : SharedInstance). found.holder) same) ∙ free))

pub came_made : (shared : Option (ℕ × Instance)) (after : Tables) (old new : Cont (List ℕ)) (uuid : List ℕ) (who : Beginner) (opener : Opener) →
    None ≡ option_map shown shared → HasBegun after old new uuid (opens_made who opener) → HasCome after old new uuid (open_comes who opener shared)
came_made None after old new uuid who opener is begun = has_begun after old new uuid (opens_made who opener) begun
came_made (Some kept) after old new uuid who opener is begun = absurd cc

-- by who holds it
free_comes : (holder : Option ℕ) (after : Tables) (old new : Cont (List ℕ)) (uuid : List ℕ) (held free : Came) → holder ≡ None →
    HasCome after old new uuid free → HasCome after old new uuid (if is_some holder then held else free)
free_comes None after old new uuid held free is has = has
free_comes (Some slot) after old new uuid held free is has = absurd cc

held_comes : (holder : Option ℕ) (slot : ℕ) (after : Tables) (old new : Cont (List ℕ)) (uuid : List ℕ) (held free : Came) → holder ≡ Some slot →
    HasCome after old new uuid held → HasCome after old new uuid (if is_some holder then held else free)
held_comes None slot after old new uuid held free is has = absurd cc
held_comes (Some other) slot after old new uuid held free is has = has

pub came_kept : (shared : Option (ℕ × Instance)) (found : SharedInstance) (instances : NumberMap Instance) (after : Tables) (old new : Cont (List ℕ)) (uuid : List ℕ)
    (who : Beginner) (opener : Opener) → Some found ≡ option_map shown shared → IsKept instances shared → found.holder ≡ None →
    ((instance : Instance) → get instances found.number ≡ Some instance → HasBegun after old new uuid (opens_kept who opener (found.number, instance))) →
    HasCome after old new uuid (open_comes who opener shared)
came_kept None found instances after old new uuid who opener is kept free begun = absurd cc
came_kept (Some shared) found instances after old new uuid who opener is kept free begun =
    let same : found ≡ shown shared = cc in
    let number : found.number ≡ shared.0 = ap (λ (found : SharedInstance). found.number) same in
    let there : get instances found.number ≡ Some shared.1 = ap (get instances) number ∙ kept shared.0 shared.1 refl in
    let has : HasBegun after old new uuid (opens_kept who opener (shared.0, shared.1)) =
    subst (λ (number : ℕ). HasBegun after old new uuid (opens_kept who opener (number, shared.1))) number (begun shared.1 there) in
    free_comes shared.1.holder after old new uuid (queued who shared.0 (uuid_of opener.app) opener.params) (began (opens_kept who opener shared))
    (sym (ap (λ (found : SharedInstance). found.holder) same) ∙ free) (has_begun after old new uuid (opens_kept who opener shared) has)

pub came_queued : (shared : Option (ℕ × Instance)) (found : SharedInstance) (slot : ℕ) (after : Tables) (old new : Cont (List ℕ)) (uuid : List ℕ)
    (who : Beginner) (opener : Opener) → Some found ≡ option_map shown shared → found.holder ≡ Some slot →
    HasCome after old new uuid (queued who found.number (uuid_of opener.app) opener.params) → HasCome after old new uuid (open_comes who opener shared)
came_queued None found slot after old new uuid who opener is held has = absurd cc
came_queued (Some shared) found slot after old new uuid who opener is held has =
    let same : found ≡ shown shared = cc in
    held_comes shared.1.holder slot after old new uuid (queued who shared.0 (uuid_of opener.app) opener.params) (began (opens_kept who opener shared))
    (sym (ap (λ (found : SharedInstance). found.holder) same) ∙ held)
    (subst (λ (number : ℕ). HasCome after old new uuid (queued who number (uuid_of opener.app) opener.params)) (ap (λ (found : SharedInstance). found.number) same) has)

-- An open on a new instance is one of the number that the instance gets.
use Rattle.std.proofs.Common.{◌≡◌, ℕ, ◌+◌, List, Option, Some, None, refl, ap, ap₂, ◌∙◌, subst}
use Rattle.std.specs.Option.{option_map_or}
use Rattle.kernel_model.specs.Application.{Booted, uuid_of}
use Rattle.kernel_model.specs.Begin.{Beginner, Begun, Opener, awaited_number, opens_made, opens_new}
use Rattle.rpc_cont.specs.declared.cont.Cont.{Cont}
use Rattle.kernel_state.specs.Setup.{application_of}
use Rattle.kernel_state.specs.Tables.{tables_of}
use Rattle.kernel_state.specs.declared.tables.Tables.{Tables}
use Rattle.begin_call.specs.Begins.{HasBegun, brought, new_number, number_behind, who_begins}
use Rattle.begin_call.specs.declared.opens.OpenCall.{OpenCall}

by_awaited : (who : Beginner) (opener : Opener) (next : ℕ) (o : Option ℕ) →
    opens_new who opener (option_map_or (λ number. number) o next) (option_map_or (λ number. next) o (next + 1))
    ≡ option_map_or (λ number. opens_new who opener number next) o (opens_new who opener next (next + 1))
by_awaited who opener next None = refl
by_awaited who opener next (Some number) = refl

-- on tables where only the next number is another
elsewhere : (boot : Booted) (tables mid : Tables) (slot : ℕ) (cont : Cont (List ℕ)) (opener : Opener) (number next : ℕ) →
    mid ≡ record tables { instances_made = mid.instances_made } →
    opens_new (who_begins boot mid slot cont) opener number next ≡ opens_new (who_begins boot tables slot cont) opener number next
elsewhere boot tables mid slot cont opener number next same =
    ap (λ (between : Tables). opens_new (who_begins boot between slot cont) opener number next) same

made_is_new : (boot : Booted) (tables mid : Tables) (slot : ℕ) (cont : Cont (List ℕ)) (call : OpenCall) (number next : ℕ) →
    number ≡ new_number (tables_of tables) (application_of call.app) → next ≡ number_behind (tables_of tables) (application_of call.app) →
    mid ≡ record tables { instances_made = mid.instances_made } →
    opens_new (who_begins boot mid slot cont) (brought call cont) number next ≡ opens_made (who_begins boot tables slot cont) (brought call cont)
made_is_new boot tables mid slot cont call number next is behind same =
    let who = who_begins boot tables slot cont in
    let opener = brought call cont in
    elsewhere boot tables mid slot cont opener number next same
    ∙ ap₂ (λ (number next : ℕ). opens_new who opener number next) is behind
    ∙ by_awaited who opener (tables_of tables).next_instance (awaited_number (tables_of tables) (application_of call.app))

-- what has begun so has begun on the new one
pub begun_made : (boot : Booted) (tables mid after : Tables) (old new : Cont (List ℕ)) (call : OpenCall) (number : ℕ) →
    number ≡ new_number (tables_of tables) (application_of call.app) → (tables_of mid).next_instance ≡ number_behind (tables_of tables) (application_of call.app) →
    mid ≡ record tables { instances_made = mid.instances_made } →
    HasBegun after old new (uuid_of (application_of call.app)) (opens_new (who_begins boot mid call.slot old) (brought call old) number (tables_of mid).next_instance) →
    HasBegun after old new (uuid_of (application_of call.app)) (opens_made (who_begins boot tables call.slot old) (brought call old))
begun_made boot tables mid after old new call number is behind same begun =
    subst (λ (what : Begun). HasBegun after old new (uuid_of (application_of call.app)) what)
    (made_is_new boot tables mid call.slot old call number (tables_of mid).next_instance is behind same) begun

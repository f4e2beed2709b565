-- What is told of a realm's application by its notes.
use Rattle.std.proofs.Common.{◌≡◌, ℕ, List, [], Option, ap, sym, ◌∙◌}
use Rattle.std.proofs.Math.Logic.{∥∥₁_elim}
use Rattle.std.proofs.Props.{props}
use Rattle.std.specs.Option.{option_and_then, option_map}
use Rattle.std.specs.Prelude.{IfOk, Result, Ok, Err}
use Rattle.base.specs.declared.no_memory.NoMemory.{NoMemory}
use Rattle.kernel_model.specs.Instances.{app_of}
use Rattle.kernel_state.specs.Setup.{application_of}
use Rattle.kernel_state.specs.declared.setup.Application.{Application as CodeApp}
use Rattle.realm_model.specs.Reading as realm
use Rattle.realm_notes.specs.Noted.{AreNoted, listing}
use Rattle.realm_notes.specs.Reading.{IsReading, app_by, boot_of, its_realm, noted_by}
use Rattle.realm_notes.specs.Realms.{realm_of}
use Rattle.realm_notes.specs.declared.log_reader.LogReader.{LogReader}
use Rattle.realm_notes.specs.declared.realm.Realm.{Realm as CodeRealm}
use Rattle.realm_notes.specs.declared.realm.Realm.TheVariants as code

uuid_prop : (one other : Option (List ℕ)) → IsProp (one ≡ other)
uuid_prop one other = Prim.hlevel props

-- the UUID of bare notes is the definition's
pub uuid_so : (reader : LogReader) (told : Option (List ℕ)) → IsReading reader
    → ((notes : realm.Notes) → AreNoted reader.notes notes → told ≡ notes.uuid) → told ≡ (noted_by reader).uuid
uuid_so reader told reading tells =
    ∥∥₁_elim reading (uuid_prop told (noted_by reader).uuid) (λ (are : AreNoted reader.notes (listing (noted_by reader) [])).
    tells (listing (noted_by reader) []) are)

-- and the application of one session is that of its UUID
pub app_so : (reader : LogReader) (member : ℕ) (uuid : Option (List ℕ)) (result : Result (Option CodeApp) NoMemory)
    → its_realm reader ≡ code.OneSession member → uuid ≡ (noted_by reader).uuid
    → IfOk result (λ app. option_and_then (app_of (boot_of reader)) uuid ≡ option_map application_of app)
    → IfOk result (λ app. app_by (realm_of (its_realm reader)) (boot_of reader) (noted_by reader) ≡ option_map application_of app)
app_so reader member uuid (Ok app) one same is =
    ap (λ (r : CodeRealm). app_by (realm_of r) (boot_of reader) (noted_by reader)) one
    ∙ ap (λ (o : Option (List ℕ)). option_and_then (app_of (boot_of reader)) o) (sym same) ∙ is
app_so reader member uuid (Err error) one same is = tt

-- What a core is booted with: processors, threads, frames and applications, some of them built in. This project's own.
use Rattle.std.specs.Prelude.{◌≡◌, ℕ, ◌≤◌, not, List, ◌++◌, length, map, All, AllPairs, IsTrue}
use Rattle.std.specs.List.{list_any}
use Rattle.std.specs.Str.{bytes_eq}
use Rattle.job_model.specs.Beginning.{Program, OfRelation}
use Rattle.job_model.specs.Beginning as program
use Rattle.native_tas.specs.declared.relation.Relation.{Relation}
use Rattle.ta_isa.specs.Boots.{IsBoot}
use Rattle.ta_isa.specs.declared.boot.App.{App}
use Rattle.ta_isa.specs.declared.boot.Boot.{Boot}

-- an application: of an image, or built in, with a function that answers its invokes
pub data Application : Type 0 where
  OfImage : App → Application
  BuiltIn : (uuid : List ℕ) (relation : Relation) → Application

abbrev pub uuid_of : Application → List ℕ
uuid_of (OfImage app) = app.uuid
uuid_of (BuiltIn uuid relation) = uuid

-- its instance flags; each session of one that is built in has an instance of its own
abbrev pub flags_of : Application → ℕ
flags_of (OfImage app) = app.image.flags
flags_of (BuiltIn uuid relation) = 0

-- how many pages an instance has
abbrev pub pages_in : Application → ℕ
pages_in (OfImage app) = app.image.pages
pages_in (BuiltIn uuid relation) = 0

-- what its calls begin on
abbrev pub program_of : Application → Program
program_of (OfImage app) = program.OfImage app.image
program_of (BuiltIn uuid relation) = OfRelation relation

-- a built-in application: its UUID, and what its function answers
abbrev pub Native : Type 0
Native = List ℕ × Relation

-- what a core is booted with
pub record Booted : Type 0 where
  pub cpus : ℕ
  pub threads : ℕ
  pub frames : ℕ
  pub apps : List Application
  -- the key of the tags of object files
  pub key : List ℕ

-- by a boot beside built-in applications
abbrev pub booted : Boot → List Native → Booted
booted boot natives = record {
  cpus = boot.cpus;
  threads = boot.threads;
  frames = boot.frames;
  apps = map (λ app. OfImage app) boot.apps ++ map (λ (native : Native). BuiltIn native.0 native.1) natives;
  key = boot.key;
}

-- at most sixteen are built in, no two with one UUID and none with that of an application of the boot
pub record AreNatives (boot : Boot) (natives : List Native) : Type 0 where
  pub few : length natives ≤ 16
  pub apart : AllPairs (λ (earlier : Native) (later : Native). IsTrue (not (bytes_eq earlier.0 later.0))) natives
  pub others : All (λ (native : Native). IsTrue (not (list_any (λ app. bytes_eq app.uuid native.0) boot.apps))) natives

-- a core can be booted so
pub record IsBooted (on : Booted) : Type 0 where
  pub boot : Boot
  pub natives : List Native
  pub is_boot : IsBoot boot
  pub are_natives : AreNatives boot natives
  pub same : on ≡ booted boot natives

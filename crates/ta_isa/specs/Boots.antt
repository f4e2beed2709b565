-- What a core can be booted with. This project's own.
use Rattle.std.specs.Prelude.{◌≤◌, not, length, All, AllPairs, IsTrue}
use Rattle.std.specs.Str.{bytes_eq}
use Rattle.ta_isa.specs.declared.boot.Boot.{Boot}
use Rattle.ta_isa.specs.Spelling.{IsValid}

-- 1 to 8 processors, 1 to 16 thread slots, 1 to 1024 frames, and at most 16 valid applications, no two with one UUID
pub record IsBoot (boot : Boot) : Type 0 where
  pub some_processor : 1 ≤ boot.cpus
  pub few_processors : boot.cpus ≤ 8
  pub some_thread : 1 ≤ boot.threads
  pub few_threads : boot.threads ≤ 16
  pub some_frame : 1 ≤ boot.frames
  pub few_frames : boot.frames ≤ 1024
  pub few_apps : length boot.apps ≤ 16
  pub valid : All (λ app. IsValid app.image) boot.apps
  pub apart : AllPairs (λ earlier later. IsTrue (not (bytes_eq earlier.uuid later.uuid))) boot.apps

-- The limits that a script keeps where a text spells it. This project's own.
use Rattle.std.specs.Prelude.{◌≡◌, ℕ, ◌<◌, ◌≤◌, List, [], ◌∷◌, ◌++◌, length, not, All, IsTrue, Option, IfNone, IfSome}
use Rattle.client_text.specs.declared.script.Script.{Script}
use Rattle.client_text.specs.declared.script.ScriptCall.{ScriptCall}
use Rattle.client_text.specs.declared.script.ScriptCall.TheVariants.{Open, Invoke, Close}
use Rattle.client_text.specs.declared.script.ScriptParam.{ScriptParam}
use Rattle.client_text.specs.Forms.{has_length, is_name}
use Rattle.client_text.specs.Rules.{is_opened}
use Rattle.ta_isa.specs.declared.boot.Boot.{Boot}
use Rattle.trace_text.specs.Limits.{is_within}
use Rattle.trace_text.specs.Sound.{IsSoundBoot, IsSoundFill}

-- a core can be booted so, with a thread for a call and one for its cancellation
pub record IsClientBoot (natives : List (List ℕ)) (boot : Boot) : Type 0 where
  pub boots : IsSoundBoot natives boot
  pub two_threads : 2 ≤ boot.threads

-- a name, and at most four parameters, with at most 65,536 bytes each
pub record IsSoundNamed (name : List ℕ) (params : List ScriptParam) : Type 0 where
  pub letters : IsTrue (is_name name)
  pub few : length params ≤ 4
  pub lengths : All (λ param. IsTrue (has_length param)) params

-- sixteen bytes
pub record IsSixteenBytes (uuid : List ℕ) : Type 0 where
  pub sixteen : length uuid ≡ 16
  pub bytes : All (λ byte. byte < 256) uuid

-- never, or before the answer to a return that can be named
abbrev pub IsSoundCancel : Option ℕ → Type 0
IsSoundCancel cancel_after = IfSome cancel_after (λ number. IsTrue (is_within 1 1000 number))

abbrev pub IsSoundCall : ScriptCall → Type 0
IsSoundCall (Open name uuid params) = IsSoundNamed name params × IsSixteenBytes uuid
IsSoundCall (Invoke name func cancel_after params) = IsSoundNamed name params × IsSoundCancel cancel_after
IsSoundCall (Close name) = IsSoundNamed name []

-- behind these calls, the call has a name that none of them opens, where it opens a session, and one that they open otherwise
abbrev pub IsNamedBehind : List ScriptCall → ScriptCall → Type 0
IsNamedBehind before (Open name uuid params) = IsTrue (not (is_opened before name))
IsNamedBehind before (Invoke name func cancel_after params) = IsTrue (is_opened before name)
IsNamedBehind before (Close name) = IsTrue (is_opened before name)

-- and so has each of the calls that follow on them
abbrev pub AreNamedBehind : List ScriptCall → List ScriptCall → Type 0
AreNamedBehind before [] = Unit {0}
AreNamedBehind before (call ∷ calls) = IsNamedBehind before call × AreNamedBehind (before ++ call ∷ []) calls

-- the script is within its limits, beside built-in applications of these UUIDs
pub record IsSoundScript (natives : List (List ℕ)) (script : Script) : Type 0 where
  pub no_boot : IfNone script.boot ((script.fills ≡ []) × (script.calls ≡ []))
  pub boot : IfSome script.boot (IsClientBoot natives)
  pub fills : All IsSoundFill script.fills
  pub calls : All IsSoundCall script.calls
  pub names : AreNamedBehind [] script.calls

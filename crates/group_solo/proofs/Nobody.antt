-- A group's code before a call has come in.
use Rattle.std.proofs.Common.{◌≡◌, ℕ, List, [], Option, None, refl, sym, subst, arith}
use Rattle.std.specs.Prelude.{IsSomeAnd, find, slice_get}
use Rattle.std.specs.Str.{bytes_eq}
use Rattle.base.specs.NumberMap.{get}
use Rattle.begin_call.specs.Begins.{IsValidApp}
use Rattle.group_model.specs.Group.{nobody_there}
use Rattle.kernel_model.specs.Application.{Application, booted}
use Rattle.kernel_model.specs.Instances.{app_of}
use Rattle.solo.proofs.Applications.{found_beside}
use Rattle.group_solo.specs.Standing.{IsBeside, IsCallAt, IsGroup, app_in}
use Rattle.group_solo.specs.declared.group.GroupSolo.{GroupSolo}
use Rattle.group_solo.specs.declared.kept_call.KeptCall.{KeptCall}
use Rattle.std.specs.Global.{Box}
use Rattle.ta_isa.specs.declared.boot.App.{App}
use Rattle.ta_isa.specs.declared.boot.Boot.{Boot}

-- a call that may be there
abbrev Kept : Type 0
Kept = Option (Box KeptCall)

-- it has nothing, and its numbers are the first
pub record IsEmpty (s : GroupSolo) : Type 0 where
  pub sessions : s.sessions.items ≡ []
  pub instance : s.instance ≡ None
  pub waiting : s.waiting.items ≡ []
  pub calls : s.calls.items ≡ []
  pub next_session : s.next_session ≡ 0
  pub next_instance : s.next_instance ≡ 1

nothing_beside : (s : GroupSolo) → IsEmpty s → IsBeside s (nobody_there s.key)
nothing_beside s has = rw (has.sessions, has.instance, has.waiting, has.calls, has.next_session, has.next_instance) refl

pub nobody : (s : GroupSolo) → IsEmpty s → IsValidApp (app_in s) → IsGroup s (nobody_there s.key)
nobody s has valid = record {
  stands = record {
    beside = nothing_beside s has;
    calls = λ number. subst (λ (items : List Kept). IsCallAt (slice_get items number) (get [] number)) (sym has.calls) tt;
  };
  numbered = record {
    few = omega arith;
    rising = refl;
    given = tt;
    called = λ number call there. absurd cc;
    sessions = omega arith;
    instances = omega arith;
  };
  short = λ number call there. absurd cc;
  valid = valid;
}

-- the application is the boot's, where one is there and none is built in
pub in_boot : (boot : Boot) (uuid : List ℕ) (P : Application → Type 0) → IsSomeAnd (app_of (booted boot []) uuid) P →
    None ≡ find (λ (app : App). bytes_eq app.uuid uuid) boot.apps → ⊥
in_boot boot uuid P some none = subst (λ (o : Option Application). IsSomeAnd o P) (sym (found_beside boot [] uuid [] None none refl refl)) some

-- A session's code before its open comes in.
use Rattle.std.proofs.Common.{◌≡◌, ℕ, List, [], Option, None, refl, sym, subst}
use Rattle.std.specs.Prelude.{slice_get}
use Rattle.std.specs.Global.{Box}
use Rattle.base.specs.NumberMap.{get}
use Rattle.begin_call.specs.Begins.{IsValidApp}
use Rattle.own_model.proofs.InOrder.{stays_in_order}
use Rattle.own_model.specs.Solo.{unopened}
use Rattle.rpc_cont.specs.declared.cont.Cont.{Cont}
use Rattle.solo.specs.Standing.{IsBeside, IsCallAt, IsSolo, app_in}
use Rattle.solo.specs.declared.solo_session.SoloSession.{SoloSession}

-- a call that may be there
abbrev Kept : Type 0
Kept = Option (Box (Cont (List ℕ)))

none_given : (s : SoloSession) → s.session ≡ None → s.instance ≡ None → s.waiting.items ≡ [] → s.calls.items ≡ [] → IsBeside s (unopened s.key)
none_given s session instance waiting calls = rw (session, instance, waiting, calls) refl

pub is_unopened : (s : SoloSession) → s.session ≡ None → s.instance ≡ None → s.waiting.items ≡ [] → s.calls.items ≡ [] → IsValidApp (app_in s) → IsSolo s (unopened s.key)
is_unopened s session instance waiting calls valid = record {
  stands = record {
    beside = none_given s session instance waiting calls;
    calls = λ number. subst (λ (items : List Kept). IsCallAt (slice_get items number) (get [] number)) (sym calls) tt;
  };
  order = stays_in_order.first s.key;
  short = λ number call there. absurd cc;
  valid = valid;
}

-- What the tests of a boot and of a core's journal say.
use Rattle.std.proofs.Common.{◌≡◌, ◌≤◌, ◌^◌, true, false, drop, List, [], ◌∷◌, Option, Some, None, length, get_or, refl, sym, subst}
use Rattle.std.specs.Prelude.{IfSome, ◌==◌}
use Rattle.std.specs.List.{AllByRecursion}
use Rattle.core_cases.specs.Feeding.{HasOneApp, HasSharedApp, IsJournalOf}
use Rattle.event_journal.specs.Journal.{copied_bytes}
use Rattle.event_journal.specs.declared.event.Event.{Event}
use Rattle.isolation.specs.Journals.{IsJournal}
use Rattle.kernel_model.specs.Application.{Booted, Native, OfImage, booted}
use Rattle.kernel_model.specs.History.{IsLegal}
use Rattle.kernel_model.specs.Instances.{is_single}
use Rattle.kernel_state.specs.Reads.{ReadsAgree}
use Rattle.ta_isa.specs.Boots.{IsBoot}
use Rattle.ta_isa.specs.declared.boot.App.{App}
use Rattle.ta_isa.specs.declared.boot.Boot.{Boot}

only_one : (apps : List App) (none : App) → length apps ≡ 1 → apps ≡ get_or apps 0 none ∷ []
only_one [] none e = absurd cc
only_one (app ∷ []) none e = refl
only_one (app ∷ other ∷ apps) none e = absurd cc

pub one_app : (boot : Boot) (none : App) → length boot.apps ≡ 1 → is_single (OfImage (get_or boot.apps 0 none)) ≡ false
    → HasOneApp boot
one_app boot none one alone =
    record { app = get_or boot.apps 0 none; only = only_one boot.apps none one; shares_none = alone }

first_one : (apps : List App) (none : App) → (length apps == 0) ≡ false → apps ≡ get_or apps 0 none ∷ drop 1 apps
first_one [] none e = absurd cc
first_one (app ∷ others) none e = refl

pub shared_app : (boot : Boot) (none : App) → (length boot.apps == 0) ≡ false → is_single (OfImage (get_or boot.apps 0 none)) ≡ true
    → HasSharedApp boot
shared_app boot none some shares = record {
  app = get_or boot.apps 0 none;
  others = drop 1 boot.apps;
  first = first_one boot.apps none some;
  shares = shares;
}

some_boot : (found : Option Boot) (boot : Boot) → found ≡ Some boot → IfSome found IsBoot → IsBoot boot
some_boot None boot e is = absurd cc
some_boot (Some other) boot e is = let same : other ≡ boot = cc in subst IsBoot same is

-- the journal of a core that was booted with what a trace has
pub is_journal : (found : Option Boot) (boot : Boot) (natives : List Native) (on : Booted) (history events : List Event)
    → found ≡ Some boot → IfSome found IsBoot → natives ≡ [] → on ≡ booted boot natives → events ≡ history
    → IsLegal on history → copied_bytes history ≤ 2 ^ 28 → AllByRecursion ReadsAgree history
    → IsJournalOf boot natives events
is_journal found boot natives on history events is boots none same of legal few agree = record {
  boots = some_boot found boot is boots;
  none = none;
  journal = subst (λ (b : Booted). IsJournal b events) same
      (subst (IsJournal on) (sym of) (record { legal = legal; few = few; agree = agree }));
}

-- The boots, journals and sessions of the cases.
use Rattle.std.specs.Prelude.{◌≡◌, true, false, List, [], ◌∷◌}
use Rattle.event_journal.specs.declared.event.Event.{Event}
use Rattle.isolation.specs.Journals.{IsJournal}
use Rattle.kernel_model.specs.Application.{Native, OfImage, booted}
use Rattle.kernel_model.specs.Instances.{is_single}
use Rattle.own_model.specs.declared.own_event.OwnEvent.{OwnEvent}
use Rattle.own_model.specs.declared.own_event.OwnEvent.TheVariants.{Open}
use Rattle.ta_isa.specs.Boots.{IsBoot}
use Rattle.ta_isa.specs.declared.boot.App.{App}
use Rattle.ta_isa.specs.declared.boot.Boot.{Boot}

-- the boot has one application, whose sessions share no instance
pub record HasOneApp (boot : Boot) : Type 0 where
  pub app : App
  pub only : boot.apps ≡ app ∷ []
  pub shares_none : is_single (OfImage app) ≡ false

-- the boot has a first application, whose sessions share an instance
pub record HasSharedApp (boot : Boot) : Type 0 where
  pub app : App
  pub others : List App
  pub first : boot.apps ≡ app ∷ others
  pub shares : is_single (OfImage app) ≡ true

-- the first event is an open
abbrev pub BeginWithOpen : List OwnEvent → Type 0
BeginWithOpen (Open params login area ∷ events) = Unit {0}
BeginWithOpen _ = ⊥

-- they are those of a session of that application
pub record AreOfOnlyApp (boot : Boot) (events : List OwnEvent) : Type 0 where
  pub one : HasOneApp boot
  pub opens : BeginWithOpen events

-- a core of this boot, beside which nothing is built in, can have this journal
pub record IsJournalOf (boot : Boot) (natives : List Native) (history : List Event) : Type 0 where
  pub boots : IsBoot boot
  pub none : natives ≡ []
  pub journal : IsJournal (booted boot natives) history

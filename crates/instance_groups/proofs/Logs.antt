-- What is told of a group by its notes.
use Rattle.std.proofs.Common.{◌≡◌, ℕ, List, [], Option, Some, None, refl, ap, ◌∙◌}
use Rattle.std.specs.Option.{option_map_or}
use Rattle.std.specs.Prelude.{IfOk, Result, Ok, Err}
use Rattle.base.specs.declared.no_memory.NoMemory.{NoMemory}
use Rattle.event_journal.specs.declared.event.Event.{Event}
use Rattle.group_model.specs.Read as group
use Rattle.group_model.specs.declared.group_event.GroupEvent.{GroupEvent}
use Rattle.group_model.specs.declared.group_reply.GroupReply.{GroupReply}
use Rattle.instance_groups.specs.Journals.{events_in, group_events_of, group_replies_of, log_by, replies_in}
use Rattle.kernel_model.specs.Application.{Application, Booted}
use Rattle.kernel_model.specs.Instances.{app_of}

-- the events of the log by an application, and its replies
events_by : (boot : Booted) (history : List Event) (app : Option Application)
    → events_in (log_by boot history app) ≡ option_map_or (group.group_events boot history) app []
events_by boot history None = refl
events_by boot history (Some app) = refl

replies_by : (boot : Booted) (history : List Event) (app : Option Application)
    → replies_in (log_by boot history app) ≡ option_map_or (group.group_replies boot history) app []
replies_by boot history None = refl
replies_by boot history (Some app) = refl

pub events_are : {T : Type 0} (result : Result T NoMemory) (items : T → List GroupEvent) (log : List group.Logged) (boot : Booted)
    (history : List Event) (uuid : List ℕ) → log ≡ log_by boot history (app_of boot uuid)
    → IfOk result (λ x. items x ≡ events_in log) → IfOk result (λ x. items x ≡ group_events_of boot history uuid)
events_are (Ok x) items log boot history uuid same e = e ∙ ap events_in same ∙ events_by boot history (app_of boot uuid)
events_are (Err error) items log boot history uuid same e = tt

pub replies_are : {T : Type 0} (result : Result T NoMemory) (items : T → List GroupReply) (log : List group.Logged) (boot : Booted)
    (history : List Event) (uuid : List ℕ) → log ≡ log_by boot history (app_of boot uuid)
    → IfOk result (λ x. items x ≡ replies_in log) → IfOk result (λ x. items x ≡ group_replies_of boot history uuid)
replies_are (Ok x) items log boot history uuid same e = e ∙ ap replies_in same ∙ replies_by boot history (app_of boot uuid)
replies_are (Err error) items log boot history uuid same e = tt

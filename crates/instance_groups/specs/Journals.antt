-- What is read off a journal of one group: nothing, where the boot has no application of the UUID.
use Rattle.std.specs.Prelude.{◌≡◌, ℕ, true, List, [], Option, Some, filter_map, map}
use Rattle.std.specs.Option.{option_map, option_map_or}
use Rattle.event_journal.specs.declared.event.Event.{Event}
use Rattle.group_model.specs.Read.{Logged, group_events, group_replies, noted}
use Rattle.group_model.specs.declared.group_event.GroupEvent.{GroupEvent}
use Rattle.group_model.specs.declared.group_reply.GroupReply.{GroupReply}
use Rattle.instance_groups.specs.declared.group_log.GroupLog.{GroupLog}
use Rattle.kernel_model.specs.Application.{Application, Booted}
use Rattle.kernel_model.specs.Instances.{app_of, is_single}
use Rattle.kernel_state.specs.Setup.{application_of}

-- the application that the boot has under the UUID, whose sessions share an instance
pub record IsSharedApp (boot : Booted) (uuid : List ℕ) (app : Application) : Type 0 where
  pub of_uuid : app_of boot uuid ≡ Some app
  pub shares : is_single app ≡ true

abbrev pub group_events_of : Booted → List Event → List ℕ → List GroupEvent
group_events_of boot history uuid = option_map_or (group_events boot history) (app_of boot uuid) []

abbrev pub group_replies_of : Booted → List Event → List ℕ → List GroupReply
group_replies_of boot history uuid = option_map_or (group_replies boot history) (app_of boot uuid) []

-- the events of a log, and its replies
abbrev pub events_in : List Logged → List GroupEvent
events_in log = map (λ (logged : Logged). logged.0) log

abbrev pub replies_in : List Logged → List GroupReply
replies_in log = filter_map (λ (logged : Logged). logged.1) log

-- what is noted of the group
abbrev pub log_by : Booted → List Event → Option Application → List Logged
log_by boot history app = option_map_or (λ (found : Application). (noted boot history found).log) app []

-- the application of the UUID, if there is one, and the group's events with their replies
pub record IsLogOf (boot : Booted) (history : List Event) (uuid : List ℕ) (log : GroupLog) : Type 0 where
  pub app : app_of boot uuid ≡ option_map application_of log.app
  pub entries : log.entries.items ≡ log_by boot history (app_of boot uuid)

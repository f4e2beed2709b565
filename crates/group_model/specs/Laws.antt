-- What a log tells of the machine of a group, and what is taken of each kernel that a legal history comes to.
use Rattle.std.specs.Prelude.{List, map, filter_map}
use Rattle.kernel_model.specs.Sound.{unmarked_at}
use Rattle.kernel_model.specs.SoundNumbers.{AreNumbered}
use Rattle.kernel_model.specs.SoundOrder.{AreInOrder}
use Rattle.kernel_model.specs.Kernel.{Kernel}
use Rattle.group_model.specs.Read.{Logged}
use Rattle.group_model.specs.declared.group_event.GroupEvent.{GroupEvent}
use Rattle.group_model.specs.declared.group_reply.GroupReply.{GroupReply}

-- ---- what is tied

abbrev pub events_in : List Logged → List GroupEvent
events_in log = map (λ (logged : Logged). logged.0) log

abbrev pub replies_in : List Logged → List GroupReply
replies_in log = filter_map (λ (logged : Logged). logged.1) log

-- what is taken of each kernel that a legal history comes to
pub record IsSound (kernel : Kernel) : Type 0 where
  pub numbers : AreNumbered (unmarked_at kernel.slots) kernel.tables
  pub order : AreInOrder kernel.tables

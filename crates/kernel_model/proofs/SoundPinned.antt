-- What holds of tables and calls holds too where a slot pins a cookie besides.
use Rattle.std.proofs.Common.{ℕ, Option}
use Rattle.kernel_model.specs.Application.{Booted}
use Rattle.kernel_model.specs.Kernel.{PendingCall, Tables}
use Rattle.kernel_model.specs.Located.{with_argument_pinned}
use Rattle.kernel_model.specs.Sound.{Calls}
use Rattle.kernel_model.specs.SoundCalls.{AreJoined, Fits}
use Rattle.kernel_model.specs.SoundMemory.{AreInMemory}
use Rattle.kernel_model.specs.SoundNumbers.{AreGivenTo, AreNumbered}
use Rattle.kernel_model.specs.SoundOrder.{AreInOrder}
use Rattle.kernel_model.proofs.SoundNewJoined.{Before}
use Rattle.kernel_model.proofs.SoundReasons.{AreReasoned}

module _ (named : Option ℕ) (tables : Tables) (slot : ℕ) where
  abbrev Pinned : Tables
  Pinned = with_argument_pinned named tables slot

  fits_pinned : (at : ℕ) (call : PendingCall) → Fits tables at call → Fits Pinned at call
  fits_pinned at call fits = record { session = fits.session; instance = fits.instance }

  joined_pinned : (calls : Calls) → AreJoined calls tables → AreJoined calls Pinned
  joined_pinned calls joined = record {
    each = λ at call is. fits_pinned at call (joined.each at call is);
    holders = joined.holders;
    opens = joined.opens;
    applications = joined.applications;
  }

  given_pinned : (call : PendingCall) → AreGivenTo tables call → AreGivenTo Pinned call
  given_pinned call given = record { session = given.session; instance = given.instance; some = given.some }

  numbered_pinned : (calls : Calls) → AreNumbered calls tables → AreNumbered calls Pinned
  numbered_pinned calls numbers = record {
    from_one = numbers.from_one;
    few = numbers.few;
    fewer = numbers.fewer;
    sessions = numbers.sessions;
    instances = numbers.instances;
    given = λ at call is. given_pinned call (numbers.given at call is);
    waiters = numbers.waiters;
  }

  pub before_pinned : (calls : Calls) → Before calls tables → Before calls Pinned
  before_pinned calls before = record {
    joined = joined_pinned calls before.joined;
    numbers = numbered_pinned calls before.numbers;
    waiters = before.waiters;
    rising = before.rising;
  }

  pub order_pinned : AreInOrder tables → AreInOrder Pinned
  order_pinned order = record { sessions = order.sessions; instances = order.instances; buffers = order.buffers }

  pub memory_pinned : (boot : Booted) (calls : Calls) → AreInMemory boot calls tables → AreInMemory boot calls Pinned
  memory_pinned boot calls memory = record { instances = memory.instances; jobs = memory.jobs; frames = memory.frames }

  pub reasoned_pinned : (boot : Booted) (calls : Calls) → AreReasoned boot calls tables → AreReasoned boot calls Pinned
  reasoned_pinned boot calls reasons = record { free = reasons.free; jobs = reasons.jobs }

-- A call comes in and waits for its instance: its slot gets the next number, and one more waits.
use Rattle.std.proofs.Common.{ℕ, [], ◌∷◌, ◌++◌, subst, sym}
use Rattle.base.specs.NumberMap.{NumberMap}
use Rattle.session_table.specs.declared.waiters.Waiter.{Waiter}
use Rattle.shm_registry.specs.Registered.{Registered}
use Rattle.kernel_model.specs.Kernel.{PendingCall, Tables}
use Rattle.kernel_model.specs.Sound.{unmarked}
use Rattle.own_model.specs.Own.{next_in}
use Rattle.group_model.specs.Group.{GroupCall}
use Rattle.group_model.specs.Tied.{CallsAlike, Names}
use Rattle.group_model.proofs.Lines.{SameMarked}

-- the numbers with the next call's, which takes this slot
abbrev pub with_next : Names → ℕ → Names
with_next names slot = record names { numbering = next_in names.numbering slot }

-- ---- a mark makes no difference

pub same_marked : (sessions instances : NumberMap ℕ) → SameMarked GroupCall (CallsAlike sessions instances)
same_marked sessions instances kept call now own same alike =
    let plain : CallsAlike sessions instances kept (unmarked call) own = record {
      homes = alike.homes;
      kinds = alike.kinds;
      seen = alike.seen;
      areas = alike.areas;
      buffers = alike.buffers;
      phases = alike.phases;
      flagged = alike.flagged;
    } in
    let there : CallsAlike sessions instances kept (unmarked now) own =
    subst (λ (c : PendingCall). CallsAlike sessions instances kept c own) (sym same) plain in
    record {
      homes = there.homes;
      kinds = there.kinds;
      seen = there.seen;
      areas = there.areas;
      buffers = there.buffers;
      phases = there.phases;
      flagged = there.flagged;
    }

-- ---- all of it

-- the tables with one more that waits, whatever is registered then
abbrev pub tables_waiting : Tables → Registered → Waiter → Tables
tables_waiting tables registered last =
    record tables { registered = registered; waiters = tables.waiters ++ last ∷ [] }

-- The numbers of sessions and instances after each event of a legal history.
use Rattle.std.proofs.Common.{◌≡◌, ℕ, ◌+◌, ◌<◌, ◌≤◌, Bool, true, false, not, List, [], ◌∷◌, ◌++◌, Option, Some, None, refl, ap, subst, sym, ◌∙◌, arith}
use Rattle.std.specs.Prelude.{All, ◌==◌, ◌&&◌, length, nat_lt, slice_get, slice_set}
use Rattle.std.specs.Option.{option_map_or, option_and_then}
use Rattle.std.proofs.lemmas.Bool.Decides.{nat_tests}
use Rattle.std.proofs.lemmas.List.Elements.{All-filter, All-nil, All-push, All-weaker}
use Rattle.base.specs.NumberMap.{NumberMap, get, insert, remove}
use Rattle.base.proofs.MapLemmas.{All-get, All-insert, All-remove}
use Rattle.event_journal.specs.declared.event.Event.{Event}
use Rattle.job_model.specs.declared.call_kind.CallKind.TheVariants as kind
use Rattle.session_table.specs.declared.session.Session.{Session}
use Rattle.session_table.specs.declared.waiters.Waiter.{Waiter}
use Rattle.session_table.specs.Session.{opened_with}
use Rattle.session_table.specs.Waiters.{without}
use Rattle.shm_registry.specs.Registered.{Registered}
use Rattle.kernel_model.specs.Application.{Booted}
use Rattle.kernel_model.specs.Argument.{client_in, thread_in}
use Rattle.kernel_model.specs.Decision.{Taken, Takes}
use Rattle.kernel_model.specs.Entry.{after_decision}
use Rattle.kernel_model.specs.Exit.{progress_of, slot_left, tables_left}
use Rattle.kernel_model.specs.Given.{Buffer, Given, NoBuffer, Nothing, Reply, call_given}
use Rattle.kernel_model.specs.History.{kernel_after}
use Rattle.kernel_model.specs.Instances.{given_back, instances_after, is_single, killed}
use Rattle.kernel_model.specs.Kernel.{Active, Free, Instance, Kernel, PendingCall, Progress, Suspended, Tables, ThreadSlot, Visit, first_kernel}
use Rattle.kernel_model.specs.Leaving.{leaving_of}
use Rattle.kernel_model.specs.Located.{cookie_of, with_argument_pinned}
use Rattle.kernel_model.specs.NewCall.{NewCall, has_session_room, named_session, new_call_of}
use Rattle.kernel_model.specs.Resume.{Resumed, onward_of, resumed_call, sees}
use Rattle.kernel_model.specs.Sessions.{sessions_after, sessions_after_panic}
use Rattle.kernel_model.specs.Sound.{Always, Calls, unmarked_at, unmarked_in, unmarked}
use Rattle.kernel_model.specs.SoundNumbers.{AreGivenTo, AreNoLower, AreNumbered, IsGiven, IsNumberedSession, NumbersRise, is_on_instance}
use Rattle.kernel_model.proofs.Parts.{if-both, option_map_some}
use Rattle.kernel_model.specs.Turns.{cpu_of}
use Rattle.kernel_model.proofs.SoundEvents.{EventCases, after_one, events_onward, holds_after, resumed_taken}
use Rattle.kernel_model.proofs.SoundExits.{exits_all, left_all, unbuffered}
use Rattle.kernel_model.proofs.SoundMaps.{after_all, find-all, if_some, named_is, panic_all, shared_all, unrun_all}
use Rattle.kernel_model.proofs.SoundNewCalls.{NewCases, cases_onward}
use Rattle.kernel_model.proofs.SoundResumes.{resumes_all}
use Rattle.kernel_model.proofs.SoundSlots.{Changes, by_number, free_there, leaves_slot, none_at_first, takes_slot}

-- ---- the tables alone

-- the numbers in the tables
pub record AreIn (tables : Tables) : Type 0 where
  pub from_one : 1 ≤ tables.next_instance
  pub few : tables.next_session ≤ 4294967296
  pub fewer : tables.next_instance ≤ tables.next_session
  pub sessions : All (IsNumberedSession tables) tables.sessions
  pub instances : All (λ (kept : ℕ × Instance). IsGiven tables.next_instance kept.0) tables.instances
  pub waiters : All (λ (waiter : Waiter). IsGiven tables.next_instance waiter.instance) tables.waiters

-- the tables after those: their next numbers are no lower
pub record Onward (before now : Tables) : Type 0 where
  pub session : before.next_session ≤ now.next_session
  pub instance : before.next_instance ≤ now.next_instance
  pub numbers : AreIn now

-- a slot may pin a cookie besides
in_pinned : (named : Option ℕ) (tables : Tables) (slot : ℕ) → AreIn tables → AreIn (with_argument_pinned named tables slot)
in_pinned named tables slot numbers = record {
  from_one = numbers.from_one;
  few = numbers.few;
  fewer = numbers.fewer;
  sessions = numbers.sessions;
  instances = numbers.instances;
  waiters = numbers.waiters;
}

in_tables : (calls : Calls) (tables : Tables) → AreNumbered calls tables → AreIn tables
in_tables calls tables sound = record {
  from_one = sound.from_one;
  few = sound.few;
  fewer = sound.fewer;
  sessions = sound.sessions;
  instances = sound.instances;
  waiters = sound.waiters;
}

no_lower : (n : ℕ) → n ≤ n
no_lower n = omega arith

stay : (tables : Tables) → AreIn tables → Onward tables tables
stay tables numbers = record { session = no_lower tables.next_session; instance = no_lower tables.next_instance; numbers = numbers }

-- with the registered buffers, which have no numbers, as they then are
registered_too : (before now : Tables) (registered : Registered) → Onward before now → Onward before (record now { registered = registered })
registered_too before now registered on = record {
  session = on.session;
  instance = on.instance;
  numbers = record {
    from_one = on.numbers.from_one;
    few = on.numbers.few;
    fewer = on.numbers.fewer;
    sessions = on.numbers.sessions;
    instances = on.numbers.instances;
    waiters = on.numbers.waiters;
  };
}

given_later : (next later number : ℕ) → next ≤ later → IsGiven next number → IsGiven later number
given_later next later number le given = (given.0, let below = given.1 in omega arith)

below_later : (next later number : ℕ) → next ≤ later → number < next → number < later
below_later next later number le lt = omega arith

-- a call's numbers, with other tables
given_on : (before now : Tables) (call : PendingCall) → Onward before now → AreGivenTo before call → AreGivenTo now call
given_on before now call on given = record {
  session = below_later before.next_session now.next_session call.session on.session given.session;
  instance = below_later before.next_instance now.next_instance call.instance on.instance given.instance;
  some = given.some;
}

-- one slot's call changes, with the tables
numbers_change : (before after : Calls) (tables now : Tables) (slot : ℕ) (held : Option PendingCall) → Changes before after slot held
    → AreNumbered before tables → Onward tables now → ((call : PendingCall) → held ≡ Some call → AreGivenTo now call) → AreNumbered after now
numbers_change before after tables now slot held changes sound on its = record {
  from_one = on.numbers.from_one;
  few = on.numbers.few;
  fewer = on.numbers.fewer;
  sessions = on.numbers.sessions;
  instances = on.numbers.instances;
  given = λ at call is.
      by_number slot at
      (λ same. its call (sym changes.here ∙ ap after same ∙ is))
      (λ apart. given_on tables now call on (sound.given at call (sym (changes.others at apart) ∙ is)));
  waiters = on.numbers.waiters;
}

-- ---- new calls

-- what a new call comes to
record NewNumbers (c : NewCall) (taken : Taken) : Type 0 where
  on : Onward c.tables taken.tables
  call : AreGivenTo taken.tables taken.call

positive : (one next : ℕ) → 1 ≤ one → one ≤ next → 0 < next
positive one next first le = omega arith

from_one_on : (one : ℕ) → 1 ≤ one → 0 < one
from_one_on one le = omega arith

not_settled : {P : Type 0} → false ≡ true → P
not_settled e = absurd cc

-- tables that differ from these in none of the numbers
same_numbers : (tables now : Tables) → now.next_session ≡ tables.next_session → now.next_instance ≡ tables.next_instance
    → now.sessions ≡ tables.sessions → now.instances ≡ tables.instances → now.waiters ≡ tables.waiters → AreIn tables → Onward tables now
same_numbers tables now next_session next_instance sessions instances waiters numbers = record {
  session = subst (λ (n : ℕ). tables.next_session ≤ n) (sym next_session) (no_lower tables.next_session);
  instance = subst (λ (n : ℕ). tables.next_instance ≤ n) (sym next_instance) (no_lower tables.next_instance);
  numbers = record {
    from_one = subst (λ (n : ℕ). 1 ≤ n) (sym next_instance) numbers.from_one;
    few = subst (λ (n : ℕ). n ≤ 4294967296) (sym next_session) numbers.few;
    fewer = subst (λ (n : ℕ). n ≤ now.next_session) (sym next_instance) (subst (λ (n : ℕ). tables.next_instance ≤ n) (sym next_session) numbers.fewer);
    sessions = subst (λ (m : NumberMap Session). All (IsNumberedSession now) m) (sym sessions)
        (All-weaker (IsNumberedSession tables) (IsNumberedSession now) (λ kept given. (
          subst (λ (n : ℕ). IsGiven n kept.0) (sym next_session) given.0,
          subst (λ (n : ℕ). IsGiven n kept.1.instance) (sym next_instance) given.1,
        )) tables.sessions numbers.sessions);
    instances = subst (λ (m : NumberMap Instance). All (λ (kept : ℕ × Instance). IsGiven now.next_instance kept.0) m) (sym instances)
        (subst (λ (n : ℕ). All (λ (kept : ℕ × Instance). IsGiven n kept.0) tables.instances) (sym next_instance) numbers.instances);
    waiters = subst (λ (ws : List Waiter). All (λ (waiter : Waiter). IsGiven now.next_instance waiter.instance) ws) (sym waiters)
        (subst (λ (n : ℕ). All (λ (waiter : Waiter). IsGiven n waiter.instance) tables.waiters) (sym next_instance) numbers.waiters);
  };
}

-- another instance of a number that was given
puts_instance : (tables : Tables) (number : ℕ) (instance : Instance) → AreIn tables → IsGiven tables.next_instance number
    → All (λ (kept : ℕ × Instance). IsGiven tables.next_instance kept.0) (insert tables.instances number instance)
puts_instance tables number instance numbers given =
    All-insert (λ (kept : ℕ × Instance). IsGiven tables.next_instance kept.0) tables.instances number instance numbers.instances given

module _ (c : NewCall) (numbers : AreIn c.tables) where
  some_session : 0 < c.tables.next_session
  some_session = positive c.tables.next_instance c.tables.next_session numbers.from_one numbers.fewer

  some_instance : 0 < c.tables.next_instance
  some_instance = from_one_on c.tables.next_instance numbers.from_one

  -- a call of neither a session nor an instance, and the tables but for the registered buffers
  nothing_new : (taken : Taken) → taken.call.session ≡ 0 → taken.call.instance ≡ 0 → is_on_instance taken.call.kind ≡ false
      → Onward c.tables taken.tables → NewNumbers c taken
  nothing_new taken session instance settled on = record {
    on = on;
    call = record {
      session = subst (λ (n : ℕ). n < taken.tables.next_session) (sym session) (below_later c.tables.next_session taken.tables.next_session 0 on.session some_session);
      instance = subst (λ (n : ℕ). n < taken.tables.next_instance) (sym instance) (below_later c.tables.next_instance taken.tables.next_instance 0 on.instance some_instance);
      some = λ is. not_settled (sym settled ∙ is);
    };
  }

  named_given : (named : Session × Instance) → named_session c ≡ Some named
      → IsGiven c.tables.next_session c.head.session × IsGiven c.tables.next_instance named.0.instance
  named_given named is = All-get (IsNumberedSession c.tables) c.tables.sessions c.head.session named.0 numbers.sessions (named_is c named is).kept

  in_named : (taken : Taken) (named : Session × Instance) → named_session c ≡ Some named → taken.call.session ≡ c.head.session → taken.call.instance ≡ 0
      → is_on_instance taken.call.kind ≡ false → taken.tables ≡ c.tables → NewNumbers c taken
  in_named taken named is session instance settled tables = record {
    on = subst (λ (t : Tables). Onward c.tables t) (sym tables) (stay c.tables numbers);
    call = subst (λ (t : Tables). AreGivenTo t taken.call) (sym tables) (record {
      session = subst (λ (n : ℕ). n < c.tables.next_session) (sym session) (named_given named is).0.1;
      instance = subst (λ (n : ℕ). n < c.tables.next_instance) (sym instance) some_instance;
      some = λ is. not_settled (sym settled ∙ is);
    });
  }

  -- ---- opens

  room_below : has_session_room c ≡ true → c.tables.next_session + 1 ≤ 4294967296
  room_below room = both (nat_lt (length c.tables.sessions) 64) (nat_lt c.tables.next_session 4294967296) refl room
    where
      both : (one other : Bool) → nat_lt c.tables.next_session 4294967296 ≡ other → (one && other) ≡ true → c.tables.next_session + 1 ≤ 4294967296
      both true true is e = grind (arith, nat_tests)
      both true false is e = absurd cc
      both false other is e = absurd cc

  one_more : (n : ℕ) → n ≤ n + 1
  one_more n = omega arith

  its_own : (n : ℕ) → n < n + 1
  its_own n = omega arith

  -- the tables with one more session, on an instance that was given by then
  opened_tables : (now : Tables) (number : ℕ) (session : Session) → has_session_room c ≡ true
      → now.next_session ≡ c.tables.next_session + 1 → c.tables.next_instance ≤ now.next_instance → now.next_instance ≤ now.next_session
      → now.sessions ≡ insert c.tables.sessions c.tables.next_session session → IsGiven now.next_instance session.instance
      → All (λ (kept : ℕ × Instance). IsGiven now.next_instance kept.0) now.instances
      → All (λ (waiter : Waiter). IsGiven now.next_instance waiter.instance) now.waiters → Onward c.tables now
  opened_tables now number session room next le fewer sessions given instances waiters =
      let more : c.tables.next_session ≤ now.next_session = subst (λ (n : ℕ). c.tables.next_session ≤ n) (sym next) (one_more c.tables.next_session) in
      record {
        session = more;
        instance = le;
        numbers = record {
          from_one = at_least c.tables.next_instance now.next_instance numbers.from_one le;
          few = subst (λ (n : ℕ). n ≤ 4294967296) (sym next) (room_below room);
          fewer = fewer;
          sessions = subst (λ (m : NumberMap Session). All (IsNumberedSession now) m) (sym sessions)
              (All-insert (IsNumberedSession now) c.tables.sessions c.tables.next_session session
              (All-weaker (IsNumberedSession c.tables) (IsNumberedSession now) (λ kept was. (
                given_later c.tables.next_session now.next_session kept.0 more was.0,
                given_later c.tables.next_instance now.next_instance kept.1.instance le was.1,
              )) c.tables.sessions numbers.sessions)
              ((some_session, subst (λ (n : ℕ). c.tables.next_session < n) (sym next) (its_own c.tables.next_session)), given));
          instances = instances;
          waiters = waiters;
        };
      }
    where
      at_least : (m n : ℕ) → 1 ≤ m → m ≤ n → 1 ≤ n
      at_least m n one le = omega arith

  fewer_still : c.tables.next_instance ≤ c.tables.next_session + 1
  fewer_still = more c.tables.next_instance c.tables.next_session numbers.fewer
    where
      more : (m n : ℕ) → m ≤ n → m ≤ n + 1
      more m n le = omega arith

  both_more : c.tables.next_instance + 1 ≤ c.tables.next_session + 1
  both_more = more c.tables.next_instance c.tables.next_session numbers.fewer
    where
      more : (m n : ℕ) → m ≤ n → m + 1 ≤ n + 1
      more m n le = omega arith

  -- a call of the new session, on an instance that was given by then
  opening_call : (next_instance instance : ℕ) → IsGiven next_instance instance
      → (c.tables.next_session < c.tables.next_session + 1) × (instance < next_instance) × ((0 < c.tables.next_session) × (0 < instance))
  opening_call next_instance instance given = (its_own c.tables.next_session, given.1, (some_session, given.0))

  -- a call in the named session, on its instance
  named_call : (now : Tables) (call : PendingCall) (named : Session × Instance) → named_session c ≡ Some named → Onward c.tables now
      → call.session ≡ c.head.session → call.instance ≡ named.0.instance → AreGivenTo now call
  named_call now call named is on session instance =
      let given = named_given named is in
      record {
        session = subst (λ (n : ℕ). n < now.next_session) (sym session) (below_later c.tables.next_session now.next_session c.head.session on.session given.0.1);
        instance = subst (λ (n : ℕ). n < now.next_instance) (sym instance)
            (below_later c.tables.next_instance now.next_instance named.0.instance on.instance given.1.1);
        some = λ is. (subst (λ (n : ℕ). 0 < n) (sym session) given.0.0, subst (λ (n : ℕ). 0 < n) (sym instance) given.1.0);
      }

  holds_named : (named : Session × Instance) (held : Instance) → named_session c ≡ Some named
      → Onward c.tables (record c.tables { instances = insert c.tables.instances named.0.instance held })
  holds_named named held is = record {
    session = no_lower c.tables.next_session;
    instance = no_lower c.tables.next_instance;
    numbers = record {
      from_one = numbers.from_one;
      few = numbers.few;
      fewer = numbers.fewer;
      sessions = numbers.sessions;
      instances = puts_instance c.tables named.0.instance held numbers (named_given named is).1;
      waiters = numbers.waiters;
    };
  }

  waits_named : (named : Session × Instance) (waiter : Waiter) → named_session c ≡ Some named → waiter.instance ≡ named.0.instance
      → Onward c.tables (record c.tables { waiters = c.tables.waiters ++ waiter ∷ [] })
  waits_named named waiter is instance = record {
    session = no_lower c.tables.next_session;
    instance = no_lower c.tables.next_instance;
    numbers = record {
      from_one = numbers.from_one;
      few = numbers.few;
      fewer = numbers.fewer;
      sessions = numbers.sessions;
      instances = numbers.instances;
      waiters = All-push (λ (w : Waiter). IsGiven c.tables.next_instance w.instance) c.tables.waiters waiter numbers.waiters
          (subst (IsGiven c.tables.next_instance) (sym instance) (named_given named is).1);
    };
  }

  begins_in_session : (named : Session × Instance) (held : Instance) (registered : Registered) (call : PendingCall) → named_session c ≡ Some named
      → call.session ≡ c.head.session → call.instance ≡ named.0.instance
      → NewNumbers c (record {
        call = call;
        tables = record c.tables { instances = insert c.tables.instances named.0.instance held; registered = registered };
        cancels = None;
      })
  begins_in_session named held registered call is session instance =
      let on = registered_too c.tables _ registered (holds_named named held is) in
      record { on = on; call = named_call _ call named is on session instance }

  waits_in_session : (named : Session × Instance) (waiter : Waiter) (registered : Registered) (call : PendingCall) → named_session c ≡ Some named
      → waiter.instance ≡ named.0.instance → call.session ≡ c.head.session → call.instance ≡ named.0.instance
      → NewNumbers c (record {
        call = call;
        tables = record c.tables { waiters = c.tables.waiters ++ waiter ∷ []; registered = registered };
        cancels = None;
      })
  waits_in_session named waiter registered call is of session instance =
      let on = registered_too c.tables _ registered (waits_named named waiter is of) in
      record { on = on; call = named_call _ call named is on session instance }

  new_numbers : NewCases c (NewNumbers c)
  new_numbers = record {
    settles = λ code. nothing_new _ refl refl refl (stay c.tables numbers);
    settles_open = λ app login code. nothing_new _ refl refl refl (stay c.tables numbers);
    settles_invoke = λ named code is. in_named _ named is refl refl refl refl;
    cancels = λ named is. in_named _ named is refl refl refl refl;
    registers = λ param pages new room good. nothing_new _ refl refl refl (same_numbers c.tables _ refl refl refl refl refl numbers);
    unregisters = λ param unpinned. nothing_new _ refl refl refl (same_numbers c.tables _ refl refl refl refl refl numbers);
    opens_kept = λ wanted app copies copied kept shown shared free.
        let given = shared_all (λ (k : ℕ × Instance). IsGiven c.tables.next_instance k.0) c.tables.instances app kept numbers.instances shared in
        let call = opening_call c.tables.next_instance kept.0 given in
        record {
          on = opened_tables _ kept.0 _ shown.room refl (no_lower c.tables.next_instance) fewer_still refl given (puts_instance c.tables kept.0 _ numbers given) numbers.waiters;
          call = record { session = call.0; instance = call.1; some = λ is. call.2 };
        };
    opens_awaited = λ wanted app copies copied number shown shared awaited.
        let waiter = option_map_some (λ (w : Waiter). w.instance) _ number (if_some (is_single app) _ number awaited).1 in
        let found = find-all (λ (w : Waiter). IsGiven c.tables.next_instance w.instance) _ c.tables.waiters waiter.0 numbers.waiters waiter.1 in
        let given = subst (IsGiven c.tables.next_instance) waiter.2 found.holds in
        let call = opening_call c.tables.next_instance number given in
        record {
          on = opened_tables _ number _ shown.room refl (no_lower c.tables.next_instance) fewer_still refl given (puts_instance c.tables number _ numbers given) numbers.waiters;
          call = record { session = call.0; instance = call.1; some = λ is. call.2 };
        };
    opens_next = λ wanted app copies copied shown shared awaited.
        let next = c.tables.next_instance in
        let given : IsGiven (next + 1) next = (some_instance, its_own next) in
        let call = opening_call (next + 1) next given in
        record {
          on = opened_tables _ next _ shown.room refl (one_more next) both_more refl given
              (All-insert (λ (kept : ℕ × Instance). IsGiven (next + 1) kept.0) c.tables.instances next _
              (All-weaker (λ (kept : ℕ × Instance). IsGiven next kept.0) (λ (kept : ℕ × Instance). IsGiven (next + 1) kept.0)
              (λ kept was. given_later next (next + 1) kept.0 (one_more next) was) c.tables.instances numbers.instances) given)
              (All-weaker (λ (waiter : Waiter). IsGiven next waiter.instance) (λ (waiter : Waiter). IsGiven (next + 1) waiter.instance)
              (λ waiter was. given_later next (next + 1) waiter.instance (one_more next) was) c.tables.waiters numbers.waiters);
          call = record { session = call.0; instance = call.1; some = λ is. call.2 };
        };
    open_waits = λ wanted app copies copied kept shown shared held.
        let given = shared_all (λ (k : ℕ × Instance). IsGiven c.tables.next_instance k.0) c.tables.instances app kept numbers.instances shared in
        let call = opening_call c.tables.next_instance kept.0 given in
        record {
          on = opened_tables _ kept.0 _ shown.room refl (no_lower c.tables.next_instance) fewer_still refl given numbers.instances
              (All-push (λ (waiter : Waiter). IsGiven c.tables.next_instance waiter.instance) c.tables.waiters _ numbers.waiters given);
          call = record { session = call.0; instance = call.1; some = λ is. call.2 };
        };
    invokes = λ named copies copied is alive free. begins_in_session named _ _ _ is refl refl;
    invoke_waits = λ named copies copied is alive held. waits_in_session named _ _ _ is refl refl refl;
    closes = λ named is free. begins_in_session named _ _ _ is refl refl;
    close_waits = λ named is held. waits_in_session named _ _ _ is refl refl refl;
  }

-- ---- resumes

-- what a call has come to
record ProgressNumbers (before : Tables) (progress : Progress) : Type 0 where
  on : Onward before progress.tables
  call : AreGivenTo progress.tables progress.call

-- a call with these numbers
given_as : (tables : Tables) (call now : PendingCall) → now.session ≡ call.session → now.instance ≡ call.instance → now.kind ≡ call.kind
    → AreGivenTo tables call → AreGivenTo tables now
given_as tables call now session instance of_kind given = record {
  session = subst (λ (n : ℕ). n < tables.next_session) (sym session) given.session;
  instance = subst (λ (n : ℕ). n < tables.next_instance) (sym instance) given.instance;
  some = λ is.
      let both = given.some (ap is_on_instance (sym of_kind) ∙ is) in
      (subst (λ (n : ℕ). 0 < n) (sym session) both.0, subst (λ (n : ℕ). 0 < n) (sym instance) both.1);
}

module _ (r : Resumed) (numbers : AreIn r.tables) (given : AreGivenTo r.tables r.call) where
  waits_no_more : All (λ (waiter : Waiter). IsGiven r.tables.next_instance waiter.instance) (without r.tables.waiters r.slot)
  waits_no_more =
      All-filter (λ (w : Waiter). not (w.slot == r.slot)) (λ (waiter : Waiter). IsGiven r.tables.next_instance waiter.instance) r.tables.waiters numbers.waiters

  still : (now : PendingCall) → now.session ≡ r.call.session → now.instance ≡ r.call.instance → now.kind ≡ r.call.kind
      → ProgressNumbers r.tables (record { call = now; tables = r.tables })
  still now session instance of_kind =
      record { on = stay r.tables numbers; call = given_as r.tables r.call now session instance of_kind given }

  failed : (now : PendingCall) → now.session ≡ r.call.session → now.instance ≡ r.call.instance → now.kind ≡ r.call.kind
      → ProgressNumbers r.tables (record { call = now; tables = record r.tables { waiters = without r.tables.waiters r.slot } })
  failed now session instance of_kind = record {
    on = record {
      session = no_lower r.tables.next_session;
      instance = no_lower r.tables.next_instance;
      numbers = record {
        from_one = numbers.from_one;
        few = numbers.few;
        fewer = numbers.fewer;
        sessions = numbers.sessions;
        instances = numbers.instances;
        waiters = waits_no_more;
      };
    };
    call = record {
      session = subst (λ (n : ℕ). n < r.tables.next_session) (sym session) given.session;
      instance = subst (λ (n : ℕ). n < r.tables.next_instance) (sym instance) given.instance;
      some = λ is. (given_as r.tables r.call now session instance of_kind given).some is;
    };
  }

  begun_on : (now : PendingCall) (number : ℕ) (instance : Instance) → now.session ≡ r.call.session → now.instance ≡ r.call.instance
      → now.kind ≡ r.call.kind → IsGiven r.tables.next_instance number
      → ProgressNumbers r.tables (record {
        call = now;
        tables = record r.tables { instances = insert r.tables.instances number instance; waiters = without r.tables.waiters r.slot };
      })
  begun_on now number instance session on_instance of_kind is_given = record {
    on = record {
      session = no_lower r.tables.next_session;
      instance = no_lower r.tables.next_instance;
      numbers = record {
        from_one = numbers.from_one;
        few = numbers.few;
        fewer = numbers.fewer;
        sessions = numbers.sessions;
        instances = puts_instance r.tables number instance numbers is_given;
        waiters = waits_no_more;
      };
    };
    call = record {
      session = subst (λ (n : ℕ). n < r.tables.next_session) (sym session) given.session;
      instance = subst (λ (n : ℕ). n < r.tables.next_instance) (sym on_instance) given.instance;
      some = λ is. (given_as r.tables r.call now session on_instance of_kind given).some is;
    };
  }

  its_instance : r.call.kind ≡ kind.Open → IsGiven r.tables.next_instance r.call.instance
  its_instance opening = ((given.some (ap is_on_instance opening)).1, given.instance)

  of_session : (session : Session) → get r.tables.sessions r.call.session ≡ Some session → IsGiven r.tables.next_instance session.instance
  of_session session kept = (All-get (IsNumberedSession r.tables) r.tables.sessions r.call.session session numbers.sessions kept).1

  resumed_numbers : ProgressNumbers r.tables (onward_of r)
  resumed_numbers = resumes_all r (ProgressNumbers r.tables) (record {
    runs = λ job is. still _ refl refl refl;
    asks_still = λ job wanted payload is. still _ refl refl refl;
    answered = λ job wanted payload answer advance is e. still _ refl refl refl;
    ends = λ result params told wakes left is. still _ refl refl refl;
    fails = λ params code is. failed _ refl refl refl;
    sleeps = λ params is. still _ refl refl refl;
    opens = λ params session app instance ready alive opening is. begun_on _ r.call.instance _ refl refl refl (its_instance opening);
    opens_new = λ params session app awake none opening is pages. begun_on _ r.call.instance _ refl refl refl (its_instance opening);
    invokes = λ params session instance func ready alive is. begun_on _ session.instance _ refl refl refl (of_session session ready.awake.kept);
    closes = λ params session instance ready is. begun_on _ session.instance _ refl refl refl (of_session session ready.awake.kept);
  })

given_seen : (tables : Tables) (given : Given) (call : PendingCall) → AreGivenTo tables (unmarked call) → AreGivenTo tables (call_given given (sees call))
given_seen tables given call numbers = in_given given (if-both (AreGivenTo tables) call.marked _ call
    (given_as tables (unmarked call) _ refl refl refl numbers) (given_as tables (unmarked call) call refl refl refl numbers))
  where
    in_given : (given : Given) → AreGivenTo tables (sees call) → AreGivenTo tables (call_given given (sees call))
    in_given Nothing seen = seen
    in_given (Buffer buffer) seen = given_as tables (sees call) _ refl refl refl seen
    in_given NoBuffer seen = seen
    in_given (Reply reply) seen = seen

-- ---- exits

abbrev GivenInstances : Tables → NumberMap Instance → Type 0
GivenInstances tables instances = All (λ (kept : ℕ × Instance). IsGiven tables.next_instance kept.0) instances

opened_given : (tables : Tables) (number : ℕ) (session : Session) (context : ℕ) → IsNumberedSession tables (number, session)
    → IsNumberedSession tables (number, opened_with session context)
opened_given tables number session context given = given

given_back_all : (tables : Tables) (sessions : NumberMap Session) (number : ℕ) (is_last : Bool) (change : Instance → Instance) (found : Option Instance)
    → GivenInstances tables tables.instances → get tables.instances number ≡ found
    → GivenInstances tables (option_map_or (λ (instance : Instance). instances_after sessions tables.instances number is_last (change instance)) found tables.instances)
given_back_all tables sessions number is_last change None all there = all
given_back_all tables sessions number is_last change (Some instance) all there =
    if-both (GivenInstances tables) _ (remove tables.instances number) (insert tables.instances number (change instance))
    (All-remove (λ (kept : ℕ × Instance). IsGiven tables.next_instance kept.0) tables.instances number all)
    (All-insert (λ (kept : ℕ × Instance). IsGiven tables.next_instance kept.0) tables.instances number (change instance) all
    (All-get (λ (kept : ℕ × Instance). IsGiven tables.next_instance kept.0) tables.instances number instance all there))

module _ (tables : Tables) (call : PendingCall) (granted : ℕ) (numbers : AreIn tables) (given : AreGivenTo tables call) where
  same_call : (now : PendingCall) → now.session ≡ call.session → now.instance ≡ call.instance → now.kind ≡ call.kind
      → ProgressNumbers tables (record { call = now; tables = tables })
  same_call now session instance of_kind =
      record { on = stay tables numbers; call = given_as tables call now session instance of_kind given }

  -- other sessions and instances, of those that were given
  shown_with : (now : PendingCall) (sessions : NumberMap Session) (instances : NumberMap Instance) → now.session ≡ call.session
      → now.instance ≡ call.instance → now.kind ≡ call.kind → All (IsNumberedSession tables) sessions → GivenInstances tables instances
      → ProgressNumbers tables (record { call = now; tables = record tables { sessions = sessions; instances = instances } })
  shown_with now sessions instances session instance of_kind all_sessions all_instances = record {
    on = record {
      session = no_lower tables.next_session;
      instance = no_lower tables.next_instance;
      numbers = record {
        from_one = numbers.from_one;
        few = numbers.few;
        fewer = numbers.fewer;
        sessions = all_sessions;
        instances = all_instances;
        waiters = numbers.waiters;
      };
    };
    call = record {
      session = subst (λ (n : ℕ). n < tables.next_session) (sym session) given.session;
      instance = subst (λ (n : ℕ). n < tables.next_instance) (sym instance) given.instance;
      some = λ is. (given_as tables call now session instance of_kind given).some is;
    };
  }

  exit_numbers : (progress : Progress) → progress_of tables call granted ≡ Some progress → ProgressNumbers tables progress
  exit_numbers progress e = exits_all tables call granted (ProgressNumbers tables) progress (record {
    left = λ job later is grant. same_call _ refl refl refl;
    ends = λ job used end is grant. shown_with _ _ _ refl refl refl
        (after_all (IsNumberedSession tables) (opened_given tables) call.kind tables.sessions call.session end.result.result end.context numbers.sessions)
        (given_back_all tables (sessions_after call.kind tables.sessions call.session end.result.result end.context) call.instance end.is_last
        (given_back end.memory end.objects) (get tables.instances call.instance) numbers.instances refl);
    panics = λ job used code is grant. shown_with _ _ _ refl refl refl
        (panic_all (IsNumberedSession tables) (opened_given tables) call.kind tables.sessions call.session numbers.sessions)
        (given_back_all tables (sessions_after_panic call.kind tables.sessions call.session) call.instance false killed (get tables.instances call.instance) numbers.instances refl);
    asks = λ job later used wanted payload is grant. same_call _ refl refl refl;
    asked = λ job wanted payload is. same_call _ refl refl refl;
    waits = λ params is. same_call _ refl refl refl;
    told = λ result params wakes is. same_call _ refl refl refl;
    tells = λ result params wakes is. shown_with _ _ _ refl refl refl
        (unrun_all (IsNumberedSession tables) (opened_given tables) call.kind tables.sessions call.session numbers.sessions) numbers.instances;
  }) e

-- ---- each event

-- the kernel after it
record AfterNumbers (before : Tables) (next : Kernel) : Type 0 where
  numbers : AreNumbered (unmarked_at next.slots) next.tables
  rise : AreNoLower before next.tables

rises : (before now : Tables) → Onward before now → AreNoLower before now
rises before now on = record { session = on.session; instance = on.instance }

some_is : (one other : PendingCall) → Some one ≡ Some other → one ≡ other
some_is one other e = cc

unmarked_given : (tables : Tables) (call other : PendingCall) → Some (unmarked call) ≡ Some other → AreGivenTo tables call → AreGivenTo tables other
unmarked_given tables call other e given =
    subst (AreGivenTo tables) (some_is (unmarked call) other e) (given_as tables call (unmarked call) refl refl refl given)

number_cases : (boot : Booted) (kernel : Kernel) (cpu : ℕ) → AreNumbered (unmarked_at kernel.slots) kernel.tables
    → EventCases boot kernel cpu (AfterNumbers kernel.tables)
number_cases boot kernel cpu sound = record {
  answered = λ visit answer inside. record { numbers = sound; rise = rises kernel.tables kernel.tables (stay kernel.tables whole) };
  comes = λ visit slot found bytes inside free lies fits.
      let c = new_call_of boot kernel.tables visit.regs slot found bytes in
      cases_onward c (NewNumbers c) (λ taken. AfterNumbers kernel.tables (after_decision kernel visit (Takes slot taken)))
      (λ taken new. taken_after visit slot taken Free (free_there kernel.slots slot free)
      (record { session = new.on.session; instance = new.on.instance; numbers = new.on.numbers }) new.call)
      (new_numbers c (in_pinned (cookie_of found) kernel.tables slot whole));
  resumes = λ visit call given inside there offered.
      let slot = thread_in visit.regs in
      let r = resumed_call boot kernel.tables slot call given in
      let before = sound.given slot (unmarked call) (ap (λ (o : Option ThreadSlot). option_and_then unmarked_in o) there) in
      let after = resumed_numbers r whole (given_seen kernel.tables given call before) in
      taken_after visit slot (resumed_taken boot kernel visit call given) (Suspended (client_in visit.regs) call) there after.on after.call;
  told = λ visit answer its fixed. record { numbers = sound; rise = rises kernel.tables kernel.tables (stay kernel.tables whole) };
  goes = λ visit slot worker call progress its inside there e.
      let before = sound.given slot (unmarked call) (ap (λ (o : Option ThreadSlot). option_and_then unmarked_in o) there) in
      let after = exit_numbers kernel.tables call visit.steps whole (given_as kernel.tables (unmarked call) call refl refl refl before) progress e in
      let left = left_after slot worker call progress there after in
      record { numbers = left.numbers; rise = left.rise };
}
  where
    whole : AreIn kernel.tables
    whole = in_tables (unmarked_at kernel.slots) kernel.tables sound

    taken_after : (visit : Visit) (slot : ℕ) (taken : Taken) (held : ThreadSlot) → slice_get kernel.slots slot ≡ Some held
        → Onward kernel.tables taken.tables → AreGivenTo taken.tables taken.call
        → AfterNumbers kernel.tables (after_decision kernel visit (Takes slot taken))
    taken_after visit slot taken held there on given = record {
      numbers = numbers_change (unmarked_at kernel.slots) _ kernel.tables taken.tables slot (Some (unmarked taken.call))
          (takes_slot kernel.slots taken.cancels slot visit.cpu held taken.call there) sound on
          (λ call is. unmarked_given taken.tables taken.call call is given);
      rise = rises kernel.tables taken.tables on;
    }

    left_after : (slot worker : ℕ) (call : PendingCall) (progress : Progress) → slice_get kernel.slots slot ≡ Some (Active worker call)
        → ProgressNumbers kernel.tables progress
        → AfterNumbers kernel.tables (record kernel {
          slots = slice_set kernel.slots slot (slot_left progress.call (leaving_of slot progress.call));
          tables = tables_left progress.tables slot (slot_left progress.call (leaving_of slot progress.call));
        })
    left_after slot worker call progress there after =
        left_all slot progress.call
        (λ held. AfterNumbers kernel.tables (record kernel { slots = slice_set kernel.slots slot held; tables = tables_left progress.tables slot held }))
        (record {
          numbers = numbers_change (unmarked_at kernel.slots) _ kernel.tables progress.tables slot (Some (unmarked progress.call))
              (leaves_slot kernel.slots slot (Active worker call) (Suspended progress.call.client progress.call) there) sound after.on
              (λ other is. unmarked_given progress.tables progress.call other is after.call);
          rise = rises kernel.tables progress.tables after.on;
        })
        (record {
          numbers = numbers_change (unmarked_at kernel.slots) _ kernel.tables progress.tables slot (Some (unmarked (unbuffered progress.call)))
              (leaves_slot kernel.slots slot (Active worker call) (Suspended progress.call.client (unbuffered progress.call)) there) sound after.on
              (λ other is. unmarked_given progress.tables (unbuffered progress.call) other is
              (given_as progress.tables progress.call (unbuffered progress.call) refl refl refl after.call));
          rise = rises kernel.tables progress.tables after.on;
        })
        (λ result params told is.
        let on : Onward kernel.tables (tables_left progress.tables slot Free) = registered_too kernel.tables progress.tables _ after.on in
        record {
          numbers = numbers_change (unmarked_at kernel.slots) _ kernel.tables _ slot None
              (leaves_slot kernel.slots slot (Active worker call) Free there) sound on (λ other no. absurd cc);
          rise = rises kernel.tables _ on;
        })

first_numbers : (boot : Booted) → AreNumbered (unmarked_at (first_kernel boot).slots) (first_kernel boot).tables
first_numbers boot = record {
  from_one = omega arith;
  few = omega arith;
  fewer = omega arith;
  sessions = All-nil _;
  instances = All-nil _;
  given = λ slot call is. let none = none_at_first boot.threads slot in absurd cc;
  waiters = All-nil _;
}

pub numbered : (boot : Booted) (history : List Event) (kernel : Kernel) → kernel_after boot history ≡ Some kernel
    → AreNumbered (unmarked_at kernel.slots) kernel.tables
numbered boot history kernel e =
    holds_after boot (λ events k. AreNumbered (unmarked_at k.slots) k.tables) (record {
      first = first_numbers boot;
      onward = λ events k cpu sound. event_onward k _ _ (λ next after. after.numbers) (number_cases boot k cpu sound);
    }) history kernel e
  where
    event_onward : (k : Kernel) {cpu : ℕ} (P Q : Kernel → Type 0) → ((next : Kernel) → P next → Q next) → EventCases boot k cpu P → EventCases boot k cpu Q
    event_onward k P Q onward cases = events_onward boot k _ P Q onward cases

pub kernels_numbered : Always (λ boot kernel. AreNumbered (unmarked_at kernel.slots) kernel.tables)
kernels_numbered boot history kernel booted e = numbered boot history kernel e

pub numbers_rise : NumbersRise
numbers_rise boot history kernel next happened there e =
    (after_one boot kernel next (AfterNumbers kernel.tables) happened
    (number_cases boot kernel (cpu_of happened) (numbered boot history kernel there)) e).rise

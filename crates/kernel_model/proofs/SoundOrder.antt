-- The tables are in order after each event of a legal history, and have few entries.
use Rattle.std.proofs.Common.{◌≡◌, ℕ, ◌+◌, ◌≤◌, Bool, true, false, cond, List, length, Option, Some, None, refl, ap, subst, sym, ◌∙◌, arith}
use Rattle.std.specs.Prelude.{T, ◌==◌, ◌&&◌, is_some, nat_lt}
use Rattle.std.specs.Option.{option_map_or}
use Rattle.std.specs.Ordering.{nat_cmp}
use Rattle.std.specs.Cmp.{nat_cmp_total}
use Rattle.std.specs.FinMap.Entries as Entries
use Rattle.std.proofs.lemmas.Bool.Decides.{nat_tests}
use Rattle.base.specs.NumberMap.{NumberMap, IsRising, IsRising-insert, IsRising-remove, IsTable, get, insert, remove}
use Rattle.base.proofs.MapLemmas.{length-insert-le, length-remove-le}
use Rattle.event_journal.specs.declared.event.Event.{Event}
use Rattle.job_model.specs.declared.call_kind.CallKind.{CallKind}
use Rattle.job_model.specs.declared.call_kind.CallKind.TheVariants.{Open, Invoke, Close, Settled}
use Rattle.session_table.specs.declared.session.Session.{Session}
use Rattle.session_table.specs.Session.{opened_with}
use Rattle.session_table.specs.Sessions.{settled}
use Rattle.kernel_model.specs.Application.{Booted}
use Rattle.kernel_model.specs.Argument.{thread_in}
use Rattle.kernel_model.specs.Codes.{success}
use Rattle.kernel_model.specs.Exit.{progress_of, tables_left}
use Rattle.kernel_model.specs.History.{kernel_after}
use Rattle.kernel_model.specs.Instances.{given_back, instances_after, killed}
use Rattle.kernel_model.specs.Kernel.{Instance, Kernel, PendingCall, Progress, Tables}
use Rattle.kernel_model.specs.Located.{cookie_of}
use Rattle.kernel_model.specs.NewCall.{NewCall, has_session_room, new_call_of}
use Rattle.kernel_model.specs.Resume.{Resumed, onward_of, resumed_call}
use Rattle.kernel_model.specs.Sessions.{sessions_after, sessions_after_panic, sessions_unrun}
use Rattle.kernel_model.specs.Sound.{Always}
use Rattle.kernel_model.specs.SoundOrder.{AreInOrder}
use Rattle.kernel_model.proofs.Parts.{if-both}
use Rattle.kernel_model.proofs.SoundEvents.{EventCases, holds_after}
use Rattle.kernel_model.proofs.SoundExits.{exits_all, left_all}
use Rattle.kernel_model.proofs.SoundPinned.{order_pinned}
use Rattle.kernel_model.proofs.SoundNewCalls.{NewCases, cases_onward}
use Rattle.kernel_model.proofs.SoundResumes.{resumes_all}

-- ---- tables of at most 64

table_insert : {X : Type 0} (m : NumberMap X) (k : ℕ) (v : X) → IsTable 64 m → nat_lt (length m) 64 ≡ true → IsTable 64 (insert m k v)
table_insert m k v table room = record { rising = IsRising-insert m k v table.rising; few = one_more (length m) (length (insert m k v)) (length-insert-le m k v) room }
  where
    one_more : (before after : ℕ) → after ≤ before + 1 → nat_lt before 64 ≡ true → after ≤ 64
    one_more before after le room = grind (arith, nat_tests)

table_remove : {X : Type 0} (m : NumberMap X) (k : ℕ) → IsTable 64 m → IsTable 64 (remove m k)
table_remove m k table =
    record { rising = IsRising-remove m k table.rising; few = fewer (length m) (length (remove m k)) (length-remove-le m k) table.few }
  where
    fewer : (before after : ℕ) → after ≤ before → before ≤ 64 → after ≤ 64
    fewer before after le few = omega arith

table_replace : {X : Type 0} (m : NumberMap X) (k : ℕ) (v was : X) → IsTable 64 m → get m k ≡ Some was → IsTable 64 (insert m k v)
table_replace {X} m k v was table there = record {
  rising = IsRising-insert m k v table.rising;
  few = subst (λ (n : ℕ). n ≤ 64) (sym same) table.few;
}
  where
    passes : (b : Bool) → b ≡ true → T b
    passes b e = subst T (sym e) tt

    same : length (insert m k v) ≡ length m
    same = Entries.length-put nat_cmp nat_cmp_total k v m (passes _ table.rising)
        ∙ ap (λ (o : Option X). cond (is_some o) (length m) (length m + 1)) there

-- ---- sessions

settled_table : (sessions : NumberMap Session) (number context : ℕ) (found : Option Session) → IsTable 64 sessions → get sessions number ≡ found
    → IsTable 64 (option_map_or (λ session. insert sessions number (opened_with session context)) found sessions)
settled_table sessions number context None table there = table
settled_table sessions number context (Some session) table there = table_replace sessions number (opened_with session context) session table there

after_table : (kind : CallKind) (sessions : NumberMap Session) (number result context : ℕ) → IsTable 64 sessions
    → IsTable 64 (sessions_after kind sessions number result context)
after_table Open sessions number result context table =
    if-both (IsTable 64) (result == success) (settled sessions number context) (remove sessions number)
    (settled_table sessions number context (get sessions number) table refl) (table_remove sessions number table)
after_table (Invoke func) sessions number result context table = table
after_table Close sessions number result context table = table_remove sessions number table
after_table Settled sessions number result context table = table

panic_table : (kind : CallKind) (sessions : NumberMap Session) (number : ℕ) → IsTable 64 sessions → IsTable 64 (sessions_after_panic kind sessions number)
panic_table Open sessions number table = table_remove sessions number table
panic_table (Invoke func) sessions number table = table
panic_table Close sessions number table = table_remove sessions number table
panic_table Settled sessions number table = table

unrun_table : (kind : CallKind) (sessions : NumberMap Session) (number : ℕ) → IsTable 64 sessions → IsTable 64 (sessions_unrun kind sessions number)
unrun_table Open sessions number table = table_remove sessions number table
unrun_table (Invoke func) sessions number table = table
unrun_table Close sessions number table = table
unrun_table Settled sessions number table = table

-- ---- instances

back_rises : (sessions : NumberMap Session) (instances : NumberMap Instance) (number : ℕ) (is_last : Bool) (change : Instance → Instance) (found : Option Instance)
    → IsRising instances
    → IsRising (option_map_or (λ (instance : Instance). instances_after sessions instances number is_last (change instance)) found instances)
back_rises sessions instances number is_last change None rising = rising
back_rises sessions instances number is_last change (Some instance) rising =
    if-both IsRising _ (remove instances number) (insert instances number (change instance))
    (IsRising-remove instances number rising) (IsRising-insert instances number (change instance) rising)

-- ---- each event

first_room : (c : NewCall) → has_session_room c ≡ true → nat_lt (length c.tables.sessions) 64 ≡ true
first_room c room = first (nat_lt (length c.tables.sessions) 64) _ room
  where
    first : (one other : Bool) → (one && other) ≡ true → one ≡ true
    first true other e = refl
    first false other e = absurd cc

new_order : (c : NewCall) → AreInOrder c.tables → NewCases c (λ taken. AreInOrder taken.tables)
new_order c order = record {
  settles = λ code. order;
  settles_open = λ app login code. order;
  settles_invoke = λ named code is. order;
  cancels = λ named is. order;
  registers = λ param pages new room good.
      record { sessions = order.sessions; instances = order.instances; buffers = table_insert c.tables.registered.buffers _ _ order.buffers room };
  unregisters = λ param unpinned.
      record { sessions = order.sessions; instances = order.instances; buffers = table_remove c.tables.registered.buffers _ order.buffers };
  opens_kept = λ wanted app copies copied kept shown shared free. record {
    sessions = table_insert c.tables.sessions c.tables.next_session _ order.sessions (first_room c shown.room);
    instances = IsRising-insert c.tables.instances kept.0 _ order.instances;
    buffers = order.buffers;
  };
  opens_awaited = λ wanted app copies copied number shown shared awaited. record {
    sessions = table_insert c.tables.sessions c.tables.next_session _ order.sessions (first_room c shown.room);
    instances = IsRising-insert c.tables.instances number _ order.instances;
    buffers = order.buffers;
  };
  opens_next = λ wanted app copies copied shown shared awaited. record {
    sessions = table_insert c.tables.sessions c.tables.next_session _ order.sessions (first_room c shown.room);
    instances = IsRising-insert c.tables.instances c.tables.next_instance _ order.instances;
    buffers = order.buffers;
  };
  open_waits = λ wanted app copies copied kept shown shared held. record {
    sessions = table_insert c.tables.sessions c.tables.next_session _ order.sessions (first_room c shown.room);
    instances = order.instances;
    buffers = order.buffers;
  };
  invokes = λ named copies copied is alive free.
      record { sessions = order.sessions; instances = IsRising-insert c.tables.instances named.0.instance _ order.instances; buffers = order.buffers };
  invoke_waits = λ named copies copied is alive held. record { sessions = order.sessions; instances = order.instances; buffers = order.buffers };
  closes = λ named is free.
      record { sessions = order.sessions; instances = IsRising-insert c.tables.instances named.0.instance _ order.instances; buffers = order.buffers };
  close_waits = λ named is held. record { sessions = order.sessions; instances = order.instances; buffers = order.buffers };
}

resumed_order : (r : Resumed) → AreInOrder r.tables → AreInOrder (onward_of r).tables
resumed_order r order = resumes_all r (λ progress. AreInOrder progress.tables) (record {
  runs = λ job is. order;
  asks_still = λ job wanted payload is. order;
  answered = λ job wanted payload answer advance is e. order;
  ends = λ result params told wakes left is. order;
  fails = λ params code is. record { sessions = order.sessions; instances = order.instances; buffers = order.buffers };
  sleeps = λ params is. order;
  opens = λ params session app instance ready alive opening is.
      record { sessions = order.sessions; instances = IsRising-insert r.tables.instances r.call.instance _ order.instances; buffers = order.buffers };
  opens_new = λ params session app awake none opening is pages.
      record { sessions = order.sessions; instances = IsRising-insert r.tables.instances r.call.instance _ order.instances; buffers = order.buffers };
  invokes = λ params session instance func ready alive is.
      record { sessions = order.sessions; instances = IsRising-insert r.tables.instances session.instance _ order.instances; buffers = order.buffers };
  closes = λ params session instance ready is.
      record { sessions = order.sessions; instances = IsRising-insert r.tables.instances session.instance _ order.instances; buffers = order.buffers };
})

pub exit_order : (tables : Tables) (call : PendingCall) (granted : ℕ) (progress : Progress) → AreInOrder tables → progress_of tables call granted ≡ Some progress
    → AreInOrder progress.tables
exit_order tables call granted progress order e = exits_all tables call granted (λ (p : Progress). AreInOrder p.tables) progress (record {
  left = λ job later is grant. order;
  ends = λ job used end is grant.
      let sessions = sessions_after call.kind tables.sessions call.session end.result.result end.context in
      record {
        sessions = after_table call.kind tables.sessions call.session end.result.result end.context order.sessions;
        instances = back_rises sessions tables.instances call.instance end.is_last (given_back end.memory end.objects) (get tables.instances call.instance) order.instances;
        buffers = order.buffers;
      };
  panics = λ job used code is grant.
      let sessions = sessions_after_panic call.kind tables.sessions call.session in
      record {
        sessions = panic_table call.kind tables.sessions call.session order.sessions;
        instances = back_rises sessions tables.instances call.instance false killed (get tables.instances call.instance) order.instances;
        buffers = order.buffers;
      };
  asks = λ job later used wanted payload is grant. order;
  asked = λ job wanted payload is. order;
  waits = λ params is. order;
  told = λ result params wakes is. order;
  tells = λ result params wakes is.
      record { sessions = unrun_table call.kind tables.sessions call.session order.sessions; instances = order.instances; buffers = order.buffers };
}) e

order_cases : (boot : Booted) (kernel : Kernel) (cpu : ℕ) → AreInOrder kernel.tables → EventCases boot kernel cpu (λ next. AreInOrder next.tables)
order_cases boot kernel cpu order = record {
  answered = λ visit answer inside. order;
  comes = λ visit slot found bytes inside free lies fits.
      let c = new_call_of boot kernel.tables visit.regs slot found bytes in
      cases_onward c (λ taken. AreInOrder taken.tables) _ (λ taken sound. sound) (new_order c (order_pinned (cookie_of found) kernel.tables slot order));
  resumes = λ visit call given inside there offered. resumed_order (resumed_call boot kernel.tables (thread_in visit.regs) call given) order;
  told = λ visit answer its fixed. order;
  goes = λ visit slot worker call progress its inside there e.
      let after = exit_order kernel.tables call visit.steps progress order e in
      left_all slot progress.call (λ held. AreInOrder (tables_left progress.tables slot held)) after after
      (λ result params told is. record { sessions = after.sessions; instances = after.instances; buffers = after.buffers });
}

pub in_order : (boot : Booted) (history : List Event) (kernel : Kernel) → kernel_after boot history ≡ Some kernel → AreInOrder kernel.tables
in_order boot history kernel e =
    holds_after boot (λ events k. AreInOrder k.tables) (record {
      first = record {
        sessions = record { rising = refl; few = omega arith };
        instances = refl;
        buffers = record { rising = refl; few = omega arith };
      };
      onward = λ events k cpu order. order_cases boot k cpu order;
    }) history kernel e

pub kernels_in_order : Always (λ boot kernel. AreInOrder kernel.tables)
kernels_in_order boot history kernel booted e = in_order boot history kernel e

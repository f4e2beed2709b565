-- New calls before the open of a session and with it: whether one is the session's, and which number it leaves as the next.
use Rattle.std.proofs.Common.{◌≡◌, ℕ, ◌+◌, ◌<◌, ◌≤◌, Bool, true, false, List, Option, Some, None, refl, ap, subst, sym, ◌∙◌, arith}
use Rattle.std.specs.Prelude.{◌==◌, if◌then◌else◌, is_some, slice_get}
use Rattle.std.specs.Option.{option_map_or}
use Rattle.std.proofs.lemmas.Bool.Decides.{nat_tests}
use Rattle.base.proofs.MapLemmas.{All-get}
use Rattle.event_journal.specs.declared.event.Event.TheVariants.{Entry}
use Rattle.job_model.specs.declared.call_kind.CallKind.TheVariants as kind
use Rattle.ns_ram.specs.declared.read.Read.{Read}
use Rattle.param_copy.specs.Copying.{Copies}
use Rattle.session_table.specs.declared.session.Session.{Session}
use Rattle.smc_abi.specs.declared.regs.Regs.{Regs}
use Rattle.kernel_model.specs.Application.{Application, Booted, uuid_of}
use Rattle.kernel_model.specs.Argument.{IsNew, Opening}
use Rattle.kernel_model.specs.Codes.{bad_parameters, target_dead}
use Rattle.kernel_model.specs.Decision.{Taken}
use Rattle.kernel_model.specs.History.{after_event}
use Rattle.kernel_model.specs.Instances.{app_of, is_held, is_single}
use Rattle.kernel_model.specs.Kernel.{Active, InSlot, Inside, Instance, Kernel, PendingCall, ThreadSlot}
use Rattle.kernel_model.specs.Located.{cookie_of}
use Rattle.kernel_model.specs.NewCall.{NewCall, cancels, keeps_buffers, named_session, new_call_of, open_waits, opens}
use Rattle.kernel_model.specs.NewCall.{settles, settles_invoke, settles_open, shared_by}
use Rattle.kernel_model.specs.SoundCalls.{is_over, is_told}
use Rattle.kernel_model.proofs.Parts.{if-both}
use Rattle.kernel_model.proofs.SoundMaps.{if_some}
use Rattle.own_model.proofs.BelowNumbers.{AreBelow, IsBelow}
use Rattle.own_model.proofs.Lookups.{app_named}
use Rattle.own_model.proofs.NewCalls.{OfAllEndings}
use Rattle.own_model.proofs.NewEntries.{IsTaken, new_call_taken}
use Rattle.own_model.proofs.NotedCalls.{other_unnoted, untold_unnoted}
use Rattle.own_model.proofs.OtherCalls.{named_parts}
use Rattle.own_model.proofs.BelowNumbers.{below_pinned}
use Rattle.own_model.specs.declared.own_event.OwnEvent.{OwnEvent}
use Rattle.own_model.specs.Own.{event_in, event_of}

-- ---- what comes in

-- the call opens the session, and hasn't ended
pub record IsItsOpen (session : ℕ) (call : PendingCall) : Type 0 where
  pub kind : call.kind ≡ kind.Open
  pub pending : is_over call.phase ≡ false
  pub untold : is_told call.phase ≡ false
  pub of_session : call.session ≡ session

-- the open of the session, of this application
pub record OpensIt (boot : Booted) (session : ℕ) (taken : Taken) : Type 0 where
  pub of : Application
  pub of_boot : app_of boot (uuid_of of) ≡ Some of
  pub uuid : taken.call.uuid ≡ Some (uuid_of of)
  pub opens : IsItsOpen session taken.call
  pub noted : is_some (event_of session taken.call) ≡ true
  pub given : session < taken.tables.next_session

-- the open of the session, of an application whose sessions share an instance, for which it waits
pub record SharesIt (boot : Booted) (session : ℕ) (taken : Taken) : Type 0 where
  pub of : Application
  pub of_boot : app_of boot (uuid_of of) ≡ Some of
  pub shares : is_single of ≡ true
  pub uuid : taken.call.uuid ≡ Some (uuid_of of)
  pub opens : IsItsOpen session taken.call

-- before the open of a session, a new call isn't of it, or is its open, or has it wait for an instance that it shares
pub data Coming (boot : Booted) (session : ℕ) (taken : Taken) : Type 0 where
  Another : event_of session taken.call ≡ None → taken.tables.next_session ≤ session → Coming boot session taken
  ItsOpen : OpensIt boot session taken → Coming boot session taken
  ItWaits : event_of session taken.call ≡ None → session < taken.tables.next_session → SharesIt boot session taken
      → Coming boot session taken

-- a new call there: what is known of it
record Early (session : ℕ) (slots : List ThreadSlot) (c : NewCall) : Type 0 where
  below : AreBelow slots c.tables
  before : c.tables.next_session ≤ session

lower : (a n m : ℕ) → a < n → n ≤ m → a ≡ m → ⊥
lower a n m lt le e = grind (arith)

untold : (session : ℕ) (slots : List ThreadSlot) (c : NewCall) (taken : Taken) → Early session slots c
    → event_of session taken.call ≡ (if taken.call.session == session then None else None)
    → taken.tables.next_session ≡ c.tables.next_session
    → Coming c.boot session taken
untold session slots c taken early of next =
    Another (untold_unnoted session taken.call of) (subst (λ n. n ≤ session) (sym next) early.before)

-- a call in a session that is there
in_another : (session : ℕ) (slots : List ThreadSlot) (c : NewCall) (named : Session × Instance) (taken : Taken)
    → Early session slots c → named_session c ≡ Some named → taken.call.session ≡ c.head.session
    → taken.tables.next_session ≡ c.tables.next_session
    → Coming c.boot session taken
in_another session slots c named taken early is of next =
    let there = (named_parts c named is).0 in
    let below = All-get (λ (kept : ℕ × Session). IsBelow c.tables kept.0 kept.1.instance) c.tables.sessions
    c.head.session named.0 early.below.sessions there in
    Another (other_unnoted session taken.call (λ e.
    lower c.head.session c.tables.next_session session below.0 early.before (sym of ∙ e)))
    (subst (λ n. n ≤ session) (sym next) early.before)

-- ---- an open

next_is_more : (n m : ℕ) → n ≡ m → m < n + 1
next_is_more n m e = grind (arith)

next_is_less : (n m : ℕ) → n ≤ m → (n == m) ≡ false → n + 1 ≤ m
next_is_less n m le e = grind (arith, nat_tests)

tied_numbers : (n m : ℕ) → (n == m) ≡ true → n ≡ m
tied_numbers n m e = grind (arith, nat_tests)

-- the event of a call, by whether it is of the session
abbrev event_if : PendingCall → Bool → Option OwnEvent
event_if call test = if test then event_in (is_some call.area) call.settled call.kind call.phase else None

begins_one : (session : ℕ) (slots : List ThreadSlot) (c : NewCall) (wanted : Opening) (of : Application)
    (copies : Copies) → Early session slots c
    → app_of c.boot wanted.uuid ≡ Some of → (test : Bool) → (c.tables.next_session == session) ≡ test
    → Coming c.boot session (opens c wanted of copies)
begins_one session slots c wanted of copies early is true same =
    ItsOpen (record {
      of = of;
      of_boot = ap (λ u. app_of c.boot u) (app_named c.boot wanted.uuid of is) ∙ is;
      uuid = refl;
      opens = record { kind = refl; pending = refl; untold = refl; of_session = tied_numbers c.tables.next_session session same };
      noted = ap (λ b. is_some (event_if (opens c wanted of copies).call b)) same;
      given = next_is_more c.tables.next_session session (tied_numbers c.tables.next_session session same);
    })
begins_one session slots c wanted of copies early is false other =
    Another (ap (λ b. event_if (opens c wanted of copies).call b) other)
    (next_is_less c.tables.next_session session early.before other)

waits_one : (session : ℕ) (slots : List ThreadSlot) (c : NewCall) (wanted : Opening) (of : Application)
    (copies : Copies) (kept : ℕ × Instance) → Early session slots c
    → app_of c.boot wanted.uuid ≡ Some of → shared_by c of ≡ Some kept
    → (test : Bool) → (c.tables.next_session == session) ≡ test
    → Coming c.boot session (open_waits c wanted of copies kept)
waits_one session slots c wanted of copies kept early is shared true same =
    ItWaits (ap (λ b. event_if (open_waits c wanted of copies kept).call b) same)
    (next_is_more c.tables.next_session session (tied_numbers c.tables.next_session session same))
    (record {
      of = of;
      of_boot = ap (λ u. app_of c.boot u) (app_named c.boot wanted.uuid of is) ∙ is;
      shares = (if_some (is_single of) _ kept shared).0;
      uuid = refl;
      opens = record { kind = refl; pending = refl; untold = refl; of_session = tied_numbers c.tables.next_session session same };
    })
waits_one session slots c wanted of copies kept early is shared false other =
    Another (ap (λ b. event_if (open_waits c wanted of copies kept).call b) other)
    (next_is_less c.tables.next_session session early.before other)

-- by what is found
found_one : {A : Type 0} (session : ℕ) (c : NewCall) (other : Taken) (f : A → Taken) (found : Option A)
    → ((value : A) → found ≡ Some value → Coming c.boot session (f value)) → Coming c.boot session other
    → Coming c.boot session (option_map_or f found other)
found_one session c other f None on_found on_other = on_other
found_one session c other f (Some value) on_found on_other = on_found value refl

-- each way in which it can end
endings_early : (session : ℕ) (slots : List ThreadSlot) (c : NewCall) → Early session slots c
    → OfAllEndings (Coming c.boot session) c
endings_early session slots c early = record {
  settled = λ code. untold session slots c (settles c code) early refl refl;
  settled_open = λ of login code. untold session slots c (settles_open c of login code) early refl refl;
  opened = λ wanted of copies is.
      let opened = begins_one session slots c wanted of copies early is (c.tables.next_session == session) refl in
      found_one session c (opens c wanted of copies) _ (shared_by c of)
      (λ kept shared. if-both (Coming c.boot session) (is_held kept.1)
      (open_waits c wanted of copies kept) (opens c wanted of copies)
      (waits_one session slots c wanted of copies kept early is shared (c.tables.next_session == session) refl) opened)
      opened;
  dead = λ named is dead. in_another session slots c named (settles_invoke c target_dead) early is refl refl;
  faulty = λ named is alive. in_another session slots c named (settles_invoke c bad_parameters) early is refl refl;
  invoked = λ named copies is alive.
      if-both (Coming c.boot session) (is_held named.1) _ _
      (in_another session slots c named _ early is refl refl) (in_another session slots c named _ early is refl refl);
  closed = λ named is.
      if-both (Coming c.boot session) (is_held named.1) _ _
      (in_another session slots c named _ early is refl refl) (in_another session slots c named _ early is refl refl);
  cancelled = λ named is. in_another session slots c named (cancels c) early is refl refl;
  registered = λ buffers. untold session slots c (keeps_buffers c buffers) early refl refl;
}

-- ---- the entry

pub early_call : (boot : Booted) (session : ℕ) (kernel next : Kernel) (cpu steps slot : ℕ) (regs : Regs)
    (reads : List Read) (now : PendingCall)
    → AreBelow kernel.slots kernel.tables → kernel.tables.next_session ≤ session → IsNew regs.a
    → slice_get next.processors cpu ≡ Some (Inside regs.a steps (InSlot slot))
    → slice_get next.slots slot ≡ Some (Active cpu now)
    → after_event boot kernel (Entry cpu regs steps reads) ≡ Some next
    → IsTaken (λ at taken. Coming boot session taken) kernel next
    (record { cpu = cpu; regs = regs.a; steps = steps }) slot now
early_call boot session kernel next cpu steps slot regs reads now below before is inside there e =
    new_call_taken (λ at taken. Coming boot session taken) boot kernel next cpu steps slot regs reads now is
    (λ at free place bytes.
    endings_early session kernel.slots (new_call_of boot kernel.tables regs.a at place bytes) (record {
      below = below_pinned kernel.slots kernel.tables (cookie_of place) at below;
      before = before;
    }))
    inside there e

-- When a session or a call of a kernel and one of a machine do the same next, by the names of sessions and instances. This
-- project's own.
use Rattle.std.specs.Prelude.{◌≡◌, ℕ, ◌==◌, true, List, Option, Some, None, is_some}
use Rattle.std.specs.Prelude.{if◌then◌else◌}
use Rattle.std.specs.Option.{option_and_then}
use Rattle.base.specs.NumberMap.{NumberMap, IsRising, get}
use Rattle.job_model.specs.declared.call_kind.CallKind.{CallKind}
use Rattle.job_model.specs.declared.call_kind.CallKind.TheVariants as kind
use Rattle.session_table.specs.declared.session.Session.{Session}
use Rattle.kernel_model.specs.Kernel.{PendingCall, ThreadSlot, Instance}
use Rattle.kernel_model.specs.Resume.{phase_seen}
use Rattle.own_model.specs.Own.{Numbering}
use Rattle.own_model.specs.Tied.{PhasesAlike, WasTold, call_at}
use Rattle.group_model.specs.Group.{GroupCall, GroupSession}

-- the machine's numbers, by the kernel's: of sessions and instances, also of those that are gone, and of calls by their
-- slots. The machine's numbers of instances can't be read off a history; whoever follows both keeps them
pub record Names : Type 0 where
  pub sessions : NumberMap ℕ
  pub next_session : ℕ
  pub instances : NumberMap ℕ
  pub numbering : Numbering
  -- the key that the boot brought
  pub key : List ℕ

-- ---- sessions

-- the session is the machine's, on an instance that is the machine's
pub record SessionsAlike (instances : NumberMap ℕ) (kept : Session) (own : GroupSession) : Type 0 where
  pub login : kept.login ≡ own.login
  pub context : kept.context ≡ own.context
  pub opened : kept.opened ≡ own.opened
  pub instance : get instances kept.instance ≡ Some own.instance

-- the one is there exactly where the other is
abbrev pub SessionsFoundAlike : NumberMap ℕ → Option Session → Option GroupSession → Type 0
SessionsFoundAlike instances None None = Unit {0}
SessionsFoundAlike instances (Some kept) (Some own) = SessionsAlike instances kept own
SessionsFoundAlike instances None (Some own) = ⊥
SessionsFoundAlike instances (Some kept) None = ⊥

-- the group's sessions are the machine's, and any other is on an instance of others
pub record AreTiedSessions (names : NumberMap ℕ) (instances : NumberMap ℕ) (kept : NumberMap Session)
    (own : NumberMap GroupSession) : Type 0 where
  pub alike : (number own_number : ℕ) → get names number ≡ Some own_number →
      SessionsFoundAlike instances (get kept number) (get own own_number)
  pub all : (own_number : ℕ) (session : GroupSession) → get own own_number ≡ Some session →
      (number : ℕ) × (get names number ≡ Some own_number)
  pub others : (number : ℕ) (session : Session) → get kept number ≡ Some session → get names number ≡ None →
      get instances session.instance ≡ None
  pub rising : IsRising own

-- ---- the instance

-- what the machine has under this number
abbrev pub found_at : Option (ℕ × Instance) → ℕ → Option Instance
found_at own number = option_and_then (λ (there : ℕ × Instance). if there.0 == number then Some there.1 else None) own

-- ---- the calls

-- the call is in this session and on this instance, but for one that was settled as it came in
abbrev pub HomesAlike : (sessions instances : NumberMap ℕ) → PendingCall → GroupCall → CallKind → Type 0
HomesAlike sessions instances call own kind.Settled = Unit {0}
HomesAlike sessions instances call own _ =
    (get sessions call.session ≡ Some own.session) × (get instances call.instance ≡ Some own.instance)

-- the one has an area exactly where the other does. Of one that was settled as it came in nothing shows that: a cancel's
-- own event doesn't tell it
abbrev pub AreasAlike : PendingCall → GroupCall → CallKind → Type 0
AreasAlike call own kind.Settled = Unit {0}
AreasAlike call own _ = is_some call.area ≡ own.area

-- a call of the group, and the machine's. What that was told of room for a new instance isn't asked for: it is told anew
-- at each resume that asks it
pub record CallsAlike (sessions instances : NumberMap ℕ) (kept : Option ℕ) (call : PendingCall)
    (own : GroupCall) : Type 0 where
  pub homes : HomesAlike sessions instances call own call.kind
  pub kinds : call.kind ≡ own.kind
  pub seen : call.seen ≡ own.seen
  pub areas : AreasAlike call own call.kind
  pub buffers : is_some call.buffer ≡ own.buffer
  pub phases : PhasesAlike kept call.steps own.steps call.phase own.phase
  -- a job that has the flag keeps it, so that it makes no difference at which resumes the call sees it again
  pub flagged : own.seen ≡ true → phase_seen own.phase ≡ own.phase

-- its result was told
abbrev pub IsTold : GroupCall → Type 0
IsTold own = WasTold own.phase

-- ---- others

-- a call is neither in a session nor on an instance of the group
pub record IsOther (sessions instances : NumberMap ℕ) (call : PendingCall) : Type 0 where
  pub session : get sessions call.session ≡ None
  pub instance : get instances call.instance ≡ None

abbrev pub AreOthers : (sessions instances : NumberMap ℕ) → NumberMap ℕ → List ThreadSlot → Type 0
AreOthers sessions instances in_slots slots = (slot : ℕ) (call : PendingCall) → call_at slots slot ≡ Some call →
    get in_slots slot ≡ None → IsOther sessions instances call

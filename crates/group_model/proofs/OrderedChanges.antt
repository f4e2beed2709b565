-- The machine of a group stays in order: what changes leave it so, and calls that come in.
use Rattle.std.proofs.Common.{◌≡◌, ℕ, ◌+◌, ◌<◌, Bool, true, false, List, [], ◌∷◌, Option, Some, None}
use Rattle.std.proofs.Common.{refl, ap, subst, sym, ◌∙◌, arith}
use Rattle.std.specs.Prelude.{All, ◌==◌, if◌then◌else◌}
use Rattle.std.proofs.lemmas.Bool.Decides.{nat_tests}
use Rattle.std.proofs.lemmas.List.Elements.{All-append, All-cons, All-head, All-nil, All-tail}
use Rattle.base.specs.NumberMap.{NumberMap, get, insert, remove}
use Rattle.job_model.specs.declared.call_kind.CallKind.{CallKind}
use Rattle.job_model.specs.declared.call_kind.CallKind.TheVariants as kind
use Rattle.job_model.specs.declared.entry_point.EntryPoint.{EntryPoint}
use Rattle.job_model.specs.declared.entry_point.EntryPoint.TheVariants as point
use Rattle.job_model.specs.Job.{Job, of_tee}
use Rattle.job_model.specs.Point.{no_params}
use Rattle.job_model.specs.Steps.{End, after}
use Rattle.ta_params.specs.declared.call_result.CallResult.{CallResult}
use Rattle.ta_params.specs.declared.copied_params.CopiedParams.{CopiedParams}
use Rattle.ta_params.specs.declared.login.Login.{Login}
use Rattle.kernel_model.specs.Application.{Application}
use Rattle.kernel_model.specs.Codes.{bad_parameters, busy, out_of_memory, success, target_dead}
use Rattle.kernel_model.specs.Instances.{held_by, is_held}
use Rattle.kernel_model.specs.Kernel.{Asks, CallPhase, Ends, Instance, Runs, Waits}
use Rattle.kernel_model.specs.Resume.{phase_seen}
use Rattle.kernel_model.proofs.Parts.{if-both, map_or-both, option_map_some}
use Rattle.own_model.proofs.InOrder.{IfAny, by_numbers}
use Rattle.own_model.proofs.Maps.{get-insert-other, get-insert-same, get-inserted, get-removed}
use Rattle.own_model.specs.InOrder.{IsAtWork, IsWaiting}
use Rattle.own_model.specs.Solo.{phase_at, wake_left}
use Rattle.own_model.specs.declared.own_event.BackInput.{BackInput}
use Rattle.own_model.specs.declared.own_event.BackInput.TheVariants.{Nothing, Buffer, NoBuffer, Reply}
use Rattle.own_model.specs.declared.own_event.OwnInput.{OwnInput}
use Rattle.own_model.specs.declared.own_event.OwnInput.TheVariants.{Copied, Faulty, Unread}
use Rattle.group_model.specs.Group.{About, Begun, Coming, Group, GroupCall, GroupSession, GroupWaiter}
use Rattle.group_model.specs.Group.{Home, Opener, Start, about_home, about_none, about_open}
use Rattle.group_model.specs.Group.{awaited_number, closes, closing_points}
use Rattle.group_model.specs.Group.{comes_in, fresh_call}
use Rattle.group_model.specs.Group.{invokes}
use Rattle.group_model.specs.Group.{invokes_with, is_dead, is_taken, job_on, made, open_begins}
use Rattle.group_model.specs.Group.{open_waits, opened_with, opens, opens_kept, opens_made, opens_new}
use Rattle.group_model.specs.Group.{opens_tested, opens_there, opens_with, sessions_ended}
use Rattle.group_model.specs.Group.{sessions_panicked, sessions_unrun, settles, start_at}
use Rattle.group_model.specs.Group.{start_of_open, waits, with_call}
use Rattle.group_model.specs.Group.{with_instance, with_session, woken_by, works_or_waits}
use Rattle.group_model.specs.InOrder.{Fits, IsIn, IsInOrder}

-- ---- numbers

not_below : (a b : ℕ) → a < b → a ≡ b → ⊥
not_below a b lt e = omega arith

below_more : (a b : ℕ) → a < b → a < b + 1
below_more a b lt = omega arith

last_below : (a : ℕ) → a < a + 1
last_below a = omega arith

pub is_itself : (a : ℕ) → (a == a) ≡ true
is_itself a = grind (arith, nat_tests)

pub other_number : (a b : ℕ) → (a == b) ≡ false → a ≡ b → ⊥
other_number a b e same = grind (arith, nat_tests)

same_call : (a b : GroupCall) → Some a ≡ Some b → a ≡ b
same_call a b e = cc

same_some : (a b : ℕ) → Some a ≡ Some b → a ≡ b
same_some a b e = cc

pub same_pair : (a b : ℕ × Instance) → Some a ≡ Some b → a ≡ b
same_pair a b e = cc

abbrev pub there_is : ℕ → Instance → Option (ℕ × Instance)
there_is number instance = Some (number, instance)

pub none_holds : {P : Type 0} (holder : Option ℕ) (number : ℕ) → holder ≡ None → holder ≡ Some number → P
none_holds holder number none holds = absurd cc

-- ---- phases

-- a call of this kind in the one phase may be in the other instead
pub record MayFollow (call_kind : CallKind) (before after : CallPhase) : Type 0 where
  pub fits : Fits call_kind before → Fits call_kind after
  pub works : IsAtWork before → IsAtWork after
  pub waits : IsWaiting before → IsWaiting after

pub itself : (call_kind : CallKind) (phase : CallPhase) → MayFollow call_kind phase phase
itself call_kind phase = record { fits = λ fits. fits; works = λ works. works; waits = λ waits. waits }

work_fits : (call_kind : CallKind) (before after : CallPhase) → IsAtWork before → IsAtWork after → Fits call_kind before
    → Fits call_kind after
work_fits kind.Settled (Runs job) after works on fits = absurd fits
work_fits kind.Settled (Asks job wanted payload) after works on fits = absurd fits
work_fits kind.Settled (Waits params) after works on fits = absurd works
work_fits kind.Settled (Ends result params told wakes) after works on fits = absurd works
work_fits kind.Open before after works on fits = tt
work_fits (kind.Invoke func) before after works on fits = tt
work_fits kind.Close before after works on fits = tt

pub not_both : (phase : CallPhase) → IsAtWork phase → IsWaiting phase → ⊥
not_both (Runs job) works waits = waits
not_both (Asks job wanted payload) works waits = waits
not_both (Waits params) works waits = works
not_both (Ends result params told wakes) works waits = works

pub works_on : (call_kind : CallKind) (before after : CallPhase) → IsAtWork before → IsAtWork after
    → MayFollow call_kind before after
works_on call_kind before after works on = record {
  fits = work_fits call_kind before after works on;
  works = λ _. on;
  waits = λ waits. absurd (not_both before works waits);
}

-- an end that wakes nobody
pub quiet_fits : (call_kind : CallKind) (result : CallResult) (params : CopiedParams) (told : Bool)
    → Fits call_kind (Ends result params told None)
quiet_fits kind.Open result params told = tt
quiet_fits (kind.Invoke func) result params told = tt
quiet_fits kind.Close result params told = tt
quiet_fits kind.Settled result params told = tt

-- one that wakes whom its kind has it wake
pub shown_fits : (g : Group) (call : GroupCall) (call_kind : CallKind) (result : CallResult) (params : CopiedParams)
    (told : Bool) → Fits call_kind (Ends result params told (woken_by g call call_kind))
shown_fits g call kind.Open result params told = tt
shown_fits g call (kind.Invoke func) result params told = tt
shown_fits g call kind.Close result params told = tt
shown_fits g call kind.Settled result params told = tt

-- one that wakes as many as before at most
pub back_fits : (call_kind : CallKind) (result : CallResult) (params : CopiedParams) (told : Bool) (wakes : Option ℕ)
    (input : BackInput) → Fits call_kind (Ends result params told wakes)
    → Fits call_kind (Ends result params told (wake_left wakes input))
back_fits kind.Open result params told wakes input fits = tt
back_fits (kind.Invoke func) result params told wakes input fits = tt
back_fits kind.Close result params told wakes input fits = tt
back_fits kind.Settled result params told (Some woken) input fits = absurd fits
back_fits kind.Settled result params told None Nothing fits = tt
back_fits kind.Settled result params told None Buffer fits = tt
back_fits kind.Settled result params told None NoBuffer fits = tt
back_fits kind.Settled result params told None (Reply told_back) fits = tt

-- an end is followed by an end that fits
pub end_follows : (call_kind : CallKind) (result : CallResult) (params : CopiedParams) (told shown : Bool)
    (wakes woken : Option ℕ)
    → (Fits call_kind (Ends result params told wakes) → Fits call_kind (Ends result params shown woken))
    → MayFollow call_kind (Ends result params told wakes) (Ends result params shown woken)
end_follows call_kind result params told shown wakes woken fits =
    record { fits = fits; works = λ works. absurd works; waits = λ waits. absurd waits }

pub seen_follows : (call_kind : CallKind) (phase : CallPhase) → MayFollow call_kind phase (phase_seen phase)
seen_follows call_kind (Runs job) = works_on call_kind (Runs job) (phase_seen (Runs job)) tt tt
seen_follows call_kind (Asks job wanted payload) =
    works_on call_kind (Asks job wanted payload) (phase_seen (Asks job wanted payload)) tt tt
seen_follows call_kind (Waits params) = itself call_kind (Waits params)
seen_follows call_kind (Ends result params told wakes) = itself call_kind (Ends result params told wakes)

pub phase_at_follows : (call_kind : CallKind) (more : ℕ) (before now : CallPhase) → phase_at more before ≡ Some now
    → MayFollow call_kind before now
phase_at_follows k more (Runs job) now e = let left = option_map_some (λ (l : Job). Runs l) (after more job) now e in
    subst (MayFollow k (Runs job)) left.2 (works_on k (Runs job) (Runs left.0) tt tt)
phase_at_follows k more (Asks job wanted payload) now e = let same : Asks job wanted payload ≡ now = cc in
    subst (MayFollow k (Asks job wanted payload)) same (itself k _)
phase_at_follows k more (Waits params) now e = let same : Waits params ≡ now = cc in
    subst (MayFollow k (Waits params)) same (itself k _)
phase_at_follows k more (Ends result params told wakes) now e =
    let same : Ends result params told wakes ≡ now = cc in
    subst (MayFollow k (Ends result params told wakes)) same (itself k _)

pub both_follow : (call_kind : CallKind) (first second third : CallPhase) → MayFollow call_kind first second
    → MayFollow call_kind second third → MayFollow call_kind first third
both_follow call_kind first second third one other = record {
  fits = λ fits. other.fits (one.fits fits);
  works = λ works. other.works (one.works works);
  waits = λ waits. other.waits (one.waits waits);
}

pub fits_running : (call_kind : CallKind) (phase : CallPhase) (job : Job) → IsWaiting phase → Fits call_kind phase
    → Fits call_kind (Runs job)
fits_running kind.Open phase job waits fits = tt
fits_running (kind.Invoke func) phase job waits fits = tt
fits_running kind.Close phase job waits fits = tt
fits_running kind.Settled (Runs other) job waits fits = absurd waits
fits_running kind.Settled (Asks other wanted payload) job waits fits = absurd waits
fits_running kind.Settled (Waits params) job waits fits = absurd fits
fits_running kind.Settled (Ends result params told wakes) job waits fits = absurd waits

-- ---- one call changes

-- the call is on this instance, in such a phase
pub record IsOn (P : CallPhase → Type 0) (call : GroupCall) (instance : ℕ) : Type 0 where
  pub on_instance : call.instance ≡ instance
  pub is_in : P call.phase

-- who is in the line waits
abbrev pub InLine : NumberMap GroupCall → GroupWaiter → Type 0
InLine calls waiter = IsIn IsWaiting calls waiter.call waiter.instance

-- of who is in the line by this number something holds
abbrev pub OfNumber : ℕ → (GroupWaiter → Type 0) → GroupWaiter → Type 0
OfNumber number P waiter = waiter.call ≡ number → P waiter

-- the machine may have this call at the number
pub record MayHave (g : Group) (number : ℕ) (call : GroupCall) : Type 0 where
  pub numbered : number < g.entered
  pub fits : Fits call.kind call.phase
  pub holder : (at : ℕ) (instance : Instance) → g.instance ≡ Some (at, instance) → instance.holder ≡ Some number →
      IsOn IsAtWork call at
  pub waiting : All (OfNumber number (λ (waiter : GroupWaiter). IsOn IsWaiting call waiter.instance)) g.waiting

in_after : (P : CallPhase → Type 0) (calls : NumberMap GroupCall) (number other instance : ℕ) (call : GroupCall)
    → IsIn P calls other instance → (other ≡ number → IsOn P call instance) → IsIn P (insert calls number call) other instance
in_after P calls number other instance call there holds =
    by_numbers other number
    (λ same. record {
      own = call;
      there = subst (λ n. get (insert calls number call) n ≡ Some call) (sym same) (get-insert-same calls number call);
      on_instance = (holds same).on_instance;
      is_in = (holds same).is_in;
    })
    (λ apart. record {
      own = there.own;
      there = get-insert-other calls number call other (λ e. apart (sym e)) ∙ there.there;
      on_instance = there.on_instance;
      is_in = there.is_in;
    })

all_after : (calls : NumberMap GroupCall) (number : ℕ) (call : GroupCall) (waiters : List GroupWaiter)
    → All (InLine calls) waiters
    → All (OfNumber number (λ (waiter : GroupWaiter). IsOn IsWaiting call waiter.instance)) waiters
    → All (InLine (insert calls number call)) waiters
all_after calls number call [] all holds = All-nil (InLine (insert calls number call))
all_after calls number call (first ∷ rest) all holds =
    All-cons (InLine (insert calls number call)) first rest
    (in_after IsWaiting calls number first.call first.instance call (All-head (InLine calls) first rest all)
    (All-head (OfNumber number (λ (waiter : GroupWaiter). IsOn IsWaiting call waiter.instance)) first rest holds))
    (all_after calls number call rest (All-tail (InLine calls) first rest all)
    (All-tail (OfNumber number (λ (waiter : GroupWaiter). IsOn IsWaiting call waiter.instance)) first rest holds))

pub has_call : (g : Group) (number : ℕ) (call : GroupCall) → IsInOrder g → MayHave g number call
    → IsInOrder (with_call g number call)
has_call g number call order may = record {
  fits = λ other own found.
      get-inserted g.calls number call other own found
      (λ same is. subst (λ (o : GroupCall). Fits o.kind o.phase) is may.fits)
      (λ was. order.fits other own was);
  holder = λ at other instance is holds.
      in_after IsAtWork g.calls number other at call (order.holder at other instance is holds)
      (λ same. may.holder at instance is (holds ∙ ap (λ n. Some n) same));
  waiting = all_after g.calls number call g.waiting order.waiting may.waiting;
  numbered = λ other own found.
      get-inserted g.calls number call other own found
      (λ same is. subst (λ n. n < g.entered) (sym same) may.numbered)
      (λ was. order.numbered other own was);
  fresh = order.fresh;
}

-- who is in a phase is there
pub is_on : (P : CallPhase → Type 0) (calls : NumberMap GroupCall) (number instance : ℕ) (call : GroupCall)
    → IsIn P calls number instance → get calls number ≡ Some call → IsOn P call instance
is_on P calls number instance call there found =
    let same : there.own ≡ call = same_call there.own call (sym there.there ∙ found) in
    subst (λ (o : GroupCall). IsOn P o instance) same
    (record { on_instance = there.on_instance; is_in = there.is_in })

-- of the call that waits by this number something follows
pub line_holds : (P : GroupWaiter → Type 0) (calls : NumberMap GroupCall) (number : ℕ) (call : GroupCall)
    (waiters : List GroupWaiter) → All (InLine calls) waiters → get calls number ≡ Some call
    → ((waiter : GroupWaiter) → IsOn IsWaiting call waiter.instance → P waiter)
    → All (OfNumber number P) waiters
line_holds P calls number call [] all found follows = All-nil (OfNumber number P)
line_holds P calls number call (first ∷ rest) all found follows =
    All-cons (OfNumber number P) first rest
    (λ same. follows first (is_on IsWaiting calls number first.instance call
    (subst (λ n. IsIn IsWaiting calls n first.instance) same (All-head (InLine calls) first rest all)) found))
    (line_holds P calls number call rest (All-tail (InLine calls) first rest all) found follows)

on_still : (P : CallPhase → Type 0) (before now : GroupCall) → now.instance ≡ before.instance
    → (P before.phase → P now.phase) → (instance : ℕ) → IsOn P before instance → IsOn P now instance
on_still P before now same onward instance on =
    record { on_instance = same ∙ on.on_instance; is_in = onward on.is_in }

-- a call in a phase that may follow its own
pub follows : (g : Group) (number : ℕ) (before now : GroupCall) → IsInOrder g → get g.calls number ≡ Some before
    → now.kind ≡ before.kind → now.instance ≡ before.instance
    → MayFollow before.kind before.phase now.phase → IsInOrder (with_call g number now)
follows g number before now order found kinds instances may = has_call g number now order (record {
  numbered = order.numbered number before found;
  fits = subst (λ k. Fits k now.phase) (sym kinds) (may.fits (order.fits number before found));
  holder = λ at instance is holds.
      on_still IsAtWork before now instances may.works at
      (is_on IsAtWork g.calls number at before (order.holder at number instance is holds) found);
  waiting = line_holds (λ (waiter : GroupWaiter). IsOn IsWaiting now waiter.instance) g.calls number before g.waiting
      order.waiting found
      (λ waiter on. on_still IsWaiting before now instances may.waits waiter.instance on);
})

-- ---- sessions and instance change

abbrev pub AreFresh : NumberMap GroupSession → Type 0
AreFresh sessions = (number : ℕ) (session : GroupSession) → get sessions number ≡ Some session →
    session.opened ≡ false → session.context ≡ 0

abbrev pub HolderWorks : NumberMap GroupCall → Option (ℕ × Instance) → Type 0
HolderWorks calls found = (number holder : ℕ) (instance : Instance) → found ≡ Some (number, instance) →
    instance.holder ≡ Some holder → IsIn IsAtWork calls holder number

pub with_tables : (g : Group) (sessions : NumberMap GroupSession) (instance : Option (ℕ × Instance))
    (next_session next_instance : ℕ) → IsInOrder g → AreFresh sessions → HolderWorks g.calls instance
    → IsInOrder (record g {
      sessions = sessions;
      instance = instance;
      next_session = next_session;
      next_instance = next_instance;
    })
with_tables g sessions instance next_session next_instance order fresh works = record {
  fits = order.fits;
  holder = works;
  waiting = order.waiting;
  numbered = order.numbered;
  fresh = fresh;
}

fresh_removed : (sessions : NumberMap GroupSession) (number : ℕ) → AreFresh sessions → AreFresh (remove sessions number)
fresh_removed sessions number fresh = λ at session found unopened.
    fresh at session (get-removed sessions number at session found) unopened

fresh_new : (sessions : NumberMap GroupSession) (number : ℕ) (new : GroupSession) → new.context ≡ 0 → AreFresh sessions
    → AreFresh (insert sessions number new)
fresh_new sessions number new none fresh = λ at session found unopened.
    get-inserted sessions number new at session found
    (λ same is. ap (λ (s : GroupSession). s.context) (sym is) ∙ none)
    (λ was. fresh at session was unopened)

never_opened : {P : Type 0} (session : GroupSession) (context : ℕ) (there : GroupSession)
    → record session { context = context; opened = true } ≡ there → there.opened ≡ false → P
never_opened session context there is unopened =
    let no : true ≡ false = ap (λ (s : GroupSession). s.opened) is ∙ unopened in absurd cc

fresh_opened : (sessions : NumberMap GroupSession) (number context : ℕ) → AreFresh sessions
    → AreFresh (opened_with sessions number context)
fresh_opened sessions number context fresh =
    map_or-both AreFresh
    (λ (session : GroupSession). insert sessions number (record session { context = context; opened = true }))
    (get sessions number) sessions
    (λ session at there found unopened.
    get-inserted sessions number (record session { context = context; opened = true }) at there found
    (λ same is. never_opened session context there is unopened)
    (λ was. fresh at there was unopened))
    fresh

pub fresh_ended : (call_kind : CallKind) (sessions : NumberMap GroupSession) (number : ℕ) (end : End) → AreFresh sessions
    → AreFresh (sessions_ended call_kind sessions number end)
fresh_ended kind.Open sessions number end fresh =
    if-both AreFresh (end.result.result == success) (opened_with sessions number end.context) (remove sessions number)
    (fresh_opened sessions number end.context fresh) (fresh_removed sessions number fresh)
fresh_ended (kind.Invoke func) sessions number end fresh = fresh
fresh_ended kind.Close sessions number end fresh = fresh_removed sessions number fresh
fresh_ended kind.Settled sessions number end fresh = fresh

pub fresh_panicked : (call_kind : CallKind) (sessions : NumberMap GroupSession) (number : ℕ) → AreFresh sessions
    → AreFresh (sessions_panicked call_kind sessions number)
fresh_panicked kind.Open sessions number fresh = fresh_removed sessions number fresh
fresh_panicked (kind.Invoke func) sessions number fresh = fresh
fresh_panicked kind.Close sessions number fresh = fresh_removed sessions number fresh
fresh_panicked kind.Settled sessions number fresh = fresh

pub fresh_unrun : (call_kind : CallKind) (sessions : NumberMap GroupSession) (number : ℕ) → AreFresh sessions
    → AreFresh (sessions_unrun call_kind sessions number)
fresh_unrun kind.Open sessions number fresh = fresh_removed sessions number fresh
fresh_unrun (kind.Invoke func) sessions number fresh = fresh
fresh_unrun kind.Close sessions number fresh = fresh
fresh_unrun kind.Settled sessions number fresh = fresh

-- ---- a call more

abbrev counted : Group → Group
counted g = record g { entered = g.entered + 1 }

counts : (g : Group) → IsInOrder g → IsInOrder (counted g)
counts g order = record {
  fits = order.fits;
  holder = order.holder;
  waiting = order.waiting;
  numbered = λ number own found. below_more number g.entered (order.numbered number own found);
  fresh = order.fresh;
}

-- no call has the next number
no_next : (P : CallPhase → Type 0) (g : Group) (instance : ℕ) → IsInOrder g → IsIn P g.calls g.entered instance → ⊥
no_next P g instance order there = not_below g.entered g.entered (order.numbered g.entered there.own there.there) refl

none_next : (g : Group) (P : GroupWaiter → Type 0) (waiters : List GroupWaiter) → IsInOrder g
    → All (InLine g.calls) waiters → All (OfNumber g.entered P) waiters
none_next g P [] order all = All-nil (OfNumber g.entered P)
none_next g P (first ∷ rest) order all =
    All-cons (OfNumber g.entered P) first rest
    (λ same.
    absurd (no_next IsWaiting g first.instance order (subst (λ n. IsIn IsWaiting g.calls n first.instance) same
    (All-head (InLine g.calls) first rest all))))
    (none_next g P rest order (All-tail (InLine g.calls) first rest all))

next_call : (g : Group) (call : GroupCall) → IsInOrder g → Fits call.kind call.phase → IsInOrder (comes_in g call)
next_call g call order fits = has_call (counted g) g.entered call (counts g order) (record {
  numbered = last_below g.entered;
  fits = fits;
  holder = λ at instance is holds.
      absurd (no_next IsAtWork g at order (order.holder at g.entered instance is holds));
  waiting = none_next g (λ (waiter : GroupWaiter). IsOn IsWaiting call waiter.instance) g.waiting order order.waiting;
})

pub settles_so : (g : Group) (area : Bool) (code : ℕ) → IsInOrder g → IsInOrder (settles g area code)
settles_so g area code order =
    next_call g (fresh_call (about_none area) (Ends (of_tee code) no_params false None)) order tt

-- it waits behind the others
waits_so : (g : Group) (about : About) (params : CopiedParams) → IsInOrder g → Fits about.kind (Waits params)
    → IsInOrder (waits g about params)
waits_so g about params order fits =
    let call : GroupCall = fresh_call about (Waits params) in
    let more = next_call g call order fits in
    let last : GroupWaiter = record { call = g.entered; instance = about.instance } in
    let calls : NumberMap GroupCall = insert g.calls g.entered call in
    record {
      fits = more.fits;
      holder = more.holder;
      waiting = All-append (InLine calls) g.waiting (last ∷ []) more.waiting
          (All-cons (InLine calls) last []
          (record { own = call; there = get-insert-same g.calls g.entered call; on_instance = refl; is_in = tt })
          (All-nil (InLine calls)));
      numbered = more.numbered;
      fresh = more.fresh;
    }

-- ---- a call begins

-- nobody in the line has the number
abbrev pub IsUnlined : ℕ → List GroupWaiter → Type 1
IsUnlined number waiters = (P : GroupWaiter → Type 0) → All (OfNumber number P) waiters

-- it holds its instance then
pub begins_so : (g : Group) (number : ℕ) (call : GroupCall) (instance : Instance) → IsInOrder g → number < g.entered
    → Fits call.kind call.phase → IsAtWork call.phase → IsUnlined number g.waiting
    → IsInOrder (with_call (with_instance g call.instance (held_by number instance)) number call)
begins_so g number call instance order below fits works unlined =
    let free : IsInOrder (record g { instance = None }) =
    with_tables g g.sessions None g.next_session g.next_instance order order.fresh
    (λ at holder kept is holds. absurd cc) in
    let has = has_call (record g { instance = None }) number call free (record {
      numbered = below;
      fits = fits;
      holder = λ at kept is holds. absurd cc;
      waiting = unlined (λ (waiter : GroupWaiter). IsOn IsWaiting call waiter.instance);
    }) in
    record {
      fits = has.fits;
      holder = λ at holder kept is holds. held at holder kept is holds;
      waiting = has.waiting;
      numbered = has.numbered;
      fresh = has.fresh;
    }
  where
    held : (at holder : ℕ) (kept : Instance) → there_is call.instance (held_by number instance) ≡ there_is at kept
        → kept.holder ≡ Some holder → IsIn IsAtWork (insert g.calls number call) holder at
    held at holder kept is holds =
        let same = same_pair (call.instance, held_by number instance) (at, kept) is in
        let numbers : number ≡ holder =
        same_some number holder (ap (λ (p : ℕ × Instance). p.1.holder) same ∙ holds) in
        subst (λ n. IsIn IsAtWork (insert g.calls number call) n at) numbers (record {
          own = call;
          there = get-insert-same g.calls number call;
          on_instance = ap (λ (p : ℕ × Instance). p.0) same;
          is_in = works;
        })

works_or_waits_so : (app : Application) (g : Group) (coming : Coming) (at : Home) (params : CopiedParams)
    (points : List EntryPoint) → IsInOrder g → ((phase : CallPhase) → Fits coming.kind phase)
    → IsInOrder (works_or_waits app g coming at params points)
works_or_waits_so app g coming at params points order fits =
    let about : About = about_home coming at in
    let start : Start = start_at g g.entered at.session params false in
    let call : GroupCall = fresh_call about (Runs (job_on app start at.instance points)) in
    if-both IsInOrder (is_held at.instance) (waits g about params)
    (comes_in (with_instance g at.session.instance (held_by g.entered at.instance)) call)
    (waits_so g about params order (fits (Waits params)))
    (begins_so (counted g) g.entered call at.instance (counts g order) (last_below g.entered) (fits call.phase) tt
    (λ P. none_next g P g.waiting order order.waiting))

-- ---- opens

session_so : (g : Group) (login : Login) (instance : ℕ) → IsInOrder g → IsInOrder (with_session g login instance)
session_so g login instance order =
    with_tables g _ g.instance (g.next_session + 1) g.next_instance order
    (fresh_new g.sessions g.next_session (record { login = login; context = 0; opened = false; instance = instance }) refl
    order.fresh) order.holder

open_waits_so : (g : Group) (params : CopiedParams) (opener : Opener) (number : ℕ) → IsInOrder g
    → IsInOrder (open_waits g params opener number)
open_waits_so g params opener number order =
    waits_so (with_session g opener.login number) (about_open g opener.area number) params
    (session_so g opener.login number order) tt

-- an open that begins on an instance, which gets or has this number
abbrev begun_on : Group → ℕ → ℕ → Instance → Job → Begun
begun_on g next number instance job = record {
  group = with_instance (record g { next_instance = next }) number (held_by g.entered instance);
  instance = number;
  job = job;
}

open_begins_so : (g : Group) (opener : Opener) (next number : ℕ) (instance : Instance) (job : Job) → IsInOrder g
    → IsInOrder (open_begins g opener (begun_on g next number instance job))
open_begins_so g opener next number instance job order =
    let call : GroupCall = fresh_call (about_open g opener.area number) (Runs job) in
    let with_one : Group = counted (record (with_session g opener.login number) { next_instance = next }) in
    let ordered : IsInOrder with_one =
    counts (record (with_session g opener.login number) { next_instance = next })
    (with_tables (with_session g opener.login number) (with_session g opener.login number).sessions g.instance
    (g.next_session + 1) next (session_so g opener.login number order)
    (session_so g opener.login number order).fresh order.holder) in
    begins_so with_one g.entered call instance ordered (last_below g.entered) tt tt
    (λ P. none_next g P g.waiting order order.waiting)

made_so : (app : Application) (g : Group) (params : CopiedParams) (opener : Opener) → IsInOrder g
    → IsInOrder (open_begins g opener (opens_made app g (start_of_open g params opener.login)))
made_so app g params opener order =
    let start : Start = start_of_open g params opener.login in
    let next = g.next_instance in
    map_or-both (λ (begun : Begun). IsInOrder (open_begins g opener begun)) (opens_new app g start) (awaited_number g)
    (opens_new app (record g { next_instance = next + 1 }) start next)
    (λ number. open_begins_so g opener next number (made app) (opens_new app g start number).job order)
    (open_begins_so g opener (next + 1) next (made app)
    (opens_new app (record g { next_instance = next + 1 }) start next).job order)

opens_so : (app : Application) (g : Group) (params : CopiedParams) (opener : Opener) → IsInOrder g
    → IsInOrder (opens app g params opener)
opens_so app g params opener order =
    map_or-both IsInOrder (opens_there app g params opener) g.instance
    (open_begins g opener (opens_made app g (start_of_open g params opener.login)))
    (λ there.
    let begun : Begun = opens_kept app g (start_of_open g params opener.login) there in
    if-both IsInOrder (is_held there.1) (open_waits g params opener there.0) (open_begins g opener begun)
    (open_waits_so g params opener there.0 order)
    (open_begins_so g opener g.next_instance there.0 there.1 begun.job order))
    (made_so app g params opener order)

opens_with_so : (app : Application) (g : Group) (input : OwnInput) (opener : Opener) → IsInOrder g
    → IfAny IsInOrder (opens_with app g input opener)
opens_with_so app g (Copied params) opener order = opens_so app g params opener order
opens_with_so app g Faulty opener order = settles_so g opener.area bad_parameters order
opens_with_so app g Unread opener order = tt

pub tested_so : (app : Application) (g : Group) (input : OwnInput) (opener : Opener) (limited : Bool) → IsInOrder g
    → IfAny IsInOrder (opens_tested app g input opener limited)
tested_so app g input opener limited order =
    if-both (IfAny IsInOrder) (is_dead g) (Some (settles g opener.area target_dead))
    (if is_taken app g then Some (settles g opener.area busy)
    else if limited then Some (settles g opener.area out_of_memory) else opens_with app g input opener)
    (settles_so g opener.area target_dead order)
    (if-both (IfAny IsInOrder) (is_taken app g) (Some (settles g opener.area busy))
    (if limited then Some (settles g opener.area out_of_memory) else opens_with app g input opener)
    (settles_so g opener.area busy order)
    (if-both (IfAny IsInOrder) limited (Some (settles g opener.area out_of_memory)) (opens_with app g input opener)
    (settles_so g opener.area out_of_memory order) (opens_with_so app g input opener order)))

-- ---- invokes and closes

invokes_with_so : (app : Application) (g : Group) (func : ℕ) (input : OwnInput) (area : Bool) (at : Home) → IsInOrder g
    → IfAny IsInOrder (invokes_with app g func input area at)
invokes_with_so app g func (Copied params) area at order =
    works_or_waits_so app g (record { kind = kind.Invoke func; area = area }) at params (point.Invoke func ∷ []) order
    (λ phase. tt)
invokes_with_so app g func Faulty area at order = settles_so g area bad_parameters order
invokes_with_so app g func Unread area at order = tt

pub invokes_so : (app : Application) (g : Group) (func : ℕ) (input : OwnInput) (area : Bool) (at : Home) → IsInOrder g
    → IfAny IsInOrder (invokes app g func input area at)
invokes_so app g func input area at order =
    if-both (IfAny IsInOrder) at.instance.dead (Some (settles g area target_dead)) (invokes_with app g func input area at)
    (settles_so g area target_dead order) (invokes_with_so app g func input area at order)

pub closes_so : (app : Application) (g : Group) (area : Bool) (at : Home) → IsInOrder g → IsInOrder (closes app g area at)
closes_so app g area at order =
    works_or_waits_so app g (record { kind = kind.Close; area = area }) at no_params
    (closing_points app g at.number at.session.instance) order (λ phase. tt)

-- One session whose application's sessions share no instance is answered as its machine: its open comes first, and is of its
-- application, and each other call comes behind it.
use Rattle.std.proofs.Common.{◌≡◌, ℕ, zero, suc, ◌+◌, ◌<◌, ◌≤◌, Bool, List, [], ◌∷◌, ◌++◌, Option, Some, None, refl}
use Rattle.std.proofs.Common.{ap, subst, sym, ◌∙◌, arith, ◌⊎◌, inl, inr}
use Rattle.std.specs.Prelude.{if◌then◌else◌, slice_get}
use Rattle.std.specs.Option.{option_and_then, option_map, option_map_or}
use Rattle.std.proofs.lemmas.Bool.Decides.{Decides-eqb}
use Rattle.std.proofs.lemmas.Option.{option_and_then_some}
use Rattle.base.specs.NumberMap.{get}
use Rattle.event_journal.specs.declared.event.Event.{Event}
use Rattle.event_journal.specs.declared.event.Event.TheVariants.{Entry}
use Rattle.job_model.specs.declared.call_kind.CallKind.{CallKind}
use Rattle.job_model.specs.declared.call_kind.CallKind.TheVariants as kind
use Rattle.ns_ram.specs.declared.read.Read.{Read}
use Rattle.smc_abi.specs.declared.regs.Regs.{Regs}
use Rattle.kernel_model.specs.Application.{Application, Booted, uuid_of}
use Rattle.kernel_model.specs.Argument.{IsNew}
use Rattle.kernel_model.specs.History.{after_event, kernel_after}
use Rattle.kernel_model.specs.Instances.{app_of}
use Rattle.kernel_model.specs.Kernel.{Active, InSlot, Inside, Kernel, PendingCall, Tables, first_kernel}
use Rattle.kernel_model.proofs.Parts.{some_of}
use Rattle.kernel_model.proofs.SoundNumbers.{numbered, numbers_rise}
use Rattle.own_model.proofs.BelowNumbers.{AreBelow, below_numbers}
use Rattle.own_model.proofs.Lookups.{app_named}
use Rattle.own_model.proofs.NewEntries.{IsTaken}
use Rattle.own_model.proofs.NewEntries as own_entries
use Rattle.own_model.proofs.NotedCalls.{not_both}
use Rattle.own_model.proofs.UuidKept.{uuid_stays}
use Rattle.own_model.proofs.WholeHistories.{IsAt, IsOn, from_first, uuid_on}
use Rattle.own_model.proofs.WholeHistories as own_histories
use Rattle.own_model.specs.Isolation.{IsSessionOf, steps_in}
use Rattle.own_model.specs.Own as own
use Rattle.own_model.specs.Tied.{call_at}
use Rattle.own_model.specs.declared.own_event.OwnEvent.{OwnEvent}
use Rattle.group_model.proofs.InOrder.{stays_in_order}
use Rattle.group_model.specs.Group.{Group, group_machine_replies, nobody_there, run}
use Rattle.group_model.specs.Tied.{HomesAlike}
use Rattle.group_model.specs.declared.group_event.GroupEvent.{GroupEvent}
use Rattle.realm_model.specs.Histories.{AllWithin}
use Rattle.realm_model.specs.Laws.{About, AreTied, ComesAs, GoesAlong, events_in, replies_in}
use Rattle.realm_model.specs.Reading.{Logged, Notes, event_noted, event_of, no_notes, noted, realm_events, realm_replies}
use Rattle.realm_model.specs.Reading as reading
use Rattle.realm_model.specs.Realm.{OneSession, Realm, number_in}
use Rattle.realm_model.specs.Forgetting.{own_part}
use Rattle.realm_model.proofs.Along.{Course, Ended, EndsTied, RunsAlong, tied_on}
use Rattle.realm_model.proofs.Boots.{boots_tied}
use Rattle.realm_model.proofs.EarlyCalls.{Another, Coming, ItWaits, ItsOpen, early_call}
use Rattle.realm_model.proofs.EarlyEvents.{EarlyNext, IsFirstCall, NowNameless, NowOpen, StillEarly, early_next, open_uuid}
use Rattle.realm_model.proofs.NotesStay.{behind_event, was_free}
use Rattle.realm_model.proofs.Sessions.{SameEvent, event_same, happened_same}

-- ---- events of the session

-- where an event is noted of the realm, one is noted of the session
pub same_noted : (member : ℕ) (tables : Tables) (notes : Notes) (call : PendingCall) (came : GroupEvent)
    → event_of (OneSession member) tables notes call call.kind ≡ Some came
    → (event : OwnEvent) × (own.event_of member call ≡ Some event)
same_noted member tables notes call came noted =
    by_own (own.event_of member call) refl
    (subst (λ (o : Option GroupEvent). SameEvent o (own.event_of member call)) noted
    (event_same member tables notes call call.kind))
  where
    by_own : (found : Option OwnEvent) → own.event_of member call ≡ found
        → SameEvent (Some came) (own.event_of member call) → (event : OwnEvent) × (own.event_of member call ≡ Some event)
    by_own None is same = absurd (subst (λ (o : Option OwnEvent). SameEvent (Some came) o) is same)
    by_own (Some event) is same = (event, is)

-- once the session has its number, no open of it is noted
pub never_opens : (boot : Booted) (member : ℕ) (kernel next : Kernel) (cpu steps slot : ℕ) (regs : Regs) (reads : List Read)
    (now : PendingCall) (event : OwnEvent) → member < kernel.tables.next_session → IsNew regs.a
    → slice_get next.processors cpu ≡ Some (Inside regs.a steps (InSlot slot))
    → slice_get next.slots slot ≡ Some (Active cpu now) → after_event boot kernel (Entry cpu regs steps reads) ≡ Some next
    → own.event_of member now ≡ Some event → now.kind ≡ kind.Open → ⊥
never_opens boot member kernel next cpu steps slot regs reads now event given is inside there e noted opens =
    let none : None ≡ now.uuid = sym (stays own.no_notes) in
    let some : Some [] ≡ now.uuid = sym (stays (record own.no_notes { uuid = Some [] })) in
    let no : None ≡ Some [] = none ∙ sym some in absurd cc
  where
    stays : (notes : own.Notes) → now.uuid ≡ notes.uuid
    stays notes =
        sym (open_uuid member now event notes opens noted)
        ∙ ap (λ (o : Option OwnEvent). (option_map_or (own.numbered notes slot now) o notes).uuid) (sym noted)
        ∙ ap (λ (n : own.Notes). n.uuid)
        (sym (own_entries.new_call_noted member kernel next cpu steps slot regs reads now notes inside
        (was_free boot kernel next cpu steps slot regs reads now is inside there e) there))
        ∙ uuid_stays boot member kernel next (Entry cpu regs steps reads) notes given e

-- ---- what is known of the session

-- before its open
pub record IsEarly (member : ℕ) (kernel : Kernel) (notes : Notes) : Type 0 where
  pub nothing : own_part notes ≡ own.no_notes
  pub lower : kernel.tables.next_session ≤ member

-- and behind it
pub record IsOpened (member : ℕ) (kernel : Kernel) (notes : Notes) : Type 0 where
  pub named : get notes.sessions member ≡ Some 0
  pub given : member < kernel.tables.next_session

-- and that in the end it is of the application; of its sessions no more have come than calls
pub record Known (boot : Booted) (member : ℕ) (app : Application) (past events : List Event) (kernel : Kernel) (notes : Notes)
    (g : Group) : Type 0 where
  pub final : option_and_then (app_of boot) (own.noted_from boot member kernel (own_part notes) events).uuid ≡ Some app
  pub state : IsEarly member kernel notes ⊎ IsOpened member kernel notes
  pub few : notes.next_session ≤ notes.numbering.entered

no_less : (n : ℕ) → n ≤ 0 → n ≡ 0
no_less n le = omega arith

-- nothing was noted of any session before
none_yet : (member : ℕ) (kernel : Kernel) (notes : Notes) → IsEarly member kernel notes
    → notes.next_session ≤ notes.numbering.entered → notes.next_session ≡ 0
none_yet member kernel notes early few =
    no_less notes.next_session
    (subst (λ n. notes.next_session ≤ n) (ap (λ (n : own.Notes). n.numbering.entered) early.nothing) few)

abbrev pub about_one : List Event → Booted → ℕ → Application → About
about_one history boot member app =
    record { members = record { realm = OneSession member; app = app }; most = steps_in history; key = boot.key }

some_same : (a b : Application) → Some a ≡ Some b → a ≡ b
some_same a b e = cc

one_call : (a b : PendingCall) → Some a ≡ Some b → a ≡ b
one_call a b e = cc

-- where the open of one session is in a slot, the tie has named it
named_behind : (about : About) (member : ℕ) (next : Kernel) (after : Notes) (g : Group)
    → about.members.realm ≡ OneSession member → IsFirstCall member next (own_part after)
    → AreTied about next.slots next.tables after g → get after.sessions member ≡ Some 0
named_behind about member next after g is_one its tied =
    let held = tied.tied.calls.own its.slot 0 its.number in
    let same_call : held.call ≡ its.call = one_call held.call its.call (sym held.in_slot ∙ its.in_slot) in
    let homes = subst (HomesAlike after.sessions tied.instances held.call held.own)
    (ap (λ (c : PendingCall). c.kind) same_call ∙ its.opens) held.alike.homes in
    let named : get after.sessions member ≡ Some held.own.session =
    ap (λ n. get after.sessions n) (sym (ap (λ (c : PendingCall). c.session) same_call ∙ its.of_session)) ∙ homes.0 in
    let given : number_in (OneSession member) after.sessions member ≡ Some held.own.session =
    subst (λ (r : Realm). number_in r after.sessions member ≡ Some held.own.session) is_one
    (tied.tied.named member held.own.session named) in
    named ∙ sym given ∙ ap (λ (b : Bool). if b then Some 0 else None) ((Decides-eqb member member).1 refl)

module _ (boot : Booted) (member : ℕ) (app : Application) (history : List Event) where
  abbrev about : About
  about = about_one history boot member app

  abbrev KnownHere : List Event → List Event → Kernel → Notes → Group → Type 0
  KnownHere past events kernel notes g = Known boot member app past events kernel notes g

  -- what the end has noted, from behind the next event on
  final_on : (past events : List Event) (kernel : Kernel) (happened : Event) (notes : Notes) (g : Group)
      → KnownHere past (happened ∷ events) kernel notes g
      → (on : IsOn boot about.most past kernel happened events)
      → option_and_then (app_of boot) (own.noted_from boot member on.next
      (own.event_noted member kernel on.next (own_part notes) happened) events).uuid ≡ Some app
  final_on past events kernel happened notes g known on =
      ap (λ (n : own.Notes). option_and_then (app_of boot) n.uuid)
      (sym (own_histories.goes_from boot member kernel on.next (own_part notes) happened events on.comes)) ∙ known.final

  -- the UUID that the event has noted is that of the application, where the session has its number then
  uuid_known : (past events : List Event) (kernel : Kernel) (happened : Event) (notes : Notes) (g : Group)
      → KnownHere past (happened ∷ events) kernel notes g
      → (on : IsOn boot about.most past kernel happened events) → member < on.next.tables.next_session
      → option_and_then (app_of boot) (own.event_noted member kernel on.next (own_part notes) happened).uuid ≡ Some app
  uuid_known past events kernel happened notes g known on given =
      ap (λ (u : Option (List ℕ)). option_and_then (app_of boot) u)
      (sym (uuid_on boot member about.most (past ++ happened ∷ []) on.next
      (own.event_noted member kernel on.next (own_part notes) happened) events given on.at))
      ∙ final_on past events kernel happened notes g known on

  -- ---- a new call before the open

  early_so : (past events : List Event) (kernel : Kernel) (happened : Event) (notes : Notes) (g : Group)
      → KnownHere past (happened ∷ events) kernel notes g → IsAt boot about.most past kernel (happened ∷ events)
      → (on : IsOn boot about.most past kernel happened events) → IsEarly member kernel notes
      → (cpu steps slot : ℕ) (regs : Regs) (reads : List Read) (now : PendingCall) (event : OwnEvent)
      → happened ≡ Entry cpu regs steps reads → IsNew regs.a
      → slice_get on.next.processors cpu ≡ Some (Inside regs.a steps (InSlot slot))
      → slice_get on.next.slots slot ≡ Some (Active cpu now) → own.event_of member now ≡ Some event
      → (now.kind ≡ kind.Open) × (now.uuid ≡ Some (uuid_of app)) × (now.session ≡ member)
      × (member < on.next.tables.next_session)
  early_so past events kernel happened notes g known at on early cpu steps slot regs reads now event is_entry is inside there
      noted =
      by_coming found.holds
    where
      comes : after_event boot kernel (Entry cpu regs steps reads) ≡ Some on.next
      comes = ap (λ (h : Event). after_event boot kernel h) (sym is_entry) ∙ on.comes

      below : AreBelow kernel.slots kernel.tables
      below = below_numbers kernel (numbered boot past kernel at.there)

      found : IsTaken (λ slot_at taken. Coming boot member taken) kernel on.next
          (record { cpu = cpu; regs = regs.a; steps = steps }) slot now
      found = early_call boot member kernel on.next cpu steps slot regs reads now below early.lower is inside there comes

      none_noted : {P : Type 0} → own.event_of member found.taken.call ≡ None → P
      none_noted none =
          not_both event (sym none ∙ ap (λ (c : PendingCall). own.event_of member c) found.call_is ∙ noted)

      by_coming : Coming boot member found.taken
          → (now.kind ≡ kind.Open) × (now.uuid ≡ Some (uuid_of app)) × (now.session ≡ member)
          × (member < on.next.tables.next_session)
      by_coming (Another none lower) = none_noted none
      by_coming (ItWaits none more its) = none_noted none
      by_coming (ItsOpen o) =
          let opens : now.kind ≡ kind.Open = ap (λ (c : PendingCall). c.kind) (sym found.call_is) ∙ o.opens.kind in
          let given : member < on.next.tables.next_session =
          subst (λ (k : Kernel). member < k.tables.next_session) found.gives o.given in
          let uuid : now.uuid ≡ Some (uuid_of o.of) = ap (λ (c : PendingCall). c.uuid) (sym found.call_is) ∙ o.uuid in
          let told : (own.event_noted member kernel on.next (own_part notes) happened).uuid ≡ Some (uuid_of o.of) =
          ap (λ (h : Event). (own.event_noted member kernel on.next (own_part notes) h).uuid) is_entry
          ∙ ap (λ (n : own.Notes). n.uuid)
          (own_entries.new_call_noted member kernel on.next cpu steps slot regs reads now (own_part notes) inside found.free
          there)
          ∙ ap (λ (e : Option OwnEvent). (option_map_or (own.numbered (own_part notes) slot now) e (own_part notes)).uuid)
          noted
          ∙ open_uuid member now event (own_part notes) opens noted ∙ uuid in
          let same : o.of ≡ app =
          some_same o.of app (sym o.of_boot ∙ ap (λ (u : Option (List ℕ)). option_and_then (app_of boot) u) (sym told)
          ∙ uuid_known past events kernel happened notes g known on given) in (
            opens,
            uuid ∙ ap (λ (a : Application). Some (uuid_of a)) same,
            ap (λ (c : PendingCall). c.session) (sym found.call_is) ∙ o.opens.of_session,
            given,
          )

  comes_so : (past events : List Event) (kernel : Kernel) (happened : Event) (notes : Notes) (g : Group)
      → KnownHere past (happened ∷ events) kernel notes g → IsAt boot about.most past kernel (happened ∷ events)
      → (on : IsOn boot about.most past kernel happened events)
      → (cpu steps slot : ℕ) (regs : Regs) (reads : List Read) (now : PendingCall) (came : GroupEvent)
      → happened ≡ Entry cpu regs steps reads → IsNew regs.a
      → slice_get on.next.processors cpu ≡ Some (Inside regs.a steps (InSlot slot))
      → slice_get on.next.slots slot ≡ Some (Active cpu now)
      → event_of (OneSession member) on.next.tables notes now now.kind ≡ Some came
      → ComesAs (OneSession member) app notes now now.kind
  comes_so past events kernel happened notes g known at on cpu steps slot regs reads now came is_entry is inside there noted =
      by_state known.state
    where
      event : (one : OwnEvent) × (own.event_of member now ≡ Some one)
      event = same_noted member on.next.tables notes now came noted

      comes : after_event boot kernel (Entry cpu regs steps reads) ≡ Some on.next
      comes = ap (λ (h : Event). after_event boot kernel h) (sym is_entry) ∙ on.comes

      by_kind : (call_kind : CallKind) → now.kind ≡ call_kind → IsOpened member kernel notes
          → ComesAs (OneSession member) app notes now call_kind
      by_kind kind.Open opens opened =
          absurd (never_opens boot member kernel on.next cpu steps slot regs reads now event.0 opened.given is inside there comes
          event.1 opens)
      by_kind (kind.Invoke func) other opened = opened.named
      by_kind kind.Close other opened = opened.named
      by_kind kind.Settled other opened = opened.named

      by_state : IsEarly member kernel notes ⊎ IsOpened member kernel notes
          → ComesAs (OneSession member) app notes now now.kind
      by_state (inl early) =
          let so = early_so past events kernel happened notes g known at on early cpu steps slot regs reads now event.0
          is_entry is inside there event.1 in
          subst (λ k. ComesAs (OneSession member) app notes now k) (sym so.0)
          (so.1, none_yet member kernel notes early known.few)
      by_state (inr opened) = by_kind now.kind refl opened

  -- ---- and what is known behind the next event

  few_so : (past events : List Event) (kernel : Kernel) (happened : Event) (notes : Notes)
      → notes.next_session ≤ notes.numbering.entered → (on : IsOn boot about.most past kernel happened events)
      → (event_noted boot (OneSession member) kernel on.next notes happened).next_session
      ≤ (event_noted boot (OneSession member) kernel on.next notes happened).numbering.entered
  few_so past events kernel happened notes few on =
      behind_event (λ sessions next_session entered log. next_session ≤ entered)
      (λ sessions next_session entered log last other told holds. holds) boot (OneSession member) kernel on.next happened
      notes few
      (λ cpu steps slot regs reads now came is_entry is inside there noted. by_kind slot now came now.kind refl) on.comes
    where
      with_one : (n m : ℕ) → n ≤ m → n + 1 ≤ m + 1
      with_one n m le = omega arith

      one_more : (n m : ℕ) → n ≤ m → n ≤ m + 1
      one_more n m le = omega arith

      by_kind : (slot : ℕ) (now : PendingCall) (came : GroupEvent) (call_kind : CallKind) → now.kind ≡ call_kind
          → (reading.sessions_with now.kind (reading.with_event notes came) now).next_session ≤ notes.numbering.entered + 1
      by_kind slot now came kind.Open is =
          subst (λ k. (reading.sessions_with k (reading.with_event notes came) now).next_session
          ≤ notes.numbering.entered + 1) (sym is) (with_one notes.next_session notes.numbering.entered few)
      by_kind slot now came (kind.Invoke func) is =
          subst (λ k. (reading.sessions_with k (reading.with_event notes came) now).next_session
          ≤ notes.numbering.entered + 1) (sym is) (one_more notes.next_session notes.numbering.entered few)
      by_kind slot now came kind.Close is =
          subst (λ k. (reading.sessions_with k (reading.with_event notes came) now).next_session
          ≤ notes.numbering.entered + 1) (sym is) (one_more notes.next_session notes.numbering.entered few)
      by_kind slot now came kind.Settled is =
          subst (λ k. (reading.sessions_with k (reading.with_event notes came) now).next_session
          ≤ notes.numbering.entered + 1) (sym is) (one_more notes.next_session notes.numbering.entered few)

  named_so : (past events : List Event) (kernel : Kernel) (happened : Event) (notes : Notes) → IsOpened member kernel notes
      → (on : IsOn boot about.most past kernel happened events)
      → get (event_noted boot (OneSession member) kernel on.next notes happened).sessions member ≡ Some 0
  named_so past events kernel happened notes opened on =
      behind_event (λ sessions next_session entered log. get sessions member ≡ Some 0)
      (λ sessions next_session entered log last other told holds. holds) boot (OneSession member) kernel on.next
      happened notes opened.named
      (λ cpu steps slot regs reads now came is_entry is inside there noted.
      by_kind now came now.kind refl
      (λ opens.
      let event = same_noted member on.next.tables notes now came noted in
      never_opens boot member kernel on.next cpu steps slot regs reads now event.0 opened.given is inside there
      (ap (λ (h : Event). after_event boot kernel h) (sym is_entry) ∙ on.comes) event.1 opens)) on.comes
    where
      by_kind : (now : PendingCall) (came : GroupEvent) (call_kind : CallKind) → now.kind ≡ call_kind
          → (now.kind ≡ kind.Open → ⊥)
          → get (reading.sessions_with now.kind (reading.with_event notes came) now).sessions member ≡ Some 0
      by_kind now came kind.Open is never = absurd (never is)
      by_kind now came (kind.Invoke func) is never =
          subst (λ k. get (reading.sessions_with k (reading.with_event notes came) now).sessions member ≡ Some 0) (sym is)
          opened.named
      by_kind now came kind.Close is never =
          subst (λ k. get (reading.sessions_with k (reading.with_event notes came) now).sessions member ≡ Some 0) (sym is)
          opened.named
      by_kind now came kind.Settled is never =
          subst (λ k. get (reading.sessions_with k (reading.with_event notes came) now).sessions member ≡ Some 0) (sym is)
          opened.named

  next_so : (past events : List Event) (kernel : Kernel) (happened : Event) (notes : Notes) (g last : Group)
      → KnownHere past (happened ∷ events) kernel notes g → (on : IsOn boot about.most past kernel happened events)
      → (after : Notes) → AreTied about on.next.slots on.next.tables after last
      → own_part after ≡ own.event_noted member kernel on.next (own_part notes) happened
      → (now : own.Notes) → own_part after ≡ now → EarlyNext boot member on.next now
      → IsEarly member on.next after ⊎ IsOpened member on.next after
  next_so past events kernel happened notes g last known on after tied noted_so now same (StillEarly nothing lower) =
      inl (record { nothing = same ∙ nothing; lower = lower })
  next_so past events kernel happened notes g last known on after tied noted_so now same (NowNameless of higher of_boot shares nothing opening) =
      let none : None ≡ Some app = ap (λ (n : own.Notes). option_and_then (app_of boot) n.uuid)
      (sym nothing ∙ sym same ∙ noted_so)
      ∙ uuid_known past events kernel happened notes g known on higher in
      absurd cc
  next_so past events kernel happened notes g last known on after tied noted_so now same (NowOpen of given of_boot uuid opening its) =
      inr (record {
        named = named_behind about member on.next after last refl (subst (IsFirstCall member on.next) (sym same) its) tied;
        given = given;
      })

  early_on : (past events : List Event) (kernel : Kernel) (happened : Event) (notes : Notes) (g : Group)
      → KnownHere past (happened ∷ events) kernel notes g → IsAt boot about.most past kernel (happened ∷ events)
      → (on : IsOn boot about.most past kernel happened events) → IsEarly member kernel notes
      → (goes : GoesAlong about notes g on.next (event_noted boot (OneSession member) kernel on.next notes happened))
      → IsEarly member on.next (event_noted boot (OneSession member) kernel on.next notes happened)
      ⊎ IsOpened member on.next (event_noted boot (OneSession member) kernel on.next notes happened)
  early_on past events kernel happened notes g known at on early goes =
      next_so past events kernel happened notes g goes.then known on
      (event_noted boot (OneSession member) kernel on.next notes happened) goes.tied
      (happened_same boot member kernel on.next notes happened)
      (own.event_noted member kernel on.next own.no_notes happened)
      (happened_same boot member kernel on.next notes happened
      ∙ ap (λ (n : own.Notes). own.event_noted member kernel on.next n happened) early.nothing)
      (early_next boot member kernel on.next happened
      (below_numbers kernel (numbered boot past kernel at.there)) early.lower on.comes)

  stays_so : (past events : List Event) (kernel : Kernel) (happened : Event) (notes : Notes) (g : Group)
      → KnownHere past (happened ∷ events) kernel notes g → IsAt boot about.most past kernel (happened ∷ events)
      → (on : IsOn boot about.most past kernel happened events)
      → (goes : GoesAlong about notes g on.next (event_noted boot (OneSession member) kernel on.next notes happened))
      → KnownHere (past ++ happened ∷ []) events on.next (event_noted boot (OneSession member) kernel on.next notes happened)
      goes.then
  stays_so past events kernel happened notes g known at on goes = record {
    final = ap (λ (n : own.Notes). option_and_then (app_of boot) (own.noted_from boot member on.next n events).uuid)
        (happened_same boot member kernel on.next notes happened)
        ∙ final_on past events kernel happened notes g known on;
    state = by_state known.state;
    few = few_so past events kernel happened notes known.few on;
  }
    where
      no_lower : (a n m : ℕ) → a < n → n ≤ m → a < m
      no_lower a n m lt le = omega arith

      by_state : IsEarly member kernel notes ⊎ IsOpened member kernel notes
          → IsEarly member on.next (event_noted boot (OneSession member) kernel on.next notes happened)
          ⊎ IsOpened member on.next (event_noted boot (OneSession member) kernel on.next notes happened)
      by_state (inl early) = early_on past events kernel happened notes g known at on early goes
      by_state (inr opened) =
          inr (record {
            named = named_so past events kernel happened notes opened on;
            given = no_lower member kernel.tables.next_session on.next.tables.next_session opened.given
                (numbers_rise boot past kernel on.next happened at.there on.comes).session;
          })

  one_course : Course boot about KnownHere
  one_course = record { comes = comes_so; stays = stays_so }

-- ---- from the boot on

none_before : (n : ℕ) → 1 ≤ suc n
none_before n = omega arith

-- the first session has the number 1
pub from_one : (boot : Booted) (history : List Event) (member : ℕ) (app : Application) → IsSessionOf boot history member app
    → IsAt boot (steps_in history) [] (first_kernel boot) history → (first_kernel boot).tables.next_session ≤ member
from_one boot history (suc n) app s at = none_before n
from_one boot history zero app s at =
    let none : (own.noted boot history zero).uuid ≡ None =
    uuid_on boot zero (steps_in history) [] (first_kernel boot) own.no_notes history (omega arith) at in
    let no : None ≡ Some app = ap (λ (u : Option (List ℕ)). option_and_then (app_of boot) u) (sym none) ∙ s.of_app in
    absurd cc

-- the machine runs along with a whole history
abbrev pub RunsOne : Booted → List Event → ℕ → Application → Kernel → Type 0
RunsOne boot history member app last =
    RunsAlong (steps_in history) app (EndsTied (about_one history boot member app) (Known boot member app) last) no_notes
    (nobody_there boot.key) (noted boot history (OneSession member))

pub one_runs : (boot : Booted) (history : List Event) (member : ℕ) (app : Application) (last : Kernel)
    → IsSessionOf boot history member app → kernel_after boot history ≡ Some last → RunsOne boot history member app last
one_runs boot history member app last s there =
    let about : About = about_one history boot member app in
    let at = from_first boot history last there in
    let of_boot : app_of boot (uuid_of app) ≡ Some app =
    option_and_then_some (app_of boot) (own.noted boot history member).uuid app s.of_app
    (λ uuid there is. ap (λ (u : List ℕ). app_of boot u) (app_named boot uuid app is) ∙ is) in
    tied_on boot about (Known boot member app) (one_course boot member app history)
    (record { of_boot = of_boot; shares = s.shares_none }) refl last [] (first_kernel boot) no_notes (nobody_there boot.key)
    history (stays_in_order.first boot.key)
    (record {
      final = s.of_app;
      state = inl (record { nothing = refl; lower = from_one boot history member app s at });
      few = omega arith;
    }) (boots_tied boot about) at there

pub one_answered : (boot : Booted) (history : List Event) (member : ℕ) (app : Application)
    → IsSessionOf boot history member app
    → group_machine_replies (steps_in history) app boot.key (realm_events boot history (OneSession member))
    ≡ Some (realm_replies boot history (OneSession member))
one_answered boot history member app s =
    let last = some_of (kernel_after boot history) s.legal.follows in
    let runs = one_runs boot history member app last.0 s last.1 in
    ap (λ (o : Option Ended). option_map (λ (end : Ended). end.1) o)
    (ap (λ (log : List Logged). run (steps_in history) app (nobody_there boot.key) (events_in log)) runs.logged
    ∙ runs.replies ∙ ap (λ (log : List Logged). Some (runs.then, replies_in log)) (sym runs.logged))

pub one_within : (boot : Booted) (history : List Event) (member : ℕ) (app : Application)
    → IsSessionOf boot history member app
    → AllWithin (noted boot history (OneSession member)).numbering.entered (steps_in history) app (nobody_there boot.key)
    (realm_events boot history (OneSession member))
one_within boot history member app s =
    let last = some_of (kernel_after boot history) s.legal.follows in
    let runs = one_runs boot history member app last.0 s last.1 in
    subst (λ (log : List Logged). AllWithin (noted boot history (OneSession member)).numbering.entered (steps_in history) app
    (nobody_there boot.key) (events_in log)) (sym runs.logged) runs.within

-- ---- at the end

-- its open has come in: the session has its number, and each of its calls in the slots has one
pub record IsThere (boot : Booted) (history : List Event) (member : ℕ) (last : Kernel) : Type 0 where
  pub given : member < last.tables.next_session
  pub numbered : (slot : ℕ) (call : PendingCall) → call_at last.slots slot ≡ Some call → call.session ≡ member →
      (number : ℕ) × (get (noted boot history (OneSession member)).numbering.in_slots slot ≡ Some number)

pub one_there : (boot : Booted) (history : List Event) (member : ℕ) (app : Application) (last : Kernel)
    → IsSessionOf boot history member app → kernel_after boot history ≡ Some last → IsThere boot history member last
one_there boot history member app last s there = by_state runs.end.known.state
  where
    runs : RunsOne boot history member app last
    runs = one_runs boot history member app last s there

    by_number : (slot : ℕ) (call : PendingCall) (found : Option ℕ)
        → get (noted boot history (OneSession member)).numbering.in_slots slot ≡ found → call_at last.slots slot ≡ Some call
        → call.session ≡ member → get (noted boot history (OneSession member)).sessions member ≡ Some 0
        → (number : ℕ) × (get (noted boot history (OneSession member)).numbering.in_slots slot ≡ Some number)
    by_number slot call (Some number) has held of_it named = (number, has)
    by_number slot call None none held of_it named =
        let other = runs.end.tied.tied.others slot call held none in
        let no : None ≡ Some 0 =
        sym other.session ∙ ap (λ n. get (noted boot history (OneSession member)).sessions n) of_it ∙ named in
        absurd cc

    by_state : IsEarly member last (noted boot history (OneSession member))
        ⊎ IsOpened member last (noted boot history (OneSession member)) → IsThere boot history member last
    by_state (inl early) =
        let no : None ≡ Some app =
        ap (λ (n : own.Notes). option_and_then (app_of boot) n.uuid) (sym early.nothing) ∙ runs.end.known.final in
        absurd cc
    by_state (inr opened) = record {
      given = opened.given;
      numbered = λ slot call held of_it.
          by_number slot call (get (noted boot history (OneSession member)).numbering.in_slots slot) refl held of_it opened.named;
    }

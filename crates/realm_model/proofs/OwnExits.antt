-- An exit from a call of the realm that isn't an interrupt leaves kernel and machine tied: the machine's call goes out.
use Rattle.std.proofs.Common.{◌≡◌, ℕ, ◌≤◌, Bool, false, List, [], ◌∷◌, Option, Some, None, refl, ap, subst, sym}
use Rattle.std.proofs.Common.{◌∙◌}
use Rattle.std.specs.Prelude.{◌==◌, ◌&&◌, ◌||◌, All, if◌then◌else◌, is_some, not, slice_get, slice_set}
use Rattle.std.specs.Option.{option_map, option_map_or, option_and_then}
use Rattle.std.proofs.lemmas.List.Elements.{All-cons, All-head, All-nil, All-tail}
use Rattle.std.proofs.lemmas.Option.{option_and_then_some}
use Rattle.base.specs.NumberMap.{NumberMap, IsRising, get, insert, remove}
use Rattle.job_model.specs.declared.call_kind.CallKind.{CallKind}
use Rattle.job_model.specs.declared.call_kind.CallKind.TheVariants as kind
use Rattle.rpc_msgs.proofs.Places.{placed_somewhere}
use Rattle.rpc_msgs.specs.Place.{is_placed}
use Rattle.rpc_msgs.specs.Request.{has_payload}
use Rattle.rpc_msgs.specs.declared.request_place.RequestPlace.{RequestPlace}
use Rattle.rpc_msgs.specs.declared.rpc.Rpc.{Rpc}
use Rattle.rpc_msgs.specs.declared.rpc.Rpc.TheVariants as rpc
use Rattle.rpc_msgs.specs.declared.rpc_buffer.RpcBuffer.{RpcBuffer}
use Rattle.ta_params.specs.declared.call_result.CallResult.{CallResult}
use Rattle.ta_params.specs.declared.copied_params.CopiedParams.{CopiedParams}
use Rattle.kernel_model.specs.Codes.{success}
use Rattle.kernel_model.specs.Exit.{Exited, exit, exit_of, goes_out_from, progress_held, slot_left, tables_left}
use Rattle.kernel_model.specs.Kernel.{Active, Asks, CallPhase, Ends, Free, Instance, Kernel}
use Rattle.kernel_model.specs.Kernel.{PendingCall, Processor, Progress, Runs, Suspended, ThreadSlot, Visit, Waits}
use Rattle.kernel_model.specs.Leaving.{FreesBuffer, Finishes, Interrupted, Leaving, Request, Requests, WantsBuffer}
use Rattle.kernel_model.specs.Leaving.{leaving_in, leaving_of, place_of, plain_request}
use Rattle.own_model.proofs.FixedAnswers.{left}
use Rattle.own_model.proofs.InOrder.{if_any_of}
use Rattle.own_model.proofs.Maps.{get-insert-same}
use Rattle.own_model.proofs.OwnChanges.{some_number}
use Rattle.own_model.specs.InOrder.{IsAtWork, IsWaiting}
use Rattle.own_model.specs.Own.{Numbering, ended, reply_of, request_reply, slot_kept, wake_kept, wake_of, with_wake}
use Rattle.own_model.specs.Tied.{FoundAlike, HoldersAlike, PhasesAlike, WasTold, call_at, call_in}
use Rattle.own_model.specs.declared.own_reply.OwnReply.{OwnReply}
use Rattle.own_model.specs.declared.own_reply.OwnReply.TheVariants as reply
use Rattle.group_model.specs.Group.{Answered, Going, Group, GroupCall, GroupWaiter, asks, going_in, goes_out, goes_out_in}
use Rattle.group_model.specs.Group.{opened_by, plain, with_call}
use Rattle.realm_model.specs.Realm.{Realm}
use Rattle.realm_model.specs.Reading.{Notes, exit_noted, opened_in, out_noted, with_reply}
use Rattle.realm_model.specs.declared.realm_event.RealmEvent.TheVariants.{Comes}
use Rattle.group_model.specs.declared.group_event.GroupEvent.TheVariants.{Out}
use Rattle.group_model.specs.declared.group_reply.GroupReply.{GroupReply}
use Rattle.group_model.specs.InOrder.{Fits, IsIn, IsInOrder}
use Rattle.realm_model.specs.Laws.{GoesAlong, OwnExitsKeepTied}
use Rattle.group_model.specs.Tied.{AreasAlike, CallsAlike, HomesAlike, found_at}
use Rattle.realm_model.specs.Tied.{AreMembers, Tied}
use Rattle.group_model.proofs.CallChanges.{IsIdle, with_numbering}
use Rattle.realm_model.proofs.CallChanges.{call_changes, call_goes}
use Rattle.group_model.proofs.Ends.{one_there}
use Rattle.group_model.proofs.InOrder.{InOrderGoing, going_so}
use Rattle.group_model.proofs.OrderedChanges.{InLine, is_on}
use Rattle.realm_model.proofs.Progress.{OwnThere, Place, comes_to, names_at, still_as}
use Rattle.realm_model.proofs.Progress as progressed
use Rattle.realm_model.proofs.Members.{opens_of}
use Rattle.realm_model.proofs.OpenRuns.{opens_after}
use Rattle.group_model.proofs.MoreSteps.{one_step}

-- ---- a request

-- a call that asks, waits or wakes was not settled as it came in
abbrev pub AsksFor : CallPhase → Type 0
AsksFor (Asks job wanted payload) = Unit {0}
AsksFor (Waits params) = Unit {0}
AsksFor (Ends result params told (Some woken)) = Unit {0}
AsksFor _ = ⊥

-- ---- what is noted of it

abbrev noted_by : Place → Leaving → Option ℕ → Option ℕ → Option OwnReply → Notes
noted_by p leaving woken opened told =
    let noted = option_map_or (with_reply p.number p.notes opened) told p.notes in
    record noted { numbering = slot_kept (with_wake p.notes.numbering p.slot woken) p.slot leaving }

-- whom the call wakes
abbrev woken_at : Place → PendingCall → Option ℕ
woken_at p call = wake_kept p.notes.numbering p.slot (wake_of call.phase)

-- what a call goes out with, what is told of it, and the machine then
record GoesOut (p : Place) (own : GroupCall) (progress : Progress) : Type 0 where
  leaving : Leaving
  leaves_so : leaving_of p.slot progress.call ≡ leaving
  told : OwnReply
  tells : reply_of (woken_at p progress.call) progress.call.phase leaving ≡ Some told
  opened : Option ℕ
  opens : opened_in p.about.members.realm p.notes progress.call progress.call.kind leaving ≡ opened
  numbering : Numbering
  numbers : slot_kept (with_wake p.notes.numbering p.slot (woken_at p progress.call)) p.slot leaving ≡ numbering
  final : Group
  goes : goes_out p.about.most p.group p.number own ≡ Some (final, Some (record { reply = told; opened = opened }))
  tied : Tied p.about.members (with_numbering (names_at p) numbering)
      (slice_set p.kernel.slots p.slot (slot_left progress.call leaving))
      (tables_left progress.tables p.slot (slot_left progress.call leaving)) final

goes_along : (p : Place) (visit : Visit) (own : GroupCall) (progress : Progress)
    → get p.group.calls p.number ≡ Some own → GoesOut p own progress
    → GoesAlong p.about p.notes p.group (goes_out_from p.kernel visit p.slot progress).kernel
    (exit_noted p.about.members.realm p.notes p.slot progress.call p.number)
goes_along p visit own progress there g =
    let told : GroupReply = record { reply = g.told; opened = g.opened } in
    subst (GoesAlong p.about p.notes p.group (goes_out_from p.kernel visit p.slot progress).kernel) (sym same) (record {
      items = (Comes (Out p.number), Some told) ∷ [];
      noted = refl;
      then = g.final;
      replies = one_step p.about.most p.about.members.app p.group g.final (Out p.number) (Some told)
          (ap (λ (o : Option GroupCall). option_and_then (goes_out p.about.most p.group p.number) o) there ∙ g.goes);
      tied = record {
        instances = p.instances;
        tied = subst (λ (leaving : Leaving). Tied p.about.members
            (with_numbering (names_at p) (slot_kept (with_wake p.notes.numbering p.slot woken) p.slot g.leaving))
            (slice_set p.kernel.slots p.slot (slot_left progress.call leaving))
            (tables_left progress.tables p.slot (slot_left progress.call leaving)) g.final)
            (sym g.leaves_so)
            (subst (λ (n : Numbering). Tied p.about.members (with_numbering (names_at p) n)
            (slice_set p.kernel.slots p.slot (slot_left progress.call g.leaving))
            (tables_left progress.tables p.slot (slot_left progress.call g.leaving)) g.final) (sym g.numbers) g.tied);
        as_realm = still_as p.about.members.realm p.notes.next_session p.instances p.group g.final p.number own there
            p.as_realm
            (λ one.
            opens_after p.about.most p.about.members.app p.group (Out p.number) (g.final, Some told) tt
            (opens_of p.about.members.realm p.notes.next_session p.instances p.group p.as_realm one)
            (ap (λ (o : Option GroupCall). option_and_then (goes_out p.about.most p.group p.number) o) there ∙ g.goes));
      };
    })
  where
    woken : Option ℕ
    woken = woken_at p progress.call

    same : exit_noted p.about.members.realm p.notes p.slot progress.call p.number
        ≡ noted_by p g.leaving (woken_at p progress.call) g.opened (Some g.told)
    same = ap (λ (leaving : Leaving). noted_by p leaving woken
        (opened_in p.about.members.realm p.notes progress.call progress.call.kind leaving)
        (reply_of woken progress.call.phase leaving)) g.leaves_so
        ∙ ap (λ (o : Option OwnReply). noted_by p g.leaving woken
        (opened_in p.about.members.realm p.notes progress.call progress.call.kind g.leaving) o) g.tells
        ∙ ap (λ (o : Option ℕ). noted_by p g.leaving woken o (Some g.told)) g.opens

-- ---- what the machine says

-- the call comes to this, and the machine's to one that is in order
record Coming (p : Place) (own : GroupCall) (progress : Progress) : Type 0 where
  comes : progressed.Comes p own progress
  order : IsInOrder (with_call comes.going.group p.number comes.going.call)
  has : get p.notes.numbering.in_slots p.slot ≡ Some p.number
  before : ThreadSlot
  there : slice_get p.kernel.slots p.slot ≡ Some before

out_of : (p : Place) (own : GroupCall) (progress : Progress) (phase : CallPhase) (answered : Answered)
    → (c : Coming p own progress) → c.comes.going.call.phase ≡ phase
    → goes_out_in c.comes.going.group p.number c.comes.going.call phase ≡ Some answered
    → goes_out p.about.most p.group p.number own ≡ Some answered
out_of p own progress phase answered c is goes =
    ap (λ (o : Option Going). option_and_then (λ (g : Going). goes_out_in g.group p.number g.call g.call.phase) o)
    c.comes.goes
    ∙ ap (λ (f : CallPhase). goes_out_in c.comes.going.group p.number c.comes.going.call f) is ∙ goes

-- the numbering where the call stays in its slot
abbrev kept_numbering : (p : Place) (own : GroupCall) (progress : Progress) → Coming p own progress → Numbering
kept_numbering p own progress c = record p.notes.numbering { wakes = c.comes.keeps.wakes }

-- the call, and the machine's, change to these once more and stay in their slot
stays_in : (p : Place) (own : GroupCall) (progress : Progress) (now : PendingCall) (own_now : GroupCall)
    → (c : Coming p own progress)
    → CallsAlike p.notes.sessions p.instances (get c.comes.keeps.wakes p.slot) now own_now
    → (WasTold c.comes.going.call.phase → WasTold own_now.phase)
    → Tied p.about.members (with_numbering (names_at p) (kept_numbering p own progress c))
    (slice_set p.kernel.slots p.slot (Suspended now.client now)) progress.tables
    (with_call c.comes.going.group p.number own_now)
stays_in p own progress now own_now c alike told =
    call_changes p.about.members (names_at p) p.kernel.slots progress.tables c.comes.going.group p.slot p.number
    c.comes.keeps.wakes (Suspended now.client now) now own_now refl
    (record {
      has = c.has;
      before = c.before;
      there = c.there;
      others = c.comes.keeps.others;
      alike = alike;
    })
    (λ woken kept. told (c.comes.told woken kept)) c.comes.tied

-- ---- a request

buffer_is : (call : PendingCall) (own : GroupCall) (buffer : Option RpcBuffer) → is_some call.buffer ≡ own.buffer
    → call.buffer ≡ buffer → own.buffer ≡ is_some buffer
buffer_is call own buffer alike is = sym alike ∙ ap (λ (o : Option RpcBuffer). is_some o) is

-- an area is there exactly where the machine has one, but for a call that was settled as it came in
area_is : (call : PendingCall) (own : GroupCall) (call_kind : CallKind) → AreasAlike call own call_kind
    → (call_kind ≡ kind.Settled → ⊥) → is_some call.area ≡ own.area
area_is call own kind.Open alike works = alike
area_is call own (kind.Invoke func) alike works = alike
area_is call own kind.Close alike works = alike
area_is call own kind.Settled alike works = absurd (works refl)

-- it is placed exactly where the machine's is
placed_alike : (call : PendingCall) (own : GroupCall) (request : Request) (wanted : Rpc) → is_some call.area ≡ own.area
    → is_some call.buffer ≡ own.buffer → has_payload request.wanted ≡ has_payload wanted
    → is_some (place_of call request) ≡ is_placed own.area own.buffer wanted
placed_alike call own request wanted areas buffers paid =
    placed_somewhere call.area call.buffer request.wanted
    ∙ ap (λ b. is_placed b (is_some call.buffer) request.wanted) areas
    ∙ ap (λ b. is_placed own.area b request.wanted) buffers
    ∙ ap (λ b. own.buffer || (own.area && not b)) paid

-- what it asks for, and what is told of it
record Asked : Type 0 where
  request : Request
  wanted : Rpc
  told : OwnReply

-- whether it has a place, or wants a buffer first
abbrev place_leaves : Request → Option RequestPlace → Leaving
place_leaves request place = option_map_or (λ (at : RequestPlace). Requests at request) place WantsBuffer

asks_so : (p : Place) (own : GroupCall) (progress : Progress) (asked : Asked) (phase : CallPhase)
    (place : Option RequestPlace) (leaving : Leaving) (told : OwnReply) → (c : Coming p own progress)
    → leaving_of p.slot progress.call ≡ leaving → slot_left progress.call leaving ≡ Suspended progress.call.client progress.call
    → slot_kept (kept_numbering p own progress c) p.slot leaving ≡ kept_numbering p own progress c
    → reply_of (woken_at p progress.call) progress.call.phase leaving ≡ Some told
    → opened_in p.about.members.realm p.notes progress.call progress.call.kind leaving ≡ None → c.comes.going.call.phase ≡ phase
    → goes_out_in c.comes.going.group p.number c.comes.going.call phase
    ≡ Some (asks c.comes.going.group p.number c.comes.going.call asked.wanted asked.told)
    → (if is_placed c.comes.going.call.area c.comes.going.call.buffer asked.wanted then asked.told else reply.Alloc) ≡ told
    → GoesOut p own progress
asks_so p own progress asked phase place leaving told c leaves_so left_so keeps tells opens is goes telling = record {
  leaving = leaving;
  leaves_so = leaves_so;
  told = told;
  tells = tells;
  opened = None;
  opens = opens;
  numbering = kept_numbering p own progress c;
  numbers = ap (λ (n : Numbering). slot_kept n p.slot leaving) c.comes.keeps.is ∙ keeps;
  final = with_call c.comes.going.group p.number c.comes.going.call;
  goes = out_of p own progress phase _ c is
      (goes ∙ ap (λ (r : OwnReply). Some (with_call c.comes.going.group p.number c.comes.going.call, Some (plain r)))
      telling);
  tied = subst (λ (held : ThreadSlot). Tied p.about.members
      (with_numbering (names_at p) (kept_numbering p own progress c)) (slice_set p.kernel.slots p.slot held)
      (tables_left progress.tables p.slot held) (with_call c.comes.going.group p.number c.comes.going.call))
      (sym left_so)
      (stays_in p own progress progress.call c.comes.going.call c c.comes.alike (λ was. was));
}

-- a request that leaves so opens nothing
opens_none : (realm : Realm) (notes : Notes) (call : PendingCall) (call_kind : CallKind) (leaving : Leaving)
    → ((result : CallResult) (params : CopiedParams) → leaving ≡ Finishes result params → ⊥)
    → opened_in realm notes call call_kind leaving ≡ None
opens_none realm notes call kind.Open Interrupted apart = refl
opens_none realm notes call kind.Open WantsBuffer apart = refl
opens_none realm notes call kind.Open (Requests place request) apart = refl
opens_none realm notes call kind.Open (FreesBuffer buffer) apart = refl
opens_none realm notes call kind.Open (Finishes result params) apart = absurd (apart result params refl)
opens_none realm notes call (kind.Invoke func) leaving apart = refl
opens_none realm notes call kind.Close leaving apart = refl
opens_none realm notes call kind.Settled leaving apart = refl

request_so : (p : Place) (own : GroupCall) (progress : Progress) (asked : Asked) (phase : CallPhase)
    (place : Option RequestPlace) → (c : Coming p own progress)
    → leaving_of p.slot progress.call ≡ place_leaves asked.request (place_of progress.call asked.request)
    → request_reply (woken_at p progress.call) progress.call.phase ≡ Some asked.told
    → c.comes.going.call.phase ≡ phase
    → goes_out_in c.comes.going.group p.number c.comes.going.call phase
    ≡ Some (asks c.comes.going.group p.number c.comes.going.call asked.wanted asked.told)
    → is_some (place_of progress.call asked.request)
    ≡ is_placed c.comes.going.call.area c.comes.going.call.buffer asked.wanted
    → place_of progress.call asked.request ≡ place → GoesOut p own progress
request_so p own progress asked phase None c leaving tells is goes placed has_none =
    asks_so p own progress asked phase None WantsBuffer reply.Alloc c
    (leaving ∙ ap (λ (o : Option RequestPlace). place_leaves asked.request o) has_none) refl refl refl
    (opens_none p.about.members.realm p.notes progress.call progress.call.kind WantsBuffer (λ result params e. absurd cc)) is goes
    (ap (λ b. if b then asked.told else reply.Alloc)
    (sym placed ∙ ap (λ (o : Option RequestPlace). is_some o) has_none))
request_so p own progress asked phase (Some place) c leaving tells is goes placed has_one =
    asks_so p own progress asked phase (Some place) (Requests place asked.request) asked.told c
    (leaving ∙ ap (λ (o : Option RequestPlace). place_leaves asked.request o) has_one) refl refl tells
    (opens_none p.about.members.realm p.notes progress.call progress.call.kind (Requests place asked.request) (λ result params e. absurd cc)) is
    goes
    (ap (λ b. if b then asked.told else reply.Alloc)
    (sym placed ∙ ap (λ (o : Option RequestPlace). is_some o) has_one))

not_settled : (call_kind : CallKind) (phase : CallPhase) → AsksFor phase → Fits call_kind phase
    → call_kind ≡ kind.Settled → ⊥
not_settled kind.Settled (Runs job) asks fits e = asks
not_settled kind.Settled (Asks job wanted payload) asks fits e = fits
not_settled kind.Settled (Waits params) asks fits e = fits
not_settled kind.Settled (Ends result params told (Some woken)) asks fits e = fits
not_settled kind.Settled (Ends result params told None) asks fits e = asks
not_settled kind.Open phase asks fits e = cc
not_settled (kind.Invoke func) phase asks fits e = cc
not_settled kind.Close phase asks fits e = cc

-- so its area is the machine's
area_out : (p : Place) (own : GroupCall) (progress : Progress) (phase : CallPhase) → (c : Coming p own progress)
    → c.comes.going.call.phase ≡ phase → AsksFor phase → is_some progress.call.area ≡ c.comes.going.call.area
area_out p own progress phase c is asks =
    let last : GroupCall = c.comes.going.call in
    let fits : Fits last.kind last.phase =
    c.order.fits p.number last (get-insert-same c.comes.going.group.calls p.number last) in
    area_is progress.call last progress.call.kind c.comes.alike.areas
    (λ settled. not_settled last.kind phase asks (subst (λ (f : CallPhase). Fits last.kind f) is fits)
    (sym c.comes.alike.kinds ∙ settled))

-- ---- the end

-- a call that has ended and wakes nobody, and the machine's
record HasEnded (p : Place) (own : GroupCall) (progress : Progress) (c : Coming p own progress) (result : CallResult)
    (params : CopiedParams) : Type 0 where
  told : Bool
  is : progress.call.phase ≡ Ends result params told None
  own_is : c.comes.going.call.phase ≡ Ends result params told None

-- neither the holder nor in the line
idle : (p : Place) (own : GroupCall) (progress : Progress) (c : Coming p own progress)
    → (IsAtWork c.comes.going.call.phase → ⊥) → (IsWaiting c.comes.going.call.phase → ⊥)
    → IsIdle (names_at p) p.slot p.number progress.tables c.comes.going.group.waiting
idle p own progress c at_rest unlined = record {
  holder = λ at own_at kept named found held.
      no_holder own_at kept (found_at c.comes.going.group.instance own_at)
      (subst (λ (o : Option Instance). FoundAlike p.notes.numbering.in_slots o
      (found_at c.comes.going.group.instance own_at)) found (c.comes.tied.instances.alike at own_at named)) held refl;
  unlined = unlined_in c.comes.going.group.waiting c.order.waiting;
}
  where
    by_holder : (kept own_holder : Option ℕ) → HoldersAlike p.notes.numbering.in_slots kept own_holder
        → kept ≡ Some p.slot → own_holder ≡ Some p.number
    by_holder None None alike held = absurd cc
    by_holder (Some at) (Some other) alike held =
        let same : at ≡ p.slot = some_number at p.slot held in
        sym alike ∙ ap (λ n. get p.notes.numbering.in_slots n) same ∙ c.has
    by_holder None (Some other) alike held = absurd alike
    by_holder (Some at) None alike held = absurd alike

    no_holder : (own_at : ℕ) (kept : Instance) (found : Option Instance)
        → FoundAlike p.notes.numbering.in_slots (Some kept) found → kept.holder ≡ Some p.slot
        → found_at c.comes.going.group.instance own_at ≡ found → ⊥
    no_holder own_at kept None alike held is = absurd alike
    no_holder own_at kept (Some instance) alike held is =
        at_rest (is_on IsAtWork (insert c.comes.going.group.calls p.number c.comes.going.call) p.number own_at
        c.comes.going.call
        (c.order.holder own_at p.number instance (one_there c.comes.going.group.instance own_at instance is)
        (by_holder kept.holder instance.holder alike.holders held))
        (get-insert-same c.comes.going.group.calls p.number c.comes.going.call)).is_in

    unlined_in : (line : List GroupWaiter)
        → All (InLine (insert c.comes.going.group.calls p.number c.comes.going.call)) line
        → All (λ (w : GroupWaiter). w.call ≡ p.number → ⊥) line
    unlined_in [] all = All-nil (λ (w : GroupWaiter). w.call ≡ p.number → ⊥)
    unlined_in (first ∷ rest) all =
        All-cons (λ (w : GroupWaiter). w.call ≡ p.number → ⊥) first rest
        (λ same. unlined (is_on IsWaiting (insert c.comes.going.group.calls p.number c.comes.going.call) p.number
        first.instance c.comes.going.call
        (subst (λ n. IsIn IsWaiting (insert c.comes.going.group.calls p.number c.comes.going.call) n first.instance) same
        (All-head (InLine (insert c.comes.going.group.calls p.number c.comes.going.call)) first rest all))
        (get-insert-same c.comes.going.group.calls p.number c.comes.going.call)).is_in)
        (unlined_in rest
        (All-tail (InLine (insert c.comes.going.group.calls p.number c.comes.going.call)) first rest all))

-- what a call that has ended is told, by whether it has a buffer
abbrev told_at_end : Group → ℕ → GroupCall → CallResult → CopiedParams → Bool → Answered
told_at_end g number last result params has =
    let told : GroupReply =
    record { reply = ended result params; opened = opened_by last.kind last.session result } in
    if has
    then (with_call g number (record last { buffer = false }), Some (plain reply.Free))
    else (record g { calls = remove g.calls number }, Some told)

-- it gives its buffer back
frees_so : (p : Place) (own : GroupCall) (progress : Progress) (result : CallResult) (params : CopiedParams)
    (buffer : RpcBuffer) → (c : Coming p own progress) → HasEnded p own progress c result params
    → progress.call.buffer ≡ Some buffer → GoesOut p own progress
frees_so p own progress result params buffer c e has_one =
    let g : Group = c.comes.going.group in
    let last : GroupCall = c.comes.going.call in
    record {
      leaving = FreesBuffer buffer;
      leaves_so = ap (λ (f : CallPhase). leaving_in p.slot progress.call f) e.is
          ∙ ap (λ (o : Option RpcBuffer). option_map_or FreesBuffer o (Finishes result params)) has_one;
      told = reply.Free;
      tells = refl;
      opened = None;
      opens = opens_none p.about.members.realm p.notes progress.call progress.call.kind (FreesBuffer buffer) (λ other left no. absurd cc);
      numbering = kept_numbering p own progress c;
      numbers = c.comes.keeps.is;
      final = with_call g p.number (record last { buffer = false });
      goes = out_of p own progress (Ends result params e.told None) _ c e.own_is
          (ap (λ b. Some (told_at_end g p.number last result params b))
          (buffer_is progress.call last (Some buffer) c.comes.alike.buffers has_one));
      tied = stays_in p own progress (record progress.call { buffer = None }) (record last { buffer = false }) c
          (record {
            homes = c.comes.alike.homes;
            kinds = c.comes.alike.kinds;
            seen = c.comes.alike.seen;
            areas = c.comes.alike.areas;
            buffers = refl;
            phases = c.comes.alike.phases;
            flagged = c.comes.alike.flagged;
          })
          (λ was. was);
    }

-- the session that it has opened is the machine's
opens_same : (realm : Realm) (notes : Notes) (instances : NumberMap ℕ) (call : PendingCall) (own : GroupCall)
    (call_kind : CallKind) (result : CallResult) (params : CopiedParams) → AreMembers realm notes.sessions
    → HomesAlike notes.sessions instances call own call_kind
    → opened_in realm notes call call_kind (Finishes result params) ≡ opened_by call_kind own.session result
opens_same realm notes instances call own kind.Open result params members homes =
    ap (λ (o : Option ℕ). if result.result == success then o else None) (members call.session own.session homes.0)
opens_same realm notes instances call own (kind.Invoke func) result params members homes = refl
opens_same realm notes instances call own kind.Close result params members homes = refl
opens_same realm notes instances call own kind.Settled result params members homes = refl

-- it is told its result
finishes_so : (p : Place) (own : GroupCall) (progress : Progress) (result : CallResult) (params : CopiedParams)
    → (c : Coming p own progress) → HasEnded p own progress c result params → progress.call.buffer ≡ None
    → GoesOut p own progress
finishes_so p own progress result params c e has_none =
    let g : Group = c.comes.going.group in
    let last : GroupCall = c.comes.going.call in
    record {
      leaving = Finishes result params;
      leaves_so = ap (λ (f : CallPhase). leaving_in p.slot progress.call f) e.is
          ∙ ap (λ (o : Option RpcBuffer). option_map_or FreesBuffer o (Finishes result params)) has_none;
      told = ended result params;
      tells = refl;
      opened = opened_by last.kind last.session result;
      opens = opens_same p.about.members.realm p.notes p.instances progress.call last progress.call.kind result params
          c.comes.tied.named c.comes.alike.homes
          ∙ ap (λ k. opened_by k last.session result) c.comes.alike.kinds;
      numbering = slot_kept p.notes.numbering p.slot (Finishes result params);
      numbers =
          ap (λ (f : CallPhase). slot_kept
          (with_wake p.notes.numbering p.slot (wake_kept p.notes.numbering p.slot (wake_of f))) p.slot
          (Finishes result params)) e.is;
      final = record g { calls = remove g.calls p.number };
      goes = out_of p own progress (Ends result params e.told None) _ c e.own_is
          (ap (λ b. Some (told_at_end g p.number last result params b))
          (buffer_is progress.call last None c.comes.alike.buffers has_none));
      tied = call_goes p.about.members (names_at p) p.kernel.slots progress.tables g p.slot p.number c.before c.has c.there
          (idle p own progress c (λ works. subst IsAtWork e.own_is works) (λ waits. subst IsWaiting e.own_is waits))
          c.comes.tied;
    }

ended_so : (p : Place) (own : GroupCall) (progress : Progress) (result : CallResult) (params : CopiedParams)
    (buffer : Option RpcBuffer) → (c : Coming p own progress) → HasEnded p own progress c result params
    → progress.call.buffer ≡ buffer → GoesOut p own progress
ended_so p own progress result params None c e has_none = finishes_so p own progress result params c e has_none
ended_so p own progress result params (Some buffer) c e has_one = frees_so p own progress result params buffer c e has_one

-- ---- by its phase

same_end : (result answer : CallResult) (params remains : CopiedParams) (told shown : Bool) → result ≡ answer
    → params ≡ remains → told ≡ shown
    → CallPhase.Ends answer remains shown None ≡ Ends result params told None
same_end result answer params remains told shown results remain tolds =
    ap (λ (r : CallResult). Ends r remains shown None) (sym results)
    ∙ ap (λ (c : CopiedParams). Ends result c shown None) (sym remain)
    ∙ ap (λ b. Ends result params b None) (sym tolds)

-- bytes go with what one in this phase asks for
abbrev paid_in : CallPhase → Bool
paid_in (Asks job wanted payload) = has_payload wanted
paid_in _ = false

by_phase : (p : Place) (own : GroupCall) (progress : Progress) (phase own_phase : CallPhase)
    → (c : Coming p own progress) → progress.call.phase ≡ phase → c.comes.going.call.phase ≡ own_phase
    → PhasesAlike (get c.comes.keeps.wakes p.slot) progress.call.steps c.comes.going.call.steps phase own_phase
    → (leaving_of p.slot progress.call ≡ Interrupted → ⊥) → GoesOut p own progress
by_phase p own progress (Runs job) own_phase c is own_is alike out =
    absurd (out (ap (λ (f : CallPhase). leaving_in p.slot progress.call f) is))
by_phase p own progress (Asks job wanted payload) (Asks from asked bytes) c is own_is alike out =
    let request : Request = record { wanted = wanted; payload = payload } in
    request_so p own progress (record { request = request; wanted = asked; told = reply.Ask asked bytes })
    (Asks from asked bytes) (place_of progress.call request) c
    (ap (λ (f : CallPhase). leaving_in p.slot progress.call f) is)
    (ap (λ (f : CallPhase). request_reply (woken_at p progress.call) f) (is ∙ alike.1)) own_is refl
    (placed_alike progress.call c.comes.going.call request asked
    (area_out p own progress (Asks from asked bytes) c own_is tt) c.comes.alike.buffers (ap paid_in alike.1)) refl
by_phase p own progress (Waits params) (Waits copied) c is own_is alike out =
    let request : Request = plain_request (rpc.Sleep p.slot) in
    request_so p own progress (record { request = request; wanted = rpc.Sleep p.number; told = reply.Sleep })
    (Waits copied) (place_of progress.call request) c
    (ap (λ (f : CallPhase). leaving_in p.slot progress.call f) is)
    (ap (λ (f : CallPhase). request_reply (woken_at p progress.call) f) is) own_is refl
    (placed_alike progress.call c.comes.going.call request (rpc.Sleep p.number)
    (area_out p own progress (Waits copied) c own_is tt) c.comes.alike.buffers refl) refl
by_phase p own progress (Ends result params told (Some woken)) (Ends answer remains shown (Some other)) c is own_is alike
    out =
    let request : Request = plain_request (rpc.Wake woken) in
    request_so p own progress (record { request = request; wanted = rpc.Wake other; told = reply.Wake other })
    (Ends answer remains shown (Some other)) (place_of progress.call request) c
    (ap (λ (f : CallPhase). leaving_in p.slot progress.call f) is)
    (ap (λ (f : CallPhase). request_reply (woken_at p progress.call) f) is
    ∙ ap (λ (o : Option ℕ). option_map (λ number. reply.Wake number) o)
    (c.comes.keeps.number ∙ ap (λ (f : CallPhase). wake_of f) own_is)) own_is refl
    (placed_alike progress.call c.comes.going.call request (rpc.Wake other)
    (area_out p own progress (Ends answer remains shown (Some other)) c own_is tt) c.comes.alike.buffers refl) refl
by_phase p own progress (Ends result params told None) (Ends answer remains shown None) c is own_is alike out =
    ended_so p own progress result params progress.call.buffer c
    (record {
      told = told;
      is = is;
      own_is = own_is ∙ same_end result answer params remains told shown alike.0 alike.1 alike.2;
    }) refl
by_phase p own progress (Ends result params told None) (Ends answer remains shown (Some other)) c is own_is alike out =
    absurd alike.3
by_phase p own progress (Ends result params told (Some woken)) (Ends answer remains shown None) c is own_is alike out =
    absurd alike.3
by_phase p own progress (Asks job wanted payload) (Runs from) c is own_is alike out = absurd alike
by_phase p own progress (Asks job wanted payload) (Waits copied) c is own_is alike out = absurd alike
by_phase p own progress (Asks job wanted payload) (Ends answer remains shown woken) c is own_is alike out = absurd alike
by_phase p own progress (Waits params) (Runs from) c is own_is alike out = absurd alike
by_phase p own progress (Waits params) (Asks from asked bytes) c is own_is alike out = absurd alike
by_phase p own progress (Waits params) (Ends answer remains shown woken) c is own_is alike out = absurd alike
by_phase p own progress (Ends result params told wakes) (Runs from) c is own_is alike out = absurd alike
by_phase p own progress (Ends result params told wakes) (Asks from asked bytes) c is own_is alike out = absurd alike
by_phase p own progress (Ends result params told wakes) (Waits copied) c is own_is alike out = absurd alike

-- ---- the exit

same_call : (a b : PendingCall) → Some a ≡ Some b → a ≡ b
same_call a b e = cc

-- the call of a slot, and the machine's
pub found_there : (p : Place) (call : PendingCall) → get p.notes.numbering.in_slots p.slot ≡ Some p.number
    → call_at p.kernel.slots p.slot ≡ Some call → IsInOrder p.group → IsRising p.kernel.tables.sessions
    → Tied p.about.members (names_at p) p.kernel.slots p.kernel.tables p.group
    → (own : GroupCall) × OwnThere p call own
found_there p call has found order rising tied =
    let its = tied.calls.own p.slot p.number has in
    let same : its.call ≡ call = same_call its.call call (sym its.in_slot ∙ found) in (
      its.own,
      record {
        has = has;
        of_number = its.of_number;
        alike = subst (λ (c : PendingCall). CallsAlike p.notes.sessions p.instances
            (get p.notes.numbering.wakes p.slot) c its.own) same its.alike;
        tied = tied;
        order = order;
        rising = rising;
      },
    )

out_from : (p : Place) (visit : Visit) (held : ThreadSlot) (progress : Progress)
    → get p.notes.numbering.in_slots p.slot ≡ Some p.number → slice_get p.kernel.slots p.slot ≡ Some held
    → progress_held p.kernel.tables visit.steps held ≡ Some progress
    → (leaving_of p.slot progress.call ≡ Interrupted → ⊥) → progress.call.steps ≤ p.about.most → IsInOrder p.group
    → IsRising p.kernel.tables.sessions → Tied p.about.members (names_at p) p.kernel.slots p.kernel.tables p.group
    → GoesAlong p.about p.notes p.group (goes_out_from p.kernel visit p.slot progress).kernel
    (exit_noted p.about.members.realm p.notes p.slot progress.call p.number)
out_from p visit Free progress has there e out bound order rising tied = absurd cc
out_from p visit (Suspended client call) progress has there e out bound order rising tied = absurd cc
out_from p visit (Active worker call) progress has there e out bound order rising tied =
    let found = found_there p call has (ap (λ (o : Option ThreadSlot). option_and_then call_in o) there) order rising tied in
    let comes = comes_to p visit.steps call found.0 progress found.1 e out bound in
    let coming : Coming p found.0 progress = record {
      comes = comes;
      order = if_any_of (InOrderGoing p.number) (going_in p.about.most p.group found.0 found.0.phase) comes.going
          (going_so p.about.most p.group p.number found.0 found.0.phase order found.1.of_number refl) comes.goes;
      has = has;
      before = Active worker call;
      there = there;
    } in
    goes_along p visit found.0 progress found.1.of_number
    (by_phase p found.0 progress progress.call.phase comes.going.call.phase coming refl refl comes.alike.phases out)

pub own_exit : OwnExitsKeepTied
own_exit boot about kernel next cpu granted slot number came regs progress notes g inside has comes out rising order bound
    e at =
    let visit : Visit = record { cpu = cpu; regs = came; steps = granted } in
    let went = left boot kernel next cpu regs e in
    let p : Place = record {
      about = about;
      kernel = kernel;
      notes = notes;
      instances = at.instances;
      group = g;
      slot = slot;
      number = number;
      as_realm = at.as_realm;
    } in
    let goes : exit kernel cpu ≡ Some (goes_out_from kernel visit slot progress) =
    ap (λ (o : Option Processor). option_and_then (exit_of kernel cpu) o) inside
    ∙ ap (λ (o : Option Progress). option_map (goes_out_from kernel visit slot) o) comes in
    let gone : (goes_out_from kernel visit slot progress).kernel ≡ next =
    ap (λ (x : Exited). x.kernel) (same_exit (goes_out_from kernel visit slot progress) went.0 (sym goes ∙ went.1))
    ∙ went.2 in
    let along = option_and_then_some (progress_held kernel.tables granted) (slice_get kernel.slots slot) progress comes
    (λ held there onward. out_from p visit held progress has there onward out bound order rising at.tied) in
    let same : out_noted about.members.realm kernel notes cpu (slice_get kernel.processors cpu) ≡ exit_noted about.members.realm notes slot progress.call number =
    ap (λ (o : Option Processor). out_noted about.members.realm kernel notes cpu o) inside
    ∙ ap (λ (o : Option Progress). option_map_or (λ (q : Progress). option_map_or (exit_noted about.members.realm notes slot q.call)
    (get notes.numbering.in_slots slot) notes) o notes) comes
    ∙ ap (λ (o : Option ℕ). option_map_or (exit_noted about.members.realm notes slot progress.call) o notes) has in
    subst (λ (n : Notes). GoesAlong about notes g next n) (sym same)
    (subst (λ (k : Kernel). GoesAlong about notes g k (exit_noted about.members.realm notes slot progress.call number)) gone along)
  where
    same_exit : (a b : Exited) → Some a ≡ Some b → a ≡ b
    same_exit a b is = cc

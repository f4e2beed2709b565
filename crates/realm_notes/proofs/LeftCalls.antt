-- What is noted of a call that goes out, by what its slot was left with.
use Rattle.std.proofs.Common.{◌≡◌, ℕ, Bool, true, false, List, Option, Some, None, refl, ap, sym, subst, ◌∙◌}
use Rattle.std.specs.Prelude.{◌&&◌, ◌||◌, if◌then◌else◌, is_some, not}
use Rattle.std.specs.Option.{option_and_then, option_map, option_map_or}
use Rattle.kernel_model.specs.Exit.{slot_left}
use Rattle.kernel_model.specs.Kernel.{CallPhase, Runs, Asks, Waits, Ends, Free, PendingCall, Suspended}
use Rattle.kernel_model.specs.Leaving.{Leaving, Interrupted, WantsBuffer, Requests, FreesBuffer, Finishes, Request, leaving_in, leaving_of, plain_request}
use Rattle.kernel_state.specs.Calls.{IsCall, IsInPhase, woken_slot}
use Rattle.own_model.specs.Own as own
use Rattle.own_model.specs.Own.{Notes, Numbering, exit_noted, reply_of, request_reply, slot_kept, wake_kept, wake_of, with_reply, with_wake}
use Rattle.own_model.specs.declared.own_reply.OwnReply.{OwnReply}
use Rattle.own_model.specs.declared.own_reply.OwnReply.TheVariants as reply
use Rattle.rpc_cont.specs.declared.cont.Asked.{Asked}
use Rattle.rpc_cont.specs.declared.cont.Cont.{Cont}
use Rattle.rpc_cont.specs.declared.phase.Phase.{Phase}
use Rattle.rpc_cont.specs.declared.phase.Phase.TheVariants as phase
use Rattle.rpc_msgs.proofs.Places.{placed_somewhere}
use Rattle.rpc_msgs.specs.Place.{place_for}
use Rattle.rpc_msgs.specs.Request.{has_payload}
use Rattle.rpc_msgs.specs.declared.request_place.RequestPlace.{RequestPlace}
use Rattle.rpc_msgs.specs.declared.rpc.Rpc.TheVariants as rpc
use Rattle.rpc_msgs.specs.declared.rpc_buffer.RpcBuffer.{RpcBuffer}
use Rattle.realm_notes.specs.Noted.{HasFinished, IsLeft, ended_in}
use Rattle.realm_notes.specs.Numbers.{without_slot}
use Rattle.realm_notes.specs.Telling.{asked_reply, asks_with_payload, has_place, told_behind, reply_of_call, reply_of_phase, wake_as, wake_at}

-- ---- what a call goes out with, by its phase, its area and its buffer

-- what a call has for its requests
record Room : Type 0 where
  area : Option ℕ
  buffer : Option RpcBuffer

abbrev room_of : PendingCall → Room
room_of call = record { area = call.area; buffer = call.buffer }

abbrev place_in : Room → Request → Option RequestPlace
place_in room request = place_for room.area room.buffer request.wanted

abbrev asks_in : Option RequestPlace → Request → Leaving
asks_in place request = option_map_or (λ place. Requests place request) place WantsBuffer

abbrev asks_at : Room → Request → Leaving
asks_at room request = asks_in (place_in room request) request

abbrev leaving_at : ℕ → CallPhase → Room → Leaving
leaving_at slot (Runs job) room = Interrupted
leaving_at slot (Asks job wanted payload) room = asks_at room (record { wanted = wanted; payload = payload })
leaving_at slot (Waits params) room = asks_at room (plain_request (rpc.Sleep slot))
leaving_at slot (Ends result params told (Some woken)) room = asks_at room (plain_request (rpc.Wake woken))
leaving_at slot (Ends result params told None) room = option_map_or FreesBuffer room.buffer (Finishes result params)

leaving_so : (slot : ℕ) (call : PendingCall) (phase : CallPhase)
    → leaving_in slot call phase ≡ leaving_at slot phase (room_of call)
leaving_so slot call (Runs job) = refl
leaving_so slot call (Asks job wanted payload) = refl
leaving_so slot call (Waits params) = refl
leaving_so slot call (Ends result params told (Some woken)) = refl
leaving_so slot call (Ends result params told None) = refl

-- a call that asks stays in its slot as it is
asks_stays : (call : PendingCall) (place : Option RequestPlace) (request : Request)
    → slot_left call (asks_in place request) ≡ Suspended call.client call
asks_stays call None request = refl
asks_stays call (Some place) request = refl

asks_reply : (woken : Option ℕ) (phase : CallPhase) (place : Option RequestPlace) (request : Request)
    → reply_of woken phase (asks_in place request) ≡ (if is_some place then request_reply woken phase else Some reply.Alloc)
asks_reply woken phase None request = refl
asks_reply woken phase (Some place) request = refl

-- ---- what the slot is left with

same_left : (client owner : ℕ) (call left : PendingCall) → Suspended client call ≡ Suspended owner left → call ≡ left
same_left client owner call left e = cc

-- ---- how far a call as data has come

abbrev pub PhaseAs : Cont (List ℕ) → CallPhase → Type 0
PhaseAs cont (Runs job) = cont.phase ≡ phase.Runs
PhaseAs cont (Asks job wanted payload) =
    (cont.phase ≡ phase.Asks) × (cont.request ≡ Some (record { rpc = wanted; payload = payload }))
PhaseAs cont (Waits params) = cont.phase ≡ phase.Waits
PhaseAs cont (Ends result params told wakes) =
    (cont.phase ≡ phase.Ends) × (option_and_then (λ (asked : Asked). woken_slot asked.rpc) cont.request ≡ wakes)

pub phase_as : (cont : Cont (List ℕ)) (phase : CallPhase) → IsInPhase cont phase → PhaseAs cont phase
phase_as cont (Runs job) is = is.1.phase
phase_as cont (Asks job wanted payload) is = (is.0, is.1.1)
phase_as cont (Waits params) is = is.phase
phase_as cont (Ends result params told wakes) is = (is.phase, is.wakes)

-- ---- what is told

-- by its phase, and whether what the call as data asks for has a place
told_so : (cont : Cont (List ℕ)) (woken : Option ℕ) (at : Phase) (placed : Bool) → cont.phase ≡ at
    → has_place cont ≡ placed → reply_of_call cont woken ≡ reply_of_phase cont woken at placed
told_so cont woken at placed is has =
    ap (λ (p : Phase). reply_of_phase cont woken p (has_place cont)) is
    ∙ ap (λ (b : Bool). reply_of_phase cont woken at b) has

-- where it is told of what it asks for
asked_told : (cont : Cont (List ℕ)) (woken : Option ℕ) (placed : Bool)
    → reply_of_phase cont woken phase.Asks placed ≡ (if placed then option_map asked_reply cont.request else Some reply.Alloc)
asked_told cont woken true = refl
asked_told cont woken false = refl

waits_told : (cont : Cont (List ℕ)) (woken : Option ℕ) (placed : Bool)
    → reply_of_phase cont woken phase.Waits placed ≡ (if placed then Some reply.Sleep else Some reply.Alloc)
waits_told cont woken true = refl
waits_told cont woken false = refl

wakes_told_so : (placed : Bool) (woken : Option ℕ)
    → told_behind true placed woken ≡ (if placed then option_map (λ number. reply.Wake number) woken else Some reply.Alloc)
wakes_told_so true woken = refl
wakes_told_so false woken = refl

-- it has a place exactly where the call of the kernel has one for a request with bytes, or without
has_place_so : (cont : Cont (List ℕ)) (room : Room) (request : Request) → cont.area ≡ room.area → cont.buffer ≡ room.buffer
    → asks_with_payload cont.phase cont.request ≡ has_payload request.wanted
    → has_place cont ≡ is_some (place_in room request)
has_place_so cont room request areas buffers paid =
    ap (λ (o : Option RpcBuffer). is_some o || (is_some cont.area && not (asks_with_payload cont.phase cont.request))) buffers
    ∙ ap (λ (o : Option ℕ). is_some room.buffer || (is_some o && not (asks_with_payload cont.phase cont.request))) areas
    ∙ ap (λ (b : Bool). is_some room.buffer || (is_some room.area && not b)) paid
    ∙ sym (placed_somewhere room.area room.buffer request.wanted)

wakes_so : (cont : Cont (List ℕ)) (wakes : Option ℕ) → cont.phase ≡ phase.Ends
    → option_and_then (λ (asked : Asked). woken_slot asked.rpc) cont.request ≡ wakes → wake_as cont ≡ wakes
wakes_so cont wakes is has = ap (λ (p : Phase). wake_at p cont.request) is ∙ has

-- the reply of a call, where it was left so
abbrev TellsSo : ℕ → PendingCall → Cont (List ℕ) → Option ℕ → CallPhase → Room → Type 0
TellsSo slot call cont woken phase room =
    (left : PendingCall) → call.phase ≡ phase → room_of call ≡ room →
    slot_left call (leaving_at slot phase room) ≡ Suspended call.client left → IsCall cont left →
    reply_of woken phase (leaving_at slot phase room) ≡ reply_of_call cont woken

-- what is known of a call that stays as it is
record Stayed (cont : Cont (List ℕ)) (phase : CallPhase) (room : Room) : Type 0 where
  phases : PhaseAs cont phase
  areas : cont.area ≡ room.area
  buffers : cont.buffer ≡ room.buffer

stays_so : (call left : PendingCall) (cont : Cont (List ℕ)) (phase : CallPhase) (room : Room)
    → call.phase ≡ phase → room_of call ≡ room → Suspended call.client call ≡ Suspended call.client left → IsCall cont left
    → Stayed cont phase room
stays_so call left cont phase room is has e its =
    let here : IsCall cont call = subst (IsCall cont) (sym (same_left call.client call.client call left e)) its in
    record {
      phases = subst (PhaseAs cont) is (phase_as cont call.phase here.phase);
      areas = here.area ∙ ap (λ (r : Room). r.area) has;
      buffers = here.buffer ∙ ap (λ (r : Room). r.buffer) has;
    }

tells_so : (slot : ℕ) (call : PendingCall) (cont : Cont (List ℕ)) (woken : Option ℕ) (phase : CallPhase)
    (room : Room) → TellsSo slot call cont woken phase room
tells_so slot call cont woken (Runs job) room left is has e its =
    let so = stays_so call left cont (Runs job) room is has e its in
    sym (told_so cont woken phase.Runs (has_place cont) so.phases refl)
tells_so slot call cont woken (Asks job wanted payload) room left is has e its =
    let request : Request = record { wanted = wanted; payload = payload } in
    let place = place_in room request in
    let so = stays_so call left cont (Asks job wanted payload) room is has (sym (asks_stays call place request) ∙ e) its in
    let paid : asks_with_payload cont.phase cont.request ≡ has_payload wanted =
    ap (λ (p : Phase). asks_with_payload p cont.request) so.phases.0
    ∙ ap (λ (r : Option Asked). asks_with_payload phase.Asks r) so.phases.1 in
    asks_reply woken (Asks job wanted payload) place request
    ∙ sym (told_so cont woken phase.Asks (is_some place) so.phases.0
    (has_place_so cont room request so.areas so.buffers paid)
    ∙ asked_told cont woken (is_some place)
    ∙ ap (λ (r : Option Asked). if is_some place then option_map asked_reply r else Some reply.Alloc) so.phases.1)
tells_so slot call cont woken (Waits params) room left is has e its =
    let request : Request = plain_request (rpc.Sleep slot) in
    let place = place_in room request in
    let so = stays_so call left cont (Waits params) room is has (sym (asks_stays call place request) ∙ e) its in
    let paid : asks_with_payload cont.phase cont.request ≡ false =
    ap (λ (p : Phase). asks_with_payload p cont.request) so.phases in
    asks_reply woken (Waits params) place request
    ∙ sym (told_so cont woken phase.Waits (is_some place) so.phases
    (has_place_so cont room request so.areas so.buffers paid)
    ∙ waits_told cont woken (is_some place))
tells_so slot call cont woken (Ends result params told (Some wakes)) room left is has e its =
    let request : Request = plain_request (rpc.Wake wakes) in
    let place = place_in room request in
    let so = stays_so call left cont (Ends result params told (Some wakes)) room is has
    (sym (asks_stays call place request) ∙ e) its in
    let paid : asks_with_payload cont.phase cont.request ≡ false =
    ap (λ (p : Phase). asks_with_payload p cont.request) so.phases.0 in
    asks_reply woken (Ends result params told (Some wakes)) place request
    ∙ sym (told_so cont woken phase.Ends (is_some place) so.phases.0
    (has_place_so cont room request so.areas so.buffers paid)
    ∙ ap (λ (w : Option ℕ). told_behind (is_some w) (is_some place) woken) (wakes_so cont (Some wakes) so.phases.0 so.phases.1)
    ∙ wakes_told_so (is_some place) woken)
tells_so slot call cont woken (Ends result params told None) room left is has e its =
    frees_so room.buffer refl e
  where
    frees_so : (buffer : Option RpcBuffer) → room.buffer ≡ buffer
        → slot_left call (option_map_or FreesBuffer buffer (Finishes result params)) ≡ Suspended call.client left
        → reply_of woken (Ends result params told None) (option_map_or FreesBuffer buffer (Finishes result params))
        ≡ reply_of_call cont woken
    frees_so None same free = absurd cc
    frees_so (Some place) same free =
        let now : PendingCall = record call { buffer = None } in
        let here : IsCall cont now = subst (IsCall cont) (sym (same_left call.client call.client now left free)) its in
        let at = subst (PhaseAs cont) is (phase_as cont call.phase here.phase) in
        sym (told_so cont woken phase.Ends (has_place cont) at.0 refl
        ∙ ap (λ (w : Option ℕ). told_behind (is_some w) (has_place cont) woken) (wakes_so cont None at.0 at.1))

-- ---- whom it wakes

wakes_told : (cont : Cont (List ℕ)) (phase : CallPhase) → PhaseAs cont phase → wake_as cont ≡ wake_of phase
wakes_told cont (Runs job) is = ap (λ (p : Phase). wake_at p cont.request) is
wakes_told cont (Asks job wanted payload) is = ap (λ (p : Phase). wake_at p cont.request) is.0
wakes_told cont (Waits params) is = ap (λ (p : Phase). wake_at p cont.request) is
wakes_told cont (Ends result params told wakes) is = wakes_so cont wakes is.0 is.1

-- ---- a call that stays in its slot

left_phase : (slot : ℕ) (call left : PendingCall) (leaving : Leaving) → slot_left call leaving ≡ Suspended call.client left
    → left.phase ≡ call.phase
left_phase slot call left Interrupted e = ap (λ (c : PendingCall). c.phase) (sym (same_left call.client call.client call left e))
left_phase slot call left WantsBuffer e = ap (λ (c : PendingCall). c.phase) (sym (same_left call.client call.client call left e))
left_phase slot call left (Requests place request) e =
    ap (λ (c : PendingCall). c.phase) (sym (same_left call.client call.client call left e))
left_phase slot call left (FreesBuffer buffer) e =
    ap (λ (c : PendingCall). c.phase) (sym (same_left call.client call.client (record call { buffer = None }) left e))
left_phase slot call left (Finishes result params) e = absurd cc

kept_still : (numbers : Numbering) (slot : ℕ) (call left : PendingCall) (leaving : Leaving)
    → slot_left call leaving ≡ Suspended call.client left
    → slot_kept numbers slot leaving ≡ numbers
kept_still numbers slot call left Interrupted e = refl
kept_still numbers slot call left WantsBuffer e = refl
kept_still numbers slot call left (Requests place request) e = refl
kept_still numbers slot call left (FreesBuffer buffer) e = refl
kept_still numbers slot call left (Finishes result params) e = absurd cc

-- what is noted of it
abbrev pub left_noted : Notes → ℕ → ℕ → Option ℕ → Option OwnReply → Notes
left_noted notes slot number woken reply =
    record (option_map_or (with_reply number notes) reply notes) { numbering = with_wake notes.numbering slot woken }

pub noted_left : (notes : Notes) (slot number : ℕ) (call : PendingCall) (cont : Cont (List ℕ)) → IsLeft slot call cont
    → exit_noted notes slot call number ≡ left_noted notes slot number (wake_kept notes.numbering slot (wake_as cont))
    (reply_of_call cont (wake_kept notes.numbering slot (wake_as cont)))
noted_left notes slot number call cont is =
    let leaving : Leaving = leaving_of slot call in
    let phase = left_phase slot call is.left leaving is.in_slot in
    let wakes : wake_kept notes.numbering slot (wake_of call.phase) ≡ wake_kept notes.numbering slot (wake_as cont) =
    ap (wake_kept notes.numbering slot) (sym (wakes_told cont call.phase
    (subst (PhaseAs cont) phase (phase_as cont is.left.phase is.is.phase)))) in
    let at : leaving ≡ leaving_at slot call.phase (room_of call) = leaving_so slot call call.phase in
    let in_slot = subst (λ (l : Leaving). slot_left call l ≡ Suspended call.client is.left) at is.in_slot in
    let told : (woken : Option ℕ) → reply_of woken call.phase leaving ≡ reply_of_call cont woken =
    λ woken. ap (reply_of woken call.phase) at
    ∙ tells_so slot call cont woken call.phase (room_of call) is.left refl refl in_slot is.is in
    ap (λ (w : Option ℕ). (let after = option_map_or (with_reply number notes) (reply_of w call.phase leaving) notes in
    record after { numbering = slot_kept (with_wake notes.numbering slot w) slot leaving })) wakes
    ∙ ap (λ (numbers : Numbering). (let after = option_map_or (with_reply number notes)
    (reply_of (wake_kept notes.numbering slot (wake_as cont)) call.phase leaving) notes in
    record after { numbering = numbers }))
    (kept_still (with_wake notes.numbering slot (wake_kept notes.numbering slot (wake_as cont))) slot call is.left leaving
    is.in_slot)
    ∙ ap (λ (r : Option OwnReply). left_noted notes slot number (wake_kept notes.numbering slot (wake_as cont)) r)
    (told (wake_kept notes.numbering slot (wake_as cont)))

-- ---- a call that has finished

-- what is noted of one that goes out so
abbrev noted_at : Notes → ℕ → ℕ → CallPhase → Leaving → Notes
noted_at notes slot number phase leaving =
    let woken = wake_kept notes.numbering slot (wake_of phase) in
    let after = option_map_or (with_reply number notes) (reply_of woken phase leaving) notes in
    record after { numbering = slot_kept (with_wake notes.numbering slot woken) slot leaving }

-- one that asks doesn't leave its slot
asks_full : (call : PendingCall) (place : Option RequestPlace) (request : Request)
    → slot_left call (asks_in place request) ≡ Free → ⊥
asks_full call place request e = let no : Suspended call.client call ≡ Free = sym (asks_stays call place request) ∙ e in cc

ends_free : (notes : Notes) (slot number : ℕ) (call : PendingCall) (told : OwnReply) (phase : CallPhase) (room : Room)
    → slot_left call (leaving_at slot phase room) ≡ Free → ended_in phase ≡ Some told
    → noted_at notes slot number phase (leaving_at slot phase room)
    ≡ record (with_reply number notes told) { numbering = without_slot notes.numbering slot }
ends_free notes slot number call told (Runs job) room e is = absurd cc
ends_free notes slot number call told (Asks job wanted payload) room e is = absurd (asks_full call _ _ e)
ends_free notes slot number call told (Waits params) room e is = absurd (asks_full call _ _ e)
ends_free notes slot number call told (Ends result params shown (Some wakes)) room e is = absurd (asks_full call _ _ e)
ends_free notes slot number call told (Ends result params shown None) room e is = by_buffer room.buffer e
  where
    by_buffer : (buffer : Option RpcBuffer)
        → slot_left call (option_map_or FreesBuffer buffer (Finishes result params)) ≡ Free
        → noted_at notes slot number (Ends result params shown None) (option_map_or FreesBuffer buffer (Finishes result params))
        ≡ record (with_reply number notes told) { numbering = without_slot notes.numbering slot }
    by_buffer (Some place) free = absurd cc
    by_buffer None free =
        let same : own.ended result params ≡ told = cc in
        ap (λ (r : OwnReply). record (with_reply number notes r) { numbering = without_slot notes.numbering slot }) same

pub noted_finished : (notes : Notes) (slot number : ℕ) (call : PendingCall) (told : OwnReply) → HasFinished slot call told
    → exit_noted notes slot call number
    ≡ record (with_reply number notes told) { numbering = without_slot notes.numbering slot }
noted_finished notes slot number call told is =
    let at : leaving_of slot call ≡ leaving_at slot call.phase (room_of call) = leaving_so slot call call.phase in
    ap (noted_at notes slot number call.phase) at
    ∙ ends_free notes slot number call told call.phase (room_of call)
    (subst (λ (l : Leaving). slot_left call l ≡ Free) at is.free) is.told

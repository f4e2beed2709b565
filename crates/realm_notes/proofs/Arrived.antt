-- What is noted of an entry that has come into a slot, by what its arrival said.
use Rattle.std.proofs.Common.{◌≡◌, ℕ, ◌==◌, Bool, true, false, List, [], ◌∷◌, ◌++◌, Option, Some, None, refl, ap, sym, ◌∙◌}
use Rattle.std.specs.Prelude.{◌&&◌, not, if◌then◌else◌}
use Rattle.std.specs.Option.{option_map_or, option_or}
use Rattle.group_model.specs.declared.group_event.GroupEvent.{GroupEvent}
use Rattle.group_model.specs.declared.group_event.GroupEvent.TheVariants.{Seen}
use Rattle.job_model.specs.declared.call_kind.CallKind.{CallKind}
use Rattle.job_model.specs.declared.call_kind.CallKind.TheVariants as kind
use Rattle.kernel_model.specs.Given.{Given}
use Rattle.kernel_model.specs.Kernel.{CallPhase, Runs, Asks, Waits, Ends, Kernel, PendingCall, Tables, Visit}
use Rattle.kernel_model.specs.Leaving.{Leaving, Interrupted, WantsBuffer, Requests, FreesBuffer, Finishes, Request, leaving_in, leaving_of, place_of, plain_request}
use Rattle.kernel_state.specs.Calls.{IsCall}
use Rattle.kernel_state.specs.Work.{IsCarriedAs}
use Rattle.kernel_state.specs.declared.carried.Carried.{Carried}
use Rattle.kernel_state.specs.declared.carried.Carried.TheVariants.{Nothing, Resting, Running}
use Rattle.ns_ram.specs.declared.read.Read.{Read}
use Rattle.own_model.specs.Own.{Entering, input_of, next_in}
use Rattle.realm_model.specs.Reading.{Notes, Watched, back_noted, call_noted, numbered, resume_noted, room_noted, seen_noted, uuid_by, with_event}
use Rattle.realm_model.specs.Realm.{AllSessions, OneSession, Realm}
use Rattle.realm_model.specs.declared.realm_event.RealmEvent.{RealmEvent}
use Rattle.realm_notes.proofs.LeftCalls.{PhaseAs, phase_as}
use Rattle.realm_notes.specs.Arriving.{IsNew, IsNothing, IsResumed, Watch, input_at, input_then}
use Rattle.realm_notes.specs.Noted.{has_entered, with_input, with_resumed, with_room, with_seen, with_session_if}
use Rattle.realm_notes.specs.Realms.{counted, counts, is_at_once, is_in_session, is_not_open}
use Rattle.realm_notes.specs.declared.arriving.NewEvent.{NewEvent}
use Rattle.realm_notes.specs.declared.arriving.Resumed.{Resumed}
use Rattle.rpc_cont.specs.declared.cont.Cont.{Cont}
use Rattle.rpc_cont.specs.declared.phase.Phase.{Phase}
use Rattle.rpc_msgs.specs.declared.request_place.RequestPlace.{RequestPlace}
use Rattle.rpc_msgs.specs.declared.rpc.Rpc.TheVariants as rpc
use Rattle.rpc_msgs.specs.declared.rpc_buffer.RpcBuffer.{RpcBuffer}

-- ---- new calls

runs_at_once : (call_kind : CallKind) (phase : CallPhase) (job : _) → phase ≡ Runs job → is_at_once call_kind phase ≡ true
runs_at_once kind.Open phase job is = ap (is_at_once kind.Open) is
runs_at_once (kind.Invoke func) phase job is = refl
runs_at_once kind.Close phase job is = refl
runs_at_once kind.Settled phase job is = refl

-- a call that rests
abbrev Rests : CallPhase → Type 0
Rests (Runs job) = ⊥
Rests _ = Unit {0}

rests_then : (call_kind : CallKind) (phase : CallPhase) → Rests phase → is_at_once call_kind phase ≡ is_not_open call_kind
rests_then kind.Open (Runs job) rests = absurd rests
rests_then kind.Open (Asks job wanted payload) rests = refl
rests_then kind.Open (Waits params) rests = refl
rests_then kind.Open (Ends result params told wakes) rests = refl
rests_then (kind.Invoke func) phase rests = refl
rests_then kind.Close phase rests = refl
rests_then kind.Settled phase rests = refl

true_and : (a b : Bool) → b ≡ true → (a && b) ≡ a
true_and true b is = is
true_and false b is = refl

resting_counts : (session : ℕ) (cont : Cont (List ℕ)) (call : PendingCall) (phase : CallPhase) → Rests phase → IsCall cont call
    → ((call.session == session) && is_at_once call.kind phase) ≡ ((cont.session == session) && is_not_open cont.kind)
resting_counts session cont call phase rests is =
    ap (λ (b : Bool). (call.session == session) && b) (rests_then call.kind phase rests)
    ∙ ap (λ n. (n == session) && is_not_open call.kind) (sym is.session)
    ∙ ap (λ (k : CallKind). (cont.session == session) && is_not_open k) (sym is.kind)

counted_by : (session : ℕ) (carried : Carried) (call : PendingCall) (phase : CallPhase) → call.phase ≡ phase
    → IsCarriedAs carried call phase
    → ((call.session == session) && is_at_once call.kind call.phase) ≡ is_in_session session carried
counted_by session (Running cont) call (Runs job) at is =
    true_and (call.session == session) (is_at_once call.kind call.phase) (runs_at_once call.kind call.phase job at)
    ∙ ap (λ n. n == session) (sym is.session)
counted_by session (Resting cont) call (Asks job wanted payload) at is =
    ap (λ (p : CallPhase). (call.session == session) && is_at_once call.kind p) at
    ∙ resting_counts session cont.value call (Asks job wanted payload) tt is
counted_by session (Resting cont) call (Waits params) at is =
    ap (λ (p : CallPhase). (call.session == session) && is_at_once call.kind p) at
    ∙ resting_counts session cont.value call (Waits params) tt is
counted_by session (Resting cont) call (Ends result params told wakes) at is =
    ap (λ (p : CallPhase). (call.session == session) && is_at_once call.kind p) at
    ∙ resting_counts session cont.value call (Ends result params told wakes) tt is
counted_by session Nothing call (Runs job) at is = absurd is
counted_by session Nothing call (Asks job wanted payload) at is = absurd is
counted_by session Nothing call (Waits params) at is = absurd is
counted_by session Nothing call (Ends result params told wakes) at is = absurd is
counted_by session (Resting cont) call (Runs job) at is = absurd is
counted_by session (Running cont) call (Asks job wanted payload) at is = absurd is
counted_by session (Running cont) call (Waits params) at is = absurd is
counted_by session (Running cont) call (Ends result params told wakes) at is = absurd is

-- by the call that a processor carries
counted_so : (realm : Realm) (carried : Carried) (call : PendingCall) (came : Option GroupEvent) → IsCarriedAs carried call call.phase
    → counted realm call came ≡ (if counts realm carried then came else None)
counted_so (AllSessions app) carried call came carries = refl
counted_so (OneSession member) carried call came carries =
    ap (λ (b : Bool). if b then came else None) (counted_by member carried call call.phase refl carries)

module _ (w : Watch) (slot : ℕ) (tables : Tables) (call : PendingCall) (carried : Carried)
    (carries : IsCarriedAs carried call call.phase) where
  noted_by : (came : NewEvent) (is : IsNew w tables slot call came)
      → call_noted w.realm tables w.noted slot call
      ≡ option_map_or (numbered w.noted slot call) (if counts w.realm carried then Some is.event else None) w.noted
  noted_by came is =
      ap (λ (o : Option GroupEvent). option_map_or (numbered w.noted slot call) o w.noted)
      (is.counts ∙ counted_so w.realm carried call (Some is.event) carries)

  -- one that counts
  pub noted_entered : (came : NewEvent) → IsNew w tables slot call came → counts w.realm carried ≡ true
      → call_noted w.realm tables w.noted slot call ≡ has_entered w.noted slot call.session came
  noted_entered came is so =
      noted_by came is
      ∙ ap (λ (b : Bool). option_map_or (numbered w.noted slot call) (if b then Some is.event else None) w.noted) so
      ∙ ap (λ (n : Notes). record n { uuid = uuid_now; numbering = next_in w.noted.numbering slot }) (is.sessions (with_event w.noted is.event))
      ∙ ap (λ (u : Option (List ℕ)). record (with_session_if came.gets (with_event w.noted is.event) call.session) {
        uuid = u;
        numbering = next_in w.noted.numbering slot;
      }) is.names
      ∙ ap (λ (e : RealmEvent). (let listed : Notes = record w.noted { log = w.noted.log ++ (e, None) ∷ [] } in
      record (with_session_if came.gets listed call.session) {
        uuid = option_or came.opens w.noted.uuid;
        numbering = next_in w.noted.numbering slot;
      })) (sym is.is)
    where
      uuid_now : Option (List ℕ)
      uuid_now = uuid_by is.event call w.noted

  -- one that doesn't
  pub noted_uncounted : (came : NewEvent) → IsNew w tables slot call came → counts w.realm carried ≡ false
      → call_noted w.realm tables w.noted slot call ≡ w.noted
  noted_uncounted came is so =
      noted_by came is
      ∙ ap (λ (b : Bool). option_map_or (numbered w.noted slot call) (if b then Some is.event else None) w.noted) so

-- one that is no event of the realm
pub noted_nothing : (w : Watch) (slot : ℕ) (tables : Tables) (call : PendingCall) → IsNothing w tables slot call
    → call_noted w.realm tables w.noted slot call ≡ w.noted
noted_nothing w slot tables call is = ap (λ (o : Option GroupEvent). option_map_or (numbered w.noted slot call) o w.noted) is.none

-- ---- calls that come back

seen_by : (notes : Notes) (number steps : ℕ) (test : Bool)
    → with_seen notes number (if test then Some steps else None) ≡ (if test then with_event notes (Seen number steps) else notes)
seen_by notes number steps true = refl
seen_by notes number steps false = refl

given_by : (notes : Notes) (number : ℕ) (leaving : Leaving) (given : Given)
    → with_input notes number (input_then leaving given) ≡ back_noted notes number leaving given
given_by notes number Interrupted given = refl
given_by notes number WantsBuffer given = refl
given_by notes number (Requests place request) given = refl
given_by notes number (FreesBuffer buffer) given = refl
given_by notes number (Finishes result params) given = refl

module _ (w : Watch) (next : Kernel) (visit : Visit) (reads : List Read) (notes : Notes) (number slot : ℕ) (now : PendingCall)
    (came : Resumed) (is : IsResumed w visit.regs reads slot now came) where
  abbrev watched : Watched
  watched =
      let entering : Entering = record { kernel = w.kernel; next = next; visit = visit; reads = reads } in
      record { boot = w.boot; realm = w.realm; entering = entering }

  abbrev before : PendingCall
  before = is.back.before

  abbrev seen : Notes
  seen = seen_noted notes number before now

  abbrev found : Notes
  found = room_noted watched seen number before

  seen_so : with_seen notes number came.back.seen ≡ seen
  seen_so = ap (with_seen notes number) is.back.seen ∙ seen_by notes number before.steps (now.seen && not before.seen)

  found_so : with_room (with_seen notes number came.back.seen) number came.room ≡ found
  found_so = ap (λ (n : Notes). with_room n number came.room) seen_so ∙ ap (with_room seen number) is.room

  pub resumed_so : resume_noted watched slot before now notes number ≡ with_resumed notes number came
  resumed_so =
      ap (λ (o : Option Given). option_map_or (back_noted found number (leaving_of slot before)) o found) is.back.reads_it
      ∙ sym (given_by found number (leaving_of slot before) is.back.given)
      ∙ ap (with_input found number) (sym is.back.input)
      ∙ ap (λ (n : Notes). with_input n number came.back.input) (sym found_so)

-- ---- what a call was left with

asks_input : (o : Option RequestPlace) (request : Request) (given : Given)
    → input_then (option_map_or (λ place. Requests place request) o WantsBuffer) given ≡ Some (input_of given)
asks_input None request given = refl
asks_input (Some place) request given = refl

ends_input : (o : Option RpcBuffer) (last : Leaving) (given : Given) → input_then last given ≡ Some (input_of given)
    → input_then (option_map_or FreesBuffer o last) given ≡ Some (input_of given)
ends_input None last given is = is
ends_input (Some place) last given is = refl

input_in : (slot : ℕ) (cont : Cont (List ℕ)) (left : PendingCall) (given : Given) (at : CallPhase) → PhaseAs cont at
    → input_then (leaving_in slot left at) given ≡ input_at cont.phase given
input_in slot cont left given (Runs job) is = sym (ap (λ (p : Phase). input_at p given) is)
input_in slot cont left given (Asks job wanted payload) is =
    asks_input (place_of left (record { wanted = wanted; payload = payload })) _ given ∙ sym (ap (λ (p : Phase). input_at p given) is.0)
input_in slot cont left given (Waits params) is =
    asks_input (place_of left (plain_request (rpc.Sleep slot))) _ given ∙ sym (ap (λ (p : Phase). input_at p given) is)
input_in slot cont left given (Ends result params told (Some woken)) is =
    asks_input (place_of left (plain_request (rpc.Wake woken))) _ given ∙ sym (ap (λ (p : Phase). input_at p given) is.0)
input_in slot cont left given (Ends result params told None) is =
    ends_input left.buffer (Finishes result params) given refl ∙ sym (ap (λ (p : Phase). input_at p given) is.0)

pub input_is : (slot : ℕ) (cont : Cont (List ℕ)) (left : PendingCall) (given : Given) → IsCall cont left
    → input_at cont.phase given ≡ input_then (leaving_of slot left) given
input_is slot cont left given is =
    sym (input_in slot cont left given left.phase (phase_as cont left.phase is.phase))

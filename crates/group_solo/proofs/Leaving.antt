-- What a call that goes out leaves.
use Rattle.std.proofs.Common.{◌≡◌, ℕ, Bool, true, false, Option, Some, None, refl, sym, ap, subst, ◌∙◌}
use Rattle.std.specs.Prelude.{◌&&◌, ◌||◌, not, if◌then◌else◌, is_some, slice_get, slice_set}
use Rattle.std.specs.Global.{Box}
use Rattle.std.specs.Option.{option_and_then}
use Rattle.base.specs.NumberMap.{get, remove}
use Rattle.group_model.specs.Group.{Answered, Going, Group, GroupCall, asks, goes_out_in, leaves, opened_by, plain, with_call}
use Rattle.group_model.specs.declared.group_reply.GroupReply.{GroupReply}
use Rattle.job_model.specs.declared.call_kind.CallKind.{CallKind}
use Rattle.kernel_model.specs.Kernel.{CallPhase, Runs, Asks, Waits, Ends}
use Rattle.kernel_state.specs.Calls.{HasEnded, IsInPhase}
use Rattle.kernel_state.proofs.CallPhases.{relabelled}
use Rattle.own_model.proofs.InOrder.{by_numbers}
use Rattle.own_model.proofs.Maps.{get-remove-other, get-remove-same}
use Rattle.own_model.specs.Own.{ended}
use Rattle.own_model.specs.declared.own_reply.OwnReply.{OwnReply}
use Rattle.own_model.specs.declared.own_reply.OwnReply.TheVariants as reply
use Rattle.rpc_cont.specs.Conts.{kept_params}
use Rattle.rpc_msgs.specs.Request.{has_payload}
use Rattle.rpc_msgs.specs.declared.rpc.Rpc.{Rpc}
use Rattle.rpc_msgs.specs.declared.rpc.Rpc.TheVariants as rpc
use Rattle.solo.specs.Short.{AreShort}
use Rattle.solo.specs.GoingOut.{Ending, asked_in, asks_with_payload, phase_of, placed_or_alloc}
use Rattle.group_solo.proofs.Putting.{aside, comes_with, found_call, put_back, was_there}
use Rattle.group_solo.specs.Calls.{IsGroupCall}
use Rattle.group_solo.specs.GoingOut.{IsGoing}
use Rattle.group_solo.specs.Standing.{IsAside, IsCallAt, StandsFor}
use Rattle.group_solo.specs.declared.group.GroupSolo.{GroupSolo}
use Rattle.group_solo.specs.declared.kept_call.KeptCall.{KeptCall}
use Rattle.ta_params.specs.declared.call_result.CallResult.{CallResult}

-- a call that may be there
abbrev Kept : Type 0
Kept = Option (Box KeptCall)

-- ---- what it asks for

pair_is : (first second : Answered) → Some first ≡ Some second → (first.0 ≡ second.0) × (first.1 ≡ second.1)
pair_is first second e = let same : first ≡ second = cc in (ap (λ (a : Answered). a.0) same, ap (λ (a : Answered). a.1) same)

-- the call with what is told of it
abbrev AsksSo : (g next : Group) (number : ℕ) (own : GroupCall) (told : Option GroupReply) (wanted : OwnReply) → Type 0
AsksSo g next number own told wanted =
    (with_call g number own ≡ next) × (Some (plain (placed_or_alloc own.area own.buffer wanted)) ≡ told)

asks_this : (g next : Group) (number : ℕ) (own : GroupCall) (told : Option GroupReply) (request : Rpc) (wanted asked : OwnReply) → asked ≡ wanted →
    has_payload request ≡ asks_with_payload asked → Some (asks g number own request asked) ≡ Some (next, told) → AsksSo g next number own told wanted
asks_this g next number own told request wanted asked same paid e =
    let both = pair_is (asks g number own request asked) (next, told) e in (
      both.0,
      ap (λ (r : OwnReply). Some (plain (placed_or_alloc own.area own.buffer r))) (sym same)
          ∙ ap (λ (b : Bool). Some (plain (if own.buffer || (own.area && not b) then asked else reply.Alloc))) (sym paid)
          ∙ both.1,
    )

-- a call that asks for something
pub asks_out : (g next : Group) (number : ℕ) (own : GroupCall) (told : Option GroupReply) (at : CallPhase) (wanted : OwnReply) → Some wanted ≡ asked_in at →
    goes_out_in g number own at ≡ Some (next, told) → AsksSo g next number own told wanted
asks_out g next number own told (Runs job) wanted is e = absurd cc
asks_out g next number own told (Asks job request payload) wanted is e = asks_this g next number own told request wanted (reply.Ask request payload) (cc) refl e
asks_out g next number own told (Waits params) wanted is e = asks_this g next number own told (rpc.Sleep number) wanted reply.Sleep (cc) refl e
asks_out g next number own told (Ends result params was (Some woken)) wanted is e = asks_this g next number own told (rpc.Wake woken) wanted (reply.Wake woken) (cc) refl e
asks_out g next number own told (Ends result params was None) wanted is e = absurd cc

-- one that asks for nothing more has ended
pub record HasLeft (g next : Group) (number : ℕ) (own : GroupCall) (told : Option GroupReply) (at : CallPhase) : Type 0 where
  pub ends : Ending
  pub is : at ≡ phase_of ends
  pub goes : leaves g number own ends.result ends.params ≡ (next, told)

pub leaves_out : (g next : Group) (number : ℕ) (own : GroupCall) (told : Option GroupReply) (at : CallPhase) → None ≡ asked_in at →
    goes_out_in g number own at ≡ Some (next, told) → HasLeft g next number own told at
leaves_out g next number own told (Runs job) none e = absurd cc
leaves_out g next number own told (Asks job request payload) none e = absurd cc
leaves_out g next number own told (Waits params) none e = absurd cc
leaves_out g next number own told (Ends result params was (Some woken)) none e = absurd cc
leaves_out g next number own told (Ends result params was None) none e =
    record { ends = record { result = result; params = params; was_told = was }; is = refl; goes = cc }

-- ---- it is put back

-- as it is
pub put_same : (s new : GroupSolo) (g next : Group) (number : ℕ) (kept : Box KeptCall) (own : GroupCall) → IsAside s number g → IsGroupCall kept.value own →
    with_call g number own ≡ next → new ≡ record s { calls = new.calls } → new.calls.items ≡ slice_set s.calls.items number (Some kept) → StandsFor new next
put_same s new g next number kept own aside is same stays after =
    put_back s s new g next number kept aside refl
    (comes_with s g next number kept.value aside.beside (record { call = own; is = is; has = sym same })) stays after

-- ---- it leaves

-- without its buffer
unbuffered : (old new : KeptCall) (own : GroupCall) → new ≡ record old { cont = record old.cont { buffer = None } } → IsGroupCall old own →
    IsGroupCall new (record own { buffer = false })
unbuffered old new own becomes is =
    subst (λ (k : KeptCall). IsGroupCall k (record own { buffer = false })) (sym becomes) (record {
      alone = record {
        kind = is.alone.kind;
        seen = is.alone.seen;
        steps = is.alone.steps;
        area = is.alone.area;
        buffer = refl;
        phase = relabelled old.cont (record { steps = old.cont.steps; buffer = None }) own.phase is.alone.phase;
      };
      session = is.session;
      instance = is.instance;
      room = is.room;
    })

-- what is told of its end
abbrev told_end : GroupCall → CallResult → OwnReply → GroupReply
told_end own result told = record { reply = told; opened = opened_by own.kind own.session result }

abbrev leaves_by : Bool → Group → ℕ → GroupCall → GroupReply → Answered
leaves_by has g number own told =
    if has then (with_call g number (record own { buffer = false }), Some (plain reply.Free)) else (record g { calls = remove g.calls number }, Some told)

leaves_with : (g : Group) (number : ℕ) (own : GroupCall) (ends : Ending) (after : Answered) (has : Bool) → has ≡ own.buffer →
    leaves g number own ends.result ends.params ≡ after → leaves_by has g number own (told_end own ends.result (ended ends.result ends.params)) ≡ after
leaves_with g number own ends after has same e =
    ap (λ (b : Bool). leaves_by b g number own (told_end own ends.result (ended ends.result ends.params))) same ∙ e

-- it gives its buffer back
pub frees_so : (s new : GroupSolo) (g next : Group) (number : ℕ) (old : KeptCall) (kept : Box KeptCall) (own : GroupCall) (told : Option GroupReply) (ends : Ending) →
    IsAside s number g → IsGroupCall old own → is_some old.cont.buffer ≡ true → kept.value ≡ record old { cont = record old.cont { buffer = None } } →
    leaves g number own ends.result ends.params ≡ (next, told) →
    new ≡ record s { calls = new.calls } → new.calls.items ≡ slice_set s.calls.items number (Some kept) → (Some (plain reply.Free) ≡ told) × StandsFor new next
frees_so s new g next number old kept own told ends aside is has becomes e stays after =
    let so = leaves_with g number own ends (next, told) true (sym has ∙ is.alone.buffer) e in (
      ap (λ (a : Answered). a.1) so,
      put_same s new g next number kept (record own { buffer = false }) aside (unbuffered old kept.value own becomes is) (ap (λ (a : Answered). a.0) so) stays after,
    )

-- it is there no more
gone : (s : GroupSolo) (g : Group) (number : ℕ) → IsAside s number g → StandsFor s (record g { calls = remove g.calls number })
gone s g number aside = record {
  beside = aside.beside;
  calls = λ other. by_numbers other number (λ e. here other e) (λ apart. there other apart);
}
  where
    stands_at : IsCallAt (slice_get s.calls.items number) (get (remove g.calls number) number)
    stands_at =
        subst (λ (f : Option Kept). IsCallAt f (get (remove g.calls number) number)) (sym aside.out)
        (subst (λ (o : Option GroupCall). IsCallAt (Some None) o) (sym (get-remove-same g.calls number)) tt)

    here : (other : ℕ) → other ≡ number → IsCallAt (slice_get s.calls.items other) (get (remove g.calls number) other)
    here other e = subst (λ (n : ℕ). IsCallAt (slice_get s.calls.items n) (get (remove g.calls number) n)) (sym e) stands_at

    there : (other : ℕ) → (other ≡ number → ⊥) → IsCallAt (slice_get s.calls.items other) (get (remove g.calls number) other)
    there other apart =
        subst (λ (o : Option GroupCall). IsCallAt (slice_get s.calls.items other) o) (sym (get-remove-other g.calls number other (λ e. apart (sym e))))
        (aside.others other apart)

-- its result is told
pub told_so : (longest : ℕ) (s : GroupSolo) (g next : Group) (number : ℕ) (kept : KeptCall) (own : GroupCall) (told : Option GroupReply) (ends : Ending)
    (answer : OwnReply) (opened : Option ℕ) →
    IsAside s number g → IsGroupCall kept own → own.phase ≡ phase_of ends → AreShort longest ends.params → is_some kept.cont.buffer ≡ false →
    (AreShort longest (kept_params kept.cont.params) → answer ≡ ended kept.cont.result (kept_params kept.cont.params)) →
    opened ≡ opened_by kept.cont.kind kept.session kept.cont.result →
    leaves g number own ends.result ends.params ≡ (next, told) → (Some (record { reply = answer; opened = opened }) ≡ told) × StandsFor s next
told_so longest s g next number kept own told ends answer opened aside is at short none says opens e =
    let so = leaves_with g number own ends (next, told) false (sym none ∙ is.alone.buffer) e in
    let here : HasEnded kept.cont ends.result ends.params ends.was_told None = subst (IsInPhase kept.cont) at is.alone.phase in
    let reply_is : answer ≡ ended ends.result ends.params =
    says (subst (AreShort longest) (sym here.params) short)
    ∙ ap (λ (r : CallResult). ended r (kept_params kept.cont.params)) here.result
    ∙ ap (ended ends.result) here.params in
    let opened_is : opened ≡ opened_by own.kind own.session ends.result =
    opens ∙ ap (λ (k : CallKind). opened_by k kept.session kept.cont.result) is.alone.kind
    ∙ ap (λ (n : ℕ). opened_by own.kind n kept.cont.result) is.session
    ∙ ap (opened_by own.kind own.session) here.result in (
      ap (λ (r : OwnReply). Some (record { reply = r; opened = opened })) reply_is
          ∙ ap (λ (o : Option ℕ). Some (record { reply = ended ends.result ends.params; opened = o })) opened_is
          ∙ ap (λ (a : Answered). a.1) so,
      subst (StandsFor s) (ap (λ (a : Answered). a.0) so) (gone s g number aside),
    )

-- ---- the call while it goes out

-- the others stand as they did
pub still_aside : (s now : GroupSolo) (before : Group) (number : ℕ) (kept : KeptCall) (going : Going) → IsAside s number before → now.calls ≡ s.calls →
    IsGoing now kept before going → IsAside now number going.group
still_aside s now before number kept going aside same is = record {
  beside = is.beside;
  out = ap (λ c. slice_get c.items number) same ∙ aside.out;
  others = λ other apart.
      subst (λ (f : Option Kept). IsCallAt f (get going.group.calls other)) (sym (ap (λ c. slice_get c.items other) same))
      (subst (λ m. IsCallAt (slice_get s.calls.items other) (get m other)) (sym is.calls) (aside.others other apart));
}

-- the call that is taken out, and the others
pub taken_aside : (s taken : GroupSolo) (g : Group) (number : ℕ) (kept : Box KeptCall) (call : GroupCall) → StandsFor s g → get g.calls number ≡ Some call →
    Some kept ≡ option_and_then (λ (call : Kept). call) (slice_get s.calls.items number) → taken ≡ record s { calls = taken.calls } →
    taken.calls.items ≡ slice_set s.calls.items number None → IsGroupCall kept.value call × IsAside taken number g
taken_aside s taken g number kept call stands there found stays out =
    let was : slice_get s.calls.items number ≡ Some (Some kept) = was_there (slice_get s.calls.items number) kept (sym found) in
    (found_call s g number kept call stands was there, aside s taken g number kept stands was stays out)

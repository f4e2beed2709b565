-- What a call that goes out leaves.
use Rattle.std.proofs.Common.{◌≡◌, ℕ, Bool, true, false, List, Option, Some, None, refl, sym, ap, subst, ◌∙◌}
use Rattle.std.specs.Prelude.{◌&&◌, ◌||◌, not, if◌then◌else◌, is_some, slice_get, slice_set}
use Rattle.std.specs.Global.{Box}
use Rattle.std.specs.Option.{option_and_then}
use Rattle.base.specs.NumberMap.{get, remove}
use Rattle.kernel_model.specs.Kernel.{CallPhase, Runs, Asks, Waits, Ends}
use Rattle.kernel_state.specs.Calls.{HasEnded, IsInPhase}
use Rattle.own_model.proofs.InOrder.{by_numbers}
use Rattle.own_model.proofs.Maps.{get-remove-other, get-remove-same}
use Rattle.own_model.specs.Own.{ended}
use Rattle.own_model.specs.Solo.{Answered, Going, OwnCall, Solo, asks, goes_out_in, leaves, with_call}
use Rattle.own_model.specs.declared.own_reply.OwnReply.{OwnReply}
use Rattle.own_model.specs.declared.own_reply.OwnReply.TheVariants as reply
use Rattle.rpc_cont.specs.Conts.{kept_params}
use Rattle.rpc_cont.specs.declared.cont.Cont.{Cont}
use Rattle.rpc_msgs.specs.Request.{has_payload}
use Rattle.rpc_msgs.specs.declared.rpc.Rpc.{Rpc}
use Rattle.rpc_msgs.specs.declared.rpc.Rpc.TheVariants as rpc
use Rattle.kernel_state.proofs.CallPhases.{relabelled}
use Rattle.solo.proofs.Putting.{aside, comes_with, found_call, put_back, was_there}
use Rattle.solo.specs.Calls.{IsCall}
use Rattle.solo.specs.GoingOut.{Ending, IsGoing, asked_in, asks_with_payload, phase_of, placed_or_alloc}
use Rattle.solo.specs.Short.{AreShort}
use Rattle.solo.specs.Standing.{IsAside, IsCallAt, StandsFor}
use Rattle.solo.specs.declared.solo_session.SoloSession.{SoloSession}
use Rattle.ta_params.specs.declared.call_result.CallResult.{CallResult}

-- a call that may be there
abbrev Kept : Type 0
Kept = Option (Box (Cont (List ℕ)))

-- ---- what it asks for

pair_is : (first second : Answered) → Some first ≡ Some second → (first.0 ≡ second.0) × (first.1 ≡ second.1)
pair_is first second e = let same : first ≡ second = cc in (ap (λ (a : Answered). a.0) same, ap (λ (a : Answered). a.1) same)

-- the call with what is told of it
abbrev AsksSo : (solo next : Solo) (number : ℕ) (own : OwnCall) (told : Option OwnReply) (wanted : OwnReply) → Type 0
AsksSo solo next number own told wanted =
    (with_call solo number own ≡ next) × (Some (placed_or_alloc own.area own.buffer wanted) ≡ told)

asks_this : (solo next : Solo) (number : ℕ) (own : OwnCall) (told : Option OwnReply) (request : Rpc) (wanted asked : OwnReply) → asked ≡ wanted →
    has_payload request ≡ asks_with_payload asked → Some (asks solo number own request asked) ≡ Some (next, told) → AsksSo solo next number own told wanted
asks_this solo next number own told request wanted asked same paid e =
    let both = pair_is (asks solo number own request asked) (next, told) e in (
      both.0,
      ap (λ (r : OwnReply). Some (placed_or_alloc own.area own.buffer r)) (sym same)
          ∙ ap (λ (b : Bool). Some (if own.buffer || (own.area && not b) then asked else reply.Alloc)) (sym paid)
          ∙ both.1,
    )

-- a call that asks for something
pub asks_out : (solo next : Solo) (number : ℕ) (own : OwnCall) (told : Option OwnReply) (at : CallPhase) (wanted : OwnReply) → Some wanted ≡ asked_in at →
    goes_out_in solo number own at ≡ Some (next, told) → AsksSo solo next number own told wanted
asks_out solo next number own told (Runs job) wanted is e = absurd cc
asks_out solo next number own told (Asks job request payload) wanted is e = asks_this solo next number own told request wanted (reply.Ask request payload) (cc) refl e
asks_out solo next number own told (Waits params) wanted is e = asks_this solo next number own told (rpc.Sleep number) wanted reply.Sleep (cc) refl e
asks_out solo next number own told (Ends result params was (Some woken)) wanted is e = asks_this solo next number own told (rpc.Wake woken) wanted (reply.Wake woken) (cc) refl e
asks_out solo next number own told (Ends result params was None) wanted is e = absurd cc

-- one that asks for nothing more has ended
pub record HasLeft (solo next : Solo) (number : ℕ) (own : OwnCall) (told : Option OwnReply) (at : CallPhase) : Type 0 where
  pub ends : Ending
  pub is : at ≡ phase_of ends
  pub goes : leaves solo number own (ended ends.result ends.params) ≡ (next, told)

pub leaves_out : (solo next : Solo) (number : ℕ) (own : OwnCall) (told : Option OwnReply) (at : CallPhase) → None ≡ asked_in at →
    goes_out_in solo number own at ≡ Some (next, told) → HasLeft solo next number own told at
leaves_out solo next number own told (Runs job) none e = absurd cc
leaves_out solo next number own told (Asks job request payload) none e = absurd cc
leaves_out solo next number own told (Waits params) none e = absurd cc
leaves_out solo next number own told (Ends result params was (Some woken)) none e = absurd cc
leaves_out solo next number own told (Ends result params was None) none e =
    record { ends = record { result = result; params = params; was_told = was }; is = refl; goes = cc }

-- ---- it is put back

-- as it is
pub put_same : (s new : SoloSession) (solo next : Solo) (number : ℕ) (cont : Box (Cont (List ℕ))) (own : OwnCall) → IsAside s number solo → IsCall cont.value own →
    with_call solo number own ≡ next → new ≡ record s { calls = new.calls } → new.calls.items ≡ slice_set s.calls.items number (Some cont) → StandsFor new next
put_same s new solo next number cont own aside is same stays after =
    put_back s s new solo next number cont aside refl
    (comes_with s solo next number cont.value aside.beside (record { call = own; is = is; has = sym same })) stays after

-- ---- it leaves

-- without its buffer
unbuffered : (old new : Cont (List ℕ)) (own : OwnCall) → new ≡ record old { buffer = None } → IsCall old own → IsCall new (record own { buffer = false })
unbuffered old new own becomes is =
    subst (λ (c : Cont (List ℕ)). IsCall c (record own { buffer = false })) (sym becomes) (record {
      kind = is.kind;
      seen = is.seen;
      steps = is.steps;
      area = is.area;
      buffer = refl;
      phase = relabelled old (record { steps = old.steps; buffer = None }) own.phase is.phase;
    })

abbrev leaves_by : Bool → Solo → ℕ → OwnCall → OwnReply → Answered
leaves_by has solo number own result =
    if has then (with_call solo number (record own { buffer = false }), Some reply.Free) else (record solo { calls = remove solo.calls number }, Some result)

leaves_with : (solo : Solo) (number : ℕ) (own : OwnCall) (result : OwnReply) (after : Answered) (has : Bool) → has ≡ own.buffer →
    leaves solo number own result ≡ after → leaves_by has solo number own result ≡ after
leaves_with solo number own result after has same e = ap (λ (b : Bool). leaves_by b solo number own result) same ∙ e

-- it gives its buffer back
pub frees_so : (s new : SoloSession) (solo next : Solo) (number : ℕ) (old : Cont (List ℕ)) (cont : Box (Cont (List ℕ))) (own : OwnCall) (told : Option OwnReply) (result : OwnReply) →
    IsAside s number solo → IsCall old own → is_some old.buffer ≡ true → cont.value ≡ record old { buffer = None } → leaves solo number own result ≡ (next, told) →
    new ≡ record s { calls = new.calls } → new.calls.items ≡ slice_set s.calls.items number (Some cont) → (Some reply.Free ≡ told) × StandsFor new next
frees_so s new solo next number old cont own told result aside is has becomes e stays after =
    let so = leaves_with solo number own result (next, told) true (sym has ∙ is.buffer) e in (
      ap (λ (a : Answered). a.1) so,
      put_same s new solo next number cont (record own { buffer = false }) aside (unbuffered old cont.value own becomes is) (ap (λ (a : Answered). a.0) so) stays after,
    )

-- it is there no more
gone : (s : SoloSession) (solo : Solo) (number : ℕ) → IsAside s number solo → StandsFor s (record solo { calls = remove solo.calls number })
gone s solo number aside = record {
  beside = aside.beside;
  calls = λ other. by_numbers other number (λ e. here other e) (λ apart. there other apart);
}
  where
    stands_at : IsCallAt (slice_get s.calls.items number) (get (remove solo.calls number) number)
    stands_at =
        subst (λ (f : Option Kept). IsCallAt f (get (remove solo.calls number) number)) (sym aside.out)
        (subst (λ (o : Option OwnCall). IsCallAt (Some None) o) (sym (get-remove-same solo.calls number)) tt)

    here : (other : ℕ) → other ≡ number → IsCallAt (slice_get s.calls.items other) (get (remove solo.calls number) other)
    here other e = subst (λ (n : ℕ). IsCallAt (slice_get s.calls.items n) (get (remove solo.calls number) n)) (sym e) stands_at

    there : (other : ℕ) → (other ≡ number → ⊥) → IsCallAt (slice_get s.calls.items other) (get (remove solo.calls number) other)
    there other apart =
        subst (λ (o : Option OwnCall). IsCallAt (slice_get s.calls.items other) o) (sym (get-remove-other solo.calls number other (λ e. apart (sym e))))
        (aside.others other apart)

-- its result is told
pub told_so : (longest : ℕ) (s : SoloSession) (solo next : Solo) (number : ℕ) (cont : Cont (List ℕ)) (own : OwnCall) (told : Option OwnReply) (ends : Ending) (answer : OwnReply) →
    IsAside s number solo → IsCall cont own → own.phase ≡ phase_of ends → AreShort longest ends.params → is_some cont.buffer ≡ false →
    (AreShort longest (kept_params cont.params) → answer ≡ ended cont.result (kept_params cont.params)) →
    leaves solo number own (ended ends.result ends.params) ≡ (next, told) → (Some answer ≡ told) × StandsFor s next
told_so longest s solo next number cont own told ends answer aside is at short none says e =
    let so = leaves_with solo number own (ended ends.result ends.params) (next, told) false (sym none ∙ is.buffer) e in
    let here : HasEnded cont ends.result ends.params ends.was_told None = subst (IsInPhase cont) at is.phase in (
      ap (λ (r : OwnReply). Some r)
          (says (subst (AreShort longest) (sym here.params) short)
          ∙ ap (λ (r : CallResult). ended r (kept_params cont.params)) here.result
          ∙ ap (ended ends.result) here.params)
          ∙ ap (λ (a : Answered). a.1) so,
      subst (StandsFor s) (ap (λ (a : Answered). a.0) so) (gone s solo number aside),
    )

-- ---- the call while it goes out

-- the others stand as they did
pub still_aside : (s now : SoloSession) (before : Solo) (number : ℕ) (cont : Cont (List ℕ)) (going : Going) → IsAside s number before → now.calls ≡ s.calls →
    IsGoing now cont before going → IsAside now number going.solo
still_aside s now before number cont going aside same is = record {
  beside = is.beside;
  out = ap (λ c. slice_get c.items number) same ∙ aside.out;
  others = λ other apart.
      subst (λ (f : Option Kept). IsCallAt f (get going.solo.calls other)) (sym (ap (λ c. slice_get c.items other) same))
      (subst (λ m. IsCallAt (slice_get s.calls.items other) (get m other)) (sym is.calls) (aside.others other apart));
}

-- the call that is taken out, and the others
pub taken_aside : (s taken : SoloSession) (solo : Solo) (number : ℕ) (cont : Box (Cont (List ℕ))) (call : OwnCall) → StandsFor s solo → get solo.calls number ≡ Some call →
    Some cont ≡ option_and_then (λ (call : Kept). call) (slice_get s.calls.items number) → taken ≡ record s { calls = taken.calls } →
    taken.calls.items ≡ slice_set s.calls.items number None → IsCall cont.value call × IsAside taken number solo
taken_aside s taken solo number cont call stands there found stays out =
    let was : slice_get s.calls.items number ≡ Some (Some cont) = was_there (slice_get s.calls.items number) cont (sym found) in
    (found_call s solo number cont call stands was there, aside s taken solo number cont stands was stays out)

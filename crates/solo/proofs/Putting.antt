-- A call that is taken out of a session's code, and put back.
use Rattle.std.proofs.Common.{◌≡◌, ℕ, ◌-◌, true, List, [], Option, Some, None, refl, sym, ap, subst, ◌∙◌}
use Rattle.std.proofs.lemmas.List.{length-set}
use Rattle.std.specs.Prelude.{length, slice_get, slice_set}
use Rattle.std.specs.Global.{Box}
use Rattle.std.specs.Option.{option_and_then, option_map}
use Rattle.base.specs.NumberMap.{get}
use Rattle.kernel_model.proofs.Parts.{set_found, set_other}
use Rattle.own_model.proofs.InOrder.{by_numbers}
use Rattle.own_model.proofs.Maps.{get-insert-other, get-insert-same}
use Rattle.kernel_model.specs.Kernel.{CallPhase}
use Rattle.kernel_model.specs.Resume.{phase_seen}
use Rattle.own_model.specs.Solo.{OwnCall, Solo, phase_at, sees, with_call}
use Rattle.rpc_cont.specs.declared.cont.Cont.{Cont}
use Rattle.solo.specs.Calls.{IsCall}
use Rattle.solo.specs.Standing.{ComesTo, HasCall, IsAside, IsBeside, IsCallAt, StandsFor, without_calls}
use Rattle.solo.specs.declared.solo_session.SoloSession.{SoloSession}

-- a call that may be there
abbrev Kept : Type 0
Kept = Option (Box (Cont (List ℕ)))

-- ---- all but the calls

-- it is the same where there are as many calls
same_beside : (s new : SoloSession) → new ≡ record s { calls = new.calls } → length new.calls.items ≡ length s.calls.items →
    without_calls new ≡ without_calls s
same_beside s new stays many =
    ap without_calls stays ∙ ap (λ (entered : ℕ). record (without_calls s) { entered = entered }) many

pub beside_set : (s new : SoloSession) (number : ℕ) (kept : Kept) → new ≡ record s { calls = new.calls } →
    new.calls.items ≡ slice_set s.calls.items number kept → without_calls new ≡ without_calls s
beside_set s new number kept stays after =
    same_beside s new stays (ap (λ (calls : List Kept). length calls) after ∙ length-set s.calls.items number kept)

-- ---- taken out

-- the call that was taken stood there
pub was_there : (found : Option Kept) (cont : Box (Cont (List ℕ))) → option_and_then (λ (call : Kept). call) found ≡ Some cont → found ≡ Some (Some cont)
was_there None cont is = absurd cc
was_there (Some None) cont is = absurd cc
was_there (Some (Some there)) cont is = ap (λ (call : Kept). Some call) is

is_call_at : (cont : Box (Cont (List ℕ))) (own : OwnCall) (found : Option Kept) (there : Option OwnCall) → found ≡ Some (Some cont) → there ≡ Some own →
    IsCallAt found there → IsCall cont.value own
is_call_at cont own found there at is stands =
    subst (λ (o : Option OwnCall). IsCallAt (Some (Some cont)) o) is (subst (λ (f : Option Kept). IsCallAt f there) at stands)

-- it is the machine's
pub found_call : (s : SoloSession) (solo : Solo) (number : ℕ) (cont : Box (Cont (List ℕ))) (own : OwnCall) → StandsFor s solo →
    slice_get s.calls.items number ≡ Some (Some cont) → get solo.calls number ≡ Some own → IsCall cont.value own
found_call s solo number cont own stands at is =
    is_call_at cont own (slice_get s.calls.items number) (get solo.calls number) at is (stands.calls number)

none_at : (own : OwnCall) (found : Option Kept) (there : Option OwnCall) → option_and_then (λ (call : Kept). call) found ≡ None → there ≡ Some own →
    IsCallAt found there → ⊥
none_at own None None none is stands = absurd cc
none_at own None (Some other) none is stands = stands
none_at own (Some None) None none is stands = absurd cc
none_at own (Some None) (Some other) none is stands = stands
none_at own (Some (Some cont)) there none is stands = absurd cc

-- where none is taken the machine has none
pub not_found : (s : SoloSession) (solo : Solo) (number : ℕ) (own : OwnCall) → StandsFor s solo →
    option_and_then (λ (call : Kept). call) (slice_get s.calls.items number) ≡ None → get solo.calls number ≡ Some own → ⊥
not_found s solo number own stands none is =
    none_at own (slice_get s.calls.items number) (get solo.calls number) none is (stands.calls number)

-- the others stand as they did
pub aside : (s new : SoloSession) (solo : Solo) (number : ℕ) (cont : Box (Cont (List ℕ))) → StandsFor s solo →
    slice_get s.calls.items number ≡ Some (Some cont) → new ≡ record s { calls = new.calls } →
    new.calls.items ≡ slice_set s.calls.items number None → IsAside new number solo
aside s new solo number cont stands at stays after = record {
  beside = stands.beside ∙ sym (beside_set s new number None stays after);
  out = ap (λ (calls : List Kept). slice_get calls number) after ∙ set_found s.calls.items number None (Some cont) at;
  others = λ other apart.
      subst (λ (found : Option Kept). IsCallAt found (get solo.calls other))
      (sym (ap (λ (calls : List Kept). slice_get calls other) after ∙ set_other s.calls.items number other None (λ e. apart (sym e))))
      (stands.calls other);
}

-- ---- put back

-- it stands for what the call and the rest have come to
pub put_back : (s now new : SoloSession) (before then : Solo) (number : ℕ) (cont : Box (Cont (List ℕ))) → IsAside s number before →
    now.calls ≡ s.calls → ComesTo now cont.value number before then → new ≡ record now { calls = new.calls } →
    new.calls.items ≡ slice_set now.calls.items number (Some cont) → StandsFor new then
put_back s now new before then number cont aside same comes stays after = record {
  beside = comes.beside ∙ sym (beside_set now new number (Some cont) stays after);
  calls = λ other. by_numbers other number (λ e. here other e) (λ apart. there other apart);
}
  where
    kept : new.calls.items ≡ slice_set s.calls.items number (Some cont)
    kept = after ∙ ap (λ (calls : List Kept). slice_set calls number (Some cont)) (ap (λ c. c.items) same)

    stands_at : IsCallAt (slice_get new.calls.items number) (get then.calls number)
    stands_at =
        let found : slice_get new.calls.items number ≡ Some (Some cont) =
        ap (λ (calls : List Kept). slice_get calls number) kept ∙ set_found s.calls.items number (Some cont) None aside.out in
        let own : get then.calls number ≡ Some comes.call =
        ap (λ m. get m number) comes.calls ∙ get-insert-same before.calls number comes.call in
        subst (λ (f : Option Kept). IsCallAt f (get then.calls number)) (sym found)
        (subst (λ (o : Option OwnCall). IsCallAt (Some (Some cont)) o) (sym own) comes.is)

    here : (other : ℕ) → other ≡ number → IsCallAt (slice_get new.calls.items other) (get then.calls other)
    here other e = subst (λ (n : ℕ). IsCallAt (slice_get new.calls.items n) (get then.calls n)) (sym e) stands_at

    there : (other : ℕ) → (other ≡ number → ⊥) → IsCallAt (slice_get new.calls.items other) (get then.calls other)
    there other apart =
        let found : slice_get new.calls.items other ≡ slice_get s.calls.items other =
        ap (λ (calls : List Kept). slice_get calls other) kept ∙ set_other s.calls.items number other (Some cont) (λ e. apart (sym e)) in
        let own : get then.calls other ≡ get before.calls other =
        ap (λ m. get m other) comes.calls ∙ get-insert-other before.calls number comes.call other (λ e. apart (sym e)) in
        subst (λ (f : Option Kept). IsCallAt f (get then.calls other)) (sym found)
        (subst (λ (o : Option OwnCall). IsCallAt (slice_get s.calls.items other) o) (sym own) (aside.others other apart))

-- where its call is another by now, and nothing else is
pub comes_with : (s : SoloSession) (solo next : Solo) (number : ℕ) (cont : Cont (List ℕ)) → IsBeside s solo → HasCall cont number solo next →
    ComesTo s cont number solo next
comes_with s solo next number cont beside has = record {
  beside = ap (λ (z : Solo). record z { calls = [] }) has.has ∙ beside;
  call = has.call;
  is = has.is;
  calls = ap (λ (z : Solo). z.calls) has.has;
}

-- ---- a call that sees that it was cancelled

some_seen : (see : CallPhase → Solo) (o : Option CallPhase) (next : Solo) → option_map see o ≡ Some next → (at : CallPhase) × ((o ≡ Some at) × (next ≡ see at))
some_seen see None next e = absurd cc
some_seen see (Some at) next e = let same : see at ≡ next = cc in (at, (refl, sym same))

pub seen_stands : (s taken new : SoloSession) (solo next : Solo) (number done_by_now : ℕ) (cont seen : Box (Cont (List ℕ))) (call : OwnCall) →
    StandsFor s solo → get solo.calls number ≡ Some call → sees solo number done_by_now call ≡ Some next →
    Some cont ≡ option_and_then (λ (call : Kept). call) (slice_get s.calls.items number) →
    taken ≡ record s { calls = taken.calls } → taken.calls.items ≡ slice_set s.calls.items number None →
    ((call : OwnCall) (at : CallPhase) → IsCall cont.value call → phase_at (done_by_now - call.steps) call.phase ≡ Some at →
    IsCall seen.value (record call { seen = true; steps = done_by_now; phase = phase_seen at })) →
    new ≡ record taken { calls = new.calls } → new.calls.items ≡ slice_set taken.calls.items number (Some seen) → StandsFor new next
seen_stands s taken new solo next number done_by_now cont seen call stands there e found stays out sees_it kept put =
    let was : slice_get s.calls.items number ≡ Some (Some cont) = was_there (slice_get s.calls.items number) cont (sym found) in
    let is : IsCall cont.value call = found_call s solo number cont call stands was there in
    let left = aside s taken solo number cont stands was stays out in
    let phase = some_seen (λ (at : CallPhase). with_call solo number (record call { seen = true; steps = done_by_now; phase = phase_seen at }))
    (phase_at (done_by_now - call.steps) call.phase) next e in
    let now : OwnCall = record call { seen = true; steps = done_by_now; phase = phase_seen phase.0 } in
    put_back taken taken new solo next number seen left refl
    (comes_with taken solo next number seen.value left.beside (record { call = now; is = sees_it call phase.0 is phase.1.0; has = phase.1.1 }))
    kept put

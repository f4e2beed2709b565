-- A call that is taken out of a group's code, and put back.
use Rattle.std.proofs.Common.{◌≡◌, ℕ, ◌-◌, Bool, true, false, List, [], Option, Some, None, refl, sym, ap, subst, ◌∙◌}
use Rattle.std.proofs.lemmas.List.{length-set}
use Rattle.std.specs.Prelude.{if◌then◌else◌, length, slice_get, slice_set}
use Rattle.std.specs.Global.{Box}
use Rattle.std.specs.Option.{option_and_then, option_map}
use Rattle.base.specs.NumberMap.{get}
use Rattle.kernel_model.proofs.Parts.{set_found, set_other}
use Rattle.own_model.proofs.InOrder.{by_numbers}
use Rattle.own_model.proofs.Maps.{get-insert-other, get-insert-same}
use Rattle.kernel_model.specs.Kernel.{CallPhase}
use Rattle.kernel_model.specs.Resume.{phase_seen}
use Rattle.group_model.specs.Group.{GroupCall, Group, finds_it_gone, finds_room, sees, with_call}
use Rattle.own_model.specs.Solo.{phase_at}
use Rattle.group_solo.specs.declared.kept_call.KeptCall.{KeptCall}
use Rattle.group_solo.specs.Calls.{IsGroupCall}
use Rattle.group_solo.specs.Standing.{ComesTo, HasCall, IsAside, IsBeside, IsCallAt, StandsFor, without_calls}
use Rattle.group_solo.specs.declared.group.GroupSolo.{GroupSolo}

-- a call that may be there
abbrev Kept : Type 0
Kept = Option (Box KeptCall)

-- ---- all but the calls

-- it is the same where there are as many calls
same_beside : (s new : GroupSolo) → new ≡ record s { calls = new.calls } → length new.calls.items ≡ length s.calls.items →
    without_calls new ≡ without_calls s
same_beside s new stays many =
    ap without_calls stays ∙ ap (λ (entered : ℕ). record (without_calls s) { entered = entered }) many

pub beside_set : (s new : GroupSolo) (number : ℕ) (kept : Kept) → new ≡ record s { calls = new.calls } →
    new.calls.items ≡ slice_set s.calls.items number kept → without_calls new ≡ without_calls s
beside_set s new number kept stays after =
    same_beside s new stays (ap (λ (calls : List Kept). length calls) after ∙ length-set s.calls.items number kept)

-- ---- taken out

-- the call that was taken stood there
pub was_there : (found : Option Kept) (cont : Box KeptCall) → option_and_then (λ (call : Kept). call) found ≡ Some cont → found ≡ Some (Some cont)
was_there None cont is = absurd cc
was_there (Some None) cont is = absurd cc
was_there (Some (Some there)) cont is = ap (λ (call : Kept). Some call) is

is_call_at : (cont : Box KeptCall) (own : GroupCall) (found : Option Kept) (there : Option GroupCall) → found ≡ Some (Some cont) → there ≡ Some own →
    IsCallAt found there → IsGroupCall cont.value own
is_call_at cont own found there at is stands =
    subst (λ (o : Option GroupCall). IsCallAt (Some (Some cont)) o) is (subst (λ (f : Option Kept). IsCallAt f there) at stands)

-- it is the machine's
pub found_call : (s : GroupSolo) (g : Group) (number : ℕ) (cont : Box KeptCall) (own : GroupCall) → StandsFor s g →
    slice_get s.calls.items number ≡ Some (Some cont) → get g.calls number ≡ Some own → IsGroupCall cont.value own
found_call s g number cont own stands at is =
    is_call_at cont own (slice_get s.calls.items number) (get g.calls number) at is (stands.calls number)

-- the others stand as they did
pub aside : (s new : GroupSolo) (g : Group) (number : ℕ) (cont : Box KeptCall) → StandsFor s g →
    slice_get s.calls.items number ≡ Some (Some cont) → new ≡ record s { calls = new.calls } →
    new.calls.items ≡ slice_set s.calls.items number None → IsAside new number g
aside s new g number cont stands at stays after = record {
  beside = stands.beside ∙ sym (beside_set s new number None stays after);
  out = ap (λ (calls : List Kept). slice_get calls number) after ∙ set_found s.calls.items number None (Some cont) at;
  others = λ other apart.
      subst (λ (found : Option Kept). IsCallAt found (get g.calls other))
      (sym (ap (λ (calls : List Kept). slice_get calls other) after ∙ set_other s.calls.items number other None (λ e. apart (sym e))))
      (stands.calls other);
}

-- ---- put back

-- it stands for what the call and the rest have come to
pub put_back : (s now new : GroupSolo) (before later : Group) (number : ℕ) (cont : Box KeptCall) → IsAside s number before →
    now.calls ≡ s.calls → ComesTo now cont.value number before later → new ≡ record now { calls = new.calls } →
    new.calls.items ≡ slice_set now.calls.items number (Some cont) → StandsFor new later
put_back s now new before later number cont aside same comes stays after = record {
  beside = comes.beside ∙ sym (beside_set now new number (Some cont) stays after);
  calls = λ other. by_numbers other number (λ e. here other e) (λ apart. there other apart);
}
  where
    kept : new.calls.items ≡ slice_set s.calls.items number (Some cont)
    kept = after ∙ ap (λ (calls : List Kept). slice_set calls number (Some cont)) (ap (λ c. c.items) same)

    stands_at : IsCallAt (slice_get new.calls.items number) (get later.calls number)
    stands_at =
        let found : slice_get new.calls.items number ≡ Some (Some cont) =
        ap (λ (calls : List Kept). slice_get calls number) kept ∙ set_found s.calls.items number (Some cont) None aside.out in
        let own : get later.calls number ≡ Some comes.call =
        ap (λ m. get m number) comes.calls ∙ get-insert-same before.calls number comes.call in
        subst (λ (f : Option Kept). IsCallAt f (get later.calls number)) (sym found)
        (subst (λ (o : Option GroupCall). IsCallAt (Some (Some cont)) o) (sym own) comes.is)

    here : (other : ℕ) → other ≡ number → IsCallAt (slice_get new.calls.items other) (get later.calls other)
    here other e = subst (λ (n : ℕ). IsCallAt (slice_get new.calls.items n) (get later.calls n)) (sym e) stands_at

    there : (other : ℕ) → (other ≡ number → ⊥) → IsCallAt (slice_get new.calls.items other) (get later.calls other)
    there other apart =
        let found : slice_get new.calls.items other ≡ slice_get s.calls.items other =
        ap (λ (calls : List Kept). slice_get calls other) kept ∙ set_other s.calls.items number other (Some cont) (λ e. apart (sym e)) in
        let own : get later.calls other ≡ get before.calls other =
        ap (λ m. get m other) comes.calls ∙ get-insert-other before.calls number comes.call other (λ e. apart (sym e)) in
        subst (λ (f : Option Kept). IsCallAt f (get later.calls other)) (sym found)
        (subst (λ (o : Option GroupCall). IsCallAt (slice_get s.calls.items other) o) (sym own) (aside.others other apart))

-- where its call is another by now, and nothing else is
pub comes_with : (s : GroupSolo) (g next : Group) (number : ℕ) (cont : KeptCall) → IsBeside s g → HasCall cont number g next →
    ComesTo s cont number g next
comes_with s g next number cont beside has = record {
  beside = ap (λ (z : Group). record z { calls = [] }) has.has ∙ beside;
  call = has.call;
  is = has.is;
  calls = ap (λ (z : Group). z.calls) has.has;
}

-- ---- a call that is changed where it stands

-- a call that is taken out and put back as this stands for the machine with that
pub changed : (s taken new : GroupSolo) (g : Group) (number : ℕ) (cont later : Box KeptCall) (call now : GroupCall) →
    StandsFor s g → get g.calls number ≡ Some call →
    Some cont ≡ option_and_then (λ (call : Kept). call) (slice_get s.calls.items number) →
    taken ≡ record s { calls = taken.calls } → taken.calls.items ≡ slice_set s.calls.items number None →
    (IsGroupCall cont.value call → IsGroupCall later.value now) →
    new ≡ record taken { calls = new.calls } → new.calls.items ≡ slice_set taken.calls.items number (Some later) →
    StandsFor new (with_call g number now)
changed s taken new g number cont later call now stands there found stays out changes kept put =
    let was : slice_get s.calls.items number ≡ Some (Some cont) = was_there (slice_get s.calls.items number) cont (sym found) in
    let is : IsGroupCall cont.value call = found_call s g number cont call stands was there in
    let left = aside s taken g number cont stands was stays out in
    put_back taken taken new g (with_call g number now) number later left refl
    (comes_with taken g (with_call g number now) number later.value left.beside (record { call = now; is = changes is; has = refl }))
    kept put

-- one that sees that it was cancelled
some_seen : (see : CallPhase → Group) (o : Option CallPhase) (next : Group) → option_map see o ≡ Some next → (at : CallPhase) × ((o ≡ Some at) × (next ≡ see at))
some_seen see None next e = absurd cc
some_seen see (Some at) next e = let same : see at ≡ next = cc in (at, (refl, sym same))

pub seen_so : (g next : Group) (number done_by_now : ℕ) (call : GroupCall) → sees g number done_by_now call ≡ Some next →
    (at : CallPhase) × ((phase_at (done_by_now - call.steps) call.phase ≡ Some at)
    × (next ≡ with_call g number (record call { seen = true; steps = done_by_now; phase = phase_seen at })))
seen_so g next number done_by_now call e =
    some_seen (λ (at : CallPhase). with_call g number (record call { seen = true; steps = done_by_now; phase = phase_seen at }))
    (phase_at (done_by_now - call.steps) call.phase) next e

-- an open that is told whether there is room
pub told_room : (g next : Group) (number : ℕ) (enough : Bool) (call : GroupCall) → finds_room g number enough call ≡ Some next →
    with_call g number (record call { room = Some enough }) ≡ next
told_room g next number enough call e = by (finds_it_gone g call call.kind call.phase) e
  where
    by : (b : Bool) → (if b then Some (with_call g number (record call { room = Some enough })) else None) ≡ Some next →
        with_call g number (record call { room = Some enough }) ≡ next
    by true is = cc
    by false is = absurd cc

-- ---- a call that changes more than itself

pub changes_so : (s taken now new : GroupSolo) (g next : Group) (number : ℕ) (cont later : Box KeptCall) (call : GroupCall) → StandsFor s g →
    get g.calls number ≡ Some call → Some cont ≡ option_and_then (λ (call : Kept). call) (slice_get s.calls.items number) →
    taken ≡ record s { calls = taken.calls } → taken.calls.items ≡ slice_set s.calls.items number None → now.calls ≡ taken.calls →
    (IsBeside taken g → IsGroupCall cont.value call → ComesTo now later.value number g next) →
    new ≡ record now { calls = new.calls } → new.calls.items ≡ slice_set now.calls.items number (Some later) → StandsFor new next
changes_so s taken now new g next number cont later call stands there found stays out same comes kept put =
    let was : slice_get s.calls.items number ≡ Some (Some cont) = was_there (slice_get s.calls.items number) cont (sym found) in
    let is : IsGroupCall cont.value call = found_call s g number cont call stands was there in
    let left = aside s taken g number cont stands was stays out in
    put_back taken now new g next number later left same (comes left.beside is) kept put

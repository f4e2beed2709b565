-- A call that comes in to a group's code.
use Rattle.std.proofs.Common.{◌≡◌, ℕ, List, [], ◌∷◌, ◌++◌, Option, Some, refl, sym, ap, subst, ◌∙◌}
use Rattle.std.proofs.lemmas.List.{length-append, map-append}
use Rattle.std.specs.Prelude.{length, slice_get}
use Rattle.std.specs.Global.{Box}
use Rattle.base.specs.NumberMap.{NumberMap, get, insert}
use Rattle.own_model.proofs.InOrder.{by_numbers}
use Rattle.own_model.proofs.Maps.{get-insert-other, get-insert-same}
use Rattle.group_model.specs.Group.{GroupCall, GroupWaiter, Group, comes_in}
use Rattle.solo.proofs.Adding.{last_there, others_there}
use Rattle.group_solo.specs.declared.kept_call.KeptCall.{KeptCall}
use Rattle.group_solo.specs.Beginning.{counted, with_waiter}
use Rattle.group_solo.specs.Calls.{IsGroupCall}
use Rattle.group_solo.specs.Standing.{ComesTo, IsBeside, IsCallAt, StandsFor, sessions_of, waiter_of, waiters_of, without_calls}
use Rattle.group_solo.specs.declared.kept_session.KeptSession.{KeptSession}
use Rattle.group_solo.specs.declared.group.GroupSolo.{GroupSolo}
use Rattle.group_solo.specs.declared.waiter.Waiter.{Waiter}

-- a call that may be there
abbrev Kept : Type 0
Kept = Option (Box KeptCall)

-- where the calls are those that were, it stands for what it did
pub stands_still : (s new : GroupSolo) (g : Group) → IsBeside s g → IsBeside new g → new.calls.items ≡ s.calls.items →
    StandsFor s g → StandsFor new g
stands_still s new g was beside same stands = record {
  beside = beside;
  calls = λ number. subst (λ (calls : List Kept). IsCallAt (slice_get calls number) (get g.calls number)) (sym same) (stands.calls number);
}

-- the next number is the machine's
pub next_is : (s : GroupSolo) (g : Group) (number : ℕ) → number ≡ length s.calls.items → StandsFor s g → number ≡ g.entered
next_is s g number is stands = is ∙ sym (ap (λ (base : Group). base.entered) stands.beside)

-- with one call more, which has the next number, it stands for the machine with that
pub grown : (s new : GroupSolo) (g later : Group) (cont : Box KeptCall) (own : GroupCall) → StandsFor s g → IsBeside new later →
    new.calls.items ≡ s.calls.items ++ Some cont ∷ [] → IsGroupCall cont.value own → later.calls ≡ insert g.calls g.entered own → StandsFor new later
grown s new g later cont own stands beside items is grows = record {
  beside = beside;
  calls = λ number. subst (λ (m : NumberMap GroupCall). IsCallAt (slice_get new.calls.items number) (get m number)) (sym grows)
      (by_numbers number g.entered (λ e. here number e) (λ apart. there number apart));
}
  where
    next : g.entered ≡ length s.calls.items
    next = ap (λ (base : Group). base.entered) stands.beside

    stands_at : IsCallAt (slice_get new.calls.items g.entered) (get (insert g.calls g.entered own) g.entered)
    stands_at =
        let found : slice_get new.calls.items g.entered ≡ Some (Some cont) =
        ap (slice_get new.calls.items) next ∙ ap (λ (calls : List Kept). slice_get calls (length s.calls.items)) items
        ∙ last_there s.calls.items (Some cont) in
        subst (λ (f : Option Kept). IsCallAt f (get (insert g.calls g.entered own) g.entered)) (sym found)
        (subst (λ (o : Option GroupCall). IsCallAt (Some (Some cont)) o) (sym (get-insert-same g.calls g.entered own)) is)

    here : (number : ℕ) → number ≡ g.entered → IsCallAt (slice_get new.calls.items number) (get (insert g.calls g.entered own) number)
    here number e =
        subst (λ (n : ℕ). IsCallAt (slice_get new.calls.items n) (get (insert g.calls g.entered own) n)) (sym e) stands_at

    there : (number : ℕ) → (number ≡ g.entered → ⊥) →
        IsCallAt (slice_get new.calls.items number) (get (insert g.calls g.entered own) number)
    there number apart =
        let found : slice_get new.calls.items number ≡ slice_get s.calls.items number =
        ap (λ (calls : List Kept). slice_get calls number) items
        ∙ others_there s.calls.items (Some cont) number (λ e. apart (e ∙ sym next)) in
        subst (λ (f : Option Kept). IsCallAt f (get (insert g.calls g.entered own) number)) (sym found)
        (subst (λ (o : Option GroupCall). IsCallAt (slice_get s.calls.items number) o)
        (sym (get-insert-other g.calls g.entered own number (λ e. apart (sym e)))) (stands.calls number))

-- as many calls as there were and one
one_more : (s : GroupSolo) (calls : List Kept) (cont : Box KeptCall) → calls ≡ s.calls.items ++ Some cont ∷ [] →
    record (without_calls s) { entered = length calls } ≡ counted (without_calls s)
one_more s calls cont items =
    ap (λ (entered : ℕ). record (without_calls s) { entered = entered })
    (ap (λ (calls : List Kept). length calls) items ∙ length-append s.calls.items (Some cont ∷ []))

-- a call that was settled as it came in
pub added : (s new : GroupSolo) (g : Group) (cont : Box KeptCall) (own : GroupCall) → StandsFor s g → new ≡ record s { calls = new.calls } →
    new.calls.items ≡ s.calls.items ++ Some cont ∷ [] → IsGroupCall cont.value own →
    StandsFor new (comes_in g own)
added s new g cont own stays after stands is = grown s new g (comes_in g own) cont own stays
    (ap counted stays.beside ∙ sym (ap without_calls after ∙ one_more s new.calls.items cont stands)) stands is refl

-- one that waits
pub added_waiting : (s new : GroupSolo) (g : Group) (waiter : Waiter) (cont : Box KeptCall) (own : GroupCall) → StandsFor s g →
    new ≡ record s { waiting = new.waiting; calls = new.calls } → new.waiting.items ≡ s.waiting.items ++ waiter ∷ [] →
    new.calls.items ≡ s.calls.items ++ Some cont ∷ [] → IsGroupCall cont.value own → StandsFor new (with_waiter g waiter own)
added_waiting s new g waiter cont own stands stays line items is = grown s new g (with_waiter g waiter own) cont own stands
    (ap (λ (base : Group). record (counted base) { waiting = base.waiting ++ waiter_of waiter ∷ [] }) stands.beside
    ∙ sym (ap without_calls stays
    ∙ ap (λ (waiting : List GroupWaiter). record (without_calls s) { waiting = waiting; entered = length new.calls.items })
    (ap waiters_of line ∙ map-append waiter_of s.waiting.items (waiter ∷ []))
    ∙ ap (λ (base : Group). record base { waiting = waiters_of s.waiting.items ++ waiter_of waiter ∷ [] }) (one_more s new.calls.items cont items)))
    items is refl

-- one that has begun
pub added_last : (s now new : GroupSolo) (g later : Group) (number : ℕ) (cont : Box KeptCall) → StandsFor s g → number ≡ g.entered →
    now.calls ≡ s.calls → ComesTo now cont.value number g later → new ≡ record now { calls = new.calls } →
    new.calls.items ≡ now.calls.items ++ Some cont ∷ [] → StandsFor new (counted later)
added_last s now new g later number cont stands next same comes stays after = grown s new g (counted later) cont comes.call stands
    (ap counted comes.beside ∙ sym (ap without_calls stays ∙ one_more now new.calls.items cont after))
    (after ∙ ap (λ (calls : List Kept). calls ++ Some cont ∷ []) (ap (λ c. c.items) same)) comes.is
    (comes.calls ∙ ap (λ (n : ℕ). insert g.calls n comes.call) next)

-- ---- room that was taken

-- with the same calls, it stands for what it did
pub reserved : (s new : GroupSolo) (g : Group) → new ≡ record s { calls = new.calls } → new.calls.items ≡ s.calls.items → StandsFor s g → StandsFor new g
reserved s new g stays same stands =
    stands_still s new g stands.beside
    (stands.beside ∙ sym (ap without_calls stays
    ∙ ap (λ (calls : List Kept). record (without_calls s) { entered = length calls }) same)) same stands

-- with the same line too
pub line_reserved : (s new : GroupSolo) (g : Group) → new ≡ record s { waiting = new.waiting } → new.waiting.items ≡ s.waiting.items → StandsFor s g → StandsFor new g
line_reserved s new g stays same stands =
    stands_still s new g stands.beside
    (stands.beside ∙ sym (ap without_calls stays
    ∙ ap (λ (waiting : List Waiter). record (without_calls s) { waiting = waiters_of waiting }) same))
    (ap (λ (n : GroupSolo). n.calls.items) stays) stands

-- or the same sessions
pub sessions_reserved : (s new : GroupSolo) (g : Group) → new ≡ record s { sessions = new.sessions } → new.sessions.items ≡ s.sessions.items → StandsFor s g → StandsFor new g
sessions_reserved s new g stays same stands =
    stands_still s new g stands.beside
    (stands.beside ∙ sym (ap without_calls stays
    ∙ ap (λ (sessions : List (ℕ × KeptSession)). record (without_calls s) { sessions = sessions_of sessions }) same))
    (ap (λ (n : GroupSolo). n.calls.items) stays) stands

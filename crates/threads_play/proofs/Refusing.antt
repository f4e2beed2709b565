-- An entry of the play was refused just where one of a processor's work was.
use Rattle.std.proofs.Common.{◌≡◌, ◌<◌, ℕ, suc, Bool, List, [], ◌∷◌, length, slice_get, Option, Some, None, Result, Ok, Err, arith, refl, ap, sym, subst, ◌∙◌}
use Rattle.std.specs.Prelude.{◌||◌}
use Rattle.std.specs.List.{list_any}
use Rattle.std.specs.Option.{is_some, option_and_then}
use Rattle.std.proofs.lemmas.Option.{slice_get_within}
use Rattle.event_journal.specs.declared.event.Event.{Event}
use Rattle.kernel_model.specs.Application.{Native, booted}
use Rattle.kernel_state.specs.declared.enter_refusal.EnterRefusal.{EnterRefusal}
use Rattle.kernel_state.specs.declared.enter_refusal.EnterRefusal.TheVariants.{Full, Memory}
use Rattle.ordered_play.specs.Act.{Act, Comes, Leaves, Writes, Shows}
use Rattle.ordered_play.specs.Merge.{Apart, ComesTo, IsRefusedIf, Part, role_in, seat_in, seat_with, setting_of}
use Rattle.ordered_play.specs.Ordered.{OrderedPlay}
use Rattle.ordered_play.specs.Part.{AreActsOf, IsActOf, Role, Share, Standing, first_standing}
use Rattle.ordered_play.specs.Blocks.{has_refused}
use Rattle.ordered_play.specs.Seat.{Seat}
use Rattle.ta_isa.specs.declared.boot.Boot.{Boot}
use Rattle.trace_text.specs.declared.trace.Trace.{Trace}
use Rattle.threads_play.specs.declared.ending.CpuEnd.{CpuEnd}
use Rattle.threads_play.proofs.Merging.{apart}
use Rattle.threads_play.specs.Ended.{HaveEnded, place_by, place_of, places_of}
use Rattle.threads_play.specs.Work.{was_refused}

-- ---- a part has no refused entry

act_keeps : (of : Share) (act : Act) (old new : Standing) → IsActOf of act old new → new.seat.refused ≡ old.seat.refused
act_keeps of (Comes steps regs) old new is = ap (λ (s : Standing). s.seat.refused) is.stands
act_keeps of Leaves old new is = ap (λ (s : Standing). s.seat.refused) is.stands
act_keeps of (Writes addr bytes) old new is = ap (λ (s : Standing). s.seat.refused) is
act_keeps of (Shows addr len) old new is = ap (λ (s : Standing). s.seat.refused) is

acts_keep : (of : Share) (acts : List Act) (old new : Standing) → AreActsOf of acts old new → new.seat.refused ≡ old.seat.refused
acts_keep of [] old new is = ap (λ (s : Standing). s.seat.refused) is
acts_keep of (act ∷ acts) old new so = acts_keep of acts so.0 new so.2 ∙ act_keeps of act old so.0 so.1

unrefused : (of : Role) (part : Part of) → part.end.seat.refused ≡ None
unrefused of part = acts_keep of.share part.is_part.done (first_standing of.lane) part.end part.is_part.acts

-- ---- a seat, with its refusal

seat_refused : (of : Role) (part : Part of) (place : Option ℕ) (refused : IsRefusedIf of part place)
    → is_some (seat_with of part place refused).refused ≡ is_some place
seat_refused of part None refused = ap (λ r. is_some r) (unrefused of part)
seat_refused of part (Some place) refused = refl

place_says : (seen : List Event) (outcome : Result (Unit {0}) EnterRefusal) → is_some (place_by seen outcome) ≡ was_refused outcome
place_says seen (Ok done) = refl
place_says seen (Err (Full copied more)) = refl
place_says seen (Err Memory) = refl

-- ---- all of them

same_seat : (a b : Seat) → Some a ≡ Some b → a ≡ b
same_seat a b is = cc

any_same : (seats : List Seat) (ends : List CpuEnd) → length seats ≡ length ends
    → ((k : ℕ) (seat : Seat) (end : CpuEnd) → slice_get seats k ≡ Some seat → slice_get ends k ≡ Some end
    → is_some seat.refused ≡ was_refused end.outcome)
    → list_any (λ (seat : Seat). is_some seat.refused) seats ≡ list_any (λ (end : CpuEnd). was_refused end.outcome) ends
any_same [] [] count each = refl
any_same [] (end ∷ ends) count each = absurd (omega (arith, count))
any_same (seat ∷ seats) [] count each = absurd (omega (arith, count))
any_same (seat ∷ seats) (end ∷ ends) count each =
    ap (λ (b : Bool). b || list_any (λ (s : Seat). is_some s.refused) seats) (each 0 seat end refl refl)
    ∙ ap (λ (b : Bool). was_refused end.outcome || b)
    (any_same seats ends (omega (arith, count)) (λ k s e at there. each (suc k) s e at there))

module _ (natives : List Native) (boot : Boot) (trace : Trace) (history : List Event) (ends : List CpuEnd)
    (have : HaveEnded (setting_of natives boot trace) history ends) where
  abbrev theirs : Apart (setting_of natives boot trace) history
  theirs = apart natives boot trace history ends have

  module _ (play : OrderedPlay) (to : ComesTo (booted boot natives) history (seat_in theirs) play) where
    one_says : (k : ℕ) (seat : Seat) (end : CpuEnd) → k < boot.cpus → slice_get play.seats k ≡ Some seat
        → slice_get ends k ≡ Some end → is_some seat.refused ≡ was_refused end.outcome
    one_says k seat end below at there =
        let is = same_seat seat (seat_in theirs k below) (sym at ∙ to.seats k below) in
        ap (λ (s : Seat). is_some s.refused) is
        ∙ seat_refused (role_in (setting_of natives boot trace) history k)
        (theirs.parts k below) (places_of ends k) (theirs.refusals k below)
        ∙ ap (λ (o : Option CpuEnd). is_some (option_and_then place_of o)) there
        ∙ place_says _ end.outcome

    pub refused_says : has_refused play ≡ list_any (λ (end : CpuEnd). was_refused end.outcome) ends
    refused_says =
        let count = have.count in
        let same : length play.seats ≡ length ends = to.count ∙ sym count in
        any_same play.seats ends same (λ k seat end at there.
        let within = slice_get_within ends k end there in
        let below : k < boot.cpus = subst (λ (n : ℕ). k < n) count within in
        one_says k seat end below at there)

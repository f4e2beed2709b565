-- The parameters of a call, one after the other, over a lane.
use Rattle.std.proofs.Common.{◌≡◌, ℕ, suc, ◌+◌, ◌<◌, ◌≤◌, List, [], ◌∷◌, ◌++◌, length, drop, map, get_or, Option, Some, None, Ok, Err, Result, refl, sym, ◌∙◌, ap, arith, append_assoc, append-nil, length-append}
use Rattle.std.proofs.lemmas.Grind.{flat_map-append}
use Rattle.std.proofs.lemmas.List.{length-map, map-append}
use Rattle.std.proofs.Math.Seq.{drop-cons, drop-length}
use Rattle.std.specs.List.{AllByRecursion, flat_map}
use Rattle.std.specs.Option.{option_and_then}
use Rattle.base.specs.NumberMap.{NumberMap}
use Rattle.msg_args.specs.declared.param.MsgParam.{MsgParam}
use Rattle.ns_ram.specs.declared.read.Read.{Read}
use Rattle.ns_ram.specs.Pages.{AppendsReads}
use Rattle.ns_ram.specs.Attempt.{Attempt, passes, after_pass, ◌>>=◌}
use Rattle.ns_ram.specs.Reader.{over_lane}
use Rattle.ns_ram.proofs.PageWalk.{AppendsReads-step}
use Rattle.ns_ram.proofs.ReaderLaws.{over_lane-bind}
use Rattle.shm_registry.specs.declared.page_buffer.PageBuffer.{PageBuffer}
use Rattle.ta_params.specs.declared.copied_params.GpParam.{GpParam}
use Rattle.param_copy.specs.declared.copied.Place.{Place}
use Rattle.param_copy.specs.declared.fault.CopyFault.{CopyFault}
use Rattle.param_copy.specs.declared.taken.CopiedParam.{CopiedParam}
use Rattle.param_copy.specs.declared.taken.TakenParams.{TakenParams}
use Rattle.param_copy.specs.Copying.{Copies, copied_param, copied_params, cookie_list, copies, copying, four}
use Rattle.param_copy.specs.Outcome.{copies_in}
use Rattle.param_copy.specs.Places.{ArePlaced, AreInPlace, AreNumbered, IsPlaced, IsWithinLimit}
use Rattle.param_copy.specs.TakenLists.{with_param}
use Rattle.param_copy.specs.WritingBack.{params_of}
use Rattle.param_copy.proofs.Appended.{AppendsReads-none}
use Rattle.param_copy.proofs.Attempts.{attempt-onward, attempt-refused}

-- the parameters from this number on, behind those that are copied
abbrev pub from_here : NumberMap PageBuffer → ℕ → List MsgParam → List CopiedParam → Attempt CopyFault Copies
from_here buffers number rest all = copied_params buffers number rest >>= (λ others. passes (copies (all ++ others)))

-- what the rest gives, behind one more
abbrev ended : List CopiedParam → Option (Result (List CopiedParam) CopyFault × List Read) → Option (Result Copies CopyFault × List Read)
ended all o = option_and_then (λ step. over_lane (after_pass (λ others. passes (copies (all ++ others))) step.0) [] step.1) o

abbrev joined : CopiedParam → Option (Result (List CopiedParam) CopyFault × List Read) → Option (Result (List CopiedParam) CopyFault × List Read)
joined copy o = option_and_then (λ step. over_lane (after_pass (λ others. passes (copy ∷ others)) step.0) [] step.1) o

ended-joined : (all : List CopiedParam) (copy : CopiedParam) (o : Option (Result (List CopiedParam) CopyFault × List Read)) →
    ended all (joined copy o) ≡ ended (all ++ copy ∷ []) o
ended-joined all copy None = refl
ended-joined all copy (Some (Err fault, reads)) = refl
ended-joined all copy (Some (Ok others, reads)) = rw (append_assoc all (copy ∷ []) others) refl

from_here-is : (buffers : NumberMap PageBuffer) (number : ℕ) (rest : List MsgParam) (all : List CopiedParam) (lane : List ℕ) (reads : List Read) →
    over_lane (from_here buffers number rest all) lane reads ≡ ended all (over_lane (copied_params buffers number rest) lane reads)
from_here-is buffers number rest all lane reads =
    over_lane-bind (copied_params buffers number rest) (after_pass (λ others. passes (copies (all ++ others)))) lane reads
    ∙ same_end (over_lane (copied_params buffers number rest) lane reads)
  where
    same_end : (o : Option (Result (List CopiedParam) CopyFault × List Read)) →
        option_and_then (λ step. over_lane (after_pass (λ others. passes (copies (all ++ others))) step.0) lane step.1) o ≡ ended all o
    same_end None = refl
    same_end (Some (Err fault, left)) = refl
    same_end (Some (Ok others, left)) = refl

joined-is : (buffers : NumberMap PageBuffer) (number : ℕ) (rest : List MsgParam) (copy : CopiedParam) (lane : List ℕ) (reads : List Read) →
    over_lane (copied_params buffers number rest >>= (λ others. passes (copy ∷ others))) lane reads ≡ joined copy (over_lane (copied_params buffers number rest) lane reads)
joined-is buffers number rest copy lane reads =
    over_lane-bind (copied_params buffers number rest) (after_pass (λ others. passes (copy ∷ others))) lane reads
    ∙ same_end (over_lane (copied_params buffers number rest) lane reads)
  where
    same_end : (o : Option (Result (List CopiedParam) CopyFault × List Read)) →
        option_and_then (λ step. over_lane (after_pass (λ others. passes (copy ∷ others)) step.0) lane step.1) o ≡ joined copy o
    same_end None = refl
    same_end (Some (Err fault, left)) = refl
    same_end (Some (Ok others, left)) = refl

-- one more parameter is copied
from_here-next : (buffers : NumberMap PageBuffer) (number : ℕ) (param : MsgParam) (rest : List MsgParam) (all : List CopiedParam) (lane : List ℕ) (reads after : List Read) (copy : CopiedParam) →
    over_lane (copied_param buffers number param) lane reads ≡ Some (Ok copy, after) →
    over_lane (from_here buffers number (param ∷ rest) all) lane reads ≡ over_lane (from_here buffers (suc number) rest (all ++ copy ∷ [])) lane after
from_here-next buffers number param rest all lane reads after copy e =
    from_here-is buffers number (param ∷ rest) all lane reads
    ∙ ap (ended all) (attempt-onward (copied_param buffers number param) _ lane reads after copy e ∙ joined-is buffers (suc number) rest copy lane after)
    ∙ ended-joined all copy (over_lane (copied_params buffers (suc number) rest) lane after)
    ∙ sym (from_here-is buffers (suc number) rest (all ++ copy ∷ []) lane after)

-- or refused
from_here-refused : (buffers : NumberMap PageBuffer) (number : ℕ) (param : MsgParam) (rest : List MsgParam) (all : List CopiedParam) (lane : List ℕ) (reads after : List Read) (fault : CopyFault) →
    over_lane (copied_param buffers number param) lane reads ≡ Some (Err fault, after) →
    over_lane (from_here buffers number (param ∷ rest) all) lane reads ≡ Some (Err fault, after)
from_here-refused buffers number param rest all lane reads after fault e =
    attempt-refused (copied_params buffers number (param ∷ rest)) _ lane reads after fault
    (attempt-refused (copied_param buffers number param) _ lane reads after fault e)

-- ---- what is kept

four-push : (params : List GpParam) (param : GpParam) → length params < 4 →
    with_param (four params) (length params) param ≡ four (params ++ param ∷ [])
four-push [] param h = refl
four-push (a ∷ []) param h = refl
four-push (a ∷ b ∷ []) param h = refl
four-push (a ∷ b ∷ c ∷ []) param h = refl
four-push (a ∷ b ∷ c ∷ d ∷ params) param h = absurd (omega arith)

-- the places of copied parameters, from this number on
abbrev pub AllPlaced : ℕ → List CopiedParam → Type 0
AllPlaced number [] = Unit {0}
AllPlaced number (copy ∷ others) = IsPlaced number copy.place copy.param × AllPlaced (suc number) others

AllPlaced-push : (number : ℕ) (all : List CopiedParam) (copy : CopiedParam) → AllPlaced number all →
    IsPlaced (number + length all) copy.place copy.param → AllPlaced number (all ++ copy ∷ [])
AllPlaced-push number [] copy placed h = let same : number + 0 ≡ number = omega arith in (rw same at h, tt)
AllPlaced-push number (first ∷ all) copy placed h =
    let same : number + length (first ∷ all) ≡ suc number + length all = omega arith in
    (placed.0, AllPlaced-push (suc number) all copy placed.1 (rw same at h))

numbers : (number : ℕ) (all : List CopiedParam) → AllPlaced number all → AreNumbered number (map (λ copy. copy.place) all)
numbers number [] placed = tt
numbers number (copy ∷ all) placed = (placed.0.number_is, numbers (suc number) all placed.1)

in_place : (number : ℕ) (all : List CopiedParam) → length all ≤ 4 → AllPlaced number all →
    AreInPlace (map (λ copy. copy.place) all) (params_of (four (map (λ copy. copy.param) all)))
in_place number [] h p = tt
in_place number (a ∷ []) h p = (p.0.in_place, tt)
in_place number (a ∷ b ∷ []) h p = (p.0.in_place, (p.1.0.in_place, tt))
in_place number (a ∷ b ∷ c ∷ []) h p = (p.0.in_place, (p.1.0.in_place, (p.1.1.0.in_place, tt)))
in_place number (a ∷ b ∷ c ∷ d ∷ []) h p = (p.0.in_place, (p.1.0.in_place, (p.1.1.0.in_place, (p.1.1.1.0.in_place, tt))))
in_place number (a ∷ b ∷ c ∷ d ∷ e ∷ all) h p = absurd (omega arith)

within_limit : (number : ℕ) (all : List CopiedParam) → length all ≤ 4 → AllPlaced number all →
    AllByRecursion IsWithinLimit (params_of (four (map (λ copy. copy.param) all)))
within_limit number [] h p = (tt, (tt, (tt, (tt, tt))))
within_limit number (a ∷ []) h p = (p.0.within_limit, (tt, (tt, (tt, tt))))
within_limit number (a ∷ b ∷ []) h p = (p.0.within_limit, (p.1.0.within_limit, (tt, (tt, tt))))
within_limit number (a ∷ b ∷ c ∷ []) h p = (p.0.within_limit, (p.1.0.within_limit, (p.1.1.0.within_limit, (tt, tt))))
within_limit number (a ∷ b ∷ c ∷ d ∷ []) h p = (p.0.within_limit, (p.1.0.within_limit, (p.1.1.0.within_limit, (p.1.1.1.0.within_limit, tt))))
within_limit number (a ∷ b ∷ c ∷ d ∷ e ∷ all) h p = absurd (omega arith)

-- ---- the loop

-- so far these parameters are copied, and those from this index on are left
pub record Taking (buffers : NumberMap PageBuffer) (params : List MsgParam) (first : ℕ) (lane : List ℕ) (before : List Read) (index : ℕ) (taken : TakenParams) (reads : List Read) : Type 0 where
  pub all : List CopiedParam
  pub many : length all ≡ index
  pub kept : copies_in taken ≡ copies all
  pub whole : over_lane (copying buffers params first) lane before ≡ over_lane (from_here buffers (first + index) (drop index params) all) lane reads
  pub added : AppendsReads lane before reads
  pub placed : AllPlaced first all

pub Taking-none : (buffers : NumberMap PageBuffer) (params : List MsgParam) (first : ℕ) (lane : List ℕ) (before : List Read) (taken : TakenParams) →
    taken.params ≡ four [] → taken.places.items ≡ [] → taken.cookies.items ≡ [] → Taking buffers params first lane before 0 taken before
Taking-none buffers params first lane before taken p q r =
    let same : first + 0 ≡ first = omega arith in
    record {
      all = [];
      many = refl;
      kept = rw (p, q, r) refl;
      whole = rw same refl;
      added = AppendsReads-none lane before;
      placed = tt;
    }

pub Taking-places : (buffers : NumberMap PageBuffer) (params : List MsgParam) (first : ℕ) (lane : List ℕ) (before : List Read) (index : ℕ) (taken : TakenParams) (reads : List Read) →
    Taking buffers params first lane before index taken reads → length taken.places.items ≡ index
Taking-places buffers params first lane before index taken reads t =
    ap (λ (c : Copies). length c.places) t.kept ∙ length-map t.all (λ copy. copy.place) ∙ t.many

at_most_one : (cookie : Option ℕ) → length (cookie_list cookie) ≤ 1
at_most_one None = omega arith
at_most_one (Some cookie) = omega arith

few_cookies : (all : List CopiedParam) → length (flat_map (λ copy. cookie_list copy.cookie) all) ≤ length all
few_cookies [] = omega arith
few_cookies (copy ∷ all) =
    omega (arith, few_cookies all, at_most_one copy.cookie, length-append (cookie_list copy.cookie) (flat_map (λ (copy : CopiedParam). cookie_list copy.cookie) all))

pub Taking-cookies : (buffers : NumberMap PageBuffer) (params : List MsgParam) (first : ℕ) (lane : List ℕ) (before : List Read) (index : ℕ) (taken : TakenParams) (reads : List Read) →
    Taking buffers params first lane before index taken reads → length taken.cookies.items ≤ index
Taking-cookies buffers params first lane before index taken reads t =
    omega (arith, ap (λ (c : Copies). length c.cookies) t.kept, few_cookies t.all, t.many)

-- what the code keeps with one more
kept-next : (taken next : TakenParams) (all : List CopiedParam) (copy : CopiedParam) → copies_in taken ≡ copies all → length all < 4 →
    next.params ≡ with_param taken.params (length taken.places.items) copy.param →
    next.places.items ≡ taken.places.items ++ copy.place ∷ [] →
    next.cookies.items ≡ taken.cookies.items ++ cookie_list copy.cookie → copies_in next ≡ copies (all ++ copy ∷ [])
kept-next taken next all copy kept few p q r =
    let params_before : taken.params ≡ four (map (λ copy. copy.param) all) = ap (λ (c : Copies). c.params) kept in
    let places_before : taken.places.items ≡ map (λ copy. copy.place) all = ap (λ (c : Copies). c.places) kept in
    let cookies_before : taken.cookies.items ≡ flat_map (λ copy. cookie_list copy.cookie) all = ap (λ (c : Copies). c.cookies) kept in
    let count : length taken.places.items ≡ length (map (λ (copy : CopiedParam). copy.param) all) =
    ap (λ (ps : List Place). length ps) places_before ∙ length-map all (λ copy. copy.place) ∙ sym (length-map all (λ copy. copy.param)) in
    let room : length (map (λ (copy : CopiedParam). copy.param) all) < 4 = omega (arith, length-map all (λ (copy : CopiedParam). copy.param)) in
    let params : next.params ≡ four (map (λ copy. copy.param) (all ++ copy ∷ [])) =
    p ∙ rw (params_before, count, map-append (λ (copy : CopiedParam). copy.param) all (copy ∷ [])) (four-push (map (λ copy. copy.param) all) copy.param room) in
    let places : next.places.items ≡ map (λ copy. copy.place) (all ++ copy ∷ []) =
    q ∙ rw (places_before, map-append (λ (copy : CopiedParam). copy.place) all (copy ∷ [])) refl in
    let cookies : next.cookies.items ≡ flat_map (λ copy. cookie_list copy.cookie) (all ++ copy ∷ []) =
    r ∙ rw (cookies_before, flat_map-append (λ (copy : CopiedParam). cookie_list copy.cookie) all (copy ∷ [])) (rw append-nil refl) in
    rw (params, places, cookies) refl

pub Taking-next : (buffers : NumberMap PageBuffer) (params : List MsgParam) (first : ℕ) (lane : List ℕ) (before : List Read) (index : ℕ) (taken : TakenParams) (reads : List Read)
    (param d : MsgParam) (number : ℕ) (copy : CopiedParam) (after : List Read) (next : TakenParams) →
    Taking buffers params first lane before index taken reads → index < length params → index < 4 → param ≡ get_or params index d → number ≡ first + index →
    over_lane (copied_param buffers number param) lane reads ≡ Some (Ok copy, after) → IsPlaced number copy.place copy.param →
    next.params ≡ with_param taken.params (length taken.places.items) copy.param →
    next.places.items ≡ taken.places.items ++ copy.place ∷ [] →
    next.cookies.items ≡ taken.cookies.items ++ cookie_list copy.cookie →
    Taking buffers params first lane before (index + 1) next after
Taking-next buffers params first lane before index taken reads param d number copy after next t inside few e n step placed p q r =
    let left : drop index params ≡ param ∷ drop (suc index) params = rw e (drop-cons params index d inside) in
    let one_more : index + 1 ≡ suc index = omega arith in
    let behind : first + suc index ≡ suc number = omega arith in
    let room : length t.all < 4 = omega (arith, t.many) in
    let here : IsPlaced (first + length t.all) copy.place copy.param = let at : first + length t.all ≡ number = omega (arith, t.many) in rw at placed in
    rw one_more
    record {
      all = t.all ++ copy ∷ [];
      many = omega (arith, length-append t.all (copy ∷ []), t.many);
      kept = kept-next taken next t.all copy t.kept room p q r;
      whole =
          t.whole
          ∙ rw (← n, left, behind) (from_here-next buffers number param (drop (suc index) params) t.all lane reads after copy step);
      added = AppendsReads-step (copied_param buffers number param) lane before reads after (Ok copy) t.added step;
      placed = AllPlaced-push first t.all copy t.placed here;
    }

pub Taking-refused : (buffers : NumberMap PageBuffer) (params : List MsgParam) (first : ℕ) (lane : List ℕ) (before : List Read) (index : ℕ) (taken : TakenParams) (reads : List Read)
    (param d : MsgParam) (number : ℕ) (after : List Read) (fault : CopyFault) →
    Taking buffers params first lane before index taken reads → index < length params → param ≡ get_or params index d → number ≡ first + index →
    over_lane (copied_param buffers number param) lane reads ≡ Some (Err fault, after) →
    over_lane (copying buffers params first) lane before ≡ Some (Err fault, after)
Taking-refused buffers params first lane before index taken reads param d number after fault t inside e n step =
    let left : drop index params ≡ param ∷ drop (suc index) params = rw e (drop-cons params index d inside) in
    t.whole ∙ rw (← n, left) (from_here-refused buffers number param (drop (suc index) params) t.all lane reads after fault step)

pub Taking-all : (buffers : NumberMap PageBuffer) (params : List MsgParam) (first : ℕ) (lane : List ℕ) (before : List Read) (taken : TakenParams) (reads : List Read) →
    Taking buffers params first lane before (length params) taken reads →
    over_lane (copying buffers params first) lane before ≡ Some (Ok (copies_in taken), reads)
Taking-all buffers params first lane before taken reads t = t.whole ∙ rw (drop-length params, append-nil t.all, t.kept) refl

pub Taking-placed : (buffers : NumberMap PageBuffer) (params : List MsgParam) (first : ℕ) (lane : List ℕ) (before : List Read) (taken : TakenParams) (reads : List Read) →
    Taking buffers params first lane before (length params) taken reads → length params ≤ 4 →
    ArePlaced first (length params) taken.places.items (params_of taken.params)
Taking-placed buffers params first lane before taken reads t few =
    let params_are : taken.params ≡ four (map (λ copy. copy.param) t.all) = ap (λ (c : Copies). c.params) t.kept in
    let places_are : taken.places.items ≡ map (λ copy. copy.place) t.all = ap (λ (c : Copies). c.places) t.kept in
    let at_most : length t.all ≤ 4 = omega (arith, t.many) in
    rw (params_are, places_are)
    record {
      count_is = length-map t.all (λ copy. copy.place) ∙ t.many;
      numbers = numbers first t.all t.placed;
      in_place = in_place first t.all at_most t.placed;
      within_limit = within_limit first t.all at_most t.placed;
    }

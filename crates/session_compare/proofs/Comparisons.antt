-- Two logs that are compared as they are read.
use Rattle.std.proofs.Common.{◌≡◌, ◌↔◌, ℕ, zero, suc, ◌+◌, ◌<◌, Bool, true, false, List, [], ◌∷◌, ◌++◌, length, take, Option, Some, None, refl, ap, sym, subst, ◌∙◌, arith, length-append}
use Rattle.std.proofs.Math.Seq.{take-append_seam}
use Rattle.std.proofs.lemmas.List.{append_assoc, append-nil, map-append, take-append-le}
use Rattle.std.proofs.lemmas.List.Elements.{filter_map-append}
use Rattle.std.specs.Prelude.{IfOk, IsTrue, Result, Ok, Err, is_some, slice_get}
use Rattle.std.specs.Option.{option_to_list}
use Rattle.base.specs.declared.no_memory.NoMemory.{NoMemory}
use Rattle.compare_model.specs.Comparing.{DifferFirstAt}
use Rattle.session_compare.specs.Comparisons.{AreApart, Compares, IsAhead, Leads, StandsBy, counted, replies_counted}
use Rattle.journal_notes.specs.Logs.{events_in, replies_in}
use Rattle.session_compare.specs.declared.differing.Comparison.{Comparison}
use Rattle.session_compare.specs.declared.differing.Side.{Side}
use Rattle.session_compare.specs.declared.differing.Side.TheVariants.{First, Second}

-- ---- lists

module _ {X : Type 0} where
  at_end : (xs ys : List X) → slice_get (xs ++ ys) (length xs) ≡ slice_get ys 0
  at_end [] ys = refl
  at_end (x ∷ xs) ys = at_end xs ys

  get_on : (n : ℕ) (xs ys : List X) → n < length xs → slice_get (xs ++ ys) n ≡ slice_get xs n
  get_on n [] ys below = absurd (omega (arith, below))
  get_on zero (x ∷ xs) ys below = refl
  get_on (suc n) (x ∷ xs) ys below = get_on n xs ys (omega (arith, below))

  pub none_in : (xs : List X) → length xs ≡ 0 → xs ≡ []
  none_in [] none = refl
  none_in (x ∷ xs) none = absurd (omega (arith, none))

  -- ---- both ways round

  pub apart_back : (same : ℕ) (its other : List X) → AreApart same its other → AreApart same other its
  apart_back same its other are = record {
    front = sym are.front;
    in_one = are.in_two;
    in_two = are.in_one;
    apart = λ both. are.apart (sym both);
  }

  differ_back : (same : ℕ) (its other : List X) → DifferFirstAt its other same → DifferFirstAt other its same
  differ_back same its other is = record { same_before = sym is.same_before; differ = λ both. is.differ (sym both) }

  -- ---- one goes on

  -- where they differ already
  apart_on : (same : ℕ) (its other : List X) (event : X) → AreApart same its other → AreApart same (its ++ event ∷ []) other
  apart_on same its other event are = record {
    front = take-append-le same its (event ∷ []) (omega (arith, are.in_one)) ∙ are.front;
    in_one =
        let long = length-append its (event ∷ []) in
        let within = are.in_one in
        omega (arith, long, within);
    in_two = are.in_two;
    apart = λ both. are.apart (sym (get_on same its (event ∷ []) are.in_one) ∙ both);
  }

  -- that which is ahead
  ahead_on : (same : ℕ) (more now its other : List X) (event : X) → now ≡ more ++ event ∷ [] → IsAhead same more its other
      → IsAhead same now (its ++ event ∷ []) other
  ahead_on same more now its other event pushed is = record {
    goes_on = ap (λ (xs : List X). xs ++ event ∷ []) is.goes_on ∙ append_assoc other more (event ∷ []) ∙ ap (λ (xs : List X). other ++ xs) (sym pushed);
    many = is.many;
  }

  -- one where none is
  level_on : (same : ℕ) (more now its other : List X) (event : X) → more ≡ [] → now ≡ event ∷ [] → IsAhead same more other its
      → IsAhead same now (its ++ event ∷ []) other
  level_on same more now its other event none pushed is =
      let level : other ≡ its = is.goes_on ∙ ap (λ (xs : List X). its ++ xs) none ∙ append-nil its in
      record {
        goes_on = ap (λ (xs : List X). xs ++ event ∷ []) (sym level) ∙ ap (λ (xs : List X). other ++ xs) (sym pushed);
        many = is.many ∙ ap (λ (xs : List X). length xs) (sym level);
      }

  -- that which is behind, where the other has this event next
  module _ (same : ℕ) (more rest its other : List X) (event next : X) (popped : more ≡ next ∷ rest) (is : IsAhead same more other its) where
    other_is : other ≡ its ++ next ∷ rest
    other_is = is.goes_on ∙ ap (λ (xs : List X). its ++ xs) popped

    -- the same
    same_on : event ≡ next → IsAhead (same + 1) rest other (its ++ event ∷ [])
    same_on both = record {
      goes_on = other_is ∙ ap (λ (x : X). its ++ x ∷ rest) (sym both) ∙ sym (append_assoc its (event ∷ []) rest);
      many = ap (λ (n : ℕ). n + 1) is.many ∙ sym (length-append its (event ∷ []));
    }

    -- another one
    apart_now : (event ≡ next → ⊥) → AreApart same (its ++ event ∷ []) other
    apart_now differ =
        subst (λ (n : ℕ). AreApart n (its ++ event ∷ []) other) (sym is.many) (record {
          front = take-append_seam its (event ∷ []) ∙ sym (ap (take (length its)) other_is ∙ take-append_seam its (next ∷ rest));
          in_one =
              let long = length-append its (event ∷ []) in
              omega (arith, long);
          in_two =
              let long = length-append its (next ∷ rest) in
              let whole = ap (λ (xs : List X). length xs) other_is in
              omega (arith, long, whole);
          apart = λ both. differ (same_some event next
              (sym (at_end its (event ∷ [])) ∙ both ∙ ap (λ (xs : List X). slice_get xs (length its)) other_is ∙ at_end its (next ∷ rest)));
        })
      where
        same_some : (x y : X) → Some x ≡ Some y → x ≡ y
        same_some x y both = cc

  -- ---- what they show

  pub apart_shows : (same : ℕ) (one two : List X) → AreApart same one two → DifferFirstAt one two same
  apart_shows same one two are = record { same_before = are.front; differ = are.apart }

  level_shows : (same : ℕ) (more its other : List X) → more ≡ [] → IsAhead same more its other → its ≡ other
  level_shows same more its other none is = is.goes_on ∙ ap (λ (xs : List X). other ++ xs) none ∙ append-nil other

  ahead_shows : (same : ℕ) (more its other : List X) → (more ≡ [] → ⊥) → IsAhead same more its other → DifferFirstAt its other same
  ahead_shows same more its other not_level is =
      subst (DifferFirstAt its other) (sym is.many) (record {
        same_before = ap (take (length other)) is.goes_on ∙ take-append_seam other more
            ∙ sym (ap (take (length other)) (sym (append-nil other)) ∙ take-append_seam other []);
        differ = λ both. not_level (ends more
            (sym (ap (λ (xs : List X). slice_get xs (length other)) is.goes_on ∙ at_end other more)
            ∙ both ∙ ap (λ (xs : List X). slice_get xs (length other)) (sym (append-nil other)) ∙ at_end other []));
      })
    where
      ends : (xs : List X) → slice_get xs 0 ≡ None → xs ≡ []
      ends [] none = refl
      ends (x ∷ xs) none = absurd cc

  -- ---- by the side that is ahead

  module _ (same : ℕ) (more its other : List X) where
    leads_its : (side ahead : Side) → side ≡ ahead → Leads side ahead same more its other → IsAhead same more its other
    leads_its First First is leads = leads
    leads_its Second Second is leads = leads
    leads_its First Second is leads = absurd cc
    leads_its Second First is leads = absurd cc

    its_leads : (side ahead : Side) → side ≡ ahead → IsAhead same more its other → Leads side ahead same more its other
    its_leads First First is leads = leads
    its_leads Second Second is leads = leads
    its_leads First Second is leads = absurd cc
    its_leads Second First is leads = absurd cc

    leads_other : (side ahead : Side) → (side ≡ ahead → ⊥) → Leads side ahead same more its other → IsAhead same more other its
    leads_other First First not leads = absurd (not refl)
    leads_other Second Second not leads = absurd (not refl)
    leads_other First Second not leads = leads
    leads_other Second First not leads = leads

    other_leads : (side ahead : Side) → (side ≡ ahead → ⊥) → IsAhead same more other its → Leads side ahead same more its other
    other_leads First First not leads = absurd (not refl)
    other_leads Second Second not leads = absurd (not refl)
    other_leads First Second not leads = leads
    other_leads Second First not leads = leads

    pub level_so : (side ahead : Side) → more ≡ [] → Leads side ahead same more its other → its ≡ other
    level_so First First none leads = level_shows same more its other none leads
    level_so Second Second none leads = level_shows same more its other none leads
    level_so First Second none leads = sym (level_shows same more other its none leads)
    level_so Second First none leads = sym (level_shows same more other its none leads)

    pub ahead_so : (side ahead : Side) → (more ≡ [] → ⊥) → Leads side ahead same more its other → DifferFirstAt its other same
    ahead_so First First some leads = ahead_shows same more its other some leads
    ahead_so Second Second some leads = ahead_shows same more its other some leads
    ahead_so First Second some leads = differ_back same other its (ahead_shows same more other its some leads)
    ahead_so Second First some leads = differ_back same other its (ahead_shows same more other its some leads)

pub not_both : (b : Bool) → b ≡ false → IsTrue b → ⊥
not_both true is so = absurd cc
not_both false is so = absurd cc

-- ---- the code's comparison

module _ {X : Type 0} where
  -- where they differ, nothing changes
  pub stands_apart : (side : Side) (code : Comparison X) (its other : List X) (event : X) (differ : Bool) → differ ≡ true
      → StandsBy side code its other differ → StandsBy side code (its ++ event ∷ []) other differ
  stands_apart side code its other event true is stands = apart_on code.same its other event stands
  stands_apart side code its other event false is stands = absurd cc

  pub stands_apart_now : (side : Side) (code : Comparison X) (its other : List X) (differ : Bool) → differ ≡ true
      → StandsBy side code its other differ → AreApart code.same its other
  stands_apart_now side code its other true is stands = stands
  stands_apart_now side code its other false is stands = absurd cc

  pub stands_alike : (side : Side) (code : Comparison X) (its other : List X) (differ : Bool) → differ ≡ false
      → StandsBy side code its other differ → Leads side code.ahead code.same code.more.items its other
  stands_alike side code its other true is stands = absurd cc
  stands_alike side code its other false is stands = stands

  alike_stands : (side : Side) (code : Comparison X) (its other : List X) (differ : Bool) → differ ≡ false
      → Leads side code.ahead code.same code.more.items its other → StandsBy side code its other differ
  alike_stands side code its other true is leads = absurd cc
  alike_stands side code its other false is leads = leads

  -- by the other side
  stands_back : (side back : Side) (code : Comparison X) (its other : List X) (differ : Bool) → (side ≡ back → ⊥) → StandsBy side code its other differ
      → StandsBy back code other its differ
  stands_back side back code its other true not stands = apart_back code.same its other stands
  stands_back side back code its other false not stands = by side back code.ahead not stands
    where
      by : (side back ahead : Side) → (side ≡ back → ⊥) → Leads side ahead code.same code.more.items its other
          → Leads back ahead code.same code.more.items other its
      by First First ahead not leads = absurd (not refl)
      by Second Second ahead not leads = absurd (not refl)
      by First Second First not leads = leads
      by First Second Second not leads = leads
      by Second First First not leads = leads
      by Second First Second not leads = leads

  -- where replies are counted, the events stay
  counted_stands : (side : Side) (code : Comparison X) (n : ℕ) (its other : List X) (differ : Bool) → StandsBy side code its other differ
      → StandsBy side (record code { replies = n }) its other differ
  counted_stands side code n its other true stands = stands
  counted_stands side code n its other false stands = stands

  -- what `meets` makes of it
  pub record Meets (old new : Comparison X) (is_same : Bool) (result : Result (Unit {0}) NoMemory) : Type 0 where
    pub on_same : IsTrue is_same → IfOk result (λ _. new ≡ record old { same = old.same + 1 })
    pub on_other : (IsTrue is_same → ⊥) → new ≡ record old { differ = true }

  -- the replies stay
  pub met_replies : (met new : Comparison X) (is_same : Bool) (result : Result (Unit {0}) NoMemory) → Meets met new is_same result
      → IfOk result (λ _. new.replies ≡ met.replies)
  met_replies met new is_same (Err error) meets = tt
  met_replies met new true (Ok done) meets = ap (λ (c : Comparison X). c.replies) (meets.on_same refl)
  met_replies met new false (Ok done) meets = ap (λ (c : Comparison X). c.replies) (meets.on_other (λ so. absurd cc))

  -- ---- the log of one side goes on with an event

  module _ (side : Side) (old : Comparison X) (its other : List X) (event : X) (still : old.differ ≡ false)
      (stands : StandsBy side old its other old.differ) where
    -- which is ahead
    pub pushes : (new : Comparison X) → side ≡ old.ahead → new.more.items ≡ old.more.items ++ event ∷ [] → new.ahead ≡ old.ahead
        → new.same ≡ old.same → new.differ ≡ old.differ → StandsBy side new (its ++ event ∷ []) other new.differ
    pushes new leads pushed ahead same differ =
        let was = leads_its old.same old.more.items its other side old.ahead leads (stands_alike side old its other old.differ still stands) in
        alike_stands side new (its ++ event ∷ []) other new.differ (differ ∙ still)
        (its_leads new.same new.more.items (its ++ event ∷ []) other side new.ahead (leads ∙ sym ahead)
        (subst (λ (n : ℕ). IsAhead n new.more.items (its ++ event ∷ []) other) (sym same)
        (ahead_on old.same old.more.items new.more.items its other event pushed was)))

    module _ (behind : side ≡ old.ahead → ⊥) where
      was_ahead : IsAhead old.same old.more.items other its
      was_ahead = leads_other old.same old.more.items its other side old.ahead behind (stands_alike side old its other old.differ still stands)

      -- which comes ahead
      pub comes_ahead : (new : Comparison X) (left : List X) → old.more.items ≡ [] → left ≡ [] → new.more.items ≡ left ++ event ∷ []
          → new.ahead ≡ side → new.same ≡ old.same → new.differ ≡ old.differ → StandsBy side new (its ++ event ∷ []) other new.differ
      comes_ahead new left none none_left pushed ahead same differ =
          alike_stands side new (its ++ event ∷ []) other new.differ (differ ∙ still)
          (its_leads new.same new.more.items (its ++ event ∷ []) other side new.ahead (sym ahead)
          (subst (λ (n : ℕ). IsAhead n new.more.items (its ++ event ∷ []) other) (sym same)
          (level_on old.same old.more.items new.more.items its other event none (pushed ∙ ap (λ (xs : List X). xs ++ event ∷ []) none_left) was_ahead)))

      -- which is behind, where the other has this event next
      pub meets_next : (met new : Comparison X) (next : X) (is_same : Bool) (result : Result (Unit {0}) NoMemory)
          → (IsTrue is_same ↔ (event ≡ next)) → Meets met new is_same result → met ≡ record old { more = met.more }
          → old.more.items ≡ next ∷ met.more.items → IfOk result (λ _. StandsBy side new (its ++ event ∷ []) other new.differ)
      meets_next met new next is_same (Err error) tells meets left popped = tt
      meets_next met new next true (Ok done) tells meets left popped =
          let is = meets.on_same refl ∙ ap (λ (c : Comparison X). record c { same = c.same + 1 }) left in
          subst (λ (code : Comparison X). StandsBy side code (its ++ event ∷ []) other code.differ) (sym is)
          (alike_stands side (record old { more = met.more; same = old.same + 1 }) (its ++ event ∷ []) other old.differ still
          (other_leads (old.same + 1) met.more.items (its ++ event ∷ []) other side old.ahead behind
          (same_on old.same old.more.items met.more.items its other event next popped was_ahead (tells.0 refl))))
      meets_next met new next false (Ok done) tells meets left popped =
          let is = meets.on_other (λ so. not_true so) ∙ ap (λ (c : Comparison X). record c { differ = true }) left in
          subst (λ (code : Comparison X). StandsBy side code (its ++ event ∷ []) other code.differ) (sym is)
          (apart_now old.same old.more.items met.more.items its other event next popped was_ahead (λ both. not_true (tells.1 both)))
        where
          not_true : IsTrue false → ⊥
          not_true so = absurd cc

-- ---- logs

module _ {E R : Type 0} where
  reply_alone : (event : E) (told : Option R) → replies_in ((event, told) ∷ []) ≡ option_to_list told
  reply_alone event None = refl
  reply_alone event (Some reply) = refl

  replies_more : (log : List (E × Option R)) (logged : E × Option R)
      → length (replies_in (log ++ logged ∷ [])) ≡ counted First (length (replies_in log)) (is_some logged.1)
  replies_more log logged =
      ap (λ (rs : List R). length rs) (filter_map-append (λ (l : E × Option R). l.1) log (logged ∷ [])
      ∙ ap (λ (rest : List R). replies_in log ++ rest) (reply_alone logged.0 logged.1))
      ∙ length-append (replies_in log) (option_to_list logged.1) ∙ one_or_none (length (replies_in log)) logged.1
    where
      one_or_none : (n : ℕ) (told : Option R) → n + length (option_to_list told) ≡ counted First n (is_some told)
      one_or_none n None = omega arith
      one_or_none n (Some reply) = refl

  counted_more : (side : Side) (its other : List (E × Option R)) (logged : E × Option R)
      → length (replies_counted side (its ++ logged ∷ []) other) ≡ counted side (length (replies_counted side its other)) (is_some logged.1)
  counted_more First its other logged = replies_more its logged
  counted_more Second its other logged = refl

  -- an entry of one log more
  pub adds_entry : (side : Side) (old counts new : Comparison E) (logged : E × Option R) (its other : List (E × Option R))
      (result : Result (Unit {0}) NoMemory) (told : Bool) → told ≡ is_some logged.1 → Compares side old its other
      → counts ≡ record old { replies = counted side old.replies told }
      → IfOk result (λ _. new.replies ≡ counts.replies)
      → ((these those : List E) → StandsBy side counts these those counts.differ
      → IfOk result (λ _. StandsBy side new (these ++ logged.0 ∷ []) those new.differ))
      → IfOk result (λ _. Compares side new (its ++ logged ∷ []) other)
  adds_entry side old counts new logged its other (Err error) told tells was same replies adds = tt
  adds_entry side old counts new logged its other (Ok done) told tells was same replies adds =
      let stands = subst (λ (code : Comparison E). StandsBy side code (events_in its) (events_in other) code.differ) (sym same)
      (counted_stands side old (counted side old.replies told) (events_in its) (events_in other) old.differ was.events) in
      record {
        events = subst (λ (events : List E). StandsBy side new events (events_in other) new.differ)
            (sym (map-append (λ (l : E × Option R). l.0) its (logged ∷ []))) (adds (events_in its) (events_in other) stands);
        replies = replies ∙ ap (λ (code : Comparison E). code.replies) same ∙ ap (counted side old.replies) tells
            ∙ ap (λ (n : ℕ). counted side n (is_some logged.1)) was.replies
            ∙ sym (counted_more side its other logged);
      }

  -- by the other log
  pub compares_back : (code : Comparison E) (one two : List (E × Option R)) → Compares First code one two → Compares Second code two one
  compares_back code one two is = record {
    events = stands_back First Second code (events_in one) (events_in two) code.differ (λ both. absurd cc) is.events;
    replies = is.replies;
  }

  pub compares_on : (code : Comparison E) (one two : List (E × Option R)) → Compares Second code two one → Compares First code one two
  compares_on code one two is = record {
    events = stands_back Second First code (events_in two) (events_in one) code.differ (λ both. absurd cc) is.events;
    replies = is.replies;
  }

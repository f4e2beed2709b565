-- The passes that were joined into one seat.
use Rattle.std.proofs.Common.{◌≡◌, ℕ, ◌+◌, ◌<◌, List, [], ◌∷◌, ◌++◌, length, map, sym, refl, ap, ◌∙◌, subst, arith, append_assoc}
use Rattle.std.specs.Prelude.{All, Option}
use Rattle.std.proofs.lemmas.List.Elements.{All-nil, All-cons, All-head, All-append, All-weaker}
use mathlib.Core.List.{IsPrefix}
use Rattle.atomic_table.specs.declared.shared.Seat.{Seat}
use Rattle.core_lock.specs.declared.lock.CoreLock.{CoreLock}
use Rattle.core_lock.specs.declared.pass.Pass.{Pass}
use Rattle.core_lock.specs.declared.view.Record.{Record}
use Rattle.core_lock.specs.declared.view.Stand.TheVariants.{Outside}
use Rattle.core_lock.specs.declared.view.View.{View}
use Rattle.core_lock.specs.Counts.{times, same, made_by}
use Rattle.core_lock.specs.Rule.{numbers_of, IsRecord}
use Rattle.core_lock.specs.Steps.{own_number, own_made, first_of, taken_over, joined}
use Rattle.core_lock.proofs.Totals.{times_there}
use Rattle.core_lock.specs.Passes.{AreAll, count_of, view_of, number, seen, made, IsPassOf, IsIdle, IsIn, Tells}
use Rattle.core_lock.proofs.Histories.{records_untaken}
use Rattle.core_lock.proofs.Joining.{times_joined, length_joined}

-- of a list that has what two have, each part has it
All-left : {X : Type 0} (P : X → Type 0) (xs ys : List X) → All P (xs ++ ys) → All P xs
All-left P [] ys h = All-nil P
All-left P (x ∷ xs) ys h = All-cons P x xs (All-head P x (xs ++ ys) h) (All-left P xs ys (Rattle.std.proofs.lemmas.List.Elements.All-tail P x (xs ++ ys) h))

All-right : {X : Type 0} (P : X → Type 0) (xs ys : List X) → All P (xs ++ ys) → All P ys
All-right P [] ys h = h
All-right P (x ∷ xs) ys h = All-right P xs ys (Rattle.std.proofs.lemmas.List.Elements.All-tail P x (xs ++ ys) h)

module _ {T E G : Type 0} (maker : E → ℕ) (basis : T → G) (lock : CoreLock T E G) where
  abbrev pub Ready : Pass T E G → Type 0
  Ready p = IsPassOf maker basis lock p × IsIdle p

  tells_by : (history : List E) (p : Pass T E G) (rs : List (Record E)) (r : Record E) → rs ≡ r ∷ [] → r.seen ≡ [] → own_number rs ≡ number p → made p ≡ own_made rs
      → All (IsRecord maker history) (taken_over (seen p) rs) → IsIn maker history p
  tells_by history p rs r one nothing is_number is_made all =
      let head = All-head (IsRecord maker history) _ [] (subst (λ ys. All (IsRecord maker history) (taken_over (seen p) ys)) one all) in
      let n : r.number ≡ number p = sym (ap own_number one) ∙ is_number in (
        subst (λ ys. IsPrefix (first_of ys (seen p)) history) nothing head.0,
        ap (λ (k : ℕ). made_by maker k history) (sym n) ∙ (sym head.1 ∙ sym (is_made ∙ ap own_made one)),
      )

  -- a pass's own view tells of it
  pub tells_itself : (p : Pass T E G) → IsPassOf maker basis lock p → Tells maker (view_of p) p
  tells_itself p is history all = tells_by history p (view_of p).records is.alone.0 is.alone.1 is.alone.2 is.numbered refl all

  pub tells_left : (v u : View E G) (p : Pass T E G) → Tells maker v p → Tells maker (joined v u) p
  tells_left v u p tells history all =
      tells history (All-left (IsRecord maker history) (taken_over v.seen v.records) (taken_over u.seen u.records)
      (records_untaken maker (joined v u).seen history (joined v u).records all))

  pub tells_right : (v u : View E G) (p : Pass T E G) → Tells maker u p → Tells maker (joined v u) p
  tells_right v u p tells history all =
      tells history (All-right (IsRecord maker history) (taken_over v.seen v.records) (taken_over u.seen u.records)
      (records_untaken maker (joined v u).seen history (joined v u).records all))

  -- the passes that were taken in so far, and those that are left
  pub record IsGathered (given left : List (Pass T E G)) (all : Seat (Option T) (View E G)) : Type 0 where
    pub done : List (Pass T E G)
    pub given_is : left ++ done ≡ given
    pub tells : All (Tells maker all.me.0) done
    pub numbers : (n : ℕ) → times n (numbers_of all.me.0) ≡ times n (map number done)
    pub table_is : all.table_id ≡ lock.table.shared.table_id
    pub outside : all.me.0.stand ≡ Outside
    pub recorded : 0 < length all.me.0.records
    pub ready : All Ready left

  own_numbers : (n : ℕ) (p : Pass T E G) → IsPassOf maker basis lock p → times n (numbers_of (view_of p)) ≡ same (number p) n
  own_numbers n p is =
      let e : times n (numbers_of (view_of p)) ≡ same is.alone.0.number n + 0 = ap (λ (rs : List (Record E)). times n (map (λ r. r.number) rs)) is.alone.1 in
      let m : is.alone.0.number ≡ number p = sym (ap own_number is.alone.1) ∙ is.numbered in
      let f : same is.alone.0.number n ≡ same (number p) n = ap (λ (k : ℕ). same k n) m in
      omega arith

  own_recorded : (p : Pass T E G) → IsPassOf maker basis lock p → 0 < length (view_of p).records
  own_recorded p is = let e : length (view_of p).records ≡ 1 = ap length is.alone.1 in omega arith

  -- the last pass comes first
  pub gathers_first : (given left : List (Pass T E G)) (p : Pass T E G) → given ≡ left ++ p ∷ [] → All Ready given → IsGathered given left p.seat
  gathers_first given left p is ready =
      let both = subst (All Ready) is ready in
      let mine = All-head Ready p [] (All-right Ready left (p ∷ []) both) in
      record {
        done = p ∷ [];
        given_is = sym is;
        tells = All-cons (Tells maker (view_of p)) p [] (tells_itself p mine.0) (All-nil (Tells maker (view_of p)));
        numbers = λ n. let e = own_numbers n p mine.0 in omega arith;
        table_is = mine.0.table_is;
        outside = mine.1.0;
        recorded = own_recorded p mine.0;
        ready = All-left Ready left (p ∷ []) both;
      }

  -- what a join of the next one needs
  pub next_ready : (given left rest : List (Pass T E G)) (p : Pass T E G) (all : Seat (Option T) (View E G)) → IsGathered given left all → left ≡ rest ++ p ∷ [] → Ready p
  next_ready given left rest p all g is = All-head Ready p [] (All-right Ready rest (p ∷ []) (subst (All Ready) is g.ready))

  pub gathers_next : (given left rest : List (Pass T E G)) (p : Pass T E G) (all seat more : Seat (Option T) (View E G)) → IsGathered given left all → left ≡ rest ++ p ∷ [] → seat ≡ p.seat
      → more.table_id ≡ all.table_id → more.me ≡ (joined all.me.0 seat.me.0, all.me.1) → IsGathered given rest more
  gathers_next given left rest p all seat more g is same_seat same_table after =
      let both = subst (All Ready) is g.ready in
      let mine = All-head Ready p [] (All-right Ready rest (p ∷ []) both) in
      let view : more.me.0 ≡ joined all.me.0 (view_of p) = ap (λ h. h.0) after ∙ ap (λ (t : Seat (Option T) (View E G)). joined all.me.0 t.me.0) same_seat in
      let told : All (Tells maker (joined all.me.0 (view_of p))) (p ∷ g.done) = All-cons (Tells maker (joined all.me.0 (view_of p))) p g.done (tells_right all.me.0 (view_of p) p (tells_itself p mine.0))
      (All-weaker (Tells maker all.me.0) (Tells maker (joined all.me.0 (view_of p))) (λ q. tells_left all.me.0 (view_of p) q) g.done g.tells) in
      record {
        done = p ∷ g.done;
        given_is = sym (append_assoc rest (p ∷ []) g.done) ∙ (ap (λ ps. ps ++ g.done) (sym is) ∙ g.given_is);
        tells = subst (λ (v : View E G). All (Tells maker v) (p ∷ g.done)) (sym view) told;
        numbers = λ n.
            let e : times n (numbers_of more.me.0) ≡ times n (numbers_of (joined all.me.0 (view_of p))) = ap (λ (v : View E G). times n (numbers_of v)) view in
            let f = times_joined n all.me.0 (view_of p) in
            let h = own_numbers n p mine.0 in
            let k = g.numbers n in omega arith;
        table_is = same_table ∙ g.table_is;
        outside = ap (λ (v : View E G). v.stand) view ∙ g.outside;
        recorded =
            let e : length more.me.0.records ≡ length (joined all.me.0 (view_of p)).records = ap (λ (v : View E G). length v.records) view in
            let f = length_joined all.me.0 (view_of p) in
            let k = g.recorded in omega arith;
        ready = All-left Ready rest (p ∷ []) both;
      }

  -- none is left in the end
  pub all_tell : (given left : List (Pass T E G)) (all : Seat (Option T) (View E G)) → IsGathered given left all → length left ≡ 0 → All (Tells maker all.me.0) given
  all_tell given [] all g none = subst (All (Tells maker all.me.0)) g.given_is g.tells
  all_tell given (p ∷ ps) all g none = absurd (omega arith)

  -- there is a first one
  pub some_pass : (given : List (Pass T E G)) → AreAll lock given → 0 < count_of lock → length given ≡ 0 → ⊥
  some_pass [] every some_number none = let a = every 0 in let b = times_there 0 0 (count_of lock) (omega arith) (omega arith) in omega arith
  some_pass (p ∷ ps) every some_number none = omega arith

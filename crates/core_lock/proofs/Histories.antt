-- Beginnings of one list, and the entries of one number.
use Rattle.std.proofs.Common.{◌≡◌, ℕ, ◌≤◌, ◌≢◌, List, [], ◌∷◌, ◌++◌, length, map, Bool, true, false, cond, sym, refl, ap, ◌∙◌, arith, append_assoc, eq-eqb, ne_eqb}
use Rattle.std.specs.Prelude.{All, nat_lt}
use mathlib.Core.Logic.{dite}
use mathlib.Core.List.{IsPrefix}
use native.Mathlib.Decide.{ℕ_discrete}
use Rattle.std.proofs.lemmas.List.{append-nil}
use Rattle.std.proofs.lemmas.List.Elements.{All-nil, All-cons, All-head, All-tail}
use Rattle.core_lock.specs.declared.view.Record.{Record}
use Rattle.core_lock.specs.Counts.{made_by, times}
use Rattle.core_lock.specs.Rule.{IsRecord}
use Rattle.core_lock.specs.Steps.{longer, own_number, first_of, taken_over, remade, own_alone, all_others}
use Rattle.core_lock.proofs.Totals.{same_self}

module _ {A : Type 0} where
  pub prefix_self : (xs : List A) → IsPrefix xs xs
  prefix_self [] = ([], refl)
  prefix_self (x ∷ xs) = let r = prefix_self xs in (r.0, ap (λ ys. x ∷ ys) r.1)

  pub prefix_none : (xs : List A) → IsPrefix [] xs
  prefix_none xs = (xs, refl)

  pub prefix_trans : (xs ys zs : List A) → IsPrefix xs ys → IsPrefix ys zs → IsPrefix xs zs
  prefix_trans xs ys zs p q = (p.0 ++ q.0, sym (append_assoc xs p.0 q.0) ∙ (ap (λ w. w ++ q.0) p.1 ∙ q.1))

  pub prefix_more : (xs ys : List A) → IsPrefix xs (xs ++ ys)
  prefix_more xs ys = (ys, refl)

module _ {E : Type 0} (maker : E → ℕ) where
  pub made_by-append : (n : ℕ) (xs ys : List E) → made_by maker n (xs ++ ys) ≡ made_by maker n xs ++ made_by maker n ys
  made_by-append n [] ys = refl
  made_by-append n (x ∷ xs) ys = dite (ℕ_discrete (maker x) n)
      (λ e. rw (eq-eqb (maker x) n e) (ap (λ zs. x ∷ zs) (made_by-append n xs ys)))
      (λ ne. rw (ne_eqb (maker x) n ne) (made_by-append n xs ys))

  -- of entries that are all of one number, another has none, and that one has all
  pub made_by_others : (n m : ℕ) (xs : List E) → m ≢ n → All (λ e. maker e ≡ n) xs → made_by maker m xs ≡ []
  made_by_others n m [] apart all = refl
  made_by_others n m (x ∷ xs) apart all = rw (ne_eqb (maker x) m (λ e. apart (sym e ∙ All-head (λ e. maker e ≡ n) x xs all))) (made_by_others n m xs apart (All-tail (λ e. maker e ≡ n) x xs all))

  pub made_by_all : (n : ℕ) (xs : List E) → All (λ e. maker e ≡ n) xs → made_by maker n xs ≡ xs
  made_by_all n [] all = refl
  made_by_all n (x ∷ xs) all = rw (eq-eqb (maker x) n (All-head (λ e. maker e ≡ n) x xs all)) (ap (λ zs. x ∷ zs) (made_by_all n xs (All-tail (λ e. maker e ≡ n) x xs all)))

pub longer_prefix : {E : Type 0} (xs ys zs : List E) → IsPrefix xs zs → IsPrefix ys zs → IsPrefix (longer xs ys) zs
longer_prefix xs ys zs p q = either_prefix (nat_lt (length xs) (length ys))
  where
    either_prefix : (b : Bool) → IsPrefix (cond b ys xs) zs
    either_prefix true = q
    either_prefix false = p

module _ {E : Type 0} (maker : E → ℕ) where
  record_stays : (n : ℕ) (xs new : List E) → All (λ e. maker e ≡ n) new → (r : Record E) → r.number ≢ n → IsRecord maker xs r → IsRecord maker (xs ++ new) r
  record_stays n xs new all r apart is = (
    prefix_trans r.seen xs (xs ++ new) is.0 (prefix_more xs new),
    is.1 ∙ (sym (append-nil _) ∙ (ap (λ ys. made_by maker r.number xs ++ ys) (sym (made_by_others maker n r.number new apart all)) ∙ sym (made_by-append maker r.number xs new))),
  )

  -- records of other numbers stay what they are where one number's entries are added
  pub records_stay : (n : ℕ) (xs new : List E) → All (λ e. maker e ≡ n) new → (rs : List (Record E)) → times n (map (λ r. r.number) rs) ≡ 0 → All (IsRecord maker xs) rs → All (IsRecord maker (xs ++ new)) rs
  records_stay n xs new all [] none is = All-nil (IsRecord maker (xs ++ new))
  records_stay n xs new all (r ∷ rs) none is =
      All-cons (IsRecord maker (xs ++ new)) r rs
      (record_stays n xs new all r (λ e. let h = same_self r.number n e in absurd (omega arith)) (All-head (IsRecord maker xs) r rs is))
      (records_stay n xs new all rs (omega arith) (All-tail (IsRecord maker xs) r rs is))

  -- one's own record has what is added
  pub records_grow : (n : ℕ) (xs new : List E) → All (λ e. maker e ≡ n) new → (rs : List (Record E)) → own_number rs ≡ n → times n (map (λ r. r.number) rs) ≤ 1 → All (IsRecord maker xs) rs
      → All (IsRecord maker (xs ++ new)) (remade maker (xs ++ new) rs)
  records_grow n xs new all [] own once is = All-nil (IsRecord maker (xs ++ new))
  records_grow n xs new all (r ∷ rs) own once is =
      All-cons (IsRecord maker (xs ++ new)) _ rs
      (prefix_trans r.seen xs (xs ++ new) (All-head (IsRecord maker xs) r rs is).0 (prefix_more xs new), refl)
      (records_stay n xs new all rs (let h = same_self r.number n own in omega arith) (All-tail (IsRecord maker xs) r rs is))

  first_of_prefix : (zs ys xs : List E) → IsPrefix zs xs → IsPrefix ys xs → IsPrefix (first_of zs ys) xs
  first_of_prefix [] ys xs p q = q
  first_of_prefix (z ∷ zs) ys xs p q = p

  of_first_prefix : (zs ys xs : List E) → IsPrefix (first_of zs ys) xs → IsPrefix zs xs
  of_first_prefix [] ys xs p = prefix_none xs
  of_first_prefix (z ∷ zs) ys xs p = p

  pub records_taken : (seen xs : List E) (rs : List (Record E)) → IsPrefix seen xs → All (IsRecord maker xs) rs → All (IsRecord maker xs) (taken_over seen rs)
  records_taken seen xs [] p is = is
  records_taken seen xs (r ∷ rs) p is =
      let head = All-head (IsRecord maker xs) r rs is in
      All-cons (IsRecord maker xs) _ rs (first_of_prefix r.seen seen xs head.0 p, head.1) (All-tail (IsRecord maker xs) r rs is)

  pub records_untaken : (seen xs : List E) (rs : List (Record E)) → All (IsRecord maker xs) (taken_over seen rs) → All (IsRecord maker xs) rs
  records_untaken seen xs [] is = is
  records_untaken seen xs (r ∷ rs) is =
      let head = All-head (IsRecord maker xs) _ rs is in
      All-cons (IsRecord maker xs) r rs (of_first_prefix r.seen seen xs head.0, head.1) (All-tail (IsRecord maker xs) _ rs is)

  pub records_alone : (xs : List E) (rs : List (Record E)) → All (IsRecord maker xs) rs → All (IsRecord maker xs) (own_alone rs)
  records_alone xs [] is = is
  records_alone xs (r ∷ rs) is = All-cons (IsRecord maker xs) r [] (All-head (IsRecord maker xs) r rs is) (All-nil (IsRecord maker xs))

  pub records_others : (xs : List E) (rs : List (Record E)) → All (IsRecord maker xs) rs → All (IsRecord maker xs) (all_others rs)
  records_others xs [] is = is
  records_others xs (r ∷ rs) is = All-tail (IsRecord maker xs) r rs is

  pub numbers-remade : (xs : List E) (rs : List (Record E)) → map (λ r. r.number) (remade maker xs rs) ≡ map (λ r. r.number) rs
  numbers-remade xs [] = refl
  numbers-remade xs (r ∷ rs) = refl

  pub length-remade : (xs : List E) (rs : List (Record E)) → length (remade maker xs rs) ≡ length rs
  length-remade xs [] = refl
  length-remade xs (r ∷ rs) = refl

pub numbers-taken_over : {E : Type 0} (seen : List E) (rs : List (Record E)) → map (λ r. r.number) (taken_over seen rs) ≡ map (λ r. r.number) rs
numbers-taken_over seen [] = refl
numbers-taken_over seen (r ∷ rs) = refl

pub length-taken_over : {E : Type 0} (seen : List E) (rs : List (Record E)) → length (taken_over seen rs) ≡ length rs
length-taken_over seen [] = refl
length-taken_over seen (r ∷ rs) = refl

-- What a reader has left, at small values.
use Rattle.std.proofs.Common.{◌≡◌, ℕ, ◌≤◌, List, [], ◌∷◌, ◌++◌, length, get_or, true, false, refl, sym, ap, ◌∙◌, append_assoc, append-nil, length-append, inl, inr, arith, eqb, lit<, lit≤}
use Rattle.std.proofs.lemmas.List.{get_or_append_left}
use Rattle.std.proofs.lemmas.List.Elements.{All-cons, All-nil}
use Rattle.std.specs.Prelude.{codes}
use Rattle.text_lines.specs.Lines.{Lacks}
use Rattle.line_port.specs.Examples.{telling}
use Rattle.line_port.proofs.laws.worked_examples.Goals as goal

abbrev is_other : ℕ → Type 0
is_other b = eqb b 10 ≡ false

lacks_ab : Lacks 10 (codes "ab")
lacks_ab = All-cons is_other 97 (98 ∷ []) refl (All-cons is_other 98 [] refl (All-nil is_other))

-- no text in front of these is long
few : (text rest : List ℕ) → 97 ∷ 98 ∷ 10 ∷ [] ≡ text ++ rest → length text ≤ 3
few text rest e = omega (arith, length-append text rest, ap (λ (l : List ℕ). length l) e)

-- a line feed is no part of what can be lost
no_feed_lost : (text : List ℕ) → Lacks 10 text → 97 ∷ 98 ∷ 10 ∷ 99 ∷ [] ≡ text ++ 99 ∷ [] → ⊥
no_feed_lost text lacks e =
    let three : length text ≡ 3 = omega (arith, length-append text (99 ∷ []), ap (λ (l : List ℕ). length l) e) in
    let feed : get_or text 2 0 ≡ 10 =
    sym (get_or_append_left text (99 ∷ []) 0 2 (omega arith)) ∙ ap (λ (l : List ℕ). get_or l 2 0) (sym e) in
    let yes : eqb (get_or text 2 0) 10 ≡ true = ap (λ (b : ℕ). eqb b 10) feed in
    let no : eqb (get_or text 2 0) 10 ≡ false = lacks 2 0 (omega arith) in
    cc

-- the last byte stays, where some stay
same_last : (text : List ℕ) → 97 ∷ [] ≡ text ++ 98 ∷ [] → ⊥
same_last [] e = let same : 97 ≡ 98 = ap (λ (l : List ℕ). get_or l 0 0) e in omega (arith, same)
same_last (t ∷ text) e =
    omega (arith, length-append (t ∷ text) (98 ∷ []), ap (λ (l : List ℕ). length l) e)

pub returns : goal.returns
returns c = record {
  longest = refl;
  a_line = refl;
  a_long_line = refl;
  an_end = refl;
  adds = refl;
  adds_untold = tt;
  forgets = λ e. e;
  cut_off = refl;
  over = refl;
  unread = refl;
  unsaid = refl;
  read_fault = refl;
  write_fault = refl;
  at_its_end = refl;
  no_fault = refl;
  no_memory = refl;
  whole = record { lacks = lacks_ab; short = lit≤ tt; consumed = refl };
  empty = record { lacks = All-nil is_other; short = lit≤ tt; consumed = refl };
  cut = record { text = codes "ab"; lacks = lacks_ab; some = lit< tt; short = lit≤ tt; consumed = refl; ended = refl };
  ended = (refl, refl);
  lost = record { text = codes "a"; lacks = All-cons is_other 97 [] refl (All-nil is_other); consumed = refl };
  at_the_limit = λ line lacks e. record { lacks = lacks; short = omega arith; consumed = sym (append-nil (line ++ 10 ∷ [])) };
  past_the_limit = λ line lacks e. record {
    text = line;
    lacks = lacks;
    long = omega arith;
    consumed = inl (sym (append-nil (line ++ 10 ∷ [])));
  };
  no_line_feed = λ whole. let e : 97 ∷ 98 ∷ [] ≡ 97 ∷ 98 ∷ 10 ∷ [] = whole.consumed in cc;
  two_lines = λ whole. let e : true ≡ false = whole.lacks 1 0 (lit< tt) in cc;
  more_left = λ over. let e : 97 ∷ 98 ∷ [] ≡ [] = over.1 in cc;
  nothing_cut = λ cut.
      let e : [] ≡ cut.text = cut.consumed ∙ append-nil cut.text in
      let none : 0 ≡ length cut.text = ap (λ (l : List ℕ). length l) e in
      omega (arith, none, cut.some);
  lost_line = λ lost. no_feed_lost lost.text lost.lacks lost.consumed;
  short = λ long. elim long.consumed [
    | inl e ↦ omega (arith, few long.text _ (e ∙ append_assoc long.text (10 ∷ []) []), long.long)
    | inr p ↦ omega (arith, few long.text [] p.0, long.long)
  ];
  too_long = λ line e whole. omega (arith, whole.short);
  a_turn = (
    telling (codes "c") (codes "x"),
    (tt, λ some. record { lacks = lacks_ab; short = lit≤ tt; consumed = refl }, refl),
    (telling (codes "c") (codes "xok"), (tt, refl, refl), refl),
  );
  a_line_kept = λ happened.
      let taken = happened.1 refl in let e : 97 ∷ 98 ∷ 10 ∷ [] ≡ 97 ∷ 98 ∷ 10 ∷ 97 ∷ 98 ∷ 10 ∷ [] = taken.consumed in cc;
  unwritten = λ happened. let e : 120 ∷ [] ≡ 120 ∷ 111 ∷ 107 ∷ [] = happened.1 in cc;
  closes = (
    record { history = tt; left = record { text = []; lacks = All-nil is_other; consumed = refl }; held = refl },
    λ some. (refl, refl),
  );
  closes_early = λ closed. let rest = closed.1 refl in let e : 99 ∷ [] ≡ [] = rest.1 in cc;
  loses_part = record {
    history = tt;
    left = record { text = codes "ab"; lacks = lacks_ab; consumed = refl };
    held = refl;
  };
  leaves_others = λ closed. same_last closed.left.text closed.left.consumed;
  gathered = (refl, lit≤ tt);
}

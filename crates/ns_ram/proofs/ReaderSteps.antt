-- One wish of a reader: what the lane gives for it, and what the next read does.
use Rattle.std.proofs.Common.{◌≡◌, ℕ, zero, suc, ◌*◌, ◌/◌, ◌≤◌, Bool, true, false, ◌==◌, ◌&&◌, List, [], ◌∷◌, ◌++◌, length, take, drop, Some, None, refl, sym, ◌∙◌, ap, arith, cond}
use Rattle.std.proofs.lemmas.List.{take-append-drop, length-take-le, length-append, length-take}
use Rattle.std.proofs.lemmas.Bool.{eqb-true, eq-eqb}
use Rattle.std.proofs.lemmas.Option.{option_and_then_some}
use Rattle.std.proofs.Math.Seq.{take-append_seam}
use Rattle.ns_ram.specs.declared.read.Read.{Read}
use Rattle.ns_ram.specs.Lane.{bytes_at, bytes_from}
use Rattle.ns_ram.specs.Reads.{listed, HoldsReads}
use Rattle.ns_ram.specs.Reader.{words_in, up_to_failing, next_bytes, next_words, lane_bytes, lane_words}
use Rattle.ns_ram.proofs.WordList.{words_in-take, length-words_of, up_to_failing-front, up_to_failing-itself, up_to_failing-append}

-- a value under a test
if_some : {A : Type 0} (b : Bool) (x y : A) → cond b (Some x) None ≡ Some y → (b ≡ true) × (x ≡ y)
if_some true x y e = (refl, cc)
if_some false x y e = absurd (cc)

Some-injective : {A : Type 0} {x y : A} → Some x ≡ Some y → x ≡ y
Some-injective e = cc

and_true : (a b : Bool) → (a && b) ≡ true → (a ≡ true) × (b ≡ true)
and_true true b e = (refl, e)
and_true false b e = absurd (cc)

-- ---- what is listed

pub HoldsReads-append : (lane : List ℕ) (xs ys : List Read) → HoldsReads lane xs → HoldsReads lane ys →
    HoldsReads lane (xs ++ ys)
HoldsReads-append lane [] ys p q = q
HoldsReads-append lane (x ∷ xs) ys p q = (p.0, HoldsReads-append lane xs ys p.1 q)

pub HoldsReads-parts : (lane : List ℕ) (xs ys : List Read) → HoldsReads lane (xs ++ ys) →
    HoldsReads lane xs × HoldsReads lane ys
HoldsReads-parts lane [] ys p = (tt, p)
HoldsReads-parts lane (x ∷ xs) ys p = let h = HoldsReads-parts lane xs ys p.1 in ((p.0, h.0), h.1)

pub HoldsReads-listed : (lane : List ℕ) (addr : ℕ) (got : List ℕ) → bytes_at lane addr (length got) ≡ got →
    HoldsReads lane (listed addr got)
HoldsReads-listed lane addr [] e = tt
HoldsReads-listed lane addr (b ∷ bs) e = (e, tt)

pub listed-HoldsReads : (lane : List ℕ) (addr : ℕ) (got : List ℕ) → HoldsReads lane (listed addr got) →
    bytes_at lane addr (length got) ≡ got
listed-HoldsReads lane addr [] h = refl
listed-HoldsReads lane addr (b ∷ bs) h = h.0

-- ---- bytes

pub lane_bytes-some : (lane : List ℕ) (addr len : ℕ) (got : List ℕ) → lane_bytes lane addr len ≡ Some got →
    (got ≡ bytes_at lane addr len) × (length got ≡ len)
lane_bytes-some lane addr len got e =
    let h = if_some (length (bytes_at lane addr len) == len) (bytes_at lane addr len) got e in
    let n : length (bytes_at lane addr len) ≡ len = eqb-true _ _ h.0 in
    (sym h.1, rw (← h.1) n)

pub lane_bytes-held : (lane : List ℕ) (addr len : ℕ) (got : List ℕ) → length got ≡ len →
    bytes_at lane addr (length got) ≡ got → lane_bytes lane addr len ≡ Some got
lane_bytes-held lane addr len got n e = rw (← n, e, eq-eqb (length got) (length got) refl) refl

pub next_bytes-listed : (addr len : ℕ) (got : List ℕ) (rest : List Read) → length got ≡ len →
    next_bytes addr len (listed addr got ++ rest) ≡ Some (got, rest)
next_bytes-listed addr zero [] rest n = refl
next_bytes-listed addr (suc len) [] rest n = absurd (cc)
next_bytes-listed addr zero (b ∷ bs) rest n = absurd (cc)
next_bytes-listed addr (suc len) (b ∷ bs) rest n =
    rw (eq-eqb addr addr refl, eq-eqb (length (b ∷ bs)) (suc len) n) refl

listed-one : (read : Read) (reads : List Read) (addr : ℕ) (got : List ℕ) → read.addr ≡ addr → read.bytes ≡ got →
    (got ≡ [] → ⊥) → read ∷ reads ≡ listed addr got ++ reads
listed-one read reads addr [] p q h = absurd (h refl)
listed-one read reads addr (b ∷ bs) p q h = rw (← p, ← q) refl

pub next_bytes-some : (addr len : ℕ) (reads : List Read) (got : List ℕ) (rest : List Read) →
    next_bytes addr len reads ≡ Some (got, rest) → (length got ≡ len) × (reads ≡ listed addr got ++ rest)
next_bytes-some addr zero reads got rest e =
    let none : [] ≡ got = ap (λ (p : List ℕ × List Read). p.0) (Some-injective e) in
    let others : reads ≡ rest = ap (λ (p : List ℕ × List Read). p.1) (Some-injective e) in
    rw (← none, ← others) (refl, refl)
next_bytes-some addr (suc len) [] got rest e = absurd (cc)
next_bytes-some addr (suc len) (read ∷ reads) got rest e =
    let h = if_some ((read.addr == addr) && (length read.bytes == suc len)) (read.bytes, reads) (got, rest) e in
    let tests = and_true (read.addr == addr) (length read.bytes == suc len) h.0 in
    let same : read.bytes ≡ got = ap (λ (p : List ℕ × List Read). p.0) h.1 in
    let others : reads ≡ rest = ap (λ (p : List ℕ × List Read). p.1) h.1 in
    let n : length got ≡ suc len = rw same at (eqb-true (length read.bytes) (suc len) tests.1) in
    let some : got ≡ [] → ⊥ = λ q. let wrong : 0 ≡ suc len = sym (ap length q) ∙ n in cc in
    (n, rw (← others) (listed-one read reads addr got (eqb-true _ _ tests.0) same some))

-- ---- words

-- the words that were got, and the bytes that they are made of
pub record WordsOf (test : ℕ → Bool) (most : ℕ) (got bytes : List ℕ) : Type 0 where
  pub length_is : length bytes ≡ 8 * length got
  pub words_are : up_to_failing test (words_in bytes) most ≡ Some got

pub lane_words-some : (lane : List ℕ) (addr most : ℕ) (test : ℕ → Bool) (got : List ℕ) →
    lane_words lane addr most test ≡ Some got → WordsOf test most got (bytes_at lane addr (8 * length got))
lane_words-some lane addr most test got e =
    let all : List ℕ = bytes_from lane addr in
    let front = up_to_failing-front test (words_in all) most got e in
    let count : length (words_in all) ≡ length all / 8 = length-words_of (length all / 8) all in
    let enough : 8 * length got ≤ length all = omega (arith, count, ap length front.1, length-append got front.0) in
    let words : words_in (bytes_at lane addr (8 * length got)) ≡ got =
    words_in-take (length got) all enough ∙ ap (λ ws. take (length got) ws) front.1 ∙ take-append_seam got front.0 in
    record {
      length_is = length-take-le (8 * length got) all enough;
      words_are = rw words (up_to_failing-itself test (words_in all) most got e);
    }

pub lane_words-held : (lane : List ℕ) (addr most : ℕ) (test : ℕ → Bool) (got bytes : List ℕ) →
    WordsOf test most got bytes → bytes_at lane addr (length bytes) ≡ bytes →
    (lane_words lane addr most test ≡ Some got) × (bytes_at lane addr (8 * length got) ≡ bytes)
lane_words-held lane addr most test got bytes h held =
    let all : List ℕ = bytes_from lane addr in
    let k : ℕ = length got in
    let there : take (8 * k) all ≡ bytes = rw h.length_is at held in
    let enough : 8 * k ≤ length all = omega (arith, h.length_is, ap length there, length-take (8 * k) all) in
    let words : words_in bytes ≡ take k (words_in all) = rw there at (words_in-take k all enough) in
    let front : up_to_failing test (take k (words_in all)) most ≡ Some got = rw words at h.words_are in
    (rw (take-append-drop k (words_in all)) at (up_to_failing-append test (take k (words_in all)) most got (drop k (words_in all)) front), there)

-- no words are asked for, and none are got
up_to_failing-none : (test : ℕ → Bool) (ws : List ℕ) → up_to_failing test ws 0 ≡ Some []
up_to_failing-none test [] = refl
up_to_failing-none test (w ∷ ws) = refl

nothing : (bytes : List ℕ) → length bytes ≡ 0 → bytes ≡ []
nothing [] e = refl
nothing (b ∷ bs) e = absurd (cc)

pub next_words-listed : (addr most : ℕ) (test : ℕ → Bool) (got bytes : List ℕ) (rest : List Read) →
    WordsOf test most got bytes → next_words addr most test (listed addr bytes ++ rest) ≡ Some (got, rest)
next_words-listed addr zero test got bytes rest h =
    let none : got ≡ [] = Some-injective (sym h.words_are ∙ up_to_failing-none test (words_in bytes)) in
    let empty : bytes ≡ [] = nothing bytes (h.length_is ∙ ap (λ ws. 8 * length ws) none) in
    rw (none, empty) refl
next_words-listed addr (suc most) test got [] rest h = let e = h.words_are in absurd (cc)
next_words-listed addr (suc most) test got (b ∷ bs) rest h =
    rw (h.words_are, eq-eqb addr addr refl, eq-eqb (length (b ∷ bs)) (8 * length got) h.length_is) refl

pub next_words-some : (addr most : ℕ) (test : ℕ → Bool) (reads : List Read) (got : List ℕ) (rest : List Read) →
    next_words addr most test reads ≡ Some (got, rest) →
    (bytes : List ℕ) × WordsOf test most got bytes × (reads ≡ listed addr bytes ++ rest)
next_words-some addr zero test reads got rest e =
    let none : [] ≡ got = ap (λ (p : List ℕ × List Read). p.0) (Some-injective e) in
    let others : reads ≡ rest = ap (λ (p : List ℕ × List Read). p.1) (Some-injective e) in
    ([], rw (← none) record { length_is = refl; words_are = refl }, others)
next_words-some addr (suc most) test [] got rest e = absurd (cc)
next_words-some addr (suc most) test (read ∷ reads) got rest e =
    option_and_then_some _ (up_to_failing test (words_in read.bytes) (suc most)) (got, rest) e
    (λ (ws : List ℕ) words_are fitting.
    let h = if_some ((read.addr == addr) && (length read.bytes == 8 * length ws)) (ws, reads) (got, rest) fitting in
    let tests = and_true _ _ h.0 in
    let same : ws ≡ got = ap (λ (p : List ℕ × List Read). p.0) h.1 in
    let others : reads ≡ rest = ap (λ (p : List ℕ × List Read). p.1) h.1 in
    let some : read.bytes ≡ [] → ⊥ = λ q. let wrong : up_to_failing test [] (suc most) ≡ Some ws = rw q at words_are in cc in (
      read.bytes,
      rw (← same) record { length_is = eqb-true _ _ tests.1; words_are = words_are },
      rw (← others) (listed-one read reads addr read.bytes (eqb-true _ _ tests.0) refl some),
    ))

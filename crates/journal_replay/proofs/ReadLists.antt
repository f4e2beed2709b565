-- Lists of reads, one by one.
use Rattle.std.proofs.Common.{◌≡◌, ℕ, zero, suc, ◌+◌, ◌<◌, List, [], ◌∷◌, ◌++◌, length, take, get_or, refl, sym, subst, ◌∙◌, arith}
use Rattle.std.specs.Prelude.{AllPairs}
use Rattle.std.specs.List.{AllByRecursion}
use Rattle.kernel_model.specs.Turns.{IsReadOfRam}
use Rattle.kernel_state.specs.Reads.{Agree}
use Rattle.ns_ram.specs.Reads.{HoldsRead, HoldsReads}
use Rattle.ns_ram.specs.declared.read.Read.{Read}
use Rattle.journal_replay.specs.Laying.{AreOfOneRam}

module _ {X : Type 0} (P : X → Type 0) where
  -- what holds of all holds of each
  pub all_at : (xs : List X) (i : ℕ) (x : X) → i < length xs → x ≡ get_or xs i x → AllByRecursion P xs → P x
  all_at [] i x below is all = absurd (omega (arith, below))
  all_at (first ∷ xs) zero x below is all = subst P (sym is) all.0
  all_at (first ∷ xs) (suc i) x below is all = all_at xs i x (omega (arith, below)) is all.1

  pub all_taken : (count : ℕ) (xs : List X) → AllByRecursion P xs → AllByRecursion P (take count xs)
  all_taken zero xs all = tt
  all_taken (suc count) [] all = tt
  all_taken (suc count) (x ∷ xs) all = (all.0, all_taken count xs all.1)

  -- what holds of all holds of the last
  pub all_last : (xs : List X) (x : X) → AllByRecursion P (xs ++ x ∷ []) → P x
  all_last [] x all = all.0
  all_last (first ∷ xs) x all = all_last xs x all.1

-- each read in front of another agrees with that
earlier_agree : (reads : List Read) (i : ℕ) (read : Read) → i < length reads → read ≡ get_or reads i read → AllPairs Agree reads
    → AllByRecursion (λ other. Agree other read) (take i reads)
earlier_agree reads zero read below is agree = tt
earlier_agree [] (suc i) read below is agree = tt
earlier_agree (first ∷ reads) (suc i) read below is agree = (
  subst (Agree first) (sym is) (agree 0 (suc i) read (omega arith) below),
  earlier_agree reads i read (omega (arith, below)) is
      (λ j k d before inside. agree (suc j) (suc k) d (omega (arith, before)) (omega (arith, inside))),
)

module _ (lane now : List ℕ) (read : Read)
    (kept : (other : Read) → IsReadOfRam other → Agree other read → HoldsRead lane other → HoldsRead now other)
    (held : HoldsRead now read) where
  held_behind : (front : List Read) → AllByRecursion IsReadOfRam front → AllByRecursion (λ other. Agree other read) front
      → HoldsReads lane front → HoldsReads now (front ++ read ∷ [])
  held_behind [] of_ram agree all = (held, tt)
  held_behind (other ∷ front) of_ram agree all = (
    kept other of_ram.0 agree.0 all.0,
    held_behind front of_ram.1 agree.1 all.1,
  )

  -- with one read more, the lane has the bytes of all up to that
  pub held_more : (reads : List Read) (i : ℕ) → i < length reads → read ≡ get_or reads i read → AreOfOneRam reads
      → HoldsReads lane (take i reads) → HoldsReads now (take i reads ++ read ∷ [])
  held_more reads i below is are =
      held_behind (take i reads) (all_taken IsReadOfRam i reads are.of_ram) (earlier_agree reads i read below is are.agree)

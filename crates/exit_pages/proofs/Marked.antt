-- Pages that are added one after the other.
use Rattle.std.proofs.Common.{◌≡◌, ℕ, suc, ◌+◌, ◌<◌, Bool, List, [], ◌∷◌, length, get_or, drop, sym, subst, ap, ◌∙◌, arith}
use Rattle.std.specs.List.{AllByRecursion}
use Rattle.std.proofs.Math.Seq.{drop-cons, drop-length}
use Rattle.exit_pages.specs.Covering.{CoversBytes, CoversPiece, CoversPlace}
use Rattle.page_set.specs.Pages.{HasBytes, IsWithin}
use Rattle.param_copy.specs.declared.copied.Place.{Place}
use Rattle.shm_registry.specs.declared.piece.Piece.{Piece}

-- more pages have the same bytes too
pub bytes_still : (pages more : List Bool) (addr len : ℕ) → IsWithin pages more → CoversBytes pages addr len → CoversBytes more addr len
bytes_still pages more addr len within covers = λ inside number below above. within number (covers inside number below above)

pub pieces_still : (pages more : List Bool) (pieces : List Piece) → IsWithin pages more → AllByRecursion (CoversPiece pages) pieces
    → AllByRecursion (CoversPiece more) pieces
pieces_still pages more [] within all = tt
pieces_still pages more (piece ∷ pieces) within all =
    (bytes_still pages more piece.addr piece.len within all.0, pieces_still pages more pieces within all.1)

pub place_still : (arg : ℕ) (pages more : List Bool) (place : Place) → IsWithin pages more → CoversPlace arg pages place → CoversPlace arg more place
place_still arg pages more place within covers = record {
  argument = bytes_still pages more _ 32 within covers.argument;
  pieces = pieces_still pages more place.pieces within covers.pieces;
}

pub places_still : (arg : ℕ) (pages more : List Bool) (places : List Place) → IsWithin pages more → AllByRecursion (CoversPlace arg pages) places
    → AllByRecursion (CoversPlace arg more) places
places_still arg pages more [] within all = tt
places_still arg pages more (place ∷ places) within all =
    (place_still arg pages more place within all.0, places_still arg pages more places within all.1)

-- whatever has these pages, and covers each element from an index on, covers all
abbrev pub CoversTo : {X : Type 0} → (List Bool → X → Type 0) → List Bool → List X → ℕ → Type 0
CoversTo Covers pages xs index =
    (all : List Bool) → IsWithin pages all → AllByRecursion (Covers all) (drop index xs) → AllByRecursion (Covers all) xs

pub covers_more : {X : Type 0} (Covers : List Bool → X → Type 0) (pages next : List Bool) (xs : List X) (index : ℕ) (d : X)
    → ((all : List Bool) (x : X) → IsWithin next all → Covers next x → Covers all x)
    → index < length xs → IsWithin pages next → Covers next (get_or xs index d) → CoversTo Covers pages xs index
    → CoversTo Covers next xs (index + 1)
covers_more Covers pages next xs index d still inside within here rest = λ all wider others.
    let one_more : index + 1 ≡ suc index = omega arith in
    rest all (λ number is. wider number (within number is))
    (subst (AllByRecursion (Covers all)) (sym (drop-cons xs index d inside))
    (still all (get_or xs index d) wider here, subst (λ (n : ℕ). AllByRecursion (Covers all) (drop n xs)) one_more others))

pub covers_all : {X : Type 0} (Covers : List Bool → X → Type 0) (pages : List Bool) (xs : List X) (index : ℕ) → length xs ≡ index
    → CoversTo Covers pages xs index → AllByRecursion (Covers pages) xs
covers_all Covers pages xs index whole rest =
    rest pages (λ number is. is)
    (subst (AllByRecursion (Covers pages)) (sym (ap (λ (n : ℕ). drop n xs) (sym whole) ∙ drop-length xs)) tt)

-- Page lists at small inputs. The lanes here are shorter than RAM.
use Rattle.std.specs.Prelude.{◌≡◌, ℕ, zero, suc, ◌++◌, true, false, List, [], ◌∷◌, replicate, Some, None, Ok, Err}
use Rattle.ns_ram.specs.Pages.{is_page, page_addresses, first_bad_page, walk}
use Rattle.ns_ram.specs.Reader.{reading}
use Rattle.ns_ram.specs.Examples.{read_of}

-- eight bytes: the addresses of two pages, and a number that is none
abbrev pub one : List ℕ
one = 0 ∷ 16 ∷ 0 ∷ 64 ∷ 0 ∷ 0 ∷ 0 ∷ 0 ∷ []

abbrev pub two : List ℕ
two = 0 ∷ 32 ∷ 0 ∷ 64 ∷ 0 ∷ 0 ∷ 0 ∷ 0 ∷ []

abbrev pub none : List ℕ
none = 5 ∷ 0 ∷ 0 ∷ 0 ∷ 0 ∷ 0 ∷ 0 ∷ 0 ∷ []

-- the first page's address, so many times
abbrev pub ones : ℕ → List ℕ
ones zero = []
ones (suc count) = one ++ ones count

pub record PageExamples : Type 0 where
  pub first_page : is_page 0x40000000 ≡ true
  pub last_page : is_page 0x403ff000 ≡ true
  pub behind_ram : is_page 0x40400000 ≡ false
  pub below_ram : is_page 0x3ffff000 ≡ false
  pub in_a_page : is_page 0x40000800 ≡ false
  -- the pages of a list, and a bad one
  pub addresses : page_addresses (one ++ two) 0x40000000 2 ≡ 0x40001000 ∷ 0x40002000 ∷ []
  pub all_good : first_bad_page (one ++ two) 0x40000000 2 ≡ None
  pub second_bad : first_bad_page (one ++ none ++ none) 0x40000000 3 ≡ Some 1
  pub list_bad : first_bad_page (one ++ two) 0x40000008 1 ≡ Some 0
  pub no_pages : first_bad_page [] 5 0 ≡ None
  -- what a walk reads
  pub two_read : reading (walk 0x40000000 2) (read_of 0x40000000 (one ++ two) ∷ []) ≡ Some (Ok (0x40001000 ∷ 0x40002000 ∷ []))
  pub bad_read : reading (walk 0x40000000 3) (read_of 0x40000000 (one ++ none) ∷ []) ≡ Some (Err 1)
  pub bad_list_unread : reading (walk 0x40000008 3) [] ≡ Some (Err 0)
  pub nothing_read : reading (walk 5 0) [] ≡ Some (Ok [])
  pub whole_list : reading (walk 0x40000000 511) (read_of 0x40000000 (ones 511) ∷ []) ≡ Some (Ok (replicate 511 0x40001000))
  pub one_more : reading (walk 0x40000000 512) (read_of 0x40000000 (ones 511) ∷ read_of 0x40000ff8 two ∷ read_of 0x40002000 one ∷ [])
      ≡ Some (Ok (replicate 512 0x40001000))
  pub next_list_bad : reading (walk 0x40000000 512) (read_of 0x40000000 (ones 511) ∷ read_of 0x40000ff8 none ∷ []) ≡ Some (Err 511)

-- Page lists in the RAM of the normal world: 511 addresses of pages, and then the address of the next list,
-- eight bytes each, as a noncontiguous buffer of optee_msg.h has them.
use Rattle.std.specs.Prelude.{◌≡◌, ℕ, zero, suc, ◌+◌, ◌-◌, ◌*◌, ◌/◌, ◌%◌, Bool, not, ◌==◌, ◌&&◌, nat_le, min, List, [], ◌++◌, length, map, Option, Some, None, Result, Ok, Err, if◌then◌else◌}
use Rattle.std.specs.List.{list_all, position_from}
use Rattle.std.specs.Int.{from_le_bytes, w64}
use Rattle.ns_ram.specs.declared.pages.WalkFault.{WalkFault}
use Rattle.ns_ram.specs.declared.pages.WalkFault.TheVariants.{BadPage, Memory}
use Rattle.ns_ram.specs.declared.read.Read.{Read}
use Rattle.ns_ram.specs.Lane.{bytes_from, bytes_at}
use Rattle.ns_ram.specs.Reads.{HoldsReads}
use Rattle.ns_ram.specs.Reader.{Reader, done, ◌>>=◌, over_lane, take_bytes, take_words, words_of}

-- a page's address: a multiple of 4096 at which a whole page lies in RAM
abbrev pub is_page : ℕ → Bool
is_page addr = (addr % 4096 == 0) && (nat_le 0x40000000 addr && nat_le (addr + 4096) (0x40000000 + 0x400000))

-- ---- the pages of a chain, in RAM

-- a page of a chain: the address of the list that names it, and its own
pub record Page : Type 0 where
  pub list : ℕ
  pub addr : ℕ

-- the first so many pages of the list at an address
abbrev pub pages_of_list : List ℕ → ℕ → ℕ → List Page
pages_of_list lane list count = map (λ addr. record { list = list; addr = addr }) (words_of count (bytes_from lane list))

-- the address of the list behind this one
abbrev pub link_of_list : List ℕ → ℕ → ℕ
link_of_list lane list = from_le_bytes w64 (bytes_at lane (list + 8 * 511) 8)

-- the first so many pages of a chain of at most so many lists
abbrev pub pages_of_lists : ℕ → List ℕ → ℕ → ℕ → List Page
pages_of_lists zero lane list count = []
pages_of_lists (suc lists) lane list count =
    pages_of_list lane list (min count 511) ++ pages_of_lists lists lane (link_of_list lane list) (count - 511)

-- how many lists so many pages take
abbrev pub lists_of : ℕ → ℕ
lists_of count = (count + 510) / 511

-- the first so many pages of the chain at an address
abbrev pub pages_of : List ℕ → ℕ → ℕ → List Page
pages_of lane list count = pages_of_lists (lists_of count) lane list count

-- the page is none, or the list that names it is none
abbrev pub is_bad : Page → Bool
is_bad page = not (is_page page.list && is_page page.addr)

-- the number of the first bad page
abbrev pub first_bad_page : List ℕ → ℕ → ℕ → Option ℕ
first_bad_page lane list count = position_from is_bad 0 (pages_of lane list count)

-- the addresses of the pages
abbrev pub page_addresses : List ℕ → ℕ → ℕ → List ℕ
page_addresses lane list count = map (λ page. page.addr) (pages_of lane list count)

-- ---- a walk over a chain, as a reader

-- what a walk finds: the pages' addresses, or the number of the first bad page
abbrev pub Walk : Type 0
Walk = Result (List ℕ) ℕ

-- the walk over at most so many lists from this one on, for so many more pages than those that were found.
-- Each list is one read of its used entries, up to and with the first that is no page; where a further page
-- is needed, its link is one more
abbrev pub walk_lists : ℕ → ℕ → ℕ → List ℕ → Reader Walk
walk_lists zero list count found = done (Ok found)
walk_lists (suc lists) list count found =
    let link = take_bytes (list + 8 * 511) 8 in
    let onward = λ (entries : List ℕ). link >>= (λ word. walk_lists lists (from_le_bytes w64 word) (count - 511) (found ++ entries)) in
    let passed = λ (entries : List ℕ). if nat_le count 511 then done (Ok (found ++ entries)) else onward entries in
    let taken = λ (entries : List ℕ). if list_all is_page entries then passed entries else done (Err (length (found ++ entries) - 1)) in
    if is_page list then (take_words list (min count 511) is_page >>= taken) else done (Err (length found))

-- the walk over the chain at an address, for its first so many pages
abbrev pub walk : ℕ → ℕ → Reader Walk
walk list count = walk_lists (lists_of count) list count []

-- that, where the first bad page has this number, or there is none and the pages have these addresses
abbrev pub walk_by : Option ℕ → List ℕ → Walk
walk_by None addresses = Ok addresses
walk_by (Some page) addresses = Err page

-- in all of RAM a walk finds the pages of the chain, or the first bad one
abbrev pub FindsPages : Type 0
FindsPages = (lane : List ℕ) (list count : ℕ) (before : List Read) → length lane ≡ 0x400000 →
    (after : List Read) × (over_lane (walk list count) lane before ≡ Some (walk_by (first_bad_page lane list count) (page_addresses lane list count), after))

-- these entries of a list stand behind the pages that were found before, and whether each is a page
pub record AppendsEntries (entries : List ℕ) (are_pages : Bool) (found found_then : List ℕ) : Type 0 where
  pub added : found_then ≡ found ++ entries
  pub tested : are_pages ≡ list_all is_page entries

-- what a walk adds to a list of reads, whatever it answers: further reads behind those that the list had,
-- each with the lane's bytes
pub record AppendsReads (lane : List ℕ) (before after : List Read) : Type 0 where
  pub taken : List Read
  pub appended : after ≡ before ++ taken
  pub held : HoldsReads lane taken

-- a fact of want of memory
abbrev pub IfMemory : WalkFault → Type 0 → Type 0
IfMemory (BadPage page) P = Unit {0}
IfMemory Memory P = P

-- a fact of the number of the bad page, where that is the fault
abbrev pub IfBadPage : WalkFault → (ℕ → Type 0) → Type 0
IfBadPage (BadPage page) P = P page
IfBadPage Memory P = Unit {0}

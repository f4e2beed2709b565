use Rattle.std.proofs.Common.{◌≡◌, ℕ, ◌-◌, ◌<◌, ◌++◌, ◌∙◌, true, false, List, length, length-append, min, ap, arith}
use Rattle.std.proofs.lemmas.List.{take_all}
use Rattle.std.specs.Int.{from_le_bytes, w64}
use Rattle.std.specs.List.{list_all}
use Rattle.ns_ram.specs.Pages.{is_page}
use Rattle.ns_ram.specs.Reader.{take_words}
use Rattle.ns_ram.proofs.PageWalk.{AppendsReads-step, Walked-bad_list, Walked-bad_page, Walked-next, taken_there, take_words-passed}
use Rattle.ns_ram.proofs.pages.take_lists.Goals as goal

pub returns-then-not-is_page-clause-bad : goal.returns-then-not-is_page-clause-bad
returns-then-not-is_page-clause-bad c =
    let many : c.len-found.result ≡ length c.lists.pages.items = omega arith in
    let bad : is_page c.lists.current ≡ false = cc in
    rw many
    (Walked-bad_list c.args.lane.now c.args.list c.args.count c.args.reads.now c.lists.current c.lists.pages.items c.lists.reads c.lists.invariant.walked bad)

pub returns-then-not-are_pages-clause-bad : goal.returns-then-not-are_pages-clause-bad
returns-then-not-are_pages-clause-bad c =
    let lane : List ℕ = c.args.lane.now in
    let count : ℕ = c.args.count in
    let found : List ℕ = c.lists.pages.items in
    let good : is_page c.lists.current ≡ true = cc in
    let most : c.min.result ≡ min (count - length found) 511 = omega arith in
    let t = taken_there lane c.lists.current (min (count - length found) 511) c.lists.reads c.take_entries.new.reads c.in_ok-are_pages.are_pages found c.take_entries.new.pages.items (rw most at c.in_ok-are_pages.ensures.ok) in
    let bad : list_all is_page t.entries ≡ false = cc in
    let many : c.len.result ≡ length (found ++ t.entries) = omega (arith, ap length t.appended.added) in
    rw many
    (Walked-bad_page lane c.args.list count c.args.reads.now c.lists.current found c.lists.reads c.take_entries.new.reads t.entries c.lists.invariant.walked good t.taken bad)

pub lists-smaller : goal.lists-smaller
lists-smaller c =
    let found : List ℕ = c.lists.pages.items in
    let t = taken_there c.args.lane.now c.lists.current c.min.result c.lists.reads c.take_entries.new.reads c.in_ok-are_pages.are_pages found c.take_entries.new.pages.items c.in_ok-are_pages.ensures.ok in
    let pages : list_all is_page t.entries ≡ true = cc in
    let many : length t.entries ≡ c.min.result =
    take_words-passed c.args.lane.now c.lists.current c.min.result c.lists.reads c.take_entries.new.reads t.entries t.taken pages in
    omega (arith, ap length t.appended.added, length-append found t.entries, c.lists.invariant.walked.more)

pub lists-preserved : goal.lists-preserved
lists-preserved c =
    let lane : List ℕ = c.args.lane.now in
    let count : ℕ = c.args.count in
    let found : List ℕ = c.lists.pages.items in
    let good : is_page c.lists.current ≡ true = cc in
    let most : c.min.result ≡ min (count - length found) 511 = omega arith in
    let t = taken_there lane c.lists.current (min (count - length found) 511) c.lists.reads c.take_entries.new.reads c.in_ok-are_pages.are_pages found c.take_entries.new.pages.items (rw most at c.in_ok-are_pages.ensures.ok) in
    let pages : list_all is_page t.entries ≡ true = cc in
    let more : 511 < count - length found = omega arith in
    let next : c.first_word-current.result ≡ from_le_bytes w64 c.in_ok-link.link.now =
    c.first_word-current.ensures ∙ ap (from_le_bytes w64) (take_all 8 c.in_ok-link.link.now (omega (arith, c.in_ok-link.ensures.len))) in
    record {
      walked = rw (t.appended.added, next)
          (Walked-next lane c.args.list count c.args.reads.now c.lists.current found c.lists.reads c.take_entries.new.reads c.take_bytes.new.self t.entries c.in_ok-link.link.now c.lists.invariant.walked good t.taken pages more c.in_ok-link.ensures.ok);
      room = c.take_entries.ensures.capacity ∙ c.lists.invariant.room;
    }

-- the reads after the list was taken
pub returns-then-not-are_pages-clause-appended : goal.returns-then-not-are_pages-clause-appended
returns-then-not-are_pages-clause-appended c =
    let t = taken_there c.args.lane.now c.lists.current c.min.result c.lists.reads c.take_entries.new.reads c.in_ok-are_pages.are_pages c.lists.pages.items c.take_entries.new.pages.items c.in_ok-are_pages.ensures.ok in
    AppendsReads-step (take_words c.lists.current c.min.result is_page) c.args.lane.now c.args.reads.now c.lists.reads c.take_entries.new.reads t.entries c.lists.invariant.walked.added t.taken

pub returns-then-left-le-LIST_ENTRIES-clause-appended : goal.returns-then-left-le-LIST_ENTRIES-clause-appended
returns-then-left-le-LIST_ENTRIES-clause-appended c =
    let t = taken_there c.args.lane.now c.lists.current c.min.result c.lists.reads c.take_entries.new.reads c.in_ok-are_pages.are_pages c.lists.pages.items c.take_entries.new.pages.items c.in_ok-are_pages.ensures.ok in
    AppendsReads-step (take_words c.lists.current c.min.result is_page) c.args.lane.now c.args.reads.now c.lists.reads c.take_entries.new.reads t.entries c.lists.invariant.walked.added t.taken

pub returns-in_err-link-clause-appended : goal.returns-in_err-link-clause-appended
returns-in_err-link-clause-appended c =
    let t = taken_there c.args.lane.now c.lists.current c.min.result c.lists.reads c.take_entries.new.reads c.in_ok-are_pages.are_pages c.lists.pages.items c.take_entries.new.pages.items c.in_ok-are_pages.ensures.ok in
    rw c.in_err-link.ensures.err
    (AppendsReads-step (take_words c.lists.current c.min.result is_page) c.args.lane.now c.args.reads.now c.lists.reads c.take_entries.new.reads t.entries c.lists.invariant.walked.added t.taken)

use Rattle.ns_ram.proofs.PagesFound.{answer-bad, answer-none_bad, answer-pages}
use Rattle.ns_ram.proofs.pages.walk_pages.Goals as goal

pub returns-clause-pages : goal.returns-clause-pages
returns-clause-pages c =
    answer-pages (λ pages. pages.items) c.args.lane.now c.args.list c.args.count c.new-reads.result c.take_pages.new.reads c.has_all_of_ram.ensures c.take_pages.result c.take_pages.ensures.pages

pub returns-clause-none_bad : goal.returns-clause-none_bad
returns-clause-none_bad c =
    answer-none_bad (λ pages. pages.items) c.args.lane.now c.args.list c.args.count c.new-reads.result c.take_pages.new.reads c.has_all_of_ram.ensures c.take_pages.result c.take_pages.ensures.pages

pub returns-clause-bad : goal.returns-clause-bad
returns-clause-bad c =
    answer-bad c.args.lane.now c.args.list c.args.count c.new-reads.result c.take_pages.new.reads c.has_all_of_ram.ensures c.take_pages.result c.take_pages.ensures.bad

use Rattle.std.proofs.Common.{◌-◌, arith}
use Rattle.ns_ram.proofs.PageScan.{taken-from_lane}
use Rattle.ns_ram.proofs.pages.take_entries.Goals as goal

pub returns-clause-ok : goal.returns-clause-ok
returns-clause-ok c =
    taken-from_lane c.args.lane.now c.args.entries.list c.args.entries.count c.args.reads.now c.add.new.self c.at-bytes.result.now c.args.pages.now.items c.push_up_to_bad-are_pages.new.pages.items c.push_up_to_bad-are_pages.result (c.len.result - c.len-found.result) c.at-bytes.ensures.whole c.requires.list c.requires.few c.at-bytes.ensures.bytes (omega arith) c.in_ok-add.ensures.ok c.push_up_to_bad-are_pages.ensures.words

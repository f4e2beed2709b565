use Rattle.std.proofs.Common.{◌≡◌, ◌*◌, ◌<◌, true, false, refl, arith}
use Rattle.ns_ram.specs.Pages.{is_page}
use Rattle.ns_ram.proofs.PageScan.{Pushed-all, Pushed-fails, Pushed-next, Pushed-none, word_from}
use Rattle.ns_ram.proofs.pages.push_up_to_bad.Goals as goal

pub loop-i-init : goal.loop-i-init
loop-i-init c = record {
  pushed = Pushed-none c.args.bytes.now c.args.count c.args.pages.now.items;
  len = omega arith;
  room = refl;
}

pub loop-i-preserved : goal.loop-i-preserved
loop-i-preserved c =
    let within : c.loop-i.i < c.args.count = omega arith in
    let passes : is_page c.first_word-word.result ≡ true = cc in
    let word = word_from c.args.bytes.now (8 * c.loop-i.i) c.first_word-word.result (omega arith) c.first_word-word.ensures in
    record {
      pushed = rw c.push_reserved.ensures.items
          (Pushed-next c.args.bytes.now c.args.count c.loop-i.i c.first_word-word.result c.args.pages.now.items c.loop-i.pages.items c.loop-i.invariant.pushed within word passes);
      len = omega arith;
      room = omega arith;
    }

pub returns-then-not-is_page-clause-words : goal.returns-then-not-is_page-clause-words
returns-then-not-is_page-clause-words c =
    let within : c.loop-i.i < c.args.count = omega arith in
    let fails : is_page c.first_word-word.result ≡ false = cc in
    let word = word_from c.args.bytes.now (8 * c.loop-i.i) c.first_word-word.result (omega arith) c.first_word-word.ensures in
    rw c.push_reserved.ensures.items
    (Pushed-fails c.args.bytes.now c.args.count c.loop-i.i c.first_word-word.result c.args.pages.now.items c.loop-i.pages.items c.loop-i.invariant.pushed within word fails)

pub returns-clause-words : goal.returns-clause-words
returns-clause-words c =
    let all : c.loop-i.i ≡ c.args.count = omega arith in
    Pushed-all c.args.bytes.now c.args.count c.args.pages.now.items c.loop-i.pages.items (rw all at c.loop-i.invariant.pushed)

use Rattle.std.proofs.Common.{◌≡◌, ◌≤◌, ◌-◌, ℕ, [], length, drop, take, length-drop, true, false, ltb, ap, arith, sym, ◌∙◌}
use Rattle.std.specs.Prelude.{is_some}
use Rattle.std.specs.List.{list_all}
use Rattle.std.proofs.lemmas.List.{take_all}
use Rattle.ns_ram.specs.Reads.{total_bytes}
use Rattle.trace_text.specs.Limits.{cpus_of, is_within}
use Rattle.journal_bytes.specs.Record.{cpu_in, is_read, steps_in}
use Rattle.journal_bytes.specs.Recording.{journal_so_far}
use Rattle.journal_bytes.proofs.Entries.{behind_so, cpu_broken, cut_so, few_so, has_reads, IsFront, none_broken, place_broken, reads_broken, rules_are, steps_broken, told_so}
use Rattle.journal_bytes.proofs.taking.take_entry.Goals as goal

pub returns-in-Err-clause-taken : goal.returns-in-Err-clause-taken
returns-in-Err-clause-taken c =
    let body = c.args.body.now in
    let long : 41 ≤ length body = omega (arith, c.if-body-lt-ENTRY_LEN.false) in
    let front : IsFront body c.word_at.result (take (length body - 41) (drop 41 body)) = record { long = long; count_is = c.word_at.ensures; bytes_are = take_all _ _ (omega (arith, length-drop 41 body)) } in
    cut_so [] (journal_so_far c.args.recording.now) body _ _ c.in-Err.fault front c.in-Err.ensures

pub returns-in_default-clause-taken : goal.returns-in_default-clause-taken
returns-in_default-clause-taken c =
    let body = c.args.body.now in
    let long : 41 ≤ length body = omega (arith, c.if-body-lt-ENTRY_LEN.false) in
    let front : IsFront body c.word_at.result (take (length body - 41) (drop 41 body)) = record { long = long; count_is = c.word_at.ensures; bytes_are = take_all _ _ (omega (arith, length-drop 41 body)) } in
    let has = has_reads body _ _ c.take_reads.new.reads.items c.in-Ok.rest.now front c.in-Ok.ensures in
    rules_are [] (journal_so_far c.args.recording.now) body _ _ has ∙ place_broken (is_some c.args.recording.now.header.boot) (is_within 1 1000000 (steps_in body)) (list_all is_read c.take_reads.new.reads.items) (ltb (cpu_in body) (cpus_of c.args.recording.now.header.boot)) c.in_default.ensures.read

pub returns-then-not-is_within-clause-taken : goal.returns-then-not-is_within-clause-taken
returns-then-not-is_within-clause-taken c =
    let body = c.args.body.now in
    let long : 41 ≤ length body = omega (arith, c.if-body-lt-ENTRY_LEN.false) in
    let front : IsFront body c.word_at.result (take (length body - 41) (drop 41 body)) = record { long = long; count_is = c.word_at.ensures; bytes_are = take_all _ _ (omega (arith, length-drop 41 body)) } in
    let has = has_reads body _ _ c.take_reads.new.reads.items c.in-Ok.rest.now front c.in-Ok.ensures in
    let none : is_within 1 1000000 (steps_in body) ≡ false = ap (is_within 1 1000000) (sym c.word_at-steps.ensures) ∙ sym c.if-not-is_within.ensures in
    rules_are [] (journal_so_far c.args.recording.now) body _ _ has ∙ steps_broken (is_some c.args.recording.now.header.boot) (is_within 1 1000000 (steps_in body)) (list_all is_read c.take_reads.new.reads.items) (ltb (cpu_in body) (cpus_of c.args.recording.now.header.boot)) c.in-Some.ensures.read.0 none

pub returns-then-not-are_reads-clause-taken : goal.returns-then-not-are_reads-clause-taken
returns-then-not-are_reads-clause-taken c =
    let body = c.args.body.now in
    let long : 41 ≤ length body = omega (arith, c.if-body-lt-ENTRY_LEN.false) in
    let front : IsFront body c.word_at.result (take (length body - 41) (drop 41 body)) = record { long = long; count_is = c.word_at.ensures; bytes_are = take_all _ _ (omega (arith, length-drop 41 body)) } in
    let has = has_reads body _ _ c.take_reads.new.reads.items c.in-Ok.rest.now front c.in-Ok.ensures in
    let some : is_within 1 1000000 (steps_in body) ≡ true = ap (is_within 1 1000000) (sym c.word_at-steps.ensures) ∙ sym c.if-not-is_within.ensures in
    let none : list_all is_read c.take_reads.new.reads.items ≡ false = ap (list_all is_read) (sym c.as_slice.ensures.value) ∙ sym c.if-not-are_reads.ensures in
    rules_are [] (journal_so_far c.args.recording.now) body _ _ has ∙ reads_broken (is_some c.args.recording.now.header.boot) (is_within 1 1000000 (steps_in body)) (list_all is_read c.take_reads.new.reads.items) (ltb (cpu_in body) (cpus_of c.args.recording.now.header.boot)) c.in-Some.ensures.read.0 some none

pub returns-then-not-is_there-clause-taken : goal.returns-then-not-is_there-clause-taken
returns-then-not-is_there-clause-taken c =
    let body = c.args.body.now in
    let long : 41 ≤ length body = omega (arith, c.if-body-lt-ENTRY_LEN.false) in
    let front : IsFront body c.word_at.result (take (length body - 41) (drop 41 body)) = record { long = long; count_is = c.word_at.ensures; bytes_are = take_all _ _ (omega (arith, length-drop 41 body)) } in
    let has = has_reads body _ _ c.take_reads.new.reads.items c.in-Ok.rest.now front c.in-Ok.ensures in
    let some : is_within 1 1000000 (steps_in body) ≡ true = ap (is_within 1 1000000) (sym c.word_at-steps.ensures) ∙ sym c.if-not-is_within.ensures in
    let all : list_all is_read c.take_reads.new.reads.items ≡ true = ap (list_all is_read) (sym c.as_slice.ensures.value) ∙ sym c.if-not-are_reads.ensures in
    let none : ltb (cpu_in body) (cpus_of c.args.recording.now.header.boot) ≡ false = ap (λ (n : ℕ). ltb (cpu_in body) n) (sym c.in-Some.ensures.read.1) ∙ ap (λ (n : ℕ). ltb n c.in-Some.cpus) (sym c.from.ensures) ∙ sym c.if-not-is_there.ensures in
    rules_are [] (journal_so_far c.args.recording.now) body _ _ has ∙ cpu_broken (is_some c.args.recording.now.header.boot) (is_within 1 1000000 (steps_in body)) (list_all is_read c.take_reads.new.reads.items) (ltb (cpu_in body) (cpus_of c.args.recording.now.header.boot)) c.in-Some.ensures.read.0 some all none

pub push_event-requires : goal.push_event-requires
push_event-requires c =
    let body = c.args.body.now in
    let long : 41 ≤ length body = omega (arith, c.if-body-lt-ENTRY_LEN.false) in
    let front : IsFront body c.word_at.result (take (length body - 41) (drop 41 body)) = record { long = long; count_is = c.word_at.ensures; bytes_are = take_all _ _ (omega (arith, length-drop 41 body)) } in
    let few = few_so body _ _ c.take_reads.new.reads.items c.in-Ok.rest.now front c.in-Ok.ensures in
    omega (arith, few, ap total_bytes c.of.ensures, c.requires.few)

pub returns-clause-taken : goal.returns-clause-taken
returns-clause-taken c =
    let body = c.args.body.now in
    let before = journal_so_far c.args.recording.now in
    let long : 41 ≤ length body = omega (arith, c.if-body-lt-ENTRY_LEN.false) in
    let front : IsFront body c.word_at.result (take (length body - 41) (drop 41 body)) = record { long = long; count_is = c.word_at.ensures; bytes_are = take_all _ _ (omega (arith, length-drop 41 body)) } in
    let has = has_reads body _ _ c.take_reads.new.reads.items c.in-Ok.rest.now front c.in-Ok.ensures in
    let some : is_within 1 1000000 (steps_in body) ≡ true = ap (is_within 1 1000000) (sym c.word_at-steps.ensures) ∙ sym c.if-not-is_within.ensures in
    let all : list_all is_read c.take_reads.new.reads.items ≡ true = ap (list_all is_read) (sym c.as_slice.ensures.value) ∙ sym c.if-not-are_reads.ensures in
    let there : ltb (cpu_in body) (cpus_of c.args.recording.now.header.boot) ≡ true = ap (λ (n : ℕ). ltb (cpu_in body) n) (sym c.in-Some.ensures.read.1) ∙ ap (λ (n : ℕ). ltb n c.in-Some.cpus) (sym c.from.ensures) ∙ sym c.if-not-is_there.ensures in (
      rules_are [] before body _ _ has ∙ none_broken (is_some c.args.recording.now.header.boot) (is_within 1 1000000 (steps_in body)) (list_all is_read c.take_reads.new.reads.items) (ltb (cpu_in body) (cpus_of c.args.recording.now.header.boot)) c.in-Some.ensures.read.0 some all there,
      told_so before (journal_so_far c.push_event.new.recording) body _ _ c.regs_in-regs.result c.word_at-steps.result c.of.result has c.regs_in-regs.ensures c.word_at-steps.ensures c.of.ensures c.in_ok-push_event.ensures.put,
    )

pub returns-clause-rest : goal.returns-clause-rest
returns-clause-rest c =
    let body = c.args.body.now in
    let long : 41 ≤ length body = omega (arith, c.if-body-lt-ENTRY_LEN.false) in
    let front : IsFront body c.word_at.result (take (length body - 41) (drop 41 body)) = record { long = long; count_is = c.word_at.ensures; bytes_are = take_all _ _ (omega (arith, length-drop 41 body)) } in
    behind_so body _ _ (has_reads body _ _ c.take_reads.new.reads.items c.in-Ok.rest.now front c.in-Ok.ensures)

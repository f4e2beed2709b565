use Rattle.std.proofs.Common.{ℕ, List, ◌++◌, sym, ap, ◌∙◌}
use Rattle.std.proofs.lemmas.List.{take_all}
use Rattle.std.proofs.lemmas.List.Folds.{flat_map-map}
use Rattle.std.specs.List.{flat_map}
use Rattle.kernel_model.specs.Kernel as model
use Rattle.kernel_state.specs.Tables.{instance_of, tables_of}
use Rattle.live_play.specs.State.{instance_line}
use Rattle.ta_instances.specs.declared.instance.Instance.{Instance}
use Rattle.shown_lines.proofs.Texts.{told_more}
use Rattle.shown_lines.proofs.instances.push_instances.Goals as goal

pub loop-entry-preserved : goal.loop-entry-preserved
loop-entry-preserved c =
    told_more (λ (kept : ℕ × Instance). instance_line (tables_of c.args.tables.now) kept.0 (instance_of kept.1))
    c.entries-kept.result.now c.loop-entry.entry-index c.entry-item.result c.entry-item.result c.args.text.now.items
    c.loop-entry.text.items c.push_instance.new.text.items c.loop-entry-test.true c.entry-item.is c.loop-entry.invariant
    (c.in_ok-push_instance.ensures)

pub returns : goal.returns
returns c =
    c.loop-entry.invariant
    ∙ ap (λ (l : List (ℕ × Instance)). c.args.text.now.items
    ++ flat_map (λ (kept : ℕ × Instance). instance_line (tables_of c.args.tables.now) kept.0 (instance_of kept.1)) l)
    (take_all c.loop-entry.entry-index c.entries-kept.result.now c.loop-entry-test.false ∙ c.entries-kept.ensures.entries)
    ∙ ap (λ (l : List ℕ). c.args.text.now.items ++ l)
    (sym (flat_map-map (λ (kept : ℕ × model.Instance). instance_line (tables_of c.args.tables.now) kept.0 kept.1)
    (λ (kept : ℕ × Instance). (kept.0, instance_of kept.1)) c.args.tables.now.instances))

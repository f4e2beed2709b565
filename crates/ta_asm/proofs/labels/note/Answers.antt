use Rattle.std.proofs.Common.{◌≡◌, Option, Some, None, refl, sym, ap, ◌∙◌, cond}
use Rattle.std.specs.BTreeMap.{get_by}
use Rattle.std.specs.Cmp.Lexicographic.{slice_cmp}
use Rattle.std.specs.Ordering.{nat_cmp}
use Rattle.std.specs.Str.{bytes_eq}
use Rattle.std.proofs.lemmas.Map.Text.{btree_map_updates_str}
use Rattle.ta_asm.specs.declared.labels.Definition.{Definition}
use Rattle.ta_asm.proofs.Definitions.{noted, stays}
use Rattle.ta_asm.proofs.labels.note.Goals as goal

none_left : (o : Option Definition) → ((d : Definition) → o ≡ Some d → ⊥) → o ≡ None
none_left None absent = refl
none_left (Some d) absent = absurd (absent d refl)

pub returns-in_ok-insert-clause-noted : goal.returns-in_ok-insert-clause-noted
returns-in_ok-insert-clause-noted c = λ q.
    btree_map_updates_str c.args.name.now c.insert.new.self c.insert-in-Some.new.self _ c.in_ok-insert.ensures.updates q
    ∙ ap (λ (o : Option Definition). cond (bytes_eq c.args.name.now q) (Some c.in-Some.first) o) (btree_map_updates_str c.args.name.now c.args.map.now c.insert.new.self _ c.in_ok-first.ensures.updates q)
    ∙ stays (λ bs. get_by (λ key. slice_cmp nat_cmp bs key.now) c.args.map.now) c.args.name.now q c.in-Some.first c.args.definition (sym c.in_ok-first.ensures.old ∙ c.in-Some.is)

pub returns-in_default-clause-noted : goal.returns-in_default-clause-noted
returns-in_default-clause-noted c = λ q.
    btree_map_updates_str c.args.name.now c.args.map.now c.insert.new.self _ c.in_ok-first.ensures.updates q
    ∙ noted (λ bs. get_by (λ key. slice_cmp nat_cmp bs key.now) c.args.map.now) c.args.name.now q c.args.definition (sym c.in_ok-first.ensures.old ∙ none_left c.in_ok-first.field-0 c.in_default.not-Some)

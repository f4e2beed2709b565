use Rattle.std.proofs.Common.{◌++◌, ap, ◌∙◌}
use Rattle.std.specs.Fmt.{decimal}
use Rattle.std.specs.Prelude.{codes}
use Rattle.kernel_state.specs.Tables.{instance_of, tables_of}
use Rattle.shown_lines.proofs.Texts.{instance_told}
use Rattle.shown_lines.proofs.instances.push_instance.Goals as goal

pub returns : goal.returns
returns c =
    instance_told (tables_of c.args.tables.now) c.args.number (instance_of c.args.instance.now) c.from-2.result
    c.args.text.now.items c.push_numbered.new.text.items c.push_uuid.new.text.items c.push_numbered-2.new.text.items
    c.push_holder.new.text.items c.push_life.new.text.items c.push.new.self.items
    (c.from-2.ensures ∙ c.users-users.ensures.all)
    (c.in_ok-push_numbered.ensures.told ∙ ap (λ n. c.args.text.now.items ++ codes "instance " ++ decimal n) c.from.ensures)
    c.in_ok-push_uuid.ensures
    c.in_ok-push_numbered-2.ensures.told
    c.in_ok-push_holder.ensures
    c.in_ok-push_life.ensures
    c.in_ok-push.ensures.items

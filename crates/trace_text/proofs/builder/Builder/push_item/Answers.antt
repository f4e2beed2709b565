use Rattle.trace_text.specs.Judging.{built}
use Rattle.trace_text.proofs.Scenes.{tracked_push}
use Rattle.trace_text.proofs.builder.Builder.push_item.Goals as goal

pub invariant_of-self-2 : goal.invariant_of-self-2
invariant_of-self-2 c =
    let before = c.self.inside in
    record {
      no_apps = c.self.invariant.no_apps;
      no_key = c.self.invariant.no_key;
      scene_is =
          tracked_push (built before.size before.apps.items before.key before.fills.items before.items.items) c.args.item before.scene c.go_on.new.self c.inside_after-inside.result c.push.new.self.items
          c.self.invariant.scene_is c.inside_after-inside.ensures c.go_on.ensures c.in_ok-push.ensures.items;
    }

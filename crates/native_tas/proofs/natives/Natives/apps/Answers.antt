use Rattle.std.proofs.Common.{rules, arith, ◌≡◌, ◌∙◌, map, take, ap}
use Rattle.std.proofs.lemmas.List.{take_all}
use Rattle.native_tas.specs.Native.{entry_of}
use Rattle.native_tas.proofs.natives.Natives.apps.Goals as goal

pub returns : goal.returns
returns g c =
    let natives = c.args.self.now.kept.items in
    let all : take c.loop-native.native-index c.deref-native-items.result.now ≡ natives = take_all _ _ (search (rules, arith)) ∙ c.deref-native-items.ensures.value in
    c.loop-native.invariant ∙ ap (map entry_of) all

use Rattle.std.proofs.Common.{rules, arith, ◌≡◌, ◌≢◌, ◌∙◌, map, take, ap, sym, subst}
use Rattle.std.specs.List.{AllPairs}
use Rattle.std.proofs.lemmas.List.{take_all}
use Rattle.native_tas.specs.Native.{entry_of}
use Rattle.native_tas.proofs.Apart.{names_apart}
use Rattle.native_tas.proofs.Mapped.{map_mapped}
use Rattle.native_tas.proofs.natives.Natives.uuids.Goals as goal

pub returns : goal.returns
returns g c =
    let natives = c.args.self.now.kept.items in
    let all : take c.loop-native.native-index c.deref-native-items.result.now ≡ natives = take_all _ _ (search (rules, arith)) ∙ c.deref-native-items.ensures.value in
    let names : c.loop-native.uuids.items ≡ map (λ n. n.uuid) natives = c.loop-native.invariant ∙ ap (map (λ n. n.uuid)) all in
    record {
      order = names ∙ sym (map_mapped entry_of (λ e. e.0) natives);
      apart = subst (λ uuids. AllPairs (λ earlier later. earlier ≢ later) uuids) (sym names) (names_apart (λ n. n.uuid) natives c.args.self.now.apart);
    }

use Rattle.std.proofs.Common.{◌≡◌, ◌≢◌, ◌∙◌, sym, ap, false, is_some, subst}
use Rattle.std.specs.List.{AllPairs, find}
use Rattle.std.specs.Result.{is_ok}
use Rattle.std.specs.Str.{bytes_eq}
use Rattle.std.proofs.lemmas.Slice.Eq.{bytes_eq-Decides}
use Rattle.native_tas.specs.Native.{entry_of}
use Rattle.native_tas.proofs.Apart.{apart_after_try, is_some_mapped}
use Rattle.native_tas.proofs.Mapped.{find_mapped}
use Rattle.native_tas.proofs.natives.Natives.add.Goals as goal

pub invariant_of-self-clause-apart : goal.invariant_of-self-clause-apart
invariant_of-self-clause-apart g c =
    let natives = c.args.self.now.kept.items in
    let found = find (λ n. bytes_eq n.uuid c.args.native.uuid) natives in
    let absent : is_some found ≡ false =
    sym (is_some_mapped entry_of found)
    ∙ ap is_some (sym (find_mapped entry_of (λ e. bytes_eq e.0 c.args.native.uuid) natives))
    ∙ sym c.has.ensures ∙ c.if-has.false in
    subst (λ items. AllPairs (λ earlier later. earlier.uuid ≢ later.uuid) items) (sym c.push.ensures.items)
    (apart_after_try bytes_eq (λ a b. (bytes_eq-Decides a b).1) (λ n. n.uuid) natives c.args.native (is_ok c.push.result) c.args.self.now.apart absent)

use Rattle.std.proofs.Common.{◌≡◌, ◌∙◌, ℕ, List, Some, None, ap, sym, map}
use Rattle.std.specs.List.{position}
use Rattle.std.specs.Option.{option_copied, option_map}
use Rattle.std.specs.Str.{bytes_eq}
use Rattle.native_tas.specs.Native.{entry_of}
use Rattle.native_tas.proofs.Mapped.{find_mapped, map_mapped, find_nowhere, find_at_place}
use Rattle.native_tas.proofs.natives.Natives.get.Goals as goal

pub returns-in_err-place : goal.returns-in_err-place
returns-in_err-place g c =
    let natives = c.args.self.now.kept.items in
    let test : List ℕ → _ = λ kept. bytes_eq kept c.args.uuid.now in
    let uuids : c.as_slice.result.now ≡ map (λ n. n.uuid) natives = c.as_slice.ensures.value ∙ c.uuids.ensures.order ∙ map_mapped entry_of (λ e. e.0) natives in
    let nowhere : position test (map (λ n. n.uuid) natives) ≡ None = ap (position test) (sym uuids) ∙ sym c.in_err-place.ensures in
    ap (λ o. option_map entry_of (option_copied o)) c.from_residual.ensures
    ∙ ap (option_map entry_of) (sym (find_nowhere (λ n. n.uuid) test natives nowhere))
    ∙ sym (find_mapped entry_of (λ e. test e.0) natives)

pub returns : goal.returns
returns g c =
    let natives = c.args.self.now.kept.items in
    let test : List ℕ → _ = λ kept. bytes_eq kept c.args.uuid.now in
    let uuids : c.as_slice.result.now ≡ map (λ n. n.uuid) natives = c.as_slice.ensures.value ∙ c.uuids.ensures.order ∙ map_mapped entry_of (λ e. e.0) natives in
    let here : position test (map (λ n. n.uuid) natives) ≡ Some c.in_ok-place.place = ap (position test) (sym uuids) ∙ sym c.in_ok-place.ensures in
    ap (λ n. Some (entry_of n)) c.index.ensures
    ∙ ap (option_map entry_of) (sym (find_at_place (λ n. n.uuid) test natives c.in_ok-place.place c.index.result.now here))
    ∙ sym (find_mapped entry_of (λ e. test e.0) natives)

use Rattle.std.proofs.Common.{◌<◌, ◌^◌, ℕ, List, length, sym, subst, ◌∙◌}
use Rattle.trace_bin.proofs.Lengths.{few_bytes}
use Rattle.trace_bin.proofs.writing.put_app.Goals as goal

pub put_counted-requires : goal.put_counted-requires
put_counted-requires c =
    let F : List ℕ → Type 0 = λ bytes. length bytes < 2 ^ 32 in
    subst F (sym (c.as_slice.ensures.value ∙ c.in_ok-image.ensures)) (few_bytes c.args.app.now.image c.requires)

use Rattle.std.proofs.Common.{◌≡◌, ℕ, ◌+◌, ◌≤◌, length, true, sym, ap, subst, ◌∙◌}
use Rattle.text_lines.specs.Words.{words_of}
use Rattle.client_text.specs.Forms.{cancel_number}
use Rattle.client_text.specs.Rules.{before_params, has_between}
use Rattle.client_text.proofs.Counts.{before_is, before_there}
use Rattle.client_text.proofs.reader.Reader.take_invoke.Goals as goal

pub words_behind-requires : goal.words_behind-requires
words_behind-requires c =
    let words = words_of c.args.line.now in
    let is : c.before_params-before.result ≡ before_params words =
    before_is words c.before_params-before.result c.cancel_number-cancel.result c.before_params-before.ensures
    (c.cancel_number-cancel.ensures ∙ ap cancel_number c.word_at.ensures) in
    let counted : has_between 3 (before_params words + 4) words ≡ true =
    subst (λ (n : ℕ). has_between 3 (n + 4) words ≡ true) is (sym c.if-not-has_between.ensures) in
    subst (λ (n : ℕ). n ≤ length words) (sym is) (before_there words counted)

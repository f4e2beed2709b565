use Rattle.std.proofs.Common.{◌∙◌, sym}
use Rattle.msg_args.proofs.Attributes.{whole_is_read, other_bits_are_refused, noncontig_is_refused}
use Rattle.msg_args.proofs.param.MsgParam.from_words.Goals as goal

pub returns : goal.returns
returns c =
    whole_is_read _ _ _ _ _ (sym c.from_type.ensures ∙ c.in_ok-from_type.was) (sym c.attribute.ensures ∙ c.if-attribute.false) (sym c.if-not-is_noncontig_allowed.false ∙ c.is_noncontig_allowed.ensures)

pub returns-then-attribute : goal.returns-then-attribute
returns-then-attribute c =
    other_bits_are_refused _ _ _ _ _ (sym c.from_type.ensures ∙ c.in_ok-from_type.was) (λ e. c.if-attribute.true (c.attribute.ensures ∙ e))

pub returns-then-not-is_noncontig_allowed : goal.returns-then-not-is_noncontig_allowed
returns-then-not-is_noncontig_allowed c =
    noncontig_is_refused _ _ _ _ _ (sym c.from_type.ensures ∙ c.in_ok-from_type.was) (sym c.attribute.ensures ∙ c.if-attribute.false) (sym c.if-not-is_noncontig_allowed.true ∙ c.is_noncontig_allowed.ensures)

use Rattle.std.proofs.Common.{◌≡◌, length, sym, subst, ap, ◌∙◌}
use Rattle.std.specs.Prelude.{All}
use Rattle.msg_args.specs.Attribute.{IsAllowed}
use Rattle.msg_args.specs.Spelling.{spelling}
use Rattle.supplicant.proofs.Arguments.{all_allowed, counted}
use Rattle.supplicant.proofs.Comparing.{first_fails, second_tells}
use Rattle.supplicant.proofs.request.is_held.Goals as goal

pub write_arg-arg-requires-clause-count : goal.write_arg-arg-requires-clause-count
write_arg-arg-requires-clause-count c =
    subst (λ arg. arg.head.count ≡ length arg.params.items) (sym c.request_arg.ensures.arg) (counted c.args.buffer c.args.cookie c.args.request.now.rpc)

pub write_arg-arg-requires-clause-params : goal.write_arg-arg-requires-clause-params
write_arg-arg-requires-clause-params c =
    subst (λ arg. All IsAllowed arg.params.items) (sym c.request_arg.ensures.arg) (all_allowed c.args.buffer c.args.cookie c.args.request.now.rpc)

pub returns-then-starts_with : goal.returns-then-starts_with
returns-then-starts_with c =
    second_tells c.args.message.now c.as_slice.result.now c.bytes.result.now c.args.request.now.payload c.args.buffer c.args.cookie c.args.request.now.rpc
    c.starts_with-then-starts_with.result (c.as_slice.ensures.value ∙ c.write_arg-arg.ensures ∙ ap spelling c.request_arg.ensures.arg)
    (sym c.starts_with.ensures.value ∙ c.if-starts_with.true) c.bytes.ensures.bytes c.starts_with-then-starts_with.ensures.value

pub returns-else-starts_with : goal.returns-else-starts_with
returns-else-starts_with c =
    first_fails c.args.message.now c.as_slice.result.now c.args.request.now.payload c.args.buffer c.args.cookie c.args.request.now.rpc
    c.starts_with.result (c.as_slice.ensures.value ∙ c.write_arg-arg.ensures ∙ ap spelling c.request_arg.ensures.arg) c.starts_with.ensures.value
    c.if-starts_with.false

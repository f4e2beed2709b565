use Rattle.tee_storage.specs.States.{CanGoOn}
use Rattle.parts.proofs.objects.tell_answers.Given as goal

abbrev pub invariant-replies : goal.invariant-replies
invariant-replies l = CanGoOn l.state l.range.bytes.items

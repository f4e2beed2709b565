use Rattle.shown_lines.proofs.shown.push_parts.Goals as goal

pub returns-in-State : goal.returns-in-State
returns-in-State c = λ so. rw c.in-State.is (c.push_state.ensures so)

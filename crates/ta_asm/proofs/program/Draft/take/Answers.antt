use Rattle.ta_asm.proofs.program.Draft.take.Goals as goal

pub returns-in-Flags : goal.returns-in-Flags
returns-in-Flags c = λ all h. rw c.in-Flags.is (c.take_flags.ensures all)

pub returns-in-Pages : goal.returns-in-Pages
returns-in-Pages c = λ all h. rw c.in-Pages.is (c.take_pages.ensures all)

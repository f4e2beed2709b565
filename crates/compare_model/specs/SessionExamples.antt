-- What two journals show of a session, worked out by hand.
use Rattle.std.specs.Prelude.{ℕ, List, [], ◌∷◌, ◌++◌, replicate}
use Rattle.event_journal.specs.declared.event.Event.{Event}
use Rattle.event_journal.specs.declared.event.Event.TheVariants.{Entry, Exit}
use Rattle.kernel_model.specs.Worked.{add, adds, answer, app_with, boot_with, call_of, mark, open_argument, resume_of}
use Rattle.ns_ram.specs.declared.read.Read.{Read}
use Rattle.ta_isa.specs.declared.image.Image.{Image}
use Rattle.audit_model.specs.VerdictExamples.{answered, asks}
use Rattle.compare_model.specs.Comparing.{IsComparedAs, Journaled, Pair}
use Rattle.compare_model.specs.declared.compared.Compared.TheVariants.{Illegal, Absent, Other, Events, Same}
use Rattle.compare_model.specs.declared.subject.Subject.TheVariants.{Session}

-- the only processor comes in, and goes out
abbrev pub comes : List ℕ → ℕ → List Read → Event
comes regs steps reads = Entry 0 (record { a = regs }) steps reads

abbrev pub goes : List ℕ → Event
goes regs = Exit 0 (record { a = regs })

-- thread 0 was interrupted
abbrev pub interrupted : List Event
interrupted = goes (0xffff0004 ∷ replicate 7 0) ∷ []

-- thread 0 is resumed for one step
abbrev pub resumed : List Event
resumed = comes (resume_of 0 0) 1 [] ∷ []

-- a session is opened, which gets the number 1
abbrev pub opened : List Event
opened = comes (call_of 0) 1000 open_argument ∷ goes (answer 0) ∷ []

-- an invoke of it with 5 or another number and 7 has come in, and has gone out with its result
abbrev pub invoked : ℕ → List Event
invoked number = comes (call_of 0) 1000 (adds number 7) ∷ []

abbrev pub done : List Event
done = goes (answer 0) ∷ []

-- the same invoke, where it does its six steps one by one
abbrev pub step_by_step : List Event
step_by_step =
    comes (call_of 0) 1 (adds 5 7) ∷ interrupted ++ resumed ++ interrupted ++ resumed ++ interrupted ++ resumed
    ++ interrupted ++ resumed ++ interrupted ++ resumed ++ done

-- of a core with an application of this image
abbrev pub journal_of : Image → List Event → Journaled
journal_of image events = record { boot = boot_with 1 1 1 (app_with image ∷ []); events = events }

-- both beside nothing that is built in
abbrev pub pair_of : Journaled → Journaled → Pair
pair_of one two = record { one = one; two = two; natives = [] }

-- an open and an invoke of the adder
abbrev pub at_once : Journaled
at_once = journal_of add (opened ++ invoked 5 ++ done)

-- the same open on a boot with a key of ones
abbrev pub keyed : Journaled
keyed = record { boot = record (boot_with 1 1 1 (app_with add ∷ [])) { key = replicate 32 1 }; events = opened }

pub record SessionExamples : Type 0 where
  -- the invoke with all its steps at once, and with one at a time
  pub same : IsComparedAs (pair_of at_once (journal_of add (opened ++ step_by_step))) (Session 1) (Same 2)
  -- the own events are the open, its answer, the invoke and its answer: with 6 in place of 5 the invoke is another
  pub another_invoke : IsComparedAs (pair_of at_once (journal_of add (opened ++ invoked 6 ++ done))) (Session 1) (Events 2)
  -- the second list ends before the invoke's answer; the first before the invoke
  pub shorter : IsComparedAs (pair_of at_once (journal_of add (opened ++ invoked 5))) (Session 1) (Events 3)
  pub longer : IsComparedAs (pair_of (journal_of add opened) at_once) (Session 1) (Events 2)
  -- no number 2 was given; in the second none was
  pub absent : IsComparedAs (pair_of at_once at_once) (Session 2) (Absent 1)
  pub absent_in_two : IsComparedAs (pair_of at_once (journal_of add (asks ∷ answered 0xa5d5c51b ∷ []))) (Session 1) (Absent 2)
  -- the application's UUID is the same, but its image isn't
  pub other : IsComparedAs (pair_of at_once (journal_of mark opened)) (Session 1) Other
  -- the application is the same, but the second boot has another key
  pub other_key : IsComparedAs (pair_of at_once keyed) (Session 1) Other
  -- a wrong answer in the second; and in both
  pub illegal_in_two : IsComparedAs (pair_of at_once (journal_of add (asks ∷ answered 0xa5d5c51a ∷ []))) (Session 1) (Illegal 2 1)
  pub illegal_in_both : IsComparedAs
      (pair_of (journal_of add (asks ∷ answered 0xa5d5c51a ∷ [])) (journal_of add (answered 0xa5d5c51b ∷ []))) (Session 1) (Illegal 1 1)

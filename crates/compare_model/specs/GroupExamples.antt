-- What two journals show of the sessions that share an instance, worked out by hand.
use Rattle.std.specs.Prelude.{List, [], ◌∷◌, ◌++◌, replicate}
use Rattle.audit_model.specs.VerdictExamples.{answered, asks}
use Rattle.compare_model.specs.Comparing.{IsComparedAs, Journaled}
use Rattle.compare_model.specs.SessionExamples.{comes, done, goes, invoked, journal_of, opened, pair_of, step_by_step}
use Rattle.compare_model.specs.declared.compared.Compared.TheVariants.{Illegal, Absent, Other, Events, Same}
use Rattle.compare_model.specs.declared.subject.Subject.{Subject}
use Rattle.compare_model.specs.declared.subject.Subject.TheVariants.{Group}
use Rattle.event_journal.specs.declared.event.Event.{Event}
use Rattle.group_model.specs.Examples.{opens_other, other_app, shared}
use Rattle.kernel_model.specs.Worked.{add, answer, app_with, boot_with, call_of, mark, uuid}

-- the group of the application that is called
abbrev pub group : Subject
group = Group uuid

-- two sessions of the adder share its instance, and the first one's invoke is done at once
abbrev pub two_opened : Journaled
two_opened = journal_of (shared add) (opened ++ opened ++ invoked 5 ++ done)

-- the same, where the second wasn't opened
abbrev pub one_opened : Journaled
one_opened = journal_of (shared add) (opened ++ invoked 5 ++ done)

-- a session of another application beside it is opened
abbrev pub other_opened : List Event
other_opened = comes (call_of 0) 1000 opens_other ∷ goes (answer 0) ∷ []

abbrev pub beside_other : List Event → Journaled
beside_other events = record { boot = boot_with 1 1 2 (app_with (shared add) ∷ other_app ∷ []); events = events }

-- a session is opened under a key of ones
abbrev pub keyed : Journaled
keyed = record { boot = record (boot_with 1 1 1 (app_with (shared add) ∷ [])) { key = replicate 32 1 }; events = opened }

pub record GroupExamples : Type 0 where
  -- the invoke with all its steps at once, and with one at a time: two opens and the invoke are replied to
  pub same : IsComparedAs (pair_of two_opened (journal_of (shared add) (opened ++ opened ++ step_by_step))) group (Same 3)
  -- another application's session is opened in between, or isn't
  pub of_others : IsComparedAs (pair_of (beside_other (opened ++ other_opened)) (beside_other opened)) group (Same 1)
  -- each open has two events, and so has the invoke: without the second open, or without all behind the first, the third differs
  pub left_out : IsComparedAs (pair_of two_opened one_opened) group (Events 2)
  pub shorter : IsComparedAs (pair_of two_opened (journal_of (shared add) opened)) group (Events 2)
  -- an application whose sessions have an instance each, and one that isn't there
  pub absent : IsComparedAs (pair_of (journal_of add opened) two_opened) group (Absent 1)
  pub absent_in_two : IsComparedAs (pair_of one_opened (journal_of add opened)) group (Absent 2)
  pub not_there : IsComparedAs (pair_of one_opened one_opened) (Group (replicate 16 0x22)) (Absent 1)
  -- it is there before its first open: nothing has happened to it
  pub nothing : IsComparedAs (pair_of (journal_of (shared add) []) (journal_of (shared add) [])) group (Same 0)
  -- another image under its UUID, and another key
  pub other : IsComparedAs (pair_of one_opened (journal_of (shared mark) opened)) group Other
  pub other_key : IsComparedAs (pair_of one_opened keyed) group Other
  -- a wrong answer in the second
  pub illegal_in_two : IsComparedAs (pair_of one_opened (journal_of (shared add) (asks ∷ answered 0xa5d5c51a ∷ []))) group (Illegal 2 1)

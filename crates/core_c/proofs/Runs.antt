-- From what the top call promises to what a call over memory comes to.
use Rattle.std.proofs.Common.{◌≡◌, ℕ, inl, inr, List, [], Option, Some, None, refl, sym, subst, arith}
use Rattle.client_runner.specs.Client.{client_word}
use Rattle.compare_model.specs.declared.subject.Subject.{Subject}
use Rattle.ports.specs.Port.{Rose}
use Rattle.journal_runner.specs.Auditing.{auditing}
use Rattle.journal_runner.specs.Audits.{Audits}
use Rattle.journal_runner.specs.Compares.{Compares}
use Rattle.journal_runner.specs.Comparing.{comparing}
use Rattle.journal_runner.specs.Recording.{recording}
use Rattle.notify_runner.specs.Run.{notifying}
use Rattle.alone_runner.proofs.Running.{worked-statuses}
use Rattle.alone_runner.specs.Commands.{alone_commands}
use Rattle.alone_runner.specs.Run.{reading, usage_line}
use Rattle.alone_runner.specs.TopCall.{IsAnswered}
use Rattle.word_parts.specs.Keeping.{Keeps}
use Rattle.word_parts.specs.Word.{Word}
use Rattle.word_parts.specs.Call.{Call}
use Rattle.alone_runner.specs.Words.{Say}
use Rattle.alone_runner.specs.declared.command.Command.TheVariants.{Audit, Client, Compare, Notify, Record, Serve, Work}
use Rattle.word_parts.specs.declared.status.Status.{Status}
use Rattle.word_parts.specs.declared.status.Status.TheVariants.{Memory}
use Rattle.native_tas.specs.Program.{program_drivers, program_entries}
use Rattle.core_c.specs.Running.{Drivers, IsRun, Native}

-- no fault is counted
pub quiet : Rose 0 0 → ⊥
quiet rose = grind arith

-- a call over these bytes, whose ports count none
abbrev pub memory_call : List ℕ → Option (List ℕ) → Status → List ℕ → List ℕ → Call
memory_call input left result held output = record {
  result = result;
  told = Some input;
  left = left;
  old = Some held;
  new = Some output;
  source_old = 0;
  source_new = 0;
  sink_old = 0;
  sink_new = 0;
}

-- no port has failed
keeps_quiet : (word : Word) (input : List ℕ) (left : Option (List ℕ)) (result : Status) (old new : Option (List ℕ))
    → Keeps word input left result old new ((Rose 0 0 → ⊥) × (Rose 0 0 → ⊥)) → Keeps word input left result old new (Unit {0})
keeps_quiet word input left result old new k = record {
  ran = k.ran;
  statuses = k.statuses;
  complete = λ content can no. k.complete content can (quiet, quiet);
  refuses = λ can no. k.refuses can (quiet, quiet);
}

audits_quiet : (natives : List Native) (input : List ℕ) (result : Status) (old new : Option (List ℕ))
    → Audits natives input result old new ((Rose 0 0 → ⊥) × (Rose 0 0 → ⊥)) → Audits natives input result old new (Unit {0})
audits_quiet natives input result old new a = record {
  ok = a.ok;
  complete = λ whole alone short no. a.complete whole alone short (quiet, quiet);
}

compares_quiet : (natives : List Native) (subject : Subject) (input : List ℕ) (result : Status) (old new : Option (List ℕ))
    → Compares natives subject input result old new ((Rose 0 0 → ⊥) × (Rose 0 0 → ⊥))
    → Compares natives subject input result old new (Unit {0})
compares_quiet natives subject input result old new c = record {
  ok = c.ok;
  complete = λ one two pair short no. c.complete one two pair short (quiet, quiet);
}

-- where nothing was held before
pub of_clauses : (natives : List Native) (drivers : Drivers) (texts : List (List ℕ)) (input : List ℕ) (left : Option (List ℕ))
    (result : Status) (output : List ℕ)
    → IsAnswered (alone_commands (record { natives = natives; drivers = drivers })) (Say texts) (memory_call input left result [] output)
    → IsRun natives drivers texts input result output
of_clauses natives drivers texts input left result output c = record {
  usage = c.usage;
  other_words = λ nothing. (c.other_words nothing).0;
  serves = λ grammar said. record {
    left = left;
    keeps = keeps_quiet (reading grammar natives) input left result (Some []) (Some output) (c.does (Serve grammar) said).0;
    plays = (c.does (Serve grammar) said).1;
  };
  records = λ said. record {
    left = left;
    keeps = keeps_quiet (recording natives) input left result (Some []) (Some output) (c.does Record said).0;
    records = (c.does Record said).1;
  };
  audits = λ said. record {
    left = left;
    keeps = keeps_quiet (auditing natives) input left result (Some []) (Some output) (c.does Audit said).0;
    audits = audits_quiet natives input result (Some []) (Some output) (c.does Audit said).1;
  };
  compares = λ subject said. record {
    left = left;
    keeps = keeps_quiet (comparing natives subject) input left result (Some []) (Some output) (c.does (Compare subject) said).0;
    compares = compares_quiet natives subject input result (Some []) (Some output) (c.does (Compare subject) said).1;
  };
  notifies = λ said. record {
    left = left;
    keeps = keeps_quiet (notifying natives drivers) input left result (Some []) (Some output) (c.does Notify said).0;
    notifies = (c.does Notify said).1;
  };
  plays_scripts = λ said. record {
    left = left;
    keeps = keeps_quiet (client_word natives) input left result (Some []) (Some output) (c.does Client said).0;
    plays = (c.does Client said).1;
  };
  works = λ seed count said. record {
    worked = (c.does (Work seed count) said).worked;
    statuses = (c.does (Work seed count) said).statuses;
    plays = (c.does (Work seed count) said).plays;
    complete = (c.does (Work seed count) said).complete quiet;
  };
  reads = λ e. quiet (c.read_fault e).1;
  writes = λ e. quiet (c.write_fault e);
}

-- want of memory before anything was put
unread : (word : Word) (input : List ℕ) → Keeps word input None Memory (Some []) (Some []) (Unit {0})
unread word input = record {
  ran = inl (inr refl, refl);
  statuses = record {
    ok = λ e. absurd cc;
    too_long = λ e. absurd cc;
    bad_trace = λ e. absurd cc;
    part = λ e. inl refl;
  };
  complete = λ content can no. inr refl;
  refuses = λ can no. inr refl;
}

unrun_so : (natives : List Native) (drivers : Drivers) (texts : List (List ℕ)) (input : List ℕ) → IsRun natives drivers texts input Memory []
unrun_so natives drivers texts input = record {
  usage = λ e. absurd cc;
  other_words = λ nothing. inr (inr refl, record { part = []; rest = usage_line; cut = refl; put = refl });
  serves = λ grammar said. record {
    left = None;
    keeps = unread (reading grammar natives) input;
    plays = λ traces. record { ok = λ e. absurd cc; too_long = λ e. absurd cc };
  };
  records = λ said. record {
    left = None;
    keeps = unread (recording natives) input;
    records = record { ok = λ e. absurd cc; too_long = λ e. absurd cc };
  };
  audits = λ said. record {
    left = None;
    keeps = unread (auditing natives) input;
    audits = record { ok = λ e. absurd cc; complete = λ whole alone short no. inr refl };
  };
  compares = λ subject said. record {
    left = None;
    keeps = unread (comparing natives subject) input;
    compares = record { ok = λ e. absurd cc; complete = λ one two pair short no. inr refl };
  };
  notifies = λ said. record {
    left = None;
    keeps = unread (notifying natives drivers) input;
    notifies = record { ok = λ e. absurd cc; too_long = λ e. absurd cc };
  };
  plays_scripts = λ said. record {
    left = None;
    keeps = unread (client_word natives) input;
    plays = record { ok = λ e. absurd cc; too_long = λ e. absurd cc };
  };
  works = λ seed count said. record {
    worked = inl (refl, refl);
    statuses = worked-statuses seed count Memory (Some []) (Some []) said.within.1 (inl (refl, refl));
    plays = λ e. absurd cc;
    complete = inr refl;
  };
  reads = λ e. absurd cc;
  writes = λ e. absurd cc;
}

pub unrun : (natives : List Native) (drivers : Drivers) (texts : List (List ℕ)) (input output : List ℕ) → output ≡ []
    → IsRun natives drivers texts input Memory output
unrun natives drivers texts input output empty =
    subst (λ (bytes : List ℕ). IsRun natives drivers texts input Memory bytes) (sym empty) (unrun_so natives drivers texts input)

-- beside just what is built in
pub beside : (natives : List Native) (drivers : Drivers) (texts : List (List ℕ)) (input output : List ℕ) (result : Status)
    → natives ≡ program_entries → drivers ≡ program_drivers → IsRun natives drivers texts input result output
    → IsRun program_entries program_drivers texts input result output
beside natives drivers texts input output result same likewise run =
    subst (λ (them : List Native). IsRun them program_drivers texts input result output) same
    (subst (λ (them : Drivers). IsRun natives them texts input result output) likewise run)

-- with these very words
pub worded : (natives : List Native) (drivers : Drivers) (texts others : List (List ℕ)) (input output : List ℕ) (result : Status)
    → texts ≡ others → IsRun natives drivers texts input result output → IsRun natives drivers others input result output
worded natives drivers texts others input output result same run =
    subst (λ (words : List (List ℕ)). IsRun natives drivers words input result output) same run

-- over these very bytes
pub fed : (natives : List Native) (drivers : Drivers) (texts : List (List ℕ)) (input other output : List ℕ) (result : Status)
    → input ≡ other → IsRun natives drivers texts input result output → IsRun natives drivers texts other result output
fed natives drivers texts input other output result same run =
    subst (λ (bytes : List ℕ). IsRun natives drivers texts bytes result output) same run

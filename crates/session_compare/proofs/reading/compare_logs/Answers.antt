use Rattle.journal_notes.specs.Logs.{events_in}
use Rattle.session_compare.proofs.Logs.{shown_alike, shown_apart, shown_by}
use Rattle.session_compare.proofs.reading.compare_logs.Goals as goal

pub returns-in-Some : goal.returns-in-Some
returns-in-Some g c pair one two log log_too can its other_its compares keys =
    shown_apart pair one two can c.args.app c.args.other log log_too its other_its c.in-Some.told (c.in-Some.ensures pair keys)

pub returns : goal.returns
returns g c pair one two log log_too can its other_its compares keys =
    shown_alike pair one two can c.args.app c.args.other log log_too its other_its (c.in-None.ensures pair keys) c.shown.result
    (shown_by c.args.comparison log log_too c.shown.result compares (c.shown.ensures (events_in log) (events_in log_too) compares.events))
